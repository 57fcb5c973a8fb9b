-- The packet that goes first: one packet more, and where it stands.
use Rattle.std.proofs.Common.{◌≡◌, ℕ, ◌+◌, ◌-◌, ◌<◌, ◌≤◌, true, false, List, [], ◌∷◌, length, drop, refl, sym, ap, ◌∙◌, arith, if◌then◌else◌, Option, Some, None}
use Rattle.std.specs.Prelude.{IfSome, slice_index}
use Rattle.std.proofs.lemmas.List.{drop-drop, length-drop}
use Rattle.flow_packet.specs.Tree.{Tree}
use Rattle.flow_streams.specs.Collation.{goes_before, or_later, first_of, packet_there}

nonempty : (bytes : ℕ) (es : List ℕ) (ts : List Tree) → length es ≡ length ts → 0 < length es
    → first_of bytes es ts ≡ or_later bytes (slice_index es 0) (packet_there ts 0) (drop 1 es) (drop 1 ts) (first_of bytes (drop 1 es) (drop 1 ts))
nonempty bytes [] ts e l = absurd (omega arith)
nonempty bytes (x ∷ es) [] e l = absurd (omega arith)
nonempty bytes (x ∷ es) (t ∷ ts) e l = refl

within-later : (bytes e : ℕ) (t : Tree) (es : List ℕ) (ts : List Tree) (o : Option ℕ) (n : ℕ) → 0 < n → IfSome o (λ place. place + 1 < n) → IfSome (or_later bytes e t es ts o) (λ place. place < n)
within-later bytes e t es ts None n l w = l
within-later bytes e t es ts (Some place) n l w = elim (goes_before bytes (slice_index es place) (packet_there ts place) e t) as (λ b. IfSome (if b then Some (place + 1) else Some 0) (λ place. place < n)) [ true ↦ w | false ↦ l ]

moved : (o : Option ℕ) (P Q : ℕ → Type 0) → ((place : ℕ) → P place → Q place) → IfSome o P → IfSome o Q
moved None P Q f h = h
moved (Some place) P Q f h = f place h

-- the places are counted from one packet before
pub within_before : (o : Option ℕ) (at n : ℕ) → 0 < at → IfSome o (λ place. place < n - (at - 1)) → IfSome o (λ place. at - 1 + place < n)
within_before o at n l h = moved o (λ place. place < n - (at - 1)) (λ place. at - 1 + place < n) (λ place w. omega arith) h

-- The first of the packets from one place earlier is the one there, or else the first behind it.
pub one_before : (bytes : ℕ) (es : List ℕ) (ts : List Tree) (at : ℕ) (o : Option ℕ) → length es ≡ length ts → 0 < at → at ≤ length es → o ≡ first_of bytes (drop at es) (drop at ts)
    → or_later bytes (slice_index (drop (at - 1) es) 0) (packet_there (drop (at - 1) ts) 0) (drop 1 (drop (at - 1) es)) (drop 1 (drop (at - 1) ts)) o ≡ first_of bytes (drop (at - 1) es) (drop (at - 1) ts)
one_before bytes es ts at o e l m is =
    let es' = drop (at - 1) es in
    let ts' = drop (at - 1) ts in
    let one : at - 1 + 1 ≡ at = omega arith in
    let es_is : drop 1 es' ≡ drop at es = drop-drop 1 (at - 1) es ∙ ap (λ (i : ℕ). drop i es) one in
    let ts_is : drop 1 ts' ≡ drop at ts = drop-drop 1 (at - 1) ts ∙ ap (λ (i : ℕ). drop i ts) one in
    let same : o ≡ first_of bytes (drop 1 es') (drop 1 ts') = is ∙ (λ i. first_of bytes (sym es_is i) (sym ts_is i)) in
    ap (or_later bytes (slice_index es' 0) (packet_there ts' 0) (drop 1 es') (drop 1 ts')) same
    ∙ sym (nonempty bytes es' ts' (length-drop (at - 1) es ∙ ap (λ n. n - (at - 1)) e ∙ sym (length-drop (at - 1) ts)) (omega (arith, length-drop (at - 1) es)))

-- The place of the first packet lies among the places.
pub one_within : (bytes : ℕ) (es : List ℕ) (ts : List Tree) (at : ℕ) (o : Option ℕ) (e : ℕ) (t : Tree) (us : List ℕ) (vs : List Tree) → 0 < at → at ≤ length es → IfSome o (λ place. at + place < length es)
    → IfSome (or_later bytes e t us vs o) (λ place. at - 1 + place < length es)
one_within bytes es ts at o e t us vs l m w =
    within_before (or_later bytes e t us vs o) at (length es) l
    (within-later bytes e t us vs o (length es - (at - 1)) (omega arith) (moved o (λ place. at + place < length es) (λ place. place + 1 < length es - (at - 1)) (λ place h. omega arith) w))
