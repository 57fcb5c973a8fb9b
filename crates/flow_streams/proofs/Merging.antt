-- A merge of streams begins with the packet that goes first.
use Rattle.std.proofs.Common.{◌≡◌, ◌≢◌, ℕ, zero, suc, ◌+◌, ◌<◌, ◌≤◌, Bool, true, false, List, [], ◌∷◌, length, refl, sym, ap, ◌∙◌, subst, arith, nat_eq, if◌then◌else◌, Option, Some, None}
use Rattle.std.specs.Prelude.{slice_index}
use Rattle.std.specs.Ordering.{nat_cmp, ordering_then, is_lt, is_gt, ordering_reverse}
use Rattle.std.specs.declared.cmp.Ordering.{Ordering}
use Rattle.std.specs.declared.cmp.Ordering.TheVariants.{Less, Equal, Greater}
use Rattle.std.specs.Cmp.{IsTotalOrder}
use Rattle.std.specs.Cmp.Lexicographic.{slice_cmp}
use Rattle.std.proofs.lemmas.Cmp.{nat_cmp_total, nat_list_cmp_total, on_total, then_total, tied_itself, upto}
use Rattle.std.proofs.lemmas.Bool.Decides.{nat_tests}
use Rattle.flow_packet.specs.Tree.{Tree}
use Rattle.flow_streams.specs.Collation.{key, packet_there, or_later, first_of}
use Rattle.flow_streams.specs.CollateLaws.{first-none}
use Rattle.flow_streams.specs.Collated.{has_less, merged_before, merge, merge_all, listed}

-- the order of packets, each with its element
abbrev pub order : ℕ → ℕ × Tree → ℕ × Tree → Ordering
order bytes p q = ordering_then (slice_cmp nat_cmp (key bytes p.1) (key bytes q.1)) (nat_cmp p.0 q.0)

order_total : (bytes : ℕ) → IsTotalOrder (order bytes)
order_total bytes = then_total (on_total (λ (p : ℕ × Tree). key bytes p.1) nat_list_cmp_total) (on_total (λ (p : ℕ × Tree). p.0) nat_cmp_total)

abbrev pub held_at : List ℕ → List Tree → ℕ → ℕ × Tree
held_at es ts i = (slice_index es i, packet_there ts i)

not_gt : (o : Ordering) → is_lt o ≡ true → is_gt o ≡ false
not_gt Less h = refl
not_gt Equal h = absurd (cc)
not_gt Greater h = absurd (cc)

back : (o : Ordering) → is_lt o ≡ false → is_gt (ordering_reverse o) ≡ false
back Less h = absurd (cc)
back Equal h = refl
back Greater h = refl

itself : (bytes : ℕ) (p : ℕ × Tree) → is_gt (order bytes p p) ≡ false
itself bytes p = ap is_gt (tied_itself (order_total bytes) p)

not_after : (bytes : ℕ) (p q : ℕ × Tree) → is_lt (order bytes q p) ≡ false → is_gt (order bytes p q) ≡ false
not_after bytes p q h = ap is_gt ((order_total bytes).antisymm p q) ∙ back (order bytes q p) h

abbrev LeastAt : ℕ → List ℕ → List Tree → ℕ → Type 0
LeastAt bytes es ts place = (q : ℕ) → q < length es → is_gt (order bytes (held_at es ts place) (held_at es ts q)) ≡ false

least-zero : (bytes e : ℕ) (t : Tree) (es : List ℕ) (ts : List Tree) → ((q : ℕ) → q < length es → is_gt (order bytes (e, t) (held_at es ts q)) ≡ false) → LeastAt bytes (e ∷ es) (t ∷ ts) 0
least-zero bytes e t es ts h zero l = itself bytes (e, t)
least-zero bytes e t es ts h (suc q) l = h q (omega arith)

least-suc : (bytes e : ℕ) (t : Tree) (es : List ℕ) (ts : List Tree) (i : ℕ) → is_gt (order bytes (held_at es ts i) (e, t)) ≡ false → LeastAt bytes es ts i → LeastAt bytes (e ∷ es) (t ∷ ts) (suc i)
least-suc bytes e t es ts i first rest zero l = first
least-suc bytes e t es ts i first rest (suc q) l = rest q (omega arith)

least-later : (bytes e : ℕ) (t : Tree) (es : List ℕ) (ts : List Tree) (i place : ℕ) (b : Bool) → is_lt (order bytes (held_at es ts i) (e, t)) ≡ b → (if b then Some (i + 1) else Some 0) ≡ Some place → LeastAt bytes es ts i → LeastAt bytes (e ∷ es) (t ∷ ts) place
least-later bytes e t es ts i place true is h rest =
    let same : i + 1 ≡ place = cc in
    let at : suc i ≡ place = omega arith in
    subst (LeastAt bytes (e ∷ es) (t ∷ ts)) at (least-suc bytes e t es ts i (not_gt (order bytes (held_at es ts i) (e, t)) is) rest)
least-later bytes e t es ts i place false is h rest =
    let same : 0 ≡ place = cc in
    subst (LeastAt bytes (e ∷ es) (t ∷ ts)) same (least-zero bytes e t es ts (λ q l. upto (order_total bytes) (e, t) (held_at es ts i) (held_at es ts q) (not_after bytes (e, t) (held_at es ts i) is) (rest q l)))

least-or : (bytes e : ℕ) (t : Tree) (es : List ℕ) (ts : List Tree) (o : Option ℕ) (place : ℕ) → or_later bytes e t es ts o ≡ Some place → (o ≡ None → es ≡ []) → ((i : ℕ) → o ≡ Some i → LeastAt bytes es ts i) → LeastAt bytes (e ∷ es) (t ∷ ts) place
least-or bytes e t es ts None place h none rest =
    let z : Some 0 ≡ Some place = h in
    let same : 0 ≡ place = cc in
    let empty = ap length (none refl) in
    subst (LeastAt bytes (e ∷ es) (t ∷ ts)) same (least-zero bytes e t es ts (λ q l. absurd (omega arith)))
least-or bytes e t es ts (Some i) place h none rest = least-later bytes e t es ts i place (is_lt (order bytes (held_at es ts i) (e, t))) refl h (rest i refl)

-- no packet goes before the one that goes first
pub first-least : (bytes : ℕ) (es : List ℕ) (ts : List Tree) (place : ℕ) → length es ≡ length ts → first_of bytes es ts ≡ Some place → (q : ℕ) → q < length es → is_gt (order bytes (held_at es ts place) (held_at es ts q)) ≡ false
first-least bytes [] ts place e h = λ q l. absurd (omega arith)
first-least bytes (x ∷ es) [] place e h = absurd (omega arith)
first-least bytes (x ∷ es) (t ∷ ts) place e h =
    let less : length es ≡ length ts = omega arith in
    least-or bytes x t es ts (first_of bytes es ts) place h (λ n. first-none bytes es ts less n) (λ i is. first-least bytes es ts i less is)

-- what holds of the first packet of each stream holds of the first packet of their merge
head-before : (bytes : ℕ) (P : Tree → Type 0) (x : Tree) (rest : List Tree → List Tree) (M : List Tree) → P x → ((z : Tree) (zs : List Tree) → M ≡ z ∷ zs → P z) → (y : Tree) (ys : List Tree) → merged_before bytes x rest M ≡ y ∷ ys → P y
head-before bytes P x rest [] px pm y ys h = let e : x ≡ y = cc in subst P e px
head-before bytes P x rest (z ∷ zs) px pm y ys h =
    elim (has_less bytes z x) as (λ b. (if b then z ∷ merged_before bytes x rest zs else x ∷ rest (z ∷ zs)) ≡ y ∷ ys → P y) [
      | true ↦ (λ (h : z ∷ merged_before bytes x rest zs ≡ y ∷ ys). let e : z ≡ y = cc in subst P e (pm z zs refl))
      | false ↦ (λ (h : x ∷ rest (z ∷ zs) ≡ y ∷ ys). let e : x ≡ y = cc in subst P e px)
    ] h

head-merge : (bytes : ℕ) (P : Tree → Type 0) (s M : List Tree) → ((u : Tree) (us : List Tree) → s ≡ u ∷ us → P u) → ((z : Tree) (zs : List Tree) → M ≡ z ∷ zs → P z) → (y : Tree) (ys : List Tree) → merge bytes s M ≡ y ∷ ys → P y
head-merge bytes P [] M ps pm y ys h = pm y ys h
head-merge bytes P (u ∷ us) M ps pm y ys h = head-before bytes P u (merge bytes us) M (ps u us refl) pm y ys h

heads : (bytes : ℕ) (P : Tree → Type 0) (F : ℕ → List Tree) (n k : ℕ) → ((f : ℕ) → k ≤ f → f < k + n → (u : Tree) (us : List Tree) → F f ≡ u ∷ us → P u)
    → (y : Tree) (ys : List Tree) → merge_all bytes (listed k n F) ≡ y ∷ ys → P y
heads bytes P F zero k p y ys h = absurd (cc)
heads bytes P F (suc n) k p y ys h = head-merge bytes P (F k) (merge_all bytes (listed (k + 1) n F)) (λ u us e. p k (omega arith) (omega arith) u us e) (λ z zs e. heads bytes P F n (k + 1) (λ f l m u us e. p f (omega arith) (omega arith) u us e) z zs e) y ys h

-- streams that are the same merge to the same
pub listed-same : (F G : ℕ → List Tree) (n k : ℕ) → ((f : ℕ) → k ≤ f → f < k + n → F f ≡ G f) → listed k n F ≡ listed k n G
listed-same F G zero k e = refl
listed-same F G (suc n) k e = λ i. e k (omega arith) (omega arith) i ∷ listed-same F G n (k + 1) (λ f l m. e f (omega arith) (omega arith)) i

-- streams without packets
pub merge-none : (bytes : ℕ) (F : ℕ → List Tree) (n k : ℕ) → ((f : ℕ) → k ≤ f → f < k + n → F f ≡ []) → merge_all bytes (listed k n F) ≡ []
merge-none bytes F zero k e = refl
merge-none bytes F (suc n) k e = ap (λ (s : List Tree). merge bytes s (merge_all bytes (listed (k + 1) n F))) (e k (omega arith) (omega arith)) ∙ merge-none bytes F n (k + 1) (λ f l m. e f (omega arith) (omega arith))

first-here : (bytes : ℕ) (t : Tree) (ts M : List Tree) → ((y : Tree) (ys : List Tree) → M ≡ y ∷ ys → has_less bytes y t ≡ false) → merge bytes (t ∷ ts) M ≡ t ∷ merge bytes ts M
first-here bytes t ts [] none = refl
first-here bytes t ts (y ∷ ys) none = let f = none y ys refl in rw f refl

first-there : (bytes : ℕ) (t : Tree) (s M : List Tree) → ((u : Tree) (us : List Tree) → s ≡ u ∷ us → has_less bytes t u ≡ true) → merge bytes s (t ∷ M) ≡ t ∷ merge bytes s M
first-there bytes t [] M less = refl
first-there bytes t (u ∷ us) M less = let f = less u us refl in rw f refl

-- the packet of input i goes first, where those of the inputs before it have greater keys, and those of the inputs after it no lesser ones
pub merge-first : (bytes : ℕ) (F G : ℕ → List Tree) (i : ℕ) (t : Tree) (ts : List Tree) → F i ≡ t ∷ ts → G i ≡ ts → ((f : ℕ) → f ≢ i → F f ≡ G f) → (n k : ℕ) → k ≤ i → i < k + n
    → ((f : ℕ) → f < i → (u : Tree) (us : List Tree) → F f ≡ u ∷ us → has_less bytes t u ≡ true) → ((f : ℕ) → i < f → f < k + n → (u : Tree) (us : List Tree) → F f ≡ u ∷ us → has_less bytes u t ≡ false)
    → merge_all bytes (listed k n F) ≡ t ∷ merge_all bytes (listed k n G)
merge-first bytes F G i t ts here gone others zero k l m below above = absurd (omega arith)
merge-first bytes F G i t ts here gone others (suc n) k l m below above = merge-at (nat_eq k i) refl (λ less. merge-first bytes F G i t ts here gone others n (k + 1) less (omega arith) below (λ f a b. above f a (omega arith)))
  where
    merge-at : (b : Bool) → nat_eq k i ≡ b → (k + 1 ≤ i → merge_all bytes (listed (k + 1) n F) ≡ t ∷ merge_all bytes (listed (k + 1) n G))
        → merge bytes (F k) (merge_all bytes (listed (k + 1) n F)) ≡ t ∷ merge bytes (G k) (merge_all bytes (listed (k + 1) n G))
    merge-at true e rec =
        let same : k ≡ i = grind (arith, nat_tests) in
        let rest : listed (k + 1) n F ≡ listed (k + 1) n G = listed-same F G n (k + 1) (λ f l m. others f (λ e. omega arith)) in
        ap (λ (s : List Tree). merge bytes s (merge_all bytes (listed (k + 1) n F))) (ap F same ∙ here)
        ∙ first-here bytes t ts (merge_all bytes (listed (k + 1) n F)) (heads bytes (λ u. has_less bytes u t ≡ false) F n (k + 1) (λ f a b u us e. above f (omega arith) (omega arith) u us e))
        ∙ (λ j. t ∷ merge bytes ((sym gone ∙ ap G (sym same)) j) (merge_all bytes (rest j)))
    merge-at false e rec =
        let other : k ≢ i = grind (arith, nat_tests) in
        let less : k + 1 ≤ i = omega arith in
        ap (merge bytes (F k)) (rec less) ∙ first-there bytes t (F k) (merge_all bytes (listed (k + 1) n G)) (λ u us e. below k (omega arith) u us e)
        ∙ ap (λ (s : List Tree). t ∷ merge bytes s (merge_all bytes (listed (k + 1) n G))) (others k other)
