-- The packets that are held, by the inputs that they came from.
use Rattle.std.proofs.Common.{◌≡◌, ◌≢◌, ℕ, zero, suc, ◌<◌, ◌≤◌, Bool, true, false, List, [], ◌∷◌, ◌++◌, length, refl, sym, ap, subst, arith, nat_eq, ◌==◌, if◌then◌else◌, Some, inl, inr, ◌⊎◌}
use Rattle.std.specs.Prelude.{slice_index, remove}
use Rattle.std.proofs.lemmas.Bool.Decides.{nat_tests}
use Rattle.flow_packet.specs.Tree.{Tree, id_of, content, all_ids}
use Rattle.flow_packet.specs.Ids.{times}
use Rattle.flow_packet.specs.Hands.{packet_at, without}
use Rattle.flow_component.proofs.Roots.{same_id, other_id}
use Rattle.flow_component.proofs.Several.{times-own, times-split, times-root}
use Rattle.flow_streams.specs.Collation.{packet_there}
use Rattle.flow_streams.specs.CollateLaws.{IsAtRoot-there}

-- An element has no packet waiting.
abbrev pub NotIn : ℕ → List ℕ → Type 0
NotIn f [] = Unit {0}
NotIn f (e ∷ es) = (e ≢ f) × NotIn f es

-- No element has two packets waiting.
abbrev pub Distinct : List ℕ → Type 0
Distinct [] = Unit {0}
Distinct (e ∷ es) = NotIn e es × Distinct es

-- The content of what is held from input f.
abbrev pub seated : List ℕ → List Tree → ℕ → List Tree
seated [] ts f = []
seated (e ∷ es) [] f = []
seated (e ∷ es) (t ∷ ts) f = if e == f then content t ∷ [] else seated es ts f

-- An element that isn't there isn't there after another one was added.
pub NotIn-push : (f : ℕ) (es : List ℕ) (e : ℕ) → NotIn f es → e ≢ f → NotIn f (es ++ e ∷ [])
NotIn-push f [] e n o = (o, tt)
NotIn-push f (x ∷ es) e n o = (n.0, NotIn-push f es e n.1 o)

-- An element that isn't there after one was added is another one, and wasn't there before.
pub NotIn-pushed : (f : ℕ) (es : List ℕ) (e : ℕ) → NotIn f (es ++ e ∷ []) → NotIn f es × (e ≢ f)
NotIn-pushed f [] e n = (tt, n.0)
NotIn-pushed f (x ∷ es) e n = let r = NotIn-pushed f es e n.1 in ((n.0, r.0), r.1)

-- One more element that wasn't there keeps them distinct.
pub Distinct-push : (es : List ℕ) (e : ℕ) → Distinct es → NotIn e es → Distinct (es ++ e ∷ [])
Distinct-push [] e d n = (tt, tt)
Distinct-push (x ∷ es) e d n = (NotIn-push x es e d.0 (λ h. n.0 (sym h)), Distinct-push es e d.1 n.1)

-- An element that isn't there isn't there after one was removed.
pub NotIn-remove : (f : ℕ) (es : List ℕ) (i : ℕ) → NotIn f es → NotIn f (remove es i)
NotIn-remove f [] zero n = tt
NotIn-remove f [] (suc i) n = tt
NotIn-remove f (x ∷ es) zero n = n.1
NotIn-remove f (x ∷ es) (suc i) n = (n.0, NotIn-remove f es i n.1)

-- Elements stay distinct when one is removed.
pub Distinct-remove : (es : List ℕ) (i : ℕ) → Distinct es → Distinct (remove es i)
Distinct-remove [] zero d = tt
Distinct-remove [] (suc i) d = tt
Distinct-remove (x ∷ es) zero d = d.1
Distinct-remove (x ∷ es) (suc i) d = (NotIn-remove x es i d.0, Distinct-remove es i d.1)

-- An element that isn't there differs from each that is.
pub NotIn-at : (f : ℕ) (es : List ℕ) (i : ℕ) → i < length es → NotIn f es → slice_index es i ≢ f
NotIn-at f [] i l n = absurd (omega arith)
NotIn-at f (x ∷ es) zero l n = n.0
NotIn-at f (x ∷ es) (suc i) l n = NotIn-at f es i (omega arith) n.1

-- what is taken out isn't there any more
pub NotIn-taken : (es : List ℕ) (i : ℕ) → i < length es → Distinct es → NotIn (slice_index es i) (remove es i)
NotIn-taken [] i l d = absurd (omega arith)
NotIn-taken (x ∷ es) zero l d = d.0
NotIn-taken (x ∷ es) (suc i) l d = (λ h. NotIn-at x es i (omega arith) d.0 (sym h), NotIn-taken es i (omega arith) d.1)

-- what is left after it is taken out was there
pub NotIn-left : (f : ℕ) (es : List ℕ) (i : ℕ) → i < length es → NotIn f (remove es i) → slice_index es i ≢ f → NotIn f es
NotIn-left f [] i l n o = absurd (omega arith)
NotIn-left f (x ∷ es) zero l n o = (o, n)
NotIn-left f (x ∷ es) (suc i) l n o = (n.0, NotIn-left f es i (omega arith) n.1 o)

-- An element that isn't there has no packet waiting.
pub seated-none : (es : List ℕ) (ts : List Tree) (f : ℕ) → NotIn f es → seated es ts f ≡ []
seated-none [] ts f n = refl
seated-none (e ∷ es) [] f n = refl
seated-none (e ∷ es) (t ∷ ts) f n = let o : nat_eq e f ≡ false = other_id e f n.0 in rw o (seated-none es ts f n.1)

-- One more packet at another element leaves this one as it was.
pub seated-push : (es : List ℕ) (ts : List Tree) (e : ℕ) (t : Tree) (f : ℕ) → length es ≡ length ts → e ≢ f → seated (es ++ e ∷ []) (ts ++ t ∷ []) f ≡ seated es ts f
seated-push [] [] e t f l o = let z : nat_eq e f ≡ false = other_id e f o in rw z refl
seated-push [] (u ∷ ts) e t f l o = absurd (omega arith)
seated-push (x ∷ es) [] e t f l o = absurd (omega arith)
seated-push (x ∷ es) (u ∷ ts) e t f l o = ap (λ (s : List Tree). if x == f then content u ∷ [] else s) (seated-push es ts e t f (omega arith) o)

-- A packet that comes to an element that had none waits there.
pub seated-pushed : (es : List ℕ) (ts : List Tree) (e : ℕ) (t : Tree) → length es ≡ length ts → NotIn e es → seated (es ++ e ∷ []) (ts ++ t ∷ []) e ≡ content t ∷ []
seated-pushed [] [] e t l n = let z = same_id e in rw z refl
seated-pushed [] (u ∷ ts) e t l n = absurd (omega arith)
seated-pushed (x ∷ es) [] e t l n = absurd (omega arith)
seated-pushed (x ∷ es) (u ∷ ts) e t l n = let z : nat_eq x e ≡ false = other_id x e n.0 in rw z (seated-pushed es ts e t (omega arith) n.1)

-- At each element that is there its packet waits.
pub seated-at : (es : List ℕ) (ts : List Tree) (i : ℕ) → length es ≡ length ts → i < length es → Distinct es → seated es ts (slice_index es i) ≡ content (packet_there ts i) ∷ []
seated-at [] ts i e l d = absurd (omega arith)
seated-at (x ∷ es) [] i e l d = absurd (omega arith)
seated-at (x ∷ es) (t ∷ ts) zero e l d = let z = same_id x in rw z refl
seated-at (x ∷ es) (t ∷ ts) (suc i) e l d =
    let z : nat_eq x (slice_index es i) ≡ false = other_id x (slice_index es i) (λ h. NotIn-at x es i (omega arith) d.0 (sym h)) in
    rw z (seated-at es ts i (omega arith) (omega arith) d.1)

-- Taking the packet of another element leaves this one as it was.
pub seated-remove : (es : List ℕ) (ts : List Tree) (i f : ℕ) → length es ≡ length ts → i < length es → slice_index es i ≢ f → seated (remove es i) (remove ts i) f ≡ seated es ts f
seated-remove [] ts i f e l o = absurd (omega arith)
seated-remove (x ∷ es) [] i f e l o = absurd (omega arith)
seated-remove (x ∷ es) (t ∷ ts) zero f e l o = let z : nat_eq x f ≡ false = other_id x f o in rw z refl
seated-remove (x ∷ es) (t ∷ ts) (suc i) f e l o = ap (λ (s : List Tree). if x == f then content t ∷ [] else s) (seated-remove es ts i f (omega arith) (omega arith) o)

-- Where the element of a waiting packet stands.
pub record Place (es : List ℕ) (f : ℕ) : Type 0 where
  pub at : ℕ
  pub within : at < length es
  pub is : slice_index es at ≡ f

-- an input is one of them or not
pub found_in : (es : List ℕ) (f : ℕ) → NotIn f es ⊎ Place es f
found_in [] f = inl tt
found_in (e ∷ es) f = by (nat_eq e f) refl (found_in es f)
  where
    by : (b : Bool) → nat_eq e f ≡ b → NotIn f es ⊎ Place es f → NotIn f (e ∷ es) ⊎ Place (e ∷ es) f
    by true z r = inr (record { at = 0; within = omega arith; is = grind (arith, nat_tests) })
    by false z (inl n) = inl (λ h. let o : e ≢ f = grind (arith, nat_tests) in o h, n)
    by false z (inr p) = inr (record { at = suc p.at; within = (let l = p.within in omega arith); is = p.is })

-- a packet of hands in which no id stands twice is found by its id, and is the one that goes
tail_once : (t : Tree) (ts : List Tree) → ((id : ℕ) → times id (all_ids (t ∷ ts)) ≤ 1) → (id : ℕ) → times id (all_ids ts) ≤ 1
tail_once t ts once id = let o = once id in omega (arith, times-split id t ts)

others-id : (t : Tree) (ts : List Tree) (i : ℕ) → i < length ts → ((id : ℕ) → times id (all_ids (t ∷ ts)) ≤ 1) → nat_eq (id_of t) (id_of (packet_there ts i)) ≡ false
others-id t ts i l once =
    let id = id_of (packet_there ts i) in
    let there = times-root ts id (IsAtRoot-there ts i l) in
    other_id (id_of t) id (λ e.
    let here : 0 < times id (all_ids (t ∷ [])) = subst (λ (k : ℕ). 0 < times k (all_ids (t ∷ []))) e (times-own t) in
    let o = once id in
    omega (arith, times-split id t ts))

-- Taking out the packet at a place is removing that place, where no id stands twice.
pub without-there : (ts : List Tree) (i : ℕ) → i < length ts → ((id : ℕ) → times id (all_ids ts) ≤ 1) → without ts (id_of (packet_there ts i)) ≡ remove ts i
without-there [] i l once = absurd (omega arith)
without-there (t ∷ ts) zero l once = let s = same_id (id_of t) in rw s refl
without-there (t ∷ ts) (suc i) l once =
    let m : i < length ts = omega arith in
    let o = others-id t ts i m once in
    rw o (ap (λ (us : List Tree). t ∷ us) (without-there ts i m (tail_once t ts once)))

-- The packet at a place is found by its id, where no id stands twice.
pub found-there : (ts : List Tree) (i : ℕ) → i < length ts → ((id : ℕ) → times id (all_ids ts) ≤ 1) → packet_at ts (id_of (packet_there ts i)) ≡ Some (packet_there ts i)
found-there [] i l once = absurd (omega arith)
found-there (t ∷ ts) zero l once = let s = same_id (id_of t) in rw s refl
found-there (t ∷ ts) (suc i) l once =
    let m : i < length ts = omega arith in
    let o = others-id t ts i m once in
    rw o (found-there ts i m (tail_once t ts once))
