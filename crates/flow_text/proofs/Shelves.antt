-- Calls of the shelf and the sink in memory.
use Rattle.std.proofs.Common.{◌≡◌, ℕ, zero, suc, ◌+◌, ◌<◌, ◌≤◌, ◌-◌, Bool, true, false, IsTrue, Contains, List, ◌++◌, length, take, drop, Some, refl, sym, ◌∙◌, ap, subst, arith, min}
use Rattle.std.proofs.Math.Seq.{take-append_seam}
use Rattle.std.proofs.lemmas.List.{take-append-drop, drop-drop, length-take-le, length-drop}
use mathlib.Core.Path.{ap₂}
use Rattle.flow_text.specs.Edge.{after_write, appended_to, last_moved}
use Rattle.flow_text.specs.Folder.{Folded, held, taken_of}
use Rattle.flow_text.specs.Mem.{Shelved, outside_of}

-- a number that a test found in a list
pub listed : (b : Bool) (xs ys : List ℕ) (n m : ℕ) → (IsTrue b → Contains xs n) → b ≡ true → xs ≡ ys → n ≡ m → Contains ys m
listed true xs ys n m h e same_list same = subst (λ (l : List ℕ). Contains l m) same_list (subst (λ k. Contains xs k) same (h refl))
listed false xs ys n m h e same_list same = cc

-- a piece that isn't empty and of which nothing can be taken finds no room
pub stuck : (b : Bool) (len n piece left : ℕ) → (IsTrue b → (0 < len) × (n ≡ 0)) → b ≡ true → n ≡ min (min len piece) left → 1 ≤ piece
    → (0 < len) × (left ≡ 0)
stuck true len n piece left h e is some = let p = h refl in (p.0, omega (arith, p.1))
stuck false len n piece left h e is some = cc

-- of a piece that isn't stuck something is taken
pub unstuck : (b : Bool) (len n : ℕ) → ((0 < len) × (n ≡ 0) → IsTrue b) → b ≡ false → 0 < len → 1 ≤ n
unstuck b len zero h e some = let bad : b ≡ true = h (some, refl) in cc
unstuck b len (suc n) h e some = omega arith

-- what a write to the created file does to the outside
pub outside-write : (old : Shelved) (f : Folded) (n : ℕ) (bytes : List ℕ) → f ≡ record { files = f.files; created = old.created; room = old.room }
    → held f.files ≡ appended_to old.created bytes (held old.files) → taken_of old.created (held f.files) ≡ taken_of old.created (held old.files) ++ bytes
    → outside_of (record old { files = f.files; created = f.created; room = f.room; writes = n; created_files = last_moved bytes false old.created_files }) ≡ after_write (outside_of old) bytes
outside-write old f n bytes state grown taken =
    ap (λ (g : Folded). outside_of (record old { files = g.files; created = g.created; room = g.room; writes = n; created_files = last_moved bytes false old.created_files })) state
    ∙ ap₂ (λ t files. record (outside_of old) { taken = Some t; files = Some files; created = last_moved bytes false old.created_files }) taken grown

-- what a read gave, and what is left behind it
pub read-part : (l buf new : List ℕ) (at n : ℕ) → n ≤ length l - at → at ≤ length l → new ≡ take n (drop at l)
    → drop at l ≡ take n (new ++ drop n buf) ++ drop (at + n) l
read-part l buf new at n fits within is =
    let size : length new ≡ n = ap length is ∙ length-take-le n (drop at l) (omega (arith, length-drop at l)) in
    let front : take n (new ++ drop n buf) ≡ new = subst (λ (k : ℕ). take k (new ++ drop n buf) ≡ new) size (take-append_seam new (drop n buf)) in
    sym (take-append-drop n (drop at l))
    ∙ ap (λ xs. xs ++ drop n (drop at l)) (sym (front ∙ is))
    ∙ ap (λ ys. take n (new ++ drop n buf) ++ ys) (drop-drop n at l)
