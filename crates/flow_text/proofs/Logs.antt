-- Files of a log, the newest of which gives or takes.
use Rattle.std.proofs.Common.{◌≡◌, ℕ, zero, suc, ◌+◌, Bool, true, false, List, [], ◌∷◌, ◌++◌, length, map, get_or, refl, sym, ◌∙◌, ap, append_assoc, arith}
use Rattle.std.specs.Prelude.{◌||◌}
use Rattle.std.proofs.Math.ListN.{set}
use mathlib.Core.Path.{ap₂}
use mathlib.Core.List.{append-nil}
use Rattle.flow_text.specs.Edge.{Logged, moved, last_moved}
use Rattle.flow_text.specs.Log.{logged}
use Rattle.flow_text.specs.declared.log.Entry.{Entry}

or-again : (x a b : Bool) → ((x || a) || b) ≡ (x || (a || b))
or-again true a b = refl
or-again false a b = refl

-- What is true is so with anything beside it.
pub or-true : (x y : Bool) → x ≡ true → (x || y) ≡ true
or-true true y is = refl
or-true false y is = cc

-- Beside what is false the other decides.
pub or-left : (x y : Bool) → x ≡ false → (x || y) ≡ y
or-left true y is = cc
or-left false y is = refl

or-false : (x : Bool) → (x || false) ≡ x
or-false true = refl
or-false false = refl

moved-again : (n m : List ℕ) (a b : Bool) (file : Logged) → moved m b (moved n a file) ≡ moved (n ++ m) (a || b) file
moved-again n m a b file =
    ap₂ (λ bytes ended. record file { bytes = bytes; ended = ended }) (append_assoc file.bytes n m) (or-again file.ended a b)

-- two moves are one
pub last_moved-again : (n m : List ℕ) (a b : Bool) (files : List Logged) → last_moved m b (last_moved n a files) ≡ last_moved (n ++ m) (a || b) files
last_moved-again n m a b [] = refl
last_moved-again n m a b (file ∷ []) = ap (λ f. f ∷ []) (moved-again n m a b file)
last_moved-again n m a b (file ∷ next ∷ []) = ap (λ rest. file ∷ rest) (last_moved-again n m a b (next ∷ []))
last_moved-again n m a b (file ∷ next ∷ other ∷ rest) = ap (λ rest. file ∷ rest) (last_moved-again n m a b (next ∷ other ∷ rest))

-- no bytes, and no end, change nothing
pub last_moved-nil : (files : List Logged) → last_moved [] false files ≡ files
last_moved-nil [] = refl
last_moved-nil (file ∷ []) = ap₂ (λ bytes ended. record file { bytes = bytes; ended = ended } ∷ []) (append-nil file.bytes) (or-false file.ended)
last_moved-nil (file ∷ next ∷ rest) = ap (λ rest. file ∷ rest) (last_moved-nil (next ∷ rest))

-- behind other files the newest one moves
pub last_moved-push : (n : List ℕ) (e : Bool) (files : List Logged) (file : Logged) → last_moved n e (files ++ file ∷ []) ≡ files ++ moved n e file ∷ []
last_moved-push n e [] file = refl
last_moved-push n e (one ∷ []) file = refl
last_moved-push n e (one ∷ next ∷ rest) file = ap (λ rest. one ∷ rest) (last_moved-push n e (next ∷ rest) file)

-- the entry at the last place is the newest file
pub last-set : (files : List Entry) (at : ℕ) (n : List ℕ) (e : Bool) (d new : Entry) → suc at ≡ length files → d ≡ get_or files at d → logged new ≡ moved n e (logged d)
    → map logged (set files at new) ≡ last_moved n e (map logged files)
last-set [] at n e d new size is same = absurd (omega arith)
last-set (x ∷ []) zero n e d new size is same = ap (λ (l : Logged). l ∷ []) (same ∙ ap (λ (f : Entry). moved n e (logged f)) is)
last-set (x ∷ []) (suc at) n e d new size is same = absurd (omega arith)
last-set (x ∷ y ∷ rest) zero n e d new size is same = absurd (omega arith)
last-set (x ∷ y ∷ rest) (suc at) n e d new size is same = ap (λ (l : List Logged). logged x ∷ l) (last-set (y ∷ rest) at n e d new (omega arith) is same)
