-- Lists of which each one passes, behind those before it.
use Rattle.std.proofs.Common.{◌≡◌, ℕ, zero, suc, Bool, true, false, List, [], ◌∷◌, ◌++◌, take, Some, None, Result, Ok, Err, refl, sym, subst, append_assoc, slice_get}
use Rattle.std.specs.Prelude.{◌&&◌}
use Rattle.std.proofs.lemmas.List.{append-nil}
use Rattle.flow_net.proofs.Ends.{and_true}
use Rattle.flow_flat.specs.Firsts.{AllPass}

-- Each one passes, the first of them behind these.
abbrev pub Each : {X F : Type 0} → (List X → X → Result (Unit {0}) F → Type 0) → List X → List X → Type 0
Each Test before [] = Unit {0}
Each Test before (x ∷ xs) = Test before x (Ok tt) × Each Test (before ++ x ∷ []) xs

each_at : {X F : Type 0} (Test : List X → X → Result (Unit {0}) F → Type 0) (before xs : List X) → Each Test before xs → (k : ℕ) (x : X) → slice_get xs k ≡ Some x → Test (before ++ take k xs) x (Ok tt)
each_at Test before [] each k x is = absurd (let bad : None ≡ Some x = is in cc)
each_at Test before (y ∷ ys) each zero x is =
    let same : y ≡ x = cc is in
    subst (λ z. Test (before ++ []) z (Ok tt)) same (subst (λ l. Test l y (Ok tt)) (sym (append-nil before)) each.0)
each_at Test before (y ∷ ys) each (suc k) x is = subst (λ l. Test l x (Ok tt)) (append_assoc before (y ∷ []) (take k ys)) (each_at Test (before ++ y ∷ []) ys each.1 k x is)

-- Where each one passes, all pass.
pub all_pass : {X F : Type 0} (Test : List X → X → Result (Unit {0}) F → Type 0) (xs : List X) → Each Test [] xs → AllPass Test xs
all_pass Test xs each k x is = each_at Test [] xs each k x is

-- The test passes.
abbrev pub is_ok : {F : Type 0} → Result (Unit {0}) F → Bool
is_ok (Ok u) = true
is_ok (Err fault) = false

-- Each one passes a test that computes, the first of them behind these.
abbrev pub each_ok : {X F : Type 0} → (List X → X → Result (Unit {0}) F) → List X → List X → Bool
each_ok test before [] = true
each_ok test before (x ∷ xs) = is_ok (test before x) && each_ok test (before ++ x ∷ []) xs

ok_is : {F : Type 0} (r : Result (Unit {0}) F) → is_ok r ≡ true → r ≡ Ok tt
ok_is (Ok u) e = refl
ok_is (Err fault) e = absurd cc

each_from : {X F : Type 0} (test : List X → X → Result (Unit {0}) F) (before xs : List X) → each_ok test before xs ≡ true → Each (λ b x outcome. test b x ≡ outcome) before xs
each_from test before [] e = tt
each_from test before (x ∷ xs) e =
    let both = and_true (is_ok (test before x)) (each_ok test (before ++ x ∷ []) xs) e in
    (ok_is (test before x) both.0, each_from test (before ++ x ∷ []) xs both.1)

-- Where each one passes a test that computes, all pass it.
pub all_ok : {X F : Type 0} (test : List X → X → Result (Unit {0}) F) (xs : List X) → each_ok test [] xs ≡ true → AllPass (λ before x outcome. test before x ≡ outcome) xs
all_ok test xs e = all_pass (λ before x outcome. test before x ≡ outcome) xs (each_from test [] xs e)
