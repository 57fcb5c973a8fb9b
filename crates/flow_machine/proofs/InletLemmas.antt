-- What stands at the inputs of a body is what stands at those of its process.
use Rattle.std.proofs.Common.{◌≡◌, ℕ, ◌+◌, ◌<◌, ◌≤◌, List, [], ◌∷◌, map, length, drop, drop-cons, get_or, add-one, suc, zero, arith, refl, ap, sym, ◌∙◌}
use Rattle.std.specs.Prelude.{Bool, true, false, not, ◌||◌, ◌&&◌}
use Rattle.std.specs.List.{list_any, list_all}
use Rattle.flow_model.specs.States.{Input}
use Rattle.flow_model.specs.Events.{is_connected}
use Rattle.flow_machine.specs.declared.inlet.Inlet.{Inlet}
use Rattle.flow_machine.specs.declared.inlet.Inlet.TheVariants as inlets
use Rattle.flow_machine.specs.Inlets.{input_shown, is_text}

-- An input is a text exactly where it is no connection.
pub texts-shown : (xs : List Inlet) → map is_text xs ≡ map (λ (input : Input). not (is_connected input)) (map input_shown xs)
texts-shown [] = refl
texts-shown (inlets.Connection c ∷ xs) = ap (λ (bs : List Bool). false ∷ bs) (texts-shown xs)
texts-shown (inlets.Text text ∷ xs) = ap (λ (bs : List Bool). true ∷ bs) (texts-shown xs)

drop-here : {A : Type 0} (xs : List A) (i : ℕ) (x : A) → i < length xs → x ≡ get_or xs i x → drop i xs ≡ x ∷ drop (i + 1) xs
drop-here {A} xs i x within is = drop-cons xs i x within ∙ ap (λ (y : A). y ∷ drop (suc i) xs) (sym is) ∙ ap (λ n. x ∷ drop n xs) (sym (add-one i))

drop-over : {A : Type 0} (xs : List A) (i : ℕ) → length xs ≤ i → drop i xs ≡ []
drop-over [] zero over = refl
drop-over [] (suc i) over = refl
drop-over (x ∷ xs) zero over = absurd (omega (arith, over))
drop-over (x ∷ xs) (suc i) over = drop-over xs i (omega (arith, over))

-- some element from place i on passes a test: the one at i, or one after it
pub any-step : {A B : Type 0} (p : B → Bool) (f : A → B) (xs : List A) (i : ℕ) (x : A) → i < length xs → x ≡ get_or xs i x → list_any p (map f (drop i xs)) ≡ (p (f x) || list_any p (map f (drop (i + 1) xs)))
any-step p f xs i x within is = ap (λ ys. list_any p (map f ys)) (drop-here xs i x within is)

-- Behind the end of a list no member passes a test.
pub any-over : {A B : Type 0} (p : B → Bool) (f : A → B) (xs : List A) (i : ℕ) → length xs ≤ i → list_any p (map f (drop i xs)) ≡ false
any-over p f xs i over = ap (λ ys. list_any p (map f ys)) (drop-over xs i over)

-- All members from a place on pass a test where the one there does and all behind it.
pub all-step : {A B : Type 0} (p : B → Bool) (f : A → B) (xs : List A) (i : ℕ) (x : A) → i < length xs → x ≡ get_or xs i x → list_all p (map f (drop i xs)) ≡ (p (f x) && list_all p (map f (drop (i + 1) xs)))
all-step p f xs i x within is = ap (λ ys. list_all p (map f ys)) (drop-here xs i x within is)

-- Behind the end of a list all members pass a test.
pub all-over : {A B : Type 0} (p : B → Bool) (f : A → B) (xs : List A) (i : ℕ) → length xs ≤ i → list_all p (map f (drop i xs)) ≡ true
all-over p f xs i over = ap (λ ys. list_all p (map f ys)) (drop-over xs i over)

-- the same with the element read in another way
pub any-next : {A B : Type 0} (p : B → Bool) (f : A → B) (xs : List A) (i : ℕ) (d : A) → i < length xs → p (f (get_or xs i d)) ≡ false → list_any p (map f (drop i xs)) ≡ list_any p (map f (drop (i + 1) xs))
any-next {A} p f xs i d within fails = ap (λ (ys : List A). list_any p (map f ys)) (drop-cons xs i d within ∙ ap (λ n. get_or xs i d ∷ drop n xs) (sym (add-one i))) ∙ ap (λ (b : Bool). b || list_any p (map f (drop (i + 1) xs))) fails

pub any-here : {A B : Type 0} (p : B → Bool) (f : A → B) (xs : List A) (i : ℕ) (d : A) → i < length xs → p (f (get_or xs i d)) ≡ true → list_any p (map f (drop i xs)) ≡ true
any-here {A} p f xs i d within passes = ap (λ (ys : List A). list_any p (map f ys)) (drop-cons xs i d within) ∙ ap (λ (b : Bool). b || list_any p (map f (drop (suc i) xs))) passes
