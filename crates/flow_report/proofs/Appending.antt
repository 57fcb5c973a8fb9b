-- Lines that are put together piece by piece.
use Rattle.std.proofs.Common.{◌≡◌, ℕ, ◌+◌, ◌<◌, List, [], ◌∷◌, ◌++◌, length, take, get_or, sym, ◌∙◌, ap, append_assoc}
use Rattle.std.specs.List.{flat_map}
use Rattle.std.proofs.lemmas.List.{take_more, flat_map_more}

-- The line of the totals.
pub total-of : (t0 t1 t2 t3 a d1 b d2 c d3 e d4 : List ℕ) → t1 ≡ t0 ++ (a ++ d1 ++ b ++ d2) → t2 ≡ t1 ++ (c ++ d3 ++ e ++ d4) → t3 ≡ t2 ++ 10 ∷ []
    → t3 ≡ t0 ++ (a ++ d1 ++ b ++ d2 ++ c ++ d3 ++ e ++ d4 ++ 10 ∷ [])
total-of t0 t1 t2 t3 a d1 b d2 c d3 e d4 e1 e2 e3 =
    e3 ∙ ap (λ x. x ++ 10 ∷ []) (e2 ∙ ap (λ x. x ++ (c ++ d3 ++ e ++ d4)) e1) ∙ simp append_assoc

-- The line of a connection.
pub connection-of : (t0 t1 t2 t3 t4 t5 a name b d1 c d2 d d3 e d4 : List ℕ) → t1 ≡ t0 ++ (a ++ name) → t2 ≡ t1 ++ (b ++ d1) → t3 ≡ t2 ++ (c ++ d2 ++ d ++ d3)
    → t4 ≡ t3 ++ (e ++ d4) → t5 ≡ t4 ++ 10 ∷ [] → t5 ≡ t0 ++ (a ++ name ++ b ++ d1 ++ c ++ d2 ++ d ++ d3 ++ e ++ d4 ++ 10 ∷ [])
connection-of t0 t1 t2 t3 t4 t5 a name b d1 c d2 d d3 e d4 e1 e2 e3 e4 e5 =
    e5 ∙ ap (λ x. x ++ 10 ∷ []) (e4 ∙ ap (λ x. x ++ (e ++ d4)) (e3 ∙ ap (λ x. x ++ (c ++ d2 ++ d ++ d3)) (e2 ∙ ap (λ x. x ++ (b ++ d1)) e1))) ∙ simp append_assoc

-- One more element of a list, of which each gives a piece.
pub piece-more : {A : Type 0} (f : A → List ℕ) (xs : List A) (i : ℕ) (x : A) (start before after : List ℕ) → i < length xs → x ≡ get_or xs i x
    → before ≡ start ++ flat_map f (take i xs) → after ≡ before ++ f x → after ≡ start ++ flat_map f (take (i + 1) xs)
piece-more {A} f xs i x start before after below there is grown =
    grown ∙ ap (λ l. l ++ f x) is ∙ flat_map_more f start (take i xs) x
    ∙ ap (λ (l : List A). start ++ flat_map f l) (sym (take_more xs i x below ∙ ap (λ (y : A). take i xs ++ y ∷ []) (sym there)))
