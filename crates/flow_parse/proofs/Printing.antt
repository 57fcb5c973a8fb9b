-- Steps of spelling a value.
use Rattle.std.proofs.Common.{◌≡◌, ℕ, ◌+◌, ◌<◌, List, [], ◌∷◌, ◌++◌, length, get_or, take, sym, ap, ◌∙◌, append_assoc}
use Rattle.std.specs.List.{flat_map}
use Rattle.std.proofs.lemmas.List.{take_more, append-nil}
use Rattle.std.specs.Prelude.{codes, Some}
use Rattle.std.specs.Fmt.{decimal}
use Rattle.flow_plan.specs.declared.kind.PortRef.{PortRef}
use Rattle.flow_parse.specs.declared.value.Statement.TheVariants.{Connect}
use Rattle.flow_parse.specs.Canonical.{port_piece, statement_line}
use Rattle.flow_parse.specs.Spelling.{doubled, spelling}
use Rattle.flow_parse.proofs.Cutting.{doubled-append}

flat_map_push : {X : Type 0} (f : X → List ℕ) (xs : List X) (x : X) → flat_map f (xs ++ x ∷ []) ≡ flat_map f xs ++ f x
flat_map_push f [] x = append-nil (f x)
flat_map_push f (y ∷ ys) x = ap (λ (l : List ℕ). f y ++ l) (flat_map_push f ys x) ∙ sym (append_assoc (f y) (flat_map f ys) (f x))

-- One more element is spelled behind those before it.
pub one_more : {X : Type 0} (f : X → List ℕ) (xs : List X) (i : ℕ) (x : X) (start old new : List ℕ) → i < length xs → x ≡ get_or xs i x → old ≡ start ++ flat_map f (take i xs) → new ≡ old ++ f x
    → new ≡ start ++ flat_map f (take (i + 1) xs)
one_more {X} f xs i x start old new below is before after =
    let more : take (i + 1) xs ≡ take i xs ++ x ∷ [] = take_more xs i x below ∙ ap (λ (y : X). take i xs ++ y ∷ []) (sym is) in
    after ∙ ap (λ (l : List ℕ). l ++ f x) before ∙ append_assoc start (flat_map f (take i xs)) (f x) ∙ ap (λ (l : List ℕ). start ++ l) (sym (flat_map_push f (take i xs) x)) ∙ ap (λ (l : List X). start ++ flat_map f l) (sym more)

-- One more byte of a text, doubled where it is a quote.
pub one_more_byte : (text : List ℕ) (i : ℕ) (start old new : List ℕ) → i < length text → old ≡ start ++ doubled (take i text) → new ≡ old ++ doubled (get_or text i 0 ∷ [])
    → new ≡ start ++ doubled (take (i + 1) text)
one_more_byte text i start old new below before after =
    let b = get_or text i 0 in
    after ∙ ap (λ (l : List ℕ). l ++ doubled (b ∷ [])) before ∙ append_assoc start (doubled (take i text)) (doubled (b ∷ [])) ∙ ap (λ (l : List ℕ). start ++ l) (sym (doubled-append (take i text) (b ∷ []))) ∙ ap (λ (l : List ℕ). start ++ doubled l) (sym (take_more text i 0 below))

nested : (start f s a d b r t e : List ℕ) → start ++ f ++ s ++ a ++ d ++ b ++ r ++ t ++ e ≡ start ++ (f ++ (s ++ (a ++ (d ++ (b ++ (r ++ (t ++ e)))))))
nested start f s a d b r t e = simp append_assoc

trimmed : (start f s d r to : List ℕ) → start ++ ((f ++ []) ++ 32 ∷ (s ++ 32 ∷ 45 ∷ 62 ∷ 32 ∷ 40 ∷ ((d ++ 41 ∷ []) ++ 32 ∷ (r ++ 32 ∷ (to ++ [])))) ++ 10 ∷ [])
    ≡ start ++ (f ++ 32 ∷ (s ++ 32 ∷ 45 ∷ 62 ∷ 32 ∷ 40 ∷ (d ++ 41 ∷ 32 ∷ (r ++ 32 ∷ (to ++ 10 ∷ [])))))
trimmed start f s d r to = simp (append_assoc, append-nil)

joined : (start f s d r to : List ℕ) → start ++ f ++ 32 ∷ s ++ 32 ∷ 45 ∷ 62 ∷ 32 ∷ [] ++ 40 ∷ d ++ 41 ∷ 32 ∷ [] ++ r ++ 32 ∷ to ++ 10 ∷ []
    ≡ start ++ ((f ++ []) ++ 32 ∷ (s ++ 32 ∷ 45 ∷ 62 ∷ 32 ∷ 40 ∷ ((d ++ 41 ∷ []) ++ 32 ∷ (r ++ 32 ∷ (to ++ [])))) ++ 10 ∷ [])
joined start f s d r to = nested start f (32 ∷ s) (32 ∷ 45 ∷ 62 ∷ 32 ∷ []) (40 ∷ d) (41 ∷ 32 ∷ []) r (32 ∷ to) (10 ∷ []) ∙ sym (trimmed start f s d r to)

-- A connection's line with a capacity: a sender, a capacity and a receiver.
pub with_capacity : (start from : List ℕ) (port : PortRef) (n : ℕ) (to : List ℕ) (into : PortRef) (a b new : List ℕ) → a ≡ start ++ from ++ 32 ∷ flat_map spelling (port_piece port) ++ codes " -> "
    → b ≡ a ++ 40 ∷ decimal n ++ 41 ∷ 32 ∷ [] → new ≡ b ++ flat_map spelling (port_piece into) ++ 32 ∷ to ++ 10 ∷ [] → new ≡ start ++ statement_line (Connect from port (Some n) to into)
with_capacity start from port n to into a b new sender capacity receiver = rw (receiver, capacity, sender) (joined start from (flat_map spelling (port_piece port)) (decimal n) (flat_map spelling (port_piece into)) to)
