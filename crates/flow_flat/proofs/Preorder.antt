-- The statements of a text stand in the order of its subnet processes; a text without subnets is its own flat text.
use Rattle.std.proofs.Common.{◌≡◌, ℕ, zero, suc, Bool, true, false, List, [], ◌∷◌, ◌++◌, Option, Some, None, Ok, refl, ap, sym, ◌∙◌}
use Rattle.std.specs.Prelude.{codes, is_some, if◌then◌else◌}
use Rattle.std.specs.List.{filter_map, cons_option, find, flat_map}
use Rattle.std.specs.Option.{option_and_then, option_map, option_map_or}
use Rattle.std.specs.List.{AllByRecursion}
use Rattle.std.specs.declared.result.Result.{Result}
use Rattle.std.specs.Str.{bytes_eq}
use Rattle.std.proofs.lemmas.Grind.{flat_map-append}
use Rattle.std.proofs.lemmas.List.{append-nil}
use Rattle.flow_plan.specs.declared.kind.PortRef.{PortRef}
use Rattle.flow_parse.specs.declared.value.Statement.{Statement}
use Rattle.flow_parse.specs.declared.value.Statement.TheVariants.{Connect, Initial, InPort, OutPort}
use Rattle.flow_parse.specs.declared.value.NetPart.{NetPart}
use Rattle.flow_parse.specs.declared.value.NetText.{NetText}
use Rattle.flow_parse.specs.Values.{IsInner}
use Rattle.flow_flat.specs.declared.fault.ExpandFault.{ExpandFault}
use Rattle.flow_flat.specs.Subnets.{subnet_called, subnet_at, within, instances, meant, connect_meant, initial_meant, statement_meant, statements_in}
use Rattle.flow_flat.specs.Laws.{own_statements}
use Rattle.flow_flat.specs.Texts.{all_instances, all_statements, flat_of, plain_process, said}

flat_flat : {X Y Z : Type 0} (f : Y → List Z) (g : X → List Y) (xs : List X) → flat_map f (flat_map g xs) ≡ flat_map (λ x. flat_map f (g x)) xs
flat_flat f g [] = refl
flat_flat f g (x ∷ xs) = flat_map-append f (g x) (flat_map g xs) ∙ ap (λ l. flat_map f (g x) ++ l) (flat_flat f g xs)

flat_same : {X Y : Type 0} (f g : X → List Y) (xs : List X) → ((x : X) → f x ≡ g x) → flat_map f xs ≡ flat_map g xs
flat_same f g [] each = refl
flat_same f g (x ∷ xs) each = ap (λ l. l ++ flat_map f xs) (each x) ∙ ap (λ l. g x ++ l) (flat_same f g xs each)

flat_none : {X Y : Type 0} (f : X → List Y) (xs : List X) → ((x : X) → f x ≡ []) → flat_map f xs ≡ []
flat_none f [] each = refl
flat_none f (x ∷ xs) each = ap (λ l. l ++ flat_map f xs) (each x) ∙ flat_none f xs each

-- A part's own statements come first, and then those of the subnet processes inside it, each in its place.
pub in_order : (text : NetText) (n : ℕ) (prefix : List ℕ) (inside : List (List ℕ)) (part : NetPart)
    → statements_in text (suc n) prefix part ≡ filter_map (statement_meant text prefix part) part.statements ++ flat_map (own_statements text) (instances text n prefix inside part)
in_order text zero prefix inside part = ap (λ (l : List (Result Statement ExpandFault)). filter_map (statement_meant text prefix part) part.statements ++ l)
    (flat_none (λ (x : List ℕ × List ℕ). option_map_or (statements_in text 0 (within prefix x.0)) (subnet_called text x.1) []) part.processes (λ x. none (subnet_called text x.1) (within prefix x.0)))
  where
    none : (o : Option NetPart) (p : List ℕ) → option_map_or (statements_in text 0 p) o [] ≡ []
    none None p = refl
    none (Some inner) p = refl
in_order text (suc n) prefix inside part =
    ap (λ (l : List (Result Statement ExpandFault)). filter_map (statement_meant text prefix part) part.statements ++ l)
    (flat_same (λ (x : List ℕ × List ℕ). option_map_or (statements_in text (suc n) (within prefix x.0)) (subnet_called text x.1) [])
    (λ (x : List ℕ × List ℕ). flat_map (own_statements text) (record { name = prefix ++ x.0; kind = x.1; inside = inside } ∷ option_map_or (instances text n (within prefix x.0) (x.1 ∷ inside)) (subnet_called text x.1) []))
    part.processes (λ x. one x.0 x.1 (subnet_called text x.1) (λ inner. in_order text n (within prefix x.0) (x.1 ∷ inside) inner))
    ∙ sym (flat_flat (own_statements text) (λ (x : List ℕ × List ℕ). record { name = prefix ++ x.0; kind = x.1; inside = inside } ∷ option_map_or (instances text n (within prefix x.0) (x.1 ∷ inside)) (subnet_called text x.1) []) part.processes))
  where
    one : (name kind : List ℕ) (o : Option NetPart)
        → ((inner : NetPart) → statements_in text (suc n) (within prefix name) inner ≡ filter_map (statement_meant text (within prefix name) inner) inner.statements ++ flat_map (own_statements text) (instances text n (within prefix name) (kind ∷ inside) inner))
        → option_map_or (statements_in text (suc n) (within prefix name)) o []
        ≡ option_map_or (λ (part : NetPart). filter_map (statement_meant text ((prefix ++ name) ++ codes ".") part) part.statements) o [] ++ flat_map (own_statements text) (option_map_or (instances text n (within prefix name) (kind ∷ inside)) o [])
    one name kind None rest = refl
    one name kind (Some inner) rest = rest inner

-- All statements of a text are those of its main part and then those of its subnets, in the order in which they are met.
pub all_in_order : (text : NetText) → all_statements text ≡ filter_map (statement_meant text [] text.main) text.main.statements ++ flat_map (own_statements text) (all_instances text)
all_in_order text = in_order text 10 [] [] text.main

module _ (text : NetText) (none : text.subnets ≡ []) where
  no_subnet : (name : List ℕ) → subnet_called text name ≡ None
  no_subnet name = ap (λ (l : List (List ℕ × NetPart)). option_map (λ (s : List ℕ × NetPart). s.1) (find (λ (s : List ℕ × NetPart). bytes_eq s.0 name) l)) none

  not_a_subnet : (name : List ℕ) → subnet_at text text.main name ≡ None
  not_a_subnet name = by (find (λ (x : List ℕ × List ℕ). bytes_eq x.0 name) text.main.processes) where
    by : (o : Option (List ℕ × List ℕ)) → option_and_then (λ (x : List ℕ × List ℕ). subnet_called text x.1) o ≡ None
    by None = refl
    by (Some x) = no_subnet x.1

  processes_own : (ps : List (List ℕ × List ℕ)) → filter_map (plain_process text) (flat_map (λ (x : List ℕ × List ℕ).
      record { name = x.0; kind = x.1; inside = [] } ∷ option_map_or (instances text 9 (within [] x.0) (x.1 ∷ [])) (subnet_called text x.1) []) ps) ≡ ps
  processes_own [] = refl
  processes_own (p ∷ ps) =
      ap (λ (o : Option NetPart). filter_map (plain_process text) (record { name = p.0; kind = p.1; inside = [] } ∷ option_map_or (instances text 9 (within [] p.0) (p.1 ∷ [])) o [] ++ flat_map (λ (x : List ℕ × List ℕ).
      record { name = x.0; kind = x.1; inside = [] } ∷ option_map_or (instances text 9 (within [] x.0) (x.1 ∷ [])) (subnet_called text x.1) []) ps)) (no_subnet p.1)
      ∙ ap (λ (o : Option NetPart). cons_option (let x : Option (List ℕ × List ℕ) = if is_some o then None else Some p in x) (filter_map (plain_process text) (flat_map (λ (x : List ℕ × List ℕ).
      record { name = x.0; kind = x.1; inside = [] } ∷ option_map_or (instances text 9 (within [] x.0) (x.1 ∷ [])) (subnet_called text x.1) []) ps))) (no_subnet p.1)
      ∙ ap (λ (l : List (List ℕ × List ℕ)). p ∷ l) (processes_own ps)

  meant_own : (input : Bool) (name : List ℕ) (port : PortRef) → meant text 10 [] text.main input name port ≡ Ok (name, port)
  meant_own input name port = rw (not_a_subnet name, meant) refl

  statement_own : (s : Statement) → IsInner s → statement_meant text [] text.main s ≡ Some (Ok s)
  statement_own (Connect from out capacity to into) inner =
      ap (λ (r : Result (List ℕ × PortRef) ExpandFault). Some (connect_meant capacity r (meant text 10 [] text.main true to into))) (meant_own false from out)
      ∙ ap (λ (r : Result (List ℕ × PortRef) ExpandFault). Some (connect_meant capacity (Ok (from, out)) r)) (meant_own true to into)
  statement_own (Initial bytes to into) inner = ap (λ (r : Result (List ℕ × PortRef) ExpandFault). Some (initial_meant bytes r)) (meant_own true to into)
  statement_own (InPort outer to into) inner = absurd inner
  statement_own (OutPort from out outer) inner = absurd inner

  statements_own : (ss : List Statement) → AllByRecursion IsInner ss → filter_map said (filter_map (statement_meant text [] text.main) ss) ≡ ss
  statements_own [] all = refl
  statements_own (s ∷ ss) all =
      ap (λ (o : Option (Result Statement ExpandFault)). filter_map said (cons_option o (filter_map (statement_meant text [] text.main) ss))) (statement_own s all.0)
      ∙ ap (λ (l : List Statement). s ∷ l) (statements_own ss all.1)

  nothing_inside : flat_map (λ (x : List ℕ × List ℕ). option_map_or (statements_in text 10 (within [] x.0)) (subnet_called text x.1) []) text.main.processes ≡ []
  nothing_inside = flat_none (λ (x : List ℕ × List ℕ). option_map_or (statements_in text 10 (within [] x.0)) (subnet_called text x.1) []) text.main.processes
      (λ x. ap (λ (o : Option NetPart). option_map_or (statements_in text 10 (within [] x.0)) o []) (no_subnet x.1))

  -- A text without subnets is its own flat text.
  pub own_flat : AllByRecursion IsInner text.main.statements → flat_of text ≡ text.main
  own_flat inner =
      ap (λ (l : List (List ℕ × List ℕ)). let part : NetPart = record { processes = l; statements = filter_map said (all_statements text) } in part) (processes_own text.main.processes)
      ∙ ap (λ (l : List Statement). let part : NetPart = record { processes = text.main.processes; statements = l } in part)
      (ap (λ (l : List (Result Statement ExpandFault)). filter_map said (filter_map (statement_meant text [] text.main) text.main.statements ++ l)) nothing_inside
      ∙ ap (filter_map said) (append-nil (filter_map (statement_meant text [] text.main) text.main.statements)) ∙ statements_own text.main.statements inner)
