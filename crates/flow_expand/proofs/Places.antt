-- What is found at the places of names.
use Rattle.std.proofs.Common.{◌≡◌, ℕ, ◌+◌, ◌-◌, ◌<◌, arith, Ok, Err, subst, zero, suc, Bool, true, false, cond, List, [], ◌∷◌, ◌++◌, length, take, drop, get_or, Option, Some, None, refl, ap, sym, ◌∙◌, slice_get}
use Rattle.std.specs.Prelude.{is_some, nat_lt, position, ◌||◌}
use Rattle.std.specs.List.{position_or_len, find, list_any}
use Rattle.std.specs.Option.{option_and_then, option_map, option_map_or}
use Rattle.std.specs.Str.{bytes_eq}
use Rattle.std.proofs.lemmas.Bool.{ltb-false}
use Rattle.std.proofs.lemmas.List.{drop_more, take_more as more}
use Rattle.std.proofs.lemmas.List.Folds.{find_at, list_any-append}
use Rattle.std.proofs.lemmas.Option.{slice_get_past, slice_get-get_or}
use Rattle.std.proofs.lemmas.List.Quantifiers.{position-Some}
use Rattle.std.proofs.lemmas.Slice.Eq.{bytes_eq-Decides}
use Rattle.flow_parse.specs.declared.value.NetPart.{NetPart}
use Rattle.flow_parse.specs.declared.value.NetText.{NetText}
use Rattle.flow_parse.specs.declared.value.Statement.{Statement}
use Rattle.flow_flat.specs.Subnets.{subnet_called, subnet_at, within, outer_port, meant}
use Rattle.std.specs.Prelude.{MatchResult}
use Rattle.std.specs.declared.result.Result.{Result}
use denote.Bor.{Bor}
use Rattle.flow_flat.specs.declared.fault.ExpandFault.{ExpandFault}
use Rattle.flow_expand.specs.declared.stop.ExpandStop.{ExpandStop}
use Rattle.flow_expand.specs.declared.stop.ExpandStop.TheVariants.{Fault, NoMemory}
use Rattle.flow_expand.specs.Outcomes.{IfFault}
use Rattle.flow_flat.specs.declared.fault.ExpandFault.TheVariants.{OuterPort}
use Rattle.flow_plan.specs.declared.kind.PortRef.{PortRef}
use Rattle.flow_flat.specs.Texts.{given_again, is_given_by, outer_name}
use Rattle.flow_expand.specs.Ways.{part_at, name_at}
use Rattle.flow_expand.specs.Places.{subnet_place, process_place}

-- What passes first is what stands at its place.
pub find_position : {X : Type 0} (p : X → Bool) (xs : List X) → find p xs ≡ option_and_then (slice_get xs) (position p xs)
find_position {X} p xs = find_at p xs ∙ by (nat_lt (position_or_len p xs) (length xs)) refl where
  by : (b : Bool) → nat_lt (position_or_len p xs) (length xs) ≡ b → slice_get xs (position_or_len p xs) ≡ option_and_then (slice_get xs) (cond b (Some (position_or_len p xs)) None)
  by true is = refl
  by false is = slice_get_past xs (position_or_len p xs) (ltb-false _ _ is)

pub find_none : {X : Type 0} (p : X → Bool) (xs : List X) → position p xs ≡ None → find p xs ≡ None
find_none p xs is = find_position p xs ∙ ap (option_and_then (slice_get xs)) is

pub find_some : {X : Type 0} (p : X → Bool) (xs : List X) (i : ℕ) → position p xs ≡ Some i → find p xs ≡ slice_get xs i
find_some p xs i is = find_position p xs ∙ ap (option_and_then (slice_get xs)) is

module _ (text : NetText) (name : List ℕ) where
  pub called_none : subnet_place text name ≡ None → subnet_called text name ≡ None
  called_none is = ap (option_map (λ (s : List ℕ × NetPart). s.1)) (find_none (λ (s : List ℕ × NetPart). bytes_eq s.0 name) text.subnets is)

  pub called_some : (i : ℕ) (s : List ℕ × NetPart) → subnet_place text name ≡ Some i → slice_get text.subnets i ≡ Some s → subnet_called text name ≡ Some s.1
  called_some i s is at = ap (option_map (λ (s : List ℕ × NetPart). s.1)) (find_some (λ (s : List ℕ × NetPart). bytes_eq s.0 name) text.subnets i is ∙ at)

  pub at_none : (part : NetPart) → process_place part name ≡ None → subnet_at text part name ≡ None
  at_none part is = ap (option_and_then (λ (x : List ℕ × List ℕ). subnet_called text x.1)) (find_none (λ (x : List ℕ × List ℕ). bytes_eq x.0 name) part.processes is)

  pub at_some : (part : NetPart) (i : ℕ) (x : List ℕ × List ℕ) → process_place part name ≡ Some i → slice_get part.processes i ≡ Some x → subnet_at text part name ≡ subnet_called text x.1
  at_some part i x is at = ap (option_and_then (λ (x : List ℕ × List ℕ). subnet_called text x.1)) (find_some (λ (x : List ℕ × List ℕ). bytes_eq x.0 name) part.processes i is ∙ at)

-- Some member passes exactly where a search finds one.
pub any_find : {X : Type 0} (p : X → Bool) (xs : List X) → list_any p xs ≡ is_some (find p xs)
any_find p [] = refl
any_find {X} p (x ∷ xs) = by (p x) (any_find p xs) where
  by : (b : Bool) → list_any p xs ≡ is_some (find p xs) → (b || list_any p xs) ≡ is_some (cond b (Some x) (find p xs))
  by true rest = refl
  by false rest = rest

-- Any of a list, or of one more.
pub any_push : {X : Type 0} (p : X → Bool) (xs : List X) (x : X) → (list_any p xs || p x) ≡ list_any p (xs ++ x ∷ [])
any_push p xs x = ap (λ (b : Bool). list_any p xs || b) (by (p x)) ∙ sym (list_any-append p xs (x ∷ [])) where
  by : (b : Bool) → b ≡ (b || false)
  by true = refl
  by false = refl

-- The list from one element on.
pub cut : {X : Type 0} (xs : List X) (i : ℕ) (x : X) → i < length xs → x ≡ get_or xs i x → drop i xs ≡ x ∷ drop (i + 1) xs
cut {X} xs i x below is = drop_more xs i x below ∙ ap (λ (y : X). y ∷ drop (i + 1) xs) (sym is)

-- The first that gives again, from one statement on.
pub again_here : (before : List Statement) (s : Statement) (ss : List Statement) → list_any (is_given_by s) before ≡ true → given_again before (s ∷ ss) ≡ Some (outer_name s)
again_here before s ss is = ap (λ (b : Bool). cond b (Some (outer_name s)) (given_again (before ++ s ∷ []) ss)) is

-- A port that isn't given by a statement is given again only by one behind it.
pub again_later : (before : List Statement) (s : Statement) (ss : List Statement) → list_any (is_given_by s) before ≡ false → given_again before (s ∷ ss) ≡ given_again (before ++ s ∷ []) ss
again_later before s ss is = ap (λ (b : Bool). cond b (Some (outer_name s)) (given_again (before ++ s ∷ []) ss)) is

-- What is read at the place that was found.
pub called_read : (text : NetText) (name : List ℕ) (items : List (List ℕ × NetPart)) (i : ℕ) (d : List ℕ × NetPart) → items ≡ text.subnets → subnet_place text name ≡ Some i → subnet_called text name ≡ Some (get_or items i d).1
called_read text name items i d same is =
    let there = position-Some (λ (s : List ℕ × NetPart). bytes_eq s.0 name) text.subnets i d is in
    called_some text name i (get_or items i d) is (subst (λ (l : List (List ℕ × NetPart)). slice_get text.subnets i ≡ Some (get_or l i d)) (sym same) (slice_get-get_or text.subnets i d there.0))

-- The subnet of a process that was found is the one that its kind names.
pub at_read : (text : NetText) (part : NetPart) (name : List ℕ) (items : List (List ℕ × List ℕ)) (i : ℕ) (d : List ℕ × List ℕ) → items ≡ part.processes → process_place part name ≡ Some i → subnet_at text part name ≡ subnet_called text (get_or items i d).1
at_read text part name items i d same is =
    let there = position-Some (λ (x : List ℕ × List ℕ). bytes_eq x.0 name) part.processes i d is in
    at_some text name part i (get_or items i d) is (subst (λ (l : List (List ℕ × List ℕ)). slice_get part.processes i ≡ Some (get_or l i d)) (sym same) (slice_get-get_or part.processes i d there.0))

-- What a reference to a process that is a subnet means, by its subnet and by its outer port.
abbrev by_port : NetText → ℕ → List ℕ → NetPart → Bool → List ℕ → PortRef → Option (List ℕ × PortRef) → Result (List ℕ × PortRef) ExpandFault
by_port text n prefix inner input name port o = elim o [
  | None ↦ Err (OuterPort (prefix ++ name) port)
  | Some p ↦ meant text n (within prefix name) inner input p.0 p.1
]

abbrev by_subnet : NetText → ℕ → List ℕ → Bool → List ℕ → PortRef → Option NetPart → Result (List ℕ × PortRef) ExpandFault
by_subnet text n prefix input name port o = elim o [
  | None ↦ Ok (prefix ++ name, port)
  | Some inner ↦ by_port text n prefix inner input name port (outer_port inner input port)
]

meant_by : (text : NetText) (n : ℕ) (prefix : List ℕ) (part : NetPart) (input : Bool) (name : List ℕ) (port : PortRef) → meant text (suc n) prefix part input name port ≡ by_subnet text n prefix input name port (subnet_at text part name)
meant_by text n prefix part input name port = refl

-- A port of a process that is a subnet means what the outer port of the subnet means inside, one level deeper.
pub meant_inside : (text : NetText) (levels : ℕ) (prefix : List ℕ) (part inner : NetPart) (input : Bool) (name : List ℕ) (port : PortRef) (p : List ℕ × PortRef) → 0 < levels → subnet_at text part name ≡ Some inner → outer_port inner input port ≡ Some p
    → meant text levels prefix part input name port ≡ meant text (levels - 1) (within prefix name) inner input p.0 p.1
meant_inside text zero prefix part inner input name port p some at stands = absurd (omega arith)
meant_inside text (suc n) prefix part inner input name port p some at stands =
    let less : n ≡ suc n - 1 = omega arith in
    meant_by text n prefix part input name port ∙ ap (by_subnet text n prefix input name port) at ∙ ap (by_port text n prefix inner input name port) stands
    ∙ ap (λ (m : ℕ). meant text m (within prefix name) inner input p.0 p.1) less

pub meant_nothing : (text : NetText) (levels : ℕ) (prefix : List ℕ) (part inner : NetPart) (input : Bool) (name : List ℕ) (port : PortRef) → 0 < levels → subnet_at text part name ≡ Some inner → outer_port inner input port ≡ None
    → meant text levels prefix part input name port ≡ Err (OuterPort (prefix ++ name) port)
meant_nothing text zero prefix part inner input name port some at stands = absurd (omega arith)
meant_nothing text (suc n) prefix part inner input name port some at stands =
    meant_by text n prefix part input name port ∙ ap (by_subnet text n prefix input name port) at ∙ ap (by_port text n prefix inner input name port) stands

pub meant_plain : (text : NetText) (levels : ℕ) (prefix : List ℕ) (part : NetPart) (input : Bool) (name : List ℕ) (port : PortRef) → subnet_at text part name ≡ None → meant text levels prefix part input name port ≡ Ok (prefix ++ name, port)
meant_plain text zero prefix part input name port at = refl
meant_plain text (suc n) prefix part input name port at = meant_by text n prefix part input name port ∙ ap (by_subnet text n prefix input name port) at

-- What is said of a reference stays where it means the same.
pub means_too : (a b : Result (List ℕ × PortRef) ExpandFault) (r : Result (List ℕ × Bor PortRef) ExpandStop) → a ≡ b → MatchResult r (λ p. b ≡ Ok (p.0, p.1.now)) (λ stop. IfFault stop (λ fault. b ≡ Err fault)) → MatchResult r (λ p. a ≡ Ok (p.0, p.1.now)) (λ stop. IfFault stop (λ fault. a ≡ Err fault))
means_too a b (Ok p) same is = same ∙ is
means_too a b (Err (Fault fault)) same is = same ∙ is
means_too a b (Err NoMemory) same is = tt

-- One member more is taken.
pub take_more : {X : Type 0} (xs : List X) (i : ℕ) (x : X) → i < length xs → x ≡ get_or xs i x → take i xs ++ x ∷ [] ≡ take (i + 1) xs
take_more {X} xs i x below is = ap (λ (y : X). take i xs ++ y ∷ []) is ∙ sym (more xs i x below)

-- Bytes that the program finds equal are equal.
pub bytes_same : (a b : List ℕ) → bytes_eq a b ≡ true → a ≡ b
bytes_same a b is = by (bytes_eq a b) refl is where
  by : (v : Bool) → bytes_eq a b ≡ v → v ≡ true → a ≡ b
  by v same holds = grind (arith, bytes_eq-Decides, same, holds)

-- What stands at the place of a subnet's name.
pub record Found (text : NetText) (name : List ℕ) (s : ℕ) : Type 0 where
  pub below : s < length text.subnets
  pub called : subnet_called text name ≡ Some (part_at text (Some s))
  pub named : name_at text (Some s) ≡ name

-- A subnet's place that was found is its place.
pub found : (text : NetText) (name : List ℕ) (s : ℕ) → subnet_place text name ≡ Some s → Found text name s
found text name s is =
    let d : List ℕ × NetPart = ([], text.main) in
    let there = position-Some (λ (x : List ℕ × NetPart). bytes_eq x.0 name) text.subnets s d is in
    let at : slice_get text.subnets s ≡ Some (get_or text.subnets s d) = slice_get-get_or text.subnets s d there.0 in
    record {
      below = there.0;
      called = called_some text name s (get_or text.subnets s d) is at ∙ ap Some (sym (ap (λ (o : Option (List ℕ × NetPart)). option_map_or (λ (x : List ℕ × NetPart). x.1) o text.main) at));
      named = ap (λ (o : Option (List ℕ × NetPart)). option_map_or (λ (x : List ℕ × NetPart). x.0) o []) at ∙ bytes_same (get_or text.subnets s d).0 name there.1;
    }
