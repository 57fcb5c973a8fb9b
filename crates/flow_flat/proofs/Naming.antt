-- Processes one after the other: a draft refuses the first that the text refuses, for the same, and agrees with the text after all of them.
use Rattle.flow_limits.specs.declared.TheConstants.{PROCESS_LIMIT}
use Rattle.std.proofs.Common.{◌≡◌, ℕ, ◌+◌, Bool, true, false, List, [], ◌∷◌, ◌++◌, map, length, take, zero, suc, Option, Some, None, Ok, Err, refl, ap, sym, subst, ◌∙◌, ◌⊎◌, inl, inr, slice_get, append_assoc, arith}
use Rattle.std.specs.Prelude.{nat_le, not, if◌then◌else◌, is_some}
use Rattle.std.specs.List.{find}
use Rattle.std.specs.Option.{ok_or}
use Rattle.std.specs.declared.result.Result.{Result}
use Rattle.std.specs.Str.{bytes_eq}
use Rattle.std.proofs.lemmas.List.{append-nil, map-append, length-map}
use Rattle.std.proofs.lemmas.Slice.Eq.{bytes_eq-Decides}
use Rattle.flow_net.specs.declared.draft.DraftProcess.{DraftProcess}
use Rattle.flow_net.specs.declared.draft.DraftPort.{DraftPort}
use Rattle.flow_net.specs.declared.fault.Many.TheVariants as many
use Rattle.flow_net.specs.declared.fault.PlanFault.{PlanFault}
use Rattle.flow_net.specs.declared.fault.PlanFault.TheVariants.{SameName, UnknownKind, TooMany}
use Rattle.flow_plan.specs.declared.kind.KindSpec.{KindSpec}
use Rattle.flow_plan.specs.declared.kind.PortSpec.{PortSpec}
use Rattle.flow_net.specs.Drafts.{Draft, ◌>>=◌, refused_if, process_named}
use Rattle.flow_net.specs.Calls.{kind_named, kind_for, fresh_ports, begun_as, with_process, after_process}
use Rattle.flow_net.specs.Kinds.{all_inputs, all_outputs}
use Rattle.flow_net.specs.Over.{carries}
use Rattle.flow_net.proofs.Ends.{bind_ok}
use Rattle.flow_net.proofs.SoundBegins.{IsSound-begun}
use Rattle.flow_net.proofs.Wiring.{slice_get-push_cases}
use Rattle.flow_flat.specs.Names.{PortAt, side_from, ports_of_kind, ports_from, text_ports, process_called}
use Rattle.flow_flat.specs.Faults.{process_test}
use Rattle.flow_flat.specs.Told.{after_processes}
use Rattle.flow_flat.proofs.Lookups.{bare, called, process_is}
use Rattle.flow_flat.proofs.Agrees.{Agrees}

find_passes : {X : Type 0} (p : X → Bool) (xs : List X) (x : X) → find p xs ≡ Some x → p x ≡ true
find_passes p [] x is = absurd (cc)
find_passes {X} p (y ∷ ys) x is = by (p y) refl is (λ rest. find_passes p ys x rest) where
  by : (b : Bool) → p y ≡ b → (if b then Some y else find p ys) ≡ Some x → (find p ys ≡ Some x → p x ≡ true) → p x ≡ true
  by true test is more = let same : y ≡ x = cc in ap p (sym same) ∙ test
  by false test is more = more is

bare_inputs : (n place : ℕ) (specs : List PortSpec) → map bare (fresh_ports n true place specs) ≡ side_from n true place specs
bare_inputs n place [] = refl
bare_inputs n place (spec ∷ specs) = ap (λ (l : List PortAt). record { process = n; input = true; place = place; spec = spec } ∷ l) (bare_inputs n (place + 1) specs)

bare_outputs : (n place : ℕ) (specs : List PortSpec) → map bare (fresh_ports n false place specs) ≡ side_from n false place (map carries specs)
bare_outputs n place [] = refl
bare_outputs n place (spec ∷ specs) = ap (λ (l : List PortAt). record { process = n; input = false; place = place; spec = carries spec } ∷ l) (bare_outputs n (place + 1) specs)

ports_push : (kinds : List KindSpec) (p : ℕ) (xs : List (List ℕ × List ℕ)) (x : List ℕ × List ℕ) → ports_from kinds p (xs ++ x ∷ []) ≡ ports_from kinds p xs ++ ports_of_kind (p + length xs) (kind_named kinds x.1)
ports_push kinds p [] x =
    let n : p ≡ p + length {A = List ℕ × List ℕ} [] = omega arith in
    append-nil (ports_of_kind p (kind_named kinds x.1)) ∙ ap (λ (m : ℕ). ports_of_kind m (kind_named kinds x.1)) n
ports_push kinds p (y ∷ ys) x =
    let n : (p + 1) + length ys ≡ p + length (y ∷ ys) = omega arith in
    ap (λ (l : List PortAt). ports_of_kind p (kind_named kinds y.1) ++ l) (ports_push kinds (p + 1) ys x ∙ ap (λ (m : ℕ). ports_from kinds (p + 1) ys ++ ports_of_kind m (kind_named kinds x.1)) n)
    ∙ sym (append_assoc (ports_of_kind p (kind_named kinds y.1)) (ports_from kinds (p + 1) ys) (ports_of_kind (p + length (y ∷ ys)) (kind_named kinds x.1)))

-- A draft agrees with these processes.
abbrev pub Names : List KindSpec → List (List ℕ × List ℕ) → Draft → Type 0
Names kinds before draft = Agrees kinds before (text_ports kinds before) [] [] draft

module _ (kinds : List KindSpec) where
  module _ (before : List (List ℕ × List ℕ)) (draft : Draft) (names : Names kinds before draft) (x : List ℕ × List ℕ) where
    count : length draft.processes ≡ length before
    count = sym (length-map draft.processes called) ∙ ap length names.names

    abbrev chosen : (a : Bool) (o : Option KindSpec) (b : Bool) → Result KindSpec PlanFault
    chosen a o b = refused_if a (SameName x.0) >>= λ new. ok_or o (UnknownKind x.0 x.1) >>= λ spec. refused_if b (TooMany many.Processes) >>= λ room. Ok spec

    abbrev tested : (a : Bool) (o : Option KindSpec) (b : Bool) → Result (Unit {0}) PlanFault
    tested a o b = refused_if a (SameName x.0) >>= λ new. refused_if (not (is_some o)) (UnknownKind x.0 x.1) >>= λ known. refused_if b (TooMany many.Processes)

    test_is : tested (is_some (process_named draft.processes x.0)) (kind_named draft.kinds x.1) (nat_le PROCESS_LIMIT (length draft.processes)) ≡ process_test kinds before x
    test_is =
        ap (λ (o : Option ℕ). tested (is_some o) (kind_named draft.kinds x.1) (nat_le PROCESS_LIMIT (length draft.processes))) (process_is draft.processes x.0 ∙ ap (λ (l : List (List ℕ × List ℕ)). process_called l x.0) names.names)
        ∙ ap (λ (l : List KindSpec). tested (is_some (process_called before x.0)) (kind_named l x.1) (nat_le PROCESS_LIMIT (length draft.processes))) names.kinds
        ∙ ap (λ (n : ℕ). tested (is_some (process_called before x.0)) (kind_named kinds x.1) (nat_le PROCESS_LIMIT n)) count

    chosen_ok : (a : Bool) (o : Option KindSpec) (b : Bool) (spec : KindSpec) → chosen a o b ≡ Ok spec → (tested a o b ≡ Ok tt) × (o ≡ Some spec)
    chosen_ok true o b spec is = absurd (cc)
    chosen_ok false None b spec is = absurd (cc)
    chosen_ok false (Some s) true spec is = absurd (cc)
    chosen_ok false (Some s) false spec is = let same : s ≡ spec = cc in (refl, ap Some same)

    chosen_err : (a : Bool) (o : Option KindSpec) (b : Bool) (fault : PlanFault) → chosen a o b ≡ Err fault → tested a o b ≡ Err fault
    chosen_err true o b fault is = let same : SameName x.0 ≡ fault = cc in ap Err same
    chosen_err false None b fault is = let same : UnknownKind x.0 x.1 ≡ fault = cc in ap Err same
    chosen_err false (Some s) true fault is = let same : TooMany many.Processes ≡ fault = cc in ap Err same
    chosen_err false (Some s) false fault is = absurd (cc)

    names_begun : (spec : KindSpec) → kind_for draft.kinds draft.processes x.0 x.1 ≡ Ok spec → kind_named draft.kinds x.1 ≡ Some spec → Names kinds (before ++ x ∷ []) (with_process draft x.0 spec)
    names_begun spec ok found = record {
      sound = IsSound-begun draft x.0 x.1 spec names.sound ok;
      kinds = names.kinds;
      names = map-append called draft.processes (begun_as n x.0 spec.name ∷ []) ∙ ap (λ (l : List (List ℕ × List ℕ)). l ++ (x.0, spec.name) ∷ []) names.names ∙ ap (λ (k : List ℕ). before ++ (x.0, k) ∷ []) kind_is;
      ports = ports;
      links = names.links;
      texts = texts;
      there = λ k t is. absurd (cc);
    }
      where
        n : ℕ
        n = length draft.processes

        kind_is : spec.name ≡ x.1
        kind_is = by (bytes_eq spec.name x.1) refl (find_passes (λ (kind : KindSpec). bytes_eq kind.name x.1) draft.kinds spec found) where
          by : (b : Bool) → bytes_eq spec.name x.1 ≡ b → b ≡ true → spec.name ≡ x.1
          by b is true_is = grind (arith, bytes_eq-Decides, is, true_is)

        fresh : List DraftPort
        fresh = fresh_ports n true 0 (all_inputs spec.inputs) ++ fresh_ports n false 0 (all_outputs spec.outputs)

        fresh_is : map bare fresh ≡ ports_of_kind n (Some spec)
        fresh_is = map-append bare (fresh_ports n true 0 (all_inputs spec.inputs)) (fresh_ports n false 0 (all_outputs spec.outputs))
            ∙ ap (λ (l : List PortAt). l ++ map bare (fresh_ports n false 0 (all_outputs spec.outputs))) (bare_inputs n 0 (all_inputs spec.inputs))
            ∙ ap (λ (l : List PortAt). side_from n true 0 (all_inputs spec.inputs) ++ l) (bare_outputs n 0 (all_outputs spec.outputs))

        ports : map bare (draft.ports ++ fresh) ≡ text_ports kinds (before ++ x ∷ [])
        ports = map-append bare draft.ports fresh ∙ ap (λ (l : List PortAt). l ++ map bare fresh) names.ports
            ∙ ap (λ (l : List PortAt). text_ports kinds before ++ l) (fresh_is ∙ ap (ports_of_kind n) (sym found) ∙ ap (λ (l : List KindSpec). ports_of_kind n (kind_named l x.1)) names.kinds ∙ ap (λ (m : ℕ). ports_of_kind m (kind_named kinds x.1)) (count ∙ zero_add (length before)))
            ∙ sym (ports_push kinds 0 before x)
          where
            zero_add : (m : ℕ) → m ≡ 0 + m
            zero_add m = omega arith

        texts : (p : ℕ) (begun : DraftProcess) → slice_get (draft.processes ++ begun_as n x.0 spec.name ∷ []) p ≡ Some begun → begun.texts ≡ []
        texts p begun here = by (slice_get-push_cases draft.processes (begun_as n x.0 spec.name) begun p here) where
          by : (slice_get draft.processes p ≡ Some begun) ⊎ ((p ≡ length draft.processes) × (begun_as n x.0 spec.name ≡ begun)) → begun.texts ≡ []
          by (inl old) = names.texts p begun old
          by (inr new) = ap (λ (b : DraftProcess). b.texts) (sym new.1)

    pub name_steps : (next : Draft) → after_process draft x.0 x.1 ≡ Ok next → (process_test kinds before x ≡ Ok tt) × Names kinds (before ++ x ∷ []) next
    name_steps next is =
        let spec = bind_ok (kind_for draft.kinds draft.processes x.0 x.1) (λ spec. Ok (with_process draft x.0 spec)) next is in
        let made : with_process draft x.0 spec.0 ≡ next = cc (spec.2) in
        let ok = chosen_ok (is_some (process_named draft.processes x.0)) (kind_named draft.kinds x.1) (nat_le PROCESS_LIMIT (length draft.processes)) spec.0 spec.1 in
        (sym test_is ∙ ok.0, subst (Names kinds (before ++ x ∷ [])) made (names_begun spec.0 spec.1 ok.1))

    pub name_stops : (fault : PlanFault) → after_process draft x.0 x.1 ≡ Err fault → process_test kinds before x ≡ Err fault
    name_stops fault is = sym test_is ∙ chosen_err (is_some (process_named draft.processes x.0)) (kind_named draft.kinds x.1) (nat_le PROCESS_LIMIT (length draft.processes)) fault (by (kind_for draft.kinds draft.processes x.0 x.1) is)
      where
        by : (r : Result KindSpec PlanFault) → (r >>= λ spec. Ok (with_process draft x.0 spec)) ≡ Err fault → r ≡ Err fault
        by (Ok spec) is = absurd (cc)
        by (Err f) is = let same : f ≡ fault = cc in ap Err same

  -- Each process may follow those before it, after these.
  abbrev pub AllNamed : List (List ℕ × List ℕ) → List (List ℕ × List ℕ) → Type 0
  AllNamed before xs = (k : ℕ) (x : List ℕ × List ℕ) → slice_get xs k ≡ Some x → process_test kinds (before ++ take k xs) x ≡ Ok tt

  -- What comes of processes, after these.
  abbrev pub Named : List (List ℕ × List ℕ) → List (List ℕ × List ℕ) → Result Draft PlanFault → Type 0
  Named before xs (Ok next) = AllNamed before xs × Names kinds (before ++ xs) next
  Named before xs (Err fault) = (k : ℕ) × (x : List ℕ × List ℕ) × (slice_get xs k ≡ Some x) × (process_test kinds (before ++ take k xs) x ≡ Err fault) × AllNamed before (take k xs)

  all_named : (before : List (List ℕ × List ℕ)) (x : List ℕ × List ℕ) (xs : List (List ℕ × List ℕ)) → process_test kinds before x ≡ Ok tt → AllNamed (before ++ x ∷ []) xs → AllNamed before (x ∷ xs)
  all_named before x xs first rest zero y is =
      let same : x ≡ y = cc in
      ap (λ (l : List (List ℕ × List ℕ)). process_test kinds l y) (append-nil before) ∙ ap (process_test kinds before) (sym same) ∙ first
  all_named before x xs first rest (suc k) y is = ap (λ (l : List (List ℕ × List ℕ)). process_test kinds l y) (sym (append_assoc before (x ∷ []) (take k xs))) ∙ rest k y is

  pub name_all : (xs before : List (List ℕ × List ℕ)) (draft : Draft) (outcome : Result Draft PlanFault) → Names kinds before draft → after_processes draft xs ≡ outcome → Named before xs outcome
  name_all [] before draft outcome names is = by outcome is where
    by : (outcome : Result Draft PlanFault) → Ok draft ≡ outcome → Named before [] outcome
    by (Ok next) is =
        let same : draft ≡ next = cc in
        ((λ k x there. absurd (cc)), subst (Names kinds (before ++ [])) same (subst (λ (l : List (List ℕ × List ℕ)). Names kinds l draft) (sym (append-nil before)) names))
    by (Err fault) is = absurd (cc)
  name_all (x ∷ xs) before draft outcome names is = by (after_process draft x.0 x.1) refl is (λ next n there. name_all xs (before ++ x ∷ []) next outcome n there) where
    push : (outcome : Result Draft PlanFault) → process_test kinds before x ≡ Ok tt → Named (before ++ x ∷ []) xs outcome → Named before (x ∷ xs) outcome
    push (Ok next) first rest = (all_named before x xs first rest.0, subst (λ (l : List (List ℕ × List ℕ)). Names kinds l next) (append_assoc before (x ∷ []) xs) rest.1)
    push (Err fault) first rest = (suc rest.0, rest.1, rest.2, ap (λ (l : List (List ℕ × List ℕ)). process_test kinds l rest.1) (sym (append_assoc before (x ∷ []) (take rest.0 xs))) ∙ rest.3, all_named before x (take rest.0 xs) first rest.4)

    stop : (fault : PlanFault) (outcome : Result Draft PlanFault) → process_test kinds before x ≡ Err fault → Err fault ≡ outcome → Named before (x ∷ xs) outcome
    stop fault (Ok next) fails is = absurd (cc)
    stop fault (Err other) fails is = (0, x, refl, ap (λ (l : List (List ℕ × List ℕ)). process_test kinds l x) (append-nil before) ∙ fails ∙ cc, λ k y there. absurd (cc))

    by : (r : Result Draft PlanFault) → after_process draft x.0 x.1 ≡ r → (r >>= λ next. after_processes next xs) ≡ outcome
        → ((next : Draft) → Names kinds (before ++ x ∷ []) next → after_processes next xs ≡ outcome → Named (before ++ x ∷ []) xs outcome) → Named before (x ∷ xs) outcome
    by (Ok next) one rest more = let stepped = name_steps before draft names x next one in push outcome stepped.0 (more next stepped.1 rest)
    by (Err fault) one rest more = stop fault outcome (name_stops before draft names x fault one) rest
