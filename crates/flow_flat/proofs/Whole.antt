-- Where a text can be written out, what its flat text comes to it comes to.
use Rattle.std.proofs.Common.{◌≡◌, ℕ, List, [], ◌∷◌, map, take, Ok, Err, refl, ap, sym, subst, ◌∙◌, slice_get}
use Rattle.std.specs.List.{filter_map}
use Rattle.std.specs.Option.{option_map}
use Rattle.std.specs.declared.result.Result.{Result}
use Rattle.std.proofs.lemmas.List.{take-map}
use Rattle.std.proofs.lemmas.Option.{slice_get-map}
use Rattle.flow_net.specs.declared.fault.PlanFault.{PlanFault}
use Rattle.flow_plan.specs.declared.kind.KindSpec.{KindSpec}
use Rattle.flow_plan.specs.Network.{Network}
use Rattle.flow_net.proofs.Steps.{map_some}
use Rattle.flow_parse.specs.declared.value.Statement.{Statement}
use Rattle.flow_parse.specs.declared.value.NetText.{NetText}
use Rattle.flow_flat.specs.declared.fault.ExpandFault.{ExpandFault}
use Rattle.flow_flat.specs.declared.fault.ExpandFault.TheVariants as faults
use Rattle.flow_flat.specs.Firsts.{AllPass, FirstFails}
use Rattle.flow_flat.specs.Faults.{ProcessPasses, StatementPasses, ComesTo}
use Rattle.flow_flat.specs.Faults.HasFault.{of_process, of_statement, of_port, of_sum, of_template}
use Rattle.flow_flat.specs.Texts.{MeaningPasses, all_statements, flat_of, said, CanBeWrittenOut, IsSaid, HasTextFault, TextComesTo}
use Rattle.flow_flat.proofs.Once.{not_both}

-- A fault of the flat text, as one of the text.
abbrev pub as_text : Result Network PlanFault → Result Network ExpandFault
as_text (Ok plan) = Ok plan
as_text (Err fault) = Err (faults.Plan fault)

-- A statement that means itself.
abbrev pub meant_well : Statement → Result Statement ExpandFault
meant_well s = Ok s

said_all : (ss : List Statement) → filter_map said (map meant_well ss) ≡ ss
said_all [] = refl
said_all (s ∷ ss) = ap (λ (l : List Statement). s ∷ l) (said_all ss)

said_taken : (ss : List Statement) (k : ℕ) → filter_map said (take k (map meant_well ss)) ≡ take k ss
said_taken ss k = ap (filter_map said) (take-map meant_well k ss) ∙ said_all (take k ss)

module _ (kinds : List KindSpec) (text : NetText) (ss : List Statement) where
  meaning_passes : AllPass (StatementPasses kinds (flat_of text)) ss → AllPass (MeaningPasses kinds text) (map meant_well ss)
  meaning_passes all k x is =
      let found = map_some meant_well (slice_get ss k) x (sym (slice_get-map meant_well ss k) ∙ is) in
      subst (λ (y : Result Statement ExpandFault). MeaningPasses kinds text (take k (map meant_well ss)) y (Ok tt)) found.2
      (subst (λ (l : List Statement). StatementPasses kinds (flat_of text) l found.0 (Ok tt)) (sym (said_taken ss k)) (all k found.0 found.1))

  meaning_fails : (fault : PlanFault) → FirstFails (StatementPasses kinds (flat_of text)) ss fault → FirstFails (MeaningPasses kinds text) (map meant_well ss) (faults.Plan fault)
  meaning_fails fault first = record {
    place = first.place;
    one = Ok first.one;
    here = slice_get-map meant_well ss first.place ∙ ap (option_map meant_well) first.here;
    fails = subst (λ (l : List Statement). StatementPasses kinds (flat_of text) l first.one (Err fault)) (sym (said_taken ss first.place)) first.fails;
    before = before;
  }
    where
      before : AllPass (MeaningPasses kinds text) (take first.place (map meant_well ss))
      before k x is =
          let cut : take first.place (map meant_well ss) ≡ map meant_well (take first.place ss) = take-map meant_well first.place ss in
          let found = map_some meant_well (slice_get (take first.place ss) k) x (sym (slice_get-map meant_well (take first.place ss) k) ∙ ap (λ (l : List (Result Statement ExpandFault)). slice_get l k) (sym cut) ∙ is) in
          let taken : filter_map said (take k (take first.place (map meant_well ss))) ≡ take k (take first.place ss) =
          ap (λ (l : List (Result Statement ExpandFault)). filter_map said (take k l)) cut ∙ said_taken (take first.place ss) k in
          subst (λ (y : Result Statement ExpandFault). MeaningPasses kinds text (take k (take first.place (map meant_well ss))) y (Ok tt)) found.2
          (subst (λ (l : List Statement). StatementPasses kinds (flat_of text) l found.0 (Ok tt)) (sym taken) (first.before k found.0 found.1))

module _ (kinds : List KindSpec) (text : NetText) (written : CanBeWrittenOut kinds text) (named : AllPass (ProcessPasses kinds) (flat_of text).processes)
    (meant : all_statements text ≡ map meant_well (flat_of text).statements) where
  is_said : AllPass (StatementPasses kinds (flat_of text)) (flat_of text).statements → IsSaid kinds text
  is_said all = record { processes = written; statements = subst (AllPass (MeaningPasses kinds text)) (sym meant) (meaning_passes kinds text (flat_of text).statements all) }

  -- Where each statement means something and the names are those of processes, the text comes to what its flat text comes to.
  pub whole_text : (outcome : Result Network PlanFault) → ComesTo kinds (flat_of text) outcome → TextComesTo kinds text (as_text outcome)
  whole_text (Ok plan) has = record { said = is_said has.statements; ports = has.ports; sum = has.sum; templates = has.templates; is = has.is }
  whole_text (Err fault) (of_process first) = absurd (not_both (ProcessPasses kinds) (flat_of text).processes fault (λ before x a b p q. sym p ∙ q) named first)
  whole_text (Err fault) (of_statement a first) = HasTextFault.of_statement written (subst (λ (l : List (Result Statement ExpandFault)). FirstFails (MeaningPasses kinds text) l (faults.Plan fault)) (sym meant) (meaning_fails kinds text (flat_of text).statements fault first))
  whole_text (Err fault) (of_port a s first) = HasTextFault.of_port (is_said s) fault refl first
  whole_text (Err fault) (of_sum a s ports last) = HasTextFault.of_sum (is_said s) ports fault refl last
  whole_text (Err fault) (of_template a s ports sum template first is) = HasTextFault.of_template (is_said s) ports sum template (ap faults.Plan is) first
