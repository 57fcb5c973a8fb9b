-- Steps of naming the processes of a text to a builder.
use Rattle.std.proofs.Common.{◌≡◌, ℕ, ◌+◌, ◌<◌, ◌≤◌, true, false, List, [], ◌∷◌, ◌++◌, length, get_or, drop, Option, Some, None, Result, Ok, Err, sym, ap, ◌∙◌}
use Rattle.std.specs.List.{filter_map, cons_option, flat_map}
use Rattle.std.proofs.lemmas.List.{append-nil, drop_all}
use Rattle.std.proofs.lemmas.List.Concat.{flat_map-append}
use Rattle.std.proofs.lemmas.List.Elements.{filter_map-append}
use Rattle.flow_net.specs.declared.fault.PlanFault.{PlanFault}
use Rattle.flow_net.specs.declared.fault.PlanStop.{PlanStop}
use Rattle.flow_net.specs.declared.fault.PlanStop.TheVariants as plans
use Rattle.flow_net.specs.Drafts.{Draft, Becomes, ◌>>=◌}
use Rattle.flow_net.specs.Calls.{after_process}
use Rattle.flow_flat.specs.declared.fault.ExpandFault.{ExpandFault}
use Rattle.flow_flat.specs.Told.{after_processes}
use Rattle.flow_expand.specs.Outcomes.{stop_of}
use Rattle.std.specs.Prelude.{is_some, if◌then◌else◌}
use Rattle.flow_parse.specs.declared.value.NetPart.{NetPart}
use Rattle.flow_parse.specs.declared.value.NetText.{NetText}
use Rattle.flow_parse.specs.declared.value.Statement.{Statement}
use Rattle.flow_flat.specs.Subnets.{statement_meant}
use Rattle.std.specs.Option.{option_map_or}
use Rattle.std.specs.Prelude.{codes}
use Rattle.flow_expand.specs.Places.{subnet_place}
use Rattle.flow_expand.specs.Tells.{Names, own_process, own_meant}
use Rattle.flow_expand.proofs.Places.{cut, called_none, found}

module _ (xs : List (List ℕ × List ℕ)) (i : ℕ) (start old : Draft) (on : after_processes start xs ≡ after_processes old (drop i xs)) where
  step : (x : List ℕ × List ℕ) → i < length xs → x ≡ get_or xs i x → after_processes start xs ≡ after_process old x.0 x.1 >>= λ next. after_processes next (drop (i + 1) xs)
  step x below is = on ∙ ap (after_processes old) (cut xs i x below is)

  -- One more is named.
  pub names_one : (x : List ℕ × List ℕ) (new : Draft) → i < length xs → x ≡ get_or xs i x → after_process old x.0 x.1 ≡ Ok new → after_processes start xs ≡ after_processes new (drop (i + 1) xs)
  names_one x new below is named = step x below is ∙ ap (λ (r : Result Draft PlanFault). r >>= λ next. after_processes next (drop (i + 1) xs)) named

  -- One is refused.
  pub names_end : (x : List ℕ × List ℕ) (new : Draft) (stop : PlanStop) → i < length xs → x ≡ get_or xs i x → Becomes (after_process old x.0 x.1) (Err stop) old new → Names (after_processes start xs) (Err (stop_of stop)) new
  names_end x new (plans.Fault fault) below is becomes = step x below is ∙ ap (λ (r : Result Draft PlanFault). r >>= λ next. after_processes next (drop (i + 1) xs)) becomes.0
  names_end x new plans.NoMemory below is becomes = tt

  -- All are named.
  pub names_all : length xs ≤ i → after_processes start xs ≡ Ok old
  names_all over = on ∙ ap (after_processes old) (drop_all i xs over)

module _ (text : NetText) (x : List ℕ × List ℕ) where
  -- A process that is a subnet is none of the plan's own.
  none_own : (o : Option ℕ) → subnet_place text x.1 ≡ o → is_some o ≡ true → own_process text x ≡ None
  none_own None is some = absurd cc
  none_own (Some s) is some = ap (λ (o : Option NetPart). let p : Option (List ℕ × List ℕ) = if is_some o then None else Some x in p) (found text x.1 s is).called

  is_own : (o : Option ℕ) → subnet_place text x.1 ≡ o → is_some o ≡ false → own_process text x ≡ Some x
  is_own None is none = ap (λ (o : Option NetPart). let p : Option (List ℕ × List ℕ) = if is_some o then None else Some x in p) (called_none text x.1 is)
  is_own (Some s) is none = absurd cc

  -- One that is no subnet has no statements.
  none_meant : (o : Option ℕ) → subnet_place text x.1 ≡ o → is_some o ≡ false → own_meant text x ≡ []
  none_meant None is none = ap (λ (o : Option NetPart). option_map_or (λ (part : NetPart). filter_map (statement_meant text (x.0 ++ codes ".") part) part.statements) o []) (called_none text x.1 is)
  none_meant (Some s) is none = absurd cc

  own_more : (xs : List (List ℕ × List ℕ)) (o : Option (List ℕ × List ℕ)) → own_process text x ≡ o → filter_map (own_process text) (xs ++ x ∷ []) ≡ filter_map (own_process text) xs ++ cons_option o []
  own_more xs o is = filter_map-append (own_process text) xs (x ∷ []) ∙ ap (λ (p : Option (List ℕ × List ℕ)). filter_map (own_process text) xs ++ cons_option p []) is

  meant_one : (ms : List (Result Statement ExpandFault)) → own_meant text x ≡ ms → (xs : List (List ℕ × List ℕ)) → flat_map (own_meant text) (xs ++ x ∷ []) ≡ flat_map (own_meant text) xs ++ ms
  meant_one ms is xs = flat_map-append (own_meant text) xs (x ∷ []) ∙ ap (λ (l : List (Result Statement ExpandFault)). flat_map (own_meant text) xs ++ l) (append-nil (own_meant text x) ∙ is)

  module _ (plain subnets before : List (List ℕ × List ℕ)) (named : plain ≡ filter_map (own_process text) before) (said : flat_map (own_meant text) subnets ≡ flat_map (own_meant text) before) (o : Option ℕ) (is : subnet_place text x.1 ≡ o) where
    -- One more that is a subnet.
    pub subnet_apart : is_some o ≡ true → (plain ≡ filter_map (own_process text) (before ++ x ∷ [])) × (flat_map (own_meant text) (subnets ++ x ∷ []) ≡ flat_map (own_meant text) (before ++ x ∷ []))
    subnet_apart some = (
      named ∙ sym (own_more before None (none_own o is some) ∙ append-nil (filter_map (own_process text) before)),
      flat_map-append (own_meant text) subnets (x ∷ []) ∙ ap (λ (l : List (Result Statement ExpandFault)). l ++ flat_map (own_meant text) (x ∷ [])) said ∙ sym (flat_map-append (own_meant text) before (x ∷ [])),
    )

    -- One more that is none.
    pub plain_apart : is_some o ≡ false → (plain ++ x ∷ [] ≡ filter_map (own_process text) (before ++ x ∷ [])) × (flat_map (own_meant text) subnets ≡ flat_map (own_meant text) (before ++ x ∷ []))
    plain_apart none = (
      ap (λ (l : List (List ℕ × List ℕ)). l ++ x ∷ []) named ∙ sym (own_more before (Some x) (is_own o is none)),
      said ∙ sym (meant_one [] (none_meant o is none) before ∙ append-nil (flat_map (own_meant text) before)),
    )
