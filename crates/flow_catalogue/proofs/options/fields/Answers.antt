use Rattle.std.proofs.Common.{◌≡◌, ◌∙◌, ◌++◌, ◌∷◌, [], List, ℕ, map, sym, ap, subst, arith, length, append_assoc, rules}
use Rattle.std.specs.List.{All, slice_split}
use Rattle.std.proofs.lemmas.List.{length-map, length_push}
use Rattle.std.proofs.lemmas.List.Elements.{All-head, All-tail}
use Rattle.flow_text.specs.Text.{number_of}
use Rattle.flow_plan.specs.Texts.{IsNumberWithin}
use Rattle.flow_net.proofs.Spaces.{ends}
use Rattle.flow_catalogue.specs.Processes.{fields_of}
use Rattle.flow_catalogue.proofs.options.fields.Goals as goal

pub number-requires : goal.number-requires
number-requires c = All-head (IsNumberWithin 1 255) c.in-Some.field.now (slice_split ends c.in-Some.after.now) (subst (All (IsNumberWithin 1 255)) c.in-Some.ensures.first c.parts.invariant.0)

pub parts-preserved : goal.parts-preserved
parts-preserved c =
    let field = c.in-Some.field.now in
    let after = c.in-Some.after.now in
    let fields = c.parts.lengths.items in
    let items : c.push.new.self.items ≡ fields ++ number_of field ∷ [] = search rules in
    let rest : fields_of c.parts.rest.now ≡ number_of field ∷ fields_of after = ap (λ (l : List (List ℕ)). map number_of l) c.in-Some.ensures.first in (
      All-tail (IsNumberWithin 1 255) field (slice_split ends after) (subst (All (IsNumberWithin 1 255)) c.in-Some.ensures.first c.parts.invariant.0),
      c.parts.invariant.1 ∙ ap (λ (l : List ℕ). fields ++ l) rest ∙ sym (append_assoc fields (number_of field ∷ []) (fields_of after)) ∙ ap (λ (l : List ℕ). l ++ fields_of after) (sym items),
    )

pub number-requires-2 : goal.number-requires-2
number-requires-2 c = All-head (IsNumberWithin 1 255) c.parts.rest.now [] (subst (All (IsNumberWithin 1 255)) c.in_default.ensures.last c.parts.invariant.0)

pub returns-clause-fields : goal.returns-clause-fields
returns-clause-fields c =
    let items : c.push-2.new.self.items ≡ c.parts.lengths.items ++ number_of c.parts.rest.now ∷ [] = search rules in
    items ∙ ap (λ (l : List (List ℕ)). c.parts.lengths.items ++ map number_of l) (sym c.in_default.ensures.last) ∙ sym c.parts.invariant.1

pub returns-clause-some : goal.returns-clause-some
returns-clause-some c =
    let items : c.push-2.new.self.items ≡ c.parts.lengths.items ++ number_of c.parts.rest.now ∷ [] = search rules in
    omega (arith, ap length items, length_push c.parts.lengths.items (number_of c.parts.rest.now))

pub returns-clause-few : goal.returns-clause-few
returns-clause-few c =
    let items : c.push-2.new.self.items ≡ c.parts.lengths.items ++ number_of c.parts.rest.now ∷ [] = search rules in
    let same : c.push-2.new.self.items ≡ fields_of c.args.text.now = items ∙ ap (λ (l : List (List ℕ)). c.parts.lengths.items ++ map number_of l) (sym c.in_default.ensures.last) ∙ sym c.parts.invariant.1 in
    omega (arith, ap length same, length-map (slice_split ends c.args.text.now) number_of, c.requires.0)
