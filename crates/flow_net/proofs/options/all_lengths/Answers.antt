use Rattle.std.proofs.Common.{◌∙◌, sym}
use Rattle.std.specs.List.{All, slice_split}
use Rattle.std.proofs.lemmas.Bool.{false≢true}
use Rattle.flow_plan.specs.Texts.{IsNumberWithin}
use Rattle.flow_net.proofs.Spaces.{ends, All-one, All-passed, All-failed}
use Rattle.flow_net.proofs.options.all_lengths.Goals as goal

pub parts-preserved : goal.parts-preserved
parts-preserved c =
    All-passed (IsNumberWithin 1 255) c.in-Some.part.now (slice_split ends c.in-Some.after.now) (slice_split ends c.parts.rest.now) c.in-Some.ensures.first (c.is_number.ensures.0 c.if-not-is_number.false) (All (IsNumberWithin 1 255) (slice_split ends c.args.text.now)) c.parts.invariant

pub returns : goal.returns
returns c =
    let one = All-one (IsNumberWithin 1 255) c.parts.rest.now (slice_split ends c.parts.rest.now) c.in_default.ensures.last in
    (λ t. c.parts.invariant.0 (one.0 (c.is_number-2.ensures.0 t)), λ all. c.is_number-2.ensures.1 (one.1 (c.parts.invariant.1 all)))

pub returns-then-not-is_number : goal.returns-then-not-is_number
returns-then-not-is_number c =
    (λ f. absurd (false≢true f), λ all. absurd (All-failed (IsNumberWithin 1 255) c.in-Some.part.now (slice_split ends c.in-Some.after.now) (slice_split ends c.parts.rest.now) c.in-Some.ensures.first (λ p. false≢true (sym c.if-not-is_number.true ∙ c.is_number.ensures.1 p)) (All (IsNumberWithin 1 255) (slice_split ends c.args.text.now)) c.parts.invariant all))
