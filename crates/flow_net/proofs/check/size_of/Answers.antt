use Rattle.std.proofs.Common.{◌≡◌, ◌+◌, ◌∙◌, sym, ap, take, get_or, arith, true, false}
use Rattle.std.specs.Prelude.{if◌then◌else◌}
use Rattle.flow_net.specs.declared.draft.Binding.TheVariants.{Free}
use Rattle.flow_net.specs.Drafts.{is_free}
use Rattle.flow_net.specs.Finishes.{size_of}
use Rattle.flow_net.proofs.Sizes.{size_of-more}
use Rattle.flow_net.proofs.check.size_of.Goals as goal
use Rattle.flow_net.proofs.check.size_of.Goals.{then-not-is_free, else-not-is_free}

pub loop-place-preserved : goal.loop-place-preserved
loop-place-preserved c =
    let xs = c.args.elements.now in
    let i = c.loop-place.place in
    let more = size_of-more xs i Free c.loop-place-test.true in
    elim c.if-not-is_free.branch [
      | then-not-is_free w ↦
          let test : is_free (get_or xs i Free) ≡ false = sym c.is_free.ensures ∙ w.if-not-is_free.true in
          (w.size-is ∙ sym (more ∙ ap (λ b. if b then size_of (take i xs) else i + 1) test), omega arith)
      | else-not-is_free w ↦
          let test : is_free (get_or xs i Free) ≡ true = sym c.is_free.ensures ∙ w.if-not-is_free.false in
          (w.size-is ∙ c.loop-place.invariant.0 ∙ sym (more ∙ ap (λ b. if b then size_of (take i xs) else i + 1) test), omega (arith, c.loop-place.invariant.1))
    ]
