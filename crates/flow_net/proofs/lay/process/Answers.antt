use Rattle.std.proofs.Common.{◌∙◌, ap, sym, List, ℕ, slice_get}
use Rattle.flow_net.specs.declared.draft.End.{End}
use Rattle.flow_net.proofs.lay.process.Goals as goal

pub given-requires : goal.given-requires
given-requires c = record { there = λ k end text at. c.requires.there k end text (ap (λ (xs : List (End × List ℕ)). slice_get xs k) (sym c.into_vec.ensures) ∙ at) }
