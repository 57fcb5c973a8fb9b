use Rattle.std.proofs.Common.{◌≡◌, take}
use Rattle.clap.specs.Simple.{app_of}
use Rattle.flow_words.specs.Arguments.{arguments}
use Rattle.flow_words.specs.Words.{app_with}
use Rattle.flow_words.proofs.words.line.Given as goal

abbrev pub invariant-loop-argument : goal.invariant-loop-argument
invariant-loop-argument l = app_of l.line ≡ app_with (take l.argument-index arguments)
