use Rattle.std.proofs.Common.{◌≡◌, [], drop, take}
use Rattle.flow_fill.specs.Faults.{given_fault}
use Rattle.flow_fill.proofs.check.first_given.Given as goal

abbrev pub invariant-given : goal.invariant-given
invariant-given l = given_fault l.fn.words [] 0 l.fn.given ≡ given_fault l.fn.words (take l.place l.fn.given) l.place (drop l.place l.fn.given)
