use Rattle.std.proofs.Common.{◌≡◌, take, map, string_bytes}
use Rattle.flow_given.specs.Calls.{given_by}
use Rattle.flow_given.proofs.call.all_given.Given as goal

abbrev pub invariant-words : goal.invariant-words
invariant-words l = l.given.items ≡ map (λ word. given_by (string_bytes word)) (take l.word-index l.fn.words)
