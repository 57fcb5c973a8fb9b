use Rattle.flow_pick.proofs.PlainStreams.{unique-is-dedup, head-is-take, tail-is-drop}
use Rattle.flow_pick.proofs.meanings.streams_without_brackets_are_lists.Goals as goal

pub returns-clause-unique : goal.returns-clause-unique
returns-clause-unique c = unique-is-dedup

pub returns-clause-head : goal.returns-clause-head
returns-clause-head c = head-is-take

pub returns-clause-tail : goal.returns-clause-tail
returns-clause-tail c = tail-is-drop
