use Rattle.flow_sort.specs.Sort.{SortState}
use Rattle.flow_sort.proofs.Unloading.{took}
use Rattle.flow_sort.proofs.sort.Sort.unload.Goals as goal

pub returns-in-Ok-Some-clause-sends : goal.returns-in-Ok-Some-clause-sends
returns-in-Ok-Some-clause-sends c =
    let first = rw c.in-Ok-Some.field-0-is at c.in-Ok-Some.ensures.first in
    let ok = rw c.in-Ok-Some.field-0-is at c.in-Ok-Some.ensures.ok in
    let state : SortState = record { bytes = c.self.inside.bytes; place = c.self.inside.place } in
    rw (← c.self.view_is) (took c.args.hands.now state c.args.carrier c.args.bracket c.in-Ok-Some.packet c.detach.new.self c.requires.carries first ok)
