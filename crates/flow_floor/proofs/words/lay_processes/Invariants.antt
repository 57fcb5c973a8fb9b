use Rattle.std.proofs.Common.{◌≡◌, length}
use Rattle.flow_floor.specs.Opening.{AreReady, AreSameBut}
use Rattle.flow_floor.proofs.words.lay_processes.Given as goal

-- so many are ready
abbrev pub invariant-loop-process : goal.invariant-loop-process
invariant-loop-process l = record {
  ready : AreReady l.process l.words.items;
  others : AreSameBut 0 l.layout.processes l.fn.words.items l.words.items;
  wide : length l.words.items ≡ length l.fn.words.items;
}
