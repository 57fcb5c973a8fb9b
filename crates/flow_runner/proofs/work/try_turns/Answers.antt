use Rattle.std.proofs.Common.{ℕ, sym, subst, arith}
use Rattle.flow_floor.specs.Bursts.{PassesBetween}
use Rattle.flow_floor.proofs.Gated.{turns-thought}
use Rattle.flow_floor.specs.Floors.{IsOverAs}
use Rattle.flow_runner.proofs.Attempts.{burst-adds, over-as, stuck-still}
use Rattle.flow_runner.proofs.work.try_turns.Goals as goal

pub make_burst-requires-clause-held : goal.make_burst-requires-clause-held
make_burst-requires-clause-held g c = c.think.ensures.held c.args.floor.now c.args.worker.now c.requires.held

pub returns-in-Made-clause-adds : goal.returns-in-Made-clause-adds
returns-in-Made-clause-adds g c = let t = c.in-Made.ensures.burst in (burst-adds _ _ _ _ _ t.made, t.least, omega (arith, t.most, c.next-most.ensures.most))

pub returns-in-Blocked-clause-may : goal.returns-in-Blocked-clause-may
returns-in-Blocked-clause-may g c = let t = c.in-Blocked.ensures.burst in stuck-still c.args.floor.now c.make_burst.new.worker c.think.new.self c.make_burst.new.held t.0.0 t.1.stays

pub returns-in-Failed-clause-held : goal.returns-in-Failed-clause-held
returns-in-Failed-clause-held g c = c.think.ensures.held c.args.floor.now c.args.worker.now c.requires.held

pub returns-in-NoMemory-clause-held : goal.returns-in-NoMemory-clause-held
returns-in-NoMemory-clause-held g c = c.think.ensures.held c.args.floor.now c.args.worker.now c.requires.held

-- what is over was told its end by the thought before
pub returns-in-Over-clause-may : goal.returns-in-Over-clause-may
returns-in-Over-clause-may g c = let t = c.in-Over.ensures.burst in
    subst (IsOverAs c.in-Over.over) (sym t.0.0) (over-as c.in-Over.over c.think.new.self c.in-Wishing.ensures.thinks.1 t.1)

pub returns-in-Made-clause-between : goal.returns-in-Made-clause-between
returns-in-Made-clause-between g c =
    subst (λ (n : ℕ). PassesBetween (g.G.Gate.has_passed c.args.gate.now) n c.in-Made.count) (turns-thought g.K.Component.rules c.args.held.now.body c.think.new.self.body c.think.result c.think.ensures.thinks) c.in-Made.ensures.passed
