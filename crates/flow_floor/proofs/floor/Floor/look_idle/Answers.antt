use Rattle.std.proofs.Common.{◌≤◌, ◌∙◌, refl, sym, arith, inl, inr}
use Rattle.flow_machine.specs.Inlets.{signal_input}
use Rattle.flow_floor.specs.declared.floor.Saw.TheVariants as saws
use Rattle.flow_floor.specs.Looks.{SawReleased, SawEnd}
use Rattle.flow_floor.specs.Waking.{HasWorked}
use Rattle.flow_floor.specs.Workers.{view}
use Rattle.flow_floor.proofs.Looking.{looks-then, saws-since, end-later, released-later}
use Rattle.flow_floor.proofs.Midways.{held-midway, midway-held}
use Rattle.flow_floor.proofs.floor.Floor.look_idle.Goals as goal
use Rattle.flow_floor.proofs.floor.Floor.look_idle.Goals.{After-look_over, After-draw_signal, else-not-is_connected-via-then-not-is_connected+else-not-has_run, else-not-is_connected-via-else-not-is_connected}

pub look_over-requires-clause-held : goal.look_over-requires-clause-held
look_over-requires-clause-held g c = let f = c.args.self.now in held-midway g.K.Component.rules f.table.shared.table_id f.layout.processes c.look_released.new.worker c.args.held.now c.in-Over.ensures.held

-- it is released
released : (g : _) (c : After-look_over g) → SawReleased c.args.self.now.layout.processes (view c.args.worker.now).steps c.args.held.now.body.process (view c.look_over.new.worker).seen
released g c = released-later c.args.self.now.layout.processes (view c.args.worker.now).steps c.args.held.now.body.process (view c.look_released.new.worker) (view c.look_over.new.worker) c.look_over.ensures.looks c.in-Over.ensures.finds

pub returns-in-Packet-look_over-clause-held : goal.returns-in-Packet-look_over-clause-held
returns-in-Packet-look_over-clause-held g c = let f = c.args.self.now in midway-held g.K.Component.rules f.table.shared.table_id f.layout.processes c.look_over.new.worker c.args.held.now c.look_over.ensures.held

pub returns-in-Packet-look_over-clause-looks : goal.returns-in-Packet-look_over-clause-looks
returns-in-Packet-look_over-clause-looks g c = looks-then _ _ _ c.look_released.ensures.looks c.look_over.ensures.looks

pub returns-in-Packet-look_over-clause-idles : goal.returns-in-Packet-look_over-clause-idles
returns-in-Packet-look_over-clause-idles g c = (
  released g (goal.at.returns-in-Packet-look_over-clause-idles g c).After-look_over,
  inl (saws-since c.args.self.now.layout.processes (view c.args.worker.now).steps (view c.look_released.new.worker).steps c.args.held.now.body.process.inputs (view c.look_over.new.worker).seen saws.Packet c.look_released.ensures.looks.steps c.in-Packet-look_over.ensures.saw),
)

pub returns-in-Sender-look_over-clause-held : goal.returns-in-Sender-look_over-clause-held
returns-in-Sender-look_over-clause-held g c = let f = c.args.self.now in midway-held g.K.Component.rules f.table.shared.table_id f.layout.processes c.look_over.new.worker c.args.held.now c.look_over.ensures.held

pub returns-in-Sender-look_over-clause-looks : goal.returns-in-Sender-look_over-clause-looks
returns-in-Sender-look_over-clause-looks g c = looks-then _ _ _ c.look_released.ensures.looks c.look_over.ensures.looks

pub returns-in-Sender-look_over-clause-idles : goal.returns-in-Sender-look_over-clause-idles
returns-in-Sender-look_over-clause-idles g c =
    let t = saws-since c.args.self.now.layout.processes (view c.args.worker.now).steps (view c.look_released.new.worker).steps c.args.held.now.body.process.inputs (view c.look_over.new.worker).seen (saws.Sender c.in-Sender-look_over.word) c.look_released.ensures.looks.steps
    c.in-Sender-look_over.ensures.saw in
    record { inputs = c.args.held.now.body.process.inputs; watches = inr (refl, released g (goal.at.returns-in-Sender-look_over-clause-idles g c).After-look_over); none_in = t.0; first = t.1 }

pub returns-then-not-has_run-clause-held : goal.returns-then-not-has_run-clause-held
returns-then-not-has_run-clause-held g c = let f = c.args.self.now in midway-held g.K.Component.rules f.table.shared.table_id f.layout.processes c.look_over.new.worker c.args.held.now c.look_over.ensures.held

pub returns-then-not-has_run-clause-looks : goal.returns-then-not-has_run-clause-looks
returns-then-not-has_run-clause-looks g c = looks-then _ _ _ c.look_released.ensures.looks c.look_over.ensures.looks

pub returns-then-not-has_run-clause-idles : goal.returns-then-not-has_run-clause-idles
returns-then-not-has_run-clause-idles g c = (
  released g (goal.at.returns-then-not-has_run-clause-idles g c).After-look_over,
  inr (sym c.is_connected.ensures ∙ c.if-not-is_connected.true, sym c.has_run.ensures ∙ c.if-not-has_run.true),
)

-- it has a stream input, or has run
worked : (g : _) (c : After-draw_signal g) → HasWorked c.args.held.now.body.process
worked g c = elim c.else-not-is_connected.branch [
  | else-not-is_connected-via-then-not-is_connected+else-not-has_run w ↦ inr (sym w.has_run.ensures ∙ w.if-not-has_run.false)
  | else-not-is_connected-via-else-not-is_connected w ↦ inl (sym c.is_connected.ensures ∙ w.if-not-is_connected.false)
]

-- its stream inputs were seen over
over : (g : _) (c : After-draw_signal g) → SawEnd c.args.self.now.layout.processes (view c.args.worker.now).steps c.args.held.now.body.process.inputs (view c.draw_signal.new.worker).seen
over g c =
    end-later c.args.self.now.layout.processes (view c.args.worker.now).steps c.args.held.now.body.process.inputs (view c.look_over.new.worker) (view c.draw_signal.new.worker) c.draw_signal.ensures.looks
    (saws-since c.args.self.now.layout.processes (view c.args.worker.now).steps (view c.look_released.new.worker).steps c.args.held.now.body.process.inputs (view c.look_over.new.worker).seen saws.Over c.look_released.ensures.looks.steps c.in-Over-look_over.ensures.saw)

-- the last look counts from the first step on
late : (g : _) (c : After-draw_signal g) → (view c.args.worker.now).steps ≤ (view c.look_over.new.worker).steps
late g c = let a = c.look_released.ensures.looks.steps in let b = c.look_over.ensures.looks.steps in omega (arith, a, b)

pub returns-in-Packet-draw_signal-clause-looks : goal.returns-in-Packet-draw_signal-clause-looks
returns-in-Packet-draw_signal-clause-looks g c = looks-then _ _ _ (looks-then _ _ _ c.look_released.ensures.looks c.look_over.ensures.looks) c.draw_signal.ensures.looks

pub returns-in-Packet-draw_signal-clause-idles : goal.returns-in-Packet-draw_signal-clause-idles
returns-in-Packet-draw_signal-clause-idles g c = let a = (goal.at.returns-in-Packet-draw_signal-clause-idles g c).After-draw_signal in
    (c.in-Packet-draw_signal.ensures.finds, inr (over g a, worked g a))

pub returns-in-Sender-draw_signal-clause-looks : goal.returns-in-Sender-draw_signal-clause-looks
returns-in-Sender-draw_signal-clause-looks g c = looks-then _ _ _ (looks-then _ _ _ c.look_released.ensures.looks c.look_over.ensures.looks) c.draw_signal.ensures.looks

pub returns-in-Sender-draw_signal-clause-idles : goal.returns-in-Sender-draw_signal-clause-idles
returns-in-Sender-draw_signal-clause-idles g c = let a = (goal.at.returns-in-Sender-draw_signal-clause-idles g c).After-draw_signal in
    let t = saws-since c.args.self.now.layout.processes (view c.args.worker.now).steps (view c.look_over.new.worker).steps (signal_input c.args.held.now.body.process.signal) (view c.draw_signal.new.worker).seen (saws.Sender c.in-Sender-draw_signal.word) (late g a) c.in-Sender-draw_signal.ensures.finds in
    record { inputs = signal_input c.args.held.now.body.process.signal; watches = inl (refl, inr (over g a, worked g a)); none_in = t.0; first = t.1 }

pub returns-in-Over-draw_signal-clause-looks : goal.returns-in-Over-draw_signal-clause-looks
returns-in-Over-draw_signal-clause-looks g c = looks-then _ _ _ (looks-then _ _ _ c.look_released.ensures.looks c.look_over.ensures.looks) c.draw_signal.ensures.looks

pub returns-in-Over-draw_signal-clause-idles : goal.returns-in-Over-draw_signal-clause-idles
returns-in-Over-draw_signal-clause-idles g c = let a = (goal.at.returns-in-Over-draw_signal-clause-idles g c).After-draw_signal in (
  over g a,
  saws-since c.args.self.now.layout.processes (view c.args.worker.now).steps (view c.look_over.new.worker).steps (signal_input c.args.held.now.body.process.signal) (view c.draw_signal.new.worker).seen saws.Over (late g a) c.in-Over-draw_signal.ensures.finds,
  worked g a,
)
