-- What a call for a turn tells.
use Rattle.std.proofs.Common.{◌≡◌, ℕ, zero, suc, ◌+◌, ◌<◌, ◌≤◌, true, List, [], ◌∷◌, ◌++◌, Option, Some, None, slice_get, refl, ap, sym, subst, ◌∙◌, arith, inl}
use Rattle.std.specs.Prelude.{is_some, option_and_then}
use Rattle.std.specs.Option.{option_map}
use Rattle.flow_component.specs.declared.Port.{Port}
use Rattle.flow_component.specs.declared.Wish.TheVariants as wishes
use Rattle.flow_component.specs.Laws.{Rules}
use Rattle.flow_model.specs.declared.Stage.TheVariants as stages
use Rattle.flow_model.specs.Events.{Event}
use Rattle.flow_model.specs.States.{Process, outlets, outlets_from, output_at, Outlet, From}
use Rattle.flow_model.specs.declared.Block.{Block}
use Rattle.flow_model.specs.declared.Block.TheVariants as blocks
use Rattle.flow_model.specs.Order.{connection_of}
use Rattle.flow_model.specs.Verdicts.{waits_for}
use Rattle.flow_machine.specs.Answers.{case_of, close_case, level_case, send_case, stage_case}
use Rattle.flow_machine.specs.Nets.{SendsAt}
use Rattle.flow_machine.specs.Outlets.{connection_at}
use Rattle.flow_machine.specs.Values.{BodyValue, NetValue}
use Rattle.flow_machine.specs.declared.answers.Case.TheVariants as cases
use Rattle.flow_machine.proofs.NetTurns.{case-is}
use Rattle.flow_floor.specs.Made.{Below}
use Rattle.flow_floor.specs.Turning.{MachineTurn}
use Rattle.flow_floor.specs.Wired.{IsOutput, IsWiredIn}
use Rattle.flow_floor.proofs.Thinking.{wired-turn}
use Rattle.flow_floor.proofs.Deeds.{closed-is}
use Rattle.flow_floor.specs.declared.board.Look.{Look}
use Rattle.flow_floor.specs.declared.board.Sending.{Sending}
use Rattle.flow_floor.specs.declared.board.View.{View}
use Rattle.flow_floor.specs.declared.floor.Held.{Held}
use Rattle.flow_floor.specs.declared.floor.Turned.{Turned}
use Rattle.flow_floor.specs.declared.floor.Turned.TheVariants as turned
use Rattle.flow_floor.specs.declared.floor.Worker.{Worker}
use Rattle.flow_floor.specs.Ends.{is_shared}
use Rattle.flow_floor.specs.Looks.{InSeen, IsLook}
use Rattle.flow_floor.specs.Midway.{MakesTurn}
use Rattle.flow_floor.specs.Turns.{output_of_case, IsBusy, IsMade, ToldLevel, Turns}
use Rattle.flow_floor.specs.Views.{look_at, looked}
use Rattle.flow_floor.specs.Workers.{view}

-- Another worker is at the sending end: the gate's word was read.
pub is-busy : {K : Type 0} (n m : ℕ) (start : NetValue K) (b : BodyValue K) (v w : View K) (c r : ℕ) → output_of_case (case_of b.process) ≡ Some c → is_shared start c ≡ true → v.sending ≡ None → r ≡ 1 → w ≡ looked v (n + m + c) r → IsBusy n m start b v w c r
is-busy {K} n m start b v w c r turn several nowhere one is = record {
  turn = turn;
  several = several;
  look = (ap (λ (x : View K). x.look.word) is, ap (λ (x : View K). x.look.read) is, (let at = ap (λ (x : View K). x.look.at) is in omega (arith, at)));
  free = ap (λ (x : View K). x.look.holding) is ∙ ap (λ (x : Option Sending). is_some x) nowhere;
  taken = one;
}

-- The connection into which a process sends.
pub at-send : {K : Type 0} (x : Process K) (port : Port) (c : ℕ) → SendsAt x.stage port → output_at x port.0 ≡ Some c → output_of_case (case_of x) ≡ Some c
at-send x port c stage output = ap output_of_case (ap (stage_case x) stage.1 ∙ ap (send_case port) output)

-- The one whose level it asks for.
pub at-level : {K : Type 0} (x : Process K) (port : Port) (c : ℕ) → x.stage ≡ stages.Wishing (wishes.Level port) → output_at x port.0 ≡ Some c → output_of_case (case_of x) ≡ Some c
at-level x port c stage output = ap output_of_case (ap (stage_case x) stage ∙ ap (level_case port) output)

-- The one that it closes.
pub at-close : {K : Type 0} (x : Process K) (i c : ℕ) → x.stage ≡ stages.Closing i → connection_at (outlets x) i ≡ Some c → output_of_case (case_of x) ≡ Some c
at-close x i c stage outlet = let o = closed-is (slice_get (outlets x) i) c outlet in
    ap output_of_case (ap (stage_case x) stage ∙ ap close_case o.1) ∙ ap (λ m. let r : Option ℕ = Some m in r) o.2

outlet-back : (k : ℕ) (os : List (Option ℕ)) (j c : ℕ) → connection_at (outlets_from k os) j ≡ Some c → (m : ℕ) × (slice_get os m ≡ Some (Some c))
outlet-back k [] j c is = absurd (cc)
outlet-back k (Some d ∷ os) zero c is = (0, ap (λ (x : Option ℕ). let r : Option (Option ℕ) = Some x in r) is)
outlet-back k (Some d ∷ os) (suc j) c is = let r = outlet-back (k + 1) os j c is in (suc r.0, r.1)
outlet-back k (None ∷ os) j c is = let r = outlet-back (k + 1) os j c is in (suc r.0, r.1)

-- The connection that a body has to close is one of the net's.
pub close-range : {K : Type 0} (m c : ℕ) (b : BodyValue K) → case_of b.process ≡ Some (cases.Close c) → IsWiredIn m b → c < m
close-range m c b is wired =
    let t = case-is b.process (cases.Close c) is in
    let at : connection_at (outlets b.process) t.0 ≡ Some c = ap (option_map (λ (o : Outlet). o.connection)) t.3 ∙ ap (λ (n : ℕ). let r : Option ℕ = Some n in r) t.4 in
    let o = outlet-back 0 b.process.outputs t.0 c at in
    wired.outputs o.0 c (ap (option_and_then (λ (x : Option ℕ). x)) o.1)

-- What a process waits for that finds nothing to receive, and no room to send.
pub waits-empty : {K : Type 0} (x : Process K) (port : Port) (c : ℕ) → x.stage ≡ stages.Wishing (wishes.Receive port) → slice_get x.inputs port.0 ≡ Some (From c) → waits_for x x.stage ≡ Some (blocks.Empty c port)
waits-empty x port c stage input = ap (waits_for x) stage ∙ ap (option_and_then (λ m. let r : Option Block = Some (blocks.Empty m port) in r)) (ap connection_of input)

-- The same of a send.
pub waits-full : {K : Type 0} (x : Process K) (port : Port) (c : ℕ) → SendsAt x.stage port → output_at x port.0 ≡ Some c → waits_for x x.stage ≡ Some (blocks.Full c port)
waits-full x port c stage output = ap (waits_for x) stage.1 ∙ ap (option_and_then (λ m. let r : Option Block = Some (blocks.Full m port) in r)) output

-- What a process closes is one of its outputs.
pub close-output : {K : Type 0} (b : BodyValue K) (i c : ℕ) → connection_at (outlets b.process) i ≡ Some c → IsOutput b c
close-output b i c outlet = let o = outlet-back 0 b.process.outputs i c outlet in (o.0, ap (option_and_then (λ (x : Option ℕ). x)) o.1)

-- The first of the looks that were kept is one that this call made.
pub kept-after : {K : Type 0} (v u w : View K) (n c r : ℕ) → v.steps ≤ u.steps → w.seen ≡ look_at u (n + c) r ∷ v.seen → InSeen (IsLook n v.steps c r) w.seen
kept-after v u w n c r later is = subst (InSeen (IsLook n v.steps c r)) (sym is) (inl (refl, refl, (let l : v.steps < u.steps + 1 = omega (arith, later) in l)))

-- What a look is kept before, of a view that had kept the same.
pub seen-there : {K : Type 0} (u v : View K) (n c r : ℕ) → u.seen ≡ v.seen → look_at u (n + c) r ∷ u.seen ≡ look_at u (n + c) r ∷ v.seen
seen-there u v n c r is = ap (λ (xs : List Look). look_at u (n + c) r ∷ xs) is

module _ {K : Type 0} (rules : Rules K) (n m : ℕ) (start : NetValue K) where
  -- A turn that was stamped in the midst of a call is that of the call.
  pub is-made : (h h' : Held K) (u w w' w'' : Worker K) (e : Event) (stamp : ℕ) → MakesTurn rules start h w h' w' e stamp → (view w).made ≡ (view u).made → (view w'').made ≡ (view w').made → ToldLevel n h.body (view u) (view w'') e → IsMade rules n start h u h' w'' stamp
  is-made h h' u w w' w'' e stamp t before after told = record {
    process = t.process;
    event = e;
    turn = t.body;
    machine = subst (λ (xs : List (ℕ × ℕ)). MachineTurn rules start xs stamp h.process h.body e) before t.machine;
    made = after ∙ t.made ∙ ap (λ (xs : List (ℕ × ℕ)). xs ++ (stamp, h.process) ∷ []) before;
    above = subst (Below stamp) before t.above;
    level = told;
  }

  -- A held body that comes out of a turn has only connections of the net.
  pub wired-came : (many : ℕ) (h h' : Held K) (w w' : Worker K) (r : Turned) → Turns rules n m start h w h' w' r → IsWiredIn many h.body → IsWiredIn many h'.body
  wired-came many h h' w w' (turned.Made s) is wired = wired-turn many h.body h'.body is.event s is.turn wired
  wired-came many h h' w w' (turned.Busy c word) is wired = subst (λ (x : Held K). IsWiredIn many x.body) (sym is.0.0) wired
  wired-came many h h' w w' (turned.Blocked block word) is wired = subst (λ (x : Held K). IsWiredIn many x.body) (sym is.0.0) wired
  wired-came many h h' w w' (turned.Over over) is wired = subst (λ (x : Held K). IsWiredIn many x.body) (sym is.0.0) wired
