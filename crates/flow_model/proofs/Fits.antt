-- What a running net keeps holds at the start, and every turn and every work keeps it.
use Rattle.flow_limits.specs.declared.TheConstants.{HANDS_LIMIT}
use Rattle.std.proofs.Common.{◌≡◌, ℕ, ◌<◌, ◌≤◌, List, [], ◌∷◌, length, Some, ap, arith, sym, subst, ◌∙◌, slice_get, slice_set, length-append, inl, inr}
use Rattle.flow_packet.specs.declared.packet.Kind.TheVariants as kinds
use Rattle.flow_packet.specs.Tree.{id_of, packet_of}
use Rattle.flow_packet.specs.Held.{Held, next_id}
use Rattle.flow_packet.proofs.Roots.{length-without, few-comes}
use Rattle.flow_component.specs.Laws.{Rules, Lawful, held_after}
use Rattle.flow_model.specs.States.{Process, Channel, State}
use Rattle.flow_model.specs.Events.{Event, Gets, Takes_text, Sends, event_of}
use Rattle.flow_model.specs.Turns.{process_after, Turn}
use Rattle.flow_model.specs.Works.{worked, Work}
use Rattle.flow_model.specs.Schedules.{Settles, WorksLead, LeadsBy, Leads, Journal, Step, Turned, Worked, Reaches}
use Rattle.flow_model.specs.Plans.{start_of, StartsWell}
use Rattle.flow_plan.specs.Network.{Network as Plan}
use Rattle.flow_model.specs.Valid.{ReadyAt, IsGranted}
use Rattle.flow_model.specs.Fit.{Fit, FewAtRoot}
use Rattle.flow_model.proofs.Lists.{slice_get-set_same, slice_get-set_other, same_or_not}
use Rattle.flow_model.proofs.Inverse.{explains}
use Rattle.flow_model.proofs.Places.{held-worked}
use Rattle.flow_model.proofs.Ready.{sound-hands}
use Rattle.flow_model.proofs.Schedules.{Valid-turn, Valid-work, comes-of}
use Rattle.flow_model.proofs.Blocks.{AllFit-turn, AllFit-work, AllFit-start}
use Rattle.flow_model.proofs.Start.{Valid-start, start-process}
use Rattle.flow_model.proofs.Leaving.{OpenSendersTell-turn, OpenSendersTell-work, OpenSendersTell-start}

-- a turn leaves at most 4,096 packets at the root: what is received finds room
few-after : {K : Type 0} (channels : List Channel) (x : Process K) (n : ℕ) (e : Event) → event_of channels x n ≡ Some e → IsGranted x x.stage → length x.held.packets ≤ HANDS_LIMIT → length (process_after x e).held.packets ≤ HANDS_LIMIT
few-after channels x n (Gets port c packet) is granted few =
    let from = explains channels x n (Gets port c packet) is in
    let room = subst (IsGranted x) from.stage granted in
    omega (arith, room.1, length-append x.held.packets (packet ∷ []))
few-after channels x n (Takes_text port text) is granted few =
    let from = explains channels x n (Takes_text port text) is in
    let room = subst (IsGranted x) from.stage granted in
    omega (arith, room.1, length-append x.held.packets (packet_of (next_id x.held) kinds.Normal text [] ∷ []))
few-after channels x n (Sends port c packet) is granted few = omega (arith, few, length-without x.held.packets (id_of packet))
few-after channels x n e is granted few = few

-- the other processes hold what they held
few-set : {K : Type 0} (processes : List (Process K)) (p : ℕ) (x y : Process K) → slice_get processes p ≡ Some x → FewAtRoot processes → length y.held.packets ≤ HANDS_LIMIT → FewAtRoot (slice_set processes p y)
few-set {K} processes p x y there old new q z is = elim (same_or_not q p) [
  | inl same ↦ (let h : Some y ≡ Some z = sym (ap (slice_get (slice_set processes p y)) same ∙ slice_get-set_same processes p x y there) ∙ is in
      let y_is : y ≡ z = cc in subst (λ (w : Process K). length w.held.packets ≤ HANDS_LIMIT) y_is new)
  | inr other ↦ old q z (sym (slice_get-set_other processes p q y other) ∙ is)
]

-- a turn keeps it
pub Fit-turn : {K : Type 0} (rules : Rules K) (s : State K) (p : ℕ) (event : Event) (s' : State K) → Turn s p event s' → Fit rules s → Fit rules s'
Fit-turn rules s p event s' turn fit =
    let x = turn.kept.before in
    let there = turn.kept.there in
    record {
      valid = Valid-turn rules s p event s' turn fit.valid;
      all_fit = AllFit-turn rules s p event s' turn fit.all_fit;
      few = rw turn.kept.processes (few-set s.kept.processes p x (process_after x event) there fit.few
          (few-after s.kept.channels x turn.kept.level event turn.kept.happens (fit.all_fit p x there).granted (fit.few p x there)));
      senders = OpenSendersTell-turn s p event s' turn fit.senders;
    }

-- at the start nothing is held
few-start : {K : Type 0} (plan : Plan) (components : List K) → FewAtRoot (start_of plan components).kept.processes
few-start {K} plan components p x is =
    let none : x.held.packets ≡ [] = ap (λ (z : Process K). z.held.packets) (start-process plan components p x is).is in
    rw none (omega arith)

-- it holds at the start of a plan with components that fit
pub Fit-start : {K : Type 0} (rules : Rules K) (plan : Plan) (components : List K) → StartsWell rules plan components → Fit rules (start_of plan components)
Fit-start rules plan components well = record {
  valid = Valid-start rules plan components well;
  all_fit = AllFit-start rules plan components well;
  few = few-start plan components;
  senders = OpenSendersTell-start rules plan components well;
}

-- along every schedule, of components that keep the laws
module _ {K : Type 0} (rules : Rules K) (lawful : Lawful rules) where
  -- a work keeps it
  pub Fit-work : (s : State K) (p : ℕ) (s' : State K) → Work rules s p s' → Fit rules s → Fit rules s'
  Fit-work s p s' work fit =
      let x = work.before in
      let there = work.kept.there in
      let told = work.kept.told in
      let was = fit.valid.each p x there in
      let below : x.held.made < 4294967296 = omega (arith, was.made, was.turns) in
      let sound = sound-hands s p x there was.maker below fit.valid.one_place in
      let now : rules.ready x.component x.held work.kept.answer = subst (ReadyAt (rules.ready x.component) x.held) told was.is_ready sound in
      let obeyed = lawful.obeys x.component x.held work.kept.answer work.outcome now work.kept.comes in
      let few : length (worked x work.outcome).held.packets ≤ HANDS_LIMIT =
      subst (λ (h : Held). length h.packets ≤ HANDS_LIMIT) (sym (held-worked x work.outcome)) (few-comes x.held (held_after work.outcome) (comes-of (rules.shape x.component) (rules.uses x.component) x.held work.outcome obeyed) (fit.few p x there)) in
      record {
        valid = Valid-work rules lawful s p s' work fit.valid;
        all_fit = AllFit-work rules s p s' work obeyed (lawful.steady x.component x.held work.kept.answer work.outcome work.kept.comes) fit.all_fit;
        few = rw work.kept.processes (few-set s.kept.processes p x (worked x work.outcome) there fit.few few);
        senders = OpenSendersTell-work rules s p s' work fit.senders;
      }

  -- doing a pending work, or none, keeps it
  pub Fit-settles : (s : State K) (p : ℕ) (s' : State K) → Settles rules s p s' → Fit rules s → Fit rules s'
  Fit-settles s p s' (inl none) fit = subst (Fit rules) (sym none.1) fit
  Fit-settles s p s' (inr work) fit = Fit-work s p s' work fit

  -- works keep it
  pub Fit-works : (s : State K) (ps : List ℕ) (s' : State K) → WorksLead rules s ps s' → Fit rules s → Fit rules s'
  Fit-works s [] s' is fit = subst (Fit rules) (sym is) fit
  Fit-works s (p ∷ ps) s' lead fit = Fit-works lead.0 ps s' lead.2 (Fit-work s p lead.0 lead.1 fit)

  -- every list of turns and works keeps it
  pub Fit-reaches : (s : State K) (steps : List Step) (s' : State K) → Fit rules s → Reaches rules s steps s' → Fit rules s'
  Fit-reaches s [] s' fit is = subst (Fit rules) (sym is) fit
  Fit-reaches s (Turned p seen ∷ steps) s' fit reaches = Fit-reaches reaches.1 steps s' (Fit-turn rules s p reaches.0 reaches.1 reaches.2 fit) reaches.4
  Fit-reaches s (Worked p ∷ steps) s' fit reaches = Fit-reaches reaches.0 steps s' (Fit-work s p reaches.0 reaches.1 fit) reaches.2

  Fit-leads_by : (s : State K) (turns seen : List ℕ) (s' : State K) → Fit rules s → LeadsBy rules s turns seen s' → Fit rules s'
  Fit-leads_by s [] seen s' fit is = subst (Fit rules) (sym is.1) fit
  Fit-leads_by s (p ∷ turns) seen s' fit leads =
      let whole = leads.3 in
      Fit-leads_by leads.1 turns leads.2 s' (Fit-settles whole.0 p leads.1 whole.2 (Fit-turn rules s p leads.0 whole.0 whole.1 fit)) leads.5

  -- every schedule keeps it
  pub Fit-leads : (s : State K) (journal : Journal) (s' : State K) → Fit rules s → Leads rules s journal s' → Fit rules s'
  Fit-leads s journal s' fit leads = Fit-leads_by s journal.turns journal.seen s' fit leads
