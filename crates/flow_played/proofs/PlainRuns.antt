-- A network without components of the caller's own runs as the network of its other components.
use Rattle.std.proofs.Common.{◌≡◌, ◌↔◌, ℕ, List, Some, sym, subst, ◌∙◌, slice_get}
use Rattle.std.proofs.lemmas.List.{length-map}
use Rattle.flow_component.specs.Laws.{Rules}
use Rattle.flow_plan.specs.Network.{Network as Plan}
use Rattle.flow_own.specs.Mixed.{Mixed, Other}
use Rattle.flow_model.specs.States.{Process, State}
use Rattle.flow_model.specs.Schedules.{Journal, Leads, Prefix}
use Rattle.flow_model.specs.Robin.{RoundRobin}
use Rattle.flow_model.specs.Places.{OnePlace}
use Rattle.flow_model.specs.Order.{InOrder}
use Rattle.flow_model.specs.Plans.{start_of, FitsProcess, StartsWell}
use Rattle.flow_model.specs.Replaced.{with_component}
use Rattle.flow_model.proofs.Replacing.{replaced-there, replaced-from}
use Rattle.flow_journal.specs.Runs.{IsScheduled, IsRun}
use Rattle.flow_played.specs.Rules.{played_rules}
use Rattle.flow_played.specs.Others.{others, other_at, as_mixed}
use Rattle.flow_played.specs.Plain.{RunsAsItIs}
use Rattle.flow_played.proofs.Others.{start-others}
use Rattle.flow_played.proofs.OthersLeads.{leads-up, prefix-up, robin-up, leads-only, leads-down, prefix-down, robin-down}
use Rattle.flow_played.proofs.ToldAlike.{told-replaced}

module _ {K : Type 0} (rules : Rules K) (plan : Plan) (components : List K) where
  start : as_mixed (start_of plan components) ≡ start_of plan (others components)
  start = start-others plan components

  -- the components fit the plan or don't
  fits-up : (x : Process K) → FitsProcess rules x.component x → FitsProcess (played_rules rules) (Other x.component) (with_component x (Other x.component))
  fits-up x fit = record { inputs = fit.inputs; outputs = fit.outputs; used = fit.used; can_start = λ held none. (tt, fit.can_start held none) }

  fits-down : (x : Process K) → FitsProcess (played_rules rules) (Other x.component) (with_component x (Other x.component)) → FitsProcess rules x.component x
  fits-down x fit = record { inputs = fit.inputs; outputs = fit.outputs; used = fit.used; can_start = λ held none. (fit.can_start held none).1 }

  starts-up : StartsWell rules plan components → StartsWell (played_rules rules) plan (others components)
  starts-up well = record {
    wired = well.wired;
    one_each = length-map components Other ∙ well.one_each;
    fit = λ p y there.
        (let from = replaced-from other_at (start_of plan components).kept.processes p y (subst (λ (s : State (Mixed K)). slice_get s.kept.processes p ≡ Some y) (sym start) there) in
        subst (λ (z : Process (Mixed K)). FitsProcess (played_rules rules) z.component z) from.2 (fits-up from.0 (well.fit p from.0 from.1)));
  }

  starts-down : StartsWell (played_rules rules) plan (others components) → StartsWell rules plan components
  starts-down well = record {
    wired = well.wired;
    one_each = sym (length-map components Other) ∙ well.one_each;
    fit = λ p x there.
        (let at = replaced-there other_at (start_of plan components).kept.processes p x there in
        fits-down x (well.fit p (with_component x (Other x.component)) (subst (λ (s : State (Mixed K)). slice_get s.kept.processes p ≡ Some (with_component x (Other x.component))) start at)));
  }

  only : (journal : Journal) (t : State (Mixed K)) → Leads (played_rules rules) (start_of plan (others components)) journal t → (s : State K) × (t ≡ as_mixed s)
  only journal t leads = leads-only rules (start_of plan components) journal t (subst (λ (s : State (Mixed K)). Leads (played_rules rules) s journal t) (sym start) leads)

  leads-both : (journal : Journal) (s : State K) → Leads rules (start_of plan components) journal s ↔ Leads (played_rules rules) (start_of plan (others components)) journal (as_mixed s)
  leads-both journal s = (
    (λ leads. subst (λ (t : State (Mixed K)). Leads (played_rules rules) t journal (as_mixed s)) start (leads-up rules (start_of plan components) journal s leads)),
    (λ leads. leads-down rules (start_of plan components) journal s (subst (λ (t : State (Mixed K)). Leads (played_rules rules) t journal (as_mixed s)) (sym start) leads)),
  )

  prefixes-both : (journal front : Journal) (s mid : State K)
      → Prefix rules (start_of plan components) journal s front mid ↔ Prefix (played_rules rules) (start_of plan (others components)) journal (as_mixed s) front (as_mixed mid)
  prefixes-both journal front s mid = (
    (λ prefix. subst (λ (t : State (Mixed K)). Prefix (played_rules rules) t journal (as_mixed s) front (as_mixed mid)) start (prefix-up rules (start_of plan components) journal s front mid prefix)),
    (λ prefix. prefix-down rules (start_of plan components) journal s front mid (subst (λ (t : State (Mixed K)). Prefix (played_rules rules) t journal (as_mixed s) front (as_mixed mid)) (sym start) prefix)),
  )

  robins-both : (journal : Journal) (s : State K) → RoundRobin rules (start_of plan components) journal s ↔ RoundRobin (played_rules rules) (start_of plan (others components)) journal (as_mixed s)
  robins-both journal s = (
    (λ round. subst (λ (t : State (Mixed K)). RoundRobin (played_rules rules) t journal (as_mixed s)) start (robin-up rules (start_of plan components) journal s round)),
    (λ round. robin-down rules (start_of plan components) journal s (subst (λ (t : State (Mixed K)). RoundRobin (played_rules rules) t journal (as_mixed s)) (sym start) round)),
  )

  -- after each prefix the packets are where they are by themselves
  scheduled-up : (journal : Journal) (s : State K) → IsScheduled rules plan components journal s → IsScheduled (played_rules rules) plan (others components) journal (as_mixed s)
  scheduled-up journal s scheduled = record {
    leads = (leads-both journal s).0 scheduled.leads;
    prefixes = λ front t prefix.
        (let mid = only front t prefix.first in
        let down = (prefixes-both journal front s mid.0).1 (subst (Prefix (played_rules rules) (start_of plan (others components)) journal (as_mixed s) front) mid.1 prefix) in
        let kept = scheduled.prefixes front mid.0 down in
        let told = told-replaced other_at mid.0 in
        subst (λ (u : State (Mixed K)). OnePlace u × InOrder u) (sym mid.1) (told.one_place.0 kept.0, told.in_order.0 kept.1));
  }

  scheduled-down : (journal : Journal) (s : State K) → IsScheduled (played_rules rules) plan (others components) journal (as_mixed s) → IsScheduled rules plan components journal s
  scheduled-down journal s scheduled = record {
    leads = (leads-both journal s).1 scheduled.leads;
    prefixes = λ front mid prefix.
        (let kept = scheduled.prefixes front (as_mixed mid) ((prefixes-both journal front s mid).0 prefix) in
        let told = told-replaced other_at mid in
        (told.one_place.1 kept.0, told.in_order.1 kept.1));
  }

  runs-up : (workers : ℕ) (journal : Journal) (s : State K) → IsRun rules workers plan components journal s → IsRun (played_rules rules) workers plan (others components) journal (as_mixed s)
  runs-up workers journal s run =
      record { schedule = scheduled-up journal s run.schedule; quiet = (told-replaced other_at s).quiet.0 run.quiet; robin = λ alone. (robins-both journal s).0 (run.robin alone) }

  runs-down : (workers : ℕ) (journal : Journal) (s : State K) → IsRun (played_rules rules) workers plan (others components) journal (as_mixed s) → IsRun rules workers plan components journal s
  runs-down workers journal s run =
      record { schedule = scheduled-down journal s run.schedule; quiet = (told-replaced other_at s).quiet.1 run.quiet; robin = λ alone. (robins-both journal s).1 (run.robin alone) }

  pub runs-as-it-is : RunsAsItIs rules plan components
  runs-as-it-is = record {
    starts = (starts-up, starts-down);
    only = only;
    leads = leads-both;
    prefixes = prefixes-both;
    robins = robins-both;
    scheduled = λ journal s. (scheduled-up journal s, scheduled-down journal s);
    runs = λ workers journal s. (runs-up workers journal s, runs-down workers journal s);
  }
