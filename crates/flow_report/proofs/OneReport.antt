-- One report at most tells of a state.
use Rattle.std.proofs.Common.{◌≡◌, ℕ, ◌++◌, List, refl, sym, ap, ◌∙◌, subst, slice_get}
use Rattle.flow_model.specs.declared.Stage.TheVariants as stages
use Rattle.flow_model.specs.States.{State}
use Rattle.flow_model.specs.Verdicts.{AllEnded, SomeFailed, IsDeadlock}
use Rattle.flow_model.proofs.Judging.{ended-quiet}
use Rattle.flow_plan.specs.Network.{Network}
use Rattle.flow_cycle.specs.declared.Waits.{Waits}
use Rattle.flow_cycle.proofs.Deadlocks.{waits-named}
use Rattle.flow_cycle.proofs.Walking.{one-cycle}
use Rattle.flow_report.specs.declared.report.Verdict.{Verdict}
use Rattle.flow_report.specs.declared.report.Verdict.TheVariants.{Finished, FinishedLeft, Deadlock, Failed, Running}
use Rattle.flow_report.specs.Text.{Told}
use Rattle.flow_report.specs.States.{IsVerdict, TellsWaits, TellsOf, HasOneReport}

none-failed : {K : Type 0} (s : State K) → AllEnded s → SomeFailed s → ⊥
none-failed s all failed = (let h : stages.Ended ≡ stages.Failed failed.2 = sym (all failed.0 failed.1 failed.3) ∙ failed.4 in cc)

-- No two verdicts hold of a state.
one-verdict : {K : Type 0} (s : State K) (a b : Verdict) → IsVerdict s a → IsVerdict s b → a ≡ b
one-verdict s Finished Finished x y = refl
one-verdict s Finished FinishedLeft x y = absurd (y.1 x.1)
one-verdict s Finished Deadlock x y = absurd (y.2 x.0)
one-verdict s Finished Failed x y = absurd (none-failed s x.0 y.1)
one-verdict s Finished Running x y = absurd (y (ended-quiet s x.0))
one-verdict s FinishedLeft Finished x y = absurd (x.1 y.1)
one-verdict s FinishedLeft FinishedLeft x y = refl
one-verdict s FinishedLeft Deadlock x y = absurd (y.2 x.0)
one-verdict s FinishedLeft Failed x y = absurd (none-failed s x.0 y.1)
one-verdict s FinishedLeft Running x y = absurd (y (ended-quiet s x.0))
one-verdict s Deadlock Finished x y = absurd (x.2 y.0)
one-verdict s Deadlock FinishedLeft x y = absurd (x.2 y.0)
one-verdict s Deadlock Deadlock x y = refl
one-verdict s Deadlock Failed x y = absurd (x.1 y.1)
one-verdict s Deadlock Running x y = absurd (y x.0)
one-verdict s Failed Finished x y = absurd (none-failed s y.0 x.1)
one-verdict s Failed FinishedLeft x y = absurd (none-failed s y.0 x.1)
one-verdict s Failed Deadlock x y = absurd (y.1 x.1)
one-verdict s Failed Failed x y = refl
one-verdict s Failed Running x y = absurd (y x.0)
one-verdict s Running Finished x y = absurd (x (ended-quiet s y.0))
one-verdict s Running FinishedLeft x y = absurd (x (ended-quiet s y.0))
one-verdict s Running Deadlock x y = absurd (x y.0)
one-verdict s Running Failed x y = absurd (x y.0)
one-verdict s Running Running x y = refl

neither : {K : Type 0} (plan : Network) (s : State K) (a b : List Waits) → TellsWaits plan s a → TellsWaits plan s b → (IsDeadlock s → ⊥) → a ≡ b
neither plan s a b x y not = x.none not ∙ sym (y.none not)

-- In a deadlock one cycle is told, and in any other state none is.
one-waits : {K : Type 0} (plan : Network) (s : State K) (verdict : Verdict) (a b : List Waits) → IsVerdict s verdict → TellsWaits plan s a → TellsWaits plan s b → a ≡ b
one-waits plan s Deadlock a b is x y = one-cycle plan s.kept (waits-named plan s.kept) a b (x.cycle is) (y.cycle is)
one-waits plan s Finished a b is x y = neither plan s a b x y (λ deadlock. deadlock.2 is.0)
one-waits plan s FinishedLeft a b is x y = neither plan s a b x y (λ deadlock. deadlock.2 is.0)
one-waits plan s Failed a b is x y = neither plan s a b x y (λ deadlock. deadlock.1 is.1)
one-waits plan s Running a b is x y = neither plan s a b x y (λ deadlock. is deadlock.0)

-- All that is told is one.
pub one-report : {K : Type 0} (s : State K) → HasOneReport s
one-report s = λ plan told other x y.
    let verdict : told.verdict ≡ other.verdict = one-verdict s told.verdict other.verdict x.verdict y.verdict in
    let processes : told.processes ≡ other.processes = x.processes ∙ sym y.processes in
    let connections : told.connections ≡ other.connections = x.connections ∙ sym y.connections in
    let blocked : told.blocked ≡ other.blocked = x.blocked ∙ sym y.blocked in
    let waits : told.waits ≡ other.waits = one-waits plan s told.verdict told.waits other.waits x.verdict x.waits y.waits in
    let failed : told.failed ≡ other.failed = x.failed ∙ sym y.failed in
    let left : told.left ≡ other.left = x.left ∙ sym y.left in
    let turns : told.turns ≡ other.turns = x.turns ∙ sym y.turns in
    let made : told.made ≡ other.made = x.made ∙ sym y.made in
    let dropped : told.dropped ≡ other.dropped = x.dropped ∙ sym y.dropped in
    λ i. record {
      verdict = verdict i;
      processes = processes i;
      connections = connections i;
      blocked = blocked i;
      waits = waits i;
      failed = failed i;
      left = left i;
      turns = turns i;
      made = made i;
      dropped = dropped i;
    }
