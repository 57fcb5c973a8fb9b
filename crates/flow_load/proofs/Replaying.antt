-- Why the turns of a journal aren't made again.
use Rattle.std.proofs.Common.{◌≡◌, ℕ, List, sym, subst}
use Rattle.flow_plan.specs.Network.{Network}
use Rattle.flow_machine.specs.Values.{NetValue}
use Rattle.flow_model.specs.Plans.{start_of}
use Rattle.flow_journal.specs.Replays.{schedule_of, StopsFrom, StopsAtTurn}
use Rattle.flow_journal.specs.declared.refusal.Refusal.{Refusal as NoTurn}
use Rattle.flow_journal.specs.declared.refusal.ReplayStop.{ReplayStop}
use Rattle.flow_journal.specs.declared.refusal.ReplayStop.TheVariants as replays
use Rattle.flow_journal.specs.declared.merge.Journal.{Journal}
use Rattle.flow_load.specs.Offers.{AnyKind, net_rules}
use Rattle.flow_load.specs.Stops.{stop_of_replay}
use Rattle.flow_load.specs.declared.stop.Stop.{Stop}
use Rattle.flow_load.specs.Causes.{StopsAgain}

-- A replay that stops has stopped from the start of the plan.
pub stopped-again : (plan : Network) (components : List AnyKind) (start : NetValue AnyKind) (journal : Journal) (stop : ReplayStop) (result : Stop)
    → ((place p : ℕ) (refusal : NoTurn) → StopsFrom net_rules start journal (replays.NoTurn place p refusal) → StopsAtTurn net_rules (start_of plan components) (schedule_of journal) place p refusal)
    → StopsFrom net_rules start journal stop → result ≡ stop_of_replay stop → StopsAgain plan components journal result
stopped-again plan components start journal (replays.NoTurn place p refusal) result law stops is =
    subst (λ (s : Stop). StopsAgain plan components journal s) (sym is) (law place p refusal stops)
stopped-again plan components start journal replays.NoMemory result law stops is = subst (λ (s : Stop). StopsAgain plan components journal s) (sym is) tt
