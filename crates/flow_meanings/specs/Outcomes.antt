-- Networks whose compositions all leave the same files. (This project's own.)
use Rattle.std.specs.Prelude.{◌≡◌, ℕ, true, List, Some, slice_get}
use Rattle.flow_catalogue.specs.declared.standard.Std.{Std}
use Rattle.flow_catalogue.specs.declared.standard.Std.TheVariants as components
use Rattle.flow_catalogue.specs.Std.{std_rules}
use Rattle.flow_model.specs.States.{State}
use Rattle.flow_model.specs.Schedules.{Journal, Leads}
use Rattle.flow_model.specs.Verdicts.{IsFinished}
use Rattle.flow_model.specs.Rising.{LeadsOn}
use Rattle.flow_model.specs.Plans.{sends_at, start_of, StartsWell}
use Rattle.flow_plan.specs.Network.{Network as Plan}
use Rattle.flow_determinate.specs.Standard.{IsDeterminate, AreFirstOf}
use Rattle.flow_meanings.specs.Means.{is_settled}
use Rattle.flow_meanings.specs.Composition.{Composes, AreFirst, wrote_in}
use Rattle.flow_meanings.specs.Chains.{RunsComponent}

-- What each of the components sends follows from what it gets.
abbrev pub AreSettled : List Std → Type 0
AreSettled ks = (p : ℕ) (component : Std) → slice_get ks p ≡ Some component → is_settled component ≡ true

-- No two outputs send to the same connection.
abbrev pub IsUnmerged : Plan → Type 0
IsUnmerged plan = (c p o q r : ℕ) → sends_at plan p o ≡ Some c → sends_at plan q r ≡ Some c → (p ≡ q) × (o ≡ r)

-- Such a network means one outcome: what a writer wrote is the same in all of its compositions.
abbrev pub OneOutcome : Type 0
OneOutcome =
    (plan : Plan) (ks : List Std) (wrote other : ℕ → List ℕ) → StartsWell std_rules plan ks → AreSettled ks → IsUnmerged plan → LeadsOn plan → Composes plan ks wrote → Composes plan ks other
    → (p : ℕ) (bytes : List ℕ) → RunsComponent plan ks p (components.WriteLines bytes) → wrote p ≡ other p

-- Whatever the schedules, two of them that finish leave the same files. (That a network finishes shows that no connection leads back.)
abbrev pub SameFiles : Type 0
SameFiles =
    (plan : Plan) (ks : List Std) (journal other : Journal) (s t : State Std) → StartsWell std_rules plan ks → AreFirst ks → AreSettled ks → IsUnmerged plan
    → Leads std_rules (start_of plan ks) journal s → IsFinished s → Leads std_rules (start_of plan ks) other t → IsFinished t
    → (p : ℕ) (bytes : List ℕ) → RunsComponent plan ks p (components.WriteLines bytes) → wrote_in s p ≡ wrote_in t p

-- Components that are those of a plan, in their first states, are in them also as their meanings have it.
abbrev pub ComponentsAreFirst : Type 0
ComponentsAreFirst = (plan : Plan) (ks : List Std) → AreFirstOf plan ks → AreFirst ks

-- Where a plan is determinate, two schedules that finish leave the same files.
abbrev pub PlanSameFiles : Type 0
PlanSameFiles =
    (plan : Plan) (ks : List Std) (journal other : Journal) (s t : State Std) → IsDeterminate plan → StartsWell std_rules plan ks → AreFirstOf plan ks
    → Leads std_rules (start_of plan ks) journal s → IsFinished s → Leads std_rules (start_of plan ks) other t → IsFinished t
    → (p : ℕ) (bytes : List ℕ) → RunsComponent plan ks p (components.WriteLines bytes) → wrote_in s p ≡ wrote_in t p
