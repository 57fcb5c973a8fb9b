-- Whole runs of a network with components of the caller's own are those of its players.
use Rattle.std.proofs.Common.{ℕ, List, subst}
use Rattle.std.specs.List.{All}
use Rattle.flow_component.specs.Laws.{Rules}
use Rattle.flow_plan.specs.Network.{Network as Plan}
use Rattle.flow_own.specs.declared.tape.Entry.{Entry}
use Rattle.flow_own.specs.Mixed.{Mixed, mixed_rules}
use Rattle.flow_model.specs.States.{State}
use Rattle.flow_model.specs.Schedules.{Journal, Leads}
use Rattle.flow_model.specs.Robin.{RoundRobin}
use Rattle.flow_model.specs.Plans.{start_of}
use Rattle.flow_model.specs.Laws.{KeepsPrefixes, LeadsToOneState}
use Rattle.flow_model.specs.Replaced.{OfEach}
use Rattle.flow_model.proofs.Replacing.{replaced-leads}
use Rattle.flow_played.specs.Rules.{played_rules}
use Rattle.flow_played.specs.Played.{played_by, played, TapesOf}
use Rattle.flow_played.specs.Runs.{IsFresh, players, PlayersEndAlike, PlaysSchedules, PlaysWholeRuns}
use Rattle.flow_played.proofs.Functions.{players-are-functions}
use Rattle.flow_played.proofs.Mimicry.{IsBehind, mimics, behind}
use Rattle.flow_played.proofs.Robins.{robin-replaced}
use Rattle.flow_played.proofs.ToldAlike.{told-replaced}
use Rattle.flow_played.proofs.Starting.{players-stand, players-start-well}

module _ {K : Type 0} (rules : Rules K) where
  all-behind : (tapes : ℕ → List Entry) (s : State (Mixed K)) → TapesOf tapes s → OfEach (IsBehind tapes) s
  all-behind tapes s each = λ p x there. behind rules tapes p x.component (each p x there)

  -- what a schedule with the parts is with their players
  start-leads : (tapes : ℕ → List Entry) (plan : Plan) (components : List (Mixed K)) (journal : Journal) (last : State (Mixed K)) → All IsFresh components → TapesOf tapes last → Leads (mixed_rules rules) (start_of plan components) journal last
      → Leads (played_rules rules) (start_of plan (players tapes components)) journal (played tapes last)
  start-leads tapes plan components journal last fresh each leads =
      let to = replaced-leads (mixed_rules rules) (played_rules rules) (IsBehind tapes) (played_by tapes) (mimics rules tapes) journal (start_of plan components) last leads (all-behind tapes last each) in
      subst (λ (s : State (Mixed K)). Leads (played_rules rules) s journal (played tapes last)) (players-stand tapes plan components fresh) to

  pub end-alike : LeadsToOneState (played_rules rules) → PlayersEndAlike rules
  end-alike leads_to_one one tapes plan components journal last last' fresh each leads other =
      leads_to_one (players-are-functions rules one) (start_of plan (players tapes components)) journal last' (played tapes last) other (start-leads tapes plan components journal last fresh each leads)

  pub plays-schedules : KeepsPrefixes (played_rules rules) → PlaysSchedules rules
  plays-schedules keeps tapes plan components journal last well fresh each schedule =
      record {
        leads = start-leads tapes plan components journal last fresh each schedule.leads;
        prefixes = λ front mid prefix. keeps plan (players tapes components) journal front (played tapes last) mid (players-start-well rules tapes plan components well) prefix;
      }

  pub plays-whole-runs : KeepsPrefixes (played_rules rules) → PlaysWholeRuns rules
  plays-whole-runs keeps tapes workers plan components journal last well fresh each run = record {
    schedule = plays-schedules keeps tapes plan components journal last well fresh each run.schedule;
    quiet = (told-replaced (played_by tapes) last).quiet.0 run.quiet;
    robin = λ none.
        (let robin = robin-replaced (mixed_rules rules) (played_rules rules) (IsBehind tapes) (played_by tapes) (mimics rules tapes) (start_of plan components) journal last (run.robin none) (all-behind tapes last each) in
        subst (λ (s : State (Mixed K)). RoundRobin (played_rules rules) s journal (played tapes last)) (players-stand tapes plan components fresh) robin);
  }
