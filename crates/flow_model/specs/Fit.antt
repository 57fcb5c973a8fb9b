-- What a running net keeps of each state that it stands for. (This project's own.)
use Rattle.flow_limits.specs.declared.TheConstants.{HANDS_LIMIT}
use Rattle.std.specs.Prelude.{◌≡◌, ℕ, ◌≤◌, List, length, Some, slice_get}
use Rattle.flow_component.specs.Laws.{Rules}
use Rattle.flow_model.specs.States.{Process, State}
use Rattle.flow_model.specs.Valid.{Valid, AllFit, OpenSendersTell}

-- No process holds more than HANDS_LIMIT packets at the root of its hands.
abbrev pub FewAtRoot : {K : Type 0} → List (Process K) → Type 0
FewAtRoot {K} processes = (p : ℕ) (x : Process K) → slice_get processes p ≡ Some x → length x.held.packets ≤ HANDS_LIMIT

-- The state is valid, each component fits its process and each wish that stands can be granted, all hands are within their limit,
-- and the open senders are those that still have to close or that a failed process leaves open.
pub record Fit {K : Type 0} (rules : Rules K) (s : State K) : Type 0 where
  pub valid : Valid rules s
  pub all_fit : AllFit rules s.kept.processes
  pub few : FewAtRoot s.kept.processes
  pub senders : OpenSendersTell s.kept
