-- How many turns a run makes.
use Rattle.std.specs.Prelude.{◌≡◌, ℕ, List}
use Rattle.flow_machine.specs.Values.{NetValue}
use Rattle.flow_machine.specs.Logs.{turns_made}
use Rattle.flow_machine.specs.Solo.{Goes, round_robin}
use Rattle.flow_catalogue.specs.declared.standard.Std.{Std}
use Rattle.flow_catalogue.specs.Std.{std_rules}
use Rattle.flow_rig.specs.Networks.{HasStarted}

-- The network of this text, each reader on these bytes, goes round from its start until no process has a turn, and makes so many turns in all.
pub record MakesTurns (text bytes : List ℕ) (turns : ℕ) : Type 0 where
  pub start : NetValue Std
  pub last : NetValue Std
  pub started : HasStarted text bytes start
  pub ran : Goes std_rules (round_robin std_rules) start (turns_made start) last (turns_made last)
  pub counted : turns ≡ turns_made last
