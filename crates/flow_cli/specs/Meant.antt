-- What a network means, without a word of turns or states: streams on its connections of which each process makes what its kind
-- means, and files that are what its writers make of theirs.
use Rattle.std.specs.Prelude.{◌≡◌, ◌⊎◌, ℕ, List, []}
use Rattle.std.specs.declared.option.Option.{Option}
use Rattle.flow_text.specs.Edge.{Name}
use Rattle.flow_words.specs.Words.{AskedRun, run_of, Check, Judge, Replay, Make, Page}
use Rattle.flow_words.specs.declared.asked.Page.{Page as PageName}
use Rattle.flow_model.specs.Rising.{LeadsOn}
use Rattle.flow_played.specs.Others.{others}
use Rattle.flow_offer.specs.Processes.{own_processes}
use Rattle.flow_load.specs.Offers.{specs_of}
use Rattle.flow_catalogue.specs.declared.standard.Std.{Std}
use Rattle.flow_report.specs.Text.{Told as Report}
use Rattle.flow_meanings.specs.Composition.{Composes}
use Rattle.flow_load.specs.Reads.{Asks}
use Rattle.flow_load.specs.Causes.{Work}
use Rattle.flow_load.specs.Runs.{bytes_in}
use Rattle.flow_cli.specs.Top.{IsWhole}

-- The run that was asked for was made, and all its files were written whole. Of this one network and this one run, where no process is of a kind of the caller's own, its writers' files are
-- what the network means, on what its input files gave; and no connection leads back, so that the meaning is one of streams that come to an end.
pub record IsMeant (w : Work) (asked : AskedRun) : Type 0 where
  pub report : Report
  pub whole : IsWhole w asked report
  pub composes : own_processes (specs_of w.own) whole.plan ≡ [] → (standard : List Std) × (whole.run.components ≡ others standard) × Composes whole.plan standard (bytes_in whole.last)
  pub leads_on : LeadsOn whole.plan

-- Something else than a run was asked for, and no name has changed.
pub record ChangesNoName (w : Work) : Type 0 where
  pub asks : ((name : Name) × Asks w.words (Check name)) ⊎ ((name : Name) × (kept : Name) × (tapes : Option Name) × Asks w.words (Replay name kept tapes)) ⊎ ((number : ℕ) × (workers : ℕ) × Asks w.words (Make number workers)) ⊎ ((name : Name) × Asks w.words (Judge name)) ⊎ ((page : PageName) × Asks w.words (Page page))
  pub files : w.after.files ≡ w.before.files
  pub created : w.after.created ≡ w.before.created

-- A run that finished left the files that its network means, where all its processes are of standard kinds; nothing else leaves any.
abbrev pub LeavesMeaning : Work → Type 0
LeavesMeaning w = ((asked : AskedRun) × Asks w.words (run_of asked) × IsMeant w asked) ⊎ ChangesNoName w
