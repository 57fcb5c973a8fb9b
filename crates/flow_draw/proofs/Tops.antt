-- How a call ends.
use Rattle.std.proofs.Common.{◌≡◌, ◌∙◌, List, [], Some, None, ℕ, refl, sym, ap}
use Rattle.std.specs.Prelude.{String, string_bytes, map}
use Rattle.std.specs.Option.{option_map}
use Rattle.std.specs.declared.alloc.Global.{Global}
use Rattle.std.specs.declared.option.Option.{Option}
use Rattle.flow_text.specs.Edge.{Outside, Name}
use Rattle.flow_plan.specs.Network.{Network}
use Rattle.flow_plan.specs.declared.kind.KindSpec.{KindSpec}
use Rattle.flow_drawing.specs.declared.drawing.Remarks.{Remarks}
use Rattle.flow_load.specs.Step.{MayRead}
use Rattle.flow_load.specs.declared.stop.TapesRefusal.TheVariants.{Byte, Count}
use Rattle.flow_load.specs.declared.stop.Stop.{Stop}
use Rattle.flow_load.specs.declared.stop.Stop.TheVariants.{Words, Refused, NoPart, JournalRefused, TapesRefused, ReadFault, WriteFault, TooLong, NoMemory}
use Rattle.flow_load.proofs.Steps.{may-read, no-reads}
use Rattle.flow_draw.specs.Causes.{StopsFor}
use Rattle.flow_draw.specs.Draws.{Call, Ends, HasCause, IsPicture, Prints, ShowsBy}
use Rattle.flow_draw.specs.Words.{Asked, asked_by, asked_in_call, asked_of}
use Rattle.flow_draw.specs.declared.status.DrawStatus.{DrawStatus}
use Rattle.flow_draw.specs.declared.status.DrawStatus.TheVariants.{Drawn, Unwritten, Stopped}
use Rattle.flow_draw.specs.declared.words.DrawCommand.{DrawCommand}

-- What the words ask for is what the command does that was read of them.
pub asks-as : (words : List (String Global)) (found : Option DrawCommand) (command : DrawCommand)
    → option_map asked_by found ≡ asked_of (map string_bytes words) → found ≡ Some command
    → asked_in_call words ≡ Some (asked_by command)
asks-as words found command read is = sym read ∙ ap (option_map asked_by) is

-- Where nothing was read nothing but what reading changes differs.
pub nothing-read : (o : Outside) → MayRead o o
nothing-read o = may-read o o [] (no-reads o o refl)

-- What was drawn was read.
pub shown-read : (own : List KindSpec) (old new : Outside) (name : Name) (keeps : Option Name) (plan : Network) (remarks : Remarks) → ShowsBy own old new name keeps plan remarks
    → MayRead old new
shown-read own old new name None plan remarks shows = may-read old new _ shows.shelf
shown-read own old new name (Some kept) plan remarks shows = may-read old new _ shows.ready.reads

-- A stop is one of the words that ask for the drawing.
pub caused : (own : List KindSpec) (words : List (String Global)) (old new : Outside) (asked : Asked) (stop : Stop) → asked_in_call words ≡ Some asked
    → StopsFor own old new asked.net asked.journal stop → HasCause own words old new stop
caused own words old new asked (Refused refusal) asks s = (asked, asks, s)
caused own words old new asked (JournalRefused refusal) asks s = (asked, asks, s)
caused own words old new asked (ReadFault read) asks s = (asked, asks, s)
caused own words old new asked (TooLong read) asks s = (asked, asks, s)
caused own words old new asked NoMemory asks s = s
caused own words old new asked Words asks s = absurd s
caused own words old new asked (NoPart process) asks s = absurd s
caused own words old new asked (TapesRefused (Count count)) asks s = (asked, asks, s)
caused own words old new asked (TapesRefused (Byte place)) asks s = absurd s
caused own words old new asked (WriteFault written) asks s = (asked, asks, s)

-- The drawing that was made was printed, or a first part of it.
pub ends-printed : (c : Call) (picture : List ℕ) (status : DrawStatus) → IsPicture c.own c.words c.before c.after picture → Prints c.out c.out_after picture status
    → Ends c status
ends-printed c picture Drawn is prints = (picture, is, prints)
ends-printed c picture Unwritten is prints = (picture, is, prints)
ends-printed c picture (Stopped stop) is prints = absurd prints
