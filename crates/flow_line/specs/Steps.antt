-- What one resume of a part that works by line comes to. (This project's own.)
use Rattle.std.specs.Prelude.{◌≡◌, ◌⊎◌, ℕ, Bool, true, false, List, [], Option, Some, None, Result, Ok, Err, is_ok}
use Rattle.flow_packet.specs.declared.packet.Kind.{Kind}
use Rattle.flow_packet.specs.declared.packet.Kind.TheVariants as kinds
use Rattle.flow_packet.specs.Tree.{Tree, text_of, kind_of}
use Rattle.flow_packet.specs.Hands.{packet_at}
use Rattle.flow_component.specs.declared.Answer.{Answer}
use Rattle.flow_component.specs.declared.Answer.TheVariants as answers
use Rattle.flow_component.specs.declared.Wish.{Wish}
use Rattle.flow_component.specs.declared.Wish.TheVariants as wishes
use Rattle.flow_own.specs.declared.part.PartStop.{PartStop}
use Rattle.flow_own.specs.declared.part.PartStop.TheVariants as parts
use Rattle.flow_own.specs.Desks.{DeskValue}
use Rattle.flow_own.specs.Parts.{Seen}
use Rattle.flow_line.specs.declared.texts.TheConstants.{DESK_FAULT, TEXT_FAULT}
use Rattle.flow_line.specs.declared.texts.LineStop.{LineStop}
use Rattle.flow_line.specs.declared.texts.LineStop.TheVariants as stops
use Rattle.flow_line.specs.declared.queue.Queue.{Queue}
use Rattle.flow_line.specs.Works.{Works}
use Rattle.flow_line.specs.Queue.{Sends, dropping}

-- What contracts see of a part that works by line: the line part with the texts that wait, and what it shows as a part.
pub record Lining (L : Type 0) : Type 0 where
  pub queue : Queue L
  pub seen : Seen

-- The texts that wait once a line part has put these: none where it stopped.
abbrev pub put_by : Result (Unit {0}) LineStop → List (List ℕ) → List (List ℕ)
put_by (Ok done) put = put
put_by (Err stop) put = []

-- It was told the end and didn't stop, or was so before.
abbrev pub ended_by : Option (List ℕ) → Result (Unit {0}) LineStop → Bool → Bool
ended_by None (Ok done) ended = true
ended_by None (Err stop) ended = ended
ended_by (Some text) result ended = ended

-- The line part was told this just now, and what it put waits.
pub record WorksOn {L : Type 0} (works : Works L) (told : Option (List ℕ)) (result : Result (Unit {0}) LineStop) (before after : Queue L) : Type 0 where
  pub put : List (List ℕ)
  pub worked : works before.part told result put after.part
  pub waits : after.waiting ≡ put_by result put
  pub heard : after.heard ≡ is_ok result
  pub ended : after.ended ≡ ended_by told result before.ended

-- The line part has heard what it is told: just now, or before memory was wanting for the answer to it.
abbrev pub HearsAs : {L : Type 0} → Works L → Bool → Option (List ℕ) → Result (Unit {0}) LineStop → Queue L → Queue L → Type 0
HearsAs works true told result before after = (result ≡ Ok tt) × (after ≡ before)
HearsAs works false told result before after = WorksOn works told result before after

abbrev pub Hears : {L : Type 0} → Works L → Option (List ℕ) → Result (Unit {0}) LineStop → Queue L → Queue L → Type 0
Hears works told result before after = HearsAs works before.heard told result before after

-- The line part has heard it, and the first text that waits then leaves.
pub record HearsAndSends {L : Type 0} (works : Works L) (told : Option (List ℕ)) (before after : Queue L) (wish : Wish) (old new : DeskValue) : Type 0 where
  pub between : Queue L
  pub hears : Hears works told (Ok tt) before between
  pub sends : Sends between after wish old new

-- A bracket is passed on.
pub record Passes {L : Type 0} (id : ℕ) (before after : Queue L) (wish : Wish) (old new : DeskValue) : Type 0 where
  pub sends : wish ≡ wishes.Send (record { 0 = 0 }) id
  pub desk : new ≡ old
  pub queue : after ≡ before

-- What comes of a packet that it got: a Normal one is dropped, and the line part hears its text.
abbrev pub TakesAs : {L : Type 0} → Works L → Kind → List ℕ → ℕ → Queue L → Queue L → Wish → DeskValue → DeskValue → Type 0
TakesAs works kinds.Normal text id before after wish old new = HearsAndSends works (Some text) before after wish (dropping old id) new
TakesAs works kinds.Open text id before after wish old new = Passes id before after wish old new
TakesAs works kinds.Close text id before after wish old new = Passes id before after wish old new

abbrev pub Takes : {L : Type 0} → Works L → Option Tree → ℕ → Queue L → Queue L → Wish → DeskValue → DeskValue → Type 0
Takes works None id before after wish old new = ⊥
Takes works (Some packet) id before after wish old new = TakesAs works (kind_of packet) (text_of packet) id before after wish old new

-- What comes of an answer that it is told.
abbrev pub Goes : {L : Type 0} → Works L → Answer → Queue L → Queue L → Wish → DeskValue → DeskValue → Type 0
Goes works answers.Start before after wish old new = Sends (record before { ended = false }) after wish old new
Goes works (answers.Got id) before after wish old new = Takes works (packet_at old.held.packets id) id before after wish old new
Goes works answers.End before after wish old new = HearsAndSends works None before after wish old new
Goes works answers.Sent before after wish old new = Sends before after wish old new
Goes works (answers.Level n) before after wish old new = Sends before after wish old new

-- The number of a failure that isn't the line part's: a text is too long, or it is told of a packet that it doesn't hold.
abbrev pub IsLibraryFault : ℕ → Type 0
IsLibraryFault number = (number ≡ TEXT_FAULT) ⊎ (number ≡ DESK_FAULT)

-- The desk didn't take an act.
abbrev pub IsRefusal : PartStop → Type 0
IsRefusal (parts.Fail number) = IsLibraryFault number
IsRefusal parts.NoMemory = Unit {0}

-- Why it came to no wish once it was to hear this: the line part failed with this number, or the library did; or memory was wanting, to the line part or behind
-- it, and then what it put waits, and it isn't told the same again.
abbrev pub Stops : {L : Type 0} → Works L → Option (List ℕ) → Queue L → Queue L → PartStop → Type 0
Stops works told before after (parts.Fail number) = Hears works told (Err (stops.Fail number)) before after ⊎ IsLibraryFault number
Stops works told before after parts.NoMemory = Hears works told (Err stops.NoMemory) before after ⊎ Hears works told (Ok tt) before after

-- The same where there was nothing to hear: it is as it was.
abbrev pub Stays : {L : Type 0} → Queue L → Queue L → PartStop → Type 0
Stays before after stop = IsRefusal stop × (after ≡ before)

-- The same of a packet that it got. A bracket never stops it.
abbrev pub TakesNoneAs : {L : Type 0} → Works L → Kind → List ℕ → Queue L → Queue L → PartStop → Type 0
TakesNoneAs works kinds.Normal text before after stop = Stops works (Some text) before after stop
TakesNoneAs works kinds.Open text before after stop = ⊥
TakesNoneAs works kinds.Close text before after stop = ⊥

abbrev pub TakesNone : {L : Type 0} → Works L → Option Tree → Queue L → Queue L → PartStop → Type 0
TakesNone works None before after stop = Stays before after stop
TakesNone works (Some packet) before after stop = TakesNoneAs works (kind_of packet) (text_of packet) before after stop

-- Why it came to no wish when it was told this answer.
abbrev pub GoesNowhere : {L : Type 0} → Works L → Answer → Queue L → Queue L → PartStop → DeskValue → Type 0
GoesNowhere works answers.Start before after stop old = Stays (record before { ended = false }) after stop
GoesNowhere works (answers.Got id) before after stop old = TakesNone works (packet_at old.held.packets id) before after stop
GoesNowhere works answers.End before after stop old = Stops works None before after stop
GoesNowhere works answers.Sent before after stop old = Stays before after stop
GoesNowhere works (answers.Level n) before after stop old = Stays before after stop

-- What one resume comes to.
abbrev pub Steps : {L : Type 0} → Works L → Answer → Result Wish PartStop → Queue L → Queue L → DeskValue → DeskValue → Type 0
Steps works told (Ok wish) before after old new = Goes works told before after wish old new
Steps works told (Err stop) before after old new = GoesNowhere works told before after stop old

-- How the stop of a line part is told.
abbrev pub stopped : LineStop → PartStop
stopped (stops.Fail number) = parts.Fail number
stopped stops.NoMemory = parts.NoMemory
