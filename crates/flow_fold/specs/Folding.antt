-- Components that fold: the texts of a stretch go into a state, one after another, and at the stretch's end the packets are made that are told of it. Brackets are passed on. (A stretch is the Normal packets between
-- two brackets, or between a bracket and an end of the stream. What the state is, what a text makes of it and what is told of it is each kind's own.)
use Rattle.flow_limits.specs.declared.TheConstants.{TEXT_LIMIT}
use Rattle.std.specs.Prelude.{◌≡◌, ℕ, ◌+◌, Bool, true, false, List, [], Option, Some, None, length, nat_lt, slice_get, if◌then◌else◌}
use Rattle.flow_packet.specs.declared.packet.Kind.{Kind}
use Rattle.flow_packet.specs.declared.packet.Kind.TheVariants.{Normal, Open, Close}
use Rattle.flow_packet.specs.Hands.{kind_at, text_at}
use Rattle.flow_packet.specs.Held.{Held, next_id, with_made, without_packet}
use Rattle.flow_component.specs.declared.Answer.{Answer}
use Rattle.flow_component.specs.declared.Answer.TheVariants as answers
use Rattle.flow_component.specs.declared.Fail.{Fail}
use Rattle.flow_component.specs.declared.Fail.TheVariants.{TextLimit}
use Rattle.flow_component.specs.declared.Wish.TheVariants.{Deactivate}
use Rattle.flow_component.specs.Laws.{Rules, Outcome, Wishes, Fails, IsOwnCause}
use Rattle.flow_component.specs.Ports.{one_to_one, uses_first, receive_first, send_first}
use Rattle.flow_component.specs.Alone.{HoldsOnly}
use Rattle.flow_fold.specs.declared.folder.Stretch.{Stretch}
use Rattle.flow_fold.specs.declared.folder.Stretch.TheVariants.{Bare, Opened, Filled}
use Rattle.flow_fold.specs.declared.folder.FolderPlace.{FolderPlace}
use Rattle.flow_fold.specs.declared.folder.FolderPlace.TheVariants.{Taking, Telling}

-- What comes of a state to which a text is added: the next state, or a failure.
pub data Taken (S : Type 0) : Type 0 where
  Keeps : (state : S) → Taken S
  Refuses : (cause : Fail) → Taken S

-- How a component folds.
pub record Folding (K S : Type 0) : Type 0 where
  -- The state before the first text of a stretch.
  pub start : K → S
  -- What comes of a state to which a text is added.
  pub takes : K → S → List ℕ → Taken S
  -- The texts of the packets that are told of a state, in order.
  pub tells : K → S → List (List ℕ)

-- What it keeps: its kind, the state of the stretch in hand, what came of that stretch, and whether it takes packets or tells.
pub record Folded (K S : Type 0) : Type 0 where
  pub kind : K
  pub state : S
  pub stretch : Stretch
  pub place : FolderPlace

-- It is at the beginning of a stretch.
abbrev pub beginning : {K S : Type 0} → Folding K S → K → Stretch → Folded K S
beginning folding kind stretch = record { kind = kind; state = folding.start kind; stretch = stretch; place = Taking }

-- The stretch behind a bracket, before its first text.
abbrev pub behind : Kind → Stretch
behind Normal = Bare
behind Open = Opened
behind Close = Bare

-- A bracket of this kind closes a substream.
abbrev pub closes : Kind → Bool
closes Normal = false
closes Open = false
closes Close = true

-- Whether there is anything to be told at the end of a stretch: where a text came, and where none came between an Open packet and the Close packet right behind it.
abbrev pub is_told : Stretch → Bool → Bool
is_told Bare closed = false
is_told Opened closed = closed
is_told Filled closed = true

-- A packet is made of what is told, and goes to the output. A text beyond the limit is a failure instead, and nothing is made.
abbrev pub makes : {K S : Type 0} → Folded K S → Held → List ℕ → FolderPlace → Outcome (Folded K S)
makes component held text place =
    if nat_lt TEXT_LIMIT (length text) then Fails component held (TextLimit (length text)) else Wishes (record component { place = place }) (with_made held Normal text) (send_first (next_id held))

-- The stretch is over: the bracket before which it told is passed on, and the next stretch begins; or it was the last one.
abbrev pub ends : {K S : Type 0} → Folding K S → Folded K S → Held → Option ℕ → Outcome (Folded K S)
ends folding component held None = Wishes (beginning folding component.kind Bare) held Deactivate
ends folding component held (Some bracket) = Wishes (beginning folding component.kind (behind (kind_at held.packets bracket))) held (send_first bracket)

-- It tells this text, which stands at this place of what is told before that bracket, or before the end of the stream. Behind the last text the stretch is over.
abbrev pub tells_one : {K S : Type 0} → Folding K S → Folded K S → Held → Option ℕ → ℕ → Option (List ℕ) → Outcome (Folded K S)
tells_one folding component held before told None = ends folding component held before
tells_one folding component held before told (Some text) = makes component held text (Telling before (told + 1))

-- It goes on to tell, from this place on.
abbrev pub tells_from : {K S : Type 0} → Folding K S → Folded K S → Held → Option ℕ → ℕ → Outcome (Folded K S)
tells_from folding component held before told = tells_one folding component held before told (slice_get (folding.tells component.kind component.state) told)

-- A bracket comes, or the end of the stream: what is told of the stretch comes first, if anything is.
abbrev pub closes_off : {K S : Type 0} → Folding K S → Folded K S → Held → Option ℕ → Bool → Outcome (Folded K S)
closes_off folding component held before closed = if is_told component.stretch closed then tells_from folding component held before 0 else ends folding component held before

-- A text comes, and its packet is dropped.
abbrev pub text_taken : {K S : Type 0} → Folded K S → Held → ℕ → Taken S → Outcome (Folded K S)
text_taken component held id (Keeps state) = Wishes (record component { state = state; stretch = Filled }) (without_packet held id) receive_first
text_taken component held id (Refuses cause) = Fails component held cause

-- A packet of this kind comes.
abbrev pub meets : {K S : Type 0} → Folding K S → Folded K S → Held → ℕ → Kind → Outcome (Folded K S)
meets folding component held id Normal = text_taken component held id (folding.takes component.kind component.state (text_at held.packets id))
meets folding component held id Open = closes_off folding component held (Some id) false
meets folding component held id Close = closes_off folding component held (Some id) true

-- What comes after a packet was sent.
abbrev pub goes_on : {K S : Type 0} → Folding K S → Folded K S → Held → FolderPlace → Outcome (Folded K S)
goes_on folding component held Taking = Wishes component held receive_first
goes_on folding component held (Telling before told) = tells_from folding component held before told

-- The rule, by what it is told.
abbrev pub folder_next : {K S : Type 0} → Folding K S → Folded K S → Held → Answer → Outcome (Folded K S)
folder_next folding component held answers.Start = Wishes component held receive_first
folder_next folding component held (answers.Got id) = meets folding component held id (kind_at held.packets id)
folder_next folding component held answers.End = closes_off folding component held None false
folder_next folding component held answers.Sent = goes_on folding component held component.place
folder_next folding component held (answers.Level n) = Wishes component held Deactivate

-- It takes packets.
abbrev pub IsTaking : FolderPlace → Type 0
IsTaking Taking = Unit {0}
IsTaking (Telling before told) = ⊥

-- The hands before it goes on: empty, but for the bracket before which it tells.
abbrev pub IsBefore : Held → Option ℕ → Type 0
IsBefore held None = held.packets ≡ []
IsBefore held (Some bracket) = HoldsOnly held bracket

-- Between packets its hands are empty. A bracket before which it tells is alone in them.
abbrev pub IsReadyOn : Held → FolderPlace → Type 0
IsReadyOn held Taking = held.packets ≡ []
IsReadyOn held (Telling before told) = IsBefore held before

-- What it can be told.
abbrev pub FolderReady : {K S : Type 0} → Folded K S → Held → Answer → Type 0
FolderReady component held answers.Start = IsTaking component.place × (held.packets ≡ [])
FolderReady component held (answers.Got id) = IsTaking component.place × HoldsOnly held id
FolderReady component held answers.End = IsTaking component.place × (held.packets ≡ [])
FolderReady component held answers.Sent = IsReadyOn held component.place
FolderReady component held (answers.Level n) = ⊥

-- All that a network knows of it.
abbrev pub folder_rules : {K S : Type 0} → Folding K S → Rules (Folded K S)
folder_rules folding = record {
  shape = λ component. one_to_one;
  uses = λ component. uses_first;
  ready = λ component held answer. FolderReady component held answer;
  next = λ component held answer outcome. outcome ≡ folder_next folding component held answer;
}

-- What is asked of a folding: the failures are a component's own.
pub record IsFolding {K S : Type 0} (folding : Folding K S) : Type 0 where
  pub refuses : (kind : K) (state : S) (text : List ℕ) (cause : Fail) → folding.takes kind state text ≡ Refuses cause → IsOwnCause one_to_one cause
