-- The component that sends the lines of a file that is given to it piece by piece. Its state is what it was given.
use Rattle.flow_limits.specs.declared.TheConstants.{TEXT_LIMIT}
use Rattle.std.specs.Prelude.{◌≡◌, ℕ, suc, Bool, true, false, ◌||◌, List, [], ◌∷◌, ◌++◌, length, take, drop, nat_lt, if◌then◌else◌}
use Rattle.std.specs.Str.Lines.{lines}
use Rattle.flow_text.specs.Lines.{line_length}
use Rattle.flow_packet.specs.declared.packet.Kind.TheVariants.{Normal}
use Rattle.flow_packet.specs.Held.{Held, next_id, with_made}
use Rattle.flow_component.specs.declared.Answer.{Answer}
use Rattle.flow_component.specs.declared.Answer.TheVariants as answers
use Rattle.flow_component.specs.declared.Wish.TheVariants.{Deactivate}
use Rattle.flow_component.specs.declared.Fail.TheVariants.{TextLimit}
use Rattle.flow_component.specs.Laws.{Rules, Outcome, Wishes, Fails}
use Rattle.flow_component.specs.Ports.{none_to_one, uses_first, send_first}

-- The bytes that it was given, first those of the lines that it made and then those that are left, and whether no more will come. The laws of components want an
-- outcome also where its next line isn't known: there it would have guessed, which no reader does.
pub record Pieces : Type 0 where
  pub gone : List ℕ
  pub left : List ℕ
  pub ended : Bool
  pub guessed : Bool

-- The next line is known: its line feed is there, or nothing follows.
abbrev pub is_sure : Pieces → Bool
is_sure pieces = pieces.ended || nat_lt (line_length pieces.left) (length pieces.left)

-- The next line is made, with its line feed where it has one.
abbrev pub after_line : Pieces → Pieces
after_line pieces = record pieces { gone = pieces.gone ++ take (suc (line_length pieces.left)) pieces.left; left = drop (suc (line_length pieces.left)) pieces.left }

-- It is given a piece more, behind all others.
abbrev pub given : Pieces → List ℕ → Pieces
given pieces piece = record pieces { left = pieces.left ++ piece }

-- It knows that no piece will come any more.
abbrev pub ended : Pieces → Pieces
ended pieces = record pieces { ended = true }

-- It makes a Normal packet of the first of these lines and sends it, and deactivates where there is none. A line that is too long for a packet is a failure.
abbrev pub reads_first : Held → Pieces → List (List ℕ) → Outcome Pieces
reads_first held pieces [] = Wishes pieces held Deactivate
reads_first held pieces (line ∷ rest) =
    if nat_lt TEXT_LIMIT (length line) then Fails pieces held (TextLimit (length line)) else Wishes (after_line pieces) (with_made held Normal line) (send_first (next_id held))

-- It goes on with its next line where that is known.
abbrev pub reads_piece : Held → Pieces → Bool → Outcome Pieces
reads_piece held pieces true = reads_first held pieces (lines pieces.left)
reads_piece held pieces false = Wishes (record pieces { guessed = true }) held Deactivate

-- Told to start, or that its line was sent, it reads the next line.
abbrev pub ReadPiecesNext : Pieces → Held → Answer → Outcome Pieces → Type 0
ReadPiecesNext pieces held answer outcome = outcome ≡ reads_piece held pieces (is_sure pieces)

-- It is started and told that its line was sent, each time with empty hands.
abbrev pub ReadPiecesReady : Pieces → Held → Answer → Type 0
ReadPiecesReady pieces held answers.Start = held.packets ≡ []
ReadPiecesReady pieces held (answers.Got id) = ⊥
ReadPiecesReady pieces held answers.End = ⊥
ReadPiecesReady pieces held answers.Sent = held.packets ≡ []
ReadPiecesReady pieces held (answers.Level n) = ⊥

-- All that a network knows of it.
abbrev pub read_pieces_rules : Rules Pieces
read_pieces_rules = record { shape = λ _. none_to_one; uses = λ _. uses_first; ready = ReadPiecesReady; next = ReadPiecesNext }
