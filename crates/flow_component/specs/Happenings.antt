-- What happens to a component between its answers: what it was told, with the port and the packet that moved.
use Rattle.std.specs.Prelude.{ℕ}
use Rattle.flow_packet.specs.Tree.{Tree, id_of}
use Rattle.flow_component.specs.declared.Answer.{Answer}
use Rattle.flow_component.specs.declared.Answer.TheVariants as answers

-- It was started; it got a packet at an input, or heard the end there; its packet was sent at an output; or it learned how
-- full an output is. (This project's own division of Morrison's activation into answers.)
pub data Happening : Type 0 where
  Started : Happening
  Received : (port : ℕ) → (packet : Tree) → Happening
  Ended : (port : ℕ) → Happening
  Sent : (port : ℕ) → (packet : Tree) → Happening
  Learned : (port level : ℕ) → Happening

-- The answer that the component is told.
abbrev pub answer_of : Happening → Answer
answer_of Started = answers.Start
answer_of (Received port packet) = answers.Got (id_of packet)
answer_of (Ended port) = answers.End
answer_of (Sent port packet) = answers.Sent
answer_of (Learned port level) = answers.Level level
