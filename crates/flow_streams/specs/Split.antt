-- A stream that is split among outputs, substreams whole.
use Rattle.std.specs.Prelude.{◌≡◌, ◌⊎◌, ℕ, ◌<◌, ◌==◌, List, [], ◌∷◌, map, filter}
use Rattle.flow_packet.specs.Tree.{Tree, kind_of}
use Rattle.flow_streams.specs.LoadBalance.{depth_after}

-- A packet, as content, with the output to which it goes.
pub record Routed : Type 0 where
  pub output : ℕ
  pub content : Tree

-- Where so many brackets are open, and the packet before went to this output: as long as a bracket is open, each packet goes where the one before it went.
abbrev pub StaysWhole : ℕ → ℕ → List Routed → Type 0
StaysWhole depth output [] = Unit {0}
StaysWhole depth output (routed ∷ later) = ((depth ≡ 0) ⊎ (routed.output ≡ output)) × StaysWhole (depth_after (kind_of routed.content) depth) routed.output later

-- Each packet goes to one of the first n outputs.
abbrev pub AreWithin : ℕ → List Routed → Type 0
AreWithin n [] = Unit {0}
AreWithin n (routed ∷ later) = (routed.output < n) × AreWithin n later

-- The packets that go to this output, in order.
abbrev pub going_to : ℕ → List Routed → List Tree
going_to output routes = map (λ routed. routed.content) (filter (λ routed. routed.output == output) routes)

-- The stream x is split among n outputs: each of its packets goes to one of them, in order, and those of a substream, with its brackets, to the same.
pub record IsSplit (n : ℕ) (x : List Tree) (y : ℕ → List Tree) : Type 0 where
  pub routes : List Routed
  pub all : map (λ routed. routed.content) routes ≡ x
  pub each : (output : ℕ) → output < n → y output ≡ going_to output routes
  pub within : AreWithin n routes
  pub whole : StaysWhole 0 0 routes
