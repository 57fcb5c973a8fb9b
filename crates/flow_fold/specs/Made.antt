-- What a component that folds makes of a stream, stretch by stretch.
use Rattle.std.specs.Prelude.{◌≡◌, ◌≢◌, ℕ, Bool, false, List, [], ◌∷◌, ◌++◌, map, if◌then◌else◌}
use Rattle.flow_packet.specs.declared.packet.Kind.{Kind}
use Rattle.flow_packet.specs.declared.packet.Kind.TheVariants.{Normal, Open, Close}
use Rattle.flow_packet.specs.Tree.{Tree, kind_of, text_of}
use Rattle.flow_component.specs.Happenings.{Happening}
use Rattle.flow_component.specs.Runs.{EndedRun, EndIsLast, HeardEnd, got, sent, text_packet}
use Rattle.flow_fold.specs.declared.folder.Stretch.{Stretch}
use Rattle.flow_fold.specs.declared.folder.Stretch.TheVariants.{Bare, Filled}
use Rattle.flow_fold.specs.Folding.{Folding, Keeps, beginning, behind, closes, is_told, folder_rules}

-- The texts of a stretch.
abbrev pub Texts : Type 0
Texts = List (List ℕ)

-- A stream cut at its brackets: the stretch before the first one, and each bracket with the stretch behind it.
pub record Cut : Type 0 where
  pub first : Texts
  pub later : List (Tree × Texts)

-- A packet of this kind before a stream that is cut: a Normal one stands in the first stretch, and behind a bracket a stretch begins.
abbrev pub cut_behind : Kind → Tree → Cut → Cut
cut_behind Normal packet cut = record cut { first = text_of packet ∷ cut.first }
cut_behind Open packet cut = record { first = []; later = (packet, cut.first) ∷ cut.later }
cut_behind Close packet cut = record { first = []; later = (packet, cut.first) ∷ cut.later }

-- The stretches of a stream.
abbrev pub stretches : List Tree → Cut
stretches [] = record { first = []; later = [] }
stretches (packet ∷ packets) = cut_behind (kind_of packet) packet (stretches packets)

-- What came of a stretch that began so and has these texts.
abbrev pub come : Stretch → Texts → Stretch
come stretch [] = stretch
come stretch (text ∷ texts) = Filled

-- The packets that are told of a stretch that began so and has these texts, by what is told of texts in all: something, where there is a text, and where there is none between an Open packet and the Close packet right
-- behind it; else nothing.
abbrev pub told_of : (Texts → Texts) → Stretch → Texts → Bool → List Tree
told_of folded stretch texts closed = if is_told (come stretch texts) closed then map text_packet (folded texts) else []

-- What is made of a stretch that began so, of the bracket behind it, and so on: before each bracket, and at the end, stands what is told of the stretch before it.
abbrev pub made_from : (Texts → Texts) → Stretch → Texts → List (Tree × Texts) → List Tree
made_from folded stretch texts [] = told_of folded stretch texts false
made_from folded stretch texts (next ∷ later) = told_of folded stretch texts (closes (kind_of next.0)) ++ next.0 ∷ made_from folded (behind (kind_of next.0)) next.1 later

-- What is made of a stream.
abbrev pub made_of : (Texts → Texts) → List Tree → List Tree
made_of folded stream = made_from folded Bare (stretches stream).first (stretches stream).later

module _ {K S : Type 0} (folding : Folding K S) where
  -- Taken one after another, the texts lead from one state to another.
  abbrev pub Leads : K → S → Texts → S → Type 0
  Leads kind state [] last = last ≡ state
  Leads kind state (text ∷ texts) last = (next : S) × (folding.takes kind state text ≡ Keeps next) × Leads kind next texts last

  -- This is told of the texts of a stretch, in all: what is told of the state to which they lead from the start.
  abbrev pub IsFolded : (K → Texts → Texts) → Type 0
  IsFolded folded = (kind : K) (texts : Texts) (state : S) → Leads kind (folding.start kind) texts state → folding.tells kind state ≡ folded kind texts

  -- The meaning of such a component, over whole runs: it sends what is made of its stream.
  abbrev pub FolderMeaning : (K → Texts → Texts) → Type 0
  FolderMeaning folded = (kind : K) (told : List Happening) → EndedRun (folder_rules folding) (beginning folding kind Bare) told → EndIsLast 0 told → sent 0 told ≡ made_of (folded kind) (got 0 told)

  -- One that was started and has come to its end has heard the end of its input.
  abbrev pub FolderHears : Type 0
  FolderHears = (kind : K) (told : List Happening) → EndedRun (folder_rules folding) (beginning folding kind Bare) told → told ≢ [] → HeardEnd 0 told
