-- The kind that joins the texts of a stretch.
use Rattle.flow_limits.specs.declared.TheConstants.{TEXT_LIMIT}
use Rattle.std.specs.Prelude.{ℕ, Bool, false, true, List, [], ◌∷◌, ◌++◌, length, nat_lt, if◌then◌else◌}
use Rattle.flow_component.specs.declared.Fail.TheVariants.{TextLimit}
use Rattle.flow_fold.specs.Folding.{Folding, Taken, Keeps, Refuses}
use Rattle.flow_fold.specs.Made.{Texts, FolderMeaning}

-- The texts one after another, with this one between each two.
abbrev pub glued : List ℕ → Texts → List ℕ
glued between [] = []
glued between (text ∷ []) = text
glued between (text ∷ next ∷ texts) = text ++ between ++ glued between (next ∷ texts)

-- Whether a text came, and what was joined so far.
pub record GluedState : Type 0 where
  pub begun : Bool
  pub text : List ℕ

-- What was joined, with one text more.
abbrev pub added : List ℕ → GluedState → List ℕ → List ℕ
added between state text = state.text ++ (if state.begun then between else []) ++ text

-- A text is added, unless what was joined would be longer than a packet's text may be.
abbrev pub glue_takes : List ℕ → GluedState → List ℕ → Taken GluedState
glue_takes between state text = if nat_lt TEXT_LIMIT (length (added between state text)) then Refuses (TextLimit (length (added between state text))) else Keeps (record { begun = true; text = added between state text })

-- How a Glue folds: one packet is told of a stretch, with what was joined.
abbrev pub glue_folding : Folding (List ℕ) GluedState
glue_folding = record {
  start = λ between. record { begun = false; text = [] };
  takes = glue_takes;
  tells = λ between state. state.text ∷ [];
}

-- What a Glue tells of the texts of a stretch: one text, of them all. Of a substream without a text that is the empty one.
abbrev pub glue_folded : List ℕ → Texts → Texts
glue_folded between texts = glued between texts ∷ []

-- A Glue sends what is made of its stream so: each stretch that has a text, and each substream that is empty, as one packet.
abbrev pub GlueMeaning : Type 0
GlueMeaning = FolderMeaning glue_folding glue_folded
