-- The kind that counts the packets of a stretch.
use Rattle.std.specs.Prelude.{ℕ, ◌+◌, ◌-◌, ◌^◌, [], ◌∷◌, length, min}
use Rattle.std.specs.Fmt.{decimal}
use Rattle.flow_fold.specs.Folding.{Folding, Keeps}
use Rattle.flow_fold.specs.Made.{Texts, FolderMeaning}

-- The number, which stands still at its greatest value.
abbrev pub counted : ℕ → ℕ
counted n = min n (2 ^ 64 - 1)

-- How a Count folds: one packet is told of a stretch, with how many texts came.
abbrev pub count_folding : {K : Type 0} → Folding K ℕ
count_folding = record {
  start = λ kind. 0;
  takes = λ kind number text. Keeps (counted (number + 1));
  tells = λ kind number. decimal number ∷ [];
}

-- What a Count tells of the texts of a stretch: how many they are, in decimal.
abbrev pub count_folded : {K : Type 0} → K → Texts → Texts
count_folded kind texts = decimal (counted (length texts)) ∷ []

-- A Count sends what is made of its stream so.
abbrev pub CountMeaning : Type 0 → Type 0
CountMeaning K = FolderMeaning (count_folding {K = K}) count_folded
