-- The network that is made, for each number the same.
use Rattle.std.specs.Prelude.{ℕ, List, [], ◌∷◌, codes}

-- The lines of the network's text. A reader's lines are cut into words, and each word goes to three processes: to one that fills
-- narrow lines, to one that fills wide lines, and to one that counts. What comes of it goes to a file each.
unfoldable pub network_lines : List (List ℕ)
network_lines = codes "flow 1"
    ∷ codes "'in' -> FILE Read(ReadLines)"
    ∷ codes "Read OUT -> IN Words(Words)"
    ∷ codes "Words OUT -> IN Copy(Copy)"
    ∷ codes "Copy OUT[0] -> IN Narrow(Fill)"
    ∷ codes "Copy OUT[1] -> IN Wide(Fill)"
    ∷ codes "Copy OUT[2] -> IN Count(Count)"
    ∷ codes "'20' -> SIZE Narrow"
    ∷ codes "'60' -> SIZE Wide"
    ∷ codes "Narrow OUT -> IN A(WriteLines)"
    ∷ codes "Wide OUT -> IN B(WriteLines)"
    ∷ codes "Count COUNT -> IN C(WriteLines)"
    ∷ codes "'a' -> FILE A"
    ∷ codes "'b' -> FILE B"
    ∷ codes "'c' -> FILE C"
    ∷ []
