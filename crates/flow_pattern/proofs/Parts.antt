-- What parts write, one after another.
use Rattle.std.proofs.Common.{◌≡◌, ℕ, suc, All, arith, ◌+◌, ◌<◌, List, [], ◌∷◌, ◌++◌, length, take, get_or, refl, sym, ap, ◌∙◌, append_assoc, append-nil}
use Rattle.std.proofs.lemmas.Grind.{flat_map-append}
use Rattle.std.proofs.lemmas.List.{take_more}
use Rattle.flow_pattern.specs.Template.{part_text, parts_text}
use Rattle.flow_pattern.specs.declared.template.Part.{Part}
use Rattle.flow_pattern.specs.declared.template.Part.TheVariants.{Byte, Group}

-- Where each part writes the same, they all do.
pub parts_alike : (held other : ℕ → List ℕ) (parts : List Part) → All (λ (part : Part). part_text held part ≡ part_text other part) parts → parts_text held parts ≡ parts_text other parts
parts_alike held other [] each = refl
parts_alike held other (part ∷ parts) each = λ i. each 0 part (omega arith) i ++ parts_alike held other parts (λ k d inside. each (suc k) d (omega (arith, inside))) i

-- So they do where the groups hold the same.
part-same : (held other : ℕ → List ℕ) → ((n : ℕ) → held n ≡ other n) → (part : Part) → part_text held part ≡ part_text other part
part-same held other same (Byte byte) = refl
part-same held other same (Group n) = same n

pub parts_same : (held other : ℕ → List ℕ) → ((n : ℕ) → held n ≡ other n) → (parts : List Part) → parts_text held parts ≡ parts_text other parts
parts_same held other same parts = parts_alike held other parts (λ k d inside. part-same held other same (get_or parts k d))

module _ (held : ℕ → List ℕ) (parts : List Part) (index : ℕ) (d : Part) (inside : index < length parts) where
  -- One part more.
  pub one_more : parts_text held (take (index + 1) parts) ≡ parts_text held (take index parts) ++ part_text held (get_or parts index d)
  one_more =
      ap (parts_text held) (take_more parts index d inside)
      ∙ flat_map-append (part_text held) (take index parts) (get_or parts index d ∷ [])
      ∙ ap (λ (x : List ℕ). parts_text held (take index parts) ++ x) (append-nil (part_text held (get_or parts index d)))

  -- Behind what was written before.
  pub written_more : (before : List ℕ) → (before ++ parts_text held (take index parts)) ++ part_text held (get_or parts index d) ≡ before ++ parts_text held (take (index + 1) parts)
  written_more before = append_assoc before (parts_text held (take index parts)) (part_text held (get_or parts index d)) ∙ ap (λ (x : List ℕ). before ++ x) (sym one_more)
