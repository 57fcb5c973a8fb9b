-- That a Rewrite maps, and what becomes of a text by it.
use Rattle.std.proofs.Common.{◌≡◌, ℕ, List, Option, Some, None, refl}
use Rattle.flow_map.specs.Mapping.{IsWithin, IsMapping}
use Rattle.flow_map.specs.Becoming.{Becoming, with_next, IsBecoming}
use Rattle.flow_map.specs.Plain.{once, once_next}
use Rattle.flow_find.specs.Rewrite.{rewritten_text, rewrite_mapping, rewrite_becoming}

within : (new : Option (List ℕ)) → IsWithin 0 (once_next new)
within None = tt
within (Some text) = tt

becomes : (new : Option (List ℕ)) (more : ℕ → Becoming) → once new ≡ with_next (once_next new) more
becomes None more = refl
becomes (Some text) more = refl

-- A Rewrite maps.
pub rewrite_laws : IsMapping rewrite_mapping
rewrite_laws = record { stays = λ own kind text. refl; within = λ own text place w. within (rewritten_text own.by text) }

-- The new text becomes of one in which the pattern matches.
pub rewrite_becomes : IsBecoming rewrite_mapping rewrite_becoming
rewrite_becomes own text place w = becomes (rewritten_text own.by text) (rewrite_becoming own text)
