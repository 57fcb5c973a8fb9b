-- What makes a mapping of the simpler sorts one.
use Rattle.std.proofs.Common.{◌≡◌, ℕ, ◌≤◌, List, Option, Some, None, refl}
use Rattle.flow_map.specs.Mapping.{Next, IsWithin, IsMapping}
use Rattle.flow_map.specs.Becoming.{Becoming, with_next, IsBecoming}
use Rattle.flow_map.specs.Plain.{plain_mapping, once_next, once, once_mapping, once_becoming}

once-within : (new : Option (List ℕ)) → IsWithin 0 (once_next new)
once-within None = tt
once-within (Some text) = tt

once-becomes : (new : Option (List ℕ)) (more : ℕ → Becoming) → once new ≡ with_next (once_next new) more
once-becomes None more = refl
once-becomes (Some text) more = refl

module _ {K : Type 0} where
  -- From a place of a text it goes on to another: then it is one.
  pub plain_laws : (last_place : K → List ℕ → ℕ) (next : K → List ℕ → ℕ → Next) → ((own : K) (text : List ℕ) (place : ℕ) → place ≤ last_place own text → IsWithin (last_place own text) (next own text place))
      → IsMapping (plain_mapping last_place next)
  plain_laws last_place next within = record { stays = λ own kind text. refl; within = within }

  -- A mapping by new texts is one.
  pub once_laws : (new_text : K → List ℕ → Option (List ℕ)) → IsMapping (once_mapping new_text)
  once_laws new_text = plain_laws (λ own text. 0) (λ own text place. once_next (new_text own text)) (λ own text place w. once-within (new_text own text))

  -- And this becomes of each text by it.
  pub once_becomes : (new_text : K → List ℕ → Option (List ℕ)) → IsBecoming (once_mapping new_text) (once_becoming new_text)
  once_becomes new_text own text place w = once-becomes (new_text own text) (once_becoming new_text own text)
