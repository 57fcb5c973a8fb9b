-- The places of the names of subnets, with one more subnet.
use Rattle.std.proofs.Common.{◌≡◌, ℕ, ◌+◌, ◌<◌, true, false, cond, List, take, length, get_or, Option, Some, None, refl, sym, ap, subst, ◌∙◌, arith}
use Rattle.std.specs.Prelude.{is_some, position}
use Rattle.std.specs.Str.{bytes_eq}
use Rattle.std.proofs.lemmas.List.{length-take-le}
use Rattle.flow_parse.specs.declared.value.NetPart.{NetPart}
use Rattle.flow_parse.proofs.PlaceLaws.{one_place_more, one_name_again}
use Rattle.flow_expand.proofs.Places.{take_more}

abbrev key : List ℕ × NetPart → List ℕ
key s = s.0

module _ (rows : List (List ℕ × NetPart)) (i : ℕ) (row : List ℕ × NetPart) (own : List ℕ) (old : List ℕ → Option ℕ) (named : own ≡ row.0) (below : i < length rows) (here : row ≡ get_or rows i row) (before : (name : List ℕ) → old name ≡ position (λ (s : List ℕ × NetPart). bytes_eq s.0 name) (take i rows)) where
  -- Its name is new, and gets its place.
  pub new_name : (new : List ℕ → Option ℕ) → old own ≡ None → ((other : List ℕ) → new other ≡ cond (bytes_eq own other) (Some i) (old other)) → (name : List ℕ) → new name ≡ position (λ (s : List ℕ × NetPart). bytes_eq s.0 name) (take (i + 1) rows)
  new_name new none put name =
      let all : (other : List ℕ) → new other ≡ cond (bytes_eq row.0 other) (Some i) (old other) = subst (λ (n : List ℕ). (other : List ℕ) → new other ≡ cond (bytes_eq n other) (Some i) (old other)) named put in
      one_place_more key (take i rows) row old new i before all (sym (length-take-le i rows (omega (arith, below)))) (sym (before row.0) ∙ ap old (sym named) ∙ none) name
      ∙ ap (position (λ (s : List ℕ × NetPart). bytes_eq s.0 name)) (take_more rows i row below here)

  -- One before it has its name, and keeps its place.
  pub old_name : (o : Option ℕ) → old own ≡ o → is_some o ≡ true → (name : List ℕ) → old name ≡ position (λ (s : List ℕ × NetPart). bytes_eq s.0 name) (take (i + 1) rows)
  old_name None there some name = absurd cc
  old_name (Some j) there some name = one_name_again key (take i rows) row old j before (ap old (sym named) ∙ there) name ∙ ap (position (λ (s : List ℕ × NetPart). bytes_eq s.0 name)) (take_more rows i row below here)

-- What isn't there is `None`.
pub is_none : (o : Option ℕ) → is_some o ≡ false → o ≡ None
is_none None e = refl
is_none (Some n) e = absurd cc
