-- The name of an option port, kind by kind of the table.
use Rattle.std.proofs.Common.{◌≡◌, ℕ, ◌+◌, ◌<◌, ◌≤◌, Bool, true, false, if◌then◌else◌, List, [], ◌∷◌, length, get_or, drop, sym, ◌∙◌, ap, bytes_eq}
use Rattle.std.proofs.lemmas.List.{drop_more, drop_all}
use Rattle.flow_plan.specs.declared.kind.KindSpec.{KindSpec}
use Rattle.flow_drawing.specs.Drawings.{option_at, option_name}

-- the first kind that is left decides where it has the name
front : (kinds : List KindSpec) (i : ℕ) (kind : KindSpec) (name : List ℕ) (place : ℕ) → i < length kinds → kind ≡ get_or kinds i kind
    → option_name (drop i kinds) name place ≡ (if bytes_eq kind.name name then option_at kind place else option_name (drop (i + 1) kinds) name place)
front kinds i kind name place below is =
    ap (λ (l : List KindSpec). option_name l name place) (drop_more kinds i kind below ∙ ap (λ (k : KindSpec). k ∷ drop (i + 1) kinds) (sym is))

-- it hasn't
pub name-past : (kinds : List KindSpec) (i : ℕ) (kind : KindSpec) (name : List ℕ) (place : ℕ) (whole : List ℕ) → i < length kinds → kind ≡ get_or kinds i kind
    → bytes_eq kind.name name ≡ false → option_name (drop i kinds) name place ≡ whole → option_name (drop (i + 1) kinds) name place ≡ whole
name-past kinds i kind name place whole below is differs so_far =
    sym (front kinds i kind name place below is ∙ ap (λ (b : Bool). if b then option_at kind place else option_name (drop (i + 1) kinds) name place) differs) ∙ so_far

-- it has
pub name-here : (kinds : List KindSpec) (i : ℕ) (kind : KindSpec) (name : List ℕ) (place : ℕ) (found whole : List ℕ) → i < length kinds → kind ≡ get_or kinds i kind
    → bytes_eq kind.name name ≡ true → found ≡ option_at kind place → option_name (drop i kinds) name place ≡ whole → found ≡ whole
name-here kinds i kind name place found whole below is same at so_far =
    at ∙ sym (front kinds i kind name place below is ∙ ap (λ (b : Bool). if b then option_at kind place else option_name (drop (i + 1) kinds) name place) same) ∙ so_far

-- no kind is left
pub name-none : (kinds : List KindSpec) (i : ℕ) (name : List ℕ) (place : ℕ) (whole : List ℕ) → length kinds ≤ i → option_name (drop i kinds) name place ≡ whole → [] ≡ whole
name-none kinds i name place whole past so_far = sym (ap (λ (l : List KindSpec). option_name l name place) (drop_all i kinds past)) ∙ so_far
