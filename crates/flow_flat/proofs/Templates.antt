-- Whether each template of a network is one for its pattern can be decided, and there is one at most that is the first that isn't.
use Rattle.std.proofs.Common.{◌≡◌, ℕ, ◌+◌, ◌<◌, ◌≤◌, ◌==◌, Bool, true, false, List, [], ◌∷◌, ◌++◌, length, drop, zero, suc, slice_index, Option, Some, None, option_map, if◌then◌else◌, refl, ap, sym, subst, ◌∙◌, ◌⊎◌, inl, inr, arith}
use Rattle.std.specs.Prelude.{IfSome}
use Rattle.std.specs.List.{All}
use Rattle.std.proofs.lemmas.List.Elements.{All-nil, All-cons, All-head, All-tail, All-same}
use Rattle.flow_pattern.specs.Pattern.{group_names}
use Rattle.flow_pattern.specs.Template.{called, calls, dollar_part, first_part, IsTemplate}
use Rattle.flow_pattern.specs.declared.template.Part.{Part}
use Rattle.flow_pattern.specs.declared.template.Part.TheVariants.{Byte, Group}
use Rattle.flow_pattern.proofs.Spelling.{IsReadUpTo, read_begins, read_more, read_stops, read_all}
use Rattle.flow_plan.specs.declared.kind.PortClass.TheVariants.{Pattern}
use Rattle.flow_plan.specs.Network.{Network}
use Rattle.flow_plan.specs.Texts.{IsTemplateFor}
use Rattle.flow_plan.specs.Templates.{TemplateGiven, Fits, TemplatesFit, FirstUnfit, templates}
use Rattle.flow_flat.proofs.Classes.{Dec, dec_and, dec_le, dec_class}

-- Where a text begins with a part, some bytes spell it.
abbrev TakesSome : Option (Part × ℕ) → Type 0
TakesSome found = IfSome found (λ found. 0 < found.1)

module _ (names : List (Option (List ℕ))) where
  call_takes : (name : Option (List ℕ × ℕ)) → TakesSome (calls names name)
  call_takes None = tt
  call_takes (Some name) = by (called names name.0) where
    by : (group : Option ℕ) → TakesSome (option_map (λ n. (Group n, name.1 + 1)) group)
    by None = tt
    by (Some n) = omega arith

  dollar_takes : (rest : List ℕ) → TakesSome (dollar_part names rest)
  dollar_takes rest = by (slice_index rest 0 == 36) _ where
    by : (again : Bool) (name : Option (List ℕ × ℕ)) → TakesSome (if again then Some (Byte 36, 2) else calls names name)
    by true name = omega arith
    by false name = call_takes name

  part_takes : (text : List ℕ) → TakesSome (first_part names text)
  part_takes [] = tt
  part_takes (byte ∷ rest) = by (byte == 36) where
    by : (dollar : Bool) → TakesSome (if dollar then dollar_part names rest else Some (Byte byte, 1))
    by true = dollar_takes rest
    by false = omega arith

module _ (pattern text : List ℕ) where
  -- These parts are read up to a place, and so many bytes are left at most.
  dec_from : (left place : ℕ) (parts : List Part) → IsReadUpTo (group_names pattern) text parts place → length text ≤ place + left → Dec (IsTemplate pattern text)
  dec_from zero place parts read few = inl (parts, read_all (group_names pattern) text parts place read (omega arith))
  dec_from (suc left) place parts read few = by (dec_le (length text) place) (λ part n more taken. dec_from left (place + n) (parts ++ part ∷ []) more (omega arith)) where
    next : place < length text → ((part : Part) (n : ℕ) → IsReadUpTo (group_names pattern) text (parts ++ part ∷ []) (place + n) → 0 < n → Dec (IsTemplate pattern text))
        → (found : Option (Part × ℕ)) → first_part (group_names pattern) (drop place text) ≡ found → TakesSome found → Dec (IsTemplate pattern text)
    next inside behind None is takes = inr (λ template. read_stops (group_names pattern) text parts place read is inside template.0 template.1)
    next inside behind (Some found) is takes = behind found.0 found.1 (read_more (group_names pattern) text parts place read found.0 found.1 is inside) takes

    by : Dec (length text ≤ place) → ((part : Part) (n : ℕ) → IsReadUpTo (group_names pattern) text (parts ++ part ∷ []) (place + n) → 0 < n → Dec (IsTemplate pattern text)) → Dec (IsTemplate pattern text)
    by (inl over) behind = inl (parts, read_all (group_names pattern) text parts place read over)
    by (inr inside) behind = next (grind (arith, inside)) behind (first_part (group_names pattern) (drop place text)) refl (part_takes (group_names pattern) (drop place text))

  dec_template : Dec (IsTemplate pattern text)
  dec_template = dec_from (length text) 0 [] (read_begins (group_names pattern) text) (omega arith)

-- Whether a text is a template for a pattern can be decided.
dec_for : (pattern : Option (List ℕ)) (text : List ℕ) → Dec (IsTemplateFor pattern text)
dec_for None text = inr (λ none. none)
dec_for (Some pattern) text = dec_and (dec_class Pattern pattern) (dec_template pattern text)

-- This one of a list is the first that isn't one for its pattern.
abbrev IsFirstUnfit : List TemplateGiven → TemplateGiven → Type 0
IsFirstUnfit given template = (before behind : List TemplateGiven) × (given ≡ before ++ template ∷ behind) × All Fits before × (Fits template → ⊥)

all_or_first : (given : List TemplateGiven) → All Fits given ⊎ ((template : TemplateGiven) × IsFirstUnfit given template)
all_or_first [] = inl (All-nil Fits)
all_or_first (x ∷ xs) = by (dec_for x.pattern x.text) (all_or_first xs) where
  by : Dec (Fits x) → All Fits xs ⊎ ((template : TemplateGiven) × IsFirstUnfit xs template) → All Fits (x ∷ xs) ⊎ ((template : TemplateGiven) × IsFirstUnfit (x ∷ xs) template)
  by (inr unfit) rest = inr (x, ([], xs, refl, All-nil Fits, unfit))
  by (inl fits) (inl all) = inl (All-cons Fits x xs fits all)
  by (inl fits) (inr (template, first)) = inr (template, (x ∷ first.0, first.1, ap (λ (l : List TemplateGiven). x ∷ l) first.2, All-cons Fits x first.0 fits first.3, first.4))

-- Each template of a network is one for its pattern, or one is the first that isn't.
pub fit_or_first : (network : Network) → TemplatesFit network ⊎ ((template : TemplateGiven) × FirstUnfit network template)
fit_or_first network = by (all_or_first (templates network)) where
  by : All Fits (templates network) ⊎ ((template : TemplateGiven) × IsFirstUnfit (templates network) template) → TemplatesFit network ⊎ ((template : TemplateGiven) × FirstUnfit network template)
  by (inl all) = inl all
  by (inr (template, first)) = inr (template, record { before = first.0; behind = first.1; here = first.2; fit = first.3; unfit = first.4 })

fits_at : (before : List TemplateGiven) (template : TemplateGiven) (behind : List TemplateGiven) → All Fits (before ++ template ∷ behind) → Fits template
fits_at [] template behind all = All-head Fits template behind all
fits_at (x ∷ before) template behind all = fits_at before template behind (All-tail Fits x (before ++ template ∷ behind) all)

-- Where each is one, none is the first that isn't.
pub fit_or_unfit : (network : Network) (template : TemplateGiven) → TemplatesFit network → FirstUnfit network template → ⊥
fit_or_unfit network template all first = first.unfit (fits_at first.before template first.behind (All-same Fits (first.before ++ template ∷ first.behind) (templates network) (sym first.here) all))

same_first : (before other : List TemplateGiven) (a b : TemplateGiven) (behind rest : List TemplateGiven) → before ++ a ∷ behind ≡ other ++ b ∷ rest
    → All Fits before → All Fits other → (Fits a → ⊥) → (Fits b → ⊥) → a ≡ b
same_first [] [] a b behind rest same fit others unfit_a unfit_b = cc
same_first [] (y ∷ other) a b behind rest same fit others unfit_a unfit_b = let one : a ≡ y = cc in absurd (unfit_a (subst Fits (sym one) (All-head Fits y other others)))
same_first (x ∷ before) [] a b behind rest same fit others unfit_a unfit_b = let one : x ≡ b = cc in absurd (unfit_b (subst Fits one (All-head Fits x before fit)))
same_first (x ∷ before) (y ∷ other) a b behind rest same fit others unfit_a unfit_b =
    let tails : before ++ a ∷ behind ≡ other ++ b ∷ rest = cc in
    same_first before other a b behind rest tails (All-tail Fits x before fit) (All-tail Fits y other others) unfit_a unfit_b

-- The first that isn't is one.
pub unfit_once : (network : Network) (a b : TemplateGiven) → FirstUnfit network a → FirstUnfit network b → a ≡ b
unfit_once network a b first other = same_first first.before other.before a b first.behind other.behind (sym first.here ∙ other.here) first.fit other.fit first.unfit other.unfit
