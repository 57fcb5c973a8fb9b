-- The folding of a Glue is one, and tells what it joins.
use Rattle.flow_limits.specs.declared.TheConstants.{TEXT_LIMIT}
use Rattle.std.proofs.Common.{◌≡◌, ℕ, Bool, true, false, List, [], ◌∷◌, ◌++◌, length, nat_lt, cond, sym, subst, ap, ◌∙◌, append-nil, append_assoc}
use Rattle.flow_component.specs.declared.Fail.{Fail}
use Rattle.flow_component.specs.declared.Fail.TheVariants.{TextLimit}
use Rattle.flow_component.specs.Laws.{IsOwnCause}
use Rattle.flow_component.specs.Ports.{one_to_one}
use Rattle.flow_fold.specs.Folding.{Keeps, Refuses, IsFolding}
use Rattle.flow_fold.specs.Made.{Texts, Leads, IsFolded}
use Rattle.flow_fold.specs.Glue.{GluedState, glued, added, glue_folding, glue_folded}

refused : (long : Bool) (count : ℕ) (state : GluedState) (cause : Fail) → cond long (Refuses (TextLimit count)) (Keeps state) ≡ Refuses cause → IsOwnCause one_to_one cause
refused true count state cause e = let c : TextLimit count ≡ cause = cc in subst (IsOwnCause one_to_one) c tt
refused false count state cause e = absurd (cc)

-- The folding of a Glue is one.
pub glue_laws : IsFolding glue_folding
glue_laws = record { refuses = λ between state text cause. refused (nat_lt TEXT_LIMIT (length (added between state text))) (length (added between state text)) (record { begun = true; text = added between state text }) cause }

kept : (long : Bool) (count : ℕ) (state next : GluedState) → cond long (Refuses (TextLimit count)) (Keeps state) ≡ Keeps next → next ≡ state
kept true count state next e = absurd (cc)
kept false count state next e = cc

-- these texts, each behind the one that stands between
abbrev behind_each : List ℕ → Texts → List ℕ
behind_each between [] = []
behind_each between (text ∷ texts) = between ++ text ++ behind_each between texts

glued-first : (between text : List ℕ) (texts : Texts) → glued between (text ∷ texts) ≡ text ++ behind_each between texts
glued-first between text [] = sym (append-nil text)
glued-first between text (next ∷ texts) =
    append_assoc text between (glued between (next ∷ texts)) ∙ ap (λ (u : List ℕ). text ++ (between ++ u)) (glued-first between next texts)
    ∙ ap (λ (u : List ℕ). text ++ u) (sym (append_assoc between next (behind_each between texts)))

step : (between : List ℕ) (state next : GluedState) (text : List ℕ) → glue_folding.takes between state text ≡ Keeps next → next ≡ record { begun = true; text = added between state text }
step between state next text e = kept (nat_lt TEXT_LIMIT (length (added between state text))) (length (added between state text)) (record { begun = true; text = added between state text }) next e

joined : (between so_far : List ℕ) (texts : Texts) (last : GluedState) → Leads glue_folding between (record { begun = true; text = so_far }) texts last → last.text ≡ so_far ++ behind_each between texts
joined between so_far [] last l = ap (λ (s : GluedState). s.text) l ∙ sym (append-nil so_far)
joined between so_far (text ∷ texts) last l =
    let new = so_far ++ between ++ text in
    let e : l.0 ≡ record { begun = true; text = new } = step between (record { begun = true; text = so_far }) l.0 text l.1 in
    joined between new texts last (subst (λ (s : GluedState). Leads glue_folding between s texts last) e l.2)
    ∙ ap (λ (u : List ℕ). u ++ behind_each between texts) (append_assoc so_far between text) ∙ append_assoc so_far (between ++ text) (behind_each between texts)

all : (between : List ℕ) (texts : Texts) (last : GluedState) → Leads glue_folding between (record { begun = false; text = [] }) texts last → last.text ≡ glued between texts
all between [] last l = ap (λ (s : GluedState). s.text) l
all between (text ∷ texts) last l =
    let e : l.0 ≡ record { begun = true; text = text } = step between (record { begun = false; text = [] }) l.0 text l.1 in
    joined between text texts last (subst (λ (s : GluedState). Leads glue_folding between s texts last) e l.2) ∙ sym (glued-first between text texts)

-- It tells what it joins.
pub glue_tells : IsFolded glue_folding glue_folded
glue_tells between texts last l = ap (λ (text : List ℕ). text ∷ []) (all between texts last l)
