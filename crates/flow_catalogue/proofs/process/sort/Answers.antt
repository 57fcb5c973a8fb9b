use Rattle.std.proofs.Common.{◌≡◌, ℕ, ◌==◌, true, false, List, [], ◌∷◌, length, Some, refl, sym, ap, ◌∙◌, subst, ◌⊎◌, inl, inr}
use Rattle.std.specs.Prelude.{codes, sum}
use Rattle.flow_plan.specs.declared.kind.PortClass.TheVariants.{Fields}
use Rattle.flow_plan.specs.Texts.{IsFields}
use Rattle.flow_sort.specs.Meanings.{fresh_sort}
use Rattle.flow_catalogue.specs.Rows.{optional_option_port}
use Rattle.flow_catalogue.specs.Processes.{fields_of, length_of_keys, option_text}
use Rattle.flow_catalogue.proofs.OptionTexts.{any-text}
use Rattle.flow_catalogue.proofs.process.sort.Goals as goal

-- a text that isn't empty is of its class
of-class : (text : List ℕ) → false ≡ (length text == 0) → (text ≡ []) ⊎ IsFields text → IsFields text
of-class [] some is = absurd (let h : false ≡ true = some in cc)
of-class (c ∷ cs) some (inl none) = absurd (cc)
of-class (c ∷ cs) some (inr is) = is

-- its keys have so many bytes
has-length : (text : List ℕ) (n : ℕ) → false ≡ (length text == 0) → n ≡ sum (fields_of text) → fresh_sort (Some n) ≡ fresh_sort (length_of_keys text)
has-length [] n some is = absurd (let h : false ≡ true = some in cc)
has-length (c ∷ cs) n some is = ap (λ (k : ℕ). fresh_sort (Some k)) is

pub fields-requires : goal.fields-requires
fields-requires c =
    let text = c.option_text-text.ensures in
    let some : false ≡ (length (option_text 0 c.args.process.now.options) == 0) = subst (λ (ts : List ℕ). false ≡ (length ts == 0)) text (c.if-is_empty.ensures {u = tt}) in
    subst IsFields (sym text) (of-class (option_text 0 c.args.process.now.options) some (any-text _ c.args.process.now.options 0 (optional_option_port (codes "FIELDS") Fields) c.requires refl refl))

pub returns : goal.returns
returns c =
    let text = c.option_text-text.ensures in
    let some : false ≡ (length (option_text 0 c.args.process.now.options) == 0) = subst (λ (ts : List ℕ). false ≡ (length ts == 0)) text (c.if-is_empty.ensures {u = tt}) in
    let bytes : c.total-bytes.result ≡ sum (fields_of (option_text 0 c.args.process.now.options)) = c.total-bytes.ensures ∙ ap sum (c.deref.ensures.value ∙ c.in_ok-lengths.ensures.fields ∙ ap fields_of text) in
    c.new-2.ensures ∙ has-length (option_text 0 c.args.process.now.options) c.total-bytes.result some bytes
