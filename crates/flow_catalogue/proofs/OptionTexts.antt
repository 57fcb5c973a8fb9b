-- The options of a process, by the places of their ports in the row of its kind.
use Rattle.flow_limits.specs.declared.TheConstants.{TEXT_LIMIT}
use Rattle.std.proofs.Common.{◌≡◌, ℕ, zero, suc, ◌≤◌, Bool, true, false, List, [], ◌∷◌, length, Option, Some, None, refl, sym, ◌∙◌, ap, subst, inl, inr, ◌⊎◌, arith, slice_get}
use Rattle.std.specs.Prelude.{◌==◌, find, if◌then◌else◌, option_map, unwrap_or}
use Rattle.std.proofs.lemmas.Bool.{false≢true}
use Rattle.flow_plan.specs.declared.kind.PortSpec.{PortSpec}
use Rattle.flow_pattern.specs.Template.{IsTemplate}
use Rattle.flow_plan.specs.declared.kind.PortClass.TheVariants.{File, Template}
use Rattle.flow_plan.specs.declared.plan.Process.{Process}
use Rattle.flow_plan.specs.declared.plan.PortRow.{PortRow}
use Rattle.flow_plan.specs.declared.plan.PortTable.{PortTable}
use Rattle.flow_plan.specs.Network.{Network, is_stream}
use Rattle.flow_plan.specs.Texts.{IsOfClass, IsFileName, IsTemplateFor}
use Rattle.flow_plan.specs.Valid.{IsValid, FitsOption}
use Rattle.flow_net.specs.Over.{entries}
use Rattle.flow_net.proofs.Ends.{eqb_true}
use Rattle.flow_net.proofs.Sides.{eqb_refl}
use Rattle.flow_net.proofs.Rows.{mapped}
use Rattle.flow_catalogue.specs.Rows.{HasOptions, IsGiven, option_at, option_port}
use Rattle.flow_catalogue.specs.Processes.{option_text}
use Rattle.flow_catalogue.proofs.Tables.{only-option}
use Rattle.flow_catalogue.proofs.Templates.{fits-its-pattern}

-- the text that is found for a place stands among the options
from-option : (place : ℕ) (options : List (ℕ × List ℕ)) (text : List ℕ) → option_at place options ≡ Some text → (k : ℕ) × (slice_get options k ≡ Some (place, text))
from-option place [] text is = absurd cc
from-option place (option ∷ options) text is = by (option.0 == place) refl is (λ rest. from-option place options text rest)
  where
    by : (b : Bool) → (option.0 == place) ≡ b → option_map (λ (o : ℕ × List ℕ). o.1) (if b then Some option else find (λ (o : ℕ × List ℕ). o.0 == place) options) ≡ Some text
        → (option_at place options ≡ Some text → (k : ℕ) × (slice_get options k ≡ Some (place, text))) → (k : ℕ) × (slice_get (option ∷ options) k ≡ Some (place, text))
    by true test is rest =
        let at : option.0 ≡ place = eqb_true option.0 place test in
        let same : option.1 ≡ text = cc in
        (0, ap (λ (i : ℕ). Some (i, option.1)) at ∙ ap (λ (t : List ℕ). Some (place, t)) same)
    by false test is rest = let later = rest is in (suc later.0, later.1)

-- where a text stands among the options, one is found for its place
found-option : (options : List (ℕ × List ℕ)) (k place : ℕ) (text : List ℕ) → slice_get options k ≡ Some (place, text) → option_at place options ≡ None → ⊥
found-option [] k place text is none = cc
found-option (option ∷ options) zero place text is none =
    let at : option.0 ≡ place = (let h : option ≡ (place, text) = cc in ap (λ (o : ℕ × List ℕ). o.0) h) in
    let test : (option.0 == place) ≡ true = ap (λ (i : ℕ). i == place) at ∙ eqb_refl place in
    let h : option_at place (option ∷ options) ≡ Some option.1 = rw test refl in
    cc
found-option (option ∷ options) (suc k) place text is none = by (option.0 == place) none (λ none. found-option options k place text is none)
  where
    by : (b : Bool) → option_map (λ (o : ℕ × List ℕ). o.1) (if b then Some option else find (λ (o : ℕ × List ℕ). o.0 == place) options) ≡ None → (option_at place options ≡ None → ⊥) → ⊥
    by true none rest = cc
    by false none rest = rest none

-- A process of a valid plan has the options that the entries of its inputs ask for.
pub has-options : (n : Network) (p : ℕ) (x : Process) (table : PortTable) (specs : List PortSpec) → IsValid n → slice_get n.processes p ≡ Some x → slice_get n.tables p ≡ Some table → entries table.inputs ≡ specs → HasOptions specs x.options
has-options n p x table specs valid there here is = record {
  each = λ place spec at option. each place spec at option (option_at place x.options) refl;
  only = λ k place text given.
      let fits = valid.options.fits p k place x text there given in
      (fits.port.row.spec, at-place place fits.port.row (own-row place text fits), fits.port.option);
  short = λ k place text given. (valid.options.fits p k place x text there given).short;
  templates = λ place pattern spec text at class given.
      let row = row-at place spec at in
      fits-its-pattern n p place pattern x table row.0 text valid.options.templates there here row.1 (ap (λ (s : PortSpec). s.class) row.2 ∙ class) given;
  once = λ k l place text other given too. valid.options.one_option p k l place x text other there given too;
}
  where
    own-row : (place : ℕ) (text : List ℕ) (fits : FitsOption n p place text) → slice_get table.inputs place ≡ Some fits.port.row
    own-row place text fits =
        let same : fits.port.table ≡ table = (let h = fits.port.here in cc) in
        subst (λ (t : PortTable). slice_get t.inputs place ≡ Some fits.port.row) same fits.port.at

    at-place : (place : ℕ) (row : PortRow) → slice_get table.inputs place ≡ Some row → slice_get specs place ≡ Some row.spec
    at-place place row at = ap (λ (l : List PortSpec). slice_get l place) (sym is) ∙ Rattle.std.proofs.lemmas.Option.slice_get-map (λ (r : PortRow). r.spec) table.inputs place ∙ ap (option_map (λ (r : PortRow). r.spec)) at

    row-at : (place : ℕ) (spec : PortSpec) → slice_get specs place ≡ Some spec → (row : PortRow) × (slice_get table.inputs place ≡ Some row) × (row.spec ≡ spec)
    row-at place spec at = mapped (λ (r : PortRow). r.spec) table.inputs place spec (ap (λ (l : List PortSpec). slice_get l place) is ∙ at)

    each : (place : ℕ) (spec : PortSpec) → slice_get specs place ≡ Some spec → is_stream spec.class ≡ false → (given : Option (List ℕ)) → option_at place x.options ≡ given → IsGiven spec given
    each place spec at option None none = by spec.needed refl
      where
        by : (needed : Bool) → spec.needed ≡ needed → needed ≡ false
        by false need = refl
        by true need =
            let row = row-at place spec at in
            let has = valid.options.each_option p place (record {
              port = record { table = table; row = row.0; here = here; at = row.1; option = ap (λ (s : PortSpec). is_stream s.class) row.2 ∙ option };
              needed = ap (λ (s : PortSpec). s.needed) row.2 ∙ need;
            }) in
            let same : has.process ≡ x = (let h = has.here in cc) in
            absurd (found-option x.options has.place place has.text (subst (λ (y : Process). slice_get y.options has.place ≡ Some (place, has.text)) same has.given) none)
    each place spec at option (Some text) some =
        let from = from-option place x.options text some in
        let fits = valid.options.fits p from.0 place x text there from.1 in
        let entry = at-place place fits.port.row (own-row place text fits) in
        let same : fits.port.row.spec ≡ spec = cc in
        subst (λ (s : PortSpec). IsOfClass s.class text) same fits.class

-- The text of an option port that the row needs is of its class.
pub needed-text : (specs : List PortSpec) (options : List (ℕ × List ℕ)) (place : ℕ) (spec : PortSpec) → HasOptions specs options → slice_get specs place ≡ Some spec → is_stream spec.class ≡ false → spec.needed ≡ true → IsOfClass spec.class (option_text place options)
needed-text specs options place spec has at option needed = by (option_at place options) (has.each place spec at option)
  where
    by : (given : Option (List ℕ)) → IsGiven spec given → IsOfClass spec.class (unwrap_or given [])
    by None none = absurd (false≢true (sym none ∙ needed))
    by (Some text) is = is

-- The text of an option port is left out or of its class.
pub any-text : (specs : List PortSpec) (options : List (ℕ × List ℕ)) (place : ℕ) (spec : PortSpec) → HasOptions specs options → slice_get specs place ≡ Some spec → is_stream spec.class ≡ false → (option_text place options ≡ []) ⊎ IsOfClass spec.class (option_text place options)
any-text specs options place spec has at option = by (option_at place options) (has.each place spec at option)
  where
    by : (given : Option (List ℕ)) → IsGiven spec given → (unwrap_or given [] ≡ []) ⊎ IsOfClass spec.class (unwrap_or given [])
    by None none = inl refl
    by (Some text) is = inr is

-- The text of an option port is no longer than a packet's may be.
pub short-text : (specs : List PortSpec) (options : List (ℕ × List ℕ)) (place : ℕ) → HasOptions specs options → length (option_text place options) ≤ TEXT_LIMIT
short-text specs options place has = by (option_at place options) refl
  where
    by : (given : Option (List ℕ)) → option_at place options ≡ given → length (unwrap_or given []) ≤ TEXT_LIMIT
    by None is = omega arith
    by (Some text) is = let from = from-option place options text is in has.short from.0 place text from.1

-- The text of an option port for templates is left out, or a template for the text of the pattern's port.
pub any-template : (specs : List PortSpec) (options : List (ℕ × List ℕ)) (place pattern : ℕ) (spec : PortSpec) → HasOptions specs options → slice_get specs place ≡ Some spec → spec.class ≡ Template pattern
    → (option_at place options ≡ None) ⊎ IsTemplate (option_text pattern options) (option_text place options)
any-template specs options place pattern spec has at class = by (option_at place options) refl
  where
    for : (pattern : Option (List ℕ)) (text : List ℕ) → IsTemplateFor pattern text → IsTemplate (unwrap_or pattern []) text
    for None text is = absurd is
    for (Some pattern) text is = is.1

    by : (given : Option (List ℕ)) → option_at place options ≡ given → (given ≡ None) ⊎ IsTemplate (option_text pattern options) (unwrap_or given [])
    by None is = inl refl
    by (Some text) is = inr (for (option_at pattern options) text (has.templates place pattern spec text at class is))

-- Where the row needs it, it is a template.
pub needed-template : (specs : List PortSpec) (options : List (ℕ × List ℕ)) (place pattern : ℕ) (spec : PortSpec) → HasOptions specs options → slice_get specs place ≡ Some spec → spec.class ≡ Template pattern → spec.needed ≡ true → IsTemplate (option_text pattern options) (option_text place options)
needed-template specs options place pattern spec has at class needed = elim (any-template specs options place pattern spec has at class) [
  | inl none ↦ absurd (false≢true (sym (subst (IsGiven spec) none (has.each place spec at (ap is_stream class))) ∙ needed))
  | inr is ↦ is
]

-- Where a row's first port takes the name of a file and the others take packets, that name is the only option.
pub file-option : (name : List ℕ) (streams : List PortSpec) (options : List (ℕ × List ℕ)) → ((place : ℕ) (spec : PortSpec) → slice_get streams place ≡ Some spec → is_stream spec.class ≡ true)
    → HasOptions (option_port name File ∷ streams) options → (file : List ℕ) × (options ≡ (0, file) ∷ []) × IsFileName file
file-option name streams options others has = by (option_at 0 options) refl (has.each 0 (option_port name File) refl refl)
  where
    first : (k place : ℕ) (text : List ℕ) → slice_get options k ≡ Some (place, text) → place ≡ 0
    first k zero text is = refl
    first k (suc place) text is =
        let port = has.only k (suc place) text is in
        absurd (false≢true (sym port.2 ∙ others place port.0 port.1))

    by : (given : Option (List ℕ)) → option_at 0 options ≡ given → IsGiven (option_port name File) given → (file : List ℕ) × (options ≡ (0, file) ∷ []) × IsFileName file
    by None is given = absurd (false≢true (sym given))
    by (Some text) is given =
        let from = from-option 0 options text is in
        let only = only-option options from.0 text from.1 first (λ k l a b at there. has.once k l 0 a b at there) in
        let same : only.0 ≡ text = (let h : Some only.0 ≡ Some text = sym (ap (option_at 0) only.1) ∙ is in cc) in
        (only.0, only.1, subst IsFileName (sym same) given)
