-- A file leads to some outcome.
use Rattle.std.proofs.Common.{◌≡◌, ℕ, ◌+◌, Bool, true, false, eqb, List, [], ◌∷◌, ◌++◌, length, Option, Some, None, Result, Ok, Err, refl, sym, ap, subst, ◌∙◌}
use Rattle.std.specs.Prelude.{MatchResult, IfSome, IfNone}
use Rattle.std.specs.Str.Lines.{lines}
use Rattle.std.proofs.Math.Dec.{eqb-suc-zero}
use Rattle.std.proofs.lemmas.Bool.{eqb-true, false≢true}
use Rattle.flow_parse.specs.declared.form.Form.{Form}
use Rattle.flow_parse.specs.declared.fault.Reason.TheVariants as reasons
use Rattle.flow_parse.specs.declared.fault.NetFault.{NetFault}
use Rattle.flow_parse.specs.declared.value.NetText.{NetText}
use Rattle.flow_parse.specs.Spelling.{is_blank, DoesntBegin}
use Rattle.flow_parse.specs.Forms.{IsForm}
use Rattle.flow_parse.specs.Reading.{form_of}
use Rattle.flow_parse.specs.Files.{BeginsRemark, IsRemark, Said, remark, says, wrong, LineIs, Parts, version_of, after, at_end, LeadsTo}
use Rattle.flow_parse.specs.Outcomes.{FileComesTo}
use Rattle.flow_parse.proofs.FormLaws.{some_is, none_is}
use Rattle.flow_parse.proofs.OneRow.{remark_tells}
use Rattle.flow_parse.proofs.OneOutcome.{one_outcome}
use Rattle.flow_parse.proofs.SomeRow.{Stripped, strip, Row, row, bad_byte, open_quote, some_row}

-- Some saying that the line is.
abbrev pub SaysSome : ℕ → List ℕ → Type 0
SaysSome version line = (said : Said) × LineIs version line said

-- A line that is no remark is a form, or is wrong.
of_row : (version : ℕ) (line : List ℕ) → (IsRemark line → ⊥) → Row version line → SaysSome version line
of_row version line other (bad_byte h) = (wrong reasons.Byte, (other, h))
of_row version line other (open_quote h) = (wrong reasons.Quote, (other, h))
of_row version line other (row ts is) = by (form_of ts) (some_is ts (form_of ts) refl) (none_is ts (form_of ts) refl) where
  by : (f : Option Form) → IfSome f (λ g. IsForm ts g) → IfNone f ((g : Form) → IsForm ts g → ⊥) → SaysSome version line
  by (Some f) some none = (says f, (ts, is, some))
  by None some none = (wrong reasons.Form, (other, ts, is, none))

no_remark : (line : List ℕ) (s : Stripped line) (b : ℕ) (bs : List ℕ) → s.rest ≡ b ∷ bs → eqb b 35 ≡ false → IsRemark line → ⊥
no_remark line s b bs e other is =
    let parts = s.parts ∙ ap (λ (l : List ℕ). s.blanks ++ l) e in
    false≢true (sym other ∙ remark_tells line (b ∷ bs) (s.blanks, parts, s.are_blank) (subst (DoesntBegin is_blank) e s.stops) (eqb-suc-zero (length bs)) is)

-- Each line says something.
pub some_said : (version : ℕ) (line : List ℕ) → SaysSome version line
some_said version line = of_rest (strip line) (strip line).rest refl where
  begins : (s : Stripped line) (r : List ℕ) → s.rest ≡ r → BeginsRemark r → SaysSome version line
  begins s r e is = (remark, (s.blanks, s.rest, s.parts, s.are_blank, subst BeginsRemark (sym e) is))

  of_rest : (s : Stripped line) (r : List ℕ) → s.rest ≡ r → SaysSome version line
  of_rest s [] e = begins s [] e tt
  of_rest s (b ∷ bs) e = by (eqb b 35) refl where
    by : (v : Bool) → eqb b 35 ≡ v → SaysSome version line
    by true hash = begins s (b ∷ bs) e (eqb-true b 35 hash)
    by false other = of_row version line (no_remark line s b bs e other) (some_row version line)

-- Lines lead to something, whatever stands before them.
some_outcome : (n : ℕ) (before : Option Parts) (lines : List (List ℕ)) → (outcome : Result NetText NetFault) × LeadsTo n before lines outcome
some_outcome n before [] = (at_end n before, refl)
some_outcome n before (line ∷ more) = by (some_said (version_of before) line) (λ parts. some_outcome (n + 1) parts more) where
  goes : (said : Said) → LineIs (version_of before) line said → (step : Result (Option Parts) NetFault) → after n before said ≡ step
      → ((parts : Option Parts) → (outcome : Result NetText NetFault) × LeadsTo (n + 1) parts more outcome)
      → (outcome : Result NetText NetFault) × LeadsTo n before (line ∷ more) outcome
  goes said is (Ok parts) e rest = let r = rest parts in (r.0, (said, is, subst (λ (s : Result (Option Parts) NetFault). MatchResult s (λ p. LeadsTo (n + 1) p more r.0) (λ fault. r.0 ≡ Err fault)) (sym e) r.1))
  goes said is (Err fault) e rest = (Err fault, (said, is, subst (λ (s : Result (Option Parts) NetFault). MatchResult s (λ p. LeadsTo (n + 1) p more (Err fault)) (λ f. let o : Result NetText NetFault = Err fault in o ≡ Err f)) (sym e) refl))

  by : SaysSome (version_of before) line → ((parts : Option Parts) → (outcome : Result NetText NetFault) × LeadsTo (n + 1) parts more outcome) → (outcome : Result NetText NetFault) × LeadsTo n before (line ∷ more) outcome
  by s rest = goes s.0 s.1 (after n before s.0) refl rest

comes_is : (bytes : List ℕ) (outcome : Result NetText NetFault) → LeadsTo 1 None (lines bytes) outcome → FileComesTo bytes outcome
comes_is bytes (Ok value) leads = leads
comes_is bytes (Err fault) leads = leads

is_led : (bytes : List ℕ) (outcome : Result NetText NetFault) → FileComesTo bytes outcome → LeadsTo 1 None (lines bytes) outcome
is_led bytes (Ok value) comes = comes
is_led bytes (Err fault) comes = comes

-- Any bytes come to something.
pub some_file : (bytes : List ℕ) → (outcome : Result NetText NetFault) × FileComesTo bytes outcome
some_file bytes = let led = some_outcome 1 None (lines bytes) in (led.0, comes_is bytes led.0 led.1)

-- They come to one thing at most.
pub one_file : (bytes : List ℕ) (one other : Result NetText NetFault) → FileComesTo bytes one → FileComesTo bytes other → one ≡ other
one_file bytes one other p q = one_outcome 1 None (lines bytes) one other (is_led bytes one p) (is_led bytes other q)
