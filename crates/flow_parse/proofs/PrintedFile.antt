-- The canonical text of a valid value spells it.
use Rattle.flow_limits.specs.declared.TheConstants.{STATEMENT_LIMIT}
use Rattle.std.proofs.Common.{◌≡◌, ℕ, ◌+◌, ◌≤◌, Bool, false, List, [], ◌∷◌, ◌++◌, length, map, Some, None, Result, Ok, refl, sym, ap, subst, ◌∙◌, append_assoc, rules, arith, ◌⊎◌, inl, inr}
use Rattle.std.specs.Prelude.{◌||◌, not, codes}
use Rattle.std.specs.Fmt.{decimal}
use Rattle.std.specs.Str.{bytes_eq}
use Rattle.std.specs.Str.Lines.{lines}
use Rattle.std.specs.List.{AllByRecursion, flat_map, list_any, sum_by}
use Rattle.std.proofs.lemmas.List.{append-nil, map-append}
use Rattle.std.proofs.lemmas.List.Folds.{list_any-append}
use Rattle.std.proofs.lemmas.Fmt.{decimal_digit}
use Rattle.std.proofs.lemmas.List.Sums.{sum_by_push, sum_by-cons}
use Rattle.flow_parse.specs.declared.token.Token.{Token}
use Rattle.flow_parse.specs.declared.token.Token.TheVariants.{Word}
use Rattle.flow_parse.specs.declared.form.Form.TheVariants as forms
use Rattle.flow_parse.specs.declared.fault.NetFault.{NetFault}
use Rattle.flow_parse.specs.declared.value.Statement.{Statement}
use Rattle.flow_parse.specs.declared.value.NetPart.{NetPart}
use Rattle.flow_parse.specs.declared.value.NetText.{NetText}
use Rattle.flow_parse.specs.Files.{Lines, nothing, says, statements_in, reason_at, fault_at, value_of, at_end, LeadsTo, Spells}
use Rattle.flow_parse.specs.Canonical.{line, part_lines, subnet_lines, canonical}
use Rattle.flow_parse.specs.Values.{IsName, IsInner, Differ, IsNetPart, IsNetText}
use Rattle.flow_parse.proofs.PrintedLines.{lines_first}
use Rattle.flow_parse.proofs.PrintedRows.{IsWord, joined, word_piece}
use Rattle.flow_parse.proofs.PrintedForms.{Says, says_form, name_word}
use Rattle.flow_parse.proofs.PrintedParts.{Where, in_main, in_subnet, at, ended_count, no_reason, one_line, MayStand, Gives, part_read}

-- The pieces of a header.
abbrev header_pieces_of : ℕ → List (List Token)
header_pieces_of version = (Word (codes "flow") ∷ []) ∷ (Word (decimal version) ∷ []) ∷ []

version_word : (version : ℕ) → (version ≡ 1) ⊎ (version ≡ 2) ⊎ (version ≡ 3) → IsWord (decimal version)
version_word version (inl one) = subst IsWord (sym (ap decimal one ∙ decimal_digit 1 (omega arith))) (λ e. cc, search rules)
version_word version (inr (inl two)) = subst IsWord (sym (ap decimal two ∙ decimal_digit 2 (omega arith))) (λ e. cc, search rules)
version_word version (inr (inr three)) = subst IsWord (sym (ap decimal three ∙ decimal_digit 3 (omega arith))) (λ e. cc, search rules)

-- A header is read before there is a version.
header_says : (version : ℕ) → (version ≡ 1) ⊎ (version ≡ 2) ⊎ (version ≡ 3) → Says 1 ((Word (codes "flow") ∷ []) ∷ (Word (decimal version) ∷ []) ∷ []) (forms.Header version)
header_says version one = says_form 1 (Word (codes "flow") ∷ []) ((Word (decimal version) ∷ []) ∷ []) (forms.Header version) (word_piece 1 (codes "flow") (λ e. cc, search rules)) (word_piece 1 (decimal version) (version_word version one), tt) refl one

-- The pieces of the line that begins a subnet.
abbrev subnet_pieces_of : List ℕ → List (List Token)
subnet_pieces_of name = (Word (codes "subnet") ∷ []) ∷ (Word name ∷ []) ∷ []

subnet_says : (version : ℕ) (name : List ℕ) → IsName name → Says version ((Word (codes "subnet") ∷ []) ∷ (Word name ∷ []) ∷ []) (forms.Subnet name)
subnet_says version name is = says_form version (Word (codes "subnet") ∷ []) ((Word name ∷ []) ∷ []) (forms.Subnet name) (word_piece version (codes "subnet") (λ e. cc, search rules)) (word_piece version name (name_word name is), tt) refl tt

end_says : (version : ℕ) → Says version ((Word (codes "end") ∷ []) ∷ []) forms.End
end_says version = says_form version (Word (codes "end") ∷ []) [] forms.End (word_piece version (codes "end") (λ e. cc, search rules)) tt refl tt

-- The subnets that have ended have these values.
abbrev pub values_of : List (List ℕ × Lines) → List (List ℕ × NetPart)
values_of done = map (λ (s : List ℕ × Lines). (s.0, value_of s.1)) done

abbrev pub said_in : List (List ℕ × NetPart) → ℕ
said_in ss = sum_by (λ (s : List ℕ × NetPart). length s.1.statements) ss

same_count : (done : List (List ℕ × Lines)) → said_in (values_of done) ≡ ended_count done
same_count [] = refl
same_count (s ∷ done) =
    sum_by-cons (λ (t : List ℕ × NetPart). length t.1.statements) (s.0, value_of s.1) (values_of done) ∙ ap (λ (n : ℕ). length (statements_in s.1) + n) (same_count done) ∙ sym (sum_by-cons (λ (t : List ℕ × Lines). length (statements_in t.1)) s done)

same_names : (name : List ℕ) (done : List (List ℕ × Lines)) → list_any (λ (s : List ℕ × NetPart). bytes_eq s.0 name) (values_of done) ≡ list_any (λ (s : List ℕ × Lines). bytes_eq s.0 name) done
same_names name [] = refl
same_names name (s ∷ done) = ap (λ (b : Bool). bytes_eq s.0 name || b) (same_names name done)

-- None of these names is before.
abbrev pub NewNames : List (List ℕ × NetPart) → List (List ℕ × NetPart) → Type 0
NewNames before ss = AllByRecursion (λ (s : List ℕ × NetPart). list_any (λ (b : List ℕ × NetPart). bytes_eq b.0 s.0) before ≡ false) ss

new_push : (before : List (List ℕ × NetPart)) (s : List ℕ × NetPart) (ss : List (List ℕ × NetPart)) → NewNames before ss → AllByRecursion (λ other. bytes_eq s.0 other ≡ false) (map (λ t. t.0) ss) → NewNames (before ++ s ∷ []) ss
new_push before s [] new apart = tt
new_push before s (t ∷ ts) new apart = (list_any-append (λ (b : List ℕ × NetPart). bytes_eq b.0 t.0) before (s ∷ []) ∙ rw (new.0, apart.0) refl, new_push before s ts new.1 apart.1)

new_first : (ss : List (List ℕ × NetPart)) → NewNames [] ss
new_first [] = tt
new_first (s ∷ ss) = (refl, new_first ss)

all_may : (done : List (List ℕ × Lines)) (n : ℕ) (name : List ℕ) (ss : List Statement) → AllByRecursion (MayStand (in_subnet done n name)) ss
all_may done n name [] = tt
all_may done n name (s ∷ ss) = (tt, all_may done n name ss)

main_may : (done : List (List ℕ × Lines)) (ss : List Statement) → AllByRecursion IsInner ss → AllByRecursion (MayStand (in_main done)) ss
main_may done [] all = tt
main_may done (s ∷ ss) all = (all.0, main_may done ss all.1)

sum_push : (before : List (List ℕ × NetPart)) (s : List ℕ × NetPart) → said_in (before ++ s ∷ []) ≡ said_in before + length s.1.statements
sum_push before s = sum_by_push (λ (t : List ℕ × NetPart). length t.1.statements) before s

-- A subnet's line has no fault where its name is new.
subnet_fault : (version : ℕ) (done : List (List ℕ × Lines)) (n : ℕ) (name : List ℕ) → IsName name → list_any (λ (s : List ℕ × Lines). bytes_eq s.0 name) done ≡ false → ended_count done ≤ STATEMENT_LIMIT → fault_at n (at version (in_main done) []) (forms.Subnet name) ≡ None
subnet_fault version done n name is new count =
    let none : reason_at (at version (in_main done) []) (forms.Subnet name) ≡ None = no_reason version (in_main done) [] (forms.Subnet name) refl is.0 refl refl (ap not new) refl (omega arith) in rw none refl

end_fault : (version : ℕ) (done : List (List ℕ × Lines)) (n m : ℕ) (name : List ℕ) (ls : Lines) (part : NetPart) → Gives ls part → length (statements_in ls) + ended_count done ≤ STATEMENT_LIMIT → fault_at m (at version (in_subnet done n name) ls) forms.End ≡ None
end_fault version done n m name ls part gives count =
    let none : reason_at (at version (in_subnet done n name) ls) forms.End ≡ None = no_reason version (in_subnet done n name) ls forms.End refl refl refl refl refl refl (omega arith) in rw (none, gives.kinded) refl

-- The lines of subnets, read one after another.
subnets_read : (version : ℕ) (ss : List (List ℕ × NetPart)) (n : ℕ) (done : List (List ℕ × Lines)) (before all : List (List ℕ × NetPart)) (rest : List ℕ) (outcome : Result NetText NetFault)
    → values_of done ≡ before → before ++ ss ≡ all → AllByRecursion (λ (s : List ℕ × NetPart). IsName s.0 × IsNetPart version s.1) ss → NewNames before ss → Differ (map (λ s. s.0) ss) → said_in before + said_in ss ≤ STATEMENT_LIMIT
    → ((m : ℕ) (later : List (List ℕ × Lines)) → values_of later ≡ all → LeadsTo m (Some (at version (in_main later) [])) (lines rest) outcome)
    → LeadsTo n (Some (at version (in_main done) [])) (lines (flat_map subnet_lines ss ++ rest)) outcome
subnets_read version [] n done before all rest outcome same whole are new differ count go = go n done (same ∙ sym (append-nil before) ∙ whole)
subnets_read version (s ∷ ss) n done before all rest outcome same whole are new differ count go =
    let so_far : ended_count done ≡ said_in before = sym (same_count done) ∙ ap said_in same in
    let fresh : list_any (λ (d : List ℕ × Lines). bytes_eq d.0 s.0) done ≡ false = sym (same_names s.0 done) ∙ ap (λ (l : List (List ℕ × NetPart)). list_any (λ (b : List ℕ × NetPart). bytes_eq b.0 s.0) l) same ∙ new.0 in
    let inner : Where = in_subnet done n s.0 in
    let more : List ℕ = flat_map subnet_lines ss ++ rest in
    let tail : List ℕ = line ((Word (codes "end") ∷ []) ∷ []) ++ more in
    let text : (flat_map subnet_lines (s ∷ ss)) ++ rest ≡ line (subnet_pieces_of s.0) ++ (part_lines s.1 ++ tail) = regroup (line (subnet_pieces_of s.0)) (part_lines s.1) (line ((Word (codes "end") ∷ []) ∷ [])) (flat_map subnet_lines ss) rest in
    let total : said_in (s ∷ ss) ≡ length s.1.statements + said_in ss = sum_by-cons (λ (t : List ℕ × NetPart). length t.1.statements) s ss in
    let within : length s.1.statements + ended_count done ≤ STATEMENT_LIMIT = omega (arith, total, so_far, count) in
    let behind : (m : ℕ) (ls : Lines) → Gives ls s.1 → LeadsTo m (Some (at version inner ls)) (lines tail) outcome = λ m ls gives.
    let said : length (statements_in ls) ≡ length s.1.statements = ap (λ (p : NetPart). length p.statements) gives.value in
    let pushed : values_of (done ++ (s.0, ls) ∷ []) ≡ before ++ s ∷ [] = map-append (λ (d : List ℕ × Lines). (d.0, value_of d.1)) done ((s.0, ls) ∷ []) ∙ ap (λ (l : List (List ℕ × NetPart)). l ++ (s.0, value_of ls) ∷ []) same ∙ ap (λ (p : NetPart). before ++ (s.0, p) ∷ []) gives.value in
    let sums = sum_push before s in
    one_line version m (at version inner ls) (at version (in_main (done ++ (s.0, ls) ∷ [])) []) ((Word (codes "end") ∷ []) ∷ []) forms.End more outcome refl (end_says version) (end_fault version done n m s.0 ls s.1 gives (omega arith)) refl
    (subnets_read version ss (m + 1) (done ++ (s.0, ls) ∷ []) (before ++ s ∷ []) all rest outcome pushed (append_assoc before (s ∷ []) ss ∙ whole) are.1 (new_push before s ss new.1 differ.0) differ.1 (omega (arith, total, sums, count)) go) in
    subst (λ (l : List ℕ). LeadsTo n (Some (at version (in_main done) [])) (lines l) outcome) (sym text)
    (one_line version n (at version (in_main done) []) (at version inner []) (subnet_pieces_of s.0) (forms.Subnet s.0) (part_lines s.1 ++ tail) outcome refl (subnet_says version s.0 are.0.0) (subnet_fault version done n s.0 are.0.0 fresh (omega arith)) refl
    (part_read version s.1 inner (n + 1) tail outcome are.0.1 (all_may done n s.0 s.1.statements) within behind)) where
      regroup : (a b c d e : List ℕ) → ((a ++ b ++ c) ++ d) ++ e ≡ a ++ (b ++ (c ++ (d ++ e)))
      regroup a b c d e = simp append_assoc

-- A value from its parts.
abbrev build : ℕ → List (List ℕ × NetPart) → NetPart → NetText
build version subnets main = record { version = version; subnets = subnets; main = main }

-- The canonical text of a valid value spells it.
pub canonical_spells : (value : NetText) → IsNetText value → Spells (canonical value) value
canonical_spells value is =
    let version : ℕ = value.version in
    let header : List (List Token) = header_pieces_of version in
    let says_it = header_says version is.version in
    let text : canonical value ≡ line header ++ (flat_map subnet_lines value.subnets ++ (part_lines value.main ++ [])) = regroup (line header) (flat_map subnet_lines value.subnets) (part_lines value.main) in
    let body : List ℕ = flat_map subnet_lines value.subnets ++ (part_lines value.main ++ []) in
    let last : (m : ℕ) (done : List (List ℕ × Lines)) → values_of done ≡ value.subnets → LeadsTo m (Some (at version (in_main done) [])) (lines (part_lines value.main ++ [])) (Ok value) = λ m done same.
    let so_far : ended_count done ≡ said_in value.subnets = sym (same_count done) ∙ ap said_in same in
    let c = is.count in
    part_read version value.main (in_main done) m [] (Ok value) is.main (main_may done value.main.statements is.inner) (omega arith) (λ k ls gives. finish k done ls value same gives) in
    let all : LeadsTo 2 (Some (nothing version)) (lines body) (Ok value) = subnets_read version value.subnets 2 [] [] value.subnets (part_lines value.main ++ []) (Ok value) refl refl is.subnets (new_first value.subnets) is.differ (let c = is.count in omega arith) last in
    subst (λ (l : List (List ℕ)). LeadsTo 1 None l (Ok value)) (sym (lines_first (joined header) body says_it.closed) ∙ ap lines (sym text)) (says (forms.Header version), says_it.is, all) where
      regroup : (a b c : List ℕ) → a ++ b ++ c ≡ a ++ (b ++ (c ++ []))
      regroup a b c = simp (append_assoc, append-nil)

      finish : (k : ℕ) (done : List (List ℕ × Lines)) (ls : Lines) (value : NetText) → values_of done ≡ value.subnets → Gives ls value.main → at_end k (Some (at value.version (in_main done) ls)) ≡ Ok value
      finish k done ls value same gives = rw gives.kinded (ap (λ (p : NetPart). Ok (build value.version (values_of done) p)) gives.value ∙ ap (λ (l : List (List ℕ × NetPart)). Ok (build value.version l value.main)) same)
