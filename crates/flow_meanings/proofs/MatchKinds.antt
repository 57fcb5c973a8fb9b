-- What is known of Match and Replace.
use Rattle.flow_limits.specs.declared.TheConstants.{TEXT_LIMIT}
use Rattle.std.proofs.Common.{◌≡◌, ◌≢◌, ℕ, zero, suc, ◌<◌, Bool, true, false, not, cond, List, [], map, length, nat_lt, refl, sym, ap, ◌∙◌, subst, inl, inr, arith}
use Rattle.std.specs.List.{filter}
use Rattle.flow_packet.specs.Tree.{Tree, id_of}
use Rattle.flow_packet.specs.Held.{Held, next_id, without_packet, with_made}
use Rattle.flow_packet.specs.Hands.{kind_at, text_at}
use Rattle.flow_packet.specs.declared.packet.Kind.{Kind}
use Rattle.flow_packet.specs.declared.packet.Kind.TheVariants.{Normal, Open, Close}
use Rattle.flow_component.specs.declared.Fail.TheVariants.{TextLimit}
use Rattle.flow_component.specs.Laws.{Wishes, Fails}
use Rattle.flow_component.specs.Ports.{send_first}
use Rattle.flow_component.specs.Happenings.{Happening}
use Rattle.flow_component.specs.Runs.{EndedRun, HeardEnd}
use Rattle.flow_pattern.specs.Pattern.{Replacement, matches, replaced}
use Rattle.flow_match.specs.Match as matching
use Rattle.flow_match.specs.Match.{MatchState, rejects_packet, judges, match_rules}
use Rattle.flow_match.specs.MatchLaws.{match_lawful}
use Rattle.flow_match.specs.Replace as replacing
use Rattle.flow_match.specs.Replace.{renews, rewrites, replace_rules}
use Rattle.flow_match.specs.ReplaceLaws.{replace_lawful}
use Rattle.flow_match.specs.Meanings.{accepts, IsMatched, rewritten}
use Rattle.flow_match.proofs.MatchStream.{match_meaning}
use Rattle.flow_match.proofs.ReplaceStream.{replace_meaning}
use Rattle.flow_catalogue.specs.declared.standard.Std.{Std}
use Rattle.flow_catalogue.specs.declared.standard.Std.TheVariants as components
use Rattle.flow_catalogue.specs.Components.{match_kind, replace_kind}
use Rattle.flow_model.specs.States.{Process}
use Rattle.flow_meanings.specs.Means.{bytes_of}
use Rattle.flow_meanings.proofs.EndHeard.{GoesOn, Never, end-heard}
use Rattle.flow_meanings.proofs.Over.{Over, Own, own, single-texts}
use Rattle.flow_meanings.proofs.Facts.{Facts}
use Rattle.flow_meanings.proofs.LineKinds.{by-one}

-- Match

rejects-on : (rejects : Bool) (state : MatchState) (held : Held) (id : ℕ) → GoesOn (rejects_packet rejects state held id)
rejects-on true state held id = λ d. cc
rejects-on false state held id = λ d. cc

judges-on : (accepted : Bool) (state : MatchState) (held : Held) (id : ℕ) → GoesOn (judges accepted state held id)
judges-on true state held id = λ d. cc
judges-on false state held id = rejects-on state.rejects state held id

-- it goes on after each packet
match-on : (state : MatchState) (held : Held) (id : ℕ) (kind : Kind) → GoesOn (matching.comes state held id kind)
match-on state held id Normal = judges-on (matches state.pattern (text_at held.packets id)) state held id
match-on state held id Open = λ d. cc
match-on state held id Close = λ d. cc

-- A Match that has run and ended has heard the end of its input.
match-hears : (state : MatchState) (told : List Happening) → EndedRun match_rules state told → told ≢ [] → HeardEnd 0 told
match-hears state told run some =
    end-heard match_rules (λ _. refl) match_lawful Never
    (λ p q s l. elim l [ inl d ↦ subst GoesOn (sym s.comes_to) (λ e. cc) d | inr n ↦ n ])
    (λ p port t q s l. elim l [ inl d ↦ subst GoesOn (sym s.comes_to) (match-on p.component s.held (id_of t) (kind_at s.held.packets (id_of t))) d | inr n ↦ n ])
    (λ p port t q s l. elim l [ inl d ↦ subst GoesOn (sym s.comes_to) (λ e. cc) d | inr n ↦ n ])
    (λ p port level q s l. s.is_ready) state told run (λ n. n) some

match-own : (state : MatchState) (p : ℕ) (told : List Happening) (x : Process Std) → Over (components.Match state) p told x → Own components.Match match_rules state told x
match-own state p told x over = own components.Match match_kind (λ k. refl) state p told x over

abbrev others : List ℕ → List Tree → List Tree
others pattern ts = filter (λ packet. not (accepts pattern packet)) ts

-- the streams of a Match, where its second output is connected or isn't
matched-change : (pattern : List ℕ) (rejects : Bool) (x x' y y' z z' : List Tree) → x ≡ x' → y ≡ y' → (rejects ≡ true → z ≡ z') → (z ≡ [] → z' ≡ []) → IsMatched pattern rejects x y z → IsMatched pattern rejects x' y' z'
matched-change pattern rejects x x' y y' z z' e f g h m = record {
  accepts_those = sym f ∙ m.accepts_those ∙ ap (filter (accepts pattern)) e;
  rejects_others = λ c. sym (g c) ∙ m.rejects_others c ∙ ap (others pattern) e;
  silent = λ c. h (m.silent c);
}

rejected-same : (pattern : List ℕ) (rejects : Bool) (x x' y y' z z' : List Tree) → IsMatched pattern rejects x y z → IsMatched pattern rejects x' y' z' → x ≡ x' → z ≡ z'
rejected-same pattern true x x' y y' z z' m n e = m.rejects_others refl ∙ ap (others pattern) e ∙ sym (n.rejects_others refl)
rejected-same pattern false x x' y y' z z' m n e = m.silent refl ∙ sym (n.silent refl)

-- The facts of Match.
pub match-facts : (state : MatchState) → Facts (components.Match state)
match-facts state = record {
  means = λ p told x first over. match_meaning state.pattern state.rejects told (match-own state p told x over).run;
  texts = λ p told x first over some. single-texts (components.Match state) p told x over refl some (match-hears state told (match-own state p told x over).run some);
  change = λ w w' x x' y y' same m. matched-change state.pattern state.rejects (x 0) (x' 0) (y 0) (y' 0) (y 1) (y' 1) (same.inputs 0 (omega arith)) (same.outputs 0 refl) (λ c. same.outputs 1 c) (λ none. same.silent 1 none) m;
  wrote_none = λ p told x over none. ap bytes_of (match-own state p told x over).is;
  settles = λ s w w' x x' y y' ins m n. one x x' y y' ins m n;
}
  where
    one : (x x' y y' : ℕ → List Tree) → ((i : ℕ) → x i ≡ x' i) → IsMatched state.pattern state.rejects (x 0) (y 0) (y 1) → IsMatched state.pattern state.rejects (x' 0) (y' 0) (y' 1) → (o : ℕ) → o < 2 → y o ≡ y' o
    one x x' y y' ins m n zero l = m.accepts_those ∙ ap (filter (accepts state.pattern)) (ins 0) ∙ sym n.accepts_those
    one x x' y y' ins m n (suc zero) l = rejected-same state.pattern state.rejects (x 0) (x' 0) (y 0) (y' 0) (y 1) (y' 1) m n (ins 0)
    one x x' y y' ins m n (suc (suc o)) l = absurd (omega arith)

-- Replace

renews-on : (long : Bool) (state : Replacement) (held : Held) (id : ℕ) (text : List ℕ)
    → GoesOn (cond long (Fails state held (TextLimit (length text))) (Wishes state (with_made (without_packet held id) Normal text) (send_first (next_id held))))
renews-on true state held id text = tt
renews-on false state held id text = λ d. cc

rewrites-on : (found : Bool) (state : Replacement) (held : Held) (id : ℕ) (text : List ℕ) → GoesOn (rewrites found state held id text)
rewrites-on true state held id text =
    let new = replaced state.pattern state.with text in
    renews-on (nat_lt TEXT_LIMIT (length new)) state held id new
rewrites-on false state held id text = λ d. cc

-- it goes on after each packet
replace-on : (state : Replacement) (held : Held) (id : ℕ) (kind : Kind) → GoesOn (replacing.comes state held id kind)
replace-on state held id Normal = rewrites-on (matches state.pattern (text_at held.packets id)) state held id (text_at held.packets id)
replace-on state held id Open = λ d. cc
replace-on state held id Close = λ d. cc

-- A Replace that has run and ended has heard the end of its input.
replace-hears : (with : Replacement) (told : List Happening) → EndedRun replace_rules with told → told ≢ [] → HeardEnd 0 told
replace-hears with told run some =
    end-heard replace_rules (λ _. refl) replace_lawful Never
    (λ p q s l. elim l [ inl d ↦ subst GoesOn (sym s.comes_to) (λ e. cc) d | inr n ↦ n ])
    (λ p port t q s l. elim l [ inl d ↦ subst GoesOn (sym s.comes_to) (replace-on p.component s.held (id_of t) (kind_at s.held.packets (id_of t))) d | inr n ↦ n ])
    (λ p port t q s l. elim l [ inl d ↦ subst GoesOn (sym s.comes_to) (λ e. cc) d | inr n ↦ n ])
    (λ p port level q s l. s.is_ready) with told run (λ n. n) some

replace-own : (with : Replacement) (p : ℕ) (told : List Happening) (x : Process Std) → Over (components.Replace with) p told x → Own components.Replace replace_rules with told x
replace-own with p told x over = own components.Replace replace_kind (λ k. refl) with p told x over

-- The facts of Replace.
pub replace-facts : (with : Replacement) → Facts (components.Replace with)
replace-facts with = record {
  means = λ p told x first over. replace_meaning with told (replace-own with p told x over).run;
  texts = λ p told x first over some. single-texts (components.Replace with) p told x over refl some (replace-hears with told (replace-own with p told x over).run some);
  change = λ w w' x x' y y' same m. sym (same.outputs 0 refl) ∙ m ∙ ap (λ (ts : List Tree). map (rewritten with) ts) (same.inputs 0 (omega arith));
  wrote_none = λ p told x over none. ap bytes_of (replace-own with p told x over).is;
  settles = λ s w w' x x' y y' ins m n. by-one (λ ts. map (rewritten with) ts) x x' y y' ins m n;
}
