-- An input that gives a text anew after each start.
use Rattle.std.proofs.Common.{◌≡◌, ℕ, ◌==◌, Bool, true, false, List, [], ◌∷◌, refl, sym, ◌∙◌, subst, arith, nat_eq, inl, inr, if◌then◌else◌}
use Rattle.std.specs.Prelude.{◌&&◌, not}
use Rattle.std.proofs.lemmas.Bool.Decides.{nat_tests}
use Rattle.flow_packet.specs.Tree.{content}
use Rattle.flow_component.specs.Happenings.{Happening, Started, Received, Ended, Sent, Learned}
use Rattle.flow_component.specs.Runs.{got, text_packet, GivesText, BringsFirst, StartsBring, HeardEnd, starts}

-- while the text is to be got, it is the first that is brought
brings-fresh : (port : ℕ) (text : List ℕ) (es : List Happening) → GivesText port text true es → BringsFirst port es
brings-fresh port text [] g = tt
brings-fresh port text (Started ∷ es) g = brings-fresh port text es g
brings-fresh port text (Received i t ∷ es) g = by (nat_eq i port) refl g.1 (λ h. brings-fresh port text es h)
  where
    by : (b : Bool) → nat_eq i port ≡ b → GivesText port text (not b) es → (GivesText port text true es → BringsFirst port es) → BringsFirst port (Received i t ∷ es)
    by true e h rest = inl (grind (arith, nat_tests))
    by false e h rest = inr (rest h)
brings-fresh port text (Ended i ∷ es) g = ((λ same. (let h : true ≡ false = g.0 same in cc)), brings-fresh port text es g.1)
brings-fresh port text (Sent o t ∷ es) g = brings-fresh port text es g
brings-fresh port text (Learned o n ∷ es) g = brings-fresh port text es g

-- so each start brings something there
pub text-brings : (port : ℕ) (text : List ℕ) (fresh : Bool) (es : List Happening) → GivesText port text fresh es → StartsBring (λ p. p ≡ port) es
text-brings port text fresh [] g = tt
text-brings port text fresh (Started ∷ es) g = ((port, refl, brings-fresh port text es g), text-brings port text true es g)
text-brings port text fresh (Received i t ∷ es) g = text-brings port text (fresh && not (i == port)) es g.1
text-brings port text fresh (Ended i ∷ es) g = text-brings port text fresh es g.1
text-brings port text fresh (Sent o t ∷ es) g = text-brings port text fresh es g
text-brings port text fresh (Learned o n ∷ es) g = text-brings port text fresh es g

-- what may be brought at one of some inputs may be brought at one of more
pub brings-more : (few more : ℕ → Type 0) → ((port : ℕ) → few port → more port) → (es : List Happening) → StartsBring few es → StartsBring more es
brings-more few more up [] b = tt
brings-more few more up (Started ∷ es) b = ((b.0.0, up b.0.0 b.0.1, b.0.2), brings-more few more up es b.1)
brings-more few more up (Received i t ∷ es) b = brings-more few more up es b
brings-more few more up (Ended i ∷ es) b = brings-more few more up es b
brings-more few more up (Sent o t ∷ es) b = brings-more few more up es b
brings-more few more up (Learned o n ∷ es) b = brings-more few more up es b

-- what is got before the next start: the text, if it is to be got and its end was heard
pub until-start : (port : ℕ) (text : List ℕ) (fresh : Bool) (es : List Happening) → GivesText port text fresh es → starts es ≡ 0 → (fresh ≡ true → HeardEnd port es) → got port es ≡ (if fresh then text_packet text ∷ [] else [])
until-start port text true [] g none heard = absurd (heard refl)
until-start port text false [] g none heard = refl
until-start port text fresh (Started ∷ es) g none heard = absurd (omega (arith, none))
until-start port text fresh (Received i t ∷ es) g none heard = by (nat_eq i port) refl g.1 (λ f h k. until-start port text f es h none k)
  where
    later : fresh ≡ true → HeardEnd port es
    later f = elim (heard f) [ inl h ↦ absurd h | inr h ↦ h ]

    kept : (b : Bool) → (b && true) ≡ b
    kept true = refl
    kept false = refl

    gone : (b : Bool) → (b && false) ≡ false
    gone true = refl
    gone false = refl

    by : (b : Bool) → nat_eq i port ≡ b → GivesText port text (fresh && not b) es → ((f : Bool) → GivesText port text f es → (f ≡ true → HeardEnd port es) → got port es ≡ (if f then text_packet text ∷ [] else []))
        → got port (Received i t ∷ es) ≡ (if fresh then text_packet text ∷ [] else [])
    by true e h more =
        let same : i ≡ port = grind (arith, nat_tests) in
        let is = g.0 same in
        let rest : got port es ≡ [] = more false (subst (λ (f : Bool). GivesText port text f es) (gone fresh) h) (λ f. absurd (let k : false ≡ true = f in cc)) in
        let here : nat_eq port i ≡ true = grind (arith, nat_tests) in
        let all : content t ∷ got port es ≡ text_packet text ∷ [] = λ j. is.1 j ∷ rest j in
        rw (here, is.0) all
    by false e h more =
        let rest = more fresh (subst (λ (f : Bool). GivesText port text f es) (kept fresh) h) later in
        let other : nat_eq port i ≡ false = (let n : i ≡ port → ⊥ = λ same. (let z : nat_eq i port ≡ true = grind (arith, nat_tests) in let bad : true ≡ false = sym z ∙ e in cc) in grind (arith, nat_tests)) in
        rw other rest
until-start port text fresh (Ended i ∷ es) g none heard = until-start port text fresh es g.1 none (λ f. elim (heard f) [
  | inl same ↦ absurd (let h : true ≡ false = sym f ∙ g.0 same in cc)
  | inr h ↦ h
])
until-start port text fresh (Sent o t ∷ es) g none heard = until-start port text fresh es g none (λ f. elim (heard f) [ inl h ↦ absurd h | inr h ↦ h ])
until-start port text fresh (Learned o n ∷ es) g none heard = until-start port text fresh es g none (λ f. elim (heard f) [ inl h ↦ absurd h | inr h ↦ h ])
