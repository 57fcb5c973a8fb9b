-- A noted process is struck off without a token: a glance at its word, and a nudge.
use Rattle.std.proofs.Common.{◌≡◌, ◌≢◌, ℕ, ◌<◌, List, ◌∷◌, length, get_or, set, sym, refl, ap, ◌∙◌, subst, arith, Some, length-set, get_or-set_other, get_or-set_same, inl, inr, ◌==◌, drop}
use mathlib.Core.Logic.{dite}
use mathlib.Core.Option.{none, some}
use native.Mathlib.Decide.{ℕ_discrete, dec_lt}
use lib.ListN.{get_elem?}
use lib.Seq.{set-get_or}
use prog.Atomic.{either}
use Rattle.atomic_table.specs.Table.{step, keeps, Allows}
use Rattle.flow_component.specs.Laws.{Rules, Lawful}
use Rattle.flow_machine.specs.Values.{BodyValue, NetValue}
use Rattle.flow_floor.specs.declared.board.View.{View}
use Rattle.flow_floor.specs.Law.{IsTaken, IsFree}
use Rattle.flow_floor.specs.Waking.{counts, IsDoneWord}
use Rattle.flow_floor.specs.Rule.{Law}
use Rattle.flow_floor.specs.Plays.{Sat, glanced, nudged}
use Rattle.flow_floor.specs.Views.{counting, striking}
use Rattle.flow_floor.proofs.Cells.{St, state}
use Rattle.flow_floor.proofs.Flows.{flow-view}
use Rattle.flow_floor.proofs.Retires.{low-undone, done-set}
use Rattle.flow_floor.proofs.Wakings.{wakes-poke}
use Rattle.flow_floor.proofs.Functions.{hit, miss}
use Rattle.flow_floor.proofs.Laws.{law-counting}

-- A process word x, and one that says the same of the process beside that it is ready, poked or done.
record Poked (x y : ℕ) : Type 0 where
  high : 1 < y
  free : IsFree x → IsFree y
  taken : IsTaken x → IsTaken y
  counted : counts y ≡ counts x
  done : IsDoneWord y → IsDoneWord x

poked-already : (x : ℕ) → 1 < x → Poked x x
poked-already x high = record { high = high; free = λ t. t; taken = λ t. t; counted = refl; done = λ t. t }

poked-held : (x : ℕ) → x ≡ 1 → Poked x 3
poked-held x one = record { high = omega arith; free = λ t. absurd (no-free x t one); taken = λ _. inr refl; counted = sym (ap counts one); done = λ t. absurd (low-undone 3 (omega arith) t) }
  where
    no-free : (w : ℕ) → IsFree w → w ≡ 1 → ⊥
    no-free w (inl a) b = omega (arith, a, b)
    no-free w (inr (inl a)) b = omega (arith, a, b)
    no-free w (inr (inr (inl a))) b = omega (arith, a, b)
    no-free w (inr (inr (inr a))) b = omega (arith, a, b)

module _ {K : Type 0} (rules : Rules K) (lawful : Lawful rules)
    (start : NetValue K) where
  abbrev Rule : St K → Type 0
  Rule = Law rules start

  abbrev P : ℕ
  P = length start.bodies

  -- the first noted process is struck off, as its word says from now on that it is ready, poked or done
  law-strike : (s : St K) (id p q y : ℕ) (v : View K) (b : BodyValue K) (more : List ℕ) → Rule s → get_elem? s.views id ≡ some v → v.held ≡ Some (p, b) → q < P → v.noted ≡ q ∷ more → Poked (get_or s.words q 0) y → Rule (state (set s.words q y) s.homes (set s.views id (striking v)))
  law-strike s id p q y v b more r at holds below notes k =
      let f = r.flow in
      let g = r.beside in
      let w = striking v in
      let ws' = set s.words q y in
      let wide = f.wide in
      let here = get_or-set_same s.words q y 0 (omega arith) in
      record {
        beside = g;
        flow = flow-view rules lawful start s g id v w ws' f at (length-set s.words q y)
            (λ x x_below. dite (ℕ_discrete x q)
            (λ e. (
              λ t. subst IsFree (sym (ap (λ n. get_or ws' n 0) e ∙ here)) (k.free (subst (λ n. IsFree (get_or s.words n 0)) e t)),
              λ t. subst IsTaken (sym (ap (λ n. get_or ws' n 0) e ∙ here)) (k.taken (subst (λ n. IsTaken (get_or s.words n 0)) e t)),
            ))
            (λ other. (let e = get_or-set_other s.words q x y 0 other in (subst IsFree (sym e), subst IsTaken (sym e)))))
            (λ x a b. get_or-set_other s.words q x y 0 (λ e. omega (arith, e, below, a))) refl refl refl refl (f.each_seat id v at).seen;
        planned = r.planned;
        wakes = wakes-poke rules lawful start s g g id p q y s.homes v w b f r.wakes at holds refl below k.high (notes ∙ ap (λ (l : List ℕ). q ∷ l) (sym (ap (drop 1) notes))) (omega (arith, k.counted)) (r.wakes.each id v at).spare refl refl refl refl;
        done = done-set s.words q y g.now.bodies (omega (arith, below, wide)) (λ z at_q is. r.done q z at_q (k.done is)) r.done;
      }

  -- The word of the first noted process is read.
  pub glances : (slots i id p : ℕ) (me : Sat K) (b : BodyValue K) (more : List ℕ) → i < P → me.0.held ≡ Some (p, b) → me.0.noted ≡ i ∷ more → Allows Rule slots id me i (λ n. n) (glanced (step slots i 0 0 none) me)
  glances slots i id p me b more below holds notes s r deep at fits =
      let v = me.0 in
      let x = get_or s.words i 0 in
      dite (dec_lt 1 x)
      (λ high. (striking v, keeps, tt, law-strike s id p i x v b more r at holds below notes (poked-already x high), ((λ _. refl), λ low. absurd (omega (arith, low, high)))))
      (λ low. (counting v, keeps, tt, subst (λ (ws : List ℕ). Rule (state ws s.homes (set s.views id (counting v)))) (sym (set-get_or s.words i 0)) (law-counting rules lawful start s id v r at), ((λ high. absurd (low high)), λ _. refl)))

  -- The first noted process is poked if it is held.
  pub nudges : (slots i id p : ℕ) (me : Sat K) (b : BodyValue K) (more : List ℕ) → i < P → me.0.held ≡ Some (p, b) → me.0.noted ≡ i ∷ more → Allows Rule slots id me i (λ n. either (n == 1) 3 n) (nudged (step slots i 1 3 none) me)
  nudges slots i id p me b more below holds notes s r deep at fits =
      let v = me.0 in
      let x = get_or s.words i 0 in
      dite (ℕ_discrete x 1)
      (λ one. (
        striking v,
        keeps,
        tt,
        subst (λ (y : ℕ). Rule (state (set s.words i y) s.homes (set s.views id (striking v)))) (sym (hit x 1 3 one)) (law-strike s id p i 3 v b more r at holds below notes (poked-held x one)),
        ((λ _. refl), λ none_there. absurd (omega (arith, one, none_there))),
      ))
      (λ other. dite (ℕ_discrete x 0)
      (λ none_there. (
        counting v,
        keeps,
        tt,
        subst (λ (ws : List ℕ). Rule (state ws s.homes (set s.views id (counting v)))) (sym (ap (set s.words i) (miss x 1 3 other) ∙ set-get_or s.words i 0)) (law-counting rules lawful start s id v r at),
        ((λ some_there. absurd (some_there none_there)), λ _. refl),
      ))
      (λ some_there. (
        striking v,
        keeps,
        tt,
        subst (λ (y : ℕ). Rule (state (set s.words i y) s.homes (set s.views id (striking v)))) (sym (miss x 1 3 other)) (law-strike s id p i x v b more r at holds below notes (poked-already x (above x other some_there))),
        ((λ _. refl), λ none_there. absurd (some_there none_there)),
      )))
    where
      above : (x : ℕ) → x ≢ 1 → x ≢ 0 → 1 < x
      above x other some_there = dite (dec_lt 1 x) (λ h. h) (λ low. dite (ℕ_discrete x 0) (λ e. absurd (some_there e)) (λ _. absurd (other (omega (arith, low, some_there)))))
