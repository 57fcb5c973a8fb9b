-- A worker leaves the process that it holds: hands it back, retires it, or parks it.
use Rattle.std.proofs.Common.{◌≡◌, ◌≢◌, ℕ, ◌+◌, ◌<◌, ◌≤◌, List, [], ◌∷◌, length, get_or, set, sym, refl, ap, ◌∙◌, subst, arith, Some, None, inl, inr, set-set, ◌==◌}
use Rattle.flow_limits.specs.declared.TheConstants.{WORKER_LIMIT}
use mathlib.Core.Logic.{dite}
use mathlib.Core.Option.{none, some}
use native.Mathlib.Decide.{ℕ_discrete}
use lib.ListN.{get_elem?}
use prog.Atomic.{either}
use Rattle.atomic_table.specs.Table.{step, keeps, gives, homes_after, Allows}
use Rattle.atomic_table.proofs.Lists.{set_here}
use Rattle.flow_component.specs.Laws.{Rules, Lawful}
use Rattle.flow_model.specs.Stages.{IsThoughtStage}
use Rattle.flow_machine.specs.Values.{BodyValue, NetValue}
use Rattle.flow_floor.specs.Ends.{capacities_of}
use Rattle.flow_floor.specs.declared.board.Slot.{Slot}
use Rattle.flow_floor.specs.declared.board.Slot.TheVariants as slot
use Rattle.flow_floor.specs.declared.board.View.{View}
use Rattle.flow_floor.specs.declared.board.Look.{Look}
use Rattle.flow_floor.specs.Law.{IsTaken, IsFree, Rests}
use Rattle.flow_floor.specs.Waking.{counts, IsDoneWord, IsRetired, WordsBlock, AllBlock}
use Rattle.flow_floor.specs.Rule.{Law}
use Rattle.flow_floor.specs.Plays.{Sat, left, parked, retired}
use Rattle.flow_floor.specs.Views.{looked, leaving, parking}
use Rattle.flow_floor.proofs.Functions.{put, hit, miss}
use Rattle.flow_floor.proofs.Lists.{at_inside, some_Some}
use Rattle.flow_floor.proofs.Cells.{St, Homes, state}
use Rattle.flow_floor.proofs.Flows.{mine-holds, flow-leave}
use Rattle.flow_floor.proofs.Retires.{low-undone, done-set}
use Rattle.flow_floor.proofs.Wakes.{total_one}
use Rattle.flow_floor.proofs.Wakings.{word-taken, body-below, wakes-leave}
use lib.Seq.{set-get_or}
use Rattle.flow_floor.proofs.Laws.{law-commit, law-looked}

module _ {K : Type 0} (rules : Rules K) (lawful : Lawful rules)
    (start : NetValue K) where
  abbrev Rule : St K → Type 0
  Rule = Law rules start

  abbrev P : ℕ
  P = length start.bodies

  abbrev C : ℕ
  C = length (capacities_of start)

  abbrev L : ℕ
  L = P + C + C + 1

  -- The words block the process where what was looked at still blocks it.
  abbrev pub Blocks : BodyValue K → List Look → Type 0
  Blocks d seen = IsThoughtStage d.process.stage × ((ws : List ℕ) → AllBlock P start.channels ws d seen → WordsBlock P start.channels ws d d.process.stage)

  -- a held process is left: its body goes home
  law-leave : (s : St K) (id p y : ℕ) (v w : View K) (b d : BodyValue K) → Rule s → get_elem? s.views id ≡ some v → v.held ≡ Some (p, b) → Rests rules b d → v.sending ≡ None → v.receiving ≡ None → v.noted ≡ [] → IsFree y
      → w.held ≡ None → w.sending ≡ None → w.receiving ≡ None → w.made ≡ v.made → w.shares ≡ v.shares → w.spare + counts y ≡ v.spare + 1 → w.spare ≤ w.shares → w.noted ≡ [] → w.read_zero ≡ v.read_zero
      → (y ≡ 0 → (get_or s.words p 0 ≡ 1) × Blocks d v.seen) → (IsDoneWord y → IsRetired d) → Rule (state (set s.words p y) (set s.homes p (some (slot.Body d))) (set s.views id w))
  law-leave s id p y v w b d r at holds rests no_sending no_receiving no_notes free held sending receiving made shares spare few noted zeros parks retired =
      let v1 : View K = record v { held = Some (p, d) } in
      let s1 = state s.words s.homes (set s.views id v1) in
      let r1 : Rule s1 = law-commit rules lawful start s id p v v1 b d r at holds rests refl in
      let at1 : get_elem? s1.views id ≡ some v1 = set_here s.views id v1 (at_inside s.views id v at) in
      let hs' = set s.homes p (some (slot.Body d)) in
      let law : Rule (state (set s.words p y) hs' (set s1.views id w)) = record {
        beside = record r1.beside { holder = put r1.beside.holder p None };
        flow = flow-leave rules lawful start s1 r1.beside id p y v1 w d r1.flow at1 refl no_sending no_receiving free held sending receiving made;
        planned = r1.planned;
        wakes = wakes-leave rules lawful start s1 r1.beside id p y hs' v1 w d r1.flow r1.wakes at1 refl free held shares spare few no_notes noted zeros
            (λ none. (let a = parks none in (
              a.1.0,
              elim (r1.wakes.held id p v1 d at1 refl a.0) [
                | inl all ↦ inl (a.1.1 s.words all)
                | inr note ↦ inr note
              ],
            ))) (put r1.beside.holder p None);
        done = (let mine = mine-holds rules lawful start s1 r1.beside id p v1 d r1.flow at1 refl in
            let below = body-below rules lawful start s1 r1.beside p d r1.flow mine.1 in
            done-set s.words p y r1.beside.now.bodies (omega (arith, below, r1.flow.wide)) (λ x there is. subst IsRetired (some_Some d x (sym mine.1 ∙ there)) (retired is)) r1.done);
      } in
      subst (λ (vs : List (View K)). Rule (state (set s.words p y) hs' vs)) (set-set s.views id v1 w) law

  shares-most : (s : St K) (id : ℕ) (v : View K) → Rule s → get_elem? s.views id ≡ some v → v.shares ≤ WORKER_LIMIT
  shares-most s id v r at = omega (arith, total_one (λ (x : View K). x.shares) s.views id v at, r.wakes.shares)

  pub leaves : (slots i id : ℕ) (me : Sat K) (b d : BodyValue K) (more : List (ℕ × Slot K)) → me.0.held ≡ Some (i, b) → Rests rules b d → me.0.sending ≡ None → me.0.receiving ≡ None → me.0.noted ≡ [] → me.1 ≡ (i, slot.Body d) ∷ more
      → Allows Rule slots id me i (λ _. 2) (left (step slots i 2 0 none) me)
  leaves slots i id me b d more holds rests no_sending no_receiving no_notes carried s r deep at fits =
      let v = me.0 in
      let x = get_or s.words i 0 in
      let w = leaving v in
      let ks = r.wakes.each id v at in (
        w,
        gives,
        tt,
        subst (λ (hs : Homes K). Rule (state (set s.words i 2) hs (set s.views id w))) (ap (λ (cs : List (ℕ × Slot K)). homes_after s.homes cs gives) (sym carried))
            (law-leave s id i 2 v w b d r at holds rests no_sending no_receiving no_notes (inr (inl refl)) refl no_sending no_receiving refl refl (omega arith) ks.spare no_notes refl (λ e. absurd (omega (arith, e))) (λ e. absurd (low-undone 2 (omega arith) e))),
        refl,
      )

  pub retires : (slots i id : ℕ) (me : Sat K) (b d : BodyValue K) (more : List (ℕ × Slot K)) → IsRetired d → me.0.held ≡ Some (i, b) → Rests rules b d → me.0.sending ≡ None → me.0.receiving ≡ None → me.0.noted ≡ [] → me.0.spare ≡ 0 → 0 < me.0.shares → me.1 ≡ (i, slot.Body d) ∷ more
      → Allows Rule slots id me i (λ _. 4) (retired (step slots i 4 0 none) me)
  retires slots i id me b d more retired holds rests no_sending no_receiving no_notes none_spare share carried s r deep at fits =
      let v = me.0 in
      let x = get_or s.words i 0 in
      let w = parking v in (
        w,
        gives,
        tt,
        subst (λ (hs : Homes K). Rule (state (set s.words i 4) hs (set s.views id w))) (ap (λ (cs : List (ℕ × Slot K)). homes_after s.homes cs gives) (sym carried))
            (law-leave s id i 4 v w b d r at holds rests no_sending no_receiving no_notes (inr (inr (inl refl))) refl no_sending no_receiving refl refl (omega arith) (omega (arith, none_spare, share)) no_notes refl (λ e. absurd (omega (arith, e))) (λ e. retired)),
        refl,
      )

  pub parks : (slots i id : ℕ) (me : Sat K) (b d : BodyValue K) (more : List (ℕ × Slot K)) → me.0.held ≡ Some (i, b) → Rests rules b d → me.0.sending ≡ None → me.0.receiving ≡ None → me.0.noted ≡ [] → me.0.spare ≡ 0 → 0 < me.0.shares → me.1 ≡ (i, slot.Body d) ∷ more
      → Blocks d me.0.seen → Allows Rule slots id me i (λ n. either (n == 1) 0 n) (parked (step slots i 1 0 none) me)
  parks slots i id me b d more holds rests no_sending no_receiving no_notes none_spare share carried blocks s r deep at fits =
      let v = me.0 in
      let x = get_or s.words i 0 in
      dite (ℕ_discrete x 1)
      (λ e.
      (let w = parking v in (
        w,
        gives,
        tt,
        subst (λ (z : ℕ × Homes K). Rule (state (set s.words i z.0) z.1 (set s.views id w))) (λ j. (sym (hit x 1 0 e) j, ap (λ (cs : List (ℕ × Slot K)). homes_after s.homes cs gives) (sym carried) j))
            (law-leave s id i 0 v w b d r at holds rests no_sending no_receiving no_notes (inl refl) refl no_sending no_receiving refl refl (omega arith) (omega (arith, none_spare, share)) no_notes refl (λ _. (e, blocks)) (λ z. absurd (low-undone 0 (omega arith) z))),
        (λ _. refl, λ other. absurd (other e)),
      )))
      (λ other. (
        looked v i x,
        keeps,
        tt,
        subst (λ (ws : List ℕ). Rule (state ws s.homes (set s.views id (looked v i x)))) (sym (ap (set s.words i) (miss x 1 0 other) ∙ set-get_or s.words i 0)) (law-looked rules lawful start s id i x v r at),
        (λ e. absurd (other e), λ _. (poked-now (word-taken rules lawful start s r.beside id i v b r.flow at holds) other, refl)),
      ))
    where
      poked-now : {x : ℕ} → IsTaken x → x ≢ 1 → x ≡ 3
      poked-now (inl e) other = absurd (other e)
      poked-now (inr e) other = e
