-- A seat takes a process that is ready.
use Rattle.std.proofs.Common.{◌≡◌, ℕ, ◌<◌, List, length, get_or, set, sym, refl, ap, ◌∙◌, subst, arith, Option, Some, None, slice_get, inl, inr, ◌==◌}
use Rattle.std.proofs.lemmas.List.{length-map}
use mathlib.Core.Logic.{dite}
use mathlib.Core.Option.{none, some}
use native.Mathlib.Decide.{ℕ_discrete}
use lib.ListN.{get_elem?}
use lib.Seq.{set-get_or}
use prog.Atomic.{either}
use Rattle.atomic_table.specs.Table.{step, keeps, takes, Allows}
use Rattle.flow_component.specs.Laws.{Rules, Lawful}
use Rattle.flow_model.specs.Stands.{ChannelShown}
use Rattle.flow_machine.specs.Values.{BodyValue, NetValue}
use Rattle.flow_floor.specs.Law.{IsTaken, IsFree, Stands}
use Rattle.flow_floor.specs.Wired.{IsWiredIn}
use Rattle.flow_floor.proofs.Functions.{hit, miss, put}
use Rattle.flow_floor.proofs.Retires.{low-undone, done-set}
use Rattle.flow_floor.proofs.Lists.{get-exists}
use Rattle.flow_floor.specs.declared.board.Slot.TheVariants as slot
use Rattle.flow_floor.specs.Ends.{capacities_of}
use Rattle.flow_floor.specs.Plays.{Sat, claimed}
use Rattle.flow_floor.specs.Rule.{Law}
use Rattle.flow_floor.specs.Views.{claiming, refusing}
use Rattle.flow_floor.proofs.Cells.{St, state}
use Rattle.flow_floor.proofs.Flows.{flow-claim}
use Rattle.flow_floor.proofs.Laws.{law-look}
use Rattle.flow_floor.proofs.Wakings.{wakes-claim}

module _ {K : Type 0} (rules : Rules K) (lawful : Lawful rules)
    (start : NetValue K) where
  abbrev Rule : St K → Type 0
  Rule = Law rules start

  abbrev P : ℕ
  P = length start.bodies

  abbrev C : ℕ
  C = length (capacities_of start)

  -- no seat holds a process whose word is free
  holder-free : (s : St K) (p : ℕ) (b : BodyValue K) (h : Option ℕ) → IsFree (get_or s.words p 0) → Stands s p b h → (h ≡ None) × (get_elem? s.homes p ≡ some (some (slot.Body b)))
  holder-free s p b None free k = (refl, k.1)
  holder-free s p b (Some j) free k = absurd (both (get_or s.words p 0) free k.0)
    where
      both : (w : ℕ) → IsFree w → IsTaken w → ⊥
      both w (inl a) (inl b) = omega (arith, a, b)
      both w (inl a) (inr b) = omega (arith, a, b)
      both w (inr (inl a)) (inl b) = omega (arith, a, b)
      both w (inr (inl a)) (inr b) = omega (arith, a, b)
      both w (inr (inr (inl a))) (inl b) = omega (arith, a, b)
      both w (inr (inr (inl a))) (inr b) = omega (arith, a, b)
      both w (inr (inr (inr a))) (inl b) = omega (arith, a, b)
      both w (inr (inr (inr a))) (inr b) = omega (arith, a, b)

  -- a process is at connections that are there
  wired-in : (s : St K) (r : Rule s) (p : ℕ) (b : BodyValue K) → slice_get r.beside.now.bodies p ≡ Some b → IsWiredIn C b
  wired-in s r p b there =
      let w = r.flow.fit.wired p b there in
      let same = r.flow.same.1 in
      record {
        inputs = λ i c is. omega (arith, w.inputs i c is, same);
        outputs = λ o c is. omega (arith, w.outputs o c is, same);
        signal = λ c is. omega (arith, r.wakes.wired.signals p c b there is, length-map start.channels (λ (k : ChannelShown). k.capacity));
      }

  pub claims : (slots i id m : ℕ) (me : Sat K) → m ≡ C → i < P → me.0.held ≡ None → 0 < me.0.shares → Allows Rule slots id me i (λ n. either (n == 2) 1 n) (claimed m (step slots i 2 1 none) me)
  claims slots i id m me count below idle share s r deep at fits =
      let v = me.0 in
      let f = r.flow in
      let g = r.beside in
      let x = get_or s.words i 0 in
      dite (ℕ_discrete x 2)
      (λ e.
      (let there = get-exists g.now.bodies i (omega (arith, below, f.same.0)) in
      let b = there.0 in
      let free = holder-free s i b (g.holder i) (inr (inl e)) (f.each_process i b there.1) in
      let w = claiming v i b in (
        w,
        takes i (slot.Body b),
        free.1,
        subst (λ (y : ℕ). Rule (state (set s.words i y) (set s.homes i none) (set s.views id w))) (sym (hit x 2 1 e)) (record {
          beside = record g { holder = put g.holder i (Some id) };
          flow = flow-claim rules lawful start s g id i 1 v w b f at idle there.1 free.0 (inl refl) refl refl refl refl refl;
          planned = r.planned;
          wakes = wakes-claim rules lawful start s g id i (set s.homes i none) v w b f r.wakes at there.1 free.0 e share refl refl refl refl refl refl (put g.holder i (Some id));
          done = done-set s.words i 1 g.now.bodies (omega (arith, below, f.wide)) (λ x at_i is. absurd (low-undone 1 (omega arith) is)) r.done;
        }),
        (λ _. (b, f.fit.whole i b there.1, subst (λ n. IsWiredIn n b) (sym count) (wired-in s r i b there.1), refl), λ other. absurd (other e)),
      )))
      (λ other. (
        refusing v i x,
        keeps,
        tt,
        subst (λ (ws : List ℕ). Rule (state ws s.homes (set s.views id (refusing v i x)))) (sym (ap (set s.words i) (miss x 2 1 other) ∙ set-get_or s.words i 0))
            (law-look rules lawful start s id v (refusing v i x) r at (record { held = refl; shares = refl; made = refl; spare = refl; zeros = refl }) refl refl refl (f.each_seat id v at).seen (λ q b h all. all)),
        (λ e. absurd (other e), λ _. refl),
      ))
