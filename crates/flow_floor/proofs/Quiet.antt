-- Where the live word is 0, no parked process has a turn.
use Rattle.std.proofs.Common.{◌≡◌, ℕ, ◌+◌, ◌<◌, List, [], ◌∷◌, length, get_or, sym, refl, ap, ◌∙◌, subst, arith, Option, Some, None, slice_get, ◌⊎◌, inl, inr, Contains}
use Rattle.flow_ring.specs.declared.TheConstants.{FIELD}
use Rattle.std.proofs.lemmas.List.{length-map}
use mathlib.Core.Option.{some}
use lib.ListN.{get_elem?}
use Rattle.flow_component.specs.Laws.{Rules}
use Rattle.flow_model.specs.declared.Stage.{Stage}
use Rattle.flow_model.specs.declared.Stage.TheVariants as stages
use Rattle.flow_model.specs.States.{State, Process}
use Rattle.flow_model.specs.Events.{event_from}
use Rattle.flow_model.specs.Stages.{IsThoughtStage}
use Rattle.flow_model.specs.Stands.{ChannelShown, NetShown, bodies_from, StandsForOpen}
use Rattle.flow_model.specs.Verdicts.{Quiet}
use Rattle.flow_machine.specs.Values.{BodyValue, NetValue, shown_body, shown_net}
use Rattle.flow_machine.specs.Nets.{looks_of}
use Rattle.flow_machine.proofs.Standings.{process-in, happens-in}
use Rattle.flow_machine.specs.Quiet.{EndedAreTold}
use Rattle.flow_machine.specs.Thoughts.{IsNotOver}
use Rattle.flow_machine.proofs.Told.{not-both, told-at}
use Rattle.flow_ring.specs.Words.{level_in, senders_in}
use Rattle.flow_floor.specs.declared.board.View.{View}
use Rattle.flow_floor.specs.Law.{IsTaken, IsFree, Holds, Stands}
use Rattle.flow_floor.specs.Ends.{capacities_of}
use Rattle.flow_floor.specs.Waking.{counts, IsDoneWord, WordsBlock, IsNoted}
use Rattle.flow_floor.specs.Rule.{Law}
use Rattle.flow_floor.proofs.Numbers.{contains-none}
use Rattle.flow_floor.proofs.Lists.{some_Some, get-exists, get-within}
use Rattle.flow_floor.proofs.Cells.{St}
use Rattle.flow_ring.proofs.Words.{level-of, senders-of}
use Rattle.flow_floor.proofs.Blocks.{block-none}
use Rattle.flow_floor.proofs.Wakes.{live-one}
use Rattle.flow_floor.proofs.Begins.{lies-free, level-free}

bodies-length : {K : Type 0} (dropped : ℕ → List ℕ) (p : ℕ) (xs : List (Process K)) → length (bodies_from dropped p xs) ≡ length xs
bodies-length dropped p [] = refl
bodies-length dropped p (x ∷ xs) = omega (arith, bodies-length dropped (p + 1) xs)

-- a process that the words block isn't over
blocks-not-over : {K : Type 0} (n : ℕ) (channels : List ChannelShown) (ws : List ℕ) (b : BodyValue K) (stage : Stage) → WordsBlock n channels ws b stage → IsNotOver stage
blocks-not-over n channels ws b stages.Idle blocks = tt
blocks-not-over n channels ws b (stages.Wishing wish) blocks = tt
blocks-not-over n channels ws b (stages.Told answer) blocks = tt
blocks-not-over n channels ws b (stages.Closing i) blocks = tt
blocks-not-over n channels ws b stages.Ended blocks = blocks
blocks-not-over n channels ws b (stages.Failed cause) blocks = blocks

module _ {K : Type 0} (rules : Rules K) (start : NetValue K) where
  abbrev Rule : St K → Type 0
  Rule = Law rules start

  abbrev P : ℕ
  P = length start.bodies

  abbrev C : ℕ
  C = length (capacities_of start)

  abbrev L : ℕ
  L = P + C + C + 1

  no-live : (s : St K) (r : Rule s) → get_or s.words L 0 ≡ 0 → (q : ℕ) → q < P → counts (get_or s.words q 0) ≡ 0
  no-live s r z q below = let one = live-one P q s.words below (omega (arith, r.flow.wide, below)) in omega (arith, r.wakes.live, one, z)

  taken-live : (w : ℕ) → IsTaken w → counts w ≡ 1
  taken-live w (inl e) = ap counts e
  taken-live w (inr e) = ap counts e

  -- no seat holds a process
  pub none-held-at-zero : (s : St K) (r : Rule s) → get_or s.words L 0 ≡ 0 → (j : ℕ) (v : View K) → get_elem? s.views j ≡ some v → v.held ≡ None
  none-held-at-zero s r z j v at = by v.held refl
    where
      by : (h : Option (ℕ × BodyValue K)) → v.held ≡ h → v.held ≡ None
      by None is = is
      by (Some (q, b)) is =
          let holds = subst (Holds r.beside.holder r.beside.now j) is (r.flow.each_seat j v at).holds in
          let taken = (subst (Stands s q b) holds.0 (r.flow.each_process q b holds.1)).0 in
          let below : q < P = omega (arith, get-within r.beside.now.bodies q b holds.1, r.flow.same.0) in
          absurd (omega (arith, no-live s r z q below, taken-live (get_or s.words q 0) taken))

  -- the words are the machine's
  words-tell : (s : St K) (r : Rule s) → get_or s.words L 0 ≡ 0 → (c : ℕ) (k : ChannelShown) → slice_get r.beside.now.channels c ≡ Some k → (level_in (get_or s.words (P + c) 0) ≡ length k.packets) × (senders_in (get_or s.words (P + c) 0) ≡ k.open_senders)
  words-tell s r z c k there =
      let lies = lies-free rules start s r (none-held-at-zero s r z) c k there in
      let word = level-free rules start s c k lies in
      let small : length k.packets < FIELD = omega (arith, lies.so.room, lies.so.few.0) in
      let few : k.open_senders < FIELD = omega (arith, lies.so.few.1) in
      (ap level_in word ∙ level-of (length k.packets) k.open_senders small few, ap senders_in word ∙ senders-of (length k.packets) k.open_senders small few)

  none-noted : (s : St K) (r : Rule s) → get_or s.words L 0 ≡ 0 → (q : ℕ) → IsNoted s.views q → ⊥
  none-noted s r z q (j, u, u_at, there) = contains-none q (subst (λ (xs : List ℕ). Contains xs q) ((r.wakes.each j u u_at).noted (none-held-at-zero s r z j u u_at)) there)

  -- Where the live word is 0, each process is parked or done.
  pub free-at-zero : (s : St K) (r : Rule s) → get_or s.words L 0 ≡ 0 → (q : ℕ) (b : BodyValue K) → slice_get r.beside.now.bodies q ≡ Some b → (get_or s.words q 0 ≡ 0) ⊎ IsDoneWord (get_or s.words q 0)
  free-at-zero s r z q b there = by (r.beside.holder q) (no-live s r z q (omega (arith, get-within r.beside.now.bodies q b there, r.flow.same.0))) (r.flow.each_process q b there)
    where
      free : (w : ℕ) → counts w ≡ 0 → IsFree w → (w ≡ 0) ⊎ IsDoneWord w
      free w none (inl e) = inl e
      free w none (inr (inl e)) = absurd (let t : counts w ≡ 1 = ap counts e in omega (arith, none, t))
      free w none (inr (inr (inl e))) = inr (inl e)
      free w none (inr (inr (inr e))) = inr (inr e)

      by : (h : Option ℕ) → counts (get_or s.words q 0) ≡ 0 → Stands s q b h → (get_or s.words q 0 ≡ 0) ⊎ IsDoneWord (get_or s.words q 0)
      by None none k = free (get_or s.words q 0) none k.0
      by (Some j) none k = absurd (omega (arith, none, taken-live (get_or s.words q 0) k.0))

  -- Where the live word is 0, the words block each parked process.
  blocks-at-zero : (s : St K) (r : Rule s) → get_or s.words L 0 ≡ 0 → (q : ℕ) (b : BodyValue K) → slice_get r.beside.now.bodies q ≡ Some b → get_or s.words q 0 ≡ 0 → WordsBlock P start.channels s.words b b.process.stage
  blocks-at-zero s r z q b there empty = elim (r.wakes.parked q b there empty).1 [
    | inl words ↦ words
    | inr note ↦ absurd (none-noted s r z q note)
  ]

  -- Where the live word is 0, no parked process is over.
  parked-not-over : (s : St K) (r : Rule s) → get_or s.words L 0 ≡ 0 → (q : ℕ) (b : BodyValue K) → slice_get r.beside.now.bodies q ≡ Some b → get_or s.words q 0 ≡ 0 → IsNotOver b.process.stage
  parked-not-over s r z q b there empty = blocks-not-over P start.channels s.words b b.process.stage (blocks-at-zero s r z q b there empty)

  -- Where the live word is 0, no parked process has a turn or a work to come.
  pub parked-at-zero : (s : St K) (r : Rule s) → get_or s.words L 0 ≡ 0 → (q : ℕ) (b : BodyValue K) → slice_get r.beside.now.bodies q ≡ Some b → get_or s.words q 0 ≡ 0
      → IsThoughtStage b.process.stage × ((m : ℕ) → event_from (looks_of r.beside.now.channels) b.process m ≡ None)
  parked-at-zero s r z q b there empty =
      let now = r.beside.now in
      let wired = r.flow.fit.wired q b there in
      let blocks = blocks-at-zero s r z q b there empty in (
        (r.wakes.parked q b there empty).0,
        λ m. block-none P now.channels start.channels s.words (words-tell s r z) (λ c below. get-exists now.channels c below) r.wakes.wired.capacities b b.process.stage m refl (λ i c is. wired.inputs i c is) (λ o c is. wired.outputs o c is)
            (λ c is. (let below = r.wakes.wired.signals q c b there is in omega (arith, below, r.flow.same.1, length-map start.channels (λ (k : ChannelShown). k.capacity)))) blocks,
      )

  -- Where the live word is 0, each body of a process that is over was told its end.
  pub told-at-zero : (s : St K) (r : Rule s) → get_or s.words L 0 ≡ 0 → EndedAreTold r.beside.now
  told-at-zero s r z q b there over = elim (free-at-zero s r z q b there) [
    | inl parked ↦ absurd (not-both b.process.stage over (parked-not-over s r z q b there parked))
    | inr done ↦ elim (r.done q b there done) [
      | inl told ↦ told-at b b.process.stage told.0 told.1
      | inr starved ↦ absurd (not-both b.process.stage over starved.0)
    ]
  ]

  -- Where the live word is 0 and each done process is over, each state that the net stands for is quiet.
  pub quiet-at-zero : (s : St K) (r : Rule s) → get_or s.words L 0 ≡ 0 → ((q : ℕ) (b : BodyValue K) → slice_get r.beside.now.bodies q ≡ Some b → (get_or s.words q 0 ≡ 0) ⊎ (IsThoughtStage b.process.stage × ((m : ℕ) → event_from (looks_of r.beside.now.channels) b.process m ≡ None)))
      → (t : State K) → StandsForOpen (shown_net r.beside.now) t → Quiet t
  quiet-at-zero s r z done t stands = record {
    thought = λ p x is answer told. (let e = at p x is in subst IsThoughtStage (ap (λ (y : Process K). y.stage) e.1 ∙ told) e.2);
    still = λ p x m is. (let e = at p x is in sym (happens-in r.beside.now t x m stands) ∙ ap (λ (y : Process K). event_from (looks_of r.beside.now.channels) y m) (sym e.1) ∙ e.3 m);
  }
    where
      at : (p : ℕ) (x : Process K) → slice_get t.kept.processes p ≡ Some x → (b : BodyValue K) × (b.process ≡ x) × IsThoughtStage b.process.stage × ((m : ℕ) → event_from (looks_of r.beside.now.channels) b.process m ≡ None)
      at p x is =
          let len = ap (λ (y : NetShown K). length y.bodies) stands in
          let b = get-exists r.beside.now.bodies p (omega (arith, get-within t.kept.processes p x is, len, length-map r.beside.now.bodies shown_body, bodies-length t.past.dropped 0 t.kept.processes)) in
          let same : Some b.0.process ≡ Some x = sym (process-in r.beside.now t p b.0 stands b.1) ∙ is in
          let none : IsThoughtStage b.0.process.stage × ((m : ℕ) → event_from (looks_of r.beside.now.channels) b.0.process m ≡ None) = elim (done p b.0 b.1) [
            | inl empty ↦ parked-at-zero s r z p b.0 b.1 empty
            | inr over ↦ over
          ] in
          (b.0, some_Some b.0.process x same, none.0, none.1)
