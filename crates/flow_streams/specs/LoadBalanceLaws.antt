-- LoadBalance keeps the laws of components.
use Rattle.std.proofs.Common.{◌≡◌, ℕ, zero, suc, ◌+◌, ◌<◌, Bool, true, false, [], refl, sym, ap, ◌∙◌, subst, arith, nat_lt, if◌then◌else◌}
use Rattle.std.proofs.lemmas.Bool.Decides.{nat_tests}
use Rattle.flow_packet.specs.declared.packet.Kind.TheVariants.{Normal}
use Rattle.flow_packet.specs.Hands.{kind_at}
use Rattle.flow_packet.specs.Held.{Held}
use Rattle.flow_component.specs.declared.Answer.{Answer}
use Rattle.flow_component.specs.declared.Answer.TheVariants as answers
use Rattle.flow_component.specs.Laws.{Lawful, Outcome, Wishes, Obeys, StaysReady, component_after}
use Rattle.flow_component.specs.Ports.{receive_first}
use Rattle.flow_component.specs.Alone.{HoldsOnly}
use Rattle.flow_component.proofs.Comings.{comes_same}
use Rattle.flow_component.proofs.Lone.{HoldsOnly-without, HoldsOnly-root, HoldsOnly-came, HoldsOnly-made_alone}
use Rattle.flow_streams.specs.declared.load_balance.LoadPlace.{LoadPlace}
use Rattle.flow_streams.specs.declared.load_balance.LoadPlace.TheVariants.{Waiting, Asking}
use Rattle.flow_streams.specs.LoadBalance.{LoadState, send_at, level_at, depth_after, no_level, comes_at, asks_on, learns, load_next, load_shape, load_uses, IsAsking, LoadReady, load_rules}

-- The work from these hands leads to a lawful outcome.
abbrev IsLawful : ℕ → Held → Outcome LoadState → Type 0
IsLawful count held outcome = Obeys (record { inputs = 1; outputs = count }) (λ port. nat_lt port count) held outcome × StaysReady load_rules outcome

below : (a b : ℕ) → a < b → nat_lt a b ≡ true
below a b l = grind (arith, nat_tests)

idle : (state : LoadState) (held : Held) → state.chosen < state.count → state.place ≡ Waiting → held.packets ≡ [] → IsLawful state.count held (Wishes state held receive_first)
idle state held l p e = ((comes_same held, omega arith), ((λ s. (l, p, e)), (λ t s. (l, p, HoldsOnly-came held t e s)), (λ text s. (l, p, HoldsOnly-made_alone held Normal text e s))))

sends : (state : LoadState) (held : Held) (id : ℕ) → state.chosen < state.count → state.place ≡ Waiting → HoldsOnly held id → IsLawful state.count held (Wishes state held (send_at state.chosen id))
sends state held id l p h = ((comes_same held, (below state.chosen state.count l, HoldsOnly-root held id h)), λ s. (l, p, HoldsOnly-without held id h))

asks : (state : LoadState) (held : Held) (id output least : ℕ) → state.chosen < state.count → output < state.count → HoldsOnly held id → IsLawful state.count held (Wishes (record state { place = Asking id output least }) held (level_at output))
asks state held id output least l m h = ((comes_same held, below output state.count m), λ n few s. (l, (h, m)))

asked_on : (state : LoadState) (held : Held) (id output least : ℕ) (b : Bool) → nat_lt (output + 1) state.count ≡ b → state.chosen < state.count → HoldsOnly held id
    → IsLawful state.count held (if b then Wishes (record state { place = Asking id (output + 1) least }) held (level_at (output + 1)) else Wishes (record state { place = Waiting }) held (send_at state.chosen id))
asked_on state held id output least true t l h = asks state held id (output + 1) least l (grind (arith, nat_tests)) h
asked_on state held id output least false t l h = sends (record state { place = Waiting }) held id l refl h

weighed : (state : LoadState) (held : Held) (id output least level : ℕ) (b : Bool) → state.chosen < state.count → output < state.count → HoldsOnly held id
    → IsLawful state.count held (if b then asks_on (record state { chosen = output }) held id output level else asks_on state held id output least)
weighed state held id output least level true l m h = asked_on (record state { chosen = output }) held id output level (nat_lt (output + 1) state.count) refl m h
weighed state held id output least level false l m h = asked_on state held id output least (nat_lt (output + 1) state.count) refl l h

learned : (state : LoadState) (held : Held) (place : LoadPlace) (level : ℕ) → state.chosen < state.count → IsAsking state held place → IsLawful state.count held (learns state held place level)
learned state held Waiting level l a = absurd a
learned state held (Asking id output least) level l a = weighed state held id output least level (nat_lt level least) l a.1 a.0

came : (state : LoadState) (held : Held) (id depth : ℕ) → state.chosen < state.count → state.place ≡ Waiting → HoldsOnly held id → IsLawful state.count held (comes_at state held id depth)
came state held id zero l p h = asks state held id 0 no_level l (omega arith) h
came state held id (suc outer) l p h = sends state held id l p h

lawful : (state : LoadState) (held : Held) (answer : Answer) → LoadReady state held answer → IsLawful state.count held (load_next state held answer)
lawful state held answers.Start r = idle state held r.0 r.1 r.2
lawful state held (answers.Got id) r = came (record state { depth = depth_after (kind_at held.packets id) state.depth }) held id state.depth r.0 r.1 r.2
lawful state held answers.End r = ((comes_same held, tt), λ s. r)
lawful state held answers.Sent r = idle state held r.0 r.1 r.2
lawful state held (answers.Level level) r = learned state held state.place level r.0 r.1

asked-count : (state : LoadState) (held : Held) (id output least : ℕ) → (component_after (asks_on state held id output least)).count ≡ state.count
asked-count state held id output least =
    elim (nat_lt (output + 1) state.count) as (λ b. (component_after (if b then Wishes (record state { place = Asking id (output + 1) least }) held (level_at (output + 1)) else Wishes (record state { place = Waiting }) held (send_at state.chosen id))).count ≡ state.count) [
      | true ↦ refl
      | false ↦ refl
    ]

learned-count : (state : LoadState) (held : Held) (place : LoadPlace) (level : ℕ) → (component_after (learns state held place level)).count ≡ state.count
learned-count state held Waiting level = refl
learned-count state held (Asking id output least) level =
    elim (nat_lt level least) as (λ b. (component_after (if b then asks_on (record state { chosen = output }) held id output level else asks_on state held id output least)).count ≡ state.count) [
      | true ↦ asked-count (record state { chosen = output }) held id output level
      | false ↦ asked-count state held id output least
    ]

came-count : (state : LoadState) (held : Held) (id depth : ℕ) → (component_after (comes_at state held id depth)).count ≡ state.count
came-count state held id zero = refl
came-count state held id (suc outer) = refl

-- how many outputs there are stays
pub next-count : (state : LoadState) (held : Held) (answer : Answer) → (component_after (load_next state held answer)).count ≡ state.count
next-count state held answers.Start = refl
next-count state held (answers.Got id) = came-count (record state { depth = depth_after (kind_at held.packets id) state.depth }) held id state.depth
next-count state held answers.End = refl
next-count state held answers.Sent = refl
next-count state held (answers.Level level) = learned-count state held state.place level

-- It keeps the laws of components.
pub load_lawful : Lawful load_rules
load_lawful = record {
  obeys = λ state held answer outcome r is. subst (Obeys (load_shape state) (load_uses state) held) (sym is) (lawful state held answer r).0;
  stays_ready = λ state held answer outcome r is. subst (StaysReady load_rules) (sym is) (lawful state held answer r).1;
  steady = λ state held answer outcome is.
      let e = ap (λ (o : Outcome LoadState). (component_after o).count) is ∙ next-count state held answer in
      let used : ℕ → ℕ → Bool = λ n port. nat_lt port n in
      record { shape = ap (λ (n : ℕ). record { inputs = 1; outputs = n }) e; outputs = ap used e };
  has_outcome = λ component held answer _. (load_next component held answer, refl);
}
