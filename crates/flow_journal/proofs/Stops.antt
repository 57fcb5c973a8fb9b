-- A journal that stops is no schedule, where components come to one outcome.
use Rattle.std.proofs.Common.{◌≡◌, ◌⊎◌, inl, inr, ℕ, ◌<◌, Bool, true, false, cond, List, [], ◌∷◌, ◌++◌, length, Some, None, refl, sym, ap, ◌∙◌, subst, arith, slice_get, append_assoc}
use Rattle.std.specs.Prelude.{option_and_then, nat_le, ◌&&◌}
use Rattle.std.proofs.lemmas.Bool.Decides.{nat_tests}
use Rattle.flow_component.specs.declared.Wish.TheVariants as wishes
use Rattle.flow_component.specs.Laws.{Rules}
use Rattle.flow_model.specs.declared.Stage.TheVariants as stages
use Rattle.flow_model.specs.States.{Process, Kept, State, output_at}
use Rattle.flow_model.specs.Events.{Event, Learns, Look, look, looks, told_level, stage_event, event_from, event_of, seen_by}
use Rattle.flow_model.specs.Turns.{Turn}
use Rattle.flow_model.specs.Schedules.{WholeTurn, LeadsBy, Leads}
use Rattle.flow_model.specs.Schedules.{Journal as Schedule}
use Rattle.flow_model.specs.Verdicts.{block_of}
use Rattle.flow_model.specs.Laws.{LeadsToOneState}
use Rattle.flow_model.proofs.Blocks.{block-no_turn}
use Rattle.flow_machine.specs.Nets.{is_asking}
use Rattle.flow_machine.proofs.Standings.{get-map}
use Rattle.flow_journal.specs.declared.refusal.Refusal.{Refusal}
use Rattle.flow_journal.specs.declared.refusal.Refusal.TheVariants.{NoProcess, Over, Blocked, Seen}
use Rattle.flow_journal.specs.Replays.{AsksLevel, HasOver, CannotSee, Refuses, StopsAtOnce, StopsAtTurn, StopsAreNoSchedules}
use Rattle.flow_journal.proofs.FileLaws.{same-front}
use Rattle.flow_journal.proofs.Turning.{asking-port, sees-told, sees-none}
use Rattle.flow_journal.proofs.Replayed.{within-of}

-- how many numbers a turn sees follows from the stage
count-of : {K : Type 0} (looks : List Look) (x : Process K) (n : ℕ) (e : Event) (asks : Bool) → is_asking x.stage ≡ asks → event_from looks x n ≡ Some e → length (seen_by e) ≡ cond asks 1 0
count-of looks x n e true asks happens = let port = asking-port x.stage asks in ap length (sees-told looks x n e port.0 port.1 happens)
count-of looks x n e false asks happens = ap length (sees-none looks x n e asks happens)

same-count : {K : Type 0} (s : State K) (p : ℕ) (e f : Event) (a b : State K) → Turn s p e a → Turn s p f b → length (seen_by e) ≡ length (seen_by f)
same-count {K} s p e f a b one two =
    let x = one.kept.before in
    let y = two.kept.before in
    let both : Some y ≡ Some x = sym two.kept.there ∙ one.kept.there in
    let same : y ≡ x = cc in
    let asks : Bool = is_asking x.stage in
    count-of (looks s.kept.channels) x one.kept.level e asks refl one.kept.happens
    ∙ sym (count-of (looks s.kept.channels) y two.kept.level f asks (ap (λ (z : Process K). is_asking z.stage) same) two.kept.happens)

-- a number outside can't be told
told-none : (port n : ℕ) (l : Look) (e : Event) → (n < length l.packets) ⊎ (l.capacity < n) → told_level port n (Some l) ≡ Some e → ⊥
told-none port n l e outside told = by (nat_le (length l.packets) n) (nat_le n l.capacity) refl refl told
  where
    by : (a b : Bool) → nat_le (length l.packets) n ≡ a → nat_le n l.capacity ≡ b → cond (a && b) (Some (Learns port n)) None ≡ Some e → ⊥
    by true true least most is = elim outside [ inl less ↦ grind (arith, nat_tests, less, least) | inr more ↦ grind (arith, nat_tests, more, most) ]
    by true false least most is = absurd (cc)
    by false b least most is = absurd (cc)

none-some : {A : Type 0} (x : A) → None ≡ Some x → ⊥
none-some x is = absurd (cc)

-- a process that asks sees the number that it is told, and no other
asked-sees : {K : Type 0} (kept : Kept K) (p n : ℕ) (x : Process K) (e : Event) → (asks : AsksLevel kept p) → slice_get kept.processes p ≡ Some x → event_of kept.channels x n ≡ Some e → (asks.process ≡ x) × (seen_by e ≡ n ∷ [])
asked-sees {K} kept p n x e asks there happens =
    let both : Some asks.process ≡ Some x = sym asks.there ∙ there in
    let same : asks.process ≡ x = cc in
    (same, sees-told (looks kept.channels) x n e asks.port (ap (λ (z : Process K). z.stage) (sym same) ∙ asks.asks) happens)

-- a turn that is refused isn't there
module _ {K : Type 0} (kept : Kept K) (p n : ℕ) (x : Process K) (e : Event) (rest : List ℕ) (there : slice_get kept.processes p ≡ Some x) (happens : event_of kept.channels x n ≡ Some e) where
  over-none : HasOver kept p → ⊥
  over-none refused =
      let both : Some refused.process ≡ Some x = sym refused.there ∙ there in
      let same : refused.process ≡ x = cc in
      let stage : refused.process.stage ≡ x.stage = ap (λ (z : Process K). z.stage) same in
      elim refused.over [
        | inl ended ↦ none-some e (ap (stage_event (looks kept.channels) x n) (sym ended ∙ stage) ∙ happens)
        | inr failed ↦ none-some e (ap (stage_event (looks kept.channels) x n) (sym failed.1 ∙ stage) ∙ happens)
      ]

  number-none : (seen : List ℕ) → CannotSee kept p seen → seen ≡ seen_by e ++ rest → ⊥
  number-none [] asks numbers =
      let sees = asked-sees kept p n x e asks there happens in
      let front : [] ≡ n ∷ rest = numbers ∙ ap (λ (ns : List ℕ). ns ++ rest) sees.1 in
      absurd (cc)
  number-none (k ∷ seen) refused numbers =
      let sees = asked-sees kept p n x e refused.asks there happens in
      let front : k ∷ seen ≡ n ∷ rest = numbers ∙ ap (λ (ns : List ℕ). ns ++ rest) sees.1 in
      let number : k ≡ n = cc in
      let stage : x.stage ≡ stages.Wishing (wishes.Level refused.asks.port) = ap (λ (z : Process K). z.stage) (sym sees.0) ∙ refused.asks.asks in
      let output : output_at x refused.asks.port.0 ≡ Some refused.connection = ap (λ (z : Process K). output_at z refused.asks.port.0) (sym sees.0) ∙ refused.output in
      let at : slice_get (looks kept.channels) refused.connection ≡ Some (look refused.channel) = get-map look kept.channels refused.connection refused.channel refused.at in
      let told : told_level refused.asks.port.0 n (Some (look refused.channel)) ≡ Some e =
      ap (told_level refused.asks.port.0 n) (sym at)
      ∙ ap (option_and_then (λ (c : ℕ). told_level refused.asks.port.0 n (slice_get (looks kept.channels) c))) (sym output)
      ∙ ap (stage_event (looks kept.channels) x n) (sym stage) ∙ happens in
      told-none refused.asks.port.0 n (look refused.channel) e (subst (λ (m : ℕ). (m < length refused.channel.packets) ⊎ (refused.channel.capacity < m)) number refused.outside) told

  refused-none : (seen : List ℕ) (refusal : Refusal) → Refuses kept p seen refusal → seen ≡ seen_by e ++ rest → ⊥
  refused-none seen NoProcess refused numbers = omega (arith, refused, within-of kept.processes p x there)
  refused-none seen Over refused numbers = over-none refused
  refused-none seen (Blocked why) refused numbers =
      let waits : block_of (looks kept.channels) x ≡ Some why = ap (option_and_then (block_of (looks kept.channels))) (sym there) ∙ refused in
      none-some e (sym (block-no_turn (looks kept.channels) x why n waits) ∙ happens)
  refused-none seen Seen refused numbers = number-none seen refused numbers

module _ {K : Type 0} (rules : Rules K) where
  -- what stops at once leads nowhere
  stops-once : (mid : State K) (turns seen : List ℕ) (p : ℕ) (refusal : Refusal) (s' : State K) → StopsAtOnce mid.kept turns seen p refusal → LeadsBy rules mid turns seen s' → ⊥
  stops-once mid [] seen p refusal s' stops leads = stops.0 leads.0
  stops-once mid (q ∷ turns) seen p refusal s' stops leads =
      let turn = leads.3.1.kept in
      refused-none mid.kept q turn.level turn.before leads.0 leads.2 turn.there turn.happens seen refusal stops.1 leads.4

  -- a schedule, cut
  cut-lead : (s : State K) (turns more seen : List ℕ) (s' : State K) → LeadsBy rules s (turns ++ more) seen s' → (front : List ℕ) × (back : List ℕ) × (mid : State K) × LeadsBy rules s turns front mid × LeadsBy rules mid more back s' × (seen ≡ front ++ back)
  cut-lead s [] more seen s' leads = ([], seen, s, (refl, refl), leads, refl)
  cut-lead s (p ∷ turns) more seen s' leads =
      let r = cut-lead leads.1 turns more leads.2 s' leads.5 in
      (seen_by leads.0 ++ r.0, r.1, r.2, (leads.0, leads.1, r.0, leads.3, refl, r.3), r.4, leads.4 ∙ ap (λ (ns : List ℕ). seen_by leads.0 ++ ns) r.5 ∙ sym (append_assoc (seen_by leads.0) r.0 r.1))

  module _ (lead_to_one : (s : State K) (journal : Schedule) (a b : State K) → Leads rules s journal a → Leads rules s journal b → a ≡ b) where
    same-whole : (s : State K) (p : ℕ) (e f : Event) (a b : State K) → WholeTurn rules s p e a → WholeTurn rules s p f b → seen_by e ≡ seen_by f → a ≡ b
    same-whole s p e f a b one two same =
        let journal : Schedule = record { turns = p ∷ []; seen = seen_by e ++ [] } in
        let first : Leads rules s journal a = (e, a, [], one, refl, (refl, refl)) in
        let second : Leads rules s journal b = (f, b, [], two, ap (λ (ns : List ℕ). ns ++ []) same, (refl, refl)) in
        lead_to_one s journal a b first second

    -- the same turns see the same numbers, and lead to the same state
    same-fronts : (s : State K) (turns seen seen' back back' : List ℕ) (a b : State K) → LeadsBy rules s turns seen a → LeadsBy rules s turns seen' b → seen ++ back ≡ seen' ++ back' → (seen ≡ seen') × (a ≡ b)
    same-fronts s [] seen seen' back back' a b one two same = (one.0 ∙ sym two.0, one.1 ∙ sym two.1)
    same-fronts s (p ∷ turns) seen seen' back back' a b one two same =
        let count = same-count s p one.0 two.0 one.3.0 two.3.0 one.3.1 two.3.1 in
        let long : seen_by one.0 ++ (one.2 ++ back) ≡ seen_by two.0 ++ (two.2 ++ back') =
        sym (append_assoc (seen_by one.0) one.2 back) ∙ ap (λ (ns : List ℕ). ns ++ back) (sym one.4) ∙ same ∙ ap (λ (ns : List ℕ). ns ++ back') two.4 ∙ append_assoc (seen_by two.0) two.2 back' in
        let cut = same-front (seen_by one.0) (seen_by two.0) (one.2 ++ back) (two.2 ++ back') count long in
        let mid = same-whole s p one.0 two.0 one.1 two.1 one.3 two.3 cut.0 in
        let rest = same-fronts two.1 turns one.2 two.2 back back' a b (subst (λ (t : State K). LeadsBy rules t turns one.2 a) mid one.5) two.5 cut.1 in
        (one.4 ∙ (λ i. cut.0 i ++ rest.0 i) ∙ sym two.4, rest.1)

    no-schedule : (s : State K) (journal : Schedule) (place p : ℕ) (refusal : Refusal) (s' : State K) → StopsAtTurn rules s journal place p refusal → Leads rules s journal s' → ⊥
    no-schedule s journal place p refusal s' stop leads =
        let whole = subst (λ (j : Schedule). Leads rules s j s') stop.whole leads in
        let cut = cut-lead s stop.front.turns stop.back.turns (stop.front.seen ++ stop.back.seen) s' whole in
        let same = same-fronts s stop.front.turns stop.front.seen cut.0 stop.back.seen cut.1 stop.mid cut.2 stop.leads cut.3 cut.5 in
        let back = same-front stop.front.seen cut.0 stop.back.seen cut.1 (ap length same.0) cut.5 in
        let rest = subst (λ (t : State K). LeadsBy rules t stop.back.turns cut.1 s') (sym same.1) cut.4 in
        stops-once stop.mid stop.back.turns stop.back.seen p refusal s' stop.stops (subst (λ (ns : List ℕ). LeadsBy rules stop.mid stop.back.turns ns s') (sym back.1) rest)

  pub stops-are-no-schedules : LeadsToOneState rules → StopsAreNoSchedules rules
  stops-are-no-schedules law one s journal place p refusal s' stop leads = no-schedule (law one) s journal place p refusal s' stop leads
