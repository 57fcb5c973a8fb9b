-- From a state there is at most one round robin, and a schedule leads to at most one state, where components come to one outcome.
use Rattle.std.proofs.Common.{◌≡◌, ℕ, List, [], ◌∷◌, ◌++◌, length, Option, Some, None, Bool, true, false, cond, refl, ap, sym, subst, ◌∙◌, zero, suc, inl, inr, slice_get, slice_set, nat_le, ◌&&◌}
use Rattle.std.specs.Prelude.{option_and_then}
use Rattle.flow_component.specs.declared.Answer.{Answer}
use Rattle.flow_component.specs.declared.Wish.TheVariants as wishes
use Rattle.flow_component.specs.Laws.{Rules, held_after, AtMostOneOutcome}
use Rattle.flow_model.specs.declared.Stage.{Stage}
use Rattle.flow_model.specs.declared.Stage.TheVariants as stages
use Rattle.flow_model.specs.States.{Process, Kept, State, output_at}
use Rattle.flow_model.specs.Events.{Event, Learns, Look, looks, level_at, told_level, stage_event, event_of, seen_by}
use Rattle.flow_model.specs.Turns.{Turn, process_after, past_after}
use Rattle.flow_model.specs.Works.{Work, worked, past_worked}
use Rattle.flow_model.specs.Stages.{IsThoughtStage}
use Rattle.flow_model.specs.Schedules.{Settles, LeadsBy, Leads, Journal, no_turns, then_turns}
use Rattle.flow_model.specs.Verdicts.{HasNoTurn, exact_level_for}
use Rattle.flow_model.specs.Robin.{IsExact, ExactTurn, TurnsOf, Burst, PassBelow, Pass, Passes, joined, RoundRobin}

-- a told level is the number that was given
told-learns : (port n : ℕ) (found : Option Look) (e : Event) → told_level port n found ≡ Some e → e ≡ Learns port n
told-learns port n None e is = absurd (cc)
told-learns port n (Some channel) e is = by (nat_le (length channel.packets) n && nat_le n channel.capacity) is
  where
    by : (b : Bool) → cond b (Some (Learns port n)) None ≡ Some e → e ≡ Learns port n
    by true h = cc
    by false h = absurd (cc)

learns-at : {K : Type 0} (channels : List Look) (x : Process K) (port n : ℕ) (found : Option ℕ) (e : Event) → option_and_then (λ c. told_level port n (slice_get channels c)) found ≡ Some e → e ≡ Learns port n
learns-at channels x port n None e is = absurd (cc)
learns-at channels x port n (Some c) e is = told-learns port n (slice_get channels c) e is

-- an exact turn is the turn that the exact level gives
exact-event : {K : Type 0} (kept : Kept K) (x : Process K) (n : ℕ) (e : Event) (stage : Stage) → stage_event (looks kept.channels) x n stage ≡ Some e → IsExact kept x e
    → stage_event (looks kept.channels) x (exact_level_for (looks kept.channels) x stage) stage ≡ Some e
exact-event kept x n e (stages.Wishing (wishes.Level port)) is exact =
    let learns : e ≡ Learns port.0 n = learns-at (looks kept.channels) x port.0 n (output_at x port.0) e is in
    let level : n ≡ level_at (looks kept.channels) x port.0 = subst (IsExact kept x) learns exact in
    subst (λ (m : ℕ). stage_event (looks kept.channels) x m (stages.Wishing (wishes.Level port)) ≡ Some e) level is
exact-event kept x n e stage is exact = is

same-some : {A : Type 0} (a b : A) → Some a ≡ Some b → a ≡ b
same-some a b h = cc

-- two exact turns of a process are the same turn
same-event : {K : Type 0} (kept : Kept K) (x : Process K) (n m : ℕ) (e f : Event) → event_of kept.channels x n ≡ Some e → event_of kept.channels x m ≡ Some f → IsExact kept x e → IsExact kept x f → e ≡ f
same-event kept x n m e f is is' exact exact' = same-some e f (sym (exact-event kept x n e x.stage is exact) ∙ exact-event kept x m f x.stage is' exact')

same-kept : {K : Type 0} (a b : Kept K) → a.processes ≡ b.processes → a.channels ≡ b.channels → a ≡ b
same-kept a b processes channels = λ i. record { processes = processes i; channels = channels i }

same-state : {K : Type 0} (a b : State K) → a.kept.processes ≡ b.kept.processes → a.kept.channels ≡ b.kept.channels → a.past ≡ b.past → a ≡ b
same-state a b processes channels past = λ i. record { kept = same-kept a.kept b.kept processes channels i; past = past i }

-- a turn that is this event leads to one state
same-turn : {K : Type 0} (s : State K) (p : ℕ) (e : Event) (a b : State K) → Turn s p e a → Turn s p e b → a ≡ b
same-turn {K} s p e a b one two =
    let before : one.kept.before ≡ two.kept.before = same-some one.kept.before two.kept.before (sym one.kept.there ∙ two.kept.there) in
    same-state a b
    (one.kept.processes ∙ ap (λ (x : Process K). slice_set s.kept.processes p (process_after x e)) before ∙ sym two.kept.processes)
    (one.kept.channels ∙ sym two.kept.channels)
    (one.past ∙ ap (λ (x : Process K). past_after s.past p x e) before ∙ sym two.past)

-- two turns of a process that saw the same are the same turn
seen-event : {K : Type 0} (channels : List Look) (x : Process K) (n m : ℕ) (e f : Event) (rest rest' : List ℕ) (stage : Stage) → stage_event channels x n stage ≡ Some e → stage_event channels x m stage ≡ Some f → seen_by e ++ rest ≡ seen_by f ++ rest' → e ≡ f
seen-event channels x n m e f rest rest' (stages.Wishing (wishes.Level port)) is is' saw =
    let one : e ≡ Learns port.0 n = learns-at channels x port.0 n (output_at x port.0) e is in
    let two : f ≡ Learns port.0 m = learns-at channels x port.0 m (output_at x port.0) f is' in
    let numbers : n ∷ rest ≡ m ∷ rest' = ap (λ (g : Event). seen_by g ++ rest) (sym one) ∙ saw ∙ ap (λ (g : Event). seen_by g ++ rest') two in
    let same : n ≡ m = cc in
    one ∙ ap (Learns port.0) same ∙ sym two
seen-event channels x n m e f rest rest' stage is is' saw = same-some e f (sym is ∙ is')

append-cancel : (xs ys zs : List ℕ) → xs ++ ys ≡ xs ++ zs → ys ≡ zs
append-cancel [] ys zs is = is
append-cancel (x ∷ xs) ys zs is = append-cancel xs ys zs (let same : xs ++ ys ≡ xs ++ zs = cc in same)

module _ {K : Type 0} (rules : Rules K) (one_outcome : AtMostOneOutcome rules) where
  -- a work leads to one state
  same-work : (s : State K) (p : ℕ) (a b : State K) → Work rules s p a → Work rules s p b → a ≡ b
  same-work s p a b one two =
      let before : one.before ≡ two.before = same-some one.before two.before (sym one.kept.there ∙ two.kept.there) in
      let told : stages.Told one.kept.answer ≡ stages.Told two.kept.answer = sym one.kept.told ∙ ap (λ (x : Process K). x.stage) before ∙ two.kept.told in
      let answer : one.kept.answer ≡ two.kept.answer = cc in
      let comes : rules.next two.before.component two.before.held two.kept.answer one.outcome =
      subst (λ (w : Answer). rules.next two.before.component two.before.held w one.outcome) answer (subst (λ (x : Process K). rules.next x.component x.held one.kept.answer one.outcome) before one.kept.comes) in
      let outcome : one.outcome ≡ two.outcome = one_outcome two.before.component two.before.held two.kept.answer one.outcome two.outcome comes two.kept.comes in
      same-state a b
      (one.kept.processes ∙ (λ i. slice_set s.kept.processes p (worked (before i) (outcome i))) ∙ sym two.kept.processes)
      (one.kept.channels ∙ sym two.kept.channels)
      (one.past ∙ (λ i. past_worked s.past p (before i).held (held_after (outcome i))) ∙ sym two.past)

  -- the pending work, if any, leads to one state
  same-settles : (s : State K) (p : ℕ) (a b : State K) → Settles rules s p a → Settles rules s p b → a ≡ b
  same-settles s p a b (inl none) (inl none') = none.1 ∙ sym none'.1
  same-settles s p a b (inl none) (inr work) = absurd (subst IsThoughtStage work.kept.told (none.0 work.before work.kept.there))
  same-settles s p a b (inr work) (inl none) = absurd (subst IsThoughtStage work.kept.told (none.0 work.before work.kept.there))
  same-settles s p a b (inr work) (inr work') = same-work s p a b work work'

  -- an exact turn of a process is one event and leads to one state
  pub same-exact : (s : State K) (p : ℕ) (e f : Event) (a b : State K) → ExactTurn rules s p e a → ExactTurn rules s p f b → (e ≡ f) × (a ≡ b)
  same-exact s p e f a b one two =
      let x = one.turn.kept.before in
      let before : two.turn.kept.before ≡ x = same-some two.turn.kept.before x (sym two.turn.kept.there ∙ one.turn.kept.there) in
      let happens : event_of s.kept.channels x two.turn.kept.level ≡ Some f = subst (λ (y : Process K). event_of s.kept.channels y two.turn.kept.level ≡ Some f) before two.turn.kept.happens in
      let exact : IsExact s.kept x f = subst (λ (y : Process K). IsExact s.kept y f) before two.exact in
      let event : e ≡ f = same-event s.kept x one.turn.kept.level two.turn.kept.level e f one.turn.kept.happens happens one.exact exact in
      let turn : Turn s p f one.mid = subst (λ (g : Event). Turn s p g one.mid) event one.turn in
      let mid : one.mid ≡ two.mid = same-turn s p f one.mid two.mid turn two.turn in
      (event, same-settles two.mid p a b (subst (λ (m : State K). Settles rules m p a) mid one.settles) two.settles)

  -- bursts of a process are the same
  same-turns : (p : ℕ) (s : State K) (turns seen : List ℕ) (a : State K) (turns' seen' : List ℕ) (b : State K) → TurnsOf rules p s turns seen a → HasNoTurn a.kept p → TurnsOf rules p s turns' seen' b → HasNoTurn b.kept p
      → (turns ≡ turns') × (seen ≡ seen') × (a ≡ b)
  same-turns p s [] seen a [] seen' b one still two still' = (refl, one.0 ∙ sym two.0, one.1 ∙ sym two.1)
  same-turns p s [] seen a (q ∷ turns') seen' b one still two still' =
      let turn = two.1.3.turn.kept in
      let none : event_of s.kept.channels turn.before turn.level ≡ None = subst (λ (t : State K). HasNoTurn t.kept p) one.1 still turn.before turn.level turn.there in
      absurd (let h : Some two.1.0 ≡ None = sym turn.happens ∙ none in cc)
  same-turns p s (q ∷ turns) seen a [] seen' b one still two still' =
      let turn = one.1.3.turn.kept in
      let none : event_of s.kept.channels turn.before turn.level ≡ None = subst (λ (t : State K). HasNoTurn t.kept p) two.1 still' turn.before turn.level turn.there in
      absurd (let h : Some one.1.0 ≡ None = sym turn.happens ∙ none in cc)
  same-turns p s (q ∷ turns) seen a (q' ∷ turns') seen' b one still two still' =
      let first = same-exact s p one.1.0 two.1.0 one.1.1 two.1.1 one.1.3 two.1.3 in
      let rest = same-turns p two.1.1 turns one.1.2 a turns' two.1.2 b (subst (λ (m : State K). TurnsOf rules p m turns one.1.2 a) first.1 one.1.5) still two.1.5 still' in
      ((λ i. (one.0 ∙ sym two.0) i ∷ rest.0 i), one.1.4 ∙ (λ i. seen_by (first.0 i) ++ rest.1 i) ∙ sym two.1.4, rest.2)

  same-burst : (p : ℕ) (s : State K) (j : Journal) (a : State K) (k : Journal) (b : State K) → Burst rules p s j a → Burst rules p s k b → (j ≡ k) × (a ≡ b)
  same-burst p s j a k b one two =
      let same = same-turns p s j.turns j.seen a k.turns k.seen b one.0 one.1 two.0 two.1 in
      ((λ i. record { turns = same.0 i; seen = same.1 i }), same.2)

  same-below : (n : ℕ) (s : State K) (j : Journal) (a : State K) (k : Journal) (b : State K) → PassBelow rules n s j a → PassBelow rules n s k b → (j ≡ k) × (a ≡ b)
  same-below zero s j a k b one two = (one.0 ∙ sym two.0, one.1 ∙ sym two.1)
  same-below (suc p) s j a k b one two =
      let front = same-below p s one.0 one.2 two.0 two.2 one.4 two.4 in
      let back = same-burst p two.2 one.1 a two.1 b (subst (λ (m : State K). Burst rules p m one.1 a) front.1 one.5) two.5 in
      (one.3 ∙ (λ i. then_turns (front.0 i) (back.0 i)) ∙ sym two.3, back.1)

  -- a pass is one journal and leads to one state
  pub same-pass : (s : State K) (j : Journal) (a : State K) (k : Journal) (b : State K) → Pass rules s j a → Pass rules s k b → (j ≡ k) × (a ≡ b)
  same-pass s j a k b one two = same-below (length s.kept.processes) s j a k b one two

  same-passes : (s : State K) (js : List Journal) (a : State K) (ks : List Journal) (b : State K) → Passes rules s js a → Pass rules a no_turns a → Passes rules s ks b → Pass rules b no_turns b → (js ≡ ks) × (a ≡ b)
  same-passes s [] a [] b one last two last' = (refl, one ∙ sym two)
  same-passes s [] a (k ∷ ks) b one last two last' =
      let here : Pass rules s no_turns s = subst (λ (t : State K). Pass rules t no_turns t) one last in
      let same = same-pass s k two.1.0 no_turns s two.1.1 here in
      absurd (two.0 (ap (λ (j : Journal). j.turns) same.0))
  same-passes s (j ∷ js) a [] b one last two last' =
      let here : Pass rules s no_turns s = subst (λ (t : State K). Pass rules t no_turns t) two last' in
      let same = same-pass s j one.1.0 no_turns s one.1.1 here in
      absurd (one.0 (ap (λ (j : Journal). j.turns) same.0))
  same-passes s (j ∷ js) a (k ∷ ks) b one last two last' =
      let first = same-pass s j one.1.0 k two.1.0 one.1.1 two.1.1 in
      let rest = same-passes two.1.0 js a ks b (subst (λ (m : State K). Passes rules m js a) first.1 one.1.2) last two.1.2 last' in
      ((λ i. first.0 i ∷ rest.0 i), rest.1)

  -- there is one round robin
  pub one-robin : (s : State K) (j : Journal) (a : State K) (k : Journal) (b : State K) → RoundRobin rules s j a → RoundRobin rules s k b → (j ≡ k) × (a ≡ b)
  one-robin s j a k b one two =
      let same = same-passes s one.passes a two.passes b one.go one.last two.go two.last in
      (one.whole ∙ ap joined same.0 ∙ sym two.whole, same.1)

  same-leads_by : (s : State K) (turns seen : List ℕ) (a b : State K) → LeadsBy rules s turns seen a → LeadsBy rules s turns seen b → a ≡ b
  same-leads_by s [] seen a b one two = one.1 ∙ sym two.1
  same-leads_by s (p ∷ turns) seen a b one two =
      let x = one.3.1.kept.before in
      let before : two.3.1.kept.before ≡ x = same-some two.3.1.kept.before x (sym two.3.1.kept.there ∙ one.3.1.kept.there) in
      let happens : event_of s.kept.channels x two.3.1.kept.level ≡ Some two.0 = subst (λ (y : Process K). event_of s.kept.channels y two.3.1.kept.level ≡ Some two.0) before two.3.1.kept.happens in
      let event : one.0 ≡ two.0 = seen-event (looks s.kept.channels) x one.3.1.kept.level two.3.1.kept.level one.0 two.0 one.2 two.2 x.stage one.3.1.kept.happens happens (sym one.4 ∙ two.4) in
      let rest : one.2 ≡ two.2 = append-cancel (seen_by two.0) one.2 two.2 (ap (λ (e : Event). seen_by e ++ one.2) (sym event) ∙ sym one.4 ∙ two.4) in
      let turn : Turn s p two.0 one.3.0 = subst (λ (e : Event). Turn s p e one.3.0) event one.3.1 in
      let mid : one.3.0 ≡ two.3.0 = same-turn s p two.0 one.3.0 two.3.0 turn two.3.1 in
      let after : one.1 ≡ two.1 = same-settles two.3.0 p one.1 two.1 (subst (λ (m : State K). Settles rules m p one.1) mid one.3.2) two.3.2 in
      let more : LeadsBy rules one.1 turns two.2 a = subst (λ (ns : List ℕ). LeadsBy rules one.1 turns ns a) rest one.5 in
      same-leads_by two.1 turns two.2 a b (subst (λ (m : State K). LeadsBy rules m turns two.2 a) after more) two.5

  -- a schedule leads to one state
  pub same-leads : (s : State K) (journal : Journal) (a b : State K) → Leads rules s journal a → Leads rules s journal b → a ≡ b
  same-leads s journal a b one two = same-leads_by s journal.turns journal.seen a b one two
