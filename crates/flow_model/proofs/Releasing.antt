-- A process knows whether a packet came at its automatic input, is started only where it is released, and leaves nothing there as it ends.
use Rattle.std.proofs.Common.{◌≡◌, ◌≢◌, inl, inr, ℕ, ◌+◌, ◌<◌, Bool, true, false, List, [], ◌∷◌, ◌++◌, zero, suc, not, ◌||◌, ◌&&◌, Some, refl, sym, ap, ◌∙◌, subst, cond, nat_eq, arith, slice_get, map, append-nil}
use Rattle.std.proofs.lemmas.Bool.Decides.{nat_tests}
use Rattle.flow_component.specs.Laws.{Rules, Lawful, Outcome, Wishes, Fails}
use Rattle.flow_component.specs.Happenings.{Happening}
use Rattle.flow_component.specs.Runs.{starts}
use Rattle.flow_model.specs.States.{Process, Channel, Past, State, Entry, entry_of}
use Rattle.flow_model.specs.Events.{Event, Starts, Signals, looks, event_of, is_empty, is_released, is_woken, signal_over}
use Rattle.flow_model.specs.Turns.{Turn, process_after, heard, signals_after, past_after}
use Rattle.flow_model.specs.Works.{Work, worked}
use Rattle.flow_model.specs.Schedules.{Settles, Journal, Leads, LeadsBy}
use Rattle.flow_model.specs.Plans.{process_at_start, processes_at_start, start_of, StartsWell}
use Rattle.flow_plan.specs.Network.{Network as Plan}
use Rattle.flow_plan.specs.declared.plan.Process.{Process as PlanProcess}
use Rattle.flow_model.specs.Valid.{Valid}
use Rattle.flow_model.specs.Released.{SignalsTell, NothingComes, WasReleased, StartedReleased, EndedTookSignals}
use Rattle.flow_model.specs.Order.{packets_at, signal_of}
use Rattle.flow_model.specs.declared.Stage.TheVariants as stages
use Rattle.flow_packet.specs.Tree.{Tree}
use Rattle.flow_model.specs.Stages.{HasBegunToClose}
use Rattle.flow_model.proofs.Stages.{begun-before, begun-worked}
use Rattle.flow_model.proofs.Order.{signal-after, signal-worked}
use Rattle.flow_model.proofs.Exhausting.{IsDry, starts-can, signal-dry, finishes-signal, dry-after}
use Rattle.flow_model.proofs.Rising.{found-set}
use Rattle.flow_model.proofs.Waking.{starts-append, starts-heard}
use Rattle.flow_model.proofs.Schedules.{Valid-turn, Valid-settles}
use Rattle.flow_model.proofs.Start.{Valid-start, start-process}

and-left : (a b : Bool) → (a && b) ≡ true → a ≡ true
and-left true b is = refl
and-left false b is = absurd (cc)

pushed : (xs : List Entry) (x : Entry) → is_empty (xs ++ x ∷ []) ≡ false
pushed [] x = refl
pushed (y ∷ xs) x = refl

not-none : (xs : List Entry) → not (is_empty xs) ≡ true → xs ≢ []
not-none [] is none = absurd (cc)
not-none (x ∷ xs) is none = cc

-- what came at the automatic input of another process stays
signals-apart : (signals : ℕ → List Entry) (p : ℕ) (e : Event) (q : ℕ) → nat_eq q p ≡ false → signals_after signals p e q ≡ signals q
signals-apart signals p (Signals c packet) q apart = rw apart refl
signals-apart signals p e q apart = refl

-- a turn notes what came at the automatic input of its own process
signals-here : {K : Type 0} (x : Process K) (signals : ℕ → List Entry) (p : ℕ) (e : Event) (q : ℕ) → nat_eq q p ≡ true → x.signalled ≡ not (is_empty (signals q)) → (process_after x e).signalled ≡ not (is_empty (signals_after signals p e q))
signals-here x signals p (Signals c packet) q here old = rw here (sym (ap not (pushed (signals q) (entry_of packet))))
signals-here x signals p e q here old = old

-- what came stays
signals-stay : (signals : ℕ → List Entry) (p : ℕ) (e : Event) (q : ℕ) → signals q ≢ [] → signals_after signals p e q ≢ []
signals-stay signals p (Signals c packet) q some = by (nat_eq q p)
  where
    more : (xs : List Entry) (x : Entry) → xs ++ x ∷ [] ≡ [] → ⊥
    more [] x is = cc
    more (y ∷ xs) x is = cc

    by : (b : Bool) → cond b (signals q ++ entry_of packet ∷ []) (signals q) ≡ [] → ⊥
    by true is = more (signals q) (entry_of packet) is
    by false is = some is
signals-stay signals p e q some = some

signalled-worked : {K : Type 0} (x : Process K) (outcome : Outcome K) → (worked x outcome).signalled ≡ x.signalled
signalled-worked x (Wishes component held wish) = refl
signalled-worked x (Fails component held cause) = refl

dry-of : (channels : List Channel) (c : ℕ) → NothingComes channels c → IsDry channels c
dry-of channels c h = record { channel = h.channel; there = h.there; empty = h.empty; closed = h.closed }

nothing-of : (channels : List Channel) (c : ℕ) → IsDry channels c → NothingComes channels c
nothing-of channels c h = record { channel = h.channel; there = h.there; empty = h.empty; closed = h.closed }

-- nothing comes at the automatic input of a process that has begun to close
abbrev OverDry : {K : Type 0} → State K → Type 0
OverDry {K} s = (p : ℕ) (x : Process K) → slice_get s.kept.processes p ≡ Some x → HasBegunToClose x.stage → (c : ℕ) → x.signal ≡ Some c → IsDry s.kept.channels c

abbrev All : {K : Type 0} → State K → Type 0
All s = SignalsTell s × StartedReleased s × OverDry s

-- at the start nothing came, and no process has noted anything
unsignalled : {K : Type 0} (plan : Plan) (p : ℕ) (xs : List PlanProcess) (components : List K) (q : ℕ) (z : Process K) → slice_get (processes_at_start plan p xs components) q ≡ Some z → z.signalled ≡ false
unsignalled plan p [] components q z is = absurd (cc)
unsignalled plan p (x ∷ xs) [] q z is = absurd (cc)
unsignalled {K} plan p (x ∷ xs) (component ∷ components) zero z is = let same : process_at_start plan p x component ≡ z = cc in sym (ap (λ (w : Process K). w.signalled) same)
unsignalled plan p (x ∷ xs) (component ∷ components) (suc q) z is = unsignalled plan (p + 1) xs components q z is

module _ {K : Type 0} (rules : Rules K) where
  -- a process that starts is released
  starts-released : (s : State K) (p n : ℕ) (x : Process K) → SignalsTell s → slice_get s.kept.processes p ≡ Some x → event_of s.kept.channels x n ≡ Some Starts → WasReleased s p x
  starts-released s p n x tells there is = by x.signalled refl (and-left (is_released (looks s.kept.channels) x) (is_woken (looks s.kept.channels) x) (starts-can s.kept.channels x n is))
    where
      by : (b : Bool) → x.signalled ≡ b → is_released (looks s.kept.channels) x ≡ true → WasReleased s p x
      by true got released = inl (not-none (s.past.signals p) (sym (tells p x there) ∙ got))
      by false got released = inr (λ c at. nothing-of s.kept.channels c (signal-dry s.kept.channels x.signal (let h : (false || signal_over (looks s.kept.channels) x.signal) ≡ true = subst (λ (b : Bool). (b || signal_over (looks s.kept.channels) x.signal) ≡ true) got released in h) c at))

  stays-released : (s s' : State K) (p : ℕ) (x y : Process K) → y.signal ≡ x.signal → (s.past.signals p ≢ [] → s'.past.signals p ≢ []) → ((c : ℕ) → IsDry s.kept.channels c → IsDry s'.kept.channels c) → WasReleased s p x → WasReleased s' p y
  stays-released s s' p x y signal some dry (inl came) = inl (some came)
  stays-released s s' p x y signal some dry (inr over) = inr (λ c at. nothing-of s'.kept.channels c (dry c (dry-of s.kept.channels c (over c (sym signal ∙ at)))))

  module _ (s : State K) (p : ℕ) (e : Event) (s' : State K) (turn : Turn s p e s') (valid : Valid rules s) (old : All s) where
    signals-are : (q : ℕ) → s'.past.signals q ≡ signals_after s.past.signals p e q
    signals-are q = ap (λ (past : Past). past.signals q) turn.past

    told-are : (q : ℕ) → s'.past.told q ≡ (past_after s.past p turn.kept.before e).told q
    told-are q = ap (λ (past : Past). past.told q) turn.past

    tells-turn : SignalsTell s'
    tells-turn q z is = elim (found-set s.kept.processes p turn.kept.before (process_after turn.kept.before e) turn.kept.there q z (sym (ap (λ (ps : List (Process K)). slice_get ps q) turn.kept.processes) ∙ is)) as (λ _. z.signalled ≡ not (is_empty (s'.past.signals q))) [
      | inl same ↦ (
          let here : nat_eq q p ≡ true = (let l = same.0 in grind (arith, nat_tests)) in
          sym (ap (λ (w : Process K). w.signalled) same.1)
          ∙ signals-here turn.kept.before s.past.signals p e q here (old.0 q turn.kept.before (ap (slice_get s.kept.processes) same.0 ∙ turn.kept.there))
          ∙ ap (λ (xs : List Entry). not (is_empty xs)) (sym (signals-are q))
          )
      | inr other ↦ (
          let apart : nat_eq q p ≡ false = (let l = other.0 in grind (arith, nat_tests)) in
          old.0 q z other.1 ∙ ap (λ (xs : List Entry). not (is_empty xs)) (sym (signals-are q ∙ signals-apart s.past.signals p e q apart))
          )
    ]

    stay-some : (q : ℕ) → s.past.signals q ≢ [] → s'.past.signals q ≢ []
    stay-some q some none = signals-stay s.past.signals p e q some (sym (signals-are q) ∙ none)

    stay-dry : (c : ℕ) → IsDry s.kept.channels c → IsDry s'.kept.channels c
    stay-dry c h = subst (λ (channels : List Channel). IsDry channels c) (sym turn.kept.channels) (dry-after s.kept p turn.kept.before turn.kept.level turn.kept.there valid.senders e turn.kept.happens c h)

    released-turn : StartedReleased s'
    released-turn q z is some = elim (found-set s.kept.processes p turn.kept.before (process_after turn.kept.before e) turn.kept.there q z (sym (ap (λ (ps : List (Process K)). slice_get ps q) turn.kept.processes) ∙ is)) as (λ _. WasReleased s' q z) [
      | inl same ↦ (
          let here : nat_eq q p ≡ true = (let l = same.0 in grind (arith, nat_tests)) in
          let there : slice_get s.kept.processes q ≡ Some turn.kept.before = ap (slice_get s.kept.processes) same.0 ∙ turn.kept.there in
          let told' : s'.past.told q ≡ s.past.told q ++ heard turn.kept.before e = told-are q ∙ (rw here refl) in
          let signal : z.signal ≡ turn.kept.before.signal = ap (λ (w : Process K). w.signal) (sym same.1) ∙ signal-after turn.kept.before e in
          elim (starts-heard turn.kept.before e) as (λ _. WasReleased s' q z) [
            | inl started ↦ stays-released s s' q turn.kept.before z signal (stay-some q) stay-dry (starts-released s q turn.kept.level turn.kept.before old.0 there (turn.kept.happens ∙ ap (λ (f : Event). Some f) started))
            | inr none ↦ (
                let sum : starts (s'.past.told q) ≡ starts (s.past.told q) + 0 = ap starts told' ∙ starts-append (s.past.told q) (heard turn.kept.before e) ∙ ap (λ (k : ℕ). starts (s.past.told q) + k) none in
                let before : 0 < starts (s.past.told q) = omega (arith, sum, some) in
                stays-released s s' q turn.kept.before z signal (stay-some q) stay-dry (old.1 q turn.kept.before there before)
                )
          ]
          )
      | inr other ↦ (
          let apart : nat_eq q p ≡ false = (let l = other.0 in grind (arith, nat_tests)) in
          let told' : s'.past.told q ≡ s.past.told q = told-are q ∙ (rw apart refl) in
          stays-released s s' q z z refl (stay-some q) stay-dry (old.1 q z other.1 (subst (λ (ts : List Happening). 0 < starts ts) told' some))
          )
    ]

    over-turn : OverDry s'
    over-turn q z is over c at = stay-dry c (elim (found-set s.kept.processes p turn.kept.before (process_after turn.kept.before e) turn.kept.there q z (sym (ap (λ (ps : List (Process K)). slice_get ps q) turn.kept.processes) ∙ is)) as (λ _. IsDry s.kept.channels c) [
      | inl same ↦ (
          let there : slice_get s.kept.processes q ≡ Some turn.kept.before = ap (slice_get s.kept.processes) same.0 ∙ turn.kept.there in
          let signal : turn.kept.before.signal ≡ Some c = sym (signal-after turn.kept.before e) ∙ ap (λ (w : Process K). w.signal) same.1 ∙ at in
          elim (begun-before s.kept.channels turn.kept.before turn.kept.level e turn.kept.happens (subst (λ (w : Process K). HasBegunToClose w.stage) (sym same.1) over)) as (λ _. IsDry s.kept.channels c) [
            | inl before ↦ old.2 q turn.kept.before there before c signal
            | inr finishes ↦ signal-dry s.kept.channels turn.kept.before.signal (finishes-signal s.kept.channels turn.kept.before turn.kept.level (turn.kept.happens ∙ ap (λ (f : Event). Some f) finishes)) c signal
          ]
          )
      | inr other ↦ old.2 q z other.1 over c at
    ])

    all-turn : All s'
    all-turn = (tells-turn, released-turn, over-turn)

  module _ where
    all-work : (s : State K) (p : ℕ) (s' : State K) → Work rules s p s' → All s → All s'
    all-work s p s' work old = (tells, released, over)
      where
        signals-are : (q : ℕ) → s'.past.signals q ≡ s.past.signals q
        signals-are q = ap (λ (past : Past). past.signals q) work.past

        found : (q : ℕ) (z : Process K) → slice_get s'.kept.processes q ≡ Some z → (x : Process K) × (slice_get s.kept.processes q ≡ Some x) × (z.signalled ≡ x.signalled) × (z.signal ≡ x.signal)
        found q z is = elim (found-set s.kept.processes p work.before (worked work.before work.outcome) work.kept.there q z (sym (ap (λ (ps : List (Process K)). slice_get ps q) work.kept.processes) ∙ is)) as (λ _. (x : Process K) × (slice_get s.kept.processes q ≡ Some x) × (z.signalled ≡ x.signalled) × (z.signal ≡ x.signal)) [
          | inl same ↦ (
            work.before,
            ap (slice_get s.kept.processes) same.0 ∙ work.kept.there,
            ap (λ (w : Process K). w.signalled) (sym same.1) ∙ signalled-worked work.before work.outcome,
            ap (λ (w : Process K). w.signal) (sym same.1) ∙ signal-worked work.before work.outcome,
          )
          | inr other ↦ (z, other.1, refl, refl)
        ]

        tells : SignalsTell s'
        tells q z is = let f = found q z is in f.2 ∙ old.0 q f.0 f.1 ∙ ap (λ (xs : List Entry). not (is_empty xs)) (sym (signals-are q))

        released : StartedReleased s'
        released q z is some =
            let f = found q z is in
            let told : s'.past.told q ≡ s.past.told q = ap (λ (past : Past). past.told q) work.past in
            stays-released s s' q f.0 z f.3 (λ came none. came (sym (signals-are q) ∙ none)) (λ c h. subst (λ (channels : List Channel). IsDry channels c) (sym work.kept.channels) h) (old.1 q f.0 f.1 (subst (λ (ts : List Happening). 0 < starts ts) told some))

        over : OverDry s'
        over q z is over_stage c at = subst (λ (channels : List Channel). IsDry channels c) (sym work.kept.channels) (
            elim (found-set s.kept.processes p work.before (worked work.before work.outcome) work.kept.there q z (sym (ap (λ (ps : List (Process K)). slice_get ps q) work.kept.processes) ∙ is)) as (λ _. IsDry s.kept.channels c) [
              | inl same ↦ absurd (begun-worked work.before work.outcome (subst (λ (w : Process K). HasBegunToClose w.stage) (sym same.1) over_stage))
              | inr other ↦ old.2 q z other.1 over_stage c at
            ])

    all-settles : (s : State K) (p : ℕ) (s' : State K) → Settles rules s p s' → All s → All s'
    all-settles s p s' (inl none) old = subst All (sym none.1) old
    all-settles s p s' (inr work) old = all-work s p s' work old

    module _ (lawful : Lawful rules) where
      all-leads : (s : State K) (turns seen : List ℕ) (s' : State K) → LeadsBy rules s turns seen s' → Valid rules s → All s → Valid rules s' × All s'
      all-leads s [] seen s' leads valid old = subst (λ (t : State K). Valid rules t × All t) (sym leads.1) (valid, old)
      all-leads s (p ∷ turns) seen s' leads valid old =
          let whole = leads.3 in
          let valid' = Valid-turn rules s p leads.0 whole.0 whole.1 valid in
          all-leads leads.1 turns leads.2 s' leads.5 (Valid-settles rules lawful whole.0 p leads.1 whole.2 valid') (all-settles whole.0 p leads.1 whole.2 (all-turn s p leads.0 whole.0 whole.1 valid old))

      pub all-released : (plan : Plan) (components : List K) (journal : Journal) (s : State K) → StartsWell rules plan components → Leads rules (start_of plan components) journal s → SignalsTell s × StartedReleased s × EndedTookSignals s
      all-released plan components journal s well leads = (come.1.0, come.1.1, took)
        where
          idle : (p : ℕ) (x : Process K) → slice_get (start_of plan components).kept.processes p ≡ Some x → HasBegunToClose x.stage → ⊥
          idle p x is over = let start = start-process plan components p x is in let h : x.stage ≡ stages.Idle = ap (λ (z : Process K). z.stage) start.is in subst HasBegunToClose h over

          come : Valid rules s × All s
          come =
              all-leads (start_of plan components) journal.turns journal.seen s leads (Valid-start rules plan components well)
              (λ p x is. unsignalled plan 0 plan.processes components p x is, λ p x is some. absurd (omega (arith, some)), λ p x is over c at. absurd (idle p x is over))

          took : EndedTookSignals s
          took p c x there ended at =
              let dry = come.1.2 p x there (subst HasBegunToClose (sym ended) tt) c at in
              let none : packets_at (slice_get s.kept.channels c) ≡ [] = ap packets_at dry.there ∙ dry.empty in
              come.0.in_order.signalled p c (ap signal_of there ∙ at) ∙ ap (λ (ts : List Tree). s.past.signals p ++ map entry_of ts) none ∙ append-nil (s.past.signals p)
