-- A process is started only where a packet is at one of its connected inputs, or where it has none.
use Rattle.std.proofs.Common.{◌≡◌, ◌≢◌, ◌⊎◌, inl, inr, ℕ, ◌+◌, ◌<◌, Bool, true, false, List, [], ◌∷◌, ◌++◌, map, not, ◌||◌, ◌&&◌, Some, refl, sym, ap, ◌∙◌, subst, cond, nat_eq, arith, slice_get, slice_set}
use Rattle.std.specs.List.{list_any}
use Rattle.std.proofs.lemmas.Bool.Decides.{nat_tests}
use Rattle.flow_component.specs.Laws.{Rules, Lawful}
use Rattle.flow_component.specs.Happenings.{Happening, Started, Received, Ended, Sent, Learned}
use Rattle.flow_component.specs.Runs.{starts}
use Rattle.flow_model.specs.States.{Input, From, Process, Put, State, Entry, entry_of, got_at}
use Rattle.flow_model.specs.Events.{Event, Starts, Sends, looks, event_of, is_connected, has_packet}
use Rattle.flow_model.specs.Turns.{Turn, process_after, heard, put_after, past_after}
use Rattle.flow_model.specs.Works.{Work, worked}
use Rattle.flow_model.specs.Schedules.{Settles, Journal, Leads, LeadsBy}
use Rattle.flow_model.specs.Order.{entries, input_of, packets_at}
use Rattle.flow_model.specs.Plans.{start_of, StartsWell}
use Rattle.flow_plan.specs.Network.{Network as Plan}
use Rattle.flow_model.specs.Valid.{Valid}
use Rattle.flow_model.specs.Runs.{NoneConnected}
use Rattle.flow_model.specs.Woken.{GetsSome}
use Rattle.flow_model.proofs.Order.{inputs-after, inputs-worked}
use Rattle.flow_model.proofs.Exhausting.{starts-is_woken, first-input, HoldsSome}
use Rattle.flow_model.proofs.Rising.{found-set}
use Rattle.flow_model.proofs.Schedules.{Valid-turn, Valid-settles}
use Rattle.flow_model.proofs.Start.{Valid-start}

pub starts-append : (es fs : List Happening) → starts (es ++ fs) ≡ starts es + starts fs
starts-append [] fs = omega arith
starts-append (Started ∷ es) fs = omega (arith, starts-append es fs)
starts-append (Received i t ∷ es) fs = starts-append es fs
starts-append (Ended i ∷ es) fs = starts-append es fs
starts-append (Sent o t ∷ es) fs = starts-append es fs
starts-append (Learned o level ∷ es) fs = starts-append es fs

-- what was put stays
put-stays : (put : ℕ → List Put) (p : ℕ) (e : Event) (c : ℕ) → put c ≢ [] → put_after put p e c ≢ []
put-stays put p (Sends port d packet) c some = by (nat_eq c d)
  where
    pushed : (xs : List Put) (x : Put) → xs ++ x ∷ [] ≡ [] → ⊥
    pushed [] x is = cc
    pushed (y ∷ xs) x is = cc

    by : (b : Bool) → cond b (put c ++ record { sender = record { process = p; output = port }; entry = entry_of packet } ∷ []) (put c) ≡ [] → ⊥
    by true is = pushed (put c) (record { sender = record { process = p; output = port }; entry = entry_of packet }) is
    by false is = some is
put-stays put p e c some = some

-- a turn is a start, or starts nothing
pub starts-heard : {K : Type 0} (x : Process K) (e : Event) → (e ≡ Starts) ⊎ (starts (heard x e) ≡ 0)
starts-heard x Starts = inl refl
starts-heard x e = inr refl

abbrev Woken : {K : Type 0} → State K → Process K → Type 0
Woken s x = NoneConnected x ⊎ GetsSome s x

-- Each process that was started was woken.
abbrev AllWoken : {K : Type 0} → State K → Type 0
AllWoken {K} s = (p : ℕ) (x : Process K) → slice_get s.kept.processes p ≡ Some x → 0 < starts (s.past.told p) → Woken s x

module _ {K : Type 0} (rules : Rules K) where
  -- where a connection holds a packet one was put
  put-some : (s : State K) (p port c : ℕ) (x : Process K) → Valid rules s → slice_get s.kept.processes p ≡ Some x → slice_get x.inputs port ≡ Some (From c) → HoldsSome s.kept.channels c → s.past.put c ≢ []
  put-some s p port c x valid there input holds none =
      let at : input_of port (slice_get s.kept.processes p) ≡ Some c = ap (input_of port) there ∙ ap Rattle.flow_model.specs.Order.connection_of input in
      let order = valid.in_order.received p port c at in
      let packets : packets_at (slice_get s.kept.channels c) ≡ holds.packet ∷ holds.rest = ap packets_at holds.there ∙ holds.packets in
      let e : [] ≡ got_at s.past p port ++ map entry_of (holds.packet ∷ holds.rest) = sym (ap entries none) ∙ order ∙ ap (λ ts. got_at s.past p port ++ map entry_of ts) packets in
      longer (got_at s.past p port) (entry_of holds.packet) (map entry_of holds.rest) e
    where
      longer : (xs : List Entry) (y : Entry) (ys : List Entry) → [] ≡ xs ++ y ∷ ys → ⊥
      longer [] y ys is = cc
      longer (x ∷ xs) y ys is = cc

  starts-woken : (s : State K) (p n : ℕ) (x : Process K) → Valid rules s → slice_get s.kept.processes p ≡ Some x → event_of s.kept.channels x n ≡ Some Starts → Woken s x
  starts-woken s p n x valid there is = by (list_any (has_packet (looks s.kept.channels)) x.inputs) refl (list_any is_connected x.inputs) refl (starts-is_woken s.kept.channels x n is)
    where
      by : (b : Bool) → list_any (has_packet (looks s.kept.channels)) x.inputs ≡ b → (k : Bool) → list_any is_connected x.inputs ≡ k → (list_any (has_packet (looks s.kept.channels)) x.inputs || (not (list_any is_connected x.inputs) && not x.has_run)) ≡ true → Woken s x
      by true holds k connected can = let f = first-input s.kept.channels x.inputs holds in inr (record { input = f.port; connection = f.connection; at = f.input; some = put-some s p f.port f.connection x valid there f.input f.some })
      by false holds true connected can = absurd (let h : false ≡ true = rw (holds, connected) at can in cc)
      by false holds false connected can = inl connected

  stays-woken : (s s' : State K) (x y : Process K) → y.inputs ≡ x.inputs → ((c : ℕ) → s.past.put c ≢ [] → s'.past.put c ≢ []) → Woken s x → Woken s' y
  stays-woken s s' x y inputs puts (inl none) = inl (ap (list_any is_connected) inputs ∙ none)
  stays-woken s s' x y inputs puts (inr gets) = inr (record { input = gets.input; connection = gets.connection; at = ap (λ (is : List Input). slice_get is gets.input) inputs ∙ gets.at; some = puts gets.connection gets.some })

  woken-turn : (s : State K) (p : ℕ) (e : Event) (s' : State K) → Turn s p e s' → Valid rules s → AllWoken s → AllWoken s'
  woken-turn s p e s' turn valid old q z is some =
      let x = turn.kept.before in
      let puts : (c : ℕ) → s.past.put c ≢ [] → s'.past.put c ≢ [] = λ c has none. put-stays s.past.put p e c has (sym (ap (λ (past : Rattle.flow_model.specs.States.Past). past.put c) turn.past) ∙ none) in
      let told : s'.past.told q ≡ (past_after s.past p x e).told q = ap (λ (past : Rattle.flow_model.specs.States.Past). past.told q) turn.past in
      let is' : slice_get (slice_set s.kept.processes p (process_after x e)) q ≡ Some z = sym (ap (λ (ps : List (Process K)). slice_get ps q) turn.kept.processes) ∙ is in
      elim (found-set s.kept.processes p x (process_after x e) turn.kept.there q z is') as (λ _. Woken s' z) [
        | inl same ↦ (
            let inputs : z.inputs ≡ x.inputs = ap (λ (w : Process K). w.inputs) (sym same.1) ∙ inputs-after x e in
            let here : nat_eq q p ≡ true = (let l = same.0 in grind (arith, nat_tests)) in
            let told' : s'.past.told q ≡ s.past.told q ++ heard x e = told ∙ (rw here refl) in
            elim (starts-heard x e) as (λ _. Woken s' z) [
              | inl started ↦ stays-woken s s' x z inputs puts (starts-woken s p turn.kept.level x valid turn.kept.there (turn.kept.happens ∙ ap (λ (f : Event). Some f) started))
              | inr none ↦ (
                  let sum : starts (s'.past.told q) ≡ starts (s.past.told q) + 0 = ap starts told' ∙ starts-append (s.past.told q) (heard x e) ∙ ap (λ (k : ℕ). starts (s.past.told q) + k) none in
                  let before : 0 < starts (s.past.told q) = omega (arith, sum, some) in
                  stays-woken s s' x z inputs puts (old q x (ap (slice_get s.kept.processes) same.0 ∙ turn.kept.there) before)
                  )
            ]
            )
        | inr other ↦ (
            let apart : nat_eq q p ≡ false = (let l = other.0 in grind (arith, nat_tests)) in
            let told' : s'.past.told q ≡ s.past.told q = told ∙ (rw apart refl) in
            stays-woken s s' z z refl puts (old q z other.1 (subst (λ (ts : List Happening). 0 < starts ts) told' some))
            )
      ]

  module _ where
    woken-work : (s : State K) (p : ℕ) (s' : State K) → Work rules s p s' → AllWoken s → AllWoken s'
    woken-work s p s' work old q z is some =
        let x = work.before in
        let puts : (c : ℕ) → s.past.put c ≢ [] → s'.past.put c ≢ [] = λ c has none. has (sym (ap (λ (past : Rattle.flow_model.specs.States.Past). past.put c) work.past) ∙ none) in
        let told : s'.past.told q ≡ s.past.told q = ap (λ (past : Rattle.flow_model.specs.States.Past). past.told q) work.past in
        let before : 0 < starts (s.past.told q) = subst (λ (ts : List Happening). 0 < starts ts) told some in
        let is' : slice_get (slice_set s.kept.processes p (worked x work.outcome)) q ≡ Some z = sym (ap (λ (ps : List (Process K)). slice_get ps q) work.kept.processes) ∙ is in
        elim (found-set s.kept.processes p x (worked x work.outcome) work.kept.there q z is') as (λ _. Woken s' z) [
          | inl same ↦ stays-woken s s' x z (ap (λ (w : Process K). w.inputs) (sym same.1) ∙ inputs-worked x work.outcome) puts (old q x (ap (slice_get s.kept.processes) same.0 ∙ work.kept.there) before)
          | inr other ↦ stays-woken s s' z z refl puts (old q z other.1 before)
        ]

    woken-settles : (s : State K) (p : ℕ) (s' : State K) → Settles rules s p s' → AllWoken s → AllWoken s'
    woken-settles s p s' (inl none) old = subst AllWoken (sym none.1) old
    woken-settles s p s' (inr work) old = woken-work s p s' work old

    module _ (lawful : Lawful rules) where
      woken-leads : (s : State K) (turns seen : List ℕ) (s' : State K) → LeadsBy rules s turns seen s' → Valid rules s → AllWoken s → AllWoken s'
      woken-leads s [] seen s' leads valid old = subst AllWoken (sym leads.1) old
      woken-leads s (p ∷ turns) seen s' leads valid old =
          let whole = leads.3 in
          let valid' = Valid-turn rules s p leads.0 whole.0 whole.1 valid in
          woken-leads leads.1 turns leads.2 s' leads.5 (Valid-settles rules lawful whole.0 p leads.1 whole.2 valid') (woken-settles whole.0 p leads.1 whole.2 (woken-turn s p leads.0 whole.0 whole.1 valid old))

      pub all-woken : (plan : Plan) (components : List K) (journal : Journal) (s : State K) → StartsWell rules plan components → Leads rules (start_of plan components) journal s → AllWoken s
      all-woken plan components journal s well leads = woken-leads (start_of plan components) journal.turns journal.seen s leads (Valid-start rules plan components well) (λ p x is some. absurd (omega (arith, some)))
