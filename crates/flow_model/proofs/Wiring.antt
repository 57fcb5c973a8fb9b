-- The wires stay, and what is put in a connection was put by an output that leads there: turns and works keep it so.
use Rattle.std.proofs.Common.{◌≡◌, ℕ, List, [], ◌∷◌, ◌++◌, map, Some, refl, sym, ap, ◌∙◌, subst, cond, nat_eq, Bool, true, false, ◌⊎◌, inl, inr, slice_get, slice_set, zero, suc, arith}
use Rattle.std.proofs.lemmas.Bool.Decides.{nat_tests}
use Rattle.flow_component.specs.Laws.{Rules}
use Rattle.flow_model.specs.States.{Process, Put, State, entry_of}
use Rattle.flow_plan.specs.declared.plan.Sender.{Sender}
use Rattle.flow_model.specs.Events.{Event, Sends}
use Rattle.flow_model.specs.Turns.{process_after, put_after, Turn}
use Rattle.flow_model.specs.Works.{worked, Work}
use Rattle.flow_model.specs.Schedules.{Settles, LeadsBy, Leads, Journal}
use Rattle.flow_model.specs.Plans.{start_of}
use Rattle.flow_plan.specs.Network.{Network as Plan}
use Rattle.flow_model.specs.Order.{output_of}
use Rattle.flow_model.specs.Wires.{Wires, wires, SameWires, PutBySenders}
use Rattle.flow_model.proofs.Inverse.{explains}
use Rattle.flow_model.proofs.Order.{inputs-after, outputs-after, signal-after, inputs-worked, outputs-worked, signal-worked, output_of-set}

wires-set : {K : Type 0} (xs : List (Process K)) (p : ℕ) (x y : Process K) → slice_get xs p ≡ Some x → wires y ≡ wires x → map wires (slice_set xs p y) ≡ map wires xs
wires-set [] p x y at same = refl
wires-set (z ∷ xs) zero x y at same = let k : z ≡ x = cc in ap (λ (w : Wires). w ∷ map wires xs) (same ∙ ap wires (sym k))
wires-set (z ∷ xs) (suc p) x y at same = ap (λ (ws : List Wires). wires z ∷ ws) (wires-set xs p x y at same)

get-push : {A : Type 0} (xs : List A) (k : ℕ) (x y : A) → slice_get (xs ++ x ∷ []) k ≡ Some y → (slice_get xs k ≡ Some y) ⊎ (x ≡ y)
get-push [] zero x y is = inr (let h : x ≡ y = cc in h)
get-push [] (suc k) x y is = absurd (cc)
get-push (z ∷ xs) zero x y is = inl is
get-push (z ∷ xs) (suc k) x y is = get-push xs k x y is

put-cond : (b : Bool) (xs : List Put) (x y : Put) (k : ℕ) → slice_get (cond b (xs ++ x ∷ []) xs) k ≡ Some y → (slice_get xs k ≡ Some y) ⊎ ((b ≡ true) × (x ≡ y))
put-cond true xs x y k is = elim (get-push xs k x y is) [ inl old ↦ inl old | inr new ↦ inr (refl, new) ]
put-cond false xs x y k is = inl is

-- what was put before a turn, or by it
put-before : (put : ℕ → List Put) (p : ℕ) (e : Event) (c k : ℕ) (y : Put) → slice_get (put_after put p e c) k ≡ Some y
    → (slice_get (put c) k ≡ Some y) ⊎ ((port : ℕ) × (packet : _) × (e ≡ Sends port c packet) × (y.sender ≡ (let s : Sender = record { process = p; output = port } in s)))
put-before put p (Sends i d packet) c k y is = elim (put-cond (nat_eq c d) (put c) (record { sender = record { process = p; output = i }; entry = entry_of packet }) y k is) [
  | inl old ↦ inl old
  | inr new ↦ inr (i, packet, (let t = new.0 in let same : d ≡ c = grind (arith, nat_tests) in ap (λ (n : ℕ). Sends i n packet) same), ap (λ (put : Put). put.sender) (sym new.1))
]
put-before put p e c k y is = inl is

module _ {K : Type 0} (s : State K) (p : ℕ) where
  puts-turn : (e : Event) (s' : State K) → Turn s p e s' → PutBySenders s → PutBySenders s'
  puts-turn e s' turn all c k put is =
      let x = turn.kept.before in
      let there = turn.kept.there in
      let is' : slice_get (put_after s.past.put p e c) k ≡ Some put = rw turn.past at is in
      let kept : output_of put.sender.output (slice_get s'.kept.processes put.sender.process) ≡ output_of put.sender.output (slice_get s.kept.processes put.sender.process) =
      ap (λ (ps : List (Process K)). output_of put.sender.output (slice_get ps put.sender.process)) turn.kept.processes ∙ output_of-set put.sender.output s.kept.processes p x (process_after x e) put.sender.process there (outputs-after x e) in
      kept ∙ elim (put-before s.past.put p e c k put is') [
        | inl old ↦ all c k put old
        | inr new ↦ (let to = explains s.kept.channels x turn.kept.level (Sends new.0 c new.1) (turn.kept.happens ∙ ap Some new.2) in
            ap (λ (sender : Sender). output_of sender.output (slice_get s.kept.processes sender.process)) new.3 ∙ ap (output_of new.0) there ∙ to.output)
      ]

  wires-turn : (e : Event) (s' : State K) → Turn s p e s' → map wires s'.kept.processes ≡ map wires s.kept.processes
  wires-turn e s' turn =
      let x = turn.kept.before in
      ap (λ (ps : List (Process K)). map wires ps) turn.kept.processes
      ∙ wires-set s.kept.processes p x (process_after x e) turn.kept.there (λ i. record { inputs = inputs-after x e i; outputs = outputs-after x e i; signal = signal-after x e i })

  module _ (rules : Rules K) where
    puts-work : (s' : State K) → Work rules s p s' → PutBySenders s → PutBySenders s'
    puts-work s' work all c k put is =
        let x = work.before in
        let is' : slice_get (s.past.put c) k ≡ Some put = rw work.past at is in
        ap (λ (ps : List (Process K)). output_of put.sender.output (slice_get ps put.sender.process)) work.kept.processes
        ∙ output_of-set put.sender.output s.kept.processes p x (worked x work.outcome) put.sender.process work.kept.there (outputs-worked x work.outcome) ∙ all c k put is'

    wires-work : (s' : State K) → Work rules s p s' → map wires s'.kept.processes ≡ map wires s.kept.processes
    wires-work s' work =
        let x = work.before in
        ap (λ (ps : List (Process K)). map wires ps) work.kept.processes
        ∙ wires-set s.kept.processes p x (worked x work.outcome) work.kept.there (λ i. record { inputs = inputs-worked x work.outcome i; outputs = outputs-worked x work.outcome i; signal = signal-worked x work.outcome i })

module _ {K : Type 0} (rules : Rules K) where
  abbrev Keeps : State K → State K → Type 0
  Keeps s s' = (map wires s'.kept.processes ≡ map wires s.kept.processes) × (PutBySenders s → PutBySenders s')

  settles : (s : State K) (p : ℕ) (s' : State K) → Settles rules s p s' → Keeps s s'
  settles s p s' (inl none) = (ap (λ (t : State K). map wires t.kept.processes) none.1, λ all. subst PutBySenders (sym none.1) all)
  settles s p s' (inr work) = (wires-work s p rules s' work, puts-work s p rules s' work)

  leads_by : (s : State K) (turns seen : List ℕ) (s' : State K) → LeadsBy rules s turns seen s' → Keeps s s'
  leads_by s [] seen s' is = (ap (λ (t : State K). map wires t.kept.processes) is.1, λ all. subst PutBySenders (sym is.1) all)
  leads_by s (p ∷ turns) seen s' leads =
      let whole = leads.3 in
      let settled = settles whole.0 p leads.1 whole.2 in
      let rest = leads_by leads.1 turns leads.2 s' leads.5 in
      (rest.0 ∙ settled.0 ∙ wires-turn s p leads.0 whole.0 whole.1, λ all. rest.1 (settled.1 (puts-turn s p leads.0 whole.0 whole.1 all)))

  pub wires-leads : (plan : Plan) (components : List K) (journal : Journal) (s : State K) → Leads rules (start_of plan components) journal s → SameWires (start_of plan components) s × PutBySenders s
  wires-leads plan components journal s leads =
      let kept = leads_by (start_of plan components) journal.turns journal.seen s leads in
      (kept.0, kept.1 (λ c k put is. absurd (cc)))
