-- What Copy sends to each output is what it gets, as that output's share.
use Rattle.std.proofs.Common.{◌≡◌, ℕ, ◌+◌, ◌<◌, ◌≤◌, Bool, true, false, List, [], ◌∷◌, ◌++◌, map, refl, sym, ap, ◌∙◌, subst, append-nil, arith, nat_eq, nat_lt, nat_le, if◌then◌else◌}
use Rattle.std.proofs.lemmas.Bool.Decides.{nat_tests}
use Rattle.std.specs.List.{flat_map}
use Rattle.flow_packet.specs.declared.packet.Kind.{Kind}
use Rattle.flow_packet.specs.Tree.{Tree, content, id_of, kind_of, text_of}
use Rattle.flow_packet.specs.Hands.{packet_at, text_at, kind_at}
use Rattle.flow_packet.specs.Held.{Held, next_id, without_packet, with_made}
use Rattle.flow_component.specs.declared.Wish.{Wish}
use Rattle.flow_component.specs.declared.Wish.TheVariants as wishes
use Rattle.flow_component.specs.Laws.{Outcome, Wishes, Fails, IsAllowed}
use Rattle.flow_component.specs.Alone.{HoldsOnly}
use Rattle.flow_component.specs.Happenings.{Happening, Started, Received, Ended, Sent, Learned, answer_of}
use Rattle.flow_component.specs.Runs.{Poise, fresh, Steps, content_got, content_sent, got, sent}
use Rattle.flow_component.proofs.Roots.{same_id}
use Rattle.flow_component.proofs.Lone.{HoldsOnly-packet_at, HoldsOnly-text, HoldsOnly-kind, HoldsOnly-made, HoldsOnly-made_at, HoldsOnly-end}
use Rattle.flow_component.proofs.Streams.{owed-to, Comes-packets, contents_in, content-kind, content-text, port_below_one}
use Rattle.flow_streams.specs.declared.copy.CopyPlace.{CopyPlace}
use Rattle.flow_streams.specs.declared.copy.CopyPlace.TheVariants.{Waiting, Copying}
use Rattle.flow_streams.specs.Copy.{CopyState, send_at, copies, goes_on, IsReadyOn, copy_rules}
use Rattle.flow_streams.specs.CopyLaws.{next-count, copy_lawful}
use Rattle.flow_streams.specs.Meanings.{fresh_copy, share, CopyMeaning}

-- how many outputs there are, and the output of which is spoken
module _ (n o : ℕ) where
  abbrev shared : Tree → List Tree
  shared t = share n o t ∷ []

  -- what output o is still to get of a packet that is copied, once the packet that is on its way has gone
  abbrev left : Held → CopyPlace → List Tree
  left held Waiting = []
  left held (Copying id output) = if nat_le output o then flat_map shared (contents_in (packet_at held.packets id)) else []

  abbrev owes : Held → CopyPlace → Wish → List Tree
  owes held place (wishes.Receive port) = []
  owes held place (wishes.Send port id) = (if nat_eq o port.0 then contents_in (packet_at held.packets id) else []) ++ left (without_packet held id) place
  owes held place (wishes.Level port) = []
  owes held place wishes.Deactivate = []

  abbrev owes_after : Outcome CopyState → List Tree
  owes_after (Wishes component held wish) = owes held component.place wish
  owes_after (Fails component held cause) = []

  abbrev owed : Poise CopyState → List Tree
  owed p = owes p.held p.component.place p.wish

  abbrev Good : Poise CopyState → Type 0
  Good p = (p.component.count ≡ n) × IsAllowed (record { inputs = 1; outputs = n }) (λ port. nat_lt port n) p.held p.wish

  -- the packet is to be sent to the outputs from this one on
  copied : (state : CopyState) (held : Held) (id output : ℕ) (h : HoldsOnly held id) → state.count ≡ n → o < n → output < n
      → owes_after (copies state held id output) ≡ (if nat_le output o then shared (content h.packet) else [])
  copied state held id output h count below within = by (nat_lt (output + 1) state.count) refl (nat_eq o output) refl (nat_le output o) refl
    where
      kind : Kind
      kind = kind_at held.packets id

      text : List ℕ
      text = text_at held.packets id

      kind-is : kind_at held.packets id ≡ kind_of (content h.packet)
      kind-is = HoldsOnly-kind held id h ∙ sym (content-kind h.packet)

      text-is : text_at held.packets id ≡ text_of (content h.packet)
      text-is = HoldsOnly-text held id h ∙ sym (content-text h.packet)

      by : (b : Bool) → nat_lt (output + 1) state.count ≡ b → (x : Bool) → nat_eq o output ≡ x → (y : Bool) → nat_le output o ≡ y
          → owes_after (if b then Wishes (record state { place = Copying id (output + 1) }) (with_made held (kind_at held.packets id) (text_at held.packets id)) (send_at output (next_id held)) else Wishes (record state { place = Waiting }) held (send_at output id))
          ≡ (if y then shared (content h.packet) else [])
      by true t true s y u =
          let same : o ≡ output = grind (arith, nat_tests) in
          let yes : y ≡ true = sym u ∙ (let le : nat_le output o ≡ true = grind (arith, nat_tests) in le) in
          let later : nat_le (output + 1) o ≡ false = grind (arith, nat_tests) in
          let more : nat_lt (o + 1) n ≡ true = ap (λ (k : ℕ). nat_lt (k + 1) n) same ∙ ap (λ (k : ℕ). nat_lt (output + 1) k) (sym count) ∙ t in
          rw (s, HoldsOnly-made_at held id kind text h, later, yes, more, kind-is, text-is) refl
      by true t false s true u =
          let later : nat_le (output + 1) o ≡ true = grind (arith, nat_tests) in
          let i : nat_eq (id_of h.packet) id ≡ true = rw h.named (same_id id) in
          rw (s, HoldsOnly-made held id kind text h, later, i) refl
      by true t false s false u =
          let later : nat_le (output + 1) o ≡ false = grind (arith, nat_tests) in
          rw (s, later) refl
      by false t true s y u =
          let yes : y ≡ true = sym u ∙ (let le : nat_le output o ≡ true = grind (arith, nat_tests) in le) in
          let last : nat_lt (o + 1) n ≡ false = (let e : o ≡ output = grind (arith, nat_tests) in ap (λ (k : ℕ). nat_lt (k + 1) n) e ∙ ap (λ (k : ℕ). nat_lt (output + 1) k) (sym count) ∙ t) in
          rw (s, HoldsOnly-packet_at held id h, yes, last) refl
      by false t false s y u =
          let least : n ≤ output + 1 = (let l : state.count ≤ output + 1 = grind (arith, nat_tests) in subst (λ (k : ℕ). k ≤ output + 1) count l) in
          let apart : o ≡ output → ⊥ = λ e. (let z : nat_eq o output ≡ true = grind (arith, nat_tests) in cc) in
          let no : y ≡ false = sym u ∙ (let gt : nat_le output o ≡ false = grind (arith, nat_tests) in gt) in
          rw (s, no) refl

  gone-on : (state : CopyState) (held : Held) (place : CopyPlace) → IsReadyOn state held place → state.count ≡ n → o < n → owes_after (goes_on state held place) ≡ left held place
  gone-on state held Waiting r count below = refl
  gone-on state held (Copying id output) r count below =
      copied state held id output r.0 count below (subst (λ (k : ℕ). output < k) count r.1) ∙ found (nat_le output o)
    where
      found : (b : Bool) → (if b then shared (content r.0.packet) else []) ≡ (if b then flat_map shared (contents_in (packet_at held.packets id)) else [])
      found true = rw (HoldsOnly-packet_at held id r.0) refl
      found false = refl

  stays : (p : Poise CopyState) (e : Happening) (q : Poise CopyState) → Good p → Steps copy_rules p e q → Good q
  stays p e q g s =
      let obeys = copy_lawful.obeys p.component s.held (answer_of e) (Wishes q.component q.held q.wish) s.is_ready s.comes_to in
      let count : q.component.count ≡ p.component.count = ap (λ (out : Outcome CopyState). (Rattle.flow_component.specs.Laws.component_after out).count) s.comes_to ∙ next-count p.component s.held (answer_of e) in
      (count ∙ g.0, subst (λ (k : ℕ). IsAllowed (record { inputs = 1; outputs = k }) (λ port. nat_lt port k) q.held q.wish) g.0 obeys.1)

  step : (p : Poise CopyState) (e : Happening) (q : Poise CopyState) → o < n → Good p → Steps copy_rules p e q → owed p ++ flat_map shared (content_got 0 e) ≡ content_sent o e ++ owed q
  step p Started q below g s =
      let a : owed p ≡ [] = rw s.grants.0 refl in
      let b : owed q ≡ [] = ap owes_after s.comes_to in
      rw (a, b) refl
  step p (Received port t) q below g s =
      let a : owed p ≡ [] = rw s.grants.0 refl in
      let z : nat_eq 0 port ≡ true = port_below_one port (rw s.grants.0 at g.1) in
      let h = s.is_ready.2 in
      let e : t ≡ h.packet = HoldsOnly-end s.held p.held.packets t (Comes-packets p.held t s.held s.grants.1) h in
      let some : 0 < n = omega (arith, below) in
      let first : nat_le 0 o ≡ true = grind (arith, nat_tests) in
      let b : owed q ≡ shared (content t) = ap owes_after s.comes_to ∙ copied p.component s.held (id_of t) 0 h g.0 below some ∙ (rw (first, ← e) refl) in
      rw (a, b, z) (append-nil _)
  step p (Ended port) q below g s =
      let a : owed p ≡ [] = rw s.grants.0 refl in
      let b : owed q ≡ [] = ap owes_after s.comes_to in
      rw (a, b) refl
  step p (Sent port t) q below g s =
      let a : owed p ≡ content_sent o (Sent port t) ++ left (without_packet p.held (id_of t)) p.component.place = rw (s.grants.0, s.grants.1) refl in
      let b : owed q ≡ left (without_packet p.held (id_of t)) p.component.place = ap owes_after s.comes_to ∙ gone-on p.component s.held p.component.place s.is_ready.1 g.0 below ∙ ap (λ (h : Held). left h p.component.place) s.grants.2 in
      rw (a, b) (append-nil _)
  step p (Learned port level) q below g s = absurd s.is_ready

map-single : (f : Tree → Tree) (xs : List Tree) → flat_map (λ t. f t ∷ []) xs ≡ map f xs
map-single f [] = refl
map-single f (x ∷ xs) = ap (λ ys. f x ∷ ys) (map-single f xs)

-- Over a whole run it sends what its meaning makes of what it got.
pub copy_meaning : CopyMeaning
copy_meaning n told run o below =
    let e = owed-to copy_rules o (Good n o) (shared n o) (owed n o) (λ p e q g s. (stays n o p e q g s, step n o p e q below g s)) (fresh (fresh_copy n) run.maker) told run.last (refl, tt) run.runs in
    let b : owed n o run.last ≡ [] = rw run.idle refl in
    sym (append-nil (sent o told)) ∙ ap (λ us. sent o told ++ us) (sym b) ∙ sym e ∙ map-single (share n o) (got 0 told)
