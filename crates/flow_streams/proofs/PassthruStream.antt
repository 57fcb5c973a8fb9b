-- What Passthru sends is what it gets.
use Rattle.std.proofs.Common.{◌≡◌, ◌<◌, true, List, [], ◌∷◌, ◌++◌, Some, map, refl, sym, ap, ◌∙◌, append-nil, nat_eq}
use Rattle.std.specs.List.{flat_map}
use Rattle.flow_packet.specs.Tree.{Tree, content, id_of}
use Rattle.flow_packet.specs.Hands.{packet_at}
use Rattle.flow_packet.specs.Held.{Held}
use Rattle.flow_component.specs.declared.Wish.{Wish}
use Rattle.flow_component.specs.declared.Wish.TheVariants as wishes
use Rattle.flow_component.specs.Laws.{Wishes, IsAllowed}
use Rattle.flow_component.specs.Ports.{one_to_one, uses_first, receive_first, send_first}
use Rattle.flow_component.specs.Happenings.{Happening, Started, Received, Ended, Sent, Learned}
use Rattle.flow_component.specs.Runs.{Poise, fresh, Steps, got, sent, content_got, content_sent}
use Rattle.flow_component.proofs.Streams.{owed-run, good-run, stays-allowed, Comes-packets, one-alone, gone-alone, port_zero, port_below_one, flat_map-single}
use Rattle.flow_streams.specs.Passthru.{passthru_rules}
use Rattle.flow_streams.specs.PassthruLaws.{passthru_lawful}
use Rattle.flow_streams.specs.Meanings.{PassthruMeaning}

-- While it wishes to send a packet it holds that one alone, and otherwise nothing.
abbrev IsHolding : List Tree → Wish → Type 0
IsHolding ts (wishes.Receive port) = ts ≡ []
IsHolding ts (wishes.Send port id) = (t : Tree) × (ts ≡ t ∷ []) × (id ≡ id_of t)
IsHolding ts (wishes.Level port) = ⊥
IsHolding ts wishes.Deactivate = ts ≡ []

module _ {K : Type 0} where
  abbrev Good : Poise K → Type 0
  Good p = IsAllowed one_to_one uses_first p.held p.wish × IsHolding p.held.packets p.wish

  abbrev Step : Poise K → Happening → Poise K → Type 0
  Step p e q = Steps passthru_rules p e q

  abbrev owed : Poise K → List Tree
  owed p = map content p.held.packets

  abbrev Next : Poise K → Happening → Poise K → Type 0
  Next p e q = IsHolding q.held.packets q.wish × (owed p ++ flat_map (λ t. t ∷ []) (content_got 0 e) ≡ content_sent 0 e ++ owed q)

  step : (p : Poise K) (e : Happening) (q : Poise K) → Good p → Step p e q → Next p e q
  step p Started q g s =
      let c : Wishes q.component q.held q.wish ≡ Wishes p.component s.held receive_first = s.comes_to in
      let held : q.held ≡ s.held = cc in
      let wish : q.wish ≡ receive_first = cc in
      let old : p.held.packets ≡ [] = rw s.grants.0 at g.1 in
      let none : q.held.packets ≡ [] = ap (λ (h : Held). h.packets) (held ∙ s.grants.1) ∙ old in
      (rw wish none, rw (old, none) refl)
  step p (Received port t) q g s =
      let c : Wishes q.component q.held q.wish ≡ Wishes p.component s.held (send_first (id_of t)) = s.comes_to in
      let held : q.held ≡ s.held = cc in
      let wish : q.wish ≡ send_first (id_of t) = cc in
      let l : port < 1 = rw s.grants.0 at g.0 in
      let z : nat_eq 0 port ≡ true = port_below_one port l in
      let old : p.held.packets ≡ [] = rw s.grants.0 at g.1 in
      let alone : q.held.packets ≡ t ∷ [] = ap (λ (h : Held). h.packets) held ∙ Comes-packets p.held t s.held s.grants.1 ∙ ap (λ ts. ts ++ t ∷ []) old in
      (rw wish (t, alone, refl), rw (old, alone, z) refl)
  step p (Ended port) q g s =
      let c : Wishes q.component q.held q.wish ≡ Wishes p.component s.held wishes.Deactivate = s.comes_to in
      let held : q.held ≡ s.held = cc in
      let wish : q.wish ≡ wishes.Deactivate = cc in
      let old : p.held.packets ≡ [] = rw s.grants.0 at g.1 in
      let none : q.held.packets ≡ [] = ap (λ (h : Held). h.packets) (held ∙ s.grants.1) ∙ old in
      (rw wish none, rw (old, none) refl)
  step p (Sent port t) q g s =
      let c : Wishes q.component q.held q.wish ≡ Wishes p.component s.held receive_first = s.comes_to in
      let held : q.held ≡ s.held = cc in
      let wish : q.wish ≡ receive_first = cc in
      let z : nat_eq 0 port ≡ true = port_zero port (rw s.grants.0 at g.0).0 in
      let h = rw s.grants.0 at g.1 in
      let found : Some h.0 ≡ Some t = sym (one-alone p.held.packets h.0 h.1) ∙ ap (packet_at p.held.packets) (sym h.2) ∙ s.grants.1 in
      let same : h.0 ≡ t = cc in
      let alone : p.held.packets ≡ t ∷ [] = h.1 ∙ ap (λ u. u ∷ []) same in
      let none : q.held.packets ≡ [] = ap (λ (h : Held). h.packets) (held ∙ s.grants.2) ∙ gone-alone p.held.packets t alone in
      (rw wish none, rw (alone, none, z) refl)
  step p (Learned port level) q g s = absurd s.is_ready

  kept : (p : Poise K) (e : Happening) (q : Poise K) → Good p → Step p e q → Good q
  kept p e q g s = (stays-allowed passthru_rules passthru_lawful p e q s, (step p e q g s).0)

  pub passthru_meaning : PassthruMeaning K
  passthru_meaning component told run =
      let p = fresh component run.maker in
      let e = owed-run passthru_rules Good (λ t. t ∷ []) owed (λ p e q g s. (kept p e q g s, (step p e q g s).1)) p told run.last (tt, refl) run.runs in
      let g = good-run passthru_rules Good kept p told run.last (tt, refl) run.runs in
      let none : run.last.held.packets ≡ [] = rw run.idle at g.1 in
      sym (append-nil (sent 0 told)) ∙ ap (λ ts. sent 0 told ++ map content ts) (sym none) ∙ sym e ∙ flat_map-single (got 0 told)
