-- A run of a standard component is a run of its own kind.
use Rattle.std.proofs.Common.{◌≡◌, List, [], ◌∷◌, refl, subst}
use Rattle.flow_component.specs.declared.Answer.{Answer}
use Rattle.flow_packet.specs.Held.{Held}
use Rattle.flow_component.specs.Laws.{Rules, Outcome, Wishes, Fails}
use Rattle.flow_component.specs.Outcomes.{outcome_as}
use Rattle.flow_component.specs.Happenings.{Happening, answer_of}
use Rattle.flow_component.specs.Runs.{Poise, Steps, Runs}

module _ {K L : Type 0} (f : K → L) (own : Rules K) (all : Rules L)
    (down-ready : (component : K) (held : Held) (answer : Answer) → all.ready (f component) held answer → own.ready component held answer)
    (down-next : (component : K) (held : Held) (answer : Answer) (outcome : Outcome L) → all.next (f component) held answer outcome → (o : Outcome K) × own.next component held answer o × (outcome ≡ outcome_as f o)) where
  abbrev pub lifted : Poise K → Poise L
  lifted p = record { component = f p.component; held = p.held; wish = p.wish }

  -- the same step, of the kind itself
  abbrev OwnStep : Poise K → Happening → Poise L → Type 0
  OwnStep p e q = (m : Poise K) × Steps own p e m × (q ≡ lifted m)

  own-outcome : (p : Poise K) (e : Happening) (q : Poise L) → (s : Steps all (lifted p) e q) → (o : Outcome K) → own.next p.component s.held (answer_of e) o → Wishes q.component q.held q.wish ≡ outcome_as f o → OwnStep p e q
  own-outcome p e q s (Wishes component held wish) n is = (
    record { component = component; held = held; wish = wish },
    record { held = s.held; grants = s.grants; sound = s.sound; is_ready = down-ready p.component s.held (answer_of e) s.is_ready; comes_to = n },
    (let a : q.component ≡ f component = cc in let b : q.held ≡ held = cc in let c : q.wish ≡ wish = cc in λ i. record { component = a i; held = b i; wish = c i }),
  )
  own-outcome p e q s (Fails component held cause) n is = absurd (cc)

  own-step : (p : Poise K) (e : Happening) (q : Poise L) → Steps all (lifted p) e q → OwnStep p e q
  own-step p e q s = let o = down-next p.component s.held (answer_of e) (Wishes q.component q.held q.wish) s.comes_to in own-outcome p e q s o.0 o.1 o.2

  pub own-run : (es : List Happening) (p : Poise K) (q : Poise L) → Runs all (lifted p) es q → (m : Poise K) × Runs own p es m × (q ≡ lifted m)
  own-run [] p q r = (p, refl, r)
  own-run (e ∷ es) p q r =
      let s = own-step p e r.0 r.1 in
      let t = own-run es s.0 q (subst (λ (u : Poise L). Runs all u es q) s.2 r.2) in
      (t.0, (s.0, s.1, t.1), t.2)
