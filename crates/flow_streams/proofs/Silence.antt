-- A component that uses no output sends nothing.
use Rattle.std.proofs.Common.{◌≡◌, ℕ, List, [], ◌∷◌, Bool, refl, subst}
use Rattle.flow_component.specs.declared.Shape.{Shape}
use Rattle.flow_component.specs.Laws.{Rules, Lawful, IsAllowed}
use Rattle.flow_component.specs.Ports.{one_to_none, uses_none}
use Rattle.flow_component.specs.Happenings.{Happening, Started, Received, Ended, Sent, Learned}
use Rattle.flow_component.specs.Runs.{Poise, fresh, Steps, Runs, sent}
use Rattle.flow_component.proofs.Streams.{stays-allowed}
use Rattle.flow_streams.specs.Discard.{discard_rules}
use Rattle.flow_streams.specs.DiscardLaws.{discard_lawful}
use Rattle.flow_streams.specs.Hoard.{hoard_rules}
use Rattle.flow_streams.specs.HoardLaws.{hoard_lawful}
use Rattle.flow_streams.specs.Meanings.{DiscardMeaning, HoardMeaning}

module _ {K : Type 0} (rules : Rules K) (lawful : Lawful rules) (none : (component : K) → rules.uses component ≡ uses_none) where
  allowed : (p : Poise K) (e : Happening) (q : Poise K) → Steps rules p e q → IsAllowed (rules.shape p.component) uses_none q.held q.wish
  allowed p e q s = subst (λ (u : ℕ → Bool). IsAllowed (rules.shape p.component) u q.held q.wish) (none p.component) (stays-allowed rules lawful p e q s)

  pub silent : (shape : Shape) (p : Poise K) (es : List Happening) (q : Poise K) → IsAllowed shape uses_none p.held p.wish → Runs rules p es q → (port : ℕ) → sent port es ≡ []
  silent shape p [] q g r port = refl
  silent shape p (Started ∷ es) q g r port = silent (rules.shape p.component) r.0 es q (allowed p Started r.0 r.1) r.2 port
  silent shape p (Received i t ∷ es) q g r port = silent (rules.shape p.component) r.0 es q (allowed p (Received i t) r.0 r.1) r.2 port
  silent shape p (Ended i ∷ es) q g r port = silent (rules.shape p.component) r.0 es q (allowed p (Ended i) r.0 r.1) r.2 port
  silent shape p (Sent o t ∷ es) q g r port = absurd (let s = r.1 in let h = rw s.grants.0 at g in let no : Rattle.std.specs.Prelude.IsTrue Rattle.std.proofs.Common.false = h.0 in cc)
  silent shape p (Learned o n ∷ es) q g r port = silent (rules.shape p.component) r.0 es q (allowed p (Learned o n) r.0 r.1) r.2 port

-- Over a whole run it sends what its meaning makes of what it got.
pub discard_meaning : {K : Type 0} → DiscardMeaning K
discard_meaning {K} component told run port = silent discard_rules discard_lawful (λ _. refl) one_to_none (fresh component run.maker) told run.last tt run.runs port

-- Over a whole run it sends what its meaning makes of what it got.
pub hoard_meaning : {K : Type 0} → HoardMeaning K
hoard_meaning {K} component told run port = silent hoard_rules hoard_lawful (λ _. refl) one_to_none (fresh component run.maker) told run.last tt run.runs port
