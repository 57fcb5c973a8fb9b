-- Turns and works keep what each process was told a run of its component.
use Rattle.std.proofs.Common.{◌≡◌, ℕ, ◌+◌, List, [], ◌∷◌, ◌++◌, Some, refl, sym, ◌∙◌, subst, append-nil, inl, inr, ◌⊎◌}
use Rattle.flow_packet.specs.Held.{Held, Sound}
use Rattle.flow_component.specs.declared.Answer.{Answer}
use Rattle.flow_component.specs.declared.Wish.{Wish}
use Rattle.flow_component.specs.declared.Wish.TheVariants as wishes
use Rattle.flow_component.specs.Laws.{Rules, Outcome, Wishes, Fails}
use Rattle.flow_component.specs.Happenings.{Happening, answer_of}
use Rattle.flow_component.specs.Runs.{Poise, Steps, Runs}
use Rattle.flow_component.proofs.Streams.{Runs-more}
use Rattle.flow_model.specs.States.{Process, Channel}
use Rattle.flow_model.specs.Events.{Event, Finishes, Sleeps, Closes, Signals, event_of}
use Rattle.flow_model.specs.Turns.{process_after, heard, happening}
use Rattle.flow_model.specs.Works.{judged, worked}
use Rattle.flow_model.specs.Runs.{poise, IsPending, Follows}
use Rattle.flow_model.proofs.Inverse.{explains}
use Rattle.flow_model.proofs.Stages.{closing-elim, judged-elim, after-turn, heard-wished}

module _ {K : Type 0} (rules : Rules K) where
  abbrev FollowsThen : Poise K → List Happening → Process K → Event → Type 0
  FollowsThen start told x e = Follows rules start (told ++ heard x e) (process_after x e) (process_after x e).stage

  -- after a turn
  pub follows-event : (channels : List Channel) (start : Poise K) (told : List Happening) (x : Process K) (n : ℕ) (e : Event) → event_of channels x n ≡ Some e → Follows rules start told x x.stage → FollowsThen start told x e
  follows-event channels start told x n e is was = after-turn channels x n e is (λ f hs stage. Follows rules start (told ++ hs) (process_after x f) stage) tt answered
      (λ asleep. idle (subst (Follows rules start told x) (explains channels x n Sleeps asleep) was))
      (λ c packet signals. idle (subst (Follows rules start told x) (explains channels x n (Signals c packet) signals).stage was))
      (λ done. (let r = idle (subst (Follows rules start told x) (explains channels x n Finishes done) was) in closing-elim (Follows rules start (told ++ []) (process_after x Finishes)) x 0 (λ _. r) (λ _. r)))
      (λ output c at. (let r = idle (subst (Follows rules start told x) at.stage was) in closing-elim (Follows rules start (told ++ []) (process_after x (Closes output c))) x (at.i + 1) (λ _. r) (λ _. r)))
    where
      idle : Runs rules start told (poise x wishes.Deactivate) → Runs rules start (told ++ []) (poise x wishes.Deactivate)
      idle r = rw append-nil r

      answered : (h : Happening) → happening x e ≡ Some h → IsPending rules start (told ++ h ∷ []) (process_after x e) (answer_of h)
      answered h is_h =
          let heard = heard-wished channels x n e is h is_h in
          let r : Runs rules start told (poise x heard.wish) = elim heard.stage [
            | inl wishing ↦ subst (Follows rules start told x) wishing was
            | inr starts ↦ subst (λ (w : Wish). Runs rules start told (poise x w)) (sym starts.1) (subst (Follows rules start told x) starts.0 was)
          ] in
          record { before = told; happening = h; mid = poise x heard.wish; whole = refl; runs = r; grants = heard.grants; component = refl; answers = refl }

  follows-judged : (start : Poise K) (told : List Happening) (x : Process K) (component : K) (held : Held) (wish : Wish) → Runs rules start told (record { component = component; held = held; wish = wish })
      → Follows rules start told (worked x (Wishes component held wish)) (judged x.depths held wish)
  follows-judged start told x component held wish r = judged-elim (Follows rules start told (worked x (Wishes component held wish))) x.depths held wish (λ cause. tt) (λ _. r)

  -- after a work
  pub follows-worked : (start : Poise K) (told : List Happening) (x : Process K) (answer : Answer) (outcome : Outcome K) → IsPending rules start told x answer → Sound x.held → rules.ready x.component x.held answer
      → rules.next x.component x.held answer outcome → Follows rules start told (worked x outcome) (worked x outcome).stage
  follows-worked start told x answer (Fails component held cause) i sound can is = tt
  follows-worked start told x answer (Wishes component held wish) i sound can is =
      let q : Poise K = record { component = component; held = held; wish = wish } in
      let step : Steps rules i.mid i.happening q = record { held = x.held; grants = i.grants; sound = sound; is_ready = rw (← i.component, ← i.answers) can; comes_to = rw (← i.component, ← i.answers) is } in
      let r : Runs rules start told q = rw i.whole (Runs-more rules start i.before i.mid i.happening q i.runs step) in
      follows-judged start told x component held wish r
