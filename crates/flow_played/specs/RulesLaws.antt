-- That a component, where it is another or a player, keeps the laws of components and stays what it is.
use Rattle.std.proofs.Common.{◌≡◌, ℕ, ◌+◌, Bool, true, false, Option, Some, None, Result, Ok, Err, is_some, not, slice_get, refl, sym, ap, subst, if◌then◌else◌}
use Rattle.flow_packet.specs.Hands.{Holding}
use Rattle.flow_packet.specs.Held.{Held, held_of}
use Rattle.flow_component.specs.declared.Answer.{Answer}
use Rattle.flow_component.specs.declared.Wish.{Wish}
use Rattle.flow_component.specs.declared.Wish.TheVariants as wishes
use Rattle.flow_component.specs.declared.Stop.{Stop}
use Rattle.flow_component.specs.declared.Stop.TheVariants as stops
use Rattle.flow_component.specs.Laws.{Rules, Lawful, Outcome, Wishes, Fails, ReadyAfter, StaysReady, HasOutcome, component_after}
use Rattle.flow_component.specs.Resumes.{Resumes}
use Rattle.flow_component.proofs.Lifting.{component_after-as}
use Rattle.flow_own.specs.declared.tape.End.{End}
use Rattle.flow_own.specs.declared.tape.End.TheVariants as ends
use Rattle.flow_own.specs.declared.tape.Entry.{Entry}
use Rattle.flow_own.specs.Parts.{Seen}
use Rattle.flow_own.specs.Tapes.{OwnValue, NextAs, OwnNext, own_state, own_told, can_play, after_entry, outcome_by, differs, played as played_outcome}
use Rattle.flow_own.specs.Mixed.{Mixed, Other, Own, MixedNext, MixedReady, mixed_rules}
use Rattle.flow_own.specs.MixedLaws.{mixed_lawful}
use Rattle.flow_played.specs.Rules.{IsPlayer, IsPlayed, PlayedReady, PlayedNext, played_rules}

after-by : (own : OwnValue) (held : Held) (end : End) → component_after (outcome_by own held end) ≡ own
after-by own held (ends.Wish wish) = refl
after-by own held (ends.Fail cause) = refl

-- A player is one after the next entry too, whether it can be played or not.
after-entry : (own : OwnValue) (held : Held) (answer : Answer) (place : ℕ) (entry : Option Entry) → IsPlayer own → IsPlayer (component_after (played_outcome own held answer place entry))
after-entry own held answer place None player = player
after-entry own held answer place (Some entry) player = by (can_play own.shape own.used held answer entry)
  where
    next : OwnValue
    next = record own { part = None; place = Some (place + 1) }

    by : (b : Bool) → IsPlayer (component_after (if b then outcome_by next (after_entry held entry) entry.end else differs own held))
    by true = subst IsPlayer (sym (after-by next (after_entry held entry) entry.end)) (record { unmanned = refl; placed = refl })
    by false = player

after-next : (place : Option ℕ) (own : OwnValue) (held : Held) (answer : Answer) (outcome : Outcome OwnValue) → own.place ≡ place → IsPlayer own → NextAs place own held answer outcome → IsPlayer (component_after outcome)
after-next None own held answer outcome is player next = let p = player.placed in absurd cc
after-next (Some place) own held answer outcome is player next = subst (λ (o : Outcome OwnValue). IsPlayer (component_after o)) (sym next) (after-entry own held answer place (slice_get own.tape place) player)

-- A player stays one.
pub player-after : (own : OwnValue) (held : Held) (answer : Answer) (outcome : Outcome OwnValue) → IsPlayer own → OwnNext own held answer outcome → IsPlayer (component_after outcome)
player-after own held answer outcome player next = after-next own.place own held answer outcome refl player next

-- What is ready for more is ready after a wish.
ready-more : (ready more : Held → Answer → Type 0) → ((held : Held) (answer : Answer) → ready held answer → more held answer) → (held : Held) (wish : Wish) → ReadyAfter ready held wish → ReadyAfter more held wish
ready-more ready more all held (wishes.Receive port) r = (λ s. all _ _ (r.0 s), λ packet s. all _ _ (r.1 packet s), λ text s. all _ _ (r.2 text s))
ready-more ready more all held (wishes.Send port id) r = λ s. all _ _ (r s)
ready-more ready more all held (wishes.Level port) r = λ n within s. all _ _ (r n within s)
ready-more ready more all held wishes.Deactivate r = λ s. all _ _ (r s)

module _ {K : Type 0} (rules : Rules K) where
  -- so does a component that is another
  played-after : (component : Mixed K) (held : Held) (answer : Answer) (outcome : Outcome (Mixed K)) → PlayedNext rules component held answer outcome → IsPlayed (component_after outcome)
  played-after (Other component) held answer outcome next =
      let n : MixedNext rules (Other component) held answer outcome = next.1 in
      subst (λ (o : Outcome (Mixed K)). IsPlayed (component_after o)) (sym n.2) (subst IsPlayed (sym (component_after-as {L = Mixed K} Other n.0)) tt)
  played-after (Own own) held answer outcome next =
      let n : MixedNext rules (Own own) held answer outcome = next.1 in
      let after : IsPlayed {K = K} (Own (component_after n.0)) = player-after own held answer n.0 next.0 n.1 in
      subst (λ (o : Outcome (Mixed K)). IsPlayed (component_after o)) (sym n.2) (subst IsPlayed (sym (component_after-as {L = Mixed K} Own n.0)) after)

  stays : (outcome : Outcome (Mixed K)) → IsPlayed (component_after outcome) → StaysReady (mixed_rules rules) outcome → StaysReady (played_rules rules) outcome
  stays (Wishes component held wish) played ready = ready-more (MixedReady rules component) (PlayedReady rules component) (λ h a r. (played, r)) held wish ready
  stays (Fails component held cause) played ready = tt

  some : Lawful rules → (component : Mixed K) (held : Held) (answer : Answer) → PlayedReady rules component held answer → HasOutcome (played_rules rules) component held answer
  some lawful component held answer ready = let o = (mixed_lawful rules lawful).has_outcome component held answer ready.1 in (o.0, (ready.0, o.1))

  -- It keeps the laws of components.
  pub played_lawful : Lawful rules → Lawful (played_rules rules)
  played_lawful lawful = record {
    obeys = λ component held answer outcome ready next. (mixed_lawful rules lawful).obeys component held answer outcome ready.1 next.1;
    stays_ready = λ component held answer outcome ready next. stays outcome (played-after component held answer outcome next) ((mixed_lawful rules lawful).stays_ready component held answer outcome ready.1 next.1);
    steady = λ component held answer outcome next. (let kept = (mixed_lawful rules lawful).steady component held answer outcome next.1 in record { shape = kept.shape; outputs = kept.outputs });
    has_outcome = some lawful;
  }

  -- A resume of one is a resume of a player or of another.
  pub played_resumes : (component component' : Mixed K) (old new : Holding) (answer : Answer) (result : Result Wish Stop) → IsPlayed component → Resumes (MixedNext rules) component old answer result component' new
      → Resumes (PlayedNext rules) component old answer result component' new
  played_resumes component component' old new answer (Ok wish) played r = ((played, r.0), r.1)
  played_resumes component component' old new answer (Err (stops.Fail cause)) played r = ((played, r.0), r.1)
  played_resumes component component' old new answer (Err stops.NoMemory) played r = r

live-not : (part : Option Seen) → not (is_some part) ≡ true → part ≡ None
live-not None told = refl
live-not (Some seen) told = absurd cc

-- A player that was resumed is one, since no live part came to it.
pub player-resumed : (own own' : OwnValue) (old new : Holding) (answer : Answer) (result : Result Wish Stop) → IsPlayer (own_state own) → own_told own' ≡ true
    → Resumes OwnNext (own_state own) old answer result (own_state own') new → IsPlayer own'
player-resumed own own' old new answer (Ok wish) player told r = record { unmanned = live-not own'.part told; placed = (player-after (own_state own) (held_of old) answer _ player r.0).placed }
player-resumed own own' old new answer (Err (stops.Fail cause)) player told r = record { unmanned = live-not own'.part told; placed = (player-after (own_state own) (held_of old) answer _ player r.0).placed }
player-resumed own own' old new answer (Err stops.NoMemory) player told r = record { unmanned = live-not own'.part told; placed = (subst IsPlayer (sym r.0) player).placed }

-- A player was told its end: no part of it is to be told.
pub untold : (own : OwnValue) → IsPlayer own → own_told own ≡ true
untold own player = ap (λ (part : Option Seen). not (is_some part)) player.unmanned

-- Its state is one.
pub ended-player : (own : OwnValue) → IsPlayer own → IsPlayer (own_state own)
ended-player own player = record { unmanned = refl; placed = player.placed }
