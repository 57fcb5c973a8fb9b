-- A part that came to a wish hasn't failed.
use Rattle.std.proofs.Common.{◌≡◌, ◌++◌, ◌∷◌, [], ℕ, Option, Some, None, false, refl, sym, subst}
use Rattle.flow_packet.specs.Held.{Held}
use Rattle.flow_component.specs.declared.Answer.{Answer}
use Rattle.flow_component.specs.declared.Wish.{Wish}
use Rattle.flow_component.specs.Laws.{Wishes}
use Rattle.flow_own.specs.declared.tape.End.{End}
use Rattle.flow_own.specs.declared.tape.End.TheVariants as ends
use Rattle.flow_own.specs.Tapes.{OwnValue, NextAs, OwnNext, has_failed, is_failure, outcome_by, after_entry}
use Rattle.flow_own.specs.TapesLaws.{has_failed-push}

well-as : (place : Option ℕ) (own own' : OwnValue) (held held' : Held) (answer : Answer) (wish : Wish) → place ≡ None → has_failed own.tape ≡ false → NextAs place own held answer (Wishes own' held' wish) → has_failed own'.tape ≡ false
well-as None own own' held held' answer wish e well next = by next.0.end refl next.2
  where
    longer : OwnValue
    longer = record own { part = None; tape = own.tape ++ next.0 ∷ [] }

    by : (end : End) → next.0.end ≡ end → Wishes own' held' wish ≡ outcome_by longer (after_entry held next.0) end → has_failed own'.tape ≡ false
    by (ends.Wish w) last same =
        let k : own' ≡ longer = cc in
        let n : is_failure next.0.end ≡ false = rw last refl in
        subst (λ (o : OwnValue). has_failed o.tape ≡ false) (sym k) (has_failed-push own.tape next.0 well n)
    by (ends.Fail cause) last same = cc
well-as (Some place) own own' held held' answer wish e well next = cc

pub well_after : (own own' : OwnValue) (held held' : Held) (answer : Answer) (wish : Wish) → own.place ≡ None → has_failed own.tape ≡ false → OwnNext own held answer (Wishes own' held' wish) → has_failed own'.tape ≡ false
well_after own own' held held' answer wish e well next = well-as own.place own own' held held' answer wish e well next
