-- Components that fold keep the laws of components.
use Rattle.flow_limits.specs.declared.TheConstants.{TEXT_LIMIT, HANDS_LIMIT}
use Rattle.std.proofs.Common.{◌≡◌, ℕ, ◌+◌, Bool, true, false, List, [], length, Option, Some, None, nat_lt, cond, refl, sym, subst, ap, ◌∙◌, ◌<◌, arith}
use Rattle.std.specs.Prelude.{slice_get}
use Rattle.flow_packet.specs.declared.packet.Kind.{Kind}
use Rattle.flow_packet.specs.declared.packet.Kind.TheVariants.{Normal, Open, Close}
use Rattle.flow_packet.specs.Hands.{kind_at, text_at}
use Rattle.flow_packet.specs.Held.{Held, Sound, next_id, without_packet, with_made}
use Rattle.flow_packet.specs.Edits.{ComesBy}
use Rattle.flow_component.specs.declared.Answer.{Answer}
use Rattle.flow_component.specs.declared.Answer.TheVariants as answers
use Rattle.flow_component.specs.declared.Fail.{Fail}
use Rattle.flow_component.specs.declared.Fail.TheVariants.{TextLimit}
use Rattle.flow_component.specs.Laws.{Lawful, Outcome, Wishes, Fails, Obeys, StaysReady, AtMostOneOutcome, IsOwnCause}
use Rattle.flow_component.specs.Alone.{HoldsOnly}
use Rattle.flow_component.specs.Ports.{one_to_one, uses_first, receive_first, send_first}
use Rattle.flow_component.proofs.Roots.{IsAtRoot-made, made_gone}
use Rattle.flow_component.proofs.Comings.{comes_same, comes_dropped, comes_made}
use Rattle.flow_component.proofs.Lone.{HoldsOnly-without, HoldsOnly-root, HoldsOnly-left, HoldsOnly-came, HoldsOnly-made_alone}
use Rattle.flow_fold.specs.declared.folder.Stretch.TheVariants.{Filled}
use Rattle.flow_fold.specs.declared.folder.FolderPlace.{FolderPlace}
use Rattle.flow_fold.specs.declared.folder.FolderPlace.TheVariants.{Taking, Telling}
use Rattle.flow_fold.specs.Folding.{Folding, Folded, Taken, Keeps, Refuses, is_told, ends, tells_one, tells_from, text_taken, meets, goes_on, folder_next, folder_rules, IsTaking, IsBefore, IsReadyOn, FolderReady, IsFolding}

module _ {K S : Type 0} (folding : Folding K S) (is : IsFolding folding) where
  -- The work from these hands leads to a lawful outcome.
  abbrev IsLawful : Held → Outcome (Folded K S) → Type 0
  IsLawful held outcome = Obeys one_to_one uses_first held outcome × StaysReady (folder_rules folding) outcome

  receives : (old held : Held) (component : Folded K S) → ComesBy old held → IsTaking component.place → held.packets ≡ [] → IsLawful old (Wishes component held receive_first)
  receives old held component w g e = ((w, omega arith), ((λ s. (g, e)), (λ t s. (g, HoldsOnly-came held t e s)), (λ text s. (g, HoldsOnly-made_alone held Normal text e s))))

  few : (held : Held) (before : Option ℕ) → IsBefore held before → length held.packets < HANDS_LIMIT
  few held None b = omega (arith, ap length b)
  few held (Some id) b = omega (arith, ap length b.holds)

  stays : (held : Held) (before : Option ℕ) (text : List ℕ) → IsBefore held before → Sound (without_packet (with_made held Normal text) (next_id held)) → IsBefore (without_packet (with_made held Normal text) (next_id held)) before
  stays held None text b s = made_gone held Normal text b
  stays held (Some id) text b s = HoldsOnly-left held id Normal text b s

  made : (long : Bool) (component : Folded K S) (held : Held) (text : List ℕ) (before : Option ℕ) (told : ℕ) → IsBefore held before
      → IsLawful held (cond long (Fails component held (TextLimit (length text))) (Wishes (record component { place = Telling before told }) (with_made held Normal text) (send_first (next_id held))))
  made true component held text before told b = ((comes_same held, tt), tt)
  made false component held text before told b = ((comes_made held Normal text (few held before b), (refl, IsAtRoot-made held Normal text)), λ s. stays held before text b s)

  ended : (before : Option ℕ) (component : Folded K S) (held : Held) → IsBefore held before → IsLawful held (ends folding component held before)
  ended None component held b = ((comes_same held, tt), λ s. (tt, b))
  ended (Some id) component held b = ((comes_same held, (refl, HoldsOnly-root held id b)), λ s. HoldsOnly-without held id b)

  told-one : (next : Option (List ℕ)) (component : Folded K S) (held : Held) (before : Option ℕ) (told : ℕ) → IsBefore held before → IsLawful held (tells_one folding component held before told next)
  told-one None component held before told b = ended before component held b
  told-one (Some text) component held before told b = made (nat_lt TEXT_LIMIT (length text)) component held text before (told + 1) b

  told-from : (component : Folded K S) (held : Held) (before : Option ℕ) (told : ℕ) → IsBefore held before → IsLawful held (tells_from folding component held before told)
  told-from component held before told b = told-one (slice_get (folding.tells component.kind component.state) told) component held before told b

  closed-off : (told : Bool) (component : Folded K S) (held : Held) (before : Option ℕ) → IsBefore held before → IsLawful held (cond told (tells_from folding component held before 0) (ends folding component held before))
  closed-off true component held before b = told-from component held before 0 b
  closed-off false component held before b = ended before component held b

  taken : (new : Taken S) (component : Folded K S) (held : Held) (id : ℕ) → ((cause : Fail) → new ≡ Refuses cause → IsOwnCause one_to_one cause) → IsTaking component.place → HoldsOnly held id
      → IsLawful held (text_taken component held id new)
  taken (Keeps state) component held id own g h = receives held (without_packet held id) (record component { state = state; stretch = Filled }) (comes_dropped held id (HoldsOnly-root held id h)) g (HoldsOnly-without held id h)
  taken (Refuses cause) component held id own g h = ((comes_same held, own cause refl), tt)

  met : (kind : Kind) (component : Folded K S) (held : Held) (id : ℕ) → IsTaking component.place → HoldsOnly held id → IsLawful held (meets folding component held id kind)
  met Normal component held id g h =
      let text = text_at held.packets id in
      taken (folding.takes component.kind component.state text) component held id (is.refuses component.kind component.state text) g h
  met Open component held id g h = closed-off (is_told component.stretch false) component held (Some id) h
  met Close component held id g h = closed-off (is_told component.stretch true) component held (Some id) h

  went-on : (place : FolderPlace) (component : Folded K S) (held : Held) → component.place ≡ place → IsReadyOn held place → IsLawful held (goes_on folding component held place)
  went-on Taking component held e r = receives held held component (comes_same held) (subst IsTaking (sym e) tt) r
  went-on (Telling before told) component held e r = told-from component held before told r

  lawful : (component : Folded K S) (held : Held) (answer : Answer) → FolderReady component held answer → IsLawful held (folder_next folding component held answer)
  lawful component held answers.Start r = receives held held component (comes_same held) r.0 r.1
  lawful component held (answers.Got id) r = met (kind_at held.packets id) component held id r.0 r.1
  lawful component held answers.End r = closed-off (is_told component.stretch false) component held None r.1
  lawful component held answers.Sent r = went-on component.place component held refl r
  lawful component held (answers.Level n) r = absurd r

  -- They keep the laws of components.
  pub folder_lawful : Lawful (folder_rules folding)
  folder_lawful = record {
    obeys = λ component held answer outcome r to. subst (Obeys one_to_one uses_first held) (sym to) (lawful component held answer r).0;
    stays_ready = λ component held answer outcome r to. subst (StaysReady (folder_rules folding)) (sym to) (lawful component held answer r).1;
    steady = λ component held answer outcome to. record { shape = refl; outputs = refl };
    has_outcome = λ component held answer _. (folder_next folding component held answer, refl);
  }

-- Told the same, such a component comes to one outcome.
pub folder_determinate : {K S : Type 0} (folding : Folding K S) → AtMostOneOutcome (folder_rules folding)
folder_determinate folding component held answer a b is-a is-b = is-a ∙ sym is-b
