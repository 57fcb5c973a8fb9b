-- Components that map keep the laws of components.
use Rattle.flow_limits.specs.declared.TheConstants.{TEXT_LIMIT}
use Rattle.std.proofs.Common.{◌≡◌, ℕ, ◌≤◌, Bool, true, false, List, [], ◌∷◌, length, Option, Some, None, nat_lt, cond, refl, sym, subst, ap, ◌∙◌, arith, eq-eqb, IsTrue}
use Rattle.flow_packet.specs.declared.packet.Kind.{Kind}
use Rattle.flow_packet.specs.declared.packet.Kind.TheVariants.{Normal, Open, Close}
use Rattle.flow_packet.specs.Tree.{Tree, id_of, text_of, packet_of}
use Rattle.flow_packet.specs.Hands.{kind_at, text_at, without, IsAtRoot}
use Rattle.flow_packet.specs.Held.{Held, Sound, next_id, without_packet, with_made}
use Rattle.flow_packet.specs.Edits.{ComesBy}
use Rattle.flow_component.specs.declared.Answer.{Answer}
use Rattle.flow_component.specs.declared.Answer.TheVariants as answers
use Rattle.flow_component.specs.declared.Fail.TheVariants.{TextLimit}
use Rattle.flow_component.specs.declared.Wish.TheVariants.{Send}
use Rattle.flow_component.specs.Laws.{Lawful, Outcome, Wishes, Fails, Obeys, StaysReady, AtMostOneOutcome, component_after}
use Rattle.flow_component.specs.Alone.{HoldsOnly}
use Rattle.flow_component.specs.Ports.{receive_first, send_first}
use Rattle.flow_component.proofs.Roots.{same_id, IsAtRoot-made}
use Rattle.flow_component.proofs.Comings.{comes_same, comes_dropped, comes_made, comes_renewed}
use Rattle.flow_component.proofs.Lone.{HoldsOnly-without, HoldsOnly-root, HoldsOnly-came, HoldsOnly-made, HoldsOnly-left, HoldsOnly-text, HoldsOnly-made_alone}
use Rattle.flow_map.specs.declared.mapper.MapperPlace.{MapperPlace}
use Rattle.flow_map.specs.declared.mapper.MapperPlace.TheVariants.{Waiting, Making}
use Rattle.flow_map.specs.Mapping.{Mapping, Mapped, Product, Next, Over, Itself, Last, More, waiting, itself_port, makes, gives, gives_from, meets, goes_on, mapper_next, mapper_shape, mapper_uses, IsWaiting, IsReadyOn, MapperReady, mapper_rules, IsWithin, IsMapping}

-- In the place of the packet that was alone stands the one that was made.
pub renewed : (held : Held) (id : ℕ) (kind : Kind) (text : List ℕ) → HoldsOnly held id → (without_packet (with_made held kind text) id).packets ≡ packet_of (next_id held) kind text [] ∷ []
renewed held id kind text h = let e = eq-eqb (id_of h.packet) id h.named in rw (h.holds, e) refl

made-root : (n : ℕ) (kind : Kind) (text : List ℕ) → IsAtRoot (packet_of n kind text [] ∷ []) n
made-root n kind text = let s = same_id n in rw s refl

made-gone : (n : ℕ) (kind : Kind) (text : List ℕ) → without (packet_of n kind text [] ∷ []) n ≡ []
made-gone n kind text = let s = same_id n in rw s refl

-- Once what was made has gone, the packet that was alone has its text.
pub text-left : (held : Held) (id : ℕ) (kind : Kind) (text : List ℕ) (h : HoldsOnly held id) (l : HoldsOnly (without_packet (with_made held kind text) (next_id held)) id)
    → text_at (without_packet (with_made held kind text) (next_id held)).packets id ≡ text_at held.packets id
text-left held id kind text h l =
    let left = without_packet (with_made held kind text) (next_id held) in
    let same : l.packet ≡ h.packet = first-same (sym l.holds ∙ HoldsOnly-made held id kind text h) in
    HoldsOnly-text left id l ∙ ap text_of same ∙ sym (HoldsOnly-text held id h)
  where
    first-same : {t u : Tree} → t ∷ [] ≡ u ∷ [] → t ≡ u
    first-same e = cc

module _ {K : Type 0} (mapping : Mapping K) (is : IsMapping mapping) where
  -- The work from these hands leads to a lawful outcome.
  abbrev IsLawful : Option Bool → Held → Outcome (Mapped K) → Type 0
  IsLawful second held outcome = Obeys (mapper_shape second) (mapper_uses second) held outcome × StaysReady (mapper_rules mapping) outcome

  receives : (second : Option Bool) (old held : Held) (component : Mapped K) → ComesBy old held → IsWaiting component.place → held.packets ≡ [] → IsLawful second old (Wishes component held receive_first)
  receives second old held component w g e = ((w, omega arith), ((λ s. (g, e)), (λ t s. (g, HoldsOnly-came held t e s)), (λ text s. (g, HoldsOnly-made_alone held Normal text e s))))

  uses-first : (second : Option Bool) → IsTrue (mapper_uses second 0)
  uses-first second = refl

  uses-itself : (second : Option Bool) → IsTrue (mapper_uses second (itself_port second).0)
  uses-itself None = refl
  uses-itself (Some false) = refl
  uses-itself (Some true) = refl

  passed : (second : Option Bool) (held : Held) (id : ℕ) (own : K) → HoldsOnly held id → IsLawful second held (Wishes (waiting own) held (send_first id))
  passed second held id own h = ((comes_same held, (uses-first second, HoldsOnly-root held id h)), λ s. HoldsOnly-without held id h)

  passed-itself : (second : Option Bool) (held : Held) (id : ℕ) (own : K) → HoldsOnly held id → IsLawful second held (Wishes (waiting own) held (Send (itself_port second) id))
  passed-itself second held id own h = ((comes_same held, (uses-itself second, HoldsOnly-root held id h)), λ s. HoldsOnly-without held id h)

  made-last : (second : Option Bool) (component : Mapped K) (held : Held) (id : ℕ) (product : Product) (own : K) → HoldsOnly held id
      → IsLawful second held (makes component held product (waiting own) (without_packet (with_made held product.kind product.text) id))
  made-last second component held id product own h = by (nat_lt TEXT_LIMIT (length product.text))
    where
      e : (without_packet (with_made held product.kind product.text) id).packets ≡ packet_of (next_id held) product.kind product.text [] ∷ []
      e = renewed held id product.kind product.text h

      by : (long : Bool) → IsLawful second held (cond long (Fails component held (TextLimit (length product.text))) (Wishes (waiting own) (without_packet (with_made held product.kind product.text) id) (send_first (next_id held))))
      by true = ((comes_same held, tt), tt)
      by false = (
        (comes_renewed held product.kind product.text id (omega (arith, ap length h.holds)) (HoldsOnly-root held id h), (uses-first second, rw e (made-root (next_id held) product.kind product.text))),
        λ s. rw e (made-gone (next_id held) product.kind product.text),
      )

  made-more : (second : Option Bool) (component : Mapped K) (held : Held) (id : ℕ) (product : Product) (place : ℕ) → HoldsOnly held id → place ≤ mapping.last_place component.own (text_at held.packets id)
      → IsLawful second held (makes component held product (record component { place = Making id place }) (with_made held product.kind product.text))
  made-more second component held id product place h within = by (nat_lt TEXT_LIMIT (length product.text))
    where
      kept : Sound (without_packet (with_made held product.kind product.text) (next_id held)) → IsReadyOn mapping component.own (without_packet (with_made held product.kind product.text) (next_id held)) (Making id place)
      kept s =
          let l = HoldsOnly-left held id product.kind product.text h s in
          let t = text-left held id product.kind product.text h l in
          (l, subst (λ (n : ℕ). place ≤ n) (sym (ap (mapping.last_place component.own) t)) within)

      by : (long : Bool) → IsLawful second held (cond long (Fails component held (TextLimit (length product.text))) (Wishes (record component { place = Making id place }) (with_made held product.kind product.text) (send_first (next_id held))))
      by true = ((comes_same held, tt), tt)
      by false = ((comes_made held product.kind product.text (omega (arith, ap length h.holds)), (uses-first second, IsAtRoot-made held product.kind product.text)), kept)

  given : (next : Next) (component : Mapped K) (held : Held) (id : ℕ) → HoldsOnly held id → IsWithin (mapping.last_place component.own (text_at held.packets id)) next
      → IsLawful (mapping.second component.own) held (gives mapping component held id (text_at held.packets id) next)
  given Over component held id h w =
      receives (mapping.second component.own) held (without_packet held id) (waiting (mapping.after component.own Normal (text_at held.packets id))) (comes_dropped held id (HoldsOnly-root held id h)) tt (HoldsOnly-without held id h)
  given Itself component held id h w = passed-itself (mapping.second component.own) held id (mapping.after component.own Normal (text_at held.packets id)) h
  given (Last product) component held id h w = made-last (mapping.second component.own) component held id product (mapping.after component.own Normal (text_at held.packets id)) h
  given (More product place) component held id h w = made-more (mapping.second component.own) component held id product place h w

  given-from : (component : Mapped K) (held : Held) (id place : ℕ) → HoldsOnly held id → place ≤ mapping.last_place component.own (text_at held.packets id)
      → IsLawful (mapping.second component.own) held (gives_from mapping component held id (text_at held.packets id) place)
  given-from component held id place h w =
      let text = text_at held.packets id in
      given (mapping.next component.own text place) component held id h (is.within component.own text place w)

  met : (kind : Kind) (component : Mapped K) (held : Held) (id : ℕ) → HoldsOnly held id → IsLawful (mapping.second component.own) held (meets mapping component held id kind (text_at held.packets id))
  met Normal component held id h = given-from component held id 0 h (omega arith)
  met Open component held id h = passed (mapping.second component.own) held id (mapping.after component.own Open (text_at held.packets id)) h
  met Close component held id h = passed (mapping.second component.own) held id (mapping.after component.own Close (text_at held.packets id)) h

  went-on : (place : MapperPlace) (component : Mapped K) (held : Held) → component.place ≡ place → IsReadyOn mapping component.own held place → IsLawful (mapping.second component.own) held (goes_on mapping component held place)
  went-on Waiting component held e r = receives (mapping.second component.own) held held component (comes_same held) (subst IsWaiting (sym e) tt) r
  went-on (Making id place) component held e r = given-from component held id place r.0 r.1

  lawful : (component : Mapped K) (held : Held) (answer : Answer) → MapperReady mapping component held answer → IsLawful (mapping.second component.own) held (mapper_next mapping component held answer)
  lawful component held answers.Start r = receives (mapping.second component.own) held held component (comes_same held) r.0 r.1
  lawful component held (answers.Got id) r = met (kind_at held.packets id) component held id r.1
  lawful component held answers.End r = ((comes_same held, tt), λ s. r)
  lawful component held answers.Sent r = went-on component.place component held refl r
  lawful component held (answers.Level n) r = absurd r

  -- Whether the second output is connected stays so.
  abbrev Keeps : Mapped K → Outcome (Mapped K) → Type 0
  Keeps component outcome = mapping.second (component_after outcome).own ≡ mapping.second component.own

  makes-keeps : (long : Bool) (component component' : Mapped K) (held held' : Held) (count id : ℕ) → mapping.second component'.own ≡ mapping.second component.own
      → Keeps component (cond long (Fails component held (TextLimit count)) (Wishes component' held' (send_first id)))
  makes-keeps true component component' held held' count id e = refl
  makes-keeps false component component' held held' count id e = e

  gives-keeps : (next : Next) (component : Mapped K) (held : Held) (id : ℕ) (text : List ℕ) → Keeps component (gives mapping component held id text next)
  gives-keeps Over component held id text = is.stays component.own Normal text
  gives-keeps Itself component held id text = is.stays component.own Normal text
  gives-keeps (Last product) component held id text =
      makes-keeps (nat_lt TEXT_LIMIT (length product.text)) component (waiting (mapping.after component.own Normal text)) held (without_packet (with_made held product.kind product.text) id) (length product.text) (next_id held)
      (is.stays component.own Normal text)
  gives-keeps (More product place) component held id text =
      makes-keeps (nat_lt TEXT_LIMIT (length product.text)) component (record component { place = Making id place }) held (with_made held product.kind product.text) (length product.text) (next_id held) refl

  meets-keeps : (kind : Kind) (component : Mapped K) (held : Held) (id : ℕ) (text : List ℕ) → Keeps component (meets mapping component held id kind text)
  meets-keeps Normal component held id text = gives-keeps (mapping.next component.own text 0) component held id text
  meets-keeps Open component held id text = is.stays component.own Open text
  meets-keeps Close component held id text = is.stays component.own Close text

  on-keeps : (place : MapperPlace) (component : Mapped K) (held : Held) → Keeps component (goes_on mapping component held place)
  on-keeps Waiting component held = refl
  on-keeps (Making id place) component held =
      let text = text_at held.packets id in
      gives-keeps (mapping.next component.own text place) component held id text

  keeps : (component : Mapped K) (held : Held) (answer : Answer) → Keeps component (mapper_next mapping component held answer)
  keeps component held answers.Start = refl
  keeps component held (answers.Got id) = meets-keeps (kind_at held.packets id) component held id (text_at held.packets id)
  keeps component held answers.End = refl
  keeps component held answers.Sent = on-keeps component.place component held
  keeps component held (answers.Level n) = refl

  -- They keep the laws of components.
  pub mapper_lawful : Lawful (mapper_rules mapping)
  mapper_lawful = record {
    obeys = λ component held answer outcome r to. subst (Obeys (mapper_shape (mapping.second component.own)) (mapper_uses (mapping.second component.own)) held) (sym to) (lawful component held answer r).0;
    stays_ready = λ component held answer outcome r to. subst (StaysReady (mapper_rules mapping)) (sym to) (lawful component held answer r).1;
    steady = λ component held answer outcome to.
        let e = ap (λ (o : Outcome (Mapped K)). mapping.second (component_after o).own) to ∙ keeps component held answer in
        record { shape = ap mapper_shape e; outputs = ap mapper_uses e };
    has_outcome = λ component held answer _. (mapper_next mapping component held answer, refl);
  }

-- Told the same, such a component comes to one outcome.
pub mapper_determinate : {K : Type 0} (mapping : Mapping K) → AtMostOneOutcome (mapper_rules mapping)
mapper_determinate mapping component held answer a b is-a is-b = is-a ∙ sym is-b
