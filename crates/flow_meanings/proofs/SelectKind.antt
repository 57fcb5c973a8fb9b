-- What is known of a Select: each activation takes a key and a packet.
use Rattle.std.proofs.Common.{◌≡◌, ◌≢◌, ℕ, zero, suc, ◌+◌, ◌<◌, ◌≤◌, ◌==◌, List, [], ◌∷◌, map, length, refl, sym, ap, ◌∙◌, subst, arith, Bool, true, false, nat_eq, Some, slice_get, inl, inr, ◌⊎◌, if◌then◌else◌}
use Rattle.std.specs.Prelude.{replicate, max}
use Rattle.std.specs.List.{list_any}
use Rattle.std.proofs.Math.Nat.{max-zero, zero-max}
use Rattle.flow_packet.specs.Tree.{Tree}
use Rattle.flow_component.specs.Happenings.{Happening}
use Rattle.flow_component.specs.Runs.{EndedRun, got, sent, EndIsLast, StartsBring, text_packet, starts}
use Rattle.flow_component.proofs.Texts.{brings-more}
use Rattle.flow_streams.specs.Select.{SelectState, select_rules}
use Rattle.flow_streams.specs.Selected.{accepted, rejected, IsSelected}
use Rattle.flow_streams.specs.Meanings.{fresh_select}
use Rattle.flow_streams.proofs.SelectStream.{select_meaning, select_takes_texts, select_starts}
use Rattle.flow_catalogue.specs.declared.standard.Std.{Std}
use Rattle.flow_catalogue.specs.declared.standard.Std.TheVariants as components
use Rattle.flow_catalogue.specs.Components.{select_kind}
use Rattle.flow_model.specs.States.{Input, From, Text, Process}
use Rattle.flow_model.specs.Events.{is_connected}
use Rattle.flow_model.specs.Runs.{IsConnectedAt}
use Rattle.flow_meanings.specs.Meaning.{greatest, activations}
use Rattle.flow_meanings.specs.Means.{bytes_of}
use Rattle.flow_meanings.proofs.Over.{Over, Own, own, came, GotTexts, ended-begins, begins-starts}
use Rattle.flow_meanings.proofs.Facts.{Facts}

select-own : (state : SelectState) (p : ℕ) (told : List Happening) (x : Process Std) → Over (components.Select state) p told x → Own components.Select select_rules state told x
select-own state p told x over = own components.Select select_kind (λ k. refl) state p told x over

module _ (state : SelectState) (p : ℕ) (told : List Happening) (x : Process Std) (first : state ≡ fresh_select state.rejects) (over : Over (components.Select state) p told x) where
  run : EndedRun select_rules (fresh_select state.rejects) told
  run = subst (λ (w : SelectState). EndedRun select_rules w told) first (select-own state p told x over).run

  -- what ends at one of its inputs ends for good
  last-at : (port : ℕ) (input : Input) → port < 2 → slice_get x.inputs port ≡ Some input → EndIsLast port told
  last-at port (From c) l at = over.run.end_is_last port (inl (c, at))
  last-at port (Text text) l at = (select_takes_texts state.rejects told run port text l (over.run.texts port text at)).1

  -- Its two inputs.
  record Two : Type 0 where
    keys : Input
    packets : Input
    are : x.inputs ≡ keys ∷ packets ∷ []

  two : (inputs : List Input) → x.inputs ≡ inputs → 2 ≡ length inputs → Two
  two [] is n = absurd (omega arith)
  two (i ∷ []) is n = absurd (omega arith)
  two (i ∷ j ∷ []) is n = record { keys = i; packets = j; are = is }
  two (i ∷ j ∷ k ∷ inputs) is n = absurd (omega arith)

  inputs : Two
  inputs = two x.inputs refl over.fits

  last-key : EndIsLast 0 told
  last-key = last-at 0 inputs.keys (omega arith) (ap (λ (is : List Input). slice_get is 0) inputs.are)

  last-packet : EndIsLast 1 told
  last-packet = last-at 1 inputs.packets (omega arith) (ap (λ (is : List Input). slice_get is 1) inputs.are)

  pub selects : IsSelected state.rejects (got 0 told) (got 1 told) (sent 0 told) (sent 1 told)
  selects = select_meaning state.rejects told run last-key last-packet

  last-of : (port : ℕ) → port < 2 → EndIsLast port told
  last-of zero l = last-key
  last-of (suc zero) l = last-packet
  last-of (suc (suc port)) l = absurd (omega arith)

  -- where an input is connected, each activation brings something at a connected one
  brings : (among : ℕ → Bool) (is : List Input) → x.inputs ≡ is → list_any is_connected is ≡ true → ((port : ℕ) → IsConnectedAt is port → (port < 2) × (among port ≡ true)) → StartsBring (λ port. (port < 2) × (among port ≡ true)) told
  brings among is e some up =
      brings-more (IsConnectedAt x.inputs) (λ port. (port < 2) × (among port ≡ true)) (λ port at. up port (subst (λ (l : List Input). IsConnectedAt l port) e at)) told
      (over.run.starts_bring (ap (λ (l : List Input). list_any is_connected l) e ∙ some))

  most : (among : ℕ → Bool) → ((port : ℕ) → among port ≡ true → port < 2) → StartsBring (λ port. (port < 2) × (among port ≡ true)) told
      → starts told ≡ max (Rattle.flow_streams.specs.Meanings.count_among among 0 told) (Rattle.flow_streams.specs.Meanings.count_among among 1 told)
  most among within b = select_starts state.rejects told run among b (λ port is. last-of port (within port is))

  is-zero : (port : ℕ) → (port == 0) ≡ true → port < 2
  is-zero port e = grind (arith, Rattle.std.proofs.lemmas.Bool.Decides.nat_tests)

  is-one : (port : ℕ) → (port == 1) ≡ true → port < 2
  is-one port e = grind (arith, Rattle.std.proofs.lemmas.Bool.Decides.nat_tests)

  is-two : (port : ℕ) → Rattle.std.proofs.Common.nat_lt port 2 ≡ true → port < 2
  is-two port e = grind (arith, Rattle.std.proofs.lemmas.Bool.Decides.nat_tests)

  -- it is activated as often as the plan has it
  counted : (i j : Input) → x.inputs ≡ i ∷ j ∷ [] → told ≢ [] → starts told ≡ activations false (greatest (came 0 told (i ∷ j ∷ [])))
  counted (Text s) (Text t) e some =
      let few = over.run.once (ap (λ (l : List Input). list_any is_connected l) e) in
      let more = begins-starts told (ended-begins (components.Select state) p told x over.run over.ended some) in
      omega (arith, few, more)
  counted (From c) (Text t) e some = most (λ port. port == 0) is-zero (brings (λ port. port == 0) (From c ∷ Text t ∷ []) e refl up) ∙ max-zero (length (got 0 told))
    where
      up : (port : ℕ) → IsConnectedAt (From c ∷ Text t ∷ []) port → (port < 2) × ((port == 0) ≡ true)
      up zero at = (omega arith, refl)
      up (suc zero) at = absurd (let h : Some (Text t) ≡ Some (From at.0) = at.1 in cc)
      up (suc (suc port)) at = absurd (let h = at.1 in cc)
  counted (Text s) (From d) e some = most (λ port. port == 1) is-one (brings (λ port. port == 1) (Text s ∷ From d ∷ []) e refl up) ∙ zero-max (length (got 1 told))
    where
      up : (port : ℕ) → IsConnectedAt (Text s ∷ From d ∷ []) port → (port < 2) × ((port == 1) ≡ true)
      up zero at = absurd (let h : Some (Text s) ≡ Some (From at.0) = at.1 in cc)
      up (suc zero) at = (omega arith, refl)
      up (suc (suc port)) at = absurd (let h = at.1 in cc)
  counted (From c) (From d) e some = most (λ port. Rattle.std.proofs.Common.nat_lt port 2) is-two (brings (λ port. Rattle.std.proofs.Common.nat_lt port 2) (From c ∷ From d ∷ []) e refl up)
    where
      up : (port : ℕ) → IsConnectedAt (From c ∷ From d ∷ []) port → (port < 2) × (Rattle.std.proofs.Common.nat_lt port 2 ≡ true)
      up zero at = (omega arith, refl)
      up (suc zero) at = (omega arith, refl)
      up (suc (suc port)) at = absurd (let h = at.1 in cc)

  pub select-texts : told ≢ [] → GotTexts false told x
  select-texts some i text at =
      let l : i < 2 = omega (arith, Rattle.std.proofs.lemmas.Option.slice_get_within x.inputs i (Text text) at, over.fits) in
      let times : starts told ≡ activations false (greatest (came 0 told x.inputs)) = counted inputs.keys inputs.packets inputs.are some ∙ ap (λ (is : List Input). activations false (greatest (came 0 told is))) (sym inputs.are) in
      (select_takes_texts state.rejects told run i text l (over.run.texts i text at)).0 ∙ ap (λ (n : ℕ). replicate n (text_packet text)) times

-- The facts of Select.
pub select-facts : (state : SelectState) → Facts (components.Select state)
select-facts state = record {
  means = λ p told x first over. selects state p told x first over;
  texts = λ p told x first over some. select-texts state p told x first over some;
  change = λ w w' x x' y y' same m. change state.rejects (x 0) (x' 0) (x 1) (x' 1) (y 0) (y' 0) (y 1) (y' 1) (same.inputs 0 (omega arith)) (same.inputs 1 (omega arith)) (same.outputs 0 refl) (λ c. same.outputs 1 c) (same.silent 1) m;
  wrote_none = λ p told x over none. ap bytes_of (select-own state p told x over).is;
  settles = λ s w w' x x' y y' ins m n. one x x' y y' ins m n;
}
  where
    change : (r : Bool) (k k' t t' a a' b b' : List Tree) → k ≡ k' → t ≡ t' → a ≡ a' → (r ≡ true → b ≡ b') → (b ≡ [] → b' ≡ []) → IsSelected r k t a b → IsSelected r k' t' a' b'
    change true k k' t t' a a' b b' e f g h s m = record { accepts_some = sym g ∙ m.accepts_some ∙ (λ i. accepted (e i) (f i)); rejects_others = sym (h refl) ∙ m.rejects_others ∙ (λ i. rejected (e i) (f i)) }
    change false k k' t t' a a' b b' e f g h s m = record { accepts_some = sym g ∙ m.accepts_some ∙ (λ i. accepted (e i) (f i)); rejects_others = s m.rejects_others }

    one : (x x' y y' : ℕ → List Tree) → ((i : ℕ) → x i ≡ x' i) → IsSelected state.rejects (x 0) (x 1) (y 0) (y 1) → IsSelected state.rejects (x' 0) (x' 1) (y' 0) (y' 1) → (o : ℕ) → o < 2 → y o ≡ y' o
    one x x' y y' ins m n zero l = m.accepts_some ∙ (λ i. accepted (ins 0 i) (ins 1 i)) ∙ sym n.accepts_some
    one x x' y y' ins m n (suc zero) l = m.rejects_others ∙ (λ i. if state.rejects then rejected (ins 0 i) (ins 1 i) else []) ∙ sym n.rejects_others
    one x x' y y' ins m n (suc (suc o)) l = absurd (omega arith)
