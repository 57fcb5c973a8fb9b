-- The composition of the Telegram Problem.
use Rattle.std.proofs.Common.{◌≡◌, ℕ, zero, suc, ◌<◌, ◌≤◌, List, [], ◌∷◌, map, length, Some, None, refl, sym, ap, ◌∙◌, subst, arith, slice_get, inl}
use Rattle.std.specs.Prelude.{codes}
use Rattle.std.specs.List.{flat_map}
use Rattle.flow_packet.specs.Tree.{Tree}
use Rattle.flow_component.specs.Runs.{text_packet}
use Rattle.flow_plan.specs.declared.plan.Process.{Process}
use Rattle.flow_plan.specs.declared.plan.Connection.{Connection}
use Rattle.flow_parts.specs.Filling.{Line, Filling, last_part}
use Rattle.flow_parts.specs.Meanings.{rendered_all, words_of, fresh_fill}
use Rattle.flow_parts.specs.declared.words.Words.TheVariants as words_parts
use Rattle.flow_parts.proofs.OneFilling.{one_filling}
use Rattle.flow_catalogue.specs.declared.standard.Std.{Std}
use Rattle.flow_catalogue.specs.declared.standard.Std.TheVariants as components
use Rattle.flow_catalogue.specs.declared.table.StdKind.TheVariants as kinds
use Rattle.flow_catalogue.specs.Kinds.{name_of}
use Rattle.flow_catalogue.specs.Std.{std_shape, written_of}
use Rattle.flow_model.specs.Plans.{input_at, sends_at}
use Rattle.flow_model.proofs.Lists.{map-found}
use Rattle.flow_meanings.specs.Means.{Means}
use Rattle.flow_meanings.specs.Composition.{Sending, activated, inputs_of, arriving, leaving, Composes}
use Rattle.flow_meanings.specs.Chains.{LeadsTo, IsTelegram}
use Rattle.flow_determinate.specs.Standard.{AreFirstOf, IsFirstOf, IsNamedStandard, IsDeterminate}
use Rattle.flow_meanings.proofs.Every.{components-first}
use Rattle.flow_meanings.proofs.Chaining.{unmerged-plan, telegram-means}
use Rattle.flow_witness.specs.Telegram.{telegram, telegram_input, telegram_components, telegram_on, telegram_wrote, texts_from, sent_by, link}

-- what holds of each of four elements holds of every element
at_four : {X : Type 0} → (P : ℕ → X → Type 0) (a b c d : X) → P 0 a → P 1 b → P 2 c → P 3 d → (k : ℕ) (x : X) → slice_get (a ∷ b ∷ c ∷ d ∷ []) k ≡ Some x → P k x
at_four P a b c d pa pb pc pd zero x h = subst (P 0) (let e : a ≡ x = cc in e) pa
at_four P a b c d pa pb pc pd (suc zero) x h = subst (P 1) (let e : b ≡ x = cc in e) pb
at_four P a b c d pa pb pc pd (suc (suc zero)) x h = subst (P 2) (let e : c ≡ x = cc in e) pc
at_four P a b c d pa pb pc pd (suc (suc (suc zero))) x h = subst (P 3) (let e : d ≡ x = cc in e) pd
at_four P a b c d pa pb pc pd (suc (suc (suc (suc k)))) x h = absurd (cc)

at_three : {X : Type 0} → (P : ℕ → X → Type 0) (a b c : X) → P 0 a → P 1 b → P 2 c → (k : ℕ) (x : X) → slice_get (a ∷ b ∷ c ∷ []) k ≡ Some x → P k x
at_three P a b c pa pb pc zero x h = subst (P 0) (let e : a ≡ x = cc in e) pa
at_three P a b c pa pb pc (suc zero) x h = subst (P 1) (let e : b ≡ x = cc in e) pb
at_three P a b c pa pb pc (suc (suc zero)) x h = subst (P 2) (let e : c ≡ x = cc in e) pc
at_three P a b c pa pb pc (suc (suc (suc k))) x h = absurd (cc)

-- The process at a place, and one without anything where there is none.
abbrev pub process_at : ℕ → List Process → Process
process_at p [] = record { name = []; kind = []; options = []; initials = []; inputs = 0; outputs = 0 }
process_at zero (x ∷ xs) = x
process_at (suc p) (x ∷ xs) = process_at p xs

abbrev process : ℕ → Process
process p = process_at p telegram.processes

-- The components of the worked run are those of its processes.
pub are-components : AreFirstOf telegram telegram_components
are-components p component at =
    at_four (λ q k. IsFirstOf telegram q k) (components.ReadLines telegram_input) (components.Words words_parts.Waiting) (components.Fill (fresh_fill 12)) (components.WriteLines [])
    (record { process = process 0; there = refl; file = codes "To be or not to be\nthat is the question\n"; made = record { kind = kinds.ReadLines; named = refl; is = refl } })
    (record { process = process 1; there = refl; file = []; made = record { kind = kinds.Words; named = refl; is = refl } })
    (record { process = process 2; there = refl; file = []; made = record { kind = kinds.Fill; named = refl; is = refl } })
    (record { process = process 3; there = refl; file = []; made = record { kind = kinds.WriteLines; named = refl; is = refl } })
    p component at

-- each packet is from the one sender of its connection
own-sender : (c k : ℕ) (sending : Sending) → sends_at telegram c 0 ≡ Some c → slice_get (telegram_on c) k ≡ Some sending → sends_at telegram sending.sender.process sending.sender.output ≡ Some c
own-sender c k sending sends is =
    let found = map-found (sent_by c) (texts_from c) k sending is in
    ap (λ (s : Sending). sends_at telegram s.sender.process s.sender.output) (sym found.2) ∙ sends

senders : (c k : ℕ) (sending : Sending) → slice_get (telegram_on c) k ≡ Some sending → sends_at telegram sending.sender.process sending.sender.output ≡ Some c
senders zero k sending is = own-sender 0 k sending refl is
senders (suc zero) k sending is = own-sender 1 k sending refl is
senders (suc (suc zero)) k sending is = own-sender 2 k sending refl is
senders (suc (suc (suc c))) k sending is = absurd (cc)

-- and was sent at an output of its component
own-output : (c k : ℕ) (sending : Sending) (component : Std) → ((j : Std) → slice_get telegram_components c ≡ Some j → 0 < (std_shape j).outputs) → slice_get (telegram_on c) k ≡ Some sending → slice_get telegram_components sending.sender.process ≡ Some component
    → sending.sender.output < (std_shape component).outputs
own-output c k sending component first is at =
    let found = map-found (sent_by c) (texts_from c) k sending is in
    subst (λ (s : Sending). slice_get telegram_components s.sender.process ≡ Some component → s.sender.output < (std_shape component).outputs) found.2 (λ here. first component here) at

own : (c k : ℕ) (sending : Sending) (component : Std) → slice_get (telegram_on c) k ≡ Some sending → slice_get telegram_components sending.sender.process ≡ Some component → sending.sender.output < (std_shape component).outputs
own zero k sending component is at = own-output 0 k sending component (λ j here. subst (λ (i : Std). 0 < (std_shape i).outputs) (let e : components.ReadLines telegram_input ≡ j = cc in e) (omega arith)) is at
own (suc zero) k sending component is at = own-output 1 k sending component (λ j here. subst (λ (i : Std). 0 < (std_shape i).outputs) (let e : components.Words words_parts.Waiting ≡ j = cc in e) (omega arith)) is at
own (suc (suc zero)) k sending component is at = own-output 2 k sending component (λ j here. subst (λ (i : Std). 0 < (std_shape i).outputs) (let e : components.Fill (fresh_fill 12) ≡ j = cc in e) (omega arith)) is at
own (suc (suc (suc c))) k sending component is at = absurd (cc)

-- the words of the telegram in its lines
abbrev telegram_lines : List Line
telegram_lines = (codes "To" ∷ codes "be" ∷ codes "or" ∷ codes "not" ∷ []) ∷ (codes "to" ∷ codes "be" ∷ codes "that" ∷ []) ∷ (codes "is" ∷ codes "the" ∷ []) ∷ (codes "question" ∷ []) ∷ []

abbrev packets_from : ℕ → List Tree
packets_from c = map text_packet (texts_from c)

filling : Filling 12 (packets_from 1) (packets_from 2)
filling = last_part (packets_from 1) telegram_lines (refl, (refl, (refl, (refl, (refl, (refl, (refl, (refl, (refl, (refl, tt)))))))))) (record {
  all_words = refl;
  are_lines = ((omega arith, inl (omega arith)), ((omega arith, inl (omega arith)), ((omega arith, inl (omega arith)), ((omega arith, inl (omega arith)), tt))));
  late = (omega arith, (omega arith, (omega arith, tt)));
})

-- what the composition says of a process
abbrev IsComposed : ℕ → Process → Std → Type 0
IsComposed p x component =
    Means component (telegram_wrote p) (λ i. arriving telegram_on (activated component telegram_on (inputs_of telegram p x)) (input_at telegram p x i)) (λ o. leaving telegram_on (record { process = p; output = o }) (sends_at telegram p o))

each : (p : ℕ) (x : Process) (component : Std) → slice_get telegram.processes p ≡ Some x → slice_get telegram_components p ≡ Some component → IsComposed p x component
each p x component there here =
    at_four (λ q y. (k : Std) → slice_get telegram_components q ≡ Some k → IsComposed q y k) (process 0) (process 1) (process 2) (process 3)
    (λ k at. subst (IsComposed 0 (process 0)) (let e : components.ReadLines telegram_input ≡ k = cc in e) refl)
    (λ k at. subst (IsComposed 1 (process 1)) (let e : components.Words words_parts.Waiting ≡ k = cc in e) refl)
    (λ k at. subst (IsComposed 2 (process 2)) (let e : components.Fill (fresh_fill 12) ≡ k = cc in e) filling)
    (λ k at. subst (IsComposed 3 (process 3)) (let e : components.WriteLines [] ≡ k = cc in e) refl)
    p x there component here

others : (p : ℕ) (component : Std) → slice_get telegram_components p ≡ Some component → written_of component ≡ None → telegram_wrote p ≡ []
others zero component at none = refl
others (suc zero) component at none = refl
others (suc (suc zero)) component at none = refl
others (suc (suc (suc zero))) component at none = absurd (let e : components.WriteLines [] ≡ component = cc in let h : Some [] ≡ None = ap written_of e ∙ none in cc)
others (suc (suc (suc (suc p)))) component at none = refl

-- The worked run composes, with these streams on its connections.
pub composed : (m : Composes telegram telegram_components telegram_wrote) × (m.on ≡ telegram_on)
composed = (record { one_each = refl; first = components-first telegram telegram_components are-components; on = telegram_on; senders = senders; own = own; each = each; others = others }, refl)

-- There is no other file

no-merge : IsDeterminate telegram
no-merge = record {
  one_sender = λ c connection is. at_three (λ _ (x : Connection). length x.senders ≤ 1) (link 0 1 10) (link 1 2 20) (link 2 3 10) (omega arith) (omega arith) (omega arith) c connection is;
  standard = λ p x is. at_four (λ _ (y : Process). IsNamedStandard y) (process 0) (process 1) (process 2) (process 3) (kinds.ReadLines, refl) (kinds.Words, refl) (kinds.Fill, refl) (kinds.WriteLines, refl) p x is;
  no_balance = λ p x is. at_four (λ _ (y : Process). y.kind ≡ name_of kinds.LoadBalance → ⊥) (process 0) (process 1) (process 2) (process 3) (λ h. cc) (λ h. cc) (λ h. cc) (λ h. cc) p x is;
}

leads : (p q c : ℕ) → sends_at telegram p 0 ≡ Some c → Rattle.flow_model.specs.Plans.receives_at telegram q 0 ≡ Some c → LeadsTo telegram p q
leads p q c sends receives = record { connection = c; sends = sends; alone = λ r o is. unmerged-plan telegram no-merge c r o p 0 is sends; receives = receives }

is-telegram : IsTelegram telegram telegram_components 0 1 2 3 (texts_from 0) 12
is-telegram = record {
  reader = record { process = process 0; there = refl; here = refl };
  splitter = record { process = process 1; there = refl; here = refl };
  filler = record { process = process 2; there = refl; here = refl };
  writer = record { process = process 3; there = refl; here = refl };
  to_splitter = leads 0 1 0 refl refl;
  to_filler = leads 1 2 1 refl refl;
  to_writer = leads 2 3 2 refl refl;
}

-- Its file is the only one that the composition allows.
pub only : (wrote : ℕ → List ℕ) → Composes telegram telegram_components wrote → wrote 3 ≡ telegram_wrote 3
only wrote m =
    let a = telegram-means telegram telegram_components wrote 0 1 2 3 (texts_from 0) 12 m is-telegram in
    let b = telegram-means telegram telegram_components telegram_wrote 0 1 2 3 (texts_from 0) 12 composed.0 is-telegram in
    a.2 ∙ ap rendered_all (one_filling 12 (flat_map words_of (map text_packet (texts_from 0))) a.0 b.0 a.1 b.1) ∙ sym b.2
