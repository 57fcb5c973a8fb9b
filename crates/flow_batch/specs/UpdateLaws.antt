-- Update keeps the laws of components.
use Rattle.std.proofs.Common.{◌≡◌, ℕ, ◌==◌, Bool, true, false, List, [], length, if◌then◌else◌, Option, Some, None, refl, sym, subst, ap, ◌∙◌, arith}
use Rattle.flow_packet.specs.declared.packet.Kind.{Kind}
use Rattle.flow_packet.specs.declared.packet.Kind.TheVariants.{Normal, Open, Close}
use Rattle.flow_packet.specs.Hands.{kind_at, text_at}
use Rattle.flow_packet.specs.Held.{Held, without_packet}
use Rattle.flow_packet.specs.Edits.{ComesBy}
use Rattle.flow_component.specs.declared.Answer.{Answer}
use Rattle.flow_component.specs.declared.Answer.TheVariants as answers
use Rattle.flow_component.specs.Laws.{Lawful, Outcome, Wishes, Obeys, StaysReady, component_after}
use Rattle.flow_component.specs.Alone.{HoldsOnly}
use Rattle.flow_component.specs.Ports.{receive_first}
use Rattle.flow_component.proofs.Roots.{IsAtRoot-made, made_gone}
use Rattle.flow_component.proofs.Comings.{comes_same, comes_dropped, comes_replaced}
use Rattle.flow_component.proofs.Lone.{HoldsOnly-without, HoldsOnly-root, HoldsOnly-came, HoldsOnly-made_alone}
use Rattle.flow_batch.specs.Records.{posted}
use Rattle.flow_batch.specs.declared.records.Posting.{Posting}
use Rattle.flow_batch.specs.declared.records.Posting.TheVariants.{Applied, Refused}
use Rattle.flow_batch.specs.Ledger.{line_of}
use Rattle.flow_batch.specs.Around.{Around, Outside, InGroup, UpdateState}
use Rattle.flow_batch.specs.Update.{refuses, drops, posts, closes, comes, update_next, UpdateReady, update_shape, update_uses, update_rules}

-- The outputs that are used where the second one is connected, or isn't.
abbrev used : Bool → ℕ → Bool
used rep port = if port == 1 then rep else port == 0

-- The work from these hands leads to a lawful outcome.
abbrev IsLawful : Bool → Held → Outcome UpdateState → Type 0
IsLawful rep held outcome = Obeys update_shape (used rep) held outcome × StaysReady update_rules outcome

receives : (rep : Bool) (old held : Held) (state : UpdateState) → ComesBy old held → held.packets ≡ [] → IsLawful rep old (Wishes state held receive_first)
receives rep old held state w e = ((w, omega arith), ((λ s. e), (λ t s. HoldsOnly-came held t e s), (λ text s. HoldsOnly-made_alone held Normal text e s)))

dropped : (rep : Bool) (state : UpdateState) (held : Held) (id : ℕ) (around : Around) → HoldsOnly held id → IsLawful rep held (drops state held id around)
dropped rep state held id around h = receives rep held (without_packet held id) (record state { around = around }) (comes_dropped held id (HoldsOnly-root held id h)) (HoldsOnly-without held id h)

refused : (rep : Bool) (state : UpdateState) (held : Held) (id : ℕ) → HoldsOnly held id → IsLawful rep held (refuses rep state held id)
refused true state held id h = ((comes_same held, (refl, HoldsOnly-root held id h)), λ s. HoldsOnly-without held id h)
refused false state held id h = receives false held (without_packet held id) state (comes_dropped held id (HoldsOnly-root held id h)) (HoldsOnly-without held id h)

posted_so : (state : UpdateState) (held : Held) (id : ℕ) (key : List ℕ) (p : Posting) → HoldsOnly held id → IsLawful state.rep held (posts state held id key p)
posted_so state held id key (Applied balance) h = dropped state.rep state held id (InGroup key balance) h
posted_so state held id key Refused h = refused state.rep state held id h

closed : (state : UpdateState) (held : Held) (id : ℕ) (key : List ℕ) (balance : Option ℕ) → HoldsOnly held id → IsLawful state.rep held (closes state held id key balance)
closed state held id key None h = dropped state.rep state held id Outside h
closed state held id key (Some amount) h =
    let e = HoldsOnly-without held id h in
    let line = line_of (key, amount) in
    ((comes_replaced held id Normal line (HoldsOnly-root held id h) (omega (arith, ap length e)), (by-rep state.rep, IsAtRoot-made (without_packet held id) Normal line)), λ s. made_gone (without_packet held id) Normal line e)
  where
    by-rep : (b : Bool) → Rattle.std.proofs.Common.IsTrue (used b 0)
    by-rep b = refl

came : (state : UpdateState) (held : Held) (id : ℕ) (around : Around) (kind : Kind) → HoldsOnly held id → IsLawful state.rep held (comes state held id around kind)
came state held id Outside Normal h = refused state.rep state held id h
came state held id Outside Open h = dropped state.rep state held id (InGroup (text_at held.packets id) None) h
came state held id Outside Close h = ((comes_same held, omega arith), tt)
came state held id (InGroup key balance) Normal h = posted_so state held id key (posted state.keylen key balance (text_at held.packets id)) h
came state held id (InGroup key balance) Open h = ((comes_same held, omega arith), tt)
came state held id (InGroup key balance) Close h = closed state held id key balance h

lawful : (state : UpdateState) (held : Held) (answer : Answer) → UpdateReady state held answer → IsLawful state.rep held (update_next state held answer)
lawful state held answers.Start r = receives state.rep held held state (comes_same held) r
lawful state held (answers.Got id) r = came state held id state.around (kind_at held.packets id) r
lawful state held answers.End r = ((comes_same held, tt), λ s. r)
lawful state held answers.Sent r = receives state.rep held held state (comes_same held) r
lawful state held (answers.Level n) r = absurd r

refuses-rep : (rep : Bool) (state : UpdateState) (held : Held) (id : ℕ) → (component_after (refuses rep state held id)).rep ≡ state.rep
refuses-rep true state held id = refl
refuses-rep false state held id = refl

posts-rep : (state : UpdateState) (held : Held) (id : ℕ) (key : List ℕ) (p : Posting) → (component_after (posts state held id key p)).rep ≡ state.rep
posts-rep state held id key (Applied balance) = refl
posts-rep state held id key Refused = refuses-rep state.rep state held id

comes-rep : (state : UpdateState) (held : Held) (id : ℕ) (around : Around) (kind : Kind) → (component_after (comes state held id around kind)).rep ≡ state.rep
comes-rep state held id Outside Normal = refuses-rep state.rep state held id
comes-rep state held id Outside Open = refl
comes-rep state held id Outside Close = refl
comes-rep state held id (InGroup key balance) Normal = posts-rep state held id key (posted state.keylen key balance (text_at held.packets id))
comes-rep state held id (InGroup key balance) Open = refl
comes-rep state held id (InGroup key None) Close = refl
comes-rep state held id (InGroup key (Some amount)) Close = refl

next-rep : (state : UpdateState) (held : Held) (answer : Answer) → (component_after (update_next state held answer)).rep ≡ state.rep
next-rep state held answers.Start = refl
next-rep state held (answers.Got id) = comes-rep state held id state.around (kind_at held.packets id)
next-rep state held answers.End = refl
next-rep state held answers.Sent = refl
next-rep state held (answers.Level n) = refl

-- It keeps the laws of components.
pub update_lawful : Lawful update_rules
update_lawful = record {
  obeys = λ state held answer outcome r is. subst (Obeys update_shape (update_uses state) held) (sym is) (lawful state held answer r).0;
  stays_ready = λ state held answer outcome r is. subst (StaysReady update_rules) (sym is) (lawful state held answer r).1;
  steady = λ state held answer outcome is.
      let e = ap (λ (o : Outcome UpdateState). (component_after o).rep) is ∙ next-rep state held answer in
      record { shape = refl; outputs = ap used e };
  has_outcome = λ component held answer _. (update_next component held answer, refl);
}
