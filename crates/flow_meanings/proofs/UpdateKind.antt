-- What is known of Update.
use Rattle.std.proofs.Common.{◌≡◌, ◌≢◌, ℕ, zero, suc, ◌<◌, Bool, true, false, List, [], Option, Some, None, refl, sym, ap, ◌∙◌, subst, inl, inr, arith}
use Rattle.flow_packet.specs.Tree.{Tree, id_of}
use Rattle.flow_packet.specs.Held.{Held}
use Rattle.flow_packet.specs.Hands.{kind_at, text_at}
use Rattle.flow_packet.specs.declared.packet.Kind.{Kind}
use Rattle.flow_packet.specs.declared.packet.Kind.TheVariants.{Normal, Open, Close}
use Rattle.flow_component.specs.Happenings.{Happening}
use Rattle.flow_component.specs.Runs.{EndedRun, HeardEnd}
use Rattle.flow_batch.specs.declared.records.Posting.{Posting}
use Rattle.flow_batch.specs.declared.records.Posting.TheVariants.{Applied, Refused}
use Rattle.flow_batch.specs.Records.{posted}
use Rattle.flow_batch.specs.Around.{Around, Outside, InGroup, UpdateState}
use Rattle.flow_batch.specs.Update.{refuses, posts, closes, comes, update_rules}
use Rattle.flow_batch.specs.UpdateLaws.{update_lawful}
use Rattle.flow_batch.specs.Updated.{fresh_update, new_masters, refused_packets, IsUpdated}
use Rattle.flow_batch.proofs.UpdateStream.{update_meaning}
use Rattle.flow_catalogue.specs.declared.standard.Std.{Std}
use Rattle.flow_catalogue.specs.declared.standard.Std.TheVariants as components
use Rattle.flow_catalogue.specs.Components.{update_kind}
use Rattle.flow_model.specs.States.{Process}
use Rattle.flow_meanings.specs.Means.{bytes_of}
use Rattle.flow_meanings.proofs.EndHeard.{GoesOn, Never, end-heard}
use Rattle.flow_meanings.proofs.Over.{Over, Own, own, single-texts}
use Rattle.flow_meanings.proofs.Facts.{Facts}

refuses-on : (rep : Bool) (state : UpdateState) (held : Held) (id : ℕ) → GoesOn (refuses rep state held id)
refuses-on true state held id = λ d. cc
refuses-on false state held id = λ d. cc

posts-on : (state : UpdateState) (held : Held) (id : ℕ) (key : List ℕ) (p : Posting) → GoesOn (posts state held id key p)
posts-on state held id key (Applied balance) = λ d. cc
posts-on state held id key Refused = refuses-on state.rep state held id

closes-on : (state : UpdateState) (held : Held) (id : ℕ) (key : List ℕ) (balance : Option ℕ) → GoesOn (closes state held id key balance)
closes-on state held id key None = λ d. cc
closes-on state held id key (Some amount) = λ d. cc

-- it goes on after each packet
comes-on : (state : UpdateState) (held : Held) (id : ℕ) (around : Around) (kind : Kind) → GoesOn (comes state held id around kind)
comes-on state held id Outside Normal = refuses-on state.rep state held id
comes-on state held id Outside Open = λ d. cc
comes-on state held id Outside Close = tt
comes-on state held id (InGroup key balance) Normal = posts-on state held id key (posted state.keylen key balance (text_at held.packets id))
comes-on state held id (InGroup key balance) Open = tt
comes-on state held id (InGroup key balance) Close = closes-on state held id key balance

-- An Update that has run and ended has heard the end of its input.
update-hears : (state : UpdateState) (told : List Happening) → EndedRun update_rules state told → told ≢ [] → HeardEnd 0 told
update-hears state told run some =
    end-heard update_rules (λ _. refl) update_lawful Never
    (λ p q s l. elim l [ inl d ↦ subst GoesOn (sym s.comes_to) (λ e. cc) d | inr n ↦ n ])
    (λ p port t q s l. elim l [ inl d ↦ subst GoesOn (sym s.comes_to) (comes-on p.component s.held (id_of t) p.component.around (kind_at s.held.packets (id_of t))) d | inr n ↦ n ])
    (λ p port t q s l. elim l [ inl d ↦ subst GoesOn (sym s.comes_to) (λ e. cc) d | inr n ↦ n ])
    (λ p port level q s l. s.is_ready) state told run (λ n. n) some

update-own : (state : UpdateState) (p : ℕ) (told : List Happening) (x : Process Std) → Over (components.Update state) p told x → Own components.Update update_rules state told x
update-own state p told x over = own components.Update update_kind (λ k. refl) state p told x over

update-run : (state : UpdateState) (p : ℕ) (told : List Happening) (x : Process Std) → state ≡ fresh_update state.keylen state.rep → Over (components.Update state) p told x → EndedRun update_rules (fresh_update state.keylen state.rep) told
update-run state p told x first over = subst (λ (w : UpdateState). EndedRun update_rules w told) first (update-own state p told x over).run

-- the streams of an Update, where its second output is connected or isn't
updated-change : (keylen : ℕ) (rep : Bool) (x x' y y' z z' : List Tree) → x ≡ x' → y ≡ y' → (rep ≡ true → z ≡ z') → (z ≡ [] → z' ≡ []) → IsUpdated keylen rep x y z → IsUpdated keylen rep x' y' z'
updated-change keylen rep x x' y y' z z' e f g h m = record {
  masters = sym f ∙ m.masters ∙ ap (new_masters keylen Outside) e;
  refusals = λ c. sym (g c) ∙ m.refusals c ∙ ap (refused_packets keylen Outside) e;
  silent = λ c. h (m.silent c);
}

refused-same : (keylen : ℕ) (rep : Bool) (x x' y y' z z' : List Tree) → IsUpdated keylen rep x y z → IsUpdated keylen rep x' y' z' → x ≡ x' → z ≡ z'
refused-same keylen true x x' y y' z z' m n e = m.refusals refl ∙ ap (refused_packets keylen Outside) e ∙ sym (n.refusals refl)
refused-same keylen false x x' y y' z z' m n e = m.silent refl ∙ sym (n.silent refl)

-- The facts of Update.
pub update-facts : (state : UpdateState) → Facts (components.Update state)
update-facts state = record {
  means = λ p told x first over. update_meaning state.keylen state.rep told (update-run state p told x first over);
  texts = λ p told x first over some. single-texts (components.Update state) p told x over refl some (update-hears state told (update-own state p told x over).run some);
  change = λ w w' x x' y y' same m. updated-change state.keylen state.rep (x 0) (x' 0) (y 0) (y' 0) (y 1) (y' 1) (same.inputs 0 (omega arith)) (same.outputs 0 refl) (λ c. same.outputs 1 c) (λ none. same.silent 1 none) m;
  wrote_none = λ p told x over none. ap bytes_of (update-own state p told x over).is;
  settles = λ s w w' x x' y y' ins m n. one x x' y y' ins m n;
}
  where
    one : (x x' y y' : ℕ → List Tree) → ((i : ℕ) → x i ≡ x' i) → IsUpdated state.keylen state.rep (x 0) (y 0) (y 1) → IsUpdated state.keylen state.rep (x' 0) (y' 0) (y' 1) → (o : ℕ) → o < 2 → y o ≡ y' o
    one x x' y y' ins m n zero l = m.masters ∙ ap (new_masters state.keylen Outside) (ins 0) ∙ sym n.masters
    one x x' y y' ins m n (suc zero) l = refused-same state.keylen state.rep (x 0) (x' 0) (y 0) (y' 0) (y 1) (y' 1) m n (ins 0)
    one x x' y y' ins m n (suc (suc o)) l = absurd (omega arith)
