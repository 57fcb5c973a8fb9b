-- What was got and sent, read off what happened to each process: how a turn changes it.
use Rattle.std.proofs.Common.{◌≡◌, ℕ, ◌==◌, ◌&&◌, Bool, true, false, List, [], ◌∷◌, ◌++◌, if◌then◌else◌, refl, ap, ◌∙◌, sym, append-nil, append_assoc, nat_eq}
use Rattle.std.specs.List.{flat_map}
use Rattle.flow_packet.specs.declared.packet.Kind.TheVariants as kinds
use Rattle.flow_packet.specs.Tree.{packet_of}
use Rattle.flow_packet.specs.Held.{next_id}
use Rattle.flow_model.specs.States.{Process, Past, Put, Entry, entry_of, got_by, got_at, sent_by, sent_at}
use Rattle.flow_model.specs.Events.{Event, Gets, Takes_text, Sends}
use Rattle.flow_model.specs.Turns.{heard, put_after, past_after}

-- by process and port what was sent and what was got, and by connection what was put
pub record Memory : Type 0 where
  pub sent : ℕ → ℕ → List Entry
  pub got : ℕ → ℕ → List Entry
  pub put : ℕ → List Put

-- What of the past is remembered by numbers alone.
abbrev pub memory_of : Past → Memory
memory_of past = record { sent = sent_at past; got = got_at past; put = past.put }

-- what is remembered at process i and port k grows by x
abbrev pub add_at_port : {A : Type 0} → ℕ → ℕ → A → (ℕ → ℕ → List A) → ℕ → ℕ → List A
add_at_port i k x f j l = if (j == i) && (l == k) then f j l ++ x ∷ [] else f j l

abbrev pub got_then : {K : Type 0} → (ℕ → ℕ → List Entry) → ℕ → Process K → Event → ℕ → ℕ → List Entry
got_then got p x (Gets port c packet) = add_at_port p port (entry_of packet) got
got_then got p x (Takes_text port text) = add_at_port p port (entry_of (packet_of (next_id x.held) kinds.Normal text [])) got
got_then got p x event = got

abbrev pub sent_then : {K : Type 0} → (ℕ → ℕ → List Entry) → ℕ → Process K → Event → ℕ → ℕ → List Entry
sent_then sent p x (Sends port c packet) = add_at_port p port (entry_of packet) sent
sent_then sent p x event = sent

-- what is remembered after a turn of process p
abbrev pub memory_after : {K : Type 0} → Memory → ℕ → Process K → Event → Memory
memory_after memory p x event = record { sent = sent_then memory.sent p x event; got = got_then memory.got p x event; put = put_after memory.put p event }

flat_map-push : {A B : Type 0} (f : A → List B) (xs ys : List A) → flat_map f (xs ++ ys) ≡ flat_map f xs ++ flat_map f ys
flat_map-push f [] ys = refl
flat_map-push f (x ∷ xs) ys = ap (λ zs. f x ++ zs) (flat_map-push f xs ys) ∙ sym (append_assoc (f x) (flat_map f xs) (flat_map f ys))

-- what is read off a list that grows for one process
grows : {A B : Type 0} (f : A → List B) (b : Bool) (xs ys : List A) → flat_map f (if b then xs ++ ys else xs) ≡ (if b then flat_map f xs ++ flat_map f ys else flat_map f xs)
grows f true xs ys = flat_map-push f xs ys
grows f false xs ys = refl

-- nothing more is read off
none_more : {B : Type 0} (b : Bool) (zs : List B) → (if b then zs ++ [] else zs) ≡ zs
none_more true zs = append-nil zs
none_more false zs = refl

-- one more is read off, at one port
one_more : {B : Type 0} (b c : Bool) (zs : List B) (z : B) → (if b then zs ++ ((if c then z ∷ [] else []) ++ []) else zs) ≡ (if b && c then zs ++ z ∷ [] else zs)
one_more true true zs z = refl
one_more true false zs z = append-nil zs
one_more false c zs z = refl

-- what was got after a turn
pub got_at-turn : {K : Type 0} (past : Past) (p : ℕ) (x : Process K) (e : Event) (q port : ℕ) → got_at (past_after past p x e) q port ≡ got_then (got_at past) p x e q port
got_at-turn past p x e q port = grows (got_by port) (nat_eq q p) (past.told q) (heard x e) ∙ by e
  where
    by : (e : Event) → (if nat_eq q p then got_at past q port ++ flat_map (got_by port) (heard x e) else got_at past q port) ≡ got_then (got_at past) p x e q port
    by (Gets i c packet) = one_more (nat_eq q p) (nat_eq port i) (got_at past q port) (entry_of packet)
    by (Takes_text i text) = one_more (nat_eq q p) (nat_eq port i) (got_at past q port) (entry_of (packet_of (next_id x.held) kinds.Normal text []))
    by e = none_more (nat_eq q p) (got_at past q port)

-- what was sent after a turn
pub sent_at-turn : {K : Type 0} (past : Past) (p : ℕ) (x : Process K) (e : Event) (q port : ℕ) → sent_at (past_after past p x e) q port ≡ sent_then (sent_at past) p x e q port
sent_at-turn past p x e q port = grows (sent_by port) (nat_eq q p) (past.told q) (heard x e) ∙ by e
  where
    by : (e : Event) → (if nat_eq q p then sent_at past q port ++ flat_map (sent_by port) (heard x e) else sent_at past q port) ≡ sent_then (sent_at past) p x e q port
    by (Sends i c packet) = one_more (nat_eq q p) (nat_eq port i) (sent_at past q port) (entry_of packet)
    by e = none_more (nat_eq q p) (sent_at past q port)
