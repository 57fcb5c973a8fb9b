-- The streams of a state, as contents: what each process got and sent, and what was put on each connection.
use Rattle.std.proofs.Common.{◌≡◌, ℕ, List, [], ◌∷◌, ◌++◌, map, filter, refl, ap, ◌∙◌, Bool, true, false, cond, nat_eq}
use Rattle.std.specs.List.{flat_map}
use Rattle.flow_packet.specs.Tree.{content}
use Rattle.flow_component.specs.Happenings.{Happening, Received, Sent}
use Rattle.flow_component.specs.Runs.{content_got, content_sent, got, sent}
use Rattle.flow_plan.specs.declared.plan.Sender.{Sender}
use Rattle.flow_model.specs.States.{Entry, Past, Put, State, is_sender, got_by, sent_by, got_at, sent_at}
use Rattle.flow_model.specs.Order.{entries, entries_by}
use Rattle.flow_catalogue.specs.declared.standard.Std.{Std}
use Rattle.flow_meanings.specs.Means.{contents}
use Rattle.flow_meanings.specs.Composition.{Sending}

-- contents of entries, read off what was told
got-step : (port : ℕ) (h : Happening) → contents (got_by port h) ≡ content_got port h
got-step port (Received i t) = by (nat_eq port i)
  where
    by : (b : Bool) → contents (cond b (Rattle.flow_model.specs.States.entry_of t ∷ []) []) ≡ cond b (content t ∷ []) []
    by true = refl
    by false = refl
got-step port h = refl

sent-step : (port : ℕ) (h : Happening) → contents (sent_by port h) ≡ content_sent port h
sent-step port (Sent o t) = by (nat_eq port o)
  where
    by : (b : Bool) → contents (cond b (Rattle.flow_model.specs.States.entry_of t ∷ []) []) ≡ cond b (content t ∷ []) []
    by true = refl
    by false = refl
sent-step port h = refl

map-flat : {A B C : Type 0} (g : B → C) (f : A → List B) (k : A → List C) → ((x : A) → map g (f x) ≡ k x) → (xs : List A) → map g (flat_map f xs) ≡ flat_map k xs
map-flat g f k same [] = refl
map-flat g f k same (x ∷ xs) = Rattle.std.proofs.lemmas.List.map-append g (f x) (flat_map f xs) ∙ (λ i. same x i ++ map-flat g f k same xs i)

-- What a process got at an input, without ids, is what its component was told there.
pub got-contents : (past : Past) (p port : ℕ) → contents (got_at past p port) ≡ got port (past.told p)
got-contents past p port = map-flat (λ (e : Entry). e.content) (got_by port) (content_got port) (got-step port) (past.told p)

-- What a process sent at an output, without ids, is what its component was told that was sent there.
pub sent-contents : (past : Past) (p port : ℕ) → contents (sent_at past p port) ≡ sent port (past.told p)
sent-contents past p port = map-flat (λ (e : Entry). e.content) (sent_by port) (content_sent port) (sent-step port) (past.told p)

-- the packets of the connections, as they were put
abbrev pub sending_of : Put → Sending
sending_of put = record { sender = put.sender; content = put.entry.content }

-- What was put on a connection, each packet with its sender.
abbrev pub put_on : State Std → ℕ → List Sending
put_on s c = map sending_of (s.past.put c)

-- The packets that were put on a connection, without ids and senders, are the contents of what was put.
pub all-contents : (puts : List Put) → map (λ (sending : Sending). sending.content) (map sending_of puts) ≡ contents (entries puts)
all-contents [] = refl
all-contents (put ∷ puts) = ap (λ ts. put.entry.content ∷ ts) (all-contents puts)

-- The same of one sender's packets.
pub own-contents : (sender : Sender) (puts : List Put) → map (λ (sending : Sending). sending.content) (filter (λ (sending : Sending). is_sender sending.sender sender) (map sending_of puts)) ≡ contents (entries_by sender puts)
own-contents sender [] = refl
own-contents sender (put ∷ puts) = by (is_sender put.sender sender) (own-contents sender puts)
  where
    by : (b : Bool) → map (λ (sending : Sending). sending.content) (filter (λ (sending : Sending). is_sender sending.sender sender) (map sending_of puts)) ≡ contents (entries_by sender puts)
        → map (λ (sending : Sending). sending.content) (cond b (sending_of put ∷ filter (λ (sending : Sending). is_sender sending.sender sender) (map sending_of puts)) (filter (λ (sending : Sending). is_sender sending.sender sender) (map sending_of puts)))
        ≡ contents (entries (cond b (put ∷ filter (λ (put : Put). is_sender put.sender sender) puts) (filter (λ (put : Put). is_sender put.sender sender) puts)))
    by true rest = ap (λ ts. put.entry.content ∷ ts) rest
    by false rest = rest
