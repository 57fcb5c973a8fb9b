-- What a net shows of a state that it stands for.
use Rattle.std.proofs.Common.{◌≡◌, ℕ, ◌+◌, List, [], ◌∷◌, map, Option, Some, suc, zero, refl, ap, sym, ◌∙◌, arith, slice_get}
use Rattle.flow_model.specs.States.{Process, Channel, Put, State}
use Rattle.flow_model.specs.Events.{event_from, event_of}
use Rattle.flow_model.specs.Stands.{BodyShown, ChannelShown, show_channel, bodies_from, channels_from, look_shown, StandsForOpen}
use Rattle.flow_model.proofs.Stands.{event-shown}
use Rattle.flow_machine.specs.Values.{BodyValue, NetValue, shown_body, shown_net}

-- A member of a mapped list is the mapped member.
pub get-map : {A B : Type 0} (f : A → B) (xs : List A) (i : ℕ) (x : A) → slice_get xs i ≡ Some x → slice_get (map f xs) i ≡ Some (f x)
get-map f [] i x is = absurd (cc)
get-map {A} {B} f (y ∷ xs) zero x is = let h : y ≡ x = cc in ap (λ (z : A). let w : Option B = Some (f z) in w) h
get-map f (y ∷ xs) (suc i) x is = get-map f xs i x is

-- The processes that bodies show are theirs.
pub processes-shown : {K : Type 0} (dropped : ℕ → List ℕ) (k : ℕ) (xs : List (Process K)) → map (λ (b : BodyShown K). b.process) (bodies_from dropped k xs) ≡ xs
processes-shown dropped k [] = refl
processes-shown dropped k (x ∷ xs) = ap (λ ys. x ∷ ys) (processes-shown dropped (k + 1) xs)

-- the process of a body, in a state that the net stands for
pub process-in : {K : Type 0} (net : NetValue K) (s : State K) (p : ℕ) (b : BodyValue K) → StandsForOpen (shown_net net) s → slice_get net.bodies p ≡ Some b → slice_get s.kept.processes p ≡ Some b.process
process-in {K} net s p b stands there =
    let all : map shown_body net.bodies ≡ bodies_from s.past.dropped 0 s.kept.processes = ap (λ n. n.bodies) stands in
    let same : map (λ (x : BodyShown K). x.process) (map shown_body net.bodies) ≡ s.kept.processes = ap (map (λ (x : BodyShown K). x.process)) all ∙ processes-shown s.past.dropped 0 s.kept.processes in
    ap (λ xs. slice_get xs p) (sym same) ∙ get-map (λ (x : BodyShown K). x.process) (map shown_body net.bodies) p (shown_body b) (get-map shown_body net.bodies p b there)

channel-from : (put : ℕ → List Put) (k : ℕ) (xs : List Channel) (c : ℕ) (channel : ChannelShown) → slice_get (channels_from put k xs) c ≡ Some channel → (x : Channel) × (slice_get xs c ≡ Some x) × (channel ≡ show_channel put (k + c) x)
channel-from put k [] c channel is = absurd (cc)
channel-from put k (x ∷ xs) zero channel is = let n : k ≡ k + 0 = omega arith in (x, refl, (let h : show_channel put k x ≡ channel = cc in sym h ∙ ap (λ m. show_channel put m x) n))
channel-from put k (x ∷ xs) (suc c) channel is =
    let n : k + 1 + c ≡ k + suc c = omega arith in
    let r = channel-from put (k + 1) xs c channel is in
    (r.0, r.1, r.2 ∙ ap (λ m. show_channel put m r.0) n)

-- a connection of the net, in a state that the net stands for
pub channel-in : {K : Type 0} (net : NetValue K) (s : State K) (c : ℕ) (channel : ChannelShown) → StandsForOpen (shown_net net) s → slice_get net.channels c ≡ Some channel → (x : Channel) × (slice_get s.kept.channels c ≡ Some x) × (channel ≡ show_channel s.past.put c x)
channel-in net s c channel stands there =
    let all : net.channels ≡ channels_from s.past.put 0 s.kept.channels = ap (λ n. n.channels) stands in
    let r = channel-from s.past.put 0 s.kept.channels c channel (ap (λ xs. slice_get xs c) (sym all) ∙ there) in
    let n : 0 + c ≡ c = omega arith in
    (r.0, r.1, r.2 ∙ ap (λ m. show_channel s.past.put m r.0) n)

-- the state's turns are those that the net shows
pub happens-in : {K : Type 0} (net : NetValue K) (s : State K) (x : Process K) (n : ℕ) → StandsForOpen (shown_net net) s → event_from (map look_shown net.channels) x n ≡ event_of s.kept.channels x n
happens-in net s x n stands = ap (λ t. event_from (map look_shown t.channels) x n) stands ∙ event-shown s x n
