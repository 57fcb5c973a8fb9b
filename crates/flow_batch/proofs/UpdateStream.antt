-- What Update makes of its stream.
use Rattle.std.proofs.Common.{◌≡◌, ℕ, ◌<◌, ◌==◌, Bool, true, false, List, [], ◌∷◌, ◌++◌, Option, Some, None, refl, sym, ap, ◌∙◌, nat_eq, if◌then◌else◌}
use Rattle.flow_packet.specs.declared.packet.Kind.{Kind}
use Rattle.flow_packet.specs.declared.packet.Kind.TheVariants.{Normal, Open, Close}
use Rattle.flow_packet.specs.Tree.{Tree, content, id_of, kind_of, text_of}
use Rattle.flow_packet.specs.Hands.{packet_at, kind_at, text_at}
use Rattle.flow_packet.specs.Held.{Held, without_packet}
use Rattle.flow_component.specs.declared.Wish.{Wish}
use Rattle.flow_component.specs.declared.Wish.TheVariants as wishes
use Rattle.flow_component.specs.Laws.{Outcome, Wishes, Fails, IsAllowed}
use Rattle.flow_component.specs.Alone.{HoldsOnly}
use Rattle.flow_component.specs.Ports.{receive_first}
use Rattle.flow_component.specs.Happenings.{Happening, Started, Received, Ended, Sent, Learned, answer_of}
use Rattle.flow_component.specs.Runs.{Poise, fresh, Steps, Runs, content_got, content_sent, got, sent}
use Rattle.flow_component.proofs.Lone.{HoldsOnly-packet_at, HoldsOnly-text, HoldsOnly-kind, HoldsOnly-end, HoldsOnly-without}
use Rattle.flow_component.proofs.Streams.{Comes-packets, contents_in, content-kind, content-text, made_at, port_below_one}
use Rattle.flow_batch.specs.declared.records.Posting.{Posting}
use Rattle.flow_batch.specs.declared.records.Posting.TheVariants.{Applied, Refused}
use Rattle.flow_batch.specs.Records.{posted, balance_after, refused_by}
use Rattle.flow_batch.specs.Ledger.{line_of}
use Rattle.flow_batch.specs.Around.{Around, Outside, InGroup, UpdateState}
use Rattle.flow_batch.specs.Update.{refuses, posts, closes, comes, update_shape, update_uses, update_rules}
use Rattle.flow_batch.specs.UpdateLaws.{update_lawful}
use Rattle.flow_batch.specs.Updated.{around_after, made_with, refused_with, new_masters, refused_packets, fresh_update, UpdateMeaning}

-- the packet that is on its way to an output
abbrev owes : ℕ → Held → Wish → List Tree
owes output held (wishes.Receive port) = []
owes output held (wishes.Send port id) = if output == port.0 then contents_in (packet_at held.packets id) else []
owes output held (wishes.Level port) = []
owes output held wishes.Deactivate = []

-- what is still to be sent to the first output, where these packets are still to come
abbrev masters_of : UpdateState → List Tree → List Tree
masters_of state zs = new_masters state.keylen state.around zs

-- and to the second one
abbrev refusals_of : UpdateState → List Tree → List Tree
refusals_of state zs = if state.rep then refused_packets state.keylen state.around zs else []

abbrev ahead_out : List Tree → Outcome UpdateState → List Tree
ahead_out zs (Wishes state held wish) = owes 0 held wish ++ masters_of state zs
ahead_out zs (Fails state held cause) = []

abbrev ahead_rep : List Tree → Outcome UpdateState → List Tree
ahead_rep zs (Wishes state held wish) = owes 1 held wish ++ refusals_of state zs
ahead_rep zs (Fails state held cause) = []

abbrev outcome_of : Poise UpdateState → Outcome UpdateState
outcome_of m = Wishes m.component m.held m.wish

abbrev at : ℕ → Bool → Around → UpdateState
at keylen rep around = record { keylen = keylen; rep = rep; around = around }

-- what is ahead of an outcome: these new masters and these refused packets
abbrev Ahead : List Tree → Outcome UpdateState → Bool → List Tree → List Tree → Type 0
Ahead zs outcome rep new refused = (ahead_out zs outcome ≡ new) × (ahead_rep zs outcome ≡ (if rep then refused else []))

ahead-refuses : (k : ℕ) (rep : Bool) (around : Around) (held : Held) (t : Tree) (zs : List Tree) → packet_at held.packets (id_of t) ≡ Some t
    → Ahead zs (refuses rep (at k rep around) held (id_of t)) rep (new_masters k around zs) (content t ∷ refused_packets k around zs)
ahead-refuses k true around held t zs found = (refl, ap (λ (o : Option Tree). contents_in o ++ refused_packets k around zs) found)
ahead-refuses k false around held t zs found = (refl, refl)

ahead-posts : (k : ℕ) (rep : Bool) (key : List ℕ) (balance : Option ℕ) (held : Held) (t : Tree) (zs : List Tree) (p : Posting) → packet_at held.packets (id_of t) ≡ Some t
    → Ahead zs (posts (at k rep (InGroup key balance)) held (id_of t) key p) rep (new_masters k (InGroup key (balance_after balance p)) zs) (refused_by (content t) p ++ refused_packets k (InGroup key (balance_after balance p)) zs)
ahead-posts k rep key balance held t zs (Applied b) found = (refl, refl)
ahead-posts k rep key balance held t zs Refused found = ahead-refuses k rep (InGroup key balance) held t zs found

ahead-closes : (k : ℕ) (rep : Bool) (key : List ℕ) (balance : Option ℕ) (held : Held) (id : ℕ) (zs : List Tree) → HoldsOnly held id
    → Ahead zs (closes (at k rep (InGroup key balance)) held id key balance) rep (made_with (InGroup key balance) Close ++ new_masters k Outside zs) (refused_packets k Outside zs)
ahead-closes k rep key None held id zs h = (refl, refl)
ahead-closes k rep key (Some amount) held id zs h = (ap (λ (us : List Tree). us ++ new_masters k Outside zs) (made_at (without_packet held id) (line_of (key, amount)) (HoldsOnly-without held id h)), refl)

-- a packet came
ahead-comes : (k : ℕ) (rep : Bool) (around : Around) (kind : Kind) (m : Poise UpdateState) (held : Held) (t : Tree) (zs : List Tree) (h : HoldsOnly held (id_of t)) → t ≡ h.packet → outcome_of m ≡ comes (at k rep around) held (id_of t) around kind
    → Ahead zs (outcome_of m) rep (made_with around kind ++ new_masters k (around_after k around (content t) kind) zs) (refused_with k around (content t) kind ++ refused_packets k (around_after k around (content t) kind) zs)
ahead-comes k rep around kind m held t zs h e comes_to = by around kind comes_to
  where
    found : packet_at held.packets (id_of t) ≡ Some t
    found = HoldsOnly-packet_at held (id_of t) h ∙ ap Some (sym e)

    text : text_at held.packets (id_of t) ≡ text_of (content t)
    text = HoldsOnly-text held (id_of t) h ∙ ap text_of (sym e) ∙ sym (content-text t)

    moved : (outcome : Outcome UpdateState) (new refused : List Tree) → outcome_of m ≡ outcome → Ahead zs outcome rep new refused → Ahead zs (outcome_of m) rep new refused
    moved outcome new refused is a = (ap (ahead_out zs) is ∙ a.0, ap (ahead_rep zs) is ∙ a.1)

    by : (around : Around) (kind : Kind) → outcome_of m ≡ comes (at k rep around) held (id_of t) around kind
        → Ahead zs (outcome_of m) rep (made_with around kind ++ new_masters k (around_after k around (content t) kind) zs) (refused_with k around (content t) kind ++ refused_packets k (around_after k around (content t) kind) zs)
    by Outside Normal is = moved (refuses rep (at k rep Outside) held (id_of t)) (new_masters k Outside zs) (content t ∷ refused_packets k Outside zs) is (ahead-refuses k rep Outside held t zs found)
    by Outside Open is = (ap (ahead_out zs) is ∙ ap (λ (key : List ℕ). new_masters k (InGroup key None) zs) text, ap (ahead_rep zs) is ∙ ap (λ (key : List ℕ). if rep then refused_packets k (InGroup key None) zs else []) text)
    by Outside Close is = absurd (cc)
    by (InGroup key balance) Normal is =
        let p = posted k key balance (text_of (content t)) in
        moved (posts (at k rep (InGroup key balance)) held (id_of t) key p) (new_masters k (InGroup key (balance_after balance p)) zs) (refused_by (content t) p ++ refused_packets k (InGroup key (balance_after balance p)) zs)
        (is ∙ ap (λ (x : List ℕ). posts (at k rep (InGroup key balance)) held (id_of t) key (posted k key balance x)) text) (ahead-posts k rep key balance held t zs p found)
    by (InGroup key balance) Open is = absurd (cc)
    by (InGroup key balance) Close is =
        moved (closes (at k rep (InGroup key balance)) held (id_of t) key balance) (made_with (InGroup key balance) Close ++ new_masters k Outside zs) (refused_packets k Outside zs) is (ahead-closes k rep key balance held (id_of t) zs h)

-- What was to be sent and what comes is what is sent and what is to be sent then.
abbrev Goes : Poise UpdateState → Happening → Poise UpdateState → List Tree → Type 0
Goes p e m zs =
    (owes 0 p.held p.wish ++ masters_of p.component (content_got 0 e ++ zs) ≡ content_sent 0 e ++ (owes 0 m.held m.wish ++ masters_of m.component zs))
    × (owes 1 p.held p.wish ++ refusals_of p.component (content_got 0 e ++ zs) ≡ content_sent 1 e ++ (owes 1 m.held m.wish ++ refusals_of m.component zs))

-- nothing came, and nothing was sent
still : (p m : Poise UpdateState) (held : Held) (wish : Wish) (zs : List Tree) → ((output : ℕ) → owes output p.held p.wish ≡ []) → outcome_of m ≡ Wishes p.component held wish → ((output : ℕ) → owes output held wish ≡ [])
    → (owes 0 p.held p.wish ++ masters_of p.component zs ≡ owes 0 m.held m.wish ++ masters_of m.component zs) × (owes 1 p.held p.wish ++ refusals_of p.component zs ≡ owes 1 m.held m.wish ++ refusals_of m.component zs)
still p m held wish zs none is later = (
  ap (λ (us : List Tree). us ++ masters_of p.component zs) (none 0 ∙ sym (later 0)) ∙ sym (ap (ahead_out zs) is),
  ap (λ (us : List Tree). us ++ refusals_of p.component zs) (none 1 ∙ sym (later 1)) ∙ sym (ap (ahead_rep zs) is),
)

-- It receives at its one input alone.
abbrev OneInput : Poise UpdateState → Type 0
OneInput p = (port : ℕ) → p.wish ≡ wishes.Receive (record { 0 = port }) → port < 1

one-input : (p : Poise UpdateState) (e : Happening) (m : Poise UpdateState) → Steps update_rules p e m → OneInput m
one-input p e m s port is =
    let allowed : IsAllowed update_shape (update_uses p.component) m.held m.wish = (update_lawful.obeys p.component s.held (answer_of e) (outcome_of m) s.is_ready s.comes_to).1 in
    rw is at allowed

step : (p : Poise UpdateState) (e : Happening) (m : Poise UpdateState) (zs : List Tree) → OneInput p → Steps update_rules p e m → Goes p e m zs
step p Started m zs g s = still p m s.held receive_first zs (λ o. ap (owes o p.held) s.grants.0) s.comes_to (λ o. refl)
step p (Received port t) m zs g s =
    let h = s.is_ready in
    let z : nat_eq 0 port ≡ true = port_below_one port (g port s.grants.0) in
    let e : t ≡ h.packet = HoldsOnly-end s.held p.held.packets t (Comes-packets p.held t s.held s.grants.1) h in
    let kind : kind_at s.held.packets (id_of t) ≡ kind_of (content t) = HoldsOnly-kind s.held (id_of t) h ∙ ap kind_of (sym e) ∙ sym (content-kind t) in
    let a = ahead-comes p.component.keylen p.component.rep p.component.around (kind_of (content t)) m s.held t zs h e (s.comes_to ∙ ap (comes p.component s.held (id_of t) p.component.around) kind) in
    let w0 : owes 0 p.held p.wish ≡ [] = ap (owes 0 p.held) s.grants.0 in
    let w1 : owes 1 p.held p.wish ≡ [] = ap (owes 1 p.held) s.grants.0 in
    rw (z, w0, w1) (sym a.0, sym a.1)
step p (Ended port) m zs g s = still p m s.held wishes.Deactivate zs (λ o. ap (owes o p.held) s.grants.0) s.comes_to (λ o. refl)
step p (Sent port t) m zs g s = (
  one 0 ∙ ap (λ (us : List Tree). content_sent 0 (Sent port t) ++ us) (sym (ap (ahead_out zs) s.comes_to)),
  (λ i. sent-now 1 i ++ refusals_of p.component zs) ∙ ap (λ (us : List Tree). content_sent 1 (Sent port t) ++ us) (sym (ap (ahead_rep zs) s.comes_to)),
)
  where
    sent-now : (output : ℕ) → owes output p.held p.wish ≡ content_sent output (Sent port t)
    sent-now output = ap (owes output p.held) s.grants.0 ∙ ap (λ (o : Option Tree). if output == port then contents_in o else []) s.grants.1

    one : (output : ℕ) → owes output p.held p.wish ++ masters_of p.component zs ≡ content_sent output (Sent port t) ++ masters_of p.component zs
    one output = ap (λ (us : List Tree). us ++ masters_of p.component zs) (sent-now output)
step p (Learned port level) m zs g s = absurd s.is_ready

abbrev nothing : List Tree
nothing = []

nothing-left : (rep : Bool) → (if rep then nothing else nothing) ≡ nothing
nothing-left true = refl
nothing-left false = refl

run : (es : List Happening) (p q : Poise UpdateState) → OneInput p → Runs update_rules p es q → q.wish ≡ wishes.Deactivate
    → (owes 0 p.held p.wish ++ masters_of p.component (got 0 es) ≡ sent 0 es) × (owes 1 p.held p.wish ++ refusals_of p.component (got 0 es) ≡ sent 1 es)
run [] p q g r d =
    let w : p.wish ≡ wishes.Deactivate = ap (λ (u : Poise UpdateState). u.wish) (sym r) ∙ d in
    (ap (λ (x : Wish). owes 0 p.held x ++ []) w, (λ i. owes 1 p.held (w i) ++ nothing-left p.component.rep i))
run (e ∷ es) p q g r d =
    let m = r.0 in
    let s = r.1 in
    let t = step p e m (got 0 es) g s in
    let l = run es m q (one-input p e m s) r.2 d in
    (t.0 ∙ ap (λ (us : List Tree). content_sent 0 e ++ us) l.0, t.1 ∙ ap (λ (us : List Tree). content_sent 1 e ++ us) l.1)

-- Over a whole run it sends what its meaning makes of what it got.
pub update_meaning : UpdateMeaning
update_meaning keylen rep told ended =
    let r = run told (fresh (fresh_update keylen rep) ended.maker) ended.last (λ port is. absurd (cc)) ended.runs ended.idle in
    record {
      masters = sym r.0;
      refusals = λ is. sym r.1 ∙ ap (λ (b : Bool). if b then refused_packets keylen Outside (got 0 told) else []) is;
      silent = λ is. sym r.1 ∙ ap (λ (b : Bool). if b then refused_packets keylen Outside (got 0 told) else []) is;
    }
