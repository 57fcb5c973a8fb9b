-- What Match makes of its stream.
use Rattle.std.proofs.Common.{◌≡◌, ℕ, ◌<◌, ◌==◌, Bool, true, false, not, List, [], ◌∷◌, ◌++◌, Option, Some, refl, sym, ap, ◌∙◌, nat_eq, if◌then◌else◌}
use Rattle.std.specs.List.{filter}
use Rattle.flow_packet.specs.declared.packet.Kind.{Kind}
use Rattle.flow_packet.specs.declared.packet.Kind.TheVariants.{Normal, Open, Close}
use Rattle.flow_packet.specs.Tree.{Tree, content, id_of, kind_of, text_of}
use Rattle.flow_packet.specs.Hands.{packet_at, kind_at, text_at}
use Rattle.flow_packet.specs.Held.{Held}
use Rattle.flow_component.specs.declared.Wish.{Wish}
use Rattle.flow_component.specs.declared.Wish.TheVariants as wishes
use Rattle.flow_component.specs.Laws.{Outcome, Wishes, Fails, IsAllowed}
use Rattle.flow_component.specs.Alone.{HoldsOnly}
use Rattle.flow_component.specs.Ports.{receive_first}
use Rattle.flow_component.specs.Happenings.{Happening, Started, Received, Ended, Sent, Learned, answer_of}
use Rattle.flow_component.specs.Runs.{Poise, fresh, Steps, Runs, content_got, content_sent, got, sent}
use Rattle.flow_component.proofs.Lone.{HoldsOnly-packet_at, HoldsOnly-text, HoldsOnly-kind, HoldsOnly-end}
use Rattle.flow_component.proofs.Streams.{Comes-packets, contents_in, content-kind, content-text, port_below_one}
use Rattle.flow_pattern.specs.Pattern.{matches}
use Rattle.flow_match.specs.Match.{MatchState, rejects_packet, judges, comes, match_shape, match_uses, match_rules}
use Rattle.flow_match.specs.MatchLaws.{match_lawful}
use Rattle.flow_match.specs.Meanings.{accepts_as, accepts, MatchMeaning}

-- the packet that is on its way to an output
abbrev owes : ℕ → Held → Wish → List Tree
owes output held (wishes.Receive port) = []
owes output held (wishes.Send port id) = if output == port.0 then contents_in (packet_at held.packets id) else []
owes output held (wishes.Level port) = []
owes output held wishes.Deactivate = []

-- what is still to be sent to the first output, where these packets are still to come
abbrev accepted_of : MatchState → List Tree → List Tree
accepted_of state zs = filter (accepts state.pattern) zs

-- and to the second one
abbrev rejected_of : MatchState → List Tree → List Tree
rejected_of state zs = if state.rejects then filter (λ packet. not (accepts state.pattern packet)) zs else []

abbrev ahead_out : List Tree → Outcome MatchState → List Tree
ahead_out zs (Wishes state held wish) = owes 0 held wish ++ accepted_of state zs
ahead_out zs (Fails state held cause) = []

abbrev ahead_rej : List Tree → Outcome MatchState → List Tree
ahead_rej zs (Wishes state held wish) = owes 1 held wish ++ rejected_of state zs
ahead_rej zs (Fails state held cause) = []

abbrev outcome_of : Poise MatchState → Outcome MatchState
outcome_of m = Wishes m.component m.held m.wish

abbrev at : List ℕ → Bool → MatchState
at pattern rejects = record { pattern = pattern; rejects = rejects }

-- what is ahead of an outcome is what was ahead of these packets
abbrev Ahead : List Tree → Outcome MatchState → MatchState → List Tree → Type 0
Ahead zs outcome state ts = (ahead_out zs outcome ≡ accepted_of state ts) × (ahead_rej zs outcome ≡ rejected_of state ts)

ahead-rejects : (pattern : List ℕ) (rejects : Bool) (held : Held) (t : Tree) (zs : List Tree) → packet_at held.packets (id_of t) ≡ Some t → accepts pattern (content t) ≡ false
    → Ahead zs (rejects_packet rejects (at pattern rejects) held (id_of t)) (at pattern rejects) (content t ∷ zs)
ahead-rejects pattern true held t zs found is = (rw is refl, ap (λ (o : Option Tree). contents_in o ++ filter (λ packet. not (accepts pattern packet)) zs) found ∙ rw is refl)
ahead-rejects pattern false held t zs found is = (rw is refl, refl)

ahead-judges : (b : Bool) (pattern : List ℕ) (rejects : Bool) (held : Held) (t : Tree) (zs : List Tree) → packet_at held.packets (id_of t) ≡ Some t → accepts pattern (content t) ≡ b
    → Ahead zs (judges b (at pattern rejects) held (id_of t)) (at pattern rejects) (content t ∷ zs)
ahead-judges true pattern rejects held t zs found is = (ap (λ (o : Option Tree). contents_in o ++ filter (accepts pattern) zs) found ∙ rw is refl, rw is refl)
ahead-judges false pattern rejects held t zs found is = ahead-rejects pattern rejects held t zs found is

-- a packet came
ahead-comes : (pattern : List ℕ) (rejects : Bool) (kind : Kind) (m : Poise MatchState) (held : Held) (t : Tree) (zs : List Tree) (h : HoldsOnly held (id_of t)) → t ≡ h.packet → kind_of (content t) ≡ kind
    → outcome_of m ≡ comes (at pattern rejects) held (id_of t) kind → Ahead zs (outcome_of m) (at pattern rejects) (content t ∷ zs)
ahead-comes pattern rejects kind m held t zs h e k comes_to = by kind k comes_to
  where
    found : packet_at held.packets (id_of t) ≡ Some t
    found = HoldsOnly-packet_at held (id_of t) h ∙ ap Some (sym e)

    text : text_at held.packets (id_of t) ≡ text_of (content t)
    text = HoldsOnly-text held (id_of t) h ∙ ap text_of (sym e) ∙ sym (content-text t)

    accepted-as : (kind : Kind) → kind_of (content t) ≡ kind → accepts pattern (content t) ≡ accepts_as pattern kind (content t)
    accepted-as kind k = ap (λ (l : Kind). accepts_as pattern l (content t)) k

    moved : (b : Bool) → accepts pattern (content t) ≡ b → outcome_of m ≡ judges b (at pattern rejects) held (id_of t) → Ahead zs (outcome_of m) (at pattern rejects) (content t ∷ zs)
    moved b accepted is =
        let a = ahead-judges b pattern rejects held t zs found accepted in
        (ap (ahead_out zs) is ∙ a.0, ap (ahead_rej zs) is ∙ a.1)

    by : (kind : Kind) → kind_of (content t) ≡ kind → outcome_of m ≡ comes (at pattern rejects) held (id_of t) kind → Ahead zs (outcome_of m) (at pattern rejects) (content t ∷ zs)
    by Normal k is = moved (matches pattern (text_of (content t))) (accepted-as Normal k) (is ∙ ap (λ (l : List ℕ). judges (matches pattern l) (at pattern rejects) held (id_of t)) text)
    by Open k is = moved true (accepted-as Open k) is
    by Close k is = moved true (accepted-as Close k) is

-- What was to be sent and what comes is what is sent and what is to be sent then.
abbrev Goes : Poise MatchState → Happening → Poise MatchState → List Tree → Type 0
Goes p e m zs =
    (owes 0 p.held p.wish ++ accepted_of p.component (content_got 0 e ++ zs) ≡ content_sent 0 e ++ (owes 0 m.held m.wish ++ accepted_of m.component zs))
    × (owes 1 p.held p.wish ++ rejected_of p.component (content_got 0 e ++ zs) ≡ content_sent 1 e ++ (owes 1 m.held m.wish ++ rejected_of m.component zs))

-- nothing came, and nothing was sent
still : (p m : Poise MatchState) (held : Held) (wish : Wish) (zs : List Tree) → ((output : ℕ) → owes output p.held p.wish ≡ []) → outcome_of m ≡ Wishes p.component held wish → ((output : ℕ) → owes output held wish ≡ [])
    → (owes 0 p.held p.wish ++ accepted_of p.component zs ≡ owes 0 m.held m.wish ++ accepted_of m.component zs) × (owes 1 p.held p.wish ++ rejected_of p.component zs ≡ owes 1 m.held m.wish ++ rejected_of m.component zs)
still p m held wish zs none is later = (
  ap (λ (us : List Tree). us ++ accepted_of p.component zs) (none 0 ∙ sym (later 0)) ∙ sym (ap (ahead_out zs) is),
  ap (λ (us : List Tree). us ++ rejected_of p.component zs) (none 1 ∙ sym (later 1)) ∙ sym (ap (ahead_rej zs) is),
)

-- It receives at its one input alone.
abbrev OneInput : Poise MatchState → Type 0
OneInput p = (port : ℕ) → p.wish ≡ wishes.Receive (record { 0 = port }) → port < 1

one-input : (p : Poise MatchState) (e : Happening) (m : Poise MatchState) → Steps match_rules p e m → OneInput m
one-input p e m s port is =
    let allowed : IsAllowed match_shape (match_uses p.component) m.held m.wish = (match_lawful.obeys p.component s.held (answer_of e) (outcome_of m) s.is_ready s.comes_to).1 in
    rw is at allowed

step : (p : Poise MatchState) (e : Happening) (m : Poise MatchState) (zs : List Tree) → OneInput p → Steps match_rules p e m → Goes p e m zs
step p Started m zs g s = still p m s.held receive_first zs (λ o. ap (owes o p.held) s.grants.0) s.comes_to (λ o. refl)
step p (Received port t) m zs g s =
    let h = s.is_ready in
    let z : nat_eq 0 port ≡ true = port_below_one port (g port s.grants.0) in
    let e : t ≡ h.packet = HoldsOnly-end s.held p.held.packets t (Comes-packets p.held t s.held s.grants.1) h in
    let kind : kind_at s.held.packets (id_of t) ≡ kind_of (content t) = HoldsOnly-kind s.held (id_of t) h ∙ ap kind_of (sym e) ∙ sym (content-kind t) in
    let a = ahead-comes p.component.pattern p.component.rejects (kind_of (content t)) m s.held t zs h e refl (s.comes_to ∙ ap (comes p.component s.held (id_of t)) kind) in
    let w0 : owes 0 p.held p.wish ≡ [] = ap (owes 0 p.held) s.grants.0 in
    let w1 : owes 1 p.held p.wish ≡ [] = ap (owes 1 p.held) s.grants.0 in
    rw (z, w0, w1) (sym a.0, sym a.1)
step p (Ended port) m zs g s = still p m s.held wishes.Deactivate zs (λ o. ap (owes o p.held) s.grants.0) s.comes_to (λ o. refl)
step p (Sent port t) m zs g s = (
  (λ i. sent-now 0 i ++ accepted_of p.component zs) ∙ ap (λ (us : List Tree). content_sent 0 (Sent port t) ++ us) (sym (ap (ahead_out zs) s.comes_to)),
  (λ i. sent-now 1 i ++ rejected_of p.component zs) ∙ ap (λ (us : List Tree). content_sent 1 (Sent port t) ++ us) (sym (ap (ahead_rej zs) s.comes_to)),
)
  where
    sent-now : (output : ℕ) → owes output p.held p.wish ≡ content_sent output (Sent port t)
    sent-now output = ap (owes output p.held) s.grants.0 ∙ ap (λ (o : Option Tree). if output == port then contents_in o else []) s.grants.1
step p (Learned port level) m zs g s = absurd s.is_ready

abbrev nothing : List Tree
nothing = []

nothing-left : (rejects : Bool) → (if rejects then nothing else nothing) ≡ nothing
nothing-left true = refl
nothing-left false = refl

run : (es : List Happening) (p q : Poise MatchState) → OneInput p → Runs match_rules p es q → q.wish ≡ wishes.Deactivate
    → (owes 0 p.held p.wish ++ accepted_of p.component (got 0 es) ≡ sent 0 es) × (owes 1 p.held p.wish ++ rejected_of p.component (got 0 es) ≡ sent 1 es)
run [] p q g r d =
    let w : p.wish ≡ wishes.Deactivate = ap (λ (u : Poise MatchState). u.wish) (sym r) ∙ d in
    (ap (λ (x : Wish). owes 0 p.held x ++ []) w, (λ i. owes 1 p.held (w i) ++ nothing-left p.component.rejects i))
run (e ∷ es) p q g r d =
    let m = r.0 in
    let s = r.1 in
    let t = step p e m (got 0 es) g s in
    let l = run es m q (one-input p e m s) r.2 d in
    (t.0 ∙ ap (λ (us : List Tree). content_sent 0 e ++ us) l.0, t.1 ∙ ap (λ (us : List Tree). content_sent 1 e ++ us) l.1)

-- Over a whole run it sends what its meaning makes of what it got.
pub match_meaning : MatchMeaning
match_meaning pattern rejects told ended =
    let r = run told (fresh (at pattern rejects) ended.maker) ended.last (λ port is. absurd (cc)) ended.runs ended.idle in
    let others = filter (λ packet. not (accepts pattern packet)) (got 0 told) in
    record {
      accepts_those = sym r.0;
      rejects_others = λ is. sym r.1 ∙ ap (λ (b : Bool). if b then others else []) is;
      silent = λ is. sym r.1 ∙ ap (λ (b : Bool). if b then others else []) is;
    }
