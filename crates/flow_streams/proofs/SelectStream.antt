-- What Select makes of its streams: what it was told is one activation after another.
use Rattle.std.proofs.Common.{◌≡◌, ◌⊎◌, inl, inr, ℕ, zero, suc, ◌+◌, ◌<◌, Bool, true, false, List, [], ◌∷◌, ◌++◌, length, refl, sym, ap, ◌∙◌, subst, arith, nat_eq, Option, Some, None, if◌then◌else◌}
use Rattle.std.specs.Prelude.{max, replicate}
use Rattle.std.specs.List.{starts_with}
use Rattle.flow_packet.specs.declared.packet.Kind.{Kind}
use Rattle.flow_packet.specs.declared.packet.Kind.TheVariants.{Normal, Open, Close}
use Rattle.flow_packet.specs.Tree.{Tree, content, id_of, text_of}
use Rattle.flow_packet.specs.Hands.{packet_at, kind_at, text_at, text_in, without}
use Rattle.flow_packet.specs.Held.{Held, without_packet}
use Rattle.flow_component.specs.declared.Answer.TheVariants as answers
use Rattle.flow_component.specs.declared.Wish.TheVariants as wishes
use Rattle.flow_component.specs.Laws.{Wishes}
use Rattle.flow_component.specs.Happenings.{Happening, Started, Received, Ended, Sent, Learned}
use Rattle.flow_component.specs.Runs.{Poise, fresh, Steps, Runs, EndedRun, got, sent, EndIsLast, BringsFirst, StartsBring, GivesText, text_packet, starts}
use Rattle.flow_component.proofs.Roots.{same_id}
use Rattle.flow_component.proofs.Lone.{HoldsOnly-end}
use Rattle.flow_component.proofs.Streams.{Comes-packets, one-alone, content-text}
use Rattle.flow_component.proofs.Wished.{port_of, id_in}
use Rattle.flow_streams.specs.BundleLaws.{second-found}
use Rattle.flow_streams.specs.declared.select.SelectPlace.{SelectPlace}
use Rattle.flow_streams.specs.declared.select.SelectPlace.TheVariants as places
use Rattle.flow_streams.specs.Select.{SelectState, key_port, in_port, accepted_port, rejected_port, rejects_packet, selects, comes_as, select_next, SelectReady, select_rules}
use Rattle.flow_streams.specs.SelectLaws.{first-gone}
use Rattle.flow_streams.specs.Selected.{accepts, accepted, rejected}
use Rattle.flow_streams.specs.Meanings.{fresh_select, count_among, SelectMeaning, SelectTakesTexts, SelectStarts}

-- One activation: its key and its packet, where they came.
data Round : Type 0 where
  Of : (key packet : Option Tree) → Round

-- what came at an input
abbrev came : ℕ → Option Tree → Happening
came port None = Ended port
came port (Some t) = Received port t

-- whether the packet is accepted
abbrev is_accepted : Option Tree → Tree → Bool
is_accepted None t = false
is_accepted (Some k) t = accepts k t

-- where it went
abbrev leaves : Bool → Bool → Tree → List Happening
leaves rejects true t = Sent 0 t ∷ []
leaves true false t = Sent 1 t ∷ []
leaves false false t = []

abbrev passed : Bool → Option Tree → Option Tree → List Happening
passed rejects key None = []
passed rejects key (Some t) = leaves rejects (is_accepted key t) t

-- all that is told in these activations
abbrev told_by : Bool → List Round → List Happening
told_by rejects [] = []
told_by rejects (Of key packet ∷ rounds) = Started ∷ came 0 key ∷ came 1 packet ∷ (passed rejects key packet ++ told_by rejects rounds)

-- Where it stands between two answers

data Phase : Type 0 where
  Resting : Phase
  Keying : Phase
  Selecting : Option Tree → Phase
  Passing : ℕ → Tree → Phase

abbrev at : Bool → SelectPlace → SelectState
at rejects place = record { rejects = rejects; place = place }

abbrev Stands : Bool → Poise SelectState → Phase → Type 0
Stands r p Resting = (p.wish ≡ wishes.Deactivate) × (p.component ≡ at r places.Waiting)
Stands r p Keying = (p.wish ≡ wishes.Receive key_port) × (p.component ≡ at r places.Waiting)
Stands r p (Selecting None) = (p.wish ≡ wishes.Receive in_port) × (p.component ≡ at r places.Unkeyed)
Stands r p (Selecting (Some k)) = (p.wish ≡ wishes.Receive in_port) × (p.component ≡ at r (places.Keyed (id_of k))) × (p.held.packets ≡ k ∷ [])
Stands r p (Passing port t) = (p.wish ≡ wishes.Send (record { 0 = port }) (id_of t)) × (p.component ≡ at r places.Passing) × (p.held.packets ≡ t ∷ [])

-- what the rest of a run is
abbrev Rest : Bool → Phase → List Happening → Type 0
Rest r Resting es = (rounds : List Round) × (es ≡ told_by r rounds)
Rest r Keying es = (key packet : Option Tree) × (rounds : List Round) × (es ≡ came 0 key ∷ came 1 packet ∷ (passed r key packet ++ told_by r rounds))
Rest r (Selecting key) es = (packet : Option Tree) × (rounds : List Round) × (es ≡ came 1 packet ∷ (passed r key packet ++ told_by r rounds))
Rest r (Passing port t) es = (rounds : List Round) × (es ≡ Sent port t ∷ told_by r rounds)

abbrev Step : Poise SelectState → Happening → Poise SelectState → Type 0
Step p e m = Steps select_rules p e m

abbrev Rec : Bool → List Happening → Poise SelectState → Type 0
Rec r es q = (p : Poise SelectState) (phase : Phase) → Stands r p phase → Runs select_rules p es q → Rest r phase es

-- a packet is rejected
rejecting : (r : Bool) (place : SelectPlace) (es : List Happening) (m q : Poise SelectState) (held : Held) (t : Tree) → held.packets ≡ t ∷ [] → Wishes m.component m.held m.wish ≡ rejects_packet (at r place) held (id_of t) → Runs select_rules m es q → Rec r es q
    → (rounds : List Round) × (es ≡ leaves r false t ++ told_by r rounds)
rejecting true place es m q held t alone comes run rec =
    let component : m.component ≡ at true places.Passing = cc in
    let hands : m.held ≡ held = cc in
    let wish : m.wish ≡ wishes.Send rejected_port (id_of t) = cc in
    rec m (Passing 1 t) (wish, component, ap (λ (h : Held). h.packets) hands ∙ alone) run
rejecting false place es m q held t alone comes run rec =
    let component : m.component ≡ at false places.Waiting = cc in
    let wish : m.wish ≡ wishes.Deactivate = cc in
    rec m Resting (wish, component) run

-- it is accepted or rejected
judging : (r b : Bool) (place : SelectPlace) (es : List Happening) (m q : Poise SelectState) (held : Held) (key : ℕ) (t : Tree) → (without_packet held key).packets ≡ t ∷ []
    → Wishes m.component m.held m.wish ≡ (if b then Wishes (at r places.Passing) (without_packet held key) (wishes.Send accepted_port (id_of t)) else rejects_packet (at r place) (without_packet held key) (id_of t))
    → Runs select_rules m es q → Rec r es q → (rounds : List Round) × (es ≡ leaves r b t ++ told_by r rounds)
judging r true place es m q held key t alone comes run rec =
    let component : m.component ≡ at r places.Passing = cc in
    let hands : m.held ≡ without_packet held key = cc in
    let wish : m.wish ≡ wishes.Send accepted_port (id_of t) = cc in
    rec m (Passing 0 t) (wish, component, ap (λ (h : Held). h.packets) hands ∙ alone) run
judging r false place es m q held key t alone comes run rec = rejecting r place es m q (without_packet held key) t alone comes run rec

-- the texts of two packets in the hands
two-texts : (held : Held) (k t : Tree) → held.packets ≡ k ∷ t ∷ [] → (id_of k ≡ id_of t → ⊥) → starts_with nat_eq (text_at held.packets (id_of t)) (text_at held.packets (id_of k)) ≡ accepts k t
two-texts held k t e apart =
    let second : text_at held.packets (id_of t) ≡ text_of t = ap (λ (ts : List Tree). text_at ts (id_of t)) e ∙ ap text_in (second-found k t apart) in
    let found : packet_at (k ∷ t ∷ []) (id_of k) ≡ Some k = (let s = same_id (id_of k) in rw s refl) in
    let first : text_at held.packets (id_of k) ≡ text_of k = ap (λ (ts : List Tree). text_at ts (id_of k)) e ∙ ap text_in found in
    λ i. starts_with nat_eq (second i) (first i)

-- a packet came to be selected
takes : (r : Bool) (key : Option Tree) (es : List Happening) (p m q : Poise SelectState) (t : Tree) (port : ℕ) (kind : Kind) → Stands r p (Selecting key) → (s : Step p (Received port t) m) → kind_at s.held.packets (id_of t) ≡ kind → Runs select_rules m es q → Rec r es q
    → (rounds : List Round) × (es ≡ leaves r (is_accepted key t) t ++ told_by r rounds)
takes r None es p m q t port Normal st s kind run rec =
    let ready : SelectReady (at r places.Unkeyed) s.held (answers.Got (id_of t)) = subst (λ (state : SelectState). SelectReady state s.held (answers.Got (id_of t))) st.1 s.is_ready in
    let same : t ≡ ready.packet = HoldsOnly-end s.held p.held.packets t (Comes-packets p.held t s.held s.grants.1) ready in
    let alone : s.held.packets ≡ t ∷ [] = ready.holds ∙ ap (λ (u : Tree). u ∷ []) (sym same) in
    let comes : Wishes m.component m.held m.wish ≡ comes_as (at r places.Unkeyed) s.held (id_of t) Normal = s.comes_to ∙ (λ i. comes_as (st.1 i) s.held (id_of t) (kind i)) in
    rejecting r places.Unkeyed es m q s.held t alone comes run rec
takes r (Some k) es p m q t port Normal st s kind run rec =
    let ready : SelectReady (at r (places.Keyed (id_of k))) s.held (answers.Got (id_of t)) = subst (λ (state : SelectState). SelectReady state s.held (answers.Got (id_of t))) st.1 s.is_ready in
    let two : s.held.packets ≡ k ∷ t ∷ [] = Comes-packets p.held t s.held s.grants.1 ∙ ap (λ (ts : List Tree). ts ++ t ∷ []) st.2 in
    let gone : (without_packet s.held (id_of k)).packets ≡ t ∷ [] = ap (λ (ts : List Tree). without ts (id_of k)) two ∙ first-gone k t in
    let comes : Wishes m.component m.held m.wish ≡ selects (at r (places.Keyed (id_of k))) s.held (id_of k) (id_of t) = s.comes_to ∙ (λ i. comes_as (st.1 i) s.held (id_of t) (kind i)) in
    judging r (accepts k t) (places.Keyed (id_of k)) es m q s.held (id_of k) t gone
    (comes
    ∙ ap (λ (b : Bool). if b then Wishes (at r places.Passing) (without_packet s.held (id_of k)) (wishes.Send accepted_port (id_of t)) else rejects_packet (at r (places.Keyed (id_of k))) (without_packet s.held (id_of k)) (id_of t))
    (two-texts s.held k t two ready.apart)) run rec
takes r None es p m q t port Open st s kind run rec =
    absurd (let c : Wishes m.component m.held m.wish ≡ comes_as (at r places.Unkeyed) s.held (id_of t) Open = s.comes_to ∙ (λ i. comes_as (st.1 i) s.held (id_of t) (kind i)) in cc)
takes r None es p m q t port Close st s kind run rec =
    absurd (let c : Wishes m.component m.held m.wish ≡ comes_as (at r places.Unkeyed) s.held (id_of t) Close = s.comes_to ∙ (λ i. comes_as (st.1 i) s.held (id_of t) (kind i)) in cc)
takes r (Some k) es p m q t port Open st s kind run rec =
    absurd (let c : Wishes m.component m.held m.wish ≡ comes_as (at r (places.Keyed (id_of k))) s.held (id_of t) Open = s.comes_to ∙ (λ i. comes_as (st.1 i) s.held (id_of t) (kind i)) in cc)
takes r (Some k) es p m q t port Close st s kind run rec =
    absurd (let c : Wishes m.component m.held m.wish ≡ comes_as (at r (places.Keyed (id_of k))) s.held (id_of t) Close = s.comes_to ∙ (λ i. comes_as (st.1 i) s.held (id_of t) (kind i)) in cc)

-- a key came
keys : (r : Bool) (es : List Happening) (p m q : Poise SelectState) (t : Tree) (port : ℕ) (kind : Kind) → Stands r p Keying → (s : Step p (Received port t) m) → kind_at s.held.packets (id_of t) ≡ kind → Runs select_rules m es q → Rec r es q → Rest r (Selecting (Some t)) es
keys r es p m q t port Normal st s kind run rec =
    let ready : SelectReady (at r places.Waiting) s.held (answers.Got (id_of t)) = subst (λ (state : SelectState). SelectReady state s.held (answers.Got (id_of t))) st.1 s.is_ready in
    let same : t ≡ ready.packet = HoldsOnly-end s.held p.held.packets t (Comes-packets p.held t s.held s.grants.1) ready in
    let alone : s.held.packets ≡ t ∷ [] = ready.holds ∙ ap (λ (u : Tree). u ∷ []) (sym same) in
    let comes : Wishes m.component m.held m.wish ≡ comes_as (at r places.Waiting) s.held (id_of t) Normal = s.comes_to ∙ (λ i. comes_as (st.1 i) s.held (id_of t) (kind i)) in
    let component : m.component ≡ at r (places.Keyed (id_of t)) = cc in
    let hands : m.held ≡ s.held = cc in
    let wish : m.wish ≡ wishes.Receive in_port = cc in
    rec m (Selecting (Some t)) (wish, component, ap (λ (h : Held). h.packets) hands ∙ alone) run
keys r es p m q t port Open st s kind run rec = absurd (let c : Wishes m.component m.held m.wish ≡ comes_as (at r places.Waiting) s.held (id_of t) Open = s.comes_to ∙ (λ i. comes_as (st.1 i) s.held (id_of t) (kind i)) in cc)
keys r es p m q t port Close st s kind run rec = absurd (let c : Wishes m.component m.held m.wish ≡ comes_as (at r places.Waiting) s.held (id_of t) Close = s.comes_to ∙ (λ i. comes_as (st.1 i) s.held (id_of t) (kind i)) in cc)

-- nothing came to be selected
over : (r : Bool) (key : Option Tree) (es : List Happening) (p m q : Poise SelectState) (port : ℕ) → Stands r p (Selecting key) → Step p (Ended port) m → Runs select_rules m es q → Rec r es q → Rest r Resting es
over r None es p m q port st s run rec =
    let comes : Wishes m.component m.held m.wish ≡ select_next (at r places.Unkeyed) s.held answers.End = s.comes_to ∙ ap (λ (state : SelectState). select_next state s.held answers.End) st.1 in
    let component : m.component ≡ at r places.Waiting = cc in
    let wish : m.wish ≡ wishes.Deactivate = cc in
    rec m Resting (wish, component) run
over r (Some k) es p m q port st s run rec =
    let comes : Wishes m.component m.held m.wish ≡ select_next (at r (places.Keyed (id_of k))) s.held answers.End = s.comes_to ∙ ap (λ (state : SelectState). select_next state s.held answers.End) st.1 in
    let component : m.component ≡ at r places.Waiting = cc in
    let wish : m.wish ≡ wishes.Deactivate = cc in
    rec m Resting (wish, component) run

-- it waits for a packet to be selected
waits : (r : Bool) (key : Option Tree) (p : Poise SelectState) → Stands r p (Selecting key) → p.wish ≡ wishes.Receive in_port
waits r None p st = st.0
waits r (Some k) p st = st.0

step : (r : Bool) (es : List Happening) (p m q : Poise SelectState) (e : Happening) (phase : Phase) → Stands r p phase → Step p e m → Runs select_rules m es q → Rec r es q → Rest r phase (e ∷ es)
step r es p m q Started Resting st s run rec =
    let comes : Wishes m.component m.held m.wish ≡ select_next (at r places.Waiting) s.held answers.Start = s.comes_to ∙ ap (λ (state : SelectState). select_next state s.held answers.Start) st.1 in
    let component : m.component ≡ at r places.Waiting = cc in
    let wish : m.wish ≡ wishes.Receive key_port = cc in
    let rest : Rest r Keying es = rec m Keying (wish, component) run in
    (Of rest.0 rest.1 ∷ rest.2, ap (λ (l : List Happening). Started ∷ l) rest.3)
step r es p m q (Received port t) Resting st s run rec = absurd (let h : wishes.Receive (record { 0 = port }) ≡ wishes.Deactivate = sym s.grants.0 ∙ st.0 in cc)
step r es p m q (Ended port) Resting st s run rec = absurd (let h : wishes.Receive (record { 0 = port }) ≡ wishes.Deactivate = sym s.grants.0 ∙ st.0 in cc)
step r es p m q (Sent port t) Resting st s run rec = absurd (let h : wishes.Send (record { 0 = port }) (id_of t) ≡ wishes.Deactivate = sym s.grants.0 ∙ st.0 in cc)
step r es p m q (Learned port level) Resting st s run rec = absurd s.is_ready
step r es p m q Started Keying st s run rec = absurd (let h : wishes.Deactivate ≡ wishes.Receive key_port = sym s.grants.0 ∙ st.0 in cc)
step r es p m q (Received port t) Keying st s run rec =
    let port_is : port ≡ 0 = ap port_of (sym s.grants.0 ∙ st.0) in
    let rest : Rest r (Selecting (Some t)) es = keys r es p m q t port (kind_at s.held.packets (id_of t)) st s refl run rec in
    (Some t, rest.0, rest.1, λ i. Received (port_is i) t ∷ rest.2 i)
step r es p m q (Ended port) Keying st s run rec =
    let port_is : port ≡ 0 = ap port_of (sym s.grants.0 ∙ st.0) in
    let comes : Wishes m.component m.held m.wish ≡ select_next (at r places.Waiting) s.held answers.End = s.comes_to ∙ ap (λ (state : SelectState). select_next state s.held answers.End) st.1 in
    let component : m.component ≡ at r places.Unkeyed = cc in
    let wish : m.wish ≡ wishes.Receive in_port = cc in
    let rest : Rest r (Selecting None) es = rec m (Selecting None) (wish, component) run in
    (None, rest.0, rest.1, λ i. Ended (port_is i) ∷ rest.2 i)
step r es p m q (Sent port t) Keying st s run rec = absurd (let h : wishes.Send (record { 0 = port }) (id_of t) ≡ wishes.Receive key_port = sym s.grants.0 ∙ st.0 in cc)
step r es p m q (Learned port level) Keying st s run rec = absurd s.is_ready
step r es p m q Started (Selecting key) st s run rec = absurd (let h : wishes.Deactivate ≡ wishes.Receive in_port = sym s.grants.0 ∙ waits r key p st in cc)
step r es p m q (Received port t) (Selecting key) st s run rec =
    let port_is : port ≡ 1 = ap port_of (sym s.grants.0 ∙ waits r key p st) in
    let rest = takes r key es p m q t port (kind_at s.held.packets (id_of t)) st s refl run rec in
    (Some t, rest.0, λ i. Received (port_is i) t ∷ rest.1 i)
step r es p m q (Ended port) (Selecting key) st s run rec =
    let port_is : port ≡ 1 = ap port_of (sym s.grants.0 ∙ waits r key p st) in
    let rest : Rest r Resting es = over r key es p m q port st s run rec in
    (None, rest.0, λ i. Ended (port_is i) ∷ rest.1 i)
step r es p m q (Sent port t) (Selecting key) st s run rec = absurd (let h : wishes.Send (record { 0 = port }) (id_of t) ≡ wishes.Receive in_port = sym s.grants.0 ∙ waits r key p st in cc)
step r es p m q (Learned port level) (Selecting key) st s run rec = absurd s.is_ready
step r es p m q Started (Passing o u) st s run rec = absurd (let h : wishes.Deactivate ≡ wishes.Send (record { 0 = o }) (id_of u) = sym s.grants.0 ∙ st.0 in cc)
step r es p m q (Received port t) (Passing o u) st s run rec = absurd (let h : wishes.Receive (record { 0 = port }) ≡ wishes.Send (record { 0 = o }) (id_of u) = sym s.grants.0 ∙ st.0 in cc)
step r es p m q (Ended port) (Passing o u) st s run rec = absurd (let h : wishes.Receive (record { 0 = port }) ≡ wishes.Send (record { 0 = o }) (id_of u) = sym s.grants.0 ∙ st.0 in cc)
step r es p m q (Sent port t) (Passing o u) st s run rec =
    let h : wishes.Send (record { 0 = port }) (id_of t) ≡ wishes.Send (record { 0 = o }) (id_of u) = sym s.grants.0 ∙ st.0 in
    let port_is : port ≡ o = ap port_of h in
    let id_is : id_of t ≡ id_of u = ap id_in h in
    let found : Some t ≡ Some u = sym s.grants.1 ∙ ap (packet_at p.held.packets) id_is ∙ one-alone p.held.packets u st.2 in
    let same : t ≡ u = cc in
    let comes : Wishes m.component m.held m.wish ≡ select_next (at r places.Passing) s.held answers.Sent = s.comes_to ∙ ap (λ (state : SelectState). select_next state s.held answers.Sent) st.1 in
    let component : m.component ≡ at r places.Waiting = cc in
    let wish : m.wish ≡ wishes.Deactivate = cc in
    let rest : Rest r Resting es = rec m Resting (wish, component) run in
    (rest.0, λ i. Sent (port_is i) (same i) ∷ rest.1 i)
step r es p m q (Learned port level) (Passing o u) st s run rec = absurd s.is_ready

ends : (r : Bool) (p q : Poise SelectState) (phase : Phase) → Stands r p phase → q ≡ p → q.wish ≡ wishes.Deactivate → Rest r phase []
ends r p q Resting st is d = ([], refl)
ends r p q Keying st is d = absurd (let h : wishes.Receive key_port ≡ wishes.Deactivate = sym st.0 ∙ ap (λ (u : Poise SelectState). u.wish) (sym is) ∙ d in cc)
ends r p q (Selecting key) st is d = absurd (let h : wishes.Receive in_port ≡ wishes.Deactivate = sym (waits r key p st) ∙ ap (λ (u : Poise SelectState). u.wish) (sym is) ∙ d in cc)
ends r p q (Passing o u) st is d = absurd (let h : wishes.Send (record { 0 = o }) (id_of u) ≡ wishes.Deactivate = sym st.0 ∙ ap (λ (w : Poise SelectState). w.wish) (sym is) ∙ d in cc)

select_run : (r : Bool) (es : List Happening) (q : Poise SelectState) → q.wish ≡ wishes.Deactivate → Rec r es q
select_run r [] q d p phase st run = ends r p q phase st run d
select_run r (e ∷ es) q d p phase st run = step r es p run.0 q e phase st run.1 run.2 (select_run r es q d)

-- what a Select was told, from its start to its end, is one activation after another
in-rounds : (r : Bool) (told : List Happening) → EndedRun select_rules (fresh_select r) told → (rounds : List Round) × (told ≡ told_by r rounds)
in-rounds r told run = select_run r told run.last run.idle (fresh (fresh_select r) run.maker) Resting (refl, refl) run.runs

-- What was sent is no matter to what was got

-- what holds with a send before it holds without
unsent : (P : List Happening → Type 0) → ((o : ℕ) (t : Tree) (es : List Happening) → P (Sent o t ∷ es) → P es) → (r : Bool) (key packet : Option Tree) (es : List Happening) → P (passed r key packet ++ es) → P es
unsent P down r key None es h = h
unsent P down r key (Some t) es h = by r (is_accepted key t) h
  where
    by : (r b : Bool) → P (leaves r b t ++ es) → P es
    by r true g = down 0 t es g
    by true false g = down 1 t es g
    by false false g = g

resent : (P : List Happening → Type 0) → ((o : ℕ) (t : Tree) (es : List Happening) → P es → P (Sent o t ∷ es)) → (r : Bool) (key packet : Option Tree) (es : List Happening) → P es → P (passed r key packet ++ es)
resent P up r key None es h = h
resent P up r key (Some t) es h = by r (is_accepted key t)
  where
    by : (r b : Bool) → P (leaves r b t ++ es)
    by r true = up 0 t es h
    by true false = up 1 t es h
    by false false = h

got-passed : (port : ℕ) (r : Bool) (key packet : Option Tree) (es : List Happening) → got port (passed r key packet ++ es) ≡ got port es
got-passed port r key packet es = resent (λ l. got port l ≡ got port es) (λ o t l h. h) r key packet es refl

starts-passed : (r : Bool) (key packet : Option Tree) (es : List Happening) → starts (passed r key packet ++ es) ≡ starts es
starts-passed r key packet es = resent (λ l. starts l ≡ starts es) (λ o t l h. h) r key packet es refl

last-passed : (port : ℕ) (r : Bool) (key packet : Option Tree) (es : List Happening) → EndIsLast port (passed r key packet ++ es) → EndIsLast port es
last-passed port r key packet es h = unsent (EndIsLast port) (λ o t l g. g) r key packet es h

-- The selection

abbrev Selects : Bool → List Tree → List Tree → List Happening → Type 0
Selects r ks ts es = (sent 0 es ≡ accepted ks ts) × (sent 1 es ≡ (if r then rejected ks ts else []))

accepted-none : (ks : List Tree) → accepted ks [] ≡ []
accepted-none [] = refl
accepted-none (k ∷ ks) = refl

rejected-none : (r : Bool) (ks : List Tree) → (if r then rejected ks [] else []) ≡ []
rejected-none true [] = refl
rejected-none true (k ∷ ks) = refl
rejected-none false ks = refl

-- a packet met a key
met : (r b : Bool) (k t : Tree) (ks ts : List Tree) (es : List Happening) → accepts (content k) (content t) ≡ b → Selects r ks ts es → Selects r (content k ∷ ks) (content t ∷ ts) (leaves r b t ++ es)
met r true k t ks ts es is s = (rw is (ap (λ us. content t ∷ us) s.0), rw is s.1)
met true false k t ks ts es is s = (rw is s.0, rw is (ap (λ us. content t ∷ us) s.1))
met false false k t ks ts es is s = (rw is s.0, s.1)

-- it met none
unmet : (r : Bool) (t : Tree) (ts : List Tree) (es : List Happening) → Selects r [] ts es → Selects r [] (content t ∷ ts) (leaves r false t ++ es)
unmet true t ts es s = (s.0, ap (λ us. content t ∷ us) s.1)
unmet false t ts es s = (s.0, s.1)

-- a key met nothing
wasted : (r : Bool) (k : Tree) (ks : List Tree) (es : List Happening) → Selects r ks [] es → Selects r (content k ∷ ks) [] es
wasted r k ks es s = (s.0 ∙ accepted-none ks, s.1 ∙ rejected-none r ks ∙ sym (rejected-none r (content k ∷ ks)))

selection : (r : Bool) (rounds : List Round) → EndIsLast 0 (told_by r rounds) → EndIsLast 1 (told_by r rounds) → Selects r (got 0 (told_by r rounds)) (got 1 (told_by r rounds)) (told_by r rounds)
selection r [] e0 e1 = (refl, sym (rejected-none r []))
selection r (Of (Some k) (Some t) ∷ rounds) e0 e1 =
    let es = told_by r rounds in
    let s = selection r rounds (last-passed 0 r (Some k) (Some t) es e0) (last-passed 1 r (Some k) (Some t) es e1) in
    let g0 = got-passed 0 r (Some k) (Some t) es in
    let g1 = got-passed 1 r (Some k) (Some t) es in
    let same : accepts (content k) (content t) ≡ accepts k t = λ i. starts_with nat_eq (content-text t i) (content-text k i) in
    let all = met r (accepts k t) k t (got 0 es) (got 1 es) es same s in
    (all.0 ∙ (λ i. accepted (content k ∷ sym g0 i) (content t ∷ sym g1 i)), all.1 ∙ (λ i. if r then rejected (content k ∷ sym g0 i) (content t ∷ sym g1 i) else []))
selection r (Of None (Some t) ∷ rounds) e0 e1 =
    let es = told_by r rounds in
    let s = selection r rounds (last-passed 0 r None (Some t) es e0.1) (last-passed 1 r None (Some t) es e1.1) in
    let none : got 0 (passed r None (Some t) ++ es) ≡ [] = e0.0 refl in
    let g0 : got 0 es ≡ [] = sym (got-passed 0 r None (Some t) es) ∙ none in
    let g1 = got-passed 1 r None (Some t) es in
    let all = unmet r t (got 1 es) es (subst (λ (ks : List Tree). Selects r ks (got 1 es) es) g0 s) in
    (all.0 ∙ (λ i. accepted (sym none i) (content t ∷ sym g1 i)), all.1 ∙ (λ i. if r then rejected (sym none i) (content t ∷ sym g1 i) else []))
selection r (Of (Some k) None ∷ rounds) e0 e1 =
    let es = told_by r rounds in
    let s = selection r rounds e0.1 e1.1 in
    let g1 : got 1 es ≡ [] = e1.0 refl in
    let all = wasted r k (got 0 es) es (subst (λ (ts : List Tree). Selects r (got 0 es) ts es) g1 s) in
    (all.0 ∙ ap (accepted (content k ∷ got 0 es)) (sym g1), all.1 ∙ (λ i. if r then rejected (content k ∷ got 0 es) (sym g1 i) else []))
selection r (Of None None ∷ rounds) e0 e1 = selection r rounds e0.1.1 e1.1.1

-- Over a whole run it sends what its meaning makes of what it got.
pub select_meaning : SelectMeaning
select_meaning r told run e0 e1 =
    let rounds = in-rounds r told run in
    let s = selection r rounds.0 (subst (EndIsLast 0) rounds.1 e0) (subst (EndIsLast 1) rounds.1 e1) in
    let t : Selects r (got 0 told) (got 1 told) told = subst (λ (l : List Happening). Selects r (got 0 l) (got 1 l) l) (sym rounds.1) s in
    record { accepts_some = t.0; rejects_others = t.1 }

-- A text at an input

abbrev Takes : ℕ → List ℕ → List Happening → Type 0
Takes port text es = (got port es ≡ replicate (starts es) (text_packet text)) × EndIsLast port es

one-more : (n : ℕ) (t : Tree) → t ∷ replicate n t ≡ replicate (n + 1) t
one-more n t = ap (λ (m : ℕ). replicate m t) (let e : suc n ≡ n + 1 = omega arith in e)

zero-takes : (r : Bool) (text : List ℕ) (fresh : Bool) (rounds : List Round) → GivesText 0 text fresh (told_by r rounds) → Takes 0 text (told_by r rounds)
zero-takes r text fresh [] g = (refl, tt)
zero-takes r text fresh (Of None packet ∷ rounds) g = absurd (let h : true ≡ false = g.0 refl in cc)
zero-takes r text fresh (Of (Some k) (Some t) ∷ rounds) g =
    let es = told_by r rounds in
    let more : (f : Bool) → GivesText 0 text f (passed r (Some k) (Some t) ++ es) → GivesText 0 text f es = λ f h. unsent (GivesText 0 text f) (λ o u l w. w) r (Some k) (Some t) es h in
    let rest = zero-takes r text _ rounds (more _ g.1.1) in (
      (λ i. (g.0 refl).1 i ∷ (got-passed 0 r (Some k) (Some t) es ∙ rest.0) i) ∙ one-more (starts es) (text_packet text) ∙ ap (λ (n : ℕ). replicate (n + 1) (text_packet text)) (sym (starts-passed r (Some k) (Some t) es)),
      resent (EndIsLast 0) (λ o u l w. w) r (Some k) (Some t) es rest.1,
    )
zero-takes r text fresh (Of (Some k) None ∷ rounds) g =
    let es = told_by r rounds in
    let rest = zero-takes r text _ rounds g.1.1 in
    ((λ i. (g.0 refl).1 i ∷ rest.0 i) ∙ one-more (starts es) (text_packet text), ((λ e. absurd (omega arith)), rest.1))

one-takes : (r : Bool) (text : List ℕ) (fresh : Bool) (rounds : List Round) → GivesText 1 text fresh (told_by r rounds) → Takes 1 text (told_by r rounds)
one-takes r text fresh [] g = (refl, tt)
one-takes r text fresh (Of (Some k) None ∷ rounds) g = absurd (let h : true ≡ false = g.1.0 refl in cc)
one-takes r text fresh (Of None None ∷ rounds) g = absurd (let h : true ≡ false = g.1.0 refl in cc)
one-takes r text fresh (Of (Some k) (Some t) ∷ rounds) g =
    let es = told_by r rounds in
    let more : (f : Bool) → GivesText 1 text f (passed r (Some k) (Some t) ++ es) → GivesText 1 text f es = λ f h. unsent (GivesText 1 text f) (λ o u l w. w) r (Some k) (Some t) es h in
    let rest = one-takes r text _ rounds (more _ g.1.1) in (
      (λ i. (g.1.0 refl).1 i ∷ (got-passed 1 r (Some k) (Some t) es ∙ rest.0) i) ∙ one-more (starts es) (text_packet text) ∙ ap (λ (n : ℕ). replicate (n + 1) (text_packet text)) (sym (starts-passed r (Some k) (Some t) es)),
      resent (EndIsLast 1) (λ o u l w. w) r (Some k) (Some t) es rest.1,
    )
one-takes r text fresh (Of None (Some t) ∷ rounds) g =
    let es = told_by r rounds in
    let more : (f : Bool) → GivesText 1 text f (passed r None (Some t) ++ es) → GivesText 1 text f es = λ f h. unsent (GivesText 1 text f) (λ o u l w. w) r None (Some t) es h in
    let rest = one-takes r text _ rounds (more _ g.1.1) in (
      (λ i. (g.1.0 refl).1 i ∷ (got-passed 1 r None (Some t) es ∙ rest.0) i) ∙ one-more (starts es) (text_packet text) ∙ ap (λ (n : ℕ). replicate (n + 1) (text_packet text)) (sym (starts-passed r None (Some t) es)),
      ((λ e. absurd (omega arith)), resent (EndIsLast 1) (λ o u l w. w) r None (Some t) es rest.1),
    )

takes-text : (r : Bool) (port : ℕ) (text : List ℕ) (rounds : List Round) → port < 2 → GivesText port text false (told_by r rounds) → Takes port text (told_by r rounds)
takes-text r zero text rounds l g = zero-takes r text false rounds g
takes-text r (suc zero) text rounds l g = one-takes r text false rounds g
takes-text r (suc (suc port)) text rounds l g = absurd (omega arith)

-- A text that each start gives anew is got once in each activation, and nothing behind an end.
pub select_takes_texts : SelectTakesTexts
select_takes_texts r told run port text l g =
    let rounds = in-rounds r told run in
    subst (Takes port text) (sym rounds.1) (takes-text r port text rounds.0 l (subst (GivesText port text false) rounds.1 g))

-- The number of activations

abbrev Grows : ℕ → ℕ → Type 0
Grows new old = new ≡ old + 1

abbrev Flat : ℕ → ℕ → Type 0
Flat new old = (new ≡ 0) × (old ≡ 0)

highest : (a a' b b' : ℕ) → Grows a a' ⊎ Flat a a' → Grows b b' ⊎ Flat b b' → Grows a a' ⊎ Grows b b' → max a' b' + 1 ≡ max a b
highest a a' b b' (inl g) (inl h) d = omega (arith, g, h)
highest a a' b b' (inl g) (inr f) d = omega (arith, g, f.0, f.1)
highest a a' b b' (inr f) (inl h) d = omega (arith, h, f.0, f.1)
highest a a' b b' (inr f) (inr g) (inl d) = absurd (omega (arith, d, f.0, f.1))
highest a a' b b' (inr f) (inr g) (inr d) = absurd (omega (arith, d, g.0, g.1))

counted : (b : Bool) (new old : ℕ) → (b ≡ true → Grows new old ⊎ Flat new old) → Grows (if b then new else 0) (if b then old else 0) ⊎ Flat (if b then new else 0) (if b then old else 0)
counted true new old f = f refl
counted false new old f = inr (refl, refl)

-- what came, before the rest
starts-came : (port : ℕ) (o : Option Tree) (es : List Happening) → starts (came port o ∷ es) ≡ starts es
starts-came port None es = refl
starts-came port (Some t) es = refl

last-came : (at port : ℕ) (o : Option Tree) (es : List Happening) → EndIsLast at (came port o ∷ es) → EndIsLast at es
last-came at port None es h = h.1
last-came at port (Some t) es h = h

brings-came : (A : ℕ → Type 0) (port : ℕ) (o : Option Tree) (es : List Happening) → StartsBring A (came port o ∷ es) → StartsBring A es
brings-came A port None es h = h
brings-came A port (Some t) es h = h

abbrev all : Bool → Option Tree → Option Tree → List Happening → List Happening
all r key packet es = Started ∷ came 0 key ∷ came 1 packet ∷ (passed r key packet ++ es)

key-grows : (r : Bool) (k : Tree) (packet : Option Tree) (es : List Happening) → Grows (length (got 0 (all r (Some k) packet es))) (length (got 0 es))
key-grows r k None es = omega arith
key-grows r k (Some t) es = omega (arith, ap length (got-passed 0 r (Some k) (Some t) es))

packet-grows : (r : Bool) (key : Option Tree) (t : Tree) (es : List Happening) → Grows (length (got 1 (all r key (Some t) es))) (length (got 1 es))
packet-grows r None t es = omega (arith, ap length (got-passed 1 r None (Some t) es))
packet-grows r (Some k) t es = omega (arith, ap length (got-passed 1 r (Some k) (Some t) es))

key-count : (r : Bool) (key packet : Option Tree) (es : List Happening) → EndIsLast 0 (all r key packet es) → Grows (length (got 0 (all r key packet es))) (length (got 0 es)) ⊎ Flat (length (got 0 (all r key packet es))) (length (got 0 es))
key-count r (Some k) packet es last = inl (key-grows r k packet es)
key-count r None None es last = inr (ap length (last.0 refl), ap length (last.0 refl))
key-count r None (Some t) es last = inr (ap length (last.0 refl), ap length (sym (got-passed 0 r None (Some t) es) ∙ last.0 refl))

packet-count : (r : Bool) (key packet : Option Tree) (es : List Happening) → EndIsLast 1 (all r key packet es) → Grows (length (got 1 (all r key packet es))) (length (got 1 es)) ⊎ Flat (length (got 1 (all r key packet es))) (length (got 1 es))
packet-count r key (Some t) es last = inl (packet-grows r key t es)
packet-count r None None es last = inr (ap length (last.1.0 refl), ap length (last.1.0 refl))
packet-count r (Some k) None es last = inr (ap length (last.0 refl), ap length (last.0 refl))

abbrev Among : (ℕ → Bool) → ℕ → Type 0
Among among port = (port < 2) × (among port ≡ true)

grows-if : (b : Bool) (new old : ℕ) → b ≡ true → Grows new old → Grows (if b then new else 0) (if b then old else 0)
grows-if b new old is g = rw is g

-- one of the two brought something
brought : (r : Bool) (among : ℕ → Bool) (key packet : Option Tree) (es : List Happening) (port : ℕ) → Among among port → BringsFirst port (came 0 key ∷ came 1 packet ∷ (passed r key packet ++ es))
    → Grows (count_among among 0 (all r key packet es)) (count_among among 0 es) ⊎ Grows (count_among among 1 (all r key packet es)) (count_among among 1 es)
brought r among None packet es zero a b = absurd (b.0 refl)
brought r among (Some k) packet es zero a b = inl (grows-if (among 0) (length (got 0 (all r (Some k) packet es))) (length (got 0 es)) a.1 (key-grows r k packet es))
brought r among key (Some t) es (suc zero) a b = inr (grows-if (among 1) (length (got 1 (all r key (Some t) es))) (length (got 1 es)) a.1 (packet-grows r key t es))
brought r among None None es (suc zero) a b = absurd (b.1.0 refl)
brought r among (Some k) None es (suc zero) a (inl bad) = absurd (omega (arith, bad))
brought r among (Some k) None es (suc zero) a (inr b) = absurd (b.0 refl)
brought r among key packet es (suc (suc port)) a b = absurd (let l = a.0 in omega (arith, l))

abbrev none_if : Bool → ℕ
none_if b = if b then 0 else 0

none-counted : (b : Bool) → none_if b ≡ 0
none-counted true = refl
none-counted false = refl

activations : (r : Bool) (among : ℕ → Bool) (rounds : List Round) → StartsBring (Among among) (told_by r rounds) → ((port : ℕ) → among port ≡ true → EndIsLast port (told_by r rounds))
    → starts (told_by r rounds) ≡ max (count_among among 0 (told_by r rounds)) (count_among among 1 (told_by r rounds))
activations r among [] brings last = λ i. max (sym (none-counted (among 0)) i) (sym (none-counted (among 1)) i)
activations r among (Of key packet ∷ rounds) brings last =
    let es = told_by r rounds in
    let told = all r key packet es in
    let later : (P : List Happening → Type 0) → ((o : ℕ) (t : Tree) (l : List Happening) → P (Sent o t ∷ l) → P l) → P (passed r key packet ++ es) → P es = λ P down h. unsent P down r key packet es h in
    let still : StartsBring (Among among) es = later (StartsBring (Among among)) (λ o t l h. h) (brings-came (Among among) 1 packet (passed r key packet ++ es) (brings-came (Among among) 0 key (came 1 packet ∷ (passed r key packet ++ es)) brings.1)) in
    let ends : (port : ℕ) → among port ≡ true → EndIsLast port es = λ port is. later (EndIsLast port) (λ o t l h. h) (last-came port 1 packet (passed r key packet ++ es) (last-came port 0 key (came 1 packet ∷ (passed r key packet ++ es)) (last port is))) in
    let rest : starts es ≡ max (count_among among 0 es) (count_among among 1 es) = activations r among rounds still ends in
    let one : starts told ≡ starts es + 1 = ap (λ (n : ℕ). n + 1) (starts-came 0 key (came 1 packet ∷ (passed r key packet ++ es)) ∙ starts-came 1 packet (passed r key packet ++ es) ∙ starts-passed r key packet es) in
    one ∙ ap (λ (n : ℕ). n + 1) rest
    ∙ highest (count_among among 0 told) (count_among among 0 es) (count_among among 1 told) (count_among among 1 es) (counted (among 0) (length (got 0 told)) (length (got 0 es)) (λ is. key-count r key packet es (last 0 is)))
    (counted (among 1) (length (got 1 told)) (length (got 1 es)) (λ is. packet-count r key packet es (last 1 is))) (brought r among key packet es brings.0.0 brings.0.1 brings.0.2)

-- It is activated as often as packets come at the one of its inputs that has the most.
pub select_starts : SelectStarts
select_starts r told run among brings last =
    let rounds = in-rounds r told run in
    subst (λ (l : List Happening). starts l ≡ max (count_among among 0 l) (count_among among 1 l)) (sym rounds.1)
    (activations r among rounds.0 (subst (StartsBring (Among among)) rounds.1 brings) (λ port is. subst (EndIsLast port) rounds.1 (last port is)))
