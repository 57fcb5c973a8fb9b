-- What Fill sends is a filling of what it gets.
use Rattle.std.proofs.Common.{◌≡◌, ℕ, ◌+◌, ◌<◌, ◌≤◌, inl, inr, Bool, true, false, List, [], ◌∷◌, ◌++◌, length, refl, sym, ap, ◌∙◌, subst, append_assoc, arith, nat_eq, nat_le, Some, length-append, if◌then◌else◌}
use Rattle.std.proofs.lemmas.Bool.Decides.{nat_tests}
use Rattle.flow_packet.specs.Tree.{Tree, content, id_of, kind_of, text_of, packet_of}
use Rattle.flow_packet.specs.declared.packet.Kind.{Kind}
use Rattle.flow_packet.specs.declared.packet.Kind.TheVariants.{Normal, Open, Close}
use Rattle.flow_packet.specs.Hands.{packet_at, text_at, kind_at, without}
use Rattle.flow_component.specs.declared.Wish.{Wish}
use Rattle.flow_component.specs.declared.Wish.TheVariants as wishes
use Rattle.flow_packet.specs.Held.{Held, next_id, without_packet, with_made}
use Rattle.flow_component.specs.Laws.{Outcome, Wishes, Fails, IsAllowed}
use Rattle.flow_component.proofs.Roots.{same_id}
use Rattle.flow_component.proofs.Lone.{HoldsOnly-packet_at, HoldsOnly-without, HoldsOnly-made_at, HoldsOnly-made, HoldsOnly-text, HoldsOnly-kind, HoldsOnly-end}
use Rattle.flow_component.specs.Alone.{HoldsOnly}
use Rattle.flow_component.specs.Happenings.{Happening, Started, Received, Ended, Sent, Learned, answer_of}
use Rattle.flow_component.specs.Runs.{Poise, Steps, Runs, EndIsLast, got, sent, fresh, text_packet}
use Rattle.flow_component.proofs.Streams.{stays-allowed, Comes-packets, contents_in, made_at, content-kind, content-text, port_zero, port_below_one}
use Rattle.flow_parts.specs.declared.fill.FillPlace.{FillPlace}
use Rattle.flow_parts.specs.declared.fill.FillPlace.TheVariants.{Waiting, Passing, Leaving}
use Rattle.flow_component.specs.Ports.{one_to_one, uses_first, receive_first}
use Rattle.flow_parts.specs.Text.{is_filled}
use Rattle.flow_parts.specs.FillState.{FillState}
use Rattle.flow_parts.specs.Fill.{line_sent, word_after, word_comes, bracket_comes, end_comes, goes_on, packet_comes, fill_next, fill_rules}
use Rattle.flow_parts.specs.FillLaws.{fill_lawful}
use Rattle.flow_parts.specs.Meanings.{fresh_fill, FillMeaning}
use Rattle.flow_parts.specs.Filling.{Each, IsNormal, IsBracket, Line, line_text, IsLine}
use Rattle.flow_parts.proofs.Fillings.{Begun, IsHand, Begun-filling, Begun-end, Begun-bracket, Begun-skip, Begun-take, Begun-break, Begun-nothing}

-- Whatever words the line is made of, y is a filling of them and then x.
abbrev From : FillState → List Tree → List Tree → Type 0
From state x y = (hand : Line) → IsHand state.size hand → state.line ≡ line_text hand → Begun state.size hand x y

-- what is to come once the packet on its way has gone
abbrev FromSent : FillState → Held → FillPlace → ℕ → List Tree → List Tree → Type 0
FromSent state held Waiting id x y = (y' : List Tree) × (y ≡ contents_in (packet_at held.packets id) ++ y') × From state x y'
FromSent state held (Passing b) id x y =
    (y' : List Tree) × (y ≡ contents_in (packet_at held.packets id) ++ contents_in (packet_at (without held.packets id) b) ++ y') × From state x y'
FromSent state held Leaving id x y = (y' : List Tree) × (y ≡ contents_in (packet_at held.packets id) ++ y') × (state.line ≡ [] → Begun state.size [] x y')

-- With this wish, y is to be sent where x is to come.
abbrev FromWish : FillState → Held → Wish → List Tree → List Tree → Type 0
FromWish state held (wishes.Receive port) x y = From state x y
FromWish state held (wishes.Send port id) x y = FromSent state held state.place id x y
FromWish state held (wishes.Level port) x y = Unit {0}
FromWish state held wishes.Deactivate x y = state.line ≡ [] → Begun state.size [] x y

abbrev FromOutcome : Outcome FillState → List Tree → List Tree → Type 0
FromOutcome (Wishes state held wish) x y = FromWish state held wish x y
FromOutcome (Fails state held cause) x y = Unit {0}

-- the line with a word more
line_text-more : (w : List ℕ) (ws : Line) (v : List ℕ) → line_text ((w ∷ ws) ++ v ∷ []) ≡ line_text (w ∷ ws) ++ 32 ∷ v
line_text-more w [] v = refl
line_text-more w (u ∷ us) v = ap (λ s. w ++ 32 ∷ s) (line_text-more u us v) ∙ sym (append_assoc w (32 ∷ line_text (u ∷ us)) (32 ∷ v))

line_text-cons : (a : ℕ) (as' : List ℕ) (ws : Line) → (s : List ℕ) × (line_text ((a ∷ as') ∷ ws) ≡ a ∷ s)
line_text-cons a as' [] = (as', refl)
line_text-cons a as' (u ∷ us) = (as' ++ 32 ∷ line_text (u ∷ us), refl)

Each-more : {X : Type 0} (P : X → Type 0) (xs : List X) (x : X) → Each P xs → P x → Each P (xs ++ x ∷ [])
Each-more P [] x h p = (p, tt)
Each-more P (y ∷ ys) x h p = (h.0, Each-more P ys x h.1 p)

-- words that are filled make a line that isn't empty
no_hand : (size : ℕ) (hand : Line) → IsHand size hand → line_text hand ≡ [] → hand ≡ []
no_hand size [] h e = refl
no_hand size ([] ∷ ws) h e = cc (h.1.0)
no_hand size ((a ∷ as') ∷ ws) h e = cc ((line_text-cons a as' ws).1)

after-long : (state : FillState) (held : Held) (t : Tree) (a : ℕ) (as' : List ℕ) (ws : Line) (b : ℕ) (bs : List ℕ) (x y : List Tree) (fits : Bool) → held.packets ≡ [] → IsNormal t → text_of t ≡ b ∷ bs
    → IsHand state.size ((a ∷ as') ∷ ws) → state.line ≡ line_text ((a ∷ as') ∷ ws) → nat_le (length (line_text ((a ∷ as') ∷ ws)) + 1 + length (b ∷ bs)) state.size ≡ fits
    → FromOutcome (if fits then Wishes (record state { line = line_text ((a ∷ as') ∷ ws) ++ 32 ∷ b ∷ bs }) held receive_first else line_sent state held (b ∷ bs) Waiting) x y
    → Begun state.size ((a ∷ as') ∷ ws) (t ∷ x) y
after-long state held t a as' ws b bs x y true p n e h l k f =
    let m : line_text (((a ∷ as') ∷ ws) ++ (b ∷ bs) ∷ []) ≡ line_text ((a ∷ as') ∷ ws) ++ 32 ∷ b ∷ bs = line_text-more (a ∷ as') ws (b ∷ bs) in
    let w : length (line_text ((a ∷ as') ∷ ws)) + 1 + length (b ∷ bs) ≤ state.size = grind (arith, nat_tests) in
    let q : length (line_text (((a ∷ as') ∷ ws) ++ (b ∷ bs) ∷ [])) ≤ state.size = rw (m, length-append (line_text ((a ∷ as') ∷ ws)) (32 ∷ b ∷ bs)) (omega arith) in
    let one : 1 ≤ length (((a ∷ as') ∷ ws) ++ (b ∷ bs) ∷ []) = omega arith in
    Begun-take state.size ((a ∷ as') ∷ ws) t b bs x y n e
    (f (((a ∷ as') ∷ ws) ++ (b ∷ bs) ∷ []) ((one, inl q), (h.1.0, Each-more (λ v. is_filled v ≡ true) ws (b ∷ bs) h.1.1 refl)) (sym m))
after-long state held t a as' ws b bs x y false p n e h l k f =
    let w : state.size < length (line_text ((a ∷ as') ∷ ws)) + 1 + length (b ∷ bs) = grind (arith, nat_tests) in
    let s : y ≡ text_packet (line_text ((a ∷ as') ∷ ws)) ∷ f.0 = f.1 ∙ ap (λ us. us ++ f.0) (made_at held state.line p) ∙ ap (λ s. text_packet s ∷ f.0) l in
    let one : IsLine state.size ((b ∷ bs) ∷ []) = (omega arith, inr refl) in
    rw s (Begun-break state.size ((a ∷ as') ∷ ws) t b bs x f.0 n e h.0 w (f.2 ((b ∷ bs) ∷ []) (one, (refl, tt)) refl))

after-word : (state : FillState) (held : Held) (t : Tree) (b : ℕ) (bs : List ℕ) (hand : Line) (x y : List Tree) → held.packets ≡ [] → IsNormal t → text_of t ≡ b ∷ bs
    → IsHand state.size hand → state.line ≡ line_text hand → FromOutcome (word_after state held (line_text hand) (b ∷ bs)) x y → Begun state.size hand (t ∷ x) y
after-word state held t b bs [] x y p n e h l f =
    let one : IsLine state.size ((b ∷ bs) ∷ []) = (omega arith, inr refl) in
    Begun-take state.size [] t b bs x y n e (f ((b ∷ bs) ∷ []) (one, (refl, tt)) refl)
after-word state held t b bs ([] ∷ ws) x y p n e h l f = cc (h.1.0)
after-word state held t b bs ((a ∷ as') ∷ ws) x y p n e h l f =
    let c = line_text-cons a as' ws in
    let g = rw c.1 at f in
    after-long state held t a as' ws b bs x y (nat_le (length (line_text ((a ∷ as') ∷ ws)) + 1 + length (b ∷ bs)) state.size) p n e h l refl (rw c.1 g)

after-text : (state : FillState) (held : Held) (t : Tree) (text : List ℕ) (x y : List Tree) → held.packets ≡ [] → IsNormal t → text_of t ≡ text
    → FromOutcome (word_comes state held text) x y → From state (t ∷ x) y
after-text state held t [] x y p n e f hand h l = Begun-skip state.size hand t x y n e (f hand h l)
after-text state held t (b ∷ bs) x y p n e f hand h l = after-word state held t b bs hand x y p n e h l (subst (λ s. FromOutcome (word_after state held s (b ∷ bs)) x y) l f)

after-bracket : (state : FillState) (held : Held) (t : Tree) (line : List ℕ) (x y : List Tree) → state.place ≡ Waiting → (h : HoldsOnly held (id_of t)) → t ≡ h.packet → IsBracket (content t)
    → state.line ≡ line → FromOutcome (bracket_comes state held (id_of t) line) x y → From state (content t ∷ x) y
after-bracket state held t [] x y p h e b l f hand i m =
    let a : packet_at held.packets (id_of t) ≡ Some t = HoldsOnly-packet_at held (id_of t) h ∙ ap Some (sym e) in
    let g : FromSent state held Waiting (id_of t) x y = rw p at f in
    let s : y ≡ content t ∷ g.0 = g.1 ∙ ap (λ o. contents_in o ++ g.0) a in
    let n : hand ≡ [] = no_hand state.size hand i (sym m ∙ l) in
    rw (n, s) (Begun-bracket state.size [] (content t) x g.0 tt b (g.2 [] tt l))
after-bracket state held t (c ∷ cs) x y p h e b l f [] i m = cc
after-bracket state held t (c ∷ cs) x y p h e b l f (w ∷ ws) i m =
    let made = with_made held Normal state.line in
    let a : packet_at made.packets (next_id held) ≡ Some (packet_of (next_id held) Normal state.line []) = HoldsOnly-made_at held (id_of t) Normal state.line h in
    let o : without made.packets (next_id held) ≡ t ∷ [] = HoldsOnly-made held (id_of t) Normal state.line h ∙ ap (λ u. u ∷ []) (sym e) in
    let k = same_id (id_of t) in
    let g : packet_at (without made.packets (next_id held)) (id_of t) ≡ Some t = rw (o, k) refl in
    let s : y ≡ text_packet (line_text (w ∷ ws)) ∷ content t ∷ f.0 = f.1 ∙ (λ j. contents_in (a j) ++ contents_in (g j) ++ f.0) ∙ ap (λ u. text_packet u ∷ content t ∷ f.0) m in
    rw s (Begun-bracket state.size (w ∷ ws) (content t) x f.0 i b (f.2 [] tt refl))

after-end : (state : FillState) (held : Held) (line : List ℕ) (x y : List Tree) → held.packets ≡ [] → x ≡ [] → state.line ≡ line → FromOutcome (end_comes state held line) x y → From state x y
after-end state held [] x y p e l f hand i m = let n : hand ≡ [] = no_hand state.size hand i (sym m ∙ l) in rw n (f l)
after-end state held (c ∷ cs) x y p e l f [] i m = cc
after-end state held (c ∷ cs) x y p e l f (w ∷ ws) i m =
    let z : f.0 ≡ [] = Begun-nothing state.size x f.0 e (f.2 refl) in
    let s : y ≡ text_packet (line_text (w ∷ ws)) ∷ [] = f.1 ∙ ap (λ us. us ++ f.0) (made_at held state.line p) ∙ (λ j. text_packet (m j) ∷ z j) in
    rw (e, s) (Begun-end state.size (w ∷ ws) i)

after-packet : (state : FillState) (held : Held) (t : Tree) (kind : Kind) (x y : List Tree) → state.place ≡ Waiting → (h : HoldsOnly held (id_of t)) → t ≡ h.packet → kind_of (content t) ≡ kind
    → FromOutcome (packet_comes state held (id_of t) kind) x y → From state (content t ∷ x) y
after-packet state held t Normal x y p h e k f =
    let w : text_of (content t) ≡ text_at held.packets (id_of t) = content-text t ∙ ap text_of e ∙ sym (HoldsOnly-text held (id_of t) h) in
    after-text state (without_packet held (id_of t)) (content t) (text_at held.packets (id_of t)) x y (HoldsOnly-without held (id_of t) h) k w f
after-packet state held t Open x y p h e k f = after-bracket state held t state.line x y p h e (λ n. cc) refl f
after-packet state held t Close x y p h e k f = after-bracket state held t state.line x y p h e (λ n. cc) refl f

after-sent : (state : FillState) (held : Held) (t : Tree) (place : FillPlace) (x y : List Tree) → packet_at held.packets (id_of t) ≡ Some t
    → FromOutcome (goes_on state (without_packet held (id_of t)) place) x y → FromSent state held place (id_of t) x (content t ∷ y)
after-sent state held t Waiting x y a f = (y, rw a refl, f)
after-sent state held t (Passing b) x y a f = (f.0, rw a (ap (λ us. content t ∷ us) f.1), f.2)
after-sent state held t Leaving x y a f = (y, rw a refl, f)

allowed : (p : Poise FillState) (e : Happening) (m : Poise FillState) → Steps fill_rules p e m → IsAllowed one_to_one uses_first m.held m.wish
allowed p e m s = stays-allowed fill_rules fill_lawful p e m s

-- what holds of the outcome, once it holds of where it leads
later : (p : Poise FillState) (e : Happening) (m : Poise FillState) (es : List Happening) (s : Steps fill_rules p e m) → FromWish m.component m.held m.wish (got 0 es) (sent 0 es)
    → FromOutcome (fill_next p.component s.held (answer_of e)) (got 0 es) (sent 0 es)
later p e m es s h = subst (λ o. FromOutcome o (got 0 es) (sent 0 es)) s.comes_to h

fill_run : (events : List Happening) (p q : Poise FillState) → Runs fill_rules p events q → EndIsLast 0 events → q.wish ≡ wishes.Deactivate → IsAllowed one_to_one uses_first p.held p.wish
    → FromWish p.component p.held p.wish (got 0 events) (sent 0 events)
fill_run [] p q r l d a =
    let w : p.wish ≡ wishes.Deactivate = ap (λ (u : Poise FillState). u.wish) (sym r) ∙ d in
    rw w (λ n. Begun-end p.component.size [] tt)
fill_run (Started ∷ es) p q r l d a =
    let f : From p.component (got 0 es) (sent 0 es) = later p Started r.0 es r.1 (fill_run es r.0 q r.2 l d (allowed p Started r.0 r.1)) in
    rw r.1.grants.0 (λ n. f [] tt n)
fill_run (Received port t ∷ es) p q r l d a =
    let held = r.1.held in
    let b : port < 1 = rw r.1.grants.0 at a in
    let z : nat_eq 0 port ≡ true = port_below_one port b in
    let h = r.1.is_ready.1 in
    let e : t ≡ h.packet = HoldsOnly-end held p.held.packets t (Comes-packets p.held t held r.1.grants.1) h in
    let k : kind_of (content t) ≡ kind_at held.packets (id_of t) = content-kind t ∙ ap kind_of e ∙ sym (HoldsOnly-kind held (id_of t) h) in
    let f = later p (Received port t) r.0 es r.1 (fill_run es r.0 q r.2 l d (allowed p (Received port t) r.0 r.1)) in
    rw (z, r.1.grants.0) (after-packet p.component held t (kind_at held.packets (id_of t)) (got 0 es) (sent 0 es) r.1.is_ready.0 h e k f)
fill_run (Ended port ∷ es) p q r l d a =
    let b : port < 1 = rw r.1.grants.0 at a in
    let z : port ≡ 0 = omega arith in
    let n : got 0 es ≡ [] = l.0 z in
    let f = later p (Ended port) r.0 es r.1 (fill_run es r.0 q r.2 l.1 d (allowed p (Ended port) r.0 r.1)) in
    rw r.1.grants.0 (after-end p.component r.1.held p.component.line (got 0 es) (sent 0 es) r.1.is_ready.1 n refl f)
fill_run (Sent port t ∷ es) p q r l d a =
    let z : nat_eq 0 port ≡ true = port_zero port (rw r.1.grants.0 at a).0 in
    let f = later p (Sent port t) r.0 es r.1 (fill_run es r.0 q r.2 l d (allowed p (Sent port t) r.0 r.1)) in
    let g : FromOutcome (goes_on p.component (without_packet p.held (id_of t)) p.component.place) (got 0 es) (sent 0 es) = subst (λ (h : Held). FromOutcome (goes_on p.component h p.component.place) (got 0 es) (sent 0 es)) r.1.grants.2 f in
    rw (z, r.1.grants.0) (after-sent p.component p.held t p.component.place (got 0 es) (sent 0 es) r.1.grants.1 g)
fill_run (Learned port level ∷ es) p q r l d a = absurd r.1.is_ready

-- Over a whole run it sends what its meaning makes of what it got.
pub fill_meaning : FillMeaning
fill_meaning size told run l = Begun-filling size (got 0 told) (sent 0 told) (fill_run told (fresh (fresh_fill size) run.maker) run.last run.runs l run.idle tt refl)
