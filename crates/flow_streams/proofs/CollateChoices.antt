-- Where a run of Collate stands, and what it makes from a choice on.
use Rattle.std.proofs.Common.{◌≡◌, ◌≢◌, ℕ, zero, suc, ◌+◌, ◌-◌, ◌<◌, ◌≤◌, Bool, true, false, List, [], ◌∷◌, ◌++◌, length, take, refl, sym, ap, ◌∙◌, subst, arith, nat_eq, nat_lt, if◌then◌else◌, inl, inr, Option, Some, None, append_assoc, append-nil}
use Rattle.std.specs.Prelude.{slice_index, remove}
use Rattle.std.specs.Ordering.{nat_cmp, ordering_then, ordering_reverse, is_lt, is_gt}
use Rattle.std.specs.declared.cmp.Ordering.{Ordering}
use Rattle.std.specs.declared.cmp.Ordering.TheVariants.{Less, Equal, Greater}
use Rattle.std.specs.Cmp.Lexicographic.{slice_cmp}
use Rattle.std.proofs.lemmas.Bool.Decides.{nat_tests}
use Rattle.std.proofs.lemmas.Cmp.{nat_list_cmp_total}
use Rattle.flow_packet.specs.declared.packet.Kind.{Kind}
use Rattle.flow_packet.specs.declared.packet.Kind.TheVariants.{Open, Close}
use Rattle.flow_packet.specs.Tree.{Tree, content, id_of, text_of, packet_of}
use Rattle.flow_packet.specs.Hands.{packet_at, without}
use Rattle.flow_packet.specs.Held.{Held, Sound, next_id, with_made}
use Rattle.flow_component.specs.declared.Wish.TheVariants as wishes
use Rattle.flow_component.specs.Laws.{Outcome, Wishes}
use Rattle.flow_component.specs.Ports.{send_first}
use Rattle.flow_component.specs.Happenings.{Happening, Received}
use Rattle.flow_component.specs.Runs.{Poise, Steps, Runs, got, sent, HeardEnd, Wakes, starts}
use Rattle.flow_component.proofs.Roots.{same_id}
use Rattle.flow_component.proofs.Several.{Sound-new, made-left, packet_at-last}
use Rattle.flow_component.proofs.Streams.{content-text}
use Rattle.flow_streams.specs.declared.collate.CollatePlace.{CollatePlace}
use Rattle.flow_streams.specs.declared.collate.CollatePlace.TheVariants.{Filling, Refilling, Turning, Leaving}
use Rattle.flow_streams.specs.CollateState.{CollateState}
use Rattle.flow_streams.specs.Collation.{width, key, packet_there, first_of, levels_that_differ}
use Rattle.flow_streams.specs.Collate.{receive_from, whole, sends_bracket, sends_packet, turns, closing, turns_to, leaves, chosen, chooses, AreInputs, collate_rules}
use Rattle.flow_streams.specs.CollateLaws.{first-none, first-within, length-remove, inputs-remove, inputs-at}
use Rattle.flow_streams.specs.Collated.{has_less, merge_all, closes, opens, turn, bracketed, listed}
use Rattle.flow_streams.proofs.Levels.{full, no-level, opens-cut, bracketed-same, cut-cut}
use Rattle.flow_streams.proofs.Merging.{first-least, merge-first, merge-none}
use Rattle.flow_streams.proofs.Seats.{NotIn, Distinct, seated, NotIn-remove, Distinct-remove, NotIn-at, NotIn-taken, NotIn-left, seated-none, seated-at, seated-remove, Place, found_in, without-there, found-there}

pub got-skip : (i k : ℕ) (t : Tree) (es : List Happening) → i ≢ k → got i (Received k t ∷ es) ≡ got i es
got-skip i k t es other = let z : nat_eq i k ≡ false = grind (arith, nat_tests) in rw z refl

pub got-here : (k : ℕ) (t : Tree) (es : List Happening) → got k (Received k t ∷ es) ≡ content t ∷ got k es
got-here k t es = let z = same_id k in rw z refl

-- What it holds: the packets, the inputs that they came from, and what it knows of the packet sent before.
pub record Store : Type 0 where
  pub owners : List ℕ
  pub packets : List Tree
  pub opened : Bool
  pub last : List ℕ

pub data Phase : Type 0 where
  Fills : Store → ℕ → Phase
  Receives : Store → ℕ → Phase
  Passes : Store → ℕ → Tree → Phase
  Turns : Store → ℕ → ℕ → ℕ → Tree → Phase
  Leaves : Store → ℕ → Tree → Phase
  Over : Phase

abbrev pub state_of : List ℕ → ℕ → Store → CollatePlace → CollateState
state_of fields n st place = record { fields = fields; elements = n; owners = st.owners; opened = st.opened; last = st.last; place = place }

pub record Based (n : ℕ) (st : Store) : Type 0 where
  pub each : length st.owners ≡ length st.packets
  pub distinct : Distinct st.owners
  pub inputs : AreInputs n st.owners

-- The end was heard of each input from which nothing is held, and for which it doesn't wait.
abbrev pub Rest : ℕ → List Happening → List ℕ → (ℕ → Type 0) → Type 0
Rest n before owners W = (f : ℕ) → f < n → NotIn f owners → (W f → ⊥) → HeardEnd f before

pub record Sending (p : Poise CollateState) (t : Tree) (ts : List Tree) : Type 0 where
  pub wish : p.wish ≡ send_first (id_of t)
  pub found : packet_at p.held.packets (id_of t) ≡ Some t
  pub gone : without p.held.packets (id_of t) ≡ ts

abbrev pub nobody : ℕ → Type 0
nobody f = ⊥

abbrev pub Stands : List ℕ → ℕ → List Happening → Poise CollateState → Phase → Type 0
Stands fields n before p (Fills st e) = (p.wish ≡ receive_from e) × (p.component ≡ state_of fields n st (Filling e)) × (p.held.packets ≡ st.packets) × Based n st × (e < n) × Rest n before st.owners (λ f. e ≤ f) × ((f : ℕ) → e ≤ f → NotIn f st.owners) × (st.opened ≡ false)
Stands fields n before p (Receives st e) = (p.wish ≡ receive_from e) × (p.component ≡ state_of fields n st (Refilling e)) × (p.held.packets ≡ st.packets) × Based n st × (e < n) × Rest n before st.owners (λ f. f ≡ e) × NotIn e st.owners × (st.opened ≡ true)
Stands fields n before p (Passes st e t) = Sending p t st.packets × (p.component ≡ state_of fields n st (Refilling e)) × Based n st × (e < n) × Rest n before st.owners (λ f. f ≡ e) × NotIn e st.owners × (st.opened ≡ true)
Stands fields n before p (Turns st c o i b) = Sending p b st.packets × (p.component ≡ state_of fields n st (Turning c o i)) × Based n st × (i < length st.owners) × Rest n before st.owners nobody × (st.opened ≡ true)
Stands fields n before p (Leaves st c b) = Sending p b st.packets × (p.component ≡ state_of fields n st (Leaving c)) × Based n st × (st.owners ≡ []) × Rest n before st.owners nobody
Stands fields n before p Over = (p.wish ≡ wishes.Deactivate) × (before ≢ []) × ((f : ℕ) → f < n → HeardEnd f before)

abbrev pub streams : Store → List Happening → ℕ → List Tree
streams st es f = seated st.owners st.packets f ++ got f es

abbrev pub merged : List ℕ → ℕ → Store → List Happening → List Tree
merged fields n st es = merge_all (full fields) (listed 0 n (streams st es))

abbrev pub removed : Store → ℕ → Store
removed st i = record { owners = remove st.owners i; packets = remove st.packets i; opened = st.opened; last = st.last }

pub record Makes (n : ℕ) (before : List Happening) (owners : List ℕ) (W : ℕ → Type 0) (due : List Tree) (es : List Happening) : Type 0 where
  pub all : sent 0 es ≡ due
  pub none : (f : ℕ) → f < n → NotIn f owners → (W f → ⊥) → got f es ≡ []
  pub once : starts es ≡ 0
  pub heard : (f : ℕ) → f < n → HeardEnd f (before ++ es)

abbrev pub rest_due : List ℕ → ℕ → Store → ℕ → List Happening → List Tree
rest_due fields n st i es = content (packet_there st.packets i) ∷ bracketed fields (Some st.last) (merged fields n (removed st i) es)

abbrev pub Leads : List ℕ → ℕ → List Happening → Phase → List Happening → Type 0
Leads fields n before (Fills st e) es = Makes n before st.owners (λ f. e ≤ f) (bracketed fields None (merged fields n st es)) es
Leads fields n before (Receives st e) es = Makes n before st.owners (λ f. f ≡ e) (bracketed fields (Some st.last) (merged fields n st es)) es
Leads fields n before (Passes st e t) es = Makes n before st.owners (λ f. f ≡ e) (content t ∷ bracketed fields (Some st.last) (merged fields n st es)) es
Leads fields n before (Turns st c o i b) es = Makes n before st.owners nobody (content b ∷ closes c ++ (opens fields o st.last ++ rest_due fields n st i es)) es
Leads fields n before (Leaves st c b) es = Makes n before st.owners nobody (content b ∷ closes c) es
Leads fields n before Over es = es ≡ []

abbrev pub Step : Poise CollateState → Happening → Poise CollateState → Type 0
Step p e m = Steps collate_rules p e m

abbrev pub Run : Poise CollateState → List Happening → Poise CollateState → Type 0
Run p es q = Runs collate_rules p es q

abbrev pub Rec : List ℕ → ℕ → List Happening → Poise CollateState → Type 0
Rec fields n es q = (before : List Happening) (p : Poise CollateState) (phase : Phase) → Stands fields n before p phase → Run p es q → Wakes n before es → Leads fields n before phase es

-- A poise that comes of an outcome.
abbrev pub Comes_of : Poise CollateState → Outcome CollateState → Type 0
Comes_of m outcome = Wishes m.component m.held m.wish ≡ outcome

-- What a run makes that goes on from a choice, with nothing awaited.
abbrev pub From : ℕ → List Happening → Store → List Tree → List Happening → Type 0
From n before st due es = Makes n before st.owners nobody due es

pub turns-open : (state : CollateState) (held : Held) (o i : ℕ) → turns state held 0 (suc o) i ≡ sends_bracket state held (Turning 0 o i) Open (take (width state.fields (length state.fields - o)) state.last)
turns-open state held o i =
    let f : nat_eq (suc o) 0 ≡ false = grind (arith, nat_tests) in
    let e : suc o - 1 ≡ o = omega arith in
    rw (f, e) refl

pub turns-close : (state : CollateState) (held : Held) (c o i : ℕ) → turns state held (suc c) o i ≡ sends_bracket state held (Turning c o i) Close []
turns-close state held c o i =
    let f : nat_eq (suc c) 0 ≡ false = grind (arith, nat_tests) in
    let e : suc c - 1 ≡ c = omega arith in
    rw (f, e) refl

pub leaves-close : (state : CollateState) (held : Held) (c : ℕ) → leaves state held (suc c) ≡ sends_bracket state held (Leaving c) Close []
leaves-close state held c =
    let f : nat_eq (suc c) 0 ≡ false = grind (arith, nat_tests) in
    let e : suc c - 1 ≡ c = omega arith in
    rw (f, e) refl

pub turns_to-more : (state : CollateState) (held : Held) (i l : ℕ) → turns_to state held i (suc l) ≡ turns (record state { opened = true; last = key (whole state) (packet_there held.packets i) }) held (closing state (suc l)) (suc l) i
turns_to-more state held i l = let f : nat_eq (suc l) 0 ≡ false = grind (arith, nat_tests) in rw f refl

pub below-less : (o : Ordering) (e f : ℕ) → is_gt (ordering_then o (nat_cmp e f)) ≡ false → f < e → is_lt o ≡ true
below-less Less e f h l = refl
below-less Equal e f h l = absurd (let g : is_gt (nat_cmp e f) ≡ true = nat_gt in cc)
  where
    nat_gt : is_gt (nat_cmp e f) ≡ true
    nat_gt = let a : nat_lt e f ≡ false = grind (arith, nat_tests) in let b : nat_eq e f ≡ false = grind (arith, nat_tests) in rw (a, b) refl
below-less Greater e f h l = absurd (cc)

pub above-less : (o : Ordering) (e f : ℕ) → is_gt (ordering_then o (nat_cmp e f)) ≡ false → is_lt (ordering_reverse o) ≡ false
above-less Less e f h = refl
above-less Equal e f h = refl
above-less Greater e f h = absurd (cc)

pub less-content : (bytes : ℕ) (t u : Tree) → has_less bytes (content t) (content u) ≡ has_less bytes t u
less-content bytes t u = λ i. is_lt (slice_cmp nat_cmp (take bytes (content-text t i)) (take bytes (content-text u i)))

-- the packet that is chosen is the first of the merge
pub next-merge : (fields : List ℕ) (n : ℕ) (st : Store) (es : List Happening) (i : ℕ) → Based n st → i < length st.owners → first_of (full fields) st.owners st.packets ≡ Some i
    → ((f : ℕ) → f < n → NotIn f st.owners → got f es ≡ []) → merged fields n st es ≡ content (packet_there st.packets i) ∷ merged fields n (removed st i) es
next-merge fields n st es i b l first none =
    merge-first bytes (streams st es) (streams (removed st i) es) e (content t) (got e es)
    (ap (λ (s : List Tree). s ++ got e es) (seated-at owners ts i b.each l b.distinct))
    (ap (λ (s : List Tree). s ++ got e es) (seated-none (remove owners i) (remove ts i) e (NotIn-taken owners i l b.distinct)))
    (λ f o. ap (λ (s : List Tree). s ++ got f es) (sym (seated-remove owners ts i f b.each l (λ h. o (sym h)))))
    n 0 (omega arith) (let k = inputs-at n owners i b.inputs l in omega arith) below above
  where
    bytes : ℕ
    bytes = full fields

    owners : List ℕ
    owners = st.owners

    ts : List Tree
    ts = st.packets

    e : ℕ
    e = slice_index owners i

    t : Tree
    t = packet_there ts i

    -- an input that gives a packet next has one that is held
    held-there : (f : ℕ) → f < n → (u : Tree) (us : List Tree) → streams st es f ≡ u ∷ us → (place : Place owners f) × (u ≡ content (packet_there ts place.at))
    held-there f m u us h = elim (found_in owners f) [
      | inl nf ↦ absurd (let z : streams st es f ≡ [] = (λ j. seated-none owners ts f nf j ++ none f m nf j) in cc)
      | inr p ↦
          let at : seated owners ts f ≡ content (packet_there ts p.at) ∷ [] = subst (λ (g : ℕ). seated owners ts g ≡ content (packet_there ts p.at) ∷ []) p.is (seated-at owners ts p.at b.each p.within b.distinct) in
          let y : streams st es f ≡ content (packet_there ts p.at) ∷ got f es = ap (λ (s : List Tree). s ++ got f es) at in
          (p, cc)
    ]

    below : (f : ℕ) → f < e → (u : Tree) (us : List Tree) → streams st es f ≡ u ∷ us → has_less bytes (content t) u ≡ true
    below f m u us h =
        let k = inputs-at n owners i b.inputs l in
        let r = held-there f (omega arith) u us h in
        let p = r.0 in
        let v = packet_there ts p.at in
        let g = first-least bytes owners ts i b.each first p.at p.within in
        ap (has_less bytes (content t)) r.1 ∙ less-content bytes t v ∙ below-less (slice_cmp nat_cmp (key bytes t) (key bytes v)) e (slice_index owners p.at) g (let x = p.is in omega arith)

    above : (f : ℕ) → e < f → f < 0 + n → (u : Tree) (us : List Tree) → streams st es f ≡ u ∷ us → has_less bytes u (content t) ≡ false
    above f m k u us h =
        let r = held-there f (omega arith) u us h in
        let p = r.0 in
        let v = packet_there ts p.at in
        let g = first-least bytes owners ts i b.each first p.at p.within in
        ap (λ (x : Tree). has_less bytes x (content t)) r.1 ∙ less-content bytes v t ∙ ap is_lt (nat_list_cmp_total.antisymm (key bytes v) (key bytes t)) ∙ above-less (slice_cmp nat_cmp (key bytes t) (key bytes v)) e (slice_index owners p.at) g

abbrev pub store : List ℕ → Held → Bool → List ℕ → Store
store owners held opened last = record { owners = owners; packets = held.packets; opened = opened; last = last }

abbrev pub prev : Bool → List ℕ → Option (List ℕ)
prev opened last = if opened then Some last else None

pub close-due : (fields : List ℕ) (b : Bool) (last : List ℕ) → closes (if b then length fields else 0) ≡ bracketed fields (prev b last) []
close-due fields true last = refl
close-due fields false last = refl

module _ (fields : List ℕ) (n : ℕ) (some : 1 ≤ length fields) (es : List Happening) (q : Poise CollateState) (rec : Rec fields n es q) (before : List Happening) (m : Poise CollateState) (run : Run m es q) (w : Wakes n before es) (h : Held) (sound : Sound h) where
  -- a bracket that was made stands last in the hands, and is gone when it is sent
  pub made : (kind : Kind) (text : List ℕ) → m.held ≡ with_made h kind text → m.wish ≡ send_first (next_id h) → Sending m (packet_of (next_id h) kind text []) h.packets
  made kind text held wish =
      let new = Sound-new h sound in
      record {
        wish = wish;
        found = ap (λ (u : Held). packet_at u.packets (next_id h)) held ∙ packet_at-last h.packets (packet_of (next_id h) kind text []) new;
        gone = ap (λ (u : Held). without u.packets (next_id h)) held ∙ made-left h kind text new;
      }

  module _ (owners : List ℕ) (opened : Bool) (last : List ℕ) (place : CollatePlace) (b : Based n (store owners h opened last)) where
    abbrev st : Store
    st = store owners h opened last

    abbrev state : CollateState
    state = state_of fields n (store owners h opened last) place

    pub packet-sent : (i : ℕ) → Comes_of m (sends_packet (state_of fields n (store owners h opened last) place) h i) → i < length owners → Rest n before owners nobody → opened ≡ true
        → From n before (store owners h opened last) (rest_due fields n (store owners h opened last) i es) es
    packet-sent i c l r o =
        let st = store owners h opened last in
        let e = slice_index owners i in
        let t = packet_there h.packets i in
        let component : m.component ≡ state_of fields n (removed st i) (Refilling e) = cc in
        let held : m.held ≡ h = cc in
        let wish : m.wish ≡ send_first (id_of t) = cc in
        let lt : i < length h.packets = (let x = b.each in omega arith) in
        let sending : Sending m t (remove h.packets i) = record {
          wish = wish;
          found = ap (λ (u : Held). packet_at u.packets (id_of t)) held ∙ found-there h.packets i lt sound.once;
          gone = ap (λ (u : Held). without u.packets (id_of t)) held ∙ without-there h.packets i lt sound.once;
        } in
        let less = length-remove owners i l in
        let fewer = length-remove h.packets i lt in
        let based : Based n (removed st i) = record { each = (let x = b.each in omega arith); distinct = Distinct-remove owners i b.distinct; inputs = inputs-remove n owners i b.inputs } in
        let makes = rec before m (Passes (removed st i) e t) (
          sending,
          component,
          based,
          inputs-at n owners i b.inputs l,
          (λ f lf nf other. r f lf (NotIn-left f owners i l nf (λ x. other (sym x))) (λ x. x)),
          NotIn-taken owners i l b.distinct,
          o,
        ) run w in
        record { all = makes.all; none = λ f lf nf other. makes.none f lf (NotIn-remove f owners i nf) (λ x. NotIn-at f owners i l nf (sym x)); once = makes.once; heard = makes.heard }

    pub bracket-sent : (c o i : ℕ) (kind : Kind) (text : List ℕ) → Comes_of m (sends_bracket (state_of fields n (store owners h opened last) place) h (Turning c o i) kind text) → i < length owners → Rest n before owners nobody → opened ≡ true
        → From n before (store owners h opened last) (packet_of 0 kind text [] ∷ closes c ++ (opens fields o last ++ rest_due fields n (store owners h opened last) i es)) es
    bracket-sent c o i kind text is l r op =
        let st = store owners h opened last in
        let component : m.component ≡ state_of fields n st (Turning c o i) = cc in
        let held : m.held ≡ with_made h kind text = cc in
        let wish : m.wish ≡ send_first (next_id h) = cc in
        rec before m (Turns st c o i (packet_of (next_id h) kind text [])) (made kind text held wish, component, b, l, r, op) run w

    pub turns-made : (c o i : ℕ) → Comes_of m (turns (state_of fields n (store owners h opened last) place) h c o i) → i < length owners → Rest n before owners nobody → opened ≡ true
        → From n before (store owners h opened last) (closes c ++ (opens fields o last ++ rest_due fields n (store owners h opened last) i es)) es
    turns-made zero zero i is l r op = packet-sent i is l r op
    turns-made zero (suc o) i is l r op =
        let st = store owners h opened last in
        bracket-sent 0 o i Open (take (width fields (length fields - o)) last) (is ∙ turns-open (state_of fields n st place) h o i) l r op
    turns-made (suc c) o i is l r op =
        let st = store owners h opened last in
        bracket-sent c o i Close [] (is ∙ turns-close (state_of fields n st place) h c o i) l r op

    pub leaves-made : (c : ℕ) → Comes_of m (leaves (state_of fields n (store owners h opened last) place) h c) → owners ≡ [] → Rest n before owners nobody → before ≢ []
        → From n before (store owners h opened last) (closes c) es
    leaves-made zero is none r begun =
        let wish : m.wish ≡ wishes.Deactivate = cc in
        let heard : (f : ℕ) → f < n → HeardEnd f before = λ f l. r f l (subst (NotIn f) (sym none) tt) (λ x. x) in
        let over : es ≡ [] = rec before m Over (wish, begun, heard) run w in
        record {
          all = ap (sent 0) over;
          none = λ f l nf other. ap (got f) over;
          once = ap starts over;
          heard = λ f l. subst (λ (fs : List Happening). HeardEnd f (before ++ fs)) (sym over) (subst (HeardEnd f) (sym (append-nil before)) (heard f l));
        }
    leaves-made (suc c) is none r begun =
        let st = store owners h opened last in
        let is' : Comes_of m (sends_bracket (state_of fields n st place) h (Leaving c) Close []) = is ∙ leaves-close (state_of fields n st place) h c in
        let component : m.component ≡ state_of fields n st (Leaving c) = cc in
        let held : m.held ≡ with_made h Close [] = cc in
        let wish : m.wish ≡ send_first (next_id h) = cc in
        rec before m (Leaves st c (packet_of (next_id h) Close [] [])) (made Close [] held wish, component, b, none, r) run w

  module _ (owners : List ℕ) (opened : Bool) (last : List ℕ) (place : CollatePlace) (b : Based n (store owners h opened last)) where
    pub turned-to : (i levels : ℕ) → Comes_of m (turns_to (state_of fields n (store owners h opened last) place) h i levels) → i < length owners → Rest n before owners nobody
        → (levels ≡ 0 → (opened ≡ true) × (take (full fields) last ≡ take (full fields) (text_of (packet_there h.packets i))))
        → From n before (store owners h opened last) (closes (if opened then levels else 0) ++ (opens fields levels (text_of (packet_there h.packets i)) ++ content (packet_there h.packets i) ∷ bracketed fields (Some (text_of (packet_there h.packets i))) (merged fields n (removed (store owners h opened last) i) es))) es
    turned-to i zero is l r same =
        let st = store owners h opened last in
        let t = packet_there h.packets i in
        let made = packet-sent owners opened last place b i is l r (same refl).0 in
        let next = bracketed-same fields last (text_of t) (merged fields n (removed st i) es) (same refl).1 in
        let none : closes (if opened then 0 else 0) ≡ [] = elim opened as (λ v. closes (if v then 0 else 0) ≡ []) [ true ↦ refl | false ↦ refl ] in
        record {
          all = made.all ∙ ap (λ (ts : List Tree). content t ∷ ts) next ∙ ap (λ (ts : List Tree). ts ++ content t ∷ bracketed fields (Some (text_of t)) (merged fields n (removed st i) es)) (sym none);
          none = made.none;
          once = made.once;
          heard = made.heard;
        }
    turned-to i (suc levels) is l r same =
        let st = store owners h opened last in
        let t = packet_there h.packets i in
        let new = take (full fields) (text_of t) in
        let based : Based n (store owners h true new) = record { each = b.each; distinct = b.distinct; inputs = b.inputs } in
        let made = turns-made owners true new place based (if opened then suc levels else 0) (suc levels) i (is ∙ turns_to-more (state_of fields n st place) h i levels) l r refl in
        let next = bracketed-same fields new (text_of t) (merged fields n (removed st i) es) (cut-cut fields (text_of t)) in
        record {
          all = made.all ∙ (λ j. closes (if opened then suc levels else 0) ++ (opens-cut fields (suc levels) (text_of t) j ++ content t ∷ next j));
          none = made.none;
          once = made.once;
          heard = made.heard;
        }

    pub chosen-made : (o : Option ℕ) → o ≡ first_of (full fields) owners h.packets → Comes_of m (chosen (state_of fields n (store owners h opened last) place) h o) → Rest n before owners nobody → before ≢ []
        → From n before (store owners h opened last) (bracketed fields (prev opened last) (merged fields n (store owners h opened last) es)) es
    chosen-made None first is r begun =
        let st = store owners h opened last in
        let none : owners ≡ [] = first-none (full fields) owners h.packets b.each (sym first) in
        let made = leaves-made owners opened last place b (if opened then length fields else 0) is none r begun in
        let empty : merged fields n st es ≡ [] = merge-none (full fields) (streams st es) n 0 (λ f l k.
        let nf : NotIn f owners = subst (NotIn f) (sym none) tt in
        λ j. seated-none owners h.packets f nf j ++ made.none f (omega arith) nf (λ x. x) j) in
        record {
          all = made.all ∙ close-due fields opened last ∙ ap (bracketed fields (prev opened last)) (sym empty);
          none = made.none;
          once = made.once;
          heard = made.heard;
        }
    chosen-made (Some i) first is r begun =
        let st = store owners h opened last in
        let t = packet_there h.packets i in
        let l : i < length owners = first-within (full fields) owners h.packets i (sym first) in
        let made = turned-to i (if opened then levels_that_differ fields last (text_of t) else length fields) is l r (no-levels opened refl t) in
        let next = next-merge fields n st es i b l (sym first) (λ f k nf. made.none f k nf (λ x. x)) in
        let M = merged fields n (removed st i) es in
        record {
          all = made.all ∙ turn-due opened t M ∙ ap (bracketed fields (prev opened last)) (sym next);
          none = made.none;
          once = made.once;
          heard = made.heard;
        }
      where
        no-levels : (v : Bool) → opened ≡ v → (t : Tree) → (if v then levels_that_differ fields last (text_of t) else length fields) ≡ 0 → (opened ≡ true) × (take (full fields) last ≡ take (full fields) (text_of t))
        no-levels true v t z = (v, no-level fields last (text_of t) some z)
        no-levels false v t z = absurd (omega arith)

        turn-due : (v : Bool) (t : Tree) (M : List Tree) → closes (if v then (if v then levels_that_differ fields last (text_of t) else length fields) else 0) ++ (opens fields (if v then levels_that_differ fields last (text_of t) else length fields) (text_of t) ++ content t ∷ bracketed fields (Some (text_of t)) M)
            ≡ bracketed fields (prev v last) (content t ∷ M)
        turn-due true t M =
            let text = text_of t in
            let n = levels_that_differ fields last text in
            sym (append_assoc (closes n) (opens fields n text) (content t ∷ bracketed fields (Some text) M))
            ∙ (λ j. turn fields (Some last) (sym (content-text t) j) ++ content t ∷ bracketed fields (Some (sym (content-text t) j)) M)
        turn-due false t M = λ j. turn fields None (sym (content-text t) j) ++ content t ∷ bracketed fields (Some (sym (content-text t) j)) M

  -- STEPS

  -- after the first packet or the end of an input
  module _ (owners : List ℕ) (opened : Bool) (last : List ℕ) (e : ℕ) (b : Based n (store owners h opened last)) (op : opened ≡ false) where
    pub filled : (v : Bool) → nat_lt (e + 1) n ≡ v
        → Comes_of m (if v then Wishes (state_of fields n (store owners h opened last) (Filling (e + 1))) h (receive_from (e + 1)) else chooses (state_of fields n (store owners h opened last) (Filling e)) h)
        → Rest n before owners (λ f. e + 1 ≤ f) → ((f : ℕ) → e + 1 ≤ f → NotIn f owners) → before ≢ []
        → Makes n before owners (λ f. e + 1 ≤ f) (bracketed fields None (merged fields n (store owners h opened last) es)) es
    filled true t is r later begun =
        let st = store owners h opened last in
        let l : e + 1 < n = grind (arith, nat_tests) in
        let component : m.component ≡ state_of fields n st (Filling (e + 1)) = cc in
        let held : m.held ≡ h = cc in
        let wish : m.wish ≡ receive_from (e + 1) = cc in
        rec before m (Fills st (e + 1)) (wish, component, ap (λ (u : Held). u.packets) held, b, l, r, later, op) run w
    filled false t is r later begun =
        let l : n ≤ e + 1 = grind (arith, nat_tests) in
        let made = chosen-made owners opened last (Filling e) b (first_of (full fields) owners h.packets) refl is (λ f k nf other. r f k nf (λ u. omega arith)) begun in
        record { all = made.all ∙ ap (λ (v : Bool). bracketed fields (prev v last) (merged fields n (store owners h opened last) es)) op; none = λ f k nf other. made.none f k nf (λ x. x); once = made.once; heard = made.heard }
