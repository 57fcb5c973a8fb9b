-- What Tally sends is the tally of what it gets.
use Rattle.flow_limits.specs.declared.TheConstants.{TEXT_LIMIT, TURN_LIMIT}
use Rattle.std.proofs.Common.{◌≡◌, ℕ, ◌+◌, zero, suc, ◌<◌, ◌≤◌, Bool, true, false, List, [], ◌∷◌, ◌++◌, map, length, refl, sym, ap, ◌∙◌, subst, arith, nat_eq, nat_le, Some, if◌then◌else◌, ◌&&◌, ◌-◌, ◌^◌}
use Rattle.std.specs.Str.{bytes_eq}
use Rattle.std.proofs.lemmas.Slice.Eq.{bytes_eq-Decides}
use Rattle.flow_packet.specs.Tree.{Tree, content, id_of, kind_of, text_of, packet_of}
use Rattle.flow_packet.specs.declared.packet.Kind.{Kind}
use Rattle.flow_packet.specs.declared.packet.Kind.TheVariants.{Normal, Open, Close}
use Rattle.flow_packet.specs.Hands.{packet_at, text_at, kind_at, without}
use Rattle.flow_component.specs.declared.Answer.{Answer}
use Rattle.flow_component.specs.declared.Answer.TheVariants as answers
use Rattle.flow_component.specs.declared.Fail.TheVariants.{TextLimit}
use Rattle.flow_component.specs.declared.Wish.{Wish}
use Rattle.flow_component.specs.declared.Wish.TheVariants as wishes
use Rattle.flow_packet.specs.Held.{Held, next_id, without_packet, with_made}
use Rattle.flow_component.specs.Laws.{Outcome, Wishes, Fails, IsAllowed, component_after}
use Rattle.flow_component.proofs.Roots.{same_id}
use Rattle.flow_component.proofs.Lone.{HoldsOnly-packet_at, HoldsOnly-without, HoldsOnly-made_at, HoldsOnly-made, HoldsOnly-text, HoldsOnly-kind, HoldsOnly-end}
use Rattle.flow_component.specs.Alone.{HoldsOnly}
use Rattle.flow_component.specs.Happenings.{Happening, Started, Received, Ended, Sent, Learned, answer_of}
use Rattle.flow_component.specs.Runs.{Poise, Steps, Runs, EndIsLast, got, sent, fresh, text_packet}
use Rattle.flow_component.proofs.Streams.{stays-allowed, Comes-packets, contents_in, made_at, content-kind, content-text, port_zero, port_below_one}
use Rattle.flow_component.specs.Ports.{one_to_one, uses_first, receive_first, send_first}
use Rattle.flow_parts.specs.declared.tally.TallyPlace.{TallyPlace}
use Rattle.flow_parts.specs.declared.tally.TallyPlace.TheVariants.{Waiting, Passing, Leaving}
use Rattle.flow_parts.specs.TallyState.{TallyState}
use Rattle.flow_parts.specs.Tally.{tally_line, one_more_time, row_told, text_comes, mark_comes, close_comes, goes_on, one_comes, tally_next, tally_rules}
use Rattle.flow_parts.specs.TallyLaws.{tally_lawful}
use Rattle.flow_parts.specs.Tallied.{Row, is_normal, told_by, are_alike, with_first, rows_of, told_of, tallied}
use Rattle.flow_parts.specs.Meanings.{fresh_tally, TallyMeaning}

-- The rows of a stream with so many packets of one text before it.
abbrev grown : ℕ → List ℕ → List Row → List Row
grown n text [] = (text_packet text, n) ∷ []
grown n text (row ∷ rows) = if are_alike (text_packet text) row.0 then (text_packet text, n + row.1) ∷ rows else (text_packet text, n) ∷ row ∷ rows

-- What is to be sent where x is to come behind a row of so many packets of this text.
abbrev behind : ℕ → List ℕ → List Tree → List Tree
behind zero text x = tallied x
behind (suc n) text x = map told_of (grown (suc n) text (rows_of x))

-- a Normal packet is alike to what another of its text is alike to
alike-as : (t q : Tree) (s : List ℕ) → kind_of t ≡ Normal → text_of t ≡ s → are_alike t q ≡ are_alike (text_packet s) q
alike-as t q s k e = ap (λ kind. is_normal kind && is_normal (kind_of q) && bytes_eq (text_of t) (text_of q)) k ∙ ap (λ text. is_normal Normal && is_normal (kind_of q) && bytes_eq text (text_of q)) e

-- a Normal packet is alike to a packet of its own text
alike-own : (t : Tree) (s : List ℕ) → kind_of t ≡ Normal → text_of t ≡ s → are_alike (text_packet s) t ≡ true
alike-own t s k e = ap (λ kind. is_normal Normal && is_normal kind && bytes_eq s (text_of t)) k ∙ (bytes_eq-Decides s (text_of t)).1 (sym e)

-- of another text it isn't
alike-other : (t : Tree) (s text : List ℕ) → kind_of t ≡ Normal → text_of t ≡ text → bytes_eq text s ≡ false → are_alike (text_packet s) t ≡ false
alike-other t s text k e n = ap (λ kind. is_normal Normal && is_normal kind && bytes_eq s (text_of t)) k ∙ ap (λ u. bytes_eq s u) e ∙ differs (bytes_eq s text) refl
  where
    differs : (b : Bool) → bytes_eq s text ≡ b → b ≡ false
    differs true d = let same : bytes_eq text s ≡ true = (bytes_eq-Decides text s).1 (sym ((bytes_eq-Decides s text).0 d)) in cc
    differs false d = refl

-- nor is a bracket
alike-mark : (t q : Tree) (kind : Kind) → is_normal kind ≡ false → kind_of t ≡ kind → are_alike q t ≡ false
alike-mark t q Normal n k = cc
alike-mark t q Open n k = ap (λ u. is_normal (kind_of q) && is_normal u && bytes_eq (text_of q) (text_of t)) k ∙ never (is_normal (kind_of q))
  where
    never : (b : Bool) → (b && is_normal Open && bytes_eq (text_of q) (text_of t)) ≡ false
    never true = refl
    never false = refl
alike-mark t q Close n k = ap (λ u. is_normal (kind_of q) && is_normal u && bytes_eq (text_of q) (text_of t)) k ∙ never (is_normal (kind_of q))
  where
    never : (b : Bool) → (b && is_normal Close && bytes_eq (text_of q) (text_of t)) ≡ false
    never true = refl
    never false = refl

told-normal : (t : Tree) (n : ℕ) → kind_of t ≡ Normal → told_of (t, n) ≡ text_packet (tally_line n (text_of t))
told-normal t n k = ap (λ kind. told_by kind (t, n)) k

-- a packet that begins a row
begins : (t : Tree) (s : List ℕ) (z : List Row) → kind_of t ≡ Normal → text_of t ≡ s → map told_of (with_first t z) ≡ map told_of (grown 1 s z)
begins t s [] k e = ap (λ u. u ∷ []) (told-normal t 1 k ∙ ap (λ text. text_packet (tally_line 1 text)) e)
begins t s (row ∷ rows) k e = rw (alike-as t row.0 s k e) (begun (are_alike (text_packet s) row.0))
  where
    begun : (b : Bool) → map told_of (if b then (t, row.1 + 1) ∷ rows else (t, 1) ∷ row ∷ rows) ≡ map told_of (if b then (text_packet s, 1 + row.1) ∷ rows else (text_packet s, 1) ∷ row ∷ rows)
    begun true = ap (λ u. u ∷ map told_of rows) (told-normal t (row.1 + 1) k ∙ ap (λ text. text_packet (tally_line (row.1 + 1) text)) e ∙ ap (λ n. text_packet (tally_line n s)) (let o : row.1 + 1 ≡ 1 + row.1 = omega arith in o))
    begun false = ap (λ u. u ∷ told_of row ∷ map told_of rows) (told-normal t 1 k ∙ ap (λ text. text_packet (tally_line 1 text)) e)

-- a packet of the row in hand makes it longer
lengthens : (n : ℕ) (t : Tree) (s : List ℕ) (z : List Row) → kind_of t ≡ Normal → text_of t ≡ s → grown n s (with_first t z) ≡ grown (n + 1) s z
lengthens n t s [] k e = rw (alike-own t s k e) refl
lengthens n t s (row ∷ rows) k e = rw (alike-as t row.0 s k e) (longer (are_alike (text_packet s) row.0))
  where
    longer : (b : Bool) → grown n s (if b then (t, row.1 + 1) ∷ rows else (t, 1) ∷ row ∷ rows) ≡ (if b then (text_packet s, (n + 1) + row.1) ∷ rows else (text_packet s, n + 1) ∷ row ∷ rows)
    longer true = rw (alike-own t s k e) (ap (λ m. (text_packet s, m) ∷ rows) (let o : n + (row.1 + 1) ≡ (n + 1) + row.1 = omega arith in o))
    longer false = rw (alike-own t s k e) refl

-- any other packet begins a row of its own
parts : (n : ℕ) (t : Tree) (s : List ℕ) (z : List Row) → are_alike (text_packet s) t ≡ false → grown n s (with_first t z) ≡ (text_packet s, n) ∷ with_first t z
parts n t s [] d = rw d refl
parts n t s (row ∷ rows) d = apart (are_alike t row.0)
  where
    apart : (b : Bool) → grown n s (if b then (t, row.1 + 1) ∷ rows else (t, 1) ∷ row ∷ rows) ≡ (text_packet s, n) ∷ (if b then (t, row.1 + 1) ∷ rows else (t, 1) ∷ row ∷ rows)
    apart true = rw d refl
    apart false = rw d refl

told-mark : (t : Tree) (m : ℕ) (kind : Kind) → is_normal kind ≡ false → kind_of t ≡ kind → told_of (t, m) ≡ t
told-mark t m Normal n k = cc
told-mark t m Open n k = ap (λ u. told_by u (t, m)) k
told-mark t m Close n k = ap (λ u. told_by u (t, m)) k

first-mark : (t q : Tree) (kind : Kind) → is_normal kind ≡ false → kind_of t ≡ kind → are_alike t q ≡ false
first-mark t q Normal n k = cc
first-mark t q Open n k = ap (λ u. is_normal u && is_normal (kind_of q) && bytes_eq (text_of t) (text_of q)) k
first-mark t q Close n k = ap (λ u. is_normal u && is_normal (kind_of q) && bytes_eq (text_of t) (text_of q)) k

-- a bracket stands by itself, and as it is
stands : (t : Tree) (kind : Kind) (z : List Row) → is_normal kind ≡ false → kind_of t ≡ kind → map told_of (with_first t z) ≡ t ∷ map told_of z
stands t kind [] n k = ap (λ u. u ∷ []) (told-mark t 1 kind n k)
stands t kind (row ∷ rows) n k = rw (first-mark t row.0 kind n k) (ap (λ u. u ∷ told_of row ∷ map told_of rows) (told-mark t 1 kind n k))

-- what is to come once the packet on its way has gone
abbrev FromSent : TallyState → Held → TallyPlace → ℕ → List Tree → List Tree → Type 0
FromSent state held Waiting id x y = (y' : List Tree) × (y ≡ contents_in (packet_at held.packets id) ++ y') × (y' ≡ behind state.times state.text x)
FromSent state held (Passing b) id x y =
    (y' : List Tree) × (y ≡ contents_in (packet_at held.packets id) ++ contents_in (packet_at (without held.packets id) b) ++ y') × (y' ≡ behind state.times state.text x)
FromSent state held Leaving id x y = (y' : List Tree) × (y ≡ contents_in (packet_at held.packets id) ++ y') × (state.times ≡ 0 → y' ≡ tallied x)

-- With this wish, y is to be sent where x is to come.
abbrev FromWish : TallyState → Held → Wish → List Tree → List Tree → Type 0
FromWish state held (wishes.Receive port) x y = y ≡ behind state.times state.text x
FromWish state held (wishes.Send port id) x y = FromSent state held state.place id x y
FromWish state held (wishes.Level port) x y = Unit {0}
FromWish state held wishes.Deactivate x y = state.times ≡ 0 → y ≡ tallied x

abbrev FromOutcome : Outcome TallyState → List Tree → List Tree → Type 0
FromOutcome (Wishes state held wish) x y = FromWish state held wish x y
FromOutcome (Fails state held cause) x y = ⊥

-- the state in which a row that was told leaves the next one
abbrev next_row : ℕ → List ℕ → TallyPlace → TallyState
next_row times text place = record { times = times; text = text; place = place }

after-told : (state : TallyState) (held : Held) (t : Tree) (n : ℕ) (text : List ℕ) (x y : List Tree) (fits : Bool) → held.packets ≡ [] → kind_of t ≡ Normal → text_of t ≡ text → bytes_eq text state.text ≡ false
    → FromOutcome (if fits then Wishes (next_row 1 text Waiting) (with_made held Normal (tally_line (suc n) state.text)) (send_first (next_id held)) else Fails state held (TextLimit (length (tally_line (suc n) state.text)))) x y
    → y ≡ behind (suc n) state.text (t ∷ x)
after-told state held t n text x y true p k e d f =
    let line = tally_line (suc n) state.text in
    let s : y ≡ text_packet line ∷ f.0 = f.1 ∙ ap (λ us. us ++ f.0) (made_at held line p) in
    let b : f.0 ≡ map told_of (with_first t (rows_of x)) = f.2 ∙ sym (begins t text (rows_of x) k e) in
    s ∙ ap (λ us. text_packet line ∷ us) b ∙ sym (ap (map told_of) (parts (suc n) t state.text (rows_of x) (alike-other t state.text text k e d)))
after-told state held t n text x y false p k e d f = absurd f

after-same : (state : TallyState) (held : Held) (t : Tree) (id n : ℕ) (text : List ℕ) (x y : List Tree) (same : Bool) → (without_packet held id).packets ≡ [] → kind_of t ≡ Normal → text_of t ≡ text → suc n < 2 ^ 64 - 1
    → bytes_eq text state.text ≡ same
    → FromOutcome (if same then Wishes (record state { times = one_more_time (suc n) }) (without_packet held id) receive_first else row_told state held (without_packet held id) (tally_line (suc n) state.text) 1 text Waiting) x y
    → y ≡ behind (suc n) state.text (t ∷ x)
after-same state held t id n text x y true p k e few d f =
    let m : one_more_time (suc n) ≡ suc (suc n) = omega arith in
    let g : y ≡ map told_of (grown (suc (suc n)) state.text (rows_of x)) = subst (λ (i : ℕ). y ≡ behind i state.text x) m f in
    let own : text_of t ≡ state.text = e ∙ (bytes_eq-Decides text state.text).0 d in
    let j : suc n + 1 ≡ suc (suc n) = omega arith in
    g ∙ sym (ap (map told_of) (lengthens (suc n) t state.text (rows_of x) k own ∙ ap (λ (i : ℕ). grown i state.text (rows_of x)) j))
after-same state held t id n text x y false p k e few d f =
    let line = tally_line (suc n) state.text in
    after-told state (without_packet held id) t n text x y (nat_le (length line) TEXT_LIMIT) p k e d (told-either (nat_le (length line) TEXT_LIMIT) f)
  where
    told-either : (fits : Bool)
        → FromOutcome (if fits then Wishes (next_row 1 text Waiting) (with_made (without_packet held id) Normal (tally_line (suc n) state.text)) (send_first (next_id (without_packet held id))) else Fails state held (TextLimit (length (tally_line (suc n) state.text)))) x y
        → FromOutcome (if fits then Wishes (next_row 1 text Waiting) (with_made (without_packet held id) Normal (tally_line (suc n) state.text)) (send_first (next_id (without_packet held id))) else Fails state (without_packet held id) (TextLimit (length (tally_line (suc n) state.text)))) x y
    told-either true g = g
    told-either false g = absurd g

after-text : (state : TallyState) (held : Held) (t : Tree) (id times : ℕ) (text : List ℕ) (x y : List Tree) → (without_packet held id).packets ≡ [] → kind_of t ≡ Normal → text_of t ≡ text → times < 2 ^ 64 - 1
    → FromOutcome (text_comes state held id times text) x y → y ≡ behind times state.text (t ∷ x)
after-text state held t id zero text x y p k e few f = f ∙ sym (begins t text (rows_of x) k e)
after-text state held t id (suc n) text x y p k e few f = after-same state held t id n text x y (bytes_eq text state.text) p k e few refl f

after-mark-told : (state : TallyState) (held : Held) (t : Tree) (kind : Kind) (n : ℕ) (x y : List Tree) (fits : Bool) → (h : HoldsOnly held (id_of t)) → t ≡ h.packet → is_normal kind ≡ false → kind_of (content t) ≡ kind
    → FromOutcome (if fits then Wishes (next_row 0 [] (Passing (id_of t))) (with_made held Normal (tally_line (suc n) state.text)) (send_first (next_id held)) else Fails state held (TextLimit (length (tally_line (suc n) state.text)))) x y
    → y ≡ behind (suc n) state.text (content t ∷ x)
after-mark-told state held t kind n x y true h e m k f =
    let line = tally_line (suc n) state.text in
    let made = with_made held Normal line in
    let a : packet_at made.packets (next_id held) ≡ Some (packet_of (next_id held) Normal line []) = HoldsOnly-made_at held (id_of t) Normal line h in
    let o : without made.packets (next_id held) ≡ t ∷ [] = HoldsOnly-made held (id_of t) Normal line h ∙ ap (λ u. u ∷ []) (sym e) in
    let s = same_id (id_of t) in
    let g : packet_at (without made.packets (next_id held)) (id_of t) ≡ Some t = rw (o, s) refl in
    let w : y ≡ text_packet line ∷ content t ∷ f.0 = f.1 ∙ (λ j. contents_in (a j) ++ contents_in (g j) ++ f.0) in
    let z : map told_of (with_first (content t) (rows_of x)) ≡ content t ∷ tallied x = stands (content t) kind (rows_of x) m k in
    w ∙ ap (λ us. text_packet line ∷ content t ∷ us) f.2 ∙ ap (λ us. text_packet line ∷ us) (sym z)
    ∙ sym (ap (map told_of) (parts (suc n) (content t) state.text (rows_of x) (alike-mark (content t) (text_packet state.text) kind m k)))
after-mark-told state held t kind n x y false h e m k f = absurd f

after-mark : (state : TallyState) (held : Held) (t : Tree) (kind : Kind) (times : ℕ) (x y : List Tree) → state.place ≡ Waiting → state.times ≡ times → (h : HoldsOnly held (id_of t)) → t ≡ h.packet → is_normal kind ≡ false → kind_of (content t) ≡ kind
    → FromOutcome (mark_comes state held (id_of t) times) x y → y ≡ behind times state.text (content t ∷ x)
after-mark state held t kind zero x y p c h e m k f =
    let a : packet_at held.packets (id_of t) ≡ Some t = HoldsOnly-packet_at held (id_of t) h ∙ ap Some (sym e) in
    let g : FromSent state held Waiting (id_of t) x y = rw p at f in
    let s : y ≡ content t ∷ g.0 = g.1 ∙ ap (λ o. contents_in o ++ g.0) a in
    let l : g.0 ≡ tallied x = g.2 ∙ ap (λ (i : ℕ). behind i state.text x) c in
    s ∙ ap (λ us. content t ∷ us) l ∙ sym (stands (content t) kind (rows_of x) m k)
after-mark state held t kind (suc n) x y p c h e m k f = after-mark-told state held t kind n x y (nat_le (length (tally_line (suc n) state.text)) TEXT_LIMIT) h e m k f

after-end-told : (state : TallyState) (held : Held) (n : ℕ) (y : List Tree) (fits : Bool) → held.packets ≡ []
    → FromOutcome (if fits then Wishes (next_row 0 [] Leaving) (with_made held Normal (tally_line (suc n) state.text)) (send_first (next_id held)) else Fails state held (TextLimit (length (tally_line (suc n) state.text)))) [] y
    → y ≡ behind (suc n) state.text []
after-end-told state held n y true p f = f.1 ∙ ap (λ us. us ++ f.0) (made_at held (tally_line (suc n) state.text) p) ∙ ap (λ us. text_packet (tally_line (suc n) state.text) ∷ us) (f.2 refl)
after-end-told state held n y false p f = absurd f

after-end : (state : TallyState) (held : Held) (times : ℕ) (x y : List Tree) → held.packets ≡ [] → x ≡ [] → state.times ≡ times → FromOutcome (close_comes state held times) x y → y ≡ behind times state.text x
after-end state held zero x y p e c f = f c
after-end state held (suc n) x y p e c f = rw e (after-end-told state held n y (nat_le (length (tally_line (suc n) state.text)) TEXT_LIMIT) p (rw e at f))

after-packet : (state : TallyState) (held : Held) (t : Tree) (kind : Kind) (x y : List Tree) → state.place ≡ Waiting → state.times < 2 ^ 64 - 1 → (h : HoldsOnly held (id_of t)) → t ≡ h.packet → kind_of (content t) ≡ kind
    → FromOutcome (one_comes state held (id_of t) kind) x y → y ≡ behind state.times state.text (content t ∷ x)
after-packet state held t Normal x y p few h e k f =
    let w : text_of (content t) ≡ text_at held.packets (id_of t) = content-text t ∙ ap text_of e ∙ sym (HoldsOnly-text held (id_of t) h) in
    after-text state held (content t) (id_of t) state.times (text_at held.packets (id_of t)) x y (HoldsOnly-without held (id_of t) h) k w few f
after-packet state held t Open x y p few h e k f = after-mark state held t Open state.times x y p refl h e refl k f
after-packet state held t Close x y p few h e k f = after-mark state held t Close state.times x y p refl h e refl k f

after-sent : (state : TallyState) (held : Held) (t : Tree) (place : TallyPlace) (x y : List Tree) → packet_at held.packets (id_of t) ≡ Some t
    → FromOutcome (goes_on state (without_packet held (id_of t)) place) x y → FromSent state held place (id_of t) x (content t ∷ y)
after-sent state held t Waiting x y a f = (y, rw a refl, f)
after-sent state held t (Passing b) x y a f = (f.0, rw a (ap (λ us. content t ∷ us) f.1), f.2)
after-sent state held t Leaving x y a f = (y, rw a refl, f)

-- a row grows by one packet at most
told-times : (state next : TallyState) (held left : Held) (line : List ℕ) (fits : Bool) → next.times ≤ state.times + 1
    → (component_after (if fits then Wishes next (with_made left Normal line) (send_first (next_id left)) else Fails state held (TextLimit (length line)))).times ≤ state.times + 1
told-times state next held left line true l = l
told-times state next held left line false l = omega arith

text-times : (state : TallyState) (held : Held) (id times : ℕ) (text : List ℕ) → state.times ≡ times → (component_after (text_comes state held id times text)).times ≤ state.times + 1
text-times state held id zero text c = omega arith
text-times state held id (suc n) text c = by-text (bytes_eq text state.text)
  where
    by-text : (same : Bool) → (component_after (if same then Wishes (record state { times = one_more_time (suc n) }) (without_packet held id) receive_first else row_told state held (without_packet held id) (tally_line (suc n) state.text) 1 text Waiting)).times ≤ state.times + 1
    by-text true = omega (arith, c)
    by-text false = told-times state (next_row 1 text Waiting) held (without_packet held id) (tally_line (suc n) state.text) (nat_le (length (tally_line (suc n) state.text)) TEXT_LIMIT) (omega arith)

mark-times : (state : TallyState) (held : Held) (id times : ℕ) → (component_after (mark_comes state held id times)).times ≤ state.times + 1
mark-times state held id zero = omega arith
mark-times state held id (suc n) = told-times state (next_row 0 [] (Passing id)) held held (tally_line (suc n) state.text) (nat_le (length (tally_line (suc n) state.text)) TEXT_LIMIT) (omega arith)

end-times : (state : TallyState) (held : Held) (times : ℕ) → (component_after (close_comes state held times)).times ≤ state.times + 1
end-times state held zero = omega arith
end-times state held (suc n) = told-times state (next_row 0 [] Leaving) held held (tally_line (suc n) state.text) (nat_le (length (tally_line (suc n) state.text)) TEXT_LIMIT) (omega arith)

one-times : (state : TallyState) (held : Held) (id : ℕ) (kind : Kind) → (component_after (one_comes state held id kind)).times ≤ state.times + 1
one-times state held id Normal = text-times state held id state.times (text_at held.packets id) refl
one-times state held id Open = mark-times state held id state.times
one-times state held id Close = mark-times state held id state.times

sent-times : (state : TallyState) (held : Held) (place : TallyPlace) → (component_after (goes_on state held place)).times ≤ state.times + 1
sent-times state held Waiting = omega arith
sent-times state held (Passing id) = omega arith
sent-times state held Leaving = omega arith

next-times : (state : TallyState) (held : Held) (answer : Answer) → (component_after (tally_next state held answer)).times ≤ state.times + 1
next-times state held answers.Start = omega arith
next-times state held (answers.Got id) = one-times state held id (kind_at held.packets id)
next-times state held answers.End = end-times state held state.times
next-times state held answers.Sent = sent-times state held state.place
next-times state held (answers.Level n) = omega arith

allowed : (p : Poise TallyState) (e : Happening) (m : Poise TallyState) → Steps tally_rules p e m → IsAllowed one_to_one uses_first m.held m.wish
allowed p e m s = stays-allowed tally_rules tally_lawful p e m s

-- what holds of the outcome, once it holds of where it leads
later : (p : Poise TallyState) (e : Happening) (m : Poise TallyState) (es : List Happening) (s : Steps tally_rules p e m) → FromWish m.component m.held m.wish (got 0 es) (sent 0 es)
    → FromOutcome (tally_next p.component s.held (answer_of e)) (got 0 es) (sent 0 es)
later p e m es s h = subst (λ o. FromOutcome o (got 0 es) (sent 0 es)) s.comes_to h

fewer : (p : Poise TallyState) (e : Happening) (m : Poise TallyState) (n : ℕ) → Steps tally_rules p e m → p.component.times + suc n ≤ TURN_LIMIT → m.component.times + n ≤ TURN_LIMIT
fewer p e m n s few =
    let is : m.component.times ≡ (component_after (tally_next p.component s.held (answer_of e))).times = ap (λ (o : Outcome TallyState). (component_after o).times) s.comes_to in
    let most : (component_after (tally_next p.component s.held (answer_of e))).times ≤ p.component.times + 1 = next-times p.component s.held (answer_of e) in
    omega arith

tally_run : (events : List Happening) (p q : Poise TallyState) → Runs tally_rules p events q → EndIsLast 0 events → q.wish ≡ wishes.Deactivate → IsAllowed one_to_one uses_first p.held p.wish
    → p.component.times + length events ≤ TURN_LIMIT → FromWish p.component p.held p.wish (got 0 events) (sent 0 events)
tally_run [] p q r l d a few =
    let w : p.wish ≡ wishes.Deactivate = ap (λ (u : Poise TallyState). u.wish) (sym r) ∙ d in
    rw w (λ n. refl)
tally_run (Started ∷ es) p q r l d a few =
    let f : sent 0 es ≡ behind p.component.times p.component.text (got 0 es) = later p Started r.0 es r.1 (tally_run es r.0 q r.2 l d (allowed p Started r.0 r.1) (fewer p Started r.0 (length es) r.1 few)) in
    rw r.1.grants.0 (λ n. f ∙ ap (λ (i : ℕ). behind i p.component.text (got 0 es)) n)
tally_run (Received port t ∷ es) p q r l d a few =
    let held = r.1.held in
    let b : port < 1 = rw r.1.grants.0 at a in
    let z : nat_eq 0 port ≡ true = port_below_one port b in
    let h = r.1.is_ready.1 in
    let e : t ≡ h.packet = HoldsOnly-end held p.held.packets t (Comes-packets p.held t held r.1.grants.1) h in
    let k : kind_of (content t) ≡ kind_at held.packets (id_of t) = content-kind t ∙ ap kind_of e ∙ sym (HoldsOnly-kind held (id_of t) h) in
    let f = later p (Received port t) r.0 es r.1 (tally_run es r.0 q r.2 l d (allowed p (Received port t) r.0 r.1) (fewer p (Received port t) r.0 (length es) r.1 few)) in
    let small : p.component.times < 2 ^ 64 - 1 = omega arith in
    rw (z, r.1.grants.0) (after-packet p.component held t (kind_at held.packets (id_of t)) (got 0 es) (sent 0 es) r.1.is_ready.0 small h e k f)
tally_run (Ended port ∷ es) p q r l d a few =
    let b : port < 1 = rw r.1.grants.0 at a in
    let z : port ≡ 0 = omega arith in
    let n : got 0 es ≡ [] = l.0 z in
    let f = later p (Ended port) r.0 es r.1 (tally_run es r.0 q r.2 l.1 d (allowed p (Ended port) r.0 r.1) (fewer p (Ended port) r.0 (length es) r.1 few)) in
    rw r.1.grants.0 (after-end p.component r.1.held p.component.times (got 0 es) (sent 0 es) r.1.is_ready.1 n refl f)
tally_run (Sent port t ∷ es) p q r l d a few =
    let z : nat_eq 0 port ≡ true = port_zero port (rw r.1.grants.0 at a).0 in
    let f = later p (Sent port t) r.0 es r.1 (tally_run es r.0 q r.2 l d (allowed p (Sent port t) r.0 r.1) (fewer p (Sent port t) r.0 (length es) r.1 few)) in
    let g : FromOutcome (goes_on p.component (without_packet p.held (id_of t)) p.component.place) (got 0 es) (sent 0 es) = subst (λ (h : Held). FromOutcome (goes_on p.component h p.component.place) (got 0 es) (sent 0 es)) r.1.grants.2 f in
    rw (z, r.1.grants.0) (after-sent p.component p.held t p.component.place (got 0 es) (sent 0 es) r.1.grants.1 g)
tally_run (Learned port level ∷ es) p q r l d a few = absurd r.1.is_ready

-- Over a whole run it sends what its meaning makes of what it got.
pub tally_meaning : TallyMeaning
tally_meaning told run l few =
    let all : 0 + length told ≤ TURN_LIMIT = omega (arith, few) in
    tally_run told (fresh fresh_tally run.maker) run.last run.runs l run.idle tt all refl
