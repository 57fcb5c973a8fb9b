-- What a component that folds sends is what is made of its stream.
use Rattle.flow_limits.specs.declared.TheConstants.{TEXT_LIMIT}
use Rattle.std.proofs.Common.{◌≡◌, ℕ, zero, suc, ◌+◌, ◌<◌, Bool, true, false, List, [], ◌∷◌, ◌++◌, map, length, drop, Option, Some, None, nat_eq, nat_lt, cond, refl, sym, ap, ◌∙◌, subst, arith, append-nil, append_assoc}
use Rattle.std.specs.Prelude.{slice_get}
use Rattle.flow_packet.specs.declared.packet.Kind.{Kind}
use Rattle.flow_packet.specs.declared.packet.Kind.TheVariants.{Normal, Open, Close}
use Rattle.flow_packet.specs.Tree.{Tree, content, id_of, kind_of, text_of}
use Rattle.flow_packet.specs.Hands.{packet_at, kind_at, text_at}
use Rattle.flow_packet.specs.Held.{Held, next_id, with_made, without_packet}
use Rattle.flow_component.specs.declared.Fail.TheVariants.{TextLimit}
use Rattle.flow_component.specs.declared.Wish.{Wish}
use Rattle.flow_component.specs.declared.Wish.TheVariants as wishes
use Rattle.flow_component.specs.Laws.{Outcome, Wishes, Fails, IsAllowed}
use Rattle.flow_component.specs.Alone.{HoldsOnly}
use Rattle.flow_component.specs.Ports.{one_to_one, uses_first, send_first}
use Rattle.flow_component.specs.Happenings.{Happening, Started, Received, Ended, Sent, Learned, answer_of}
use Rattle.flow_component.specs.Runs.{Poise, fresh, Steps, Runs, EndIsLast, got, sent, text_packet}
use Rattle.flow_component.proofs.Lone.{HoldsOnly-packet_at, HoldsOnly-text, HoldsOnly-kind, HoldsOnly-end, HoldsOnly-made, HoldsOnly-made_at}
use Rattle.flow_component.proofs.Streams.{Comes-packets, contents_in, made_at, content-kind, content-text, port_below_one, port_zero, stays-allowed}
use Rattle.flow_fold.specs.declared.folder.Stretch.{Stretch}
use Rattle.flow_fold.specs.declared.folder.Stretch.TheVariants.{Bare, Filled}
use Rattle.flow_fold.specs.declared.folder.FolderPlace.{FolderPlace}
use Rattle.flow_fold.specs.declared.folder.FolderPlace.TheVariants.{Taking, Telling}
use Rattle.flow_fold.specs.Folding.{Folding, Folded, Taken, Keeps, Refuses, beginning, behind, closes, is_told, ends, tells_one, tells_from, closes_off, text_taken, meets, goes_on, folder_next, folder_rules, IsBefore, IsReadyOn, IsFolding}
use Rattle.flow_fold.specs.FoldingLaws.{folder_lawful}
use Rattle.flow_fold.specs.Made.{Texts, Cut, cut_behind, stretches, come, told_of, made_from, made_of, Leads, IsFolded, FolderMeaning}

drop-none : {X : Type 0} (xs : List X) (n : ℕ) → slice_get xs n ≡ None → drop n xs ≡ []
drop-none [] zero e = refl
drop-none [] (suc n) e = refl
drop-none (x ∷ xs) zero e = absurd (cc)
drop-none (x ∷ xs) (suc n) e = drop-none xs n e

drop-some : {X : Type 0} (xs : List X) (n : ℕ) (x : X) → slice_get xs n ≡ Some x → drop n xs ≡ x ∷ drop (n + 1) xs
drop-some [] n x e = absurd (cc)
drop-some (y ∷ xs) zero x e = let same : y ≡ x = cc in ap (λ z. z ∷ xs) same
drop-some (y ∷ xs) (suc n) x e =
    let m : suc (n + 1) ≡ suc n + 1 = omega arith in
    drop-some xs n x e ∙ ap (λ (k : ℕ). x ∷ drop k (y ∷ xs)) m

-- a text more fills the stretch
come-more : (stretch : Stretch) (texts : Texts) (text : List ℕ) → Filled ≡ come stretch (texts ++ text ∷ [])
come-more stretch [] text = refl
come-more stretch (u ∷ texts) text = refl

-- a Normal packet stands in the first stretch
cut-text : (packet : Tree) (x : List Tree) (text : List ℕ) → kind_of packet ≡ Normal → text_of packet ≡ text → stretches (packet ∷ x) ≡ record (stretches x) { first = text ∷ (stretches x).first }
cut-text packet x text k e = ap (λ (kind : Kind). cut_behind kind packet (stretches x)) k ∙ ap (λ (t : List ℕ). record (stretches x) { first = t ∷ (stretches x).first }) e

-- It is a bracket.
abbrev IsMark : Kind → Type 0
IsMark Normal = ⊥
IsMark Open = Unit {0}
IsMark Close = Unit {0}

cut-kind : (kind : Kind) (packet : Tree) (cut : Cut) → IsMark kind → cut_behind kind packet cut ≡ record { first = []; later = (packet, cut.first) ∷ cut.later }
cut-kind Normal packet cut m = absurd m
cut-kind Open packet cut m = refl
cut-kind Close packet cut m = refl

-- behind a bracket a stretch begins
cut-bracket : (packet : Tree) (x : List Tree) → IsMark (kind_of packet) → stretches (packet ∷ x) ≡ record { first = []; later = (packet, (stretches x).first) ∷ (stretches x).later }
cut-bracket packet x m = cut-kind (kind_of packet) packet (stretches x) m

module _ {K S : Type 0} (folding : Folding K S) (is : IsFolding folding) (folded : K → Texts → Texts) (so : IsFolded folding folded) where
  -- one text more leads on
  leads-more : (kind : K) (texts : Texts) (first mid last : S) (text : List ℕ) → Leads folding kind first texts mid → folding.takes kind mid text ≡ Keeps last → Leads folding kind first (texts ++ text ∷ []) last
  leads-more kind [] first mid last text l t = (last, ap (λ (s : S). folding.takes kind s text) (sym l) ∙ t, refl)
  leads-more kind (u ∷ texts) first mid last text l t = (l.0, l.1, leads-more kind texts l.0 mid last text l.2 t)

  -- What is to be sent where x is to come behind these texts of a stretch that began so.
  abbrev rest : K → Stretch → Texts → List Tree → List Tree
  rest kind stretch texts x = made_from (folded kind) stretch (texts ++ (stretches x).first) (stretches x).later

  -- y is to be sent where x is to come, whatever texts led to its state.
  abbrev FromTaking : Folded K S → List Tree → List Tree → Type 0
  FromTaking component x y = (stretch : Stretch) (texts : Texts) → Leads folding component.kind (folding.start component.kind) texts component.state → component.stretch ≡ come stretch texts → y ≡ rest component.kind stretch texts x

  -- what is to be sent behind what is told: the bracket and all that comes of the stream behind it
  abbrev ahead_of : K → Held → Option ℕ → List Tree → List Tree
  ahead_of kind held None x = made_of (folded kind) x
  ahead_of kind held (Some bracket) x = contents_in (packet_at held.packets bracket) ++ rest kind (behind (kind_at held.packets bracket)) [] x

  -- the packets that are told, from this place on
  abbrev telling : Folded K S → ℕ → List Tree
  telling component told = map text_packet (drop told (folding.tells component.kind component.state))

  -- y is to be sent where x is to come, once it goes on from this place
  abbrev FromPlace : Folded K S → Held → FolderPlace → List Tree → List Tree → Type 0
  FromPlace component held Taking x y = FromTaking component x y
  FromPlace component held (Telling before told) x y = y ≡ telling component told ++ ahead_of component.kind held before x

  -- With this wish, y is to be sent where x is to come.
  abbrev FromWish : Folded K S → Held → Wish → List Tree → List Tree → Type 0
  FromWish component held (wishes.Receive port) x y = FromTaking component x y
  FromWish component held (wishes.Send port id) x y = (y' : List Tree) × (y ≡ contents_in (packet_at held.packets id) ++ y') × FromPlace component (without_packet held id) component.place x y'
  FromWish component held (wishes.Level port) x y = Unit {0}
  FromWish component held wishes.Deactivate x y = (component.state ≡ folding.start component.kind) → component.stretch ≡ Bare → y ≡ made_of (folded component.kind) x

  abbrev FromOutcome : Outcome (Folded K S) → List Tree → List Tree → Type 0
  FromOutcome (Wishes component held wish) x y = FromWish component held wish x y
  FromOutcome (Fails component held cause) x y = ⊥

  -- the stretch is over
  after-end : (before : Option ℕ) (component : Folded K S) (held : Held) (x y : List Tree) → FromOutcome (ends folding component held before) x y → y ≡ ahead_of component.kind held before x
  after-end None component held x y f = f refl refl
  after-end (Some bracket) component held x y f = f.1 ∙ ap (λ (u : List Tree). contents_in (packet_at held.packets bracket) ++ u) (f.2 (behind (kind_at held.packets bracket)) [] refl refl)

  -- what was made is found
  made-found : (before : Option ℕ) (held : Held) (text : List ℕ) → IsBefore held before → contents_in (packet_at (with_made held Normal text).packets (next_id held)) ≡ text_packet text ∷ []
  made-found None held text b = made_at held text b
  made-found (Some bracket) held text b = ap contents_in (HoldsOnly-made_at held bracket Normal text b)

  -- and once it has gone the bracket is as before
  made-left : (before : Option ℕ) (kind : K) (held : Held) (text : List ℕ) (x : List Tree) → IsBefore held before → ahead_of kind (without_packet (with_made held Normal text) (next_id held)) before x ≡ ahead_of kind held before x
  made-left None kind held text x b = refl
  made-left (Some bracket) kind held text x b =
      ap (λ (ts : List Tree). contents_in (packet_at ts bracket) ++ rest kind (behind (kind_at ts bracket)) [] x) (HoldsOnly-made held bracket Normal text b ∙ sym b.holds)

  -- a packet was made of what is told, unless it is too long
  after-made : (long : Bool) (component : Folded K S) (held : Held) (before : Option ℕ) (told : ℕ) (text : List ℕ) (x y : List Tree)
      → slice_get (folding.tells component.kind component.state) told ≡ Some text → IsBefore held before
      → FromOutcome (cond long (Fails component held (TextLimit (length text))) (Wishes (record component { place = Telling before (told + 1) }) (with_made held Normal text) (send_first (next_id held)))) x y
      → y ≡ telling component told ++ ahead_of component.kind held before x
  after-made true component held before told text x y n b f = absurd f
  after-made false component held before told text x y n b f =
      let later = telling component (told + 1) in
      let z : f.0 ≡ later ++ ahead_of component.kind held before x = f.2 ∙ ap (λ (u : List Tree). later ++ u) (made-left before component.kind held text x b) in
      let w : telling component told ≡ text_packet text ∷ later = ap (map text_packet) (drop-some (folding.tells component.kind component.state) told text n) in
      f.1 ∙ (λ i. made-found before held text b i ++ z i) ∙ sym (ap (λ (u : List Tree). u ++ ahead_of component.kind held before x) w)

  after-one : (next : Option (List ℕ)) (component : Folded K S) (held : Held) (before : Option ℕ) (told : ℕ) (x y : List Tree)
      → slice_get (folding.tells component.kind component.state) told ≡ next → IsBefore held before → FromOutcome (tells_one folding component held before told next) x y
      → y ≡ telling component told ++ ahead_of component.kind held before x
  after-one None component held before told x y n b f =
      after-end before component held x y f ∙ sym (ap (λ (us : Texts). map text_packet us ++ ahead_of component.kind held before x) (drop-none (folding.tells component.kind component.state) told n))
  after-one (Some text) component held before told x y n b f = after-made (nat_lt TEXT_LIMIT (length text)) component held before told text x y n b f

  -- it tells from this place on
  after-telling : (component : Folded K S) (held : Held) (before : Option ℕ) (told : ℕ) (x y : List Tree) → IsBefore held before → FromOutcome (tells_from folding component held before told) x y
      → y ≡ telling component told ++ ahead_of component.kind held before x
  after-telling component held before told x y b f = after-one (slice_get (folding.tells component.kind component.state) told) component held before told x y refl b f

  -- a stretch is told where it is to be
  after-closing : (told : Bool) (component : Folded K S) (held : Held) (before : Option ℕ) (x y : List Tree) → IsBefore held before
      → FromOutcome (cond told (tells_from folding component held before 0) (ends folding component held before)) x y → y ≡ cond told (telling component 0) [] ++ ahead_of component.kind held before x
  after-closing true component held before x y b f = after-telling component held before 0 x y b f
  after-closing false component held before x y b f = after-end before component held x y f

  -- what is told of the state is told of the texts that led to it
  told-so : (component : Folded K S) (stretch : Stretch) (texts : Texts) (closed : Bool) → Leads folding component.kind (folding.start component.kind) texts component.state → component.stretch ≡ come stretch texts
      → cond (is_told component.stretch closed) (telling component 0) [] ≡ told_of (folded component.kind) stretch (texts ++ []) closed
  told-so component stretch texts closed l c =
      let t : folding.tells component.kind component.state ≡ folded component.kind texts = so component.kind texts component.state l in
      ap (λ (us : Texts). cond (is_told component.stretch closed) (map text_packet us) []) t
      ∙ ap (λ (s : Stretch). cond (is_told s closed) (map text_packet (folded component.kind texts)) []) c
      ∙ ap (λ (us : Texts). told_of (folded component.kind) stretch us closed) (sym (append-nil texts))

  after-bracket : (component : Folded K S) (held : Held) (t : Tree) (kind : Kind) (closed : Bool) (x y : List Tree) → kind_of (content t) ≡ kind → IsMark kind → closes kind ≡ closed → kind_at held.packets (id_of t) ≡ kind
      → packet_at held.packets (id_of t) ≡ Some t → HoldsOnly held (id_of t) → FromOutcome (closes_off folding component held (Some (id_of t)) closed) x y → FromTaking component (content t ∷ x) y
  after-bracket component held t kind closed x y k m c same found h f stretch texts l e =
      let u = content t in
      let whole = folded component.kind in
      let later = made_from whole (behind kind) (stretches x).first (stretches x).later in
      let a : y ≡ cond (is_told component.stretch closed) (telling component 0) [] ++ (contents_in (packet_at held.packets (id_of t)) ++ rest component.kind (behind (kind_at held.packets (id_of t))) [] x) = after-closing (is_told component.stretch closed) component held (Some (id_of t)) x y h f in
      let b : contents_in (packet_at held.packets (id_of t)) ++ rest component.kind (behind (kind_at held.packets (id_of t))) [] x ≡ u ∷ later = λ i. contents_in (found i) ++ rest component.kind (behind (same i)) [] x in
      let d : stretches (u ∷ x) ≡ record { first = []; later = (u, (stretches x).first) ∷ (stretches x).later } = cut-bracket u x (subst IsMark (sym k) m) in
      let w : rest component.kind stretch texts (u ∷ x) ≡ told_of whole stretch (texts ++ []) (closes (kind_of u)) ++ u ∷ made_from whole (behind (kind_of u)) (stretches x).first (stretches x).later = ap (λ (cut : Cut). made_from whole stretch (texts ++ cut.first) cut.later) d in
      let v : told_of whole stretch (texts ++ []) (closes (kind_of u)) ++ u ∷ made_from whole (behind (kind_of u)) (stretches x).first (stretches x).later ≡ told_of whole stretch (texts ++ []) closed ++ u ∷ later =
      ap (λ (q : Kind). told_of whole stretch (texts ++ []) (closes q) ++ u ∷ made_from whole (behind q) (stretches x).first (stretches x).later) k ∙ ap (λ (q : Bool). told_of whole stretch (texts ++ []) q ++ u ∷ later) c in
      a ∙ (λ i. told-so component stretch texts closed l e i ++ b i) ∙ sym (w ∙ v)

  after-text : (taken : Taken S) (component : Folded K S) (held : Held) (t : Tree) (text : List ℕ) (x y : List Tree) → kind_of (content t) ≡ Normal → text_of (content t) ≡ text
      → folding.takes component.kind component.state text ≡ taken → FromOutcome (text_taken component held (id_of t) taken) x y → FromTaking component (content t ∷ x) y
  after-text (Keeps state) component held t text x y k e n f stretch texts l c =
      let whole = folded component.kind in
      let a = f stretch (texts ++ text ∷ []) (leads-more component.kind texts (folding.start component.kind) component.state state text l n) (come-more stretch texts text) in
      a ∙ ap (λ (us : Texts). made_from whole stretch us (stretches x).later) (append_assoc texts (text ∷ []) (stretches x).first)
      ∙ sym (ap (λ (cut : Cut). made_from whole stretch (texts ++ cut.first) cut.later) (cut-text (content t) x text k e))
  after-text (Refuses cause) component held t text x y k e n f stretch texts l c = absurd f

  -- a packet came
  after-packet : (kind : Kind) (component : Folded K S) (held : Held) (t : Tree) (x y : List Tree) → kind_of (content t) ≡ kind → kind_at held.packets (id_of t) ≡ kind
      → packet_at held.packets (id_of t) ≡ Some t → text_of (content t) ≡ text_at held.packets (id_of t) → HoldsOnly held (id_of t)
      → FromOutcome (meets folding component held (id_of t) kind) x y → FromTaking component (content t ∷ x) y
  after-packet Normal component held t x y k same found e h f =
      let text = text_at held.packets (id_of t) in
      after-text (folding.takes component.kind component.state text) component held t text x y k e refl f
  after-packet Open component held t x y k same found e h f = after-bracket component held t Open false x y k tt refl same found h f
  after-packet Close component held t x y k same found e h f = after-bracket component held t Close true x y k tt refl same found h f

  -- the stream is over
  after-stream : (component : Folded K S) (held : Held) (y : List Tree) → held.packets ≡ [] → FromOutcome (closes_off folding component held None false) [] y → FromTaking component [] y
  after-stream component held y none f stretch texts l e =
      let a : y ≡ cond (is_told component.stretch false) (telling component 0) [] ++ [] = after-closing (is_told component.stretch false) component held None [] y none f in
      a ∙ append-nil (cond (is_told component.stretch false) (telling component 0) []) ∙ told-so component stretch texts false l e

  after-going : (place : FolderPlace) (component : Folded K S) (held : Held) (x y : List Tree) → IsReadyOn held place → FromOutcome (goes_on folding component held place) x y → FromPlace component held place x y
  after-going Taking component held x y r f = f
  after-going (Telling before told) component held x y r f = after-telling component held before told x y r f

  allowed : (p : Poise (Folded K S)) (e : Happening) (m : Poise (Folded K S)) → Steps (folder_rules folding) p e m → IsAllowed one_to_one uses_first m.held m.wish
  allowed p e m s = stays-allowed (folder_rules folding) (folder_lawful folding is) p e m s

  -- what holds of the outcome, once it holds of where it leads
  later : (p : Poise (Folded K S)) (e : Happening) (m : Poise (Folded K S)) (x y : List Tree) (s : Steps (folder_rules folding) p e m) → FromWish m.component m.held m.wish x y
      → FromOutcome (folder_next folding p.component s.held (answer_of e)) x y
  later p e m x y s h = subst (λ (o : Outcome (Folded K S)). FromOutcome o x y) s.comes_to h

  run : (es : List Happening) (p q : Poise (Folded K S)) → Runs (folder_rules folding) p es q → EndIsLast 0 es → q.wish ≡ wishes.Deactivate → IsAllowed one_to_one uses_first p.held p.wish
      → FromWish p.component p.held p.wish (got 0 es) (sent 0 es)
  run [] p q r l d a =
      let w : p.wish ≡ wishes.Deactivate = ap (λ (u : Poise (Folded K S)). u.wish) (sym r) ∙ d in
      rw w (λ state stretch. refl)
  run (Started ∷ es) p q r l d a =
      let f : FromTaking p.component (got 0 es) (sent 0 es) = later p Started r.0 (got 0 es) (sent 0 es) r.1 (run es r.0 q r.2 l d (allowed p Started r.0 r.1)) in
      rw r.1.grants.0 (λ state stretch. f Bare [] state stretch)
  run (Received port t ∷ es) p q r l d a =
      let held = r.1.held in
      let h = r.1.is_ready.1 in
      let b : port < 1 = rw r.1.grants.0 at a in
      let z : nat_eq 0 port ≡ true = port_below_one port b in
      let e : t ≡ h.packet = HoldsOnly-end held p.held.packets t (Comes-packets p.held t held r.1.grants.1) h in
      let k : kind_of (content t) ≡ kind_at held.packets (id_of t) = content-kind t ∙ ap kind_of e ∙ sym (HoldsOnly-kind held (id_of t) h) in
      let w : text_of (content t) ≡ text_at held.packets (id_of t) = content-text t ∙ ap text_of e ∙ sym (HoldsOnly-text held (id_of t) h) in
      let found : packet_at held.packets (id_of t) ≡ Some t = HoldsOnly-packet_at held (id_of t) h ∙ ap Some (sym e) in
      let f = later p (Received port t) r.0 (got 0 es) (sent 0 es) r.1 (run es r.0 q r.2 l d (allowed p (Received port t) r.0 r.1)) in
      rw (z, r.1.grants.0) (after-packet (kind_at held.packets (id_of t)) p.component held t (got 0 es) (sent 0 es) k refl found w h f)
  run (Ended port ∷ es) p q r l d a =
      let b : port < 1 = rw r.1.grants.0 at a in
      let z : port ≡ 0 = omega arith in
      let n : got 0 es ≡ [] = l.0 z in
      let f = later p (Ended port) r.0 (got 0 es) (sent 0 es) r.1 (run es r.0 q r.2 l.1 d (allowed p (Ended port) r.0 r.1)) in
      let g : FromOutcome (closes_off folding p.component r.1.held None false) [] (sent 0 es) = subst (λ (x : List Tree). FromOutcome (closes_off folding p.component r.1.held None false) x (sent 0 es)) n f in
      rw (n, r.1.grants.0) (after-stream p.component r.1.held (sent 0 es) r.1.is_ready.1 g)
  run (Sent port t ∷ es) p q r l d a =
      let z : nat_eq 0 port ≡ true = port_zero port (rw r.1.grants.0 at a).0 in
      let f = later p (Sent port t) r.0 (got 0 es) (sent 0 es) r.1 (run es r.0 q r.2 l d (allowed p (Sent port t) r.0 r.1)) in
      let g : FromPlace p.component r.1.held p.component.place (got 0 es) (sent 0 es) = after-going p.component.place p.component r.1.held (got 0 es) (sent 0 es) r.1.is_ready f in
      let k : FromPlace p.component (without_packet p.held (id_of t)) p.component.place (got 0 es) (sent 0 es) = subst (λ (h : Held). FromPlace p.component h p.component.place (got 0 es) (sent 0 es)) r.1.grants.2 g in
      let found : contents_in (packet_at p.held.packets (id_of t)) ≡ content t ∷ [] = ap contents_in r.1.grants.1 in
      rw (z, r.1.grants.0) (sent 0 es, ap (λ (u : List Tree). u ++ sent 0 es) (sym found), k)
  run (Learned port level ∷ es) p q r l d a = absurd r.1.is_ready

  -- Over a whole run it sends what is made of its stream.
  pub folder_meaning : FolderMeaning folding folded
  folder_meaning kind told ended l = run told (fresh (beginning folding kind Bare) ended.maker) ended.last ended.runs l ended.idle tt refl refl
