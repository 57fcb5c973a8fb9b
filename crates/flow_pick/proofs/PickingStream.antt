-- What components that pick make of their streams.
use Rattle.std.proofs.Common.{◌≡◌, ℕ, ◌<◌, ◌==◌, Bool, true, false, List, [], ◌∷◌, ◌++◌, map, Option, Some, refl, sym, ap, ◌∙◌, subst, nat_eq, if◌then◌else◌}
use Rattle.std.specs.Prelude.{not, filter}
use Rattle.flow_packet.specs.Tree.{Tree, content, id_of, kind_of, text_of}
use Rattle.flow_packet.specs.Hands.{packet_at, kind_at, text_at}
use Rattle.flow_packet.specs.Held.{Held}
use Rattle.flow_component.specs.declared.Wish.{Wish}
use Rattle.flow_component.specs.declared.Wish.TheVariants as wishes
use Rattle.flow_component.specs.Laws.{Outcome, Wishes, IsAllowed}
use Rattle.flow_component.specs.Alone.{HoldsOnly}
use Rattle.flow_component.specs.Ports.{receive_first}
use Rattle.flow_component.specs.Happenings.{Happening, Started, Received, Ended, Sent, Learned, answer_of}
use Rattle.flow_component.specs.Runs.{Poise, fresh, Steps, Runs, EndedRun, content_sent, got, sent}
use Rattle.flow_component.proofs.Lone.{HoldsOnly-packet_at, HoldsOnly-text, HoldsOnly-kind, HoldsOnly-end}
use Rattle.flow_component.proofs.Streams.{Comes-packets, contents_in, content-kind, content-text, port_below_one}
use Rattle.flow_pick.specs.Places.{Place, places, picked_behind, IsParted}
use Rattle.flow_pick.specs.Picking.{Picker, parts, meets, parting_shape, parting_uses, picker_rules}
use Rattle.flow_pick.specs.PickingLaws.{StaysConnected, picker_lawful}

-- The packet that is on its way to an output.
abbrev pub owes : ℕ → Held → Wish → List Tree
owes output held (wishes.Receive port) = []
owes output held (wishes.Send port id) = if output == port.0 then contents_in (packet_at held.packets id) else []
owes output held (wishes.Level port) = []
owes output held wishes.Deactivate = []

-- What leaves of one place.
abbrev pub one_of : Bool → Tree → List Tree
one_of true packet = packet ∷ []
one_of false packet = []

one-place : (b : Bool) (place : Place) (rest : List Place) (later : List Tree) → map (λ (p : Place). p.packet) rest ≡ later
    → map (λ (p : Place). p.packet) (if b then place ∷ rest else rest) ≡ one_of b place.packet ++ later
one-place true place rest later e = ap (λ (us : List Tree). place.packet ∷ us) e
one-place false place rest later e = e

-- What is picked of a stream is the first packet, if it is picked, and what is picked of the others behind it.
pub picked-first : (picks : Place → Bool) (earlier : List Tree) (packet : Tree) (later : List Tree)
    → picked_behind picks earlier (packet ∷ later) ≡ one_of (picks (record { earlier = earlier; packet = packet; later = later })) packet ++ picked_behind picks (packet ∷ earlier) later
picked-first picks earlier packet later =
    let place : Place = record { earlier = earlier; packet = packet; later = later } in
    one-place (picks place) place (filter picks (places (packet ∷ earlier) later)) (picked_behind picks (packet ∷ earlier) later) refl

-- The packet on its way to the second output, where that is connected.
abbrev pub if_connected : Bool → List Tree → List Tree
if_connected true x = x
if_connected false x = []

-- What a component that picks has sent, where its state says of what came before whether the next packet is picked.
module _ {K : Type 0} (picker : Picker K) (stays : StaysConnected picker) (picks : Place → Bool) (Recalls : K → List Tree → Type 0)
    (picks-so : (component : K) (earlier : List Tree) (packet : Tree) (later : List Tree) → Recalls component earlier
    → picker.picks component (kind_of packet) (text_of packet) ≡ picks (record { earlier = earlier; packet = packet; later = later }))
    (recalls-on : (component : K) (earlier : List Tree) (packet : Tree) → Recalls component earlier → Recalls (picker.after component (kind_of packet) (text_of packet)) (packet ∷ earlier)) where
  abbrev others : Place → Bool
  others place = not (picks place)

  abbrev outcome_of : Poise K → Outcome K
  outcome_of m = Wishes m.component m.held m.wish

  -- What is still to be sent to each output, where these came before and those are still to come.
  abbrev Ahead : Poise K → List Tree → List Tree → List Tree → List Tree → Type 0
  Ahead p earlier zs first second =
      (owes 0 p.held p.wish ++ picked_behind picks earlier zs ≡ first)
      × (owes 1 p.held p.wish ++ if_connected (picker.connected p.component) (picked_behind others earlier zs) ≡ second)

  -- It receives at its one input alone.
  abbrev OneInput : Poise K → Type 0
  OneInput p = (port : ℕ) → p.wish ≡ wishes.Receive (record { 0 = port }) → port < 1

  one-input : (p : Poise K) (e : Happening) (m : Poise K) → Steps (picker_rules picker) p e m → OneInput m
  one-input p e m s port is =
      let allowed : IsAllowed parting_shape (parting_uses (picker.connected p.component)) m.held m.wish = ((picker_lawful picker stays).obeys p.component s.held (answer_of e) (outcome_of m) s.is_ready s.comes_to).1 in
      rw is at allowed

  -- a packet of this content leaves, or doesn't
  leaving : (b connected : Bool) (component : K) (held : Held) (t : Tree) → packet_at held.packets (id_of t) ≡ Some t → (m : Poise K) → outcome_of m ≡ parts b connected component held (id_of t)
      → (m.component ≡ component) × (owes 0 m.held m.wish ≡ one_of b (content t)) × (owes 1 m.held m.wish ≡ if_connected connected (one_of (not b) (content t)))
  leaving true connected component held t found m is = (same, first, second connected)
    where
      hands : m.held ≡ held
      hands = cc

      wish : m.wish ≡ wishes.Send (record { 0 = 0 }) (id_of t)
      wish = cc

      same : m.component ≡ component
      same = cc

      first : owes 0 m.held m.wish ≡ content t ∷ []
      first = (λ i. owes 0 (hands i) (wish i)) ∙ ap contents_in found

      none : owes 1 m.held m.wish ≡ []
      none = λ i. owes 1 (hands i) (wish i)

      second : (c : Bool) → owes 1 m.held m.wish ≡ if_connected c []
      second true = none
      second false = none
  leaving false true component held t found m is =
      let hands : m.held ≡ held = cc in
      let wish : m.wish ≡ wishes.Send (record { 0 = 1 }) (id_of t) = cc in
      let same : m.component ≡ component = cc in
      (same, (λ i. owes 0 (hands i) (wish i)), (λ i. owes 1 (hands i) (wish i)) ∙ ap contents_in found)
  leaving false false component held t found m is =
      let wish : m.wish ≡ receive_first = cc in
      let same : m.component ≡ component = cc in
      (same, (λ i. owes 0 m.held (wish i)), (λ i. owes 1 m.held (wish i)))

  -- what is owed joins what comes behind
  joined : (connected : Bool) (xs ys : List Tree) → if_connected connected xs ++ if_connected connected ys ≡ if_connected connected (xs ++ ys)
  joined true xs ys = refl
  joined false xs ys = refl

  came : (p m : Poise K) (held : Held) (t : Tree) (earlier zs : List Tree) (h : HoldsOnly held (id_of t)) → t ≡ h.packet → Recalls p.component earlier
      → outcome_of m ≡ meets picker p.component held (id_of t) (kind_at held.packets (id_of t)) (text_at held.packets (id_of t))
      → Recalls m.component (content t ∷ earlier)
      × Ahead m (content t ∷ earlier) zs (picked_behind picks earlier (content t ∷ zs)) (if_connected (picker.connected p.component) (picked_behind others earlier (content t ∷ zs)))
  came p m held t earlier zs h e r is =
      let place : Place = record { earlier = earlier; packet = content t; later = zs } in
      let kind : kind_at held.packets (id_of t) ≡ kind_of (content t) = HoldsOnly-kind held (id_of t) h ∙ ap kind_of (sym e) ∙ sym (content-kind t) in
      let text : text_at held.packets (id_of t) ≡ text_of (content t) = HoldsOnly-text held (id_of t) h ∙ ap text_of (sym e) ∙ sym (content-text t) in
      let found : packet_at held.packets (id_of t) ≡ Some t = HoldsOnly-packet_at held (id_of t) h ∙ ap Some (sym e) in
      let after = picker.after p.component (kind_of (content t)) (text_of (content t)) in
      let so : outcome_of m ≡ parts (picks place) (picker.connected p.component) after held (id_of t) =
      is ∙ (λ i. meets picker p.component held (id_of t) (kind i) (text i)) ∙ ap (λ (b : Bool). parts b (picker.connected p.component) after held (id_of t)) (picks-so p.component earlier (content t) zs r) in
      let l = leaving (picks place) (picker.connected p.component) after held t found m so in
      let stay : picker.connected m.component ≡ picker.connected p.component = ap picker.connected l.0 ∙ stays p.component (kind_of (content t)) (text_of (content t)) in
      let rest = picked_behind others (content t ∷ earlier) zs in (
        subst (λ (k : K). Recalls k (content t ∷ earlier)) (sym l.0) (recalls-on p.component earlier (content t) r),
        (
          ap (λ (us : List Tree). us ++ picked_behind picks (content t ∷ earlier) zs) l.1 ∙ sym (picked-first picks earlier (content t) zs),
          (λ i. l.2 i ++ if_connected (stay i) rest) ∙ joined (picker.connected p.component) (one_of (others place) (content t)) rest
              ∙ ap (if_connected (picker.connected p.component)) (sym (picked-first others earlier (content t) zs)),
        ),
      )

  -- nothing came, and nothing was sent
  still : (p m : Poise K) (held : Held) (wish : Wish) (earlier zs : List Tree) → ((output : ℕ) → owes output p.held p.wish ≡ []) → outcome_of m ≡ Wishes p.component held wish → ((output : ℕ) → owes output held wish ≡ [])
      → (m.component ≡ p.component) × Ahead p earlier zs (owes 0 m.held m.wish ++ picked_behind picks earlier zs) (owes 1 m.held m.wish ++ if_connected (picker.connected m.component) (picked_behind others earlier zs))
  still p m held wish earlier zs none is later =
      let same : m.component ≡ p.component = cc in
      let hands : m.held ≡ held = cc in
      let wished : m.wish ≡ wish = cc in
      let no : (output : ℕ) → owes output p.held p.wish ≡ owes output m.held m.wish = λ output. none output ∙ sym ((λ i. owes output (hands i) (wished i)) ∙ later output) in (
        same,
        (
          ap (λ (us : List Tree). us ++ picked_behind picks earlier zs) (no 0),
          λ i. no 1 i ++ if_connected (picker.connected (sym same i)) (picked_behind others earlier zs),
        ),
      )

  -- What is sent from here on, where these came before.
  abbrev Goes : Poise K → List Tree → List Happening → Type 0
  Goes p earlier es = Ahead p earlier (got 0 es) (sent 0 es) (sent 1 es)

  abbrev Later : List Happening → Poise K → Type 0
  Later es m = (earlier : List Tree) → Recalls m.component earlier → OneInput m → Goes m earlier es

  step : (p : Poise K) (e : Happening) (m : Poise K) (es : List Happening) (earlier : List Tree) → Recalls p.component earlier → OneInput p → Steps (picker_rules picker) p e m → Later es m → Goes p earlier (e ∷ es)
  step p Started m es earlier r g s later =
      let l = still p m s.held receive_first earlier (got 0 es) (λ o. ap (owes o p.held) s.grants.0) s.comes_to (λ o. refl) in
      let f = later earlier (subst (λ (k : K). Recalls k earlier) (sym l.0) r) (one-input p Started m s) in
      (l.1.0 ∙ f.0, l.1.1 ∙ f.1)
  step p (Received port t) m es earlier r g s later =
      let h = s.is_ready in
      let z : nat_eq 0 port ≡ true = port_below_one port (g port s.grants.0) in
      let e : t ≡ h.packet = HoldsOnly-end s.held p.held.packets t (Comes-packets p.held t s.held s.grants.1) h in
      let c = came p m s.held t earlier (got 0 es) h e r s.comes_to in
      let f = later (content t ∷ earlier) c.0 (one-input p (Received port t) m s) in
      let w0 : owes 0 p.held p.wish ≡ [] = ap (owes 0 p.held) s.grants.0 in
      let w1 : owes 1 p.held p.wish ≡ [] = ap (owes 1 p.held) s.grants.0 in
      rw (z, w0, w1) (sym c.1.0 ∙ f.0, sym c.1.1 ∙ f.1)
  step p (Ended port) m es earlier r g s later =
      let l = still p m s.held wishes.Deactivate earlier (got 0 es) (λ o. ap (owes o p.held) s.grants.0) s.comes_to (λ o. refl) in
      let f = later earlier (subst (λ (k : K). Recalls k earlier) (sym l.0) r) (one-input p (Ended port) m s) in
      (l.1.0 ∙ f.0, l.1.1 ∙ f.1)
  step p (Sent port t) m es earlier r g s later = (
    ap (λ (us : List Tree). us ++ picked_behind picks earlier (got 0 es)) (sent-now 0) ∙ ap (λ (us : List Tree). content_sent 0 (Sent port t) ++ us) (at-rest-0 ∙ f.0),
    ap (λ (us : List Tree). us ++ if_connected (picker.connected p.component) (picked_behind others earlier (got 0 es))) (sent-now 1) ∙ ap (λ (us : List Tree). content_sent 1 (Sent port t) ++ us) (at-rest-1 ∙ f.1),
  )
    where
      sent-now : (output : ℕ) → owes output p.held p.wish ≡ content_sent output (Sent port t)
      sent-now output = ap (owes output p.held) s.grants.0 ∙ ap (λ (o : Option Tree). if output == port then contents_in o else []) s.grants.1

      comes : outcome_of m ≡ Wishes p.component s.held receive_first
      comes = s.comes_to

      same : m.component ≡ p.component
      same = cc

      wished : m.wish ≡ receive_first
      wished = cc

      f : Goes m earlier es
      f = later earlier (subst (λ (k : K). Recalls k earlier) (sym same) r) (one-input p (Sent port t) m s)

      at-rest-0 : picked_behind picks earlier (got 0 es) ≡ owes 0 m.held m.wish ++ picked_behind picks earlier (got 0 es)
      at-rest-0 = sym (ap (λ (w : Wish). owes 0 m.held w ++ picked_behind picks earlier (got 0 es)) wished)

      at-rest-1 : if_connected (picker.connected p.component) (picked_behind others earlier (got 0 es)) ≡ owes 1 m.held m.wish ++ if_connected (picker.connected m.component) (picked_behind others earlier (got 0 es))
      at-rest-1 = λ i. owes 1 m.held (sym wished i) ++ if_connected (picker.connected (sym same i)) (picked_behind others earlier (got 0 es))
  step p (Learned port level) m es earlier r g s later = absurd s.is_ready

  nothing-left : (connected : Bool) → if_connected connected [] ≡ []
  nothing-left true = refl
  nothing-left false = refl

  run : (es : List Happening) (p q : Poise K) (earlier : List Tree) → Recalls p.component earlier → OneInput p → Runs (picker_rules picker) p es q → q.wish ≡ wishes.Deactivate → Goes p earlier es
  run [] p q earlier r g s d =
      let w : p.wish ≡ wishes.Deactivate = ap (λ (u : Poise K). u.wish) (sym s) ∙ d in
      (ap (λ (x : Wish). owes 0 p.held x ++ []) w, (λ i. owes 1 p.held (w i) ++ nothing-left (picker.connected p.component) i))
  run (e ∷ es) p q earlier r g s d = step p e s.0 es earlier r g s.1 (λ earlier' r' g'. run es s.0 q earlier' r' g' s.2 d)

  -- Over a whole run its outputs are the parts of what it got.
  pub parted-run : (component : K) (told : List Happening) → Recalls component [] → EndedRun (picker_rules picker) component told → IsParted picks (picker.connected component) (got 0 told) (sent 0 told) (sent 1 told)
  parted-run component told r ended =
      let l = run told (fresh component ended.maker) ended.last [] r (λ port is. absurd (cc)) ended.runs ended.idle in
      record {
        picks_some = sym l.0;
        leaves_others = λ is. sym l.1 ∙ ap (λ (b : Bool). if_connected b (picked_behind others [] (got 0 told))) is;
        drops_others = λ is. sym l.1 ∙ ap (λ (b : Bool). if_connected b (picked_behind others [] (got 0 told))) is;
      }
