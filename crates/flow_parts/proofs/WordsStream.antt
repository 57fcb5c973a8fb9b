-- What Words sends is the words of what it gets.
use Rattle.std.proofs.Common.{◌≡◌, ℕ, ◌<◌, ◌≤◌, Bool, true, false, List, [], ◌∷◌, ◌++◌, map, drop, length, refl, sym, ap, ◌∙◌, append-nil, arith, nat_eq, nat_lt, cond, Some}
use Rattle.std.specs.Prelude.{slice_range}
use Rattle.std.proofs.lemmas.Bool.Decides.{nat_tests}
use Rattle.std.specs.List.{flat_map}
use Rattle.flow_packet.specs.Tree.{Tree, content, id_of, kind_of, text_of}
use Rattle.flow_packet.specs.declared.packet.Kind.{Kind}
use Rattle.flow_packet.specs.declared.packet.Kind.TheVariants.{Normal, Open, Close}
use Rattle.flow_packet.specs.Hands.{packet_at, text_at, kind_at}
use Rattle.flow_packet.specs.Held.{Held, next_id, without_packet, with_made}
use Rattle.flow_component.specs.declared.Wish.{Wish}
use Rattle.flow_component.specs.declared.Wish.TheVariants as wishes
use Rattle.flow_component.specs.Laws.{Outcome, Wishes, Fails, IsAllowed}
use Rattle.flow_component.specs.Alone.{HoldsOnly}
use Rattle.flow_component.specs.Ports.{one_to_one, uses_first, receive_first, send_first}
use Rattle.flow_component.specs.Happenings.{Happening, Started, Received, Ended, Sent, Learned}
use Rattle.flow_component.specs.Runs.{Poise, fresh, Steps, content_got, content_sent, text_packet}
use Rattle.flow_component.proofs.Roots.{same_id}
use Rattle.flow_component.proofs.Lone.{HoldsOnly-packet_at, HoldsOnly-text, HoldsOnly-kind, HoldsOnly-made, HoldsOnly-made_at, HoldsOnly-end}
use Rattle.flow_component.proofs.Streams.{owed-run, stays-allowed, Comes-packets, contents_in, content-kind, content-text, port_zero, port_below_one}
use Rattle.flow_parts.specs.declared.words.Words.{Words}
use Rattle.flow_parts.specs.declared.words.Words.TheVariants.{Waiting, Splitting}
use Rattle.flow_parts.specs.Text.{words, word_start, word_end}
use Rattle.flow_parts.specs.Words.{sends_next, takes, goes_on, IsReadyOn, words_rules}
use Rattle.flow_parts.specs.WordsLaws.{words_lawful}
use Rattle.flow_parts.specs.Meanings.{words_as, words_of, WordsMeaning}
use Rattle.flow_parts.proofs.Wording.{words-some, words-none}

-- the words that are left, once the packet that is on its way has gone
abbrev left : Held → Words → List Tree
left held Waiting = []
left held (Splitting id taken) = map text_packet (words (drop taken (text_at held.packets id)))

abbrev owes : Held → Words → Wish → List Tree
owes held component (wishes.Receive port) = []
owes held component (wishes.Send port id) = contents_in (packet_at held.packets id) ++ left (without_packet held id) component
owes held component (wishes.Level port) = []
owes held component wishes.Deactivate = []

abbrev owes_after : Outcome Words → List Tree
owes_after (Wishes component held wish) = owes held component wish
owes_after (Fails component held cause) = []

abbrev owed : Poise Words → List Tree
owed p = owes p.held p.component p.wish

after-next : (held : Held) (id taken : ℕ) → HoldsOnly held id → owes_after (sends_next held id taken) ≡ map text_packet (words (drop taken (text_at held.packets id)))
after-next held id taken h = by (nat_lt (word_start text taken) (length text)) refl
  where
    text : List ℕ
    text = text_at held.packets id

    by : (b : Bool) → nat_lt (word_start text taken) (length text) ≡ b
        → owes_after (cond b (Wishes (Splitting id (word_end text taken)) (with_made held Normal (slice_range text (word_start text taken) (word_end text taken))) (send_first (next_id held))) (Wishes Waiting (without_packet held id) receive_first))
        ≡ map text_packet (words (drop taken text))
    by true t =
        let l : word_start text taken < length text = grind (arith, nat_tests) in
        let piece = slice_range text (word_start text taken) (word_end text taken) in
        let a = HoldsOnly-made_at held id Normal piece h in
        let w : (without_packet (with_made held Normal piece) (next_id held)).packets ≡ h.packet ∷ [] = HoldsOnly-made held id Normal piece h in
        let i : nat_eq (id_of h.packet) id ≡ true = rw h.named (same_id id) in
        let s : text_at (h.packet ∷ []) id ≡ text = rw i (sym (HoldsOnly-text held id h)) in
        rw (a, w, s, words-some text taken l) refl
    by false t =
        let l : length text ≤ word_start text taken = grind (arith, nat_tests) in
        rw (words-none text taken l) refl

after-going : (held : Held) (component : Words) → IsReadyOn held component → owes_after (goes_on held component) ≡ left held component
after-going held Waiting r = refl
after-going held (Splitting id taken) r = after-next held id taken r.0

after-taking : (held : Held) (t : Tree) (kind : Kind) (h : HoldsOnly held (id_of t)) → t ≡ h.packet → owes_after (takes held (id_of t) kind) ≡ words_as kind (content t)
after-taking held t Normal h e =
    let w : text_at held.packets (id_of t) ≡ text_of (content t) = HoldsOnly-text held (id_of t) h ∙ ap text_of (sym e) ∙ sym (content-text t) in
    rw (← w) (after-next held (id_of t) 0 h)
after-taking held t Open h e =
    let a : packet_at held.packets (id_of t) ≡ Some t = HoldsOnly-packet_at held (id_of t) h ∙ ap Some (sym e) in
    rw a refl
after-taking held t Close h e =
    let a : packet_at held.packets (id_of t) ≡ Some t = HoldsOnly-packet_at held (id_of t) h ∙ ap Some (sym e) in
    rw a refl

step : (p : Poise Words) (e : Happening) (q : Poise Words) → IsAllowed one_to_one uses_first p.held p.wish → Steps words_rules p e q
    → owed p ++ flat_map words_of (content_got 0 e) ≡ content_sent 0 e ++ owed q
step p Started q g s =
    let a : owed p ≡ [] = rw s.grants.0 refl in
    let b : owed q ≡ [] = ap owes_after s.comes_to in
    rw (a, b) refl
step p (Received port t) q g s =
    let a : owed p ≡ [] = rw s.grants.0 refl in
    let z : nat_eq 0 port ≡ true = port_below_one port (rw s.grants.0 at g) in
    let h = s.is_ready.1 in
    let e : t ≡ h.packet = HoldsOnly-end s.held p.held.packets t (Comes-packets p.held t s.held s.grants.1) h in
    let k : kind_at s.held.packets (id_of t) ≡ kind_of (content t) = HoldsOnly-kind s.held (id_of t) h ∙ ap kind_of (sym e) ∙ sym (content-kind t) in
    let b : owed q ≡ words_of (content t) = ap owes_after s.comes_to ∙ after-taking s.held t (kind_at s.held.packets (id_of t)) h e ∙ ap (λ (kind : Kind). words_as kind (content t)) k in
    rw (a, b, z) (append-nil _)
step p (Ended port) q g s =
    let a : owed p ≡ [] = rw s.grants.0 refl in
    let b : owed q ≡ [] = ap owes_after s.comes_to in
    rw (a, b) refl
step p (Sent port t) q g s =
    let z : nat_eq 0 port ≡ true = port_zero port (rw s.grants.0 at g).0 in
    let a : owed p ≡ content t ∷ left (without_packet p.held (id_of t)) p.component = rw (s.grants.0, s.grants.1) refl in
    let b : owed q ≡ left (without_packet p.held (id_of t)) p.component = ap owes_after s.comes_to ∙ after-going s.held p.component s.is_ready ∙ ap (λ (h : Held). left h p.component) s.grants.2 in
    rw (a, b, z) (append-nil _)
step p (Learned port level) q g s = absurd s.is_ready

-- Over a whole run it sends what its meaning makes of what it got.
pub words_meaning : WordsMeaning
words_meaning told run =
    let e = owed-run words_rules (λ p. IsAllowed one_to_one uses_first p.held p.wish) words_of owed
    (λ p e q g s. (stays-allowed words_rules words_lawful p e q s, step p e q g s)) (fresh Waiting run.maker) told run.last tt run.runs in
    let b : owed run.last ≡ [] = rw run.idle refl in
    sym (e ∙ rw b (append-nil _))
