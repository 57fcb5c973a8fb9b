-- What WriteLines writes is what it got.
use Rattle.std.proofs.Common.{◌≡◌, ℕ, ◌<◌, true, List, [], ◌∷◌, ◌++◌, refl, sym, ap, ◌∙◌, append-nil, append_assoc, nat_eq}
use Rattle.flow_packet.specs.Tree.{Tree, content, id_of, kind_of, text_of}
use Rattle.flow_packet.specs.Hands.{kind_at, text_at}
use Rattle.flow_packet.specs.Held.{Held, without_packet}
use Rattle.flow_component.specs.declared.Wish.TheVariants as wishes
use Rattle.flow_component.specs.Laws.{Wishes, IsAllowed}
use Rattle.flow_component.specs.Ports.{one_to_none, uses_none, receive_first}
use Rattle.flow_component.specs.Happenings.{Happening, Started, Received, Ended, Sent, Learned}
use Rattle.flow_component.specs.Runs.{Poise, fresh, Steps, Runs, got, content_got}
use Rattle.flow_component.proofs.Streams.{flat_map-append, stays-allowed, Comes-packets, kind-alone, text-alone, gone-alone, content-kind, content-text, port_below_one}
use Rattle.flow_parts.specs.WriteLines.{rendered, write_lines_rules}
use Rattle.flow_parts.specs.WriteLinesLaws.{write_lines_lawful}
use Rattle.flow_parts.specs.Meanings.{rendered_all, WriteLinesMeaning}

abbrev Bytes : Type 0
Bytes = List ℕ

-- Between two answers its hands are empty.
abbrev Good : Poise Bytes → Type 0
Good p = IsAllowed one_to_none uses_none p.held p.wish × (p.held.packets ≡ [])

abbrev Step : Poise Bytes → Happening → Poise Bytes → Type 0
Step p e q = Steps write_lines_rules p e q

abbrev Next : Poise Bytes → Happening → Poise Bytes → Type 0
Next p e q = (q.held.packets ≡ []) × (q.component ≡ p.component ++ rendered_all (content_got 0 e))

step : (p : Poise Bytes) (e : Happening) (q : Poise Bytes) → Good p → Step p e q → Next p e q
step p Started q g s =
    let c : Wishes q.component q.held q.wish ≡ Wishes p.component s.held receive_first = s.comes_to in
    let held : q.held ≡ s.held = cc in
    let component : q.component ≡ p.component = cc in
    (ap (λ (h : Held). h.packets) (held ∙ s.grants.1) ∙ g.1, component ∙ sym (append-nil p.component))
step p (Received port t) q g s =
    let l : port < 1 = rw s.grants.0 at g.0 in
    let z : nat_eq 0 port ≡ true = port_below_one port l in
    let alone : s.held.packets ≡ t ∷ [] = Comes-packets p.held t s.held s.grants.1 ∙ ap (λ ts. ts ++ t ∷ []) g.1 in
    let c : Wishes q.component q.held q.wish ≡ Wishes (p.component ++ rendered (kind_at s.held.packets (id_of t)) (text_at s.held.packets (id_of t))) (without_packet s.held (id_of t)) receive_first = s.comes_to in
    let held : q.held ≡ without_packet s.held (id_of t) = cc in
    let component : q.component ≡ p.component ++ rendered (kind_at s.held.packets (id_of t)) (text_at s.held.packets (id_of t)) = cc in
    let kind : kind_at s.held.packets (id_of t) ≡ kind_of (content t) = kind-alone s.held.packets t alone ∙ sym (content-kind t) in
    let text : text_at s.held.packets (id_of t) ≡ text_of (content t) = text-alone s.held.packets t alone ∙ sym (content-text t) in (
      ap (λ (h : Held). h.packets) held ∙ gone-alone s.held.packets t alone,
      component ∙ (λ i. p.component ++ rendered (kind i) (text i)) ∙ rw z (ap (λ bs. p.component ++ bs) (sym (append-nil (rendered (kind_of (content t)) (text_of (content t)))))),
    )
step p (Ended port) q g s =
    let c : Wishes q.component q.held q.wish ≡ Wishes p.component s.held wishes.Deactivate = s.comes_to in
    let held : q.held ≡ s.held = cc in
    let component : q.component ≡ p.component = cc in
    (ap (λ (h : Held). h.packets) (held ∙ s.grants.1) ∙ g.1, component ∙ sym (append-nil p.component))
step p (Sent port t) q g s = absurd (let bad = rw s.grants.0 at g.0 in cc bad.0)
step p (Learned port level) q g s = absurd s.is_ready

allowed : (p : Poise Bytes) (e : Happening) (q : Poise Bytes) → Step p e q → IsAllowed one_to_none uses_none q.held q.wish
allowed p e q s = stays-allowed write_lines_rules write_lines_lawful p e q s

wrote : (es : List Happening) (p q : Poise Bytes) → Good p → Runs write_lines_rules p es q → q.component ≡ p.component ++ rendered_all (got 0 es)
wrote [] p q g r = ap (λ (u : Poise Bytes). u.component) r ∙ sym (append-nil p.component)
wrote (e ∷ es) p q g r =
    let s = step p e r.0 g r.1 in
    let rest = wrote es r.0 q (allowed p e r.0 r.1, s.0) r.2 in
    rest ∙ ap (λ bs. bs ++ rendered_all (got 0 es)) s.1 ∙ append_assoc p.component (rendered_all (content_got 0 e)) (rendered_all (got 0 es))
    ∙ ap (λ bs. p.component ++ bs) (sym (flat_map-append (λ (packet : Tree). rendered (kind_of packet) (text_of packet)) (content_got 0 e) (got 0 es)))

-- Over a whole run it sends what its meaning makes of what it got.
pub write_lines_meaning : WriteLinesMeaning
write_lines_meaning bytes told run = wrote told (fresh bytes run.maker) run.last (tt, refl) run.runs
