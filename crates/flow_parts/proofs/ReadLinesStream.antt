-- What ReadLines sends is the lines that were left.
use Rattle.flow_limits.specs.declared.TheConstants.{TEXT_LIMIT}
use Rattle.std.proofs.Common.{◌≡◌, ℕ, true, false, List, [], ◌∷◌, ◌++◌, map, length, refl, sym, ap, ◌∙◌, subst, append-nil, nat_eq, nat_lt, if◌then◌else◌}
use Rattle.std.specs.List.{flat_map}
use Rattle.flow_packet.specs.Tree.{Tree}
use Rattle.flow_packet.specs.declared.packet.Kind.TheVariants.{Normal}
use Rattle.flow_packet.specs.Hands.{packet_at}
use Rattle.flow_packet.specs.Held.{Held, next_id, with_made}
use Rattle.flow_component.specs.declared.Wish.{Wish}
use Rattle.flow_component.specs.declared.Wish.TheVariants as wishes
use Rattle.flow_component.specs.declared.Fail.TheVariants.{TextLimit}
use Rattle.flow_component.specs.Laws.{Outcome, Wishes, Fails, IsAllowed}
use Rattle.flow_component.specs.Ports.{none_to_one, uses_first, send_first}
use Rattle.flow_component.specs.Happenings.{Happening, Started, Received, Ended, Sent, Learned}
use Rattle.flow_component.specs.Runs.{Poise, fresh, Steps, Runs, got, sent, content_got, content_sent, text_packet}
use Rattle.flow_component.proofs.Streams.{owed-run, stays-allowed, contents_in, made_at, port_zero}
use Rattle.flow_parts.specs.ReadLines.{reads, read_lines_rules}
use Rattle.flow_parts.specs.ReadLinesLaws.{read_lines_lawful}
use Rattle.flow_parts.specs.Meanings.{ReadLinesMeaning}

abbrev Lines : Type 0
Lines = List (List ℕ)

abbrev owes : Held → Lines → Wish → List Tree
owes held left (wishes.Receive port) = []
owes held left (wishes.Send port id) = contents_in (packet_at held.packets id) ++ map text_packet left
owes held left (wishes.Level port) = []
owes held left wishes.Deactivate = map text_packet left

abbrev owes_after : Outcome Lines → List Tree
owes_after (Wishes left held wish) = owes held left wish
owes_after (Fails left held cause) = map text_packet left

-- Once nothing more is to be sent, no line is left.
abbrev IsSpent : Outcome Lines → Type 0
IsSpent (Wishes left held wish) = wish ≡ wishes.Deactivate → left ≡ []
IsSpent (Fails left held cause) = Unit {0}

after-reading : (held : Held) (left : Lines) → held.packets ≡ [] → (owes_after (reads held left) ≡ map text_packet left) × IsSpent (reads held left)
after-reading held [] e = (refl, λ d. refl)
after-reading held (line ∷ left) e =
    elim (nat_lt TEXT_LIMIT (length line)) as (λ b. (owes_after (if b then Fails (line ∷ left) held (TextLimit (length line)) else Wishes left (with_made held Normal line) (send_first (next_id held))) ≡ map text_packet (line ∷ left))
    × IsSpent (if b then Fails (line ∷ left) held (TextLimit (length line)) else Wishes left (with_made held Normal line) (send_first (next_id held)))) [
      | true ↦ (refl, tt)
      | false ↦ (ap (λ us. us ++ map text_packet left) (made_at held line e), λ d. cc)
    ]

abbrev owed : Poise Lines → List Tree
owed p = owes p.held p.component p.wish

abbrev Good : Poise Lines → Type 0
Good p = IsAllowed none_to_one uses_first p.held p.wish

abbrev Next : Poise Lines → Happening → Poise Lines → Type 0
Next p e q = (owed p ++ flat_map (λ t. t ∷ []) (content_got 0 e) ≡ content_sent 0 e ++ owed q) × (q.wish ≡ wishes.Deactivate → q.component ≡ [])

step : (p : Poise Lines) (e : Happening) (q : Poise Lines) → Good p → Steps read_lines_rules p e q → Next p e q
step p Started q g s =
    let a = after-reading s.held p.component s.is_ready in
    let w : owed q ≡ map text_packet p.component = ap owes_after s.comes_to ∙ a.0 in
    (rw (s.grants.0, w) (append-nil _), subst IsSpent (sym s.comes_to) a.1)
step p (Received port t) q g s = absurd s.is_ready
step p (Ended port) q g s = absurd s.is_ready
step p (Sent port t) q g s =
    let a = after-reading s.held p.component s.is_ready in
    let z : nat_eq 0 port ≡ true = port_zero port (rw s.grants.0 at g).0 in
    let w : owed q ≡ map text_packet p.component = ap owes_after s.comes_to ∙ a.0 in
    (rw (s.grants.0, s.grants.1, w, z) (append-nil _), subst IsSpent (sym s.comes_to) a.1)
step p (Learned port level) q g s = absurd s.is_ready

allowed : (p : Poise Lines) (e : Happening) (q : Poise Lines) → Steps read_lines_rules p e q → Good q
allowed p e q s = stays-allowed read_lines_rules read_lines_lawful p e q s

no_got : (es : List Happening) (p q : Poise Lines) → Runs read_lines_rules p es q → got 0 es ≡ []
no_got [] p q r = refl
no_got (Started ∷ es) p q r = no_got es r.0 q r.2
no_got (Received port t ∷ es) p q r = absurd r.1.is_ready
no_got (Ended port ∷ es) p q r = absurd r.1.is_ready
no_got (Sent port t ∷ es) p q r = no_got es r.0 q r.2
no_got (Learned port level ∷ es) p q r = absurd r.1.is_ready

spent : (es : List Happening) (p q : Poise Lines) → Good p → (p.wish ≡ wishes.Deactivate → p.component ≡ []) → Runs read_lines_rules p es q → q.wish ≡ wishes.Deactivate → q.component ≡ []
spent [] p q g h r d = rw r (h (ap (λ (u : Poise Lines). u.wish) (sym r) ∙ d))
spent (e ∷ es) p q g h r d = spent es r.0 q (allowed p e r.0 r.1) (step p e r.0 g r.1).1 r.2 d

-- Over a whole run it sends what its meaning makes of what it got.
pub read_lines_meaning : ReadLinesMeaning
read_lines_meaning left [] run some = absurd (some refl)
read_lines_meaning left (event ∷ events) run some =
    let p = fresh left run.maker in
    let q = run.last in
    let r = run.runs in
    let e = owed-run read_lines_rules Good (λ t. t ∷ []) owed (λ p e q g s. (allowed p e q s, (step p e q g s).0)) p (event ∷ events) q tt r in
    let n = no_got (event ∷ events) p q r in
    let k : q.component ≡ [] = spent events r.0 q (allowed p event r.0 r.1) (step p event r.0 tt r.1).1 r.2 run.idle in
    let o : owed q ≡ [] = rw (run.idle, k) refl in
    let f : map text_packet left ++ flat_map (λ (t : Tree). t ∷ []) (got 0 (event ∷ events)) ≡ sent 0 (event ∷ events) ++ owed q = e in
    sym (append-nil _) ∙ sym (ap (λ us. sent 0 (event ∷ events) ++ us) o) ∙ sym f ∙ ap (λ us. map text_packet left ++ flat_map (λ (t : Tree). t ∷ []) us) n ∙ append-nil _
