-- What Replace sends is what it gets, with the matches in each Normal packet replaced.
use Rattle.flow_limits.specs.declared.TheConstants.{TEXT_LIMIT}
use Rattle.std.proofs.Common.{◌≡◌, ℕ, Bool, true, false, List, [], ◌∷◌, ◌++◌, map, length, nat_lt, cond, refl, sym, ap, ◌∙◌, append-nil, nat_eq, Some}
use Rattle.std.specs.List.{flat_map}
use Rattle.flow_packet.specs.Tree.{Tree, content, id_of, kind_of, text_of}
use Rattle.flow_packet.specs.declared.packet.Kind.{Kind}
use Rattle.flow_packet.specs.declared.packet.Kind.TheVariants.{Normal, Open, Close}
use Rattle.flow_packet.specs.Hands.{packet_at, text_at, kind_at}
use Rattle.flow_packet.specs.Held.{Held, next_id, without_packet, with_made}
use Rattle.flow_component.specs.declared.Fail.TheVariants.{TextLimit}
use Rattle.flow_component.specs.declared.Wish.{Wish}
use Rattle.flow_component.specs.declared.Wish.TheVariants as wishes
use Rattle.flow_component.specs.Laws.{Outcome, Wishes, Fails, IsAllowed, component_after}
use Rattle.flow_component.specs.Alone.{HoldsOnly}
use Rattle.flow_component.specs.Ports.{one_to_one, uses_first, send_first}
use Rattle.flow_component.specs.Happenings.{Happening, Started, Received, Ended, Sent, Learned, answer_of}
use Rattle.flow_component.specs.Runs.{Poise, fresh, Steps, content_got, content_sent, got, sent, text_packet}
use Rattle.flow_component.proofs.Lone.{HoldsOnly-packet_at, HoldsOnly-text, HoldsOnly-kind, HoldsOnly-end, HoldsOnly-without}
use Rattle.flow_component.proofs.Streams.{owed-run, stays-allowed, Comes-packets, contents_in, content-kind, content-text, made_at, port_zero, port_below_one}
use Rattle.flow_pattern.specs.Pattern.{Replacement, matches, replaced}
use Rattle.flow_match.specs.Replace.{rewrites, comes, replace_rules}
use Rattle.flow_match.specs.ReplaceLaws.{next-same, replace_lawful}
use Rattle.flow_match.specs.Meanings.{rewritten_if, rewritten_as, rewritten, ReplaceMeaning}

map-single : (f : Tree → Tree) (xs : List Tree) → flat_map (λ t. f t ∷ []) xs ≡ map f xs
map-single f [] = refl
map-single f (x ∷ xs) = ap (λ ys. f x ∷ ys) (map-single f xs)

-- the packet that is on its way to the output
abbrev owes : Held → Wish → List Tree
owes held (wishes.Receive port) = []
owes held (wishes.Send port id) = contents_in (packet_at held.packets id)
owes held (wishes.Level port) = []
owes held wishes.Deactivate = []

abbrev owes_after : Outcome Replacement → List Tree
owes_after (Wishes component held wish) = owes held wish
owes_after (Fails component held cause) = []

abbrev owed : Poise Replacement → List Tree
owed p = owes p.held p.wish

abbrev outcome_of : Poise Replacement → Outcome Replacement
outcome_of m = Wishes m.component m.held m.wish

after-renewing : (state : Replacement) (held : Held) (id : ℕ) (text : List ℕ) (m : Poise Replacement) → HoldsOnly held id → (long : Bool)
    → outcome_of m ≡ cond long (Fails state held (TextLimit (length text))) (Wishes state (with_made (without_packet held id) Normal text) (send_first (next_id held))) → owed m ≡ text_packet text ∷ []
after-renewing state held id text m h true is = absurd (cc)
after-renewing state held id text m h false is = ap owes_after is ∙ made_at (without_packet held id) text (HoldsOnly-without held id h)

after-passing : (state : Replacement) (held : Held) (t : Tree) (m : Poise Replacement) (h : HoldsOnly held (id_of t)) → t ≡ h.packet → outcome_of m ≡ Wishes state held (send_first (id_of t)) → owed m ≡ content t ∷ []
after-passing state held t m h e is = ap owes_after is ∙ ap contents_in (HoldsOnly-packet_at held (id_of t) h ∙ ap Some (sym e))

after-rewriting : (found : Bool) (state : Replacement) (held : Held) (t : Tree) (m : Poise Replacement) (h : HoldsOnly held (id_of t)) → t ≡ h.packet
    → outcome_of m ≡ rewrites found state held (id_of t) (text_of (content t)) → owed m ≡ rewritten_if found state (content t) ∷ []
after-rewriting true state held t m h e is =
    let text = replaced state.pattern state.with (text_of (content t)) in
    after-renewing state held (id_of t) text m h (nat_lt TEXT_LIMIT (length text)) is
after-rewriting false state held t m h e is = after-passing state held t m h e is

after-coming : (kind : Kind) (state : Replacement) (held : Held) (t : Tree) (m : Poise Replacement) (h : HoldsOnly held (id_of t)) → t ≡ h.packet → outcome_of m ≡ comes state held (id_of t) kind → owed m ≡ rewritten_as kind state (content t) ∷ []
after-coming Normal state held t m h e is =
    let text : text_at held.packets (id_of t) ≡ text_of (content t) = HoldsOnly-text held (id_of t) h ∙ ap text_of (sym e) ∙ sym (content-text t) in
    after-rewriting (matches state.pattern (text_of (content t))) state held t m h e (is ∙ ap (λ (l : List ℕ). rewrites (matches state.pattern l) state held (id_of t) l) text)
after-coming Open state held t m h e is = after-passing state held t m h e is
after-coming Close state held t m h e is = after-passing state held t m h e is

-- It replaces so, and its wish is allowed.
abbrev Good : Replacement → Poise Replacement → Type 0
Good with p = (p.component ≡ with) × IsAllowed one_to_one uses_first p.held p.wish

stays-good : (with : Replacement) (p : Poise Replacement) (e : Happening) (q : Poise Replacement) → Good with p → Steps replace_rules p e q → Good with q
stays-good with p e q g s = (ap component_after s.comes_to ∙ next-same p.component s.held (answer_of e) ∙ g.0, stays-allowed replace_rules replace_lawful p e q s)

step : (with : Replacement) (p : Poise Replacement) (e : Happening) (q : Poise Replacement) → Good with p → Steps replace_rules p e q
    → owed p ++ flat_map (λ t. rewritten with t ∷ []) (content_got 0 e) ≡ content_sent 0 e ++ owed q
step with p Started q g s =
    let a : owed p ≡ [] = rw s.grants.0 refl in
    let b : owed q ≡ [] = ap owes_after s.comes_to in
    rw (a, b) refl
step with p (Received port t) q g s =
    let a : owed p ≡ [] = rw s.grants.0 refl in
    let z : nat_eq 0 port ≡ true = port_below_one port (rw s.grants.0 at g.1) in
    let h = s.is_ready in
    let e : t ≡ h.packet = HoldsOnly-end s.held p.held.packets t (Comes-packets p.held t s.held s.grants.1) h in
    let k : kind_at s.held.packets (id_of t) ≡ kind_of (content t) = HoldsOnly-kind s.held (id_of t) h ∙ ap kind_of (sym e) ∙ sym (content-kind t) in
    let b : owed q ≡ rewritten with (content t) ∷ [] =
    after-coming (kind_of (content t)) p.component s.held t q h e (s.comes_to ∙ ap (comes p.component s.held (id_of t)) k) ∙ ap (λ (state : Replacement). rewritten state (content t) ∷ []) g.0 in
    rw (a, b, z) refl
step with p (Ended port) q g s =
    let a : owed p ≡ [] = rw s.grants.0 refl in
    let b : owed q ≡ [] = ap owes_after s.comes_to in
    rw (a, b) refl
step with p (Sent port t) q g s =
    let z : nat_eq 0 port ≡ true = port_zero port (rw s.grants.0 at g.1).0 in
    let a : owed p ≡ content t ∷ [] = rw (s.grants.0, s.grants.1) refl in
    let b : owed q ≡ [] = ap owes_after s.comes_to in
    rw (a, b, z) refl
step with p (Learned port level) q g s = absurd s.is_ready

-- Over a whole run it sends what its meaning makes of what it got.
pub replace_meaning : ReplaceMeaning
replace_meaning with told run =
    let e = owed-run replace_rules (Good with) (λ t. rewritten with t ∷ []) owed
    (λ p e q g s. (stays-good with p e q g s, step with p e q g s)) (fresh with run.maker) told run.last (refl, tt) run.runs in
    let b : owed run.last ≡ [] = rw run.idle refl in
    sym (append-nil (sent 0 told)) ∙ ap (λ us. sent 0 told ++ us) (sym b) ∙ sym e ∙ map-single (rewritten with) (got 0 told)
