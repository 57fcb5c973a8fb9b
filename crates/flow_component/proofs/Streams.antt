-- What a component sends, from what it gets and what it still owes.
use Rattle.std.proofs.Common.{◌≡◌, ℕ, List, [], ◌∷◌, ◌++◌, refl, sym, ap, ◌∙◌, subst, append_assoc, append-nil, Bool, Option, Some, None, ◌==◌, ◌<◌, nat_eq, true, IsTrue, arith}
use Rattle.std.specs.List.{flat_map}
use Rattle.std.proofs.lemmas.Bool.Decides.{nat_tests}
use Rattle.flow_packet.specs.declared.packet.Kind.TheVariants.{Normal}
use Rattle.flow_packet.specs.Tree.{Tree, node, id_of, kind_of, text_of, content}
use Rattle.flow_packet.specs.Hands.{packet_at, without, kind_at, kind_in, text_at, text_in}
use Rattle.flow_packet.specs.Held.{Held, next_id, with_made}
use Rattle.flow_component.specs.declared.Answer.{Answer}
use Rattle.flow_component.specs.declared.Shape.{Shape}
use Rattle.flow_component.specs.Laws.{Rules, Lawful, Wishes, IsAllowed}
use Rattle.flow_component.specs.Happenings.{Happening, answer_of}
use Rattle.flow_component.specs.Runs.{Poise, Steps, Runs, Comes, from_connection, from_text, content_got, content_sent, got, sent, text_packet}
use Rattle.flow_component.proofs.Roots.{same_id}

-- Making lists of each member and joining them goes member by member.
pub flat_map-append : {X A : Type 0} (f : X → List A) (xs ys : List X) → flat_map f (xs ++ ys) ≡ flat_map f xs ++ flat_map f ys
flat_map-append f [] ys = refl
flat_map-append f (x ∷ xs) ys = ap (λ zs. f x ++ zs) (flat_map-append f xs ys) ∙ sym (append_assoc (f x) (flat_map f xs) (flat_map f ys))

-- a packet that comes stands at the end of the hands
pub Comes-packets : (old : Held) (packet : Tree) (new : Held) → Comes old packet new → new.packets ≡ old.packets ++ packet ∷ []
Comes-packets old packet new (from_connection is) = ap (λ (h : Held). h.packets) is
Comes-packets old packet new (from_text text named is) = ap (λ (h : Held). h.packets) is ∙ ap (λ (t : Tree). old.packets ++ t ∷ []) (sym named)

-- where each step sends to an output what was owed there, and owes what it got, a run does
pub owed-to : {K : Type 0} (rules : Rules K) (output : ℕ) (Good : Poise K → Type 0) (f : Tree → List Tree) (owed : Poise K → List Tree)
    → ((p : Poise K) (e : Happening) (q : Poise K) → Good p → Steps rules p e q → Good q × (owed p ++ flat_map f (content_got 0 e) ≡ content_sent output e ++ owed q))
    → (p : Poise K) (es : List Happening) (q : Poise K) → Good p → Runs rules p es q → owed p ++ flat_map f (got 0 es) ≡ sent output es ++ owed q
owed-to rules output Good f owed step p [] q g r = rw r (simp (append-nil))
owed-to rules output Good f owed step p (e ∷ es) q g r =
    let m = r.0 in
    let s = step p e m g r.1 in
    let t : owed m ++ flat_map f (got 0 es) ≡ sent output es ++ owed q = owed-to rules output Good f owed step m es q s.0 r.2 in
    let x = content_got 0 e in
    let y = content_sent output e in
    ap (λ zs. owed p ++ zs) (flat_map-append f x (got 0 es)) ∙ sym (append_assoc (owed p) (flat_map f x) (flat_map f (got 0 es)))
    ∙ ap (λ zs. zs ++ flat_map f (got 0 es)) s.1 ∙ append_assoc y (owed m) (flat_map f (got 0 es))
    ∙ ap (λ zs. y ++ zs) t ∙ sym (append_assoc y (sent output es) (owed q))

-- the same at the first output
pub owed-run : {K : Type 0} (rules : Rules K) (Good : Poise K → Type 0) (f : Tree → List Tree) (owed : Poise K → List Tree)
    → ((p : Poise K) (e : Happening) (q : Poise K) → Good p → Steps rules p e q → Good q × (owed p ++ flat_map f (content_got 0 e) ≡ content_sent 0 e ++ owed q))
    → (p : Poise K) (es : List Happening) (q : Poise K) → Good p → Runs rules p es q → owed p ++ flat_map f (got 0 es) ≡ sent 0 es ++ owed q
owed-run rules Good f owed step p es q g r = owed-to rules 0 Good f owed step p es q g r

-- what holds of a component between answers, and is kept by each step, holds after a run
pub good-run : {K : Type 0} (rules : Rules K) (Good : Poise K → Type 0)
    → ((p : Poise K) (e : Happening) (q : Poise K) → Good p → Steps rules p e q → Good q) → (p : Poise K) (es : List Happening) (q : Poise K) → Good p → Runs rules p es q → Good q
good-run rules Good step p [] q g r = subst Good (sym r) g
good-run rules Good step p (e ∷ es) q g r = good-run rules Good step r.0 es q (step p e r.0 g r.1) r.2

-- the law on wishes holds at each step
pub stays-allowed : {K : Type 0} (rules : Rules K) → Lawful rules → (p : Poise K) (e : Happening) (q : Poise K) → Steps rules p e q → IsAllowed (rules.shape p.component) (rules.uses p.component) q.held q.wish
stays-allowed rules lawful p e q s = (lawful.obeys p.component s.held (answer_of e) (Wishes q.component q.held q.wish) s.is_ready s.comes_to).1

-- one step more
pub Runs-more : {K : Type 0} (rules : Rules K) (p : Poise K) (es : List Happening) (m : Poise K) (e : Happening) (q : Poise K)
    → Runs rules p es m → Steps rules m e q → Runs rules p (es ++ e ∷ []) q
Runs-more rules p [] m e q r s = (q, subst (λ (u : Poise _). Steps rules u e q) r s, refl)
Runs-more rules p (f ∷ es) m e q r s = (r.0, r.1, Runs-more rules r.0 es m e q r.2 s)

-- One more happening adds at its end what it got at the port.
pub got-more : (port : ℕ) (es : List Happening) (e : Happening) → got port (es ++ e ∷ []) ≡ got port es ++ content_got port e
got-more port es e = flat_map-append (content_got port) es (e ∷ []) ∙ ap (λ ts. got port es ++ ts) (append-nil (content_got port e))

-- the content of a packet that is found
abbrev pub contents_in : Option Tree → List Tree
contents_in None = []
contents_in (Some t) = content t ∷ []

-- what was made in empty hands
pub made_at : (held : Held) (text : List ℕ) → held.packets ≡ [] → contents_in (packet_at (with_made held Normal text).packets (next_id held)) ≡ text_packet text ∷ []
made_at held text e = let s = same_id (next_id held) in rw (e, s) refl

-- the first port, where only it is used, and where it is the only one
pub port_zero : (port : ℕ) → IsTrue (port == 0) → nat_eq 0 port ≡ true
port_zero port is = let h : nat_eq port 0 ≡ true = is in grind (arith, nat_tests)

-- The only port below one is port 0.
pub port_below_one : (port : ℕ) → port < 1 → nat_eq 0 port ≡ true
port_below_one port l = grind (arith, nat_tests)

-- a packet that is alone in the hands is found there
pub one-alone : (ts : List Tree) (t : Tree) → ts ≡ t ∷ [] → packet_at ts (id_of t) ≡ Some t
one-alone ts t e = let s = same_id (id_of t) in rw (e, s) refl

-- Hands that hold one packet have its kind at its id.
pub kind-alone : (ts : List Tree) (t : Tree) → ts ≡ t ∷ [] → kind_at ts (id_of t) ≡ kind_of t
kind-alone ts t e = ap kind_in (one-alone ts t e)

-- Hands that hold one packet have its text at its id.
pub text-alone : (ts : List Tree) (t : Tree) → ts ≡ t ∷ [] → text_at ts (id_of t) ≡ text_of t
text-alone ts t e = ap text_in (one-alone ts t e)

-- Hands that hold one packet are empty without it.
pub gone-alone : (ts : List Tree) (t : Tree) → ts ≡ t ∷ [] → without ts (id_of t) ≡ []
gone-alone ts t e = let s = same_id (id_of t) in rw (e, s) refl

-- A packet and its content have one kind.
pub content-kind : (t : Tree) → kind_of (content t) ≡ kind_of t
content-kind (node id kind text cs) = refl

-- A packet and its content have one text.
pub content-text : (t : Tree) → text_of (content t) ≡ text_of t
content-text (node id kind text cs) = refl

-- A list of one-member lists joins to the list itself.
pub flat_map-single : {A : Type 0} (xs : List A) → flat_map (λ x. x ∷ []) xs ≡ xs
flat_map-single [] = refl
flat_map-single (x ∷ xs) = ap (λ ys. x ∷ ys) (flat_map-single xs)
