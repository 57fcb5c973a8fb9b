-- What Brackets sends is what it gets, with brackets made.
use Rattle.std.proofs.Common.{◌≡◌, ℕ, ◌-◌, List, [], ◌∷◌, ◌++◌, map, drop, take, length, refl, sym, ap, ◌∙◌, append-nil, nat_eq, true, Option, Some, None, arith}
use Rattle.std.specs.Prelude.{slice_range}
use Rattle.std.specs.List.{flat_map}
use Rattle.std.proofs.lemmas.List.{length-drop}
use Rattle.std.proofs.lemmas.Grind.{common_steps}
use Rattle.flow_packet.specs.Tree.{Tree, content, id_of, kind_of, text_of}
use Rattle.flow_packet.specs.declared.packet.Kind.{Kind}
use Rattle.flow_packet.specs.declared.packet.Kind.TheVariants.{Normal, Open, Close}
use Rattle.flow_packet.specs.Hands.{packet_at, text_at, kind_at}
use Rattle.flow_packet.specs.Held.{Held, next_id}
use Rattle.flow_component.specs.declared.Wish.{Wish}
use Rattle.flow_component.specs.declared.Wish.TheVariants as wishes
use Rattle.flow_component.specs.Laws.{Outcome, Wishes, Fails, IsAllowed}
use Rattle.flow_component.specs.Alone.{HoldsOnly}
use Rattle.flow_component.specs.Ports.{one_to_one, uses_first}
use Rattle.flow_component.specs.Happenings.{Happening, Started, Received, Ended, Sent, Learned}
use Rattle.flow_component.specs.Runs.{Poise, fresh, Steps, content_got, content_sent, got, sent}
use Rattle.flow_component.proofs.Roots.{same_id}
use Rattle.flow_component.proofs.Lone.{HoldsOnly-packet_at, HoldsOnly-text, HoldsOnly-kind, HoldsOnly-end}
use Rattle.flow_component.proofs.Streams.{owed-run, stays-allowed, Comes-packets, contents_in, content-kind, content-text, port_zero, port_below_one}
use Rattle.flow_parts.specs.Brackets.{bracket_of, turns, takes, brackets_rules}
use Rattle.flow_parts.specs.BracketsLaws.{renewed, brackets_lawful}
use Rattle.flow_parts.specs.Meanings.{bracketed_as, bracketed_by, bracketed, BracketsMeaning}

take-all : (xs : List ℕ) → take (length xs) xs ≡ xs
take-all xs = grind (arith, common_steps)

rest-of : (text : List ℕ) → slice_range text 1 (length text) ≡ drop 1 text
rest-of text = let e : length text - 1 ≡ length (drop 1 text) = omega (arith, length-drop 1 text) in rw e (take-all (drop 1 text))

map-single : (f : Tree → Tree) (xs : List Tree) → flat_map (λ t. f t ∷ []) xs ≡ map f xs
map-single f [] = refl
map-single f (x ∷ xs) = ap (λ ys. f x ∷ ys) (map-single f xs)

abbrev owes : Held → Wish → List Tree
owes held (wishes.Receive port) = []
owes held (wishes.Send port id) = contents_in (packet_at held.packets id)
owes held (wishes.Level port) = []
owes held wishes.Deactivate = []

module _ {K : Type 0} where
  abbrev owes_after : Outcome K → List Tree
  owes_after (Wishes component held wish) = owes held wish
  owes_after (Fails component held cause) = []

  abbrev owed : Poise K → List Tree
  owed p = owes p.held p.wish

  after-turning : (component : K) (held : Held) (t : Tree) (text : List ℕ) (kind : Option Kind) (h : HoldsOnly held (id_of t)) → t ≡ h.packet → text ≡ text_of (content t) → owes_after (turns component held (id_of t) text kind) ≡ bracketed_as kind (content t) ∷ []
  after-turning component held t text None h e w = let a : packet_at held.packets (id_of t) ≡ Some t = HoldsOnly-packet_at held (id_of t) h ∙ ap Some (sym e) in rw a refl
  after-turning component held t text (Some kind) h e w =
      let r = renewed held (id_of t) kind (slice_range text 1 (length text)) h in
      let s = same_id (next_id held) in
      let rest : slice_range text 1 (length text) ≡ drop 1 (text_of (content t)) = rest-of text ∙ ap (drop 1) w in
      rw (r, s) (ap (λ (l : List ℕ). Rattle.flow_packet.specs.Tree.packet_of 0 kind l [] ∷ []) rest)

  after-taking : (component : K) (held : Held) (t : Tree) (kind : Kind) (h : HoldsOnly held (id_of t)) → t ≡ h.packet → owes_after (takes component held (id_of t) kind) ≡ bracketed_by kind (content t) ∷ []
  after-taking component held t Normal h e =
      let w : text_at held.packets (id_of t) ≡ text_of (content t) = HoldsOnly-text held (id_of t) h ∙ ap text_of (sym e) ∙ sym (content-text t) in
      after-turning component held t (text_at held.packets (id_of t)) (bracket_of (text_at held.packets (id_of t))) h e w ∙ ap (λ (l : List ℕ). bracketed_as (bracket_of l) (content t) ∷ []) w
  after-taking component held t Open h e = let a : packet_at held.packets (id_of t) ≡ Some t = HoldsOnly-packet_at held (id_of t) h ∙ ap Some (sym e) in rw a refl
  after-taking component held t Close h e = let a : packet_at held.packets (id_of t) ≡ Some t = HoldsOnly-packet_at held (id_of t) h ∙ ap Some (sym e) in rw a refl

  step : (p : Poise K) (e : Happening) (q : Poise K) → IsAllowed one_to_one uses_first p.held p.wish → Steps brackets_rules p e q
      → owed p ++ flat_map (λ t. bracketed t ∷ []) (content_got 0 e) ≡ content_sent 0 e ++ owed q
  step p Started q g s =
      let a : owed p ≡ [] = rw s.grants.0 refl in
      let b : owed q ≡ [] = ap owes_after s.comes_to in
      rw (a, b) refl
  step p (Received port t) q g s =
      let a : owed p ≡ [] = rw s.grants.0 refl in
      let z : nat_eq 0 port ≡ true = port_below_one port (rw s.grants.0 at g) in
      let h = s.is_ready in
      let e : t ≡ h.packet = HoldsOnly-end s.held p.held.packets t (Comes-packets p.held t s.held s.grants.1) h in
      let k : kind_at s.held.packets (id_of t) ≡ kind_of (content t) = HoldsOnly-kind s.held (id_of t) h ∙ ap kind_of (sym e) ∙ sym (content-kind t) in
      let b : owed q ≡ bracketed (content t) ∷ [] = ap owes_after s.comes_to ∙ after-taking p.component s.held t (kind_at s.held.packets (id_of t)) h e ∙ ap (λ (kind : Kind). bracketed_by kind (content t) ∷ []) k in
      rw (a, b, z) refl
  step p (Ended port) q g s =
      let a : owed p ≡ [] = rw s.grants.0 refl in
      let b : owed q ≡ [] = ap owes_after s.comes_to in
      rw (a, b) refl
  step p (Sent port t) q g s =
      let z : nat_eq 0 port ≡ true = port_zero port (rw s.grants.0 at g).0 in
      let a : owed p ≡ content t ∷ [] = rw (s.grants.0, s.grants.1) refl in
      let b : owed q ≡ [] = ap owes_after s.comes_to in
      rw (a, b, z) refl
  step p (Learned port level) q g s = absurd s.is_ready

  pub brackets_meaning : BracketsMeaning K
  brackets_meaning component told run =
      let e = owed-run brackets_rules (λ p. IsAllowed one_to_one uses_first p.held p.wish) (λ t. bracketed t ∷ []) owed
      (λ p e q g s. (stays-allowed brackets_rules brackets_lawful p e q s, step p e q g s)) (fresh component run.maker) told run.last tt run.runs in
      let b : owed run.last ≡ [] = rw run.idle refl in
      sym (append-nil (sent 0 told)) ∙ ap (λ us. sent 0 told ++ us) (sym b) ∙ sym e ∙ map-single bracketed (got 0 told)
