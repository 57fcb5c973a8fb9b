-- An output that is found among the senders of the connections is one of them.
use Rattle.std.proofs.Common.{◌≡◌, ℕ, suc, List, [], ◌∷◌, Some, Bool, true, false, refl, ap, ◌∙◌, slice_get}
use Rattle.std.specs.Prelude.{◌&&◌, ◌||◌, ◌==◌}
use Rattle.std.specs.List.{list_any}
use Rattle.std.proofs.lemmas.Bool.{false≢true}
use Rattle.flow_plan.specs.declared.plan.Sender.{Sender}
use Rattle.flow_plan.specs.Network.{Network}
use Rattle.flow_plan.specs.Valid.{HasSender}
use Rattle.flow_net.proofs.Ends.{and_true, eqb_true}
use Rattle.flow_catalogue.specs.Processes.{has_sender, is_connected}

-- Where some element passes, this is one that does.
pub record Passes {A : Type 0} (test : A → Bool) (xs : List A) : Type 0 where
  pub place : ℕ
  pub element : A
  pub here : slice_get xs place ≡ Some element
  pub passes : test element ≡ true

any-there : {A : Type 0} (test : A → Bool) (xs : List A) → list_any test xs ≡ true → Passes test xs
any-there test [] is = absurd (false≢true is)
any-there {A} test (x ∷ xs) is = by (test x) refl is (any-there test xs)
  where
    by : (b : Bool) → test x ≡ b → (b || list_any test xs) ≡ true → (list_any test xs ≡ true → Passes test xs) → Passes test (x ∷ xs)
    by true t is rest = record { place = 0; element = x; here = refl; passes = t }
    by false t is rest = let r = rest is in record { place = suc r.place; element = r.element; here = r.here; passes = r.passes }

-- An output that is connected is a sender of some connection.
pub connected-sends : (n : Network) (p o : ℕ) → is_connected n p o ≡ true → HasSender n p o
connected-sends n p o is =
    let c = any-there (has_sender p o) n.connections is in
    let s = any-there (λ (s : Sender). (s.process == p) && (s.output == o)) c.element.senders c.passes in
    let both = and_true (s.element.process == p) (s.element.output == o) s.passes in
    let a = eqb_true s.element.process p both.0 in
    let b = eqb_true s.element.output o both.1 in
    let same : s.element ≡ record { process = p; output = o } = λ i. record { process = a i; output = b i } in
    record { number = c.place; connection = c.element; place = s.place; here = c.here; sender = s.here ∙ ap (λ (x : Sender). Some x) same }
