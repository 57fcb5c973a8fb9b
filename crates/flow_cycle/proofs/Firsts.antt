-- In a deadlock the first open sender of a connection is the first of its senders in the plan whose process hasn't ended.
use Rattle.std.proofs.Common.{◌≡◌, ℕ, ◌+◌, Bool, true, false, List, [], ◌∷◌, Option, Some, None, IsTrue, refl, sym, ap, ◌∙◌, subst, cond, ◌||◌, nat_eq, arith, inl, inr, slice_get, zero, suc}
use Rattle.std.specs.Prelude.{find}
use Rattle.std.specs.List.{list_any}
use Rattle.std.proofs.lemmas.Bool.Decides.{nat_tests}
use Rattle.flow_plan.specs.declared.plan.Sender.{Sender}
use Rattle.flow_model.specs.States.{is_sender, Outlet, outlets_from}
use Rattle.flow_model.specs.Valid.{IsOpenSender, AllDifferent}
use Rattle.flow_cycle.specs.Waiting.{first_of}
use Rattle.flow_cycle.proofs.Channels.{AreAmong}

or-true : (a b : Bool) → b ≡ true → (a || b) ≡ true
or-true true b is = refl
or-true false b is = is

sender-is : (s : Sender) → is_sender s s ≡ true
sender-is s = let a : nat_eq s.process s.process ≡ true = grind (arith, nat_tests) in let b : nat_eq s.output s.output ≡ true = grind (arith, nat_tests) in rw (a, b) refl

-- a sender that heads a list is in it
pub head-open : (s : Sender) (senders : List Sender) → IsOpenSender s (s ∷ senders)
head-open s senders = ap (λ b. b || list_any (is_sender s) senders) (sender-is s)

-- So is one that stands at a place of it.
pub place-open : (sender : Sender) (senders : List Sender) (k : ℕ) → slice_get senders k ≡ Some sender → IsOpenSender sender senders
place-open sender [] k is = absurd (cc)
place-open sender (s ∷ senders) zero is = let same : s ≡ sender = cc in ap (λ (t : Sender). is_sender sender t || list_any (is_sender sender) senders) same ∙ head-open sender senders
place-open sender (s ∷ senders) (suc k) is = or-true (is_sender sender s) (list_any (is_sender sender) senders) (place-open sender senders k is)

-- what is among some is among all
among-open : (sender : Sender) (some all : List Sender) → AreAmong some all → IsOpenSender sender some → IsOpenSender sender all
among-open sender some [] among is = subst (IsOpenSender sender) among is
among-open sender some (s ∷ all) (inl later) is = or-true (is_sender sender s) (list_any (is_sender sender) all) (among-open sender some all later is)
among-open sender some (s ∷ all) (inr here) is = by (is_sender sender s) (subst (IsOpenSender sender) here.1 is) (λ is. among-open sender here.0 all here.2 is)
  where
    by : (b : Bool) → IsTrue (b || list_any (is_sender sender) here.0) → (IsOpenSender sender here.0 → IsOpenSender sender all) → IsTrue (b || list_any (is_sender sender) all)
    by true is on = refl
    by false is on = on is

-- The first that passes a test is the first of those that are among all, where these are the ones that pass it.
pub first-among : (test : Sender → Bool) (some all : List Sender) → AreAmong some all → AllDifferent all → ((s : Sender) → IsOpenSender s some → test s ≡ true) → ((s : Sender) → IsOpenSender s all → test s ≡ true → IsOpenSender s some) → find test all ≡ first_of some
first-among test some [] among different passes are = sym (ap first_of among)
first-among test some (s ∷ all) (inl later) different passes are =
    by (test s) refl (first-among test some all later different.1 passes (λ t is pass. are t (or-true (is_sender t s) (list_any (is_sender t) all) is) pass))
  where
    by : (b : Bool) → test s ≡ b → find test all ≡ first_of some → cond (test s) (Some s) (find test all) ≡ first_of some
    by true t rest = absurd (different.0 (among-open s some all later (are s (head-open s all) t)))
    by false t rest = ap (λ b. cond b (Some s) (find test all)) t ∙ rest
first-among test some (s ∷ all) (inr here) different passes are =
    let pass : test s ≡ true = passes s (subst (IsOpenSender s) (sym here.1) (head-open s here.0)) in
    ap (λ b. cond b (Some s) (find test all)) pass ∙ sym (ap first_of here.1)

-- the connected output of an output that has a connection
pub outlet-found : (k : ℕ) (os : List (Option ℕ)) (m c : ℕ) → slice_get os m ≡ Some (Some c) → (j : ℕ) × (slice_get (outlets_from k os) j ≡ Some (let o : Outlet = record { output = k + m; connection = c } in o))
outlet-found k [] m c is = absurd (cc)
outlet-found k (Some d ∷ os) zero c is = (0, (let h : Some d ≡ Some c = cc in let e : d ≡ c = cc in let n : k ≡ k + zero = omega arith in λ i. Some (let o : Outlet = record { output = n i; connection = e i } in o)))
outlet-found k (None ∷ os) zero c is = absurd (cc)
outlet-found k (Some d ∷ os) (suc m) c is = let r = outlet-found (k + 1) os m c is in let n : k + 1 + m ≡ k + suc m = omega arith in (suc r.0, r.1 ∙ (λ i. Some (let o : Outlet = record { output = n i; connection = c } in o)))
outlet-found k (None ∷ os) (suc m) c is = let r = outlet-found (k + 1) os m c is in let n : k + 1 + m ≡ k + suc m = omega arith in (r.0, r.1 ∙ (λ i. Some (let o : Outlet = record { output = n i; connection = c } in o)))
