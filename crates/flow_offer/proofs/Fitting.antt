-- A component of the caller's own with the shape that the plan gives its process, and the outputs that it connects, fits the process.
use Rattle.std.proofs.Common.{◌≡◌, ℕ, ◌+◌, ◌<◌, ◌++◌, Bool, true, false, List, [], ◌∷◌, length, Option, Some, refl, sym, ap, subst, ◌∙◌, cond, arith, map-id, append-nil, slice_get, slice_index_or}
use Rattle.std.specs.Prelude.{◌==◌, ◌||◌, IfSome}
use Rattle.std.specs.List.{filter, range_with_len}
use Rattle.std.proofs.lemmas.Option.{slice_get-get_or}
use Rattle.std.proofs.lemmas.List.Elements.{filter-append}
use Rattle.std.proofs.lemmas.List.FromFn.{map-range_with_len_more}
use Rattle.flow_plan.specs.declared.plan.Process.{Process}
use Rattle.flow_plan.specs.Network.{Network}
use Rattle.std.proofs.lemmas.Bool.{false≢true}
use Rattle.flow_component.specs.Laws.{Rules}
use Rattle.flow_net.proofs.Ends.{eqb_true}
use Rattle.flow_catalogue.specs.Processes.{is_connected}
use Rattle.flow_catalogue.proofs.Connected.{connected-sends}
use Rattle.flow_own.specs.Ends.{is_used}
use Rattle.flow_offer.specs.Fits.{used_outputs, FitsMixed, FitsPlayed}

-- what is used passes the test by which it was picked
used-passes : (test : ℕ → Bool) (xs : List ℕ) (o : ℕ) → is_used (filter test xs) o ≡ true → test o ≡ true
used-passes test [] o is = absurd (false≢true is)
used-passes test (x ∷ xs) o is = by (test x) refl is (used-passes test xs o)
  where
    or-else : (same : Bool) → (x == o) ≡ same → test x ≡ true → (same || is_used (filter test xs) o) ≡ true → (is_used (filter test xs) o ≡ true → test o ≡ true) → test o ≡ true
    or-else true same passes is rest = ap test (sym (eqb_true x o same)) ∙ passes
    or-else false same passes is rest = rest is

    by : (passes : Bool) → test x ≡ passes → is_used (cond passes (x ∷ filter test xs) (filter test xs)) o ≡ true → (is_used (filter test xs) o ≡ true → test o ≡ true) → test o ≡ true
    by true passes is rest = or-else (x == o) refl passes is rest
    by false passes is rest = rest is

range-more : (n : ℕ) → range_with_len 0 (n + 1) ≡ range_with_len 0 n ++ n ∷ []
range-more n = sym (map-id (range_with_len 0 (n + 1))) ∙ map-range_with_len_more (λ (x : ℕ). x) 0 n n (omega arith) ∙ ap (λ (l : List ℕ). l ++ n ∷ []) (map-id (range_with_len 0 n))

used-more : (plan : Network) (p k : ℕ) → used_outputs plan p (k + 1) ≡ used_outputs plan p k ++ cond (is_connected plan p k) (k ∷ []) []
used-more plan p k = ap (filter (is_connected plan p)) (range-more k) ∙ filter-append (is_connected plan p) (range_with_len 0 k) (k ∷ [])

-- one output more, which sends to a connection or doesn't
pub used-yes : (plan : Network) (p k : ℕ) (xs ys : List ℕ) → is_connected plan p k ≡ true → xs ≡ used_outputs plan p k → ys ≡ xs ++ k ∷ [] → ys ≡ used_outputs plan p (k + 1)
used-yes plan p k xs ys sends before is = is ∙ ap (λ (l : List ℕ). l ++ k ∷ []) before ∙ sym (used-more plan p k ∙ ap (λ (b : Bool). used_outputs plan p k ++ cond b (k ∷ []) []) sends)

-- An output that sends to no connection is none of those that are used.
pub used-no : (plan : Network) (p k : ℕ) (xs : List ℕ) → is_connected plan p k ≡ false → xs ≡ used_outputs plan p k → xs ≡ used_outputs plan p (k + 1)
used-no plan p k xs open_ before = before ∙ sym (used-more plan p k ∙ ap (λ (b : Bool). used_outputs plan p k ++ cond b (k ∷ []) []) open_ ∙ append-nil (used_outputs plan p k))

-- what holds of all outputs of the process that was read
pub of-read : (plan : Network) (p : ℕ) (processes : List Process) (process : Process) (used : List ℕ) → processes ≡ plan.processes → process ≡ slice_index_or processes p process → p < length processes → used ≡ used_outputs plan p process.outputs
    → IfSome (slice_get plan.processes p) (λ x. used ≡ used_outputs plan p x.outputs)
of-read plan p processes process used same read lt is =
    let at = slice_get-get_or processes p process lt in
    let here : slice_get plan.processes p ≡ Some process = ap (λ (l : List Process). slice_get l p) (sym same) ∙ at ∙ ap (λ (x : Process). Some x) (sym read) in
    subst (λ (o : Option Process). IfSome o (λ x. used ≡ used_outputs plan p x.outputs)) (sym here) is

-- Players and parts fit, and others where they fit by themselves.
pub fits-mixed : {K : Type 0} (rules : Rules K) → FitsMixed rules
fits-mixed rules = record {
  players = λ plan p process tape. record {
    inputs = refl;
    outputs = refl;
    used = λ o is. connected-sends plan p o (used-passes (is_connected plan p) _ o is);
    can_start = λ held empty. tt;
  };
  parts = λ plan p process part. record {
    inputs = refl;
    outputs = refl;
    used = λ o is. connected-sends plan p o (used-passes (is_connected plan p) _ o is);
    can_start = λ held empty. refl;
  };
  others = λ plan p process component fits. record { inputs = fits.inputs; outputs = fits.outputs; used = fits.used; can_start = fits.can_start };
}

-- Players fit among players, and others where they fit by themselves.
pub fits-played : {K : Type 0} (rules : Rules K) → FitsPlayed rules
fits-played rules = record {
  players = λ plan p process tape. record {
    inputs = refl;
    outputs = refl;
    used = λ o is. connected-sends plan p o (used-passes (is_connected plan p) _ o is);
    can_start = λ held empty. (record { unmanned = refl; placed = refl }, tt);
  };
  others = λ plan p process component fits. record { inputs = fits.inputs; outputs = fits.outputs; used = fits.used; can_start = λ held empty. (tt, fits.can_start held empty) };
}
