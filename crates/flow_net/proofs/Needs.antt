-- Which numbers of ports are needed.
use Rattle.std.proofs.Common.{◌≡◌, ℕ, ◌+◌, ◌-◌, ◌<◌, ◌≤◌, List, [], ◌∷◌, Some, Bool, true, false, map, refl, ap, sym, ◌∙◌, suc, inl, inr, ◌⊎◌, slice_get, length, take, arith}
use Rattle.std.specs.Prelude.{if◌then◌else◌}
use Rattle.std.specs.List.{sum_by}
use Rattle.std.proofs.lemmas.Bool.{cases_lt}
use Rattle.std.proofs.lemmas.List.{length-map}
use Rattle.std.proofs.lemmas.List.Sums.{sum_by-cons}
use Rattle.flow_net.specs.declared.draft.DraftPort.{DraftPort}
use Rattle.flow_plan.specs.declared.kind.PortRef.{PortRef}
use Rattle.flow_plan.specs.Network.{is_stream, elements_of}
use Rattle.flow_net.specs.Drafts.{is_side}
use Rattle.flow_net.specs.Finishes.{elements_in, count_of, counted, row_of, rows_of}
use Rattle.flow_plan.specs.Valid.{needs_of}
use Rattle.flow_plan.proofs.PortNames.{slice_get-left, slice_get-right}
use Rattle.flow_net.proofs.Laying.{row-count}
use Rattle.flow_net.proofs.Numbers.{Numbered}
use Rattle.flow_net.proofs.Rows.{mapped}

-- A sum over a mapped list is the sum of what is mapped.
pub sum_by_map : {A B : Type 0} (g : B → ℕ) (f : A → B) (xs : List A) → sum_by g (map f xs) ≡ sum_by (λ x. g (f x)) xs
sum_by_map g f [] = refl
sum_by_map g f (x ∷ xs) = omega (arith, sum_by_map g f xs, sum_by-cons g (f x) (map f xs), sum_by-cons (λ x. g (f x)) x xs)

pub counted_side : (p : ℕ) (s : Bool) (port : DraftPort) (e : ℕ) → e < counted p s port → (is_side p s port ≡ true) × (e < count_of port)
counted_side p s port e within = by (is_side p s port) refl within
  where
    by : (b : Bool) → is_side p s port ≡ b → e < (if b then count_of port else 0) → (is_side p s port ≡ true) × (e < count_of port)
    by true test below = (test, below)
    by false test below = absurd (omega arith)

pub count_stream : (port : DraftPort) (e : ℕ) → e < count_of port → (is_stream port.spec.class ≡ true) × (e < elements_in port)
count_stream port e within = by (is_stream port.spec.class) refl within
  where
    by : (b : Bool) → is_stream port.spec.class ≡ b → e < (if b then elements_in port else 0) → (is_stream port.spec.class ≡ true) × (e < elements_in port)
    by true test below = (test, below)
    by false test below = absurd (omega arith)

-- An element of this number, whose port is needed or not.
pub record NeedsNumber (ports : List DraftPort) (p : ℕ) (s : Bool) (o : ℕ) (needed : Bool) : Type 0 where
  pub numbered : Numbered (counted p s) ports o
  pub is : numbered.port.spec.needed ≡ needed

pub mapped_same : {A B : Type 0} (b c : B) (xs : List A) (i : ℕ) → slice_get (map (λ x. b) xs) i ≡ Some c → b ≡ c
mapped_same b c xs i is = (mapped (λ x. b) xs i c is).2

pub needs_numbered : (ports : List DraftPort) (p : ℕ) (s : Bool) (o : ℕ) (needed : Bool) → slice_get (needs_of (rows_of ports p s)) o ≡ Some needed → NeedsNumber ports p s o needed
needs_numbered [] p s o needed is = absurd (cc)
needs_numbered (port ∷ ports) p s o needed is = by (is_side p s port) refl is (λ k at. needs_numbered ports p s k needed at)
  where
    later : (k : ℕ) → counted p s port + k ≡ o → NeedsNumber ports p s k needed → NeedsNumber (port ∷ ports) p s o needed
    later k sum at = record {
      numbered = record {
        place = suc at.numbered.place;
        element = at.numbered.element;
        port = at.numbered.port;
        here = at.numbered.here;
        within = at.numbered.within;
        number = omega (arith, at.numbered.number, sum, sum_by-cons (counted p s) port (take at.numbered.place ports));
      };
      is = at.is;
    }

    by : (b : Bool) → is_side p s port ≡ b → slice_get (needs_of (if b then row_of port ∷ rows_of ports p s else rows_of ports p s)) o ≡ Some needed → ((k : ℕ) → slice_get (needs_of (rows_of ports p s)) k ≡ Some needed → NeedsNumber ports p s k needed) → NeedsNumber (port ∷ ports) p s o needed
    by false test is rest =
        let none : counted p s port ≡ 0 = ap (λ b. if b then count_of port else 0) test in
        later o (omega (arith, none)) (rest o is)
    by true test is rest = at (cases_lt o (length (map (λ (r : PortRef). port.spec.needed) (elements_of (row_of port)))))
      where
        count : counted p s port ≡ length (elements_of (row_of port))
        count = ap (λ b. if b then count_of port else 0) test ∙ sym (row-count port)

        long : length (map (λ (r : PortRef). port.spec.needed) (elements_of (row_of port))) ≡ length (elements_of (row_of port))
        long = length-map (elements_of (row_of port)) (λ (r : PortRef). port.spec.needed)

        at : (o < length (map (λ (r : PortRef). port.spec.needed) (elements_of (row_of port)))) ⊎ (length (map (λ (r : PortRef). port.spec.needed) (elements_of (row_of port))) ≤ o) → NeedsNumber (port ∷ ports) p s o needed
        at (inl first) =
            let value : slice_get (map (λ (r : PortRef). port.spec.needed) (elements_of (row_of port))) o ≡ Some needed =
            sym (slice_get-left (map (λ (r : PortRef). port.spec.needed) (elements_of (row_of port))) (needs_of (rows_of ports p s)) o first) ∙ is in
            record {
              numbered = record { place = 0; element = o; port = port; here = refl; within = omega (arith, count, long, first); number = omega arith };
              is = mapped_same port.spec.needed needed (elements_of (row_of port)) o value;
            }
        at (inr past) =
            let sum : o ≡ length (map (λ (r : PortRef). port.spec.needed) (elements_of (row_of port))) + (o - counted p s port) = omega (arith, count, long, past) in
            later (o - counted p s port) (omega (arith, count, long, past))
            (rest (o - counted p s port) (sym (slice_get-right (map (λ (r : PortRef). port.spec.needed) (elements_of (row_of port))) (needs_of (rows_of ports p s)) o (o - counted p s port) sum) ∙ is))
