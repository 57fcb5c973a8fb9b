-- The initial texts of a draft, by the numbers of their ports.
use Rattle.std.proofs.Common.{◌≡◌, ℕ, List, [], ◌∷◌, Option, Some, Bool, true, false, refl, ap, sym, ◌∙◌, zero, suc, slice_get, arith}
use Rattle.std.specs.Prelude.{if◌then◌else◌}
use Rattle.flow_net.specs.declared.draft.End.{End}
use Rattle.flow_net.specs.declared.draft.DraftPort.{DraftPort}
use Rattle.flow_net.specs.Drafts.{is_stream_at}
use Rattle.flow_net.specs.Finishes.{number_of, initials_of}

-- a text at a stream port is an initial text of its number
pub initial_there : (ports : List DraftPort) (texts : List (End × List ℕ)) (k : ℕ) (end : End) (text : List ℕ) → slice_get texts k ≡ Some (end, text) → is_stream_at ports end ≡ true → (m : ℕ) × (slice_get (initials_of ports texts) m ≡ Some (number_of ports end, text))
initial_there ports [] k end text here stream = absurd (cc)
initial_there ports (x ∷ xs) zero end text here stream =
    let whole : ◌≡◌ {A = End × List ℕ} x (end, text) = cc in
    let test : is_stream_at ports x.0 ≡ true = ap (λ (y : End × List ℕ). is_stream_at ports y.0) whole ∙ stream in
    (0, ap (λ b. slice_get (if b then (number_of ports x.0, x.1) ∷ initials_of ports xs else initials_of ports xs) 0) test ∙ ap (λ (y : End × List ℕ). Some (number_of ports y.0, y.1)) whole)
initial_there ports (x ∷ xs) (suc k) end text here stream = by (is_stream_at ports x.0) (initial_there ports xs k end text here stream)
  where
    by : (b : Bool) → (m : ℕ) × (slice_get (initials_of ports xs) m ≡ Some (number_of ports end, text)) → (m : ℕ) × (slice_get (if b then (number_of ports x.0, x.1) ∷ initials_of ports xs else initials_of ports xs) m ≡ Some (number_of ports end, text))
    by true later = (suc later.0, later.1)
    by false later = later

-- An initial text is a text at a stream port of its number.
pub record FromText (ports : List DraftPort) (texts : List (End × List ℕ)) (i : ℕ) (text : List ℕ) : Type 0 where
  pub place : ℕ
  pub end : End
  pub here : slice_get texts place ≡ Some (end, text)
  pub stream : is_stream_at ports end ≡ true
  pub number : number_of ports end ≡ i

pub initial_from : (ports : List DraftPort) (texts : List (End × List ℕ)) (m i : ℕ) (text : List ℕ) → slice_get (initials_of ports texts) m ≡ Some (i, text) → FromText ports texts i text
initial_from ports [] m i text here = absurd (cc)
initial_from ports (x ∷ xs) m i text here = by (is_stream_at ports x.0) refl m here (λ k at. initial_from ports xs k i text at)
  where
    later : FromText ports xs i text → FromText ports (x ∷ xs) i text
    later from = record { place = suc from.place; end = from.end; here = from.here; stream = from.stream; number = from.number }

    by : (b : Bool) → is_stream_at ports x.0 ≡ b → (m : ℕ) → slice_get (if b then (number_of ports x.0, x.1) ∷ initials_of ports xs else initials_of ports xs) m ≡ Some (i, text) → ((k : ℕ) → slice_get (initials_of ports xs) k ≡ Some (i, text) → FromText ports xs i text) → FromText ports (x ∷ xs) i text
    by true test zero here rest =
        let pair : ◌≡◌ {A = ℕ × List ℕ} (number_of ports x.0, x.1) (i, text) = cc in
        record { place = 0; end = x.0; here = ap (λ (y : ℕ × List ℕ). Some (x.0, y.1)) pair; stream = test; number = ap (λ (y : ℕ × List ℕ). y.0) pair }
    by true test (suc k) here rest = later (rest k here)
    by false test m here rest = later (rest m here)

-- no two initial texts have one number, where no two texts at stream ports have
pub initial_once : (ports : List DraftPort) (texts : List (End × List ℕ)) → ((k l : ℕ) (a b : End × List ℕ) → slice_get texts k ≡ Some a → slice_get texts l ≡ Some b → is_stream_at ports a.0 ≡ true → is_stream_at ports b.0 ≡ true → number_of ports a.0 ≡ number_of ports b.0 → k ≡ l) → (m o i : ℕ) (t u : List ℕ) → slice_get (initials_of ports texts) m ≡ Some (i, t) → slice_get (initials_of ports texts) o ≡ Some (i, u) → m ≡ o
initial_once ports [] once m o i t u here there = absurd (cc)
initial_once ports (x ∷ xs) once m o i t u here there = by (is_stream_at ports x.0) refl m o here there (λ p q a b. initial_once ports xs (λ k l v w h g s r n. suc_same k l (once (suc k) (suc l) v w h g s r n)) p q i t u a b)
  where
    suc_same : (k l : ℕ) → suc k ≡ suc l → k ≡ l
    suc_same k l is = omega arith

    clash : (k : ℕ) (v : List ℕ) → is_stream_at ports x.0 ≡ true → number_of ports x.0 ≡ i → slice_get (initials_of ports xs) k ≡ Some (i, v) → ⊥
    clash k v stream number at =
        let from = initial_from ports xs k i v at in
        let same_place : 0 ≡ suc from.place = once 0 (suc from.place) x (from.end, v) refl from.here stream from.stream (number ∙ sym from.number) in
        absurd (omega arith)

    first : (v : List ℕ) → ◌≡◌ {A = Option (ℕ × List ℕ)} (Some (number_of ports x.0, x.1)) (Some (i, v)) → number_of ports x.0 ≡ i
    first v is =
        let pair : ◌≡◌ {A = ℕ × List ℕ} (number_of ports x.0, x.1) (i, v) = cc in
        ap (λ (y : ℕ × List ℕ). y.0) pair

    by : (b : Bool) → is_stream_at ports x.0 ≡ b → (m o : ℕ) → slice_get (if b then (number_of ports x.0, x.1) ∷ initials_of ports xs else initials_of ports xs) m ≡ Some (i, t) → slice_get (if b then (number_of ports x.0, x.1) ∷ initials_of ports xs else initials_of ports xs) o ≡ Some (i, u) → ((p q : ℕ) → slice_get (initials_of ports xs) p ≡ Some (i, t) → slice_get (initials_of ports xs) q ≡ Some (i, u) → p ≡ q) → m ≡ o
    by true test zero zero here there rest = refl
    by true test zero (suc q) here there rest = absurd (clash q u test (first t here) there)
    by true test (suc p) zero here there rest = absurd (clash p t test (first u there) here)
    by true test (suc p) (suc q) here there rest = ap suc (rest p q here there)
    by false test m o here there rest = rest m o here there
