-- The options of a plan and the texts of a draft that they stand for.
use Rattle.std.proofs.Common.{◌≡◌, ℕ, List, [], ◌∷◌, Option, Some, Bool, true, false, refl, ap, ◌∙◌, zero, suc, slice_get, arith}
use Rattle.std.specs.Prelude.{if◌then◌else◌}
use Rattle.flow_net.specs.declared.draft.End.{End}
use Rattle.flow_net.specs.declared.draft.DraftPort.{DraftPort}
use Rattle.flow_net.specs.Drafts.{is_stream_at}
use Rattle.flow_net.specs.Finishes.{place_at, options_of}

-- a text at an option port is an option for the port's place
pub option_there : (ports : List DraftPort) (texts : List (End × List ℕ)) (k : ℕ) (end : End) (text : List ℕ) → slice_get texts k ≡ Some (end, text) → is_stream_at ports end ≡ false → (m : ℕ) × (slice_get (options_of ports texts) m ≡ Some (place_at ports end, text))
option_there ports [] k end text here option = absurd (cc)
option_there ports (x ∷ xs) zero end text here option =
    let whole : ◌≡◌ {A = End × List ℕ} x (end, text) = cc in
    let test : is_stream_at ports x.0 ≡ false = ap (λ (y : End × List ℕ). is_stream_at ports y.0) whole ∙ option in
    (0, ap (λ b. slice_get (if b then options_of ports xs else (place_at ports x.0, x.1) ∷ options_of ports xs) 0) test ∙ ap (λ (y : End × List ℕ). Some (place_at ports y.0, y.1)) whole)
option_there ports (x ∷ xs) (suc k) end text here option = by (is_stream_at ports x.0) (option_there ports xs k end text here option)
  where
    by : (b : Bool) → (m : ℕ) × (slice_get (options_of ports xs) m ≡ Some (place_at ports end, text)) → (m : ℕ) × (slice_get (if b then options_of ports xs else (place_at ports x.0, x.1) ∷ options_of ports xs) m ≡ Some (place_at ports end, text))
    by true later = later
    by false later = (suc later.0, later.1)

-- An option is a text at an option port of its place.
pub record FromOption (ports : List DraftPort) (texts : List (End × List ℕ)) (i : ℕ) (text : List ℕ) : Type 0 where
  pub place : ℕ
  pub end : End
  pub here : slice_get texts place ≡ Some (end, text)
  pub option : is_stream_at ports end ≡ false
  pub at : place_at ports end ≡ i

-- Each option of a process comes from a text that was given to one of its ports.
pub option_from : (ports : List DraftPort) (texts : List (End × List ℕ)) (m i : ℕ) (text : List ℕ) → slice_get (options_of ports texts) m ≡ Some (i, text) → FromOption ports texts i text
option_from ports [] m i text here = absurd (cc)
option_from ports (x ∷ xs) m i text here = by (is_stream_at ports x.0) refl m here (λ k at. option_from ports xs k i text at)
  where
    later : FromOption ports xs i text → FromOption ports (x ∷ xs) i text
    later from = record { place = suc from.place; end = from.end; here = from.here; option = from.option; at = from.at }

    by : (b : Bool) → is_stream_at ports x.0 ≡ b → (m : ℕ) → slice_get (if b then options_of ports xs else (place_at ports x.0, x.1) ∷ options_of ports xs) m ≡ Some (i, text) → ((k : ℕ) → slice_get (options_of ports xs) k ≡ Some (i, text) → FromOption ports xs i text) → FromOption ports (x ∷ xs) i text
    by true test m here rest = later (rest m here)
    by false test zero here rest =
        let pair : ◌≡◌ {A = ℕ × List ℕ} (place_at ports x.0, x.1) (i, text) = cc in
        record { place = 0; end = x.0; here = ap (λ (y : ℕ × List ℕ). Some (x.0, y.1)) pair; option = test; at = ap (λ (y : ℕ × List ℕ). y.0) pair }
    by false test (suc k) here rest = later (rest k here)

-- no two options are for one place, where no two texts are at option ports of the place
pub option_once : (ports : List DraftPort) (texts : List (End × List ℕ)) (i : ℕ) → ((k l : ℕ) (a b : End × List ℕ) → slice_get texts k ≡ Some a → slice_get texts l ≡ Some b → is_stream_at ports a.0 ≡ false → is_stream_at ports b.0 ≡ false → place_at ports a.0 ≡ i → place_at ports b.0 ≡ i → k ≡ l) → (m o : ℕ) (t u : List ℕ) → slice_get (options_of ports texts) m ≡ Some (i, t) → slice_get (options_of ports texts) o ≡ Some (i, u) → m ≡ o
option_once ports [] i once m o t u here there = absurd (cc)
option_once ports (x ∷ xs) i once m o t u here there = by (is_stream_at ports x.0) refl m o here there (λ p q a b. option_once ports xs i (λ k l v w h g s r n j. suc_same k l (once (suc k) (suc l) v w h g s r n j)) p q t u a b)
  where
    suc_same : (k l : ℕ) → suc k ≡ suc l → k ≡ l
    suc_same k l is = omega arith

    clash : (k : ℕ) (v : List ℕ) → is_stream_at ports x.0 ≡ false → place_at ports x.0 ≡ i → slice_get (options_of ports xs) k ≡ Some (i, v) → ⊥
    clash k v option place at =
        let from = option_from ports xs k i v at in
        let same_place : 0 ≡ suc from.place = once 0 (suc from.place) x (from.end, v) refl from.here option from.option place from.at in
        absurd (omega arith)

    first : (v : List ℕ) → ◌≡◌ {A = Option (ℕ × List ℕ)} (Some (place_at ports x.0, x.1)) (Some (i, v)) → place_at ports x.0 ≡ i
    first v is =
        let pair : ◌≡◌ {A = ℕ × List ℕ} (place_at ports x.0, x.1) (i, v) = cc in
        ap (λ (y : ℕ × List ℕ). y.0) pair

    by : (b : Bool) → is_stream_at ports x.0 ≡ b → (m o : ℕ) → slice_get (if b then options_of ports xs else (place_at ports x.0, x.1) ∷ options_of ports xs) m ≡ Some (i, t) → slice_get (if b then options_of ports xs else (place_at ports x.0, x.1) ∷ options_of ports xs) o ≡ Some (i, u) → ((p q : ℕ) → slice_get (options_of ports xs) p ≡ Some (i, t) → slice_get (options_of ports xs) q ≡ Some (i, u) → p ≡ q) → m ≡ o
    by true test m o here there rest = rest m o here there
    by false test zero zero here there rest = refl
    by false test zero (suc q) here there rest = absurd (clash q u test (first t here) there)
    by false test (suc p) zero here there rest = absurd (clash p t test (first u there) here)
    by false test (suc p) (suc q) here there rest = ap suc (rest p q here there)
