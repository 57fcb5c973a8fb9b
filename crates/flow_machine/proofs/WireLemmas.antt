-- Rows of connections, one for each process.
use Rattle.std.proofs.Common.{◌≡◌, ◌≢◌, ℕ, ◌+◌, ◌<◌, ◌≤◌, Bool, true, false, List, [], ◌∷◌, ◌++◌, length, map, replicate, take, drop, get_or, Option, Some, None, suc, zero, refl, ap, sym, ◌∙◌, arith, slice_get, slice_set, cond, inl, inr, add-one}
use Rattle.std.specs.Prelude.{position, slice_index_or, IfSome, ◌||◌}
use Rattle.std.specs.List.{range_with_len, list_any}
use Rattle.std.proofs.lemmas.Bool.Decides.{nat_tests}
use Rattle.std.proofs.lemmas.Option.{get_or_from_slice_get, slice_get_within, slice_get_read}
use Rattle.std.proofs.lemmas.List.{take_more, length-take-le}
use Rattle.flow_plan.specs.declared.plan.Process.{Process}
use Rattle.flow_plan.specs.declared.plan.Connection.{Connection}
use Rattle.flow_plan.specs.declared.plan.Sender.{Sender}
use Rattle.flow_model.specs.States.{Input, is_sender}
use Rattle.flow_model.specs.Plans.{leads_to, comes_from, text_at, connected_or}
use Rattle.flow_model.proofs.Lists.{slice_get-set_same, slice_get-set_other, same_or_not}
use Rattle.flow_machine.specs.Wires.{ports_of, AreRows, noted, all_noted, inputs_from}
use Rattle.flow_machine.proofs.Lists.{element-there, some-same}
use Rattle.flow_machine.proofs.NetTurns.{some_if}
use Rattle.flow_machine.proofs.PlanLemmas.{later, position-next, position-here, position-over}

map-range-same : {A : Type 0} (f g : ℕ → A) (a n : ℕ) → ((i : ℕ) → a ≤ i → f i ≡ g i) → map f (range_with_len a n) ≡ map g (range_with_len a n)
map-range-same f g a zero same = refl
map-range-same f g a (suc n) same = λ i. same a (omega arith) i ∷ map-range-same f g (a + 1) n (λ k from. same k (omega (arith, from))) i

set-map-range : {A : Type 0} (f g : ℕ → A) (a n j : ℕ) (v : A) → g (a + j) ≡ v → ((i : ℕ) → i ≢ a + j → g i ≡ f i) → slice_set (map f (range_with_len a n)) j v ≡ map g (range_with_len a n)
set-map-range f g a zero j v here others = refl
set-map-range f g a (suc n) zero v here others =
    let at : g a ≡ v = ap g (let e : a ≡ a + zero = omega arith in e) ∙ here in
    λ i. sym at i ∷ map-range-same f g (a + 1) n (λ k from. sym (others k (λ (e : k ≡ a + zero). omega (arith, from, e)))) i
set-map-range f g a (suc n) (suc j) v here others =
    let first : f a ≡ g a = sym (others a (λ (e : a ≡ a + suc j). omega (arith, e))) in
    let m : a + 1 + j ≡ a + suc j = omega arith in
    λ i. first i ∷ set-map-range f g (a + 1) n j v (ap g m ∙ here) (λ k other. others k (λ (e : k ≡ a + suc j). other (e ∙ sym m))) i

nothing-ranged : {A : Type 0} (a n : ℕ) (x : A) → replicate n x ≡ map (λ (_ : ℕ). x) (range_with_len a n)
nothing-ranged a zero x = refl
nothing-ranged a (suc n) x = ap (λ xs. x ∷ xs) (nothing-ranged (a + 1) n x)

-- Nothing stands at any port.
abbrev pub no_wires : ℕ → ℕ → Option ℕ
no_wires p i = None

-- The row of a process without connections.
abbrev pub empty_row : Bool → Process → List (Option ℕ)
empty_row input x = replicate (ports_of input x) None

-- A row without connections for each process.
pub rows-none : (input : Bool) (processes : List Process) (rows : List (List (Option ℕ))) → rows ≡ map (empty_row input) processes → AreRows input processes no_wires rows
rows-none input processes rows are p x is = ap (λ (rs : List (List (Option ℕ))). slice_get rs p) are ∙ at processes p is ∙ ap (λ (r : List (Option ℕ)). Some r) (nothing-ranged 0 (ports_of input x) None)
  where
    at : (xs : List Process) (k : ℕ) → slice_get xs k ≡ Some x → slice_get (map (empty_row input) xs) k ≡ Some (empty_row input x)
    at [] k here = absurd (cc)
    at (y ∷ xs) zero here = let same : y ≡ x = cc in ap (λ (z : Process). Some (empty_row input z)) same
    at (y ∷ xs) (suc k) here = at xs k here

-- A row that was looked up.
pub row-within : (input : Bool) (processes : List Process) (at : ℕ → ℕ → Option ℕ) (rows : List (List (Option ℕ))) (p : ℕ) → AreRows input processes at rows → p < length processes → p < length rows
row-within input processes at rows p are within = let x = element-there processes p within in slice_get_within rows p _ (are p x.0 x.1)

-- The row of a process is read at its place.
pub row-read : (input : Bool) (processes : List Process) (at : ℕ → ℕ → Option ℕ) (rows : List (List (Option ℕ))) (p : ℕ) (row row' : List (Option ℕ)) → AreRows input processes at rows → p < length processes → row ≡ slice_index_or rows p row → row' ≡ row
    → IfSome (slice_get processes p) (λ (x : Process). row' ≡ map (at p) (range_with_len 0 (ports_of input x)))
row-read input processes at rows p row row' are within is same =
    let x = element-there processes p within in
    let there : slice_get rows p ≡ Some row = slice_get_read rows (length rows) p row refl (row-within input processes at rows p are within) is in
    some_if (slice_get processes p) (λ (y : Process). row' ≡ map (at p) (range_with_len 0 (ports_of input y))) x.0 x.1 (same ∙ some-same _ _ (sym there ∙ are p x.0 x.1))

-- Rows with the same at each port.
pub rows-same : (input : Bool) (processes : List Process) (at at' : ℕ → ℕ → Option ℕ) (rows : List (List (Option ℕ))) → ((p i : ℕ) → at p i ≡ at' p i) → AreRows input processes at rows → AreRows input processes at' rows
rows-same input processes at at' rows same are p x is = are p x is ∙ ap (λ (r : List (Option ℕ)). Some r) (map-range-same (at p) (at' p) 0 (ports_of input x) (λ i _. same p i))

-- A connection noted at port j of process q stands there, and elsewhere what stood there.
pub rows-noted : (input : Bool) (processes : List Process) (at at' : ℕ → ℕ → Option ℕ) (rows : List (List (Option ℕ))) (q j c : ℕ) → at' q j ≡ Some c → ((p i : ℕ) → ((p ≡ q) × (i ≡ j) → ⊥) → at' p i ≡ at p i)
    → AreRows input processes at rows → AreRows input processes at' (noted rows q j c)
rows-noted input processes at at' rows q j c here others are p x is = elim (same_or_not p q) [
  | inl same ↦ (let row : List (Option ℕ) = map (at p) (range_with_len 0 (ports_of input x)) in
      let there : slice_get rows q ≡ Some row = ap (slice_get rows) (sym same) ∙ are p x is in
      let set : slice_set (get_or rows q []) j (Some c) ≡ map (at' p) (range_with_len 0 (ports_of input x)) =
      ap (λ (r : List (Option ℕ)). slice_set r j (Some c)) (get_or_from_slice_get rows q row [] there)
      ∙ set-map-range (at p) (at' p) 0 (ports_of input x) j (Some c) (ap (λ (m : ℕ). at' m (0 + j)) same ∙ ap (at' q) (let e : 0 + j ≡ j = omega arith in e) ∙ here)
      (λ i other. others p i (λ both. other (both.1 ∙ (let e : j ≡ 0 + j = omega arith in e)))) in
      ap (slice_get (noted rows q j c)) same ∙ slice_get-set_same rows q row (slice_set (get_or rows q []) j (Some c)) there ∙ ap (λ (r : List (Option ℕ)). Some r) set)
  | inr other ↦ slice_get-set_other rows q p (slice_set (get_or rows q []) j (Some c)) other ∙ are p x is ∙ ap (λ (r : List (Option ℕ)). Some r) (map-range-same (at p) (at' p) 0 (ports_of input x) (λ i _. sym (others p i (λ both. other both.0))))
]

sender-is : (p o : ℕ) (s : Sender) → is_sender (record { process = p; output = o }) s ≡ true → (p ≡ s.process) × (o ≡ s.output)
sender-is p o s is = grind (arith, nat_tests)

sender-own : (s : Sender) → is_sender (record { process = s.process; output = s.output }) s ≡ true
sender-own s = grind (arith, nat_tests)

-- The connection noted at each output that sends to it.
pub rows-all_noted : (processes : List Process) (senders : List Sender) (at at' : ℕ → ℕ → Option ℕ) (rows : List (List (Option ℕ))) (c : ℕ) → ((p o : ℕ) → list_any (is_sender (record { process = p; output = o })) senders ≡ true → at' p o ≡ Some c)
    → ((p o : ℕ) → list_any (is_sender (record { process = p; output = o })) senders ≡ false → at' p o ≡ at p o) → AreRows false processes at rows → AreRows false processes at' (all_noted rows senders c)
rows-all_noted processes [] at at' rows c here others are = rows-same false processes at at' rows (λ p o. sym (others p o refl)) are
rows-all_noted processes (s ∷ senders) at at' rows c here others are =
    rows-all_noted processes senders mid at' (noted rows s.process s.output c) c (λ p o any. here p o (either p o any)) (λ p o none. after p o (own p o) refl none)
    (rows-noted false processes at mid rows s.process s.output c (ap (λ (b : Bool). cond b (Some c) (at s.process s.output)) (sender-own s)) (λ p o other. ap (λ (b : Bool). cond b (Some c) (at p o)) (not-own p o other (own p o) refl)) are)
  where
    own : ℕ → ℕ → Bool
    own p o = is_sender (record { process = p; output = o }) s

    mid : ℕ → ℕ → Option ℕ
    mid p o = cond (own p o) (Some c) (at p o)

    either : (p o : ℕ) → list_any (is_sender (record { process = p; output = o })) senders ≡ true → list_any (is_sender (record { process = p; output = o })) (s ∷ senders) ≡ true
    either p o any = by (own p o)
      where
        by : (b : Bool) → (b || list_any (is_sender (record { process = p; output = o })) senders) ≡ true
        by true = refl
        by false = any

    not-own : (p o : ℕ) → ((p ≡ s.process) × (o ≡ s.output) → ⊥) → (b : Bool) → own p o ≡ b → own p o ≡ false
    not-own p o other true is = absurd (other (sender-is p o s is))
    not-own p o other false is = is

    after : (p o : ℕ) (b : Bool) → own p o ≡ b → list_any (is_sender (record { process = p; output = o })) senders ≡ false → at' p o ≡ mid p o
    after p o true is none = here p o (ap (λ (b : Bool). b || list_any (is_sender (record { process = p; output = o })) senders) is) ∙ sym (ap (λ (b : Bool). cond b (Some c) (at p o)) is)
    after p o false is none = others p o (ap (λ (b : Bool). b || list_any (is_sender (record { process = p; output = o })) senders) is ∙ none) ∙ sym (ap (λ (b : Bool). cond b (Some c) (at p o)) is)

-- What the connections from place k on say.
abbrev pub found_from : (ℕ → ℕ → Connection → Bool) → List Connection → ℕ → ℕ → ℕ → Option ℕ
found_from test xs k p i = later k (position (test p i) (drop k xs))

-- Behind the last connection the rows are as they were.
pub rows-over : (input : Bool) (processes : List Process) (test : ℕ → ℕ → Connection → Bool) (xs : List Connection) (k : ℕ) (rows : List (List (Option ℕ))) → length xs ≤ k → AreRows input processes no_wires rows → AreRows input processes (found_from test xs k) rows
rows-over input processes test xs k rows over are = rows-same input processes no_wires (found_from test xs k) rows (λ p i. sym (position-over (test p i) xs k over)) are

leads-own : (x : Connection) → leads_to x.receiver x.input x ≡ true
leads-own x = grind (arith, nat_tests)

leads-only : (p i : ℕ) (x : Connection) → ((p ≡ x.receiver) × (i ≡ x.input) → ⊥) → leads_to p i x ≡ false
leads-only p i x other = by (leads_to p i x) refl
  where
    by : (b : Bool) → leads_to p i x ≡ b → leads_to p i x ≡ false
    by true is = absurd (other (let h : (p ≡ x.receiver) × (i ≡ x.input) = grind (arith, nat_tests) in h))
    by false is = is

-- One connection more, at its input.
pub rows-receiver : (processes : List Process) (xs : List Connection) (k n : ℕ) (x : Connection) (rows : List (List (Option ℕ))) → k < length xs → x ≡ get_or xs k x → n ≡ k + 1 → AreRows true processes (found_from leads_to xs n) rows
    → AreRows true processes (found_from leads_to xs k) (noted rows x.receiver x.input k)
rows-receiver processes xs k n x rows within is next are =
    rows-noted true processes (found_from leads_to xs n) (found_from leads_to xs k) rows x.receiver x.input k (position-here (leads_to x.receiver x.input) xs k x within is (leads-own x))
    (λ p i other. position-next (leads_to p i) xs k x within is (leads-only p i x other) ∙ ap (λ (m : ℕ). found_from leads_to xs m p i) (sym next)) are

-- One connection more, at the outputs that send to it.
pub rows-senders : (processes : List Process) (xs : List Connection) (k n : ℕ) (x : Connection) (rows : List (List (Option ℕ))) → k < length xs → x ≡ get_or xs k x → n ≡ k + 1 → AreRows false processes (found_from comes_from xs n) rows
    → AreRows false processes (found_from comes_from xs k) (all_noted rows x.senders k)
rows-senders processes xs k n x rows within is next are =
    rows-all_noted processes x.senders (found_from comes_from xs n) (found_from comes_from xs k) rows k (λ p o any. position-here (comes_from p o) xs k x within is any)
    (λ p o none. position-next (comes_from p o) xs k x within is none ∙ ap (λ (m : ℕ). found_from comes_from xs m p o) (sym next)) are

-- The inputs of a process, by the connections that they receive from.
pub inputs-more : (initials : List (ℕ × List ℕ)) (i : ℕ) (cs : List (Option ℕ)) (c : Option ℕ) → inputs_from initials i (cs ++ c ∷ []) ≡ inputs_from initials i cs ++ connected_or (text_at initials (i + length cs)) c ∷ []
inputs-more initials i [] c = ap (λ (m : ℕ). connected_or (text_at initials m) c ∷ []) (let e : i ≡ i + 0 = omega arith in e)
inputs-more initials i (d ∷ cs) c =
    let m : i + 1 + length cs ≡ i + length (d ∷ cs) = omega arith in
    λ k. connected_or (text_at initials i) d ∷ (inputs-more initials (i + 1) cs c ∙ ap (λ (n : ℕ). inputs_from initials (i + 1) cs ++ connected_or (text_at initials n) c ∷ []) m) k

-- One input more adds what is at it.
pub inputs-step : (initials : List (ℕ × List ℕ)) (cs : List (Option ℕ)) (k : ℕ) (d : Option ℕ) → k < length cs → inputs_from initials 0 (take (k + 1) cs) ≡ inputs_from initials 0 (take k cs) ++ connected_or (text_at initials k) (get_or cs k d) ∷ []
inputs-step initials cs k d within =
    let at : 0 + length (take k cs) ≡ k = omega (arith, length-take-le k cs (omega (arith, within))) in
    ap (inputs_from initials 0) (take_more cs k d within) ∙ inputs-more initials 0 (take k cs) (get_or cs k d) ∙ ap (λ (n : ℕ). inputs_from initials 0 (take k cs) ++ connected_or (text_at initials n) (get_or cs k d) ∷ []) at

-- The inputs are what is at each number in their order.
pub inputs-ranged : (initials : List (ℕ × List ℕ)) (f : ℕ → Option ℕ) (i n : ℕ) → inputs_from initials i (map f (range_with_len i n)) ≡ map (λ k. connected_or (text_at initials k) (f k)) (range_with_len i n)
inputs-ranged initials f i zero = refl
inputs-ranged initials f i (suc n) = ap (λ (xs : List Input). connected_or (text_at initials i) (f i) ∷ xs) (inputs-ranged initials f (i + 1) n)

take-range : {A : Type 0} (f : ℕ → A) (k n : ℕ) → take n (map f (range_with_len k (suc n))) ≡ map f (range_with_len k n)
take-range f k zero = refl
take-range f k (suc n) = ap (λ xs. f k ∷ xs) (take-range f (k + 1) n)

-- A row without its last port.
pub row-front : {A : Type 0} (f : ℕ → A) (n : ℕ) (row : List A) → row ≡ map f (range_with_len 0 (n + 1)) → take n row ≡ map f (range_with_len 0 n)
row-front f n row is = ap (take n) (is ∙ ap (λ (m : ℕ). map f (range_with_len 0 m)) (add-one n)) ∙ take-range f 0 n
