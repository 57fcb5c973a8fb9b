-- The rows of the table of kinds, and the numbered ports of a process of a row.
use Rattle.std.proofs.Common.{◌≡◌, ℕ, zero, suc, ◌+◌, ◌<◌, ◌≤◌, Bool, true, false, List, [], ◌∷◌, ◌++◌, map, length, Some, None, refl, sym, ap, ◌∙◌, subst, cond, arith, slice_get, length-append}
use Rattle.std.specs.Prelude.{◌&&◌, ◌||◌, nat_le}
use Rattle.std.specs.List.{list_all, list_any, range_with_len}
use Rattle.std.proofs.lemmas.Bool.{false≢true}
use Rattle.std.proofs.lemmas.Bool.Decides.{nat_tests}
use Rattle.std.proofs.lemmas.List.FromFn.{length-map-range_with_len}
use Rattle.flow_plan.specs.declared.kind.PortSpec.{PortSpec}
use Rattle.flow_plan.specs.declared.kind.PortRef.{PortRef}
use Rattle.flow_plan.specs.declared.plan.PortRow.{PortRow}
use Rattle.flow_plan.specs.Network.{is_stream, elements_of, ports_of}
use Rattle.flow_net.specs.Over.{entries, carries}
use Rattle.flow_plan.specs.Valid.{IsRow, needs_of}
use Rattle.flow_net.proofs.Ends.{and_true}
use Rattle.flow_catalogue.specs.Rows.{Count, Exactly, Elements, Unsaid, IsCount, count_of, together, count_on, needs, has_plain_outputs}

abbrev elements-by : Bool → Bool → PortRow → List PortRef
elements-by stream array row = cond stream (cond array (map (λ (e : ℕ). record { name = row.spec.name; element = Some e }) (range_with_len 0 row.elements)) (record { name = row.spec.name; element = None } ∷ [])) []

-- the numbered ports of one row
by-class : (stream array : Bool) (row : PortRow) → row.spec.array ≡ array → IsRow row → IsCount (cond stream (cond array Elements (Exactly 1)) (Exactly 0)) (length (elements-by stream array row))
by-class false array row is row-is = refl
by-class true false row is row-is = refl
by-class true true row is row-is =
    let most = row-is.array is in
    let f : ℕ → PortRef = λ e. record { name = row.spec.name; element = Some e } in
    let n = length-map-range_with_len f 0 row.elements in
    (omega (arith, n, most.0), omega (arith, n, most.1))

row-count : (row : PortRow) → IsRow row → IsCount (count_of row.spec) (length (elements_of row))
row-count row is = by-class (is_stream row.spec.class) row.spec.array row refl is

-- the ports of two sides
sum-count : (a b : Count) (m n : ℕ) → IsCount a m → IsCount b n → IsCount (together a b) (m + n)
sum-count (Exactly k) (Exactly l) m n x y = omega (arith, x, y)
sum-count (Exactly zero) Elements m n x y = (omega (arith, x, y.0), omega (arith, x, y.1))
sum-count (Exactly (suc k)) Elements m n x y = tt
sum-count Elements (Exactly zero) m n x y = (omega (arith, y, x.0), omega (arith, y, x.1))
sum-count Elements (Exactly (suc l)) m n x y = tt
sum-count Elements Elements m n x y = tt
sum-count Elements Unsaid m n x y = tt
sum-count (Exactly k) Unsaid m n x y = tt
sum-count Unsaid b m n x y = tt

-- a process has as many numbered ports on a side as its row says
pub side-count : (rows : List PortRow) (specs : List PortSpec) → entries rows ≡ specs → ((i : ℕ) (row : PortRow) → slice_get rows i ≡ Some row → IsRow row) → IsCount (count_on specs) (length (ports_of rows))
side-count rows specs is each = subst (λ (l : List PortSpec). IsCount (count_on l) (length (ports_of rows))) is (by rows each)
  where
    by : (rows : List PortRow) → ((i : ℕ) (row : PortRow) → slice_get rows i ≡ Some row → IsRow row) → IsCount (count_on (entries rows)) (length (ports_of rows))
    by [] each = refl
    by (row ∷ rows) each =
        let rest = by rows (λ i other is. each (suc i) other is) in
        subst (IsCount (together (count_of row.spec) (count_on (entries rows)))) (sym (length-append (elements_of row) (ports_of rows)))
        (sum-count (count_of row.spec) (count_on (entries rows)) (length (elements_of row)) (length (ports_of rows)) (row-count row (each 0 row refl)) rest)

-- every output carries packets
streams-carried : (specs : List PortSpec) → list_all (λ (spec : PortSpec). is_stream spec.class) (map carries specs) ≡ true
streams-carried [] = refl
streams-carried (spec ∷ specs) = streams-carried specs

-- what is the same for each element
each-same : {A : Type 0} (b : Bool) (xs : List A) (o : ℕ) → o < length xs → slice_get (map (λ (_ : A). b) xs) o ≡ Some b
each-same b [] o l = absurd (omega (arith, l))
each-same b (x ∷ xs) zero l = refl
each-same b (x ∷ xs) (suc o) l = each-same b xs o (omega (arith, l))

within-same : {A : Type 0} (b : Bool) (xs : List A) (o : ℕ) → slice_get (map (λ (_ : A). b) xs) o ≡ Some b → o < length xs
within-same b [] o is = absurd cc
within-same b (x ∷ xs) zero is = omega arith
within-same b (x ∷ xs) (suc o) is = omega (arith, within-same b xs o is)

-- where a side has no array, each port is one
single-needs : (rows : List PortRow) → list_all (λ (spec : PortSpec). is_stream spec.class) (entries rows) ≡ true → list_any (λ (spec : PortSpec). spec.array) (entries rows) ≡ false → needs_of rows ≡ map (λ (spec : PortSpec). spec.needed) (entries rows)
single-needs [] streams none = refl
single-needs (row ∷ rows) streams none =
    let s = and_true (is_stream row.spec.class) (list_all (λ (spec : PortSpec). is_stream spec.class) (entries rows)) streams in
    let n = neither row.spec.array (list_any (λ (spec : PortSpec). spec.array) (entries rows)) none in
    rw (s.0, n.0) (ap (λ (bs : List Bool). row.spec.needed ∷ bs) (single-needs rows s.1 n.1))
  where
    neither : (a b : Bool) → (a || b) ≡ false → (a ≡ false) × (b ≡ false)
    neither false b is = (refl, is)
    neither true b is = absurd (false≢true (sym is))

-- an array alone has a connection at each element
array-needs : (row : PortRow) (o : ℕ) → is_stream row.spec.class ≡ true → row.spec.array ≡ true → row.spec.needed ≡ true → o < length (ports_of (row ∷ [])) → slice_get (needs_of (row ∷ [])) o ≡ Some true
array-needs row o stream array needed l =
    let e : elements_of row ≡ map (λ (e : ℕ). record { name = row.spec.name; element = Some e }) (range_with_len 0 row.elements) = rw (stream, array) refl in
    let ls : o < length (elements_of row) = omega (arith, l, length-append (elements_of row) []) in
    let nil : needs_of (row ∷ []) ≡ map (λ (port : PortRef). row.spec.needed) (elements_of row) = Rattle.std.proofs.Common.append-nil (map (λ (port : PortRef). row.spec.needed) (elements_of row)) in
    ap (λ (bs : List Bool). slice_get bs o) nil ∙ each-same row.spec.needed (elements_of row) o ls ∙ ap (λ (b : Bool). Some b) needed

-- an output that a row needs is one that its process needs
pub needed-there : (rows : List PortRow) (specs : List PortSpec) (o : ℕ) → entries rows ≡ map carries specs → has_plain_outputs (map carries specs) ≡ true
    → slice_get (needs (map carries specs) (length (ports_of rows))) o ≡ Some true → slice_get (needs_of rows) o ≡ Some true
needed-there rows specs o is plain need =
    by (list_any (λ (spec : PortSpec). spec.array) (entries rows)) refl
    (subst (λ (l : List PortSpec). list_all (λ (spec : PortSpec). is_stream spec.class) l ≡ true) (sym is) (streams-carried specs))
    (subst (λ (l : List PortSpec). has_plain_outputs l ≡ true) (sym is) plain)
    (subst (λ (l : List PortSpec). slice_get (needs l (length (ports_of rows))) o ≡ Some true) (sym is) need)
  where
    by : (array : Bool) → list_any (λ (spec : PortSpec). spec.array) (entries rows) ≡ array → list_all (λ (spec : PortSpec). is_stream spec.class) (entries rows) ≡ true → has_plain_outputs (entries rows) ≡ true
        → slice_get (needs (entries rows) (length (ports_of rows))) o ≡ Some true → slice_get (needs_of rows) o ≡ Some true
    by false none streams plain need =
        let h : needs (entries rows) (length (ports_of rows)) ≡ map (λ (spec : PortSpec). spec.needed) (entries rows) = rw none refl in
        ap (λ (bs : List Bool). slice_get bs o) (single-needs rows streams none ∙ sym h) ∙ need
    by true some streams plain need =
        let h : needs (entries rows) (length (ports_of rows)) ≡ map (λ (_ : ℕ). true) (range_with_len 0 (length (ports_of rows))) = rw some refl in
        let p : (nat_le (length (entries rows)) 1 && list_all (λ (spec : PortSpec). spec.needed) (entries rows)) ≡ true = subst (λ (b : Bool). cond b (nat_le (length (entries rows)) 1 && list_all (λ (spec : PortSpec). spec.needed) (entries rows)) true ≡ true) some plain in
        let q = and_true (nat_le (length (entries rows)) 1) (list_all (λ (spec : PortSpec). spec.needed) (entries rows)) p in
        let l = within-same true (range_with_len 0 (length (ports_of rows))) o (ap (λ (bs : List Bool). slice_get bs o) (sym h) ∙ need) in
        alone rows some streams q.0 q.1 (omega (arith, l, Rattle.std.proofs.lemmas.List.FromFn.length-range_with_len 0 (length (ports_of rows))))
      where
        alone : (rows : List PortRow) → list_any (λ (spec : PortSpec). spec.array) (entries rows) ≡ true → list_all (λ (spec : PortSpec). is_stream spec.class) (entries rows) ≡ true → nat_le (length (entries rows)) 1 ≡ true → list_all (λ (spec : PortSpec). spec.needed) (entries rows) ≡ true
            → o < length (ports_of rows) → slice_get (needs_of rows) o ≡ Some true
        alone [] some streams one need l = absurd (omega (arith, l))
        alone (row ∷ []) some streams one need l =
            let a : row.spec.array ≡ true = either row.spec.array some in
            array-needs row o (and_true (is_stream row.spec.class) true streams).0 a (and_true row.spec.needed true need).0 l
          where
            either : (a : Bool) → (a || false) ≡ true → a ≡ true
            either true is = refl
            either false is = is
        alone (row ∷ other ∷ rows) some streams one need l = absurd (let h : 2 + length (entries rows) ≤ 1 = grind (arith, nat_tests) in omega (arith, h))
