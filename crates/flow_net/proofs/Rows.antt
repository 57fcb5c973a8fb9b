-- The rows of a plan's tables and the ports of a draft that they stand for.
use Rattle.flow_limits.specs.declared.TheConstants.{ELEMENT_LIMIT}
use Rattle.std.proofs.Common.{◌≡◌, ℕ, ◌+◌, ◌≤◌, List, [], ◌∷◌, Some, Ok, Bool, true, false, map, refl, ap, sym, ◌∙◌, zero, suc, slice_get, length, take, arith}
use Rattle.std.specs.Prelude.{◌==◌, if◌then◌else◌, position}
use Rattle.std.specs.List.{sum_by}
use Rattle.std.proofs.lemmas.Bool.{false≢true}
use Rattle.std.proofs.lemmas.Bool.Decides.{nat_tests}
use Rattle.std.proofs.lemmas.List.Sums.{sum_by-cons}
use Rattle.std.proofs.lemmas.Option.{slice_get-map}
use Rattle.flow_net.specs.declared.draft.DraftPort.{DraftPort}
use Rattle.flow_net.specs.declared.fault.PlanFault.TheVariants.{PortMissing}
use Rattle.flow_plan.specs.declared.kind.PortSpec.{PortSpec}
use Rattle.flow_plan.specs.declared.plan.PortRow.{PortRow}
use Rattle.flow_net.specs.Drafts.{refused_if, is_free, is_side}
use Rattle.flow_net.specs.Calls.{room_of}
use Rattle.flow_net.specs.Finishes.{size_of, gap_fault, port_fault, elements_in, row_of, rows_of}
use Rattle.flow_net.specs.Over.{entries}
use Rattle.flow_net.specs.Sound.{IsPort, on_side, entries_of}
use Rattle.flow_plan.specs.Valid.{IsRow}
use Rattle.flow_net.proofs.Steps.{map_some}
use Rattle.flow_net.proofs.Ends.{refused_ok}
use Rattle.flow_net.proofs.Placed.{size_of-within}

-- an element of a mapped list comes from one of the list
pub mapped : {A B : Type 0} (f : A → B) (xs : List A) (i : ℕ) (y : B) → slice_get (map f xs) i ≡ Some y → (x : A) × (slice_get xs i ≡ Some x) × (f x ≡ y)
mapped f xs i y is = map_some f (slice_get xs i) y (sym (slice_get-map f xs i) ∙ is)

-- A row is that of a port on this side of this process, at the port's place.
pub record FromPort (ports : List DraftPort) (p : ℕ) (s : Bool) (i : ℕ) (row : PortRow) : Type 0 where
  pub number : ℕ
  pub port : DraftPort
  pub here : slice_get ports number ≡ Some port
  pub side : is_side p s port ≡ true
  pub is : row_of port ≡ row
  pub place : sum_by (on_side p s) (take number ports) ≡ i

-- Each row of a process's table comes from one of its ports.
pub row_from : (ports : List DraftPort) (p : ℕ) (s : Bool) (i : ℕ) (row : PortRow) → slice_get (rows_of ports p s) i ≡ Some row → FromPort ports p s i row
row_from [] p s i row here = absurd (cc)
row_from (port ∷ ports) p s i row here = by (is_side p s port) refl i here (λ k at. row_from ports p s k row at)
  where
    later : (k i : ℕ) → on_side p s port + k ≡ i → FromPort ports p s k row → FromPort (port ∷ ports) p s i row
    later k i sum from = record {
      number = suc from.number;
      port = from.port;
      here = from.here;
      side = from.side;
      is = from.is;
      place = omega (arith, sum, from.place, sum_by-cons (on_side p s) port (take from.number ports));
    }

    by : (b : Bool) → is_side p s port ≡ b → (i : ℕ) → slice_get (if b then row_of port ∷ rows_of ports p s else rows_of ports p s) i ≡ Some row → ((k : ℕ) → slice_get (rows_of ports p s) k ≡ Some row → FromPort ports p s k row) → FromPort (port ∷ ports) p s i row
    by true test zero here rest = record { number = 0; port = port; here = refl; side = test; is = cc; place = refl }
    by true test (suc k) here rest =
        let one : on_side p s port ≡ 1 = ap (λ (b : Bool). if b then 1 else 0) test in
        later k (suc k) (omega (arith, one)) (rest k here)
    by false test i here rest =
        let none : on_side p s port ≡ 0 = ap (λ (b : Bool). if b then 1 else 0) test in
        later i i (omega (arith, none)) (rest i here)

-- the row of a port stands at the number of the ports before it on its side
pub row_there : (ports : List DraftPort) (g p : ℕ) (s : Bool) (port : DraftPort) → slice_get ports g ≡ Some port → is_side p s port ≡ true → slice_get (rows_of ports p s) (sum_by (on_side p s) (take g ports)) ≡ Some (row_of port)
row_there [] g p s port here side = absurd (cc)
row_there (q ∷ ports) zero p s port here side =
    let same_port : q ≡ port = cc in
    let test : is_side p s q ≡ true = ap (is_side p s) same_port ∙ side in
    ap (λ (b : Bool). slice_get (if b then row_of q ∷ rows_of ports p s else rows_of ports p s) 0) test ∙ ap (λ (r : DraftPort). Some (row_of r)) same_port
row_there (q ∷ ports) (suc g) p s port here side = by (is_side p s q) refl (row_there ports g p s port here side)
  where
    by : (b : Bool) → is_side p s q ≡ b → slice_get (rows_of ports p s) (sum_by (on_side p s) (take g ports)) ≡ Some (row_of port) → slice_get (if b then row_of q ∷ rows_of ports p s else rows_of ports p s) (sum_by (on_side p s) (q ∷ take g ports)) ≡ Some (row_of port)
    by true test rest =
        let one : on_side p s q ≡ 1 = ap (λ (b : Bool). if b then 1 else 0) test in
        let next : sum_by (on_side p s) (q ∷ take g ports) ≡ suc (sum_by (on_side p s) (take g ports)) = omega (arith, one, sum_by-cons (on_side p s) q (take g ports)) in
        ap (slice_get (row_of q ∷ rows_of ports p s)) next ∙ rest
    by false test rest =
        let none : on_side p s q ≡ 0 = ap (λ (b : Bool). if b then 1 else 0) test in
        let next : sum_by (on_side p s) (q ∷ take g ports) ≡ sum_by (on_side p s) (take g ports) = omega (arith, none, sum_by-cons (on_side p s) q (take g ports)) in
        ap (slice_get (rows_of ports p s)) next ∙ rest

-- the entries of the rows are those of the ports
pub entries-rows : (ports : List DraftPort) (p : ℕ) (s : Bool) → entries (rows_of ports p s) ≡ entries_of ports p s
entries-rows [] p s = refl
entries-rows (port ∷ ports) p s = by (is_side p s port) (entries-rows ports p s)
  where
    by : (b : Bool) → entries (rows_of ports p s) ≡ entries_of ports p s → entries (if b then row_of port ∷ rows_of ports p s else rows_of ports p s) ≡ (if b then port.spec ∷ entries_of ports p s else entries_of ports p s)
    by true rest = ap (λ (specs : List PortSpec). port.spec ∷ specs) rest
    by false rest = rest

-- a needed port without fault has an element that is bound
pub needed_size : (name : List ℕ) (port : DraftPort) → port.spec.needed ≡ true → port_fault name port ≡ Ok tt → 1 ≤ size_of port.elements
needed_size name port needed none = by (size_of port.elements == 0) refl none
  where
    by : (b : Bool) → (size_of port.elements == 0) ≡ b → (if b then refused_if port.spec.needed (PortMissing name port.spec.name) else gap_fault name port (position is_free (take (size_of port.elements) port.elements))) ≡ Ok tt → 1 ≤ size_of port.elements
    by true test is = absurd (false≢true (sym (refused_ok port.spec.needed (PortMissing name port.spec.name) tt is) ∙ needed))
    by false test is = grind (arith, nat_tests, test)

-- the row of a port without fault has its elements
pub IsRow-of : (n : ℕ) (name : List ℕ) (port : DraftPort) → IsPort n port → port_fault name port ≡ Ok tt → IsRow (row_of port)
IsRow-of n name port is_port none = record { array = array; single = single }
  where
    array : port.spec.array ≡ true → (1 ≤ elements_in port) × (elements_in port ≤ ELEMENT_LIMIT)
    array is =
        let count : elements_in port ≡ size_of port.elements = ap (λ (b : Bool). if b then size_of port.elements else 1) is in
        let room : length port.elements ≡ ELEMENT_LIMIT = is_port.room ∙ ap room_of is in
        let some : 1 ≤ size_of port.elements = needed_size name port (is_port.array is) none in
        (omega (arith, count, some), omega (arith, count, room, size_of-within port.elements))

    single : port.spec.array ≡ false → elements_in port ≡ 1
    single is = ap (λ (b : Bool). if b then size_of port.elements else 1) is

-- each row has an element
pub IsRow-some : (row : PortRow) → IsRow row → 1 ≤ row.elements
IsRow-some row is = by row.spec.array refl
  where
    by : (b : Bool) → row.spec.array ≡ b → 1 ≤ row.elements
    by true array = (is.array array).0
    by false single = omega (arith, is.single single)
