-- Laws of the ports of a process by their numbers.
use Rattle.std.proofs.Common.{add-one, drop-cons, append_assoc, ◌≡◌, ℕ, ◌+◌, ◌<◌, ◌≤◌, List, [], ◌∷◌, ◌++◌, Some, None, Bool, true, false, map, refl, ap, sym, ◌∙◌, zero, suc, slice_get, get_or, length, drop, arith, length-append}
use Rattle.std.specs.Prelude.{if◌then◌else◌}
use Rattle.std.specs.Option.{option_map}
use Rattle.std.specs.List.{range_with_len}
use Rattle.std.proofs.lemmas.List.FromFn.{length-map-range_with_len, length-range_with_len, get_or-range_with_len}
use Rattle.std.proofs.lemmas.Option.{slice_get-map, slice_get-get_or}
use Rattle.flow_plan.specs.declared.kind.PortRef.{PortRef}
use Rattle.flow_plan.specs.declared.plan.PortRow.{PortRow}
use Rattle.flow_plan.specs.declared.plan.PortTable.{PortTable}
use Rattle.flow_plan.specs.declared.plan.Process.{Process}
use Rattle.flow_plan.specs.Network.{is_stream, elements_of, ports_of, spelled, spelled_element, LaidOut}

drop-more : {X : Type 0} (xs : List X) (i : ℕ) (d : X) → i < length xs → drop i xs ≡ get_or xs i d ∷ drop (i + 1) xs
drop-more xs i d within = rw (add-one, drop-cons xs i d)

-- A row of a table has no element where it isn't a stream, as many as it says where it is an array, and one otherwise.
pub length_elements_of : (row : PortRow) → length (elements_of row) ≡ (if is_stream row.spec.class then (if row.spec.array then row.elements else 1) else 0)
length_elements_of row = by (is_stream row.spec.class) row.spec.array
  where
    by : (stream arrayed : Bool) → length (if stream then (if arrayed then map (λ e. let port : PortRef = record { name = row.spec.name; element = Some e } in port) (range_with_len 0 row.elements) else record { name = row.spec.name; element = None } ∷ []) else []) ≡ (if stream then (if arrayed then row.elements else 1) else 0)
    by true true = length-map-range_with_len _ 0 row.elements
    by true false = refl
    by false arrayed = refl

range_at : (n e : ℕ) → e < n → slice_get (range_with_len 0 n) e ≡ Some e
range_at n e within =
    let long : e < length (range_with_len 0 n) = omega (arith, length-range_with_len 0 n) in
    let value : get_or (range_with_len 0 n) e 0 ≡ e = omega (arith, get_or-range_with_len 0 n e 0 within) in
    slice_get-get_or (range_with_len 0 n) e 0 long ∙ ap Some value

-- the element of a port by its number
pub elements_of-at : (row : PortRow) (e : ℕ) → e < length (elements_of row) → slice_get (elements_of row) e ≡ Some (record { name = row.spec.name; element = if row.spec.array then Some e else None })
elements_of-at row e within = by (is_stream row.spec.class) row.spec.array within
  where
    by : (stream arrayed : Bool) → e < length (if stream then (if arrayed then map (λ e. let port : PortRef = record { name = row.spec.name; element = Some e } in port) (range_with_len 0 row.elements) else record { name = row.spec.name; element = None } ∷ []) else []) → slice_get (if stream then (if arrayed then map (λ e. let port : PortRef = record { name = row.spec.name; element = Some e } in port) (range_with_len 0 row.elements) else record { name = row.spec.name; element = None } ∷ []) else []) e ≡ Some (let port : PortRef = record { name = row.spec.name; element = if arrayed then Some e else None } in port)
    by true true within =
        let few : e < row.elements = omega (arith, within, length-map-range_with_len (λ e. let port : PortRef = record { name = row.spec.name; element = Some e } in port) 0 row.elements) in
        slice_get-map _ (range_with_len 0 row.elements) e ∙ ap (option_map (λ e. let port : PortRef = record { name = row.spec.name; element = Some e } in port)) (range_at row.elements e few)
    by true false within =
        let first : 0 ≡ e = omega arith in
        ap (λ n. slice_get ((let port : PortRef = record { name = row.spec.name; element = None } in port) ∷ []) n) (sym first)
    by false arrayed within = absurd (omega arith)

-- A place of the left list is the same place of the two lists together.
pub slice_get-left : {X : Type 0} (xs ys : List X) (i : ℕ) → i < length xs → slice_get (xs ++ ys) i ≡ slice_get xs i
slice_get-left [] ys i within = absurd (omega arith)
slice_get-left (x ∷ xs) ys zero within = refl
slice_get-left (x ∷ xs) ys (suc i) within = slice_get-left xs ys i (omega arith)

-- A place of the right list lies as much further on as the left one is long.
pub slice_get-right : {X : Type 0} (xs ys : List X) (i j : ℕ) → i ≡ length xs + j → slice_get (xs ++ ys) i ≡ slice_get ys j
slice_get-right [] ys i j is = ap (slice_get ys) (omega arith)
slice_get-right (x ∷ xs) ys zero j is = absurd (omega arith)
slice_get-right (x ∷ xs) ys (suc i) j is = slice_get-right xs ys i j (omega arith)

ports_of-drop : (rows : List PortRow) (i : ℕ) (d : PortRow) → i < length rows → ports_of (drop i rows) ≡ elements_of (get_or rows i d) ++ ports_of (drop (i + 1) rows)
ports_of-drop rows i d within = ap ports_of (drop-more rows i d within)

-- The ports of the rows from i on with one more behind them: those of row i, and those behind it.
rest_of-drop : (rows : List PortRow) (i : ℕ) (d : PortRow) (last : PortRef) → i < length rows → ports_of (drop i rows) ++ last ∷ [] ≡ elements_of (get_or rows i d) ++ (ports_of (drop (i + 1) rows) ++ last ∷ [])
rest_of-drop rows i d last within = ap (λ (ports : List PortRef). ports ++ last ∷ []) (ports_of-drop rows i d within) ∙ append_assoc (elements_of (get_or rows i d)) (ports_of (drop (i + 1) rows)) (last ∷ [])

-- a number that falls into the first of the rows that are left
pub ports_of-here : (rows : List PortRow) (i n : ℕ) (d : PortRow) (last : PortRef) → i < length rows → n < length (elements_of (get_or rows i d)) → slice_get (ports_of (drop i rows) ++ last ∷ []) n ≡ slice_get (elements_of (get_or rows i d)) n
ports_of-here rows i n d last within here =
    ap (λ (ports : List PortRef). slice_get ports n) (rest_of-drop rows i d last within) ∙ slice_get-left (elements_of (get_or rows i d)) (ports_of (drop (i + 1) rows) ++ last ∷ []) n here

-- a number past it
pub ports_of-past : (rows : List PortRow) (i n m : ℕ) (d : PortRow) (last : PortRef) → i < length rows → n ≡ length (elements_of (get_or rows i d)) + m
    → slice_get (ports_of (drop i rows) ++ last ∷ []) n ≡ slice_get (ports_of (drop (i + 1) rows) ++ last ∷ []) m
ports_of-past rows i n m d last within is =
    ap (λ (ports : List PortRef). slice_get ports n) (rest_of-drop rows i d last within) ∙ slice_get-right (elements_of (get_or rows i d)) (ports_of (drop (i + 1) rows) ++ last ∷ []) n m is

drop-past : {X : Type 0} (xs : List X) (i : ℕ) → length xs ≤ i → drop i xs ≡ []
drop-past [] zero past = refl
drop-past [] (suc i) past = refl
drop-past (x ∷ xs) zero past = absurd (omega arith)
drop-past (x ∷ xs) (suc i) past = drop-past xs i (omega arith)

-- no row is left: the number is that of the last
pub ports_of-last : (rows : List PortRow) (i n : ℕ) (last : PortRef) → length rows ≤ i → n ≤ length (ports_of (drop i rows)) → slice_get (ports_of (drop i rows) ++ last ∷ []) n ≡ Some last
ports_of-last rows i n last past within =
    let none : drop i rows ≡ [] = drop-past rows i past in
    let first : n ≡ 0 = omega (arith, within, ap (λ (left : List PortRow). length (ports_of left)) none) in
    ap (λ (left : List PortRow). slice_get (ports_of left ++ last ∷ []) n) none ∙ ap (slice_get (last ∷ [])) first

-- The rows from i on have the ports of row i and of those behind it.
pub length-ports_of-drop : (rows : List PortRow) (i : ℕ) (d : PortRow) → i < length rows → length (ports_of (drop i rows)) ≡ length (elements_of (get_or rows i d)) + length (ports_of (drop (i + 1) rows))
length-ports_of-drop rows i d within = ap length (ports_of-drop rows i d within) ∙ length-append (elements_of (get_or rows i d)) (ports_of (drop (i + 1) rows))

-- The table of a process.
pub record Laid (tables : List PortTable) (p : ℕ) (process : Process) : Type 0 where
  pub table : PortTable
  pub here : slice_get tables p ≡ Some table
  pub inputs : length (ports_of table.inputs) ≡ process.inputs
  pub outputs : length (ports_of table.outputs) ≡ process.outputs

-- Where all processes are laid out by their tables, each one is.
pub LaidOut-at : (processes : List Process) (tables : List PortTable) (p : ℕ) (process : Process) → LaidOut processes tables → slice_get processes p ≡ Some process → Laid tables p process
LaidOut-at [] [] p process laid here = absurd (cc)
LaidOut-at [] (t ∷ ts) p process laid here = absurd laid
LaidOut-at (x ∷ xs) [] p process laid here = absurd laid
LaidOut-at (x ∷ xs) (t ∷ ts) zero process laid here =
    let same : x ≡ process = cc in
    record { table = t; here = refl; inputs = laid.0 ∙ ap (λ (q : Process). q.inputs) same; outputs = laid.1 ∙ ap (λ (q : Process). q.outputs) same }
LaidOut-at (x ∷ xs) (t ∷ ts) (suc p) process laid here =
    let later = LaidOut-at xs ts p process laid.2 here in
    record { table = later.table; here = later.here; inputs = later.inputs; outputs = later.outputs }

-- an element of an array, as it is spelled
pub spelled-array : (row : PortRow) (e : ℕ) (name : List ℕ) → e < length (elements_of row) → row.spec.array ≡ true → name ≡ row.spec.name ++ spelled_element (Some e) → option_map spelled (slice_get (elements_of row) e) ≡ Some name
spelled-array row e name within array is =
    ap (option_map spelled) (elements_of-at row e within) ∙ ap (λ b. Some (row.spec.name ++ spelled_element (if b then Some e else None))) array ∙ ap Some (sym is)
