-- The automatic port is the last of its side of its process: what that says of entries, rows and numbers.
use Rattle.std.proofs.Common.{◌≡◌, ℕ, ◌+◌, ◌-◌, ◌≤◌, List, [], ◌∷◌, ◌++◌, Some, Bool, true, false, map, refl, ap, sym, ◌∙◌, zero, suc, inl, inr, ◌⊎◌, slice_get, length, take, arith, length-append}
use Rattle.std.specs.Prelude.{if◌then◌else◌, codes}
use Rattle.std.specs.List.{sum_by, flat_map}
use Rattle.std.proofs.lemmas.Bool.{false≢true}
use Rattle.std.proofs.lemmas.List.{map-append}
use Rattle.std.proofs.lemmas.List.Sums.{sum_by-cons}
use Rattle.flow_net.specs.declared.draft.DraftPort.{DraftPort}
use Rattle.flow_plan.specs.declared.kind.KindSpec.{KindSpec}
use Rattle.flow_plan.specs.declared.kind.PortSpec.{PortSpec}
use Rattle.flow_plan.specs.declared.plan.PortRow.{PortRow}
use Rattle.flow_plan.specs.Network.{is_stream, elements_of, ports_of}
use Rattle.flow_net.specs.Drafts.{is_side}
use Rattle.flow_net.specs.Finishes.{size_of, count_of, counted, front}
use Rattle.flow_net.specs.Kinds.{automatic, takes_texts}
use Rattle.flow_net.specs.Over.{carries, entries}
use Rattle.flow_net.specs.Sound.{HasKindPorts, entries_of}
use Rattle.flow_plan.proofs.PortNames.{length_elements_of}
use Rattle.flow_net.proofs.Wiring.{slice_get-push_cases}

take-whole : {X : Type 0} (xs ys : List X) → take (length xs) (xs ++ ys) ≡ xs
take-whole [] ys = refl
take-whole (x ∷ xs) ys = ap (λ zs. x ∷ zs) (take-whole xs ys)

-- What was pushed is off again.
pub front-push : {X : Type 0} (xs : List X) (x : X) → front (xs ++ x ∷ []) ≡ xs
front-push xs x =
    let one : length (xs ++ x ∷ []) - 1 ≡ length xs = omega (arith, length-append xs (x ∷ [])) in
    ap (λ n. take n (xs ++ x ∷ [])) one ∙ take-whole xs (x ∷ [])

get-take : {X : Type 0} (n : ℕ) (xs : List X) (i : ℕ) (y : X) → slice_get (take n xs) i ≡ Some y → slice_get xs i ≡ Some y
get-take zero xs i y is = absurd (cc)
get-take (suc n) [] i y is = is
get-take (suc n) (x ∷ xs) zero y is = is
get-take (suc n) (x ∷ xs) (suc i) y is = get-take n xs i y is

-- What stands in the front of a list stands in the list.
pub get-front : {X : Type 0} (xs : List X) (i : ℕ) (y : X) → slice_get (front xs) i ≡ Some y → slice_get xs i ≡ Some y
get-front xs i y is = get-take (length xs - 1) xs i y is

get-longer : {X : Type 0} (zs xs ys : List X) (i : ℕ) (y : X) → ((k : ℕ) → slice_get xs k ≡ Some y → slice_get ys k ≡ Some y) → slice_get (zs ++ xs) i ≡ Some y → slice_get (zs ++ ys) i ≡ Some y
get-longer [] xs ys i y more is = more i is
get-longer (z ∷ zs) xs ys zero y more is = is
get-longer (z ∷ zs) xs ys (suc i) y more is = get-longer zs xs ys i y more is

get-flat-take : {X Y : Type 0} (f : X → List Y) (n : ℕ) (xs : List X) (i : ℕ) (y : Y) → slice_get (flat_map f (take n xs)) i ≡ Some y → slice_get (flat_map f xs) i ≡ Some y
get-flat-take f zero xs i y is = absurd (cc)
get-flat-take f (suc n) [] i y is = is
get-flat-take f (suc n) (x ∷ xs) i y is = get-longer (f x) (flat_map f (take n xs)) (flat_map f xs) i y (λ k at. get-flat-take f n xs k y at) is

-- What the front of a list gives, one after another, the list gives too.
pub get-flat-front : {X Y : Type 0} (f : X → List Y) (xs : List X) (i : ℕ) (y : Y) → slice_get (flat_map f (front xs)) i ≡ Some y → slice_get (flat_map f xs) i ≡ Some y
get-flat-front f xs i y is = get-flat-take f (length xs - 1) xs i y is

-- Rows whose last entry is this one.
pub record Split (rows : List PortRow) (specs : List PortSpec) (last : PortSpec) : Type 0 where
  pub before : List PortRow
  pub row : PortRow
  pub whole : rows ≡ before ++ row ∷ []
  pub specs_are : entries before ≡ specs
  pub spec_is : row.spec ≡ last

pub split-rows : (rows : List PortRow) (specs : List PortSpec) (last : PortSpec) → entries rows ≡ specs ++ last ∷ [] → Split rows specs last
split-rows [] [] last is = absurd (cc)
split-rows [] (x ∷ specs) last is = absurd (cc)
split-rows (r ∷ []) [] last is = record { before = []; row = r; whole = refl; specs_are = refl; spec_is = cc }
split-rows (r ∷ q ∷ rows) [] last is = absurd (cc)
split-rows (r ∷ rows) (x ∷ specs) last is =
    let first : r.spec ≡ x = cc in
    let later : entries rows ≡ specs ++ last ∷ [] = cc in
    let rest = split-rows rows specs last later in
    record {
      before = r ∷ rest.before;
      row = rest.row;
      whole = ap (λ (rs : List PortRow). r ∷ rs) rest.whole;
      specs_are = λ i. first i ∷ rest.specs_are i;
      spec_is = rest.spec_is;
    }

-- The entries of the rows but the last.
pub entries-front : (rows : List PortRow) (specs : List PortSpec) (last : PortSpec) → entries rows ≡ specs ++ last ∷ [] → entries (front rows) ≡ specs
entries-front rows specs last is =
    let s = split-rows rows specs last is in
    ap (λ (rs : List PortRow). entries (front rs)) s.whole ∙ ap entries (front-push s.before s.row) ∙ s.specs_are

-- A row that isn't the automatic one stands before it.
pub row-front : (rows : List PortRow) (specs : List PortSpec) (last : PortSpec) (i : ℕ) (row : PortRow) → entries rows ≡ specs ++ last ∷ [] → (row.spec ≡ last → ⊥) → slice_get rows i ≡ Some row → slice_get (front rows) i ≡ Some row
row-front rows specs last i row is apart here = by (slice_get-push_cases s.before s.row row i (ap (λ (rs : List PortRow). slice_get rs i) (sym s.whole) ∙ here))
  where
    s : Split rows specs last
    s = split-rows rows specs last is

    by : (slice_get s.before i ≡ Some row) ⊎ ((i ≡ length s.before) × (s.row ≡ row)) → slice_get (front rows) i ≡ Some row
    by (inl old) = ap (λ (rs : List PortRow). slice_get rs i) (ap (λ (rs : List PortRow). front rs) s.whole ∙ front-push s.before s.row) ∙ old
    by (inr new) = absurd (apart (ap (λ (r : PortRow). r.spec) (sym new.1) ∙ s.spec_is))

ports-push : (rows : List PortRow) (row : PortRow) → length (ports_of (rows ++ row ∷ [])) ≡ length (ports_of rows) + length (elements_of row)
ports-push [] row = omega (arith, length-append (elements_of row) [])
ports-push (r ∷ rows) row = omega (arith, ports-push rows row, length-append (elements_of r) (ports_of (rows ++ row ∷ [])), length-append (elements_of r) (ports_of rows))

one-element : (row : PortRow) (name : List ℕ) → row.spec ≡ automatic name → length (elements_of row) ≡ 1
one-element row name is = length_elements_of row ∙ ap (λ (spec : PortSpec). if is_stream spec.class then (if spec.array then row.elements else 1) else 0) is

-- An automatic port behind the others of its side has one number.
pub ports-front : (rows : List PortRow) (specs : List PortSpec) (name : List ℕ) → entries rows ≡ specs ++ automatic name ∷ [] → length (ports_of (front rows)) + 1 ≡ length (ports_of rows)
ports-front rows specs name is =
    let s = split-rows rows specs (automatic name) is in
    let own : length (ports_of (front rows)) ≡ length (ports_of s.before) = ap (λ (rs : List PortRow). length (ports_of (front rs))) s.whole ∙ ap (λ (rs : List PortRow). length (ports_of rs)) (front-push s.before s.row) in
    let all : length (ports_of rows) ≡ length (ports_of (s.before ++ s.row ∷ [])) = ap (λ (rs : List PortRow). length (ports_of rs)) s.whole in
    omega (arith, own, all, ports-push s.before s.row, one-element s.row name s.spec_is)

-- The sides of a process end with its automatic ports.
pub record Closes (ports : List DraftPort) (p : ℕ) : Type 0 where
  pub inputs : List PortSpec
  pub outputs : List PortSpec
  pub inputs_are : entries_of ports p true ≡ inputs ++ automatic (codes "*IN") ∷ []
  pub outputs_are : entries_of ports p false ≡ outputs ++ automatic (codes "*OUT") ∷ []

-- The outputs of a process of a kind end with the automatic output.
pub outputs-closed : (kinds : List KindSpec) (ports : List DraftPort) (p : ℕ) (called : List ℕ) (has : HasKindPorts kinds ports p called) → entries_of ports p false ≡ map carries has.kind.outputs ++ automatic (codes "*OUT") ∷ []
outputs-closed kinds ports p called has = has.outputs ∙ map-append carries has.kind.outputs (automatic (codes "*OUT") ∷ [])

pub closes-kind : (kinds : List KindSpec) (ports : List DraftPort) (p : ℕ) (called : List ℕ) → HasKindPorts kinds ports p called → Closes ports p
closes-kind kinds ports p called has = record {
  inputs = has.kind.inputs;
  outputs = map carries has.kind.outputs;
  inputs_are = has.inputs;
  outputs_are = outputs-closed kinds ports p called has;
}

pub count-automatic : (port : DraftPort) (name : List ℕ) → port.spec ≡ automatic name → count_of port ≡ 1
count-automatic port name is = ap (λ (spec : PortSpec). if is_stream spec.class then (if spec.array then size_of port.elements else 1) else 0) is

module _ (p : ℕ) (s : Bool) where
  counted-on : (port : DraftPort) → is_side p s port ≡ true → counted p s port ≡ count_of port
  counted-on port side = ap (λ (b : Bool). if b then count_of port else 0) side

  counted-off : (port : DraftPort) → is_side p s port ≡ false → counted p s port ≡ 0
  counted-off port side = ap (λ (b : Bool). if b then count_of port else 0) side

  on : (q : DraftPort) (ports : List DraftPort) → is_side p s q ≡ true → entries_of (q ∷ ports) p s ≡ q.spec ∷ entries_of ports p s
  on q ports side = ap (λ (b : Bool). if b then q.spec ∷ entries_of ports p s else entries_of ports p s) side

  off : (q : DraftPort) (ports : List DraftPort) → is_side p s q ≡ false → entries_of (q ∷ ports) p s ≡ entries_of ports p s
  off q ports side = ap (λ (b : Bool). if b then q.spec ∷ entries_of ports p s else entries_of ports p s) side

  none-left : (ports : List DraftPort) → entries_of ports p s ≡ [] → sum_by (counted p s) ports ≡ 0
  none-left [] is = refl
  none-left (q ∷ ports) is = by (is_side p s q) refl (none-left ports)
    where
      by : (b : Bool) → is_side p s q ≡ b → (entries_of ports p s ≡ [] → sum_by (counted p s) ports ≡ 0) → sum_by (counted p s) (q ∷ ports) ≡ 0
      by true side rest = absurd (let h : q.spec ∷ entries_of ports p s ≡ [] = sym (on q ports side) ∙ is in cc)
      by false side rest = omega (arith, sum_by-cons (counted p s) q ports, counted-off q side, rest (sym (off q ports side) ∙ is))

  none-there : (ports : List DraftPort) (g : ℕ) (port : DraftPort) → entries_of ports p s ≡ [] → slice_get ports g ≡ Some port → is_side p s port ≡ true → ⊥
  none-there [] g port is here side = cc
  none-there (q ∷ ports) zero port is here side =
      let same : q ≡ port = cc in
      let h : q.spec ∷ entries_of ports p s ≡ [] = sym (on q ports (ap (is_side p s) same ∙ side)) ∙ is in
      cc
  none-there (q ∷ ports) (suc g) port is here side = by (is_side p s q) refl (λ h. none-there ports g port h here side)
    where
      by : (b : Bool) → is_side p s q ≡ b → (entries_of ports p s ≡ [] → ⊥) → ⊥
      by true test rest = let h : q.spec ∷ entries_of ports p s ≡ [] = sym (on q ports test) ∙ is in cc
      by false test rest = rest (sym (off q ports test) ∙ is)

  -- A port that takes no texts, behind others that do, is the last of its side.
  pub last-number : (ports : List DraftPort) (specs : List PortSpec) (last : PortSpec) (g : ℕ) (port : DraftPort) → entries_of ports p s ≡ specs ++ last ∷ [] → ((i : ℕ) (x : PortSpec) → slice_get specs i ≡ Some x → takes_texts x ≡ true)
      → slice_get ports g ≡ Some port → is_side p s port ≡ true → takes_texts port.spec ≡ false → sum_by (counted p s) (take g ports) + count_of port ≡ sum_by (counted p s) ports
  last-number [] specs last g port is all here side unneeded = absurd (cc)
  last-number (q ∷ ports) [] last zero port is all here side unneeded =
      let same : q ≡ port = cc in
      let test : is_side p s q ≡ true = ap (is_side p s) same ∙ side in
      let whole : q.spec ∷ entries_of ports p s ≡ last ∷ [] = sym (on q ports test) ∙ is in
      let rest : entries_of ports p s ≡ [] = cc in
      let count : count_of q ≡ count_of port = ap count_of same in
      omega (arith, sum_by-cons (counted p s) q ports, counted-on q test, none-left ports rest, count)
  last-number (q ∷ ports) (x ∷ specs) last zero port is all here side unneeded =
      let same : q ≡ port = cc in
      let test : is_side p s q ≡ true = ap (is_side p s) same ∙ side in
      let whole : q.spec ∷ entries_of ports p s ≡ x ∷ (specs ++ last ∷ []) = sym (on q ports test) ∙ is in
      let first : q.spec ≡ x = cc in
      absurd (false≢true (sym unneeded ∙ ap (λ (r : DraftPort). takes_texts r.spec) (sym same) ∙ ap takes_texts first ∙ all 0 x refl))
  last-number (q ∷ ports) specs last (suc g) port is all here side unneeded = by (is_side p s q) refl specs is all (λ more h each. last-number ports more last g port h each here side unneeded)
    where
      by : (b : Bool) → is_side p s q ≡ b → (specs : List PortSpec) → entries_of (q ∷ ports) p s ≡ specs ++ last ∷ [] → ((i : ℕ) (x : PortSpec) → slice_get specs i ≡ Some x → takes_texts x ≡ true)
          → ((more : List PortSpec) → entries_of ports p s ≡ more ++ last ∷ [] → ((i : ℕ) (x : PortSpec) → slice_get more i ≡ Some x → takes_texts x ≡ true) → sum_by (counted p s) (take g ports) + count_of port ≡ sum_by (counted p s) ports)
          → sum_by (counted p s) (take (suc g) (q ∷ ports)) + count_of port ≡ sum_by (counted p s) (q ∷ ports)
      by true test [] is all rest =
          let whole : q.spec ∷ entries_of ports p s ≡ last ∷ [] = sym (on q ports test) ∙ is in
          let none : entries_of ports p s ≡ [] = cc in
          absurd (none-there ports g port none here side)
      by true test (x ∷ specs) is all rest =
          let whole : q.spec ∷ entries_of ports p s ≡ x ∷ (specs ++ last ∷ []) = sym (on q ports test) ∙ is in
          let later : entries_of ports p s ≡ specs ++ last ∷ [] = cc in
          omega (arith, sum_by-cons (counted p s) q ports, sum_by-cons (counted p s) q (take g ports), rest specs later (λ i y at. all (suc i) y at))
      by false test specs is all rest = omega (arith, sum_by-cons (counted p s) q ports, sum_by-cons (counted p s) q (take g ports), rest specs (sym (off q ports test) ∙ is) all)

  some-left : (ports : List DraftPort) (specs : List PortSpec) (name : List ℕ) → entries_of ports p s ≡ specs ++ automatic name ∷ [] → 1 ≤ sum_by (counted p s) ports
  some-left [] [] name is = absurd (cc)
  some-left [] (x ∷ specs) name is = absurd (cc)
  some-left (q ∷ ports) specs name is = by (is_side p s q) refl specs is (λ more h. some-left ports more name h)
    where
      by : (b : Bool) → is_side p s q ≡ b → (specs : List PortSpec) → entries_of (q ∷ ports) p s ≡ specs ++ automatic name ∷ [] → ((more : List PortSpec) → entries_of ports p s ≡ more ++ automatic name ∷ [] → 1 ≤ sum_by (counted p s) ports) → 1 ≤ sum_by (counted p s) (q ∷ ports)
      by true test [] is rest =
          let whole : q.spec ∷ entries_of ports p s ≡ automatic name ∷ [] = sym (on q ports test) ∙ is in
          let first : q.spec ≡ automatic name = cc in
          omega (arith, sum_by-cons (counted p s) q ports, counted-on q test, count-automatic q name first)
      by true test (x ∷ specs) is rest =
          let whole : q.spec ∷ entries_of ports p s ≡ x ∷ (specs ++ automatic name ∷ []) = sym (on q ports test) ∙ is in
          let later : entries_of ports p s ≡ specs ++ automatic name ∷ [] = cc in
          omega (arith, sum_by-cons (counted p s) q ports, rest specs later)
      by false test specs is rest = omega (arith, sum_by-cons (counted p s) q ports, rest specs (sym (off q ports test) ∙ is))

  -- A port that takes texts isn't the last of its side.
  pub not-last : (ports : List DraftPort) (specs : List PortSpec) (name : List ℕ) (g : ℕ) (port : DraftPort) → entries_of ports p s ≡ specs ++ automatic name ∷ [] → slice_get ports g ≡ Some port → is_side p s port ≡ true → takes_texts port.spec ≡ true
      → sum_by (counted p s) (take g ports) + count_of port + 1 ≤ sum_by (counted p s) ports
  not-last [] specs name g port is here side needed = absurd (cc)
  not-last (q ∷ ports) [] name zero port is here side needed =
      let same : q ≡ port = cc in
      let test : is_side p s q ≡ true = ap (is_side p s) same ∙ side in
      let whole : q.spec ∷ entries_of ports p s ≡ automatic name ∷ [] = sym (on q ports test) ∙ is in
      let first : q.spec ≡ automatic name = cc in
      absurd (false≢true (sym (ap takes_texts first) ∙ ap (λ (r : DraftPort). takes_texts r.spec) same ∙ needed))
  not-last (q ∷ ports) (x ∷ specs) name zero port is here side needed =
      let same : q ≡ port = cc in
      let test : is_side p s q ≡ true = ap (is_side p s) same ∙ side in
      let whole : q.spec ∷ entries_of ports p s ≡ x ∷ (specs ++ automatic name ∷ []) = sym (on q ports test) ∙ is in
      let later : entries_of ports p s ≡ specs ++ automatic name ∷ [] = cc in
      let count : count_of q ≡ count_of port = ap count_of same in
      omega (arith, sum_by-cons (counted p s) q ports, counted-on q test, some-left ports specs name later, count)
  not-last (q ∷ ports) specs name (suc g) port is here side needed = by (is_side p s q) refl specs is (λ more h. not-last ports more name g port h here side needed)
    where
      by : (b : Bool) → is_side p s q ≡ b → (specs : List PortSpec) → entries_of (q ∷ ports) p s ≡ specs ++ automatic name ∷ []
          → ((more : List PortSpec) → entries_of ports p s ≡ more ++ automatic name ∷ [] → sum_by (counted p s) (take g ports) + count_of port + 1 ≤ sum_by (counted p s) ports)
          → sum_by (counted p s) (take (suc g) (q ∷ ports)) + count_of port + 1 ≤ sum_by (counted p s) (q ∷ ports)
      by true test [] is rest =
          let whole : q.spec ∷ entries_of ports p s ≡ automatic name ∷ [] = sym (on q ports test) ∙ is in
          let none : entries_of ports p s ≡ [] = cc in
          absurd (none-there ports g port none here side)
      by true test (x ∷ specs) is rest =
          let whole : q.spec ∷ entries_of ports p s ≡ x ∷ (specs ++ automatic name ∷ []) = sym (on q ports test) ∙ is in
          let later : entries_of ports p s ≡ specs ++ automatic name ∷ [] = cc in
          omega (arith, sum_by-cons (counted p s) q ports, sum_by-cons (counted p s) q (take g ports), rest specs later)
      by false test specs is rest = omega (arith, sum_by-cons (counted p s) q ports, sum_by-cons (counted p s) q (take g ports), rest specs (sym (off q ports test) ∙ is))
