-- The slots with which a floor begins.
use Rattle.std.proofs.Common.{◌≡◌, ◌≢◌, ℕ, zero, suc, ◌+◌, ◌-◌, ◌%◌, ◌<◌, ◌≤◌, List, [], ◌∷◌, ◌++◌, length, map, take, drop, get_or, set, replicate, sym, refl, ap, ◌∙◌, subst, arith, Some, None, slice_get, length-append}
use Rattle.std.proofs.lemmas.List.{length-map, length-replicate}
use Rattle.std.proofs.lemmas.Nat.{mod_below}
use mathlib.Core.Logic.{dite}
use mathlib.Core.Option.{some, some-injective}
use native.Mathlib.Decide.{ℕ_discrete}
use lib.ListN.{get_elem?}
use Rattle.atomic_table.proofs.Lists.{at_index, set_here, set_else}
use Rattle.flow_packet.specs.Tree.{Tree}
use Rattle.flow_model.specs.Stands.{ChannelShown}
use Rattle.flow_machine.specs.Values.{BodyValue}
use Rattle.flow_floor.proofs.Lists.{some_Some, at_inside, get-within, at-front, at-back}
use Rattle.flow_ring.specs.Places.{puts_slot, takes_slot, cell_slot, place_slot, slot_count, cells_before}
use Rattle.flow_floor.specs.declared.board.Slot.{Slot}
use Rattle.flow_floor.specs.declared.board.Slot.TheVariants as slot
use Rattle.flow_floor.specs.Opening.{AreSameButCells, HasCells, HasPackets, IsIn}
use Rattle.flow_floor.specs.Laying.{AreLaid, AreLaidFrom, AreSameBelow, AreSameFrom}
use Rattle.flow_ring.proofs.Rounds.{cells-apart, cells-within}
use Rattle.flow_floor.proofs.Cells.{own-within, place-own, place-else, push-assoc-all}

module _ {A : Type 0} where
  -- All of a list that are taken are the list.
  pub take-all : (xs : List A) → take (length xs) xs ≡ xs
  take-all [] = refl
  take-all (x ∷ xs) = ap (λ (ys : List A). x ∷ ys) (take-all xs)

  pub take-few : (xs : List A) (j : ℕ) → length (take j xs) ≤ j
  take-few [] zero = omega arith
  take-few [] (suc j) = omega arith
  take-few (x ∷ xs) zero = omega arith
  take-few (x ∷ xs) (suc j) = let r = take-few xs j in omega (arith, r)

  -- None is dropped.
  pub drop-none : (xs : List A) → drop 0 xs ≡ xs
  drop-none [] = refl
  drop-none (x ∷ xs) = refl

  -- One more is taken, and the others stay.
  pub get-taken : (xs : List A) (j : ℕ) (x : A) → slice_get xs j ≡ Some x → slice_get (take (suc j) xs) j ≡ Some x
  get-taken [] j x is = absurd (cc)
  get-taken (y ∷ ys) zero x is = is
  get-taken (y ∷ ys) (suc j) x is = get-taken ys j x is

  pub get-taken-else : (xs : List A) (i j : ℕ) → i ≢ j → slice_get (take j xs) i ≡ slice_get (take (suc j) xs) i
  get-taken-else [] i zero other = refl
  get-taken-else [] i (suc j) other = refl
  get-taken-else (y ∷ ys) zero zero other = absurd (other refl)
  get-taken-else (y ∷ ys) zero (suc j) other = refl
  get-taken-else (y ∷ ys) (suc i) zero other = refl
  get-taken-else (y ∷ ys) (suc i) (suc j) other = get-taken-else ys i j (λ e. other (ap suc e))

  -- Behind those that are taken is none.
  pub get-untaken : (xs : List A) (j : ℕ) → slice_get (take j xs) j ≡ None
  get-untaken [] zero = refl
  get-untaken [] (suc j) = refl
  get-untaken (y ∷ ys) zero = refl
  get-untaken (y ∷ ys) (suc j) = get-untaken ys j

  -- The first that is left.
  pub get-dropped : (xs : List A) (j : ℕ) (x : A) (left : List A) → drop j xs ≡ x ∷ left → slice_get xs j ≡ Some x
  get-dropped [] zero x left is = absurd (cc)
  get-dropped [] (suc j) x left is = absurd (cc)
  get-dropped (y ∷ ys) zero x left is = ap (λ zs. slice_get zs 0) is
  get-dropped (y ∷ ys) (suc j) x left is = get-dropped ys j x left is

  -- One more is dropped.
  pub drop-one : (xs : List A) (j : ℕ) → drop 1 (drop j xs) ≡ drop (suc j) xs
  drop-one [] zero = refl
  drop-one [] (suc j) = refl
  drop-one (y ∷ ys) zero = refl
  drop-one (y ∷ ys) (suc j) = drop-one ys j

  -- None is left behind the last.
  pub drop-all : (xs : List A) → drop (length xs) xs ≡ []
  drop-all [] = refl
  drop-all (y ∷ ys) = drop-all ys

  -- A list whose first ones were changed, and one more of them.
  pub part-at : (f : A → A) (xs : List A) (c : ℕ) → slice_get (map f (take c xs) ++ drop c xs) c ≡ slice_get xs c
  part-at f [] zero = refl
  part-at f [] (suc c) = refl
  part-at f (x ∷ xs) zero = refl
  part-at f (x ∷ xs) (suc c) = part-at f xs c

  pub part-more : (f : A → A) (xs : List A) (c : ℕ) (x : A) → slice_get xs c ≡ Some x → set (map f (take c xs) ++ drop c xs) c (f x) ≡ map f (take (suc c) xs) ++ drop (suc c) xs
  part-more f [] c x is = absurd (cc)
  part-more f (y ∷ ys) zero x is = ap (λ z. f z ∷ ys) (sym (some_Some y x is))
  part-more f (y ∷ ys) (suc c) x is = ap (λ (zs : List A). f y ∷ zs) (part-more f ys c x is)

  pub part-long : (f : A → A) (xs : List A) (c : ℕ) → length (map f (take c xs) ++ drop c xs) ≡ length xs
  part-long f [] zero = refl
  part-long f [] (suc c) = refl
  part-long f (x ∷ xs) zero = refl
  part-long f (x ∷ xs) (suc c) = ap suc (part-long f xs c)

  pub part-all : (f : A → A) (xs : List A) (c : ℕ) → length xs ≤ c → map f (take c xs) ++ drop c xs ≡ map f xs
  part-all f [] zero long = refl
  part-all f [] (suc c) long = refl
  part-all f (x ∷ xs) zero long = absurd (omega (arith, long))
  part-all f (x ∷ xs) (suc c) long = ap (λ (zs : List A). f x ∷ zs) (part-all f xs c (omega (arith, long)))

  -- The same from behind: one more of a list whose last ones were changed is what it was.
  pub rest-at : (f : A → A) (xs : List A) (c : ℕ) (x : A) → slice_get xs c ≡ Some x → slice_get (take c xs ++ map f (drop c xs)) c ≡ Some (f x)
  rest-at f [] c x is = absurd (cc)
  rest-at f (y ∷ ys) zero x is = ap (λ z. Some (f z)) (some_Some y x is)
  rest-at f (y ∷ ys) (suc c) x is = rest-at f ys c x is

  pub rest-more : (f : A → A) (xs : List A) (c : ℕ) (x : A) → slice_get xs c ≡ Some x → set (take c xs ++ map f (drop c xs)) c x ≡ take (suc c) xs ++ map f (drop (suc c) xs)
  rest-more f [] c x is = absurd (cc)
  rest-more f (y ∷ ys) zero x is = ap (λ z. z ∷ map f ys) (sym (some_Some y x is))
  rest-more f (y ∷ ys) (suc c) x is = ap (λ (zs : List A). y ∷ zs) (rest-more f ys c x is)

  pub rest-long : (f : A → A) (xs : List A) (c : ℕ) → length (take c xs ++ map f (drop c xs)) ≡ length xs
  rest-long f [] zero = refl
  rest-long f [] (suc c) = refl
  rest-long f (x ∷ xs) zero = ap suc (length-map xs f)
  rest-long f (x ∷ xs) (suc c) = ap suc (rest-long f xs c)

  pub rest-all : (f : A → A) (xs : List A) (c : ℕ) → length xs ≤ c → take c xs ++ map f (drop c xs) ≡ xs
  rest-all f [] zero long = refl
  rest-all f [] (suc c) long = refl
  rest-all f (x ∷ xs) zero long = absurd (omega (arith, long))
  rest-all f (x ∷ xs) (suc c) long = ap (λ (zs : List A). x ∷ zs) (rest-all f xs c (omega (arith, long)))

  -- One more is taken behind the others.
  pub take-next : (xs : List A) (c : ℕ) (x : A) → slice_get xs c ≡ Some x → take c xs ++ x ∷ [] ≡ take (suc c) xs
  take-next [] c x is = absurd (cc)
  take-next (y ∷ ys) zero x is = ap (λ z. z ∷ []) (sym (some_Some y x is))
  take-next (y ∷ ys) (suc c) x is = ap (λ (zs : List A). y ∷ zs) (take-next ys c x is)

  -- Each of equal ones.
  pub at-each : (m i : ℕ) (x : A) → i < m → get_elem? (replicate m x) i ≡ some x
  at-each zero i x low = absurd (omega (arith, low))
  at-each (suc m) zero x low = refl
  at-each (suc m) (suc i) x low = at-each m i x (omega (arith, low))

map-next : {A B : Type 0} (f : A → B) (xs : List A) (c : ℕ) (x : A) → slice_get xs c ≡ Some x → map f (take c xs) ++ f x ∷ [] ≡ map f (take (suc c) xs)
map-next f [] c x is = absurd (cc)
map-next f (y ∷ ys) zero x is = ap (λ z. f z ∷ []) (sym (some_Some y x is))
map-next {A} {B} f (y ∷ ys) (suc c) x is = ap (λ (zs : List B). f y ∷ zs) (map-next f ys c x is)

-- One more of a list goes behind what was put.
pub put-more : {A B : Type 0} (f : A → B) (xs : List A) (c : ℕ) (x : A) (zs ys new : List B) → slice_get xs c ≡ Some x → ys ≡ zs ++ map f (take c xs) → new ≡ ys ++ f x ∷ [] → new ≡ zs ++ map f (take (c + 1) xs)
put-more f xs c x zs ys new there is more =
    more ∙ ap (λ us. us ++ f x ∷ []) is ∙ sym (push-assoc-all zs (map f (take c xs)) (f x ∷ [])) ∙ ap (λ us. zs ++ us) (map-next f xs c x there) ∙ ap (λ n. zs ++ map f (take n xs)) (let e : suc c ≡ c + 1 = omega arith in e)

-- Parts that were put one behind another.
pub regroup : {A : Type 0} (bs ps ts : List A) (x : A) (m n : ℕ) (none b p t all : List A) → none ≡ [] → b ≡ none ++ bs → p ≡ b ++ ps → t ≡ p ++ ts → all ≡ t ++ replicate m x → m ≡ n → all ≡ bs ++ (ps ++ (ts ++ replicate n x))
regroup bs ps ts x m n none b p t all none_is b_is p_is t_is all_is m_is =
    let b_all : b ≡ bs = b_is ∙ ap (λ zs. zs ++ bs) none_is in
    let p_all : p ≡ bs ++ ps = p_is ∙ ap (λ zs. zs ++ ps) b_all in
    let t_all : t ≡ (bs ++ ps) ++ ts = t_is ∙ ap (λ zs. zs ++ ts) p_all in
    all_is ∙ (λ j. t_all j ++ replicate (m_is j) x) ∙ sym (push-assoc-all (bs ++ ps) ts (replicate n x)) ∙ sym (push-assoc-all bs ps (ts ++ replicate n x))

-- One packet more was taken out of a connection.
pub taken-more : (old now new : ChannelShown) (place : ℕ) → old.takes ≤ place → now ≡ record old { packets = drop (place - old.takes) old.packets; takes = place } → new ≡ record now { packets = drop 1 now.packets; takes = now.takes + 1 } → new ≡ record old { packets = drop (place + 1 - old.takes) old.packets; takes = place + 1 }
taken-more old now new place low is taken =
    let packets : drop 1 (drop (place - old.takes) old.packets) ≡ drop (place + 1 - old.takes) old.packets =
    drop-one old.packets (place - old.takes) ∙ ap (λ n. drop n old.packets) (let e : suc (place - old.takes) ≡ place + 1 - old.takes = omega (arith, low) in e) in
    taken ∙ (λ j. record (is j) { packets = drop 1 (is j).packets; takes = (is j).takes + 1 }) ∙ (λ j. record old { packets = packets j; takes = place + 1 })

-- One packet more was put back.
pub put-next : (k now new : ChannelShown) (place : ℕ) (packet : Tree) → k.takes ≤ place → slice_get k.packets (place - k.takes) ≡ Some packet → now ≡ record k { packets = take (place - k.takes) k.packets; puts = place } → new ≡ record now { packets = now.packets ++ packet ∷ []; puts = now.puts + 1 }
    → new ≡ record k { packets = take (place + 1 - k.takes) k.packets; puts = place + 1 }
put-next k now new place packet low there is put =
    let packets : take (place - k.takes) k.packets ++ packet ∷ [] ≡ take (place + 1 - k.takes) k.packets =
    take-next k.packets (place - k.takes) packet there ∙ ap (λ n. take n k.packets) (let e : suc (place - k.takes) ≡ place + 1 - k.takes = omega (arith, low) in e) in
    put ∙ (λ j. record (is j) { packets = (is j).packets ++ packet ∷ []; puts = (is j).puts + 1 }) ∙ (λ j. record k { packets = packets j; puts = place + 1 })

-- What was found in a slot is what lies there.
pub found-in : {K : Type 0} (xs : List (Slot K)) (at place : ℕ) (x y : Slot K) → at ≡ place → x ≡ get_or xs at x → IsIn xs place y → x ≡ y
found-in xs at place x y same is there = some-injective x y (sym (at_index xs at x (omega (arith, same, at_inside xs place y there)) is) ∙ ap (get_elem? xs) same ∙ there)

module _ (n : ℕ) (capacities : List ℕ) where
  -- The cell of a place of connection c.
  abbrev cell : ℕ → ℕ → ℕ
  cell c place = place_slot n capacities c place

  -- A number's slot is no cell.
  puts-out : (c d i : ℕ) → d < length capacities → puts_slot n d ≡ cell_slot n capacities c i → ⊥
  puts-out c d i low e = omega (arith, low, e)

  takes-out : (c d i : ℕ) → d < length capacities → takes_slot n (length capacities) d ≡ cell_slot n capacities c i → ⊥
  takes-out c d i low e = omega (arith, low, e)

-- What is put into slots of a body, and of a connection.
module _ {K : Type 0} where
  abbrev pub of_body : BodyValue K → Slot K
  of_body b = slot.Body b

  abbrev pub of_puts : ChannelShown → Slot K
  of_puts k = slot.Count k.puts

  abbrev pub of_takes : ChannelShown → Slot K
  of_takes k = slot.Count k.takes

  abbrev pub no_packet : Slot K
  no_packet = slot.Cell None

module _ {K : Type 0} (n : ℕ) (capacities : List ℕ) where
  -- The cell of the next packet is empty.
  pub empty-cell : (xs : List (Slot K)) (c first place : ℕ) (packets : List Tree) → first ≤ place → place - first < get_or capacities c 0 → HasCells n capacities xs c first (take (place - first) packets) → IsIn xs (cell n capacities c place) (slot.Cell None)
  empty-cell xs c first place packets low below cells = ap (λ z. get_elem? xs (cell n capacities c z)) (let e : place ≡ first + (place - first) = omega (arith, low) in e) ∙ cells (place - first) below ∙ ap (λ z. some (slot.Cell z)) (get-untaken packets (place - first))

  -- The next packet lies in its cell.
  pub cells-next : (xs ys : List (Slot K)) (c first place : ℕ) (packets : List Tree) (packet : Tree) → c < length capacities → length xs ≡ slot_count n capacities → first ≤ place → place - first < get_or capacities c 0 → slice_get packets (place - first) ≡ Some packet → ys ≡ set xs (cell n capacities c place) (slot.Cell (Some packet))
      → HasCells n capacities xs c first (take (place - first) packets) → HasCells n capacities ys c first (take (place + 1 - first) packets)
  cells-next xs ys c first place packets packet low deep high below there is cells i i_below =
      let new : Slot K = slot.Cell (Some packet) in
      let j : ℕ = place - first in
      let at : place ≡ first + j = omega (arith, high) in
      let more : suc j ≡ place + 1 - first = omega (arith, high) in
      ap (λ zs. get_elem? zs (cell n capacities c (first + i))) is
      ∙ dite (ℕ_discrete i j)
      (λ e. ap (λ z. get_elem? (set xs (cell n capacities c place) new) (cell n capacities c z)) (let same : first + i ≡ place = omega (arith, e, at) in same)
      ∙ set_here xs (cell n capacities c place) new (omega (arith, deep, own-within n capacities c (cell n capacities c place) low (place-own n capacities c place (omega (arith, below)))))
      ∙ ap (λ z. some (slot.Cell z)) (sym (ap (λ z. slice_get (take z packets) i) (sym more) ∙ ap (slice_get (take (suc j) packets)) e ∙ get-taken packets j packet there)))
      (λ other. set_else xs (cell n capacities c place) (cell n capacities c (first + i)) new (λ e. place-else n capacities c first i j i_below below other (e ∙ ap (cell n capacities c) at))
      ∙ cells i i_below
      ∙ ap (λ z. some (slot.Cell z)) (get-taken-else packets i j other ∙ ap (λ z. slice_get (take z packets) i) more))

  -- The cell of a packet changes, and those of the packets behind it stay.
  pub cells-left : (xs ys : List (Slot K)) (c first place : ℕ) (packets : List Tree) (new : Slot K) → first ≤ place → place - first < get_or capacities c 0 → ys ≡ set xs (cell n capacities c place) new
      → ((j : ℕ) → place ≤ first + j → j < get_or capacities c 0 → IsIn xs (cell n capacities c (first + j)) (slot.Cell (slice_get packets j))) → (j : ℕ) → place + 1 ≤ first + j → j < get_or capacities c 0 → IsIn ys (cell n capacities c (first + j)) (slot.Cell (slice_get packets j))
  cells-left xs ys c first place packets new low below is cells j high j_below =
      let at : place ≡ first + (place - first) = omega (arith, low) in
      ap (λ zs. get_elem? zs (cell n capacities c (first + j))) is
      ∙ set_else xs (cell n capacities c place) (cell n capacities c (first + j)) new (λ e. place-else n capacities c first j (place - first) j_below below (λ same. omega (arith, same, high, low)) (e ∙ ap (cell n capacities c) at))
      ∙ cells j (omega (arith, high)) j_below

  -- Only a cell of the connection changes.
  pub same-next : (xs ys zs : List (Slot K)) (c place : ℕ) (new : Slot K) → 0 < get_or capacities c 0 → zs ≡ set ys (cell n capacities c place) new → AreSameButCells n capacities c xs ys → AreSameButCells n capacities c xs zs
  same-next xs ys zs c place new some_cell is same x out =
      ap (λ us. get_elem? us x) is ∙ set_else ys (cell n capacities c place) x new (λ e. out (place % get_or capacities c 0) (mod_below place (get_or capacities c 0) some_cell) e) ∙ same x out

  -- A connection whose cells don't change lies as it did.
  pub packets-kept : (xs ys : List (Slot K)) (c d : ℕ) (k : ChannelShown) (packets : List Tree) → c < length capacities → d < length capacities → d ≢ c → AreSameButCells n capacities c xs ys → HasPackets n capacities xs d k packets → HasPackets n capacities ys d k packets
  packets-kept xs ys c d k packets c_low d_low other same has = record {
    puts = same (puts_slot n d) (λ i below e. puts-out n capacities c d i d_low e) ∙ has.puts;
    takes = same (takes_slot n (length capacities) d) (λ i below e. takes-out n capacities c d i d_low e) ∙ has.takes;
    cells = λ i i_below. same (cell n capacities d (k.takes + i)) (λ j j_below e. other (cells-apart capacities d c ((k.takes + i) % get_or capacities d 0) j (mod_below (k.takes + i) (get_or capacities d 0) (omega (arith, i_below))) j_below (omega (arith, e))).0) ∙ has.cells i i_below;
  }

  -- One whose cells changed has its numbers still.
  pub packets-laid : (xs ys : List (Slot K)) (c : ℕ) (k : ChannelShown) (old new : List Tree) → c < length capacities → AreSameButCells n capacities c xs ys → HasPackets n capacities xs c k old → HasCells n capacities ys c k.takes new → HasPackets n capacities ys c k new
  packets-laid xs ys c k old new low same has cells = record {
    puts = same (puts_slot n c) (λ i below e. puts-out n capacities c c i low e) ∙ has.puts;
    takes = same (takes_slot n (length capacities) c) (λ i below e. takes-out n capacities c c i low e) ∙ has.takes;
    cells = cells;
  }

  -- One connection more has its packets in its cells.
  pub laid-next : (channels : List ChannelShown) (xs ys : List (Slot K)) (c : ℕ) (x : ChannelShown) → length channels ≡ length capacities → slice_get channels c ≡ Some x → AreSameButCells n capacities c xs ys → HasCells n capacities ys c x.takes x.packets
      → AreLaid n capacities channels c xs → AreLaid n capacities channels (c + 1) ys
  laid-next channels xs ys c x long there same cells laid d k at =
      let c_low : c < length capacities = omega (arith, long, get-within channels c x there) in
      let d_low : d < length capacities = omega (arith, long, get-within channels d k at) in
      let kept = λ (packets : List Tree) (other : d ≢ c). packets-kept xs ys c d k packets c_low d_low other same in (
        λ low. dite (ℕ_discrete d c)
            (λ e. (let here : x ≡ k = some_Some x k (sym there ∙ ap (slice_get channels) (sym e) ∙ at) in
            let now : HasPackets n capacities ys c x x.packets = packets-laid xs ys c x [] x.packets c_low same ((laid c x there).1 (omega arith)) cells in
            here-as here e now))
            (λ other. kept k.packets other ((laid d k at).0 (omega (arith, low, other)))),
        λ high. kept [] (λ e. omega (arith, e, high)) ((laid d k at).1 (omega (arith, high))),
      )
    where
      here-as : {ys : List (Slot K)} {c d : ℕ} {x k : ChannelShown} → x ≡ k → d ≡ c → HasPackets n capacities ys c x x.packets → HasPackets n capacities ys d k k.packets
      here-as {ys} is e has = subst (λ (z : ℕ × ChannelShown). HasPackets n capacities ys z.0 z.1 z.1.packets) (λ i. (sym e i, is i)) has

  -- The bodies stay.
  pub bodies-kept : (xs ys : List (Slot K)) (c : ℕ) → AreSameButCells n capacities c xs ys → AreSameBelow n xs ys
  bodies-kept xs ys c same p low = same p (λ i below e. omega (arith, e, low))

  -- Slots that changed among the bodies alone have the connections still.
  pub laid-below : (channels : List ChannelShown) (xs ys : List (Slot K)) → AreSameFrom n xs ys → AreLaidFrom n capacities channels 0 xs → AreLaidFrom n capacities channels 0 ys
  laid-below channels xs ys same laid c k at high = let has = laid c k at high in record {
    puts = same (puts_slot n c) (omega arith) ∙ has.puts;
    takes = same (takes_slot n (length capacities) c) (omega arith) ∙ has.takes;
    cells = λ i below. same (cell n capacities c (k.takes + i)) (omega arith) ∙ has.cells i below;
  }

  -- Slots that have the bodies, the numbers of puts, those of takes, and empty cells.
  module _ (bodies : List (BodyValue K)) (channels : List ChannelShown) where
    abbrev cell_count : ℕ
    cell_count = cells_before capacities (length capacities)

    abbrev pub bare : List (Slot K)
    bare = map of_body bodies ++ (map of_puts channels ++ (map of_takes channels ++ replicate cell_count no_packet))

    pub bare-deep : length bodies ≡ n → length channels ≡ length capacities → length bare ≡ slot_count n capacities
    bare-deep count long =
        let bs : List (Slot K) = map of_body bodies in
        let ps : List (Slot K) = map of_puts channels in
        let ts : List (Slot K) = map of_takes channels in
        let cs : List (Slot K) = replicate cell_count no_packet in
        let parts = length-append bs (ps ++ (ts ++ cs)) in
        let numbers = length-append ps (ts ++ cs) in
        let behind = length-append ts cs in
        omega (arith, count, long, parts, numbers, behind, length-map bodies (of_body {K = K}), length-map channels (of_puts {K = K}), length-map channels (of_takes {K = K}), length-replicate cell_count (no_packet {K = K}))

    pub bare-bodies : (p : ℕ) (b : BodyValue K) → slice_get bodies p ≡ Some b → IsIn bare p (slot.Body b)
    bare-bodies p b at = at-front of_body bodies (map of_puts channels ++ (map of_takes channels ++ replicate cell_count no_packet)) p b at

    -- A slot behind those of the bodies and of the numbers.
    behind : length bodies ≡ n → length channels ≡ length capacities → (i : ℕ) → i < cell_count → IsIn bare (n + length capacities + length capacities + i) no_packet
    behind count long i low =
        let m : ℕ = length capacities in
        at-back of_body bodies (map of_puts channels ++ (map of_takes channels ++ replicate cell_count no_packet)) (m + m + i) (n + m + m + i) (omega (arith, count))
        ∙ at-back of_puts channels (map of_takes channels ++ replicate cell_count no_packet) (m + i) (m + m + i) (omega (arith, long))
        ∙ at-back of_takes channels (replicate cell_count no_packet) i (m + i) (omega (arith, long))
        ∙ at-each cell_count i no_packet low

    -- No connection has its packets there.
    pub bare-laid : length bodies ≡ n → length channels ≡ length capacities → AreLaid n capacities channels 0 bare
    bare-laid count long c k at = (
      λ low. absurd (omega (arith, low)),
      λ _. record {
        puts = at-back of_body bodies (map of_puts channels ++ (map of_takes channels ++ replicate cell_count no_packet)) c (puts_slot n c) (omega (arith, count)) ∙ at-front of_puts channels (map of_takes channels ++ replicate cell_count no_packet) c k at;
        takes = at-back of_body bodies (map of_puts channels ++ (map of_takes channels ++ replicate cell_count no_packet)) (length capacities + c) (takes_slot n (length capacities) c) (omega (arith, count))
            ∙ at-back of_puts channels (map of_takes channels ++ replicate cell_count no_packet) c (length capacities + c) (omega (arith, long))
            ∙ at-front of_takes channels (replicate cell_count no_packet) c k at;
        cells = λ i below. (let size = get_or capacities c 0 in let within = (k.takes + i) % size in
            behind count long (cells_before capacities c + within) (cells-within capacities c within (mod_below (k.takes + i) size (omega (arith, below)))));
      },
    )

-- The connections lie as they did, whoever tells how many bodies there are and what the capacities are.
pub laid-again : {K : Type 0} (n m : ℕ) (capacities sizes : List ℕ) (channels : List ChannelShown) (xs ys : List (Slot K)) → n ≡ m → capacities ≡ sizes → AreSameFrom n xs ys → ((c : ℕ) (k : ChannelShown) → slice_get channels c ≡ Some k → HasPackets m sizes xs c k k.packets)
    → AreLaidFrom n capacities channels 0 ys
laid-again {K} n m capacities sizes channels xs ys n_is is same laid = laid-below n capacities channels xs ys same
    (λ c k at high. subst (λ (z : ℕ × List ℕ). HasPackets z.0 z.1 xs c k k.packets) (λ j. (sym n_is j, sym is j)) (laid c k at))
