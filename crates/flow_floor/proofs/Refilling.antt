-- How connections get back what lies on a floor that is closed.
use Rattle.std.proofs.Common.{◌≡◌, ◌≢◌, ℕ, zero, suc, ◌+◌, ◌-◌, ◌*◌, ◌/◌, ◌%◌, ◌<◌, ◌≤◌, Bool, true, false, List, [], ◌∷◌, ◌++◌, length, map, All, take, get_or, set, get_or-set_same, get_or-set_other, sym, refl, ap, ◌∙◌, subst, arith, Option, Some, None, slice_get, append-nil, length-set, length-append}
use Rattle.std.proofs.lemmas.Nat.{div-add-mod', mod-mul-add, mod_below}
use mathlib.Core.Logic.{dite}
use native.Mathlib.Decide.{ℕ_discrete, dec_lt}
use Rattle.flow_packet.specs.Tree.{Tree}
use Rattle.flow_model.specs.Stands.{ChannelShown}
use Rattle.flow_ring.specs.Places.{Slot as Place, body, puts, takes, cell, IsSlot, puts_slot, takes_slot, cell_slot, place_slot, slot_at, slot_count, cells_before}
use Rattle.flow_floor.specs.declared.board.Slot.{Slot}
use Rattle.flow_floor.specs.Shut.{packet_list, with_found, RestsAs, AreEmpty, HasItsCells, IsFullAt, IsGoneAt, TakesCells, IsFrom, AreLeft}
use Rattle.flow_ring.proofs.Rounds.{cells-apart, slots-within}
use Rattle.flow_floor.proofs.Cells.{place-else}

-- Of no packets one takes none.
take-none : (n : ℕ) → take {A = Tree} n [] ≡ []
take-none zero = refl
take-none (suc n) = refl

-- One packet more of a list: the one that stands there, if one does.
take-next : (xs : List Tree) (i : ℕ) → take (suc i) xs ≡ take i xs ++ packet_list (slice_get xs i)
take-next [] i = ap (λ (ys : List Tree). ys ++ []) (sym (take-none i))
take-next (x ∷ xs) zero = refl
take-next (x ∷ xs) (suc i) = ap (λ (ys : List Tree). x ∷ ys) (take-next xs i)

pub take-more : (xs : List Tree) (i : ℕ) → take (i + 1) xs ≡ take i xs ++ packet_list (slice_get xs i)
take-more xs i = ap (λ (n : ℕ). take n xs) (let e : i + 1 ≡ suc i = omega arith in e) ∙ take-next xs i

-- A list of one packet at most.
pub list-few : (found : Option Tree) → length (packet_list found) ≤ 1
list-few None = omega arith
list-few (Some packet) = omega arith

-- Where nothing is found the channel stays as it is.
pub found-none : (k : ChannelShown) → k ≡ with_found k None
found-none k = λ i. record k { packets = sym (append-nil k.packets) i; puts = (let e : k.puts ≡ k.puts + 0 = omega arith in e) i }

-- Going round from any place one comes to each remainder.
pub mod-hit : (m t j : ℕ) → j < m → (i : ℕ) × (i < m) × ((t + i) % m ≡ j)
mod-hit m t j low = dite (dec_lt j (t % m))
    (λ before. (
      j + m - t % m,
      omega (arith, before, rest),
      ap (λ (x : ℕ). x % m) (let e : t + (j + m - t % m) ≡ suc (t / m) * m + j = omega (arith, whole, more, rest) in e) ∙ mod-mul-add (suc (t / m)) m j low,
    ))
    (λ behind. (
      j - t % m,
      omega (arith, behind, low),
      ap (λ (x : ℕ). x % m) (let e : t + (j - t % m) ≡ (t / m) * m + j = omega (arith, whole, behind) in e) ∙ mod-mul-add (t / m) m j low,
    ))
  where
    whole : (t / m) * m + t % m ≡ t
    whole = div-add-mod' t m

    rest : t % m < m
    rest = mod_below t m (omega (arith, low))

    more : suc (t / m) * m ≡ (t / m) * m + m
    more = omega arith

module _ (n : ℕ) (capacities : List ℕ) where
  -- From the oldest packet's on i cells of connection c were taken out, and nothing else: `old` says which slots were full, `new` which are.
  pub record Taking (c oldest i : ℕ) (old new : List Bool) : Type 0 where
    pub gone : (j : ℕ) → j < i → IsGoneAt new (place_slot n capacities c (oldest + j))
    pub left : (j : ℕ) → i ≤ j → j < get_or capacities c 0 → IsFullAt new (place_slot n capacities c (oldest + j))
    pub others : (x : ℕ) → ((j : ℕ) → j < get_or capacities c 0 → x ≢ cell_slot n capacities c j) → get_or new x false ≡ get_or old x false

  pub taking-none : (c oldest : ℕ) (old : List Bool) → HasItsCells n capacities c old → Taking c oldest 0 old old
  taking-none c oldest old has = record {
    gone = λ j low. absurd (omega (arith, low));
    left = λ j high low. has ((oldest + j) % get_or capacities c 0) (mod_below (oldest + j) (get_or capacities c 0) (omega (arith, low)));
    others = λ x other. refl;
  }

  pub taking-more : (c oldest i : ℕ) (old new : List Bool) → i < get_or capacities c 0 → place_slot n capacities c (oldest + i) < length new → Taking c oldest i old new → Taking c oldest (i + 1) old (set new (place_slot n capacities c (oldest + i)) false)
  taking-more c oldest i old new low inside t =
      let here = place_slot n capacities c (oldest + i) in
      record {
        gone = λ j below. dite (ℕ_discrete j i)
            (λ e. ap (λ (k : ℕ). get_or (set new here false) (place_slot n capacities c (oldest + k)) false) e ∙ get_or-set_same new here false false inside)
            (λ other. get_or-set_other new here (place_slot n capacities c (oldest + j)) false false (place-else n capacities c oldest j i (omega (arith, below, other, low)) low other) ∙ t.gone j (omega (arith, below, other)));
        left = λ j high below. get_or-set_other new here (place_slot n capacities c (oldest + j)) false false (place-else n capacities c oldest j i below low (λ e. omega (arith, e, high))) ∙ t.left j (omega (arith, high)) below;
        others = λ x other. get_or-set_other new here x false false (other ((oldest + i) % get_or capacities c 0) (mod_below (oldest + i) (get_or capacities c 0) (omega (arith, low)))) ∙ t.others x other;
      }

  pub taking-all : (c oldest i : ℕ) (old new : List Bool) → get_or capacities c 0 ≤ i → Taking c oldest i old new → TakesCells n capacities c old new
  taking-all c oldest i old new all t = record {
    gone = λ j low. (let h = mod-hit (get_or capacities c 0) oldest j low in subst (λ (k : ℕ). IsGoneAt new (cell_slot n capacities c k)) h.2 (t.gone h.0 (omega (arith, h.1, all))));
    others = t.others;
  }

  -- No slot of a connection is a body's, and different things have different slots.
  puts-cell : (c d j : ℕ) → d < length capacities → puts_slot n d ≢ cell_slot n capacities c j
  puts-cell c d j low e = omega (arith, e, low)

  takes-cell : (c d j : ℕ) → d < length capacities → takes_slot n (length capacities) d ≢ cell_slot n capacities c j
  takes-cell c d j low e = omega (arith, e, low)

  -- Where the numbers of connection c were taken out of their slots, its cells are left.
  pub cells-left : (c : ℕ) (old : List Bool) → c < length capacities → AreLeft n capacities c old → HasItsCells n capacities c (set (set old (puts_slot n c) false) (takes_slot n (length capacities) c) false)
  cells-left c old below left i low =
      let x = cell_slot n capacities c i in
      get_or-set_other (set old (puts_slot n c) false) (takes_slot n (length capacities) c) x false false (λ e. takes-cell c c i below (sym e)) ∙ get_or-set_other old (puts_slot n c) x false false (λ e. puts-cell c c i below (sym e)) ∙ left.full (cell c i) (below, low) (omega arith)

  -- Then all that is left is what lies at the connections behind it.
  pub left-next : (c : ℕ) (old new : List Bool) → c < length capacities → puts_slot n c < length old → takes_slot n (length capacities) c < length old → AreLeft n capacities c old
      → TakesCells n capacities c (set (set old (puts_slot n c) false) (takes_slot n (length capacities) c) false) new → AreLeft n capacities (c + 1) new
  left-next c old new below puts_in takes_in left t = record { full = full; gone = gone }
    where
      ps : ℕ
      ps = puts_slot n c

      ts : ℕ
      ts = takes_slot n (length capacities) c

      mid : List Bool
      mid = set (set old ps false) ts false

      -- what isn't one of its slots is as full as it was
      else-same : (x : ℕ) → x ≢ ps → x ≢ ts → ((j : ℕ) → j < get_or capacities c 0 → x ≢ cell_slot n capacities c j) → get_or new x false ≡ get_or old x false
      else-same x no_puts no_takes no_cell = t.others x no_cell ∙ get_or-set_other (set old ps false) ts x false false no_takes ∙ get_or-set_other old ps x false false no_puts

      same-body : (p : ℕ) → p < n → get_or new p false ≡ get_or old p false
      same-body p low = else-same p (λ e. omega (arith, e, low)) (λ e. omega (arith, e, low)) (λ j _ e. omega (arith, e, low))

      same-puts : (d : ℕ) → d < length capacities → d ≢ c → get_or new (puts_slot n d) false ≡ get_or old (puts_slot n d) false
      same-puts d low other = else-same (puts_slot n d) (λ e. other (omega (arith, e))) (λ e. omega (arith, e, low)) (λ j _. puts-cell c d j low)

      same-takes : (d : ℕ) → d < length capacities → d ≢ c → get_or new (takes_slot n (length capacities) d) false ≡ get_or old (takes_slot n (length capacities) d) false
      same-takes d low other = else-same (takes_slot n (length capacities) d) (λ e. omega (arith, e, below)) (λ e. other (omega (arith, e))) (λ j _. takes-cell c d j low)

      same-cell : (d i : ℕ) → d < length capacities → i < get_or capacities d 0 → d ≢ c → get_or new (cell_slot n capacities d i) false ≡ get_or old (cell_slot n capacities d i) false
      same-cell d i low inside other = else-same (cell_slot n capacities d i) (λ e. puts-cell d c i below (sym e)) (λ e. takes-cell d c i below (sym e)) (λ j high e. other (cells-apart capacities d c i j inside high (omega (arith, e))).0)

      full : (a : Place) → IsSlot n capacities a → IsFrom (c + 1) a → IsFullAt new (slot_at n capacities a)
      full (body p) is from = absurd from
      full (puts d) is from = same-puts d is (λ e. omega (arith, e, from)) ∙ left.full (puts d) is (omega (arith, from))
      full (takes d) is from = same-takes d is (λ e. omega (arith, e, from)) ∙ left.full (takes d) is (omega (arith, from))
      full (cell d i) is from = same-cell d i is.0 is.1 (λ e. omega (arith, e, from)) ∙ left.full (cell d i) is (omega (arith, from))

      gone : (a : Place) → IsSlot n capacities a → (IsFrom (c + 1) a → ⊥) → IsGoneAt new (slot_at n capacities a)
      gone (body p) is away = same-body p is ∙ left.gone (body p) is away
      gone (puts d) is away = dite (ℕ_discrete d c)
          (λ e. t.others (puts_slot n d) (λ j _. puts-cell c d j is) ∙ get_or-set_other (set old ps false) ts (puts_slot n d) false false (λ f. omega (arith, f, is)) ∙ ap (λ (x : ℕ). get_or (set old ps false) (puts_slot n x) false) e ∙ get_or-set_same old ps false false puts_in)
          (λ other. same-puts d is other ∙ left.gone (puts d) is (λ from. away (omega (arith, from, other))))
      gone (takes d) is away = dite (ℕ_discrete d c)
          (λ e. t.others (takes_slot n (length capacities) d) (λ j _. takes-cell c d j is) ∙ ap (λ (x : ℕ). get_or mid (takes_slot n (length capacities) x) false) e ∙ get_or-set_same (set old ps false) ts false false (omega (arith, takes_in, long)))
          (λ other. same-takes d is other ∙ left.gone (takes d) is (λ from. away (omega (arith, from, other))))
        where
          long : length (set old ps false) ≡ length old
          long = length-set old ps false
      gone (cell d i) is away = dite (ℕ_discrete d c)
          (λ e. ap (λ (x : ℕ). get_or new (cell_slot n capacities x i) false) e ∙ t.gone i (subst (λ (x : ℕ). i < get_or capacities x 0) e is.1))
          (λ other. same-cell d i is.0 is.1 other ∙ left.gone (cell d i) is (λ from. away (omega (arith, from, other))))

  -- Where the bodies were taken out and nothing else, all is left that lies at connections.
  pub left-first : (filled : List Bool) → ((k : ℕ) → k < n → get_or filled k false ≡ false) → ((k : ℕ) → n ≤ k → k < slot_count n capacities → get_or filled k false ≡ true) → AreLeft n capacities 0 filled
  left-first filled none some_left = record { full = full; gone = gone }
    where
      full : (a : Place) → IsSlot n capacities a → IsFrom 0 a → IsFullAt filled (slot_at n capacities a)
      full (body p) is from = absurd from
      full (puts d) is from = some_left (puts_slot n d) (omega arith) (slots-within n capacities (puts d) is)
      full (takes d) is from = some_left (takes_slot n (length capacities) d) (omega arith) (slots-within n capacities (takes d) is)
      full (cell d i) is from = some_left (cell_slot n capacities d i) (omega arith) (slots-within n capacities (cell d i) is)

      gone : (a : Place) → IsSlot n capacities a → (IsFrom 0 a → ⊥) → IsGoneAt filled (slot_at n capacities a)
      gone (body p) is away = none p is
      gone (puts d) is away = absurd (away (omega arith))
      gone (takes d) is away = absurd (away (omega arith))
      gone (cell d i) is away = absurd (away (omega arith))

-- Each number below that of all cells is one connection's cell.
pub cell-found : (capacities : List ℕ) (x : ℕ) → x < cells_before capacities (length capacities) → (c : ℕ) × (i : ℕ) × (c < length capacities) × (i < get_or capacities c 0) × (x ≡ cells_before capacities c + i)
cell-found [] x low = absurd (omega (arith, low))
cell-found (m ∷ ms) x low = dite (dec_lt x m)
    (λ first. (0, x, omega arith, first, omega arith))
    (λ later. (let r = cell-found ms (x - m) (omega (arith, low, later)) in (suc r.0, r.1, omega (arith, r.2), r.3, omega (arith, r.4, later))))

module _ (n : ℕ) (capacities : List ℕ) where
  -- Each slot is some thing's.
  pub slot-found : (x : ℕ) → x < slot_count n capacities → (a : Place) × IsSlot n capacities a × (slot_at n capacities a ≡ x)
  slot-found x low = dite (dec_lt x n)
      (λ first. (body x, first, refl))
      (λ later. dite (dec_lt x (n + length capacities))
      (λ first. (puts (x - n), omega (arith, first, later), omega (arith, later)))
      (λ second. dite (dec_lt x (n + length capacities + length capacities))
      (λ first. (takes (x - n - length capacities), omega (arith, first, second), omega (arith, second)))
      (λ third. (let r = cell-found capacities (x - n - length capacities - length capacities) (omega (arith, low, third)) in (cell r.0 r.1, (r.2, r.3), omega (arith, r.4, third))))))

  -- Where nothing is left behind the last connection, nothing is left.
  pub none-left : (filled : List Bool) → AreLeft n capacities (length capacities) filled → (k : ℕ) → k < slot_count n capacities → get_or filled k false ≡ false
  none-left filled left k low = let a = slot-found k low in ap (λ (x : ℕ). get_or filled x false) (sym a.2) ∙ left.gone a.0 a.1 (away a.0 a.1)
    where
      away : (a : Place) → IsSlot n capacities a → IsFrom (length capacities) a → ⊥
      away (body p) is from = from
      away (puts c) is from = omega (arith, is, from)
      away (takes c) is from = omega (arith, is, from)
      away (cell c i) is from = omega (arith, is.0, from)

-- A channel that has been given packets, and nothing else, is given what was found.
pub kept-more : (first k new : ChannelShown) (found : Option Tree) → k ≡ record first { packets = k.packets; puts = first.takes + length k.packets } → new ≡ with_found k found → new ≡ record first { packets = new.packets; puts = first.takes + length new.packets }
kept-more first k new found kept is =
    let capacity : new.capacity ≡ first.capacity = ap (λ (x : ChannelShown). x.capacity) is ∙ ap (λ (x : ChannelShown). x.capacity) kept in
    let senders : new.open_senders ≡ first.open_senders = ap (λ (x : ChannelShown). x.open_senders) is ∙ ap (λ (x : ChannelShown). x.open_senders) kept in
    let taken : new.takes ≡ first.takes = ap (λ (x : ChannelShown). x.takes) is ∙ ap (λ (x : ChannelShown). x.takes) kept in
    let put : new.puts ≡ first.takes + length new.packets = omega (arith, ap (λ (x : ChannelShown). x.puts) is, ap (λ (x : ChannelShown). x.puts) kept, ap (λ (x : ChannelShown). length x.packets) is, length-append k.packets (packet_list found)) in
    λ i. record { packets = new.packets; capacity = capacity i; open_senders = senders i; puts = put i; takes = taken i }

-- A connection that got back its open senders, its takes and its packets is the one that lies there.
pub refilled : {K : Type 0} (n : ℕ) (capacities ws : List ℕ) (xs : List (Slot K)) (c opened taken : ℕ) (old mid new k : ChannelShown) → RestsAs n capacities ws xs c k → old.capacity ≡ get_or capacities c 0 → opened ≡ k.open_senders → taken ≡ k.takes
    → mid ≡ record old { open_senders = opened; puts = taken; takes = taken } → new ≡ record mid { packets = k.packets; puts = mid.takes + length k.packets } → new ≡ k
refilled n capacities ws xs c opened taken old mid new k rests size sends took is is' =
    let capacity : mid.capacity ≡ k.capacity = ap (λ (x : ChannelShown). x.capacity) is ∙ size ∙ sym rests.size in
    let senders : mid.open_senders ≡ k.open_senders = ap (λ (x : ChannelShown). x.open_senders) is ∙ sends in
    let same : mid.takes ≡ k.takes = ap (λ (x : ChannelShown). x.takes) is ∙ took in
    let put : mid.takes + length k.packets ≡ k.puts = omega (arith, same, rests.numbers) in
    is' ∙ (λ i. record { packets = k.packets; capacity = capacity i; open_senders = senders i; puts = put i; takes = same i })

-- A connection lies so wherever words, slots and its number are the same.
pub rests-same : {K : Type 0} (n : ℕ) (capacities ws ws' : List ℕ) (xs xs' : List (Slot K)) (c d : ℕ) (k : ChannelShown) → ws ≡ ws' → xs ≡ xs' → c ≡ d → RestsAs n capacities ws xs c k → RestsAs n capacities ws' xs' d k
rests-same {K} n capacities ws ws' xs xs' c d k words slots number = subst (λ (z : List ℕ × (List (Slot K) × ℕ)). RestsAs n capacities z.0 z.1.0 z.1.1 k) (λ j. (words j, (slots j, number j)))

-- Of empty channels each has its capacity, and nothing in it.
pub empty-there : (capacities : List ℕ) (channels : List ChannelShown) → AreEmpty capacities channels → (c : ℕ) (k : ChannelShown) → slice_get channels c ≡ Some k → (k.packets ≡ []) × (k.capacity ≡ get_or capacities c 0)
empty-there capacities channels empty c k is = (none channels c empty.empty is, size channels c is ∙ ap (λ (ns : List ℕ). get_or ns c 0) empty.sizes)
  where
    none : (ks : List ChannelShown) (c : ℕ) → All (λ (x : ChannelShown). x.packets ≡ []) ks → slice_get ks c ≡ Some k → k.packets ≡ []
    none [] c all is = absurd (cc)
    none (x ∷ xs) zero all is = subst (λ (y : ChannelShown). y.packets ≡ []) (let e : x ≡ k = cc in e) (all zero x (omega arith))
    none (x ∷ xs) (suc c) all is = none xs c (λ i d low. all (suc i) d (omega (arith, low))) is

    size : (ks : List ChannelShown) (c : ℕ) → slice_get ks c ≡ Some k → k.capacity ≡ get_or (map (λ (x : ChannelShown). x.capacity) ks) c 0
    size [] c is = absurd (cc)
    size (x ∷ xs) zero is = ap (λ (y : ChannelShown). y.capacity) (let e : k ≡ x = cc in e)
    size (x ∷ xs) (suc c) is = size xs c is
