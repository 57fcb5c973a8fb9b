-- The words with which a floor begins.
use Rattle.std.proofs.Common.{◌≡◌, ◌≢◌, ℕ, zero, suc, ◌+◌, ◌<◌, ◌≤◌, ◌⊎◌, inl, inr, List, length, get_or, set, replicate, sym, refl, ap, ◌∙◌, arith, Some, slice_get, length-set, get_or-set_same, get_or-set_other}
use Rattle.flow_model.proofs.Lists.{same_or_not}
use Rattle.flow_model.specs.Stands.{ChannelShown}
use Rattle.flow_machine.specs.Values.{NetValue}
use Rattle.flow_machine.specs.Logs.{turns_made}
use Rattle.flow_ring.specs.Places.{spaced}
use Rattle.flow_ring.specs.Words.{free_word}
use Rattle.flow_floor.proofs.Lists.{some_Some, get-within}
use Rattle.flow_floor.specs.Ends.{capacities_of}
use Rattle.flow_ring.specs.Places.{level_rank, gate_rank, clock_rank, live_rank, word_count}
use Rattle.flow_floor.specs.Opening.{AreReady, AreSameBut, FirstWords, HaveLevels}

-- One word is written at its place, and the others stay.
placed-same : (ws : List ℕ) (r v : ℕ) → spaced r < length ws → get_or (set ws (spaced r) v) (spaced r) 0 ≡ v
placed-same ws r v below = get_or-set_same ws (spaced r) v 0 below

placed-else : (ws : List ℕ) (r q v : ℕ) → q ≢ r → get_or (set ws (spaced r) v) (spaced q) 0 ≡ get_or ws (spaced q) 0
placed-else ws r q v other = get_or-set_other ws (spaced r) (spaced q) v 0 (λ e. other (omega (arith, e)))

-- Each of many zeros is one.
pub zero-each : (m i : ℕ) → ◌≡◌ {A = ℕ} (get_or (replicate m 0) i 0) 0
zero-each zero i = refl
zero-each (suc m) zero = refl
zero-each (suc m) (suc i) = zero-each m i

-- One process more is ready.
pub ready-more : (ws vs : List ℕ) (i : ℕ) → vs ≡ set ws (spaced i) 2 → spaced i < length ws → AreReady i ws → AreReady (i + 1) vs
ready-more ws vs i is below ready p low = elim (same_or_not p i) [
  | inl same ↦ ap (λ (xs : List ℕ). get_or xs (spaced p) 0) is ∙ ap (λ (n : ℕ). get_or (set ws (spaced i) 2) (spaced n) 0) same ∙ placed-same ws i 2 below
  | inr other ↦ ap (λ (xs : List ℕ). get_or xs (spaced p) 0) is ∙ placed-else ws i p 2 other ∙ ready p (omega (arith, low, other))
]

-- One connection more has its level word.
pub levels-more : (n : ℕ) (channels : List ChannelShown) (ws vs : List ℕ) (i v : ℕ) (x : ChannelShown) → slice_get channels i ≡ Some x → v ≡ free_word (length x.packets) x.open_senders → vs ≡ set ws (spaced (level_rank n i)) v → spaced (level_rank n i) < length ws
    → HaveLevels n channels i ws → HaveLevels n channels (i + 1) vs
levels-more n channels ws vs i v x there word is below levels c k low at = elim (same_or_not c i) [
  | inl same ↦ (let e : x ≡ k = some_Some x k (sym there ∙ ap (slice_get channels) (sym same) ∙ at) in
      ap (λ (xs : List ℕ). get_or xs (spaced (level_rank n c)) 0) is ∙ ap (λ (m : ℕ). get_or (set ws (spaced (level_rank n i)) v) (spaced (level_rank n m)) 0) same
      ∙ placed-same ws (level_rank n i) v below ∙ word ∙ ap (λ (y : ChannelShown). free_word (length y.packets) y.open_senders) e)
  | inr other ↦ ap (λ (xs : List ℕ). get_or xs (spaced (level_rank n c)) 0) is ∙ placed-else ws (level_rank n i) (level_rank n c) v (λ e. other (omega (arith, e))) ∙ levels c k (omega (arith, low, other)) at
]

-- One more is written of the words that may change.
pub same-more : (from to r v : ℕ) (ws vs us : List ℕ) → from ≤ r → r < to → us ≡ set vs (spaced r) v → AreSameBut from to ws vs → AreSameBut from to ws us
same-more from to r v ws vs us low high is same q out = ap (λ (xs : List ℕ). get_or xs (spaced q) 0) is ∙ placed-else vs r q v (λ e. apart e out) ∙ same q out
  where
    apart : q ≡ r → (q < from) ⊎ (to ≤ q) → ⊥
    apart e (inl below) = omega (arith, e, below, low)
    apart e (inr above) = omega (arith, e, above, high)

-- The words with which a floor begins are those of its net: of words that are all 0 those of the processes are laid first, then the levels, the clock and
-- the live word.
pub first-words : {K : Type 0} (start : NetValue K) (n m t : ℕ) (zs ps ls ts ws : List ℕ) → n ≡ length start.bodies → m ≡ length (capacities_of start) → m ≡ length start.channels → t ≡ turns_made start
    → length zs ≡ word_count n m → ((i : ℕ) → get_or zs i 0 ≡ 0) → length ps ≡ length zs → AreReady n ps → AreSameBut 0 n zs ps → length ls ≡ length ps → HaveLevels n start.channels m ls → AreSameBut n (n + m) ps ls
    → ts ≡ set ls (spaced (clock_rank n m)) t → ws ≡ set ts (spaced (live_rank n m)) n → FirstWords start ws
first-words start n m t zs ps ls ts ws n_is m_is count t_is wide zeros long_ps ready same_ps long_ls levels same_ls ts_is ws_is =
    let long_ts : length ts ≡ word_count n m = ap (λ (xs : List ℕ). length xs) ts_is ∙ length-set ls (spaced (clock_rank n m)) t ∙ long_ls ∙ long_ps ∙ wide in
    let long : length ws ≡ word_count n m = ap (λ (xs : List ℕ). length xs) ws_is ∙ length-set ts (spaced (live_rank n m)) n ∙ long_ts in
    let old : (i : ℕ) → i < clock_rank n m → get_or ws (spaced i) 0 ≡ get_or ls (spaced i) 0 =
    (λ i below. ap (λ (xs : List ℕ). get_or xs (spaced i) 0) ws_is ∙ placed-else ts (live_rank n m) i n (λ e. omega (arith, e, below)) ∙ ap (λ (xs : List ℕ). get_or xs (spaced i) 0) ts_is ∙ placed-else ls (clock_rank n m) i t (λ e. omega (arith, e, below))) in
    let clock : get_or ws (spaced (clock_rank n m)) 0 ≡ t =
    ap (λ (xs : List ℕ). get_or xs (spaced (clock_rank n m)) 0) ws_is ∙ placed-else ts (live_rank n m) (clock_rank n m) n (λ e. omega (arith, e)) ∙ ap (λ (xs : List ℕ). get_or xs (spaced (clock_rank n m)) 0) ts_is ∙ placed-same ls (clock_rank n m) t (omega (arith, wide, long_ps, long_ls)) in
    let live : get_or ws (spaced (live_rank n m)) 0 ≡ n = ap (λ (xs : List ℕ). get_or xs (spaced (live_rank n m)) 0) ws_is ∙ placed-same ts (live_rank n m) n (omega (arith, long_ts)) in
    record {
      wide = long ∙ (λ j. word_count (n_is j) (m_is j));
      ready = λ p below. (let b : p < n = omega (arith, below, n_is) in old p (omega (arith, b)) ∙ same_ls p (inl b) ∙ ready p b);
      levels = λ c k at. (let b : c < m = omega (arith, get-within start.channels c k at, count) in ap (λ (i : ℕ). get_or ws (spaced (level_rank i c)) 0) (sym n_is) ∙ old (level_rank n c) (omega (arith, b)) ∙ levels c k b at);
      gates = λ c below. (let b : c < m = omega (arith, below, m_is) in (λ j. get_or ws (spaced (gate_rank (sym n_is j) (sym m_is j) c)) 0) ∙ old (gate_rank n m c) (omega (arith, b)) ∙ same_ls (gate_rank n m c) (inr (omega arith)) ∙ same_ps (gate_rank n m c) (inr (omega arith)) ∙ zeros (spaced (gate_rank n m c)));
      clock = (λ j. get_or ws (spaced (clock_rank (sym n_is j) (sym m_is j))) 0) ∙ clock ∙ t_is;
      live = (λ j. get_or ws (spaced (live_rank (sym n_is j) (sym m_is j))) 0) ∙ live ∙ n_is;
    }
