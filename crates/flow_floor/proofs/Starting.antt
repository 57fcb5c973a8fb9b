-- What a floor begins with obeys its rule.
use Rattle.std.proofs.Common.{◌≡◌, ℕ, zero, suc, ◌*◌, ◌<◌, ◌≤◌, List, [], ◌∷◌, All, length, map, get_or, sym, refl, ap, ◌∙◌, subst, arith, Some, slice_get}
use Rattle.std.proofs.lemmas.List.{length-map}
use Rattle.std.proofs.lemmas.List.Elements.{All-nil, All-cons}
use Rattle.std.proofs.lemmas.List.Sums.{count_by-le-length}
use Rattle.flow_limits.specs.declared.TheConstants.{CONNECTION_LIMIT}
use Rattle.flow_component.specs.Laws.{Rules}
use Rattle.flow_plan.specs.declared.plan.Connection.{Connection}
use Rattle.flow_plan.specs.declared.plan.Sender.{Sender}
use Rattle.flow_model.specs.Stands.{ChannelShown}
use Rattle.flow_machine.specs.Values.{BodyValue, NetValue, net_of}
use Rattle.flow_machine.specs.Joins.{Joins, is_so_at, leaves_open, processes_of}
use Rattle.flow_machine.proofs.Standings.{get-map}
use Rattle.flow_floor.proofs.Lists.{some_Some, get-exists, get-within}
use Rattle.flow_ring.specs.Spaced.{ranked}
use Rattle.flow_ring.proofs.Spaced.{ranked-at, ranked-length}
use Rattle.flow_ring.specs.Places.{level_rank, gate_rank, clock_rank, live_rank, rank_count, cells_before}
use Rattle.flow_floor.specs.declared.board.Slot.{Slot}
use Rattle.flow_floor.specs.Ends.{capacities_of}
use Rattle.flow_floor.specs.Opening.{AreSound, FirstSlots, FirstWords}
use Rattle.flow_floor.proofs.Begins.{Begins}

-- A net's connections are those of its plan, which are few and take few packets; and what is in them was put and not taken.
pub sound-of : {K : Type 0} (rules : Rules K) (net : NetValue K) → Joins rules net → (length net.channels ≤ CONNECTION_LIMIT) × AreSound net.channels
sound-of {K} rules net joins =
    let long : length net.channels ≡ length net.connections = sym (length-map net.channels (λ (k : ChannelShown). k.capacity)) ∙ ap (λ (xs : List ℕ). length xs) joins.planned.channels ∙ length-map net.connections (λ (x : Connection). x.capacity) in (
      omega (arith, long, joins.planned.few_connections),
      λ c k there. (let x = get-exists net.connections c (omega (arith, get-within net.channels c k there, long)) in
          let of = joins.channels c x.0 k x.1 there in
          let most = count_by-le-length (λ (s : Sender). is_so_at leaves_open s.output (slice_get (processes_of net.bodies) s.process)) x.0.senders in
          let few = joins.planned.few_senders c x.0 x.1 in
          let size = joins.planned.capacity c x.0 x.1 in
          let same : k.capacity ≡ x.0.capacity =
          some_Some k.capacity x.0.capacity (sym (get-map (λ (z : ChannelShown). z.capacity) net.channels c k there) ∙ ap (λ (zs : List ℕ). slice_get zs c) joins.planned.channels ∙ get-map (λ (z : Connection). z.capacity) net.connections c x.0 x.1) in
          record {
            some_room = omega (arith, same, size.0);
            most = omega (arith, same, size.1);
            level = of.within;
            few = omega (arith, of.most_open, most, few);
            numbers = omega (arith, of.takes);
          }),
    )

-- Each connection has some cell.
pub some-rooms : (channels : List ChannelShown) → AreSound channels → All (λ (x : ℕ). 0 < x) (map (λ (k : ChannelShown). k.capacity) channels)
some-rooms [] sound = All-nil (λ (x : ℕ). 0 < x)
some-rooms (k ∷ ks) sound = All-cons (λ (x : ℕ). 0 < x) k.capacity (map (λ (y : ChannelShown). y.capacity) ks) ((sound 0 k refl).some_room) (some-rooms ks (λ c x at. sound (suc c) x at))

-- All connections together have few.
pub few-cells : (channels : List ChannelShown) → AreSound channels → cells_before (map (λ (k : ChannelShown). k.capacity) channels) (length (map (λ (k : ChannelShown). k.capacity) channels)) ≤ 4096 * length channels
few-cells [] sound = omega arith
few-cells (k ∷ ks) sound = let rest = few-cells ks (λ c x at. sound (suc c) x at) in let most = (sound 0 k refl).most in omega (arith, rest, most)

-- A connection's number of cells is its channel's capacity.
pub size-at : (channels : List ChannelShown) (c : ℕ) (k : ChannelShown) → slice_get channels c ≡ Some k → k.capacity ≡ get_or (map (λ (x : ChannelShown). x.capacity) channels) c 0
size-at [] c k is = absurd (cc)
size-at (x ∷ xs) zero k is = ap (λ (y : ChannelShown). y.capacity) (sym (some_Some x k is))
size-at (x ∷ xs) (suc c) k is = size-at xs c k is

-- The slots of a net's own bodies and channels are the net's.
pub slots-of : {K : Type 0} (net : NetValue K) (bodies : List (BodyValue K)) (channels : List ChannelShown) (xs : List (Slot K)) → bodies ≡ net.bodies → channels ≡ net.channels → FirstSlots (net_of bodies channels) xs → FirstSlots net xs
slots-of {K} net bodies channels xs bodies_is channels_is laid =
    let same : FirstSlots (net_of net.bodies net.channels) xs = subst (λ (z : List (BodyValue K) × List ChannelShown). FirstSlots (net_of z.0 z.1) xs) (λ j. (bodies_is j, channels_is j)) laid in
    record { deep = same.deep; bodies = same.bodies; connections = same.connections }

-- A floor that begins with these words and slots obeys the rule.
pub begins : {K : Type 0} (rules : Rules K) (start : NetValue K) (ws : List ℕ) (xs : List (Slot K)) → FirstWords start ws → AreSound start.channels → FirstSlots start xs → Begins rules start (ranked ws) xs
begins rules start ws xs w sound s = record {
  wide = ranked-length ws (rank_count (length start.bodies) (length (capacities_of start))) w.wide;
  deep = s.deep;
  bodies = λ p b at. (ranked-at ws p ∙ w.ready p (get-within start.bodies p b at), s.bodies p b at);
  connections = λ c k at. (let here = s.connections c k at in let is = sound c k at in record {
    level = ranked-at ws (level_rank (length start.bodies) c) ∙ w.levels c k at;
    gate = ranked-at ws (gate_rank (length start.bodies) (length (capacities_of start)) c) ∙ w.gates c (omega (arith, get-within start.channels c k at, length-map start.channels (λ (x : ChannelShown). x.capacity)));
    low = (is.level, omega (arith, is.most));
    few = is.few;
    numbers = is.numbers;
    puts = here.puts;
    takes = here.takes;
    cells = λ i below. here.cells i (omega (arith, below, size-at start.channels c k at));
  });
  clock = ranked-at ws (clock_rank (length start.bodies) (length (capacities_of start))) ∙ w.clock;
  live = ranked-at ws (live_rank (length start.bodies) (length (capacities_of start))) ∙ w.live;
}
