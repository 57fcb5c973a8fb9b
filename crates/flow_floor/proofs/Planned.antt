-- What the floor's plan says of a connection.
use Rattle.std.proofs.Common.{◌≡◌, ℕ, ◌<◌, ◌∙◌, List, [], ◌∷◌, All, Contains, Some, length, get_or, slice_get, sym, ap, subst}
use Rattle.std.proofs.lemmas.List.{length-map}
use Rattle.std.proofs.lemmas.Option.{slice_get_read}
use Rattle.flow_plan.specs.declared.plan.Connection.{Connection}
use Rattle.flow_plan.specs.declared.plan.Sender.{Sender}
use Rattle.flow_model.specs.Stands.{ChannelShown}
use Rattle.flow_floor.specs.Plans.{receiver_at, senders_at}
use Rattle.flow_floor.proofs.Numbers.{contains-here}
use Rattle.flow_floor.proofs.Plans.{connection-count, receiver-below, receiver-is, receiver_at-is, senders-below, senders_at-is, sends-there}
use Rattle.flow_floor.specs.declared.floor.Floor.{Floor}
use Rattle.flow_floor.specs.Ends.{AllReceivers, AllSenders}
use Rattle.flow_floor.specs.Floors.{connection_count, opened_net, process_count}

module _ {K : Type 0} (f : Floor K) where
  -- there are as many connections as the plan has
  pub connections-planned : connection_count f ≡ length f.plan.items
  connections-planned =
      let start = f.table.shared.key.value in
      sym f.channels ∙ length-map start.channels (λ (k : ChannelShown). k.capacity) ∙ sym (connection-count start f.wired) ∙ ap (λ (xs : List Connection). length xs) (sym f.planned)

  -- A connection of the floor is one of the plan.
  pub connection-there : (c : ℕ) → c < connection_count f → c < length f.plan.items
  connection-there c below = subst (λ (n : ℕ). c < n) connections-planned below

  -- The net that was opened has it.
  pub channel-there : (c : ℕ) → c < connection_count f → c < length (opened_net f).channels
  channel-there c below = subst (λ (n : ℕ). c < n) (sym f.channels ∙ length-map (opened_net f).channels (λ (k : ChannelShown). k.capacity)) below

  -- What was read of the plan at a connection is what it says.
  pub connection-at : (c : ℕ) (x : Connection) → c < connection_count f → x ≡ get_or f.plan.items c x → slice_get f.plan.items c ≡ Some x
  connection-at c x below read = slice_get_read f.plan.items (connection_count f) c x connections-planned below read

  pub connection-read : (c : ℕ) (x : Connection) → c < connection_count f → x ≡ get_or f.plan.items c x → slice_get (opened_net f).connections c ≡ Some x
  connection-read c x below read = ap (λ (xs : List Connection). slice_get xs c) (sym f.planned) ∙ connection-at c x below read

  -- The process that receives there is noted.
  pub receivers-noted : (c : ℕ) (x : Connection) → slice_get f.plan.items c ≡ Some x → AllReceivers (opened_net f) c (receiver_at f.plan.items c)
  receivers-noted c x at q b there input =
      let start = f.table.shared.key.value in
      let read = ap (λ (xs : List Connection). slice_get xs c) (sym f.planned) ∙ at in
      subst (λ (ps : List ℕ). Contains ps q) (sym (receiver_at-is f.plan.items c x at ∙ ap (λ (p : ℕ). p ∷ []) (receiver-is start f.wired q c b x read there input))) (contains-here q [])

  -- Those that send there are.
  pub senders-noted : (c : ℕ) (x : Connection) → slice_get f.plan.items c ≡ Some x → AllSenders (opened_net f) c (senders_at f.plan.items c)
  senders-noted c x at q b there output =
      let start = f.table.shared.key.value in
      let read = ap (λ (xs : List Connection). slice_get xs c) (sym f.planned) ∙ at in
      subst (λ (ps : List ℕ). Contains ps q) (sym (senders_at-is f.plan.items c x at)) (sends-there start f.wired q c b x read there output)

  -- The process that receives there is the floor's.
  pub receiver-low : (c : ℕ) (x : Connection) → slice_get f.plan.items c ≡ Some x → x.receiver < process_count f
  receiver-low c x at =
      let read = ap (λ (xs : List Connection). slice_get xs c) (sym f.planned) ∙ at in
      subst (λ (n : ℕ). x.receiver < n) f.bodies (receiver-below f.table.shared.key.value f.wired c x read)

  -- So are those that send there.
  pub senders-low : (c : ℕ) (x : Connection) → slice_get f.plan.items c ≡ Some x → All (λ (s : Sender). s.process < process_count f) x.senders
  senders-low c x at =
      let read = ap (λ (xs : List Connection). slice_get xs c) (sym f.planned) ∙ at in
      subst (λ (n : ℕ). All (λ (s : Sender). s.process < n) x.senders) f.bodies (senders-below f.table.shared.key.value f.wired c x read)
