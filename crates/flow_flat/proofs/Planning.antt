-- The plan of a draft is the plan of the text that it agrees with.
use Rattle.std.proofs.Common.{◌≡◌, ℕ, ◌+◌, ◌-◌, Bool, true, false, List, [], ◌∷◌, map, take, suc, Option, Some, None, refl, ap, sym, ◌∙◌, slice_get, arith}
use Rattle.std.specs.Prelude.{◌==◌, ◌&&◌, not, if◌then◌else◌, unwrap_or}
use Rattle.std.specs.List.{filter, filter_map, cons_option, sum_by}
use Rattle.std.specs.Option.{option_map, option_map_or}
use Rattle.std.proofs.lemmas.Option.{slice_get-map}
use Rattle.std.proofs.lemmas.List.{take-map}
use Rattle.flow_net.specs.declared.draft.End.{End}
use Rattle.flow_net.specs.declared.draft.DraftProcess.{DraftProcess}
use Rattle.flow_net.specs.declared.draft.DraftPort.{DraftPort}
use Rattle.flow_net.specs.Finishes.{front}
use Rattle.flow_plan.specs.declared.kind.KindSpec.{KindSpec}
use Rattle.flow_plan.specs.declared.plan.Sender.{Sender}
use Rattle.flow_plan.specs.declared.plan.Process.{Process}
use Rattle.flow_plan.specs.declared.plan.Connection.{Connection}
use Rattle.flow_plan.specs.declared.plan.PortRow.{PortRow}
use Rattle.flow_plan.specs.declared.plan.PortTable.{PortTable}
use Rattle.flow_plan.specs.Network.{Network, is_stream}
use Rattle.flow_net.specs.Drafts.{Draft, is_side, is_stream_at, is_stream_port}
use Rattle.flow_net.specs.Calls.{process_at as process_of_end}
use Rattle.flow_net.specs.Finishes as finishes
use Rattle.flow_flat.specs.Names.{PortAt, Join, is_on}
use Rattle.flow_flat.specs.Plans.{Sized, joins_into, receivers, capacity_given, numbers, process_at, is_input, place_at, carries_at, number_of, sender_of, connection_of, option_of, initial_of, process_of, processes_from, rows_of, tables_from, network_of}
use Rattle.flow_flat.proofs.Links.{link_to, links_of, map_same}
use Rattle.flow_flat.proofs.Lookups.{bare, called}
use Rattle.flow_net.proofs.Needs.{sum_by_map}
use Rattle.flow_flat.proofs.Agrees.{Agrees, owner, texts_at}
use Rattle.flow_flat.proofs.Sizing.{view}

map_map : {X Y Z : Type 0} (f : Y → Z) (g : X → Y) (xs : List X) → map f (map g xs) ≡ map (λ x. f (g x)) xs
map_map f g [] = refl
map_map f g (x ∷ xs) = ap (λ ys. f (g x) ∷ ys) (map_map f g xs)

module _ (ports : List DraftPort) where
  looked : {X : Type 0} (f : DraftPort → X) (h : Sized → X) (d : X) → ((port : DraftPort) → f port ≡ h (view port)) → (g : ℕ) → option_map_or f (slice_get ports g) d ≡ option_map_or h (slice_get (map view ports) g) d
  looked {X} f h d same g = by (slice_get ports g) ∙ ap (λ (o : Option Sized). option_map_or h o d) (sym (slice_get-map view ports g)) where
    by : (o : Option DraftPort) → option_map_or f o d ≡ option_map_or h (option_map view o) d
    by None = refl
    by (Some port) = same port

  pub process_view : (end : End) → process_of_end ports end ≡ process_at (map view ports) end
  process_view end = looked (λ (p : DraftPort). p.process) (λ (x : Sized). x.port.process) 0 (λ p. refl) end.port

  side_view : (end : End) → finishes.side_at ports end ≡ is_input (map view ports) end
  side_view end = looked (λ (p : DraftPort). p.input) (λ (x : Sized). x.port.input) false (λ p. refl) end.port

  place_view : (end : End) → finishes.place_at ports end ≡ place_at (map view ports) end
  place_view end = looked (λ (p : DraftPort). p.place) (λ (x : Sized). x.port.place) 0 (λ p. refl) end.port

  carries_view : (end : End) → is_stream_at ports end ≡ carries_at (map view ports) end
  carries_view end = by (slice_get ports end.port) ∙ looked (λ (p : DraftPort). is_stream p.spec.class) (λ (x : Sized). is_stream x.port.spec.class) false (λ p. refl) end.port where
    by : (o : Option DraftPort) → is_stream_port o ≡ option_map_or (λ (p : DraftPort). is_stream p.spec.class) o false
    by None = refl
    by (Some port) = refl

  number_view : (end : End) → finishes.number_of ports end ≡ number_of (map view ports) end
  number_view end =
      ap (λ (n : ℕ). n + end.element)
      (ap (λ (p : ℕ). sum_by (finishes.counted p (finishes.side_at ports end)) (take end.port ports)) (process_view end)
      ∙ ap (λ (b : Bool). sum_by (finishes.counted (process_at (map view ports) end) b) (take end.port ports)) (side_view end)
      ∙ sym (sum_by_map (numbers (process_at (map view ports) end) (is_input (map view ports) end)) view (take end.port ports))
      ∙ ap (sum_by (numbers (process_at (map view ports) end) (is_input (map view ports) end))) (sym (take-map view end.port ports)))

  total_view : (p : ℕ) (input : Bool) → finishes.total_of ports p input ≡ sum_by (numbers p input) (map view ports)
  total_view p input = sym (sum_by_map (numbers p input) view ports)

  sender_view : (j : Join) → finishes.sender_of ports j.out ≡ sender_of (map view ports) j
  sender_view j = ap (λ (p : ℕ). let s : Sender = record { process = p; output = finishes.number_of ports j.out } in s) (process_view j.out)
      ∙ ap (λ (o : ℕ). let s : Sender = record { process = process_at (map view ports) j.out; output = o } in s) (number_view j.out)

  -- The connections, with their senders and capacities.
  pub connection_view : (joins : List Join) (into : End) → finishes.connection_of ports (link_to joins into) ≡ connection_of (map view ports) joins into
  connection_view joins into =
      ap (λ (p : ℕ). let c : Connection = record { receiver = p; input = finishes.number_of ports into; capacity = unwrap_or (capacity_given (joins_into joins into)) 10; senders = map (finishes.sender_of ports) (map (λ (j : Join). j.out) (joins_into joins into)) } in c) (process_view into)
      ∙ ap (λ (i : ℕ). let c : Connection = record { receiver = process_at (map view ports) into; input = i; capacity = unwrap_or (capacity_given (joins_into joins into)) 10; senders = map (finishes.sender_of ports) (map (λ (j : Join). j.out) (joins_into joins into)) } in c) (number_view into)
      ∙ ap (λ (l : List Sender). let c : Connection = record { receiver = process_at (map view ports) into; input = number_of (map view ports) into; capacity = unwrap_or (capacity_given (joins_into joins into)) 10; senders = l } in c)
      (map_map (finishes.sender_of ports) (λ (j : Join). j.out) (joins_into joins into) ∙ map_same (λ (j : Join). finishes.sender_of ports j.out) (sender_of (map view ports)) (joins_into joins into) (λ k j is. sender_view j))

  pub connections_view : (joins : List Join) → map (finishes.connection_of ports) (links_of joins) ≡ map (connection_of (map view ports) joins) (receivers joins)
  connections_view joins = map_map (finishes.connection_of ports) (link_to joins) (receivers joins)
      ∙ map_same (λ (e : End). finishes.connection_of ports (link_to joins e)) (connection_of (map view ports) joins) (receivers joins) (λ k e is. connection_view joins e)

  -- The options and initial texts of a process.
  owner_view : (end : End) → owner (map bare ports) end ≡ process_at (map view ports) end
  owner_view end = by (slice_get ports end.port) (slice_get-map bare ports end.port) (slice_get-map view ports end.port) where
    by : (o : Option DraftPort) → {a : Option PortAt} → {b : Option Sized} → a ≡ option_map bare o → b ≡ option_map view o → option_map_or (λ (p : PortAt). p.process) a 0 ≡ option_map_or (λ (x : Sized). x.port.process) b 0
    by None p q = ap (λ (a : Option PortAt). option_map_or (λ (p : PortAt). p.process) a 0) p ∙ sym (ap (λ (b : Option Sized). option_map_or (λ (x : Sized). x.port.process) b 0) q)
    by (Some port) p q = ap (λ (a : Option PortAt). option_map_or (λ (p : PortAt). p.process) a 0) p ∙ sym (ap (λ (b : Option Sized). option_map_or (λ (x : Sized). x.port.process) b 0) q)

  own_view : (end : End) (p : ℕ) → (owner (map bare ports) end == p) ≡ (process_at (map view ports) end == p)
  own_view end p = ap (λ (n : ℕ). n == p) (owner_view end)

  options_push : (b : Bool) (t : End × List ℕ) (rest : List (End × List ℕ)) → finishes.options_of ports (if b then t ∷ rest else rest) ≡ cons_option (if b && not (is_stream_at ports t.0) then Some (finishes.place_at ports t.0, t.1) else None) (finishes.options_of ports rest)
  options_push false t rest = refl
  options_push true t rest = by (is_stream_at ports t.0) where
    by : (s : Bool) → (if s then finishes.options_of ports rest else (finishes.place_at ports t.0, t.1) ∷ finishes.options_of ports rest) ≡ cons_option (if not s then Some (finishes.place_at ports t.0, t.1) else None) (finishes.options_of ports rest)
    by true = refl
    by false = refl

  initials_push : (b : Bool) (t : End × List ℕ) (rest : List (End × List ℕ)) → finishes.initials_of ports (if b then t ∷ rest else rest) ≡ cons_option (if b && is_stream_at ports t.0 then Some (finishes.number_of ports t.0, t.1) else None) (finishes.initials_of ports rest)
  initials_push false t rest = refl
  initials_push true t rest = by (is_stream_at ports t.0) where
    by : (s : Bool) → (if s then (finishes.number_of ports t.0, t.1) ∷ finishes.initials_of ports rest else finishes.initials_of ports rest) ≡ cons_option (if s then Some (finishes.number_of ports t.0, t.1) else None) (finishes.initials_of ports rest)
    by true = refl
    by false = refl

  options_view : (p : ℕ) (texts : List (End × List ℕ)) → finishes.options_of ports (texts_at (map bare ports) texts p) ≡ filter_map (option_of (map view ports) p) texts
  options_view p [] = refl
  options_view p (t ∷ ts) =
      options_push (owner (map bare ports) t.0 == p) t (texts_at (map bare ports) ts p)
      ∙ ap (λ (b : Bool). cons_option (if b && not (is_stream_at ports t.0) then Some (finishes.place_at ports t.0, t.1) else None) (finishes.options_of ports (texts_at (map bare ports) ts p))) (own_view t.0 p)
      ∙ ap (λ (s : Bool). cons_option (if (process_at (map view ports) t.0 == p) && not s then Some (finishes.place_at ports t.0, t.1) else None) (finishes.options_of ports (texts_at (map bare ports) ts p))) (carries_view t.0)
      ∙ ap (λ (n : ℕ). cons_option (if (process_at (map view ports) t.0 == p) && not (carries_at (map view ports) t.0) then Some (n, t.1) else None) (finishes.options_of ports (texts_at (map bare ports) ts p))) (place_view t.0)
      ∙ ap (cons_option (option_of (map view ports) p t)) (options_view p ts)

  initials_view : (p : ℕ) (texts : List (End × List ℕ)) → finishes.initials_of ports (texts_at (map bare ports) texts p) ≡ filter_map (initial_of (map view ports) p) texts
  initials_view p [] = refl
  initials_view p (t ∷ ts) =
      initials_push (owner (map bare ports) t.0 == p) t (texts_at (map bare ports) ts p)
      ∙ ap (λ (b : Bool). cons_option (if b && is_stream_at ports t.0 then Some (finishes.number_of ports t.0, t.1) else None) (finishes.initials_of ports (texts_at (map bare ports) ts p))) (own_view t.0 p)
      ∙ ap (λ (s : Bool). cons_option (if (process_at (map view ports) t.0 == p) && s then Some (finishes.number_of ports t.0, t.1) else None) (finishes.initials_of ports (texts_at (map bare ports) ts p))) (carries_view t.0)
      ∙ ap (λ (n : ℕ). cons_option (if (process_at (map view ports) t.0 == p) && carries_at (map view ports) t.0 then Some (n, t.1) else None) (finishes.initials_of ports (texts_at (map bare ports) ts p))) (number_view t.0)
      ∙ ap (cons_option (initial_of (map view ports) p t)) (initials_view p ts)

  process_is_view : (p : ℕ) (texts : List (End × List ℕ)) (b : DraftProcess) → b.number ≡ p → b.texts ≡ texts_at (map bare ports) texts p → finishes.process_of ports b ≡ process_of (map view ports) texts p (called b)
  process_is_view p texts b number held =
      ap (λ (l : List (End × List ℕ)). let x : Process = record { name = b.name; kind = b.kind; options = finishes.options_of ports l; initials = finishes.initials_of ports l; inputs = finishes.total_of ports b.number true - 1; outputs = finishes.total_of ports b.number false - 1 } in x) held
      ∙ ap (λ (n : ℕ). let x : Process = record { name = b.name; kind = b.kind; options = finishes.options_of ports (texts_at (map bare ports) texts p); initials = finishes.initials_of ports (texts_at (map bare ports) texts p); inputs = finishes.total_of ports n true - 1; outputs = finishes.total_of ports n false - 1 } in x) number
      ∙ ap (λ (l : List (ℕ × List ℕ)). let x : Process = record { name = b.name; kind = b.kind; options = l; initials = finishes.initials_of ports (texts_at (map bare ports) texts p); inputs = finishes.total_of ports p true - 1; outputs = finishes.total_of ports p false - 1 } in x) (options_view p texts)
      ∙ ap (λ (l : List (ℕ × List ℕ)). let x : Process = record { name = b.name; kind = b.kind; options = filter_map (option_of (map view ports) p) texts; initials = l; inputs = finishes.total_of ports p true - 1; outputs = finishes.total_of ports p false - 1 } in x) (initials_view p texts)
      ∙ ap (λ (n : ℕ). let x : Process = record { name = b.name; kind = b.kind; options = filter_map (option_of (map view ports) p) texts; initials = filter_map (initial_of (map view ports) p) texts; inputs = n - 1; outputs = finishes.total_of ports p false - 1 } in x) (total_view p true)
      ∙ ap (λ (n : ℕ). let x : Process = record { name = b.name; kind = b.kind; options = filter_map (option_of (map view ports) p) texts; initials = filter_map (initial_of (map view ports) p) texts; inputs = sum_by (numbers p true) (map view ports) - 1; outputs = n - 1 } in x) (total_view p false)

  processes_view : (p : ℕ) (texts : List (End × List ℕ)) (bs : List DraftProcess) → ((k : ℕ) (b : DraftProcess) → slice_get bs k ≡ Some b → (b.number ≡ p + k) × (b.texts ≡ texts_at (map bare ports) texts (p + k)))
      → map (finishes.process_of ports) bs ≡ processes_from (map view ports) texts p (map called bs)
  processes_view p texts [] each = refl
  processes_view p texts (b ∷ bs) each =
      let here : p + 0 ≡ p = omega arith in
      ap (λ (x : Process). x ∷ map (finishes.process_of ports) bs) (process_is_view p texts b ((each 0 b refl).0 ∙ here) ((each 0 b refl).1 ∙ ap (texts_at (map bare ports) texts) here))
      ∙ ap (λ (l : List Process). process_of (map view ports) texts p (called b) ∷ l) (processes_view (p + 1) texts bs (λ k c is. ((each (suc k) c is).0 ∙ shift k, (each (suc k) c is).1 ∙ ap (texts_at (map bare ports) texts) (shift k))))
    where
      shift : (k : ℕ) → p + suc k ≡ (p + 1) + k
      shift k = omega arith

  rows_view : (p : ℕ) (input : Bool) (l : List DraftPort) → finishes.rows_of l p input ≡ map (λ (x : Sized). let row : PortRow = record { spec = x.port.spec; elements = x.elements } in row) (filter (λ (x : Sized). is_on p input x.port) (map view l))
  rows_view p input [] = refl
  rows_view p input (x ∷ xs) = by (is_side p input x) (rows_view p input xs) where
    by : (b : Bool) → finishes.rows_of xs p input ≡ map (λ (x : Sized). let row : PortRow = record { spec = x.port.spec; elements = x.elements } in row) (filter (λ (x : Sized). is_on p input x.port) (map view xs))
        → (if b then finishes.row_of x ∷ finishes.rows_of xs p input else finishes.rows_of xs p input)
        ≡ map (λ (x : Sized). let row : PortRow = record { spec = x.port.spec; elements = x.elements } in row) (if b then view x ∷ filter (λ (x : Sized). is_on p input x.port) (map view xs) else filter (λ (x : Sized). is_on p input x.port) (map view xs))
    by true rest = ap (λ (l : List PortRow). finishes.row_of x ∷ l) rest
    by false rest = rest

  tables_view : (p : ℕ) (bs : List DraftProcess) → ((k : ℕ) (b : DraftProcess) → slice_get bs k ≡ Some b → b.number ≡ p + k) → map (finishes.table_of ports) bs ≡ tables_from (map view ports) p (map called bs)
  tables_view p [] each = refl
  tables_view p (b ∷ bs) each =
      let number : b.number ≡ p = each 0 b refl ∙ omega arith in
      ap (λ (n : ℕ). finishes.table_of ports (record b { number = n }) ∷ map (finishes.table_of ports) bs) number
      ∙ ap (λ (l : List PortRow). let t : PortTable = record { inputs = front l; outputs = front (finishes.rows_of ports p false) } in t ∷ map (finishes.table_of ports) bs) (rows_view p true ports)
      ∙ ap (λ (l : List PortRow). let t : PortTable = record { inputs = front (rows_of (map view ports) p true); outputs = front l } in t ∷ map (finishes.table_of ports) bs) (rows_view p false ports)
      ∙ ap (λ (l : List PortTable). let t : PortTable = record { inputs = front (rows_of (map view ports) p true); outputs = front (rows_of (map view ports) p false) } in t ∷ l) (tables_view (p + 1) bs (λ k c is. each (suc k) c is ∙ shift k))
    where
      shift : (k : ℕ) → p + suc k ≡ (p + 1) + k
      shift k = omega arith

-- The plan of a draft.
pub plan_view : (table : List KindSpec) (ps : List (List ℕ × List ℕ)) (at : List PortAt) (joins : List Join) (given : List (End × List ℕ)) (draft : Draft) → Agrees table ps at joins given draft
    → finishes.plan_of draft ≡ network_of ps (map view draft.ports) joins given
plan_view table ps at joins given draft agrees =
    ap (λ (l : List Process). let n : Network = record { processes = l; connections = map (finishes.connection_of draft.ports) draft.links; tables = map (finishes.table_of draft.ports) draft.processes } in n) (processes_view draft.ports 0 given draft.processes each)
    ∙ ap (λ (l : List Connection). let n : Network = record { processes = processes_from (map view draft.ports) given 0 (map called draft.processes); connections = l; tables = map (finishes.table_of draft.ports) draft.processes } in n) (ap (map (finishes.connection_of draft.ports)) agrees.links ∙ connections_view draft.ports joins)
    ∙ ap (λ (l : List PortTable). let n : Network = record { processes = processes_from (map view draft.ports) given 0 (map called draft.processes); connections = map (connection_of (map view draft.ports) joins) (receivers joins); tables = l } in n) (tables_view draft.ports 0 draft.processes (λ k b is. (each k b is).0))
    ∙ ap (λ (l : List (List ℕ × List ℕ)). network_of l (map view draft.ports) joins given) agrees.names
  where
    zero_add : (k : ℕ) → k ≡ 0 + k
    zero_add k = omega arith

    each : (k : ℕ) (b : DraftProcess) → slice_get draft.processes k ≡ Some b → (b.number ≡ 0 + k) × (b.texts ≡ texts_at (map bare draft.ports) given (0 + k))
    each k b is = (agrees.sound.numbers k b is ∙ zero_add k, agrees.texts k b is ∙ ap (λ (l : List PortAt). texts_at l given k) (sym agrees.ports) ∙ ap (texts_at (map bare draft.ports) given) (zero_add k))
