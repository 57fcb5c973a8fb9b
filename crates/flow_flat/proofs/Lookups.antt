-- What names lead to in a draft is what they lead to in the text.
use Rattle.std.proofs.Common.{◌≡◌, ℕ, ◌+◌, Bool, true, false, List, [], ◌∷◌, map, length, Option, Some, None, Ok, refl, ap, sym, ◌∙◌, slice_get}
use Rattle.std.specs.Prelude.{◌&&◌, not, nat_lt, if◌then◌else◌, position}
use Rattle.std.specs.List.{position_or_len}
use Rattle.std.specs.Option.{option_and_then, option_map, option_map_or, ok_or}
use Rattle.std.specs.declared.result.Result.{Result}
use Rattle.std.specs.Str.{bytes_eq}
use Rattle.std.proofs.lemmas.List.{length-map}
use Rattle.std.proofs.lemmas.Option.{slice_get-map}
use Rattle.flow_net.specs.declared.draft.End.{End}
use Rattle.flow_net.specs.declared.draft.DraftPort.{DraftPort}
use Rattle.flow_net.specs.declared.draft.DraftProcess.{DraftProcess}
use Rattle.flow_net.specs.declared.fault.PlanFault.{PlanFault}
use Rattle.flow_net.specs.declared.fault.PlanFault.TheVariants.{UnknownProcess, PortUnknown}
use Rattle.flow_plan.specs.declared.kind.PortRef.{PortRef}
use Rattle.flow_net.specs.Drafts.{◌>>=◌, process_named, port_named, element_named, is_stream_at, is_stream_port}
use Rattle.flow_plan.specs.Network.{is_stream}
use Rattle.flow_net.specs.Calls.{end_at, end_named, end_of_port, process_of_name, ends_of, takes_text}
use Rattle.flow_net.specs.Kinds.{takes_texts}
use Rattle.flow_flat.specs.Names.{PortAt, process_called, is_on, port_called, element_at, end_called, join_ends, text_end}
use Rattle.flow_flat.specs.Faults.{is_stream_end, is_textual}

-- A port without what its elements are bound to.
abbrev pub bare : DraftPort → PortAt
bare port = record { process = port.process; input = port.input; place = port.place; spec = port.spec }

-- A process as the text has it.
abbrev pub called : DraftProcess → List ℕ × List ℕ
called begun = (begun.name, begun.kind)

place_map : {X Y : Type 0} (p : Y → Bool) (f : X → Y) (xs : List X) → position_or_len p (map f xs) ≡ position_or_len (λ x. p (f x)) xs
place_map p f [] = refl
place_map p f (x ∷ xs) = ap (λ (n : ℕ). if not (p (f x)) then 1 + n else 0) (place_map p f xs)

-- A search in a mapped list is a search for what is mapped to it.
pub position_map : {X Y : Type 0} (p : Y → Bool) (f : X → Y) (xs : List X) → position p (map f xs) ≡ position (λ x. p (f x)) xs
position_map p f xs = ap (λ (n : ℕ). if nat_lt n (length (map f xs)) then Some n else None) (place_map p f xs) ∙ ap (λ (n : ℕ). if nat_lt (position_or_len (λ x. p (f x)) xs) n then Some (position_or_len (λ x. p (f x)) xs) else None) (length-map xs f)

-- A process is found by its name in the draft where it is in the text.
pub process_is : (processes : List DraftProcess) (name : List ℕ) → process_named processes name ≡ process_called (map called processes) name
process_is processes name = sym (position_map (λ (x : List ℕ × List ℕ). bytes_eq x.0 name) called processes)

pub port_is : (ports : List DraftPort) (p : ℕ) (input : Bool) (name : List ℕ) → port_named ports p input name ≡ port_called (map bare ports) p input name
port_is ports p input name = sym (position_map (λ (port : PortAt). is_on p input port && bytes_eq port.spec.name name) bare ports)

element_is : (ports : List DraftPort) (element : Option ℕ) (g : ℕ) → end_at ports element g ≡ element_at (map bare ports) element g
element_is ports element g = by (slice_get ports g) ∙ ap (option_and_then (λ (port : PortAt). option_map (λ e. let at : End = record { port = g; element = e } in at) (element_named port.spec.array element))) (sym (slice_get-map bare ports g))
  where
    by : (o : Option DraftPort) → option_and_then (λ (port : DraftPort). option_map (λ e. let at : End = record { port = g; element = e } in at) (element_named port.spec.array element)) o
        ≡ option_and_then (λ (port : PortAt). option_map (λ e. let at : End = record { port = g; element = e } in at) (element_named port.spec.array element)) (option_map bare o)
    by None = refl
    by (Some port) = refl

pub end_is : (ports : List DraftPort) (p : ℕ) (input : Bool) (port : PortRef) → end_named ports p input port ≡ end_called (map bare ports) p input port
end_is ports p input port = by (port_named ports p input port.name) ∙ ap (option_and_then (element_at (map bare ports) port.element)) (port_is ports p input port.name)
  where
    by : (o : Option ℕ) → option_and_then (end_at ports port.element) o ≡ option_and_then (element_at (map bare ports) port.element) o
    by None = refl
    by (Some g) = element_is ports port.element g

-- The ends of a connect statement.
pub ends_are : (processes : List DraftProcess) (ports : List DraftPort) (from : List ℕ) (out : PortRef) (to : List ℕ) (into : PortRef)
    → ends_of processes ports from out to into ≡ join_ends (map called processes) (map bare ports) from out to into
ends_are processes ports from out to into =
    rw (← process_is processes from, ← process_is processes to) (by (process_named processes from) (process_named processes to))
  where
    inner : (s r : ℕ) → ◌≡◌ {A = Result (End × End) PlanFault}
        (ok_or (end_named ports s false out) (PortUnknown from out) >>= λ output. ok_or (end_named ports r true into) (PortUnknown to into) >>= λ input. Ok (output, input))
        (ok_or (end_called (map bare ports) s false out) (PortUnknown from out) >>= λ output. ok_or (end_called (map bare ports) r true into) (PortUnknown to into) >>= λ input. Ok (output, input))
    inner s r =
        ap (λ (o : Option End). ok_or o (PortUnknown from out) >>= λ output. ok_or (end_named ports r true into) (PortUnknown to into) >>= λ input. let both : Result (End × End) PlanFault = Ok (output, input) in both) (end_is ports s false out)
        ∙ ap (λ (o : Option End). ok_or (end_called (map bare ports) s false out) (PortUnknown from out) >>= λ output. ok_or o (PortUnknown to into) >>= λ input. let both : Result (End × End) PlanFault = Ok (output, input) in both) (end_is ports r true into)

    by : (s r : Option ℕ) → ◌≡◌ {A = Result (End × End) PlanFault}
        (ok_or s (UnknownProcess from) >>= λ sender. ok_or r (UnknownProcess to) >>= λ receiver. end_of_port ports sender false from out >>= λ output. end_of_port ports receiver true to into >>= λ input. Ok (output, input))
        (ok_or s (UnknownProcess from) >>= λ sender. ok_or r (UnknownProcess to) >>= λ receiver. ok_or (end_called (map bare ports) sender false out) (PortUnknown from out) >>= λ output. ok_or (end_called (map bare ports) receiver true into) (PortUnknown to into) >>= λ input. Ok (output, input))
    by None r = refl
    by (Some s) None = refl
    by (Some s) (Some r) = inner s r

-- The input that a text is for.
pub input_is : (processes : List DraftProcess) (ports : List DraftPort) (to : List ℕ) (into : PortRef)
    → (process_of_name processes to >>= λ receiver. end_of_port ports receiver true to into) ≡ text_end (map called processes) (map bare ports) to into
input_is processes ports to into = rw (← process_is processes to) (by (process_named processes to))
  where
    by : (r : Option ℕ) → ◌≡◌ {A = Result End PlanFault} (ok_or r (UnknownProcess to) >>= λ receiver. end_of_port ports receiver true to into) (ok_or r (UnknownProcess to) >>= λ receiver. ok_or (end_called (map bare ports) receiver true into) (PortUnknown to into))
    by None = refl
    by (Some r) = ap (λ (o : Option End). ok_or o (PortUnknown to into)) (end_is ports r true into)

-- An element is a stream with its bindings and without.
pub stream_is : (ports : List DraftPort) (end : End) → is_stream_at ports end ≡ is_stream_end (map bare ports) end
stream_is ports end = by (slice_get ports end.port) ∙ ap (λ (o : Option PortAt). option_map_or (λ (port : PortAt). is_stream port.spec.class) o false) (sym (slice_get-map bare ports end.port))
  where
    by : (o : Option DraftPort) → is_stream_port o ≡ option_map_or (λ (port : PortAt). is_stream port.spec.class) (option_map bare o) false
    by None = refl
    by (Some port) = refl

-- An element takes texts with its bindings and without.
pub textual_is : (ports : List DraftPort) (end : End) → takes_text ports end ≡ is_textual (map bare ports) end
textual_is ports end = by (slice_get ports end.port) ∙ ap (λ (o : Option PortAt). option_map_or (λ (port : PortAt). takes_texts port.spec) o false) (sym (slice_get-map bare ports end.port))
  where
    by : (o : Option DraftPort) → option_map_or (λ (port : DraftPort). takes_texts port.spec) o false ≡ option_map_or (λ (port : PortAt). takes_texts port.spec) (option_map bare o) false
    by None = refl
    by (Some port) = refl
