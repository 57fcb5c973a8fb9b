-- Where the ports of a new process come from.
use Rattle.std.proofs.Common.{◌≡◌, ℕ, ◌+◌, List, [], ◌∷◌, Some, Bool, refl, ap, zero, suc, slice_get, length}
use Rattle.flow_net.specs.declared.draft.DraftPort.{DraftPort}
use Rattle.flow_plan.specs.declared.kind.PortSpec.{PortSpec}
use Rattle.flow_net.specs.Calls.{fresh_port, fresh_ports}

-- There is a fresh port for each port of the kind.
pub length-fresh_ports : (p : ℕ) (s : Bool) (place : ℕ) (specs : List PortSpec) → length (fresh_ports p s place specs) ≡ length specs
length-fresh_ports p s place [] = refl
length-fresh_ports p s place (spec ∷ specs) = ap suc (length-fresh_ports p s (place + 1) specs)

-- A port of a new process: of a table's entry, with all elements free.
pub record IsFresh (process : ℕ) (input : Bool) (specs : List PortSpec) (port : DraftPort) : Type 0 where
  pub entry : ℕ
  pub spec : PortSpec
  pub place : ℕ
  pub here : slice_get specs entry ≡ Some spec
  pub whole : fresh_port process input place spec ≡ port

-- Each fresh port is as its kind has it, and free.
pub fresh_ports-each : (p : ℕ) (s : Bool) (place : ℕ) (specs : List PortSpec) (g : ℕ) (port : DraftPort) → slice_get (fresh_ports p s place specs) g ≡ Some port → IsFresh p s specs port
fresh_ports-each p s place [] g port is = absurd (cc)
fresh_ports-each p s place (spec ∷ specs) zero port is = record { entry = 0; spec = spec; place = place; here = refl; whole = cc }
fresh_ports-each p s place (spec ∷ specs) (suc g) port is =
    let later = fresh_ports-each p s (place + 1) specs g port is in
    record { entry = suc later.entry; spec = later.spec; place = later.place; here = later.here; whole = later.whole }
