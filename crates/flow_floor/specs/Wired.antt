-- Which connections stand at the ports of a process.
use Rattle.std.specs.Prelude.{◌≡◌, ℕ, ◌<◌, ◌⊎◌, Some, slice_get}
use Rattle.flow_model.specs.States.{From, output_at}
use Rattle.flow_machine.specs.Values.{BodyValue}

module _ {K : Type 0} where
  -- The connection is an input of the process: one of its stream inputs, or its automatic input.
  abbrev pub IsInput : BodyValue K → ℕ → Type 0
  IsInput b c = ((i : ℕ) × (slice_get b.process.inputs i ≡ Some (From c))) ⊎ (b.process.signal ≡ Some c)

  -- The connection is an output of the process.
  abbrev pub IsOutput : BodyValue K → ℕ → Type 0
  IsOutput b c = (o : ℕ) × (output_at b.process o ≡ Some c)

  -- Each connection that a body has at a port is there, the one at its automatic input too.
  pub record IsWiredIn (channels : ℕ) (b : BodyValue K) : Type 0 where
    pub inputs : (i c : ℕ) → slice_get b.process.inputs i ≡ Some (From c) → c < channels
    pub outputs : (o c : ℕ) → output_at b.process o ≡ Some c → c < channels
    pub signal : (c : ℕ) → b.process.signal ≡ Some c → c < channels
