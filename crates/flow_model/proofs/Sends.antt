-- An output that is a sender of a connection finds that connection.
use Rattle.std.proofs.Common.{ℕ, refl}
use Rattle.std.specs.Prelude.{IsSome}
use Rattle.flow_plan.specs.Network.{Network}
use Rattle.flow_plan.specs.Valid.{HasSender}
use Rattle.flow_model.specs.States.{is_sender}
use Rattle.flow_model.specs.Plans.{comes_from, sends_at}
use Rattle.flow_model.proofs.Lookups.{position-there, any-there, both-same}

-- An output that is a sender of some connection is found as one.
pub sends-there : (n : Network) (p o : ℕ) → HasSender n p o → IsSome (sends_at n p o)
sends-there n p o has =
    position-there (comes_from p o) n.connections has.number has.connection has.here
    (any-there (is_sender (record { process = p; output = o })) has.connection.senders has.place (record { process = p; output = o }) has.sender
    (both-same p p o o refl refl))
