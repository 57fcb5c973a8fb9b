-- Which process receives from a connection of a plan, and which send into it.
use Rattle.std.specs.Prelude.{ℕ, ◌==◌, if◌then◌else◌, Bool, false, List, [], ◌∷◌, slice_get, unwrap_or}
use Rattle.std.specs.Option.{option_map}
use Rattle.flow_plan.specs.declared.plan.Sender.{Sender}
use Rattle.flow_plan.specs.declared.plan.Connection.{Connection}

-- Whether the first of these senders is of this process.
abbrev pub is_followed : ℕ → List Sender → Bool
is_followed p [] = false
is_followed p (s ∷ senders) = s.process == p

-- The processes of these senders, in order. One that has several side by side is named once.
abbrev pub sending_processes : List Sender → List ℕ
sending_processes [] = []
sending_processes (s ∷ senders) = if is_followed s.process senders then sending_processes senders else s.process ∷ sending_processes senders

-- The process that receives from the connection of this number, in a list.
abbrev pub receiver_at : List Connection → ℕ → List ℕ
receiver_at connections c = unwrap_or (option_map (λ (x : Connection). x.receiver ∷ []) (slice_get connections c)) []

-- Those that send into it.
abbrev pub senders_at : List Connection → ℕ → List ℕ
senders_at connections c = unwrap_or (option_map (λ (x : Connection). sending_processes x.senders) (slice_get connections c)) []
