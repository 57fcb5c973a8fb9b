-- What a standard component makes of its streams.
use Rattle.std.specs.Prelude.{◌≡◌, ℕ, Bool, List, [], map, Some, slice_get, unwrap_or}
use Rattle.flow_packet.specs.Tree.{Tree}
use Rattle.flow_catalogue.specs.declared.standard.Std.{Std}
use Rattle.flow_catalogue.specs.Std.{written_of, std_rules}
use Rattle.flow_model.specs.declared.Stage.TheVariants as stages
use Rattle.flow_model.specs.States.{Entry, Process, State, got_at, sent_at}
use Rattle.flow_model.specs.Schedules.{Journal, Leads}
use Rattle.flow_model.specs.Plans.{start_of, StartsWell}
use Rattle.flow_plan.specs.Network.{Network as Plan}
use Rattle.flow_meanings.specs.Kinds.{meaning_of}

-- The component is in its first state.
abbrev pub IsFirst : Std → Type 0
IsFirst component = (meaning_of component).first

-- A component of this first state, where the streams x come in and it works to its end, sends the streams y and has written these bytes.
abbrev pub Means : Std → List ℕ → (ℕ → List Tree) → (ℕ → List Tree) → Type 0
Means component wrote x y = (meaning_of component).makes wrote x y

-- It works to the ends of its inputs once it is activated.
abbrev pub is_looper : Std → Bool
is_looper component = (meaning_of component).loops

-- What it sends follows from what it gets.
abbrev pub is_settled : Std → Bool
is_settled component = (meaning_of component).settled

-- The bytes that a component has written, none where it writes no file.
abbrev pub bytes_of : Std → List ℕ
bytes_of component = unwrap_or (written_of component) []

-- The contents of what was put, in order.
abbrev pub contents : List Entry → List Tree
contents entries = map (λ e. e.content) entries

-- After every schedule from a start of standard components, what each process that has ended got, sent and wrote is as its kind means.
abbrev pub KeepsMeanings : Type 0
KeepsMeanings =
    (plan : Plan) (components : List Std) (journal : Journal) (s : State Std) → StartsWell std_rules plan components → Leads std_rules (start_of plan components) journal s
    → (p : ℕ) (component : Std) (x : Process Std) → slice_get components p ≡ Some component → IsFirst component → slice_get s.kept.processes p ≡ Some x → x.stage ≡ stages.Ended
    → Means component (bytes_of x.component) (λ i. contents (got_at s.past p i)) (λ o. contents (sent_at s.past p o))
