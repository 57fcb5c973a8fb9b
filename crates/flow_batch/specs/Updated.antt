-- What an Update makes of its stream.
use Rattle.std.specs.Prelude.{◌≡◌, ℕ, Bool, true, false, List, [], ◌∷◌, ◌++◌, Option, Some, None}
use Rattle.flow_packet.specs.declared.packet.Kind.{Kind}
use Rattle.flow_packet.specs.declared.packet.Kind.TheVariants.{Normal, Open, Close}
use Rattle.flow_packet.specs.Tree.{Tree, kind_of, text_of}
use Rattle.flow_component.specs.Runs.{text_packet, EndedRun, got, sent}
use Rattle.flow_component.specs.Happenings.{Happening}
use Rattle.flow_batch.specs.Records.{posted, balance_after, refused_by}
use Rattle.flow_batch.specs.Ledger.{line_of}
use Rattle.flow_batch.specs.Around.{Around, Outside, InGroup, UpdateState}
use Rattle.flow_batch.specs.Update.{update_rules}

-- Where it stands behind a packet: in a group, from an Open packet to the next Close packet, with the balance to which the group's records came. (A bracket elsewhere is a failure.)
abbrev pub around_after : ℕ → Around → Tree → Kind → Around
around_after keylen Outside packet Normal = Outside
around_after keylen Outside packet Open = InGroup (text_of packet) None
around_after keylen Outside packet Close = Outside
around_after keylen (InGroup key balance) packet Normal = InGroup key (balance_after balance (posted keylen key balance (text_of packet)))
around_after keylen (InGroup key balance) packet Open = InGroup key balance
around_after keylen (InGroup key balance) packet Close = Outside

-- The new master of a group, if it has a balance.
abbrev pub master_of : List ℕ → Option ℕ → List Tree
master_of key None = []
master_of key (Some amount) = text_packet (line_of (key, amount)) ∷ []

-- The new master that leaves with this packet: that of a group with the Close packet that ends it.
abbrev pub made_with : Around → Kind → List Tree
made_with Outside kind = []
made_with (InGroup key balance) Normal = []
made_with (InGroup key balance) Open = []
made_with (InGroup key balance) Close = master_of key balance

-- The packet where it is refused: by its group, or as it stands in none.
abbrev pub refused_with : ℕ → Around → Tree → Kind → List Tree
refused_with keylen Outside packet Normal = packet ∷ []
refused_with keylen Outside packet Open = []
refused_with keylen Outside packet Close = []
refused_with keylen (InGroup key balance) packet Normal = refused_by packet (posted keylen key balance (text_of packet))
refused_with keylen (InGroup key balance) packet Open = []
refused_with keylen (InGroup key balance) packet Close = []

-- The new masters that are made of a stream, from here on.
abbrev pub new_masters : ℕ → Around → List Tree → List Tree
new_masters keylen around [] = []
new_masters keylen around (packet ∷ later) = made_with around (kind_of packet) ++ new_masters keylen (around_after keylen around packet (kind_of packet)) later

-- The packets that are refused from here on.
abbrev pub refused_packets : ℕ → Around → List Tree → List Tree
refused_packets keylen around [] = []
refused_packets keylen around (packet ∷ later) = refused_with keylen around packet (kind_of packet) ++ refused_packets keylen (around_after keylen around packet (kind_of packet)) later

-- What an Update makes of x: the new masters to its first output, and what is refused to its second one, if that is connected.
pub record IsUpdated (keylen : ℕ) (rep : Bool) (x new refused : List Tree) : Type 0 where
  pub masters : new ≡ new_masters keylen Outside x
  pub refusals : rep ≡ true → refused ≡ refused_packets keylen Outside x
  pub silent : rep ≡ false → refused ≡ []

-- An Update at its start.
abbrev pub fresh_update : ℕ → Bool → UpdateState
fresh_update keylen rep = record { keylen = keylen; rep = rep; around = Outside }

-- The meaning of Update, over whole runs.
abbrev pub UpdateMeaning : Type 0
UpdateMeaning = (keylen : ℕ) (rep : Bool) (told : List Happening) → EndedRun update_rules (fresh_update keylen rep) told → IsUpdated keylen rep (got 0 told) (sent 0 told) (sent 1 told)
