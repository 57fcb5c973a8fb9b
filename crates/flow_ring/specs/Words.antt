-- How the floor's level words read.
use Rattle.std.specs.Prelude.{ℕ, ◌+◌, ◌*◌, ◌/◌, ◌%◌}
use Rattle.flow_ring.specs.declared.TheConstants.{FIELD}

-- The level word of a connection: the level in bits 0 to 15, and the open senders in bits 16 to 31.
abbrev pub free_word : ℕ → ℕ → ℕ
free_word level senders = level + senders * FIELD

-- The level in a word.
abbrev pub level_in : ℕ → ℕ
level_in word = word % FIELD

-- The open senders in a word.
abbrev pub senders_in : ℕ → ℕ
senders_in word = word / FIELD % FIELD
