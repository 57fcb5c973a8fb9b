-- What a level word says.
use Rattle.std.proofs.Common.{◌≡◌, ℕ, ◌+◌, ◌<◌, arith}
use Rattle.flow_ring.specs.declared.TheConstants.{FIELD}
use Rattle.flow_ring.specs.Words.{free_word, level_in, senders_in}

-- A word that was made of a level and a number of senders gives that level back.
pub level-of : (level senders : ℕ) → level < FIELD → senders < FIELD → level_in (free_word level senders) ≡ level
level-of level senders low few = omega (arith, low, few)

-- It gives that number back.
pub senders-of : (level senders : ℕ) → level < FIELD → senders < FIELD → senders_in (free_word level senders) ≡ senders
senders-of level senders low few = omega (arith, low, few)
