-- The numbers of a command line: that from which a network and its input are made, and that of the workers.
use Rattle.std.specs.Prelude.{◌≡◌, ℕ, ◌+◌, ◌≤◌, Option, Some, find}
use Rattle.std.specs.Fmt.{decimal}
use Rattle.std.specs.List.{range_with_len}
use Rattle.std.specs.Str.{bytes_eq}
use Rattle.clap.specs.Walk.{Text}
use Rattle.flow_limits.specs.declared.TheConstants.{NUMBER_LIMIT, WORKER_LIMIT}

-- Of so many numbers, from the least on, the one of which the word is the decimal spelling, if there is one.
unfoldable pub spelled_in : ℕ → ℕ → Text → Option ℕ
spelled_in least count word = find (λ number. bytes_eq (decimal number) word) (range_with_len least count)

-- The number from 1 to NUMBER_LIMIT that the word spells.
abbrev pub spelled_number : Text → Option ℕ
spelled_number word = spelled_in 1 NUMBER_LIMIT word

-- The number of workers from 0 to WORKER_LIMIT that the word spells.
abbrev pub spelled_workers : Text → Option ℕ
spelled_workers word = spelled_in 0 (WORKER_LIMIT + 1) word

-- Each of these numbers is spelled by its decimal spelling.
abbrev pub AreSpelled : Type 0
AreSpelled = ((n : ℕ) → 1 ≤ n → n ≤ NUMBER_LIMIT → spelled_number (decimal n) ≡ Some n) × ((n : ℕ) → n ≤ WORKER_LIMIT → spelled_workers (decimal n) ≡ Some n)
