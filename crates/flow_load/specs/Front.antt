-- What `read_front` does.
use Rattle.std.specs.Prelude.{ℕ, ◌<◌, ◌≤◌, nat_lt, List, length, take, MatchResult}
use Rattle.std.specs.declared.result.Result.{Result}
use Rattle.std.specs.Io.KnownBytes.{IsAtEnd}
use Rattle.flow_text.specs.Edge.{Outside}
use Rattle.flow_text.specs.ReadAll.{Took, TookAndFailed}

-- At Ok(n) the first n bytes of the buffer were read, and nothing else: they fill it, or the source ended there, and its end was met. At Err some bytes were read,
-- and then a read failed.
abbrev pub ReadsFront : {E : Type 0} → Outside → Outside → Result ℕ E → List ℕ → Type 0
ReadsFront old new r buf = MatchResult r
    (λ n. Took old new (take n buf) (nat_lt n (length buf)) × (n ≤ length buf) × (n < length buf → IsAtEnd new.left))
    (λ _. (bytes : List ℕ) × TookAndFailed old new bytes)
