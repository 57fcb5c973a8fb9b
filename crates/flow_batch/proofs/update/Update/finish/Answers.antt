use Rattle.flow_limits.specs.declared.TheConstants.{TEXT_LIMIT}
use Rattle.std.proofs.Common.{◌≡◌, ℕ, ◌+◌, ◌≤◌, ◌∙◌, List, ◌∷◌, ◌++◌, length, arith, ap, lit<, length-append}
use Rattle.std.specs.Fmt.{decimal}
use Rattle.std.proofs.lemmas.Fmt.{length-decimal-le}
use Rattle.flow_batch.specs.declared.TheConstants.{AMOUNT_LIMIT}
use Rattle.flow_batch.proofs.update.Update.finish.Goals as goal

-- A new master is short.
short : (key line : List ℕ) (amount : ℕ) → length key ≤ 255 → amount ≤ AMOUNT_LIMIT → line ≡ key ++ 77 ∷ decimal amount → length line ≤ TEXT_LIMIT
short key line amount l m is =
    let d = length-decimal-le 20 amount (lit< tt) (omega arith) (omega arith) in
    let e : length line ≡ length key + length (77 ∷ decimal amount) = ap length is ∙ length-append key (77 ∷ decimal amount) in
    omega (arith, d, e)

pub make_normal-made-requires-clause-short : goal.make_normal-made-requires-clause-short
make_normal-made-requires-clause-short c =
    let k = c.self.invariant in
    let h = rw c.in-Some.is at k.1 in
    let key : length c.deref.result.now ≤ 255 = omega (arith, c.deref.ensures.len, h.1, k.0) in
    short c.deref.result.now c.in-Ok.master.items c.in-Some.amount key h.0 c.in-Ok.ensures
