use Rattle.std.proofs.Common.{◌≡◌, ◌==◌, ℕ, true, false, get_or, arith}
use Rattle.flow_cycle.specs.declared.Waits.{Waits}
use Rattle.flow_draw.proofs.Cycles.{any-past, any-here, any-none}
use Rattle.flow_draw.proofs.remarks.waits_at.Goals as goal

abbrev first : Waits
first = record { process = 0; connection = 0; to = 0 }

pub loop-waits-preserved : goal.loop-waits-preserved
loop-waits-preserved c =
    let n : ℕ = c.args.connection in
    let fails : ((get_or c.args.cycle.now c.loop-waits.waits-index first).connection == n) ≡ false = grind (arith, c.if-waits-connection.false) in
    any-past (λ (x : Waits). x.connection == n) c.args.cycle.now c.loop-waits.waits-index first _ c.loop-waits-test.true fails c.loop-waits.invariant

pub returns-then-waits-connection : goal.returns-then-waits-connection
returns-then-waits-connection c =
    let n : ℕ = c.args.connection in
    let passes : ((get_or c.args.cycle.now c.loop-waits.waits-index first).connection == n) ≡ true = grind (arith, c.if-waits-connection.true) in
    any-here (λ (x : Waits). x.connection == n) c.args.cycle.now c.loop-waits.waits-index first _ c.loop-waits-test.true passes c.loop-waits.invariant

pub returns : goal.returns
returns c = any-none (λ (x : Waits). x.connection == c.args.connection) c.args.cycle.now c.loop-waits.waits-index _ c.loop-waits-test.false
    c.loop-waits.invariant
