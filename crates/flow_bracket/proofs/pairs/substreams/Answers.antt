use Rattle.std.proofs.Common.{◌≡◌, ◌<◌, [], sym, subst, ◌∙◌, arith, ℕ, List, vec_len}
use Rattle.std.proofs.lemmas.Bool.Decides.{nat_tests}
use Rattle.std.proofs.lemmas.List.{nil_from_length}
use Rattle.flow_bracket.specs.Scans.{Scanned}
use Rattle.flow_bracket.proofs.Pairing.{whole, over}
use Rattle.flow_bracket.proofs.pairs.substreams.Goals as goal

pub returns-then-not-is_empty-clause-none : goal.returns-then-not-is_empty-clause-none
returns-then-not-is_empty-clause-none c =
    let first : c.loop-place.place ≡ 0 = omega arith in
    let scanned = subst (λ (place : ℕ). Scanned c.args.kinds.now place c.loop-place.closes.items c.loop-place.pairs.items) first c.loop-place.invariant.1 in
    let test = c.if-not-is_empty.ensures in
    let some : 0 < vec_len c.loop-place.closes = grind (arith, nat_tests) in
    let size = c.loop-place.closes.ok.0 in
    λ _. over c.args.kinds.now c.loop-place.closes.items c.loop-place.pairs.items scanned (omega arith)

pub returns-clause-pairs : goal.returns-clause-pairs
returns-clause-pairs c =
    let first : c.loop-place.place ≡ 0 = omega arith in
    let test = c.if-not-is_empty.ensures in
    let empty : vec_len c.loop-place.closes ≡ 0 = grind (arith, nat_tests) in
    let none : c.loop-place.closes.items ≡ [] = nil_from_length _ (sym c.loop-place.closes.ok.0 ∙ empty) in
    let scanned = subst (λ (place : ℕ). Scanned c.args.kinds.now place c.loop-place.closes.items c.loop-place.pairs.items) first c.loop-place.invariant.1 in
    let free = subst (λ (closes : List ℕ). Scanned c.args.kinds.now 0 closes c.loop-place.pairs.items) none scanned in
    rw c.reverse.ensures.items (whole c.args.kinds.now c.loop-place.pairs.items free).1
