-- The same is told of two states that differ in their components alone.
use Rattle.std.proofs.Common.{ℕ}
use Rattle.flow_model.specs.States.{State}
use Rattle.flow_model.specs.Replaced.{all_replaced, replaced}
use Rattle.flow_played.specs.Alike.{ToldAlike}
use Rattle.flow_played.proofs.Alike.{alike-sym, alike-replaced, ended-alike, failed-alike, quiet-alike, one-alike, order-alike}
use Rattle.flow_played.proofs.AlikeReports.{report-alike}

-- With other components in their places the same is told of a state.
pub told-replaced : {K L : Type 0} (other : ℕ → K → L) (s : State K) → ToldAlike s (replaced other s)
told-replaced other s =
    let xs = s.kept.processes in
    let ys = all_replaced other xs in
    let alike = alike-replaced other xs in
    let back = alike-sym xs ys alike in
    record {
      quiet = (quiet-alike s.kept.channels s.past xs ys alike, quiet-alike s.kept.channels s.past ys xs back);
      one_place = (one-alike s.kept.channels s.past xs ys alike, one-alike s.kept.channels s.past ys xs back);
      in_order = (order-alike s.kept.channels s.past xs ys alike, order-alike s.kept.channels s.past ys xs back);
      all_ended = (ended-alike s.kept.channels s.past xs ys alike, ended-alike s.kept.channels s.past ys xs back);
      some_failed = (failed-alike s.kept.channels s.past xs ys alike, failed-alike s.kept.channels s.past ys xs back);
      reports = λ plan told. (report-alike s.kept.channels s.past xs ys alike plan told, report-alike s.kept.channels s.past ys xs back plan told);
    }
