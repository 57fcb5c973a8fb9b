use Rattle.std.proofs.Common.{rules, sym}
use Rattle.flow_own.proofs.Players.{found-Some, found-None}
use Rattle.flow_own.proofs.play.take_out.Goals as goal

pub returns-in-Some-clause-out : goal.returns-in-Some-clause-out
returns-in-Some-clause-out c = let f = found-Some c.deref.result.now c.args.id c.in-Some.place (sym c.in-Some.ensures) in search (rules, f.out)

pub returns-in-Some-clause-found : goal.returns-in-Some-clause-found
returns-in-Some-clause-found c = let f = found-Some c.deref.result.now c.args.id c.in-Some.place (sym c.in-Some.ensures) in search (rules, f.among)

pub returns-in-None-clause-found : goal.returns-in-None-clause-found
returns-in-None-clause-found c = let f = found-None c.deref.result.now c.args.id (sym c.in-None.ensures) in search (rules, f)
