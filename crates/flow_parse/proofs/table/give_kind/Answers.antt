use Rattle.std.proofs.Common.{refl, Some}
use Rattle.flow_parse.proofs.TableLaws.{given_known, given_new, names_stay}
use Rattle.flow_parse.proofs.table.give_kind.Goals as goal

pub returns-in-Some-clause-given : goal.returns-in-Some-clause-given
returns-in-Some-clause-given c = rw (c.is.ensures, c.as_slice.ensures) (given_known c.args.known.now.items c.args.place c.index_mut-process.result.now c.in-Some.before c.args.kind c.requires c.index_mut-process.ensures.value c.in-Some.is)

pub returns-in-Some-clause-names : goal.returns-in-Some-clause-names
returns-in-Some-clause-names c = names_stay c.args.known.now.items c.args.place c.index_mut-process.result.now c.index_mut-process.result.now c.index_mut-process.ensures.value refl

pub returns-clause-given : goal.returns-clause-given
returns-clause-given c = given_new c.args.known.now.items c.args.place c.index_mut-process.result.now c.args.kind c.requires c.index_mut-process.ensures.value c.in_default.is

pub returns-clause-names : goal.returns-clause-names
returns-clause-names c = names_stay c.args.known.now.items c.args.place c.index_mut-process.result.now (record c.index_mut-process.result.now { kind = Some c.args.kind }) c.index_mut-process.ensures.value refl
