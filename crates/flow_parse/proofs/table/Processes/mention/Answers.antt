use Rattle.std.proofs.Common.{subst, Option, List}
use Rattle.flow_parse.specs.declared.table.MentionedProcess.{MentionedProcess}
use Rattle.flow_parse.specs.Table.{Adds}
use Rattle.flow_parse.proofs.TableLaws.{new_mention, unkinded_mention, kinded_mention}
use Rattle.flow_parse.proofs.table.Processes.mention.Goals as goal

pub returns-in_default : goal.returns-in_default
returns-in_default c = rw c.in_ok-push.ensures (new_mention c.args.self.now c.args.line c.args.mention (rw c.as_slice.ensures at c.in_default.ensures))

pub returns-in_default-kind : goal.returns-in_default-kind
returns-in_default-kind c = unkinded_mention c.args.self.now c.args.line c.args.mention c.in-Some.place (rw c.as_slice.ensures at c.in-Some.ensures) c.in_default-kind.is

pub returns : goal.returns
returns c = subst (λ (t : Option (List MentionedProcess)). Adds t c.give_kind.new.self c.give_kind.result) (kinded_mention c.args.self.now c.args.line c.args.mention c.in-Some.place c.in-Some-kind.kind (rw c.as_slice.ensures at c.in-Some.ensures) c.in-Some-kind.is) c.give_kind.ensures
