use Rattle.flow_pattern.proofs.Readings.{is_pattern, names_so, no_pattern}
use Rattle.flow_pattern.proofs.reading.read.Goals as goal

pub returns-in-Ok-clause-some : goal.returns-in-Ok-clause-some
returns-in-Ok-clause-some c = is_pattern c.args.source.now c.in-Ok.parsed.hir _ c.requires.short c.utf8.source (rw c.options.ensures at c.in-Ok.ensures.ok)

pub returns-in-Ok-clause-names : goal.returns-in-Ok-clause-names
returns-in-Ok-clause-names c = names_so c.args.source.now c.in-Ok.parsed.hir _ (rw c.options.ensures at c.in-Ok.ensures.ok)

pub returns-in_default : goal.returns-in_default
returns-in_default c = record {
  place = c.in-Err.ensures.span.1.0;
  none = no_pattern c.args.source.now c.in-Err.error.kind c.in_default.not-OutOfMemory (rw c.options.ensures at c.in-Err.ensures.err);
  some = tt;
  reads = tt;
  formed = tt;
  names = tt;
  group_zero = tt;
}
