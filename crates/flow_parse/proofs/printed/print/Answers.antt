use Rattle.flow_parse.proofs.PrintedFile.{canonical_spells}
use Rattle.flow_parse.proofs.printed.print.Goals as goal

pub returns-clause-spells : goal.returns-clause-spells
returns-clause-spells c = λ is. rw (c.in_ok-put_part.ensures, c.in_ok-put_subnets.ensures, c.in_ok-put_header.ensures, c.new-out.ensures.items, c.as_slice.ensures) (canonical_spells c.args.text.now is)
