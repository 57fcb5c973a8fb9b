use Rattle.flow_parse.proofs.Printing.{one_more_byte}
use Rattle.flow_fill.proofs.rows.put_doubled.Goals as goal

pub bytes-preserved : goal.bytes-preserved
bytes-preserved c = one_more_byte c.args.text.now c.bytes.byte-index c.args.out.now.items c.bytes.out.items c.put_byte.new.out.items c.bytes-test.true c.bytes.invariant c.in_ok-put_byte.ensures
