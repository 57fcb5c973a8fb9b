use Rattle.flow_tape.proofs.Spelling.{cut-up}
use Rattle.flow_tape.proofs.FileReader.{one-list, tapes-or-fault, one-fault, begins-none}
use Rattle.flow_tape.proofs.law.a_file_has_one_list_of_tapes_or_one_fault.Goals as goal

pub returns-clause-fields : goal.returns-clause-fields
returns-clause-fields c = cut-up

pub returns-clause-tapes : goal.returns-clause-tapes
returns-clause-tapes c = one-list

pub returns-clause-apart : goal.returns-clause-apart
returns-clause-apart c = tapes-or-fault

pub returns-clause-fault : goal.returns-clause-fault
returns-clause-fault c = one-fault

pub returns-clause-begins : goal.returns-clause-begins
returns-clause-begins c = begins-none
