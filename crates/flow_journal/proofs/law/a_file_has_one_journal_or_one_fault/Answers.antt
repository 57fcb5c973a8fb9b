use Rattle.flow_journal.proofs.FileLaws.{one-journal, journal-or-fault, one-fault}
use Rattle.flow_journal.proofs.law.a_file_has_one_journal_or_one_fault.Goals as goal

pub returns-clause-journal : goal.returns-clause-journal
returns-clause-journal c = one-journal

pub returns-clause-apart : goal.returns-clause-apart
returns-clause-apart c = journal-or-fault

pub returns-clause-fault : goal.returns-clause-fault
returns-clause-fault c = one-fault
