use Rattle.std.proofs.Common.{rules, ◌≡◌, ◌∙◌, ◌++◌, ◌-◌, List, ℕ, length, take, drop, sym, subst, length-drop}
use Rattle.std.proofs.lemmas.List.{take-append-drop, take_all}
use Rattle.std.specs.Prelude.{IfOk, IfErr}
use Rattle.flow_journal.specs.Files.{header_written, IsFileOf, StopsReading}
use Rattle.flow_journal.proofs.HeaderLemmas.{fault-alone}
use Rattle.flow_journal.proofs.merge.Journal.from_bytes.Goals as goal

-- A file is its header with what follows that.
cut : (bytes header : List ℕ) → take 16 bytes ≡ header → header ++ take (length bytes - 16) (drop 16 bytes) ≡ bytes
cut bytes header is =
    let rest : take (length bytes - 16) (drop 16 bytes) ≡ drop 16 bytes = search (rules, take_all, length-drop) in
    (λ i. sym is i ++ rest i) ∙ take-append-drop 16 bytes

pub returns-clause-file : goal.returns-clause-file
returns-clause-file c =
    let header = c.in_ok-header.header in
    subst (λ (bytes : List ℕ). IfOk c.from_body.result (λ journal. IsFileOf journal bytes)) (cut c.args.bytes.now (header_written header.turns header.seen) c.in_ok-header.ensures.header) c.from_body.ensures.file

pub returns-clause-fault : goal.returns-clause-fault
returns-clause-fault c =
    let header = c.in_ok-header.header in
    subst (λ (bytes : List ℕ). IfErr c.from_body.result (StopsReading bytes)) (cut c.args.bytes.now (header_written header.turns header.seen) c.in_ok-header.ensures.header) c.from_body.ensures.fault

pub returns-in_err-header-clause-fault : goal.returns-in_err-header-clause-fault
returns-in_err-header-clause-fault c = search (rules, fault-alone)
