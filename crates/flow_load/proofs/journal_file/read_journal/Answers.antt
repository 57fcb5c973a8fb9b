use Rattle.std.proofs.Common.{◌++◌, ◌+◌, List, ℕ, Err, refl, subst}
use Rattle.flow_text.specs.ReadAll.{ReadsAll}
use Rattle.flow_text.specs.declared.all.ReadStop.{ReadStop}
use Rattle.flow_journal.specs.Files.{IsFault, IsFileOf, header_written}
use Rattle.flow_load.proofs.JournalFiles.{body-failed, body-longer, body-read, body-refused, front-failed-there, header-refused, refused}
use Rattle.flow_load.proofs.journal_file.read_journal.Goals as goal

pub returns-in-Err : goal.returns-in-Err
returns-in-Err g c =
    front-failed-there (g.F.Edge.outside c.args.shelf.now) (g.F.Edge.outside c.open.new.self) c.args.name.now c.in-Ok.ensures.opens.0
    (g.F.Edge.outside c.read_front.new.source) c.read_front.new.front c.in-Err.field-0 c.read_stop-in-Err.result c.in-Err.ensures c.read_stop-in-Err.ensures

pub returns-in-Err-from_bytes : goal.returns-in-Err-from_bytes
returns-in-Err-from_bytes g c =
    let o = g.F.Edge.outside c.args.shelf.now in
    let n = g.F.Edge.outside c.read_front.new.source in
    let place = c.in-Err-from_bytes.fault.place in
    refused o n c.args.name.now c.refused_at.result place c.refused_at.ensures
    (header-refused o (g.F.Edge.outside c.open.new.self) c.args.name.now c.in-Ok.ensures.opens.0 c.in-Ok.ensures.opens.1
    n c.read_front.new.front c.in-Ok-read_front.count place c.in-Ok-read_front.ensures c.read_front.auto.front c.in-Err-from_bytes.ensures.fault)

pub returns-in-Ok-from_body : goal.returns-in-Ok-from_body
returns-in-Ok-from_body g c =
    let header = c.in-Ok-from_bytes.header in
    let journal = c.in-Ok-from_body.journal in
    body-read (g.F.Edge.outside c.args.shelf.now) (g.F.Edge.outside c.open.new.self) c.args.name.now c.in-Ok.ensures.opens.0
    (g.F.Edge.outside c.read_front.new.source) c.read_front.new.front c.in-Ok-read_front.count header c.in-Ok-read_front.ensures c.read_front.auto.front c.in-Ok-from_bytes.ensures.header
    c.in-Ok.ensures.opens.1 (g.F.Edge.outside c.read_all.new.source) c.in-Ok-read_all.body c.body_length-length.result journal c.in-Ok-read_all.ensures
    (subst (λ (body : List ℕ). IsFileOf journal (header_written header.turns header.seen ++ body)) c.deref.ensures.value c.in-Ok-from_body.ensures.file)

pub returns-in-Err-Fault-from_body : goal.returns-in-Err-Fault-from_body
returns-in-Err-Fault-from_body g c =
    let o = g.F.Edge.outside c.args.shelf.now in
    let n = g.F.Edge.outside c.read_all.new.source in
    let header = c.in-Ok-from_bytes.header in
    let place = c.in-Err-Fault-from_body.fault.place in
    refused o n c.args.name.now c.refused_at-in-Err-Fault-from_body.result place c.refused_at-in-Err-Fault-from_body.ensures
    (body-refused o (g.F.Edge.outside c.open.new.self) c.args.name.now c.in-Ok.ensures.opens.0
    (g.F.Edge.outside c.read_front.new.source) c.read_front.new.front c.in-Ok-read_front.count header c.in-Ok-read_front.ensures c.read_front.auto.front c.in-Ok-from_bytes.ensures.header
    c.in-Ok.ensures.opens.1 n c.in-Ok-read_all.body c.body_length-length.result place c.body_length-length.ensures c.in-Ok-read_all.ensures
    (subst (λ (body : List ℕ). IsFault (header_written header.turns header.seen ++ body) place) c.deref.ensures.value (rw c.in-Err-Fault-from_body.field-0-is at c.in-Err-Fault-from_body.ensures.fault)))

pub returns-in-Err-TooLong : goal.returns-in-Err-TooLong
returns-in-Err-TooLong g c =
    let o = g.F.Edge.outside c.args.shelf.now in
    let n = g.F.Edge.outside c.read_all.new.source in
    let limit = c.body_length-length.result in
    refused o n c.args.name.now c.refused_at-in-Err-TooLong.result (16 + limit) c.refused_at-in-Err-TooLong.ensures
    (body-longer o (g.F.Edge.outside c.open.new.self) c.args.name.now c.in-Ok.ensures.opens.0
    (g.F.Edge.outside c.read_front.new.source) c.read_front.new.front c.in-Ok-read_front.count c.in-Ok-from_bytes.header c.in-Ok-read_front.ensures c.read_front.auto.front
    c.in-Ok-from_bytes.ensures.header c.in-Ok.ensures.opens.1 n limit c.in-Err-TooLong.field-0-0 (16 + limit) c.body_length-length.ensures
    (subst (λ (why : ReadStop). ReadsAll (g.F.Edge.outside c.read_front.new.source) n (Err why) limit) c.in-Err-TooLong.field-0-is c.in-Err-TooLong.ensures) refl)

pub returns-in-Err-Fault-read_all : goal.returns-in-Err-Fault-read_all
returns-in-Err-Fault-read_all g c =
    let n = g.F.Edge.outside c.read_all.new.source in
    body-failed (g.F.Edge.outside c.args.shelf.now) (g.F.Edge.outside c.open.new.self) c.args.name.now c.in-Ok.ensures.opens.0
    (g.F.Edge.outside c.read_front.new.source) c.read_front.new.front c.in-Ok-read_front.count c.in-Ok-from_bytes.header c.in-Ok-read_front.ensures c.read_front.auto.front
    c.in-Ok-from_bytes.ensures.header n c.body_length-length.result c.read_stop-in-Err-Fault-read_all.result
    (subst (λ (why : ReadStop). ReadsAll (g.F.Edge.outside c.read_front.new.source) n (Err why) c.body_length-length.result) c.in-Err-Fault-read_all.field-0-is c.in-Err-Fault-read_all.ensures)
    c.read_stop-in-Err-Fault-read_all.ensures
