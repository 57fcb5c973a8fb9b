use Rattle.std.proofs.Common.{refl}
use Rattle.flow_text.specs.Folder.{Stored}
use Rattle.flow_text.proofs.Folders.{fits-at, writable-set, name-set, grown-set, taken-set}
use Rattle.flow_text.proofs.folder.append_at.Goals as goal

pub extend_within-requires : goal.extend_within-requires
extend_within-requires c = record {
  roomy = fits-at c.args.files.now.items c.args.place c.args.room c.index_mut-file.result.now c.args.bytes.now
      c.index_mut-file.ensures.value c.requires.writable c.requires.fits;
}

pub returns-clause-writable : goal.returns-clause-writable
returns-clause-writable c =
    let new : Stored = (c.index_mut-file.result.now.0, c.extend_within.new.had) in
    writable-set c.args.files.now.items c.args.place c.args.room c.index_mut-file.result.now new
    c.index_mut-file.ensures.value c.requires.writable refl c.extend_within.ensures.capacity

pub returns-clause-name : goal.returns-clause-name
returns-clause-name c =
    let new : Stored = (c.index_mut-file.result.now.0, c.extend_within.new.had) in
    name-set c.args.files.now.items c.args.place c.args.room c.index_mut-file.result.now new
    c.index_mut-file.ensures.value c.requires.writable refl

pub returns-clause-grown : goal.returns-clause-grown
returns-clause-grown c =
    let new : Stored = (c.index_mut-file.result.now.0, c.extend_within.new.had) in
    grown-set c.args.files.now.items c.args.place c.args.room c.index_mut-file.result.now new
    c.index_mut-file.ensures.value c.requires.writable refl c.args.bytes.now c.extend_within.ensures.items

pub returns-clause-taken : goal.returns-clause-taken
returns-clause-taken c =
    let new : Stored = (c.index_mut-file.result.now.0, c.extend_within.new.had) in
    taken-set c.args.files.now.items c.args.place c.args.room c.index_mut-file.result.now new
    c.index_mut-file.ensures.value c.requires.writable refl c.args.bytes.now c.extend_within.ensures.items
