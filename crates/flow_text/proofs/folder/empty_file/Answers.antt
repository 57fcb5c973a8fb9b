use Rattle.std.proofs.Common.{◌≡◌, ◌∷◌, [], ◌++◌, None, length, List, map, refl, sym, ◌∙◌, subst}
use Rattle.flow_text.specs.Folder.{Stored, IsPlace, Emptied, held, named}
use Rattle.flow_text.proofs.Folders.{emptied-set, emptied-push}
use Rattle.flow_text.proofs.folder.empty_file.Goals as goal

pub returns-in_ok-push-in-None-clause-ok : goal.returns-in_ok-push-in-None-clause-ok
returns-in_ok-push-in-None-clause-ok c =
    let old = c.args.files.now.items in
    let name = c.args.name.now in
    let new : Stored = (c.in_ok-name-in-None.name, c.in_ok-bytes.bytes) in
    let absent : held (map named old) name ≡ None = subst (λ (files : List Stored). held (map named files) name ≡ None) c.deref.ensures.value c.in-None.ensures in
    let at : c.len-place.result ≡ length old = c.len-place.ensures ∙ c.args.files.now.ok.0 in
    subst (λ files. Emptied old files name c.args.room c.len-place.result) (sym c.in_ok-push-in-None.ensures.items)
    (subst (λ place. Emptied old (old ++ new ∷ []) name c.args.room place) (sym at)
    (emptied-push old name c.args.room new absent c.in_ok-name-in-None.ensures.ok c.in_ok-bytes.ensures.items c.in_ok-bytes.ensures.capacity))

pub returns-in-Some-clause-ok : goal.returns-in-Some-clause-ok
returns-in-Some-clause-ok c =
    let old = c.args.files.now.items in
    let name = c.args.name.now in
    let file = c.index_mut-file.result.now in
    let new : Stored = (file.0, c.in_ok-bytes.bytes) in
    let place : IsPlace old name c.in-Some.place = subst (λ (files : List Stored). IsPlace files name c.in-Some.place) c.deref.ensures.value c.in-Some.ensures in
    emptied-set old name c.in-Some.place c.args.room file new c.index_mut-file.ensures.value place refl c.in_ok-bytes.ensures.items c.in_ok-bytes.ensures.capacity
