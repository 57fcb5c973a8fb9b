-- The files of a batch update that sorts.
use Rattle.std.proofs.Common.{◌≡◌, true, [], ◌∷◌, Some, refl, ap, ◌∙◌}
use Rattle.flow_parts.specs.Meanings.{rendered_all}
use Rattle.flow_streams.specs.Collated.{collation}
use Rattle.flow_streams.specs.Meanings.{fresh_collate}
use Rattle.flow_sort.specs.Sorted.{sorted_stretches}
use Rattle.flow_sort.specs.Meanings.{fresh_sort}
use Rattle.flow_batch.specs.Around.{Outside}
use Rattle.flow_batch.specs.Updated.{fresh_update, new_masters, refused_packets}
use Rattle.flow_batch.specs.Batch.{stream_of}
use Rattle.flow_batch.proofs.Collating.{batch-is-book}
use Rattle.flow_catalogue.specs.declared.standard.Std.TheVariants as components
use Rattle.flow_model.specs.Plans.{sends_at}
use Rattle.flow_meanings.specs.Composition.{leaving}
use Rattle.flow_meanings.specs.SortingBatches.{SortingBatchMeans}
use Rattle.flow_meanings.proofs.BatchParts.{collate-there, update-there, writer-there, sort-there}
use Rattle.flow_meanings.proofs.Batching.{fed, file-texts, file-entries}
use Rattle.flow_meanings.proofs.SortedTexts.{sorted_texts, sorted-stream, texts-sorted, same-amounts, same-refused}

-- The writers of a batch update that sorts its files have written the book of the files as they came.
pub sorting-batch-means : SortingBatchMeans
sorting-batch-means plan ks wrote are m keylen master_reader detail_reader new refused masters details small is read_masters read_details =
    let first_reader = m.each master_reader is.reads_masters.process (components.ReadLines masters) is.reads_masters.there read_masters in
    let second_reader = m.each detail_reader is.reads_details.process (components.ReadLines details) is.reads_details.there read_details in
    let sorts_first = m.each is.master_sorter is.sorts_masters.of_kind.process (components.Sort (fresh_sort (Some keylen))) is.sorts_masters.of_kind.there (sort-there plan ks are m.one_each is.master_sorter keylen small is.sorts_masters) in
    let sorts_second = m.each is.detail_sorter is.sorts_details.of_kind.process (components.Sort (fresh_sort (Some keylen))) is.sorts_details.of_kind.there (sort-there plan ks are m.one_each is.detail_sorter keylen small is.sorts_details) in
    let collates = m.each is.collator is.collates.of_kind.process (components.Collate (fresh_collate (keylen ∷ []) 2)) is.collates.of_kind.there (collate-there plan ks are m.one_each is.collator keylen small is.collates is.two) in
    let updates = m.each is.updater is.updates.of_kind.process (components.Update (fresh_update keylen true)) is.updates.of_kind.there (update-there plan ks are m.one_each is.updater keylen small is.updates is.to_refused.connection is.to_refused.sends) in
    let writes = m.each new is.writes_new.process (components.WriteLines []) is.writes_new.there (writer-there plan ks are m.one_each new is.writes_new) in
    let reports = m.each refused is.writes_refused.process (components.WriteLines []) is.writes_refused.there (writer-there plan ks are m.one_each refused is.writes_refused) in
    let u = fed plan ks wrote m master_reader 0 is.master_sorter 0 _ is.sorts_masters.of_kind.process is.from_masters ∙ first_reader in
    let v = fed plan ks wrote m detail_reader 0 is.detail_sorter 0 _ is.sorts_details.of_kind.process is.from_details ∙ second_reader in
    let x = fed plan ks wrote m is.master_sorter 0 is.collator 0 _ is.collates.of_kind.process is.sorted_masters ∙ sorts_first ∙ ap (sorted_stretches (Some keylen)) u ∙ sorted-stream keylen masters in
    let y = fed plan ks wrote m is.detail_sorter 0 is.collator 1 _ is.collates.of_kind.process is.sorted_details ∙ sorts_second ∙ ap (sorted_stretches (Some keylen)) v ∙ sorted-stream keylen details in
    let collated : leaving m.on (record { process = is.collator; output = 0 }) (sends_at plan is.collator 0) ≡ collation (keylen ∷ []) (stream_of (sorted_texts keylen masters) ∷ stream_of (sorted_texts keylen details) ∷ []) =
    collates ∙ (λ i. collation (keylen ∷ []) (x i ∷ y i ∷ [])) in
    let got = fed plan ks wrote m is.collator 0 is.updater 0 _ is.updates.of_kind.process is.to_updater ∙ collated in
    let b = batch-is-book keylen (sorted_texts keylen masters) (sorted_texts keylen details) (texts-sorted keylen masters) (texts-sorted keylen details) in
    record {
      entries = b.entries;
      amounts = same-amounts keylen masters details b.entries b.amounts;
      lines = writes ∙ ap rendered_all (fed plan ks wrote m is.updater 0 new 0 _ is.writes_new.process is.to_new ∙ updates.masters ∙ ap (new_masters keylen Outside) got ∙ b.lines) ∙ file-entries b.entries;
      texts = b.texts;
      stable = same-refused keylen masters details b.texts b.stable;
      refusals = reports ∙ ap rendered_all (fed plan ks wrote m is.updater 1 refused 0 _ is.writes_refused.process is.to_refused ∙ updates.refusals refl ∙ ap (refused_packets keylen Outside) got ∙ b.refusals) ∙ file-texts b.texts;
    }
