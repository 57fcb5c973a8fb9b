-- The files of a batch update.
use Rattle.std.proofs.Common.{◌≡◌, ℕ, true, List, [], ◌∷◌, ◌++◌, map, Option, refl, sym, ap, ◌∙◌}
use Rattle.flow_component.specs.Runs.{text_packet}
use Rattle.flow_parts.specs.Meanings.{rendered_all}
use Rattle.flow_streams.specs.Collated.{collation}
use Rattle.flow_streams.specs.Meanings.{fresh_collate}
use Rattle.flow_batch.specs.Ledger.{Entry, line_of}
use Rattle.flow_batch.specs.Around.{Outside}
use Rattle.flow_batch.specs.Updated.{fresh_update, new_masters, refused_packets}
use Rattle.flow_batch.specs.Batch.{stream_of}
use Rattle.flow_batch.proofs.Collating.{batch-is-book}
use Rattle.flow_catalogue.specs.declared.standard.Std.{Std}
use Rattle.flow_catalogue.specs.declared.standard.Std.TheVariants as components
use Rattle.flow_model.specs.Plans.{sends_at, input_at, connected_or, text_at}
use Rattle.flow_plan.specs.Network.{Network as Plan}
use Rattle.flow_plan.specs.declared.plan.Process.{Process as PlanProcess}
use Rattle.flow_meanings.specs.Composition.{arriving, leaving, Composes}
use Rattle.flow_meanings.specs.Batches.{EndedCollates, Feeds, file_of, BatchMeans}
use Rattle.flow_meanings.proofs.BatchParts.{collate-there, update-there, writer-there}
use Rattle.flow_meanings.proofs.Chaining.{own-stream}
use Rattle.flow_meanings.proofs.Composing.{keeps-meanings}

-- An ended Collate has sent the collation of what its elements got.
pub ended-collates : EndedCollates
ended-collates plan ks journal s well first leads p state x here there ended = keeps-meanings plan ks journal s well leads p (components.Collate state) x here (first p (components.Collate state) here) there ended

-- What leaves an output arrives at the input that it feeds.
pub fed : (plan : Plan) (ks : List Std) (wrote : ℕ → List ℕ) (m : Composes plan ks wrote) (p o q i n : ℕ) (x : PlanProcess) → Feeds plan p o q i → arriving m.on n (input_at plan q x i) ≡ leaving m.on (record { process = p; output = o }) (sends_at plan p o)
fed plan ks wrote m p o q i n x f = ap (λ (found : Option ℕ). arriving m.on n (connected_or (text_at x.initials i) found)) f.receives ∙ sym (own-stream plan ks wrote m p o f.connection f.sends f.alone)

-- A file of texts is what a writer renders of them.
pub file-texts : (texts : List (List ℕ)) → rendered_all (stream_of texts) ≡ file_of texts
file-texts [] = refl
file-texts (t ∷ ts) = ap (λ (bytes : List ℕ). (t ++ 10 ∷ []) ++ bytes) (file-texts ts)

-- So is a file of entries.
pub file-entries : (entries : List Entry) → rendered_all (map (λ (entry : Entry). text_packet (line_of entry)) entries) ≡ file_of (map line_of entries)
file-entries [] = refl
file-entries (e ∷ es) = ap (λ (bytes : List ℕ). (line_of e ++ 10 ∷ []) ++ bytes) (file-entries es)

-- The writers of a batch update of sorted files have written its book.
pub batch-means : BatchMeans
batch-means plan ks wrote are m keylen master_reader detail_reader new refused masters details small is read_masters read_details first second =
    let first_reader = m.each master_reader is.reads_masters.process (components.ReadLines masters) is.reads_masters.there read_masters in
    let second_reader = m.each detail_reader is.reads_details.process (components.ReadLines details) is.reads_details.there read_details in
    let collates = m.each is.collator is.collates.of_kind.process (components.Collate (fresh_collate (keylen ∷ []) 2)) is.collates.of_kind.there (collate-there plan ks are m.one_each is.collator keylen small is.collates is.two) in
    let updates = m.each is.updater is.updates.of_kind.process (components.Update (fresh_update keylen true)) is.updates.of_kind.there (update-there plan ks are m.one_each is.updater keylen small is.updates is.to_refused.connection is.to_refused.sends) in
    let writes = m.each new is.writes_new.process (components.WriteLines []) is.writes_new.there (writer-there plan ks are m.one_each new is.writes_new) in
    let reports = m.each refused is.writes_refused.process (components.WriteLines []) is.writes_refused.there (writer-there plan ks are m.one_each refused is.writes_refused) in
    let x = fed plan ks wrote m master_reader 0 is.collator 0 _ is.collates.of_kind.process is.from_masters ∙ first_reader in
    let y = fed plan ks wrote m detail_reader 0 is.collator 1 _ is.collates.of_kind.process is.from_details ∙ second_reader in
    let collated : leaving m.on (record { process = is.collator; output = 0 }) (sends_at plan is.collator 0) ≡ collation (keylen ∷ []) (stream_of masters ∷ stream_of details ∷ []) =
    collates ∙ (λ i. collation (keylen ∷ []) (x i ∷ y i ∷ [])) in
    let got = fed plan ks wrote m is.collator 0 is.updater 0 _ is.updates.of_kind.process is.to_updater ∙ collated in
    let b = batch-is-book keylen masters details first second in
    record {
      entries = b.entries;
      amounts = b.amounts;
      lines = writes ∙ ap rendered_all (fed plan ks wrote m is.updater 0 new 0 _ is.writes_new.process is.to_new ∙ updates.masters ∙ ap (new_masters keylen Outside) got ∙ b.lines) ∙ file-entries b.entries;
      texts = b.texts;
      stable = b.stable;
      refusals = reports ∙ ap rendered_all (fed plan ks wrote m is.updater 1 refused 0 _ is.writes_refused.process is.to_refused ∙ updates.refusals refl ∙ ap (refused_packets keylen Outside) got ∙ b.refusals) ∙ file-texts b.texts;
    }
