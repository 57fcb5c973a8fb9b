-- The calls of a caller with a kind of its own: each meets the premises of completeness and comes to its end.
use Rattle.flow_limits.specs.declared.TheConstants.{FILE_LIMIT}
use Rattle.std.proofs.Common.{◌≡◌, ℕ, ◌<◌, ◌≤◌, List, [], ◌∷◌, ◌++◌, ◌∙◌, ap, map, length, Some, None, refl, sym, subst, inl, inr, arith, slice_get}
use Rattle.std.specs.Prelude.{codes, Option, String, slice_index}
use Rattle.std.specs.List.{All}
use Rattle.std.specs.declared.alloc.Global.{Global}
use Rattle.flow_text.specs.Edge.{Outside, Name, Logged, begun}
use Rattle.flow_own.specs.declared.tape.Entry.{Entry}
use Rattle.flow_own.specs.Recorded.{IsEntryWritable, IsTapeWritable}
use Rattle.flow_tape.specs.Files.{IsWritable as IsTapesWritable}
use Rattle.flow_tape.specs.Faults.{IsFileOf as IsFileOfTapes, HasOneList}
use Rattle.flow_plan.specs.declared.plan.Process.{Process}
use Rattle.flow_plan.specs.Network.{Network}
use Rattle.flow_words.specs.declared.argument.Argument.TheVariants as arguments
use Rattle.flow_words.specs.Words.{AskedReport, AskedRun, Run, Replay, command_of, run_of}
use Rattle.flow_words.proofs.Laws.{asks}
use Rattle.flow_parse.specs.declared.value.NetText.{NetText}
use Rattle.flow_model.specs.Laws.{KeepsPrefixes}
use Rattle.flow_model.specs.Plans.{start_of, StartsWell}
use Rattle.flow_model.specs.Ready.{ComponentFits, StartsPlans}
use Rattle.flow_model.specs.Schedules.{Journal as Schedule, Leads}
use Rattle.flow_model.specs.States.{State}
use Rattle.flow_journal.specs.Files.{HasOneJournal, IsFileOf}
use Rattle.flow_journal.specs.Replays.{schedule_of}
use Rattle.flow_journal.specs.Runs.{IsScheduled, IsRun}
use Rattle.flow_journal.specs.declared.merge.Journal.{Journal}
use Rattle.flow_offer.specs.Fits.{FitsPlayed}
use Rattle.flow_offer.specs.Processes.{place_of}
use Rattle.flow_offer.specs.Shares.{FindsNoPart, earlier}
use Rattle.flow_report.specs.Text.{report_text}
use Rattle.flow_catalogue.specs.Std.{std_rules}
use Rattle.flow_load.specs.Step.{Filled, whole}
use Rattle.flow_load.specs.Networks.{Holds}
use Rattle.flow_load.specs.Offers.{AnyKind, Recorded, Taped, net_rules, parts_of}
use Rattle.flow_load.specs.Many.{replaced_all}
use Rattle.flow_load.specs.Runs.{kept_files, report_file}
use Rattle.flow_load.specs.Reads.{Asks, IsFile, IsJournalFile, IsTapesFile, IsReady}
use Rattle.flow_load.specs.Valid.{AreValid, BeginsJournal, IsLimitAt, IsValidReplay}
use Rattle.flow_load.specs.declared.status.Status.TheVariants.{Failed}
use Rattle.flow_cli.specs.After.{after_print, outputs_at, printed_text, remarked_text}
use Rattle.flow_cli.specs.Top.{Call}
use Rattle.flow_witness.specs.Complete.{CanMeet, shelf_with}
use Rattle.flow_witness.specs.Lone.{PremisesWithPartsAreMet, lone, lone_bytes, lone_file, lone_files, lone_journal, lone_journal_bytes, lone_journal_file, lone_offer, lone_process, lone_tape, lone_tape_bytes, lone_tape_file}
use Rattle.flow_witness.proofs.Wired.{at_one, at_three, none_there}
use Rattle.flow_witness.proofs.Premises.{asked_is, call_valid, net_argument, net_line, no_replay, one_schedule, tapes_of}
use Rattle.flow_witness.proofs.LonePlan.{are_components, holds, lone_value, offered, only-component, only_plan, own_kinds, playing, process_is, valid}
use Rattle.flow_witness.proofs.LoneRun.{lone_last, lone_leads, lone_played_out, lone_quiet, lone_report, lone_robin, lone_told}

-- What a replay reads.
abbrev replayed : List Filled
replayed = lone_file ∷ lone_journal_file ∷ lone_tape_file ∷ []

-- No number was seen.
none-seen : All (λ n. n < 65536) lone_journal.seen
none-seen k d below = absurd (omega (arith, below))

-- The bytes are the file of the journal.
journal_file_is : IsFileOf lone_journal lone_journal_bytes
journal_file_is = record { writable = record { turns = omega arith; seen = omega arith }; numbers = none-seen; is = refl }

-- The tape has a file.
entry-writable : (k : ℕ) (entry : Entry) → slice_get lone_tape k ≡ Some entry → IsEntryWritable entry
entry-writable k entry there = at_one (λ n (e : Entry). IsEntryWritable e) _ (record { short = tt; few = omega arith; of_part = tt }) k entry there

tapes-writable : IsTapesWritable (lone_tape ∷ [])
tapes-writable = record {
  few = omega arith;
  each = λ k tape there. at_one (λ n (t : Taped). IsTapeWritable t) lone_tape (record { few = omega arith; each = entry-writable }) k tape there;
}

-- The bytes are the file of the tape.
tape_file_is : IsFileOfTapes (lone_tape ∷ []) lone_tape_bytes
tape_file_is = record {
  writable = tapes-writable;
  whole = (tt, (tt, (tt, (tt, (tt, (tt, (tt, (tt, (omega arith, (omega arith, (omega arith, (omega arith, (omega arith, (omega arith, (omega arith, (tt, tt))))))))))))))));
  is = refl;
}

-- What the network file gave holds the network, and no other.
first_is : (name : Name) (net : List ℕ) → Some (whole lone_file) ≡ Some (whole (name, net)) → lone_bytes ≡ net
first_is name net there = let h : whole lone_file ≡ whole (name, net) = cc in ap (λ (file : Logged). file.bytes) h

has_plan : (name : Name) (net : List ℕ) → Some (whole lone_file) ≡ Some (whole (name, net)) → (text : NetText) × (plan : Network) × Holds own_kinds net text plan
has_plan name net there = (lone_value, lone, subst (λ (bytes : List ℕ). Holds own_kinds bytes lone_value lone) (first_is name net there) holds)

plan_is : (name : Name) (net : List ℕ) (text : NetText) (plan : Network) → Some (whole lone_file) ≡ Some (whole (name, net)) → Holds own_kinds net text plan → plan ≡ lone
plan_is name net text plan there is = only_plan text plan (subst (λ (bytes : List ℕ). Holds own_kinds bytes text plan) (sym (first_is name net there)) is)

-- The journal's file tells the journal, and no other.
begins : (given : Logged) → Some (whole lone_journal_file) ≡ Some given → BeginsJournal given
begins given there =
    let same : whole lone_journal_file ≡ given = cc in
    subst BeginsJournal same ([], (λ ended. refl), (lone_journal, journal_file_is))

journal_is : HasOneJournal → (name : Name) (bytes : List ℕ) (journal : Journal) → Some (whole lone_journal_file) ≡ Some (whole (name, bytes)) → IsFileOf journal bytes → schedule_of lone_journal ≡ schedule_of journal
journal_is single name bytes journal there is =
    let same : lone_journal_bytes ≡ bytes = (let h : whole lone_journal_file ≡ whole (name, bytes) = cc in ap (λ (file : Logged). file.bytes) h) in
    let one = single bytes lone_journal journal (subst (IsFileOf lone_journal) same journal_file_is) is in
    one_schedule lone_journal journal one.0 one.1

-- The file of tapes tells the tape, and no other.
tape_bytes_are : (name : Name) (bytes : List ℕ) → Some (whole lone_tape_file) ≡ Some (whole (name, bytes)) → lone_tape_bytes ≡ bytes
tape_bytes_are name bytes there = let h : whole lone_tape_file ≡ whole (name, bytes) = cc in ap (λ (file : Logged). file.bytes) h

tapes_are : HasOneList → (name : Name) (bytes : List ℕ) (told : List Taped) → Some (whole lone_tape_file) ≡ Some (whole (name, bytes)) → IsFileOfTapes told bytes → lone_tape ∷ [] ≡ told
tapes_are lists name bytes told there is = lists bytes (lone_tape ∷ []) told (subst (IsFileOfTapes (lone_tape ∷ [])) (tape_bytes_are name bytes there) tape_file_is) is

-- What a replay read besides is valid with the network.
valid_replay : HasOneJournal → HasOneList → IsValidReplay own_kinds (Some (codes "t")) (map whole replayed) lone
valid_replay single lists = record {
  journal = λ given there. begins given there;
  tapes_are = λ bytes gave. (lone_tape ∷ [], subst (IsFileOfTapes (lone_tape ∷ [])) (tape_bytes_are gave.0 bytes gave.1) tape_file_is, refl);
  schedule = λ bytes journal told given components gave is tapes read are.
      let same = tapes_are lists tapes.1.0 tapes.0 told tapes.1.1 tapes.2 in
      subst (λ (cs : List AnyKind). (last : State AnyKind) × Leads net_rules (start_of lone cs) (schedule_of journal) last) (sym (only-component given told components same are))
      (subst (λ (s : Schedule). (last : State AnyKind) × Leads net_rules (start_of lone (playing ∷ [])) s last) (journal_is single gave.0 bytes journal gave.1 is) (lone_last, lone_leads));
}

-- A limit is that of all files, or that of tapes, which is greater.
at-least : (words : List (String Global)) (place limit : ℕ) → IsLimitAt words place limit → FILE_LIMIT ≤ limit
at-least words place limit (inl tapes) = omega (arith, tapes.1)
at-least words place limit (inr other) = omega (arith, other.1)

within : (size limit : ℕ) → size ≤ FILE_LIMIT → FILE_LIMIT ≤ limit → size ≤ limit
within size limit short more = omega (arith, short, more)

-- What a replay read is valid.
replayed_valid : HasOneJournal → HasOneList → (words : List (String Global)) → Asks words (Replay (codes "net") (codes "j") (Some (codes "t"))) → AreValid (lone_offer 0) words (map whole replayed)
replayed_valid single lists words asked = record {
  network = λ net gave. has_plan gave.0 net gave.1;
  short = λ place limit file there other at.
      within (length file.bytes) limit
      (at_three (λ k (x : Logged). length x.bytes ≤ FILE_LIMIT) (whole lone_file) (whole lone_journal_file) (whole lone_tape_file) (omega arith) (omega arith) (omega arith) place file there)
      (at-least words place limit at);
  parts = λ run net text plan p asks_run gave holds found. absurd (no_replay words (run_of run) asks_run refl (codes "net", codes "j", Some (codes "t"), asked));
  replay = λ name kept tapes net text plan is gave holds.
      let same : Some (codes "t") ≡ tapes = ap tapes_of (asked_is (Replay (codes "net") (codes "j") (Some (codes "t"))) (Replay name kept tapes) (sym asked ∙ is)) in
      subst (λ (named : Option Name). IsValidReplay own_kinds named (map whole replayed) plan) same
      (subst (λ (n : Network). IsValidReplay own_kinds (Some (codes "t")) (map whole replayed) n) (sym (plan_is gave.0 net text plan gave.1 holds)) (valid_replay single lists));
}

-- The one process finds the one part.
finds-part : (p : ℕ) → FindsNoPart own_kinds (parts_of (lone_offer 1)) lone p → ⊥
finds-part p none =
    at_one (λ k (x : Process). (place : ℕ) → place_of own_kinds x.kind ≡ Some place → slice_index (1 ∷ []) place ≤ earlier lone x.kind k → ⊥) lone_process
    (λ place placed few. (let h : Some 0 ≡ Some place = placed in let same : 0 ≡ place = cc in omega (arith, few, ap (slice_index (1 ∷ [])) same)))
    p none.process none.there none.place none.placed none.few

-- What a run read is valid.
ran_valid : (words : List (String Global)) (asked : AskedRun) → Asks words (run_of asked) → AreValid (lone_offer 1) words (map whole (lone_file ∷ []))
ran_valid words asked is = record {
  network = λ net gave. has_plan gave.0 net gave.1;
  short = λ place limit file there other at.
      within (length file.bytes) limit (at_one (λ k (x : Logged). length x.bytes ≤ FILE_LIMIT) (whole lone_file) (omega arith) place file there) (at-least words place limit at);
  parts = λ run net text plan p asks_run gave holds none. finds-part p (subst (λ (n : Network). FindsNoPart own_kinds (parts_of (lone_offer 1)) n p) (plan_is gave.0 net text plan gave.1 holds) none);
  replay = λ name kept tapes net text plan asks_replay gave holds. absurd (no_replay words (run_of asked) is refl (name, kept, tapes, asks_replay));
}

-- Each file is held, and short.
net_is : IsFile own_kinds (Some lone_files) (codes "net") lone_bytes lone_value lone
net_is = record { read = record { short = omega arith; held = refl }; holds = holds; over = offered }

journal_read : IsJournalFile (Some lone_files) (codes "j") lone_journal_bytes lone_journal
journal_read = record { read = record { short = omega arith; held = refl }; is = journal_file_is }

tape_read : IsTapesFile (Some lone_files) (codes "t") lone_tape_bytes (lone_tape ∷ [])
tape_read = record { read = record { short = omega arith; held = refl }; is = tape_file_is }

-- The shelf before anything was read, and after these files were, the last of which has this name.
abbrev before : Outside
before = shelf_with lone_files

abbrev after : Name → List Filled → Outside
after name read = record before { open_name = Some name; left = Some []; opened = map whole read }

-- The output before these texts were printed.
abbrev blank : Outside
blank = record before { taken = Some []; files = None; created = begun [] ∷ [] }

-- The texts ask for the replay.
tapes-asked : command_of (codes "--replay" ∷ codes "j" ∷ codes "--tapes" ∷ codes "t" ∷ codes "net" ∷ []) ≡ Some (Replay (codes "net") (codes "j") (Some (codes "t")))
tapes-asked =
    asks ((arguments.Replay, codes "j") ∷ (arguments.Tapes, codes "t") ∷ net_argument ∷ []) (codes "--replay" ∷ codes "j" ∷ codes "--tapes" ∷ codes "t" ∷ codes "net" ∷ [])
    (inr (codes "--replay" ∷ codes "j" ∷ [], codes "--tapes" ∷ codes "t" ∷ codes "net" ∷ [], inr (refl, refl), inr (codes "--tapes" ∷ codes "t" ∷ [], codes "net" ∷ [], inr (refl, refl), net_line, refl), refl))
    (refl, (refl, (refl, tt)))

-- What is left of the turns.
abbrev left : Recorded
left = record { journal = lone_journal; tapes = lone_tape ∷ [] }

abbrev call_of : List (String Global) → ℕ → Outside → List ℕ → List ℕ → Call
call_of words parts shelf text remark = record {
  work = record { words = words; own = lone_offer parts; before = before; after = shelf; recorded = left };
  out = outputs_at blank blank;
  out_after = after_print (outputs_at blank blank) text remark;
  status = Failed;
}

-- All was read that the network has to read, and behind its file this.
ready : (name : Name) (between : List Filled) → IsReady own_kinds before (after name (lone_file ∷ (between ++ []))) (codes "net") between lone ([] ∷ [])
ready name between = record {
  net = lone_bytes;
  text = lone_value;
  file = net_is;
  count = refl;
  inputs = λ at file there. none_there at file there;
  reads = refl;
}

-- The run with these names for its journal and its tapes, where there are such, so many workers, and a report that is told so.
abbrev run_with : Option Name → Option Name → ℕ → AskedReport → AskedRun
run_with kept tapes workers report = record { net = codes "net"; journal = kept; tapes = tapes; workers = workers; report = report }

-- The files that a run writes: none of a writer.
abbrev written_by_run : AskedRun → List Filled
written_by_run asked = kept_files asked left ++ report_file asked.report.file (report_text lone_report)

-- The shelf after a run.
abbrev after_run : AskedRun → Outside
after_run asked = record (after (codes "net") (lone_file ∷ [])) { files = Some (replaced_all (written_by_run asked) lone_files); created = map whole (written_by_run asked) }

-- The call of a run.
abbrev run_call : List (String Global) → AskedRun → Call
run_call words asked = call_of words 1 (after_run asked) (printed_text asked.report lone_report) (remarked_text asked.report lone_report)

-- The call of a replay.
abbrev replay_call : List (String Global) → Call
replay_call words = call_of words 0 (after (codes "t") replayed) (report_text lone_report) []

module _ (starts : StartsPlans net_rules) (fits : FitsPlayed std_rules) (prefixes : KeepsPrefixes net_rules) (single : HasOneJournal) (lists : HasOneList) where
  well : StartsWell net_rules lone (playing ∷ [])
  well = starts lone (playing ∷ []) valid (record {
    one_each = refl;
    fit = λ p process component there at.
        at_one (λ k (c : AnyKind). slice_get lone.processes k ≡ Some process → ComponentFits net_rules lone k process c) playing
        (λ h. subst (λ (x : Process). ComponentFits net_rules lone 0 x playing) (process_is lone_process process h) (fits.players lone 0 lone_process lone_tape)) p component at there;
  })

  scheduled : IsScheduled net_rules lone (playing ∷ []) (schedule_of lone_journal) lone_last
  scheduled = record {
    leads = lone_leads;
    prefixes = λ front mid first. prefixes lone (playing ∷ []) (schedule_of lone_journal) front lone_last mid well first;
  }

  run : (workers : ℕ) → IsRun net_rules workers lone (playing ∷ []) (schedule_of lone_journal) lone_last
  run workers = record { schedule = scheduled; quiet = lone_quiet; robin = λ none. lone_robin }

  replays : CanMeet (lone_offer 0) lone_files (Replay (codes "net") (codes "j") (Some (codes "t"))) replayed
  replays words asks = record {
    call = replay_call words;
    words_are = refl;
    own_is = refl;
    shelf = refl;
    opened = refl;
    faults = record { reads = λ rose. omega (arith, rose); writes = λ rose. omega (arith, rose); prints = λ rose. omega (arith, rose); remarks = λ rose. omega (arith, rose) };
    valid = call_valid (lone_offer 0) words (Replay (codes "net") (codes "j") (Some (codes "t"))) replayed (replay_call words).work refl refl refl refl asks refl (replayed_valid single lists words asks);
    ends = inr (record {
      text = report_text lone_report;
      says = inr (inl (record {
        name = codes "net";
        kept = codes "j";
        tapes = Some (codes "t");
        asks = asks;
        report = lone_report;
        replayed = record {
          bytes = lone_journal_bytes;
          is_journal = journal_read;
          files = lone_tape_file ∷ [];
          are_tapes = (lone_tape_bytes, tape_read, refl);
          plan = lone;
          given = [] ∷ [];
          ready = ready (codes "t") (lone_journal_file ∷ lone_tape_file ∷ []);
          components = playing ∷ [];
          are_components = are_components;
          last = lone_last;
          schedule = scheduled;
          tells = lone_told;
        };
        text_is = refl;
        status_is = refl;
      }));
      printed = refl;
    });
  }

  runs : (kept tapes : Option Name) (workers : ℕ) (report : AskedReport) → CanMeet (lone_offer 1) lone_files (run_of (run_with kept tapes workers report)) (lone_file ∷ [])
  runs kept tapes workers report words asks = record {
    call = run_call words (run_with kept tapes workers report);
    words_are = refl;
    own_is = refl;
    shelf = refl;
    opened = refl;
    faults = record { reads = λ rose. omega (arith, rose); writes = λ rose. omega (arith, rose); prints = λ rose. omega (arith, rose); remarks = λ rose. omega (arith, rose) };
    valid = call_valid (lone_offer 1) words (Run (codes "net") kept tapes workers report) (lone_file ∷ []) (run_call words (run_with kept tapes workers report)).work refl refl refl refl asks refl (ran_valid words (run_with kept tapes workers report) asks);
    ends = inl (
      run_with kept tapes workers report,
      asks,
      record {
        report = lone_report;
        whole = record {
          plan = lone;
          last = lone_last;
          middle = after (codes "net") (lone_file ∷ []);
          run = record {
            given = [] ∷ [];
            ready = ready (codes "net") [];
            components = playing ∷ [];
            are_components = are_components;
            run = run workers;
            played_out = lone_played_out;
            writable = journal_file_is.writable;
            tapes_writable = tapes-writable;
          };
          writes = record { writes = refl; files = refl };
          tells = lone_told;
        };
        printed = refl;
        status = refl;
      },
    );
  }

  -- What the top calls ask before they promise to come to their end can be had with parts and with tapes.
  pub met : PremisesWithPartsAreMet
  met = record {
    journal_is = journal_file_is;
    tapes_are = tape_file_is;
    replay = replays;
    run = runs;
    asks_replay = tapes-asked;
  }
