-- One file is read, or written.
use Rattle.std.proofs.Common.{◌≡◌, inl, inr, ℕ, ◌+◌, ◌≤◌, Bool, true, false, List, [], ◌∷◌, ◌++◌, length, take, Some, None, Ok, Err, refl, sym, ◌∙◌, ap, subst, arith, length-append}
use mathlib.Core.List.{append-nil}
use Rattle.std.proofs.Math.Seq.{take-length}
use Rattle.std.specs.Prelude.{IfSome, Vec}
use Rattle.std.specs.Option.{option_map}
use Rattle.std.specs.declared.alloc.Global.{Global}
use Rattle.std.specs.declared.option.Option.{Option}
use Rattle.std.specs.declared.result.Result.{Result}
use Rattle.std.specs.Io.KnownBytes.{Consumes, IsAtEnd}
use Rattle.flow_text.specs.Edge.{Outside, Name, Files, Logged, Rose, begun, last_moved, replaced, appended_at, appended_to, IsHeld, after_open, after_create, after_finish, after_read, after_read_fault, after_write, after_write_fault}
use Rattle.flow_text.specs.Shelf.{FailsToWrite as FailedWrite}
use Rattle.flow_text.specs.ReadAll.{ReadsAll}
use Rattle.flow_text.specs.WriteAll.{WritesAll}
use Rattle.flow_text.specs.declared.all.ReadStop.{ReadStop}
use Rattle.flow_text.specs.declared.all.ReadStop.TheVariants as reads
use Rattle.flow_text.specs.declared.all.WriteStop.{WriteStop}
use Rattle.flow_text.specs.declared.all.WriteStop.TheVariants as writes
use Rattle.flow_text.specs.declared.edge.ShelfStop.TheVariants as shelf
use Rattle.flow_text.proofs.Writes.{replaced-same, replaced-replaced}
use Rattle.flow_text.proofs.Logs.{last_moved-push}
use Rattle.flow_load.specs.Step.{OnlyReads, FailsToRead, MayRead, OnlyWrites, FailsToWrite, HoldsMore, ReadsFile, WritesFile, whole, partly}

-- equations in the form of what reading and writing change
pub fit-reads : (old new : Outside) (n : Option Name) (l : Option (List ℕ)) (o files : List Logged) → new ≡ record old { open_name = n; left = l; opened = o } → o ≡ old.opened ++ files
    → OnlyReads old new files
fit-reads old new n l o files e same =
    e
    ∙ ap (λ x. record old { open_name = x; left = l; opened = o }) (sym (ap (λ (x : Outside). x.open_name) e))
    ∙ ap (λ x. record old { open_name = new.open_name; left = x; opened = o }) (sym (ap (λ (x : Outside). x.left) e))
    ∙ ap (λ x. record old { open_name = new.open_name; left = new.left; opened = x }) same

-- Likewise where a read failed.
pub fit-failed-read : (old new : Outside) (n : Option Name) (l : Option (List ℕ)) (o files : List Logged) (name : Name)
    → new ≡ record old { open_name = n; left = l; opened = o; read_faults = new.read_faults; last_read_fault = Some name } → o ≡ old.opened ++ files
    → Rose old.read_faults new.read_faults → FailsToRead old new files name
fit-failed-read old new n l o files name e same rose = record {
  state = e
      ∙ ap (λ x. record old { open_name = x; left = l; opened = o; read_faults = new.read_faults; last_read_fault = Some name }) (sym (ap (λ (x : Outside). x.open_name) e))
      ∙ ap (λ x. record old { open_name = new.open_name; left = x; opened = o; read_faults = new.read_faults; last_read_fault = Some name }) (sym (ap (λ (x : Outside). x.left) e))
      ∙ ap (λ x. record old { open_name = new.open_name; left = new.left; opened = x; read_faults = new.read_faults; last_read_fault = Some name }) same;
  rose = rose;
}

-- Likewise what writing changes.
pub fit-writes : (old new : Outside) (n : Option Name) (t : Option (List ℕ)) (f : Option Files) (c files : List Logged)
    → new ≡ record old { created_name = n; taken = t; files = f; created = c } → c ≡ old.created ++ files → OnlyWrites old new files
fit-writes old new n t f c files e same =
    e
    ∙ ap (λ x. record old { created_name = x; taken = t; files = f; created = c }) (sym (ap (λ (x : Outside). x.created_name) e))
    ∙ ap (λ x. record old { created_name = new.created_name; taken = x; files = f; created = c }) (sym (ap (λ (x : Outside). x.taken) e))
    ∙ ap (λ x. record old { created_name = new.created_name; taken = new.taken; files = x; created = c }) (sym (ap (λ (x : Outside). x.files) e))
    ∙ ap (λ x. record old { created_name = new.created_name; taken = new.taken; files = new.files; created = x }) same

-- Likewise where a write failed.
pub fit-failed-write : (old new : Outside) (n : Option Name) (t : Option (List ℕ)) (f : Option Files) (c files : List Logged) (name : Name)
    → new ≡ record old { created_name = n; taken = t; files = f; created = c; write_faults = new.write_faults; last_write_fault = Some name }
    → c ≡ old.created ++ files → Rose old.write_faults new.write_faults → FailsToWrite old new files name
fit-failed-write old new n t f c files name e same rose = record {
  state = e
      ∙ ap (λ x. record old { created_name = x; taken = t; files = f; created = c; write_faults = new.write_faults; last_write_fault = Some name }) (sym (ap (λ (x : Outside). x.created_name) e))
      ∙ ap (λ x. record old { created_name = new.created_name; taken = x; files = f; created = c; write_faults = new.write_faults; last_write_fault = Some name }) (sym (ap (λ (x : Outside). x.taken) e))
      ∙ ap (λ x. record old { created_name = new.created_name; taken = new.taken; files = x; created = c; write_faults = new.write_faults; last_write_fault = Some name }) (sym (ap (λ (x : Outside). x.files) e))
      ∙ ap (λ x. record old { created_name = new.created_name; taken = new.taken; files = new.files; created = x; write_faults = new.write_faults; last_write_fault = Some name }) same;
  rose = rose;
}

-- A step that only reads may be a step of reading.
pub may-read : (old new : Outside) (files : List Logged) → OnlyReads old new files → MayRead old new
may-read old new files p = p
    ∙ ap (λ x. record old { open_name = new.open_name; left = new.left; opened = x }) (sym (ap (λ (o : Outside). o.opened) p))
    ∙ ap (λ x. record old { open_name = new.open_name; left = new.left; opened = new.opened; read_faults = x }) (sym (ap (λ (o : Outside). o.read_faults) p))
    ∙ ap (λ x. record old { open_name = new.open_name; left = new.left; opened = new.opened; read_faults = new.read_faults; last_read_fault = x }) (sym (ap (λ (o : Outside). o.last_read_fault) p))

-- So may one that fails to read.
pub may-fail-to-read : (old new : Outside) (files : List Logged) (name : Name) → FailsToRead old new files name → MayRead old new
may-fail-to-read old new files name f = f.state
    ∙ ap (λ x. record old { open_name = new.open_name; left = new.left; opened = x; read_faults = new.read_faults; last_read_fault = Some name }) (sym (ap (λ (o : Outside). o.opened) f.state))
    ∙ ap (λ x. record old { open_name = new.open_name; left = new.left; opened = new.opened; read_faults = new.read_faults; last_read_fault = x }) (sym (ap (λ (o : Outside). o.last_read_fault) f.state))

-- Two steps of reading are one.
pub MayRead-trans : (a b c : Outside) → MayRead a b → MayRead b c → MayRead a c
MayRead-trans a b c p q = q
    ∙ ap (λ (o : Outside). record o { open_name = c.open_name; left = c.left; opened = c.opened; read_faults = c.read_faults; last_read_fault = c.last_read_fault }) p

-- a file that begins gives or takes these bytes
pub moved-begun : (name : Name) (n : List ℕ) (e : Bool) (files : List Logged)
    → last_moved n e (files ++ begun name ∷ []) ≡ files ++ record { name = name; bytes = n; ended = e } ∷ []
moved-begun name n e files = last_moved-push n e files (begun name)

-- A source that came to its end gave what the name holds.
pub held-all : (told : Option Files) (name : Name) (left after : Option (List ℕ)) (bytes : List ℕ) → IsHeld told name left → Consumes left after bytes → IsAtEnd after
    → IfSome told (λ files. files name ≡ Some bytes)
held-all None name left after bytes held gives end = tt
held-all (Some files) name None after bytes held gives end = absurd (let none = held.1 in cc)
held-all (Some files) name (Some xs) None bytes held gives end = absurd gives
held-all (Some files) name (Some xs) (Some ys) bytes held gives end =
    sym held.0 ∙ ap Some (gives ∙ ap (λ (l : List ℕ). bytes ++ l) end ∙ append-nil bytes)

held-more : (told : Option Files) (name : Name) (limit : ℕ) (left after : Option (List ℕ)) (bytes : List ℕ) → IsHeld told name left → Consumes left after bytes
    → length bytes ≡ limit + 1 → HoldsMore told limit name
held-more None name limit left after bytes held gives size = tt
held-more (Some files) name limit None after bytes held gives size = absurd (let none = held.1 in cc)
held-more (Some files) name limit (Some xs) None bytes held gives size = absurd gives
held-more (Some files) name limit (Some xs) (Some ys) bytes held gives size =
    (xs, sym held.0, omega (arith, size, ap length gives, length-append bytes ys))

-- a file that was opened, and then read
module _ (old mid new : Outside) (name : Name) (opens : mid ≡ after_open old name mid.left) where
  opened : (n : List ℕ) (e : Bool) → new ≡ after_read mid new.left n e
      → new ≡ record old { open_name = Some name; left = new.left; opened = last_moved n e (old.opened ++ begun name ∷ []) }
  opened n e is = is ∙ ap (λ o. after_read o new.left n e) opens

  -- A file that was opened gave this.
  pub gave : (n : List ℕ) (e : Bool) → new ≡ after_read mid new.left n e → OnlyReads old new (record { name = name; bytes = n; ended = e } ∷ [])
  gave n e is = fit-reads old new (Some name) new.left (last_moved n e (old.opened ++ begun name ∷ []))
      (record { name = name; bytes = n; ended = e } ∷ []) (opened n e is) (moved-begun name n e old.opened)

  -- It gave this, and then a read failed.
  pub failed : (n : List ℕ) → new ≡ after_read_fault (after_read mid new.left n false) mid.open_name new.read_faults → Rose mid.read_faults new.read_faults
      → FailsToRead old new (partly n name ∷ []) name
  failed n is rose = fit-failed-read old new (Some name) new.left (last_moved n false (old.opened ++ begun name ∷ [])) (partly n name ∷ []) name
      (is ∙ ap (λ o. after_read_fault (after_read o new.left n false) o.open_name new.read_faults) opens)
      (moved-begun name n false old.opened)
      (subst (λ (k : ℕ). Rose k new.read_faults) (ap (λ (o : Outside). o.read_faults) opens) rose)

  pub read-whole : (limit : ℕ) (r : Result (Vec ℕ Global) ReadStop) → IsHeld old.files name mid.left → ReadsAll mid new r limit → ReadsFile old new limit r name
  read-whole limit (Ok v) held a = (
    gave v.items true a.0.state,
    record { short = a.2; held = held-all old.files name mid.left new.left v.items held a.0.given a.1 },
  )
  read-whole limit (Err reads.Fault) held a = (partly a.0 name ∷ [], inr (a.0, refl), failed a.0 a.1.state a.1.rose)
  read-whole limit (Err (reads.TooLong told)) held a = (
    (a.1.0, a.1.2, gave a.1.0 false a.1.1.state),
    held-more old.files name limit mid.left new.left a.1.0 held a.1.1.given a.1.2,
  )
  read-whole limit (Err reads.NoMemory) held a = may-read old new _ (gave a.0 a.1 a.2.state)

-- a file that couldn't be opened
pub unopened : (old new : Outside) (limit : ℕ) (name : Name) → new ≡ after_read_fault old (Some name) new.read_faults → Rose old.read_faults new.read_faults
    → ReadsFile old new limit (Err reads.Fault) name
unopened old new limit name is rose =
    ([], inl refl, fit-failed-read old new old.open_name old.left old.opened [] name is (sym (append-nil old.opened)) rose)

-- What didn't change wasn't read.
pub no-reads : (old new : Outside) → new ≡ old → OnlyReads old new []
no-reads old new is = fit-reads old new old.open_name old.left old.opened [] is (sym (append-nil old.opened))

-- what is written to a file that was created
created : (files : Option Files) (name : Name) (bytes : List ℕ) → option_map (appended_to (Some name) bytes) (option_map (replaced name []) files) ≡ option_map (replaced name bytes) files
created None name bytes = refl
created (Some files) name bytes = ap Some (again files name bytes) where
  again : (files : Files) (name : Name) (bytes : List ℕ) → appended_to (Some name) bytes (replaced name [] files) ≡ replaced name bytes files
  again files name bytes = ap (λ held. appended_at held name bytes (replaced name [] files)) (replaced-same files name []) ∙ replaced-replaced files name [] bytes

-- What didn't change wasn't written.
pub no-writes : (old new : Outside) → new ≡ old → OnlyWrites old new []
no-writes old new is = fit-writes old new old.created_name old.taken old.files old.created [] is (sym (append-nil old.created))

module _ (old mid : Outside) (name : Name) (creates : mid ≡ after_create old name) where
  -- after so many bytes
  at : (new : Outside) (bytes : List ℕ) → new ≡ after_write mid bytes → new ≡ record old {
    created_name = Some name;
    taken = (after_write (after_create old name) bytes).taken;
    files = option_map (appended_to (Some name) bytes) (option_map (replaced name []) old.files);
    created = last_moved bytes false (old.created ++ begun name ∷ []);
  }
  at new bytes is = is ∙ ap (λ o. after_write o bytes) creates

  files-at : (new : Outside) (bytes : List ℕ) → new.files ≡ (after_write mid bytes).files → new.files ≡ option_map (replaced name bytes) old.files
  files-at new bytes is = is ∙ ap (λ o. (after_write o bytes).files) creates ∙ created old.files name bytes

  pub written : (done new : Outside) (bytes : List ℕ) → done ≡ after_write mid bytes → new ≡ after_finish done → WritesFile {T = Unit {0}} old new (Ok tt) (name, bytes)
  written done new bytes wrote ends =
      let log : last_moved [] true (last_moved bytes false (old.created ++ begun name ∷ [])) ≡ old.created ++ whole (name, bytes) ∷ [] =
      ap (λ l. last_moved [] true l) (moved-begun name bytes false old.created)
      ∙ last_moved-push [] true old.created (partly bytes name)
      ∙ ap (λ (took : List ℕ). old.created ++ whole (name, took) ∷ []) (append-nil bytes) in (
        fit-writes old new (Some name) (after_write (after_create old name) bytes).taken
            (option_map (appended_to (Some name) bytes) (option_map (replaced name []) old.files))
            (last_moved [] true (last_moved bytes false (old.created ++ begun name ∷ []))) (whole (name, bytes) ∷ [])
            (ends ∙ ap (λ o. after_finish o) (at done bytes wrote)) log,
        files-at new bytes (ap (λ o. o.files) ends ∙ ap (λ o. o.files) wrote),
      )

  -- after a fault, behind so many of the bytes
  cut : (new : Outside) (bytes : List ℕ) (n : ℕ) → n ≤ length bytes → (done : Outside) → done ≡ after_write mid (take n bytes)
      → new ≡ after_write_fault done done.created_name new.write_faults → Rose done.write_faults new.write_faults
      → WritesFile {T = Unit {0}} old new (Err shelf.Fault) (name, bytes)
  cut new bytes n within done wrote fails rose =
      let log = moved-begun name (take n bytes) false old.created in
      let is = at done (take n bytes) wrote in (
        partly (take n bytes) name ∷ [],
        fit-failed-write old new (Some name) (after_write (after_create old name) (take n bytes)).taken
            (option_map (appended_to (Some name) (take n bytes)) (option_map (replaced name []) old.files))
            (last_moved (take n bytes) false (old.created ++ begun name ∷ [])) (partly (take n bytes) name ∷ []) name
            (fails ∙ ap (λ o. after_write_fault o o.created_name new.write_faults) is) log
            (subst (λ (m : ℕ). Rose m new.write_faults) (ap (λ (o : Outside). o.write_faults) is) rose),
        inr (n, within, refl, files-at new (take n bytes) (ap (λ o. o.files) fails ∙ ap (λ o. o.files) wrote)),
      )

  pub unwritten : (new : Outside) (bytes : List ℕ) (stop : WriteStop) → WritesAll {T = Unit {0}} mid new (Err stop) bytes → WritesFile {T = Unit {0}} old new (Err shelf.Fault) (name, bytes)
  unwritten new bytes (writes.Fault n) wrote = let part = wrote.part in cut new bytes n (omega arith) (after_write mid (take n bytes)) refl wrote.state wrote.rose

  pub unfinished : (done new : Outside) (bytes : List ℕ) → done ≡ after_write mid bytes → FailedWrite done new → WritesFile {T = Unit {0}} old new (Err shelf.Fault) (name, bytes)
  unfinished done new bytes wrote fails =
      cut new bytes (length bytes) (omega arith) done (wrote ∙ ap (λ l. after_write mid l) (sym (take-length bytes))) fails.0 fails.1

-- a file that couldn't be created
pub uncreated : (old new : Outside) (name : Name) (bytes : List ℕ) → new ≡ after_write_fault old (Some name) new.write_faults → Rose old.write_faults new.write_faults
    → WritesFile {T = Unit {0}} old new (Err shelf.Fault) (name, bytes)
uncreated old new name bytes is rose = (
  [],
  fit-failed-write old new old.created_name old.taken old.files old.created [] name is (sym (append-nil old.created)) rose,
  inl (refl, ap (λ o. o.files) is),
)
