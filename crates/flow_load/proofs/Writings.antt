-- Files that are written one after another.
use Rattle.std.proofs.Common.{◌≡◌, ◌⊎◌, inl, inr, ℕ, zero, suc, ◌<◌, List, [], ◌∷◌, ◌++◌, length, map, take, get_or, Some, None, Err, subst, refl, sym, ◌∙◌, ap, arith, append_assoc}
use Rattle.std.specs.Prelude.{string_bytes}
use Rattle.std.specs.declared.option.Option.{Option}
use Rattle.std.specs.Option.{option_map}
use Rattle.std.proofs.lemmas.Option.{slice_get-get_or}
use Rattle.flow_text.specs.Edge.{Outside, Name, Files, Logged, Rose, replaced}
use Rattle.flow_text.specs.declared.edge.ShelfStop.{ShelfStop}
use Rattle.flow_text.specs.declared.edge.ShelfStop.TheVariants as shelf
use Rattle.flow_load.specs.Step.{Filled, OnlyWrites, FailsToWrite, WritesFile, HoldsPart, whole}
use Rattle.flow_load.specs.Many.{WritesFiles, EndsAt, FailsAt, replaced_all, after_some}
use Rattle.flow_load.specs.Stops.{IsWriteStop}
use Rattle.flow_load.specs.declared.stop.Stop.{Stop}
use Rattle.flow_load.specs.declared.stop.Stop.TheVariants.{Words, Refused, NoPart, JournalRefused, TapesRefused, ReadFault, WriteFault, TooLong, NoMemory}
use Rattle.flow_load.proofs.Steps.{no-writes}

-- one file more
more_at : (outputs : List Filled) (at : ℕ) (d : Filled) (files : Files) → at < length outputs
    → replaced_all (take (suc at) outputs) files ≡ replaced (get_or outputs at d).0 (get_or outputs at d).1 (replaced_all (take at outputs) files)
more_at [] at d files lt = absurd (omega arith)
more_at (o ∷ os) zero d files lt = refl
more_at (o ∷ os) (suc at) d files lt = more_at os at d (replaced o.0 o.1 files) (omega arith)

-- After no files the contents are as they were.
pub after_none : (outputs : List Filled) (told : Option Files) → told ≡ after_some outputs 0 told
after_none outputs None = refl
after_none outputs (Some files) = refl

-- After one file more its name has its bytes, and all others what they had.
pub after_more : (outputs : List Filled) (at : ℕ) (d : Filled) (told : Option Files) → at < length outputs → d ≡ get_or outputs at d
    → option_map (replaced d.0 d.1) (after_some outputs at told) ≡ after_some outputs (suc at) told
after_more outputs at d None lt is = refl
after_more outputs at d (Some files) lt is =
    ap Some (ap (λ o. replaced o.0 o.1 (replaced_all (take at outputs) files)) is ∙ sym (more_at outputs at d files lt))

-- One file more is one more that was written whole.
pub whole_more : (outputs : List Filled) (at : ℕ) (d : Filled) → at < length outputs → d ≡ get_or outputs at d
    → map whole (take at outputs) ++ whole d ∷ [] ≡ map whole (take (suc at) outputs)
whole_more [] at d lt is = absurd (omega arith)
whole_more (o ∷ os) zero d lt is = ap (λ f. whole f ∷ []) is
whole_more (o ∷ os) (suc at) d lt is = ap (λ l. whole o ∷ l) (whole_more os at d (omega arith) is)

-- Two steps of writing are one, and their files stand one behind the other.
pub OnlyWrites-trans : (a b c : Outside) (xs ys : List Logged) → OnlyWrites a b xs → OnlyWrites b c ys → OnlyWrites a c (xs ++ ys)
OnlyWrites-trans a b c xs ys p q =
    q
    ∙ ap (λ (o : Outside). record o { created_name = c.created_name; taken = c.taken; files = c.files; created = o.created ++ ys }) p
    ∙ ap (λ l. record a { created_name = c.created_name; taken = c.taken; files = c.files; created = l }) (append_assoc a.created xs ys)

FailsToWrite-after : (a b c : Outside) (xs ys : List Logged) (name : Name) → OnlyWrites a b xs → FailsToWrite b c ys name → FailsToWrite a c (xs ++ ys) name
FailsToWrite-after a b c xs ys name p q = record {
  state = q.state
      ∙ ap (λ (o : Outside). record o { created_name = c.created_name; taken = c.taken; files = c.files; created = o.created ++ ys; write_faults = c.write_faults; last_write_fault = Some name }) p
      ∙ ap (λ l. record a { created_name = c.created_name; taken = c.taken; files = c.files; created = l; write_faults = c.write_faults; last_write_fault = Some name }) (append_assoc a.created xs ys);
  rose = subst (λ (n : ℕ). Rose n c.write_faults) (ap (λ (o : Outside). o.write_faults) p) q.rose;
}

-- the files so far were written whole, and this one failed
fails-at : (old mid new : Outside) (outputs : List Filled) (at : ℕ) (d : Filled) → OnlyWrites old mid (map whole (take at outputs)) → mid.files ≡ after_some outputs at old.files
    → at < length outputs → d ≡ get_or outputs at d → WritesFile {T = Unit {0}} mid new (Err shelf.Fault) d → (name : Name) → name ≡ d.0 → FailsAt old new outputs name
fails-at old mid new outputs at d only files lt is w name named = record {
  place = at;
  bytes = d.1;
  output = slice_get-get_or outputs at d lt ∙ ap Some (sym is) ∙ ap (λ (n : Name). Some (n, d.1)) (sym named);
  begun = w.0;
  fails = subst (λ (n : Name). FailsToWrite old new (map whole (take at outputs) ++ w.0) n) (sym named) (FailsToWrite-after old mid new (map whole (take at outputs)) w.0 d.0 only w.1);
  part = subst (λ (n : Name). HoldsPart (after_some outputs at old.files) new.files w.0 (n, d.1)) (sym named)
      (subst (λ (told : Option Files). HoldsPart told new.files w.0 d) files w.2);
}

-- the first file that stops
pub stops : (old mid new : Outside) (outputs : List Filled) (at : ℕ) (d : Filled) (why : ShelfStop) (stop : Stop) → OnlyWrites old mid (map whole (take at outputs))
    → mid.files ≡ after_some outputs at old.files → at < length outputs → d ≡ get_or outputs at d → WritesFile {T = Unit {0}} mid new (Err why) d
    → IsWriteStop why d.0 stop → WritesFiles {T = Unit {0}} old new (Err stop) outputs
stops old mid new outputs at d shelf.Fault (WriteFault written) only files lt is w named = fails-at old mid new outputs at d only files lt is w (string_bytes written) named
stops old mid new outputs at d shelf.Fault NoMemory only files lt is w named = inr (d.0, fails-at old mid new outputs at d only files lt is w d.0 refl)
stops old mid new outputs at d shelf.NoMemory NoMemory only files lt is w named = inl (record {
  place = at;
  few = inr lt;
  writes = subst (λ (o : Outside). OnlyWrites old o (map whole (take at outputs))) (sym w) only;
  files = ap (λ (o : Outside). o.files) w ∙ files;
})
stops old mid new outputs at d shelf.Fault Words only files lt is w named = absurd named
stops old mid new outputs at d shelf.Fault (Refused refusal) only files lt is w named = absurd named
stops old mid new outputs at d shelf.Fault (NoPart process) only files lt is w named = absurd named
stops old mid new outputs at d shelf.Fault (TapesRefused refusal) only files lt is w named = absurd named
stops old mid new outputs at d shelf.Fault (JournalRefused refusal) only files lt is w named = absurd named
stops old mid new outputs at d shelf.Fault (ReadFault read) only files lt is w named = absurd named
stops old mid new outputs at d shelf.Fault (TooLong read) only files lt is w named = absurd named
stops old mid new outputs at d shelf.NoMemory Words only files lt is w named = absurd named
stops old mid new outputs at d shelf.NoMemory (Refused refusal) only files lt is w named = absurd named
stops old mid new outputs at d shelf.NoMemory (NoPart process) only files lt is w named = absurd named
stops old mid new outputs at d shelf.NoMemory (TapesRefused refusal) only files lt is w named = absurd named
stops old mid new outputs at d shelf.NoMemory (JournalRefused refusal) only files lt is w named = absurd named
stops old mid new outputs at d shelf.NoMemory (ReadFault read) only files lt is w named = absurd named
stops old mid new outputs at d shelf.NoMemory (WriteFault written) only files lt is w named = absurd named
stops old mid new outputs at d shelf.NoMemory (TooLong read) only files lt is w named = absurd named

-- Where memory is wanting before the first file, none was begun.
pub nothing-written : (old : Outside) (outputs : List Filled) → EndsAt old old outputs ⊎ ((written : Name) × FailsAt old old outputs written)
nothing-written old outputs = inl (record { place = 0; few = inl refl; writes = no-writes old old refl; files = after_none outputs old.files })
