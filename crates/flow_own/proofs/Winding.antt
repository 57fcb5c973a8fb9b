-- A reel is made, and read on.
use Rattle.std.proofs.Common.{◌≡◌, ◌⊎◌, inl, inr, ℕ, suc, zero, ◌-◌, ◌+◌, ◌≤◌, ◌<◌, ◌^◌, List, [], ◌∷◌, ◌++◌, length, take, drop, Some, Result, Ok, Err, refl, sym, ap, ◌∙◌, subst, arith, drop-drop, length-drop, slice_get}
use Rattle.std.proofs.lemmas.List.{take-append-drop, take_all}
use Rattle.flow_own.specs.declared.unread.Unread.{Unread}
use Rattle.flow_own.specs.declared.unread.Unread.TheVariants as stops
use Rattle.flow_own.specs.declared.reel.Head.{Head}
use Rattle.flow_own.specs.declared.tape.Entry.{Entry}
use Rattle.flow_own.specs.Reading.{Read, ◌>>=◌, Stops, behind, many_at, entry_at}
use Rattle.flow_own.specs.Reels.{read_list, entries_at, entry_after, HasCome, IsReel}
use Rattle.flow_own.proofs.Many.{ok_is, split, open-first, many-long}
use Rattle.flow_own.proofs.Suffixes.{EndsSo, further, cut-off, many-ends, entry-ends}

-- ---- what was gone over

passed : (r : Read (List Entry)) (rest : List ℕ) → behind r ≡ Ok rest → r ≡ Ok (read_list r, rest)
passed (Ok x) rest e = let same : x.1 ≡ rest = cc in ap (λ (b : List ℕ). Ok (x.0, b)) same
passed (Err left) rest e = absurd cc

-- Where going over entries stops, reading them does.
pub stops-read : (stop : Unread) (r : Read (List Entry)) → Stops stop (behind r) → Stops stop r
stops-read stops.NoMemory r e = tt
stops-read (stops.Fault left) (Ok x) e = absurd cc
stops-read (stops.Fault left) (Err at) e = let same : at ≡ left = cc in ap (λ (n : ℕ). Err n) same

-- Where it stops, what comes behind isn't read.
pub stops-then : (stop : Unread) (r : Result (List ℕ) ℕ) → Stops stop r → Stops stop (r >>= entry_at)
stops-then stops.NoMemory r e = tt
stops-then (stops.Fault left) r e = ap (λ (x : Result (List ℕ) ℕ). x >>= entry_at) e

-- ---- reels

-- Entries that were gone over are a reel.
pub record Made (count : ℕ) (bytes rest : List ℕ) : Type 0 where
  pub within : length rest ≤ length bytes
  pub reel : IsReel count (length bytes - length rest) bytes
  pub reads : many_at entry_at count bytes ≡ Ok (entries_at count bytes, rest)
  pub is : drop (length bytes - length rest) bytes ≡ rest

pub make-reel : (count : ℕ) (bytes rest : List ℕ) → count < 2 ^ 32 → behind (many_at entry_at count bytes) ≡ Ok rest → Made count bytes rest
make-reel count bytes rest few e =
    let r : many_at entry_at count bytes ≡ Ok (entries_at count bytes, rest) = passed (many_at entry_at count bytes) rest e in
    let cut = cut-off rest bytes (many-ends entry_at count entry-ends bytes (entries_at count bytes, rest) r) in
    record {
      within = cut.0;
      reel = record { few = few; within = omega arith; reads = r ∙ ap (λ (b : List ℕ). Ok (entries_at count bytes, b)) (sym cut.1) };
      reads = r;
      is = cut.1;
    }

-- At its start a reel has come to its first entry.
pub at-start : (count size : ℕ) (bytes : List ℕ) → IsReel count size bytes → HasCome count size bytes 0 0
at-start count size bytes reel =
    let all : count - 0 ≡ count = omega arith in
    record { there = omega arith; within = omega arith; further = ap (λ (n : ℕ). many_at entry_at n bytes) all ∙ reel.reads }

pub reel-long : (count size : ℕ) (bytes : List ℕ) → IsReel count size bytes → length (entries_at count bytes) ≡ count
reel-long count size bytes reel = many-long entry_at count bytes (entries_at count bytes) (drop size bytes) reel.reads

-- Its own bytes, with those behind them, are read as its entries.
pub own-bytes : (count size : ℕ) (bytes : List ℕ) → IsReel count size bytes → many_at entry_at (length (entries_at count bytes)) (take size bytes ++ drop size bytes) ≡ Ok (entries_at count bytes, drop size bytes)
own-bytes count size bytes reel =
    ap (λ (b : List ℕ). many_at entry_at (length (entries_at count bytes)) b) (take-append-drop size bytes)
    ∙ ap (λ (n : ℕ). many_at entry_at n bytes) (reel-long count size bytes reel) ∙ reel.reads

-- ---- the next entry

got-first : {A : Type 0} (xs : List A) (n : ℕ) (x : A) (ys : List A) → drop n xs ≡ x ∷ ys → slice_get xs n ≡ Some x
got-first [] zero x ys e = absurd cc
got-first [] (suc n) x ys e = absurd cc
got-first (z ∷ xs) zero x ys e = let same : z ≡ x = cc in ap (λ a. Some a) same
got-first (z ∷ xs) (suc n) x ys e = got-first xs n x ys e

-- The entry at a place is read behind those that stand between it and where the reel has come to, and then it has come further.
pub record Next (count size : ℕ) (bytes : List ℕ) (place at skipped : ℕ) : Type 0 where
  pub entry : Entry
  pub after : List ℕ
  pub reads : entry_after skipped (drop at bytes) ≡ Ok (entry, after)
  pub is : slice_get (entries_at count bytes) place ≡ Some entry
  pub within : length after ≤ length bytes
  pub comes : HasCome count size bytes (place + 1) (length bytes - length after)

pub next : (count size : ℕ) (bytes : List ℕ) (head at place : ℕ) → HasCome count size bytes head at → head ≤ place → place < count → Next count size bytes place at (place - head)
next count size bytes head at place come before there =
    let all : List Entry = entries_at count bytes in
    let left : ℕ = count - (place + 1) in
    let parts : place - head + suc left ≡ count - head = omega (arith, before, there) in
    let s = split entry_at (place - head) (suc left) (drop at bytes) (drop head all) (drop size bytes) (ap (λ (n : ℕ). many_at entry_at n (drop at bytes)) parts ∙ come.further) in
    let o = open-first entry_at left s.between (drop (place - head) (drop head all)) (drop size bytes) s.others in
    let sum : head + (place - head) ≡ place = omega (arith, before) in
    let here : drop (place - head) (drop head all) ≡ drop place all = drop-drop (place - head) head all ∙ ap (λ (n : ℕ). drop n all) sum in
    let behind_it : drop 1 (drop (place - head) (drop head all)) ≡ drop (place + 1) all = ap (drop 1) here ∙ drop-drop 1 place all in
    let from_at : EndsSo (drop at bytes) bytes = record { front = at; within = come.within; is = refl } in
    let between : EndsSo s.between bytes = further s.between (drop at bytes) bytes (many-ends entry_at (place - head) entry-ends (drop at bytes) (take (place - head) (drop head all), s.between) s.first) from_at in
    let after : EndsSo o.after bytes = further o.after s.between bytes (entry-ends s.between (o.one, o.after) o.reads) between in
    let cut = cut-off o.after bytes after in
    record {
      entry = o.one;
      after = o.after;
      reads = ap (λ (r : Read (List Entry)). behind r >>= entry_at) s.first ∙ o.reads;
      is = got-first all place o.one (drop 1 (drop (place - head) (drop head all))) (sym here ∙ o.is);
      within = cut.0;
      comes = record {
        there = omega (arith, there);
        within = omega arith;
        further = ap (many_at entry_at left) cut.1 ∙ o.others ∙ ap (λ (xs : List Entry). Ok (xs, drop size bytes)) behind_it;
      };
    }

-- ---- from a head

-- An entry that was read is the one at its place, and the reel has come behind it.
pub record Gave (count size : ℕ) (bytes : List ℕ) (place : ℕ) (entry : Entry) (after : List ℕ) : Type 0 where
  pub within : length after ≤ length bytes
  pub is : slice_get (entries_at count bytes) place ≡ Some entry
  pub comes : HasCome count size bytes (place + 1) (length bytes - length after)

-- The range of a slice from a place on.
abbrev range_from : ℕ → List ℕ → List ℕ
range_from at slice = take (length slice - at) (drop at slice)

all-from : (at : ℕ) (slice : List ℕ) → range_from at slice ≡ drop at slice
all-from at slice = take_all (length slice - at) (drop at slice) (omega (arith, length-drop at slice))

came : (count size : ℕ) (bytes : List ℕ) (stood head : Head) → IsReel count size bytes → HasCome count size bytes stood.place stood.at → (head ≡ stood) ⊎ (head ≡ record { place = 0; at = 0 }) → HasCome count size bytes head.place head.at
came count size bytes stood head reel come (inl same) = subst (λ (h : Head). HasCome count size bytes h.place h.at) (sym same) come
came count size bytes stood head reel come (inr start) = subst (λ (h : Head). HasCome count size bytes h.place h.at) (sym start) (at-start count size bytes reel)

module _ (count size : ℕ) (bytes slice : List ℕ) (stood head : Head) (place : ℕ) (reel : IsReel count size bytes) (come : HasCome count size bytes stood.place stood.at) (which : (head ≡ stood) ⊎ (head ≡ record { place = 0; at = 0 })) (before : head.place ≤ place) (there : place < length (entries_at count bytes)) (same : slice ≡ bytes) where
  next-here : Next count size bytes place head.at (place - head.place)
  next-here = next count size bytes head.place head.at place (came count size bytes stood head reel come which) before (omega (arith, there, reel-long count size bytes reel))

  read-here : entry_after (place - head.place) (range_from head.at slice) ≡ Ok (next-here.entry, next-here.after)
  read-here = ap (λ (b : List ℕ). entry_after (place - head.place) b) (all-from head.at slice ∙ ap (drop head.at) same) ∙ next-here.reads

  pub gave : (entry : Entry) (after : List ℕ) → entry_after (place - head.place) (range_from head.at slice) ≡ Ok (entry, after) → Gave count size bytes place entry after
  gave entry after e =
      let found = ok_is (next-here.entry, next-here.after) (entry, after) (sym read-here ∙ e) in
      subst (λ (x : Entry × List ℕ). Gave count size bytes place x.0 x.1) found (record { within = next-here.within; is = next-here.is; comes = next-here.comes })

  apart : (x : Entry × List ℕ) (left : ℕ) → ◌≡◌ {A = Read Entry} (Ok x) (Err left) → ⊥
  apart x left e = cc

  pub no-fault : (left : ℕ) → entry_after (place - head.place) (range_from head.at slice) ≡ Err left → ⊥
  no-fault left e = apart (next-here.entry, next-here.after) left (sym read-here ∙ e)
