-- Reading so many of the same sort, one after another: as a loop does it, and of a part of them.
use Rattle.std.proofs.Common.{◌≡◌, ℕ, suc, zero, ◌-◌, ◌+◌, ◌≤◌, ◌<◌, List, [], ◌∷◌, ◌++◌, length, take, drop, Result, Ok, Err, refl, sym, ap, ◌∙◌, subst, append_assoc, append-nil, arith}
use Rattle.flow_own.specs.declared.unread.Unread.{Unread}
use Rattle.flow_own.specs.declared.unread.Unread.TheVariants as stops
use Rattle.flow_own.specs.Reading.{Read, ◌>>=◌, Stops, behind, many_at}

abbrev done : {A : Type 0} → A → Result A ℕ
done x = Ok x

-- One value is read.
pub ok_is : {A : Type 0} (x y : A) → done x ≡ done y → x ≡ y
ok_is x y e = cc

-- The value of a step that did not stop.
pub bind_ok : {A B : Type 0} (r : Result A ℕ) (f : A → Result B ℕ) (y : B) → (r >>= f) ≡ Ok y → (x : A) × (r ≡ Ok x) × (f x ≡ Ok y)
bind_ok (Ok x) f y e = (x, refl, e)
bind_ok (Err left) f y e = absurd cc

-- ---- values that are kept

-- What was read before, and what is still read.
abbrev pub with_front : {A : Type 0} → List A → Read (List A) → Read (List A)
with_front front read = read >>= λ x. Ok (front ++ x.0, x.1)

module _ {A : Type 0} (read : List ℕ → Read A) where
  regroup : (front : List A) (a : A) (rest : Read (List A)) → with_front front (rest >>= λ x. Ok (a ∷ x.0, x.1)) ≡ with_front (front ++ a ∷ []) rest
  regroup front a (Ok x) = ap (λ (xs : List A). Ok (xs, x.1)) (sym (append_assoc front (a ∷ []) x.0))
  regroup front a (Err left) = refl

  step : (front : List A) (count i : ℕ) (bytes : List ℕ) → i < count → with_front front (many_at read (count - i) bytes) ≡ with_front front (read bytes >>= λ first. many_at read (count - (i + 1)) first.1 >>= λ others. Ok (first.0 ∷ others.0, others.1))
  unfolding many_at
  step front count i bytes less =
      let one_more : count - i ≡ suc (count - (i + 1)) = omega arith in
      ap (λ (n : ℕ). with_front front (many_at read n bytes)) one_more

  pub goes_on : (front : List A) (count i : ℕ) (bytes : List ℕ) (a : A) (after : List ℕ) (total : Read (List A)) → i < count → read bytes ≡ Ok (a, after) → with_front front (many_at read (count - i) bytes) ≡ total
      → with_front (front ++ a ∷ []) (many_at read (count - (i + 1)) after) ≡ total
  goes_on front count i bytes a after total less here so_far =
      let rest : Read A → Read (List A) = λ r. with_front front (r >>= λ first. many_at read (count - (i + 1)) first.1 >>= λ others. Ok (first.0 ∷ others.0, others.1)) in
      sym (step front count i bytes less ∙ ap rest here ∙ regroup front a (many_at read (count - (i + 1)) after)) ∙ so_far

  pub stops_here : (stop : Unread) (front : List A) (count i : ℕ) (bytes : List ℕ) (total : Read (List A)) → i < count → Stops stop (read bytes) → with_front front (many_at read (count - i) bytes) ≡ total → Stops stop total
  stops_here stops.NoMemory front count i bytes total less here so_far = tt
  stops_here (stops.Fault left) front count i bytes total less here so_far =
      let rest : Read A → Read (List A) = λ r. with_front front (r >>= λ first. many_at read (count - (i + 1)) first.1 >>= λ others. Ok (first.0 ∷ others.0, others.1)) in
      sym so_far ∙ step front count i bytes less ∙ ap rest here

  pub all_read : (front : List A) (count i : ℕ) (bytes : List ℕ) (total : Read (List A)) → count ≤ i → with_front front (many_at read (count - i) bytes) ≡ total → total ≡ Ok (front, bytes)
  unfolding many_at
  all_read front count i bytes total most so_far =
      let none : count - i ≡ 0 = omega arith in
      sym so_far ∙ ap (λ (n : ℕ). with_front front (many_at read n bytes)) none ∙ ap (λ (xs : List A). Ok (xs, bytes)) (append-nil front)

  -- ---- values that aren't kept

  behind-more : (a : A) (others : Read (List A)) → behind (others >>= λ x. Ok (a ∷ x.0, x.1)) ≡ behind others
  behind-more a (Ok x) = refl
  behind-more a (Err left) = refl

  -- What is behind the first and the others of them.
  abbrev behind_first : ℕ → Read A → Result (List ℕ) ℕ
  behind_first n r = behind (r >>= λ first. many_at read n first.1 >>= λ others. Ok (first.0 ∷ others.0, others.1))

  pass-step : (count i : ℕ) (bytes : List ℕ) → i < count → behind (many_at read (count - i) bytes) ≡ behind_first (count - (i + 1)) (read bytes)
  unfolding many_at
  pass-step count i bytes less =
      let one_more : count - i ≡ suc (count - (i + 1)) = omega arith in
      ap (λ (n : ℕ). behind (many_at read n bytes)) one_more

  pub passes-on : (count i : ℕ) (bytes : List ℕ) (a : A) (after : List ℕ) (total : Result (List ℕ) ℕ) → i < count → read bytes ≡ Ok (a, after) → behind (many_at read (count - i) bytes) ≡ total → behind (many_at read (count - (i + 1)) after) ≡ total
  passes-on count i bytes a after total less here so_far =
      sym (pass-step count i bytes less ∙ ap (behind_first (count - (i + 1))) here ∙ behind-more a (many_at read (count - (i + 1)) after)) ∙ so_far

  pub pass-stops : (stop : Unread) (count i : ℕ) (bytes : List ℕ) (total : Result (List ℕ) ℕ) → i < count → Stops stop (read bytes) → behind (many_at read (count - i) bytes) ≡ total → Stops stop total
  pass-stops stops.NoMemory count i bytes total less here so_far = tt
  pass-stops (stops.Fault left) count i bytes total less here so_far =
      sym so_far ∙ pass-step count i bytes less ∙ ap (behind_first (count - (i + 1))) here

  pub all_passed : (count i : ℕ) (bytes : List ℕ) (total : Result (List ℕ) ℕ) → count ≤ i → behind (many_at read (count - i) bytes) ≡ total → total ≡ Ok bytes
  unfolding many_at
  all_passed count i bytes total most so_far =
      let none : count - i ≡ 0 = omega arith in
      sym so_far ∙ ap (λ (n : ℕ). behind (many_at read n bytes)) none

  -- ---- a part of them

  -- The first of so many and one more, and the others.
  pub record Opened (n : ℕ) (bytes : List ℕ) (all : List A) (rest : List ℕ) : Type 0 where
    pub one : A
    pub after : List ℕ
    pub reads : read bytes ≡ Ok (one, after)
    pub others : many_at read n after ≡ Ok (drop 1 all, rest)
    pub is : all ≡ one ∷ drop 1 all

  pub open-first : (n : ℕ) (bytes : List ℕ) (all : List A) (rest : List ℕ) → many_at read (suc n) bytes ≡ Ok (all, rest) → Opened n bytes all rest
  unfolding many_at
  open-first n bytes all rest e =
      let a = bind_ok (read bytes) (λ x. many_at read n x.1 >>= λ others. Ok (x.0 ∷ others.0, others.1)) (all, rest) e in
      let b = bind_ok (many_at read n a.0.1) (λ others. Ok (a.0.0 ∷ others.0, others.1)) (all, rest) a.2 in
      let same = ok_is (a.0.0 ∷ b.0.0, b.0.1) (all, rest) b.2 in
      subst (λ (y : List A × List ℕ). Opened n bytes y.0 y.1) same (record { one = a.0.0; after = a.0.1; reads = a.1; others = b.1; is = refl })

  -- The first so many, and the others.
  pub record Split (m n : ℕ) (bytes : List ℕ) (all : List A) (rest : List ℕ) : Type 0 where
    pub between : List ℕ
    pub first : many_at read m bytes ≡ Ok (take m all, between)
    pub others : many_at read n between ≡ Ok (drop m all, rest)

  -- One more before so many.
  with-one : (m : ℕ) (bytes after : List ℕ) (one : A) (front : List A) (between : List ℕ) → read bytes ≡ Ok (one, after) → many_at read m after ≡ Ok (front, between) → many_at read (suc m) bytes ≡ Ok (one ∷ front, between)
  unfolding many_at
  with-one m bytes after one front between here others =
      ap (λ (r : Read A). r >>= λ x. many_at read m x.1 >>= λ more. Ok (x.0 ∷ more.0, more.1)) here
      ∙ ap (λ (r : Read (List A)). r >>= λ more. Ok (one ∷ more.0, more.1)) others

  none-first : (bytes : List ℕ) → many_at read zero bytes ≡ Ok ([], bytes)
  unfolding many_at
  none-first bytes = refl

  pub split : (m n : ℕ) (bytes : List ℕ) (all : List A) (rest : List ℕ) → many_at read (m + n) bytes ≡ Ok (all, rest) → Split m n bytes all rest
  split zero n bytes all rest e =
      let none : n ≡ 0 + n = omega arith in
      record { between = bytes; first = none-first bytes; others = ap (λ (k : ℕ). many_at read k bytes) none ∙ e }
  split (suc m) n bytes all rest e =
      let more : suc (m + n) ≡ suc m + n = omega arith in
      let o = open-first (m + n) bytes all rest (ap (λ (k : ℕ). many_at read k bytes) more ∙ e) in
      let s = split m n o.after (drop 1 all) rest o.others in
      let front : o.one ∷ take m (drop 1 all) ≡ take (suc m) all = sym (ap (take (suc m)) o.is) in
      let back : drop m (drop 1 all) ≡ drop (suc m) all = sym (ap (drop (suc m)) o.is) in
      record {
        between = s.between;
        first = with-one m bytes o.after o.one (take m (drop 1 all)) s.between o.reads s.first ∙ ap (λ (xs : List A). Ok (xs, s.between)) front;
        others = s.others ∙ ap (λ (xs : List A). Ok (xs, rest)) back;
      }

  -- So many are read as were asked for.
  pub many-long : (n : ℕ) (bytes : List ℕ) (all : List A) (rest : List ℕ) → many_at read n bytes ≡ Ok (all, rest) → length all ≡ n
  many-long zero bytes all rest e = ap (λ (y : List A × List ℕ). length y.0) (sym (ok_is ([], bytes) (all, rest) (sym (none-first bytes) ∙ e)))
  many-long (suc n) bytes all rest e =
      let o = open-first n bytes all rest e in
      ap length o.is ∙ ap suc (many-long n o.after (drop 1 all) rest o.others)
