-- What a reader owes: it takes what its fields spell, and nothing else; and where it stops, the first of them is that isn't there.
use Rattle.std.proofs.Common.{◌≡◌, ◌⊎◌, inl, inr, ℕ, ◌<◌, ◌≤◌, List, [], ◌∷◌, ◌++◌, length, get_or, Result, Ok, Err, suc, refl, ap, sym, ◌∙◌, subst, append_assoc}
use Rattle.std.specs.List.{AllByRecursion}
use Rattle.std.proofs.lemmas.List.Concat.{flat_map-append}
use Rattle.flow_own.proofs.Many.{bind_ok, ok_is}
use Rattle.flow_tape.specs.Fields.{Field, bytes_of, spelled, IsWhole, MayStand}
use Rattle.flow_own.specs.Reading.{Read, ◌>>=◌}

-- These are bytes.
abbrev pub AreBytes : List ℕ → Type 0
AreBytes bytes = (i : ℕ) → get_or bytes i 0 < 256

-- The value's fields hold what they may, and more that is asked of it.
abbrev pub Fits : {A : Type 0} → (A → List Field) → (A → Type 0) → A → Type 0
Fits fields Also value = AllByRecursion IsWhole (fields value) × Also value

-- What follows isn't the field, and so many bytes there are from the fault on.
pub data Lacks (field : Field) (bytes : List ℕ) (left : ℕ) : Type 0 where
  short : length bytes < length (bytes_of field) → left ≡ 0 → Lacks field bytes left
  other : length (bytes_of field) ≤ length bytes → ¬ MayStand field bytes → left ≡ length bytes → Lacks field bytes left

-- Up to a field the bytes are those of some value, and that field isn't there.
pub record FaultIn {A : Type 0} (fields : A → List Field) (Also : A → Type 0) (bytes : List ℕ) (left : ℕ) : Type 0 where
  pub value : A
  pub fits : Fits fields Also value
  pub before : List Field
  pub field : Field
  pub after : List Field
  pub cut : fields value ≡ before ++ field ∷ after
  pub rest : List ℕ
  pub begins : bytes ≡ spelled before ++ rest
  pub lacks : Lacks field rest left

-- The reader of values with these fields.
pub record Reads {A : Type 0} (read : List ℕ → Read A) (fields : A → List Field) (Also : A → Type 0) : Type 0 where
  pub takes : (bytes : List ℕ) (x : A × List ℕ) → AreBytes bytes → read bytes ≡ Ok x → Fits fields Also x.0 × (bytes ≡ spelled (fields x.0) ++ x.1)
  pub again : (a : A) (rest : List ℕ) → Fits fields Also a → read (spelled (fields a) ++ rest) ≡ Ok (a, rest)
  pub faults : (bytes : List ℕ) (left : ℕ) → AreBytes bytes → read bytes ≡ Err left → FaultIn fields Also bytes left
  pub exact : (bytes : List ℕ) (left : ℕ) → FaultIn fields Also bytes left → read bytes ≡ Err left

-- the first of two steps stopped, or the second did
pub bind_err : {A B : Type 0} (r : Result A ℕ) (f : A → Result B ℕ) (left : ℕ) → (r >>= f) ≡ Err left → (r ≡ Err left) ⊎ ((x : A) × (r ≡ Ok x) × (f x ≡ Err left))
bind_err (Ok x) f left e = inr (x, refl, e)
bind_err (Err at) f left e = inl (let same : at ≡ left = cc in ap (λ (n : ℕ). Err n) same)

-- what stands behind the front of bytes is of bytes
pub bytes-after : (front bytes : List ℕ) → AreBytes (front ++ bytes) → AreBytes bytes
bytes-after [] bytes small = small
bytes-after (b ∷ front) bytes small = bytes-after front bytes (λ i. small (suc i))

pub spelled-join : (xs ys : List Field) (rest : List ℕ) → spelled (xs ++ ys) ++ rest ≡ spelled xs ++ (spelled ys ++ rest)
spelled-join xs ys rest = ap (λ (bs : List ℕ). bs ++ rest) (flat_map-append bytes_of xs ys) ∙ append_assoc (spelled xs) (spelled ys) rest

pub whole-join : (xs ys : List Field) → AllByRecursion IsWhole xs → AllByRecursion IsWhole ys → AllByRecursion IsWhole (xs ++ ys)
whole-join [] ys first second = second
whole-join (x ∷ xs) ys first second = (first.0, whole-join xs ys first.1 second)

pub whole-cut : (xs ys : List Field) → AllByRecursion IsWhole (xs ++ ys) → AllByRecursion IsWhole xs × AllByRecursion IsWhole ys
whole-cut [] ys whole = (tt, whole)
whole-cut (x ∷ xs) ys whole = let rest = whole-cut xs ys whole.1 in ((whole.0, rest.0), rest.1)

-- where two lists of fields are cut, one of them is
pub cut-cases : (xs ys before : List Field) (field : Field) (after : List Field) → xs ++ ys ≡ before ++ field ∷ after
    → ((more : List Field) × (xs ≡ before ++ field ∷ more)) ⊎ ((more : List Field) × (before ≡ xs ++ more) × (ys ≡ more ++ field ∷ after))
cut-cases [] ys before field after e = inr (before, refl, e)
cut-cases (x ∷ xs) ys [] field after e = inl (xs, (let head : x ≡ field = cc in ap (λ (f : Field). f ∷ xs) head))
cut-cases (x ∷ xs) ys (b ∷ before) field after e =
    let head : x ≡ b = cc in
    let tail : xs ++ ys ≡ before ++ field ∷ after = cc in
    elim (cut-cases xs ys before field after tail) [
      | inl first ↦ inl (first.0, (λ i. head i ∷ first.1 i))
      | inr second ↦ inr (second.0, (λ i. sym head i ∷ second.1 i), second.2)
    ]

-- no field stands in none
pub cut-none : (before : List Field) (field : Field) (after : List Field) → [] ≡ before ++ field ∷ after → ⊥
cut-none [] field after e = cc
cut-none (b ∷ before) field after e = cc

-- one field is cut before it
pub cut-one : (f : Field) (before : List Field) (field : Field) (after : List Field) → f ∷ [] ≡ before ++ field ∷ after → (before ≡ []) × (field ≡ f)
cut-one f [] field after e = (refl, cc)
cut-one f (b ∷ before) field after e = let tail : [] ≡ before ++ field ∷ after = cc in absurd (cut-none before field after tail)

-- ---- a reader that comes to one value by another's

-- The other reader.
abbrev pub matched : {A B : Type 0} → (List ℕ → Read A) → (A → B) → List ℕ → Read B
matched read value_of bytes = read bytes >>= λ x. Ok (value_of x.0, x.1)

-- Each value of the one sort is that of one of the other, with the same fields.
pub record Matches {A B : Type 0} (fields : A → List Field) (Also : A → Type 0) (value_of : A → B) (fields' : B → List Field) (Also' : B → Type 0) : Type 0 where
  pub same : (a : A) → fields' (value_of a) ≡ fields a
  pub there : (a : A) → Also a → Also' (value_of a)
  pub back : (b : B) → Also' b → (a : A) × Also a × (b ≡ value_of a)

module _ {A B : Type 0} (read : List ℕ → Read A) (fields : A → List Field) (Also : A → Type 0) (value_of : A → B) (fields' : B → List Field) (Also' : B → Type 0) (m : Matches fields Also value_of fields' Also') (r : Reads read fields Also) where
  fits-there : (a : A) → Fits fields Also a → Fits fields' Also' (value_of a)
  fits-there a fits = (subst (AllByRecursion IsWhole) (sym (m.same a)) fits.0, m.there a fits.1)

  fits-back : (b : B) → Fits fields' Also' b → (a : A) × Fits fields Also a × (b ≡ value_of a)
  fits-back b fits =
      let a = m.back b fits.1 in
      let whole : AllByRecursion IsWhole (fields a.0) = subst (AllByRecursion IsWhole) (m.same a.0) (subst (λ (x : B). AllByRecursion IsWhole (fields' x)) a.2 fits.0) in
      (a.0, (whole, a.1), a.2)

  matched-takes : (bytes : List ℕ) (x : B × List ℕ) → AreBytes bytes → matched read value_of bytes ≡ Ok x → Fits fields' Also' x.0 × (bytes ≡ spelled (fields' x.0) ++ x.1)
  matched-takes bytes x small e =
      let a = bind_ok (read bytes) (λ y. Ok (value_of y.0, y.1)) x e in
      let t = r.takes bytes a.0 small a.1 in
      let made : B × List ℕ = (value_of a.0.0, a.0.1) in
      let parts : bytes ≡ spelled (fields' (value_of a.0.0)) ++ a.0.1 = t.1 ∙ ap (λ (fs : List Field). spelled fs ++ a.0.1) (sym (m.same a.0.0)) in
      subst (λ (y : B × List ℕ). Fits fields' Also' y.0 × (bytes ≡ spelled (fields' y.0) ++ y.1)) (ok_is made x a.2) (fits-there a.0.0 t.0, parts)

  matched-again : (b : B) (rest : List ℕ) → Fits fields' Also' b → matched read value_of (spelled (fields' b) ++ rest) ≡ Ok (b, rest)
  matched-again b rest fits =
      let a = fits-back b fits in
      let same : fields' b ≡ fields a.0 = ap fields' a.2 ∙ m.same a.0 in
      ap (λ (fs : List Field). matched read value_of (spelled fs ++ rest)) same ∙ ap (λ (t : Read A). t >>= λ x. Ok (value_of x.0, x.1)) (r.again a.0 rest a.1) ∙ ap (λ (x : B). Ok (x, rest)) (sym a.2)

  matched-faults : (bytes : List ℕ) (left : ℕ) → AreBytes bytes → matched read value_of bytes ≡ Err left → FaultIn fields' Also' bytes left
  matched-faults bytes left small e =
      elim (bind_err (read bytes) (λ x. Ok (value_of x.0, x.1)) left e) [
        | inl stopped ↦
            let f = r.faults bytes left small stopped in
            record { value = value_of f.value; fits = fits-there f.value f.fits; before = f.before; field = f.field; after = f.after; cut = m.same f.value ∙ f.cut; rest = f.rest; begins = f.begins; lacks = f.lacks }
        | inr went ↦ absurd (let no = went.2 in cc)
      ]

  matched-exact : (bytes : List ℕ) (left : ℕ) → FaultIn fields' Also' bytes left → matched read value_of bytes ≡ Err left
  matched-exact bytes left f =
      let a = fits-back f.value f.fits in
      let cut : fields a.0 ≡ f.before ++ f.field ∷ f.after = sym (ap fields' a.2 ∙ m.same a.0) ∙ f.cut in
      let at : FaultIn fields Also bytes left = record { value = a.0; fits = a.1; before = f.before; field = f.field; after = f.after; cut = cut; rest = f.rest; begins = f.begins; lacks = f.lacks } in
      ap (λ (t : Read A). t >>= λ x. Ok (value_of x.0, x.1)) (r.exact bytes left at)

  pub matched-reads : Reads (matched read value_of) fields' Also'
  matched-reads = record { takes = matched-takes; again = matched-again; faults = matched-faults; exact = matched-exact }

-- ---- a reader of a first part, and then of one that follows from it

-- Both, one after the other.
abbrev pub joined : {K B : Type 0} → (List ℕ → Read K) → (K → List ℕ → Read B) → List ℕ → Read B
joined read_key read_rest bytes = read_key bytes >>= λ x. read_rest x.0 x.1

abbrev pub joined_fields : {K B : Type 0} → (K → List Field) → (B → List Field) → (B → K) → B → List Field
joined_fields key_fields rest_fields key b = key_fields (key b) ++ rest_fields b

-- The value has this first part.
abbrev pub AlsoAt : {K B : Type 0} → (B → Type 0) → (B → K) → K → B → Type 0
AlsoAt Also key k b = Also b × (key b ≡ k)

-- What is asked of the two.
pub record Joins {K B : Type 0} (read_key : List ℕ → Read K) (key_fields : K → List Field) (AlsoKey : K → Type 0) (read_rest : K → List ℕ → Read B) (rest_fields : B → List Field) (Also : B → Type 0) (key : B → K) : Type 0 where
  pub first : Reads read_key key_fields AlsoKey
  pub second : (k : K) → Fits key_fields AlsoKey k → Reads (read_rest k) rest_fields (AlsoAt Also key k)
  pub of_key : (b : B) → Also b → AlsoKey (key b)
  pub some : (k : K) → Fits key_fields AlsoKey k → (b : B) × Fits rest_fields (AlsoAt Also key k) b

module _ {K B : Type 0} (read_key : List ℕ → Read K) (key_fields : K → List Field) (AlsoKey : K → Type 0) (read_rest : K → List ℕ → Read B) (rest_fields : B → List Field) (Also : B → Type 0) (key : B → K) (j : Joins read_key key_fields AlsoKey read_rest rest_fields Also key) where
  joined-takes : (bytes : List ℕ) (x : B × List ℕ) → AreBytes bytes → joined read_key read_rest bytes ≡ Ok x → Fits (joined_fields key_fields rest_fields key) Also x.0 × (bytes ≡ spelled (joined_fields key_fields rest_fields key x.0) ++ x.1)
  joined-takes bytes x small e =
      let a = bind_ok (read_key bytes) (λ y. read_rest y.0 y.1) x e in
      let t = j.first.takes bytes a.0 small a.1 in
      let small_rest : AreBytes a.0.1 = bytes-after (spelled (key_fields a.0.0)) a.0.1 (subst AreBytes t.1 small) in
      let u = (j.second a.0.0 t.0).takes a.0.1 x small_rest a.2 in
      let same : key x.0 ≡ a.0.0 = u.0.1.1 in
      let whole : AllByRecursion IsWhole (key_fields (key x.0)) = subst (λ (k : K). AllByRecursion IsWhole (key_fields k)) (sym same) t.0.0 in
      let parts : bytes ≡ spelled (key_fields (key x.0)) ++ a.0.1 = subst (λ (k : K). bytes ≡ spelled (key_fields k) ++ a.0.1) (sym same) t.1 in (
        (whole-join (key_fields (key x.0)) (rest_fields x.0) whole u.0.0, u.0.1.0),
        parts ∙ ap (λ (r : List ℕ). spelled (key_fields (key x.0)) ++ r) u.1 ∙ sym (spelled-join (key_fields (key x.0)) (rest_fields x.0) x.1),
      )

  joined-again : (b : B) (rest : List ℕ) → Fits (joined_fields key_fields rest_fields key) Also b → joined read_key read_rest (spelled (joined_fields key_fields rest_fields key b) ++ rest) ≡ Ok (b, rest)
  joined-again b rest fits =
      let whole = whole-cut (key_fields (key b)) (rest_fields b) fits.0 in
      let of_key : Fits key_fields AlsoKey (key b) = (whole.0, j.of_key b fits.1) in
      let after : List ℕ = spelled (rest_fields b) ++ rest in
      ap (joined read_key read_rest) (spelled-join (key_fields (key b)) (rest_fields b) rest) ∙ ap (λ (t : Read K). t >>= λ x. read_rest x.0 x.1) (j.first.again (key b) after of_key) ∙ (j.second (key b) of_key).again b rest (whole.1, (fits.1, refl))

  joined-faults : (bytes : List ℕ) (left : ℕ) → AreBytes bytes → joined read_key read_rest bytes ≡ Err left → FaultIn (joined_fields key_fields rest_fields key) Also bytes left
  joined-faults bytes left small e =
      elim (bind_err (read_key bytes) (λ x. read_rest x.0 x.1) left e) [
        | inl stopped ↦
            let f = j.first.faults bytes left small stopped in
            let b = j.some f.value f.fits in
            let same : key b.0 ≡ f.value = b.1.1.1 in
            let whole : AllByRecursion IsWhole (key_fields (key b.0)) = subst (λ (k : K). AllByRecursion IsWhole (key_fields k)) (sym same) f.fits.0 in
            let cut : joined_fields key_fields rest_fields key b.0 ≡ f.before ++ f.field ∷ (f.after ++ rest_fields b.0) =
            ap (λ (fs : List Field). fs ++ rest_fields b.0) (ap key_fields same ∙ f.cut) ∙ append_assoc f.before (f.field ∷ f.after) (rest_fields b.0) in
            record { value = b.0; fits = (whole-join (key_fields (key b.0)) (rest_fields b.0) whole b.1.0, b.1.1.0); before = f.before; field = f.field; after = f.after ++ rest_fields b.0; cut = cut; rest = f.rest; begins = f.begins; lacks = f.lacks }
        | inr went ↦
            let k : K = went.0.0 in
            let t = j.first.takes bytes went.0 small went.1 in
            let small_rest : AreBytes went.0.1 = bytes-after (spelled (key_fields k)) went.0.1 (subst AreBytes t.1 small) in
            let f = (j.second k t.0).faults went.0.1 left small_rest went.2 in
            let same : key f.value ≡ k = f.fits.1.1 in
            let whole : AllByRecursion IsWhole (key_fields (key f.value)) = subst (λ (x : K). AllByRecursion IsWhole (key_fields x)) (sym same) t.0.0 in
            let parts : bytes ≡ spelled (key_fields (key f.value)) ++ went.0.1 = subst (λ (x : K). bytes ≡ spelled (key_fields x) ++ went.0.1) (sym same) t.1 in
            let cut : joined_fields key_fields rest_fields key f.value ≡ (key_fields (key f.value) ++ f.before) ++ f.field ∷ f.after =
            ap (λ (fs : List Field). key_fields (key f.value) ++ fs) f.cut ∙ sym (append_assoc (key_fields (key f.value)) f.before (f.field ∷ f.after)) in
            let begins : bytes ≡ spelled (key_fields (key f.value) ++ f.before) ++ f.rest =
            parts ∙ ap (λ (r : List ℕ). spelled (key_fields (key f.value)) ++ r) f.begins ∙ sym (spelled-join (key_fields (key f.value)) f.before f.rest) in
            record { value = f.value; fits = (whole-join (key_fields (key f.value)) (rest_fields f.value) whole f.fits.0, f.fits.1.0); before = key_fields (key f.value) ++ f.before; field = f.field; after = f.after; cut = cut; rest = f.rest; begins = begins; lacks = f.lacks }
      ]

  joined-exact : (bytes : List ℕ) (left : ℕ) → FaultIn (joined_fields key_fields rest_fields key) Also bytes left → joined read_key read_rest bytes ≡ Err left
  joined-exact bytes left f =
      let b : B = f.value in
      let whole = whole-cut (key_fields (key b)) (rest_fields b) f.fits.0 in
      let of_key : Fits key_fields AlsoKey (key b) = (whole.0, j.of_key b f.fits.1) in
      elim (cut-cases (key_fields (key b)) (rest_fields b) f.before f.field f.after f.cut) [
        | inl here ↦
            let at : FaultIn key_fields AlsoKey bytes left = record { value = key b; fits = of_key; before = f.before; field = f.field; after = here.0; cut = here.1; rest = f.rest; begins = f.begins; lacks = f.lacks } in
            ap (λ (t : Read K). t >>= λ x. read_rest x.0 x.1) (j.first.exact bytes left at)
        | inr behind ↦
            let after : List ℕ = spelled behind.0 ++ f.rest in
            let parts : bytes ≡ spelled (key_fields (key b)) ++ after = f.begins ∙ ap (λ (fs : List Field). spelled fs ++ f.rest) behind.1 ∙ spelled-join (key_fields (key b)) behind.0 f.rest in
            let at : FaultIn rest_fields (AlsoAt Also key (key b)) after left = record { value = b; fits = (whole.1, (f.fits.1, refl)); before = behind.0; field = f.field; after = f.after; cut = behind.2; rest = f.rest; begins = refl; lacks = f.lacks } in
            ap (joined read_key read_rest) parts ∙ ap (λ (t : Read K). t >>= λ x. read_rest x.0 x.1) (j.first.again (key b) after of_key) ∙ (j.second (key b) of_key).exact after left at
      ]

  pub joined-reads : Reads (joined read_key read_rest) (joined_fields key_fields rest_fields key) Also
  joined-reads = record { takes = joined-takes; again = joined-again; faults = joined-faults; exact = joined-exact }

-- ---- a reader of the same, seen otherwise

-- What is asked of a value, and its fields, said in two ways.
pub record Agree {A : Type 0} (fields : A → List Field) (Also : A → Type 0) (fields' : A → List Field) (Also' : A → Type 0) : Type 0 where
  pub there : (a : A) → Also a → Also' a
  pub back : (a : A) → Also' a → Also a
  pub same : (a : A) → Also a → fields a ≡ fields' a

module _ {A : Type 0} (read : List ℕ → Read A) (fields : A → List Field) (Also : A → Type 0) (fields' : A → List Field) (Also' : A → Type 0) where
  agreed-there : Agree fields Also fields' Also' → (a : A) → Fits fields Also a → Fits fields' Also' a
  agreed-there g a fits = (subst (AllByRecursion IsWhole) (g.same a fits.1) fits.0, g.there a fits.1)

  agreed-back : Agree fields Also fields' Also' → (a : A) → Fits fields' Also' a → Fits fields Also a
  agreed-back g a fits = (subst (AllByRecursion IsWhole) (sym (g.same a (g.back a fits.1))) fits.0, g.back a fits.1)

  agreed-takes : Agree fields Also fields' Also' → Reads read fields Also → (bytes : List ℕ) (x : A × List ℕ) → AreBytes bytes → read bytes ≡ Ok x → Fits fields' Also' x.0 × (bytes ≡ spelled (fields' x.0) ++ x.1)
  agreed-takes g r bytes x small e =
      let t = r.takes bytes x small e in
      (agreed-there g x.0 t.0, t.1 ∙ ap (λ (fs : List Field). spelled fs ++ x.1) (g.same x.0 t.0.1))

  agreed-again : Agree fields Also fields' Also' → Reads read fields Also → (a : A) (rest : List ℕ) → Fits fields' Also' a → read (spelled (fields' a) ++ rest) ≡ Ok (a, rest)
  agreed-again g r a rest fits =
      let b = agreed-back g a fits in
      ap (λ (fs : List Field). read (spelled fs ++ rest)) (sym (g.same a b.1)) ∙ r.again a rest b

  agreed-faults : Agree fields Also fields' Also' → Reads read fields Also → (bytes : List ℕ) (left : ℕ) → AreBytes bytes → read bytes ≡ Err left → FaultIn fields' Also' bytes left
  agreed-faults g r bytes left small e =
      let f = r.faults bytes left small e in
      record { value = f.value; fits = agreed-there g f.value f.fits; before = f.before; field = f.field; after = f.after; cut = sym (g.same f.value f.fits.1) ∙ f.cut; rest = f.rest; begins = f.begins; lacks = f.lacks }

  agreed-exact : Agree fields Also fields' Also' → Reads read fields Also → (bytes : List ℕ) (left : ℕ) → FaultIn fields' Also' bytes left → read bytes ≡ Err left
  agreed-exact g r bytes left f =
      let b = agreed-back g f.value f.fits in
      r.exact bytes left (record { value = f.value; fits = b; before = f.before; field = f.field; after = f.after; cut = g.same f.value b.1 ∙ f.cut; rest = f.rest; begins = f.begins; lacks = f.lacks })

  pub agreed-reads : Agree fields Also fields' Also' → Reads read fields Also → Reads read fields' Also'
  agreed-reads g r = record { takes = agreed-takes g r; again = agreed-again g r; faults = agreed-faults g r; exact = agreed-exact g r }

-- ---- a reader of a value without fields

abbrev gives : {A : Type 0} → A → List ℕ → Read A
gives value bytes = Ok (value, bytes)

module _ {A : Type 0} (value : A) (fields : A → List Field) (Also : A → Type 0) (none : fields value ≡ []) (also : Also value) (only : (a : A) → Also a → a ≡ value) where
  given-takes : (bytes : List ℕ) (x : A × List ℕ) → AreBytes bytes → gives value bytes ≡ Ok x → Fits fields Also x.0 × (bytes ≡ spelled (fields x.0) ++ x.1)
  given-takes bytes x small e =
      let whole : AllByRecursion IsWhole (fields value) = subst (AllByRecursion IsWhole) (sym none) tt in
      let parts : bytes ≡ spelled (fields value) ++ bytes = ap (λ (fs : List Field). spelled fs ++ bytes) (sym none) in
      subst (λ (y : A × List ℕ). Fits fields Also y.0 × (bytes ≡ spelled (fields y.0) ++ y.1)) (ok_is (value, bytes) x e) ((whole, also), parts)

  given-again : (a : A) (rest : List ℕ) → Fits fields Also a → gives value (spelled (fields a) ++ rest) ≡ Ok (a, rest)
  given-again a rest fits =
      let same : a ≡ value = only a fits.1 in
      let nothing : fields a ≡ [] = ap fields same ∙ none in
      λ i. Ok (sym same i, spelled (nothing i) ++ rest)

  given-faults : (bytes : List ℕ) (left : ℕ) → AreBytes bytes → gives value bytes ≡ Err left → FaultIn fields Also bytes left
  given-faults bytes left small e = absurd cc

  given-exact : (bytes : List ℕ) (left : ℕ) → FaultIn fields Also bytes left → gives value bytes ≡ Err left
  given-exact bytes left f = absurd (cut-none f.before f.field f.after (sym (ap fields (only f.value f.fits.1) ∙ none) ∙ f.cut))

  pub given-reads : Reads (λ bytes. Ok (value, bytes)) fields Also
  given-reads = record { takes = given-takes; again = given-again; faults = given-faults; exact = given-exact }
