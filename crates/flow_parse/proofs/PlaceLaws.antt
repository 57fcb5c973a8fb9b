-- A place more in a map of names, and what a table's places are then.
use Rattle.std.proofs.Common.{◌≡◌, ℕ, ◌+◌, ◌<◌, ◌≤◌, ◌≢◌, eqb, eq-eqb, length-append, Bool, true, false, cond, ltb, List, [], ◌∷◌, ◌++◌, length, map, Option, Some, None, refl, sym, ap, subst, ◌∙◌, arith}
use Rattle.std.specs.Prelude.{not, is_some, ◌||◌}
use Rattle.std.proofs.lemmas.Bool.{lt-ltb, le-ltb, ltb-true, ltb-false, eqb-true, ne_eqb}
use Rattle.std.proofs.lemmas.List.{length-map}
use Rattle.std.proofs.lemmas.List.Folds.{position_or_len_push, list_any-append}
use Rattle.std.proofs.lemmas.List.Sums.{prefix_len-le-length}
use Rattle.flow_parse.specs.declared.table.MentionedProcess.{MentionedProcess}
use Rattle.flow_parse.specs.declared.value.NetPart.{NetPart}
use Rattle.std.specs.Global.{Vec}
use Rattle.std.specs.Ordering.{is_eq, nat_cmp, eq_by_cmp}
use Rattle.std.specs.Cmp.{eq_by_cmp_equiv}
use Rattle.std.specs.Cmp.Lexicographic.{slice_cmp, nat_list_cmp_total}
use Rattle.std.specs.BTreeMap.{BTreeMap, Updates}
use Rattle.std.specs.Map.{lookup, KeepsOthers}
use Rattle.std.specs.Str.{bytes_eq}
use Rattle.std.specs.List.{position, position_or_len, list_any}
use Rattle.std.proofs.lemmas.Slice.Eq.{bytes_eq-Decides}
use Rattle.std.proofs.lemmas.Map.Text.{is_eq-slice_cmp}
use Rattle.flow_parse.specs.Places.{place_in}

turned : (a b : List ℕ) → bytes_eq a b ≡ false → bytes_eq b a ≡ false
turned a b e = elim (bytes_eq b a) as (λ v. bytes_eq b a ≡ v → v ≡ false) [
  | true ↦ λ t. let s : b ≡ a = (bytes_eq-Decides b a).0 t in let u : bytes_eq a b ≡ true = (bytes_eq-Decides a b).1 (sym s) in absurd cc
  | false ↦ λ t. refl
] refl

apart : (key name other : List ℕ) → bytes_eq key name ≡ false → is_eq (slice_cmp nat_cmp key other) ≡ true → is_eq (slice_cmp nat_cmp name other) ≡ false
apart key name other differ same =
    let at : key ≡ other = (bytes_eq-Decides key other).0 (sym (is_eq-slice_cmp key other) ∙ same) in
    is_eq-slice_cmp name other ∙ turned other name (subst (λ (k : List ℕ). bytes_eq k name ≡ false) at differ)

others : (key name : List ℕ) (old new : List (Vec ℕ × ℕ)) → KeepsOthers (eq_by_cmp (λ (x y : Vec ℕ). slice_cmp nat_cmp x.items y.items)) (λ (k : Vec ℕ). is_eq (slice_cmp nat_cmp key k.items)) old new → bytes_eq key name ≡ false
    → lookup (λ (k : Vec ℕ). is_eq (slice_cmp nat_cmp name k.items)) new ≡ lookup (λ (k : Vec ℕ). is_eq (slice_cmp nat_cmp name k.items)) old
unfolding KeepsOthers
others key name old new keeps differ = keeps (λ (k : Vec ℕ). is_eq (slice_cmp nat_cmp name k.items)) (λ x y. (eq_by_cmp_equiv nat_list_cmp_total).congr name x.items y.items) (λ k e. apart key name k.items differ e)

-- A map in which a name was put finds it there, and all others where they were.
pub put_place : (m n : BTreeMap (Vec ℕ) ℕ) (key : Vec ℕ) (place : ℕ) → Updates (λ (x y : Vec ℕ). slice_cmp nat_cmp x.items y.items) m n key (Some place)
    → (name : List ℕ) → place_in n name ≡ cond (bytes_eq key.items name) (Some place) (place_in m name)
put_place m n key place h name = elim (bytes_eq key.items name) as (λ v. bytes_eq key.items name ≡ v → place_in n name ≡ cond v (Some place) (place_in m name)) [
  | true ↦ λ e. let s : key.items ≡ name = (bytes_eq-Decides key.items name).0 e in subst (λ (l : List ℕ). place_in n l ≡ Some place) s h.1
  | false ↦ λ e. others key.items name m.entries n.entries h.3 e
] refl

place_of : (k n : ℕ) → k < n → cond (ltb k n) (Some k) None ≡ Some k
place_of k n below = rw (lt-ltb k n below) refl

no_place : (k n : ℕ) → n ≤ k → cond (ltb k n) (Some k) None ≡ None
no_place k n above = rw (le-ltb k n above) refl

-- the length with one more element
longer : {X : Type 0} (xs : List X) (x : X) → length (xs ++ x ∷ []) ≡ length xs + 1
longer xs x = length-append xs (x ∷ [])

-- The first that passes is the one that is pushed, where none before it does.
pub pushed_first : {X : Type 0} (p : X → Bool) (xs : List X) (x : X) → p x ≡ true → None ≡ position p xs → position p (xs ++ x ∷ []) ≡ Some (length xs)
pushed_first p xs x passes none =
    let k = position_or_len p xs in
    let at : length xs ≤ k = at_end k (length xs) (sym none) in
    let le : k ≤ length xs = prefix_len-le-length (λ y. not (p y)) xs in
    let new : position_or_len p (xs ++ x ∷ []) ≡ length xs = position_or_len_push p xs x ∙ here k (length xs) (p x) (omega arith) passes in
    ap (λ (i : ℕ). cond (ltb i (length (xs ++ x ∷ []))) (Some i) None) new ∙ place_of (length xs) (length (xs ++ x ∷ [])) (let l = longer xs x in omega arith) where
      at_end : (k n : ℕ) → cond (ltb k n) (Some k) None ≡ None → n ≤ k
      at_end k n e = elim (ltb k n) as (λ v. ltb k n ≡ v → cond v (Some k) None ≡ None → n ≤ k) [ true ↦ λ t f. absurd cc | false ↦ λ t f. ltb-false k n t ] refl e

      here : (k n : ℕ) (b : Bool) → k ≡ n → b ≡ true → cond (eqb k n) (n + cond b 0 1) k ≡ n
      here k n b same passes = rw passes (elim (eqb k n) as (λ v. cond v (n + 0) k ≡ n) [ true ↦ omega arith | false ↦ same ])

differs : (k n : ℕ) → eqb k n ≡ false → k ≡ n → ⊥
differs k n e s = let t : eqb k n ≡ true = eq-eqb k n s in cc

-- One that doesn't pass changes no place.
pub pushed_other : {X : Type 0} (p : X → Bool) (xs : List X) (x : X) → p x ≡ false → position p (xs ++ x ∷ []) ≡ position p xs
pushed_other p xs x fails =
    let k = position_or_len p xs in
    let le : k ≤ length xs = prefix_len-le-length (λ y. not (p y)) xs in
    let new : position_or_len p (xs ++ x ∷ []) ≡ cond (eqb k (length xs)) (length xs + 1) k = position_or_len_push p xs x ∙ ap (λ (b : Bool). cond (eqb k (length xs)) (length xs + cond b 0 1) k) fails in
    ap (λ (i : ℕ). cond (ltb i (length (xs ++ x ∷ []))) (Some i) None) new ∙ ap (λ (n : ℕ). cond (ltb (cond (eqb k (length xs)) (length xs + 1) k) n) (Some (cond (eqb k (length xs)) (length xs + 1) k)) None) (longer xs x) ∙ same k (length xs) le where
      same : (k n : ℕ) → k ≤ n → cond (ltb (cond (eqb k n) (n + 1) k) (n + 1)) (Some (cond (eqb k n) (n + 1) k)) None ≡ cond (ltb k n) (Some k) None
      same k n le = elim (eqb k n) as (λ v. eqb k n ≡ v → cond (ltb (cond v (n + 1) k) (n + 1)) (Some (cond v (n + 1) k)) None ≡ cond (ltb k n) (Some k) None) [
        | true ↦ λ e. let s = eqb-true k n e in no_place (n + 1) (n + 1) (omega arith) ∙ sym (no_place k n (omega arith))
        | false ↦ λ e. let d : k ≢ n = λ s. differs k n e s in place_of k (n + 1) (omega arith) ∙ sym (place_of k n (omega arith))
      ] refl

-- What was found stays where it was.
pub found_stays : {X : Type 0} (p : X → Bool) (xs : List X) (x : X) (i : ℕ) → position p xs ≡ Some i → position p (xs ++ x ∷ []) ≡ Some i
found_stays p xs x i is = by (position_or_len p xs) (length xs) (ltb (position_or_len p xs) (length xs)) refl refl refl is where
  by : (k n : ℕ) (b : Bool) → k ≡ position_or_len p xs → n ≡ length xs → ltb k n ≡ b → cond b (Some k) None ≡ Some i → position p (xs ++ x ∷ []) ≡ Some i
  by k n true ek en t e =
      let below : k < n = ltb-true k n t in
      let same : k ≡ i = cc in
      let apart : position_or_len p xs ≢ length xs = λ q. absurd (omega (arith, ek, en, q)) in
      let new : position_or_len p (xs ++ x ∷ []) ≡ k = position_or_len_push p xs x ∙ ap (λ (b : Bool). cond b (length xs + cond (p x) 0 1) (position_or_len p xs)) (ne_eqb (position_or_len p xs) (length xs) apart) ∙ sym ek in
      ap (λ (j : ℕ). cond (ltb j (length (xs ++ x ∷ []))) (Some j) None) new ∙ place_of k (length (xs ++ x ∷ [])) (let l = longer xs x in omega (arith, l, en, below)) ∙ ap Some same
  by k n false ek en t e = absurd cc

prefix_mapped : {X Y : Type 0} (f : X → Y) (q : Y → Bool) (xs : List X) → position_or_len (λ x. q (f x)) xs ≡ position_or_len q (map f xs)
prefix_mapped f q [] = refl
prefix_mapped f q (x ∷ xs) = ap (λ (n : ℕ). cond (not (q (f x))) (1 + n) 0) (prefix_mapped f q xs)

mapped : {X Y : Type 0} (f : X → Y) (q : Y → Bool) (xs : List X) → position (λ x. q (f x)) xs ≡ position q (map f xs)
mapped f q xs =
    ap (λ (i : ℕ). cond (ltb i (length xs)) (Some i) None) (prefix_mapped f q xs) ∙ ap (λ (n : ℕ). cond (ltb (position_or_len q (map f xs)) n) (Some (position_or_len q (map f xs))) None) (sym (length-map xs f))

-- The places of names in a list, where one more has a name that none before it has.
pub one_place_more : {R : Type 0} (key : R → List ℕ) (rows : List R) (row : R) (old new : List ℕ → Option ℕ) (place : ℕ) → ((name : List ℕ) → old name ≡ position (λ (r : R). bytes_eq (key r) name) rows)
    → ((name : List ℕ) → new name ≡ cond (bytes_eq (key row) name) (Some place) (old name)) → place ≡ length rows → position (λ (r : R). bytes_eq (key r) (key row)) rows ≡ None
    → (name : List ℕ) → new name ≡ position (λ (r : R). bytes_eq (key r) name) (rows ++ row ∷ [])
one_place_more {R} key rows row old new place before put at fresh name = put name ∙ (elim (bytes_eq (key row) name) as (λ v. bytes_eq (key row) name ≡ v → cond v (Some place) (old name) ≡ position (λ (r : R). bytes_eq (key r) name) (rows ++ row ∷ [])) [
  | true ↦ λ e.
      let s : key row ≡ name = (bytes_eq-Decides (key row) name).0 e in
      let none : None ≡ position (λ (r : R). bytes_eq (key r) name) rows = subst (λ (n : List ℕ). None ≡ position (λ (r : R). bytes_eq (key r) n) rows) s (sym fresh) in
      ap Some at ∙ sym (pushed_first (λ (r : R). bytes_eq (key r) name) rows row e none)
  | false ↦ λ e. before name ∙ sym (pushed_other (λ (r : R). bytes_eq (key r) name) rows row e)
] refl)

-- The first places of names in a list, where one more has the name of one before it.
pub one_name_again : {R : Type 0} (key : R → List ℕ) (rows : List R) (row : R) (places : List ℕ → Option ℕ) (place : ℕ) → ((name : List ℕ) → places name ≡ position (λ (r : R). bytes_eq (key r) name) rows)
    → places (key row) ≡ Some place → (name : List ℕ) → places name ≡ position (λ (r : R). bytes_eq (key r) name) (rows ++ row ∷ [])
one_name_again {R} key rows row places place before there name = by (bytes_eq (key row) name) refl where
  by : (b : Bool) → bytes_eq (key row) name ≡ b → places name ≡ position (λ (r : R). bytes_eq (key r) name) (rows ++ row ∷ [])
  by true e =
      let at : places name ≡ Some place = subst (λ (n : List ℕ). places n ≡ Some place) ((bytes_eq-Decides (key row) name).0 e) there in
      at ∙ sym (found_stays (λ (r : R). bytes_eq (key r) name) rows row place (sym (before name) ∙ at))
  by false e = before name ∙ sym (pushed_other (λ (r : R). bytes_eq (key r) name) rows row e)

-- The places of a table's names, where no name has changed.
pub places_stay : (old new : List MentionedProcess) (names : List ℕ → Option ℕ) → ((name : List ℕ) → names name ≡ position (λ (r : MentionedProcess). bytes_eq r.name name) old) → map (λ r. r.name) new ≡ map (λ r. r.name) old
    → (name : List ℕ) → names name ≡ position (λ (r : MentionedProcess). bytes_eq r.name name) new
places_stay old new names before same name =
    let f : MentionedProcess → List ℕ = λ r. r.name in
    let q : List ℕ → Bool = λ n. bytes_eq n name in
    before name ∙ mapped f q old ∙ ap (position q) (sym same) ∙ sym (mapped f q new)

-- The names of subnets, where one more has ended.
pub one_subnet_more : (rows : List (List ℕ × NetPart)) (row : List ℕ × NetPart) (old new : List ℕ → Option ℕ) (place : ℕ) → ((name : List ℕ) → is_some (old name) ≡ list_any (λ (r : List ℕ × NetPart). bytes_eq r.0 name) rows)
    → ((name : List ℕ) → new name ≡ cond (bytes_eq row.0 name) (Some place) (old name))
    → (name : List ℕ) → is_some (new name) ≡ list_any (λ (r : List ℕ × NetPart). bytes_eq r.0 name) (rows ++ row ∷ [])
one_subnet_more rows row old new place before put name =
    ap is_some (put name) ∙ (elim (bytes_eq row.0 name) as (λ v. is_some (cond v (Some place) (old name)) ≡ (list_any (λ (r : List ℕ × NetPart). bytes_eq r.0 name) rows || (v || false))) [
      | true ↦ sym (or_true (list_any (λ (r : List ℕ × NetPart). bytes_eq r.0 name) rows))
      | false ↦ before name ∙ sym (or_false (list_any (λ (r : List ℕ × NetPart). bytes_eq r.0 name) rows))
    ]) ∙ sym (list_any-append (λ (r : List ℕ × NetPart). bytes_eq r.0 name) rows (row ∷ [])) where
      or_true : (b : Bool) → (b || true) ≡ true
      or_true true = refl
      or_true false = refl

      or_false : (b : Bool) → (b || false) ≡ b
      or_false true = refl
      or_false false = refl
