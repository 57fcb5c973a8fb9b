-- The processes of the flat text of a file's value may follow one another: their flat names differ, since no name has a dot.
use Rattle.flow_limits.specs.declared.TheConstants.{PROCESS_LIMIT}
use Rattle.std.proofs.Common.{◌≡◌, ◌≢◌, ℕ, ◌+◌, zero, suc, Bool, true, false, cond, List, [], ◌∷◌, ◌++◌, map, length, take, Option, Some, None, Ok, Err, refl, ap, sym, subst, ◌∙◌, slice_get, get_or, arith, append_assoc, length-append}
use Rattle.std.specs.Prelude.{is_some, not, nat_le, count_by, if◌then◌else◌}
use Rattle.std.specs.List.{AllByRecursion, filter_map, cons_option, flat_map, find}
use Rattle.std.specs.Option.{option_map, option_map_or}
use Rattle.std.specs.Str.{bytes_eq}
use Rattle.std.proofs.lemmas.Bool.{false≢true}
use Rattle.std.proofs.lemmas.List.{append_cancel_left, append-nil}
use Rattle.std.proofs.lemmas.List.Sums.{sum_by-cons}
use Rattle.std.proofs.lemmas.List.Quantifiers.{position-Some}
use Rattle.std.proofs.lemmas.Option.{slice_get-get_or}
use Rattle.std.proofs.lemmas.Slice.Eq.{bytes_eq-Decides}
use Rattle.flow_net.specs.declared.fault.PlanFault.TheVariants.{SameName, UnknownKind, TooMany}
use Rattle.flow_net.specs.declared.fault.Many.TheVariants as many
use Rattle.flow_plan.specs.declared.kind.KindSpec.{KindSpec}
use Rattle.flow_net.specs.Drafts.{◌>>=◌, refused_if}
use Rattle.flow_net.specs.Calls.{kind_named}
use Rattle.flow_parse.specs.declared.value.NetPart.{NetPart}
use Rattle.flow_parse.specs.declared.value.NetText.{NetText}
use Rattle.flow_parse.specs.Spelling.{is_word_byte}
use Rattle.flow_parse.specs.Values.{IsName, IsNetPart, IsNetText, Differ}
use Rattle.flow_flat.specs.declared.fault.ExpandFault.TheVariants as faults
use Rattle.flow_flat.specs.Firsts.{AllPass}
use Rattle.flow_flat.specs.Names.{process_called}
use Rattle.flow_flat.specs.Faults.{ProcessPasses, process_test}
use Rattle.flow_flat.specs.Subnets.{Instance, subnet_called, within, instances}
use Rattle.flow_flat.specs.Texts.{InstancePasses, instance_test, plain_test, subnet_test, fails_if, is_subnet, all_instances, plain_process, flat_of}

-- A name without a dot.
abbrev HasNoDot : List ℕ → Type 0
HasNoDot = AllByRecursion (λ b. b ≢ 46)

no_dot : (word : List ℕ) → AllByRecursion (λ b. is_word_byte b ≡ true) word → HasNoDot word
no_dot [] all = tt
no_dot (b ∷ bs) all = ((λ is. let same : is_word_byte 46 ≡ true = subst (λ (c : ℕ). is_word_byte c ≡ true) is all.0 in false≢true same), no_dot bs all.1)

-- Nothing, or what begins with a dot.
abbrev IsTail : List ℕ → Type 0
IsTail [] = Unit {0}
IsTail (b ∷ bs) = b ≡ 46

head_same : (a b t u : List ℕ) → HasNoDot a → HasNoDot b → IsTail t → IsTail u → a ++ t ≡ b ++ u → a ≡ b
head_same [] [] t u p q r s is = refl
head_same [] (y ∷ b) [] u p q r s is = absurd (cc)
head_same [] (y ∷ b) (z ∷ t) u p q r s is = let same : z ≡ y = cc in absurd (q.0 (sym same ∙ r))
head_same (x ∷ a) [] t [] p q r s is = absurd (cc)
head_same (x ∷ a) [] t (z ∷ u) p q r s is = let same : x ≡ z = cc in absurd (p.0 (same ∙ s))
head_same (x ∷ a) (y ∷ b) t u p q r s is =
    let first : x ≡ y = cc in
    let rest : a ++ t ≡ b ++ u = cc in
    let more : a ≡ b = head_same a b t u p.1 q.1 r s rest in
    cc

-- A name that begins so, and goes on with nothing or with a dot.
record Under (prefix name full : List ℕ) : Type 0 where
  pub tail : List ℕ
  pub is : full ≡ (prefix ++ name) ++ tail
  pub ends : IsTail tail

under_same : (prefix a b f g : List ℕ) → HasNoDot a → HasNoDot b → Under prefix a f → Under prefix b g → f ≡ g → a ≡ b
under_same prefix a b f g p q x y same =
    let whole : (prefix ++ a) ++ x.tail ≡ (prefix ++ b) ++ y.tail = sym x.is ∙ same ∙ y.is in
    let parts : prefix ++ (a ++ x.tail) ≡ prefix ++ (b ++ y.tail) = sym (append_assoc prefix a x.tail) ∙ whole ∙ append_assoc prefix b y.tail in
    head_same a b x.tail y.tail p q x.ends y.ends (append_cancel_left prefix (a ++ x.tail) (b ++ y.tail) parts)

all_append : {X : Type 0} (P : X → Type 0) (xs ys : List X) → AllByRecursion P xs → AllByRecursion P ys → AllByRecursion P (xs ++ ys)
all_append P [] ys p q = q
all_append P (x ∷ xs) ys p q = (p.0, all_append P xs ys p.1 q)

all_also : {X : Type 0} (P Q : X → Type 0) (xs : List X) → ((x : X) → P x → Q x) → AllByRecursion P xs → AllByRecursion Q xs
all_also P Q [] also p = tt
all_also P Q (x ∷ xs) also p = (also x p.0, all_also P Q xs also p.1)

-- Each name begins so.
abbrev BeginAll : List ℕ → List Instance → Type 0
BeginAll prefix xs = AllByRecursion (λ (y : Instance). (t : List ℕ) × (y.name ≡ prefix ++ t)) xs

abbrev inner : NetText → ℕ → List ℕ → List (List ℕ) → List ℕ × List ℕ → List Instance
inner text n prefix inside x = option_map_or (instances text n (within prefix x.0) (x.1 ∷ inside)) (subnet_called text x.1) []

abbrev entry : NetText → ℕ → List ℕ → List (List ℕ) → List ℕ × List ℕ → List Instance
entry text n prefix inside x = record { name = prefix ++ x.0; kind = x.1; inside = inside } ∷ inner text n prefix inside x

module _ (text : NetText) where
  deeper : (prefix name : List ℕ) (xs : List Instance) → BeginAll (within prefix name) xs → AllByRecursion (λ (y : Instance). Under prefix name y.name) xs
  deeper prefix name xs all = all_also (λ (y : Instance). (t : List ℕ) × (y.name ≡ within prefix name ++ t)) (λ (y : Instance). Under prefix name y.name) xs
      (λ y is. record { tail = 46 ∷ is.0; is = is.1 ∙ append_assoc (prefix ++ name) (46 ∷ []) is.0; ends = refl }) all

  outer : (prefix name : List ℕ) (xs : List Instance) → AllByRecursion (λ (y : Instance). Under prefix name y.name) xs → BeginAll prefix xs
  outer prefix name xs all = all_also (λ (y : Instance). Under prefix name y.name) (λ (y : Instance). (t : List ℕ) × (y.name ≡ prefix ++ t)) xs
      (λ y is. (name ++ is.tail, is.is ∙ append_assoc prefix name is.tail)) all

  begin_all : (n : ℕ) (prefix : List ℕ) (inside : List (List ℕ)) (part : NetPart) → BeginAll prefix (instances text n prefix inside part)
  begin_all zero prefix inside part = tt
  begin_all (suc n) prefix inside part = over part.processes (λ x. by (subnet_called text x.1) x.0 x.1 (λ p. begin_all n (within prefix x.0) (x.1 ∷ inside) p)) where
    by : (o : Option NetPart) (name kind : List ℕ) → ((p : NetPart) → BeginAll (within prefix name) (instances text n (within prefix name) (kind ∷ inside) p)) → BeginAll (within prefix name) (option_map_or (instances text n (within prefix name) (kind ∷ inside)) o [])
    by None name kind more = tt
    by (Some p) name kind more = more p

    over : (ps : List (List ℕ × List ℕ)) → ((x : List ℕ × List ℕ) → BeginAll (within prefix x.0) (inner text n prefix inside x)) → BeginAll prefix (flat_map (entry text n prefix inside) ps)
    over [] more = tt
    over (x ∷ ps) more = ((x.0, refl), all_append (λ (y : Instance). (t : List ℕ) × (y.name ≡ prefix ++ t)) (inner text n prefix inside x) (flat_map (entry text n prefix inside) ps) (outer prefix x.0 (inner text n prefix inside x) (deeper prefix x.0 (inner text n prefix inside x) (more x))) (over ps more))

  -- No two of these have one name.
  abbrev AllDiffer : List Instance → Type 0
  AllDiffer [] = Unit {0}
  AllDiffer (x ∷ xs) = AllByRecursion (λ (y : Instance). x.name ≢ y.name) xs × AllDiffer xs

  differ_append : (xs ys : List Instance) → AllDiffer xs → AllDiffer ys → AllByRecursion (λ (x : Instance). AllByRecursion (λ (y : Instance). x.name ≢ y.name) ys) xs → AllDiffer (xs ++ ys)
  differ_append [] ys a b apart = b
  differ_append (x ∷ xs) ys a b apart = (all_append (λ (y : Instance). x.name ≢ y.name) xs ys a.0 apart.0, differ_append xs ys a.1 b apart.1)

  -- A name that belongs to a process of another name.
  record Other (prefix name full : List ℕ) : Type 0 where
    pub process : List ℕ
    pub plain : HasNoDot process
    pub apart : name ≢ process
    pub under : Under prefix process full

  longer : (prefix name : List ℕ) (y : Instance) → (t : List ℕ) × (y.name ≡ within prefix name ++ t) → prefix ++ name ≢ y.name
  longer prefix name y is same =
      let long : length (prefix ++ name) ≡ length (((prefix ++ name) ++ 46 ∷ []) ++ is.0) = ap length (same ∙ is.1) in
      absurd (omega (arith, long, length-append ((prefix ++ name) ++ 46 ∷ []) is.0, length-append (prefix ++ name) (46 ∷ [])))

  inner_begins : (n : ℕ) (prefix : List ℕ) (inside : List (List ℕ)) (x : List ℕ × List ℕ) → BeginAll (within prefix x.0) (inner text n prefix inside x)
  inner_begins n prefix inside x = by (subnet_called text x.1) where
    by : (o : Option NetPart) → BeginAll (within prefix x.0) (option_map_or (instances text n (within prefix x.0) (x.1 ∷ inside)) o [])
    by None = tt
    by (Some p) = begin_all n (within prefix x.0) (x.1 ∷ inside) p

  entry_under : (n : ℕ) (prefix : List ℕ) (inside : List (List ℕ)) (x : List ℕ × List ℕ) → AllByRecursion (λ (y : Instance). Under prefix x.0 y.name) (entry text n prefix inside x)
  entry_under n prefix inside x = (record { tail = []; is = sym (append-nil (prefix ++ x.0)); ends = tt }, deeper prefix x.0 (inner text n prefix inside x) (inner_begins n prefix inside x))

  differ_bytes : (a b : List ℕ) → bytes_eq a b ≡ false → a ≢ b
  differ_bytes a b is same = by (bytes_eq a b) refl is where
    by : (v : Bool) → bytes_eq a b ≡ v → v ≡ false → ⊥
    by v eq fails = grind (arith, bytes_eq-Decides, eq, fails, same)

  others : (n : ℕ) (prefix : List ℕ) (inside : List (List ℕ)) (name : List ℕ) (ps : List (List ℕ × List ℕ)) → AllByRecursion (λ (p : List ℕ × List ℕ). IsName p.0 × IsName p.1) ps → AllByRecursion (λ other. bytes_eq name other ≡ false) (map (λ p. p.0) ps)
      → AllByRecursion (λ (z : Instance). Other prefix name z.name) (flat_map (entry text n prefix inside) ps)
  others n prefix inside name [] named apart = tt
  others n prefix inside name (p ∷ ps) named apart = all_append (λ (z : Instance). Other prefix name z.name) (entry text n prefix inside p) (flat_map (entry text n prefix inside) ps)
      (all_also (λ (z : Instance). Under prefix p.0 z.name) (λ (z : Instance). Other prefix name z.name) (entry text n prefix inside p)
      (λ z under. record { process = p.0; plain = no_dot p.0 named.0.0.1; apart = differ_bytes name p.0 apart.0; under = under }) (entry_under n prefix inside p))
      (others n prefix inside name ps named.1 apart.1)

  module _ (valid : IsNetText text) where
    found_valid : (subnets : List (List ℕ × NetPart)) (name : List ℕ) (part : NetPart) → AllByRecursion (λ (s : List ℕ × NetPart). IsName s.0 × IsNetPart text.version s.1) subnets → option_map (λ (s : List ℕ × NetPart). s.1) (find (λ (s : List ℕ × NetPart). bytes_eq s.0 name) subnets) ≡ Some part → IsNetPart text.version part
    found_valid [] name part all is = absurd (cc)
    found_valid (s ∷ ss) name part all is = by (λ there. found_valid ss name part all.1 there) (bytes_eq s.0 name) is where
      by : (option_map (λ (s : List ℕ × NetPart). s.1) (find (λ (s : List ℕ × NetPart). bytes_eq s.0 name) ss) ≡ Some part → IsNetPart text.version part) → (b : Bool) → option_map (λ (s : List ℕ × NetPart). s.1) (cond b (Some s) (find (λ (s : List ℕ × NetPart). bytes_eq s.0 name) ss)) ≡ Some part → IsNetPart text.version part
      by more true is = let same : s.1 ≡ part = cc in subst (IsNetPart text.version) same all.0.1
      by more false is = more is

    instances_differ : (n : ℕ) (prefix : List ℕ) (inside : List (List ℕ)) (part : NetPart) → IsNetPart text.version part → AllDiffer (instances text n prefix inside part)
    instances_differ zero prefix inside part is = tt
    instances_differ (suc n) prefix inside part is = over part.processes is.named is.differ (λ x. by (subnet_called text x.1) x.0 x.1 refl (λ p sound. instances_differ n (within prefix x.0) (x.1 ∷ inside) p sound)) where
      by : (o : Option NetPart) (name kind : List ℕ) → subnet_called text kind ≡ o → ((p : NetPart) → IsNetPart text.version p → AllDiffer (instances text n (within prefix name) (kind ∷ inside) p)) → AllDiffer (option_map_or (instances text n (within prefix name) (kind ∷ inside)) o [])
      by None name kind is more = tt
      by (Some p) name kind is more = more p (found_valid text.subnets kind p valid.subnets is)

      over : (ps : List (List ℕ × List ℕ)) → AllByRecursion (λ (p : List ℕ × List ℕ). IsName p.0 × IsName p.1) ps → Differ (map (λ p. p.0) ps) → ((x : List ℕ × List ℕ) → AllDiffer (inner text n prefix inside x)) → AllDiffer (flat_map (entry text n prefix inside) ps)
      over [] named differ more = tt
      over (x ∷ ps) named differ more = differ_append (entry text n prefix inside x) (flat_map (entry text n prefix inside) ps) (first, more x) (over ps named.1 differ.1 more) apart where
        first : AllByRecursion (λ (y : Instance). prefix ++ x.0 ≢ y.name) (inner text n prefix inside x)
        first = all_also (λ (y : Instance). (t : List ℕ) × (y.name ≡ within prefix x.0 ++ t)) (λ (y : Instance). prefix ++ x.0 ≢ y.name) (inner text n prefix inside x) (longer prefix x.0) (inner_begins n prefix inside x)

        apart : AllByRecursion (λ (y : Instance). AllByRecursion (λ (z : Instance). y.name ≢ z.name) (flat_map (entry text n prefix inside) ps)) (entry text n prefix inside x)
        apart = all_also (λ (y : Instance). Under prefix x.0 y.name) (λ (y : Instance). AllByRecursion (λ (z : Instance). y.name ≢ z.name) (flat_map (entry text n prefix inside) ps)) (entry text n prefix inside x)
            (λ y under. all_also (λ (z : Instance). Other prefix x.0 z.name) (λ (z : Instance). y.name ≢ z.name) (flat_map (entry text n prefix inside) ps)
            (λ z other same. other.apart (under_same prefix x.0 other.process y.name z.name (no_dot x.0 named.0.0.1) other.plain under other.under same)) (others n prefix inside x.0 ps named.1 differ.0))
            (entry_under n prefix inside x)

-- What stands at a place of a filtered list, and what the list had before it.
record FilteredAt {X Y : Type 0} (f : X → Option Y) (xs : List X) (k : ℕ) (y : Y) : Type 0 where
  pub place : ℕ
  pub one : X
  pub here : slice_get xs place ≡ Some one
  pub gives : f one ≡ Some y
  pub before : take k (filter_map f xs) ≡ filter_map f (take place xs)

filtered_at : {X Y : Type 0} (f : X → Option Y) (xs : List X) (k : ℕ) (y : Y) → slice_get (filter_map f xs) k ≡ Some y → FilteredAt f xs k y
filtered_at f [] k y is = absurd (cc)
filtered_at {X} {Y} f (x ∷ xs) k y is = by (f x) refl k is (λ j there. filtered_at f xs j y there) where
  push : (o : Option Y) → f x ≡ o → (j k : ℕ) (r : FilteredAt f xs j y) → take k (cons_option o (filter_map f xs)) ≡ cons_option o (take j (filter_map f xs)) → FilteredAt f (x ∷ xs) k y
  push o is j k r cut = record {
    place = suc r.place;
    one = r.one;
    here = r.here;
    gives = r.gives;
    before = ap (λ (p : Option Y). take k (cons_option p (filter_map f xs))) is ∙ cut ∙ ap (cons_option o) r.before ∙ ap (λ (p : Option Y). cons_option p (filter_map f (take r.place xs))) (sym is);
  }

  by : (o : Option Y) → f x ≡ o → (k : ℕ) → slice_get (cons_option o (filter_map f xs)) k ≡ Some y → ((j : ℕ) → slice_get (filter_map f xs) j ≡ Some y → FilteredAt f xs j y) → FilteredAt f (x ∷ xs) k y
  by None is k there more = push None is k k (more k there) refl
  by (Some z) is zero there more = record { place = zero; one = x; here = refl; gives = is ∙ there; before = refl }
  by (Some z) is (suc j) there more = push (Some z) is j (suc j) (more j there) refl

all_at : {X : Type 0} (P : X → Type 0) (xs : List X) (i : ℕ) (x : X) → AllByRecursion P xs → slice_get xs i ≡ Some x → P x
all_at P [] i x all is = absurd (cc)
all_at P (y ∷ xs) zero x all is = let same : y ≡ x = cc in subst P same all.0
all_at P (y ∷ xs) (suc i) x all is = all_at P xs i x all.1 is

-- Nothing is called so where no name is the same.
called_none : (xs : List (List ℕ × List ℕ)) (name : List ℕ) → AllByRecursion (λ (x : List ℕ × List ℕ). bytes_eq x.0 name ≡ false) xs → is_some (process_called xs name) ≡ false
called_none xs name all = by (process_called xs name) refl where
  by : (o : Option ℕ) → process_called xs name ≡ o → is_some o ≡ false
  by None is = refl
  by (Some i) is =
      let d : List ℕ × List ℕ = ([], []) in
      let found = position-Some (λ (x : List ℕ × List ℕ). bytes_eq x.0 name) xs i d is in
      absurd (false≢true (sym (all_at (λ (x : List ℕ × List ℕ). bytes_eq x.0 name ≡ false) xs i (get_or xs i d) all (slice_get-get_or xs i d found.0)) ∙ found.1))

process_ok : (kinds : List KindSpec) (before : List (List ℕ × List ℕ)) (x : List ℕ × List ℕ) → is_some (process_called before x.0) ≡ false → is_some (kind_named kinds x.1) ≡ true → nat_le PROCESS_LIMIT (length before) ≡ false → process_test kinds before x ≡ Ok tt
process_ok kinds before x new known few =
    ap (λ (b : Bool). refused_if b (SameName x.0) >>= λ n. refused_if (not (is_some (kind_named kinds x.1))) (UnknownKind x.0 x.1) >>= λ k. refused_if (nat_le PROCESS_LIMIT (length before)) (TooMany many.Processes)) new
    ∙ ap (λ (b : Bool). refused_if (not b) (UnknownKind x.0 x.1) >>= λ k. refused_if (nat_le PROCESS_LIMIT (length before)) (TooMany many.Processes)) known
    ∙ ap (λ (b : Bool). refused_if b (TooMany many.Processes)) few

same_names : (a b : List ℕ) → a ≢ b → bytes_eq a b ≡ false
same_names a b apart = by (bytes_eq a b) refl where
  by : (v : Bool) → bytes_eq a b ≡ v → v ≡ false
  by false is = refl
  by true is = absurd (apart (grind (arith, bytes_eq-Decides, is)))

module _ (text : NetText) (kinds : List KindSpec) where
  abbrev plain : Instance → Bool
  plain y = not (is_subnet text y)

  instance_ok : (before : List Instance) (x : Instance) → instance_test text kinds before x ≡ Ok tt → is_subnet text x ≡ false → (is_some (kind_named kinds x.kind) ≡ true) × (nat_le PROCESS_LIMIT (count_by plain before) ≡ false)
  instance_ok before x = by (nat_le 9 (length x.inside)) (subnet_called text x.kind) where
    few : (b c : Bool) → (if b then fails_if c (faults.Plan (TooMany many.Processes)) else Err (faults.Plan (UnknownKind x.name x.kind))) ≡ Ok tt → (b ≡ true) × (c ≡ false)
    few true false is = (refl, refl)
    few true true is = absurd (cc)
    few false c is = absurd (cc)

    by : (b : Bool) (o : Option NetPart) → (if b then Err (faults.Depth x.name) else elim o [ None ↦ plain_test text kinds before x | Some part ↦ subnet_test text before x part ]) ≡ Ok tt → is_some o ≡ false → (is_some (kind_named kinds x.kind) ≡ true) × (nat_le PROCESS_LIMIT (count_by plain before) ≡ false)
    by true o is none = absurd (cc)
    by false None is none = few (is_some (kind_named kinds x.kind)) (nat_le PROCESS_LIMIT (count_by plain before)) is
    by false (Some part) is none = absurd (cc)

  plain_count : (xs : List Instance) → length (filter_map (plain_process text) xs) ≡ count_by plain xs
  plain_count [] = refl
  plain_count (x ∷ xs) = by (is_subnet text x) ∙ ap (λ (n : ℕ). cond (plain x) 1 0 + n) (plain_count xs) ∙ sym (sum_by-cons (λ (y : Instance). cond (plain y) 1 0) x xs) where
    by : (b : Bool) → length (cons_option (let o : Option (List ℕ × List ℕ) = if b then None else Some (x.name, x.kind) in o) (filter_map (plain_process text) xs)) ≡ cond (not b) 1 0 + length (filter_map (plain_process text) xs)
    by true = omega arith
    by false = omega arith

  differ_before : (xs : List Instance) → AllDiffer text xs → (j : ℕ) (x : Instance) → slice_get xs j ≡ Some x → AllByRecursion (λ (y : Instance). y.name ≢ x.name) (take j xs)
  differ_before xs all zero x is = tt
  differ_before [] all (suc j) x is = absurd (cc)
  differ_before (y ∷ xs) all (suc j) x is = (all_at (λ (z : Instance). y.name ≢ z.name) xs j x all.0 is, differ_before xs all.1 j x is)

  names_differ : (xs : List Instance) (name : List ℕ) → AllByRecursion (λ (y : Instance). y.name ≢ name) xs → AllByRecursion (λ (z : List ℕ × List ℕ). bytes_eq z.0 name ≡ false) (filter_map (plain_process text) xs)
  names_differ [] name all = tt
  names_differ (y ∷ xs) name all = by (is_subnet text y) (names_differ xs name all.1) where
    by : (b : Bool) → AllByRecursion (λ (z : List ℕ × List ℕ). bytes_eq z.0 name ≡ false) (filter_map (plain_process text) xs)
        → AllByRecursion (λ (z : List ℕ × List ℕ). bytes_eq z.0 name ≡ false) (cons_option (let o : Option (List ℕ × List ℕ) = if b then None else Some (y.name, y.kind) in o) (filter_map (plain_process text) xs))
    by true more = more
    by false more = (same_names y.name name all.0, more)

  passes : IsNetText text → AllPass (InstancePasses text kinds) (all_instances text) → (k : ℕ) (x : List ℕ × List ℕ) → FilteredAt (plain_process text) (all_instances text) k x → process_test kinds (take k (flat_of text).processes) x ≡ Ok tt
  passes valid passed k x r = by (is_subnet text r.one) refl r.gives where
    by : (b : Bool) → is_subnet text r.one ≡ b → (let o : Option (List ℕ × List ℕ) = if b then None else Some (r.one.name, r.one.kind) in o) ≡ Some x → process_test kinds (take k (flat_of text).processes) x ≡ Ok tt
    by true is gives = absurd (cc)
    by false is gives =
        let same : (r.one.name, r.one.kind) ≡ x = cc in
        let ok = instance_ok (take r.place (all_instances text)) r.one (passed r.place r.one r.here) is in
        let before : List (List ℕ × List ℕ) = filter_map (plain_process text) (take r.place (all_instances text)) in
        let apart = differ_before (all_instances text) (instances_differ text valid 10 [] [] text.main valid.main) r.place r.one r.here in
        subst (λ (y : List ℕ × List ℕ). process_test kinds (take k (flat_of text).processes) y ≡ Ok tt) same
        (subst (λ (l : List (List ℕ × List ℕ)). process_test kinds l (r.one.name, r.one.kind) ≡ Ok tt) (sym r.before)
        (process_ok kinds (filter_map (plain_process text) (take r.place (all_instances text))) (r.one.name, r.one.kind)
        (called_none (filter_map (plain_process text) (take r.place (all_instances text))) r.one.name (names_differ (take r.place (all_instances text)) r.one.name apart)) ok.0
        (ap (nat_le PROCESS_LIMIT) (plain_count (take r.place (all_instances text))) ∙ ok.1)))

-- Where each process that a file's value stands for can be written out, the processes of its flat text may follow one another.
pub flat_passes : (kinds : List KindSpec) (text : NetText) → IsNetText text → AllPass (InstancePasses text kinds) (all_instances text) → AllPass (ProcessPasses kinds) (flat_of text).processes
flat_passes kinds text valid passed k x is = passes text kinds valid passed k x (filtered_at (plain_process text) (all_instances text) k x is)
