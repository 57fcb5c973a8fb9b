-- Whether a subnet stands in itself, by a walk that goes into each subnet once.
use Rattle.std.proofs.Common.{◌≡◌, ◌≢◌, ℕ, zero, suc, Bool, true, false, List, [], ◌∷◌, ◌++◌, map, Option, Some, refl, ap, sym, subst, ◌∙◌, inl, inr, slice_get, append_assoc}
use Rattle.std.specs.Prelude.{◌||◌}
use Rattle.std.specs.List.{AllByRecursion, flat_map, list_any}
use Rattle.std.specs.Option.{option_map_or}
use Rattle.std.specs.Str.{bytes_eq}
use Rattle.flow_parse.specs.declared.value.NetPart.{NetPart}
use Rattle.flow_parse.specs.declared.value.NetText.{NetText}
use Rattle.flow_flat.specs.Subnets.{Instance, within, instances}
use Rattle.flow_expand.specs.declared.recursion.Mark.{Mark}
use Rattle.flow_expand.specs.declared.recursion.Mark.TheVariants.{Open, Done}
use Rattle.flow_expand.specs.Marks.{LeadsOn}
use Rattle.flow_expand.specs.Places.{subnet_place}
use Rattle.flow_expand.specs.Ways.{part_at, name_at, entry}
use Rattle.flow_expand.proofs.Places.{bytes_same, found, called_none}

pub all_append : {X : Type 0} (P : X → Type 0) (xs ys : List X) → AllByRecursion P xs → AllByRecursion P ys → AllByRecursion P (xs ++ ys)
all_append P [] ys p q = q
all_append P (x ∷ xs) ys p q = (p.0, all_append P xs ys p.1 q)

-- What holds of all members, with what follows from it for each, holds so too.
pub all_also : {X : Type 0} (P Q : X → Type 0) (xs : List X) → ((x : X) → P x → Q x) → AllByRecursion P xs → AllByRecursion Q xs
all_also P Q [] also p = tt
all_also P Q (x ∷ xs) also p = (also x p.0, all_also P Q xs also p.1)

abbrev pub around : Instance → Bool
around x = list_any (bytes_eq x.kind) x.inside

-- It doesn't stand in a subnet of its kind.
abbrev pub Passes : Instance → Type 0
Passes x = around x ≡ false

-- The first that does.
pub record Fails (xs : List Instance) (name : List ℕ) : Type 0 where
  pub before : List Instance
  pub one : Instance
  pub after : List Instance
  pub is : xs ≡ before ++ (one ∷ after)
  pub pass : AllByRecursion Passes before
  pub again : list_any (bytes_eq one.kind) one.inside ≡ true
  pub named : one.kind ≡ name

-- A subnet that fails among the first fails among all.
pub fails_left : (xs ys : List Instance) (name : List ℕ) → Fails xs name → Fails (xs ++ ys) name
fails_left xs ys name f = record {
  before = f.before;
  one = f.one;
  after = f.after ++ ys;
  is = ap (λ (l : List Instance). l ++ ys) f.is ∙ append_assoc f.before (f.one ∷ f.after) ys;
  pass = f.pass;
  again = f.again;
  named = f.named;
}

-- A subnet that fails behind some that pass is the first that fails among all.
pub fails_right : (xs ys : List Instance) (name : List ℕ) → AllByRecursion Passes xs → Fails ys name → Fails (xs ++ ys) name
fails_right xs ys name all f = record {
  before = xs ++ f.before;
  one = f.one;
  after = f.after;
  is = ap (λ (l : List Instance). xs ++ l) f.is ∙ sym (append_assoc xs f.before (f.one ∷ f.after));
  pass = all_append Passes xs f.before all f.pass;
  again = f.again;
  named = f.named;
}

module _ (text : NetText) where
  abbrev pub names : List ℕ → List (List ℕ)
  names qs = map (λ a. name_at text (Some a)) qs

  abbrev pub Found : ℕ → Type 0
  Found a = subnet_place text (name_at text (Some a)) ≡ Some a

  -- Subnets that the walk isn't done with.
  abbrev pub Undone : List Mark → List ℕ → Type 0
  Undone marks qs = AllByRecursion (λ a. Found a × (slice_get marks a ≢ Some Done)) qs

  pub not_around : (kind : List ℕ) (qs : List ℕ) → AllByRecursion Found qs → AllByRecursion (λ a. subnet_place text kind ≢ Some a) qs → list_any (bytes_eq kind) (names qs) ≡ false
  not_around kind [] there apart = refl
  not_around kind (a ∷ qs) there apart = by (bytes_eq kind (name_at text (Some a))) refl (not_around kind qs there.1 apart.1) where
    by : (b : Bool) → bytes_eq kind (name_at text (Some a)) ≡ b → list_any (bytes_eq kind) (names qs) ≡ false → list_any (bytes_eq kind) (names (a ∷ qs)) ≡ false
    by true is more = absurd (apart.0 (ap (subnet_place text) (bytes_same kind (name_at text (Some a)) is) ∙ there.0))
    by false is more = ap (λ (b : Bool). b || list_any (bytes_eq kind) (names qs)) is ∙ more

  -- Inside a subnet that is done nothing leads back, wherever it stands.
  abbrev pub Clean : List Mark → ℕ → Type 0
  Clean marks t = (n : ℕ) (prefix : List ℕ) (qs : List ℕ) → Undone marks qs → AllByRecursion Passes (instances text n prefix (names (t ∷ qs)) (part_at text (Some t)))

  abbrev pub AllClean : List Mark → Type 0
  AllClean marks = (t : ℕ) → slice_get marks t ≡ Some Done → Clean marks t

  module _ (marks : List Mark) (clean : AllClean marks) (n : ℕ) (prefix : List ℕ) (qs : List ℕ) (undone : Undone marks qs) where
    entry_passes : (x : List ℕ × List ℕ) → LeadsOn text marks x → AllByRecursion Passes (entry text n prefix (names qs) x)
    entry_passes x (inl none) = (
      not_around x.1 qs (all_also (λ a. Found a × (slice_get marks a ≢ Some Done)) Found qs (λ a f. f.0) undone) (all_also (λ a. Found a × (slice_get marks a ≢ Some Done)) (λ a. subnet_place text x.1 ≢ Some a) qs (λ a f is. absurd (cc (none, is))) undone),
      subst (λ (o : Option NetPart). AllByRecursion Passes (option_map_or (instances text n (within prefix x.0) (x.1 ∷ names qs)) o [])) (sym (called_none text x.1 none)) tt,
    )
    entry_passes x (inr there) =
        let at = found text x.1 there.0 there.1 in
        let apart : AllByRecursion (λ a. subnet_place text x.1 ≢ Some a) qs = all_also (λ a. Found a × (slice_get marks a ≢ Some Done)) (λ a. subnet_place text x.1 ≢ Some a) qs (λ a f is. let same : there.0 ≡ a = cc (there.1, is) in f.1 (ap (slice_get marks) (sym same) ∙ there.2)) undone in (
          not_around x.1 qs (all_also (λ a. Found a × (slice_get marks a ≢ Some Done)) Found qs (λ a f. f.0) undone) apart,
          subst (λ (o : Option NetPart). AllByRecursion Passes (option_map_or (instances text n (within prefix x.0) (x.1 ∷ names qs)) o [])) (sym at.called)
              (subst (λ (k : List ℕ). AllByRecursion Passes (instances text n (within prefix x.0) (k ∷ names qs) (part_at text (Some there.0)))) at.named (clean there.0 there.2 n (within prefix x.0) qs undone)),
        )

    pub entries_pass : (ps : List (List ℕ × List ℕ)) → AllByRecursion (LeadsOn text marks) ps → AllByRecursion Passes (flat_map (entry text n prefix (names qs)) ps)
    entries_pass [] all = tt
    entries_pass (x ∷ ps) all = all_append Passes (entry text n prefix (names qs) x) (flat_map (entry text n prefix (names qs)) ps) (entry_passes x all.0) (entries_pass ps all.1)

  -- Where each process of a part leads on, nothing in it leads back.
  pub part_passes : (marks : List Mark) → AllClean marks → (n : ℕ) (prefix qs : List ℕ) → Undone marks qs → (part : NetPart) → AllByRecursion (LeadsOn text marks) part.processes → AllByRecursion Passes (instances text n prefix (names qs) part)
  part_passes marks clean zero prefix qs undone part all = tt
  part_passes marks clean (suc n) prefix qs undone part all = entries_pass marks clean n prefix qs undone part.processes all

  -- Marks that have at least these done.
  abbrev pub Keeps : List Mark → List Mark → Type 0
  Keeps old new = (t : ℕ) → slice_get old t ≡ Some Done → slice_get new t ≡ Some Done

  pub undone_back : (old new : List Mark) → Keeps old new → (qs : List ℕ) → Undone new qs → Undone old qs
  undone_back old new keeps qs undone = all_also (λ a. Found a × (slice_get new a ≢ Some Done)) (λ a. Found a × (slice_get old a ≢ Some Done)) qs (λ a f. (f.0, λ is. f.1 (keeps a is))) undone

  pub clean_stays : (old new : List Mark) → Keeps old new → (t : ℕ) → Clean old t → Clean new t
  clean_stays old new keeps t clean n prefix qs undone = clean n prefix qs (undone_back old new keeps qs undone)

  pub leads_stays : (old new : List Mark) → Keeps old new → (x : List ℕ × List ℕ) → LeadsOn text old x → LeadsOn text new x
  leads_stays old new keeps x (inl none) = inl none
  leads_stays old new keeps x (inr there) = inr (there.0, there.1, keeps there.0 there.2)

  -- A subnet of which each process leads on is clean when it is done.
  pub now_clean : (old new : List Mark) (s : ℕ) → AllClean old → Keeps old new → Found s → slice_get old s ≡ Some Open → AllByRecursion (LeadsOn text old) (part_at text (Some s)).processes → Clean new s
  now_clean old new s clean keeps there opens all n prefix qs undone =
      part_passes old clean n prefix (s ∷ qs) ((there, λ is. absurd (cc (is, opens))), undone_back old new keeps qs undone) (part_at text (Some s)) all
