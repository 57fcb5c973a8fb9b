-- The elements of a draft's ports are those that the statements of its text name.
use Rattle.std.proofs.Common.{◌≡◌, ◌≢◌, ℕ, ◌+◌, ◌<◌, ◌≤◌, Bool, true, false, List, [], ◌∷◌, ◌++◌, map, zero, suc, Some, IsSome, refl, ap, sym, subst, ◌∙◌, ◌⊎◌, inl, inr, slice_get, arith}
use Rattle.std.specs.Prelude.{◌==◌, ◌||◌, max, if◌then◌else◌}
use Rattle.std.specs.List.{list_any}
use Rattle.std.specs.Option.{option_and_then}
use Rattle.std.proofs.lemmas.Bool.{false≢true}
use Rattle.std.proofs.lemmas.Bool.Decides.{nat_tests}
use Rattle.std.proofs.lemmas.List.Folds.{list_any-append}
use Rattle.flow_net.specs.declared.draft.End.{End}
use Rattle.flow_net.specs.declared.draft.Binding.{Binding}
use Rattle.flow_net.specs.declared.draft.Binding.TheVariants.{Free, Receives, Sends, Given}
use Rattle.flow_net.specs.declared.draft.DraftPort.{DraftPort}
use Rattle.flow_plan.specs.declared.kind.KindSpec.{KindSpec}
use Rattle.flow_net.specs.Drafts.{Draft, binding_at, is_free}
use Rattle.flow_net.specs.Finishes.{size_of as bound_size, elements_in}
use Rattle.flow_net.proofs.Ends.{eqb_true}
use Rattle.flow_net.proofs.Places.{same_or_not}
use Rattle.flow_net.proofs.Sides.{eqb_refl}
use Rattle.flow_flat.specs.Names.{PortAt, Join}
use Rattle.flow_flat.specs.Plans.{Sized, same_element, ends_of, size_of, sized_from}
use Rattle.flow_flat.specs.Faults.{sends, receives, has_text, is_named}
use Rattle.flow_flat.proofs.Links.{same_element_is, same_element_refl}
use Rattle.flow_flat.proofs.Lookups.{bare}
use Rattle.flow_flat.proofs.Agrees.{Agrees, any_at}
use Rattle.flow_flat.proofs.Joining.{sender_is, into_is, given_is, sends_bound, receives_bound, text_bound}

-- What is bound at the last place counts.
bound_below : (xs : List Binding) (e : ℕ) (b : Binding) → slice_get xs e ≡ Some b → is_free b ≡ false → e < bound_size xs
bound_below [] e b here taken = absurd (cc)
bound_below (x ∷ xs) zero b here taken = by (bound_size xs) (is_free x) (ap is_free (let same_binding : x ≡ b = cc in same_binding) ∙ taken)
  where
    by : (n : ℕ) (free : Bool) → free ≡ false → 0 < (if n == 0 then (if free then 0 else 1) else n + 1)
    by n true not_free = absurd (false≢true (sym not_free))
    by n false not_free = grind (arith, nat_tests)
bound_below (x ∷ xs) (suc e) b here taken = by (bound_size xs) (bound_below xs e b here taken)
  where
    by : (n : ℕ) → e < n → suc e < (if n == 0 then (if is_free x then 0 else 1) else n + 1)
    by n below = grind (arith, nat_tests, below)

bound_last : (xs : List Binding) (n : ℕ) → bound_size xs ≡ suc n → (b : Binding) × (slice_get xs n ≡ Some b) × (is_free b ≡ false)
bound_last [] n is = absurd (omega arith)
bound_last (x ∷ xs) n is = by (bound_size xs) refl (is_free x) refl is (λ m there. bound_last xs m there)
  where
    by : (m : ℕ) → bound_size xs ≡ m → (free : Bool) → is_free x ≡ free → (if m == 0 then (if free then 0 else 1) else m + 1) ≡ suc n
        → ((k : ℕ) → bound_size xs ≡ suc k → (b : Binding) × (slice_get xs k ≡ Some b) × (is_free b ≡ false)) → (b : Binding) × (slice_get (x ∷ xs) n ≡ Some b) × (is_free b ≡ false)
    by zero size true free is more = absurd (omega arith)
    by zero size false free is more =
        let none : 0 ≡ n = omega arith in
        (x, ap (slice_get (x ∷ xs)) (sym none), free)
    by (suc m) size free f is more =
        let next : suc m ≡ n = grind (arith, nat_tests, is) in
        let found = more m size in
        (found.0, ap (slice_get (x ∷ xs)) (sym next) ∙ found.1, found.2)

-- What is named of a port lies below its size, and the last below it is named.
named_below : (ends : List End) (g e : ℕ) → is_named ends (record { port = g; element = e }) ≡ true → e < size_of ends g
named_below [] g e is = absurd (false≢true is)
named_below (x ∷ xs) g e is = by (same_element x (record { port = g; element = e })) refl is (λ rest. named_below xs g e rest)
  where
    grows : (b : Bool) (n m : ℕ) → e < m → e < (if b then max n m else m)
    grows true n m below = omega arith
    grows false n m below = below

    by : (s : Bool) → same_element x (record { port = g; element = e }) ≡ s → (s || is_named xs (record { port = g; element = e })) ≡ true → (is_named xs (record { port = g; element = e }) ≡ true → e < size_of xs g) → e < size_of (x ∷ xs) g
    by true same is more =
        let is_x : x ≡ record { port = g; element = e } = same_element_is x (record { port = g; element = e }) same in
        let port : (x.port == g) ≡ true = ap (λ (y : End). y.port == g) is_x ∙ eqb_refl g in
        let element : x.element ≡ e = ap (λ (y : End). y.element) is_x in
        let here : e < max (x.element + 1) (size_of xs g) = omega arith in
        subst (λ (b : Bool). e < (if b then max (x.element + 1) (size_of xs g) else size_of xs g)) (sym port) here
    by false same is more = grows (x.port == g) (x.element + 1) (size_of xs g) (more is)

named_last : (ends : List End) (g n : ℕ) → size_of ends g ≡ suc n → is_named ends (record { port = g; element = n }) ≡ true
named_last [] g n is = absurd (omega arith)
named_last (x ∷ xs) g n is = by (x.port == g) refl is (λ there. named_last xs g n there)
  where
    later : is_named xs (record { port = g; element = n }) ≡ true → is_named (x ∷ xs) (record { port = g; element = n }) ≡ true
    later there = or_true (same_element x (record { port = g; element = n })) there where
      or_true : (s : Bool) → is_named xs (record { port = g; element = n }) ≡ true → (s || is_named xs (record { port = g; element = n })) ≡ true
      or_true true is = refl
      or_true false is = is

    first : x.port ≡ g → x.element ≡ n → is_named (x ∷ xs) (record { port = g; element = n }) ≡ true
    first p q =
        let is_x : x ≡ record { port = g; element = n } = ap (λ (m : ℕ). let e : End = record { port = m; element = x.element } in e) p ∙ ap (λ (m : ℕ). let e : End = record { port = g; element = m } in e) q in
        ap (λ (y : End). same_element x y || is_named xs y) (sym is_x) ∙ ap (λ (b : Bool). b || is_named xs x) (same_element_refl x)

    by : (b : Bool) → (x.port == g) ≡ b → (if b then max (x.element + 1) (size_of xs g) else size_of xs g) ≡ suc n → (size_of xs g ≡ suc n → is_named xs (record { port = g; element = n }) ≡ true) → is_named (x ∷ xs) (record { port = g; element = n }) ≡ true
    by false port is more = later (more is)
    by true port is more = which (same_or_not x.element n) where
      which : (x.element ≡ n) ⊎ (x.element ≢ n) → is_named (x ∷ xs) (record { port = g; element = n }) ≡ true
      which (inl same) = first (eqb_true x.port g port) same
      which (inr other) =
          let rest : size_of xs g ≡ suc n = omega arith in
          later (more rest)

any_map : {X Y : Type 0} (p : Y → Bool) (f : X → Y) (xs : List X) → list_any p (map f xs) ≡ list_any (λ x. p (f x)) xs
any_map p f [] = refl
any_map p f (x ∷ xs) = ap (λ b. p (f x) || b) (any_map p f xs)

-- An element is named as an output, as an input, or for a text.
pub named_split : (joins : List Join) (given : List (End × List ℕ)) (end : End) → is_named (ends_of joins given) end ≡ (sends joins end || (receives joins end || has_text given end))
named_split joins given end =
    list_any-append test (map (λ (j : Join). j.out) joins ++ map (λ (j : Join). j.into) joins) (map (λ (t : End × List ℕ). t.0) given)
    ∙ ap (λ (b : Bool). b || list_any test (map (λ (t : End × List ℕ). t.0) given)) (list_any-append test (map (λ (j : Join). j.out) joins) (map (λ (j : Join). j.into) joins)
    ∙ ap (λ (b : Bool). b || list_any test (map (λ (j : Join). j.into) joins)) (any_map test (λ (j : Join). j.out) joins)
    ∙ ap (λ (b : Bool). sends joins end || b) (any_map test (λ (j : Join). j.into) joins))
    ∙ ap (λ (b : Bool). (sends joins end || receives joins end) || b) (any_map test (λ (t : End × List ℕ). t.0) given)
    ∙ assoc (sends joins end)
  where
    test : End → Bool
    test = λ (e : End). same_element e end

    assoc : (a : Bool) → ((a || receives joins end) || has_text given end) ≡ (a || (receives joins end || has_text given end))
    assoc true = refl
    assoc false = refl

or_left : (a b c : Bool) → a ≡ true → (a || (b || c)) ≡ true
or_left true b c is = refl
or_left false b c is = absurd (false≢true is)

or_middle : (a b c : Bool) → b ≡ true → (a || (b || c)) ≡ true
or_middle true b c is = refl
or_middle false true c is = refl
or_middle false false c is = absurd (false≢true is)

or_right : (a b c : Bool) → c ≡ true → (a || (b || c)) ≡ true
or_right true b c is = refl
or_right false true c is = refl
or_right false false c is = is

or_cases : (a b c : Bool) → (a || (b || c)) ≡ true → (a ≡ true) ⊎ ((b ≡ true) ⊎ (c ≡ true))
or_cases true b c is = inl refl
or_cases false true c is = inr (inl refl)
or_cases false false c is = inr (inr is)

module _ (table : List KindSpec) (ps : List (List ℕ × List ℕ)) (at : List PortAt) (joins : List Join) (given : List (End × List ℕ)) (draft : Draft) (agrees : Agrees table ps at joins given draft) where
  -- The element is named by the text exactly where something is bound to it.
  pub named_if_bound : (end : End) (b : Binding) → binding_at draft.ports end ≡ Some b → is_free b ≡ false → is_named (ends_of joins given) end ≡ true
  named_if_bound end Free is taken = absurd (false≢true (sym taken))
  named_if_bound end (Sends c k) is taken = named_split joins given end ∙ or_left (sends joins end) (receives joins end) (has_text given end) (sender_is table ps at joins given draft agrees c k end (agrees.sound.listed.sends end c k is))
  named_if_bound end (Receives c) is taken = named_split joins given end ∙ or_middle (sends joins end) (receives joins end) (has_text given end) (into_is table ps at joins given draft agrees c end (agrees.sound.listed.receives end c is))
  named_if_bound end (Given k) is taken = named_split joins given end ∙ or_right (sends joins end) (receives joins end) (has_text given end) (given_is table ps at joins given draft agrees end k is)

  pub bound_if_named : (end : End) → is_named (ends_of joins given) end ≡ true → (b : Binding) × (binding_at draft.ports end ≡ Some b) × (is_free b ≡ false)
  bound_if_named end is = by (or_cases (sends joins end) (receives joins end) (has_text given end) (sym (named_split joins given end) ∙ is)) where
    there : has_text given end ≡ true → IsSome (binding_at draft.ports end)
    there texted =
        let found = any_at (λ (t : End × List ℕ). same_element t.0 end) given texted in
        subst (λ (e : End). IsSome (binding_at draft.ports e)) (same_element_is found.1.0 end found.3) (agrees.there found.0 found.1 found.2)

    by : (sends joins end ≡ true) ⊎ ((receives joins end ≡ true) ⊎ (has_text given end ≡ true)) → (b : Binding) × (binding_at draft.ports end ≡ Some b) × (is_free b ≡ false)
    by (inl sent) = let found = sends_bound table ps at joins given draft agrees end sent in (Sends found.0 found.1, found.2, refl)
    by (inr (inl received)) = let found = receives_bound table ps at joins given draft agrees end received in (Receives found.0, found.1, refl)
    by (inr (inr texted)) = let found = text_bound table ps at joins given draft agrees end (there texted) texted in (Given found.0, found.1, refl)

  -- The binding of an element of a port that is there.
  pub binding_is : (g e : ℕ) (port : DraftPort) → slice_get draft.ports g ≡ Some port → binding_at draft.ports (record { port = g; element = e }) ≡ slice_get port.elements e
  binding_is g e port here = ap (option_and_then (λ (p : DraftPort). slice_get p.elements e)) here

  -- The number of elements of a port is the same by what is bound and by what is named.
  pub size_is : (g : ℕ) (port : DraftPort) → slice_get draft.ports g ≡ Some port → bound_size port.elements ≡ size_of (ends_of joins given) g
  size_is g port here = by (bound_size port.elements) refl (size_of (ends_of joins given) g) refl where
    ends : List End
    ends = ends_of joins given

    named : (n : ℕ) → bound_size port.elements ≡ suc n → suc n ≤ size_of (ends_of joins given) g
    named n is =
        let found = bound_last port.elements n is in
        let below : n < size_of (ends_of joins given) g = named_below (ends_of joins given) g n (named_if_bound (record { port = g; element = n }) found.0 (binding_is g n port here ∙ found.1) found.2) in
        omega arith

    bound : (n : ℕ) → size_of (ends_of joins given) g ≡ suc n → suc n ≤ bound_size port.elements
    bound n is =
        let found = bound_if_named (record { port = g; element = n }) (named_last (ends_of joins given) g n is) in
        let below : n < bound_size port.elements = bound_below port.elements n found.0 (sym (binding_is g n port here) ∙ found.1) found.2 in
        omega arith

    by : (a : ℕ) → bound_size port.elements ≡ a → (b : ℕ) → size_of (ends_of joins given) g ≡ b → a ≡ b
    by zero p zero q = refl
    by zero p (suc b) q = let more : suc b ≤ bound_size port.elements = bound b q in absurd (omega (arith, more, p))
    by (suc a) p zero q = let more : suc a ≤ size_of (ends_of joins given) g = named a p in absurd (omega (arith, more, q))
    by (suc a) p (suc b) q =
        let one : suc a ≤ size_of (ends_of joins given) g = named a p in
        let two : suc b ≤ bound_size port.elements = bound b q in
        omega (arith, one, two, p, q)

-- A port as the text has it, with the number of its elements.
abbrev pub view : DraftPort → Sized
view port = record { port = bare port; elements = elements_in port }

sized_is : (ends : List End) (g : ℕ) (ports : List DraftPort) → ((k : ℕ) (port : DraftPort) → slice_get ports k ≡ Some port → bound_size port.elements ≡ size_of ends (g + k)) → sized_from ends g (map bare ports) ≡ map view ports
sized_is ends g [] each = refl
sized_is ends g (port ∷ ports) each =
    let here : g + 0 ≡ g = omega arith in
    ap (λ (n : ℕ). let s : Sized = record { port = bare port; elements = if port.spec.array then n else 1 } in s ∷ sized_from ends (g + 1) (map bare ports)) (ap (size_of ends) (sym here) ∙ sym (each 0 port refl))
    ∙ ap (λ (l : List Sized). view port ∷ l) (sized_is ends (g + 1) ports (λ k p is. each (suc k) p is ∙ ap (size_of ends) (shift k)))
  where
    shift : (k : ℕ) → g + suc k ≡ (g + 1) + k
    shift k = omega arith

-- The sized ports of a text are the ports of a draft that agrees with it.
pub sized_ports_are : (table : List KindSpec) (ps : List (List ℕ × List ℕ)) (at : List PortAt) (joins : List Join) (given : List (End × List ℕ)) (draft : Draft) → Agrees table ps at joins given draft
    → sized_from (ends_of joins given) 0 at ≡ map view draft.ports
sized_ports_are table ps at joins given draft agrees =
    ap (sized_from (ends_of joins given) 0) (sym agrees.ports)
    ∙ sized_is (ends_of joins given) 0 draft.ports (λ k port is. size_is table ps at joins given draft agrees k port is ∙ ap (size_of (ends_of joins given)) (zero_add k))
  where
    zero_add : (k : ℕ) → k ≡ 0 + k
    zero_add k = omega arith
