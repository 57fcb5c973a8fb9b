-- The way of a walk that looks for recursions.
use Rattle.std.proofs.Common.{◌≡◌, ◌≢◌, ℕ, ◌+◌, suc, Bool, true, false, List, [], ◌∷◌, ◌++◌, length, take, drop, Option, Some, None, refl, ap, sym, subst, ◌∙◌, ◌⊎◌, inl, inr, slice_get, arith}
use Rattle.std.specs.Prelude.{◌||◌}
use Rattle.std.specs.List.{AllByRecursion, flat_map, cons_option, list_any}
use Rattle.std.specs.Option.{option_map_or}
use Rattle.std.specs.Str.{bytes_eq}
use Rattle.std.proofs.lemmas.Slice.Eq.{bytes_eq-Decides}
use Rattle.std.proofs.lemmas.List.{take-append-drop}
use Rattle.std.proofs.lemmas.Grind.{flat_map-append}
use Rattle.flow_parse.specs.declared.value.NetPart.{NetPart}
use Rattle.flow_parse.specs.declared.value.NetText.{NetText}
use Rattle.flow_flat.specs.Subnets.{Instance, subnet_called, within, instances}
use Rattle.flow_expand.specs.declared.recursion.Mark.{Mark}
use Rattle.flow_expand.specs.declared.recursion.Mark.TheVariants.{Open, Done}
use Rattle.flow_expand.specs.declared.recursion.Spot.{Spot}
use Rattle.flow_expand.specs.Marks.{LeadsOn, IsNext}
use Rattle.flow_expand.specs.Places.{subnet_place}
use Rattle.flow_expand.specs.Ways.{part_at, name_at, entry}
use Rattle.flow_expand.proofs.Places.{found}
use Rattle.flow_expand.proofs.Steps.{drop_at}
use Rattle.flow_expand.proofs.Clean.{Fails, fails_left, fails_right, names, Found, Undone, AllClean, entries_pass, not_around, all_also}

module _ (text : NetText) where
  -- The subnets of a way, the innermost first.
  abbrev pub opened : List Spot → List ℕ
  opened [] = []
  opened (f ∷ fs) = cons_option f.subnet (opened fs)

  -- Each part of a way but the last, main, is a subnet that stands next in the part before it and not further out.
  abbrev pub Linked : List Mark → List Spot → Type 0
  Linked marks [] = ⊥
  Linked marks (f ∷ []) = f.subnet ≡ None
  Linked marks (f ∷ g ∷ gs) = (s : ℕ) × (f.subnet ≡ Some s) × IsNext text marks g s Open × AllByRecursion (λ a. a ≢ s) (opened (g ∷ gs)) × Linked marks (g ∷ gs)

  -- What comes before the next process of each part leads on.
  abbrev pub LeadOn : List Mark → List Spot → Type 0
  LeadOn marks fs = AllByRecursion (λ (f : Spot). AllByRecursion (LeadsOn text marks) (take f.next (part_at text f.subnet).processes)) fs

  pub next_found : (marks : List Mark) (g : Spot) (s : ℕ) (mark : Mark) → IsNext text marks g s mark → Found text s
  next_found marks g s mark is = ap (subnet_place text) (found text is.0.1 s is.2).named ∙ is.2

  -- The subnets of a way were met, and aren't done.
  linked_undone : (marks : List Mark) (fs : List Spot) → Linked marks fs → Undone text marks (opened fs)
  linked_undone marks [] linked = absurd linked
  linked_undone marks (f ∷ []) linked = subst (λ (o : Option ℕ). Undone text marks (cons_option o [])) (sym linked) tt
  linked_undone marks (f ∷ g ∷ gs) linked = subst (λ (o : Option ℕ). Undone text marks (cons_option o (opened (g ∷ gs)))) (sym linked.1)
      ((next_found marks g linked.0 Open linked.2, λ is. absurd (cc (is, linked.2.3))), linked_undone marks (g ∷ gs) linked.4)

  pub opened_count : (marks : List Mark) (fs : List Spot) → Linked marks fs → suc (length (opened fs)) ≡ length fs
  opened_count marks [] linked = absurd linked
  opened_count marks (f ∷ []) linked = ap (λ (o : Option ℕ). suc (length (cons_option o []))) linked
  opened_count marks (f ∷ g ∷ gs) linked = ap (λ (o : Option ℕ). suc (length (cons_option o (opened (g ∷ gs))))) linked.1 ∙ ap suc (opened_count marks (g ∷ gs) linked.4)

  module _ (marks : List Mark) (clean : AllClean text marks) where
    -- What comes in a part, up to the next process.
    part_fails : (n : ℕ) (prefix : List ℕ) (qs : List ℕ) (ps : List (List ℕ × List ℕ)) (i : ℕ) (x : List ℕ × List ℕ) (name : List ℕ) → Undone text marks qs → AllByRecursion (LeadsOn text marks) (take i ps) → slice_get ps i ≡ Some x
        → Fails (entry text n prefix (names text qs) x) name → Fails (flat_map (entry text n prefix (names text qs)) ps) name
    part_fails n prefix qs ps i x name undone lead here fails =
        subst (λ (l : List Instance). Fails l name) (sym split)
        (fails_right (flat_map (entry text n prefix (names text qs)) (take i ps)) (flat_map (entry text n prefix (names text qs)) (x ∷ drop (i + 1) ps)) name (entries_pass text marks clean n prefix qs undone (take i ps) lead)
        (fails_left (entry text n prefix (names text qs) x) (flat_map (entry text n prefix (names text qs)) (drop (i + 1) ps)) name fails))
      where
        split : flat_map (entry text n prefix (names text qs)) ps ≡ flat_map (entry text n prefix (names text qs)) (take i ps) ++ flat_map (entry text n prefix (names text qs)) (x ∷ drop (i + 1) ps)
        split = ap (flat_map (entry text n prefix (names text qs))) (sym (take-append-drop i ps) ∙ ap (λ (l : List (List ℕ × List ℕ)). take i ps ++ l) (drop_at ps i x here))
            ∙ flat_map-append (entry text n prefix (names text qs)) (take i ps) (x ∷ drop (i + 1) ps)

    -- What fails in the first part of a way fails in main.
    fails_up : (f : Spot) (fs : List Spot) (name : List ℕ) (m : ℕ) → Linked marks (f ∷ fs) → LeadOn marks (f ∷ fs) → ((prefix : List ℕ) → Fails (instances text (suc m) prefix (names text (opened (f ∷ fs))) (part_at text f.subnet)) name)
        → Fails (instances text (suc m + length fs) [] [] text.main) name
    fails_up f [] name m linked lead fails =
        let more : suc m ≡ suc m + 0 = omega arith in
        subst (λ (k : ℕ). Fails (instances text k [] [] text.main) name) more
        (subst (λ (o : Option ℕ). Fails (instances text (suc m) [] (names text (cons_option o [])) (part_at text o)) name) linked (fails []))
    fails_up f (g ∷ gs) name m linked lead fails =
        let more : suc (suc m) + length gs ≡ suc m + suc (length gs) = omega arith in
        subst (λ (k : ℕ). Fails (instances text k [] [] text.main) name) more (fails_up g gs name (suc m) linked.4 lead.1 outer)
      where
        outer : (prefix : List ℕ) → Fails (instances text (suc (suc m)) prefix (names text (opened (g ∷ gs))) (part_at text g.subnet)) name
        outer prefix =
            let undone = linked_undone marks (g ∷ gs) linked.4 in
            let at = found text linked.2.0.1 linked.0 linked.2.2 in
            let apart : AllByRecursion (λ a. subnet_place text linked.2.0.1 ≢ Some a) (opened (g ∷ gs)) = all_also (λ a. a ≢ linked.0) (λ a. subnet_place text linked.2.0.1 ≢ Some a) (opened (g ∷ gs)) (λ a ne is. let same : linked.0 ≡ a = cc (linked.2.2, is) in ne (sym same)) linked.3 in
            let passes : list_any (bytes_eq linked.2.0.1) (names text (opened (g ∷ gs))) ≡ false = not_around text linked.2.0.1 (opened (g ∷ gs)) (all_also (λ a. Found text a × (slice_get marks a ≢ Some Done)) (Found text) (opened (g ∷ gs)) (λ a both. both.0) undone) apart in
            part_fails (suc m) prefix (opened (g ∷ gs)) (part_at text g.subnet).processes g.next linked.2.0 name undone lead.1.0 linked.2.1
            (fails_right (record { name = prefix ++ linked.2.0.0; kind = linked.2.0.1; inside = names text (opened (g ∷ gs)) } ∷ []) (option_map_or (instances text (suc m) (within prefix linked.2.0.0) (linked.2.0.1 ∷ names text (opened (g ∷ gs)))) (subnet_called text linked.2.0.1) []) name (passes, tt)
            (subst (λ (o : Option NetPart). Fails (option_map_or (instances text (suc m) (within prefix linked.2.0.0) (linked.2.0.1 ∷ names text (opened (g ∷ gs)))) o []) name) (sym at.called)
            (subst (λ (k : List ℕ). Fails (instances text (suc m) (within prefix linked.2.0.0) (k ∷ names text (opened (g ∷ gs))) (part_at text (Some linked.0))) name) at.named
            (subst (λ (o : Option ℕ). Fails (instances text (suc m) (within prefix linked.2.0.0) (names text (cons_option o (opened (g ∷ gs)))) (part_at text o)) name) linked.1 (fails (within prefix linked.2.0.0))))))

  -- It is one of these.
  abbrev pub Member : ℕ → List ℕ → Type 0
  Member t [] = ⊥
  Member t (a ∷ qs) = (a ≡ t) ⊎ Member t qs

  bytes_alike : (b : List ℕ) → bytes_eq b b ≡ true
  bytes_alike b = by (bytes_eq b b) refl where
    by : (v : Bool) → bytes_eq b b ≡ v → v ≡ true
    by true is = refl
    by false is = absurd (grind (arith, bytes_eq-Decides, is))

  member_around : (t : ℕ) (qs : List ℕ) → Member t qs → list_any (bytes_eq (name_at text (Some t))) (names text qs) ≡ true
  member_around t [] there = absurd there
  member_around t (a ∷ qs) (inl same) = subst (λ (k : ℕ). list_any (bytes_eq (name_at text (Some t))) (name_at text (Some k) ∷ names text qs) ≡ true) (sym same)
      (ap (λ (b : Bool). b || list_any (bytes_eq (name_at text (Some t))) (names text qs)) (bytes_alike (name_at text (Some t))))
  member_around t (a ∷ qs) (inr there) = by (bytes_eq (name_at text (Some t)) (name_at text (Some a))) (member_around t qs there) where
    by : (b : Bool) → list_any (bytes_eq (name_at text (Some t))) (names text qs) ≡ true → (b || list_any (bytes_eq (name_at text (Some t))) (names text qs)) ≡ true
    by true more = refl
    by false more = more

  -- A subnet around the first part of a way stands next in it.
  pub again_fails : (marks : List Mark) (f : Spot) (fs : List Spot) (s m : ℕ) → AllClean text marks → Linked marks (f ∷ fs) → LeadOn marks (f ∷ fs) → IsNext text marks f s Open → Member s (opened (f ∷ fs)) → Fails (instances text (suc m + length fs) [] [] text.main) (name_at text (Some s))
  again_fails marks f fs s m clean linked lead next there = fails_up marks clean f fs (name_at text (Some s)) m linked lead
      (λ prefix. part_fails marks clean m prefix (opened (f ∷ fs)) (part_at text f.subnet).processes f.next next.0 (name_at text (Some s)) (linked_undone marks (f ∷ fs) linked) lead.0 next.1 (record {
        before = [];
        one = record { name = prefix ++ next.0.0; kind = next.0.1; inside = names text (opened (f ∷ fs)) };
        after = option_map_or (instances text m (within prefix next.0.0) (next.0.1 ∷ names text (opened (f ∷ fs)))) (subnet_called text next.0.1) [];
        is = refl;
        pass = tt;
        again = subst (λ (k : List ℕ). list_any (bytes_eq k) (names text (opened (f ∷ fs))) ≡ true) (found text next.0.1 s next.2).named (member_around s (opened (f ∷ fs)) there);
        named = sym (found text next.0.1 s next.2).named;
      }))
