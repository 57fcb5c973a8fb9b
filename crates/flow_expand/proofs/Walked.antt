-- The processes that were put so far, and those that are still to come.
use Rattle.std.proofs.Common.{◌≡◌, ℕ, ◌+◌, ◌*◌, ◌<◌, ◌≤◌, suc, Bool, true, false, cond, List, [], ◌∷◌, ◌++◌, map, length, reverse, Option, Some, None, Ok, Err, Result, refl, ap, sym, subst, ◌∙◌, slice_get, get_or, arith, append_assoc, length-append}
use Rattle.std.specs.Prelude.{nat_le, not, is_some, count_by, if◌then◌else◌}
use Rattle.std.specs.Str.{bytes_eq}
use Rattle.std.proofs.lemmas.Bool.{leb-false}
use Rattle.std.proofs.lemmas.List.{reverse-append, append-nil, length-reverse, map-append}
use Rattle.std.proofs.lemmas.List.Sums.{sum_by_push}
use Rattle.std.proofs.lemmas.Option.{slice_get_read}
use Rattle.flow_net.specs.declared.fault.PlanFault.TheVariants.{UnknownKind, TooMany}
use Rattle.flow_net.specs.declared.fault.Many.TheVariants as many
use Rattle.flow_plan.specs.declared.kind.KindSpec.{KindSpec}
use Rattle.flow_parse.specs.declared.value.NetPart.{NetPart}
use Rattle.flow_parse.specs.declared.value.NetText.{NetText}
use Rattle.flow_flat.specs.declared.fault.ExpandFault.{ExpandFault}
use Rattle.flow_flat.specs.declared.fault.ExpandFault.TheVariants as faults
use Rattle.flow_flat.specs.Firsts.{AllPass, FirstFails}
use Rattle.flow_flat.specs.Subnets.{Instance, subnet_called}
use Rattle.flow_flat.specs.Texts.{InstancePasses, all_instances, is_subnet, fails_if, plain_test, subnet_test, instance_test}
use Rattle.flow_expand.specs.declared.stop.ExpandStop.{ExpandStop}
use Rattle.flow_expand.specs.declared.stop.ExpandStop.TheVariants.{Fault, NoMemory}
use Rattle.flow_expand.specs.declared.instances.Counts.{Counts}
use Rattle.flow_expand.specs.declared.way.Frame.{Frame}
use Rattle.flow_expand.specs.Outcomes.{IfFault}
use Rattle.flow_expand.specs.Places.{subnet_place}
use Rattle.flow_expand.specs.Ways.{part_at, rest}
use Rattle.flow_expand.specs.Walks.{plain_tested, subnet_tested, PutsPlain, PutsSubnet, PutsAt, PutsIf, PutsNext, next_frame, child_frame, outline}
use Rattle.flow_expand.proofs.Firsts.{all_none, all_push, first_here}
use Rattle.flow_expand.proofs.Places.{any_find, called_none, found}
use Rattle.flow_expand.proofs.Steps.{inside_count, rest_end, rest_next, rest_plain, rest_subnet, instance_of}

-- Reversed, what was last comes first.
pub reverse_push : {X : Type 0} (xs : List X) (x : X) → reverse (xs ++ x ∷ []) ≡ x ∷ reverse xs
reverse_push xs x = reverse-append xs (x ∷ [])

-- What is looked at of a process, by the numbers of those before it.
abbrev tested : List KindSpec → ℕ → ℕ → List ℕ → List ℕ → Bool → Option NetPart → Result (Unit {0}) ExpandFault
tested kinds subnets plain name kind true o = Err (faults.Depth name)
tested kinds subnets plain name kind false None = plain_tested kinds plain name kind
tested kinds subnets plain name kind false (Some part) = subnet_tested subnets name part

count_push : {X : Type 0} (p : X → Bool) (xs : List X) (x : X) (b : Bool) → p x ≡ b → count_by p (xs ++ x ∷ []) ≡ count_by p xs + cond b 1 0
count_push p xs x b is = sum_by_push (λ y. cond (p y) 1 0) xs x ∙ ap (λ (c : Bool). count_by p xs + cond c 1 0) is

add_none : (n : ℕ) → n ≡ n + 0
add_none n = omega arith

more : (n k old new m : ℕ) → m ≡ n + k → old ≡ n → new ≡ old + k → new ≡ m
more n k old new m is was goes = omega arith

module _ (text : NetText) (kinds : List KindSpec) where
  abbrev pub is_plain : Instance → Bool
  is_plain y = not (is_subnet text y)

  test_is : (before : List Instance) (x : Instance) → instance_test text kinds before x ≡ tested kinds (count_by (is_subnet text) before) (count_by is_plain before) x.name x.kind (nat_le 9 (length x.inside)) (subnet_called text x.kind)
  test_is before x = by (nat_le 9 (length x.inside)) (subnet_called text x.kind) where
    by : (b : Bool) (o : Option NetPart) → (if b then Err (faults.Depth x.name) else elim o [ None ↦ plain_test text kinds before x | Some part ↦ subnet_test text before x part ])
        ≡ tested kinds (count_by (is_subnet text) before) (count_by is_plain before) x.name x.kind b o
    by true o = refl
    by false None = ap (λ (b : Bool). let r : Result (Unit {0}) ExpandFault = if b then fails_if (nat_le 128 (count_by is_plain before)) (faults.Plan (TooMany many.Processes)) else Err (faults.Plan (UnknownKind x.name x.kind)) in r)
        (sym (any_find (λ (k : KindSpec). bytes_eq k.name x.kind) kinds))
    by false (Some part) = refl

  -- What was put, and that the rest follows.
  pub record Walked (counts : Counts) (list : List (List ℕ × List ℕ)) (frames : List Frame) : Type 0 where
    pub done : List Instance
    pub all : all_instances text ≡ done ++ rest text frames
    pub listed : list ≡ map outline done
    pub passed : AllPass (InstancePasses text kinds) done
    pub subnets : counts.subnets ≡ count_by (is_subnet text) done
    pub plain : counts.plain ≡ count_by is_plain done

  pub starts : (prefix : List ℕ) → prefix ≡ [] → Walked (record { subnets = 0; plain = 0 }) [] (record { subnet = None; prefix = prefix; next = 0 } ∷ [])
  starts prefix none = record {
    done = [];
    all = sym (append-nil (all_instances text)) ∙ ap (λ (p : List ℕ). rest text (record { subnet = None; prefix = p; next = 0 } ∷ [])) (sym none);
    listed = refl;
    passed = all_none (InstancePasses text kinds);
    subnets = refl;
    plain = refl;
  }

  pub ends : (counts : Counts) (list : List (List ℕ × List ℕ)) (f : Frame) (fs : List Frame) → length (part_at text f.subnet).processes ≤ f.next → Walked counts list (f ∷ fs) → Walked counts list fs
  ends counts list f fs over w = record { done = w.done; all = w.all ∙ ap (λ (l : List Instance). w.done ++ l) (rest_end text f fs over); listed = w.listed; passed = w.passed; subnets = w.subnets; plain = w.plain }

  pub finished : (counts : Counts) (list : List (List ℕ × List ℕ)) → Walked counts list [] → AllPass (InstancePasses text kinds) (all_instances text) × (list ≡ map outline (all_instances text))
  finished counts list w =
      let same : all_instances text ≡ w.done = w.all ∙ append-nil w.done in
      (subst (λ (l : List Instance). AllPass (InstancePasses text kinds) l) (sym same) w.passed, w.listed ∙ ap (map outline) (sym same))

  module _ (f : Frame) (fs : List Frame) (x : List ℕ × List ℕ) (old new : Counts) (list list2 : List (List ℕ × List ℕ)) (w : Walked old list (f ∷ fs)) (here : slice_get (part_at text f.subnet).processes f.next ≡ Some x) where
    test_of : (b : Bool) (o : Option NetPart) → nat_le 9 (length fs) ≡ b → subnet_called text x.1 ≡ o → instance_test text kinds w.done (instance_of text f fs x) ≡ tested kinds old.subnets old.plain (f.prefix ++ x.0) x.1 b o
    test_of b o deep called = test_is w.done (instance_of text f fs x)
        ∙ ap (λ (n : ℕ). tested kinds (count_by (is_subnet text) w.done) (count_by is_plain w.done) (f.prefix ++ x.0) x.1 (nat_le 9 n) (subnet_called text x.1)) (inside_count text f fs)
        ∙ ap (λ (b : Bool). tested kinds (count_by (is_subnet text) w.done) (count_by is_plain w.done) (f.prefix ++ x.0) x.1 b (subnet_called text x.1)) deep
        ∙ ap (tested kinds (count_by (is_subnet text) w.done) (count_by is_plain w.done) (f.prefix ++ x.0) x.1 b) called
        ∙ ap (λ (n : ℕ). tested kinds n (count_by is_plain w.done) (f.prefix ++ x.0) x.1 b o) (sym w.subnets)
        ∙ ap (λ (n : ℕ). tested kinds old.subnets n (f.prefix ++ x.0) x.1 b o) (sym w.plain)

    push_plain : subnet_place text x.1 ≡ None → nat_le 9 (length fs) ≡ false → PutsPlain kinds (f.prefix ++ x.0) x.1 old new list list2 (Ok tt) → Walked new list2 (next_frame f ∷ fs)
    push_plain none few puts =
        let called : subnet_called text x.1 ≡ None = called_none text x.1 none in
        record {
          done = w.done ++ instance_of text f fs x ∷ [];
          all = w.all ∙ ap (λ (l : List Instance). w.done ++ l) (rest_plain text f fs x here called) ∙ sym (append_assoc w.done (instance_of text f fs x ∷ []) (rest text (next_frame f ∷ fs)));
          listed = puts.2 ∙ ap (λ (l : List (List ℕ × List ℕ)). l ++ (f.prefix ++ x.0, x.1) ∷ []) w.listed ∙ sym (map-append outline w.done (instance_of text f fs x ∷ []));
          passed = all_push (InstancePasses text kinds) w.done (instance_of text f fs x) w.passed (test_of false None few called ∙ puts.0);
          subnets = more (count_by (is_subnet text) w.done) 0 old.subnets new.subnets _ (count_push (is_subnet text) w.done (instance_of text f fs x) false (ap is_some called)) w.subnets (ap (λ (c : Counts). c.subnets) puts.1 ∙ add_none old.subnets);
          plain = more (count_by is_plain w.done) 1 old.plain new.plain _ (count_push is_plain w.done (instance_of text f fs x) true (ap (λ (o : Option NetPart). not (is_some o)) called)) w.plain (ap (λ (c : Counts). c.plain) puts.1);
        }

    push_subnet : (s : ℕ) → subnet_place text x.1 ≡ Some s → nat_le 9 (length fs) ≡ false → PutsSubnet (part_at text (Some s)) (f.prefix ++ x.0) x.1 old new list list2 (Ok tt) → Walked new list2 (child_frame f x.0 s ∷ next_frame f ∷ fs)
    push_subnet s some few puts =
        let at = found text x.1 s some in
        record {
          done = w.done ++ instance_of text f fs x ∷ [];
          all = w.all ∙ ap (λ (l : List Instance). w.done ++ l) (rest_subnet text f fs x (child_frame f x.0 s) (part_at text (Some s)) here at.called (leb-false 9 (length fs) few) refl at.named refl refl) ∙ sym (append_assoc w.done (instance_of text f fs x ∷ []) (rest text (child_frame f x.0 s ∷ next_frame f ∷ fs)));
          listed = puts.2 ∙ ap (λ (l : List (List ℕ × List ℕ)). l ++ (f.prefix ++ x.0, x.1) ∷ []) w.listed ∙ sym (map-append outline w.done (instance_of text f fs x ∷ []));
          passed = all_push (InstancePasses text kinds) w.done (instance_of text f fs x) w.passed (test_of false (Some (part_at text (Some s))) few at.called ∙ puts.0);
          subnets = more (count_by (is_subnet text) w.done) 1 old.subnets new.subnets _ (count_push (is_subnet text) w.done (instance_of text f fs x) true (ap is_some at.called)) w.subnets (ap (λ (c : Counts). c.subnets) puts.1);
          plain = more (count_by is_plain w.done) 0 old.plain new.plain _ (count_push is_plain w.done (instance_of text f fs x) false (ap (λ (o : Option NetPart). not (is_some o)) at.called)) w.plain (ap (λ (c : Counts). c.plain) puts.1 ∙ add_none old.plain);
        }

    -- The rest behind a process that doesn't pass.
    stop_at : (fault : ExpandFault) → instance_test text kinds w.done (instance_of text f fs x) ≡ Err fault → FirstFails (InstancePasses text kinds) (all_instances text) fault
    stop_at fault fails = first_here (InstancePasses text kinds) (all_instances text) w.done (instance_of text f fs x) _ fault (w.all ∙ ap (λ (l : List Instance). w.done ++ l) (rest_next text f fs x here)) w.passed fails

    module _ (way way2 : List Frame) (same : fs ≡ reverse way) where
      count : length way ≡ length fs
      count = sym (length-reverse way) ∙ ap length (sym same)

      -- A process is put, and the way goes on.
      pub goes : PutsNext text kinds f x old new list list2 way way2 (Ok tt) → Walked new list2 (reverse way2)
      goes = by (nat_le 9 (length way)) refl where
        at : (o : Option ℕ) → subnet_place text x.1 ≡ o → nat_le 9 (length way) ≡ false → PutsAt text kinds f x old new list list2 way way2 (Ok tt) o → Walked new list2 (reverse way2)
        at None none few puts = subst (λ (l : List Frame). Walked new list2 l)
            (ap (λ (l : List Frame). next_frame f ∷ l) same ∙ sym (reverse_push way (next_frame f)) ∙ ap reverse (sym puts.1))
            (push_plain none (ap (nat_le 9) (sym count) ∙ few) puts.0)
        at (Some s) some few puts = subst (λ (l : List Frame). Walked new list2 l)
            (ap (λ (l : List Frame). child_frame f x.0 s ∷ next_frame f ∷ l) same ∙ ap (λ (l : List Frame). child_frame f x.0 s ∷ l) (sym (reverse_push way (next_frame f))) ∙ sym (reverse_push (way ++ next_frame f ∷ []) (child_frame f x.0 s)) ∙ ap reverse (sym puts.1))
            (push_subnet s some (ap (nat_le 9) (sym count) ∙ few) puts.0)

        by : (b : Bool) → nat_le 9 (length way) ≡ b → PutsIf b (f.prefix ++ x.0) (Ok tt) (PutsAt text kinds f x old new list list2 way way2 (Ok tt) (subnet_place text x.1)) → Walked new list2 (reverse way2)
        by true deep puts = absurd puts
        by false few puts = at (subnet_place text x.1) refl few puts

      -- A process is refused, and is the first.
      pub refuses : (fault : ExpandFault) → PutsNext text kinds f x old new list list2 way way2 (Err (Fault fault)) → FirstFails (InstancePasses text kinds) (all_instances text) fault
      refuses fault = by (nat_le 9 (length way)) refl where
        at : (o : Option ℕ) → subnet_place text x.1 ≡ o → nat_le 9 (length way) ≡ false → PutsAt text kinds f x old new list list2 way way2 (Err (Fault fault)) o → FirstFails (InstancePasses text kinds) (all_instances text) fault
        at None none few puts = stop_at fault (test_of false None (ap (nat_le 9) (sym count) ∙ few) (called_none text x.1 none) ∙ puts.0)
        at (Some s) some few puts = let at = found text x.1 s some in stop_at fault (test_of false (Some (part_at text (Some s))) (ap (nat_le 9) (sym count) ∙ few) at.called ∙ puts.0)

        by : (b : Bool) → nat_le 9 (length way) ≡ b → PutsIf b (f.prefix ++ x.0) (Err (Fault fault)) (PutsAt text kinds f x old new list list2 way way2 (Err (Fault fault)) (subnet_place text x.1)) → FirstFails (InstancePasses text kinds) (all_instances text) fault
        by true deep puts = stop_at fault (test_of true (subnet_called text x.1) (ap (nat_le 9) (sym count) ∙ deep) refl ∙ ap Err (sym puts))
        by false few puts = at (subnet_place text x.1) refl few puts

      -- One process less is to come.
      pub less : PutsNext text kinds f x old new list list2 way way2 (Ok tt) → 2 * length (rest text (reverse way2)) + length way2 < 2 * length (rest text (f ∷ fs)) + (length way + 1)
      less = by (nat_le 9 (length way)) refl where
        at : (o : Option ℕ) → subnet_place text x.1 ≡ o → nat_le 9 (length way) ≡ false → PutsAt text kinds f x old new list list2 way way2 (Ok tt) o → 2 * length (rest text (reverse way2)) + length way2 < 2 * length (rest text (f ∷ fs)) + (length way + 1)
        at None none few puts =
            let frames : reverse way2 ≡ next_frame f ∷ fs = ap reverse puts.1 ∙ reverse_push way (next_frame f) ∙ ap (λ (l : List Frame). next_frame f ∷ l) (sym same) in
            let a : length (rest text (reverse way2)) ≡ length (rest text (next_frame f ∷ fs)) = ap (λ (l : List Frame). length (rest text l)) frames in
            let b : length (rest text (f ∷ fs)) ≡ suc (length (rest text (next_frame f ∷ fs))) = ap length (rest_plain text f fs x here (called_none text x.1 none)) in
            let c : length way2 ≡ length way + 1 = ap length puts.1 ∙ length-append way (next_frame f ∷ []) in
            omega arith
        at (Some s) some few puts =
            let there = found text x.1 s some in
            let frames : reverse way2 ≡ child_frame f x.0 s ∷ next_frame f ∷ fs = ap reverse puts.1 ∙ reverse_push (way ++ next_frame f ∷ []) (child_frame f x.0 s) ∙ ap (λ (l : List Frame). child_frame f x.0 s ∷ l) (reverse_push way (next_frame f) ∙ ap (λ (l : List Frame). next_frame f ∷ l) (sym same)) in
            let a : length (rest text (reverse way2)) ≡ length (rest text (child_frame f x.0 s ∷ next_frame f ∷ fs)) = ap (λ (l : List Frame). length (rest text l)) frames in
            let b : length (rest text (f ∷ fs)) ≡ suc (length (rest text (child_frame f x.0 s ∷ next_frame f ∷ fs))) =
            ap length (rest_subnet text f fs x (child_frame f x.0 s) (part_at text (Some s)) here there.called (leb-false 9 (length fs) (ap (nat_le 9) (sym count) ∙ few)) refl there.named refl refl) in
            let c : length way2 ≡ length way + 1 + 1 = ap length puts.1 ∙ length-append (way ++ next_frame f ∷ []) (child_frame f x.0 s ∷ []) ∙ ap (λ (n : ℕ). n + 1) (length-append way (next_frame f ∷ [])) in
            omega arith

        by : (b : Bool) → nat_le 9 (length way) ≡ b → PutsIf b (f.prefix ++ x.0) (Ok tt) (PutsAt text kinds f x old new list list2 way way2 (Ok tt) (subnet_place text x.1)) → 2 * length (rest text (reverse way2)) + length way2 < 2 * length (rest text (f ∷ fs)) + (length way + 1)
        by true deep puts = absurd puts
        by false few puts = at (subnet_place text x.1) refl few puts

  -- The frames of a way of which the last is taken.
  pub popped : (frames way : List Frame) (f : Frame) → frames ≡ way ++ f ∷ [] → reverse frames ≡ f ∷ reverse way
  popped frames way f is = ap reverse is ∙ reverse_push way f

  -- A process that was refused is the first, unless memory ran out.
  pub refused_first : (f : Frame) (fs : List Frame) (x : List ℕ × List ℕ) (old new : Counts) (list list2 : List (List ℕ × List ℕ)) → Walked old list (f ∷ fs) → slice_get (part_at text f.subnet).processes f.next ≡ Some x
      → (way way2 : List Frame) → fs ≡ reverse way → (stop : ExpandStop) → PutsNext text kinds f x old new list list2 way way2 (Err stop) → IfFault stop (λ fault. FirstFails (InstancePasses text kinds) (all_instances text) fault)
  refused_first f fs x old new list list2 w here way way2 same (Fault fault) puts = refuses f fs x old new list list2 w here way way2 same fault puts
  refused_first f fs x old new list list2 w here way way2 same NoMemory puts = tt

-- What was read of a part.
pub read_at : (ps qs : List (List ℕ × List ℕ)) (i : ℕ) (x : List ℕ × List ℕ) → ps ≡ qs → i < length ps → x ≡ get_or ps i x → slice_get qs i ≡ Some x
read_at ps qs i x same below is = subst (λ (l : List (List ℕ × List ℕ)). slice_get l i ≡ Some x) same (slice_get_read ps (length ps) i x refl below is)
