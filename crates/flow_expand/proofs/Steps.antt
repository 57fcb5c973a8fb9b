-- What is still to come of a way, one process after the other.
use Rattle.std.proofs.Common.{◌≡◌, ℕ, ◌+◌, ◌-◌, ◌<◌, ◌≤◌, suc, List, [], ◌∷◌, ◌++◌, length, drop, Option, Some, None, refl, ap, sym, ◌∙◌, slice_get, arith, append_assoc}
use Rattle.std.specs.List.{flat_map}
use Rattle.std.specs.Option.{option_map_or}
use Rattle.std.proofs.lemmas.List.{drop_all, drop_more}
use Rattle.std.proofs.lemmas.Option.{slice_get_within, get_or_from_slice_get}
use Rattle.flow_parse.specs.declared.value.NetPart.{NetPart}
use Rattle.flow_parse.specs.declared.value.NetText.{NetText}
use Rattle.flow_flat.specs.Subnets.{Instance, subnet_called, within, instances}
use Rattle.flow_expand.specs.declared.way.Frame.{Frame}
use Rattle.flow_expand.specs.Ways.{part_at, name_at, inside_of, entry, rest}

-- A list from a place on begins with the member at that place.
pub drop_at : {X : Type 0} (xs : List X) (i : ℕ) (x : X) → slice_get xs i ≡ Some x → drop i xs ≡ x ∷ drop (i + 1) xs
drop_at {X} xs i x is = drop_more xs i x (slice_get_within xs i x is) ∙ ap (λ (y : X). y ∷ drop (i + 1) xs) (get_or_from_slice_get xs i x x is)

-- The parts of a way but its last are subnets around its first.
pub inside_count : (text : NetText) (f : Frame) (fs : List Frame) → length (inside_of text (f ∷ fs)) ≡ length fs
inside_count text f [] = refl
inside_count text f (g ∷ fs) = ap suc (inside_count text g fs)

pub next_inside : (text : NetText) (f g : Frame) (fs : List Frame) → f.subnet ≡ g.subnet → inside_of text (f ∷ fs) ≡ inside_of text (g ∷ fs)
next_inside text f g [] same = refl
next_inside text f g (h ∷ fs) same = ap (λ (s : Option ℕ). name_at text s ∷ inside_of text (h ∷ fs)) same

abbrev pub after : Frame → Frame
after f = record { subnet = f.subnet; prefix = f.prefix; next = f.next + 1 }

-- The subnet that a process stands for, where it is met on the way.
abbrev pub instance_of : NetText → Frame → List Frame → List ℕ × List ℕ → Instance
instance_of text f fs x = record { name = f.prefix ++ x.0; kind = x.1; inside = inside_of text (f ∷ fs) }

module _ (text : NetText) (f : Frame) (fs : List Frame) where
  -- A part whose processes are all written out.
  pub rest_end : length (part_at text f.subnet).processes ≤ f.next → rest text (f ∷ fs) ≡ rest text fs
  rest_end over = ap (λ (l : List (List ℕ × List ℕ)). flat_map (entry text (9 - length fs) f.prefix (inside_of text (f ∷ fs))) l ++ rest text fs) (drop_all f.next (part_at text f.subnet).processes over)

  pub rest_next : (x : List ℕ × List ℕ) → slice_get (part_at text f.subnet).processes f.next ≡ Some x → rest text (f ∷ fs) ≡ entry text (9 - length fs) f.prefix (inside_of text (f ∷ fs)) x ++ rest text (after f ∷ fs)
  rest_next x is =
      ap (λ (l : List (List ℕ × List ℕ)). flat_map (entry text (9 - length fs) f.prefix (inside_of text (f ∷ fs))) l ++ rest text fs) (drop_at (part_at text f.subnet).processes f.next x is)
      ∙ append_assoc (entry text (9 - length fs) f.prefix (inside_of text (f ∷ fs)) x) (flat_map (entry text (9 - length fs) f.prefix (inside_of text (f ∷ fs))) (drop (f.next + 1) (part_at text f.subnet).processes)) (rest text fs)
      ∙ ap (λ (i : List (List ℕ)). entry text (9 - length fs) f.prefix (inside_of text (f ∷ fs)) x ++ (flat_map (entry text (9 - length fs) f.prefix i) (drop (f.next + 1) (part_at text f.subnet).processes) ++ rest text fs)) (next_inside text f (after f) fs refl)

  -- A process that is no subnet comes next.
  pub rest_plain : (x : List ℕ × List ℕ) → slice_get (part_at text f.subnet).processes f.next ≡ Some x → subnet_called text x.1 ≡ None → rest text (f ∷ fs) ≡ instance_of text f fs x ∷ rest text (after f ∷ fs)
  rest_plain x is none = rest_next x is ∙ ap (λ (o : Option NetPart). (instance_of text f fs x ∷ option_map_or (instances text (9 - length fs) (within f.prefix x.0) (x.1 ∷ inside_of text (f ∷ fs))) o []) ++ rest text (after f ∷ fs)) none

  -- A process that is a subnet comes next, and then those inside it.
  pub rest_subnet : (x : List ℕ × List ℕ) (child : Frame) (part : NetPart) → slice_get (part_at text f.subnet).processes f.next ≡ Some x → subnet_called text x.1 ≡ Some part → length fs < 9
      → part_at text child.subnet ≡ part → name_at text child.subnet ≡ x.1 → child.prefix ≡ within f.prefix x.0 → child.next ≡ 0
      → rest text (f ∷ fs) ≡ instance_of text f fs x ∷ rest text (child ∷ after f ∷ fs)
  rest_subnet x child part is found few at named begins first =
      rest_next x is
      ∙ ap (λ (o : Option NetPart). (instance_of text f fs x ∷ option_map_or (instances text (9 - length fs) (within f.prefix x.0) (x.1 ∷ inside_of text (f ∷ fs))) o []) ++ rest text (after f ∷ fs)) found
      ∙ ap (λ (n : ℕ). (instance_of text f fs x ∷ instances text n (within f.prefix x.0) (x.1 ∷ inside_of text (f ∷ fs)) part) ++ rest text (after f ∷ fs)) levels
      ∙ ap (λ (l : List Instance). (instance_of text f fs x ∷ l) ++ rest text (after f ∷ fs)) (sym inner)
    where
      levels : 9 - length fs ≡ suc (9 - length (after f ∷ fs))
      levels = omega arith

      inner : flat_map (entry text (9 - length (after f ∷ fs)) child.prefix (name_at text child.subnet ∷ inside_of text (after f ∷ fs))) (drop child.next (part_at text child.subnet).processes)
          ≡ instances text (suc (9 - length (after f ∷ fs))) (within f.prefix x.0) (x.1 ∷ inside_of text (f ∷ fs)) part
      inner =
          ap (λ (k : ℕ). flat_map (entry text (9 - length (after f ∷ fs)) child.prefix (name_at text child.subnet ∷ inside_of text (after f ∷ fs))) (drop k (part_at text child.subnet).processes)) first
          ∙ ap (λ (p : NetPart). flat_map (entry text (9 - length (after f ∷ fs)) child.prefix (name_at text child.subnet ∷ inside_of text (after f ∷ fs))) p.processes) at
          ∙ ap (λ (b : List ℕ). flat_map (entry text (9 - length (after f ∷ fs)) b (name_at text child.subnet ∷ inside_of text (after f ∷ fs))) part.processes) begins
          ∙ ap (λ (n : List ℕ). flat_map (entry text (9 - length (after f ∷ fs)) (within f.prefix x.0) (n ∷ inside_of text (after f ∷ fs))) part.processes) named
          ∙ ap (λ (i : List (List ℕ)). flat_map (entry text (9 - length (after f ∷ fs)) (within f.prefix x.0) (x.1 ∷ i)) part.processes) (next_inside text (after f) f fs refl)
