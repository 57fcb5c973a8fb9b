-- Stored files, one of which is written.
use Rattle.std.proofs.Common.{◌≡◌, ℕ, ◌+◌, ◌-◌, ◌≤◌, List, [], ◌∷◌, ◌++◌, length, map, Some, None, refl, sym, ◌∙◌, ap, subst, get_or, arith}
use Rattle.std.proofs.Math.ListN.{set}
use Rattle.std.proofs.lemmas.List.{map-set, map-append, length-map}
use Rattle.std.proofs.lemmas.Option.{get_or_from_slice_get, slice_get_read}
use Rattle.std.specs.declared.option.Option.{Option}
use Rattle.std.specs.Prelude.{string_bytes, slice_get, vec_len, vec_capacity, unwrap_or}
use Rattle.std.specs.Option.{option_map}
use Rattle.flow_text.specs.Edge.{Name, replaced, appended_to, appended_at}
use Rattle.flow_text.specs.Folder.{Named, Stored, named, held, taken_of, room_left, name_of, IsFirst, IsPlace, IsWritable, IsWritableAt, Emptied}
use Rattle.flow_text.proofs.Writes.{replaced-same}
use Rattle.flow_text.proofs.Held.{held-first, held-set, held-push, name-first, IsFirst-set, IsFirst-push, slice_get-set, slice_get-push, named-at}

-- the file that was read from the place
pub file-is : (files : List Stored) (place room : ℕ) (d : Stored) → d ≡ get_or files place d → (w : IsWritableAt files room place) → d ≡ w.file
file-is files place room d is w = is ∙ get_or_from_slice_get files place w.file d w.stored

-- what the file at the place holds
pub held-at : (files : List Stored) (place room : ℕ) (w : IsWritableAt files room place) → held (map named files) (string_bytes w.file.0) ≡ Some w.file.1.items
held-at files place room w = held-first (map named files) (string_bytes w.file.0) place (named w.file) w.first (named-at files place w.file w.stored)

pub name-at : (files : List Stored) (place room : ℕ) (w : IsWritableAt files room place) → name_of files (Some place) ≡ Some (string_bytes w.file.0)
name-at files place room w = ap (λ o. option_map (λ (file : Stored). string_bytes file.0) o) w.stored

-- the room that is left
pub room-at : (files : List Stored) (place room : ℕ) (w : IsWritableAt files room place)
    → room_left (name_of files (Some place)) (held (map named files)) room ≡ room - vec_len w.file.1
room-at files place room w =
    ap (λ o. room_left o (held (map named files)) room) (name-at files place room w)
    ∙ ap (λ o. room - length (unwrap_or o [])) (held-at files place room w)
    ∙ ap (λ n. room - n) (sym w.file.1.ok.0)

-- the room was taken when the file was created
pub fits-at : (files : List Stored) (place room : ℕ) (d : Stored) (bytes : List ℕ) → d ≡ get_or files place d → (w : IsWritableAt files room place)
    → length bytes ≤ room_left (name_of files (Some place)) (held (map named files)) room → vec_len d.1 + length bytes ≤ vec_capacity d.1
fits-at files place room d bytes is w fits =
    let same : d ≡ w.file = file-is files place room d is w in
    let left = room-at files place room w in
    let roomy = w.roomy in
    let sound = w.file.1.ok.1 in
    let holds : vec_len w.file.1 + length bytes ≤ vec_capacity w.file.1 = omega arith in
    subst (λ (e : Stored). vec_len e.1 + length bytes ≤ vec_capacity e.1) (sym same) holds

module _ (files : List Stored) (place room : ℕ) (d new : Stored) (is : d ≡ get_or files place d) (w : IsWritableAt files room place) (same : new.0 ≡ d.0) where
  name-same : string_bytes new.0 ≡ string_bytes w.file.0
  name-same = ap (λ s. string_bytes s) same ∙ ap (λ (e : Stored). string_bytes e.0) (file-is files place room d is w)

  held-new : held (map named (set files place new)) ≡ replaced (string_bytes w.file.0) new.1.items (held (map named files))
  held-new = ap held (map-set named files place new) ∙ held-set (map named files) (string_bytes w.file.0) place (named new) w.first name-same

  -- a file that is written keeps its name and its room
  pub writable-set : vec_capacity d.1 ≤ vec_capacity new.1 → IsWritableAt (set files place new) room place
  writable-set more =
      let roomy = w.roomy in
      let cap : vec_capacity d.1 ≡ vec_capacity w.file.1 = ap (λ (e : Stored). vec_capacity e.1) (file-is files place room d is w) in
      record {
        file = new;
        stored = slice_get-set files place new w.file w.stored;
        first = subst (λ (es : List Named). IsFirst es (string_bytes new.0) place) (sym (map-set named files place new))
            (subst (λ (n : Name). IsFirst (set (map named files) place (named new)) n place) (sym name-same)
            (IsFirst-set (map named files) (string_bytes w.file.0) place (named new) w.first name-same));
        roomy = omega arith;
      }

  pub name-set : name_of (set files place new) (Some place) ≡ name_of files (Some place)
  name-set =
      ap (λ o. option_map (λ (file : Stored). string_bytes file.0) o) (slice_get-set files place new w.file w.stored)
      ∙ ap Some name-same
      ∙ sym (name-at files place room w)

  -- the bytes stand at the end of what the name held
  pub grown-set : (bytes : List ℕ) → new.1.items ≡ d.1.items ++ bytes
      → held (map named (set files place new)) ≡ appended_to (name_of files (Some place)) bytes (held (map named files))
  grown-set bytes grown =
      held-new
      ∙ ap (λ all. replaced (string_bytes w.file.0) all (held (map named files)))
      (grown ∙ ap (λ (e : Stored). e.1.items ++ bytes) (file-is files place room d is w))
      ∙ ap (λ o. appended_at o (string_bytes w.file.0) bytes (held (map named files))) (sym (held-at files place room w))
      ∙ ap (λ o. appended_to o bytes (held (map named files))) (sym (name-at files place room w))

  pub taken-set : (bytes : List ℕ) → new.1.items ≡ d.1.items ++ bytes
      → taken_of (name_of files (Some place)) (held (map named (set files place new))) ≡ taken_of (name_of files (Some place)) (held (map named files)) ++ bytes
  taken-set bytes grown =
      ap (λ o. taken_of o (held (map named (set files place new)))) (name-at files place room w)
      ∙ ap (λ f. taken_of (Some (string_bytes w.file.0)) f) held-new
      ∙ ap (λ o. unwrap_or o []) (replaced-same (held (map named files)) (string_bytes w.file.0) new.1.items)
      ∙ grown
      ∙ ap (λ (e : Stored). e.1.items ++ bytes) (file-is files place room d is w)
      ∙ ap (λ o. unwrap_or o [] ++ bytes) (sym (held-at files place room w))
      ∙ ap (λ o. taken_of o (held (map named files)) ++ bytes) (sym (name-at files place room w))

-- the room that is left of the file that is written
pub room-of : (files : List Stored) (writing : Option ℕ) (place room : ℕ) (d : Stored) → writing ≡ Some place → IsWritable files room writing → d ≡ get_or files place d
    → room - vec_len d.1 ≡ room_left (name_of files writing) (held (map named files)) room
room-of files None place room d is w at = cc
room-of files (Some other) place room d is w at =
    let same : other ≡ place = cc in
    let file : d ≡ w.file = file-is files other room d (subst (λ (i : ℕ). d ≡ get_or files i d) (sym same) at) w in
    ap (λ (e : Stored). room - vec_len e.1) file ∙ sym (room-at files other room w)

-- what the file at a place is, where it was read there
module _ (files : List Stored) (name : Name) (place room : ℕ) (d new : Stored) (is : d ≡ get_or files place d) (at : IsPlace files name place) where
  pub stored-at : slice_get files place ≡ Some d
  stored-at = slice_get_read files (length files) place d refl at.within is

  pub named-so : string_bytes d.0 ≡ name
  named-so = name-first (map named files) name place (named d) at.first (named-at files place d stored-at)

  -- the first file of a name is emptied
  pub emptied-set : new.0 ≡ d.0 → new.1.items ≡ [] → room ≤ vec_capacity new.1 → Emptied files (set files place new) name room place
  emptied-set same no_bytes roomy =
      let new_name : string_bytes new.0 ≡ name = ap (λ s. string_bytes s) same ∙ named-so in
      let stored : slice_get (set files place new) place ≡ Some new = slice_get-set files place new d stored-at in
      record {
        writable = record {
          file = new;
          stored = stored;
          first = subst (λ (es : List Named). IsFirst es (string_bytes new.0) place) (sym (map-set named files place new))
              (subst (λ (n : Name). IsFirst (set (map named files) place (named new)) n place) (sym new_name)
              (IsFirst-set (map named files) name place (named new) at.first new_name));
          roomy = roomy;
        };
        named_so = ap (λ o. option_map (λ (file : Stored). string_bytes file.0) o) stored ∙ ap Some new_name;
        held_is = ap held (map-set named files place new)
            ∙ held-set (map named files) name place (named new) at.first new_name
            ∙ ap (λ bytes. replaced name bytes (held (map named files))) no_bytes;
      }

-- a new file is empty
pub emptied-push : (files : List Stored) (name : Name) (room : ℕ) (new : Stored) → held (map named files) name ≡ None → string_bytes new.0 ≡ name
    → new.1.items ≡ [] → room ≤ vec_capacity new.1 → Emptied files (files ++ new ∷ []) name room (length files)
emptied-push files name room new none new_name no_bytes roomy =
    let stored : slice_get (files ++ new ∷ []) (length files) ≡ Some new = slice_get-push files new in
    let all : map named (files ++ new ∷ []) ≡ map named files ++ named new ∷ [] = map-append named files (new ∷ []) in
    let first : IsFirst (map named files ++ named new ∷ []) name (length files) =
    subst (λ (i : ℕ). IsFirst (map named files ++ named new ∷ []) name i) (length-map files named)
    (IsFirst-push (map named files) name (named new) none new_name) in
    record {
      writable = record {
        file = new;
        stored = stored;
        first = subst (λ (es : List Named). IsFirst es (string_bytes new.0) (length files)) (sym all)
            (subst (λ (n : Name). IsFirst (map named files ++ named new ∷ []) n (length files)) (sym new_name) first);
        roomy = roomy;
      };
      named_so = ap (λ o. option_map (λ (file : Stored). string_bytes file.0) o) stored ∙ ap Some new_name;
      held_is = ap held all
          ∙ held-push (map named files) name (named new) none new_name
          ∙ ap (λ bytes. replaced name bytes (held (map named files))) no_bytes;
    }
