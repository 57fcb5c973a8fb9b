-- What a work does to the count of the dropped.
use Rattle.std.proofs.Common.{◌≡◌, ℕ, ◌+◌, ◌<◌, min, true, false, List, [], ◌∷◌, ◌++◌, length, Option, Some, None, IsSome, Result, Ok, Err, refl, sym, arith, nat_eq, length-append, if◌then◌else◌}
use Rattle.std.proofs.lemmas.Bool.Decides.{nat_tests}
use Rattle.flow_packet.specs.declared.packet.Kind.{Kind}
use Rattle.flow_packet.specs.Tree.{Tree, node, ids, all_ids, id_of, packet_of}
use Rattle.flow_packet.specs.Hands.{Holding, new_id, without, packet_at, ids_at, ids_in, IsAtRoot}
use Rattle.flow_packet.specs.Held.{Held, held_of}
use Rattle.flow_component.specs.declared.Answer.{Answer}
use Rattle.flow_component.specs.declared.Wish.{Wish}
use Rattle.flow_component.specs.declared.Stop.{Stop}
use Rattle.flow_component.specs.declared.Stop.TheVariants as stops
use Rattle.flow_component.specs.Laws.{Outcome, Wishes, Fails}
use Rattle.flow_component.specs.Resumes.{Resumes, dropped_count, drops_between}

-- the count of the dropped after a work that leads from one holding to another
abbrev pub dropped_after : Holding → Holding → ℕ
dropped_after old new = dropped_count old.dropped (drops_between (held_of old) (held_of new))

-- A call that meets a relation meets each that says no more, at the same hands.
pub Resumes-weaker : {K : Type 0} (next next' : K → Held → Answer → Outcome K → Type 0) (component : K) (hands : Holding) (answer answer' : Answer) (result : Result Wish Stop) (component' : K) (hands' : Holding)
    → ((outcome : Outcome K) → next component (held_of hands) answer outcome → next' component (held_of hands) answer' outcome)
    → Resumes next component hands answer result component' hands' → Resumes next' component hands answer' result component' hands'
Resumes-weaker next next' component hands answer answer' (Ok wish) component' hands' f r = (f (Wishes component' (held_of hands') wish) r.0, r.1)
Resumes-weaker next next' component hands answer answer' (Err (stops.Fail cause)) component' hands' f r = (f (Fails component' (held_of hands') cause) r.0, r.1)
Resumes-weaker next next' component hands answer answer' (Err stops.NoMemory) component' hands' f r = r

none_dropped : (old new : Holding) → drops_between (held_of old) (held_of new) ≡ 0 → dropped_after old new ≡ old.dropped
none_dropped old new e = let t : nat_eq (drops_between (held_of old) (held_of new)) 0 ≡ true = grind (arith, nat_tests) in rw t refl

some_dropped : (old new : Holding) (k : ℕ) → drops_between (held_of old) (held_of new) ≡ k → 0 < k → dropped_after old new ≡ min (old.dropped + k) 18446744073709551615
some_dropped old new k e l = let t : nat_eq (drops_between (held_of old) (held_of new)) 0 ≡ false = grind (arith, nat_tests) in rw (t, e) refl

-- a work that leaves the hands drops nothing
pub dropped-same : (h : Holding) → h.dropped ≡ dropped_after h h
dropped-same h = sym (none_dropped h h (omega arith))

-- a packet at the end adds the ids of its tree
pub length-push : (ts : List Tree) (t : Tree) → length (all_ids (ts ++ t ∷ [])) ≡ length (all_ids ts) + length (ids t)
length-push [] t = omega (arith, length-append (ids t) [])
length-push (u ∷ ts) t = omega (arith, length-push ts t, length-append (ids u) (all_ids (ts ++ t ∷ [])), length-append (ids u) (all_ids ts))

-- a packet that is taken out takes the ids of its tree with it
pub length-without : (ts : List Tree) (id : ℕ) → length (all_ids ts) ≡ length (ids_at ts id) + length (all_ids (without ts id))
length-without [] id = omega arith
length-without (t ∷ ts) id =
    elim (nat_eq (id_of t) id) as (λ b. length (all_ids (t ∷ ts)) ≡ length (ids_in (if b then Some t else packet_at ts id)) + length (all_ids (if b then ts else t ∷ without ts id))) [
      | true ↦ omega (arith, length-append (ids t) (all_ids ts))
      | false ↦ omega (arith, length-append (ids t) (all_ids ts), length-append (ids t) (all_ids (without ts id)), length-without ts id)
    ]

some_ids : (o : Option Tree) → IsSome o → 0 < length (ids_in o)
some_ids None h = cc
some_ids (Some (node id kind text cs)) h = omega arith

-- the hands with a packet made
abbrev pub making : Holding → Kind → List ℕ → ℕ → Holding
making h kind text spare = record h { made = h.made + 1; packets = h.packets ++ packet_of (new_id h) kind text [] ∷ []; spare = spare }

-- the hands with a packet dropped
abbrev pub dropping : Holding → ℕ → ℕ → Holding
dropping h id spare = record h { packets = without h.packets id; dropped = min (h.dropped + length (ids_at h.packets id)) 18446744073709551615; spare = spare }

-- Making a packet drops none.
pub dropped-making : (h : Holding) (kind : Kind) (text : List ℕ) (spare : ℕ) → h.dropped ≡ dropped_after h (making h kind text spare)
dropped-making h kind text spare = sym (none_dropped h (making h kind text spare) (omega (arith, length-push h.packets (packet_of (new_id h) kind text []))))

-- Dropping a packet counts all packets of its tree.
pub dropped-dropping : (h : Holding) (id spare : ℕ) → IsAtRoot h.packets id → (dropping h id spare).dropped ≡ dropped_after h (dropping h id spare)
dropped-dropping h id spare at =
    sym (some_dropped h (dropping h id spare) (length (ids_at h.packets id)) (omega (arith, length-without h.packets id)) (some_ids (packet_at h.packets id) at))

-- a packet is dropped, and then one is made
pub dropped-turning : (h : Holding) (id spare : ℕ) (kind : Kind) (text : List ℕ) (s : ℕ) → IsAtRoot h.packets id → (dropping h id spare).dropped ≡ dropped_after h (making (dropping h id spare) kind text s)
dropped-turning h id spare kind text s at =
    sym (some_dropped h (making (dropping h id spare) kind text s) (length (ids_at h.packets id))
    (omega (arith, length-without h.packets id, length-push (without h.packets id) (packet_of (new_id h) kind text []))) (some_ids (packet_at h.packets id) at))
