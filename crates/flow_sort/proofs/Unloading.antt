-- Works that sort the carrier's chain and take its packets out drop nothing.
use Rattle.std.proofs.Common.{◌≡◌, ℕ, ◌+◌, ◌-◌, ◌≢◌, List, [], ◌∷◌, ◌++◌, length, take, refl, sym, ap, ◌∙◌, subst, arith, length-append, Option, Some, Result, Ok, Err}
use Rattle.flow_packet.specs.Tree.{Tree, id_of, ids, all_ids, chains_of, with_chains, detach_from, chain_at}
use Rattle.flow_packet.specs.Hands.{Holding, detached, reordered, chain_of_root, first_id}
use Rattle.flow_packet.specs.Held.{Held, held_of}
use Rattle.flow_packet.specs.Sorting.{RootSorted}
use Rattle.flow_packet.proofs.Reorders.{length-reordered}
use Rattle.flow_component.specs.declared.Answer.{Answer}
use Rattle.flow_component.specs.declared.Wish.{Wish}
use Rattle.flow_component.specs.declared.Stop.{Stop}
use Rattle.flow_component.specs.declared.Stop.TheVariants as stops
use Rattle.flow_component.specs.Laws.{Wishes}
use Rattle.flow_component.specs.Ports.{send_first}
use Rattle.flow_component.specs.Resumes.{Resumes, dropped_count, drops_between}
use Rattle.flow_component.proofs.Dropping.{dropped_after, length-push}
use Rattle.flow_streams.specs.Bundle.{items}
use Rattle.flow_streams.proofs.Gathering.{none_dropped, length-with_chains, length-chains, length-detach}
use Rattle.flow_sort.specs.declared.sort.SortPlace.TheVariants.{Emptying}
use Rattle.flow_sort.specs.Sorted.{stable_sort}
use Rattle.flow_sort.specs.Sort.{SortState, empties, unloads, sorts, ends_stretch, Carries}
use Rattle.flow_sort.specs.SortLaws.{sort-same, carrier-chain, carrier-detached}
use Rattle.flow_sort.proofs.Stable.{only-sort}

abbrev detaching : Holding → ℕ → Tree → ℕ → Holding
detaching h carrier child spare = record h { packets = detached h.packets carrier items ++ child ∷ []; spare = spare }

length-detached : (h : Holding) (carrier : ℕ) (bracket : Option ℕ) (child : Tree) (children : List Tree) (k : Carries (held_of h) carrier bracket) → chain_of_root h.packets carrier items ≡ child ∷ children
    → length (all_ids (detached h.packets carrier items ++ child ∷ [])) ≡ length (all_ids h.packets)
length-detached h carrier bracket child children k is =
    let x = k.packet in
    let y = with_chains x (detach_from (chains_of x) items) in
    let chain : chain_at (chains_of x) items ≡ child ∷ children = sym (carrier-chain (held_of h) carrier bracket k) ∙ is in
    let e : length (all_ids (detached h.packets carrier items)) ≡ length (all_ids (y ∷ k.behind)) = ap (λ (ts : List Tree). length (all_ids ts)) (carrier-detached (held_of h) carrier bracket k) in
    let f : length (all_ids h.packets) ≡ length (all_ids (x ∷ k.behind)) = ap (λ (ts : List Tree). length (all_ids ts)) k.holds in
    omega (arith, e, f, length-push (detached h.packets carrier items) child, length-append (ids y) (all_ids k.behind), length-append (ids x) (all_ids k.behind), length-with_chains x (detach_from (chains_of x) items), length-chains x, length-detach (chains_of x) items child children chain)

took-at : (h : Holding) (state : SortState) (carrier : ℕ) (bracket : Option ℕ) (n : ℕ) (new : Holding) (k : Carries (held_of h) carrier bracket) (chain : List Tree) → chain_of_root h.packets carrier items ≡ chain → Some n ≡ first_id chain
    → new ≡ record h { packets = detached h.packets carrier items ++ take 1 (chain_of_root h.packets carrier items); spare = new.spare }
    → (Wishes (record state { place = Emptying carrier bracket }) (held_of new) (send_first n) ≡ unloads state (held_of h) carrier bracket) × (new.dropped ≡ dropped_after h new)
took-at h state carrier bracket n new k [] is first e = absurd (cc)
took-at h state carrier bracket n new k (child ∷ children) is first e =
    let named : n ≡ id_of child = cc in
    let made : new ≡ detaching h carrier child new.spare = e ∙ ap (λ (ts : List Tree). record h { packets = detached h.packets carrier items ++ take 1 ts; spare = new.spare }) is in (
      (λ i. Wishes (record state { place = Emptying carrier bracket }) (held_of (made i)) (send_first (named i))) ∙ ap (empties state (held_of h) carrier bracket) (sym is),
      subst (λ (x : Holding). x.dropped ≡ dropped_after h x) (sym made) (sym (none_dropped h (detaching h carrier child new.spare) (omega (arith, length-detached h carrier bracket child children k is)))),
    )

-- the next packet of the carrier's chain is taken out of it, and sent
pub took : (h : Holding) (state : SortState) (carrier : ℕ) (bracket : Option ℕ) (n : ℕ) (new : Holding) (k : Carries (held_of h) carrier bracket) → Some n ≡ first_id (chain_of_root h.packets carrier items)
    → new ≡ record h { packets = detached h.packets carrier items ++ take 1 (chain_of_root h.packets carrier items); spare = new.spare }
    → (Wishes (record state { place = Emptying carrier bracket }) (held_of new) (send_first n) ≡ unloads state (held_of h) carrier bracket) × (new.dropped ≡ dropped_after h new)
took h state carrier bracket n new k first e = took-at h state carrier bracket n new k (chain_of_root h.packets carrier items) refl first e

-- Hands whose carrier was sorted, after room was made in them
pub record IsSorted (bytes : Option ℕ) (carrier : ℕ) (old new : Holding) : Type 0 where
  pub held : held_of new ≡ sorts bytes (held_of old) carrier
  pub dropped : new.dropped ≡ old.dropped

-- Hands are sorted so by the hands' own sort.
pub is-sorted : (bytes : Option ℕ) (carrier : ℕ) (old room new : Holding) → room ≡ record old { spare = room.spare } → RootSorted bytes carrier items room new → IsSorted bytes carrier old new
is-sorted bytes carrier old room new e s =
    let chain : chain_of_root room.packets carrier items ≡ chain_of_root old.packets carrier items = ap (λ (h : Holding). chain_of_root h.packets carrier items) e in
    let order : s.order ≡ stable_sort bytes (chain_of_root old.packets carrier items) = only-sort bytes (chain_of_root room.packets carrier items) s.order s.sorts ∙ ap (stable_sort bytes) chain in
    let packets : reordered room.packets carrier items s.order ≡ reordered old.packets carrier items (stable_sort bytes (chain_of_root old.packets carrier items)) = λ i. reordered ((e i).packets) carrier items (order i) in
    record {
      held = ap held_of s.only ∙ (λ i. record { maker = (e i).maker; made = (e i).made; packets = packets i });
      dropped = ap (λ (h : Holding). h.dropped) s.only ∙ ap (λ (h : Holding). h.dropped) e;
    }

counts : (bytes : Option ℕ) (carrier : ℕ) (old mid new : Holding) → IsSorted bytes carrier old mid → new.dropped ≡ dropped_count mid.dropped (drops_between (held_of mid) (held_of new)) → new.dropped ≡ dropped_count old.dropped (drops_between (held_of old) (held_of new))
counts bytes carrier old mid new s e =
    let chain = chain_of_root old.packets carrier items in
    let many : length (all_ids mid.packets) ≡ length (all_ids old.packets) =
    ap (λ (h : Held). length (all_ids h.packets)) s.held ∙ length-reordered old.packets carrier items (stable_sort bytes chain) (sort-same bytes chain) in
    let made : mid.made ≡ old.made = ap (λ (h : Held). h.made) s.held in
    let same : drops_between (held_of mid) (held_of new) ≡ drops_between (held_of old) (held_of new) = λ i. many i + (new.made - made i) - length (all_ids new.packets) in
    e ∙ (λ i. dropped_count (s.dropped i) (same i))

-- What unloads sorted hands ends the stretch.
pub unloaded : (state state' : SortState) (carrier : ℕ) (bracket : Option ℕ) (old mid new : Holding) (answer : Answer) (result : Result Wish Stop) → IsSorted state.bytes carrier old mid
    → Resumes (λ state held _ outcome. outcome ≡ unloads state held carrier bracket) state mid answer result state' new → result ≢ Err stops.NoMemory
    → Resumes (λ state held _ outcome. outcome ≡ ends_stretch state held carrier bracket) state old answer result state' new
unloaded state state' carrier bracket old mid new answer (Ok wish) s r n = (r.0 ∙ ap (λ (h : Held). unloads state h carrier bracket) s.held, counts state.bytes carrier old mid new s r.1)
unloaded state state' carrier bracket old mid new answer (Err (stops.Fail cause)) s r n = (r.0 ∙ ap (λ (h : Held). unloads state h carrier bracket) s.held, counts state.bytes carrier old mid new s r.1)
unloaded state state' carrier bracket old mid new answer (Err stops.NoMemory) s r n = absurd (n refl)
