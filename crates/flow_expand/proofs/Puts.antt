-- Steps of putting the processes that a text stands for.
use Rattle.std.proofs.Common.{◌≡◌, ℕ, ◌<◌, ◌≤◌, Bool, true, false, List, [], ◌∷◌, ◌++◌, length, Option, Some, None, Ok, Err, Result, sym, subst}
use Rattle.std.specs.Prelude.{nat_le}
use Rattle.std.proofs.lemmas.Bool.{le-leb, lt-leb}
use Rattle.flow_plan.specs.declared.kind.KindSpec.{KindSpec}
use Rattle.flow_parse.specs.declared.value.NetPart.{NetPart}
use Rattle.flow_parse.specs.declared.value.NetText.{NetText}
use Rattle.flow_expand.specs.declared.stop.ExpandStop.{ExpandStop}
use Rattle.flow_expand.specs.declared.stop.ExpandStop.TheVariants.{NoMemory}
use Rattle.flow_expand.specs.declared.instances.Counts.{Counts}
use Rattle.flow_expand.specs.declared.way.Frame.{Frame}
use Rattle.flow_expand.specs.Places.{subnet_place}
use Rattle.flow_expand.specs.Ways.{part_at}
use Rattle.flow_expand.specs.Walks.{IsTooDeep, PutsAt, PutsIf, PutsNext, IfPut, PutsPlain, PutsSubnet, next_frame, child_frame}

module _ (text : NetText) (kinds : List KindSpec) (f : Frame) (x : List ℕ × List ℕ) (old new : Counts) (list list2 : List (List ℕ × List ℕ)) (way way2 : List Frame) where
  -- memory may always run out
  pub puts_none : PutsNext text kinds f x old new list list2 way way2 (Err NoMemory)
  puts_none = by (nat_le 9 (length way)) (subnet_place text x.1) where
    at : (o : Option ℕ) → PutsAt text kinds f x old new list list2 way way2 (Err NoMemory) o
    at None = (tt, tt)
    at (Some s) = (tt, tt)

    by : (b : Bool) (o : Option ℕ) → PutsIf b (f.prefix ++ x.0) (Err NoMemory) (PutsAt text kinds f x old new list list2 way way2 (Err NoMemory) o)
    by true o = tt
    by false o = at o

  pub puts_deep : (result : Result (Unit {0}) ExpandStop) → 9 ≤ length way → IsTooDeep (f.prefix ++ x.0) result → PutsNext text kinds f x old new list list2 way way2 result
  puts_deep result deep is = subst (λ (b : Bool). PutsIf b (f.prefix ++ x.0) result (PutsAt text kinds f x old new list list2 way way2 result (subnet_place text x.1))) (sym (le-leb 9 (length way) deep)) is

  pub puts_at : (result : Result (Unit {0}) ExpandStop) (o : Option ℕ) → length way < 9 → subnet_place text x.1 ≡ o → PutsAt text kinds f x old new list list2 way way2 result o → PutsNext text kinds f x old new list list2 way way2 result
  puts_at result o few is puts = subst (λ (b : Bool). PutsIf b (f.prefix ++ x.0) result (PutsAt text kinds f x old new list list2 way way2 result (subnet_place text x.1))) (sym (lt-leb 9 (length way) few))
      (subst (PutsAt text kinds f x old new list list2 way way2 result) (sym is) puts)

  pub puts_plain : (result : Result (Unit {0}) ExpandStop) (name : List ℕ) → name ≡ f.prefix ++ x.0 → length way < 9 → subnet_place text x.1 ≡ None → PutsPlain kinds name x.1 old new list list2 result → way2 ≡ way ++ next_frame f ∷ [] → PutsNext text kinds f x old new list list2 way way2 result
  puts_plain result name is few none puts goes = puts_at result None few none (subst (λ (n : List ℕ). PutsPlain kinds n x.1 old new list list2 result) is puts, by result) where
    by : (r : Result (Unit {0}) ExpandStop) → IfPut r (way2 ≡ way ++ next_frame f ∷ [])
    by (Ok u) = goes
    by (Err stop) = tt

  pub puts_subnet : (result : Result (Unit {0}) ExpandStop) (name : List ℕ) (s : ℕ) (part : NetPart) → name ≡ f.prefix ++ x.0 → length way < 9 → subnet_place text x.1 ≡ Some s → part ≡ part_at text (Some s) → PutsSubnet part name x.1 old new list list2 result
      → way2 ≡ (way ++ next_frame f ∷ []) ++ child_frame f x.0 s ∷ [] → PutsNext text kinds f x old new list list2 way way2 result
  puts_subnet result name s part is few some at puts goes =
      puts_at result (Some s) few some (subst (λ (n : List ℕ). PutsSubnet (part_at text (Some s)) n x.1 old new list list2 result) is (subst (λ (p : NetPart). PutsSubnet p name x.1 old new list list2 result) at puts), by result)
    where
      by : (r : Result (Unit {0}) ExpandStop) → IfPut r (way2 ≡ (way ++ next_frame f ∷ []) ++ child_frame f x.0 s ∷ [])
      by (Ok u) = goes
      by (Err stop) = tt
