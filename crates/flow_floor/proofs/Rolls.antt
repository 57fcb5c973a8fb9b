-- Whom a worker's last call made ready, and its list of them.
use Rattle.std.proofs.Common.{◌≡◌, ℕ, ◌+◌, ◌<◌, ◌≤◌, List, [], ◌∷◌, true, false, ◌++◌, All, length, take, cond, nat_eq, sym, ap, ◌∙◌, subst, arith, append-nil, append_assoc, length-append}
use Rattle.std.proofs.lemmas.Bool.Decides.{nat_tests}
use Rattle.std.proofs.lemmas.List.Elements.{All-append, All-nil}
use Rattle.flow_floor.specs.declared.board.View.{View}
use Rattle.flow_floor.specs.declared.floor.Floor.{Floor}
use Rattle.flow_floor.specs.declared.floor.Worker.{Worker}
use Rattle.flow_floor.specs.Floors.{process_count, readied_of, woken_of, Readies, WakesOne}
use Rattle.flow_floor.specs.Views.{poking}
use Rattle.flow_floor.proofs.Lists.{All-one}

module _ {K : Type 0} (f : Floor K) where
  abbrev Low : List ℕ → Type 0
  Low = All (λ p. p < process_count f)

  -- nobody is listed, and nobody was made ready
  pub readies-none : (old new : Worker K) → woken_of new ≡ [] → readied_of new ≡ readied_of old → Readies f old new
  readies-none old new none same = record {
    listed = same ∙ sym (append-nil (readied_of old)) ∙ ap (λ (xs : List ℕ). readied_of old ++ xs) (sym none);
    below = subst Low (sym none) (All-nil (λ p. p < process_count f));
  }

  -- one process was
  pub readies-one : (old new : Worker K) (p : ℕ) → p < process_count f → woken_of new ≡ p ∷ [] → readied_of new ≡ readied_of old ++ p ∷ [] → Readies f old new
  readies-one old new p low one more = record {
    listed = more ∙ ap (λ (xs : List ℕ). readied_of old ++ xs) (sym one);
    below = subst Low (sym one) (All-one (λ q. q < process_count f) p low);
  }

  -- what a call made ready that began with a worker who has made nobody ready since
  pub readies-after : (u v w : Worker K) → readied_of v ≡ readied_of u → Readies f v w → Readies f u w
  readies-after u v w same r = record { listed = r.listed ∙ ap (λ (xs : List ℕ). xs ++ woken_of w) same; below = r.below }

  -- a step that wakes nobody
  pub wakes-none : (old new : Worker K) → readied_of new ≡ readied_of old → woken_of new ≡ woken_of old → WakesOne f old new
  wakes-none old new readied woken = record {
    more = [];
    few = omega arith;
    below = All-nil (λ p. p < process_count f);
    readied = readied ∙ sym (append-nil (readied_of old));
    woken = woken ∙ sym (append-nil (woken_of old));
  }

  -- a step that wakes this one
  pub wakes-this : (old new : Worker K) (p : ℕ) → p < process_count f → readied_of new ≡ readied_of old ++ p ∷ [] → woken_of new ≡ woken_of old ++ p ∷ [] → WakesOne f old new
  wakes-this old new p low readied woken = record { more = p ∷ []; few = omega arith; below = All-one (λ q. q < process_count f) p low; readied = readied; woken = woken }

  -- one that wakes as another did, from a worker who was the same
  pub wakes-after : (u v w : Worker K) → readied_of v ≡ readied_of u → woken_of v ≡ woken_of u → WakesOne f v w → WakesOne f u w
  wakes-after u v w readied woken o = record {
    more = o.more;
    few = o.few;
    below = o.below;
    readied = o.readied ∙ ap (λ (xs : List ℕ). xs ++ o.more) readied;
    woken = o.woken ∙ ap (λ (xs : List ℕ). xs ++ o.more) woken;
  }

  -- the same of a worker that is this one
  pub wakes-as : (u w w' : Worker K) → w' ≡ w → WakesOne f u w → WakesOne f u w'
  wakes-as u w w' is = subst (WakesOne f u) (sym is)

  -- Who was listed, and then who was woken.
  pub readies-more : (u v w : Worker K) → Readies f u v → WakesOne f v w → Readies f u w
  readies-more u v w r o = record {
    listed = o.readied ∙ ap (λ (xs : List ℕ). xs ++ o.more) r.listed ∙ append_assoc (readied_of u) (woken_of v) o.more ∙ ap (λ (xs : List ℕ). readied_of u ++ xs) (sym o.woken);
    below = subst Low (sym o.woken) (All-append (λ p. p < process_count f) (woken_of v) o.more r.below o.below);
  }

  -- One more is listed at most.
  pub listed-few : (v w : Worker K) (n : ℕ) → length (woken_of v) ≤ n → WakesOne f v w → length (woken_of w) ≤ n + 1
  listed-few v w n few o = omega (arith, few, o.few, ap (λ (xs : List ℕ). length xs) o.woken, length-append (woken_of v) o.more)

-- A poke that read 0 made the first noted process ready; another made nobody ready.
pub poked-ready : {K : Type 0} (v w : View K) (r : ℕ) → w ≡ poking v r → r ≡ 0 → w.readied ≡ v.readied ++ take 1 v.noted
poked-ready {K} v w r is none_there = ap (λ (x : View K). x.readied) is ∙ (let z : nat_eq r 0 ≡ true = grind (arith, nat_tests) in ap (λ b. cond b (v.readied ++ take 1 v.noted) v.readied) z)

pub poked-none : {K : Type 0} (v w : View K) (r : ℕ) → w ≡ poking v r → (r ≡ 0 → ⊥) → w.readied ≡ v.readied
poked-none {K} v w r is other = ap (λ (x : View K). x.readied) is ∙ (let z : nat_eq r 0 ≡ false = grind (arith, nat_tests) in ap (λ b. cond b (v.readied ++ take 1 v.noted) v.readied) z)
