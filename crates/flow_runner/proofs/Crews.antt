-- What the workers come to together.
use Rattle.std.proofs.Common.{◌≡◌, ℕ, ◌<◌, ◌++◌, List, [], ◌∷◌, refl, length, take, drop, get_or, ap, ◌∙◌, subst}
use Rattle.std.proofs.Math.Seq.{take-append_seam}
use Rattle.flow_component.specs.Laws.{Rules}
use Rattle.flow_machine.specs.Values.{NetValue}
use Rattle.flow_machine.specs.Solo.{ReachesNet}
use Rattle.flow_floor.specs.declared.floor.Floor.{Floor}
use Rattle.flow_floor.specs.declared.floor.Worker.{Worker}
use Rattle.flow_floor.specs.Floors.{IsCrewOf, IsIdleAt, HasSameShare, HasReadZero}
use Rattle.flow_floor.specs.Shut.{IsShut}
use Rattle.flow_floor.specs.Made.{merge}
use Rattle.flow_floor.proofs.Crews.{crew-each}
use Rattle.flow_runner.specs.Crews.{MergeToAll}

-- What a slice of a whole list was written back.
pub written : {A : Type 0} (n : ℕ) (xs ys : List A) → n ≡ length xs → take n (xs ++ drop (length xs) ys) ≡ xs
written n xs ys is = ap (λ m. take m (xs ++ drop (length xs) ys)) is ∙ take-append_seam xs (drop (length xs) ys)

module _ {K : Type 0} where
  -- The lists of turns of some workers are together what they all made.
  pub merge-to-all : MergeToAll K
  merge-to-all [] = refl
  merge-to-all (worker ∷ []) = refl
  merge-to-all (worker ∷ other ∷ workers) = ap (merge worker.seat.me.0.made) (merge-to-all (other ∷ workers))

  -- A worker that has served: it holds nothing, has its share, and has read 0.
  pub record HasServed (floor : Floor K) (old new : Worker K) : Type 0 where
    pub idle : IsIdleAt floor new
    pub share : HasSameShare old new
    pub zero : HasReadZero new

  -- A call that left a served worker in the place of another.
  pub has-served : (floor : Floor K) (old new before after : Worker K) → before ≡ old → after ≡ new → IsIdleAt floor after → HasSameShare before after → HasReadZero after → HasServed floor old new
  has-served floor old new before after was left idle share zero = record {
    idle = subst (IsIdleAt floor) left idle;
    share = subst (λ w. HasSameShare old w) left (subst (λ w. HasSameShare w after) was share);
    zero = subst HasReadZero left zero;
  }

  -- A call that left a worker in the place of another, which holds nothing and has the other's share.
  pub has-kept : (floor : Floor K) (old new before after : Worker K) → before ≡ old → after ≡ new → IsIdleAt floor after → HasSameShare before after → IsIdleAt floor new × HasSameShare old new
  has-kept floor old new before after was left idle share = (subst (IsIdleAt floor) left idle, subst (λ w. HasSameShare old w) left (subst (λ w. HasSameShare w after) was share))

  -- Where each worker has served they are still all of the floor's.
  pub crew-served : (floor : Floor K) (xs ys : List (Worker K)) → IsCrewOf floor xs → length ys ≡ length xs → ((i : ℕ) (d : Worker K) → i < length xs → HasServed floor (get_or xs i d) (get_or ys i d)) → IsCrewOf floor ys
  crew-served floor xs ys crew same each = crew-each floor.table.shared.table_id xs ys crew same (λ i d lt. let h = each i d lt in (h.idle, h.share))

module _ {K : Type 0} (rules : Rules K) where
  -- The net of a floor that was closed is one that the opened net reaches.
  pub shut-reaches : (start net : NetValue K) (made : List (ℕ × ℕ)) → IsShut rules start made net → ReachesNet rules start net
  shut-reaches start net made h = record { len = h.len; goes = (h.log, h.total, h.goes) }
