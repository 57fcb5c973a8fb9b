-- What workers who served came to, each by itself and together.
use Rattle.std.proofs.Common.{◌≡◌, ℕ, zero, suc, ◌<◌, List, [], ◌∷◌, ◌++◌, All, refl, length, get_or, ap, subst, ◌∙◌, arith, inl, inr, Option, Some, None, sym}
use Rattle.std.proofs.lemmas.List.{length-map}
use Rattle.flow_floor.specs.declared.floor.Floor.{Floor}
use Rattle.flow_floor.specs.declared.floor.Worker.{Worker}
use Rattle.flow_floor.specs.Floors.{turns_of, HasReadZero, IsIdleAt, IsNewWorker}
use Rattle.flow_runner.specs.declared.server.Server.{Server}
use Rattle.flow_runner.specs.declared.lines.Post.{Post}
use Rattle.flow_runner.specs.Posts.{IsAtPosts, IsPosted}
use Rattle.flow_runner.specs.Serving.{HasDone, HasServed, workers_at}

module _ {K : Type 0} where
  -- What holds of each server's worker before and after holds of the workers, in order.
  pub each-worker : (P : Worker K → Worker K → Type 0) (xs ys : List (Server K)) → length ys ≡ length xs → ((i : ℕ) (d : Server K) → i < length xs → P (get_or xs i d).worker (get_or ys i d).worker) → (i : ℕ) (d : Worker K) → i < length (workers_at xs) → P (get_or (workers_at xs) i d) (get_or (workers_at ys) i d)
  each-worker P [] ys len h i d lt = absurd (omega (arith, lt))
  each-worker P (x ∷ xs) [] len h i d lt = absurd (omega (arith, len))
  each-worker P (x ∷ xs) (y ∷ ys) len h zero d lt = h zero x (omega arith)
  each-worker P (x ∷ xs) (y ∷ ys) len h (suc i) d lt = each-worker P xs ys (omega (arith, len)) (λ j e m. h (suc j) e (omega (arith, m))) i d (omega (arith, lt))

  pub workers-push : (ss : List (Server K)) (s : Server K) → workers_at (ss ++ s ∷ []) ≡ workers_at ss ++ s.worker ∷ []
  workers-push [] s = refl
  workers-push (x ∷ ss) s = ap (λ ws. x.worker ∷ ws) (workers-push ss s)

  -- Workers who hold nothing, each with a pass of each line.
  pub each-at : (floor : Floor K) (posts : List Post) (ss : List (Server K)) → All (IsIdleAt floor) (workers_at ss) → All (IsPosted posts) ss → All (IsAtPosts floor posts) ss
  each-at floor posts [] idle posted k d lt = absurd (omega (arith, lt))
  each-at floor posts (s ∷ ss) idle posted zero d lt = (idle zero s.worker (omega arith), posted zero d (omega arith))
  each-at floor posts (s ∷ ss) idle posted (suc k) d lt = each-at floor posts ss (λ j e m. idle (suc j) e (omega (arith, m))) (λ j e m. posted (suc j) e (omega (arith, m))) k d (omega (arith, lt))

  pub same-count : (xs ys : List (Server K)) → length ys ≡ length xs → length (workers_at ys) ≡ length (workers_at xs)
  same-count xs ys len = length-map ys (λ (s : Server K). s.worker) ∙ len ∙ sym (length-map xs (λ (s : Server K). s.worker))

  -- A new worker that has served.
  pub served-new : (budget : Option ℕ) (old new : Worker K) → IsNewWorker old → HasServed budget old new → HasDone budget new
  served-new None old new fresh served = served
  served-new (Some budget) old new fresh served = let none : length (turns_of old) ≡ 0 = ap (λ xs. length xs) fresh.0 in (
    omega (arith, served.0, none),
    elim served.1 [
      | inl z ↦ inl z
      | inr e ↦ inr (omega (arith, e, none))
    ],
  )

  -- One that has made no turn, and has read 0, has served.
  pub served-idle : (budget : Option ℕ) (old new : Worker K) → turns_of new ≡ turns_of old → HasReadZero new → HasServed budget old new
  served-idle None old new same read = read
  served-idle (Some budget) old new same read = (omega (arith, ap (λ xs. length xs) same), inl read)

  -- The same of the worker before a call and after it.
  pub served-as : (budget : Option ℕ) (old new before after : Worker K) → before ≡ old → after ≡ new → HasServed budget before after → HasServed budget old new
  served-as budget old new before after was left served = subst (HasServed budget old) left (subst (λ w. HasServed budget w after) was served)
