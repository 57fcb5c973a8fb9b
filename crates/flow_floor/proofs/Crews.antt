-- Lists of workers.
use Rattle.std.proofs.Common.{◌≡◌, ℕ, zero, suc, ◌+◌, ◌<◌, Bool, true, false, List, [], ◌∷◌, ◌++◌, All, length, get_or, refl, sym, ap, ◌∙◌, arith}
use Rattle.std.specs.Prelude.{sum_by, ◌||◌}
use Rattle.std.specs.List.{list_any}
use Rattle.std.proofs.lemmas.List.Elements.{All-append}
use Rattle.std.proofs.lemmas.List.Sums.{sum_by-append}
use Rattle.atomic_table.specs.Seated.{TableId}
use Rattle.flow_floor.specs.declared.floor.Worker.{Worker}
use Rattle.flow_floor.specs.Workers.{view, IsIdle}
use Rattle.flow_limits.specs.declared.TheConstants.{WORKER_LIMIT}
use Rattle.flow_floor.specs.Floors.{IsNewWorker}
use Rattle.flow_floor.specs.Views.{cut}
use Rattle.flow_floor.specs.Made.{merge}
use Rattle.flow_floor.specs.Seats.{newcomer}
use Rattle.flow_floor.specs.Crew.{IsCrew, made_by}
use Rattle.flow_floor.proofs.Lists.{All-one, All-front, All-last}

-- One more of which it holds.
pub all-push : {X : Type 0} (P : X → Type 0) (xs : List X) (x : X) → All P xs → P x → All P (xs ++ x ∷ [])
all-push P xs x a p = All-append P xs (x ∷ []) a (All-one P x p)

either-way : (a b : Bool) → (a || (b || false)) ≡ ((b || a) || false)
either-way true true = refl
either-way true false = refl
either-way false true = refl
either-way false false = refl

module _ {K : Type 0} where
  shares : Worker K → ℕ
  shares = λ w. w.seat.me.0.shares

  pub shares-push : (ws : List (Worker K)) (w : Worker K) → sum_by (λ (x : Worker K). x.seat.me.0.shares) (ws ++ w ∷ []) ≡ sum_by (λ (x : Worker K). x.seat.me.0.shares) ws + w.seat.me.0.shares
  shares-push ws w = let e = sum_by-append (λ (x : Worker K). x.seat.me.0.shares) ws (w ∷ []) in omega (arith, e)

  -- A worker that was split off is new, and the other is no less new than it was.
  pub new-comer : (w : Worker K) (n : ℕ) → view w ≡ newcomer n → IsNewWorker w
  new-comer w n is = (ap (λ v. v.made) is, ap (λ v. v.read_zero) is)

  pub new-cut : (w w' : Worker K) → view w' ≡ cut (view w) → IsNewWorker w → IsNewWorker w'
  new-cut w w' is new = (ap (λ v. v.made) is ∙ new.0, ap (λ v. v.read_zero) is ∙ new.1)

  pub crew-two : (z : TableId) (xs : List (Worker K)) (a b : Worker K) → IsCrew z ((xs ++ a ∷ []) ++ b ∷ []) → IsIdle z a × IsIdle z b
  crew-two z xs a b h = (All-last (IsIdle z) xs a (All-front (IsIdle z) (xs ++ a ∷ []) b h.0), All-last (IsIdle z) (xs ++ a ∷ []) b h.0)

  pub crew-pair : (z : TableId) (xs : List (Worker K)) (a b c : Worker K) → IsIdle z c → c.seat.me.0.shares ≡ b.seat.me.0.shares + a.seat.me.0.shares → IsCrew z ((xs ++ a ∷ []) ++ b ∷ []) → IsCrew z (xs ++ c ∷ [])
  crew-pair z xs a b c idle both h = (
    all-push (IsIdle z) xs c (All-front (IsIdle z) xs a (All-front (IsIdle z) (xs ++ a ∷ []) b h.0)) idle,
    (let p = shares-push xs a in let q = shares-push (xs ++ a ∷ []) b in let r = shares-push xs c in omega (arith, p, q, r, both, h.1)),
  )

  pub crew-one : (z : TableId) (a : Worker K) → IsCrew z (a ∷ []) → IsIdle z a × (a.seat.me.0.shares ≡ WORKER_LIMIT)
  crew-one z a h = (All-last (IsIdle z) [] a h.0, omega (arith, h.1))

  shares-each : (xs ys : List (Worker K)) → length ys ≡ length xs → ((i : ℕ) (d : Worker K) → i < length xs → (get_or ys i d).seat.me.0.shares ≡ (get_or xs i d).seat.me.0.shares) → sum_by (λ (x : Worker K). x.seat.me.0.shares) ys ≡ sum_by (λ (x : Worker K). x.seat.me.0.shares) xs
  shares-each [] [] l h = omega arith
  shares-each [] (y ∷ ys) l h = absurd (omega (arith, l))
  shares-each (x ∷ xs) [] l h = absurd (omega (arith, l))
  shares-each (x ∷ xs) (y ∷ ys) l h = let r = shares-each xs ys (omega (arith, l)) (λ i d m. h (suc i) d (omega (arith, m))) in let e = h zero x (omega arith) in let f = (λ (w : Worker K). w.seat.me.0.shares) in let a = sum_by-append f (x ∷ []) xs in let b = sum_by-append f (y ∷ []) ys in omega (arith, r, e, a, b)

  pub crew-each : (z : TableId) (xs ys : List (Worker K)) → IsCrew z xs → length ys ≡ length xs → ((i : ℕ) (d : Worker K) → i < length xs → IsIdle z (get_or ys i d) × ((get_or ys i d).seat.me.0.shares ≡ (get_or xs i d).seat.me.0.shares)) → IsCrew z ys
  crew-each z xs ys c l h = ((λ k d m. (h k d (omega (arith, m, l))).0), omega (arith, shares-each xs ys l (λ i d m. (h i d m).1), c.1))

  -- the turns of two workers are those of the one that took in the other
  pub made-pair : (xs : List (Worker K)) (a b c : Worker K) → c.seat.me.0.made ≡ merge a.seat.me.0.made b.seat.me.0.made → made_by ((xs ++ a ∷ []) ++ b ∷ []) ≡ made_by (xs ++ c ∷ [])
  made-pair [] a b c is = sym is
  made-pair (x ∷ []) a b c is = ap (merge x.seat.me.0.made) (sym is)
  made-pair (x ∷ y ∷ xs) a b c is = ap (merge x.seat.me.0.made) (made-pair (y ∷ xs) a b c is)

  -- Whether some of these workers once read 0.
  abbrev pub some_zero : List (Worker K) → Bool
  some_zero ws = list_any (λ (w : Worker K). w.seat.me.0.read_zero) ws

  -- Some of two read 0 where the one that took in the other has it so.
  pub zero-pair : (xs : List (Worker K)) (a b c : Worker K) → c.seat.me.0.read_zero ≡ (b.seat.me.0.read_zero || a.seat.me.0.read_zero) → some_zero ((xs ++ a ∷ []) ++ b ∷ []) ≡ some_zero (xs ++ c ∷ [])
  zero-pair [] a b c is = either-way a.seat.me.0.read_zero b.seat.me.0.read_zero ∙ ap (λ z. z || false) (sym is)
  zero-pair (x ∷ xs) a b c is = ap (λ z. x.seat.me.0.read_zero || z) (zero-pair xs a b c is)

  pub zero-one : (a : Worker K) → some_zero (a ∷ []) ≡ true → a.seat.me.0.read_zero ≡ true
  zero-one a is = by a.seat.me.0.read_zero is
    where
      by : (z : Bool) → (z || false) ≡ true → z ≡ true
      by true e = refl
      by false e = e

  -- Where each of them read 0 some did, since all together have shares.
  pub zero-each : (z : TableId) (ws : List (Worker K)) → IsCrew z ws → All (λ (w : Worker K). w.seat.me.0.read_zero ≡ true) ws → some_zero ws ≡ true
  zero-each z [] crew each = absurd (omega (arith, crew.1))
  zero-each z (w ∷ ws) crew each = ap (λ b. b || some_zero ws) (each 0 w (omega arith))
