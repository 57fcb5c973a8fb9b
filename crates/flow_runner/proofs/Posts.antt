-- Passes of the lines of a run, one changed or added after another.
use Rattle.std.proofs.Common.{◌≡◌, ◌≢◌, ◌⊎◌, ℕ, zero, suc, ◌<◌, List, [], ◌∷◌, ◌++◌, length, get_or, set, get_or-set_same, get_or-set_other, refl, sym, ap, subst, ◌∙◌, arith, length-set, length-append, inl, inr}
use Rattle.std.proofs.lemmas.Bool.{cases_eq}
use Rattle.flow_runner.specs.declared.line.LinePass.{LinePass}
use Rattle.flow_runner.specs.declared.lines.Post.{Post}
use Rattle.flow_runner.specs.Lines.{IsPassAt}
use Rattle.flow_runner.specs.Posts.{ArePassesAt}

-- What holds of each place of a list and of the one that is pushed holds of each place then.
pub push-each : {A : Type 0} (P : ℕ → A → Type 0) (xs : List A) (y : A) → ((k : ℕ) (d : A) → k < length xs → P k (get_or xs k d)) → P (length xs) y → (k : ℕ) (d : A) → k < length (xs ++ y ∷ []) → P k (get_or (xs ++ y ∷ []) k d)
push-each P [] y each last zero d lt = last
push-each P [] y each last (suc k) d lt = absurd (omega (arith, lt))
push-each P (x ∷ xs) y each last zero d lt = each zero d (omega arith)
push-each P (x ∷ xs) y each last (suc k) d lt = push-each (λ j a. P (suc j) a) xs y (λ j e m. each (suc j) e (omega (arith, m))) last k d (omega (arith, lt))

-- What holds of each place holds where one is set to what it holds of.
pub set-each : {A : Type 0} (P : ℕ → A → Type 0) (xs : List A) (i : ℕ) (y : A) → ((k : ℕ) (d : A) → k < length xs → P k (get_or xs k d)) → P i y → (k : ℕ) (d : A) → k < length (set xs i y) → P k (get_or (set xs i y) k d)
set-each {A} P xs i y each here k d lt = by (cases_eq k i)
  where
    long : k < length xs
    long = omega (arith, lt, length-set xs i y)

    by : (k ≡ i) ⊎ (k ≢ i) → P k (get_or (set xs i y) k d)
    by (inl same) = subst (P k) (sym (ap (λ j. get_or (set xs i y) j d) same ∙ get_or-set_same xs i y d (omega (arith, long, same)))) (subst (λ j. P j y) (sym same) here)
    by (inr other) = subst (P k) (sym (get_or-set_other xs i k y d other)) (each k d long)

-- One pass changed.
pub pass-set : (posts : List Post) (ps : List LinePass) (i : ℕ) (p : LinePass) → ArePassesAt posts ps → ((d : Post) → IsPassAt (get_or posts i d).line p) → ArePassesAt posts (set ps i p)
pass-set posts ps i p at is = record {
  count = length-set ps i p ∙ at.count;
  each = λ k d e m. set-each (λ j q. IsPassAt (get_or posts j d).line q) ps i p (λ j f n. at.each j d f (omega (arith, n, at.count))) (is d) k e (omega (arith, m, at.count, length-set ps i p));
}

-- A line more, and a pass of it.
pub pass-push : (posts : List Post) (ps : List LinePass) (post : Post) (pass : LinePass) → ArePassesAt posts ps → IsPassAt post.line pass → ArePassesAt (posts ++ post ∷ []) (ps ++ pass ∷ [])
pass-push posts ps post pass at is = record { count = same posts ps at.count; each = by posts ps at.count at.each }
  where
    same : (xs : List Post) (ys : List LinePass) → length ys ≡ length xs → length (ys ++ pass ∷ []) ≡ length (xs ++ post ∷ [])
    same [] [] len = refl
    same [] (y ∷ ys) len = absurd (omega (arith, len))
    same (x ∷ xs) [] len = absurd (omega (arith, len))
    same (x ∷ xs) (y ∷ ys) len = ap suc (same xs ys (omega (arith, len)))

    by : (xs : List Post) (ys : List LinePass) → length ys ≡ length xs → ((i : ℕ) (d : Post) (e : LinePass) → i < length xs → IsPassAt (get_or xs i d).line (get_or ys i e)) → (i : ℕ) (d : Post) (e : LinePass) → i < length (xs ++ post ∷ []) → IsPassAt (get_or (xs ++ post ∷ []) i d).line (get_or (ys ++ pass ∷ []) i e)
    by [] [] len h zero d e lt = is
    by [] [] len h (suc i) d e lt = absurd (omega (arith, lt))
    by [] (y ∷ ys) len h i d e lt = absurd (omega (arith, len))
    by (x ∷ xs) [] len h i d e lt = absurd (omega (arith, len))
    by (x ∷ xs) (y ∷ ys) len h zero d e lt = h zero d e (omega arith)
    by (x ∷ xs) (y ∷ ys) len h (suc i) d e lt = by xs ys (omega (arith, len)) (λ j f g m. h (suc j) f g (omega (arith, m))) i d e (omega (arith, lt))

-- The last of one is all.
pub only : {A : Type 0} (xs : List A) (y : A) → length (xs ++ y ∷ []) ≡ 1 → xs ≡ []
only [] y len = refl
only (x ∷ xs) y len = absurd (omega (arith, len, length-append xs (y ∷ [])))

-- A place within a list has what it has, whatever would stand beyond.
pub any-default : {A : Type 0} (xs : List A) (i : ℕ) (d e : A) → i < length xs → get_or xs i d ≡ get_or xs i e
any-default [] i d e lt = absurd (omega (arith, lt))
any-default (x ∷ xs) zero d e lt = refl
any-default (x ∷ xs) (suc i) d e lt = any-default xs i d e (omega (arith, lt))
