-- Files that are read one after another.
use Rattle.std.proofs.Common.{◌≡◌, ℕ, zero, suc, ◌<◌, List, [], ◌∷◌, ◌++◌, length, Some, refl, sym, ◌∙◌, ap, subst, append_assoc, arith}
use mathlib.Core.List.{append-nil}
use Rattle.std.specs.Prelude.{slice_get}
use Rattle.std.specs.declared.option.Option.{Option}
use Rattle.flow_limits.specs.declared.TheConstants.{FILE_LIMIT}
use Rattle.flow_text.specs.Edge.{Outside, Name, Files, Logged, Rose}
use Rattle.flow_plan.specs.declared.plan.Process.{Process}
use Rattle.flow_load.specs.Step.{Filled, OnlyReads, FailsToRead, IsRead, GivesMore, partly}
use Rattle.flow_load.specs.Components.{input_of, inputs_of, AreRead}

-- what was opened before and after
pub OnlyReads-trans : (a b c : Outside) (xs ys : List Logged) → OnlyReads a b xs → OnlyReads b c ys → OnlyReads a c (xs ++ ys)
OnlyReads-trans a b c xs ys p q =
    q
    ∙ ap (λ (o : Outside). record o { open_name = c.open_name; left = c.left; opened = o.opened ++ ys }) p
    ∙ ap (λ l. record a { open_name = c.open_name; left = c.left; opened = l }) (append_assoc a.opened xs ys)

-- A file that fails to be read fails so behind others that were read.
pub FailsToRead-after : (a b c : Outside) (xs ys : List Logged) (name : Name) → OnlyReads a b xs → FailsToRead b c ys name → FailsToRead a c (xs ++ ys) name
FailsToRead-after a b c xs ys name p q = record {
  state = q.state
      ∙ ap (λ (o : Outside). record o { open_name = c.open_name; left = c.left; opened = o.opened ++ ys; read_faults = c.read_faults; last_read_fault = Some name }) p
      ∙ ap (λ l. record a { open_name = c.open_name; left = c.left; opened = l; read_faults = c.read_faults; last_read_fault = Some name }) (append_assoc a.opened xs ys);
  rose = subst (λ (n : ℕ). Rose n c.read_faults) (ap (λ (o : Outside). o.read_faults) p) q.rose;
}

-- A file that gives more than it may gives so behind others that were read.
pub GivesMore-after : (a b c : Outside) (xs ys : List Logged) (limit : ℕ) (name : Name) → OnlyReads a b xs → GivesMore b c ys limit name → GivesMore a c (xs ++ ys) limit name
GivesMore-after a b c xs ys limit name p q = (
  q.0,
  q.1,
  subst (λ (l : List Logged). OnlyReads a c l) (sym (append_assoc xs ys (partly q.0 name ∷ []))) (OnlyReads-trans a b c xs (ys ++ partly q.0 name ∷ []) p q.2),
)

-- Reading keeps all contents.
pub OnlyReads-files : (a b : Outside) (xs : List Logged) → OnlyReads a b xs → b.files ≡ a.files
OnlyReads-files a b xs p = ap (λ (o : Outside). o.files) p

-- each of two lists was read
pub are-read-append : (told : Option Files) (xs ys : List Filled) → AreRead told xs → AreRead told ys → AreRead told (xs ++ ys)
are-read-append told [] ys p q at file there = q at file there
are-read-append told (x ∷ xs) ys p q zero file there = p zero file there
are-read-append told (x ∷ xs) ys p q (suc at) file there = are-read-append told xs ys (λ k. p (suc k)) q at file there

-- Of no files nothing was read.
pub none-read : (told : Option Files) → AreRead told []
none-read told at file there = absurd cc

-- One file that was read is all of them.
pub one-read : (told : Option Files) (file : Filled) → IsRead told FILE_LIMIT file → AreRead told (file ∷ [])
one-read told file is zero other there = let same : file ≡ other = cc in subst (λ (f : Filled). IsRead told FILE_LIMIT f) same is
one-read told file is (suc at) other there = absurd cc

-- the inputs of no bytes, and of one process more
pub inputs-none : (ps : List Process) → inputs_of ps [] ≡ []
inputs-none [] = refl
inputs-none (p ∷ ps) = refl

-- One more process adds its input to the inputs.
pub inputs-more : (ps : List Process) (given : List (List ℕ)) (process : Process) (bytes : List ℕ) → slice_get ps (length given) ≡ Some process
    → inputs_of ps (given ++ bytes ∷ []) ≡ inputs_of ps given ++ input_of process bytes
inputs-more [] given process bytes there = absurd cc
inputs-more (p ∷ ps) [] process bytes there =
    let same : p ≡ process = cc in
    ap (λ l. input_of p bytes ++ l) (inputs-none ps) ∙ append-nil (input_of p bytes) ∙ ap (λ q. input_of q bytes) same
inputs-more (p ∷ ps) (g ∷ gs) process bytes there =
    ap (λ l. input_of p g ++ l) (inputs-more ps gs process bytes there) ∙ sym (append_assoc (input_of p g) (inputs_of ps gs) (input_of process bytes))

-- What stands in a list stands there when one more is pushed.
pub get-more : {X : Type 0} (xs : List X) (x y : X) (p : ℕ) → slice_get xs p ≡ Some y → slice_get (xs ++ x ∷ []) p ≡ Some y
get-more [] x y p there = absurd cc
get-more (z ∷ zs) x y zero there = there
get-more (z ∷ zs) x y (suc p) there = get-more zs x y p there

-- What is pushed stands at the end.
pub get-last : {X : Type 0} (xs : List X) (x : X) → slice_get (xs ++ x ∷ []) (length xs) ≡ Some x
get-last [] x = refl
get-last (z ∷ zs) x = get-last zs x

-- Each place below the length has its process.
pub there_at : (ps : List Process) (k : ℕ) → k < length ps → (p : Process) × (slice_get ps k ≡ Some p)
there_at [] k lt = absurd (omega arith)
there_at (x ∷ xs) zero lt = (x, refl)
there_at (x ∷ xs) (suc k) lt = there_at xs k (omega arith)
