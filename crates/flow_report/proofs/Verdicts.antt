-- The verdict of a report is that on the state.
use Rattle.std.proofs.Common.{◌≡◌, ℕ, suc, ◌==◌, Bool, true, false, List, [], ◌∷◌, length, Option, Some, None, IsSome, refl, sym, ◌∙◌, ap, arith, slice_get}
use Rattle.std.specs.Prelude.{◌&&◌, ◌||◌, not}
use Rattle.std.specs.List.{list_all, list_any}
use Rattle.std.specs.Option.{is_none}
use Rattle.std.proofs.lemmas.Bool.Decides.{nat_tests}
use Rattle.flow_component.specs.declared.Answer.{Answer}
use Rattle.flow_component.specs.Laws.{Rules}
use Rattle.flow_model.specs.declared.Stage.{Stage}
use Rattle.flow_model.specs.declared.Stage.TheVariants as stages
use Rattle.flow_model.specs.declared.Block.{Block}
use Rattle.flow_model.specs.States.{Process, State}
use Rattle.flow_model.specs.Events.{Look, looks, event_from, stage_event}
use Rattle.flow_model.specs.Places.{places}
use Rattle.flow_model.specs.Fit.{Fit}
use Rattle.flow_model.specs.Verdicts.{exact_level, block_of, Quiet}
use Rattle.flow_model.proofs.Blocks.{turn-or-block, block-no_turn}
use Rattle.flow_model.proofs.Lookups.{any-there}
use Rattle.flow_model.specs.Stages.{has_ended, has_failed, IsOverOrOwes}
use Rattle.flow_report.specs.Of.{goes_on, verdict_by}
use Rattle.flow_report.specs.States.{IsVerdict}
use Rattle.flow_report.proofs.Tests.{all-each, any-some, any-none}

has-ended : (stage : Stage) → has_ended stage ≡ true → stage ≡ stages.Ended
has-ended stages.Ended is = refl
has-ended stage is = absurd cc

has-failed : (stage : Stage) → has_failed stage ≡ true → (cause : _) × (stage ≡ stages.Failed cause)
has-failed (stages.Failed cause) is = (cause, refl)
has-failed stage is = absurd cc

-- all have ended where the test says so, and not where it doesn't
ended-all : {K : Type 0} (xs : List (Process K)) → list_all (λ x. has_ended x.stage) xs ≡ true → (k : ℕ) (x : Process K) → slice_get xs k ≡ Some x → x.stage ≡ stages.Ended
ended-all {K} xs is k x there = has-ended x.stage (all-each (λ (y : Process K). has_ended y.stage) xs k x is there)

all-ended : {K : Type 0} (xs : List (Process K)) → ((k : ℕ) (x : Process K) → slice_get xs k ≡ Some x → x.stage ≡ stages.Ended) → list_all (λ x. has_ended x.stage) xs ≡ true
all-ended [] each = refl
all-ended (y ∷ ys) each = let first = each 0 y refl in let rest = all-ended ys (λ k x there. each (suc k) x there) in rw (first, rest) refl

-- some failed where the test says so, and none where it doesn't
failed-some : {K : Type 0} (xs : List (Process K)) → list_any (λ x. has_failed x.stage) xs ≡ true
    → (k : ℕ) × (x : Process K) × (cause : _) × (slice_get xs k ≡ Some x) × (x.stage ≡ stages.Failed cause)
failed-some {K} xs is =
    let found = any-some (λ (y : Process K). has_failed y.stage) xs is in
    let failed = has-failed found.1.stage found.3 in
    (found.0, found.1, failed.0, found.2, failed.1)

some-failed : {K : Type 0} (xs : List (Process K)) (k : ℕ) (x : Process K) (cause : _) → slice_get xs k ≡ Some x → x.stage ≡ stages.Failed cause
    → list_any (λ x. has_failed x.stage) xs ≡ true
some-failed {K} xs k x cause there at = any-there (λ (y : Process K). has_failed y.stage) xs k x there (ap has_failed at)

-- A process that doesn't go on has no turn.
not-going : {K : Type 0} (channels : List Look) (x : Process K) (n : ℕ) → goes_on channels x ≡ false → event_from channels x n ≡ None
not-going {K} channels x n is = by (block_of channels x) refl is
  where
    apart : true ≡ false → ⊥
    apart isn = cc

    over : (stage : Stage) → x.stage ≡ stage → (not (has_ended stage) && not (has_failed stage) && true) ≡ false → stage_event channels x n stage ≡ None
    over stages.Ended at isn = refl
    over (stages.Failed cause) at isn = refl
    over stage at isn = absurd (apart isn)

    by : (b : Option Block) → block_of channels x ≡ b → (not (has_ended x.stage) && not (has_failed x.stage) && is_none b) ≡ false → event_from channels x n ≡ None
    by (Some b) at isn = block-no_turn channels x b n at
    by None at isn = over x.stage refl isn

-- And it has no work that is still to come.
not-owing : {K : Type 0} (channels : List Look) (x : Process K) (answer : Answer) → goes_on channels x ≡ false → x.stage ≡ stages.Told answer → ⊥
not-owing {K} channels x answer is at =
    let goes : goes_on channels x ≡ goes_on channels (record x { stage = stages.Told answer }) = ap (λ (st : Stage). not (has_ended st) && not (has_failed st) && is_none (block_at st)) at in
    let yes : goes_on channels (record x { stage = stages.Told answer }) ≡ true = refl in
    (let bad : true ≡ false = sym yes ∙ sym goes ∙ is in cc)
  where
    block_at : Stage → Option Block
    block_at st = block_of channels (record x { stage = st })

-- The first two parts of a conjunction of three, and the third.
ands : (a b c : Bool) → (a && b && c) ≡ true → (a ≡ true) × (b ≡ true) × (c ≡ true)
ands true true true is = (refl, refl, refl)
ands true true false is = absurd cc
ands true false c is = absurd cc
ands false b c is = absurd cc

-- Where no process goes on, the state is quiet.
quiet-of : {K : Type 0} (s : State K) → list_any (goes_on (looks s.kept.channels)) s.kept.processes ≡ false → Quiet s
quiet-of {K} s none = record {
  thought = λ p x there answer at. not-owing (looks s.kept.channels) x answer (any-none (goes_on (looks s.kept.channels)) s.kept.processes p x none there) at;
  still = λ p x n there. not-going (looks s.kept.channels) x n (any-none (goes_on (looks s.kept.channels)) s.kept.processes p x none there);
}

-- Where some process goes on, it isn't.
running-of : {K : Type 0} (rules : Rules K) (s : State K) → Fit rules s
    → list_any (goes_on (looks s.kept.channels)) s.kept.processes ≡ true → Quiet s → ⊥
running-of {K} rules s fit some quiet =
    let channels = looks s.kept.channels in
    let found = any-some (goes_on channels) s.kept.processes some in
    let p = found.0 in
    let x = found.1 in
    let parts = ands (not (has_ended x.stage)) (not (has_failed x.stage)) (is_none (block_of channels x)) found.3 in
    let blocked = turn-or-block s p x found.2 (fit.all_fit p x found.2).granted fit.valid.senders fit.valid.within (on x.stage (quiet.thought p x found.2) parts.0 parts.1) (quiet.still p x (exact_level channels x) found.2) in
    unblocked (block_of channels x) parts.2 blocked
  where
    on : (stage : Stage) → ((answer : Answer) → stage ≡ stages.Told answer → ⊥) → not (has_ended stage) ≡ true → not (has_failed stage) ≡ true → IsOverOrOwes stage → ⊥
    on stages.Ended thought ended failed over = cc
    on (stages.Failed cause) thought ended failed over = cc
    on (stages.Told answer) thought ended failed over = thought answer refl
    on stage thought ended failed over = over

    unblocked : (b : Option Block) → is_none b ≡ true → IsSome b → ⊥
    unblocked (Some b) none some = cc
    unblocked None none some = absurd cc

-- The verdict by these four tests is that on the state.
pub verdict-tells : {K : Type 0} (rules : Rules K) (s : State K) (ended goes failed : Bool) (left : ℕ) → Fit rules s
    → list_all (λ x. has_ended x.stage) s.kept.processes ≡ ended → list_any (goes_on (looks s.kept.channels)) s.kept.processes ≡ goes
    → list_any (λ x. has_failed x.stage) s.kept.processes ≡ failed → left ≡ length (places s) → IsVerdict s (verdict_by ended goes failed (left == 0))
verdict-tells {K} rules s ended goes failed left fit ended_is goes_is failed_is left_is = by ended ended_is goes goes_is failed failed_is (left == 0) refl
  where
    none : (ids : List ℕ) → length ids ≡ 0 → ids ≡ []
    none [] is = refl
    none (id ∷ ids) is = absurd (omega (arith, is))

    by : (e : Bool) → list_all (λ (x : Process K). has_ended x.stage) s.kept.processes ≡ e → (g : Bool) → list_any (goes_on (looks s.kept.channels)) s.kept.processes ≡ g
        → (f : Bool) → list_any (λ (x : Process K). has_failed x.stage) s.kept.processes ≡ f → (n : Bool) → (left == 0) ≡ n → IsVerdict s (verdict_by e g f n)
    by true e_is g g_is f f_is true n_is = (ended-all s.kept.processes e_is, none (places s) (let h : left ≡ 0 = grind (arith, nat_tests) in sym left_is ∙ h))
    by true e_is g g_is f f_is false n_is = (
      ended-all s.kept.processes e_is,
      λ empty. let h : length (places s) ≡ 0 = ap length empty in let z : left ≡ 0 = left_is ∙ h in let bad : (left == 0) ≡ true = grind (arith, nat_tests) in cc,
    )
    by false e_is true g_is f f_is n n_is = running-of rules s fit g_is
    by false e_is false g_is true f_is n n_is = (quiet-of s g_is, failed-some s.kept.processes f_is)
    by false e_is false g_is false f_is n n_is = (
      quiet-of s g_is,
      λ some. let bad = some-failed s.kept.processes some.0 some.1 some.2 some.3 some.4 in cc,
      λ all. let bad = all-ended s.kept.processes all in cc,
    )
