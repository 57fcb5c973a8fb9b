use Rattle.std.proofs.Common.{◌≡◌, ◌++◌, ◌∷◌, [], List, All, IsTrue, suc, ap, sym, subst, ◌∙◌, append_assoc, arith}
use Rattle.flow_own.specs.Mixed.{Mixed, is_other}
use Rattle.flow_own.proofs.sorted.unmixed.Goals as goal

-- One more was pushed, the first of those that were left.
one-more : {T : Type 0} (before after left rest all : List T) (pushed first : T) → after ≡ before ++ pushed ∷ [] → pushed ≡ first → left ≡ first ∷ rest → before ++ left ≡ all → after ++ rest ≡ all
one-more before after left rest all pushed first push same step was =
    ap (λ l. l ++ rest) push ∙ append_assoc before (pushed ∷ []) rest ∙ ap (λ x. before ++ x ∷ rest) same ∙ ap (λ l. before ++ l) (sym step) ∙ was

rest-all : {T : Type 0} (P : T → Type 0) (first : T) (rest : List T) → All P (first ∷ rest) → All P rest
rest-all P first rest all k d less = all (suc k) d (omega (arith, less))

pub loop-component-preserved : goal.loop-component-preserved
loop-component-preserved g c =
    let step = c.in-Some.ensures.steps.0 in (
      one-more c.loop-component.unmixed.items c.push.new.self.items _ _ c.args.components.items c.into_unmixed.result c.in-Some.component c.in_ok-push.ensures.items c.into_unmixed.ensures step c.loop-component.invariant.0,
      rest-all (λ (m : Mixed _). IsTrue (is_other m)) c.in-Some.component _ (subst (All (λ (m : Mixed _). IsTrue (is_other m))) step c.loop-component.invariant.1),
    )
