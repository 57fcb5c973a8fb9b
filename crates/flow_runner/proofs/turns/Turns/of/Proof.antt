-- `of` makes a value of no bytes, whose ghost field is what the clause says.
use Rattle.std.proofs.Common.{ℕ, List, [], ◌∷◌, ◌++◌, refl}
use mir.Syntax.{Fn, Args, a_type, dcons, dnil}
use mir.Val.{Val, vptr, vstruct, vnil}
use mir.MapTy.{inst_fn}
use base.Logic.{SProp}
use base.Fml.{Fml}
use prog.Wp.{WpFn}
use contract.Running.{tables}
use types.Kit.{‵, raw, ◌⊛◌, prop, ◌$◌, ◌∵◌, !, qed, move, keep, split, join, regoal, fjoin, use0, suffices, done}
use types.Part.{agg}
use types.Run.{no_more, returns, enter}
use types.ByLocal.{alloc_all, pass_all, free_all, look_at, sets}
use denote.Exit.{yes}
use denote.RattleType.{owns}
use denote.Param.{bounded}
use denote.Shadow.{makes_shadow}
use denote.Builtin.{unit}
use denote.Signature.{Slot, plain, types_at, type_at}
use denote.Steps.{nothing}
use denote.Triple.Entry.{Res, alive}
use denote.Triple.Walked.{says, Stays, stay_dropped, walk_of, ends_at, Goes-dropped}
use Rattle.std.proofs.raw_atomic.Walks.{proved_at}
use Rattle.flow_runner.specs.Crews.{made_each}
use Rattle.flow_runner.specs.contracts.turns.Turns.of.{ended, clauses}
use Rattle.flow_runner.specs.contracts.turns.Turns.of.Key.{name as #self}
use Rattle.flow_runner.proofs.turns.Turns.of.Statement.{statement}
use Rattle.flow_runner.proofs.turns.Turns.of.Code as compiled

-- what is passed
abbrev first : {n : ℕ} → List (Slot n) → Slot n
first [] = plain (λ _. unit)
first (s ∷ ss) = s

pub of_spec : {M : Type 1} → statement M
of_spec 𝓤 𝓛 𝓜 𝓡 wired K L g d dd met md =
    let H = 𝓛.H in
    let S = ended K g d dd in
    let c = clauses K g d dd 𝓛 𝓜.mem 𝓡.returns in
    let args : Args = bounded (a_type ∷ []) (K, tt) (dcons d (dcons dd dnil)) in
    let fn : Fn = inst_fn args compiled.function in
    let stays : Stays S.signature.params S.kept = (stay_dropped (first S.signature.params) yes, tt) in
    let C = (tables 𝓤 H 𝓜 𝓡 𝓡.env).C in
    let Λ = (tables 𝓤 H 𝓜 𝓡 𝓡.env).Λ in
    proved_at 𝓛 S stays c 𝓜 𝓡 (Goes-dropped 𝓛 2 (first S.signature.params) yes (λ κs x f. refl), tt) (#self args) fn (compiled.unfolded 𝓤 H 𝓜 𝓡 wired (K, tt) d dd) (λ z are.
    let Post : Val → SProp 𝓤 = (walk_of 𝓛 S stays c).post z in
    let a = z.0.3 in
    let at = a.0.ref_ptr in
    let v : Val = vstruct vnil in
    let r : Res S.signature z.0.0 = record { each = made_each a.0.now.items } in
    let O : Fml = (type_at S.signature.result z.0.0).own_val r (v ∷ []) in
    qed 𝓛 ((raw (alive 𝓛 S.signature z.0.0 z.0.1) ⊛ ‵ (owns (types_at S.signature.params z.0.0) a z.0.4)) ∷ raw ((c z.0.0 a).requires z.1) ∷ []) ∵ split ! $ keep ! (0 ∷ []) $
    regoal ! (λ (us : List Val). prop (WpFn 𝓤 H C Λ fn us Post)) (λ i. are.0.0 i ++ []) refl $
    enter ! C Λ fn (vptr at.0 at.1 ∷ []) Post $ alloc_all ! (λ l. pass_all ! refl ((tt, tt), tt) $
    sets ! (agg ! (no_more !)) refl (tt, tt) $
    returns ! (look_at ! 0 refl) $ free_all ! refl $
    use0 𝓛 (‵ O) (makes_shadow 𝓛 O ((λ vss. (tt, tt)), tt) ((tt, (refl, tt)), tt)) $
    suffices ! _ (ends_at 𝓛 S stays c z v r (tt, tt) (tt, tt)) $ says ! refl $
    nothing ! $ nothing ! $ fjoin ! $ join ! $ move ! (1 ∷ 0 ∷ []) $ join ! $ done !))
