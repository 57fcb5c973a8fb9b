use Rattle.std.proofs.Common.{◌≡◌, ◌+◌, ◌∷◌, ◌++◌, ◌<◌, ℕ, true, false, [], List, length, Option, None, Bor, Iter, ap, arith, subst, sym, ◌∙◌}
use Rattle.std.proofs.lemmas.Grind.{common_steps}
use Rattle.std.specs.Prelude.{is_some}
use Rattle.std.specs.Slice.Iter.{iter_rest}
use Rattle.std.specs.Vec.Iter.{into_iter_items}
use Rattle.flow_offer.specs.Processes.{IsStandardOrOwn, own_place}
use Rattle.flow_load.specs.Offers.{AnyKind, Taped}
use Rattle.flow_load.specs.Components.{IsPlayedComponent, contents_of}
use Rattle.flow_load.proofs.Placing.{AreMade, TapeTaken, is_own_at, tape_of, none-taken, some-taken, next-left, can-take, one-played, all-played}
use Rattle.flow_load.proofs.components.played_components.Goals as goal
use Rattle.flow_load.proofs.components.played_components.Goals.{in-Some-own_kind, in-None-own_kind}

pub played_component-requires : goal.played_component-requires
played_component-requires c =
    let own = c.args.own.now in
    let plan = c.args.plan.now in
    let tapes = c.args.tapes.now in
    let k = c.loop-bytes.process in
    let i = c.loop-bytes.invariant in
    let bytes = next-left c.args.given.items k c.in-Some.bytes (into_iter_items c.next.new.self) (sym i.given ∙ c.in-Some.ensures.steps.0) in
    let below : k < length plan.processes = omega (arith, bytes.2, c.requires.given) in
    let tells : IsStandardOrOwn own plan k (own_place own plan k) = subst (λ (o : Option ℕ). IsStandardOrOwn own plan k o) c.own_kind.ensures.place c.own_kind.ensures.tells in
    let taken : TapeTaken own plan tapes k c.match-own_kind.tape (iter_rest c.match-own_kind.left) = elim c.match-own_kind.branch [
      | in-Some-own_kind w ↦
          let some : is_own_at own plan k ≡ true = ap (λ (o : Option ℕ). is_some o) (sym c.own_kind.ensures.place ∙ w.in-Some-own_kind.is) in
          let got = some-taken own plan tapes k c.loop-bytes.left w.next-tape.new.self w.next-tape.result c.requires.tapes below some w.next-tape.ensures.steps i.tapes_left in
          subst (λ (t : Option (Bor Taped)). TapeTaken own plan tapes k t (iter_rest c.match-own_kind.left)) (sym w.tape-is)
          (subst (λ (l : Iter Taped). TapeTaken own plan tapes k w.next-tape.result (iter_rest l)) (sym w.left-is) got)
      | in-None-own_kind w ↦
          let none : is_own_at own plan k ≡ false = ap (λ (o : Option ℕ). is_some o) (sym c.own_kind.ensures.place ∙ w.in-None-own_kind.is) in
          let got = none-taken own plan tapes k (iter_rest c.loop-bytes.left) none i.tapes_left in
          subst (λ (t : Option (Bor Taped)). TapeTaken own plan tapes k t (iter_rest c.match-own_kind.left)) (sym w.tape-is)
          (subst (λ (l : Iter Taped). TapeTaken own plan tapes k None (iter_rest l)) (sym w.left-is) got)
    ] in
    can-take own plan k below tells c.match-own_kind.tape taken.there

pub loop-bytes-preserved : goal.loop-bytes-preserved
loop-bytes-preserved c =
    let own = c.args.own.now in
    let plan = c.args.plan.now in
    let tapes = c.args.tapes.now in
    let k = c.loop-bytes.process in
    let i = c.loop-bytes.invariant in
    let bytes = next-left c.args.given.items k c.in-Some.bytes (into_iter_items c.next.new.self) (sym i.given ∙ c.in-Some.ensures.steps.0) in
    let below : k < length plan.processes = omega (arith, bytes.2, c.requires.given) in
    let tells : IsStandardOrOwn own plan k (own_place own plan k) = subst (λ (o : Option ℕ). IsStandardOrOwn own plan k o) c.own_kind.ensures.place c.own_kind.ensures.tells in
    let taken : TapeTaken own plan tapes k c.match-own_kind.tape (iter_rest c.match-own_kind.left) = elim c.match-own_kind.branch [
      | in-Some-own_kind w ↦
          let some : is_own_at own plan k ≡ true = ap (λ (o : Option ℕ). is_some o) (sym c.own_kind.ensures.place ∙ w.in-Some-own_kind.is) in
          let got = some-taken own plan tapes k c.loop-bytes.left w.next-tape.new.self w.next-tape.result c.requires.tapes below some w.next-tape.ensures.steps i.tapes_left in
          subst (λ (t : Option (Bor Taped)). TapeTaken own plan tapes k t (iter_rest c.match-own_kind.left)) (sym w.tape-is)
          (subst (λ (l : Iter Taped). TapeTaken own plan tapes k w.next-tape.result (iter_rest l)) (sym w.left-is) got)
      | in-None-own_kind w ↦
          let none : is_own_at own plan k ≡ false = ap (λ (o : Option ℕ). is_some o) (sym c.own_kind.ensures.place ∙ w.in-None-own_kind.is) in
          let got = none-taken own plan tapes k (iter_rest c.loop-bytes.left) none i.tapes_left in
          subst (λ (t : Option (Bor Taped)). TapeTaken own plan tapes k t (iter_rest c.match-own_kind.left)) (sym w.tape-is)
          (subst (λ (l : Iter Taped). TapeTaken own plan tapes k None (iter_rest l)) (sym w.left-is) got)
    ] in
    let component = c.in_ok-played_component.field-0 in
    let pushed : c.push.new.self.items ≡ c.loop-bytes.components.items ++ component ∷ [] = grind (arith, common_steps) in
    record {
      given_left = omega (arith, c.in-Some.ensures.steps.1, i.given_left);
      given = bytes.1;
      tapes_left = taken.left;
      made = subst (λ (l : List AnyKind). AreMade (λ p bytes component. IsPlayedComponent own plan p bytes (tape_of own plan tapes p) component) (contents_of c.args.given.items) (k + 1) l) (sym pushed)
          (one-played own plan c.args.given.items tapes k c.loop-bytes.components.items c.in-Some.bytes c.match-own_kind.tape (iter_rest c.match-own_kind.left) component tells bytes.0 taken i.made
          c.in_ok-played_component.ensures);
    }

pub returns : goal.returns
returns c =
    let own = c.args.own.now in
    let plan = c.args.plan.now in
    let tapes = c.args.tapes.now in
    let i = c.loop-bytes.invariant in
    let all : c.loop-bytes.process ≡ length plan.processes = omega (arith, i.given_left, c.in-None.ensures.steps.0, c.requires.given) in
    all-played own plan (contents_of c.args.given.items) tapes c.loop-bytes.components.items c.requires.tapes
    (subst (λ (n : ℕ). AreMade (λ p bytes component. IsPlayedComponent own plan p bytes (tape_of own plan tapes p) component) (contents_of c.args.given.items) n c.loop-bytes.components.items) all i.made)
