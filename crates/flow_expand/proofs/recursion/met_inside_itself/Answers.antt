use Rattle.std.proofs.Common.{◌≡◌, ℕ, ◌+◌, ◌<◌, List, [], ◌∷◌, ◌++◌, None, Some, suc, length, reverse, replicate, ap, sym, subst, ◌∙◌, arith, rules}
use Rattle.std.specs.Prelude.{slice_set}
use Rattle.std.proofs.lemmas.Grind.{common_steps}
use Rattle.std.proofs.lemmas.List.{length-replicate}
use Rattle.std.proofs.lemmas.Option.{slice_get_within}
use Rattle.flow_parse.specs.declared.value.NetText.{NetText}
use Rattle.flow_expand.specs.declared.recursion.Mark.{Mark}
use Rattle.flow_expand.specs.declared.recursion.Mark.TheVariants.{New, Open, Done}
use Rattle.flow_expand.specs.declared.recursion.Spot.{Spot}
use Rattle.flow_expand.specs.Marks.{LeadsOn, IsNext}
use Rattle.flow_expand.specs.Ways.{part_at}
use Rattle.flow_flat.specs.Subnets.{instances}
use Rattle.flow_expand.proofs.Clean.{Fails}
use Rattle.flow_expand.proofs.Walked.{reverse_push}
use Rattle.flow_expand.proofs.Walks.{Walk, begins, passes_on, ends_main, ends_subnet, ends_again, goes_inside, top_open, all_pass, first_fails, pending, left, forward, less_passed, less_done, less_inside}
use Rattle.flow_expand.proofs.recursion.met_inside_itself.Goals as goal

pub way-init : goal.way-init
way-init c =
    let many : c.len.result ≡ length c.args.text.now.subnets = c.len.ensures ∙ ap (λ (t : NetText). length t.subnets) c.value.ensures in
    let fresh : c.in_ok-marks.marks.items ≡ replicate c.len.result New = c.in_ok-marks.ensures.items_if_clones_equal (λ y same. same) in
    let size : length c.in_ok-marks.marks.items ≡ length c.args.text.now.subnets = ap length fresh ∙ length-replicate c.len.result New ∙ many in
    subst (λ (l : List Spot). Walk c.args.text.now c.in_ok-marks.marks.items (reverse l)) (sym (c.in_ok-push.ensures.items ∙ ap (λ (l : List Spot). l ++ record { subnet = None; next = 0 } ∷ []) c.new-way.ensures.items))
    (begins c.args.text.now c.in_ok-marks.marks.items (fresh ∙ ap (λ (n : ℕ). replicate n New) many) size)

pub way-smaller-in-Some-subnet : goal.way-smaller-in-Some-subnet
way-smaller-in-Some-subnet c = subst (λ (l : List Spot). pending (slice_set c.way.marks.items c.in-Some-subnet.subnet Done) c.args.text.now.subnets + left c.args.text.now (reverse c.pop.new.self.items) < pending c.way.marks.items c.args.text.now.subnets + left c.args.text.now l) (sym (ap reverse c.in-Some.ensures.items ∙ reverse_push c.pop.new.self.items c.in-Some.spot)) (less_done c.args.text.now c.way.marks.items c.in-Some.spot (reverse c.pop.new.self.items) c.in-Some-subnet.subnet (top_open c.args.text.now c.way.marks.items c.in-Some.spot (reverse c.pop.new.self.items) (subst (λ (l : List Spot). Walk c.args.text.now c.way.marks.items l) (ap reverse c.in-Some.ensures.items ∙ reverse_push c.pop.new.self.items c.in-Some.spot) c.way.invariant) c.in-Some-subnet.subnet c.in-Some-subnet.is))

pub way-preserved-in-Some-subnet : goal.way-preserved-in-Some-subnet
way-preserved-in-Some-subnet c = ends_subnet c.args.text.now c.way.marks.items c.in-Some.spot (reverse c.pop.new.self.items) (subst (λ (l : List Spot). Walk c.args.text.now c.way.marks.items l) (ap reverse c.in-Some.ensures.items ∙ reverse_push c.pop.new.self.items c.in-Some.spot) c.way.invariant) c.in-Some-subnet.subnet c.in-Some-subnet.is c.in-Ended.ensures.sees

pub way-preserved-in_default-subnet : goal.way-preserved-in_default-subnet
way-preserved-in_default-subnet c = ends_main c.args.text.now c.way.marks.items c.in-Some.spot (reverse c.pop.new.self.items) (subst (λ (l : List Spot). Walk c.args.text.now c.way.marks.items l) (ap reverse c.in-Some.ensures.items ∙ reverse_push c.pop.new.self.items c.in-Some.spot) c.way.invariant) c.in_default-subnet.is c.in-Ended.ensures.sees

pub overflow_add-spot : goal.overflow_add-spot
overflow_add-spot c = omega (arith, c.seen_next.ensures.few c.in-Passed.is)

pub way-smaller-in_ok-push-in-Passed : goal.way-smaller-in_ok-push-in-Passed
way-smaller-in_ok-push-in-Passed c =
    subst (λ (v : List Spot). pending c.way.marks.items c.args.text.now.subnets + left c.args.text.now v < pending c.way.marks.items c.args.text.now.subnets + left c.args.text.now (reverse c.way.way.items)) (sym (ap reverse c.in_ok-push-in-Passed.ensures.items ∙ reverse_push c.pop.new.self.items (record { subnet = c.in-Some.spot.subnet; next = c.in-Some.spot.next + 1 })))
    (subst (λ (l : List Spot). pending c.way.marks.items c.args.text.now.subnets + left c.args.text.now (forward c.args.text.now c.in-Some.spot ∷ reverse c.pop.new.self.items) < pending c.way.marks.items c.args.text.now.subnets + left c.args.text.now l) (sym (ap reverse c.in-Some.ensures.items ∙ reverse_push c.pop.new.self.items c.in-Some.spot)) (less_passed c.args.text.now c.way.marks.items c.in-Some.spot (reverse c.pop.new.self.items) (slice_get_within (part_at c.args.text.now c.in-Some.spot.subnet).processes c.in-Some.spot.next c.in-Passed.ensures.sees.0 c.in-Passed.ensures.sees.1)))

pub way-preserved-in_ok-push-in-Passed : goal.way-preserved-in_ok-push-in-Passed
way-preserved-in_ok-push-in-Passed c = subst (λ (l : List Spot). Walk c.args.text.now c.way.marks.items l) (sym (ap reverse c.in_ok-push-in-Passed.ensures.items ∙ reverse_push c.pop.new.self.items (record { subnet = c.in-Some.spot.subnet; next = c.in-Some.spot.next + 1 }))) (passes_on c.args.text.now c.way.marks.items c.in-Some.spot (reverse c.pop.new.self.items) (subst (λ (l : List Spot). Walk c.args.text.now c.way.marks.items l) (ap reverse c.in-Some.ensures.items ∙ reverse_push c.pop.new.self.items c.in-Some.spot) c.way.invariant) c.in-Passed.ensures.sees.0 c.in-Passed.ensures.sees.1 (subst (λ (l : List Mark). LeadsOn c.args.text.now l c.in-Passed.ensures.sees.0) c.as_slice.ensures.value c.in-Passed.ensures.sees.2))

pub way-smaller : goal.way-smaller
way-smaller c =
    subst (λ (v : List Spot). pending (slice_set c.way.marks.items c.in-Inside.subnet Open) c.args.text.now.subnets + left c.args.text.now v < pending c.way.marks.items c.args.text.now.subnets + left c.args.text.now (reverse c.way.way.items)) (sym (ap reverse c.in_ok-push-in-Inside-2.ensures.items ∙ reverse_push c.push-in-Inside.new.self.items (record { subnet = Some c.in-Inside.subnet; next = 0 }) ∙ ap (λ (l : List Spot). record { subnet = Some c.in-Inside.subnet; next = 0 } ∷ l) (ap reverse c.in_ok-push-in-Inside.ensures.items ∙ reverse_push c.pop.new.self.items c.in-Some.spot)))
    (subst (λ (l : List Spot). pending (slice_set c.way.marks.items c.in-Inside.subnet Open) c.args.text.now.subnets + left c.args.text.now (record { subnet = Some c.in-Inside.subnet; next = 0 } ∷ c.in-Some.spot ∷ reverse c.pop.new.self.items) < pending c.way.marks.items c.args.text.now.subnets + left c.args.text.now l) (sym (ap reverse c.in-Some.ensures.items ∙ reverse_push c.pop.new.self.items c.in-Some.spot)) (less_inside c.args.text.now c.way.marks.items c.in-Some.spot (reverse c.pop.new.self.items) c.in-Inside.subnet (subst (λ (l : List Mark). IsNext c.args.text.now l c.in-Some.spot c.in-Inside.subnet New) c.as_slice.ensures.value c.in-Inside.ensures.sees)))

pub way-preserved : goal.way-preserved
way-preserved c = subst (λ (l : List Spot). Walk c.args.text.now (slice_set c.way.marks.items c.in-Inside.subnet Open) l) (sym (ap reverse c.in_ok-push-in-Inside-2.ensures.items ∙ reverse_push c.push-in-Inside.new.self.items (record { subnet = Some c.in-Inside.subnet; next = 0 }) ∙ ap (λ (l : List Spot). record { subnet = Some c.in-Inside.subnet; next = 0 } ∷ l) (ap reverse c.in_ok-push-in-Inside.ensures.items ∙ reverse_push c.pop.new.self.items c.in-Some.spot))) (goes_inside c.args.text.now c.way.marks.items c.in-Some.spot (reverse c.pop.new.self.items) (subst (λ (l : List Spot). Walk c.args.text.now c.way.marks.items l) (ap reverse c.in-Some.ensures.items ∙ reverse_push c.pop.new.self.items c.in-Some.spot) c.way.invariant) c.in-Inside.subnet (subst (λ (l : List Mark). IsNext c.args.text.now l c.in-Some.spot c.in-Inside.subnet New) c.as_slice.ensures.value c.in-Inside.ensures.sees))

pub returns-in-Again : goal.returns-in-Again
returns-in-Again c = first_fails c.args.text.now c.in_ok-name_of-in-Again.field-0 (subst (λ (n : List ℕ). Fails (instances c.args.text.now (suc (length c.args.text.now.subnets)) [] [] c.args.text.now.main) n) (sym c.in_ok-name_of-in-Again.ensures) (ends_again c.args.text.now c.way.marks.items c.in-Some.spot (reverse c.pop.new.self.items) (subst (λ (l : List Spot). Walk c.args.text.now c.way.marks.items l) (ap reverse c.in-Some.ensures.items ∙ reverse_push c.pop.new.self.items c.in-Some.spot) c.way.invariant) c.in-Again.subnet (subst (λ (l : List Mark). IsNext c.args.text.now l c.in-Some.spot c.in-Again.subnet Open) c.as_slice.ensures.value c.in-Again.ensures.sees)))

pub returns : goal.returns
returns c =
    let none : c.way.way.items ≡ [] = first_of (search rules, grind (arith, common_steps)) in
    all_pass c.args.text.now (subst (λ (l : List Spot). Walk c.args.text.now c.way.marks.items (reverse l)) none c.way.invariant)
