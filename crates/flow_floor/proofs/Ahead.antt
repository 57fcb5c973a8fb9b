-- The body in hand goes ahead of what the machine has by one pending turn after another, and is what the machine has once they are stamped.
use Rattle.std.proofs.Common.{◌≡◌, ℕ, suc, zero, ◌+◌, ◌-◌, ◌≤◌, ◌⊎◌, inl, inr, List, [], ◌∷◌, ◌++◌, length, length-append, append-nil, append_assoc, take, Option, Some, None, refl, sym, ap, ◌∙◌, subst, arith}
use Rattle.std.specs.List.{range_with_len}
use Rattle.std.proofs.lemmas.List.{length-take-le, take_all, take-append-le}
use Rattle.std.proofs.lemmas.List.FromFn.{length-range_with_len}
use Rattle.flow_packet.specs.Tree.{Tree}
use Rattle.flow_component.specs.Laws.{Rules, held_after as held_by}
use Rattle.flow_component.specs.Resumes.{drops_between, dropped_count}
use Rattle.flow_model.specs.States.{Process}
use Rattle.flow_model.specs.Stages.{IsThoughtStage}
use Rattle.flow_model.specs.Turns.{change_of}
use Rattle.flow_model.specs.Works.{worked}
use Rattle.flow_model.proofs.Stages.{thought-worked}
use Rattle.flow_machine.specs.declared.answers.Thought.{Thought}
use Rattle.flow_machine.specs.FitNets.{FitNet}
use Rattle.flow_machine.specs.Nets.{BodyTurn, levels_told}
use Rattle.flow_machine.specs.Stamps.{restamped}
use Rattle.flow_machine.specs.Thoughts.{KeepsTurns, SameBody, Thinks, WorkedBody}
use Rattle.flow_machine.specs.Values.{BodyValue}
use Rattle.flow_machine.proofs.FitLemmas.{thinks-step}
use Rattle.flow_machine.proofs.Thinking.{keeps-then}
use Rattle.flow_floor.specs.Turning.{turned_body, sending_after, receiving_after, MayChange, Happens}
use Rattle.flow_floor.specs.Law.{Rests}
use Rattle.flow_floor.proofs.Lists.{some_Some}
use Rattle.flow_floor.specs.declared.board.Sending.{Sending}
use Rattle.flow_floor.specs.declared.board.Receiving.{Receiving}
use Rattle.flow_floor.specs.declared.board.View.{View}
use Rattle.flow_floor.specs.InHand.{stamped_from, HasNoneLeft, IsHeldAs, IsPending}
use Rattle.flow_floor.specs.Pending.{May, MayFrom}
use Rattle.flow_floor.specs.Plays.{placed_count, drawn_count}
use Rattle.flow_floor.specs.Views.{Move, all_turned, counting, held_after, moved, stamping, turning}
use Rattle.flow_floor.proofs.Further.{drawn_of, placed_of, GoesFurther, ReceivesFurther, SendsFurther, all-further, counting-further}

-- The numbers from one on, with one more.
range-last : (first count last : ℕ) → first + count ≡ last → range_with_len first (suc count) ≡ range_with_len first count ++ last ∷ []
range-last first zero last is = let same : first ≡ last = omega (arith, is) in ap (λ (n : ℕ). n ∷ []) same
range-last first (suc count) last is = ap (λ (ns : List ℕ). first ∷ ns) (range-last (first + 1) count last (omega (arith, is)))

-- One stamp more at the end is one more that counts on.
restamp-more : (count first stamp : ℕ) (stamps : List ℕ) → count ≤ length stamps → restamped (count + 1) first (stamps ++ stamp ∷ []) ≡ restamped count first stamps ++ (first + count) ∷ []
restamp-more count first stamp stamps few =
    let kept : length (stamps ++ stamp ∷ []) - (count + 1) ≡ length stamps - count = omega (arith, length-append stamps (stamp ∷ [])) in
    let front = take (length stamps - count) stamps in
    let on : count + 1 ≡ suc count = omega arith in
    ap (λ (k : ℕ). take k (stamps ++ stamp ∷ []) ++ range_with_len first (count + 1)) kept
    ∙ ap (λ (ss : List ℕ). ss ++ range_with_len first (count + 1)) (take-append-le (length stamps - count) stamps (stamp ∷ []) (omega arith))
    ∙ ap (λ (ss : List ℕ). front ++ ss) (ap (range_with_len first) on ∙ range-last first count (first + count) refl)
    ∙ sym (append_assoc front (range_with_len first count) ((first + count) ∷ []))

-- Where no stamp is to be given, all stay.
restamp-none : (first : ℕ) (stamps : List ℕ) → restamped 0 first stamps ≡ stamps
restamp-none first stamps = append-nil (take (length stamps - 0) stamps) ∙ take_all (length stamps - 0) stamps (omega arith)

-- A list of no members.
no-members : {A : Type 0} (xs : List A) → length xs ≡ 0 → xs ≡ []
no-members [] none_there = refl
no-members (x ∷ xs) none_there = absurd (omega (arith, none_there))

-- Where nothing was left, what an end has is what it has more.
pub drawn-more : (more : List Tree) (old new : Option Receiving) → drawn_count old ≡ 0 → ReceivesFurther more old new → drawn_of new ≡ more
drawn-more more None new left further = further
drawn-more more (Some old) new left (y, is, here, out, drawn) = ap drawn_of is ∙ drawn ∙ ap (λ (ps : List Tree). ps ++ more) (no-members old.drawn left)

pub placed-more : (more : List Tree) (old new : Option Sending) → placed_count old ≡ 0 → SendsFurther more old new → placed_of new ≡ more
placed-more more None new left further = further
placed-more more (Some old) new left (x, is, here, out, placed, unpublished, learnt) = ap placed_of is ∙ placed ∙ ap (λ (ps : List Tree). ps ++ more) (no-members old.placed left)

count-drawn : (o : Option Receiving) → drawn_count o ≡ length (drawn_of o)
count-drawn None = refl
count-drawn (Some y) = refl

count-placed : (o : Option Sending) → placed_count o ≡ length (placed_of o)
count-placed None = refl
count-placed (Some x) = refl

pub none-drawn : (o : Option Receiving) → drawn_of o ≡ [] → drawn_count o ≡ 0
none-drawn o is = count-drawn o ∙ ap (λ (ps : List Tree). length ps) is

pub none-placed : (o : Option Sending) → placed_of o ≡ [] → placed_count o ≡ 0
none-placed o is = count-placed o ∙ ap (λ (ps : List Tree). length ps) is

module _ {K : Type 0} where
  -- One turn more comes behind the others, with the stamp that follows theirs.
  turned-more : (turns : List (Move K)) (r : ℕ) (w : View K) (t : Move K) → all_turned w r (turns ++ t ∷ []) ≡ turning (all_turned w r turns) (r + length turns) t
  turned-more [] r w t = let same : r ≡ r + 0 = omega arith in ap (λ (s : ℕ). turning w s t) same
  turned-more (u ∷ turns) r w t =
      let same : r + 1 + length turns ≡ r + suc (length turns) = omega arith in
      turned-more turns (r + 1) (turning w r u) t ∙ ap (λ (s : ℕ). turning (all_turned (turning w r u) (r + 1) turns) s t) same

  -- Each turn gives the body that is held one stamp.
  stamps-more : (turns : List (Move K)) (r : ℕ) (v : View K) (p : ℕ) (before after : BodyValue K) → v.held ≡ Some (p, before) → (all_turned v r turns).held ≡ Some (p, after) → length after.stamps ≡ length before.stamps + length turns
  stamps-more [] r v p before after is later =
      let same : before ≡ after = ap (λ (h : ℕ × BodyValue K). h.1) (some_Some (p, before) (p, after) (sym is ∙ later)) in
      omega (arith, ap (λ (b : BodyValue K). length b.stamps) same)
  stamps-more (t ∷ turns) r v p before after is later =
      let next = turned_body t.event r (moved before t.body) in
      omega (arith, stamps-more turns (r + 1) (turning v r t) p next after (ap (held_after t r) is) later, length-append before.stamps (r ∷ []))

module _ {K : Type 0} (rules : Rules K) (n m : ℕ) where
  may-more : (turns : List (Move K)) (r : ℕ) (w : View K) (t : Move K) → MayFrom rules n m w r turns → May rules n m (all_turned w r turns) t → MayFrom rules n m w r (turns ++ t ∷ [])
  may-more [] r w t may last = (last, tt)
  may-more (u ∷ turns) r w t may last = (may.0, may-more turns (r + 1) (turning w r u) t may.1 last)

  same-worked : (a b c : BodyValue K) → SameBody a b → WorkedBody rules b c → WorkedBody rules a c
  same-worked a b c same work = record {
    answer = work.answer;
    outcome = work.outcome;
    told = sym (ap (λ (x : Process K). x.stage) same.process) ∙ work.told;
    comes = subst (λ (x : Process K). rules.next x.component x.held work.answer work.outcome) same.process work.comes;
    process = work.process ∙ ap (λ (x : Process K). worked x work.outcome) same.process;
    dropped = work.dropped ∙ (λ i. dropped_count (same.dropped i) (drops_between (same.process i).held (held_by work.outcome)));
  }

  worked-same : (a b c : BodyValue K) → WorkedBody rules a b → SameBody b c → WorkedBody rules a c
  worked-same a b c work same = record { answer = work.answer; outcome = work.outcome; told = work.told; comes = work.comes; process = same.process ∙ work.process; dropped = same.dropped ∙ work.dropped }

  -- A body whose work is done has no more to come.
  rests-then : (a b c : BodyValue K) → Rests rules a b → Rests rules b c → Rests rules a c
  rests-then a b c first second = (by first.0 second.0, keeps-then a b c first.1 second.1)
    where
      by : SameBody a b ⊎ WorkedBody rules a b → SameBody b c ⊎ WorkedBody rules b c → SameBody a c ⊎ WorkedBody rules a c
      by (inl same) (inl same') = inl (record { process = same'.process ∙ same.process; dropped = same'.dropped ∙ same.dropped })
      by (inl same) (inr work) = inr (same-worked a b c same work)
      by (inr work) (inl same) = inr (worked-same a b c work same)
      by (inr work) (inr again) =
          let thought : IsThoughtStage b.process.stage = subst IsThoughtStage (sym (ap (λ (x : Process K). x.stage) work.process)) (thought-worked a.process work.outcome) in
          absurd (subst IsThoughtStage again.told thought)

  -- The stamps don't matter to a work.
  rests-stamped : (count r : ℕ) (body new : BodyValue K) → Rests rules body new → Rests rules (stamped_from count r body) (stamped_from count r new)
  rests-stamped count r body new rests = (by rests.0, record { stamps = ap (restamped count r) rests.1.stamps; levels = rests.1.levels; leaving = rests.1.leaving })
    where
      by : SameBody body new ⊎ WorkedBody rules body new → SameBody (stamped_from count r body) (stamped_from count r new) ⊎ WorkedBody rules (stamped_from count r body) (stamped_from count r new)
      by (inl same) = inl (record { process = same.process; dropped = same.dropped })
      by (inr work) = inr (record { answer = work.answer; outcome = work.outcome; told = work.told; comes = work.comes; process = work.process; dropped = work.dropped })

  -- A seat that has gone no further by packets has none left either.
  still-none : (v w : View K) → GoesFurther [] [] v w → HasNoneLeft v → HasNoneLeft w
  still-none v w f left = (none-drawn w.receiving (drawn-more [] v.receiving w.receiving left.0 f.receiving), none-placed w.sending (placed-more [] v.sending w.sending left.1 f.sending))

  -- Without a pending turn the body in hand is the one that the machine has, or comes of it by the work that was still to come.
  pub pending-none : (v : View K) (p : ℕ) (body : BodyValue K) → IsHeldAs rules p body v.held → body.leaving ≡ None → HasNoneLeft v → IsPending rules n m v [] p body
  pending-none v p body (before, is, rests) whole left = record {
    may = λ r. tt;
    used = λ r. left;
    whole = whole;
    stamped = omega arith;
    held = λ r. (before, is, subst (Rests rules before) (ap (λ (ss : List ℕ). record body { stamps = ss }) (sym (restamp-none r body.stamps))) rests);
  }

  pub pending-held : (v : View K) (p : ℕ) (body : BodyValue K) → IsPending rules n m v [] p body → IsHeldAs rules p body v.held
  pending-held v p body pending =
      let h = pending.held 0 in
      (h.0, h.1, subst (Rests rules h.0) (ap (λ (ss : List ℕ). record body { stamps = ss }) (restamp-none 0 body.stamps)) h.2)

  -- So it stays while the seat tells of stamped turns, leaves ends, and comes to others.
  pub pending-still : (v w : View K) (p : ℕ) (body : BodyValue K) → IsPending rules n m v [] p body → w.held ≡ v.held → HasNoneLeft w → IsPending rules n m w [] p body
  pending-still v w p body pending held left = let h = pending-held v p body pending in pending-none w p body (h.0, held ∙ h.1, h.2) pending.whole left

  -- The body in hand may think.
  pub pending-rests : (turns : List (Move K)) (v : View K) (p : ℕ) (body new : BodyValue K) → IsPending rules n m v turns p body → Rests rules body new → IsPending rules n m v turns p new
  pending-rests turns v p body new pending rests = record {
    may = pending.may;
    used = pending.used;
    whole = rests.1.leaving ∙ pending.whole;
    stamped = subst (λ (ss : List ℕ). length turns ≤ length ss) (sym rests.1.stamps) pending.stamped;
    held = λ r. (let h = pending.held r in
        (h.0, h.1, rests-then h.0 (stamped_from (length turns) r body) (stamped_from (length turns) r new) h.2 (rests-stamped (length turns) r body new rests)));
  }

  pub pending-thought : (turns : List (Move K)) (v : View K) (p : ℕ) (body new : BodyValue K) (t : Thought) → IsPending rules n m v turns p body → Thinks rules body t new → KeepsTurns body new → IsPending rules n m v turns p new
  pending-thought turns v p body new t pending thinks keeps = pending-rests turns v p body new pending (thinks-step rules body t new thinks, keeps)

  -- The seat may look at levels, come to a sending end, or count a step.
  pub pending-further : (turns : List (Move K)) (v w : View K) (p : ℕ) (body : BodyValue K) → IsPending rules n m v turns p body → GoesFurther [] [] v w → IsPending rules n m w turns p body
  pending-further turns v w p body pending f = record {
    may = λ r. (later r).0;
    used = λ r. still-none (all_turned v r turns) (all_turned w r turns) (later r).1 (pending.used r);
    whole = pending.whole;
    stamped = pending.stamped;
    held = λ r. (let h = pending.held r in (h.0, (later r).1.held ∙ h.1, h.2));
  }
    where
      later : (r : ℕ) → MayFrom rules n m w r turns × GoesFurther [] [] (all_turned v r turns) (all_turned w r turns)
      later r = all-further rules n m [] [] turns r v w f (pending.may r)

  -- Behind these pending turns, whatever stamps they get, the process makes this turn, which tells it no level, and uses what is left.
  pub record IsNext (turns : List (Move K)) (w : View K) (p : ℕ) (t : Move K) : Type 0 where
    pub ends : (r : ℕ) → MayChange (change_of t.event) (all_turned w r turns).sending (all_turned w r turns).receiving
    pub happens : (r : ℕ) → Happens (FitNet rules) n m p (stamped_from (length turns) r t.body) (all_turned w r turns).sending (all_turned w r turns).receiving (all_turned w r turns).seen t.event
    pub untold : (stamp : ℕ) → levels_told t.event stamp ≡ []
    pub used : (r : ℕ) → (drawn_count (receiving_after t.event (all_turned w r turns).receiving) ≡ 0) × (placed_count (sending_after t.event (all_turned w r turns).sending) ≡ 0)

  -- The body in hand makes one turn more, with a stamp that doesn't count, where the seat may have drawn and placed packets for it.
  pub pending-turn : (drawn placed : List Tree) (turns : List (Move K)) (v w : View K) (p stamp : ℕ) (t : Move K) (new : BodyValue K) → IsPending rules n m v turns p t.body → GoesFurther drawn placed v w → IsNext turns w p t → BodyTurn t.body t.event stamp new
      → IsPending rules n m w (turns ++ t ∷ []) p new
  pending-turn drawn placed turns v w p stamp t new pending f next turn = record {
    may = λ r. may-more turns r w t (later r).0 (last r);
    used = λ r. subst HasNoneLeft (sym (turned-more turns r w t)) (next.used r);
    whole = turn.leaving;
    stamped = omega (arith, count, pending.stamped, ap (λ (ss : List ℕ). length ss) turn.stamps, length-append t.body.stamps (stamp ∷ []));
    held = λ r. (turned_body t.event (r + length turns) (moved (pending.held r).0 t.body), after r, rests r);
  }
    where
      count : length (turns ++ t ∷ []) ≡ length turns + 1
      count = length-append turns (t ∷ [])

      later : (r : ℕ) → MayFrom rules n m w r turns × GoesFurther drawn placed (all_turned v r turns) (all_turned w r turns)
      later r = all-further rules n m drawn placed turns r v w f (pending.may r)

      same : (r : ℕ) → stamped_from (length turns) r t.body ≡ moved (pending.held r).0 t.body
      same r = let keeps = (pending.held r).2.1 in λ i. record t.body { stamps = keeps.stamps i; levels = keeps.levels i }

      last : (r : ℕ) → May rules n m (all_turned w r turns) t
      last r = let h = pending.held r in record {
        process = p;
        before = h.0;
        held = (later r).1.held ∙ h.1;
        rests = subst (Rests rules h.0) (same r) h.2;
        ends = next.ends r;
        happens = subst (λ (d : BodyValue K). Happens (FitNet rules) n m p d (all_turned w r turns).sending (all_turned w r turns).receiving (all_turned w r turns).seen t.event) (same r) (next.happens r);
      }

      after : (r : ℕ) → (all_turned w r (turns ++ t ∷ [])).held ≡ Some (p, turned_body t.event (r + length turns) (moved (pending.held r).0 t.body))
      after r = ap (λ (x : View K). x.held) (turned-more turns r w t) ∙ ap (held_after t (r + length turns)) ((later r).1.held ∙ (pending.held r).1)

      rests : (r : ℕ) → Rests rules (turned_body t.event (r + length turns) (moved (pending.held r).0 t.body)) (stamped_from (length (turns ++ t ∷ [])) r new)
      rests r = let h = pending.held r in (
        inl (record { process = turn.process; dropped = turn.dropped }),
        record {
          stamps = ap (λ (ss : List ℕ). restamped (length (turns ++ t ∷ [])) r ss) turn.stamps ∙ ap (λ (k : ℕ). restamped k r (t.body.stamps ++ stamp ∷ [])) count
              ∙ restamp-more (length turns) r stamp t.body.stamps pending.stamped ∙ ap (λ (ss : List ℕ). ss ++ (r + length turns) ∷ []) h.2.1.stamps;
          levels = turn.levels ∙ ap (λ (ls : List (ℕ × ℕ)). t.body.levels ++ ls) (next.untold stamp ∙ sym (next.untold (r + length turns))) ∙ ap (λ (ls : List (ℕ × ℕ)). ls ++ levels_told t.event (r + length turns)) h.2.1.levels;
          leaving = turn.leaving;
        },
      )

  -- The body in hand has as many stamps more than the one that the machine has as turns are pending.
  pub pending-stamps : (turns : List (Move K)) (v : View K) (p : ℕ) (before body : BodyValue K) → IsPending rules n m v turns p body → v.held ≡ Some (p, before) → length body.stamps ≡ length before.stamps + length turns
  pending-stamps turns v p before body pending is =
      let h = pending.held 0 in
      let few = pending.stamped in
      let kept : length (take (length body.stamps - length turns) body.stamps) ≡ length body.stamps - length turns = length-take-le (length body.stamps - length turns) body.stamps (omega arith) in
      let front = take (length body.stamps - length turns) body.stamps in
      let new = range_with_len 0 (length turns) in
      let same : length (front ++ new) ≡ length h.0.stamps = ap (λ (ss : List ℕ). length ss) h.2.1.stamps in
      omega (arith, few, kept, same, length-append front new, length-range_with_len 0 (length turns), stamps-more turns 0 v p before h.0 is h.1)

  -- Once they are stamped, and the body in hand has their stamps, no turn is pending.
  stamped-none : (turns : List (Move K)) (v : View K) (p r : ℕ) (body : BodyValue K) → IsPending rules n m v turns p body → IsPending rules n m (stamping v r turns) [] p (stamped_from (length turns) r body)
  stamped-none turns v p r body pending =
      let f = (all-further rules n m [] [] turns r v (counting v) (counting-further v) (pending.may r)).1 in
      let h = pending.held r in
      pending-none (stamping v r turns) p (stamped_from (length turns) r body) (h.0, f.held ∙ h.1, h.2) pending.whole (still-none (all_turned v r turns) (stamping v r turns) f (pending.used r))

  pub pending-stamped : (turns : List (Move K)) (v w : View K) (p r count : ℕ) (body new : BodyValue K) → IsPending rules n m v turns p body → length turns ≡ count → w ≡ stamping v r turns → new ≡ record body { stamps = restamped count r body.stamps }
      → IsPending rules n m w [] p new
  pending-stamped turns v w p r count body new pending many view stamps =
      let is : new ≡ stamped_from (length turns) r body = stamps ∙ ap (λ (k : ℕ). stamped_from k r body) (sym many) in
      subst (λ (x : View K × BodyValue K). IsPending rules n m x.0 [] p x.1) (λ i. (sym view i, sym is i)) (stamped-none turns v p r body pending)

  -- So the body in hand is then the one that the seat holds, or comes of it by the work that was still to come.
  pub stamped-held : (turns : List (Move K)) (v w : View K) (p r count : ℕ) (body new : BodyValue K) → IsPending rules n m v turns p body → length turns ≡ count → w ≡ stamping v r turns → new ≡ record body { stamps = restamped count r body.stamps } → IsHeldAs rules p new w.held
  stamped-held turns v w p r count body new pending many view stamps = pending-held w p new (pending-stamped turns v w p r count body new pending many view stamps)
