-- What a report tells is the same of processes that are alike but for their components.
use Rattle.std.proofs.Common.{◌≡◌, ℕ, ◌+◌, ◌++◌, suc, List, [], ◌∷◌, Option, Some, None, length, Bool, cond, refl, ap, sym, ◌∙◌, option_map}
use Rattle.std.specs.Prelude.{is_some, position, option_and_then}
use Rattle.flow_plan.specs.Network.{Network}
use Rattle.flow_model.specs.declared.Block.{Block}
use Rattle.flow_model.specs.declared.Block.TheVariants as blocks
use Rattle.flow_model.specs.States.{Process, Channel, Past}
use Rattle.flow_model.specs.Events.{looks}
use Rattle.flow_model.specs.Places.{ids_dropped}
use Rattle.flow_model.specs.Verdicts.{IsDeadlock, block_of}
use Rattle.flow_model.specs.Replaced.{with_component}
use Rattle.flow_model.proofs.Lists.{position-cons}
use Rattle.flow_cycle.specs.declared.Waits.{Waits}
use Rattle.flow_cycle.specs.Waiting.{IsWaitingCycle, Follows, waits_by, waits_of, waits_at, lowest_blocked}
use Rattle.flow_report.specs.declared.report.LeftPacket.{LeftPacket}
use Rattle.flow_report.specs.declared.report.Verdict.{Verdict}
use Rattle.flow_report.specs.declared.report.Verdict.TheVariants.{Finished, FinishedLeft, Deadlock, Failed, Running}
use Rattle.flow_report.specs.Of.{told_from, block_told, failure_told, hands_told, named_block}
use Rattle.flow_report.specs.Text.{Told as Report}
use Rattle.flow_report.specs.States.{IsVerdict, TellsWaits, TellsOf, process_in, transit_in}
use Rattle.flow_played.proofs.Alike.{Alike, alike-sym, alike-at, alike-sum, alike-length, block-same, state_with, ended-alike, failed-alike, quiet-alike, places-alike}

-- what is told of each, in order
told-alike : {K L X : Type 0} (tell : ℕ → Process K → List X) (tell' : ℕ → Process L → List X) → ((k : ℕ) (x : Process K) (c : L) → tell' k (with_component x c) ≡ tell k x)
    → (k : ℕ) (xs : List (Process K)) (ys : List (Process L)) → Alike xs ys → told_from tell' k ys ≡ told_from tell k xs
told-alike tell tell' each k [] [] alike = refl
told-alike tell tell' each k [] (y ∷ ys) alike = absurd alike
told-alike tell tell' each k (x ∷ xs) [] alike = absurd alike
told-alike {K} {L} tell tell' each k (x ∷ xs) (y ∷ ys) alike =
    let here = ap (λ (z : Process L). tell' k z) (sym alike.0) ∙ each k x y.component in
    let rest = told-alike tell tell' each (k + 1) xs ys alike.1 in
    λ i. here i ++ rest i

-- for whom each waits
waits-by-same : {K L : Type 0} (plan : Network) (channels : List Channel) (p : ℕ) (x : Process K) (c : L) (block : Block) → waits_by plan channels p (with_component x c) block ≡ waits_by plan channels p x block
waits-by-same plan channels p x c (blocks.Full connection port) = refl
waits-by-same plan channels p x c (blocks.Empty connection port) = refl
waits-by-same plan channels p x c blocks.Dormant = refl

waits-if-same : {K L : Type 0} (plan : Network) (channels : List Channel) (p : ℕ) (x : Process K) (c : L) (block : Option Block)
    → option_and_then (waits_by plan channels p (with_component x c)) block ≡ option_and_then (waits_by plan channels p x) block
waits-if-same plan channels p x c None = refl
waits-if-same plan channels p x c (Some block) = waits-by-same plan channels p x c block

waits-of-same : {K L : Type 0} (plan : Network) (channels : List Channel) (p : ℕ) (x : Process K) (c : L) → waits_of plan channels p (with_component x c) ≡ waits_of plan channels p x
waits-of-same plan channels p x c =
    ap (option_and_then (waits_by plan channels p (with_component x c))) (block-same (looks channels) x c) ∙ waits-if-same plan channels p x c (block_of (looks channels) x)

-- the first process that passes a test
first-alike : {K L : Type 0} (test : Process K → Bool) (test' : Process L → Bool) → ((x : Process K) (c : L) → test' (with_component x c) ≡ test x)
    → (xs : List (Process K)) (ys : List (Process L)) → Alike xs ys → position test' ys ≡ position test xs
first-alike test test' each [] [] alike = refl
first-alike test test' each [] (y ∷ ys) alike = absurd alike
first-alike test test' each (x ∷ xs) [] alike = absurd alike
first-alike {K} {L} test test' each (x ∷ xs) (y ∷ ys) alike =
    let here : test' y ≡ test x = ap test' (sym alike.0) ∙ each x y.component in
    let rest = first-alike test test' each xs ys alike.1 in
    position-cons test' y ys ∙ (λ i. cond {A = Option ℕ} (here i) (Some 0) (option_map suc (rest i))) ∙ sym (position-cons test x xs)

module _ {K L : Type 0} (channels : List Channel) (past : Past) (xs : List (Process K)) (ys : List (Process L)) (alike : Alike xs ys) where
  back : Alike ys xs
  back = alike-sym xs ys alike

  deadlock-alike : IsDeadlock (state_with channels past xs) → IsDeadlock (state_with channels past ys)
  deadlock-alike dead =
      (quiet-alike channels past xs ys alike dead.0, (λ some. dead.1 (failed-alike channels past ys xs back some)), (λ all. dead.2 (ended-alike channels past ys xs back all)))

  verdict-alike : (verdict : Verdict) → IsVerdict (state_with channels past xs) verdict → IsVerdict (state_with channels past ys) verdict
  verdict-alike Finished is = (ended-alike channels past xs ys alike is.0, places-alike channels past xs ys alike ∙ is.1)
  verdict-alike FinishedLeft is = (ended-alike channels past xs ys alike is.0, (λ none. is.1 (sym (places-alike channels past xs ys alike) ∙ none)))
  verdict-alike Deadlock is = deadlock-alike is
  verdict-alike Failed is = (quiet-alike channels past xs ys alike is.0, failed-alike channels past xs ys alike is.1)
  verdict-alike Running is = λ quiet. is (quiet-alike channels past ys xs back quiet)

  waits-alike : (plan : Network) (p : ℕ) → waits_at plan (state_with channels past ys).kept p ≡ waits_at plan (state_with channels past xs).kept p
  waits-alike plan p = alike-at (option_and_then (waits_of plan channels p)) (option_and_then (waits_of plan channels p)) refl (waits-of-same plan channels p) xs ys alike p

  follows-alike : (plan : Network) (p : ℕ) (waits : List Waits) (to : ℕ) → Follows plan (state_with channels past xs).kept p waits to → Follows plan (state_with channels past ys).kept p waits to
  follows-alike plan p [] to follows = follows
  follows-alike plan p (w ∷ waits) to follows = (waits-alike plan p ∙ follows.0, follows-alike plan w.to waits to follows.1)

  lowest-alike : lowest_blocked (state_with channels past ys).kept ≡ lowest_blocked (state_with channels past xs).kept
  lowest-alike = first-alike (λ x. is_some (block_of (looks channels) x)) (λ x. is_some (block_of (looks channels) x)) (λ x c. ap is_some (block-same (looks channels) x c)) xs ys alike

  cycle-alike : (plan : Network) (waits : List Waits) → IsWaitingCycle plan (state_with channels past xs).kept waits → IsWaitingCycle plan (state_with channels past ys).kept waits
  cycle-alike plan waits cycle = record {
    lowest = cycle.lowest;
    is_lowest = lowest-alike ∙ cycle.is_lowest;
    way = cycle.way;
    entry = cycle.entry;
    leads = follows-alike plan cycle.lowest cycle.way cycle.entry cycle.leads;
    back = follows-alike plan cycle.entry waits cycle.entry cycle.back;
    some = cycle.some;
    once = cycle.once;
  }

module _ {K L : Type 0} (channels : List Channel) (past : Past) (xs : List (Process K)) (ys : List (Process L)) (alike : Alike xs ys) where
  tells-alike : (plan : Network) (waits : List Waits) → TellsWaits plan (state_with channels past xs) waits → TellsWaits plan (state_with channels past ys) waits
  tells-alike plan waits tells = record {
    cycle = λ dead. cycle-alike channels past xs ys alike plan waits (tells.cycle (deadlock-alike channels past ys xs (alike-sym xs ys alike) dead));
    none = λ no. tells.none (λ dead. no (deadlock-alike channels past xs ys alike dead));
  }

  -- A report that tells of the one tells of the other.
  pub report-alike : (plan : Network) (told : Report) → TellsOf plan (state_with channels past xs) told → TellsOf plan (state_with channels past ys) told
  report-alike plan told tells = record {
    verdict = verdict-alike channels past xs ys alike told.verdict tells.verdict;
    processes = tells.processes ∙ sym (told-alike (process_in plan past.dropped) (process_in plan past.dropped) (λ k x c. refl) 0 xs ys alike);
    connections = tells.connections;
    blocked = tells.blocked ∙ sym (told-alike (block_told plan (looks channels)) (block_told plan (looks channels)) (λ k x c. ap (named_block plan k) (block-same (looks channels) x c)) 0 xs ys alike);
    waits = tells-alike plan told.waits tells.waits;
    failed = tells.failed ∙ sym (told-alike (failure_told plan) (failure_told plan) (λ k x c. refl) 0 xs ys alike);
    left = tells.left ∙ ap (λ (packets : List LeftPacket). packets ++ told_from transit_in 0 channels) (sym (told-alike hands_told hands_told (λ k x c. refl) 0 xs ys alike));
    each_place = tells.each_place ∙ sym (places-alike channels past xs ys alike);
    turns = tells.turns ∙ sym (alike-sum (λ x. x.turns) (λ y. y.turns) (λ x c. refl) xs ys alike);
    made = tells.made ∙ sym (alike-sum (λ x. x.held.made) (λ y. y.held.made) (λ x c. refl) xs ys alike);
    dropped = tells.dropped ∙ ap (λ (n : ℕ). length (ids_dropped past.dropped n)) (sym (alike-length xs ys alike));
    adds_up = tells.adds_up;
  }
