-- Open senders are those that still have to close, or that a failed process leaves open: at the start, and after every turn and work.
use Rattle.std.proofs.Common.{◌≡◌, ◌≢◌, ℕ, ◌+◌, ◌<◌, ◌≤◌, List, [], ◌∷◌, length, Some, None, true, false, refl, ap, arith, nat_eq, Option, ◌∙◌, sym, Bool, cond, ◌||◌, slice_get, slice_set, get_or, subst, map, suc, zero, ◌⊎◌, inl, inr, IsTrue, position}
use Rattle.std.specs.List.{list_any, range_with_len}
use Rattle.std.proofs.lemmas.Bool.Decides.{nat_tests}
use Rattle.std.proofs.lemmas.List.Quantifiers.{position-Some}
use Rattle.std.proofs.lemmas.Option.{slice_get_within, slice_get-get_or, get_or_from_slice_get}
use Rattle.flow_packet.proofs.Trees.{position-None}
use Rattle.flow_component.specs.Laws.{Rules, Outcome}
use Rattle.flow_model.specs.declared.Stage.{Stage}
use Rattle.flow_model.specs.declared.Stage.TheVariants as stages
use Rattle.flow_model.specs.States.{is_sender, without_sender, Process, Channel, State, Outlet, outlets, outlets_from, changed}
use Rattle.flow_plan.specs.declared.plan.Sender.{Sender}
use Rattle.flow_model.specs.Events.{Event, Closes, looks, event_of}
use Rattle.flow_model.specs.Turns.{process_after, channel_after, channels_after, closing, Turn, Taken, Added, Closed, Change, change_of}
use Rattle.flow_model.specs.Works.{worked, Work}
use Rattle.flow_model.specs.Plans.{sends_at, process_at_start, processes_at_start, start_of, StartsWell}
use Rattle.flow_plan.specs.Network.{Network as Plan}
use Rattle.flow_plan.specs.declared.plan.Process.{Process as PlanProcess}
use Rattle.flow_plan.specs.declared.plan.Connection.{Connection as PlanConnection}
use Rattle.flow_plan.specs.Valid.{IsWired}
use Rattle.flow_model.specs.Stages.{HasToClose, IsFailedStage}
use Rattle.flow_model.specs.Valid.{IsOpenSender, IsLeftOpen, AllDifferent, OpenSendersTell, EndedLeftClosed}
use Rattle.flow_model.proofs.Lists.{slice_get-set_same, slice_get-set_other, same_or_not}
use Rattle.flow_model.proofs.Order.{outputs-after, outputs-worked}
use Rattle.flow_model.proofs.Senders.{both-true, SendersOpen-turn, SendersOpen-work}
use Rattle.flow_model.proofs.Start.{start-channel, start-senders}
use Rattle.flow_model.proofs.Stages.{closing-elim, worked-elim, after-turn, failed-still, same-found}
use Rattle.flow_model.proofs.Changes.{get-one}

-- two senders that pass the test are the same
same-sender : (a b : Sender) → is_sender a b ≡ true → a ≡ b
same-sender a b t = let e = both-true a.process b.process a.output b.output t in λ i. record { process = e.0 i; output = e.1 i }

or-right : (b c : Bool) → IsTrue c → IsTrue (b || c)
or-right true c is = refl
or-right false c is = is

or-map : (b c d : Bool) → (IsTrue c → IsTrue d) → IsTrue (b || c) → IsTrue (b || d)
or-map true c d f is = refl
or-map false c d f is = f is

or-false : (b c : Bool) → b ≡ false → IsTrue (b || c) → IsTrue c
or-false true c t is = absurd (cc)
or-false false c t is = is

still-step : (p : Sender → Bool) (s : Sender) (senders fewer : List Sender) (same : Bool) → (IsTrue (list_any p fewer) → IsTrue (list_any p senders)) → IsTrue (list_any p (cond same senders (s ∷ fewer))) → IsTrue (p s || list_any p senders)
still-step p s senders fewer true rest is = or-right (p s) (list_any p senders) is
still-step p s senders fewer false rest is = or-map (p s) (list_any p fewer) (list_any p senders) rest is

-- one that is open without another is open
still-open : (t sender : Sender) (senders : List Sender) → IsOpenSender sender (without_sender t senders) → IsOpenSender sender senders
still-open t sender [] is = is
still-open t sender (s ∷ senders) is = still-step (is_sender sender) s senders (without_sender t senders) (is_sender t s) (still-open t sender senders) is

gone-step : (t s : Sender) (senders fewer : List Sender) (same : Bool) → is_sender t s ≡ same → (IsOpenSender s senders → ⊥) → (IsOpenSender t fewer → ⊥) → IsTrue (list_any (is_sender t) (cond same senders (s ∷ fewer))) → ⊥
gone-step t s senders fewer true h unlike rest is = unlike (subst (λ (u : Sender). IsOpenSender u senders) (same-sender t s h) is)
gone-step t s senders fewer false h unlike rest is = rest (or-false (is_sender t s) (list_any (is_sender t) fewer) h is)

-- a sender that has closed isn't open
closed-gone : (t : Sender) (senders : List Sender) → AllDifferent senders → IsOpenSender t (without_sender t senders) → ⊥
closed-gone t [] different is = cc
closed-gone t (s ∷ senders) different is = gone-step t s senders (without_sender t senders) (is_sender t s) refl different.0 (closed-gone t senders different.1) is

different-step : (s : Sender) (senders fewer : List Sender) (same : Bool) → AllDifferent senders → (IsOpenSender s fewer → ⊥) → AllDifferent fewer → AllDifferent (cond same senders (s ∷ fewer))
different-step s senders fewer true all unlike rest = all
different-step s senders fewer false all unlike rest = (unlike, rest)

-- without a sender the others are still all different
different-without : (t : Sender) (senders : List Sender) → AllDifferent senders → AllDifferent (without_sender t senders)
different-without t [] different = tt
different-without t (s ∷ senders) different =
    different-step s senders (without_sender t senders) (is_sender t s) different.1 (λ is. different.0 (still-open t s senders is)) (different-without t senders different.1)

-- where the channels stand after a turn, and which they were
pub record WasChannel (channels : List Channel) (p : ℕ) (e : Event) (c : ℕ) (channel : Channel) : Type 0 where
  pub old : Channel
  pub there : slice_get channels c ≡ Some old
  pub still : (sender : Sender) → IsOpenSender sender channel.open_senders → IsOpenSender sender old.open_senders
  pub different : AllDifferent old.open_senders → AllDifferent channel.open_senders

was-channel : (channels : List Channel) (p : ℕ) (e : Event) (c : ℕ) (channel : Channel) → slice_get (channels_after channels p e) c ≡ Some channel → WasChannel channels p e c channel
was-channel channels p e c channel is =
    let was = get-one (channel_after p) channels (change_of e) c channel is in
    elim was.2 [
      | inl same ↦ record { old = was.0; there = was.1; still = λ sender goes. subst (λ (ch : Channel). IsOpenSender sender ch.open_senders) same goes; different = λ all. subst (λ (ch : Channel). AllDifferent ch.open_senders) (sym same) all }
      | inr change ↦ record {
        old = was.0;
        there = was.1;
        still = λ sender goes. still change.0.change was.0 sender (subst (λ (ch : Channel). IsOpenSender sender ch.open_senders) change.3 goes);
        different = λ all. subst (λ (ch : Channel). AllDifferent ch.open_senders) (sym change.3) (different change.0.change was.0 all);
      }
    ]
  where
    still : (change : Change) (x : Channel) (sender : Sender) → IsOpenSender sender (channel_after p change x).open_senders → IsOpenSender sender x.open_senders
    still Taken x sender goes = goes
    still (Added packet) x sender goes = goes
    still (Closed output) x sender goes = still-open (record { process = p; output = output }) sender x.open_senders goes

    different : (change : Change) (x : Channel) → AllDifferent x.open_senders → AllDifferent (channel_after p change x).open_senders
    different Taken x all = all
    different (Added packet) x all = all
    different (Closed output) x all = different-without (record { process = p; output = output }) x.open_senders all

-- after a close the sender that closed isn't open there
closed-there : (channels : List Channel) (p output d : ℕ) (channel : Channel) → ((x : Channel) → slice_get channels d ≡ Some x → AllDifferent x.open_senders) → slice_get (channels_after channels p (Closes output d)) d ≡ Some channel
    → IsOpenSender (record { process = p; output = output }) channel.open_senders → ⊥
closed-there channels p output d channel once is = by (slice_get channels d) refl is
  where
    t : Sender
    t = record { process = p; output = output }

    by : (found : Option Channel) → slice_get channels d ≡ found → slice_get (changed channels d (channel_after p (Closed output)) found) d ≡ Some channel → IsOpenSender (record { process = p; output = output }) channel.open_senders → ⊥
    by None there is goes = let h : None ≡ Some channel = sym there ∙ is in cc
    by (Some x) there is goes =
        let h : Some (channel_after p (Closed output) x) ≡ Some channel = sym (slice_get-set_same channels d x (channel_after p (Closed output) x) there) ∙ is in
        let after : channel_after p (Closed output) x ≡ channel = cc in
        closed-gone (record { process = p; output = output }) x.open_senders (once x there) (subst (λ (ch : Channel). IsOpenSender (record { process = p; output = output }) ch.open_senders) (sym after) goes)

-- It has to close this output, or it failed.
abbrev Leaves : Stage → ℕ → Type 0
Leaves stage j = HasToClose stage j ⊎ IsFailedStage stage

-- a turn doesn't close this outlet
abbrev NotClosed : {K : Type 0} → List Channel → Process K → ℕ → Event → ℕ → Type 0
NotClosed {K} channels x n (Closes output c) j = (i : ℕ) → x.stage ≡ stages.Closing i → slice_get (outlets x) i ≡ Some (let o : Outlet = record { output = output; connection = c } in o) → j ≢ i
NotClosed channels x n event j = Unit {0}

-- after a turn that doesn't close this outlet, it is still to be closed, or the process has failed
leaves-after : {K : Type 0} (channels : List Channel) (x : Process K) (n : ℕ) (e : Event) (j : ℕ) → event_of channels x n ≡ Some e → j < length (outlets x) → NotClosed channels x n e j → HasToClose x.stage j → Leaves (process_after x e).stage j
leaves-after channels x n e j is within spared has = after-turn channels x n e is (λ f _ stage. NotClosed channels x n f j → Leaves stage j) (λ _. inr tt) (λ h _ _. inl tt) (λ _ _. inl tt) (λ c packet _ _. inl tt)
    (λ _ _. goes-on 0 (omega arith))
    (λ output c at spared. (let least : at.i ≤ j = subst (λ (st : Stage). HasToClose st j) at.stage has in
    let ne : j ≢ at.i = spared at.i at.stage at.outlet in
    goes-on (at.i + 1) (omega (arith, least, ne))))
    spared
  where
    -- one that goes on closing at i still has to close each outlet from there on
    goes-on : (i : ℕ) → i ≤ j → Leaves (closing x i) j
    goes-on i least = closing-elim (λ stage. Leaves stage j) x i (λ _. inl least) (λ past. absurd (omega (arith, past, least, within)))

leaves-worked : {K : Type 0} (x : Process K) (outcome : Outcome K) (j : ℕ) → Leaves (worked x outcome).stage j
leaves-worked x outcome j = worked-elim (λ stage. Leaves stage j) x outcome (λ cause. inr tt) (λ wish. inl tt)

-- what is left open stays so where another process changes
left-other : {K : Type 0} (processes : List (Process K)) (p : ℕ) (y : Process K) (sender : Sender) (c : ℕ) → sender.process ≢ p → IsLeftOpen processes sender c → IsLeftOpen (slice_set processes p y) sender c
left-other processes p y sender c ne left = record {
  process = left.process;
  there = slice_get-set_other processes p sender.process y ne ∙ left.there;
  place = left.place;
  outlet = left.outlet;
  left = left.left;
}

-- and where its own process changes and leaves it so
left-own : {K : Type 0} (processes : List (Process K)) (p : ℕ) (x y : Process K) (sender : Sender) (c : ℕ) → slice_get processes p ≡ Some x → sender.process ≡ p → (left : IsLeftOpen processes sender c) → y.outputs ≡ x.outputs → (left.process ≡ x)
    → Leaves y.stage left.place → IsLeftOpen (slice_set processes p y) sender c
left-own {K} processes p x y sender c there same left outputs is leaves = record {
  process = y;
  there = ap (slice_get (slice_set processes p y)) same ∙ slice_get-set_same processes p x y there;
  place = left.place;
  outlet = ap (λ (os : List (Option ℕ)). slice_get (outlets_from 0 os) left.place) (outputs ∙ ap (λ (w : Process K). w.outputs) (sym is)) ∙ left.outlet;
  left = leaves;
}

not-closed : {K : Type 0} (channels : List Channel) (x : Process K) (n p : ℕ) (e : Event) (sender : Sender) (c : ℕ) (channel : Channel) (place : ℕ) → ((d : ℕ) (ch : Channel) → slice_get channels d ≡ Some ch → AllDifferent ch.open_senders)
    → sender.process ≡ p → slice_get (channels_after channels p e) c ≡ Some channel → IsOpenSender sender channel.open_senders → slice_get (outlets x) place ≡ Some (let o : Outlet = record { output = sender.output; connection = c } in o)
    → NotClosed channels x n e place
not-closed channels x n p (Closes output d) sender c channel place once same is goes outlet = λ i stage at eq.
    (let sender_outlet : Outlet = record { output = sender.output; connection = c } in
    let closed_outlet : Outlet = record { output = output; connection = d } in
    let both : Some sender_outlet ≡ Some closed_outlet = sym outlet ∙ ap (slice_get (outlets x)) eq ∙ at in
    let outlets_same : sender_outlet ≡ closed_outlet = cc in
    let output_same : sender.output ≡ output = ap (λ (o : Outlet). o.output) outlets_same in
    let connection_same : c ≡ d = ap (λ (o : Outlet). o.connection) outlets_same in
    let t : Sender = record { process = p; output = output } in
    let sender_same : sender ≡ t = λ k. record { process = same k; output = output_same k } in
    closed-there channels p output d channel (once d) (ap (slice_get (channels_after channels p (Closes output d))) (sym connection_same) ∙ is) (subst (λ (u : Sender). IsOpenSender u channel.open_senders) sender_same goes))
not-closed channels x n p e sender c channel place once same is goes outlet = tt

-- a turn keeps it
pub OpenSendersTell-turn : {K : Type 0} (s : State K) (p : ℕ) (event : Event) (s' : State K) → Turn s p event s' → OpenSendersTell s.kept → OpenSendersTell s'.kept
OpenSendersTell-turn {K} s p event s' turn old =
    let x = turn.kept.before in
    let y = process_after x event in
    record {
      all = SendersOpen-turn s p event s' turn old.all;
      once = λ c channel is. (let was = was-channel s.kept.channels p event c channel (ap (λ (chs : List Channel). slice_get chs c) (sym turn.kept.channels) ∙ is) in was.different (old.once c was.old was.there));
      only = λ c channel sender is goes.
          (let is' : slice_get (channels_after s.kept.channels p event) c ≡ Some channel = ap (λ (chs : List Channel). slice_get chs c) (sym turn.kept.channels) ∙ is in
          let was = was-channel s.kept.channels p event c channel is' in
          let left = old.only c was.old sender was.there (was.still sender goes) in
          subst (λ (ps : List (Process K)). IsLeftOpen ps sender c) (sym turn.kept.processes) (elim (same_or_not sender.process p) [
            | inr ne ↦ left-other s.kept.processes p y sender c ne left
            | inl same ↦ (let found : Some left.process ≡ Some x = sym left.there ∙ ap (slice_get s.kept.processes) same ∙ turn.kept.there in
                let here : left.process ≡ x = same-found found in
                let outlet : slice_get (outlets x) left.place ≡ Some (let o : Outlet = record { output = sender.output; connection = c } in o) = ap (λ (w : Process K). slice_get (outlets w) left.place) (sym here) ∙ left.outlet in
                let spared = not-closed s.kept.channels x turn.kept.level p event sender c channel left.place old.once same is' goes outlet in
                let within = slice_get_within (outlets x) left.place _ outlet in
                let leaves : Leaves x.stage left.place = subst (λ (w : Process K). Leaves w.stage left.place) here left.left in
                left-own s.kept.processes p x y sender c turn.kept.there same left (outputs-after x event) here
                (after leaves (λ has. leaves-after s.kept.channels x turn.kept.level event left.place turn.kept.happens within spared has) (failed-still (looks s.kept.channels) x turn.kept.level event x.stage turn.kept.happens)))
          ]));
    }
  where
    after : {A B C : Type 0} → A ⊎ B → (A → C) → (B → ⊥) → C
    after (inl a) f g = f a
    after (inr b) f g = absurd (g b)

-- a work keeps it
pub OpenSendersTell-work : {K : Type 0} (rules : Rules K) (s : State K) (p : ℕ) (s' : State K) → Work rules s p s' → OpenSendersTell s.kept → OpenSendersTell s'.kept
OpenSendersTell-work {K} rules s p s' work old =
    let x = work.before in
    let y = worked x work.outcome in
    record {
      all = SendersOpen-work rules s p s' work old.all;
      once = λ c channel is. old.once c channel (ap (λ (chs : List Channel). slice_get chs c) (sym work.kept.channels) ∙ is);
      only = λ c channel sender is goes.
          (let left = old.only c channel sender (ap (λ (chs : List Channel). slice_get chs c) (sym work.kept.channels) ∙ is) goes in
          subst (λ (ps : List (Process K)). IsLeftOpen ps sender c) (sym work.kept.processes) (elim (same_or_not sender.process p) [
            | inr ne ↦ left-other s.kept.processes p y sender c ne left
            | inl same ↦ (let found : Some left.process ≡ Some x = sym left.there ∙ ap (slice_get s.kept.processes) same ∙ work.kept.there in
                left-own s.kept.processes p x y sender c work.kept.there same left (outputs-worked x work.outcome) (same-found found) (leaves-worked x work.outcome left.place))
          ]));
    }

-- what has closed its outputs by its end left them closed
pub ended-closed : {K : Type 0} (s : State K) → OpenSendersTell s.kept → EndedLeftClosed s.kept
ended-closed {K} s tell p j x outlet channel there ended at is goes =
    let left = tell.only outlet.connection channel (record { process = p; output = outlet.output }) is goes in
    let here : left.process ≡ x = same-found (sym left.there ∙ there) in
    let stage : left.process.stage ≡ stages.Ended = ap (λ (w : Process K). w.stage) here ∙ ended in
    none left.place (subst (λ (st : Stage). Leaves st left.place) stage left.left)
  where
    none : (j : ℕ) → Leaves stages.Ended j → ⊥
    none j (inl has) = has
    none j (inr failed) = failed

-- an open sender stands somewhere in the list
pub open-place : (sender : Sender) (senders : List Sender) → IsOpenSender sender senders → (k : ℕ) × (slice_get senders k ≡ Some sender)
open-place sender [] is = absurd (cc)
open-place sender (s ∷ senders) is = by (is_sender sender s) refl is (open-place sender senders)
  where
    by : (b : Bool) → is_sender sender s ≡ b → IsTrue (b || list_any (is_sender sender) senders) → (IsTrue (list_any (is_sender sender) senders) → (k : ℕ) × (slice_get senders k ≡ Some sender)) → (k : ℕ) × (slice_get (s ∷ senders) k ≡ Some sender)
    by true t h rest = (0, ap (λ (u : Sender). Some u) (sym (same-sender sender s t)))
    by false t h rest = let more = rest h in (suc more.0, more.1)

sender-is : (s : Sender) → is_sender s s ≡ true
sender-is s = let a : nat_eq s.process s.process ≡ true = grind (arith, nat_tests) in let b : nat_eq s.output s.output ≡ true = grind (arith, nat_tests) in rw (a, b) refl

place-open : (sender : Sender) (senders : List Sender) (k : ℕ) → slice_get senders k ≡ Some sender → IsOpenSender sender senders
place-open sender [] k is = absurd (cc)
place-open sender (s ∷ senders) zero is = let same : s ≡ sender = same-found is in let t : is_sender sender s ≡ true = ap (is_sender sender) same ∙ sender-is sender in rw t refl
place-open sender (s ∷ senders) (suc k) is = or-right (is_sender sender s) (list_any (is_sender sender) senders) (place-open sender senders k is)

-- a list in which no sender has two places has none twice
places-different : (senders : List Sender) → ((k l : ℕ) (s : Sender) → slice_get senders k ≡ Some s → slice_get senders l ≡ Some s → k ≡ l) → AllDifferent senders
places-different [] once = tt
places-different (s ∷ senders) once = (
  (λ goes. (let at = open-place s senders goes in let same = once 0 (suc at.0) s refl at.1 in omega (arith, same))),
  places-different senders (λ k l t is at. (let same = once (suc k) (suc l) t is at in omega (arith, same))),
)

-- the connected output of an output that has a connection
outlet-found : (k : ℕ) (os : List (Option ℕ)) (m c : ℕ) → slice_get os m ≡ Some (Some c) → (j : ℕ) × (slice_get (outlets_from k os) j ≡ Some (let o : Outlet = record { output = k + m; connection = c } in o))
outlet-found k [] m c is = absurd (cc)
outlet-found k (Some d ∷ os) zero c is = (0, (let h : Some d ≡ Some c = cc in let e : d ≡ c = cc in let n : k ≡ k + zero = omega arith in λ i. Some (let o : Outlet = record { output = n i; connection = e i } in o)))
outlet-found k (None ∷ os) zero c is = absurd (cc)
outlet-found k (Some d ∷ os) (suc m) c is = let r = outlet-found (k + 1) os m c is in let n : k + 1 + m ≡ k + suc m = omega arith in (suc r.0, r.1 ∙ (λ i. Some (let o : Outlet = record { output = n i; connection = c } in o)))
outlet-found k (None ∷ os) (suc m) c is = let r = outlet-found (k + 1) os m c is in let n : k + 1 + m ≡ k + suc m = omega arith in (r.0, r.1 ∙ (λ i. Some (let o : Outlet = record { output = n i; connection = c } in o)))

-- the ports, as a list from k on
pub ports-at : {A : Type 0} (f : ℕ → A) (k n i : ℕ) → i < n → slice_get (map f (range_with_len k n)) i ≡ Some (f (k + i))
ports-at f k zero i within = absurd (omega (arith, within))
ports-at f k (suc n) zero within = let h : k ≡ k + zero = omega arith in ap (λ m. Some (f m)) h
ports-at f k (suc n) (suc i) within = ports-at f (k + 1) n i (omega (arith, within)) ∙ (let h : k + 1 + i ≡ k + suc i = omega arith in ap (λ m. Some (f m)) h)

-- the first place where a test passes is the only one
pub position-only : {A : Type 0} (p : A → Bool) (xs : List A) (i : ℕ) (x : A) → slice_get xs i ≡ Some x → p x ≡ true → ((k : ℕ) (y : A) → slice_get xs k ≡ Some y → p y ≡ true → k ≡ i) → position p xs ≡ Some i
position-only p xs i x is passes only = by (position p xs) refl
  where
    by : (found : Option ℕ) → position p xs ≡ found → found ≡ Some i
    by None none = absurd (let here : p (get_or xs i x) ≡ true = ap p (get_or_from_slice_get xs i x x is) ∙ passes in let gone = position-None p xs none i x (slice_get_within xs i x is) in let h : true ≡ false = sym here ∙ gone in cc)
    by (Some k) at = let found = position-Some p xs k x at in ap (λ n. Some n) (only k (get_or xs k x) (slice_get-get_or xs k x found.0) found.1)

-- a process of the plan stands at the start, with some component
pub process-there : {K : Type 0} (plan : Plan) (n : ℕ) (xs : List PlanProcess) (components : List K) (k : ℕ) (x : PlanProcess) → length components ≡ length xs → slice_get xs k ≡ Some x
    → (component : K) × (slice_get (processes_at_start plan n xs components) k ≡ Some (process_at_start plan (n + k) x component))
process-there plan n [] components k x each is = absurd (cc)
process-there plan n (y ∷ xs) [] k x each is = absurd (omega (arith, each))
process-there plan n (y ∷ xs) (component ∷ components) zero x each is =
    let same : y ≡ x = same-found is in
    let m : n ≡ n + zero = omega arith in
    (component, λ i. Some (process_at_start plan (m i) (same i) component))
process-there {K} plan n (y ∷ xs) (component ∷ components) (suc k) x each is =
    let more = process-there plan (n + 1) xs components k x (omega (arith, each)) is in
    let m : n + 1 + k ≡ n + suc k = omega arith in
    (more.0, more.1 ∙ ap (λ (q : ℕ). Some (process_at_start plan q x more.0)) m)

-- a sender of the plan is an output that its process has to close
left-start : {K : Type 0} (plan : Plan) (components : List K) → IsWired plan → length components ≡ length plan.processes → (c : ℕ) (sender : Sender) (connection : PlanConnection) → slice_get plan.connections c ≡ Some connection → (k : ℕ) → slice_get connection.senders k ≡ Some sender
    → IsLeftOpen (start_of plan components).kept.processes sender c
left-start {K} plan components wired each c sender connection is k at =
    let spec = wired.senders c k connection sender is at in
    let found = process-there plan 0 plan.processes components sender.process spec.0 each spec.1 in
    let zero_p : 0 + sender.process ≡ sender.process = omega arith in
    let process : Process K = process_at_start plan sender.process spec.0 found.0 in
    let test : PlanConnection → Bool = λ (x : PlanConnection). list_any (is_sender (record { process = sender.process; output = sender.output })) x.senders in
    let sends : sends_at plan sender.process sender.output ≡ Some c =
    position-only test plan.connections c connection is (place-open sender connection.senders k at)
    (λ d y there passes. (let place = open-place sender y.senders passes in (wired.one_sender d c place.0 k y connection sender there is place.1 at).0)) in
    let port = ports-at (sends_at plan sender.process) 0 (spec.0.outputs + 1) sender.output (let l = spec.2 in omega (arith, l)) in
    let zero_o : 0 + sender.output ≡ sender.output = omega arith in
    let output : slice_get process.outputs sender.output ≡ Some (Some c) = port ∙ ap (λ (o : ℕ). Some (sends_at plan sender.process o)) zero_o ∙ ap (λ (o : Option ℕ). Some o) sends in
    let outlet = outlet-found 0 process.outputs sender.output c output in
    record {
      process = process;
      there = found.1 ∙ ap (λ (q : ℕ). Some (process_at_start plan q spec.0 found.0)) zero_p;
      place = outlet.0;
      outlet = outlet.1 ∙ (λ i. Some (let o : Outlet = record { output = zero_o i; connection = c } in o));
      left = inl tt;
    }

-- it holds at the start
pub OpenSendersTell-start : {K : Type 0} (rules : Rules K) (plan : Plan) (components : List K) → StartsWell rules plan components → OpenSendersTell (start_of plan components).kept
OpenSendersTell-start {K} rules plan components well = record {
  all = start-senders plan components;
  once = λ c channel is. (let at = start-channel plan.connections c channel is in
      subst (λ (ch : Channel). AllDifferent ch.open_senders) (sym at.2) (places-different at.0.senders (λ k l s ks ls. (well.wired.one_sender c c k l at.0 at.0 s at.1 at.1 ks ls).1)));
  only = λ c channel sender is goes. (let at = start-channel plan.connections c channel is in
      let goes' : IsOpenSender sender at.0.senders = subst (λ (ch : Channel). IsOpenSender sender ch.open_senders) at.2 goes in
      let place = open-place sender at.0.senders goes' in
      left-start plan components well.wired well.one_each c sender at.0 at.1 place.0 place.1);
}
