-- What each process was told, at any moment: a run of its component, with ends that stand and starts that bring something.
use Rattle.std.proofs.Common.{◌≡◌, ◌≢◌, ℕ, ◌≤◌, ◌+◌, ◌<◌, Bool, true, false, List, [], ◌∷◌, ◌++◌, length, Some, refl, sym, ap, ◌∙◌, subst, nat_eq, arith, ◌⊎◌, inl, inr, slice_get, append-nil, ◌==◌, ◌&&◌}
use Rattle.std.specs.List.{list_any}
use Rattle.std.proofs.lemmas.Bool.Decides.{nat_tests}
use Rattle.flow_packet.specs.Tree.{Tree}
use Rattle.flow_packet.specs.Held.{Held}
use Rattle.flow_component.specs.declared.Wish.{Wish}
use Rattle.flow_component.specs.Laws.{Rules}
use Rattle.flow_component.specs.Happenings.{Happening, Started, Received, Ended}
use Rattle.flow_component.specs.Runs.{fresh, EndIsLast, HeardEnd, Wakes, GivesText, starts, IsEnd, IsStart}
use Rattle.flow_model.specs.declared.Stage.{Stage}
use Rattle.flow_model.specs.declared.Stage.TheVariants as stages
use Rattle.flow_model.specs.States.{From, Text, Process, Channel}
use Rattle.flow_model.specs.Stages.{HasBegunToClose}
use Rattle.flow_model.specs.Events.{Event, Starts, Finishes, Hears_end, Sleeps, Closes, Signals, event_of, is_fresh, is_connected}
use Rattle.flow_model.specs.Turns.{process_after, heard, closing}
use Rattle.flow_model.specs.Works.{judged}
use Rattle.flow_model.specs.Runs.{Follows, NoneConnected, IsConnectedAt, EndsForGood}
use Rattle.flow_model.proofs.Inverse.{explains}
use Rattle.flow_model.proofs.Exhausting.{IsDry, Exhausted, Waits, finishes-later}
use Rattle.flow_model.proofs.Hearing.{heard-more, StartsKeep, fresh_told, fresh-more, gives-more, starts-count, never-told}
use Rattle.flow_model.specs.Turns.{happening}
use Rattle.flow_model.proofs.Stages.{closing-elim, judged-elim, after-turn, heard-elim}

-- Whether anything was told to a process that stands there.
abbrev pub Begun : {K : Type 0} → Process K → List Happening → Stage → Type 0
Begun x told stages.Idle = (x.has_run ≡ false → told ≡ []) × (x.has_run ≡ true → told ≢ [])
Begun x told (stages.Closing i) = NoneConnected x → told ≢ []
Begun x told stages.Ended = NoneConnected x → told ≢ []
Begun x told (stages.Failed cause) = Unit {0}
Begun x told stage = told ≢ []

some-told : (es : List Happening) (e : Happening) → es ++ e ∷ [] ≢ []
some-told [] e is = cc
some-told (f ∷ es) e is = cc

-- what was told to a process that stands there after its turn
pub begun-event : {K : Type 0} (channels : List Channel) (x : Process K) (n : ℕ) (told : List Happening) (e : Event) → event_of channels x n ≡ Some e → Begun x told x.stage → Begun (process_after x e) (told ++ heard x e) (process_after x e).stage
begun-event {K} channels x n told e is was = after-turn channels x n e is (λ f hs stage. Begun (process_after x f) (told ++ hs) stage) tt (λ h _. some-told told h)
    (λ asleep. (let some : told ≢ [] = subst (Begun x told) (explains channels x n Sleeps asleep) was in rw append-nil ((λ h. absurd (cc)), (λ h. some))))
    (λ c packet signals. (let idle = subst (Begun x told) (explains channels x n (Signals c packet) signals).stage was in rw append-nil idle))
    (λ done. closes Finishes 0 (λ none. (subst (Begun x told) (explains channels x n Finishes done) was).1 (finishes-later channels x n none done)))
    (λ output c at. closes (Closes output c) (at.i + 1) (subst (Begun x told) at.stage was))
  where
    closes : (f : Event) (i : ℕ) → (NoneConnected x → told ≢ []) → Begun (process_after x f) (told ++ []) (closing x i)
    closes f i some = rw append-nil (closing-elim (Begun (process_after x f) told) x i (λ _. some) (λ _. some))

-- what stands after a work was told before
pub begun-judged : {K : Type 0} (y : Process K) (told : List Happening) (depths : List ℕ) (held : Held) (wish : Wish) → told ≢ [] → Begun y told (judged depths held wish)
begun-judged y told depths held wish some = judged-elim (Begun y told) depths held wish (λ cause. tt) (λ _. some)

-- It is the end of this input.
pub end-is : (port : ℕ) (h : Happening) → IsEnd port h → h ≡ Ended port
end-is port (Ended i) same = ap Ended same
end-is port h none = absurd none

-- It is a start.
pub start-is : (h : Happening) → IsStart h → h ≡ Started
start-is Started is = refl
start-is h none = absurd none

-- Only a start is heard as one, and only an end as one.
pub started-is : {K : Type 0} (x : Process K) (e : Event) → happening x e ≡ Some Started → e ≡ Starts
started-is x Starts is = refl
started-is x e is = absurd (cc)

pub ended-is : {K : Type 0} (x : Process K) (e : Event) (port : ℕ) → happening x e ≡ Some (Ended port) → e ≡ Hears_end port
ended-is x (Hears_end i) port is = let same : i ≡ port = cc in ap Hears_end same
ended-is x e port is = absurd (cc)

-- a new end is the one that this turn hears
pub heard-end : {K : Type 0} (port : ℕ) (told : List Happening) (x : Process K) (e : Event) → HeardEnd port (told ++ heard x e) → HeardEnd port told ⊎ (e ≡ Hears_end port)
heard-end port told x e = heard-elim (λ hs. HeardEnd port (told ++ hs) → HeardEnd port told ⊎ (e ≡ Hears_end port)) x e (λ _ ended. inl (subst (HeardEnd port) (append-nil told) ended))
    (λ h is_h ended. elim (heard-more port told h ended) [ inl before ↦ inl before | inr now ↦ inr (ended-is x e port (is_h ∙ ap (λ (g : Happening). Some g) (end-is port h now))) ])

-- a turn tells one thing at most, and no start goes away
pub starts-heard : {K : Type 0} (told : List Happening) (x : Process K) (e : Event) → starts told ≤ starts (told ++ heard x e)
starts-heard told x e = heard-elim (λ hs. starts told ≤ starts (told ++ hs)) x e (λ _. rw append-nil (omega arith)) (λ h _. omega (arith, starts-count told h))

pub heard-one : {K : Type 0} (x : Process K) (e : Event) → length (heard x e) ≤ 1
heard-one x e = heard-elim (λ hs. length hs ≤ 1) x e (λ _. omega arith) (λ h _. omega arith)

-- where a process that is started now was started once at most, nothing was told before
pub first-start : (told : List Happening) → (told ≢ [] → 1 ≤ starts told) → starts (told ++ Started ∷ []) ≤ 1 → told ≡ []
first-start told some few = never-told told (omega (arith, starts-count told Started)) some

-- What was told of an input with an initial text: each start gave it anew, and it is fresh where it is still to be got.
abbrev pub TextIs : List Happening → ℕ → List ℕ → Bool → Type 0
TextIs told port text fresh = GivesText port text false told × (fresh_told port false told ≡ fresh)

pub text-more : (told : List Happening) (h : Happening) (port : ℕ) (text : List ℕ) (old fresh : Bool) → GivesText port text old (h ∷ []) → fresh_told port old (h ∷ []) ≡ fresh → TextIs told port text old → TextIs (told ++ h ∷ []) port text fresh
text-more told h port text old fresh gives after is = (
  gives-more port text false told h is.0 (subst (λ (b : Bool). GivesText port text b (h ∷ [])) (sym is.1) gives),
  fresh-more port false told h ∙ ap (λ (b : Bool). fresh_told port b (h ∷ [])) is.1 ∙ after,
)

-- a packet at another input
pub text-apart : (told : List Happening) (i : ℕ) (t : Tree) (port : ℕ) (text : List ℕ) (fresh : Bool) → port ≢ i → TextIs told port text fresh → TextIs (told ++ Received i t ∷ []) port text fresh
text-apart told i t port text fresh apart is =
    let z : nat_eq i port ≡ false = grind (arith, nat_tests) in
    text-more told (Received i t) port text fresh fresh ((λ same. absurd (apart (sym same))), tt) (rw z (kept fresh)) is
  where
    kept : (b : Bool) → (b && true) ≡ b
    kept true = refl
    kept false = refl

-- What a process was told, at any moment.
pub record Tells {K : Type 0} (rules : Rules K) (components : List K) (channels : List Channel) (p : ℕ) (told : List Happening) (x : Process K) : Type 0 where
  pub follows : (component : K) → slice_get components p ≡ Some component → Follows rules (fresh component p) told x x.stage
  pub begun : Begun x told x.stage
  pub started : told ≢ [] → 1 ≤ starts told
  pub once : NoneConnected x → starts told ≤ 1
  pub few : length told ≤ x.turns
  pub ends : (port : ℕ) → EndsForGood x told port → HeardEnd port told → Exhausted channels x port
  pub last : (port : ℕ) → EndsForGood x told port → EndIsLast port told
  pub brings : list_any is_connected x.inputs ≡ true → StartsKeep (Waits channels x) (IsConnectedAt x.inputs) told
  pub wakes : Wakes (length x.inputs) [] told
  pub texts : (port : ℕ) (text : List ℕ) → slice_get x.inputs port ≡ Some (Text text) → TextIs told port text (is_fresh x port)
  pub over : HasBegunToClose x.stage → (port c : ℕ) → slice_get x.inputs port ≡ Some (From c) → IsDry channels c
