-- A process of a standard kind that has ended: its run as one of its own kind, how often it was activated, and what its initial texts gave.
use Rattle.std.proofs.Common.{◌≡◌, ◌≢◌, ◌⊎◌, inl, inr, ℕ, zero, suc, ◌+◌, ◌<◌, ◌≤◌, List, [], ◌∷◌, length, refl, sym, ap, ◌∙◌, subst, arith, Bool, true, false, Option, Some, None, slice_get}
use Rattle.std.specs.Prelude.{replicate, min, max}
use Rattle.std.specs.List.{list_any}
use Rattle.flow_packet.specs.Tree.{Tree, id_of}
use Rattle.flow_component.specs.declared.Wish.TheVariants as wishes
use Rattle.flow_component.specs.Laws.{Rules, CanStart}
use Rattle.flow_component.specs.Happenings.{Happening, Started, Received, Ended, Sent, Learned}
use Rattle.flow_component.specs.Runs.{Poise, fresh, Runs, EndedRun, got, HeardEnd, GivesText, starts, text_packet}
use Rattle.flow_component.proofs.Texts.{until-start}
use Rattle.flow_catalogue.specs.declared.standard.Std.{Std}
use Rattle.flow_catalogue.specs.Kinded.{Kinded}
use Rattle.flow_catalogue.specs.Std.{Standing, Stands, standing, ReadyStanding, next_standing, std_shape, StdReady, std_rules}
use Rattle.flow_model.specs.declared.Stage.TheVariants as stages
use Rattle.flow_model.specs.States.{Input, From, Text, Process}
use Rattle.flow_model.specs.Events.{is_connected}
use Rattle.flow_model.specs.Runs.{poise, Follows, HasRun, NoneConnected, IsConnectedAt, EndsForGood}
use Rattle.flow_meanings.specs.Meaning.{higher, greatest, activations}
use Rattle.flow_meanings.proofs.Lifting.{own-run}

-- Something came by a connection.
pub record HasCome (told : List Happening) (inputs : List Input) : Type 0 where
  pub input : ℕ
  pub connected : IsConnectedAt inputs input
  pub some : got input told ≢ []

-- A process that has ended, with what it was told. Its component began with as many inputs as the process has, and could start; it wasn't told anything unless it
-- was woken.
pub record Over (component : Std) (p : ℕ) (told : List Happening) (x : Process Std) : Type 0 where
  pub run : HasRun std_rules component p told x
  pub ended : x.stage ≡ stages.Ended
  pub fits : (std_shape component).inputs ≡ length x.inputs
  pub can_start : CanStart (StdReady component)
  pub woken : told ≢ [] → NoneConnected x ⊎ HasCome told x.inputs

-- its run, of its own kind
pub record Own {K : Type 0} (f : K → Std) (rules : Rules K) (component : K) (told : List Happening) (x : Process Std) : Type 0 where
  pub run : EndedRun rules component told
  pub is : x.component ≡ f run.last.component

-- What the standard component of a kind was told is a run of the kind's own component.
pub own : {K : Type 0} (f : K → Std) (kind : Kinded K) → ((component : K) → standing (f component) ≡ Stands K kind f component)
    → (component : K) (p : ℕ) (told : List Happening) (x : Process Std) → Over (f component) p told x → Own f kind.rules component told x
own f kind stands component p told x over =
    let r : Runs std_rules (fresh (f component) p) told (poise x wishes.Deactivate) = subst (Follows std_rules (fresh (f component) p) told x) over.ended over.run.follows in
    let o = own-run f kind.rules std_rules (λ k held answer ready. subst (λ (z : Standing). ReadyStanding z held answer) (stands k) ready)
    (λ k held answer outcome is. (kind.next k held answer, kind.comes k held answer, is ∙ ap (λ (z : Standing). next_standing z held answer) (stands k))) told (fresh component p) (poise x wishes.Deactivate) r in
    record {
      run = record { maker = p; last = o.0; runs = o.1; idle = sym (ap (λ (u : Poise Std). u.wish) o.2) };
      is = ap (λ (u : Poise Std). u.component) o.2;
    }

-- What a process was told begins with a start.

-- What is told first is a start.
pub record Begins (told : List Happening) : Type 0 where
  pub later : List Happening
  pub is : told ≡ Started ∷ later

begins-run : (component : Std) (p : ℕ) (es : List Happening) (q : Poise Std) → Runs std_rules (fresh component p) es q → es ≢ [] → Begins es
begins-run component p [] q r some = absurd (some refl)
begins-run component p (Started ∷ es) q r some = record { later = es; is = refl }
begins-run component p (Received i t ∷ es) q r some = absurd (let h : wishes.Deactivate ≡ wishes.Receive (record { 0 = i }) = r.1.grants.0 in cc)
begins-run component p (Ended i ∷ es) q r some = absurd (let h : wishes.Deactivate ≡ wishes.Receive (record { 0 = i }) = r.1.grants.0 in cc)
begins-run component p (Sent o t ∷ es) q r some = absurd (let h : wishes.Deactivate ≡ wishes.Send (record { 0 = o }) (id_of t) = r.1.grants.0 in cc)
begins-run component p (Learned o n ∷ es) q r some = absurd (let h : wishes.Deactivate ≡ wishes.Level (record { 0 = o }) = r.1.grants.0 in cc)

-- A process that was told something and ended was told to start first.
pub ended-begins : (component : Std) (p : ℕ) (told : List Happening) (x : Process Std) → HasRun std_rules component p told x → x.stage ≡ stages.Ended → told ≢ [] → Begins told
ended-begins component p told x run ended some = begins-run component p told (poise x wishes.Deactivate) (subst (Follows std_rules (fresh component p) told x) ended run.follows) some

-- What begins with a start has one.
pub begins-starts : (told : List Happening) → Begins told → 0 < starts told
begins-starts told b = subst (λ (es : List Happening). 0 < starts es) (sym b.is) (omega arith)

-- How many packets came at each input by its connection.
abbrev pub came : ℕ → List Happening → List Input → List (Option ℕ)
came k told [] = []
came k told (From c ∷ inputs) = Some (length (got k told)) ∷ came (k + 1) told inputs
came k told (Text text ∷ inputs) = None ∷ came (k + 1) told inputs

pub none-came : (k : ℕ) (told : List Happening) (inputs : List Input) → list_any is_connected inputs ≡ false → greatest (came k told inputs) ≡ None
none-came k told [] none = refl
none-came k told (From c ∷ inputs) none = absurd (cc)
none-came k told (Text text ∷ inputs) none = none-came (k + 1) told inputs none

-- The greatest number is there, and isn't 0.
abbrev IsPositive : Option ℕ → Type 0
IsPositive n = (m : ℕ) × (n ≡ Some m) × (0 < m)

higher-first : (n : ℕ) (m : Option ℕ) → 0 < n → IsPositive (higher (Some n) m)
higher-first n None l = (n, refl, l)
higher-first n (Some m) l = (max n m, refl, omega (arith, l))

higher-later : (n m : Option ℕ) → IsPositive m → IsPositive (higher n m)
higher-later None m is = is
higher-later (Some n) m is = (max n is.0, ap (higher (Some n)) is.1, (let l = is.2 in omega (arith, l)))

some-length : (ts : List Tree) → ts ≢ [] → 0 < length ts
some-length [] some = absurd (some refl)
some-length (t ∷ ts) some = omega arith

some-came : (k i : ℕ) (told : List Happening) (inputs : List Input) → IsConnectedAt inputs i → got (k + i) told ≢ [] → IsPositive (greatest (came k told inputs))
some-came k i told [] at some = absurd (let h = at.1 in cc)
some-came k zero told (From c ∷ inputs) at some =
    let e : k + zero ≡ k = omega arith in
    higher-first (length (got k told)) (greatest (came (k + 1) told inputs)) (some-length (got k told) (subst (λ (j : ℕ). got j told ≢ []) e some))
some-came k zero told (Text text ∷ inputs) at some = absurd (let h : Some (Text text) ≡ Some (From at.0) = at.1 in cc)
some-came k (suc i) told (From c ∷ inputs) at some =
    let e : k + suc i ≡ k + 1 + i = omega arith in
    higher-later (Some (length (got k told))) (greatest (came (k + 1) told inputs)) (some-came (k + 1) i told inputs at (subst (λ (j : ℕ). got j told ≢ []) e some))
some-came k (suc i) told (Text text ∷ inputs) at some =
    let e : k + suc i ≡ k + 1 + i = omega arith in
    some-came (k + 1) i told inputs at (subst (λ (j : ℕ). got j told ≢ []) e some)

-- a looper that was told anything was activated once
looper-once : (n : Option ℕ) → (n ≡ None) ⊎ IsPositive n → activations true n ≡ 1
looper-once n (inl none) = ap (activations true) none
looper-once n (inr some) = ap (activations true) some.1 ∙ (let l = some.2 in let e : min some.0 1 ≡ 1 = omega (arith, l) in e)

pub woken-once : (component : Std) (p : ℕ) (told : List Happening) (x : Process Std) → Over component p told x → told ≢ [] → activations true (greatest (came 0 told x.inputs)) ≡ 1
woken-once component p told x over some = looper-once (greatest (came 0 told x.inputs)) (elim (over.woken some) [
  | inl none ↦ inl (none-came 0 told x.inputs none)
  | inr come ↦ inr (let e : come.input ≡ 0 + come.input = omega arith in some-came 0 come.input told x.inputs come.connected (subst (λ (j : ℕ). got j told ≢ []) e come.some))
])

-- What the initial texts of a component gave, once it was told anything: each is there anew in each activation.
abbrev pub GotTexts : Bool → List Happening → Process Std → Type 0
GotTexts loops told x = (i : ℕ) (text : List ℕ) → slice_get x.inputs i ≡ Some (Text text) → got i told ≡ replicate (activations loops (greatest (came 0 told x.inputs))) (text_packet text)

-- where it was started once at most, and heard the end
once-got : (told : List Happening) (port : ℕ) (text : List ℕ) → Begins told → starts told ≤ 1 → GivesText port text false told → HeardEnd port told → got port told ≡ text_packet text ∷ []
once-got told port text b few gives heard =
    let is = b.is in
    let few' : starts (Started ∷ b.later) ≤ 1 = subst (λ (es : List Happening). starts es ≤ 1) is few in
    let none : starts b.later ≡ 0 = omega (arith, few') in
    let heard' : HeardEnd port (Started ∷ b.later) = subst (HeardEnd port) is heard in
    let later : HeardEnd port b.later = elim heard' [ inl h ↦ absurd h | inr h ↦ h ] in
    ap (got port) is ∙ until-start port text true b.later (subst (GivesText port text false) is gives) none (λ _. later)

-- A process that is started once gets each initial text once.
pub texts-once : (component : Std) (p : ℕ) (told : List Happening) (x : Process Std) → Over component p told x → told ≢ [] → starts told ≤ 1 → ((i : ℕ) → i < length x.inputs → HeardEnd i told) → GotTexts true told x
texts-once component p told x over some few heard i text at =
    let within : i < length x.inputs = Rattle.std.proofs.lemmas.Option.slice_get_within x.inputs i (Text text) at in
    let one : got i told ≡ text_packet text ∷ [] = once-got told i text (ended-begins component p told x over.run over.ended some) few (over.run.texts i text at) (heard i within) in
    one ∙ ap (λ (n : ℕ). replicate n (text_packet text)) (sym (woken-once component p told x over some))

-- Components with one input, or with none

no-inputs : (inputs : List Input) → 0 ≡ length inputs → list_any is_connected inputs ≡ false
no-inputs [] is = refl
no-inputs (i ∷ inputs) is = absurd (omega arith)

-- A process without inputs has no connected one.
pub none-alone : {K : Type 0} (x : Process K) → 0 ≡ length x.inputs → NoneConnected x
none-alone x is = no-inputs x.inputs is

one-input : (inputs : List Input) → 1 ≡ length inputs → IsConnectedAt inputs 0 ⊎ (list_any is_connected inputs ≡ false)
one-input [] is = absurd (omega arith)
one-input (From c ∷ []) is = inl (c, refl)
one-input (Text text ∷ []) is = inr refl
one-input (i ∷ j ∷ inputs) is = absurd (omega arith)

-- the end of a single input is for good
pub single-ends : {K : Type 0} (x : Process K) (told : List Happening) → (NoneConnected x → starts told ≤ 1) → 1 ≡ length x.inputs → EndsForGood x told 0
single-ends x told once is = elim (one-input x.inputs is) [ inl at ↦ inl at | inr none ↦ inr (once none) ]

-- where the one input has a text, none is connected
alone-text : (inputs : List Input) (i : ℕ) (text : List ℕ) → 1 ≡ length inputs → slice_get inputs i ≡ Some (Text text) → list_any is_connected inputs ≡ false
alone-text [] i text one at = absurd (cc)
alone-text (From c ∷ []) zero text one at = absurd (cc)
alone-text (From c ∷ []) (suc i) text one at = absurd (cc)
alone-text (Text t ∷ []) i text one at = refl
alone-text (j ∷ k ∷ inputs) i text one at = absurd (omega arith)

-- a looper with one input, whose end it heard
pub single-texts : (component : Std) (p : ℕ) (told : List Happening) (x : Process Std) → Over component p told x → (std_shape component).inputs ≡ 1 → told ≢ [] → HeardEnd 0 told → GotTexts true told x
single-texts component p told x over one some heard i text at =
    let is : 1 ≡ length x.inputs = sym one ∙ over.fits in
    texts-once component p told x over some (over.run.once (alone-text x.inputs i text is at)) (λ j l. let zero_is : 0 ≡ j = omega (arith, is, l) in subst (λ (k : ℕ). HeardEnd k told) zero_is heard) i text at

-- and one with none
pub no-texts : (component : Std) (p : ℕ) (told : List Happening) (x : Process Std) (loops : Bool) → Over component p told x → (std_shape component).inputs ≡ 0 → GotTexts loops told x
no-texts component p told x loops over none i text at = absurd (let l = Rattle.std.proofs.lemmas.Option.slice_get_within x.inputs i (Text text) at in omega (arith, l, over.fits, none))
