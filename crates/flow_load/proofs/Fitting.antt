-- The components of a plan fit its processes, live and as players.
use Rattle.std.proofs.Common.{◌≡◌, ℕ, zero, suc, List, [], ◌∷◌, Some, None, slice_get, refl, sym, ap, ◌∙◌, subst}
use Rattle.std.proofs.lemmas.List.{length-map}
use Rattle.flow_plan.specs.declared.kind.KindSpec.{KindSpec}
use Rattle.flow_plan.specs.declared.plan.Process.{Process}
use Rattle.flow_plan.specs.Network.{Network}
use Rattle.flow_model.specs.Ready.{ComponentFits, ComponentsFit}
use Rattle.flow_own.specs.Mixed.{Other, Own, mixed_state}
use Rattle.flow_catalogue.specs.declared.standard.Std.{Std}
use Rattle.flow_catalogue.specs.Std.{std_rules}
use Rattle.flow_catalogue.specs.Processes.{Fits}
use Rattle.flow_offer.specs.Fits.{FitsMixed, FitsPlayed, player_at, part_at}
use Rattle.flow_own.specs.Tapes.{OwnValue}
use Rattle.flow_load.specs.Components.{IsComponent, IsPlayedComponent, IsLiveComponent, AreComponents, AreLive, HasComponents}
use Rattle.flow_load.specs.Offers.{AnyKind, Taped, known, live_rules, net_rules}

standard-fits : (plan : Network) (p : ℕ) (bytes : List ℕ) (process : Process) (component : Std) → slice_get plan.processes p ≡ Some process → IsComponent plan p bytes component
    → ComponentFits std_rules plan p process component
standard-fits plan p bytes process component there is =
    let same : is.process ≡ process = (let h = is.there in cc) in
    let fits = subst (λ (x : Process). Fits plan p x component) same is.fits in
    record { inputs = fits.inputs; outputs = fits.outputs; used = fits.uses; can_start = fits.starts }

played-fits : FitsPlayed std_rules → (own : List KindSpec) (plan : Network) (p : ℕ) (bytes : List ℕ) (tape : Taped) (process : Process) (component : AnyKind) → slice_get plan.processes p ≡ Some process
    → IsPlayedComponent own plan p bytes tape component → ComponentFits net_rules plan p process component
played-fits fits own plan p bytes tape process (Other component) there is = fits.others plan p process component (standard-fits plan p bytes process component there is)
played-fits fits own plan p bytes tape process (Own value) there is =
    let same : is.0.process ≡ process = (let h = is.0.there in cc) in
    let value_is : value ≡ player_at plan p process tape = is.1 ∙ ap (λ (x : Process). player_at plan p x tape) same in
    subst (λ v. ComponentFits net_rules plan p process (Own v)) (sym value_is) (fits.players plan p process tape)

-- Components of a run, each of the caller's own a player, fit its processes.
pub components-fit : FitsPlayed std_rules → (own : List KindSpec) (plan : Network) (given : List (List ℕ)) (tapes : List Taped) (components : List AnyKind) → AreComponents own plan given tapes components
    → ComponentsFit net_rules plan components
components-fit fits own plan given tapes components are = record {
  one_each = are.count;
  fit = λ p process component there at. let is = are.each p component at in played-fits fits own plan p is.0 (are.by p) process component there is.2;
}

-- components by their places
pub known-at : (components : List AnyKind) (p : ℕ) (c : AnyKind) → slice_get (known components) p ≡ Some c
    → (live : AnyKind) × (slice_get components p ≡ Some live) × (c ≡ mixed_state (λ (component : Std). component) live)
known-at [] p c is = absurd cc
known-at (x ∷ components) zero c is = (x, refl, (let h : mixed_state (λ (component : Std). component) x ≡ c = cc in sym h))
known-at (x ∷ components) (suc p) c is = known-at components p c is

live-fits : FitsMixed std_rules → (own : List KindSpec) (plan : Network) (p : ℕ) (bytes : List ℕ) (process : Process) (component : AnyKind) → slice_get plan.processes p ≡ Some process
    → IsLiveComponent own plan p bytes component → ComponentFits live_rules plan p process (mixed_state (λ (c : Std). c) component)
live-fits fits own plan p bytes process (Other component) there is = fits.others plan p process component (standard-fits plan p bytes process component there is)
live-fits fits own plan p bytes process (Own value) there is =
    let same : is.0.process ≡ process = (let h = is.0.there in cc) in
    let value_is : record value { part = None } ≡ part_at plan p process None = ap (λ (v : OwnValue). record v { part = None }) (is.1.1 ∙ ap (λ (x : Process). part_at plan p x (Some is.1.0)) same) in
    subst (λ v. ComponentFits live_rules plan p process (Own v)) (sym value_is) (fits.parts plan p process None)

-- Live components, as far as they are known, fit their processes.
pub live-fit : FitsMixed std_rules → (own : List KindSpec) (plan : Network) (given : List (List ℕ)) (components : List AnyKind) → AreLive own plan given components → ComponentsFit live_rules plan (known components)
live-fit fits own plan given components are = record {
  one_each = length-map components (mixed_state (λ (component : Std). component)) ∙ are.count;
  fit = λ p process component there at.
      let was = known-at components p component at in
      let is = are.each p was.0 was.1 in
      subst (ComponentFits live_rules plan p process) (sym was.2) (live-fits fits own plan p is.0 process was.0 there is.2);
}

known-player : (own : List KindSpec) (plan : Network) (p : ℕ) (bytes : List ℕ) (tape : Taped) (component : AnyKind) → IsPlayedComponent own plan p bytes tape component
    → mixed_state (λ (c : Std). c) component ≡ component
known-player own plan p bytes tape (Other component) is = refl
known-player own plan p bytes tape (Own value) is = ap (λ (v : OwnValue). Own (record v { part = None })) is.1 ∙ sym (ap (λ (v : OwnValue). Own v) is.1)

all-known : (components : List AnyKind) → ((p : ℕ) (c : AnyKind) → slice_get components p ≡ Some c → mixed_state (λ (component : Std). component) c ≡ c) → known components ≡ components
all-known [] each = refl
all-known (c ∷ components) each = ap (λ (x : AnyKind). x ∷ known components) (each 0 c refl) ∙ ap (λ (xs : List AnyKind). c ∷ xs) (all-known components (λ p x is. each (suc p) x is))

-- Of players all is known.
pub known-players : (own : List KindSpec) (plan : Network) (components : List AnyKind) → HasComponents own plan components → known components ≡ components
known-players own plan components has = all-known components (λ p c there. let is = has.2.each p c there in known-player own plan p is.0 (has.2.by p) c is.2)
