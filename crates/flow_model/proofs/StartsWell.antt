-- A valid plan with components that fit starts well.
use Rattle.std.proofs.Common.{◌≡◌, ℕ, zero, suc, ◌+◌, ◌<◌, ◌≤◌, List, [], ◌∷◌, length, map, Some, refl, sym, ◌∙◌, ap, subst, arith}
use Rattle.std.specs.Prelude.{IsSome, slice_get}
use Rattle.std.specs.declared.option.Option.{Option}
use Rattle.std.specs.Option.{option_and_then}
use Rattle.std.specs.List.{range_with_len}
use Rattle.flow_component.specs.Laws.{Rules}
use Rattle.flow_plan.specs.declared.plan.Process.{Process as NetProcess}
use Rattle.flow_plan.specs.Network.{Network, IsOutputEnd}
use Rattle.flow_plan.specs.Valid.{IsValid, HasSender}
use Rattle.flow_model.specs.States.{Process}
use Rattle.flow_model.specs.Plans.{input_at, sends_at, process_at_start, processes_at_start, FitsProcess, StartsWell}
use Rattle.flow_plan.specs.Network.{Network as Plan}
use Rattle.flow_plan.specs.declared.plan.Process.{Process as PlanProcess}
use Rattle.flow_model.specs.Ready.{ComponentFits, ComponentsFit}
use Rattle.flow_model.proofs.Lookups.{same-there}
use Rattle.flow_model.proofs.Sends.{sends-there}

-- A process of the start, with its place in the plan and its component.
record IsStarted {K : Type 0} (plan : Plan) (p : ℕ) (xs : List PlanProcess) (components : List K) (k : ℕ) (z : Process K) : Type 0 where
  spec : PlanProcess
  component : K
  spec_there : slice_get xs k ≡ Some spec
  component_there : slice_get components k ≡ Some component
  is : process_at_start plan (p + k) spec component ≡ z

started : {K : Type 0} (plan : Plan) (p : ℕ) (xs : List PlanProcess) (components : List K) (k : ℕ) (z : Process K) → slice_get (processes_at_start plan p xs components) k ≡ Some z → IsStarted plan p xs components k z
started plan p [] components k z is = absurd cc
started plan p (x ∷ xs) [] k z is = absurd cc
started plan p (x ∷ xs) (component ∷ components) zero z is =
    let here : process_at_start plan p x component ≡ z = cc in
    let first : p + zero ≡ p = omega arith in
    record { spec = x; component = component; spec_there = refl; component_there = refl; is = ap (λ (m : ℕ). process_at_start plan m x component) first ∙ here }
started plan p (x ∷ xs) (component ∷ components) (suc k) z is =
    let rest = started plan (p + 1) xs components k z is in
    let later : p + suc k ≡ p + 1 + k = omega arith in
    record {
      spec = rest.spec;
      component = rest.component;
      spec_there = rest.spec_there;
      component_there = rest.component_there;
      is = ap (λ (m : ℕ). process_at_start plan m rest.spec rest.component) later ∙ rest.is;
    }

length-ports : {A : Type 0} (f : ℕ → A) (k n : ℕ) → length (map f (range_with_len k n)) ≡ n
length-ports f k zero = refl
length-ports f k (suc n) = omega (arith, length-ports f (k + 1) n)

port-at : {A : Type 0} (f : ℕ → A) (k n i : ℕ) → i < n → slice_get (map f (range_with_len k n)) i ≡ Some (f (k + i))
port-at f k zero i within = absurd (omega arith)
port-at f k (suc n) zero within = let first : k ≡ k + zero = omega arith in ap (λ m. Some (f m)) first
port-at f k (suc n) (suc i) within =
    let later : k + 1 + i ≡ k + suc i = omega arith in
    port-at f (k + 1) n i (omega arith) ∙ ap (λ m. Some (f m)) later

-- the connection of a port that is there
port-sends : (plan : Plan) (p outputs o : ℕ) → o < outputs → IsSome (sends_at plan p o)
    → IsSome (option_and_then (λ (found : Option ℕ). found) (slice_get (map (sends_at plan p) (range_with_len 0 outputs)) o))
port-sends plan p outputs o within some =
    let number : o ≡ 0 + o = omega arith in
    subst (λ (found : Option (Option ℕ)). IsSome (option_and_then (λ (c : Option ℕ). c) found)) (sym (port-at (sends_at plan p) 0 outputs o within))
    (subst (λ (m : ℕ). IsSome (sends_at plan p m)) number some)

module _ {K : Type 0} (rules : Rules K) (network : Network) where
  -- an output that is a sender of a connection is one of its process, or its automatic one
  sender-within : IsValid network → (p o : ℕ) (process : NetProcess) → slice_get network.processes p ≡ Some process → HasSender network p o → o ≤ process.outputs
  sender-within valid p o process there has =
      let output : IsOutputEnd network p o = valid.wired.senders has.number has.place has.connection (record { process = p; output = o }) has.here has.sender in
      subst (λ (x : NetProcess). o ≤ x.outputs) (same-there network.processes p output.0 process output.1 there) output.2

  fits-start : IsValid network → (p : ℕ) (process : NetProcess) (component : K) → slice_get network.processes p ≡ Some process → ComponentFits rules network p process component
      → FitsProcess rules component (process_at_start network p process component)
  fits-start valid p process component there fits = record {
    inputs = fits.inputs ∙ sym (length-ports (input_at network p process) 0 process.inputs);
    outputs = let long = length-ports (sends_at network p) 0 (process.outputs + 1) in omega (arith, fits.outputs, long);
    used = λ o used.
        let has = fits.used o used in
        let within = sender-within valid p o process there has in
        port-sends network p (process.outputs + 1) o (omega (arith, within)) (sends-there network p o has);
    can_start = fits.can_start;
  }

  pub starts-well : (components : List K) → IsValid network → ComponentsFit rules network components → StartsWell rules network components
  starts-well components valid fit = record {
    wired = valid.wired;
    one_each = fit.one_each;
    fit = λ p z here.
        let s = started network 0 network.processes components p z here in
        let number : p ≡ 0 + p = omega arith in
        let is : process_at_start network p s.spec s.component ≡ z = ap (λ (m : ℕ). process_at_start network m s.spec s.component) number ∙ s.is in
        subst (λ (x : Process K). FitsProcess rules x.component x) is
        (fits-start valid p s.spec s.component s.spec_there (fit.fit p s.spec s.component s.spec_there s.component_there));
  }
