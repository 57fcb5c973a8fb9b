-- The components of a plan over the standard kinds fit its processes.
use Rattle.std.proofs.Common.{◌≡◌, ℕ, zero, suc, ◌<◌, List, [], ◌∷◌, ◌++◌, map, length, Some, refl, sym, ◌∙◌, subst, slice_get, arith, nat_lt}
use Rattle.std.specs.Prelude.{◌≢◌, IsTrue, codes}
use Rattle.std.proofs.lemmas.Bool.Decides.{nat_tests}
use Rattle.std.proofs.lemmas.List.{length-map}
use Rattle.flow_plan.specs.declared.plan.Process.{Process}
use Rattle.flow_plan.specs.Network.{Network}
use Rattle.flow_model.specs.Ready.{ComponentFits, ComponentsFit}
use Rattle.flow_model.proofs.Lookups.{map-there}
use Rattle.flow_catalogue.specs.declared.standard.Std.{Std}
use Rattle.flow_catalogue.specs.declared.table.StdKind.TheVariants as kinds
use Rattle.flow_catalogue.specs.declared.table.StdKind.{StdKind}
use Rattle.flow_catalogue.specs.Kinds.{name_of}
use Rattle.flow_catalogue.specs.Std.{std_rules}
use Rattle.flow_catalogue.specs.Processes.{IsMade, Fits, first_component, given}
use Rattle.flow_rig.specs.declared.asker.Asker.{Asker}
use Rattle.flow_rig.specs.Asker.{AlwaysReady, asker_rules}
use Rattle.flow_rig.specs.Askers.{asker_of, IsAllConnected}
use Rattle.flow_rig.specs.Networks.{AreComponentsOn, HasComponent}

-- the bytes are of no matter to a process that reads none
pub made-anywhere : (bytes : List ℕ) (plan : Network) (p : ℕ) (process : Process) (component : Std) → process.kind ≢ codes "ReadLines" → IsMade plan p process [] component → IsMade plan p process bytes component
made-anywhere bytes plan p process component other made = record { kind = made.kind; named = made.named; is = made.is ∙ same made.kind made.named }
  where
    same : (kind : StdKind) → process.kind ≡ name_of kind → first_component kind (given plan p process) [] ≡ first_component kind (given plan p process) bytes
    same kinds.ReadLines named = absurd (other named)
    same kind named = refl

pub writes-not-reads : (process : Process) → process.kind ≡ codes "WriteLines" → process.kind ≢ codes "ReadLines"
writes-not-reads process writes reads = (let bad : codes "WriteLines" ≡ codes "ReadLines" = sym writes ∙ reads in cc)

-- Standard components on a file fit the processes of their plan.
pub components-fit : (bytes : List ℕ) (plan : Network) (components : List Std) → AreComponentsOn bytes plan components → ComponentsFit std_rules plan components
components-fit bytes plan components are = record {
  one_each = are.count;
  fit = λ p process component there at.
      let has : HasComponent bytes plan p component = are.each p component at in
      let same : has.process ≡ process = (let h = has.there in cc) in
      let fits = subst (λ (x : Process). Fits plan p x component) same has.is.fits in
      record {
        inputs = fits.inputs;
        outputs = fits.outputs;
        used = fits.uses;
        can_start = fits.starts;
      };
}

below : (a b : ℕ) → IsTrue (nat_lt a b) → a < b
below a b is = grind (arith, nat_tests)

-- Components that ask for levels fit every plan with all ports connected.
pub askers-fit : (plan : Network) → IsAllConnected plan → ComponentsFit asker_rules plan (map asker_of plan.processes)
askers-fit plan connected = record {
  one_each = length-map plan.processes asker_of;
  fit = λ p process component there at.
      let is : component ≡ asker_of process = mapped plan.processes p process component there at in
      subst (λ (a : Asker). ComponentFits asker_rules plan p process a) (sym is)
      (record { inputs = refl; outputs = refl; used = λ o uses. connected p o (process, there, below o process.outputs uses); can_start = λ held none. tt });
} where
  mapped : (xs : List Process) (k : ℕ) (x : Process) (component : Asker) → slice_get xs k ≡ Some x → slice_get (map asker_of xs) k ≡ Some component → component ≡ asker_of x
  mapped xs k x component there at = let found = map-there asker_of xs k x there in cc

-- what holds of each element holds of each one with a last one
pub pushed : {X : Type 0} (P : ℕ → X → Type 0) (xs : List X) (x : X) → ((k : ℕ) (y : X) → slice_get xs k ≡ Some y → P k y) → P (length xs) x → (k : ℕ) (y : X) → slice_get (xs ++ x ∷ []) k ≡ Some y → P k y
pushed P [] x before last zero y is = let same : x ≡ y = cc in subst (P 0) same last
pushed P [] x before last (suc k) y is = absurd cc
pushed P (z ∷ xs) x before last zero y is = before 0 y is
pushed P (z ∷ xs) x before last (suc k) y is = pushed (λ i w. P (suc i) w) xs x (λ i w h. before (suc i) w h) last k y is
