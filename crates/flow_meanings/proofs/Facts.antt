-- What has to be known of a standard component so that its processes compose, as one record.
use Rattle.std.proofs.Common.{◌≡◌, ◌≢◌, ℕ, ◌<◌, List, [], IsTrue, true, None}
use Rattle.flow_packet.specs.Tree.{Tree}
use Rattle.flow_component.specs.Happenings.{Happening}
use Rattle.flow_component.specs.Runs.{got, sent}
use Rattle.flow_catalogue.specs.declared.standard.Std.{Std}
use Rattle.flow_catalogue.specs.Std.{std_shape, std_uses, written_of}
use Rattle.flow_model.specs.States.{Process}
use Rattle.flow_meanings.specs.Means.{IsFirst, Means, is_looper, is_settled, bytes_of}
use Rattle.flow_meanings.proofs.Over.{Over, GotTexts}

-- Streams that a meaning can't tell apart: they are the same at the inputs of the component and at the outputs that it uses, and where nothing left, nothing leaves.
pub record Same (component : Std) (w w' : List ℕ) (x x' y y' : ℕ → List Tree) : Type 0 where
  pub bytes : w ≡ w'
  pub inputs : (i : ℕ) → i < (std_shape component).inputs → x i ≡ x' i
  pub outputs : (o : ℕ) → IsTrue (std_uses component o) → y o ≡ y' o
  pub silent : (o : ℕ) → y o ≡ [] → y' o ≡ []

-- What the laws about networks need of a component, whatever its kind.
pub record Facts (component : Std) : Type 0 where
  -- one that has ended has its meaning
  pub means : (p : ℕ) (told : List Happening) (x : Process Std) → IsFirst component → Over component p told x → Means component (bytes_of x.component) (λ i. got i told) (λ o. sent o told)
  -- its initial texts came once an activation
  pub texts : (p : ℕ) (told : List Happening) (x : Process Std) → IsFirst component → Over component p told x → told ≢ [] → GotTexts (is_looper component) told x
  -- its meaning speaks of its own ports alone
  pub change : (w w' : List ℕ) (x x' y y' : ℕ → List Tree) → Same component w w' x x' y y' → Means component w x y → Means component w' x' y'
  -- it has written nothing, if it writes no file
  pub wrote_none : (p : ℕ) (told : List Happening) (x : Process Std) → Over component p told x → written_of component ≡ None → bytes_of x.component ≡ []
  -- what it sends follows from what it gets, where that is so
  pub settles : is_settled component ≡ true → (w w' : List ℕ) (x x' y y' : ℕ → List Tree) → ((i : ℕ) → x i ≡ x' i) → Means component w x y → Means component w' x' y' → (o : ℕ) → o < (std_shape component).outputs → y o ≡ y' o
