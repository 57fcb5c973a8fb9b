-- A network that was sorted by whether some of its components are the caller's own has run.
use Rattle.std.proofs.Common.{◌≡◌, ◌∙◌, ℕ, ap, sym, subst}
use Rattle.flow_own.specs.declared.sorted.Sorted.{Sorted}
use Rattle.flow_own.specs.Mixed.{of_either}
use Rattle.flow_cli.specs.Engines.{RanBy}
use Rattle.flow_cli.specs.Live.{AnyNet, AnyWorked}

-- What is said of the network inside, and of what its turns left, is said of it.
pub sorted-ran : (workers : ℕ) (net inside : AnyNet) (sorted sort : Sorted AnyNet AnyNet) (result worked : AnyWorked)
    → of_either sorted ≡ net → sorted ≡ sort → of_either sort ≡ inside → result ≡ worked → RanBy workers inside worked → RanBy workers net result
sorted-ran workers net inside sorted sort result worked view is same told ran =
    subst (λ (n : AnyNet). RanBy workers n result) (sym same ∙ ap (λ (s : Sorted AnyNet AnyNet). of_either s) (sym is) ∙ view)
    (subst (λ (w : AnyWorked). RanBy workers inside w) (sym told) ran)
