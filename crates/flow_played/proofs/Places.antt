-- What stands at a place of a state with other components, and what it does next.
use Rattle.std.proofs.Common.{◌≡◌, ℕ, zero, suc, List, [], ◌∷◌, length, None, refl, ◌∙◌, ap, subst, slice_get, option_map}
use Rattle.flow_model.specs.States.{Process, Channel, State}
use Rattle.flow_model.specs.Events.{looks, event_of}
use Rattle.flow_model.specs.Verdicts.{HasNoTurn}
use Rattle.flow_model.specs.Replaced.{with_component, all_replaced, replaced}
use Rattle.flow_model.proofs.Replacing.{replaced-from, stage-same}

-- the process that stands there, with another component
pub replaced-at : {K L : Type 0} (other : ℕ → K → L) (xs : List (Process K)) (p : ℕ) → slice_get (all_replaced other xs) p ≡ option_map (λ x. with_component x (other p x.component)) (slice_get xs p)
replaced-at other [] p = refl
replaced-at other (x ∷ xs) zero = refl
replaced-at other (x ∷ xs) (suc p) = replaced-at (λ q. other (suc q)) xs p

-- There are as many processes as before.
pub replaced-length : {K L : Type 0} (other : ℕ → K → L) (xs : List (Process K)) → length (all_replaced other xs) ≡ length xs
replaced-length other [] = refl
replaced-length other (x ∷ xs) = ap suc (replaced-length (λ q. other (suc q)) xs)

-- what a process does next doesn't depend on its component
pub event-same : {K L : Type 0} (channels : List Channel) (x : Process K) (c : L) (n : ℕ) → event_of channels (with_component x c) n ≡ event_of channels x n
event-same channels x c n = stage-same (looks channels) x c n x.stage

-- A process without a turn has none with other components.
pub still-replaced : {K L : Type 0} (other : ℕ → K → L) (s : State K) (p : ℕ) → HasNoTurn s.kept p → HasNoTurn (replaced other s).kept p
still-replaced {L = L} other s p still y n there =
    let from = replaced-from other s.kept.processes p y there in
    subst (λ (z : Process L). event_of s.kept.channels z n ≡ None) from.2 (event-same s.kept.channels from.0 (other p from.0.component) n ∙ still from.0 n from.1)
