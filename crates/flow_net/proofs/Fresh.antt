-- Laws of the ports of a new process.
use Rattle.std.proofs.Common.{◌≡◌, ℕ, ◌+◌, ◌<◌, List, [], ◌∷◌, ◌++◌, Bool, ap, ◌∙◌, length, take, get_or, arith}
use Rattle.std.proofs.lemmas.List.{take_more, length-take-le}
use Rattle.flow_plan.specs.declared.kind.PortSpec.{PortSpec}
use Rattle.flow_net.specs.Calls.{fresh_port, fresh_ports}

pub fresh_ports-push : (p : ℕ) (s : Bool) (n m : ℕ) (xs : List PortSpec) (x : PortSpec) → m ≡ n + length xs → fresh_ports p s n (xs ++ x ∷ []) ≡ fresh_ports p s n xs ++ fresh_port p s m x ∷ []
fresh_ports-push p s n m [] x is =
    let at : n ≡ m = omega arith in
    ap (λ k. fresh_port p s k x ∷ []) at
fresh_ports-push p s n m (y ∷ xs) x is =
    ap (λ ports. fresh_port p s n y ∷ ports) (fresh_ports-push p s (n + 1) m xs x (omega arith))

-- the ports of one more entry of a table
pub fresh_ports-more : (p : ℕ) (s : Bool) (xs : List PortSpec) (i : ℕ) (d : PortSpec) → i < length xs → fresh_ports p s 0 (take (i + 1) xs) ≡ fresh_ports p s 0 (take i xs) ++ fresh_port p s i (get_or xs i d) ∷ []
fresh_ports-more p s xs i d within =
    ap (fresh_ports p s 0) (take_more xs i d within) ∙ fresh_ports-push p s 0 i (take i xs) (get_or xs i d) (omega (arith, length-take-le i xs (omega arith)))
