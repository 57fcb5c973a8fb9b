-- The chains of a packet keep different names.
use Rattle.std.proofs.Common.{◌≡◌, ℕ, zero, suc, true, false, List, [], ◌∷◌, ◌++◌, drop, refl, ap, if◌then◌else◌, Some}
use Rattle.std.specs.Prelude.{slice_get}
use Rattle.std.specs.Str.{bytes_eq}
use Rattle.std.proofs.lemmas.Slice.Eq.{bytes_eq-Decides}
use Rattle.flow_packet.specs.Tree.{Tree, Chain, chain_at, attach_to, detach_from, before, NoneNamed, AreDistinct}

NoneNamed-attach_to : (n : List ℕ) (cs : List Chain) (name : List ℕ) (t : Tree) → bytes_eq n name ≡ false → NoneNamed n cs → NoneNamed n (attach_to cs name t)
NoneNamed-attach_to n [] name t e none = (e, tt)
NoneNamed-attach_to n (c ∷ cs) name t e none =
    elim (bytes_eq c.0 name) as (λ b. NoneNamed n (if b then (c.0, c.1 ++ t ∷ []) ∷ cs else c ∷ attach_to cs name t)) [
      | true ↦ (none.0, none.1)
      | false ↦ (none.0, NoneNamed-attach_to n cs name t e none.1)
    ]

AreDistinct-added : (c : Chain) (cs : List Chain) (name : List ℕ) (t : Tree) (b : _) → bytes_eq c.0 name ≡ b → NoneNamed c.0 cs → AreDistinct cs → AreDistinct (attach_to cs name t)
    → AreDistinct (if b then (c.0, c.1 ++ t ∷ []) ∷ cs else c ∷ attach_to cs name t)
AreDistinct-added c cs name t true e none all more = (none, all)
AreDistinct-added c cs name t false e none all more = (NoneNamed-attach_to c.0 cs name t e none, more)

-- Chains have different names also after a packet was attached.
pub AreDistinct-attach_to : (cs : List Chain) (name : List ℕ) (t : Tree) → AreDistinct cs → AreDistinct (attach_to cs name t)
AreDistinct-attach_to [] name t all = (tt, tt)
AreDistinct-attach_to (c ∷ cs) name t all = AreDistinct-added c cs name t (bytes_eq c.0 name) refl all.0 all.1 (AreDistinct-attach_to cs name t all.1)

NoneNamed-before : (n : List ℕ) (c : Chain) (cs : List Chain) → bytes_eq n c.0 ≡ false → NoneNamed n cs → NoneNamed n (before c cs)
NoneNamed-before n (name, []) cs e none = none
NoneNamed-before n (name, t ∷ ts) cs e none = (e, none)

NoneNamed-detach_from : (n : List ℕ) (cs : List Chain) (name : List ℕ) → NoneNamed n cs → NoneNamed n (detach_from cs name)
NoneNamed-detach_from n [] name none = tt
NoneNamed-detach_from n (c ∷ cs) name none =
    elim (bytes_eq c.0 name) as (λ b. NoneNamed n (if b then before (c.0, drop 1 c.1) cs else c ∷ detach_from cs name)) [
      | true ↦ NoneNamed-before n (c.0, drop 1 c.1) cs none.0 none.1
      | false ↦ (none.0, NoneNamed-detach_from n cs name none.1)
    ]

AreDistinct-before : (c : Chain) (cs : List Chain) → NoneNamed c.0 cs → AreDistinct cs → AreDistinct (before c cs)
AreDistinct-before (name, []) cs none all = all
AreDistinct-before (name, t ∷ ts) cs none all = (none, all)

-- Chains have different names also after a packet was detached.
pub AreDistinct-detach_from : (cs : List Chain) (name : List ℕ) → AreDistinct cs → AreDistinct (detach_from cs name)
AreDistinct-detach_from [] name all = tt
AreDistinct-detach_from (c ∷ cs) name all =
    elim (bytes_eq c.0 name) as (λ b. AreDistinct (if b then before (c.0, drop 1 c.1) cs else c ∷ detach_from cs name)) [
      | true ↦ AreDistinct-before (c.0, drop 1 c.1) cs all.0 all.1
      | false ↦ (NoneNamed-detach_from c.0 cs name all.0, AreDistinct-detach_from cs name all.1)
    ]

named_apart : (n : List ℕ) (cs : List Chain) (i : ℕ) (c : Chain) → NoneNamed n cs → slice_get cs i ≡ Some c → bytes_eq n c.0 ≡ false
named_apart n [] i c none at = cc
named_apart n (d ∷ ds) zero c none at = let same : d ≡ c = cc in rw (← same) none.0
named_apart n (d ∷ ds) (suc i) c none at = named_apart n ds i c none.1 at

-- a chain is found by its name
pub chain_at-name : (cs : List Chain) (i : ℕ) (c : Chain) → AreDistinct cs → slice_get cs i ≡ Some c → chain_at cs c.0 ≡ c.1
chain_at-name [] i c all at = cc
chain_at-name (d ∷ ds) zero c all at =
    let same : d ≡ c = cc in
    let named = (bytes_eq-Decides d.0 c.0).1 (ap (λ (x : Chain). x.0) same) in
    rw named (ap (λ (x : Chain). x.1) same)
chain_at-name (d ∷ ds) (suc i) c all at =
    let apart = named_apart d.0 ds i c all.0 at in
    rw apart (chain_at-name ds i c all.1 at)
