-- The key of all fields says all about the levels.
use Rattle.std.proofs.Common.{◌≡◌, ℕ, zero, suc, ◌+◌, ◌-◌, ◌≤◌, Bool, true, false, List, [], ◌∷◌, ◌++◌, length, take, sum, refl, sym, ap, ◌∙◌, subst, arith, if◌then◌else◌, Some}
use Rattle.std.specs.Str.{bytes_eq}
use Rattle.std.proofs.lemmas.List.{take-take, take_all}
use Rattle.std.proofs.lemmas.List.Sums.{sum_by-cons, sum_by-take-le}
use Rattle.std.specs.Cmp.Lexicographic.{bytes_decides}
use Rattle.flow_packet.specs.declared.packet.Kind.TheVariants.{Open}
use Rattle.flow_packet.specs.Tree.{Tree, packet_of, text_of}
use Rattle.flow_streams.specs.Collation.{width, levels_from, levels_that_differ}
use Rattle.flow_streams.specs.Collated.{closes, opens, bracketed}

sum-take : (fs : List ℕ) (j : ℕ) → sum (take j fs) ≤ sum fs
sum-take fs j = sum_by-take-le (λ (x : ℕ). x) fs j

sum-cons : (f : ℕ) (fs : List ℕ) → sum (f ∷ fs) ≡ f + sum fs
sum-cons f fs = sum_by-cons (λ (x : ℕ). x) f fs

-- How many bytes all fields together have.
abbrev pub full : List ℕ → ℕ
full fields = width fields (length fields)

full-sum : (fields : List ℕ) → full fields ≡ sum fields
full-sum fields = ap sum (take_all (length fields) fields (omega arith))

pub width-full : (fields : List ℕ) (j : ℕ) → width fields j ≤ full fields
width-full fields j = omega (arith, sum-take fields j, full-sum fields)

levels-cut : (before : ℕ) (fields a c : List ℕ) (w : ℕ) → before + sum fields ≤ w → levels_from before fields (take w a) c ≡ levels_from before fields a c
levels-cut before [] a c w l = refl
levels-cut before (field ∷ fields) a c w l =
    let whole = sum-cons field fields in
    let m : before + field ≤ w = omega arith in
    let same : take (before + field) (take w a) ≡ take (before + field) a = take-take (before + field) w a m in
    let rest = levels-cut (before + field) fields a c w (omega arith) in
    λ i. if bytes_eq (same i) (take (before + field) c) then rest i else length (field ∷ fields)

levels-same : (fields a b c : List ℕ) → take (full fields) a ≡ take (full fields) b → levels_that_differ fields a c ≡ levels_that_differ fields b c
levels-same fields a b c e =
    let l : 0 + sum fields ≤ full fields = omega (arith, full-sum fields) in
    sym (levels-cut 0 fields a c (full fields) l) ∙ ap (λ (x : List ℕ). levels_that_differ fields x c) e ∙ levels-cut 0 fields b c (full fields) l

zero-next : (before field : ℕ) (fields a c : List ℕ) (v : Bool) → bytes_eq (take (before + field) a) (take (before + field) c) ≡ v → (if v then levels_from (before + field) fields a c else length (field ∷ fields)) ≡ 0
    → (1 ≤ length fields → levels_from (before + field) fields a c ≡ 0 → take (before + field + sum fields) a ≡ take (before + field + sum fields) c) → take (before + sum (field ∷ fields)) a ≡ take (before + sum (field ∷ fields)) c
zero-next before field [] a c true is z rec =
    let same : before + field ≡ before + sum (field ∷ []) = omega (arith, sum-cons field []) in
    subst (λ (k : ℕ). take k a ≡ take k c) same ((bytes_decides (take (before + field) a) (take (before + field) c)).0 is)
zero-next before field (g ∷ fields) a c true is z rec =
    let same : before + field + sum (g ∷ fields) ≡ before + sum (field ∷ g ∷ fields) = omega (arith, sum-cons field (g ∷ fields)) in
    subst (λ (k : ℕ). take k a ≡ take k c) same (rec (omega arith) z)
zero-next before field fields a c false is z rec = absurd (omega arith)

zero-from : (before : ℕ) (fields a c : List ℕ) → 1 ≤ length fields → levels_from before fields a c ≡ 0 → take (before + sum fields) a ≡ take (before + sum fields) c
zero-from before [] a c some z = absurd (omega arith)
zero-from before (field ∷ fields) a c some z = zero-next before field fields a c (bytes_eq (take (before + field) a) (take (before + field) c)) refl z (zero-from (before + field) fields a c)

-- where the keys differ at no level, they are the same
pub no-level : (fields a c : List ℕ) → 1 ≤ length fields → levels_that_differ fields a c ≡ 0 → take (full fields) a ≡ take (full fields) c
no-level fields a c some z =
    let same : 0 + sum fields ≡ full fields = omega (arith, full-sum fields) in
    subst (λ (k : ℕ). take k a ≡ take k c) same (zero-from 0 fields a c some z)

-- Which field a text opens is decided by its first bytes.
pub opens-cut : (fields : List ℕ) (n : ℕ) (text : List ℕ) → opens fields n (take (full fields) text) ≡ opens fields n text
opens-cut fields zero text = refl
opens-cut fields (suc n) text =
    let l = width-full fields (length fields - n) in
    λ i. packet_of 0 Open (take-take (width fields (length fields - n)) (full fields) text l i) [] ∷ opens-cut fields n text i

-- of the packet before, only its key matters
pub bracketed-same : (fields a b : List ℕ) (ts : List Tree) → take (full fields) a ≡ take (full fields) b → bracketed fields (Some a) ts ≡ bracketed fields (Some b) ts
bracketed-same fields a b [] e = refl
bracketed-same fields a b (t ∷ ts) e =
    ap (λ (n : ℕ). (closes n ++ opens fields n (text_of t)) ++ t ∷ bracketed fields (Some (text_of t)) ts) (levels-same fields a b (text_of t) e)

-- A text that was cut to its fields is cut already.
pub cut-cut : (fields text : List ℕ) → take (full fields) (take (full fields) text) ≡ take (full fields) text
cut-cut fields text = take-take (full fields) (full fields) text (omega arith)
