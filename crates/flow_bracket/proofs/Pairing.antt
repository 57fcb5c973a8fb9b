-- The pairs that are found from a place on, as the place goes back.
use Rattle.std.proofs.Common.{◌≡◌, ℕ, zero, suc, ◌+◌, ◌<◌, inl, inr, List, [], ◌∷◌, ◌++◌, length, Some, refl, sym, ap, subst, ◌∙◌, arith}
use Rattle.std.specs.Prelude.{slice_get, Contains, reverse}
use Rattle.std.proofs.lemmas.List.{reverse-append, reverse-reverse}
use Rattle.flow_packet.specs.declared.packet.Kind.{Kind}
use Rattle.flow_packet.specs.declared.packet.Kind.TheVariants.{Normal, Open, Close}
use Rattle.flow_bracket.specs.Substreams.{Matches, BeginFrom, Overcloses, IsNested, AreSubstreams}
use Rattle.flow_bracket.specs.Scans.{AreFree, AllMatch, ArePairs, Scanned}
use Rattle.flow_bracket.proofs.Scanning.{there, here_or_behind, free-normal, free-close, free-open, free-pair, matches-free, one_close, no_close, overcloses}

contains-first : (p : ℕ × ℕ) (ps : List (ℕ × ℕ)) → Contains (p ∷ ps) p
contains-first p ps = (0, omega arith, refl)

contains-later : (p q : ℕ × ℕ) (ps : List (ℕ × ℕ)) → Contains ps p → Contains (q ∷ ps) p
contains-later p q ps c = (suc c.0, omega (arith, c.1), c.2)

begin-before : (place : ℕ) (ps : List (ℕ × ℕ)) → BeginFrom (place + 1) ps → BeginFrom place ps
begin-before place [] b = tt
begin-before place (p ∷ ps) b = (omega (arith, b.0), begin-before place ps b.1)

pub pairs-none : (kinds : List Kind) (i : ℕ) (ps : List (ℕ × ℕ)) → ((c : ℕ) → Matches kinds i c → ⊥) → ArePairs kinds (i + 1) ps → ArePairs kinds i ps
pairs-none kinds i ps none found = record {
  sound = found.sound;
  complete = λ o c h m. elim (here_or_behind i o h) [ inl e ↦ absurd (none c (subst (λ (x : ℕ). Matches kinds x c) e m)) | inr l ↦ found.complete o c l m ];
  begin = begin-before i ps found.begin;
  in_order = found.in_order;
}

pub pairs-one : (kinds : List Kind) (i c : ℕ) (ps : List (ℕ × ℕ)) → Matches kinds i c → ArePairs kinds (i + 1) ps → ArePairs kinds i ((i, c) ∷ ps)
pairs-one kinds i c ps m found = record {
  sound = (m, found.sound);
  complete = λ o d h n. elim (here_or_behind i o h) [
    | inl e ↦ (let own : Matches kinds i d = subst (λ (x : ℕ). Matches kinds x d) e n in
        let same : (o, d) ≡ (i, c) = (let f = one_close kinds i d c own m in λ j. (e j, f j)) in
        subst (λ (p : ℕ × ℕ). Contains ((i, c) ∷ ps) p) (sym same) (contains-first (i, c) ps))
    | inr l ↦ contains-later (o, d) (i, c) ps (found.complete o d l n)
  ];
  begin = (omega arith, begin-before i ps found.begin);
  in_order = (found.begin, found.in_order);
}

not_open : (kinds : List Kind) (i c : ℕ) (kind : Kind) → slice_get kinds i ≡ Some kind → (kind ≡ Open → ⊥) → Matches kinds i c → ⊥
not_open kinds i c kind e other m = let same : Some kind ≡ Some Open = sym e ∙ m.opens in other (cc)

-- What is found behind a Normal packet is what is found from it on.
pub step-normal : (kinds : List Kind) (i : ℕ) (cs : List ℕ) (ps : List (ℕ × ℕ)) → slice_get kinds i ≡ Some Normal → Scanned kinds (i + 1) cs ps → Scanned kinds i cs ps
step-normal kinds i cs ps e s = record {
  free = free-normal kinds i (reverse cs) e s.free;
  found = pairs-none kinds i (reverse ps) (λ c. not_open kinds i c Normal e (λ n. cc)) s.found;
}

-- A Close packet that is met from behind is one more close that waits for its Open.
pub step-close : (kinds : List Kind) (i : ℕ) (cs : List ℕ) (ps : List (ℕ × ℕ)) → slice_get kinds i ≡ Some Close → Scanned kinds (i + 1) cs ps → Scanned kinds i (cs ++ i ∷ []) ps
step-close kinds i cs ps e s = record {
  free = rw (reverse-append cs (i ∷ [])) (free-close kinds i (reverse cs) e s.free);
  found = pairs-none kinds i (reverse ps) (λ c. not_open kinds i c Close e (λ n. cc)) s.found;
}

-- An Open packet without a close that waits opens no substream.
pub step-open : (kinds : List Kind) (i : ℕ) (ps : List (ℕ × ℕ)) → slice_get kinds i ≡ Some Open → Scanned kinds (i + 1) [] ps → Scanned kinds i [] ps
step-open kinds i ps e s = record {
  free = free-open kinds i e s.free;
  found = pairs-none kinds i (reverse ps) (λ c. no_close kinds i c s.free) s.found;
}

-- An Open packet takes the nearest close that waits: the two are a pair.
pub step-pair : (kinds : List Kind) (i c : ℕ) (cs : List ℕ) (ps : List (ℕ × ℕ)) → slice_get kinds i ≡ Some Open → Scanned kinds (i + 1) (cs ++ c ∷ []) ps → Scanned kinds i cs (ps ++ (i, c) ∷ [])
step-pair kinds i c cs ps e s =
    let free : AreFree kinds (i + 1) (c ∷ reverse cs) = subst (AreFree kinds (i + 1)) (reverse-append cs (c ∷ [])) s.free in
    record {
      free = free-pair kinds i c (reverse cs) e free;
      found = rw (reverse-append ps ((i, c) ∷ [])) (pairs-one kinds i c (reverse ps) (matches-free kinds i c e free.0) s.found);
    }

-- at the end nothing was read yet
pub scanned-end : (kinds : List Kind) (i : ℕ) → i ≡ length kinds → Scanned kinds i [] []
scanned-end kinds i e = record {
  free = λ k l m. (let same : k ≡ i = omega arith in rw same (omega arith));
  found = record { sound = tt; complete = λ o c h m. absurd (omega (arith, there kinds o Open m.opens)); begin = tt; in_order = tt };
}

all-contained : (kinds : List Kind) (ps : List (ℕ × ℕ)) (p : ℕ × ℕ) → AllMatch kinds ps → Contains ps p → Matches kinds p.0 p.1
all-contained kinds [] p all c = absurd (omega (arith, c.1))
all-contained kinds (q ∷ qs) p all (zero, l, e) = subst (λ (x : ℕ × ℕ). Matches kinds x.0 x.1) e all.0
all-contained kinds (q ∷ qs) p all (suc k, l, e) = all-contained kinds qs p all.1 (k, omega arith, e)

-- a stream that was read whole, and has no free Close
pub whole : (kinds : List Kind) (ps : List (ℕ × ℕ)) → Scanned kinds 0 [] ps → IsNested kinds × AreSubstreams kinds (reverse ps)
whole kinds ps s = (
  (λ k m. (let h = s.free k (omega arith) m in omega arith)),
  record {
    matching = λ o c. ((λ h. all-contained kinds (reverse ps) (o, c) s.found.sound h), (λ m. s.found.complete o c (omega arith) m));
    in_order = s.found.in_order;
  },
)

free-some : (kinds : List Kind) (cs : List ℕ) → (cs ≡ [] → ⊥) → AreFree kinds 0 cs → Overcloses kinds
free-some kinds [] some free = absurd (some refl)
free-some kinds (c ∷ cs) some free = overcloses kinds c free.0

-- a stream that was read whole, and has a free Close
pub over : (kinds : List Kind) (cs : List ℕ) (ps : List (ℕ × ℕ)) → Scanned kinds 0 cs ps → 0 < length cs → Overcloses kinds
over kinds cs ps s h =
    free-some kinds (reverse cs) (λ none. (let e : cs ≡ [] = sym (reverse-reverse cs) ∙ ap reverse none in omega (arith, ap length e))) s.free
