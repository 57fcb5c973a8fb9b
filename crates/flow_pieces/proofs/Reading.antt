-- What one read of a line comes to, by what the reader has in memory.
use Rattle.flow_limits.specs.declared.TheConstants.{TEXT_LIMIT}
use Rattle.std.proofs.Common.{◌≡◌, ℕ, ◌+◌, ◌-◌, ◌<◌, ◌≤◌, ◌^◌, zero, suc, Bool, cond, true, false, not, ◌||◌, List, [], ◌∷◌, ◌++◌, length, take, drop, refl, sym, ◌∙◌, ap, arith, nat_lt, nat_eq, if◌then◌else◌, append_assoc, length-append, Result, Ok, Err, OnOk, OnErr}
use Rattle.std.proofs.lemmas.List.{append-nil, drop-drop, length-drop, length-take-le, nil_from_length, take-append-drop}
use Rattle.std.proofs.lemmas.Grind.{common_steps}
use Rattle.std.proofs.lemmas.Bool.Decides.{nat_tests}
use Rattle.std.specs.Prelude.{slice_range, is_ok}
use Rattle.std.specs.Str.Lines.{lines}
use Rattle.flow_text.specs.Lines.{line_length}
use Rattle.flow_packet.specs.declared.packet.Kind.TheVariants.{Normal}
use Rattle.flow_packet.specs.Held.{Held, next_id, with_made}
use Rattle.flow_component.specs.declared.Wish.TheVariants.{Deactivate}
use Rattle.flow_component.specs.declared.Fail.TheVariants.{TextLimit}
use Rattle.flow_component.specs.Laws.{Wishes, Fails}
use Rattle.flow_component.specs.Ports.{send_first}
use Rattle.flow_pieces.specs.declared.TheConstants.{PIECE, KEPT_LIMIT}
use Rattle.flow_pieces.specs.ReadPieces.{Pieces, is_sure, after_line, given, reads_piece}
use Rattle.flow_pieces.specs.Kept.{IsLooked, IsCut}
use Rattle.flow_pieces.proofs.Lines.{further, length-behind, lines-behind, at-most, no-lines}

pub reads-made : (held : Held) (x : Pieces) (line : List ℕ) (more : List (List ℕ)) → is_sure x ≡ true → lines x.left ≡ line ∷ more → (TEXT_LIMIT < length line → ⊥)
    → reads_piece held x (is_sure x) ≡ Wishes (after_line x) (with_made held Normal line) (send_first (next_id held))
reads-made held x line more s e short = let t : nat_lt TEXT_LIMIT (length line) ≡ false = grind (arith, nat_tests) in rw (s, e, t) refl

pub reads-long : (held : Held) (x : Pieces) (line : List ℕ) (more : List (List ℕ)) → is_sure x ≡ true → lines x.left ≡ line ∷ more → TEXT_LIMIT < length line
    → reads_piece held x (is_sure x) ≡ Fails x held (TextLimit (length line))
reads-long held x line more s e long = let t : nat_lt TEXT_LIMIT (length line) ≡ true = grind (arith, nat_tests) in rw (s, e, t) refl

pub reads-none : (held : Held) (x : Pieces) → is_sure x ≡ true → lines x.left ≡ [] → reads_piece held x (is_sure x) ≡ Wishes x held Deactivate
reads-none held x s e = rw (s, e) refl

pub sure-ended : (ended : Bool) (left : List ℕ) → ended ≡ true → (ended || nat_lt (line_length left) (length left)) ≡ true
sure-ended ended left e = rw e refl

sure-fed : (ended : Bool) (left : List ℕ) → line_length left < length left → (ended || nat_lt (line_length left) (length left)) ≡ true
sure-fed true left h = refl
sure-fed false left h = grind (arith, nat_tests)

-- No line feed is there, and more may come.
pub unfed : (ended : Bool) (left : List ℕ) → (ended || nat_lt (line_length left) (length left)) ≡ false → (ended ≡ false) × (line_length left ≡ length left)
unfed true left e = (let never : true ≡ false = e in cc)
unfed false left e = (refl, (let most = at-most left in grind (arith, nat_tests)))

stop-test : (stop count n m : ℕ) (v : Bool) → nat_lt n m ≡ v → n + count ≡ m + stop → stop ≤ count → nat_eq stop count ≡ not v
stop-test stop count n m true t e most = grind (arith, nat_tests)
stop-test stop count n m false t e most = grind (arith, nat_tests)

-- The front of bytes without a line feed has none.
plain-by : (bs : List ℕ) (n : ℕ) (v : Bool) → (line_length bs ≡ length bs → line_length (take n bs) ≡ length (take n bs)) → cond v 0 (suc (line_length bs)) ≡ suc (length bs)
    → cond v 0 (suc (line_length (take n bs))) ≡ suc (length (take n bs))
plain-by bs n true go e = absurd (omega (e, arith))
plain-by bs n false go e = ap suc (go (omega (e, arith)))

plain-front : (xs : List ℕ) (n : ℕ) → line_length xs ≡ length xs → line_length (take n xs) ≡ length (take n xs)
plain-front xs zero e = refl
plain-front [] (suc n) e = refl
plain-front (b ∷ bs) (suc n) e = plain-by bs n (nat_eq b 10) (plain-front bs n) e

module _ (bytes cut : List ℕ) (taken looked cut_count : ℕ) (l : IsLooked bytes taken looked) (k : IsCut cut cut_count taken looked) where
  abbrev xs : List ℕ
  xs = drop taken bytes

  abbrev left : List ℕ
  left = cut ++ xs

  rest : length xs ≡ length bytes - taken
  rest = length-drop taken bytes

  line-left : line_length left ≡ length cut + line_length xs
  line-left = length-behind cut xs k.unbroken

  length-left : length left ≡ length cut + length xs
  length-left = length-append cut xs

  -- The place of the line feed, or the end, from where the line begins.
  pub stop-at : (stop : ℕ) → stop ≡ looked + line_length (drop looked bytes) → stop ≡ taken + line_length xs
  stop-at stop e =
      let n = looked - taken in
      let place : taken + n ≡ looked = omega (l.order, arith) in
      let f : line_length xs ≡ n + line_length (drop n xs) = further xs n (omega (l.unbroken, arith)) in
      let same : drop n xs ≡ drop looked bytes = rw (drop-drop, place) refl in
      omega (e, place, f ∙ ap (λ (ys : List ℕ). n + line_length ys) same, arith)

  -- It looked up to there.
  pub looked-on : (stop : ℕ) → stop ≡ looked + line_length (drop looked bytes) → stop ≤ length bytes → IsLooked bytes taken stop × IsCut cut cut_count taken stop
  looked-on stop e most =
      let at = stop-at stop e in (
        record { order = omega (at, arith); within = most; unbroken = omega (at, arith); few = l.few },
        record { count = k.count; unbroken = k.unbroken; long = λ some. ((k.long some).0, omega ((k.long some).1, e, arith)); most = k.most },
      )

  -- A line feed is there.
  pub sure-read : (ended : Bool) (stop : ℕ) → stop ≡ looked + line_length (drop looked bytes) → stop ≤ length bytes → (stop ≡ length bytes → ⊥) → (ended || nat_lt (line_length left) (length left)) ≡ true
  sure-read ended stop e most fed = let at = stop-at stop e in sure-fed ended left (omega (at, rest, line-left, length-left, most, fed, arith))

  -- It wants a piece where none is there.
  pub wants-more : (stop count : ℕ) → stop ≡ looked + line_length (drop looked bytes) → stop ≤ length bytes → count ≡ length bytes → nat_eq stop count ≡ not (false || nat_lt (line_length left) (length left))
  wants-more stop count e most c =
      let at = stop-at stop e in
      stop-test stop count (line_length left) (length left) (nat_lt (line_length left) (length left)) refl (omega (at, rest, line-left, length-left, most, c, l.order, l.within, arith)) (omega (most, c, arith))

  -- Where no line is left in memory nothing is left.
  pub left-none : lines xs ≡ [] → left ≡ []
  left-none none =
      let empty : xs ≡ [] = no-lines xs none in
      let gone : length xs ≡ 0 = ap length empty in
      let r = rest in
      let whole : length cut ≡ 0 = by cut_count refl r gone in
      nil_from_length left (omega (length-left, gone, whole, arith))
    where
      by : (n : ℕ) → n ≡ cut_count → length xs ≡ length bytes - taken → length xs ≡ 0 → length cut ≡ 0
      by zero e r g = omega (e, k.count, arith)
      by (suc n) e r g = (let t = (k.long (omega (e, arith))).1 in absurd (omega (t, r, g, l.within, arith)))

  -- The line of which the front was let go.
  pub left-long : (end : ℕ) (more : List (List ℕ)) → 0 < cut_count → taken ≤ end → end ≤ length bytes → lines xs ≡ slice_range bytes taken end ∷ more
      → (line : List ℕ) × (lines left ≡ line ∷ more) × (length line ≡ cut_count + (end - taken)) × (TEXT_LIMIT < length line)
  left-long end more some order within e =
      let piece = slice_range bytes taken end in
      let long = k.long some in
      let size : length piece ≡ end - taken = length-take-le (end - taken) xs (omega (rest, within, arith)) in
      let whole : length (cut ++ piece) ≡ cut_count + (end - taken) = omega (length-append cut piece, size, k.count, arith) in
      (cut ++ piece, lines-behind cut xs piece more k.unbroken (omega (l.unbroken, long.1, arith)) e, whole, omega (whole, long.0, arith))

  -- Nothing was let go of a line that may be short.
  pub cut-none : (0 < cut_count → ⊥) → cut ≡ []
  cut-none none = nil_from_length cut (by cut_count refl)
    where
      by : (n : ℕ) → n ≡ cut_count → length cut ≡ 0
      by zero e = omega (e, k.count, arith)
      by (suc n) e = absurd (none (omega (e, arith)))

  -- What it has and what it let go, where no line feed is there, once it let go of the bytes in front of a place.
  pub record IsTidied (cut' : List ℕ) (count' front : ℕ) : Type 0 where
    pub within : front ≤ length bytes
    pub same : cut' ++ drop front bytes ≡ left
    pub plain : line_length (drop front bytes) ≡ length (drop front bytes)
    pub few : length (drop front bytes) ≤ TEXT_LIMIT + 1
    pub count : count' ≡ length cut'
    pub unbroken : line_length cut' ≡ length cut'
    pub long : 0 < count' → (TEXT_LIMIT < count') × (0 < length (drop front bytes))
    pub most : count' ≤ 2 ^ 63 + KEPT_LIMIT

  plain-xs : line_length left ≡ length left → line_length xs ≡ length xs
  plain-xs e = omega (e, line-left, length-left, arith)

  -- All that it had was no longer than a packet's text may be: it stays.
  pub tidied-none : line_length left ≡ length left → length bytes - taken ≤ TEXT_LIMIT + 1 → IsTidied cut cut_count taken
  tidied-none e few = record {
    within = omega (l.order, l.within, arith);
    same = refl;
    plain = plain-xs e;
    few = omega (rest, few, arith);
    count = k.count;
    unbroken = k.unbroken;
    long = λ some. (let t = k.long some in (t.0, omega (t.1, rest, l.within, arith)));
    most = k.most;
  }

  -- It was longer: all but its last byte is let go.
  pub tidied-all : (cut' : List ℕ) (count' front : ℕ) → line_length left ≡ length left → TEXT_LIMIT + 1 < length bytes - taken → cut_count ≤ 2 ^ 63 → front ≡ length bytes - 1
      → cut' ≡ cut ++ slice_range bytes taken front → count' ≡ cut_count + (front - taken) → IsTidied cut' count' front
  tidied-all cut' count' front e long small f is n =
      let size = front - taken in
      let place : taken + size ≡ front = omega (f, long, arith) in
      let behind : drop size xs ≡ drop front bytes = rw (drop-drop, place) refl in
      let p = plain-xs e in
      let fit : size ≤ length xs = omega (rest, f, arith) in
      let taken-size : length (take size xs) ≡ size = length-take-le size xs fit in
      let last : length (drop front bytes) ≡ 1 = omega (length-drop front bytes, f, long, arith) in
      let all : length cut' ≡ length cut + size = ap length is ∙ length-append cut (take size xs) ∙ ap (λ (m : ℕ). length cut + m) taken-size in
      let tail : line_length (drop front bytes) ≡ length (drop front bytes) =
      (let g = further xs size (omega (p, fit, arith)) in omega (g, ap line_length behind, ap length behind, length-drop size xs, p, fit, arith)) in
      let whole : cut' ++ drop front bytes ≡ left =
      ap (λ (ys : List ℕ). ys ++ drop front bytes) is ∙ append_assoc cut (take size xs) (drop front bytes)
      ∙ ap (λ (ys : List ℕ). cut ++ (take size xs ++ ys)) (sym behind) ∙ ap (λ (ys : List ℕ). cut ++ ys) (take-append-drop size xs) in
      record {
        within = omega (f, arith);
        same = whole;
        plain = tail;
        few = omega (last, arith);
        count = omega (n, k.count, all, arith);
        unbroken = ap line_length is ∙ length-behind cut (take size xs) k.unbroken ∙ ap (λ (m : ℕ). length cut + m) (plain-front xs size p) ∙ sym (length-append cut (take size xs)) ∙ ap length (sym is);
        long = λ some. (omega (n, f, long, arith), omega (last, arith));
        most = omega (n, small, f, l.few, arith);
      }

  -- And the piece is behind it.
  pub kept-piece : (cut' : List ℕ) (count' front : ℕ) (piece bytes' : List ℕ) → IsTidied cut' count' front → length piece ≤ PIECE → bytes' ≡ drop front bytes ++ piece
      → (n : ℕ) → n ≡ length (drop front bytes) → IsLooked bytes' 0 n × IsCut cut' count' 0 n
  kept-piece cut' count' front piece bytes' t few is n e =
      let size : length bytes' ≡ length (drop front bytes) + length piece = ap length is ∙ length-append (drop front bytes) piece in
      let line : line_length bytes' ≡ length (drop front bytes) + line_length piece = ap line_length is ∙ length-behind (drop front bytes) piece t.plain in (
        record { order = omega arith; within = omega (size, e, arith); unbroken = omega (line, e, arith); few = omega (size, t.few, few, arith) },
        record { count = t.count; unbroken = t.unbroken; long = λ some. (let u = t.long some in (u.0, omega (u.1, e, arith))); most = t.most },
      )

-- The piece that came into memory.
abbrev pub come : {E : Type 0} → Result (Unit {0}) E → List ℕ → List ℕ
come (Ok v) piece = piece
come (Err e) piece = []

pub come-few : {E : Type 0} (r : Result (Unit {0}) E) (piece : List ℕ) → length piece ≤ PIECE → length (come r piece) ≤ PIECE
come-few (Ok v) piece h = h
come-few (Err e) piece h = omega arith

pub come-behind : {E : Type 0} (r : Result (Unit {0}) E) (had piece : List ℕ) → (if is_ok r then had ++ piece else had) ≡ had ++ come r piece
come-behind (Ok v) had piece = refl
come-behind (Err e) had piece = sym (append-nil had)

pub come-ok : {E : Type 0} (r : Result (Unit {0}) E) (gone cut had piece : List ℕ) (over : Bool)
    → OnOk r (◌≡◌ {A = Pieces} (record { gone = gone; left = cut ++ (had ++ come r piece); ended = over; guessed = false }) (given (record { gone = gone; left = cut ++ had; ended = over; guessed = false }) piece))
come-ok (Ok v) gone cut had piece over = λ i. record { gone = gone; left = sym (append_assoc cut had piece) i; ended = over; guessed = false }
come-ok (Err e) gone cut had piece over = tt

pub come-err : {E : Type 0} (r : Result (Unit {0}) E) (gone cut had piece : List ℕ) (over : Bool)
    → OnErr r (◌≡◌ {A = Pieces} (record { gone = gone; left = cut ++ (had ++ come r piece); ended = over; guessed = false }) (record { gone = gone; left = cut ++ had; ended = over; guessed = false }))
come-err (Ok v) gone cut had piece over = tt
come-err (Err e) gone cut had piece over = λ i. record { gone = gone; left = cut ++ append-nil had i; ended = over; guessed = false }

-- The bytes of the line with its line feed, and what is left behind them.
pub record IsLine (bytes : List ℕ) (from next : ℕ) : Type 0 where
  pub gone : slice_range bytes from next ≡ take (suc (line_length (drop from bytes))) (drop from bytes)
  pub left : drop next bytes ≡ drop (suc (line_length (drop from bytes))) (drop from bytes)

take-past : (xs : List ℕ) (n : ℕ) → length xs ≤ n → take n xs ≡ xs
take-past xs n h = grind (arith, common_steps)

drop-past : (xs : List ℕ) (n : ℕ) → length xs ≤ n → drop n xs ≡ []
drop-past xs n h = nil_from_length (drop n xs) (grind (arith, common_steps))

pub line-fed : (bytes : List ℕ) (from stop next : ℕ) → from ≤ length bytes → stop ≡ from + line_length (drop from bytes) → next ≡ stop + 1 → IsLine bytes from next
line-fed bytes from stop next h e n =
    let count : next - from ≡ suc (line_length (drop from bytes)) = omega arith in
    let place : from + suc (line_length (drop from bytes)) ≡ next = omega arith in
    record { gone = ap (λ (m : ℕ). take m (drop from bytes)) count; left = rw (drop-drop, place) refl }

pub line-last : (bytes : List ℕ) (from stop next : ℕ) → from ≤ length bytes → stop ≡ from + line_length (drop from bytes) → stop ≡ length bytes → next ≡ stop → IsLine bytes from next
line-last bytes from stop next h e last n =
    let rest : length (drop from bytes) ≡ length bytes - from = grind (arith, common_steps) in
    record {
      gone = take-past (drop from bytes) (next - from) (omega arith) ∙ sym (take-past (drop from bytes) (suc (line_length (drop from bytes))) (omega arith));
      left = drop-past bytes next (omega arith) ∙ sym (drop-past (drop from bytes) (suc (line_length (drop from bytes))) (omega arith));
    }
