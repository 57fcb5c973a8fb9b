use Rattle.flow_limits.specs.declared.TheConstants.{TEXT_LIMIT}
use Rattle.std.proofs.Common.{◌≡◌, ◌<◌, ◌≤◌, ◌+◌, ◌++◌, ◌∷◌, [], ℕ, List, true, false, length, drop, take, suc, refl, sym, ap, Err, ◌∙◌, arith}
use Rattle.std.specs.Prelude.{slice_range}
use Rattle.std.specs.Str.Lines.{lines}
use Rattle.flow_packet.specs.declared.packet.Kind.TheVariants.{Normal}
use Rattle.flow_packet.specs.Held.{held_of, next_id}
use Rattle.flow_component.specs.Laws.{Wishes, Fails}
use Rattle.flow_component.specs.declared.Fail.TheVariants.{TextLimit}
use Rattle.flow_component.specs.declared.Wish.TheVariants.{Deactivate}
use Rattle.flow_component.specs.Ports.{send_first}
use Rattle.flow_component.proofs.Dropping.{making, dropped-making, dropped-same}
use Rattle.flow_text.specs.Lines.{IsNextLine, line_length}
use Rattle.flow_pieces.specs.ReadPieces.{Pieces, is_sure, after_line}
use Rattle.flow_pieces.proofs.Reading.{reads-made, reads-long, reads-none, stop-at, looked-on, sure-read, sure-ended, left-none, left-long, cut-none, IsLine, line-fed, line-last}
use Rattle.flow_pieces.proofs.read_pieces.ReadPieces.read.Goals as goal
use Rattle.flow_pieces.proofs.read_pieces.ReadPieces.read.Goals.{else-stop-count-via-then-stop-count+else-not-self, else-stop-count-via-else-stop-count, then-stop-count-2, else-stop-count-2}

pub invariant_of-self : goal.invariant_of-self
invariant_of-self c =
    let x = c.self.inside in
    let run : c.line_end-stop.result ≡ x.looked + line_length (drop x.looked x.bytes.items) = rw (← c.deref.ensures.value) c.line_end-stop.ensures.run in
    let most : c.line_end-stop.result ≤ length x.bytes.items = rw (← c.deref.ensures.value) c.line_end-stop.ensures.most in
    looked-on x.bytes.items x.cut.bytes x.taken x.looked x.cut_count c.self.invariant.0 c.self.invariant.1 c.line_end-stop.result run most

pub invariant_of-self-in_default : goal.invariant_of-self-in_default
invariant_of-self-in_default c =
    let x = c.self.inside in
    let run : c.line_end-stop.result ≡ x.looked + line_length (drop x.looked x.bytes.items) = rw (← c.deref.ensures.value) c.line_end-stop.ensures.run in
    let most : c.line_end-stop.result ≤ length x.bytes.items = rw (← c.deref.ensures.value) c.line_end-stop.ensures.most in
    looked-on x.bytes.items x.cut.bytes x.taken x.looked x.cut_count c.self.invariant.0 c.self.invariant.1 c.line_end-stop.result run most

pub give_back-requires : goal.give_back-requires
give_back-requires c =
    let x = c.self.inside in
    let none : lines (drop x.taken x.bytes.items) ≡ [] = rw (← c.deref-2.ensures.value) c.in_default.ensures.none in
    left-none x.bytes.items x.cut.bytes x.taken x.looked x.cut_count c.self.invariant.0 c.self.invariant.1 none

pub returns-in_default : goal.returns-in_default
returns-in_default c =
    let x = c.self.inside in
    let y = c.args.self.now in
    let run : c.line_end-stop.result ≡ x.looked + line_length (drop x.looked x.bytes.items) = rw (← c.deref.ensures.value) c.line_end-stop.ensures.run in
    let most : c.line_end-stop.result ≤ length x.bytes.items = rw (← c.deref.ensures.value) c.line_end-stop.ensures.most in
    let count : c.len-count.result ≡ length x.bytes.items = omega (arith, c.len-count.ensures, x.bytes.ok.0) in
    let sure : is_sure c.args.self.now ≡ true = ap is_sure (sym c.self.view_is) ∙ (elim c.else-stop-count.branch [
      | else-stop-count-via-then-stop-count+else-not-self w ↦ sure-ended x.ended (x.cut.bytes ++ drop x.taken x.bytes.items) w.if-not-self.false
      | else-stop-count-via-else-stop-count w ↦ sure-read x.bytes.items x.cut.bytes x.taken x.looked x.cut_count c.self.invariant.0 c.self.invariant.1 x.ended c.line_end-stop.result run most (λ e. w.if-stop-count.false (e ∙ sym count))
    ]) in
    let none : lines (drop x.taken x.bytes.items) ≡ [] = rw (← c.deref-2.ensures.value) c.in_default.ensures.none in
    let nothing : y.left ≡ [] = ap (λ (z : Pieces). z.left) (sym c.self.view_is) ∙ left-none x.bytes.items x.cut.bytes x.taken x.looked x.cut_count c.self.invariant.0 c.self.invariant.1 none in
    let held = held_of c.args.hands.now in
    (ap (λ (z : Pieces). Wishes z held Deactivate) (c.give_back.ensures ∙ c.self.view_is) ∙ sym (reads-none held y sure (ap lines nothing)), dropped-same c.args.hands.now)

pub invariant_of-self-then-self-gt0 : goal.invariant_of-self-then-self-gt0
invariant_of-self-then-self-gt0 c =
    let x = c.self.inside in
    let run : c.line_end-stop.result ≡ x.looked + line_length (drop x.looked x.bytes.items) = rw (← c.deref.ensures.value) c.line_end-stop.ensures.run in
    let most : c.line_end-stop.result ≤ length x.bytes.items = rw (← c.deref.ensures.value) c.line_end-stop.ensures.most in
    looked-on x.bytes.items x.cut.bytes x.taken x.looked x.cut_count c.self.invariant.0 c.self.invariant.1 c.line_end-stop.result run most

pub returns-then-self-gt0 : goal.returns-then-self-gt0
returns-then-self-gt0 c =
    let x = c.self.inside in
    let y = c.args.self.now in
    let run : c.line_end-stop.result ≡ x.looked + line_length (drop x.looked x.bytes.items) = rw (← c.deref.ensures.value) c.line_end-stop.ensures.run in
    let most : c.line_end-stop.result ≤ length x.bytes.items = rw (← c.deref.ensures.value) c.line_end-stop.ensures.most in
    let count : c.len-count.result ≡ length x.bytes.items = omega (arith, c.len-count.ensures, x.bytes.ok.0) in
    let sure : is_sure c.args.self.now ≡ true = ap is_sure (sym c.self.view_is) ∙ (elim c.else-stop-count.branch [
      | else-stop-count-via-then-stop-count+else-not-self w ↦ sure-ended x.ended (x.cut.bytes ++ drop x.taken x.bytes.items) w.if-not-self.false
      | else-stop-count-via-else-stop-count w ↦ sure-read x.bytes.items x.cut.bytes x.taken x.looked x.cut_count c.self.invariant.0 c.self.invariant.1 x.ended c.line_end-stop.result run most (λ e. w.if-stop-count.false (e ∙ sym count))
    ]) in
    let n : IsNextLine x.bytes.items x.taken c.in-Some.end c.in-Some.field-0-1 = rw (← c.deref-2.ensures.value) c.in-Some.ensures.some in
    let long = left-long x.bytes.items x.cut.bytes x.taken x.looked x.cut_count c.self.invariant.0 c.self.invariant.1 c.in-Some.end (lines (drop c.in-Some.field-0-1 x.bytes.items)) c.if-self-gt0.true n.order n.within n.first in
    let is : lines y.left ≡ long.0 ∷ lines (drop c.in-Some.field-0-1 x.bytes.items) = ap (λ (z : Pieces). lines z.left) (sym c.self.view_is) ∙ long.1 in
    let held = held_of c.args.hands.now in
    ((λ i. Fails (c.self.view_is i) held (TextLimit (sym long.2 i))) ∙ sym (reads-long held y long.0 (lines (drop c.in-Some.field-0-1 x.bytes.items)) sure is long.3), dropped-same c.args.hands.now)

pub invariant_of-self-in-Err-TextLimit : goal.invariant_of-self-in-Err-TextLimit
invariant_of-self-in-Err-TextLimit c =
    let x = c.self.inside in
    let run : c.line_end-stop.result ≡ x.looked + line_length (drop x.looked x.bytes.items) = rw (← c.deref.ensures.value) c.line_end-stop.ensures.run in
    let most : c.line_end-stop.result ≤ length x.bytes.items = rw (← c.deref.ensures.value) c.line_end-stop.ensures.most in
    looked-on x.bytes.items x.cut.bytes x.taken x.looked x.cut_count c.self.invariant.0 c.self.invariant.1 c.line_end-stop.result run most

pub invariant_of-self-in-Err-NoMemory : goal.invariant_of-self-in-Err-NoMemory
invariant_of-self-in-Err-NoMemory c =
    let x = c.self.inside in
    let run : c.line_end-stop.result ≡ x.looked + line_length (drop x.looked x.bytes.items) = rw (← c.deref.ensures.value) c.line_end-stop.ensures.run in
    let most : c.line_end-stop.result ≤ length x.bytes.items = rw (← c.deref.ensures.value) c.line_end-stop.ensures.most in
    looked-on x.bytes.items x.cut.bytes x.taken x.looked x.cut_count c.self.invariant.0 c.self.invariant.1 c.line_end-stop.result run most

pub returns-in-Ok : goal.returns-in-Ok
returns-in-Ok c =
    let x = c.self.inside in
    let y = c.args.self.now in
    let h = c.args.hands.now in
    let bytes = x.bytes.items in
    let stop = c.line_end-stop.result in
    let next = c.if-stop-count-2.next in
    let run : c.line_end-stop.result ≡ x.looked + line_length (drop x.looked x.bytes.items) = rw (← c.deref.ensures.value) c.line_end-stop.ensures.run in
    let most : c.line_end-stop.result ≤ length x.bytes.items = rw (← c.deref.ensures.value) c.line_end-stop.ensures.most in
    let count : c.len-count.result ≡ length x.bytes.items = omega (arith, c.len-count.ensures, x.bytes.ok.0) in
    let sure : is_sure c.args.self.now ≡ true = ap is_sure (sym c.self.view_is) ∙ (elim c.else-stop-count.branch [
      | else-stop-count-via-then-stop-count+else-not-self w ↦ sure-ended x.ended (x.cut.bytes ++ drop x.taken x.bytes.items) w.if-not-self.false
      | else-stop-count-via-else-stop-count w ↦ sure-read x.bytes.items x.cut.bytes x.taken x.looked x.cut_count c.self.invariant.0 c.self.invariant.1 x.ended c.line_end-stop.result run most (λ e. w.if-stop-count.false (e ∙ sym count))
    ]) in
    let n : IsNextLine x.bytes.items x.taken c.in-Some.end c.in-Some.field-0-1 = rw (← c.deref-2.ensures.value) c.in-Some.ensures.some in
    let none : x.cut.bytes ≡ [] = cut-none x.bytes.items x.cut.bytes x.taken x.looked x.cut_count c.self.invariant.0 c.self.invariant.1 (λ some. omega (some, c.if-self-gt0.false, arith)) in
    let here : y.left ≡ drop x.taken bytes = ap (λ (z : Pieces). z.left) (sym c.self.view_is) ∙ ap (λ (l : List ℕ). l ++ drop x.taken bytes) none in
    let piece = slice_range bytes x.taken c.in-Some.end in
    let s : lines y.left ≡ piece ∷ lines (drop c.in-Some.field-0-1 bytes) = ap lines here ∙ n.first in
    let made : c.make.new.self ≡ making h Normal piece c.make.new.self.spare = rw (← c.deref-3.ensures.value) c.in-Ok.ensures.made in
    let t = slice_range c.deref-3.result.now x.taken c.in-Some.end in
    let short : TEXT_LIMIT < length t → ⊥ = λ l. cc ((c.in-Ok.ensures.text_limit (length t)).1 (refl, l)) in
    let q : TEXT_LIMIT < length piece → ⊥ = rw c.deref-3.ensures.value at short in
    let at = stop-at x.bytes.items x.cut.bytes x.taken x.looked x.cut_count c.self.invariant.0 c.self.invariant.1 stop run in
    let within : x.taken ≤ length bytes = omega (c.self.invariant.0.order, c.self.invariant.0.within, arith) in
    let line : IsLine bytes x.taken next = elim c.if-stop-count-2.branch [
      | then-stop-count-2 w ↦ line-fed bytes x.taken stop next within at w.next-is
      | else-stop-count-2 w ↦ line-last bytes x.taken stop next within at (omega (w.if-stop-count-2.false, count, most, arith)) w.next-is
    ] in
    let more : c.and-self-inside.result.bytes ≡ x.gone.bytes ++ slice_range bytes x.taken next = rw (← c.deref-in-Ok.ensures.value) c.and-self-inside.ensures in
    let line-of : List ℕ → List ℕ = λ l. take (suc (line_length l)) l in
    let gone : c.and-self-inside.result.bytes ≡ y.gone ++ line-of y.left =
    more ∙ ap (λ (l : List ℕ). x.gone.bytes ++ l) line.gone ∙ (λ i. (c.self.view_is i).gone ++ line-of (sym here i)) in
    let left : x.cut.bytes ++ drop next bytes ≡ drop (suc (line_length y.left)) y.left =
    ap (λ (l : List ℕ). l ++ drop next bytes) none ∙ line.left ∙ ap (λ (l : List ℕ). drop (suc (line_length l)) l) (sym here) in
    let new : Pieces = record { gone = c.and-self-inside.result.bytes; left = x.cut.bytes ++ drop next bytes; ended = x.ended; guessed = false } in
    let after : new ≡ after_line y = (λ i. record { gone = gone i; left = left i; ended = (c.self.view_is i).ended; guessed = (c.self.view_is i).guessed }) in (
      rw (made, c.in-Ok.ensures.id) (ap (λ (z : Pieces). Wishes z (held_of (making h Normal piece c.make.new.self.spare)) (send_first (next_id (held_of h)))) after
          ∙ sym (reads-made (held_of h) y piece (lines (drop c.in-Some.field-0-1 bytes)) sure s q)),
      rw made (dropped-making h Normal piece c.make.new.self.spare),
    )

pub returns-in-Err-TextLimit : goal.returns-in-Err-TextLimit
returns-in-Err-TextLimit c =
    let x = c.self.inside in
    let y = c.args.self.now in
    let h = c.args.hands.now in
    let bytes = x.bytes.items in
    let run : c.line_end-stop.result ≡ x.looked + line_length (drop x.looked x.bytes.items) = rw (← c.deref.ensures.value) c.line_end-stop.ensures.run in
    let most : c.line_end-stop.result ≤ length x.bytes.items = rw (← c.deref.ensures.value) c.line_end-stop.ensures.most in
    let count : c.len-count.result ≡ length x.bytes.items = omega (arith, c.len-count.ensures, x.bytes.ok.0) in
    let sure : is_sure c.args.self.now ≡ true = ap is_sure (sym c.self.view_is) ∙ (elim c.else-stop-count.branch [
      | else-stop-count-via-then-stop-count+else-not-self w ↦ sure-ended x.ended (x.cut.bytes ++ drop x.taken x.bytes.items) w.if-not-self.false
      | else-stop-count-via-else-stop-count w ↦ sure-read x.bytes.items x.cut.bytes x.taken x.looked x.cut_count c.self.invariant.0 c.self.invariant.1 x.ended c.line_end-stop.result run most (λ e. w.if-stop-count.false (e ∙ sym count))
    ]) in
    let n : IsNextLine x.bytes.items x.taken c.in-Some.end c.in-Some.field-0-1 = rw (← c.deref-2.ensures.value) c.in-Some.ensures.some in
    let none : x.cut.bytes ≡ [] = cut-none x.bytes.items x.cut.bytes x.taken x.looked x.cut_count c.self.invariant.0 c.self.invariant.1 (λ some. omega (some, c.if-self-gt0.false, arith)) in
    let here : y.left ≡ drop x.taken bytes = ap (λ (z : Pieces). z.left) (sym c.self.view_is) ∙ ap (λ (l : List ℕ). l ++ drop x.taken bytes) none in
    let piece = slice_range bytes x.taken c.in-Some.end in
    let s : lines y.left ≡ piece ∷ lines (drop c.in-Some.field-0-1 bytes) = ap lines here ∙ n.first in
    let k = (c.in-Err-TextLimit.ensures.text_limit c.in-Err-TextLimit.length).0 (ap Err c.in-Err-TextLimit.field-0-is) in
    let e : c.in-Err-TextLimit.length ≡ length piece = rw c.deref-3.ensures.value at k.0 in
    let l : TEXT_LIMIT < length piece = rw c.deref-3.ensures.value at k.1 in
    let same : c.make.new.self ≡ h = c.in-Err-TextLimit.ensures.err in
    ((λ i. Fails (c.self.view_is i) (held_of (same i)) (TextLimit (e i))) ∙ sym (reads-long (held_of h) y piece (lines (drop c.in-Some.field-0-1 bytes)) sure s l), rw same (dropped-same h))
