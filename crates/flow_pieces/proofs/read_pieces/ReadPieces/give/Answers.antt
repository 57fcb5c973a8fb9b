use Rattle.std.proofs.Common.{◌≡◌, ◌+◌, ◌-◌, ◌++◌, ℕ, List, length, drop, ap, sym, ◌∙◌, arith, false, subst}
use Rattle.std.specs.Prelude.{slice_range}
use Rattle.std.proofs.lemmas.Result.{on_ok_weaker, on_err_weaker}
use Rattle.flow_pieces.specs.ReadPieces.{Pieces, is_sure, given}
use Rattle.flow_pieces.proofs.Reading.{IsTidied, tidied-none, tidied-all, kept-piece, unfed, come, come-few, come-behind, come-ok, come-err}
use Rattle.flow_pieces.proofs.read_pieces.ReadPieces.give.Goals as goal
use Rattle.flow_pieces.proofs.read_pieces.ReadPieces.give.Goals.{then-count-front+else-self-gt-CUT_LIMIT, else-count-front}

-- What it has once it let go of the front.
tidied : (c : goal.After-extend_from_slice) → let x = c.self.inside in let y = c.if-count-front.self-inside in
    IsTidied x.bytes.items x.cut.bytes x.taken x.looked x.cut_count c.self.invariant.0 c.self.invariant.1 y.cut.bytes y.cut_count c.if-count-front.front
    × (y.bytes.items ≡ x.bytes.items) × (y.ended ≡ x.ended) × (y.gone.bytes ≡ x.gone.bytes)
tidied c =
    let x = c.self.inside in
    let y = c.if-count-front.self-inside in
    let bytes = x.bytes.items in
    let count : c.len-count.result ≡ length bytes = omega (arith, c.len-count.ensures, x.bytes.ok.0) in
    let plain = (unfed x.ended (x.cut.bytes ++ drop x.taken bytes) (ap is_sure c.self.view_is ∙ c.requires.wants)).1 in
    elim c.if-count-front.branch [
      | then-count-front+else-self-gt-CUT_LIMIT w ↦ (let a = w.self-inside-is in let front : c.if-count-front.front ≡ length bytes - 1 = omega (w.front-is, count, arith) in
          let cut : y.cut.bytes ≡ x.cut.bytes ++ slice_range bytes x.taken c.if-count-front.front = ap (λ z. z.cut.bytes) a ∙ w.and-self-inside.ensures
          ∙ (λ i. x.cut.bytes ++ slice_range (w.deref.ensures.value i) x.taken (sym w.front-is i)) in
          let all : y.cut_count ≡ x.cut_count + (c.if-count-front.front - x.taken) = ap (λ z. z.cut_count) a ∙ ap (λ (n : ℕ). x.cut_count + (n - x.taken)) (sym w.front-is) in (
            tidied-all bytes x.cut.bytes x.taken x.looked x.cut_count c.self.invariant.0 c.self.invariant.1 y.cut.bytes y.cut_count c.if-count-front.front plain (omega (w.if-count-front.true, count, arith)) w.if-self-gt-CUT_LIMIT.false front cut all,
            ap (λ z. z.bytes.items) a,
            ap (λ z. z.ended) a,
            ap (λ z. z.gone.bytes) a,
          ))
      | else-count-front w ↦ (let a : y ≡ x = w.self-inside-is in
          let t = tidied-none bytes x.cut.bytes x.taken x.looked x.cut_count c.self.invariant.0 c.self.invariant.1 plain (omega (w.if-count-front.false, count, arith)) in
          let front = subst (λ (n : ℕ). IsTidied bytes x.cut.bytes x.taken x.looked x.cut_count c.self.invariant.0 c.self.invariant.1 x.cut.bytes x.cut_count n) (sym w.front-is) t in (
            subst (λ z. IsTidied bytes x.cut.bytes x.taken x.looked x.cut_count c.self.invariant.0 c.self.invariant.1 z.cut.bytes z.cut_count c.if-count-front.front) (sym a) front,
            ap (λ z. z.bytes.items) a,
            ap (λ z. z.ended) a,
            ap (λ z. z.gone.bytes) a,
          ))
    ]

-- What it has in memory then.
had : (c : goal.After-extend_from_slice) → c.drop_front.new.bytes.items ≡ drop c.if-count-front.front c.self.inside.bytes.items
had c = c.drop_front.ensures ∙ ap (drop c.if-count-front.front) (tidied c).1

has : (c : goal.After-extend_from_slice) → c.extend_from_slice.new.self.items ≡ drop c.if-count-front.front c.self.inside.bytes.items ++ come c.extend_from_slice.result c.args.piece.now
has c =
    c.extend_from_slice.ensures.items ∙ come-behind c.extend_from_slice.result c.drop_front.new.bytes.items c.args.piece.now ∙ ap (λ (l : List ℕ). l ++ come c.extend_from_slice.result c.args.piece.now) (had c)

-- Without the piece it is what it was.
before : (c : goal.After-extend_from_slice) → let y = c.if-count-front.self-inside in
    ◌≡◌ {A = Pieces} (record { gone = y.gone.bytes; left = y.cut.bytes ++ drop c.if-count-front.front c.self.inside.bytes.items; ended = y.ended; guessed = false }) c.args.self.now
before c = let t = tidied c in (λ i. record { gone = t.3 i; left = t.0.same i; ended = t.2 i; guessed = false }) ∙ c.self.view_is

-- With what came it is this.
after : (c : goal.After-extend_from_slice) → let y = c.if-count-front.self-inside in
    ◌≡◌ {A = Pieces} (record { gone = y.gone.bytes; left = y.cut.bytes ++ c.extend_from_slice.new.self.items; ended = y.ended; guessed = false })
    (record { gone = y.gone.bytes; left = y.cut.bytes ++ (drop c.if-count-front.front c.self.inside.bytes.items ++ come c.extend_from_slice.result c.args.piece.now); ended = y.ended; guessed = false })
after c = let y = c.if-count-front.self-inside in (λ i. record { gone = y.gone.bytes; left = y.cut.bytes ++ has c i; ended = y.ended; guessed = false })

pub invariant_of-self : goal.invariant_of-self
invariant_of-self c =
    let x = c.self.inside in
    let y = c.if-count-front.self-inside in
    let r = c.extend_from_slice.result in
    let count : c.len-self-inside.result ≡ length (drop c.if-count-front.front x.bytes.items) = omega (arith, c.len-self-inside.ensures, c.drop_front.new.bytes.ok.0, ap length (had c)) in
    kept-piece x.bytes.items x.cut.bytes x.taken x.looked x.cut_count c.self.invariant.0 c.self.invariant.1 y.cut.bytes y.cut_count c.if-count-front.front (come r c.args.piece.now)
    c.extend_from_slice.new.self.items (tidied c).0 (come-few r c.args.piece.now c.requires.few) (has c) c.len-self-inside.result count

pub returns-clause-ok : goal.returns-clause-ok
returns-clause-ok c =
    let y = c.if-count-front.self-inside in
    let rest = drop c.if-count-front.front c.self.inside.bytes.items in
    on_ok_weaker c.extend_from_slice.result (λ e. after c ∙ e ∙ ap (λ (z : Pieces). given z c.args.piece.now) (before c)) (come-ok c.extend_from_slice.result y.gone.bytes y.cut.bytes rest c.args.piece.now y.ended)

pub returns-clause-err : goal.returns-clause-err
returns-clause-err c =
    let y = c.if-count-front.self-inside in
    let rest = drop c.if-count-front.front c.self.inside.bytes.items in
    on_err_weaker c.extend_from_slice.result (λ e. after c ∙ e ∙ before c) (come-err c.extend_from_slice.result y.gone.bytes y.cut.bytes rest c.args.piece.now y.ended)
