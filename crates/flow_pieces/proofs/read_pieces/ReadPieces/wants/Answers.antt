use Rattle.std.proofs.Common.{◌≡◌, ◌≤◌, ◌+◌, ◌++◌, ◌||◌, Bool, false, length, nat_lt, drop, not, ap, sym, ◌∙◌, arith}
use Rattle.flow_text.specs.Lines.{line_length}
use Rattle.flow_pieces.specs.ReadPieces.{Pieces, is_sure}
use Rattle.flow_pieces.proofs.Reading.{wants-more}
use Rattle.flow_pieces.proofs.read_pieces.ReadPieces.wants.Goals as goal

pub returns-then-not-self : goal.returns-then-not-self
returns-then-not-self c =
    let x = c.self.inside in
    let bytes = x.bytes.items in
    let run : c.line_end.result ≡ x.looked + line_length (drop x.looked bytes) = rw (← c.deref.ensures.value) c.line_end.ensures.run in
    let most : c.line_end.result ≤ length bytes = rw (← c.deref.ensures.value) c.line_end.ensures.most in
    let count : c.len.result ≡ length bytes = omega (arith, c.len.ensures, x.bytes.ok.0) in
    let w =
    wants-more bytes x.cut.bytes x.taken x.looked x.cut_count c.self.invariant.0 c.self.invariant.1 c.line_end.result c.len.result run most count in
    let more : x.ended ≡ false = grind (c.if-not-self.true, arith) in
    w ∙ ap (λ (over : Bool). not (over || nat_lt (line_length (x.cut.bytes ++ drop x.taken bytes)) (length (x.cut.bytes ++ drop x.taken bytes)))) (sym more)
    ∙ ap (λ (y : Pieces). not (is_sure y)) c.self.view_is
