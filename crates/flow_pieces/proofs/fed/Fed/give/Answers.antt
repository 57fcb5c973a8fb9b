use Rattle.std.proofs.Common.{◌≡◌, false, ap, sym, ◌∙◌, subst}
use Rattle.std.proofs.lemmas.Result.{on_ok_weaker}
use Rattle.flow_pieces.specs.ReadPieces.{is_sure}
use Rattle.flow_pieces.specs.Fed.{Reader}
use Rattle.flow_pieces.specs.FedRoles.{fed_of}
use Rattle.flow_pieces.specs.Tended.{Piece, IsTended, WantsPiece}
use Rattle.flow_pieces.proofs.Reading.{unfed}
use Rattle.flow_pieces.proofs.fed.Fed.give.Goals as goal

pub returns-in-Reader-clause-tended : goal.returns-in-Reader-clause-tended
returns-in-Reader-clause-tended g c =
    let whole = ap fed_of (sym c.in-Reader.is) ∙ c.self.view_is in
    let wants : is_sure c.in-Reader.reader ≡ false = subst (λ f. WantsPiece f) (sym whole) c.requires.wants in
    on_ok_weaker c.give.result (λ is. subst (λ f. IsTended f (Reader c.give.new.self)) whole (Piece c.args.piece.now (unfed c.in-Reader.reader.ended c.in-Reader.reader.left wants).0 is)) c.give.ensures.ok
