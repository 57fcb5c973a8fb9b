use Rattle.flow_draw.specs.Words.{asked_by}
use Rattle.flow_draw.proofs.Tops.{asks-as, caused, nothing-read, shown-read}
use Rattle.flow_draw.proofs.top.picture.Goals as goal

pub returns-in-Err : goal.returns-in-Err
returns-in-Err g c = nothing-read (g.F.Edge.outside c.args.shelf.now)

pub returns-in-Err-scene_of : goal.returns-in-Err-scene_of
returns-in-Err-scene_of g c =
    let asks = asks-as c.args.words.now _ c.in-Ok-Some.asked c.in-Ok-Some.ensures c.in-Ok-Some.field-0-is in
    caused c.args.own.now c.args.words.now (g.F.Edge.outside c.args.shelf.now) (g.F.Edge.outside c.scene_of.new.shelf) (asked_by c.in-Ok-Some.asked) c.in-Err-scene_of.stop
    asks c.in-Err-scene_of.ensures

pub returns-in-Ok-spelled : goal.returns-in-Ok-spelled
returns-in-Ok-spelled g c = record {
  asked = asked_by c.in-Ok-Some.asked;
  asks = asks-as c.args.words.now _ c.in-Ok-Some.asked c.in-Ok-Some.ensures c.in-Ok-Some.field-0-is;
  plan = c.in-Ok.scene.plan;
  remarks = c.in-Ok.scene.remarks;
  shows = c.in-Ok.ensures;
  is = c.in-Ok-spelled.ensures;
}

pub returns : goal.returns
returns g c =
    let asked = asked_by c.in-Ok-Some.asked in
    shown-read c.args.own.now (g.F.Edge.outside c.args.shelf.now) (g.F.Edge.outside c.scene_of.new.shelf) asked.net asked.journal c.in-Ok.scene.plan c.in-Ok.scene.remarks
    c.in-Ok.ensures
