use Rattle.std.proofs.Common.{cond, Some, ap, ◌∙◌, List, ℕ}
use Rattle.std.specs.Str.{bytes_eq}
use Rattle.flow_parse.specs.Places.{place_in}
use Rattle.flow_parse.proofs.PlaceLaws.{put_place}
use Rattle.flow_parse.proofs.names.Names.put.Goals as goal

pub returns-clause-ok : goal.returns-clause-ok
returns-clause-ok c = λ other. put_place c.args.self.now.places c.insert.new.self c.in_ok-key.key c.args.place c.in_ok-insert.ensures.updates other
    ∙ ap (λ (l : List ℕ). cond (bytes_eq l other) (Some c.args.place) (place_in c.args.self.now.places other)) c.in_ok-key.ensures.items
