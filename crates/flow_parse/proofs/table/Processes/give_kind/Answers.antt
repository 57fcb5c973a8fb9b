use Rattle.flow_parse.specs.Places.{place_in}
use Rattle.flow_parse.proofs.PlaceLaws.{places_stay}
use Rattle.flow_parse.proofs.table.Processes.give_kind.Goals as goal

pub invariant_of-self : goal.invariant_of-self
invariant_of-self c = places_stay c.self.inside.rows.items c.give_kind.new.known.items (place_in c.self.inside.names.places) c.self.invariant c.give_kind.ensures.names
