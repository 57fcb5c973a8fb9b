-- What Where makes of its stream.
use Rattle.std.proofs.Common.{◌≡◌, Bool, true, false, List, [], ◌∷◌, ◌++◌, refl, ap, ◌∙◌}
use Rattle.std.specs.Prelude.{not, filter, if◌then◌else◌}
use Rattle.flow_packet.specs.Tree.{Tree, kind_of, text_of}
use Rattle.flow_component.specs.Runs.{got}
use Rattle.flow_decimal.specs.declared.bound.Bound.{Bound}
use Rattle.flow_pick.specs.Places.{Place, picked_behind}
use Rattle.flow_pick.proofs.PickingStream.{one_of, picked-first, parted-run}
use Rattle.flow_where.specs.Where.{WhereState, accepts, where_picker}
use Rattle.flow_where.specs.Meanings.{accepts_packet, WhereMeaning}

kept-first : (b : Bool) (packet : Tree) (later : List Tree) → one_of b packet ++ later ≡ (if b then packet ∷ later else later)
kept-first true packet later = refl
kept-first false packet later = refl

-- what is picked by each packet alone is the same as what passes a test
picked-alone : (test : Tree → Bool) (earlier x : List Tree) → picked_behind (λ (place : Place). test place.packet) earlier x ≡ filter test x
picked-alone test earlier [] = refl
picked-alone test earlier (packet ∷ later) =
    picked-first (λ (place : Place). test place.packet) earlier packet later
    ∙ ap (λ (rest : List Tree). one_of (test packet) packet ++ rest) (picked-alone test (packet ∷ earlier) later)
    ∙ kept-first (test packet) packet (filter test later)

-- it has this bound always
abbrev Recalls : Bound → WhereState → List Tree → Type 0
Recalls bound state earlier = state.bound ≡ bound

-- Over a whole run it sends what its meaning makes of what it got.
pub where_meaning : WhereMeaning
where_meaning bound rejects told ended =
    let picks : Place → Bool = λ place. accepts_packet bound place.packet in
    let parted = parted-run where_picker (λ state kind text. refl) picks (Recalls bound)
    (λ state earlier packet later r. ap (λ (b : Bound). accepts b (kind_of packet) (text_of packet)) r)
    (λ state earlier packet r. r)
    (record { bound = bound; rejects = rejects }) told refl ended in
    record {
      accepts_those = parted.picks_some ∙ picked-alone (accepts_packet bound) [] (got 0 told);
      rejects_others = λ is. parted.leaves_others is ∙ picked-alone (λ packet. not (accepts_packet bound packet)) [] (got 0 told);
      silent = λ is. parted.drops_others is;
    }
