-- What Unique makes of its stream.
use Rattle.std.proofs.Common.{◌≡◌, ℕ, zero, suc, Bool, List, [], ◌∷◌, Option, Some, None, refl, ap, ◌∙◌}
use Rattle.std.specs.Prelude.{not}
use Rattle.flow_packet.specs.declared.packet.Kind.{Kind}
use Rattle.flow_packet.specs.declared.packet.Kind.TheVariants.{Normal, Open, Close}
use Rattle.flow_packet.specs.Tree.{Tree, node, kind_of, text_of}
use Rattle.flow_pick.specs.Places.{Place}
use Rattle.flow_pick.specs.Unique.{UniqueState, is_last, unique_picks, closed, unique_after, unique_picker, last_before, has_text, kept, is_new, fresh_unique}
use Rattle.flow_pick.specs.UniqueLaws.{after-rep}
use Rattle.flow_pick.specs.Meanings.{UniqueMeaning}
use Rattle.flow_pick.proofs.PickingStream.{parted-run}

abbrev text_in : Option Tree → Option (List ℕ)
text_in None = None
text_in (Some packet) = Some (text_of packet)

-- the text that is kept of the substream so many brackets further out
abbrev nth : ℕ → Option (List ℕ) → List (Option (List ℕ)) → Option (List ℕ)
nth zero last outer = last
nth (suc n) last [] = None
nth (suc n) last (o ∷ outer) = nth n o outer

-- The state has the last text of each open substream.
abbrev Recalls : UniqueState → List Tree → Type 0
Recalls state earlier = (n : ℕ) → nth n state.last state.outer ≡ text_in (last_before n earlier)

last-text : (o : Option Tree) (text : List ℕ) → is_last (text_in o) text ≡ has_text o text
last-text None text = refl
last-text (Some packet) text = refl

picks-by : (state : UniqueState) (kind : Kind) (place : Place) → Recalls state place.earlier → unique_picks state kind (text_of place.packet) ≡ kept kind place
picks-by state Normal place r = ap (λ (o : Option (List ℕ)). not (is_last o (text_of place.packet))) (r 0) ∙ ap not (last-text (last_before 0 place.earlier) (text_of place.packet))
picks-by state Open place r = refl
picks-by state Close place r = refl

picks-so : (state : UniqueState) (earlier : List Tree) (packet : Tree) (later : List Tree) → Recalls state earlier
    → unique_picks state (kind_of packet) (text_of packet) ≡ is_new (record { earlier = earlier; packet = packet; later = later })
picks-so state earlier packet later r = picks-by state (kind_of packet) (record { earlier = earlier; packet = packet; later = later }) r

nth-closed : (state : UniqueState) (last : Option (List ℕ)) (outer : List (Option (List ℕ))) (n : ℕ) → nth n (closed state outer).last (closed state outer).outer ≡ nth (suc n) last outer
nth-closed state last [] zero = refl
nth-closed state last [] (suc n) = refl
nth-closed state last (o ∷ outer) n = refl

-- what is kept of a substream further out doesn't change with a packet here
nth-further : (a b : Option (List ℕ)) (outer : List (Option (List ℕ))) (n : ℕ) → nth (suc n) b outer ≡ nth (suc n) a outer
nth-further a b [] n = refl
nth-further a b (o ∷ outer) n = refl

recalls-on : (state : UniqueState) (earlier : List Tree) (packet : Tree) → Recalls state earlier → Recalls (unique_after state (kind_of packet) (text_of packet)) (packet ∷ earlier)
recalls-on state earlier (node id Normal text cs) r zero = refl
recalls-on state earlier (node id Normal text cs) r (suc n) = nth-further state.last (Some text) state.outer n ∙ r (suc n)
recalls-on state earlier (node id Open text cs) r zero = refl
recalls-on state earlier (node id Open text cs) r (suc n) = r n
recalls-on state earlier (node id Close text cs) r zero = nth-closed state state.last state.outer zero ∙ r (suc zero)
recalls-on state earlier (node id Close text cs) r (suc n) = nth-closed state state.last state.outer (suc n) ∙ r (suc (suc n))

nothing-yet : (rep : Bool) → Recalls (fresh_unique rep) []
nothing-yet rep zero = refl
nothing-yet rep (suc n) = refl

-- Over a whole run it sends what its meaning makes of what it got.
pub unique_meaning : UniqueMeaning
unique_meaning rep told ended = parted-run unique_picker after-rep is_new Recalls picks-so recalls-on (fresh_unique rep) told (nothing-yet rep) ended
