-- What Head makes of its stream.
use Rattle.std.proofs.Common.{◌≡◌, ℕ, ◌+◌, Bool, true, false, List, ◌∷◌, min, refl, ◌∙◌, arith, nat_lt, if◌then◌else◌}
use Rattle.std.specs.Prelude.{◌||◌}
use Rattle.std.proofs.lemmas.Bool.Decides.{nat_tests}
use Rattle.flow_packet.specs.declared.packet.Kind.{Kind}
use Rattle.flow_packet.specs.declared.packet.Kind.TheVariants.{Normal, Open, Close}
use Rattle.flow_packet.specs.Tree.{Tree, kind_of, text_of}
use Rattle.flow_pick.specs.Places.{is_bracket, one_longer, stretch}
use Rattle.flow_pick.specs.Head.{HeadState, head_picks, head_after, head_picker, is_among_first, fresh_head}
use Rattle.flow_pick.specs.HeadLaws.{after-rest}
use Rattle.flow_pick.specs.Meanings.{HeadMeaning}
use Rattle.flow_pick.proofs.PickingStream.{parted-run}

-- so many of this stretch were passed on
abbrev Recalls : ℕ → HeadState → List Tree → Type 0
Recalls count state earlier = (state.count ≡ count) × (state.passed ≡ min (stretch earlier) count)

fewer : (n count : ℕ) → nat_lt (min n count) count ≡ nat_lt n count
fewer n count = grind (arith, nat_tests)

picks-by : (count : ℕ) (state : HeadState) (kind : Kind) (text : List ℕ) (n : ℕ) → state.count ≡ count → state.passed ≡ min n count → head_picks state kind text ≡ (is_bracket kind || nat_lt n count)
picks-by count state Normal text n c p = (λ i. nat_lt (p i) (c i)) ∙ fewer n count
picks-by count state Open text n c p = refl
picks-by count state Close text n c p = refl

picks-so : (count : ℕ) (state : HeadState) (earlier : List Tree) (packet : Tree) (later : List Tree) → Recalls count state earlier
    → head_picks state (kind_of packet) (text_of packet) ≡ is_among_first count (record { earlier = earlier; packet = packet; later = later })
picks-so count state earlier packet later r = picks-by count state (kind_of packet) (text_of packet) (stretch earlier) r.0 r.1

one-more : (b : Bool) (n count : ℕ) → nat_lt (min n count) count ≡ b → (if b then min n count + 1 else min n count) ≡ min (n + 1) count
one-more true n count e = grind (arith, nat_tests)
one-more false n count e = grind (arith, nat_tests)

recalls-by : (count : ℕ) (state : HeadState) (kind : Kind) (text : List ℕ) (n : ℕ) → state.count ≡ count → state.passed ≡ min n count
    → ((head_after state kind text).count ≡ count) × ((head_after state kind text).passed ≡ min (one_longer kind n) count)
recalls-by count state Normal text n c p = (c, (λ i. if nat_lt (p i) (c i) then p i + 1 else p i) ∙ one-more (nat_lt (min n count) count) n count refl)
recalls-by count state Open text n c p = (c, omega arith)
recalls-by count state Close text n c p = (c, omega arith)

recalls-on : (count : ℕ) (state : HeadState) (earlier : List Tree) (packet : Tree) → Recalls count state earlier → Recalls count (head_after state (kind_of packet) (text_of packet)) (packet ∷ earlier)
recalls-on count state earlier packet r = recalls-by count state (kind_of packet) (text_of packet) (stretch earlier) r.0 r.1

-- Over a whole run it sends what its meaning makes of what it got.
pub head_meaning : HeadMeaning
head_meaning count rest told ended = parted-run head_picker after-rest (is_among_first count) (Recalls count) (picks-so count) (recalls-on count) (fresh_head count rest) told (refl, omega arith) ended
