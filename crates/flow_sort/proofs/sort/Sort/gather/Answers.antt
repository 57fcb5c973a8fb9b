use Rattle.std.proofs.Common.{◌≡◌, ◌+◌, ℕ, false, arith, nat_eq, refl}
use Rattle.std.proofs.lemmas.Bool.Decides.{nat_tests}
use Rattle.flow_packet.specs.Hands.{height_at}
use Rattle.flow_streams.proofs.Gathering.{attaching, dropped-attaching}
use Rattle.flow_sort.proofs.sort.Sort.gather.Goals as goal

low : (n : ℕ) → (n ≡ 16 → ⊥) → nat_eq n 16 ≡ false
low n h = grind (arith, nat_tests)

pub returns-in-Ok : goal.returns-in-Ok
returns-in-Ok c =
    let h = c.args.hands.now in
    let made : c.attach.new.self ≡ attaching h c.args.carrier c.args.packet (h.spare + 1) = c.in-Ok.ensures.ok in
    let not_high : nat_eq (height_at h.packets c.args.packet) 16 ≡ false = low (height_at h.packets c.args.packet) (λ e. cc (c.in-Ok.ensures.too_deep.1 e)) in
    (rw (made, not_high) refl, rw made (dropped-attaching h c.args.carrier c.args.packet (h.spare + 1) c.requires.two))
