use Rattle.std.proofs.Common.{◌≡◌, ◌<◌, ◌≤◌, length, arith, sym, ap, ◌∙◌}
use Rattle.flow_packet.specs.Held.{held_of}
use Rattle.flow_pick.specs.TailState.{TailState}
use Rattle.flow_pick.specs.Tail.{held_by}
use Rattle.flow_pick.proofs.Carrying.{Adds, adds, Takes, takes, held-all, held-left, held-dropped, carries-apart}
use Rattle.flow_pick.proofs.tail.Tail.hold.Goals as goal

pub attach-requires-clause-different : goal.attach-requires-clause-different
attach-requires-clause-different c = carries-apart (held_of c.args.hands.now) c.args.carrier c.args.self.now.count c.args.packet c.requires.carries

pub returns-then-chain_len-self : goal.returns-then-chain_len-self
returns-then-chain_len-self c =
    let h = c.args.hands.now in
    let mid = c.attach.new.self in
    let count : c.self.inside.count ≡ c.args.self.now.count = ap (λ (s : TailState). s.count) c.self.view_is in
    let a : Adds h mid c.args.carrier c.args.packet = adds h mid c.args.carrier c.args.self.now.count c.args.packet _ c.requires.carries c.in_default.ensures.ok in
    let few : length (held_by (held_of mid) c.args.carrier) ≤ c.args.self.now.count = omega (arith, c.chain_len.ensures, c.if-chain_len-self.true, count) in
    held-all c.args.self.now h mid c.args.carrier c.args.packet a (λ e. cc (c.in_default.ensures.too_deep.1 e)) few

pub returns-then-self : goal.returns-then-self
returns-then-self c =
    let h = c.args.hands.now in
    let mid = c.attach.new.self in
    let count : c.self.inside.count ≡ c.args.self.now.count = ap (λ (s : TailState). s.count) c.self.view_is in
    let rest : c.self.inside.rest ≡ c.args.self.now.rest = ap (λ (s : TailState). s.rest) c.self.view_is in
    let a : Adds h mid c.args.carrier c.args.packet = adds h mid c.args.carrier c.args.self.now.count c.args.packet _ c.requires.carries c.in_default.ensures.ok in
    let many : c.args.self.now.count < length (held_by (held_of mid) c.args.carrier) = omega (arith, c.chain_len.ensures, c.if-chain_len-self.false, count) in
    let first = rw c.in-Ok-Some.field-0-is at c.in-Ok-Some.ensures.first in
    let ok = rw c.in-Ok-Some.field-0-is at c.in-Ok-Some.ensures.ok in
    let t : Takes mid c.detach.new.self c.args.carrier c.in-Ok-Some.first = takes mid c.args.carrier c.in-Ok-Some.first c.detach.new.self a.packets _ a.holds first ok in
    held-left c.args.self.now h mid c.detach.new.self c.args.carrier c.args.packet c.in-Ok-Some.first a t (λ e. cc (c.in_default.ensures.too_deep.1 e)) many (sym rest ∙ c.if-self.true)

pub returns : goal.returns
returns c =
    let h = c.args.hands.now in
    let mid = c.attach.new.self in
    let count : c.self.inside.count ≡ c.args.self.now.count = ap (λ (s : TailState). s.count) c.self.view_is in
    let rest : c.self.inside.rest ≡ c.args.self.now.rest = ap (λ (s : TailState). s.rest) c.self.view_is in
    let a : Adds h mid c.args.carrier c.args.packet = adds h mid c.args.carrier c.args.self.now.count c.args.packet _ c.requires.carries c.in_default.ensures.ok in
    let many : c.args.self.now.count < length (held_by (held_of mid) c.args.carrier) = omega (arith, c.chain_len.ensures, c.if-chain_len-self.false, count) in
    let first = rw c.in-Ok-Some.field-0-is at c.in-Ok-Some.ensures.first in
    let ok = rw c.in-Ok-Some.field-0-is at c.in-Ok-Some.ensures.ok in
    let t : Takes mid c.detach.new.self c.args.carrier c.in-Ok-Some.first = takes mid c.args.carrier c.in-Ok-Some.first c.detach.new.self a.packets _ a.holds first ok in
    held-dropped c.args.self.now h mid c.detach.new.self c.drop_packet.new.self c.args.carrier c.args.packet c.in-Ok-Some.first a t (λ e. cc (c.in_default.ensures.too_deep.1 e)) many (sym rest ∙ c.if-self.false) _ c.drop_packet.ensures
