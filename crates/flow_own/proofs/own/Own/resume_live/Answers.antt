use Rattle.std.proofs.Common.{rules, ◌≡◌, ◌<◌, length, None}
use Rattle.flow_limits.specs.declared.TheConstants.{TAPE_LIMIT}
use Rattle.flow_own.specs.Tapes.{OwnValue}
use Rattle.flow_own.proofs.Writable.{taped-own}
use Rattle.flow_own.proofs.own.Own.resume_live.Goals as goal

pub invariant_of-self : goal.invariant_of-self
invariant_of-self g c =
    let none : c.self.inside.place ≡ None = c.self.invariant.live (search rules) in
    let within : length c.self.inside.tape < TAPE_LIMIT = c.self.invariant.limit none (search rules) in
    let own : OwnValue = record { part = None; place = c.self.inside.place; tape = c.self.inside.tape; shape = c.self.inside.shape; used = c.as_slice.result.now } in
    let r = taped-own g.P.Part.resumed own (g.P.Part.seen c.in-Some.part) (g.P.Part.seen c.record.new.part) c.record.new.tape c.args.hands.now c.record.new.hands c.args.answer c.record.result none within (c.self.invariant.recorded none) c.record.ensures in
    record { live = r.live; limit = r.limit; recorded = r.recorded }
