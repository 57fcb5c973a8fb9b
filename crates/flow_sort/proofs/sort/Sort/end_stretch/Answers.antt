use Rattle.std.proofs.Common.{◌<◌, subst, sym, ap, arith}
use Rattle.flow_packet.specs.Hands.{Holding}
use Rattle.flow_packet.specs.Held.{Held, held_of}
use Rattle.flow_component.specs.declared.Answer.TheVariants.{Sent}
use Rattle.flow_sort.specs.Sort.{SortState, Carries}
use Rattle.flow_sort.specs.SortLaws.{sorted-carries}
use Rattle.flow_sort.proofs.Unloading.{is-sorted, unloaded}
use Rattle.flow_sort.proofs.sort.Sort.end_stretch.Goals as goal

pub unload-requires : goal.unload-requires
unload-requires c =
    let s = is-sorted c.self.inside.bytes c.args.carrier c.args.hands.now c.reserve.new.self c.sort_chain.new.self c.in-Ok.ensures.stays c.in-Ok-sort_chain.ensures.ok in
    record { carries = subst (λ (h : Held). Carries h c.args.carrier c.args.bracket) (sym s.held) (sorted-carries c.self.inside.bytes (held_of c.args.hands.now) c.args.carrier c.args.bracket c.requires.carries) }

pub returns : goal.returns
returns c =
    let s = is-sorted c.self.inside.bytes c.args.carrier c.args.hands.now c.reserve.new.self c.sort_chain.new.self c.in-Ok.ensures.stays c.in-Ok-sort_chain.ensures.ok in
    let state : SortState = record { bytes = c.self.inside.bytes; place = c.self.inside.place } in
    let room : 0 < c.sort_chain.new.self.spare = omega (arith, ap (λ (h : Holding). h.spare) c.in-Ok-sort_chain.ensures.ok.only, c.in-Ok.ensures.ok) in
    let sends = rw (← c.self.view_is) at c.unload.ensures.sends in
    rw (← c.self.view_is) (record { sends = unloaded state c.unload.new.self c.args.carrier c.args.bracket c.args.hands.now c.sort_chain.new.self c.unload.new.hands Sent c.unload.result s sends (c.unload.ensures.memory room) })
