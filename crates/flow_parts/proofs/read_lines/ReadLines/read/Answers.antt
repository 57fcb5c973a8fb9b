use Rattle.flow_limits.specs.declared.TheConstants.{TEXT_LIMIT}
use Rattle.std.proofs.Common.{◌≡◌, ◌<◌, ◌∷◌, length, drop, refl, sym, ap, Err, ◌∙◌}
use Rattle.std.specs.Prelude.{slice_range}
use Rattle.std.specs.Str.Lines.{lines}
use Rattle.flow_packet.specs.declared.packet.Kind.TheVariants.{Normal}
use Rattle.flow_packet.specs.Held.{held_of}
use Rattle.flow_component.proofs.Dropping.{making, dropped-making, dropped-same}
use Rattle.flow_text.specs.Lines.{IsNextLine}
use Rattle.flow_parts.proofs.LongLines.{reads-made, reads-long}
use Rattle.flow_parts.proofs.read_lines.ReadLines.read.Goals as goal

pub returns-in-Ok : goal.returns-in-Ok
returns-in-Ok c =
    let h = c.args.hands.now in
    let n : IsNextLine c.self.inside.file.items c.self.inside.taken c.in-Some.end c.in-Some.next = rw (← c.deref.ensures.value) c.in-Some.ensures.some in
    let piece = slice_range c.self.inside.file.items c.self.inside.taken c.in-Some.end in
    let s : c.args.self.now ≡ piece ∷ lines (drop c.in-Some.next c.self.inside.file.items) = sym c.self.view_is ∙ n.first in
    let made : c.make.new.self ≡ making h Normal piece c.make.new.self.spare = rw (← c.deref-2.ensures.value) c.in-Ok.ensures.made in
    let t = slice_range c.deref-2.result.now c.self.inside.taken c.in-Some.end in
    let short : TEXT_LIMIT < length t → ⊥ = λ l. cc ((c.in-Ok.ensures.text_limit (length t)).1 (refl, l)) in
    let q : TEXT_LIMIT < length piece → ⊥ = rw c.deref-2.ensures.value at short in (
      rw (made, c.in-Ok.ensures.id) (sym (reads-made (held_of h) c.args.self.now piece (lines (drop c.in-Some.next c.self.inside.file.items)) s q)),
      rw made (dropped-making h Normal piece c.make.new.self.spare),
    )

pub returns-in-Err-TextLimit : goal.returns-in-Err-TextLimit
returns-in-Err-TextLimit c =
    let h = c.args.hands.now in
    let n : IsNextLine c.self.inside.file.items c.self.inside.taken c.in-Some.end c.in-Some.next = rw (← c.deref.ensures.value) c.in-Some.ensures.some in
    let piece = slice_range c.self.inside.file.items c.self.inside.taken c.in-Some.end in
    let s : c.args.self.now ≡ piece ∷ lines (drop c.in-Some.next c.self.inside.file.items) = sym c.self.view_is ∙ n.first in
    let k = (c.in-Err-TextLimit.ensures.text_limit c.in-Err-TextLimit.length).0 (ap Err c.in-Err-TextLimit.field-0-is) in
    let e : c.in-Err-TextLimit.length ≡ length piece = rw c.deref-2.ensures.value at k.0 in
    let l : TEXT_LIMIT < length piece = rw c.deref-2.ensures.value at k.1 in
    let same : c.make.new.self ≡ h = c.in-Err-TextLimit.ensures.err in
    (rw (same, e) (sym (reads-long (held_of h) c.args.self.now piece (lines (drop c.in-Some.next c.self.inside.file.items)) s l)), rw same (dropped-same h))
