use Rattle.std.proofs.Common.{◌≡◌, ◌<◌, true, false, get_or, length, map, sym, ◌∙◌, ap, add-one, arith}
use Rattle.std.proofs.Math.ListN.{get_or-map}
use Rattle.std.proofs.lemmas.List.{length-map}
use Rattle.std.specs.Prelude.{string_bytes}
use Rattle.std.specs.Str.{bytes_eq}
use Rattle.std.proofs.lemmas.Slice.Eq.{bytes_eq-Decides}
use Rattle.flow_text.specs.Folder.{Named, named}
use Rattle.flow_text.proofs.Held.{first-at, none-more}
use Rattle.flow_text.proofs.folder.place_of.Goals as goal

pub returns-then-eq : goal.returns-then-eq
returns-then-eq c =
    let d = c.index-files-place.result in
    let files = c.args.files.now in
    let text = c.as_str.result.now in
    let same : bytes_eq text c.args.name.now ≡ true = sym c.eq.ensures ∙ c.if-eq.true in
    let is : text ≡ c.args.name.now = (bytes_eq-Decides text c.args.name.now).0 same in
    let at : text ≡ (get_or (map named files) c.loop-place.place (named d)).0 =
    c.as_str.ensures.value ∙ ap (λ e. string_bytes e.0) c.index-files-place.is ∙ ap (λ (e : Named). e.0) (sym (get_or-map named files c.loop-place.place d)) in
    let lt : c.loop-place.place < length (map named files) = omega (arith, length-map files named) in
    record {
      within = c.loop-place-test.true;
      first = first-at (map named files) c.args.name.now c.loop-place.place (named d) c.loop-place.invariant lt (sym at ∙ is);
    }

pub loop-place-preserved : goal.loop-place-preserved
loop-place-preserved c =
    let d = c.index-files-place.result in
    let files = c.args.files.now in
    let text = c.as_str.result.now in
    let at : text ≡ (get_or (map named files) c.loop-place.place (named d)).0 =
    c.as_str.ensures.value ∙ ap (λ e. string_bytes e.0) c.index-files-place.is ∙ ap (λ (e : Named). e.0) (sym (get_or-map named files c.loop-place.place d)) in
    let differ : bytes_eq (get_or (map named files) c.loop-place.place (named d)).0 c.args.name.now ≡ false =
    ap (λ t. bytes_eq t c.args.name.now) (sym at) ∙ sym c.eq.ensures ∙ c.if-eq.false in
    let lt : c.loop-place.place < length (map named files) = omega (arith, length-map files named) in
    rw add-one (none-more (map named files) c.args.name.now c.loop-place.place (named d) c.loop-place.invariant lt differ)
