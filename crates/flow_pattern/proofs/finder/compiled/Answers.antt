use Rattle.std.proofs.Common.{◌≡◌, vec_len, option_map, string_bytes, arith, rules}
use Rattle.std.proofs.lemmas.List.{length-map}
use Rattle.regex.proofs.CompilableLemmas.{compilable, groups_named}
use Rattle.flow_pattern.specs.Pattern.{pattern_options}
use Rattle.flow_pattern.proofs.Readings.{alike}
use Rattle.flow_pattern.proofs.finder.compiled.Goals as goal

pub returns-in-Ok-new : goal.returns-in-Ok-new
returns-in-Ok-new c =
    let reads = rw c.in-Ok.is at c.in_ok-hir.ensures.reads in
    rw c.in-Ok-new.ensures.pattern (alike c.args.source.now c.in-Ok.field-0.hir _ reads)

pub unreachable-requires-in-Err-Malformed : goal.unreachable-requires-in-Err-Malformed
unreachable-requires-in-Err-Malformed c =
    let parsed = c.in-Ok.field-0 in
    let reads = rw c.in-Ok.is at c.in_ok-hir.ensures.reads in
    let formed = rw c.in-Ok.is at c.in_ok-hir.ensures.formed in
    let some = rw c.in-Ok.is at c.in_ok-hir.ensures.group_zero in
    let counted : c.in-Ok-try_from.groups ≡ vec_len parsed.names = search rules in
    let named = groups_named pattern_options c.args.source.now parsed.hir _ reads in
    c.in-Err-Malformed.ensures.whole
    (compilable pattern_options.utf8 c.in-Ok-try_from.groups parsed.hir formed (omega (arith, counted, named, parsed.names.ok.0, length-map parsed.names.items (option_map string_bytes))))
    (omega (arith, counted, some)) (omega arith) c.in-Err-Malformed.field-0-is
