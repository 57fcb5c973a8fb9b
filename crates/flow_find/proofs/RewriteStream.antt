-- What a Rewrite makes of its stream.
use Rattle.std.proofs.Common.{◌≡◌, ℕ, Bool, true, false, List, [], ◌∷◌, ◌++◌, Some, None, if◌then◌else◌, refl, ◌∙◌}
use Rattle.std.specs.List.{flat_map}
use Rattle.flow_packet.specs.declared.packet.Kind.{Kind}
use Rattle.flow_packet.specs.declared.packet.Kind.TheVariants.{Normal, Open, Close}
use Rattle.flow_packet.specs.Tree.{Tree, kind_of, text_of}
use Rattle.flow_component.specs.Runs.{got, text_packet}
use Rattle.flow_pattern.specs.Pattern.{matches}
use Rattle.flow_pattern.specs.Template.{refilled}
use Rattle.flow_map.specs.Becoming.{at_first, at_second, first_as, second_as, mapped, left_out}
use Rattle.flow_map.specs.Plain.{once}
use Rattle.flow_map.proofs.MappingStream.{mapper_meaning}
use Rattle.flow_find.specs.Rewrite.{Rewriting, rewrite_mapping, rewrite_becoming, rewrites_as, rejects_as, rewrites, rejects, RewriteMeaning}
use Rattle.flow_find.specs.RewriteLaws.{rewrite_laws, rewrite_becomes}

at-first : (found rest : Bool) (new : List ℕ) (packet : Tree)
    → at_first (Some rest) (once (if found then Some new else None)) packet ≡ (if found then text_packet new ∷ [] else (if rest then [] else packet ∷ []))
at-first true rest new packet = refl
at-first false true new packet = refl
at-first false false new packet = refl

at-second : (found rest : Bool) (new : List ℕ) (packet : Tree) → at_second (Some rest) (once (if found then Some new else None)) packet ≡ (if found then [] else (if rest then packet ∷ [] else []))
at-second true rest new packet = refl
at-second false true new packet = refl
at-second false false new packet = refl

first-kind : (own : Rewriting) (kind : Kind) (packet : Tree) → first_as rewrite_mapping rewrite_becoming own kind packet ≡ rewrites_as own kind packet
first-kind own Normal packet = at-first (matches own.by.pattern (text_of packet)) own.rest (refilled own.by (text_of packet)) packet
first-kind own Open packet = refl
first-kind own Close packet = refl

second-kind : (own : Rewriting) (kind : Kind) (packet : Tree) → second_as rewrite_mapping rewrite_becoming own kind packet ≡ rejects_as own kind packet
second-kind own Normal packet = at-second (matches own.by.pattern (text_of packet)) own.rest (refilled own.by (text_of packet)) packet
second-kind own Open packet = refl
second-kind own Close packet = refl

all-first : (own : Rewriting) (x : List Tree) → mapped rewrite_mapping rewrite_becoming own x ≡ flat_map (rewrites own) x
all-first own [] = refl
all-first own (packet ∷ x) = λ i. first-kind own (kind_of packet) packet i ++ all-first own x i

all-second : (own : Rewriting) (x : List Tree) → left_out rewrite_mapping rewrite_becoming own x ≡ flat_map (rejects own) x
all-second own [] = refl
all-second own (packet ∷ x) = λ i. second-kind own (kind_of packet) packet i ++ all-second own x i

-- A Rewrite sends what each packet becomes at its outputs.
pub rewrite_meaning : RewriteMeaning
rewrite_meaning own told ended =
    let sent = mapper_meaning rewrite_mapping rewrite_becoming rewrite_laws rewrite_becomes own told ended in
    (sent.0 ∙ all-first own (got 0 told), sent.1 ∙ all-second own (got 0 told))
