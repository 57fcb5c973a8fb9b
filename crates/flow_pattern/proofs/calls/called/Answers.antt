use Rattle.std.proofs.Common.{ℕ, nat_lt, option_map, string_bytes, sym, ap, ◌∙◌}
use Rattle.std.specs.Bool.{then_some}
use Rattle.std.proofs.lemmas.List.{length-map}
use Rattle.regex.specs.Names.{names_of}
use Rattle.flow_pattern.proofs.Calling.{by_number, by_name}
use Rattle.flow_pattern.proofs.calls.called.Goals as goal

pub returns-in-Some : goal.returns-in-Some
returns-in-Some c =
    let number = c.in-Some.number in
    let names = c.args.names.now in
    c.then_some.ensures ∙ ap (λ (n : ℕ). then_some (nat_lt number n) number) (sym (length-map names (option_map string_bytes)))
    ∙ sym (by_number (names_of names) c.args.name.now number (sym c.number_in.ensures ∙ c.in-Some.is))

pub returns-in-None : goal.returns-in-None
returns-in-None c =
    c.first_with.ensures ∙ sym (by_name (option_map string_bytes) c.args.names.now c.args.name.now (sym c.number_in.ensures ∙ c.in-None.is))
