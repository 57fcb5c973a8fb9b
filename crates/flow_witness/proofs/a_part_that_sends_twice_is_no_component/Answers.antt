use Rattle.std.proofs.Common.{◌≡◌, ℕ, ◌+◌, ◌<◌, ◌≤◌, [], Some, None, refl, arith, Bool, true, false, if◌then◌else◌, ◌==◌, sym, subst}
use Rattle.std.proofs.lemmas.Bool.Decides.{nat_tests}
use Rattle.flow_packet.specs.declared.packet.Kind.TheVariants as kinds
use Rattle.flow_packet.specs.Tree.{Tree, packet_of}
use Rattle.flow_packet.specs.Held.{Held, Sound, with_packet, without_packet}
use Rattle.flow_packet.specs.Ids.{maker_of, ordinal_of}
use Rattle.flow_component.specs.declared.Answer.TheVariants as answers
use Rattle.flow_component.specs.Laws.{Wishes}
use Rattle.flow_component.specs.Ports.{receive_first, send_first}
use Rattle.flow_witness.specs.Twice.{TwiceIsRefused}
use Rattle.flow_witness.proofs.a_part_that_sends_twice_is_no_component.Goals as goal

-- the first packet of process 1, in the hands of process 0
abbrev packet : Tree
packet = packet_of 4294967296 kinds.Normal [] []

abbrev empty : Held
empty = record { maker = 0; made = 0; packets = [] }

abbrev got : Held
got = with_packet empty packet

abbrev gone : Held
gone = without_packet got 4294967296

if_one : (b : Bool) → (if b then 1 else 0) + 0 ≤ 1
if_one true = omega arith
if_one false = omega arith

sound_got : Sound got
sound_got = record {
  once = λ id. if_one (4294967296 == id);
  counted = omega arith;
  below = λ id in_it made. below_it (4294967296 == id) id refl in_it made;
} where
  below_it : (same : Bool) (id : ℕ) → (4294967296 == id) ≡ same → 0 < (if same then 1 else 0) + 0 → maker_of id ≡ 0 → ordinal_of id < 0
  below_it true id same in_it made =
      let is : 4294967296 ≡ id = grind (arith, nat_tests) in
      let first : maker_of 4294967296 ≡ 0 = subst (λ n. maker_of n ≡ 0) (sym is) made in
      absurd (omega (arith, first))
  below_it false id same in_it made = absurd (omega arith)

sound_gone : Sound gone
sound_gone = record {
  once = λ id. omega arith;
  counted = omega arith;
  below = λ id in_it made. absurd (omega arith);
}

pub refused : TwiceIsRefused
refused claims laws starts =
    let start = starts empty refl in
    let received = laws.stays_ready None empty answers.Start (Wishes None empty receive_first) start refl in
    let holding = received.1 packet sound_got in
    let sent = laws.stays_ready None got (answers.Got 4294967296) (Wishes (Some 4294967296) got (send_first 4294967296)) holding refl in
    let again = sent sound_gone in
    let law = laws.obeys (Some 4294967296) gone answers.Sent (Wishes None gone (send_first 4294967296)) again refl in
    (let there : false ≡ true = law.1.1 in cc)

pub returns : goal.returns
returns c = refused
