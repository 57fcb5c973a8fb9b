-- What components of the simpler sorts make of their streams.
use Rattle.std.proofs.Common.{◌≡◌, ℕ, List, [], ◌∷◌, ◌++◌, map, Option, Some, None, true, false, Bool, if◌then◌else◌, refl, ap, ◌∙◌}
use Rattle.std.specs.Prelude.{◌&&◌}
use Rattle.std.specs.List.{flat_map}
use Rattle.flow_packet.specs.declared.packet.Kind.{Kind}
use Rattle.flow_packet.specs.declared.packet.Kind.TheVariants.{Normal, Open, Close}
use Rattle.flow_packet.specs.Tree.{Tree, kind_of, text_of}
use Rattle.flow_component.specs.Runs.{got}
use Rattle.flow_map.specs.Mapping.{Next, IsMapping}
use Rattle.flow_map.specs.Becoming.{Becoming, IsBecoming, packet_made, first_as, mapped}
use Rattle.flow_map.specs.Plain.{plain_mapping, became_all, became_as, became, PlainMeaning, once_next, once, once_becoming, renewed_if, renewed_as, renewed_by, OnceMeaning}
use Rattle.flow_map.specs.PlainLaws.{once_laws, once_becomes}
use Rattle.flow_map.proofs.MappingStream.{mapper_meaning}

goes-itself : (b : Bool) (packet : Tree) → (if b && true then packet ∷ [] else []) ≡ (if b then packet ∷ [] else [])
goes-itself true packet = refl
goes-itself false packet = refl

one : (new : Option (List ℕ)) (packet : Tree) → became_all (once new) packet ≡ renewed_if new packet ∷ []
one None packet = refl
one (Some text) packet = refl

one-as : (new_text : List ℕ → Option (List ℕ)) (kind : Kind) (packet : Tree) → became_as (λ text. once (new_text text)) kind packet ≡ renewed_as new_text kind packet ∷ []
one-as new_text Normal packet = one (new_text (text_of packet)) packet
one-as new_text Open packet = refl
one-as new_text Close packet = refl

each-one : (new_text : List ℕ → Option (List ℕ)) (x : List Tree) → flat_map (became (λ text. once (new_text text))) x ≡ map (renewed_by new_text) x
each-one new_text [] = refl
each-one new_text (packet ∷ x) = (λ i. one-as new_text (kind_of packet) packet i ++ each-one new_text x i)

module _ {K : Type 0} where
  plain-first : (last_place : K → List ℕ → ℕ) (next : K → List ℕ → ℕ → Next) (becoming : K → List ℕ → ℕ → Becoming) (own : K) (kind : Kind) (packet : Tree)
      → first_as (plain_mapping last_place next) becoming own kind packet ≡ became_as (λ text. becoming own text 0) kind packet
  plain-first last_place next becoming own Normal packet =
      let b = becoming own (text_of packet) 0 in
      ap (λ (x : List Tree). map packet_made b.products ++ x) (goes-itself b.itself packet)
  plain-first last_place next becoming own Open packet = refl
  plain-first last_place next becoming own Close packet = refl

  plain-all : (last_place : K → List ℕ → ℕ) (next : K → List ℕ → ℕ → Next) (becoming : K → List ℕ → ℕ → Becoming) (own : K) (x : List Tree)
      → mapped (plain_mapping last_place next) becoming own x ≡ flat_map (became (λ text. becoming own text 0)) x
  plain-all last_place next becoming own [] = refl
  plain-all last_place next becoming own (packet ∷ x) =
      (λ i. plain-first last_place next becoming own (kind_of packet) packet i ++ plain-all last_place next becoming own x i)

  -- It sends what each packet becomes.
  pub plain_meaning : (last_place : K → List ℕ → ℕ) (next : K → List ℕ → ℕ → Next) (becoming : K → List ℕ → ℕ → Becoming)
      → IsMapping (plain_mapping last_place next) → IsBecoming (plain_mapping last_place next) becoming → PlainMeaning last_place next becoming
  plain_meaning last_place next becoming is so own told ended =
      (mapper_meaning (plain_mapping last_place next) becoming is so own told ended).0 ∙ plain-all last_place next becoming own (got 0 told)

  -- It sends what it gets, each packet renewed.
  pub once_meaning : (new_text : K → List ℕ → Option (List ℕ)) → OnceMeaning new_text
  once_meaning new_text own told ended =
      plain_meaning (λ own text. 0) (λ own text place. once_next (new_text own text)) (once_becoming new_text) (once_laws new_text) (once_becomes new_text) own told ended
      ∙ each-one (new_text own) (got 0 told)
