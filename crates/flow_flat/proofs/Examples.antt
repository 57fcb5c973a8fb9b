-- What a value with subnets stands for, worked out.
use Rattle.std.proofs.Common.{◌≡◌, ℕ, List, [], ◌∷◌, map, take, Some, None, Ok, Err, refl, slice_get}
use Rattle.std.specs.Prelude.{codes}
use Rattle.std.specs.declared.result.Result.{Result}
use Rattle.flow_plan.specs.declared.kind.PortRef.{PortRef}
use Rattle.flow_parse.specs.declared.value.Statement.TheVariants.{Connect, Initial, InPort, OutPort}
use Rattle.flow_parse.specs.declared.value.NetPart.{NetPart}
use Rattle.flow_parse.specs.declared.value.NetText.{NetText}
use Rattle.flow_flat.specs.declared.fault.ExpandFault.{ExpandFault}
use Rattle.flow_flat.specs.declared.fault.ExpandFault.TheVariants as faults
use Rattle.flow_flat.specs.Subnets.{Instance}
use Rattle.std.specs.Option.{option_map}
use Rattle.flow_flat.specs.Texts.{flat_of, deep_instances, all_instances, all_statements, instance_test, fails_if, given_again}
use Rattle.std.specs.List.{list_any}
use Rattle.std.specs.Str.{bytes_eq}

abbrev port : List ℕ → PortRef
port name = record { name = name; element = None }

-- A pair of a splitter and a filler.
abbrev tele : NetPart
tele = record {
  processes = (codes "W", codes "Words") ∷ (codes "F", codes "Fill") ∷ [];
  statements = InPort (codes "IN") (codes "W") (port (codes "IN")) ∷ Connect (codes "W") (port (codes "OUT")) None (codes "F") (port (codes "IN"))
      ∷ OutPort (codes "F") (port (codes "OUT")) (codes "DONE") ∷ [];
}

-- Two of these, one behind the other.
abbrev pair : NetPart
pair = record {
  processes = (codes "A", codes "Tele") ∷ (codes "B", codes "Tele") ∷ [];
  statements = InPort (codes "IN") (codes "A") (port (codes "IN")) ∷ Connect (codes "A") (port (codes "DONE")) (Some 20) (codes "B") (port (codes "IN"))
      ∷ OutPort (codes "B") (port (codes "DONE")) (codes "OUT") ∷ [];
}

abbrev main_of : List ℕ → NetPart
main_of out = record {
  processes = (codes "R", codes "ReadLines") ∷ (codes "X", codes "Pair") ∷ (codes "Z", codes "WriteLines") ∷ [];
  statements = Connect (codes "R") (port (codes "OUT")) None (codes "X") (port (codes "IN")) ∷ Connect (codes "X") (port out) None (codes "Z") (port (codes "IN")) ∷ Initial (codes "f") (codes "R") (port (codes "FILE")) ∷ [];
}

abbrev text_of : List ℕ → NetText
text_of out = record { version = 1; subnets = (codes "Tele", tele) ∷ (codes "Pair", pair) ∷ []; main = main_of out }

-- The inner names, the outer ports resolved twice, the order.
written_out : flat_of (text_of (codes "OUT")) ≡ record {
  processes = (codes "R", codes "ReadLines") ∷ (codes "X.A.W", codes "Words") ∷ (codes "X.A.F", codes "Fill") ∷ (codes "X.B.W", codes "Words") ∷ (codes "X.B.F", codes "Fill") ∷ (codes "Z", codes "WriteLines") ∷ [];
  statements = Connect (codes "R") (port (codes "OUT")) None (codes "X.A.W") (port (codes "IN")) ∷ Connect (codes "X.B.F") (port (codes "OUT")) None (codes "Z") (port (codes "IN")) ∷ Initial (codes "f") (codes "R") (port (codes "FILE"))
      ∷ Connect (codes "X.A.F") (port (codes "OUT")) (Some 20) (codes "X.B.W") (port (codes "IN"))
      ∷ Connect (codes "X.A.W") (port (codes "OUT")) None (codes "X.A.F") (port (codes "IN")) ∷ Connect (codes "X.B.W") (port (codes "OUT")) None (codes "X.B.F") (port (codes "IN")) ∷ [];
}
written_out = refl

-- An outer port that isn't there.
refused : slice_get (all_statements (text_of (codes "DONE"))) 1 ≡ Some (Err (faults.OuterPort (codes "X") (port (codes "DONE"))))
refused = refl

abbrev one_of : List ℕ → List ℕ → NetPart
one_of name kind = record { processes = (name, kind) ∷ []; statements = [] }

-- A subnet inside itself, met one level down.
abbrev round : NetText
round = record { version = 1; subnets = (codes "S", one_of (codes "P") (codes "S")) ∷ []; main = one_of (codes "M") (codes "S") }

abbrev met : Instance → Result (Unit {0}) ExpandFault
met x = fails_if (list_any (bytes_eq x.kind) x.inside) (faults.Recursive x.kind)

met_inside_itself : map met (deep_instances round) ≡ Ok tt ∷ Err (faults.Recursive (codes "S")) ∷ []
met_inside_itself = refl

-- Nine subnets inside one another.
abbrev nine : NetText
nine = record {
  version = 1;
  subnets = (codes "S1", one_of (codes "P") (codes "S2")) ∷ (codes "S2", one_of (codes "P") (codes "S3")) ∷ (codes "S3", one_of (codes "P") (codes "S4")) ∷ (codes "S4", one_of (codes "P") (codes "S5"))
      ∷ (codes "S5", one_of (codes "P") (codes "S6")) ∷ (codes "S6", one_of (codes "P") (codes "S7")) ∷ (codes "S7", one_of (codes "P") (codes "S8")) ∷ (codes "S8", one_of (codes "P") (codes "S9")) ∷ (codes "S9", one_of (codes "P") (codes "Hoard")) ∷ [];
  main = one_of (codes "M") (codes "S1");
}

too_deep : option_map (instance_test nine [] (take 9 (all_instances nine))) (slice_get (all_instances nine) 9) ≡ Some (Err (faults.Depth (codes "M.P.P.P.P.P.P.P.P.P")))
too_deep = refl

not_too_deep : option_map (instance_test nine [] (take 8 (all_instances nine))) (slice_get (all_instances nine) 8) ≡ Some (Ok tt)
not_too_deep = refl

-- The first outer name that is given a second time.
twice : given_again [] (InPort (codes "IN") (codes "W") (port (codes "IN")) ∷ OutPort (codes "F") (port (codes "OUT")) (codes "IN") ∷ InPort (codes "IN") (codes "F") (port (codes "IN")) ∷ []) ≡ Some (codes "IN")
twice = refl
