-- Which values are values of files.
use Rattle.flow_limits.specs.declared.TheConstants.{LAST_ELEMENT, STATEMENT_LIMIT, TEXT_LIMIT}
use Rattle.std.specs.Prelude.{◌≡◌, ◌≢◌, ℕ, ◌+◌, ◌≤◌, List, [], ◌∷◌, map, length, Option, Some, None, true, false, ◌⊎◌}
use Rattle.std.specs.Str.{bytes_eq}
use Rattle.std.specs.List.{AllByRecursion, list_any, sum_by}
use Rattle.flow_plan.specs.declared.kind.PortRef.{PortRef}
use Rattle.flow_plan.specs.Network.{automatic_input, automatic_output}
use Rattle.flow_parse.specs.declared.value.TheConstants.{FIRST_VERSION, SECOND_VERSION, THIRD_VERSION}
use Rattle.flow_parse.specs.declared.value.Statement.{Statement}
use Rattle.flow_parse.specs.declared.value.Statement.TheVariants.{Connect, Initial, InPort, OutPort}
use Rattle.flow_parse.specs.declared.value.NetPart.{NetPart}
use Rattle.flow_parse.specs.declared.value.NetText.{NetText}
use Rattle.flow_parse.specs.Spelling.{is_word_byte}
use Rattle.flow_parse.specs.Names.{is_name, capacity_limit}

-- A name is made of letters, digits and _, begins with a letter, has at most NAME_LIMIT bytes and is not reserved.
abbrev pub IsName : List ℕ → Type 0
IsName word = (is_name word ≡ true) × AllByRecursion (λ b. is_word_byte b ≡ true) word

-- The number, where there is one, lies between these.
abbrev pub IsWithin : ℕ → ℕ → Option ℕ → Type 0
IsWithin least most None = Unit {0}
IsWithin least most (Some n) = (least ≤ n) × (n ≤ most)

-- A port has a name, and its element, where it has one, is at most LAST_ELEMENT.
abbrev pub IsPort : PortRef → Type 0
IsPort port = IsName port.name × IsWithin 0 LAST_ELEMENT port.element

-- What a connection names in a file of this version: a port, or from version 2 on the automatic one.
abbrev pub IsOneEnd : ℕ → PortRef → PortRef → Type 0
IsOneEnd version automatic port = IsPort port ⊎ ((SECOND_VERSION ≤ version) × (port ≡ automatic))

-- An output that a connection names.
abbrev pub IsOutput : ℕ → PortRef → Type 0
IsOutput version port = IsOneEnd version automatic_output port

-- An input that a connection names.
abbrev pub IsInput : ℕ → PortRef → Type 0
IsInput version port = IsOneEnd version automatic_input port

-- A text that stands within one line: no byte 10, and at most TEXT_LIMIT bytes.
abbrev pub IsQuotable : List ℕ → Type 0
IsQuotable text = AllByRecursion (λ b. b ≢ 10) text × (length text ≤ TEXT_LIMIT)

-- Each word of a statement is a name, its elements and its capacity lie within their bounds, those of this version, and its text stands
-- within one line.
abbrev pub IsStatement : ℕ → Statement → Type 0
IsStatement version (Connect from out capacity to into) = IsName from × IsOutput version out × IsWithin 1 (capacity_limit version) capacity × IsName to × IsInput version into
IsStatement version (Initial text to into) = IsQuotable text × IsName to × IsPort into
IsStatement version (InPort outer to into) = IsName outer × IsName to × IsPort into
IsStatement version (OutPort from out outer) = IsName from × IsPort out × IsName outer

-- The processes that a statement names.
abbrev pub names_of : Statement → List (List ℕ)
names_of (Connect from out capacity to into) = from ∷ to ∷ []
names_of (Initial text to into) = to ∷ []
names_of (InPort outer to into) = to ∷ []
names_of (OutPort from out outer) = from ∷ []

-- The statement gives a subnet no outer port, so it may stand in the main part too.
abbrev pub IsInner : Statement → Type 0
IsInner (InPort outer to into) = ⊥
IsInner (OutPort from out outer) = ⊥
IsInner _ = Unit {0}

-- No two of these names are the same.
abbrev pub Differ : List (List ℕ) → Type 0
Differ [] = Unit {0}
Differ (name ∷ names) = AllByRecursion (λ other. bytes_eq name other ≡ false) names × Differ names

-- The statement names processes of the part alone.
abbrev pub NamesKnown : List (List ℕ × List ℕ) → Statement → Type 0
NamesKnown processes statement = AllByRecursion (λ name. list_any (λ (p : List ℕ × List ℕ). bytes_eq p.0 name) processes ≡ true) (names_of statement)

-- A part has processes with different names, each with a kind that is a name, and statements of them alone.
pub record IsNetPart (version : ℕ) (part : NetPart) : Type 0 where
  pub named : AllByRecursion (λ (p : List ℕ × List ℕ). IsName p.0 × IsName p.1) part.processes
  pub differ : Differ (map (λ p. p.0) part.processes)
  pub said : AllByRecursion (IsStatement version) part.statements
  pub known : AllByRecursion (NamesKnown part.processes) part.statements

-- A value has version 1, 2 or 3, subnets under different names, no outer port in its main part, and at most STATEMENT_LIMIT statements in all.
pub record IsNetText (value : NetText) : Type 0 where
  pub version : (value.version ≡ FIRST_VERSION) ⊎ (value.version ≡ SECOND_VERSION) ⊎ (value.version ≡ THIRD_VERSION)
  pub subnets : AllByRecursion (λ (s : List ℕ × NetPart). IsName s.0 × IsNetPart value.version s.1) value.subnets
  pub differ : Differ (map (λ s. s.0) value.subnets)
  pub main : IsNetPart value.version value.main
  pub inner : AllByRecursion IsInner value.main.statements
  pub count : length value.main.statements + sum_by (λ (s : List ℕ × NetPart). length s.1.statements) value.subnets ≤ STATEMENT_LIMIT
