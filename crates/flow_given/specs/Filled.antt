-- A shelf over another one, on which one name holds a text that isn't the one below.
use Rattle.std.specs.Prelude.{◌≡◌, ℕ, List, drop, Option, Some, None, Bool, true, false, not, ◌&&◌, ◌||◌, if◌then◌else◌}
use Rattle.std.specs.Str.{bytes_eq}
use Rattle.flow_text.specs.Edge.{Outside, Name, Logged}

-- What the shelf below tells, but for contents and for the files that it opened; the name and its text, whether an open gave that, whether that is the file that is read, and how much of it was; and the files that were opened here.
pub record Filled : Type 0 where
  pub open_below : Option Name
  pub read_faults : ℕ
  pub last_read_fault : Option Name
  pub created_name : Option Name
  pub write_faults : ℕ
  pub last_write_fault : Option Name
  pub created : List Logged
  pub name : Name
  pub text : List ℕ
  pub given : Bool
  pub reading : Bool
  pub at : ℕ
  pub opened : List Logged

-- A shelf over one that tells this.
abbrev pub over : Outside → Name → List ℕ → Bool → Bool → ℕ → List Logged → Filled
over below name text given reading at opened = record {
  open_below = below.open_name;
  read_faults = below.read_faults;
  last_read_fault = below.last_read_fault;
  created_name = below.created_name;
  write_faults = below.write_faults;
  last_write_fault = below.last_write_fault;
  created = below.created;
  name = name;
  text = text;
  given = given;
  reading = reading;
  at = at;
  opened = opened;
}

-- What it tells: of the text that is read what is left, and otherwise no content, as real files don't; all else is what stands below.
abbrev pub outside_of : Filled → Outside
outside_of s = record {
  open_name = if s.reading then Some s.name else s.open_below;
  left = if s.reading then Some (drop s.at s.text) else None;
  read_faults = s.read_faults;
  last_read_fault = s.last_read_fault;
  created_name = s.created_name;
  taken = None;
  write_faults = s.write_faults;
  last_write_fault = s.last_write_fault;
  files = None;
  opened = s.opened;
  created = s.created;
}

-- An open of this name gives the text: no open gave it before.
abbrev pub gives_text : Filled → Name → Bool
gives_text s name = bytes_eq name s.name && not s.given

-- An open of this name gave the text once: the first one of the name gave it, from its beginning on, and any other opened the file of its name below.
pub record GivesOnce (old new : Filled) (name : Name) : Type 0 where
  pub reads : new.reading ≡ gives_text old name
  pub from_the_first : gives_text old name ≡ true → new.at ≡ 0
  pub below : gives_text old name ≡ false → new.open_below ≡ Some name
  pub no_more : new.given ≡ (old.given || gives_text old name)
  pub same : (new.name ≡ old.name) × (new.text ≡ old.text)
