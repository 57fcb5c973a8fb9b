-- A ReadLines and a WriteLines are among the standard components.
use Rattle.flow_catalogue.specs.declared.standard.Std.TheVariants as components
use Rattle.flow_catalogue.specs.Std.{std_rules}
use Rattle.flow_rounds.specs.Whole.{HaveFiles}

-- So all that is said of networks that are fed holds of those of standard components.
abbrev pub StandardHaveFiles : Type 0
StandardHaveFiles = HaveFiles std_rules components.ReadLines components.WriteLines
