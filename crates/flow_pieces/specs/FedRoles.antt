-- The component that a value of the program's type is.
use Rattle.flow_pieces.specs.Fed.{Fed, Reader, Writer, Other}
use Rattle.flow_pieces.specs.declared.fed.Role.{Role}
use Rattle.flow_pieces.specs.declared.fed.Role.TheVariants as roles

-- By its role.
abbrev pub fed_of : {K : Type 0} → Role K → Fed K
fed_of (roles.Reader reader) = Reader reader
fed_of (roles.Writer writer) = Writer writer
fed_of (roles.Other component) = Other component
