use Rattle.std.proofs.Common.{refl}
use Rattle.flow_words.specs.Pages.{version_lines, text_of}
use Rattle.flow_words.proofs.pages.version_line.Goals as goal

pub returns : goal.returns
unfolding text_of version_lines
returns c = refl
