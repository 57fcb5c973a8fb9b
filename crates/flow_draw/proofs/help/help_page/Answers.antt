use Rattle.std.proofs.Common.{refl}
use Rattle.flow_words.specs.Pages.{text_of}
use Rattle.flow_draw.specs.Help.{help_lines}
use Rattle.flow_draw.proofs.help.help_page.Goals as goal

pub returns : goal.returns
unfolding text_of help_lines
returns c = refl
