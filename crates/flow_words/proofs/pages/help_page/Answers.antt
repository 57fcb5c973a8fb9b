use Rattle.std.proofs.Common.{refl}
use Rattle.flow_words.specs.Pages.{help_lines, text_of}
use Rattle.flow_words.proofs.pages.help_page.Goals as goal

pub returns : goal.returns
unfolding text_of help_lines
returns c = refl
