use Rattle.flow_map.specs.Letters.{new_letters}
use Rattle.flow_map.proofs.PlainStream.{once_meaning}
use Rattle.flow_map.proofs.meanings.letters_keeps_its_meaning.Goals as goal

pub returns : goal.returns
returns c = once_meaning new_letters
