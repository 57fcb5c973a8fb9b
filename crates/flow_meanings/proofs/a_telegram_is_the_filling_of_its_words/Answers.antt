use Rattle.flow_meanings.proofs.Chaining.{telegram-means}
use Rattle.flow_meanings.proofs.a_telegram_is_the_filling_of_its_words.Goals as goal

pub returns : goal.returns
returns c = telegram-means
