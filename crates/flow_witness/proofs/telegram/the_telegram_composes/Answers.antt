use Rattle.flow_witness.proofs.TelegramPlanned.{planned}
use Rattle.flow_witness.proofs.TelegramComposed.{are-components, composed, only}
use Rattle.flow_witness.proofs.telegram.the_telegram_composes.Goals as goal

pub returns : goal.returns
returns c = record { planned = planned; are_components = are-components; composes = composed.0; streams = composed.1; only = only }
