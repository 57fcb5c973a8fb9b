use Rattle.flow_catalogue.proofs.Firsts.{first-fits}
use Rattle.flow_catalogue.proofs.plans.a_first_component_fits.Goals as goal

pub returns : goal.returns
returns c = first-fits
