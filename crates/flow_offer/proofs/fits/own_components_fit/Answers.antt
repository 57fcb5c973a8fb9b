use Rattle.flow_offer.proofs.Fitting.{fits-mixed, fits-played}
use Rattle.flow_offer.proofs.fits.own_components_fit.Goals as goal

pub returns-clause-mixed : goal.returns-clause-mixed
returns-clause-mixed g c = fits-mixed g.K.Component.rules

pub returns-clause-played : goal.returns-clause-played
returns-clause-played g c = fits-played g.K.Component.rules
