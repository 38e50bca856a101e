use Rattle.port_model.proofs.Draws.{Draws-trans, Draws-determined}
use Rattle.port_model.proofs.laws.draws_compose.Goals as goal

pub returns-clause-composed : goal.returns-clause-composed
returns-clause-composed c = Draws-trans

pub returns-clause-determined : goal.returns-clause-determined
returns-clause-determined c = Draws-determined
