-- `certifying::chains::push_front` meets its contract.
use Rattle.std.proofs.Common.{add-one, refl}
use Rattle.certifying.proofs.chains.push_front.Goals as goal

pub returns : goal.returns
returns g c = rw (add-one c.args.k) refl
