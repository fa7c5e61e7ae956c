use Rattle.atoms.proofs.Listing.{list_laws}
use Rattle.atoms.proofs.order.is_rising.Goals as goal

pub returns-clause-laws : goal.returns-clause-laws
returns-clause-laws c = list_laws
