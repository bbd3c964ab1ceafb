use Rattle.pages.proofs.Places.{exact}
use Rattle.pages.proofs.relocation.Relocation.set.Goals as goal

pub returns-clause-quarters : goal.returns-clause-quarters
returns-clause-quarters g c = exact _
