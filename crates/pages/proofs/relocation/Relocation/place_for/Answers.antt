use Rattle.pages.proofs.Reaching.{reach}
use Rattle.pages.proofs.relocation.Relocation.place_for.Goals as goal

pub returns-clause-reach : goal.returns-clause-reach
returns-clause-reach g c = reach _ _ _ c.args.group.fits
