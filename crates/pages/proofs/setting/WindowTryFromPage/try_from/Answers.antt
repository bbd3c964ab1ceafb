use Rattle.pages.proofs.Kept.{kept_ok}
use Rattle.pages.proofs.setting.WindowTryFromPage.try_from.Goals as goal

pub returns-then-start-length-le4 : goal.returns-then-start-length-le4
returns-then-start-length-le4 c = kept_ok _ _ _
