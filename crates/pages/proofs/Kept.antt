-- A window that is within its limits is the one that its numbers describe.
use Rattle.std.proofs.Common.{◌≡◌, Bool, true, false, T, Ok, refl}
use Rattle.pages.specs.Settings.{kept}
use Rattle.pages.specs.declared.descriptor.Window.{Window}

pub kept_ok : (b : Bool) (w : T b → Window) (h : T b) → Ok (w h) ≡ kept b w
kept_ok true w h = refl
kept_ok false w h = absurd h
