-- What a located address says of its entry, and which addresses an entry locates.
use Rattle.std.proofs.Common.{◌≡◌, ℕ, ◌+◌, ◌-◌, ◌*◌, ◌<◌, ◌≤◌, Bool, true, false, cond, T, ltb, List, get_or, Some, None, Ok, Err, Option, refl, arith}
use Rattle.answers.specs.declared.fault.Fault.{Fault}
use Rattle.pages.specs.Limits.{lawful}
use Rattle.pages.specs.Pages.{entry_of, quarter_of, offset_of, core_address, located, placed, unmapped}
use Rattle.pages.specs.Reach.{Within, Exact}
use Rattle.pages.specs.declared.descriptor.Window.{Window}
use Rattle.pages.specs.declared.file.Place.{Place}
use Rattle.std.proofs.lemmas.Bool.{lt-ltb, ltb-true}
use Rattle.std.proofs.lemmas.Bool.Decides.{nat_tests}

-- a place that a descriptor gives is in a quarter of its window below the length
pub record Found (d : Option Window) (a : ℕ) (p : Place) : Type 0 where
  pub window : Window
  pub holds : d ≡ Some window
  pub short : quarter_of a < window.length
  pub lies : p.address ≡ core_address window (quarter_of a) (offset_of a)
  pub flag : p.write ≡ window.write

in_quarter : (b : Bool) (w : Window) (a : ℕ) (p q : Place) (f : Fault) → ltb (quarter_of a) w.length ≡ b → q ≡ record { address = core_address w (quarter_of a) (offset_of a); write = w.write } → cond b (Ok q) (Err f) ≡ Ok p → Found (Some w) a p
in_quarter true w a p q f l e h =
    let u : q ≡ p = cc in
    record { window = w; holds = refl; short = ltb-true _ _ l; lies = cc; flag = cc }
in_quarter false w a p q f l e h = cc

placed_found : (d : Option Window) (a : ℕ) (p : Place) → placed d a ≡ Ok p → Found d a p
placed_found None a p h = cc
placed_found (Some w) a p h = in_quarter (ltb (quarter_of a) w.length) w a p _ (unmapped a) refl refl h

within_store : (b : Bool) (d : Option Window) (a : ℕ) (p : Place) (f : Fault) → cond b (placed d a) (Err f) ≡ Ok p → Found d a p
within_store true d a p f h = placed_found d a p h
within_store false d a p f h = cc

pub found : (ds : List (Option Window)) (a : ℕ) (p : Place) → located ds a ≡ Ok p → Found (get_or ds (entry_of a) None) a p
found ds a p h = within_store (ltb a 262144) (get_or ds (entry_of a) None) a p _ h

pub few_quarters : (p s l : ℕ) → T (lawful p s l) → l ≤ 4
few_quarters p s l h = grind (arith, nat_tests)

pub locates : (ds : List (Option Window)) (a : ℕ) (w : Window) → a < 262144 → get_or ds (entry_of a) None ≡ Some w → quarter_of a < w.length → located ds a ≡ Ok (record { address = core_address w (quarter_of a) (offset_of a); write = w.write })
locates ds a w l h q = rw (lt-ltb a 262144 l, h, lt-ltb (quarter_of a) w.length q)

entry_lies : (ds : List (Option Window)) (w : Window) (a : ℕ) (p : Place) → get_or ds (entry_of a) None ≡ Some w → located ds a ≡ Ok p → (quarter_of a < w.length) × (p.address ≡ core_address w (quarter_of a) (offset_of a))
entry_lies ds w a p h l =
    let f = found ds a p l in let e : f.window ≡ w = cc in
    (rw e at f.short, rw e at f.lies)

-- the core address c of a window comes from a under entry e
entry_fills : (ds : List (Option Window)) (e a c : ℕ) (w : Window) → e < 128 → get_or ds e None ≡ Some w → Within w c → a ≡ e * 2048 + (c - (w.page * 2048 + w.start * 512)) → (b : ℕ) × (p : Place) × (entry_of b ≡ e) × (located ds b ≡ Ok p) × (p.address ≡ c)
entry_fills ds e a c w l h k x =
    let n : w.length ≤ 4 = few_quarters w.page w.start w.length w.fits in
    let i : entry_of a ≡ e = omega arith in
    let q : quarter_of a < w.length = omega arith in
    (a, record { address = core_address w (quarter_of a) (offset_of a); write = w.write }, i, locates ds a w (omega arith) (rw i h) q, omega arith)

pub exact : (ds : List (Option Window)) → Exact ds
exact ds e w l h =
    record {
      lie = λ a p i k. let f = entry_lies ds w a p (rw i h) k in (omega (arith, f.0, f.1), omega (arith, f.0, f.1));
      fill = λ c k. entry_fills ds e _ c w l h k refl;
      once = λ a b p q i j k m x. let f = entry_lies ds w a p (rw i h) k in let f' = entry_lies ds w b q (rw j h) m in omega (arith, f.1, f'.1);
    }
