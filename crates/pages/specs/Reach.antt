-- What pages give a group, apart from the sums by which an address is found.
use Rattle.std.specs.Prelude.{◌≡◌, ℕ, ◌+◌, ◌*◌, ◌<◌, ◌≤◌, true, List, get_or, Some, None, Ok, Option, slice_index_or}
use Rattle.pages.specs.Pages.{entry_of, core_address, located}
use Rattle.pages.specs.View.{Reaches, CanWrite}
use Rattle.pages.specs.declared.descriptor.Window.{Window}
use Rattle.pages.specs.declared.file.Place.{Place}
use Rattle.store.specs.Meaning.{Meaning}

-- core address c lies in the quarters of a window
abbrev pub Within : Window → ℕ → Type 0
Within w c = (w.page * 2048 + w.start * 512 ≤ c) × (c < w.page * 2048 + (w.start + w.length) * 512)

-- the original addresses of entry e lie in the quarters of w, fill them, and no two have one core address
pub record Quarters (ds : List (Option Window)) (e : ℕ) (w : Window) : Type 0 where
  pub lie : (a : ℕ) (p : Place) → entry_of a ≡ e → located ds a ≡ Ok p → Within w p.address
  pub fill : (c : ℕ) → Within w c → (a : ℕ) × (p : Place) × (entry_of a ≡ e) × (located ds a ≡ Ok p) × (p.address ≡ c)
  pub once : (a b : ℕ) (p q : Place) → entry_of a ≡ e → entry_of b ≡ e → located ds a ≡ Ok p → located ds b ≡ Ok q → p.address ≡ q.address → a ≡ b

-- each entry gives exactly its quarters, each address of them once
abbrev pub Exact : List (Option Window) → Type 0
Exact ds = (e : ℕ) (w : Window) → e < 128 → slice_index_or ds e None ≡ Some w → Quarters ds e w

-- one of group g's own sixteen entries holds w, and core address c is in a quarter of it below its length
pub record Own (ds : List (Option Window)) (g : ℕ) (w : Window) (c : ℕ) : Type 0 where
  pub entry : ℕ
  pub few : entry < 16
  pub holds : get_or ds (16 * g + entry) None ≡ Some w
  pub quarter : ℕ
  pub short : quarter < w.length
  pub offset : ℕ
  pub low : offset < 512
  pub lies : c ≡ core_address w quarter offset

-- cell k is read at a core address of the group's own entries
abbrev pub Through : List (Option Window) → Meaning → ℕ → ℕ → Type 0
Through ds m g k = (w : Window) × (c : ℕ) × (Own ds g w c) × (m.cell c ≡ Ok k)

-- the same, where the entry's write flag is set and the core takes the write
abbrev pub Writes : List (Option Window) → Meaning → ℕ → ℕ → Type 0
Writes ds m g k = (w : Window) × (c : ℕ) × (Own ds g w c) × (m.cell c ≡ Ok k) × (w.write ≡ true) × (m.takes c ≡ Ok tt)

-- a group reaches cells by its own entries and no others, and writes by those with the flag where the core takes it
pub record Reach (ds : List (Option Window)) (m : Meaning) (g : ℕ) : Type 0 where
  pub reaches_only : (k : ℕ) → Reaches ds m g k → Through ds m g k
  pub reaches_all : (k : ℕ) → Through ds m g k → Reaches ds m g k
  pub writes_only : (k : ℕ) → CanWrite ds m g k → Writes ds m g k
  pub writes_all : (k : ℕ) → Writes ds m g k → CanWrite ds m g k
