-- Where a page file puts an original address.
use Rattle.std.specs.Prelude.{ℕ, ◌+◌, ◌*◌, ◌/◌, ◌%◌, cond, List, Some, None, Ok, Err, Option, Result, nat_lt, slice_index_or}
use Rattle.answers.specs.declared.cause.Cause.TheVariants.{Unmapped}
use Rattle.answers.specs.declared.fault.Fault.{Fault}
use Rattle.answers.specs.declared.layer.Layer.TheVariants as layers
use Rattle.pages.specs.declared.descriptor.Window.{Window}
use Rattle.pages.specs.declared.file.Place.{Place}
use Rattle.store.specs.Meaning.{beyond}

-- which descriptor an original address is for, which quarter of its page it names, and where in the quarter it lies
abbrev pub entry_of : ℕ → ℕ
entry_of a = a / 2048

abbrev pub quarter_of : ℕ → ℕ
quarter_of a = a / 512 % 4

abbrev pub offset_of : ℕ → ℕ
offset_of a = a % 512

-- the core address of an offset in a quarter that a window has
abbrev pub core_address : Window → ℕ → ℕ → ℕ
core_address w q o = w.page * 2048 + (w.start + q) * 512 + o

-- no page there
abbrev pub unmapped : ℕ → Fault
unmapped a = record { cause = Unmapped; layer = layers.Relocation; address = a }

abbrev pub placed : Option Window → ℕ → Result Place Fault
placed None a = Err (unmapped a)
placed (Some w) a =
    cond (nat_lt (quarter_of a) w.length)
    (Ok (record { address = core_address w (quarter_of a) (offset_of a); write = w.write }))
    (Err (unmapped a))

-- the place of an original address
abbrev pub located : List (Option Window) → ℕ → Result Place Fault
located ds a = cond (nat_lt a 262144) (placed (slice_index_or ds (entry_of a) None) a) (Err (beyond layers.Relocation a))
