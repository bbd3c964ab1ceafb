-- Descriptors from numbers.
use Rattle.std.specs.Option.{option_transpose}
use Rattle.std.specs.Prelude.{ℕ, ◌+◌, ◌*◌, Bool, true, false, cond, T, List, Ok, Err, Option, Result, nat_lt, option_map, slice_set}
use Rattle.answers.specs.declared.refusal.Refusal.{Refusal}
use Rattle.answers.specs.declared.refusal.Refusal.TheVariants as refusals
use Rattle.pages.specs.Limits.{lawful}
use Rattle.pages.specs.declared.descriptor.Window.{Window}
use Rattle.pages.specs.declared.setting.Page.{Page}

-- the window where its limits are kept, else a refusal
abbrev pub kept : (b : Bool) → (T b → Window) → Result Window Refusal
kept true w = Ok (w tt)
kept false w = Err refusals.Descriptor

-- the window that a page's numbers describe
abbrev pub windowed : Page → Result Window Refusal
windowed p = kept (lawful p.page p.start p.length) (λ h. record { page = p.page; start = p.start; length = p.length; write = p.write; fits = h })

-- the descriptor that a setting describes: a page's window, or none
abbrev pub described : Option Page → Result (Option Window) Refusal
described s = option_transpose (option_map windowed s)

-- may entry e of group g be set so?
abbrev pub checked : ℕ → ℕ → Option Page → Result (Option Window) Refusal
checked g e s = cond (nat_lt 7 g) (Err refusals.Group) (cond (nat_lt 15 e) (Err refusals.Entry) (described s))

abbrev pub verdict : {X : Type 0} → Result X Refusal → Result (Unit {0}) Refusal
verdict (Ok x) = Ok tt
verdict (Err r) = Err r

abbrev pub accepted : ℕ → ℕ → Option Page → Result (Unit {0}) Refusal
accepted g e s = verdict (checked g e s)

abbrev pub with_entry : List (Option Window) → ℕ → Result (Option Window) Refusal → List (Option Window)
with_entry ds i (Ok d) = slice_set ds i d
with_entry ds i (Err r) = ds

-- the page file once entry e of group g was set, or refused
abbrev pub entered : List (Option Window) → ℕ → ℕ → Option Page → List (Option Window)
entered ds g e s = with_entry ds (16 * g + e) (checked g e s)
