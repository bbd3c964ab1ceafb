-- The calls of a machine: which is refused, and what an accepted one answers and leaves.
use Rattle.std.specs.Prelude.{ℕ, cond, ◌||◌, Some, None, Ok, Err, Option, Result, nat_lt, slice_set}
use Rattle.answers.specs.declared.refusal.Refusal.{Refusal}
use Rattle.answers.specs.declared.refusal.Refusal.TheVariants as refusals
use Rattle.machine.specs.Loads.{load_fits, loaded}
use Rattle.machine.specs.Models.{Model, record_of}
use Rattle.machine.specs.declared.load.Load.{Load}
use Rattle.pages.specs.Pages.{located}
use Rattle.pages.specs.Relocation.{relocated, written_below}
use Rattle.pages.specs.declared.relocation.Relocation.{Relocation}
use Rattle.pages.specs.Settings.{entered}
use Rattle.pages.specs.declared.setting.Page.{Page}
use Rattle.registers.specs.Keys.{keys}
use Rattle.registers.specs.declared.record.State.{State}
use Rattle.registers.specs.declared.record.State.TheVariants.{Running, Stopped}
use Rattle.store.specs.Meaning.{Meaning, with_word}
use Rattle.turn.specs.Runs.{Run, run}
use Rattle.turn.specs.Turns.{state_after}
use Rattle.turn.specs.declared.turned.Turned.{Turned}
use Rattle.view.specs.Writes.{after_writes, with_writes}

-- the answer, where the call is not refused
abbrev pub answered : {X : Type 0} → Option Refusal → X → Result X Refusal
answered None x = Ok x
answered (Some e) x = Err e

-- a refused call leaves the machine as it was
abbrev pub unless_refused : {X : Type 0} → Option Refusal → X → X → X
unless_refused None new old = new
unless_refused (Some e) new old = old

abbrev pub group_refusal : ℕ → Option Refusal → Option Refusal
group_refusal g o = cond (nat_lt 7 g) (Some refusals.Group) o

-- no turn of a stopped group
abbrev pub stopped_refusal : State → Option Refusal
stopped_refusal Running = None
stopped_refusal (Stopped t) = Some refusals.Stopped

-- a turn of group g, length n, keys k: 1, 2, 3, 4
abbrev pub turn_refusal : Model → ℕ → ℕ → ℕ → Option Refusal
turn_refusal m g n k =
    group_refusal g
    (cond (nat_lt n 1 || nat_lt 10000 n) (Some refusals.Length)
    (cond (nat_lt 63 k) (Some refusals.Keys)
    (stopped_refusal (record_of m g).state)))

-- what the group carries out in it
abbrev pub turn_run : Model → ℕ → ℕ → ℕ → Run
turn_run m g n k = run n (keys k) g (record_of m g).registers (relocated m.pages m.core)

abbrev pub turn_answer : Run → Turned
turn_answer x = record { count = x.count; trap = x.trap }

-- its own record is that after the run; page file, core map and the other records stay, and the words are those after its writes
abbrev pub after_run : Model → ℕ → Run → Model
after_run m g x = record {
  records = slice_set m.records g (record { registers = x.registers; state = state_after x.trap });
  pages = m.pages;
  core = with_word m.core (after_writes g x.writes (relocated m.pages m.core)).word;
}

-- the core under its page file after group g's run, as a whole value: the caller's memory with it
abbrev pub store_after : {C : Type 0} → (C → Meaning) → (C → ℕ → ℕ → C) → ℕ → Run → Relocation C → Relocation C
store_after {C} meaning wrote g x s =
    with_writes
    (λ (t : Relocation C). relocated t.pages.entries (meaning t.below))
    (λ (t : Relocation C) (a v : ℕ). let u : Relocation C = record { below = written_below wrote t.below (located t.pages.entries a) v; pages = t.pages } in u)
    g x.writes s

-- a register load: 1, 5
abbrev pub load_refusal : ℕ → Load → Option Refusal
load_refusal g l = group_refusal g (cond (load_fits l) None (Some refusals.Value))

abbrev pub after_load : Model → ℕ → Load → Model
after_load m g l = record { records = slice_set m.records g (loaded l); pages = m.pages; core = m.core }

-- a page setting: 1, 6, 7 by `accepted`
abbrev pub after_setting : Model → ℕ → ℕ → Option Page → Model
after_setting m g e s = record { records = m.records; pages = entered m.pages g e s; core = m.core }

-- a report: 1
abbrev pub report_refusal : ℕ → Option Refusal
report_refusal g = group_refusal g None
