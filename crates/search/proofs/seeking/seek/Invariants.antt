use Rattle.std.proofs.Common.{◌≡◌, ℕ, suc, ◌<◌}
use Rattle.rules.specs.Parts.{sought}
use Rattle.rules.specs.Table.{hits}
use Rattle.view.specs.Seen.{reads_at}
use Rattle.search.proofs.seeking.seek.Given as goal

-- the rest of the search, at some bound that suffices, finds what the whole does
abbrev pub invariant-loop-number : goal.invariant-loop-number
invariant-loop-number g l =
    (n : ℕ) × (l.number < n)
    × (sought n (reads_at (g.S.Store.meaning l.store) l.group.number) (hits l.search l.registers) l.m l.step l.number
    ≡ sought (suc l.registers.b1.bits) (reads_at (g.S.Store.meaning l.store) l.group.number) (hits l.search l.registers) l.m l.step l.registers.b1.bits)

abbrev pub decreases-loop-number : goal.decreases-loop-number
decreases-loop-number g l = l.number
