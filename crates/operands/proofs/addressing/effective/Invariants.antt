use Rattle.std.proofs.Common.{◌≡◌, ◌-◌}
use Rattle.rules.specs.Parts.{effective}
use Rattle.view.specs.Seen.{reads_at}
use Rattle.operands.proofs.addressing.effective.Given as goal

-- the rest of the way leads where the whole does
abbrev pub invariant-loop-read : goal.invariant-loop-read
invariant-loop-read g l =
    effective (64 - l._read) (reads_at (g.S.Store.meaning l.store) l.group.number) l.registers l.place
    ≡ effective 64 (reads_at (g.S.Store.meaning l.store) l.group.number) l.registers l.initial.place
