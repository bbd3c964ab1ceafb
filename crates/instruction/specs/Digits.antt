-- What the third digit of an instruction names.
use Rattle.std.specs.Prelude.{ℕ, ◌%◌, cond, ◌==◌, nat_lt}
use Rattle.instruction.specs.declared.action.Count.{Count}
use Rattle.instruction.specs.declared.action.Count.TheVariants.{Up, Down}
use Rattle.instruction.specs.declared.action.Extension.TheVariants.{Sign, Zero}
use Rattle.instruction.specs.declared.action.Relation.{Relation}
use Rattle.instruction.specs.declared.action.Relation.TheVariants.{Equal, Unequal, NotBelow, Below}
use Rattle.instruction.specs.declared.action.Target.{Target}
use Rattle.instruction.specs.declared.action.Target.TheVariants as targets
use Rattle.registers.specs.declared.index.Index.{Index}
use Rattle.registers.specs.declared.index.Index.TheVariants.{B0, B1, B2, B3}
use Rattle.registers.specs.declared.key.Key.{Key}
use Rattle.registers.specs.declared.key.Key.TheVariants.{One, Two, Three, Four, Five, Six}

-- b is d mod 4
abbrev pub digit_index : ℕ → Index
digit_index d = cond (d % 4 == 0) B0 (cond (d % 4 == 1) B1 (cond (d % 4 == 2) B2 B3))

-- down for d of 4 or more
abbrev pub counting : ℕ → Count
counting d = cond (nat_lt d 4) Up Down

-- key d
abbrev pub digit_key : ℕ → Key
digit_key d = cond (d == 1) One (cond (d == 2) Two (cond (d == 3) Three (cond (d == 4) Four (cond (d == 5) Five Six))))

-- equal, unequal, not below, below
abbrev pub digit_relation : ℕ → Relation
digit_relation d = cond (d % 4 == 0) Equal (cond (d % 4 == 1) Unequal (cond (d % 4 == 2) NotBelow Below))

-- Bd for 0 to 3; A, Q with y sign extended for 4, 5; with y zero extended for 6, 7
abbrev pub digit_target : ℕ → Target
digit_target d =
    cond (d == 4) (targets.A Sign)
    (cond (d == 5) (targets.Q Sign)
    (cond (d == 6) (targets.A Zero)
    (cond (d == 7) (targets.Q Zero)
    (targets.Index (digit_index d)))))
