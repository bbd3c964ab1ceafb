-- Which instruction a word is, in the order of the codes.
use Rattle.std.specs.Prelude.{ℕ, ◌+◌, ◌*◌, ◌/◌, ◌%◌, ◌^◌, cond, ◌&&◌, ◌||◌, ◌==◌, nat_le}
use Rattle.instruction.specs.Digits.{counting, digit_index, digit_key, digit_relation, digit_target}
use Rattle.instruction.specs.Intervals.{interval}
use Rattle.instruction.specs.Places.{placed}
use Rattle.instruction.specs.declared.action.Action.TheVariants.{SelectJump, IndexJump, ZeroJump, QJump, SkipEqual, SkipNotBelow, IndexSkip, Shift, Enter, Increase, ExclusiveOr, And}
use Rattle.instruction.specs.declared.action.Shifted.TheVariants as shifted
use Rattle.instruction.specs.declared.instruction.Instruction.{Instruction}
use Rattle.instruction.specs.declared.instruction.Instruction.TheVariants.{Executive, Illegal, Act, ReturnJump, Search, Operate}
use Rattle.instruction.specs.declared.instruction.Search.TheVariants as searches
use Rattle.instruction.specs.declared.operation.Change.TheVariants as changes
use Rattle.instruction.specs.declared.operation.Operation.TheVariants.{Jump, Take, TakeTwo, Change, Store, StoreTwo}
use Rattle.instruction.specs.declared.operation.Source.TheVariants as sources
use Rattle.instruction.specs.declared.operation.Take.TheVariants as takes
use Rattle.instruction.specs.declared.operation.TakeTwo.TheVariants as pairs
use Rattle.instruction.specs.declared.place.Mode.TheVariants.{Indexed, Unindexed}
use Rattle.ones.specs.Numbers.{address}
use Rattle.ones.specs.declared.number.Ones.{Ones}

-- a number of two octal digits
abbrev pub octal : ℕ → ℕ → ℕ
octal high low = high * 8 + low

-- code c, third digit d, sub-operation s
abbrev pub by_code : ℕ → ℕ → ℕ → Ones 24 → Instruction
by_code c d s w =
    (cond (c == octal 0 0 && d == 0) Executive  -- HLT
    (cond (c == octal 0 0 && (nat_le 1 d && nat_le d 6)) (Act (SelectJump (digit_key d)) (address w.bits))  -- SJ1 to SJ6
    (cond (c == octal 0 0 && d == 7) (ReturnJump (address w.bits))  -- RTJ
    (cond (c == octal 0 1) (Operate (Jump) (placed Indexed w))  -- UJP
    (cond (c == octal 0 2) (Act (IndexJump (counting d) (digit_index d)) (address w.bits))  -- IJI, IJD
    (cond (c == octal 0 3 && (nat_le 0 d && nat_le d 3)) (Act (ZeroJump (digit_relation d)) (address w.bits))  -- AZJ
    (cond (c == octal 0 3 && (nat_le 4 d && nat_le d 7)) (Act (QJump (digit_relation d)) (address w.bits))  -- AQJ
    (cond (c == octal 0 4) (Act (SkipEqual (digit_target d)) (address w.bits))  -- ISE, ASE, QSE
    (cond (c == octal 0 5) (Act (SkipNotBelow (digit_target d)) (address w.bits))  -- ISG, ASG, QSG
    (cond (c == octal 0 6) (Search searches.Equal (interval d) (address w.bits))  -- MEQ
    (cond (c == octal 0 7) (Search searches.Threshold (interval d) (address w.bits))  -- MTH
    (cond (c == octal 1 0 && (nat_le 1 d && nat_le d 7)) (Act (IndexSkip (counting d) (digit_index d)) (address w.bits))  -- ISI, ISD
    (cond (c == octal 1 2 && (nat_le 0 d && nat_le d 3)) (Act (Shift shifted.A (digit_index d)) (address w.bits))  -- SHA
    (cond (c == octal 1 2 && (nat_le 4 d && nat_le d 7)) (Act (Shift shifted.Q (digit_index d)) (address w.bits))  -- SHQ
    (cond (c == octal 1 3 && (nat_le 0 d && nat_le d 3)) (Act (Shift shifted.Both (digit_index d)) (address w.bits))  -- SHAQ
    (cond (c == octal 1 4) (Act (Enter (digit_target d)) (address w.bits))  -- ENI, ENA, ENQ
    (cond (c == octal 1 5) (Act (Increase (digit_target d)) (address w.bits))  -- INI, INA, INQ
    (cond (c == octal 1 6) (Act (ExclusiveOr (digit_target d)) (address w.bits))  -- XOI, XOA, XOQ
    (cond (c == octal 1 7) (Act (And (digit_target d)) (address w.bits))  -- ANI, ANA, ANQ
    (cond (c == octal 2 0) (Operate (Take takes.LoadA) (placed Indexed w))  -- LDA
    (cond (c == octal 2 1) (Operate (Take takes.LoadQ) (placed Indexed w))  -- LDQ
    (cond (c == octal 2 4) (Operate (Take takes.LoadComplement) (placed Indexed w))  -- LCA
    (cond (c == octal 2 5) (Operate (TakeTwo pairs.Load) (placed Indexed w))  -- LDAQ
    (cond (c == octal 2 6) (Operate (TakeTwo pairs.LoadComplement) (placed Indexed w))  -- LCAQ
    (cond (c == octal 2 7) (Operate (Take takes.LoadMasked) (placed Indexed w))  -- LDL
    (cond (c == octal 3 0) (Operate (Take takes.Add) (placed Indexed w))  -- ADA
    (cond (c == octal 3 1) (Operate (Take takes.Subtract) (placed Indexed w))  -- SBA
    (cond (c == octal 3 2) (Operate (TakeTwo pairs.Add) (placed Indexed w))  -- ADAQ
    (cond (c == octal 3 3) (Operate (TakeTwo pairs.Subtract) (placed Indexed w))  -- SBAQ
    (cond (c == octal 3 4) (Operate (Change changes.Add) (placed Indexed w))  -- RAD
    (cond (c == octal 3 5) (Operate (Take takes.Or) (placed Indexed w))  -- SSA
    (cond (c == octal 3 6) (Operate (Take takes.ExclusiveOr) (placed Indexed w))  -- SCA
    (cond (c == octal 3 7) (Operate (Take takes.And) (placed Indexed w))  -- LPA
    (cond (c == octal 4 0) (Operate (Store sources.A) (placed Indexed w))  -- STA
    (cond (c == octal 4 1) (Operate (Store sources.Q) (placed Indexed w))  -- STQ
    (cond (c == octal 4 4) (Operate (Change changes.StoreAddress) (placed Indexed w))  -- SWA
    (cond (c == octal 4 5) (Operate (StoreTwo) (placed Indexed w))  -- STAQ
    (cond (c == octal 4 7) (Operate (Change (changes.StoreIndex (digit_index d))) (placed Unindexed w))  -- STI
    (cond (c == octal 5 2) (Operate (Take takes.Compare) (placed Indexed w))  -- CPR
    (cond (c == octal 5 4) (Operate (Take (takes.LoadIndex (digit_index d))) (placed Unindexed w))  -- LDI
    (cond (c == octal 7 7 && (s == octal 7 0 || s == octal 7 7)) Executive  -- SLS, UCS
    Illegal)))))))))))))))))))))))))))))))))))))))))

unfoldable pub decoded : Ones 24 → Instruction
decoded w = by_code (w.bits / 2 ^ 18) (w.bits / 2 ^ 15 % 8) (w.bits / 2 ^ 12 % 64) w
