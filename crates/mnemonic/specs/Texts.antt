-- What is printed of an instruction word.
use Rattle.std.specs.Prelude.{ℕ, ◌+◌, ◌*◌, ◌/◌, ◌^◌, Bool, true, false, cond, List, [], ◌∷◌, ◌++◌, codes, decimal, ◌==◌}
use Rattle.instruction.specs.Decode as codings
use Rattle.instruction.specs.Decode.{decoded}
use Rattle.instruction.specs.declared.action.Action.{Action}
use Rattle.instruction.specs.declared.action.Action.TheVariants.{SelectJump, IndexJump, ZeroJump, QJump, SkipEqual, SkipNotBelow, IndexSkip, Shift, Enter, Increase, ExclusiveOr, And}
use Rattle.instruction.specs.declared.action.Target.{Target}
use Rattle.instruction.specs.declared.action.Target.TheVariants as targets
use Rattle.instruction.specs.declared.instruction.Instruction.{Instruction}
use Rattle.instruction.specs.declared.instruction.Instruction.TheVariants.{Executive, Illegal, Act, ReturnJump, Search, Operate}
use Rattle.instruction.specs.declared.operation.Change.TheVariants as changes
use Rattle.instruction.specs.declared.operation.Operation.{Operation}
use Rattle.instruction.specs.declared.operation.Operation.TheVariants as operations
use Rattle.instruction.specs.declared.operation.Take.TheVariants as takes
use Rattle.instruction.specs.declared.place.Place.{Place}
use Rattle.mnemonic.specs.Mnemonics.{action_mnemonic, action_modifier, indirect_modifier, masked_mnemonic, operation_mnemonic}
use Rattle.ones.specs.Numbers.{address, word}
use Rattle.ones.specs.declared.number.Ones.{Ones}
use Rattle.printing.specs.Texts.{console_word, octal, text}
use Rattle.registers.specs.declared.index.Index.{Index}
use Rattle.registers.specs.declared.index.Index.TheVariants.{B0, B1, B2, B3}

abbrev pub index_suffix : Index → List ℕ
index_suffix B0 = []
index_suffix B1 = codes ",1"
index_suffix B2 = codes ",2"
index_suffix B3 = codes ",3"

-- five digits of m or y
abbrev pub octal_field : Ones 15 → List ℕ
octal_field y = octal 5 y.bits

-- m or y, and the index register unless it is B0
abbrev pub operands : Ones 15 → Index → List ℕ
operands y b = octal_field y ++ index_suffix b

abbrev pub is_b0 : Index → Bool
is_b0 B0 = true
is_b0 B1 = false
is_b0 B2 = false
is_b0 B3 = false

abbrev pub target_index : Target → Index
target_index (targets.Index b) = b
target_index (targets.A e) = B0
target_index (targets.Q e) = B0

-- the register that an action counts, works on or is indexed by; B0 where it has none
abbrev pub action_index : Action → Index
action_index (SelectJump k) = B0
action_index (IndexJump c b) = b
action_index (ZeroJump r) = B0
action_index (QJump r) = B0
action_index (SkipEqual t) = target_index t
action_index (SkipNotBelow t) = target_index t
action_index (IndexSkip c b) = b
action_index (Shift s b) = b
action_index (Enter t) = target_index t
action_index (Increase t) = target_index t
action_index (ExclusiveOr t) = target_index t
action_index (And t) = target_index t

abbrev pub idle_target : Target → Bool
idle_target (targets.Index b) = is_b0 b
idle_target (targets.A e) = false
idle_target (targets.Q e) = false

-- IJI, IJD and ENI of B0
abbrev pub idle : Action → Bool
idle (SelectJump k) = false
idle (IndexJump c b) = is_b0 b
idle (ZeroJump r) = false
idle (QJump r) = false
idle (SkipEqual t) = false
idle (SkipNotBelow t) = false
idle (IndexSkip c b) = false
idle (Shift s b) = false
idle (Enter t) = idle_target t
idle (Increase t) = false
idle (ExclusiveOr t) = false
idle (And t) = false

abbrev pub symbolic_action : Action → Ones 15 → List ℕ
symbolic_action a y = cond (idle a) (codes "NOP")
    (text (action_mnemonic a) (action_modifier a ∷ codes " " ∷ operands y (action_index a) ∷ []))

-- the register that LDI and STI load and store, or the index of the place
abbrev pub operation_index : Operation → Index → Index
operation_index operations.Jump b = b
operation_index (operations.Take takes.LoadA) b = b
operation_index (operations.Take takes.LoadQ) b = b
operation_index (operations.Take takes.LoadComplement) b = b
operation_index (operations.Take takes.LoadMasked) b = b
operation_index (operations.Take takes.Add) b = b
operation_index (operations.Take takes.Subtract) b = b
operation_index (operations.Take takes.Or) b = b
operation_index (operations.Take takes.ExclusiveOr) b = b
operation_index (operations.Take takes.And) b = b
operation_index (operations.Take takes.Compare) b = b
operation_index (operations.Take (takes.LoadIndex l)) b = l
operation_index (operations.TakeTwo t) b = b
operation_index (operations.Change changes.Add) b = b
operation_index (operations.Change changes.StoreAddress) b = b
operation_index (operations.Change (changes.StoreIndex s)) b = s
operation_index (operations.Store s) b = b
operation_index operations.StoreTwo b = b

abbrev pub symbolic_operation : Operation → Place → List ℕ
symbolic_operation o p = text (operation_mnemonic o) (indirect_modifier p.indirect ∷ codes " " ∷ operands p.m (operation_index o p.index) ∷ [])

-- the upper twelve bits are code 77 and sub-operation s
abbrev pub is_77 : ℕ → Ones 24 → Bool
is_77 s w = w.bits / 2 ^ 12 == codings.octal 7 7 * 2 ^ 6 + s

abbrev pub symbolic_executive : Ones 24 → List ℕ
symbolic_executive w = cond (is_77 (codings.octal 7 0) w) (codes "SLS")
    (cond (is_77 (codings.octal 7 7) w) (codes "UCS")
    (codes "HLT " ++ octal_field (address w.bits)))

-- a word and the instruction that it is
abbrev pub symbolic : Ones 24 → Instruction → List ℕ
symbolic w Executive = symbolic_executive w
symbolic w Illegal = []
symbolic w (Act a y) = symbolic_action a y
symbolic w (ReturnJump m) = codes "RTJ " ++ octal_field m
symbolic w (Search s i m) = text (masked_mnemonic s) (codes " " ∷ octal_field m ∷ codes "," ∷ decimal i.words ∷ [])
symbolic w (Operate o p) = symbolic_operation o p

-- what a listing has after a word: the text of an instruction, two blanks apart
abbrev pub remark : Instruction → List ℕ → List ℕ
remark Executive s = codes "  " ++ s
remark Illegal s = []
remark (Act a y) s = codes "  " ++ s
remark (ReturnJump m) s = codes "  " ++ s
remark (Search k i m) s = codes "  " ++ s
remark (Operate o p) s = codes "  " ++ s

abbrev pub listing : ℕ → ℕ → List ℕ
listing a w = console_word a w ++ remark (decoded (word w)) (symbolic (word w) (decoded (word w)))
