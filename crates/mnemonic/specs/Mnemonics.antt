-- The mnemonics of COMPASS, and the modifiers after them.
use Rattle.std.specs.Prelude.{ℕ, Bool, true, false, List, [], codes}
use Rattle.instruction.specs.declared.action.Action.{Action}
use Rattle.instruction.specs.declared.action.Action.TheVariants.{SelectJump, IndexJump, ZeroJump, QJump, SkipEqual, SkipNotBelow, IndexSkip, Shift, Enter, Increase, ExclusiveOr, And}
use Rattle.instruction.specs.declared.action.Count.{Count}
use Rattle.instruction.specs.declared.action.Count.TheVariants.{Up, Down}
use Rattle.instruction.specs.declared.action.Extension.TheVariants.{Sign, Zero}
use Rattle.instruction.specs.declared.action.Relation.{Relation}
use Rattle.instruction.specs.declared.action.Relation.TheVariants as relations
use Rattle.instruction.specs.declared.action.Shifted.{Shifted}
use Rattle.instruction.specs.declared.action.Shifted.TheVariants as shifted
use Rattle.instruction.specs.declared.action.Target.{Target}
use Rattle.instruction.specs.declared.action.Target.TheVariants as targets
use Rattle.instruction.specs.declared.instruction.Search.{Search}
use Rattle.instruction.specs.declared.instruction.Search.TheVariants as masked
use Rattle.instruction.specs.declared.operation.Change.{Change}
use Rattle.instruction.specs.declared.operation.Change.TheVariants as changes
use Rattle.instruction.specs.declared.operation.Operation.{Operation}
use Rattle.instruction.specs.declared.operation.Operation.TheVariants as operations
use Rattle.instruction.specs.declared.operation.Source.{Source}
use Rattle.instruction.specs.declared.operation.Source.TheVariants as sources
use Rattle.instruction.specs.declared.operation.Take.{Take}
use Rattle.instruction.specs.declared.operation.Take.TheVariants as takes
use Rattle.instruction.specs.declared.operation.TakeTwo.{TakeTwo}
use Rattle.instruction.specs.declared.operation.TakeTwo.TheVariants as pairs
use Rattle.registers.specs.declared.key.Key.{Key}
use Rattle.registers.specs.declared.key.Key.TheVariants.{One, Two, Three, Four, Five, Six}

abbrev pub key_mnemonic : Key → List ℕ
key_mnemonic One = codes "SJ1"
key_mnemonic Two = codes "SJ2"
key_mnemonic Three = codes "SJ3"
key_mnemonic Four = codes "SJ4"
key_mnemonic Five = codes "SJ5"
key_mnemonic Six = codes "SJ6"

-- the one of up, or the one of down
abbrev pub by_count : Count → List ℕ → List ℕ → List ℕ
by_count Up i d = i
by_count Down i d = d

-- the one of an index register, of A, or of Q
abbrev pub by_target : Target → List ℕ → List ℕ → List ℕ → List ℕ
by_target (targets.Index b) i a q = i
by_target (targets.A e) i a q = a
by_target (targets.Q e) i a q = q

abbrev pub shift_mnemonic : Shifted → List ℕ
shift_mnemonic shifted.A = codes "SHA"
shift_mnemonic shifted.Q = codes "SHQ"
shift_mnemonic shifted.Both = codes "SHAQ"

abbrev pub action_mnemonic : Action → List ℕ
action_mnemonic (SelectJump k) = key_mnemonic k
action_mnemonic (IndexJump c b) = by_count c (codes "IJI") (codes "IJD")
action_mnemonic (ZeroJump r) = codes "AZJ"
action_mnemonic (QJump r) = codes "AQJ"
action_mnemonic (SkipEqual t) = by_target t (codes "ISE") (codes "ASE") (codes "QSE")
action_mnemonic (SkipNotBelow t) = by_target t (codes "ISG") (codes "ASG") (codes "QSG")
action_mnemonic (IndexSkip c b) = by_count c (codes "ISI") (codes "ISD")
action_mnemonic (Shift s b) = shift_mnemonic s
action_mnemonic (Enter t) = by_target t (codes "ENI") (codes "ENA") (codes "ENQ")
action_mnemonic (Increase t) = by_target t (codes "INI") (codes "INA") (codes "INQ")
action_mnemonic (ExclusiveOr t) = by_target t (codes "XOI") (codes "XOA") (codes "XOQ")
action_mnemonic (And t) = by_target t (codes "ANI") (codes "ANA") (codes "ANQ")

abbrev pub relation_modifier : Relation → List ℕ
relation_modifier relations.Equal = codes ",EQ"
relation_modifier relations.Unequal = codes ",NE"
relation_modifier relations.NotBelow = codes ",GE"
relation_modifier relations.Below = codes ",LT"

-- S where y is sign extended
abbrev pub target_modifier : Target → List ℕ
target_modifier (targets.Index b) = []
target_modifier (targets.A Sign) = codes ",S"
target_modifier (targets.A Zero) = []
target_modifier (targets.Q Sign) = codes ",S"
target_modifier (targets.Q Zero) = []

abbrev pub action_modifier : Action → List ℕ
action_modifier (SelectJump k) = []
action_modifier (IndexJump c b) = []
action_modifier (ZeroJump r) = relation_modifier r
action_modifier (QJump r) = relation_modifier r
action_modifier (SkipEqual t) = target_modifier t
action_modifier (SkipNotBelow t) = target_modifier t
action_modifier (IndexSkip c b) = []
action_modifier (Shift s b) = []
action_modifier (Enter t) = target_modifier t
action_modifier (Increase t) = target_modifier t
action_modifier (ExclusiveOr t) = target_modifier t
action_modifier (And t) = target_modifier t

abbrev pub take_mnemonic : Take → List ℕ
take_mnemonic takes.LoadA = codes "LDA"
take_mnemonic takes.LoadQ = codes "LDQ"
take_mnemonic takes.LoadComplement = codes "LCA"
take_mnemonic takes.LoadMasked = codes "LDL"
take_mnemonic takes.Add = codes "ADA"
take_mnemonic takes.Subtract = codes "SBA"
take_mnemonic takes.Or = codes "SSA"
take_mnemonic takes.ExclusiveOr = codes "SCA"
take_mnemonic takes.And = codes "LPA"
take_mnemonic takes.Compare = codes "CPR"
take_mnemonic (takes.LoadIndex b) = codes "LDI"

abbrev pub take_two_mnemonic : TakeTwo → List ℕ
take_two_mnemonic pairs.Load = codes "LDAQ"
take_two_mnemonic pairs.LoadComplement = codes "LCAQ"
take_two_mnemonic pairs.Add = codes "ADAQ"
take_two_mnemonic pairs.Subtract = codes "SBAQ"

abbrev pub change_mnemonic : Change → List ℕ
change_mnemonic changes.Add = codes "RAD"
change_mnemonic changes.StoreAddress = codes "SWA"
change_mnemonic (changes.StoreIndex b) = codes "STI"

abbrev pub store_mnemonic : Source → List ℕ
store_mnemonic sources.A = codes "STA"
store_mnemonic sources.Q = codes "STQ"

abbrev pub operation_mnemonic : Operation → List ℕ
operation_mnemonic operations.Jump = codes "UJP"
operation_mnemonic (operations.Take t) = take_mnemonic t
operation_mnemonic (operations.TakeTwo t) = take_two_mnemonic t
operation_mnemonic (operations.Change c) = change_mnemonic c
operation_mnemonic (operations.Store s) = store_mnemonic s
operation_mnemonic operations.StoreTwo = codes "STAQ"

-- I where the address is indirect
abbrev pub indirect_modifier : Bool → List ℕ
indirect_modifier true = codes ",I"
indirect_modifier false = []

abbrev pub masked_mnemonic : Search → List ℕ
masked_mnemonic masked.Equal = codes "MEQ"
masked_mnemonic masked.Threshold = codes "MTH"
