-- The instruction table, in the order of the codes, each row under its COMPASS mnemonic.
--
-- r are the registers, y and m the low 15 bits of the instruction, w the word at the effective address M, and u, v those
-- at M and M + 1. A row goes on to P + 1 unless it says otherwise; `on n` is P + n. `reading`, `changing` and `storing` say
-- which words of M are read and written, in which order.
use Rattle.std.specs.Prelude.{Bool, cond, not, Some, None, Ok, Err, Option, Result, ◌==◌}
use Rattle.answers.specs.declared.fault.Fault.{Fault}
use Rattle.instruction.specs.Decode.{decoded}
use Rattle.instruction.specs.declared.action.Action.{Action}
use Rattle.instruction.specs.declared.action.Action.TheVariants as actions
use Rattle.instruction.specs.declared.action.Count.{Count}
use Rattle.instruction.specs.declared.action.Relation.{Relation}
use Rattle.instruction.specs.declared.action.Shifted.TheVariants as shifted
use Rattle.instruction.specs.declared.action.Target.{Target}
use Rattle.instruction.specs.declared.action.Target.TheVariants as targets
use Rattle.instruction.specs.declared.action.Extension.TheVariants.{Sign, Zero}
use Rattle.instruction.specs.declared.instruction.Instruction.{Instruction}
use Rattle.instruction.specs.declared.instruction.Instruction.TheVariants as instructions
use Rattle.instruction.specs.declared.instruction.Search.{Search}
use Rattle.instruction.specs.declared.instruction.Search.TheVariants as searches
use Rattle.instruction.specs.declared.interval.Interval.{Interval}
use Rattle.instruction.specs.declared.operation.Change.{Change}
use Rattle.instruction.specs.declared.operation.Change.TheVariants as changes
use Rattle.instruction.specs.declared.operation.Operation.{Operation}
use Rattle.instruction.specs.declared.operation.Operation.TheVariants as operations
use Rattle.instruction.specs.declared.operation.Source.{Source}
use Rattle.instruction.specs.declared.operation.Source.TheVariants as sources
use Rattle.instruction.specs.declared.operation.Take.{Take}
use Rattle.instruction.specs.declared.operation.Take.TheVariants as takes
use Rattle.instruction.specs.declared.operation.TakeTwo.{TakeTwo}
use Rattle.instruction.specs.declared.operation.TakeTwo.TheVariants as pairs
use Rattle.ones.specs.Numbers.{address, word, counted, with_low, plus, minus, complement, below, alike, conjunction, disjunction, exclusive, joined, upper, lower, sum_overflows, difference_overflows, extended}
use Rattle.ones.specs.declared.number.Ones.{Ones}
use Rattle.registers.specs.Keys.{key_set}
use Rattle.registers.specs.Registers.{index, with_a, with_q, with_index, with_p, latched, on}
use Rattle.registers.specs.declared.index.Index.{Index}
use Rattle.registers.specs.declared.key.Key.{Key}
use Rattle.registers.specs.declared.keys.Keys.{Keys}
use Rattle.registers.specs.declared.registers.Registers.{Registers}
use Rattle.registers.specs.declared.trap.Trap.{Trap}
use Rattle.registers.specs.declared.trap.Trap.TheVariants as traps
use Rattle.rules.specs.Parts.{jump_if, skip_if, stepped, related, same_bits, at_least, low_part, combined, second, shifted_by, effective, reading, reading_two, changing, storing, storing_two, searching}
use Rattle.rules.specs.Sight.{Sight, Done, bind, quiet, trapping}

-- 00.1-6 SJ1 to SJ6: jump to m if the key is set
abbrev pub sj : Keys → Key → Ones 15 → Registers → Registers
sj keys d m r = jump_if (key_set keys d) m r

-- 00.7 RTJ: the low 15 bits of the word at m become P + 1; jump to m + 1
abbrev pub rtj : Ones 15 → Sight → Registers → Result Done Fault
rtj m = changing (λ w r. with_low w (counted r.p 1)) (λ w r. with_p r (counted m 1)) m

-- 01 UJP,I: jump to M
abbrev pub ujp : Ones 15 → Registers → Registers
ujp m r = with_p r m

-- 02.0-3 IJI, 02.4-7 IJD: if Bb is not 00000 it goes up, or down, by one; jump to m
abbrev pub iji : Count → Index → Ones 15 → Registers → Registers
iji c b m r = cond ((index r b).bits == 0) (on 1 r) (with_p (with_index r b (stepped c (index r b))) m)

-- 03.0-3 AZJ: jump to m if A is equal, unequal, not below, below positive zero
abbrev pub azj : Relation → Ones 15 → Registers → Registers
azj t m r = jump_if (related t r.a (word 0)) m r

-- 03.4-7 AQJ: the same for A against Q
abbrev pub aqj : Relation → Ones 15 → Registers → Registers
aqj t m r = jump_if (related t r.a r.q) m r

-- 04 ISE, ASE,S, QSE,S, ASE, QSE: skip if equal, by bits
abbrev pub ise : Target → Ones 15 → Registers → Registers
ise (targets.Index b) y r = skip_if (same_bits (index r b) y) r
ise (targets.A Sign) y r = skip_if (same_bits r.a (extended y)) r
ise (targets.A Zero) y r = skip_if (same_bits (low_part r.a) y) r
ise (targets.Q Sign) y r = skip_if (same_bits r.q (extended y)) r
ise (targets.Q Zero) y r = skip_if (same_bits (low_part r.q) y) r

-- 05 ISG, ASG,S, QSG,S, ASG, QSG: skip if not below; signed order for all of A and Q, else plain numbers
abbrev pub isg : Target → Ones 15 → Registers → Registers
isg (targets.Index b) y r = skip_if (at_least (index r b) y) r
isg (targets.A Sign) y r = skip_if (not (below r.a (extended y))) r
isg (targets.A Zero) y r = skip_if (at_least (low_part r.a) y) r
isg (targets.Q Sign) y r = skip_if (not (below r.q (extended y))) r
isg (targets.Q Zero) y r = skip_if (at_least (low_part r.q) y) r

-- 06 MEQ: a hit is A equal, by bits, to Q and the word
abbrev pub meq : Registers → Ones 24 → Bool
meq r w = same_bits r.a (conjunction r.q w)

-- 07 MTH: a hit is A not below Q and the word in signed order
abbrev pub mth : Registers → Ones 24 → Bool
mth r w = not (below r.a (conjunction r.q w))

-- 10.1-3 ISI, 10.4-7 ISD: if Bb equals y (zeros alike) clear it and skip; otherwise it goes up, or down, by one
abbrev pub isi : Count → Index → Ones 15 → Registers → Registers
isi c b y r =
    cond (alike (index r b) y)
    (on 2 (with_index r b (address 0)))
    (on 1 (with_index r b (stepped c (index r b))))

-- 12.0-3 SHA: shift A by K = y ⊕ Bb
abbrev pub sha : Index → Ones 15 → Registers → Registers
sha b y r = on 1 (with_a r (shifted_by (plus y (index r b)) r.a))

-- 12.4-7 SHQ: shift Q
abbrev pub shq : Index → Ones 15 → Registers → Registers
shq b y r = on 1 (with_q r (shifted_by (plus y (index r b)) r.q))

-- both halves of a number of 48 bits
abbrev pub with_aq : Registers → Ones 48 → Registers
with_aq r d = with_q (with_a r (upper d)) (lower d)

-- 13.0-3 SHAQ: shift A and Q as one number
abbrev pub shaq : Index → Ones 15 → Registers → Registers
shaq b y r = on 1 (with_aq r (shifted_by (plus y (index r b)) (joined r.a r.q)))

-- 14 ENI, ENA,S, ENQ,S, ENA, ENQ: enter y
abbrev pub eni : Target → Ones 15 → Registers → Registers
eni t y r = on 1 (combined second second t y r)

-- 15 INI, INA,S, INQ,S, INA, INQ: ⊕ y
abbrev pub ini : Target → Ones 15 → Registers → Registers
ini t y r = on 1 (combined plus plus t y r)

-- 16 XOI, XOA,S, XOQ,S, XOA, XOQ: exclusive or
abbrev pub xoi : Target → Ones 15 → Registers → Registers
xoi t y r = on 1 (combined exclusive exclusive t y r)

-- 17 ANI, ANA,S, ANQ,S, ANA, ANQ: and
abbrev pub ani : Target → Ones 15 → Registers → Registers
ani t y r = on 1 (combined conjunction conjunction t y r)

-- 20 LDA,I: A = word
abbrev pub lda : Ones 24 → Registers → Registers
lda w r = on 1 (with_a r w)

-- 21 LDQ,I: Q = word
abbrev pub ldq : Ones 24 → Registers → Registers
ldq w r = on 1 (with_q r w)

-- 24 LCA,I: A = complement of the word
abbrev pub lca : Ones 24 → Registers → Registers
lca w r = on 1 (with_a r (complement w))

-- 25 LDAQ,I: A, Q = the words at M, M + 1
abbrev pub ldaq : Ones 24 → Ones 24 → Registers → Registers
ldaq u v r = on 1 (with_q (with_a r u) v)

-- 26 LCAQ,I: the same, complemented
abbrev pub lcaq : Ones 24 → Ones 24 → Registers → Registers
lcaq u v r = on 1 (with_q (with_a r (complement u)) (complement v))

-- 27 LDL,I: A = word and Q
abbrev pub ldl : Ones 24 → Registers → Registers
ldl w r = on 1 (with_a r (conjunction w r.q))

-- 30 ADA,I: A ⊕ word, with the latch
abbrev pub ada : Ones 24 → Registers → Registers
ada w r = on 1 (latched (with_a r (plus r.a w)) (sum_overflows r.a w))

-- 31 SBA,I: A ⊖ word, with the latch
abbrev pub sba : Ones 24 → Registers → Registers
sba w r = on 1 (latched (with_a r (minus r.a w)) (difference_overflows r.a w))

-- 32 ADAQ,I: AQ ⊕ the 48 bits at M, M + 1, with the latch
abbrev pub adaq : Ones 24 → Ones 24 → Registers → Registers
adaq u v r = on 1 (latched (with_aq r (plus (joined r.a r.q) (joined u v))) (sum_overflows (joined r.a r.q) (joined u v)))

-- 33 SBAQ,I: AQ ⊖ the 48 bits at M, M + 1, with the latch
abbrev pub sbaq : Ones 24 → Ones 24 → Registers → Registers
sbaq u v r = on 1 (latched (with_aq r (minus (joined r.a r.q) (joined u v))) (difference_overflows (joined r.a r.q) (joined u v)))

-- 34 RAD,I: word = word ⊕ A, with the latch
abbrev pub rad : Ones 24 → Registers → Ones 24
rad w r = plus w r.a

abbrev pub rad_latch : Ones 24 → Registers → Registers
rad_latch w r = on 1 (latched r (sum_overflows w r.a))

-- 35 SSA,I: A or word
abbrev pub ssa : Ones 24 → Registers → Registers
ssa w r = on 1 (with_a r (disjunction r.a w))

-- 36 SCA,I: A exclusive or word
abbrev pub sca : Ones 24 → Registers → Registers
sca w r = on 1 (with_a r (exclusive r.a w))

-- 37 LPA,I: A and word
abbrev pub lpa : Ones 24 → Registers → Registers
lpa w r = on 1 (with_a r (conjunction r.a w))

-- 40 STA,I: store A; 41 STQ,I: store Q; 45 STAQ,I: A and then Q at M, M + 1
abbrev pub st : Source → Registers → Ones 24
st sources.A r = r.a
st sources.Q r = r.q

-- 44 SWA,I: the low 15 bits of the word become A's
abbrev pub swa : Ones 24 → Registers → Ones 24
swa w r = with_low w (low_part r.a)

-- 47 STI,I: the low 15 bits of the word become Bb's
abbrev pub sti : Index → Ones 24 → Registers → Ones 24
sti b w r = with_low w (index r b)

-- 52 CPR,I: word above A goes to P + 1, word below Q to P + 2, otherwise P + 3
abbrev pub cpr : Ones 24 → Registers → Registers
cpr w r = on (cond (below r.a w) 1 (cond (below w r.q) 2 3)) r

-- 54 LDI,I: Bb = the low 15 bits of the word
abbrev pub ldi : Index → Ones 24 → Registers → Registers
ldi b w r = on 1 (with_index r b (low_part w))

-- the rows without a memory operand
abbrev pub acted : Action → Keys → Ones 15 → Registers → Registers
acted (actions.SelectJump d) keys m r = sj keys d m r
acted (actions.IndexJump c b) keys m r = iji c b m r
acted (actions.ZeroJump t) keys m r = azj t m r
acted (actions.QJump t) keys m r = aqj t m r
acted (actions.SkipEqual t) keys y r = ise t y r
acted (actions.SkipNotBelow t) keys y r = isg t y r
acted (actions.IndexSkip c b) keys y r = isi c b y r
acted (actions.Shift shifted.A b) keys y r = sha b y r
acted (actions.Shift shifted.Q b) keys y r = shq b y r
acted (actions.Shift shifted.Both b) keys y r = shaq b y r
acted (actions.Enter t) keys y r = eni t y r
acted (actions.Increase t) keys y r = ini t y r
acted (actions.ExclusiveOr t) keys y r = xoi t y r
acted (actions.And t) keys y r = ani t y r

-- the rows that read the word at M
abbrev pub taken : Take → Ones 24 → Registers → Registers
taken takes.LoadA w r = lda w r
taken takes.LoadQ w r = ldq w r
taken takes.LoadComplement w r = lca w r
taken takes.LoadMasked w r = ldl w r
taken takes.Add w r = ada w r
taken takes.Subtract w r = sba w r
taken takes.Or w r = ssa w r
taken takes.ExclusiveOr w r = sca w r
taken takes.And w r = lpa w r
taken takes.Compare w r = cpr w r
taken (takes.LoadIndex b) w r = ldi b w r

-- those that read the words at M and M + 1
abbrev pub taken_two : TakeTwo → Ones 24 → Ones 24 → Registers → Registers
taken_two pairs.Load u v r = ldaq u v r
taken_two pairs.LoadComplement u v r = lcaq u v r
taken_two pairs.Add u v r = adaq u v r
taken_two pairs.Subtract u v r = sbaq u v r

-- those that put a word in the place of the one at M: the new word, and the registers
abbrev pub changed : Change → Ones 24 → Registers → Ones 24
changed changes.Add w r = rad w r
changed changes.StoreAddress w r = swa w r
changed (changes.StoreIndex b) w r = sti b w r

abbrev pub change_left : Change → Ones 24 → Registers → Registers
change_left changes.Add w r = rad_latch w r
change_left changes.StoreAddress w r = on 1 r
change_left (changes.StoreIndex b) w r = on 1 r

-- the rows at an effective address M
abbrev pub operated : Operation → Ones 15 → Sight → Registers → Result Done Fault
operated operations.Jump m s r = quiet (ujp m r)
operated (operations.Take o) m s r = reading (taken o) m s r
operated (operations.TakeTwo o) m s r = reading_two (taken_two o) m s r
operated (operations.Change o) m s r = changing (changed o) (change_left o) m s r
operated (operations.Store o) m s r = storing (st o) m s r
operated operations.StoreTwo m s r = storing_two (st sources.A) (st sources.Q) m s r

-- what a search takes for a hit
abbrev pub hits : Search → Registers → Ones 24 → Bool
hits searches.Equal r w = meq r w
hits searches.Threshold r w = mth r w

-- 06, 07: i is the interval
abbrev pub searched : Search → Interval → Ones 15 → Sight → Registers → Result Done Fault
searched k i m s r = searching (hits k) i.words m s r

-- the row at the address that was found; trap 6 where too many indirect words were needed
abbrev pub at_address : Result (Option (Ones 15)) Fault → (Ones 15 → Result Done Fault) → Registers → Result Done Trap
at_address (Ok (Some m)) f r = trapping (f m)
at_address (Ok None) f r = Err (traps.Indirect r.p)
at_address (Err e) f r = Err (traps.Store e)

-- one instruction by name
abbrev pub executed : Instruction → Keys → Sight → Registers → Result Done Trap
executed instructions.Executive keys s r = Err (traps.Executive r.p)
executed instructions.Illegal keys s r = Err (traps.Illegal r.p)
executed (instructions.Act a y) keys s r = quiet (acted a keys y r)
executed (instructions.ReturnJump m) keys s r = trapping (rtj m s r)
executed (instructions.Search k i m) keys s r = trapping (searched k i m s r)
executed (instructions.Operate o p) keys s r = at_address (effective 64 s.reads r p) (λ m. operated o m s r) r

-- one instruction of a group: the word at P, decoded
unfoldable pub step : Keys → Sight → Registers → Result Done Trap
step keys s r = bind (trapping (s.reads r.p)) (λ w. executed (decoded w) keys s r)
