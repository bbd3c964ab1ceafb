-- What several rows of the instruction table share.
use Rattle.std.specs.Prelude.{◌≡◌, ℕ, zero, suc, ◌-◌, ◌%◌, ◌^◌, Bool, cond, not, [], ◌∷◌, Some, None, Ok, Option, Result, ◌==◌, nat_le, nat_lt}
use Rattle.answers.specs.declared.fault.Fault.{Fault}
use Rattle.instruction.specs.Places.{placed}
use Rattle.instruction.specs.declared.action.Count.{Count}
use Rattle.instruction.specs.declared.action.Count.TheVariants.{Up, Down}
use Rattle.instruction.specs.declared.action.Extension.{Extension}
use Rattle.instruction.specs.declared.action.Extension.TheVariants.{Sign, Zero}
use Rattle.instruction.specs.declared.action.Relation.{Relation}
use Rattle.instruction.specs.declared.action.Relation.TheVariants.{Equal, Unequal, NotBelow, Below}
use Rattle.instruction.specs.declared.action.Target.{Target}
use Rattle.instruction.specs.declared.action.Target.TheVariants as targets
use Rattle.instruction.specs.declared.place.Place.{Place}
use Rattle.ones.specs.Numbers.{address, word, counted, plus, minus, complement, below, alike, left as turned_left, right as moved_right, extended}
use Rattle.ones.specs.declared.number.Ones.{Ones}
use Rattle.registers.specs.Registers.{index, with_a, with_q, with_index, with_p, on}
use Rattle.registers.specs.declared.index.Index.{Index}
use Rattle.registers.specs.declared.index.Index.TheVariants.{B0, B1, B2, B3}
use Rattle.registers.specs.declared.registers.Registers.{Registers}
use Rattle.rules.specs.Sight.{Sight, Done, bind, quiet}

-- P becomes m, or goes on by one
abbrev pub jump_if : Bool → Ones 15 → Registers → Registers
jump_if t m r = cond t (with_p r m) (on 1 r)

-- P goes on by two, or by one
abbrev pub skip_if : Bool → Registers → Registers
skip_if t r = cond t (on 2 r) (on 1 r)

-- by one, up or down
abbrev pub stepped : Count → Ones 15 → Ones 15
stepped Up x = plus x (address 1)
stepped Down x = minus x (address 1)

-- equality has the zeros alike; the order is the signed one, with negative zero just below positive zero
abbrev pub related : Relation → Ones 24 → Ones 24 → Bool
related Equal x z = alike x z
related Unequal x z = not (alike x z)
related NotBelow x z = not (below x z)
related Below x z = below x z

-- equal by bits
abbrev pub same_bits : {w : ℕ} → Ones w → Ones w → Bool
same_bits x z = x.bits == z.bits

-- not below as plain numbers
abbrev pub at_least : {w : ℕ} → Ones w → Ones w → Bool
at_least x z = not (nat_lt x.bits z.bits)

-- y at 24 bits
abbrev pub widened : Extension → Ones 15 → Ones 24
widened Sign y = extended y
widened Zero y = word y.bits

-- the low 15 bits
abbrev pub low_part : Ones 24 → Ones 15
low_part x = address x.bits

-- what a register becomes of itself and y, by f at 15 bits and by g at 24
abbrev pub combined : (Ones 15 → Ones 15 → Ones 15) → (Ones 24 → Ones 24 → Ones 24) → Target → Ones 15 → Registers → Registers
combined f g (targets.Index b) y r = with_index r b (f (index r b) y)
combined f g (targets.A e) y r = with_a r (g r.a (widened e y))
combined f g (targets.Q e) y r = with_q r (g r.q (widened e y))

-- the same, where f and g tell which values may come of the register and y; P goes on by one
abbrev pub Combines : (Ones 15 → Ones 15 → Ones 15 → Type 0) → (Ones 24 → Ones 24 → Ones 24 → Type 0) → Target → Ones 15 → Registers → Registers → Type 0
Combines f g (targets.Index b) y r r' = (x : Ones 15) × f (index r b) y x × (r' ≡ on 1 (with_index r b x))
Combines f g (targets.A e) y r r' = (x : Ones 24) × g r.a (widened e y) x × (r' ≡ on 1 (with_a r x))
Combines f g (targets.Q e) y r r' = (x : Ones 24) × g r.q (widened e y) x × (r' ≡ on 1 (with_q r x))

-- the second of two numbers
abbrev pub second : {w : ℕ} → Ones w → Ones w → Ones w
second x y = y

-- by the count K: left, end around, where its bit 14 is clear; right, the sign copied, by its complement where it is set
abbrev pub shifted_by : {w : ℕ} → Ones 15 → Ones w → Ones w
shifted_by k x = cond (nat_le (2 ^ 14) k.bits) (moved_right x ((complement k).bits % 64)) (turned_left x (k.bits % 64))

-- m indexed by the sum rule, and m itself where b is 0
abbrev pub indexed : Ones 15 → Index → Registers → Ones 15
indexed m B0 r = m
indexed m B1 r = plus m r.b1
indexed m B2 r = plus m r.b2
indexed m B3 r = plus m r.b3

-- the effective address by way of at most n indirect words; none where another would be needed
unfoldable pub effective : ℕ → (Ones 15 → Result (Ones 24) Fault) → Registers → Place → Result (Option (Ones 15)) Fault
effective zero rd r p = cond p.indirect (Ok None) (Ok (Some (indexed p.m p.index r)))
effective (suc n) rd r p =
    cond p.indirect
    (bind (rd (indexed p.m p.index r)) (λ w. effective n rd r (placed p.mode w)))
    (Ok (Some (indexed p.m p.index r)))

-- at M, the word there
abbrev pub reading : (Ones 24 → Registers → Registers) → Ones 15 → Sight → Registers → Result Done Fault
reading f m s r = bind (s.reads m) (λ w. quiet (f w r))

-- at M, the words there and at M + 1
abbrev pub reading_two : (Ones 24 → Ones 24 → Registers → Registers) → Ones 15 → Sight → Registers → Result Done Fault
reading_two f m s r = bind (s.reads m) (λ u. bind (s.reads (counted m 1)) (λ v. quiet (f u v r)))

-- at M, a word in the place of the one there; the write is asked for before the word is read
abbrev pub changing : (Ones 24 → Registers → Ones 24) → (Ones 24 → Registers → Registers) → Ones 15 → Sight → Registers → Result Done Fault
changing g f m s r =
    bind (s.takes m) (λ _. bind (s.reads m) (λ w. Ok (record { registers = f w r; writes = record { at = m; word = g w r } ∷ [] })))

-- at M, a word
abbrev pub storing : (Registers → Ones 24) → Ones 15 → Sight → Registers → Result Done Fault
storing g m s r = bind (s.takes m) (λ _. Ok (record { registers = on 1 r; writes = record { at = m; word = g r } ∷ [] }))

-- at M and M + 1, two words; both writes are asked for before the first
abbrev pub storing_two : (Registers → Ones 24) → (Registers → Ones 24) → Ones 15 → Sight → Registers → Result Done Fault
storing_two f g m s r =
    bind (s.takes m) (λ _. bind (s.takes (counted m 1)) (λ _.
    Ok (record { registers = on 1 r; writes = record { at = m; word = f r } ∷ (record { at = counted m 1; word = g r } ∷ []) })))

-- of the numbers b - i, b - 2i and on, none below zero, the first whose word at m ⊕ it is a hit; n bounds their count
unfoldable pub sought : ℕ → (Ones 15 → Result (Ones 24) Fault) → (Ones 24 → Bool) → Ones 15 → ℕ → ℕ → Result (Option (Ones 15)) Fault
sought zero rd hit m i b = Ok None
sought (suc n) rd hit m i b =
    cond (nat_lt b i) (Ok None)
    (bind (rd (plus m (address (b - i)))) (λ w. cond (hit w) (Ok (Some (address (b - i)))) (sought n rd hit m i (b - i))))

-- the number that hit goes into B1, and P skips; where none did B1 is cleared
abbrev pub search_ended : Registers → Option (Ones 15) → Registers
search_ended r (Some n) = on 2 (with_index r B1 n)
search_ended r None = on 1 (with_index r B1 (address 0))

-- from B1 down by steps of i
abbrev pub searching : (Registers → Ones 24 → Bool) → ℕ → Ones 15 → Sight → Registers → Result Done Fault
searching hit i m s r = bind (sought (suc r.b1.bits) s.reads (hit r) m i r.b1.bits) (λ o. quiet (search_ended r o))
