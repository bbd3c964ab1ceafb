-- What is printed of an answer.
use Rattle.std.specs.Prelude.{ℕ, zero, suc, ◌*◌, ◌/◌, ◌%◌, ◌^◌, cond, List, [], ◌∷◌, ◌++◌, Some, None, Ok, Err, codes, decimal, Option, Result, nat_lt, flat_map}
use Rattle.answers.specs.Names.{cause_name, layer_name, refusal_name}
use Rattle.answers.specs.Numbers.{cause_number, layer_number, refusal_number, refusal_fault}
use Rattle.answers.specs.declared.fault.Fault.{Fault}
use Rattle.answers.specs.declared.refusal.Refusal.{Refusal}
use Rattle.printing.specs.Calls.{call_name}
use Rattle.printing.specs.declared.call.Call.{Call}
use Rattle.printing.specs.declared.lead.Spot.{Spot}

-- one text after the other
abbrev pub text : List ℕ → List (List ℕ) → List ℕ
text x [] = x
text x (y ∷ ys) = x ++ text y ys

-- the low k octal digits of n
abbrev pub octal : ℕ → ℕ → List ℕ
octal zero n = []
octal (suc k) n = decimal (n / 2 ^ (3 * k) % 8) ++ octal k n

-- six digits of an address that a core may have, else all eleven
abbrev pub octal_address : ℕ → List ℕ
octal_address n = cond (nat_lt n 262144) (octal 6 n) (octal 11 n)

-- two digits of the six jump keys
abbrev pub octal_keys : ℕ → List ℕ
octal_keys n = octal 2 n

-- a fault as three numbers
abbrev pub plain_fault : Fault → List ℕ
plain_fault f = text (codes " ") (decimal (cause_number f.cause) ∷
    codes " " ∷ decimal (layer_number f.layer) ∷
    codes " " ∷ decimal f.address ∷ [])

-- a fault with its names
abbrev pub console_fault : Fault → List ℕ
console_fault f = text (codes "fault ") (decimal (cause_number f.cause) ∷ codes " (" ∷ cause_name f.cause ∷
    codes "), layer " ∷ decimal (layer_number f.layer) ∷ codes " (" ∷ layer_name f.layer ∷
    codes "), address " ∷ octal_address f.address ∷ [])

-- what follows the number of a refusal
abbrev pub plain_rest : Option Fault → List ℕ
plain_rest None = []
plain_rest (Some f) = plain_fault f

abbrev pub console_rest : Option Fault → List ℕ → List ℕ
console_rest None name = name
console_rest (Some f) name = console_fault f

-- a refused call
abbrev pub plain_refused : Call → Refusal → List ℕ
plain_refused c r = text (call_name c) (codes " refused " ∷ decimal (refusal_number r) ∷ plain_rest (refusal_fault r) ∷ [])

abbrev pub console_refused : Call → Refusal → List ℕ
console_refused c r = text (call_name c) (codes " refused " ∷ decimal (refusal_number r) ∷
    codes ": " ∷ console_rest (refusal_fault r) (refusal_name r) ∷ [])

-- numbers, each after a blank
abbrev pub spaced : List ℕ → List ℕ
spaced ns = flat_map (λ n. 32 ∷ decimal n) ns

abbrev pub image_head : ℕ → ℕ → List ℕ
image_head keys len = text (codes "image ok ") (decimal keys ∷ codes " " ∷ decimal len ∷ [])

-- an accepted image: keys, turn length and the bytes of its words
abbrev pub plain_image : ℕ → ℕ → List ℕ → List ℕ
plain_image keys len bytes = image_head keys len ++ spaced bytes

abbrev pub console_image : ℕ → ℕ → ℕ → List ℕ
console_image keys len n = text (codes "image: keys ") (octal_keys keys ∷ codes ", turn length " ∷ decimal len ∷ codes ", words " ∷ decimal n ∷ [])

-- a word that was read
abbrev pub plain_word : ℕ → List ℕ
plain_word w = codes "read ok " ++ decimal w

abbrev pub console_word : ℕ → ℕ → List ℕ
console_word a w = text (octal_address a) (codes "  " ∷ octal 8 w ∷ [])

-- where an address leads: cause 0 with the core address and the cell, or the fault
abbrev pub plain_lead : Result Spot Fault → List ℕ
plain_lead (Ok s) = text (codes " 0 ") (decimal s.address ∷ codes " " ∷ decimal s.cell ∷ [])
plain_lead (Err f) = plain_fault f

abbrev pub console_lead : Result Spot Fault → List ℕ
console_lead (Ok s) = text (codes "core ") (octal_address s.address ∷ codes ", cell " ∷ octal_address s.cell ∷ [])
console_lead (Err f) = console_fault f
