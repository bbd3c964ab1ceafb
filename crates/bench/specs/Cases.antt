-- Ten cases worked by hand, of the definitions that the contracts of the code cite.
use Rattle.std.specs.Prelude.{◌≡◌, ℕ, ◌+◌, ◌*◌, ◌^◌, true, List, [], ◌∷◌, Some, None, Ok, Err, Option, slice_index_or}
use Rattle.answers.specs.Numbers.{cause_number}
use Rattle.answers.specs.declared.cause.Cause.TheVariants.{Unmapped}
use Rattle.answers.specs.declared.layer.Layer.TheVariants as layers
use Rattle.ones.specs.Numbers.{address, word, counted, plus}
use Rattle.ones.specs.declared.number.Ones.{Ones}
use Rattle.pages.specs.Pages.{located}
use Rattle.pages.specs.declared.descriptor.Window.{Window}
use Rattle.registers.specs.Registers.{with_a, with_q, with_p, on}
use Rattle.registers.specs.declared.keys.Keys.{Keys}
use Rattle.registers.specs.declared.registers.Registers.{Registers}
use Rattle.rules.specs.Sight.{Sight, quiet}
use Rattle.rules.specs.Table.{step}
use Rattle.store.specs.Meaning.{reads}
use Rattle.store.specs.Packed.{word_at, packed}

-- the instruction word of three octal digits c, the code and the third digit, and an address
abbrev pub coded : ℕ → Ones 15 → Ones 24
coded c m = word (c * 2 ^ 15 + m.bits)

-- The instructions stand at any P, with any m, keys, view of a store and other registers; what is not named is unchanged.
pub record WorkedCases : Type 0 where
  -- 1. 77776 ⊕ 1 is 00000
  pub sum_to_zero : plus (address 0o77776) (address 1) ≡ address 0o00000
  -- 2. 77777 ⊕ 1 is 00001
  pub sum_from_negative_zero : plus (address 0o77777) (address 1) ≡ address 0o00001
  -- 3. 30.0, ADA m: 37777777 ⊕ 1 is 40000000, and the latch is set
  pub sum_sets_latch : (keys : Keys) (s : Sight) (r : Registers) (m : Ones 15)
      → s.reads r.p ≡ Ok (coded 0o300 m) → r.a ≡ word 0o37777777 → s.reads m ≡ Ok (word 1)
      → step keys s r ≡ quiet (record { a = word 0o40000000; q = r.q; b1 = r.b1; b2 = r.b2; b3 = r.b3; p = counted r.p 1; latch = true })
  -- 4. A = 77777777 jumps to m on 03.0 and 03.3, and goes on to P + 1 on 03.2
  pub negative_zero_jumps : (keys : Keys) (s : Sight) (r : Registers) (m : Ones 15) → r.a ≡ word 0o77777777
      → (s.reads r.p ≡ Ok (coded 0o030 m) → step keys s r ≡ quiet (with_p r m))
      × (s.reads r.p ≡ Ok (coded 0o033 m) → step keys s r ≡ quiet (with_p r m))
      × (s.reads r.p ≡ Ok (coded 0o032 m) → step keys s r ≡ quiet (on 1 r))
  -- 5. where entry 0 of group 0 is page 3, start 1, length 2, address 1,023 is core address 7,679, and 1,024 is cause 3
  pub page_ends : (ds : List (Option Window)) (w : Window) → slice_index_or ds 0 None ≡ Some w → w.page ≡ 3 → w.start ≡ 1 → w.length ≡ 2
      → (located ds 1023 ≡ Ok (record { address = 7679; write = w.write }))
      × (located ds 1024 ≡ Err (record { cause = Unmapped; layer = layers.Relocation; address = 1024 }))
      × (cause_number Unmapped ≡ 3)
  -- 6. 12.0, SHA 77776: A = 40000000 becomes 60000000
  pub shift_copies_sign : (keys : Keys) (s : Sight) (r : Registers)
      → s.reads r.p ≡ Ok (word 0o12077776) → r.a ≡ word 0o40000000
      → step keys s r ≡ quiet (on 1 (with_a r (word 0o60000000)))
  -- 7. 32.0, ADAQ m: 00000000 77777777 ⊕ 00000000 00000001 is 00000001 00000000
  pub double_sum_carries : (keys : Keys) (s : Sight) (r : Registers) (m : Ones 15)
      → s.reads r.p ≡ Ok (coded 0o320 m) → r.a ≡ word 0o00000000 → r.q ≡ word 0o77777777
      → s.reads m ≡ Ok (word 0o00000000) → s.reads (counted m 1) ≡ Ok (word 0o00000001)
      → step keys s r ≡ quiet (on 1 (with_q (with_a r (word 0o00000001)) (word 0o00000000)))
  -- 8. 00.7, RTJ 00100 at P = 00010: the word 01000000 at 00100 becomes 01000011, and P is 00101
  pub return_jump_links : (keys : Keys) (s : Sight) (r : Registers)
      → r.p ≡ address 0o00010 → s.reads (address 0o00010) ≡ Ok (word 0o00700100)
      → s.takes (address 0o00100) ≡ Ok tt → s.reads (address 0o00100) ≡ Ok (word 0o01000000)
      → step keys s r ≡ Ok (record { registers = with_p r (address 0o00101); writes = record { at = address 0o00100; word = word 0o01000011 } ∷ [] })
  -- 9. 52.0, CPR m with A = 5, Q = 2: the words 6, 1, 5 go to P + 1, P + 2, P + 3
  pub compare_goes_three_ways : (keys : Keys) (s : Sight) (r : Registers) (m : Ones 15)
      → s.reads r.p ≡ Ok (coded 0o520 m) → r.a ≡ word 5 → r.q ≡ word 2
      → (s.reads m ≡ Ok (word 6) → step keys s r ≡ quiet (on 1 r))
      × (s.reads m ≡ Ok (word 1) → step keys s r ≡ quiet (on 2 r))
      × (s.reads m ≡ Ok (word 5) → step keys s r ≡ quiet (on 3 r))
  -- 10. the bytes 01 02 03 are the word 00201003, and the packed core of them reads it
  pub three_bytes_are_a_word : (word_at (1 ∷ 2 ∷ 3 ∷ []) 0 ≡ 0o00201003) × (reads (packed (1 ∷ 2 ∷ 3 ∷ [])) 0 ≡ Ok 0o00201003)
