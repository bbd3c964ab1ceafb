-- The parts of an instruction word that is written as three digits and an address.
use Rattle.std.proofs.Common.{◌≡◌, ℕ, ◌+◌, ◌*◌, ◌/◌, ◌%◌, ◌^◌, ◌<◌, false, sym, arith}
use Rattle.instruction.specs.Decode.{by_code, decoded}
use Rattle.instruction.specs.Places.{placed}
use Rattle.instruction.specs.declared.place.Mode.TheVariants.{Indexed}
use Rattle.instruction.specs.declared.place.Place.{Place}
use Rattle.ones.proofs.Same.{is_low}
use Rattle.ones.specs.Numbers.{low, address}
use Rattle.ones.specs.declared.number.Ones.{Ones}
use Rattle.registers.specs.declared.index.Index.TheVariants.{B0}
use Rattle.bench.specs.Cases.{coded}

module _ (c : ℕ) (m : Ones 15) (h : c < 512) where
  bits : (coded c m).bits ≡ c * 2 ^ 15 + m.bits
  unfolding low
  bits = let f = m.fits in omega arith

  code : (coded c m).bits / 2 ^ 18 ≡ c / 8
  code = let f = m.fits in let b = bits in omega arith

  digit : (coded c m).bits / 2 ^ 15 % 8 ≡ c % 8
  digit = let f = m.fits in let b = bits in omega arith

  flag : (coded c m).bits / 2 ^ 17 % 2 ≡ c / 4 % 2
  flag = let f = m.fits in let b = bits in omega arith

  register : (coded c m).bits / 2 ^ 15 % 4 ≡ c % 4
  register = let f = m.fits in let b = bits in omega arith

  pub low_part : address (coded c m).bits ≡ m
  low_part = let f = m.fits in let b = bits in sym (is_low m _ _ (coded c m).bits (omega arith))

  -- its row in the table of codes
  pub by_digits : decoded (coded c m) ≡ by_code (c / 8) (c % 8) ((coded c m).bits / 2 ^ 12 % 64) (coded c m)
  unfolding decoded
  by_digits = rw (code, digit)

-- neither indirect nor indexed
abbrev pub plainly : Ones 15 → Place
plainly m = record { mode = Indexed; indirect = false; index = B0; m = m }

-- as with the third digit 0
pub plain : (c : ℕ) (m : Ones 15) → c < 512 → c % 8 ≡ 0 → placed Indexed (coded c m) ≡ plainly m
plain c m h z =
    let a : c / 4 % 2 ≡ 0 = omega arith in
    let b : c % 4 ≡ 0 = omega arith in
    rw (flag c m h, register c m h, low_part c m h, a, b)
