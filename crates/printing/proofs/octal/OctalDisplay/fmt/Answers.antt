use Rattle.std.proofs.Common.{◌≡◌, rules, ◌*◌, ◌%◌, ◌^◌, ◌∙◌, arith, pow_pos, mod-lt}
use Rattle.std.proofs.Output.{has_written_of_eq}
use Rattle.std.proofs.lemmas.Nat.{one_shl}
use Rattle.printing.proofs.Padded.{padded_octal, octal_low}
use Rattle.printing.proofs.octal.OctalDisplay.fmt.Goals as goal

pub returns-clause-writes : goal.returns-clause-writes
returns-clause-writes g c plain ok =
    let k = g.row.DIGITS in
    let n = c.args.self.now.number in
    let mask : (1 * 2 ^ (3 * k)) % 2 ^ 64 ≡ 2 ^ (3 * k) = one_shl (3 * k) 64 (omega arith) in
    has_written_of_eq _ _ _ _ _ (padded_octal k (n % 2 ^ (3 * k)) (omega arith) (omega arith) (mod-lt n (pow_pos (3 * k))) ∙ octal_low k n) (rw (← mask) (search rules))
