use Rattle.std.proofs.Common.{ℕ, ◌-◌, ◌%◌, ap, arith}
use Rattle.std.proofs.lemmas.Nat.{one_shl}
use Rattle.ones.proofs.Moves.{rotated_fits}
use Rattle.ones.proofs.number.Ones.rest.Goals as goal

pub returns : goal.returns
returns g c =
    record {
      answer = ap (λ (m : ℕ). c.args.self.bits % m) (one_shl (g.row.W - c.args.places) 64 (omega arith));
      room = rotated_fits g.row.W c.args.places c.args.self.bits (omega arith) c.args.self.fits;
    }
