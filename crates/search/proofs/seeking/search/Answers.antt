use Rattle.std.proofs.Common.{rules}
use Rattle.search.proofs.Ends.{finds}
use Rattle.search.proofs.seeking.search.Goals as goal
use Rattle.std.proofs.lemmas.Result.{err_from_is_err_and}

pub returns-in_err-found : goal.returns-in_err-found
returns-in_err-found g c =
    let e = err_from_is_err_and c.from_residual.result c.from_residual.ensures.1 in
    record {
      answer = search rules;
      registers = search rules;
      found = rw (e.1, e.2) (finds _ _ _ _ c.args.interval.some c.args.registers.now _ c.in_err-found.ensures);
    }

pub returns : goal.returns
returns g c =
    record {
      answer = search rules;
      registers = search rules;
      found = rw c.end.ensures (finds _ _ _ _ c.args.interval.some c.args.registers.now _ c.in_ok-found.ensures);
    }
