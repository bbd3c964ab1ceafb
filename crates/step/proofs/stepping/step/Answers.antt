use Rattle.std.proofs.Common.{sym, refl}
use Rattle.rules.specs.Carried.{Carried}
use Rattle.rules.specs.Sight.{sight}
use Rattle.rules.specs.Table.{step}
use Rattle.std.proofs.lemmas.Result.{err_from_is_err_and}
use Rattle.step.proofs.Fetching.{fetched, unfetched}
use Rattle.step.proofs.Laws.{gone, sees, trapped, widths, written}
use Rattle.step.proofs.stepping.step.Goals as goal

pub returns-in_err-word : goal.returns-in_err-word
returns-in_err-word g c =
    let f = err_from_is_err_and c.from_residual.result c.from_residual.ensures.1 in
    let e = unfetched c.args.keys (sight (g.S.Store.meaning c.args.store.now) c.args.group.number) c.args.registers.now _ (sym c.in_err-word.ensures) in
    let k : Carried g.S.Store.meaning g.S.Store.wrote c.args.group.number (step c.args.keys (sight (g.S.Store.meaning c.args.store.now) c.args.group.number) c.args.registers.now) c.args.registers.now c.args.registers.now c.args.store.now c.args.store.now c.from_residual.result =
    rw e (record { answer = cc; registers = refl; effect = refl; whole = refl }) in
    record {
      carried = k;
      sees = sees _ _ _ _ _ _ _ _ _ k;
      writes = written _ _ _ _ _ _ _ _ _ k;
      trapped = trapped _ _ _ _ _ _ _ _ _ k;
      goes = gone _ _ _ _ _ _ _ _ _ k;
      widths = widths _;
    }

pub returns : goal.returns
returns g c =
    let e = fetched c.args.keys (sight (g.S.Store.meaning c.args.store.now) c.args.group.number) c.args.registers.now _ (sym c.in_ok-word.ensures) in
    let k = rw (c.decode.ensures, ← e) at c.execute.ensures in
    record {
      carried = k;
      sees = sees _ _ _ _ _ _ _ _ _ k;
      writes = written _ _ _ _ _ _ _ _ _ k;
      trapped = trapped _ _ _ _ _ _ _ _ _ k;
      goes = gone _ _ _ _ _ _ _ _ _ k;
      widths = widths _;
    }
