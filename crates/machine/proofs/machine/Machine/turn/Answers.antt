use Rattle.std.proofs.Common.{◌≤◌, sym, ◌∙◌, arith}
use Rattle.machine.proofs.Accepting.{accepted_by, made}
use Rattle.machine.proofs.machine.Machine.turn.Goals as goal

pub returns : goal.returns
returns g c =
    let k = made c.args.keys c.in_ok-keys.keys (sym c.try_from-2.ensures ∙ c.in_ok-keys.was) in
    let low : 1 ≤ c.args.length = omega arith in
    let high : c.args.length ≤ 10000 = omega arith in
    let z =
    accepted_by g.C.Store.meaning g.C.Store.wrote g.met.C.Faithful.writes c.args.self.now.records.all c.args.self.now.store c.turn.new.store
    c.args.group c.args.length c.args.keys c.turn.new.record c.in-Some.turned
    c.in_ok-group.group.number c.in_ok-keys.keys c.get-record.result c.in_ok-group.ensures k.1 c.get-record.ensures c.in_ok-group.group.fits low high k.0
    c.in-Some.ensures c.put.new.self.all c.put.ensures in
    record { answer = z.0; store = z.2; model = z.1 }
