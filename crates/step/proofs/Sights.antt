-- Equal sights give equal outcomes.
use Rattle.std.proofs.Common.{◌≡◌, Result, sym, ap, ◌∙◌}
use mathlib.Core.Path.{fun_ext}
use Rattle.answers.specs.declared.fault.Fault.{Fault}
use Rattle.ones.specs.declared.number.Ones.{Ones}
use Rattle.registers.specs.declared.keys.Keys.{Keys}
use Rattle.registers.specs.declared.registers.Registers.{Registers}
use Rattle.rules.specs.Sight.{Sight}
use Rattle.rules.specs.Table.{step}
use Rattle.step.specs.Laws.{Agree}

same_sight : (s t : Sight) → s.reads ≡ t.reads → s.takes ≡ t.takes → t ≡ s
same_sight s t e f =
    ap (λ (x : Ones 15 → Result (Ones 24) Fault). let u : Sight = record { reads = x; takes = t.takes } in u) (sym e)
    ∙ ap (λ (x : Ones 15 → Result (Unit {0}) Fault). let u : Sight = record { reads = s.reads; takes = x } in u) (sym f)

pub sees_only : (keys : Keys) (r : Registers) (s t : Sight) → Agree s t → step keys t r ≡ step keys s r
sees_only keys r s t h = ap (λ (x : Sight). step keys x r) (same_sight s t (fun_ext h.reads) (fun_ext h.takes))
