-- An instruction by its fetch.
use Rattle.std.proofs.Common.{◌≡◌, Ok, Err}
use Rattle.answers.specs.declared.fault.Fault.{Fault}
use Rattle.instruction.specs.Decode.{decoded}
use Rattle.ones.specs.declared.number.Ones.{Ones}
use Rattle.registers.specs.declared.keys.Keys.{Keys}
use Rattle.registers.specs.declared.registers.Registers.{Registers}
use Rattle.registers.specs.declared.trap.Trap.TheVariants.{Store}
use Rattle.rules.specs.Sight.{Sight}
use Rattle.rules.specs.Table.{executed, step}

-- a word that was fetched is carried out
pub fetched : (keys : Keys) (s : Sight) (r : Registers) (w : Ones 24) → s.reads r.p ≡ Ok w → step keys s r ≡ executed (decoded w) keys s r
unfolding step
fetched keys s r w e = rw e

-- a fetch that faults is the trap
pub unfetched : (keys : Keys) (s : Sight) (r : Registers) (f : Fault) → s.reads r.p ≡ Err f → step keys s r ≡ Err (Store f)
unfolding step
unfetched keys s r f e = rw e
