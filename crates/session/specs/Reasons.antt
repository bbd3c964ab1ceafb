-- What a deck is told of a command out of its place.
use Rattle.std.specs.Prelude.{ℕ, List, codes}
use Rattle.session.specs.declared.misplaced.Misplaced.{Misplaced}
use Rattle.session.specs.declared.misplaced.Misplaced.TheVariants.{NotYet, NoCore, NotPlain, NotPacked, Outside, TwoCores, NotTwo, NotPaired, Protected, Unprotected, Kind, Made, Unmade, Address, Large, Memory}

abbrev pub reason : Misplaced → List ℕ
reason NotYet = codes "not yet"
reason NoCore = codes "no core is built"
reason NotPlain = codes "the core named last is not plain"
reason NotPacked = codes "the core named last is not packed"
reason Outside = codes "does not fit into the core"
reason TwoCores = codes "two cores are built already"
reason NotTwo = codes "not two cores to pair"
reason NotPaired = codes "the two cores are not paired"
reason Protected = codes "protected already"
reason Unprotected = codes "not protected"
reason Kind = codes "no such kind of machine"
reason Made = codes "the machine is made"
reason Unmade = codes "no machine is made"
reason Address = codes "address above 77777"
reason Large = codes "core too large"
reason Memory = codes "no memory"
