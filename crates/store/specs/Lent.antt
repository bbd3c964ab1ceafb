-- References to what is lent.
use Rattle.std.specs.Borrow.{MutBor}

-- the same reference, with x behind it
abbrev pub behind : {X : Type 0} → MutBor X → X → MutBor X
behind r x = record { ref_ptr = r.ref_ptr; ghost_name = r.ghost_name; now = x }
