-- Contents that a deck puts into memory.
use Rattle.std.specs.Prelude.{ℕ, ◌+◌, Bool, true, false, List, ◌++◌, length, take, drop, Ok, Err, Result, nat_le}
use Rattle.session.specs.declared.misplaced.Misplaced.{Misplaced}
use Rattle.session.specs.declared.misplaced.Misplaced.TheVariants.{Outside}

-- xs with ys in place of what stands from place n on
abbrev pub overlaid : {X : Type 0} → List X → ℕ → List X → List X
overlaid xs n ys = take n xs ++ (ys ++ drop (n + length ys) xs)

-- do ys fit into xs from place n on?
abbrev pub fits : {X : Type 0} → List X → ℕ → List X → Bool
fits xs n ys = nat_le (n + length ys) (length xs)

abbrev pub allowed : Bool → Result (Unit {0}) Misplaced
allowed true = Ok tt
allowed false = Err Outside
