-- What a command means, and which numbers it takes.
use Rattle.std.specs.Prelude.{ℕ, Bool, true, cond, ◌&&◌, List, [], ◌∷◌, length, drop, Ok, Err, vec_items, Result, nat_lt, slice_index}
use Rattle.deck.specs.declared.command.Command.{Command}
use Rattle.deck.specs.declared.command.Command.TheVariants as commands
use Rattle.deck.specs.declared.command.Style.{Style}
use Rattle.deck.specs.declared.keyword.Keyword.{Keyword}
use Rattle.deck.specs.declared.keyword.Keyword.TheVariants as keywords
use Rattle.deck.specs.declared.problem.Problem.{Problem}
use Rattle.deck.specs.declared.problem.Problem.TheVariants.{Few, Many, Byte, Flag}
use Rattle.deck.specs.Readings.{then}

-- a style of record, or a name with its numbers in their order
pub data Meant : Type 0 where
  recording : Style → Meant
  numbered : Keyword → List ℕ → Meant

abbrev pub meant : Command → Meant
meant (commands.Record s) = recording s
meant (commands.Plain n) = numbered keywords.Plain (n ∷ [])
meant (commands.Packed n) = numbered keywords.Packed (n ∷ [])
meant (commands.Words offset ws) = numbered keywords.Words (offset ∷ vec_items ws)
meant (commands.Bytes offset bs) = numbered keywords.Bytes (offset ∷ vec_items bs)
meant commands.Pair = numbered keywords.Pair []
meant commands.Protect = numbered keywords.Protect []
meant (commands.Machine kind) = numbered keywords.Machine (kind ∷ [])
meant (commands.Range low high) = numbered keywords.Range (low ∷ high ∷ [])
meant (commands.Image bs) = numbered keywords.Image (vec_items bs)
meant (commands.Page group entry page start len write) = numbered keywords.Page (group ∷ entry ∷ page ∷ start ∷ len ∷ cond write 1 0 ∷ [])
meant (commands.Absent group entry) = numbered keywords.Absent (group ∷ entry ∷ [])
meant (commands.Load group a q b1 b2 b3 p) = numbered keywords.Load (group ∷ a ∷ q ∷ b1 ∷ b2 ∷ b3 ∷ p ∷ [])
meant (commands.Turn group len keys) = numbered keywords.Turn (group ∷ len ∷ keys ∷ [])
meant (commands.Report group) = numbered keywords.Report (group ∷ [])
meant (commands.Read address) = numbered keywords.Read (address ∷ [])
meant (commands.Write address word) = numbered keywords.Write (address ∷ word ∷ [])
meant (commands.List address count) = numbered keywords.List (address ∷ count ∷ [])
meant (commands.Where group address) = numbered keywords.Where (group ∷ address ∷ [])

abbrev pub at_least : ℕ → List ℕ → Result (List ℕ) Problem
at_least k ns = cond (nat_lt (length ns) k) (Err Few) (Ok ns)

abbrev pub exactly : ℕ → List ℕ → Result (List ℕ) Problem
exactly k ns = cond (nat_lt (length ns) k) (Err Few) (cond (nat_lt k (length ns)) (Err Many) (Ok ns))

abbrev pub each_below : ℕ → List ℕ → Bool
each_below m [] = true
each_below m (n ∷ ns) = nat_lt n m && each_below m ns

-- the numbers after the first k are bytes
abbrev pub bytes_from : ℕ → List ℕ → Result (List ℕ) Problem
bytes_from k ns = cond (each_below 256 (drop k ns)) (Ok ns) (Err Byte)

-- the number after the first k is a flag
abbrev pub flag_at : ℕ → List ℕ → Result (List ℕ) Problem
flag_at k ns = cond (nat_lt (slice_index ns k) 2) (Ok ns) (Err Flag)

-- the numbers of a line, if the command takes them
abbrev pub allowed : Keyword → List ℕ → Result (List ℕ) Problem
allowed keywords.Plain ns = exactly 1 ns
allowed keywords.Packed ns = exactly 1 ns
allowed keywords.Words ns = at_least 1 ns
allowed keywords.Bytes ns = then (at_least 1 ns) (bytes_from 1)
allowed keywords.Pair ns = exactly 0 ns
allowed keywords.Protect ns = exactly 0 ns
allowed keywords.Machine ns = exactly 1 ns
allowed keywords.Range ns = exactly 2 ns
allowed keywords.Image ns = bytes_from 0 ns
allowed keywords.Page ns = then (exactly 6 ns) (flag_at 5)
allowed keywords.Absent ns = exactly 2 ns
allowed keywords.Load ns = exactly 7 ns
allowed keywords.Turn ns = exactly 3 ns
allowed keywords.Report ns = exactly 1 ns
allowed keywords.Read ns = exactly 1 ns
allowed keywords.Write ns = exactly 2 ns
allowed keywords.List ns = exactly 2 ns
allowed keywords.Where ns = exactly 2 ns

-- a command with these numbers
abbrev pub command : Keyword → List ℕ → Result Meant Problem
command k ns = then (allowed k ns) (λ taken. Ok (numbered k taken))
