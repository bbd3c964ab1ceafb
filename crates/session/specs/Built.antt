-- What a deck builds, by what its memory holds.
use Rattle.std.specs.Prelude.{◌≡◌, ℕ, ◌≤◌, cond, List, replicate, Some, None, Ok, Err, Option, Result, nat_lt}
use Rattle.answers.specs.declared.fault.Fault.{Fault}
use Rattle.session.specs.Contents.{overlaid, fits, allowed}
use Rattle.session.specs.declared.memory.Memory.{Memory}
use Rattle.session.specs.declared.memory.Memory.TheVariants.{Words, Bytes}
use Rattle.session.specs.declared.memory.Pile.{Pile}
use Rattle.session.specs.declared.memory.Pile.TheVariants.{Nothing, Image, One, Two, Pair}
use Rattle.session.specs.declared.misplaced.Misplaced.{Misplaced}
use Rattle.session.specs.declared.misplaced.Misplaced.TheVariants.{Large, Memory as NoMemory, NoCore, NotPaired, NotPlain, NotPacked, NotTwo, TwoCores}
use Rattle.store.specs.Meaning.{Meaning, reads}
use Rattle.store.specs.Packed.{packed}
use Rattle.store.specs.Plain.{plain}

-- the core over a memory
abbrev pub core_over : Memory → Meaning
core_over (Words ws) = plain ws
core_over (Bytes bs) = packed bs

-- the words of a plain core's memory
abbrev pub words_of : Memory → Result (List ℕ) Misplaced
words_of (Words ws) = Ok ws
words_of (Bytes bs) = Err NotPlain

-- the bytes of a packed core's memory
abbrev pub bytes_of : Memory → Result (List ℕ) Misplaced
bytes_of (Words ws) = Err NotPacked
bytes_of (Bytes bs) = Ok bs

-- one core more; the first takes the place of an image
abbrev pub may_add : Pile → Result (Unit {0}) Misplaced
may_add Nothing = Ok tt
may_add (Image bs) = Ok tt
may_add (One m) = Ok tt
may_add (Two m n) = Err TwoCores
may_add (Pair m n) = Err TwoCores

abbrev pub added : Pile → Memory → Pile
added Nothing x = One x
added (Image bs) x = One x
added (One m) x = Two m x
added (Two m n) x = Two m n
added (Pair m n) x = Pair m n

-- the words of an image, where no core is built yet
abbrev pub with_image : Pile → List ℕ → Pile
with_image Nothing bs = Image bs
with_image (Image old) bs = Image bs
with_image (One m) bs = One m
with_image (Two m n) bs = Two m n
with_image (Pair m n) bs = Pair m n

-- the two cores as one store
abbrev pub may_pair : Pile → Result (Unit {0}) Misplaced
may_pair Nothing = Err NotTwo
may_pair (Image bs) = Err NotTwo
may_pair (One m) = Err NotTwo
may_pair (Two m n) = Ok tt
may_pair (Pair m n) = Err NotTwo

abbrev pub with_pair : Pile → Pile
with_pair Nothing = Nothing
with_pair (Image bs) = Image bs
with_pair (One m) = One m
with_pair (Two m n) = Pair m n
with_pair (Pair m n) = Pair m n

-- is there one store?
abbrev pub is_whole : Pile → Result (Unit {0}) Misplaced
is_whole Nothing = Err NoCore
is_whole (Image bs) = Err NoCore
is_whole (One m) = Ok tt
is_whole (Two m n) = Err NotPaired
is_whole (Pair m n) = Ok tt

-- contents put into a memory, by what it holds of their unit
abbrev pub may_fill : {X : Type 0} → Result (List X) Misplaced → ℕ → List X → Result (Unit {0}) Misplaced
may_fill (Ok xs) n ys = allowed (fits xs n ys)
may_fill (Err e) n ys = Err e

-- the memory after it, where memory of that unit is made by f
abbrev pub filled : {X : Type 0} → Result (List X) Misplaced → (List X → Memory) → ℕ → List X → Memory → Memory
filled (Ok xs) f n ys m = f (cond (fits xs n ys) (overlaid xs n ys) xs)
filled (Err e) f n ys m = m

-- f of the core named last
abbrev pub of_last : {X : Type 0} → (Memory → Result X Misplaced) → Pile → Result X Misplaced
of_last f Nothing = Err NoCore
of_last f (Image bs) = Err NoCore
of_last f (One m) = f m
of_last f (Two m n) = f n
of_last f (Pair m n) = f n

-- what is built, with f of the core named last in its place
abbrev pub with_last : (Memory → Memory) → Pile → Pile
with_last f Nothing = Nothing
with_last f (Image bs) = Image bs
with_last f (One m) = One (f m)
with_last f (Two m n) = Two m (f n)
with_last f (Pair m n) = Pair m (f n)

-- what the core named last, or that of an image, answers at an address
abbrev pub read_last : Pile → ℕ → Option (Result ℕ Fault)
read_last Nothing a = None
read_last (Image bs) a = Some (reads (packed bs) a)
read_last (One m) a = Some (reads (core_over m) a)
read_last (Two m n) a = Some (reads (core_over n) a)
read_last (Pair m n) a = Some (reads (core_over n) a)

-- a memory of n zeros, too large where n passes the most, or no memory for it
abbrev pub Made : {X : Type 0} → (List X → Memory) → X → ℕ → ℕ → Result Memory Misplaced → Type 0
Made f zero most n (Ok m) = (n ≤ most) × (m ≡ f (replicate n zero))
Made f zero most n (Err e) = (e ≡ cond (nat_lt most n) Large NoMemory)
