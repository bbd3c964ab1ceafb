-- Writes through a page file, seen from the core below it.
use Rattle.std.proofs.Common.{◌≡◌, ℕ, List, [], ◌∷◌, Ok, Err, Result, sym, refl, ap, ◌∙◌}
use Rattle.answers.specs.declared.fault.Fault.{Fault}
use Rattle.pages.specs.Pages.{located}
use Rattle.pages.specs.Relocation.{relocated, written_below, writes_at}
use Rattle.pages.specs.View.{original}
use Rattle.pages.specs.declared.relocation.Relocation.{Relocation}
use Rattle.store.specs.Meaning.{Meaning, Words, after, settled, with_word}
use Rattle.view.specs.Seen.{takes_at}
use Rattle.view.specs.Writes.{Write, after_writes, with_writes}

module _ {C : Type 0} (meaning : C → Meaning) (wrote : C → ℕ → ℕ → C)
    (law : (c : C) (a v : ℕ) → (meaning c).takes a ≡ Ok tt → meaning (wrote c a v) ≡ after (Ok tt) (meaning c) a v) where
  -- the meaning of a relocation, and what it becomes
  abbrev pub whole : Relocation C → Meaning
  whole s = relocated s.pages.entries (meaning s.below)

  abbrev pub wrote_whole : Relocation C → ℕ → ℕ → Relocation C
  wrote_whole s a v = record { below = written_below wrote s.below (located s.pages.entries a) v; pages = s.pages }

  -- after writes the page file is the same, and so is the core but for its words, which are those of the relocation
  pub record Kept (s s' : Relocation C) (w : Words) : Type 0 where
    pub pages : s'.pages ≡ s.pages
    pub core : meaning s'.below ≡ with_word (meaning s.below) w

  one : (s : Relocation C) (a v : ℕ) (r : Result (Unit {0}) Fault) → (whole s).takes a ≡ r
      → Kept s (settled r (wrote_whole s a v) s) (after r (whole s) a v).word
  one s a v (Ok u) h = record {
    pages = refl;
    core = writes_at s.pages.entries meaning wrote s.below a v (located s.pages.entries a) (λ b. law s.below b v) h;
  }
  one s a v (Err f) h = record { pages = refl; core = refl }

  kept_whole : (s s' : Relocation C) (m : Meaning) → Kept s s' m.word → m ≡ with_word (whole s) m.word → whole s' ≡ m
  kept_whole s s' m k e = rw (k.pages, k.core) (sym e)

  after_shape : (r : Result (Unit {0}) Fault) (m : Meaning) (a v : ℕ) → after r m a v ≡ with_word m (after r m a v).word
  after_shape (Ok u) m a v = refl
  after_shape (Err f) m a v = refl

  pub kept : (g : ℕ) (xs : List Write) (s : Relocation C) → Kept s (with_writes whole wrote_whole g xs s) (after_writes g xs (whole s)).word
  kept g [] s = record { pages = refl; core = refl }
  kept g (x ∷ xs) s =
      let a = original g x.at.bits in
      let v = x.word.bits in
      let r = takes_at (whole s) g x.at in
      let t : Relocation C = settled r (wrote_whole s a v) s in
      let k : Kept s t (after r (whole s) a v).word = one s a v r refl in
      let e : whole t ≡ after r (whole s) a v = kept_whole s t (after r (whole s) a v) k (after_shape r (whole s) a v) in
      let i : Kept t (with_writes whole wrote_whole g xs t) (after_writes g xs (whole t)).word = kept g xs t in
      record {
        pages = i.pages ∙ k.pages;
        core = i.core ∙ ap (λ (m : Meaning). with_word m (after_writes g xs (whole t)).word) k.core ∙ ap (λ (m : Meaning). with_word (meaning s.below) (after_writes g xs m).word) e;
      }
