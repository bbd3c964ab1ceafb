-- Where a line and its words are cut.
use Rattle.std.proofs.Common.{◌≡◌, ℕ, suc, ◌+◌, ◌-◌, ◌<◌, ◌≤◌, Bool, false, not, cond, eqb, ltb, List, [], ◌∷◌, ◌++◌, length, get_or, take, drop, Some, None, sym, refl, ap, ◌∙◌, ⊎_elim, append_assoc, append-nil, add-zero, arith, le-ltb, lt-ltb}
use Rattle.std.specs.List.{position, position_or_len}
use Rattle.std.specs.Option.{unwrap_or}
use Rattle.std.proofs.lemmas.Bool.{cases_Bool, cases_lt, not-true}
use Rattle.std.proofs.lemmas.List.{drop_all, length-drop, get_or-drop}
use Rattle.std.proofs.lemmas.List.Quantifiers.{position-Some}
use Rattle.std.proofs.lemmas.Option.{none-some, cond_some}
use Rattle.std.proofs.lemmas.List.Sums.{prefix_len-le-length}
use Rattle.deck.specs.Words.{uncommented, blank, words_after, separated}

-- the first place that passes, or the length
cut_at : (n l : ℕ) → n ≤ l → unwrap_or (cond (ltb n l) (Some n) None) l ≡ n
cut_at n l h =
    ⊎_elim (λ below. rw (lt-ltb n l below) refl) (λ past. rw (le-ltb n l past) (omega arith)) (cases_lt n l)

pub cut : (p : ℕ → Bool) (bs : List ℕ) → unwrap_or (position p bs) (length bs) ≡ position_or_len p bs
cut p bs = cut_at (position_or_len p bs) (length bs) (prefix_len-le-length (λ b. not (p b)) bs)

one_more : (n : ℕ) → 1 + n ≡ suc n
one_more n = omega arith

pub before_comment : (line : List ℕ) → take (position_or_len (λ b. eqb b 35) line) line ≡ uncommented line
before_comment [] = refl
before_comment (b ∷ line) =
    ⊎_elim (λ y. rw y refl) (λ n. rw n (rw one_more (ap (λ l. b ∷ l) (before_comment line)))) (cases_Bool (eqb b 35))

pub after_blanks : (text : List ℕ) → separated (drop (position_or_len (λ b. not (blank b)) text) text) ≡ separated text
after_blanks [] = refl
after_blanks (b ∷ text) =
    ⊎_elim (λ y. rw y (rw one_more (after_blanks text))) (λ n. rw n (rw n refl)) (cases_Bool (blank b))

-- a word that has begun goes on to the next blank
word_goes_on : (x : ℕ) (w bs : List ℕ) → words_after (x ∷ w) bs ≡ ((x ∷ w) ++ take (position_or_len blank bs) bs) ∷ separated (drop (position_or_len blank bs) bs)
word_goes_on x w [] = ap (λ l. l ∷ []) (sym (append-nil (x ∷ w)))
word_goes_on x w (b ∷ bs) =
    let n = position_or_len blank bs in
    ⊎_elim (λ y. rw y (rw y (ap (λ l. l ∷ separated bs) (sym (append-nil (x ∷ w)))))) (λ f. rw f (rw one_more (word_goes_on x (w ++ b ∷ []) bs ∙ ap (λ l. l ∷ separated (drop n bs)) (append_assoc (x ∷ w) (b ∷ []) (take n bs))))) (cases_Bool (blank b))

first_word : (bs : List ℕ) → 0 < length bs → blank (get_or bs 0 0) ≡ false → separated bs ≡ take (position_or_len blank bs) bs ∷ separated (drop (position_or_len blank bs) bs)
first_word [] h f = absurd (omega arith)
first_word (b ∷ bs) h f = rw f (rw one_more (word_goes_on b [] bs))

abbrev pub no_blank : ℕ → Bool
no_blank b = not (blank b)

pub no_word : (text : List ℕ) → position no_blank text ≡ None → separated text ≡ []
no_word text e =
    let n = position_or_len no_blank text in
    ⊎_elim (λ below. absurd (none-some n (sym e ∙ ap (λ t. cond t (Some n) None) (lt-ltb n (length text) below)))) (λ past. sym (after_blanks text) ∙ ap separated (drop_all n text past)) (cases_lt n (length text))

-- the first word begins at start, and ends with the text or at a blank
pub next_is : (text rest word after : List ℕ) (start end : ℕ) → position no_blank text ≡ Some start → rest ≡ drop start text → end ≡ position_or_len blank rest → word ≡ take end rest → after ≡ drop end rest → separated text ≡ word ∷ separated after
next_is text rest word after start end e r n w a =
    let at = position-Some no_blank text start 0 e in
    let from = (cond_some (ltb (position_or_len no_blank text) (length text)) (position_or_len no_blank text) start e).1 in
    let short : length rest ≡ length text - start = ap length r ∙ length-drop start text in
    let letter : blank (get_or rest 0 0) ≡ false = ap (λ l. blank (get_or l 0 0)) r ∙ ap blank (get_or-drop start text 0 0 ∙ ap (λ k. get_or text k 0) (add-zero start)) ∙ not-true (blank (get_or text start 0)) at.1 in
    sym (after_blanks text) ∙ ap (λ k. separated (drop k text)) from ∙ ap separated (sym r) ∙ first_word rest (omega arith) letter ∙ rw (w, a, n) refl
