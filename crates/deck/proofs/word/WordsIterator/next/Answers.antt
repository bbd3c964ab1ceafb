-- Each chain finds the first byte of its kind.
use Rattle.std.proofs.Common.{◌≡◌, ◌-◌, ◌∷◌, rules, tests, sym, ap, ◌∙◌, length, take, drop}
use Rattle.std.specs.Option.{unwrap_or}
use Rattle.std.proofs.lemmas.Iterator.{YieldsList-from_slice}
use Rattle.std.proofs.lemmas.Iterator.Search.{position_from_yields_List}
use Rattle.std.proofs.lemmas.List.{take_rest}
use Rattle.deck.specs.Words.{blank, separated}
use Rattle.deck.proofs.Splitting.{cut, no_blank, no_word, next_is}
use Rattle.deck.proofs.word.WordsIterator.next.Goals as goal

pub returns-in_err-start-clause-steps : goal.returns-in_err-start-clause-steps
returns-in_err-start-clause-steps c =
    let text = c.args.self.now.text.now in
    let letter = position_from_yields_List no_blank _ _ c.position.result c.position.ensures.ran (YieldsList-from_slice text cc) (λ x b q k. search (rules, tests)) in
    let none = no_word text (sym letter ∙ c.in_err-start.was) in
    rw c.from_residual.ensures (none, none)

pub returns-clause-steps : goal.returns-clause-steps
returns-clause-steps c =
    let text = c.args.self.now.text.now in
    let rest = take (length text - c.in_ok-start.start) (drop c.in_ok-start.start text) in
    let letter = position_from_yields_List no_blank _ _ c.position.result c.position.ensures.ran (YieldsList-from_slice text cc) (λ x b q k. search (rules, tests)) in
    let end = position_from_yields_List blank _ _ c.position-2.result c.position-2.ensures.ran (YieldsList-from_slice rest cc) (λ x b q k. search (rules, tests)) in
    next_is text rest _ _ _ c.unwrap_or-end.result (sym letter ∙ c.in_ok-start.was) (take_rest text c.in_ok-start.start) (c.unwrap_or-end.ensures ∙ ap (λ o. unwrap_or o (length rest)) end ∙ cut blank rest) c.split_at.ensures.front c.split_at.ensures.back

pub returns-clause-goes : goal.returns-clause-goes
returns-clause-goes c =
    let steps : separated c.args.self.now.text.now ≡ c.split_at.result.0.now ∷ separated c.split_at.result.1.now = returns-clause-steps c in
    let fewer = ap length steps in
    search rules
