use Rattle.std.proofs.Common.{eqb, length, take, rules, tests, ap, ◌∙◌}
use Rattle.std.specs.Option.{unwrap_or}
use Rattle.std.proofs.lemmas.Iterator.{YieldsList-from_slice}
use Rattle.std.proofs.lemmas.Iterator.Search.{position_from_yields_List}
use Rattle.deck.specs.Words.{separated}
use Rattle.deck.proofs.Splitting.{cut, before_comment}
use Rattle.deck.proofs.word.Words.of.Goals as goal

pub returns : goal.returns
returns c =
    let line = c.args.line.now in
    let found = position_from_yields_List (λ b. eqb b 35) _ _ c.position.result c.position.ensures.ran (YieldsList-from_slice line cc) (λ x b q k. search (rules, tests)) in
    ap separated (ap (λ n. take n line) (c.unwrap_or-end.ensures ∙ ap (λ o. unwrap_or o (length line)) found ∙ cut (λ b. eqb b 35) line) ∙ before_comment line)
