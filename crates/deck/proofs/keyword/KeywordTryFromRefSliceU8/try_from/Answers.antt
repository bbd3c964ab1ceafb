-- The chain goes over the keywords in their order.
use Rattle.std.proofs.Common.{rules, tests, ap, ◌∙◌}
use Rattle.std.specs.Option.{ok_or}
use Rattle.std.specs.Str.{bytes_eq}
use Rattle.std.proofs.lemmas.Iterator.{YieldsList-from_slice}
use Rattle.std.proofs.lemmas.Iterator.Search.{find_from_yields_List}
use Rattle.deck.specs.declared.problem.Problem.TheVariants.{Unknown}
use Rattle.deck.specs.Keywords.{keyword_name, all_keywords, keyword}
use Rattle.deck.proofs.keyword.KeywordTryFromRefSliceU8.try_from.Goals as goal

pub returns : goal.returns
unfolding keyword
returns c =
    let found = find_from_yields_List (λ k. bytes_eq (keyword_name k) c.args.word.now) _ _ c.find.result c.find.ensures.ran (YieldsList-from_slice all_keywords cc) (λ x b q k. search (rules, tests)) in
    c.ok_or.ensures.value ∙ ap (λ o. ok_or o Unknown) (c.copied.ensures ∙ found)
