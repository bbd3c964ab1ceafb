use Rattle.std.proofs.Common.{◌∷◌, ◌++◌, get_or, take, decimal, sym, ap, ◌∙◌, rules}
use Rattle.std.proofs.Output.{has_written_append, has_written_of_eq}
use Rattle.std.proofs.lemmas.List.{take_more, flat_map_more}
use Rattle.printing.specs.Texts.{image_head, spaced}
use Rattle.printing.proofs.image.PlainImageDisplay.fmt.Goals as goal

pub loop-number-preserved : goal.loop-number-preserved
loop-number-preserved g c plain =
    let i = c.loop-number.number-index in
    let image = c.args.self.now in
    let words = image.words.now in
    let head = image_head image.keys image.length in
    let one_more = flat_map_more (λ n. 32 ∷ decimal n) head (take i words) (get_or words i 0) ∙ ap (λ l. head ++ spaced l) (sym (take_more words i 0 c.loop-number-test.true)) in
    has_written_of_eq _ _ _ _ _ one_more (has_written_append _ _ _ _ _ _ (c.loop-number.invariant plain) (search rules))
