use Rattle.std.proofs.Common.{◌++◌, take}
use Rattle.std.specs.Fmt.{HasWritten, IsPlainFormatter}
use Rattle.printing.specs.Texts.{image_head, spaced}
use Rattle.printing.proofs.image.PlainImageDisplay.fmt.Given as goal

-- the numbers so far are on the line
abbrev pub invariant-loop-number : goal.invariant-loop-number
invariant-loop-number g l =
    IsPlainFormatter l.fn.f → HasWritten g.W.Write.write_str_gives l.fn.f (image_head l.self.keys l.self.length ++ spaced (take l.number-index l.self.words.now)) l.f
