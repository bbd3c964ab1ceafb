-- The numbers by which answers name causes, layers, codes and refusals.
use Rattle.std.specs.Prelude.{ℕ, Some, None, Option}
use Rattle.answers.specs.declared.cause.Cause.{Cause}
use Rattle.answers.specs.declared.cause.Cause.TheVariants.{Unmapped, Protected, Beyond}
use Rattle.answers.specs.declared.fault.Fault.{Fault}
use Rattle.answers.specs.declared.layer.Layer.{Layer}
use Rattle.answers.specs.declared.layer.Layer.TheVariants as layers
use Rattle.answers.specs.declared.code.Code.{Code}
use Rattle.answers.specs.declared.code.Code.TheVariants as codes
use Rattle.answers.specs.declared.refusal.Refusal.{Refusal}
use Rattle.answers.specs.declared.refusal.Refusal.TheVariants as refusals

-- 3 no page there, 4 no write taken, 5 no such address
abbrev pub cause_number : Cause → ℕ
cause_number Unmapped = 3
cause_number Protected = 4
cause_number Beyond = 5

-- the stores from the cores up
abbrev pub layer_number : Layer → ℕ
layer_number layers.Plain = 1
layer_number layers.Packed = 2
layer_number layers.Pair = 3
layer_number layers.Protection = 4
layer_number layers.Relocation = 5

-- 0 at the length of a turn, else the trap; a fault of the store is the trap of its cause
abbrev pub code_number : Code → ℕ
code_number codes.Length = 0
code_number codes.Executive = 1
code_number codes.Illegal = 2
code_number (codes.Store c) = cause_number c
code_number codes.Indirect = 6

-- why a call is refused
abbrev pub refusal_number : Refusal → ℕ
refusal_number refusals.Group = 1
refusal_number refusals.Length = 2
refusal_number refusals.Keys = 3
refusal_number refusals.Stopped = 4
refusal_number refusals.Value = 5
refusal_number refusals.Entry = 6
refusal_number refusals.Descriptor = 7
refusal_number (refusals.Core f) = 8
refusal_number refusals.Word = 9
refusal_number refusals.Range = 10
refusal_number refusals.Ranges = 11
refusal_number refusals.ImageShort = 12
refusal_number refusals.ImageMark = 13
refusal_number refusals.ImageVersion = 14
refusal_number refusals.ImageLength = 15

-- the fault behind a refusal: only a core fault has one
abbrev pub refusal_fault : Refusal → Option Fault
refusal_fault refusals.Group = None
refusal_fault refusals.Length = None
refusal_fault refusals.Keys = None
refusal_fault refusals.Stopped = None
refusal_fault refusals.Value = None
refusal_fault refusals.Entry = None
refusal_fault refusals.Descriptor = None
refusal_fault (refusals.Core f) = Some f
refusal_fault refusals.Word = None
refusal_fault refusals.Range = None
refusal_fault refusals.Ranges = None
refusal_fault refusals.ImageShort = None
refusal_fault refusals.ImageMark = None
refusal_fault refusals.ImageVersion = None
refusal_fault refusals.ImageLength = None
