-- What answers print by name.
use Rattle.std.specs.Prelude.{ℕ, List, codes}
use Rattle.answers.specs.declared.cause.Cause.{Cause}
use Rattle.answers.specs.declared.cause.Cause.TheVariants.{Unmapped, Protected, Beyond}
use Rattle.answers.specs.declared.layer.Layer.{Layer}
use Rattle.answers.specs.declared.layer.Layer.TheVariants as layers
use Rattle.answers.specs.declared.code.Code.{Code}
use Rattle.answers.specs.declared.code.Code.TheVariants as codes_of
use Rattle.answers.specs.declared.refusal.Refusal.{Refusal}
use Rattle.answers.specs.declared.refusal.Refusal.TheVariants as refusals

abbrev pub cause_name : Cause → List ℕ
cause_name Unmapped = codes "no page there"
cause_name Protected = codes "write not taken"
cause_name Beyond = codes "no such address"

abbrev pub layer_name : Layer → List ℕ
layer_name layers.Plain = codes "plain core"
layer_name layers.Packed = codes "packed core"
layer_name layers.Pair = codes "pair"
layer_name layers.Protection = codes "protection"
layer_name layers.Relocation = codes "relocation"

abbrev pub code_name : Code → List ℕ
code_name codes_of.Length = codes "length reached"
code_name codes_of.Executive = codes "executive instruction"
code_name codes_of.Illegal = codes "illegal instruction"
code_name (codes_of.Store c) = cause_name c
code_name codes_of.Indirect = codes "too many indirect words"

abbrev pub refusal_name : Refusal → List ℕ
refusal_name refusals.Group = codes "group above 7"
refusal_name refusals.Length = codes "turn length not 1 to 10000"
refusal_name refusals.Keys = codes "keys above 63"
refusal_name refusals.Stopped = codes "group is stopped"
refusal_name refusals.Value = codes "value too wide for its register"
refusal_name refusals.Entry = codes "page entry above 15"
refusal_name refusals.Descriptor = codes "descriptor outside its limits"
refusal_name (refusals.Core f) = codes "core fault"
refusal_name refusals.Word = codes "word of more than 24 bits"
refusal_name refusals.Range = codes "range outside the core"
refusal_name refusals.Ranges = codes "seventeenth range"
refusal_name refusals.ImageShort = codes "image under 10 bytes"
refusal_name refusals.ImageMark = codes "image without the mark RCK"
refusal_name refusals.ImageVersion = codes "image version not 1"
refusal_name refusals.ImageLength = codes "image length does not fit its words"
