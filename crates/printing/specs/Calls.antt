-- The words that a deck has for the calls that answer.
use Rattle.std.specs.Prelude.{ℕ, List, ◌++◌, codes}
use Rattle.printing.specs.declared.call.Call.{Call}
use Rattle.printing.specs.declared.call.Call.TheVariants as calls

abbrev pub call_name : Call → List ℕ
call_name calls.Range = codes "range"
call_name calls.Image = codes "image"
call_name calls.Page = codes "page"
call_name calls.Absent = codes "absent"
call_name calls.Read = codes "read"
call_name calls.Where = codes "where"

-- a call that was accepted and answers nothing more
abbrev pub done : Call → List ℕ
done c = call_name c ++ codes " ok"
