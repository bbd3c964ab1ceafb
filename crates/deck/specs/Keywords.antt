-- The words that name a command with numbers.
use Rattle.std.specs.Prelude.{ℕ, cond, List, [], ◌∷◌, Some, None, codes, Option}
use Rattle.std.specs.Str.{bytes_eq}
use Rattle.deck.specs.declared.keyword.Keyword.{Keyword}
use Rattle.deck.specs.declared.keyword.Keyword.TheVariants as keywords

abbrev pub keyword_name : Keyword → List ℕ
keyword_name keywords.Plain = codes "plain"
keyword_name keywords.Packed = codes "packed"
keyword_name keywords.Words = codes "words"
keyword_name keywords.Bytes = codes "bytes"
keyword_name keywords.Pair = codes "pair"
keyword_name keywords.Protect = codes "protect"
keyword_name keywords.Machine = codes "machine"
keyword_name keywords.Range = codes "range"
keyword_name keywords.Image = codes "image"
keyword_name keywords.Page = codes "page"
keyword_name keywords.Absent = codes "absent"
keyword_name keywords.Load = codes "load"
keyword_name keywords.Turn = codes "turn"
keyword_name keywords.Report = codes "report"
keyword_name keywords.Read = codes "read"
keyword_name keywords.Write = codes "write"
keyword_name keywords.List = codes "list"
keyword_name keywords.Where = codes "where"

abbrev pub all_keywords : List Keyword
all_keywords =
    keywords.Plain ∷
    keywords.Packed ∷
    keywords.Words ∷
    keywords.Bytes ∷
    keywords.Pair ∷
    keywords.Protect ∷
    keywords.Machine ∷
    keywords.Range ∷
    keywords.Image ∷
    keywords.Page ∷
    keywords.Absent ∷
    keywords.Load ∷
    keywords.Turn ∷
    keywords.Report ∷
    keywords.Read ∷
    keywords.Write ∷
    keywords.List ∷
    keywords.Where ∷
    []

-- the first keyword of a list with this name
abbrev pub spelled : List Keyword → List ℕ → Option Keyword
spelled [] w = None
spelled (k ∷ ks) w = cond (bytes_eq (keyword_name k) w) (Some k) (spelled ks w)

unfoldable pub keyword : List ℕ → Option Keyword
keyword w = spelled all_keywords w
