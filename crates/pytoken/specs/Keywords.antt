-- The keywords, with their spellings (reference 2.3.1).
use Rattle.std.specs.Prelude.{ℕ, List, [], ◌∷◌, codes, Option}
use Rattle.std.specs.List.{find}
use Rattle.std.specs.Str.{bytes_eq}
use Rattle.pytoken.specs.declared.keywords.Keyword.{Keyword}
use Rattle.pytoken.specs.declared.keywords.Keyword.TheVariants as words

-- how a keyword is written
abbrev pub spelling_of : Keyword → List ℕ
spelling_of words.False = codes "False"
spelling_of words.None = codes "None"
spelling_of words.True = codes "True"
spelling_of words.And = codes "and"
spelling_of words.As = codes "as"
spelling_of words.Assert = codes "assert"
spelling_of words.Async = codes "async"
spelling_of words.Await = codes "await"
spelling_of words.Break = codes "break"
spelling_of words.Class = codes "class"
spelling_of words.Continue = codes "continue"
spelling_of words.Def = codes "def"
spelling_of words.Del = codes "del"
spelling_of words.Elif = codes "elif"
spelling_of words.Else = codes "else"
spelling_of words.Except = codes "except"
spelling_of words.Finally = codes "finally"
spelling_of words.For = codes "for"
spelling_of words.From = codes "from"
spelling_of words.Global = codes "global"
spelling_of words.If = codes "if"
spelling_of words.Import = codes "import"
spelling_of words.In = codes "in"
spelling_of words.Is = codes "is"
spelling_of words.Lambda = codes "lambda"
spelling_of words.Nonlocal = codes "nonlocal"
spelling_of words.Not = codes "not"
spelling_of words.Or = codes "or"
spelling_of words.Pass = codes "pass"
spelling_of words.Raise = codes "raise"
spelling_of words.Return = codes "return"
spelling_of words.Try = codes "try"
spelling_of words.While = codes "while"
spelling_of words.With = codes "with"
spelling_of words.Yield = codes "yield"

-- all of them, in rows as the reference has them
unfoldable pub keywords : List Keyword
keywords =
    words.False ∷ words.Await ∷ words.Else ∷ words.Import ∷ words.Pass ∷
    words.None ∷ words.Break ∷ words.Except ∷ words.In ∷ words.Raise ∷
    words.True ∷ words.Class ∷ words.Finally ∷ words.Is ∷ words.Return ∷
    words.And ∷ words.Continue ∷ words.For ∷ words.Lambda ∷ words.Try ∷
    words.As ∷ words.Def ∷ words.From ∷ words.Nonlocal ∷ words.While ∷
    words.Assert ∷ words.Del ∷ words.Global ∷ words.Not ∷ words.With ∷
    words.Async ∷ words.Elif ∷ words.If ∷ words.Or ∷ words.Yield ∷
    []

-- the keyword that a text is
unfoldable pub keyword_of : List ℕ → Option Keyword
keyword_of t = find (λ k. bytes_eq t (spelling_of k)) keywords
