-- The tokens that a logical line is written in: a simple statement, or a header up to its colon (reference 7 and 8).
use Rattle.std.specs.Prelude.{ℕ, zero, suc, ◌==◌, Bool, true, false, not, if◌then◌else◌, List, [], ◌∷◌, ◌++◌, map, Option, Some, None}
use Rattle.pylex_lexeme.specs.declared.kinds.Exact.{Exact}
use Rattle.pylex_lexeme.specs.declared.kinds.Exact.TheVariants.{LPar, RPar, LSqb, RSqb, Colon, Comma, Star, Equal, Dot, DoubleStar, RArrow}
use Rattle.pylex_lexeme.specs.declared.kinds.Exact.TheVariants.{Ellipsis}
use Rattle.pylex_lexeme.specs.declared.kinds.Exact.TheVariants.{PlusEqual, MinEqual, StarEqual, SlashEqual, PercentEqual, AmperEqual}
use Rattle.pylex_lexeme.specs.declared.kinds.Exact.TheVariants.{VBarEqual}
use Rattle.pylex_lexeme.specs.declared.kinds.Exact.TheVariants.{CircumflexEqual, LeftShiftEqual, RightShiftEqual, DoubleStarEqual}
use Rattle.pylex_lexeme.specs.declared.kinds.Exact.TheVariants.{DoubleSlashEqual}
use Rattle.pylex_lexeme.specs.declared.kinds.Exact.TheVariants.{AtEqual}
use Rattle.pytoken.specs.declared.keywords.Keyword.TheVariants as Key
use Rattle.pytree_node.specs.declared.operators.Operator.{Operator}
use Rattle.pytree_node.specs.declared.operators.Operator.TheVariants as Bin
use Rattle.pytree_node.specs.Trees
use Rattle.pytree_node.specs.Trees.{Identifier, Expr, Exprs, no_exprs, an_expr, exprs, Keywords, no_keyword, Alias, Item, TypeParam}
use Rattle.pytree_node.specs.Trees.{TypeVar}
use Rattle.pytree_node.specs.Trees.{ParamSpec, TypeVarTuple, Stmt}
use Rattle.pytoken.specs.Terminals.{Op, in_form}
use Rattle.pygrammar.specs.declared.levels.Level.{Level}
use Rattle.pygrammar.specs.declared.levels.Level.TheVariants.{Value, Stars, Named, Expression, Primary, Subject}
use Rattle.pygrammar.specs.declared.pattern_levels.PatternLevel.TheVariants.{Patterns}
use Rattle.pygrammar.specs.Lines.{Header, if_header, elif_header, else_header, loop_header, with_header, try_header, except_header}
use Rattle.pygrammar.specs.Lines.{finally_header}
use Rattle.pygrammar.specs.Lines.{def_header, match_header, case_header, while_head, for_head, function_head, class_head}
use Rattle.pygrammar.specs.DottedNames.{names_in}
use Rattle.pygrammar.specs.Forms.{type_name, match_name, case_name}
use Rattle.pyunparse_text.specs.WrittenPatterns.{written_pattern}
use Rattle.pyunparse_text.specs.Written.{Maker, free, word, leading, trailing, tight, enclosed, bracketed, listed, written, each, by_name}
use Rattle.pyunparse_text.specs.Written.{parameters}

-- ---- Tables.

abbrev pub augmented_sign : Operator → Exact
augmented_sign Bin.Add = PlusEqual
augmented_sign Bin.Sub = MinEqual
augmented_sign Bin.Mult = StarEqual
augmented_sign Bin.MatMult = AtEqual
augmented_sign Bin.Div = SlashEqual
augmented_sign Bin.Mod = PercentEqual
augmented_sign Bin.BitAnd = AmperEqual
augmented_sign Bin.BitOr = VBarEqual
augmented_sign Bin.BitXor = CircumflexEqual
augmented_sign Bin.LShift = LeftShiftEqual
augmented_sign Bin.RShift = RightShiftEqual
augmented_sign Bin.Pow = DoubleStarEqual
augmented_sign Bin.FloorDiv = DoubleSlashEqual

-- the points of a relative import: three of them are one token
abbrev pub points : ℕ → List Exact
points zero = []
points (suc zero) = Dot ∷ []
points (suc (suc zero)) = Dot ∷ (Dot ∷ [])
points (suc (suc (suc n))) = Ellipsis ∷ points n

-- `*` alone, for all names
abbrev pub is_star : Identifier → Option Identifier → Bool
is_star (c ∷ []) None = c == 42
is_star _ _ = false

abbrev pub are_all : List Alias → Bool
are_all (a ∷ []) = is_star a.name a.asname
are_all _ = false

-- no Starred and no NamedExpr is among them
abbrev pub are_plain : Exprs → Bool
are_plain no_exprs = true
are_plain (an_expr (Trees.Starred e c) es) = false
are_plain (an_expr (Trees.NamedExpr t e) es) = false
are_plain (an_expr e es) = are_plain es

-- a Tuple without a target, whose brackets would be read as those of the items of its `with`
abbrev pub reads_as_items : Expr → Option Expr → Bool
reads_as_items (Trees.Tuple (an_expr e es) c) None = are_plain (an_expr e es)
reads_as_items _ _ = false

abbrev pub need_brackets : List Item → Bool
need_brackets (i ∷ []) = reads_as_items i.context_expr i.optional_vars
need_brackets _ = false

-- a Name that is the target of an annotation has brackets where `simple` is false
abbrev pub annotated_in_brackets : Expr → Bool → Bool
annotated_in_brackets (Trees.Name x c) simple = not simple
annotated_in_brackets _ simple = false

module _ {A : Type 0} (make : Maker A) where
  -- ---- Parts. Targets are written as expressions, since contexts are not written.

  -- [X]
  abbrev pub perhaps_written : Level → Option Expr → List A
  perhaps_written l None = []
  perhaps_written l (Some e) = written make l e

  -- [t X]
  abbrev pub following : A → Level → Option Expr → List A
  following t l None = []
  following t l (Some e) = t ∷ written make l e

  -- ["as" NAME]
  abbrev pub as_name : Option Identifier → List A
  as_name None = []
  as_name (Some x) = word make Key.As ∷ (free make (in_form x) ∷ [])

  -- ["async"]
  abbrev pub async : Bool → List A
  async false = []
  async true = word make Key.Async ∷ []

  abbrev pub one_name : Identifier → List A
  one_name x = free make (in_form x) ∷ []

  -- [ "[" TypeParam,.. "]" ]
  abbrev pub type_param : TypeParam → List A
  type_param (TypeVar x bound) = free make (in_form x) ∷ following (trailing make Colon) Expression bound
  type_param (TypeVarTuple x) = leading make Star ∷ (free make (in_form x) ∷ [])
  type_param (ParamSpec x) = leading make DoubleStar ∷ (free make (in_form x) ∷ [])

  abbrev pub type_params : List TypeParam → List A
  type_params [] = []
  type_params (p ∷ ps) = enclosed make (tight make LSqb) RSqb (listed make (map type_param (p ∷ ps)))

  -- ---- Imports.

  -- the names after the first
  abbrev pub dotted_rest : List Identifier → List A
  dotted_rest [] = []
  dotted_rest (x ∷ xs) = tight make Dot ∷ (free make (in_form x) ∷ dotted_rest xs)

  -- NAME ("." NAME)*; after points the first NAME keeps close to them
  abbrev pub dotted_names : Bool → List Identifier → List A
  dotted_names close [] = []
  dotted_names close (x ∷ xs) = make.token (in_form x) close false ∷ dotted_rest xs

  abbrev pub dotted : Bool → Identifier → List A
  dotted close x = dotted_names close (names_in x)

  -- points, of which all but the first keep close to the one before
  abbrev pub point_signs : Bool → List Exact → List A
  point_signs close [] = []
  point_signs close (s ∷ ss) = make.token (Op s) close false ∷ point_signs true ss

  abbrev pub module_name : Bool → Option Identifier → List A
  module_name close None = []
  module_name close (Some x) = dotted close x

  abbrev pub dotted_alias : Alias → List A
  dotted_alias a = dotted false a.name ++ as_name a.asname

  abbrev pub name_alias : Alias → List A
  name_alias a = free make (in_form a.name) ∷ as_name a.asname

  abbrev pub imported : List Alias → List A
  imported names = if are_all names then free make (Op Star) ∷ [] else listed make (map name_alias names)

  -- ---- Simple statements (7).

  -- each target with its `=`
  abbrev pub targets : List Expr → List A
  targets [] = []
  targets (e ∷ es) = written make Stars e ++ (free make (Op Equal) ∷ targets es)

  -- a Name has brackets where `simple` is false
  abbrev pub annotated : Expr → Bool → List A
  annotated (Trees.Name x c) false = bracketed make (free make (in_form x) ∷ [])
  annotated e _ = written make Primary e

  -- nothing for a statement with a block
  abbrev pub simple_tokens : Stmt → List A
  simple_tokens (Trees.ExprOf e) = written make Value e
  simple_tokens (Trees.Assign es e) = targets es ++ written make Value e
  simple_tokens (Trees.AugAssign t o e) = written make Primary t ++ (free make (Op (augmented_sign o)) ∷ written make Value e)
  simple_tokens (Trees.AnnAssign t a v simple) =
      annotated t simple ++ (trailing make Colon ∷ (written make Expression a ++ following (free make (Op Equal)) Value v))
  simple_tokens (Trees.TypeAlias t ps e) =
      free make (in_form type_name) ∷ (written make Primary t ++ (type_params ps ++ (free make (Op Equal) ∷ written make Expression e)))
  simple_tokens (Trees.Return e) = word make Key.Return ∷ perhaps_written Stars e
  simple_tokens (Trees.Raise e c) = word make Key.Raise ∷ (perhaps_written Expression e ++ following (word make Key.From) Expression c)
  simple_tokens (Trees.Assert e m) = word make Key.Assert ∷ (written make Expression e ++ following (trailing make Comma) Expression m)
  simple_tokens (Trees.Delete es) = word make Key.Del ∷ listed make (each make Expression (exprs es))
  simple_tokens (Trees.Global xs) = word make Key.Global ∷ listed make (map one_name xs)
  simple_tokens (Trees.Nonlocal xs) = word make Key.Nonlocal ∷ listed make (map one_name xs)
  simple_tokens Trees.Pass = word make Key.Pass ∷ []
  simple_tokens Trees.Break = word make Key.Break ∷ []
  simple_tokens Trees.Continue = word make Key.Continue ∷ []
  simple_tokens (Trees.Import names) = word make Key.Import ∷ listed make (map dotted_alias names)
  simple_tokens (Trees.ImportFrom m names zero) = word make Key.From ∷ (module_name false m ++ (word make Key.Import ∷ imported names))
  simple_tokens (Trees.ImportFrom m names n) =
      word make Key.From ∷ (point_signs false (points n) ++ (module_name true m ++ (word make Key.Import ∷ imported names)))
  simple_tokens _ = []

  -- ---- Headers, up to their colon (8).

  -- an Expression, or a star and one
  abbrev pub item_target : Expr → List A
  item_target (Trees.Starred e c) = leading make Star ∷ written make Expression e
  item_target e = written make Expression e

  abbrev pub as_target : Option Expr → List A
  as_target None = []
  as_target (Some e) = word make Key.As ∷ item_target e

  abbrev pub item : Item → List A
  item i = written make Expression i.context_expr ++ as_target i.optional_vars

  abbrev pub items : List Item → List A
  items is = if need_brackets is then bracketed make (listed make (map item is)) else listed make (map item is)

  abbrev pub bases : List Expr → Keywords → List A
  bases [] no_keyword = []
  bases es ks = enclosed make (tight make LPar) RPar (listed make (each make Named (exprs es) ++ by_name make ks))

  -- `*` of `except *`
  abbrev pub starred : Bool → List A
  starred false = []
  starred true = leading make Star ∷ []

  abbrev pub header_tokens : Header → List A
  header_tokens (if_header e) = word make Key.If ∷ written make Named e
  header_tokens (elif_header e) = word make Key.Elif ∷ written make Named e
  header_tokens else_header = word make Key.Else ∷ []
  header_tokens (loop_header (while_head e)) = word make Key.While ∷ written make Named e
  header_tokens (loop_header (for_head b t e)) =
      async b ++ (word make Key.For ∷ (written make Stars t ++ (word make Key.In ∷ written make Stars e)))
  header_tokens (with_header b is) = async b ++ (word make Key.With ∷ items is)
  header_tokens try_header = word make Key.Try ∷ []
  header_tokens (except_header b e x) = word make Key.Except ∷ (starred b ++ (perhaps_written Expression e ++ as_name x))
  header_tokens finally_header = word make Key.Finally ∷ []
  header_tokens (def_header (function_head b x ps a r)) =
      async b ++ (word make Key.Def ∷ (free make (in_form x) ∷ (type_params ps
      ++ (enclosed make (tight make LPar) RPar (listed make (parameters make a)) ++ following (free make (Op RArrow)) Expression r))))
  header_tokens (def_header (class_head x ps es ks)) = word make Key.Class ∷ (free make (in_form x) ∷ (type_params ps ++ bases es ks))
  header_tokens (match_header e) = free make (in_form match_name) ∷ written make Subject e
  header_tokens (case_header p g) = free make (in_form case_name) ∷ (written_pattern make Patterns p ++ following (word make Key.If) Named g)
