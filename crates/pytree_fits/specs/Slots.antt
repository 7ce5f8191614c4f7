-- Which expressions the grammar gives at a level to some list of terminals, with no regard to heights (reference 6). Brackets lead from
-- every level to the lowest, so a level asks only whether a Starred or a Slice may stand there; Expression stands for all levels that
-- take neither. Each function takes the tests, or that of names alone.
use Rattle.std.specs.Prelude.{ℕ, suc, ◌+◌, eqb, leb, Bool, true, false, ◌&&◌, ◌||◌, not, List, [], ◌∷◌, length, Option, Some, None}
use Rattle.pytree_node.specs.declared.operators.Context.{Context}
use Rattle.pytree_node.specs.declared.operators.Context.TheVariants.{Load, Store, Del}
use Rattle.pytree_node.specs.Trees
use Rattle.pytree_node.specs.Trees.{Identifier, Expr, Exprs, no_exprs, an_expr, OptionalExpr, absent, present, OptionalExprs, no_optional}
use Rattle.pytree_node.specs.Trees.{an_optional, Comprehensions, no_comprehension, a_comprehension, Keywords, no_keyword, a_keyword, Arg}
use Rattle.pytree_node.specs.Trees.{arg, Args, no_arg, an_arg, OptionalArg, absent_arg, present_arg, Arguments, arguments}
use Rattle.pygrammar.specs.declared.levels.Level.{Level}
use Rattle.pygrammar.specs.declared.levels.Level.TheVariants.{Value, Stars, StarItem, Expression, Elem, Slices, Part, Slice}
use Rattle.pytree_fits.specs.Tests.{Tests, in_field}
use Rattle.pytree_node.specs.Values as values
use Rattle.pygrammar.specs.Forms.{is_whole}
use Rattle.pytree_fits.specs.Literals.{is_value, has_formatted_text}

-- where `*e` may stand by itself; a lone one between `[` and `]` is a Tuple
abbrev pub takes_star : Level → Bool
takes_star Value = true
takes_star Stars = true
takes_star StarItem = true
takes_star Elem = true
takes_star Part = true
takes_star _ = false

-- where `a:b` may stand by itself
abbrev pub takes_slice : Level → Bool
takes_slice Slices = true
takes_slice Part = true
takes_slice Slice = true
takes_slice _ = false

-- the level of a Tuple's members
abbrev pub member_level : Level → Level
member_level Slices = Part
member_level _ = Elem

abbrev pub is_context : Context → Context → Bool
is_context Load Load = true
is_context Store Store = true
is_context Del Del = true
is_context _ _ = false

abbrev pub is_starred : Expr → Bool
is_starred (Trees.Starred value ctx) = true
is_starred _ = false

abbrev pub is_a_name : Expr → Bool
is_a_name (Trees.Name id ctx) = true
is_a_name _ = false

-- a single target
abbrev pub is_single : Expr → Bool
is_single (Trees.Name id ctx) = true
is_single (Trees.Attribute value attr ctx) = true
is_single (Trees.Subscript value slice ctx) = true
is_single _ = false

abbrev pub count : Exprs → ℕ
count no_exprs = 0
count (an_expr e es) = count es + 1

abbrev pub count_optional : OptionalExprs → ℕ
count_optional no_optional = 0
count_optional (an_optional e es) = count_optional es + 1

abbrev pub count_args : Args → ℕ
count_args no_arg = 0
count_args (an_arg a rest) = count_args rest + 1

abbrev pub has_some : Comprehensions → Bool
has_some no_comprehension = false
has_some (a_comprehension target iter ifs is_async gs) = true

abbrev pub is_absent : OptionalExpr → Bool
is_absent absent = true
is_absent (present e) = false

-- a name, where there is one
abbrev pub perhaps_name : (Identifier → Bool) → Option Identifier → Bool
perhaps_name n None = true
perhaps_name n (Some x) = n x

-- ---- F-strings.

-- a text has this kind
abbrev pub is_kind : Bool → Bool → Bool
is_kind true k = k
is_kind false k = not k

abbrev pub is_text : Expr → Bool
is_text (Trees.Constant v) = true
is_text _ = false

-- no two texts stand side by side, after a text or not
abbrev pub are_apart : (after_text : Bool) → Exprs → Bool
are_apart b no_exprs = true
are_apart b (an_expr e es) = not (b && is_text e) && are_apart (is_text e) es

abbrev pub is_last : Exprs → Bool
is_last no_exprs = true
is_last (an_expr e es) = false

-- The texts of a JoinedStr have this kind, and so have those in its format specs, but for the last value of each, which has none.
abbrev mutual
  pub have_kind : Bool → (in_spec : Bool) → Exprs → Bool
  have_kind u s no_exprs = true
  have_kind u s (an_expr e es) = has_kind u (s && is_last es) e && have_kind u s es

  pub has_kind : Bool → (ends_spec : Bool) → Expr → Bool
  has_kind u s (Trees.Constant (values.Str t k)) = is_kind (u && not s) k
  has_kind u s (Trees.FormattedValue value conversion spec) = spec_has_kind u spec
  has_kind u s _ = true

  pub spec_has_kind : Bool → OptionalExpr → Bool
  spec_has_kind u (present (Trees.JoinedStr es)) = have_kind u true es
  spec_has_kind u _ = true

-- an f-string is of the whole language; it stands in one field at most; its texts have the same kind
abbrev pub may_be_joined : Tests → Exprs → Bool
may_be_joined n es = is_whole n.extent && leb n.fields 1 && (have_kind false false es || have_kind true false es)

-- a text of an f-string, in so many format specs, which isn't empty
abbrev pub text_fits : Tests → ℕ → List ℕ → Bool
text_fits n d [] = false
text_fits n d (c ∷ cs) = has_formatted_text n.fields d (c ∷ cs)

abbrev mutual
  pub fits_at : Tests → Level → Expr → Bool
  fits_at n l (Trees.BoolOp op values) = leb 2 (count values) && each_fits n Expression values
  fits_at n l (Trees.NamedExpr target value) = is_a_name target && fits_target n Store target && fits_at n Expression value
  fits_at n l (Trees.BinOp left op right) = fits_at n Expression left && fits_at n Expression right
  fits_at n l (Trees.UnaryOp op operand) = fits_at n Expression operand
  fits_at n l (Trees.Lambda args body) = fits_arguments n false args && fits_at n Expression body
  fits_at n l (Trees.IfExp test body orelse) = fits_at n Expression test && fits_at n Expression body && fits_at n Expression orelse
  fits_at n l (Trees.Dict keys values) = eqb (count_optional keys) (count values) && each_perhaps_fits n keys &&
      each_fits n Expression values
  fits_at n l (Trees.Set elts) = leb 1 (count elts) && each_fits n Elem elts
  fits_at n l (Trees.ListComp elt generators) = has_some generators && fits_at n Expression elt && each_clause_fits n generators
  fits_at n l (Trees.SetComp elt generators) = has_some generators && fits_at n Expression elt && each_clause_fits n generators
  fits_at n l (Trees.DictComp key value generators) = has_some generators && fits_at n Expression key && fits_at n Expression value &&
      each_clause_fits n generators
  fits_at n l (Trees.GeneratorExp elt generators) = has_some generators && fits_at n Expression elt && each_clause_fits n generators
  fits_at n l (Trees.Await value) = fits_at n Expression value
  fits_at n l (Trees.Yield value) = perhaps_fits n Stars value
  fits_at n l (Trees.YieldFrom value) = fits_at n Expression value
  fits_at n l (Trees.Compare left ops comparators) = leb 1 (length ops) && eqb (length ops) (count comparators) && fits_at n Expression left
      && each_fits n Expression comparators
  fits_at n l (Trees.Call func args keywords) = fits_at n Expression func && each_fits n Elem args && each_keyword_fits n keywords
  fits_at n l (Trees.Constant value) = is_value n value
  fits_at n l (Trees.FormattedValue value conversion spec) = false
  fits_at n l (Trees.JoinedStr values) = may_be_joined n values && are_apart false values && each_value_fits n 0 values
  fits_at n l (Trees.Attribute value attr ctx) = is_context Load ctx && n.name attr && fits_at n Expression value
  fits_at n l (Trees.Subscript value slice ctx) = is_context Load ctx && fits_at n Expression value && fits_at n Slices slice
  fits_at n l (Trees.Starred value ctx) = takes_star l && is_context Load ctx && fits_at n Expression value
  fits_at n l (Trees.Name id ctx) = is_context Load ctx && n.name id
  fits_at n l (Trees.ListOf elts ctx) = is_context Load ctx && each_fits n Elem elts
  fits_at n l (Trees.Tuple elts ctx) = is_context Load ctx && each_fits n (member_level l) elts
  fits_at n l (Trees.Slice lower upper step) = takes_slice l && perhaps_fits n Expression lower && perhaps_fits n Expression upper &&
      perhaps_fits n Expression step

  -- the values of an f-string or of a format spec, which stand in so many format specs
  pub each_value_fits : Tests → ℕ → Exprs → Bool
  each_value_fits n d no_exprs = true
  each_value_fits n d (an_expr e es) = value_fits n d e && each_value_fits n d es

  -- the format spec of a field may have fields, and those no more than a text as theirs
  pub value_fits : Tests → ℕ → Expr → Bool
  value_fits n d (Trees.Constant (values.Str t k)) = text_fits n d t
  value_fits n d (Trees.FormattedValue value conversion spec) = leb d 1 && fits_at (in_field n) Expression value && spec_fits n (suc d) spec
  value_fits n d _ = false

  pub spec_fits : Tests → ℕ → OptionalExpr → Bool
  spec_fits n d absent = true
  spec_fits n d (present (Trees.JoinedStr es)) = are_apart false es && each_value_fits n d es
  spec_fits n d (present _) = false

  -- a target, with the contexts of its place (Store or Del)
  pub fits_target : Tests → Context → Expr → Bool
  fits_target n k (Trees.Name id ctx) = is_context k ctx && n.name id
  fits_target n k (Trees.Attribute value attr ctx) = is_context k ctx && n.name attr && fits_at n Expression value
  fits_target n k (Trees.Subscript value slice ctx) = is_context k ctx && fits_at n Expression value && fits_at n Slices slice
  fits_target n k (Trees.Tuple elts ctx) = is_context k ctx && each_target_fits n k elts
  fits_target n k (Trees.ListOf elts ctx) = is_context k ctx && each_target_fits n k elts
  fits_target n k (Trees.Starred value ctx) = is_context Store k && is_context k ctx && not (is_starred value) && fits_target n k value
  fits_target n k _ = false

  pub each_target_fits : Tests → Context → Exprs → Bool
  each_target_fits n k no_exprs = true
  each_target_fits n k (an_expr e es) = fits_target n k e && each_target_fits n k es

  pub each_fits : Tests → Level → Exprs → Bool
  each_fits n l no_exprs = true
  each_fits n l (an_expr e es) = fits_at n l e && each_fits n l es

  pub perhaps_fits : Tests → Level → OptionalExpr → Bool
  perhaps_fits n l absent = true
  perhaps_fits n l (present e) = fits_at n l e

  pub each_perhaps_fits : Tests → OptionalExprs → Bool
  each_perhaps_fits n no_optional = true
  each_perhaps_fits n (an_optional e es) = perhaps_fits n Expression e && each_perhaps_fits n es

  pub each_keyword_fits : Tests → Keywords → Bool
  each_keyword_fits n no_keyword = true
  each_keyword_fits n (a_keyword name value ks) = perhaps_name n.name name && fits_at n Expression value && each_keyword_fits n ks

  pub each_clause_fits : Tests → Comprehensions → Bool
  each_clause_fits n no_comprehension = true
  each_clause_fits n (a_comprehension target iter ifs is_async gs) = fits_target n Store target && fits_at n Expression iter && each_fits n
      Expression ifs && each_clause_fits n gs

  -- parameters, with annotations or without; that of `*` NAME may be a Starred
  pub fits_arguments : Tests → (annotated : Bool) → Arguments → Bool
  fits_arguments n b (arguments posonlyargs args vararg kwonlyargs kw_defaults kwarg defaults) =
      eqb (count_optional kw_defaults) (count_args kwonlyargs) && leb (count defaults) (count_args posonlyargs + count_args args)
      && each_arg_fits n b posonlyargs && each_arg_fits n b args && perhaps_arg_fits n b StarItem vararg && each_arg_fits n b kwonlyargs
      && each_perhaps_fits n kw_defaults && perhaps_arg_fits n b Expression kwarg && each_fits n Expression defaults

  pub arg_fits : Tests → (annotated : Bool) → Level → Arg → Bool
  arg_fits n b l (arg name annotation) = n.name name && (is_absent annotation || b) && perhaps_fits n l annotation

  pub each_arg_fits : Tests → (annotated : Bool) → Args → Bool
  each_arg_fits n b no_arg = true
  each_arg_fits n b (an_arg a rest) = arg_fits n b Expression a && each_arg_fits n b rest

  pub perhaps_arg_fits : Tests → (annotated : Bool) → Level → OptionalArg → Bool
  perhaps_arg_fits n b l absent_arg = true
  perhaps_arg_fits n b l (present_arg a) = arg_fits n b l a

-- the values of a JoinedStr
abbrev pub joined_fits : Tests → Exprs → Bool
joined_fits n es = may_be_joined n es && are_apart false es && each_value_fits n 0 es
