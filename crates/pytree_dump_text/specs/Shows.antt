-- What is shown of a tree: a scalar's text, a list, or a node with its class and its fields, in order. A field that is
-- None is left out; so are the fields `type_comment`, which are None in every tree.
use Rattle.std.specs.Prelude.{ℕ, Bool, true, List, [], ◌∷◌, Option, Some, None, codes, decimal, if◌then◌else◌}
use Rattle.pynumber.specs.Decimals.{decimal_text}
use Rattle.pynumber.specs.FloatTexts.{float_repr, imaginary_repr}
use Rattle.pysource.specs.Reprs.{repr_text, repr_bytes}
use Rattle.pyfstring.specs.declared.parts.Conversion.{Conversion}
use Rattle.pyfstring.specs.declared.parts.Conversion.TheVariants as conversion
use Rattle.pytree_node.specs.declared.operators.Operator.{Operator}
use Rattle.pytree_node.specs.declared.operators.Operator.TheVariants as operator
use Rattle.pytree_node.specs.declared.operators.UnaryOperator.{UnaryOperator}
use Rattle.pytree_node.specs.declared.operators.UnaryOperator.TheVariants as unary
use Rattle.pytree_node.specs.declared.operators.BoolOperator.{BoolOperator}
use Rattle.pytree_node.specs.declared.operators.BoolOperator.TheVariants as bool_operator
use Rattle.pytree_node.specs.declared.operators.Comparison.{Comparison}
use Rattle.pytree_node.specs.declared.operators.Comparison.TheVariants as comparison
use Rattle.pytree_node.specs.declared.operators.Context.{Context}
use Rattle.pytree_node.specs.declared.operators.Context.TheVariants as context
use Rattle.pytree_node.specs.declared.profiles.Profile.{Profile}
use Rattle.pytree_node.specs.Profiles.{has_types}
use Rattle.pytree_node.specs.Trees
use Rattle.pytree_node.specs.Trees.{Identifier, exprs, stmts}
use Rattle.pytree_node.specs.Values as value
use Rattle.pytree_node.specs.Values.{Value}

mutual
  pub data Shown : Type 0 where
    Scalar : List ℕ → Shown
    Row : Showns → Shown
    Node : List ℕ → Fields → Shown

  pub data Showns : Type 0 where
    no_shown : Showns
    a_shown : Shown → Showns → Showns

  pub data Fields : Type 0 where
    no_field : Fields
    a_field : List ℕ → Shown → Fields → Fields
    left_out : Fields → Fields

abbrev pub showns : List Shown → Showns
showns [] = no_shown
showns (x ∷ xs) = a_shown x (showns xs)

-- a node without fields
abbrev pub word : List ℕ → Shown
word name = Node name no_field

abbrev pub operator_name : Operator → List ℕ
operator_name operator.Add = codes "Add"
operator_name operator.Sub = codes "Sub"
operator_name operator.Mult = codes "Mult"
operator_name operator.MatMult = codes "MatMult"
operator_name operator.Div = codes "Div"
operator_name operator.Mod = codes "Mod"
operator_name operator.Pow = codes "Pow"
operator_name operator.LShift = codes "LShift"
operator_name operator.RShift = codes "RShift"
operator_name operator.BitOr = codes "BitOr"
operator_name operator.BitXor = codes "BitXor"
operator_name operator.BitAnd = codes "BitAnd"
operator_name operator.FloorDiv = codes "FloorDiv"

abbrev pub unary_name : UnaryOperator → List ℕ
unary_name unary.Invert = codes "Invert"
unary_name unary.Not = codes "Not"
unary_name unary.UAdd = codes "UAdd"
unary_name unary.USub = codes "USub"

abbrev pub bool_name : BoolOperator → List ℕ
bool_name bool_operator.And = codes "And"
bool_name bool_operator.Or = codes "Or"

abbrev pub comparison_name : Comparison → List ℕ
comparison_name comparison.Eq = codes "Eq"
comparison_name comparison.NotEq = codes "NotEq"
comparison_name comparison.Lt = codes "Lt"
comparison_name comparison.LtE = codes "LtE"
comparison_name comparison.Gt = codes "Gt"
comparison_name comparison.GtE = codes "GtE"
comparison_name comparison.Is = codes "Is"
comparison_name comparison.IsNot = codes "IsNot"
comparison_name comparison.Within = codes "In"
comparison_name comparison.NotIn = codes "NotIn"

abbrev pub context_name : Context → List ℕ
context_name context.Load = codes "Load"
context_name context.Store = codes "Store"
context_name context.Del = codes "Del"

-- a conversion is -1, or the code of the letter after `!`
abbrev pub conversion_number : Conversion → List ℕ
conversion_number conversion.None = codes "-1"
conversion_number conversion.Str = codes "115"
conversion_number conversion.Repr = codes "114"
conversion_number conversion.Ascii = codes "97"

-- the repr of a name, and a number 0 or 1
abbrev pub shown_name : Identifier → Shown
shown_name name = Scalar (repr_text name)

abbrev pub shown_flag : Bool → Shown
shown_flag b = Scalar (if b then codes "1" else codes "0")

abbrev pub nothing : Shown
nothing = Scalar (codes "None")

abbrev pub shown_comparisons : List Comparison → Showns
shown_comparisons [] = no_shown
shown_comparisons (c ∷ cs) = a_shown (word (comparison_name c)) (shown_comparisons cs)

-- the text of a Constant's value
abbrev pub value_text : Value → List ℕ
value_text value.None = codes "None"
value_text value.Ellipsis = codes "Ellipsis"
value_text (value.Bool b) = if b then codes "True" else codes "False"
value_text (value.Int n) = decimal_text n
value_text (value.Float x) = float_repr x
value_text (value.Imaginary x) = imaginary_repr x
value_text (value.Str points unicode) = repr_text points
value_text (value.Bytes bytes) = repr_bytes bytes

-- the field `kind` of a Constant
abbrev pub kind_field : Value → Fields → Fields
kind_field (value.Str points true) rest = a_field (codes "kind") (Scalar (codes "'u'")) rest
kind_field _ rest = left_out rest

-- a name that may be absent
abbrev pub name_field : List ℕ → Option Identifier → Fields → Fields
name_field field None rest = left_out rest
name_field field (Some name) rest = a_field field (shown_name name) rest

abbrev mutual
  pub shown : Trees.Expr → Shown
  shown (Trees.BoolOp op values) =
      Node (codes "BoolOp") (a_field (codes "op") (word (bool_name op)) (a_field (codes "values") (Row (shown_exprs values)) no_field))
  shown (Trees.NamedExpr target value) =
      Node (codes "NamedExpr") (a_field (codes "target") (shown target) (a_field (codes "value") (shown value) no_field))
  shown (Trees.BinOp left op right) = Node (codes "BinOp")
      (a_field (codes "left") (shown left)
      (a_field (codes "op") (word (operator_name op)) (a_field (codes "right") (shown right) no_field)))
  shown (Trees.UnaryOp op operand) =
      Node (codes "UnaryOp") (a_field (codes "op") (word (unary_name op)) (a_field (codes "operand") (shown operand) no_field))
  shown (Trees.Lambda args body) =
      Node (codes "Lambda") (a_field (codes "args") (shown_arguments args) (a_field (codes "body") (shown body) no_field))
  shown (Trees.IfExp test body orelse) = Node (codes "IfExp")
      (a_field (codes "test") (shown test) (a_field (codes "body") (shown body) (a_field (codes "orelse") (shown orelse) no_field)))
  shown (Trees.Dict keys values) =
      Node (codes "Dict") (a_field (codes "keys") (Row (shown_optionals keys))
      (a_field (codes "values") (Row (shown_exprs values)) no_field))
  shown (Trees.Set elts) = Node (codes "Set") (a_field (codes "elts") (Row (shown_exprs elts)) no_field)
  shown (Trees.ListComp elt generators) =
      Node (codes "ListComp")
      (a_field (codes "elt") (shown elt) (a_field (codes "generators") (Row (shown_comprehensions generators)) no_field))
  shown (Trees.SetComp elt generators) =
      Node (codes "SetComp")
      (a_field (codes "elt") (shown elt) (a_field (codes "generators") (Row (shown_comprehensions generators)) no_field))
  shown (Trees.DictComp key value generators) = Node (codes "DictComp")
      (a_field (codes "key") (shown key)
      (a_field (codes "value") (shown value) (a_field (codes "generators") (Row (shown_comprehensions generators)) no_field)))
  shown (Trees.GeneratorExp elt generators) =
      Node (codes "GeneratorExp")
      (a_field (codes "elt") (shown elt) (a_field (codes "generators") (Row (shown_comprehensions generators)) no_field))
  shown (Trees.Await value) = Node (codes "Await") (a_field (codes "value") (shown value) no_field)
  shown (Trees.Yield value) = Node (codes "Yield") (optional_field (codes "value") value no_field)
  shown (Trees.YieldFrom value) = Node (codes "YieldFrom") (a_field (codes "value") (shown value) no_field)
  shown (Trees.Compare left ops comparators) = Node (codes "Compare")
      (a_field (codes "left") (shown left) (a_field (codes "ops") (Row (shown_comparisons ops))
      (a_field (codes "comparators") (Row (shown_exprs comparators)) no_field)))
  shown (Trees.Call func args keywords) = Node (codes "Call")
      (a_field (codes "func") (shown func)
      (a_field (codes "args") (Row (shown_exprs args)) (a_field (codes "keywords") (Row (shown_keywords keywords)) no_field)))
  shown (Trees.FormattedValue value conversion spec) = Node (codes "FormattedValue")
      (a_field (codes "value") (shown value) (a_field (codes "conversion") (Scalar (conversion_number conversion))
      (optional_field (codes "format_spec") spec no_field)))
  shown (Trees.JoinedStr values) = Node (codes "JoinedStr") (a_field (codes "values") (Row (shown_exprs values)) no_field)
  shown (Trees.Constant value) = Node (codes "Constant") (a_field (codes "value") (Scalar (value_text value)) (kind_field value no_field))
  shown (Trees.Attribute value attr ctx) = Node (codes "Attribute")
      (a_field (codes "value") (shown value)
      (a_field (codes "attr") (shown_name attr) (a_field (codes "ctx") (word (context_name ctx)) no_field)))
  shown (Trees.Subscript value slice ctx) = Node (codes "Subscript")
      (a_field (codes "value") (shown value)
      (a_field (codes "slice") (shown slice) (a_field (codes "ctx") (word (context_name ctx)) no_field)))
  shown (Trees.Starred value ctx) =
      Node (codes "Starred") (a_field (codes "value") (shown value) (a_field (codes "ctx") (word (context_name ctx)) no_field))
  shown (Trees.Name id ctx) =
      Node (codes "Name") (a_field (codes "id") (shown_name id) (a_field (codes "ctx") (word (context_name ctx)) no_field))
  shown (Trees.ListOf elts ctx) =
      Node (codes "List") (a_field (codes "elts") (Row (shown_exprs elts)) (a_field (codes "ctx") (word (context_name ctx)) no_field))
  shown (Trees.Tuple elts ctx) =
      Node (codes "Tuple") (a_field (codes "elts") (Row (shown_exprs elts)) (a_field (codes "ctx") (word (context_name ctx)) no_field))
  shown (Trees.Slice lower upper step) = Node (codes "Slice")
      (optional_field (codes "lower") lower (optional_field (codes "upper") upper (optional_field (codes "step") step no_field)))

  pub shown_exprs : Trees.Exprs → Showns
  shown_exprs Trees.no_exprs = no_shown
  shown_exprs (Trees.an_expr e es) = a_shown (shown e) (shown_exprs es)

  pub optional_field : List ℕ → Trees.OptionalExpr → Fields → Fields
  optional_field name Trees.absent rest = left_out rest
  optional_field name (Trees.present e) rest = a_field name (shown e) rest

  -- within a list, None is shown
  pub shown_optional : Trees.OptionalExpr → Shown
  shown_optional Trees.absent = nothing
  shown_optional (Trees.present e) = shown e

  pub shown_optionals : Trees.OptionalExprs → Showns
  shown_optionals Trees.no_optional = no_shown
  shown_optionals (Trees.an_optional e es) = a_shown (shown_optional e) (shown_optionals es)

  pub shown_comprehensions : Trees.Comprehensions → Showns
  shown_comprehensions Trees.no_comprehension = no_shown
  shown_comprehensions (Trees.a_comprehension target iter ifs is_async cs) = a_shown (Node (codes "comprehension")
      (a_field (codes "target") (shown target) (a_field (codes "iter") (shown iter) (a_field (codes "ifs") (Row (shown_exprs ifs))
      (a_field (codes "is_async") (shown_flag is_async) no_field))))) (shown_comprehensions cs)

  pub shown_keywords : Trees.Keywords → Showns
  shown_keywords Trees.no_keyword = no_shown
  shown_keywords (Trees.a_keyword arg value ks) =
      a_shown (Node (codes "keyword") (name_field (codes "arg") arg (a_field (codes "value") (shown value) no_field))) (shown_keywords ks)

  -- a parameter has no type comment
  pub shown_arg : Trees.Arg → Shown
  shown_arg (Trees.arg name annotation) =
      Node (codes "arg") (a_field (codes "arg") (shown_name name) (optional_field (codes "annotation") annotation (left_out no_field)))

  pub shown_args : Trees.Args → Showns
  shown_args Trees.no_arg = no_shown
  shown_args (Trees.an_arg a rest) = a_shown (shown_arg a) (shown_args rest)

  pub arg_field : List ℕ → Trees.OptionalArg → Fields → Fields
  arg_field name Trees.absent_arg rest = left_out rest
  arg_field name (Trees.present_arg a) rest = a_field name (shown_arg a) rest

  pub shown_arguments : Trees.Arguments → Shown
  shown_arguments (Trees.arguments posonlyargs args vararg kwonlyargs kw_defaults kwarg defaults) = Node (codes "arguments")
      (a_field (codes "posonlyargs") (Row (shown_args posonlyargs))
      (a_field (codes "args") (Row (shown_args args)) (arg_field (codes "vararg") vararg
      (a_field (codes "kwonlyargs") (Row (shown_args kwonlyargs)) (a_field (codes "kw_defaults") (Row (shown_optionals kw_defaults))
      (arg_field (codes "kwarg") kwarg (a_field (codes "defaults") (Row (shown_exprs defaults)) no_field)))))))

-- a comprehension's clause and a keyword alone
abbrev pub shown_comprehension : Trees.Comprehension → Shown
shown_comprehension c = Node (codes "comprehension") (a_field (codes "target") (shown c.target) (a_field (codes "iter") (shown c.iter)
    (a_field (codes "ifs") (Row (shown_exprs (exprs c.ifs))) (a_field (codes "is_async") (shown_flag c.is_async) no_field))))

abbrev pub shown_keyword : Trees.Keyword → Shown
shown_keyword k = Node (codes "keyword") (name_field (codes "arg") k.arg (a_field (codes "value") (shown k.value) no_field))

-- an expression that may be absent
abbrev pub expr_field : List ℕ → Option Trees.Expr → Fields → Fields
expr_field name None rest = left_out rest
expr_field name (Some e) rest = a_field name (shown e) rest

abbrev pub shown_row : List Trees.Expr → Shown
shown_row es = Row (shown_exprs (exprs es))

abbrev pub shown_names : List Identifier → Showns
shown_names [] = no_shown
shown_names (name ∷ rest) = a_shown (shown_name name) (shown_names rest)

abbrev pub shown_alias : Trees.Alias → Shown
shown_alias a = Node (codes "alias") (a_field (codes "name") (shown_name a.name) (name_field (codes "asname") a.asname no_field))

abbrev pub shown_aliases : List Trees.Alias → Showns
shown_aliases [] = no_shown
shown_aliases (a ∷ rest) = a_shown (shown_alias a) (shown_aliases rest)

abbrev pub shown_item : Trees.Item → Shown
shown_item i = Node (codes "withitem") (a_field (codes "context_expr") (shown i.context_expr)
    (expr_field (codes "optional_vars") i.optional_vars no_field))

abbrev pub shown_items : List Trees.Item → Showns
shown_items [] = no_shown
shown_items (i ∷ rest) = a_shown (shown_item i) (shown_items rest)

-- a parameter of a type
abbrev pub shown_type_param : Trees.TypeParam → Shown
shown_type_param (Trees.TypeVar name bound) =
    Node (codes "TypeVar") (a_field (codes "name") (shown_name name) (expr_field (codes "bound") bound no_field))
shown_type_param (Trees.ParamSpec name) = Node (codes "ParamSpec") (a_field (codes "name") (shown_name name) no_field)
shown_type_param (Trees.TypeVarTuple name) = Node (codes "TypeVarTuple") (a_field (codes "name") (shown_name name) no_field)

abbrev pub shown_type_params : List Trees.TypeParam → Showns
shown_type_params [] = no_shown
shown_type_params (p ∷ ps) = a_shown (shown_type_param p) (shown_type_params ps)

-- a pattern of a `match`
abbrev mutual
  pub shown_pattern : Trees.Pattern → Shown
  shown_pattern (Trees.MatchValue value) = Node (codes "MatchValue") (a_field (codes "value") (shown value) no_field)
  shown_pattern (Trees.MatchSingleton value) = Node (codes "MatchSingleton") (a_field (codes "value") (Scalar (value_text value)) no_field)
  shown_pattern (Trees.MatchSequence inner) =
      Node (codes "MatchSequence") (a_field (codes "patterns") (Row (shown_patterns inner)) no_field)
  shown_pattern (Trees.MatchMapping keys inner rest) = Node (codes "MatchMapping")
      (a_field (codes "keys") (shown_row keys) (a_field (codes "patterns") (Row (shown_patterns inner))
      (name_field (codes "rest") rest no_field)))
  shown_pattern (Trees.MatchClass cls inner names named) = Node (codes "MatchClass")
      (a_field (codes "cls") (shown cls) (a_field (codes "patterns") (Row (shown_patterns inner))
      (a_field (codes "kwd_attrs") (Row (shown_names names))
      (a_field (codes "kwd_patterns") (Row (shown_patterns named)) no_field))))
  shown_pattern (Trees.MatchStar name) = Node (codes "MatchStar") (name_field (codes "name") name no_field)
  shown_pattern (Trees.MatchAs inner name) =
      Node (codes "MatchAs") (pattern_field (codes "pattern") inner (name_field (codes "name") name no_field))
  shown_pattern (Trees.MatchOr inner) = Node (codes "MatchOr") (a_field (codes "patterns") (Row (shown_patterns inner)) no_field)

  pub shown_patterns : Trees.Patterns → Showns
  shown_patterns Trees.no_pattern = no_shown
  shown_patterns (Trees.a_pattern p ps) = a_shown (shown_pattern p) (shown_patterns ps)

  pub pattern_field : List ℕ → Trees.OptionalPattern → Fields → Fields
  pattern_field name Trees.absent_pattern rest = left_out rest
  pattern_field name (Trees.present_pattern p) rest = a_field name (shown_pattern p) rest

-- the last field of a definition, which classes of 3.11 don't have
abbrev pub type_params_field : Profile → List Trees.TypeParam → Fields
type_params_field p ps = if has_types p then a_field (codes "type_params") (Row (shown_type_params ps)) no_field else no_field

abbrev mutual
  pub shown_stmt : Profile → Trees.Stmt → Shown
  shown_stmt p (Trees.FunctionDef name args body decorators returns parameters) = Node (codes "FunctionDef")
      (a_field (codes "name") (shown_name name)
      (a_field (codes "args") (shown_arguments args) (a_field (codes "body") (Row (shown_stmts p body))
      (a_field (codes "decorator_list") (shown_row decorators)
      (expr_field (codes "returns") returns (left_out (type_params_field p parameters)))))))
  shown_stmt p (Trees.AsyncFunctionDef name args body decorators returns parameters) = Node (codes "AsyncFunctionDef")
      (a_field (codes "name") (shown_name name)
      (a_field (codes "args") (shown_arguments args) (a_field (codes "body") (Row (shown_stmts p body))
      (a_field (codes "decorator_list") (shown_row decorators)
      (expr_field (codes "returns") returns (left_out (type_params_field p parameters)))))))
  shown_stmt p (Trees.ClassDef name bases keywords body decorators parameters) = Node (codes "ClassDef")
      (a_field (codes "name") (shown_name name)
      (a_field (codes "bases") (shown_row bases) (a_field (codes "keywords") (Row (shown_keywords keywords))
      (a_field (codes "body") (Row (shown_stmts p body)) (a_field (codes "decorator_list") (shown_row decorators)
      (type_params_field p parameters))))))
  shown_stmt p (Trees.Return value) = Node (codes "Return") (expr_field (codes "value") value no_field)
  shown_stmt p (Trees.Delete targets) = Node (codes "Delete") (a_field (codes "targets") (shown_row targets) no_field)
  shown_stmt p (Trees.Assign targets value) =
      Node (codes "Assign") (a_field (codes "targets") (shown_row targets) (a_field (codes "value") (shown value) (left_out no_field)))
  shown_stmt p (Trees.TypeAlias name parameters value) = Node (codes "TypeAlias")
      (a_field (codes "name") (shown name) (a_field (codes "type_params") (Row (shown_type_params parameters))
      (a_field (codes "value") (shown value) no_field)))
  shown_stmt p (Trees.AugAssign target op value) = Node (codes "AugAssign")
      (a_field (codes "target") (shown target)
      (a_field (codes "op") (word (operator_name op)) (a_field (codes "value") (shown value) no_field)))
  shown_stmt p (Trees.AnnAssign target annotation value simple) = Node (codes "AnnAssign")
      (a_field (codes "target") (shown target)
      (a_field (codes "annotation") (shown annotation)
      (expr_field (codes "value") value (a_field (codes "simple") (shown_flag simple) no_field))))
  shown_stmt p (Trees.For target iter body orelse) = Node (codes "For")
      (a_field (codes "target") (shown target) (a_field (codes "iter") (shown iter) (a_field (codes "body") (Row (shown_stmts p body))
      (a_field (codes "orelse") (Row (shown_stmts p orelse)) (left_out no_field)))))
  shown_stmt p (Trees.AsyncFor target iter body orelse) = Node (codes "AsyncFor")
      (a_field (codes "target") (shown target) (a_field (codes "iter") (shown iter) (a_field (codes "body") (Row (shown_stmts p body))
      (a_field (codes "orelse") (Row (shown_stmts p orelse)) (left_out no_field)))))
  shown_stmt p (Trees.While test body orelse) = Node (codes "While")
      (a_field (codes "test") (shown test) (a_field (codes "body") (Row (shown_stmts p body))
      (a_field (codes "orelse") (Row (shown_stmts p orelse)) no_field)))
  shown_stmt p (Trees.If test body orelse) = Node (codes "If")
      (a_field (codes "test") (shown test) (a_field (codes "body") (Row (shown_stmts p body))
      (a_field (codes "orelse") (Row (shown_stmts p orelse)) no_field)))
  shown_stmt p (Trees.With items body) = Node (codes "With")
      (a_field (codes "items") (Row (shown_items items)) (a_field (codes "body") (Row (shown_stmts p body)) (left_out no_field)))
  shown_stmt p (Trees.AsyncWith items body) = Node (codes "AsyncWith")
      (a_field (codes "items") (Row (shown_items items)) (a_field (codes "body") (Row (shown_stmts p body)) (left_out no_field)))
  shown_stmt p (Trees.Match subject cases) =
      Node (codes "Match") (a_field (codes "subject") (shown subject) (a_field (codes "cases") (Row (shown_cases p cases)) no_field))
  shown_stmt p (Trees.Raise exc cause) = Node (codes "Raise") (expr_field (codes "exc") exc (expr_field (codes "cause") cause no_field))
  shown_stmt p (Trees.Assert test msg) = Node (codes "Assert") (a_field (codes "test") (shown test) (expr_field (codes "msg") msg no_field))
  shown_stmt p (Trees.Try body handlers orelse finalbody) = Node (codes "Try")
      (a_field (codes "body") (Row (shown_stmts p body)) (a_field (codes "handlers") (Row (shown_handlers p handlers))
      (a_field (codes "orelse") (Row (shown_stmts p orelse)) (a_field (codes "finalbody") (Row (shown_stmts p finalbody)) no_field))))
  shown_stmt p (Trees.TryStar body handlers orelse finalbody) = Node (codes "TryStar")
      (a_field (codes "body") (Row (shown_stmts p body)) (a_field (codes "handlers") (Row (shown_handlers p handlers))
      (a_field (codes "orelse") (Row (shown_stmts p orelse)) (a_field (codes "finalbody") (Row (shown_stmts p finalbody)) no_field))))
  shown_stmt p (Trees.Import names) = Node (codes "Import") (a_field (codes "names") (Row (shown_aliases names)) no_field)
  shown_stmt p (Trees.ImportFrom source names level) = Node (codes "ImportFrom")
      (name_field (codes "module") source (a_field (codes "names") (Row (shown_aliases names))
      (a_field (codes "level") (Scalar (decimal level)) no_field)))
  shown_stmt p (Trees.Global names) = Node (codes "Global") (a_field (codes "names") (Row (shown_names names)) no_field)
  shown_stmt p (Trees.Nonlocal names) = Node (codes "Nonlocal") (a_field (codes "names") (Row (shown_names names)) no_field)
  shown_stmt p (Trees.ExprOf value) = Node (codes "Expr") (a_field (codes "value") (shown value) no_field)
  shown_stmt p Trees.Pass = word (codes "Pass")
  shown_stmt p Trees.Break = word (codes "Break")
  shown_stmt p Trees.Continue = word (codes "Continue")

  pub shown_stmts : Profile → Trees.Stmts → Showns
  shown_stmts p Trees.no_stmt = no_shown
  shown_stmts p (Trees.a_stmt s ss) = a_shown (shown_stmt p s) (shown_stmts p ss)

  pub shown_cases : Profile → Trees.Cases → Showns
  shown_cases p Trees.no_case = no_shown
  shown_cases p (Trees.a_case pattern guard body cs) = a_shown (Node (codes "match_case")
      (a_field (codes "pattern") (shown_pattern pattern)
      (expr_field (codes "guard") guard (a_field (codes "body") (Row (shown_stmts p body)) no_field)))) (shown_cases p cs)

  pub shown_handlers : Profile → Trees.Handlers → Showns
  shown_handlers p Trees.no_handler = no_shown
  shown_handlers p (Trees.a_handler class name body hs) = a_shown (Node (codes "ExceptHandler")
      (expr_field (codes "type") class (name_field (codes "name") name (a_field (codes "body") (Row (shown_stmts p body)) no_field))))
      (shown_handlers p hs)

abbrev pub shown_module : Profile → Trees.Module → Shown
shown_module p m = Node (codes "Module") (a_field (codes "body") (Row (shown_stmts p (stmts m.body)))
    (a_field (codes "type_ignores") (Row no_shown) no_field))
