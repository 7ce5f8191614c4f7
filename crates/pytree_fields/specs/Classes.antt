-- The names of classes, and those of their fields, in order.
use Rattle.std.specs.Prelude.{ℕ, List, [], ◌∷◌, codes, length}
use Rattle.pytree_fields.specs.declared.classes.Class.{Class}
use Rattle.pytree_fields.specs.declared.classes.Class.TheVariants as class

abbrev pub class_name : Class → List ℕ
class_name class.Module = codes "Module"
class_name class.BoolOp = codes "BoolOp"
class_name class.NamedExpr = codes "NamedExpr"
class_name class.BinOp = codes "BinOp"
class_name class.UnaryOp = codes "UnaryOp"
class_name class.Lambda = codes "Lambda"
class_name class.IfExp = codes "IfExp"
class_name class.Dict = codes "Dict"
class_name class.Set = codes "Set"
class_name class.ListComp = codes "ListComp"
class_name class.SetComp = codes "SetComp"
class_name class.DictComp = codes "DictComp"
class_name class.GeneratorExp = codes "GeneratorExp"
class_name class.Await = codes "Await"
class_name class.Yield = codes "Yield"
class_name class.YieldFrom = codes "YieldFrom"
class_name class.Compare = codes "Compare"
class_name class.Call = codes "Call"
class_name class.FormattedValue = codes "FormattedValue"
class_name class.JoinedStr = codes "JoinedStr"
class_name class.Constant = codes "Constant"
class_name class.Attribute = codes "Attribute"
class_name class.Subscript = codes "Subscript"
class_name class.Starred = codes "Starred"
class_name class.Name = codes "Name"
class_name class.List = codes "List"
class_name class.Tuple = codes "Tuple"
class_name class.Slice = codes "Slice"
class_name class.FunctionDef = codes "FunctionDef"
class_name class.AsyncFunctionDef = codes "AsyncFunctionDef"
class_name class.ClassDef = codes "ClassDef"
class_name class.Return = codes "Return"
class_name class.Delete = codes "Delete"
class_name class.Assign = codes "Assign"
class_name class.TypeAlias = codes "TypeAlias"
class_name class.AugAssign = codes "AugAssign"
class_name class.AnnAssign = codes "AnnAssign"
class_name class.For = codes "For"
class_name class.AsyncFor = codes "AsyncFor"
class_name class.While = codes "While"
class_name class.If = codes "If"
class_name class.With = codes "With"
class_name class.AsyncWith = codes "AsyncWith"
class_name class.Match = codes "Match"
class_name class.Raise = codes "Raise"
class_name class.Try = codes "Try"
class_name class.TryStar = codes "TryStar"
class_name class.Assert = codes "Assert"
class_name class.Import = codes "Import"
class_name class.ImportFrom = codes "ImportFrom"
class_name class.Global = codes "Global"
class_name class.Nonlocal = codes "Nonlocal"
class_name class.Expr = codes "Expr"
class_name class.Pass = codes "Pass"
class_name class.Break = codes "Break"
class_name class.Continue = codes "Continue"
class_name class.MatchValue = codes "MatchValue"
class_name class.MatchSingleton = codes "MatchSingleton"
class_name class.MatchSequence = codes "MatchSequence"
class_name class.MatchMapping = codes "MatchMapping"
class_name class.MatchClass = codes "MatchClass"
class_name class.MatchStar = codes "MatchStar"
class_name class.MatchAs = codes "MatchAs"
class_name class.MatchOr = codes "MatchOr"
class_name class.Comprehension = codes "comprehension"
class_name class.ExceptHandler = codes "ExceptHandler"
class_name class.Arguments = codes "arguments"
class_name class.Arg = codes "arg"
class_name class.Keyword = codes "keyword"
class_name class.Alias = codes "alias"
class_name class.WithItem = codes "withitem"
class_name class.MatchCase = codes "match_case"
class_name class.TypeVar = codes "TypeVar"
class_name class.ParamSpec = codes "ParamSpec"
class_name class.TypeVarTuple = codes "TypeVarTuple"

-- `type_params` of definitions is of Python 3.12
abbrev pub class_fields : Class → List (List ℕ)
class_fields class.Module = codes "body" ∷ codes "type_ignores" ∷ []
class_fields class.BoolOp = codes "op" ∷ codes "values" ∷ []
class_fields class.NamedExpr = codes "target" ∷ codes "value" ∷ []
class_fields class.BinOp = codes "left" ∷ codes "op" ∷ codes "right" ∷ []
class_fields class.UnaryOp = codes "op" ∷ codes "operand" ∷ []
class_fields class.Lambda = codes "args" ∷ codes "body" ∷ []
class_fields class.IfExp = codes "test" ∷ codes "body" ∷ codes "orelse" ∷ []
class_fields class.Dict = codes "keys" ∷ codes "values" ∷ []
class_fields class.Set = codes "elts" ∷ []
class_fields class.ListComp = codes "elt" ∷ codes "generators" ∷ []
class_fields class.SetComp = codes "elt" ∷ codes "generators" ∷ []
class_fields class.DictComp = codes "key" ∷ codes "value" ∷ codes "generators" ∷ []
class_fields class.GeneratorExp = codes "elt" ∷ codes "generators" ∷ []
class_fields class.Await = codes "value" ∷ []
class_fields class.Yield = codes "value" ∷ []
class_fields class.YieldFrom = codes "value" ∷ []
class_fields class.Compare = codes "left" ∷ codes "ops" ∷ codes "comparators" ∷ []
class_fields class.Call = codes "func" ∷ codes "args" ∷ codes "keywords" ∷ []
class_fields class.FormattedValue = codes "value" ∷ codes "conversion" ∷ codes "format_spec" ∷ []
class_fields class.JoinedStr = codes "values" ∷ []
class_fields class.Constant = codes "value" ∷ codes "kind" ∷ []
class_fields class.Attribute = codes "value" ∷ codes "attr" ∷ codes "ctx" ∷ []
class_fields class.Subscript = codes "value" ∷ codes "slice" ∷ codes "ctx" ∷ []
class_fields class.Starred = codes "value" ∷ codes "ctx" ∷ []
class_fields class.Name = codes "id" ∷ codes "ctx" ∷ []
class_fields class.List = codes "elts" ∷ codes "ctx" ∷ []
class_fields class.Tuple = codes "elts" ∷ codes "ctx" ∷ []
class_fields class.Slice = codes "lower" ∷ codes "upper" ∷ codes "step" ∷ []
class_fields class.FunctionDef = codes "name" ∷ codes "args" ∷ codes "body" ∷ codes "decorator_list" ∷ codes "returns" ∷ codes
    "type_comment" ∷ codes "type_params" ∷ []
class_fields class.AsyncFunctionDef = codes "name" ∷ codes "args" ∷ codes "body" ∷ codes "decorator_list" ∷ codes "returns" ∷ codes
    "type_comment" ∷ codes "type_params" ∷ []
class_fields class.ClassDef = codes "name" ∷ codes "bases" ∷ codes "keywords" ∷ codes "body" ∷ codes "decorator_list" ∷ codes
    "type_params" ∷ []
class_fields class.Return = codes "value" ∷ []
class_fields class.Delete = codes "targets" ∷ []
class_fields class.Assign = codes "targets" ∷ codes "value" ∷ codes "type_comment" ∷ []
class_fields class.TypeAlias = codes "name" ∷ codes "type_params" ∷ codes "value" ∷ []
class_fields class.AugAssign = codes "target" ∷ codes "op" ∷ codes "value" ∷ []
class_fields class.AnnAssign = codes "target" ∷ codes "annotation" ∷ codes "value" ∷ codes "simple" ∷ []
class_fields class.For = codes "target" ∷ codes "iter" ∷ codes "body" ∷ codes "orelse" ∷ codes "type_comment" ∷ []
class_fields class.AsyncFor = codes "target" ∷ codes "iter" ∷ codes "body" ∷ codes "orelse" ∷ codes "type_comment" ∷ []
class_fields class.While = codes "test" ∷ codes "body" ∷ codes "orelse" ∷ []
class_fields class.If = codes "test" ∷ codes "body" ∷ codes "orelse" ∷ []
class_fields class.With = codes "items" ∷ codes "body" ∷ codes "type_comment" ∷ []
class_fields class.AsyncWith = codes "items" ∷ codes "body" ∷ codes "type_comment" ∷ []
class_fields class.Match = codes "subject" ∷ codes "cases" ∷ []
class_fields class.Raise = codes "exc" ∷ codes "cause" ∷ []
class_fields class.Try = codes "body" ∷ codes "handlers" ∷ codes "orelse" ∷ codes "finalbody" ∷ []
class_fields class.TryStar = codes "body" ∷ codes "handlers" ∷ codes "orelse" ∷ codes "finalbody" ∷ []
class_fields class.Assert = codes "test" ∷ codes "msg" ∷ []
class_fields class.Import = codes "names" ∷ []
class_fields class.ImportFrom = codes "module" ∷ codes "names" ∷ codes "level" ∷ []
class_fields class.Global = codes "names" ∷ []
class_fields class.Nonlocal = codes "names" ∷ []
class_fields class.Expr = codes "value" ∷ []
class_fields class.Pass = []
class_fields class.Break = []
class_fields class.Continue = []
class_fields class.MatchValue = codes "value" ∷ []
class_fields class.MatchSingleton = codes "value" ∷ []
class_fields class.MatchSequence = codes "patterns" ∷ []
class_fields class.MatchMapping = codes "keys" ∷ codes "patterns" ∷ codes "rest" ∷ []
class_fields class.MatchClass = codes "cls" ∷ codes "patterns" ∷ codes "kwd_attrs" ∷ codes "kwd_patterns" ∷ []
class_fields class.MatchStar = codes "name" ∷ []
class_fields class.MatchAs = codes "pattern" ∷ codes "name" ∷ []
class_fields class.MatchOr = codes "patterns" ∷ []
class_fields class.Comprehension = codes "target" ∷ codes "iter" ∷ codes "ifs" ∷ codes "is_async" ∷ []
class_fields class.ExceptHandler = codes "type" ∷ codes "name" ∷ codes "body" ∷ []
class_fields class.Arguments = codes "posonlyargs" ∷ codes "args" ∷ codes "vararg" ∷ codes "kwonlyargs" ∷ codes "kw_defaults" ∷ codes
    "kwarg" ∷ codes "defaults" ∷ []
class_fields class.Arg = codes "arg" ∷ codes "annotation" ∷ codes "type_comment" ∷ []
class_fields class.Keyword = codes "arg" ∷ codes "value" ∷ []
class_fields class.Alias = codes "name" ∷ codes "asname" ∷ []
class_fields class.WithItem = codes "context_expr" ∷ codes "optional_vars" ∷ []
class_fields class.MatchCase = codes "pattern" ∷ codes "guard" ∷ codes "body" ∷ []
class_fields class.TypeVar = codes "name" ∷ codes "bound" ∷ []
class_fields class.ParamSpec = codes "name" ∷ []
class_fields class.TypeVarTuple = codes "name" ∷ []

-- how many fields it has
abbrev pub field_count : Class → ℕ
field_count c = length (class_fields c)
