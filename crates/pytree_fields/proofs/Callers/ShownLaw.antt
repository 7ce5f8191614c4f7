-- What a tree holds is what a dump of it shows.
--
-- Carries: the law of the table.
use Rattle.std.proofs.Common.{◌≡◌, ℕ, Bool, true, false, List, [], ◌∷◌, Option, None, Some, refl, ap, ◌∙◌, codes, decimal}
use Rattle.std.specs.Prelude.{if◌then◌else◌}
use Rattle.pytree_node.specs.declared.profiles.Version.{Version}
use Rattle.pytree_node.specs.declared.profiles.Version.TheVariants.{Py311, Py312}
use Rattle.pytree_node.specs.declared.profiles.Profile.{Profile}
use Rattle.pytree_node.specs.declared.operators.Comparison.{Comparison}
use Rattle.pytree_node.specs.Profiles.{version_has_types}
use Rattle.pytree_node.specs.Trees
use Rattle.pytree_node.specs.Trees.{Identifier, exprs, stmts}
use Rattle.pytree_node.specs.Values as value
use Rattle.pytree_node.specs.Values.{Value}
use Rattle.pytree_dump_text.specs.Shows as shows
use Rattle.pytree_dump_text.specs.Shows.{Shown, Showns, Fields, Scalar, Row, Node, no_shown, a_shown, no_field, a_field, left_out, word}
use Rattle.pytree_dump_text.specs.Shows.{
  bool_name,
  comparison_name,
  context_name,
  conversion_number,
  operator_name,
  unary_name,
  value_text,
}
use Rattle.pytree_dump_text.specs.Shows.{shown_flag, shown_name, shown_module}
use Rattle.pytree_fields.specs.Things as things
use Rattle.pytree_fields.specs.Things.{module_thing}
use Rattle.pytree_fields.specs.Shown.{shown_of, shown_row, shown_fields, shown_leaf, own_types}

types_show : (v : Version) (ps : List Trees.TypeParam) → shown_fields v (own_types v) (things.type_params_field v ps) ≡
    (if version_has_types v then a_field (codes "type_params") (Row (shown_row v (things.type_param_things ps))) no_field else no_field)
types_show Py311 ps = refl
types_show Py312 ps = refl

constant_shows : (v : Version) (c : Value) → shown_of v (things.expr_thing (Trees.Constant c)) ≡ shows.shown (Trees.Constant c)
constant_shows v value.None = refl
constant_shows v value.Ellipsis = refl
constant_shows v (value.Bool b) = refl
constant_shows v (value.Int n) = refl
constant_shows v (value.Float x) = refl
constant_shows v (value.Imaginary x) = refl
constant_shows v (value.Str points true) = refl
constant_shows v (value.Str points false) = refl
constant_shows v (value.Bytes bytes) = refl

comparisons_show : (v : Version) (cs : List Comparison) → shown_row v (things.comparison_things cs) ≡ shows.shown_comparisons cs
comparisons_show v [] = refl
comparisons_show v (c ∷ cs) = λ i. a_shown (word (comparison_name c)) (comparisons_show v cs i)

names_show : (v : Version) (names : List Identifier) → shown_row v (things.name_things names) ≡ shows.shown_names names
names_show v [] = refl
names_show v (name ∷ names) = λ i. a_shown (shown_name name) (names_show v names i)

mutual
  expr_shows : (v : Version) (e : Trees.Expr) → shown_of v (things.expr_thing e) ≡ shows.shown e
  expr_shows v (Trees.BoolOp op values) = λ i. Node (codes "BoolOp") (a_field (codes "op") (word (bool_name op)) (a_field (codes "values")
      (Row (exprs_show v values i)) no_field))
  expr_shows v (Trees.NamedExpr target value) = λ i. Node (codes "NamedExpr") (a_field (codes "target") (expr_shows v target i) (a_field
      (codes "value") (expr_shows v value i) no_field))
  expr_shows v (Trees.BinOp left op right) = λ i. Node (codes "BinOp") (a_field (codes "left") (expr_shows v left i) (a_field (codes "op")
      (word (operator_name op)) (a_field (codes "right") (expr_shows v right i) no_field)))
  expr_shows v (Trees.UnaryOp op operand) = λ i. Node (codes "UnaryOp") (a_field (codes "op") (word (unary_name op)) (a_field (codes
      "operand") (expr_shows v operand i) no_field))
  expr_shows v (Trees.Lambda args body) = λ i. Node (codes "Lambda") (a_field (codes "args") (arguments_show v args i) (a_field (codes
      "body")
      (expr_shows v body i) no_field))
  expr_shows v (Trees.IfExp test body orelse) = λ i. Node (codes "IfExp") (a_field (codes "test") (expr_shows v test i) (a_field (codes
      "body") (expr_shows v body i) (a_field (codes "orelse") (expr_shows v orelse i) no_field)))
  expr_shows v (Trees.Dict keys values) = λ i. Node (codes "Dict") (a_field (codes "keys") (Row (optionals_show v keys i)) (a_field (codes
      "values") (Row (exprs_show v values i)) no_field))
  expr_shows v (Trees.Set elts) = λ i. Node (codes "Set") (a_field (codes "elts") (Row (exprs_show v elts i)) no_field)
  expr_shows v (Trees.ListComp elt generators) = λ i. Node (codes "ListComp") (a_field (codes "elt") (expr_shows v elt i) (a_field (codes
      "generators") (Row (comprehensions_show v generators i)) no_field))
  expr_shows v (Trees.SetComp elt generators) = λ i. Node (codes "SetComp") (a_field (codes "elt") (expr_shows v elt i) (a_field (codes
      "generators") (Row (comprehensions_show v generators i)) no_field))
  expr_shows v (Trees.DictComp key value generators) = λ i. Node (codes "DictComp") (a_field (codes "key") (expr_shows v key i) (a_field
      (codes "value") (expr_shows v value i) (a_field (codes "generators") (Row (comprehensions_show v generators i)) no_field)))
  expr_shows v (Trees.GeneratorExp elt generators) = λ i. Node (codes "GeneratorExp") (a_field (codes "elt") (expr_shows v elt i) (a_field
      (codes "generators") (Row (comprehensions_show v generators i)) no_field))
  expr_shows v (Trees.Await value) = λ i. Node (codes "Await") (a_field (codes "value") (expr_shows v value i) no_field)
  expr_shows v (Trees.Yield Trees.absent) = λ i. Node (codes "Yield") (left_out no_field)
  expr_shows v (Trees.Yield (Trees.present value)) = λ i. Node (codes "Yield") (a_field (codes "value") (expr_shows v value i) no_field)
  expr_shows v (Trees.YieldFrom value) = λ i. Node (codes "YieldFrom") (a_field (codes "value") (expr_shows v value i) no_field)
  expr_shows v (Trees.Compare left ops comparators) = λ i. Node (codes "Compare") (a_field (codes "left") (expr_shows v left i) (a_field
      (codes "ops") (Row (comparisons_show v ops i)) (a_field (codes "comparators") (Row (exprs_show v comparators i)) no_field)))
  expr_shows v (Trees.Call func args keywords) = λ i. Node (codes "Call") (a_field (codes "func") (expr_shows v func i) (a_field (codes
      "args") (Row (exprs_show v args i)) (a_field (codes "keywords") (Row (keywords_show v keywords i)) no_field)))
  expr_shows v (Trees.FormattedValue value conversion Trees.absent) = λ i. Node (codes "FormattedValue") (a_field (codes "value")
      (expr_shows v value i) (a_field (codes "conversion") (Scalar (conversion_number conversion)) (left_out no_field)))
  expr_shows v (Trees.FormattedValue value conversion (Trees.present format_spec)) = λ i. Node (codes "FormattedValue") (a_field (codes
      "value") (expr_shows v value i) (a_field (codes "conversion") (Scalar (conversion_number conversion)) (a_field (codes "format_spec")
      (expr_shows v format_spec i) no_field)))
  expr_shows v (Trees.JoinedStr values) = λ i. Node (codes "JoinedStr") (a_field (codes "values") (Row (exprs_show v values i)) no_field)
  expr_shows v (Trees.Constant c) = constant_shows v c
  expr_shows v (Trees.Attribute value attr ctx) = λ i. Node (codes "Attribute") (a_field (codes "value") (expr_shows v value i) (a_field
      (codes "attr") (shown_name attr) (a_field (codes "ctx") (word (context_name ctx)) no_field)))
  expr_shows v (Trees.Subscript value slice ctx) = λ i. Node (codes "Subscript") (a_field (codes "value") (expr_shows v value i) (a_field
      (codes "slice") (expr_shows v slice i) (a_field (codes "ctx") (word (context_name ctx)) no_field)))
  expr_shows v (Trees.Starred value ctx) = λ i. Node (codes "Starred") (a_field (codes "value") (expr_shows v value i) (a_field (codes
      "ctx")
      (word (context_name ctx)) no_field))
  expr_shows v (Trees.Name id ctx) = λ i. Node (codes "Name") (a_field (codes "id") (shown_name id) (a_field (codes "ctx") (word
      (context_name ctx)) no_field))
  expr_shows v (Trees.ListOf elts ctx) = λ i. Node (codes "List") (a_field (codes "elts") (Row (exprs_show v elts i)) (a_field (codes
      "ctx")
      (word (context_name ctx)) no_field))
  expr_shows v (Trees.Tuple elts ctx) = λ i. Node (codes "Tuple") (a_field (codes "elts") (Row (exprs_show v elts i)) (a_field (codes
      "ctx")
      (word (context_name ctx)) no_field))
  expr_shows v (Trees.Slice Trees.absent Trees.absent Trees.absent) = λ i. Node (codes "Slice") (left_out (left_out (left_out no_field)))
  expr_shows v (Trees.Slice Trees.absent Trees.absent (Trees.present step)) = λ i. Node (codes "Slice") (left_out (left_out (a_field
      (codes
      "step") (expr_shows v step i) no_field)))
  expr_shows v (Trees.Slice Trees.absent (Trees.present upper) Trees.absent) = λ i. Node (codes "Slice") (left_out (a_field (codes
      "upper")
      (expr_shows v upper i) (left_out no_field)))
  expr_shows v (Trees.Slice Trees.absent (Trees.present upper) (Trees.present step)) = λ i. Node (codes "Slice") (left_out (a_field (codes
      "upper") (expr_shows v upper i) (a_field (codes "step") (expr_shows v step i) no_field)))
  expr_shows v (Trees.Slice (Trees.present lower) Trees.absent Trees.absent) = λ i. Node (codes "Slice") (a_field (codes "lower")
      (expr_shows v lower i) (left_out (left_out no_field)))
  expr_shows v (Trees.Slice (Trees.present lower) Trees.absent (Trees.present step)) = λ i. Node (codes "Slice") (a_field (codes "lower")
      (expr_shows v lower i) (left_out (a_field (codes "step") (expr_shows v step i) no_field)))
  expr_shows v (Trees.Slice (Trees.present lower) (Trees.present upper) Trees.absent) = λ i. Node (codes "Slice") (a_field (codes "lower")
      (expr_shows v lower i) (a_field (codes "upper") (expr_shows v upper i) (left_out no_field)))
  expr_shows v (Trees.Slice (Trees.present lower) (Trees.present upper) (Trees.present step)) = λ i. Node (codes "Slice") (a_field (codes
      "lower") (expr_shows v lower i) (a_field (codes "upper") (expr_shows v upper i) (a_field (codes "step") (expr_shows v step i)
      no_field)))

  exprs_show : (v : Version) (es : Trees.Exprs) → shown_row v (things.expr_things es) ≡ shows.shown_exprs es
  exprs_show v Trees.no_exprs = refl
  exprs_show v (Trees.an_expr e es) = λ i. a_shown (expr_shows v e i) (exprs_show v es i)

  optionals_show : (v : Version) (es : Trees.OptionalExprs) → shown_row v (things.optional_things es) ≡ shows.shown_optionals es
  optionals_show v Trees.no_optional = refl
  optionals_show v (Trees.an_optional Trees.absent es) = λ i. a_shown (Scalar (codes "None")) (optionals_show v es i)
  optionals_show v (Trees.an_optional (Trees.present e) es) = λ i. a_shown (expr_shows v e i) (optionals_show v es i)

  comprehensions_show : (v : Version) (cs : Trees.Comprehensions) → shown_row v (things.comprehension_things cs) ≡
      shows.shown_comprehensions cs
  comprehensions_show v Trees.no_comprehension = refl
  comprehensions_show v (Trees.a_comprehension target iter ifs is_async cs) = λ i. a_shown (Node (codes "comprehension")
      (a_field (codes "target") (expr_shows v target i) (a_field (codes "iter") (expr_shows v iter i)
      (a_field (codes "ifs") (Row (exprs_show v ifs i)) (a_field (codes "is_async") (shown_flag is_async) no_field)))))
      (comprehensions_show v
      cs i)

  keywords_show : (v : Version) (ks : Trees.Keywords) → shown_row v (things.keyword_things ks) ≡ shows.shown_keywords ks
  keywords_show v Trees.no_keyword = refl
  keywords_show v (Trees.a_keyword None value ks) = λ i. a_shown (Node (codes "keyword") (left_out
      (a_field (codes "value") (expr_shows v value i) no_field))) (keywords_show v ks i)
  keywords_show v (Trees.a_keyword (Some name) value ks) = λ i. a_shown (Node (codes "keyword") (a_field (codes "arg") (shown_name name)
      (a_field (codes "value") (expr_shows v value i) no_field))) (keywords_show v ks i)

  arg_shows : (v : Version) (a : Trees.Arg) → shown_of v (things.arg_thing a) ≡ shows.shown_arg a
  arg_shows v (Trees.arg name Trees.absent) = refl
  arg_shows v (Trees.arg name (Trees.present e)) = λ i. Node (codes "arg") (a_field (codes "arg") (shown_name name)
      (a_field (codes "annotation") (expr_shows v e i) (left_out no_field)))

  args_show : (v : Version) (all : Trees.Args) → shown_row v (things.arg_things all) ≡ shows.shown_args all
  args_show v Trees.no_arg = refl
  args_show v (Trees.an_arg a all) = λ i. a_shown (arg_shows v a i) (args_show v all i)

  arguments_show : (v : Version) (a : Trees.Arguments) → shown_of v (things.arguments_thing a) ≡ shows.shown_arguments a
  arguments_show v (Trees.arguments q a Trees.absent_arg o d Trees.absent_arg f) = λ i. Node (codes "arguments") (a_field (codes
      "posonlyargs") (Row (args_show v q i)) (a_field (codes "args") (Row (args_show v a i)) (left_out (a_field (codes "kwonlyargs") (Row
      (args_show v o i)) (a_field (codes "kw_defaults") (Row (optionals_show v d i)) (left_out (a_field (codes "defaults") (Row
      (exprs_show v f
      i)) no_field)))))))
  arguments_show v (Trees.arguments q a Trees.absent_arg o d (Trees.present_arg k) f) = λ i. Node (codes "arguments") (a_field (codes
      "posonlyargs") (Row (args_show v q i)) (a_field (codes "args") (Row (args_show v a i)) (left_out (a_field (codes "kwonlyargs") (Row
      (args_show v o i)) (a_field (codes "kw_defaults") (Row (optionals_show v d i)) (a_field (codes "kwarg") (arg_shows v k i) (a_field
      (codes
      "defaults") (Row (exprs_show v f i)) no_field)))))))
  arguments_show v (Trees.arguments q a (Trees.present_arg w) o d Trees.absent_arg f) = λ i. Node (codes "arguments") (a_field (codes
      "posonlyargs") (Row (args_show v q i)) (a_field (codes "args") (Row (args_show v a i)) (a_field (codes "vararg") (arg_shows v w i)
      (a_field (codes "kwonlyargs") (Row (args_show v o i)) (a_field (codes "kw_defaults") (Row (optionals_show v d i)) (left_out (a_field
      (codes "defaults") (Row (exprs_show v f i)) no_field)))))))
  arguments_show v (Trees.arguments q a (Trees.present_arg w) o d (Trees.present_arg k) f) = λ i. Node (codes "arguments") (a_field (codes
      "posonlyargs") (Row (args_show v q i)) (a_field (codes "args") (Row (args_show v a i)) (a_field (codes "vararg") (arg_shows v w i)
      (a_field (codes "kwonlyargs") (Row (args_show v o i)) (a_field (codes "kw_defaults") (Row (optionals_show v d i)) (a_field (codes
      "kwarg") (arg_shows v k i) (a_field (codes "defaults") (Row (exprs_show v f i)) no_field)))))))

alias_shows : (v : Version) (name : Identifier) (asname : Option Identifier) →
    shown_of v (things.alias_thing (record { name = name; asname = asname })) ≡ shows.shown_alias (record {
      name = name;
      asname = asname;
    })
alias_shows v name None = refl
alias_shows v name (Some other) = refl

aliases_show : (v : Version) (names : List Trees.Alias) → shown_row v (things.alias_things names) ≡ shows.shown_aliases names
aliases_show v [] = refl
aliases_show v (a ∷ names) = λ i. a_shown (alias_shows v a.name a.asname i) (aliases_show v names i)

item_shows : (v : Version) (e : Trees.Expr) (vars : Option Trees.Expr) →
    shown_of v (things.item_thing (record { context_expr = e; optional_vars = vars })) ≡
    shows.shown_item (record { context_expr = e; optional_vars = vars })
item_shows v e None = λ i. Node (codes "withitem") (a_field (codes "context_expr") (expr_shows v e i) (left_out no_field))
item_shows v e (Some vars) = λ i. Node (codes "withitem") (a_field (codes "context_expr") (expr_shows v e i)
    (a_field (codes "optional_vars") (expr_shows v vars i) no_field))

items_show : (v : Version) (items : List Trees.Item) → shown_row v (things.item_things items) ≡ shows.shown_items items
items_show v [] = refl
items_show v (item ∷ items) = λ i. a_shown (item_shows v item.context_expr item.optional_vars i) (items_show v items i)

type_param_shows : (v : Version) (p : Trees.TypeParam) → shown_of v (things.type_param_thing p) ≡ shows.shown_type_param p
type_param_shows v (Trees.TypeVar name None) = refl
type_param_shows v (Trees.TypeVar name (Some bound)) = λ i. Node (codes "TypeVar") (a_field (codes "name") (shown_name name)
    (a_field (codes "bound") (expr_shows v bound i) no_field))
type_param_shows v (Trees.ParamSpec name) = refl
type_param_shows v (Trees.TypeVarTuple name) = refl

type_params_show : (v : Version) (ps : List Trees.TypeParam) → shown_row v (things.type_param_things ps) ≡ shows.shown_type_params ps
type_params_show v [] = refl
type_params_show v (p ∷ ps) = λ i. a_shown (type_param_shows v p i) (type_params_show v ps i)

mutual
  pattern_shows : (v : Version) (p : Trees.Pattern) → shown_of v (things.pattern_thing p) ≡ shows.shown_pattern p
  pattern_shows v (Trees.MatchValue value) = λ i. Node (codes "MatchValue") (a_field (codes "value") (expr_shows v value i) no_field)
  pattern_shows v (Trees.MatchSingleton value) = λ i. Node (codes "MatchSingleton") (a_field (codes "value") (Scalar (value_text value))
      no_field)
  pattern_shows v (Trees.MatchSequence patterns) = λ i. Node (codes "MatchSequence") (a_field (codes "patterns") (Row (patterns_show v
      patterns i)) no_field)
  pattern_shows v (Trees.MatchMapping keys patterns None) = λ i. Node (codes "MatchMapping") (a_field (codes "keys") (Row (exprs_show v
      (exprs
      keys) i)) (a_field (codes "patterns") (Row (patterns_show v patterns i)) (left_out no_field)))
  pattern_shows v (Trees.MatchMapping keys patterns (Some rest)) = λ i. Node (codes "MatchMapping") (a_field (codes "keys") (Row
      (exprs_show v
      (exprs keys) i)) (a_field (codes "patterns") (Row (patterns_show v patterns i)) (a_field (codes "rest") (shown_name rest)
      no_field)))
  pattern_shows v (Trees.MatchClass cls patterns kwd_attrs kwd_patterns) = λ i. Node (codes "MatchClass") (a_field (codes "cls")
      (expr_shows v
      cls i) (a_field (codes "patterns") (Row (patterns_show v patterns i)) (a_field (codes "kwd_attrs") (Row (names_show v kwd_attrs i))
      (a_field (codes "kwd_patterns") (Row (patterns_show v kwd_patterns i)) no_field))))
  pattern_shows v (Trees.MatchStar None) = λ i. Node (codes "MatchStar") (left_out no_field)
  pattern_shows v (Trees.MatchStar (Some name)) = λ i. Node (codes "MatchStar") (a_field (codes "name") (shown_name name) no_field)
  pattern_shows v (Trees.MatchAs Trees.absent_pattern None) = λ i. Node (codes "MatchAs") (left_out (left_out no_field))
  pattern_shows v (Trees.MatchAs Trees.absent_pattern (Some name)) = λ i. Node (codes "MatchAs") (left_out (a_field (codes "name")
      (shown_name name) no_field))
  pattern_shows v (Trees.MatchAs (Trees.present_pattern pattern) None) = λ i. Node (codes "MatchAs") (a_field (codes "pattern")
      (pattern_shows v pattern i) (left_out no_field))
  pattern_shows v (Trees.MatchAs (Trees.present_pattern pattern) (Some name)) = λ i. Node (codes "MatchAs") (a_field (codes "pattern")
      (pattern_shows v pattern i) (a_field (codes "name") (shown_name name) no_field))
  pattern_shows v (Trees.MatchOr patterns) = λ i. Node (codes "MatchOr") (a_field (codes "patterns") (Row (patterns_show v patterns i))
      no_field)

  patterns_show : (v : Version) (ps : Trees.Patterns) → shown_row v (things.pattern_things ps) ≡ shows.shown_patterns ps
  patterns_show v Trees.no_pattern = refl
  patterns_show v (Trees.a_pattern p ps) = λ i. a_shown (pattern_shows v p i) (patterns_show v ps i)

params_show : (p : Profile) (ps : List Trees.TypeParam) → shown_fields p.version (own_types p.version) (things.type_params_field p.version
    ps) ≡
    shows.type_params_field p ps
params_show p ps = types_show p.version ps ∙
    ap (λ z. if version_has_types p.version then a_field (codes "type_params") (Row z) no_field else no_field) (type_params_show p.version
    ps)

mutual
  stmt_shows : (p : Profile) (s : Trees.Stmt) → shown_of p.version (things.stmt_thing p.version s) ≡ shows.shown_stmt p s
  stmt_shows p (Trees.FunctionDef name args body decorator_list None type_params) = λ i. Node (codes "FunctionDef") (a_field (codes
      "name") (shown_name name) (a_field (codes "args") (arguments_show p.version args i) (a_field (codes "body") (Row (stmts_show p body
      i))
      (a_field (codes "decorator_list") (Row (exprs_show p.version (exprs decorator_list) i)) (left_out (left_out (params_show p
      type_params
      i)))))))
  stmt_shows p (Trees.FunctionDef name args body decorator_list (Some returns) type_params) = λ i. Node (codes "FunctionDef") (a_field
      (codes "name") (shown_name name) (a_field (codes "args") (arguments_show p.version args i) (a_field (codes "body") (Row (stmts_show
      p body i))
      (a_field (codes "decorator_list") (Row (exprs_show p.version (exprs decorator_list) i)) (a_field (codes "returns") (expr_shows
      p.version returns i)
      (left_out (params_show p type_params i)))))))
  stmt_shows p (Trees.AsyncFunctionDef name args body decorator_list None type_params) = λ i. Node (codes "AsyncFunctionDef") (a_field
      (codes "name") (shown_name name) (a_field (codes "args") (arguments_show p.version args i) (a_field (codes "body") (Row (stmts_show
      p body i))
      (a_field (codes "decorator_list") (Row (exprs_show p.version (exprs decorator_list) i)) (left_out (left_out (params_show p
      type_params
      i)))))))
  stmt_shows p (Trees.AsyncFunctionDef name args body decorator_list (Some returns) type_params) = λ i. Node (codes "AsyncFunctionDef")
      (a_field (codes "name") (shown_name name) (a_field (codes "args") (arguments_show p.version args i) (a_field (codes "body") (Row
      (stmts_show p
      body i)) (a_field (codes "decorator_list") (Row (exprs_show p.version (exprs decorator_list) i)) (a_field (codes "returns")
      (expr_shows p.version
      returns i) (left_out (params_show p type_params i)))))))
  stmt_shows p (Trees.ClassDef name bases keywords body decorator_list type_params) = λ i. Node (codes "ClassDef") (a_field (codes "name")
      (shown_name name) (a_field (codes "bases") (Row (exprs_show p.version (exprs bases) i)) (a_field (codes "keywords") (Row
      (keywords_show p.version
      keywords i)) (a_field (codes "body") (Row (stmts_show p body i)) (a_field (codes "decorator_list") (Row (exprs_show p.version (exprs
      decorator_list) i)) (params_show p type_params i))))))
  stmt_shows p (Trees.Return None) = λ i. Node (codes "Return") (left_out no_field)
  stmt_shows p (Trees.Return (Some value)) = λ i. Node (codes "Return") (a_field (codes "value") (expr_shows p.version value i) no_field)
  stmt_shows p (Trees.Delete targets) = λ i. Node (codes "Delete") (a_field (codes "targets") (Row (exprs_show p.version (exprs targets)
      i))
      no_field)
  stmt_shows p (Trees.Assign targets value) = λ i. Node (codes "Assign") (a_field (codes "targets") (Row (exprs_show p.version (exprs
      targets) i))
      (a_field (codes "value") (expr_shows p.version value i) (left_out no_field)))
  stmt_shows p (Trees.TypeAlias name type_params value) = λ i. Node (codes "TypeAlias") (a_field (codes "name") (expr_shows p.version name
      i)
      (a_field (codes "type_params") (Row (type_params_show p.version type_params i)) (a_field (codes "value") (expr_shows p.version value
      i) no_field)))
  stmt_shows p (Trees.AugAssign target op value) = λ i. Node (codes "AugAssign") (a_field (codes "target") (expr_shows p.version target i)
      (a_field
      (codes "op") (word (operator_name op)) (a_field (codes "value") (expr_shows p.version value i) no_field)))
  stmt_shows p (Trees.AnnAssign target annotation None simple) = λ i. Node (codes "AnnAssign") (a_field (codes "target") (expr_shows
      p.version
      target i) (a_field (codes "annotation") (expr_shows p.version annotation i) (left_out (a_field (codes "simple") (shown_flag simple)
      no_field))))
  stmt_shows p (Trees.AnnAssign target annotation (Some value) simple) = λ i. Node (codes "AnnAssign") (a_field (codes "target")
      (expr_shows p.version target i) (a_field (codes "annotation") (expr_shows p.version annotation i) (a_field (codes "value")
      (expr_shows p.version value i) (a_field
      (codes "simple") (shown_flag simple) no_field))))
  stmt_shows p (Trees.For target iter body orelse) = λ i. Node (codes "For") (a_field (codes "target") (expr_shows p.version target i)
      (a_field
      (codes "iter") (expr_shows p.version iter i) (a_field (codes "body") (Row (stmts_show p body i)) (a_field (codes "orelse") (Row
      (stmts_show p
      orelse i)) (left_out no_field)))))
  stmt_shows p (Trees.AsyncFor target iter body orelse) = λ i. Node (codes "AsyncFor") (a_field (codes "target") (expr_shows p.version
      target i)
      (a_field (codes "iter") (expr_shows p.version iter i) (a_field (codes "body") (Row (stmts_show p body i)) (a_field (codes "orelse")
      (Row
      (stmts_show p orelse i)) (left_out no_field)))))
  stmt_shows p (Trees.While test body orelse) = λ i. Node (codes "While") (a_field (codes "test") (expr_shows p.version test i) (a_field
      (codes
      "body") (Row (stmts_show p body i)) (a_field (codes "orelse") (Row (stmts_show p orelse i)) no_field)))
  stmt_shows p (Trees.If test body orelse) = λ i. Node (codes "If") (a_field (codes "test") (expr_shows p.version test i) (a_field (codes
      "body")
      (Row (stmts_show p body i)) (a_field (codes "orelse") (Row (stmts_show p orelse i)) no_field)))
  stmt_shows p (Trees.With items body) = λ i. Node (codes "With") (a_field (codes "items") (Row (items_show p.version items i)) (a_field
      (codes
      "body") (Row (stmts_show p body i)) (left_out no_field)))
  stmt_shows p (Trees.AsyncWith items body) = λ i. Node (codes "AsyncWith") (a_field (codes "items") (Row (items_show p.version items i))
      (a_field
      (codes "body") (Row (stmts_show p body i)) (left_out no_field)))
  stmt_shows p (Trees.Match subject cases) = λ i. Node (codes "Match") (a_field (codes "subject") (expr_shows p.version subject i)
      (a_field (codes
      "cases") (Row (cases_show p cases i)) no_field))
  stmt_shows p (Trees.Raise None None) = λ i. Node (codes "Raise") (left_out (left_out no_field))
  stmt_shows p (Trees.Raise None (Some cause)) = λ i. Node (codes "Raise") (left_out (a_field (codes "cause") (expr_shows p.version cause
      i)
      no_field))
  stmt_shows p (Trees.Raise (Some exc) None) = λ i. Node (codes "Raise") (a_field (codes "exc") (expr_shows p.version exc i) (left_out
      no_field))
  stmt_shows p (Trees.Raise (Some exc) (Some cause)) = λ i. Node (codes "Raise") (a_field (codes "exc") (expr_shows p.version exc i)
      (a_field (codes
      "cause") (expr_shows p.version cause i) no_field))
  stmt_shows p (Trees.Try body handlers orelse finalbody) = λ i. Node (codes "Try") (a_field (codes "body") (Row (stmts_show p body i))
      (a_field (codes "handlers") (Row (handlers_show p handlers i)) (a_field (codes "orelse") (Row (stmts_show p orelse i)) (a_field
      (codes "finalbody") (Row (stmts_show p finalbody i)) no_field))))
  stmt_shows p (Trees.TryStar body handlers orelse finalbody) = λ i. Node (codes "TryStar") (a_field (codes "body") (Row (stmts_show p
      body i)) (a_field (codes "handlers") (Row (handlers_show p handlers i)) (a_field (codes "orelse") (Row (stmts_show p orelse i))
      (a_field (codes "finalbody") (Row (stmts_show p finalbody i)) no_field))))
  stmt_shows p (Trees.Assert test None) = λ i. Node (codes "Assert") (a_field (codes "test") (expr_shows p.version test i) (left_out
      no_field))
  stmt_shows p (Trees.Assert test (Some msg)) = λ i. Node (codes "Assert") (a_field (codes "test") (expr_shows p.version test i) (a_field
      (codes
      "msg") (expr_shows p.version msg i) no_field))
  stmt_shows p (Trees.Import names) = λ i. Node (codes "Import") (a_field (codes "names") (Row (aliases_show p.version names i)) no_field)
  stmt_shows p (Trees.ImportFrom None names level) = λ i. Node (codes "ImportFrom") (left_out (a_field (codes "names") (Row (aliases_show
      p.version
      names i)) (a_field (codes "level") (Scalar (decimal level)) no_field)))
  stmt_shows p (Trees.ImportFrom (Some source) names level) = λ i. Node (codes "ImportFrom") (a_field (codes "module") (shown_name source)
      (a_field (codes "names") (Row (aliases_show p.version names i)) (a_field (codes "level") (Scalar (decimal level)) no_field)))
  stmt_shows p (Trees.Global names) = λ i. Node (codes "Global") (a_field (codes "names") (Row (names_show p.version names i)) no_field)
  stmt_shows p (Trees.Nonlocal names) = λ i. Node (codes "Nonlocal") (a_field (codes "names") (Row (names_show p.version names i))
      no_field)
  stmt_shows p (Trees.ExprOf value) = λ i. Node (codes "Expr") (a_field (codes "value") (expr_shows p.version value i) no_field)
  stmt_shows p Trees.Pass = refl
  stmt_shows p Trees.Break = refl
  stmt_shows p Trees.Continue = refl

  stmts_show : (p : Profile) (ss : Trees.Stmts) → shown_row p.version (things.stmt_things p.version ss) ≡ shows.shown_stmts p ss
  stmts_show p Trees.no_stmt = refl
  stmts_show p (Trees.a_stmt s ss) = λ i. a_shown (stmt_shows p s i) (stmts_show p ss i)

  cases_show : (p : Profile) (cs : Trees.Cases) → shown_row p.version (things.case_things p.version cs) ≡ shows.shown_cases p cs
  cases_show p Trees.no_case = refl
  cases_show p (Trees.a_case pattern None body cs) = λ i. a_shown (Node (codes "match_case") (a_field (codes "pattern")
      (pattern_shows p.version pattern i) (left_out (a_field (codes "body") (Row (stmts_show p body i)) no_field)))) (cases_show p cs i)
  cases_show p (Trees.a_case pattern (Some guard) body cs) = λ i. a_shown (Node (codes "match_case") (a_field (codes "pattern")
      (pattern_shows p.version pattern i) (a_field (codes "guard") (expr_shows p.version guard i) (a_field (codes "body") (Row (stmts_show
      p body i))
      no_field))))
      (cases_show p cs i)

  handlers_show : (p : Profile) (hs : Trees.Handlers) → shown_row p.version (things.handler_things p.version hs) ≡ shows.shown_handlers p
      hs
  handlers_show p Trees.no_handler = refl
  handlers_show p (Trees.a_handler None None body hs) = λ i. a_shown (Node (codes "ExceptHandler") (left_out (left_out (a_field (codes
      "body") (Row (stmts_show p body i)) no_field)))) (handlers_show p hs i)
  handlers_show p (Trees.a_handler None (Some name) body hs) = λ i. a_shown (Node (codes "ExceptHandler") (left_out (a_field (codes
      "name") (shown_name name) (a_field (codes "body") (Row (stmts_show p body i)) no_field)))) (handlers_show p hs i)
  handlers_show p (Trees.a_handler (Some caught) None body hs) = λ i. a_shown (Node (codes "ExceptHandler") (a_field (codes "type")
      (expr_shows p.version caught i) (left_out (a_field (codes "body") (Row (stmts_show p body i)) no_field)))) (handlers_show p hs i)
  handlers_show p (Trees.a_handler (Some caught) (Some name) body hs) = λ i. a_shown (Node (codes "ExceptHandler") (a_field (codes "type")
      (expr_shows p.version caught i) (a_field (codes "name") (shown_name name) (a_field (codes "body") (Row (stmts_show p body i))
      no_field))))
      (handlers_show p hs i)

-- what a dump of a module shows is what the module holds
pub module_shows : (p : Profile) (m : Trees.Module) → shown_of p.version (module_thing p.version m) ≡ shown_module p m
module_shows p m = λ i. Node (codes "Module") (a_field (codes "body") (Row (stmts_show p (stmts m.body) i))
    (a_field (codes "type_ignores") (Row no_shown) no_field))
