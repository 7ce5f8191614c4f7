-- Dumps of trees by the definition.
--
-- Carries: no contract; its rows are computed as it is checked.
use Rattle.std.proofs.Common.{◌≡◌, ℕ, List, true, false, [], ◌∷◌, Some, None, refl, codes}
use Rattle.std.specs.Char.{encode_utf8}
use Rattle.std.specs.Fmt.{digits}
use Rattle.pynumber.specs.Decimals.{decimal_text}
use Rattle.ucd_category.proofs.Computing.{ucd_category}
use Rattle.pyfstring.specs.declared.parts.Conversion.TheVariants as conversion
use Rattle.pytree_node.specs.declared.operators.Context.TheVariants as context
use Rattle.pytree_dump_text.specs.declared.styles.Style.{Style}
use Rattle.pytree_node.specs.Profiles.{plain_311, plain_312}
use Rattle.pytree_node.specs.Values as value
use Rattle.pytree_node.specs.Trees
use Rattle.pytree_node.specs.Trees.{Expr, Module}
use Rattle.pytree_dump_text.specs.Shows.{shown, shown_module, shown_arguments}
use Rattle.pytree_dump_text.specs.Layout.{dump_text}

abbrev plain : Style
plain = record { indent = None; names = true; profile = plain_311 }

abbrev bare : Style
bare = record { indent = None; names = false; profile = plain_311 }

abbrev two : Style
two = record { indent = Some 2; names = true; profile = plain_311 }

abbrev flush : Style
flush = record { indent = Some 0; names = true; profile = plain_311 }

abbrev name : List ℕ → Expr
name id = Trees.Name id context.Load

empty_module : dump_text plain (shown_module plain_311 (record { body = [] })) ≡ codes "Module(body=[], type_ignores=[])"
empty_module = refl

-- `pass`
flush_pass : dump_text flush (shown_module plain_311 (record { body = Trees.Pass ∷ [] })) ≡ codes
    "Module(\nbody=[\nPass()],\ntype_ignores=[])"
flush_pass = refl

-- `x: int`
bare_annotation : dump_text bare
    (shown_module plain_311 (record { body = Trees.AnnAssign (Trees.Name (codes "x") context.Store) (name (codes "int")) None true ∷ [] }))
    ≡ codes "Module([AnnAssign(Name('x', Store()), Name('int', Load()), simple=1)], [])"
unfolding ucd_category encode_utf8 digits
bare_annotation = refl

-- `f(a, b=1)`
indented_call : dump_text two (shown_module plain_311 (record {
  body = Trees.ExprOf (Trees.Call (name (codes "f")) (Trees.an_expr (name (codes "a")) Trees.no_exprs)
      (Trees.a_keyword (Some (codes "b")) (Trees.Constant (value.Int 1)) Trees.no_keyword)) ∷ [];
}))
    ≡ codes "Module(\n  body=[\n    Expr(\n      value=Call(\n        func=Name(id='f', ctx=Load()),\n        args=[\n          Name(id='a', ctx=Load())],\n        keywords=[\n          keyword(\n            arg='b',\n            value=Constant(value=1))]))],\n  type_ignores=[])"
unfolding ucd_category encode_utf8 digits decimal_text
indented_call = refl

-- `{**d}`
spread : dump_text plain
    (shown (Trees.Dict (Trees.an_optional Trees.absent Trees.no_optional) (Trees.an_expr (name (codes "d")) Trees.no_exprs)))
    ≡ codes "Dict(keys=[None], values=[Name(id='d', ctx=Load())])"
unfolding ucd_category encode_utf8 digits
spread = refl

bare_spread : dump_text bare
    (shown (Trees.Dict (Trees.an_optional Trees.absent Trees.no_optional) (Trees.an_expr (name (codes "d")) Trees.no_exprs)))
    ≡ codes "Dict([None], [Name('d', Load())])"
unfolding ucd_category encode_utf8 digits
bare_spread = refl

-- `f'a{b!r:>{c}}{d}'`
abbrev formatted : Expr
formatted = Trees.JoinedStr (Trees.an_expr (Trees.Constant (value.Str (codes "a") false))
    (Trees.an_expr (Trees.FormattedValue (name (codes "b")) conversion.Repr (Trees.present (Trees.JoinedStr
    (Trees.an_expr (Trees.Constant (value.Str (codes ">") false))
    (Trees.an_expr (Trees.FormattedValue (name (codes "c")) conversion.None Trees.absent) Trees.no_exprs)))))
    (Trees.an_expr (Trees.FormattedValue (name (codes "d")) conversion.None Trees.absent) Trees.no_exprs)))

plain_formatted : dump_text plain (shown formatted)
    ≡ codes "JoinedStr(values=[Constant(value='a'), FormattedValue(value=Name(id='b', ctx=Load()), conversion=114, format_spec=JoinedStr(values=[Constant(value='>'), FormattedValue(value=Name(id='c', ctx=Load()), conversion=-1)])), FormattedValue(value=Name(id='d', ctx=Load()), conversion=-1)])"
unfolding ucd_category encode_utf8 digits
plain_formatted = refl

bare_formatted : dump_text bare (shown formatted)
    ≡ codes "JoinedStr([Constant('a'), FormattedValue(Name('b', Load()), 114, JoinedStr([Constant('>'), FormattedValue(Name('c', Load()), -1)])), FormattedValue(Name('d', Load()), -1)])"
unfolding ucd_category encode_utf8 digits
bare_formatted = refl

indented_formatted : dump_text two (shown formatted)
    ≡ codes "JoinedStr(\n  values=[\n    Constant(value='a'),\n    FormattedValue(\n      value=Name(id='b', ctx=Load()),\n      conversion=114,\n      format_spec=JoinedStr(\n        values=[\n          Constant(value='>'),\n          FormattedValue(\n            value=Name(id='c', ctx=Load()),\n            conversion=-1)])),\n    FormattedValue(\n      value=Name(id='d', ctx=Load()),\n      conversion=-1)])"
unfolding ucd_category encode_utf8 digits
indented_formatted = refl

-- `f''`, and a field of a `yield` that converts by `str`
indented_empty : dump_text two (shown (Trees.JoinedStr Trees.no_exprs)) ≡ codes "JoinedStr(values=[])"
indented_empty = refl

indented_yield : dump_text two (shown (Trees.FormattedValue (Trees.Yield Trees.absent) conversion.Str Trees.absent)) ≡ codes
    "FormattedValue(value=Yield(), conversion=115)"
indented_yield = refl

-- `a, /, b: int = 1, *, c=2, **d`
parameters : dump_text plain (shown_arguments (Trees.arguments (Trees.an_arg (Trees.arg (codes "a") Trees.absent) Trees.no_arg)
    (Trees.an_arg (Trees.arg (codes "b") (Trees.present (name (codes "int")))) Trees.no_arg) Trees.absent_arg
    (Trees.an_arg (Trees.arg (codes "c") Trees.absent) Trees.no_arg)
    (Trees.an_optional (Trees.present (Trees.Constant (value.Int 2))) Trees.no_optional)
    (Trees.present_arg (Trees.arg (codes "d") Trees.absent)) (Trees.an_expr (Trees.Constant (value.Int 1)) Trees.no_exprs)))
    ≡ codes "arguments(posonlyargs=[arg(arg='a')], args=[arg(arg='b', annotation=Name(id='int', ctx=Load()))], kwonlyargs=[arg(arg='c')], kw_defaults=[Constant(value=2)], kwarg=arg(arg='d'), defaults=[Constant(value=1)])"
unfolding ucd_category encode_utf8 digits decimal_text
parameters = refl

-- `class C[T]: pass`
abbrev generic_class : Module
generic_class = record {
  body = Trees.ClassDef (codes "C") [] Trees.no_keyword (Trees.a_stmt Trees.Pass Trees.no_stmt) []
      (Trees.TypeVar (codes "T") None ∷ []) ∷ [];
}

bare_class : dump_text bare (shown_module plain_312 generic_class) ≡ codes
    "Module([ClassDef('C', [], [], [Pass()], [], [TypeVar('T')])], [])"
unfolding ucd_category encode_utf8 digits
bare_class = refl

-- `def f(): pass`
abbrev definition : Module
definition = record {
  body = Trees.FunctionDef (codes "f") (Trees.arguments Trees.no_arg Trees.no_arg Trees.absent_arg Trees.no_arg Trees.no_optional
      Trees.absent_arg Trees.no_exprs)
      (Trees.a_stmt Trees.Pass Trees.no_stmt) [] None [] ∷ [];
}

plain_definition : dump_text plain (shown_module plain_311 definition)
    ≡ codes "Module(body=[FunctionDef(name='f', args=arguments(posonlyargs=[], args=[], kwonlyargs=[], kw_defaults=[], defaults=[]), body=[Pass()], decorator_list=[])], type_ignores=[])"
unfolding ucd_category encode_utf8 digits
plain_definition = refl

generic_definition : dump_text plain (shown_module plain_312 definition)
    ≡ codes "Module(body=[FunctionDef(name='f', args=arguments(posonlyargs=[], args=[], kwonlyargs=[], kw_defaults=[], defaults=[]), body=[Pass()], decorator_list=[], type_params=[])], type_ignores=[])"
unfolding ucd_category encode_utf8 digits
generic_definition = refl

bare_definition : dump_text bare (shown_module plain_312 definition)
    ≡ codes "Module([FunctionDef('f', arguments([], [], kwonlyargs=[], kw_defaults=[], defaults=[]), [Pass()], [], type_params=[])], [])"
unfolding ucd_category encode_utf8 digits
bare_definition = refl

-- a `match` with `case None`, `case 1 | [a, *_]`, `case {'k': _, **r} if b`, `case A(c, d=_ as e)` and `case _`
abbrev pass : Trees.Stmts
pass = Trees.a_stmt Trees.Pass Trees.no_stmt

abbrev wildcard : Trees.Pattern
wildcard = Trees.MatchAs Trees.absent_pattern None

abbrev capture : List ℕ → Trees.Pattern
capture name = Trees.MatchAs Trees.absent_pattern (Some name)

abbrev matching : Module
matching = record {
  body = Trees.Match (name (codes "x"))
      (Trees.a_case (Trees.MatchSingleton value.None) None pass
      (Trees.a_case (Trees.MatchOr (Trees.a_pattern (Trees.MatchValue (Trees.Constant (value.Int 1)))
      (Trees.a_pattern (Trees.MatchSequence
      (Trees.a_pattern (capture (codes "a")) (Trees.a_pattern (Trees.MatchStar None) Trees.no_pattern))) Trees.no_pattern))) None pass
      (Trees.a_case (Trees.MatchMapping (Trees.Constant (value.Str (codes "k") false) ∷ [])
      (Trees.a_pattern wildcard Trees.no_pattern) (Some (codes "r")))
      (Some (name (codes "b"))) pass
      (Trees.a_case (Trees.MatchClass (name (codes "A")) (Trees.a_pattern (capture (codes "c")) Trees.no_pattern) (codes "d" ∷ [])
      (Trees.a_pattern (Trees.MatchAs (Trees.present_pattern wildcard) (Some (codes "e"))) Trees.no_pattern)) None pass
      (Trees.a_case wildcard None pass Trees.no_case))))) ∷ [];
}

plain_matching : dump_text plain (shown_module plain_311 matching)
    ≡ codes "Module(body=[Match(subject=Name(id='x', ctx=Load()), cases=[match_case(pattern=MatchSingleton(value=None), body=[Pass()]), match_case(pattern=MatchOr(patterns=[MatchValue(value=Constant(value=1)), MatchSequence(patterns=[MatchAs(name='a'), MatchStar()])]), body=[Pass()]), match_case(pattern=MatchMapping(keys=[Constant(value='k')], patterns=[MatchAs()], rest='r'), guard=Name(id='b', ctx=Load()), body=[Pass()]), match_case(pattern=MatchClass(cls=Name(id='A', ctx=Load()), patterns=[MatchAs(name='c')], kwd_attrs=['d'], kwd_patterns=[MatchAs(pattern=MatchAs(), name='e')]), body=[Pass()]), match_case(pattern=MatchAs(), body=[Pass()])])], type_ignores=[])"
unfolding ucd_category encode_utf8 digits decimal_text
plain_matching = refl

bare_matching : dump_text bare (shown_module plain_311 matching)
    ≡ codes "Module([Match(Name('x', Load()), [match_case(MatchSingleton(None), body=[Pass()]), match_case(MatchOr([MatchValue(Constant(1)), MatchSequence([MatchAs(name='a'), MatchStar()])]), body=[Pass()]), match_case(MatchMapping([Constant('k')], [MatchAs()], 'r'), Name('b', Load()), [Pass()]), match_case(MatchClass(Name('A', Load()), [MatchAs(name='c')], ['d'], [MatchAs(MatchAs(), 'e')]), body=[Pass()]), match_case(MatchAs(), body=[Pass()])])], [])"
unfolding ucd_category encode_utf8 digits decimal_text
bare_matching = refl

indented_matching : dump_text two (shown_module plain_311 matching)
    ≡ codes "Module(\n  body=[\n    Match(\n      subject=Name(id='x', ctx=Load()),\n      cases=[\n        match_case(\n          pattern=MatchSingleton(value=None),\n          body=[\n            Pass()]),\n        match_case(\n          pattern=MatchOr(\n            patterns=[\n              MatchValue(\n                value=Constant(value=1)),\n              MatchSequence(\n                patterns=[\n                  MatchAs(name='a'),\n                  MatchStar()])]),\n          body=[\n            Pass()]),\n        match_case(\n          pattern=MatchMapping(\n            keys=[\n              Constant(value='k')],\n            patterns=[\n              MatchAs()],\n            rest='r'),\n          guard=Name(id='b', ctx=Load()),\n          body=[\n            Pass()]),\n        match_case(\n          pattern=MatchClass(\n            cls=Name(id='A', ctx=Load()),\n            patterns=[\n              MatchAs(name='c')],\n            kwd_attrs=[\n              'd'],\n            kwd_patterns=[\n              MatchAs(pattern=MatchAs(), name='e')]),\n          body=[\n            Pass()]),\n        match_case(\n          pattern=MatchAs(),\n          body=[\n            Pass()])])],\n  type_ignores=[])"
unfolding ucd_category encode_utf8 digits decimal_text
indented_matching = refl
