-- Carries: the laws of pieces. On: the pieces of an expression are told apart, close their
-- brackets, and are read as its terminals.
use Rattle.std.proofs.Common.{◌≡◌, ℕ, suc, Bool, true, false, List, [], ◌∷◌, Option, Some, None, refl}
use Rattle.pylex_lexeme.specs.declared.kinds.Exact.TheVariants.{Colon, Star, Equal, DoubleStar}
use Rattle.pytoken.specs.declared.keywords.Keyword.TheVariants as Key
use Rattle.pygrammar.specs.declared.levels.Level.{Level}
use Rattle.pygrammar.specs.declared.levels.Level.TheVariants.{Value, Stars, Named, Expression, Or, Compare, BitOr, Await, Primary, Elem}
use Rattle.pygrammar.specs.declared.levels.Level.TheVariants.{Slices}
use Rattle.pygrammar.specs.declared.levels.Level.TheVariants.{Slice}
use Rattle.pytree_node.specs.declared.operators.Comparison.{Comparison}
use Rattle.pytree_node.specs.Values
use Rattle.pytree_node.specs.Trees
use Rattle.pytree_node.specs.Trees.{Expr, Exprs, no_exprs, an_expr, OptionalExpr, absent, present, OptionalExprs, no_optional, an_optional}
use Rattle.pytree_node.specs.Trees.{Comprehensions, no_comprehension, a_comprehension, Keywords, no_keyword, a_keyword, arg, Args, no_arg}
use Rattle.pytree_node.specs.Trees.{an_arg}
use Rattle.pytree_node.specs.Trees.{OptionalArg, absent_arg, present_arg, Arguments, arguments}
use Rattle.pytoken.specs.Terminals.{Terminal, in_form}
use Rattle.pygrammar.specs.Operators.{below, chain_level, chain_word}
use Rattle.pyunparse_text.specs.Levels.{operator_level, left_level, right_level, unary_level}
use Rattle.pyunparse_text.specs.Written.{free, compared, is_unicode, first_text, elements_after, spec_elements, star_level, some_named}
use Rattle.pyunparse_text.specs.Written.{lone_star}
use Rattle.pyunparse_text.specs.Written.{element_level, lone_generator, trailing, tight, written, each, perhaps, suffixed, alone, by_name}
use Rattle.pyunparse_text.specs.Written.{written_keys, pairs, clauses, conditions, parameters, names, gathered, defaults}
use Rattle.pyunparse_text.specs.Terminals.{terminal}
use Rattle.pyunparse_text.specs.Pieces.{Sited, piece}
use Rattle.pyunparse_text.proofs.PieceLaws.Sound.{HasStrings, is_spec, SoundValues, SoundSpec, Writable, AreWritable, WritableOptional}
use Rattle.pyunparse_text.proofs.PieceLaws.Sound.{WritableOptionals, WritableClauses, WritableKeywords, WritableArgs, WritableArg}
use Rattle.pyunparse_text.proofs.PieceLaws.Sound.{WritableArguments}
use Rattle.pyunparse_text.proofs.PieceLaws.Places.{Place, inside}
use Rattle.pyunparse_text.proofs.PieceLaws.Formatted.{Promised, text, Following, no_field, field, Specified, no_spec, a_spec}
use Rattle.pyunparse_text.proofs.PieceLaws.Shut.{Shut, AllShut, none as nothing_shut, also, shut_separated, is_operand, shut_none, shut_one}
use Rattle.pyunparse_text.proofs.PieceLaws.Shut.{shut_both, shut_fit, shut_outer, shut_group, shut_square, shut_braces, shut_called}
use Rattle.pyunparse_text.proofs.PieceLaws.Shut.{shut_indexed}
use Rattle.pyunparse_text.proofs.PieceLaws.Shut.{below_operand, unary_operand, left_operand, right_operand, shut_unary, shut_binary}
use Rattle.pyunparse_text.proofs.PieceLaws.Shut.{shut_signs}
use Rattle.pyunparse_text.proofs.PieceLaws.Shut.{shut_word, shut_point}
use Rattle.pyunparse_text.proofs.PieceLaws.Fields.{held, held_perhaps, field_read, first_formatted, joined_form, shut_joined, shut_constant}
use Rattle.pyunparse_text.proofs.PieceLaws.Fields.{tuple_bracketed, shut_tuple}
use Rattle.pyunparse_text.proofs.PieceLaws.Sorts.{a_word, starts_plain, starts_item, starts_part, ends_plain, ends_comma, ends_part, starts}
use Rattle.pyunparse_text.proofs.PieceLaws.Sorts.{ends}
use Rattle.pyunparse_text.proofs.PieceLaws.Sorts.{more_item}
use Rattle.pyunparse_text.proofs.PieceLaws.Segments.{Closed, Perhaps, nothing, some, Each, none, more, widen, group, square, braces, called}
use Rattle.pyunparse_text.proofs.PieceLaws.Segments.{indexed}
use Rattle.pyunparse_text.proofs.PieceLaws.Segments.{plainly, loosely, fitted, fitted_yield, fitted_slice}
use Rattle.pyunparse_text.proofs.PieceLaws.Shapes.{keyword, plain_name, constant, yield_form, yield_from_form, double_star, starred_form}
use Rattle.pyunparse_text.proofs.PieceLaws.Shapes.{named_form}
use Rattle.pyunparse_text.proofs.PieceLaws.Shapes.{paired_form, starts_parameter, ends_parameter, lambda_form, if_form, chain_parts}
use Rattle.pyunparse_text.proofs.PieceLaws.Shapes.{chain_form}
use Rattle.pyunparse_text.proofs.PieceLaws.Shapes.{unary_form, binary_form, compare_form, compared_are, attribute_form}
use Rattle.pyunparse_text.proofs.PieceLaws.Listings.{each_both, items_listed, parameters_listed, tuple_form, named_argument, Keys, no_key}
use Rattle.pyunparse_text.proofs.PieceLaws.Listings.{star_key}
use Rattle.pyunparse_text.proofs.PieceLaws.Listings.{a_key, for_form, target_form, plain_tail, slice_form, parameter_form, Maybes, no_maybe}
use Rattle.pyunparse_text.proofs.PieceLaws.Listings.{a_maybe}
use Rattle.pyunparse_text.proofs.PieceLaws.Listings.{beside_are, equals, with_defaults_are, with_slash_are, star_are, inside_plain}
use Rattle.pyunparse_text.proofs.PieceLaws.Listings.{inside_call}
use Rattle.pyunparse_text.proofs.PieceLaws.Listings.{call_after, subscript_after, step_form, annotation_form, default_form}
use Rattle.pyunparse_text.proofs.PieceLaws.Listings.{star_parameter}
use Rattle.pyunparse_text.proofs.PieceLaws.Listings.{stars_parameter, parameters_each}

-- what is proved of an expression at a level
abbrev pub Done : Place → Bool → Level → Expr → Type 0
Done place s l e = Closed place (starts s l) (ends l) (written piece l e) (written terminal l e)

mutual
  unfolding written elements_after spec_elements each perhaps suffixed alone by_name written_keys pairs clauses conditions
      parameters names gathered defaults

  pub readable : {place : Place} → (s : Bool) (l : Level) (e : Expr) → Writable place s e → Done place s l e
  readable s l (Trees.Yield e) h = fitted_yield s l (yield_form (perhaps_stars e h))
  readable s l (Trees.YieldFrom e) h = fitted_yield s l (yield_from_form (readable false Expression e h))
  readable true l (Trees.Starred e c) h = starred_form l (readable false (star_level l) e h.1)
  readable false l (Trees.Starred e c) h = absurd (let z = h.0 in cc)
  readable s l (Trees.NamedExpr t e) h = fitted s l Named (named_form (readable false Primary t h.0) (readable false Expression e h.1))
  readable s l (Trees.Lambda a e) h =
      fitted s l Expression (lambda_form (parameters_listed (parameters_are a h.0)) (readable false Expression e h.1))
  readable s l (Trees.IfExp a b c) h =
      fitted s l Expression (if_form (readable false Or b h.1) (readable false Or a h.0) (readable false Expression c h.2))
  readable s l (Trees.BoolOp o (an_expr e es)) h =
      fitted s l (chain_level o) (chain_form o (chain_parts o (readable false (below (chain_level o)) e h.1.0)) (chain_each o es h.1.1))
  readable s l (Trees.BoolOp o no_exprs) h = absurd h.0
  readable s l (Trees.UnaryOp o e) h = fitted s l (unary_level o) (unary_form o (readable false (unary_level o) e h))
  readable s l (Trees.Compare e os es) h =
      fitted s l Compare (compare_form (readable false BitOr e h.0) (compared_are os (each_plain es h.1)))
  readable s l (Trees.BinOp a o b) h =
      fitted s l (operator_level o) (binary_form o (readable false (left_level o) a h.0) (readable false (right_level o) b h.1))
  readable s l (Trees.Await e) h = fitted s l Await (plain_tail (keyword Key.Await) (some (readable false Primary e h)))
  readable s l (Trees.Attribute e x c) h = fitted s l Primary (attribute_form x h.1 (readable false Primary e h.0))
  readable s l (Trees.Call f es ks) h =
      fitted s l Primary
      (call_after (readable false Primary f h.0)
      (called (inside_call (lone_generator es ks) (alone_is es ks h.1)
      (items_listed (each_both (each_are Named es h.1) (by_name_are ks h.2))))))
  readable s l (Trees.Subscript e i c) h =
      fitted s l Primary (subscript_after (readable false Primary e h.0) (indexed (some (readable false Slices i h.1))))
  readable s l (Trees.Name x c) h = plainly s l (plain_name x h)
  readable s l (Trees.Constant v) h = plainly s l (constant v h)
  readable {place} s l (Trees.JoinedStr es) h =
      plainly s l (joined_form (is_unicode es) (first_text es) h.0 (first_formatted place 0 es h.0 h.1) (after_are place h.0 0 es h.1))
  readable s l (Trees.FormattedValue e c sp) h = absurd h
  readable s l (Trees.Tuple es c) h = tuple_form s l (some_named es) (lone_star es) (each_are (element_level l (some_named es)) es h)
  readable s l (Trees.GeneratorExp e gs) h =
      plainly s l (group (inside_plain (plain_tail (readable false Named e h.0) (clauses_are gs h.1))))
  readable s l (Trees.ListOf es c) h = plainly s l (square (items_listed (each_are Elem es h)))
  readable s l (Trees.ListComp e gs) h = plainly s l (square (inside_plain (plain_tail (readable false Named e h.0) (clauses_are gs h.1))))
  readable s l (Trees.Dict ks es) h = plainly s l (braces (items_listed (pairs_are (keys_are ks h.0) es h.1)))
  readable s l (Trees.DictComp k e gs) h =
      plainly s l
      (braces (inside_plain
      (paired_form (readable false Expression k h.0) (plain_tail (readable false Expression e h.1) (clauses_are gs h.2)))))
  readable s l (Trees.Set es) h = plainly s l (braces (items_listed (each_are Elem es h)))
  readable s l (Trees.SetComp e gs) h = plainly s l (braces (inside_plain (plain_tail (readable false Named e h.0) (clauses_are gs h.1))))
  readable s l (Trees.Slice a b c) h = fitted_slice s l (slice_form (perhaps_any a h.0) (perhaps_any b h.1) (perhaps_step c h.2))

  pub each_are : {place : Place} → (l : Level) (es : Exprs) → AreWritable place true es
      → Each place (starts true l) (ends l) (each piece l es) (each terminal l es)
  each_are l no_exprs h = none
  each_are l (an_expr e es) h = more (readable true l e h.0) (each_are l es h.1)

  each_plain : {place : Place} → (es : Exprs) → AreWritable place false es
      → Each place starts_plain ends_plain (each piece BitOr es) (each terminal BitOr es)
  each_plain no_exprs h = none
  each_plain (an_expr e es) h = more (readable false BitOr e h.0) (each_plain es h.1)

  pub each_expression : {place : Place} → (es : Exprs) → AreWritable place false es
      → Each place starts_plain ends_plain (each piece Expression es) (each terminal Expression es)
  each_expression no_exprs h = none
  each_expression (an_expr e es) h = more (readable false Expression e h.0) (each_expression es h.1)

  chain_each : {place : Place} → (o : _) (es : Exprs) → AreWritable place false es
      → Each place starts_plain ends_plain (each piece (below (chain_level o)) es) (each terminal (below (chain_level o)) es)
  chain_each o no_exprs h = none
  chain_each o (an_expr e es) h = more (chain_parts o (readable false (below (chain_level o)) e h.0)) (chain_each o es h.1)

  perhaps_stars : {place : Place} → (e : OptionalExpr) → WritableOptional place true e
      → Perhaps place starts_item ends_comma (perhaps piece Stars e) (perhaps terminal Stars e)
  perhaps_stars absent h = nothing
  perhaps_stars (present e) h = some (readable true Stars e h)

  perhaps_any : {place : Place} → (e : OptionalExpr) → WritableOptional place false e
      → Perhaps place starts_part ends_part (perhaps piece Expression e) (perhaps terminal Expression e)
  perhaps_any absent h = nothing
  perhaps_any (present e) h = some (loosely (readable false Expression e h))

  perhaps_step : {place : Place} → (e : OptionalExpr) → WritableOptional place false e
      → Perhaps place starts_part ends_part (suffixed piece (tight piece Colon) e) (suffixed terminal (tight terminal Colon) e)
  perhaps_step absent h = nothing
  perhaps_step (present e) h = some (step_form (readable false Expression e h))

  alone_is : {place : Place} → (es : Exprs) (ks : Keywords) → AreWritable place true es → lone_generator es ks ≡ true
      → Perhaps place starts_part ends_part (alone piece es) (alone terminal es)
  alone_is (an_expr (Trees.GeneratorExp e gs) es) ks h p = inside_plain (plain_tail (readable false Named e h.0.0) (clauses_are gs h.0.1))
  alone_is es ks h p = cc

  pub by_name_are : {place : Place} → (ks : Keywords) → WritableKeywords place ks
      → Each place starts_item ends_plain (by_name piece ks) (by_name terminal ks)
  by_name_are no_keyword h = none
  by_name_are (a_keyword None e ks) h = more (double_star (readable false Expression e h.0)) (by_name_are ks h.1)
  by_name_are (a_keyword (Some x) e ks) h = more (named_argument x h.0 (readable false Expression e h.1)) (by_name_are ks h.2)

  clauses_are : {place : Place} → (gs : Comprehensions) → WritableClauses place gs
      → Perhaps place starts_plain ends_plain (clauses piece gs) (clauses terminal gs)
  clauses_are no_comprehension h = nothing
  clauses_are (a_comprehension t e cs b gs) h =
      some (plain_tail (for_form b (target_form (readable true Stars t h.0) (readable false Or e h.1) (conditions_are cs h.2)))
      (clauses_are gs h.3))

  conditions_are : {place : Place} → (es : Exprs) → AreWritable place false es
      → Perhaps place starts_plain ends_plain (conditions piece es) (conditions terminal es)
  conditions_are no_exprs h = nothing
  conditions_are (an_expr e es) h = some (plain_tail (keyword Key.If) (some (plain_tail (readable false Or e h.0) (conditions_are es h.1))))

  keys_are : {place : Place} → (ks : OptionalExprs) → WritableOptionals place ks
      → Keys place (written_keys piece ks) (written_keys terminal ks)
  keys_are no_optional h = no_key
  keys_are (an_optional absent ks) h = star_key (keys_are ks h.1)
  keys_are (an_optional (present k) ks) h = a_key (readable false Expression k h.0) (keys_are ks h.1)

  pairs_are : {place : Place} → {kss : List (Option (List Sited))} {tss : List (Option (List Terminal))} → Keys place kss tss → (es : Exprs)
      → AreWritable place false es → Each place starts_item ends_plain (pairs piece kss es) (pairs terminal tss es)
  pairs_are no_key no_exprs h = none
  pairs_are no_key (an_expr e es) h = none
  pairs_are (star_key ks) no_exprs h = none
  pairs_are (star_key ks) (an_expr e es) h = more (double_star (readable false BitOr e h.0)) (pairs_are ks es h.1)
  pairs_are (a_key k ks) no_exprs h = none
  pairs_are (a_key k ks) (an_expr e es) h =
      more (widen more_item (λ p e. e) (paired_form k (readable false Expression e h.0))) (pairs_are ks es h.1)

  pub parameters_are : {place : Place} → (a : Arguments) → WritableArguments place a
      → Each place starts_parameter ends_parameter (parameters piece a) (parameters terminal a)
  parameters_are (arguments ps qs v ks ds k es) h =
      each_both
      (with_slash_are (names_are ps h.0) (parameters_each (with_defaults_are (each_both (names_are ps h.0) (names_are qs h.1))
      (equals (each_expression es h.6)))))
      (each_both (star_are (gathered_star v h.2) (names_are ks h.3))
      (each_both (parameters_each (beside_are (names_are ks h.3) (defaults_are ds h.4))) (gathered_stars k h.5)))

  names_are : {place : Place} → (ps : Args) → WritableArgs place ps
      → Each place (a_word ∷ []) ends_plain (names piece ps) (names terminal ps)
  names_are no_arg h = none
  names_are (an_arg (arg x a) rest) h = more (parameter_form x h.0 (annotation a h.1)) (names_are rest h.2)

  annotation : {place : Place} → (a : OptionalExpr) → WritableOptional place true a
      → Perhaps place (trailing piece Colon ∷ []) ends_plain (suffixed piece (trailing piece Colon) a)
      (suffixed terminal (trailing terminal Colon) a)
  annotation absent h = nothing
  annotation (present e) h = some (annotation_form (readable true Expression e h))

  gathered_star : {place : Place} → (v : OptionalArg) → WritableArg place v
      → Each place starts_parameter ends_parameter (gathered piece Star v) (gathered terminal Star v)
  gathered_star absent_arg h = none
  gathered_star (present_arg (arg x a)) h = more (star_parameter (parameter_form x h.0 (annotation a h.1))) none

  gathered_stars : {place : Place} → (v : OptionalArg) → WritableArg place v
      → Each place starts_parameter ends_parameter (gathered piece DoubleStar v) (gathered terminal DoubleStar v)
  gathered_stars absent_arg h = none
  gathered_stars (present_arg (arg x a)) h = more (stars_parameter (parameter_form x h.0 (annotation a h.1))) none

  defaults_are : {place : Place} → (ds : OptionalExprs) → WritableOptionals place ds
      → Maybes place (tight piece Equal ∷ []) ends_plain (defaults piece ds) (defaults terminal ds)
  defaults_are no_optional h = no_maybe
  defaults_are (an_optional absent ds) h = a_maybe nothing (defaults_are ds h.1)
  defaults_are (an_optional (present d) ds) h = a_maybe (some (default_form (readable false Expression d h.0))) (defaults_are ds h.1)

  -- ---- F-strings.

  after_are : (place : Place) → HasStrings place.extent place.depth → (n : ℕ) (es : Exprs) → SoundValues place.extent place.depth n es
      → Following (Promised place.depth) place.depth n (elements_after piece (is_spec n) es) (elements_after terminal (is_spec n) es)
  after_are place s n no_exprs h = no_field
  after_are place s n (an_expr (Trees.FormattedValue e c sp) es) h =
      let value = field_read place s (readable {place = inside place} false Or e h.0.1) (shut (inside place) Or refl e h.0.1) in
      field h.0.0 value (spec_is place s n sp h.0.2) (text (first_formatted place n es s h.1) (after_are place s n es h.1))
  after_are place s n (an_expr (Trees.Constant (Values.Str t u)) es) h = after_are place s n es h.1
  after_are place s n (an_expr e es) h = absurd h.0

  spec_is : (place : Place) → HasStrings place.extent place.depth → (n : ℕ) (sp : OptionalExpr)
      → SoundSpec place.extent place.depth (suc n) sp
      → Specified (Promised place.depth) place.depth n (spec_elements piece sp) (spec_elements terminal sp)
  spec_is place s n absent h = no_spec
  spec_is place s n (present (Trees.JoinedStr es)) h =
      a_spec (text (first_formatted place (suc n) es s h) (after_are place s (suc n) es h))
  spec_is place s n (present e) h = absurd h

  -- ---- In fields.

  shut : (place : Place) (l : Level) → is_operand l ≡ true → (e : Expr) → Writable place false e → Shut place.depth (written piece l e)
  shut place l o (Trees.Yield e) h = shut_outer l Value o refl (held (yield_form (perhaps_stars {place = place} e h)))
  shut place l o (Trees.YieldFrom e) h = shut_outer l Value o refl (held (yield_from_form (readable {place = place} false Expression e h)))
  shut place l o (Trees.Starred e c) h = absurd (let z = h.0 in cc)
  shut place l o (Trees.NamedExpr t e) h =
      shut_outer l Named o refl (held (named_form (readable {place = place} false Primary t h.0) (readable false Expression e h.1)))
  shut place l o (Trees.Lambda a e) h =
      shut_outer l Expression o refl
      (held (lambda_form (parameters_listed (parameters_are {place = place} a h.0)) (readable false Expression e h.1)))
  shut place l o (Trees.IfExp a b c) h =
      shut_outer l Expression o refl
      (held (if_form (readable {place = place} false Or b h.1) (readable false Or a h.0) (readable false Expression c h.2)))
  shut place l o (Trees.BoolOp op (an_expr e es)) h =
      shut_fit l (chain_level op)
      (shut_separated (shut_word (chain_word op)) (shut place (below (chain_level op)) (below_operand op) e h.1.0)
      (each_shut place (below (chain_level op)) (below_operand op) es h.1.1))
  shut place l o (Trees.BoolOp op no_exprs) h = absurd h.0
  shut place l o (Trees.UnaryOp op e) h =
      shut_fit l (unary_level op) (shut_both (shut_unary op) (shut place (unary_level op) (unary_operand op) e h))
  shut place l o (Trees.Compare e os es) h = shut_fit l Compare (shut_both (shut place BitOr refl e h.0) (compared_shut place os es h.1))
  shut place l o (Trees.BinOp a op b) h =
      shut_fit l (operator_level op)
      (shut_both (shut place (left_level op) (left_operand op) a h.0)
      (shut_both (shut_binary op) (shut place (right_level op) (right_operand op) b h.1)))
  shut place l o (Trees.Await e) h = shut_fit l Await (shut_both (shut_word Key.Await) (shut place Primary refl e h))
  shut place l o (Trees.Attribute e x c) h =
      shut_fit l Primary (shut_both (shut place Primary refl e h.0)
      (shut_both shut_point (shut_one (free piece (in_form x)) refl refl refl)))
  shut place l o (Trees.Call f es ks) h =
      shut_fit l Primary
      (shut_both (shut place Primary refl f h.0)
      (shut_called (held_perhaps (inside_call {place = place} (lone_generator es ks) (alone_is es ks h.1)
      (items_listed (each_both (each_are Named es h.1) (by_name_are ks h.2)))))))
  shut place l o (Trees.Subscript e i c) h =
      shut_fit l Primary (shut_both (shut place Primary refl e h.0) (shut_indexed (held (readable {place = place} false Slices i h.1))))
  shut place l o (Trees.Name x c) h = shut_one (free piece (in_form x)) refl refl refl
  shut place l o (Trees.Constant v) h = shut_constant v
  shut place l o (Trees.JoinedStr es) h = shut_joined (is_unicode es) (first_text es) (elements_after piece false es)
  shut place l o (Trees.FormattedValue e c sp) h = absurd h
  shut place l o (Trees.Tuple es c) h =
      let w = tuple_bracketed l (some_named es) o in
      let e = w.element in
      let t = w.tuple in
      rw (t, e) (shut_tuple {place = place} (lone_star es) (each_are Elem es h))
  shut place l o (Trees.GeneratorExp e gs) h =
      shut_group (held (plain_tail (readable {place = place} false Named e h.0) (clauses_are gs h.1)))
  shut place l o (Trees.ListOf es c) h = shut_square (held_perhaps (items_listed (each_are {place = place} Elem es h)))
  shut place l o (Trees.ListComp e gs) h = shut_square (held (plain_tail (readable {place = place} false Named e h.0) (clauses_are gs h.1)))
  shut place l o (Trees.Dict ks es) h = shut_braces (held_perhaps (items_listed (pairs_are {place = place} (keys_are ks h.0) es h.1)))
  shut place l o (Trees.DictComp k e gs) h =
      shut_braces
      (held (paired_form (readable {place = place} false Expression k h.0)
      (plain_tail (readable false Expression e h.1) (clauses_are gs h.2))))
  shut place l o (Trees.Set es) h = shut_braces (held_perhaps (items_listed (each_are {place = place} Elem es h)))
  shut place l o (Trees.SetComp e gs) h = shut_braces (held (plain_tail (readable {place = place} false Named e h.0) (clauses_are gs h.1)))
  shut place l o (Trees.Slice a b c) h =
      shut_outer l Slice o refl (held (slice_form (perhaps_any {place = place} a h.0) (perhaps_any b h.1) (perhaps_step c h.2)))

  each_shut : (place : Place) (l : Level) → is_operand l ≡ true → (es : Exprs) → AreWritable place false es
      → AllShut place.depth (each piece l es)
  each_shut place l o no_exprs h = nothing_shut
  each_shut place l o (an_expr e es) h = also (shut place l o e h.0) (each_shut place l o es h.1)

  compared_shut : (place : Place) (os : List Comparison) (es : Exprs) → AreWritable place false es
      → Shut place.depth (compared piece os (each piece BitOr es))
  compared_shut place [] es h = shut_none
  compared_shut place (o ∷ os) no_exprs h = shut_none
  compared_shut place (o ∷ os) (an_expr e es) h =
      shut_both (shut_signs o) (shut_both (shut place BitOr refl e h.0) (compared_shut place os es h.1))
