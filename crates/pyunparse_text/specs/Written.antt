-- The tokens that an expression is written in at a level of the grammar, in as few brackets as its place allows, and how close each token
-- keeps to its neighbours (reference 6 and 10).
use Rattle.std.specs.Prelude.{ℕ, ◌-◌, List, [], ◌∷◌, ◌++◌, map, length, replicate, Option, Some, None, Bool, true, false, ◌||◌}
use Rattle.std.specs.Prelude.{if◌then◌else◌}
use Rattle.pylex_lexeme.specs.declared.kinds.Exact.{Exact}
use Rattle.pylex_lexeme.specs.declared.kinds.Exact.TheVariants.{LPar, RPar, LSqb, RSqb, LBrace, RBrace, Colon, Comma, Star, Slash, Equal}
use Rattle.pylex_lexeme.specs.declared.kinds.Exact.TheVariants.{Dot}
use Rattle.pylex_lexeme.specs.declared.kinds.Exact.TheVariants.{DoubleStar, Ellipsis, ColonEqual}
use Rattle.pytoken.specs.declared.keywords.Keyword.{Keyword}
use Rattle.pytoken.specs.declared.keywords.Keyword.TheVariants as Key
use Rattle.pytree_node.specs.declared.operators.UnaryOperator.{UnaryOperator}
use Rattle.pytree_node.specs.declared.operators.Comparison.{Comparison}
use Rattle.pyfstring.specs.declared.parts.Conversion.{Conversion}
use Rattle.pygrammar.specs.declared.levels.Level.{Level}
use Rattle.pygrammar.specs.declared.levels.Level.TheVariants.{Value, Stars, StarItem, Named, Expression, Or, Compare, BitOr, Await, Primary}
use Rattle.pygrammar.specs.declared.levels.Level.TheVariants.{Elem}
use Rattle.pygrammar.specs.declared.levels.Level.TheVariants.{Slices, Part, Slice, Subject}
use Rattle.pytree_node.specs.Values
use Rattle.pytree_node.specs.Trees
use Rattle.pytree_node.specs.Trees.{Expr, Exprs, no_exprs, an_expr, OptionalExpr, absent, present, OptionalExprs, no_optional, an_optional}
use Rattle.pytree_node.specs.Trees.{Comprehensions, no_comprehension, a_comprehension, Keywords, no_keyword, a_keyword, arg, Args, no_arg}
use Rattle.pytree_node.specs.Trees.{an_arg}
use Rattle.pytree_node.specs.Trees.{OptionalArg, absent_arg, present_arg, Arguments, arguments}
use Rattle.pytoken.specs.Terminals.{Terminal, Op, Word, in_form, Number, Literal}
use Rattle.pygrammar.specs.Operators.{below, chain_level, chain_word}
use Rattle.pyunparse_text.specs.Levels.{reaches, operator_level, left_level, right_level, operator_sign, unary_level, unary_sign}
use Rattle.pyunparse_text.specs.Levels.{comparison_signs}

-- What an f-string is written in, one thing after another: its texts, those of format specs told apart, and its fields, each of which
-- begins with
-- what its expression is written in.
pub data Element (A : Type 0) : Type 0 where
  Text : Bool → List ℕ → Element A
  Field : Conversion → List A → Element A
  Spec : Element A
  End : Element A

-- What is made of a token: of its terminal, and of whether it keeps close to what comes before it, and to what comes after it; and what is
-- made of
-- an f-string. All that follows is said of any such maker: one gives the terminals, for the grammar, another the pieces, with their texts.
pub record Maker (A : Type 0) : Type 0 where
  pub token : Terminal → Bool → Bool → A
  pub formatted : List (Element A) → List A

-- lists, with a token between each two
abbrev pub separated : {A : Type 0} → A → List (List A) → List A
separated t [] = []
separated t (ts ∷ []) = ts
separated t (ts ∷ tss) = ts ++ (t ∷ separated t tss)

-- lists side by side, each joined to its neighbour
abbrev pub beside : {A : Type 0} → List (List A) → List (List A) → List (List A)
beside (ts ∷ tss) (us ∷ uss) = (ts ++ us) ∷ beside tss uss
beside _ _ = []

-- parameters, of which the last ones have the defaults
abbrev pub with_defaults : {A : Type 0} → List (List A) → List (List A) → List (List A)
with_defaults tss ds = beside tss (replicate (length tss - length ds) [] ++ ds)

-- ---- What depends on the place of an expression.

-- what follows a star, by the level of its place; at Named it is an argument, at Expression an annotation
abbrev pub star_level : Level → Level
star_level Part = Expression
star_level Named = Expression
star_level _ = BitOr

abbrev pub some_named : Exprs → Bool
some_named no_exprs = false
some_named (an_expr (Trees.NamedExpr t e) es) = true
some_named (an_expr _ es) = some_named es

abbrev pub lone_star : Exprs → Bool
lone_star (an_expr (Trees.Starred e c) no_exprs) = true
lone_star _ = false

-- The level of a Tuple's elements, by the level of its place, and whether there is a NamedExpr among them. A Tuple is written without
-- brackets as all of Slices and at Subject, and at Value and Stars if there is none; else its elements are those of a display.
abbrev pub element_level : Level → Bool → Level
element_level Slices b = Part
element_level Value false = StarItem
element_level Stars false = StarItem
element_level _ _ = Elem

-- the level by which these elements are joined: those of a subject are those of a display, without its brackets
abbrev pub tuple_level : Level → Bool → Level
tuple_level Subject b = Subject
tuple_level l b = element_level l b

-- a generator that is the only argument of a call has the call's brackets for its own
abbrev pub lone_generator : Exprs → Keywords → Bool
lone_generator (an_expr (Trees.GeneratorExp e gs) no_exprs) no_keyword = true
lone_generator _ _ = false

abbrev pub is_sign : Terminal → Bool
is_sign (Op x) = true
is_sign _ = false

abbrev pub constant_terminal : Values.Value → Terminal
constant_terminal (Values.Int n) = Number (Values.Int n)
constant_terminal (Values.Float x) = Number (Values.Float x)
constant_terminal (Values.Imaginary x) = Number (Values.Imaginary x)
constant_terminal (Values.Bool true) = Word Key.True
constant_terminal (Values.Bool false) = Word Key.False
constant_terminal Values.None = Word Key.None
constant_terminal Values.Ellipsis = Op Ellipsis
constant_terminal v = Literal v

-- ---- F-strings.

-- a text of the kind u is among the values of a JoinedStr, or in the format spec of one of its fields
abbrev mutual
  pub is_unicode : Exprs → Bool
  is_unicode no_exprs = false
  is_unicode (an_expr (Trees.Constant (Values.Str t u)) es) = u || is_unicode es
  is_unicode (an_expr (Trees.FormattedValue e c s) es) = is_unicode_spec s || is_unicode es
  is_unicode (an_expr e es) = is_unicode es

  pub is_unicode_spec : OptionalExpr → Bool
  is_unicode_spec (present (Trees.JoinedStr es)) = is_unicode es
  is_unicode_spec _ = false

-- the text that values begin with, perhaps an empty one
abbrev pub first_text : Exprs → List ℕ
first_text (an_expr (Trees.Constant (Values.Str t u)) es) = t
first_text _ = []

module _ {A : Type 0} (make : Maker A) where
  -- ---- Roles.

  -- a name, a constant, or an operator between two blanks
  abbrev pub free : Terminal → A
  free t = make.token t false false

  -- a keyword
  abbrev pub word : Keyword → A
  word k = free (Word k)

  -- an opening bracket, or a prefix
  abbrev pub leading : Exact → A
  leading x = make.token (Op x) false true

  -- a closing bracket, a comma, or the colon of a header, an annotation or a pair
  abbrev pub trailing : Exact → A
  trailing x = make.token (Op x) true false

  -- the opening bracket of a call or a subscript, the colon of a slice, a point, or the `=` of an argument or a default
  abbrev pub tight : Exact → A
  tight x = make.token (Op x) true true

  -- ---- Lists of tokens.

  abbrev pub enclosed : A → Exact → List A → List A
  enclosed opener closer ts = opener ∷ (ts ++ (trailing closer ∷ []))

  abbrev pub bracketed : List A → List A
  bracketed ts = enclosed (leading LPar) RPar ts

  -- at a level, a form of a level
  unfoldable pub fit : Level → Level → List A → List A
  fit l k ts = if reaches l k then ts else bracketed ts

  -- with commas between
  abbrev pub listed : List (List A) → List A
  listed tss = separated (trailing Comma) tss

  -- one alone is followed by a comma
  abbrev pub with_comma : List (List A) → List A
  with_comma [] = []
  with_comma (ts ∷ tss) = ts ++ (trailing Comma ∷ listed tss)

  -- the elements of a Tuple, joined by a level; whether they are a Starred alone, which as all of Slices needs no comma
  abbrev pub tuple_of : Level → Bool → List (List A) → List A
  tuple_of _ _ [] = bracketed []
  tuple_of Elem _ tss = bracketed (with_comma tss)
  tuple_of Part true tss = listed tss
  tuple_of _ _ tss = with_comma tss

  -- `not` is a word, the others are prefixes
  abbrev pub unary : UnaryOperator → A
  unary o = make.token (unary_sign o) false (is_sign (unary_sign o))

  abbrev pub compared : List Comparison → List (List A) → List A
  compared (o ∷ os) (ts ∷ tss) = map free (comparison_signs o) ++ (ts ++ compared os tss)
  compared _ _ = []

  abbrev pub for_in : Bool → List A → List A
  for_in false ts = word Key.For ∷ ts
  for_in true ts = word Key.Async ∷ (word Key.For ∷ ts)

  -- ---- Parameters.

  abbrev pub after_equal : List A → List A
  after_equal ts = tight Equal ∷ ts

  -- `/` after as many as there are positional ones
  abbrev pub with_slash : List (List A) → List (List A) → List (List A)
  with_slash [] tss = tss
  with_slash (_ ∷ []) (ts ∷ tss) = ts ∷ ((free (Op Slash) ∷ []) ∷ tss)
  with_slash (_ ∷ uss) (ts ∷ tss) = ts ∷ with_slash uss tss
  with_slash _ [] = []

  -- `*` before keyword-only ones, where there is no `*` NAME
  abbrev pub with_star : List (List A) → List (List A) → List (List A)
  with_star [] [] = []
  with_star [] (_ ∷ _) = (leading Star ∷ []) ∷ []
  with_star tss _ = tss

  -- ---- F-strings.

  -- a field: what its expression is written in, and its format spec
  abbrev pub field : Conversion → List A → List (Element A) → List (Element A)
  field c ts spec = Field c ts ∷ (spec ++ (End ∷ []))

  -- An f-string, by the text that it begins with, and what follows that. Where a text in it has the kind u, a literal of that kind stands
  -- in
  -- front of it, with the text that it begins with.
  abbrev pub joined : Bool → List ℕ → List (Element A) → List A
  joined false t following = make.formatted (Text false t ∷ following)
  joined true t following = free (Literal (Values.Str t true)) ∷ make.formatted (Text false [] ∷ following)

  -- ---- Expressions.

  unfoldable mutual
    pub written : Level → Expr → List A
    written l (Trees.Yield e) = fit l Value (word Key.Yield ∷ perhaps Stars e)
    written l (Trees.YieldFrom e) = fit l Value (word Key.Yield ∷ (word Key.From ∷ written Expression e))
    written l (Trees.Starred e c) = leading Star ∷ written (star_level l) e
    written l (Trees.NamedExpr t e) = fit l Named (written Primary t ++ (free (Op ColonEqual) ∷ written Expression e))
    written l (Trees.Lambda a e) = fit l Expression (word Key.Lambda ∷ (listed (parameters a) ++ (trailing Colon ∷ written Expression e)))
    written l (Trees.IfExp a b c) =
        fit l Expression (written Or b ++ (word Key.If ∷ (written Or a ++ (word Key.Else ∷ written Expression c))))
    written l (Trees.BoolOp o es) = fit l (chain_level o) (separated (word (chain_word o)) (each (below (chain_level o)) es))
    written l (Trees.UnaryOp o e) = fit l (unary_level o) (unary o ∷ written (unary_level o) e)
    written l (Trees.Compare e os es) = fit l Compare (written BitOr e ++ compared os (each BitOr es))
    written l (Trees.BinOp a o b) =
        fit l (operator_level o) (written (left_level o) a ++ (free (operator_sign o) ∷ written (right_level o) b))
    written l (Trees.Await e) = fit l Await (word Key.Await ∷ written Primary e)
    written l (Trees.Attribute e x c) = fit l Primary (written Primary e ++ (tight Dot ∷ (free (in_form x) ∷ [])))
    written l (Trees.Call f es ks) =
        fit l Primary
        (written Primary f ++ enclosed (tight LPar) RPar (if lone_generator es ks then alone es else listed (each Named es ++ by_name ks)))
    written l (Trees.Subscript e s c) = fit l Primary (written Primary e ++ enclosed (tight LSqb) RSqb (written Slices s))
    written l (Trees.Name x c) = free (in_form x) ∷ []
    written l (Trees.Constant v) = free (constant_terminal v) ∷ []
    written l (Trees.FormattedValue e c s) = make.formatted (field c (written Or e) (spec_elements s))
    written l (Trees.JoinedStr es) = joined (is_unicode es) (first_text es) (elements_after false es)
    written l (Trees.Tuple es c) = tuple_of (tuple_level l (some_named es)) (lone_star es) (each (element_level l (some_named es)) es)
    written l (Trees.GeneratorExp e gs) = bracketed (written Named e ++ clauses gs)
    written l (Trees.ListOf es c) = enclosed (leading LSqb) RSqb (listed (each Elem es))
    written l (Trees.ListComp e gs) = enclosed (leading LSqb) RSqb (written Named e ++ clauses gs)
    written l (Trees.Dict ks es) = enclosed (leading LBrace) RBrace (listed (pairs (written_keys ks) es))
    written l (Trees.DictComp k e gs) =
        enclosed (leading LBrace) RBrace (written Expression k ++ (trailing Colon ∷ (written Expression e ++ clauses gs)))
    written l (Trees.Set es) = enclosed (leading LBrace) RBrace (listed (each Elem es))
    written l (Trees.SetComp e gs) = enclosed (leading LBrace) RBrace (written Named e ++ clauses gs)
    written l (Trees.Slice a b c) = fit l Slice (perhaps Expression a ++ (tight Colon ∷ (perhaps Expression b ++ suffixed (tight Colon) c)))

    -- what follows a text among the values of a JoinedStr, of an f-string or of the format spec of a field: fields, and after each of them
    -- the text
    -- that follows it, perhaps an empty one
    pub elements_after : Bool → Exprs → List (Element A)
    elements_after b no_exprs = []
    elements_after b (an_expr (Trees.FormattedValue e c s) es) =
        field c (written Or e) (spec_elements s) ++ (Text b (first_text es) ∷ elements_after b es)
    elements_after b (an_expr e es) = elements_after b es

    pub spec_elements : OptionalExpr → List (Element A)
    spec_elements (present (Trees.JoinedStr es)) = Spec ∷ (Text true (first_text es) ∷ elements_after true es)
    spec_elements _ = []

    pub each : Level → Exprs → List (List A)
    each l no_exprs = []
    each l (an_expr e es) = written l e ∷ each l es

    pub perhaps : Level → OptionalExpr → List A
    perhaps l absent = []
    perhaps l (present e) = written l e

    -- a sign and an Expression, or nothing
    pub suffixed : A → OptionalExpr → List A
    suffixed t absent = []
    suffixed t (present e) = t ∷ written Expression e

    -- a generator without brackets of its own
    pub alone : Exprs → List A
    alone (an_expr (Trees.GeneratorExp e gs) _) = written Named e ++ clauses gs
    alone _ = []

    -- arguments by name, and those of `**`
    pub by_name : Keywords → List (List A)
    by_name no_keyword = []
    by_name (a_keyword None e ks) = (leading DoubleStar ∷ written Expression e) ∷ by_name ks
    by_name (a_keyword (Some x) e ks) = (free (in_form x) ∷ (tight Equal ∷ written Expression e)) ∷ by_name ks

    pub written_keys : OptionalExprs → List (Option (List A))
    written_keys no_optional = []
    written_keys (an_optional absent ks) = None ∷ written_keys ks
    written_keys (an_optional (present k) ks) = Some (written Expression k) ∷ written_keys ks

    -- the pairs of a Dict, and those of `**`, which have no key
    pub pairs : List (Option (List A)) → Exprs → List (List A)
    pairs (None ∷ ks) (an_expr e es) = (leading DoubleStar ∷ written BitOr e) ∷ pairs ks es
    pairs (Some ts ∷ ks) (an_expr e es) = (ts ++ (trailing Colon ∷ written Expression e)) ∷ pairs ks es
    pairs _ _ = []

    pub clauses : Comprehensions → List A
    clauses no_comprehension = []
    clauses (a_comprehension t e cs b gs) = for_in b (written Stars t ++ (word Key.In ∷ (written Or e ++ conditions cs))) ++ clauses gs

    pub conditions : Exprs → List A
    conditions no_exprs = []
    conditions (an_expr e es) = word Key.If ∷ (written Or e ++ conditions es)

    pub parameters : Arguments → List (List A)
    parameters (arguments ps qs v ks kds k ds) =
        with_slash (names ps) (with_defaults (names ps ++ names qs) (map after_equal (each Expression ds))) ++
        (with_star (gathered Star v) (names ks) ++ (beside (names ks) (defaults kds) ++ gathered DoubleStar k))

    pub names : Args → List (List A)
    names no_arg = []
    names (an_arg (arg x a) rest) = (free (in_form x) ∷ suffixed (trailing Colon) a) ∷ names rest

    -- `*` NAME or `**` NAME
    pub gathered : Exact → OptionalArg → List (List A)
    gathered s absent_arg = []
    gathered s (present_arg (arg x a)) = (leading s ∷ (free (in_form x) ∷ suffixed (trailing Colon) a)) ∷ []

    pub defaults : OptionalExprs → List (List A)
    defaults no_optional = []
    defaults (an_optional d ds) = suffixed (tight Equal) d ∷ defaults ds
