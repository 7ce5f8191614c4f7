-- Which lists of terminals give which expressions: the table of the grammar, a constructor for each alternative.
use Rattle.std.specs.Prelude.{◌≡◌, ℕ, List, [], ◌∷◌, ◌++◌, map, Option, Some, None, Bool, true, false, cond}
use Rattle.pylex_lexeme.specs.declared.kinds.Exact.{Exact}
use Rattle.pylex_lexeme.specs.declared.kinds.Exact.TheVariants.{LPar, RPar, LSqb, RSqb, LBrace, RBrace, Colon, Comma, Star, Slash, Equal}
use Rattle.pylex_lexeme.specs.declared.kinds.Exact.TheVariants.{Dot, DoubleStar, ColonEqual}
use Rattle.pytoken.specs.declared.keywords.Keyword.TheVariants as Key
use Rattle.pytree_node.specs.declared.operators.Operator.{Operator}
use Rattle.pytree_node.specs.declared.operators.Operator.TheVariants as Bin
use Rattle.pytree_node.specs.declared.operators.UnaryOperator.{UnaryOperator}
use Rattle.pytree_node.specs.declared.operators.BoolOperator.{BoolOperator}
use Rattle.pytree_node.specs.declared.operators.Comparison.{Comparison}
use Rattle.pytree_node.specs.declared.operators.Comparison.TheVariants as Is
use Rattle.pytree_node.specs.declared.operators.Context.TheVariants.{Load, Store}
use Rattle.pygrammar.specs.declared.levels.Level.{Level}
use Rattle.pygrammar.specs.declared.levels.Level.TheVariants.{Value, Stars, StarItem, Named, Expression, Or, Compare, BitOr, Factor, Power}
use Rattle.pygrammar.specs.declared.levels.Level.TheVariants.{Await, Primary, Atom, Elem, Slices, Part, Slice, Subject}
use Rattle.pytree_node.specs.Trees
use Rattle.pytree_node.specs.Trees.{Expr, no_exprs, an_expr, OptionalExpr, absent, present, arg, Arguments, exprs}
use Rattle.pytree_node.specs.Trees.{Comprehension, comprehensions}
use Rattle.pytree_node.specs.Values
use Rattle.pyfstring.specs.declared.parts.Conversion.{Conversion}
use Rattle.pytoken.specs.Terminals.{Terminal, Spelled, Op, Word, Ident, Number, Literal, FormattedBegin, FormattedEnd, FormattedText}
use Rattle.pytoken.specs.Terminals.{FieldBegin, SpecBegin, FieldEnd}
use Rattle.pygrammar.specs.Operators.{below, left_operator, prefix_operator, chain_level, chain_word, comparison}
use Rattle.pygrammar.specs.Constants.{constant_word, joined}
use Rattle.pygrammar.specs.FormattedStrings.{StringPart, Text, Field, merged, values_of, spec_values_of, begins_unicode, has_formatted}
use Rattle.pygrammar.specs.Entries.{Item, Of, Pair, Argument, Parameter, Entry, Single, Paired, Spread, Doubled, Keyed, Plain, Slashed}
use Rattle.pygrammar.specs.Entries.{Bare, Gathered, Collected, singles, keys, values}
use Rattle.pygrammar.specs.Arguments.{called}
use Rattle.pygrammar.specs.Parameters.{arranged}
use Rattle.pygrammar.specs.Targets.{stored, deleted, single_stored}

-- a comparison
pub data Compared : List Terminal → Comparison → Type 0 where
  one_sign : {t : Terminal} {o : Comparison} → comparison t ≡ Some o → Compared (t ∷ []) o
  not_in : Compared (Word Key.Not ∷ (Word Key.In ∷ [])) Is.NotIn
  is : Compared (Word Key.Is ∷ []) Is.Is
  is_not : Compared (Word Key.Is ∷ (Word Key.Not ∷ [])) Is.IsNot

-- Where a token list is joined from parts the parts' lists are ts, us, vs, in this order.
mutual
  pub data Derives : Level → List Terminal → Expr → Type 0 where
    -- the last alternative of each line but Atom: the next level
    next : {l : Level} {ts : List Terminal} {e : Expr} → Derives (below l) ts e → Derives l ts e
    -- Value = "yield" "from" Expression | "yield" [Stars]
    yields : {ts : List Terminal} {e : Expr} → Yields ts e → Derives Value (Word Key.Yield ∷ ts) e
    -- Stars = StarItem "," | StarItem ("," StarItem)+ [,]
    star_tuple : {ts us : List Terminal} {e : Expr} {es : List Entry}
        → Derives StarItem ts e → Listing (Of StarItem) us es
        → Derives Stars (ts ++ (Op Comma ∷ us)) (Trees.Tuple (an_expr e (singles es)) Load)
    -- StarItem = "*" BitOr
    star_item : {ts : List Terminal} {e : Expr}
        → Derives BitOr ts e
        → Derives StarItem (Op Star ∷ ts) (Trees.Starred e Load)
    -- Named = NAME ":=" Expression
    named : {x : Spelled} {ts : List Terminal} {e : Expr}
        → Derives Expression ts e
        → Derives Named (Ident x ∷ (Op ColonEqual ∷ ts)) (Trees.NamedExpr (Trees.Name x.form Store) e)
    -- Expression = "lambda" [Params] ":" Expression
    lambda : {ts us : List Terminal} {ps : List Entry} {a : Arguments} {e : Expr}
        → Listing (Parameter false) ts ps → arranged ps ≡ Some a → Derives Expression us e
        → Derives Expression (Word Key.Lambda ∷ (ts ++ (Op Colon ∷ us))) (Trees.Lambda a e)
    -- Expression = Or "if" Or "else" Expression
    if_else : {ts us vs : List Terminal} {a b c : Expr}
        → Derives Or ts b → Derives Or us a → Derives Expression vs c
        → Derives Expression (ts ++ (Word Key.If ∷ (us ++ (Word Key.Else ∷ vs)))) (Trees.IfExp a b c)
    -- Or = And ("or" And)+; And = Not ("and" Not)+
    chain : {o : BoolOperator} {ts us : List Terminal} {e : Expr} {es : List Expr}
        → Derives (below (chain_level o)) ts e → Chain o us es
        → Derives (chain_level o) (ts ++ (Word (chain_word o) ∷ us)) (Trees.BoolOp o (exprs (e ∷ es)))
    -- Not = "not" Not; Factor = ("+" | "-" | "~") Factor
    unary : {l : Level} {t : Terminal} {o : UnaryOperator} {ts : List Terminal} {e : Expr}
        → prefix_operator l t ≡ Some o → Derives l ts e
        → Derives l (t ∷ ts) (Trees.UnaryOp o e)
    -- Compare = BitOr (comparison BitOr)+
    compare : {ts us : List Terminal} {e : Expr} {os : List Comparison} {es : List Expr}
        → Derives BitOr ts e → Compares us os es
        → Derives Compare (ts ++ us) (Trees.Compare e os (exprs es))
    -- BitOr = BitOr "|" BitXor; BitXor = BitXor "^" BitAnd; BitAnd = BitAnd "&" Shift; Shift = Shift ("<<" | ">>") Sum;
    -- Sum = Sum ("+" | "-") Term; Term = Term ("*" | "/" | "//" | "%" | "@") Factor
    binary : {l : Level} {ts us : List Terminal} {a b : Expr} {o : Operator} (t : Terminal)
        → left_operator l t ≡ Some o → Derives l ts a → Derives (below l) us b
        → Derives l (ts ++ (t ∷ us)) (Trees.BinOp a o b)
    -- Power = Await "**" Factor
    power : {ts us : List Terminal} {a b : Expr}
        → Derives Await ts a → Derives Factor us b
        → Derives Power (ts ++ (Op DoubleStar ∷ us)) (Trees.BinOp a Bin.Pow b)
    -- Await = "await" Primary
    await : {ts : List Terminal} {e : Expr} → Derives Primary ts e → Derives Await (Word Key.Await ∷ ts) (Trees.Await e)
    -- Primary = Primary "." NAME
    attribute : {ts : List Terminal} {e : Expr} (x : Spelled)
        → Derives Primary ts e
        → Derives Primary (ts ++ (Op Dot ∷ (Ident x ∷ []))) (Trees.Attribute e x.form Load)
    -- Primary = Primary "(" [Args] ")"
    call : {ts us : List Terminal} {f e : Expr} {es : List Entry}
        → Derives Primary ts f → Listing Argument us es → called f es ≡ Some e
        → Derives Primary (ts ++ (Op LPar ∷ (us ++ (Op RPar ∷ [])))) e
    -- Primary = Primary "(" Named Comp+ ")"
    call_generator : {ts us vs : List Terminal} {f e : Expr} {gs : List Comprehension}
        → Derives Primary ts f → Derives Named us e → Comps vs gs
        → Derives Primary (ts ++ (Op LPar ∷ (us ++ (vs ++ (Op RPar ∷ [])))))
        (Trees.Call f (an_expr (Trees.GeneratorExp e (comprehensions gs)) no_exprs) Trees.no_keyword)
    -- Primary = Primary "[" Slices "]"
    subscript : {ts us : List Terminal} {e s : Expr}
        → Derives Primary ts e → Derives Slices us s
        → Derives Primary (ts ++ (Op LSqb ∷ (us ++ (Op RSqb ∷ [])))) (Trees.Subscript e s Load)
    -- Atom = NAME
    name : {x : Spelled} → Derives Atom (Ident x ∷ []) (Trees.Name x.form Load)
    -- Atom = "None" | "True" | "False" | "..."
    constant : {t : Terminal} {v : Values.Value} → constant_word t ≡ Some v → Derives Atom (t ∷ []) (Trees.Constant v)
    -- Atom = NUMBER
    number : {v : Values.Value} → Derives Atom (Number v ∷ []) (Trees.Constant v)
    -- Atom = STRING+
    strings : {v w : Values.Value} (vs : List Values.Value)
        → joined v vs ≡ Some w
        → Derives Atom (Literal v ∷ map Literal vs) (Trees.Constant w)
    -- Atom = (STRING | f_string)+, with one f_string at least
    joined_string : {u : Bool} {ts : List Terminal} {ps : List StringPart}
        → Literals u ts ps → begins_unicode ts ≡ u → has_formatted ts ≡ true
        → Derives Atom ts (Trees.JoinedStr (values_of u (merged ps)))
    -- Atom = "(" Named ")": no node of its own
    group : {ts : List Terminal} {e : Expr} → Derives Named ts e → Derives Atom (Op LPar ∷ (ts ++ (Op RPar ∷ []))) e
    -- Atom = "(" yield form of Value ")"
    yield_group : {ts : List Terminal} {e : Expr}
        → Yields ts e
        → Derives Atom (Op LPar ∷ (Word Key.Yield ∷ (ts ++ (Op RPar ∷ [])))) e
    -- Atom = "(" ")"
    empty_tuple : Derives Atom (Op LPar ∷ (Op RPar ∷ [])) (Trees.Tuple no_exprs Load)
    -- Atom = "(" Elem "," ")" | "(" Elem ("," Elem)+ [,] ")"
    tuple : {ts us : List Terminal} {e : Expr} {es : List Entry}
        → Derives Elem ts e → Listing (Of Elem) us es
        → Derives Atom (Op LPar ∷ (ts ++ (Op Comma ∷ (us ++ (Op RPar ∷ []))))) (Trees.Tuple (an_expr e (singles es)) Load)
    -- Atom = "(" Named Comp+ ")"
    generator_group : {ts us : List Terminal} {e : Expr} {gs : List Comprehension}
        → Derives Named ts e → Comps us gs
        → Derives Atom (Op LPar ∷ (ts ++ (us ++ (Op RPar ∷ [])))) (Trees.GeneratorExp e (comprehensions gs))
    -- Atom = "[" "]" | "[" Elem,.. [,] "]"
    list : {ts : List Terminal} {es : List Entry}
        → Listing (Of Elem) ts es
        → Derives Atom (Op LSqb ∷ (ts ++ (Op RSqb ∷ []))) (Trees.ListOf (singles es) Load)
    -- Atom = "[" Named Comp+ "]"
    list_comp : {ts us : List Terminal} {e : Expr} {gs : List Comprehension}
        → Derives Named ts e → Comps us gs
        → Derives Atom (Op LSqb ∷ (ts ++ (us ++ (Op RSqb ∷ [])))) (Trees.ListComp e (comprehensions gs))
    -- Atom = "{" "}" | "{" Pair,.. [,] "}"
    dict : {ts : List Terminal} {es : List Entry}
        → Listing Pair ts es
        → Derives Atom (Op LBrace ∷ (ts ++ (Op RBrace ∷ []))) (Trees.Dict (keys es) (values es))
    -- Atom = "{" Expression ":" Expression Comp+ "}"
    dict_comp : {ts us vs : List Terminal} {k e : Expr} {gs : List Comprehension}
        → Derives Expression ts k → Derives Expression us e → Comps vs gs
        → Derives Atom (Op LBrace ∷ (ts ++ (Op Colon ∷ (us ++ (vs ++ (Op RBrace ∷ [])))))) (Trees.DictComp k e (comprehensions gs))
    -- Atom = "{" Elem,.. [,] "}"
    set : {ts : List Terminal} {e : Entry} {es : List Entry}
        → Listing (Of Elem) ts (e ∷ es)
        → Derives Atom (Op LBrace ∷ (ts ++ (Op RBrace ∷ []))) (Trees.Set (singles (e ∷ es)))
    -- Atom = "{" Named Comp+ "}"
    set_comp : {ts us : List Terminal} {e : Expr} {gs : List Comprehension}
        → Derives Named ts e → Comps us gs
        → Derives Atom (Op LBrace ∷ (ts ++ (us ++ (Op RBrace ∷ [])))) (Trees.SetComp e (comprehensions gs))
    -- Subject = Elem "," | Elem ("," Elem)+ [,]
    subject_tuple : {ts us : List Terminal} {e : Expr} {es : List Entry}
        → Derives Elem ts e → Listing (Of Elem) us es
        → Derives Subject (ts ++ (Op Comma ∷ us)) (Trees.Tuple (an_expr e (singles es)) Load)
    -- Elem = "*" BitOr
    star_elem : {ts : List Terminal} {e : Expr}
        → Derives BitOr ts e
        → Derives Elem (Op Star ∷ ts) (Trees.Starred e Load)
    -- Slices = "*" Expression: one Part alone, that is no Slice
    star_slices : {ts : List Terminal} {e : Expr}
        → Derives Expression ts e
        → Derives Slices (Op Star ∷ ts) (Trees.Tuple (an_expr (Trees.Starred e Load) no_exprs) Load)
    -- Slices = Part "," | Part ("," Part)+ [,]
    parts : {ts us : List Terminal} {e : Expr} {es : List Entry}
        → Derives Part ts e → Listing (Of Part) us es
        → Derives Slices (ts ++ (Op Comma ∷ us)) (Trees.Tuple (an_expr e (singles es)) Load)
    -- Part = "*" Expression
    star_part : {ts : List Terminal} {e : Expr}
        → Derives Expression ts e
        → Derives Part (Op Star ∷ ts) (Trees.Starred e Load)
    -- Slice = [Expression] ":" [Expression]
    slice : {ts us : List Terminal} {a b : OptionalExpr}
        → Perhaps Expression ts a → Perhaps Expression us b
        → Derives Slice (ts ++ (Op Colon ∷ us)) (Trees.Slice a b absent)
    -- Slice = [Expression] ":" [Expression] ":" [Expression]
    slice_step : {ts us vs : List Terminal} {a b c : OptionalExpr}
        → Perhaps Expression ts a → Perhaps Expression us b → Perhaps Expression vs c
        → Derives Slice (ts ++ (Op Colon ∷ (us ++ (Op Colon ∷ vs)))) (Trees.Slice a b c)

  -- the yield forms of Value, after the word
  pub data Yields : List Terminal → Expr → Type 0 where
    -- "from" Expression
    yield_from : {ts : List Terminal} {e : Expr}
        → Derives Expression ts e
        → Yields (Word Key.From ∷ ts) (Trees.YieldFrom e)
    -- [Stars]
    yield_some : {ts : List Terminal} {e : OptionalExpr} → Perhaps Stars ts e → Yields ts (Trees.Yield e)

  -- [X]
  pub data Perhaps : Level → List Terminal → OptionalExpr → Type 0 where
    nothing : {l : Level} → Perhaps l [] absent
    something : {l : Level} {ts : List Terminal} {e : Expr} → Derives l ts e → Perhaps l ts (present e)

  -- [a sign and an Expression]
  pub data Suffix : Option Exact → List Terminal → OptionalExpr → Type 0 where
    no_suffix : {s : Option Exact} → Suffix s [] absent
    suffix : {x : Exact} {ts : List Terminal} {e : Expr}
        → Derives Expression ts e
        → Suffix (Some x) (Op x ∷ ts) (present e)

  -- X (word X)*, after a word
  pub data Chain : BoolOperator → List Terminal → List Expr → Type 0 where
    last_link : {o : BoolOperator} {ts : List Terminal} {e : Expr}
        → Derives (below (chain_level o)) ts e
        → Chain o ts (e ∷ [])
    link : {o : BoolOperator} {ts us : List Terminal} {e : Expr} {es : List Expr}
        → Derives (below (chain_level o)) ts e → Chain o us es
        → Chain o (ts ++ (Word (chain_word o) ∷ us)) (e ∷ es)

  -- (comparison BitOr)+
  pub data Compares : List Terminal → List Comparison → List Expr → Type 0 where
    last_compare : {ss ts : List Terminal} {o : Comparison} {e : Expr}
        → Compared ss o → Derives BitOr ts e
        → Compares (ss ++ ts) (o ∷ []) (e ∷ [])
    compares : {ss ts us : List Terminal} {o : Comparison} {e : Expr} {os : List Comparison} {es : List Expr}
        → Compared ss o → Derives BitOr ts e → Compares us os es
        → Compares (ss ++ (ts ++ us)) (o ∷ os) (e ∷ es)

  -- (STRING | f_string)*, none of which is bytes; the first has kind u or not
  pub data Literals : Bool → List Terminal → List StringPart → Type 0 where
    no_literal : {u : Bool} → Literals u [] []
    text_literal : {u : Bool} {ts : List Terminal} {ps : List StringPart} {t : List ℕ} {k : Bool}
        → Literals u ts ps
        → Literals u (Literal (Values.Str t k) ∷ ts) (Text t ∷ ps)
    formatted_literal : {u : Bool} {ts us : List Terminal} {ps qs : List StringPart}
        → Formatted u ts ps → Literals u us qs
        → Literals u (FormattedBegin ∷ (ts ++ (FormattedEnd ∷ us))) (ps ++ qs)

  -- f_string = (text | replacement_field)*; format_spec = (text | replacement_field)*
  pub data Formatted : Bool → List Terminal → List StringPart → Type 0 where
    no_part : {u : Bool} → Formatted u [] []
    text_part : {u : Bool} {ts : List Terminal} {ps : List StringPart} {t : List ℕ}
        → Formatted u ts ps
        → Formatted u (FormattedText t ∷ ts) (Text t ∷ ps)
    -- replacement_field = "{" expression ["!" conversion] [":" format_spec] "}", the expression as if in round brackets
    field_part : {u : Bool} {c : Conversion} {ts us vs : List Terminal} {e : Expr} {s : OptionalExpr} {ps : List StringPart}
        → Derives Atom (Op LPar ∷ ts) e → Spec u us s → Formatted u vs ps
        → Formatted u (FieldBegin c ∷ (Op LPar ∷ (ts ++ (us ++ (FieldEnd ∷ vs))))) (Field (Trees.FormattedValue e c s) ∷ ps)

  -- [":" format_spec]
  pub data Spec : Bool → List Terminal → OptionalExpr → Type 0 where
    no_spec : {u : Bool} → Spec u [] absent
    spec : {u : Bool} {ts : List Terminal} {ps : List StringPart}
        → Formatted u ts ps
        → Spec u (SpecBegin ∷ ts) (present (Trees.JoinedStr (spec_values_of u (merged ps))))

  -- X,.. [,] or nothing
  pub data Listing : Item → List Terminal → List Entry → Type 0 where
    no_item : {i : Item} → Listing i [] []
    last_item : {i : Item} {ts : List Terminal} {e : Entry} → Piece i ts e → Listing i ts (e ∷ [])
    item : {i : Item} {ts us : List Terminal} {e : Entry} {es : List Entry}
        → Piece i ts e → Listing i us es
        → Listing i (ts ++ (Op Comma ∷ us)) (e ∷ es)

  -- X
  pub data Piece : Item → List Terminal → Entry → Type 0 where
    single : {l : Level} {ts : List Terminal} {e : Expr} → Derives l ts e → Piece (Of l) ts (Single e)
    -- Pair = Expression ":" Expression
    pair : {ts us : List Terminal} {k e : Expr}
        → Derives Expression ts k → Derives Expression us e
        → Piece Pair (ts ++ (Op Colon ∷ us)) (Paired k e)
    -- Pair = "**" BitOr
    pairs_of : {ts : List Terminal} {e : Expr} → Derives BitOr ts e → Piece Pair (Op DoubleStar ∷ ts) (Doubled e)
    -- Args: Named
    argument : {ts : List Terminal} {e : Expr} → Derives Named ts e → Piece Argument ts (Single e)
    -- Args: "*" Expression
    star_argument : {ts : List Terminal} {e : Expr} → Derives Expression ts e → Piece Argument (Op Star ∷ ts) (Spread e)
    -- Args: NAME "=" Expression
    keyword_argument : {x : Spelled} {ts : List Terminal} {e : Expr}
        → Derives Expression ts e
        → Piece Argument (Ident x ∷ (Op Equal ∷ ts)) (Keyed x.form e)
    -- Args: "**" Expression
    double_argument : {ts : List Terminal} {e : Expr}
        → Derives Expression ts e
        → Piece Argument (Op DoubleStar ∷ ts) (Doubled e)
    -- Params: NAME [":" Expression] ["=" Expression]; in a lambda there are no annotations
    parameter : {b : Bool} {x : Spelled} {ts us : List Terminal} {a d : OptionalExpr}
        → Suffix (cond b (Some Colon) None) ts a → Suffix (Some Equal) us d
        → Piece (Parameter b) (Ident x ∷ (ts ++ us)) (Plain (arg x.form a) d)
    -- Params: "/"
    slash : {b : Bool} → Piece (Parameter b) (Op Slash ∷ []) Slashed
    -- Params: "*"
    bare_star : {b : Bool} → Piece (Parameter b) (Op Star ∷ []) Bare
    -- Params: "*" NAME [":" Expression]
    star_parameter : {b : Bool} {x : Spelled} {ts : List Terminal} {a : OptionalExpr}
        → Suffix (cond b (Some Colon) None) ts a
        → Piece (Parameter b) (Op Star ∷ (Ident x ∷ ts)) (Gathered (arg x.form a))
    -- Params: "*" NAME ":" "*" BitOr
    star_annotation : {x : Spelled} {ts : List Terminal} {e : Expr}
        → Derives BitOr ts e
        → Piece (Parameter true) (Op Star ∷ (Ident x ∷ (Op Colon ∷ (Op Star ∷ ts))))
        (Gathered (arg x.form (present (Trees.Starred e Load))))
    -- Params: "**" NAME [":" Expression]
    double_parameter : {b : Bool} {x : Spelled} {ts : List Terminal} {a : OptionalExpr}
        → Suffix (cond b (Some Colon) None) ts a
        → Piece (Parameter b) (Op DoubleStar ∷ (Ident x ∷ ts)) (Collected (arg x.form a))

  -- Comp+
  pub data Comps : List Terminal → List Comprehension → Type 0 where
    one_comp : {ts : List Terminal} {g : Comprehension} → Comp ts g → Comps ts (g ∷ [])
    comps : {ts us : List Terminal} {g : Comprehension} {gs : List Comprehension}
        → Comp ts g → Comps us gs
        → Comps (ts ++ us) (g ∷ gs)

  -- Comp = ["async"] "for" Target "in" Or ("if" Or)*
  pub data Comp : List Terminal → Comprehension → Type 0 where
    -- Comp = "for" Target "in" Or ("if" Or)*
    for_in : {ts : List Terminal} {g : Comprehension} → ForIn false ts g → Comp (Word Key.For ∷ ts) g
    -- Comp = "async" "for" Target "in" Or ("if" Or)*
    async_for_in : {ts : List Terminal} {g : Comprehension}
        → ForIn true ts g
        → Comp (Word Key.Async ∷ (Word Key.For ∷ ts)) g

  pub data ForIn : Bool → List Terminal → Comprehension → Type 0 where
    target_in : {b : Bool} {ts us vs : List Terminal} {t s e : Expr} {cs : List Expr}
        → Derives Stars ts t → stored t ≡ Some s → Derives Or us e → Ifs vs cs
        → ForIn b (ts ++ (Word Key.In ∷ (us ++ vs))) (record { target = s; iter = e; ifs = cs; is_async = b })

  pub data Ifs : List Terminal → List Expr → Type 0 where
    no_if : Ifs [] []
    if_one : {ts us : List Terminal} {e : Expr} {es : List Expr}
        → Derives Or ts e → Ifs us es
        → Ifs (Word Key.If ∷ (ts ++ us)) (e ∷ es)

-- targets, for the forms of a line
pub data Target : List Terminal → Expr → Type 0 where
  target : {ts : List Terminal} {e s : Expr} → Derives Stars ts e → stored e ≡ Some s → Target ts s

pub data SingleTarget : List Terminal → Expr → Type 0 where
  single_target : {ts : List Terminal} {e s : Expr} → Derives Primary ts e → single_stored e ≡ Some s → SingleTarget ts s

pub data DelTarget : List Terminal → Expr → Type 0 where
  del_target : {ts : List Terminal} {e s : Expr} → Derives Expression ts e → deleted e ≡ Some s → DelTarget ts s

pub data ItemTarget : List Terminal → Expr → Type 0 where
  item_target : {ts : List Terminal} {e s : Expr} → Derives Expression ts e → stored e ≡ Some s → ItemTarget ts s
  star_target : {ts : List Terminal} {e s : Expr} → Derives Expression ts e → stored (Trees.Starred e Load) ≡ Some s
      → ItemTarget (Op Star ∷ ts) s
