-- The plain reader: what is read at the front of a list of terminals, by one look at the next one or two of them.
use Rattle.std.specs.Prelude.{ℕ, zero, suc, List, [], ◌∷◌, ◌++◌, Option, Some, None, length, Bool, true, false, cond}
use Rattle.pylex_lexeme.specs.declared.kinds.Exact.{Exact}
use Rattle.pylex_lexeme.specs.declared.kinds.Exact.TheVariants.{LPar, RPar, LSqb, RSqb, LBrace, RBrace, Colon, Comma, Star, Slash, Equal}
use Rattle.pylex_lexeme.specs.declared.kinds.Exact.TheVariants.{Dot, DoubleStar, ColonEqual}
use Rattle.pytoken.specs.declared.keywords.Keyword.TheVariants as Key
use Rattle.pytree_node.specs.declared.operators.Operator.TheVariants as Bin
use Rattle.pytree_node.specs.declared.operators.BoolOperator.{BoolOperator}
use Rattle.pytree_node.specs.declared.operators.Comparison.{Comparison}
use Rattle.pytree_node.specs.declared.operators.Comparison.TheVariants as Is
use Rattle.pytree_node.specs.declared.operators.Context.TheVariants.{Load, Store}
use Rattle.pygrammar.specs.declared.levels.Level.{Level}
use Rattle.pygrammar.specs.declared.levels.Level.TheVariants.{Value, Stars, StarItem, Named, Expression, Or, BitOr, Factor, Primary, Atom}
use Rattle.pygrammar.specs.declared.levels.Level.TheVariants.{Elem, Slices, Part, Slice, Subject}
use Rattle.pytree_node.specs.Trees
use Rattle.pytree_node.specs.Trees.{Expr, no_exprs, an_expr, OptionalExpr, absent, present, no_optional, arg, Arguments, Identifier, exprs}
use Rattle.pytree_node.specs.Trees.{Comprehension, comprehensions}
use Rattle.pytree_node.specs.Values
use Rattle.pyfstring.specs.declared.parts.Conversion.{Conversion}
use Rattle.pytoken.specs.Terminals.{Terminal, Op, Ident, Number, Literal, FormattedBegin}
use Rattle.pygrammar.specs.Looks.{is_op, is_word, name_in, literal_in, text_in, conversion_in, is_formatted_begin, is_formatted_end}
use Rattle.pygrammar.specs.Looks.{is_spec_begin, is_field_end}
use Rattle.pygrammar.specs.Operators.{below, chain_level, chain_word, comparison, rank}
use Rattle.pygrammar.specs.Constants.{constant_word, joined}
use Rattle.pygrammar.specs.FormattedStrings.{StringPart, Text, Field, merged, values_of, spec_values_of, kind_of, text_of, texts_of}
use Rattle.pygrammar.specs.Entries.{Item, Of, Pair, Argument, Parameter, Entry, Single, Paired, Spread, Doubled, Keyed, Plain, Slashed}
use Rattle.pygrammar.specs.Entries.{Bare, Gathered, Collected, singles, keys, values}
use Rattle.pygrammar.specs.Arguments.{called}
use Rattle.pygrammar.specs.Parameters.{arranged}
use Rattle.pygrammar.specs.Targets.{stored}
use Rattle.pygrammar.specs.Precedence.{starts, starts_comp, Infix, Left, Raise, Joins, Compares, Prefix, Signed, Awaits, infix_from}
use Rattle.pygrammar.specs.Precedence.{prefix_from}

-- what a reader answers: a value and the terminals after it, no form, or that it went too deep
pub data Answer (A : Type 0) : Type 0 where
  Found : A → List Terminal → Answer A
  NoForm : Answer A
  TooDeep : Answer A

abbrev pub and_then : {A B : Type 0} → Answer A → (A → List Terminal → Answer B) → Answer B
and_then (Found a r) k = k a r
and_then NoForm k = NoForm
and_then TooDeep k = TooDeep

abbrev pub on_some : {A B : Type 0} → Option A → (A → B) → B → B
on_some (Some a) hit miss = hit a
on_some None hit miss = miss

-- a choice by a test on the first terminal, with what it says and the terminals after it
abbrev pub on_first : {A B : Type 0} → (Terminal → Option A) → List Terminal → (A → List Terminal → B) → B → B
on_first f [] hit miss = miss
on_first f (t ∷ r) hit miss = on_some (f t) (λ a. hit a r) miss

-- a NAME and a sign
abbrev pub on_name_with : {B : Type 0} → Exact → List Terminal → (Identifier → List Terminal → B) → B → B
on_name_with s r hit miss = on_first name_in r (λ x r1. on_first (is_op s) r1 (λ _ r2. hit x r2) miss) miss

-- the sign that has to stand here
abbrev pub closed : {A : Type 0} → Exact → List Terminal → A → Answer A
closed s r a = on_first (is_op s) r (λ _ r1. Found a r1) NoForm

-- a tree, if there is one
abbrev pub made : {A : Type 0} → Option A → List Terminal → Answer A
made (Some a) r = Found a r
made None r = NoForm

abbrev pub generator_of : Option Expr → Expr → List Expr → Bool → Option Comprehension
generator_of None e cs b = None
generator_of (Some s) e cs b = Some (record { target = s; iter = e; ifs = cs; is_async = b })

abbrev pub lambda_of : Option Arguments → Expr → Option Expr
lambda_of None e = None
lambda_of (Some a) e = Some (Trees.Lambda a e)

abbrev pub Reads : Type 0
Reads = Level → List Terminal → Answer Expr

-- Each loop takes a number that is at least the number of terminals.
module _ (self : Reads) where
  -- [X], [a sign and an Expression]
  abbrev pub perhaps : Level → List Terminal → Answer OptionalExpr
  perhaps l r = cond (starts (Of l) r) (and_then (self l r) (λ e r1. Found (present e) r1)) (Found absent r)

  abbrev pub suffixed : Option Exact → List Terminal → Answer OptionalExpr
  suffixed None r = Found absent r
  suffixed (Some x) r = on_first (is_op x) r (λ _ r1. and_then (self Expression r1) (λ e r2. Found (present e) r2)) (Found absent r)

  -- `*` X, or else another reader
  abbrev pub starred : Level → List Terminal → Answer Expr → Answer Expr
  starred l r other = on_first (is_op Star) r (λ _ r1. and_then (self l r1) (λ e r2. Found (Trees.Starred e Load) r2)) other

  abbrev pub annotated : Bool → List Terminal → Answer OptionalExpr
  annotated b r = suffixed (cond b (Some Colon) None) r

  abbrev pub star_annotated : Bool → List Terminal → Answer OptionalExpr
  star_annotated false r = Found absent r
  star_annotated true r =
      on_first (is_op Colon) r
      (λ _ r1. on_first (is_op Star) r1 (λ _ r2. and_then (self BitOr r2) (λ e r3. Found (present (Trees.Starred e Load)) r3))
      (and_then (self Expression r1) (λ e r2. Found (present e) r2))) (Found absent r)

  abbrev pub read_pair : List Terminal → Answer Entry
  read_pair r =
      on_first (is_op DoubleStar) r (λ _ r1. and_then (self BitOr r1) (λ e r2. Found (Doubled e) r2))
      (and_then (self Expression r)
      (λ k r1. on_first (is_op Colon) r1 (λ _ r2. and_then (self Expression r2) (λ e r3. Found (Paired k e) r3)) NoForm))

  abbrev pub read_argument : List Terminal → Answer Entry
  read_argument r =
      on_first (is_op Star) r (λ _ r1. and_then (self Expression r1) (λ e r2. Found (Spread e) r2))
      (on_first (is_op DoubleStar) r (λ _ r1. and_then (self Expression r1) (λ e r2. Found (Doubled e) r2))
      (on_name_with Equal r (λ x r1. and_then (self Expression r1) (λ e r2. Found (Keyed x e) r2))
      (and_then (self Named r) (λ e r1. Found (Single e) r1))))

  abbrev pub read_parameter : Bool → List Terminal → Answer Entry
  read_parameter b r =
      on_first name_in r (λ x r1. and_then (annotated b r1)
      (λ a r2. and_then (suffixed (Some Equal) r2) (λ d r3. Found (Plain (arg x a) d) r3)))
      (on_first (is_op Star) r
      (λ _ r1. on_first name_in r1 (λ x r2. and_then (star_annotated b r2) (λ a r3. Found (Gathered (arg x a)) r3)) (Found Bare r1))
      (on_first (is_op DoubleStar) r
      (λ _ r1. on_first name_in r1 (λ x r2. and_then (annotated b r2) (λ a r3. Found (Collected (arg x a)) r3)) NoForm)
      (on_first (is_op Slash) r (λ _ r1. Found Slashed r1) NoForm)))

  abbrev pub piece : Item → List Terminal → Answer Entry
  piece (Of l) r = and_then (self l r) (λ e r1. Found (Single e) r1)
  piece Pair r = read_pair r
  piece Argument r = read_argument r
  piece (Parameter b) r = read_parameter b r

-- X,.. [,] or nothing
abbrev pub listing_loop : (List Terminal → Answer Entry) → Item → ℕ → List Entry → List Terminal → Answer (List Entry)
listing_loop one i zero acc r = Found acc r
listing_loop one i (suc m) acc r =
    cond (starts i r) (and_then (one r) (λ e r1. on_first (is_op Comma) r1 (λ _ r2. listing_loop one i m (acc ++ (e ∷ [])) r2)
    (Found (acc ++ (e ∷ [])) r1))) (Found acc r)

module _ (self : Reads) where
  abbrev pub listing_of : Item → List Entry → List Terminal → Answer (List Entry)
  listing_of i acc r = listing_loop (piece self i) i (length r) acc r

  -- the same after a first item
  abbrev pub others_of : Item → Entry → List Terminal → Answer (List Entry)
  others_of i e r = on_first (is_op Comma) r (λ _ r1. listing_of i (e ∷ []) r1) (Found (e ∷ []) r)

  -- a Tuple, if a comma follows
  abbrev pub tupled : Item → Expr → List Terminal → Answer Expr → Answer Expr
  tupled i e r other =
      on_first (is_op Comma) r (λ _ r1. and_then (listing_of i [] r1) (λ es r2. Found (Trees.Tuple (an_expr e (singles es)) Load) r2)) other

  -- a target in front of `in`: its items are Primaries
  abbrev pub target_item : List Terminal → Answer Expr
  target_item r = starred self Primary r (self Primary r)

  abbrev pub target_piece : List Terminal → Answer Entry
  target_piece r = and_then (target_item r) (λ e r1. Found (Single e) r1)

  abbrev pub read_target : List Terminal → Answer Expr
  read_target r = and_then (target_item r)
      (λ e r1. on_first (is_op Comma) r1 (λ _ r2. and_then (listing_loop target_piece (Of StarItem) (length r2) [] r2)
      (λ es r3. Found (Trees.Tuple (an_expr e (singles es)) Load) r3)) (Found e r1))

  abbrev pub ifs_loop : ℕ → List Expr → List Terminal → Answer (List Expr)
  ifs_loop zero acc r = Found acc r
  ifs_loop (suc m) acc r =
      on_first (is_word Key.If) r (λ _ r1. and_then (self Or r1) (λ e r2. ifs_loop m (acc ++ (e ∷ [])) r2)) (Found acc r)

  abbrev pub for_in_step : Bool → List Terminal → Answer Comprehension
  for_in_step b r = and_then (read_target r)
      (λ t r1. on_first (is_word Key.In) r1
      (λ _ r2. and_then (self Or r2) (λ e r3. and_then (ifs_loop (length r3) [] r3) (λ cs r4. made (generator_of (stored t) e cs b) r4)))
      NoForm)

  abbrev pub comps_loop : ℕ → List Comprehension → List Terminal → Answer (List Comprehension)
  comps_loop zero acc r = Found acc r
  comps_loop (suc m) acc r =
      on_first (is_word Key.For) r (λ _ r1. and_then (for_in_step false r1) (λ g r2. comps_loop m (acc ++ (g ∷ [])) r2))
      (on_first (is_word Key.Async) r
      (λ _ r1. on_first (is_word Key.For) r1 (λ _ r2. and_then (for_in_step true r2) (λ g r3. comps_loop m (acc ++ (g ∷ [])) r3))
      NoForm) (Found acc r))

  -- Comp+ and a bracket, with what they make
  abbrev pub comps_closed : Exact → List Terminal → (List Comprehension → Expr) → Answer Expr
  comps_closed s r make = and_then (comps_loop (length r) [] r) (λ gs r1. closed s r1 (make gs))

-- neither a star item nor a NAME with `:=`; r are the terminals from where it begins
abbrev pub unstarred : {A : Type 0} → List Terminal → Answer A → Answer A
unstarred r a = on_first (is_op Star) r (λ _ _. NoForm) a

abbrev pub unnamed : {A : Type 0} → List Terminal → Answer A → Answer A
unnamed r a = on_name_with ColonEqual r (λ _ _. NoForm) a

-- neighbouring literals
abbrev pub string_run : List Values.Value → List Terminal → Answer (List Values.Value)
string_run acc (Literal v ∷ r) = string_run (acc ++ (v ∷ [])) r
string_run acc r = Found acc r

abbrev pub constant_of : Option Values.Value → Option Expr
constant_of None = None
constant_of (Some v) = Some (Trees.Constant v)

-- [":" format_spec], with the reader of its parts
abbrev pub spec_with : (List Terminal → Answer (List StringPart)) → Bool → List Terminal → Answer OptionalExpr
spec_with parts u r =
    on_first is_spec_begin r (λ _ r1. and_then (parts r1) (λ ps r2. Found (present (Trees.JoinedStr (spec_values_of u (merged ps)))) r2))
    (Found absent r)

module _ (self : Reads) where
  -- a field, after its beginning
  abbrev pub field_with : (List Terminal → Answer (List StringPart)) → Bool → Conversion → List Terminal → Answer Expr
  field_with parts u c r =
      on_first (is_op LPar) r
      (λ _ _. and_then (self Atom r)
      (λ e r1. and_then (spec_with parts u r1) (λ s r2. on_first is_field_end r2 (λ _ r3. Found (Trees.FormattedValue e c s) r3) NoForm)))
      NoForm

  -- (text | replacement_field)*, after other parts
  abbrev pub parts_loop : Bool → ℕ → List StringPart → List Terminal → Answer (List StringPart)
  parts_loop u zero acc r = Found acc r
  parts_loop u (suc m) acc r =
      on_first text_in r (λ t r1. parts_loop u m (acc ++ (Text t ∷ [])) r1)
      (on_first conversion_in r (λ c r1. and_then (field_with (λ r2. parts_loop u m [] r2) u c r1)
      (λ e r2. parts_loop u m (acc ++ (Field e ∷ [])) r2))
      (Found acc r))

  -- an f-string, after its beginning
  abbrev pub formatted_step : Bool → List StringPart → List Terminal → Answer (List StringPart)
  formatted_step u acc r = and_then (parts_loop u (length r) acc r) (λ ps r1. on_first is_formatted_end r1 (λ _ r2. Found ps r2) NoForm)

  -- (STRING | f_string)*, after other parts
  abbrev pub literals_loop : Bool → ℕ → List StringPart → List Terminal → Answer (List StringPart)
  literals_loop u zero acc r = Found acc r
  literals_loop u (suc m) acc r =
      on_first literal_in r (λ v r1. on_some (text_of v) (λ t. literals_loop u m (acc ++ (Text t ∷ [])) r1) NoForm)
      (on_first is_formatted_begin r (λ _ r1. and_then (formatted_step u acc r1) (λ ps r2. literals_loop u m ps r2))
      (Found acc r))

  -- after the beginning of the first f-string, and the texts in front of it
  abbrev pub joined_step : Bool → List StringPart → List Terminal → Answer Expr
  joined_step u acc r =
      and_then (formatted_step u acc r) (λ ps r1. and_then (literals_loop u (length r1) ps r1)
      (λ qs r2. Found (Trees.JoinedStr (values_of u (merged qs))) r2))

  -- after a first literal
  abbrev pub literals : Values.Value → List Terminal → Answer Expr
  literals v r = and_then (string_run [] r)
      (λ vs r1. on_first is_formatted_begin r1 (λ _ r2. on_some (texts_of (v ∷ vs)) (λ ps. joined_step (kind_of v) ps r2) NoForm)
      (made (constant_of (joined v vs)) r1))

module _ (self : Reads) where
  abbrev pub yield_step : List Terminal → Answer Expr
  yield_step r = on_first (is_word Key.From) r (λ _ r1. and_then (self Expression r1) (λ e r2. Found (Trees.YieldFrom e) r2))
      (and_then (perhaps self Stars r) (λ e r1. Found (Trees.Yield e) r1))

  -- after `(`, `[`, `{`
  abbrev pub round : List Terminal → Answer Expr
  round r =
      on_first (is_op RPar) r (λ _ r1. Found (Trees.Tuple no_exprs Load) r1)
      (on_first (is_word Key.Yield) r (λ _ r1. and_then (yield_step r1) (λ e r2. closed RPar r2 e))
      (and_then (self Elem r) (λ e r1.
      on_first (is_op Comma) r1 (λ _ r2. and_then (listing_of self (Of Elem) [] r2)
      (λ es r3. closed RPar r3 (Trees.Tuple (an_expr e (singles es)) Load)))
      (unstarred r (cond (starts_comp r1) (comps_closed self RPar r1 (λ gs. Trees.GeneratorExp e (comprehensions gs)))
      (closed RPar r1 e))))))

  abbrev pub square : List Terminal → Answer Expr
  square r =
      cond (starts (Of Elem) r)
      (and_then (self Elem r) (λ e r1.
      cond (starts_comp r1)
      (unstarred r (comps_closed self RSqb r1 (λ gs. Trees.ListComp e (comprehensions gs))))
      (and_then (others_of self (Of Elem) (Single e) r1) (λ es r2. closed RSqb r2 (Trees.ListOf (singles es) Load)))))
      (closed RSqb r (Trees.ListOf no_exprs Load))

  abbrev pub dict_from : Entry → List Terminal → Answer Expr
  dict_from e r = and_then (others_of self Pair e r) (λ fs r1. closed RBrace r1 (Trees.Dict (keys fs) (values fs)))

  abbrev pub curly : List Terminal → Answer Expr
  curly r =
      on_first (is_op RBrace) r (λ _ r1. Found (Trees.Dict no_optional no_exprs) r1)
      (on_first (is_op DoubleStar) r (λ _ r1. and_then (self BitOr r1) (λ e r2. dict_from (Doubled e) r2))
      (and_then (self Elem r) (λ e r1.
      on_first (is_op Colon) r1
      (λ _ r2. unstarred r (unnamed r (and_then (self Expression r2) (λ v r3.
      cond (starts_comp r3)
      (comps_closed self RBrace r3 (λ gs. Trees.DictComp e v (comprehensions gs)))
      (dict_from (Paired e v) r3)))))
      (cond (starts_comp r1)
      (unstarred r (comps_closed self RBrace r1 (λ gs. Trees.SetComp e (comprehensions gs))))
      (and_then (others_of self (Of Elem) (Single e) r1) (λ es r2. closed RBrace r2 (Trees.Set (singles es))))))))

  abbrev pub atom : List Terminal → Answer Expr
  atom [] = NoForm
  atom (Ident x ∷ r) = Found (Trees.Name x.form Load) r
  atom (Number v ∷ r) = Found (Trees.Constant v) r
  atom (Literal v ∷ r) = literals self v r
  atom (FormattedBegin ∷ r) = joined_step self false [] r
  atom (Op LPar ∷ r) = round r
  atom (Op LSqb ∷ r) = square r
  atom (Op LBrace ∷ r) = curly r
  atom (t ∷ r) = made (constant_of (constant_word t)) r

  -- after the `(` of a call
  abbrev pub called_with : Expr → List Entry → List Terminal → Answer Expr
  called_with f es r = on_first (is_op RPar) r (λ _ r1. made (called f es) r1) NoForm

  abbrev pub generator_call : Expr → Entry → List Terminal → Answer Expr
  generator_call f (Single e) r =
      comps_closed self RPar r (λ gs. Trees.Call f (an_expr (Trees.GeneratorExp e (comprehensions gs)) no_exprs) Trees.no_keyword)
  generator_call f _ r = NoForm

  abbrev pub call_step : Expr → List Terminal → Answer Expr
  call_step f r =
      cond (starts Argument r)
      (and_then (piece self Argument r) (λ a r1.
      cond (starts_comp r1) (generator_call f a r1)
      (and_then (others_of self Argument a r1) (λ es r2. called_with f es r2))))
      (called_with f [] r)

  abbrev pub primary_loop : ℕ → Expr → List Terminal → Answer Expr
  primary_loop zero e r = Found e r
  primary_loop (suc m) e r =
      on_first (is_op Dot) r (λ _ r1. on_first name_in r1 (λ x r2. primary_loop m (Trees.Attribute e x Load) r2) NoForm)
      (on_first (is_op LPar) r (λ _ r1. and_then (call_step e r1) (λ f r2. primary_loop m f r2))
      (on_first (is_op LSqb) r
      (λ _ r1. and_then (self Slices r1)
      (λ s r2. on_first (is_op RSqb) r2 (λ _ r3. primary_loop m (Trees.Subscript e s Load) r3) NoForm))
      (Found e r)))

  -- chains
  abbrev pub chain_loop : BoolOperator → ℕ → List Expr → List Terminal → Answer (List Expr)
  chain_loop o zero acc r = Found acc r
  chain_loop o (suc m) acc r =
      on_first (is_word (chain_word o)) r (λ _ r1. and_then (self (below (chain_level o)) r1) (λ b r2. chain_loop o m (acc ++ (b ∷ [])) r2))
      (Found acc r)

  abbrev pub on_comparison : {B : Type 0} → List Terminal → (Comparison → List Terminal → Answer B) → Answer B → Answer B
  on_comparison r hit other =
      on_first comparison r hit
      (on_first (is_word Key.Not) r (λ _ r1. on_first (is_word Key.In) r1 (λ _ r2. hit Is.NotIn r2) NoForm)
      (on_first (is_word Key.Is) r (λ _ r1. on_first (is_word Key.Not) r1 (λ _ r2. hit Is.IsNot r2) (hit Is.Is r1)) other))

  abbrev pub compare_loop : ℕ → List Comparison → List Expr → List Terminal
      → (List Comparison → List Expr → List Terminal → Answer Expr) → Answer Expr
  compare_loop zero os es r k = k os es r
  compare_loop (suc m) os es r k =
      on_comparison r (λ o r1. and_then (self BitOr r1) (λ b r2. compare_loop m (os ++ (o ∷ [])) (es ++ (b ∷ [])) r2 k)) (k os es r)

  -- an expression and the operator after it; r1 are the terminals after the operator's first
  abbrev pub operation : Expr → Infix → (r r1 : List Terminal) → Answer Expr
  operation e (Left l o) r r1 = and_then (self (below l) r1) (λ b r2. Found (Trees.BinOp e o b) r2)
  operation e Raise r r1 = and_then (self Factor r1) (λ b r2. Found (Trees.BinOp e Bin.Pow b) r2)
  operation e (Joins o) r r1 = and_then (chain_loop o (length r) [] r) (λ es r2. Found (Trees.BoolOp o (exprs (e ∷ es))) r2)
  operation e Compares r r1 = compare_loop (length r) [] [] r (λ os es r2. Found (Trees.Compare e os (exprs es)) r2)

  -- operators of a rank of at least k
  abbrev pub climb_loop : ℕ → ℕ → Expr → List Terminal → Answer Expr
  climb_loop k zero e r = Found e r
  climb_loop k (suc m) e r = on_first (infix_from k) r (λ o r1. and_then (operation e o r r1) (λ f r2. climb_loop k m f r2)) (Found e r)

  abbrev pub prefixed : Prefix → List Terminal → Answer Expr
  prefixed (Signed l o) r = and_then (self l r) (λ e r1. Found (Trees.UnaryOp o e) r1)
  prefixed Awaits r = and_then (self Primary r) (λ e r1. Found (Trees.Await e) r1)

  abbrev pub slice_rest : OptionalExpr → List Terminal → Answer Expr
  slice_rest a r = and_then (perhaps self Expression r)
      (λ b r1. on_first (is_op Colon) r1 (λ _ r2. and_then (perhaps self Expression r2) (λ c r3. Found (Trees.Slice a b c) r3))
      (Found (Trees.Slice a b absent) r1))

  abbrev pub lambda_step : List Terminal → Answer Expr
  lambda_step r = and_then (listing_of self (Parameter false) [] r)
      (λ ps r1. on_first (is_op Colon) r1 (λ _ r2. and_then (self Expression r2) (λ e r3. made (lambda_of (arranged ps) e) r3)) NoForm)

  abbrev pub if_else_step : Expr → List Terminal → Answer Expr
  if_else_step b r = on_first (is_word Key.If) r
      (λ _ r1. and_then (self Or r1)
      (λ a r2. on_first (is_word Key.Else) r2 (λ _ r3. and_then (self Expression r3) (λ c r4. Found (Trees.IfExp a b c) r4)) NoForm))
      (Found b r)

-- One level. `next` reads further levels at the front, `inner` an expression further in: after a bracket or an operator.
module _ (next inner : Reads) where
  -- all of Or .. Await, by the rank
  abbrev pub climb : ℕ → List Terminal → Answer Expr
  climb k i = and_then (on_first (prefix_from k) i (λ p r. prefixed inner p r) (next Primary i)) (λ e r. climb_loop inner k (length r) e r)

  abbrev pub level_step : Level → List Terminal → Answer Expr
  level_step Value i = on_first (is_word Key.Yield) i (λ _ r. yield_step inner r) (next Stars i)
  level_step Stars i = and_then (next StarItem i) (λ e r. tupled inner (Of StarItem) e r (Found e r))
  level_step StarItem i = starred inner BitOr i (next Expression i)
  level_step Elem i = starred inner BitOr i (next Named i)
  level_step Named i =
      on_name_with ColonEqual i (λ x r. and_then (inner Expression r) (λ e r1. Found (Trees.NamedExpr (Trees.Name x Store) e) r1))
      (next Expression i)
  level_step Expression i = on_first (is_word Key.Lambda) i (λ _ r. lambda_step inner r)
      (and_then (next Or i) (λ b r. if_else_step inner b r))
  level_step Primary i = and_then (next Atom i) (λ e r. primary_loop inner (length r) e r)
  level_step Atom i = atom inner i
  level_step Slices i =
      and_then (next Part i)
      (λ e r. tupled inner (Of Part) e r (on_first (is_op Star) i (λ _ _. Found (Trees.Tuple (an_expr e no_exprs) Load) r) (Found e r)))
  level_step Part i = starred inner Expression i (next Slice i)
  level_step Slice i = on_first (is_op Colon) i (λ _ r. slice_rest inner absent r)
      (and_then (next Named i) (λ e r. on_first (is_op Colon) r (λ _ r1. unnamed i (slice_rest inner (present e) r1)) (Found e r)))
  level_step Subject i = and_then (next Elem i) (λ e r. tupled inner (Of Elem) e r (unstarred i (Found e r)))
  level_step l i = climb (rank l) i

-- how many levels are read at the front, from one on
abbrev pub levels_from : Level → ℕ
levels_from Atom = 1
levels_from Primary = 2
levels_from Expression = 4
levels_from Named = 5
levels_from StarItem = 5
levels_from Elem = 6
levels_from Stars = 6
levels_from Value = 7
levels_from Subject = 7
levels_from Slice = 6
levels_from Part = 7
levels_from Slices = 8
levels_from _ = 3

abbrev pub descend : Reads → ℕ → Reads
descend inner zero l i = NoForm
descend inner (suc k) l i = level_step (descend inner k) inner l i

-- the reader, with at most d nested expressions
abbrev pub read : ℕ → Reads
read zero l i = TooDeep
read (suc d) l i = descend (read d) (levels_from l) l i

-- with a depth that no list of this length needs
abbrev pub reads : Reads
reads l ts = read (suc (length ts)) l ts
