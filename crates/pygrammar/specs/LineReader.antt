-- The plain reader of one logical line: which form its terminals are, by the first word and by small looks ahead.
use Rattle.std.specs.Prelude.{ℕ, zero, suc, ◌+◌, List, [], ◌∷◌, ◌++◌, Option, Some, None, length, Bool, true, false, ◌&&◌, cond, leb}
use Rattle.std.specs.Str.{bytes_eq}
use Rattle.pylex_lexeme.specs.Characters.{full_stop, asterisk}
use Rattle.pylex_lexeme.specs.declared.kinds.Exact.TheVariants as Sign
use Rattle.pytoken.specs.declared.keywords.Keyword.TheVariants as Key
use Rattle.pytree_node.specs.declared.operators.Operator.{Operator}
use Rattle.pytree_node.specs.declared.operators.Context.TheVariants.{Load, Store}
use Rattle.pytree_node.specs.declared.profiles.Profile.{Profile}
use Rattle.pygrammar.specs.declared.levels.Level.{Level}
use Rattle.pygrammar.specs.declared.levels.Level.TheVariants.{Value, Stars, Named, Expression, Subject}
use Rattle.pygrammar.specs.declared.pattern_levels.PatternLevel.TheVariants.{Patterns}
use Rattle.pytree_node.specs.Trees.{Expr, no_keyword, Identifier, Stmt, Alias, Item, TypeParam, TypeVar, ParamSpec}
use Rattle.pytree_node.specs.Trees.{TypeVarTuple, Return, Delete, Assign, TypeAlias, AugAssign, AnnAssign, Raise, Assert, Import}
use Rattle.pytree_node.specs.Trees.{ImportFrom, Global, Nonlocal, ExprOf, Pass, Break, Continue}
use Rattle.pytree_node.specs.Trees as Trees
use Rattle.pytoken.specs.Terminals.{Terminal, Op, Word, Ident}
use Rattle.pygrammar.specs.Looks.{is_op, is_word, name_in}
use Rattle.pygrammar.specs.Entries.{Of, Argument, Parameter}
use Rattle.pygrammar.specs.Arguments.{in_order, positional, keywords}
use Rattle.pygrammar.specs.Parameters.{arranged}
use Rattle.pygrammar.specs.Targets.{stored, deleted, single_stored}
use Rattle.pygrammar.specs.Reader.{Answer, Found, NoForm, TooDeep, and_then, on_some, on_first, on_name_with, closed, made, Reads}
use Rattle.pygrammar.specs.Reader.{listing_of, read_target, read}
use Rattle.pygrammar.specs.Precedence.{starts}
use Rattle.pygrammar.specs.Lines.{Form, simple_form, decorator_form, header_form, Header, if_header, elif_header, else_header, loop_header}
use Rattle.pygrammar.specs.Lines.{with_header, try_header, except_header, finally_header, def_header, match_header, case_header, while_head}
use Rattle.pygrammar.specs.Lines.{for_head, function_head, class_head}
use Rattle.pygrammar.specs.Forms.{alias, type_name, match_name, is_whole, is_case_line, augmented, item, listed}
use Rattle.pygrammar.specs.PatternReader.{PatternReads, capped_pattern}
use Rattle.pytree_node.specs.Profiles.{has_types}

-- ---- Parts.

-- the second reader where the first finds no form
abbrev pub or_else : {A : Type 0} → Answer A → Answer A → Answer A
or_else (Found a r) other = Found a r
or_else NoForm other = other
or_else TooDeep other = TooDeep

abbrev pub on_none : {A : Type 0} → List Terminal → A → A → A
on_none [] x y = x
on_none (t ∷ r) x y = y

-- the test on one terminal
abbrev pub same_as : Terminal → Terminal → Option ℕ
same_as (Op x) = is_op x
same_as (Word x) = is_word x
same_as t = λ u. None

abbrev pub starts_name : List Terminal → Bool
starts_name (Ident x ∷ r) = true
starts_name r = false

-- the word `type`, which is no keyword
abbrev pub is_type : Terminal → Option ℕ
is_type (Ident x) = cond (bytes_eq x.spelling type_name) (Some 0) None
is_type t = None

-- `type` and a NAME, in a version that has types: no expression begins so
abbrev pub on_type : {A : Type 0} → Profile → List Terminal → (Identifier → List Terminal → A) → A → A
on_type profile i hit miss = cond (has_types profile) (on_first is_type i (λ _ r. on_first name_in r hit miss) miss) miss

abbrev pub starts_type_param : List Terminal → Bool
starts_type_param (Ident x ∷ r) = true
starts_type_param (Op Sign.Star ∷ r) = true
starts_type_param (Op Sign.DoubleStar ∷ r) = true
starts_type_param r = false

abbrev pub always : List Terminal → Bool
always r = true

-- X,..: after a comma another one follows where `more` says so; the number is larger than the number of terminals
abbrev pub commas : {A : Type 0} → (List Terminal → Answer A) → (List Terminal → Bool) → ℕ → List Terminal → Answer (List A)
commas one more zero i = NoForm
commas one more (suc n) i =
    and_then (one i) (λ a r. on_first (is_op Sign.Comma) r
    (λ _ r1. cond (more r1) (and_then (commas one more n r1) (λ as_ r2. Found (a ∷ as_) r2)) (Found (a ∷ []) r1)) (Found (a ∷ []) r))

abbrev pub commas_of : {A : Type 0} → (List Terminal → Answer A) → (List Terminal → Bool) → List Terminal → Answer (List A)
commas_of one more i = commas one more (suc (length i)) i

abbrev pub read_name : List Terminal → Answer Identifier
read_name i = on_first name_in i (λ x r. Found x r) NoForm

-- ["as" NAME]
abbrev pub read_as : List Terminal → Answer (Option Identifier)
read_as i = on_first (is_word Key.As) i (λ _ r. on_first name_in r (λ x r1. Found (Some x) r1) NoForm) (Found None i)

-- ---- Imports.

abbrev pub dotted : ℕ → List Terminal → Answer Identifier
dotted zero i = NoForm
dotted (suc n) i = on_first name_in i
    (λ x r. on_first (is_op Sign.Dot) r (λ _ r1. and_then (dotted n r1) (λ y r2. Found (x ++ (full_stop ∷ y)) r2)) (Found x r)) NoForm

abbrev pub read_dotted : List Terminal → Answer Identifier
read_dotted i = dotted (suc (length i)) i

abbrev pub dotted_alias : List Terminal → Answer Alias
dotted_alias i = and_then (read_dotted i) (λ x r. and_then (read_as r) (λ a r1. Found (alias x a) r1))

abbrev pub name_alias : List Terminal → Answer Alias
name_alias i = on_first name_in i (λ x r. and_then (read_as r) (λ a r1. Found (alias x a) r1)) NoForm

abbrev pub read_dots : List Terminal → Answer ℕ
read_dots (Op Sign.Dot ∷ r) = and_then (read_dots r) (λ n r1. Found (1 + n) r1)
read_dots (Op Sign.Ellipsis ∷ r) = and_then (read_dots r) (λ n r1. Found (3 + n) r1)
read_dots r = Found 0 r

abbrev pub read_names : List Terminal → Answer (List Alias)
read_names i =
    on_first (is_op Sign.Star) i (λ _ r. Found (alias (asterisk ∷ []) None ∷ []) r)
    (on_first (is_op Sign.LPar) i (λ _ r. and_then (commas_of name_alias starts_name r) (λ as_ r1. closed Sign.RPar r1 as_))
    (commas_of name_alias always i))

-- `import` and the names, after the dots and the module
abbrev pub import_of : Option Identifier → ℕ → List Terminal → Answer Stmt
import_of m n i = and_then (read_names i) (λ as_ r. Found (ImportFrom m as_ n) r)

abbrev pub import_from : List Terminal → Answer Stmt
import_from i = and_then (read_dots i) (λ n r.
    on_first (is_word Key.Import) r (λ _ r1. cond (leb 1 n) (import_of None n r1) NoForm)
    (and_then (read_dotted r) (λ m r1. on_first (is_word Key.Import) r1 (λ _ r2. import_of (Some m) n r2) NoForm)))

-- ---- Simple statements.

abbrev pub augmented_sign : Terminal → Option Operator
augmented_sign (Op x) = augmented x
augmented_sign t = None

-- what the first terminal of a simple statement says
pub data Start : Type 0 where
  Values : Start
  Returns : Start
  Raises : Start
  Asserts : Start
  Deletes : Start
  Globals : Start
  Nonlocals : Start
  Passes : Start
  Breaks : Start
  Continues : Start
  Imports : Start
  Froms : Start

abbrev pub start : Terminal → Start
start (Word Key.Return) = Returns
start (Word Key.Raise) = Raises
start (Word Key.Assert) = Asserts
start (Word Key.Del) = Deletes
start (Word Key.Global) = Globals
start (Word Key.Nonlocal) = Nonlocals
start (Word Key.Pass) = Passes
start (Word Key.Break) = Breaks
start (Word Key.Continue) = Continues
start (Word Key.Import) = Imports
start (Word Key.From) = Froms
start t = Values

module _ (self : Reads) where
  -- [X], [t X]
  abbrev pub if_any : Level → List Terminal → Answer (Option Expr)
  if_any l i = cond (starts (Of l) i) (and_then (self l i) (λ e r. Found (Some e) r)) (Found None i)

  abbrev pub after : Terminal → Level → List Terminal → Answer (Option Expr)
  after t l i = on_first (same_as t) i (λ _ r. and_then (self l r) (λ e r1. Found (Some e) r1)) (Found None i)

  abbrev pub annotation : Expr → Bool → List Terminal → Answer Stmt
  annotation t b i = and_then (self Expression i) (λ a r. and_then (after (Op Sign.Equal) Value r) (λ v r1. Found (AnnAssign t a v b) r1))

  -- after a Value that no `=` follows
  abbrev pub end_value : List Expr → Expr → List Terminal → Answer Stmt
  end_value (t ∷ ts) e r = Found (Assign (t ∷ ts) e) r
  end_value [] e r =
      on_first augmented_sign r
      (λ o r1. on_some (single_stored e) (λ t. and_then (self Value r1) (λ v r2. Found (AugAssign t o v) r2)) NoForm)
      (on_first (is_op Sign.Colon) r (λ _ r1. on_some (single_stored e) (λ t. annotation t false r1) NoForm)
      (Found (ExprOf e) r))

  -- a Value, and what follows it; the targets so far
  abbrev pub value_loop : ℕ → List Expr → List Terminal → Answer Stmt
  value_loop zero acc i = NoForm
  value_loop (suc n) acc i =
      and_then (self Value i) (λ e r. on_first (is_op Sign.Equal) r (λ _ r1. on_some (stored e) (λ t. value_loop n (acc ++ (t ∷ [])) r1)
      NoForm) (end_value acc e r))

  abbrev pub value_statement : List Terminal → Answer Stmt
  value_statement i = on_name_with Sign.Colon i (λ x r. annotation (Trees.Name x Store) true r) (value_loop (suc (length i)) [] i)

  abbrev pub deleted_one : List Terminal → Answer Expr
  deleted_one i = and_then (self Expression i) (λ e r. made (deleted e) r)

  abbrev pub read_type_param : List Terminal → Answer TypeParam
  read_type_param i =
      on_first name_in i (λ x r. and_then (after (Op Sign.Colon) Expression r) (λ bound r1. Found (TypeVar x bound) r1))
      (on_first (is_op Sign.Star) i (λ _ r. on_first name_in r (λ x r1. Found (TypeVarTuple x) r1) NoForm)
      (on_first (is_op Sign.DoubleStar) i (λ _ r. on_first name_in r (λ x r1. Found (ParamSpec x) r1) NoForm) NoForm))

  abbrev pub bracketed_type_params : List Terminal → Answer (List TypeParam)
  bracketed_type_params i =
      on_first (is_op Sign.LSqb) i (λ _ r. and_then (commas_of read_type_param starts_type_param r) (λ ps r1. closed Sign.RSqb r1 ps))
      (Found [] i)

module _ (profile : Profile) (self : Reads) where
  -- [TypeParams]
  abbrev pub read_type_params : List Terminal → Answer (List TypeParam)
  read_type_params i = cond (has_types profile) (bracketed_type_params self i) (Found [] i)

  -- after `type` and the NAME
  abbrev pub alias_rest : Identifier → List Terminal → Answer Stmt
  alias_rest x i = and_then (read_type_params i)
      (λ ps r. on_first (is_op Sign.Equal) r
      (λ _ r1. and_then (self Expression r1) (λ e r2. Found (TypeAlias (Trees.Name x Store) ps e) r2)) NoForm)

  -- r are the terminals after the first
  abbrev pub statement_of : Start → (i r : List Terminal) → Answer Stmt
  statement_of Values i r = on_type profile i alias_rest (value_statement self i)
  statement_of Returns i r = and_then (if_any self Stars r) (λ e r1. Found (Return e) r1)
  statement_of Raises i r =
      cond (starts (Of Expression) r)
      (and_then (self Expression r) (λ e r1. and_then (after self (Word Key.From) Expression r1) (λ c r2. Found (Raise (Some e) c) r2)))
      (Found (Raise None None) r)
  statement_of Asserts i r =
      and_then (self Expression r) (λ e r1. and_then (after self (Op Sign.Comma) Expression r1) (λ m r2. Found (Assert e m) r2))
  statement_of Deletes i r = and_then (commas_of (deleted_one self) (starts (Of Expression)) r) (λ es r1. Found (Delete es) r1)
  statement_of Globals i r = and_then (commas_of read_name always r) (λ xs r1. Found (Global xs) r1)
  statement_of Nonlocals i r = and_then (commas_of read_name always r) (λ xs r1. Found (Nonlocal xs) r1)
  statement_of Passes i r = Found Pass r
  statement_of Breaks i r = Found Break r
  statement_of Continues i r = Found Continue r
  statement_of Imports i r = and_then (commas_of dotted_alias always r) (λ as_ r1. Found (Import as_) r1)
  statement_of Froms i r = import_from r

  abbrev pub statement : List Terminal → Answer Stmt
  statement [] = NoForm
  statement (t ∷ r) = statement_of (start t) (t ∷ r) r

  -- with `;` between
  abbrev pub statements : ℕ → List Terminal → Answer (List Stmt)
  statements zero i = NoForm
  statements (suc n) i =
      and_then (statement i)
      (λ s r. on_first (is_op Sign.Semi) r
      (λ _ r1. on_none r1 (Found (s ∷ []) []) (and_then (statements n r1) (λ ss r2. Found (s ∷ ss) r2))) (Found (s ∷ []) r))

-- ---- Headers.

module _ (self : Reads) where
  abbrev pub item_target : List Terminal → Answer Expr
  item_target i = on_first (is_op Sign.Star) i (λ _ r. and_then (self Expression r) (λ e r1. made (stored (Trees.Starred e Load)) r1))
      (and_then (self Expression i) (λ e r. made (stored e) r))

  abbrev pub read_item : List Terminal → Answer Item
  read_item i = and_then (self Expression i)
      (λ e r. on_first (is_word Key.As) r (λ _ r1. and_then (item_target r1) (λ t r2. Found (item e (Some t)) r2)) (Found (item e None) r))

  -- items in brackets directly before a colon
  abbrev pub bracketed : List Terminal → Answer (List Item)
  bracketed i = on_first (is_op Sign.LPar) i (λ _ r. and_then (commas_of read_item (starts (Of Expression)) r)
      (λ is r1. on_first (is_op Sign.RPar) r1 (λ _ r2. on_first (is_op Sign.Colon) r2 (λ _ _. Found is r2) NoForm) NoForm)) NoForm

  abbrev pub read_items : List Terminal → Answer (List Item)
  read_items i = or_else (bracketed i) (commas_of read_item always i)

  -- after the words
  abbrev pub for_rest : Bool → List Terminal → Answer Header
  for_rest b i = and_then (read_target self i)
      (λ t r. on_first (is_word Key.In) r
      (λ _ r1. and_then (self Stars r1) (λ e r2. on_some (stored t) (λ s. Found (loop_header (for_head b s e)) r2) NoForm)) NoForm)

  abbrev pub with_rest : Bool → List Terminal → Answer Header
  with_rest b i = and_then (read_items i) (λ is r. Found (with_header b is) r)

  abbrev pub except_of : Bool → List Terminal → Answer Header
  except_of b i = and_then (self Expression i) (λ e r. and_then (read_as r) (λ x r1. Found (except_header b (Some e) x) r1))

  abbrev pub except_rest : List Terminal → Answer Header
  except_rest i = on_first (is_op Sign.Star) i (λ _ r. except_of true r) (cond (starts (Of Expression) i) (except_of false i)
      (Found (except_header false None None) i))

  -- after `def`, its NAME and the parameters of types
  abbrev pub function_rest : Bool → Identifier → List TypeParam → List Terminal → Answer Header
  function_rest b x tps i =
      on_first (is_op Sign.LPar) i (λ _ r. and_then (listing_of self (Parameter true) [] r)
      (λ ps r1. on_first (is_op Sign.RPar) r1
      (λ _ r2. on_some (arranged ps) (λ a. and_then (after self (Op Sign.RArrow) Expression r2)
      (λ e r3. Found (def_header (function_head b x tps a e)) r3)) NoForm) NoForm)) NoForm

  -- after `class`, its NAME and the parameters of types
  abbrev pub bases_rest : Identifier → List TypeParam → List Terminal → Answer Header
  bases_rest x tps i =
      on_first (is_op Sign.LPar) i
      (λ _ r. and_then (listing_of self Argument [] r)
      (λ es r1. on_first (is_op Sign.RPar) r1
      (λ _ r2. cond (in_order false false es) (Found (def_header (class_head x tps (listed (positional es)) (keywords es))) r2) NoForm)
      NoForm)) (Found (def_header (class_head x tps [] no_keyword)) i)

module _ (profile : Profile) (self : Reads) where
  abbrev pub def_rest : Bool → List Terminal → Answer Header
  def_rest b i = on_first name_in i (λ x r. and_then (read_type_params profile self r) (λ tps r1. function_rest self b x tps r1)) NoForm

  abbrev pub class_rest : List Terminal → Answer Header
  class_rest i = on_first name_in i (λ x r. and_then (read_type_params profile self r) (λ tps r1. bases_rest self x tps r1)) NoForm

  abbrev pub read_header : List Terminal → Answer Header
  read_header (Word Key.If ∷ r) = and_then (self Named r) (λ e r1. Found (if_header e) r1)
  read_header (Word Key.Elif ∷ r) = and_then (self Named r) (λ e r1. Found (elif_header e) r1)
  read_header (Word Key.Else ∷ r) = Found else_header r
  read_header (Word Key.While ∷ r) = and_then (self Named r) (λ e r1. Found (loop_header (while_head e)) r1)
  read_header (Word Key.For ∷ r) = for_rest self false r
  read_header (Word Key.With ∷ r) = with_rest self false r
  read_header (Word Key.Try ∷ r) = Found try_header r
  read_header (Word Key.Finally ∷ r) = Found finally_header r
  read_header (Word Key.Except ∷ r) = except_rest self r
  read_header (Word Key.Def ∷ r) = def_rest false r
  read_header (Word Key.Class ∷ r) = class_rest r
  read_header (Word Key.Async ∷ (Word Key.For ∷ r)) = for_rest self true r
  read_header (Word Key.Async ∷ (Word Key.With ∷ r)) = with_rest self true r
  read_header (Word Key.Async ∷ (Word Key.Def ∷ r)) = def_rest true r
  read_header i = NoForm

-- ---- `match`.

-- the word `match`, which is no keyword
abbrev pub is_match : Terminal → Bool
is_match (Ident x) = bytes_eq x.spelling match_name
is_match t = false

abbrev pub is_colon : Terminal → Bool
is_colon (Op Sign.Colon) = true
is_colon t = false

abbrev pub ends_in_colon : List Terminal → Bool
ends_in_colon [] = false
ends_in_colon (t ∷ []) = is_colon t
ends_in_colon (t ∷ ts) = ends_in_colon ts

-- A line that begins with `match` and ends in a colon is the header of a `match`, if it is anything: no other line that begins with a NAME
-- ends so.
abbrev pub is_match_line : Profile → List Terminal → Bool
is_match_line profile [] = false
is_match_line profile (t ∷ ts) = is_whole profile.extent && (is_match t && ends_in_colon ts)

-- ---- Lines.

-- what the first terminal of a line says
pub data Opening : Type 0 where
  Decorates : Opening
  Heads : Opening
  States : Opening

abbrev pub opening : Terminal → Opening
opening (Op Sign.At) = Decorates
opening (Word Key.If) = Heads
opening (Word Key.Elif) = Heads
opening (Word Key.Else) = Heads
opening (Word Key.While) = Heads
opening (Word Key.For) = Heads
opening (Word Key.With) = Heads
opening (Word Key.Try) = Heads
opening (Word Key.Finally) = Heads
opening (Word Key.Except) = Heads
opening (Word Key.Def) = Heads
opening (Word Key.Class) = Heads
opening (Word Key.Async) = Heads
opening t = States

module _ (profile : Profile) (self : Reads) where
  -- after a header's colon
  abbrev pub suite : Header → List Terminal → Answer Form
  suite h [] = Found (header_form h None) []
  suite h (t ∷ r) = and_then (statements profile self (suc (length (t ∷ r))) (t ∷ r)) (λ ss r1. Found (header_form h (Some ss)) r1)

  -- r are the terminals after the first
  abbrev pub line_of : Opening → (i r : List Terminal) → Answer Form
  line_of Decorates i r = and_then (self Named r) (λ e r1. Found (decorator_form e) r1)
  line_of Heads i r = and_then (read_header profile self i) (λ h r1. on_first (is_op Sign.Colon) r1 (λ _ r2. suite h r2) NoForm)
  line_of States i r = and_then (statements profile self (suc (length i)) i) (λ ss r1. Found (simple_form ss) r1)

  -- after `match`
  abbrev pub match_rest : List Terminal → Answer Form
  match_rest i = and_then (self Subject i)
      (λ e r. on_first (is_op Sign.Colon) r (λ _ r1. Found (header_form (match_header e) None) r1) NoForm)

  abbrev pub line_front : List Terminal → Answer Form
  line_front [] = NoForm
  line_front (t ∷ r) = cond (is_match_line profile (t ∷ r)) (match_rest r) (line_of (opening t) (t ∷ r) r)

  abbrev pub line : List Terminal → Answer Form
  line i = and_then (line_front i) (λ f r. on_none r (Found f []) NoForm)

-- A line at its place: whether it stands in a `match`. `patterns` reads a pattern.
module _ (profile : Profile) (self : Reads) (patterns : PatternReads) where
  -- after `case`
  abbrev pub case_rest : List Terminal → Answer Form
  case_rest i = and_then (patterns Patterns i) (λ p r. and_then (after self (Word Key.If) Named r)
      (λ g r1. on_first (is_op Sign.Colon) r1 (λ _ r2. suite profile self (case_header p g) r2) NoForm))

  abbrev pub case_front : List Terminal → Answer Form
  case_front [] = NoForm
  case_front (t ∷ r) = case_rest r

  abbrev pub case_whole : List Terminal → Answer Form
  case_whole i = and_then (case_front i) (λ f r. on_none r (Found f []) NoForm)

  abbrev pub line_at : Bool → List Terminal → Answer Form
  line_at inside i = cond (is_case_line profile inside i) (case_whole i) (line profile self i)

-- with as many nested expressions as there are terminals
abbrev pub plain : Reads
plain l ts = read (suc (length ts)) l ts

-- with one more, since a pattern may be one higher than it has terminals
abbrev pub plain_pattern : PatternReads
plain_pattern l ts = capped_pattern (suc (length ts)) (suc (suc (length ts))) l ts

abbrev pub read_line : Profile → Bool → List Terminal → Answer Form
read_line profile inside ts = line_at profile plain plain_pattern inside ts

-- with at most d nested expressions
abbrev pub read_line_to : Profile → Bool → ℕ → List Terminal → Answer Form
read_line_to profile inside d ts = line_at profile (read d) (capped_pattern (suc (length ts)) d) inside ts
