-- The forms of a logical line (reference 7 and 8): which lists of terminals are which line in a version and an extent of Python, a
-- constructor
-- for each alternative of the table. The NEWLINE is not part of the list.
use Rattle.std.specs.Prelude.{◌≡◌, ℕ, ◌+◌, ◌<◌, List, [], ◌∷◌, ◌++◌, Option, Some, None, Bool, true, false, ◌&&◌, codes}
use Rattle.std.specs.Str.{bytes_eq}
use Rattle.pylex_lexeme.specs.Characters.{full_stop, asterisk}
use Rattle.pylex_lexeme.specs.declared.kinds.Exact.{Exact}
use Rattle.pylex_lexeme.specs.declared.kinds.Exact.TheVariants as Sign
use Rattle.pytoken.specs.declared.keywords.Keyword.TheVariants as Key
use Rattle.pytree_node.specs.declared.operators.Operator.{Operator}
use Rattle.pytree_node.specs.declared.operators.Operator.TheVariants as Bin
use Rattle.pytree_node.specs.declared.operators.Context.TheVariants.{Store}
use Rattle.pytree_node.specs.declared.profiles.Extent.{Extent}
use Rattle.pytree_node.specs.declared.profiles.Extent.TheVariants as extents
use Rattle.pytree_node.specs.declared.profiles.Profile.{Profile}
use Rattle.pytree_node.specs.Profiles.{has_types}
use Rattle.pygrammar.specs.declared.levels.Level.{Level}
use Rattle.pygrammar.specs.declared.levels.Level.TheVariants.{Value, Stars, Named, Expression, Subject}
use Rattle.pygrammar.specs.declared.pattern_levels.PatternLevel.TheVariants.{Patterns}
use Rattle.pytree_node.specs.Trees.{Expr, Exprs, no_exprs, an_expr, Arguments, Keywords, no_keyword, Identifier, Pattern, Stmt, Alias, Item}
use Rattle.pytree_node.specs.Trees.{TypeParam, TypeVar, ParamSpec, TypeVarTuple, Return, Delete, Assign, TypeAlias, AugAssign, AnnAssign}
use Rattle.pytree_node.specs.Trees.{Raise, Assert, Import, ImportFrom, Global, Nonlocal, ExprOf, Pass, Break, Continue}
use Rattle.pytree_node.specs.Trees as Trees
use Rattle.pytoken.specs.Terminals.{Terminal, Spelled, Op, Word, Ident}
use Rattle.pygrammar.specs.Entries.{Argument, Parameter, Entry}
use Rattle.pygrammar.specs.Arguments.{in_order, positional, keywords}
use Rattle.pygrammar.specs.Parameters.{arranged}
use Rattle.pygrammar.specs.Grammar.{Derives, Listing, Target, SingleTarget, DelTarget, ItemTarget}
use Rattle.pygrammar.specs.PatternGrammar.{DerivesPattern}
use Rattle.pygrammar.specs.Lines.{Form, simple_form, decorator_form, header_form, Header, if_header, elif_header, else_header, loop_header}
use Rattle.pygrammar.specs.Lines.{with_header, try_header, except_header, finally_header, def_header, match_header, case_header, while_head}
use Rattle.pygrammar.specs.Lines.{for_head, function_head, class_head}

-- ---- Parts.

-- X,..: one or more with commas between
pub data Commas (A : Type 0) (X : List Terminal → A → Type 0) : List Terminal → List A → Type 0 where
  alone : {ts : List Terminal} {a : A} → X ts a → Commas A X ts (a ∷ [])
  comma : {ts us : List Terminal} {a : A} {as_ : List A} → X ts a → Commas A X us as_ → Commas A X (ts ++ (Op Sign.Comma ∷ us)) (a ∷ as_)

-- X,.. [,]
pub data Commas? (A : Type 0) (X : List Terminal → A → Type 0) : List Terminal → List A → Type 0 where
  ends_bare : {ts : List Terminal} {as_ : List A} → Commas A X ts as_ → Commas? A X ts as_
  ends_comma : {ts : List Terminal} {as_ : List A} → Commas A X ts as_ → Commas? A X (ts ++ (Op Sign.Comma ∷ [])) as_

-- [X]
pub data Perhaps : Level → List Terminal → Option Expr → Type 0 where
  left_out : {l : Level} → Perhaps l [] None
  given : {l : Level} {ts : List Terminal} {e : Expr} → Derives l ts e → Perhaps l ts (Some e)

-- [t X]
pub data Following : Terminal → Level → List Terminal → Option Expr → Type 0 where
  none_after : {t : Terminal} {l : Level} → Following t l [] None
  following : {t : Terminal} {l : Level} {ts : List Terminal} {e : Expr} → Derives l ts e → Following t l (t ∷ ts) (Some e)

-- ["as" NAME]
pub data As : List Terminal → Option Identifier → Type 0 where
  no_as : As [] None
  as_name : {x : Spelled} → As (Word Key.As ∷ (Ident x ∷ [])) (Some x.form)

-- ["async"]
pub data Async : List Terminal → Bool → Type 0 where
  no_async : Async [] false
  async : Async (Word Key.Async ∷ []) true

-- NAME
pub data Name : List Terminal → Identifier → Type 0 where
  name : {x : Spelled} → Name (Ident x ∷ []) x.form

-- ---- Parameters of types.

-- `type` is no keyword: a NAME that is spelled so
abbrev pub type_name : Identifier
type_name = codes "type"

abbrev pub type_word : Identifier → Terminal
type_word form = Ident (record { spelling = type_name; form = form })

-- TypeParam = NAME [":" Expression] | "*" NAME | "**" NAME
pub data TypeParamOf : List Terminal → TypeParam → Type 0 where
  type_var : {x : Spelled} {ts : List Terminal} {bound : Option Expr} → Following (Op Sign.Colon) Expression ts bound
      → TypeParamOf (Ident x ∷ ts) (TypeVar x.form bound)
  type_var_tuple : {x : Spelled} → TypeParamOf (Op Sign.Star ∷ (Ident x ∷ [])) (TypeVarTuple x.form)
  param_spec : {x : Spelled} → TypeParamOf (Op Sign.DoubleStar ∷ (Ident x ∷ [])) (ParamSpec x.form)

-- ["[" TypeParam,.. [,] "]"]
pub data TypeParams (profile : Profile) : List Terminal → List TypeParam → Type 0 where
  no_type_params : TypeParams profile [] []
  type_params : {ts : List Terminal} {ps : List TypeParam} → has_types profile ≡ true → Commas? TypeParam TypeParamOf ts ps →
      TypeParams profile (Op Sign.LSqb ∷ (ts ++ (Op Sign.RSqb ∷ []))) ps

-- ---- Imports.

-- Dotted = NAME ("." NAME)*
pub data Dotted : List Terminal → Identifier → Type 0 where
  one_name : {x : Spelled} → Dotted (Ident x ∷ []) x.form
  dot_name : {x : Spelled} {y : Identifier} {ts : List Terminal} → Dotted ts y
      → Dotted (Ident x ∷ (Op Sign.Dot ∷ ts)) (x.form ++ (full_stop ∷ y))

abbrev pub alias : Identifier → Option Identifier → Alias
alias x a = record { name = x; asname = a }

-- Dotted ["as" NAME]
pub data DottedAlias : List Terminal → Alias → Type 0 where
  dotted_as : {ts us : List Terminal} {x : Identifier} {a : Option Identifier} → Dotted ts x → As us a → DottedAlias (ts ++ us) (alias x a)

-- NAME ["as" NAME]
pub data NameAlias : List Terminal → Alias → Type 0 where
  name_as : {us : List Terminal} {x : Spelled} {a : Option Identifier} → As us a → NameAlias (Ident x ∷ us) (alias x.form a)

-- ("." | "...")*, with the level that they make
pub data Dots : List Terminal → ℕ → Type 0 where
  no_dot : Dots [] 0
  dot : {ts : List Terminal} {n : ℕ} → Dots ts n → Dots (Op Sign.Dot ∷ ts) (1 + n)
  dots : {ts : List Terminal} {n : ℕ} → Dots ts n → Dots (Op Sign.Ellipsis ∷ ts) (3 + n)

-- Names = "*" | (NAME ["as" NAME]),.. | "(" (NAME ["as" NAME]),.. [,] ")"
pub data Names : List Terminal → List Alias → Type 0 where
  all_names : Names (Op Sign.Star ∷ []) (alias (asterisk ∷ []) None ∷ [])
  names : {ts : List Terminal} {as_ : List Alias} → Commas Alias NameAlias ts as_ → Names ts as_
  bracketed_names : {ts : List Terminal} {as_ : List Alias} → Commas? Alias NameAlias ts as_
      → Names (Op Sign.LPar ∷ (ts ++ (Op Sign.RPar ∷ []))) as_

-- ---- Simple statements.

-- `+= -= *= @= /= %= &= |= ^= <<= >>= **= //=`
abbrev pub augmented : Exact → Option Operator
augmented Sign.PlusEqual = Some Bin.Add
augmented Sign.MinEqual = Some Bin.Sub
augmented Sign.StarEqual = Some Bin.Mult
augmented Sign.AtEqual = Some Bin.MatMult
augmented Sign.SlashEqual = Some Bin.Div
augmented Sign.PercentEqual = Some Bin.Mod
augmented Sign.AmperEqual = Some Bin.BitAnd
augmented Sign.VBarEqual = Some Bin.BitOr
augmented Sign.CircumflexEqual = Some Bin.BitXor
augmented Sign.LeftShiftEqual = Some Bin.LShift
augmented Sign.RightShiftEqual = Some Bin.RShift
augmented Sign.DoubleStarEqual = Some Bin.Pow
augmented Sign.DoubleSlashEqual = Some Bin.FloorDiv
augmented _ = None

abbrev pub is_name : Expr → Bool
is_name (Trees.Name x c) = true
is_name _ = false

-- (Target "=")+
pub data Targets : List Terminal → List Expr → Type 0 where
  last_target : {ts : List Terminal} {e : Expr} → Target ts e → Targets (ts ++ (Op Sign.Equal ∷ [])) (e ∷ [])
  more_targets : {ts us : List Terminal} {e : Expr} {es : List Expr} → Target ts e → Targets us es
      → Targets (ts ++ (Op Sign.Equal ∷ us)) (e ∷ es)

pub data Simple (profile : Profile) : List Terminal → Stmt → Type 0 where
  -- Value
  value : {ts : List Terminal} {e : Expr} → Derives Value ts e → Simple profile ts (ExprOf e)
  -- (Target "=")+ Value
  assign : {ts us : List Terminal} {targets : List Expr} {e : Expr} →
      Targets ts targets → Derives Value us e → Simple profile (ts ++ us) (Assign targets e)
  -- SingleTarget augmented Value
  augmented_assign : {ts us : List Terminal} (x : Exact) {o : Operator} {t e : Expr} →
      SingleTarget ts t → augmented x ≡ Some o → Derives Value us e → Simple profile (ts ++ (Op x ∷ us)) (AugAssign t o e)
  -- NAME ":" Expression ["=" Value]
  annotated_name : {x : Spelled} {ts us : List Terminal} {a : Expr} {v : Option Expr} →
      Derives Expression ts a → Following (Op Sign.Equal) Value us v →
      Simple profile (Ident x ∷ (Op Sign.Colon ∷ (ts ++ us))) (AnnAssign (Trees.Name x.form Store) a v true)
  -- "(" SingleTarget ")" ":" Expression ["=" Value]
  annotated_group : {ts us vs : List Terminal} {t a : Expr} {v : Option Expr} →
      SingleTarget ts t → Derives Expression us a → Following (Op Sign.Equal) Value vs v →
      Simple profile (Op Sign.LPar ∷ (ts ++ (Op Sign.RPar ∷ (Op Sign.Colon ∷ (us ++ vs))))) (AnnAssign t a v false)
  -- Attribute or Subscript ":" Expression ["=" Value]
  annotated_part : {ts us vs : List Terminal} {t a : Expr} {v : Option Expr} →
      SingleTarget ts t → is_name t ≡ false → Derives Expression us a → Following (Op Sign.Equal) Value vs v →
      Simple profile (ts ++ (Op Sign.Colon ∷ (us ++ vs))) (AnnAssign t a v false)
  -- "type" NAME [TypeParams] "=" Expression
  type_alias : {form : Identifier} {x : Spelled} {ts us : List Terminal} {ps : List TypeParam} {e : Expr} →
      has_types profile ≡ true → TypeParams profile ts ps → Derives Expression us e →
      Simple profile (type_word form ∷ (Ident x ∷ (ts ++ (Op Sign.Equal ∷ us)))) (TypeAlias (Trees.Name x.form Store) ps e)
  -- "return" [Stars]
  return_of : {ts : List Terminal} {e : Option Expr} → Perhaps Stars ts e → Simple profile (Word Key.Return ∷ ts) (Return e)
  -- "raise" [Expression ["from" Expression]], without them
  raise_alone : Simple profile (Word Key.Raise ∷ []) (Raise None None)
  -- "raise" [Expression ["from" Expression]], with the first
  raise_of : {ts us : List Terminal} {e : Expr} {c : Option Expr} →
      Derives Expression ts e → Following (Word Key.From) Expression us c → Simple profile (Word Key.Raise ∷ (ts ++ us)) (Raise (Some e) c)
  -- "assert" Expression ["," Expression]
  assert_of : {ts us : List Terminal} {e : Expr} {m : Option Expr} →
      Derives Expression ts e → Following (Op Sign.Comma) Expression us m → Simple profile (Word Key.Assert ∷ (ts ++ us)) (Assert e m)
  -- "del" DelTarget,.. [,]
  delete : {ts : List Terminal} {es : List Expr} → Commas? Expr DelTarget ts es → Simple profile (Word Key.Del ∷ ts) (Delete es)
  -- "global" NAME,..
  global : {ts : List Terminal} {xs : List Identifier} → Commas Identifier Name ts xs → Simple profile (Word Key.Global ∷ ts) (Global xs)
  -- "nonlocal" NAME,..
  nonlocal : {ts : List Terminal} {xs : List Identifier} → Commas Identifier Name ts xs
      → Simple profile (Word Key.Nonlocal ∷ ts) (Nonlocal xs)
  -- "pass"
  pass : Simple profile (Word Key.Pass ∷ []) Pass
  -- "break"
  break : Simple profile (Word Key.Break ∷ []) Break
  -- "continue"
  continue : Simple profile (Word Key.Continue ∷ []) Continue
  -- "import" (Dotted ["as" NAME]),..
  import_names : {ts : List Terminal} {as_ : List Alias} → Commas Alias DottedAlias ts as_
      → Simple profile (Word Key.Import ∷ ts) (Import as_)
  -- "from" ("." | "...")* Dotted "import" Names
  from_module : {ts us vs : List Terminal} {n : ℕ} {m : Identifier} {as_ : List Alias} →
      Dots ts n → Dotted us m → Names vs as_ → Simple profile (Word Key.From ∷ (ts ++ (us ++ (Word Key.Import ∷ vs))))
      (ImportFrom (Some m) as_ n)
  -- "from" ("." | "...")+ "import" Names
  from_dots : {ts vs : List Terminal} {n : ℕ} {as_ : List Alias} →
      Dots ts n → 0 < n → Names vs as_ → Simple profile (Word Key.From ∷ (ts ++ (Word Key.Import ∷ vs))) (ImportFrom None as_ n)

-- Simple (";" Simple)* [";"]
pub data Simples (profile : Profile) : List Terminal → List Stmt → Type 0 where
  last_simple : {ts : List Terminal} {s : Stmt} → Simple profile ts s → Simples profile ts (s ∷ [])
  ended_simple : {ts : List Terminal} {s : Stmt} → Simple profile ts s → Simples profile (ts ++ (Op Sign.Semi ∷ [])) (s ∷ [])
  more_simples : {ts us : List Terminal} {s : Stmt} {ss : List Stmt} → Simple profile ts s → Simples profile us ss
      → Simples profile (ts ++ (Op Sign.Semi ∷ us)) (s ∷ ss)

-- ---- Headers, up to their colon.

abbrev pub item : Expr → Option Expr → Item
item e t = record { context_expr = e; optional_vars = t }

-- Item = Expression ["as" ItemTarget]
pub data ItemOf : List Terminal → Item → Type 0 where
  bare_item : {ts : List Terminal} {e : Expr} → Derives Expression ts e → ItemOf ts (item e None)
  item_as : {ts us : List Terminal} {e t : Expr} → Derives Expression ts e → ItemTarget us t
      → ItemOf (ts ++ (Word Key.As ∷ us)) (item e (Some t))

-- "(" Item,.. [,] ")"
pub data Bracketed : List Terminal → List Item → Type 0 where
  bracketed : {ts : List Terminal} {is : List Item} → Commas? Item ItemOf ts is → Bracketed (Op Sign.LPar ∷ (ts ++ (Op Sign.RPar ∷ []))) is

-- Items = Item,.. | "(" Item,.. [,] ")"; of the two readings the bracketed one counts where both exist
pub data Items : List Terminal → List Item → Type 0 where
  in_brackets : {ts : List Terminal} {is : List Item} → Bracketed ts is → Items ts is
  without : {ts : List Terminal} {is : List Item} → Commas Item ItemOf ts is
      → ((others : List Item) → Bracketed ts others → ⊥) → Items ts is

abbrev pub listed : Exprs → List Expr
listed no_exprs = []
listed (an_expr e es) = e ∷ listed es

-- ["(" [Args] ")"]
pub data Bases : List Terminal → List Expr → Keywords → Type 0 where
  no_bases : Bases [] [] no_keyword
  bases : {ts : List Terminal} {es : List Entry} → Listing Argument ts es → in_order false false es ≡ true →
      Bases (Op Sign.LPar ∷ (ts ++ (Op Sign.RPar ∷ []))) (listed (positional es)) (keywords es)

pub data HeaderOf (profile : Profile) : List Terminal → Header → Type 0 where
  -- "if" Named
  if_line : {ts : List Terminal} {e : Expr} → Derives Named ts e → HeaderOf profile (Word Key.If ∷ ts) (if_header e)
  -- "elif" Named
  elif_line : {ts : List Terminal} {e : Expr} → Derives Named ts e → HeaderOf profile (Word Key.Elif ∷ ts) (elif_header e)
  -- "else"
  else_line : HeaderOf profile (Word Key.Else ∷ []) else_header
  -- "while" Named
  while_line : {ts : List Terminal} {e : Expr} → Derives Named ts e → HeaderOf profile (Word Key.While ∷ ts) (loop_header (while_head e))
  -- ["async"] "for" Target "in" Stars
  for_line : {ts us vs : List Terminal} {b : Bool} {t e : Expr} → Async ts b → Target us t → Derives Stars vs e →
      HeaderOf profile (ts ++ (Word Key.For ∷ (us ++ (Word Key.In ∷ vs)))) (loop_header (for_head b t e))
  -- ["async"] "with" Items
  with_line : {ts us : List Terminal} {b : Bool} {is : List Item} → Async ts b → Items us is
      → HeaderOf profile (ts ++ (Word Key.With ∷ us)) (with_header b is)
  -- "try"
  try_line : HeaderOf profile (Word Key.Try ∷ []) try_header
  -- "finally"
  finally_line : HeaderOf profile (Word Key.Finally ∷ []) finally_header
  -- "except" [Expression ["as" NAME]], without the Expression
  except_all : HeaderOf profile (Word Key.Except ∷ []) (except_header false None None)
  -- "except" [Expression ["as" NAME]], with it
  except_line : {ts us : List Terminal} {e : Expr} {x : Option Identifier} → Derives Expression ts e → As us x →
      HeaderOf profile (Word Key.Except ∷ (ts ++ us)) (except_header false (Some e) x)
  -- "except" "*" Expression ["as" NAME]
  except_star : {ts us : List Terminal} {e : Expr} {x : Option Identifier} → Derives Expression ts e → As us x →
      HeaderOf profile (Word Key.Except ∷ (Op Sign.Star ∷ (ts ++ us))) (except_header true (Some e) x)
  -- ["async"] "def" NAME [TypeParams] "(" [Params] ")" ["->" Expression]
  def_line : {ts us vs ws : List Terminal} {b : Bool} (x : Spelled) {tps : List TypeParam} {ps : List Entry}
      {a : Arguments} {r : Option Expr} →
      Async ts b → TypeParams profile us tps → Listing (Parameter true) vs ps → arranged ps ≡ Some a
      → Following (Op Sign.RArrow) Expression ws r →
      HeaderOf profile (ts ++ (Word Key.Def ∷ (Ident x ∷ (us ++ (Op Sign.LPar ∷ (vs ++ (Op Sign.RPar ∷ ws)))))))
      (def_header (function_head b x.form tps a r))
  -- "class" NAME [TypeParams] ["(" [Args] ")"]
  class_line : {x : Spelled} {ts us : List Terminal} {tps : List TypeParam} {es : List Expr} {ks : Keywords} →
      TypeParams profile ts tps → Bases us es ks → HeaderOf profile (Word Key.Class ∷ (Ident x ∷ (ts ++ us)))
      (def_header (class_head x.form tps es ks))

-- ---- `match` and `case`, which are no keywords: NAMEs that are spelled so.

abbrev pub match_name : Identifier
match_name = codes "match"

abbrev pub match_word : Identifier → Terminal
match_word form = Ident (record { spelling = match_name; form = form })

abbrev pub case_name : Identifier
case_name = codes "case"

abbrev pub case_word : Identifier → Terminal
case_word form = Ident (record { spelling = case_name; form = form })

-- the extent that has `match` statements
abbrev pub is_whole : Extent → Bool
is_whole extents.Whole = true
is_whole extents.Plain = false

abbrev pub begins_case : List Terminal → Bool
begins_case (Ident x ∷ ts) = bytes_eq x.spelling case_name
begins_case _ = false

-- a line that begins with `case` and stands in a `match` is the header of a case, if it is anything
abbrev pub is_case_line : Profile → Bool → List Terminal → Bool
is_case_line profile inside ts = is_whole profile.extent && (inside && begins_case ts)

-- "case" Patterns ["if" Named], up to the colon
pub data CaseOf : List Terminal → Header → Type 0 where
  case_line : {ts us : List Terminal} {p : Pattern} {g : Option Expr} (form : Identifier) → DerivesPattern Patterns ts p
      → Following (Word Key.If) Named us g →
      CaseOf (case_word form ∷ (ts ++ us)) (case_header p g)

-- ---- Lines.

-- what a line is that is no `case` of a `match`
pub data FormOf (profile : Profile) : List Terminal → Form → Type 0 where
  -- Simple (";" Simple)* [";"]
  simple_statements : {ts : List Terminal} {ss : List Stmt} → Simples profile ts ss → FormOf profile ts (simple_form ss)
  -- "@" Named
  decorator_line : {ts : List Terminal} {e : Expr} → Derives Named ts e → FormOf profile (Op Sign.At ∷ ts) (decorator_form e)
  -- Header ":"
  header_line : {ts : List Terminal} {h : Header} → HeaderOf profile ts h → FormOf profile (ts ++ (Op Sign.Colon ∷ [])) (header_form h None)
  -- Header ":" Simple (";" Simple)* [";"]
  header_suite : {ts us : List Terminal} {h : Header} {ss : List Stmt} → HeaderOf profile ts h → Simples profile us ss →
      FormOf profile (ts ++ (Op Sign.Colon ∷ us)) (header_form h (Some ss))
  -- "match" Subject ":"
  match_line : {ts : List Terminal} {e : Expr} (form : Identifier) → is_whole profile.extent ≡ true → Derives Subject ts e →
      FormOf profile (match_word form ∷ (ts ++ (Op Sign.Colon ∷ []))) (header_form (match_header e) None)

-- what a line is at its place: whether it stands in a `match`
pub data FormAt (profile : Profile) : Bool → List Terminal → Form → Type 0 where
  other_line : {inside : Bool} {ts : List Terminal} {f : Form} → is_case_line profile inside ts ≡ false → FormOf profile ts f
      → FormAt profile inside ts f
  -- Case ":"
  case_alone : {ts : List Terminal} {h : Header} → is_whole profile.extent ≡ true → CaseOf ts h
      → FormAt profile true (ts ++ (Op Sign.Colon ∷ [])) (header_form h None)
  -- Case ":" Simple (";" Simple)* [";"]
  case_suite : {ts us : List Terminal} {h : Header} {ss : List Stmt} → is_whole profile.extent ≡ true → CaseOf ts h
      → Simples profile us ss →
      FormAt profile true (ts ++ (Op Sign.Colon ∷ us)) (header_form h (Some ss))
