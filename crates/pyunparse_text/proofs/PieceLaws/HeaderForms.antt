-- Carries: the laws of pieces. On: headers and decorators, each form from its parts.
use Rattle.std.proofs.Common.{◌≡◌, Bool, true, false, List, [], ◌∷◌, ◌++◌, Option, Some, None, map, refl}
use Rattle.std.specs.Prelude.{cond}
use Rattle.std.proofs.lemmas.Bool.{and_parts, or_right}
use Rattle.pylex_lexeme.specs.declared.kinds.Exact.TheVariants.{LPar, RPar, LSqb, Colon, Star, At, RArrow}
use Rattle.pylex_lexeme.specs.Operators.{operators, exact_of}
use Rattle.pytoken.specs.declared.keywords.Keyword.TheVariants as Key
use Rattle.pygrammar.specs.declared.levels.Level.TheVariants.{Stars, Named, Expression, Subject}
use Rattle.pygrammar.specs.declared.pattern_levels.PatternLevel.TheVariants.{Patterns}
use Rattle.pygrammar.specs.Forms.{match_name, case_name}
use Rattle.pygrammar.specs.Lines.{Header, if_header, elif_header, else_header, loop_header, with_header, try_header, except_header}
use Rattle.pygrammar.specs.Lines.{finally_header}
use Rattle.pygrammar.specs.Lines.{def_header, match_header, case_header, while_head, for_head, function_head, class_head}
use Rattle.pytree_node.specs.Trees
use Rattle.pytree_node.specs.Trees.{Identifier, Expr, exprs, Keywords, no_keyword, a_keyword, Item}
use Rattle.pytoken.specs.Terminals.{Terminal, Op, in_form}
use Rattle.pytoken.specs.Laws.{IsProper}
use Rattle.pyunparse_text.specs.Spacing.{Piece, is_token}
use Rattle.pytree_node.specs.declared.profiles.Extent.{Extent}
use Rattle.pyunparse_text.specs.Written.{free, word, leading, trailing, tight, enclosed, bracketed, listed, written, each, by_name}
use Rattle.pyunparse_text.specs.Terminals.{terminal}
use Rattle.pyunparse_text.specs.Pieces.{Sited, piece}
use Rattle.pyunparse_text.specs.Statements as S
use Rattle.pyunparse_text.proofs.PieceLaws.Sound.{Writable, AreWritable, WritableKeywords, WritableArguments}
use Rattle.pyunparse_text.proofs.PieceLaws.Places.{open_place}
use Rattle.pyunparse_text.proofs.PieceLaws.Sorts.{within, suit, is_like, like, starts_plain, starts_item, ends_plain, ends_comma}
use Rattle.pyunparse_text.proofs.PieceLaws.Sorts.{more_item}
use Rattle.pyunparse_text.proofs.PieceLaws.Sorts.{more_comma}
use Rattle.pyunparse_text.proofs.PieceLaws.Fair.{fair_sign}
use Rattle.pyunparse_text.proofs.PieceLaws.Segments.{Closed, Perhaps, nothing, some, Each, none, more, join, widen, one, within_brackets}
use Rattle.pyunparse_text.proofs.PieceLaws.Segments.{sign, tail}
use Rattle.pyunparse_text.proofs.PieceLaws.Segments.{between, group, called}
use Rattle.pyunparse_text.proofs.PieceLaws.Shapes.{Plain, Item as AnItem, keyword, plain_name, plain_both, colon, starred_form}
use Rattle.pyunparse_text.proofs.PieceLaws.Shapes.{starts_parameter}
use Rattle.pyunparse_text.proofs.PieceLaws.Shapes.{ends_parameter}
use Rattle.pyunparse_text.proofs.PieceLaws.Listings.{perhaps_widen, perhaps_both, each_widen, each_both, items_listed, parameters_listed}
use Rattle.pyunparse_text.proofs.PieceLaws.Listings.{plain_tail}
use Rattle.pyunparse_text.proofs.PieceLaws.Readable.{readable, each_are, by_name_are, parameters_are}
use Rattle.pyunparse_text.proofs.PieceLaws.Law.{Reads, closed_read}
use Rattle.pyunparse_text.proofs.PieceLaws.SoftWords.{match_is_proper, case_is_proper}
use Rattle.pyunparse_text.proofs.PieceLaws.LineForms.{Valued, word_value, name_value, word_plain, SoundOption, option_plain, option_result}
use Rattle.pyunparse_text.proofs.PieceLaws.LineForms.{option_test, MaybeProper, as_name_are, plain_suit, plain_listed, SoundTypes}
use Rattle.pyunparse_text.proofs.PieceLaws.LineForms.{types_are}
use Rattle.pyunparse_text.proofs.Patterns.Sound.{SoundPattern}
use Rattle.pyunparse_text.proofs.Patterns.Readable.{pattern_readable}

abbrev pub SoundItems : Extent → List Item → Type 0
SoundItems extent [] = Unit {0}
SoundItems extent (i ∷ is) = Writable (open_place extent) false i.context_expr × SoundOption (open_place extent) true
    i.optional_vars × SoundItems extent is

abbrev ends_handler : List Sited
ends_handler = leading piece Star ∷ ends_plain

more_star : (p : Piece) → within ends_plain p ≡ true → within ends_handler p ≡ true
more_star p e = let h = and_parts (is_token p.kind p.text) (is_like ends_plain p) e in let g =
    or_right (like (leading piece Star) p) (is_like ends_plain p) h.1 in rw (h.0, g) refl

abbrev pub SoundHeader : Extent → Header → Type 0
SoundHeader extent (if_header e) = Writable (open_place extent) false e
SoundHeader extent (elif_header e) = Writable (open_place extent) false e
SoundHeader extent else_header = Unit {0}
SoundHeader extent (loop_header (while_head e)) = Writable (open_place extent) false e
SoundHeader extent (loop_header (for_head b t e)) = Writable (open_place extent) true t × Writable (open_place extent) true e
SoundHeader extent (with_header b is) = SoundItems extent is
SoundHeader extent try_header = Unit {0}
SoundHeader extent (except_header b e x) = SoundOption (open_place extent) false e × MaybeProper x
SoundHeader extent finally_header = Unit {0}
SoundHeader extent (def_header (function_head b x ps a r)) = IsProper x × SoundTypes (open_place extent) ps × WritableArguments
    (open_place extent) a × SoundOption (open_place extent) false r
SoundHeader extent (def_header (class_head x ps es ks)) = IsProper x × SoundTypes (open_place extent) ps × AreWritable (open_place extent)
    true (exprs es) × WritableKeywords (open_place extent) ks
SoundHeader extent (match_header e) = Writable (open_place extent) false e
SoundHeader extent (case_header p g) = SoundPattern extent false p × SoundOption (open_place extent) false g

-- a header with its colon
abbrev pub ReadHeader : Extent → Header → Type 0
ReadHeader extent h = Reads extent (S.header_tokens piece h ++ (trailing piece Colon ∷ []))
    (S.header_tokens terminal h ++ (trailing terminal Colon ∷ []))

module _ {extent : Extent} where
  -- ---- Parts.

  async_before : (b : Bool) {e xs : List Sited} {ts : List Terminal} → Closed (open_place extent) starts_plain e xs ts
      → Closed (open_place extent) starts_plain e (S.async piece b ++ xs) (S.async terminal b ++ ts)
  unfolding operators
  async_before false x = x
  async_before true x = join (keyword Key.Async) x refl

  -- one, and perhaps others after it
  after : {a c d e : List Sited} {xs ys zs : List Sited} {ts us vs : List Terminal} → Closed (open_place extent) a d xs ts
      → Perhaps (open_place extent) c d ys us → Perhaps (open_place extent) e d zs vs → suit d c ≡ true → suit d e ≡ true
      → Closed (open_place extent) a d (xs ++ (ys ++ zs)) (ts ++ (us ++ vs))
  after x nothing z p q = tail x z q
  after x (some y) z p q = join x (tail y z q) p

  item_target_is : (e : Expr) → Writable (open_place extent) true e → AnItem (open_place extent) (S.item_target piece e)
      (S.item_target terminal e)
  item_target_is (Trees.Starred e c) h = starred_form Expression (readable false Expression e h.1)
  item_target_is e h = readable true Expression e h

  as_target_are : (o : Option Expr) → SoundOption (open_place extent) true o
      → Perhaps (open_place extent) starts_plain ends_plain (S.as_target piece o) (S.as_target terminal o)
  unfolding operators
  as_target_are None h = nothing
  as_target_are (Some e) h = some (join (keyword Key.As) (item_target_is e h) refl)

  items_each : (is : List Item) → SoundItems extent is
      → Each (open_place extent) starts_plain ends_plain (map (S.item piece) is) (map (S.item terminal) is)
  items_each [] h = none
  items_each (i ∷ is) h =
      more (plain_tail (readable false Expression i.context_expr h.0) (as_target_are i.optional_vars h.1)) (items_each is h.2)

  items_are : (is : List Item) → SoundItems extent is → Perhaps (open_place extent) starts_plain ends_plain
      (S.items piece is) (S.items terminal is)
  items_are is h = by (S.need_brackets is)
    where
      by : (b : Bool)
          → Perhaps (open_place extent) starts_plain ends_plain
          (cond b (bracketed piece (listed piece (map (S.item piece) is))) (listed piece (map (S.item piece) is)))
          (cond b (bracketed terminal (listed terminal (map (S.item terminal) is))) (listed terminal (map (S.item terminal) is)))
      by true = some (group (items_listed (each_widen {c = starts_item} {d = ends_plain} more_item (λ p e. e) (items_each is h))))
      by false = plain_listed (items_each is h)

  -- ---- Definitions.

  parameters_called : {xs : List Sited} {ts : List Terminal} → Perhaps (open_place extent) starts_parameter ends_parameter xs ts
      → Closed (open_place extent) (tight piece LPar ∷ []) ends_plain (enclosed piece (tight piece LPar) RPar xs)
      (enclosed terminal (tight terminal LPar) RPar ts)
  unfolding operators exact_of
  parameters_called x =
      within_brackets LPar RPar true refl refl refl refl refl refl refl
      (one (tight piece LPar ∷ []) (tight piece LPar ∷ []) (Op LPar) true true (fair_sign LPar) refl refl) x
      (one (trailing piece RPar ∷ []) ends_plain (Op RPar) true false (fair_sign RPar) refl refl) refl refl refl

  call_tail : {xs ys : List Sited} {ts us : List Terminal} → Perhaps (open_place extent) starts_parameter ends_parameter xs ts
      → Perhaps (open_place extent) (free piece (Op RArrow) ∷ []) ends_plain ys us
      → Closed (open_place extent) (tight piece LPar ∷ []) ends_plain (enclosed piece (tight piece LPar) RPar xs ++ ys)
      (enclosed terminal (tight terminal LPar) RPar ts ++ us)
  unfolding operators
  call_tail x y = tail (parameters_called x) y refl

  def_form : (x : Identifier) {ys zs : List Sited} {us vs : List Terminal} → IsProper x
      → Perhaps (open_place extent) (tight piece LSqb ∷ []) ends_plain ys us
      → Closed (open_place extent) (tight piece LPar ∷ []) ends_plain zs vs
      → Plain (open_place extent) (word piece Key.Def ∷ (free piece (in_form x) ∷ (ys ++ zs)))
      (word terminal Key.Def ∷ (free terminal (in_form x) ∷ (us ++ vs)))
  unfolding operators
  def_form x h y z = plain_both (keyword Key.Def) (between (plain_name x h) y z refl refl refl)

  bases_are : (es : List Expr) (ks : Keywords) → AreWritable (open_place extent) true (exprs es) → WritableKeywords (open_place extent) ks
      → Perhaps (open_place extent) (tight piece LPar ∷ []) ends_plain (S.bases piece es ks) (S.bases terminal es ks)
  unfolding by_name each
  bases_are [] no_keyword h i = nothing
  bases_are [] (a_keyword x e ks) h i = some (called (items_listed (by_name_are (a_keyword x e ks) i)))
  bases_are (e ∷ es) ks h i = some (called (items_listed (each_both (each_are Named (exprs (e ∷ es)) h) (by_name_are ks i))))

  class_form : (x : Identifier) {ys zs : List Sited} {us vs : List Terminal} → IsProper x
      → Perhaps (open_place extent) (tight piece LSqb ∷ []) ends_plain ys us
      → Perhaps (open_place extent) (tight piece LPar ∷ []) ends_plain zs vs
      → Plain (open_place extent) (word piece Key.Class ∷ (free piece (in_form x) ∷ (ys ++ zs)))
      (word terminal Key.Class ∷ (free terminal (in_form x) ∷ (us ++ vs)))
  unfolding operators
  class_form x h y z = plain_both (keyword Key.Class) (after (plain_name x h) y z refl refl)

  -- ---- Handlers: a bare `except *` is none, but can be read.

  star_handler : {xs : List Sited} {ts : List Terminal} → Perhaps (open_place extent) starts_plain ends_plain xs ts
      → Closed (open_place extent) starts_plain ends_handler (word piece Key.Except ∷ (leading piece Star ∷ xs))
      (word terminal Key.Except ∷ (leading terminal Star ∷ ts))
  unfolding operators
  star_handler x =
      join (keyword Key.Except)
      (tail (sign (leading piece Star ∷ []) ends_handler Star false true refl refl refl)
      (perhaps_widen {c = starts_plain} (λ p e. e) more_star x) refl) refl

  handler_is : (b : Bool) (e : Option Expr) (x : Option Identifier) → SoundOption (open_place extent) false e → MaybeProper x
      → Closed (open_place extent) starts_plain ends_handler (S.header_tokens piece (except_header b e x))
      (S.header_tokens terminal (except_header b e x))
  handler_is true e x h i = star_handler (perhaps_both plain_suit (option_plain e h) (as_name_are x i))
  handler_is false e x h i =
      widen {c = starts_plain} (λ p e. e) more_star (word_plain Key.Except (perhaps_both plain_suit (option_plain e h) (as_name_are x i)))

  -- ---- Loops.

  target_in_form : {xs ys : List Sited} {ts us : List Terminal} → Valued (open_place extent) xs ts → Valued (open_place extent) ys us
      → Valued (open_place extent) (xs ++ (word piece Key.In ∷ ys)) (ts ++ (word terminal Key.In ∷ us))
  unfolding operators
  target_in_form x y = join x (join (keyword Key.In) y refl) refl

  -- ---- Matches.

  pattern_form : {xs ys : List Sited} {ts us : List Terminal} → Valued (open_place extent) xs ts
      → Perhaps (open_place extent) starts_plain ends_plain ys us → Valued (open_place extent) (xs ++ ys) (ts ++ us)
  unfolding operators
  pattern_form x y = tail x (perhaps_widen {c = starts_plain} (λ p e. e) more_comma y) refl

  -- ---- Headers.

  plain_read : {xs : List Sited} {ts : List Terminal} → Plain (open_place extent) xs ts
      → Reads extent (xs ++ (trailing piece Colon ∷ [])) (ts ++ (trailing terminal Colon ∷ []))
  unfolding operators
  plain_read x = closed_read (join x colon refl)

  comma_read : {xs : List Sited} {ts : List Terminal} → Closed (open_place extent) starts_plain ends_comma xs ts
      → Reads extent (xs ++ (trailing piece Colon ∷ [])) (ts ++ (trailing terminal Colon ∷ []))
  unfolding operators
  comma_read x = closed_read (join x colon refl)

  handler_read : {xs : List Sited} {ts : List Terminal} → Closed (open_place extent) starts_plain ends_handler xs ts
      → Reads extent (xs ++ (trailing piece Colon ∷ [])) (ts ++ (trailing terminal Colon ∷ []))
  unfolding operators
  handler_read x = closed_read (join x colon refl)

  pub header_read : (h : Header) → SoundHeader extent h → ReadHeader extent h
  header_read (if_header e) h = plain_read (plain_both (keyword Key.If) (readable false Named e h))
  header_read (elif_header e) h = plain_read (plain_both (keyword Key.Elif) (readable false Named e h))
  header_read else_header h = plain_read (keyword Key.Else)
  header_read (loop_header (while_head e)) h = plain_read (plain_both (keyword Key.While) (readable false Named e h))
  header_read (loop_header (for_head b t e)) h =
      comma_read (async_before b (word_value Key.For (some (target_in_form (readable true Stars t h.0) (readable true Stars e h.1)))))
  header_read (with_header b is) h = plain_read (async_before b (word_plain Key.With (items_are is h)))
  header_read try_header h = plain_read (keyword Key.Try)
  header_read (except_header b e x) h = handler_read (handler_is b e x h.0 h.1)
  header_read finally_header h = plain_read (keyword Key.Finally)
  header_read (def_header (function_head b x ps a r)) h =
      plain_read (async_before b
      (def_form x h.0 (types_are ps h.1) (call_tail (parameters_listed (parameters_are a h.2)) (option_result r h.3))))
  header_read (def_header (class_head x ps es ks)) h = plain_read (class_form x h.0 (types_are ps h.1) (bases_are es ks h.2 h.3))
  header_read (match_header e) h = comma_read (name_value match_name match_is_proper (readable false Subject e h))
  header_read (case_header p g) h =
      comma_read (name_value case_name case_is_proper (pattern_form (pattern_readable false Patterns p h.0) (option_test g h.1)))

  pub decorator_read : (e : Expr) → Writable (open_place extent) false e
      → Reads extent (leading piece At ∷ written piece Named e) (leading terminal At ∷ written terminal Named e)
  unfolding operators
  decorator_read e h =
      closed_read (join (sign (leading piece At ∷ []) (leading piece At ∷ []) At false true refl refl refl) (readable false Named e h) refl)
