-- Carries: the laws of pieces. On: what stands in a logical line, each form from its parts.
use Rattle.std.proofs.Common.{◌≡◌, Bool, true, false, List, [], ◌∷◌, ◌++◌, Option, Some, None, map, refl, append_assoc}
use Rattle.std.specs.Str.{bytes_eq}
use Rattle.std.proofs.lemmas.Slice.Eq.{bytes_eq-Decides}
use Rattle.pylex_lexeme.specs.declared.kinds.Exact.{Exact}
use Rattle.pylex_lexeme.specs.declared.kinds.Exact.TheVariants.{LSqb, Colon, Comma, Star, Equal, RArrow}
use Rattle.pylex_lexeme.specs.Operators.{operators}
use Rattle.pytoken.specs.declared.keywords.Keyword.{Keyword}
use Rattle.pytoken.specs.declared.keywords.Keyword.TheVariants as Key
use Rattle.pytree_node.specs.declared.operators.Operator.{Operator}
use Rattle.pytree_node.specs.declared.operators.Operator.TheVariants as Bin
use Rattle.pygrammar.specs.declared.levels.Level.TheVariants.{Value, Stars, Named, Expression, Primary}
use Rattle.pytree_node.specs.Trees
use Rattle.pytree_node.specs.Trees.{Identifier, Expr, exprs, TypeParam, TypeVar, ParamSpec, TypeVarTuple}
use Rattle.pytoken.specs.Terminals.{Terminal, Op, in_form}
use Rattle.pytoken.specs.Laws.{IsProper}
use Rattle.pygrammar.specs.Forms.{type_name}
use Rattle.pyunparse_text.specs.Written.{free, word, leading, trailing, tight, listed, written}
use Rattle.pyunparse_text.specs.Terminals.{terminal}
use Rattle.pyunparse_text.specs.Pieces.{Sited, sited, piece}
use Rattle.pyunparse_text.specs.Statements as S
use Rattle.pyunparse_text.proofs.PieceLaws.Sound.{Writable, AreWritable}
use Rattle.pyunparse_text.proofs.PieceLaws.Places.{Place, is_inside}
use Rattle.pyunparse_text.proofs.PieceLaws.Sorts.{suit, starts_plain, starts_item, ends_plain, ends_comma, more_item, more_comma}
use Rattle.pyunparse_text.proofs.PieceLaws.Fair.{fair_sign, is_bracket, opens_none, closes_none}
use Rattle.pyunparse_text.proofs.PieceLaws.Segments.{Closed, Perhaps, nothing, some, Each, none, more, join, widen, token, sign, tail}
use Rattle.pyunparse_text.proofs.PieceLaws.Segments.{between, group}
use Rattle.pyunparse_text.proofs.PieceLaws.Segments.{indexed, loosely, separated_are, comma}
use Rattle.pyunparse_text.proofs.PieceLaws.Shapes.{Plain, keyword, plain_name, plain_both, colon, double_star}
use Rattle.pyunparse_text.proofs.PieceLaws.Shapes as Shape
use Rattle.pyunparse_text.proofs.PieceLaws.Listings.{perhaps_both, items_listed, plain_tail}
use Rattle.pyunparse_text.proofs.PieceLaws.Readable.{readable}
use Rattle.pyunparse_text.proofs.PieceLaws.SoftWords.{type_is_proper}

-- what a value, or a list of targets, is
abbrev pub Valued : Place → List Sited → List Terminal → Type 0
Valued place ps ts = Closed place starts_item ends_comma ps ts

abbrev pub SoundOption : Place → Bool → Option Expr → Type 0
SoundOption place s None = Unit {0}
SoundOption place s (Some e) = Writable place s e

abbrev pub MaybeProper : Option Identifier → Type 0
MaybeProper None = Unit {0}
MaybeProper (Some x) = IsProper x

pub plain_suit : suit ends_plain starts_plain ≡ true
unfolding operators
plain_suit = refl

abbrev pub AreProper : List Identifier → Type 0
AreProper [] = Unit {0}
AreProper (x ∷ xs) = IsProper x × AreProper xs

sign_none : (o : Operator) → is_bracket (S.augmented_sign o) ≡ false
sign_none Bin.Add = refl
sign_none Bin.Sub = refl
sign_none Bin.Mult = refl
sign_none Bin.MatMult = refl
sign_none Bin.Div = refl
sign_none Bin.Mod = refl
sign_none Bin.Pow = refl
sign_none Bin.LShift = refl
sign_none Bin.RShift = refl
sign_none Bin.BitOr = refl
sign_none Bin.BitXor = refl
sign_none Bin.BitAnd = refl
sign_none Bin.FloorDiv = refl

abbrev pub SoundType : Place → TypeParam → Type 0
SoundType place (TypeVar x bound) = IsProper x × SoundOption place false bound
SoundType place (TypeVarTuple x) = IsProper x
SoundType place (ParamSpec x) = IsProper x

abbrev pub SoundTypes : Place → List TypeParam → Type 0
SoundTypes place [] = Unit {0}
SoundTypes place (p ∷ ps) = SoundType place p × SoundTypes place ps

module _ {place : Place} where
  pub valued : {xs : List Sited} {ts : List Terminal} → Plain place xs ts → Valued place xs ts
  valued x = widen more_item more_comma x

  -- a word and what stands after it
  pub word_value : (k : Keyword) {xs : List Sited} {ts : List Terminal} → Perhaps place starts_item ends_comma xs ts
      → Closed place starts_plain ends_comma (word piece k ∷ xs) (word terminal k ∷ ts)
  unfolding operators
  word_value k x = tail (widen {c = starts_plain} (λ p e. e) more_comma (keyword k)) x refl

  pub name_value : (x : Identifier) → IsProper x → {xs : List Sited} {ts : List Terminal} → Valued place xs ts
      → Closed place starts_plain ends_comma (free piece (in_form x) ∷ xs) (free terminal (in_form x) ∷ ts)
  unfolding operators
  name_value x h y = join (plain_name x h) y refl

  pub word_plain : {xs : List Sited} {ts : List Terminal} (k : Keyword) → Perhaps place starts_plain ends_plain xs ts
      → Plain place (word piece k ∷ xs) (word terminal k ∷ ts)
  word_plain k x = plain_tail (keyword k) x

  -- a sign between two blanks
  pub loose : (s : Exact) → is_bracket s ≡ false
      → Closed place (free piece (Op s) ∷ []) (free piece (Op s) ∷ []) (free piece (Op s) ∷ []) (free terminal (Op s) ∷ [])
  loose s b =
      let e : bytes_eq (sited (Op s) false false false).text (sited (Op s) false false false).text ≡ true =
      (bytes_eq-Decides (sited (Op s) false false false).text (sited (Op s) false false false).text).1 refl in
      token (free piece (Op s) ∷ []) (free piece (Op s) ∷ []) (Op s) false false (fair_sign s)
      (opens_none s false false (is_inside place.depth) b)
      (closes_none s false false (is_inside place.depth) b) (rw e refl) (rw e refl)

  pub loose_between : (s : Exact) → is_bracket s ≡ false → {xs ys : List Sited} {ts us : List Terminal}
      → Valued place xs ts → Valued place ys us
      → Valued place (xs ++ (free piece (Op s) ∷ ys)) (ts ++ (free terminal (Op s) ∷ us))
  unfolding operators
  loose_between s b x y = join x (join (loose s b) y refl) refl

  -- ---- What may be left out.

  pub option_stars : (e : Option Expr) → SoundOption place true e
      → Perhaps place starts_item ends_comma (S.perhaps_written piece Stars e) (S.perhaps_written terminal Stars e)
  option_stars None h = nothing
  option_stars (Some e) h = some (readable true Stars e h)

  pub option_plain : (e : Option Expr) → SoundOption place false e
      → Perhaps place starts_plain ends_plain (S.perhaps_written piece Expression e) (S.perhaps_written terminal Expression e)
  option_plain None h = nothing
  option_plain (Some e) h = some (readable false Expression e h)

  pub option_word : (k : Keyword) (e : Option Expr) → SoundOption place false e
      → Perhaps place starts_plain ends_plain (S.following piece (word piece k) Expression e)
      (S.following terminal (word terminal k) Expression e)
  option_word k None h = nothing
  option_word k (Some e) h = some (plain_both (keyword k) (readable false Expression e h))

  pub option_value : (e : Option Expr) → SoundOption place true e
      → Perhaps place (free piece (Op Equal) ∷ []) ends_comma (S.following piece (free piece (Op Equal)) Value e)
      (S.following terminal (free terminal (Op Equal)) Value e)
  unfolding operators
  option_value None h = nothing
  option_value (Some e) h = some (join (loose Equal refl) (readable true Value e h) refl)

  pub option_message : (e : Option Expr) → SoundOption place false e
      → Perhaps place (trailing piece Comma ∷ []) ends_plain (S.following piece (trailing piece Comma) Expression e)
      (S.following terminal (trailing terminal Comma) Expression e)
  unfolding operators
  option_message None h = nothing
  option_message (Some e) h = some (join comma (readable false Expression e h) refl)

  pub option_bound : (e : Option Expr) → SoundOption place false e
      → Perhaps place (trailing piece Colon ∷ []) ends_plain (S.following piece (trailing piece Colon) Expression e)
      (S.following terminal (trailing terminal Colon) Expression e)
  unfolding operators
  option_bound None h = nothing
  option_bound (Some e) h = some (join colon (readable false Expression e h) refl)

  pub option_result : (e : Option Expr) → SoundOption place false e
      → Perhaps place (free piece (Op RArrow) ∷ []) ends_plain (S.following piece (free piece (Op RArrow)) Expression e)
      (S.following terminal (free terminal (Op RArrow)) Expression e)
  unfolding operators
  option_result None h = nothing
  option_result (Some e) h = some (join (loose RArrow refl) (readable false Expression e h) refl)

  -- a guard
  pub option_test : (e : Option Expr) → SoundOption place false e
      → Perhaps place starts_plain ends_plain (S.following piece (word piece Key.If) Named e)
      (S.following terminal (word terminal Key.If) Named e)
  option_test None h = nothing
  option_test (Some e) h = some (plain_both (keyword Key.If) (readable false Named e h))

  pub as_name_are : (x : Option Identifier) → MaybeProper x
      → Perhaps place starts_plain ends_plain (S.as_name piece x) (S.as_name terminal x)
  as_name_are None h = nothing
  as_name_are (Some x) h = some (plain_both (keyword Key.As) (plain_name x h))

  -- ---- Simple statements.

  pub raise_are : (e c : Option Expr) → SoundOption place false e → SoundOption place false c
      → Plain place (word piece Key.Raise ∷ (S.perhaps_written piece Expression e ++ S.following piece (word piece Key.From) Expression c))
      (word terminal Key.Raise ∷ (S.perhaps_written terminal Expression e ++ S.following terminal (word terminal Key.From) Expression c))
  raise_are e c h i = word_plain Key.Raise (perhaps_both plain_suit (option_plain e h) (option_word Key.From c i))

  pub plain_listed : {xss : List (List Sited)} {tss : List (List Terminal)} → Each place starts_plain ends_plain xss tss
      → Perhaps place starts_plain ends_plain (listed piece xss) (listed terminal tss)
  unfolding operators
  plain_listed x = separated_are (trailing piece Comma) (trailing terminal Comma) comma refl refl x

  pub names_each : (xs : List Identifier) → AreProper xs
      → Each place starts_plain ends_plain (map (S.one_name piece) xs) (map (S.one_name terminal) xs)
  names_each [] h = none
  names_each (x ∷ xs) h = more (plain_name x h.0) (names_each xs h.1)

  pub assign_are : (ts : List Expr) (e : Expr) → AreWritable place true (exprs ts) → Writable place true e
      → Valued place (S.targets piece ts ++ written piece Value e) (S.targets terminal ts ++ written terminal Value e)
  assign_are [] e h i = readable true Value e i
  assign_are (t ∷ ts) e h i =
      let f = append_assoc (written piece Stars t) (free piece (Op Equal) ∷ S.targets piece ts) (written piece Value e) in
      let g = append_assoc (written terminal Stars t) (free terminal (Op Equal) ∷ S.targets terminal ts) (written terminal Value e) in
      rw (f, g) (loose_between Equal refl (readable true Stars t h.0) (assign_are ts e h.1 i))

  pub augment_are : (t : Expr) (o : Operator) (e : Expr) → Writable place false t → Writable place true e
      → Valued place (written piece Primary t ++ (free piece (Op (S.augmented_sign o)) ∷ written piece Value e))
      (written terminal Primary t ++ (free terminal (Op (S.augmented_sign o)) ∷ written terminal Value e))
  augment_are t o e h i = loose_between (S.augmented_sign o) (sign_none o) (valued (readable false Primary t h)) (readable true Value e i)

  annotated_are : (t : Expr) (b : Bool) → Writable place false t → Plain place (S.annotated piece t b) (S.annotated terminal t b)
  unfolding written
  annotated_are (Trees.Name x c) false h = group (some (loosely (readable false Primary (Trees.Name x c) h)))
  annotated_are t b h = readable false Primary t h

  annotation_form : {xs ys zs : List Sited} {ts us vs : List Terminal} → Plain place xs ts → Plain place ys us
      → Perhaps place (free piece (Op Equal) ∷ []) ends_comma zs vs
      → Closed place starts_plain ends_comma (xs ++ (trailing piece Colon ∷ (ys ++ zs))) (ts ++ (trailing terminal Colon ∷ (us ++ vs)))
  unfolding operators
  annotation_form x y z = join x (join colon (tail (widen {c = starts_plain} (λ p e. e) more_comma y) z refl) refl) refl

  pub annotate_are : (t a : Expr) (e : Option Expr) (b : Bool) → Writable place false t → Writable place false a → SoundOption place true e
      → Closed place starts_plain ends_comma
      (S.annotated piece t b ++ (trailing piece Colon ∷ (written piece Expression a ++ S.following piece (free piece (Op Equal)) Value e)))
      (S.annotated terminal t b ++
      (trailing terminal Colon ∷ (written terminal Expression a ++ S.following terminal (free terminal (Op Equal)) Value e)))
  annotate_are t a e b h i j = annotation_form (annotated_are t b h) (readable false Expression a i) (option_value e j)

  assert_form : {xs ys : List Sited} {ts us : List Terminal} → Plain place xs ts
      → Perhaps place (trailing piece Comma ∷ []) ends_plain ys us
      → Plain place (word piece Key.Assert ∷ (xs ++ ys)) (word terminal Key.Assert ∷ (ts ++ us))
  unfolding operators
  assert_form x y = plain_both (keyword Key.Assert) (tail x y refl)

  pub assert_are : (e : Expr) (m : Option Expr) → Writable place false e → SoundOption place false m
      → Plain place (word piece Key.Assert ∷ (written piece Expression e ++ S.following piece (trailing piece Comma) Expression m))
      (word terminal Key.Assert ∷ (written terminal Expression e ++ S.following terminal (trailing terminal Comma) Expression m))
  assert_are e m h i = assert_form (readable false Expression e h) (option_message m i)

  -- ---- Parameters of types.

  pub star_name : (x : Identifier) → IsProper x
      → Shape.Item place (leading piece Star ∷ (free piece (in_form x) ∷ [])) (leading terminal Star ∷ (free terminal (in_form x) ∷ []))
  unfolding operators
  star_name x h = join (sign starts_item (leading piece Star ∷ []) Star false true refl refl refl) (plain_name x h) refl

  type_var_form : (x : Identifier) → IsProper x → {ys : List Sited} {us : List Terminal}
      → Perhaps place (trailing piece Colon ∷ []) ends_plain ys us
      → Shape.Item place (free piece (in_form x) ∷ ys) (free terminal (in_form x) ∷ us)
  unfolding operators
  type_var_form x h y = widen more_item (λ p e. e) (tail (plain_name x h) y refl)

  type_param_is : (p : TypeParam) → SoundType place p → Shape.Item place (S.type_param piece p) (S.type_param terminal p)
  type_param_is (TypeVar x bound) h = type_var_form x h.0 (option_bound bound h.1)
  type_param_is (TypeVarTuple x) h = star_name x h
  type_param_is (ParamSpec x) h = double_star (plain_name x h)

  type_each : (ps : List TypeParam) → SoundTypes place ps
      → Each place starts_item ends_plain (map (S.type_param piece) ps) (map (S.type_param terminal) ps)
  type_each [] h = none
  type_each (p ∷ ps) h = more (type_param_is p h.0) (type_each ps h.1)

  pub types_are : (ps : List TypeParam) → SoundTypes place ps
      → Perhaps place (tight piece LSqb ∷ []) ends_plain (S.type_params piece ps) (S.type_params terminal ps)
  types_are [] h = nothing
  types_are (p ∷ ps) h = some (indexed (items_listed (type_each (p ∷ ps) h)))

  alias_form : {xs ys zs : List Sited} {ts us vs : List Terminal} → Plain place xs ts
      → Perhaps place (tight piece LSqb ∷ []) ends_plain ys us
      → Plain place zs vs
      → Plain place (free piece (in_form type_name) ∷ (xs ++ (ys ++ (free piece (Op Equal) ∷ zs))))
      (free terminal (in_form type_name) ∷ (ts ++ (us ++ (free terminal (Op Equal) ∷ vs))))
  unfolding operators
  alias_form x y z = plain_both (plain_name type_name type_is_proper) (between x y (join (loose Equal refl) z refl) refl refl refl)

  pub type_alias_are : (t : Expr) (ps : List TypeParam) (e : Expr) → Writable place false t → SoundTypes place ps → Writable place false e
      → Plain place
      (free piece (in_form type_name) ∷
      (written piece Primary t ++ (S.type_params piece ps ++ (free piece (Op Equal) ∷ written piece Expression e))))
      (free terminal (in_form type_name) ∷
      (written terminal Primary t ++ (S.type_params terminal ps ++ (free terminal (Op Equal) ∷ written terminal Expression e))))
  type_alias_are t ps e h i j = alias_form (readable false Primary t h) (types_are ps i) (readable false Expression e j)
