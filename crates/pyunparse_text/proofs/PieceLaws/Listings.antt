-- Carries: the laws of pieces. On: the forms of expressions that have lists in them.
use Rattle.std.proofs.Common.{◌≡◌, ℕ, ◌-◌, Bool, true, false, ◌||◌, List, [], ◌∷◌, ◌++◌, Option, Some, None, map, length, replicate, refl}
use Rattle.std.proofs.Common.{ap, zero}
use Rattle.std.proofs.Common.{suc}
use Rattle.std.specs.Prelude.{cond}
use Rattle.pylex_lexeme.specs.declared.kinds.Exact.TheVariants.{LPar, LSqb, Colon, Comma, Star, Slash, Equal, DoubleStar}
use Rattle.pytoken.specs.declared.keywords.Keyword.TheVariants as Key
use Rattle.pygrammar.specs.declared.levels.Level.{Level}
use Rattle.pygrammar.specs.declared.levels.Level.TheVariants.{Value, Stars, StarItem, Elem, Slices, Part, Subject}
use Rattle.pytree_node.specs.Trees.{Identifier}
use Rattle.pytoken.specs.Terminals.{Terminal, Op, Word, in_form}
use Rattle.pyunparse_text.specs.Spacing.{Piece, is_token}
use Rattle.pyunparse_text.specs.Written.{beside, element_level, tuple_level, free, leading, trailing, tight, listed, with_comma, tuple_of}
use Rattle.pyunparse_text.specs.Written.{for_in}
use Rattle.pyunparse_text.specs.Written.{after_equal, with_defaults, with_slash, with_star}
use Rattle.pyunparse_text.specs.Terminals.{terminal}
use Rattle.pyunparse_text.specs.Pieces.{Sited, piece}
use Rattle.pylex_lexeme.specs.Operators.{operators}
use Rattle.std.proofs.lemmas.Bool.{and_parts, or_right}
use Rattle.pytoken.specs.Laws.{IsProper}
use Rattle.pyunparse_text.proofs.PieceLaws.Places.{Place}
use Rattle.pyunparse_text.proofs.PieceLaws.Sorts.{suit, within, like, is_like, a_word, starts_other, starts_plain, starts_item}
use Rattle.pyunparse_text.proofs.PieceLaws.Sorts.{starts_part}
use Rattle.pyunparse_text.proofs.PieceLaws.Sorts.{ends_plain, ends_comma, ends_part, starts, ends, more_item, more_part, more_comma}
use Rattle.pyunparse_text.proofs.PieceLaws.Sorts.{more_colon}
use Rattle.pyunparse_text.proofs.PieceLaws.Segments.{Closed, Perhaps, nothing, some, Each, none, more, join, widen, sign, tail, head, group}
use Rattle.pyunparse_text.proofs.PieceLaws.Segments.{plainly}
use Rattle.pyunparse_text.proofs.PieceLaws.Segments.{separated_some, separated_are, comma}
use Rattle.pyunparse_text.proofs.PieceLaws.Shapes.{Plain, Item, keyword, name, plain_name, plain_both, colon, equal, starts_parameter}
use Rattle.pyunparse_text.proofs.PieceLaws.Shapes.{ends_parameter}

-- dictionaries: the keys, one of them absent for each `**`
pub data Keys (place : Place) : List (Option (List Sited)) → List (Option (List Terminal)) → Type 0 where
  no_key : Keys place [] []
  star_key : {xss : List (Option (List Sited))} {tss : List (Option (List Terminal))} → Keys place xss tss
      → Keys place (None ∷ xss) (None ∷ tss)
  a_key : {xs : List Sited} {ts : List Terminal} {xss : List (Option (List Sited))} {tss : List (Option (List Terminal))}
      → Plain place xs ts
      → Keys place xss tss → Keys place (Some xs ∷ xss) (Some ts ∷ tss)

pub any_both : suit ends_part starts_part ≡ true
unfolding operators
any_both = refl

pub data Maybes (place : Place) (b e : List Sited) : List (List Sited) → List (List Terminal) → Type 0 where
  no_maybe : Maybes place b e [] []
  a_maybe : {xs : List Sited} {ts : List Terminal} {xss : List (List Sited)} {tss : List (List Terminal)} → Perhaps place b e xs ts
      → Maybes place b e xss tss → Maybes place b e (xs ∷ xss) (ts ∷ tss)

-- parameters among others
more_last : (p : Piece) → within ends_plain p ≡ true → within ends_parameter p ≡ true
more_last p e = let h = and_parts (is_token p.kind p.text) (is_like ends_plain p) e in let g =
    or_right (like (free piece (Op Slash)) p) _ (or_right (like (leading piece Star) p) (is_like ends_plain p) h.1) in rw (h.0, g) refl

word_first : (p : Piece) → within (a_word ∷ []) p ≡ true → within starts_parameter p ≡ true
word_first p e =
    let h = and_parts (is_token p.kind p.text) (is_like (a_word ∷ []) p) e in
    let l : is_like starts_plain p ≡ true = head_or (like a_word p) (is_like starts_other p) h.1 in
    let g : is_like starts_parameter p ≡ true =
    or_right (like (free piece (Op Slash)) p) (is_like starts_item p)
    (or_right (like (leading piece Star) p) (is_like (leading piece DoubleStar ∷ starts_plain) p)
    (or_right (like (leading piece DoubleStar) p) (is_like starts_plain p) l)) in
    rw (h.0, g) refl
  where
    head_or : (a b : Bool) → (a || false) ≡ true → (a || b) ≡ true
    head_or true b e = refl
    head_or false b e = cc

module _ {place : Place} where
  pub perhaps_widen : {a b c d : List Sited} {xs : List Sited} {ts : List Terminal} → ((p : Piece) → within a p ≡ true → within c p ≡ true)
      → ((p : Piece) → within b p ≡ true → within d p ≡ true) → Perhaps place a b xs ts → Perhaps place c d xs ts
  perhaps_widen f g nothing = nothing
  perhaps_widen f g (some x) = some (widen f g x)

  pub each_widen : {a b c d : List Sited} {xss : List (List Sited)} {tss : List (List Terminal)}
      → ((p : Piece) → within a p ≡ true → within c p ≡ true) → ((p : Piece) → within b p ≡ true → within d p ≡ true)
      → Each place a b xss tss
      → Each place c d xss tss
  each_widen f g none = none
  each_widen f g (more x xs) = more (widen f g x) (each_widen f g xs)

  pub each_both : {a b : List Sited} {xss yss : List (List Sited)} {tss uss : List (List Terminal)} → Each place a b xss tss
      → Each place a b yss uss
      → Each place a b (xss ++ yss) (tss ++ uss)
  each_both none ys = ys
  each_both (more x xs) ys = more x (each_both xs ys)

  pub perhaps_both : {a b : List Sited} {xs ys : List Sited} {ts us : List Terminal} → suit b a ≡ true → Perhaps place a b xs ts
      → Perhaps place a b ys us → Perhaps place a b (xs ++ ys) (ts ++ us)
  perhaps_both e nothing y = y
  perhaps_both e (some x) y = some (tail x y e)

  -- what stands in brackets
  pub inside : {xs : List Sited} {ts : List Terminal} → Perhaps place starts_item ends_plain xs ts
      → Perhaps place starts_part ends_part xs ts
  inside x = perhaps_widen more_part (λ p e. more_colon p (more_comma p e)) x

  pub inside_plain : {xs : List Sited} {ts : List Terminal} → Plain place xs ts → Perhaps place starts_part ends_part xs ts
  inside_plain x = some (widen (λ p e. more_part p (more_item p e)) (λ p e. more_colon p (more_comma p e)) x)

  pub items_listed : {xss : List (List Sited)} {tss : List (List Terminal)} → Each place starts_item ends_plain xss tss
      → Perhaps place starts_part ends_part (listed piece xss) (listed terminal tss)
  unfolding operators
  items_listed x = inside (separated_are (trailing piece Comma) (trailing terminal Comma) comma refl refl x)

  pub parameters_listed : {xss : List (List Sited)} {tss : List (List Terminal)} → Each place starts_parameter ends_parameter xss tss
      → Perhaps place starts_parameter ends_parameter (listed piece xss) (listed terminal tss)
  unfolding operators
  parameters_listed x = separated_are (trailing piece Comma) (trailing terminal Comma) comma refl refl x

  -- one and a comma, and perhaps others
  comma_items : Closed place (trailing piece Comma ∷ []) ends_comma (trailing piece Comma ∷ []) (trailing terminal Comma ∷ [])
  comma_items = sign (trailing piece Comma ∷ []) ends_comma Comma true false refl refl refl

  comma_parts : Closed place (trailing piece Comma ∷ []) ends_part (trailing piece Comma ∷ []) (trailing terminal Comma ∷ [])
  comma_parts = sign (trailing piece Comma ∷ []) ends_part Comma true false refl refl refl

  pub with_comma_items : {xs : List Sited} {ts : List Terminal} {xss : List (List Sited)} {tss : List (List Terminal)} → Item place xs ts
      → Each place starts_item ends_plain xss tss → Closed place starts_item ends_comma (with_comma piece (xs ∷ xss))
      (with_comma terminal (ts ∷ tss))
  unfolding operators
  with_comma_items x xs =
      join x
      (tail comma_items (separated_are (trailing piece Comma) (trailing terminal Comma) comma refl refl
      (each_widen {c = starts_item} (λ p e. e) more_comma xs)) refl) refl

  with_comma_parts : {xs : List Sited} {ts : List Terminal} {xss : List (List Sited)} {tss : List (List Terminal)}
      → Closed place starts_part ends_part xs ts → Each place starts_part ends_part xss tss
      → Closed place starts_part ends_part (with_comma piece (xs ∷ xss)) (with_comma terminal (ts ∷ tss))
  unfolding operators
  with_comma_parts x xs =
      join x (tail comma_parts (separated_are (trailing piece Comma) (trailing terminal Comma) comma refl refl xs) refl) refl

  parts_listed : {xs : List Sited} {ts : List Terminal} {xss : List (List Sited)} {tss : List (List Terminal)}
      → Closed place starts_part ends_part xs ts → Each place starts_part ends_part xss tss
      → Closed place starts_part ends_part (listed piece (xs ∷ xss)) (listed terminal (ts ∷ tss))
  unfolding operators
  parts_listed x xs = separated_some (trailing piece Comma) (trailing terminal Comma) comma refl refl x xs

  -- tuples
  elements_grouped : {xss : List (List Sited)} {tss : List (List Terminal)} (b : Bool) → Each place starts_item ends_plain xss tss
      → Plain place (tuple_of piece Elem b xss) (tuple_of terminal Elem b tss)
  elements_grouped b none = group nothing
  elements_grouped b (more x xs) = group (some (widen more_part more_colon (with_comma_items x xs)))

  elements_bare : {xss : List (List Sited)} {tss : List (List Terminal)} (b : Bool) → Each place starts_item ends_plain xss tss
      → Closed place starts_item ends_comma (tuple_of piece StarItem b xss) (tuple_of terminal StarItem b tss)
  elements_bare b none = widen more_item more_comma (group nothing)
  elements_bare b (more x xs) = with_comma_items x xs

  elements_open : {xss : List (List Sited)} {tss : List (List Terminal)} (b : Bool) → Each place starts_item ends_plain xss tss
      → Closed place starts_item ends_comma (tuple_of piece Subject b xss) (tuple_of terminal Subject b tss)
  elements_open b none = widen more_item more_comma (group nothing)
  elements_open b (more x xs) = with_comma_items x xs

  elements_parts : {xss : List (List Sited)} {tss : List (List Terminal)} (b : Bool) → Each place starts_part ends_part xss tss
      → Closed place starts_part ends_part (tuple_of piece Part b xss) (tuple_of terminal Part b tss)
  elements_parts b none = widen (λ p e. more_part p (more_item p e)) (λ p e. more_colon p (more_comma p e)) (group nothing)
  elements_parts true (more x xs) = parts_listed x xs
  elements_parts false (more x xs) = with_comma_parts x xs

  pub tuple_form : (s : Bool) (l : Level) (n b : Bool) {xss : List (List Sited)} {tss : List (List Terminal)}
      → Each place (starts true (element_level l n)) (ends (element_level l n)) xss tss
      → Closed place (starts s l) (ends l) (tuple_of piece (tuple_level l n) b xss) (tuple_of terminal (tuple_level l n) b tss)
  tuple_form s Slices n b x = elements_parts b x
  tuple_form s Value true b x = plainly s Value (elements_grouped b x)
  tuple_form s Value false b x = elements_bare b x
  tuple_form s Stars true b x = plainly s Stars (elements_grouped b x)
  tuple_form s Stars false b x = elements_bare b x
  tuple_form s Subject n b x = elements_open b x
  tuple_form s l n b x = plainly s l (elements_grouped b x)

  -- arguments by name
  pub named_argument : (x : Identifier) → IsProper x → {xs : List Sited} {ts : List Terminal} → Plain place xs ts
      → Item place (free piece (in_form x) ∷ (tight piece Equal ∷ xs)) (free terminal (in_form x) ∷ (tight terminal Equal ∷ ts))
  unfolding operators
  named_argument x i y = join (widen {d = ends_plain} more_item (λ p e. e) (plain_name x i)) (join equal y refl) refl

  -- comprehensions
  pub for_form : (b : Bool) {xs : List Sited} {ts : List Terminal}
      → Plain place (free piece (Word Key.For) ∷ xs) (free terminal (Word Key.For) ∷ ts)
      → Plain place (for_in piece b xs) (for_in terminal b ts)
  for_form false x = x
  for_form true x = plain_both (keyword Key.Async) x

  pub target_form : {xs ys zs : List Sited} {ts us vs : List Terminal} → Closed place starts_item ends_comma xs ts → Plain place ys us
      → Perhaps place starts_plain ends_plain zs vs
      → Plain place (free piece (Word Key.For) ∷ (xs ++ (free piece (Word Key.In) ∷ (ys ++ zs))))
      (free terminal (Word Key.For) ∷ (ts ++ (free terminal (Word Key.In) ∷ (us ++ vs))))
  unfolding operators
  target_form x y z = join (keyword Key.For) (join x (plain_both (keyword Key.In) (tail y z refl)) refl) refl

  pub plain_tail : {xs ys : List Sited} {ts us : List Terminal} → Plain place xs ts → Perhaps place starts_plain ends_plain ys us
      → Plain place (xs ++ ys) (ts ++ us)
  unfolding operators
  plain_tail x y = tail x y refl

  -- slices
  slice_colon : Closed place starts_part ends_part (tight piece Colon ∷ []) (tight terminal Colon ∷ [])
  slice_colon = sign starts_part ends_part Colon true true refl refl refl

  pub second_colon : Closed place starts_part (tight piece Colon ∷ []) (tight piece Colon ∷ []) (tight terminal Colon ∷ [])
  second_colon = sign starts_part (tight piece Colon ∷ []) Colon true true refl refl refl

  pub slice_form : {xs ys zs : List Sited} {ts us vs : List Terminal} → Perhaps place starts_part ends_part xs ts
      → Perhaps place starts_part ends_part ys us → Perhaps place starts_part ends_part zs vs
      → Closed place starts_part ends_part (xs ++ (tight piece Colon ∷ (ys ++ zs))) (ts ++ (tight terminal Colon ∷ (us ++ vs)))
  slice_form x y z = head x (tail slice_colon (perhaps_both any_both y z) any_both) any_both

  -- parameters
  pub parameter_form : (x : Identifier) → IsProper x → {xs : List Sited} {ts : List Terminal}
      → Perhaps place (trailing piece Colon ∷ []) ends_plain xs ts
      → Closed place (a_word ∷ []) ends_plain (free piece (in_form x) ∷ xs) (free terminal (in_form x) ∷ ts)
  unfolding operators
  parameter_form x i y = tail (name x i) y refl

  pub with_default : {xs ys : List Sited} {ts us : List Terminal} → Closed place (a_word ∷ []) ends_plain xs ts
      → Perhaps place (tight piece Equal ∷ []) ends_plain ys us → Closed place (a_word ∷ []) ends_plain (xs ++ ys) (ts ++ us)
  unfolding operators
  with_default x y = tail x y refl

  pub beside_are : {xss yss : List (List Sited)} {tss uss : List (List Terminal)} → Each place (a_word ∷ []) ends_plain xss tss
      → Maybes place (tight piece Equal ∷ []) ends_plain yss uss → Each place (a_word ∷ []) ends_plain (beside xss yss) (beside tss uss)
  beside_are none y = none
  beside_are (more x xs) no_maybe = none
  beside_are (more x xs) (a_maybe y ys) = more (with_default x y) (beside_are xs ys)

  length_same : {a b : List Sited} {xss : List (List Sited)} {tss : List (List Terminal)} → Each place a b xss tss → length xss ≡ length tss
  length_same none = refl
  length_same (more x xs) = ap suc (length_same xs)

  before_maybes : {b e : List Sited} (n : ℕ) {xss : List (List Sited)} {tss : List (List Terminal)} → Maybes place b e xss tss
      → Maybes place b e (replicate n [] ++ xss) (replicate n [] ++ tss)
  before_maybes zero x = x
  before_maybes (suc n) x = a_maybe nothing (before_maybes n x)

  maybes : {b e : List Sited} {xss : List (List Sited)} {tss : List (List Terminal)} → Each place b e xss tss → Maybes place b e xss tss
  maybes none = no_maybe
  maybes (more x xs) = a_maybe (some x) (maybes xs)

  pub equals : {xss : List (List Sited)} {tss : List (List Terminal)} → Each place starts_plain ends_plain xss tss
      → Each place (tight piece Equal ∷ []) ends_plain (map (after_equal piece) xss) (map (after_equal terminal) tss)
  unfolding operators
  equals none = none
  equals (more x xs) = more (join equal x refl) (equals xs)

  pub with_defaults_are : {xss yss : List (List Sited)} {tss uss : List (List Terminal)} → Each place (a_word ∷ []) ends_plain xss tss
      → Each place (tight piece Equal ∷ []) ends_plain yss uss
      → Each place (a_word ∷ []) ends_plain (with_defaults xss yss) (with_defaults tss uss)
  with_defaults_are {xss} {yss} {tss} {uss} x y = let e = length_same x in let f = length_same y in
      rw (e, f) (beside_are x (before_maybes (length tss - length uss) (maybes y)))

  slash : Closed place starts_parameter ends_parameter (free piece (Op Slash) ∷ []) (free terminal (Op Slash) ∷ [])
  slash = sign starts_parameter ends_parameter Slash false false refl refl refl

  pub with_slash_are : {a b : List Sited} {xss yss : List (List Sited)} {tss uss : List (List Terminal)} → Each place a b xss tss
      → Each place starts_parameter ends_parameter yss uss
      → Each place starts_parameter ends_parameter (with_slash piece xss yss) (with_slash terminal tss uss)
  with_slash_are none y = y
  with_slash_are (more x none) none = none
  with_slash_are (more x none) (more y ys) = more y (more slash ys)
  with_slash_are (more x (more z zs)) none = none
  with_slash_are (more x (more z zs)) (more y ys) = more y (with_slash_are (more z zs) ys)

  bare_star : Closed place starts_parameter ends_parameter (leading piece Star ∷ []) (leading terminal Star ∷ [])
  bare_star = sign starts_parameter ends_parameter Star false true refl refl refl

  pub star_are : {a b : List Sited} {xss yss : List (List Sited)} {tss uss : List (List Terminal)}
      → Each place starts_parameter ends_parameter xss tss → Each place a b yss uss
      → Each place starts_parameter ends_parameter (with_star piece xss yss) (with_star terminal tss uss)
  star_are none none = none
  star_are none (more y ys) = more bare_star none
  star_are (more x xs) y = more x xs

  -- a call, by whether a generator is all that there is
  pub inside_call : {xs ys : List Sited} {ts us : List Terminal} (b : Bool) → (b ≡ true → Perhaps place starts_part ends_part xs ts)
      → Perhaps place starts_part ends_part ys us → Perhaps place starts_part ends_part (cond b xs ys) (cond b ts us)
  inside_call true x y = x refl
  inside_call false x y = y

  pub call_after : {xs ys : List Sited} {ts us : List Terminal} → Plain place xs ts → Closed place (tight piece LPar ∷ []) ends_plain ys us
      → Plain place (xs ++ ys) (ts ++ us)
  unfolding operators
  call_after x y = join x y refl

  pub subscript_after : {xs ys : List Sited} {ts us : List Terminal} → Plain place xs ts
      → Closed place (tight piece LSqb ∷ []) ends_plain ys us
      → Plain place (xs ++ ys) (ts ++ us)
  unfolding operators
  subscript_after x y = join x y refl

  -- signs and what stands after them
  pub step_form : {xs : List Sited} {ts : List Terminal} → Plain place xs ts
      → Closed place starts_part ends_part (tight piece Colon ∷ xs) (tight terminal Colon ∷ ts)
  unfolding operators
  step_form x = widen {c = starts_part} (λ p e. e) (λ p e. more_colon p (more_comma p e)) (join second_colon x refl)

  pub annotation_form : {xs : List Sited} {ts : List Terminal} → Item place xs ts
      → Closed place (trailing piece Colon ∷ []) ends_plain (trailing piece Colon ∷ xs) (trailing terminal Colon ∷ ts)
  unfolding operators
  annotation_form x = join colon x refl

  pub default_form : {xs : List Sited} {ts : List Terminal} → Plain place xs ts
      → Closed place (tight piece Equal ∷ []) ends_plain (tight piece Equal ∷ xs) (tight terminal Equal ∷ ts)
  unfolding operators
  default_form x = join equal x refl

  pub parameters_each : {xss : List (List Sited)} {tss : List (List Terminal)} → Each place (a_word ∷ []) ends_plain xss tss
      → Each place starts_parameter ends_parameter xss tss
  parameters_each x = each_widen word_first more_last x

  pub star_parameter : {xs : List Sited} {ts : List Terminal} → Closed place (a_word ∷ []) ends_plain xs ts
      → Closed place starts_parameter ends_parameter (leading piece Star ∷ xs) (leading terminal Star ∷ ts)
  unfolding operators
  star_parameter x =
      widen {c = starts_parameter} (λ p e. e) more_last
      (join (sign starts_parameter (leading piece Star ∷ []) Star false true refl refl refl) x refl)

  pub stars_parameter : {xs : List Sited} {ts : List Terminal} → Closed place (a_word ∷ []) ends_plain xs ts
      → Closed place starts_parameter ends_parameter (leading piece DoubleStar ∷ xs) (leading terminal DoubleStar ∷ ts)
  unfolding operators
  stars_parameter x =
      widen {c = starts_parameter} (λ p e. e) more_last
      (join (sign starts_parameter (leading piece DoubleStar ∷ []) DoubleStar false true refl refl refl) x refl)
