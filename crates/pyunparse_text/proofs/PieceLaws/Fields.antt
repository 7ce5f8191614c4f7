-- What is written for an expression may stand in a field of an f-string, and an f-string of such fields among other pieces.
--
-- Carries: field_read, joined_form and 7 more, for Readable. On: Segments, Shut, Shallow, Formatted.
use Rattle.std.proofs.Common.{◌≡◌, ℕ, Bool, true, false, List, [], ◌∷◌, refl, subst}
use Rattle.std.specs.Prelude.{All}
use Rattle.std.specs.List.{list_all}
use Rattle.std.specs.Str.{all_scalars}
use Rattle.std.proofs.lemmas.Bool.{and_parts, leb-true}
use Rattle.std.proofs.lemmas.List.Elements.{All-nil, All-cons}
use Rattle.pylex_listing.specs.declared.kind.Kind.{Kind}
use Rattle.pylex_listing.specs.declared.kind.Kind.TheVariants as kinds
use Rattle.pytree_node.specs.declared.profiles.Extent.{Extent}
use Rattle.pytree_node.specs.declared.profiles.Extent.TheVariants.{Plain, Whole}
use Rattle.pytree_node.specs.Points.{IsPoint}
use Rattle.pytree_node.specs.Values
use Rattle.pytree_node.specs.Trees
use Rattle.pytree_node.specs.Trees.{Exprs, no_exprs, an_expr}
use Rattle.pytoken.specs.Laws.{is_point}
use Rattle.pytoken.specs.Terminals.{Terminal, Literal}
use Rattle.pygrammar.specs.declared.levels.Level.{Level}
use Rattle.pygrammar.specs.declared.levels.Level.TheVariants.{Or, And, Not, Compare, BitOr, BitXor, BitAnd, Shift, Sum, Term, Factor, Power}
use Rattle.pygrammar.specs.declared.levels.Level.TheVariants.{Await}
use Rattle.pygrammar.specs.declared.levels.Level.TheVariants.{Primary, Atom, Elem}
use Rattle.pyunparse_text.specs.Spacing.{Piece, are_readable}
use Rattle.pyunparse_text.specs.Inner.Edges.{begins_by}
use Rattle.pyunparse_text.specs.Written.{Element, Text, joined, first_text, tuple_of, element_level, tuple_level, constant_terminal, free}
use Rattle.pyunparse_text.specs.Terminals.{terminal}
use Rattle.pyunparse_text.specs.Pieces.{Sited, sited_string, piece}
use Rattle.pyunparse_text.proofs.Callers.Lists.{neat_readable, balanced_closes}
use Rattle.pyunparse_text.proofs.FieldTexts.Conditions.{is_own, is_plain_literal, is_plain_piece}
use Rattle.pyunparse_text.proofs.FieldTexts.Enclosures.{enclosed_all}
use Rattle.pyunparse_text.proofs.FieldTexts.FieldLiterals.{is_field_character}
use Rattle.pyunparse_text.proofs.FieldTexts.TextCharacters.{can_stand}
use Rattle.pyunparse_text.proofs.PieceLaws.Places.{Place, inside, Depth, outside, in_field, in_two, deeper, at, may_stand, stands, GiveAt}
use Rattle.pyunparse_text.proofs.PieceLaws.Fair.{IsConstant}
use Rattle.pyunparse_text.proofs.PieceLaws.Sound.{HasStrings, HasFormatted, SoundValues}
use Rattle.pyunparse_text.proofs.PieceLaws.Formatted.{Promised, text, Following}
use Rattle.pyunparse_text.proofs.PieceLaws.Shallow.{shallow}
use Rattle.pyunparse_text.proofs.PieceLaws.Sorts.{within, starts_plain, starts_item, ends_plain}
use Rattle.pyunparse_text.proofs.PieceLaws.Segments.{Closed, Perhaps, nothing, some, Each, none, more, string}
use Rattle.pyunparse_text.proofs.PieceLaws.Shapes.{constant, plain_both}
use Rattle.pyunparse_text.proofs.PieceLaws.Listings.{with_comma_items}
use Rattle.pyunparse_text.proofs.PieceLaws.Shut.{Shut, Held, is_operand, shut_one, shut_both, shut_group, shut_ellipsis}

-- ---- Fields.

pub has_whole : (extent : Extent) (d : Depth) → HasStrings extent d → extent ≡ Whole
has_whole Plain d s = absurd s
has_whole Whole d s = refl

one_plain : (d : Depth) (k : Kind) (t : List ℕ) → may_stand (deeper d) k t ≡ true
    → elim k [ kinds.String ↦ is_plain_literal t | _ ↦ true ] ≡ true
one_plain outside k t h = h
one_plain in_field kinds.String t h = absurd (cc)
one_plain in_field _ t h = refl
one_plain in_two kinds.String t h = absurd (cc)
one_plain in_two _ t h = refl

all_plain : (d : Depth) (ps : List Piece) → list_all (stands (deeper d)) ps ≡ true → list_all is_plain_piece ps ≡ true
all_plain d [] h = refl
all_plain d (p ∷ ps) h =
    let w = and_parts (stands (deeper d) p) (list_all (stands (deeper d)) ps) h in
    let f = one_plain d p.kind p.text w.0 in
    let g = all_plain d ps w.1 in
    rw (f, g) refl

pub there : (f : Piece → Bool) (ps : List Piece) → begins_by f ps ≡ true → begins_by (λ p. true) ps ≡ true
there f [] e = cc
there f (p ∷ ps) e = refl

pub field_read : {b e : List Sited} {ps : List Sited} {ts : List Terminal} (place : Place) → HasStrings place.extent place.depth
    → Closed (inside place) b e ps ts → Shut (deeper place.depth) ps
    → Promised place.depth ps ts
field_read {b} {e} {ps} {ts} place s x t = record {
  is = λ low.
      let g = x.segment (λ h. low) in
      let f = g.form in
      let d = deeper place.depth in
      let r : are_readable (at d ps) ≡ true = neat_readable (at d ps) f.neat (there (within b) (at d ps) f.begins) f.pieces in
      record {
        expression = record {
          readable = r;
          scalars = f.scalars;
          enclosed = enclosed_all (at d ps) t.is;
          shallow = shallow 599 0 g.gives low;
          plain = all_plain place.depth (at d ps) g.stand;
        };
        allowed = g.stand;
        closed = balanced_closes (at d ps) x.balanced;
        gives = subst (λ x. GiveAt (record { extent = x; depth = d }) (at d ps) ts) (has_whole place.extent place.depth s) g.gives;
      };
  flat = x.flat;
}

-- ---- F-strings.

empty_in : (d : Depth) (n : ℕ) → HasStrings Whole d → HasFormatted d n []
empty_in outside n s = refl
empty_in in_field n s = refl
empty_in in_two n s = absurd s

empty_text : (extent : Extent) (d : Depth) (n : ℕ) → HasStrings extent d → HasFormatted d n []
empty_text Plain d n s = absurd s
empty_text Whole d n s = empty_in d n s

points_are : (t : List ℕ) → list_all is_point t ≡ true → All IsPoint t
points_are [] h = All-nil IsPoint
points_are (c ∷ t) h = let w = and_parts (is_point c) (list_all is_point t) h in
    All-cons IsPoint c t (leb-true c 1114111 w.0) (points_are t w.1)

field_characters : (t : List ℕ) → list_all (can_stand true false) t ≡ true → list_all is_field_character t ≡ true
field_characters [] h = refl
field_characters (c ∷ t) h =
    let w = and_parts (can_stand true false c) (list_all (can_stand true false) t) h in
    let o = and_parts (is_own c) _ w.0 in
    let a = o.0 in
    let b = (and_parts (all_scalars (c ∷ [])) _ o.1).0 in
    let g = field_characters t w.1 in
    rw (a, b, g) refl

text_constant : (extent : Extent) (d : Depth) (t : List ℕ) (u : Bool) → HasFormatted d 0 t
    → IsConstant (record { extent = extent; depth = d }) (Values.Str t u)
text_constant extent outside t u h = points_are t h
text_constant extent in_field t u h = field_characters t h
text_constant extent in_two t u h = absurd h

pub first_formatted : (place : Place) (n : ℕ) (es : Exprs) → HasStrings place.extent place.depth → SoundValues place.extent place.depth n es
    → HasFormatted place.depth n (first_text es)
first_formatted place n no_exprs s h = empty_text place.extent place.depth n s
first_formatted place n (an_expr (Trees.Constant (Values.Str t u)) es) s h = h.0
first_formatted place n (an_expr (Trees.Constant v) es) s h = empty_text place.extent place.depth n s
first_formatted place n (an_expr e es) s h = empty_text place.extent place.depth n s

pub joined_form : {place : Place} {es : List (Element Sited)} {fs : List (Element Terminal)} (b : Bool) (t : List ℕ)
    → HasStrings place.extent place.depth → HasFormatted place.depth 0 t
    → Following (Promised place.depth) place.depth 0 es fs → Closed place starts_plain ends_plain (joined piece b t es)
    (joined terminal b t fs)
joined_form {es = es} {fs = fs} false t s h x = string (Text false t ∷ es) (Text false t ∷ fs) s (text h x)
joined_form {place} {es} {fs} true t s h x =
    plain_both (constant (Values.Str t true) (text_constant place.extent place.depth t true h))
    (string (Text false [] ∷ es) (Text false [] ∷ fs) s (text (empty_text place.extent place.depth 0 s) x))

pub shut_joined : {d : Depth} (b : Bool) (t : List ℕ) (es : List (Element Sited)) → Shut d (joined piece b t es)
shut_joined false t es = shut_one (sited_string (Text false t ∷ es)) refl refl refl
shut_joined true t es =
    shut_both (shut_one (free piece (Literal (Values.Str t true))) refl refl refl)
    (shut_one (sited_string (Text false [] ∷ es)) refl refl refl)

-- ---- What else stands in a field.

pub held : {place : Place} {b e : List Sited} {ps : List Sited} {ts : List Terminal} → Closed place b e ps ts → Held place.depth ps
held x = record { is = x.kept }

pub held_perhaps : {place : Place} {b e : List Sited} {ps : List Sited} {ts : List Terminal} → Perhaps place b e ps ts → Held place.depth ps
held_perhaps nothing = record { is = λ o os ys. refl }
held_perhaps (some x) = held x

pub shut_constant : {d : Depth} (v : Values.Value) → Shut d (free piece (constant_terminal v) ∷ [])
shut_constant (Values.Int n) = shut_one (free piece (constant_terminal (Values.Int n))) refl refl refl
shut_constant (Values.Float x) = shut_one (free piece (constant_terminal (Values.Float x))) refl refl refl
shut_constant (Values.Imaginary x) = shut_one (free piece (constant_terminal (Values.Imaginary x))) refl refl refl
shut_constant (Values.Bool true) = shut_one (free piece (constant_terminal (Values.Bool true))) refl refl refl
shut_constant (Values.Bool false) = shut_one (free piece (constant_terminal (Values.Bool false))) refl refl refl
shut_constant Values.None = shut_one (free piece (constant_terminal Values.None)) refl refl refl
shut_constant Values.Ellipsis = shut_ellipsis
shut_constant (Values.Str t u) = shut_one (free piece (constant_terminal (Values.Str t u))) refl refl refl
shut_constant (Values.Bytes bs) = shut_one (free piece (constant_terminal (Values.Bytes bs))) refl refl refl

-- A tuple stands there in brackets.
pub record Bracketed (l : Level) (b : Bool) : Type 0 where
  pub element : element_level l b ≡ Elem
  pub tuple : tuple_level l b ≡ Elem

pub tuple_bracketed : (l : Level) (b : Bool) → is_operand l ≡ true → Bracketed l b
tuple_bracketed Or b o = record { element = refl; tuple = refl }
tuple_bracketed And b o = record { element = refl; tuple = refl }
tuple_bracketed Not b o = record { element = refl; tuple = refl }
tuple_bracketed Compare b o = record { element = refl; tuple = refl }
tuple_bracketed BitOr b o = record { element = refl; tuple = refl }
tuple_bracketed BitXor b o = record { element = refl; tuple = refl }
tuple_bracketed BitAnd b o = record { element = refl; tuple = refl }
tuple_bracketed Shift b o = record { element = refl; tuple = refl }
tuple_bracketed Sum b o = record { element = refl; tuple = refl }
tuple_bracketed Term b o = record { element = refl; tuple = refl }
tuple_bracketed Factor b o = record { element = refl; tuple = refl }
tuple_bracketed Power b o = record { element = refl; tuple = refl }
tuple_bracketed Await b o = record { element = refl; tuple = refl }
tuple_bracketed Primary b o = record { element = refl; tuple = refl }
tuple_bracketed Atom b o = record { element = refl; tuple = refl }
tuple_bracketed _ b o = absurd (cc)

pub shut_tuple : {place : Place} {xss : List (List Sited)} {tss : List (List Terminal)} (lone : Bool)
    → Each place starts_item ends_plain xss tss
    → Shut place.depth (tuple_of piece Elem lone xss)
shut_tuple lone none = shut_group {xs = []} (record { is = λ o os ys. refl })
shut_tuple lone (more x xs) = shut_group (held (with_comma_items x xs))
