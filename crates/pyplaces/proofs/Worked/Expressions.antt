-- Worked places of expressions: the spans of each are those of Python's ast.
--
-- Carries: no contract; its rows are computed as it is checked.
use Rattle.std.proofs.Common.{◌≡◌, refl, arith, List, [], ◌∷◌, false, ℕ}
use Rattle.pyfstring.specs.declared.parts.Conversion.TheVariants as conversion
use Rattle.pytoken.specs.Terminals.{Terminal, Spelled}
use Rattle.pytree_node.specs.Trees.{Stmt}
use Rattle.pytree_node.specs.declared.profiles.Profile.{Profile}
use Rattle.pygrammar.specs.Grammar as G
use Rattle.pygrammar.specs.Forms as F
use Rattle.pyplaces.specs.Stretches.{Span, span, spans_of}
use Rattle.pyplaces.specs.FormPlaces.{simple_places}
use Rattle.pyplaces.proofs.Worked.Derivations.{atom, bit_or, or, expression, named, star_item, stars, value, of_expression, of_stars, a, n}
use Rattle.pyplaces.proofs.Worked.Derivations.{marks}

abbrev A : List ℕ
A = 97 ∷ []

abbrev as_name : Spelled
as_name = record { spelling = A; form = A }

module _ (profile : Profile) where
  abbrev spans : {ts : List Terminal} {s : Stmt} → List ℕ → F.Simple profile ts s → List Span
  spans bytes s = spans_of (marks bytes) (simple_places 0 s)

  -- (a)
  group : spans (0 ∷ 1 ∷ 1 ∷ 2 ∷ 2 ∷ 3 ∷ []) (F.value (value (atom (G.group (named (a A)))))) ≡ span 1 2 ∷ span 0 3 ∷ []
  group = refl

  -- (a).b
  attribute : spans (0 ∷ 1 ∷ 1 ∷ 2 ∷ 2 ∷ 3 ∷ 3 ∷ 4 ∷ 4 ∷ 5 ∷ [])
      (F.value (value (G.attribute (as_name) (atom (G.group (named (a A))))))) ≡ span 1 2 ∷ span 0 5 ∷ span 0 5 ∷ []
  attribute = refl

  -- x = (a),
  assign : spans (0 ∷ 1 ∷ 2 ∷ 3 ∷ 4 ∷ 5 ∷ 5 ∷ 6 ∷ 6 ∷ 7 ∷ 7 ∷ 8 ∷ [])
      (F.assign (F.last_target (G.target (stars (a A)) refl))
      (of_stars (G.star_tuple (star_item (atom (G.group (named (a A))))) G.no_item)))
      ≡ span 0 1 ∷ span 5 6 ∷ span 4 8 ∷ span 0 8 ∷ []
  assign = refl

  -- f( x for x in y )
  generator : spans (0 ∷ 1 ∷ 1 ∷ 2 ∷ 3 ∷ 4 ∷ 5 ∷ 8 ∷ 9 ∷ 10 ∷ 11 ∷ 13 ∷ 14 ∷ 15 ∷ 16 ∷ 17 ∷ [])
      (F.value (value (G.call_generator (a A) (named (a A)) (G.one_comp (G.for_in (G.target_in (stars (a A)) refl (or (a A)) G.no_if))))))
      ≡ span 0 1 ∷ span 3 4 ∷ span 9 10 ∷ span 14 15 ∷ span 1 17 ∷ span 0 17 ∷ span 0 17 ∷ []
  generator = refl

  -- f(b=1, *c)
  call : spans (0 ∷ 1 ∷ 1 ∷ 2 ∷ 2 ∷ 3 ∷ 3 ∷ 4 ∷ 4 ∷ 5 ∷ 5 ∷ 6 ∷ 7 ∷ 8 ∷ 8 ∷ 9 ∷ 9 ∷ 10 ∷ [])
      (F.value (value (G.call (a A) (G.item (G.keyword_argument {x = as_name} (expression (n 1)))
      (G.last_item (G.star_argument (expression (a A))))) refl)))
      ≡ span 0 1 ∷ span 8 9 ∷ span 7 9 ∷ span 4 5 ∷ span 2 5 ∷ span 0 10 ∷ span 0 10 ∷ []
  call = refl

  -- a if b else c
  conditional : spans (0 ∷ 1 ∷ 2 ∷ 4 ∷ 5 ∷ 6 ∷ 7 ∷ 11 ∷ 12 ∷ 13 ∷ [])
      (F.value (of_expression (G.if_else (or (a A)) (or (a A)) (expression (a A))))) ≡ span 5 6 ∷ span 0 1 ∷ span 12 13 ∷
      span 0 13 ∷ span 0 13 ∷ []
  conditional = refl

  -- {a: b, **c, d: e}
  dict : spans (0 ∷ 1 ∷ 1 ∷ 2 ∷ 2 ∷ 3 ∷ 4 ∷ 5 ∷ 5 ∷ 6 ∷ 7 ∷ 9 ∷ 9 ∷ 10 ∷ 10 ∷ 11 ∷ 12 ∷ 13 ∷ 13 ∷ 14 ∷ 15 ∷ 16 ∷ 16 ∷ 17 ∷ [])
      (F.value (value (atom (G.dict (G.item (G.pair (expression (a A)) (expression (a A))) (G.item (G.pairs_of (bit_or (a A)))
      (G.last_item (G.pair (expression (a A)) (expression (a A))))))))))
      ≡ span 1 2 ∷ span 12 13 ∷ span 4 5 ∷ span 9 10 ∷ span 15 16 ∷ span 0 17 ∷ span 0 17 ∷ []
  dict = refl

  -- a[*b]
  starred : spans (0 ∷ 1 ∷ 1 ∷ 2 ∷ 2 ∷ 3 ∷ 3 ∷ 4 ∷ 4 ∷ 5 ∷ []) (F.value (value (G.subscript (a A) (G.star_slices (expression (a A))))))
      ≡ span 0 1 ∷ span 3 4 ∷ span 2 4 ∷ span 2 4 ∷ span 0 5 ∷ span 0 5 ∷ []
  starred = refl

  -- (yield)
  yield_alone : spans (0 ∷ 1 ∷ 1 ∷ 6 ∷ 6 ∷ 7 ∷ []) (F.value (value (atom (G.yield_group (G.yield_some G.nothing))))) ≡
      span 1 6 ∷ span 0 7 ∷ []
  yield_alone = refl

  -- lambda a, b=(1), /, *c, d, e=2: a
  lambda_ : spans (0 ∷ 6 ∷ 7 ∷ 8 ∷ 8 ∷ 9 ∷ 10 ∷ 11 ∷ 11 ∷ 12 ∷ 12 ∷ 13 ∷ 13 ∷ 14 ∷ 14 ∷ 15 ∷ 15 ∷ 16 ∷ 17 ∷ 18 ∷ 18 ∷ 19 ∷ 20
      ∷ 21 ∷ 21 ∷ 22 ∷ 22 ∷ 23
      ∷ 24 ∷ 25 ∷ 25 ∷ 26 ∷ 27 ∷ 28 ∷ 28 ∷ 29 ∷ 29 ∷ 30 ∷ 30 ∷ 31 ∷ 32 ∷ 33 ∷ [])
      (F.value (of_expression (G.lambda
      (G.item (G.parameter {b = false} {x = as_name} G.no_suffix G.no_suffix)
      (G.item (G.parameter {x = as_name} G.no_suffix (G.suffix (expression (atom (G.group (named (n 1)))))))
      (G.item G.slash (G.item (G.star_parameter {x = as_name} G.no_suffix)
      (G.item (G.parameter {x = as_name} G.no_suffix G.no_suffix)
      (G.last_item (G.parameter {x = as_name} G.no_suffix (G.suffix (expression (n 2)))))))))) refl (expression (a A)))))
      ≡ span 7 8 ∷ span 10 11 ∷ span 21 22 ∷ span 24 25 ∷ span 27 28 ∷ span 29 30 ∷ span 13 14 ∷ span 32 33 ∷ span 0 33 ∷ span 0 33 ∷ []
  lambda_ = refl

  -- f'a{b}c' 'd'
  formatted : spans (0 ∷ 8 ∷ 2 ∷ 3 ∷ 3 ∷ 4 ∷ 3 ∷ 4 ∷ 4 ∷ 5 ∷ 5 ∷ 6 ∷ 5 ∷ 6 ∷ 6 ∷ 7 ∷ 0 ∷ 8 ∷ 9 ∷ 12 ∷ [])
      (F.value (value (atom (G.joined_string {u = false}
      (G.formatted_literal
      (G.text_part {t = A} (G.field_part {c = conversion.None} (G.group (named (a A))) G.no_spec (G.text_part {t = A} G.no_part)))
      (G.text_literal {t = A} {k = false} G.no_literal)) refl refl))))
      ≡ span 0 12 ∷ span 4 5 ∷ span 0 12 ∷ span 0 12 ∷ span 0 12 ∷ span 0 12 ∷ []
  formatted = refl

  -- a[b, 1:]
  slices : spans (0 ∷ 1 ∷ 1 ∷ 2 ∷ 2 ∷ 3 ∷ 3 ∷ 4 ∷ 5 ∷ 6 ∷ 6 ∷ 7 ∷ 7 ∷ 8 ∷ [])
      (F.value (value (G.subscript (a A) (G.parts (G.next (G.next (named (a A))))
      (G.last_item (G.single (G.next (G.slice (G.something (expression (n 1))) G.nothing))))))))
      ≡ span 0 1 ∷ span 2 3 ∷ span 5 6 ∷ span 5 7 ∷ span 2 7 ∷ span 0 8 ∷ span 0 8 ∷ []
  slices = refl

  -- (x): int
  annotated : spans (0 ∷ 1 ∷ 1 ∷ 2 ∷ 2 ∷ 3 ∷ 3 ∷ 4 ∷ 5 ∷ 8 ∷ [])
      (F.annotated_group (G.single_target (a A) refl) (expression (a A)) F.none_after) ≡ span 1 2 ∷ span 5 8 ∷ span 0 8 ∷ []
  annotated = refl

  -- from . import (a, b as c,)
  imports : spans (0 ∷ 4 ∷ 5 ∷ 6 ∷ 7 ∷ 13 ∷ 14 ∷ 15 ∷ 15 ∷ 16 ∷ 16 ∷ 17 ∷ 18 ∷ 19 ∷ 20 ∷ 22 ∷ 23 ∷ 24 ∷ 24 ∷ 25 ∷ 25 ∷ 26 ∷ [])
      (F.from_dots (F.dot F.no_dot) (omega arith) (F.bracketed_names (F.ends_comma (F.comma (F.name_as {x = as_name} F.no_as)
      (F.alone (F.name_as {x = as_name} (F.as_name {x = as_name})))))))
      ≡ span 15 16 ∷ span 18 24 ∷ span 0 26 ∷ []
  imports = refl
