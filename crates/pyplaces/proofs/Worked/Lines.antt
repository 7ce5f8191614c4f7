-- Worked places of blocks: the spans of each are those of Python's ast.
--
-- Carries: no contract; its rows are computed as it is checked.
use Rattle.std.proofs.Common.{◌≡◌, refl, List, [], ◌∷◌, Some, None, true, false, ℕ}
use Rattle.pytree_node.specs.Profiles.{plain_311}
use Rattle.pytree_node.specs.declared.operators.Context.TheVariants.{Load}
use Rattle.pytree_node.specs.Trees
use Rattle.pytoken.specs.Terminals.{Terminal, Spelled}
use Rattle.pygrammar.specs.Grammar as G
use Rattle.pygrammar.specs.Forms as F
use Rattle.pygrammar.specs.Lines.{Form, class_head}
use Rattle.pygrammar.specs.Blocks as B
use Rattle.pyplaces.specs.Stretches.{span}
use Rattle.pyplaces.specs.FormPlaces.{line_places}
use Rattle.pyplaces.specs.BlockPlaces.{LinePlaces, line_of, statement_places}
use Rattle.pyplaces.proofs.Worked.Derivations.{atom, expression, named, value, a, n, marks}

abbrev A : List ℕ
A = 97 ∷ []

abbrev as_name : Spelled
as_name = record { spelling = A; form = A }

abbrev placed : {ts : List Terminal} {f : Form} → List ℕ → F.FormOf plain_311 ts f → LinePlaces
placed bytes f = line_of (marks bytes) (line_places f)

-- @d
-- def f(a: b = (1), *c) -> e: pass
abbrev decorated : LinePlaces
decorated = placed (0 ∷ 1 ∷ 1 ∷ 2 ∷ []) (F.decorator_line (named (a A)))

abbrev defined : LinePlaces
defined = placed (3 ∷ 6 ∷ 7 ∷ 8 ∷ 8 ∷ 9 ∷ 9 ∷ 10 ∷ 10 ∷ 11 ∷ 12 ∷ 13 ∷ 14 ∷ 15 ∷ 16 ∷ 17 ∷ 17 ∷ 18 ∷ 18 ∷ 19 ∷ 19 ∷ 20 ∷ 21 ∷ 22 ∷ 22
    ∷ 23 ∷ 23 ∷ 24 ∷ 25 ∷ 27
    ∷ 28 ∷ 29 ∷ 29 ∷ 30 ∷ 31 ∷ 35 ∷ [])
    (F.header_suite (F.def_line (as_name) F.no_async F.no_type_params
    (G.item (G.parameter {b = true} {x = as_name} (G.suffix (expression (a A))) (G.suffix (expression (atom (G.group (named (n 1)))))))
    (G.last_item (G.star_parameter {x = as_name} G.no_suffix))) refl (F.following (expression (a A)))) (F.last_simple F.pass))

definition : statement_places (decorated ∷ defined ∷ []) (B.definition_of {l = 0} (class_head A [] [] Trees.no_keyword)
    {suite = Some []} (B.decorator {e = Trees.Name A Load} B.no_decorator) B.inline)
    ≡ span 12 13 ∷ span 9 13 ∷ span 22 23 ∷ span 17 18 ∷ span 31 35 ∷ span 1 2 ∷ span 28 29 ∷ span 3 35 ∷ []
definition = refl

-- if a: b;
-- elif c: d ; # e
abbrev tested : LinePlaces
tested = placed (0 ∷ 2 ∷ 3 ∷ 4 ∷ 4 ∷ 5 ∷ 6 ∷ 7 ∷ 7 ∷ 8 ∷ [])
    (F.header_suite (F.if_line (named (a A))) (F.ended_simple (F.value (value (a A)))))

abbrev tested_else : LinePlaces
tested_else = placed (9 ∷ 13 ∷ 14 ∷ 15 ∷ 15 ∷ 16 ∷ 17 ∷ 18 ∷ 19 ∷ 20 ∷ [])
    (F.header_suite (F.elif_line (named (a A))) (F.ended_simple (F.value (value (a A)))))

test : statement_places (tested ∷ tested_else ∷ []) (B.if_statement {l = 0} {test = Trees.Name A Load} {suite = Some []} B.inline
    (B.an_elif {test = Trees.Name A Load} {suite = Some []} B.inline (B.an_else B.no_else)))
    ≡ span 3 4 ∷ span 6 7 ∷ span 6 7 ∷ span 14 15 ∷ span 17 18 ∷ span 17 18 ∷ span 9 20 ∷ span 0 20 ∷ []
test = refl

-- try: a
-- except B as e: b;
-- finally: c
abbrev tried : LinePlaces
tried = placed (0 ∷ 3 ∷ 3 ∷ 4 ∷ 5 ∷ 6 ∷ []) (F.header_suite F.try_line (F.last_simple (F.value (value (a A)))))

abbrev caught : LinePlaces
caught = placed (7 ∷ 13 ∷ 14 ∷ 15 ∷ 16 ∷ 18 ∷ 19 ∷ 20 ∷ 20 ∷ 21 ∷ 22 ∷ 23 ∷ 23 ∷ 24 ∷ [])
    (F.header_suite (F.except_line (expression (a A)) (F.as_name {x = as_name})) (F.ended_simple (F.value (value (a A)))))

abbrev ended : LinePlaces
ended = placed (25 ∷ 32 ∷ 32 ∷ 33 ∷ 34 ∷ 35 ∷ []) (F.header_suite F.finally_line (F.last_simple (F.value (value (a A)))))

tries : statement_places (tried ∷ caught ∷ ended ∷ [])
    (B.try_except {l = 0} {suite = Some []} B.inline (B.except_clause {star = false} {matched = None} {name = None} {suite = Some []}
    B.inline B.no_except) B.no_else (B.finally_clause {suite = Some []} B.inline))
    ≡ span 5 6 ∷ span 5 6 ∷ span 14 15 ∷ span 22 23 ∷ span 22 23 ∷ span 7 24 ∷ span 34 35 ∷ span 34 35 ∷ span 0 35 ∷ []
tries = refl

-- @d
-- class A(k=c, *b): pass;
abbrev classed : LinePlaces
classed = placed (3 ∷ 8 ∷ 9 ∷ 10 ∷ 10 ∷ 11 ∷ 11 ∷ 12 ∷ 12 ∷ 13 ∷ 13 ∷ 14 ∷ 14 ∷ 15 ∷ 16 ∷ 17 ∷ 17 ∷ 18 ∷ 18 ∷ 19 ∷ 19 ∷ 20
    ∷ 21 ∷ 25 ∷ 25 ∷ 26 ∷ [])
    (F.header_suite (F.class_line {x = as_name} F.no_type_params (F.bases (G.item (G.keyword_argument {x = as_name} (expression (a A)))
    (G.last_item (G.star_argument (expression (a A))))) refl)) (F.ended_simple F.pass))

class : statement_places (decorated ∷ classed ∷ []) (B.definition_of {l = 0} (class_head A [] [] Trees.no_keyword)
    {suite = Some []} (B.decorator {e = Trees.Name A Load} B.no_decorator) B.inline)
    ≡ span 17 18 ∷ span 16 18 ∷ span 13 14 ∷ span 11 14 ∷ span 21 25 ∷ span 1 2 ∷ span 3 26 ∷ []
class = refl

-- with (a as b, c): pass
abbrev with_line : LinePlaces
with_line = placed (0 ∷ 4 ∷ 5 ∷ 6 ∷ 6 ∷ 7 ∷ 8 ∷ 10 ∷ 11 ∷ 12 ∷ 12 ∷ 13 ∷ 14 ∷ 15 ∷ 15 ∷ 16 ∷ 16 ∷ 17 ∷ 18 ∷ 22 ∷ [])
    (F.header_suite (F.with_line F.no_async
    (F.in_brackets (F.bracketed (F.ends_bare (F.comma (F.item_as (expression (a A)) (G.item_target (expression (a A)) refl))
    (F.alone (F.bare_item (expression (a A))))))))) (F.last_simple F.pass))

with : statement_places (with_line ∷ []) (B.with_statement {l = 0} {is_async = false} {items = []} {suite = Some []} B.inline)
    ≡ span 6 7 ∷ span 11 12 ∷ span 14 15 ∷ span 18 22 ∷ span 0 22 ∷ []
with = refl
