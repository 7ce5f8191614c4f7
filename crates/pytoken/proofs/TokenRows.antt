-- Worked tokens and lines of sources, by computation.
--
-- Carries: no contract; its rows are computed as it is checked. On: Computing.
use Rattle.std.proofs.Common.{◌≡◌, ℕ, List, [], ◌∷◌, ◌++◌, refl, None}
use Rattle.std.specs.Prelude.{codes}
use Rattle.pylex_listing.specs.declared.kind.Kind.{Kind}
use Rattle.pylex_listing.specs.declared.kind.Kind.TheVariants as kinds
use Rattle.pylex_listing.specs.Listing.{Source}
use Rattle.pytoken.specs.Tokens.{Token, Line, tokens, lines}
use Rattle.pytoken.proofs.Computing.{sources}

abbrev source : List ℕ → Source
source t = record { encoding = []; text = t; fault = None }

abbrev token : Kind → ℕ → ℕ → List ℕ → Token
token k r c t = record { kind = k; start = record { row = r; column = c }; text = t }

abbrev line : ℕ → List Token → Line
line n ts = record { level = n; tokens = ts }

-- if x:\n\ty\n
one_block : tokens (source (codes "if x:\n" ++ (9 ∷ codes "y\n"))) ≡
    token kinds.Name 1 0 (codes "if") ∷
    token kinds.Name 1 3 (codes "x") ∷
    token kinds.Op 1 4 (codes ":") ∷
    token kinds.Newline 1 5 (codes "\n") ∷
    token kinds.Indent 2 0 (9 ∷ []) ∷
    token kinds.Name 2 1 (codes "y") ∷
    token kinds.Newline 2 2 (codes "\n") ∷
    token kinds.Dedent 3 0 [] ∷
    token kinds.EndMarker 3 0 [] ∷
    []
unfolding sources
one_block = refl

one_block_lines : lines (source (codes "if x:\n" ++ (9 ∷ codes "y\n"))) ≡
    line 0 (token kinds.Name 1 0 (codes "if") ∷ token kinds.Name 1 3 (codes "x") ∷ token kinds.Op 1 4 (codes ":") ∷ []) ∷
    line 1 (token kinds.Name 2 1 (codes "y") ∷ []) ∷
    []
unfolding sources
one_block_lines = refl

-- x
newline_supplied : tokens (source (codes "x")) ≡
    token kinds.Name 1 0 (codes "x") ∷
    token kinds.Newline 1 1 [] ∷
    token kinds.EndMarker 2 0 [] ∷
    []
unfolding sources
newline_supplied = refl

newline_supplied_lines : lines (source (codes "x")) ≡
    line 0 (token kinds.Name 1 0 (codes "x") ∷ []) ∷
    []
unfolding sources
newline_supplied_lines = refl

-- if x:\n y
newline_supplied_before_dedents : tokens (source (codes "if x:\n y")) ≡
    token kinds.Name 1 0 (codes "if") ∷
    token kinds.Name 1 3 (codes "x") ∷
    token kinds.Op 1 4 (codes ":") ∷
    token kinds.Newline 1 5 (codes "\n") ∷
    token kinds.Indent 2 0 (codes " ") ∷
    token kinds.Name 2 1 (codes "y") ∷
    token kinds.Newline 2 2 [] ∷
    token kinds.Dedent 3 0 [] ∷
    token kinds.EndMarker 3 0 [] ∷
    []
unfolding sources
newline_supplied_before_dedents = refl

newline_supplied_before_dedents_lines : lines (source (codes "if x:\n y")) ≡
    line 0 (token kinds.Name 1 0 (codes "if") ∷ token kinds.Name 1 3 (codes "x") ∷ token kinds.Op 1 4 (codes ":") ∷ []) ∷
    line 1 (token kinds.Name 2 1 (codes "y") ∷ []) ∷
    []
unfolding sources
newline_supplied_before_dedents_lines = refl

-- # c\n\nx # d\n\n# e
comments_and_empty_lines : tokens (source (codes "# c\n\nx # d\n\n# e")) ≡
    token kinds.Name 3 0 (codes "x") ∷
    token kinds.Newline 3 5 (codes "\n") ∷
    token kinds.EndMarker 6 0 [] ∷
    []
unfolding sources
comments_and_empty_lines = refl

comments_and_empty_lines_lines : lines (source (codes "# c\n\nx # d\n\n# e")) ≡
    line 0 (token kinds.Name 3 0 (codes "x") ∷ []) ∷
    []
unfolding sources
comments_and_empty_lines_lines = refl

-- \\\n\nx\n
newline_of_nothing : tokens (source (codes "\\\n\nx\n")) ≡
    token kinds.Name 3 0 (codes "x") ∷
    token kinds.Newline 3 1 (codes "\n") ∷
    token kinds.EndMarker 4 0 [] ∷
    []
unfolding sources
newline_of_nothing = refl

newline_of_nothing_lines : lines (source (codes "\\\n\nx\n")) ≡
    line 0 (token kinds.Name 3 0 (codes "x") ∷ []) ∷
    []
unfolding sources
newline_of_nothing_lines = refl

-- if x:\n \\\n\n
newline_of_nothing_in_a_block : tokens (source (codes "if x:\n \\\n\n")) ≡
    token kinds.Name 1 0 (codes "if") ∷
    token kinds.Name 1 3 (codes "x") ∷
    token kinds.Op 1 4 (codes ":") ∷
    token kinds.Newline 1 5 (codes "\n") ∷
    token kinds.Indent 2 0 (codes " ") ∷
    token kinds.Dedent 4 0 [] ∷
    token kinds.EndMarker 4 0 [] ∷
    []
unfolding sources
newline_of_nothing_in_a_block = refl

newline_of_nothing_in_a_block_lines : lines (source (codes "if x:\n \\\n\n")) ≡
    line 0 (token kinds.Name 1 0 (codes "if") ∷ token kinds.Name 1 3 (codes "x") ∷ token kinds.Op 1 4 (codes ":") ∷ []) ∷
    []
unfolding sources
newline_of_nothing_in_a_block_lines = refl

-- x \\\n# c
after_a_join : tokens (source (codes "x \\\n# c")) ≡
    token kinds.Name 1 0 (codes "x") ∷
    token kinds.Newline 2 3 [] ∷
    token kinds.EndMarker 3 0 [] ∷
    []
unfolding sources
after_a_join = refl

after_a_join_lines : lines (source (codes "x \\\n# c")) ≡
    line 0 (token kinds.Name 1 0 (codes "x") ∷ []) ∷
    []
unfolding sources
after_a_join_lines = refl

-- if x:\n  '''\n# '''
hash_in_a_literal : tokens (source (codes "if x:\n  '''\n# '''")) ≡
    token kinds.Name 1 0 (codes "if") ∷
    token kinds.Name 1 3 (codes "x") ∷
    token kinds.Op 1 4 (codes ":") ∷
    token kinds.Newline 1 5 (codes "\n") ∷
    token kinds.Indent 2 0 (codes "  ") ∷
    token kinds.String 2 2 (codes "'''\n# '''") ∷
    token kinds.Newline 3 5 [] ∷
    token kinds.Dedent 4 0 [] ∷
    token kinds.EndMarker 4 0 [] ∷
    []
unfolding sources
hash_in_a_literal = refl

hash_in_a_literal_lines : lines (source (codes "if x:\n  '''\n# '''")) ≡
    line 0 (token kinds.Name 1 0 (codes "if") ∷ token kinds.Name 1 3 (codes "x") ∷ token kinds.Op 1 4 (codes ":") ∷ []) ∷
    line 1 (token kinds.String 2 2 (codes "'''\n# '''") ∷ []) ∷
    []
unfolding sources
hash_in_a_literal_lines = refl

-- f(1,\n # c\n)\n
brackets : tokens (source (codes "f(1,\n # c\n)\n")) ≡
    token kinds.Name 1 0 (codes "f") ∷
    token kinds.Op 1 1 (codes "(") ∷
    token kinds.Number 1 2 (codes "1") ∷
    token kinds.Op 1 3 (codes ",") ∷
    token kinds.Op 3 0 (codes ")") ∷
    token kinds.Newline 3 1 (codes "\n") ∷
    token kinds.EndMarker 4 0 [] ∷
    []
unfolding sources
brackets = refl

brackets_lines : lines (source (codes "f(1,\n # c\n)\n")) ≡
    line 0 (token kinds.Name 1 0 (codes "f") ∷ token kinds.Op 1 1 (codes "(") ∷ token kinds.Number 1 2 (codes "1") ∷ token
    kinds.Op 1 3 (codes ",") ∷
    token kinds.Op 3 0 (codes ")") ∷ []) ∷
    []
unfolding sources
brackets_lines = refl

--
empty : tokens (source []) ≡
    token kinds.EndMarker 1 0 [] ∷
    []
unfolding sources
empty = refl

empty_lines : lines (source []) ≡
    []
unfolding sources
empty_lines = refl

-- if a:\n if b:\n  c\nd\n
two_blocks : tokens (source (codes "if a:\n if b:\n  c\nd\n")) ≡
    token kinds.Name 1 0 (codes "if") ∷
    token kinds.Name 1 3 (codes "a") ∷
    token kinds.Op 1 4 (codes ":") ∷
    token kinds.Newline 1 5 (codes "\n") ∷
    token kinds.Indent 2 0 (codes " ") ∷
    token kinds.Name 2 1 (codes "if") ∷
    token kinds.Name 2 4 (codes "b") ∷
    token kinds.Op 2 5 (codes ":") ∷
    token kinds.Newline 2 6 (codes "\n") ∷
    token kinds.Indent 3 0 (codes "  ") ∷
    token kinds.Name 3 2 (codes "c") ∷
    token kinds.Newline 3 3 (codes "\n") ∷
    token kinds.Dedent 4 0 [] ∷
    token kinds.Dedent 4 0 [] ∷
    token kinds.Name 4 0 (codes "d") ∷
    token kinds.Newline 4 1 (codes "\n") ∷
    token kinds.EndMarker 5 0 [] ∷
    []
unfolding sources
two_blocks = refl

two_blocks_lines : lines (source (codes "if a:\n if b:\n  c\nd\n")) ≡
    line 0 (token kinds.Name 1 0 (codes "if") ∷ token kinds.Name 1 3 (codes "a") ∷ token kinds.Op 1 4 (codes ":") ∷ []) ∷
    line 1 (token kinds.Name 2 1 (codes "if") ∷ token kinds.Name 2 4 (codes "b") ∷ token kinds.Op 2 5 (codes ":") ∷ []) ∷
    line 2 (token kinds.Name 3 2 (codes "c") ∷ []) ∷
    line 0 (token kinds.Name 4 0 (codes "d") ∷ []) ∷
    []
unfolding sources
two_blocks_lines = refl
