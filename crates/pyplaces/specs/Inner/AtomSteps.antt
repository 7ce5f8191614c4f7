-- The next step of an Atom, of what follows one in a Primary, and of a run of literals and f-strings.
use Rattle.std.specs.Prelude.{ℕ, ◌+◌, List, [], ◌∷◌, ◌++◌, cond, true, false, zero, suc}
use Rattle.pylex_lexeme.specs.declared.kinds.Exact.TheVariants.{LPar, RPar, LSqb, LBrace, RBrace, DoubleStar, Dot}
use Rattle.pytoken.specs.declared.keywords.Keyword.TheVariants as Key
use Rattle.pytree_node.specs.declared.operators.Context.TheVariants.{Load}
use Rattle.pytree_node.specs.Trees
use Rattle.pytree_node.specs.Values
use Rattle.pytoken.specs.Terminals.{Terminal, Op, Word, Literal, FormattedBegin, FormattedText, FieldBegin, SpecBegin}
use Rattle.pygrammar.specs.declared.levels.Level.TheVariants.{Atom, Elem, Slices}
use Rattle.pygrammar.specs.Entries.{Of, Pair, Argument}
use Rattle.pygrammar.specs.Precedence.{starts_comp}
use Rattle.pygrammar.specs.FormattedStrings.{StringPart, Text, Field, merged}
use Rattle.pyplaces.specs.Stretches.{Stretch, stretch, over}
use Rattle.pyplaces.specs.EntryPlaces.{EntryPlaces, Single, Paired, singles, keys, values, positional, keywords}
use Rattle.pyplaces.specs.ExpressionPlaces.{string_places}
use Rattle.pyplaces.specs.Inner.Looks.{after, on_grip}
use Rattle.pyplaces.specs.Inner.Questions.{An, Trailers, Yielded, Strings, Parts, Specified, Items, Clauses, Row, row_of, Reading}
use Rattle.pyplaces.specs.Inner.Questions.{Ask}

-- the places in the first of some entries
abbrev pub first_places : List EntryPlaces → List Stretch
first_places (Single ps ∷ es) = ps
first_places (Paired ks vs ∷ es) = ks ++ vs
first_places _ = []

-- a comprehension after its item, and the bracket that closes it
abbrev clauses : List Stretch → ℕ → ℕ → List Terminal → (List Stretch → ℕ → List Terminal → Reading) → Reading
clauses ps n at r k = Ask Clauses (1 + (at + n)) r
    (λ gs m r1. k (ps ++ (gs ++ over at (2 + (n + m)))) (2 + (n + m)) (after r1))

abbrev pub round : ℕ → List Terminal → (List Stretch → ℕ → List Terminal → Reading) → Reading
round at (Op RPar ∷ r) k = k (over at 2) 2 r
round at (Word Key.Yield ∷ r) k =
    Ask Yielded (2 + at) r (λ ps n r1. k (ps ++ over (1 + at) (1 + n)) (3 + n) (after r1))
round at r k = Ask (An Elem) (1 + at) r (λ ps n r1. on_grip 3 r1
    (Ask (Items (Of Elem)) (2 + (at + n)) (after r1)
    (λ es m r2. k (ps ++ (singles es ++ over at (3 + (n + m)))) (3 + (n + m)) (after r2)))
    (cond (starts_comp r1) (clauses ps n at r1 k) (k ps (2 + n) (after r1))))

abbrev pub square : ℕ → List Terminal → (List Stretch → ℕ → List Terminal → Reading) → Reading
square at r k = Ask (Items (Of Elem)) (1 + at) r (λ es n r1.
    cond (starts_comp r1) (clauses (first_places es) n at r1 k) (k (singles es ++ over at (2 + n)) (2 + n) (after r1)))

-- a Dict, or its comprehension
abbrev pub paired : ℕ → List Terminal → (List Stretch → ℕ → List Terminal → Reading) → Reading
paired at r k = Ask (Items Pair) (1 + at) r (λ es n r1.
    cond (starts_comp r1) (clauses (first_places es) n at r1 k)
    (k (keys es ++ (values es ++ over at (2 + n))) (2 + n) (after r1)))

-- a colon after the first item makes it a Dict
abbrev pub curly : ℕ → List Terminal → (List Stretch → ℕ → List Terminal → Reading) → Reading
curly at (Op RBrace ∷ r) k = k (over at 2) 2 r
curly at (Op DoubleStar ∷ r) k = paired at (Op DoubleStar ∷ r) k
curly at r k = Ask (An Elem) (1 + at) r (λ ps n r1. on_grip 5 r1 (paired at r k) (square at r k))

-- a run of literals and f-strings
abbrev pub run : ℕ → List Terminal → (List Stretch → ℕ → List Terminal → Reading) → Reading
run at i k = Ask Strings at i (λ s n r. let row = stretch at (at + n) in
    cond s.is_formatted (k (string_places row (merged s.parts) (s.fields row) ++ (row ∷ [])) n r) (k (over at n) n r))

abbrev pub atom_step : ℕ → List Terminal → (List Stretch → ℕ → List Terminal → Reading) → Reading
atom_step at (Op LPar ∷ r) k = round at r k
atom_step at (Op LSqb ∷ r) k = square at r k
atom_step at (Op LBrace ∷ r) k = curly at r k
atom_step at (Literal v ∷ r) k = run at (Literal v ∷ r) k
atom_step at (FormattedBegin ∷ r) k = run at (FormattedBegin ∷ r) k
atom_step at i k = k (over at 1) 1 (after i)

-- ---- What follows an Atom.

abbrev pub trailers_step : List Stretch → ℕ → ℕ → List Terminal → (List Stretch → ℕ → List Terminal → Reading) → Reading
trailers_step ps n at (Op Dot ∷ r) k = Ask (Trailers (ps ++ over at (2 + n)) (2 + n)) at (after r) k
trailers_step ps n at (Op LPar ∷ r) k = Ask (Items Argument) (1 + (at + n)) r (λ es m r1. cond (starts_comp r1)
    (Ask Clauses (1 + (at + (n + m))) r1 (λ gs w r2. Ask (Trailers (ps ++ (first_places es ++ (gs ++
    (over (at + n) (2 + (m + w)) ++ over at (2 + (n + (m + w))))))) (2 + (n + (m + w)))) at (after r2) k))
    (Ask (Trailers (ps ++ (positional es ++ (keywords es ++ over at (2 + (n + m))))) (2 + (n + m))) at (after r1) k))
trailers_step ps n at (Op LSqb ∷ r) k = Ask (An Slices) (1 + (at + n)) r
    (λ qs m r1. Ask (Trailers (ps ++ (qs ++ over at (2 + (n + m)))) (2 + (n + m))) at (after r1) k)
trailers_step ps n at r k = k ps n r

-- ---- Literals and f-strings.

abbrev pub text_of : Values.Value → List ℕ
text_of (Values.Str t u) = t
text_of _ = []

-- a field in place of any
abbrev pub a_field : StringPart
a_field = Field (Trees.Name [] Load)

-- what comes before so many terminals and one more
abbrev pub less : ℕ → ℕ
less zero = zero
less (suc n) = n

abbrev pub strings_step : ℕ → List Terminal → (Row → ℕ → List Terminal → Reading) → Reading
strings_step at (Literal v ∷ r) k = Ask Strings (1 + at) r
    (λ s n r1. k (row_of s.is_formatted (Text (text_of v) ∷ s.parts) s.fields) (1 + n) r1)
strings_step at (FormattedBegin ∷ r) k = Ask Parts (1 + at) r (λ s n r1. Ask Strings (2 + (at + n)) (after r1)
    (λ z m r2. k (row_of true (s.parts ++ z.parts) (λ row. s.fields row ++ z.fields row)) (2 + (n + m)) r2))
strings_step at r k = k (row_of false [] (λ row. [])) 0 r

abbrev pub parts_step : ℕ → List Terminal → (Row → ℕ → List Terminal → Reading) → Reading
parts_step at (FormattedText t ∷ r) k = Ask Parts (1 + at) r
    (λ s n r1. k (row_of s.is_formatted (Text t ∷ s.parts) s.fields) (1 + n) r1)
parts_step at (FieldBegin c ∷ r) k = Ask (An Atom) (1 + at) r (λ ps n r1. Ask Specified (2 + (at + less n)) r1
    (λ f m r2. Ask Parts (3 + (at + (less n + m))) (after r2)
    (λ s w r3. k (row_of s.is_formatted (a_field ∷ s.parts) (λ row. (ps ++ f row) ∷ s.fields row)) (3 + (less n + (m + w))) r3)))
parts_step at r k = k (row_of false [] (λ row. [])) 0 r

abbrev pub specified_step : ℕ → List Terminal → ((Stretch → List Stretch) → ℕ → List Terminal → Reading) → Reading
specified_step at (SpecBegin ∷ r) k = Ask Parts (1 + at) r
    (λ s n r1. k (λ row. string_places row (merged s.parts) (s.fields row) ++ (row ∷ [])) (1 + n) r1)
specified_step at r k = k (λ row. []) 0 r
