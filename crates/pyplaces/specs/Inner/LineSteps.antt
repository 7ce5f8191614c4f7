-- The next step of the parts of a line, and how a whole line is read.
use Rattle.std.specs.Prelude.{ℕ, ◌+◌, leb, ◌&&◌, List, [], ◌∷◌, ◌++◌, cond, Bool, true, false}
use Rattle.pylex_lexeme.specs.declared.kinds.Exact.TheVariants.{LPar, Star, Dot, DoubleStar, Ellipsis}
use Rattle.pytoken.specs.declared.keywords.Keyword.TheVariants as Key
use Rattle.pytoken.specs.Terminals.{Terminal, Op, Word, Ident}
use Rattle.pygrammar.specs.declared.levels.Level.{Level}
use Rattle.pygrammar.specs.declared.levels.Level.TheVariants.{Value, Stars, Named, Expression, Subject}
use Rattle.pygrammar.specs.declared.pattern_levels.PatternLevel.TheVariants.{Patterns}
use Rattle.pygrammar.specs.Entries.{Of, Argument, Parameter}
use Rattle.pygrammar.specs.Precedence.{starts}
use Rattle.pytree_node.specs.declared.profiles.Profile.{Profile}
use Rattle.pygrammar.specs.Forms.{is_case_line}
use Rattle.pygrammar.specs.LineReader.{Opening, Decorates, Heads, States, opening, is_match, ends_in_colon}
use Rattle.pyplaces.specs.Stretches.{Stretch, over}
use Rattle.pyplaces.specs.EntryPlaces as E
use Rattle.pyplaces.specs.FormPlaces.{FormPlaces, form_places, with_suite, plain_header}
use Rattle.pyplaces.specs.Inner.Looks.{after, lead_of, is_named, on_grip, on_lead, on_mark}
use Rattle.pyplaces.specs.Inner.Questions.{An, Perhaps, Items, ATarget, Pattern, Element, AParameter, AnAlias, ADotted, ADeleted, AnItem}
use Rattle.pyplaces.specs.Inner.Questions.{AName, Commaed, Module, Dots, Valued, Statement, Statements, Reading, Done, Ask}
use Rattle.pyplaces.specs.Inner.ExpressionSteps.{Goes}

-- ---- Parts.

-- a sign or word with this mark, and an expression
abbrev pub marked : ℕ → Level → ℕ → List Terminal → Goes → Reading
marked g l at r k = on_mark g r (Ask (An l) (1 + at) (after r) (λ ps n r1. k ps (1 + n) r1)) (k [] 0 r)

-- the same with this grip
abbrev pub gripped : ℕ → Level → ℕ → List Terminal → Goes → Reading
gripped g l at r k = on_grip g r (Ask (An l) (1 + at) (after r) (λ ps n r1. k ps (1 + n) r1)) (k [] 0 r)

-- "as" NAME, if it follows so many terminals, which are a node of their own with it
abbrev pub aliased : ℕ → ℕ → List Terminal → Goes → Reading
aliased n at r k = on_mark 7 r (k (over at (n + 2)) (n + 2) (after (after r))) (k (over at (n + 0)) (n + 0) r)

abbrev pub parameter_read : ℕ → List Terminal → Goes → Reading
parameter_read at (Ident x ∷ r) k = marked 4 Expression (1 + at) r (λ ps n r1. k (ps ++ over at (1 + n)) (1 + n) r1)
parameter_read at r k = k (over at 2) 2 (after (after r))

-- what stands after `as` in an item
abbrev pub item_target : ℕ → List Terminal → Goes → Reading
item_target at i k = on_lead 7 i
    (Ask (An Expression) (1 + at) (after i) (λ ps n r. k (ps ++ over at (1 + n)) (1 + n) r)) (Ask (An Expression) at i k)

abbrev pub element_read : Element → ℕ → List Terminal → Goes → Reading
element_read AParameter at i k = parameter_read at i k
element_read AnAlias at i k = aliased 1 at (after i) k
element_read ADotted at i k = Ask Module at i (λ ps n r. aliased n at r k)
element_read ADeleted at i k = Ask (An Expression) at i k
element_read AnItem at i k = Ask (An Expression) at i (λ ps n r. on_mark 7 r
    (item_target (1 + (at + n)) (after r) (λ qs m r1. k (ps ++ qs) (1 + (n + m)) r1)) (k ps n r))
element_read AName at i k = k [] 1 (after i)

abbrev pub element_starts : Element → List Terminal → Bool
element_starts AParameter (Op Star ∷ r) = true
element_starts AParameter (Op DoubleStar ∷ r) = true
element_starts x r = leb 9 (lead_of r)

abbrev pub commaed_step : Element → ℕ → List Terminal → Goes → Reading
commaed_step x at i k = element_read x at i (λ ps n r. on_mark 6 r (cond (element_starts x (after r))
    (Ask (Commaed x) (1 + (at + n)) (after r) (λ qs m r1. k (ps ++ qs) (1 + (n + m)) r1)) (k ps (1 + n) (after r)))
    (k ps n r))

abbrev pub module_step : ℕ → List Terminal → Goes → Reading
module_step at i k = on_mark 12 (after i) (Ask Module (2 + at) (after (after i)) (λ ps n r. k [] (2 + n) r)) (k [] 1 (after i))

abbrev pub dots_step : ℕ → List Terminal → Goes → Reading
dots_step at (Op Dot ∷ r) k = Ask Dots (1 + at) r (λ ps n r1. k [] (1 + n) r1)
dots_step at (Op Ellipsis ∷ r) k = Ask Dots (1 + at) r (λ ps n r1. k [] (1 + n) r1)
dots_step at r k = k [] 0 r

-- parameters of types
abbrev pub type_params_read : ℕ → List Terminal → Goes → Reading
type_params_read at i k = on_mark 14 i (Ask (Commaed AParameter) (1 + at) (after i) (λ ps n r. k ps (2 + n) (after r))) (k [] 0 i)

-- ---- Simple statements.

-- an annotation, and perhaps a value
abbrev pub annotated : List Stretch → ℕ → ℕ → List Terminal → Goes → Reading
annotated ps n at r k = Ask (An Expression) (1 + (at + n)) r (λ qs m r1.
    marked 5 Value (1 + (at + (n + m))) r1 (λ rs w r2. k (ps ++ (qs ++ rs)) (1 + (n + (m + w))) r2))

abbrev pub valued_step : ℕ → List Terminal → Goes → Reading
valued_step at i k = Ask (An Value) at i (λ ps n r.
    on_mark 5 r (Ask Valued (1 + (at + n)) (after r) (λ qs m r1. k (ps ++ qs) (1 + (n + m)) r1))
    (on_mark 13 r (Ask (An Value) (1 + (at + n)) (after r) (λ qs m r1. k (ps ++ qs) (1 + (n + m)) r1))
    (on_mark 4 r (annotated ps n at (after r) k) (k ps n r))))

-- name, type_params, value
abbrev pub alias_rest : ℕ → Goes → Goes
alias_rest at k ps n r = Ask (An Expression) (3 + (at + n)) (after r) (λ qs m r1. k (over (1 + at) 1 ++ (ps ++ qs)) (3 + (n + m)) r1)

abbrev pub alias_read : ℕ → List Terminal → Goes → Reading
alias_read at i k = type_params_read (2 + at) i (alias_rest at k)

abbrev pub values_read : ℕ → List Terminal → Goes → Reading
values_read at i k = cond (is_named i && is_named (after i)) (alias_read at (after (after i)) k) (Ask Valued at i k)

abbrev pub names_read : ℕ → List Terminal → Goes → Reading
names_read at (Op Star ∷ r) k = k (over at 1) 1 r
names_read at (Op LPar ∷ r) k = Ask (Commaed AnAlias) (1 + at) r (λ ps n r1. k ps (2 + n) (after r1))
names_read at r k = Ask (Commaed AnAlias) at r k

-- so many terminals stand before the names with their `import`
abbrev pub imported : ℕ → ℕ → List Terminal → Goes → Reading
imported n at r k = names_read (2 + (at + n)) (after r) (λ ps m r1. k ps (2 + (n + m)) r1)

abbrev pub from_read : ℕ → List Terminal → Goes → Reading
from_read at i k = Ask Dots (1 + at) i (λ ps n r. on_mark 3 r (imported n at r k)
    (Ask Module (1 + (at + n)) r (λ qs m r1. imported (n + m) at r1 k)))

-- those of the fields of a statement
abbrev pub fields_read : ℕ → List Terminal → Goes → Reading
fields_read at (Word Key.Return ∷ r) k = Ask (Perhaps Stars) (1 + at) r (λ ps n r1. k ps (1 + n) r1)
fields_read at (Word Key.Raise ∷ r) k = cond (starts (Of Expression) r)
    (Ask (An Expression) (1 + at) r (λ ps n r1. gripped 4 Expression (1 + (at + n)) r1 (λ qs m r2. k (ps ++ qs) (1 + (n + m)) r2)))
    (k [] 1 r)
fields_read at (Word Key.Assert ∷ r) k =
    Ask (An Expression) (1 + at) r (λ ps n r1. marked 6 Expression (1 + (at + n)) r1 (λ qs m r2. k (ps ++ qs) (1 + (n + m)) r2))
fields_read at (Word Key.Del ∷ r) k = Ask (Commaed ADeleted) (1 + at) r (λ ps n r1. k ps (1 + n) r1)
fields_read at (Word Key.Global ∷ r) k = Ask (Commaed AName) (1 + at) r (λ ps n r1. k [] (1 + n) r1)
fields_read at (Word Key.Nonlocal ∷ r) k = Ask (Commaed AName) (1 + at) r (λ ps n r1. k [] (1 + n) r1)
fields_read at (Word Key.Pass ∷ r) k = k [] 1 r
fields_read at (Word Key.Break ∷ r) k = k [] 1 r
fields_read at (Word Key.Continue ∷ r) k = k [] 1 r
fields_read at (Word Key.Import ∷ r) k = Ask (Commaed ADotted) (1 + at) r (λ ps n r1. k ps (1 + n) r1)
fields_read at (Word Key.From ∷ r) k = from_read at r k
fields_read at i k = values_read at i k

abbrev pub statement_step : ℕ → List Terminal → Goes → Reading
statement_step at i k = fields_read at i (λ ps n r. k (ps ++ over at n) n r)

-- whether nothing is left
abbrev pub is_end : List Terminal → Bool
is_end [] = true
is_end (t ∷ r) = false

abbrev pub statements_step : ℕ → List Terminal → Goes → Reading
statements_step at i k = Ask Statement at i (λ ps n r. on_mark 1 r (cond (is_end (after r)) (k ps (1 + n) (after r))
    (Ask Statements (1 + (at + n)) (after r) (λ qs m r1. k (ps ++ qs) (1 + (n + m)) r1))) (k ps n r))

-- ---- Headers.

-- how a header goes on
abbrev pub HeadGoes : Type 0
HeadGoes = FormPlaces → ℕ → List Terminal → Reading

-- an expression that is all of a header after so many terminals
abbrev pub headed : Level → ℕ → ℕ → List Terminal → HeadGoes → Reading
headed l n at r k = Ask (An l) (n + at) r (λ ps m r1. k (plain_header ps) (n + m) r1)

-- so many terminals stand before `for`
abbrev pub for_read : ℕ → ℕ → List Terminal → HeadGoes → Reading
for_read a at i k = Ask ATarget (1 + (at + a)) i (λ ps n r. Ask (An Stars) (2 + (at + (a + n))) (after r)
    (λ qs m r1. k (plain_header (ps ++ qs)) (2 + (a + (n + m))) r1))

-- the items of a `with` in brackets, and without
abbrev pub with_read : Bool → ℕ → ℕ → List Terminal → HeadGoes → Reading
with_read true a at i k = Ask (Commaed AnItem) (1 + (1 + (at + a))) (after i) (λ ps n r. k (plain_header ps) (3 + (a + n)) (after r))
with_read false a at i k = Ask (Commaed AnItem) (1 + (at + a)) i (λ ps n r. k (plain_header ps) (1 + (a + n)) r)

abbrev pub excepted : ℕ → ℕ → List Terminal → HeadGoes → Reading
excepted a at i k = Ask (An Expression) (a + at) i
    (λ ps n r. on_mark 7 r (k (plain_header ps) (a + (n + 2)) (after (after r))) (k (plain_header ps) (a + (n + 0)) r))

-- args; returns, type_params
abbrev pub def_rest : ℕ → ℕ → HeadGoes → Goes
def_rest a at k tps n r = Ask (Items (Parameter true)) (3 + (at + (a + n))) (after r)
    (λ es m r1. marked 2 Expression (4 + (at + (a + (n + m)))) (after r1)
    (λ rs w r2. k (form_places (E.arranged es) (rs ++ tps) []) (4 + (a + (n + (m + w)))) r2))

abbrev pub def_read : ℕ → ℕ → List Terminal → HeadGoes → Reading
def_read a at i k = type_params_read (2 + (at + a)) (after i) (def_rest a at k)

-- bases, keywords; type_params
abbrev pub class_rest : ℕ → HeadGoes → Goes
class_rest at k tps n r = on_mark 11 r
    (Ask (Items Argument) (1 + (2 + (at + n))) (after r)
    (λ es m r1. k (form_places (E.positional es ++ E.keywords es) tps []) (2 + (n + (2 + m))) (after r1)))
    (k (form_places [] tps []) (2 + (n + 0)) r)

abbrev pub class_read : ℕ → List Terminal → HeadGoes → Reading
class_read at i k = type_params_read (2 + at) (after i) (class_rest at k)

-- the flag: the items of a `with` are in brackets
abbrev pub header_read : Bool → ℕ → List Terminal → HeadGoes → Reading
header_read b at (Word Key.If ∷ r) k = headed Named 1 at r k
header_read b at (Word Key.Elif ∷ r) k = headed Named 1 at r k
header_read b at (Word Key.While ∷ r) k = headed Named 1 at r k
header_read b at (Word Key.For ∷ r) k = for_read 0 at r k
header_read b at (Word Key.With ∷ r) k = with_read b 0 at r k
header_read b at (Word Key.Except ∷ r) k = on_lead 7 r (excepted 2 at (after r) k)
    (on_lead 5 r (k (plain_header []) 1 r) (excepted 1 at r k))
header_read b at (Word Key.Def ∷ r) k = def_read 0 at r k
header_read b at (Word Key.Class ∷ r) k = class_read at r k
header_read b at (Word Key.Async ∷ (Word Key.For ∷ r)) k = for_read 1 at r k
header_read b at (Word Key.Async ∷ (Word Key.With ∷ r)) k = with_read b 1 at r k
header_read b at (Word Key.Async ∷ (Word Key.Def ∷ r)) k = def_read 1 at r k
header_read b at r k = k (plain_header []) 1 (after r)

-- a pattern, and perhaps an `if`
abbrev pub case_read : ℕ → List Terminal → HeadGoes → Reading
case_read at i k = Ask (Pattern Patterns) (1 + at) (after i) (λ ps n r. gripped 9 Named (1 + (at + n)) r
    (λ qs m r1. k (plain_header (ps ++ qs)) (1 + (n + m)) r1))

-- ---- Lines.

-- what stands after a header, from its colon on
abbrev pub suite_read : FormPlaces → ℕ → List Terminal → Reading
suite_read f n r = cond (is_end (after r)) (Done f []) (Ask Statements (1 + n) (after r) (λ ps m r1. Done (with_suite ps f) []))

abbrev pub opened : Bool → Opening → List Terminal → Reading
opened b Decorates i = Ask (An Named) 1 (after i) (λ ps n r. Done (plain_header ps) [])
opened b Heads i = header_read b 0 i suite_read
opened b States i = Ask Statements 0 i (λ ps n r. Done (form_places [] [] ps) [])

abbrev pub front_read : Bool → List Terminal → Reading
front_read b [] = Done (plain_header []) []
front_read b (t ∷ r) = opened b (opening t) (t ∷ r)

-- both ends of the header of a `match`
abbrev pub has_match_ends : List Terminal → Bool
has_match_ends [] = false
has_match_ends (t ∷ ts) = is_match t && ends_in_colon ts

-- a line in a version and an extent, at its place
abbrev pub line_read : Profile → Bool → Bool → List Terminal → Reading
line_read profile inside b ts = cond (is_case_line profile inside ts) (case_read 0 ts suite_read)
    (cond (has_match_ends ts) (Ask (An Subject) 1 (after ts) (λ ps n r. Done (plain_header ps) [])) (front_read b ts))
