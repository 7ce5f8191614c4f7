-- Worked match statements: the text of each. The trees are those of Python's module `ast`.
--
-- Carries: no contract; its rows are computed as it is checked. On: WorkedRows.
use Rattle.std.proofs.Common.{refl, ℕ, List, [], ◌∷◌, ◌++◌, Option, Some, None, true, false}
use Rattle.std.specs.Prelude.{codes}
use Rattle.std.specs.Float.{float_zero}
use Rattle.std.specs.Float.Ieee.{inf}
use Rattle.pynumber.specs.Decimals.{decimal_text}
use Rattle.pynumber.specs.FloatTexts.{float_text}
use Rattle.pytree_node.specs.declared.operators.Operator.TheVariants as Bin
use Rattle.pytree_node.specs.declared.operators.UnaryOperator.TheVariants as Un
use Rattle.pytree_node.specs.declared.operators.Context.TheVariants.{Load, Store}
use Rattle.pytree_node.specs.Values
use Rattle.pytree_node.specs.Trees.{Identifier, Expr, NamedExpr, Yield, Constant, UnaryOp, BinOp, Attribute, Starred, Name, Tuple, Lambda}
use Rattle.pytree_node.specs.Trees.{exprs}
use Rattle.pytree_node.specs.Trees.{no_exprs, absent, Pattern, MatchValue, MatchSingleton, MatchSequence, MatchMapping, MatchClass}
use Rattle.pytree_node.specs.Trees.{MatchStar}
use Rattle.pytree_node.specs.Trees.{MatchAs, MatchOr, patterns, no_pattern, absent_pattern, present_pattern, Match, a_case, no_case, ExprOf}
use Rattle.pytree_node.specs.Trees.{Pass}
use Rattle.pytree_node.specs.Trees.{stmts}
use Rattle.pygrammar.specs.Parameters.{no_arguments}
use Rattle.pyunparse_text.specs.Levels.{leads, reaches}
use Rattle.pyunparse_text.specs.Written.{fit, written}
use Rattle.pyunparse_text.specs.WrittenPatterns.{pattern_leads, pattern_reaches, fit_pattern, written_pattern, each_pattern, key_patterns}
use Rattle.pyunparse_text.specs.WrittenPatterns.{named_patterns}
use Rattle.pyunparse_text.specs.Modules.{lines_of, statement_lines, case_lines}
use Rattle.pyunparse_text.proofs.WorkedRows.{Row, row, AreWritten, a, b, c}

abbrev named : Identifier → Expr
named x = Name x Load

abbrev capture : Identifier → Pattern
capture x = MatchAs absent_pattern (Some x)

abbrev wildcard : Pattern
wildcard = MatchAs absent_pattern None

abbrev alias : Pattern → Identifier → Pattern
alias p x = MatchAs (present_pattern p) (Some x)

abbrev star : Identifier → Pattern
star x = MatchStar (Some x)

abbrev sequence : List Pattern → Pattern
sequence ps = MatchSequence (patterns ps)

abbrev any : List Pattern → Pattern
any ps = MatchOr (patterns ps)

abbrev one : Expr
one = Constant (Values.Int 1)

-- in the place of a text, whose repr asks Unicode's tables
abbrev bytes : List ℕ → Expr
bytes t = Constant (Values.Bytes t)

abbrev minus : Expr → Expr
minus e = UnaryOp Un.USub e

abbrev assigned : Identifier → Expr → Expr
assigned x e = NamedExpr (Name x Store) e

abbrev p : Pattern
p = capture (codes "a")

abbrev q : Pattern
q = capture (codes "b")

abbrev r : Pattern
r = capture (codes "c")

-- a statement of this subject, and its first line
abbrev of_subject : Expr → List ℕ → Row
of_subject e line = row (Match e (a_case wildcard None (stmts (Pass ∷ [])) no_case) ∷ [])
    (line ∷ codes "    case _:" ∷ codes "        pass" ∷ [])

-- a statement of this case, and its line
abbrev guarded : Pattern → Option Expr → List ℕ → Row
guarded p g line = row (Match a (a_case p g (stmts (Pass ∷ [])) no_case) ∷ [])
    (codes "match a:" ∷ (codes "    " ++ line) ∷ codes "        pass" ∷ [])

abbrev of_case : Pattern → List ℕ → Row
of_case p line = guarded p None line

-- A Tuple as a subject has no brackets, nor have the named expressions in it.
subjects : AreWritten (
    of_subject (Tuple (exprs (a ∷ b ∷ [])) Load) (codes "match a, b:") ∷
    of_subject (Tuple (exprs (a ∷ [])) Load) (codes "match a,:") ∷
    of_subject (Tuple (exprs (Starred a Load ∷ b ∷ [])) Load) (codes "match *a, b:") ∷
    of_subject (Tuple no_exprs Load) (codes "match ():") ∷
    of_subject (Tuple (exprs (Tuple (exprs (a ∷ b ∷ [])) Load ∷ c ∷ [])) Load) (codes "match (a, b), c:") ∷
    of_subject (assigned (codes "a") one) (codes "match a := 1:") ∷
    of_subject (Tuple (exprs (assigned (codes "a") one ∷ b ∷ [])) Load) (codes "match a := 1, b:") ∷
    of_subject (Yield absent) (codes "match (yield):") ∷
    of_subject (Tuple (exprs (Yield absent ∷ one ∷ [])) Load) (codes "match (yield), 1:") ∷
    of_subject (Lambda no_arguments a) (codes "match lambda: a:") ∷
    of_subject (minus one) (codes "match -1:") ∷
    of_subject (named (codes "match")) (codes "match match:") ∷ [])
unfolding lines_of statement_lines case_lines written_pattern written fit reaches leads decimal_text
subjects = refl

-- A sequence that is the whole pattern has no brackets, but has a comma after one element; others have square ones.
sequences : AreWritten (
    of_case (sequence (p ∷ star (codes "b") ∷ [])) (codes "case a, *b:") ∷
    of_case (sequence (p ∷ [])) (codes "case a,:") ∷
    of_case (sequence []) (codes "case []:") ∷
    of_case (sequence (star (codes "a") ∷ [])) (codes "case *a,:") ∷
    of_case (sequence (MatchStar None ∷ wildcard ∷ [])) (codes "case *_, _:") ∷
    of_case (sequence (sequence (p ∷ []) ∷ sequence (q ∷ r ∷ []) ∷ [])) (codes "case [a], [b, c]:") ∷
    of_case (alias (sequence (p ∷ [])) (codes "b")) (codes "case [a] as b:") ∷
    of_case (any (sequence (p ∷ MatchStar None ∷ []) ∷ sequence [] ∷ [])) (codes "case [a, *_] | []:") ∷
    of_case (sequence (alias p (codes "b") ∷ any (q ∷ r ∷ []) ∷ [])) (codes "case a as b, b | c:") ∷ [])
unfolding lines_of statement_lines case_lines written_pattern each_pattern fit_pattern pattern_reaches pattern_leads written
sequences = refl

-- Alternatives and names, each in the brackets that its level asks for.
choices : AreWritten (
    of_case (alias (any (p ∷ q ∷ [])) (codes "c")) (codes "case a | b as c:") ∷
    of_case (any (any (p ∷ q ∷ []) ∷ r ∷ [])) (codes "case (a | b) | c:") ∷
    of_case (any (p ∷ any (q ∷ r ∷ []) ∷ [])) (codes "case a | (b | c):") ∷
    of_case (any (p ∷ alias q (codes "c") ∷ [])) (codes "case a | (b as c):") ∷
    of_case (alias (alias p (codes "b")) (codes "c")) (codes "case (a as b) as c:") ∷
    of_case (alias (any (any (p ∷ q ∷ []) ∷ r ∷ [])) (codes "d")) (codes "case (a | b) | c as d:") ∷
    of_case (alias p (codes "b")) (codes "case a as b:") ∷
    of_case (any (MatchValue (Attribute a (codes "b") Load) ∷ MatchSingleton Values.None ∷ MatchValue (bytes (codes "st")) ∷ alias r
    (codes "d") ∷ [])) (codes "case a.b | None | b'st' | (c as d):") ∷ [])
unfolding lines_of statement_lines case_lines written_pattern each_pattern fit_pattern pattern_reaches pattern_leads
    written fit reaches leads
choices = refl

-- Values.
values : AreWritten (
    of_case (MatchValue one) (codes "case 1:") ∷
    of_case (MatchValue (minus one)) (codes "case -1:") ∷
    of_case (MatchValue (BinOp (minus one) Bin.Add (Constant (Values.Imaginary float_zero)))) (codes "case -1 + 0j:") ∷
    of_case
    (any (MatchValue (BinOp (minus (Constant (Values.Float float_zero))) Bin.Sub (Constant (Values.Imaginary (inf false)))) ∷ MatchValue
    (Constant (Values.Imaginary float_zero)) ∷ MatchValue (minus (Constant (Values.Imaginary (inf false)))) ∷ []))
    (codes "case -0.0 - 1e309j | 0j | -1e309j:") ∷
    of_case (any (MatchSingleton (Values.Bool true) ∷ MatchSingleton (Values.Bool false) ∷ MatchValue (bytes (codes "a")) ∷ []))
    (codes "case True | False | b'a':") ∷
    of_case (MatchValue (Attribute (Attribute a (codes "b") Load) (codes "c") Load)) (codes "case a.b.c:") ∷ [])
unfolding lines_of statement_lines case_lines written_pattern each_pattern fit_pattern pattern_reaches pattern_leads written fit reaches
    leads decimal_text float_text
values = refl

-- Mappings and class patterns.
listings : AreWritten (
    of_case (MatchMapping (minus one ∷ bytes (codes "k") ∷ []) (patterns (p ∷ q ∷ [])) (Some (codes "r")))
    (codes "case {-1: a, b'k': b, **r}:") ∷
    of_case
    (MatchMapping (minus one ∷ bytes (codes "kl") ∷ Constant Values.None ∷ Attribute (named (codes "f")) (codes "g") Load ∷ [])
    (patterns (p ∷ any (q ∷ r ∷ []) ∷ alias (capture (codes "d")) (codes "e") ∷ wildcard ∷ [])) (Some (codes "h")))
    (codes "case {-1: a, b'kl': b | c, None: d as e, f.g: _, **h}:") ∷
    of_case (MatchMapping [] no_pattern None) (codes "case {}:") ∷
    of_case (MatchMapping [] no_pattern (Some (codes "r"))) (codes "case {**r}:") ∷
    of_case (MatchClass (Attribute (named (codes "A")) (codes "B") Load) (patterns (r ∷ [])) (codes "k" ∷ [])
    (patterns (capture (codes "d") ∷ [])))
    (codes "case A.B(c, k=d):") ∷
    of_case
    (MatchClass (named (codes "A")) (patterns (alias p (codes "b") ∷ any (r ∷ capture (codes "d") ∷ []) ∷ [])) (codes "k" ∷ [])
    (patterns (alias (capture (codes "e")) (codes "f") ∷ [])))
    (codes "case A(a as b, c | d, k=e as f):") ∷
    of_case (MatchClass (named (codes "A")) no_pattern [] no_pattern) (codes "case A():") ∷
    of_case (MatchClass (named (codes "A")) (patterns (MatchValue one ∷ sequence (p ∷ []) ∷ [])) (codes "k" ∷ codes "_" ∷ [])
    (patterns (wildcard ∷ MatchValue (minus one) ∷ []))) (codes "case A(1, [a], k=_, _=-1):") ∷ [])
unfolding lines_of statement_lines case_lines written_pattern each_pattern key_patterns named_patterns fit_pattern pattern_reaches
    pattern_leads written fit reaches leads decimal_text
listings = refl

-- Guards, and cases in order.
cases : AreWritten (
    guarded wildcard (Some (assigned (codes "b") one)) (codes "case _ if b := 1:") ∷
    guarded (sequence (p ∷ [])) (Some (Lambda no_arguments b)) (codes "case a, if lambda: b:") ∷
    guarded wildcard (Some (Tuple (exprs (a ∷ [])) Load)) (codes "case _ if (a,):") ∷
    row
    (Match a (a_case (sequence (capture (codes "y") ∷ [])) None (stmts (ExprOf (named (codes "int")) ∷ []))
    (a_case (capture (codes "case")) None (stmts (Match b (a_case wildcard None (stmts (Pass ∷ [])) no_case) ∷ [])) no_case)) ∷ [])
    (codes "match a:" ∷ codes "    case y,:" ∷ codes "        int" ∷ codes "    case case:" ∷ codes "        match b:" ∷ codes
    "            case _:" ∷ codes "                pass" ∷ []) ∷ [])
unfolding lines_of statement_lines case_lines written_pattern each_pattern fit_pattern pattern_reaches pattern_leads written fit
    reaches leads decimal_text
cases = refl
