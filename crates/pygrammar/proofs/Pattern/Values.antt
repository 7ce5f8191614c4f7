-- The values, classes and keys of patterns are expressions.
--
-- Carries: values. On: Says.
use Rattle.std.proofs.Common.{◌≡◌, refl, List, Some, arith}
use Rattle.pytoken.specs.declared.keywords.Keyword.TheVariants as Key
use Rattle.pytree_node.specs.Trees.{Expr, Identifier}
use Rattle.pytree_node.specs.Values
use Rattle.pytoken.specs.Terminals.{Terminal, Word}
use Rattle.pygrammar.specs.declared.levels.Level.TheVariants.{Sum, Term, Factor, Primary, Atom}
use Rattle.pygrammar.specs.Constants.{constant_word}
use Rattle.pygrammar.specs.Grammar as G
use Rattle.pygrammar.specs.PatternOperators.{singleton_word}
use Rattle.pygrammar.specs.PatternGrammar.{SignedNumber, unsigned, negative, LiteralOf, number, complex, strings, joined_string, Dotted}
use Rattle.pygrammar.specs.PatternGrammar.{first_name, dot_name, ClassOf, class_name, KeyOf, literal_key, singleton_key, name_key}
use Rattle.pygrammar.specs.PatternLaws.{ValuesAreExpressions}
use Rattle.pygrammar.proofs.Soundness.Says.{lower}

atom_sum : {ts : List Terminal} {e : Expr} → G.Derives Atom ts e → G.Derives Sum ts e
atom_sum {ts} {e} p = lower Sum Atom ts e (omega arith) (omega arith) (omega arith) p

primary_sum : {ts : List Terminal} {e : Expr} → G.Derives Primary ts e → G.Derives Sum ts e
primary_sum {ts} {e} p = lower Sum Primary ts e (omega arith) (omega arith) (omega arith) p

factor_sum : {ts : List Terminal} {e : Expr} → G.Derives Factor ts e → G.Derives Sum ts e
factor_sum {ts} {e} p = lower Sum Factor ts e (omega arith) (omega arith) (omega arith) p

atom_term : {ts : List Terminal} {e : Expr} → G.Derives Atom ts e → G.Derives Term ts e
atom_term {ts} {e} p = lower Term Atom ts e (omega arith) (omega arith) (omega arith) p

atom_factor : {ts : List Terminal} {e : Expr} → G.Derives Atom ts e → G.Derives Factor ts e
atom_factor {ts} {e} p = lower Factor Atom ts e (omega arith) (omega arith) (omega arith) p

signed : {v : Values.Value} {ts : List Terminal} {e : Expr} → SignedNumber v ts e → G.Derives Sum ts e
signed unsigned = atom_sum G.number
signed negative = factor_sum (G.unary refl (atom_factor G.number))

literals : {ts : List Terminal} {e : Expr} → LiteralOf ts e → G.Derives Sum ts e
literals (number p) = signed p
literals (complex t p h q k) = G.binary t q (signed p) (atom_term G.number)
literals (strings vs h) = atom_sum (G.strings vs h)
literals (joined_string p b q) = atom_sum (G.joined_string p b q)

dotted : {f : Identifier} {ts : List Terminal} {e : Expr} → Dotted f ts e → G.Derives Primary ts e
dotted first_name = G.next G.name
dotted (dot_name x p) = G.attribute x (dotted p)

classes : {ts : List Terminal} {e : Expr} → ClassOf ts e → G.Derives Sum ts e
classes (class_name p h) = primary_sum (dotted p)

constants : (t : Terminal) (v : Values.Value) → singleton_word t ≡ Some v → constant_word t ≡ Some v
constants (Word Key.None) v h = h
constants (Word Key.True) v h = h
constants (Word Key.False) v h = h
constants (Word _) v h = absurd (cc)
constants _ v h = absurd (cc)

keys : {ts : List Terminal} {e : Expr} → KeyOf ts e → G.Derives Sum ts e
keys (literal_key p) = literals p
keys (singleton_key {t = t} {v = v} h) = atom_sum (G.constant (constants t v h))
keys (name_key x p) = primary_sum (G.attribute x (dotted p))

-- the law
pub values : ValuesAreExpressions
values ts e = record { literal = literals; class = classes; key = keys }
