-- The laws.
use Rattle.std.proofs.Common.{sym, ap, ℕ, refl, arith, List, []}
use Rattle.std.proofs.lemmas.List.{append-nil}
use Rattle.pytree_node.specs.Trees.{Expr, Pattern}
use Rattle.pytoken.specs.Terminals.{Terminal}
use Rattle.pygrammar.specs.declared.levels.Level.{Level}
use Rattle.pygrammar.specs.declared.levels.Level.TheVariants.{Value, Stars, Slices, Part, Slice, Subject}
use Rattle.pygrammar.specs.declared.pattern_levels.PatternLevel.{PatternLevel}
use Rattle.pygrammar.specs.declared.pattern_levels.PatternLevel.TheVariants.{Patterns}
use Rattle.pygrammar.specs.Grammar.{Derives}
use Rattle.pygrammar.specs.PatternGrammar.{DerivesPattern}
use Rattle.pyplaces.specs.ExpressionPlaces.{places}
use Rattle.pyplaces.specs.PatternPlaces.{pattern_places}
use Rattle.pyplaces.specs.FormPlaces.{FormPlaces, plain_header}
use Rattle.pyplaces.specs.Unique.{OfExpressions, OfPatterns, OfLines, OfBlocks, PlacesAreUnique}
use Rattle.pyplaces.specs.Inner.Questions
use Rattle.pyplaces.specs.Inner.Questions.{An, Done, Ask}
use Rattle.pyplaces.proofs.Unique.Leading.{Comes, from, one_end}
use Rattle.pyplaces.proofs.Unique.Levels.{Stops, value_stops, answers}
use Rattle.pyplaces.proofs.Unique.Expressions.{goes}
use Rattle.pyplaces.proofs.Unique.PatternLooks.{PatternStops}
use Rattle.pyplaces.proofs.Unique.Patterns.{pattern_goes}
use Rattle.pyplaces.proofs.Unique.LineForms.{line_told}
use Rattle.pyplaces.proofs.Unique.WithForms.{lines_agree}
use Rattle.pyplaces.proofs.Unique.Blocks.{blocks_alike}
use Rattle.pyplaces.proofs.Unique.Sources.{of_sources}

-- nothing follows
ends : (l : Level) → Stops l []
ends Value = value_stops [] (omega arith) (omega arith)
ends Stars = (omega arith, (λ q. absurd (omega (arith, q))), omega arith)
ends Subject = (omega arith, (λ q. absurd (omega (arith, q))), omega arith)
ends Slices = (omega arith, omega arith)
ends Part = (omega arith, omega arith)
ends Slice = (omega arith, omega arith)
ends _ = omega arith

expression_told : {l : Level} {ts : List Terminal} {e : Expr} (at : ℕ) (p : Derives l ts e)
    → Comes (Ask (An l) at ts (λ ps n r. Done (plain_header ps) r)) (Done (plain_header (places at p)) [])
expression_told {l} {ts} {e} at p = from (ap (λ z. Ask (An l) at z (λ ps n r. Done (plain_header ps) r)) (sym (append-nil ts)))
    (answers l ts (λ at. places at p) (goes p).0 at [] (λ ps n r. Done (plain_header ps) r) (ends l))

pub of_expressions : OfExpressions
of_expressions l ts a b at p q = ap (λ (f : FormPlaces). f.before) ((one_end (expression_told at p) (expression_told at q)).0)

-- ---- Patterns.

pattern_ends : (l : PatternLevel) → PatternStops l []
pattern_ends Patterns = (omega arith, omega arith)
pattern_ends _ = omega arith

pattern_told : {l : PatternLevel} {ts : List Terminal} {q : Pattern} (at : ℕ) (p : DerivesPattern l ts q)
    → Comes (Ask (Questions.Pattern l) at ts (λ ps n r. Done (plain_header ps) r)) (Done (plain_header (pattern_places at p)) [])
pattern_told {l} {ts} at p = from (ap (λ z. Ask (Questions.Pattern l) at z (λ ps n r. Done (plain_header ps) r)) (sym (append-nil ts)))
    (pattern_goes p at [] (λ ps n r. Done (plain_header ps) r) (pattern_ends l))

pub of_patterns : OfPatterns
of_patterns l ts a b at p q = ap (λ (f : FormPlaces). f.before) ((one_end (pattern_told at p) (pattern_told at q)).0)

-- ---- Lines.

pub of_lines : OfLines
of_lines profile inside ts f g p q =
    let w = lines_agree p q refl in
    (one_end (line_told w.0 p w.1) (line_told w.0 q w.2)).0

-- ---- Blocks, and all.

pub of_blocks : OfBlocks
of_blocks l xs ss ts zs b c = blocks_alike refl b c zs

pub places_are_unique : PlacesAreUnique
places_are_unique = record {
  expressions = of_expressions;
  patterns = of_patterns;
  lines = of_lines;
  blocks = of_blocks;
  sources = of_sources of_lines;
}
