-- The header of a case.
--
-- Carries: cases.rt. On: Headers of pyplaces.
use Rattle.std.proofs.Common.{◌≡◌, sym, ap, ◌∙◌, ℕ, ◌+◌, List, [], ◌∷◌, ◌++◌}
use Rattle.pytree_node.specs.Trees.{Identifier}
use Rattle.pytree_node.specs.TreeOf.{boxed_of, pattern_of}
use Rattle.pytoken.specs.declared.keywords.Keyword.TheVariants as Key
use Rattle.pytoken.specs.Terminals.{Terminal, Word}
use Rattle.pytoken.specs.declared.values.terminals.Terminal as given
use Rattle.pygrammar.specs.declared.levels.Level.TheVariants.{Named}
use Rattle.pygrammar.specs.declared.pattern_levels.PatternLevel.TheVariants.{Patterns}
use Rattle.pygrammar.specs.FormOf.{header_of}
use Rattle.pygrammar.specs.Forms.{case_word}
use Rattle.pygrammar.specs.Lines.{case_header}
use Rattle.pyparse_nodes.specs.declared.found.Optional.{Optional}
use Rattle.pyparse_nodes.specs.Views.{seen}
use Rattle.pyplaces.specs.FormPlaces.{form_places}
use Rattle.pyplaces.specs.PlacedForms.{PlacedCase}
use Rattle.pyplaces.specs.PlacedPatterns.{PlacedPattern}
use Rattle.pyplaces.specs.Recording.{Records}
use Rattle.pyplaces.specs.Stretches.{Stretch}
use Rattle.pyplaces.proofs.Answers.{read_from, records_more}
use Rattle.pyplaces.proofs.Forms.Headers.{placed_case_line}
use Rattle.pyparse_pattern.specs.declared.found.ReadPattern.{ReadPattern}
use Rattle.pyparse_statement.specs.declared.headers.found.ReadHeader.{ReadHeader}
use Rattle.pyparse_line.specs.Inner.Placed.{CasePlaced}
use Rattle.pyparse_statement.specs.PlacedParts.{AfterPlaced}
use Rattle.pyparse_statement.proofs.Callers.Looks.{moved}

module _ {S : Type 0} {after : S → Stretch → S} {count : S → ℕ} {ts : List given.Terminal} where
  pub case_placed : {at : ℕ} {u v w : S} {ps : List Stretch} {guard : Optional} {r : ReadHeader} (pattern : ReadPattern)
      → PlacedPattern Patterns (seen ts at) at (pattern_of pattern.pattern.value) (seen ts pattern.next) pattern.next ps
      → Records after u ps v → AfterPlaced after (Word Key.If) Named ts pattern.next v w guard
      → header_of r.header ≡ case_header (pattern_of pattern.pattern.value) (boxed_of guard.expr) → r.next ≡ guard.next
      → r.before ≡ count w → (from : ℕ) (form : Identifier) → at ≡ from + 1 → seen ts from ≡ case_word form ∷ seen ts at
      → CasePlaced after count ts from u w r
  case_placed {ps = ps} {guard} pattern p k g h n b from form q s =
      let k2 = records_more k g.records in
      record {
        before = ps ++ g.places;
        header = moved (seen ts) (λ y i m. PlacedCase (seen ts from) from y i m (form_places (ps ++ g.places) [] [])) h n
            (placed_case_line (s ∙ ap (λ m. case_word form ∷ seen ts m) q) (read_from (seen ts) (sym q) p) g.part);
        before_is = b ∙ ap count k2.is;
        records = k2;
      }
