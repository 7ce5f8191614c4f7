-- Carries: the laws of pieces. On: what is written for an expression of tokens is read back.
use Rattle.std.proofs.Common.{◌≡◌, ◌≤◌, true, List, [], refl, arith}
use Rattle.pytree_node.specs.declared.profiles.Extent.{Extent}
use Rattle.pytree_node.specs.Trees.{Expr}
use Rattle.pytoken.specs.Terminals.{Terminal}
use Rattle.pytree_height.specs.Heights.{height}
use Rattle.pygrammar.specs.declared.levels.Level.{Level}
use Rattle.pygrammar.specs.Grammar.{Derives}
use Rattle.pygrammar.specs.FormattedStrings.{has_formatted}
use Rattle.pyunparse_text.specs.Spacing.{are_readable}
use Rattle.pyunparse_text.specs.Tokens.{closes_all}
use Rattle.pyunparse_text.specs.Pieces.{Sited, outside, pieces}
use Rattle.pyunparse_text.specs.Terminals.{terminals}
use Rattle.pyunparse_text.proofs.Callers.Lists.{neat_readable, balanced_closes}
use Rattle.pyunparse_text.specs.Laws.{AreRead, ExpressionsAreRead}
use Rattle.pyunparse_text.proofs.Fewest.Less.{star_place}
use Rattle.pyunparse_text.proofs.PieceLaws.Sorts.{within}
use Rattle.pyunparse_text.proofs.PieceLaws.Segments.{Closed}
use Rattle.pyunparse_text.proofs.PieceLaws.Places.{open_place, give_outside}
use Rattle.pyunparse_text.proofs.PieceLaws.Shallow.{Low}
use Rattle.pyunparse_text.proofs.PieceLaws.Fields.{there}
use Rattle.pyunparse_text.proofs.PieceLaws.AtomBrackets.{brackets_low}
use Rattle.pyunparse_text.proofs.PieceLaws.OfTokens.{of_tokens}
use Rattle.pyunparse_text.proofs.PieceLaws.Derived.{Said, sound, starred}
use Rattle.pyunparse_text.proofs.PieceLaws.Readable.{readable}

-- pieces that are read, where no more brackets are open than a field of an f-string may have, if there is one
abbrev pub Reads : Extent → List Sited → List Terminal → Type 0
Reads extent ps ts = Low ts → AreRead extent (outside ps) ts

module _ {extent : Extent} where
  pub closed_read : {a b : List Sited} {ps : List Sited} {ts : List Terminal} → Closed (open_place extent) a b ps ts → Reads extent ps ts
  closed_read {a} {b} {ps} {ts} x low =
      let g = x.segment low in
      record {
        give = give_outside g.gives;
        line = λ n.
            let f = g.form in
            let r : are_readable (outside ps) ≡ true =
            neat_readable (outside ps) f.neat (there (within a) (outside ps) f.begins) f.pieces in
            let c : closes_all 0 (outside ps) ≡ true = balanced_closes (outside ps) x.balanced in
            let s = f.scalars in
            rw (r, c, s) refl;
      }

-- what is written for an expression that the grammar gives to terminals that can be said
pub expressions_said : (extent : Extent) (l : Level) (ts : List Terminal) (e : Expr) → Said extent [] ts → Derives l ts e
    → (has_formatted (terminals l e) ≡ true → height e ≤ 500) → AreRead extent (outside (pieces l e)) (terminals l e)
expressions_said extent l ts e h p low =
    let b = brackets_low l e in
    closed_read (readable true l e (starred extent (star_place l) e (sound extent p h))) (λ q. let h = low q in omega (arith, b, h))

pub expressions_read : ExpressionsAreRead
expressions_read extent l ts e h p low = expressions_said extent l ts e (of_tokens h) p low
