-- Carries: write_bases, write_function_header, write_match_header, write_case_header. The bases and
-- keywords of a class, what stands after the name of a function, and the headers of a `match`.
use Rattle.std.proofs.Common.{◌≡◌, ◌∙◌, ◌==◌, Bool, true, false, ◌&&◌, List, [], ◌∷◌, ◌++◌, length, map, Option, refl, ap, sym}
use Rattle.std.proofs.lemmas.Bool.{false≢true}
use Rattle.std.specs.Str.{chars}
use Rattle.pylex_lexeme.specs.declared.kinds.Exact.TheVariants.{Colon, Comma, LPar, RPar}
use Rattle.pytoken.specs.declared.keywords.Keyword.TheVariants as Key
use Rattle.pytoken.specs.Terminals.{in_form}
use Rattle.pytree_node.specs.declared.expressions.Expr as given
use Rattle.pytree_node.specs.declared.expressions.Keyword as given_keyword
use Rattle.pytree_node.specs.Trees as plain
use Rattle.pytree_node.specs.Trees.{Keywords, exprs, keywords}
use Rattle.pytree_node.specs.TreeOf.{keyword_of, tree_of}
use Rattle.pygrammar.specs.declared.levels.Level.TheVariants.{Named, Subject}
use Rattle.pygrammar.specs.declared.pattern_levels.PatternLevel.TheVariants.{Patterns}
use Rattle.pygrammar.specs.Forms.{case_name, match_name}
use Rattle.pygrammar.specs.Lines.{case_header, match_header}
use Rattle.pyunparse_text.specs.Pieces.{Sited, piece, pieces, sited}
use Rattle.pyunparse_text.specs.Statements.{bases, following, header_tokens}
use Rattle.pyunparse_text.specs.Written.{by_name, each, enclosed, free, listed, tight, trailing, word}
use Rattle.pyunparse_text.specs.WrittenPatterns.{written_pattern}
use Rattle.pyunparse_text.specs.Folds.{puts}
use Rattle.pyunparse.specs.Inner.Lines.{with_colon}
use Rattle.pyunparse.specs.Inner.Members.{members}
use Rattle.pyunparse_text.proofs.Callers.Writing.{not_zero}
use Rattle.pyunparse.proofs.Sequences.FoldLemmas.{three, two}
use Rattle.pyunparse.proofs.Sequences.MemberLemmas.{members_both}
use Rattle.pyunparse.proofs.ExpressionParts.ArgumentLemmas.{none_each}

-- bases, and keywords after them
pub bases_listed : {S : Type 0} (after : S → Sited → S) (s s1 : S) (es : List given.Expr) (ks : Keywords) (b : Bool) →
    b ≡ (length es == 0) → s1 ≡ puts after s (members true (trailing piece Comma) (each piece Named (exprs (map tree_of es)))) →
    puts after s1 (members b (trailing piece Comma) (by_name piece ks)) ≡ puts after s
    (listed piece (each piece Named (exprs (map tree_of es)) ++ by_name piece ks))
bases_listed after s s1 es ks b h e =
    let t : Sited = trailing piece Comma in
    let X : List (List Sited) = each piece Named (exprs (map tree_of es)) in
    let Y : List (List Sited) = by_name piece ks in
    two after s (members true t X) (members b t Y) s1 e
    ∙ ap (λ z. puts after s (members true t X ++ members z t Y)) (h ∙ sym (none_each es))
    ∙ ap (puts after s) (sym (members_both true t X Y))

-- none of them, and some of them in their brackets
module _ (b c : Bool) where
  pub no_bases : (es : List given.Expr) (ks : List given_keyword.Keyword) → b ≡ (length es == 0) → c ≡ (length ks == 0) → (b && c) ≡ true →
      [] ≡ bases piece (map tree_of es) (keywords (map keyword_of ks))
  no_bases [] [] h k e = refl
  no_bases [] (w ∷ ks) h k e = absurd (false≢true (sym (λ i. h i && (k ∙ not_zero (length ks)) i) ∙ e))
  no_bases (x ∷ es) ks h k e = absurd (false≢true (sym (ap (λ z. z && c) (h ∙ not_zero (length es))) ∙ e))

  pub some_bases : (es : List given.Expr) (ks : List given_keyword.Keyword) → b ≡ (length es == 0)
      → c ≡ (length ks == 0) → (b && c) ≡ false →
      enclosed piece (tight piece LPar) RPar
      (listed piece (each piece Named (exprs (map tree_of es)) ++ by_name piece (keywords (map keyword_of ks))))
      ≡ bases piece (map tree_of es) (keywords (map keyword_of ks))
  some_bases [] [] h k e = absurd (false≢true (sym e ∙ (λ i. h i && k i)))
  some_bases [] (w ∷ ks) h k e = refl
  some_bases (x ∷ es) [] h k e = refl
  some_bases (x ∷ es) (w ∷ ks) h k e = refl

-- `match` and `case` as they stand in the code
match_text : chars (109 ∷ 97 ∷ 116 ∷ 99 ∷ 104 ∷ []) ≡ match_name
unfolding chars
match_text = refl

case_text : chars (99 ∷ 97 ∷ 115 ∷ 101 ∷ []) ≡ case_name
unfolding chars
case_text = refl

-- the headers that begin with them
module _ {S : Type 0} (after : S → Sited → S) (s : S) where
  pub match_on : (e : plain.Expr) (s1 s2 : S)
      → s1 ≡ puts after s (sited (in_form (chars (109 ∷ 97 ∷ 116 ∷ 99 ∷ 104 ∷ []))) false false ∷ [])
      → s2 ≡ puts after s1 (pieces Subject e) →
      puts after s2 (trailing piece Colon ∷ []) ≡ puts after s (with_colon (match_header e))
  match_on e s1 s2 e1 e2 =
      three after s (free piece (in_form match_name) ∷ []) (pieces Subject e) (trailing piece Colon ∷ []) s1 s2 (e1
      ∙ ap (λ z. puts after s (free piece (in_form z) ∷ [])) match_text) e2

  pub case_on : (p : plain.Pattern) (g : Option plain.Expr) (s1 s2 s3 : S)
      → s1 ≡ puts after s (sited (in_form (chars (99 ∷ 97 ∷ 115 ∷ 101 ∷ []))) false false ∷ []) →
      s2 ≡ puts after s1 (written_pattern piece Patterns p) → s3 ≡ puts after s2 (following piece (word piece Key.If) Named g) →
      puts after s3 (trailing piece Colon ∷ []) ≡ puts after s (with_colon (case_header p g))
  case_on p g s1 s2 s3 e1 e2 e3 =
      two after s (header_tokens piece (case_header p g)) (trailing piece Colon ∷ []) s3
      (e3 ∙ three after s (free piece (in_form case_name) ∷ []) (written_pattern piece Patterns p)
      (following piece (word piece Key.If) Named g) s1 s2 (e1 ∙ ap (λ z. puts after s (free piece (in_form z) ∷ [])) case_text) e2)
