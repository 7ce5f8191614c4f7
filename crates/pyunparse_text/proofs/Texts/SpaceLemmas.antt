-- Carries: put_str, put_bytes. A literal stands among blanks as any text does that is no sign.
use Rattle.std.proofs.Common.{◌≡◌, ◌∙◌, ℕ, false, ◌&&◌, ◌==◌, List, [], ◌∷◌, ◌++◌, Option, Some, None, refl, ap}
use Rattle.std.specs.Prelude.{codes}
use Rattle.std.specs.Char.{encode_utf8}
use Rattle.std.specs.Str.{bytes_eq, encode_utf8_all}
use Rattle.std.proofs.Math.Bool.{and-false}
use Rattle.pylex_listing.specs.declared.kind.Kind.TheVariants as kinds
use Rattle.pyfstring.specs.Texts.{begins_with}
use Rattle.pylex_lexeme.specs.Characters.{left_curly_bracket}
use Rattle.pyunparse_text.specs.Spacing.{Piece}
use Rattle.pyunparse_text.specs.declared.edges.Edge.{Edge}
use Rattle.pyunparse_text.specs.Writing.{following, blank, edge_of}
use Rattle.pyunparse_text.proofs.Texts.WritingLemmas.{same_brace, same_sign}

more : (xs : List ℕ) (b : ℕ) → bytes_eq (xs ++ b ∷ []) [] ≡ false
more [] b = refl
more (x ∷ xs) b = refl

-- a text of two characters at least is none of one
long : (a b s : ℕ) (xs : List ℕ) → bytes_eq (a ∷ (xs ++ b ∷ [])) (s ∷ []) ≡ false
long a b s xs = ap (λ z. (a == s) && z) (more xs b) ∙ and-false (a == s)

abbrev pub literal : List ℕ → Piece
literal t = record { kind = kinds.String; text = t; before = false; following = false }

-- no sign that the spacing asks for
pub record IsNoSign (t : List ℕ) : Type 0 where
  pub brace : begins_with left_curly_bracket t ≡ false
  pub comma : bytes_eq t (codes ",") ≡ false
  pub point : bytes_eq t (codes ".") ≡ false
  pub colon : bytes_eq t (codes ":") ≡ false

pub same_blank : (o : Option Edge) (t : List ℕ) → IsNoSign t → blank o (literal t) ≡ blank o (literal [])
same_blank None t n = refl
same_blank (Some e) t n = rw (n.brace, n.point, n.colon) refl

pub same_edge : (t : List ℕ) → IsNoSign t → edge_of (literal t) ≡ edge_of (literal [])
same_edge t n = rw n.comma refl

pub quoted_sign : (a b : ℕ) (xs : List ℕ) → (a == left_curly_bracket) ≡ false → IsNoSign (encode_utf8_all (a ∷ (xs ++ b ∷ [])))
unfolding encode_utf8
quoted_sign a b xs h = record {
  brace = same_brace (a ∷ (xs ++ b ∷ [])) ∙ h;
  comma = same_sign (a ∷ (xs ++ b ∷ [])) (codes ",") refl ∙ long a b 44 xs;
  point = same_sign (a ∷ (xs ++ b ∷ [])) (codes ".") refl ∙ long a b 46 xs;
  colon = same_sign (a ∷ (xs ++ b ∷ [])) (codes ":") refl ∙ long a b 58 xs;
}
