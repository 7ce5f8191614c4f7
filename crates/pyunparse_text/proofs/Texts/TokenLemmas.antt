-- The texts of operators are ASCII, and pieces are put into a list of tokens.
--
-- Carries: put_sign, expression_tokens.
use Rattle.std.proofs.Common.{◌≡◌, ◌∙◌, ℕ, Bool, true, false, List, [], ◌∷◌, ◌++◌, map, refl, ap, sym, append-nil, append_assoc}
use Rattle.std.specs.Str.{encode_utf8_all}
use Rattle.std.specs.Char.{encode_utf8}
use Rattle.pylex_lexeme.specs.declared.kinds.Exact.{Exact}
use Rattle.pylex_lexeme.specs.declared.kinds.Exact.TheVariants.{LPar}
use Rattle.pylex_lexeme.specs.Operators.{exact_text}
use Rattle.pylex_listing.specs.declared.kind.Kind.TheVariants as kinds
use Rattle.pyunparse_text.specs.Written.{Element}
use Rattle.pyunparse_text.specs.Pieces.{Sited, outside}
use Rattle.pyunparse_text.specs.Tokens.{PlainToken, token_of}
use Rattle.pyunparse_text.specs.Marks.{in_role, is_close_after, is_close_before}
use Rattle.pyunparse_text.specs.declared.marks.Role.{Role}
use Rattle.pyunparse_text.specs.declared.marks.Role.TheVariants as roles
use Rattle.pyunparse_text.specs.Folds.{Step, anywhere, in_utf8, puts, puts_element, puts_elements, sited_in_utf8}
use Rattle.pyunparse_text.specs.Told.{in_bytes, listed, listed_after}

-- the texts of operators are ASCII
sign_bytes : (x : Exact) → encode_utf8_all (exact_text x) ≡ exact_text x
unfolding encode_utf8
sign_bytes LPar = refl
sign_bytes _ = refl

-- an operator by the two sides of its role
pub sign_put : (r : Role) (x : Exact) (t : List ℕ) → t ≡ exact_text x
    → anywhere (record { kind = kinds.Op; text = t; before = is_close_before r; following = is_close_after r }) ≡ sited_in_utf8 (in_role r x)
sign_put roles.Free x t e = (λ i b. record { kind = kinds.Op; text = (e ∙ sym (sign_bytes x)) i; before = false; following = false })
sign_put roles.Leading x t e = (λ i b. record { kind = kinds.Op; text = (e ∙ sym (sign_bytes x)) i; before = false; following = true })
sign_put roles.Trailing x t e = (λ i b. record { kind = kinds.Op; text = (e ∙ sym (sign_bytes x)) i; before = true; following = false })
sign_put roles.Tight x t e = (λ i b. record { kind = kinds.Op; text = (e ∙ sym (sign_bytes x)) i; before = true; following = true })

-- tokens that are written into a list where no f-string is open
pub tokens_put : (ts : List PlainToken) (ps : List Sited) → puts listed_after (listed ts) ps ≡ listed (ts ++ map in_bytes (outside ps))
tokens_put ts [] = ap listed (sym (append-nil ts))
tokens_put ts (p ∷ ps) =
    tokens_put (ts ++ token_of (in_utf8 (p false)) ∷ []) ps
    ∙ ap listed (append_assoc ts (token_of (in_utf8 (p false)) ∷ []) (map in_bytes (outside ps)))

-- elements of f-strings one after another
pub elements_both : {S : Type 0} (after : S → Sited → S) (step : S → Step → S) (b : Bool) (s : S) (es fs : List (Element Sited)) →
    puts_elements after step b s (es ++ fs) ≡ puts_elements after step b (puts_elements after step b s es) fs
elements_both after step b s [] fs = refl
elements_both after step b s (e ∷ es) fs = elements_both after step b (puts_element after step b s e) es fs
