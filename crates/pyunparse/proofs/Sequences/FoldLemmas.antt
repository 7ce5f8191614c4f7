-- Carries: the walks. What is written one after another is written as one.
use Rattle.std.proofs.Common.{◌≡◌, Bool, true, false, if◌then◌else◌, List, [], ◌∷◌, ◌++◌, ◌∙◌, refl, ap, sym}
use Rattle.pygrammar.specs.declared.levels.Level.{Level}
use Rattle.pyunparse_text.specs.Levels.{reaches}
use Rattle.pyunparse_text.specs.Pieces.{Sited, piece}
use Rattle.pyunparse_text.specs.Written.{bracketed, enclosed, fit, leading, trailing}
use Rattle.pylex_lexeme.specs.declared.kinds.Exact.{Exact}
use Rattle.pylex_lexeme.specs.declared.kinds.Exact.TheVariants.{LPar, RPar}
use Rattle.pyunparse_text.specs.Folds.{puts, sited_in_utf8, opened, closed}

pub puts_append : {S : Type 0} (after : S → Sited → S) (s : S) (ps qs : List Sited)
    → puts after s (ps ++ qs) ≡ puts after (puts after s ps) qs
puts_append after s [] qs = refl
puts_append after s (p ∷ ps) qs = puts_append after (after s (sited_in_utf8 p)) ps qs

-- tokens without brackets, or in them
pub in_brackets : {S : Type 0} (after : S → Sited → S) (s : S) (b : Bool) (ts : List Sited) →
    puts after s (if b then ts else bracketed piece ts) ≡ puts after (puts after (puts after s (opened b)) ts) (closed b)
in_brackets after s true ts = refl
in_brackets after s false ts = puts_append after (after s (sited_in_utf8 (leading piece LPar))) ts (trailing piece RPar ∷ [])

-- a form in its brackets, if it needs them
pub fits : {S : Type 0} (after : S → Sited → S) (s : S) (l k : Level) (ts : List Sited) →
    puts after s (fit piece l k ts) ≡ puts after (puts after (puts after s (opened (reaches l k))) ts) (closed (reaches l k))
unfolding fit
fits after s l k ts = in_brackets after s (reaches l k) ts

-- lists after one another, by the states between
module _ {S : Type 0} (after : S → Sited → S) (s : S) where
  pub two : (a b : List Sited) (s1 : S) → s1 ≡ puts after s a → puts after s1 b ≡ puts after s (a ++ b)
  two a b s1 e1 = ap (λ z. puts after z b) e1 ∙ sym (puts_append after s a b)

  pub three : (a b c : List Sited) (s1 s2 : S) → s1 ≡ puts after s a → s2 ≡ puts after s1 b → puts after s2 c ≡ puts after s (a ++ (b ++ c))
  three a b c s1 s2 e1 e2 = ap (λ z. puts after z c) e2 ∙ sym (puts_append after s1 b c) ∙ two a (b ++ c) s1 e1

  pub four : (a b c d : List Sited) (s1 s2 s3 : S) → s1 ≡ puts after s a → s2 ≡ puts after s1 b → s3 ≡ puts after s2 c
      → puts after s3 d ≡ puts after s (a ++ (b ++ (c ++ d)))
  four a b c d s1 s2 s3 e1 e2 e3 = ap (λ z. puts after z d) e3 ∙ sym (puts_append after s2 c d) ∙ three a b (c ++ d) s1 s2 e1 e2

  pub five : (a b c d e : List Sited) (s1 s2 s3 s4 : S) → s1 ≡ puts after s a → s2 ≡ puts after s1 b → s3 ≡ puts after s2 c
      → s4 ≡ puts after s3 d → puts after s4 e ≡ puts after s (a ++ (b ++ (c ++ (d ++ e))))
  five a b c d e s1 s2 s3 s4 e1 e2 e3 e4 = ap (λ z. puts after z e) e4 ∙ sym (puts_append after s3 d e)
      ∙ four a b c (d ++ e) s1 s2 s3 e1 e2 e3

  pub six : (a b c d e f : List Sited) (s1 s2 s3 s4 s5 : S) → s1 ≡ puts after s a → s2 ≡ puts after s1 b → s3 ≡ puts after s2 c
      → s4 ≡ puts after s3 d → s5 ≡ puts after s4 e → puts after s5 f ≡ puts after s (a ++ (b ++ (c ++ (d ++ (e ++ f)))))
  six a b c d e f s1 s2 s3 s4 s5 e1 e2 e3 e4 e5 = ap (λ z. puts after z f) e5 ∙ sym (puts_append after s4 e f)
      ∙ five a b c d (e ++ f) s1 s2 s3 s4 e1 e2 e3 e4

  pub seven : (a b c d e f g : List Sited) (s1 s2 s3 s4 s5 s6 : S) → s1 ≡ puts after s a → s2 ≡ puts after s1 b → s3 ≡ puts after s2 c
      → s4 ≡ puts after s3 d → s5 ≡ puts after s4 e → s6 ≡ puts after s5 f
      → puts after s6 g ≡ puts after s (a ++ (b ++ (c ++ (d ++ (e ++ (f ++ g))))))
  seven a b c d e f g s1 s2 s3 s4 s5 s6 e1 e2 e3 e4 e5 e6 = ap (λ z. puts after z g) e6 ∙ sym (puts_append after s5 f g)
      ∙ six a b c d e (f ++ g) s1 s2 s3 s4 s5 e1 e2 e3 e4 e5

  pub eight : (a b c d e f g h : List Sited) (s1 s2 s3 s4 s5 s6 s7 : S) → s1 ≡ puts after s a → s2 ≡ puts after s1 b → s3 ≡ puts after s2 c
      → s4 ≡ puts after s3 d → s5 ≡ puts after s4 e → s6 ≡ puts after s5 f → s7 ≡ puts after s6 g
      → puts after s7 h ≡ puts after s (a ++ (b ++ (c ++ (d ++ (e ++ (f ++ (g ++ h)))))))
  eight a b c d e f g h s1 s2 s3 s4 s5 s6 s7 e1 e2 e3 e4 e5 e6 e7 = ap (λ z. puts after z h) e7 ∙ sym (puts_append after s6 g h)
      ∙ seven a b c d e f (g ++ h) s1 s2 s3 s4 s5 s6 e1 e2 e3 e4 e5 e6

  -- in brackets
  pub enclosed_on : (o : Sited) (x : Exact) (ts : List Sited) (s1 s2 : S) → s1 ≡ puts after s (o ∷ []) → s2 ≡ puts after s1 ts →
      puts after s2 (trailing piece x ∷ []) ≡ puts after s (enclosed piece o x ts)
  enclosed_on o x ts s1 s2 e1 e2 = three (o ∷ []) ts (trailing piece x ∷ []) s1 s2 e1 e2
