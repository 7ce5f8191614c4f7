-- Parameters.
--
-- Carries: SuffixClaim, no_suffix_claim, suffix_claim, parameter_claim and 6 more, for Induction.
-- On: Entries, Claims, Reach, Arranged.
use Rattle.std.proofs.Common.{◌≡◌, refl, ap, subst, List, [], ◌∷◌, ◌++◌, Option, Some, None, Bool, true, false, cond}
use Rattle.std.specs.Prelude.{map}
use Rattle.pylex_lexeme.specs.declared.kinds.Exact.{Exact}
use Rattle.pylex_lexeme.specs.declared.kinds.Exact.TheVariants.{Colon, Comma, Star, Slash, Equal, DoubleStar}
use Rattle.pytoken.specs.declared.keywords.Keyword.TheVariants as Key
use Rattle.pytree_node.specs.declared.operators.Context.TheVariants.{Load}
use Rattle.pygrammar.specs.declared.levels.Level.TheVariants.{Expression, BitOr}
use Rattle.pytree_node.specs.Trees
use Rattle.pytree_node.specs.Trees.{Expr, OptionalExpr, absent, present, arg, Arguments}
use Rattle.pytoken.specs.Terminals.{Terminal, Op, Word, Ident, Spelled}
use Rattle.pygrammar.specs.Entries.{Parameter, Entry, Plain, Slashed, Bare, Gathered, Collected}
use Rattle.pygrammar.specs.Parameters.{arranged}
use Rattle.pygrammar.specs.Grammar as G
use Rattle.pyunparse_text.specs.Written.{separated, fit, written, suffixed}
use Rattle.pyunparse_text.specs.Terminals.{terminal}
use Rattle.pyunparse_text.proofs.Fewest.Counted.{one, AtLeast, none, token, both}
use Rattle.pyunparse_text.proofs.Fewest.Reach.{deep_expression}
use Rattle.pyunparse_text.proofs.Fewest.Arranged.{parameters_are}
use Rattle.pyunparse_text.proofs.Fewest.Claims.{Claim, here, node}
use Rattle.pyunparse_text.proofs.Fewest.Entries.{entry, entry_marks, PieceClaim, ListingClaim, listing_of}

abbrev pub Signed : Option Exact → Exact → Type 0
Signed None x = Unit {0}
Signed (Some y) x = y ≡ x

colon_signed : (b : Bool) → Signed (cond b (Some Colon) None) Colon
colon_signed true = refl
colon_signed false = tt

pub record SuffixClaim (s : Option Exact) (ts : List Terminal) (e : OptionalExpr) : Type 0 where
  pub is : (x : Exact) → Signed s x → G.Suffix s (suffixed terminal (Op x) e) e
  pub short : AtLeast (suffixed one tt e) ts

pub no_suffix_claim : (s : Option Exact) → SuffixClaim s [] absent
unfolding suffixed
no_suffix_claim s = record { is = λ x h. G.no_suffix; short = none }

pub suffix_claim : {x : Exact} {ts : List Terminal} {e : Expr} → Claim Expression ts e → SuffixClaim (Some x) (Op x ∷ ts) (present e)
unfolding suffixed
suffix_claim {x} {ts} {e} p = record {
  is = λ y h. subst (λ z. G.Suffix (Some x) (Op z ∷ written terminal Expression e) (present e)) h (G.suffix (here p));
  short = token refl p.short;
}

pub parameter_claim : {b : Bool} {x : Spelled} {ts us : List Terminal} {a d : OptionalExpr} → SuffixClaim (cond b (Some Colon) None) ts a
    → SuffixClaim (Some Equal) us d → PieceClaim (Parameter b) (Ident x ∷ (ts ++ us)) (Plain (arg x.form a) d)
parameter_claim {b} {x} {ts} {us} {a} {d} p q =
    record { standing = G.parameter (p.is Colon (colon_signed b)) (q.is Equal refl); short = token refl (both p.short q.short) }

pub slash_claim : (b : Bool) → PieceClaim (Parameter b) (Op Slash ∷ []) Slashed
slash_claim b = record { standing = G.slash; short = token refl none }

pub bare_star_claim : (b : Bool) → PieceClaim (Parameter b) (Op Star ∷ []) Bare
bare_star_claim b = record { standing = G.bare_star; short = token refl none }

pub star_parameter_claim : {b : Bool} {x : Spelled} {ts : List Terminal} {a : OptionalExpr} → SuffixClaim (cond b (Some Colon) None) ts a
    → PieceClaim (Parameter b) (Op Star ∷ (Ident x ∷ ts)) (Gathered (arg x.form a))
star_parameter_claim {b} p = record { standing = G.star_parameter (p.is Colon (colon_signed b)); short = token refl (token refl p.short) }

pub star_annotation_claim : {x : Spelled} {ts : List Terminal} {e : Expr} → Claim BitOr ts e
    → PieceClaim (Parameter true) (Op Star ∷ (Ident x ∷ (Op Colon ∷ (Op Star ∷ ts))))
    (Gathered (arg x.form (present (Trees.Starred e Load))))
unfolding suffixed written
star_annotation_claim p = record {
  standing = G.star_annotation (here p);
  short =
      token refl (token refl (token refl (token refl p.short)));
}

pub double_parameter_claim : {b : Bool} {x : Spelled} {ts : List Terminal} {a : OptionalExpr} → SuffixClaim (cond b (Some Colon) None) ts a
    → PieceClaim (Parameter b) (Op DoubleStar ∷ (Ident x ∷ ts)) (Collected (arg x.form a))
double_parameter_claim {b} p = record {
  standing = G.double_parameter (p.is Colon (colon_signed b));
  short =
      token refl (token refl p.short);
}

pub lambda_claim : {ts us : List Terminal} {ps : List Entry} {a : Arguments} {e : Expr}
    → ListingClaim (Parameter false) ts ps → arranged ps ≡ Some a
    → Claim Expression us e → Claim Expression (Word Key.Lambda ∷ (ts ++ (Op Colon ∷ us))) (Trees.Lambda a e)
unfolding written
lambda_claim {ts} {us} {ps} {a} {e} c h p =
    let q = parameters_are terminal ps a h in
    let r = parameters_are one ps a h in
    node Expression (Trees.Lambda a e)
    (Word Key.Lambda ∷ (separated (Op Comma) (map (entry (Parameter false)) ps) ++ (Op Colon ∷ written terminal Expression e))) _
    (tt ∷ (separated tt (map (entry_marks (Parameter false)) ps) ++ (tt ∷ written one Expression e)))
    (λ m. ap (λ z. fit terminal m Expression (Word Key.Lambda ∷ (separated (Op Comma) z ++ (Op Colon ∷ written terminal Expression e)))) q)
    (ap (λ z. fit one Expression Expression (tt ∷ (separated tt z ++ (tt ∷ written one Expression e)))) r) refl tt
    (G.lambda (listing_of c.standing) h (here p)) deep_expression.named (token refl (both c.short (token refl p.short)))
