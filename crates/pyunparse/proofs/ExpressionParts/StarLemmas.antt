-- Carries: write_star, write_gathered. The `*` before keyword-only parameters, and the parameters
-- that take all other arguments.
use Rattle.std.proofs.Common.{◌≡◌, ◌∙◌, Bool, true, false, ◌||◌, ◌==◌, if◌then◌else◌, Option, None, Some, List, [], ◌∷◌, map, length, refl}
use Rattle.std.proofs.Common.{ap, sym}
use Rattle.std.specs.Prelude.{is_some}
use Rattle.std.proofs.lemmas.Bool.{false≢true}
use Rattle.pylex_lexeme.specs.declared.kinds.Exact.{Exact}
use Rattle.pylex_lexeme.specs.declared.kinds.Exact.TheVariants.{Comma, Star}
use Rattle.pytree_node.specs.declared.expressions.Arg as given_arg
use Rattle.pytree_node.specs.Trees.{Arg, arg, args, present_arg, optional_arg}
use Rattle.pytree_node.specs.TreeOf.{arg_of, arg_option_of}
use Rattle.pyunparse_text.specs.Pieces.{Sited, piece}
use Rattle.pyunparse_text.specs.Written.{gathered, leading, trailing, with_star, written}
use Rattle.pyunparse_text.specs.Folds.{puts}
use Rattle.pyunparse.specs.Inner.Members.{members}
use Rattle.pyunparse.specs.Inner.Parameters.{named}
use Rattle.pyunparse_text.proofs.Callers.Writing.{not_zero}
use Rattle.pyunparse.proofs.Sequences.FoldLemmas.{two}
use Rattle.pyunparse.proofs.Sequences.MemberLemmas.{members_on}
use Rattle.pyunparse.proofs.ExpressionParts.ParameterLemmas.{N, one_more}

abbrev comma : Sited
comma = trailing piece Comma

-- one that takes all other arguments
gathered_one : (x : Exact) (a : Arg) → gathered piece x (present_arg a) ≡ (leading piece x ∷ named a) ∷ []
unfolding written
gathered_one x (arg n t) = refl

pub gathered_on : {S : Type 0} (after : S → Sited → S) (s : S) (f : Bool) (x : Exact) (a : Arg) (s1 s2 : S) →
    s1 ≡ puts after s (if f then [] else comma ∷ []) → s2 ≡ puts after s1 (leading piece x ∷ []) →
    puts after s2 (named a) ≡ puts after s (members f comma (gathered piece x (present_arg a)))
gathered_on after s f x a s1 s2 e1 e2 =
    two after s1 (leading piece x ∷ []) (named a) s2 e2
    ∙ ap (λ z. puts after z (leading piece x ∷ named a)) e1
    ∙ sym (members_on after s f comma (leading piece x ∷ named a) [])
    ∙ ap (λ z. puts after s (members f comma z)) (sym (gathered_one x a))

-- the `*` NAME, where there is one
abbrev starred : Option given_arg.Arg → List (List Sited)
starred v = gathered piece Star (optional_arg (arg_option_of v))

-- with it, or with no keyword-only parameter, there is no other `*`
pub star_given : (v : Option given_arg.Arg) (ks : List given_arg.Arg) (b d : Bool) → b ≡ is_some v → d ≡ (length ks == 0) → (b || d) ≡ true
    → starred v ≡ with_star piece (starred v) (N ks)
unfolding written
star_given None [] b d hb hd h = refl
star_given None (k ∷ ks) b d hb hd h = absurd (false≢true (sym (λ i. hb i || (hd ∙ not_zero (length ks)) i) ∙ h))
star_given (Some a) ks b d hb hd h = gathered_one Star (arg_of a) ∙ sym (ap (λ z. with_star piece z (N ks)) (gathered_one Star (arg_of a)))

star_added : (v : Option given_arg.Arg) (ks : List given_arg.Arg) (b d : Bool) → b ≡ is_some v → d ≡ (length ks == 0) → (b || d) ≡ false
    → (leading piece Star ∷ []) ∷ [] ≡ with_star piece (starred v) (N ks)
unfolding written
star_added None [] b d hb hd h = absurd (false≢true (sym h ∙ (λ i. hb i || hd i)))
star_added None (k ∷ ks) b d hb hd h = sym (ap (with_star piece []) (one_more (arg_of k) (args (map arg_of ks))))
star_added (Some a) ks b d hb hd h = absurd (false≢true (sym h ∙ ap (λ z. z || d) hb))

pub star_on : {S : Type 0} (after : S → Sited → S) (s : S) (f : Bool) (v : Option given_arg.Arg)
    (ks : List given_arg.Arg) (b d : Bool) (s1 : S) →
    b ≡ is_some v → d ≡ (length ks == 0) → (b || d) ≡ false → s1 ≡ puts after s (if f then [] else comma ∷ []) →
    puts after s1 (leading piece Star ∷ []) ≡ puts after s (members f comma (with_star piece (starred v) (N ks)))
star_on after s f v ks b d s1 hb hd h e1 =
    ap (λ z. puts after z (leading piece Star ∷ [])) e1
    ∙ sym (members_on after s f comma (leading piece Star ∷ []) [])
    ∙ ap (λ z. puts after s (members f comma z)) (star_added v ks b d hb hd h)
