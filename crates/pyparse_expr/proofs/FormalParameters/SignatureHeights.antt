-- The height of parameters that are arranged is that of the highest of them.
--
-- Carries: lambda_step. On: Parameters, Heights.
use Rattle.std.proofs.Common.{◌≡◌, sym, ap, ◌∙◌, arith, ℕ, max, List, [], ◌∷◌, ◌++◌, Option, Some, None, Bool, true, false, cond}
use Rattle.std.proofs.Common.{option_map}
use Rattle.pytree_node.specs.Trees.{OptionalExpr, absent, present, Arg, Arguments, arguments}
use Rattle.pytree_height.specs.Heights.{height, heights, optional_height, optional_heights, arg_height, arg_heights, optional_arg_height}
use Rattle.pytree_height.specs.Heights.{arguments_height}
use Rattle.pygrammar.specs.Entries.{Entry, Plain, Slashed, Bare, Gathered, Collected}
use Rattle.pygrammar.specs.Parameters.{with_kwarg, no_arguments, add_keyword_only, set_vararg, add_plain, add_before_slash}
use Rattle.pygrammar.specs.Parameters.{after_star, at_star, plain_ones, before_slash, has_slash, arranged}
use Rattle.pygrammar.proofs.Callers.Entries.{swap, keyword_only_height, plain_height, slash_height, kwarg_height}
use Rattle.pyparse_expr.specs.Inner.FormalHeights.{entry_height, entry_heights}

regroup : (x m r : ℕ) → max (max m x) r ≡ max m (max x r)
regroup x m r = omega arith

pair : (a d r : ℕ) → max a (max d r) ≡ max (max a d) r
pair a d r = omega arith

abbrev pub IsHigh : (Arguments → ℕ) → ℕ → Option Arguments → Type 0
IsHigh m h None = Unit {0}
IsHigh m h (Some a) = m a ≡ h

high_mapped : (m : Arguments → ℕ) (f : Arguments → Arguments) (k h : ℕ) (x : Option Arguments) → ((a : Arguments) → m (f a) ≡ max k (m a))
    → IsHigh m h x → IsHigh m (max k h) (option_map f x)
high_mapped m f k h None s q = tt
high_mapped m f k h (Some a) s q = s a ∙ ap (λ z. max k z) q

-- without that of the starred one
abbrev beside : Arguments → ℕ
beside (arguments ps qs v ks kds k ds) =
    max (arg_heights ps)
    (max (arg_heights qs) (max (arg_heights ks) (max (optional_heights kds) (max (optional_arg_height k) (heights ds)))))

-- the keyword-only ones
keyword_inner : (a d k e t : ℕ) → max (max a k) (max (max d e) t) ≡ max (max a d) (max k (max e t))
keyword_inner a d k e t = ap (λ z. max (max a k) z) (regroup e d t) ∙ regroup k a (max d (max e t)) ∙ ap (λ z. max a z) (swap k d (max e t))
    ∙ pair a d (max k (max e t))

keyword_beside : (a : Arg) (d : OptionalExpr) (r : Arguments)
    → beside (add_keyword_only a d r) ≡ max (max (arg_height a) (optional_height d)) (beside r)
keyword_beside a d (arguments ps qs v ks kds k ds) =
    let t = max (optional_arg_height k) (heights ds) in
    let n = max (arg_height a) (optional_height d) in
    let u = max (arg_heights ks) (max (optional_heights kds) t) in
    let e = keyword_inner (arg_height a) (optional_height d) (arg_heights ks) (optional_heights kds) t in
    ap (λ z. max (arg_heights ps) (max (arg_heights qs) z)) e
    ∙ ap (λ z. max (arg_heights ps) z) (swap (arg_heights qs) n u)
    ∙ swap (arg_heights ps) n (max (arg_heights qs) u)

set_high : (a : Arg) (r : Arguments) → arguments_height (set_vararg a r) ≡ max (arg_height a) (beside r)
set_high a (arguments ps qs v ks kds k ds) =
    let u = max (arg_heights ks) (max (optional_heights kds) (max (optional_arg_height k) (heights ds))) in
    ap (λ z. max (arg_heights ps) z) (swap (arg_heights qs) (arg_height a) u)
    ∙ swap (arg_heights ps) (arg_height a) (max (arg_heights qs) u)

-- after a star, by either measure
after_high : (m : Arguments → ℕ)
    → ((a : Arg) (d : OptionalExpr) (r : Arguments) → m (add_keyword_only a d r) ≡ max (max (arg_height a) (optional_height d)) (m r))
    → m no_arguments ≡ 0 → ((a : Arg) → m (with_kwarg a) ≡ max (arg_height a) 0) → (es : List Entry)
    → IsHigh m (entry_heights es) (after_star es)
after_high m s n k [] = n
after_high m s n k (Plain a d ∷ es) = high_mapped m (add_keyword_only a d) (max (arg_height a) (optional_height d)) (entry_heights es)
    (after_star es) (s a d) (after_high m s n k es)
after_high m s n k (Collected a ∷ []) = k a
after_high m s n k (Collected a ∷ (e ∷ es)) = tt
after_high m s n k (_ ∷ es) = tt

none_high : arguments_height no_arguments ≡ 0
none_high = omega arith

none_beside : beside no_arguments ≡ 0
none_beside = omega arith

kwarg_beside : (a : Arg) → beside (with_kwarg a) ≡ max (arg_height a) 0
kwarg_beside a = omega arith

star_high : (es : List Entry) → IsHigh arguments_height (entry_heights es) (after_star es)
star_high es = after_high arguments_height keyword_only_height none_high kwarg_height es

gathered_high : (a : Arg) (h : ℕ) (x : Option Arguments) → IsHigh beside h x
    → IsHigh arguments_height (max (arg_height a) h) (option_map (set_vararg a) x)
gathered_high a h None q = tt
gathered_high a h (Some r) q = set_high a r ∙ ap (λ z. max (arg_height a) z) q

under_zero : (h : ℕ) (x : Option Arguments) → IsHigh arguments_height h x → IsHigh arguments_height (max 0 h) x
under_zero h None q = tt
under_zero h (Some r) q = q ∙ omega arith

at_star_high : (es : List Entry) → IsHigh arguments_height (entry_heights es) (at_star es)
at_star_high [] = none_high
at_star_high (Gathered a ∷ es) = gathered_high a (entry_heights es) (after_star es)
    (after_high beside keyword_beside none_beside kwarg_beside es)
at_star_high (Bare ∷ []) = tt
at_star_high (Bare ∷ (Plain a d ∷ es)) = under_zero (entry_heights (Plain a d ∷ es)) (after_star (Plain a d ∷ es))
    (star_high (Plain a d ∷ es))
at_star_high (Bare ∷ (_ ∷ es)) = tt
at_star_high (Collected a ∷ []) = kwarg_height a
at_star_high (Collected a ∷ (e ∷ es)) = tt
at_star_high (_ ∷ es) = tt

plain_ones_high : (b : Bool) (es : List Entry) → IsHigh arguments_height (entry_heights es) (plain_ones b es)
plain_ones_high true [] = none_high
plain_ones_high false [] = none_high
plain_ones_high true (Plain a absent ∷ es) = tt
plain_ones_high false (Plain a absent ∷ es) = high_mapped arguments_height (add_plain a absent) (max (arg_height a) 0) (entry_heights es)
    (plain_ones false es) (plain_height a absent) (plain_ones_high false es)
plain_ones_high true (Plain a (present e) ∷ es) = high_mapped arguments_height (add_plain a (present e)) (max (arg_height a) (height e))
    (entry_heights es) (plain_ones true es) (plain_height a (present e)) (plain_ones_high true es)
plain_ones_high false (Plain a (present e) ∷ es) = high_mapped arguments_height (add_plain a (present e)) (max (arg_height a) (height e))
    (entry_heights es) (plain_ones true es) (plain_height a (present e)) (plain_ones_high true es)
plain_ones_high true (e ∷ es) = at_star_high (e ∷ es)
plain_ones_high false (e ∷ es) = at_star_high (e ∷ es)

before_slash_high : (b : Bool) (es : List Entry) → IsHigh arguments_height (entry_heights es) (before_slash b es)
before_slash_high true [] = tt
before_slash_high false [] = tt
before_slash_high true (Plain a absent ∷ es) = tt
before_slash_high false (Plain a absent ∷ []) = tt
before_slash_high false (Plain a absent ∷ (Slashed ∷ es)) = high_mapped arguments_height (add_before_slash a absent) (max (arg_height a) 0)
    (max 0 (entry_heights es)) (plain_ones false es) (slash_height a absent) (under_zero (entry_heights es) (plain_ones false es)
    (plain_ones_high false es))
before_slash_high false (Plain a absent ∷ (e ∷ es)) = high_mapped arguments_height (add_before_slash a absent) (max (arg_height a) 0)
    (entry_heights (e ∷ es)) (before_slash false (e ∷ es)) (slash_height a absent) (before_slash_high false (e ∷ es))
before_slash_high true (Plain a (present d) ∷ []) = tt
before_slash_high false (Plain a (present d) ∷ []) = tt
before_slash_high true (Plain a (present d) ∷ (Slashed ∷ es)) = high_mapped arguments_height (add_before_slash a (present d))
    (max (arg_height a) (height d)) (max 0 (entry_heights es)) (plain_ones true es) (slash_height a (present d))
    (under_zero (entry_heights es) (plain_ones true es) (plain_ones_high true es))
before_slash_high false (Plain a (present d) ∷ (Slashed ∷ es)) = high_mapped arguments_height (add_before_slash a (present d))
    (max (arg_height a) (height d)) (max 0 (entry_heights es)) (plain_ones true es) (slash_height a (present d))
    (under_zero (entry_heights es) (plain_ones true es) (plain_ones_high true es))
before_slash_high true (Plain a (present d) ∷ (e ∷ es)) = high_mapped arguments_height (add_before_slash a (present d))
    (max (arg_height a) (height d)) (entry_heights (e ∷ es)) (before_slash true (e ∷ es)) (slash_height a (present d))
    (before_slash_high true (e ∷ es))
before_slash_high false (Plain a (present d) ∷ (e ∷ es)) = high_mapped arguments_height (add_before_slash a (present d))
    (max (arg_height a) (height d)) (entry_heights (e ∷ es)) (before_slash true (e ∷ es)) (slash_height a (present d))
    (before_slash_high true (e ∷ es))
before_slash_high true (_ ∷ es) = tt
before_slash_high false (_ ∷ es) = tt

arranged_high : (es : List Entry) → IsHigh arguments_height (entry_heights es) (arranged es)
arranged_high es = go (has_slash es)
  where
    go : (c : Bool) → IsHigh arguments_height (entry_heights es) (cond c (before_slash false es) (plain_ones false es))
    go true = before_slash_high false es
    go false = plain_ones_high false es

pub arranged_height : (es : List Entry) (a : Arguments) → arranged es ≡ Some a → entry_heights es ≡ arguments_height a
arranged_height es a q = sym (go (arranged es) q (arranged_high es))
  where
    go : (x : Option Arguments) → x ≡ Some a → IsHigh arguments_height (entry_heights es) x → arguments_height a ≡ entry_heights es
    go None q h = absurd (cc)
    go (Some b) q h = let e : b ≡ a = cc in sym (ap arguments_height e) ∙ h

-- one more
pub entry_heights_more : (es : List Entry) (e : Entry) → entry_heights (es ++ (e ∷ [])) ≡ max (entry_heights es) (entry_height e)
entry_heights_more [] e = omega arith
entry_heights_more (x ∷ es) e = ap (λ z. max (entry_height x) z) (entry_heights_more es e)
    ∙ pair (entry_height x) (entry_heights es) (entry_height e)
