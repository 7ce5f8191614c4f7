-- Carries: the parameters of functions. Those of which the last ones have the defaults
-- are written as two lists.
use Rattle.std.proofs.Common.{◌≡◌, ◌∙◌, ℕ, zero, suc, ◌+◌, ◌-◌, ◌<◌, ◌≤◌, ◌==◌, nat_lt, nat_eq, Bool, true, false, not, ◌&&◌, Option, None}
use Rattle.std.proofs.Common.{Some, if◌then◌else◌, List, [], ◌∷◌, ◌++◌, map, length, drop, get_or, length-append, replicate, refl, ap, sym}
use Rattle.std.proofs.Common.{arith, append-nil}
use Rattle.std.specs.Prelude.{is_some}
use Rattle.std.proofs.lemmas.Bool.{false≢true}
use Rattle.std.proofs.lemmas.Bool.Decides.{nat_tests}
use Rattle.std.proofs.lemmas.List.{drop_all}
use Rattle.std.specs.List.{drop-map}
use Rattle.pylex_lexeme.specs.declared.kinds.Exact.TheVariants.{Comma, DoubleStar, Slash, Star}
use Rattle.pytree_node.specs.declared.expressions.Expr as given
use Rattle.pytree_node.specs.declared.expressions.Arg as given_arg
use Rattle.pytree_node.specs.Trees.{Arg, arg, Args, an_arg, args, exprs, OptionalArg, absent_arg, present_arg, optional_arg, OptionalExprs}
use Rattle.pytree_node.specs.Trees.{arguments}
use Rattle.pytree_node.specs.TreeOf.{arg_of, arg_option_of, tree_of}
use Rattle.pygrammar.specs.declared.levels.Level.TheVariants.{Expression}
use Rattle.pytoken.specs.Terminals.{Op}
use Rattle.pytoken.proofs.Callers.Bodies.{dropped}
use Rattle.pyunparse_text.specs.Pieces.{Sited, piece}
use Rattle.pyunparse_text.specs.Written.{after_equal, beside, defaults, each, free, gathered, listed, names, parameters, trailing}
use Rattle.pyunparse_text.specs.Written.{with_defaults, with_slash, with_star, written}
use Rattle.pyunparse_text.specs.Folds.{puts}
use Rattle.pyunparse.specs.Inner.Members.{members, padded}
use Rattle.pyunparse.specs.Inner.Parameters.{by_places, default_at, head_default, named, positional, slash_following}
use Rattle.pyunparse_text.proofs.Callers.Writing.{not_zero}
use Rattle.pyunparse.proofs.Sequences.FoldLemmas.{four, three, two}
use Rattle.pyunparse.proofs.Sequences.MemberLemmas.{is_nil, members_both, members_none, members_on}

beside_padded : {A : Type 0} (tss : List (List A)) (n : ℕ) (uss : List (List A)) → length tss ≤ n + length uss
    → beside tss (replicate n [] ++ uss) ≡ padded tss n uss
beside_padded [] n uss h = refl
beside_padded (ts ∷ tss) (suc n) uss h =
    let k : length tss ≤ n + length uss = omega (arith, h) in
    ap (λ z. z ∷ beside tss (replicate n [] ++ uss)) (append-nil ts) ∙ ap (λ z. ts ∷ z) (beside_padded tss n uss k)
beside_padded (ts ∷ tss) zero [] h = absurd (omega (arith, h))
beside_padded (ts ∷ tss) zero (us ∷ uss) h =
    let k : length tss ≤ zero + length uss = omega (arith, h) in
    ap (λ z. (ts ++ us) ∷ z) (beside_padded tss zero uss k)

-- the last ones have the defaults
pub defaults_padded : {A : Type 0} (tss uss : List (List A)) → with_defaults tss uss ≡ padded tss (length tss - length uss) uss
defaults_padded tss uss = beside_padded tss (length tss - length uss) uss (omega arith)

padded_length : {A : Type 0} (tss : List (List A)) (n : ℕ) (uss : List (List A)) → length (padded tss n uss) ≡ length tss
padded_length [] n uss = refl
padded_length (ts ∷ tss) (suc n) uss = ap suc (padded_length tss n uss)
padded_length (ts ∷ tss) zero [] = ap suc (padded_length tss zero [])
padded_length (ts ∷ tss) zero (us ∷ uss) = ap suc (padded_length tss zero uss)

drop_none : {A : Type 0} (n : ℕ) → drop {A = A} n [] ≡ []
drop_none zero = refl
drop_none (suc n) = refl

-- of two lists
pub padded_both : {A : Type 0} (xss yss : List (List A)) (n : ℕ) (uss : List (List A)) →
    padded (xss ++ yss) n uss ≡ padded xss n uss ++ padded yss (n - length xss) (drop (length xss - n) uss)
padded_both [] yss n uss =
    let a : n ≡ n - 0 = omega arith in
    let b : 0 ≡ 0 - n = omega arith in
    (λ i. padded yss (a i) (drop (b i) uss))
padded_both (ts ∷ xss) yss (suc n) uss =
    let a : n - length xss ≡ suc n - suc (length xss) = omega arith in
    let b : length xss - n ≡ suc (length xss) - suc n = omega arith in
    ap (λ z. ts ∷ z) (padded_both xss yss n uss ∙ (λ i. padded xss n uss ++ padded yss (a i) (drop (b i) uss)))
padded_both (ts ∷ xss) yss zero [] =
    let a : zero - length xss ≡ zero - suc (length xss) = omega arith in
    ap (λ z. ts ∷ z) (padded_both xss yss zero []
    ∙ (λ i. padded xss zero [] ++ padded yss (a i) ((drop_none (length xss - zero) ∙ sym (drop_none (suc (length xss) - zero))) i)))
padded_both (ts ∷ xss) yss zero (us ∷ uss) =
    let a : zero - length xss ≡ zero - suc (length xss) = omega arith in
    let b : suc (length xss - zero) ≡ suc (length xss) - zero = omega arith in
    ap (λ z. (ts ++ us) ∷ z) (padded_both xss yss zero uss ∙ (λ i. padded xss zero uss ++ padded yss (a i) (drop (b i) (us ∷ uss))))

-- nothing is made of nothing alone
pub nil_append : {A : Type 0} (xs ys : List A) → is_nil (xs ++ ys) ≡ (is_nil xs && is_nil ys)
nil_append [] ys = refl
nil_append (x ∷ xs) ys = refl

padded_nil : {A : Type 0} (tss : List (List A)) (n : ℕ) (uss : List (List A)) → is_nil (padded tss n uss) ≡ is_nil tss
padded_nil [] n uss = refl
padded_nil (ts ∷ tss) (suc n) uss = refl
padded_nil (ts ∷ tss) zero [] = refl
padded_nil (ts ∷ tss) zero (us ∷ uss) = refl

-- the `/` that follows positional ones, if there are any
abbrev pub slash : {A : Type 0} → List A → List (List Sited)
slash [] = []
slash (x ∷ xs) = (free piece (Op Slash) ∷ []) ∷ []

pub slash_between : (uss : List (List Sited)) (xss yss : List (List Sited)) → length uss ≡ length xss
    → with_slash piece uss (xss ++ yss) ≡ xss ++ (slash uss ++ yss)
slash_between [] [] yss h = refl
slash_between [] (ts ∷ xss) yss h = absurd (omega (arith, h))
slash_between (us ∷ uss) [] yss h = absurd (omega (arith, h))
slash_between (us ∷ []) (ts ∷ []) yss h = refl
slash_between (us ∷ []) (ts ∷ (vs ∷ xss)) yss h = absurd (omega (arith, h))
slash_between (us ∷ (vs ∷ uss)) (ts ∷ xss) yss h = ap (λ z. ts ∷ z) (slash_between (vs ∷ uss) xss yss (omega (arith, h)))

-- the parameters and the defaults of the program
abbrev pub N : List given_arg.Arg → List (List Sited)
N ps = names piece (args (map arg_of ps))

abbrev pub D : List given.Expr → List (List Sited)
D ds = map (after_equal piece) (each piece Expression (exprs (map tree_of ds)))

pub one_more : (a : Arg) (rest : Args) → names piece (an_arg a rest) ≡ named a ∷ names piece rest
unfolding written
one_more (arg x t) rest = refl

name_count : (ps : List given_arg.Arg) → length (N ps) ≡ length ps
unfolding written
name_count [] = refl
name_count (p ∷ ps) = ap length (one_more (arg_of p) (args (map arg_of ps))) ∙ ap suc (name_count ps)

pub no_names : (ps : List given_arg.Arg) → is_nil (N ps) ≡ is_nil ps
unfolding written
no_names [] = refl
no_names (p ∷ ps) = ap is_nil (one_more (arg_of p) (args (map arg_of ps)))

default_count : (ds : List given.Expr) → length (D ds) ≡ length ds
unfolding written
default_count [] = refl
default_count (d ∷ ds) = ap suc (default_count ds)

defaults_left : (n : ℕ) (ds : List given.Expr) → drop n (D ds) ≡ D (drop n ds)
unfolding written
defaults_left zero ds = refl
defaults_left (suc n) [] = refl
defaults_left (suc n) (d ∷ ds) = defaults_left n ds

drop_next : {A : Type 0} (n : ℕ) (xs : List A) → drop (suc n) xs ≡ drop 1 (drop n xs)
drop_next zero xs = refl
drop_next (suc n) [] = refl
drop_next (suc n) (x ∷ xs) = drop_next n xs

abbrev comma : Sited
comma = trailing piece Comma

-- ---- One parameter more, with its default.

step_bare : (a : Arg) (rest : Args) (m : ℕ) (uss : List (List Sited)) → padded (names piece (an_arg a rest)) (suc m) uss ≡ (named a ++ []) ∷
    padded (names piece rest) m uss
step_bare a rest m uss = ap (λ z. padded z (suc m) uss) (one_more a rest)
    ∙ ap (λ z. z ∷ padded (names piece rest) m uss) (sym (append-nil (named a)))

step_given : (a : Arg) (rest : Args) (ds : List given.Expr) → padded (names piece (an_arg a rest)) zero (D ds) ≡
    (named a ++ head_default (map tree_of ds)) ∷ padded (names piece rest) zero (D (drop 1 ds))
unfolding written
step_given a rest [] = ap (λ z. padded z zero []) (one_more a rest) ∙ ap (λ z. z ∷ padded (names piece rest) zero [])
    (sym (append-nil (named a)))
step_given a rest (d ∷ ds) = ap (λ z. padded z zero (D (d ∷ ds))) (one_more a rest)

step : (a : Arg) (rest : Args) (bare i : ℕ) (ds : List given.Expr) →
    padded (names piece (an_arg a rest)) (bare - i) (D (drop (i - bare) ds)) ≡ (named a ++ default_at bare i (map tree_of ds)) ∷ padded
    (names piece rest) (bare - (i + 1)) (D (drop (i + 1 - bare) ds))
step a rest bare i ds = by (nat_lt i bare) refl
  where
    by : (b : Bool) → nat_lt i bare ≡ b →
        padded (names piece (an_arg a rest)) (bare - i) (D (drop (i - bare) ds))
        ≡ (named a ++ (if b then [] else head_default (drop (i - bare) (map tree_of ds)))) ∷ padded (names piece rest) (bare - (i + 1))
        (D (drop (i + 1 - bare) ds))
    by true e =
        let lt : i < bare = grind (arith, nat_tests) in
        let one : bare - i ≡ suc (bare - (i + 1)) = omega (arith, lt) in
        let same : i - bare ≡ i + 1 - bare = omega (arith, lt) in
        (λ k. padded (names piece (an_arg a rest)) (one k) (D (drop (same k) ds)))
        ∙ step_bare a rest (bare - (i + 1)) (D (drop (i + 1 - bare) ds))
    by false e =
        let le : bare ≤ i = grind (arith, nat_tests) in
        let none : bare - i ≡ zero = omega (arith, le) in
        let next : zero ≡ bare - (i + 1) = omega (arith, le) in
        let after : suc (i - bare) ≡ i + 1 - bare = omega (arith, le) in
        (λ k. padded (names piece (an_arg a rest)) (none k) (D (drop (i - bare) ds)))
        ∙ step_given a rest (drop (i - bare) ds)
        ∙ (λ k. (named a ++ head_default (sym (drop-map tree_of (i - bare) ds) k)) ∷ padded (names piece rest) (next k)
        (D ((sym (drop_next (i - bare) ds) ∙ ap (λ n. drop n ds) after) k)))

module _ {S : Type 0} (after : S → Sited → S) (base o : S) where
  pub plain_on : (f : Bool) (ps : List given_arg.Arg) (bare i : ℕ) (ds : List given.Expr) (p : given_arg.Arg) (o1 o2 o3 : S)
      → i < length ps → p ≡ get_or ps i p →
      puts after o (members f comma (padded (N (drop i ps)) (bare - i) (D (drop (i - bare) ds)))) ≡ base →
      o1 ≡ puts after o (if f then [] else comma ∷ []) → o2 ≡ puts after o1 (named (arg_of p))
      → o3 ≡ puts after o2 (default_at bare i (map tree_of ds)) →
      puts after o3 (members false comma (padded (N (drop (i + 1) ps)) (bare - (i + 1)) (D (drop (i + 1 - bare) ds)))) ≡ base
  plain_on f ps bare i ds p o1 o2 o3 lt read so_far e1 e2 e3 =
      let rest : List (List Sited) = padded (N (drop (i + 1) ps)) (bare - (i + 1)) (D (drop (i + 1 - bare) ds)) in
      let ts : List Sited = named (arg_of p) ++ default_at bare i (map tree_of ds) in
      ap (λ z. puts after z (members false comma rest)) (e3 ∙ two after o1 (named (arg_of p)) (default_at bare i (map tree_of ds)) o2 e2
      ∙ ap (λ z. puts after z ts) e1)
      ∙ sym (members_on after o f comma ts rest)
      ∙ ap (λ z. puts after o (members f comma z)) (sym (ap (λ z. padded (N z) (bare - i) (D (drop (i - bare) ds))) (dropped ps i p lt read)
      ∙ step (arg_of p) (args (map arg_of (drop (i + 1) ps))) bare i ds))
      ∙ so_far

  pub plain_done : (f : Bool) (ps : List given_arg.Arg) (bare i : ℕ) (uss : List (List Sited)) → length ps ≤ i →
      puts after o (members f comma (padded (N (drop i ps)) (bare - i) uss)) ≡ base → o ≡ base
  unfolding written
  plain_done f ps bare i uss h so_far =
      sym (ap (λ z. puts after o (members f comma (padded (N z) (bare - i) uss))) (drop_all i ps h)
      ∙ ap (puts after o) (members_none f comma)) ∙ so_far

-- ---- The parameters by their places.

parts : (ps qs : List given_arg.Arg) (ds : List given.Expr) (bare : ℕ) → bare ≡ (length ps + length qs) - length ds →
    with_slash piece (N ps) (with_defaults (N ps ++ N qs) (D ds)) ≡ padded (N ps) bare (D ds) ++
    (slash (N ps) ++ padded (N qs) (bare - length ps) (D (drop (length ps - bare) ds)))
parts ps qs ds bare e =
    let count : length (N ps ++ N qs) ≡ length ps + length qs = length-append (N ps) (N qs) ∙ (λ k. name_count ps k + name_count qs k) in
    let at : length (N ps ++ N qs) - length (D ds) ≡ bare = (λ k. count k - default_count ds k) ∙ sym e in
    ap (with_slash piece (N ps)) (defaults_padded (N ps ++ N qs) (D ds) ∙ ap (λ n. padded (N ps ++ N qs) n (D ds)) at
    ∙ padded_both (N ps) (N qs) bare (D ds))
    ∙ slash_between (N ps) (padded (N ps) bare (D ds)) (padded (N qs) (bare - length (N ps)) (drop (length (N ps) - bare) (D ds)))
    (sym (padded_length (N ps) bare (D ds)))
    ∙ (λ k. padded (N ps) bare (D ds) ++ (slash (N ps) ++ padded (N qs) (bare - name_count ps k) (drop (name_count ps k - bare) (D ds))))
    ∙ ap (λ z. padded (N ps) bare (D ds) ++ (slash (N ps) ++ padded (N qs) (bare - length ps) z)) (defaults_left (length ps - bare) ds)

-- a list, the `/` after it if it isn't empty, and another one
joined : (us xs ys : List (List Sited)) (n : ℕ) → length us ≡ n → length xs ≡ n →
    members true comma (xs ++ (slash us ++ ys)) ≡ members true comma xs ++ (slash_following n ++ members (nat_eq n 0) comma ys)
joined [] [] ys zero e h = refl
joined [] [] ys (suc n) e h = absurd (omega (arith, e))
joined [] (ts ∷ xs) ys n e h = absurd (omega (arith, e, h))
joined (u ∷ us) [] ys n e h = absurd (omega (arith, e, h))
joined (u ∷ us) (ts ∷ xs) ys zero e h = absurd (omega (arith, e))
joined (u ∷ us) (ts ∷ xs) ys (suc n) e h = members_both true comma (ts ∷ xs) (slash (u ∷ us) ++ ys)
    ∙ ap (λ z. members true comma (ts ∷ xs) ++ (slash_following (suc n) ++ members z comma ys)) (sym (not_zero n))

pub places_on : {S : Type 0} (after : S → Sited → S) (s : S) (ps qs : List given_arg.Arg) (ds : List given.Expr) (bare : ℕ) (s1 s2 : S) →
    bare ≡ (length ps + length qs) - length ds →
    s1 ≡ puts after s (members true comma (padded (N ps) bare (D ds))) → s2 ≡ puts after s1 (slash_following (length ps)) →
    puts after s2 (members (nat_eq (length ps) 0) comma (padded (N qs) (bare - length ps) (D (drop (length ps - bare) ds))))
    ≡ puts after s (listed piece (by_places (args (map arg_of ps)) (args (map arg_of qs)) (exprs (map tree_of ds))))
places_on after s ps qs ds bare s1 s2 e e1 e2 =
    let X : List (List Sited) = padded (N ps) bare (D ds) in
    let Y : List (List Sited) = padded (N qs) (bare - length ps) (D (drop (length ps - bare) ds)) in
    let same : length X ≡ length ps = padded_length (N ps) bare (D ds) ∙ name_count ps in
    three after s (members true comma X) (slash_following (length ps)) (members (nat_eq (length ps) 0) comma Y) s1 s2 e1 e2
    ∙ ap (puts after s) (sym (ap (members true comma) (parts ps qs ds bare e) ∙ joined (N ps) X Y (length ps) (name_count ps) same))

-- ---- All parameters.

nil_slash : (us : List (List Sited)) (b : Bool) → (is_nil us && (is_nil (slash us) && b)) ≡ (is_nil us && b)
nil_slash [] b = refl
nil_slash (u ∷ us) b = refl

no_positional : (ps qs : List given_arg.Arg) (ds : List given.Expr)
    → is_nil (with_slash piece (N ps) (with_defaults (N ps ++ N qs) (D ds))) ≡ (is_nil ps && is_nil qs)
no_positional ps qs ds =
    let bare : ℕ = (length ps + length qs) - length ds in
    let X : List (List Sited) = padded (N ps) bare (D ds) in
    let Y : List (List Sited) = padded (N qs) (bare - length ps) (D (drop (length ps - bare) ds)) in
    ap is_nil (parts ps qs ds bare refl)
    ∙ nil_append X (slash (N ps) ++ Y)
    ∙ ap (λ z. is_nil X && z) (nil_append (slash (N ps)) Y)
    ∙ (λ k. padded_nil (N ps) bare (D ds) k && (is_nil (slash (N ps)) && padded_nil (N qs) (bare - length ps)
    (D (drop (length ps - bare) ds)) k))
    ∙ nil_slash (N ps) (is_nil (N qs))
    ∙ (λ k. no_names ps k && no_names qs k)

abbrev pub is_absent : OptionalArg → Bool
is_absent absent_arg = true
is_absent (present_arg a) = false

no_star : (v : OptionalArg) (ks : List given_arg.Arg) → is_nil (with_star piece (gathered piece Star v) (N ks)) ≡ (is_absent v && is_nil ks)
unfolding written
no_star absent_arg [] = refl
no_star absent_arg (k ∷ ks) = ap (λ z. is_nil (with_star piece [] z)) (one_more (arg_of k) (args (map arg_of ks)))
no_star (present_arg (arg x t)) ks = refl

-- after a `*` of their own no keyword-only parameter is the first
none_first : (first a : Bool) (ks : List given_arg.Arg) (kds : OptionalExprs) →
    members (first && (a && is_nil ks)) comma (beside (N ks) (defaults piece kds)) ≡ members false comma
    (beside (N ks) (defaults piece kds))
unfolding written
none_first first a [] kds = members_none (first && (a && true)) comma
none_first first a (k ∷ ks) kds = ap (λ z. members z comma (beside (N (k ∷ ks)) (defaults piece kds))) (never first a)
  where
    never : (x y : Bool) → (x && (y && false)) ≡ false
    never true true = refl
    never true false = refl
    never false y = refl

nil_beside : (b : Bool) (ks : List given_arg.Arg) (uss : List (List Sited))
    → ((b && is_nil ks) && is_nil (beside (N ks) uss)) ≡ (b && is_nil ks)
unfolding written
nil_beside true [] uss = refl
nil_beside true (k ∷ ks) uss = refl
nil_beside false ks uss = refl

and_assoc : (a b c : Bool) → (a && (b && c)) ≡ ((a && b) && c)
and_assoc true b c = refl
and_assoc false b c = refl

pub parameters_on : {S : Type 0} (after : S → Sited → S) (s : S) (ps qs ks : List given_arg.Arg) (v k : OptionalArg) (kds : OptionalExprs)
    (ds : List given.Expr) (first none : Bool) (s1 s2 s3 : S) →
    first ≡ (is_nil ps && is_nil qs) → none ≡ (first && (is_absent v && is_nil ks)) →
    s1 ≡ puts after s (listed piece (positional (arguments (args (map arg_of ps)) (args (map arg_of qs)) v (args (map arg_of ks)) kds k
    (exprs (map tree_of ds))))) →
    s2 ≡ puts after s1 (members first comma (with_star piece (gathered piece Star v) (N ks))) →
    s3 ≡ puts after s2 (members false comma (beside (N ks) (defaults piece kds))) →
    puts after s3 (members none comma (gathered piece DoubleStar k))
    ≡ puts after s (listed piece (parameters piece (arguments (args (map arg_of ps)) (args (map arg_of qs)) v (args (map arg_of ks)) kds k
    (exprs (map tree_of ds)))))
unfolding written
parameters_on after s ps qs ks v k kds ds first none s1 s2 s3 hf hn e1 e2 e3 =
    let P : List (List Sited) = with_slash piece (N ps) (with_defaults (N ps ++ N qs) (D ds)) in
    let V : List (List Sited) = with_star piece (gathered piece Star v) (N ks) in
    let B : List (List Sited) = beside (N ks) (defaults piece kds) in
    let K : List (List Sited) = gathered piece DoubleStar k in
    let a : Bool = is_absent v in
    let p : is_nil P ≡ first = no_positional ps qs ds ∙ sym hf in
    let q : (is_nil P && is_nil V) ≡ (first && (a && is_nil ks)) = (λ i. p i && no_star v ks i) in
    let r : ((is_nil P && is_nil V) && is_nil B) ≡ none = ap (λ z. z && is_nil B) (q ∙ and_assoc first a (is_nil ks))
    ∙ nil_beside (first && a) ks (defaults piece kds) ∙ sym (hn ∙ and_assoc first a (is_nil ks)) in
    let whole : members true comma (P ++ (V ++ (B ++ K))) ≡ members true comma P ++
    (members first comma V ++ (members false comma B ++ members none comma K)) =
    members_both true comma P (V ++ (B ++ K))
    ∙ ap (λ z. members true comma P ++ z) (members_both (is_nil P) comma V (B ++ K)
    ∙ (λ i. members (p i) comma V ++ members (is_nil P && is_nil V) comma (B ++ K))
    ∙ ap (λ z. members first comma V ++ z) (members_both (is_nil P && is_nil V) comma B K
    ∙ (λ i. members (q i) comma B ++ members (r i) comma K)
    ∙ ap (λ z. z ++ members none comma K) (none_first first a ks kds))) in
    four after s (members true comma P) (members first comma V) (members false comma B) (members none comma K) s1 s2 s3 e1 e2 e3
    ∙ ap (puts after s) (sym whole)

pub plain_start : {S : Type 0} (after : S → Sited → S) (o : S) (f : Bool) (ps : List given_arg.Arg) (bare : ℕ) (ds : List given.Expr) →
    puts after o (members f comma (padded (N (drop 0 ps)) (bare - 0) (D (drop (0 - bare) ds)))) ≡ puts after o
    (members f comma (padded (N ps) bare (D ds)))
plain_start after o f ps bare ds =
    let a : bare - 0 ≡ bare = omega arith in
    let b : 0 - bare ≡ 0 = omega arith in
    (λ k. puts after o (members f comma (padded (N ps) (a k) (D (drop (b k) ds)))))

-- ---- The default of one parameter.

pub default_bare : (bare i : ℕ) (ds : List given.Expr) → i < bare → [] ≡ default_at bare i (map tree_of ds)
default_bare bare i ds h = let e : nat_lt i bare ≡ true = grind (arith, nat_tests) in
    (λ k. if sym e k then [] else head_default (drop (i - bare) (map tree_of ds)))

default_given : (bare i : ℕ) (ds : List given.Expr) → bare ≤ i → default_at bare i (map tree_of ds) ≡ head_default
    (map tree_of (drop (i - bare) ds))
default_given bare i ds h =
    let e : nat_lt i bare ≡ false = grind (arith, nat_tests) in
    (λ k. if e k then [] else head_default (drop (i - bare) (map tree_of ds))) ∙ ap head_default (drop-map tree_of (i - bare) ds)

pub default_none : (bare i : ℕ) (ds : List given.Expr) → bare ≤ i → length ds ≤ i - bare → [] ≡ default_at bare i (map tree_of ds)
default_none bare i ds h l = sym (default_given bare i ds h ∙ ap (λ z. head_default (map tree_of z)) (drop_all (i - bare) ds l))

pub default_some : (bare i : ℕ) (ds : List given.Expr) (e : given.Expr) → bare ≤ i → i - bare < length ds → e ≡ get_or ds (i - bare) e →
    head_default (tree_of e ∷ []) ≡ default_at bare i (map tree_of ds)
default_some bare i ds e h l read =
    sym (default_given bare i ds h ∙ ap (λ z. head_default (map tree_of z)) (dropped ds (i - bare) e l read))

-- ---- The answers' forms of what is empty.

pub nil_length : {A : Type 0} (xs : List A) → is_nil xs ≡ (length xs == 0)
nil_length [] = refl
nil_length (x ∷ xs) = sym (not_zero (length xs))

pub absent_is : (o : Option given_arg.Arg) (b : Bool) → is_some o ≡ not b → b ≡ is_absent (optional_arg (arg_option_of o))
absent_is None true h = refl
absent_is None false h = absurd (false≢true h)
absent_is (Some a) true h = absurd (false≢true (sym h))
absent_is (Some a) false h = refl

-- what the program asks, as the lists are
pub parameters_told : {S : Type 0} (after : S → Sited → S) (s : S) (ps qs ks : List given_arg.Arg) (v k : Option given_arg.Arg)
    (kds : OptionalExprs) (ds : List given.Expr) (b1 b2 n b3 : Bool) (s1 s2 s3 : S) →
    b1 ≡ (length ps == 0) → b2 ≡ (length qs == 0) → is_some v ≡ not n → b3 ≡ (length ks == 0) →
    s1 ≡ puts after s (listed piece (positional (arguments (args (map arg_of ps)) (args (map arg_of qs)) (optional_arg (arg_option_of v))
    (args (map arg_of ks)) kds (optional_arg (arg_option_of k)) (exprs (map tree_of ds))))) →
    s2 ≡ puts after s1 (members (b1 && b2) comma (with_star piece (gathered piece Star (optional_arg (arg_option_of v))) (N ks))) →
    s3 ≡ puts after s2 (members false comma (beside (N ks) (defaults piece kds))) →
    puts after s3 (members (((b1 && b2) && n) && b3) comma (gathered piece DoubleStar (optional_arg (arg_option_of k))))
    ≡ puts after s (listed piece (parameters piece (arguments (args (map arg_of ps)) (args (map arg_of qs)) (optional_arg (arg_option_of v))
    (args (map arg_of ks)) kds (optional_arg (arg_option_of k)) (exprs (map tree_of ds)))))
parameters_told after s ps qs ks v k kds ds b1 b2 n b3 s1 s2 s3 h1 h2 hn h3 e1 e2 e3 =
    parameters_on after s ps qs ks (optional_arg (arg_option_of v)) (optional_arg (arg_option_of k)) kds ds (b1 && b2)
    (((b1 && b2) && n) && b3) s1 s2 s3
    (λ i. (h1 ∙ sym (nil_length ps)) i && (h2 ∙ sym (nil_length qs)) i)
    (sym (and_assoc (b1 && b2) n b3) ∙ (λ i. (b1 && b2) && (absent_is v n hn i && (h3 ∙ sym (nil_length ks)) i))) e1 e2 e3
