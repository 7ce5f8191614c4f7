-- Parameters that are read one after the other are arranged as the whole list is.
--
-- Carries: lambda_step. On: Parameters.
use Rattle.std.proofs.Common.{◌≡◌, refl, sym, ap, ◌∙◌, List, [], ◌∷◌, ◌++◌, Option, Some, None, Bool, true, false, cond, option_map}
use Rattle.pytree_node.specs.Trees.{Expr, Exprs, an_expr, OptionalExpr, absent, present, OptionalExprs, an_optional, Arg, Args, an_arg}
use Rattle.pytree_node.specs.Trees.{Arguments, arguments}
use Rattle.pygrammar.specs.Entries.{Entry, Single, Paired, Spread, Doubled, Keyed, Plain, Slashed, Bare, Gathered, Collected}
use Rattle.pygrammar.specs.Parameters.{add_keyword_only, set_vararg, add_plain, add_before_slash, after_star, at_star, plain_ones}
use Rattle.pygrammar.specs.Parameters.{before_slash, has_slash, arranged}
use Rattle.pyparse_nodes.specs.declared.parameters.Stage.{Stage}
use Rattle.pyparse_nodes.specs.declared.parameters.Stage.TheVariants as stage
use Rattle.pyparse_nodes.specs.Formals.{state, start, steps, before, outcome, args_before, optionals_before, exprs_before, arg_or}

args_snoc : (xs : List Arg) (a : Arg) (r : Args) → args_before (xs ++ (a ∷ [])) r ≡ args_before xs (an_arg a r)
args_snoc [] a r = refl
args_snoc (b ∷ xs) a r = ap (λ z. an_arg b z) (args_snoc xs a r)

optionals_snoc : (ds : List OptionalExpr) (d : OptionalExpr) (r : OptionalExprs)
    → optionals_before (ds ++ (d ∷ [])) r ≡ optionals_before ds (an_optional d r)
optionals_snoc [] d r = refl
optionals_snoc (b ∷ ds) d r = ap (λ z. an_optional b z) (optionals_snoc ds d r)

exprs_snoc : (es : List Expr) (e : Expr) (r : Exprs) → exprs_before (es ++ (e ∷ [])) r ≡ exprs_before es (an_expr e r)
exprs_snoc [] e r = refl
exprs_snoc (b ∷ es) e r = ap (λ z. an_expr b z) (exprs_snoc es e r)

twice : (f g h : Arguments → Arguments) (x : Option Arguments) → ((a : Arguments) → f (g a) ≡ h a)
    → option_map f (option_map g x) ≡ option_map h x
twice f g h None q = refl
twice f g h (Some a) q = ap (λ z. Some z) (q a)

wrong_steps : (b : Bool) (ps qs : List Arg) (v : Option Arg) (ks : List Arg) (kds : List OptionalExpr) (k : Option Arg) (ds : List Expr)
    (es : List Entry) → outcome (steps (state stage.Wrong b ps qs v ks kds k ds) es) ≡ None
wrong_steps b ps qs v ks kds k ds [] = refl
wrong_steps b ps qs v ks kds k ds (e ∷ es) = wrong_steps b ps qs v ks kds k ds es

keyword_before : (g h : Stage) (b : Bool) (ps qs : List Arg) (v : Option Arg) (ks : List Arg) (kds : List OptionalExpr) (k : Option Arg)
    (ds : List Expr) (a : Arg) (d : OptionalExpr) (r : Arguments) → before (state g b ps qs v ks kds k ds) (add_keyword_only a d r) ≡ before
    (state h b ps qs v (ks ++ (a ∷ [])) (kds ++ (d ∷ [])) k ds) r
keyword_before g h b ps qs v ks kds k ds a d (arguments ps2 qs2 v2 ks2 kds2 k2 ds2) =
    sym (λ i. arguments (args_before ps ps2) (args_before qs qs2) (arg_or v v2) (args_snoc ks a ks2 i) (optionals_snoc kds d kds2 i)
    (arg_or k k2) (exprs_before ds ds2))

-- after a star
star_steps : (b : Bool) (ps qs : List Arg) (v : Option Arg) (ks : List Arg) (kds : List OptionalExpr) (ds : List Expr) (es : List Entry)
    → option_map (before (state stage.Starred b ps qs v ks kds None ds)) (after_star es) ≡ outcome
    (steps (state stage.Starred b ps qs v ks kds None ds) es)
star_steps b ps qs v ks kds ds [] = refl
star_steps b ps qs v ks kds ds (Plain a d ∷ es) =
    twice _ _ _ (after_star es) (keyword_before stage.Starred stage.Starred b ps qs v ks kds None ds a d)
    ∙ star_steps b ps qs v (ks ++ (a ∷ [])) (kds ++ (d ∷ [])) ds es
star_steps b ps qs v ks kds ds (Collected a ∷ []) = refl
star_steps b ps qs v ks kds ds (Collected a ∷ (e ∷ es)) = sym (wrong_steps b ps qs v ks kds (Some a) ds es)
star_steps b ps qs v ks kds ds (_ ∷ es) = sym (wrong_steps b ps qs v ks kds None ds es)

-- after a lone star
lone_steps : (b : Bool) (ps qs : List Arg) (ds : List Expr) (es : List Entry)
    → option_map (before (state stage.Closed b ps qs None [] [] None ds)) (at_star (Bare ∷ es)) ≡ outcome
    (steps (state stage.Lone b ps qs None [] [] None ds) es)
lone_steps b ps qs ds [] = refl
lone_steps b ps qs ds (Plain a d ∷ es) = twice _ _ _ (after_star es) (keyword_before stage.Closed stage.Starred b ps qs None [] [] None ds a
    d) ∙ star_steps b ps qs None (a ∷ []) (d ∷ []) ds es
lone_steps b ps qs ds (_ ∷ es) = sym (wrong_steps b ps qs None [] [] None ds es)

absent_before : (g : Stage) (b : Bool) (ps qs : List Arg) (ds : List Expr) (a : Arg) (r : Arguments)
    → before (state g b ps qs None [] [] None ds) (add_plain a absent r) ≡ before (state g b ps (qs ++ (a ∷ [])) None [] [] None ds) r
absent_before g b ps qs ds a (arguments ps2 qs2 v2 ks2 kds2 k2 ds2) =
    sym (λ i. arguments (args_before ps ps2) (args_snoc qs a qs2 i) v2 ks2 kds2 k2 (exprs_before ds ds2))

present_before : (g : Stage) (b c : Bool) (ps qs : List Arg) (ds : List Expr) (a : Arg) (e : Expr) (r : Arguments)
    → before (state g b ps qs None [] [] None ds) (add_plain a (present e) r) ≡ before
    (state g c ps (qs ++ (a ∷ [])) None [] [] None (ds ++ (e ∷ []))) r
present_before g b c ps qs ds a e (arguments ps2 qs2 v2 ks2 kds2 k2 ds2) =
    sym (λ i. arguments (args_before ps ps2) (args_snoc qs a qs2 i) v2 ks2 kds2 k2 (exprs_snoc ds e ds2 i))

star_before : (b : Bool) (ps qs : List Arg) (ds : List Expr) (a : Arg) (r : Arguments)
    → before (state stage.Closed b ps qs None [] [] None ds) (set_vararg a r) ≡ before
    (state stage.Starred b ps qs (Some a) [] [] None ds) r
star_before b ps qs ds a (arguments ps2 qs2 v2 ks2 kds2 k2 ds2) = refl

gathered_steps : (b : Bool) (ps qs : List Arg) (ds : List Expr) (a : Arg) (es : List Entry)
    → option_map (before (state stage.Closed b ps qs None [] [] None ds)) (at_star (Gathered a ∷ es)) ≡ outcome
    (steps (state stage.Closed b ps qs None [] [] None ds) (Gathered a ∷ es))
gathered_steps b ps qs ds a es = twice _ _ _ (after_star es) (star_before b ps qs ds a) ∙ star_steps b ps qs (Some a) [] [] ds es

collected_steps : (b : Bool) (ps qs : List Arg) (ds : List Expr) (a : Arg) (es : List Entry)
    → option_map (before (state stage.Closed b ps qs None [] [] None ds)) (at_star (Collected a ∷ es)) ≡ outcome
    (steps (state stage.Closed b ps qs None [] [] None ds) (Collected a ∷ es))
collected_steps b ps qs ds a [] = refl
collected_steps b ps qs ds a (e ∷ es) = sym (wrong_steps b ps qs None [] [] (Some a) ds es)

-- where no slash may stand any more
plain_steps : (b : Bool) (ps qs : List Arg) (ds : List Expr) (es : List Entry)
    → option_map (before (state stage.Closed b ps qs None [] [] None ds)) (plain_ones b es) ≡ outcome
    (steps (state stage.Closed b ps qs None [] [] None ds) es)
plain_steps true ps qs ds [] = refl
plain_steps false ps qs ds [] = refl
plain_steps true ps qs ds (Plain a absent ∷ es) = sym (wrong_steps true ps qs None [] [] None ds es)
plain_steps false ps qs ds (Plain a absent ∷ es) = twice _ _ _ (plain_ones false es) (absent_before stage.Closed false ps qs ds a)
    ∙ plain_steps false ps (qs ++ (a ∷ [])) ds es
plain_steps true ps qs ds (Plain a (present e) ∷ es) = twice _ _ _ (plain_ones true es) (present_before stage.Closed true true ps qs ds a e)
    ∙ plain_steps true ps (qs ++ (a ∷ [])) (ds ++ (e ∷ [])) es
plain_steps false ps qs ds (Plain a (present e) ∷ es) =
    twice _ _ _ (plain_ones true es) (present_before stage.Closed false true ps qs ds a e)
    ∙ plain_steps true ps (qs ++ (a ∷ [])) (ds ++ (e ∷ [])) es
plain_steps true ps qs ds (Bare ∷ es) = lone_steps true ps qs ds es
plain_steps false ps qs ds (Bare ∷ es) = lone_steps false ps qs ds es
plain_steps true ps qs ds (Gathered a ∷ es) = gathered_steps true ps qs ds a es
plain_steps false ps qs ds (Gathered a ∷ es) = gathered_steps false ps qs ds a es
plain_steps true ps qs ds (Collected a ∷ es) = collected_steps true ps qs ds a es
plain_steps false ps qs ds (Collected a ∷ es) = collected_steps false ps qs ds a es
plain_steps true ps qs ds (_ ∷ es) = sym (wrong_steps true ps qs None [] [] None ds es)
plain_steps false ps qs ds (_ ∷ es) = sym (wrong_steps false ps qs None [] [] None ds es)

slash_after : (es : List Entry) → has_slash es ≡ true → after_star es ≡ None
slash_after [] h = absurd (cc)
slash_after (Plain a d ∷ es) h = ap (λ x. option_map (add_keyword_only a d) x) (slash_after es h)
slash_after (Collected a ∷ []) h = absurd (cc)
slash_after (Collected a ∷ (e ∷ es)) h = refl
slash_after (_ ∷ es) h = refl

slash_none : (b : Bool) (es : List Entry) → has_slash es ≡ true → plain_ones b es ≡ None
slash_none b [] h = absurd (cc)
slash_none true (Plain a absent ∷ es) h = refl
slash_none false (Plain a absent ∷ es) h = ap (λ x. option_map (add_plain a absent) x) (slash_none false es h)
slash_none true (Plain a (present d) ∷ es) h = ap (λ x. option_map (add_plain a (present d)) x) (slash_none true es h)
slash_none false (Plain a (present d) ∷ es) h = ap (λ x. option_map (add_plain a (present d)) x) (slash_none true es h)
slash_none true (Gathered a ∷ es) h = ap (λ x. option_map (set_vararg a) x) (slash_after es h)
slash_none false (Gathered a ∷ es) h = ap (λ x. option_map (set_vararg a) x) (slash_after es h)
slash_none b (Bare ∷ []) h = absurd (cc)
slash_none true (Bare ∷ (Plain a d ∷ es)) h = slash_after (Plain a d ∷ es) h
slash_none false (Bare ∷ (Plain a d ∷ es)) h = slash_after (Plain a d ∷ es) h
slash_none true (Bare ∷ (_ ∷ es)) h = refl
slash_none false (Bare ∷ (_ ∷ es)) h = refl
slash_none b (Collected a ∷ []) h = absurd (cc)
slash_none true (Collected a ∷ (e ∷ es)) h = refl
slash_none false (Collected a ∷ (e ∷ es)) h = refl
slash_none true (_ ∷ es) h = refl
slash_none false (_ ∷ es) h = refl

-- what may stand after one that a slash follows somewhere
abbrev following : Bool → List Entry → Option Arguments
following b (Slashed ∷ es) = plain_ones b es
following b es = before_slash b es

absent_after : (a : Arg) (es : List Entry) → before_slash false (Plain a absent ∷ es) ≡ option_map
    (add_before_slash a absent) (following false es)
absent_after a [] = refl
absent_after a (Slashed ∷ es) = refl
absent_after a (_ ∷ es) = refl

present_after : (b : Bool) (a : Arg) (e : Expr) (es : List Entry) → before_slash b (Plain a (present e) ∷ es) ≡ option_map
    (add_before_slash a (present e)) (following true es)
present_after true a e [] = refl
present_after false a e [] = refl
present_after true a e (Slashed ∷ es) = refl
present_after false a e (Slashed ∷ es) = refl
present_after true a e (_ ∷ es) = refl
present_after false a e (_ ∷ es) = refl

absent_first : (b c : Bool) (q : Arg) (qs : List Arg) (ds : List Expr) (a : Arg) (r : Arguments)
    → before (state stage.Open b (q ∷ qs) [] None [] [] None ds) (add_before_slash a absent r) ≡ before
    (state stage.Open c (q ∷ (qs ++ (a ∷ []))) [] None [] [] None ds) r
absent_first b c q qs ds a (arguments ps2 qs2 v2 ks2 kds2 k2 ds2) =
    sym (λ i. arguments (an_arg q (args_snoc qs a ps2 i)) qs2 v2 ks2 kds2 k2 (exprs_before ds ds2))

present_first : (b c : Bool) (q : Arg) (qs : List Arg) (ds : List Expr) (a : Arg) (e : Expr) (r : Arguments)
    → before (state stage.Open b (q ∷ qs) [] None [] [] None ds) (add_before_slash a (present e) r) ≡ before
    (state stage.Open c (q ∷ (qs ++ (a ∷ []))) [] None [] [] None (ds ++ (e ∷ []))) r
present_first b c q qs ds a e (arguments ps2 qs2 v2 ks2 kds2 k2 ds2) =
    sym (λ i. arguments (an_arg q (args_snoc qs a ps2 i)) qs2 v2 ks2 kds2 k2 (exprs_snoc ds e ds2 i))

no_choice : (c : Bool) → cond {A = Option Arguments} c None None ≡ None
no_choice true = refl
no_choice false = refl

by_slash : (c : Bool) (x : Option Arguments) → (c ≡ true → x ≡ None) → cond c None x ≡ x
by_slash true x h = sym (h refl)
by_slash false x h = refl

-- the only stage at which a slash may follow
open_steps : (b : Bool) (q : Arg) (qs : List Arg) (ds : List Expr) (es : List Entry)
    → cond (has_slash es) (option_map (before (state stage.Open b (q ∷ qs) [] None [] [] None ds)) (following b es))
    (option_map (before (state stage.Open b [] (q ∷ qs) None [] [] None ds)) (plain_ones b es)) ≡ outcome
    (steps (state stage.Open b [] (q ∷ qs) None [] [] None ds) es)
open_steps true q qs ds [] = refl
open_steps false q qs ds [] = refl
open_steps b q qs ds (Slashed ∷ es) = plain_steps b (q ∷ qs) [] ds es
open_steps true q qs ds (Plain a absent ∷ es) = no_choice (has_slash es) ∙ sym (wrong_steps true [] (q ∷ qs) None [] [] None ds es)
open_steps false q qs ds (Plain a absent ∷ es) =
    let one = ap (λ x. option_map (before (state stage.Open false (q ∷ qs) [] None [] [] None ds)) x) (absent_after a es)
    ∙ twice _ _ _ (following false es) (absent_first false false q qs ds a) in
    let two = twice _ _ _ (plain_ones false es) (absent_before stage.Open false [] (q ∷ qs) ds a) in
    (λ i. cond (has_slash es) (one i) (two i)) ∙ open_steps false q (qs ++ (a ∷ [])) ds es
open_steps true q qs ds (Plain a (present e) ∷ es) =
    let one = ap (λ x. option_map (before (state stage.Open true (q ∷ qs) [] None [] [] None ds)) x) (present_after true a e es)
    ∙ twice _ _ _ (following true es) (present_first true true q qs ds a e) in
    let two = twice _ _ _ (plain_ones true es) (present_before stage.Open true true [] (q ∷ qs) ds a e) in
    (λ i. cond (has_slash es) (one i) (two i)) ∙ open_steps true q (qs ++ (a ∷ [])) (ds ++ (e ∷ [])) es
open_steps false q qs ds (Plain a (present e) ∷ es) =
    let one = ap (λ x. option_map (before (state stage.Open false (q ∷ qs) [] None [] [] None ds)) x) (present_after false a e es)
    ∙ twice _ _ _ (following true es) (present_first false true q qs ds a e) in
    let two = twice _ _ _ (plain_ones true es) (present_before stage.Open false true [] (q ∷ qs) ds a e) in
    (λ i. cond (has_slash es) (one i) (two i)) ∙ open_steps true q (qs ++ (a ∷ [])) (ds ++ (e ∷ [])) es
open_steps true q qs ds (Bare ∷ es) =
    by_slash (has_slash es) _ (λ h. ap (λ x. option_map (before (state stage.Open true [] (q ∷ qs) None [] [] None ds)) x)
    (slash_none true (Bare ∷ es) h)) ∙ plain_steps true [] (q ∷ qs) ds (Bare ∷ es)
open_steps true q qs ds (Gathered a ∷ es) =
    by_slash (has_slash es) _ (λ h. ap (λ x. option_map (before (state stage.Open true [] (q ∷ qs) None [] [] None ds)) x)
    (slash_none true (Gathered a ∷ es) h)) ∙ plain_steps true [] (q ∷ qs) ds (Gathered a ∷ es)
open_steps true q qs ds (Collected a ∷ es) =
    by_slash (has_slash es) _ (λ h. ap (λ x. option_map (before (state stage.Open true [] (q ∷ qs) None [] [] None ds)) x)
    (slash_none true (Collected a ∷ es) h)) ∙ plain_steps true [] (q ∷ qs) ds (Collected a ∷ es)
open_steps true q qs ds (Single a ∷ es) =
    by_slash (has_slash es) _ (λ h. ap (λ x. option_map (before (state stage.Open true [] (q ∷ qs) None [] [] None ds)) x)
    (slash_none true (Single a ∷ es) h)) ∙ plain_steps true [] (q ∷ qs) ds (Single a ∷ es)
open_steps true q qs ds (Paired a c ∷ es) =
    by_slash (has_slash es) _ (λ h. ap (λ x. option_map (before (state stage.Open true [] (q ∷ qs) None [] [] None ds)) x)
    (slash_none true (Paired a c ∷ es) h)) ∙ plain_steps true [] (q ∷ qs) ds (Paired a c ∷ es)
open_steps true q qs ds (Spread a ∷ es) =
    by_slash (has_slash es) _ (λ h. ap (λ x. option_map (before (state stage.Open true [] (q ∷ qs) None [] [] None ds)) x)
    (slash_none true (Spread a ∷ es) h)) ∙ plain_steps true [] (q ∷ qs) ds (Spread a ∷ es)
open_steps true q qs ds (Doubled a ∷ es) =
    by_slash (has_slash es) _ (λ h. ap (λ x. option_map (before (state stage.Open true [] (q ∷ qs) None [] [] None ds)) x)
    (slash_none true (Doubled a ∷ es) h)) ∙ plain_steps true [] (q ∷ qs) ds (Doubled a ∷ es)
open_steps true q qs ds (Keyed x a ∷ es) =
    by_slash (has_slash es) _ (λ h. ap (λ x. option_map (before (state stage.Open true [] (q ∷ qs) None [] [] None ds)) x)
    (slash_none true (Keyed x a ∷ es) h)) ∙ plain_steps true [] (q ∷ qs) ds (Keyed x a ∷ es)
open_steps false q qs ds (Bare ∷ es) =
    by_slash (has_slash es) _ (λ h. ap (λ x. option_map (before (state stage.Open false [] (q ∷ qs) None [] [] None ds)) x)
    (slash_none false (Bare ∷ es) h)) ∙ plain_steps false [] (q ∷ qs) ds (Bare ∷ es)
open_steps false q qs ds (Gathered a ∷ es) =
    by_slash (has_slash es) _ (λ h. ap (λ x. option_map (before (state stage.Open false [] (q ∷ qs) None [] [] None ds)) x)
    (slash_none false (Gathered a ∷ es) h)) ∙ plain_steps false [] (q ∷ qs) ds (Gathered a ∷ es)
open_steps false q qs ds (Collected a ∷ es) =
    by_slash (has_slash es) _ (λ h. ap (λ x. option_map (before (state stage.Open false [] (q ∷ qs) None [] [] None ds)) x)
    (slash_none false (Collected a ∷ es) h)) ∙ plain_steps false [] (q ∷ qs) ds (Collected a ∷ es)
open_steps false q qs ds (Single a ∷ es) =
    by_slash (has_slash es) _ (λ h. ap (λ x. option_map (before (state stage.Open false [] (q ∷ qs) None [] [] None ds)) x)
    (slash_none false (Single a ∷ es) h)) ∙ plain_steps false [] (q ∷ qs) ds (Single a ∷ es)
open_steps false q qs ds (Paired a c ∷ es) =
    by_slash (has_slash es) _ (λ h. ap (λ x. option_map (before (state stage.Open false [] (q ∷ qs) None [] [] None ds)) x)
    (slash_none false (Paired a c ∷ es) h)) ∙ plain_steps false [] (q ∷ qs) ds (Paired a c ∷ es)
open_steps false q qs ds (Spread a ∷ es) =
    by_slash (has_slash es) _ (λ h. ap (λ x. option_map (before (state stage.Open false [] (q ∷ qs) None [] [] None ds)) x)
    (slash_none false (Spread a ∷ es) h)) ∙ plain_steps false [] (q ∷ qs) ds (Spread a ∷ es)
open_steps false q qs ds (Doubled a ∷ es) =
    by_slash (has_slash es) _ (λ h. ap (λ x. option_map (before (state stage.Open false [] (q ∷ qs) None [] [] None ds)) x)
    (slash_none false (Doubled a ∷ es) h)) ∙ plain_steps false [] (q ∷ qs) ds (Doubled a ∷ es)
open_steps false q qs ds (Keyed x a ∷ es) =
    by_slash (has_slash es) _ (λ h. ap (λ x. option_map (before (state stage.Open false [] (q ∷ qs) None [] [] None ds)) x)
    (slash_none false (Keyed x a ∷ es) h)) ∙ plain_steps false [] (q ∷ qs) ds (Keyed x a ∷ es)

same : (f h : Arguments → Arguments) (x : Option Arguments) → ((a : Arguments) → f a ≡ h a) → option_map f x ≡ option_map h x
same f h None q = refl
same f h (Some a) q = ap (λ z. Some z) (q a)

nothing_before : (x : Option Arguments) → x ≡ option_map (before (state stage.Closed false [] [] None [] [] None [])) x
nothing_before None = refl
nothing_before (Some (arguments ps qs v ks kds k ds)) = refl

absent_alone : (a : Arg) (r : Arguments) → add_before_slash a absent r ≡ before (state stage.Open false (a ∷ []) [] None [] [] None []) r
absent_alone a (arguments ps qs v ks kds k ds) = refl

present_alone : (a : Arg) (e : Expr) (r : Arguments)
    → add_before_slash a (present e) r ≡ before (state stage.Open true (a ∷ []) [] None [] [] None (e ∷ [])) r
present_alone a e (arguments ps qs v ks kds k ds) = refl

absent_only : (a : Arg) (r : Arguments) → add_plain a absent r ≡ before (state stage.Open false [] (a ∷ []) None [] [] None []) r
absent_only a (arguments ps qs v ks kds k ds) = refl

present_only : (a : Arg) (e : Expr) (r : Arguments)
    → add_plain a (present e) r ≡ before (state stage.Open true [] (a ∷ []) None [] [] None (e ∷ [])) r
present_only a e (arguments ps qs v ks kds k ds) = refl

pub arranged_steps : (es : List Entry) → arranged es ≡ outcome (steps start es)
arranged_steps [] = refl
arranged_steps (Slashed ∷ es) = sym (wrong_steps false [] [] None [] [] None [] es)
arranged_steps (Plain a absent ∷ es) =
    let one = absent_after a es ∙ same _ _ (following false es) (absent_alone a) in
    let two = same _ _ (plain_ones false es) (absent_only a) in
    (λ i. cond (has_slash es) (one i) (two i)) ∙ open_steps false a [] [] es
arranged_steps (Plain a (present e) ∷ es) =
    let one = present_after false a e es ∙ same _ _ (following true es) (present_alone a e) in
    let two = same _ _ (plain_ones true es) (present_only a e) in
    (λ i. cond (has_slash es) (one i) (two i)) ∙ open_steps true a [] (e ∷ []) es
arranged_steps (Bare ∷ es) = by_slash (has_slash es) _ (λ h. slash_none false (Bare ∷ es) h) ∙ nothing_before _
    ∙ plain_steps false [] [] [] (Bare ∷ es)
arranged_steps (Gathered a ∷ es) = by_slash (has_slash es) _ (λ h. slash_none false (Gathered a ∷ es) h) ∙ nothing_before _
    ∙ plain_steps false [] [] [] (Gathered a ∷ es)
arranged_steps (Collected a ∷ es) = by_slash (has_slash es) _ (λ h. slash_none false (Collected a ∷ es) h) ∙ nothing_before _
    ∙ plain_steps false [] [] [] (Collected a ∷ es)
arranged_steps (Single a ∷ es) = by_slash (has_slash es) _ (λ h. slash_none false (Single a ∷ es) h) ∙ nothing_before _
    ∙ plain_steps false [] [] [] (Single a ∷ es)
arranged_steps (Paired a c ∷ es) = by_slash (has_slash es) _ (λ h. slash_none false (Paired a c ∷ es) h) ∙ nothing_before _
    ∙ plain_steps false [] [] [] (Paired a c ∷ es)
arranged_steps (Spread a ∷ es) = by_slash (has_slash es) _ (λ h. slash_none false (Spread a ∷ es) h) ∙ nothing_before _
    ∙ plain_steps false [] [] [] (Spread a ∷ es)
arranged_steps (Doubled a ∷ es) = by_slash (has_slash es) _ (λ h. slash_none false (Doubled a ∷ es) h) ∙ nothing_before _
    ∙ plain_steps false [] [] [] (Doubled a ∷ es)
arranged_steps (Keyed x a ∷ es) = by_slash (has_slash es) _ (λ h. slash_none false (Keyed x a ∷ es) h) ∙ nothing_before _
    ∙ plain_steps false [] [] [] (Keyed x a ∷ es)
