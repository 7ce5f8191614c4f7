-- Carries: the laws of pieces. On: what the grammar gives to tokens can be written, where these f-strings are open.
use Rattle.std.proofs.Common.{◌≡◌, ℕ, suc, ◌-◌, arith, Bool, true, false, List, [], ◌∷◌, ◌++◌, Option, Some, refl, sym, ap, ◌∙◌, subst, map}
use Rattle.std.specs.Prelude.{cond}
use Rattle.pylex_lexeme.specs.declared.kinds.Exact.{Exact}
use Rattle.pylex_lexeme.specs.declared.kinds.Exact.TheVariants.{LPar, RPar, LSqb, RSqb, RBrace, Colon, Comma, Dot, DoubleStar, Ellipsis}
use Rattle.pytree_node.specs.declared.profiles.Extent.{Extent}
use Rattle.pytoken.specs.declared.keywords.Keyword.TheVariants as Key
use Rattle.pytree_node.specs.declared.operators.Operator.{Operator}
use Rattle.pytree_node.specs.declared.operators.Operator.TheVariants as Bin
use Rattle.pytree_node.specs.declared.operators.UnaryOperator.{UnaryOperator}
use Rattle.pytree_node.specs.declared.operators.UnaryOperator.TheVariants as Un
use Rattle.pytree_node.specs.declared.operators.BoolOperator.{BoolOperator}
use Rattle.pytree_node.specs.declared.operators.BoolOperator.TheVariants as Join
use Rattle.pytree_node.specs.declared.operators.Comparison.{Comparison}
use Rattle.pytree_node.specs.declared.operators.Context.TheVariants.{Load, Store}
use Rattle.pygrammar.specs.declared.levels.Level.{Level}
use Rattle.pygrammar.specs.declared.levels.Level.TheVariants.{Atom}
use Rattle.pytree_node.specs.Values
use Rattle.pytree_node.specs.Trees
use Rattle.pytree_node.specs.Trees.{Expr, Exprs, no_exprs, an_expr, OptionalExpr, absent, present, Arg, arg, Arguments, arguments, exprs}
use Rattle.pytree_node.specs.Trees.{Comprehension, comprehensions}
use Rattle.pytoken.specs.Terminals.{Terminal, Op, Word, Ident, Literal, FormattedEnd, FieldEnd}
use Rattle.pygrammar.specs.Operators.{below, left_operator, prefix_operator, chain_level, chain_word}
use Rattle.pygrammar.specs.Constants.{constant_word, joined}
use Rattle.pygrammar.specs.Entries.{Item, Entry, Single, Paired, Spread, Doubled, Keyed, Plain, Slashed, Bare, Gathered, Collected, singles}
use Rattle.pygrammar.specs.Entries.{keys, values}
use Rattle.pygrammar.specs.Arguments.{positional, keywords, called}
use Rattle.pygrammar.specs.Parameters.{with_kwarg, with_default, add_keyword_only, set_vararg, add_plain, add_before_slash, after_star}
use Rattle.pygrammar.specs.Parameters.{at_star, plain_ones, before_slash, has_slash, arranged}
use Rattle.pygrammar.specs.Targets.{stored, all_stored}
use Rattle.pygrammar.specs.FormattedStrings.{StringPart, Text, Field, with_text, merged, values_of, spec_values_of, has_formatted}
use Rattle.pygrammar.specs.OpenStrings.{Open}
use Rattle.pygrammar.specs.Grammar as G
use Rattle.pygrammar.proofs.Callers.OpenStrings.{expression_closes, perhaps_closes, suffix_closes, compared_closes, formatted_closes}
use Rattle.pygrammar.proofs.Callers.OpenStrings.{spec_closes, listing_closes, piece_closes, comp_closes}
use Rattle.pyunparse_text.specs.Levels.{operator_level, right_level, unary_level}
use Rattle.pytoken.specs.Laws.{IsProper}
use Rattle.pyunparse_text.proofs.Fewest.Less.{star_place, allowed_below}
use Rattle.pyunparse_text.proofs.Fewest.Claims.{given, row, prefixed}
use Rattle.pyunparse_text.proofs.Fewest.Clauses.{mapped_is, both_is, star_stored}
use Rattle.pyunparse_text.proofs.Fewest.Calls.{called_is}
use Rattle.pyunparse_text.proofs.PieceLaws.Places.{Depth, deeper}
use Rattle.pyunparse_text.proofs.PieceLaws.Fair.{IsConstant}
use Rattle.pyunparse_text.proofs.PieceLaws.Sound.{HasStrings, HasFormatted, Sound, AreSound, SoundValues, SoundValue, SoundSpec}
use Rattle.pyunparse_text.proofs.PieceLaws.Sound.{SoundOptional, SoundOptionals, SoundClauses, SoundKeywords, SoundArguments}
use Rattle.pyunparse_text.proofs.PieceLaws.Sayings.{depth_of}
use Rattle.pyunparse_text.proofs.PieceLaws.SaidLists.{Said, front, back, rest, first, following, quiet, left_quiet, unary_quiet, text_both}
use Rattle.pyunparse_text.proofs.PieceLaws.SaidLists.{bytes_both, formatted_both, text_formatted}

below_plain : (o : BoolOperator) → star_place (below (chain_level o)) ≡ false
below_plain Join.And = refl
below_plain Join.Or = refl

operator_plain : (o : Operator) → star_place (operator_level o) ≡ false
operator_plain Bin.Add = refl
operator_plain Bin.Sub = refl
operator_plain Bin.Mult = refl
operator_plain Bin.MatMult = refl
operator_plain Bin.Div = refl
operator_plain Bin.Mod = refl
operator_plain Bin.Pow = refl
operator_plain Bin.LShift = refl
operator_plain Bin.RShift = refl
operator_plain Bin.BitOr = refl
operator_plain Bin.BitXor = refl
operator_plain Bin.BitAnd = refl
operator_plain Bin.FloorDiv = refl

right_plain : (o : Operator) → star_place (right_level o) ≡ false
right_plain Bin.Add = refl
right_plain Bin.Sub = refl
right_plain Bin.Mult = refl
right_plain Bin.MatMult = refl
right_plain Bin.Div = refl
right_plain Bin.Mod = refl
right_plain Bin.Pow = refl
right_plain Bin.LShift = refl
right_plain Bin.RShift = refl
right_plain Bin.BitOr = refl
right_plain Bin.BitXor = refl
right_plain Bin.BitAnd = refl
right_plain Bin.FloorDiv = refl

unary_plain : (o : UnaryOperator) → star_place (unary_level o) ≡ false
unary_plain Un.Not = refl
unary_plain Un.UAdd = refl
unary_plain Un.USub = refl
unary_plain Un.Invert = refl

left_is : (l : Level) (t : Terminal) (o : Operator) → left_operator l t ≡ Some o → star_place l ≡ false
left_is l t o h = ap star_place (sym (row l t o h).level) ∙ operator_plain o

right_is : (l : Level) (t : Terminal) (o : Operator) → left_operator l t ≡ Some o → star_place (below l) ≡ false
right_is l t o h = ap star_place (sym (row l t o h).right) ∙ right_plain o

prefix_is : (l : Level) (t : Terminal) (o : UnaryOperator) → prefix_operator l t ≡ Some o → star_place l ≡ false
prefix_is l t o h = ap star_place (sym (prefixed l t o h).level) ∙ unary_plain o

-- what is derived within one more f-string
abbrev pub SoundInside : Extent → Open → Type 0
SoundInside extent o = (n : ℕ) (ts : List Terminal) (e : Expr) → G.Derives Atom (Op LPar ∷ ts) e → Said extent (n ∷ o) (Op LPar ∷ ts)
    → Sound extent (deeper (depth_of o)) false e

module _ (extent : Extent) (o : Open) (inside : SoundInside extent o) where
  abbrev here : Depth
  here = depth_of o

  -- ---- Levels where no Starred stands.

  pub wider : (b c : Bool) (e : Expr) → (b ≡ true → c ≡ true) → Sound extent here b e → Sound extent here c e
  wider b c (Trees.Starred e x) f h = (f h.0, h.1)
  wider b c _ f h = h

  pub starred : (b : Bool) (e : Expr) → Sound extent here b e → Sound extent here true e
  starred b e h = wider b true e (λ q. refl) h

  plain : (b : Bool) (e : Expr) → b ≡ false → Sound extent here b e → Sound extent here false e
  plain b e q h = subst (λ b. Sound extent here b e) q h

  any : (b c : Bool) (e : Expr) → b ≡ false → Sound extent here b e → Sound extent here c e
  any b c e q h = wider false c e (λ (z : false ≡ true). absurd (cc)) (plain b e q h)

  optional_starred : (e : OptionalExpr) → SoundOptional extent here false e → SoundOptional extent here true e
  optional_starred absent h = tt
  optional_starred (present e) h = starred false e h

  -- ---- Entries of lists.

  abbrev pub Fine : Entry → Type 0
  Fine (Single e) = Sound extent here true e
  Fine (Paired k e) = Sound extent here false k × Sound extent here false e
  Fine (Spread e) = Sound extent here false e
  Fine (Doubled e) = Sound extent here false e
  Fine (Keyed x e) = IsProper x × Sound extent here false e
  Fine (Plain (arg x a) d) = IsProper x × SoundOptional extent here true a × SoundOptional extent here false d
  Fine Slashed = Unit {0}
  Fine Bare = Unit {0}
  Fine (Gathered (arg x a)) = IsProper x × SoundOptional extent here true a
  Fine (Collected (arg x a)) = IsProper x × SoundOptional extent here true a

  abbrev pub AllFine : List Entry → Type 0
  AllFine [] = Unit {0}
  AllFine (e ∷ es) = Fine e × AllFine es

  singles_sound : (es : List Entry) → AllFine es → AreSound extent here true (singles es)
  singles_sound [] h = tt
  singles_sound (Single e ∷ es) h = (h.0, singles_sound es h.1)
  singles_sound (_ ∷ es) h = singles_sound es h.1

  keys_sound : (es : List Entry) → AllFine es → SoundOptionals extent here (keys es)
  keys_sound [] h = tt
  keys_sound (Paired k e ∷ es) h = (h.0.0, keys_sound es h.1)
  keys_sound (_ ∷ es) h = (tt, keys_sound es h.1)

  values_sound : (es : List Entry) → AllFine es → AreSound extent here false (values es)
  values_sound [] h = tt
  values_sound (Paired k e ∷ es) h = (h.0.1, values_sound es h.1)
  values_sound (Doubled e ∷ es) h = (h.0, values_sound es h.1)
  values_sound (_ ∷ es) h = values_sound es h.1

  pub positional_sound : (es : List Entry) → AllFine es → AreSound extent here true (positional es)
  positional_sound [] h = tt
  positional_sound (Single e ∷ es) h = (h.0, positional_sound es h.1)
  positional_sound (Spread e ∷ es) h = ((refl, h.0), positional_sound es h.1)
  positional_sound (_ ∷ es) h = positional_sound es h.1

  pub keywords_sound : (es : List Entry) → AllFine es → SoundKeywords extent here (keywords es)
  keywords_sound [] h = tt
  keywords_sound (Keyed x e ∷ es) h = (h.0.0, h.0.1, keywords_sound es h.1)
  keywords_sound (Doubled e ∷ es) h = (h.0, keywords_sound es h.1)
  keywords_sound (_ ∷ es) h = keywords_sound es h.1

  called_sound : (b : Bool) (f e : Expr) (es : List Entry) → called f es ≡ Some e → Sound extent here false f
      → AllFine es → Sound extent here b e
  called_sound b f e es q s h = subst (Sound extent here b) (called_is f e es q) (s, positional_sound es h, keywords_sound es h)

  -- ---- Parameters.

  default_sound : (d : OptionalExpr) (ds : Exprs) → SoundOptional extent here false d → AreSound extent here false ds
      → AreSound extent here false (with_default d ds)
  default_sound absent ds s h = h
  default_sound (present d) ds s h = (s, h)

  kwarg_sound : (a : Arg) → Fine (Collected a) → SoundArguments extent here (with_kwarg a)
  kwarg_sound (arg x t) h = (tt, tt, tt, tt, tt, h, tt)

  keyword_only_sound : (a : Arg) (d : OptionalExpr) (x : Arguments) → Fine (Plain a d) → SoundArguments extent here x
      → SoundArguments extent here (add_keyword_only a d x)
  keyword_only_sound (arg n t) d (arguments ps qs v ks kds k ds) h s = (s.0, s.1, s.2, (h.0, h.1, s.3), (h.2, s.4), s.5, s.6)

  vararg_sound : (a : Arg) (x : Arguments) → Fine (Gathered a) → SoundArguments extent here x → SoundArguments extent here (set_vararg a x)
  vararg_sound (arg n t) (arguments ps qs v ks kds k ds) h s = (s.0, s.1, h, s.3, s.4, s.5, s.6)

  plain_sound : (a : Arg) (d : OptionalExpr) (x : Arguments) → Fine (Plain a d) → SoundArguments extent here x
      → SoundArguments extent here (add_plain a d x)
  plain_sound (arg n t) d (arguments ps qs v ks kds k ds) h s = (s.0, (h.0, h.1, s.1), s.2, s.3, s.4, s.5, default_sound d ds h.2 s.6)

  slash_sound : (a : Arg) (d : OptionalExpr) (x : Arguments) → Fine (Plain a d) → SoundArguments extent here x
      → SoundArguments extent here (add_before_slash a d x)
  slash_sound (arg n t) d (arguments ps qs v ks kds k ds) h s = ((h.0, h.1, s.0), s.1, s.2, s.3, s.4, s.5, default_sound d ds h.2 s.6)

  after_sound : (es : List Entry) (x : Arguments) → after_star es ≡ Some x → AllFine es → SoundArguments extent here x
  after_sound [] x q h = given (SoundArguments extent here) q (tt, tt, tt, tt, tt, tt, tt)
  after_sound (Plain a d ∷ es) x q h = let w = mapped_is (add_keyword_only a d) (after_star es) x q in
      subst (SoundArguments extent here) w.2 (keyword_only_sound a d w.0 h.0 (after_sound es w.0 w.1 h.1))
  after_sound (Collected a ∷ []) x q h = given (SoundArguments extent here) q (kwarg_sound a h.0)
  after_sound _ x q h = absurd (cc)

  at_sound : (es : List Entry) (x : Arguments) → at_star es ≡ Some x → AllFine es → SoundArguments extent here x
  at_sound [] x q h = given (SoundArguments extent here) q (tt, tt, tt, tt, tt, tt, tt)
  at_sound (Gathered a ∷ es) x q h = let w = mapped_is (set_vararg a) (after_star es) x q in
      subst (SoundArguments extent here) w.2 (vararg_sound a w.0 h.0 (after_sound es w.0 w.1 h.1))
  at_sound (Bare ∷ (Plain a d ∷ es)) x q h = after_sound (Plain a d ∷ es) x q h.1
  at_sound (Collected a ∷ []) x q h = given (SoundArguments extent here) q (kwarg_sound a h.0)
  at_sound _ x q h = absurd (cc)

  plain_ones_sound : (b : Bool) (es : List Entry) (x : Arguments) → plain_ones b es ≡ Some x → AllFine es → SoundArguments extent here x
  plain_ones_sound true (Plain a absent ∷ es) x q h = absurd (cc)
  plain_ones_sound false (Plain a absent ∷ es) x q h = let w = mapped_is (add_plain a absent) (plain_ones false es) x q in
      subst (SoundArguments extent here) w.2 (plain_sound a absent w.0 h.0 (plain_ones_sound false es w.0 w.1 h.1))
  plain_ones_sound b (Plain a (present d) ∷ es) x q h = let w = mapped_is (add_plain a (present d)) (plain_ones true es) x q in
      subst (SoundArguments extent here) w.2 (plain_sound a (present d) w.0 h.0 (plain_ones_sound true es w.0 w.1 h.1))
  plain_ones_sound b es x q h = at_sound es x q h

  before_slash_sound : (b : Bool) (es : List Entry) (x : Arguments) → before_slash b es ≡ Some x → AllFine es → SoundArguments extent here x
  before_slash_sound true (Plain a absent ∷ es) x q h = absurd (cc)
  before_slash_sound false (Plain a absent ∷ (Slashed ∷ es)) x q h = let w = mapped_is (add_before_slash a absent) (plain_ones false es) x
      q in subst (SoundArguments extent here) w.2 (slash_sound a absent w.0 h.0 (plain_ones_sound false es w.0 w.1 h.1.1))
  before_slash_sound b (Plain a (present d) ∷ (Slashed ∷ es)) x q h = let w =
      mapped_is (add_before_slash a (present d)) (plain_ones true es) x q in
      subst (SoundArguments extent here) w.2 (slash_sound a (present d) w.0 h.0 (plain_ones_sound true es w.0 w.1 h.1.1))
  before_slash_sound false (Plain a absent ∷ es) x q h = let w = mapped_is (add_before_slash a absent) (before_slash false es) x q in
      subst (SoundArguments extent here) w.2 (slash_sound a absent w.0 h.0 (before_slash_sound false es w.0 w.1 h.1))
  before_slash_sound b (Plain a (present d) ∷ es) x q h = let w = mapped_is (add_before_slash a (present d)) (before_slash true es) x q in
      subst (SoundArguments extent here) w.2 (slash_sound a (present d) w.0 h.0 (before_slash_sound true es w.0 w.1 h.1))
  before_slash_sound _ _ x q h = absurd (cc)

  pub arranged_sound : (es : List Entry) (x : Arguments) → arranged es ≡ Some x → AllFine es → SoundArguments extent here x
  arranged_sound es x q h = by (has_slash es) q
    where
      by : (b : Bool) → cond b (before_slash false es) (plain_ones false es) ≡ Some x → SoundArguments extent here x
      by true q = before_slash_sound false es x q h
      by false q = plain_ones_sound false es x q h

  -- ---- Targets.

  mutual
    pub stored_sound : (b : Bool) (t s : Expr) → stored t ≡ Some s → Sound extent here b t → Sound extent here b s
    stored_sound b (Trees.Name x c) s q h = given (Sound extent here b) q h
    stored_sound b (Trees.Attribute e x c) s q h = given (Sound extent here b) q h
    stored_sound b (Trees.Subscript e i c) s q h = given (Sound extent here b) q h
    stored_sound b (Trees.Tuple es c) s q h = let w = mapped_is (λ fs. Trees.Tuple fs Store) (all_stored es) s q in
        subst (Sound extent here b) w.2 (all_sound es w.0 w.1 h)
    stored_sound b (Trees.ListOf es c) s q h = let w = mapped_is (λ fs. Trees.ListOf fs Store) (all_stored es) s q in
        subst (Sound extent here b) w.2 (all_sound es w.0 w.1 h)
    stored_sound b (Trees.Starred e c) s q h = let w = star_stored e c s q in
        subst (Sound extent here b) w.2 (h.0, stored_sound false e w.0 w.1 h.1)
    stored_sound b _ s q h = absurd (cc)

    all_sound : (es fs : Exprs) → all_stored es ≡ Some fs → AreSound extent here true es → AreSound extent here true fs
    all_sound no_exprs fs q h = given (AreSound extent here true) q h
    all_sound (an_expr e es) fs q h = let w = both_is (stored e) (all_stored es) fs q in
        subst (AreSound extent here true) w.4 (stored_sound true e w.0 w.2 h.0, all_sound es w.1 w.3 h.1)

  -- ---- Constants.

  joined_sound : (v w : Values.Value) (vs : List Values.Value) → joined v vs ≡ Some w
      → IsConstant (record { extent = extent; depth = here }) v
      → Said extent o (map Literal vs) → IsConstant (record { extent = extent; depth = here }) w
  joined_sound v w [] q h s = given (IsConstant (record { extent = extent; depth = here })) q h
  joined_sound (Values.Str t u) w (Values.Str r v ∷ vs) q h s =
      joined_sound (Values.Str (t ++ r) u) w vs q (text_both here t r h (first s)) (rest s)
  joined_sound (Values.Bytes t) w (Values.Bytes r ∷ vs) q h s =
      joined_sound (Values.Bytes (t ++ r)) w vs q (bytes_both here t r h (first s)) (rest s)
  joined_sound _ w vs q h s = absurd (cc)

  word_sound : (t : Terminal) (v : Values.Value) → constant_word t ≡ Some v → IsConstant (record { extent = extent; depth = here }) v
  word_sound (Word Key.None) v h = given (IsConstant (record { extent = extent; depth = here })) h tt
  word_sound (Word Key.True) v h = given (IsConstant (record { extent = extent; depth = here })) h tt
  word_sound (Word Key.False) v h = given (IsConstant (record { extent = extent; depth = here })) h tt
  word_sound (Op Ellipsis) v h = given (IsConstant (record { extent = extent; depth = here })) h tt
  word_sound _ v h = absurd (cc)

  -- ---- F-strings.

  -- the parts of an f-string can be said, in so many format specs
  abbrev AllParts : ℕ → List StringPart → Type 0
  AllParts n [] = Unit {0}
  AllParts n (Text t ∷ ps) = HasFormatted here n t × AllParts n ps
  AllParts n (Field e ∷ ps) = SoundValue extent here n e × AllParts n ps

  parts_both : (n : ℕ) (ps qs : List StringPart) → AllParts n ps → AllParts n qs → AllParts n (ps ++ qs)
  parts_both n [] qs h k = k
  parts_both n (Text t ∷ ps) qs h k = (h.0, parts_both n ps qs h.1 k)
  parts_both n (Field e ∷ ps) qs h k = (h.0, parts_both n ps qs h.1 k)

  with_text_sound : (n : ℕ) (t : List ℕ) (ps : List StringPart) → HasFormatted here n t → AllParts n ps → AllParts n (with_text t ps)
  with_text_sound n [] ps h k = k
  with_text_sound n (c ∷ t) [] h k = (h, k)
  with_text_sound n (c ∷ t) (Text r ∷ ps) h k = (formatted_both here n (c ∷ t) r h k.0, k.1)
  with_text_sound n (c ∷ t) (Field e ∷ ps) h k = (h, k)

  merged_sound : (n : ℕ) (ps : List StringPart) → AllParts n ps → AllParts n (merged ps)
  merged_sound n [] h = h
  merged_sound n (Text t ∷ ps) h = with_text_sound n t (merged ps) h.0 (merged_sound n ps h.1)
  merged_sound n (Field e ∷ ps) h = (h.0, merged_sound n ps h.1)

  string_values_sound : (n : ℕ) (u : Bool) (ps : List StringPart) → AllParts n ps → SoundValues extent here n (values_of u ps)
  string_values_sound n u [] h = tt
  string_values_sound n u (Text t ∷ ps) h = (h.0, string_values_sound n u ps h.1)
  string_values_sound n u (Field e ∷ ps) h = (h.0, string_values_sound n u ps h.1)

  spec_values_sound : (n : ℕ) (u : Bool) (ps : List StringPart) → AllParts n ps → SoundValues extent here n (spec_values_of u ps)
  spec_values_sound n u [] h = tt
  spec_values_sound n u (Text t ∷ []) h = (h.0, tt)
  spec_values_sound n u (Text t ∷ (p ∷ ps)) h = (h.0, spec_values_sound n u (p ∷ ps) h.1)
  spec_values_sound n u (Field e ∷ ps) h = (h.0, spec_values_sound n u ps h.1)

  one_less : {n : ℕ} {ts : List Terminal} → Said extent ((suc n - 1) ∷ o) ts → Said extent (n ∷ o) ts
  one_less {n} {ts} h = subst (λ m. Said extent (m ∷ o) ts) (less n) h
    where
      less : (n : ℕ) → suc n - 1 ≡ n
      less n = omega arith

  mutual
    formatted_sound : {u : Bool} {ts : List Terminal} {ps : List StringPart} (n : ℕ) → G.Formatted u ts ps
        → Said extent (n ∷ o) ts → AllParts n ps
    formatted_sound n G.no_part h = tt
    formatted_sound n (G.text_part p) h = (first h, formatted_sound n p (rest h))
    formatted_sound n (G.field_part {ts = ts} {us = us} {vs = vs} {e = e} p q r) h =
        let all = rest h in
        let more = back (Op LPar ∷ ts) (us ++ (FieldEnd ∷ vs)) (expression_closes p) all in (
          (
            first h,
            inside (suc n) ts e p (front (Op LPar ∷ ts) (us ++ (FieldEnd ∷ vs)) all),
            spec_sound n q (front us (FieldEnd ∷ vs) more),
          ),
          formatted_sound n r (one_less (rest (back us (FieldEnd ∷ vs) (spec_closes q) more))),
        )

    spec_sound : {u : Bool} {ts : List Terminal} {s : OptionalExpr} (n : ℕ) → G.Spec u ts s → Said extent (suc n ∷ o) ts
        → SoundSpec extent here (suc n) s
    spec_sound n G.no_spec h = tt
    spec_sound n (G.spec {u = u} {ps = ps} p) h =
        spec_values_sound (suc n) u (merged ps) (merged_sound (suc n) ps (formatted_sound (suc n) p (rest h)))

  literals_sound : {u : Bool} {ts : List Terminal} {ps : List StringPart} → G.Literals u ts ps → Said extent o ts → AllParts 0 ps
  literals_sound G.no_literal h = tt
  literals_sound (G.text_literal {t = t} p) h = (text_formatted here t (first h), literals_sound p (rest h))
  literals_sound (G.formatted_literal {ts = ts} {us = us} {ps = ps} {qs = qs} p q) h =
      let all = rest h in
      parts_both 0 ps qs (formatted_sound 0 p (front ts (FormattedEnd ∷ us) all))
      (literals_sound q (rest (back ts (FormattedEnd ∷ us) (formatted_closes p) all)))

  string_there : {u : Bool} {ts : List Terminal} {ps : List StringPart} → G.Literals u ts ps → has_formatted ts ≡ true → Said extent o ts
      → HasStrings extent here
  string_there G.no_literal z h = absurd (cc)
  string_there (G.text_literal p) z h = string_there p z (rest h)
  string_there (G.formatted_literal p q) z h = first h

  -- ---- Lists of expressions.

  abbrev AllSound : List Expr → Type 0
  AllSound es = AreSound extent here false (exprs es)

  -- ---- What is derived.

  mutual
    pub sound : {l : Level} {ts : List Terminal} {e : Expr} → G.Derives l ts e → Said extent o ts → Sound extent here (star_place l) e
    sound (G.next {l = l} {e = e} p) h = wider (star_place (below l)) (star_place l) e (allowed_below l (Trees.Starred e Load)) (sound p h)
    sound (G.yields p) h = yields_sound true p (rest h)
    sound (G.star_tuple {ts = ts} {us = us} {es = es} p c) h =
        (sound p (front ts (Op Comma ∷ us) h), singles_sound es (listing_fine c (following ts us (Op Comma) (expression_closes p) h)))
    sound (G.star_item p) h = (refl, sound p (rest h))
    sound (G.named p) h = (first h, sound p (rest (rest h)))
    sound (G.lambda {ts = ts} {us = us} {ps = ps} {a = a} c q p) h = (
      arranged_sound ps a q (listing_fine c (front ts (Op Colon ∷ us) (rest h))),
      sound p (following ts us (Op Colon) (listing_closes c) (rest h)),
    )
    sound (G.if_else {ts = ts} {us = us} {vs = vs} p q r) h =
        let more = following ts (us ++ (Word Key.Else ∷ vs)) (Word Key.If) (expression_closes p) h in (
          sound q (front us (Word Key.Else ∷ vs) more),
          sound p (front ts (Word Key.If ∷ (us ++ (Word Key.Else ∷ vs))) h),
          sound r (following us vs (Word Key.Else) (expression_closes q) more),
        )
    sound (G.chain {o = k} {ts = ts} {us = us} {e = e} p c) h = (
      tt,
      (
        plain (star_place (below (chain_level k))) e (below_plain k) (sound p (front ts (Word (chain_word k) ∷ us) h)),
        chain_sound c (following ts us (Word (chain_word k)) (expression_closes p) h),
      ),
    )
    sound (G.unary {l = l} {t = t} {o = k} {e = e} q p) h =
        plain (star_place l) e (prefix_is l t k q) (sound p (quiet t (unary_quiet l t k q) (rest h)))
    sound (G.compare {ts = ts} {us = us} p c) h = (sound p (front ts us h), compares_sound c (back ts us (expression_closes p) h))
    sound (G.binary {l = l} {ts = ts} {us = us} {a = a} {b = b} {o = k} t q p r) h = (
      plain (star_place l) a (left_is l t k q) (sound p (front ts (t ∷ us) h)),
      plain (star_place (below l)) b (right_is l t k q)
          (sound r (quiet t (left_quiet l t k q) (following ts us t (expression_closes p) h))),
    )
    sound (G.power {ts = ts} {us = us} p q) h =
        (sound p (front ts (Op DoubleStar ∷ us) h), sound q (following ts us (Op DoubleStar) (expression_closes p) h))
    sound (G.await p) h = sound p (rest h)
    sound (G.attribute {ts = ts} x p) h =
        (sound p (front ts (Op Dot ∷ (Ident x ∷ [])) h), first (following ts (Ident x ∷ []) (Op Dot) (expression_closes p) h))
    sound (G.call {ts = ts} {us = us} {f = f} {e = e} {es = es} p c q) h =
        called_sound false f e es q (sound p (front ts (Op LPar ∷ (us ++ (Op RPar ∷ []))) h))
        (listing_fine c (front us (Op RPar ∷ []) (following ts (us ++ (Op RPar ∷ [])) (Op LPar) (expression_closes p) h)))
    sound (G.call_generator {ts = ts} {us = us} {vs = vs} p q c) h =
        let more = following ts (us ++ (vs ++ (Op RPar ∷ []))) (Op LPar) (expression_closes p) h in (
          sound p (front ts (Op LPar ∷ (us ++ (vs ++ (Op RPar ∷ [])))) h),
          (
            (
              sound q (front us (vs ++ (Op RPar ∷ [])) more),
              comps_sound c (front vs (Op RPar ∷ []) (back us (vs ++ (Op RPar ∷ [])) (expression_closes q) more)),
            ),
            tt,
          ),
          tt,
        )
    sound (G.subscript {ts = ts} {us = us} p q) h = (
      sound p (front ts (Op LSqb ∷ (us ++ (Op RSqb ∷ []))) h),
      sound q (front us (Op RSqb ∷ []) (following ts (us ++ (Op RSqb ∷ [])) (Op LSqb) (expression_closes p) h)),
    )
    sound G.name h = first h
    sound (G.constant {t = t} {v = v} q) h = word_sound t v q
    sound G.number h = first h
    sound (G.strings {v = v} {w = w} vs q) h = joined_sound v w vs q (first h) (rest h)
    sound (G.joined_string {u = u} {ps = ps} p q z) h =
        (string_there p z h, string_values_sound 0 u (merged ps) (merged_sound 0 ps (literals_sound p h)))
    sound (G.group {ts = ts} p) h = sound p (front ts (Op RPar ∷ []) (rest h))
    sound (G.yield_group {ts = ts} p) h = yields_sound false p (front ts (Op RPar ∷ []) (rest (rest h)))
    sound G.empty_tuple h = tt
    sound (G.tuple {ts = ts} {us = us} {es = es} p c) h = (
      sound p (front ts (Op Comma ∷ (us ++ (Op RPar ∷ []))) (rest h)),
      singles_sound es (listing_fine c
          (front us (Op RPar ∷ []) (following ts (us ++ (Op RPar ∷ [])) (Op Comma) (expression_closes p) (rest h)))),
    )
    sound (G.generator_group {ts = ts} {us = us} p c) h = (
      sound p (front ts (us ++ (Op RPar ∷ [])) (rest h)),
      comps_sound c (front us (Op RPar ∷ []) (back ts (us ++ (Op RPar ∷ [])) (expression_closes p) (rest h))),
    )
    sound (G.list {ts = ts} {es = es} c) h = singles_sound es (listing_fine c (front ts (Op RSqb ∷ []) (rest h)))
    sound (G.list_comp {ts = ts} {us = us} p c) h = (
      sound p (front ts (us ++ (Op RSqb ∷ [])) (rest h)),
      comps_sound c (front us (Op RSqb ∷ []) (back ts (us ++ (Op RSqb ∷ [])) (expression_closes p) (rest h))),
    )
    sound (G.dict {ts = ts} {es = es} c) h = let fine = listing_fine c (front ts (Op RBrace ∷ []) (rest h)) in
        (keys_sound es fine, values_sound es fine)
    sound (G.dict_comp {ts = ts} {us = us} {vs = vs} p q c) h =
        let more = following ts (us ++ (vs ++ (Op RBrace ∷ []))) (Op Colon) (expression_closes p) (rest h) in (
          sound p (front ts (Op Colon ∷ (us ++ (vs ++ (Op RBrace ∷ [])))) (rest h)),
          sound q (front us (vs ++ (Op RBrace ∷ [])) more),
          comps_sound c (front vs (Op RBrace ∷ []) (back us (vs ++ (Op RBrace ∷ [])) (expression_closes q) more)),
        )
    sound (G.set {ts = ts} {e = e} {es = es} c) h = singles_sound (e ∷ es) (listing_fine c (front ts (Op RBrace ∷ []) (rest h)))
    sound (G.set_comp {ts = ts} {us = us} p c) h = (
      sound p (front ts (us ++ (Op RBrace ∷ [])) (rest h)),
      comps_sound c (front us (Op RBrace ∷ []) (back ts (us ++ (Op RBrace ∷ [])) (expression_closes p) (rest h))),
    )
    sound (G.subject_tuple {ts = ts} {us = us} {es = es} p c) h =
        (sound p (front ts (Op Comma ∷ us) h), singles_sound es (listing_fine c (following ts us (Op Comma) (expression_closes p) h)))
    sound (G.star_elem p) h = (refl, sound p (rest h))
    sound (G.star_slices p) h = ((refl, sound p (rest h)), tt)
    sound (G.parts {ts = ts} {us = us} {es = es} p c) h =
        (sound p (front ts (Op Comma ∷ us) h), singles_sound es (listing_fine c (following ts us (Op Comma) (expression_closes p) h)))
    sound (G.star_part p) h = (refl, sound p (rest h))
    sound (G.slice {ts = ts} {us = us} p q) h =
        (perhaps_sound p (front ts (Op Colon ∷ us) h), perhaps_sound q (following ts us (Op Colon) (perhaps_closes p) h), tt)
    sound (G.slice_step {ts = ts} {us = us} {vs = vs} p q r) h =
        let more = following ts (us ++ (Op Colon ∷ vs)) (Op Colon) (perhaps_closes p) h in (
          perhaps_sound p (front ts (Op Colon ∷ (us ++ (Op Colon ∷ vs))) h),
          perhaps_sound q (front us (Op Colon ∷ vs) more),
          perhaps_sound r (following us vs (Op Colon) (perhaps_closes q) more),
        )

    yields_sound : {ts : List Terminal} {e : Expr} (b : Bool) → G.Yields ts e → Said extent o ts → Sound extent here b e
    yields_sound b (G.yield_from p) h = sound p (rest h)
    yields_sound b (G.yield_some p) h = perhaps_sound p h

    perhaps_sound : {l : Level} {ts : List Terminal} {e : OptionalExpr} → G.Perhaps l ts e → Said extent o ts
        → SoundOptional extent here (star_place l) e
    perhaps_sound G.nothing h = tt
    perhaps_sound (G.something p) h = sound p h

    suffix_sound : {s : Option Exact} {ts : List Terminal} {e : OptionalExpr} → G.Suffix s ts e → Said extent o ts
        → SoundOptional extent here false e
    suffix_sound G.no_suffix h = tt
    suffix_sound (G.suffix p) h = sound p (rest h)

    chain_sound : {k : BoolOperator} {ts : List Terminal} {es : List Expr} → G.Chain k ts es → Said extent o ts → AllSound es
    chain_sound (G.last_link {o = k} {e = e} p) h = (plain (star_place (below (chain_level k))) e (below_plain k) (sound p h), tt)
    chain_sound (G.link {o = k} {ts = ts} {us = us} {e = e} p c) h = (
      plain (star_place (below (chain_level k))) e (below_plain k) (sound p (front ts (Word (chain_word k) ∷ us) h)),
      chain_sound c (following ts us (Word (chain_word k)) (expression_closes p) h),
    )

    compares_sound : {ts : List Terminal} {os : List Comparison} {es : List Expr} → G.Compares ts os es → Said extent o ts → AllSound es
    compares_sound (G.last_compare {ss = ss} {ts = ts} k p) h = (sound p (back ss ts (compared_closes k) h), tt)
    compares_sound (G.compares {ss = ss} {ts = ts} {us = us} k p c) h = let more = back ss (ts ++ us) (compared_closes k) h in
        (sound p (front ts us more), compares_sound c (back ts us (expression_closes p) more))

    pub listing_fine : {i : Item} {ts : List Terminal} {es : List Entry} → G.Listing i ts es → Said extent o ts → AllFine es
    listing_fine G.no_item h = tt
    listing_fine (G.last_item p) h = (piece_fine p h, tt)
    listing_fine (G.item {ts = ts} {us = us} p c) h =
        (piece_fine p (front ts (Op Comma ∷ us) h), listing_fine c (following ts us (Op Comma) (piece_closes p) h))

    piece_fine : {i : Item} {ts : List Terminal} {e : Entry} → G.Piece i ts e → Said extent o ts → Fine e
    piece_fine (G.single {l = l} {e = e} p) h = starred (star_place l) e (sound p h)
    piece_fine (G.pair {ts = ts} {us = us} p q) h =
        (sound p (front ts (Op Colon ∷ us) h), sound q (following ts us (Op Colon) (expression_closes p) h))
    piece_fine (G.pairs_of p) h = sound p (rest h)
    piece_fine (G.argument {e = e} p) h = starred false e (sound p h)
    piece_fine (G.star_argument p) h = sound p (rest h)
    piece_fine (G.keyword_argument p) h = (first h, sound p (rest (rest h)))
    piece_fine (G.double_argument p) h = sound p (rest h)
    piece_fine (G.parameter {ts = ts} {us = us} {a = a} p q) h =
        (first h, optional_starred a (suffix_sound p (front ts us (rest h))), suffix_sound q (back ts us (suffix_closes p) (rest h)))
    piece_fine G.slash h = tt
    piece_fine G.bare_star h = tt
    piece_fine (G.star_parameter {a = a} p) h = (first (rest h), optional_starred a (suffix_sound p (rest (rest h))))
    piece_fine (G.star_annotation p) h = (first (rest h), (refl, sound p (rest (rest (rest (rest h))))))
    piece_fine (G.double_parameter {a = a} p) h = (first (rest h), optional_starred a (suffix_sound p (rest (rest h))))

    comps_sound : {ts : List Terminal} {gs : List Comprehension} → G.Comps ts gs → Said extent o ts
        → SoundClauses extent here (comprehensions gs)
    comps_sound (G.one_comp c) h = comp_sound [] c h tt
    comps_sound (G.comps {ts = ts} {us = us} {gs = gs} c e) h =
        comp_sound gs c (front ts us h) (comps_sound e (back ts us (comp_closes c) h))

    comp_sound : {ts : List Terminal} {g : Comprehension} (gs : List Comprehension) → G.Comp ts g → Said extent o ts
        → SoundClauses extent here (comprehensions gs) → SoundClauses extent here (comprehensions (g ∷ gs))
    comp_sound gs (G.for_in c) h more = for_sound gs c (rest h) more
    comp_sound gs (G.async_for_in c) h more = for_sound gs c (rest (rest h)) more

    for_sound : {b : Bool} {ts : List Terminal} {g : Comprehension} (gs : List Comprehension) → G.ForIn b ts g → Said extent o ts
        → SoundClauses extent here (comprehensions gs) → SoundClauses extent here (comprehensions (g ∷ gs))
    for_sound gs (G.target_in {ts = ts} {us = us} {vs = vs} {t = t} {s = s} p q r c) h more =
        let others = following ts (us ++ vs) (Word Key.In) (expression_closes p) h in (
          stored_sound true t s q (sound p (front ts (Word Key.In ∷ (us ++ vs)) h)),
          sound r (front us vs others),
          ifs_sound c (back us vs (expression_closes r) others),
          more,
        )

    ifs_sound : {ts : List Terminal} {es : List Expr} → G.Ifs ts es → Said extent o ts → AllSound es
    ifs_sound G.no_if h = tt
    ifs_sound (G.if_one {ts = ts} {us = us} p c) h =
        (sound p (front ts us (rest h)), ifs_sound c (back ts us (expression_closes p) (rest h)))

-- ---- Outside of f-strings, and in one or two; in the fields of the second one there is none.

within_three : (extent : Extent) (k m : ℕ) → SoundInside extent (k ∷ (m ∷ []))
within_three extent k m n ts e p h = absurd (first h)

within_two : (extent : Extent) (m : ℕ) → SoundInside extent (m ∷ [])
within_two extent m n ts e p h = sound extent (n ∷ (m ∷ [])) (within_three extent n m) p h

pub within_one : (extent : Extent) → SoundInside extent []
within_one extent n ts e p h = sound extent (n ∷ []) (within_two extent n) p h
