-- Tests on one terminal: what they say of it.
--
-- Carries: op_is, op_or_not, word_is, word_or_not, for Terminals; heads, some_none, for Says, Room, CapsBrackets and 5 more.
use Rattle.std.proofs.Common.{◌≡◌, ◌⊎◌, inl, inr, refl, sym, ap, ◌∙◌, ℕ, ◌≤◌, ◌<◌, arith, List, [], ◌∷◌, ◌++◌, Option, Some, None, Bool}
use Rattle.std.proofs.Common.{true, false, cond, ◌==◌}
use Rattle.std.proofs.lemmas.Bool.{eqb-true}
use Rattle.pylex_lexeme.specs.declared.kinds.Exact.{Exact}
use Rattle.pylex_lexeme.specs.declared.kinds.Exact.TheVariants.{LPar, RPar, LSqb, RSqb, LBrace, RBrace, Colon, Comma, Semi, Plus, Minus}
use Rattle.pylex_lexeme.specs.declared.kinds.Exact.TheVariants.{Star, Slash, VBar, Amper, Less, Greater, Equal, Dot, Percent, EqEqual}
use Rattle.pylex_lexeme.specs.declared.kinds.Exact.TheVariants.{NotEqual, LessEqual, GreaterEqual, Tilde, Circumflex, LeftShift, RightShift}
use Rattle.pylex_lexeme.specs.declared.kinds.Exact.TheVariants.{DoubleStar, PlusEqual, MinEqual, StarEqual, SlashEqual, PercentEqual}
use Rattle.pylex_lexeme.specs.declared.kinds.Exact.TheVariants.{AmperEqual, VBarEqual, CircumflexEqual, LeftShiftEqual, RightShiftEqual}
use Rattle.pylex_lexeme.specs.declared.kinds.Exact.TheVariants.{DoubleStarEqual, DoubleSlash, DoubleSlashEqual, At, AtEqual, RArrow}
use Rattle.pylex_lexeme.specs.declared.kinds.Exact.TheVariants.{Ellipsis, ColonEqual}
use Rattle.pytoken.specs.declared.keywords.Keyword.{Keyword}
use Rattle.pytoken.specs.declared.keywords.Keyword.TheVariants as Key
use Rattle.pytree_node.specs.Values.{Value}
use Rattle.pytoken.specs.Terminals.{Spelled, Terminal, Op, Word, Ident, Literal, FormattedBegin}
use Rattle.pygrammar.specs.Looks.{exact_number, keyword_number, is_op, is_word, name_in, literal_in, is_formatted_begin}
use Rattle.pygrammar.specs.Reader.{on_some, on_first, on_name_with}
use Rattle.pygrammar.specs.Precedence.{lead, following, infix_rank}

-- ---- Lists and options of terminals.
pub heads : {t u : Terminal} {r s : List Terminal} → t ∷ r ≡ u ∷ s → t ≡ u
heads q = cc

pub some_none : {A : Type 0} (a : A) → ◌≡◌ {A = Option A} (Some a) None → ⊥
some_none a h = absurd (cc)

-- ---- Tests.
abbrev exact_at : ℕ → Exact
exact_at n = cond (n == 0) LPar
    (cond (n == 1) RPar (cond (n == 2) LSqb
    (cond (n == 3) RSqb (cond (n == 4) LBrace
    (cond (n == 5) RBrace
    (cond (n == 6) Colon
    (cond (n == 7) Comma
    (cond (n == 8) Semi (cond (n == 9) Plus
    (cond (n == 10) Minus
    (cond (n == 11) Star
    (cond (n == 12) Slash
    (cond (n == 13) VBar
    (cond (n == 14) Amper
    (cond (n == 15) Less
    (cond (n == 16) Greater
    (cond (n == 17) Equal
    (cond (n == 18) Dot (cond (n == 19) Percent
    (cond (n == 20) EqEqual
    (cond (n == 21) NotEqual
    (cond (n == 22) LessEqual
    (cond (n == 23) GreaterEqual
    (cond (n == 24) Tilde
    (cond (n == 25) Circumflex
    (cond (n == 26) LeftShift
    (cond (n == 27) RightShift
    (cond (n == 28) DoubleStar
    (cond (n == 29) PlusEqual
    (cond (n == 30) MinEqual
    (cond (n == 31) StarEqual
    (cond (n == 32) SlashEqual
    (cond (n == 33) PercentEqual
    (cond (n == 34) AmperEqual
    (cond (n == 35) VBarEqual
    (cond (n == 36) CircumflexEqual
    (cond (n == 37) LeftShiftEqual
    (cond (n == 38) RightShiftEqual
    (cond (n == 39) DoubleStarEqual
    (cond (n == 40) DoubleSlash
    (cond (n == 41) DoubleSlashEqual
    (cond (n == 42) At (cond (n == 43) AtEqual
    (cond (n == 44) RArrow (cond (n == 45) Ellipsis (ColonEqual))))))))))))))))))))))))))))))))))))))))))))))

exact_back : (x : Exact) → exact_at (exact_number x) ≡ x
exact_back LPar = refl
exact_back _ = refl

exact_same : (x y : Exact) → exact_number x ≡ exact_number y → x ≡ y
exact_same x y h = sym (exact_back x) ∙ ap exact_at h ∙ exact_back y

abbrev keyword_at : ℕ → Keyword
keyword_at n = cond (n == 0) Key.False
    (cond (n == 1) Key.None
    (cond (n == 2) Key.True
    (cond (n == 3) Key.And
    (cond (n == 4) Key.As
    (cond (n == 5) Key.Assert
    (cond (n == 6) Key.Async
    (cond (n == 7) Key.Await
    (cond (n == 8) Key.Break
    (cond (n == 9) Key.Class
    (cond (n == 10) Key.Continue
    (cond (n == 11) Key.Def
    (cond (n == 12) Key.Del
    (cond (n == 13) Key.Elif
    (cond (n == 14) Key.Else
    (cond (n == 15) Key.Except
    (cond (n == 16) Key.Finally
    (cond (n == 17) Key.For
    (cond (n == 18) Key.From
    (cond (n == 19) Key.Global
    (cond (n == 20) Key.If
    (cond (n == 21) Key.Import
    (cond (n == 22) Key.In
    (cond (n == 23) Key.Is
    (cond (n == 24) Key.Lambda
    (cond (n == 25) Key.Nonlocal
    (cond (n == 26) Key.Not
    (cond (n == 27) Key.Or
    (cond (n == 28) Key.Pass
    (cond (n == 29) Key.Raise
    (cond (n == 30) Key.Return
    (cond (n == 31) Key.Try (cond (n == 32) Key.While (cond (n == 33) Key.With (Key.Yield))))))))))))))))))))))))))))))))))

keyword_back : (x : Keyword) → keyword_at (keyword_number x) ≡ x
keyword_back Key.False = refl
keyword_back _ = refl

keyword_same : (x y : Keyword) → keyword_number x ≡ keyword_number y → x ≡ y
keyword_same x y h = sym (keyword_back x) ∙ ap keyword_at h ∙ keyword_back y

pub op_or_not : (x : Exact) (t : Terminal) → (t ≡ Op x) ⊎ (is_op x t ≡ None)
op_or_not x (Op y) = go (exact_number y == exact_number x) refl
  where
    go : (b : Bool) → (exact_number y == exact_number x) ≡ b → (Op y ≡ Op x) ⊎ (◌≡◌ {A = Option ℕ} (cond b (Some 0) None) None)
    go true h = inl (ap Op (exact_same y x (eqb-true _ _ h)))
    go false h = inr refl
op_or_not x _ = inr refl

pub op_is : (x : Exact) → is_op x (Op x) ≡ Some 0
op_is LPar = refl
op_is _ = refl

pub no_op : (f : Terminal → ℕ) (x : Exact) (t : Terminal) → (f t ≡ f (Op x) → ⊥) → is_op x t ≡ None
no_op f x t h = elim (op_or_not x t) [ inl e ↦ absurd (h (ap f e)) | inr q ↦ q ]

pub word_or_not : (x : Keyword) (t : Terminal) → (t ≡ Word x) ⊎ (is_word x t ≡ None)
word_or_not x (Word y) = go (keyword_number y == keyword_number x) refl
  where
    go : (b : Bool) → (keyword_number y == keyword_number x) ≡ b → (Word y ≡ Word x) ⊎ (◌≡◌ {A = Option ℕ} (cond b (Some 0) None) None)
    go true h = inl (ap Word (keyword_same y x (eqb-true _ _ h)))
    go false h = inr refl
word_or_not x _ = inr refl

pub word_is : (x : Keyword) → is_word x (Word x) ≡ Some 0
word_is Key.As = refl
word_is _ = refl

pub no_word : (f : Terminal → ℕ) (x : Keyword) (t : Terminal) → (f t ≡ f (Word x) → ⊥) → is_word x t ≡ None
no_word f x t h = elim (word_or_not x t) [ inl e ↦ absurd (h (ap f e)) | inr q ↦ q ]

-- the rank of the level at which a terminal carries on what stands before it
abbrev grip_else : Terminal → ℕ
grip_else (Op Equal) = 1
grip_else (Op Comma) = 3
grip_else (Word Key.From) = 4
grip_else (Op Colon) = 5
grip_else (Op ColonEqual) = 8
grip_else (Word Key.If) = 9
grip_else (Op Dot) = 23
grip_else (Op LPar) = 23
grip_else (Op LSqb) = 23
grip_else (Literal v) = 25
grip_else FormattedBegin = 25
grip_else _ = 0

abbrev pub grip : Terminal → ℕ
grip t = on_some (following t) infix_rank (grip_else t)

abbrev pub grip_of : List Terminal → ℕ
grip_of [] = 0
grip_of (t ∷ ts) = grip t

abbrev pub lead_of : List Terminal → ℕ
lead_of [] = 0
lead_of (t ∷ ts) = lead t

pub lead_front : (ts us : List Terminal) (n : ℕ) → 0 < n → n ≤ lead_of ts → n ≤ lead_of (ts ++ us)
lead_front [] us n p h = absurd (omega (arith, p, h))
lead_front (t ∷ ts) us n p h = h

-- a first terminal that a test refuses
pub miss_op : {A : Type 0} (x : Exact) (r : List Terminal) (hit : ℕ → List Terminal → A) (other : A) → (grip_of r ≡ grip (Op x) → ⊥)
    → on_first (is_op x) r hit other ≡ other
miss_op x [] hit other h = refl
miss_op x (t ∷ r) hit other h = ap (λ o. on_some o (λ a. hit a r) other) (no_op grip x t h)

pub pass_op : {A : Type 0} (x : Exact) (ts us : List Terminal) (hit : ℕ → List Terminal → A) (other : A) → lead (Op x) < lead_of ts
    → on_first (is_op x) (ts ++ us) hit other ≡ other
pass_op x [] us hit other h = absurd (omega (arith, h))
pass_op x (t ∷ r) us hit other h = ap (λ o. on_some o (λ a. hit a (r ++ us)) other) (no_op lead x t (λ e. omega (arith, e, h)))

pub pass_op_not : {A : Type 0} (x : Exact) (ts us : List Terminal) (hit : ℕ → List Terminal → A) (other : A) → 0 < lead_of ts
    → (lead_of ts ≡ lead (Op x) → ⊥) → on_first (is_op x) (ts ++ us) hit other ≡ other
pass_op_not x [] us hit other h k = absurd (omega (arith, h))
pass_op_not x (t ∷ r) us hit other h k = ap (λ o. on_some o (λ a. hit a (r ++ us)) other) (no_op lead x t k)

pub hit_op : {A : Type 0} (x : Exact) (r : List Terminal) (hit : ℕ → List Terminal → A) (other : A)
    → on_first (is_op x) (Op x ∷ r) hit other ≡ hit 0 r
hit_op x r hit other = ap (λ o. on_some o (λ a. hit a r) other) (op_is x)

pub miss_word : {A : Type 0} (x : Keyword) (r : List Terminal) (hit : ℕ → List Terminal → A) (other : A) → (grip_of r ≡ grip (Word x) → ⊥)
    → on_first (is_word x) r hit other ≡ other
miss_word x [] hit other h = refl
miss_word x (t ∷ r) hit other h = ap (λ o. on_some o (λ a. hit a r) other) (no_word grip x t h)

pub pass_word : {A : Type 0} (x : Keyword) (ts us : List Terminal) (hit : ℕ → List Terminal → A) (other : A) → lead (Word x) < lead_of ts
    → on_first (is_word x) (ts ++ us) hit other ≡ other
pass_word x [] us hit other h = absurd (omega (arith, h))
pass_word x (t ∷ r) us hit other h = ap (λ o. on_some o (λ a. hit a (r ++ us)) other) (no_word lead x t (λ e. omega (arith, e, h)))

pub miss_name : {A : Type 0} (r : List Terminal) (hit : List ℕ → List Terminal → A) (other : A) → lead_of r < 24
    → on_first name_in r hit other ≡ other
miss_name [] hit other h = refl
miss_name (Ident x ∷ r) hit other h = absurd (omega (arith, h))
miss_name (_ ∷ r) hit other h = refl

pub miss_name_with : {A : Type 0} (s : Exact) (i : List Terminal) (hit : List ℕ → List Terminal → A) (other : A)
    → ((x : Spelled) (us : List Terminal) → i ≡ Ident x ∷ (Op s ∷ us) → ⊥) → on_name_with s i hit other ≡ other
miss_name_with s [] hit other h = refl
miss_name_with s (Ident x ∷ []) hit other h = refl
miss_name_with s (Ident x ∷ (t ∷ r)) hit other h = elim (op_or_not s t) [
  | inl e ↦ absurd (h x r (ap (λ z. Ident x ∷ (z ∷ r)) e))
  | inr q ↦ ap (λ o. on_some o (λ a. hit x.form r) other) q
]
miss_name_with s (_ ∷ r) hit other h = refl

-- and no literal
pub miss_literal : {A : Type 0} (r : List Terminal) (hit : Value → List Terminal → A) (other : A) → grip_of r ≤ 24
    → on_first literal_in r hit other ≡ other
miss_literal [] hit other h = refl
miss_literal (Literal v ∷ r) hit other h = absurd (omega (arith, h))
miss_literal (_ ∷ r) hit other h = refl

pub miss_formatted : {A : Type 0} (r : List Terminal) (hit : ℕ → List Terminal → A) (other : A) → grip_of r ≤ 24
    → on_first is_formatted_begin r hit other ≡ other
miss_formatted [] hit other h = refl
miss_formatted (FormattedBegin ∷ r) hit other h = absurd (omega (arith, h))
miss_formatted (_ ∷ r) hit other h = refl
