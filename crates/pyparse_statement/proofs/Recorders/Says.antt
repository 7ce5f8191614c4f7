-- What is read of names, dots and an `as`, which have no places of their own, is derived.
--
-- Carries: global, nonlocal, import_from, dotted_aliases, name_aliases, except_of. On: LineReader.
use Rattle.std.proofs.Common.{◌≡◌, ◌⊎◌, inl, inr, refl, sym, ap, subst, ◌∙◌, ℕ, zero, suc, ◌+◌, ◌≤◌, arith, List, [], ◌∷◌, ◌++◌, length}
use Rattle.std.proofs.Common.{Option, Some, None, append_assoc, length-append}
use Rattle.pylex_lexeme.specs.declared.kinds.Exact.{Exact}
use Rattle.pylex_lexeme.specs.declared.kinds.Exact.TheVariants as Sign
use Rattle.pytoken.specs.declared.keywords.Keyword.{Keyword}
use Rattle.pytoken.specs.declared.keywords.Keyword.TheVariants as Key
use Rattle.pytree_node.specs.Trees.{Alias, Identifier}
use Rattle.pytoken.specs.Terminals.{Spelled, Terminal, Op, Word, Ident}
use Rattle.pytoken.specs.declared.values.terminals.Terminal as given
use Rattle.pygrammar.specs.Looks.{is_op, is_word, name_in}
use Rattle.pygrammar.specs.Reader.{Answer, Found, NoForm, TooDeep, and_then, on_some, on_first}
use Rattle.pygrammar.specs.Forms as F
use Rattle.pygrammar.specs.LineReader.{always, commas, commas_of, dotted, dotted_alias, name_alias, read_as, read_dots, read_dotted}
use Rattle.pygrammar.specs.LineReader.{read_name}
use Rattle.pygrammar.proofs.Callers.Terminals.{op_or_not, word_or_not}
use Rattle.pyparse_nodes.specs.Answers.{PartAt}
use Rattle.pyparse_nodes.specs.Views.{seen}
use Rattle.pyplaces.specs.PlacedForms.{Bare}
use Rattle.pyparse_statement.proofs.Callers.Looks.{At, bare_at}

-- ---- What an answer says, where there is one.
data Says {A : Type 0} (P : A → List Terminal → Type 0) : Answer A → Type 0 where
  found : {a : A} {r : List Terminal} → P a r → Says P (Found a r)
  no_form : Says P NoForm
  deep : Says P TooDeep

says_then : {A B : Type 0} {P : A → List Terminal → Type 0} {Q : B → List Terminal → Type 0} (x : Answer A)
    (k : A → List Terminal → Answer B) → Says P x → ((a : A) (r : List Terminal) → P a r → Says Q (k a r)) → Says Q (and_then x k)
says_then x k (found {a = a} {r = r} p) h = h a r p
says_then x k no_form h = no_form
says_then x k deep h = deep

heads : {t u : Terminal} {r s : List Terminal} → t ∷ r ≡ u ∷ s → t ≡ u
heads h = cc

some_none : {A : Type 0} (a : A) → ◌≡◌ {A = Option A} (Some a) None → ⊥
some_none a h = absurd (cc)

says_first : {A B : Type 0} {Q : B → List Terminal → Type 0} (f : Terminal → Option A) (i : List Terminal)
    (k : A → List Terminal → Answer B) (x : Answer B)
    → ((t : Terminal) (a : A) (s : List Terminal) → f t ≡ Some a → i ≡ t ∷ s → Says Q (k a s)) → Says Q x → Says Q (on_first f i k x)
says_first f [] k x h g = g
says_first {A} {B} {Q} f (t ∷ s) k x h g = go (f t) refl
  where
    go : (o : Option A) → f t ≡ o → Says Q (on_some o (λ a. k a s) x)
    go (Some a) e = h t a s e refl
    go None e = g

says_op : {B : Type 0} {Q : B → List Terminal → Type 0} (y : Exact) (i : List Terminal) (k : ℕ → List Terminal → Answer B)
    (x : Answer B) → ((a : ℕ) (s : List Terminal) → i ≡ Op y ∷ s → Says Q (k a s)) → Says Q x → Says Q (on_first (is_op y) i k x)
says_op {B} {Q} y i k x h g =
    says_first (is_op y) i k x (λ t a s f q. elim (op_or_not y t) as (λ _. Says Q (k a s)) [
      | inl e ↦ h a s (q ∙ ap (λ z. z ∷ s) e)
      | inr n ↦ absurd (some_none a (sym f ∙ n))
    ]) g

says_word : {B : Type 0} {Q : B → List Terminal → Type 0} (y : Keyword) (i : List Terminal) (k : ℕ → List Terminal → Answer B)
    (x : Answer B) → ((a : ℕ) (s : List Terminal) → i ≡ Word y ∷ s → Says Q (k a s)) → Says Q x → Says Q (on_first (is_word y) i k x)
says_word {B} {Q} y i k x h g =
    says_first (is_word y) i k x (λ t a s f q. elim (word_or_not y t) as (λ _. Says Q (k a s)) [
      | inl e ↦ h a s (q ∙ ap (λ z. z ∷ s) e)
      | inr n ↦ absurd (some_none a (sym f ∙ n))
    ]) g

name_is : (t : Terminal) (x : Identifier) → name_in t ≡ Some x → (y : Spelled) × (t ≡ Ident y) × (y.form ≡ x)
name_is (Ident y) x h = (y, refl, cc)
name_is _ x h = absurd (cc)

says_name : {B : Type 0} {Q : B → List Terminal → Type 0} (i : List Terminal) (k : List ℕ → List Terminal → Answer B) (x : Answer B)
    → ((a : Spelled) (s : List Terminal) → i ≡ Ident a ∷ s → Says Q (k a.form s)) → Says Q x → Says Q (on_first name_in i k x)
says_name {B} {Q} i k x h g = says_first name_in i k x (λ t a s f q. let w = name_is t a f in
    subst (λ z. Says Q (k z s)) w.2 (h w.0 s (q ∙ ap (λ z. z ∷ s) w.1))) g

says_found : {A : Type 0} {P : A → List Terminal → Type 0} (a : A) (r : List Terminal) → Says P (Found a r) → P a r
says_found a r (found p) = p

-- ---- Parts.
headed : {i s m : List Terminal} (t : Terminal) → i ≡ t ∷ s → s ≡ m → i ≡ t ∷ m
headed t q p = q ∙ ap (λ z. t ∷ z) p

joins : {i m : List Terminal} (ts us r : List Terminal) → i ≡ ts ++ m → m ≡ us ++ r → i ≡ (ts ++ us) ++ r
joins ts us r q p = q ∙ (ap (λ z. ts ++ z) p ∙ sym (append_assoc ts us r))

as_sound : (i : List Terminal) → Says (At F.As i) (read_as i)
as_sound i = says_word Key.As i _ _
    (λ _ s q. says_name s _ _ (λ x u v. found (Word Key.As ∷ (Ident x ∷ []), headed (Word Key.As) q v, F.as_name)) no_form)
    (found ([], refl, F.no_as))

name_sound : (i : List Terminal) → Says (At F.Name i) (read_name i)
name_sound i = says_name i _ _ (λ x s q. found (Ident x ∷ [], q, F.name)) no_form

names_sound : (n : ℕ) (i : List Terminal) → Says (At (F.Commas Identifier F.Name) i) (commas read_name always n i)
names_sound zero i = no_form
names_sound (suc n) i = says_then _ _ (name_sound i) (λ a r p. says_op Sign.Comma r _ _
    (λ _ s q. says_then _ _ (names_sound n s) (λ as_ r2 y. found (
      p.0 ++ (Op Sign.Comma ∷ y.0),
      joins p.0 (Op Sign.Comma ∷ y.0) _ p.1 (headed (Op Sign.Comma) q y.1),
      F.comma p.2 y.2,
    )))
    (found (p.0, p.1, F.alone p.2)))

dotted_sound : (n : ℕ) (i : List Terminal) → Says (At F.Dotted i) (dotted n i)
dotted_sound zero i = no_form
dotted_sound (suc n) i = says_name i _ _ (λ x s q. says_op Sign.Dot s _ _
    (λ _ u v. says_then _ _ (dotted_sound n u)
    (λ y r p. found (Ident x ∷ (Op Sign.Dot ∷ p.0), headed (Ident x) q (headed (Op Sign.Dot) v p.1), F.dot_name p.2)))
    (found (Ident x ∷ [], q, F.one_name))) no_form

dotted_alias_sound : (i : List Terminal) → Says (At F.DottedAlias i) (dotted_alias i)
dotted_alias_sound i =
    says_then _ _ (dotted_sound (suc (length i)) i)
    (λ x r p. says_then _ _ (as_sound r) (λ a r1 y. found (p.0 ++ y.0, joins p.0 y.0 _ p.1 y.1, F.dotted_as p.2 y.2)))

name_alias_sound : (i : List Terminal) → Says (At F.NameAlias i) (name_alias i)
name_alias_sound i =
    says_name i _ _ (λ x s q. says_then _ _ (as_sound s) (λ a r1 y. found (Ident x ∷ y.0, headed (Ident x) q y.1, F.name_as y.2))) no_form

dots_sound : (i : List Terminal) → Says (At F.Dots i) (read_dots i)
dots_sound (Op Sign.Dot ∷ r) = says_then _ _ (dots_sound r) (λ n r1 p. found (Op Sign.Dot ∷ p.0, ap (λ z. Op Sign.Dot ∷ z) p.1, F.dot p.2))
dots_sound (Op Sign.Ellipsis ∷ r) =
    says_then _ _ (dots_sound r) (λ n r1 p. found (Op Sign.Ellipsis ∷ p.0, ap (λ z. Op Sign.Ellipsis ∷ z) p.1, F.dots p.2))
dots_sound (Op _ ∷ r) = found ([], refl, F.no_dot)
dots_sound r = found ([], refl, F.no_dot)

-- ---- At a place.
module _ {ts : List given.Terminal} {at : ℕ} where
  pub as_bare : {a : Option Identifier} {n : ℕ} → PartAt ts at (read_as (seen ts at)) a n
      → Bare (λ us. F.As us a) (seen ts at) at (seen ts n) n
  as_bare {a} {n} p = bare_at F.As ts p.ahead p.within
      (says_found a (seen ts n) (subst (Says (At F.As (seen ts at))) p.is (as_sound (seen ts at))))

  pub names_bare : {xs : List Identifier} {n : ℕ} → PartAt ts at (commas_of read_name always (seen ts at)) xs n
      → Bare (λ us. F.Commas Identifier F.Name us xs) (seen ts at) at (seen ts n) n
  names_bare {xs} {n} p = bare_at (F.Commas Identifier F.Name) ts p.ahead p.within (says_found xs (seen ts n)
      (subst (Says (At (F.Commas Identifier F.Name) (seen ts at))) p.is (names_sound (suc (length (seen ts at))) (seen ts at))))

  pub dotted_bare : {x : Identifier} {n : ℕ} → PartAt ts at (read_dotted (seen ts at)) x n
      → Bare (λ us. F.Dotted us x) (seen ts at) at (seen ts n) n
  dotted_bare {x} {n} p = bare_at F.Dotted ts p.ahead p.within (says_found x (seen ts n)
      (subst (Says (At F.Dotted (seen ts at))) p.is (dotted_sound (suc (length (seen ts at))) (seen ts at))))

  pub dots_bare : {k n : ℕ} → PartAt ts at (read_dots (seen ts at)) k n → Bare (λ us. F.Dots us k) (seen ts at) at (seen ts n) n
  dots_bare {k} {n} p = bare_at F.Dots ts p.ahead p.within (says_found k (seen ts n)
      (subst (Says (At F.Dots (seen ts at))) p.is (dots_sound (seen ts at))))

  pub dotted_alias_at : {a : Alias} {n : ℕ} → PartAt ts at (dotted_alias (seen ts at)) a n → At F.DottedAlias (seen ts at) a (seen ts n)
  dotted_alias_at {a} {n} p =
      says_found a (seen ts n) (subst (Says (At F.DottedAlias (seen ts at))) p.is (dotted_alias_sound (seen ts at)))

  pub name_alias_at : {a : Alias} {n : ℕ} → PartAt ts at (name_alias (seen ts at)) a n → At F.NameAlias (seen ts at) a (seen ts n)
  name_alias_at {a} {n} p =
      says_found a (seen ts n) (subst (Says (At F.NameAlias (seen ts at))) p.is (name_alias_sound (seen ts at)))
