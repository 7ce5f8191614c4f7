-- A sign or a word at a place.
--
-- Carries: is_op, is_word. On: Views.
use Rattle.std.proofs.Common.{◌≡◌, ◌⊎◌, inl, inr, refl, sym, ap, ◌∙◌, ℕ, ◌+◌, ◌<◌, List, [], ◌∷◌, length, map, drop, drop-drop, Option}
use Rattle.std.proofs.Common.{Some, None, Bool, true, false, is_some, MatchBool, arith}
use Rattle.std.proofs.lemmas.Bool.{false≢true}
use Rattle.pylex_lexeme.specs.declared.kinds.Exact.{Exact}
use Rattle.pytoken.specs.declared.keywords.Keyword.{Keyword}
use Rattle.pytoken.specs.Terminals.{Terminal, Op, Word, Ident, Spelled}
use Rattle.pytoken.specs.declared.values.terminals.Terminal as given
use Rattle.pytoken.specs.TerminalOf.{terminal}
use Rattle.pygrammar.specs.Looks.{is_op, is_word, name_in}
use Rattle.pygrammar.specs.Reader.{on_some, on_first, on_name_with}
use Rattle.pygrammar.proofs.Callers.Terminals.{op_is, op_or_not, word_is, word_or_not}
use Rattle.pyparse_nodes.specs.Views.{Stands, IsNamed, IsNotNamed, seen, first_of, first_is}
use Rattle.pyparse_nodes.proofs.Callers.Places.{front}

-- what a test of the first terminal says, where it is known
tested : (ts : List given.Terminal) (at : ℕ) (t : Terminal) (f : Terminal → Option ℕ) → first_of (seen ts at) ≡ Some t → f t ≡ None
    → None ≡ first_is f (seen ts at)
tested ts at t f h n = sym (ap (λ o. on_some o f None) h ∙ n)

pub op_stands : (ts : List given.Terminal) (at : ℕ) (sign : Exact) (t : Terminal) (b : Bool) → at < length ts
    → first_of (seen ts at) ≡ Some t → b ≡ is_some (is_op sign t)
    → MatchBool b (Stands (Op sign) ts at) (None ≡ first_is (is_op sign) (seen ts at))
op_stands ts at sign t b w h q = go (op_or_not sign t) b q
  where
    go : (t ≡ Op sign) ⊎ (is_op sign t ≡ None) → (b : Bool) → b ≡ is_some (is_op sign t)
        → MatchBool b (Stands (Op sign) ts at) (None ≡ first_is (is_op sign) (seen ts at))
    go (inl e) true q = record { within = w; is = front ts at (Op sign) (h ∙ ap (λ z. Some z) e) }
    go (inl e) false q = absurd (false≢true (q ∙ ap (λ z. is_some (is_op sign z)) e ∙ ap (λ (o : Option ℕ). is_some o) (op_is sign)))
    go (inr n) true q = absurd (false≢true (sym (q ∙ ap (λ (o : Option ℕ). is_some o) n)))
    go (inr n) false q = tested ts at t (is_op sign) h n

pub word_stands : (ts : List given.Terminal) (at : ℕ) (word : Keyword) (t : Terminal) (b : Bool) → at < length ts
    → first_of (seen ts at) ≡ Some t → b ≡ is_some (is_word word t)
    → MatchBool b (Stands (Word word) ts at) (None ≡ first_is (is_word word) (seen ts at))
word_stands ts at word t b w h q = go (word_or_not word t) b q
  where
    go : (t ≡ Word word) ⊎ (is_word word t ≡ None) → (b : Bool) → b ≡ is_some (is_word word t)
        → MatchBool b (Stands (Word word) ts at) (None ≡ first_is (is_word word) (seen ts at))
    go (inl e) true q = record { within = w; is = front ts at (Word word) (h ∙ ap (λ z. Some z) e) }
    go (inl e) false q = absurd (false≢true (q ∙ ap (λ z. is_some (is_word word z)) e ∙ ap (λ (o : Option ℕ). is_some o) (word_is word)))
    go (inr n) true q = absurd (false≢true (sym (q ∙ ap (λ (o : Option ℕ). is_some o) n)))
    go (inr n) false q = tested ts at t (is_word word) h n

-- a name and a sign
pub named_stands : (ts : List given.Terminal) (at : ℕ) (x : List ℕ) (sign : Exact) → Some x ≡ first_is name_in (seen ts at)
    → Stands (Op sign) ts (at + 1) → IsNamed sign x ts at
named_stands ts at x sign h s =
    let w = ident (seen ts at) h in
    record {
      within = s.within;
      name = w.0;
      form = w.1;
      is = w.2 ∙ ap (λ r. Ident w.0 ∷ r) (drop-drop 1 at (map terminal ts) ∙ s.is
          ∙ ap (λ n. Op sign ∷ seen ts n) (omega arith));
    }
  where
    name : (t : Terminal) → Some x ≡ name_in t → (y : Spelled) × (y.form ≡ x) × (t ≡ Ident y)
    name (Ident y) h = (y, cc, refl)
    name (Op y) h = absurd (cc)
    name _ h = absurd (cc)

    ident : (r : List Terminal) → Some x ≡ first_is name_in r → (y : Spelled) × (y.form ≡ x) × (r ≡ Ident y ∷ drop 1 r)
    ident [] h = absurd (cc)
    ident (t ∷ r) h = let w = name t h in (w.0, w.1, ap (λ z. z ∷ r) w.2)

pub unnamed_sign : (ts : List given.Terminal) (at : ℕ) (sign : Exact)
    → None ≡ first_is (is_op sign) (seen ts (at + 1)) → IsNotNamed sign ts at
unnamed_sign ts at sign h = record { is = go (seen ts at) (drop-drop 1 at (map terminal ts)) }
  where
    other : (x : List ℕ) (r : List Terminal) → None ≡ first_is (is_op sign) r → None ≡ on_first (is_op sign) r (λ _ r2. Some x) None
    other x [] h = refl
    other x (t ∷ r) h = ap (λ (o : Option ℕ). on_some o (λ _. Some x) None) h

    go : (r : List Terminal) → drop 1 r ≡ seen ts (at + 1) → None ≡ on_name_with sign r (λ x r2. Some x) None
    go [] q = refl
    go (Ident x ∷ r) q = other x.form r (h ∙ ap (λ z. first_is (is_op sign) z) (sym q))
    go (Op y ∷ r) q = refl
    go (t ∷ r) q = refl

pub unnamed_first : (ts : List given.Terminal) (at : ℕ) (sign : Exact) → None ≡ first_is name_in (seen ts at) → IsNotNamed sign ts at
unnamed_first ts at sign h = record { is = go (seen ts at) h }
  where
    go : (r : List Terminal) → None ≡ first_is name_in r → None ≡ on_name_with sign r (λ x r2. Some x) None
    go [] q = refl
    go (Ident x ∷ r) q = absurd (cc)
    go (Op y ∷ r) q = refl
    go (t ∷ r) q = refl
