-- Where a list of terminals that closes the f-strings that it opens leaves off, a token ends.
--
-- Carries: terminals_in, Parts, cut, for LineSpans. On: TokenLines.
use Rattle.std.proofs.Common.{◌≡◌, refl, sym, ap, ◌∙◌, ◌+◌, arith, List, [], ◌∷◌, ◌++◌, append-nil, subst}
use Rattle.std.specs.List.{flat_map}
use Rattle.pytoken.specs.Terminals.{Terminal, terminals_of}
use Rattle.pytoken.specs.Tokens.{Token}
use Rattle.pygrammar.specs.OpenStrings.{Open, open_after_all, token_count}
use Rattle.pygrammar.proofs.Callers.OpenStrings.{after_append, count_append, terminals_counted, terminals_close}
use Rattle.pyplaces.proofs.Order.TokenLines.{IsSound, AreSound}

abbrev pub terminals_in : List Token → List Terminal
terminals_in ts = flat_map (λ t. terminals_of t.kind t.text) ts

-- tokens in two parts, each of these terminals
pub record Parts (ts : List Token) (p q : List Terminal) : Type 0 where
  pub front : List Token
  pub back : List Token
  pub whole : ts ≡ front ++ back
  pub front_is : terminals_in front ≡ p
  pub back_is : terminals_in back ≡ q

-- ---- One list in two ways in two parts.

data Meet (a b p q : List Terminal) : Type 0 where
  inside : (m : List Terminal) → a ≡ p ++ m → q ≡ m ++ b → Meet a b p q
  beyond : (m : List Terminal) → p ≡ a ++ m → b ≡ m ++ q → Meet a b p q

one_more : {a b p q : List Terminal} (x : Terminal) → Meet a b p q → Meet (x ∷ a) b (x ∷ p) q
one_more x (inside m e f) = inside m (ap (λ z. x ∷ z) e) f
one_more x (beyond m e f) = beyond m (ap (λ z. x ∷ z) e) f

heads : {x y : Terminal} {r s : List Terminal} → x ∷ r ≡ y ∷ s → x ≡ y
heads e = cc

tails : {x y : Terminal} {r s : List Terminal} → x ∷ r ≡ y ∷ s → r ≡ s
tails e = cc

meet : (a b p q : List Terminal) → a ++ b ≡ p ++ q → Meet a b p q
meet [] b p q e = beyond p refl e
meet (x ∷ a) b [] q e = inside (x ∷ a) refl (sym e)
meet (x ∷ a) b (y ∷ p) q e = subst (λ z. Meet (x ∷ a) b (z ∷ p) q) (heads e) (one_more x (meet a b p q (tails e)))

-- ---- Cuts of tokens.

counts_none : (m : List Terminal) → token_count m ≡ 0 → m ≡ []
counts_none [] h = refl
counts_none (t ∷ m) h = absurd (omega (arith, h))

-- a front of a token that closes what it opens is the whole of it
whole_token : (t : Token) → IsSound t → (y : Terminal) (p m : List Terminal) → open_after_all [] (y ∷ p) ≡ []
    → terminals_of t.kind t.text ≡ (y ∷ p) ++ m → m ≡ []
whole_token t sound y p m closes e =
    let one : token_count (terminals_of t.kind t.text) ≡ 1 = terminals_counted t.kind t.text sound.faultless in
    let parts : token_count ((y ∷ p) ++ m) ≡ token_count (y ∷ p) + token_count m = count_append (y ∷ p) m closes in
    let same : token_count (terminals_of t.kind t.text) ≡ token_count ((y ∷ p) ++ m) = ap token_count e in
    counts_none m (omega (arith, one, parts, same))

pub cut : (ts : List Token) → AreSound ts → (p q : List Terminal)
    → open_after_all [] p ≡ [] → terminals_in ts ≡ p ++ q → Parts ts p q
cut [] h [] q closes e = record { front = []; back = []; whole = refl; front_is = refl; back_is = e }
cut [] h (y ∷ p) q closes e = absurd (let e : [] ≡ y ∷ (p ++ q) = e in cc)
cut (t ∷ ts) h [] q closes e = record { front = []; back = t ∷ ts; whole = refl; front_is = refl; back_is = e }
cut (t ∷ ts) h (y ∷ p) q closes e =
    by (meet (terminals_of t.kind t.text) (terminals_in ts) (y ∷ p) q e) (λ m. cut ts h.1 m q)
  where
    own : List Terminal
    own = terminals_of t.kind t.text

    by : Meet own (terminals_in ts) (y ∷ p) q
        → ((m : List Terminal) → open_after_all [] m ≡ [] → terminals_in ts ≡ m ++ q → Parts ts m q) → Parts (t ∷ ts) (y ∷ p) q
    by (inside m e f) more =
        let none = whole_token t h.0 y p m closes e in
        record {
          front = t ∷ [];
          back = ts;
          whole = refl;
          front_is = append-nil own ∙ e ∙ ap (λ z. (y ∷ p) ++ z) none ∙ append-nil (y ∷ p);
          back_is = sym (f ∙ ap (λ z. z ++ terminals_in ts) none);
        }
    by (beyond m e f) more =
        let shut : open_after_all [] own ≡ [] = terminals_close t.kind t.text [] in
        let rest : open_after_all [] m ≡ [] =
        ap (λ (o : Open). open_after_all o m) (sym shut) ∙ sym (after_append [] own m) ∙ ap (open_after_all []) (sym e) ∙ closes in
        let r = more m rest f in
        record {
          front = t ∷ r.front;
          back = r.back;
          whole = ap (λ z. t ∷ z) r.whole;
          front_is = ap (λ z. own ++ z) r.front_is ∙ sym e;
          back_is = r.back_is;
        }
