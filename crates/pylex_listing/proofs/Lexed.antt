-- A text's cut, lexeme by lexeme.
--
-- Carries: Lister::new. On: Full.
use Rattle.std.proofs.Common.{◌≡◌, ℕ, ◌-◌, ◌≤◌, ◌<◌, zero, suc, Bool, true, false, is_some, ◌⊎◌, ⊎_elim, List, [], ◌∷◌, ◌++◌, length, take}
use Rattle.std.proofs.Common.{drop, refl, ap, ◌∙◌, sym, subst, arith, Option, Some, None, append_assoc, length-append, length-take}
use Rattle.std.specs.Prelude.{option_map}
use Rattle.std.specs.List.{flat_map}
use Rattle.std.proofs.lemmas.List.{take-append-drop}
use Rattle.std.proofs.lemmas.Bool.{cases_Bool}
use Rattle.pylex_lexeme.specs.declared.lexeme.Class.{Class}
use Rattle.pylex_lexeme.specs.Lexemes.{Lexeme, class_in, longest_within, lexeme_len, lexeme_at, cut, cut_after, left_by_cut, list_of}
use Rattle.pylex_lexeme.specs.Chars.{bytes_in}
use Rattle.pylex_listing.specs.Laws.{AreLexemes, IsCut, LongestWins}
use Rattle.pylex_listing.proofs.Full.{lexeme_full, lexeme_front}
use Rattle.pylex_lexeme.proofs.Callers.Lexemes.{class_none, longest_passes}
use Rattle.pylex_listing.proofs.Joined.{drop_of}

pub lexeme_parts : (cs : List ℕ) (x : Lexeme) → lexeme_at cs ≡ Some x → cs ≡ x.text ++ drop (length x.text) cs
lexeme_parts cs x e = front cs (lexeme_len cs) x.text (lexeme_front cs x e)
  where
    same_drop : (n : ℕ) (cs : List ℕ) → drop n cs ≡ drop (length (take n cs)) cs
    same_drop zero cs = refl
    same_drop (suc n) [] = refl
    same_drop (suc n) (c ∷ cs) = same_drop n cs

    front : (cs : List ℕ) (n : ℕ) (t : List ℕ) → t ≡ take n cs → cs ≡ t ++ drop (length t) cs
    front cs n t h = sym (take-append-drop n cs) ∙ ap (λ d. take n cs ++ d) (same_drop n cs) ∙ sym (ap (λ u. u ++ drop (length u) cs) h)

pub lexeme_some : (cs : List ℕ) (x : Lexeme) → lexeme_at cs ≡ Some x → 0 < length x.text
lexeme_some cs x e = by_text x.text (lexeme_full cs x e)
  where
    by_text : (t : List ℕ) → 0 < bytes_in t → 0 < length t
    by_text [] h = h
    by_text (c ∷ t) h = omega arith

none_here : (o : Option Lexeme) → lexeme_at [] ≡ o → lexeme_at [] ≡ None
none_here None e = e
none_here (Some x) e = absurd (empty x (lexeme_parts [] x e) (lexeme_some [] x e))
  where
    nothing_joined : (t r : List ℕ) → [] ≡ t ++ r → 0 < length t → ⊥
    nothing_joined [] r e n = omega arith
    nothing_joined (c ∷ t) r e n = cc

    empty : (x : Lexeme) → [] ≡ x.text ++ drop (length x.text) [] → 0 < length x.text → ⊥
    empty x e n = nothing_joined x.text (drop (length x.text) []) e n

lexeme_at-nil : lexeme_at [] ≡ None
lexeme_at-nil = none_here (lexeme_at []) refl

-- where a cut goes on after one lexeme
goes_on : (c : ℕ) (cs : List ℕ) (o : Option Lexeme) → lexeme_at (c ∷ cs) ≡ o
    → ((n : ℕ) → (left : List ℕ) × AreLexemes (drop n cs) (cut_after n cs) left)
    → (left : List ℕ) × AreLexemes (c ∷ cs) (list_of (option_map (λ x. x ∷ cut_after (length x.text - 1) cs) o)) left
goes_on c cs None e h = (c ∷ cs, (refl, e))
goes_on c cs (Some x) e h =
    let k = h (length x.text - 1) in
    let n = lexeme_some (c ∷ cs) x e in
    let p : c ∷ cs ≡ x.text ++ drop (length x.text - 1) cs = lexeme_parts (c ∷ cs) x e
    ∙ ap (λ d. x.text ++ d) (one_less (length x.text) n) in
    (k.0, (drop (length x.text - 1) cs, e, p, k.1))
  where
    one_less : (n : ℕ) → 0 < n → drop n (c ∷ cs) ≡ drop (n - 1) cs
    one_less zero h = absurd (omega arith)
    one_less (suc n) h = let e : suc n - 1 ≡ n = omega arith in rw e refl

lexed_after : (cs : List ℕ) (n : ℕ) → (left : List ℕ) × AreLexemes (drop n cs) (cut_after n cs) left
lexed_after [] zero = ([], (refl, lexeme_at-nil))
lexed_after [] (suc n) = ([], (refl, lexeme_at-nil))
lexed_after (c ∷ cs) (suc n) = lexed_after cs n
lexed_after (c ∷ cs) zero = goes_on c cs (lexeme_at (c ∷ cs)) refl (λ n. lexed_after cs n)

abbrev pub texts : List Lexeme → List ℕ
texts xs = flat_map (λ x. x.text) xs

pub lexed_joins : (xs : List Lexeme) (text left : List ℕ) → AreLexemes text xs left → text ≡ texts xs ++ left
lexed_joins [] text left h = sym h.0
lexed_joins (x ∷ xs) text left h = h.2 ∙ ap (λ r. x.text ++ r) (lexed_joins xs h.0 left h.3) ∙ sym (append_assoc x.text (texts xs) left)

pub cut_lexed : (cs : List ℕ) → AreLexemes cs (cut cs) (left_by_cut cs)
unfolding cut left_by_cut
cut_lexed cs =
    let k = lexed_after cs 0 in
    let j = lexed_joins (cut_after 0 cs) cs k.0 k.1 in
    let e : drop (length (texts (cut_after 0 cs))) cs ≡ k.0 = ap (drop (length (texts (cut_after 0 cs)))) j
    ∙ drop_of (texts (cut_after 0 cs)) k.0 in
    subst (λ (l : List ℕ). AreLexemes cs (cut_after 0 cs) l) (sym e) k.1

lexed_stops : (xs : List Lexeme) (text left : List ℕ) → AreLexemes text xs left → lexeme_at left ≡ None
lexed_stops [] text left h = ap lexeme_at h.0 ∙ h.1
lexed_stops (x ∷ xs) text left h = lexed_stops xs h.0 left h.3

pub is_cut : (text : List ℕ) → IsCut text
is_cut text = let l = cut_lexed text in record {
  lexemes = l;
  joined = lexed_joins (cut text) text (left_by_cut text) l;
  stop =
      lexed_stops (cut text) text (left_by_cut text) l;
}

-- the longest front within a length that passes
none_within : (p : List ℕ → Bool) (cs : List ℕ) (n k : ℕ) → longest_within p cs n < k → k ≤ n → p (take k cs) ≡ false
none_within p cs zero k l h = absurd (omega arith)
none_within p cs (suc n) k l h = ⊎_elim
    (λ (e : p (take (suc n) cs) ≡ true). absurd (too_long e (rw e at l)))
    (λ (e : p (take (suc n) cs) ≡ false). ⊎_elim
    (λ (le : k ≤ n). none_within p cs n k (rw e at l) le)
    (λ (eq : k ≡ suc n). ap (λ j. p (take j cs)) eq ∙ e)
    (split k n h))
    (cases_Bool (p (take (suc n) cs)))
  where
    too_long : p (take (suc n) cs) ≡ true → suc n < k → ⊥
    too_long e g = omega arith

    split : (k n : ℕ) → k ≤ suc n → (k ≤ n) ⊎ (k ≡ suc n)
    split k n h = grind arith

within_bound : (p : List ℕ → Bool) (cs : List ℕ) (n : ℕ) → longest_within p cs n ≤ n
within_bound p cs zero = omega arith
within_bound p cs (suc n) = ⊎_elim
    (λ (e : p (take (suc n) cs) ≡ true). rw e (omega arith))
    (λ (e : p (take (suc n) cs) ≡ false). let h = within_bound p cs n in rw e (omega arith))
    (cases_Bool (p (take (suc n) cs)))

none_of : (o : Option Class) → is_some o ≡ false → o ≡ None
none_of None e = refl
none_of (Some k) e = cc

front_taken : (cs a b : List ℕ) → cs ≡ a ++ b → take (length a) cs ≡ a
front_taken cs a b e = ap (take (length a)) e ∙ take_front a b
  where
    take_front : (a b : List ℕ) → take (length a) (a ++ b) ≡ a
    take_front [] b = refl
    take_front (c ∷ a) b = ap (λ t. c ∷ t) (take_front a b)

front_short : (cs a b : List ℕ) → cs ≡ a ++ b → length a ≤ length cs
front_short cs a b e = omega (arith, ap length e, length-append a b)

-- no front longer than the longest is in a class
no_longer : (cs a b : List ℕ) → cs ≡ a ++ b → lexeme_len cs < length a → class_in cs a ≡ None
unfolding lexeme_len
no_longer cs a b e l =
    let n = none_of (class_in cs (take (length a) cs)) (none_within (λ t. is_some (class_in cs t)) cs (length cs) (length a) l
    (front_short cs a b e)) in
    subst (λ (t : List ℕ). class_in cs t ≡ None) (front_taken cs a b e) n

lexeme_size : (cs : List ℕ) (x : Lexeme) → lexeme_at cs ≡ Some x → length x.text ≡ lexeme_len cs
unfolding lexeme_len
lexeme_size cs x e =
    let l = length-take (lexeme_len cs) cs in
    let b = within_bound (λ t. is_some (class_in cs t)) cs (length cs) in
    ap length (lexeme_front cs x e) ∙ omega arith

pub lexeme_class : (cs : List ℕ) (x : Lexeme) → lexeme_at cs ≡ Some x → class_in cs x.text ≡ Some x.«class»
unfolding lexeme_at
lexeme_class cs x e = class_is (take (lexeme_len cs) cs) (class_in cs (take (lexeme_len cs) cs)) x refl e
  where
    class_is : (t : List ℕ) (o : Option Class) (x : Lexeme) → class_in cs t ≡ o → option_map (λ k. record { «class» = k; text = t }) o ≡
        Some x → class_in cs x.text ≡ Some x.«class»
    class_is t None x c e = cc
    class_is t (Some k) x c e = cc

no_class : (cs : List ℕ) → lexeme_at cs ≡ None → class_in cs (take (lexeme_len cs) cs) ≡ None
unfolding lexeme_at
no_class cs e = by_class (class_in cs (take (lexeme_len cs) cs)) refl e
  where
    by_class : (o : Option Class) → class_in cs (take (lexeme_len cs) cs) ≡ o
        → option_map {U = Lexeme} (λ k. record { «class» = k; text = take (lexeme_len cs) cs }) o ≡ None
        → class_in cs (take (lexeme_len cs) cs) ≡ None
    by_class None c e = c
    by_class (Some k) c e = cc

none_long : (cs : List ℕ) → lexeme_at cs ≡ None → (n : ℕ) → lexeme_len cs ≡ n → n ≡ 0
unfolding lexeme_len
none_long cs e zero l = refl
none_long cs e (suc n) l =
    let p : is_some (class_in cs (take (lexeme_len cs) cs)) ≡ true =
    longest_passes (λ t. is_some (class_in cs t)) cs (length cs) (omega arith) in
    let q = ap is_some (no_class cs e) in
    cc

no_front : (cs a b : List ℕ) → lexeme_at cs ≡ None → cs ≡ a ++ b → class_in cs a ≡ None
no_front cs [] b n e = class_none cs
no_front cs (c ∷ a) b n e = let z = none_long cs n (lexeme_len cs) refl in no_longer cs (c ∷ a) b e (omega arith)

pub longest_wins : (text : List ℕ) → LongestWins text
longest_wins text = record {
  longest = λ x e. record {
    is_front = (drop (length x.text) text, lexeme_parts text x e);
    in_class = lexeme_class text x e;
    none_longer = λ front following p l. let s = lexeme_size text x e in no_longer text front following p (omega arith);
  };
  none = λ e front following p. no_front text front following e p;
}
