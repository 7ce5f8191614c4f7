-- The first lexeme of a text is that of the text with a right parenthesis after it, unless it is a
-- comment.
--
-- Carries: new, next, by Places. On: LastChars, PlainEnds.
use Rattle.std.proofs.Common.{◌≡◌, ℕ, ◌<◌, suc, Bool, true, false, ◌&&◌, ◌||◌, ◌==◌, List, [], ◌∷◌, ◌++◌, length, take, refl}
use Rattle.std.proofs.Common.{sym, ap, ◌∙◌, arith, Some, None, is_some, length-append, if◌then◌else◌}
use Rattle.std.specs.Prelude.{option_map}
use Rattle.std.proofs.Math.Seq.{take-length}
use Rattle.std.proofs.lemmas.List.{take-append-le}
use Rattle.std.proofs.lemmas.Bool.Decides.{nat_tests}
use Rattle.pylex_lexeme.specs.declared.lexeme.Class.TheVariants.{String, Comment}
use Rattle.pylex_lexeme.specs.Strings.{begins_quote, begins_three, after_prefix, opens_string, opens_triple, counts_as_string}
use Rattle.pylex_lexeme.specs.Lexemes.{Lexeme, class_in, plain_class, longest_within, lexeme_len, lexeme_at}
use Rattle.pylex_lexeme.proofs.Callers.Lexemes.{comment_takes}
use Rattle.pylex_lexeme.proofs.Callers.WholeLines.{same_within, len_within}
use Rattle.pyfstring_tokens.specs.Standing.{closed}
use Rattle.pyfstring_tokens.specs.FieldTokens.{is_comment_class}
use Rattle.pyfstring_tokens.proofs.LastChars.{no_string}
use Rattle.pyfstring_tokens.proofs.PlainEnds.{plain_end}

-- Whether a string opens
nothing : (b : Bool) → (b && false) ≡ false
nothing true = refl
nothing false = refl

after_kept : (p : List ℕ → Bool) → ((r : List ℕ) → p (r ++ 41 ∷ []) ≡ p r) → p [] ≡ false → (cs : List ℕ)
    → after_prefix p (cs ++ 41 ∷ []) ≡ after_prefix p cs
after_kept p k z [] = let e : p (41 ∷ []) ≡ false = k [] ∙ z in simp (e, z, nothing)
after_kept p k z (a ∷ []) = let e : p (41 ∷ []) ≡ false = k [] ∙ z in let f : p (a ∷ 41 ∷ []) ≡ p (a ∷ []) =
    k (a ∷ []) in simp (e, z, f, nothing)
after_kept p k z (a ∷ b ∷ []) =
    let e : p (41 ∷ []) ≡ false = k [] ∙ z in
    let f : p (a ∷ b ∷ 41 ∷ []) ≡ p (a ∷ b ∷ []) = k (a ∷ b ∷ []) in
    let g : p (b ∷ 41 ∷ []) ≡ p (b ∷ []) = k (b ∷ []) in
    simp (e, z, f, g, nothing)
after_kept p k z (a ∷ b ∷ c ∷ t) = rw (k (a ∷ b ∷ c ∷ t), k (b ∷ c ∷ t), k (c ∷ t)) refl

quote_kept : (r : List ℕ) → begins_quote (r ++ 41 ∷ []) ≡ begins_quote r
quote_kept [] = refl
quote_kept (c ∷ t) = refl

three_kept : (r : List ℕ) → begins_three (r ++ 41 ∷ []) ≡ begins_three r
three_kept [] = refl
three_kept (a ∷ []) = refl
three_kept (a ∷ b ∷ []) = none (a == 39) (a == 34) (b == a) refl refl
  where
    none : (x y z : Bool) → (a == 39) ≡ x → (a == 34) ≡ y → ((x || y) && z && (41 == a)) ≡ false
    none true y z e f = let h : (41 == a) ≡ false = grind (arith, nat_tests) in rw h (nothing z)
    none false true z e f = let h : (41 == a) ≡ false = grind (arith, nat_tests) in rw h (nothing z)
    none false false z e f = refl
three_kept (a ∷ b ∷ c ∷ t) = refl

opens_kept : (cs : List ℕ) → opens_string (cs ++ 41 ∷ []) ≡ opens_string cs
unfolding opens_string
opens_kept cs = after_kept begins_quote quote_kept refl cs

triples_kept : (cs : List ℕ) → opens_triple (cs ++ 41 ∷ []) ≡ opens_triple cs
unfolding opens_triple
triples_kept cs = after_kept begins_three three_kept refl cs

class_kept : (cs t : List ℕ) → class_in (cs ++ 41 ∷ []) t ≡ class_in cs t
unfolding class_in counts_as_string
class_kept cs t = rw (opens_kept cs, triples_kept cs) refl

-- The whole is no lexeme
whole_none : (a : ℕ) (cs : List ℕ) → (a == 35) ≡ false → class_in (a ∷ (cs ++ 41 ∷ [])) (a ∷ (cs ++ 41 ∷ [])) ≡ None
unfolding class_in
whole_none a cs e = by (opens_string (a ∷ (cs ++ 41 ∷ [])))
  where
    by : (b : Bool) → (if b then (if counts_as_string (a ∷ (cs ++ 41 ∷ [])) (a ∷ (cs ++ 41 ∷ [])) then Some String else None) else
        plain_class (a ∷ (cs ++ 41 ∷ []))) ≡ None
    by true = rw (no_string (a ∷ (cs ++ 41 ∷ [])) (a ∷ cs)) refl
    by false = plain_end a cs e

not_whole : (p : List ℕ → Bool) (cs : List ℕ) → p cs ≡ false → (n : ℕ) → length cs ≡ suc n
    → longest_within p cs (length cs) ≡ longest_within p cs n
not_whole p cs e n s =
    let w : p (take (suc n) cs) ≡ false = ap (λ m. p (take m cs)) (sym s) ∙ ap p (take-length cs) ∙ e in
    rw s (rw w refl)

len_kept : (a : ℕ) (cs : List ℕ) → (a == 35) ≡ false → lexeme_len (a ∷ (cs ++ 41 ∷ [])) ≡ lexeme_len (a ∷ cs)
unfolding lexeme_len
len_kept a cs e =
    let w : List ℕ = a ∷ (cs ++ 41 ∷ []) in
    let n : length w ≡ suc (length (a ∷ cs)) = omega (arith, length-append cs (41 ∷ [])) in
    not_whole (λ t. is_some (class_in w t)) w (ap is_some (whole_none a cs e)) (length (a ∷ cs)) n
    ∙ same_within (λ t. is_some (class_in w t)) (λ t. is_some (class_in (a ∷ cs) t)) (a ∷ cs) (41 ∷ []) (length (a ∷ cs)) (omega arith)
    (λ t. ap is_some (class_kept (a ∷ cs) t))

same_lexeme : (a : ℕ) (cs : List ℕ) → (a == 35) ≡ false → lexeme_at (a ∷ (cs ++ 41 ∷ [])) ≡ lexeme_at (a ∷ cs)
unfolding lexeme_at
same_lexeme a cs e =
    let w : List ℕ = a ∷ (cs ++ 41 ∷ []) in
    let t : take (lexeme_len w) w ≡ take (lexeme_len (a ∷ cs)) (a ∷ cs) = ap (λ n. take n w) (len_kept a cs e)
    ∙ take-append-le (lexeme_len (a ∷ cs)) (a ∷ cs) (41 ∷ []) (len_within (a ∷ cs)) in
    ap (λ u. option_map {U = Lexeme} (λ k. record { «class» = k; text = u }) (class_in w u)) t
    ∙ ap (option_map {U = Lexeme} (λ k. record { «class» = k; text = take (lexeme_len (a ∷ cs)) (a ∷ cs) }))
    (class_kept (a ∷ cs) (take (lexeme_len (a ∷ cs)) (a ∷ cs)))

-- a lexeme that begins with a hash is a comment
hash_comment : (a : ℕ) (cs : List ℕ) → (a == 35) ≡ true → option_map (λ (x : Lexeme). x.«class») (lexeme_at (a ∷ cs)) ≡ Some Comment
hash_comment a cs e = sym (comment_takes (a ∷ cs) e).«class»

pub lexeme_kept : (cs : List ℕ) (x : Lexeme) → 0 < length cs → is_comment_class x.«class» ≡ false → lexeme_at cs ≡ Some x
    → lexeme_at (closed cs) ≡ Some x
lexeme_kept [] x s n e = absurd (omega arith)
lexeme_kept (a ∷ cs) x s n e = same_lexeme a cs (by (a == 35) refl) ∙ e
  where
    by : (b : Bool) → (a == 35) ≡ b → b ≡ false
    by true h = let c : Some x.«class» ≡ Some Comment = ap (option_map (λ (x : Lexeme). x.«class»)) (sym e) ∙ hash_comment a cs h in
        let d : x.«class» ≡ Comment = cc in let z : true ≡ false = sym (ap is_comment_class d) ∙ n in cc
    by false h = refl

pub none_kept : (cs : List ℕ) → 0 < length cs → lexeme_at cs ≡ None → lexeme_at (closed cs) ≡ None
none_kept [] s e = absurd (omega arith)
none_kept (a ∷ cs) s e = same_lexeme a cs (by (a == 35) refl) ∙ e
  where
    by : (b : Bool) → (a == 35) ≡ b → b ≡ false
    by true h = let c : None ≡ Some Comment = ap (option_map (λ (x : Lexeme). x.«class»)) (sym e) ∙ hash_comment a cs h in cc
    by false h = refl
