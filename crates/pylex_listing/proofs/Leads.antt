-- What the last line of a text begins with, character by character.
--
-- Carries: last_push, hash_is, last_front, front_in, for Resumed, LexemeClasses, Run.
use Rattle.std.proofs.Common.{◌≡◌, ℕ, Bool, true, false, not, ◌==◌, List, [], ◌∷◌, ◌++◌, refl, ap, ◌∙◌, sym, cond, if◌then◌else◌}
use Rattle.std.proofs.Common.{append_assoc, reverse, ⊎_elim}
use Rattle.std.specs.List.{take_while}
use Rattle.std.proofs.lemmas.List.{append-nil, reverse-append}
use Rattle.std.proofs.lemmas.List.Sums.{take_while-cons}
use Rattle.std.proofs.lemmas.Bool.{cases_Bool}
use Rattle.pylex_lexeme.specs.Chars.{is_blank_char}
use Rattle.pylex_listing.specs.Listing.{last_line, begins_comment}
use Rattle.pylex_listing.specs.Machine.{lead_after_char, lead_after, is_hash}
use Rattle.pylex_listing.specs.declared.leading_char.LeadingChar.{LeadingChar}
use Rattle.pylex_listing.specs.declared.leading_char.LeadingChar.TheVariants.{Nothing, Hash, Other}

pub last_push : (t : List ℕ) (c : ℕ) → last_line (t ++ c ∷ []) ≡ cond (c == 10) [] (last_line t ++ c ∷ [])
unfolding last_line
last_push t c =
    let r : reverse (t ++ c ∷ []) ≡ c ∷ reverse t = reverse-append t (c ∷ []) in
    rw r (⊎_elim
    (λ (e : (c == 10) ≡ true). rw take_while-cons (rw e refl))
    (λ (e : (c == 10) ≡ false). rw take_while-cons (rw e (reverse-append (c ∷ []) (take_while (λ d. not (d == 10)) (reverse t)))))
    (cases_Bool (c == 10)))

-- a front in a line without LF
abbrev pub front_in : List ℕ → LeadingChar
front_in [] = Nothing
front_in (c ∷ cs) = if is_blank_char c then front_in cs else (if c == 35 then Hash else Other)

hash_cases : (b h t : Bool) (f : LeadingChar) → t ≡ is_hash f → cond b t h ≡ is_hash (cond b f (cond h Hash Other))
hash_cases true h t f e = e
hash_cases false true t f e = refl
hash_cases false false t f e = refl

front_in-hash : (l : List ℕ) → begins_comment l ≡ is_hash (front_in l)
front_in-hash [] = refl
front_in-hash (c ∷ cs) = hash_cases (is_blank_char c) (c == 35) (begins_comment cs) (front_in cs) (front_in-hash cs)

front_in-push : (l : List ℕ) (c : ℕ) → (c == 10) ≡ false → front_in (l ++ c ∷ []) ≡ lead_after_char (front_in l) c
front_in-push [] c e = rw e refl
front_in-push (d ∷ l) c e = ⊎_elim
    (λ (b : is_blank_char d ≡ true). rw b (front_in-push l c e))
    (λ (b : is_blank_char d ≡ false). rw (b, e) (settled (d == 35)))
    (cases_Bool (is_blank_char d))
  where
    settled : (h : Bool)
        → cond h Hash Other ≡ elim (cond h Hash Other) [
          | Nothing ↦ cond (is_blank_char c) Nothing (cond (c == 35) Hash Other)
          | Hash ↦ Hash
          | Other ↦ Other
        ]
    settled true = refl
    settled false = refl

last_one : (t : List ℕ) (c : ℕ) → front_in (last_line (t ++ c ∷ [])) ≡ lead_after_char (front_in (last_line t)) c
last_one t c =
    let l = last_push t c in
    rw l (⊎_elim
    (λ (e : (c == 10) ≡ true). rw e refl)
    (λ (e : (c == 10) ≡ false). let f = front_in-push (last_line t) c e in rw e (f ∙ rw e refl))
    (cases_Bool (c == 10)))

pub last_front : (b a : List ℕ) → front_in (last_line (a ++ b)) ≡ lead_after (front_in (last_line a)) b
last_front [] a = ap (λ t. front_in (last_line t)) (append-nil a)
last_front (c ∷ b) a =
    ap (λ t. front_in (last_line t)) (sym (append_assoc a (c ∷ []) b))
    ∙ last_front b (a ++ c ∷ [])
    ∙ ap (λ f. lead_after f b) (last_one a c)

pub hash_is : (t : List ℕ) → begins_comment (last_line t) ≡ is_hash (lead_after Nothing t)
unfolding last_line
hash_is t = front_in-hash (last_line t) ∙ ap is_hash (last_front t [])
