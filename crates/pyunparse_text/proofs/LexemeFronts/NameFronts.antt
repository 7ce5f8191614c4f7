-- A name at the front of a text.
--
-- Carries: name_front, for PieceFronts. On: Fronts, Cases.
use Rattle.std.proofs.Common.{◌≡◌, ℕ, Bool, true, false, ◌&&◌, ◌||◌, ◌==◌, List, [], ◌∷◌, ◌++◌, take, drop, refl, ◌∙◌, arith, ⊎_elim, Some}
use Rattle.std.specs.List.{list_all, prefix_len}
use Rattle.std.proofs.lemmas.Bool.{false_from_ne_true, or_cases, and_parts, and_right}
use Rattle.unicode_ident.specs.Ident.{is_xid_continue}
use Rattle.unicode_ident.proofs.IdentLemmas.{is_xid_continue-ascii}
use Rattle.pylex_lexeme.specs.declared.lexeme.Class.TheVariants.{Name}
use Rattle.pylex_lexeme.specs.Chars.{begins, starts_name, is_r, is_b_or_f}
use Rattle.pylex_lexeme.specs.Lexemes.{lexeme_at, is_name}
use Rattle.pylex_lexeme.specs.Strings.{opens_string, begins_quote, is_prefix}
use Rattle.pylex_lexeme.proofs.Callers.Lexemes.{start_continues, name_takes}
use Rattle.pylex_lexeme.proofs.Callers.Numbers.{either, either_not}
use Rattle.pylex_lexeme.proofs.Callers.Strings.{two_prefix}
use Rattle.pyfstring_tokens.proofs.Callers.Lexemes.{is_lexeme}
use Rattle.pyunparse_text.proofs.LexemeFronts.Fronts.{leaves, run_ends}

-- characters that stand in no name
pub quote_ends_name : (c : ℕ) → ((c == 39) || (c == 34)) ≡ true → is_xid_continue c ≡ false
quote_ends_name c e = either_not is_xid_continue 39 34 c e (is_xid_continue-ascii 39 (omega arith)) (is_xid_continue-ascii 34 (omega arith))

pub part_no_quote : (c : ℕ) → is_xid_continue c ≡ true → ((c == 39) || (c == 34)) ≡ false
part_no_quote c e = false_from_ne_true ((c == 39) || (c == 34)) (λ h. let f = quote_ends_name c h in cc)

letter_continues : (a b c : ℕ) → ((c == a) || (c == b)) ≡ true → is_xid_continue a ≡ true → is_xid_continue b ≡ true
    → is_xid_continue c ≡ false → ⊥
letter_continues a b c e f g h = let y = either is_xid_continue a b c e f g in cc

no_r : (c : ℕ) → is_xid_continue c ≡ false → is_r c ≡ false
no_r c h = false_from_ne_true (is_r c) (λ e. letter_continues 114 82 c e (is_xid_continue-ascii 114 (omega arith))
    (is_xid_continue-ascii 82 (omega arith)) h)

no_b_or_f : (c : ℕ) → is_xid_continue c ≡ false → is_b_or_f c ≡ false
no_b_or_f c h = false_from_ne_true (is_b_or_f c)
    (λ e. ⊎_elim
    (λ (f : ((c == 98) || (c == 66)) ≡ true). letter_continues 98 66 c f (is_xid_continue-ascii 98 (omega arith))
    (is_xid_continue-ascii 66 (omega arith)) h)
    (λ (f : ((c == 102) || (c == 70)) ≡ true). letter_continues 102 70 c f (is_xid_continue-ascii 102 (omega arith))
    (is_xid_continue-ascii 70 (omega arith)) h)
    (or_cases ((c == 98) || (c == 66)) ((c == 102) || (c == 70)) e))

-- no prefix is made of a letter and what ends a name
pub no_pair : (c d : ℕ) → is_xid_continue d ≡ false → is_prefix (c ∷ d ∷ []) ≡ false
no_pair c d h = two_prefix c d ∙ rw (no_r d h, no_b_or_f d h) (none (is_r c) (is_b_or_f c))
  where
    none : (x y : Bool) → ((x && false) || (y && false)) ≡ false
    none true true = refl
    none true false = refl
    none false true = refl
    none false false = refl

-- where no quote is the first character or the second, nor the third after
-- a prefix, no string opens
pub no_string : (cs : List ℕ) → begins_quote cs ≡ false → begins_quote (drop 1 cs) ≡ false
    → (is_prefix (take 2 cs) && begins_quote (drop 2 cs)) ≡ false → opens_string cs ≡ false
unfolding opens_string
no_string cs a b c =
    rw (and_right (is_prefix (take 0 cs)) (begins_quote cs) a, and_right (is_prefix (take 1 cs)) (begins_quote (drop 1 cs)) b, c) refl

-- no string opens at a name that no quote follows
pub name_opens : (t r : List ℕ) → is_name t ≡ true → begins is_xid_continue r ≡ false → begins_quote r ≡ false
    → opens_string (t ++ r) ≡ false
unfolding is_name
name_opens [] r n e q = cc
name_opens (c ∷ []) r n e q =
    let s = and_parts (starts_name c) true n in
    no_string (c ∷ r) (part_no_quote c (start_continues c s.0)) q (third r e)
  where
    third : (r : List ℕ) → begins is_xid_continue r ≡ false → (is_prefix (take 2 (c ∷ r)) && begins_quote (drop 2 (c ∷ r))) ≡ false
    third [] e = and_right (is_prefix (c ∷ [])) false refl
    third (d ∷ r) e = let p = no_pair c d e in rw p refl
name_opens (c ∷ d ∷ []) r n e q =
    let s = and_parts (starts_name c) (is_xid_continue d && true) n in
    let d1 = and_parts (is_xid_continue d) true s.1 in
    no_string (c ∷ d ∷ r) (part_no_quote c (start_continues c s.0)) (part_no_quote d d1.0)
    (and_right (is_prefix (c ∷ d ∷ [])) (begins_quote r) q)
name_opens (c ∷ d ∷ b ∷ t) r n e q =
    let s = and_parts (starts_name c) (is_xid_continue d && (is_xid_continue b && list_all is_xid_continue t)) n in
    let d1 = and_parts (is_xid_continue d) (is_xid_continue b && list_all is_xid_continue t) s.1 in
    let b1 = and_parts (is_xid_continue b) (list_all is_xid_continue t) d1.1 in
    no_string (c ∷ d ∷ b ∷ t ++ r) (part_no_quote c (start_continues c s.0)) (part_no_quote d d1.0)
    (and_right (is_prefix (c ∷ d ∷ [])) (begins_quote (b ∷ t ++ r)) (part_no_quote b b1.0))

pub name_front : (t r : List ℕ) → is_name t ≡ true → begins is_xid_continue r ≡ false → begins_quote r ≡ false
    → lexeme_at (t ++ r) ≡ Some (record { «class» = Name; text = t })
unfolding is_name
name_front [] r n e q = cc
name_front (c ∷ t) r n e q =
    let s = and_parts (starts_name c) (list_all is_xid_continue t) n in
    let x = start_continues c s.0 in
    let w : list_all is_xid_continue (c ∷ t) ≡ true = rw x s.1 in
    is_lexeme (c ∷ t) r Name
    (leaves (c ∷ t) r Name (prefix_len is_xid_continue (c ∷ t ++ r)) (run_ends is_xid_continue (c ∷ t) r w e)
    (name_takes (c ∷ t ++ r) (name_opens (c ∷ t) r n e q) s.0))
