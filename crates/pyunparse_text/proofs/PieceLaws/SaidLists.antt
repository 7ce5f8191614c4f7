-- Lists of terminals that can be said, where some f-strings are open before them; and texts that may stand at a place, joined.
--
-- Carries: Said, front, back and 12 more, for DerivedAt, OfTokens. On: Sayings.
use Rattle.std.proofs.Common.{◌≡◌, ℕ, true, false, List, [], ◌∷◌, ◌++◌, Some, refl, ◌∙◌, subst, ◌<◌}
use Rattle.std.specs.Prelude.{All}
use Rattle.std.specs.List.{list_all}
use Rattle.std.specs.Str.{all_scalars}
use Rattle.std.proofs.lemmas.Bool.{and_parts, le-leb}
use Rattle.std.proofs.lemmas.List.Elements.{All-head, All-tail, All-append}
use Rattle.std.proofs.lemmas.List.Folds.{list_all-append}
use Rattle.pytree_node.specs.declared.profiles.Extent.{Extent}
use Rattle.pytree_node.specs.declared.operators.Operator.{Operator}
use Rattle.pytree_node.specs.declared.operators.Operator.TheVariants as Bin
use Rattle.pytree_node.specs.declared.operators.UnaryOperator.{UnaryOperator}
use Rattle.pytree_node.specs.declared.operators.UnaryOperator.TheVariants as Un
use Rattle.pygrammar.specs.declared.levels.Level.{Level}
use Rattle.pytoken.specs.Terminals.{Terminal}
use Rattle.pygrammar.specs.Operators.{left_operator, prefix_operator}
use Rattle.pygrammar.specs.OpenStrings.{Open, open_following, open_after_all}
use Rattle.pyunparse_text.specs.Levels.{operator_sign, unary_sign}
use Rattle.pytree_node.specs.Points.{IsPoint}
use Rattle.pytoken.specs.Laws.{is_point}
use Rattle.pyunparse_text.proofs.Fewest.Claims.{row, prefixed}
use Rattle.pyunparse_text.proofs.FieldTexts.Conditions.{is_own}
use Rattle.pyunparse_text.proofs.FieldTexts.FieldLiterals.{is_field_character, is_field_byte}
use Rattle.pyunparse_text.proofs.FieldTexts.TextCharacters.{can_stand}
use Rattle.pyunparse_text.proofs.PieceLaws.Places.{Depth, outside, in_field, in_two}
use Rattle.pyunparse_text.proofs.PieceLaws.Fair.{HasText, HasBytes}
use Rattle.pyunparse_text.proofs.PieceLaws.Sound.{is_spec, HasFormatted}
use Rattle.pyunparse_text.proofs.PieceLaws.Sayings.{Sayable}

-- the terminals of some tokens can be said, where these f-strings are open before them
pub data Said (extent : Extent) : Open → List Terminal → Type 0 where
  none : {o : Open} → Said extent o []
  also : {o : Open} {t : Terminal} {ts : List Terminal} → Sayable extent o t → Said extent (open_following o t) ts → Said extent o (t ∷ ts)

-- the f-strings that a list opens it closes
abbrev pub Closing : List Terminal → Type 0
Closing ts = (o : Open) → open_after_all o ts ≡ o

abbrev pub IsQuiet : Terminal → Type 0
IsQuiet t = (o : Open) → open_following o t ≡ o

sign_quiet : (o : Operator) → IsQuiet (operator_sign o)
sign_quiet Bin.Add _ = refl
sign_quiet Bin.Sub _ = refl
sign_quiet Bin.Mult _ = refl
sign_quiet Bin.MatMult _ = refl
sign_quiet Bin.Div _ = refl
sign_quiet Bin.Mod _ = refl
sign_quiet Bin.Pow _ = refl
sign_quiet Bin.LShift _ = refl
sign_quiet Bin.RShift _ = refl
sign_quiet Bin.BitOr _ = refl
sign_quiet Bin.BitXor _ = refl
sign_quiet Bin.BitAnd _ = refl
sign_quiet Bin.FloorDiv _ = refl

prefix_quiet : (o : UnaryOperator) → IsQuiet (unary_sign o)
prefix_quiet Un.Not _ = refl
prefix_quiet Un.UAdd _ = refl
prefix_quiet Un.USub _ = refl
prefix_quiet Un.Invert _ = refl

pub left_quiet : (l : Level) (t : Terminal) (o : Operator) → left_operator l t ≡ Some o → IsQuiet t
left_quiet l t o h = subst IsQuiet (row l t o h).sign (sign_quiet o)

pub unary_quiet : (l : Level) (t : Terminal) (o : UnaryOperator) → prefix_operator l t ≡ Some o → IsQuiet t
unary_quiet l t o h = subst IsQuiet (prefixed l t o h).sign (prefix_quiet o)

module _ {extent : Extent} where
  pub front : {o : Open} (ts us : List Terminal) → Said extent o (ts ++ us) → Said extent o ts
  front [] us h = none
  front {o = o} (t ∷ ts) us (also s h) = also s (front {o = open_following o t} ts us h)

  further : {o : Open} (ts us : List Terminal) → Said extent o (ts ++ us) → Said extent (open_after_all o ts) us
  further [] us h = h
  further {o = o} (t ∷ ts) us (also s h) = further {o = open_following o t} ts us h

  pub back : {o : Open} (ts us : List Terminal) → Closing ts → Said extent o (ts ++ us) → Said extent o us
  back {o} ts us c h = subst (λ x. Said extent x us) (c o) (further ts us h)

  pub rest : {o : Open} {t : Terminal} {ts : List Terminal} → Said extent o (t ∷ ts) → Said extent (open_following o t) ts
  rest (also s h) = h

  pub first : {o : Open} {t : Terminal} {ts : List Terminal} → Said extent o (t ∷ ts) → Sayable extent o t
  first (also s h) = s

  -- after some terminals and one more
  pub following : {o : Open} (ts us : List Terminal) (t : Terminal) → Closing ts → Said extent o (ts ++ (t ∷ us))
      → Said extent (open_following o t) us
  following ts us t c h = rest (back ts (t ∷ us) c h)

  pub quiet : {o : Open} {ts : List Terminal} (t : Terminal) → IsQuiet t → Said extent (open_following o t) ts → Said extent o ts
  quiet {o} {ts} t q h = subst (λ x. Said extent x ts) (q o) h

pub text_both : (d : Depth) (t r : List ℕ) → HasText d t → HasText d r → HasText d (t ++ r)
text_both outside t r h k = All-append IsPoint t r h k
text_both in_field t r h k = list_all-append is_field_character t r ∙ rw (h, k) refl
text_both in_two t r h k = absurd h

pub bytes_both : (d : Depth) (t r : List ℕ) → HasBytes d t → HasBytes d r → HasBytes d (t ++ r)
bytes_both outside t r h k = All-append (λ b. b < 0x100) t r h k
bytes_both in_field t r h k = list_all-append is_field_byte t r ∙ rw (h, k) refl
bytes_both in_two t r h k = absurd h

pub formatted_both : (d : Depth) (n : ℕ) (t r : List ℕ) → HasFormatted d n t → HasFormatted d n r → HasFormatted d n (t ++ r)
formatted_both outside n t r h k = list_all-append (can_stand false (is_spec n)) t r ∙ rw (h, k) refl
formatted_both in_field n t r h k = list_all-append (can_stand true (is_spec n)) t r ∙ rw (h, k) refl
formatted_both in_two n t r h k = absurd h

pub points_stand : (t : List ℕ) → All IsPoint t → list_all is_point t ≡ true
points_stand [] h = refl
points_stand (c ∷ t) h = let f : is_point c ≡ true = le-leb c 1114111 (All-head IsPoint c t h) in let r =
    points_stand t (All-tail IsPoint c t h) in rw (f, r) refl

characters_stand : (t : List ℕ) → list_all is_field_character t ≡ true → list_all (can_stand true false) t ≡ true
characters_stand [] h = refl
characters_stand (c ∷ t) h =
    let w = and_parts (is_field_character c) (list_all is_field_character t) h in
    let o = and_parts (is_own c) (all_scalars (c ∷ [])) w.0 in
    let a = o.0 in
    let b = o.1 in
    let r = characters_stand t w.1 in
    rw (a, b, r) refl

-- a literal's text may be an f-string's
pub text_formatted : (d : Depth) (t : List ℕ) → HasText d t → HasFormatted d 0 t
text_formatted outside t h = points_stand t h
text_formatted in_field t h = characters_stand t h
text_formatted in_two t h = absurd h
