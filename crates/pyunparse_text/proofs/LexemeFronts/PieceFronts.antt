-- A piece is the lexeme at the front of the text from it on, whatever piece,
-- blank or line end follows.
--
-- Carries: ArePieces, token_no_blank, IsPiece and 5 more, for Decoding, LineCuts, Joins,
-- Runs and 3 more. On: OperatorFronts, Cases, NameFronts, NumberFronts and 1 more.
use Rattle.std.proofs.Common.{◌≡◌, ℕ, ◌≤◌, ◌<◌, Bool, true, false, not, ◌&&◌, ◌||◌, ◌==◌, List, [], ◌∷◌, ◌++◌, length, take, map, leb}
use Rattle.std.proofs.Common.{append_assoc}
use Rattle.std.proofs.Common.{refl, if◌then◌else◌, ap, sym, ◌∙◌, subst, arith, zero, suc, ⊎_elim, Option, Some, None, eqb}
use Rattle.std.specs.List.{list_all, list_any}
use Rattle.std.specs.Str.{bytes_eq}
use Rattle.std.proofs.lemmas.Bool.{eqb-true, cases_Bool, false_from_ne_true, not-true, or_cases, and_parts, or_parts}
use Rattle.std.proofs.lemmas.Bool.Decides.{nat_tests}
use Rattle.std.proofs.lemmas.Slice.Eq.{bytes_eq-Decides}
use Rattle.unicode_ident.specs.Ident.{is_xid_continue}
use Rattle.unicode_ident.proofs.IdentLemmas.{is_xid_start-ascii, is_xid_continue-ascii}
use Rattle.pylex_listing.specs.declared.kind.Kind.{Kind}
use Rattle.pylex_listing.specs.declared.kind.Kind.TheVariants as kinds
use Rattle.pylex_lexeme.specs.Chars.{begins, starts_name, is_comment_part, is_blank_char}
use Rattle.pylex_lexeme.specs.Numbers.{split_any, is_decimal_digit, is_point, is_number}
use Rattle.pylex_lexeme.specs.declared.kinds.Exact.{Exact}
use Rattle.pylex_lexeme.specs.declared.lexeme.Class.TheVariants.{Operator, Join}
use Rattle.pylex_lexeme.specs.Operators.{operators, exact_of, is_operator}
use Rattle.pylex_lexeme.specs.Strings.{begins_quote, is_single_string, is_single, is_prefix, prefixes, lower}
use Rattle.pylex_lexeme.specs.Lexemes.{lexeme_at, is_name}
use Rattle.pylex_lexeme.proofs.Callers.Lexemes.{words, heads, by_words, no_head, no_operator, no_operator_none}
use Rattle.pylex_lexeme.proofs.Callers.Numbers.{digit_bounds}
use Rattle.pylex_lexeme.proofs.Callers.WholeLines.{one_of}
use Rattle.pyunparse_text.specs.Spacing.{Piece, is_token, is_number_kind, is_operator_kind, touches, text_following, begins_operator}
use Rattle.pyunparse_text.specs.Spacing.{stay_apart}
use Rattle.pyunparse_text.specs.Spacing.{are_two_points, all_apart}
use Rattle.pyunparse_text.specs.Inner.Relexed.{class_of}
use Rattle.pyunparse_text.proofs.LexemeFronts.NameFronts.{name_front}
use Rattle.pyunparse_text.proofs.LexemeFronts.NumberFronts.{number_front}
use Rattle.pyunparse_text.proofs.LexemeFronts.StringFronts.{string_front}
use Rattle.pyunparse_text.proofs.LexemeFronts.OperatorFronts.{Sign, operator_head, operator_front, makes_number, none_begins}

-- Nothing that stands after a token of a kind joins it.
abbrev pub Clear : Kind → List ℕ → List ℕ → Type 0
Clear kinds.Name t r = (begins is_xid_continue r ≡ false) × (begins_quote r ≡ false)
Clear kinds.Number t r = (begins is_xid_continue r ≡ false) × (begins is_point r ≡ false)
Clear kinds.String t r = begins_quote r ≡ false
Clear kinds.Op t r = ((j : ℕ) → 0 < j → j ≤ length r → is_operator (t ++ take j r) ≡ false) × (makes_number t r ≡ false)
Clear _ t r = Unit {0}

pub token_front : (k : Kind) (t r : List ℕ) → is_token k t ≡ true → Clear k t r
    → lexeme_at (t ++ r) ≡ Some (record { «class» = class_of k t; text = t })
unfolding is_operator
token_front kinds.Name t r e c = name_front t r e c.0 c.1
token_front kinds.Number t r e c = number_front t r (and_parts (begins is_decimal_digit t) (is_number t) e).1 c.0 c.1
token_front kinds.String t r e c = let p = and_parts (is_single_string t) (list_all is_comment_part t) e in string_front t r p.0 p.1 c
token_front kinds.Op t r e c = by (exact_of t) refl
  where
    by : (o : Option Exact) → exact_of t ≡ o → lexeme_at (t ++ r) ≡ Some (record { «class» = class_of kinds.Op t; text = t })
    by (Some x) f = operator_front t r x f e c.0 c.1
        ∙ ap (λ o. Some (record { «class» = elim o [ Some y ↦ Operator y | None ↦ Join ]; text = t })) (sym f)
    by None f = let g : false ≡ true = rw f at e in cc
token_front kinds.Encoding t r e c = cc
token_front kinds.Comment t r e c = cc
token_front kinds.Nl t r e c = cc
token_front kinds.Newline t r e c = cc
token_front kinds.Indent t r e c = cc
token_front kinds.Dedent t r e c = cc
token_front kinds.EndMarker t r e c = cc

abbrev ends_words : ℕ → Bool
ends_words c = list_all (λ w. not (begins_operator (w ++ c ∷ []))) words

blank_ends : ends_words 32 ≡ true
unfolding operators
blank_ends = refl

feed_ends : ends_words 10 ≡ true
unfolding operators
feed_ends = refl

record Gap (c : ℕ) : Type 0 where
  pub continues : is_xid_continue c ≡ false
  pub quote : ((c == 39) || (c == 34)) ≡ false
  pub point : is_point c ≡ false
  pub digit : is_decimal_digit c ≡ false
  pub words : ends_words c ≡ true

blank_gap : Gap 32
blank_gap = record { continues = is_xid_continue-ascii 32 (omega arith); quote = refl; point = refl; digit = refl; words = blank_ends }

feed_gap : Gap 10
feed_gap = record { continues = is_xid_continue-ascii 10 (omega arith); quote = refl; point = refl; digit = refl; words = feed_ends }

-- where no operator begins with a token and the next character
none_longer : (t r : List ℕ) (c : ℕ) → begins_operator (t ++ c ∷ []) ≡ false → (j : ℕ) → 0 < j → j ≤ length (c ∷ r)
    → is_operator (t ++ take j (c ∷ r)) ≡ false
none_longer t r c e zero h i = absurd (omega arith)
none_longer t r c e (suc j) h i = none_begins t (take j r) c e

no_number : (t r : List ℕ) (c : ℕ) → is_decimal_digit c ≡ false → makes_number t (c ∷ r) ≡ false
no_number t r c e = rw e (none (bytes_eq t (46 ∷ [])))
  where
    none : (b : Bool) → (b && false) ≡ false
    none true = refl
    none false = refl

clear_gap : (k : Kind) (t r : List ℕ) (c : ℕ) → is_token k t ≡ true → Gap c → Clear k t (c ∷ r)
clear_gap kinds.Name t r c e g = (g.continues, g.quote)
clear_gap kinds.Number t r c e g = (g.continues, g.point)
clear_gap kinds.String t r c e g = g.quote
clear_gap kinds.Op t r c e g =
    let w : list_any (bytes_eq t) words ≡ true = sym (by_words t) ∙ e in
    let n = not-true (begins_operator (t ++ c ∷ [])) (one_of (λ w. not (begins_operator (w ++ c ∷ []))) t words g.words w) in
    (none_longer t r c n, no_number t r c g.digit)
clear_gap kinds.Encoding t r c e g = tt
clear_gap kinds.Comment t r c e g = tt
clear_gap kinds.Nl t r c e g = tt
clear_gap kinds.Newline t r c e g = tt
clear_gap kinds.Indent t r c e g = tt
clear_gap kinds.Dedent t r c e g = tt
clear_gap kinds.EndMarker t r c e g = tt

-- What no token begins with
split_off : (p q : List ℕ → Bool) (t : List ℕ) → ((u : List ℕ) → p u ≡ false) → split_any p q t ≡ false
split_off p q [] f = let e : p [] ≡ false = f [] in rw e refl
split_off p q (c ∷ t) f = let e : p [] ≡ false = f [] in rw e (split_off (λ u. p (c ∷ u)) q t (λ u. f (c ∷ u)))

pub record Off (c : ℕ) : Type 0 where
  pub name : starts_name c ≡ false
  pub quote : ((c == 39) || (c == 34)) ≡ false
  pub letter : list_any (eqb (lower c)) (heads prefixes) ≡ false

no_name : (c : ℕ) (u : List ℕ) → starts_name c ≡ false → is_name (c ∷ u) ≡ false
unfolding is_name
no_name c u e = rw e refl

no_string : (c : ℕ) (u : List ℕ) → Off c → is_single_string (c ∷ u) ≡ false
unfolding is_single_string is_single is_prefix
no_string c u o =
    let q = or_parts (c == 39) (c == 34) o.quote in
    let s =
    split_off (λ t. list_any (bytes_eq (map lower (c ∷ t))) prefixes) (λ v. is_single 39 v || is_single 34 v) u
    (λ v. no_head (lower c) (map lower v) prefixes o.letter) in
    rw (q.0, q.1, s) refl

pub no_token : (k : Kind) (c : ℕ) (u : List ℕ) → Off c → (is_number_kind k ≡ true → is_decimal_digit c ≡ false)
    → (is_operator_kind k ≡ true → list_any (eqb c) (heads words) ≡ false) → is_token k (c ∷ u) ≡ false
no_token kinds.Name c u o d s = no_name c u o.name
no_token kinds.Number c u o d s = rw (d refl) refl
no_token kinds.String c u o d s = rw (no_string c u o) refl
no_token kinds.Op c u o d s = no_operator c u (s refl)
no_token kinds.Encoding c u o d s = refl
no_token kinds.Comment c u o d s = refl
no_token kinds.Nl c u o d s = refl
no_token kinds.Newline c u o d s = refl
no_token kinds.Indent c u o d s = refl
no_token kinds.Dedent c u o d s = refl
no_token kinds.EndMarker c u o d s = refl

pub none_empty : (k : Kind) → is_token k [] ≡ true → ⊥
unfolding is_name is_single_string is_prefix is_single
none_empty kinds.Name e = cc
none_empty kinds.Number e = cc
none_empty kinds.String e = cc
none_empty kinds.Op e = let f = no_operator_none in cc
none_empty kinds.Encoding e = cc
none_empty kinds.Comment e = cc
none_empty kinds.Nl e = cc
none_empty kinds.Newline e = cc
none_empty kinds.Indent e = cc
none_empty kinds.Dedent e = cc
none_empty kinds.EndMarker e = cc

digit_off : (c : ℕ) → is_decimal_digit c ≡ true → Off c
digit_off c d =
    let b = digit_bounds c d in
    record {
      name = rw (is_xid_start-ascii c (omega arith)) (grind (arith, nat_tests));
      quote = grind (arith, nat_tests);
      letter = (let l : lower c ≡ c = same c b.1 in rw l (grind (arith, nat_tests)));
    }
  where
    same : (c : ℕ) → c ≤ 57 → lower c ≡ c
    same c h = let n : (leb 65 c && leb c 90) ≡ false = grind (arith, nat_tests) in rw n refl

digit_no_sign : (c : ℕ) → is_decimal_digit c ≡ true → list_any (eqb c) (heads words) ≡ false
digit_no_sign c d = let b = digit_bounds c d in grind (arith, nat_tests)

blank_off : (c : ℕ) → is_blank_char c ≡ true → Off c × (is_decimal_digit c ≡ false) × (list_any (eqb c) (heads words) ≡ false)
blank_off c e =
    ⊎_elim
    (λ (g : (eqb c 32 || eqb c 9) ≡ true).
    ⊎_elim
    (λ (h : eqb c 32 ≡ true). let f : c ≡ 32 = eqb-true c 32 h in
    rw f (record { name = rw (is_xid_start-ascii 32 (omega arith)) refl; quote = refl; letter = refl }, refl, refl))
    (λ (h : eqb c 9 ≡ true). let f : c ≡ 9 = eqb-true c 9 h in
    rw f (record { name = rw (is_xid_start-ascii 9 (omega arith)) refl; quote = refl; letter = refl }, refl, refl))
    (or_cases (eqb c 32) (eqb c 9) g))
    (λ (h : eqb c 12 ≡ true). let f : c ≡ 12 = eqb-true c 12 h in
    rw f (record { name = rw (is_xid_start-ascii 12 (omega arith)) refl; quote = refl; letter = refl }, refl, refl))
    (or_cases (eqb c 32 || eqb c 9) (eqb c 12) e)

-- a token begins with no blank
pub token_no_blank : (k : Kind) (t r : List ℕ) → is_token k t ≡ true → begins is_blank_char (t ++ r) ≡ false
token_no_blank k [] r e = absurd (none_empty k e)
token_no_blank k (c ∷ t) r e = false_from_ne_true (is_blank_char c) (λ h. let o = blank_off c h in let n =
    no_token k c t o.0 (λ z. o.1) (λ z. o.2) in cc)

-- but for a number, with no digit
token_no_digit : (k : Kind) (c : ℕ) (t : List ℕ) → is_token k (c ∷ t) ≡ true → is_number_kind k ≡ false → is_decimal_digit c ≡ false
token_no_digit k c t e f =
    false_from_ne_true (is_decimal_digit c)
    (λ h. let n = no_token k c t (digit_off c h) (λ z. absurd (let y : true ≡ false = sym z ∙ f in cc)) (λ z. digit_no_sign c h) in cc)

-- After a piece that touches
operator_only : (k : Kind) (t : List ℕ) → is_operator_kind k ≡ true → is_token k t ≡ true → is_operator t ≡ true
operator_only kinds.Op t h e = e
operator_only kinds.Name t h e = cc
operator_only kinds.Number t h e = cc
operator_only kinds.String t h e = cc
operator_only kinds.Encoding t h e = cc
operator_only kinds.Comment t h e = cc
operator_only kinds.Nl t h e = cc
operator_only kinds.Newline t h e = cc
operator_only kinds.Indent t h e = cc
operator_only kinds.Dedent t h e = cc
operator_only kinds.EndMarker t h e = cc

record Close (k l : Kind) (t u : List ℕ) : Type 0 where
  pub left : is_token k t ≡ true
  pub right : is_token l u ≡ true
  pub apart : (if is_operator_kind k then not (begins_operator (t ++ take 1 u)) && not (bytes_eq t (46 ∷ []) && is_number_kind l)
      else is_operator_kind l && not (is_number_kind k && bytes_eq (take 1 u) (46 ∷ []))) ≡ true

sign_head : (l : Kind) (c : ℕ) (u : List ℕ) → is_token l (c ∷ u) ≡ true → is_operator_kind l ≡ true → Sign c
sign_head l c u e h = operator_head c u (operator_only l (c ∷ u) h e)

head_eq : (c o : ℕ) → bytes_eq (c ∷ []) (o ∷ []) ≡ (c == o)
head_eq c o = ⊎_elim (λ (h : (c == o) ≡ true). rw h refl) (λ (h : (c == o) ≡ false). rw h refl) (cases_Bool (c == o))

no_number_after : (t r : List ℕ) (l : Kind) (c : ℕ) (u : List ℕ) → is_token l (c ∷ u) ≡ true
    → (bytes_eq t (46 ∷ []) && is_number_kind l) ≡ false
    → makes_number t (c ∷ r) ≡ false
no_number_after t r l c u e n =
    ⊎_elim
    (λ (h : is_number_kind l ≡ true). let f : (bytes_eq t (46 ∷ []) && true) ≡ false =
    subst (λ (b : Bool). (bytes_eq t (46 ∷ []) && b) ≡ false) h n in first (bytes_eq t (46 ∷ [])) (is_decimal_digit c) f)
    (λ (h : is_number_kind l ≡ false). no_number t r c (token_no_digit l c u e h))
    (cases_Bool (is_number_kind l))
  where
    first : (x y : Bool) → (x && true) ≡ false → (x && y) ≡ false
    first true y e = cc
    first false y e = refl

clear_close : (k l : Kind) (t u r : List ℕ) → Close k l t u → Clear k t (u ++ r)
clear_close k l t [] r p = absurd (none_empty l p.right)
clear_close kinds.Name l t (c ∷ u) r p =
    let q = and_parts (is_operator_kind l) true p.apart in
    let s = sign_head l c u p.right q.0 in
    (s.continues, s.quote)
clear_close kinds.Number l t (c ∷ u) r p =
    let q = and_parts (is_operator_kind l) (not (bytes_eq (c ∷ []) (46 ∷ []))) p.apart in
    let s = sign_head l c u p.right q.0 in
    (s.continues, sym (head_eq c 46) ∙ not-true (bytes_eq (c ∷ []) (46 ∷ [])) q.1)
clear_close kinds.String l t (c ∷ u) r p =
    let q = and_parts (is_operator_kind l) true p.apart in
    let s = sign_head l c u p.right q.0 in
    s.quote
clear_close kinds.Op l t (c ∷ u) r p =
    let q = and_parts (not (begins_operator (t ++ c ∷ []))) (not (bytes_eq t (46 ∷ []) && is_number_kind l)) p.apart in (
      none_longer t (u ++ r) c (not-true (begins_operator (t ++ c ∷ [])) q.0),
      no_number_after t (u ++ r) l c u p.right (not-true (bytes_eq t (46 ∷ []) && is_number_kind l) q.1),
    )
clear_close kinds.Encoding l t (c ∷ u) r p = tt
clear_close kinds.Comment l t (c ∷ u) r p = tt
clear_close kinds.Nl l t (c ∷ u) r p = tt
clear_close kinds.Newline l t (c ∷ u) r p = tt
clear_close kinds.Indent l t (c ∷ u) r p = tt
clear_close kinds.Dedent l t (c ∷ u) r p = tt
clear_close kinds.EndMarker l t (c ∷ u) r p = tt

-- Two points, and no third
two_points : (d : ℕ) (t : List ℕ) → (d == 46) ≡ false → is_operator (46 ∷ 46 ∷ d ∷ t) ≡ false
two_points d t e = by_words (46 ∷ 46 ∷ d ∷ t) ∙ rw e refl

no_third : (r : List ℕ) → begins (λ c. c == 46) r ≡ false → (j : ℕ) → 0 < j → j ≤ length (46 ∷ r)
    → is_operator (46 ∷ take j (46 ∷ r)) ≡ false
no_third r e zero h i = absurd (omega arith)
no_third r e (suc zero) h i = by_words (46 ∷ 46 ∷ [])
no_third [] e (suc (suc j)) h i = by_words (46 ∷ 46 ∷ [])
no_third (d ∷ r) e (suc (suc j)) h i = two_points d (take j r) e

clear_points : (k : Kind) (r : List ℕ) → is_token k (46 ∷ []) ≡ true → begins (λ c. c == 46) r ≡ false → Clear k (46 ∷ []) (46 ∷ r)
clear_points kinds.Name r e f = (is_xid_continue-ascii 46 (omega arith), refl)
clear_points kinds.Number r e f = cc
clear_points kinds.String r e f = refl
clear_points kinds.Op r e f = (no_third r f, refl)
clear_points kinds.Encoding r e f = tt
clear_points kinds.Comment r e f = tt
clear_points kinds.Nl r e f = tt
clear_points kinds.Newline r e f = tt
clear_points kinds.Indent r e f = tt
clear_points kinds.Dedent r e f = tt
clear_points kinds.EndMarker r e f = tt

-- After a piece of a line that is told apart
abbrev pub IsPiece : Piece → Type 0
IsPiece p = is_token p.kind p.text ≡ true

record Points (p q : Piece) (qs : List Piece) : Type 0 where
  pub first : p.text ≡ 46 ∷ []
  pub second : q.text ≡ 46 ∷ []
  pub third : (r : Piece) (rs : List Piece) → qs ≡ r ∷ rs → touches q r ≡ true → bytes_eq (take 1 r.text) (46 ∷ []) ≡ false

points_of : (p q : Piece) (qs : List Piece) → are_two_points p q qs ≡ true → Points p q qs
points_of p q [] h =
    let b = and_parts (bytes_eq p.text (46 ∷ [])) (bytes_eq q.text (46 ∷ [])) h in
    record { first = (bytes_eq-Decides p.text (46 ∷ [])).0 b.0; second = (bytes_eq-Decides q.text (46 ∷ [])).0 b.1; third = λ r rs e. cc }
points_of p q (s ∷ ss) h =
    let a = and_parts (bytes_eq p.text (46 ∷ []) && bytes_eq q.text (46 ∷ []))
    (not (touches q s && bytes_eq (take 1 s.text) (46 ∷ []))) h in
    let b = and_parts (bytes_eq p.text (46 ∷ [])) (bytes_eq q.text (46 ∷ [])) a.0 in
    record {
      first = (bytes_eq-Decides p.text (46 ∷ [])).0 b.0;
      second = (bytes_eq-Decides q.text (46 ∷ [])).0 b.1;
      third = λ r rs e t. same r rs e (rw (same_touch r rs e t) at (not-true (touches q s && bytes_eq (take 1 s.text) (46 ∷ [])) a.1));
    }
  where
    head_of : List Piece → Piece
    head_of [] = s
    head_of (x ∷ xs) = x

    first_of_both : (r : Piece) (rs : List Piece) → s ∷ ss ≡ r ∷ rs → s ≡ r
    first_of_both r rs e = cc

    same_touch : (r : Piece) (rs : List Piece) → s ∷ ss ≡ r ∷ rs → touches q r ≡ true → touches q s ≡ true
    same_touch r rs e t = subst (λ (x : Piece). touches q x ≡ true) (sym (first_of_both r rs e)) t

    same : (r : Piece) (rs : List Piece) → s ∷ ss ≡ r ∷ rs → bytes_eq (take 1 s.text) (46 ∷ []) ≡ false
        → bytes_eq (take 1 r.text) (46 ∷ []) ≡ false
    same r rs e n = subst (λ (x : Piece). bytes_eq (take 1 x.text) (46 ∷ []) ≡ false) (first_of_both r rs e) n

abbrev pub ArePieces : List Piece → Type 0
ArePieces qs = list_all (λ r. is_token r.kind r.text) qs ≡ true

third_off : (p q : Piece) (qs : List Piece) (more : List ℕ) → ArePieces qs → Points p q qs
    → begins (λ c. c == 46) (text_following q qs ++ 10 ∷ more) ≡ false
third_off p q [] more a h = refl
third_off p q (r ∷ rs) more a h =
    ⊎_elim
    (λ (t : touches q r ≡ true).
    let i = and_parts (is_token r.kind r.text) (list_all (λ r. is_token r.kind r.text) rs) a in
    rw t (subst (λ (u : List ℕ). begins (λ c. c == 46) u ≡ false) (sym (append_assoc r.text (text_following r rs) (10 ∷ more)))
    (head r.kind r.text (text_following r rs ++ 10 ∷ more) i.0 (h.third r rs refl t))))
    (λ (t : touches q r ≡ false). rw t refl)
    (cases_Bool (touches q r))
  where
    head : (k : Kind) (t u : List ℕ) → is_token k t ≡ true → bytes_eq (take 1 t) (46 ∷ []) ≡ false → begins (λ c. c == 46) (t ++ u) ≡ false
    head k [] u e h = absurd (none_empty k e)
    head k (c ∷ t) u e h = sym (head_eq c 46) ∙ h

clear_third : (p q : Piece) (r : List ℕ) → IsPiece p → p.text ≡ 46 ∷ [] → q.text ≡ 46 ∷ [] → begins (λ c. c == 46) r ≡ false
    → Clear p.kind p.text (q.text ++ r)
clear_third p q r e f g h =
    let i : is_token p.kind (46 ∷ []) ≡ true = subst (λ (t : List ℕ). is_token p.kind t ≡ true) f e in
    subst (λ (t : List ℕ). Clear p.kind t (q.text ++ r)) (sym f)
    (subst (λ (u : List ℕ). Clear p.kind (46 ∷ []) (u ++ r)) (sym g) (clear_points p.kind r i h))

pub clear_after : (p : Piece) (qs : List Piece) (more : List ℕ) → IsPiece p → ArePieces qs → all_apart p qs ≡ true
    → Clear p.kind p.text (text_following p qs ++ 10 ∷ more)
clear_after p [] more e a h = clear_gap p.kind p.text more 10 e feed_gap
clear_after p (q ∷ qs) more e a h =
    let i = and_parts (is_token q.kind q.text) (list_all (λ r. is_token r.kind r.text) qs) a in
    let j = and_parts (not (touches p q) || (stay_apart p q || are_two_points p q qs)) (all_apart q qs) h in
    ⊎_elim
    (λ (t : touches p q ≡ true).
    let s : (stay_apart p q || are_two_points p q qs) ≡ true = rw t at j.0 in
    rw t (subst (λ (u : List ℕ). Clear p.kind p.text u) (sym (append_assoc q.text (text_following q qs) (10 ∷ more)))
    (⊎_elim
    (λ (c : stay_apart p q ≡ true). clear_close p.kind q.kind p.text q.text (text_following q qs ++ 10 ∷ more)
    (record { left = e; right = i.0; apart = c }))
    (λ (c : are_two_points p q qs ≡ true). let x = points_of p q qs c in clear_third p q (text_following q qs ++ 10 ∷ more) e x.first x.second
    (third_off p q qs more i.1 x))
    (or_cases (stay_apart p q) (are_two_points p q qs) s))))
    (λ (t : touches p q ≡ false). rw t (clear_gap p.kind p.text ((q.text ++ text_following q qs) ++ 10 ∷ more) 32 e blank_gap))
    (cases_Bool (touches p q))
