-- Lists of pieces that are told apart, put together.
--
-- Carries: neat_both, begins_both, ends_both, neat_readable and 6 more, for Forms. On:
-- PieceFronts, OperatorFronts, Cases.
use Rattle.std.proofs.Common.{◌≡◌, ℕ, ◌+◌, ◌-◌, Bool, true, false, not, ◌&&◌, ◌||◌, ◌==◌, List, [], ◌∷◌, ◌++◌, take, refl, sym, ◌∙◌, ap}
use Rattle.std.proofs.Common.{subst, arith}
use Rattle.std.proofs.Common.{⊎_elim, eqb, append_assoc, append-nil, length, drop}
use Rattle.std.specs.Prelude.{codes, nat_eq}
use Rattle.std.specs.List.{list_all, list_any, starts_with}
use Rattle.std.specs.Str.{bytes_eq}
use Rattle.std.proofs.lemmas.Bool.Decides.{nat_tests}
use Rattle.std.proofs.lemmas.List.{take-append-drop}
use Rattle.std.proofs.lemmas.Slice.Eq.{bytes_eq-Decides}
use Rattle.std.proofs.lemmas.Bool.{cases_Bool, false_from_ne_true, not-true, or_cases, and_parts}
use Rattle.pylex_listing.specs.declared.kind.Kind.{Kind}
use Rattle.pylex_listing.specs.declared.kind.Kind.TheVariants as kinds
use Rattle.pylex_lexeme.specs.Operators.{operators}
use Rattle.pylex_lexeme.proofs.Callers.Lexemes.{words, heads}
use Rattle.pylex_lexeme.specs.Strings.{lower, prefixes}
use Rattle.pylex_lexeme.proofs.Callers.WholeLines.{one_of}
use Rattle.pyunparse_text.specs.Spacing.{Piece, is_token, is_operator_kind, is_number_kind, touches, stay_apart, are_two_points}
use Rattle.pyunparse_text.specs.Spacing.{begins_operator}
use Rattle.pyunparse_text.specs.Spacing.{all_apart, are_readable}
use Rattle.pyunparse_text.specs.Inner.Edges.{is_among, closings, leading, openings, trailing, begins_expression, ends_expression, is_sign}
use Rattle.pyunparse_text.specs.Inner.Edges.{fit}
use Rattle.pyunparse_text.specs.Inner.Edges.{all_fit, are_neat, begins_by, ends_by}
use Rattle.pyunparse_text.specs.Tokens.{opens, closes, closes_all}
use Rattle.pyunparse_text.proofs.LexemeFronts.PieceFronts.{ArePieces, Off, no_token, none_empty}
use Rattle.pyunparse_text.proofs.LexemeFronts.OperatorFronts.{begins_word, of_any, is_sign_char, sign_of}

-- Neat lists, put together
pub neat_both : (f g : Piece → Bool) → ((p q : Piece) → f p ≡ true → g q ≡ true → fit p q ≡ true)
    → (xs ys : List Piece) → are_neat xs ≡ true
    → ends_by f xs ≡ true → are_neat ys ≡ true → begins_by g ys ≡ true → are_neat (xs ++ ys) ≡ true
neat_both f g j [] ys a e b s = cc
neat_both f g j (p ∷ []) [] a e b s = cc
neat_both f g j (p ∷ []) (q ∷ ys) a e b s = rw (j p q e s, b) refl
neat_both f g j (p ∷ q ∷ xs) ys a e b s =
    let h = and_parts (fit p q) (all_fit q xs) a in
    let r = neat_both f g j (q ∷ xs) ys h.1 e b s in
    rw (h.0, r) refl

pub begins_both : (f : Piece → Bool) (xs ys : List Piece) → begins_by f xs ≡ true → begins_by f (xs ++ ys) ≡ true
begins_both f [] ys e = cc
begins_both f (p ∷ xs) ys e = e

pub ends_both : (f : Piece → Bool) (xs ys : List Piece) → ends_by f ys ≡ true → ends_by f (xs ++ ys) ≡ true
ends_both f [] ys e = e
ends_both f (p ∷ []) [] e = cc
ends_both f (p ∷ []) (q ∷ ys) e = e
ends_both f (p ∷ q ∷ xs) ys e = ends_both f (q ∷ xs) ys e

-- what fits is told apart
pub neat_apart : (p : Piece) (qs : List Piece) → all_fit p qs ≡ true → all_apart p qs ≡ true
neat_apart p [] e = refl
neat_apart p (q ∷ qs) e =
    let h = and_parts (fit p q) (all_fit q qs) e in
    let r = neat_apart q qs h.1 in
    rw r (by (not (touches p q)) (stay_apart p q) (are_two_points p q qs) h.0)
  where
    by : (a b c : Bool) → (a || b) ≡ true → ((a || (b || c)) && true) ≡ true
    by true b c e = refl
    by false true c e = refl
    by false false c e = cc

pub neat_readable : (ps : List Piece) → are_neat ps ≡ true → begins_by (λ p. true) ps ≡ true → ArePieces ps → are_readable ps ≡ true
neat_readable [] e b a = cc
neat_readable (p ∷ ps) e b a = rw (a, neat_apart p ps e) refl

-- Brackets, put together
abbrev pub Balanced : List Piece → Type 0
Balanced xs = (d : ℕ) (ys : List Piece) → closes_all d (xs ++ ys) ≡ closes_all d ys

pub balanced_none : Balanced []
balanced_none d ys = refl

pub balanced_one : (p : Piece) → opens p ≡ false → closes p ≡ false → Balanced (p ∷ [])
balanced_one p o c d ys = rw (o, c) refl

pub balanced_both : (xs ys : List Piece) → Balanced xs → Balanced ys → Balanced (xs ++ ys)
balanced_both xs ys a b d zs = ap (closes_all d) (append_assoc xs ys zs) ∙ a d (ys ++ zs) ∙ b d zs

pub balanced_within : (p q : Piece) (xs : List Piece) → opens p ≡ true → opens q ≡ false → closes q ≡ true → Balanced xs
    → Balanced (p ∷ xs ++ q ∷ [])
balanced_within p q xs o n c a d ys =
    let e : (d + 1 == 0) ≡ false = grind (arith, nat_tests) in
    let m : d + 1 - 1 ≡ d = omega arith in
    rw o (ap (closes_all (d + 1)) (append_assoc xs (q ∷ []) ys) ∙ a (d + 1) (q ∷ ys) ∙ rw (n, c, e, m) refl)

pub balanced_closes : (xs : List Piece) → Balanced xs → closes_all 0 xs ≡ true
balanced_closes xs a = ap (closes_all 0) (sym (append-nil xs)) ∙ a 0 []

-- The characters of operators
abbrev sign_chars : List ℕ
sign_chars = codes "()[]{}:,;+-*/|&<>=.%!~^@"

front_is : (o x : List ℕ) → starts_with nat_eq o x ≡ true → o ≡ x ++ drop (length x) o
front_is o x e = sym (take-append-drop (length x) o) ∙ ap (λ u. u ++ drop (length x) o) (sym ((bytes_eq-Decides x (take (length x) o)).0 e))

char_of : (p : ℕ → Bool) (t r : List ℕ) (c : ℕ) → list_all p ((t ++ c ∷ []) ++ r) ≡ true → p c ≡ true
char_of p [] r c e = (and_parts (p c) (list_all p r) e).0
char_of p (d ∷ t) r c e = char_of p t r c (and_parts (p d) (list_all p ((t ++ c ∷ []) ++ r)) e).1

begins_any : (t : List ℕ) (c : ℕ) (os : List (List ℕ)) → list_all (list_all (λ d. list_any (eqb d) sign_chars)) os ≡ true
    → list_any (λ o. starts_with nat_eq o (t ++ c ∷ [])) os ≡ true → list_any (eqb c) sign_chars ≡ true
begins_any t c [] a e = cc
begins_any t c (o ∷ os) a e =
    let q = and_parts (list_all (λ d. list_any (eqb d) sign_chars) o) (list_all (list_all (λ d. list_any (eqb d) sign_chars)) os) a in
    ⊎_elim
    (λ (h : starts_with nat_eq o (t ++ c ∷ []) ≡ true). char_of (λ d. list_any (eqb d) sign_chars) t (drop (length (t ++ c ∷ [])) o) c
    (subst (λ (u : List ℕ). list_all (λ d. list_any (eqb d) sign_chars) u ≡ true) (front_is o (t ++ c ∷ []) h) q.0))
    (λ (h : list_any (λ o. starts_with nat_eq o (t ++ c ∷ [])) os ≡ true). begins_any t c os q.1 h)
    (or_cases (starts_with nat_eq o (t ++ c ∷ [])) (list_any (λ o. starts_with nat_eq o (t ++ c ∷ [])) os) e)

-- after no operator does a name, a number or a string make a longer one
pub plain_head : (k : Kind) (t u : List ℕ) → is_token k u ≡ true → is_operator_kind k ≡ false → begins_operator (t ++ take 1 u) ≡ false
plain_head k t [] e f = absurd (none_empty k e)
plain_head k t (c ∷ u) e f = false_from_ne_true (begins_operator (t ++ c ∷ [])) (λ h.
    let s : list_any (eqb c) sign_chars ≡ true = begins_any t c words refl (sym (begins_word (t ++ c ∷ [])) ∙ h) in
    let g = sign_of c (of_any is_sign_char c sign_chars refl s) in
    let l = not-true (list_any (eqb (lower c)) (heads prefixes))
    (of_any (λ d. not (list_any (eqb (lower d)) (heads prefixes))) c sign_chars refl s) in
    let o : Off c = record { name = g.starts; quote = g.quote; letter = l } in
    let n = no_token k c u o (λ z. g.digit) (λ z. absurd (let y : true ≡ false = sym z ∙ f in cc)) in
    cc)

-- An expression after a sign
pairs_all : (p : List ℕ → List ℕ → Bool) (ts us : List (List ℕ)) (t u : List ℕ)
    → list_all (λ x. list_all (p x) us) ts ≡ true → is_among ts t ≡ true
    → is_among us u ≡ true → p t u ≡ true
pairs_all p ts us t u a e f = one_of (p t) u us (one_of (λ x. list_all (p x) us) t ts a e) f

abbrev no_longer : List ℕ → List ℕ → Bool
no_longer t u = not (begins_operator (t ++ take 1 u))

leading_openings : list_all (λ x. list_all (no_longer x) openings) leading ≡ true
unfolding operators
leading_openings = refl

closings_trailing : list_all (λ x. list_all (no_longer x) (codes "." ∷ trailing)) closings ≡ true
unfolding operators
closings_trailing = refl

pub after_leading : (p q : Piece) → is_sign leading p ≡ true → begins_expression q ≡ true → stay_apart p q ≡ true
after_leading p q a b =
    let x = and_parts (is_operator_kind p.kind) (is_among leading p.text) a in
    let y0 = and_parts (is_token q.kind q.text) ((not (is_operator_kind q.kind) || is_among openings q.text) && not q.before) b in
    let y : (is_token q.kind q.text ≡ true) × ((not (is_operator_kind q.kind) || is_among openings q.text) ≡ true) =
    (y0.0, (and_parts (not (is_operator_kind q.kind) || is_among openings q.text) (not q.before) y0.1).0) in
    let n : bytes_eq p.text (codes ".") ≡ false =
    not-true (bytes_eq p.text (codes ".")) (one_of (λ t. not (bytes_eq t (codes "."))) p.text leading refl x.1) in
    let m : begins_operator (p.text ++ take 1 q.text) ≡ false = ⊎_elim
    (λ (h : is_operator_kind q.kind ≡ true). let g : is_among openings q.text ≡ true = rw h at y.1 in
    not-true (begins_operator (p.text ++ take 1 q.text)) (pairs_all no_longer leading openings p.text q.text leading_openings x.1 g))
    (λ (h : is_operator_kind q.kind ≡ false). plain_head q.kind p.text q.text y.0 h)
    (cases_Bool (is_operator_kind q.kind)) in
    rw (x.0, n, m) refl

-- A sign after an expression
pub before_trailing : (p q : Piece) → ends_expression p ≡ true → is_sign trailing q ≡ true → stay_apart p q ≡ true
before_trailing p q a b =
    let x0 = and_parts (is_token p.kind p.text) ((not (is_operator_kind p.kind) || is_among closings p.text) && not p.following) a in
    let x : (is_token p.kind p.text ≡ true) × ((not (is_operator_kind p.kind) || is_among closings p.text) ≡ true) =
    (x0.0, (and_parts (not (is_operator_kind p.kind) || is_among closings p.text) (not p.following) x0.1).0) in
    let y = and_parts (is_operator_kind q.kind) (is_among trailing q.text) b in
    let d : bytes_eq (take 1 q.text) (codes ".") ≡ false =
    not-true (bytes_eq (take 1 q.text) (codes ".")) (one_of (λ t. not (bytes_eq (take 1 t) (codes "."))) q.text trailing refl y.1) in
    ⊎_elim
    (λ (h : is_operator_kind p.kind ≡ true).
    let g : is_among closings p.text ≡ true = rw h at x.1 in
    let n : bytes_eq p.text (codes ".") ≡ false =
    not-true (bytes_eq p.text (codes ".")) (one_of (λ t. not (bytes_eq t (codes "."))) p.text closings refl g) in
    let m =
    not-true (begins_operator (p.text ++ take 1 q.text))
    (pairs_all no_longer closings (codes "." ∷ trailing) p.text q.text closings_trailing g (right (bytes_eq q.text (codes "."))
    (is_among trailing q.text) y.1)) in
    rw (h, n, m) refl)
    (λ (h : is_operator_kind p.kind ≡ false). rw (h, y.0, d) (none (is_number_kind p.kind)))
    (cases_Bool (is_operator_kind p.kind))
  where
    right : (x y : Bool) → y ≡ true → (x || y) ≡ true
    right true y e = refl
    right false y e = e

    none : (b : Bool) → not (b && false) ≡ true
    none true = refl
    none false = refl
