-- Carries: the laws of pieces. On: sets of pieces that stand for all that an expression begins or
-- ends with, and which of them may be neighbours.
use Rattle.std.proofs.Common.{◌≡◌, Bool, true, false, not, ◌&&◌, ◌||◌, List, [], ◌∷◌, ◌++◌, take, refl, ⊎_elim, if◌then◌else◌}
use Rattle.std.specs.Prelude.{codes}
use Rattle.std.specs.List.{list_all, list_any}
use Rattle.std.specs.Str.{bytes_eq}
use Rattle.std.proofs.lemmas.Slice.Eq.{bytes_eq-Decides}
use Rattle.pylex_lexeme.specs.declared.kinds.Exact.TheVariants.{LPar, RPar, LSqb, RSqb, LBrace, RBrace, Colon, Comma, Plus, Minus, Star}
use Rattle.pylex_lexeme.specs.declared.kinds.Exact.TheVariants.{Tilde}
use Rattle.pylex_lexeme.specs.declared.kinds.Exact.TheVariants.{DoubleStar, Ellipsis}
use Rattle.pygrammar.specs.declared.levels.Level.{Level}
use Rattle.pygrammar.specs.declared.levels.Level.TheVariants.{Value, Stars, Slices, Part, Slice, Subject}
use Rattle.pytoken.specs.Terminals.{Op}
use Rattle.pyunparse_text.specs.Spacing.{Piece, is_number_kind, is_operator_kind, is_token, touches, begins_operator, stay_apart}
use Rattle.pyunparse_text.specs.Written.{free, leading, trailing, tight}
use Rattle.pyunparse_text.specs.Pieces.{Sited, outside, piece}
use Rattle.pylex_listing.specs.declared.kind.Kind.TheVariants as kinds
use Rattle.std.proofs.lemmas.Bool.{and_parts, or_cases, cases_Bool, not-true, or_left, or_right}
use Rattle.pyunparse_text.specs.Inner.Edges.{fit}
use Rattle.pyunparse_text.proofs.TokenLists.Joins.{plain_head}

abbrev pub same : Bool → Bool → Bool
same true b = b
same false b = not b

-- A piece is of the sort of another: the same sign, or a number, or neither of the two; and it is
-- as close to its neighbours.
abbrev alike_pieces : Piece → Piece → Bool
alike_pieces x p =
    same (is_operator_kind x.kind) (is_operator_kind p.kind) && (same (is_number_kind x.kind)
    (is_number_kind p.kind) &&
    (same x.before p.before && (same x.following p.following && (not (is_operator_kind x.kind) || bytes_eq p.text x.text))))

abbrev is_among : List Piece → Piece → Bool
is_among xs p = list_any (λ x. alike_pieces x p) xs

-- those of the sorts may be neighbours where these would touch
abbrev pub apart : Piece → Piece → Bool
apart x y =
    if is_operator_kind x.kind then (if is_operator_kind y.kind then fit x y else not
    (bytes_eq x.text (codes ".") && is_number_kind y.kind))
    else is_operator_kind y.kind && (bytes_eq y.text (codes ".") || not (is_number_kind x.kind && bytes_eq (take 1 y.text) (codes ".")))

abbrev pub suits : Piece → Piece → Bool
suits x y = not (x.following || y.before) || apart x y

abbrev all_suit : List Piece → List Piece → Bool
all_suit xs ys = list_all (λ x. list_all (suits x) ys) xs

record Alike (x p : Piece) : Type 0 where
  operator : is_operator_kind p.kind ≡ is_operator_kind x.kind
  number : is_number_kind p.kind ≡ is_number_kind x.kind
  before : p.before ≡ x.before
  following : p.following ≡ x.following
  text : is_operator_kind x.kind ≡ true → bytes_eq p.text x.text ≡ true

same_is : (a b : Bool) → same a b ≡ true → b ≡ a
same_is true b e = e
same_is false true e = cc
same_is false false e = refl

alike : (x p : Piece) → alike_pieces x p ≡ true → Alike x p
alike x p e =
    let a = and_parts (same (is_operator_kind x.kind) (is_operator_kind p.kind)) _ e in
    let b = and_parts (same (is_number_kind x.kind) (is_number_kind p.kind)) _ a.1 in
    let c = and_parts (same x.before p.before) _ b.1 in
    let d = and_parts (same x.following p.following) (not (is_operator_kind x.kind) || bytes_eq p.text x.text) c.1 in
    record {
      operator = same_is (is_operator_kind x.kind) (is_operator_kind p.kind) a.0;
      number = same_is (is_number_kind x.kind) (is_number_kind p.kind) b.0;
      before = same_is x.before p.before c.0;
      following = same_is x.following p.following d.0;
      text = λ o. rw o at d.1;
    }

chosen : (o a b : Bool) → o ≡ true → (if o then a else b) ≡ true → a ≡ true
chosen true a b o e = e
chosen false a b o e = cc

loose : (p q : Piece) → (p.following || q.before) ≡ false → fit p q ≡ true
loose p q e = let t : touches p q ≡ false = rw e refl in or_left (not (touches p q)) (stay_apart p q) (rw t refl)

-- what suits fits
suits_fit : (x y p q : Piece) → Alike x p → Alike y q → is_token p.kind p.text ≡ true → is_token q.kind q.text ≡ true → suits x y ≡ true
    → fit p q ≡ true
suits_fit x y p q a b s t e =
    ⊎_elim
    (λ (n : not (x.following || y.before) ≡ true). loose p q (rw (a.following, b.before) (not-true (x.following || y.before) n)))
    (λ (h : apart x y ≡ true).
    ⊎_elim
    (λ (ox : is_operator_kind x.kind ≡ true).
    let po : is_operator_kind p.kind ≡ true = rw a.operator ox in
    let tx : p.text ≡ x.text = (bytes_eq-Decides p.text x.text).0 (a.text ox) in
    ⊎_elim
    (λ (oy : is_operator_kind y.kind ≡ true).
    let ty : q.text ≡ y.text = (bytes_eq-Decides q.text y.text).0 (b.text oy) in
    let f : fit x y ≡ true = chosen (is_operator_kind y.kind) (fit x y) _ oy (chosen (is_operator_kind x.kind) _ _ ox h) in
    rw (a.following, b.before, a.number, b.number, b.following, tx, ty, a.operator, b.operator) f)
    (λ (oy : is_operator_kind y.kind ≡ false).
    let qo : is_operator_kind q.kind ≡ false = rw b.operator oy in
    let f : not (bytes_eq x.text (codes ".") && is_number_kind y.kind) ≡ true = rw (ox, oy) at h in
    let m : begins_operator (p.text ++ take 1 q.text) ≡ false = plain_head q.kind p.text q.text t qo in
    let g : not (bytes_eq p.text (codes ".") && is_number_kind q.kind) ≡ true = rw (tx, b.number) f in
    let r : stay_apart p q ≡ true = rw (po, m, g) refl in
    or_right (not (touches p q)) (stay_apart p q) r)
    (cases_Bool (is_operator_kind y.kind)))
    (λ (ox : is_operator_kind x.kind ≡ false).
    let po : is_operator_kind p.kind ≡ false = rw a.operator ox in
    let f : (is_operator_kind y.kind &&
    (bytes_eq y.text (codes ".") || not (is_number_kind x.kind && bytes_eq (take 1 y.text) (codes ".")))) ≡ true =
    rw ox at h in
    let g =
    and_parts (is_operator_kind y.kind) (bytes_eq y.text (codes ".") || not (is_number_kind x.kind && bytes_eq (take 1 y.text) (codes ".")))
    f in
    let qo : is_operator_kind q.kind ≡ true = rw b.operator g.0 in
    let ty : q.text ≡ y.text = (bytes_eq-Decides q.text y.text).0 (b.text g.0) in
    ⊎_elim
    (λ (i : is_number_kind x.kind ≡ true).
    ⊎_elim
    (λ (d : bytes_eq y.text (codes ".") ≡ true).
    let pn : is_number_kind p.kind ≡ true = rw a.number i in
    let qd : bytes_eq q.text (codes ".") ≡ true = rw ty d in
    let u : touches p q ≡ false = rw (pn, qd) (none (p.following || q.before) _) in
    or_left (not (touches p q)) (stay_apart p q) (rw u refl))
    (λ (d : not (is_number_kind x.kind && bytes_eq (take 1 y.text) (codes ".")) ≡ true).
    let c : not (is_number_kind p.kind && bytes_eq (take 1 q.text) (codes ".")) ≡ true = rw (a.number, ty) d in
    let r : stay_apart p q ≡ true = rw (po, qo, c) refl in
    or_right (not (touches p q)) (stay_apart p q) r)
    (or_cases (bytes_eq y.text (codes ".")) (not (is_number_kind x.kind && bytes_eq (take 1 y.text) (codes "."))) g.1))
    (λ (i : is_number_kind x.kind ≡ false).
    let pn : is_number_kind p.kind ≡ false = rw a.number i in
    let r : stay_apart p q ≡ true = rw (po, qo, pn) refl in
    or_right (not (touches p q)) (stay_apart p q) r)
    (cases_Bool (is_number_kind x.kind)))
    (cases_Bool (is_operator_kind x.kind)))
    (or_cases (not (x.following || y.before)) (apart x y) e)
  where
    none : (a b : Bool) → (a && false && b) ≡ false
    none true b = refl
    none false b = refl

record Found (f : Piece → Bool) (p : Piece) : Type 0 where
  sort : Piece
  passes : f sort ≡ true
  alike : Alike sort p

found : (f : Piece → Bool) (xs : List Piece) (p : Piece) → list_all f xs ≡ true → is_among xs p ≡ true → Found f p
found f [] p a e = cc
found f (x ∷ xs) p a e =
    let h = and_parts (f x) (list_all f xs) a in
    ⊎_elim
    (λ (l : alike_pieces x p ≡ true). let r : Found f p = record { sort = x; passes = h.0; alike = alike x p l } in r)
    (λ (l : is_among xs p ≡ true). found f xs p h.1 l)
    (or_cases (alike_pieces x p) (is_among xs p) e)

all_fit : (xs ys : List Piece) → all_suit xs ys ≡ true → (p q : Piece) → is_token p.kind p.text ≡ true → is_token q.kind q.text ≡ true
    → is_among xs p ≡ true → is_among ys q ≡ true → fit p q ≡ true
all_fit xs ys e p q s t a b =
    let x = found (λ x. list_all (suits x) ys) xs p e a in
    let y = found (suits x.sort) ys q x.passes b in
    suits_fit x.sort y.sort p q x.alike y.alike s t y.passes

-- ---- Sorts of what is written: those of tokens outside of fields, since that a token stands in a field changes texts of literals alone.

abbrev pub like : Sited → Piece → Bool
like x p = alike_pieces (x false) p

abbrev pub is_like : List Sited → Piece → Bool
is_like xs p = is_among (outside xs) p

abbrev pub suit : List Sited → List Sited → Bool
suit xs ys = all_suit (outside xs) (outside ys)

-- a token of some sort
abbrev pub within : List Sited → Piece → Bool
within xs p = is_token p.kind p.text && is_like xs p

pub sorts_fit : (xs ys : List Sited) → suit xs ys ≡ true → (p q : Piece) → within xs p ≡ true → within ys q ≡ true → fit p q ≡ true
sorts_fit xs ys e p q a b =
    let s = and_parts (is_token p.kind p.text) (is_like xs p) a in
    let t = and_parts (is_token q.kind q.text) (is_like ys q) b in
    all_fit (outside xs) (outside ys) e p q s.0 t.0 s.1 t.1

-- Sets
abbrev pub a_word : Sited
a_word is_in_field = record { kind = kinds.Name; text = []; before = false; following = false }

abbrev pub a_number : Sited
a_number is_in_field = record { kind = kinds.Number; text = []; before = false; following = false }

-- what an expression begins with, words aside
abbrev pub starts_other : List Sited
starts_other =
    a_number ∷ leading piece LPar ∷ leading piece LSqb ∷ leading piece LBrace ∷ leading piece Plus ∷ leading piece Minus ∷ leading piece
    Tilde ∷ free piece (Op Ellipsis) ∷ []

abbrev pub starts_plain : List Sited
starts_plain = a_word ∷ starts_other

-- the same, or a star
abbrev pub starts_item : List Sited
starts_item = leading piece Star ∷ leading piece DoubleStar ∷ starts_plain

-- the same, or a slice's colon
abbrev pub starts_part : List Sited
starts_part = tight piece Colon ∷ starts_item

abbrev pub ends_plain : List Sited
ends_plain = a_word ∷ a_number ∷ trailing piece RPar ∷ trailing piece RSqb ∷ trailing piece RBrace ∷ free piece (Op Ellipsis) ∷ []

-- the same, or a comma
abbrev pub ends_comma : List Sited
ends_comma = trailing piece Comma ∷ ends_plain

abbrev pub ends_part : List Sited
ends_part = tight piece Colon ∷ ends_comma

-- by level, and by whether a star may stand there
abbrev pub starts : Bool → Level → List Sited
starts s Slices = starts_part
starts s Part = starts_part
starts s Slice = starts_part
starts s Value = starts_item
starts s Stars = starts_item
starts s Subject = starts_item
starts true l = starts_item
starts false l = starts_plain

abbrev pub ends : Level → List Sited
ends Slices = ends_part
ends Part = ends_part
ends Slice = ends_part
ends Value = ends_comma
ends Stars = ends_comma
ends Subject = ends_comma
ends l = ends_plain

pub more_item : (p : Piece) → within starts_plain p ≡ true → within starts_item p ≡ true
more_item p e = let h = and_parts (is_token p.kind p.text) (is_like starts_plain p) e in let g =
    or_right (like (leading piece Star) p) _ (or_right (like (leading piece DoubleStar) p) (is_like starts_plain p) h.1) in rw (h.0, g) refl

pub more_part : (p : Piece) → within starts_item p ≡ true → within starts_part p ≡ true
more_part p e = let h = and_parts (is_token p.kind p.text) (is_like starts_item p) e in let g =
    or_right (like (tight piece Colon) p) (is_like starts_item p) h.1 in rw (h.0, g) refl

pub more_comma : (p : Piece) → within ends_plain p ≡ true → within ends_comma p ≡ true
more_comma p e = let h = and_parts (is_token p.kind p.text) (is_like ends_plain p) e in let g =
    or_right (like (trailing piece Comma) p) (is_like ends_plain p) h.1 in rw (h.0, g) refl

pub more_colon : (p : Piece) → within ends_comma p ≡ true → within ends_part p ≡ true
more_colon p e = let h = and_parts (is_token p.kind p.text) (is_like ends_comma p) e in let g =
    or_right (like (tight piece Colon) p) (is_like ends_comma p) h.1 in rw (h.0, g) refl

pub starts_more : (s : Bool) (l : Level) (p : Piece) → within starts_plain p ≡ true → within (starts s l) p ≡ true
starts_more s Slices p e = more_part p (more_item p e)
starts_more s Part p e = more_part p (more_item p e)
starts_more s Slice p e = more_part p (more_item p e)
starts_more s Value p e = more_item p e
starts_more s Stars p e = more_item p e
starts_more s Subject p e = more_item p e
starts_more true l p e = more_item p e
starts_more false l p e = e

pub ends_more : (l : Level) (p : Piece) → within ends_plain p ≡ true → within (ends l) p ≡ true
ends_more Slices p e = more_colon p (more_comma p e)
ends_more Part p e = more_colon p (more_comma p e)
ends_more Slice p e = more_colon p (more_comma p e)
ends_more Value p e = more_comma p e
ends_more Stars p e = more_comma p e
ends_more Subject p e = more_comma p e
ends_more l p e = e
