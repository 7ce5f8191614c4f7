-- What is written of an expression, form by form: its pieces are tokens, told apart, and begin and
-- end as an expression does. How brackets add up is in Joins.
--
-- Carries: what pyunparse_text cites. On: Joins, PieceFronts, Runs, Cases.
use Rattle.std.proofs.Common.{◌≡◌, ℕ, Bool, true, false, not, ◌&&◌, ◌||◌, List, [], ◌∷◌, ◌++◌, refl, ◌∙◌}
use Rattle.std.specs.Prelude.{codes}
use Rattle.std.specs.List.{list_all}
use Rattle.std.specs.Str.{all_scalars}
use Rattle.std.proofs.lemmas.List.Folds.{list_all-append}
use Rattle.std.proofs.lemmas.Bool.{not-true, and_parts}
use Rattle.pylex_listing.specs.declared.kind.Kind.TheVariants as kinds
use Rattle.pylex_lexeme.proofs.Callers.Lexemes.{by_words}
use Rattle.pyunparse_text.specs.Spacing.{Piece, is_token, is_operator_kind, touches, stay_apart}
use Rattle.pyunparse_text.specs.Inner.Edges.{begins_item, is_among, closings, leading, openings, trailing}
use Rattle.pyunparse_text.specs.Inner.Edges.{begins_expression}
use Rattle.pyunparse_text.specs.Inner.Edges.{ends_expression, is_free_after, is_free_before, is_sign, fit, are_neat, begins_by, ends_by}
use Rattle.pyunparse_text.proofs.LexemeFronts.PieceFronts.{ArePieces}
use Rattle.pyunparse_text.proofs.Listings.Runs.{AreScalar}
use Rattle.pyunparse_text.proofs.TokenLists.Joins.{neat_both, begins_both, ends_both}
use Rattle.pyunparse_text.proofs.TokenLists.Joins.{after_leading}
use Rattle.pyunparse_text.proofs.TokenLists.Joins.{before_trailing}

-- pieces that begin and end by these tests
pub record Written (b e : Piece → Bool) (ps : List Piece) : Type 0 where
  pub pieces : ArePieces ps
  pub scalars : AreScalar ps
  pub neat : are_neat ps ≡ true
  pub begins : begins_by b ps ≡ true
  pub ends : ends_by e ps ≡ true

-- two lists, where the one's last piece and the other's first fit
pub both : (b f g e : Piece → Bool) → ((p q : Piece) → f p ≡ true → g q ≡ true → fit p q ≡ true) → (xs ys : List Piece) → Written b f xs
    → Written g e ys → Written b e (xs ++ ys)
both b f g e j xs ys x y = record {
  pieces = list_all-append (λ r. is_token r.kind r.text) xs ys ∙ and (list_all (λ r. is_token r.kind r.text) xs) _ x.pieces y.pieces;
  scalars = list_all-append (λ r. all_scalars r.text) xs ys ∙ and (list_all (λ r. all_scalars r.text) xs) _ x.scalars y.scalars;
  neat = neat_both f g j xs ys x.neat x.ends y.neat y.begins;
  begins = begins_both b xs ys x.begins;
  ends = ends_both e xs ys y.ends;
}
  where
    and : (x y : Bool) → x ≡ true → y ≡ true → (x && y) ≡ true
    and x y e f = rw (e, f) refl

-- other tests that say less
pub weaker : (b c e f : Piece → Bool) → ((p : Piece) → b p ≡ true → c p ≡ true)
    → ((p : Piece) → e p ≡ true → f p ≡ true) → (xs : List Piece)
    → Written b e xs → Written c f xs
weaker b c e f g h xs x = record {
  pieces = x.pieces;
  scalars = x.scalars;
  neat = x.neat;
  begins =
      first xs x.begins;
  ends = last xs x.ends;
}
  where
    first : (xs : List Piece) → begins_by b xs ≡ true → begins_by c xs ≡ true
    first [] s = cc
    first (p ∷ xs) s = g p s

    last : (xs : List Piece) → ends_by e xs ≡ true → ends_by f xs ≡ true
    last [] s = cc
    last (p ∷ []) s = h p s
    last (p ∷ q ∷ xs) s = last (q ∷ xs) s

-- Neighbours that fit
pub blank_fits : (p q : Piece) → is_free_after p ≡ true → is_free_before q ≡ true → fit p q ≡ true
blank_fits p q a b =
    let x = not-true p.following a in
    let y = not-true q.before b in
    let t : touches p q ≡ false = rw (x, y) refl in
    rw t refl

apart_fits : (p q : Piece) → stay_apart p q ≡ true → fit p q ≡ true
apart_fits p q e = last (not (touches p q)) (stay_apart p q) e
  where
    last : (a b : Bool) → b ≡ true → (a || b) ≡ true
    last true b e = refl
    last false b e = e

pub leading_fits : (p q : Piece) → is_sign leading p ≡ true → begins_expression q ≡ true → fit p q ≡ true
leading_fits p q a b = apart_fits p q (after_leading p q a b)

pub trailing_fits : (p q : Piece) → ends_expression p ≡ true → is_sign trailing q ≡ true → fit p q ≡ true
trailing_fits p q a b = apart_fits p q (before_trailing p q a b)

pub free_after : (p : Piece) → ends_expression p ≡ true → is_free_after p ≡ true
free_after p e = (and_parts (not (is_operator_kind p.kind) || is_among closings p.text) (not p.following)
    (and_parts (is_token p.kind p.text) _ e).1).1

pub free_before : (p : Piece) → begins_expression p ≡ true → is_free_before p ≡ true
free_before p e = (and_parts (not (is_operator_kind p.kind) || is_among openings p.text) (not p.before)
    (and_parts (is_token p.kind p.text) _ e).1).1

-- One piece
abbrev pub Expression : List Piece → Type 0
Expression ps = Written begins_expression ends_expression ps

pub one_piece : (p : Piece) → is_token p.kind p.text ≡ true → is_operator_kind p.kind ≡ false → p.before ≡ false → p.following ≡ false
    → all_scalars p.text ≡ true → Expression (p ∷ [])
one_piece p t o l r s = record {
  pieces = rw t refl;
  scalars = rw s refl;
  neat = refl;
  begins = rw (t, o, l) refl;
  ends = rw (t, o, r) refl;
}

-- a sign alone, by what its neighbours are to know of it
pub one_sign : (f : Piece → Bool) (p : Piece) → is_token p.kind p.text ≡ true → all_scalars p.text ≡ true
    → f p ≡ true → Written f f (p ∷ [])
one_sign f p t s e = record { pieces = rw t refl; scalars = rw s refl; neat = refl; begins = e; ends = e }

-- Forms
abbrev sign : Bool → Bool → List ℕ → Piece
sign l r t = record { kind = kinds.Op; text = t; before = l; following = r }

-- xs `+` ys
pub added : (xs ys : List Piece) → Expression xs → Expression ys → Expression (xs ++ sign false false (codes "+") ∷ ys)
added xs ys x y =
    let m : Written is_free_before is_free_after (sign false false (codes "+") ∷ []) =
    (let t = by_words (codes "+") in record { pieces = rw t refl; scalars = refl; neat = refl; begins = refl; ends = refl }) in
    both begins_expression ends_expression is_free_before ends_expression (λ p q a b. blank_fits p q (free_after p a) b) xs
    (sign false false (codes "+") ∷ ys) x
    (both is_free_before is_free_after begins_expression ends_expression (λ p q a b. blank_fits p q a (free_before q b))
    (sign false false (codes "+") ∷ []) ys m y)

-- Items: expressions, and what begins with a star
abbrev pub Item : List Piece → Type 0
Item ps = Written begins_item ends_expression ps

pub item : (xs : List Piece) → Expression xs → Item xs
item xs x = weaker begins_expression begins_item ends_expression ends_expression (λ p e. rw e refl) (λ p e. e) xs x

-- `*` xs
pub starred : (xs : List Piece) → Expression xs → Item (sign false true (codes "*") ∷ xs)
starred xs x =
    let l : Written begins_item (is_sign leading) (sign false true (codes "*") ∷ []) =
    (let t = by_words (codes "*") in record { pieces = rw t refl; scalars = refl; neat = refl; begins = rw t refl; ends = refl }) in
    both begins_item (is_sign leading) begins_expression ends_expression leading_fits (sign false true (codes "*") ∷ []) xs l x

-- name `=` xs
pub keyword : (t : List ℕ) (xs : List Piece) → is_token kinds.Name t ≡ true → all_scalars t ≡ true → Expression xs
    → Item (record { kind = kinds.Name; text = t; before = false; following = false } ∷ sign true true (codes "=") ∷ xs)
keyword t xs e s x =
    let n : Expression (record { kind = kinds.Name; text = t; before = false; following = false } ∷ []) =
    one_piece (record { kind = kinds.Name; text = t; before = false; following = false }) e refl refl refl s in
    let m : Written (is_sign trailing) (is_sign leading) (sign true true (codes "=") ∷ []) =
    (let o = by_words (codes "=") in record { pieces = rw o refl; scalars = refl; neat = refl; begins = refl; ends = refl }) in
    item (record { kind = kinds.Name; text = t; before = false; following = false } ∷ sign true true (codes "=") ∷ xs)
    (both begins_expression ends_expression (is_sign trailing) ends_expression trailing_fits
    (record { kind = kinds.Name; text = t; before = false; following = false } ∷ []) (sign true true (codes "=") ∷ xs) n
    (both (is_sign trailing) (is_sign leading) begins_expression ends_expression leading_fits (sign true true (codes "=") ∷ []) xs m x))
