-- Carries: the laws of pieces. On: imports: names with points between, and the points of a level,
-- of which two may stand together, since no third does.
use Rattle.std.proofs.Common.{◌≡◌, ℕ, zero, suc, ◌==◌, Bool, true, false, not, ◌&&◌, ◌||◌, List, [], ◌∷◌, ◌++◌, take, map, Option, Some}
use Rattle.std.proofs.Common.{None, refl}
use Rattle.std.proofs.Common.{sym, subst, ◌∙◌, arith}
use Rattle.std.specs.Prelude.{cond, codes}
use Rattle.std.specs.List.{list_all}
use Rattle.std.specs.Str.{all_scalars, bytes_eq}
use Rattle.std.proofs.lemmas.Bool.{and_parts, and_from, or_right}
use Rattle.std.proofs.lemmas.List.Folds.{list_all-append}
use Rattle.std.proofs.lemmas.Slice.Eq.{bytes_eq-Decides}
use Rattle.pylex_lexeme.specs.declared.kinds.Exact.TheVariants.{Star, Dot, Ellipsis}
use Rattle.pylex_lexeme.specs.Operators.{operators}
use Rattle.pylex_listing.specs.declared.kind.Kind.TheVariants as kinds
use Rattle.pytree_node.specs.declared.profiles.Extent.{Extent}
use Rattle.pytree_node.specs.declared.profiles.Extent.TheVariants.{Whole}
use Rattle.pytoken.specs.declared.keywords.Keyword.{Keyword}
use Rattle.pytoken.specs.declared.keywords.Keyword.TheVariants as Key
use Rattle.pytree_node.specs.Trees.{Identifier, Alias}
use Rattle.pytoken.specs.Terminals.{Terminal, Op, Word, in_form}
use Rattle.pytoken.specs.Laws.{IsProper}
use Rattle.pygrammar.specs.DottedNames.{lengthen, names_in}
use Rattle.pyunparse_text.specs.Spacing.{Piece, is_token, is_operator_kind, touches, stay_apart, are_two_points, begins_operator, all_apart}
use Rattle.pyunparse_text.specs.Spacing.{are_readable}
use Rattle.pyunparse_text.specs.Tokens.{closes_all}
use Rattle.pyunparse_text.specs.Inner.Edges.{fit, all_fit, are_neat, begins_by, ends_by}
use Rattle.pyunparse_text.proofs.Callers.Pieces.{ArePieces}
use Rattle.pyunparse_text.proofs.Callers.Lists.{Written, AreScalar, begins_both, neat_apart, Balanced, balanced_both, balanced_closes}
use Rattle.pyunparse_text.specs.Written.{free, word, tight, listed}
use Rattle.pyunparse_text.specs.Terminals.{terminal}
use Rattle.pyunparse_text.specs.Pieces.{Sited, sited, outside, piece}
use Rattle.pyunparse_text.specs.Statements as S
use Rattle.pyunparse_text.proofs.TokenLists.Joins.{plain_head}
use Rattle.pyunparse_text.proofs.PieceLaws.Fair.{fair_word, fair_name}
use Rattle.pyunparse_text.proofs.PieceLaws.Places.{outside as no_field, open_place, at_both, GiveAt, give_outside}
use Rattle.pyunparse_text.proofs.PieceLaws.Shallow.{Low, low_front, low_back}
use Rattle.pyunparse_text.proofs.PieceLaws.Law.{Reads}
use Rattle.pyunparse_text.proofs.PieceLaws.Sorts.{is_like, like, within, suit, sorts_fit, a_word, starts_plain, ends_plain}
use Rattle.pyunparse_text.proofs.PieceLaws.Segments.{Closed, Perhaps, nothing, some, Each, none, more, join, widen, token, sign, tail}
use Rattle.pyunparse_text.proofs.PieceLaws.Segments.{give_both}
use Rattle.pyunparse_text.proofs.PieceLaws.Shapes.{Plain, keyword, name, plain_name}
use Rattle.pyunparse_text.proofs.PieceLaws.Listings.{perhaps_widen, plain_tail}
use Rattle.pyunparse_text.proofs.PieceLaws.LineForms.{AreProper, MaybeProper, as_name_are, plain_listed, word_plain}

abbrev told : List Piece → Bool
told [] = true
told (p ∷ ps) = all_apart p ps

pub record LaterParts (extent : Extent) (b : List Sited) (ps : List Piece) (ts : List Terminal) : Type 0 where
  pub pieces : ArePieces ps
  pub scalars : AreScalar ps
  pub apart : told ps ≡ true
  pub begins : begins_by (within b) ps ≡ true
  pub gives : GiveAt (open_place extent) ps ts

pub record Later (extent : Extent) (b : List Sited) (ps : List Sited) (ts : List Terminal) : Type 0 where
  pub parts : Low ts → LaterParts extent b (outside ps) ts
  pub balanced : Balanced (outside ps)

neat_told : (ps : List Piece) → are_neat ps ≡ true → told ps ≡ true
neat_told [] e = refl
neat_told (p ∷ ps) e = neat_apart p ps e

wider : (a b c : Bool) → (a || b) ≡ true → (a || (b || c)) ≡ true
wider true b c e = refl
wider false true c e = refl
wider false false c e = cc

told_both : (f g : Piece → Bool) → ((p q : Piece) → f p ≡ true → g q ≡ true → fit p q ≡ true) → (xs ys : List Piece)
    → are_neat xs ≡ true → ends_by f xs ≡ true → told ys ≡ true → begins_by g ys ≡ true → told (xs ++ ys) ≡ true
told_both f g j [] ys a e b s = cc
told_both f g j (p ∷ []) [] a e b s = cc
told_both f g j (p ∷ []) (q ∷ ys) a e b s =
    and_from (not (touches p q) || (stay_apart p q || are_two_points p q ys)) (all_apart q ys)
    (wider (not (touches p q)) (stay_apart p q) (are_two_points p q ys) (j p q e s)) b
told_both f g j (p ∷ q ∷ xs) ys a e b s =
    let h = and_parts (fit p q) (all_fit q xs) a in
    and_from (not (touches p q) || (stay_apart p q || are_two_points p q (xs ++ ys))) (all_apart q (xs ++ ys))
    (wider (not (touches p q)) (stay_apart p q) (are_two_points p q (xs ++ ys)) h.0) (told_both f g j (q ∷ xs) ys h.1 e b s)

readable : (b : List Sited) (ps : List Piece) → ArePieces ps → told ps ≡ true → begins_by (within b) ps ≡ true → are_readable ps ≡ true
readable b [] a t e = cc
readable b (p ∷ ps) a t e = and_from (list_all (λ q. is_token q.kind q.text) (p ∷ ps)) (all_apart p ps) a t

-- a name that keeps close to the points before it
abbrev near_word : Sited
near_word is_in_field = record { kind = kinds.Name; text = []; before = true; following = false }

-- what stands after points
abbrev after_points : List Sited
after_points = near_word ∷ a_word ∷ []

abbrev ends_near : List Sited
ends_near = near_word ∷ ends_plain

more_near : (p : Piece) → within ends_plain p ≡ true → within ends_near p ≡ true
more_near p e = let h = and_parts (is_token p.kind p.text) (is_like ends_plain p) e in let g =
    or_right (like near_word p) (is_like ends_plain p) h.1 in rw (h.0, g) refl

word_after : (p : Piece) → within (a_word ∷ []) p ≡ true → within after_points p ≡ true
word_after p e = let h = and_parts (is_token p.kind p.text) (is_like (a_word ∷ []) p) e in let g =
    or_right (like near_word p) (is_like (a_word ∷ []) p) h.1 in rw (h.0, g) refl

-- a text is of one name at least
record Named (x : Identifier) : Type 0 where
  first : Identifier
  others : List Identifier
  is : names_in x ≡ first ∷ others

longer_named : (c : ℕ) (xs : List Identifier) → (y : Identifier) × (ys : List Identifier) × (lengthen c xs ≡ y ∷ ys)
longer_named c [] = (c ∷ [], [], refl)
longer_named c (x ∷ xs) = (c ∷ x, xs, refl)

named : (x : Identifier) → Named x
named [] = record { first = []; others = []; is = refl }
named (c ∷ cs) = by (c == 46) refl
  where
    by : (b : Bool) → (c == 46) ≡ b → Named (c ∷ cs)
    by true e = record { first = []; others = names_in cs; is = rw e refl }
    by false e = let w = longer_named c (names_in cs) in record { first = w.0; others = w.1; is = rw e w.2 }

-- the points of a level begin so
abbrev point_starts : Bool → List Sited
point_starts close = sited (Op Dot) close false ∷ sited (Op Ellipsis) close false ∷ []

three_begin : begins_operator (codes "...") ≡ true
unfolding operators
three_begin = refl

word_kind : (q : Piece) → is_like after_points q ≡ true → is_operator_kind q.kind ≡ false
word_kind q e = by (is_operator_kind q.kind) refl e
  where
    by : (b : Bool) → is_operator_kind q.kind ≡ b → is_like after_points q ≡ true → b ≡ false
    by false f e = refl
    by true f e = let g : false ≡ true = rw f at e in absurd (cc)

abbrev second : Piece
second = sited (Op Dot) true false false

two_apart : (close : Bool) (q : Piece) (qs : List Piece) → bytes_eq (take 1 q.text) (codes ".") ≡ false
    → fit second q ≡ true → all_apart q qs ≡ true
    → all_apart (sited (Op Dot) close false false) (second ∷ q ∷ qs) ≡ true
two_apart close q qs n f a =
    let p : Piece = sited (Op Dot) close false false in
    let t : are_two_points p second (q ∷ qs) ≡ true = rw n (none (touches second q)) in
    and_from (not (touches p second) || (stay_apart p second || are_two_points p second (q ∷ qs))) (all_apart second (q ∷ qs))
    (or_right (not (touches p second)) (stay_apart p second || are_two_points p second (q ∷ qs))
    (or_right (stay_apart p second) (are_two_points p second (q ∷ qs)) t))
    (and_from (not (touches second q) || (stay_apart second q || are_two_points second q qs)) (all_apart q qs)
    (wider (not (touches second q)) (stay_apart second q) (are_two_points second q qs) f) a)
  where
    none : (b : Bool) → not (b && false) ≡ true
    none true = refl
    none false = refl

one_suit : (close : Bool) → suit (point_starts close) after_points ≡ true
unfolding operators
one_suit close = refl

-- by whether there are any
abbrev level_starts : Bool → ℕ → List Sited
level_starts close zero = after_points
level_starts close (suc n) = point_starts close

three_suit : (close : Bool) (n : ℕ) → suit (sited (Op Ellipsis) close false ∷ []) (level_starts true n) ≡ true
unfolding operators
three_suit close zero = refl
three_suit close (suc n) = refl

abbrev pub SoundNames : List Alias → Type 0
SoundNames [] = Unit {0}
SoundNames (a ∷ names) = IsProper a.name × MaybeProper a.asname × SoundNames names

-- names, or `*`
abbrev pub SoundUnless : Bool → List Alias → Type 0
SoundUnless true names = Unit {0}
SoundUnless false names = SoundNames names

abbrev ends_import : List Sited
ends_import = free piece (Op Star) ∷ ends_plain

more_import : (p : Piece) → within ends_plain p ≡ true → within ends_import p ≡ true
more_import p e = let h = and_parts (is_token p.kind p.text) (is_like ends_plain p) e in let g =
    or_right (like (free piece (Op Star)) p) (is_like ends_plain p) h.1 in rw (h.0, g) refl

abbrev pub SoundAliases : List Alias → Type 0
SoundAliases [] = Unit {0}
SoundAliases (a ∷ names) = AreProper (names_in a.name) × MaybeProper a.asname × SoundAliases names

-- after points
abbrev pub SoundModule : Option Identifier → Type 0
SoundModule None = Unit {0}
SoundModule (Some x) = AreProper (names_in x)

level_suit : suit ends_plain (point_starts false) ≡ true
unfolding operators
level_suit = refl

module _ {extent : Extent} where
  -- ---- Pieces that are told apart, though two points may be among them.

  pub later : {b e : List Sited} {ps : List Sited} {ts : List Terminal} → Closed (open_place extent) b e ps ts → Later extent b ps ts
  later {ps = ps} x = record {
    parts = λ low.
        let g = x.segment low in
        record {
          pieces = g.form.pieces;
          scalars = g.form.scalars;
          apart = neat_told (outside ps) g.form.neat;
          begins =
              g.form.begins;
          gives = g.gives;
        };
    balanced = x.balanced;
  }

  joined_parts : {a c : List Sited} {xs ys : List Piece} {ts us : List Terminal} (b : List Sited) → Written (within a) (within b) xs
      → GiveAt (open_place extent) xs ts → LaterParts extent c ys us → suit b c ≡ true → LaterParts extent a (xs ++ ys) (ts ++ us)
  joined_parts {a} {c} {xs} {ys} b f g y s = record {
    pieces = list_all-append (λ p. is_token p.kind p.text) xs ys ∙ and_from (list_all (λ p. is_token p.kind p.text) xs)
        (list_all (λ p. is_token p.kind p.text) ys) f.pieces y.pieces;
    scalars = list_all-append (λ p. all_scalars p.text) xs ys ∙ and_from (list_all (λ p. all_scalars p.text) xs)
        (list_all (λ p. all_scalars p.text) ys) f.scalars y.scalars;
    apart = told_both (within b) (within c) (sorts_fit b c s) xs ys f.neat f.ends y.apart y.begins;
    begins = begins_both (within a) xs ys f.begins;
    gives = give_both g y.gives;
  }

  pub join_later : {a b c : List Sited} {xs ys : List Sited} {ts us : List Terminal}
      → Closed (open_place extent) a b xs ts → Later extent c ys us
      → suit b c ≡ true → Later extent a (xs ++ ys) (ts ++ us)
  join_later {a} {b} {c} {xs} {ys} {ts} {us} x y s =
      let e = sym (at_both no_field xs ys) in
      record {
        parts = λ low.
            let g = x.segment (low_front ts us low) in
            subst (λ ps. LaterParts extent a ps (ts ++ us)) e (joined_parts b g.form g.gives (y.parts (low_back ts us x.flat low)) s);
        balanced = subst Balanced e (balanced_both (outside xs) (outside ys) x.balanced y.balanced);
      }

  pub later_read : {b : List Sited} {ps : List Sited} {ts : List Terminal} → Later extent b ps ts → Reads extent ps ts
  later_read {b} {ps} x low =
      let g = x.parts low in
      record {
        give = give_outside g.gives;
        line = λ n.
            let r : are_readable (outside ps) ≡ true = readable b (outside ps) g.pieces g.apart g.begins in
            let c : closes_all 0 (outside ps) ≡ true = balanced_closes (outside ps) x.balanced in
            let s = g.scalars in
            rw (r, c, s) refl;
      }

  -- ---- Names with points between.

  near_name : (x : Identifier) → IsProper x → Closed (open_place extent) after_points ends_near
      (sited (in_form x) true false ∷ []) (in_form x ∷ [])
  near_name x h = token after_points ends_near (in_form x) true false (fair_name x h) refl refl refl refl

  first_word : (k : Keyword) → Closed (open_place extent) (a_word ∷ []) ends_plain (word piece k ∷ []) (word terminal k ∷ [])
  first_word k = token (a_word ∷ []) ends_plain (Word k) false false (fair_word k) refl refl refl refl

  point : Closed (open_place extent) (tight piece Dot ∷ []) (tight piece Dot ∷ []) (tight piece Dot ∷ []) (tight terminal Dot ∷ [])
  point = sign (tight piece Dot ∷ []) (tight piece Dot ∷ []) Dot true true refl refl refl

  rest_are : (xs : List Identifier) → AreProper xs
      → Perhaps (open_place extent) (tight piece Dot ∷ []) ends_plain (S.dotted_rest piece xs) (S.dotted_rest terminal xs)
  unfolding operators
  rest_are [] h = nothing
  rest_are (x ∷ xs) h = some (join point (tail (name x h.0) (rest_are xs h.1) refl) refl)

  plain_names : (x : Identifier) (xs : List Identifier) → AreProper (x ∷ xs)
      → Plain (open_place extent) (S.dotted_names piece false (x ∷ xs)) (S.dotted_names terminal false (x ∷ xs))
  unfolding operators
  plain_names x xs h = tail (plain_name x h.0) (rest_are xs h.1) refl

  near_names : (x : Identifier) (xs : List Identifier) → AreProper (x ∷ xs)
      → Closed (open_place extent) after_points ends_near (S.dotted_names piece true (x ∷ xs)) (S.dotted_names terminal true (x ∷ xs))
  unfolding operators
  near_names x xs h = tail (near_name x h.0) (perhaps_widen {c = tight piece Dot ∷ []} (λ p e. e) more_near (rest_are xs h.1)) refl

  pub dotted_plain : (x : Identifier) → AreProper (names_in x) → Plain (open_place extent) (S.dotted piece false x)
      (S.dotted terminal false x)
  dotted_plain x h = let w = named x in
      subst (λ xs. Plain (open_place extent) (S.dotted_names piece false xs) (S.dotted_names terminal false xs)) (sym w.is)
      (plain_names w.first w.others (subst AreProper w.is h))

  dotted_near : (x : Identifier) → AreProper (names_in x)
      → Closed (open_place extent) after_points ends_near (S.dotted piece true x) (S.dotted terminal true x)
  dotted_near x h = let w = named x in
      subst (λ xs. Closed (open_place extent) after_points ends_near (S.dotted_names piece true xs) (S.dotted_names terminal true xs))
      (sym w.is) (near_names w.first w.others (subst AreProper w.is h))

  -- ---- Points.

  one_point : (close : Bool) → Closed (open_place extent) (point_starts close) (point_starts close)
      (sited (Op Dot) close false ∷ []) (Op Dot ∷ [])
  one_point true = sign (point_starts true) (point_starts true) Dot true false refl refl refl
  one_point false = sign (point_starts false) (point_starts false) Dot false false refl refl refl

  three_points : (close : Bool)
      → Closed (open_place extent) (point_starts close) (sited (Op Ellipsis) close false ∷ []) (sited (Op Ellipsis) close false ∷ [])
      (Op Ellipsis ∷ [])
  three_points true = sign (point_starts true) (sited (Op Ellipsis) true false ∷ []) Ellipsis true false refl refl refl
  three_points false = sign (point_starts false) (sited (Op Ellipsis) false false ∷ []) Ellipsis false false refl refl refl

-- no word begins with a point
first_is : (q : Piece) → is_token q.kind q.text ≡ true → is_operator_kind q.kind ≡ false → bytes_eq (take 1 q.text) (codes ".") ≡ false
first_is q t o = by (bytes_eq (take 1 q.text) (codes ".")) refl
  where
    by : (b : Bool) → bytes_eq (take 1 q.text) (codes ".") ≡ b → b ≡ false
    by false e = refl
    by true e =
        let f : take 1 q.text ≡ codes "." = (bytes_eq-Decides (take 1 q.text) (codes ".")).0 e in
        let g : begins_operator (codes ".." ++ codes ".") ≡ false =
        subst (λ (u : List ℕ). begins_operator (codes ".." ++ u) ≡ false) f (plain_head q.kind (codes "..") q.text t o) in
        let z : true ≡ false = sym three_begin ∙ g in
        absurd (cc)

not_point : (q : Piece) → within after_points q ≡ true → bytes_eq (take 1 q.text) (codes ".") ≡ false
not_point q e = let h = and_parts (is_token q.kind q.text) (is_like after_points q) e in first_is q h.0 (word_kind q h.1)

both_told : (close : Bool) (ys : List Piece) → begins_by (within after_points) ys ≡ true → told ys ≡ true
    → all_apart (sited (Op Dot) close false false) (second ∷ ys) ≡ true
both_told close [] b t = cc
both_told close (q ∷ qs) b t =
    let d = one_point {extent = Whole} true in
    let f : fit second q ≡ true = sorts_fit (point_starts true) after_points (one_suit true) second q (d.segment point_low).form.ends b in
    two_apart close q qs (not_point q b) f t
  where
    point_low : Low (Op Dot ∷ [])
    point_low h = omega arith

module _ {extent : Extent} where
  two_points : (close : Bool) {ys : List Sited} {us : List Terminal} → Later extent after_points ys us
      → Later extent (point_starts close) (sited (Op Dot) close false ∷ (sited (Op Dot) true false ∷ ys)) (Op Dot ∷ (Op Dot ∷ us))
  two_points close {ys} {us} y =
      let x = one_point {extent = extent} close in
      let z = join_later (one_point true) y (one_suit true) in
      let p : Piece = sited (Op Dot) close false false in
      record {
        parts = λ low.
            let g = x.segment (low_front (Op Dot ∷ []) (Op Dot ∷ us) low) in
            let r = z.parts (low_back (Op Dot ∷ []) (Op Dot ∷ us) x.flat low) in
            record {
              pieces = list_all-append (λ p. is_token p.kind p.text) (p ∷ []) (second ∷ outside ys)
                  ∙ and_from (list_all (λ p. is_token p.kind p.text) (p ∷ []))
                  (list_all (λ p. is_token p.kind p.text) (second ∷ outside ys)) g.form.pieces r.pieces;
              scalars = list_all-append (λ p. all_scalars p.text) (p ∷ []) (second ∷ outside ys)
                  ∙ and_from (list_all (λ p. all_scalars p.text) (p ∷ [])) (list_all (λ p. all_scalars p.text) (second ∷ outside ys))
                  g.form.scalars r.scalars;
              apart = both_told close (outside ys)
                  (y.parts (low_back (Op Dot ∷ []) us (one_point {extent = extent} true).flat
                  (low_back (Op Dot ∷ []) (Op Dot ∷ us) x.flat low))).begins
                  (y.parts (low_back (Op Dot ∷ []) us (one_point {extent = extent} true).flat
                  (low_back (Op Dot ∷ []) (Op Dot ∷ us) x.flat low))).apart;
              begins = g.form.begins;
              gives = give_both g.gives r.gives;
            };
        balanced = balanced_both (p ∷ []) (second ∷ outside ys) x.balanced z.balanced;
      }

  points_before : (close : Bool) (n : ℕ) {ys : List Sited} {us : List Terminal} → Later extent after_points ys us
      → Later extent (level_starts close n) (S.point_signs piece close (S.points n) ++ ys) (S.point_signs terminal close (S.points n) ++ us)
  points_before close zero y = y
  points_before close (suc zero) y = join_later (one_point close) y (one_suit close)
  points_before close (suc (suc zero)) y = two_points close y
  points_before close (suc (suc (suc n))) y = join_later (three_points close) (points_before true n y) (three_suit close n)

  -- ---- What is imported.

  names_each : (names : List Alias) → SoundNames names
      → Each (open_place extent) starts_plain ends_plain (map (S.name_alias piece) names) (map (S.name_alias terminal) names)
  names_each [] h = none
  names_each (a ∷ names) h = more (plain_tail (plain_name a.name h.0) (as_name_are a.asname h.1)) (names_each names h.2)

  imported_are : (names : List Alias) → SoundUnless (S.are_all names) names
      → Closed (open_place extent) (a_word ∷ []) ends_import (word piece Key.Import ∷ S.imported piece names)
      (word terminal Key.Import ∷ S.imported terminal names)
  unfolding operators
  imported_are names h = by (S.are_all names) h
    where
      by : (b : Bool) → SoundUnless b names
          → Closed (open_place extent) (a_word ∷ []) ends_import
          (word piece Key.Import ∷ cond b (free piece (Op Star) ∷ []) (listed piece (map (S.name_alias piece) names)))
          (word terminal Key.Import ∷ cond b (free terminal (Op Star) ∷ []) (listed terminal (map (S.name_alias terminal) names)))
      by true h = join (first_word Key.Import) (sign (free piece (Op Star) ∷ []) ends_import Star false false refl refl refl) refl
      by false h = widen {c = a_word ∷ []} (λ p e. e) more_import (tail (first_word Key.Import) (plain_listed (names_each names h)) refl)

  -- ---- The statements.

  aliases_each : (names : List Alias) → SoundAliases names
      → Each (open_place extent) starts_plain ends_plain (map (S.dotted_alias piece) names) (map (S.dotted_alias terminal) names)
  aliases_each [] h = none
  aliases_each (a ∷ names) h = more (plain_tail (dotted_plain a.name h.0) (as_name_are a.asname h.1)) (aliases_each names h.2)

  pub import_are : (names : List Alias) → SoundAliases names
      → Plain (open_place extent) (word piece Key.Import ∷ listed piece (map (S.dotted_alias piece) names))
      (word terminal Key.Import ∷ listed terminal (map (S.dotted_alias terminal) names))
  import_are names h = word_plain Key.Import (plain_listed (aliases_each names h))

  pub from_plain : (x : Identifier) (names : List Alias) → AreProper (names_in x) → SoundUnless (S.are_all names) names
      → Closed (open_place extent) starts_plain ends_import
      (word piece Key.From ∷ (S.dotted piece false x ++ (word piece Key.Import ∷ S.imported piece names)))
      (word terminal Key.From ∷ (S.dotted terminal false x ++ (word terminal Key.Import ∷ S.imported terminal names)))
  unfolding operators
  from_plain x names h i = join (keyword Key.From) (join (dotted_plain x h) (imported_are names i) refl) refl

  module_are : (m : Option Identifier) (names : List Alias) → SoundModule m → SoundUnless (S.are_all names) names
      → Later extent after_points (S.module_name piece true m ++ (word piece Key.Import ∷ S.imported piece names))
      (S.module_name terminal true m ++ (word terminal Key.Import ∷ S.imported terminal names))
  unfolding operators
  module_are None names h i = later (widen {d = ends_import} word_after (λ p e. e) (imported_are names i))
  module_are (Some x) names h i = later (join (dotted_near x h) (imported_are names i) refl)

  pub from_points : (n : ℕ) (m : Option Identifier) (names : List Alias) → SoundModule m → SoundUnless (S.are_all names) names
      → Later extent starts_plain
      (word piece Key.From ∷
      (S.point_signs piece false (S.points (suc n)) ++
      (S.module_name piece true m ++ (word piece Key.Import ∷ S.imported piece names))))
      (word terminal Key.From ∷ (S.point_signs terminal false (S.points (suc n)) ++
      (S.module_name terminal true m ++ (word terminal Key.Import ∷ S.imported terminal names))))
  from_points n m names h i = join_later (keyword Key.From) (points_before false (suc n) (module_are m names h i)) level_suit
