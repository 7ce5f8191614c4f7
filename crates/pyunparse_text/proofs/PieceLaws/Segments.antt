-- Carries: the laws of pieces. On: pieces with the terminals that they are read as: told apart,
-- with brackets closed, and how lists of them are joined.
use Rattle.std.proofs.Common.{◌≡◌, Bool, true, false, List, [], ◌∷◌, ◌++◌, refl, sym, ap, subst, ◌∙◌, append-nil, append_assoc}
use Rattle.std.specs.Prelude.{cond}
use Rattle.std.specs.List.{list_all}
use Rattle.std.proofs.lemmas.List.Folds.{list_all-append}
use Rattle.pylex_lexeme.specs.declared.kinds.Exact.{Exact}
use Rattle.pylex_lexeme.specs.declared.kinds.Exact.TheVariants.{LPar, RPar, LSqb, RSqb, LBrace, RBrace, Comma}
use Rattle.pytree_node.specs.declared.profiles.Extent.{Extent}
use Rattle.pytree_node.specs.declared.profiles.Extent.TheVariants.{Plain, Whole}
use Rattle.pygrammar.specs.declared.levels.Level.{Level}
use Rattle.pygrammar.specs.declared.levels.Level.TheVariants.{Value, Slices, Part, Slice}
use Rattle.pytoken.specs.Terminals.{Terminal, Op}
use Rattle.pyunparse_text.specs.Spacing.{Piece}
use Rattle.pyunparse_text.specs.Tokens.{opens, closes}
use Rattle.pyunparse_text.specs.Levels.{leads, reaches}
use Rattle.pyunparse_text.specs.Written.{Element, separated, leading, trailing, tight, enclosed, bracketed, fit}
use Rattle.pyunparse_text.specs.Terminals.{terminal, formatted_terminals}
use Rattle.pyunparse_text.specs.Pieces.{Sited, sited, sited_string, piece}
use Rattle.pylex_lexeme.specs.Operators.{exact_of, exact_text, is_opener, is_closer, operators}
use Rattle.pyunparse_text.proofs.FieldTexts.Conditions.{is_pair}
use Rattle.pyunparse_text.proofs.FieldTexts.Enclosures.{Kept, kept_none, kept_one, kept_both, kept_within, enclosed_kept}
use Rattle.pyunparse_text.proofs.PieceLaws.Places.{Depth, Place, is_inside, at, at_both, stands, GiveAt, none_given, given, Flat, flat_none}
use Rattle.pyunparse_text.proofs.PieceLaws.Places.{flat_both, flat_within, stands_one, flat_one, stands_flat}
use Rattle.pyunparse_text.proofs.PieceLaws.Sound.{HasStrings}
use Rattle.pyunparse_text.proofs.PieceLaws.Formatted.{whole, Promised, Elements, string_flat, string_kept}
use Rattle.pyunparse_text.proofs.PieceLaws.Shallow.{Low, low_front, low_back, low_inside}
use Rattle.pyunparse_text.proofs.PieceLaws.Strings.{strings_read}
use Rattle.pyunparse_text.proofs.Callers.Lists.{Balanced, balanced_none, balanced_one, balanced_both, balanced_within, Written}
use Rattle.pyunparse_text.proofs.Callers.Lists as Form
use Rattle.pyunparse_text.proofs.PieceLaws.Sorts.{is_like, within, suit, sorts_fit, starts_plain, starts_part, ends_plain, ends_comma}
use Rattle.pyunparse_text.proofs.PieceLaws.Sorts.{ends_part}
use Rattle.pyunparse_text.proofs.PieceLaws.Sorts.{starts, ends, starts_more, ends_more, more_item, more_part, more_comma, more_colon}
use Rattle.pyunparse_text.proofs.PieceLaws.Fair.{Fair, fair_sign, is_bracket, opens_none, closes_none}

pub record Segment (place : Place) (b e : List Sited) (ps : List Sited) (ts : List Terminal) : Type 0 where
  pub form : Written (within b) (within e) (at place.depth ps)
  pub gives : GiveAt place (at place.depth ps) ts
  pub stand : list_all (stands place.depth) (at place.depth ps) ≡ true

-- one with its brackets closed; where there is an f-string in it, it is read if no more of them are open at once than a field may have
pub record Closed (place : Place) (b e : List Sited) (ps : List Sited) (ts : List Terminal) : Type 0 where
  pub segment : Low ts → Segment place b e ps ts
  pub balanced : Balanced (at place.depth ps)
  pub kept : Kept (at place.depth ps)
  pub flat : Flat ts

-- nothing, or such a list
pub data Perhaps (place : Place) (b e : List Sited) : List Sited → List Terminal → Type 0 where
  nothing : Perhaps place b e [] []
  some : {ps : List Sited} {ts : List Terminal} → Closed place b e ps ts → Perhaps place b e ps ts

-- a list of such lists
pub data Each (place : Place) (b e : List Sited) : List (List Sited) → List (List Terminal) → Type 0 where
  none : Each place b e [] []
  more : {ps : List Sited} {ts : List Terminal} {pss : List (List Sited)} {tss : List (List Terminal)} → Closed place b e ps ts
      → Each place b e pss tss → Each place b e (ps ∷ pss) (ts ∷ tss)

both_stand : (d : Depth) (xs ys : List Sited) → list_all (stands d) (at d xs) ≡ true → list_all (stands d) (at d ys) ≡ true
    → list_all (stands d) (at d (xs ++ ys)) ≡ true
both_stand d xs ys a b = ap (list_all (stands d)) (at_both d xs ys) ∙ list_all-append (stands d) (at d xs) (at d ys) ∙ rw (a, b) refl

pub enclosed_at : (d : Depth) (p q : Sited) (xs : List Sited) → (C : List Piece → Type 0)
    → C (p (is_inside d) ∷ (at d xs ++ (q (is_inside d) ∷ [])))
    → C (at d (p ∷ (xs ++ (q ∷ []))))
enclosed_at d p q xs C c = subst C (ap (λ ps. p (is_inside d) ∷ ps) (sym (at_both d xs (q ∷ [])))) c

-- a token there
abbrev here : Depth → Terminal → Bool → Bool → Piece
here d t b h = sited t b h (is_inside d)

module _ {place : Place} where
  pub give_both : {xs ys : List Piece} {ts us : List Terminal} → GiveAt place xs ts → GiveAt place ys us
      → GiveAt place (xs ++ ys) (ts ++ us)
  give_both none_given y = y
  give_both {xs = p ∷ xs} {ys = ys} {us = us} (given {ts = ts} {us = vs} g s x) y =
      subst (GiveAt place (p ∷ (xs ++ ys))) (sym (append_assoc ts vs us)) (given g s (give_both x y))

  chain : {a b c d : List Sited} {xs ys : List Sited} {ts us : List Terminal} → Segment place a b xs ts
      → Segment place c d ys us → suit b c ≡ true
      → Segment place a d (xs ++ ys) (ts ++ us)
  chain {a} {b} {c} {d} {xs} {ys} {ts} {us} x y s =
      let e = sym (at_both place.depth xs ys) in
      record {
        form = subst (Written (within a) (within d)) e (Form.both (within a) (within b) (within c) (within d) (sorts_fit b c s)
            (at place.depth xs) (at place.depth ys) x.form y.form);
        gives = subst (λ ps. GiveAt place ps (ts ++ us)) e (give_both x.gives y.gives);
        stand = both_stand place.depth xs ys x.stand y.stand;
      }

  pub join : {a b c d : List Sited} {xs ys : List Sited} {ts us : List Terminal} → Closed place a b xs ts
      → Closed place c d ys us → suit b c ≡ true
      → Closed place a d (xs ++ ys) (ts ++ us)
  join {a} {b} {c} {d} {xs} {ys} {ts} {us} x y s =
      let e = sym (at_both place.depth xs ys) in
      record {
        segment = λ low. chain (x.segment (low_front ts us low)) (y.segment (low_back ts us x.flat low)) s;
        balanced = subst Balanced e (balanced_both (at place.depth xs) (at place.depth ys) x.balanced y.balanced);
        kept = subst Kept e (kept_both (at place.depth xs) (at place.depth ys) x.kept y.kept);
        flat = flat_both x.flat y.flat;
      }

  pub widen : {a b c d : List Sited} {xs : List Sited} {ts : List Terminal} → ((p : Piece) → within a p ≡ true → within c p ≡ true)
      → ((p : Piece) → within b p ≡ true → within d p ≡ true) → Closed place a b xs ts → Closed place c d xs ts
  widen {a} {b} {c} {d} {xs} f g x = record {
    segment = λ low.
        let y = x.segment low in
        record {
          form = Form.weaker (within a) (within c) (within b) (within d) f g (at place.depth xs) y.form;
          gives =
              y.gives;
          stand = y.stand;
        };
    balanced = x.balanced;
    kept = x.kept;
    flat = x.flat;
  }

  pub one : (a e : List Sited) (t : Terminal) (b h : Bool) → Fair place t → is_like a (here place.depth t b h) ≡ true
      → is_like e (here place.depth t b h) ≡ true → Segment place a e (sited t b h ∷ []) (t ∷ [])
  one a e t b h f l r = record {
    form = record {
      pieces = (let w = f.token in rw w refl);
      scalars = (let w = f.scalars in rw w refl);
      neat = refl;
      begins =
          (let w = f.token in rw (w, l) refl);
      ends = (let w = f.token in rw (w, r) refl);
    };
    gives = given f.gives (stands_one t b h (is_inside place.depth)) none_given;
    stand = (let w = f.stands in rw w refl);
  }

  pub token : (a e : List Sited) (t : Terminal) (b h : Bool) → Fair place t → opens (here place.depth t b h) ≡ false
      → closes (here place.depth t b h) ≡ false → is_like a (here place.depth t b h) ≡ true → is_like e (here place.depth t b h) ≡ true
      → Closed place a e (sited t b h ∷ []) (t ∷ [])
  token a e t b h f o c l r = record {
    segment = λ low. one a e t b h f l r;
    balanced = balanced_one (here place.depth t b h) o c;
    kept = kept_one (here place.depth t b h) o c;
    flat = flat_one t b h (is_inside place.depth) o c;
  }

  -- an f-string
  pub string : (es : List (Element Sited)) (fs : List (Element Terminal)) → HasStrings place.extent place.depth
      → Elements (Promised place.depth) place.depth 0 es fs → Closed place starts_plain ends_plain (sited_string es ∷ [])
      (formatted_terminals fs)
  string es fs s x = by place.extent s
    where
      by : (extent : Extent) → HasStrings extent place.depth
          → Closed (record { extent = extent; depth = place.depth }) starts_plain ends_plain (sited_string es ∷ []) (formatted_terminals fs)
      by Plain s = absurd s
      by Whole s =
          let p : Piece = sited_string es (is_inside place.depth) in
          record {
            segment = λ low. let f = strings_read place.depth s es fs (string_kept x low) in record {
              form = record {
                pieces = (let w = f.token in rw w refl);
                scalars = (let w = f.scalars in rw w refl);
                neat = refl;
                begins =
                    (let w = f.token in rw w refl);
                ends = (let w = f.token in rw w refl);
              };
              gives = subst (GiveAt (whole place.depth) (p ∷ [])) (append-nil (formatted_terminals fs))
                  (given f.gives (stands_flat p refl refl (string_flat x)) none_given);
              stand = (let w = f.stands in rw w refl);
            };
            balanced = balanced_one p refl refl;
            kept = kept_one p refl refl;
            flat = string_flat x;
          }

  pub sign : (a e : List Sited) (s : Exact) (b h : Bool) → is_bracket s ≡ false → is_like a (here place.depth (Op s) b h) ≡ true
      → is_like e (here place.depth (Op s) b h) ≡ true → Closed place a e (sited (Op s) b h ∷ []) (Op s ∷ [])
  sign a e s b h k l r =
      token a e (Op s) b h (fair_sign s) (opens_none s b h (is_inside place.depth) k) (closes_none s b h (is_inside place.depth) k) l r

  -- something, and perhaps more after it
  pub tail : {a c d : List Sited} {xs ys : List Sited} {ts us : List Terminal} → Closed place a d xs ts
      → Perhaps place c d ys us → suit d c ≡ true
      → Closed place a d (xs ++ ys) (ts ++ us)
  tail {xs = xs} {ts = ts} x nothing s = rw (append-nil xs, append-nil ts) x
  tail x (some y) s = join x y s

  -- perhaps something before it
  pub head : {a b d : List Sited} {xs ys : List Sited} {ts us : List Terminal} → Perhaps place a b xs ts
      → Closed place a d ys us → suit b a ≡ true
      → Closed place a d (xs ++ ys) (ts ++ us)
  head nothing y s = y
  head (some x) y s = join x y s

  -- something between
  pub between : {a b c d e f : List Sited} {xs ys zs : List Sited} {ts us vs : List Terminal} → Closed place a b xs ts
      → Perhaps place c d ys us
      → Closed place e f zs vs → suit b c ≡ true → suit d e ≡ true → suit b e ≡ true
      → Closed place a f (xs ++ (ys ++ zs)) (ts ++ (us ++ vs))
  between x nothing z p q r = join x z r
  between x (some y) z p q r = join x (join y z q) p

  -- brackets round it
  pub within_brackets : {a b c d e f : List Sited} {xs : List Sited} {ts : List Terminal} (o s : Exact) (h : Bool) → is_opener o ≡ true
      → is_opener s ≡ false → is_closer s ≡ true → opens (here place.depth (Op o) h true) ≡ true
      → opens (here place.depth (Op s) true false) ≡ false
      → closes (here place.depth (Op s) true false) ≡ true
      → is_pair (exact_text o) (exact_text s) ≡ true → Segment place a b (sited (Op o) h true ∷ []) (Op o ∷ []) → Perhaps place c d xs ts
      → Segment place e f (sited (Op s) true false ∷ []) (Op s ∷ []) → suit b c ≡ true → suit d e ≡ true → suit b e ≡ true
      → Closed place a f (enclosed piece (sited (Op o) h true) s xs) (enclosed terminal (Op o) s ts)
  within_brackets o s h u v w i j k m x nothing z p q r = record {
    segment = λ low. chain x z r;
    balanced = balanced_within (here place.depth (Op o) h true) (here place.depth (Op s) true false) [] i j k balanced_none;
    kept = enclosed_kept (here place.depth (Op o) h true ∷ here place.depth (Op s) true false ∷ [])
        (kept_within (here place.depth (Op o) h true) (here place.depth (Op s) true false) [] i j k m kept_none);
    flat = flat_within o s u v w flat_none;
  }
  within_brackets {xs = xs} {ts = ts} o s h u v w i j k m x (some y) z p q r =
      let left = here place.depth (Op o) h true in
      let right = here place.depth (Op s) true false in
      record {
        segment = λ low. chain x (chain (y.segment (low_inside o ts (Op s ∷ []) low)) z q) p;
        balanced = enclosed_at place.depth (sited (Op o) h true) (sited (Op s) true false) xs Balanced
            (balanced_within left right (at place.depth xs) i j k y.balanced);
        kept = enclosed_at place.depth (sited (Op o) h true) (sited (Op s) true false) xs Kept
            (enclosed_kept (left ∷ (at place.depth xs ++ (right ∷ []))) (kept_within left right (at place.depth xs) i j k m y.kept));
        flat = flat_within o s u v w y.flat;
      }

  -- the three kinds; groups and displays begin an expression, a call's and a subscript's
  -- touch what stands before them
  pub group : {xs : List Sited} {ts : List Terminal} → Perhaps place starts_part ends_part xs ts
      → Closed place starts_plain ends_plain (enclosed piece (leading piece LPar) RPar xs)
      (enclosed terminal (leading terminal LPar) RPar ts)
  unfolding exact_of operators
  group x =
      within_brackets LPar RPar false refl refl refl refl refl refl refl
      (one starts_plain (leading piece LPar ∷ []) (Op LPar) false true (fair_sign LPar) refl refl) x
      (one (trailing piece RPar ∷ []) ends_plain (Op RPar) true false (fair_sign RPar) refl refl) refl refl refl

  pub square : {xs : List Sited} {ts : List Terminal} → Perhaps place starts_part ends_part xs ts
      → Closed place starts_plain ends_plain (enclosed piece (leading piece LSqb) RSqb xs)
      (enclosed terminal (leading terminal LSqb) RSqb ts)
  unfolding exact_of operators
  square x =
      within_brackets LSqb RSqb false refl refl refl refl refl refl refl
      (one starts_plain (leading piece LSqb ∷ []) (Op LSqb) false true (fair_sign LSqb) refl refl) x
      (one (trailing piece RSqb ∷ []) ends_plain (Op RSqb) true false (fair_sign RSqb) refl refl) refl refl refl

  pub braces : {xs : List Sited} {ts : List Terminal} → Perhaps place starts_part ends_part xs ts
      → Closed place starts_plain ends_plain (enclosed piece (leading piece LBrace) RBrace xs)
      (enclosed terminal (leading terminal LBrace) RBrace ts)
  unfolding exact_of operators
  braces x =
      within_brackets LBrace RBrace false refl refl refl refl refl refl refl
      (one starts_plain (leading piece LBrace ∷ []) (Op LBrace) false true (fair_sign LBrace) refl refl) x
      (one (trailing piece RBrace ∷ []) ends_plain (Op RBrace) true false (fair_sign RBrace) refl refl) refl refl refl

  pub called : {xs : List Sited} {ts : List Terminal} → Perhaps place starts_part ends_part xs ts
      → Closed place (tight piece LPar ∷ []) ends_plain (enclosed piece (tight piece LPar) RPar xs)
      (enclosed terminal (tight terminal LPar) RPar ts)
  unfolding exact_of operators
  called x =
      within_brackets LPar RPar true refl refl refl refl refl refl refl
      (one (tight piece LPar ∷ []) (tight piece LPar ∷ []) (Op LPar) true true (fair_sign LPar) refl refl) x
      (one (trailing piece RPar ∷ []) ends_plain (Op RPar) true false (fair_sign RPar) refl refl) refl refl refl

  pub indexed : {xs : List Sited} {ts : List Terminal} → Perhaps place starts_part ends_part xs ts
      → Closed place (tight piece LSqb ∷ []) ends_plain (enclosed piece (tight piece LSqb) RSqb xs)
      (enclosed terminal (tight terminal LSqb) RSqb ts)
  unfolding exact_of operators
  indexed x =
      within_brackets LSqb RSqb true refl refl refl refl refl refl refl
      (one (tight piece LSqb ∷ []) (tight piece LSqb ∷ []) (Op LSqb) true true (fair_sign LSqb) refl refl) x
      (one (trailing piece RSqb ∷ []) ends_plain (Op RSqb) true false (fair_sign RSqb) refl refl) refl refl refl

  -- An expression at a level, from one of its own form
  pub plainly : (s : Bool) (l : Level) {ps : List Sited} {ts : List Terminal} → Closed place starts_plain ends_plain ps ts
      → Closed place (starts s l) (ends l) ps ts
  plainly s l x = widen (starts_more s l) (ends_more l) x

  pub loosely : {ps : List Sited} {ts : List Terminal} → Closed place starts_plain ends_plain ps ts
      → Closed place starts_part ends_part ps ts
  loosely x = widen (λ p e. more_part p (more_item p e)) (λ p e. more_colon p (more_comma p e)) x

  pub fitted : (s : Bool) (l k : Level) {ps : List Sited} {ts : List Terminal} → Closed place starts_plain ends_plain ps ts
      → Closed place (starts s l) (ends l) (fit piece l k ps) (fit terminal l k ts)
  unfolding fit
  fitted s l k {ps} {ts} x = by (reaches l k)
    where
      by : (b : Bool) → Closed place (starts s l) (ends l) (cond b ps (bracketed piece ps)) (cond b ts (bracketed terminal ts))
      by true = plainly s l x
      by false = plainly s l (group (some (loosely x)))

  -- the two forms whose ends are others: a Yield, which may end with a comma, and a Slice
  pub fitted_yield : (s : Bool) (l : Level) {ps : List Sited} {ts : List Terminal} → Closed place starts_plain ends_comma ps ts
      → Closed place (starts s l) (ends l) (fit piece l Value ps) (fit terminal l Value ts)
  unfolding fit reaches leads
  fitted_yield s Value x = widen more_item (λ p e. e) x
  fitted_yield s l x = plainly s l (group (some (widen (λ p e. more_part p (more_item p e)) more_colon x)))

  pub fitted_slice : (s : Bool) (l : Level) {ps : List Sited} {ts : List Terminal} → Closed place starts_part ends_part ps ts
      → Closed place (starts s l) (ends l) (fit piece l Slice ps) (fit terminal l Slice ts)
  unfolding fit reaches leads
  fitted_slice s Slices x = x
  fitted_slice s Part x = x
  fitted_slice s Slice x = x
  fitted_slice s l x = plainly s l (group (some x))

  -- Lists with a sign between
  pub separated_some : {b e c d : List Sited} {ps : List Sited} {ts : List Terminal} {pss : List (List Sited)} {tss : List (List Terminal)}
      (p : Sited) (t : Terminal)
      → Closed place c d (p ∷ []) (t ∷ []) → suit e c ≡ true → suit d b ≡ true → Closed place b e ps ts → Each place b e pss tss
      → Closed place b e (separated p (ps ∷ pss)) (separated t (ts ∷ tss))
  separated_some p t x q r y none = y
  separated_some p t x q r y (more z zs) = join y (join x (separated_some p t x q r z zs) r) q

  pub separated_are : {b e c d : List Sited} {pss : List (List Sited)} {tss : List (List Terminal)} (p : Sited) (t : Terminal)
      → Closed place c d (p ∷ []) (t ∷ []) → suit e c ≡ true → suit d b ≡ true → Each place b e pss tss
      → Perhaps place b e (separated p pss) (separated t tss)
  separated_are p t x q r none = nothing
  separated_are p t x q r (more y ys) = some (separated_some p t x q r y ys)

  pub comma : Closed place (trailing piece Comma ∷ []) (trailing piece Comma ∷ []) (trailing piece Comma ∷ [])
      (trailing terminal Comma ∷ [])
  comma = sign (trailing piece Comma ∷ []) (trailing piece Comma ∷ []) Comma true false refl refl refl
