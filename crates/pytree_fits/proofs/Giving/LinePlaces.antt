-- Carries: the law of modules. On: lines of a level are given at their places, after whatever
-- earlier lines: those of a `match` are its cases, and no other line stands in one.
use Rattle.std.proofs.Common.{◌≡◌, refl, sym, ap, subst, ◌∙◌, ℕ, suc, arith, List, [], ◌∷◌, ◌++◌, None, Bool, true, false, cond}
use Rattle.std.specs.Prelude.{leb, ◌&&◌}
use Rattle.std.specs.List.{list_all}
use Rattle.std.proofs.lemmas.Bool.{and_parts, and_from, leb-true, le-leb, le-ltb}
use Rattle.pylex_lexeme.specs.declared.kinds.Exact.TheVariants.{Colon}
use Rattle.pytree_node.specs.declared.profiles.Profile.{Profile}
use Rattle.pytoken.specs.Terminals.{Terminal, Op}
use Rattle.pygrammar.specs.Lines.{Line, line, Form, header_form, Header}
use Rattle.pygrammar.specs.Forms as F
use Rattle.pygrammar.specs.Forms.{is_whole, begins_case, is_case_line}
use Rattle.pygrammar.specs.Blocks.{header_kind, kind_of, is_match, stands_in_match}
use Rattle.pytree_fits.specs.Tests.{Tests}
use Rattle.pytree_fits.proofs.Fields.Standing.{outside}
use Rattle.pytree_fits.proofs.Fields.AsSpelled.{GivenAsSpelled, AreGivenAsSpelled, none_spelled, one_spelled, pass_on}
use Rattle.pyunparse_text.proofs.Callers.Said.{under}

-- ---- Lines after lines.

-- earlier lines, and these after them; the nearest comes first
abbrev pushed : List Line → List Line → List Line
pushed [] earlier = earlier
pushed (x ∷ xs) earlier = pushed xs (x ∷ earlier)

-- none is of a lower level
abbrev pub are_deep : ℕ → List Line → Bool
are_deep l xs = list_all (λ x. leb l x.level) xs

deep_on : (l : ℕ) (xs ys : List Line) → are_deep l xs ≡ true → are_deep l ys ≡ true → are_deep l (xs ++ ys) ≡ true
deep_on l [] ys h g = g
deep_on l (x ∷ xs) ys h g = let w = and_parts (leb l x.level) (are_deep l xs) h in
    and_from (leb l x.level) (are_deep l (xs ++ ys)) w.0 (deep_on l xs ys w.1 g)

less_deep : (l : ℕ) (xs : List Line) → are_deep (suc l) xs ≡ true → are_deep l xs ≡ true
less_deep l [] h = refl
less_deep l (x ∷ xs) h =
    let w = and_parts (leb (suc l) x.level) (are_deep (suc l) xs) h in
    and_from (leb l x.level) (are_deep l xs) (le-leb l x.level (omega (arith, leb-true (suc l) x.level w.0))) (less_deep l xs w.1)

-- lines that are no higher leave the place as it is
same_place : (l : ℕ) (x : Line) (earlier : List Line) → leb l x.level ≡ true → stands_in_match l (x ∷ earlier) ≡ stands_in_match l earlier
same_place l x earlier h = ap (λ b. cond b (is_match (kind_of x.form)) (stands_in_match l earlier))
    (le-ltb x.level l (leb-true l x.level h))

stands_following : (l : ℕ) (xs earlier : List Line) → are_deep l xs ≡ true → stands_in_match l (pushed xs earlier) ≡ stands_in_match l earlier
stands_following l [] earlier h = refl
stands_following l (x ∷ xs) earlier h = let w = and_parts (leb l x.level) (are_deep l xs) h in stands_following l xs (x ∷ earlier) w.1
    ∙ same_place l x earlier w.0

-- outside of a `match` no line is a case
outside_match : (p : Profile) (inside : Bool) (ts : List Terminal) → inside ≡ false → is_case_line p inside ts ≡ false
outside_match p inside ts h = subst (λ b. is_case_line p b ts ≡ false) (sym h) (by (is_whole p.extent))
  where
    by : (b : Bool) → (b && (false && begins_case ts)) ≡ false
    by true = refl
    by false = refl

module _ (p : Profile) (n : Tests) where
  given_on : {earlier : List Line} (xs : List Line) {ys : List Line} → AreGivenAsSpelled p n earlier xs
      → AreGivenAsSpelled p n (pushed xs earlier) ys → AreGivenAsSpelled p n earlier (xs ++ ys)
  given_on [] none_spelled s = s
  given_on (x ∷ xs) (one_spelled g r) s = one_spelled g (given_on xs r s)

  -- ---- Lines of a level, in a `match` or not.

  pub record Placed (l : ℕ) (inside : Bool) (xs : List Line) : Type 0 where
    pub deep : are_deep l xs ≡ true
    pub given : (earlier : List Line) → stands_in_match l earlier ≡ inside → AreGivenAsSpelled p n earlier xs

  pub none_placed : {l : ℕ} {inside : Bool} → Placed l inside []
  none_placed = record { deep = refl; given = λ earlier e. none_spelled }

  pub placed_on : {l : ℕ} {inside : Bool} {xs ys : List Line} → Placed l inside xs → Placed l inside ys → Placed l inside (xs ++ ys)
  placed_on {l} {inside} {xs} {ys} f g = record {
    deep = deep_on l xs ys f.deep g.deep;
    given = λ earlier e. given_on xs (f.given earlier e) (g.given (pushed xs earlier) (stands_following l xs earlier f.deep ∙ e));
  }

  -- ---- After a header: its block, and more lines of its level.

  pub record Led (l : ℕ) (inside : Bool) (h : Header) (xs : List Line) : Type 0 where
    pub deep : are_deep l xs ≡ true
    pub given : (earlier : List Line) → stands_in_match l earlier ≡ inside
        → AreGivenAsSpelled p n (line l (header_form h None) ∷ earlier) xs

  pub block_of : {l : ℕ} {inside : Bool} {h : Header} {xs : List Line} → Placed (suc l) (is_match (header_kind h)) xs → Led l inside h xs
  block_of {l} {inside} {h} {xs} f = record {
    deep = less_deep l xs f.deep;
    given = λ earlier e. f.given (line l (header_form h None) ∷ earlier) (under l (header_form h None) earlier);
  }

  pub led_on : {l : ℕ} {inside : Bool} {h : Header} {xs ys : List Line} → Led l inside h xs → Placed l inside ys → Led l inside h (xs ++ ys)
  led_on {l} {inside} {h} {xs} {ys} f g =
      let x : Line = line l (header_form h None) in
      record {
        deep = deep_on l xs ys f.deep g.deep;
        given = λ earlier e. given_on xs (f.given earlier e) (g.given (pushed xs (x ∷ earlier)) (stands_following l xs (x ∷ earlier) f.deep
            ∙ same_place l x earlier (le-leb l l (omega arith)) ∙ e));
      }

  -- ---- A line, and those after it.

  first_deep : (l : ℕ) (f : Form) (xs : List Line) → are_deep l xs ≡ true → are_deep l (line l f ∷ xs) ≡ true
  first_deep l f xs h = and_from (leb l l) (are_deep l xs) (le-leb l l (omega arith)) h

  other_form : {f : Form} (inside : Bool) → inside ≡ false → GivenAsSpelled (outside n) (F.FormOf p) f
      → GivenAsSpelled (outside n) (F.FormAt p inside) f
  other_form inside e w = (w.0, w.1, F.other_line (outside_match p inside w.0 e) w.2)

  -- a line, after which these are given
  one_line : (l : ℕ) {f : Form} {xs : List Line} → GivenAsSpelled (outside n) (F.FormOf p) f
      → ((earlier : List Line) → stands_in_match l earlier ≡ false → AreGivenAsSpelled p n (line l f ∷ earlier) xs) →
      are_deep l xs ≡ true → Placed l false (line l f ∷ xs)
  one_line l {f} {xs} w r d = record {
    deep = first_deep l f xs d;
    given = λ earlier e. one_spelled (other_form (stands_in_match l earlier) e w) (r earlier e);
  }

  -- more lines of its level
  pub after_line : {l : ℕ} {f : Form} {xs : List Line} → GivenAsSpelled (outside n) (F.FormOf p) f → Placed l false xs
      → Placed l false (line l f ∷ xs)
  after_line {l} {f} {xs} w r =
      one_line l w (λ earlier e. r.given (line l f ∷ earlier) (same_place l (line l f) earlier (le-leb l l (omega arith)) ∙ e)) r.deep

  pub headed_by : (l : ℕ) (h : Header) {xs : List Line} → GivenAsSpelled (outside n) (F.FormOf p) (header_form h None) → Led l false h xs
      → Placed l false (line l (header_form h None) ∷ xs)
  headed_by l h w r = one_line l w r.given r.deep

  -- a header without an inline suite
  pub headed : (l : ℕ) (h : Header) {xs : List Line} → GivenAsSpelled (outside n) (F.HeaderOf p) h → Led l false h xs
      → Placed l false (line l (header_form h None) ∷ xs)
  headed l h w r = headed_by l h (w.0 ++ (Op Colon ∷ []), pass_on (outside n) w.0 (Op Colon ∷ []) w.1 refl, F.header_line w.2) r

  -- the header of a case, in a `match`
  pub cased : (l : ℕ) (h : Header) {xs : List Line} → is_whole p.extent ≡ true → GivenAsSpelled (outside n) F.CaseOf h → Led l true h xs
      → Placed l true (line l (header_form h None) ∷ xs)
  cased l h {xs} q w r = record {
    deep = first_deep l (header_form h None) xs r.deep;
    given = λ earlier e. one_spelled
        (subst (λ b. GivenAsSpelled (outside n) (F.FormAt p b) (header_form h None)) (sym e) (
          w.0 ++ (Op Colon ∷ []),
          pass_on (outside n) w.0 (Op Colon ∷ []) w.1 refl,
          F.case_alone q w.2,
        ))
        (r.given earlier e);
  }
