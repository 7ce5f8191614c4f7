-- The units of a text of whole lines are the same where more text follows.
--
-- Carries: lined, lined_tail, ends_lined, units_join and 9 more, for Kept, Lengthened, LineFronts,
-- OpenLiterals. On: Units, Best, Joined.
use Rattle.std.proofs.Common.{◌≡◌, ℕ, Bool, true, false, ◌&&◌, ◌||◌, ◌==◌, not, List, [], ◌∷◌, ◌++◌, length, refl, sym, ◌∙◌, ap, arith}
use Rattle.std.proofs.Common.{zero, suc, ⊎_elim, if◌then◌else◌}
use Rattle.std.proofs.lemmas.Bool.{eqb-true, cases_Bool, and_parts, and_right, or_parts, or_cases}
use Rattle.std.proofs.lemmas.Bool.Decides.{nat_tests}
use Rattle.std.proofs.lemmas.Slice.Eq.{bytes_eq-Decides}
use Rattle.pylex_lexeme.specs.Chunks.{EndsLine}
use Rattle.pylex_lexeme.specs.Numbers.{is_nil}
use Rattle.pylex_lexeme.specs.Strings.{units, is_unit, no_units}
use Rattle.pylex_lexeme.specs.Lexemes.{is_line_end, is_join, ends_by_join}
use Rattle.pylex_lexeme.specs.Lengths.{shift, single_of, triple_of}
use Rattle.pylex_lexeme.proofs.Strings.Units.{units_plain, nil_units, unit_one, unit_slash, IsQuote}

-- nothing, or characters whose last is LF
abbrev pub lined : List ℕ → Bool
lined [] = true
lined (c ∷ []) = c == 10
lined (c ∷ d ∷ t) = lined (d ∷ t)

pub lined_tail : (c : ℕ) (t : List ℕ) → lined (c ∷ t) ≡ true → lined t ≡ true
lined_tail c [] l = refl
lined_tail c (d ∷ t) l = l

pub ends_lined : (cs : List ℕ) → EndsLine cs → lined cs ≡ true
ends_lined cs l = ap lined l.1 ∙ by l.0
  where
    by : (front : List ℕ) → lined (front ++ 10 ∷ []) ≡ true
    by [] = refl
    by (a ∷ []) = refl
    by (a ∷ b ∷ front) = by (b ∷ front)

pub ends_some : (cs : List ℕ) → EndsLine cs → is_nil cs ≡ false
ends_some cs l = ap is_nil l.1 ∙ by l.0
  where
    by : (front : List ℕ) → is_nil (front ++ 10 ∷ []) ≡ false
    by [] = refl
    by (a ∷ front) = refl

feed_not : (b k : ℕ) → (b == 10) ≡ true → (10 == k) ≡ false → (b == k) ≡ false
feed_not b k e f = let z : b ≡ 10 = eqb-true b 10 e in rw z f

-- The units of both texts
pub units_join : (cs es : List ℕ) → lined cs ≡ true → units (cs ++ es) ≡ units cs ++ units es
units_join [] es l = refl
units_join (a ∷ []) es l = units_plain a es (feed_not a 92 l refl)
units_join (a ∷ b ∷ []) es l =
    ⊎_elim
    (λ (h : (a == 92) ≡ true). at_slash es h (feed_not b 13 l refl))
    (λ (h : (a == 92) ≡ false). units_plain a (b ∷ es) h ∙ ap (λ us. (a ∷ []) ∷ us) (units_join (b ∷ []) es l)
    ∙ sym (ap (λ us. us ++ units es) (units_plain a (b ∷ []) h)))
    (cases_Bool (a == 92))
  where
    at_slash : (es : List ℕ) → (a == 92) ≡ true → (b == 13) ≡ false → units (a ∷ b ∷ es) ≡ units (a ∷ b ∷ []) ++ units es
    at_slash [] h n = rw h refl
    at_slash (e ∷ es) h n = rw (h, n) refl
units_join (a ∷ b ∷ c ∷ t) es l =
    ⊎_elim
    (λ (h : (a == 92) ≡ true).
    ⊎_elim
    (λ (n : ((b == 13) && (c == 10)) ≡ true). rw (h, n) (ap (λ us. (a ∷ b ∷ c ∷ []) ∷ us) (units_join t es (lined_tail c t l))))
    (λ (n : ((b == 13) && (c == 10)) ≡ false). rw (h, n) (ap (λ us. (a ∷ b ∷ []) ∷ us) (units_join (c ∷ t) es l)))
    (cases_Bool ((b == 13) && (c == 10))))
    (λ (h : (a == 92) ≡ false). units_plain a (b ∷ c ∷ t ++ es) h ∙ ap (λ us. (a ∷ []) ∷ us) (units_join (b ∷ c ∷ t) es l)
    ∙ sym (ap (λ us. us ++ units es) (units_plain a (b ∷ c ∷ t) h)))
    (cases_Bool (a == 92))

-- the last unit is LF, or a backslash and a line end
abbrev pub last_ends : List (List ℕ) → Bool
last_ends [] = false
last_ends (u ∷ us) = if no_units us then is_unit 10 u || is_join u else last_ends us

pub units_last : (cs : List ℕ) → is_nil cs ≡ false → lined cs ≡ true → last_ends (units cs) ≡ true
unfolding is_join is_line_end
units_last [] s l = cc
units_last (a ∷ []) s l = let z : a ≡ 10 = eqb-true a 10 l in rw z refl
units_last (a ∷ b ∷ []) s l =
    ⊎_elim
    (λ (h : (a == 92) ≡ true). let y : a ≡ 92 = eqb-true a 92 h in let z : b ≡ 10 = eqb-true b 10 l in rw (y, z) refl)
    (λ (h : (a == 92) ≡ false). rw (units_plain a (b ∷ []) h) (units_last (b ∷ []) refl l))
    (cases_Bool (a == 92))
units_last (a ∷ b ∷ c ∷ []) s l =
    ⊎_elim
    (λ (h : (a == 92) ≡ true).
    ⊎_elim
    (λ (n : (b == 13) ≡ true). let x : a ≡ 92 = eqb-true a 92 h in let y : b ≡ 13 = eqb-true b 13 n in let z : c ≡ 10 =
    eqb-true c 10 l in rw (x, y, z) refl)
    (λ (n : (b == 13) ≡ false). rw (h, n) (units_last (c ∷ []) refl l))
    (cases_Bool (b == 13)))
    (λ (h : (a == 92) ≡ false). rw (units_plain a (b ∷ c ∷ []) h) (rw (nil_units (b ∷ c ∷ [])) (units_last (b ∷ c ∷ []) refl l)))
    (cases_Bool (a == 92))
units_last (a ∷ b ∷ c ∷ d ∷ t) s l =
    ⊎_elim
    (λ (h : (a == 92) ≡ true).
    ⊎_elim
    (λ (n : ((b == 13) && (c == 10)) ≡ true). rw (h, n) (rw (nil_units (d ∷ t)) (units_last (d ∷ t) refl l)))
    (λ (n : ((b == 13) && (c == 10)) ≡ false). rw (h, n) (rw (nil_units (c ∷ d ∷ t)) (units_last (c ∷ d ∷ t) refl l)))
    (cases_Bool ((b == 13) && (c == 10))))
    (λ (h : (a == 92) ≡ false). rw (units_plain a (b ∷ c ∷ d ∷ t) h) (rw (nil_units (b ∷ c ∷ d ∷ t)) (units_last (b ∷ c ∷ d ∷ t) refl l)))
    (cases_Bool (a == 92))

-- Literals that are closed
shift_more : (u m n : ℕ) → shift u m ≡ suc n → (k : ℕ) × (m ≡ suc k)
shift_more u zero n e = cc
shift_more u (suc m) n e = (m, refl)

pub shift_none : (u m : ℕ) → shift u m ≡ 0 → m ≡ 0
shift_none u zero e = refl
shift_none u (suc m) e = omega arith

pub single_kept : (q n : ℕ) (us vs : List (List ℕ)) → single_of q us ≡ suc n → single_of q (us ++ vs) ≡ suc n
single_kept q n [] vs e = cc
single_kept q n (u ∷ us) vs e =
    ⊎_elim
    (λ (h : is_unit q u ≡ true). rw h (rw h at e))
    (λ (h : is_unit q u ≡ false).
    ⊎_elim
    (λ (i : (is_unit 13 u || is_unit 10 u) ≡ true). let z : 0 ≡ suc n = rw (h, i) at e in cc)
    (λ (i : (is_unit 13 u || is_unit 10 u) ≡ false).
    let f : shift (length u) (single_of q us) ≡ suc n = rw (h, i) at e in
    let m = shift_more (length u) (single_of q us) n f in
    rw (h, i) (ap (shift (length u)) (single_kept q m.0 us vs m.1 ∙ sym m.1) ∙ f))
    (cases_Bool (is_unit 13 u || is_unit 10 u)))
    (cases_Bool (is_unit q u))

pub triple_kept : (q n : ℕ) (us vs : List (List ℕ)) → triple_of q us ≡ suc n → triple_of q (us ++ vs) ≡ suc n
triple_kept q n [] vs e = cc
triple_kept q n (u ∷ []) vs e = cc
triple_kept q n (u ∷ v ∷ []) vs e = cc
triple_kept q n (u ∷ v ∷ w ∷ us) vs e =
    ⊎_elim
    (λ (h : (is_unit q u && is_unit q v && is_unit q w) ≡ true). rw h (rw h at e))
    (λ (h : (is_unit q u && is_unit q v && is_unit q w) ≡ false).
    let f : shift (length u) (triple_of q (v ∷ w ∷ us)) ≡ suc n = rw h at e in
    let m = shift_more (length u) (triple_of q (v ∷ w ∷ us)) n f in
    rw h (ap (shift (length u)) (triple_kept q m.0 (v ∷ w ∷ us) vs m.1 ∙ sym m.1) ∙ f))
    (cases_Bool (is_unit q u && is_unit q v && is_unit q w))

-- A literal that neither ends nor is open stops at a line end
pub record Stops (q : ℕ) (us : List (List ℕ)) : Type 0 where
  pub unclosed : single_of q us ≡ 0
  pub unjoined : ends_by_join q us ≡ false

stops_here : (q : ℕ) (u : List ℕ) (us : List (List ℕ)) → is_unit q u ≡ false → (is_unit 13 u || is_unit 10 u) ≡ true → Stops q (u ∷ us)
stops_here q u us h i =
    record {
      unclosed = rw (h, i) refl;
      unjoined =
          line (is_unit 13 u) (is_unit 10 u) (if no_units us then is_join u else ends_by_join q us) h i;
    }
  where
    line : (x y z : Bool) → is_unit q u ≡ false → (x || y) ≡ true → (not (is_unit q u || x || y) && z) ≡ false
    line true y z e f = rw e refl
    line false true z e f = rw e refl
    line false false z e f = cc

stops_later : (q : ℕ) (u v : List ℕ) (us : List (List ℕ)) → is_unit q u ≡ false → (is_unit 13 u || is_unit 10 u) ≡ false
    → Stops q (v ∷ us) → Stops q (u ∷ v ∷ us)
stops_later q u v us h i s = record {
  unclosed = rw (h, i) (ap (shift (length u)) s.unclosed);
  unjoined =
      and_right (not (is_unit q u || is_unit 13 u || is_unit 10 u)) (ends_by_join q (v ∷ us)) s.unjoined;
}

stops_one : (q : ℕ) (u : List ℕ) → is_unit q u ≡ false → last_ends (u ∷ []) ≡ true → Stops q (u ∷ [])
    → (is_unit 13 u || is_unit 10 u) ≡ true
stops_one q u h l s =
    by (is_unit 13 u) (is_unit 10 u) (is_join u) l (let e : (not (is_unit q u || is_unit 13 u || is_unit 10 u) && is_join u) ≡ false =
    s.unjoined in rw h at e)
  where
    by : (x y z : Bool) → (y || z) ≡ true → (not (x || y) && z) ≡ false → (x || y) ≡ true
    by true y z l e = refl
    by false true z l e = refl
    by false false z l e = let k : true ≡ false = sym l ∙ e in cc

stops_following : (q : ℕ) (u v : List ℕ) (us : List (List ℕ)) → is_unit q u ≡ false → (is_unit 13 u || is_unit 10 u) ≡ false
    → Stops q (u ∷ v ∷ us) → Stops q (v ∷ us)
stops_following q u v us h i s =
    let p = or_parts (is_unit 13 u) (is_unit 10 u) i in
    record {
      unclosed = (let e = s.unclosed in shift_none (length u) (single_of q (v ∷ us)) (rw (h, i) at e));
      unjoined = (let e : (not (is_unit q u || is_unit 13 u || is_unit 10 u) && ends_by_join q (v ∷ us)) ≡ false =
          s.unjoined in rw (h, p.0, p.1) at e);
    }

not_closed : (q : ℕ) (u : List ℕ) (us : List (List ℕ)) → Stops q (u ∷ us) → is_unit q u ≡ false
not_closed q u us s = ⊎_elim (λ (h : is_unit q u ≡ true). let z : 1 ≡ 0 = (let e = s.unclosed in rw h at e) in cc)
    (λ (h : is_unit q u ≡ false). h) (cases_Bool (is_unit q u))

pub stops_kept : (q : ℕ) (us vs : List (List ℕ)) → last_ends us ≡ true → Stops q us → Stops q (us ++ vs)
stops_kept q [] vs l s = cc
stops_kept q (u ∷ []) vs l s = let h = not_closed q u [] s in stops_here q u vs h (stops_one q u h l s)
stops_kept q (u ∷ v ∷ us) vs l s =
    let h = not_closed q u (v ∷ us) s in
    ⊎_elim
    (stops_here q u (v ∷ us ++ vs) h)
    (λ (i : (is_unit 13 u || is_unit 10 u) ≡ false). stops_later q u v (us ++ vs) h i
    (stops_kept q (v ∷ us) vs l (stops_following q u v us h i s)))
    (cases_Bool (is_unit 13 u || is_unit 10 u))

-- A literal that is open goes on in what follows
record Goes (q : ℕ) (u : List ℕ) : Type 0 where
  pub closed : is_unit q u ≡ false
  pub line : (is_unit 13 u || is_unit 10 u) ≡ false

goes_by : (q : ℕ) (u : List ℕ) (z : Bool) → (not (is_unit q u || is_unit 13 u || is_unit 10 u) && z) ≡ true → Goes q u × (z ≡ true)
goes_by q u z e = by (is_unit q u) (is_unit 13 u) (is_unit 10 u) refl refl refl e
  where
    by : (a b c : Bool) → is_unit q u ≡ a → is_unit 13 u ≡ b → is_unit 10 u ≡ c → (not (a || b || c) && z) ≡ true → Goes q u × (z ≡ true)
    by true b c f g h e = cc
    by false true c f g h e = cc
    by false false true f g h e = cc
    by false false false f g h e = (record { closed = f; line = rw (g, h) refl }, e)

goes_on : (q : ℕ) (u : List ℕ) (us : List (List ℕ)) → Goes q u → single_of q us ≡ 0 → single_of q (u ∷ us) ≡ 0
goes_on q u us g e = rw (g.closed, g.line) (ap (shift (length u)) e)

goes_join : (q : ℕ) (u v : List ℕ) (us : List (List ℕ)) → Goes q u → ends_by_join q (u ∷ v ∷ us) ≡ ends_by_join q (v ∷ us)
goes_join q u v us g = let p = or_parts (is_unit 13 u) (is_unit 10 u) g.line in rw (g.closed, p.0, p.1) refl

pub joined_single : (q : ℕ) (us vs : List (List ℕ)) → ends_by_join q us ≡ true → single_of q vs ≡ 0 → single_of q (us ++ vs) ≡ 0
joined_single q [] vs e f = cc
joined_single q (u ∷ []) vs e f = goes_on q u vs (goes_by q u (is_join u) e).0 f
joined_single q (u ∷ v ∷ us) vs e f = let g = goes_by q u (ends_by_join q (v ∷ us)) e in
    goes_on q u (v ∷ us ++ vs) g.0 (joined_single q (v ∷ us) vs g.1 f)

pub joined_join : (q : ℕ) (us vs : List (List ℕ)) → ends_by_join q us ≡ true → no_units vs ≡ false
    → ends_by_join q (us ++ vs) ≡ ends_by_join q vs
joined_join q [] vs e f = cc
joined_join q (u ∷ []) [] e f = cc
joined_join q (u ∷ []) (v ∷ vs) e f = goes_join q u v vs (goes_by q u (is_join u) e).0
joined_join q (u ∷ v ∷ us) vs e f = let g = goes_by q u (ends_by_join q (v ∷ us)) e in goes_join q u v (us ++ vs) g.0
    ∙ joined_join q (v ∷ us) vs g.1 f

-- Three quotes in what follows stand in the whole
pub triple_after : (q : ℕ) (us vs : List (List ℕ)) → triple_of q (us ++ vs) ≡ 0 → triple_of q vs ≡ 0
triple_after q [] vs e = e
triple_after q (u ∷ us) vs e = triple_after q us vs (without (us ++ vs) e)
  where
    without : (ws : List (List ℕ)) → triple_of q (u ∷ ws) ≡ 0 → triple_of q ws ≡ 0
    without [] e = refl
    without (v ∷ []) e = refl
    without (v ∷ w ∷ ws) e =
        ⊎_elim
        (λ (h : (is_unit q u && is_unit q v && is_unit q w) ≡ true). let z : 3 ≡ 0 = rw h at e in cc)
        (λ (h : (is_unit q u && is_unit q v && is_unit q w) ≡ false). shift_none (length u) (triple_of q (v ∷ w ∷ ws)) (rw h at e))
        (cases_Bool (is_unit q u && is_unit q v && is_unit q w))

-- Three quotes don't run over a line end
end_not_quote : (q : ℕ) (u : List ℕ) → IsQuote q → (is_unit 10 u || is_join u) ≡ true → is_unit q u ≡ false
unfolding is_join
end_not_quote q [] k e = refl
end_not_quote q (a ∷ t) k e =
    ⊎_elim
    (λ (h : is_unit 10 (a ∷ t) ≡ true). ap (is_unit q) ((bytes_eq-Decides (a ∷ t) (10 ∷ [])).0 h) ∙ unit_one q 10 ∙ feed)
    (λ (h : ((a == 92) && is_line_end t) ≡ true). unit_slash q a t k.slash (and_parts (a == 92) (is_line_end t) h).0)
    (or_cases (is_unit 10 (a ∷ t)) ((a == 92) && is_line_end t) e)
  where
    feed : (10 == q) ≡ false
    feed = let f = k.feed in grind (arith, nat_tests)

pub triple_crosses : (q : ℕ) (us vs : List (List ℕ)) → IsQuote q → last_ends us ≡ true → triple_of q us ≡ 0 → triple_of q vs ≡ 0
    → triple_of q (us ++ vs) ≡ 0
triple_crosses q [] vs k l e f = cc
triple_crosses q (u ∷ []) vs k l e f = by vs f
  where
    by : (vs : List (List ℕ)) → triple_of q vs ≡ 0 → triple_of q (u ∷ vs) ≡ 0
    by [] f = refl
    by (v ∷ []) f = refl
    by (v ∷ w ∷ vs) f = let h = end_not_quote q u k l in rw h (ap (shift (length u)) f)
triple_crosses q (u ∷ v ∷ []) vs k l e f = by vs (triple_crosses q (v ∷ []) vs k l refl f)
  where
    by : (vs : List (List ℕ)) → triple_of q (v ∷ vs) ≡ 0 → triple_of q (u ∷ v ∷ vs) ≡ 0
    by [] f = refl
    by (w ∷ vs) f =
        let h = end_not_quote q v k l in
        let i : (is_unit q u && is_unit q v && is_unit q w) ≡ false = rw (h, and_right (is_unit q u) false refl) refl in
        rw i (ap (shift (length u)) f)
triple_crosses q (u ∷ v ∷ w ∷ us) vs k l e f =
    ⊎_elim
    (λ (h : (is_unit q u && is_unit q v && is_unit q w) ≡ true). let z : 3 ≡ 0 = rw h at e in cc)
    (λ (h : (is_unit q u && is_unit q v && is_unit q w) ≡ false). rw h
    (ap (shift (length u)) (triple_crosses q (v ∷ w ∷ us) vs k l (shift_none (length u) (triple_of q (v ∷ w ∷ us)) (rw h at e)) f)))
    (cases_Bool (is_unit q u && is_unit q v && is_unit q w))
