-- Literals that are open up to the end of their text.
--
-- Carries: ends_by_join, open_literal, opens_string. On: Units, StringBest,
-- StringLongest, Best and 1 more.
use Rattle.std.proofs.Common.{◌≡◌, ℕ, Bool, true, false, ◌&&◌, ◌||◌, ◌==◌, not, List, [], ◌∷◌, drop, take, refl, sym, ◌∙◌, ap, ⊎_elim}
use Rattle.std.proofs.Common.{if◌then◌else◌, Option, Some, None, is_some}
use Rattle.std.specs.Prelude.{IfSome, IfNone}
use Rattle.std.specs.Str.{bytes_eq}
use Rattle.std.proofs.lemmas.Bool.{not-true, cases_Bool, and_parts, and_right, or_right}
use Rattle.pylex_lexeme.specs.Chars.{begins, is_comment_part}
use Rattle.pylex_lexeme.specs.Strings.{units, is_unit, no_units, is_prefix, begins_quote, begins_three, after_prefix, opens_string}
use Rattle.pylex_lexeme.specs.Strings.{opens_triple}
use Rattle.pylex_lexeme.specs.Lexemes.{is_line_end, is_join, ends_by_join, is_joined, is_open_string}
use Rattle.pylex_lexeme.specs.Lengths.{unit_len, Opens, begins_quotes, begins_join}
use Rattle.pylex_lexeme.proofs.Fronts.Best.{Starts}
use Rattle.pylex_lexeme.proofs.Strings.Units.{units_plain, nil_units, unit_one, unit_slash, IsQuote}
use Rattle.pylex_lexeme.proofs.Strings.StringBest.{not_quote, Which, one, two, three_starts}
use Rattle.pylex_lexeme.proofs.Strings.StringLongest.{at_prefix, string_opens, triple_opens, quotes_three, head_is}

or_false : (b : Bool) → (b || false) ≡ b
or_false true = refl
or_false false = refl

-- The first unit of a text, and those after it.
units_step : (a : ℕ) (t : List ℕ) → units (a ∷ t) ≡ take (unit_len (a ∷ t)) (a ∷ t) ∷ units (drop (unit_len (a ∷ t)) (a ∷ t))
unfolding unit_len
units_step a t =
    ⊎_elim (at_slash a t)
    (λ (h : (a == 92) ≡ false). rw (units_plain a t h, h) refl)
    (cases_Bool (a == 92))
  where
    at_slash : (a : ℕ) (t : List ℕ) → (a == 92) ≡ true → units (a ∷ t) ≡ take (unit_len (a ∷ t)) (a ∷ t) ∷ units
        (drop (unit_len (a ∷ t)) (a ∷ t))
    at_slash a [] h = rw h refl
    at_slash a (b ∷ []) h = rw (h, and_right (b == 13) false refl) refl
    at_slash a (b ∷ c ∷ s) h =
        ⊎_elim
        (λ (n : ((b == 13) && (c == 10)) ≡ true). rw (h, n) refl)
        (λ (n : ((b == 13) && (c == 10)) ≡ false). rw (h, n) refl)
        (cases_Bool ((b == 13) && (c == 10)))

first_unit_not : (q a : ℕ) (t : List ℕ) → (92 == q) ≡ false → (a == q) ≡ false → is_unit q (take (unit_len (a ∷ t)) (a ∷ t)) ≡ false
unfolding unit_len
first_unit_not q a t k e =
    ⊎_elim
    (λ (h : (a == 92) ≡ true).
    ⊎_elim
    (λ (n : (begins (λ c. c == 13) t && begins (λ c. c == 10) (drop 1 t)) ≡ true). rw (h, n) (unit_slash q a (take 2 t) k h))
    (λ (n : (begins (λ c. c == 13) t && begins (λ c. c == 10) (drop 1 t)) ≡ false). rw (h, n) (unit_slash q a (take 1 t) k h))
    (cases_Bool (begins (λ c. c == 13) t && begins (λ c. c == 10) (drop 1 t))))
    (λ (h : (a == 92) ≡ false). rw h (unit_one q a ∙ e))
    (cases_Bool (a == 92))

end_one : (b : ℕ) → is_line_end (b ∷ []) ≡ (b == 10)
unfolding is_line_end
end_one b =
    ⊎_elim (λ (h : (b == 10) ≡ true). rw h refl)
    (λ (h : (b == 10) ≡ false). ⊎_elim (λ (g : (b == 13) ≡ true). rw (h, g) refl)
    (λ (g : (b == 13) ≡ false). rw (h, g) refl) (cases_Bool (b == 13)))
    (cases_Bool (b == 10))

end_two : (b c : ℕ) → ((b == 13) && (c == 10)) ≡ true → is_line_end (b ∷ c ∷ []) ≡ true
unfolding is_line_end
end_two b c e = let p = and_parts (b == 13) (c == 10) e in
    or_right (bytes_eq (b ∷ c ∷ []) (10 ∷ [])) (bytes_eq (b ∷ c ∷ []) (13 ∷ 10 ∷ [])) (rw (p.0, p.1) refl)

first_unit_joins : (a : ℕ) (t : List ℕ) → is_join (take (unit_len (a ∷ t)) (a ∷ t)) ≡ begins_join (a ∷ t)
unfolding unit_len is_join is_line_end
first_unit_joins a t =
    ⊎_elim (at_slash a t)
    (λ (h : (a == 92) ≡ false). rw h (rw h refl))
    (cases_Bool (a == 92))
  where
    at_slash : (a : ℕ) (t : List ℕ) → (a == 92) ≡ true → is_join (take (unit_len (a ∷ t)) (a ∷ t)) ≡ begins_join (a ∷ t)
    at_slash a [] h = rw h (rw h refl)
    at_slash a (b ∷ []) h = rw (h, and_right (b == 13) false refl) (rw h (end_one b ∙ sym (or_false (b == 10))))
    at_slash a (b ∷ c ∷ s) h =
        ⊎_elim
        (λ (n : ((b == 13) && (c == 10)) ≡ true). rw (h, n) (rw h (end_two b c n ∙ sym (or_right (b == 10) true refl))))
        (λ (n : ((b == 13) && (c == 10)) ≡ false). rw (h, n) (rw h (end_one b ∙ sym (or_false (b == 10)))))
        (cases_Bool ((b == 13) && (c == 10)))

no_units_end : (t : List ℕ) → no_units (units t) ≡ not (begins (λ c. true) t)
no_units_end [] = refl
no_units_end (c ∷ t) = nil_units (c ∷ t)

-- One step over the units of a text.
step : (q : ℕ) (cs : List ℕ) → IsQuote q → begins (λ c. c == q) cs ≡ false → begins is_comment_part cs ≡ true
    → ends_by_join q (units cs) ≡ (if not (begins (λ c. true) (drop (unit_len cs) cs)) then begins_join cs else ends_by_join q
    (units (drop (unit_len cs) cs)))
step q [] k e f = cc
step q (a ∷ t) k e f =
    let p = and_parts (not (a == 10)) (not (a == 13)) f in
    let x = first_unit_not q a t k.slash e in
    let y = first_unit_not 13 a t refl (not-true (a == 13) p.1) in
    let z = first_unit_not 10 a t refl (not-true (a == 10) p.0) in
    let j = first_unit_joins a t in
    let n = no_units_end (drop (unit_len (a ∷ t)) (a ∷ t)) in
    ap (ends_by_join q) (units_step a t) ∙ rw (x, y, z, j, n) refl

pub join_last : (q : ℕ) (cs : List ℕ) → IsQuote q → begins (λ c. c == q) cs ≡ false → begins is_comment_part cs ≡ true
    → begins (λ c. true) (drop (unit_len cs) cs) ≡ false → begins_join cs ≡ ends_by_join q (units cs)
join_last q cs k e f g = sym (step q cs k e f ∙ rw g refl)

pub join_step : (q : ℕ) (cs : List ℕ) → IsQuote q → begins (λ c. c == q) cs ≡ false → begins is_comment_part cs ≡ true
    → begins (λ c. true) (drop (unit_len cs) cs) ≡ true → ends_by_join q (units (drop (unit_len cs) cs)) ≡ ends_by_join q (units cs)
join_step q cs k e f g = sym (step q cs k e f ∙ rw g refl)

-- Where a string opens.
pub opens_by : (o : Option ℕ) (cs : List ℕ) → IfSome o (λ n. Opens n cs) → IfNone o (opens_string cs ≡ false) → is_some o ≡ opens_string cs
opens_by None cs s n = sym n
opens_by (Some k) cs s n = sym (string_opens k cs s)

joined_starts : Starts not_quote is_joined
joined_starts c t e = let p = not-true ((c == 39) || (c == 34)) e in rw p refl

pub open_following : (q n : ℕ) (cs r : List ℕ) → Which q → Opens n cs → r ≡ drop n cs → begins (λ c. c == q) r ≡ true
    → is_open_string cs ≡ (begins_quotes q r || ends_by_join q (units (drop 1 r)))
unfolding is_open_string
open_following q n cs r w o e h =
    let i = head_is q r h in
    let x : opens_triple cs ≡ begins_three r = triple_opens n cs o ∙ ap begins_three (sym e) in
    let y : after_prefix is_joined cs ≡ is_joined r = at_prefix is_joined joined_starts n cs o ∙ ap is_joined (sym e) in
    let u : begins_three r ≡ begins_quotes q r = ap begins_three i ∙ quotes_three q (drop 1 r) w ∙ ap (begins_quotes q) (sym i) in
    let v : is_joined r ≡ ends_by_join q (units (drop 1 r)) = ap is_joined i ∙ joined q (drop 1 r) w in
    rw (x, y, u, v) refl
  where
    joined : (q : ℕ) (t : List ℕ) → Which q → is_joined (q ∷ t) ≡ ends_by_join q (units t)
    joined q t (one e) = rw e refl
    joined q t (two e) = rw e refl

-- what begins with a quote stands after no prefix where no quote does
at_no_quote : (p : List ℕ → Bool) → p [] ≡ false → Starts not_quote p → (x : Bool) (r : List ℕ)
    → (x && begins_quote r) ≡ false → (x && p r) ≡ false
at_no_quote p z s false r e = refl
at_no_quote p z s true [] e = z
at_no_quote p z s true (c ∷ t) e = s c t (rw e refl)

none_of : (a b c : Bool) → (a || (b || (c || false))) ≡ false → (a ≡ false) × (b ≡ false) × (c ≡ false)
none_of false false false e = (refl, refl, refl)
none_of true b c e = cc
none_of false true c e = cc
none_of false false true e = cc

no_prefix : (p : List ℕ → Bool) → p [] ≡ false → Starts not_quote p → (cs : List ℕ) → opens_string cs ≡ false → after_prefix p cs ≡ false
unfolding opens_string
no_prefix p z s cs e =
    let h = none_of (is_prefix [] && begins_quote cs) (is_prefix (take 1 cs) && begins_quote (drop 1 cs))
    (is_prefix (take 2 cs) && begins_quote (drop 2 cs)) e in
    let a = at_no_quote p z s (is_prefix []) cs h.0 in
    let b = at_no_quote p z s (is_prefix (take 1 cs)) (drop 1 cs) h.1 in
    let c = at_no_quote p z s (is_prefix (take 2 cs)) (drop 2 cs) h.2 in
    rw (a, b, c) refl

pub open_none : (cs : List ℕ) → opens_string cs ≡ false → is_open_string cs ≡ false
unfolding is_open_string opens_triple
open_none cs e =
    let a = no_prefix begins_three refl three_starts cs e in
    let b = no_prefix is_joined refl joined_starts cs e in
    rw (a, b) refl
