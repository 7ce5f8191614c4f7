-- Where a literal is open at the end of whole lines, the next line alone says whether
-- it is closed or goes on.
--
-- Carries: triple_goes_on, single_goes_on, triple_ended, single_open, for OpenLiterals. On: LinedUnits, LineFronts,
-- StringLongest, Units and 3 more.
use Rattle.std.proofs.Common.{◌≡◌, ℕ, true, false, ◌&&◌, ◌==◌, List, [], ◌∷◌, ◌++◌, drop, refl, sym, ◌∙◌, ap, None}
use Rattle.std.proofs.lemmas.Bool.{and_parts}
use Rattle.pylex_lexeme.specs.Chars.{begins}
use Rattle.pylex_lexeme.specs.Numbers.{is_nil}
use Rattle.pylex_lexeme.specs.Strings.{units, begins_three, opens_triple}
use Rattle.pylex_lexeme.specs.Lexemes.{lexeme_at, ends_by_join, is_open_string}
use Rattle.pylex_lexeme.specs.Lengths.{single_of, triple_of, single_len, triple_len, quoted_len, begins_quotes, Opens}
use Rattle.pylex_lexeme.specs.Chunks.{EndsLine}
use Rattle.pylex_lexeme.proofs.Strings.Units.{IsQuote, nil_units}
use Rattle.pylex_lexeme.proofs.Strings.StringLongest.{string_opens, triple_opens, quotes_three, head_is}
use Rattle.pylex_lexeme.proofs.Strings.OpenStrings.{open_following}
use Rattle.pylex_lexeme.proofs.WholeLines.LinedUnits.{lined, lined_tail, ends_lined, units_join, units_last, shift_none, joined_single}
use Rattle.pylex_lexeme.proofs.WholeLines.LinedUnits.{joined_join, triple_after, triple_crosses}
use Rattle.pylex_lexeme.proofs.WholeLines.LineFronts.{triples_kept, after_quote, quote_which, which_quote, after_front, here_longer}
use Rattle.pylex_lexeme.proofs.WholeLines.LineFronts.{opens_longer, drop_lined}
use Rattle.pylex_lexeme.proofs.WholeLines.Kept.{none_at, none_read}

-- From the quote on
three_longer : (q : ℕ) (r line : List ℕ) → IsQuote q → begins_quotes q r ≡ true → lined r ≡ true → quoted_len q r ≡ 0
    → triple_len q line ≡ 0 → quoted_len q (r ++ line) ≡ 0
unfolding quoted_len triple_len
three_longer q [] line k h l e f = cc
three_longer q (a ∷ []) line k h l e f = absurd (let p = and_parts ((a == q) && false) false h in let z : false ≡ true = p.1 in cc)
three_longer q (a ∷ b ∷ []) line k h l e f = absurd (let p = and_parts ((a == q) && (b == q)) false h in let z : false ≡ true = p.1 in cc)
three_longer q (a ∷ b ∷ c ∷ t) line k h l e f =
    let p = and_parts ((a == q) && (b == q)) (c == q) h in
    let m : lined (c ∷ t) ≡ true = lined_tail b (c ∷ t) l in
    let i : lined t ≡ true = lined_tail c t m in
    let n : triple_of q (units t) ≡ 0 = shift_none 3 (triple_of q (units t)) (rw h at e) in
    let z : triple_of q (units (t ++ line)) ≡ 0 = ap (triple_of q) (units_join t line i)
    ∙ triple_crosses q (units t) (units line) k (units_last t (after_quote q c t k p.1 m) i) n f in
    rw (h, z) refl

three_ended : (q : ℕ) (r line : List ℕ) → begins_quotes q r ≡ true → lined r ≡ true → quoted_len q (r ++ line) ≡ 0 → triple_len q line ≡ 0
unfolding quoted_len triple_len
three_ended q [] line h l e = cc
three_ended q (a ∷ []) line h l e = absurd (let p = and_parts ((a == q) && false) false h in let z : false ≡ true = p.1 in cc)
three_ended q (a ∷ b ∷ []) line h l e = absurd (let p = and_parts ((a == q) && (b == q)) false h in let z : false ≡ true = p.1 in cc)
three_ended q (a ∷ b ∷ c ∷ t) line h l e =
    let i : lined t ≡ true = lined_tail c t (lined_tail b (c ∷ t) l) in
    let n : triple_of q (units (t ++ line)) ≡ 0 = shift_none 3 (triple_of q (units (t ++ line))) (rw h at e) in
    triple_after q (units t) (units line) (ap (triple_of q) (sym (units_join t line i)) ∙ n)

one_longer : (q : ℕ) (r line : List ℕ) → begins (λ c. c == q) r ≡ true → begins_quotes q (r ++ line) ≡ false → lined r ≡ true
    → ends_by_join q (units (drop 1 r)) ≡ true → single_len q line ≡ 0 → quoted_len q (r ++ line) ≡ 0
unfolding quoted_len single_len
one_longer q [] line h n l e f = cc
one_longer q (a ∷ t) line h n l e f =
    let z : single_of q (units (t ++ line)) ≡ 0 = ap (single_of q) (units_join t line (lined_tail a t l))
    ∙ joined_single q (units t) (units line) e f in
    rw (n, z) refl

one_joins : (q : ℕ) (r line : List ℕ) → begins (λ c. c == q) r ≡ true → lined r ≡ true → ends_by_join q (units (drop 1 r)) ≡ true
    → is_nil line ≡ false → ends_by_join q (units (drop 1 (r ++ line))) ≡ ends_by_join q (units line)
one_joins q [] line h l e f = cc
one_joins q (a ∷ t) line h l e f = ap (ends_by_join q) (units_join t line (lined_tail a t l))
    ∙ joined_join q (units t) (units line) e (nil_units line ∙ f)

quotes_by : (q n : ℕ) (cs : List ℕ) → Opens n cs → begins (λ c. c == q) (drop n cs) ≡ true → begins_quotes q (drop n cs) ≡ opens_triple cs
quotes_by q n cs o h =
    let d = head_is q (drop n cs) h in
    sym (triple_opens n cs o ∙ ap begins_three d ∙ quotes_three q (drop 1 (drop n cs)) (quote_which q n cs o h)
    ∙ ap (begins_quotes q) (sym d))

-- Three quotes
pub triple_none : (q n : ℕ) (cs line : List ℕ) → EndsLine cs → Opens n cs → begins (λ c. c == q) (drop n cs) ≡ true → opens_triple cs ≡ true
    → lexeme_at cs ≡ None → triple_len q line ≡ 0 → lexeme_at (cs ++ line) ≡ None
triple_none q n cs line l o h t e f =
    let p = opens_longer n cs line o in
    none_at q n (cs ++ line) (string_opens n (cs ++ line) p) p (here_longer q n cs line o h)
    (ap (quoted_len q) (after_front n cs line o)
    ∙ three_longer q (drop n cs) line (which_quote q (quote_which q n cs o h)) (quotes_by q n cs o h ∙ t)
    (drop_lined n cs (ends_lined cs l)) (none_read q n cs (string_opens n cs o) o h e) f)

pub triple_ended : (q n : ℕ) (cs line : List ℕ) → EndsLine cs → Opens n cs → begins (λ c. c == q) (drop n cs) ≡ true
    → opens_triple cs ≡ true → lexeme_at (cs ++ line) ≡ None → triple_len q line ≡ 0
triple_ended q n cs line l o h t e =
    let p = opens_longer n cs line o in
    three_ended q (drop n cs) line (quotes_by q n cs o h ∙ t) (drop_lined n cs (ends_lined cs l))
    (ap (quoted_len q) (sym (after_front n cs line o)) ∙ none_read q n (cs ++ line) (string_opens n (cs ++ line) p) p
    (here_longer q n cs line o h) e)

pub triple_open : (cs line : List ℕ) → EndsLine cs → opens_triple cs ≡ true → is_open_string (cs ++ line) ≡ true
unfolding is_open_string
triple_open cs line l t = rw (triples_kept cs line l ∙ t) refl

-- One quote
is_joined : (q n : ℕ) (cs : List ℕ) → Opens n cs → begins (λ c. c == q) (drop n cs) ≡ true → opens_triple cs ≡ false
    → is_open_string cs ≡ ends_by_join q (units (drop 1 (drop n cs)))
is_joined q n cs o h t = let f = quotes_by q n cs o h ∙ t in open_following q n cs (drop n cs) (quote_which q n cs o h) o refl h ∙ rw f refl

pub single_none : (q n : ℕ) (cs line : List ℕ) → EndsLine cs → Opens n cs → begins (λ c. c == q) (drop n cs) ≡ true
    → opens_triple cs ≡ false → is_open_string cs ≡ true → single_len q line ≡ 0 → lexeme_at (cs ++ line) ≡ None
single_none q n cs line l o h t j f =
    let p = opens_longer n cs line o in
    let g = here_longer q n cs line o h in
    let d = after_front n cs line o in
    none_at q n (cs ++ line) (string_opens n (cs ++ line) p) p g
    (ap (quoted_len q) d
    ∙ one_longer q (drop n cs) line h (ap (begins_quotes q) (sym d) ∙ quotes_by q n (cs ++ line) p g ∙ triples_kept cs line l ∙ t)
    (drop_lined n cs (ends_lined cs l)) (sym (is_joined q n cs o h t) ∙ j) f)

pub single_open : (q n : ℕ) (cs line : List ℕ) → EndsLine cs → Opens n cs → begins (λ c. c == q) (drop n cs) ≡ true
    → opens_triple cs ≡ false → is_open_string cs ≡ true → is_nil line ≡ false → is_open_string (cs ++ line) ≡ ends_by_join q (units line)
single_open q n cs line l o h t j s =
    is_joined q n (cs ++ line) (opens_longer n cs line o) (here_longer q n cs line o h) (triples_kept cs line l ∙ t)
    ∙ ap (λ r. ends_by_join q (units (drop 1 r))) (after_front n cs line o)
    ∙ one_joins q (drop n cs) line h (drop_lined n cs (ends_lined cs l)) (sym (is_joined q n cs o h t) ∙ j) s

-- What a reader of lines needs: the literal is open still
pub triple_goes_on : (q n : ℕ) (cs line : List ℕ) → EndsLine cs → Opens n cs → begins (λ c. c == q) (drop n cs) ≡ true
    → opens_triple cs ≡ true → lexeme_at cs ≡ None → triple_len q line ≡ 0
    → (lexeme_at (cs ++ line) ≡ None) × (is_open_string (cs ++ line) ≡ true)
triple_goes_on q n cs line l o h t e f = (triple_none q n cs line l o h t e f, triple_open cs line l t)

pub single_goes_on : (q n : ℕ) (cs line : List ℕ) → EndsLine cs → Opens n cs → begins (λ c. c == q) (drop n cs) ≡ true
    → opens_triple cs ≡ false → is_open_string cs ≡ true → single_len q line ≡ 0 → ends_by_join q (units line) ≡ true
    → (lexeme_at (cs ++ line) ≡ None) × (is_open_string (cs ++ line) ≡ true)
single_goes_on q n cs line l o h t j f g = (single_none q n cs line l o h t j f, single_open q n cs line l o h t j (some line g) ∙ g)
  where
    some : (line : List ℕ) → ends_by_join q (units line) ≡ true → is_nil line ≡ false
    some [] g = cc
    some (c ∷ line) g = refl
