-- What a literal that is open at the end of some lines makes of the next one.
--
-- Carries: goes_on, is_open_string, open_literal. On: StringLongest, LineFronts,
-- Lengthened, StringBest and 2 more.
use Rattle.std.proofs.Common.{◌≡◌, ◌≢◌, ℕ, Bool, true, false, ◌||◌, ◌==◌, not, arith, nat_lt, List, [], ◌∷◌, ◌++◌, drop, refl, sym, ◌∙◌, ap}
use Rattle.std.proofs.Common.{Option, Some, None, is_some}
use Rattle.std.proofs.lemmas.List.{append-nil}
use Rattle.std.specs.Prelude.{IfSome, IfNone, IsTrue}
use Rattle.std.proofs.lemmas.Bool.Decides.{nat_tests}
use Rattle.pylex_lexeme.specs.Chars.{begins}
use Rattle.pylex_lexeme.specs.Numbers.{is_nil}
use Rattle.pylex_lexeme.specs.Strings.{units, begins_three, quote_char}
use Rattle.pylex_lexeme.specs.Lexemes.{lexeme_at, ends_by_join, is_open_string}
use Rattle.pylex_lexeme.specs.Lengths.{single_of, single_len, triple_len, begins_quotes, Opens}
use Rattle.pylex_lexeme.specs.Chunks.{EndsLine}
use Rattle.pylex_lexeme.specs.OpenLiterals.{IsOpenBy}
use Rattle.pylex_lexeme.specs.declared.string.OpenLiteral.{OpenLiteral}
use Rattle.pylex_lexeme.proofs.Strings.StringBest.{Which}
use Rattle.pylex_lexeme.proofs.Strings.StringLongest.{triple_opens, quotes_three, head_is}
use Rattle.pylex_lexeme.proofs.Strings.OpenStrings.{open_following}
use Rattle.pylex_lexeme.proofs.WholeLines.LinedUnits.{joined_single}
use Rattle.pylex_lexeme.proofs.WholeLines.LineFronts.{triples_kept, here_longer, opens_longer}
use Rattle.pylex_lexeme.proofs.WholeLines.Lengthened.{triple_goes_on, single_goes_on, triple_ended, single_open}

pub open_is : (o : Option OpenLiteral) (cs : List ℕ) → IfSome o (λ l. IsOpenBy l cs) → IfNone o (is_open_string cs ≡ false)
    → is_some o ≡ is_open_string cs
open_is None cs s n = sym n
open_is (Some o) cs s n = sym s.unended

-- The literal at a text's front
pub opened : (o : OpenLiteral) (n : ℕ) (cs r : List ℕ) → Which (quote_char o.quote) → Opens n cs → r ≡ drop n cs
    → begins (λ c. c == quote_char o.quote) r ≡ true → o.triple ≡ begins_quotes (quote_char o.quote) r
    → true ≡ (begins_quotes (quote_char o.quote) r || ends_by_join (quote_char o.quote) (units (drop 1 r))) → IsOpenBy o cs
opened o n cs r w p e h t u =
    let i = head_is (quote_char o.quote) r h in
    record {
      «prefix» = n;
      opens = p;
      here = ap (begins (λ c. c == quote_char o.quote)) (sym e) ∙ h;
      triple = triple_opens n cs p ∙ ap begins_three (sym e ∙ i) ∙ quotes_three (quote_char o.quote) (drop 1 r) w
          ∙ ap (begins_quotes (quote_char o.quote)) (sym i) ∙ sym t;
      unended = open_following (quote_char o.quote) n cs r w p e h ∙ sym u;
    }

pub unopened : (q n : ℕ) (cs r : List ℕ) → Which q → Opens n cs → r ≡ drop n cs → begins (λ c. c == q) r ≡ true
    → false ≡ (begins_quotes q r || ends_by_join q (units (drop 1 r))) → is_open_string cs ≡ false
unopened q n cs r w p e h u = open_following q n cs r w p e h ∙ sym u

-- After one more line
joins_unclosed : (q : ℕ) (line : List ℕ) → ends_by_join q (units line) ≡ true → single_len q line ≡ 0
unfolding single_len
joins_unclosed q line e = ap (single_of q) (sym (append-nil (units line))) ∙ joined_single q (units line) [] e refl

longer : (o : OpenLiteral) (cs line : List ℕ) → EndsLine cs → (i : IsOpenBy o cs) → is_open_string (cs ++ line) ≡ true
    → IsOpenBy o (cs ++ line)
longer o cs line l i u =
    record {
      «prefix» = i.«prefix»;
      opens = opens_longer i.«prefix» cs line i.opens;
      here = here_longer (quote_char o.quote) i.«prefix» cs line i.opens i.here;
      triple = triples_kept cs line l ∙ i.triple;
      unended = u;
    }

pub unclosed : (b : Bool) (n : ℕ) → b ≡ nat_lt 0 n → IsTrue (not b) → n ≡ 0
unclosed b n e h = grind (arith, nat_tests)

pub triple_on : (o : OpenLiteral) (line : List ℕ) → o.triple ≡ true → triple_len (quote_char o.quote) line ≡ 0 → (cs : List ℕ) → EndsLine cs
    → IsOpenBy o cs → lexeme_at cs ≡ None → IsOpenBy o (cs ++ line) × (lexeme_at (cs ++ line) ≡ None)
triple_on o line t f cs l i e =
    let g = triple_goes_on (quote_char o.quote) i.«prefix» cs line l i.opens i.here (i.triple ∙ t) e f in
    (longer o cs line l i g.1, g.0)

pub single_on : (o : OpenLiteral) (line : List ℕ) → o.triple ≡ false → ends_by_join (quote_char o.quote) (units line) ≡ true → (cs : List ℕ)
    → EndsLine cs → IsOpenBy o cs → lexeme_at cs ≡ None → IsOpenBy o (cs ++ line) × (lexeme_at (cs ++ line) ≡ None)
single_on o line t j cs l i e =
    let g = single_goes_on (quote_char o.quote) i.«prefix» cs line l i.opens i.here (i.triple ∙ t) i.unended
    (joins_unclosed (quote_char o.quote) line j) j in
    (longer o cs line l i g.1, g.0)

-- Where it is open still, the next line doesn't close it
pub closed : (b : Bool) (n : ℕ) → b ≡ nat_lt 0 n → n ≡ 0 → IsTrue (not b)
closed b n e f = ap not (e ∙ ap (nat_lt 0) f)

some : (line : List ℕ) → line ≢ [] → is_nil line ≡ false
some [] n = absurd (n refl)
some (c ∷ line) n = refl

pub triple_still : (o : OpenLiteral) (line : List ℕ) → o.triple ≡ true → (cs : List ℕ) → EndsLine cs → IsOpenBy o cs
    → lexeme_at (cs ++ line) ≡ None → triple_len (quote_char o.quote) line ≡ 0
triple_still o line t cs l i e = triple_ended (quote_char o.quote) i.«prefix» cs line l i.opens i.here (i.triple ∙ t) e

pub single_still : (o : OpenLiteral) (line : List ℕ) → o.triple ≡ false → (cs : List ℕ) → EndsLine cs → IsOpenBy o cs → line ≢ []
    → is_open_string (cs ++ line) ≡ true → ends_by_join (quote_char o.quote) (units line) ≡ true
single_still o line t cs l i n u =
    sym (single_open (quote_char o.quote) i.«prefix» cs line l i.opens i.here (i.triple ∙ t) i.unended (some line n)) ∙ u
