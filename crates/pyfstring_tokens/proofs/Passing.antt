-- From the bytes that are left to what stands next in them.
--
-- Carries: next_lexeme, next. On: Places.
use Rattle.std.proofs.Common.{◌≡◌, ℕ, ◌+◌, ◌-◌, ◌<◌, true, false, ◌&&◌, ◌==◌, List, [], ◌∷◌, ◌++◌, length, length-append, refl, ap, subst}
use Rattle.std.proofs.Common.{arith}
use Rattle.std.specs.Str.{chars, IsUtf8}
use Rattle.std.proofs.lemmas.Str.{chars-nil}
use Rattle.pylex_lexeme.specs.Chars.{bytes_in}
use Rattle.pylex_lexeme.specs.declared.lexeme.Class.{Class}
use Rattle.pylex_lexeme.specs.declared.lexeme.Class.TheVariants.{Comment}
use Rattle.pylex_lexeme.specs.Lexemes.{is_opener_class, is_closer_class}
use Rattle.pylex_lexeme.specs.Cuts.{Cuts}
use Rattle.pylex_lexeme.proofs.Callers.Fronts.{length-text}
use Rattle.pylex_listing.specs.Lines.{count_if}
use Rattle.pyfstring_tokens.specs.declared.faults.FieldFault.{FieldFault}
use Rattle.pyfstring_tokens.specs.declared.faults.FieldFault.TheVariants as faults
use Rattle.pyfstring_tokens.specs.FieldTokens.{has_fault, closes_outer}
use Rattle.pyfstring_tokens.specs.Answers.{Gives, Ends, Refuses}
use Rattle.pyfstring_tokens.specs.Standing.{StandsAt}
use Rattle.pyfstring_tokens.specs.Inner.Passing.{Passes, here, past, TokenAhead, Stops}
use Rattle.pyfstring_tokens.proofs.Places.{past_gap, past_token, none_refused, comment_refused, closer_refused, unclosed_refused, ends}

-- Sizes
pub some_chars : (bs : List ℕ) → IsUtf8 bs → 0 < length bs → 0 < length (chars bs)
some_chars bs u h = by (chars bs) (length-text bs u)
  where
    by : (cs : List ℕ) → length bs ≡ bytes_in cs → 0 < length cs
    by [] e = let z : bytes_in [] ≡ 0 = refl in omega arith
    by (c ∷ cs) e = omega arith

pub some_bytes : (bs : List ℕ) → 0 < length (chars bs) → 0 < length bs
some_bytes [] h = let e : length (chars []) ≡ 0 = ap length chars-nil in omega arith
some_bytes (b ∷ bs) h = omega arith

pub shorter : (rest front back : List ℕ) (k : Class) → Cuts rest k front back → length back < length rest
shorter rest front back k c = let s = some_bytes front c.nonempty in omega (arith, c.sizes)

some_rest : (rest front back : List ℕ) (k : Class) → Cuts rest k front back → 0 < length (chars rest)
some_rest rest front back k c = some_chars_of (chars rest) (chars front) (chars back) c.whole c.nonempty
  where
    some_chars_of : (r f b : List ℕ) → r ≡ f ++ b → 0 < length f → 0 < length r
    some_chars_of r f b e h = omega (arith, ap length e, length-append f b)

-- past all that stands before what is next
pub past_all : (text : List ℕ) (n d : ℕ) (bytes rest : List ℕ) → Passes bytes rest → StandsAt text n (chars bytes) d
    → StandsAt text n (chars rest) d
past_all text n d bytes rest here i = i
past_all text n d bytes left (past rest front back k p c g) i =
    past_gap text n (chars rest) (chars back) d (record { «class» = k; text = chars front }) (some_rest rest front back k c) c.lexeme
    c.whole g (past_all text n d bytes rest p i)

pub refused : (text : List ℕ) (n d : ℕ) (bytes : List ℕ) (e : FieldFault) → Stops bytes e → StandsAt text n (chars bytes) d → Refuses text e
refused text n d bytes faults.NoToken s i = none_refused text n (chars s.rest) d s.some s.none (past_all text n d bytes s.rest s.passes i)
refused text n d bytes faults.Unclosed s i = absurd s
refused text n d bytes faults.Closer s i = absurd s
refused text n d bytes faults.Comment s i = comment_refused text n (chars s.rest) (chars s.back) d
    (record { «class» = Comment; text = chars s.front }) s.cuts.lexeme s.cuts.whole refl (past_all text n d bytes s.rest s.passes i)

at_end : (text : List ℕ) (n d : ℕ) (bytes : List ℕ) → Passes bytes [] → StandsAt text n (chars bytes) d → StandsAt text n [] d
at_end text n d bytes p i = subst (λ (r : List ℕ). StandsAt text n r d) chars-nil (past_all text n d bytes [] p i)

pub unclosed : (text : List ℕ) (n d : ℕ) (bytes : List ℕ) → 0 < d → Passes bytes []
    → StandsAt text n (chars bytes) d → has_fault text ≡ true
unclosed text n d bytes h p i = unclosed_refused text n d h (at_end text n d bytes p i)

pub ended : (text : List ℕ) (n d : ℕ) (bytes : List ℕ) → d ≡ 0 → Passes bytes [] → StandsAt text n (chars bytes) d → Ends text n
ended text n d bytes h p i = ends text n d h (at_end text n d bytes p i)

pub unopened : (text : List ℕ) (n d : ℕ) (bytes : List ℕ) (k : Class) (front back : List ℕ) → TokenAhead bytes k front back
    → (is_closer_class k && (d == 0)) ≡ true → StandsAt text n (chars bytes) d → closes_outer text ≡ true
unopened text n d bytes k front back t m i =
    closer_refused text n (chars t.rest) (chars back) d (record { «class» = k; text = chars front }) t.cuts.lexeme t.cuts.whole m
    (past_all text n d bytes t.rest t.passes i)

pub taken : (text : List ℕ) (n d : ℕ) (bytes : List ℕ) (k : Class) (front back : List ℕ) → TokenAhead bytes k front back
    → (is_closer_class k && (d == 0)) ≡ false → StandsAt text n (chars bytes) d
    → Gives text n k (chars front) × StandsAt text (n + 1) (chars back) (d + count_if (is_opener_class k) - count_if (is_closer_class k))
taken text n d bytes k front back t m i =
    let p = past_token text n (chars t.rest) (chars back) d (record { «class» = k; text = chars front })
    (some_rest t.rest front back k t.cuts) t.cuts.lexeme t.cuts.whole t.no_gap t.no_comment m
    (past_all text n d bytes t.rest t.passes i) in
    (p.gives, p.stands)
