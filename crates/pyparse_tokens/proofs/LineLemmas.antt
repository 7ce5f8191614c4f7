-- Carries: read_line. On: the tokens and the logical lines of a front of a listing, with one entry
-- more, and what stands after it.
use Rattle.std.proofs.Common.{◌≡◌, ℕ, ◌<◌, Bool, true, false, List, [], ◌∷◌, ◌++◌, length, refl, sym, ap, ◌∙◌, append_assoc, arith}
use Rattle.std.proofs.Common.{length-append}
use Rattle.std.specs.Prelude.{count_by, if◌then◌else◌}
use Rattle.pylex_listing.specs.declared.kind.Kind.{Kind}
use Rattle.pylex_listing.specs.declared.kind.Kind.TheVariants as kinds
use Rattle.pylex_listing.specs.declared.entries.Entry.{Entry}
use Rattle.pytoken.specs.Inner.Following.{following}
use Rattle.pytoken.specs.Tokens.{Token, Line, text_of, token_of, supplied, is_open, tokens_of_entry, tokens_from, level_after, lines_from}
use Rattle.pytoken.proofs.Callers.OnePass.{tokens_on}
use Rattle.pyparse_tokens.specs.Inner.Passing.{counted, still_open}
use Rattle.pyparse_tokens.proofs.PassLemmas.{count_on}
use Rattle.pyparse_tokens.specs.Inner.LineGathering.{stands_in_line, ended_by, line_following, front_tokens, front_line, front_lines}

-- the tokens of the entries of a front, and those of what stands after it
pub tokens_past : (text : List ℕ) (before es more : List Entry)
    → tokens_from text before (es ++ more) ≡ tokens_from text before es ++ tokens_from text (following before es) more
tokens_past text before [] more = refl
tokens_past text before (e ∷ es) more =
    let here = tokens_of_entry text (is_open before) e in
    ap (λ (ts : List Token). here ++ ts) (tokens_past text (e ∷ before) es more)
    ∙ sym (append_assoc here (tokens_from text (e ∷ before) es) (tokens_from text (following (e ∷ before) es) more))

-- what a token of this type does to a line: it ends it, it stands beside it, or it is put to it
abbrev by_kind : {X : Type 0} → Kind → X → X → X → X
by_kind k ended beside put = elim k [
  | kinds.Newline ↦ ended
  | kinds.Indent ↦ beside
  | kinds.Dedent ↦ beside
  | kinds.EndMarker ↦ beside
  | _ ↦ put
]

-- the lines of a front of the tokens, and those of what stands after it
pub lines_past : (before line ts more : List Token)
    → lines_from before line (ts ++ more) ≡ lines_from before line ts ++ lines_from (following before ts) (line_following line ts) more
lines_past before line [] more = refl
lines_past before line (t ∷ ts) more =
    let rest : List Token → List Line = λ l. lines_from (following (t ∷ before) ts) l more in
    let all : List Token → List Line = λ l. lines_from (t ∷ before) l (ts ++ more) in
    let here : List Token → List Line = λ l. lines_from (t ∷ before) l ts in
    by t.kind (record { level = level_after before; tokens = line }) rest
    (all []) (here []) (line_following [] ts) (lines_past (t ∷ before) [] ts more)
    (all line) (here line) (line_following line ts) (lines_past (t ∷ before) line ts more)
    (all (line ++ t ∷ [])) (here (line ++ t ∷ [])) (line_following (line ++ t ∷ []) ts) (lines_past (t ∷ before) (line ++ t ∷ []) ts more)
  where
    by : (k : Kind) (own : Line) (rest : List Token → List Line)
        (all0 here0 : List Line) (left0 : List Token) → all0 ≡ here0 ++ rest left0
        → (all1 here1 : List Line) (left1 : List Token) → all1 ≡ here1 ++ rest left1
        → (all2 here2 : List Line) (left2 : List Token) → all2 ≡ here2 ++ rest left2
        → by_kind k (own ∷ all0) all1 all2 ≡ by_kind k (own ∷ here0) here1 here2 ++ rest (by_kind k left0 left1 left2)
    by kinds.Newline own rest a0 b0 c0 h0 a1 b1 c1 h1 a2 b2 c2 h2 = ap (λ (ls : List Line). own ∷ ls) h0
    by kinds.Indent own rest a0 b0 c0 h0 a1 b1 c1 h1 a2 b2 c2 h2 = h1
    by kinds.Dedent own rest a0 b0 c0 h0 a1 b1 c1 h1 a2 b2 c2 h2 = h1
    by kinds.EndMarker own rest a0 b0 c0 h0 a1 b1 c1 h1 a2 b2 c2 h2 = h1
    by kinds.Encoding own rest a0 b0 c0 h0 a1 b1 c1 h1 a2 b2 c2 h2 = h2
    by kinds.Comment own rest a0 b0 c0 h0 a1 b1 c1 h1 a2 b2 c2 h2 = h2
    by kinds.Nl own rest a0 b0 c0 h0 a1 b1 c1 h1 a2 b2 c2 h2 = h2
    by kinds.Name own rest a0 b0 c0 h0 a1 b1 c1 h1 a2 b2 c2 h2 = h2
    by kinds.Number own rest a0 b0 c0 h0 a1 b1 c1 h1 a2 b2 c2 h2 = h2
    by kinds.String own rest a0 b0 c0 h0 a1 b1 c1 h1 a2 b2 c2 h2 = h2
    by kinds.Op own rest a0 b0 c0 h0 a1 b1 c1 h1 a2 b2 c2 h2 = h2

-- and the open line
pub line_past : (line ts more : List Token) → line_following line (ts ++ more) ≡ line_following (line_following line ts) more
line_past line [] more = refl
line_past line (t ∷ ts) more =
    let all : List Token → List Token = λ l. line_following l (ts ++ more) in
    let here : List Token → List Token = λ l. line_following l ts in
    by t.kind (λ l. line_following l more) (all []) (here []) (line_past [] ts more) (all line) (here line) (line_past line ts more)
    (all (line ++ t ∷ [])) (here (line ++ t ∷ [])) (line_past (line ++ t ∷ []) ts more)
  where
    by : (k : Kind) (rest : List Token → List Token) (all0 here0 : List Token) → all0 ≡ rest here0
        → (all1 here1 : List Token) → all1 ≡ rest here1
        → (all2 here2 : List Token) → all2 ≡ rest here2 → by_kind k all0 all1 all2 ≡ rest (by_kind k here0 here1 here2)
    by kinds.Newline rest a0 b0 h0 a1 b1 h1 a2 b2 h2 = h0
    by kinds.Indent rest a0 b0 h0 a1 b1 h1 a2 b2 h2 = h1
    by kinds.Dedent rest a0 b0 h0 a1 b1 h1 a2 b2 h2 = h1
    by kinds.EndMarker rest a0 b0 h0 a1 b1 h1 a2 b2 h2 = h1
    by kinds.Encoding rest a0 b0 h0 a1 b1 h1 a2 b2 h2 = h2
    by kinds.Comment rest a0 b0 h0 a1 b1 h1 a2 b2 h2 = h2
    by kinds.Nl rest a0 b0 h0 a1 b1 h1 a2 b2 h2 = h2
    by kinds.Name rest a0 b0 h0 a1 b1 h1 a2 b2 h2 = h2
    by kinds.Number rest a0 b0 h0 a1 b1 h1 a2 b2 h2 = h2
    by kinds.String rest a0 b0 h0 a1 b1 h1 a2 b2 h2 = h2
    by kinds.Op rest a0 b0 h0 a1 b1 h1 a2 b2 h2 = h2

-- one entry more

abbrev pub with_own : List ℕ → Entry → List Token → List Token
with_own text e line = if stands_in_line e.kind then line ++ token_of text e ∷ [] else line

-- what an entry does to the line that is open
line_by : (text : List ℕ) (begun : Bool) (e : Entry) (line : List Token)
    → line_following line (tokens_of_entry text begun e) ≡ (if ended_by e begun then [] else with_own text e line)
line_by text begun e line = by begun e.kind refl
  where
    by : (b : Bool) (k : Kind) → e.kind ≡ k
        → line_following line (tokens_of_entry text b e) ≡ (if ended_by e b then [] else with_own text e line)
    by true kinds.Newline is = rw is refl
    by false kinds.Newline is = rw is refl
    by true kinds.Dedent is = rw is refl
    by false kinds.Dedent is = rw is refl
    by true kinds.EndMarker is = rw is refl
    by false kinds.EndMarker is = rw is refl
    by b kinds.Indent is = rw is refl
    by b kinds.Encoding is = rw is refl
    by b kinds.Comment is = rw is refl
    by b kinds.Nl is = rw is refl
    by b kinds.Name is = rw is refl
    by b kinds.Number is = rw is refl
    by b kinds.String is = rw is refl
    by b kinds.Op is = rw is refl

-- and which line ends by it
lines_by : (text : List ℕ) (begun : Bool) (e : Entry) (before line : List Token)
    → lines_from before line (tokens_of_entry text begun e) ≡ (if ended_by e begun then record {
      level = level_after before;
      tokens = line;
    } ∷ [] else [])
lines_by text begun e before line = by begun e.kind refl
  where
    by : (b : Bool) (k : Kind) → e.kind ≡ k
        → lines_from before line (tokens_of_entry text b e) ≡ (if ended_by e b then record {
          level = level_after before;
          tokens = line;
        } ∷ [] else [])
    by true kinds.Newline is = rw is refl
    by false kinds.Newline is = rw is refl
    by true kinds.Dedent is = rw is refl
    by false kinds.Dedent is = rw is refl
    by true kinds.EndMarker is = rw is refl
    by false kinds.EndMarker is = rw is refl
    by b kinds.Indent is = rw is refl
    by b kinds.Encoding is = rw is refl
    by b kinds.Comment is = rw is refl
    by b kinds.Nl is = rw is refl
    by b kinds.Name is = rw is refl
    by b kinds.Number is = rw is refl
    by b kinds.String is = rw is refl
    by b kinds.Op is = rw is refl

after_past : (before ts more : List Token) → following before (ts ++ more) ≡ following (following before ts) more
after_past before [] more = refl
after_past before (t ∷ ts) more = after_past (t ∷ before) ts more

pub line_on : (text : List ℕ) (es : List Entry) (e : Entry)
    → front_line text (es ++ e ∷ []) ≡ (if ended_by e (is_open (following [] es)) then [] else with_own text e (front_line text es))
line_on text es e =
    let begun = is_open (following [] es) in
    ap (line_following []) (tokens_on text [] es e)
    ∙ line_past [] (front_tokens text es) (tokens_of_entry text begun e)
    ∙ line_by text begun e (front_line text es)

pub lines_on : (text : List ℕ) (es : List Entry) (e : Entry)
    → front_lines text (es ++ e ∷ []) ≡ front_lines text es
    ++ (if ended_by e (is_open (following [] es)) then record {
      level = level_after (following [] (front_tokens text es));
      tokens =
          front_line text es;
    } ∷ [] else [])
lines_on text es e =
    let begun = is_open (following [] es) in
    let ts = front_tokens text es in
    ap (lines_from [] []) (tokens_on text [] es e)
    ∙ lines_past [] [] ts (tokens_of_entry text begun e)
    ∙ ap (λ (ls : List Line). front_lines text es ++ ls) (lines_by text begun e (following [] ts) (front_line text es))

-- so many tokens of a type
abbrev pub tally : (Kind → Bool) → List Token → ℕ
tally p ts = count_by (λ t. p t.kind) ts

-- the tokens of an entry: none of them is counted but its own
tally_by : (p : Kind → Bool) → p kinds.Newline ≡ false → p kinds.Encoding ≡ false → p kinds.Comment ≡ false → p kinds.Nl ≡ false
    → (text : List ℕ) (begun : Bool) (e : Entry) (before : List Token)
    → tally p (following before (tokens_of_entry text begun e)) ≡ counted (tally p before) (p e.kind)
tally_by p newline encoding comment nl text begun e before = by begun e.kind refl
  where
    none : (k : Kind) → p k ≡ false → tally p before ≡ counted (tally p before) (p k)
    none k is = sym (ap (counted (tally p before)) is)

    one : (ts : List Token) (t : Token) → tally p (t ∷ ts) ≡ counted (tally p ts) (p t.kind)
    one ts t = sym (count_on (λ (t : Token). p t.kind) ts t)

    own : (ts : List Token) (k : Kind) → tally p (record { kind = k; start = e.start; text = text_of text e } ∷ ts) ≡
        counted (tally p ts) (p k)
    own ts k = one ts (record { kind = k; start = e.start; text = text_of text e })

    after_newline : (k : Kind) → tally p (record { kind = k; start = e.start; text = text_of text e } ∷ supplied text ∷ before) ≡
        counted (tally p before) (p k)
    after_newline k =
        own (supplied text ∷ before) k ∙ ap (λ (n : ℕ). counted n (p k)) (one before (supplied text)
        ∙ ap (counted (tally p before)) newline)

    by : (b : Bool) (k : Kind) → e.kind ≡ k → tally p (following before (tokens_of_entry text b e)) ≡ counted (tally p before) (p e.kind)
    by true kinds.Newline is = rw is (own before kinds.Newline)
    by false kinds.Newline is = rw is (none kinds.Newline newline)
    by true kinds.Dedent is = rw is (after_newline kinds.Dedent)
    by false kinds.Dedent is = rw is (own before kinds.Dedent)
    by true kinds.EndMarker is = rw is (after_newline kinds.EndMarker)
    by false kinds.EndMarker is = rw is (own before kinds.EndMarker)
    by b kinds.Indent is = rw is (own before kinds.Indent)
    by b kinds.Encoding is = rw is (none kinds.Encoding encoding)
    by b kinds.Comment is = rw is (none kinds.Comment comment)
    by b kinds.Nl is = rw is (none kinds.Nl nl)
    by b kinds.Name is = rw is (own before kinds.Name)
    by b kinds.Number is = rw is (own before kinds.Number)
    by b kinds.String is = rw is (own before kinds.String)
    by b kinds.Op is = rw is (own before kinds.Op)

pub tally_past : (p : Kind → Bool) → p kinds.Newline ≡ false → p kinds.Encoding ≡ false → p kinds.Comment ≡ false → p kinds.Nl ≡ false
    → (text : List ℕ) (es : List Entry) (e : Entry)
    → tally p (following [] (front_tokens text (es ++ e ∷ []))) ≡ counted (tally p (following [] (front_tokens text es))) (p e.kind)
tally_past p newline encoding comment nl text es e =
    let begun = is_open (following [] es) in
    let ts = front_tokens text es in
    ap (λ (ts : List Token). tally p (following [] ts)) (tokens_on text [] es e)
    ∙ ap (tally p) (after_past [] ts (tokens_of_entry text begun e))
    ∙ tally_by p newline encoding comment nl text begun e (following [] ts)

-- a line with tokens has one
pub some_by : (text : List ℕ) (e : Entry) (begun : Bool) (line : List Token) → (begun ≡ true → 0 < length line)
    → still_open e.kind begun ≡ true → 0 < length (if ended_by e begun then [] else with_own text e line)
some_by text e begun line some opened = by e.kind refl
  where
    by : (k : Kind) → e.kind ≡ k → 0 < length (if ended_by e begun then [] else with_own text e line)
    by kinds.Comment is = rw is (let b : begun ≡ true = rw is at opened in some b)
    by kinds.Nl is = rw is (let b : begun ≡ true = rw is at opened in some b)
    by kinds.Name is = rw is (grind (arith, length-append))
    by kinds.Number is = rw is (grind (arith, length-append))
    by kinds.String is = rw is (grind (arith, length-append))
    by kinds.Op is = rw is (grind (arith, length-append))
    by kinds.Newline is = let h : false ≡ true = rw is at opened in absurd (cc)
    by kinds.Dedent is = let h : false ≡ true = rw is at opened in absurd (cc)
    by kinds.EndMarker is = let h : false ≡ true = rw is at opened in absurd (cc)
    by kinds.Indent is = let h : false ≡ true = rw is at opened in absurd (cc)
    by kinds.Encoding is = let h : false ≡ true = rw is at opened in absurd (cc)
