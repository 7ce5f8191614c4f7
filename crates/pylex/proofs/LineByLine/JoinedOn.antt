-- The lines that a literal joins.
--
-- Carries: add_line, lengthen, replace, add_lines. On: AheadOn, LexedOn, Lined,
-- HeldLinesLemmas and 3 more.
use Rattle.std.proofs.Common.{◌≡◌, inl, inr, ⊎_elim, ℕ, ◌≤◌, ◌<◌, zero, suc, true, false, List, [], ◌∷◌, ◌++◌, length, take, drop, refl, ap}
use Rattle.std.proofs.Common.{sym, ◌∙◌, subst, append-nil, append_assoc, length-append, arith, None, string_bytes}
use Rattle.std.specs.Prelude.{Result, Ok, ◌==◌}
use Rattle.std.specs.declared.alloc.AllocError.{AllocError}
use Rattle.std.specs.Str.{chars, IsUtf8}
use Rattle.std.proofs.lemmas.List.{take-append-drop, length-drop}
use Rattle.std.proofs.lemmas.Str.{chars-append, IsUtf8-append}
use Rattle.std.proofs.Math.Seq.{drop-append_seam}
use lib.Seq.{drop-append-le}
use Rattle.pysource.specs.Bytes.{Seen}
use Rattle.pysource.specs.Streams.{Buffered, Coming, ComesOnly, NextLine, IsText, comes, ends_line}
use Rattle.pysource.specs.Lines.{lines_of}
use Rattle.pysource.specs.Limits.{source_limit}
use Rattle.pysource.specs.declared.line_reader.LineRead.{LineRead}
use Rattle.pysource.specs.declared.line_reader.LineRead.TheVariants as met
use Rattle.pylex_lexeme.specs.declared.string.OpenLiteral.{OpenLiteral}
use Rattle.pylex.specs.declared.held_lines.HeldLines.{HeldLines}
use Rattle.pylex_lexeme.specs.Chars.{begins}
use Rattle.pylex_lexeme.specs.Strings.{quote_char}
use Rattle.pylex_lexeme.specs.Chunks.{EndsLine}
use Rattle.pylex.specs.Inner.Chunked.{AddsLine, IsLineMore, HoldsOn}
use Rattle.pylex_lexeme.specs.Lexemes.{lexeme_at, left_by_cut, is_open_string}
use Rattle.pylex_lexeme.specs.OpenLiterals.{IsOpenBy}
use Rattle.pylex.specs.Held.{AheadBut, IsJoined, LexedTo, at_left, IsAtStop, Holds, IsOpenAt, LinesAfter, Joins}
use Rattle.pylex.proofs.LineByLine.HeldLinesLemmas.{line_some}
use Rattle.pylex.proofs.LineByLine.Lined.{lined_chars, lined_or_last}
use Rattle.pylex.proofs.LineByLine.Reading.{ends_following}
use Rattle.pylex.proofs.LineByLine.Searching.{some_future}
use Rattle.pylex.proofs.MachineLaws.Steps.{left_stop}
use Rattle.pylex.proofs.LineByLine.LexedOn.{lexed_on, left_lexed, joined_more}
use Rattle.pylex.proofs.LineByLine.AheadOn.{ahead_none, ahead_but, ahead_line, ahead_kept}

-- What a goes_on tells of a literal and the next line
abbrev pub GoesOn : OpenLiteral → List ℕ → Type 0
GoesOn o line = (cs : List ℕ) → EndsLine cs → IsOpenBy o cs → lexeme_at cs ≡ None
    → IsOpenBy o (cs ++ chars line) × (lexeme_at (cs ++ chars line) ≡ None)

-- something stands where a literal is open
not_nothing : (o : OpenLiteral) (cs : List ℕ) → IsOpenBy o cs → cs ≡ [] → ⊥
not_nothing o cs i e = none i.«prefix» (ap (λ t. begins (λ c. c == quote_char o.quote) (drop i.«prefix» t)) (sym e) ∙ i.here)
  where
    none : (n : ℕ) → begins (λ c. c == quote_char o.quote) (drop n []) ≡ true → ⊥
    none zero h = let f : false ≡ true = h in cc
    none (suc n) h = let f : false ≡ true = h in cc

lines_at : (o : OpenLiteral) (at : ℕ) (front : List ℕ) → ends_line front ≡ true → IsOpenAt o at front → EndsLine (chars (drop at front))
lines_at o at front feed i = ⊎_elim (λ l. l) (λ e. absurd (not_nothing o (chars (drop at front)) i.opened e))
    (lined_or_last front (take at front) (drop at front) (sym (take-append-drop at front)) i.left feed)

-- A literal that goes on is open after the next line.
pub open_on : (o : OpenLiteral) (at : ℕ) (front line : List ℕ) → IsUtf8 front → IsUtf8 line → ends_line front ≡ true → IsOpenAt o at front
    → GoesOn o line → IsOpenAt o at (front ++ line)
open_on o at front line u v feed i goes =
    let left : drop at (front ++ line) ≡ drop at front ++ line = drop-append-le at front line i.within in
    let cs : chars (drop at (front ++ line)) ≡ chars (drop at front) ++ chars line = ap chars left
    ∙ chars-append (drop at front) line i.left in
    let g = goes (chars (drop at front)) (lines_at o at front feed i) i.opened i.none in
    record {
      within = omega (arith, i.within, length-append front line);
      left = subst IsUtf8 (sym left) (IsUtf8-append (drop at front) line i.left v);
      lexed = rw (cs, chars-append front line u) (lexed_on (chars (drop at front)) (chars line) (chars front)
          (inl (lined_chars front u feed)) i.lexed);
      opened = rw cs g.0;
      none = rw cs g.1;
    }

-- the literal is what the cut leaves
pub left_open : (o : OpenLiteral) (at : ℕ) (text : List ℕ) → IsOpenAt o at text → is_open_string (left_by_cut (chars text)) ≡ true
left_open o at text i = ap is_open_string (left_lexed (chars (drop at text)) (chars text) i.lexed ∙ left_stop (chars (drop at text)) i.none)
    ∙ i.opened.unended

-- nothing follows a last line without line feed
pub comes_some : {x y : Seen} {text_b text_c : List ℕ} (b c : Buffered) → (r : NextLine x y b c text_b text_c (Ok met.Text))
    → c.count ≤ source_limit → ComesOnly b None → ⊥
comes_some b c r within only =
    let f = some_future c within in
    let g = r.gives f.more f.broken f.follows.0 in
    let none : r.line ++ (comes c f.more f.broken).text ≡ [] = sym (ap (λ (z : Coming). z.text) g.1)
    ∙ ap (λ (z : Coming). z.text) (only (r.taken ++ f.more) f.broken g.0) in
    no_text r.line (line_some r.line r.tells.0.one) none
  where
    no_text : (line : List ℕ) → 0 < length line → line ++ (comes c (some_future c within).more (some_future c within).broken).text ≡ [] → ⊥
    no_text [] h e = omega arith
    no_text (u ∷ line) h e = cc

module _ (x y : Seen) (o : OpenLiteral) (at from : ℕ) (a b c : Buffered) (text_b text_c : List ℕ)
    (l : LinesAfter o at from a b text_b) where
  -- the literal is open after the last line too
  open_following : GoesOn o (drop from text_b) → IsOpenAt o at text_b
  open_following goes =
      let line : drop from text_b ≡ l.line = ap (λ n. drop n text_b) (sym l.starts) ∙ ap (drop (length l.front)) l.whole
      ∙ drop-append_seam l.front l.line in
      subst (IsOpenAt o at) (sym l.whole) (open_on o at l.front l.line l.utf8 l.line_utf8 l.feed l.opened (subst (GoesOn o) line goes))

  -- One line more.
  pub after_line : GoesOn o (drop from text_b) → (r : NextLine x y b c text_b text_c (Ok met.Text)) → c.count ≤ source_limit
      → LinesAfter o at (length text_b) a c text_c
  after_line goes r within =
      let open_at = open_following goes in
      record {
        front = text_b;
        line = r.line;
        whole = r.chunk;
        starts = refl;
        utf8 = subst IsUtf8 (sym l.whole) (IsUtf8-append l.front l.line l.utf8 l.line_utf8);
        line_utf8 = r.tells.0.utf8;
        feed = ⊎_elim (λ e. ap ends_line l.whole ∙ ends_following l.front l.line e) (λ only. absurd (comes_some b c r within only)) l.ends;
        opened = open_at;
        ends = r.tells.1;
        joined = subst (IsJoined []) (sym r.chunk) (joined_more text_b r.line l.joined (λ _. left_open o at text_b open_at) r.tells.0.one);
        ahead = ahead_line x y a b c text_b text_c (ahead_but a b l.ahead) r;
      }

  -- No line more.
  pub joins_no_line : GoesOn o (drop from text_b) → (q : Result LineRead AllocError) → (r : NextLine x y b c text_b text_c q) → r.line ≡ []
      → (IsText q → ⊥) → Joins o at a c text_c
  joins_no_line goes q r none not =
      let same : text_c ≡ text_b = r.chunk ∙ ap (λ t. text_b ++ t) none ∙ append-nil text_b in
      record {
        joined = subst (IsJoined []) (sym same) l.joined;
        ahead = inr (
          ahead_kept x y a b c text_b text_c q r none not (ahead_but a b l.ahead),
          subst (IsOpenAt o at) (sym same) (open_following goes),
        );
      }

-- The literal ended.
pub joins_ended : (o : OpenLiteral) (at from : ℕ) (a b : Buffered) (text : List ℕ) → LinesAfter o at from a b text → Joins o at a b text
joins_ended o at from a b text l = record { joined = l.joined; ahead = inl l.ahead }

-- A line was read after lines where a literal is open.
module _ (old mid : HeldLines) (at : ℕ) (r : IsLineMore old mid at) (s : IsAtStop (string_bytes old.text) at)
    (less : at < length (string_bytes old.text)) where
  feed_held : ends_line (string_bytes old.text) ≡ true
  feed_held = ⊎_elim (λ e. absurd (omega (arith, ap length e, less))) (λ l. l) s.ends

  some_left : 0 < length (drop at (string_bytes old.text))
  some_left = let n = length-drop at (string_bytes old.text) in omega (arith, n, less)

  -- more may be read after it
  pub following_first : (o : OpenLiteral) (start : Buffered) → AheadBut start old.lines → IsOpenBy o (chars (drop at (string_bytes old.text)))
      → LinesAfter o at (length (string_bytes old.text)) start mid.lines (string_bytes mid.text)
  following_first o start a i =
      let open_at : IsOpenAt o at (string_bytes old.text) = record {
        within = s.within;
        left = s.left;
        lexed = s.lexed;
        opened = i;
        none = s.none;
      } in
      record {
        front = string_bytes old.text;
        line = r.line;
        whole = r.text;
        starts = refl;
        utf8 = s.utf8;
        line_utf8 = r.is.utf8;
        feed = feed_held;
        opened = open_at;
        ends = r.ends;
        joined = subst (IsJoined []) (sym r.text) (joined_more (string_bytes old.text) r.line s.joined
            (λ _. left_open o at (string_bytes old.text) open_at) r.is.one);
        ahead = r.ahead start a;
      }

  pub holds_joined : (o : OpenLiteral) (new : Buffered) (held : List ℕ) (added : List ℕ) → held ≡ string_bytes mid.text ++ added
      → ((start : Buffered) → AheadBut start old.lines → Joins o at start new held)
      → Holds old.lines new (drop at (string_bytes old.text)) held (drop mid.at held)
  holds_joined o new held added text j =
      let tail = r.line ++ added in
      let whole : held ≡ string_bytes old.text ++ tail = text ∙ ap (λ t. t ++ added) r.text
      ∙ append_assoc (string_bytes old.text) r.line added in
      let left : drop mid.at held ≡ drop at (string_bytes old.text) ++ tail = ap (λ n. drop n held) r.at ∙ ap (drop at) whole
      ∙ drop-append-le at (string_bytes old.text) tail s.within in
      let lexed : LexedTo (chars (drop at (string_bytes old.text)) ++ chars tail) (chars (string_bytes old.text) ++ chars tail) =
      lexed_on (chars (drop at (string_bytes old.text))) (chars tail) (chars (string_bytes old.text))
      (inl (lined_chars (string_bytes old.text) s.utf8 feed_held)) s.lexed in
      record {
        joined = (j old.lines (ahead_but old.lines old.lines (ahead_none old.lines))).joined;
        lexed = rw (
          left,
          chars-append (drop at (string_bytes old.text)) tail s.left,
          ap chars whole
              ∙ chars-append (string_bytes old.text) tail s.utf8,
        ) lexed;
        ahead = λ start a. ⊎_elim (λ b. inl b) (λ b. inr (some_left, b.0, rw r.at (b.1.none, b.1.opened.unended))) (j start a).ahead;
      }

-- where none is open nothing is read after them
pub holds_none : (old new : HeldLines) (at : ℕ) → at < length (string_bytes old.text)
    → is_open_string (chars (drop at (string_bytes old.text))) ≡ false → HoldsOn old new at (Ok met.Text)
holds_none old new at less none = λ s. let n = length-drop at (string_bytes old.text) in
    absurd (let f : true ≡ false = sym (s.opened (omega (arith, n, less))) ∙ none in cc)

-- A line took the place of those held.
pub holds_line : {x y : Seen} {b c : Buffered} {text_b text_c rest line : List ℕ} (r : NextLine x y b c text_b text_c (Ok met.Text))
    → line ≡ r.line → Holds b c rest line (drop 0 line)
holds_line {x} {y} {b} {c} {text_b} {text_c} {rest} {line} r is = record {
  joined = joined_more [] line (λ front back e feed some. absurd (no_front front back e feed)) (λ h. absurd (omega arith))
      (subst (λ l. lines_of l ≡ l ∷ []) (sym is) r.tells.0.one);
  lexed = at_left;
  ahead = λ start a. inl (ahead_line x y start b c text_b text_c a r);
}
  where
    no_front : (front back : List ℕ) → [] ≡ front ++ back → ends_line front ≡ true → ⊥
    no_front [] back e feed = let f : false ≡ true = feed in cc
    no_front (c ∷ front) back e feed = cc

pub holds_other : (old new : HeldLines) (from : ℕ) (r : LineRead) → (r ≡ met.Text → ⊥) → HoldsOn old new from (Ok r)
holds_other old new from met.Text h = absurd (h refl)
holds_other old new from met.End h = tt
holds_other old new from (met.Fault f) h = tt
holds_other old new from met.Read h = tt

pub adds_other : (old new : HeldLines) (from : ℕ) (r : LineRead) → (r ≡ met.Text → ⊥) → AddsLine old new from (Ok r)
adds_other old new from met.Text h = absurd (h refl)
adds_other old new from met.End h = tt
adds_other old new from (met.Fault f) h = tt
adds_other old new from met.Read h = tt

-- a line that was read after those held
pub line_more : (x y : Seen) (old new : HeldLines) (from : ℕ)
    → (r : NextLine x y old.lines new.lines (string_bytes old.text) (string_bytes new.text) (Ok met.Text)) → new.at ≡ from
    → IsLineMore old new from
line_more x y old new from r at = record {
  line = r.line;
  is = r.tells.0;
  text = r.chunk;
  ends = r.tells.1;
  ahead = λ start a. ahead_line x y start old.lines new.lines (string_bytes old.text) (string_bytes new.text) a r;
  at = at;
}
