-- Carries: walk, walk_line, read_line. On: what was read of a line, with one entry more, and from
-- one spot to the next.
use Rattle.std.proofs.Common.{◌≡◌, ℕ, ◌^◌, ◌<◌, ◌≤◌, Bool, true, false, not, ◌&&◌, List, [], length, take, drop, map, length-take, refl}
use Rattle.std.proofs.Common.{sym, ap, ap₂, subst, ◌∙◌, arith, Some, None}
use Rattle.std.specs.Str.{chars, IsUtf8, IsCharBoundary}
use Rattle.pysource.specs.Limits.{source_limit}
use Rattle.pysource.specs.declared.places.Place.{Place}
use Rattle.pysource.specs.Parts.{Parts}
use Rattle.pylex_lexeme.specs.declared.lexeme.Class.{Class}
use Rattle.pylex_lexeme.specs.declared.lexeme.Class.TheVariants.{Name, Number, String, Operator, Comment, Blanks, LineEnd, Join}
use Rattle.pylex_lexeme.specs.Lexemes.{is_line_end_class}
use Rattle.pylex_listing.specs.declared.kind.Kind.{Kind}
use Rattle.pylex_listing.specs.declared.kind.Kind.TheVariants as kinds
use Rattle.pylex_listing.specs.declared.entries.Entry.{Entry}
use Rattle.pylex_listing.specs.declared.entries.Step.TheVariants as steps
use Rattle.pylex.specs.declared.spots.Spot.{Spot}
use Rattle.pylex_listing.specs.Listing.{in_characters, listing}
use Rattle.pylex.specs.Cursors.{CursorParts}
use Rattle.pylex.specs.Listers.{Listed, LeadsInto}
use Rattle.pylex.specs.Spots.{spot_cursor, at_spot, is_silent, Steps, SpotHasRoom}
use Rattle.pylex_listing.specs.EntryKinds.{kind_of, operator_of}
use Rattle.pylex_listing.specs.Steps.{entries_of, most_entries}
use Rattle.pylex.proofs.CallersOfSpots.{Goes, step_goes, spot_room, spot_boundary, spot_leads}
use Rattle.pytoken.specs.Tokens.{Token}
use Rattle.pytoken.specs.TerminalOf.{terminal}
use Rattle.pyparse_tokens.specs.declared.line_gather.LineGather.{LineGather}
use Rattle.pyparse_tokens.specs.Inner.Passing.{still_open, kept_refusal}
use Rattle.pyparse_tokens.specs.Inner.LineGathering.{ends_open_line, ended_by, TakesEntry, StandsAt, StandsBetween}
use Rattle.pyparse_tokens.specs.Inner.OpenLines.{KeepsLine}
use Rattle.pyparse_tokens.specs.declared.open_line.OpenLine.{OpenLine}
use Rattle.pyparse_tokens.specs.Inner.Walking.{IsEntry, TakesLexeme, Reads, Ended, Went, Walks}
use Rattle.pyparse_tokens.proofs.LineGatherLemmas.{Read, entry_read, stands_on, cleared, none_before, same_line, same_lines, line_read}
use Rattle.pyparse_tokens.proofs.PassLemmas.{few}

-- ---- Between two lines.

keeps_none : (l : OpenLine) → l.terminals.items ≡ [] → KeepsLine [] l
keeps_none l empty = record {
  terminals = ap (map terminal) empty;
  some = λ more. absurd (omega (arith, more));
  start = λ p is. absurd (no_place p is);
  first = λ t is. absurd (no_text t is);
  last = λ t is. absurd (no_text t is);
}
  where
    no_place : (p : Place) → None ≡ Some p → ⊥
    no_place p is = cc

    no_text : (t : List ℕ) → None ≡ Some t → ⊥
    no_text t is = cc

pub reads_begin : (p : Parts) (l : Listed) (g h : LineGather) → StandsBetween p l g → h ≡ record g { line = h.line }
    → h.line.terminals.items ≡ [] →
    Reads p l l h
reads_begin p l g h between is empty = record {
  at = cleared p l g h between.at is;
  keeps = λ _. subst (λ (line : List Token). KeepsLine line h.line) (sym between.closed) (keeps_none h.line empty);
  same = λ _. refl;
}

-- ---- One entry more.

pub reads_on : (p : Parts) (first old new : Listed) (e : Entry) (g h : LineGather) → Reads p first old g → Read p old new e
    → new.shown.given ≤ most_entries → new.source ≡ p →
    TakesEntry (chars p.text) e g h → ended_by e g.pass.begun ≡ false → Reads p first new h
reads_on p first old new e g h had read few source gains goes = record {
  at = stands_on p old new e g h had.at read few source gains;
  keeps = λ none. same_line p old new e g h had.at read gains goes none (had.keeps (none_before p old e g h had.at gains none).0);
  same = λ none. same_lines p old new e g had.at read goes ∙ had.same (none_before p old e g h had.at gains none).0;
}

pub reads_end : (p : Parts) (first old new : Listed) (e : Entry) (g h : LineGather) → Reads p first old g → Read p old new e
    → new.shown.given ≤ most_entries → new.source ≡ p →
    TakesEntry (chars p.text) e g h → ended_by e g.pass.begun ≡ true → Ended p first new h
reads_end p first old new e g h had read few source gains ends = record {
  at = stands_on p old new e g h had.at read few source gains;
  line = λ none.
      let before = none_before p old e g h had.at gains none in
      line_read p first old new e g h had.at read few source gains ends none (had.keeps before.0) (had.same before.0);
}

-- A line that ended with a refusal is let go.
pub reads_cleared : (p : Parts) (first now : Listed) (g h : LineGather) → StandsAt p now g → (kept_refusal g.pass ≡ None → ⊥) →
    h ≡ record g { line = h.line } → Reads p first now h
reads_cleared p first now g h at refused is =
    let same : kept_refusal h.pass ≡ kept_refusal g.pass = ap (λ (x : LineGather). kept_refusal x.pass) is in
    record {
      at = cleared p now g h at is;
      keeps = λ none. absurd (refused (sym same ∙ none));
      same = λ none. absurd (refused (sym same ∙ none));
    }

-- ---- One lexeme more.

-- what ends a line is a line end at depth 0
kind_within : (k : Class) → is_silent k ≡ false → ends_open_line (kind_of k true) ≡ false
kind_within Name g = refl
kind_within Number g = refl
kind_within String g = refl
kind_within (Operator o) g = refl
kind_within Comment g = refl
kind_within LineEnd g = refl
kind_within Blanks g = absurd cc
kind_within Join g = absurd cc

kind_open : (k : Class) → is_silent k ≡ false → still_open (kind_of k true) true ≡ true
kind_open Name g = refl
kind_open Number g = refl
kind_open String g = refl
kind_open (Operator o) g = refl
kind_open Comment g = refl
kind_open LineEnd g = refl
kind_open Blanks g = absurd cc
kind_open Join g = absurd cc

end_only : (k : Class) (d : Bool) → not (is_line_end_class k && d) ≡ false → k ≡ LineEnd
end_only LineEnd d h = refl
end_only Name d h = absurd cc
end_only Number d h = absurd cc
end_only String d h = absurd cc
end_only (Operator o) d h = absurd cc
end_only Comment d h = absurd cc
end_only Blanks d h = absurd cc
end_only Join d h = absurd cc

-- what is known where a spot has been left for the next
pub record Stepped (p : Parts) (levels : List ℕ) (s t : Spot) (k : Class) (front back : List ℕ) (g : LineGather) : Type 0 where
  pub goes : Goes p s levels k front back t
  pub read : Read p (at_spot p s levels) (at_spot p t levels) goes.entry
  pub entry : IsEntry (chars p.text) (kind_of k t.begun) (operator_of k) (chars front) goes.entry
  pub boundary : IsCharBoundary p.text t.offset

pub stepped : (p : Parts) (levels left : List ℕ) (s t : Spot) (k : Class) (front back : List ℕ) (g : LineGather) → IsUtf8 p.text
    → length p.text ≤ source_limit →
    StandsAt p (at_spot p s levels) g → 0 < s.given → s.begun ≡ true → left ≡ drop s.offset p.text → Steps s left k front back t
    → Stepped p levels s t k front back g
stepped p levels left s t k front back g utf8 small at some begun is_left x =
    let goes = step_goes p s t levels left k front back utf8 small at.stands some begun is_left x in
    let read = entry_read p (at_spot p s levels) (at_spot p t levels) g (steps.Entry goes.entry) goes.entry at goes.step refl in
    record {
      goes = goes;
      read = read;
      entry = record { has = read.exact; kind = goes.kind; exact = goes.exact; own_text = goes.text };
      boundary = spot_boundary p t levels utf8 read.stands;
    }

-- the entry that the lexeme gives is taken
pub step_taken : (p : Parts) (levels : List ℕ) (s t : Spot) (k : Class) (front back : List ℕ) (g h : LineGather)
    → (x : Stepped p levels s t k front back g) →
    TakesLexeme (chars p.text) k (chars front) t g h → TakesEntry (chars p.text) x.goes.entry g h
step_taken p levels s t k front back g h x takes = takes x.goes.entry x.entry x.goes.to

-- within the line
pub step_within : (p : Parts) (levels : List ℕ) (s t : Spot) (k : Class) (front back : List ℕ) (g h : LineGather)
    → (x : Stepped p levels s t k front back g) →
    TakesEntry (chars p.text) x.goes.entry g h → is_silent k ≡ false → t.begun ≡ true → ended_by x.goes.entry g.pass.begun ≡ false
step_within p levels s t k front back g h x gains gives goes =
    ap (λ (j : Kind). ends_open_line j && g.pass.begun) (x.goes.kind ∙ ap (kind_of k) goes)
    ∙ ap (λ (b : Bool). b && g.pass.begun) (kind_within k gives)

pub step_open : (p : Parts) (levels : List ℕ) (s t : Spot) (k : Class) (front back : List ℕ) (g h : LineGather)
    → (x : Stepped p levels s t k front back g) →
    TakesEntry (chars p.text) x.goes.entry g h → is_silent k ≡ false → t.begun ≡ true → g.pass.begun ≡ true → h.pass.begun ≡ true
step_open p levels s t k front back g h x gains gives goes begun =
    gains.pass.begun ∙ ap₂ still_open (x.goes.kind ∙ ap (kind_of k) goes) begun ∙ kind_open k gives

-- at its end
pub step_ends : (p : Parts) (levels left : List ℕ) (s t : Spot) (k : Class) (front back : List ℕ) (g h : LineGather)
    → (x : Stepped p levels s t k front back g) →
    Steps s left k front back t → t.begun ≡ false → g.pass.begun ≡ true → ended_by x.goes.entry g.pass.begun ≡ true
step_ends p levels left s t k front back g h x moved ends begun =
    let class : k ≡ LineEnd = end_only k _ (sym moved.begun ∙ ends) in
    let kind : x.goes.entry.kind ≡ kinds.Newline = x.goes.kind ∙ ap₂ kind_of class ends in
    ap₂ (λ (j : Kind) (b : Bool). ends_open_line j && b) kind begun

-- counts are small
pub few_brackets : (p : Parts) (l : Listed) (g : LineGather) → StandsAt p l g → (g.pass.opened < 2 ^ 63) × (g.pass.closed < 2 ^ 63)
few_brackets p l g at =
    let es = entries_of (listing (in_characters p)) in
    let counts = few (chars p.text) (take l.shown.given es) g.pass at.counts.pass in
    (omega (arith, counts.0, length-take l.shown.given es, at.few), omega (arith, counts.1, length-take l.shown.given es, at.few))

pub few_levels : (p : Parts) (l : Listed) (g : LineGather) → StandsAt p l g → (g.indents < 2 ^ 63) × (g.dedents < 2 ^ 63)
few_levels p l g at =
    let size = length-take l.shown.given (entries_of (listing (in_characters p))) in
    (omega (arith, at.counts.few_indents, size, at.few), omega (arith, at.counts.few_dedents, size, at.few))

-- ---- A walk.

pub walk_begins : (p : Parts) (levels left : List ℕ) (s : Spot) (g : LineGather) → IsUtf8 left → StandsAt p (at_spot p s levels) g
    → s.begun ≡ true → g.pass.begun ≡ true →
    0 < length g.line.terminals.items → left ≡ drop s.offset p.text → Walks p levels s s g g left
walk_begins p levels left s g utf8 at within begun some is_left = record {
  utf8 = utf8;
  at = at;
  reads = λ first r. r;
  within = within;
  begun = begun;
  extent = refl;
  some = some;
  given = omega arith;
  left_is = is_left;
}

pub walk_room : (p : Parts) (levels left : List ℕ) (s t : Spot) (old g : LineGather) → IsUtf8 p.text → length p.text ≤ source_limit
    → Walks p levels s t old g left →
    SpotHasRoom t (length left)
walk_room p levels left s t old g utf8 small w = spot_room p t levels left utf8 small w.at.stands w.within w.left_is

pub walk_steps : (p : Parts) (levels left : List ℕ) (s t u : Spot) (k : Class) (front back : List ℕ) (old g : LineGather) → IsUtf8 p.text
    → length p.text ≤ source_limit →
    0 < s.given → Walks p levels s t old g left → Steps t left k front back u → Stepped p levels t u k front back g
walk_steps p levels left s t u k front back old g utf8 small some w x = stepped p levels left t u k front back g utf8 small w.at
    (omega (arith, w.given)) w.within w.left_is x

-- to the next spot within the line
pub walk_on : (p : Parts) (levels left : List ℕ) (s t u : Spot) (k : Class) (front back : List ℕ) (old g h : LineGather)
    → Walks p levels s t old g left →
    (x : Stepped p levels t u k front back g) → Steps t left k front back u → TakesLexeme (chars p.text) k (chars front) u g h →
    0 < length h.line.terminals.items → u.begun ≡ true → Walks p levels s u old h back
walk_on p levels left s t u k front back old g h w x moved takes some goes =
    let gains = step_taken p levels t u k front back g h x takes in
    let source : (at_spot p u levels).source ≡ p = refl in
    let inside = step_within p levels t u k front back g h x gains moved.ahead.gives goes in
    let count = moved.given in
    record {
      utf8 = moved.ahead.cuts.back_utf8;
      at = stands_on p (at_spot p t levels) (at_spot p u levels) x.goes.entry g h w.at x.read x.goes.few source gains;
      reads = λ first r. reads_on p first (at_spot p t levels) (at_spot p u levels) x.goes.entry g h (w.reads first r) x.read
          x.goes.few source gains inside;
      within = goes;
      begun = step_open p levels t u k front back g h x gains moved.ahead.gives goes w.begun;
      extent = gains.pass.extent ∙ w.extent;
      some = some;
      given = omega (arith, w.given, count);
      left_is = x.goes.left;
    }

-- to the line's end
pub record WalkEnds (p : Parts) (levels : List ℕ) (s t : Spot) (old new : LineGather) : Type 0 where
  pub at : StandsAt p (at_spot p t levels) new
  pub went : Went p levels s t old new
  pub given : s.given ≤ t.given

pub different : (b : Bool) → b ≡ true → b ≡ false → ⊥
different b t f = cc

pub walk_ends : (p : Parts) (levels left : List ℕ) (s t u : Spot) (k : Class) (front back : List ℕ) (old g h : LineGather)
    → Walks p levels s t old g left →
    (x : Stepped p levels t u k front back g) → Steps t left k front back u → TakesLexeme (chars p.text) k (chars front) u g h
    → u.begun ≡ false → WalkEnds p levels s u old h
walk_ends p levels left s t u k front back old g h w x moved takes ends =
    let gains = step_taken p levels t u k front back g h x takes in
    let source : (at_spot p u levels).source ≡ p = refl in
    let last = step_ends p levels left t u k front back g h x moved ends w.begun in
    let count = moved.given in
    record {
      at = stands_on p (at_spot p t levels) (at_spot p u levels) x.goes.entry g h w.at x.read x.goes.few source gains;
      went = record {
        within = λ goes. absurd (different u.begun goes ends);
        ended = λ _ first r. reads_end p first (at_spot p t levels) (at_spot p u levels) x.goes.entry g h (w.reads first r) x.read
            x.goes.few source gains last;
      };
      given = omega (arith, w.given, count);
    }

-- ---- The lister goes along.

-- a lister stands at its spot
pub here_is : (p : Parts) (l : Listed) (s : Spot) → l.source ≡ p → spot_cursor s l.shown.levels ≡ l.shown → at_spot p s l.shown.levels ≡ l
here_is p l s source shown = ap₂ (λ (q : Parts) (c : CursorParts). record { source = q; shown = c }) (sym source) shown

pub stands_here : (p : Parts) (l : Listed) (s : Spot) (g : LineGather) → StandsAt p l g → spot_cursor s l.shown.levels ≡ l.shown
    → StandsAt p (at_spot p s l.shown.levels) g
stands_here p l s g at shown = subst (λ (x : Listed). StandsAt p x g) (sym (here_is p l s at.source shown)) at

pub leads_there : (p : Parts) (l : Listed) (t : Spot) (g : LineGather) → l.source ≡ p → StandsAt p (at_spot p t l.shown.levels) g
    → LeadsInto (spot_cursor t l.shown.levels) l.source
leads_there p l t g source at = subst (LeadsInto (spot_cursor t l.shown.levels)) (sym source) (spot_leads p t l.shown.levels at.stands)
