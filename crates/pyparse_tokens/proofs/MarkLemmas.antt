-- Carries: mark_entry, mark_lexeme, walk, walk_line, read_line. On: the spans of a line, with one entry more.
use Rattle.std.proofs.Common.{◌≡◌, ℕ, ◌-◌, Bool, true, false, List, [], ◌∷◌, ◌++◌, length, take, drop, refl, sym, ap, subst, ◌∙◌, arith}
use Rattle.std.proofs.Common.{append-nil, length-take, length-drop, Option, Some, None}
use Rattle.std.specs.Prelude.{slice_get, slice_range, if◌then◌else◌}
use Rattle.std.specs.List.{flat_map}
use Rattle.std.specs.Str.{chars, IsUtf8}
use Rattle.std.proofs.lemmas.Bool.{and_parts}
use Rattle.std.proofs.lemmas.List.{flat_map_more}
use Rattle.std.proofs.lemmas.Str.{IsUtf8-between}
use Rattle.pysource.specs.Parts.{Parts}
use Rattle.pylex_lexeme.specs.Chars.{bytes_in}
use Rattle.pylex_lexeme.specs.declared.lexeme.Class.{Class}
use Rattle.pylex_lexeme.specs.declared.lexeme.Class.TheVariants.{Name, Number, String, Operator, Comment, Blanks, LineEnd, Join}
use Rattle.pylex_lexeme.proofs.Callers.Fronts.{length-text}
use Rattle.pylex_listing.specs.declared.kind.Kind.{Kind}
use Rattle.pylex_listing.specs.declared.entries.Entry.{Entry}
use Rattle.pylex_listing.specs.declared.entries.Step.{Step}
use Rattle.pylex_listing.specs.declared.entries.Step.TheVariants as steps
use Rattle.pylex.specs.declared.spots.Spot.{Spot}
use Rattle.pylex_listing.specs.Laws.{LiesIn}
use Rattle.pylex_listing.specs.Listing.{in_characters, listing}
use Rattle.pylex.specs.Listers.{Listed, NextStep}
use Rattle.pylex.specs.Spots.{at_spot, Steps}
use Rattle.pylex_listing.specs.EntryKinds.{kind_of}
use Rattle.pylex_listing.specs.Steps.{entries_of}
use Rattle.pytoken.specs.Inner.Following.{following}
use Rattle.pytoken.specs.Tokens.{Token, Line, text_of, token_of, is_open, lines}
use Rattle.pyparse_marks.specs.Spans.{Span, added}
use Rattle.pyparse_marks.specs.TokenSpans.{token_spans}
use Rattle.pyparse_marks.specs.LineSpans.{spans_of, line_spans}
use Rattle.pyparse_marks.proofs.Callers.Kept.{added_both, added_none}
use Rattle.pyparse_marks.proofs.Callers.Places.{StartsAt, tokens_start}
use Rattle.pyparse_tokens.specs.declared.line_gather.LineGather.{LineGather}
use Rattle.pyparse_tokens.specs.Inner.Passing.{kept_refusal}
use Rattle.pyparse_tokens.specs.Inner.LineGathering.{stands_in_line, ends_open_line, ended_by, front_line, TakesEntry, StandsAt}
use Rattle.pyparse_tokens.specs.Inner.LineGathering.{lines_given}
use Rattle.pyparse_tokens.specs.Inner.Marking.{entry_spans, lexeme_spans, KeepsMarks, MarksLine}
use Rattle.pyparse_tokens.specs.Inner.Walking.{Reads}
use Rattle.pyparse_tokens.proofs.GatherLemmas.{text_at}
use Rattle.pyparse_tokens.proofs.LineGatherLemmas.{Read, none_before, stands_beside, line_at, lines_more, line_stands}
use Rattle.pyparse_tokens.proofs.LineLemmas.{with_own, line_on}
use Rattle.pyparse_tokens.proofs.ListingLemmas.{moved, at_entry}
use Rattle.pyparse_tokens.proofs.WalkLemmas.{Stepped}

-- ---- An entry.

-- the next entry starts where its offset says
pub entry_starts : (p : Parts) (old new : Listed) (g : LineGather) (step : Step) (e : Entry) → StandsAt p old g → NextStep old step new
    → step ≡ steps.Entry e → StartsAt (chars p.text) e
entry_starts p old new g step e had stepped is =
    let s = in_characters p in
    let k = old.shown.given in
    let m = moved old new step (steps.Entry e) s k stepped is had.stands in
    let next = at_entry (listing s) k e had.whole m.0 in
    subst (StartsAt s.text) next.2 (tokens_start s k e next.0)

-- the spans of a line with what it adds
spans_with : (text : List ℕ) (e : Entry) (line : List Token) → StartsAt text e
    → flat_map (spans_of text) line ++ entry_spans text e ≡ flat_map (spans_of text) (with_own text e line)
spans_with text e line starts = by (stands_in_line e.kind) refl
  where
    by : (b : Bool) → stands_in_line e.kind ≡ b
        → flat_map (spans_of text) line ++ entry_spans text e ≡ flat_map (spans_of text) (with_own text e line)
    by true is =
        let own : token_spans e.«from» e.kind (text_of text e) ≡ spans_of text (token_of text e) =
        sym (ap (λ (n : ℕ). token_spans n e.kind (text_of text e)) (starts is)) in
        let all : flat_map (spans_of text) line ++ token_spans e.«from» e.kind (text_of text e)
        ≡ flat_map (spans_of text) (line ++ token_of text e ∷ []) =
        ap (λ (xs : List Span). flat_map (spans_of text) line ++ xs) own ∙ flat_map_more (spans_of text) [] line (token_of text e) in
        rw is all
    by false is = rw is (append-nil (flat_map (spans_of text) line))

-- ---- A line.

-- by an entry that doesn't end it
pub marks_on : (p : Parts) (old new : Listed) (e : Entry) (g h : LineGather) (start was now : Option (List Span))
    → StandsAt p old g → Read p old new e
    → TakesEntry (chars p.text) e g h → ended_by e g.pass.begun ≡ false → StartsAt (chars p.text) e → KeepsMarks p old g start was
    → now ≡ added was (entry_spans (chars p.text) e) → KeepsMarks p new h start now
marks_on p old new e g h start was now had read gains goes starts keep is = λ none.
    let text = chars p.text in
    let es = entries_of (listing (in_characters p)) in
    let front = take old.shown.given es in
    let before = none_before p old e g h had gains none in
    let ended : ended_by e (is_open (following [] front)) ≡ false = ap (ended_by e) (sym had.counts.pass.begun) ∙ goes in
    let line : front_line text (take new.shown.given es) ≡ with_own text e (front_line text front) =
    ap (λ (n : ℕ). front_line text (take n es)) read.count ∙ ap (front_line text) read.grown ∙ line_on text front e
    ∙ ap (λ (b : Bool). if b then [] else with_own text e (front_line text front)) ended
    in
    is ∙ ap (λ (m : Option (List Span)). added m (entry_spans text e)) (keep before.0)
    ∙ added_both start (flat_map (spans_of text) (front_line text front)) (entry_spans text e)
    ∙ ap (added start) (spans_with text e (front_line text front) starts ∙ ap (flat_map (spans_of text)) (sym line))

-- by the entry that ends it
pub marks_end : (p : Parts) (first old new : Listed) (e : Entry) (g h : LineGather) (start was now : Option (List Span))
    → Reads p first old g
    → Read p old new e → TakesEntry (chars p.text) e g h → ended_by e g.pass.begun ≡ true → kept_refusal h.pass ≡ None
    → KeepsMarks p old g start was → now ≡ added was (entry_spans (chars p.text) e) → MarksLine p first start now
marks_end p first old new e g h start was now had read gains ends none keep is = λ line stands.
    let s = in_characters p in
    let text = chars p.text in
    let k = old.shown.given in
    let front = take k (entries_of (listing s)) in
    let before = none_before p old e g h had.at gains none in
    let ended : ended_by e (is_open (following [] front)) ≡ true = ap (ended_by e) (sym had.at.counts.pass.begun) ∙ ends in
    let parts = and_parts (ends_open_line e.kind) g.pass.begun ends in
    let own : entry_spans text e ≡ [] = ap (λ (b : Bool). if b then token_spans e.«from» e.kind (text_of text e) else [])
    (stands_beside e.kind parts.0) in
    let more = lines_more s k e true ended read.grown in
    let at : slice_get (lines s) (lines_given p first) ≡ Some (line_at text front) =
    subst (λ (ls : List Line). slice_get (lines s) (length ls) ≡ Some (line_at text front)) (had.same before.0)
    (line_stands s k (line_at text front) more) in
    is ∙ ap (added was) own ∙ added_none was ∙ keep before.0
    ∙ ap (λ (l : Line). added start (line_spans text l)) (same_line (line_at text front) line (sym at ∙ stands))
  where
    same_line : (a b : Line) → Some a ≡ Some b → a ≡ b
    same_line a b e = cc

-- what was kept where a line began is kept with nothing more
pub begins : (p : Parts) (l : Listed) (g : LineGather) (start : Option (List Span))
    → front_line (chars p.text) (take l.shown.given (entries_of (listing (in_characters p)))) ≡ [] → KeepsMarks p l g start start
begins p l g start empty = λ _. sym (added_none start) ∙ sym (ap (λ ts. added start (flat_map (spans_of (chars p.text)) ts)) empty)

-- where something is refused nothing is said
pub unsaid : (p : Parts) (l : Listed) (g : LineGather) (start marks : Option (List Span))
    → (kept_refusal g.pass ≡ None → ⊥) → KeepsMarks p l g start marks
unsaid p l g start marks refused = λ none. absurd (refused none)

-- ---- A lexeme.

abbrev kind_spans : ℕ → Kind → List ℕ → List Span
kind_spans at k own = if stands_in_line k then token_spans at k own else []

same_kind : (at : ℕ) (k : Class) (begun : Bool) (own : List ℕ) → kind_spans at (kind_of k true) own ≡ kind_spans at (kind_of k begun) own
same_kind at Name begun own = refl
same_kind at Number begun own = refl
same_kind at String begun own = refl
same_kind at (Operator o) begun own = refl
same_kind at Comment begun own = refl
same_kind at Blanks true own = refl
same_kind at Blanks false own = refl
same_kind at LineEnd true own = refl
same_kind at LineEnd false own = refl
same_kind at Join true own = refl
same_kind at Join false own = refl

pub lexeme_entry : (text : List ℕ) (k : Class) (begun : Bool) (own : List ℕ) (e : Entry) (at : ℕ) → e.kind ≡ kind_of k begun
    → text_of text e ≡ own → e.«from» ≡ at → lexeme_spans k own at ≡ entry_spans text e
lexeme_entry text k begun own e at kind is begin =
    same_kind at k begun own ∙ ap (λ (j : Kind). kind_spans at j own) (sym kind) ∙ ap (λ (t : List ℕ). kind_spans at e.kind t) (sym is)
    ∙ ap (λ (n : ℕ). kind_spans n e.kind (text_of text e)) (sym begin)

-- an entry has as many bytes as its text
entry_size : (bs : List ℕ) (e : Entry) → IsUtf8 bs → LiesIn bs e → bytes_in (text_of (chars bs) e) ≡ e.to - e.«from»
entry_size bs e utf8 lies =
    let own = slice_range bs e.«from» e.to in
    let part : IsUtf8 own = IsUtf8-between bs e.«from» e.to utf8 lies.order lies.first lies.last in
    let size : length own ≡ e.to - e.«from» =
    omega (arith, length-take (e.to - e.«from») (drop e.«from» bs), length-drop e.«from» bs, lies.order, lies.within) in
    sym (ap (λ (t : List ℕ). bytes_in t) (text_at bs e utf8)) ∙ sym (length-text own part) ∙ size

-- the lexeme from a spot to the next adds what its entry does
pub step_marked : (p : Parts) (levels left : List ℕ) (s t : Spot) (k : Class) (front back : List ℕ) (g : LineGather) → IsUtf8 p.text
    → (x : Stepped p levels s t k front back g) → Steps s left k front back t
    → lexeme_spans k (chars front) (t.offset - length front) ≡ entry_spans (chars p.text) x.goes.entry
step_marked p levels left s t k front back g utf8 x moves =
    let e = x.goes.entry in
    let size = entry_size p.text e utf8 x.read.lies in
    let own : bytes_in (text_of (chars p.text) e) ≡ length front =
    ap (λ (t : List ℕ). bytes_in t) x.entry.own_text ∙ moves.ahead.cuts.counted in
    let begin : e.«from» ≡ t.offset - length front = omega (arith, size, own, x.goes.to, x.read.lies.order) in
    lexeme_entry (chars p.text) k t.begun (chars front) e (t.offset - length front) x.entry.kind x.entry.own_text begin

pub step_starts : (p : Parts) (levels : List ℕ) (s t : Spot) (k : Class) (front back : List ℕ) (g : LineGather)
    → StandsAt p (at_spot p s levels) g → (x : Stepped p levels s t k front back g) → StartsAt (chars p.text) x.goes.entry
step_starts p levels s t k front back g at x =
    entry_starts p (at_spot p s levels) (at_spot p t levels) g (steps.Entry x.goes.entry) x.goes.entry at x.goes.step refl
