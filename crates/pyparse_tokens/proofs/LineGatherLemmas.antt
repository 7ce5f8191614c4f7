-- Carries: read_line. On: what one pass gathers of its lines, with one entry more
-- and at the listing's end.
use Rattle.std.proofs.Common.{◌≡◌, ℕ, ◌+◌, ◌-◌, ◌≤◌, ◌<◌, Bool, true, false, List, [], ◌∷◌, ◌++◌, length, take, drop, map, refl, sym, ap}
use Rattle.std.proofs.Common.{ap₂, subst, ◌∙◌, append-nil, arith, length-append, Some, None}
use Rattle.std.specs.Prelude.{if◌then◌else◌, slice_get}
use Rattle.std.specs.List.{flat_map}
use Rattle.std.proofs.lemmas.List.{flat_map_more, length-map, take-append-drop}
use Rattle.std.specs.Str.{chars}
use Rattle.std.proofs.lemmas.Bool.{and_parts}
use Rattle.pysource.specs.declared.places.Place.{Place}
use Rattle.pysource.specs.Parts.{Parts}
use Rattle.pylex_listing.specs.declared.kind.Kind.{Kind}
use Rattle.pylex_listing.specs.declared.kind.Kind.TheVariants as kinds
use Rattle.pylex_listing.specs.declared.entries.Entry.{Entry}
use Rattle.pytoken.specs.Inner.Following.{following}
use Rattle.pytoken.specs.Terminals
use Rattle.pylex_listing.specs.declared.entries.Step.{Step}
use Rattle.pylex_listing.specs.declared.entries.Step.TheVariants as steps
use Rattle.pylex_listing.specs.Laws.{LiesIn, HasExact}
use Rattle.pylex_listing.specs.Listing.{Source, in_characters, listing}
use Rattle.pylex.specs.Listers.{Listed, StandsIn, NextStep}
use Rattle.pylex.proofs.Callers.{entry_lies}
use Rattle.pylex_listing.specs.Steps.{entries_of, most_entries}
use Rattle.pytoken.specs.Tokens.{Token, Line, text_of, token_of, is_open, level_after, tokens_from, lines_from, tokens, lines}
use Rattle.pytoken.specs.Refusals.{entry_refusal}
use Rattle.pytoken.specs.TerminalOf.{terminal}
use Rattle.pytoken.specs.declared.values.terminals.Terminal.{Terminal}
use Rattle.pytree_node.specs.declared.profiles.Extent.{Extent}
use Rattle.pyparse_tokens.specs.declared.line_gather.LineGather.{LineGather}
use Rattle.pyparse_tokens.specs.declared.open_line.OpenLine.{OpenLine}
use Rattle.pyparse_tokens.specs.LineReadings.{first_start, token_terminals, lines_within}
use Rattle.pyparse_tokens.specs.Inner.Passing.{counted, still_open, kept_refusal}
use Rattle.pyparse_tokens.specs.Inner.LineGathering.{stands_in_line, ends_open_line, ended_by, is_indent, is_dedent, own_terminals}
use Rattle.pyparse_tokens.specs.Inner.LineGathering.{line_following, front_tokens, front_line, front_lines, Adds, TakesEntry, Counts, StandsAt}
use Rattle.pyparse_tokens.specs.Inner.LineGathering.{ReadsLine}
use Rattle.pyparse_tokens.specs.Inner.OpenLines.{of_first, first_text, KeepsLine}
use Rattle.pyparse_tokens.proofs.PassLemmas.{passes, kept_before}
use Rattle.pyparse_tokens.proofs.ListingLemmas.{moved, at_entry}
use Rattle.pyparse_tokens.proofs.TerminalLemmas.{no_fault, some_terminals}
use Rattle.pyparse_tokens.proofs.EndLemmas.{last_on, match_is, same_last}
use Rattle.pyparse_tokens.proofs.LineLemmas.{with_own, tally_past, some_by, line_on, lines_on, tokens_past, lines_past}

counted_few : (n m : ℕ) (b : Bool) → n ≤ m → counted n b ≤ m + 1
counted_few n m true low = omega (arith, low)
counted_few n m false low = omega (arith, low)

-- one entry more
pub counts : (text : List ℕ) (es : List Entry) (e : Entry) (old new : LineGather) → Counts text es old → TakesEntry text e old new →
    Counts text (es ++ e ∷ []) new
counts text es e old new had gains =
    let size : length (es ++ e ∷ []) ≡ length es + 1 = length-append es (e ∷ []) in
    let begun = is_open (following [] es) in
    let indents = counted_few old.indents (length es) (is_indent e.kind) had.few_indents in
    let dedents = counted_few old.dedents (length es) (is_dedent e.kind) had.few_dedents in
    record {
      pass = passes text es e old.pass new.pass had.pass gains.pass;
      indents =
          gains.indents ∙ ap (λ (n : ℕ). counted n (is_indent e.kind)) had.indents
          ∙ sym (tally_past is_indent refl refl refl refl text es e);
      dedents =
          gains.dedents ∙ ap (λ (n : ℕ). counted n (is_dedent e.kind)) had.dedents
          ∙ sym (tally_past is_dedent refl refl refl refl text es e);
      few_indents = omega (arith, size, gains.indents, indents);
      few_dedents = omega (arith, size, gains.dedents, dedents);
      some =
          λ now.
          subst (λ (l : List Token). 0 < length l) (sym (line_on text es e))
          (some_by text e begun (front_line text es) (λ b. had.some (had.pass.begun ∙ b))
          (ap (still_open e.kind) (sym had.pass.begun) ∙ sym gains.pass.begun ∙ now));
      marker =
          λ before last same is.
          let one : e ≡ last = same_last es before e last same in
          let kind : e.kind ≡ kinds.EndMarker = ap (λ (x : Entry). x.kind) one ∙ is in
          gains.marker ∙ (rw kind refl) ∙ ap (λ (x : Entry). x.start) one;
    }

some_same : (a b : List ℕ) → Some a ≡ Some b → a ≡ b
some_same a b e = cc

-- what is kept of the line, with one entry more that doesn't end it and has no fault of its own
pub keeps : (extent : Extent) (text : List ℕ) (e : Entry) (line : List Token) (old new : OpenLine) → KeepsLine line old →
    entry_refusal extent text e ≡ None → Adds text e old new → KeepsLine (with_own text e line) new
keeps extent text e line old new had sound adds = by (stands_in_line e.kind) refl
  where
    begins : (ts : List Terminal) (l : List Token) (w v : List ℕ) → (0 < length l → 0 < length ts)
        → map terminal ts ≡ flat_map token_terminals l
        → ((t : List ℕ) → first_text l ≡ Some t → w ≡ t) → (t : List ℕ)
        → first_text (l ++ token_of text e ∷ []) ≡ Some t → v ≡ text_of text e → of_first ts w v ≡ t
    begins [] [] w v some same was t is own = let one : text_of text e ≡ t = cc in own ∙ one
    begins [] (u ∷ l) w v some same was t is own = absurd (omega (arith, some (omega arith)))
    begins (x ∷ ts) [] w v some same was t is own = absurd (cc)
    begins (x ∷ ts) (u ∷ l) w v some same was t is own = was t is

    starts : (ts : List Terminal) (l : List Token) → (0 < length l → 0 < length ts) → map terminal ts ≡ flat_map token_terminals l
        → (p : Place) → ((q : Place) → first_start l ≡ Some q → p ≡ q) → (q : Place)
        → first_start (l ++ token_of text e ∷ []) ≡ Some q → of_first ts p e.start ≡ q
    starts [] [] some same p was q is = cc
    starts [] (t ∷ l) some same p was q is = absurd (omega (arith, some (omega arith)))
    starts (x ∷ ts) [] some same p was q is = absurd (cc)
    starts (x ∷ ts) (t ∷ l) some same p was q is = was q is

    size : length new.terminals.items ≡ length old.terminals.items + length (own_terminals text e)
    size =
        sym (length-map new.terminals.items terminal) ∙ ap length adds.terminals
        ∙ length-append (map terminal old.terminals.items) (own_terminals text e) ∙ ap (λ (n : ℕ). n + length (own_terminals text e))
        (length-map old.terminals.items terminal)

    by : (b : Bool) → stands_in_line e.kind ≡ b → KeepsLine (with_own text e line) new
    by true is =
        let own : own_terminals text e ≡ token_terminals (token_of text e) = rw is refl in
        let more : 0 < length (token_terminals (token_of text e)) =
        some_terminals extent e.kind (text_of text e) (no_fault extent text e sound) in
        let start : new.start ≡ of_first old.terminals.items old.start e.start = rw is at adds.start in
        let first : chars new.first.now ≡ of_first old.terminals.items (chars old.first.now) (text_of text e) = rw is at adds.first in
        let last : chars new.last.now ≡ text_of text e = rw is at adds.last in
        let all : KeepsLine (line ++ token_of text e ∷ []) new =
        record {
          terminals =
              adds.terminals
              ∙ ap₂ (λ (a b : List Terminals.Terminal). a ++ b) had.terminals own
              ∙ flat_map_more token_terminals [] line (token_of text e);
          some = λ _. omega (arith, size, ap length own, more);
          start = λ p at. start ∙ starts old.terminals.items line had.some had.terminals old.start had.start p at;
          first = λ t at. first ∙ begins old.terminals.items line (chars old.first.now) (text_of text e) had.some
              had.terminals had.first t at refl;
          last = λ t at. let same : text_of text e ≡ t = some_same (text_of text e) t (sym (last_on line (token_of text e)) ∙ at) in last
              ∙ same;
        } in
        rw is all
    by false is =
        let own : own_terminals text e ≡ [] = rw is refl in
        let start : new.start ≡ old.start = rw is at adds.start in
        let first : chars new.first.now ≡ chars old.first.now = rw is at adds.first in
        let last : chars new.last.now ≡ chars old.last.now = rw is at adds.last in
        let all : KeepsLine line new =
        record {
          terminals = adds.terminals ∙ ap₂ (λ (a b : List Terminals.Terminal). a ++ b) had.terminals own
              ∙ append-nil (flat_map token_terminals line);
          some = λ more. let kept = had.some more in omega (arith, size, ap length own, kept);
          start = λ p at. start ∙ had.start p at;
          first = λ t at. first ∙ had.first t at;
          last = λ t at. last ∙ had.last t at;
        } in
        rw is all

-- the line that ends by an entry
abbrev pub line_at : List ℕ → List Entry → Line
line_at text es = record { level = level_after (following [] (front_tokens text es)); tokens = front_line text es }

pub lines_more : (s : Source) (k : ℕ) (e : Entry) → (ended : Bool)
    → ended_by e (is_open (following [] (take k (entries_of (listing s))))) ≡ ended
    → take (k + 1) (entries_of (listing s)) ≡ take k (entries_of (listing s)) ++ e ∷ []
    → lines_within s (k + 1) ≡ lines_within s k ++ (if ended then line_at s.text (take k (entries_of (listing s))) ∷ [] else [])
lines_more s k e ended is next =
    let read = take k (entries_of (listing s)) in
    ap (front_lines s.text) next ∙ lines_on s.text read e
    ∙ ap (λ (b : Bool). front_lines s.text read ++ (if b then line_at s.text read ∷ [] else [])) is

get_at : (before following : List Line) (l : Line) → slice_get ((before ++ l ∷ []) ++ following) (length before) ≡ Some l
get_at [] following l = refl
get_at (x ∷ before) following l = get_at before following l

-- it is a line of the source
pub line_stands : (s : Source) (k : ℕ) (l : Line) → lines_within s (k + 1) ≡ lines_within s k ++ l ∷ []
    → slice_get (lines s) (length (lines_within s k)) ≡ Some l
unfolding tokens lines
line_stands s k l next =
    let es = entries_of (listing s) in
    let front = take (k + 1) es in
    let rest = drop (k + 1) es in
    let ts = front_tokens s.text front in
    let more = tokens_from s.text (following [] front) rest in
    let whole =
    ap (λ (es : List Entry). lines_from [] [] (tokens_from s.text [] es)) (sym (take-append-drop (k + 1) es))
    ∙ ap (lines_from [] []) (tokens_past s.text [] front rest)
    ∙ lines_past [] [] ts more
    ∙ ap (λ (ls : List Line). ls ++ lines_from (following [] ts) (line_following [] ts) more) next
    in
    ap (λ (ls : List Line). slice_get ls (length (lines_within s k))) whole
    ∙ get_at (lines_within s k) (lines_from (following [] ts) (line_following [] ts) more) l

-- after all entries
pub all_lines : (s : Source) (k : ℕ) → take k (entries_of (listing s)) ≡ entries_of (listing s) → lines_within s k ≡ lines s
unfolding tokens lines
all_lines s k all = ap (front_lines s.text) all

-- a lister has gone past an entry

pub record Read (p : Parts) (old new : Listed) (e : Entry) : Type 0 where
  pub lies : LiesIn p.text e
  pub exact : HasExact (chars p.text) e
  pub count : new.shown.given ≡ old.shown.given + 1
  pub within : old.shown.given < length (entries_of (listing (in_characters p)))
  pub grown : take (old.shown.given + 1) (entries_of (listing (in_characters p))) ≡ take old.shown.given
      (entries_of (listing (in_characters p))) ++ e ∷ []
  pub stands : StandsIn new (in_characters p) new.shown.given

pub entry_read : (p : Parts) (old new : Listed) (g : LineGather) (step : Step) (e : Entry) → StandsAt p old g → NextStep old step new
    → step ≡ steps.Entry e →
    Read p old new e
entry_read p old new g step e had stepped is =
    let s = in_characters p in
    let k = old.shown.given in
    let m = moved old new step (steps.Entry e) s k stepped is had.stands in
    let next = at_entry (listing s) k e had.whole m.0 in
    record {
      lies = entry_lies p.text (listing s) k e had.lies m.0;
      exact = subst (HasExact s.text) next.2 (had.exact k e next.0);
      count = m.1.count;
      within = next.0;
      grown = next.1;
      stands = subst (λ (n : ℕ). StandsIn new s n) (sym m.1.count) m.1;
    }

pub stands_on : (p : Parts) (old new : Listed) (e : Entry) (g h : LineGather) → StandsAt p old g → Read p old new e
    → new.shown.given ≤ most_entries →
    new.source ≡ p → TakesEntry (chars p.text) e g h → StandsAt p new h
stands_on p old new e g h had read few source gains =
    let es = entries_of (listing (in_characters p)) in
    record {
      source = source;
      stands = read.stands;
      within = omega (arith, read.count, read.within);
      few = few;
      whole = had.whole;
      lies = had.lies;
      exact = had.exact;
      counts =
          subst (λ (front : List Entry). Counts (chars p.text) front h) (sym (ap (λ (n : ℕ). take n es) read.count ∙ read.grown))
          (counts (chars p.text) (take old.shown.given es) e g h had.counts gains);
    }

-- without the tokens of the line
pub cleared : (p : Parts) (l : Listed) (g h : LineGather) → StandsAt p l g → h ≡ record g { line = h.line } → StandsAt p l h
cleared p l g h had is =
    let counts = had.counts in
    subst (StandsAt p l) (sym is)
    record {
      source = had.source;
      stands = had.stands;
      within = had.within;
      few = had.few;
      whole = had.whole;
      lies = had.lies;
      exact = had.exact;
      counts =
          record {
            pass = counts.pass;
            indents = counts.indents;
            dedents = counts.dedents;
            few_indents = counts.few_indents;
            few_dedents = counts.few_dedents;
            some = counts.some;
            marker = counts.marker;
          };
    }

-- what is gathered has no refusal, so it had none before the entry
pub none_before : (p : Parts) (l : Listed) (e : Entry) (g h : LineGather) → StandsAt p l g → TakesEntry (chars p.text) e g h
    → kept_refusal h.pass ≡ None →
    (kept_refusal g.pass ≡ None) × (entry_refusal g.pass.extent (chars p.text) e ≡ None)
none_before p l e g h had gains none =
    kept_before (chars p.text) (take l.shown.given (entries_of (listing (in_characters p)))) e
    (entry_refusal g.pass.extent (chars p.text) e) g.pass h.pass
    had.counts.pass gains.pass none

-- the same line, by an entry that doesn't end it
pub same_line : (p : Parts) (old new : Listed) (e : Entry) (g h : LineGather) → StandsAt p old g → Read p old new e
    → TakesEntry (chars p.text) e g h →
    ended_by e g.pass.begun ≡ false → kept_refusal h.pass ≡ None →
    KeepsLine (front_line (chars p.text) (take old.shown.given (entries_of (listing (in_characters p))))) g.line →
    KeepsLine (front_line (chars p.text) (take new.shown.given (entries_of (listing (in_characters p))))) h.line
same_line p old new e g h had read gains goes none keep =
    let text = chars p.text in
    let es = entries_of (listing (in_characters p)) in
    let front = take old.shown.given es in
    let before = none_before p old e g h had gains none in
    let ended : ended_by e (is_open (following [] front)) ≡ false = ap (ended_by e) (sym had.counts.pass.begun) ∙ goes in
    let line : front_line text (take new.shown.given es) ≡ with_own text e (front_line text front) =
    ap (λ (n : ℕ). front_line text (take n es)) read.count ∙ ap (front_line text) read.grown ∙ line_on text front e
    ∙ ap (λ (b : Bool). if b then [] else with_own text e (front_line text front)) ended
    in
    subst (λ (l : List Token). KeepsLine l h.line) (sym line)
    (keeps g.pass.extent text e (front_line text front) g.line h.line keep before.1 (gains.line before.1))

pub same_lines : (p : Parts) (old new : Listed) (e : Entry) (g : LineGather) → StandsAt p old g → Read p old new e
    → ended_by e g.pass.begun ≡ false →
    lines_within (in_characters p) new.shown.given ≡ lines_within (in_characters p) old.shown.given
same_lines p old new e g had read goes =
    let s = in_characters p in
    let k = old.shown.given in
    ap (lines_within s) read.count
    ∙ lines_more s k e false (ap (ended_by e) (sym had.counts.pass.begun) ∙ goes) read.grown
    ∙ append-nil (lines_within s k)

-- a line that ends

pub stands_beside : (k : Kind) → ends_open_line k ≡ true → stands_in_line k ≡ false
stands_beside kinds.Newline is = refl
stands_beside kinds.Dedent is = refl
stands_beside kinds.EndMarker is = refl
stands_beside kinds.Indent is = refl
stands_beside kinds.Encoding is = refl
stands_beside kinds.Comment is = refl
stands_beside kinds.Nl is = refl
stands_beside kinds.Name is = absurd (cc)
stands_beside kinds.Number is = absurd (cc)
stands_beside kinds.String is = absurd (cc)
stands_beside kinds.Op is = absurd (cc)

first_starts : (l : List Token) (p : Place) → 0 < length l → ((q : Place) → first_start l ≡ Some q → p ≡ q) → first_start l ≡ Some p
first_starts [] p some start = absurd (omega (arith, some))
first_starts (t ∷ l) p some start = ap Some (sym (start t.start refl))

pub line_read : (p : Parts) (first old new : Listed) (e : Entry) (g h : LineGather) → StandsAt p old g → Read p old new e
    → new.shown.given ≤ most_entries →
    new.source ≡ p → TakesEntry (chars p.text) e g h → ended_by e g.pass.begun ≡ true → kept_refusal h.pass ≡ None →
    KeepsLine (front_line (chars p.text) (take old.shown.given (entries_of (listing (in_characters p))))) g.line →
    lines_within (in_characters p) old.shown.given ≡ lines_within (in_characters p) first.shown.given →
    ReadsLine p first new h
line_read p first old new e g h had read few source gains ends none keep same =
    let s = in_characters p in
    let text = chars p.text in
    let es = entries_of (listing s) in
    let k = old.shown.given in
    let front = take k es in
    let line = front_line text front in
    let ended : ended_by e (is_open (following [] front)) ≡ true = ap (ended_by e) (sym had.counts.pass.begun) ∙ ends in
    let parts = and_parts (ends_open_line e.kind) g.pass.begun ends in
    let before = none_before p old e g h had gains none in
    let beside : with_own text e line ≡ line = ap (λ (b : Bool). if b then line ++ token_of text e ∷ [] else line)
    (stands_beside e.kind parts.0) in
    let kept =
    subst (λ (l : List Token). KeepsLine l h.line) beside (keeps g.pass.extent text e line g.line h.line keep before.1
    (gains.line before.1)) in
    let more = lines_more s k e true ended read.grown in
    let size : length (lines_within s new.shown.given) ≡ length (lines_within s k) + 1 =
    ap (λ (n : ℕ). length (lines_within s n)) read.count ∙ ap length more ∙ length-append (lines_within s k) (line_at text front ∷ [])
    in
    record {
      between =
          record {
            at = stands_on p old new e g h had read few source gains;
            closed =
                ap (λ (n : ℕ). front_line text (take n es)) read.count ∙ ap (front_line text) read.grown ∙ line_on text front e
                ∙ ap (λ (b : Bool). if b then [] else with_own text e line) ended;
          };
      given = size ∙ ap (λ (ls : List Line). length ls + 1) same;
      line = line_at text front;
      stands =
          subst (λ (ls : List Line). slice_get (lines s) (length ls) ≡ Some (line_at text front)) same
          (line_stands s k (line_at text front) more);
      level = gains.level ends ∙ ap₂ (λ (a b : ℕ). a - b) had.counts.indents had.counts.dedents;
      terminals = kept.terminals;
      start = first_starts line h.line.start (had.counts.some parts.1) kept.start;
      is_match = match_is line (chars h.line.first.now) (chars h.line.last.now) kept.first kept.last (had.counts.some parts.1);
    }
