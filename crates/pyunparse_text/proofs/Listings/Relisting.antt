-- The listing of the text of written lines has the lines' tokens.
--
-- Carries: entries_all, encoding_entry, lines_listed, for Clear, SourceLines, Law. On: Runs,
-- Margins, Tells, LineCuts and 2 more.
use Rattle.std.proofs.Common.{◌≡◌, ℕ, Bool, true, List, [], ◌∷◌, ◌++◌, map, refl, sym, ◌∙◌, ap, subst, arith, replicate, None, append_assoc}
use Rattle.std.proofs.Common.{if◌then◌else◌}
use Rattle.std.specs.Prelude.{count_by, nat_lt}
use Rattle.std.specs.List.{list_all}
use Rattle.std.proofs.lemmas.List.Folds.{list_all-append}
use Rattle.std.proofs.lemmas.Bool.{and_parts}
use Rattle.pylex_listing.specs.declared.kind.Kind.TheVariants as kinds
use Rattle.pylex_listing.specs.declared.entries.Entry.{Entry}
use Rattle.pylex_listing.specs.declared.entries.Step.{Step}
use Rattle.pylex_listing.specs.declared.entries.Step.TheVariants as steps
use Rattle.pylex_lexeme.specs.Lexemes.{Lexeme, cut, left_by_cut}
use Rattle.pylex_listing.specs.Listing.{Source, origin, up_to_end, listing}
use Rattle.pylex_listing.specs.Steps.{entries_of, mark}
use Rattle.pylex_lexeme.specs.Chars.{bytes_in}
use Rattle.pytoken.specs.Indentation.{margin_at, margins_from, margins}
use Rattle.pylex_listing.specs.Machine.{State, first_state, remaining, run, stop_of, tail_of, last_line_end, last_place, dedents_at}
use Rattle.pylex_listing.specs.Machine.{mark_at}
use Rattle.pylex_listing.proofs.Callers.{listing_is}
use Rattle.pyunparse_text.specs.Spacing.{Line, are_readable, lines_text}
use Rattle.pyunparse_text.specs.Inner.Relexed.{lines_lexemes}
use Rattle.pyunparse_text.specs.Tokens.{dedent, end_marker, exact_in, tokens_after, is_written, are_written, rise_by_one, is_even}
use Rattle.pyunparse_text.specs.Tokens.{IsListedAs}
use Rattle.pyunparse_text.proofs.LexemeFronts.LineCuts.{lines_cut, lines_end}
use Rattle.pyunparse_text.proofs.Listings.Columns.{columns, columns_above}
use Rattle.pyunparse_text.proofs.Sources.Decoding.{lines_scalars}
use Rattle.pyunparse_text.proofs.Listings.Margins.{lines_even, margin_even, margins_even}
use Rattle.pyunparse_text.proofs.Listings.Tells.{Tells, tells_both, marks_told}
use Rattle.pyunparse_text.proofs.Listings.Runs.{AtLine, steps_on, after_all, run_is, lines_run}

-- the end
tail_at : (text : List ℕ) (s : State) (m : ℕ) → AtLine text s m []
    → tail_of s ≡ (replicate m (mark_at kinds.Dedent s.now.offset (last_place s) (last_place s)) ++ mark_at kinds.EndMarker s.now.offset
    (last_place s) (last_place s) ∷ []) ++ steps.End ∷ []
unfolding tail_of last_line_end
tail_at text s m i =
    let p = last_place s in
    let o = s.now.offset in
    let c : count_by (nat_lt 0) (columns m) ≡ m = columns_above m 0 ∙ omega arith in
    rw (i.depth, i.joined, i.logical)
    (by s.margin i.margin (dedents_at 0 s.levels o p) (replicate m (mark_at kinds.Dedent o p p))
    (ap (λ ls. dedents_at 0 ls o p) i.levels ∙ ap (λ n. replicate n (mark_at kinds.Dedent o p p)) c) (mark_at kinds.EndMarker o p p)
    (mark_at kinds.Nl o s.now.place s.now.place))
  where
    by : (b : Bool) → b ≡ true → (ds es : List Step) → ds ≡ es → (e n : Step)
        → (if b then [] else n ∷ []) ++ ds ++ e ∷ steps.End ∷ [] ≡ (es ++ e ∷ []) ++ steps.End ∷ []
    by b h ds es d e n = rw (h, d) (sym (append_assoc es (e ∷ []) (steps.End ∷ [])))

up_to_all : (es : List Entry) → up_to_end (map steps.Entry es ++ steps.End ∷ []) ≡ map steps.Entry es ++ steps.End ∷ []
up_to_all [] = refl
up_to_all (e ∷ es) = ap (λ x. steps.Entry e ∷ x) (up_to_all es)

first_at : (text : List ℕ) → AtLine text first_state 0 text
first_at text =
    record {
      before = [];
      whole = refl;
      offset = refl;
      line = refl;
      depth = refl;
      levels = refl;
      margin = refl;
      width = refl;
      logical = refl;
      joined = refl;
    }

readable : (ls : List Line) → list_all is_written ls ≡ true → list_all (λ l. are_readable l.pieces) ls ≡ true
readable [] w = refl
readable (l ∷ ls) w =
    let a = and_parts (is_written l) (list_all is_written ls) w in
    let b = and_parts (are_readable l.pieces) _ a.0 in
    let r = readable ls a.1 in
    rw (b.0, r) refl

pub entries_all : (es : List Entry) → entries_of (map steps.Entry es ++ steps.End ∷ []) ≡ es
entries_all [] = refl
entries_all (e ∷ es) = ap (λ x. e ∷ x) (entries_all es)

abbrev pub encoding_entry : Entry
encoding_entry = record { kind = kinds.Encoding; exact = None; start = origin; «end» = origin; «from» = bytes_in []; to = bytes_in [] }

stops : (text : List ℕ) (s : State) (m : ℕ) → AtLine text s m []
    → stop_of None s [] ≡ (replicate m (mark_at kinds.Dedent s.now.offset (last_place s) (last_place s)) ++ mark_at kinds.EndMarker
    s.now.offset (last_place s) (last_place s) ∷ []) ++ steps.End ∷ []
unfolding stop_of
stops text s m i = tail_at text s m i

end_told : (text : List ℕ) (s : State) (m : ℕ)
    → Tells text (replicate m (mark_at kinds.Dedent s.now.offset (last_place s) (last_place s)) ++ mark_at kinds.EndMarker s.now.offset
    (last_place s) (last_place s) ∷ []) (replicate m dedent ++ end_marker ∷ [])
end_told text s m =
    tells_both text (replicate m (mark_at kinds.Dedent s.now.offset (last_place s) (last_place s)))
    (mark_at kinds.EndMarker s.now.offset (last_place s) (last_place s) ∷ []) (replicate m dedent) (end_marker ∷ [])
    (marks_told text m kinds.Dedent s.now.offset (last_place s) (last_place s) refl refl)
    (marks_told text 1 kinds.EndMarker s.now.offset (last_place s) (last_place s) refl refl)

remaining_is : (text : List ℕ) (xs : List Lexeme) → cut text ≡ xs → left_by_cut text ≡ []
    → remaining None first_state text ≡ up_to_end (run None [] first_state xs)
unfolding remaining
remaining_is text xs c l = rw (c, l) refl

-- The law: a source with the text of written lines, and no faulty line after it,
-- is listed as their tokens.
pub lines_listed : (s : Source) (ls : List Line) → s.text ≡ lines_text ls → s.fault ≡ None → are_written ls ≡ true
    → IsListedAs s (tokens_after 0 ls)
lines_listed s ls e f w =
    let a = and_parts (list_all is_written ls) (rise_by_one 0 ls) w in
    let r = readable ls a.0 in
    let d = lines_run s.text first_state 0 ls (subst (AtLine s.text first_state 0) e (first_at s.text)) a.0 a.1 in
    let z : State = after_all first_state (lines_lexemes ls) in
    let ends : List Step =
    replicate d.level (mark_at kinds.Dedent z.now.offset (last_place z) (last_place z)) ++ mark_at kinds.EndMarker
    z.now.offset (last_place z)
    (last_place z) ∷ [] in
    let g : run None [] first_state (lines_lexemes ls) ≡ (steps_on first_state (lines_lexemes ls) ++ ends) ++ steps.End ∷ [] =
    run_is None [] first_state (lines_lexemes ls) ∙ ap (λ x. steps_on first_state (lines_lexemes ls) ++ x)
    (stops s.text z d.level d.at) ∙ sym (append_assoc (steps_on first_state (lines_lexemes ls)) ends (steps.End ∷ [])) in
    let t =
    tells_both s.text (steps_on first_state (lines_lexemes ls)) ends d.tokens (replicate d.level dedent ++ end_marker ∷ []) d.tells
    (end_told s.text z d.level) in
    let c : cut s.text ≡ lines_lexemes ls = ap cut e ∙ lines_cut ls r in
    let l : left_by_cut s.text ≡ [] = ap left_by_cut e ∙ lines_end ls r in
    let u : listing s ≡ mark kinds.Encoding [] origin origin ∷ (map steps.Entry t.entries ++ steps.End ∷ []) = listing_is s
    ∙ ap (λ x. mark kinds.Encoding [] origin origin ∷ x)
    (ap (λ x. remaining x first_state s.text) f ∙ remaining_is s.text (lines_lexemes ls) c l
    ∙ ap up_to_end (g ∙ ap (λ x. x ++ steps.End ∷ []) t.are) ∙ up_to_all t.entries) in
    let v : entries_of (listing s) ≡ encoding_entry ∷ t.entries = ap entries_of u ∙ ap (λ x. encoding_entry ∷ x) (entries_all t.entries) in
    let m : list_all is_even (margin_at s.text 0) ≡ true =
    margin_even s.text [] (lines_text ls) 0 e refl (lines_even ls a.0 (lines_scalars ls a.0)) in
    let n : list_all is_even (margins s.text (encoding_entry ∷ t.entries)) ≡ true =
    list_all-append is_even (margin_at s.text 0) (margins_from s.text (encoding_entry ∷ []) t.entries)
    ∙ rw (m, margins_even s.text (encoding_entry ∷ []) t.entries t.even) refl in
    record {
      entries = t.entries;
      listed = u;
      tokens = t.tokens ∙ d.whole;
      exacts = t.exacts ∙ ap (map exact_in) d.whole;
      even = ap (λ es. list_all is_even (margins s.text es)) v ∙ n;
    }
