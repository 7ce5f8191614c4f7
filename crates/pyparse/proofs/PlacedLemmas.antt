-- Carries: Progress::read, PlacedProgress, parse_placed. On: the places of one line more, and of all lines.
use Rattle.std.proofs.Common.{◌≡◌, ℕ, suc, ◌+◌, ◌-◌, ◌≤◌, Bool, List, [], ◌∷◌, ◌++◌, length, take, drop, map, refl, sym}
use Rattle.std.proofs.Common.{ap}
use Rattle.std.proofs.Common.{◌∙◌, subst, arith, length-append, take_all}
use Rattle.std.specs.Prelude.{Some, slice_get}
use Rattle.std.proofs.Math.Seq.{take-append_seam, drop-append_seam, drop-append-add}
use Rattle.std.proofs.lemmas.List.{take-map, drop-map, map-append, length-map}
use Rattle.pysource.specs.declared.places.Place.{Place}
use Rattle.pylex_listing.specs.Listing.{Source}
use Rattle.pytree_node.specs.declared.profiles.Profile.{Profile}
use Rattle.pytoken.specs.Inner.Following.{following}
use Rattle.pytoken.specs.Terminals.{Terminal}
use Rattle.pytoken.specs.Tokens as Tokens
use Rattle.pygrammar.specs.Blocks.{stands_in_match}
use Rattle.pygrammar.specs.FormHeights.{form_height}
use Rattle.pygrammar.specs.FormOf.{form_of}
use Rattle.pygrammar.specs.Forms.{FormAt}
use Rattle.pygrammar.specs.Lines.{Line, line, Form}
use Rattle.pygrammar.specs.Refusals.{Formed, formed_end, formed_line, HasForm, terminals}
use Rattle.pyparse_line.specs.declared.lines.FormRead.{FormRead}
use Rattle.pyparse_marks.specs.declared.spans.Span as given
use Rattle.pyparse_marks.specs.LineSpans.{line_spans}
use Rattle.pyparse_marks.specs.Spans.{Span, span, told}
use Rattle.pyparse_tokens.specs.LineReadings.{LineReading, HoldsLine}
use Rattle.pyplaces.specs.BlockPlaces.{LinePlaces, whole_of, line_of}
use Rattle.pyplaces.specs.FormPlaces.{FormPlaces, places_at}
use Rattle.pyplaces.specs.ModulePlaces.{formed_places}
use Rattle.pyplaces.specs.Recording.{Recording, recording, recorded, Records, afters}
use Rattle.pyplaces.specs.Stretches.{Stretch, span_of}
use Rattle.pyplaces.proofs.Moves.{recorded_all}
use Rattle.pyparse.specs.Inner.PlacedLines.{PlacedLines}
use Rattle.pyparse_block.specs.Known.{first_lines, Comes}
use Rattle.pyparse.specs.Inner.Reading.{IsFound, RunsOf}
use Rattle.pyparse_block.proofs.Callers.ProgressLemmas.{starts_held, place_held, next_lines}

-- ---- The form of the line that is held.

pub found_held : {R : Type 0} {after : R → Stretch → R} {count : R → ℕ} {profile : Profile} {s : Source} {k : ℕ} {r : LineReading}
    (forms : List Line) (inside : Bool) (ts : List Terminal) (level : ℕ) (read : FormRead) (old new : R)
    → HoldsLine s k r → inside ≡ stands_in_match level (following [] forms) → ts ≡ r.terminals → level ≡ r.level
    → form_height (form_of read.form) ≤ 500
    → (d : FormAt profile inside ts (form_of read.form)) × (read.before ≡ count (afters after old (places_at d).before))
    × (read.following ≡ count (afters after old ((places_at d).before ++ (places_at d).following)))
    × Records after old ((places_at d).before ++ ((places_at d).following ++ (places_at d).suite)) new
    → IsFound after count profile s k forms r.level r.start read old new
found_held {R} {after} {count} {profile} {s} {k} {r} forms inside ts level read old new held placed same at low found =
    let f = form_of read.form in
    let earlier = following [] forms in
    let here : inside ≡ stands_in_match held.line.level earlier = place_held earlier inside level held placed at in
    let parts : (d : FormAt profile inside ts f) × RunsOf after count (places_at d) read old new = (
      found.0,
      record {
        before = found.1;
        following = found.2;
        records = found.3;
      },
    ) in
    let moved = subst (λ (b : Bool). (d : FormAt profile b (terminals held.line) f) × RunsOf after count (places_at d) read old new) here
    (subst (λ (us : List Terminal). (d : FormAt profile inside us f) × RunsOf after count (places_at d) read old new)
    (same ∙ held.holds.terminals) parts) in
    record {
      comes = record {
        line = held.line;
        stands = held.stands;
        level = held.holds.level;
        form = record { is = moved.0; low = low };
        starts = starts_held s k r held;
      };
      runs = moved.1;
    }

-- ---- The spans of a line.

-- a list cut in three
pub record Cut {A : Type 0} (a b c xs : List A) (n m : ℕ) : Type 0 where
  pub first : take (n - 0) (drop 0 xs) ≡ a
  pub second : take (m - n) (drop n xs) ≡ b
  pub third : take (length xs - m) (drop m xs) ≡ c
  pub low : n ≤ m
  pub high : m ≤ length xs

cut_whole : {A : Type 0} (a b c : List A) → Cut a b c (a ++ (b ++ c)) (length a) (length a + length b)
cut_whole {A} a b c =
    let both = length-append a (b ++ c) in
    let rest = length-append b c in
    let least : length a - 0 ≡ length a = omega arith in
    let middle : (length a + length b) - length a ≡ length b = omega arith in
    let end : length c ≤ length (a ++ (b ++ c)) - (length a + length b) = omega (arith, both, rest) in
    record {
      first = ap (λ (k : ℕ). take k (a ++ (b ++ c))) least ∙ take-append_seam a (b ++ c);
      second =
          ap (λ (k : ℕ). take k (drop (length a) (a ++ (b ++ c)))) middle
          ∙ ap (λ (xs : List A). take (length b) xs) (drop-append_seam a (b ++ c))
          ∙ take-append_seam b c;
      third =
          ap (λ (xs : List A). take (length (a ++ (b ++ c)) - (length a + length b)) xs)
          (drop-append-add a (b ++ c) (length b) ∙ drop-append_seam b c)
          ∙ take_all (length (a ++ (b ++ c)) - (length a + length b)) c end;
      low = omega arith;
      high = omega (arith, both, rest);
    }

cut : {A : Type 0} (a b c xs : List A) (n m : ℕ) → xs ≡ a ++ (b ++ c) → n ≡ length a → m ≡ length a + length b → Cut a b c xs n m
cut {A} a b c xs n m all first second =
    subst (λ (ys : List A). Cut a b c ys n m) (sym all)
    (subst (λ (k : ℕ). Cut a b c (a ++ (b ++ c)) k m) (sym first)
    (subst (λ (k : ℕ). Cut a b c (a ++ (b ++ c)) (length a) k) (sym second) (cut_whole a b c)))

count_of : (ms : List Span) (ps : List Stretch) (old : Recording) → old ≡ recording ms [] []
    → length (afters recorded old ps).spans ≡ length ps
count_of ms ps old is =
    ap (λ (w : Recording). length (afters recorded w ps).spans) is
    ∙ ap (λ (w : Recording). length w.spans) (recorded_all (recording ms [] []) ps)
    ∙ length-map ps (span_of ms)

-- the runs of what was recorded of a line are its places
abbrev pub RunsCut : List Span → FormPlaces → FormRead → List Span → Type 0
RunsCut ms f read spans = Cut (map (span_of ms) f.before) (map (span_of ms) f.following) (map (span_of ms) f.suite)
    spans read.before read.following

pub runs_cut : (ms : List Span) (f : FormPlaces) (read : FormRead) (old new : Recording) (spans : List Span) → old ≡ recording ms [] []
    → RunsOf recorded (λ (w : Recording). length w.spans) f read old new → spans ≡ new.spans → RunsCut ms f read spans
runs_cut ms f read old new spans is runs same =
    let all = f.before ++ (f.following ++ f.suite) in
    let one = length-map f.before (span_of ms) in
    let two = length-map f.following (span_of ms) in
    let both = length-append f.before f.following in
    let second : read.following ≡ length (f.before ++ f.following) = runs.following ∙ count_of ms (f.before ++ f.following) old is in
    cut (map (span_of ms) f.before) (map (span_of ms) f.following) (map (span_of ms) f.suite) spans read.before read.following
    (same ∙ ap (λ (w : Recording). w.spans) runs.records.is ∙ ap (λ (w : Recording). (afters recorded w all).spans) is
    ∙ ap (λ (w : Recording). w.spans) (recorded_all (recording ms [] []) all) ∙ map-append (span_of ms) f.before (f.following ++ f.suite)
    ∙ ap (λ (xs : List Span). map (span_of ms) f.before ++ xs) (map-append (span_of ms) f.following f.suite))
    (runs.before ∙ count_of ms f.before old is ∙ sym one) (omega (arith, second, one, two, both))

-- what the program lends of them
pub line_given : (ms : List Span) (f : FormPlaces) (read : FormRead) (spans before following suite : List given.Span) (given : LinePlaces)
    → RunsCut ms f read (map told spans)
    → (0 ≤ read.before → read.before ≤ length spans → map told before ≡ take (read.before - 0) (drop 0 (map told spans)))
    → (read.before ≤ read.following → read.following ≤ length spans
    → map told following ≡ take (read.following - read.before) (drop read.before (map told spans)))
    → (read.following ≤ length spans → length spans ≤ length spans
    → map told suite ≡ take (length spans - read.following) (drop read.following (map told spans)))
    → given ≡ record { whole = whole_of ms; before = map told before; following = map told following; suite = map told suite }
    → given ≡ line_of ms f
line_given ms f read spans before following suite given runs one two three is =
    let size = length-map spans told in
    let low = runs.low in
    let high = runs.high in
    let before_is = one (omega arith) (omega (arith, low, high, size)) ∙ runs.first in
    let after_is = two low (omega (arith, high, size)) ∙ runs.second in
    let suite_is : map told suite ≡ map (span_of ms) f.suite =
    three (omega (arith, high, size)) (omega arith)
    ∙ ap (λ (k : ℕ). take (k - read.following) (drop read.following (map told spans))) (sym size) ∙ runs.third in
    is
    ∙ ap (λ (xs : List Span). record { whole = whole_of ms; before = xs; following = map told following; suite = map told suite }) before_is
    ∙ ap (λ (xs : List Span). record { whole = whole_of ms; before = map (span_of ms) f.before; following = xs; suite = map told suite })
    after_is
    ∙ ap (λ (xs : List Span). record {
      whole = whole_of ms;
      before = map (span_of ms) f.before;
      following = map (span_of ms) f.following;
      suite = xs;
    }) suite_is

-- the first and the last of a line's spans
pub whole_ends : (xs : List given.Span) (a b : given.Span) → Some a ≡ slice_get xs 0 → Some b ≡ slice_get xs (length xs - 1)
    → span a.«from» b.to ≡ whole_of (map told xs)
whole_ends [] a b first last = absurd (cc)
whole_ends (x ∷ []) a b first last =
    let one : a ≡ x = cc in
    let two : b ≡ x = cc in
    λ i. span (one i).«from» (two i).to
whole_ends (x ∷ (y ∷ xs)) a b first last =
    let one : a ≡ x = cc in
    let long : length (x ∷ (y ∷ xs)) - 1 ≡ suc (length xs) = omega arith in
    let short : length (y ∷ xs) - 1 ≡ length xs = omega arith in
    let end : Some b ≡ slice_get (y ∷ xs) (length (y ∷ xs) - 1) =
    last ∙ ap (λ k. slice_get (x ∷ (y ∷ xs)) k) long ∙ ap (λ k. slice_get (y ∷ xs) k) (sym short) in
    λ i. span (one i).«from» (whole_ends (y ∷ xs) y b refl end i).stop

-- a part of some spans
pub told_part : (xs ys : List given.Span) (n m : ℕ) → ys ≡ take n (drop m xs) → map told ys ≡ take n (drop m (map told xs))
told_part xs ys n m is = ap (map told) is ∙ sym (take-map told n (drop m xs)) ∙ ap (take n) (sym (drop-map told m xs))

-- ---- One line more.

grown : {profile : Profile} {earlier : List Line} {xs : List Tokens.Line} {ys : List Line} (spans : Tokens.Line → List Span)
    (p : Formed profile earlier xs ys) (x : Tokens.Line) (f : Form) (h : HasForm profile (stands_in_match x.level (following earlier ys)) x f)
    → PlacedLines profile earlier spans (xs ++ x ∷ []) (ys ++ line x.level f ∷ [])
    (formed_places spans p ++ line_of (spans x) (places_at h.is) ∷ [])
grown spans formed_end x f h = record { formed = formed_line h formed_end; are = refl }
grown spans (formed_line {x = y} g r) x f h =
    let more = grown spans r x f h in
    record { formed = formed_line g more.formed; are = ap (λ (zs : List LinePlaces). line_of (spans y) (places_at g.is) ∷ zs) more.are }

pub placed_next : {profile : Profile} {s : Source} {k : ℕ} {forms : List Line} {l : Line} {p : Place} {zs : List LinePlaces}
    (comes : Comes profile s k (following [] forms) l p) → PlacedLines profile [] (line_spans s.text) (first_lines s k) forms zs
    → PlacedLines profile [] (line_spans s.text) (first_lines s (k + 1)) (forms ++ l ∷ [])
    (zs ++ line_of (line_spans s.text comes.line) (places_at comes.form.is) ∷ [])
placed_next {profile} {s} {k} {forms} {l} {p} {zs} comes was =
    let spans = line_spans s.text in
    let here = line_of (spans comes.line) (places_at comes.form.is) in
    let same : line comes.line.level l.form ≡ l = ap (λ (n : ℕ). line n l.form) (sym comes.level) in
    let more = grown spans was.formed comes.line l.form comes.form in
    let grew : PlacedLines profile [] spans (first_lines s k ++ comes.line ∷ [])
    (forms ++ line comes.line.level l.form ∷ []) (zs ++ here ∷ []) =
    record { formed = more.formed; are = more.are ∙ ap (λ (ys : List LinePlaces). ys ++ here ∷ []) was.are } in
    subst (λ (xs : List Tokens.Line). PlacedLines profile [] spans xs (forms ++ l ∷ []) (zs ++ here ∷ []))
    (sym (next_lines s k comes.line comes.stands))
    (subst (λ (z : Line). PlacedLines profile [] spans (first_lines s k ++ comes.line ∷ []) (forms ++ z ∷ []) (zs ++ here ∷ [])) same grew)
