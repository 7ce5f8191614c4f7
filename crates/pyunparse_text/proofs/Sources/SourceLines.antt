-- The tokens of a source that is written lines, and its logical lines.
--
-- Carries: tokens_are, lines_are, for Law. On: Relisting, PieceFronts.
use Rattle.std.proofs.Common.{◌≡◌, ℕ, ◌+◌, ◌-◌, ◌<◌, ◌≤◌, Bool, true, false, ◌&&◌, List, [], ◌∷◌, ◌++◌, map, refl, sym, ◌∙◌, ap, subst}
use Rattle.std.proofs.Common.{arith, zero}
use Rattle.std.proofs.Common.{suc, replicate, ⊎_elim, append_assoc, if◌then◌else◌, ltb}
use Rattle.std.specs.Prelude.{count_by, nat_lt, nat_le}
use Rattle.std.specs.List.{list_all}
use Rattle.std.proofs.lemmas.Bool.{cases_lt, leb-true, and_parts}
use Rattle.std.proofs.lemmas.Bool.Decides.{nat_tests}
use Rattle.std.proofs.lemmas.Grind.{common_steps}
use Rattle.std.proofs.lemmas.List.{append-nil, map-append}
use Rattle.pylex_listing.specs.declared.kind.Kind.{Kind}
use Rattle.pylex_listing.specs.declared.kind.Kind.TheVariants as kinds
use Rattle.pylex_listing.specs.declared.entries.Entry.{Entry}
use Rattle.pylex_listing.specs.Listing.{Source, listing}
use Rattle.pylex_listing.specs.Steps.{entries_of}
use Rattle.pyunparse_text.specs.Spacing.{Piece, Line, is_token, are_readable}
use Rattle.pyunparse_text.specs.Tokens.{PlainToken, token_at, token_of, newline, indent, dedent, end_marker, level_tokens, line_tokens}
use Rattle.pyunparse_text.specs.Tokens.{tokens_after}
use Rattle.pyunparse_text.specs.Tokens.{is_written, are_written, rise_by_one, IsListedAs, PlainLine, unplaced, unplaced_line, token_line}
use Rattle.pytoken.specs.Tokens.{is_open, tokens_of_entry, tokens_from, tokens, lines}
use Rattle.pytoken.specs.Tokens as source
use Rattle.pysource.specs.declared.places.Place.{Place}
use Rattle.pyunparse_text.specs.Inner.PlainLines.{is_indent, is_dedent, level_after, lines_from}
use Rattle.pyunparse_text.proofs.LexemeFronts.PieceFronts.{ArePieces}
use Rattle.pyunparse_text.proofs.Listings.Relisting.{entries_all, encoding_entry}
use Rattle.pyunparse_text.proofs.Sources.Decoding.{pieces_of}

-- whether a line is open after a token
abbrev opens_line : Kind → Bool
opens_line kinds.Name = true
opens_line kinds.Number = true
opens_line kinds.String = true
opens_line kinds.Op = true
opens_line _ = false

-- the kinds of a source's tokens where none is left out and none is missing: NEWLINE ends an open
-- line, DEDENT and ENDMARKER stand where none is open
abbrev has_place : Bool → Kind → Bool
has_place o kinds.Name = true
has_place o kinds.Number = true
has_place o kinds.String = true
has_place o kinds.Op = true
has_place o kinds.Indent = true
has_place o kinds.Newline = o
has_place o kinds.Dedent = if o then false else true
has_place o kinds.EndMarker = if o then false else true
has_place o _ = false

abbrev flows : Bool → List PlainToken → Bool
flows o [] = true
flows o (t ∷ ts) = has_place o t.kind && flows (opens_line t.kind) ts

-- an entry that has its place gives its token
one_token : (text : List ℕ) (e : Entry) (o : Bool) (k : Kind) → e.kind ≡ k → has_place o k ≡ true
    → map unplaced (tokens_of_entry text o e) ≡ token_at text e ∷ []
one_token text e o kinds.Name k h = rw k refl
one_token text e o kinds.Number k h = rw k refl
one_token text e o kinds.String k h = rw k refl
one_token text e o kinds.Op k h = rw k refl
one_token text e o kinds.Indent k h = rw k refl
one_token text e o kinds.Newline k h = rw (k, h) refl
one_token text e true kinds.Dedent k h = cc
one_token text e false kinds.Dedent k h = rw k refl
one_token text e true kinds.EndMarker k h = cc
one_token text e false kinds.EndMarker k h = rw k refl
one_token text e o kinds.Encoding k h = cc
one_token text e o kinds.Comment k h = cc
one_token text e o kinds.Nl k h = cc

-- and says whether a line is open after it
open_following : (e : Entry) (before : List Entry) (o : Bool) (k : Kind) → e.kind ≡ k → has_place o k ≡ true
    → is_open (e ∷ before) ≡ opens_line k
open_following e before o kinds.Name k h = rw k refl
open_following e before o kinds.Number k h = rw k refl
open_following e before o kinds.String k h = rw k refl
open_following e before o kinds.Op k h = rw k refl
open_following e before o kinds.Indent k h = rw k refl
open_following e before o kinds.Newline k h = rw k refl
open_following e before o kinds.Dedent k h = rw k refl
open_following e before o kinds.EndMarker k h = rw k refl
open_following e before o kinds.Encoding k h = cc
open_following e before o kinds.Comment k h = cc
open_following e before o kinds.Nl k h = cc

all_tokens : (text : List ℕ) (before es : List Entry) → flows (is_open before) (map (token_at text) es) ≡ true
    → map unplaced (tokens_from text before es) ≡ map (token_at text) es
all_tokens text before [] f = refl
all_tokens text before (e ∷ es) f =
    let h = and_parts (has_place (is_open before) e.kind) (flows (opens_line e.kind) (map (token_at text) es)) f in
    let o = open_following e before (is_open before) e.kind refl h.0 in
    let g : flows (is_open (e ∷ before)) (map (token_at text) es) ≡ true =
    subst (λ (b : Bool). flows b (map (token_at text) es) ≡ true) (sym o) h.1 in
    map-append unplaced (tokens_of_entry text (is_open before) e) (tokens_from text (e ∷ before) es)
    ∙ ap (λ ts. ts ++ map unplaced (tokens_from text (e ∷ before) es)) (one_token text e (is_open before) e.kind refl h.0)
    ∙ ap (λ ts. token_at text e ∷ ts) (all_tokens text (e ∷ before) es g)

-- The tokens of written lines have their places.
end_flows : (m : ℕ) → flows false (replicate m dedent ++ end_marker ∷ []) ≡ true
end_flows zero = refl
end_flows (suc m) = end_flows m

piece_place : (o : Bool) (k : Kind) (t : List ℕ) → is_token k t ≡ true → (has_place o k ≡ true) × (opens_line k ≡ true)
piece_place o kinds.Name t e = (refl, refl)
piece_place o kinds.Number t e = (refl, refl)
piece_place o kinds.String t e = (refl, refl)
piece_place o kinds.Op t e = (refl, refl)
piece_place o kinds.Encoding t e = cc
piece_place o kinds.Comment t e = cc
piece_place o kinds.Nl t e = cc
piece_place o kinds.Newline t e = cc
piece_place o kinds.Indent t e = cc
piece_place o kinds.Dedent t e = cc
piece_place o kinds.EndMarker t e = cc

pieces_flow : (ps : List Piece) (ts : List PlainToken) → ArePieces ps → flows false ts ≡ true
    → flows true (map token_of ps ++ newline ∷ ts) ≡ true
pieces_flow [] ts a f = f
pieces_flow (p ∷ ps) ts a f =
    let h = and_parts (is_token p.kind p.text) (list_all (λ q. is_token q.kind q.text) ps) a in
    let k = piece_place true p.kind p.text h.0 in
    rw (k.0, k.1) (pieces_flow ps ts h.1 f)

first_flows : (ps : List Piece) (ts : List PlainToken) → are_readable ps ≡ true → flows false ts ≡ true
    → flows false (map token_of ps ++ newline ∷ ts) ≡ true
first_flows [] ts r f = cc
first_flows (p ∷ ps) ts r f =
    let i = and_parts (list_all (λ q. is_token q.kind q.text) (p ∷ ps)) _ r in
    let h = and_parts (is_token p.kind p.text) (list_all (λ q. is_token q.kind q.text) ps) i.0 in
    let k = piece_place false p.kind p.text h.0 in
    rw (k.0, k.1) (pieces_flow ps ts h.1 f)

level_flows : (m n : ℕ) (ts : List PlainToken) → flows false ts ≡ true → flows false (level_tokens m n ++ ts) ≡ true
level_flows m n ts f = by (nat_lt m n) (m - n)
  where
    by : (b : Bool) (k : ℕ) → flows false ((if b then indent n ∷ [] else replicate k dedent) ++ ts) ≡ true
    by true k = f
    by false zero = f
    by false (suc k) = by false k

shift_line : (m : ℕ) (l : Line) (ts : List PlainToken) → line_tokens m l ++ ts ≡ level_tokens m l.level ++
    (map token_of l.pieces ++ newline ∷ ts)
shift_line m l ts =
    append_assoc (level_tokens m l.level) (map token_of l.pieces ++ newline ∷ []) ts
    ∙ ap (λ u. level_tokens m l.level ++ u) (append_assoc (map token_of l.pieces) (newline ∷ []) ts)

lines_flow : (m : ℕ) (ls : List Line) → list_all is_written ls ≡ true → flows false (tokens_after m ls) ≡ true
lines_flow m [] w = end_flows m
lines_flow m (l ∷ ls) w =
    let a = and_parts (is_written l) (list_all is_written ls) w in
    let r = and_parts (are_readable l.pieces) _ a.0 in
    rw (shift_line m l (tokens_after l.level ls))
    (level_flows m l.level (map token_of l.pieces ++ newline ∷ tokens_after l.level ls)
    (first_flows l.pieces (tokens_after l.level ls) r.0 (lines_flow l.level ls a.1)))

-- the tokens of a source that is listed as those of written lines
pub tokens_are : (s : Source) (ls : List Line) → are_written ls ≡ true → IsListedAs s (tokens_after 0 ls)
    → map unplaced (tokens s) ≡ tokens_after 0 ls
unfolding tokens
tokens_are s ls w i =
    let a = and_parts (list_all is_written ls) (rise_by_one 0 ls) w in
    let e : entries_of (listing s) ≡ encoding_entry ∷ i.entries = ap entries_of i.listed
    ∙ ap (λ x. encoding_entry ∷ x) (entries_all i.entries) in
    let f : flows false (map (token_at s.text) i.entries) ≡ true =
    subst (λ (ts : List PlainToken). flows false ts ≡ true) (sym i.tokens) (lines_flow 0 ls a.0) in
    ap (λ es. map unplaced (tokens_from s.text [] es)) e ∙ all_tokens s.text (encoding_entry ∷ []) i.entries f ∙ i.tokens

-- Levels
abbrev Counted : ℕ → List PlainToken → Type 0
Counted m before = count_by is_indent before ≡ m + count_by is_dedent before

is_level : (m : ℕ) (before : List PlainToken) → Counted m before → level_after before ≡ m
is_level m before c = omega (arith, c)

pub count_cons : {A : Type 0} (p : A → Bool) (t : A) (ts : List A) → count_by p (t ∷ ts) ≡ (if p t then 1 else 0) + count_by p ts
count_cons p t ts = grind (arith, common_steps)

counted_other : (m : ℕ) (t : PlainToken) (before : List PlainToken) → is_indent t ≡ false → is_dedent t ≡ false → Counted m before
    → Counted m (t ∷ before)
counted_other m t before i d c =
    let x = count_cons is_indent t before in
    let y = count_cons is_dedent t before in
    let u : count_by is_indent (t ∷ before) ≡ count_by is_indent before = x ∙ rw i (omega arith) in
    let v : count_by is_dedent (t ∷ before) ≡ count_by is_dedent before = y ∙ rw d (omega arith) in
    u ∙ c ∙ ap (λ k. m + k) (sym v)

counted_dedent : (m : ℕ) (before : List PlainToken) → Counted (suc m) before → Counted m (dedent ∷ before)
counted_dedent m before c =
    let x : count_by is_indent (dedent ∷ before) ≡ 0 + count_by is_indent before = count_cons is_indent dedent before in
    let y : count_by is_dedent (dedent ∷ before) ≡ 1 + count_by is_dedent before = count_cons is_dedent dedent before in
    omega (arith, x, y, c)

counted_indent : (m n : ℕ) (before : List PlainToken) → Counted m before → Counted (suc m) (indent n ∷ before)
counted_indent m n before c =
    let x : count_by is_indent (indent n ∷ before) ≡ 1 + count_by is_indent before = count_cons is_indent (indent n) before in
    let y : count_by is_dedent (indent n ∷ before) ≡ 0 + count_by is_dedent before = count_cons is_dedent (indent n) before in
    omega (arith, x, y, c)

-- after the tokens of a level
record Following (ts us : List PlainToken) (n : ℕ) (before : List PlainToken) : Type 0 where
  pub passed : List PlainToken
  pub counted : Counted n passed
  pub same : lines_from before [] (ts ++ us) ≡ lines_from passed [] us

dedents_after : (k m : ℕ) (us before : List PlainToken) → Counted (k + m) before → Following (replicate k dedent) us m before
dedents_after zero m us before c = record { passed = before; counted = c ∙ omega arith; same = refl }
dedents_after (suc k) m us before c =
    let d = dedents_after k m us (dedent ∷ before) (counted_dedent (k + m) before (c ∙ omega arith)) in
    record { passed = d.passed; counted = d.counted; same = d.same }

level_is_after : (m n : ℕ) (us before : List PlainToken) → n ≤ m + 1 → Counted m before → Following (level_tokens m n) us n before
level_is_after m n us before h c =
    ⊎_elim
    (λ (i : m < n).
    let e : ltb m n ≡ true = grind (arith, nat_tests) in
    let z : n ≡ suc m = omega arith in
    rw e (record {
      passed = indent n ∷ before;
      counted = subst (λ (x : ℕ). Counted x (indent n ∷ before)) (sym z)
          (counted_indent m n before c);
      same = refl;
    }))
    (λ (i : n ≤ m).
    let e : ltb m n ≡ false = grind (arith, nat_tests) in
    let z : m ≡ (m - n) + n = omega arith in
    rw e (dedents_after (m - n) n us before (subst (λ (x : ℕ). Counted x before) z c)))
    (cases_lt m n)

-- a piece goes into its line
record Joins (k : Kind) (t : List ℕ) : Type 0 where
  pub goes : (before line ts : List PlainToken)
      → lines_from before line (record { kind = k; text = t } ∷ ts) ≡ lines_from (record { kind = k; text = t } ∷ before)
      (line ++ record { kind = k; text = t } ∷ []) ts
  pub indents : is_indent (record { kind = k; text = t }) ≡ false
  pub dedents : is_dedent (record { kind = k; text = t }) ≡ false

piece_joins : (k : Kind) (t : List ℕ) → is_token k t ≡ true → Joins k t
piece_joins kinds.Name t e = record { goes = λ b l ts. refl; indents = refl; dedents = refl }
piece_joins kinds.Number t e = record { goes = λ b l ts. refl; indents = refl; dedents = refl }
piece_joins kinds.String t e = record { goes = λ b l ts. refl; indents = refl; dedents = refl }
piece_joins kinds.Op t e = record { goes = λ b l ts. refl; indents = refl; dedents = refl }
piece_joins kinds.Encoding t e = cc
piece_joins kinds.Comment t e = cc
piece_joins kinds.Nl t e = cc
piece_joins kinds.Newline t e = cc
piece_joins kinds.Indent t e = cc
piece_joins kinds.Dedent t e = cc
piece_joins kinds.EndMarker t e = cc

record Ends (n : ℕ) (ps : List Piece) (ts before line : List PlainToken) : Type 0 where
  pub passed : List PlainToken
  pub counted : Counted n passed
  pub same : lines_from before line (map token_of ps ++ newline ∷ ts) ≡ record { level = n; tokens = line ++ map token_of ps }
      ∷ lines_from passed [] ts

line_ends : (n : ℕ) (ps : List Piece) (ts before line : List PlainToken) → ArePieces ps → Counted n before → Ends n ps ts before line
line_ends n [] ts before line a c = record {
  passed = newline ∷ before;
  counted = counted_other n newline before refl refl c;
  same = ap (λ k. record { level = k; tokens = line } ∷ lines_from (newline ∷ before) [] ts) (is_level n before c)
      ∙ ap (λ (l : List PlainToken). record { level = n; tokens = l } ∷ lines_from (newline ∷ before) [] ts) (sym (append-nil line));
}
line_ends n (p ∷ ps) ts before line a c =
    let h = and_parts (is_token p.kind p.text) (list_all (λ q. is_token q.kind q.text) ps) a in
    let j = piece_joins p.kind p.text h.0 in
    let r = line_ends n ps ts (token_of p ∷ before) (line ++ token_of p ∷ []) h.1
    (counted_other n (token_of p) before j.indents j.dedents c) in
    record {
      passed = r.passed;
      counted = r.counted;
      same = j.goes before line (map token_of ps ++ newline ∷ ts) ∙ r.same
          ∙ ap (λ (l : List PlainToken). record { level = n; tokens = l } ∷ lines_from r.passed [] ts)
          (append_assoc line (token_of p ∷ []) (map token_of ps));
    }

no_lines : (m : ℕ) (before : List PlainToken) → lines_from before [] (replicate m dedent ++ end_marker ∷ []) ≡ []
no_lines zero before = refl
no_lines (suc m) before = no_lines m (dedent ∷ before)

lines_after : (m : ℕ) (ls : List Line) (before : List PlainToken) → list_all is_written ls ≡ true
    → rise_by_one m ls ≡ true → Counted m before
    → lines_from before [] (tokens_after m ls) ≡ map token_line ls
lines_after m [] before w r c = no_lines m before
lines_after m (l ∷ ls) before w r c =
    let a = and_parts (is_written l) (list_all is_written ls) w in
    let b = and_parts (nat_le l.level (m + 1)) (rise_by_one l.level ls) r in
    let p = and_parts (are_readable l.pieces) _ a.0 in
    let ts : List PlainToken = tokens_after l.level ls in
    let v = level_is_after m l.level (map token_of l.pieces ++ newline ∷ ts) before (leb-true l.level (m + 1) b.0) c in
    let e = line_ends l.level l.pieces ts v.passed [] (pieces_of l.pieces p.0) v.counted in
    ap (lines_from before []) (shift_line m l ts) ∙ v.same ∙ e.same
    ∙ ap (λ x. token_line l ∷ x) (lines_after l.level ls e.passed a.1 b.1 e.counted)

-- Lines of tokens, and those of the same tokens without their places.
count_unplaced : (p : PlainToken → Bool) (ts : List source.Token) → count_by (λ t. p (unplaced t)) ts ≡ count_by p (map unplaced ts)
count_unplaced p [] = refl
count_unplaced p (t ∷ ts) = let h = count_unplaced p ts in grind (arith, common_steps, h)

level_unplaced : (before : List source.Token) → source.level_after before ≡ level_after (map unplaced before)
level_unplaced before = let i = count_unplaced is_indent before in let d = count_unplaced is_dedent before in rw (← i, ← d) refl

line_unplaced : (level : ℕ) (line : List source.Token) (xs : List source.Line) (ys : List PlainLine) (n : ℕ) → level ≡ n
    → map unplaced_line xs ≡ ys
    → map unplaced_line (record { level = level; tokens = line } ∷ xs) ≡ record { level = n; tokens = map unplaced line } ∷ ys
line_unplaced level line xs ys n l e = rw (l, e) refl

-- one token of a kind, by what is so of the tokens after it
record Unplaces (before line ts : List source.Token) : Type 0 where
  pub is : map unplaced_line (source.lines_from before line ts) ≡ lines_from (map unplaced before) (map unplaced line) (map unplaced ts)

one_unplaced : (k : Kind) (p : Place) (x : List ℕ) (before line ts : List source.Token)
    → Unplaces (record { kind = k; start = p; text = x } ∷ before) [] ts
    → Unplaces (record { kind = k; start = p; text = x } ∷ before) line ts
    → Unplaces (record { kind = k; start = p; text = x } ∷ before) (line ++ record { kind = k; start = p; text = x } ∷ []) ts
    → Unplaces before line (record { kind = k; start = p; text = x } ∷ ts)
one_unplaced kinds.Newline p x before line ts new same more =
    record {
      is = line_unplaced (source.level_after before) line
          (source.lines_from (record { kind = kinds.Newline; start = p; text = x } ∷ before) [] ts)
          (lines_from (record { kind = kinds.Newline; text = x } ∷ map unplaced before) [] (map unplaced ts))
          (level_after (map unplaced before)) (level_unplaced before) new.is;
    }
one_unplaced kinds.Indent p x before line ts new same more = record { is = same.is }
one_unplaced kinds.Dedent p x before line ts new same more = record { is = same.is }
one_unplaced kinds.EndMarker p x before line ts new same more = record { is = same.is }
one_unplaced kinds.Name p x before line ts new same more =
    record {
      is = more.is ∙ ap (λ l. lines_from (record { kind = kinds.Name; text = x } ∷ map unplaced before) l (map unplaced ts))
          (map-append unplaced line (record { kind = kinds.Name; start = p; text = x } ∷ []));
    }
one_unplaced kinds.Number p x before line ts new same more =
    record {
      is = more.is ∙ ap (λ l. lines_from (record { kind = kinds.Number; text = x } ∷ map unplaced before) l (map unplaced ts))
          (map-append unplaced line (record { kind = kinds.Number; start = p; text = x } ∷ []));
    }
one_unplaced kinds.String p x before line ts new same more =
    record {
      is = more.is ∙ ap (λ l. lines_from (record { kind = kinds.String; text = x } ∷ map unplaced before) l (map unplaced ts))
          (map-append unplaced line (record { kind = kinds.String; start = p; text = x } ∷ []));
    }
one_unplaced kinds.Op p x before line ts new same more =
    record {
      is = more.is ∙ ap (λ l. lines_from (record { kind = kinds.Op; text = x } ∷ map unplaced before) l (map unplaced ts))
          (map-append unplaced line (record { kind = kinds.Op; start = p; text = x } ∷ []));
    }
one_unplaced kinds.Comment p x before line ts new same more =
    record {
      is = more.is ∙ ap (λ l. lines_from (record { kind = kinds.Comment; text = x } ∷ map unplaced before) l (map unplaced ts))
          (map-append unplaced line (record { kind = kinds.Comment; start = p; text = x } ∷ []));
    }
one_unplaced kinds.Nl p x before line ts new same more =
    record {
      is = more.is ∙ ap (λ l. lines_from (record { kind = kinds.Nl; text = x } ∷ map unplaced before) l (map unplaced ts))
          (map-append unplaced line (record { kind = kinds.Nl; start = p; text = x } ∷ []));
    }
one_unplaced kinds.Encoding p x before line ts new same more =
    record {
      is = more.is ∙ ap (λ l. lines_from (record { kind = kinds.Encoding; text = x } ∷ map unplaced before) l (map unplaced ts))
          (map-append unplaced line (record { kind = kinds.Encoding; start = p; text = x } ∷ []));
    }

lines_unplaced : (before line ts : List source.Token) → Unplaces before line ts
lines_unplaced before line [] = record { is = refl }
lines_unplaced before line (t ∷ ts) =
    one_unplaced t.kind t.start t.text before line ts (lines_unplaced (t ∷ before) [] ts) (lines_unplaced (t ∷ before) line ts)
    (lines_unplaced (t ∷ before) (line ++ t ∷ []) ts)

-- The logical lines of such a source are the written lines, each at its level.
pub lines_are : (s : Source) (ls : List Line) → are_written ls ≡ true → IsListedAs s (tokens_after 0 ls)
    → map unplaced_line (lines s) ≡ map token_line ls
unfolding lines
lines_are s ls w i =
    let a = and_parts (list_all is_written ls) (rise_by_one 0 ls) w in
    (lines_unplaced [] [] (tokens s)).is ∙ ap (lines_from [] []) (tokens_are s ls w i) ∙ lines_after 0 ls [] a.0 a.1 refl
