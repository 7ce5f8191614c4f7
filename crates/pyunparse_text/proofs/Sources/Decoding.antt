-- The bytes of written lines have no mark, no cookie and no fault.
--
-- Carries: lines_scalars, lines_source, lines_chars, for Law, Relisting, Runs. On:
-- PieceFronts, Bytes, Cases, Fronts and 1 more.
use Rattle.std.proofs.Common.{◌≡◌, ℕ, zero, suc, ◌+◌, ◌*◌, ◌≤◌, ◌<◌, Bool, true, false, not, ◌&&◌, ◌==◌, List, [], ◌∷◌, ◌++◌, map, length}
use Rattle.std.proofs.Common.{get_or}
use Rattle.std.proofs.Common.{take, drop, refl, sym, ◌∙◌, ap, subst, arith, eqb, append_assoc, replicate, None, if◌then◌else◌}
use Rattle.std.specs.Prelude.{Ok, slice_index_or}
use Rattle.std.specs.List.{list_all, list_any, prefix_len}
use Rattle.std.specs.Str.{encode_utf8_all, all_scalars, chars}
use Rattle.std.proofs.Math.Utf8.{encode}
use Rattle.std.proofs.Math.Seq.{drop-append_seam}
use Rattle.std.proofs.lemmas.List.{take-append-drop}
use Rattle.std.proofs.lemmas.Slice.Eq.{bytes_eq-Decides}
use Rattle.std.proofs.lemmas.Bool.{eqb-true, false_from_ne_true, not-true, and_parts}
use Rattle.std.proofs.lemmas.Bool.Decides.{nat_tests}
use Rattle.std.proofs.lemmas.List.Folds.{list_all-append}
use Rattle.std.proofs.lemmas.Str.{encodes-append, chars-encodes, encode_same}
use Rattle.unicode_ident.specs.Ident.{is_xid_continue}
use Rattle.unicode_ident.proofs.IdentLemmas.{is_xid_start-ascii, is_xid_continue-ascii}
use Rattle.ucd_derived.specs.Binary.{is_xid_start}
use Rattle.ucd_derived.specs.XidStartRanges.{xid_start_ranges}
use Rattle.ucd_table.specs.Rows.{in_ranges}
use Rattle.pysource.specs.Cookies.{has_mark, without_mark, cookie_of, drop_while, is_blank, encoding_of, plain, leads_on, named_by}
use Rattle.pysource.specs.Lines.{lines_of, first_bad, good_text, line_fault, bad_at}
use Rattle.pysource.specs.Sources.{source_of}
use Rattle.pysource.specs.declared.encodings.Charset.TheVariants.{Utf8}
use Rattle.pysource.proofs.Callers.Faults.{utf8_before, NoLf, lines_at, valid_all, first_given_none, lone_none_byte}
use Rattle.pylex_listing.specs.declared.kind.Kind.{Kind}
use Rattle.pylex_listing.specs.declared.kind.Kind.TheVariants as kinds
use Rattle.pylex_lexeme.specs.Chars.{begins, starts_name, is_comment_part}
use Rattle.pylex_lexeme.specs.Numbers.{is_decimal_digit, is_number}
use Rattle.pylex_lexeme.specs.Strings.{is_single_string}
use Rattle.pylex_lexeme.specs.Lexemes.{is_name}
use Rattle.pylex_lexeme.proofs.Callers.Lexemes.{words, heads, by_words, start_continues}
use Rattle.pylex_lexeme.proofs.Callers.WholeLines.{one_of}
use Rattle.pyunparse_text.specs.Spacing.{Piece, Line, is_token, touches, text_following, spaced, are_readable, line_text, lines_text}
use Rattle.pyunparse_text.specs.Tokens.{is_written}
use Rattle.pyunparse_text.proofs.LexemeFronts.Fronts.{run_ends}
use Rattle.pyunparse_text.proofs.LexemeFronts.PieceFronts.{Off, no_token, none_empty, ArePieces}
use Rattle.pyunparse_text.proofs.Sources.Bytes.{bytes_pass, first_byte, scalars_both}
use Rattle.pyunparse_text.proofs.FieldTexts.NumberCharacters.{number_in_line}
use Rattle.pyunparse_text.proofs.StringTerminals.Bodies.{weaker}
use Rattle.pyunparse_text.proofs.Listings.Margins.{pieces_unblank}

-- No token holds a line's end.
part_in_line : (c : ℕ) → is_xid_continue c ≡ true → is_comment_part c ≡ true
part_in_line c e =
    let f : (c == 10) ≡ false =
    false_from_ne_true (c == 10)
    (λ h. let z : is_xid_continue 10 ≡ true = subst (λ (x : ℕ). is_xid_continue x ≡ true) (eqb-true c 10 h) e in let y =
    is_xid_continue-ascii 10 (omega arith) in cc) in
    let g : (c == 13) ≡ false =
    false_from_ne_true (c == 13)
    (λ h. let z : is_xid_continue 13 ≡ true = subst (λ (x : ℕ). is_xid_continue x ≡ true) (eqb-true c 13 h) e in let y =
    is_xid_continue-ascii 13 (omega arith) in cc) in
    rw (f, g) refl

name_in_line : (t : List ℕ) → is_name t ≡ true → list_all is_comment_part t ≡ true
unfolding is_name
name_in_line [] e = refl
name_in_line (c ∷ t) e =
    let h = and_parts (starts_name c) (list_all is_xid_continue t) e in
    rw (part_in_line c (start_continues c h.0), weaker is_xid_continue is_comment_part part_in_line t h.1) refl

token_in_line : (k : Kind) (t : List ℕ) → is_token k t ≡ true → list_all is_comment_part t ≡ true
token_in_line kinds.Name t e = name_in_line t e
token_in_line kinds.Number t e = number_in_line t (and_parts (begins is_decimal_digit t) (is_number t) e).1
token_in_line kinds.String t e = (and_parts (is_single_string t) (list_all is_comment_part t) e).1
token_in_line kinds.Op t e = one_of (list_all is_comment_part) t words refl (sym (by_words t) ∙ e)
token_in_line kinds.Encoding t e = cc
token_in_line kinds.Comment t e = cc
token_in_line kinds.Nl t e = cc
token_in_line kinds.Newline t e = cc
token_in_line kinds.Indent t e = cc
token_in_line kinds.Dedent t e = cc
token_in_line kinds.EndMarker t e = cc

pub both_in : (p : ℕ → Bool) (a b : List ℕ) → list_all p a ≡ true → list_all p b ≡ true → list_all p (a ++ b) ≡ true
both_in p a b e f = list_all-append p a b ∙ rw (e, f) refl

blanks_in : (p : ℕ → Bool) (n : ℕ) → p 32 ≡ true → list_all p (replicate n 32) ≡ true
blanks_in p zero e = refl
blanks_in p (suc n) e = rw e (blanks_in p n e)

-- a property of all characters of the pieces, and of the blank
after_in : (p : ℕ → Bool) → p 32 ≡ true → (x : Piece) (qs : List Piece) → list_all (λ q. list_all p q.text) qs ≡ true
    → list_all p (text_following x qs) ≡ true
after_in p s x [] e = refl
after_in p s x (q ∷ qs) e =
    let h = and_parts (list_all p q.text) (list_all (λ q. list_all p q.text) qs) e in
    let r = both_in p q.text (text_following q qs) h.0 (after_in p s q qs h.1) in
    by (touches x q) (q.text ++ text_following q qs) r
  where
    by : (b : Bool) (t : List ℕ) → list_all p t ≡ true → list_all p ((if b then [] else 32 ∷ []) ++ t) ≡ true
    by true t e = e
    by false t e = rw s e

spaced_in : (p : ℕ → Bool) → p 32 ≡ true → (ps : List Piece) → list_all (λ q. list_all p q.text) ps ≡ true → list_all p (spaced ps) ≡ true
spaced_in p s [] e = refl
spaced_in p s (q ∷ qs) e =
    let h = and_parts (list_all p q.text) (list_all (λ q. list_all p q.text) qs) e in
    both_in p q.text (text_following q qs) h.0 (after_in p s q qs h.1)

tokens_in : (ps : List Piece) → ArePieces ps → list_all (λ q. list_all is_comment_part q.text) ps ≡ true
tokens_in [] e = refl
tokens_in (q ∷ qs) e =
    let h = and_parts (is_token q.kind q.text) (list_all (λ r. is_token r.kind r.text) qs) e in
    rw (token_in_line q.kind q.text h.0, tokens_in qs h.1) refl

-- What no token begins with
quiet_off : (c : ℕ) → Off c → is_decimal_digit c ≡ false → list_any (eqb c) (heads words) ≡ false
    → (k : Kind) (t r : List ℕ) → is_token k t ≡ true
    → begins (λ d. d == c) (t ++ r) ≡ false
quiet_off c o n s k [] r e = absurd (none_empty k e)
quiet_off c o n s k (d ∷ t) r e = false_from_ne_true (d == c) (λ h.
    let f : is_token k (c ∷ t) ≡ true = subst (λ (x : ℕ). is_token k (x ∷ t) ≡ true) (eqb-true d c h) e in
    let g = no_token k c t o (λ z. n) (λ z. s) in
    cc)

hash_off : Off 35
hash_off = record { name = rw (is_xid_start-ascii 35 (omega arith)) refl; quote = refl; letter = refl }

mark_off : Off 65279
unfolding is_xid_start in_ranges xid_start_ranges
mark_off = record { name = refl; quote = refl; letter = refl }

-- the first character of pieces
spaced_quiet : (c : ℕ) → Off c → is_decimal_digit c ≡ false → list_any (eqb c) (heads words) ≡ false → (ps : List Piece) (r : List ℕ)
    → are_readable ps ≡ true → begins (λ d. d == c) (spaced ps ++ r) ≡ false
spaced_quiet c o n s [] r e = cc
spaced_quiet c o n s (p ∷ ps) r e =
    let i = and_parts (list_all (λ q. is_token q.kind q.text) (p ∷ ps)) _ e in
    let j = and_parts (is_token p.kind p.text) (list_all (λ q. is_token q.kind q.text) ps) i.0 in
    subst (λ (u : List ℕ). begins (λ d. d == c) u ≡ false) (sym (append_assoc p.text (text_following p ps) r))
    (quiet_off c o n s p.kind p.text (text_following p ps ++ r) j.0)

-- A mark is one character.
mark_bytes : encode 65279 ≡ 239 ∷ 187 ∷ 191 ∷ []
unfolding encode
mark_bytes = refl

pub no_mark : (cs : List ℕ) → begins (λ d. d == 65279) cs ≡ false → has_mark (encode_utf8_all cs) ≡ false
no_mark [] e = refl
no_mark (c ∷ cs) e = false_from_ne_true (has_mark (encode_utf8_all (c ∷ cs))) (λ h.
    let bs : List ℕ = encode_utf8_all (c ∷ cs) in
    let t : 239 ∷ 187 ∷ 191 ∷ [] ≡ take 3 bs = (bytes_eq-Decides (239 ∷ 187 ∷ 191 ∷ []) (take 3 bs)).0 h in
    let w : encode c ++ encode_utf8_all cs ≡ encode 65279 ++ drop 3 bs =
    sym (take-append-drop 3 bs) ∙ ap (λ u. u ++ drop 3 bs) (sym t ∙ sym mark_bytes) in
    let s = encode_same c 65279 (encode_utf8_all cs) (drop 3 bs) w in
    let f : (c == 65279) ≡ true = rw s.0 refl in
    cc)

-- A line's bytes
abbrev pub front_of : Line → List ℕ
front_of l = replicate (4 * l.level) 32 ++ spaced l.pieces

abbrev pub bytes_of : Line → List ℕ
bytes_of l = encode_utf8_all (front_of l) ++ 10 ∷ []

line_front : (l : Line) → line_text l ≡ front_of l ++ 10 ∷ []
line_front l = sym (append_assoc (replicate (4 * l.level) 32) (spaced l.pieces) (10 ∷ []))

line_encoded : (l : Line) → encode_utf8_all (line_text l) ≡ bytes_of l
unfolding encode
line_encoded l = ap encode_utf8_all (line_front l) ∙ encodes-append (front_of l) (10 ∷ [])

record Plainly (l : Line) : Type 0 where
  pub readable : are_readable l.pieces ≡ true
  pub scalars : list_all (λ p. all_scalars p.text) l.pieces ≡ true

plainly : (l : Line) → is_written l ≡ true → Plainly l
plainly l w =
    let a = and_parts (are_readable l.pieces) _ w in
    let b = and_parts _ (list_all (λ p. all_scalars p.text) l.pieces) a.1 in
    record { readable = a.0; scalars = b.1 }

pub pieces_of : (ps : List Piece) → are_readable ps ≡ true → ArePieces ps
pieces_of [] e = refl
pieces_of (p ∷ ps) e = (and_parts (list_all (λ q. is_token q.kind q.text) (p ∷ ps)) _ e).0

front_in_line : (l : Line) → Plainly l → list_all is_comment_part (front_of l) ≡ true
front_in_line l p =
    both_in is_comment_part (replicate (4 * l.level) 32) (spaced l.pieces) (blanks_in is_comment_part (4 * l.level) refl)
    (spaced_in is_comment_part refl l.pieces (tokens_in l.pieces (pieces_of l.pieces p.readable)))

high_part : (b : ℕ) → 128 ≤ b → is_comment_part b ≡ true
high_part b h = grind (arith, nat_tests)

front_bytes : (l : Line) → Plainly l → list_all is_comment_part (encode_utf8_all (front_of l)) ≡ true
front_bytes l p = bytes_pass is_comment_part high_part (front_of l) (front_in_line l p)

all_at : (p : ℕ → Bool) (xs : List ℕ) (k : ℕ) → list_all p xs ≡ true → k < length xs → p (get_or xs k 0) ≡ true
all_at p [] k e h = absurd (omega arith)
all_at p (x ∷ xs) zero e h = (and_parts (p x) (list_all p xs) e).0
all_at p (x ∷ xs) (suc k) e h = all_at p xs k (and_parts (p x) (list_all p xs) e).1 (omega arith)

not_parts : (c : ℕ) → is_comment_part c ≡ true → ((c == 10) ≡ false) × ((c == 13) ≡ false)
not_parts c e = let q = and_parts (not (c == 10)) (not (c == 13)) e in (not-true (c == 10) q.0, not-true (c == 13) q.1)

clean : (l : Line) → Plainly l → NoLf (encode_utf8_all (front_of l))
clean l p k h =
    (not_parts (get_or (encode_utf8_all (front_of l)) k 0) (all_at is_comment_part (encode_utf8_all (front_of l)) k (front_bytes l p) h)).0

-- the characters are scalars
line_scalars : (l : Line) → Plainly l → all_scalars (line_text l) ≡ true
line_scalars l p =
    subst (λ (u : List ℕ). all_scalars u ≡ true) (sym (line_front l))
    (scalars_both (front_of l) (10 ∷ []) (scalars_both (replicate (4 * l.level) 32) (spaced l.pieces) (blank_scalars (4 * l.level))
    (spaced_scalars l.pieces p.scalars)) refl)
  where
    blank_scalars : (n : ℕ) → all_scalars (replicate n 32) ≡ true
    blank_scalars zero = refl
    blank_scalars (suc n) = blank_scalars n

    after_scalars : (x : Piece) (qs : List Piece) → list_all (λ p. all_scalars p.text) qs ≡ true → all_scalars (text_following x qs) ≡ true
    after_scalars x [] e = refl
    after_scalars x (q ∷ qs) e =
        let h = and_parts (all_scalars q.text) (list_all (λ p. all_scalars p.text) qs) e in
        by (touches x q) (q.text ++ text_following q qs) (scalars_both q.text (text_following q qs) h.0 (after_scalars q qs h.1))
      where
        by : (b : Bool) (t : List ℕ) → all_scalars t ≡ true → all_scalars ((if b then [] else 32 ∷ []) ++ t) ≡ true
        by true t e = e
        by false t e = e

    spaced_scalars : (ps : List Piece) → list_all (λ p. all_scalars p.text) ps ≡ true → all_scalars (spaced ps) ≡ true
    spaced_scalars [] e = refl
    spaced_scalars (q ∷ qs) e =
        let h = and_parts (all_scalars q.text) (list_all (λ p. all_scalars p.text) qs) e in
        scalars_both q.text (text_following q qs) h.0 (after_scalars q qs h.1)

-- no byte of a line is bad
line_good : (l : Line) → Plainly l → first_bad Utf8 (bytes_of l) ≡ None
line_good l p = first_given_none (bad_at Utf8 (bytes_of l)) 0 (length (bytes_of l)) (λ k i g.
    let h : k < length (bytes_of l) = omega (arith, g) in
    utf8_before (bytes_of l) (length (bytes_of l)) k (valid_all (bytes_of l) (line_text l, (line_scalars l p, line_encoded l))) h
    ∙ lone_none_byte (bytes_of l) k (λ e. let f : (get_or (bytes_of l) k 0 == 13) ≡ true = rw e refl in let g = (no_return k h) in cc))
  where
    no_returns : list_all (λ b. not (b == 13)) (bytes_of l) ≡ true
    no_returns =
        both_in (λ b. not (b == 13)) (encode_utf8_all (front_of l)) (10 ∷ [])
        (weaker is_comment_part (λ b. not (b == 13)) (λ c e. rw (not_parts c e).1 refl) (encode_utf8_all (front_of l)) (front_bytes l p))
        refl

    no_return : (k : ℕ) → k < length (bytes_of l) → (get_or (bytes_of l) k 0 == 13) ≡ false
    no_return k h = not-true (get_or (bytes_of l) k 0 == 13) (all_at (λ b. not (b == 13)) (bytes_of l) k no_returns h)

-- A line that begins without a mark and declares no encoding
record Quiet (bs : List ℕ) : Type 0 where
  pub unmarked : has_mark bs ≡ false
  pub silent : cookie_of bs ≡ []

quiet_nil : Quiet []
quiet_nil = record { unmarked = refl; silent = refl }

blanks_ascii : (n : ℕ) → encode_utf8_all (replicate n 32) ≡ replicate n 32
unfolding encode
blanks_ascii zero = refl
blanks_ascii (suc n) = ap (λ u. 32 ∷ u) (blanks_ascii n)

no_cookie : (n : ℕ) (r : List ℕ) → begins is_blank r ≡ false → begins (λ b. b == 35) r ≡ false → cookie_of (replicate n 32 ++ r) ≡ []
no_cookie n r b h =
    let l : prefix_len is_blank (replicate n 32 ++ r) ≡ length (replicate n 32) =
    run_ends is_blank (replicate n 32) r (blanks_in is_blank n refl) b in
    let d : drop_while is_blank (replicate n 32 ++ r) ≡ r = ap (λ k. drop k (replicate n 32 ++ r)) l
    ∙ drop-append_seam (replicate n 32) r in
    rw (d, none r h) refl
  where
    none : (r : List ℕ) → begins (λ b. b == 35) r ≡ false → (get_or r 0 0 == 35) ≡ false
    none [] h = refl
    none (b ∷ r) h = h

high_blank : (b : ℕ) → 128 ≤ b → is_blank b ≡ false
high_blank b h = grind (arith, nat_tests)

high_hash : (b : ℕ) → 128 ≤ b → (b == 35) ≡ false
high_hash b h = grind (arith, nat_tests)

line_quiet : (l : Line) → Plainly l → Quiet (bytes_of l)
line_quiet l p = record {
  unmarked = subst (λ (u : List ℕ). has_mark u ≡ false) (line_encoded l)
      (no_mark (line_text l) (unmarked (4 * l.level) (spaced l.pieces ++ 10 ∷ [])
      (spaced_quiet 65279 mark_off refl refl l.pieces (10 ∷ []) p.readable)));
  silent = subst (λ (u : List ℕ). cookie_of u ≡ []) (sym split)
      (no_cookie (4 * l.level) (encode_utf8_all (spaced l.pieces ++ 10 ∷ []))
      (first_byte is_blank high_blank (spaced l.pieces ++ 10 ∷ []) (pieces_unblank l.pieces (10 ∷ []) p.readable))
      (first_byte (λ b. b == 35) high_hash (spaced l.pieces ++ 10 ∷ [])
      (spaced_quiet 35 hash_off refl refl l.pieces (10 ∷ []) p.readable)));
}
  where
    unmarked : (n : ℕ) (r : List ℕ) → begins (λ d. d == 65279) r ≡ false → begins (λ d. d == 65279) (replicate n 32 ++ r) ≡ false
    unmarked zero r e = e
    unmarked (suc n) r e = refl

    split : bytes_of l ≡ replicate (4 * l.level) 32 ++ encode_utf8_all (spaced l.pieces ++ 10 ∷ [])
    split =
        sym (line_encoded l) ∙ encodes-append (replicate (4 * l.level) 32) (spaced l.pieces ++ 10 ∷ [])
        ∙ ap (λ u. u ++ encode_utf8_all (spaced l.pieces ++ 10 ∷ [])) (blanks_ascii (4 * l.level))

quiet_plain : (a b : List ℕ) → Quiet a → Quiet b → encoding_of a b ≡ Ok plain
quiet_plain a b p q =
    let u : without_mark a ≡ a = rw p.unmarked refl in
    let s = p.silent in
    let t = q.silent in
    rw (u, s, t) (none (leads_on a))
  where
    none : (b : Bool) → (if b && false then named_by (has_mark a) 2 [] else Ok plain) ≡ Ok plain
    none true = refl
    none false = refl

-- The lines of the bytes
abbrev AllPlainly : List Line → Type 0
AllPlainly ls = list_all is_written ls ≡ true

lines_encoded : (l : Line) (ls : List Line) → encode_utf8_all (lines_text (l ∷ ls)) ≡ bytes_of l ++ encode_utf8_all (lines_text ls)
lines_encoded l ls = encodes-append (line_text l) (lines_text ls) ∙ ap (λ u. u ++ encode_utf8_all (lines_text ls)) (line_encoded l)

cut_lines : (ls : List Line) → AllPlainly ls → lines_of (encode_utf8_all (lines_text ls)) ≡ map bytes_of ls
unfolding lines_of
cut_lines [] w = refl
cut_lines (l ∷ ls) w =
    let a = and_parts (is_written l) (list_all is_written ls) w in
    ap lines_of (lines_encoded l ls) ∙ lines_at (encode_utf8_all (front_of l)) (encode_utf8_all (lines_text ls)) (clean l (plainly l a.0))
    ∙ ap (λ u. bytes_of l ∷ u) (cut_lines ls a.1)

all_good : (ls : List Line) → AllPlainly ls → good_text Utf8 (map bytes_of ls) ≡ encode_utf8_all (lines_text ls)
unfolding good_text
all_good [] w = refl
all_good (l ∷ ls) w =
    let a = and_parts (is_written l) (list_all is_written ls) w in
    let g = line_good l (plainly l a.0) in
    rw (g, all_good ls a.1) (sym (lines_encoded l ls))

no_fault : (row : ℕ) (ls : List Line) → AllPlainly ls → line_fault Utf8 row (map bytes_of ls) ≡ None
unfolding line_fault
no_fault row [] w = refl
no_fault row (l ∷ ls) w =
    let a = and_parts (is_written l) (list_all is_written ls) w in
    let g = line_good l (plainly l a.0) in
    rw g (no_fault (row + 1) ls a.1)

first_quiet : (ls : List Line) → AllPlainly ls
    → encoding_of (slice_index_or (map bytes_of ls) 0 []) (slice_index_or (map bytes_of ls) 1 []) ≡ Ok plain
first_quiet [] w = quiet_plain [] [] quiet_nil quiet_nil
first_quiet (l ∷ []) w =
    let a = and_parts (is_written l) true w in
    quiet_plain (bytes_of l) [] (line_quiet l (plainly l a.0)) quiet_nil
first_quiet (l ∷ m ∷ ls) w =
    let a = and_parts (is_written l) (is_written m && list_all is_written ls) w in
    let b = and_parts (is_written m) (list_all is_written ls) a.1 in
    quiet_plain (bytes_of l) (bytes_of m) (line_quiet l (plainly l a.0)) (line_quiet m (plainly m b.0))

whole_unmarked : (ls : List Line) → AllPlainly ls → begins (λ d. d == 65279) (lines_text ls) ≡ false
whole_unmarked [] w = refl
whole_unmarked (l ∷ ls) w =
    let a = and_parts (is_written l) (list_all is_written ls) w in
    by (4 * l.level) (spaced l.pieces) (spaced_quiet 65279 mark_off refl refl l.pieces (10 ∷ []) (plainly l a.0).readable)
  where
    by : (n : ℕ) (t : List ℕ) → begins (λ d. d == 65279) (t ++ 10 ∷ []) ≡ false
        → begins (λ d. d == 65279) ((replicate n 32 ++ (t ++ 10 ∷ [])) ++ lines_text ls) ≡ false
    by zero [] e = refl
    by zero (c ∷ t) e = e
    by (suc n) t e = refl

pub lines_scalars : (ls : List Line) → list_all is_written ls ≡ true → all_scalars (lines_text ls) ≡ true
lines_scalars [] w = refl
lines_scalars (l ∷ ls) w =
    let a = and_parts (is_written l) (list_all is_written ls) w in
    scalars_both (line_text l) (lines_text ls) (line_scalars l (plainly l a.0)) (lines_scalars ls a.1)

-- the source that the bytes of written lines are: UTF-8 without a cookie, and all of them good
pub lines_source : (ls : List Line) → list_all is_written ls ≡ true
    → source_of (encode_utf8_all (lines_text ls)) ≡ Ok (record { encoding = plain; text = encode_utf8_all (lines_text ls); fault = None })
lines_source ls w =
    let c = cut_lines ls w in
    let q = first_quiet ls w in
    let u : without_mark (encode_utf8_all (lines_text ls)) ≡ encode_utf8_all (lines_text ls) =
    (let m = no_mark (lines_text ls) (whole_unmarked ls w) in rw m refl) in
    let g = all_good ls w in
    let f = no_fault 1 ls w in
    rw (c, q, u, c, g, f) refl

pub lines_chars : (ls : List Line) → list_all is_written ls ≡ true → chars (encode_utf8_all (lines_text ls)) ≡ lines_text ls
lines_chars ls w = chars-encodes (lines_text ls) (lines_scalars ls w)
