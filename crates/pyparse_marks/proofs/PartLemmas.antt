-- Carries: pass_cut, pass_formatted, pass_front. On: what an f-string is cut into, and where it stands.
use Rattle.std.proofs.Common.{◌≡◌, ℕ, ◌+◌, Bool, List, arith, Result, Ok, Err, sym, ap, ap₂, ◌∙◌, Option, Some, None}
use Rattle.std.specs.Prelude.{OnOk}
use Rattle.std.specs.Str.{chars, encode_utf8_all, IsUtf8}
use Rattle.std.proofs.lemmas.Str.{encodes-chars}
use Rattle.pyfstring.specs.Parts.{BodyPart}
use Rattle.pyfstring.specs.Pieces.{IsCut}
use Rattle.pyfstring.specs.Cutting.{cut_of}
use Rattle.pyfstring.specs.Laws.{IsMalformed}
use Rattle.pyfstring.proofs.Callers.Law.{cut_of_complete}
use Rattle.pylex_lexeme.specs.Chars.{bytes_in}
use Rattle.pytoken.specs.StringValues.{with_line_feeds, is_raw, body_of}
use Rattle.pytoken.proofs.Callers.Bodies.{no_cut}
use Rattle.pyparse_marks.specs.declared.spans.Span as given
use Rattle.pyparse_marks.specs.Spans.{Span, span, told}
use Rattle.pyparse_marks.specs.TokenSpans.{Walk, Around, put, further, moved, around, parts_of, past_cut, past_body_parts, with_kept}
use Rattle.pyparse_marks.specs.TokenSpans.{source_len}

same_cut : (is_nested raw : Bool) (t body : List ℕ) → raw ≡ is_raw (with_line_feeds t) → body ≡ body_of t
    → parts_of is_nested t ≡ cut_of (record { is_raw = raw; is_nested = is_nested }) body
same_cut is_nested raw t body marked between =
    sym (ap₂ (λ (r : Bool) (b : List ℕ). cut_of (record { is_raw = r; is_nested = is_nested }) b) marked between)

pub parts_cut : (is_nested raw : Bool) (t body : List ℕ) (parts : List BodyPart) → raw ≡ is_raw (with_line_feeds t) → body ≡ body_of t
    → IsCut (record { is_raw = raw; is_nested = is_nested }) body parts → parts_of is_nested t ≡ Some parts
parts_cut is_nested raw t body parts marked between cut =
    same_cut is_nested raw t body marked between ∙ cut_of_complete _ body parts cut

pub no_parts : (is_nested raw : Bool) (t body : List ℕ) → raw ≡ is_raw (with_line_feeds t) → body ≡ body_of t
    → IsMalformed (record { is_raw = raw; is_nested = is_nested }) body → parts_of is_nested t ≡ None
no_parts is_nested raw t body marked between malformed = same_cut is_nested raw t body marked between ∙ no_cut _ body malformed

-- past the parts of one that is cut
pub cut_passed : {X E : Type 0} (r : Result X E) (expression : List ℕ → Walk → Walk) (a : Around) (opening : ℕ) (is_nested : Bool)
    (t : List ℕ) (parts : List BodyPart) (w first begun last new : Walk) → parts_of is_nested t ≡ Some parts
    → first ≡ put a.whole w → begun ≡ further opening first → last ≡ past_body_parts expression a parts begun
    → OnOk r (new ≡ put a.whole last) → OnOk r (new ≡ past_cut expression a opening (parts_of is_nested t) w)
cut_passed (Ok x) expression a opening is_nested t parts w first begun last new cut one two three four =
    four ∙ ap (put a.whole) (three ∙ ap (past_body_parts expression a parts) (two ∙ ap (further opening) one))
    ∙ sym (ap (λ (o : Option (List BodyPart)). past_cut expression a opening o w) cut)
cut_passed (Err e) expression a opening is_nested t parts w first begun last new cut one two three four = tt

-- past one, and after it
pub formatted_is : (expression : List ℕ → Walk → Walk) (opening : ℕ) (parts : Option (List BodyPart)) (bs : List ℕ) (whole : given.Span)
    (start stop size : ℕ) (w cut new : Walk) → IsUtf8 bs → start ≡ w.at → size ≡ bytes_in (chars bs) → stop ≡ start + size
    → told whole ≡ span start stop
    → cut ≡ past_cut expression (record { bytes = bs; start = start; whole = told whole }) opening parts w → new ≡ moved stop cut
    → new ≡ moved (w.at + bytes_in (chars bs)) (past_cut expression (around (chars bs) w) opening parts w)
formatted_is expression opening parts bs whole start stop size w cut new utf8 begins sized ends is passed goes =
    let F : List ℕ → ℕ → Span → Around = λ b n s. record { bytes = b; start = n; whole = s } in
    let end : stop ≡ w.at + bytes_in (chars bs) = ends ∙ ap₂ (λ (a b : ℕ). a + b) begins sized in
    let a : F bs start (told whole) ≡ around (chars bs) w =
    ap (λ (b : List ℕ). F b start (told whole)) (sym (encodes-chars bs utf8))
    ∙ ap (λ (n : ℕ). F (encode_utf8_all (chars bs)) n (told whole)) begins
    ∙ ap (F (encode_utf8_all (chars bs)) w.at) (is ∙ ap₂ span begins end) in
    goes ∙ ap₂ moved end (passed ∙ ap (λ (b : Around). past_cut expression b opening parts w) a)

-- past a field up to its conversion
pub front_is : (expression : List ℕ → Walk → Walk) (a : Around) (kept : Option (List ℕ)) (t : List ℕ) (at begin size end : ℕ)
    (w first second third : Walk) → at ≡ w.at → begin ≡ at + 1 → size ≡ source_len t kept → end ≡ begin + size → first ≡ with_kept a kept w
    → second ≡ put a.whole first → third ≡ expression t second
    → moved end third ≡ moved (w.at + 1 + source_len t kept) (expression t (put a.whole (with_kept a kept w)))
front_is expression a kept t at begin size end w first second third here begins sized ends one two three =
    let place : end ≡ w.at + 1 + source_len t kept = omega (arith, here, begins, sized, ends) in
    ap₂ moved place (three ∙ ap (expression t) (two ∙ ap (put a.whole) one))
