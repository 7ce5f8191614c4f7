-- Carries: the law of source text. On: a module's text is a source that is accepted as the
-- module, and as no other.
use Rattle.std.proofs.Common.{◌≡◌, refl, sym, ap, subst, ◌∙◌, ℕ, suc, ◌+◌, ◌-◌, ◌≤◌, arith, Bool, true, false, ◌&&◌, List, [], ◌∷◌, ◌++◌}
use Rattle.std.proofs.Common.{map, Option}
use Rattle.std.proofs.Common.{Some, None, if◌then◌else◌}
use Rattle.std.specs.Prelude.{All, nat_lt}
use Rattle.std.specs.List.{flat_map, list_all}
use Rattle.std.specs.Str.{all_scalars, encode_utf8_all}
use Rattle.std.proofs.lemmas.Bool.{and_parts}
use Rattle.std.proofs.lemmas.Bool.Decides.{nat_tests}
use Rattle.std.proofs.lemmas.List.Elements.{All-nil, All-cons, All-head, All-tail}
use Rattle.pylex_lexeme.specs.declared.kinds.Exact.{Exact}
use Rattle.pylex_lexeme.specs.Operators.{exact_of, is_opener, is_closer}
use Rattle.pylex_listing.specs.declared.kind.Kind.{Kind}
use Rattle.pylex_listing.specs.declared.kind.Kind.TheVariants as kinds
use Rattle.pylex_listing.specs.Listing.{in_characters}
use Rattle.pytree_node.specs.declared.profiles.Extent.{Extent}
use Rattle.pytree_node.specs.declared.profiles.Profile.{Profile}
use Rattle.pytoken.specs.Tokens as Tokens
use Rattle.pytoken.specs.Terminals.{Terminal, Op, Layout, terminal_of, terminals_by, terminals_of, fault_of}
use Rattle.pytoken.specs.Refusals.{most_brackets}
use Rattle.pytree_height.specs.Heights.{expression_height}
use Rattle.pygrammar.specs.Lines.{Line, line}
use Rattle.pygrammar.specs.Forms.{FormAt}
use Rattle.pygrammar.specs.Blocks.{Block, stands_in_match}
use Rattle.pygrammar.specs.Refusals.{terminals, HasForm, Formed, formed_end, formed_line, Accepted}
use Rattle.pygrammar.proofs.Callers.SourceLaw.{forms_are_lawful, blocks_are_lawful, answers_are_lawful}
use Rattle.pyunparse_text.specs.Spacing.{Piece, is_operator_kind, are_readable}
use Rattle.pyunparse_text.specs.Tokens.{token_of, unplaced, unplaced_line, token_line, is_opening, is_closing, opens, closes, closes_all}
use Rattle.pyunparse_text.specs.Tokens.{opens_within, is_written, rise_by_one}
use Rattle.pyunparse_text.specs.SpacingLaws.{ReadsBack, IsClear}
use Rattle.pyunparse_text.proofs.Callers.Pieces.{written_is_read, written_is_clear}
use Rattle.pyunparse_text.specs.Pieces.{Sited, outside}
use Rattle.pyunparse_text.specs.Brackets.{open_after, most_open, brackets}
use Rattle.pyunparse_text.specs.Modules.{WrittenLine, written_line, line_of, terminal_lines, piece_lines}
use Rattle.pyunparse_text.specs.Laws.{Give, give_none, give, GivesAll, HaveForms, no_form, a_form, AreModule, LinesAreOneModule}
use Rattle.pyunparse_text.specs.Laws.{MayBeTokens}
use Rattle.pyunparse_text.specs.Laws.{AcceptedComeBack, IsOfTokens, source_lines, AreWithin, GiveLines, no_line, a_line}
use Rattle.pyunparse_text.specs.Laws.{ModuleTextsAreAccepted}
use Rattle.pyunparse_text.proofs.StringTerminals.Brackets.{name_after, string_closed}
use Rattle.pyunparse_text.proofs.Patterns.OfTokens.{tokens_may_be, of_tokens_may_be}
use Rattle.pyunparse_text.proofs.PieceLaws.Shallow.{first_open}
use Rattle.pyunparse_text.proofs.Modules.Law.{modules_again}
use Rattle.pyunparse_text.proofs.Modules.Low.{forms_low}
use Rattle.pyunparse_text.proofs.Modules.FlatLines.{line_brackets}
use Rattle.pyunparse_text.proofs.Modules.LinesRead.{modules_read}

-- ---- Lines are one module.

same_forms : {profile : Profile} {earlier : List Line} {ws : List (WrittenLine Terminal)} {xs ys : List Line}
    → HaveForms profile earlier ws xs
    → HaveForms profile earlier ws ys → xs ≡ ys
same_forms no_form no_form = refl
same_forms {profile} {earlier} (a_form {l = l} {ts = ts} {f = f} {ws = ws} {xs = xs} p c) (a_form {f = g} {xs = ys} q d) =
    let e : f ≡ g = forms_are_lawful.unique profile (stands_in_match l earlier) ts f g p q in
    let r : HaveForms profile (line l f ∷ earlier) ws ys = subst (λ z. HaveForms profile (line l z ∷ earlier) ws ys) (sym e) d in
    ap (λ z. line l z ∷ xs) e ∙ ap (λ z. line l g ∷ z) (same_forms c r)

pub one_module : LinesAreOneModule
one_module profile ws m n g h =
    ap (λ b. record { body = b })
    (blocks_are_lawful.unique h.forms m.body n.body (subst (λ z. Block 0 z m.body) (same_forms g.formed h.formed) g.block) h.block)

-- ---- An accepted module is that of its own lines.

lines_may_be : {extent : Extent} (ws : List (WrittenLine Terminal)) → All (IsOfTokens extent) ws → All MayBeTokens ws
lines_may_be [] h = All-nil MayBeTokens
lines_may_be {extent} (w ∷ ws) h =
    All-cons MayBeTokens w ws (of_tokens_may_be (All-head (IsOfTokens extent) w ws h))
    (lines_may_be ws (All-tail (IsOfTokens extent) w ws h))

source_lines_may_be : (xs : List Tokens.Line) → All MayBeTokens (source_lines xs)
source_lines_may_be [] = All-nil MayBeTokens
source_lines_may_be (x ∷ xs) =
    All-cons MayBeTokens (written_line x.level (terminals x)) (source_lines xs) (tokens_may_be x.tokens) (source_lines_may_be xs)

pub source_forms : {profile : Profile} {earlier : List Line} {xs : List Tokens.Line} {forms : List Line} → Formed profile earlier xs forms
    → HaveForms profile earlier (source_lines xs) forms
source_forms formed_end = no_form
source_forms (formed_line p c) = a_form p.is (source_forms c)

pub accepted_again : AcceptedComeBack
accepted_again profile s m p =
    modules_again profile (source_lines (Tokens.lines s)) m (record { forms = p.forms; formed = source_forms p.formed; block = p.block })
    (source_lines_may_be (Tokens.lines s))

-- ---- Brackets of pieces are those of their terminals.

abbrev by_text : ℕ → Bool → Bool → ℕ
by_text d o c = if o then suc d else (if c then d - 1 else d)

op_after : (text : List ℕ) (d : ℕ) → open_after d (terminal_of kinds.Op text) ≡ by_text d (is_opening text) (is_closing text)
unfolding terminal_of
op_after text d = by (exact_of text)
  where
    by : (o : Option Exact) → open_after d (elim o [ Some e ↦ Op e | None ↦ Layout ]) ≡ by_text d
        (elim o [ Some e ↦ is_opener e | None ↦ false ]) (elim o [ Some e ↦ is_closer e | None ↦ false ])
    by (Some e) = refl
    by None = refl

text_after : (k : Kind) (text : List ℕ) (d : ℕ)
    → open_after d (terminal_of k text) ≡ by_text d (is_operator_kind k && is_opening text) (is_operator_kind k && is_closing text)
unfolding terminal_of
text_after kinds.Op text d = op_after text d
text_after kinds.Name text d = name_after text d
text_after _ text d = refl

one_more : (most d : ℕ) (ts : List Terminal) (ps : List Piece) → ((n : ℕ) → most_open n ts ≤ most → opens_within most n ps ≡ true)
    → (o s : Bool)
    → most_open (by_text d o s) ts ≤ most
    → (if o then nat_lt d most && opens_within most (d + 1) ps else (if s then opens_within most (d - 1) ps else opens_within most d ps)) ≡
    true
one_more most d ts ps more true s k =
    let e : suc d ≤ most_open (suc d) ts = first_open (suc d) ts in
    let b : nat_lt d most ≡ true = grind (arith, nat_tests) in
    let n : suc d ≡ d + 1 = omega arith in
    let q : opens_within most (d + 1) ps ≡ true = subst (λ n. opens_within most n ps ≡ true) n (more (suc d) k) in
    rw (b, q) refl
one_more most d ts ps more false true k = more (d - 1) k
one_more most d ts ps more false false k = more d k

-- after a token's terminals no fewer brackets are open than after the token
module _ (text : List ℕ) {ts : List Terminal} (most d : ℕ) (us : List Terminal) where
  single_following : (k : Kind) → terminal_of k text ∷ [] ≡ ts → most_open d (ts ++ us) ≤ most
      → most_open (by_text d (is_operator_kind k && is_opening text) (is_operator_kind k && is_closing text)) us ≤ most
  single_following k e h =
      let q : most_open d (terminal_of k text ∷ us) ≤ most = subst (λ z. most_open d (z ++ us) ≤ most) (sym e) h in
      subst (λ n. most_open n us ≤ most) (text_after k text d) (omega (arith, q))

  following : {extent : Extent} (k : Kind) → GivesAll extent k text ts → all_scalars text ≡ true → most_open d (ts ++ us) ≤ most
      → most_open (by_text d (is_operator_kind k && is_opening text) (is_operator_kind k && is_closing text)) us ≤ most
  unfolding terminals_by
  following kinds.String g s h =
      let q : most_open d (terminals_of kinds.String text ++ us) ≤ most = subst (λ z. most_open d (z ++ us) ≤ most) (sym g.terminals) h in
      omega (arith, (string_closed text s g.sound).is d us, q)
  following kinds.Name g s h = single_following kinds.Name g.terminals h
  following kinds.Number g s h = single_following kinds.Number g.terminals h
  following kinds.Op g s h = single_following kinds.Op g.terminals h
  following kinds.Newline g s h = single_following kinds.Newline g.terminals h
  following kinds.Nl g s h = single_following kinds.Nl g.terminals h
  following kinds.Indent g s h = single_following kinds.Indent g.terminals h
  following kinds.Dedent g s h = single_following kinds.Dedent g.terminals h
  following kinds.Comment g s h = single_following kinds.Comment g.terminals h
  following kinds.Encoding g s h = single_following kinds.Encoding g.terminals h
  following kinds.EndMarker g s h = single_following kinds.EndMarker g.terminals h

shallow : {extent : Extent} (most d : ℕ) {ps : List Piece} {ts : List Terminal} → Give extent ps ts
    → list_all (λ (p : Piece). all_scalars p.text) ps ≡ true → most_open d ts ≤ most
    → opens_within most d ps ≡ true
shallow most d give_none s h = refl
shallow most d (give {p = p} {ps = ps} {us = us} g c) s h =
    let w = and_parts (all_scalars p.text) (list_all (λ (q : Piece). all_scalars q.text) ps) s in
    one_more most d us ps (λ n q. shallow most n c w.1 q) (opens p) (closes p) (following p.text most d us p.kind g w.0 h)

faultless : {extent : Extent} {ps : List Piece} {ts : List Terminal} → Give extent ps ts
    → All (λ (p : Piece). fault_of extent p.kind p.text ≡ None) ps
faultless {extent} give_none = All-nil (λ (p : Piece). fault_of extent p.kind p.text ≡ None)
faultless {extent} (give {p = p} {ps = ps} g c) = All-cons (λ (p : Piece). fault_of extent p.kind p.text ≡ None) p ps
    g.faultless (faultless c)

all_clear : {extent : Extent} {rs : List (WrittenLine Sited)} {qs : List (WrittenLine Terminal)} → GiveLines extent rs qs
    → list_all is_written (map line_of rs) ≡ true
    → All (λ w. brackets w.tokens ≤ most_brackets) qs → All (IsClear extent) (map line_of rs)
all_clear {extent} no_line s h = All-nil (IsClear extent)
all_clear {extent} (a_line {l = l} {ps = ps} {ts = ts} {rs = rs} {qs = qs} g c) s h =
    let b : brackets ts ≤ most_brackets = All-head (λ (w : WrittenLine Terminal). brackets w.tokens ≤ most_brackets)
    (written_line l ts) qs h in
    let w = and_parts (is_written (line_of (written_line l ps))) (list_all is_written (map line_of rs)) s in
    let r = and_parts (are_readable (outside ps)) (closes_all 0 (outside ps) && list_all (λ (p : Piece). all_scalars p.text) (outside ps))
    w.0 in
    let k = and_parts (closes_all 0 (outside ps)) (list_all (λ (p : Piece). all_scalars p.text) (outside ps)) r.1 in
    All-cons (IsClear extent) (line_of (written_line l ps)) (map line_of rs)
    (record { faultless = faultless g; shallow = shallow most_brackets 0 g k.1 b })
    (all_clear c w.1 (All-tail (λ (w : WrittenLine Terminal). brackets w.tokens ≤ most_brackets) (written_line l ts) qs h))

fewer : (n : ℕ) (ws : List (WrittenLine Terminal)) → n ≤ most_brackets → All (λ (w : WrittenLine Terminal). brackets w.tokens ≤ n) ws
    → All (λ (w : WrittenLine Terminal). brackets w.tokens ≤ most_brackets) ws
fewer n [] e h = All-nil (λ (w : WrittenLine Terminal). brackets w.tokens ≤ most_brackets)
fewer n (w ∷ ws) e h =
    let b : brackets w.tokens ≤ n = All-head (λ (w : WrittenLine Terminal). brackets w.tokens ≤ n) w ws h in
    All-cons (λ (w : WrittenLine Terminal). brackets w.tokens ≤ most_brackets) w ws (omega (arith, b, e))
    (fewer n ws e (All-tail (λ (w : WrittenLine Terminal). brackets w.tokens ≤ n) w ws h))

-- ---- The lines of the source have the forms of the written ones.

same_terminals : {extent : Extent} (us : List Tokens.Token) {ps : List Piece} {ts : List Terminal} → map unplaced us ≡ map token_of ps
    → Give extent ps ts → flat_map (λ (t : Tokens.Token). terminals_of t.kind t.text) us ≡ ts
same_terminals [] e give_none = refl
same_terminals [] e (give g c) = absurd (cc)
same_terminals (u ∷ us) e give_none = absurd (cc)
same_terminals (u ∷ us) e (give {p = p} {ps = ps} {ts = ts} g c) =
    let h : unplaced u ≡ token_of p = cc in
    let r : map unplaced us ≡ map token_of ps = cc in
    let k : terminals_of u.kind u.text ≡ ts = ap (λ x. terminals_of x.kind x.text) h ∙ g.terminals in
    ap (λ z. z ++ flat_map (λ (t : Tokens.Token). terminals_of t.kind t.text) us) k ∙ ap (λ z. ts ++ z) (same_terminals us r c)

formed_by : {extent : Extent} (profile : Profile) {earlier : List Line} (xs : List Tokens.Line) {rs : List (WrittenLine Sited)}
    {qs : List (WrittenLine Terminal)} {fs : List Line}
    → map unplaced_line xs ≡ map token_line (map line_of rs) → GiveLines extent rs qs → HaveForms profile earlier qs fs → AreWithin 500 fs
    → Formed profile earlier xs fs
formed_by profile [] e no_line no_form h = formed_end
formed_by profile [] e (a_line g c) f h = absurd (cc)
formed_by profile (x ∷ xs) e no_line no_form h = absurd (cc)
formed_by profile {earlier} (x ∷ xs) e (a_line {l = l} {ps = ps} {ts = ts} {rs = rs} {qs = qs} g c) (a_form {f = f} {xs = fs} p d) h =
    let i : unplaced_line x ≡ token_line (line_of (written_line l ps)) = cc in
    let r : map unplaced_line xs ≡ map token_line (map line_of rs) = cc in
    let n : x.level ≡ l = ap (λ y. y.level) i in
    let s : terminals x ≡ ts = same_terminals x.tokens (ap (λ y. y.tokens) i) g in
    let a : FormAt profile (stands_in_match x.level earlier) ts f =
    subst (λ z. FormAt profile (stands_in_match z earlier) ts f) (sym n) p in
    let q : HasForm profile (stands_in_match x.level earlier) x f =
    record { is = subst (λ z. FormAt profile (stands_in_match x.level earlier) z f) (sym s) a; low = h.0 } in
    let b : HaveForms profile (line x.level f ∷ earlier) qs fs = subst (λ z. HaveForms profile (line z f ∷ earlier) qs fs) (sym n) d in
    subst (λ z. Formed profile earlier (x ∷ xs) (line z f ∷ fs)) n (formed_line q (formed_by profile xs r c b h.1))

lower : (m n : ℕ) (xs : List Line) → m ≤ n → AreWithin m xs → AreWithin n xs
lower m n [] e h = tt
lower m n (x ∷ xs) e h = (omega (arith, e, h.0), lower m n xs e h.1)

pub texts_accepted : ModuleTextsAreAccepted
texts_accepted profile ws m g h expressions statements =
    let a : AreModule profile (terminal_lines m) m = modules_again profile ws m g (lines_may_be ws h) in
    let r = modules_read profile ws m g h (λ f. expressions) in
    let b : ReadsBack (encode_utf8_all _) (piece_lines m) = written_is_read (piece_lines m) r.written in
    let w : AreWithin 500 a.forms = lower (expression_height m) 500 a.forms expressions (forms_low a.forms m a.block) in
    let n : expression_height m + 1 ≤ most_brackets = omega (arith, expressions) in
    let c : All (IsClear profile.extent) (piece_lines m) =
    all_clear r.give (and_parts (list_all is_written (piece_lines m)) (rise_by_one 0 (piece_lines m)) r.written).0
    (fewer (expression_height m + 1) (terminal_lines m) n (line_brackets m)) in
    let x : Accepted profile (in_characters b.parts) m = record {
      clear = written_is_clear profile.extent (piece_lines m) r.written c b;
      forms = a.forms;
      formed = formed_by profile (Tokens.lines (in_characters b.parts)) b.lines r.give a.formed w;
      block = a.block;
      low = statements;
    } in
    record {
      back = b;
      accepted = x;
      only = λ k p. answers_are_lawful.unique profile (in_characters b.parts) k m p x;
    }
