-- What the machine gives for the lexemes of written lines.
--
-- Carries: AtLine, steps_on, after_all, run_is and 3 more, for Relisting, Clear, Forms. On:
-- Columns, Tells, Margins, PieceFronts and 2 more.
use Rattle.std.proofs.Common.{◌≡◌, ℕ, ◌+◌, ◌-◌, ◌*◌, ◌≤◌, ◌<◌, Bool, true, false, not, ◌&&◌, ◌==◌, List, [], ◌∷◌, ◌++◌, map, refl, sym, ◌∙◌}
use Rattle.std.proofs.Common.{ap, subst, arith, zero, suc, ⊎_elim, cond, replicate, Option, Some, None, append_assoc, ltb}
use Rattle.std.specs.Prelude.{nat_le}
use Rattle.std.specs.List.{list_all}
use Rattle.std.specs.Str.{all_scalars}
use Rattle.std.proofs.lemmas.List.{append-nil}
use Rattle.std.proofs.lemmas.Bool.{leb-true, eqb-true, cases_lt, cases_Bool, not-true, and_parts}
use Rattle.std.proofs.lemmas.Bool.Decides.{nat_tests}
use Rattle.pylex_listing.specs.declared.kind.Kind.{Kind}
use Rattle.pylex_listing.specs.declared.kind.Kind.TheVariants as kinds
use Rattle.pylex_lexeme.specs.declared.kinds.Exact.{Exact}
use Rattle.pylex_lexeme.specs.declared.lexeme.Class.TheVariants.{Operator, Join}
use Rattle.pylex_lexeme.specs.declared.kinds.Exact.TheVariants as exact
use Rattle.pylex_listing.specs.declared.entries.ListingFault.{ListingFault}
use Rattle.pylex_listing.specs.declared.entries.Step.{Step}
use Rattle.pylex_lexeme.specs.Operators.{is_opener, is_closer, is_operator, exact_of}
use Rattle.pylex_lexeme.specs.Lexemes.{Lexeme}
use Rattle.pylex_lexeme.specs.Chars.{bytes_in}
use Rattle.pylex_listing.specs.Indentation.{width_from}
use Rattle.pylex_listing.specs.Machine.{State, after, gives, run, stop_of, layout_of, entry_by, step_of, past, following, pushed}
use Rattle.pyunparse_text.specs.Spacing.{Piece, Line, is_token, is_operator_kind, touches, text_following, spaced, are_readable, line_text}
use Rattle.pyunparse_text.specs.Spacing.{lines_text}
use Rattle.pyunparse_text.specs.Inner.Relexed.{class_of, lexeme_of, blanks, feed, lexemes_after, lexemes_of, indent_lexemes, line_lexemes}
use Rattle.pyunparse_text.specs.Inner.Relexed.{lines_lexemes}
use Rattle.pyunparse_text.specs.Tokens.{PlainToken, token_of, exact_in, newline, dedent, end_marker, level_tokens, line_tokens}
use Rattle.pyunparse_text.specs.Tokens.{tokens_after, opens, closes, closes_all, rise_by_one, is_written, is_opening, is_closing}
use Rattle.pyunparse_text.proofs.LexemeFronts.PieceFronts.{IsPiece, ArePieces}
use Rattle.pyunparse_text.proofs.Listings.Columns.{columns, deeper, not_deeper, is_column, columns_above, columns_pushed}
use Rattle.pyunparse_text.proofs.Listings.Tells.{Tells, bytes_both, nothing_told, tells_both, piece_told, marks_told}
use Rattle.pyunparse_text.proofs.Listings.Margins.{Even, lines_even, margin_even, token_even, eights}
use Rattle.pyunparse_text.proofs.Sources.Decoding.{lines_scalars}
use Rattle.pylex_listing.specs.Lines.{count_if}

-- the steps of lexemes from a state on, and the state after them
abbrev pub steps_on : State → List Lexeme → List Step
steps_on s [] = []
steps_on s (x ∷ xs) = gives s x ++ steps_on (after s x) xs

abbrev pub after_all : State → List Lexeme → State
after_all s [] = s
after_all s (x ∷ xs) = after_all (after s x) xs

pub run_is : (f : Option ListingFault) (left : List ℕ) (s : State) (xs : List Lexeme)
    → run f left s xs ≡ steps_on s xs ++ stop_of f (after_all s xs) left
run_is f left s [] = refl
run_is f left s (x ∷ xs) = ap (λ r. gives s x ++ r) (run_is f left (after s x) xs)
    ∙ sym (append_assoc (gives s x) (steps_on (after s x) xs) (stop_of f (after_all (after s x) xs) left))

pub steps_both : (s : State) (xs ys : List Lexeme) → steps_on s (xs ++ ys) ≡ steps_on s xs ++ steps_on (after_all s xs) ys
steps_both s [] ys = refl
steps_both s (x ∷ xs) ys = ap (λ r. gives s x ++ r) (steps_both (after s x) xs ys)
    ∙ sym (append_assoc (gives s x) (steps_on (after s x) xs) (steps_on (after_all (after s x) xs) ys))

pub after_both : (s : State) (xs ys : List Lexeme) → after_all s (xs ++ ys) ≡ after_all (after_all s xs) ys
after_both s [] ys = refl
after_both s (x ∷ xs) ys = after_both (after s x) xs ys

-- where a line begins, after a line of level m
pub record AtLine (text : List ℕ) (s : State) (m : ℕ) (rest : List ℕ) : Type 0 where
  pub before : List ℕ
  pub whole : text ≡ before ++ rest
  pub offset : s.now.offset ≡ bytes_in before
  pub line : s.line.offset ≡ bytes_in before
  pub depth : s.depth ≡ 0
  pub levels : s.levels ≡ columns m
  pub margin : s.margin ≡ true
  pub width : s.width ≡ 0
  pub logical : s.logical ≡ false
  pub joined : s.joined ≡ false

-- after the blanks of a line of level n
record AtMargin (text : List ℕ) (s : State) (m n : ℕ) (rest : List ℕ) : Type 0 where
  pub before : List ℕ
  pub whole : text ≡ before ++ (replicate (4 * n) 32 ++ rest)
  pub offset : s.now.offset ≡ s.line.offset + bytes_in (replicate (4 * n) 32)
  pub line : s.line.offset ≡ bytes_in before
  pub depth : s.depth ≡ 0
  pub levels : s.levels ≡ columns m
  pub margin : s.margin ≡ true
  pub width : s.width ≡ 4 * n

-- after a piece of a line of level n, d brackets being open
record InLine (text : List ℕ) (s : State) (d n : ℕ) (rest : List ℕ) : Type 0 where
  pub before : List ℕ
  pub whole : text ≡ before ++ rest
  pub offset : s.now.offset ≡ bytes_in before
  pub depth : s.depth ≡ d
  pub levels : s.levels ≡ columns n
  pub margin : s.margin ≡ false
  pub logical : s.logical ≡ true

-- A piece's step, and the state after it
record Gives (s : State) (k : Kind) (t : List ℕ) : Type 0 where
  pub exact : Option Exact
  pub is : gives s (record { «class» = class_of k t; text = t }) ≡ layout_of s ++ step_of k exact s.now (past s.now t) ∷ []
  pub same : exact_in (record { kind = k; text = t }) ≡ exact

abbrev shuts : Kind → List ℕ → Bool
shuts k t = is_operator_kind k && is_closing t

class_is : (t : List ℕ) (x : Exact) → exact_of t ≡ Some x → class_of kinds.Op t ≡ Operator x
class_is t x f = ap (λ o. elim o [ Some e ↦ Operator e | None ↦ Join ]) f

opening_is : (t : List ℕ) (x : Exact) → exact_of t ≡ Some x → is_opening t ≡ is_opener x
opening_is t x f = ap (λ o. elim o [ Some e ↦ is_opener e | None ↦ false ]) f

closing_is : (t : List ℕ) (x : Exact) → exact_of t ≡ Some x → is_closing t ≡ is_closer x
closing_is t x f = ap (λ o. elim o [ Some e ↦ is_closer e | None ↦ false ]) f

piece_gives : (s : State) (k : Kind) (t : List ℕ) → is_token k t ≡ true → (shuts k t && (s.depth == 0)) ≡ false → Gives s k t
unfolding gives entry_by is_operator
piece_gives s kinds.Name t e c = record { exact = None; is = refl; same = refl }
piece_gives s kinds.Number t e c = record { exact = None; is = refl; same = refl }
piece_gives s kinds.String t e c = record { exact = None; is = refl; same = refl }
piece_gives s kinds.Op t e c = by (exact_of t) refl
  where
    by : (o : Option Exact) → exact_of t ≡ o → Gives s kinds.Op t
    by (Some x) f =
        let d : (is_closer x && (s.depth == 0)) ≡ false = subst (λ (b : Bool). (b && (s.depth == 0)) ≡ false) (closing_is t x f) c in
        let i : gives s (record { «class» = Operator x; text = t }) ≡ layout_of s ++ step_of kinds.Op (Some x) s.now (past s.now t) ∷ [] =
        rw d refl in
        record { exact = Some x; is = ap (λ k. gives s (record { «class» = k; text = t })) (class_is t x f) ∙ i; same = f }
    by None f = let g : false ≡ true = rw f at e in cc
piece_gives s kinds.Encoding t e c = cc
piece_gives s kinds.Comment t e c = cc
piece_gives s kinds.Nl t e c = cc
piece_gives s kinds.Newline t e c = cc
piece_gives s kinds.Indent t e c = cc
piece_gives s kinds.Dedent t e c = cc
piece_gives s kinds.EndMarker t e c = cc

record After (s : State) (k : Kind) (t : List ℕ) (r : State) : Type 0 where
  pub now : r.now ≡ past s.now t
  pub depth : r.depth ≡ s.depth + count_if (is_operator_kind k && is_opening t) - count_if (is_operator_kind k && is_closing t)
  pub levels : r.levels ≡ cond (s.margin && true) (pushed s.width s.levels) s.levels
  pub margin : r.margin ≡ false
  pub logical : r.logical ≡ true

piece_after : (s : State) (k : Kind) (t : List ℕ) → is_token k t ≡ true
    → After s k t (after s (record { «class» = class_of k t; text = t }))
unfolding after is_operator
piece_after s kinds.Name t e = record { now = refl; depth = refl; levels = refl; margin = refl; logical = refl }
piece_after s kinds.Number t e = record { now = refl; depth = refl; levels = refl; margin = refl; logical = refl }
piece_after s kinds.String t e = record { now = refl; depth = refl; levels = refl; margin = refl; logical = refl }
piece_after s kinds.Op t e = by (exact_of t) refl
  where
    by : (o : Option Exact) → exact_of t ≡ o → After s kinds.Op t (after s (record { «class» = class_of kinds.Op t; text = t }))
    by (Some x) f =
        let k = class_is t x f in
        record {
          now = refl;
          depth = ap (λ k. (after s (record { «class» = k; text = t })).depth) k ∙ ap (λ b. s.depth + count_if b - count_if (is_closer x))
              (sym (opening_is t x f)) ∙ ap (λ b. s.depth + count_if (is_opening t) - count_if b) (sym (closing_is t x f));
          levels = ap (λ k. (after s (record { «class» = k; text = t })).levels) k;
          margin = ap (λ k. (after s (record { «class» = k; text = t })).margin) k;
          logical = ap (λ k. (after s (record { «class» = k; text = t })).logical) k;
        }
    by None f = let g : false ≡ true = rw f at e in cc
piece_after s kinds.Encoding t e = cc
piece_after s kinds.Comment t e = cc
piece_after s kinds.Nl t e = cc
piece_after s kinds.Newline t e = cc
piece_after s kinds.Indent t e = cc
piece_after s kinds.Dedent t e = cc
piece_after s kinds.EndMarker t e = cc

-- The steps of some lexemes tell tokens, and lead to where a line begins.
pub record Ran (text : List ℕ) (s : State) (xs : List Lexeme) (ts : List PlainToken) (n : ℕ) (rest : List ℕ) : Type 0 where
  pub tells : Tells text (steps_on s xs) ts
  pub at : AtLine text (after_all s xs) n rest

-- The brackets
pub opens_alone : (e : Exact) → is_opener e ≡ true → is_closer e ≡ false
opens_alone exact.LPar h = refl
opens_alone exact.LSqb h = refl
opens_alone exact.LBrace h = refl
opens_alone e h = cc

not_both : (t : List ℕ) → is_opening t ≡ true → is_closing t ≡ false
not_both t e = by (exact_of t) refl
  where
    by : (o : Option Exact) → exact_of t ≡ o → is_closing t ≡ false
    by (Some x) f = let g : is_opener x ≡ true = sym (opening_is t x f) ∙ e in closing_is t x f ∙ opens_alone x g
    by None f = ap (λ o. elim o [ Some e ↦ is_closer e | None ↦ false ]) f

-- what the first of some pieces does to the depth
record Deep (d : ℕ) (p : Piece) (ps : List Piece) : Type 0 where
  pub next : ℕ
  pub is : d + count_if (opens p) - count_if (closes p) ≡ next
  pub matched : (closes p && (d == 0)) ≡ false
  pub rest : closes_all next ps ≡ true

deep : (d : ℕ) (p : Piece) (ps : List Piece) → closes_all d (p ∷ ps) ≡ true → Deep d p ps
deep d p ps e =
    ⊎_elim
    (λ (h : opens p ≡ true).
    let i = and_parts (is_operator_kind p.kind) (is_opening p.text) h in
    let c : closes p ≡ false = (let n = not_both p.text i.1 in rw n (none (is_operator_kind p.kind))) in
    let f : closes_all (d + 1) ps ≡ true = rw h at e in
    record { next = d + 1; is = rw (h, c) (omega arith); matched = rw c refl; rest = f })
    (λ (h : opens p ≡ false).
    ⊎_elim
    (λ (c : closes p ≡ true).
    let f : (not (d == 0) && closes_all (d - 1) ps) ≡ true = rw (h, c) at e in
    let g = and_parts (not (d == 0)) (closes_all (d - 1) ps) f in
    record { next = d - 1; is = rw (h, c) (omega arith); matched = rw c (not-true (d == 0) g.0); rest = g.1 })
    (λ (c : closes p ≡ false).
    let f : closes_all d ps ≡ true = rw (h, c) at e in
    record { next = d; is = rw (h, c) (omega arith); matched = rw c refl; rest = f })
    (cases_Bool (closes p)))
    (cases_Bool (opens p))
  where
    none : (b : Bool) → (b && false) ≡ false
    none true = refl
    none false = refl

-- A piece in its line
record Went (text : List ℕ) (s : State) (p : Piece) (n : ℕ) (ps : List Piece) (rest : List ℕ) : Type 0 where
  pub next : ℕ
  pub tells : Tells text (gives s (lexeme_of p)) (token_of p ∷ [])
  pub at : InLine text (after s (lexeme_of p)) next n rest
  pub rest_closes : closes_all next ps ≡ true

no_layout : (s : State) → s.margin ≡ false → layout_of s ≡ []
unfolding layout_of
no_layout s m = rw m refl

goes : (text : List ℕ) (s : State) (d n : ℕ) (p : Piece) (ps : List Piece) (rest : List ℕ) → InLine text s d n (p.text ++ rest) → IsPiece p
    → all_scalars p.text ≡ true → closes_all d (p ∷ ps) ≡ true → Went text s p n ps rest
goes text s d n p ps rest i e u c =
    let h = deep d p ps c in
    let m : (closes p && (s.depth == 0)) ≡ false = rw i.depth h.matched in
    let g = piece_gives s p.kind p.text e m in
    let a = piece_after s p.kind p.text e in
    record {
      next = h.next;
      tells = subst (λ (ss : List Step). Tells text ss (token_of p ∷ []))
          (sym (g.is ∙ ap (λ l. l ++ step_of p.kind g.exact s.now (past s.now p.text) ∷ []) (no_layout s i.margin)))
          (piece_told text i.before p.text rest p.kind g.exact s.now (past s.now p.text) i.whole u i.offset refl g.same
          (token_even text (past s.now p.text).offset p.kind p.text e));
      at = record {
        before = i.before ++ p.text;
        whole = i.whole ∙ sym (append_assoc i.before p.text rest);
        offset = ap (λ q. q.offset) a.now ∙ ap (λ o. o + bytes_in p.text) i.offset ∙ sym (bytes_both i.before p.text);
        depth = a.depth ∙ ap (λ x. x + count_if (opens p) - count_if (closes p)) i.depth ∙ h.is;
        levels = a.levels ∙ rw i.margin i.levels;
        margin = a.margin;
        logical = a.logical;
      };
      rest_closes = h.rest;
    }

-- a blank in a line gives nothing
blank_gives : (s : State) (t : List ℕ) → gives s (blanks t) ≡ []
unfolding gives entry_by is_operator
blank_gives s t = refl

blank_goes : (text : List ℕ) (s : State) (d n : ℕ) (rest : List ℕ) → InLine text s d n (32 ∷ rest)
    → InLine text (after s (blanks (32 ∷ []))) d n rest
unfolding after
blank_goes text s d n rest i = record {
  before = i.before ++ 32 ∷ [];
  whole = i.whole ∙ sym (append_assoc i.before (32 ∷ []) rest);
  offset = ap (λ o. o + bytes_in (32 ∷ [])) i.offset ∙ sym (bytes_both i.before (32 ∷ []));
  depth = (let e = i.depth in omega arith);
  levels = rw i.margin i.levels;
  margin = i.margin;
  logical = i.logical;
}

-- the line end
feed_gives : (s : State) → s.logical ≡ true → s.depth ≡ 0 → gives s feed ≡ step_of kinds.Newline None s.now (following s.now (10 ∷ [])) ∷ []
unfolding gives entry_by is_operator
feed_gives s l d = rw (l, d) refl

feed_after : (text : List ℕ) (s : State) (n : ℕ) (rest : List ℕ) → InLine text s 0 n (10 ∷ rest) → AtLine text (after s feed) n rest
unfolding after
feed_after text s n rest i =
    let o : (past s.now (10 ∷ [])).offset ≡ bytes_in (i.before ++ 10 ∷ []) = ap (λ o. o + bytes_in (10 ∷ [])) i.offset
    ∙ sym (bytes_both i.before (10 ∷ [])) in
    record {
      before = i.before ++ 10 ∷ [];
      whole = i.whole ∙ sym (append_assoc i.before (10 ∷ []) rest);
      offset = o;
      line = rw i.depth o;
      depth = rw i.depth refl;
      levels = rw i.margin i.levels;
      margin = rw i.depth refl;
      width = rw i.depth refl;
      logical = rw i.depth refl;
      joined = refl;
    }

feed_runs : (text : List ℕ) (s : State) (n : ℕ) (rest : List ℕ) → Even rest → InLine text s 0 n (10 ∷ rest)
    → Ran text s (feed ∷ []) (newline ∷ []) n rest
feed_runs text s n rest v i = record {
  tells = subst (λ (ss : List Step). Tells text ss (newline ∷ [])) (sym (append-nil (gives s feed) ∙ feed_gives s i.logical i.depth))
      (piece_told text i.before (10 ∷ []) rest kinds.Newline None s.now (following s.now (10 ∷ [])) i.whole refl i.offset refl refl
      (margin_even text (i.before ++ 10 ∷ []) rest (following s.now (10 ∷ [])).offset (i.whole ∙ sym (append_assoc i.before (10 ∷ []) rest))
      (ap (λ o. o + bytes_in (10 ∷ [])) i.offset ∙ sym (bytes_both i.before (10 ∷ []))) v));
  at = feed_after text s n rest i;
}

abbrev pub AreScalar : List Piece → Type 0
AreScalar ps = list_all (λ p. all_scalars p.text) ps ≡ true

-- a piece, and what runs after it
then_runs : (text : List ℕ) (s : State) (p : Piece) (n : ℕ) (ps : List Piece) (rest more : List ℕ) (xs : List Lexeme) (ts : List PlainToken)
    (w : Went text s p n ps rest) → Ran text (after s (lexeme_of p)) xs ts n more → Ran text s (lexeme_of p ∷ xs) (token_of p ∷ ts) n more
then_runs text s p n ps rest more xs ts w r = record {
  tells = tells_both text (gives s (lexeme_of p)) (steps_on (after s (lexeme_of p)) xs) (token_of p ∷ []) ts w.tells r.tells;
  at = r.at;
}

-- what stands after a piece of a line
after_runs : (text : List ℕ) (s : State) (d n : ℕ) (p : Piece) (qs : List Piece) (more : List ℕ) → Even more
    → InLine text s d n (text_following p qs ++ 10 ∷ more) → ArePieces qs → AreScalar qs → closes_all d qs ≡ true
    → Ran text s (lexemes_after p qs ++ feed ∷ []) (map token_of qs ++ newline ∷ []) n more
after_runs text s d n p [] more f i a u c =
    let z : d ≡ 0 = eqb-true d 0 c in
    feed_runs text s n more f (subst (λ (x : ℕ). InLine text s x n (10 ∷ more)) z i)
after_runs text s d n p (q ∷ qs) more f i a u c =
    let e = and_parts (is_token q.kind q.text) (list_all (λ r. is_token r.kind r.text) qs) a in
    let v = and_parts (all_scalars q.text) (list_all (λ r. all_scalars r.text) qs) u in
    ⊎_elim
    (λ (t : touches p q ≡ true).
    let j : InLine text s d n ((q.text ++ text_following q qs) ++ 10 ∷ more) = rw t at i in
    let w = goes text s d n q qs (text_following q qs ++ 10 ∷ more) (again text s d n q qs more j) e.0 v.0 c in
    rw t (then_runs text s q n qs (text_following q qs ++ 10 ∷ more) more (lexemes_after q qs ++ feed ∷ []) (map token_of qs ++ newline ∷ [])
    w (after_runs text (after s (lexeme_of q)) w.next n q qs more f w.at e.1 v.1 w.rest_closes)))
    (λ (t : touches p q ≡ false).
    let j : InLine text s d n (32 ∷ ((q.text ++ text_following q qs) ++ 10 ∷ more)) = rw t at i in
    let b = blank_goes text s d n ((q.text ++ text_following q qs) ++ 10 ∷ more) j in
    let r = after s (blanks (32 ∷ [])) in
    let w = goes text r d n q qs (text_following q qs ++ 10 ∷ more) (again text r d n q qs more b) e.0 v.0 c in
    let g = then_runs text r q n qs (text_following q qs ++ 10 ∷ more) more (lexemes_after q qs ++ feed ∷ [])
    (map token_of qs ++ newline ∷ []) w (after_runs text (after r (lexeme_of q)) w.next n q qs more f w.at e.1 v.1 w.rest_closes) in
    rw t (record {
      tells = tells_both text (gives s (blanks (32 ∷ []))) (steps_on r (lexeme_of q ∷ (lexemes_after q qs ++ feed ∷ []))) []
          (token_of q ∷ (map token_of qs ++ newline ∷ [])) (subst (λ (ss : List Step). Tells text ss []) (sym (blank_gives s (32 ∷ [])))
          (nothing_told text)) g.tells;
      at = g.at;
    }))
    (cases_Bool (touches p q))
  where
    again : (text : List ℕ) (s : State) (d n : ℕ) (q : Piece) (qs : List Piece) (more : List ℕ)
        → InLine text s d n ((q.text ++ text_following q qs) ++ 10 ∷ more) → InLine text s d n (q.text ++ (text_following q qs ++ 10 ∷ more))
    again text s d n q qs more i = subst (InLine text s d n) (append_assoc q.text (text_following q qs) (10 ∷ more)) i

blanks_scalar : (k : ℕ) → all_scalars (replicate k 32) ≡ true
blanks_scalar zero = refl
blanks_scalar (suc k) = blanks_scalar k

record Margin (text : List ℕ) (s : State) (m n : ℕ) (rest : List ℕ) : Type 0 where
  pub tells : Tells text (steps_on s (indent_lexemes n)) []
  pub at : AtMargin text (after_all s (indent_lexemes n)) m n rest

blanks_margin : (text : List ℕ) (s : State) (m n : ℕ) (rest : List ℕ) → AtLine text s m (replicate (4 * n) 32 ++ rest)
    → AtMargin text (after s (blanks (replicate (4 * n) 32))) m n rest
unfolding after
blanks_margin text s m n rest i =
    let w : width_from s.width (replicate (4 * n) 32) ≡ 4 * n = ap (λ v. width_from v (replicate (4 * n) 32)) i.width
    ∙ eights 0 (4 * n) ∙ omega arith in
    record {
      before = i.before;
      whole = i.whole;
      offset = ap (λ o. o + bytes_in (replicate (4 * n) 32)) (i.offset ∙ sym i.line);
      line = i.line;
      depth = (let e = i.depth in omega arith);
      levels = rw i.margin i.levels;
      margin = i.margin;
      width = rw i.margin w;
    }

margin_runs : (text : List ℕ) (s : State) (m n : ℕ) (rest : List ℕ) → AtLine text s m (replicate (4 * n) 32 ++ rest)
    → Margin text s m n rest
margin_runs text s m zero rest i = record {
  tells = nothing_told text;
  at = record {
    before = i.before;
    whole = i.whole;
    offset = i.offset ∙ sym i.line ∙ omega arith;
    line = i.line;
    depth = i.depth;
    levels = i.levels;
    margin = i.margin;
    width = i.width;
  };
}
margin_runs text s m (suc n) rest i = record {
  tells = subst (λ (ss : List Step). Tells text ss []) (sym (append-nil (gives s (blanks (replicate (4 * suc n) 32)))
      ∙ blank_gives s (replicate (4 * suc n) 32))) (nothing_told text);
  at = blanks_margin text s m (suc n) rest i;
}

-- The layout before the first piece
layout_told : (text : List ℕ) (s : State) (m n : ℕ) (rest : List ℕ) → AtMargin text s m n rest → Tells text (layout_of s) (level_tokens m n)
unfolding layout_of
layout_told text s m n rest i =
    ⊎_elim
    (λ (h : m < n).
    let e : ltb m n ≡ true = grind (arith, nat_tests) in
    let d = deeper m n h in
    rw (i.margin, i.width, i.levels, d, e) (piece_told text i.before (replicate (4 * n) 32) rest kinds.Indent None s.line s.now i.whole
    (blanks_scalar (4 * n)) i.line i.offset refl refl))
    (λ (h : n ≤ m).
    let e : ltb m n ≡ false = grind (arith, nat_tests) in
    let d = not_deeper m n h in
    let c = is_column m n h in
    let k = columns_above m n in
    rw (i.margin, i.width, i.levels, d, c, k, e) (marks_told text (m - n) kinds.Dedent s.now.offset s.now.place s.now.place refl refl))
    (cases_lt m n)

record First (text : List ℕ) (s : State) (p : Piece) (m n : ℕ) (ps : List Piece) (rest : List ℕ) : Type 0 where
  pub next : ℕ
  pub tells : Tells text (gives s (lexeme_of p)) (level_tokens m n ++ token_of p ∷ [])
  pub at : InLine text (after s (lexeme_of p)) next n rest
  pub rest_closes : closes_all next ps ≡ true

first_goes : (text : List ℕ) (s : State) (m n : ℕ) (p : Piece) (ps : List Piece) (rest : List ℕ) → AtMargin text s m n (p.text ++ rest)
    → n ≤ m + 1 → IsPiece p → all_scalars p.text ≡ true → closes_all 0 (p ∷ ps) ≡ true → First text s p m n ps rest
first_goes text s m n p ps rest i l e u c =
    let h = deep 0 p ps c in
    let z : (closes p && (s.depth == 0)) ≡ false = rw i.depth h.matched in
    let g = piece_gives s p.kind p.text e z in
    let a = piece_after s p.kind p.text e in
    let b : List ℕ = i.before ++ replicate (4 * n) 32 in
    let w : text ≡ b ++ (p.text ++ rest) = i.whole ∙ sym (append_assoc i.before (replicate (4 * n) 32) (p.text ++ rest)) in
    let o : s.now.offset ≡ bytes_in b = i.offset ∙ ap (λ x. x + bytes_in (replicate (4 * n) 32)) i.line
    ∙ sym (bytes_both i.before (replicate (4 * n) 32)) in
    let t = piece_told text b p.text rest p.kind g.exact s.now (past s.now p.text) w u o refl g.same
    (token_even text (past s.now p.text).offset p.kind p.text e) in
    record {
      next = h.next;
      tells = subst (λ (ss : List Step). Tells text ss (level_tokens m n ++ token_of p ∷ [])) (sym g.is)
          (tells_both text (layout_of s) (step_of p.kind g.exact s.now (past s.now p.text) ∷ []) (level_tokens m n) (token_of p ∷ [])
          (layout_told text s m n (p.text ++ rest) i) t);
      at = record {
        before = b ++ p.text;
        whole = w ∙ sym (append_assoc b p.text rest);
        offset = ap (λ q. q.offset) a.now ∙ ap (λ x. x + bytes_in p.text) o ∙ sym (bytes_both b p.text);
        depth = a.depth ∙ ap (λ x. x + count_if (opens p) - count_if (closes p)) i.depth ∙ h.is;
        levels = a.levels ∙ rw (i.margin, i.width, i.levels) (columns_pushed m n l);
        margin = a.margin;
        logical = a.logical;
      };
      rest_closes = h.rest;
    }

-- A line
pieces_run : (text : List ℕ) (s : State) (m n : ℕ) (ps : List Piece) (more : List ℕ) → Even more
    → AtMargin text s m n (spaced ps ++ 10 ∷ more) → n ≤ m + 1 → are_readable ps ≡ true → AreScalar ps → closes_all 0 ps ≡ true
    → Ran text s (lexemes_of ps ++ feed ∷ []) (level_tokens m n ++ (map token_of ps ++ newline ∷ [])) n more
pieces_run text s m n [] more even i l r u c = cc
pieces_run text s m n (p ∷ ps) more even i l r u c =
    let a = and_parts (list_all (λ q. is_token q.kind q.text) (p ∷ ps)) _ r in
    let e = and_parts (is_token p.kind p.text) (list_all (λ q. is_token q.kind q.text) ps) a.0 in
    let v = and_parts (all_scalars p.text) (list_all (λ q. all_scalars q.text) ps) u in
    let j : AtMargin text s m n (p.text ++ (text_following p ps ++ 10 ∷ more)) =
    subst (AtMargin text s m n) (append_assoc p.text (text_following p ps) (10 ∷ more)) i in
    let f = first_goes text s m n p ps (text_following p ps ++ 10 ∷ more) j l e.0 v.0 c in
    let b = after_runs text (after s (lexeme_of p)) f.next n p ps more even f.at e.1 v.1 f.rest_closes in
    record {
      tells = subst (λ (ts : List PlainToken). Tells text (steps_on s (lexeme_of p ∷ (lexemes_after p ps ++ feed ∷ []))) ts)
          (append_assoc (level_tokens m n) (token_of p ∷ []) (map token_of ps ++ newline ∷ []))
          (tells_both text (gives s (lexeme_of p)) (steps_on (after s (lexeme_of p)) (lexemes_after p ps ++ feed ∷ []))
          (level_tokens m n ++ token_of p ∷ []) (map token_of ps ++ newline ∷ []) f.tells b.tells);
      at = b.at;
    }

pub line_runs : (text : List ℕ) (s : State) (m : ℕ) (l : Line) (more : List ℕ) → Even more → AtLine text s m (line_text l ++ more)
    → is_written l ≡ true → l.level ≤ m + 1 → Ran text s (line_lexemes l) (line_tokens m l) l.level more
line_runs text s m l more even i w h =
    let a = and_parts (are_readable l.pieces) (closes_all 0 l.pieces && list_all (λ p. all_scalars p.text) l.pieces) w in
    let b = and_parts (closes_all 0 l.pieces) (list_all (λ p. all_scalars p.text) l.pieces) a.1 in
    let t : line_text l ++ more ≡ replicate (4 * l.level) 32 ++ (spaced l.pieces ++ 10 ∷ more) =
    append_assoc (replicate (4 * l.level) 32) (spaced l.pieces ++ 10 ∷ []) more
    ∙ ap (λ u. replicate (4 * l.level) 32 ++ u) (append_assoc (spaced l.pieces) (10 ∷ []) more) in
    let j : AtLine text s m (replicate (4 * l.level) 32 ++ (spaced l.pieces ++ 10 ∷ more)) = subst (AtLine text s m) t i in
    let g = margin_runs text s m l.level (spaced l.pieces ++ 10 ∷ more) j in
    let p = pieces_run text (after_all s (indent_lexemes l.level)) m l.level l.pieces more even g.at h a.0 b.1 b.0 in
    record {
      tells = subst (λ (ss : List Step). Tells text ss (line_tokens m l))
          (sym (steps_both s (indent_lexemes l.level) (lexemes_of l.pieces ++ feed ∷ [])))
          (tells_both text (steps_on s (indent_lexemes l.level))
          (steps_on (after_all s (indent_lexemes l.level)) (lexemes_of l.pieces ++ feed ∷ [])) [] (line_tokens m l) g.tells p.tells);
      at = subst (λ (r : State). AtLine text r l.level more)
          (sym (after_both s (indent_lexemes l.level) (lexemes_of l.pieces ++ feed ∷ []))) p.at;
    }

-- Lines
pub record Done (text : List ℕ) (s : State) (m : ℕ) (ls : List Line) : Type 0 where
  pub tokens : List PlainToken
  pub level : ℕ
  pub tells : Tells text (steps_on s (lines_lexemes ls)) tokens
  pub at : AtLine text (after_all s (lines_lexemes ls)) level []
  pub whole : tokens ++ (replicate level dedent ++ end_marker ∷ []) ≡ tokens_after m ls

pub lines_run : (text : List ℕ) (s : State) (m : ℕ) (ls : List Line) → AtLine text s m (lines_text ls) → list_all is_written ls ≡ true
    → rise_by_one m ls ≡ true → Done text s m ls
lines_run text s m [] i w r = record { tokens = []; level = m; tells = nothing_told text; at = i; whole = refl }
lines_run text s m (l ∷ ls) i w r =
    let a = and_parts (is_written l) (list_all is_written ls) w in
    let b = and_parts (nat_le l.level (m + 1)) (rise_by_one l.level ls) r in
    let g = line_runs text s m l (lines_text ls) (lines_even ls a.1 (lines_scalars ls a.1)) i a.0 (leb-true l.level (m + 1) b.0) in
    let d = lines_run text (after_all s (line_lexemes l)) l.level ls g.at a.1 b.1 in
    record {
      tokens = line_tokens m l ++ d.tokens;
      level = d.level;
      tells = subst (λ (ss : List Step). Tells text ss (line_tokens m l ++ d.tokens))
          (sym (steps_both s (line_lexemes l) (lines_lexemes ls)))
          (tells_both text (steps_on s (line_lexemes l)) (steps_on (after_all s (line_lexemes l)) (lines_lexemes ls)) (line_tokens m l)
          d.tokens g.tells d.tells);
      at = subst (λ (x : State). AtLine text x d.level []) (sym (after_both s (line_lexemes l) (lines_lexemes ls))) d.at;
      whole = append_assoc (line_tokens m l) d.tokens (replicate d.level dedent ++ end_marker ∷ [])
          ∙ ap (λ u. line_tokens m l ++ u) d.whole;
    }
