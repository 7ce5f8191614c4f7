-- What is left of a text past lexemes, and literals that are open there.
--
-- Carries: left_all, lexed_both, lexed_on, left_lexed and 6 more, for JoinedOn, Reading, Searching,
-- Steppings and 1 more. On: Lexed, Lined, Carried, Steps and 1 more.
use Rattle.std.proofs.Common.{◌≡◌, ◌⊎◌, inl, inr, ⊎_elim, ℕ, ◌<◌, Bool, true, false, ◌&&◌, List, [], ◌∷◌, ◌++◌, length, drop, refl, ap, sym}
use Rattle.std.proofs.Common.{◌∙◌, subst, append-nil, arith, Option, Some, None}
use Rattle.std.specs.Str.{chars, IsUtf8}
use Rattle.std.proofs.lemmas.Str.{chars-append, chars-nil}
use Rattle.std.proofs.lemmas.List.{take-append-drop}
use Rattle.std.specs.List.{onto_first}
use Rattle.std.proofs.lemmas.Bool.{cases_Bool}
use Rattle.pysource.specs.Lines.{lines_of}
use Rattle.pysource.specs.Places.{is_lf}
use Rattle.pysource.specs.Streams.{ends_line}
use Rattle.pylex_listing.specs.declared.entries.ListingFault.{ListingFault}
use Rattle.pylex.specs.declared.peeked.Peeked.{Peeked}
use Rattle.pylex.specs.declared.peeked.Peeked.TheVariants as peeked
use Rattle.pylex.specs.declared.line_state.LineState.{LineState}
use Rattle.pylex_lexeme.specs.Chunks.{EndsLine}
use Rattle.pylex_lexeme.specs.Cuts.{begins_significant}
use Rattle.pylex_listing.specs.Laws.{AreLexemes}
use Rattle.pylex_lexeme.specs.Lexemes.{Lexeme, lexeme_at, lexeme_len, cut, left_by_cut, is_open_string}
use Rattle.pylex_listing.specs.Machine.{State}
use Rattle.pylex.specs.LineState.{Walks, stays, silent, level, dedent, Comes, GivesFault, mismatch, faulty, StopAhead, Peek}
use Rattle.pylex.specs.Held.{IsJoined, LexedTo, at_left, past_lexeme}
use Rattle.pylex.proofs.LineByLine.Carried.{drop_ends, drop_carried, lexeme_lines}
use Rattle.pylex_lexeme.proofs.Callers.WholeLines.{lexeme_kept}
use Rattle.pylex_listing.proofs.Callers.{cut_lexed, lexeme_parts, lexeme_some, none_at_all, lexeme_front}
use Rattle.pylex.proofs.LineByLine.Lined.{lined_chars, feed_following, ends_on}
use Rattle.pylex.proofs.MachineLaws.Steps.{left_step, left_stop}

-- Past lexemes and then past others.
pub lexed_both : (ds es cs : List ℕ) → LexedTo ds cs → LexedTo es ds → LexedTo es cs
lexed_both ds es cs at_left q = q
lexed_both ds es cs (past_lexeme bs x e p) q = past_lexeme cs x e (lexed_both ds es (drop (lexeme_len cs) cs) p q)

pub lexed_on : (ds es cs : List ℕ) → EndsLine cs ⊎ (cs ≡ []) → LexedTo ds cs → LexedTo (ds ++ es) (cs ++ es)
lexed_on ds es cs h at_left = at_left
lexed_on ds es cs h (past_lexeme bs x e p) =
    let l = lexeme_lines cs x e h in
    past_lexeme (cs ++ es) x (lexeme_kept cs es x l e)
    (subst (LexedTo (ds ++ es)) (sym (drop_carried cs es x l e))
    (lexed_on ds es (drop (lexeme_len cs) cs) (⊎_elim (λ z. inr z) (λ m. inl m) (drop_ends cs x l e)) p))

-- The cut leaves what it leaves after them.
len_is : (cs : List ℕ) (x : Lexeme) → lexeme_at cs ≡ Some x → drop (length x.text) cs ≡ drop (lexeme_len cs) cs
len_is cs x e =
    let front = lexeme_front cs x e in
    let whole : x.text ++ drop (length x.text) cs ≡ x.text ++ drop (lexeme_len cs) cs =
    sym (lexeme_parts cs x e) ∙ sym (take-append-drop (lexeme_len cs) cs) ∙ ap (λ t. t ++ drop (lexeme_len cs) cs) (sym front) in
    following x.text (drop (length x.text) cs) (drop (lexeme_len cs) cs) whole
  where
    following : (t a b : List ℕ) → t ++ a ≡ t ++ b → a ≡ b
    following [] a b h = h
    following (c ∷ t) a b h = following t a b cc

pub left_lexed : (ds cs : List ℕ) → LexedTo ds cs → left_by_cut cs ≡ left_by_cut ds
left_lexed ds cs at_left = refl
left_lexed ds cs (past_lexeme bs x e p) =
    let parts = lexeme_parts cs x e in
    ap left_by_cut parts ∙ left_step x.text (drop (length x.text) cs) x (ap lexeme_at (sym parts) ∙ e) refl (lexeme_some cs x e)
    ∙ ap left_by_cut (len_is cs x e) ∙ left_lexed ds (drop (lexeme_len cs) cs) p

pub lexed_cut : (cs : List ℕ) → LexedTo (left_by_cut cs) cs
lexed_cut cs = by (cut cs) cs (left_by_cut cs) (cut_lexed cs)
  where
    same : (t a b : List ℕ) → t ++ a ≡ t ++ b → a ≡ b
    same [] a b h = h
    same (c ∷ t) a b h = same t a b cc

    by : (xs : List Lexeme) (text left : List ℕ) → AreLexemes text xs left → LexedTo left text
    by [] text left h = subst (λ l. LexedTo l text) (sym h.0) at_left
    by (x ∷ xs) text left h =
        let here : h.0 ≡ drop (lexeme_len text) text = same x.text h.0 (drop (length x.text) text) (sym h.2 ∙ lexeme_parts text x h.1)
        ∙ len_is text x h.1 in
        past_lexeme text x h.1 (subst (LexedTo left) here (by xs h.0 left h.3))

-- The way of a lister leads past lexemes.
pub lexed_walks : (t : State) (ds : List ℕ) (n : ℕ) (s : State) (cs : List ℕ) → Walks t ds n s cs → LexedTo ds cs
lexed_walks t ds n s cs stays = at_left
lexed_walks t ds n s cs (silent m r bs x d e g w) = past_lexeme cs x e (lexed_walks t ds n _ (drop (lexeme_len cs) cs) w)
lexed_walks t ds n s cs (level m r bs a b i c w) = lexed_walks t ds n _ cs w
lexed_walks t ds n s cs (dedent m r bs ls v a b e i k w) = lexed_walks t ds m _ cs w

pub lexed_comes : (levels : List ℕ) (p : LineState) (cs : List ℕ) (q : LineState) (ds : List ℕ) → Comes levels p cs q ds → LexedTo ds cs
lexed_comes levels p cs q ds c = lexed_walks _ ds 0 _ cs c.walks

pub lexed_finds : (levels : List ℕ) (p : LineState) (cs : List ℕ) (m : Peeked) (q : LineState) (ds : List ℕ)
    → ((f : ListingFault) → m ≡ peeked.Fault f → ⊥) → Peek levels p cs m q ds → LexedTo ds cs
lexed_finds levels p cs (peeked.Entry e) q ds h f =
    lexed_both f.before ds cs (lexed_comes levels p cs f.there f.before f.comes)
    (past_lexeme f.before f.lexeme f.stands (subst (λ t. LexedTo ds t) f.following at_left))
lexed_finds levels p cs (peeked.Fault g) q ds h f = absurd (h g refl)
lexed_finds levels p cs peeked.Indent q ds h f = lexed_comes levels p cs q ds f.0
lexed_finds levels p cs peeked.Dedent q ds h f = lexed_comes levels p cs q ds f.0
lexed_finds levels p cs peeked.Stop q ds h f = lexed_comes levels p cs q ds f.0

-- A lister at which no lexeme stands, and no layout is due, finds nothing there.
pub not_both : (a b : Bool) → (a && b) ≡ false → a ≡ true → b ≡ true → ⊥
not_both true true h d e = cc
not_both true false h d e = cc
not_both false b h d e = cc

pub stuck_walks : (t : State) (ds : List ℕ) (n : ℕ) (s : State) (cs : List ℕ) → lexeme_at cs ≡ None
    → (s.margin && begins_significant cs) ≡ false → Walks t ds n s cs → (ds ≡ cs) × (t.margin ≡ s.margin)
stuck_walks t ds n s cs h d stays = (refl, refl)
stuck_walks t ds n s cs h d (silent m r bs x z e g w) = absurd (let f : None ≡ Some x = sym h ∙ e in cc)
stuck_walks t ds n s cs h d (level m r bs a b i c w) = absurd (not_both s.margin (begins_significant cs) d a b)
stuck_walks t ds n s cs h d (dedent m r bs ls v a b e i k w) = absurd (not_both s.margin (begins_significant cs) d a b)

stuck_comes : (levels : List ℕ) (p : LineState) (cs : List ℕ) (q : LineState) (ds : List ℕ) → StopAhead p cs → Comes levels p cs q ds
    → (ds ≡ cs) × (q.margin ≡ p.margin)
stuck_comes levels p cs q ds s c = stuck_walks _ ds 0 _ cs s.none s.settled c.walks

pub stuck_finds : (levels : List ℕ) (p : LineState) (cs : List ℕ) (m : Peeked) (q : LineState) (ds : List ℕ) → StopAhead p cs
    → Peek levels p cs m q ds → (m ≡ peeked.Stop) × (ds ≡ cs)
stuck_finds levels p cs (peeked.Entry e) q ds s f =
    let c = stuck_comes levels p cs f.there f.before s f.comes in
    absurd (let g : None ≡ Some f.lexeme = sym s.none ∙ ap lexeme_at (sym c.0) ∙ f.stands in cc)
stuck_finds levels p cs (peeked.Fault g) q ds s f =
    absurd (by f.there f.before (stuck_comes levels p cs f.there f.before s f.comes) f.cause)
  where
    by : (r : LineState) (bs : List ℕ) → (bs ≡ cs) × (r.margin ≡ p.margin) → GivesFault levels r bs g → ⊥
    by r bs c (mismatch m t a i e) = not_both p.margin (begins_significant cs) s.settled (sym c.1 ∙ m) (ap begins_significant (sym c.0) ∙ t)
    by r bs c (faulty x d e w) = let z : None ≡ Some x = sym s.none ∙ ap lexeme_at (sym c.0) ∙ e in cc
stuck_finds levels p cs peeked.Indent q ds s f =
    let c = stuck_comes levels p cs q ds s f.0 in
    absurd (not_both p.margin (begins_significant cs) s.settled (sym c.1 ∙ f.1.margin) (ap begins_significant (sym c.0) ∙ f.1.significant))
stuck_finds levels p cs peeked.Dedent q ds s f =
    let c = stuck_comes levels p cs q ds s f.0 in
    absurd (not_both p.margin (begins_significant cs) s.settled (sym c.1 ∙ f.1.margin) (ap begins_significant (sym c.0) ∙ f.1.significant))
stuck_finds levels p cs peeked.Stop q ds s f = (refl, (stuck_comes levels p cs q ds s f.0).0)

-- A line has its line feed only at its end.
feed_last : (front back : List ℕ) → lines_of (front ++ back) ≡ (front ++ back) ∷ [] → ends_line front ≡ true → 0 < length back → ⊥
unfolding lines_of
feed_last [] back h e some = let f : false ≡ true = e in cc
feed_last (b ∷ []) [] h e some = omega arith
feed_last (b ∷ []) (c ∷ back) h e some =
    let is : is_lf b ≡ true = e in
    let f : (b ∷ []) ∷ lines_of (c ∷ back) ≡ (b ∷ c ∷ back) ∷ [] = rw is at h in
    cc
feed_last (b ∷ c ∷ front) back h e some = ⊎_elim
    (λ (is : is_lf b ≡ true). let f : (b ∷ []) ∷ lines_of (c ∷ front ++ back) ≡ (b ∷ c ∷ front ++ back) ∷ [] = rw is at h in cc)
    (λ (is : is_lf b ≡ false).
    let f : onto_first b (lines_of (c ∷ front ++ back)) ≡ (b ∷ c ∷ front ++ back) ∷ [] = rw is at h in
    feed_last (c ∷ front) back (first_of b (c ∷ front ++ back) (lines_of (c ∷ front ++ back)) (λ z. cc) f)
    (sym (ends_on b c front) ∙ e) some)
    (cases_Bool (is_lf b))
  where
    first_of : (b : ℕ) (t : List ℕ) (ls : List (List ℕ)) → (t ≡ [] → ⊥) → onto_first b ls ≡ (b ∷ t) ∷ [] → ls ≡ t ∷ []
    first_of b t [] n e = absurd (n (let f : (b ∷ []) ∷ [] ≡ (b ∷ t) ∷ [] = e in cc))
    first_of b t (l ∷ ls) n e = let f : (b ∷ l) ∷ ls ≡ (b ∷ t) ∷ [] = e in cc

-- A text that goes on by one line, after an open literal.
pub joined_more : (text line : List ℕ) → IsJoined [] text → (0 < length text → is_open_string (left_by_cut (chars text)) ≡ true)
    → lines_of line ≡ line ∷ [] → IsJoined [] (text ++ line)
joined_more text line h opened one front back e feed some = ⊎_elim within past (split text line front back e)
  where
    split : (text line front back : List ℕ) → text ++ line ≡ front ++ back → ((m : List ℕ) × (text ≡ front ++ m) × (back ≡ m ++ line)) ⊎
        ((m : List ℕ) × (front ≡ text ++ m) × (line ≡ m ++ back))
    split [] line front back e = inr (front, refl, e)
    split (c ∷ text) line [] back e = inl (c ∷ text, refl, sym e)
    split (c ∷ text) line (d ∷ front) back e =
        let f : c ∷ (text ++ line) ≡ d ∷ (front ++ back) = e in
        let same : c ≡ d = cc in
        ⊎_elim
        (λ s. inl (s.0, ap (λ x. x ∷ text) same ∙ ap (λ t. d ∷ t) s.1, s.2))
        (λ s. inr (s.0, ap (λ x. x ∷ front) (sym same) ∙ ap (λ t. c ∷ t) s.1, s.2))
        (split text line front back cc)

    all : text ≡ front → is_open_string (left_by_cut (chars front)) ≡ true
    all same = by text refl
      where
        by : (t : List ℕ) → t ≡ text → is_open_string (left_by_cut (chars front)) ≡ true
        by [] z = absurd (let f : false ≡ true = ap ends_line (z ∙ same) ∙ feed in cc)
        by (c ∷ t) z = ap (λ u. is_open_string (left_by_cut (chars u))) (sym same) ∙ opened (omega (arith, ap length z))

    within : (m : List ℕ) × (text ≡ front ++ m) × (back ≡ m ++ line) → is_open_string (left_by_cut (chars front)) ≡ true
    within ([], is, b) = all (is ∙ append-nil front)
    within (x ∷ m, is, b) = h front (x ∷ m) is feed (omega arith)

    past : (m : List ℕ) × (front ≡ text ++ m) × (line ≡ m ++ back) → is_open_string (left_by_cut (chars front)) ≡ true
    past ([], is, b) = all (sym (is ∙ append-nil text))
    past (x ∷ m, is, b) =
        absurd (feed_last (x ∷ m) back (ap lines_of (sym b) ∙ one ∙ ap (λ t. t ∷ []) b)
        (feed_following text x m (ap ends_line (sym is) ∙ feed)) some)

-- nothing is left of nothing
left_none : left_by_cut [] ≡ []
left_none = left_stop [] (none_at (lexeme_at []) refl)
  where
    none_at : (o : Option Lexeme) → lexeme_at [] ≡ o → lexeme_at [] ≡ None
    none_at None e = e
    none_at (Some x) e = absurd (none_at_all x e)

pub left_all : (cs : List ℕ) → LexedTo [] cs → left_by_cut cs ≡ []
left_all cs l = left_lexed [] cs l ∙ left_none

-- Lines that stand after others that are lexed whole.
pub left_after : (before text : List ℕ) → IsUtf8 before → (before ≡ []) ⊎ (ends_line before ≡ true) → left_by_cut (chars before) ≡ []
    → left_by_cut (chars (before ++ text)) ≡ left_by_cut (chars text)
left_after before text u ends closed =
    let lined : EndsLine (chars before) ⊎ (chars before ≡ []) =
    ⊎_elim (λ z. inr (ap chars z ∙ chars-nil)) (λ l. inl (lined_chars before u l)) ends in
    let lexed : LexedTo (chars text) (chars before ++ chars text) =
    lexed_on [] (chars text) (chars before) lined (subst (λ l. LexedTo l (chars before)) closed (lexed_cut (chars before))) in
    ap left_by_cut (chars-append before text u) ∙ left_lexed (chars text) (chars before ++ chars text) lexed

pub joined_after : (before text : List ℕ) → IsUtf8 before → (before ≡ []) ⊎ (ends_line before ≡ true) → left_by_cut (chars before) ≡ []
    → IsJoined [] text → IsJoined before text
joined_after before text u ends closed h front back e feed some = ap is_open_string (left_after before front u ends closed)
    ∙ h front back e feed some
