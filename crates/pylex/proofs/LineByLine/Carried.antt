-- A lister that holds only some whole lines of a text finds in them what it finds in the text.
--
-- Carries: drop_ends, drop_carried, chars_lines, comes_carried and 4 more, for Streaming, LexedOn,
-- Lined, Reading. On: Significant, Steps, Measured, Finding.
use Rattle.std.proofs.Common.{◌≡◌, ◌≢◌, ℕ, zero, suc, Bool, true, false, ◌&&◌, List, [], ◌∷◌, ◌++◌, length, take, drop, refl, ap, ◌∙◌, sym}
use Rattle.std.proofs.Common.{subst, inl, inr, ◌⊎◌, ⊎_elim, append_assoc, Option, Some, None}
use Rattle.std.specs.Str.{chars, IsUtf8}
use Rattle.std.proofs.Math.Seq.{take-append_seam}
use Rattle.std.proofs.lemmas.List.{take-append-drop, drop-append-le}
use Rattle.std.proofs.lemmas.Str.{chars-append, IsUtf8-take, IsCharBoundary-at_seam}
use Rattle.pysource.specs.declared.places.Place.{Place}
use Rattle.pylex_listing.specs.declared.entries.Entry.{Entry}
use Rattle.pylex_listing.specs.declared.entries.ListingFault.{ListingFault}
use Rattle.pylex.specs.declared.line_state.LineState.{LineState}
use Rattle.pylex.specs.declared.peeked.Peeked.{Peeked}
use Rattle.pylex.specs.declared.peeked.Peeked.TheVariants as peeked
use Rattle.pylex_lexeme.specs.Chunks.{EndsLine}
use Rattle.pylex_lexeme.specs.Cuts.{begins_significant}
use Rattle.pylex_lexeme.specs.Lexemes.{Lexeme, lexeme_at, lexeme_len, is_open_string}
use Rattle.pylex_listing.specs.Listing.{stop_fault, up_to_end}
use Rattle.pylex_listing.specs.Machine.{State, after, layout_of, stop_of, remaining}
use Rattle.pylex.specs.LineState.{measured, Walks, stays, silent, level, dedent, Comes, EntryAhead, GivesFault, mismatch, faulty}
use Rattle.pylex.specs.LineState.{FaultAhead, IndentAhead, DedentAhead, Peek}
use Rattle.pylex.proofs.MachineLaws.Steps.{remaining_stop}
use Rattle.pylex.proofs.Listers.Measured.{stop_within}
use Rattle.pylex_listing.proofs.Callers.{none_at_all}
use Rattle.pylex.proofs.Listers.Finding.{no_significant}
use Rattle.pylex_lexeme.proofs.Callers.WholeLines.{lexeme_kept, len_kept, none_kept, open_kept, opens_kept, significant_kept, len_within}

-- After a front of whole lines are whole lines, or nothing.
line_left : (c : ℕ) (cs front : List ℕ) → c ∷ cs ≡ front ++ 10 ∷ [] → EndsLine cs ⊎ (cs ≡ [])
line_left c cs [] e = inr cc
line_left c cs (d ∷ front) e = inl (front, cc)

lines_left : (n : ℕ) (cs : List ℕ) → EndsLine cs ⊎ (cs ≡ []) → EndsLine (drop n cs) ⊎ (drop n cs ≡ [])
lines_left zero cs h = h
lines_left (suc n) [] h = inr refl
lines_left (suc n) (c ∷ cs) (inl l) = lines_left n cs (line_left c cs l.0 l.1)
lines_left (suc n) (c ∷ cs) (inr e) = absurd (some c cs e)
  where
    some : (c : ℕ) (cs : List ℕ) → c ∷ cs ≡ [] → ⊥
    some c cs e = cc

pub drop_ends : (cs : List ℕ) (x : Lexeme) → EndsLine cs → lexeme_at cs ≡ Some x
    → (drop (lexeme_len cs) cs ≡ []) ⊎ EndsLine (drop (lexeme_len cs) cs)
drop_ends cs x l e = ⊎_elim (λ m. inr m) (λ z. inl z) (lines_left (lexeme_len cs) cs (inl l))

-- and what is after a lexeme goes on in the same way
pub drop_carried : (cs es : List ℕ) (x : Lexeme) → EndsLine cs → lexeme_at cs ≡ Some x
    → drop (lexeme_len (cs ++ es)) (cs ++ es) ≡ drop (lexeme_len cs) cs ++ es
drop_carried cs es x l e = ap (λ n. drop n (cs ++ es)) (len_kept cs es x l e) ∙ drop-append-le (lexeme_len cs) cs es (len_within cs)

-- where a lexeme or a significant token stands there are lines
pub lexeme_lines : (cs : List ℕ) (x : Lexeme) → lexeme_at cs ≡ Some x → EndsLine cs ⊎ (cs ≡ []) → EndsLine cs
lexeme_lines cs x e (inl l) = l
lexeme_lines cs x e (inr z) = absurd (none_at_all x (ap lexeme_at (sym z) ∙ e))

significant_lines : (cs : List ℕ) → begins_significant cs ≡ true → EndsLine cs ⊎ (cs ≡ []) → EndsLine cs
significant_lines cs t (inl l) = l
significant_lines cs t (inr z) = no_significant (ap begins_significant (sym z) ∙ t)

settled_kept : (b : Bool) (cs es : List ℕ) → EndsLine cs → (b && begins_significant cs) ≡ false
    → (b && begins_significant (cs ++ es)) ≡ false
settled_kept b cs es l d = ap (λ t. b && t) (significant_kept cs es l) ∙ d

-- A walk in whole lines.
pub walks_carried : (t : State) (ds es : List ℕ) (n : ℕ) (s : State) (cs : List ℕ) → EndsLine cs ⊎ (cs ≡ []) → Walks t ds n s cs
    → Walks t (ds ++ es) n s (cs ++ es)
walks_carried t ds es n s cs h stays = stays
walks_carried t ds es n s cs h (silent m r bs x d e g w) =
    let l = lexeme_lines cs x e h in
    silent n s (cs ++ es) x (settled_kept s.margin cs es l d) (lexeme_kept cs es x l e) g
    (subst (λ (rest : List ℕ). Walks t (ds ++ es) n (after s x) rest) (sym (drop_carried cs es x l e))
    (walks_carried t ds es n (after s x) (drop (lexeme_len cs) cs) (lines_left (lexeme_len cs) cs h) w))
walks_carried t ds es n s cs h (level m r bs a b i c w) = level n s (cs ++ es) a (significant_kept cs es (significant_lines cs b h) ∙ b) i c
    (walks_carried t ds es n (measured s) cs h w)
walks_carried t ds es n s cs h (dedent m r bs ls v a b e i k w) =
    dedent m s (cs ++ es) ls v a (significant_kept cs es (significant_lines cs b h) ∙ b) e i k
    (walks_carried t ds es m (record s { levels = ls }) cs h w)

-- it leads to whole lines, or to nothing
pub walks_lines : (t : State) (ds : List ℕ) (n : ℕ) (s : State) (cs : List ℕ) → EndsLine cs ⊎ (cs ≡ []) → Walks t ds n s cs
    → EndsLine ds ⊎ (ds ≡ [])
walks_lines t ds n s cs h stays = h
walks_lines t ds n s cs h (silent m r bs x d e g w) = walks_lines t ds n (after s x) (drop (lexeme_len cs) cs)
    (lines_left (lexeme_len cs) cs h) w
walks_lines t ds n s cs h (level m r bs a b i c w) = walks_lines t ds n (measured s) cs h w
walks_lines t ds n s cs h (dedent m r bs ls v a b e i k w) = walks_lines t ds m (record s { levels = ls }) cs h w

-- and where whole lines are left it began in such
drop_back : (n : ℕ) (cs : List ℕ) → EndsLine (drop n cs) → EndsLine cs
drop_back n cs l = (
  take n cs ++ l.0,
  sym (take-append-drop n cs) ∙ ap (λ t. take n cs ++ t) l.1
      ∙ sym (append_assoc (take n cs) l.0 (10 ∷ [])),
)

pub walks_back : (t : State) (ds : List ℕ) (n : ℕ) (s : State) (cs : List ℕ) → EndsLine ds → Walks t ds n s cs → EndsLine cs
walks_back t ds n s cs l stays = l
walks_back t ds n s cs l (silent m r bs x d e g w) =
    drop_back (lexeme_len cs) cs (walks_back t ds n (after s x) (drop (lexeme_len cs) cs) l w)
walks_back t ds n s cs l (level m r bs a b i c w) = walks_back t ds n (measured s) cs l w
walks_back t ds n s cs l (dedent m r bs ls v a b e i k w) = walks_back t ds m (record s { levels = ls }) cs l w

-- A lister comes as far.
pub comes_carried : (levels : List ℕ) (p : LineState) (cs : List ℕ) (q : LineState) (ds es : List ℕ) → EndsLine cs ⊎ (cs ≡ [])
    → Comes levels p cs q ds → Comes levels p (cs ++ es) q (ds ++ es)
comes_carried levels p cs q ds es h c = record { walks = walks_carried _ ds es 0 _ cs h c.walks }

pub comes_lines : (levels : List ℕ) (p : LineState) (cs : List ℕ) (q : LineState) (ds : List ℕ) → EndsLine cs ⊎ (cs ≡ [])
    → Comes levels p cs q ds → EndsLine ds ⊎ (ds ≡ [])
comes_lines levels p cs q ds h c = walks_lines _ ds 0 _ cs h c.walks

-- It meets the same.
pub entry_carried : (levels : List ℕ) (p : LineState) (cs : List ℕ) (e : Entry) (q : LineState) (ds es : List ℕ) → EndsLine cs ⊎ (cs ≡ [])
    → EntryAhead levels p cs e q ds → EntryAhead levels p (cs ++ es) e q (ds ++ es)
entry_carried levels p cs e q ds es h f =
    let l = lexeme_lines f.before f.lexeme f.stands (comes_lines levels p cs f.there f.before h f.comes) in
    record {
      there = f.there;
      before = f.before ++ es;
      lexeme = f.lexeme;
      comes = comes_carried levels p cs f.there f.before es h f.comes;
      settled = settled_kept f.there.margin f.before es l f.settled;
      stands = lexeme_kept f.before es f.lexeme l f.stands;
      own = f.own;
      following = ap (λ t. t ++ es) f.following ∙ sym (drop_carried f.before es f.lexeme l f.stands);
      goes = f.goes;
    }

cause_carried : (levels : List ℕ) (q : LineState) (ds es : List ℕ) (f : ListingFault) → EndsLine ds ⊎ (ds ≡ []) → GivesFault levels q ds f
    → GivesFault levels q (ds ++ es) f
cause_carried levels q ds es f h (mismatch m t a i e) = mismatch m (significant_kept ds es (significant_lines ds t h) ∙ t) a i e
cause_carried levels q ds es f h (faulty x d e g) = let l = lexeme_lines ds x e h in
    faulty x (settled_kept q.margin ds es l d) (lexeme_kept ds es x l e) g

pub fault_carried : (levels : List ℕ) (p : LineState) (cs es : List ℕ) (f : ListingFault) → EndsLine cs ⊎ (cs ≡ [])
    → FaultAhead levels p cs f → FaultAhead levels p (cs ++ es) f
fault_carried levels p cs es f h g = record {
  there = g.there;
  before = g.before ++ es;
  comes = comes_carried levels p cs g.there g.before es h g.comes;
  cause = cause_carried levels g.there g.before es f (comes_lines levels p cs g.there g.before h g.comes) g.cause;
}

pub indent_carried : (levels : List ℕ) (q : LineState) (ds es : List ℕ) → EndsLine ds ⊎ (ds ≡ []) → IndentAhead levels q ds
    → IndentAhead levels q (ds ++ es)
indent_carried levels q ds es h i = record {
  margin = i.margin;
  significant = significant_kept ds es (significant_lines ds i.significant h)
      ∙ i.significant;
  above = i.above;
}

pub dedent_carried : (levels : List ℕ) (q : LineState) (ds es : List ℕ) → EndsLine ds ⊎ (ds ≡ []) → DedentAhead levels q ds
    → DedentAhead levels q (ds ++ es)
dedent_carried levels q ds es h d = record {
  margin = d.margin;
  significant = significant_kept ds es (significant_lines ds d.significant h)
      ∙ d.significant;
  level = d.level;
  some = d.some;
  last = d.last;
}

-- the end of what it holds aside
pub finds_carried : (levels : List ℕ) (p : LineState) (cs : List ℕ) (m : Peeked) (q : LineState) (ds es : List ℕ) → EndsLine cs ⊎ (cs ≡ [])
    → m ≢ peeked.Stop → Peek levels p cs m q ds → Peek levels p (cs ++ es) m q (ds ++ es)
finds_carried levels p cs (peeked.Entry e) q ds es h n f = entry_carried levels p cs e q ds es h f
finds_carried levels p cs (peeked.Fault f) q ds es h n g = fault_carried levels p cs es f h g
finds_carried levels p cs peeked.Indent q ds es h n f =
    (comes_carried levels p cs q ds es h f.0, indent_carried levels q ds es (comes_lines levels p cs q ds h f.0) f.1)
finds_carried levels p cs peeked.Dedent q ds es h n f =
    (comes_carried levels p cs q ds es h f.0, dedent_carried levels q ds es (comes_lines levels p cs q ds h f.0) f.1)
finds_carried levels p cs peeked.Stop q ds es h n f = absurd (n refl)

-- A stop within the lines, unless a string is open there.
pub stop_carried : (levels : List ℕ) (p : LineState) (cs : List ℕ) (q : LineState) (ds es : List ℕ) → Peek levels p cs peeked.Stop q ds
    → EndsLine ds → is_open_string ds ≡ false → Peek levels p (cs ++ es) peeked.Stop q (ds ++ es)
stop_carried levels p cs q ds es f l o = (
  comes_carried levels p cs q ds es (inl (walks_back _ ds 0 _ cs l f.0.walks)) f.0,
  record { none = none_kept ds es l f.1.none o; settled = settled_kept q.margin ds es l f.1.settled },
)

pub stop_fault_carried : (fault : Option ListingFault) (pl : Place) (ds es : List ℕ) → EndsLine ds → lexeme_at ds ≡ None
    → is_open_string ds ≡ false → stop_fault fault pl (ds ++ es) ≡ stop_fault fault pl ds
unfolding stop_fault
stop_fault_carried fault pl ds es l n o =
    let opens = opens_kept ds es l in
    let still = open_kept ds es l n o ∙ sym o in
    rw (opens, still) refl

stop_of_carried : (fault : Option ListingFault) (s : State) (ds es : List ℕ) → EndsLine ds → lexeme_at ds ≡ None → is_open_string ds ≡ false
    → stop_of fault s (ds ++ es) ≡ stop_of fault s ds
stop_of_carried fault s [] es l n o = absurd (no_lines l.0 l.1)
  where
    no_lines : (front : List ℕ) → [] ≡ front ++ 10 ∷ [] → ⊥
    no_lines [] e = cc
    no_lines (c ∷ front) e = cc
stop_of_carried fault s (d ∷ ds) es l n o =
    stop_within fault s d (ds ++ es)
    ∙ ap (λ u. layout_of s ++ u ∷ []) (stop_fault_carried fault s.now.place (d ∷ ds) es l n o)
    ∙ sym (stop_within fault s d ds)

pub remaining_carried : (fault : Option ListingFault) (s : State) (ds es : List ℕ) → EndsLine ds → lexeme_at ds ≡ None
    → is_open_string ds ≡ false → remaining fault s (ds ++ es) ≡ remaining fault s ds
remaining_carried fault s ds es l n o =
    remaining_stop fault s (ds ++ es) (none_kept ds es l n o)
    ∙ ap up_to_end (stop_of_carried fault s ds es l n o)
    ∙ sym (remaining_stop fault s ds n)

-- Bytes that end in a line feed are characters that end in one.
front_utf8 : (front : List ℕ) → IsUtf8 (front ++ 10 ∷ []) → IsUtf8 front
unfolding lib.Utf8.encode
front_utf8 front u =
    subst IsUtf8 (take-append_seam front (10 ∷ []))
    (IsUtf8-take (front ++ 10 ∷ []) (length front) u (IsCharBoundary-at_seam (front ++ 10 ∷ []) front (10 ∷ []) refl
    (10 ∷ [], (refl, refl))))

line_feed : chars (10 ∷ []) ≡ 10 ∷ []
unfolding chars
line_feed = refl

pub chars_lines : (front : List ℕ) → IsUtf8 (front ++ 10 ∷ []) → EndsLine (chars (front ++ 10 ∷ []))
chars_lines front u = (chars front, chars-append front (10 ∷ []) (front_utf8 front u) ∙ ap (λ t. chars front ++ t) line_feed)
