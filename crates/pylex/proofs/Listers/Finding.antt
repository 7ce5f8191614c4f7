-- What a lister meets next.
--
-- Carries: look, machine::find, line_start, next_entry, machine::peek. On:
-- Layouts, Measured, Significant.
use Rattle.std.proofs.Common.{◌≡◌, ℕ, zero, suc, ◌+◌, ◌<◌, Bool, true, false, ◌&&◌, ◌||◌, ◌==◌, take, drop, List, [], ◌∷◌, ◌++◌, length}
use Rattle.std.proofs.Common.{refl, ap, cond, replicate, inl, inr, ◌⊎◌, ◌∙◌, sym, append_assoc, subst, arith, Option, Some, None, ⊎_elim}
use Rattle.std.specs.Str.{chars}
use Rattle.std.specs.Prelude.{count_by, nat_lt}
use Rattle.pylex_lexeme.specs.declared.lexeme.Class.{Class}
use Rattle.pylex.specs.declared.entries.Emitted.TheVariants as gives
use Rattle.pylex_listing.specs.declared.entries.Entry.{Entry}
use Rattle.pylex_listing.specs.declared.entries.ListingFault.{ListingFault}
use Rattle.pylex_listing.specs.declared.entries.ListingError.TheVariants as errors
use Rattle.pylex_listing.specs.declared.kind.Kind.TheVariants as kinds
use Rattle.pylex_listing.specs.declared.entries.Step.{Step}
use Rattle.pylex_listing.specs.declared.entries.Step.TheVariants as steps
use Rattle.pylex.specs.declared.line_state.LineState.{LineState}
use Rattle.pylex.specs.declared.peeked.Indentation.TheVariants as indentations
use Rattle.pylex.specs.declared.peeked.Peeked.{Peeked}
use Rattle.pylex.specs.declared.peeked.Peeked.TheVariants as peeked
use Rattle.pylex_lexeme.specs.Lexemes.{Lexeme, lexeme_at, lexeme_len, is_significant_class, is_line_end_class, is_blanks_class}
use Rattle.pylex_lexeme.specs.declared.lexeme.Class.TheVariants.{Name, Number, String, Operator, Comment, Blanks, LineEnd, Join}
use Rattle.pylex_listing.specs.Lines.{is_significant}
use Rattle.pylex_lexeme.specs.Cuts.{Cuts, begins_significant}
use Rattle.pylex_listing.specs.Machine.{State, after, gives, entry_by, layout_of, remaining, after_steps, pushed, dedents_at, mark_at}
use Rattle.pylex.specs.LineState.{with_levels, measured, given, Stands, HasRoom, Comes, Walks, stays, silent, level, dedent, EntryAhead}
use Rattle.pylex.specs.LineState.{GivesFault, mismatch, faulty, FaultAhead, IndentAhead, DedentAhead, Peek, Settles, IsIndentation}
use Rattle.pylex.specs.LineState.{is_level, Following}
use Rattle.std.proofs.lemmas.Bool.Decides.{nat_tests}
use lib.Utf8.{encodes}
use Rattle.std.specs.Str.{IsUtf8}
use Rattle.std.proofs.lemmas.Str.{length-le-encodes, encodes-chars, encodes-append}
use Rattle.pylex_listing.proofs.Callers.{lexeme_front, significant_at, significant_is, drop_of}
use Rattle.pylex.proofs.Listers.Measured.{remaining_lexeme, measured_lexeme, measured_stop}
use Rattle.pylex.proofs.Levels.Layouts.{layout_dedents, layout_mismatch, level_not_above, level-push, pushed_less, dedents-push}

false_or_true : (b : Bool) → (b ≡ false) ⊎ (b ≡ true)
false_or_true true = inr refl
false_or_true false = inl refl

-- a significant token begins no empty text
pub no_significant : {A : Type 0} → begins_significant [] ≡ true → A
unfolding begins_significant
no_significant t = cc

-- before a significant token the layout stands
measured_by : (fault : Option ListingFault) (s : State) (cs : List ℕ) (o : Option Lexeme) → lexeme_at cs ≡ o → s.margin ≡ true
    → begins_significant cs ≡ true → remaining fault s cs ≡ after_steps (layout_of s) (remaining fault (measured s) cs)
measured_by fault s cs (Some x) e m t = measured_lexeme fault s cs x m e (significant_at cs x t e)
measured_by fault s (c ∷ cs) None e m t = measured_stop fault s c cs e
measured_by fault s [] None e m t = no_significant t

pub measured_significant : (fault : Option ListingFault) (s : State) (cs : List ℕ) → s.margin ≡ true → begins_significant cs ≡ true
    → remaining fault s cs ≡ after_steps (layout_of s) (remaining fault (measured s) cs)
measured_significant fault s cs m t = measured_by fault s cs (lexeme_at cs) refl m t

-- One lexeme, where no layout is due.
pub settled_layout : (s : State) → s.margin ≡ false → layout_of s ≡ []
unfolding layout_of
settled_layout s m = rw m refl

pub no_layout : (s : State) (x : Lexeme) → (s.margin && is_significant x) ≡ false → gives s x ≡ entry_by s x
unfolding gives
no_layout s x h = ⊎_elim
    (λ (m : s.margin ≡ false). let none = settled_layout s m in rw none (no_choice (is_significant x) (entry_by s x)))
    (λ (m : s.margin ≡ true). let t : is_significant x ≡ false = rw m at h in rw t refl)
    (false_or_true s.margin)
  where
    no_choice : (b : Bool) (ss : List Step) → cond b [] [] ++ ss ≡ ss
    no_choice true ss = refl
    no_choice false ss = refl

same_drop : (n : ℕ) (cs : List ℕ) → drop n cs ≡ drop (length (take n cs)) cs
same_drop zero cs = refl
same_drop (suc n) [] = refl
same_drop (suc n) (c ∷ cs) = same_drop n cs

-- what is after the first lexeme
pub following_first : (cs b : List ℕ) (x : Lexeme) → lexeme_at cs ≡ Some x → cs ≡ x.text ++ b → drop (lexeme_len cs) cs ≡ b
following_first cs b x e p =
    let f = lexeme_front cs x e in
    same_drop (lexeme_len cs) cs ∙ ap (λ t. drop (length t) cs) (sym f) ∙ ap (drop (length x.text)) p ∙ drop_of x.text b

-- A DEDENT for the last level, where the width is that of one before it.
pub dedent_step : (f : Option ListingFault) (s : State) (cs ls : List ℕ) (v : ℕ) → s.margin ≡ true → begins_significant cs ≡ true
    → s.levels ≡ ls ++ v ∷ [] → s.width < v → is_level s.width ls ≡ true → remaining f s cs ≡ mark_at kinds.Dedent s.now.offset s.now.place
    s.now.place ∷ remaining f (record s { levels = ls }) cs
dedent_step f s cs ls v m t levels less is =
    let r : State = record s { levels = ls } in
    let one : Step = mark_at kinds.Dedent s.now.offset s.now.place s.now.place in
    let not_v : (v == s.width) ≡ false = grind (arith, nat_tests) in
    let whole : is_level s.width s.levels ≡ true = ap (is_level s.width) levels ∙ level-push s.width v ls
    ∙ ap (λ b. b || (v == s.width)) is in
    let before : layout_of s ≡ dedents_at s.width s.levels s.now.offset s.now.place =
    layout_dedents s m (level_not_above s.width s.levels whole) whole in
    let later : layout_of r ≡ dedents_at s.width ls s.now.offset s.now.place = layout_dedents r m (level_not_above s.width ls is) is in
    let first : layout_of s ≡ one ∷ layout_of r = before ∙ ap (λ ns. dedents_at s.width ns s.now.offset s.now.place) levels
    ∙ dedents-push s.width v ls s.now.offset s.now.place less ∙ ap (λ ss. one ∷ ss) (sym later) in
    let state : measured s ≡ measured r = ap (λ ns. record (measured s) { levels = ns }) (ap (pushed s.width) levels
    ∙ pushed_less s.width v ls less) in
    measured_significant f s cs m t ∙ ap (λ ss. after_steps ss (remaining f (measured s) cs)) first
    ∙ ap (λ u. one ∷ after_steps (layout_of r) (remaining f u cs)) state ∙ ap (λ ss. one ∷ ss) (sym (measured_significant f r cs m t))

-- a line of an open level with none above it gives no layout
level_layout : (s : State) → s.margin ≡ true → is_level s.width s.levels ≡ true → count_by (nat_lt s.width) s.levels ≡ 0 → layout_of s ≡ []
level_layout s m l n = layout_dedents s m (level_not_above s.width s.levels l) l
    ∙ ap (λ k. replicate k (mark_at kinds.Dedent s.now.offset s.now.place s.now.place)) n

-- Past n DEDENTs, the steps there are left.
pub walks_steps : (f : Option ListingFault) (t : State) (ds : List ℕ) (n : ℕ) (s : State) (cs : List ℕ) → Walks t ds n s cs
    → drop n (remaining f s cs) ≡ remaining f t ds
walks_steps f t ds n s cs stays = refl
walks_steps f t ds n s cs (silent m r bs x d e g w) =
    let significant : (s.margin && is_significant x) ≡ false = ap (λ b. s.margin && b) (significant_is cs x e) ∙ d in
    ap (drop n) (remaining_lexeme f s cs x e ∙ ap (λ ss. after_steps ss (remaining f (after s x) (drop (lexeme_len cs) cs)))
    (no_layout s x significant ∙ g))
    ∙ walks_steps f t ds n (after s x) (drop (lexeme_len cs) cs) w
walks_steps f t ds n s cs (level m r bs a b l c w) =
    ap (drop n) (measured_significant f s cs a b ∙ ap (λ ss. after_steps ss (remaining f (measured s) cs)) (level_layout s a l c))
    ∙ walks_steps f t ds n (measured s) cs w
walks_steps f t ds n s cs (dedent m r bs ls v a b e l i w) =
    ap (drop (suc m)) (dedent_step f s cs ls v a b e l i)
    ∙ walks_steps f t ds m (record s { levels = ls }) cs w

-- one walk after another
pub walks_on : (t u : State) (ds es : List ℕ) (m n : ℕ) (s : State) (cs : List ℕ) → Walks t ds m s cs → Walks u es n t ds
    → Walks u es (m + n) s cs
walks_on t u ds es m n s cs stays v = let z : 0 + n ≡ n = omega arith in rw z v
walks_on t u ds es m n s cs (silent k r bs x d e g w) v =
    silent (m + n) s cs x d e g (walks_on t u ds es m n (after s x) (drop (lexeme_len cs) cs) w v)
walks_on t u ds es m n s cs (level k r bs a b l c w) v = level (m + n) s cs a b l c (walks_on t u ds es m n (measured s) cs w v)
walks_on t u ds es m n s cs (dedent k r bs ls x a b e l i w) v =
    let z : suc k + n ≡ suc (k + n) = omega arith in
    rw z (dedent (k + n) s cs ls x a b e l i (walks_on t u ds es k n (record s { levels = ls }) cs w v))

-- A lister may look on from another place.
pub stays_there : (levels : List ℕ) (p : LineState) (cs : List ℕ) → Comes levels p cs p cs
stays_there levels p cs = record { walks = stays }

pub comes_on : (levels : List ℕ) (p : LineState) (cs : List ℕ) (q : LineState) (ds : List ℕ) (r : LineState) (es : List ℕ)
    → Comes levels p cs q ds → Comes levels q ds r es → Comes levels p cs r es
comes_on levels p cs q ds r es a b =
    record {
      walks = walks_on (with_levels q (0 ∷ levels)) (with_levels r (0 ∷ levels)) ds es 0 0
          (with_levels p (0 ∷ levels)) cs a.walks b.walks;
    }

pub same_ahead : (levels : List ℕ) (p : LineState) (cs : List ℕ) (q : LineState) (ds : List ℕ) → Comes levels p cs q ds
    → (f : Option ListingFault) → remaining f (with_levels p (0 ∷ levels)) cs ≡ remaining f (with_levels q (0 ∷ levels)) ds
same_ahead levels p cs q ds c f = walks_steps f (with_levels q (0 ∷ levels)) ds 0 (with_levels p (0 ∷ levels)) cs c.walks

-- What is met from there is met from here.
pub finds_on : (levels : List ℕ) (p : LineState) (cs : List ℕ) (q : LineState) (ds : List ℕ) (m : Peeked) (r : LineState) (es : List ℕ)
    → Comes levels p cs q ds → Peek levels q ds m r es → Peek levels p cs m r es
finds_on levels p cs q ds (peeked.Entry e) r es c f = record {
  there = f.there;
  before = f.before;
  lexeme = f.lexeme;
  comes =
      comes_on levels p cs q ds f.there f.before c f.comes;
  settled = f.settled;
  stands = f.stands;
  own = f.own;
  following =
      f.following;
  goes = f.goes;
}
finds_on levels p cs q ds (peeked.Fault f) r es c g = record {
  there = g.there;
  before = g.before;
  comes =
      comes_on levels p cs q ds g.there g.before c g.comes;
  cause = g.cause;
}
finds_on levels p cs q ds peeked.Indent r es c f = (comes_on levels p cs q ds r es c f.0, f.1)
finds_on levels p cs q ds peeked.Dedent r es c f = (comes_on levels p cs q ds r es c f.0, f.1)
finds_on levels p cs q ds peeked.Stop r es c f = (comes_on levels p cs q ds r es c f.0, f.1)

-- A line of the last level.
pub settles_level : (levels : List ℕ) (p q : LineState) (cs : List ℕ) → p.margin ≡ true → begins_significant cs ≡ true
    → IsIndentation p.width levels indentations.Level → ((ls : List ℕ) → with_levels q (pushed p.width ls) ≡ measured (with_levels p ls))
    → Settles levels p cs q
settles_level levels p q cs m t h is =
    let s : State = with_levels p (0 ∷ levels) in
    let state : measured s ≡ with_levels q (0 ∷ levels) = sym (is (0 ∷ levels)) ∙ ap (with_levels q) h.3 in
    let margin : q.margin ≡ false = ap (λ (r : State). r.margin) (is (0 ∷ levels)) in
    record {
      comes = record {
        walks =
            level 0 s cs m t h.1 h.2 (subst (λ (r : State). Walks (with_levels q (0 ∷ levels)) cs 0 r cs) (sym state) stays);
      };
      settled = rw margin refl;
    }

-- No layout is due.
pub settles_same : (levels : List ℕ) (p : LineState) (cs : List ℕ) → (p.margin && begins_significant cs) ≡ false → Settles levels p cs p
settles_same levels p cs h = record { comes = stays_there levels p cs; settled = h }

-- A line that closes levels to none that is open.
pub fault_mismatch : (levels : List ℕ) (p : LineState) (cs : List ℕ) → p.margin ≡ true → begins_significant cs ≡ true
    → IsIndentation p.width levels indentations.Mismatch
    → FaultAhead levels p cs (record { code = errors.UnindentMismatch; place = p.now.place })
fault_mismatch levels p cs m t h = record { there = p; before = cs; comes = stays_there levels p cs; cause = mismatch m t h.0 h.1 refl }

pub indent_ahead : (levels : List ℕ) (p : LineState) (cs : List ℕ) → p.margin ≡ true → begins_significant cs ≡ true
    → IsIndentation p.width levels indentations.Indent → Comes levels p cs p cs × IndentAhead levels p cs
indent_ahead levels p cs m t h = (stays_there levels p cs, record { margin = m; significant = t; above = h })

pub dedent_ahead : (levels : List ℕ) (p : LineState) (cs : List ℕ) → p.margin ≡ true → begins_significant cs ≡ true
    → IsIndentation p.width levels indentations.Dedent → Comes levels p cs p cs × DedentAhead levels p cs
dedent_ahead levels p cs m t h = (stays_there levels p cs, record { margin = m; significant = t; level = h.0; some = h.1; last = h.2 })

-- what a lexeme gives, where the lister came to here from a place before
pub fault_found : (levels : List ℕ) (p0 : LineState) (cs : List ℕ) (q p : LineState) (bytes front back : List ℕ) (k : Class)
    (f : ListingFault) → Comes levels p0 cs q (chars bytes) → Settles levels q (chars bytes) p → Cuts bytes k front back
    → ((ls : List ℕ) → entry_by (with_levels p ls) (record { «class» = k; text = chars front }) ≡ given (gives.Fault f))
    → FaultAhead levels p0 cs f
fault_found levels p0 cs q p bytes front back k f came settles c gave = record {
  there = p;
  before = chars bytes;
  comes = comes_on levels p0 cs q (chars bytes) p (chars bytes) came settles.comes;
  cause = faulty (record { «class» = k; text = chars front }) settles.settled c.lexeme (gave (0 ∷ levels));
}

-- Where a fault is met, that is all there is left.
fault_given : (levels : List ℕ) (q : LineState) (ds : List ℕ) (f : ListingFault) → GivesFault levels q ds f → (fault : Option ListingFault)
    → remaining fault (with_levels q (0 ∷ levels)) ds ≡ steps.Fault f ∷ []
fault_given levels q ds f (mismatch m t a l e) fault =
    let s : State = with_levels q (0 ∷ levels) in
    measured_significant fault s ds m t ∙ ap (λ ss. after_steps ss (remaining fault (measured s) ds)) (layout_mismatch s m a l)
    ∙ ap (λ g. steps.Fault g ∷ []) (sym e)
fault_given levels q ds f (faulty x d e g) fault =
    let s : State = with_levels q (0 ∷ levels) in
    let significant : (q.margin && is_significant x) ≡ false = ap (λ b. q.margin && b) (significant_is ds x e) ∙ d in
    remaining_lexeme fault s ds x e ∙ ap (λ ss. after_steps ss (remaining fault (after s x) (drop (lexeme_len ds) ds)))
    (no_layout s x significant ∙ g)

pub fault_step : (levels : List ℕ) (p : LineState) (cs : List ℕ) (f : ListingFault) → FaultAhead levels p cs f
    → (fault : Option ListingFault) → remaining fault (with_levels p (0 ∷ levels)) cs ≡ steps.Fault f ∷ []
fault_step levels p cs f h fault = same_ahead levels p cs h.there h.before h.comes fault
    ∙ fault_given levels h.there h.before f h.cause fault

-- the text after a lexeme
cut_following : (bytes front back : List ℕ) (k : Class) → Cuts bytes k front back → chars back ≡ drop (lexeme_len (chars bytes)) (chars bytes)
cut_following bytes front back k c =
    sym (following_first (chars bytes) (chars back) (record { «class» = k; text = chars front }) c.lexeme c.whole)

pub entry_found : (levels : List ℕ) (p0 : LineState) (cs : List ℕ) (q p r : LineState) (bytes front back : List ℕ) (k : Class) (e : Entry)
    → Comes levels p0 cs q (chars bytes) → Settles levels q (chars bytes) p → Cuts bytes k front back
    → ((ls : List ℕ) → entry_by (with_levels p ls) (record { «class» = k; text = chars front }) ≡ given (gives.Entry e))
    → ((ls : List ℕ) → with_levels r ls ≡ after (with_levels p ls) (record { «class» = k; text = chars front }))
    → EntryAhead levels p0 cs e r (chars back)
entry_found levels p0 cs q p r bytes front back k e came settles c gave is = record {
  there = p;
  before = chars bytes;
  lexeme = record { «class» = k; text = chars front };
  comes = comes_on levels p0 cs q (chars bytes) p (chars bytes) came settles.comes;
  settled = settles.settled;
  stands = c.lexeme;
  own = gave (0 ∷ levels);
  following = cut_following bytes front back k c;
  goes = is (0 ∷ levels);
}

pub nothing_found : (levels : List ℕ) (p0 : LineState) (cs : List ℕ) (q p r : LineState) (bytes front back : List ℕ) (k : Class)
    → Comes levels p0 cs q (chars bytes) → Settles levels q (chars bytes) p → Cuts bytes k front back
    → ((ls : List ℕ) → entry_by (with_levels p ls) (record { «class» = k; text = chars front }) ≡ given gives.Nothing)
    → ((ls : List ℕ) → with_levels r ls ≡ after (with_levels p ls) (record { «class» = k; text = chars front }))
    → Comes levels p0 cs r (chars back)
nothing_found levels p0 cs q p r bytes front back k came settles c gave is =
    let x : Lexeme = record { «class» = k; text = chars front } in
    let t : State = with_levels r (0 ∷ levels) in
    let s : State = with_levels p (0 ∷ levels) in
    let last : Walks t (chars back) 0 (after s x) (drop (lexeme_len (chars bytes)) (chars bytes)) =
    subst (λ (u : State). Walks t (chars back) 0 u (drop (lexeme_len (chars bytes)) (chars bytes))) (is (0 ∷ levels))
    (subst (λ (es : List ℕ). Walks t (chars back) 0 t es) (cut_following bytes front back k c) stays) in
    comes_on levels p0 cs p (chars bytes) r (chars back) (comes_on levels p0 cs q (chars bytes) p (chars bytes) came settles.comes)
    (record { walks = silent 0 s (chars bytes) x settles.settled c.lexeme (gave (0 ∷ levels)) last })

-- a lexeme makes no line logical where no layout is due before it
pub no_significant_due : (p : LineState) (bytes front back : List ℕ) (k : Class) → Cuts bytes k front back
    → (p.margin && begins_significant (chars bytes)) ≡ false → (p.margin && is_significant_class k) ≡ false
no_significant_due p bytes front back k c settled =
    ap (λ b. p.margin && b) (significant_is (chars bytes) (record { «class» = k; text = chars front }) c.lexeme) ∙ settled

-- a lexeme has bytes
pub some_bytes : (bytes front back : List ℕ) (k : Class) → Cuts bytes k front back → 0 < length front
some_bytes bytes front back k c = let n = length-le-encodes (chars front) in omega (arith, c.counted, c.nonempty)

pub stands_after : (p r : LineState) (bytes front back : List ℕ) (k : Class) → Cuts bytes k front back → Stands p bytes
    → ((n : ℕ) → HasRoom p (length front + n) → HasRoom r n) → Stands r back
stands_after p r bytes front back k c stands room =
    record { utf8 = c.back_utf8; room = room (length back) (subst (λ (n : ℕ). HasRoom p n) c.sizes stands.room) }

pub shorter_after : (bytes front back : List ℕ) (k : Class) → Cuts bytes k front back → length back < length bytes
shorter_after bytes front back k c = let n = some_bytes bytes front back k c in omega (arith, c.sizes)

-- past a lexeme there is room for what follows the text too
pub room_after : (p r : LineState) (bytes front back : List ℕ) (k : Class) → Cuts bytes k front back
    → ((n : ℕ) → HasRoom p (length front + n) → HasRoom r n) → (n : ℕ) → HasRoom p (length bytes + n) → HasRoom r (length back + n)
room_after p r bytes front back k c room n h =
    let s = c.sizes in
    let e : length bytes + n ≡ length front + (length back + n) = omega arith in
    room (length back + n) (subst (λ (m : ℕ). HasRoom p m) e h)

-- what is after a lexeme is after what is before it
cut_bytes : (bytes front back : List ℕ) (k : Class) → IsUtf8 bytes → Cuts bytes k front back → bytes ≡ front ++ back
cut_bytes bytes front back k u c =
    sym (encodes-chars bytes u) ∙ ap encodes c.whole ∙ encodes-append (chars front) (chars back)
    ∙ ap (λ t. t ++ encodes (chars back)) (encodes-chars front c.front_utf8) ∙ ap (λ t. front ++ t) (encodes-chars back c.back_utf8)

pub after_cut : (text bytes front back : List ℕ) (k : Class) → IsUtf8 bytes → Cuts bytes k front back
    → Following text bytes → Following text back
after_cut text bytes front back k u c b = (
  b.0 ++ front,
  b.1 ∙ ap (λ t. b.0 ++ t) (cut_bytes bytes front back k u c)
      ∙ sym (append_assoc b.0 front back),
)

pub after_on : (text bytes back : List ℕ) → Following text bytes → Following bytes back → Following text back
after_on text bytes back b c = (b.0 ++ c.0, b.1 ∙ ap (λ t. b.0 ++ t) c.1 ∙ sym (append_assoc b.0 c.0 back))

-- a lexeme that gives nothing ends no line
not_line_end : (s : State) (k : Class) (u : List ℕ) → entry_by s (record { «class» = k; text = u }) ≡ [] → is_line_end_class k ≡ false
unfolding entry_by
not_line_end s Name u e = cc
not_line_end s Number u e = cc
not_line_end s String u e = cc
not_line_end s (Operator o) u e = refl
not_line_end s Comment u e = cc
not_line_end s Blanks u e = refl
not_line_end s LineEnd u e = cc
not_line_end s Join u e = refl

-- past it a lister stands after the margin as it did
pub margin_past : (p r : LineState) (k : Class) (u : List ℕ) → p.margin ≡ false
    → ((ls : List ℕ) → entry_by (with_levels p ls) (record { «class» = k; text = u }) ≡ given gives.Nothing)
    → ((ls : List ℕ) → with_levels r ls ≡ after (with_levels p ls) (record { «class» = k; text = u })) → r.margin ≡ false
unfolding after
margin_past p r k u m gave is =
    let e = not_line_end (with_levels p []) k u (gave []) in
    ap (λ (s : State). s.margin) (is []) ∙ rw (e, m) (no_margin (is_blanks_class k))
  where
    no_margin : (b : Bool) → (b && false) ≡ false
    no_margin true = refl
    no_margin false = refl
