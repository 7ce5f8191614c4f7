-- Where a lister has to read a line, and where it has not.
--
-- Carries: line_lister::find, line_lister::pass, pass_on, LineLister::next, next_after. On:
-- Streaming, LexedOn.
use Rattle.std.proofs.Common.{◌≡◌, ◌⊎◌, inl, inr, ⊎_elim, ℕ, zero, suc, ◌+◌, ◌<◌, Bool, true, false, ◌&&◌, ◌==◌, ◌||◌, List, [], ◌∷◌, ◌++◌}
use Rattle.std.proofs.Common.{length, take, drop, refl, ap, sym, ◌∙◌, subst, arith, Option, Some, None, string_bytes}
use Rattle.std.specs.Prelude.{slice_get, Ok, Err}
use Rattle.std.specs.declared.alloc.AllocError.{AllocError}
use Rattle.std.specs.Str.{chars, IsUtf8}
use Rattle.std.proofs.lemmas.Bool.{eqb-true}
use Rattle.std.proofs.lemmas.Str.{chars-nil}
use Rattle.pysource.specs.Bytes.{Seen}
use Rattle.pysource.specs.Parts.{Parts}
use Rattle.pysource.specs.Streams.{Buffered, Gives, MayCome}
use Rattle.pysource.proofs.Callers.Coming.{only_given}
use Rattle.pylex_listing.specs.declared.entries.Entry.{Entry}
use Rattle.pylex_listing.specs.declared.entries.ListingFault.{ListingFault}
use Rattle.pylex_listing.specs.declared.entries.Step.{Step}
use Rattle.pylex_listing.specs.declared.entries.Step.TheVariants as steps
use Rattle.pylex.specs.declared.held_lines.HeldLines.{HeldLines}
use Rattle.pylex.specs.declared.line_lister.Found.{Found}
use Rattle.pylex.specs.declared.line_state.LineState.{LineState}
use Rattle.pylex.specs.declared.machine.Machine.{Machine}
use Rattle.pylex.specs.declared.peeked.Peeked.TheVariants as peeked
use Rattle.pylex_lexeme.specs.Cuts.{begins_significant}
use Rattle.pylex_lexeme.specs.Lexemes.{Lexeme, lexeme_at, lexeme_len, left_by_cut, is_open_string}
use Rattle.pylex_listing.specs.Machine.{State, after, entry_by}
use Rattle.pylex.specs.LineState.{Walks, stays, silent, level, dedent, Comes, FaultAhead, GivesFault, mismatch, faulty, StopAhead, is_level}
use Rattle.pylex.specs.LineState.{measured, with_levels}
use Rattle.pylex_listing.specs.Listing.{in_characters, listing, rest}
use Rattle.pylex_listing.specs.Steps.{entries_in, first_step, IsIndent, IsNoEntry}
use Rattle.pylex.specs.Streamed.{Streamed, AwaitsLine, Continues, Next, StreamsIn}
use Rattle.pylex.specs.Inner.LineSteps.{Looks, lacks, streamed}
use Rattle.pylex.proofs.LineByLine.LexedOn.{left_lexed, lexed_comes, not_both, stuck_walks}
use Rattle.pylex.proofs.LineByLine.Streaming.{not_lacking}
use Rattle.pylex.proofs.MachineLaws.Steps.{left_stop}

-- a state gives a fault before these characters: its line has the width of no level, or a lexeme gives something
abbrev Faults : State → List ℕ → Type 0
Faults u es =
    ((u.margin ≡ true) × (begins_significant es ≡ true) × (is_level u.width u.levels ≡ false))
    ⊎ ((x : Lexeme) × ((u.margin && begins_significant es) ≡ false) × (lexeme_at es ≡ Some x) × (entry_by u x ≡ [] → ⊥))

faults_of : (levels : List ℕ) (q : LineState) (ds : List ℕ) (f : ListingFault) → GivesFault levels q ds f
    → Faults (with_levels q (0 ∷ levels)) ds
faults_of levels q ds f (mismatch m b a l e) = inl (m, b, l)
faults_of levels q ds f (faulty x d at e) = inr (x, d, at, λ z. let k : [] ≡ steps.Fault f ∷ [] = sym z ∙ e in cc)

-- Where one way leads to a stop, none leads to a fault.
stop_no_fault : (t u : State) (ds es : List ℕ) (n m : ℕ) (s : State) (cs : List ℕ) → n ≡ 0 → m ≡ 0 → lexeme_at ds ≡ None
    → (t.margin && begins_significant ds) ≡ false → Faults u es → Walks t ds n s cs → Walks u es m s cs → ⊥
stop_no_fault t u ds es n m s cs a b none settled faults stays w = by (stuck_walks u es m s cs none settled w) faults
  where
    by : (es ≡ cs) × (u.margin ≡ s.margin) → Faults u es → ⊥
    by same (inl f) = not_both s.margin (begins_significant cs) settled (sym same.1 ∙ f.0) (ap begins_significant (sym same.0) ∙ f.1)
    by same (inr f) = let e : None ≡ Some f.0 = sym none ∙ ap lexeme_at (sym same.0) ∙ f.2 in cc
stop_no_fault t u ds es n m s cs a b none settled (inl f) (silent k r bs x d at e w) stays =
    not_both s.margin (begins_significant cs) d f.0 f.1
stop_no_fault t u ds es n m s cs a b none settled (inr f) (silent k r bs x d at e w) stays =
    let both : Some x ≡ Some f.0 = sym at ∙ f.2 in
    let same : x ≡ f.0 = cc in
    f.3 (ap (entry_by s) (sym same) ∙ e)
stop_no_fault t u ds es n m s cs a b none settled (inl f) (level k r bs margin some l c w) stays = let e : true ≡ false = sym l ∙ f.2 in cc
stop_no_fault t u ds es n m s cs a b none settled (inr f) (level k r bs margin some l c w) stays =
    not_both s.margin (begins_significant cs) f.1 margin some
stop_no_fault t u ds es n m s cs a b none settled faults (silent k r bs x d at e w) (silent j q ts y c to g v) =
    let both : Some y ≡ Some x = sym to ∙ at in
    let same : y ≡ x = cc in
    stop_no_fault t u ds es n m (after s x) (drop (lexeme_len cs) cs) a b none settled faults w
    (subst (λ z. Walks u es m (after s z) (drop (lexeme_len cs) cs)) same v)
stop_no_fault t u ds es n m s cs a b none settled faults (silent k r bs x d at e w) (level j q ts margin some l c v) =
    not_both s.margin (begins_significant cs) d margin some
stop_no_fault t u ds es n m s cs a b none settled faults (level k r bs margin some l c w) (silent j q ts y d to g v) =
    not_both s.margin (begins_significant cs) d margin some
stop_no_fault t u ds es n m s cs a b none settled faults (level k r bs margin some l c w) (level j q ts margin_too some_too l_too c_too v) =
    stop_no_fault t u ds es n m (measured s) cs a b none settled faults w v
stop_no_fault t u ds es n m s cs a b none settled faults (dedent k r bs ls v margin some e less l w) other = absurd (omega (arith, a))
stop_no_fault t u ds es n m s cs a b none settled faults (silent k r bs x d at e w) (dedent j q ts ls v margin some is less l o) =
    absurd (omega (arith, b))
stop_no_fault t u ds es n m s cs a b none settled faults (level k r bs margin some l c w)
    (dedent j q ts ls v margin_too some_too is less l_too o) = absurd (omega (arith, b))

-- Where a line has to be read no fault is met,
pub awaits_no_fault : (v : Streamed) (f : ListingFault) → AwaitsLine v → FaultAhead (take v.nested v.levels) v.now (chars v.left) f → ⊥
awaits_no_fault v f a h =
    stop_no_fault (with_levels a.there (0 ∷ take v.nested v.levels)) (with_levels h.there (0 ∷ take v.nested v.levels)) a.following h.before 0
    0 (with_levels v.now (0 ∷ take v.nested v.levels)) (chars v.left) refl refl a.stop.none a.stop.settled
    (faults_of (take v.nested v.levels) h.there h.before f h.cause) a.passes.walks h.comes.walks

-- nor a stop at which nothing is lacking.
pub awaits_no_stop : (v : Streamed) (q : LineState) (rest : List ℕ) → AwaitsLine v → Comes (take v.nested v.levels) v.now (chars v.left) q
    (chars rest) → StopAhead q (chars rest) → IsUtf8 rest → lacks rest ≡ false → ⊥
awaits_no_stop v q rest a passes stop u whole =
    let here : left_by_cut (chars v.left) ≡ a.following =
    left_lexed a.following (chars v.left) (lexed_comes (take v.nested v.levels) v.now (chars v.left) a.there a.following a.passes)
    ∙ left_stop a.following a.stop.none in
    let there : left_by_cut (chars v.left) ≡ chars rest =
    left_lexed (chars rest) (chars v.left) (lexed_comes (take v.nested v.levels) v.now (chars v.left) q (chars rest) passes)
    ∙ left_stop (chars rest) stop.none in
    let same : a.following ≡ chars rest = sym here ∙ there in
    let more = not_lacking rest u whole in
    ⊎_elim (λ e. more.0 (sym same ∙ e)) (λ (o : is_open_string a.following ≡ true). let f : true ≡ false = sym o
    ∙ ap is_open_string same ∙ more.1 in cc) a.lacks

-- The entry given last plays no part in it.
pub awaits_last : (p : Machine) (c : HeldLines) (last : Option Entry) → AwaitsLine (streamed p c None) → AwaitsLine (streamed p c last)
awaits_last p c last a = record {
  begun = a.begun;
  there = a.there;
  following = a.following;
  passes = a.passes;
  stop = a.stop;
  lacks =
      a.lacks;
  line = a.line;
}

-- A lister that met the end of the lines it holds, where more may come, has to read one.
pub awaits_found : (p : Machine) (c : HeldLines) (f : Found) → Looks p c f → f.peeked ≡ peeked.Stop
    → lacks (drop f.at (string_bytes c.text)) ≡ true → 0 < p.given → MayCome c.lines → AwaitsLine (streamed p c None)
awaits_found p c f looks is lack given line =
    let g = rw is at looks.finds in
    record {
      begun = given;
      there = f.now;
      following = chars (drop f.at (string_bytes c.text));
      passes = g.0;
      stop = g.1;
      lacks = by (drop f.at (string_bytes c.text)) lack;
      line = line;
    }
  where
    nothing : (rest : List ℕ) → length rest ≡ 0 → chars rest ≡ []
    nothing [] e = chars-nil
    nothing (x ∷ rest) e = absurd (omega (arith, e))

    either : (a b : Bool) → (a || b) ≡ true → (a ≡ true) ⊎ (b ≡ true)
    either true b h = inl refl
    either false b h = inr h

    by : (rest : List ℕ) → lacks rest ≡ true → (chars rest ≡ []) ⊎ (is_open_string (chars rest) ≡ true)
    by rest h = ⊎_elim (λ e. inl (nothing rest (eqb-true (length rest) 0 e))) (λ o. inr o)
        (either (length rest == 0) (is_open_string (chars rest)) h)

-- Where memory was refused a line may come still, and might have come before.
pub may_before : (b c : Buffered) (taken line : List ℕ) → Gives b taken line c → line ≡ [] → MayCome c → MayCome b
may_before b c taken line gives none may fault only =
    may fault (only_given b c taken fault (subst (λ l. Gives b taken l c) none gives) only)

-- What was so when the search began is so, while no line was read.
pub awaits_on : (p q : Machine) (c d : HeldLines) → ((d ≡ c) × (q ≡ p)) ⊎ AwaitsLine (streamed p c None) → AwaitsLine (streamed q d None)
    → AwaitsLine (streamed p c None)
awaits_on p q c d (inl same) a = subst (λ m. AwaitsLine (streamed m c None)) same.1 (subst (λ h. AwaitsLine (streamed q h None)) same.0 a)
awaits_on p q c d (inr before) a = before

-- the step at a place is the first of those from there on
first_at : (ss : List Step) (k : ℕ) (s : Step) → slice_get ss k ≡ Some s → first_step (drop k ss) ≡ s
first_at [] k s e = absurd cc
first_at (r ∷ ss) zero s e = let same : r ≡ s = cc in same
first_at (r ∷ ss) (suc k) s e = first_at ss k s e

no_indent : (s : Step) → IsNoEntry s → IsIndent s → ⊥
no_indent (steps.Entry e) none i = none
no_indent steps.End none i = i
no_indent (steps.Fault f) none i = i

-- After the end or a fault memory is never refused.
pub never_refused : (seen_0 seen_1 seen_2 : Seen) (u v w : Streamed) (step : Step) (e : AllocError) → IsNoEntry step
    → (t : Next seen_0 seen_1 u v (Ok step)) → (n : Next seen_1 seen_2 v w (Err e)) → (p : Parts) (k : ℕ) (more : List ℕ) (broken : Bool)
    → Continues w.lines more broken → StreamsIn u p k (t.taken ++ (n.taken ++ more)) broken → ⊥
never_refused seen_0 seen_1 seen_2 u v w step e none t n p k more broken g x =
    ⊎_elim (t.ended none) (λ i. no_indent step none (subst IsIndent here (i p (k + entries_in step) more broken g moved.1))) n.refused
  where
    moved : (slice_get (listing (in_characters p)) k ≡ Some step) × StreamsIn v p (k + entries_in step) (n.taken ++ more) broken
    moved = t.steps p k (n.taken ++ more) broken (n.follows more broken g) x

    same : (s : Step) → IsNoEntry s → k + entries_in s ≡ k
    same (steps.Entry d) h = absurd h
    same steps.End h = omega arith
    same (steps.Fault f) h = omega arith

    here : first_step (rest (in_characters p) (k + entries_in step)) ≡ step
    here = ap (λ j. first_step (rest (in_characters p) j)) (same step none) ∙ first_at (listing (in_characters p)) k step moved.0
