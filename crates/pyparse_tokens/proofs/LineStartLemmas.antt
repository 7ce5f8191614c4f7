-- Carries: spot_of, walk_line. On: from where a lister stands to the spot from which its line is walked.
use Rattle.std.proofs.Common.{◌≡◌, ℕ, ◌-◌, ◌<◌, Bool, true, false, ◌&&◌, length, refl, sym, ap, subst, ◌∙◌, arith, Option}
use Rattle.std.specs.Str.{chars}
use Rattle.pysource.specs.declared.places.Place.{Place}
use Rattle.pysource.specs.Parts.{Parts}
use Rattle.pylex_lexeme.specs.declared.lexeme.Class.{Class}
use Rattle.pylex_lexeme.specs.declared.lexeme.Class.TheVariants.{Name, Number, String, Operator, Comment, Blanks, LineEnd, Join}
use Rattle.pylex_listing.specs.declared.kind.Kind.{Kind}
use Rattle.pylex_listing.specs.declared.entries.Step.TheVariants as steps
use Rattle.pylex.specs.declared.spots.Spot.{Spot}
use Rattle.pylex.specs.Cursors.{CursorParts}
use Rattle.pylex.specs.Listers.{Listed, NextStep}
use Rattle.pylex.specs.LineStarts.{begins_line, BeginsLine}
use Rattle.pylex.specs.Spots.{spot_cursor, at_spot}
use Rattle.pylex_listing.specs.EntryKinds.{kind_of, operator_of}
use Rattle.std.proofs.Common.{List}
use Rattle.std.specs.Prelude.{slice_range}
use Rattle.std.specs.Str.{encode_utf8_all}
use Rattle.pyparse_marks.specs.Spans.{Span, added}
use Rattle.pyparse_tokens.specs.declared.line_gather.LineGather.{LineGather}
use Rattle.pyparse_tokens.specs.Inner.LineBeginning.{TakesStart, BeginsAt}
use Rattle.pyparse_tokens.specs.Inner.LineGathering.{ends_open_line, ended_by, TakesEntry, StandsAt}
use Rattle.pyparse_tokens.specs.Inner.Marking.{lexeme_spans, KeepsMarks}
use Rattle.pyparse_tokens.specs.Inner.Passing.{still_open}
use Rattle.pyparse_tokens.specs.Inner.Walking.{IsEntry, Reads}
use Rattle.pyparse_tokens.proofs.LineGatherLemmas.{Read, entry_read, stands_on}
use Rattle.pyparse_tokens.proofs.MarkLemmas.{entry_starts, lexeme_entry, marks_on}
use Rattle.pyparse_tokens.proofs.WalkLemmas.{here_is, stands_here, reads_on}

-- such a token begins a line, and doesn't end one
token_goes : (k : Class) → begins_line k ≡ true → ends_open_line (kind_of k true) ≡ false
token_goes Name h = refl
token_goes Number h = refl
token_goes String h = refl
token_goes (Operator o) h = refl
token_goes Comment h = absurd cc
token_goes Blanks h = absurd cc
token_goes LineEnd h = absurd cc
token_goes Join h = absurd cc

token_opens : (k : Class) (b : Bool) → begins_line k ≡ true → still_open (kind_of k true) b ≡ true
token_opens Name b h = refl
token_opens Number b h = refl
token_opens String b h = refl
token_opens (Operator o) b h = refl
token_opens Comment b h = absurd cc
token_opens Blanks b h = absurd cc
token_opens LineEnd b h = absurd cc
token_opens Join b h = absurd cc

-- where a lister stands at a spot within a line
pub begins_here : (p : Parts) (l : Listed) (s : Spot) (g : LineGather) (was : Option (List Span)) → StandsAt p l g
    → spot_cursor s l.shown.levels ≡ l.shown → s.begun ≡ true → 0 < s.given → g.pass.begun ≡ true
    → 0 < length g.line.terminals.items → BeginsAt p l g was s g was
begins_here p l s g was at shown within some begun kept =
    let here = here_is p l s at.source shown in
    let given : s.given ≡ l.shown.given = ap (λ (c : CursorParts). c.given) shown in
    record {
      at = stands_here p l s g at shown;
      within = within;
      some = some;
      given = omega arith;
      begun = begun;
      kept = kept;
      reads = λ first r. subst (λ (x : Listed). Reads p first x g) (sym here) r;
      marks = λ start keep. subst (λ (x : Listed). KeepsMarks p x g start was) (sym here) keep;
    }

-- After the token that begins a line.
module _ (p : Parts) (l : Listed) (g h : LineGather) (was now : Option (List Span)) (k : Class) (own : List ℕ) (start : Place) (s : Spot)
    (at : StandsAt p l g) (b : BeginsLine l k own start s)
    (takes : TakesStart (kind_of k true) (operator_of k) (chars own) start g h) where
  abbrev there : Listed
  there = at_spot p s l.shown.levels

  step : NextStep l (steps.Entry b.entry) there
  step = subst (λ (q : Parts). NextStep l (steps.Entry b.entry) (at_spot q s l.shown.levels)) at.source b.step

  read : Read p l there b.entry
  read = entry_read p l there g (steps.Entry b.entry) b.entry at step refl

  entry : IsEntry (chars p.text) (kind_of k true) (operator_of k) (chars own) b.entry
  entry = record {
    has = read.exact;
    kind = b.kind;
    exact = b.exact;
    own_text = subst (λ (q : Parts). chars (slice_range (encode_utf8_all (chars q.text)) b.entry.«from» b.entry.to) ≡ chars own) at.source
        b.text;
  }

  gains : TakesEntry (chars p.text) b.entry g h
  gains = takes (chars p.text) b.entry entry b.start

  goes : ended_by b.entry g.pass.begun ≡ false
  goes = ap (λ (j : Kind). ends_open_line j && g.pass.begun) b.kind ∙ ap (λ (c : Bool). c && g.pass.begun) (token_goes k b.token)

  pub begins_by : 0 < length h.line.terminals.items → now ≡ added was (lexeme_spans k (chars own) (s.offset - length own))
      → BeginsAt p l g was s h now
  begins_by kept marked =
      let begin : b.entry.«from» ≡ s.offset - length own = omega (arith, b.size) in
      let spans = lexeme_entry (chars p.text) k true (chars own) b.entry (s.offset - length own) entry.kind entry.own_text begin in
      let count = b.given in
      record {
        at = stands_on p l there b.entry g h at read b.few refl gains;
        within = b.begun;
        some = omega arith;
        given = omega arith;
        begun = gains.pass.begun ∙ ap (λ (j : Kind). still_open j g.pass.begun) b.kind ∙ token_opens k g.pass.begun b.token;
        kept = kept;
        reads = λ first r. reads_on p first l there b.entry g h r read b.few refl gains goes;
        marks = λ begun keep.
            marks_on p l there b.entry g h begun was now at read gains goes
            (entry_starts p l there g (steps.Entry b.entry) b.entry at step refl) keep (marked ∙ ap (added was) spans);
      }
