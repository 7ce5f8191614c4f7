-- Further lines after a text.
--
-- Carries: lengthen, add_lines. On: Reading.
use Rattle.std.proofs.Common.{◌≡◌, ◌⊎◌, inl, inr, ⊎_elim, ℕ, ◌<◌, ◌≤◌, true, List, [], ◌++◌, length, drop, refl, ap, sym, ◌∙◌, subst}
use Rattle.std.proofs.Common.{append-nil, append_assoc, length-append, arith, None, string_bytes}
use Rattle.std.specs.Prelude.{Result, Ok}
use Rattle.std.specs.declared.alloc.AllocError.{AllocError}
use Rattle.std.specs.Str.{IsCharBoundary}
use lib.Seq.{drop-append-le}
use Rattle.std.proofs.lemmas.Str.{IsUtf8-append, IsUtf8-nil, IsCharBoundary-at_seam}
use Rattle.pysource.specs.Bytes.{Seen}
use Rattle.pysource.specs.Limits.{source_limit}
use Rattle.pysource.specs.declared.line_reader.LineRead.{LineRead}
use Rattle.pysource.specs.declared.line_reader.LineRead.TheVariants as met
use Rattle.pysource.specs.Streams.{Buffered, Follows, Gives, ComesOnly, NextLine, Reads, comes, onto, ends_line}
use Rattle.pysource.proofs.Callers.Taken.{ReadsBytes-none, ReadsBytes-on}
use Rattle.pylex.specs.declared.held_lines.HeldLines.{HeldLines}
use Rattle.pylex.specs.Inner.Chunked.{AddsOn, IsLonger, ReadsOn}
use Rattle.pylex.proofs.LineByLine.Reading.{ends_following}

-- what comes after two lines comes after both
gives_both : (a b c : Buffered) (t u l m : List ℕ) → Gives a t l b → Gives b u m c → Gives a (t ++ u) (l ++ m) c
gives_both a b c t u l m p q = λ more broken f.
    let s = q more broken f in
    let r = p (u ++ more) broken s.0 in (
      subst (λ w. Follows a w broken) (sym (append_assoc t u more)) r.0,
      ap (λ w. comes a w broken) (append_assoc t u more) ∙ r.1 ∙ ap (onto l) s.1
          ∙ ap (λ w. record { text = w; fault = (comes c more broken).fault }) (sym (append_assoc l m (comes c more broken).text)),
    )

-- nothing comes any more where nothing was given
only_kept : (b c : Buffered) (u : List ℕ) → Gives b u [] c → ComesOnly b None → ComesOnly c None
only_kept b c u g o = λ more broken f. let r = g more broken f in sym r.1 ∙ o (u ++ more) broken r.0

pub adds_none : (seen : Seen) (b : Buffered) (text : List ℕ) → b.count ≤ source_limit → AddsOn seen seen b b text text
adds_none seen b text within = record {
  taken = [];
  added = [];
  reads = ReadsBytes-none seen b.count b.reach;
  gives = λ more broken f. (f, refl);
  text = sym (append-nil text);
  utf8 = IsUtf8-nil;
  ends = inl refl;
  same = refl;
  sizes = omega arith;
  within = within;
}

module _ (x y z : Seen) (a b c : Buffered) (text_a text_b text_c : List ℕ) (p : AddsOn x y a b text_a text_b) where
  reads_both : (u : List ℕ) → Reads y z b c u → Reads x z a c (p.taken ++ u)
  reads_both u r = ReadsBytes-on x y z a.count b.count c.count a.reach b.reach c.reach p.taken u p.reads r

  -- One line more.
  pub adds_line : (r : NextLine y z b c text_b text_c (Ok met.Text)) → c.count ≤ source_limit → AddsOn x z a c text_a text_c
  adds_line r within = record {
    taken = p.taken ++ r.taken;
    added = p.added ++ r.line;
    reads = reads_both r.taken r.reads;
    gives = gives_both a b c p.taken r.taken p.added r.line p.gives r.gives;
    text = r.chunk ∙ ap (λ t. t ++ r.line) p.text ∙ append_assoc text_a p.added r.line;
    utf8 = IsUtf8-append p.added r.line p.utf8 r.tells.0.utf8;
    ends = inr (⊎_elim (λ l. inl (ends_following p.added r.line l)) (λ o. inr o) r.tells.1);
    same = r.same ∙ p.same;
    sizes = let s = p.sizes in let t = r.sizes in let u = length-append p.added r.line in let v =
        length-append p.taken r.taken in omega arith;
    within = within;
  }

  -- No line more.
  pub adds_no_line : (q : Result LineRead AllocError) (r : NextLine y z b c text_b text_c q) → r.line ≡ [] → c.count ≤ source_limit
      → AddsOn x z a c text_a text_c
  adds_no_line q r none within =
      let gives : Gives b r.taken [] c = subst (λ l. Gives b r.taken l c) none r.gives in
      record {
        taken = p.taken ++ r.taken;
        added = p.added;
        reads = reads_both r.taken r.reads;
        gives = subst (λ l. Gives a (p.taken ++ r.taken) l c) (append-nil p.added)
            (gives_both a b c p.taken r.taken p.added [] p.gives gives);
        text = r.chunk ∙ ap (λ l. text_b ++ l) none ∙ append-nil text_b ∙ p.text;
        utf8 = p.utf8;
        ends = ⊎_elim (λ e. inl e) (λ o. inr (⊎_elim (λ l. inl l) (λ e. inr (only_kept b c r.taken gives e)) o)) p.ends;
        same = r.same ∙ p.same;
        sizes = let s = p.sizes in let t = r.sizes in let u : length r.line ≡ 0 = ap length none in let v =
            length-append p.taken r.taken in omega arith;
        within = within;
      }

-- The lines after one that was read are part of what was read on.
pub reads_more : (x y z : Seen) (old mid new : HeldLines) (at : ℕ) → ReadsOn x y old mid at (Ok met.Text)
    → AddsOn y z mid.lines new.lines (string_bytes mid.text) (string_bytes new.text)
    → string_bytes new.spare ≡ string_bytes mid.spare → new.base ≡ mid.base → new.at ≡ mid.at → ReadsOn x z old new at (Ok met.Text)
reads_more x y z old mid new at r p spare base place =
    let longer = length-append (string_bytes mid.text) p.added in
    let fits = r.chunk.at in
    let size = ap length p.text in
    record {
      taken = r.taken ++ p.taken;
      line = r.line ++ p.added;
      reads = ReadsBytes-on x y z old.lines.count mid.lines.count new.lines.count old.lines.reach mid.lines.reach new.lines.reach r.taken
          p.taken r.reads p.reads;
      gives = gives_both old.lines mid.lines new.lines r.taken p.taken r.line p.added r.gives p.gives;
      adds = (some, IsUtf8-append r.line p.added r.adds.1 p.utf8, ends);
      same = p.same ∙ r.same;
      sizes = let s = r.sizes in let t = p.sizes in let u = length-append r.line p.added in let v =
          length-append r.taken p.taken in omega arith;
      within = p.within;
      chunk = record { spare = spare ∙ r.chunk.spare; at = omega arith };
      holding = record {
        gone = r.holding.gone;
        whole = sym (append_assoc (string_bytes old.text) r.line p.added) ∙ ap (λ t. t ++ p.added) r.holding.whole
            ∙ append_assoc r.holding.gone (string_bytes mid.text) p.added ∙ ap (λ t. r.holding.gone ++ t) (sym p.text);
        base = base ∙ r.holding.base;
        looked = r.holding.looked;
        following = r.holding.following;
        left = ap (λ a. drop a (string_bytes new.text)) place ∙ ap (drop mid.at) p.text
            ∙ drop-append-le mid.at (string_bytes mid.text) p.added fits ∙ ap (λ t. t ++ p.added) r.holding.left
            ∙ append_assoc (drop at (string_bytes old.text)) r.line p.added;
      };
    }
  where
    some : 0 < length (r.line ++ p.added)
    some = let a = r.adds.0 in let u = length-append r.line p.added in omega arith

    ends : (ends_line (r.line ++ p.added) ≡ true) ⊎ ComesOnly new.lines None
    ends = ⊎_elim (λ e. by_none e r.adds.2) (λ o. ⊎_elim (λ l. inl (ends_following r.line p.added l)) (λ c. inr c) o) p.ends
      where
        by_none : p.added ≡ [] → (ends_line r.line ≡ true) ⊎ ComesOnly mid.lines None
            → (ends_line (r.line ++ p.added) ≡ true) ⊎ ComesOnly new.lines None
        by_none e (inl l) = inl (ap ends_line (ap (λ t. r.line ++ t) e ∙ append-nil r.line) ∙ l)
        by_none e (inr c) = inr (only_kept mid.lines new.lines p.taken (subst (λ l. Gives mid.lines p.taken l new.lines) e p.gives) c)

-- a place in a text is one in a longer one
pub boundary_longer : (old new : List ℕ) → IsLonger old new → IsCharBoundary new (length old)
boundary_longer old new l = IsCharBoundary-at_seam new old l.0 l.2 l.1
