-- What reading on does to the lines that a lister holds.
--
-- Carries: add_line, replace, add_lines, line_lister::find.
use Rattle.std.proofs.Common.{◌≡◌, ℕ, ◌≤◌, ◌<◌, List, [], ◌∷◌, ◌++◌, length, drop, refl, ap, sym, ◌∙◌, append-nil, arith}
use Rattle.std.specs.Prelude.{Result, Ok, Err}
use Rattle.std.specs.declared.alloc.AllocError.{AllocError}
use lib.Seq.{drop-append-le}
use Rattle.pysource.specs.Bytes.{Seen}
use Rattle.pysource.specs.Lines.{lines_of}
use Rattle.pysource.specs.Streams.{Buffered, Tells, NextLine}
use Rattle.pysource.specs.Limits.{source_limit}
use Rattle.pysource.specs.declared.line_reader.LineRead.{LineRead}
use Rattle.pysource.specs.declared.line_reader.LineRead.TheVariants as met
use Rattle.pylex.specs.declared.held_lines.HeldLines.{HeldLines}
use Rattle.pylex.specs.Inner.Chunked.{Adds, Holding, Stays, IsHeldLines, ReadsOn}

no_lines : lines_of [] ≡ []
unfolding lines_of
no_lines = refl

-- a line has a byte
pub line_some : (line : List ℕ) → lines_of line ≡ line ∷ [] → 0 < length line
line_some [] e = absurd (let n : [] ≡ [] ∷ [] = sym no_lines ∙ e in cc)
line_some (b ∷ bs) e = omega arith

pub adds_of : (r : Result LineRead AllocError) (line : List ℕ) (new : Buffered) → Tells r line new → Adds r line new
adds_of (Ok met.Text) line new t = (line_some line t.0.one, t.0.utf8, t.1)
adds_of (Ok met.End) line new t = t
adds_of (Ok (met.Fault f)) line new t = (t.0, t.2)
adds_of (Ok met.Read) line new t = (t.0, t.2)
adds_of (Err e) line new t = t

pub no_line : (r : LineRead) (line : List ℕ) (new : Buffered) → (r ≡ met.Text → ⊥) → Adds (Ok r) line new → line ≡ []
no_line met.Text line new h t = absurd (h refl)
no_line met.End line new h t = t.0
no_line (met.Fault f) line new h t = t.0
no_line met.Read line new h t = t.0

pub holding_other : (old new : HeldLines) (from : ℕ) (line : List ℕ) (r : LineRead) → (r ≡ met.Text → ⊥) → Stays old new
    → Holding old new from line (Ok r)
holding_other old new from line met.Text h s = absurd (h refl)
holding_other old new from line met.End h s = s
holding_other old new from line (met.Fault f) h s = s
holding_other old new from line met.Read h s = s

-- nothing was added
pub same_text : (old new line : List ℕ) → new ≡ old ++ line → line ≡ [] → new ≡ old
same_text old new line e none = e ∙ ap (λ l. old ++ l) none ∙ append-nil old

-- a text after which a line was added
pub left_longer : (at : ℕ) (old new line : List ℕ) → at ≤ length old → new ≡ old ++ line → drop at new ≡ drop at old ++ line
left_longer at old new line h e = ap (drop at) e ∙ drop-append-le at old line h

-- a call for a line, with what it did to the lines held
pub reads_on : (seen_old seen_new : Seen) (old new : HeldLines) (chunk_old chunk_new : List ℕ) (from : ℕ) (r : Result LineRead AllocError)
    → (m : NextLine seen_old seen_new old.lines new.lines chunk_old chunk_new r) → new.lines.count ≤ source_limit → IsHeldLines new
    → Holding old new from m.line r → ReadsOn seen_old seen_new old new from r
reads_on seen_old seen_new old new chunk_old chunk_new from r m within chunk holding = record {
  taken = m.taken;
  line = m.line;
  reads = m.reads;
  gives = m.gives;
  adds = adds_of r m.line new.lines m.tells;
  same = m.same;
  sizes = m.sizes;
  within = within;
  chunk = chunk;
  holding = holding;
}

-- nothing is after all of a text
pub drop_all : (xs : List ℕ) → drop (length xs) xs ≡ []
drop_all [] = refl
drop_all (x ∷ xs) = drop_all xs

pub stays_other : (old new : HeldLines) (from : ℕ) (line : List ℕ) (r : LineRead) → (r ≡ met.Text → ⊥)
    → Holding old new from line (Ok r) → Stays old new
stays_other old new from line met.Text h s = absurd (h refl)
stays_other old new from line met.End h s = s
stays_other old new from line (met.Fault f) h s = s
stays_other old new from line met.Read h s = s
