-- Carries: tokens_of. On: what one pass gathers, with one entry more and at the listing's end.
use Rattle.std.proofs.Common.{◌≡◌, ℕ, Bool, List, [], ◌∷◌, ◌++◌, length, map, sym, ap, ap₂, ◌∙◌, arith, take_all}
use Rattle.std.specs.Prelude.{slice_range}
use Rattle.std.specs.Str.{chars, IsUtf8}
use Rattle.std.proofs.lemmas.Str.{chars-nil, encodes-chars}
use Rattle.pysource.specs.declared.places.Place.{Place}
use Rattle.pysource.specs.Places.{place_after, place_at}
use Rattle.pylex_listing.specs.declared.kind.Kind.TheVariants as kinds
use Rattle.pylex_listing.specs.declared.entries.Entry.{Entry}
use Rattle.pylex_listing.specs.Listing.{Source, listing}
use Rattle.pylex_listing.specs.Steps.{entries_of}
use Rattle.pytoken.specs.Tokens.{Token, text_of, supplied, tokens_of_entry, tokens_from, tokens}
use Rattle.pytoken.proofs.Callers.OnePass.{tokens_on}
use Rattle.pyparse_tokens.specs.declared.gather.Gather.{Gather}
use Rattle.pyparse_tokens.specs.Answers.{token_of}
use Rattle.pyparse_tokens.specs.Inner.Gathering.{Gathers, Gathered}
use Rattle.pyparse_tokens.proofs.PassLemmas.{passes}

-- one entry more
pub gathers : (text : List ℕ) (es : List Entry) (e : Entry) (old new : Gather) → Gathered text es old → Gathers text e old new →
    Gathered text (es ++ e ∷ []) new
gathers text es e old new had gains =
    record {
      tokens =
          gains.tokens
          ∙ ap₂ (λ (ts : List Token) (b : Bool). ts ++ tokens_of_entry text b e) had.tokens had.pass.begun
          ∙ sym (tokens_on text [] es e);
      pass = passes text es e old.pass new.pass had.pass gains.pass;
    }

-- after all entries
pub all_tokens : (s : Source) (es : List Entry) (g : Gather) → Gathered s.text es g → es ≡ entries_of (listing s) →
    map token_of g.tokens.items ≡ tokens s
unfolding tokens
all_tokens s es g had all = had.tokens ∙ ap (tokens_from s.text []) all

abbrev pub newline : Place → List ℕ → Token
newline p t = record { kind = kinds.Newline; start = p; text = t }

-- the NEWLINE at a text's end
pub supplied_at : (bs : List ℕ) (p : Place) → p ≡ place_at bs (length bs) → newline p (chars []) ≡ supplied (chars bs)
supplied_at bs p is =
    ap₂ newline (is ∙ ap (λ (t : List ℕ). place_after (chars t)) (take_all (length bs) bs (omega arith))) chars-nil

-- the text of an entry
pub text_at : (bs : List ℕ) (e : Entry) → IsUtf8 bs → chars (slice_range bs e.«from» e.to) ≡ text_of (chars bs) e
text_at bs e utf8 = ap (λ (t : List ℕ). chars (slice_range t e.«from» e.to)) (sym (encodes-chars bs utf8))
