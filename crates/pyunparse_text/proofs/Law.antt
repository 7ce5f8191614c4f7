-- The law of written lines.
--
-- What other crates cite: `written_is_read`, with the lemmas of the files named Fronts, Literals,
-- Decimals, Scalars on single tokens, and of Joins, Forms and Writing on lists of them.
--
-- Carries: what pyunparse_text cites. On: Decoding, SourceLines, Clear, Relisting.
use Rattle.std.proofs.Common.{refl, None}
use Rattle.std.specs.List.{list_all}
use Rattle.std.specs.Str.{encode_utf8_all}
use Rattle.std.proofs.lemmas.Bool.{and_parts}
use Rattle.pysource.specs.Cookies.{plain}
use Rattle.pysource.specs.Parts.{Parts}
use Rattle.pylex_listing.specs.Listing.{in_characters}
use Rattle.pyunparse_text.specs.Spacing.{lines_text}
use Rattle.pyunparse_text.specs.Tokens.{tokens_after, is_written, rise_by_one, IsListedAs}
use Rattle.pyunparse_text.specs.SpacingLaws.{WrittenIsRead, WrittenIsClear}
use Rattle.pyunparse_text.proofs.Sources.Clear.{clear}
use Rattle.pyunparse_text.proofs.Sources.Decoding.{lines_source, lines_chars}
use Rattle.pyunparse_text.proofs.Listings.Relisting.{lines_listed}
use Rattle.pyunparse_text.proofs.Sources.SourceLines.{tokens_are, lines_are}

pub written_is_read : WrittenIsRead
written_is_read ls w =
    let a = and_parts (list_all is_written ls) (rise_by_one 0 ls) w in
    let p : Parts = record { encoding = plain; text = encode_utf8_all (lines_text ls); fault = None } in
    let l : IsListedAs (in_characters p) (tokens_after 0 ls) = lines_listed (in_characters p) ls (lines_chars ls a.0) refl w in
    record {
      parts = p;
      source = lines_source ls a.0;
      encoding = refl;
      text = refl;
      fault = refl;
      listed = l;
      tokens = tokens_are (in_characters p) ls w l;
      lines = lines_are (in_characters p) ls w l;
    }

pub written_is_clear : WrittenIsClear
written_is_clear extent ls w h r = clear extent (in_characters r.parts) ls w h r.listed
