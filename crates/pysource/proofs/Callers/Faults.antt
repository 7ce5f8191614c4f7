-- What callers cite of a source and its first faulty line. Cited by pyast_command, pylex, pyunparse_text.
pub use Rattle.pysource.proofs.FaultyLines.BadLemmas.{utf8_before}
pub use Rattle.pysource.proofs.FaultyLines.CutLemmas.{NoLf, lines_at}
pub use Rattle.pysource.proofs.FaultyLines.GoodLemmas.{comes_len, comes_utf8, good_utf8}
pub use Rattle.pysource.proofs.FaultyLines.LinesLemmas.{first_given_none, valid_all}
pub use Rattle.pysource.proofs.FaultyLines.ReturnsLemmas.{lone_none_byte}
