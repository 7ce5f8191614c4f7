-- What callers cite of the longest string, its prefix and its quotes. Cited by pyunparse_text.
pub use Rattle.pylex_lexeme.proofs.Strings.Prefixes.{two_prefix}
pub use Rattle.pylex_lexeme.proofs.Strings.StringBest.{Which, one, two}
pub use Rattle.pylex_lexeme.proofs.Strings.StringLongest.{longest_reads, string_opens, string_reads}
pub use Rattle.pylex_lexeme.proofs.Strings.Units.{IsQuote, nil_units, quote_is, unit_one, unit_slash, units_plain}
