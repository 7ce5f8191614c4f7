-- What callers cite of the longest number. Cited by pyunparse_text, pytoken, pyunparse_text.
pub use Rattle.pylex_lexeme.proofs.Fronts.Joined.{len_digit}
pub use Rattle.pylex_lexeme.proofs.Fronts.Taking.{exponent_none, fraction_is, j_none, point_none, radix_none, radix_other, tail_is}
pub use Rattle.pylex_lexeme.proofs.Numbers.NumberBest.{longest_is, longest_number}
pub use Rattle.pylex_lexeme.proofs.Numbers.NumberSets.{digit_bounds, either, either_not, not_both, one_digit, point_is, zero_digit}
pub use Rattle.pylex_lexeme.proofs.Numbers.Parts.{decimal_part, part_all}
