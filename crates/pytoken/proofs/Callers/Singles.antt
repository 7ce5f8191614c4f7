-- On: tokens that are no f-strings, each one terminal; f-strings, several, and none in the plain language.
--
-- Carries: what grammars need to go on from tokens to terminals.
pub use Rattle.pytoken.proofs.SingleLemmas.{of_single, one_terminal, of_formatted, formatted_terminals, plain_formatted}
