-- What callers cite of the tokens in the fields of an f-string. Cited by pytree_fits.
pub use Rattle.pyunparse_text.proofs.StringTerminals.Bodies.{body_kept, joined, kept_pass, none_all, points_kept, single_kept}
pub use Rattle.pyunparse_text.proofs.StringTerminals.Bodies.{unbraced}
pub use Rattle.pyunparse_text.proofs.StringTerminals.Bodies.{weaker}
pub use Rattle.pyunparse_text.proofs.StringTerminals.Brackets.{operator_terminal}
pub use Rattle.pyunparse_text.proofs.StringTerminals.Classes.{OfClass, no_string, of_class}
pub use Rattle.pyunparse_text.proofs.StringTerminals.Elements.{Laid, LaidIf, a_field, a_spec, a_text, all_laid, at_top, kept_text, nothing}
pub use Rattle.pyunparse_text.proofs.StringTerminals.Faultless.{field_faultless, no_field_wrong, no_nul, no_nul_in}
pub use Rattle.pyunparse_text.proofs.StringTerminals.FieldCharacters.{Literally, calm_body, flat_body, flat_calm, flat_parts, flat_scalar}
pub use Rattle.pyunparse_text.proofs.StringTerminals.FieldCharacters.{flat_unquoted, is_calm, is_flat, is_open, literally, no_nuls}
pub use Rattle.pyunparse_text.proofs.StringTerminals.FieldCharacters.{open_body}
pub use Rattle.pyunparse_text.proofs.StringTerminals.FieldLexemes.{AllTokens, IsToken, IsWholeField, a_gap, a_token, no_lexeme, whole_field}
pub use Rattle.pyunparse_text.proofs.StringTerminals.Scanned.{expression_calm, is_no_backslash}
pub use Rattle.pyunparse_text.proofs.Sources.Decoding.{both_in}
pub use Rattle.pytoken.proofs.Callers.Bodies.{filter_all as kept_all}
pub use Rattle.pygrammar.proofs.Callers.OpenStrings.{none_some as never}
