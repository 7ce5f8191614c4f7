-- What callers cite of terminals that can be said, and of what is written for what the grammar gives to them. Cited by pytree_fits.
pub use Rattle.pyunparse_text.proofs.FieldTexts.Conditions.{is_own}
pub use Rattle.pyunparse_text.proofs.FieldTexts.FieldLiterals.{is_field_byte, is_field_character}
pub use Rattle.pyunparse_text.proofs.FieldTexts.TextCharacters.{can_stand}
pub use Rattle.pyunparse_text.proofs.Modules.LinesRead.{IsSaid, modules_said}
pub use Rattle.pyunparse_text.proofs.Patterns.Readable.{patterns_said}
pub use Rattle.pyunparse_text.proofs.PieceLaws.Fair.{HasDouble, HasWhole}
pub use Rattle.pyunparse_text.proofs.PieceLaws.Law.{expressions_said}
pub use Rattle.pyunparse_text.proofs.PieceLaws.SaidLists.{Said, also, none, points_stand}
pub use Rattle.pyunparse_text.proofs.PieceLaws.Sayings.{Sayable}
pub use Rattle.pyunparse_text.proofs.PieceLaws.OfTokens.{literal_points, passing}
pub use Rattle.pyunparse_text.proofs.PieceLaws.SinglesSaid.{scalar_point, scalars_points}
pub use Rattle.pyunparse_text.proofs.PieceLaws.SoftWords.{case_is_proper, match_is_proper, type_is_proper, wildcard_is_proper}
pub use Rattle.pyunparse_text.proofs.PieceLaws.StringsSaid.{brackets_are, outer_points}
pub use Rattle.pyunparse_text.proofs.Modules.Places.{under}
pub use Rattle.pyunparse_text.proofs.Patterns.Entries.{none_alone}
