use Rattle.pytoken.proofs.Callers.Said.{values_are_lawful, tokens_are_sound, extents_differ_in_numbers}
use Rattle.pylex_listing.specs.Listing.{in_characters}
use Rattle.pyparse_tokens.proofs.ListingLemmas.{starts_at}
use Rattle.pyparse_tokens.proofs.logical_lines.LogicalLines.new.Goals as goal

pub new-requires-2 : goal.new-requires-2
new-requires-2 c = starts_at (in_characters c.args.source.now) c.args.source.now.text c.new.ensures.lies

pub returns-in_err-new-clause-lawful : goal.returns-in_err-new-clause-lawful
returns-in_err-new-clause-lawful c = values_are_lawful

pub returns-in_err-new-clause-typed : goal.returns-in_err-new-clause-typed
returns-in_err-new-clause-typed c = tokens_are_sound (in_characters c.args.source.now) c.new.ensures.lawful

pub returns-in_err-new-clause-extents : goal.returns-in_err-new-clause-extents
returns-in_err-new-clause-extents c = extents_differ_in_numbers (in_characters c.args.source.now)

pub returns-clause-lawful : goal.returns-clause-lawful
returns-clause-lawful c = values_are_lawful

pub returns-clause-typed : goal.returns-clause-typed
returns-clause-typed c = tokens_are_sound (in_characters c.args.source.now) c.new.ensures.lawful

pub returns-clause-extents : goal.returns-clause-extents
returns-clause-extents c = extents_differ_in_numbers (in_characters c.args.source.now)
