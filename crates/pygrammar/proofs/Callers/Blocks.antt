-- On: lines read one by one: what is known of the whole from the lines so far. Declares nothing.
pub use Rattle.pygrammar.proofs.Block.LineMore.{formed_on, unread_on, unread_more, step_on, fault_found, end_fault_found, block_found}
pub use Rattle.pygrammar.proofs.Block.Depths.{count_on, innermost_on, depths}
pub use Rattle.pygrammar.proofs.Block.FirstDeep.{deep_is, not_deep, deep_more, deep_last}
pub use Rattle.pygrammar.proofs.Block.FirstDeep.{deep_parts}
pub use Rattle.pygrammar.proofs.Block.Deep.{formed_flat, formed_proper, deep_is_high}
pub use Rattle.pygrammar.proofs.Block.Starts.{starts}
pub use Rattle.pygrammar.proofs.Block.Steps.{is_less, not_less, settle_here}
pub use Rattle.pygrammar.proofs.Block.Leads.{choice-append}
