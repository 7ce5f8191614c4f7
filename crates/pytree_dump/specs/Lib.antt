pub mod Inner
pub use Rattle.pytree_dump_text.specs.Layout
pub use Rattle.pytree_dump_text.specs.Shows
pub use Rattle.pytree_dump_text.specs.declared.styles.Style
