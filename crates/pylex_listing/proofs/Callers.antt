-- What other crates cite of pylex_listing: the lexemes of a text, and the run of the machine that lists them.
pub use Rattle.pylex_listing.proofs.Joined.{drop_of, scalars_of}
pub use Rattle.pylex_listing.proofs.Full.{Full, cut_full, lexeme_front, lexeme_full}
pub use Rattle.pylex_listing.proofs.Lexed.{cut_lexed, is_cut, lexeme_class, lexeme_parts, lexeme_some, longest_wins}
pub use Rattle.pylex_listing.proofs.Significant.{all_cut, blank_parts, blanks_text, none_at_all, significant_at, significant_is}
pub use Rattle.pylex_listing.proofs.Stack.{push}
pub use Rattle.pylex_listing.proofs.Law.{IsBalanced, balanced_push, bytes_in-append, count_cons, front-append, logical_push, margin_push}
pub use Rattle.pylex_listing.proofs.Law.{place_after-append, point_after, state_push}
unfoldable pub use Rattle.pylex_listing.proofs.Law.{state_of}
pub use Rattle.pylex_listing.proofs.Leads.{front_in, last_front, last_push}
pub use Rattle.pylex_listing.proofs.Run.{line_split, listing_is, up_to_end-append}
