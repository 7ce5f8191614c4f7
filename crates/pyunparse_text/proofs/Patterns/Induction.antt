-- Every pattern of terminals of tokens is given by its own terminals, which are no more than those that it was given by.
--
-- Carries: fewest, for Callers. On: Claims, Entries.
use Rattle.std.proofs.Common.{List}
use Rattle.pygrammar.specs.declared.pattern_levels.PatternLevel.{PatternLevel}
use Rattle.pytree_node.specs.Trees.{Pattern}
use Rattle.pytoken.specs.Terminals.{Terminal}
use Rattle.pygrammar.specs.PatternEntries.{PatternItem, PatternEntry}
use Rattle.pygrammar.specs.PatternGrammar as P
use Rattle.pyunparse_text.proofs.Patterns.Claims.{Claim, next_claim, group_claim, literal_claim, value_claim, singleton_claim}
use Rattle.pyunparse_text.proofs.Patterns.Claims.{capture_claim}
use Rattle.pyunparse_text.proofs.Patterns.Claims.{star_claim, as_claim, AlternativesClaim, last_alternative_claim, alternative_claim}
use Rattle.pyunparse_text.proofs.Patterns.Claims.{alternatives_claim}
use Rattle.pyunparse_text.proofs.Patterns.Entries.{PieceClaim, ListingClaim, no_entry_claim, last_entry_claim, entry_claim, element_claim}
use Rattle.pyunparse_text.proofs.Patterns.Entries.{key_claim}
use Rattle.pyunparse_text.proofs.Patterns.Entries.{rest_claim, argument_claim, named_claim, square_claim, empty_claim, round_claim}
use Rattle.pyunparse_text.proofs.Patterns.Entries.{open_claim}
use Rattle.pyunparse_text.proofs.Patterns.Entries.{mapping_claim, class_claim}

mutual
  pub claim : {l : PatternLevel} {ts : List Terminal} {p : Pattern} → P.DerivesPattern l ts p → Claim l ts p
  claim (P.next d) = next_claim (claim d)
  claim (P.open_sequence d c) = open_claim (claim d) (listing c)
  claim P.star = star_claim
  claim (P.as_name x d h) = as_claim x (claim d) h
  claim (P.alternatives d c) = alternatives_claim (claim d) (alternatives c)
  claim (P.literal q) = literal_claim q
  claim (P.singleton q) = singleton_claim q
  claim P.capture = capture_claim
  claim (P.value x q) = value_claim x q
  claim (P.group d) = group_claim (claim d)
  claim P.empty_sequence = empty_claim
  claim (P.round_sequence d c) = round_claim (claim d) (listing c)
  claim (P.square_sequence c) = square_claim (listing c)
  claim (P.mapping c h) = mapping_claim (listing c) h
  claim (P.class_pattern q c h) = class_claim q (listing c) h

  alternatives : {ts : List Terminal} {ps : List Pattern} → P.Alternatives ts ps → AlternativesClaim ts ps
  alternatives (P.last_alternative d) = last_alternative_claim (claim d)
  alternatives (P.alternative d c) = alternative_claim (claim d) (alternatives c)

  listing : {i : PatternItem} {ts : List Terminal} {es : List PatternEntry} → P.PatternListing i ts es → ListingClaim i ts es
  listing (P.no_entry {i = i}) = no_entry_claim i
  listing (P.last_entry p) = last_entry_claim (piece p)
  listing (P.entry p c) = entry_claim (piece p) (listing c)

  piece : {i : PatternItem} {ts : List Terminal} {e : PatternEntry} → P.PatternPiece i ts e → PieceClaim i ts e
  piece (P.element d) = element_claim (claim d)
  piece (P.key_pattern q d) = key_claim q (claim d)
  piece (P.rest q) = rest_claim q
  piece (P.argument d) = argument_claim (claim d)
  piece (P.named_argument d) = named_claim (claim d)
