-- Carries: the laws by tokens, optional_capture_fits. On: the words of headers that are no keywords are names,
-- and so is the wildcard.
use Rattle.std.proofs.Common.{◌≡◌, true}
use Rattle.pygrammar.specs.Forms.{type_name, match_name, case_name}
use Rattle.pyunparse_text.proofs.Callers.Said.{type_is_proper, match_is_proper, case_is_proper, wildcard_is_proper}
use Rattle.pytree_fits.specs.Names.{is_name}
use Rattle.pytree_fits.specs.PatternSlots.{wildcard}
use Rattle.pytree_fits.proofs.Exactness.ProperNames.{proper_name}

pub type_is_name : is_name type_name ≡ true
type_is_name = proper_name type_name type_is_proper

pub match_is_name : is_name match_name ≡ true
match_is_name = proper_name match_name match_is_proper

pub case_is_name : is_name case_name ≡ true
case_is_name = proper_name case_name case_is_proper

pub wildcard_is_name : is_name wildcard ≡ true
wildcard_is_name = proper_name wildcard wildcard_is_proper
