-- The table is held against the definition at each of the 256 bytes, by computing.
use Rattle.std.proofs.Common.{◌≡◌, ℕ, ◌<◌, true, nat_eq, get_or, List, refl, arith}
use Rattle.pylex_lexeme.specs.Inner.Plain.{is_plain_char}
use Rattle.pylex_lexeme.specs.declared.scanner.TheConstants.{PLAIN_BYTES}
use Rattle.pylex_lexeme.proofs.Fronts.Tables.{agree_below, agree_at}
use Rattle.pylex_lexeme.proofs.scanner.is_plain.Goals as goal

from_table : (table : List ℕ) (b : ℕ) → b < 256
    → agree_below (λ k. nat_eq (get_or table k 0) 43) is_plain_char 256 ≡ true
    → nat_eq (get_or table b 0) 43 ≡ is_plain_char b
from_table table b lt h = agree_at _ _ 256 h b lt

pub returns : goal.returns
unfolding agree_below
returns c = from_table PLAIN_BYTES c.args.byte (omega arith) refl
