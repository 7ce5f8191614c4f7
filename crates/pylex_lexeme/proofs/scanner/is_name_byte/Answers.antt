-- The table is held against the definition at each of the 256 bytes, by computing.
use Rattle.std.proofs.Common.{◌≡◌, ℕ, ◌<◌, ◌==◌, true, ◌||◌, not, nat_eq, get_or, List, refl, arith}
use Rattle.std.specs.Char.{is_ascii_alphanumeric}
use Rattle.pylex_lexeme.specs.declared.scanner.TheConstants.{NAME_BYTES}
use Rattle.pylex_lexeme.proofs.Fronts.Tables.{agree_below, agree_at}
use Rattle.pylex_lexeme.proofs.scanner.is_name_byte.Goals as goal

from_table : (table : List ℕ) (b : ℕ) → b < 256
    → agree_below (λ k. not (nat_eq (get_or table k 0) 44)) (λ k. is_ascii_alphanumeric k || (k == 95)) 256 ≡ true
    → not (nat_eq (get_or table b 0) 44) ≡ (is_ascii_alphanumeric b || (b == 95))
from_table table b lt h = agree_at _ _ 256 h b lt

pub returns : goal.returns
unfolding agree_below
returns c = from_table NAME_BYTES c.args.byte (omega arith) refl
