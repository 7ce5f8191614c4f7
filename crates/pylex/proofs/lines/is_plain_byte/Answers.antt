-- The table is held against the definition at each of the 256 bytes, by computing.
use Rattle.std.proofs.Common.{◌≡◌, ℕ, ◌<◌, true, not, nat_eq, get_or, List, refl, arith}
use Rattle.pysource.specs.Reprs.{is_plain}
use Rattle.pylex_lexeme.proofs.Callers.Tables.{agree_below, agree_at}
use Rattle.pylex.specs.declared.lines.TheConstants.{PLAIN_BYTES}
use Rattle.pylex.proofs.lines.is_plain_byte.Goals as goal

from_table : (table : List ℕ) (b : ℕ) → b < 256
    → agree_below (λ k. not (nat_eq (get_or table k 0) 9)) is_plain 256 ≡ true
    → not (nat_eq (get_or table b 0) 9) ≡ is_plain b
from_table table b lt h = agree_at _ _ 256 h b lt

pub returns : goal.returns
unfolding agree_below
returns c = from_table PLAIN_BYTES c.args.byte (omega arith) refl
