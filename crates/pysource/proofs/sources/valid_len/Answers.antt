use Rattle.std.proofs.Common.{arith, sym, ℕ, subst, take, IsUtf8}
use Rattle.std.proofs.lemmas.Str.{utf8_valid_len_le}
use Rattle.pysource.proofs.FaultyLines.LinesLemmas.{valid_front}
use Rattle.pysource.proofs.FaultyLines.BadLemmas.{ascii_front}
use Rattle.pysource.proofs.sources.valid_len.Goals as goal

pub returns-in-Utf8-clause-within : goal.returns-in-Utf8-clause-within
returns-in-Utf8-clause-within c = let within = utf8_valid_len_le c.args.bytes.now in omega (arith, within, c.utf8_len.ensures)

pub returns-in-Utf8-clause-front : goal.returns-in-Utf8-clause-front
returns-in-Utf8-clause-front c = subst (λ (n : ℕ). IsUtf8 (take n c.args.bytes.now)) (sym c.utf8_len.ensures) (valid_front c.args.bytes.now)

pub returns-in-Ascii-clause-front : goal.returns-in-Ascii-clause-front
returns-in-Ascii-clause-front c = ascii_front c.args.bytes.now c.ascii_len.result c.ascii_len.ensures.within c.ascii_len.ensures.before
