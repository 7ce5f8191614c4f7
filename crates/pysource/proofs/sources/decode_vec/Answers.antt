use Rattle.std.proofs.Common.{◌≡◌, false, rules}
use Rattle.pysource.specs.Cookies.{has_mark}
use Rattle.pysource.proofs.FaultyLines.CutLemmas.{all_good}
use Rattle.pysource.proofs.sources.decode_vec.Goals as goal

pub returns : goal.returns
returns c =
    let b = c.args.bytes.items in
    let mark : has_mark b ≡ false = search rules in
    let good = all_good c.in_ok-encoding.encoding b mark (search rules) in
    search (rules, good)
