use Rattle.std.proofs.Common.{◌∙◌, List, ℕ, [], ap, arith, codes, map, refl, take}
use Rattle.std.specs.Prelude.{unwrap_or}
use Rattle.std.proofs.lemmas.List.{take_all}
use Rattle.clap.specs.Matches.{found_of}
use Rattle.clap.proofs.WalkLemmas.{raw_values-rows}
use Rattle.pyast_words.proofs.WordsLemmas.{texts_or_none}
use Rattle.pyast_words.proofs.found.files_of.Goals as goal

pub returns : goal.returns
returns c =
    let words = c.unwrap_or-words.result.now in
    c.loop-word.invariant
    ∙ ap (map (λ word. word.now)) (take_all c.loop-word.word-index words c.loop-word-test.false)
    ∙ ap (λ list. map (λ word. word.now) list.now) c.unwrap_or-words.ensures
    ∙ texts_or_none c.get_strs.result _ refl
    ∙ ap (λ texts. unwrap_or texts []) (c.get_strs.ensures ∙ raw_values-rows (found_of c.args.matches.now) (codes "FILE"))
