use Rattle.std.proofs.Common.{rules, ◌≡◌, ◌++◌, [], ◌∷◌, length, sym, ap, ◌∙◌, ℕ, List}
use Rattle.std.specs.List.{flat_map}
use Rattle.std.specs.Char.{encode_utf8}
use Rattle.std.specs.Str.{chars, encode_utf8_all}
use Rattle.std.specs.String.{string_bytes}
use Rattle.std.proofs.Transfers.{starts_with_of_append, starts_with_trans}
use Rattle.std.proofs.lemmas.Str.{IsUtf8-past_char}
use Rattle.pysource.specs.Reprs.{escaped, is_unprintable, quote_for}
use Rattle.pysource.proofs.Printing.PushReprLemmas.{quote_for_chars, plain_pushed, character_pushed, closed}
use Rattle.pysource.proofs.reprs.push_escaped.Goals as goal

pub loop-characters-preserved : goal.loop-characters-preserved
loop-characters-preserved c =
    let q = c.quote_of-quote.result in
    let tail = c.split_plain.result.1.now in
    let rest = c.as_str-rest.result.now in
    let plain : string_bytes c.push_str.new.self ≡ string_bytes c.loop-characters.out ++ c.split_plain.result.0.now = search rules in
    let point : string_bytes c.push_repr_point.new.out ≡ string_bytes c.push_str.new.self ++ encode_utf8_all
    (escaped is_unprintable q c.in-Some.c) = search rules in
    let parts : tail ≡ encode_utf8 c.in-Some.c ++ rest =
    sym c.chars-characters.ensures.rest ∙ c.in-Some.ensures.steps.0 ∙ ap (λ (bs : List ℕ). encode_utf8 c.in-Some.c ++ bs)
    (sym c.as_str-rest.ensures) in
    let before =
    plain_pushed q c.as_bytes.result.now c.loop-characters.rest.now _ tail (string_bytes c.loop-characters.out)
    (string_bytes c.push_str.new.self) _
    c.quote_of-quote.ensures c.split_plain.ensures.whole c.split_plain.ensures.plain c.loop-characters.invariant.output plain in
    record {
      text = IsUtf8-past_char tail rest c.in-Some.c c.split_plain.ensures.rest parts;
      front = starts_with_trans _ _ _ c.push_repr_point.ensures.kept
          (starts_with_trans _ _ _ (starts_with_of_append _ (string_bytes c.loop-characters.out) c.split_plain.result.0.now plain)
          c.loop-characters.invariant.front);
      output = character_pushed q c.in-Some.c tail rest _ _ _ c.split_plain.ensures.rest parts before point;
    }

pub returns-clause-ok : goal.returns-clause-ok
returns-clause-ok c =
    let q = c.quote_of-quote.result in
    let tail = c.split_plain.result.1.now in
    let plain : string_bytes c.push_str.new.self ≡ string_bytes c.loop-characters.out ++ c.split_plain.result.0.now = search rules in
    let last : string_bytes c.push-2.new.self ≡ string_bytes c.push_str.new.self ++ encode_utf8_all (q ∷ []) = search rules in
    let before =
    plain_pushed q c.as_bytes.result.now c.loop-characters.rest.now _ tail (string_bytes c.loop-characters.out)
    (string_bytes c.push_str.new.self) _
    c.quote_of-quote.ensures c.split_plain.ensures.whole c.split_plain.ensures.plain c.loop-characters.invariant.output plain in
    let empty : length tail ≡ 0 = ap length (sym c.chars-characters.ensures.rest) ∙ c.in-None.ensures.steps.0.0 in
    let quote : q ≡ quote_for (chars c.args.text.now) = c.quote_of-quote.ensures
    ∙ (ap quote_for c.as_bytes.ensures.value ∙ quote_for_chars c.args.text.now c.utf8.text) in
    closed q tail (chars c.args.text.now) (string_bytes c.args.out.now) _ _ empty before last
    ∙ ap (λ (x : ℕ). string_bytes c.args.out.now ++ encode_utf8_all
    (x ∷ flat_map (escaped is_unprintable x) (chars c.args.text.now) ++ x ∷ [])) quote

pub returns-in_err-push_repr_point-in-Some-clause-kept : goal.returns-in_err-push_repr_point-in-Some-clause-kept
returns-in_err-push_repr_point-in-Some-clause-kept c =
    let plain : string_bytes c.push_str.new.self ≡ string_bytes c.loop-characters.out ++ c.split_plain.result.0.now = search rules in
    starts_with_trans _ _ _ c.push_repr_point.ensures.kept
    (starts_with_trans _ _ _ (starts_with_of_append _ (string_bytes c.loop-characters.out) c.split_plain.result.0.now plain)
    c.loop-characters.invariant.front)
