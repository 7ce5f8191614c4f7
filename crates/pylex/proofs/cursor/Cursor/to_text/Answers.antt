use Rattle.std.proofs.Common.{◌≡◌, ◌++◌, ◌∷◌, [], ◌∙◌, subst, ap, rules}
use Rattle.std.specs.String.{string_bytes}
use Rattle.pylex.specs.Cursors.{CursorParts, cursor_text, part, with_commas}
use Rattle.pylex.proofs.Texts.CursorLemmas.{cursor_written}
use Rattle.pylex.proofs.cursor.Cursor.to_text.Goals as goal
use Rattle.pylex_listing.specs.Lines.{count_if}

pub returns : goal.returns
returns c =
    let inside = c.self.inside in
    let v : CursorParts = record {
      given = inside.given;
      offset = inside.offset;
      row = inside.row;
      depth = inside.depth;
      begun =
          inside.begun;
      skip = inside.skip;
      levels = inside.levels.items;
    } in
    let open_part : string_bytes c.push_part-5.new.text ≡ string_bytes c.push_part-4.new.text ++ part (count_if inside.begun) =
    (let written : string_bytes c.push_part-5.new.text ≡ string_bytes c.push_part-4.new.text ++ part c.from.result =
    c.in_ok-push_part-5.ensures in
    let number : c.from.result ≡ count_if inside.begun = search rules in
    written ∙ ap (λ n. string_bytes c.push_part-4.new.text ++ part n) number) in
    let blank : string_bytes c.push.new.self ≡ string_bytes c.push_part-6.new.text ++ 32 ∷ [] = search rules in
    let levels : string_bytes c.push_levels.new.text ≡ string_bytes c.push.new.self ++ with_commas inside.levels.items =
    c.in_ok-push_levels.ensures ∙ ap (λ ns. string_bytes c.push.new.self ++ with_commas ns) c.as_slice.ensures.value in
    let P : CursorParts → Type 0 = λ w. string_bytes c.push_levels.new.text ≡ cursor_text w in
    subst P c.self.view_is (cursor_written v c.in_ok-text.ensures.ok c.in_ok-push_part.ensures c.in_ok-push_part-2.ensures
    c.in_ok-push_part-3.ensures c.in_ok-push_part-4.ensures open_part c.in_ok-push_part-6.ensures blank levels)
