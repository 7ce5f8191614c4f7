use Rattle.std.proofs.Common.{rules, ◌≡◌, ◌++◌, [], ◌∷◌, take, ap, ◌∙◌, ℕ, List}
use Rattle.std.specs.List.{flat_map}
use Rattle.std.specs.Str.{encode_utf8_all}
use Rattle.std.specs.String.{string_bytes}
use Rattle.std.proofs.Transfers.{starts_with_trans}
use Rattle.pysource.specs.Reprs.{escaped, is_unprintable}
use Rattle.pysource.proofs.Printing.PushReprLemmas.{plain_points_pushed, point_pushed, points_closed}
use Rattle.pysource.proofs.reprs.push_repr_points.Goals as goal

pub runs-preserved : goal.runs-preserved
runs-preserved c =
    let q = c.quote_of_points-quote.result in
    let rest = c.runs.rest.now in
    let tail = c.split_at.result.1.now in
    let cut : rest ≡ take c.in_ok-count.count rest ++ tail =
    c.split_at.ensures.by_index.0 ∙ ap (λ (front : List ℕ). front ++ tail) c.split_at.ensures.front in
    let before =
    plain_points_pushed q c.args.points.now rest (take c.in_ok-count.count rest) tail (string_bytes c.runs.out)
    (string_bytes c.push_plain_points.new.out) _
    c.quote_of_points-quote.ensures cut c.in_ok-count.ensures.plain c.runs.invariant.output c.in_ok-count.ensures.ok in
    record {
      front = starts_with_trans _ _ _ c.push_repr_point.ensures.kept (starts_with_trans _ _ _ c.push_plain_points.ensures.kept
          c.runs.invariant.front);
      output = point_pushed q c.in-Some.point.now tail c.in-Some.following.now _ _ _ c.in-Some.ensures.cases.0 before
          c.in_ok-push_repr_point-in-Some.ensures.ok;
    }

pub returns-clause-ok : goal.returns-clause-ok
returns-clause-ok c =
    let q = c.quote_of_points-quote.result in
    let points = c.args.points.now in
    let rest = c.runs.rest.now in
    let tail = c.split_at.result.1.now in
    let cut : rest ≡ take c.in_ok-count.count rest ++ tail =
    c.split_at.ensures.by_index.0 ∙ ap (λ (front : List ℕ). front ++ tail) c.split_at.ensures.front in
    let before =
    plain_points_pushed q points rest (take c.in_ok-count.count rest) tail (string_bytes c.runs.out)
    (string_bytes c.push_plain_points.new.out) _
    c.quote_of_points-quote.ensures cut c.in_ok-count.ensures.plain c.runs.invariant.output c.in_ok-count.ensures.ok in
    let last : string_bytes c.push-2.new.self ≡ string_bytes c.push_plain_points.new.out ++ encode_utf8_all (q ∷ []) = search rules in
    points_closed q tail points (string_bytes c.args.out.now) _ _ c.in-None.ensures.cases before last
    ∙ ap (λ (x : ℕ). string_bytes c.args.out.now ++ encode_utf8_all (x ∷ flat_map (escaped is_unprintable x) points ++ x ∷ []))
    c.quote_of_points-quote.ensures
