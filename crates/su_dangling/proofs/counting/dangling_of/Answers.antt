-- The rows of the view that don't take part are those that dangle.
use Rattle.std.proofs.Common.{◌≡◌, ◌∙◌, List, Contains, ap, refl, take, length}
use Rattle.su_base.specs.declared.values.Value.{Value}
use Rattle.su_state.specs.Views.{view_of}
use Rattle.su_dangling.specs.Joins.{TakesPart}
use Rattle.su_dangling.specs.inside.Among.{without}
use Rattle.su_dangling.proofs.Left.{left_are}
use Rattle.su_dangling.proofs.counting.dangling_of.Goals as goal

pub returns : goal.returns
returns c =
    let db = c.args.db.now in
    let o = c.args.object in
    let view = c.in_ok-view.view in
    let taking = c.in_ok-taking.taking in
    let left : c.left_of-left.result ≡ without view taking = c.left_of-left.ensures ∙ ap (without view) c.as_slice.ensures in
    record {
      object = refl;
      view = view;
      view_is = c.in_ok-view.ensures;
      rows = c.len-rows.ensures;
      taking_part = taking;
      taking_part_is = c.in_ok-taking.ensures;
      joined = c.len.ensures;
      left = without view taking;
      left_is = left_are (Contains (view_of db o)) (TakesPart db c.args.objects o) view taking c.in_ok-view.ensures c.in_ok-taking.ensures;
      dangling = c.len-dangling.ensures ∙ ap (λ (rows : List (List Value)). length rows) left;
      least = c.first_few.ensures ∙ ap (λ (rows : List (List Value)). take 3 rows) left;
    }
