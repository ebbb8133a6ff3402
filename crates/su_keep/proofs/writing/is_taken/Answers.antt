-- The store tells its list without the last columns.
use Rattle.std.proofs.Common.{◌≡◌, ◌≢◌, List, map, take, subst}
use Rattle.std.specs.List.{AllByRecursion}
use Rattle.sqlite_value.specs.Order.{Row as Entry, column}
use Rattle.sqlite_value.specs.declared.value.Value.TheVariants.{Text}
use Rattle.sqlite_trees.specs.Objects.{catalog_tree}
use Rattle.su_keep.proofs.Written.{named_of_front}
use Rattle.su_keep.proofs.writing.is_taken.Goals as goal

pub returns : goal.returns
returns g c = λ clean free.
    let listed = (g.S.Store.view c.args.store.now).trees catalog_tree in
    let front : c.as_slice.result.now ≡ map (take 5) listed = search (c.as_slice.ensures.value, c.in_ok-rows.ensures clean) in
    named_of_front c.args.name.now listed (subst (λ (rows : List Entry). AllByRecursion (λ r. column r 2 ≢ Text c.args.name.now) rows) front (c.is_among.ensures free))
