-- Once all attributes are gone through, the columns are those of all.
use Rattle.std.proofs.Common.{◌≡◌, ◌∙◌, map, take, sym, ap, arith}
use Rattle.std.proofs.lemmas.List.{take_all}
use Rattle.su_schema.specs.Entries.{column_of}
use Rattle.su_dangling.proofs.tasks.columns_of.Goals as goal

pub returns : goal.returns
returns c = λ entry at.
    let all : take c.loop-a.a-index c.args.attributes.now ≡ c.args.attributes.now = take_all c.loop-a.a-index c.args.attributes.now (let t = c.loop-a-test.false in omega arith) in
    ap (map (column_of entry)) (sym all) ∙ c.loop-a.invariant entry at
