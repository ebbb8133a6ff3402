-- A marked row's key is one of the keys after it, new or had before, and a row that isn't marked adds none.
use Rattle.std.proofs.Common.{◌≡◌, ◌∙◌, [], get_or, ap}
use Rattle.su_reduce.specs.Sheets.{pick}
use Rattle.su_reduce.proofs.Partnered.{keys_more, keys_same}
use Rattle.su_reduce.proofs.partners.add_key.Goals as goal

pub returns-clause-keys : goal.returns-clause-keys
returns-clause-keys c = λ before.
    let side = c.args.side.now in
    let i = c.args.i in
    let is : c.deref.result.now ≡ pick side.key.now (get_or side.rows.now.rows i []) = c.deref.ensures.value ∙ c.in_ok-put_key.ensures ∙ ap (pick side.key.now) c.row.ensures.is in
    keys_more side.rows.now.rows side.marks.now side.key.now i c.args.keys.now.rows before c.add.new.self.rows c.deref.result.now c.if-not-side-i.false is c.in_ok-add.ensures.kept c.in_ok-add.ensures.had c.in_ok-add.ensures.only

pub returns-then-not-side-i-clause-keys : goal.returns-then-not-side-i-clause-keys
returns-then-not-side-i-clause-keys c = λ before.
    let side = c.args.side.now in
    keys_same side.rows.now.rows side.marks.now side.key.now c.args.i c.args.keys.now.rows before c.if-not-side-i.true
