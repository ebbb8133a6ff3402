-- Seven pieces appended one after another are the seven together behind what was there.
use Rattle.std.specs.Prelude.{◌*◌, ◌%◌, codes, string_bytes}
use Rattle.su_bank.specs.declared.scripts.Cell.TheVariants.{Number, Bank, Customer, Street}
use Rattle.su_bank.specs.Scripts.{insert}
use Rattle.su_bank.proofs.ScriptPieces.{seven}
use Rattle.su_bank.proofs.scripts.push_inserts.Goals as goal

pub returns : goal.returns
returns c =
    let i = c.args.i in
    seven (string_bytes c.args.script.now) (string_bytes c.push_insert.new.script) (string_bytes c.push_insert-2.new.script) (string_bytes c.push_insert-3.new.script)
    (string_bytes c.push_insert-4.new.script) (string_bytes c.push_insert-5.new.script) (string_bytes c.push_insert-6.new.script) (string_bytes c.push_insert-7.new.script)
    (insert (codes "BA") (Bank (i % 5)) (Number i)) (insert (codes "AC") (Number i) (Customer (i % 20))) (insert (codes "AB") (Number i) (Number (100 * i)))
    (insert (codes "BL") (Bank (i % 3)) (Number i)) (insert (codes "LC") (Number i) (Customer (i % 30))) (insert (codes "LA") (Number i) (Number (50 * i)))
    (insert (codes "CA") (Customer (i % 40)) (Street (i % 40)))
    c.in_ok-push_insert.ensures c.in_ok-push_insert-2.ensures c.in_ok-push_insert-3.ensures
    c.in_ok-push_insert-4.ensures c.in_ok-push_insert-5.ensures c.in_ok-push_insert-6.ensures c.in_ok-push_insert-7.ensures
