-- Each of the four queries finds its line in the session that the one before left, and the lines stand in their order behind the text.
use Rattle.std.proofs.Common.{◌++◌, []}
use Rattle.su_bank.proofs.FourQueries.{lines_of, found_of}
use Rattle.su_bank.proofs.banks.push_lines.Goals as goal

pub returns : goal.returns
returns g c =
    let k = c.in_ok-banks.banks.items in
    let l = c.in_ok-customers.customers.items in
    let m = c.in_ok-neighbours.neighbours.items in
    let n = c.in_ok-balances.balances.items in record {
      lines = k ++ (l ++ (m ++ (n ++ [])));
      found = found_of c.args.session.now c.find.new.session c.find-2.new.session c.find-3.new.session c.find-4.new.session k l m n
          c.in_ok-banks.ensures c.in_ok-customers.ensures c.in_ok-neighbours.ensures c.in_ok-balances.ensures;
      text_is = lines_of c.args.text.now.items c.extend_from_slice.new.self.items c.extend_from_slice-2.new.self.items c.extend_from_slice-3.new.self.items c.extend_from_slice-4.new.self.items k l m n
          (rw c.deref.ensures.value at c.in_ok-extend_from_slice.ensures.items) (rw c.deref-2.ensures.value at c.in_ok-extend_from_slice-2.ensures.items)
          (rw c.deref-3.ensures.value at c.in_ok-extend_from_slice-3.ensures.items) (rw c.deref-4.ensures.value at c.in_ok-extend_from_slice-4.ensures.items);
    }
