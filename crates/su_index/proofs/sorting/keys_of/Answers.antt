-- Each key so far has its row's own value with its lead, and the positions so far from the start on stand there once each.
use Rattle.std.proofs.Common.{◌≡◌, ◌++◌, ◌∷◌, [], arith, ap, length, refl}
use Rattle.std.proofs.lemmas.List.{length_push}
use Rattle.std.proofs.lemmas.List.Elements.{All-push}
use Rattle.su_index.specs.inside.Lead.{IsLead}
use Rattle.su_index.specs.inside.Order.{value_at}
use Rattle.su_index.specs.inside.Keys.{Key}
use Rattle.su_index.proofs.Keys.{each_pushed}
use Rattle.su_index.proofs.sorting.keys_of.Goals as goal

pub loop-position-preserved : goal.loop-position-preserved
loop-position-preserved c =
    let old = c.loop-position.invariant in
    let key : Key = (c.lead.result, c.value-found.result, c.loop-position.position) in
    let pushed : c.push.new.self.items ≡ c.loop-position.keys.items ++ key ∷ [] = rw (c.is_err.ensures.negation, c.if-is_err.false) at c.push.ensures.items in
    record {
      values = rw pushed (All-push (λ (k : Key). IsLead k.0 k.1.now × (k.1.now ≡ value_at c.args.rows.now c.args.column k.2)) c.loop-position.keys.items key old.values (c.lead.ensures, c.value-found.ensures));
      each = each_pushed c.loop-position.keys.items c.push.new.self.items key c.args.from c.loop-position.position pushed refl old.each;
      len = omega (arith, old.len, ap length pushed, length_push c.loop-position.keys.items key);
    }
