-- At most 64 sets are declared and at most 64 objects are seeds, of which each gives at most one more, so the list has no more than 128.
use Rattle.std.proofs.Common.{◌≡◌, ◌≤◌, ◌++◌, length, ap, arith}
use Rattle.std.proofs.lemmas.Result.{IfOk-weaker}
use Rattle.std.proofs.lemmas.List.{length-map}
use Rattle.su_schema.specs.Entries.{attributes_of}
use Rattle.su_maxobj.specs.MaximalObjects.{computed}
use Rattle.su_maxobj.proofs.Few.{few_listed}
use Rattle.su_maxobj.proofs.calls.maximal_objects.Goals as goal

pub returns-clause-few : goal.returns-clause-few
returns-clause-few c =
    let declared = c.declared.result.now in
    let grown = c.as_slice.result.now in
    let own : length declared ≤ 64 = (let e = ap length c.declared.ensures in let few = c.keeps_its_rules.ensures.few_declared in omega arith) in
    let seeds : length grown ≤ 64 = (let e = ap length c.as_slice.ensures in let s = c.in_ok-grown.ensures.seeds in let r = c.read_objects.ensures in let many = ap length r in let m = length-map c.args.schema.now.objects attributes_of in let few = c.keeps_its_rules.ensures.few_objects in omega arith) in
    IfOk-weaker c.listed_sets.result (λ sets. sets ≡ declared ++ computed declared grown) (λ sets. length sets ≤ 128) (λ sets e. few_listed declared grown sets own seeds e) c.listed_sets.ensures
