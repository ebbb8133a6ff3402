-- The kinds so far are those that every typing of the rows gives the variables so far, as each of these stands in a row.
use Rattle.std.proofs.Common.{rules, ◌≡◌, List, [], ◌∷◌, ◌++◌, map, take, length, sym, ap, ◌∙◌, arith}
use Rattle.std.proofs.lemmas.List.{get_or_default, length_push, map_more}
use Rattle.su_base.specs.declared.values.Kind.{Kind}
use Rattle.su_chase.proofs.freezing.kinds_of.Goals as goal

pub loop-k-preserved : goal.loop-k-preserved
loop-k-preserved c =
    let found = c.loop-k.found in
    let n = c.loop-k.k-index in
    let ks = c.args.variables.now in
    let kind = c.kind_of_variable.result in
    let more : c.push.new.self ≡ found ++ kind ∷ [] = search rules in
    record {
      each = let i = c.loop-k.invariant.each in let p = length_push found kind in let q = ap length more in omega arith;
      kinds = λ var_kind fits.
          more ∙ ap (λ (xs : List Kind). xs ++ kind ∷ []) (c.loop-k.invariant.kinds var_kind fits)
          ∙ ap (λ (k : Kind). map var_kind (take n ks) ++ k ∷ []) (c.kind_of_variable.ensures var_kind fits ∙ ap var_kind (get_or_default ks n _ 0 c.loop-k-test.true)) ∙ sym (map_more var_kind ks n 0 c.loop-k-test.true);
    }
