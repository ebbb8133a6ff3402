-- The next object's lines come behind those of the objects so far.
use Rattle.std.proofs.Common.{◌≡◌, ◌+◌, ◌∙◌, ◌++◌, ◌∷◌, ℕ, List, [], take, flat_map, sym, ap, append_assoc}
use Rattle.std.proofs.lemmas.List.{take_more}
use Rattle.su_base.proofs.Items.{flat_map-push}
use Rattle.su_dangling.specs.declared.counting.Dangling.{Dangling}
use Rattle.su_dangling_text.specs.Lines.{object_lines}
use Rattle.su_dangling_text.proofs.telling.push_objects.Goals as goal

pub loop-one-preserved : goal.loop-one-preserved
loop-one-preserved c =
    let old = c.args.out.now.items in
    let lines : Dangling → List ℕ = object_lines c.args.schema.now c.args.scope.now in
    let found = c.args.found.now in
    let i = c.loop-one.one-index in
    let one : Dangling = c.one-item.result in
    let next : take (i + 1) found ≡ take i found ++ one ∷ [] = take_more found i one c.loop-one-test.true ∙ ap (λ (x : Dangling). take i found ++ x ∷ []) (sym c.one-item.is) in
    c.in_ok-push_object.ensures ∙ ap (λ (text : List ℕ). text ++ lines one) c.loop-one.invariant ∙ append_assoc old (flat_map lines (take i found)) (lines one)
    ∙ ap (λ (text : List ℕ). old ++ text) (sym (ap (λ (ds : List Dangling). flat_map lines ds) next ∙ flat_map-push lines (take i found) one))
