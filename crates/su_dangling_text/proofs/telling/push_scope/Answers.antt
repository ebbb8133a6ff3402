-- What is found of the scope's objects is told, one line after another.
use Rattle.std.proofs.Common.{◌∙◌, ◌++◌, ℕ, List, ap, refl}
use Rattle.std.specs.List.{flat_map}
use Rattle.su_schema.specs.SchemaValue.{SchemaValue}
use Rattle.su_dangling.specs.declared.counting.Dangling.{Dangling}
use Rattle.su_dangling_text.specs.Lines.{object_lines}
use Rattle.su_dangling_text.proofs.telling.push_scope.Goals as goal

pub returns : goal.returns
returns c =
    let schema = c.args.db.now.schema in
    let found = c.in_ok-found.found in
    let old = c.args.out.now.items in
    let lines : SchemaValue → List Dangling → List ℕ = λ s ds. flat_map (object_lines s c.args.scope.now) ds in (
      lines schema found,
      c.in_ok-push_objects.ensures ∙ ap (λ (s : SchemaValue). old ++ lines s c.as_slice.result.now) c.schema.ensures ∙ ap (λ (ds : List Dangling). old ++ lines schema ds) c.as_slice.ensures,
      (found, c.in_ok-found.ensures, refl),
    )
