-- The definition is an object with these names and pairs, as its form says.
use Rattle.std.proofs.Common.{◌≡◌}
use Rattle.su_schema.specs.declared.definitions.Definition.TheVariants.{Object}
use Rattle.su_schema.proofs.schemas.Schema.define.Goals as goal

pub returns-in-Object-clause-ok : goal.returns-in-Object-clause-ok
returns-in-Object-clause-ok c =
    let same : c.args.definition.now ≡ Object c.as_str-in-Object.result.now c.as_str-in-Object-2.result.now c.as_slice-in-Object.result.now = cc in
    rw same c.object.ensures.ok

pub returns-in-Object-clause-refused : goal.returns-in-Object-clause-refused
returns-in-Object-clause-refused c =
    let same : c.args.definition.now ≡ Object c.as_str-in-Object.result.now c.as_str-in-Object-2.result.now c.as_slice-in-Object.result.now = cc in
    rw same c.object.ensures.refused
