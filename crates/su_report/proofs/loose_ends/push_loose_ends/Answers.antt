-- The four kinds of faults, one behind another.
use Rattle.std.proofs.Common.{◌++◌, refl}
use Rattle.su_report.proofs.Texts.{four_added}
use Rattle.su_report.proofs.loose_ends.push_loose_ends.Goals as goal

pub returns : goal.returns
returns c =
    let a = rw c.requires at c.in_ok-attributes.ensures in
    let r = c.in_ok-relations.ensures in
    let k = c.in_ok-columns.ensures in
    let d = rw c.requires at c.in_ok-dependencies.ensures in (
      a.0 ++ r.0 ++ k.0 ++ d.0,
      four_added c.args.out.now.items a.0 r.0 k.0 d.0 c.push_unused.new.out.items c.push_unread.new.out.items c.push_all_unpaired.new.out.items c.push_all_nowhere.new.out.items a.1 r.1 k.1 d.1,
      record {
        attributes = a.0;
        some_attribute = c.in_ok-attributes.attributes;
        attributes_are = a.2;
        relations = r.0;
        some_relation = c.in_ok-relations.relations;
        relations_are = r.2;
        columns = k.0;
        some_column = c.in_ok-columns.columns;
        columns_are = k.2;
        dependencies = d.0;
        some_dependency = c.in_ok-dependencies.dependencies;
        dependencies_are = d.2;
        fault_is = refl;
        text_is = refl;
      },
    )
