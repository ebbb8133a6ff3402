-- The five kinds of lines make up the text, in their order, and reading it adds the definitions again in the order in which the schema numbers them.
use Rattle.std.proofs.Common.{◌<◌, ◌^◌, length, ◌∙◌, map, sym, subst, List, ℕ}
use Rattle.std.specs.Prelude.{Ok}
use Rattle.su_ddl.specs.Files.{Reads}
use Rattle.su_ddl.specs.ShownDefinitions.{attribute_definition, relation_definition, object_definition, fd_definition, maximal_definition}
use Rattle.su_ddl.proofs.SameSchema.{read_again}
use Rattle.su_ddl.proofs.Lines.{five_kinds}
use Rattle.su_ddl.proofs.Short.{text_short}
use Rattle.su_ddl.proofs.showing.show.Goals as goal

pub returns-clause-text : goal.returns-clause-text
returns-clause-text c =
    let schema = c.args.schema.now in
    c.from_vec.ensures
    ∙ five_kinds (map attribute_definition schema.attributes) (map relation_definition schema.relations) (map (object_definition schema) schema.objects) (map (fd_definition schema) schema.fds)
    (map (maximal_definition schema) schema.declared) c.new-out.result.items c.push_attributes.new.out.items c.push_relations.new.out.items c.push_objects.new.out.items c.push_fds.new.out.items
    c.push_declared.new.out.items c.new-out.ensures.items c.in_ok-push_attributes.ensures c.in_ok-push_relations.ensures c.in_ok-push_objects.ensures c.in_ok-push_fds.ensures c.in_ok-push_declared.ensures

pub returns-clause-again : goal.returns-clause-again
returns-clause-again c =
    subst (λ (v : List ℕ). Reads v (Ok c.args.schema.now)) (sym (returns-clause-text c)) (read_again c.args.schema.now c.keeps_its_rules.ensures)

pub returns-clause-short : goal.returns-clause-short
returns-clause-short c = subst (λ (v : List ℕ). length v < 2 ^ 32) (sym (returns-clause-text c)) (text_short c.args.schema.now c.keeps_its_rules.ensures)
