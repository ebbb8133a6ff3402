-- A schema that is listed leaves the files as they are.
use Rattle.std.proofs.Common.{sym, ap, subst, ◌∙◌}
use Rattle.sqlite_pool.specs.Pool
use Rattle.sqlite_pool.specs.Stored.{Recovers}
use Rattle.sqlite_wal.specs.Files.{seen_image}
use Rattle.sqlite_store.specs.Unopened.{state_of, Opens}
use Rattle.su_keep.proofs.opening.list_tables.Goals as goal

pub returns-in_err-list_schema-clause-kept : goal.returns-in_err-list_schema-clause-kept
returns-in_err-list_schema-clause-kept g c = λ late. subst (λ p. Opens c.args.files.now (Pool.state p)) (sym c.list_schema.ensures.files)
    (c.read_list.ensures.kept (sym (ap (λ p. (Pool.state p).is_clean) c.list_schema.ensures.files) ∙ late))

pub returns-then-branch-clause-kept : goal.returns-then-branch-clause-kept
returns-then-branch-clause-kept g c = λ late. subst (λ p. Opens c.args.files.now (Pool.state p)) (sym c.list_schema.ensures.files)
    (c.read_list.ensures.kept (sym (ap (λ p. (Pool.state p).is_clean) c.list_schema.ensures.files) ∙ late))

pub returns-clause-kept : goal.returns-clause-kept
returns-clause-kept g c = λ late. subst (λ p. Opens c.args.files.now (Pool.state p)) (sym c.list_schema.ensures.files)
    (c.read_list.ensures.kept (sym (ap (λ p. (Pool.state p).is_clean) c.list_schema.ensures.files) ∙ late))

pub returns-then-branch-clause-ok : goal.returns-then-branch-clause-ok
returns-then-branch-clause-ok g c = λ late.
    let found = c.in_ok-rows.ensures.ok (sym (ap (λ p. (Pool.state p).is_clean) c.list_schema.ensures.files) ∙ late) in
    record {
      pages = found.pages;
      found = found.found;
      again = subst (λ p. Recovers (state_of c.args.files.now).page_size (seen_image g.D.Disk (Pool.files p).0 (Pool.files p).1) found.pages) (sym c.list_schema.ensures.files) found.again;
    }
