-- The closure reads the next mark for each row, so the rows that stay are those whose own mark is set; all of them keep their width.
use Rattle.std.proofs.Common.{rules, ◌≡◌, refl, length, sym, ◌∙◌, ap}
use Rattle.std.specs.List.{items_where_true}
use Rattle.su_rel.proofs.Rows.{kept_marks, All-items_where_true}
use Rattle.su_rel.proofs.relations.Relation.keep.Goals as goal

pub invariant_of-self : goal.invariant_of-self
invariant_of-self c =
    let h = c.retain.ensures.filtered in
    rw (h.4) (All-items_where_true (λ row. length row ≡ c.self.inside.width) h.0 c.self.inside.rows.keys c.self.invariant)

pub returns-clause-rows : goal.returns-clause-rows
returns-clause-rows c =
    let h = c.retain.ensures.filtered in
    rw (← c.self.view_is)
    (h.4
    ∙ ap (λ marks. items_where_true marks c.self.inside.rows.keys) (kept_marks _ (λ p. p.0.now.now) (λ p x b q run. search rules) h.0 c.self.inside.rows.keys _ h.1 c.args.kept.now refl h.2 (c.requires ∙ ap (λ s. length s.rows) (sym c.self.view_is)) h.3))
