-- A mapping of all rows into all rows is there exactly where the answers are included.
use Rattle.std.proofs.Common.{ℕ, ◌^◌, sym, ap, ◌∙◌}
use Rattle.std.proofs.lemmas.Bool.{true_from_ne_false}
use Rattle.library_tableaux.proofs.equivalent.is_within.Goals as goal

pub returns : goal.returns
returns g c = λ kinds tt ts.
    let law = c.mappings_are_containment.ensures kinds c.args.s.now c.args.t.now c.full-all.result c.full-into.result c.keeps_its_rules.ensures.valid c.keeps_its_rules-2.ensures.valid ts tt (sym c.requires.heads)
    (c.full-all.ensures ∙ ap (λ (n : ℕ). 2 ^ n) c.row_count-2.ensures.is) (c.full-into.ensures ∙ ap (λ (n : ℕ). 2 ^ n) c.row_count-3.ensures.is) in (
      λ yes. law.0 (c.exists.new.room.list, c.exists.ensures.found yes),
      λ within. let list = law.1 within in true_from_ne_false c.exists.result (λ none. c.exists.ensures.none.0 none list.0 list.1),
    )
