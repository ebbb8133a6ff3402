-- The lines are those of the used attributes, by what each maximal object covers.
use Rattle.std.proofs.Common.{ℕ, ◌<◌, ◌↔◌, IsTrue, List, length, subst}
use Rattle.std.specs.Ordering.{nat_cmp}
use Rattle.std.specs.FinSet.{FinSet, contains}
use Rattle.std.proofs.lemmas.Result.{on_ok_weaker}
use Rattle.su_base.specs.Sets.{set_at}
use Rattle.su_maxobj.specs.AdjoinableObjects.{IsAttributesOf}
use Rattle.su_report.specs.MaximalParts.{AreCovers}
use Rattle.su_report.proofs.pair_parts.push_pairs.Goals as goal

pub returns : goal.returns
returns c =
    let covers = c.in_ok-covers.covers in
    let maximal = c.args.maximal.now in
    let are : AreCovers c.args.schema.now maximal covers = record {
      same_length = c.in_ok-covers.ensures.same_length;
      each = subst (λ (objects : List (FinSet nat_cmp)). (k : ℕ) → k < length maximal → IsAttributesOf objects (set_at maximal k) (set_at covers k)) c.requires.objects c.in_ok-covers.ensures.each;
    } in
    on_ok_weaker c.push_used.result
    (λ lines. (
      lines.0,
      lines.1,
      record {
        covers = covers;
        covers_are = are;
        all = c.used_in-used.result;
        all_are = subst (λ (objects : List (FinSet nat_cmp)). (a : ℕ) → IsTrue (contains c.used_in-used.result a) ↔ ((k : ℕ) × (k < length objects) × IsTrue (contains (set_at objects k) a))) c.requires.objects c.used_in-used.ensures;
        lines = rw c.as_slice.ensures at lines.2;
      },
    ))
    c.push_used.ensures
