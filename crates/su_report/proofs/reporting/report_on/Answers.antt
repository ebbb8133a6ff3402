-- The parts, one behind another, on the schema's maximal objects, whose members are objects.
use Rattle.std.proofs.Common.{◌≡◌, ◌∙◌, ◌++◌, ℕ, List, All, length, refl, sym, ap, subst}
use Rattle.std.specs.Ordering.{nat_cmp}
use Rattle.std.specs.FinSet.{FinSet}
use Rattle.std.proofs.lemmas.List.{length-map}
use Rattle.su_schema.specs.Entries.{attributes_of}
use Rattle.su_advise.proofs.MaximalMembers.{IsBelow, members_are_objects}
use Rattle.su_report.specs.MaximalParts.{Hang}
use Rattle.su_report.specs.Report.{Notes, Pairs}
use Rattle.su_report.specs.inside.Added.{AddsFaults}
use Rattle.su_show.specs.inside.AddedTexts.{Adds}
use Rattle.su_report.proofs.Texts.{four_added}
use Rattle.su_report.proofs.reporting.report_on.Goals as goal

pub push_all_maximal-requires-clause-within : goal.push_all_maximal-requires-clause-within
push_all_maximal-requires-clause-within c =
    let schema = c.args.schema.now in
    let long : length c.as_slice-4.result.now ≡ length schema.objects = ap length (c.as_slice-4.ensures ∙ c.in_ok-objects.ensures.sets) ∙ length-map schema.objects attributes_of in
    subst (λ (sets : List (FinSet nat_cmp)). All (IsBelow (length c.as_slice-4.result.now)) sets) (sym c.as_slice-5.ensures)
    (subst (λ n. All (IsBelow n) c.in_ok-maximal.maximal) (sym long) (members_are_objects schema c.keeps_its_rules.ensures c.in_ok-maximal.maximal c.in_ok-maximal.ensures.list))

pub returns : goal.returns
returns c =
    let schema = c.args.schema.now in
    let maximal = c.in_ok-maximal.maximal in
    let loose = c.in_ok-loose.ensures in
    let notes : Adds (Notes schema maximal) c.push_loose_ends.new.out.items c.push_notes.new.out.items = rw c.as_slice-3.ensures at c.in_ok-push_notes.ensures in
    let cycles : AddsFaults (Hang schema 0 maximal) c.push_notes.new.out.items c.push_all_maximal.new.out.items c.in_ok-cycles.cycles = rw c.as_slice-5.ensures at c.in_ok-cycles.ensures in
    let pairs : Adds (Pairs schema maximal) c.push_all_maximal.new.out.items c.push_pairs.new.out.items = rw c.as_slice-7.ensures at c.in_ok-push_pairs.ensures in
    record {
      maximal = maximal;
      maximal_are = c.in_ok-maximal.ensures.list;
      loose = loose.0;
      some_loose = c.in_ok-loose.loose;
      loose_are = loose.2;
      notes = notes.0;
      notes_are = notes.2;
      cycles = cycles.0;
      some_cycle = c.in_ok-cycles.cycles;
      cycles_are = cycles.2;
      pairs = pairs.0;
      pairs_are = pairs.2;
      fault_is = refl;
      text_is = c.from_vec.ensures ∙ four_added c.new-out.result.items loose.0 notes.0 cycles.0 pairs.0 c.push_loose_ends.new.out.items c.push_notes.new.out.items c.push_all_maximal.new.out.items c.push_pairs.new.out.items loose.1 notes.1 cycles.1 pairs.1
          ∙ ap (λ (start : List ℕ). start ++ (loose.0 ++ notes.0 ++ cycles.0 ++ pairs.0)) c.new-out.ensures.items;
    }
