-- The four kinds of notes, one behind another.
use Rattle.std.proofs.Common.{◌++◌, refl}
use Rattle.std.proofs.lemmas.Result.{on_ok_weaker}
use Rattle.su_report.proofs.Texts.{four_added}
use Rattle.su_report.proofs.notes.push_notes.Goals as goal

pub returns : goal.returns
returns c =
    let lone = c.in_ok-push_alone.ensures in
    let redundant = c.in_ok-push_redundancies.ensures in
    let spare = c.in_ok-push_all_spares.ensures in
    on_ok_weaker c.push_object_notes.result
    (λ objects. (
      lone.0 ++ redundant.0 ++ spare.0 ++ objects.0,
      four_added c.args.out.now.items lone.0 redundant.0 spare.0 objects.0 c.push_alone.new.out.items c.push_redundancies.new.out.items c.push_all_spares.new.out.items c.push_object_notes.new.out.items lone.1 redundant.1 spare.1 objects.1,
      record { lone = lone.0; lone_are = lone.2; redundant = redundant.0; redundant_are = redundant.2; spare = spare.0; spare_are = spare.2; objects = objects.0; objects_are = objects.2; text_is = refl },
    ))
    c.push_object_notes.ensures
