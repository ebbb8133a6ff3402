-- In the column that gave the image the guide notes the rows alike with the target, and in another the rows that carry it are looked for; without an image no row is left out.
use Rattle.std.proofs.Common.{◌≡◌, ◌<◌, [], length, get_or, sym, ap, subst, ◌∙◌, arith}
use Rattle.std.specs.Int.{bit_at}
use Rattle.std.proofs.lemmas.List.{get_or_default}
use Rattle.std.proofs.lemmas.Nat.Bits.{bit_at_ones}
use Rattle.su_check.specs.Certificate.{lines_of}
use Rattle.su_check.specs.inside.Cells.{cell_at}
use Rattle.su_check.specs.SentRows.{numbered_row}
use Rattle.su_check.specs.inside.Boards.{no_pair}
use Rattle.su_check.specs.inside.Guides.{HasCarriers}
use Rattle.su_check.proofs.guides.with_image.Goals as goal

pub returns-in-None : goal.returns-in-None
returns-in-None c = λ j h told. let few = c.requires.guide.few in bit_at_ones 64 j (omega arith)

pub returns-in-Some : goal.returns-in-Some
returns-in-Some c = λ j h told.
    let t = lines_of c.args.term.now in
    let m = c.in-Some.ensures in
    let o = get_or c.args.sent.now c.args.place.step no_pair in
    let low = c.requires.within c.args.place.step no_pair m.step in
    let each = c.requires.guide.alike_each in
    let same = c.as_slice.ensures in
    let len = ap length same in
    let below : o.target < length c.as_slice.result.now = let l = low.target in omega (arith, each, len) in
    let here = (c.requires.guide.alike o.target low.target).cells c.args.column (c.requires.column o.target low.target) j h (told c.in-Some.field-0.now m ∙ sym m.image ∙ ap (cell_at (numbered_row t o.target)) c.if-place-column.true) in
    let sets = c.as_slice-in-Some.ensures ∙ c.index-as_slice-target.is ∙ get_or_default c.as_slice.result.now o.target c.index-as_slice-target.result [] below ∙ ap (λ a. get_or a o.target []) same in
    subst (λ s. bit_at (get_or s c.args.column 0) j ≡ 1) (sym sets) here

pub returns-in-Some-2 : goal.returns-in-Some-2
returns-in-Some-2 c = λ j h told. subst (λ r. HasCarriers r c.args.column c.in-Some.field-0.now c.carriers.result) c.as_slice-in-Some-2.ensures c.carriers.ensures j h (told c.in-Some.field-0.now c.in-Some.ensures)
