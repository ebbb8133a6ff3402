-- A marked row clashes with some row, the least marked row is the least that does, and where no row is marked no two clash.
use Rattle.std.proofs.Common.{◌≡◌, ◌<◌, ℕ, Bool, List, [], length, Some, None, sym, ap, subst, ◌∙◌, refl}
use Rattle.std.proofs.lemmas.List.{get_or_read}
use Rattle.su_base.specs.declared.values.Value.{Value}
use Rattle.su_state.specs.inside.Sides.{Clash, IsLeastClash, row_at}
use Rattle.su_state.specs.inside.Parts.{HaveOneWidth}
use Rattle.su_state.specs.inside.Pairs.{AreFirsts, AreMarks, IsLeastMarked}
use Rattle.su_state.proofs.Filled.{one_width}
use Rattle.su_state.proofs.Paired.{not_alone, none_clash, is_least_pair}
use Rattle.su_state.proofs.pairs.least_pair.Goals as goal

pub returns-in-Some : goal.returns-in-Some
returns-in-Some c =
    let rows : List (List Value) = c.args.table.now.rows in
    let firsts : List ℕ = c.in_ok-firsts.firsts in
    let marks : List Bool = c.in_ok-marks.marks.items in
    let n = length rows in
    let read = c.as_slice-rows.ensures.rows in
    let width : HaveOneWidth rows = one_width rows c.args.table.now.width c.as_slice-rows.ensures.relation.width in
    let are : AreFirsts c.args.sides.now.left rows firsts = subst (λ (rs : List (List Value)). AreFirsts c.args.sides.now.left rs firsts) read c.in_ok-firsts.ensures in
    let marked : AreMarks c.args.sides.now.right rows firsts n marks =
    subst (λ (rs : List (List Value)). AreMarks c.args.sides.now.right rs firsts (length rs) marks) read (subst (λ (fs : List ℕ). AreMarks c.args.sides.now.right c.as_slice-rows.result.now fs (length c.as_slice-rows.result.now) marks) c.as_slice.ensures c.in_ok-marks.ensures) in
    let least : IsLeastMarked rows firsts marks n (Some c.in-Some.first) =
    subst (λ (rs : List (List Value)). IsLeastMarked rs firsts marks (length rs) (Some c.in-Some.first)) read
    (subst (λ (fs : List ℕ). IsLeastMarked c.as_slice-rows.result.now fs marks (length c.as_slice-rows.result.now) (Some c.in-Some.first)) c.as_slice-2.ensures
    (subst (λ (ms : List Bool). IsLeastMarked c.as_slice-rows.result.now c.as_slice-2.result.now ms (length c.as_slice-rows.result.now) (Some c.in-Some.first)) c.as_slice-3.ensures.value c.in-Some.ensures)) in
    let within : c.in-Some.first < length c.as_slice-rows.result.now = rw read least.0 in
    let is : c.index-rows-first.result ≡ row_at rows c.in-Some.first = get_or_read c.as_slice-rows.result.now c.in-Some.first c.index-rows-first.result within c.index-rows-first.is [] ∙ ap (λ (rs : List (List Value)). row_at rs c.in-Some.first) read in
    absurd (not_alone c.args.sides.now rows firsts marks n refl width are marked c.in-Some.first least.0 least.1
    (λ other there clash. c.in-None-least_clash.ensures other there (subst (λ (row : List Value). Clash c.args.sides.now row other) (sym is) clash)))

pub returns-in-Some-least_clash : goal.returns-in-Some-least_clash
returns-in-Some-least_clash c =
    let rows : List (List Value) = c.args.table.now.rows in
    let firsts : List ℕ = c.in_ok-firsts.firsts in
    let marks : List Bool = c.in_ok-marks.marks.items in
    let n = length rows in
    let read = c.as_slice-rows.ensures.rows in
    let width : HaveOneWidth rows = one_width rows c.args.table.now.width c.as_slice-rows.ensures.relation.width in
    let are : AreFirsts c.args.sides.now.left rows firsts = subst (λ (rs : List (List Value)). AreFirsts c.args.sides.now.left rs firsts) read c.in_ok-firsts.ensures in
    let marked : AreMarks c.args.sides.now.right rows firsts n marks =
    subst (λ (rs : List (List Value)). AreMarks c.args.sides.now.right rs firsts (length rs) marks) read (subst (λ (fs : List ℕ). AreMarks c.args.sides.now.right c.as_slice-rows.result.now fs (length c.as_slice-rows.result.now) marks) c.as_slice.ensures c.in_ok-marks.ensures) in
    let least : IsLeastMarked rows firsts marks n (Some c.in-Some.first) =
    subst (λ (rs : List (List Value)). IsLeastMarked rs firsts marks (length rs) (Some c.in-Some.first)) read
    (subst (λ (fs : List ℕ). IsLeastMarked c.as_slice-rows.result.now fs marks (length c.as_slice-rows.result.now) (Some c.in-Some.first)) c.as_slice-2.ensures
    (subst (λ (ms : List Bool). IsLeastMarked c.as_slice-rows.result.now c.as_slice-2.result.now ms (length c.as_slice-rows.result.now) (Some c.in-Some.first)) c.as_slice-3.ensures.value c.in-Some.ensures)) in
    let within : c.in-Some.first < length c.as_slice-rows.result.now = rw read least.0 in
    let is : c.index-rows-first.result ≡ row_at rows c.in-Some.first = get_or_read c.as_slice-rows.result.now c.in-Some.first c.index-rows-first.result within c.index-rows-first.is [] ∙ ap (λ (rs : List (List Value)). row_at rs c.in-Some.first) read in
    let second = c.in-Some-least_clash.second in
    let partner = c.in-Some-least_clash.ensures in
    (least.0, partner.0, is_least_pair c.args.sides.now rows firsts marks n refl width are marked c.in-Some.first second least (subst (λ (row : List Value). IsLeastClash c.args.sides.now rows row (row_at rows second)) is partner.1))

pub returns : goal.returns
returns c =
    let rows : List (List Value) = c.args.table.now.rows in
    let firsts : List ℕ = c.in_ok-firsts.firsts in
    let marks : List Bool = c.in_ok-marks.marks.items in
    let n = length rows in
    let read = c.as_slice-rows.ensures.rows in
    let width : HaveOneWidth rows = one_width rows c.args.table.now.width c.as_slice-rows.ensures.relation.width in
    let are : AreFirsts c.args.sides.now.left rows firsts = subst (λ (rs : List (List Value)). AreFirsts c.args.sides.now.left rs firsts) read c.in_ok-firsts.ensures in
    let marked : AreMarks c.args.sides.now.right rows firsts n marks =
    subst (λ (rs : List (List Value)). AreMarks c.args.sides.now.right rs firsts (length rs) marks) read (subst (λ (fs : List ℕ). AreMarks c.args.sides.now.right c.as_slice-rows.result.now fs (length c.as_slice-rows.result.now) marks) c.as_slice.ensures c.in_ok-marks.ensures) in
    let least : IsLeastMarked rows firsts marks n None =
    subst (λ (rs : List (List Value)). IsLeastMarked rs firsts marks (length rs) None) read
    (subst (λ (fs : List ℕ). IsLeastMarked c.as_slice-rows.result.now fs marks (length c.as_slice-rows.result.now) None) c.as_slice-2.ensures
    (subst (λ (ms : List Bool). IsLeastMarked c.as_slice-rows.result.now c.as_slice-2.result.now ms (length c.as_slice-rows.result.now) None) c.as_slice-3.ensures.value c.in-None.ensures)) in
    none_clash c.args.sides.now rows firsts marks n refl width are marked least
