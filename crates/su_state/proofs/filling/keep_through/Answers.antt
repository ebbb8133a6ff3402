-- Where the dependency lies in the object it is kept exactly where no two rows clash on the columns of its sides, and elsewhere it isn't enforced.
use Rattle.std.proofs.Common.{◌≡◌, ◌++◌, length, slice_get, get_or, Some, refl, ap, ◌∙◌}
use Rattle.std.proofs.lemmas.Bool.{OnTrue_at, OnTrue_from}
use Rattle.std.proofs.lemmas.Option.{slice_get-get_or, slice_get_read}
use Rattle.std.proofs.lemmas.Result.{IfOk-weaker}
use Rattle.su_schema.specs.SchemaValue.{ObjectEntry}
use Rattle.su_schema.proofs.Entries.{blank_object}
use Rattle.su_state.proofs.Filled.{keeps_unclashing, keeps_not_enforced}
use Rattle.su_state.proofs.filling.keep_through.Goals as goal

pub returns-in-Some : goal.returns-in-Some
returns-in-Some c =
    let entry : ObjectEntry = get_or c.args.schema.now.objects c.args.object blank_object in
    let placed : slice_get c.args.schema.now.objects c.args.object ≡ Some entry = slice_get-get_or c.args.schema.now.objects c.args.object blank_object c.requires.object in
    let numbered : slice_get c.args.schema.now.fds c.args.fd ≡ Some c.index-fds-fd.result = slice_get_read c.args.schema.now.fds (length c.args.schema.now.fds) c.args.fd c.index-fds-fd.result refl c.requires.fd (c.index-fds-fd.is ∙ ap (λ fds. get_or fds c.args.fd c.index-fds-fd.result) c.fds.ensures) in
    IfOk-weaker c.none_clash.result _ _
    (λ none given. OnTrue_from none _ (λ yes.
    keeps_unclashing c.args.schema.now c.args.both.now.relation (c.args.both.now.stored.now ++ c.args.both.now.more.now) c.args.fd c.args.object c.index-fds-fd.result entry numbered placed c.in-Some.sides (c.in-Some.ensures entry placed) (OnTrue_at yes given)))
    c.none_clash.ensures

pub returns-in-None : goal.returns-in-None
returns-in-None c =
    let entry : ObjectEntry = get_or c.args.schema.now.objects c.args.object blank_object in
    let placed : slice_get c.args.schema.now.objects c.args.object ≡ Some entry = slice_get-get_or c.args.schema.now.objects c.args.object blank_object c.requires.object in
    let numbered : slice_get c.args.schema.now.fds c.args.fd ≡ Some c.index-fds-fd.result = slice_get_read c.args.schema.now.fds (length c.args.schema.now.fds) c.args.fd c.index-fds-fd.result refl c.requires.fd (c.index-fds-fd.is ∙ ap (λ fds. get_or fds c.args.fd c.index-fds-fd.result) c.fds.ensures) in
    keeps_not_enforced c.args.schema.now c.args.both.now.relation (c.args.both.now.stored.now ++ c.args.both.now.more.now) c.args.fd c.args.object c.index-fds-fd.result entry numbered placed (c.in-None.ensures entry placed)
