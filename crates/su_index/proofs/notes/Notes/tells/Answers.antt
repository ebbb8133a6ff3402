-- Rows that agree in the columns have one digest, so a row with no note of its digest agrees with none of the rows, which all have their notes.
use Rattle.std.proofs.Common.{◌≡◌, None, length, nat_eq, arith, ◌∙◌, ap, sym}
use Rattle.std.specs.HashMap.{get}
use Rattle.std.specs.Option.{is_some}
use Rattle.std.proofs.lemmas.Bool.{false≢true}
use Rattle.std.proofs.lemmas.List.Elements.{All-contains}
use Rattle.su_index.specs.inside.Notes.{digest_of, IsNoted}
use Rattle.su_index.proofs.Digests.{digest-same}
use Rattle.su_index.proofs.notes.Notes.tells.Goals as goal

pub returns-in-None : goal.returns-in-None
returns-in-None c other there agree =
    let width : length other ≡ c.requires.width.0 = All-contains (λ row. length row ≡ c.requires.width.0) c.args.rows.now other c.requires.width.2 there in
    let same : digest_of c.args.self.now.columns c.args.row.now ≡ digest_of c.args.self.now.columns other = digest-same c.args.self.now.columns c.args.row.now other (omega (arith, width, c.requires.width.3)) agree in
    let none : get nat_eq c.args.self.now.places (digest_of c.args.self.now.columns other) ≡ None = rw (← same, ← c.digest.ensures) (sym c.in-None.ensures.value) in
    let noted : IsNoted c.args.self.now.columns c.args.self.now.places other = c.requires.notes c.if-not-self.false other there in
    false≢true (sym (ap is_some none) ∙ noted)
