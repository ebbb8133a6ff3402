-- The order of kinds, kind by kind.
use Rattle.std.proofs.Common.{◌≡◌, true, refl}
use Rattle.su_lex.specs.declared.signs.Sign.TheVariants as sign
use Rattle.su_faults.specs.declared.sorts.Sort.{Sort}
use Rattle.su_faults.specs.declared.sorts.Sort.TheVariants as sort
use Rattle.su_faults.specs.declared.sorts.Word.TheVariants as word
use Rattle.su_places.specs.Places.{is_wanted}
use Rattle.su_places.specs.declared.kinds.TheConstants.{KINDS}

pub each_kind : (kind : Sort) → is_wanted KINDS kind ≡ true
each_kind (sort.Word word.Attribute) = refl
each_kind (sort.Word word.Relation) = refl
each_kind (sort.Word word.Object) = refl
each_kind (sort.Word word.From) = refl
each_kind (sort.Word word.Fd) = refl
each_kind (sort.Word word.Maximal) = refl
each_kind (sort.Word word.Int) = refl
each_kind (sort.Word word.Text) = refl
each_kind (sort.Word word.Insert) = refl
each_kind (sort.Word word.Delete) = refl
each_kind (sort.Word word.Where) = refl
each_kind (sort.Word word.Load) = refl
each_kind (sort.Word word.Print) = refl
each_kind (sort.Word word.Schema) = refl
each_kind (sort.Word word.Closure) = refl
each_kind (sort.Word word.Retrieve) = refl
each_kind (sort.Word word.Explain) = refl
each_kind (sort.Word word.And) = refl
each_kind (sort.Word word.Or) = refl
each_kind (sort.Word word.Not) = refl
each_kind (sort.Word word.Compare) = refl
each_kind (sort.Word word.With) = refl
each_kind (sort.Word word.Window) = refl
each_kind sort.Name = refl
each_kind sort.Number = refl
each_kind sort.Text = refl
each_kind (sort.Sign sign.Open) = refl
each_kind (sort.Sign sign.Close) = refl
each_kind (sort.Sign sign.Comma) = refl
each_kind (sort.Sign sign.Dot) = refl
each_kind (sort.Sign sign.Arrow) = refl
each_kind (sort.Sign sign.Equal) = refl
each_kind (sort.Sign sign.NotEqual) = refl
each_kind (sort.Sign sign.Less) = refl
each_kind (sort.Sign sign.LessEqual) = refl
each_kind (sort.Sign sign.Greater) = refl
each_kind (sort.Sign sign.GreaterEqual) = refl
each_kind sort.End = refl
