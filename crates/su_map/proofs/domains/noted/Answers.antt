-- A number other than the row is in the new set exactly where it was in the old one.
use Rattle.std.proofs.Common.{◌≡◌, ◌≢◌, ◌∙◌, inl, inr, sym, ⊎_elim}
use Rattle.std.proofs.lemmas.Bool.{cases_eq}
use Rattle.su_map.proofs.domains.noted.Goals as goal

pub returns : goal.returns
returns c = λ q one.
    ⊎_elim
    (λ (e : q ≡ c.args.row). inr e)
    (λ (ne : q ≢ c.args.row). inl (sym (c.with.ensures.same q ne) ∙ one))
    (cases_eq q c.args.row)
