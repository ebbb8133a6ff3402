-- What an error that is passed on was found to be.
use Rattle.std.proofs.Common.{◌≡◌, Result, Ok, Err, IfErr, OnErr, IsErrAnd, sym, subst}

pub passed_on : {T E : Type 0} (result : Result T E) (e : E) (P : E → Type 0) → IsErrAnd result (λ y. y ≡ e) → P e → IfErr result P
passed_on (Ok x) e P is p = tt
passed_on (Err y) e P is p = subst P (sym is) p

-- what holds of each error
pub err_passed : {T E : Type 0} (result : Result T E) (e : E) (P : Type 0) → IsErrAnd result (λ y. y ≡ e) → P → OnErr result P
err_passed (Ok x) e P is p = tt
err_passed (Err y) e P is p = p
