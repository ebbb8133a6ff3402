-- Bytes have one verdict.
use Rattle.std.proofs.Common.{◌≡◌, ◌<◌, ◌≤◌, ℕ, List, length, get_or, slice_get, sym, ap, subst, ◌∙◌, ⊎_elim, arith}
use Rattle.std.proofs.lemmas.Bool.{cases_lt}
use Rattle.std.proofs.lemmas.Option.{slice_get_within}
use Rattle.su_tableau.specs.Kinds.{Kinds}
use Rattle.su_check.specs.declared.certificates.Certificate.{Certificate}
use Rattle.su_check.specs.declared.certificates.StatedTerm.{StatedTerm}
use Rattle.su_check.specs.declared.certificates.RowTree.{RowTree}
use Rattle.su_check.specs.declared.verdicts.Checked.{Checked}
use Rattle.su_check.specs.declared.verdicts.Checked.TheVariants.{Yes, No}
use Rattle.su_check.specs.declared.verdicts.Fault.{Fault}
use Rattle.su_check.specs.declared.verdicts.Fault.TheVariants.{Syntax, Form, Fold, Tree}
use Rattle.su_check.specs.Certificate.{IsGood}
use Rattle.su_check.specs.Verdict.{IsTreeFault, not_good, surplus, IsTermFault, IsVerdictOn, IsVerdict, no_certificate, on_certificate}
use Rattle.su_check.proofs.OneCertificate.{one_certificate}

-- ---- one tree is at fault

tree_one : (x : StatedTerm) (a b : ℕ) → IsTreeFault x a → IsTreeFault x b → a ≡ b
tree_one x a b (not_good j hj ea before none) (not_good k hk eb before' none') =
    ⊎_elim
    (λ (lt : j < k). absurd (none (before' j lt)))
    (λ (le : k ≤ j). ⊎_elim (λ (lt : k < j). absurd (none' (before k lt))) (λ (ge : j ≤ k). let e : j ≡ k = omega arith in ea ∙ ap (λ k. get_or x.kept k 0) e ∙ sym eb) (cases_lt k j))
    (cases_lt j k)
tree_one x a b (not_good j hj ea before none) (surplus all tree there e) = absurd (none (all j hj))
tree_one x a b (surplus all tree there e) (not_good k hk eb before none) = absurd (none (all k hk))
tree_one x a b (surplus all tree there e) (surplus all' tree' there' e') =
    let s = sym there ∙ there' in
    let same : tree ≡ tree' = cc in
    e ∙ ap (λ (t : RowTree). t.row) same ∙ sym e'

no_tree : (x : StatedTerm) (row : ℕ) (kinds : Kinds) (i : ℕ) → IsGood kinds i x → IsTreeFault x row → ⊥
no_tree x row kinds i g (not_good k hk e before none) = none (g.trees k hk)
no_tree x row kinds i g (surplus all tree there e) = let lt = slice_get_within x.trees (length x.kept) tree there in let le = g.no_surplus in omega arith

-- ---- one thing is at fault in a term

fault_one : (kinds : Kinds) (i : ℕ) (x : StatedTerm) (f g : Fault) → IsTermFault kinds i x f → IsTermFault kinds i x g → f ≡ g
fault_one kinds i x Syntax g a b = absurd a
fault_one kinds i x (Form j) Syntax a b = absurd b
fault_one kinds i x (Form j) (Form k) a b = ap Form (a.0 ∙ sym b.0)
fault_one kinds i x (Form j) (Fold k) a b = absurd (a.1 b.1)
fault_one kinds i x (Form j) (Tree k s) a b = absurd (a.1 b.1)
fault_one kinds i x (Fold j) Syntax a b = absurd b
fault_one kinds i x (Fold j) (Form k) a b = absurd (b.1 a.1)
fault_one kinds i x (Fold j) (Fold k) a b = ap Fold (a.0 ∙ sym b.0)
fault_one kinds i x (Fold j) (Tree k s) a b = absurd (a.2 b.2)
fault_one kinds i x (Tree j r) Syntax a b = absurd b
fault_one kinds i x (Tree j r) (Form k) a b = absurd (b.1 a.1)
fault_one kinds i x (Tree j r) (Fold k) a b = absurd (b.2 a.2)
fault_one kinds i x (Tree j r) (Tree k s) a b =
    let e : j ≡ k = a.0 ∙ sym b.0 in
    let d : r ≡ s = tree_one x r s a.3 b.3 in
    ap (λ j. Tree j r) e ∙ ap (Tree k) d

not_both : (kinds : Kinds) (i : ℕ) (x : StatedTerm) (f : Fault) → IsGood kinds i x → IsTermFault kinds i x f → ⊥
not_both kinds i x Syntax g a = a
not_both kinds i x (Form j) g a = a.1 g.form
not_both kinds i x (Fold j) g a = a.2 g.fold
not_both kinds i x (Tree j row) g a = no_tree x row kinds i g a.3

-- ---- one verdict

one_on : (kinds : Kinds) (terms : List StatedTerm) (v w : Checked) → IsVerdictOn kinds terms v → IsVerdictOn kinds terms w → v ≡ w
one_on kinds terms (Yes n) (Yes m) a b = ap Yes (a.0 ∙ sym b.0)
one_on kinds terms (Yes n) (No g) a b =
    let lt = slice_get_within terms b.place b.term b.there in let e = a.0 in
    absurd (not_both kinds b.place b.term g (a.1 b.place b.term (omega arith) b.there) b.at_fault)
one_on kinds terms (No f) (Yes m) a b =
    let lt = slice_get_within terms a.place a.term a.there in let e = b.0 in
    absurd (not_both kinds a.place a.term f (b.1 a.place a.term (omega arith) a.there) a.at_fault)
one_on kinds terms (No f) (No g) a b =
    ⊎_elim
    (λ (lt : a.place < b.place). absurd (not_both kinds a.place a.term f (b.before a.place a.term lt a.there) a.at_fault))
    (λ (le : b.place ≤ a.place).
    ⊎_elim
    (λ (lt : b.place < a.place). absurd (not_both kinds b.place b.term g (a.before b.place b.term lt b.there) b.at_fault))
    (λ (ge : a.place ≤ b.place).
    let e : b.place ≡ a.place = omega arith in
    let s = sym a.there ∙ ap (slice_get terms) (sym e) ∙ b.there in
    let same : b.term ≡ a.term = cc in
    ap No (fault_one kinds a.place a.term f g a.at_fault (subst (λ i. IsTermFault kinds i a.term g) e (subst (λ x. IsTermFault kinds b.place x g) same b.at_fault))))
    (cases_lt b.place a.place))
    (cases_lt a.place b.place)

pub one_verdict : (bytes : List ℕ) (v w : Checked) → IsVerdict bytes v → IsVerdict bytes w → v ≡ w
one_verdict bytes v w (no_certificate none e) (no_certificate none' e') = e ∙ sym e'
one_verdict bytes v w (no_certificate none e) (on_certificate d reads b) = absurd (none d reads)
one_verdict bytes v w (on_certificate c reads a) (no_certificate none e) = absurd (none c reads)
one_verdict bytes v w (on_certificate c reads a) (on_certificate d reads' b) = one_on c.kinds c.terms v w a (subst (λ (c : Certificate). IsVerdictOn c.kinds c.terms w) (sym (one_certificate bytes c d reads reads')) b)
