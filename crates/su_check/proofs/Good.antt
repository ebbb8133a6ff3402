-- A good term is least, and so are all where the verdict is yes.
use Rattle.std.proofs.Common.{◌≡◌, ℕ, List, get_or, [], All, Contains, subst, ◌∙◌, arith}
use Rattle.std.proofs.lemmas.List.{get_or_default}
use Rattle.std.proofs.lemmas.Option.{slice_get-get_or}
use Rattle.su_tableau.specs.Kinds.{Kinds}
use Rattle.su_check.specs.declared.nodes.Node.{Node}
use Rattle.su_check.specs.declared.certificates.Certificate.{Certificate}
use Rattle.su_check.specs.declared.certificates.StatedTerm.{StatedTerm}
use Rattle.su_check.specs.Refutations.{Refutes}
use Rattle.su_check.specs.Certificate.{tableau_of, lines_of, IsGood}
use Rattle.su_check.specs.LeastParts.{IsLeastListed}
use Rattle.su_check.specs.Verdict.{IsVerdictOn}
use Rattle.su_check.specs.declared.verdicts.Checked.{Checked}
use Rattle.su_check.specs.declared.verdicts.Checked.TheVariants.{Yes}
use Rattle.su_check.proofs.Least.{least_part}

-- each kept row has a tree
tree_of : (kinds : Kinds) (i : ℕ) (x : StatedTerm) → IsGood kinds i x → (r : ℕ) → Contains x.kept r → (n : Node) × Refutes (lines_of x) r n []
tree_of kinds i x good r has =
    let g = good.trees has.0 has.1 in
    let at : g.tree.row ≡ r = g.row ∙ get_or_default x.kept has.0 0 r has.1 ∙ has.2 in
    (g.tree.node, subst (λ r. Refutes (lines_of x) r g.tree.node []) at g.refutes)

pub good_least : (kinds : Kinds) (i : ℕ) (x : StatedTerm) → IsGood kinds i x → IsLeastListed kinds (tableau_of kinds x) x.kept
good_least kinds i x good = least_part (tableau_of kinds x) x.kept kinds x.fold good.form.valid good.form.typed good.form.ascending good.form.within good.fold (tree_of kinds i x good)

pub yes_least : (kinds : Kinds) (terms : List StatedTerm) (v : Checked) → IsVerdictOn kinds terms v → (n : ℕ) → v ≡ Yes n → All (λ x. IsLeastListed kinds (tableau_of kinds x) x.kept) terms
yes_least kinds terms v is n e k d h =
    let yes = subst (IsVerdictOn kinds terms) e is in
    let l = yes.0 in
    good_least kinds k (get_or terms k d) (yes.1 k (get_or terms k d) (omega arith) (slice_get-get_or terms k d h))

pub verdict_as : (kinds kinds' : Kinds) (terms terms' : List StatedTerm) (v : Checked) → kinds ≡ kinds' → terms ≡ terms' → IsVerdictOn kinds terms v → IsVerdictOn kinds' terms' v
verdict_as kinds kinds' terms terms' v e f is = subst (λ ts. IsVerdictOn kinds' ts v) f (subst (λ ks. IsVerdictOn ks terms v) e is)

pub certificate_least : (c other : Certificate) (v : Checked) (n : ℕ) → c ≡ other → IsVerdictOn c.kinds c.terms v → v ≡ Yes n → All (λ x. IsLeastListed other.kinds (tableau_of other.kinds x) x.kept) other.terms
certificate_least c other v n same is e = subst (λ (d : Certificate). All (λ x. IsLeastListed d.kinds (tableau_of d.kinds x) x.kept) d.terms) same (yes_least c.kinds c.terms v is n e)
