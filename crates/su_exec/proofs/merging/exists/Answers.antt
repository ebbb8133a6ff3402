-- Without edges and checks every valuation will do; else merging ends with one edge, which has rows exactly where the body gives anything.
use Rattle.std.proofs.Common.{◌≡◌, ◌∷◌, [], List, ℕ, length, refl, ap, sym, subst, rules}
use Rattle.std.proofs.lemmas.List.{nil_from_length}
use Rattle.std.proofs.lemmas.List.Elements.{All-nil}
use Rattle.su_exec.specs.declared.checks.Check.{Check}
use Rattle.su_exec.specs.inside.Checks.{all_hold}
use Rattle.su_exec.specs.inside.Edges.{Edge, Fits, FitsAll, Keeps, always}
use Rattle.su_exec.proofs.PartSteps.{keeps_trans}
use Rattle.su_exec.proofs.MoreAnswers.{some_told}
use Rattle.su_exec.proofs.merging.exists.Goals as goal

pub returns-then-is_empty : goal.returns-then-is_empty
returns-then-is_empty c =
    let values = c.args.codes.now in
    let es : List (Edge ℕ) = c.args.body.edges.items in
    let cs : List Check = c.args.body.checks.items in
    let few : length es ≡ 0 = search (rules, c.if-is_empty.true, c.is_empty.ensures) in
    let none : es ≡ [] = nil_from_length es few in
    let v : ℕ → ℕ = λ k. 0 in
    let P : Edge ℕ → Type 0 = λ e. Fits v e in
    record {
      valuation = v;
      fits = subst (λ (xs : List (Edge ℕ)). FitsAll v xs) (sym none) (All-nil P);
      passes = ap (λ xs. all_hold values xs v) (c.requires.last none);
      gives = refl;
    }

pub returns-in-Empty : goal.returns-in-Empty
returns-in-Empty c = rw c.in-Empty.is at c.in_ok-end.ensures.end

pub last_of-requires-clause-one : goal.last_of-requires-clause-one
last_of-requires-clause-one c = (rw c.in-One.is at c.in_ok-end.ensures.there).0

pub last_of-requires-clause-there : goal.last_of-requires-clause-there
last_of-requires-clause-there c = (rw c.in-One.is at c.in_ok-end.ensures.there).1

pub returns-in_ok-last-in-One : goal.returns-in_ok-last-in-One
returns-in_ok-last-in-One c =
    let values = c.args.codes.now in
    let start : List (Edge ℕ) = c.args.body.edges.items in
    let rest : List (Edge ℕ) = c.merge_down.new.body.edges.items in
    let first : List Check = c.args.body.checks.items in
    let news : List Check = c.merge_down.new.body.checks.items in
    let g : Edge ℕ = c.in_ok-last-in-One.last in
    let keeps : Keeps [] start (all_hold values first) rest (all_hold values news) = rw c.in-One.is at c.in_ok-end.ensures.end in
    some_told start (all_hold values first) g c.has_rows.result (keeps_trans [] start rest (g ∷ []) (all_hold values first) (all_hold values news) always keeps c.in_ok-last-in-One.ensures.keeps) c.has_rows.ensures
