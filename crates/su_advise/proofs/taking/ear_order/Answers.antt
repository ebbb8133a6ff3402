-- The edges are those of the members, which an ear order takes apart, or nothing does.
use Rattle.std.proofs.Common.{ℕ, ◌≡◌, ◌<◌, ◌∙◌, List, All, map, length, get_or, ap, sym, subst}
use Rattle.std.proofs.lemmas.List.{length-map}
use Rattle.su_base.specs.Sets.{set_at}
use Rattle.su_tableau.specs.declared.symbols.Sym.{Sym}
use Rattle.su_reduce.specs.declared.edges.Ear.{Ear}
use Rattle.su_reduce.specs.Ears.{cells_of, numbers, AreAcyclic, IsEarOrder}
use Rattle.su_advise.specs.Acyclic.{edge_of, edges_of, members_of}
use Rattle.su_advise.proofs.Readings.{ears_low}
use Rattle.su_advise.proofs.taking.ear_order.Goals as goal

pub objects_of-requires : goal.objects_of-requires
objects_of-requires c =
    let f : ℕ → List Sym = λ o. edge_of (set_at c.args.objects.now o) in
    let n : ℕ = length c.as_slice-in-Some.result.now in
    let long : length (cells_of c.as_slice-2.result.now) ≡ n =
    ap length (ap cells_of c.as_slice-2.ensures ∙ c.in_ok-edges.ensures) ∙ length-map c.as_slice.result.now f ∙ ap length (c.as_slice.ensures ∙ sym c.as_slice-in-Some.ensures) in
    subst (λ (es : List Ear). All (λ e. e.edge < n) es) (sym c.as_slice-in-Some-2.ensures) (ears_low _ _ n long (rw c.in-Some.is at c.in_ok-order.ensures))

pub returns-in-Some : goal.returns-in-Some
returns-in-Some c =
    let f : ℕ → List Sym = λ o. edge_of (set_at c.args.objects.now o) in
    let members : List ℕ = members_of c.args.objects.now c.args.set in
    let cells : cells_of c.as_slice-2.result.now ≡ edges_of c.args.objects.now c.args.set =
    ap cells_of c.as_slice-2.ensures ∙ c.in_ok-edges.ensures ∙ ap (map f) (c.as_slice.ensures ∙ c.in_ok-members.ensures.members) in
    record {
      ears = c.in-Some.order;
      ears_are = subst (λ (es : List (List Sym)). IsEarOrder es c.in-Some.order) cells (rw c.in-Some.is at c.in_ok-order.ensures);
      order_is = c.in_ok-objects_of-in-Some.ensures ∙ ap (λ (ms : List ℕ). map (λ i. get_or ms i 0) (numbers c.as_slice-in-Some-2.result.now)) (c.as_slice-in-Some.ensures ∙ c.in_ok-members.ensures.members)
          ∙ ap (λ (es : List Ear). map (λ i. get_or members i 0) (numbers es)) c.as_slice-in-Some-2.ensures;
    }

pub returns : goal.returns
returns c =
    let f : ℕ → List Sym = λ o. edge_of (set_at c.args.objects.now o) in
    let cells : cells_of c.as_slice-2.result.now ≡ edges_of c.args.objects.now c.args.set =
    ap cells_of c.as_slice-2.ensures ∙ c.in_ok-edges.ensures ∙ ap (map f) (c.as_slice.ensures ∙ c.in_ok-members.ensures.members) in
    subst (λ (es : List (List Sym)). AreAcyclic es → ⊥) cells (rw c.in-None.is at c.in_ok-order.ensures)
