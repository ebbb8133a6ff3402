-- An order of ears is the witness that the edges are acyclic, and it is what reducing needs; that none was found is the refutation.
use Rattle.std.proofs.Common.{List, sym, subst}
use Rattle.su_reduce.specs.declared.edges.Ear.{Ear}
use Rattle.su_reduce.specs.Ears.{IsEarOrder, cells_of}
use Rattle.su_answer.proofs.supporting.left_of.Goals as goal

pub reduce-requires : goal.reduce-requires
reduce-requires c = record { order = subst (λ (o : List Ear). IsEarOrder (cells_of c.args.edges.now) o) (sym c.as_slice.ensures) (rw c.in-Some.is at c.in_ok-found.ensures) }

pub returns-in-None-clause-acyclic : goal.returns-in-None-clause-acyclic
returns-in-None-clause-acyclic c = rw c.in-None.is at c.in_ok-found.ensures

pub returns-clause-acyclic : goal.returns-clause-acyclic
returns-clause-acyclic c = (c.in-Some.order, rw c.in-Some.is at c.in_ok-found.ensures)
