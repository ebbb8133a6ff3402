-- The terms of a query: one tableau for each disjunct and each choice, closed under the dependencies.
-- case: a disjunct and a choice; the cases stand disjunct by disjunct, choice by choice
use Rattle.std.specs.Prelude.{◌≡◌, ℕ, List, length, map, flat_map, Contains, Option}
use Rattle.std.specs.List.{range_with_len, filter_map, AllZip}
use Rattle.std.specs.Ordering.{nat_cmp}
use Rattle.std.specs.FinSet.{FinSet}
use Rattle.su_base.specs.declared.values.Value.{Value}
use Rattle.su_where.specs.Disjunct.{disjuncts_of}
use Rattle.su_tableau.specs.Valuations.{Ext, Cut}
use Rattle.su_schema.specs.SchemaValue.{SchemaValue}
use Rattle.su_query.specs.declared.resolving.Resolved.{Resolved}
use Rattle.su_steps.specs.declared.results.Term.{Term}
use Rattle.su_steps.specs.Choices.{choices}
use Rattle.su_steps.specs.Cases.{Case, IsOutOf}

-- a disjunct with a choice
abbrev pub case_of : ℕ → List ℕ → Case
case_of i choice = record { disjunct = i; choice = choice }

-- each disjunct with each choice, the disjuncts slowest
abbrev pub cases : SchemaValue → List (FinSet nat_cmp) → Resolved → List Case
cases schema maximal q = flat_map (λ i. map (case_of i) (choices schema maximal q)) (range_with_len 0 (length (disjuncts_of q.cond)))

-- the terms of these cases: what comes out of each, one after another
pub record AreTermsOf (schema : SchemaValue) (maximal : List (FinSet nat_cmp)) (q : Resolved) (cs : List Case) (ts : List Term) : Type 0 where
  pub outs : List (Option Term)
  pub each : AllZip (IsOutOf schema maximal q) cs outs
  pub are : ts ≡ filter_map (λ out. out) outs

-- the terms of the query: those of its cases
abbrev pub AreTerms : SchemaValue → List (FinSet nat_cmp) → Resolved → List Term → Type 0
AreTerms schema maximal q ts = AreTermsOf schema maximal q (cases schema maximal q) ts

-- h has the outputs of an answer of some term over the universe whose compared values meet the term's comparisons
abbrev pub InUnion : List Term → List (List Value) → List Value → Type 0
InUnion ts universe h = (t : Term) × Contains ts t × Cut t.tableau (Ext t.tableau universe) h
