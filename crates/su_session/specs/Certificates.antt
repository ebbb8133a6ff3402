-- How the certificate of a query is given.
-- trees: for each term and each of its kept rows, why the row can't be left out
use Rattle.std.specs.Prelude.{◌≡◌, ◌≤◌, ◌⊎◌, ℕ, List}
use Rattle.std.specs.Ordering.{nat_cmp}
use Rattle.std.specs.FinSet.{FinSet}
use Rattle.su_schema.specs.Entries.{attribute_kinds}
use Rattle.su_query.specs.declared.statements.Query.{Query as AQuery}
use Rattle.su_query.specs.NumberedConditions.{resolved_of}
use Rattle.su_state.specs.DatabaseValue.{DatabaseValue}
use Rattle.su_answer.specs.declared.preparing.Prepared.{Prepared}
use Rattle.su_answer.specs.Prepared.{IsPrepared}
use Rattle.su_check.specs.declared.nodes.Node.{Node}
use Rattle.su_refute.specs.AllTrees.{AreTrees, HasMoreNodes, all_nodes}
use Rattle.su_refute.specs.Written.{certificate_of, certificate_text}
use Rattle.su_show.specs.declared.statement_refusal.Refusal.TheVariants.{Nodes}
use Rattle.su_session.specs.declared.replies.Reply.{Reply}
use Rattle.su_session.specs.Outcomes.{Accepts, Refuses}
use Rattle.su_session.specs.Retrievals.{AfterTerms}

-- a certificate has at most this many nodes
abbrev pub node_limit : ℕ
node_limit = 200000

-- all trees together have more nodes than there may be
pub record HasTooManyNodes (db : DatabaseValue) (maximal : List (FinSet nat_cmp)) (q : AQuery) : Type 0 where
  pub prepared : Prepared
  pub is_prepared : IsPrepared db.schema maximal (resolved_of db.schema q) prepared
  pub more : HasMoreNodes prepared.minimals node_limit

-- the terms of the query, their kept rows and folds, and the trees
pub record ShowsCertificate (db : DatabaseValue) (maximal : List (FinSet nat_cmp)) (q : AQuery) (reply : Reply) : Type 0 where
  pub prepared : Prepared
  pub is_prepared : IsPrepared db.schema maximal (resolved_of db.schema q) prepared
  pub trees : List (List Node)
  pub are_trees : AreTrees prepared.minimals trees
  pub few : all_nodes trees ≤ node_limit
  pub text : Accepts (certificate_text (certificate_of (attribute_kinds db.schema) prepared.minimals trees)) reply

-- a query has its certificate unless that has too many nodes
abbrev pub Certifies : DatabaseValue → AQuery → Reply → DatabaseValue → Type 0
Certifies db q reply new = AfterTerms db q reply new (λ maximal.
    (HasTooManyNodes db maximal q × Refuses db Nodes reply new) ⊎ (ShowsCertificate db maximal q reply × (new ≡ db)))
