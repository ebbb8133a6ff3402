-- What is shown of a query, of a closure and of a certificate is one text.
-- explanation, closure: as in su_show
use Rattle.std.specs.Prelude.{◌≡◌, ℕ, List}
use Rattle.std.specs.Ordering.{nat_cmp}
use Rattle.std.specs.FinSet.{FinSet}
use Rattle.su_schema.specs.SchemaValue.{SchemaValue}
use Rattle.su_query.specs.declared.statements.Query.{Query}
use Rattle.su_query.specs.declared.resolving.Resolved.{Resolved}
use Rattle.su_steps.specs.declared.results.Term.{Term}
use Rattle.su_min.specs.declared.reduced.Reduced.{Reduced}
use Rattle.su_min.specs.Kept.{Minimised}
use Rattle.su_show.specs.Replies.{IsClosureReply}
use Rattle.su_show.specs.Explanations.{IsExplanation}

-- a closure is told by one text
abbrev pub OneClosureReply : Type 0
OneClosureReply = (schema : SchemaValue) (start : FinSet nat_cmp) (text other : List ℕ) → IsClosureReply schema start text → IsClosureReply schema start other → text ≡ other

-- an explanation has one text
abbrev pub OneExplanation : Type 0
OneExplanation = (schema : SchemaValue) (query : Query) (q : Resolved) (terms : List Term) (minimals : List Minimised) (reduced : Reduced) (text other : List ℕ)
    → IsExplanation schema query q terms minimals reduced text → IsExplanation schema query q terms minimals reduced other → text ≡ other
