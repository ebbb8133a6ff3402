-- The text of an explanation, term by term.
use Rattle.std.proofs.Common.{◌≡◌, ℕ, List, ◌++◌, Some, length, slice_get, refl, ap, ◌∙◌, append_assoc}
use Rattle.std.specs.List.{range_with_len}
use Rattle.su_schema.specs.SchemaValue.{SchemaValue}
use Rattle.su_query.specs.declared.statements.Query.{Query}
use Rattle.su_query.specs.declared.resolving.Resolved.{Resolved}
use Rattle.su_steps.specs.declared.results.Term.{Term}
use Rattle.su_min.specs.declared.reduced.Reduced.{Reduced}
use Rattle.su_min.specs.Kept.{Minimised}
use Rattle.su_show.specs.Lines.{AreLines}
use Rattle.su_show.specs.inside.AddedTexts.{Adds}
use Rattle.su_show.specs.Explanations.{query_line, variables_line, last_line, IsTermText, IsExplanation}
use Rattle.su_show.specs.TableauLines.{tableau_lines}
use Rattle.su_show.specs.MinimalLines.{minimal_lines, IsEnd}

module _ (schema : SchemaValue) (q : Resolved) (terms : List Term) (minimals : List Minimised) (reduced : Reduced) where
  -- a term with its three parts
  pub term_text : (i : ℕ) (t : Term) (m : Minimised) (mid one two new : List ℕ) → slice_get terms i ≡ Some t → slice_get minimals i ≡ Some m → one ≡ mid ++ tableau_lines schema q i t → two ≡ one ++ minimal_lines m
      → Adds (IsEnd schema reduced i m) two new → Adds (IsTermText schema q terms minimals reduced i) mid new
  term_text i t m mid one two new t_is m_is e f end =
      let a = tableau_lines schema q i t in
      let b = minimal_lines m in (
        a ++ b ++ end.0,
        end.1 ∙ ap (λ s. s ++ end.0) (f ∙ ap (λ s. s ++ b) e ∙ append_assoc mid a b) ∙ append_assoc mid (a ++ b) end.0,
        record { term = t; term_is = t_is; minimal = m; minimal_is = m_is; end = end.0; end_is = end.2; is = refl },
      )

  -- the first line, the variables and the last line round the terms
  pub explained : (query : Query) (out new : List ℕ) → Adds (AreLines (IsTermText schema q terms minimals reduced) (range_with_len 0 (length terms))) (query_line query ++ variables_line q) out → new ≡ out ++ last_line terms reduced
      → IsExplanation schema query q terms minimals reduced new
  explained query out new added e = record { body = added.0; terms_are = added.2; is = e ∙ ap (λ s. s ++ last_line terms reduced) added.1 }
