-- What is shown of a query and of a closure is one text.
use Rattle.std.proofs.Common.{◌≡◌, ℕ, List, [], ◌∷◌, ◌++◌, ap, sym, ◌∙◌, subst, inl, inr}
use Rattle.std.proofs.lemmas.Option.{same_Some}
use Rattle.su_schema.specs.SchemaValue.{SchemaValue}
use Rattle.su_query.specs.declared.resolving.Resolved.{Resolved}
use Rattle.su_steps.specs.declared.results.Term.{Term}
use Rattle.su_map.specs.Lists.{row_numbers}
use Rattle.su_min.specs.declared.reduced.Reduced.{Reduced}
use Rattle.su_min.specs.Kept.{Minimised}
use Rattle.su_show.specs.Lines.{AreLines}
use Rattle.su_show.specs.MinimalLines.{minimal_lines, sources_line, IsSourcesLine, IsEnd}
use Rattle.su_show.specs.TableauLines.{tableau_lines}
use Rattle.su_show.specs.Replies.{closure_reply}
use Rattle.su_show.specs.Explanations.{query_line, variables_line, last_line, IsTermText}
use Rattle.su_once.specs.Texts.{OneClosureReply, OneExplanation}
use Rattle.su_once.proofs.Closed.{one_set, one_closure, one_derivation}

-- lines, where each item has one
module _ {A : Type 0} (P : A → List ℕ → Type 0) (one : (x : A) (line other : List ℕ) → P x line → P x other → line ≡ other) where
  pub one_text : (xs : List A) (text other : List ℕ) → AreLines P xs text → AreLines P xs other → text ≡ other
  one_text [] text other h k = h ∙ sym k
  one_text (x ∷ xs) text other (line, rest, is, here, more) (same, behind, also, there, others) =
      let first = one x line same here there in
      let later = one_text xs rest behind more others in
      is ∙ (λ i. first i ++ later i) ∙ sym also

one_sources_line : (schema : SchemaValue) (m : Minimised) (r : ℕ) (line other : List ℕ) → IsSourcesLine schema m r line → IsSourcesLine schema m r other → line ≡ other
one_sources_line schema m r line other h k =
    let same = one_set h.sources k.sources (λ o there. (k.are o).1 ((h.are o).0 there)) (λ o there. (h.are o).1 ((k.are o).0 there)) in
    h.is ∙ ap (sources_line schema r) same ∙ sym k.is

one_end : (schema : SchemaValue) (reduced : Reduced) (i : ℕ) (m : Minimised) (end other : List ℕ) → IsEnd schema reduced i m end → IsEnd schema reduced i m other → end ≡ other
one_end schema reduced i m end other (inl (kept, h)) (inl (also, k)) = one_text (IsSourcesLine schema m) (one_sources_line schema m) (row_numbers m.tableau m.mask) end other h k
one_end schema reduced i m end other (inl (kept, h)) (inr (dropped, k)) = absurd (dropped kept)
one_end schema reduced i m end other (inr (dropped, h)) (inl (kept, k)) = absurd (dropped kept)
one_end schema reduced i m end other (inr (dropped, h)) (inr (also, k)) = h ∙ sym k

module _ (schema : SchemaValue) (q : Resolved) (terms : List Term) (minimals : List Minimised) (reduced : Reduced) where
  one_term_text : (i : ℕ) (text other : List ℕ) → IsTermText schema q terms minimals reduced i text → IsTermText schema q terms minimals reduced i other → text ≡ other
  one_term_text i text other h k =
      let term = same_Some h.term k.term (sym h.term_is ∙ k.term_is) in
      let minimal = same_Some h.minimal k.minimal (sym h.minimal_is ∙ k.minimal_is) in
      let end = one_end schema reduced i h.minimal h.end k.end h.end_is (subst (λ (m : Minimised). IsEnd schema reduced i m k.end) (sym minimal) k.end_is) in
      h.is ∙ (λ t. tableau_lines schema q i (term t) ++ minimal_lines (minimal t) ++ end t) ∙ sym k.is

pub one_explanation : OneExplanation
one_explanation schema query q terms minimals reduced text other h k =
    let body = one_text (IsTermText schema q terms minimals reduced) (one_term_text schema q terms minimals reduced) _ h.body k.body h.terms_are k.terms_are in
    h.is ∙ ap (λ b. query_line query ++ variables_line q ++ b ++ last_line terms reduced) body ∙ sym k.is

pub one_closure_reply : OneClosureReply
one_closure_reply schema start text other h k =
    let closed = one_closure schema.fds start h.closed k.closed h.closed_is k.closed_is in
    let used = one_derivation schema.fds start h.used k.used h.used_is k.used_is in
    h.text_is ∙ (λ i. closure_reply schema (closed i) (used i)) ∙ sym k.text_is
