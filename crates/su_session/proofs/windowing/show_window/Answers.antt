-- The names are all known and the window is over their numbers; its ends, exact rows, too many members or a clash, are those of the definition, as want of memory is handed on.
use Rattle.std.proofs.Common.{◌≡◌, ◌↔◌, ℕ, List, Contains, None, refl, ap, ◌∙◌, subst, inl, inr}
use Rattle.std.proofs.lemmas.Result.{IfOk-weaker}
use Rattle.su_base.specs.declared.values.Value.{Value}
use Rattle.su_schema.specs.SchemaValue.{SchemaValue}
use Rattle.su_schema.specs.Entries.{attribute_names}
use Rattle.su_query.specs.Scopes.{first_unknown_name}
use Rattle.su_window.specs.Window.{InWindow}
use Rattle.su_session.specs.Windows.{attribute_numbers}
use Rattle.su_show.specs.Replies.{rows_text}
use Rattle.su_window.specs.declared.faults.WindowFault.TheVariants as window
use Rattle.su_window.specs.Refusals.{IsWindowRefusal}
use Rattle.su_show.specs.declared.statement_refusal.Refusal.TheVariants.{Query, WindowLimit, Inconsistent}
use Rattle.su_show.proofs.RefusalLines.{query_told}
use Rattle.su_session.specs.Outcomes.{Refuses}
use Rattle.su_session.specs.Windows.{ShowsWindow}
use Rattle.su_session.proofs.windowing.show_window.Goals as goal

pub returns-clause-shown : goal.returns-clause-shown
returns-clause-shown c =
    let db = c.args.db.now in
    let names = c.args.names.now in
    let found = c.in_ok-found.found in
    let known : first_unknown_name (attribute_names db.schema) names ≡ None = subst (λ (s : SchemaValue). first_unknown_name (attribute_names s) names ≡ None) c.schema.ensures c.in-Ok.ensures.known in
    let numbers : c.as_slice.result.now ≡ attribute_numbers db.schema names = c.as_slice.ensures ∙ c.in-Ok.ensures.numbers ∙ ap (λ (s : SchemaValue). attribute_numbers s names) c.schema.ensures in
    inr (
      known,
      inr (
        record {
          few = c.in_ok-found.ensures.fits.0;
          universe = c.in_ok-found.ensures.fits.1.0;
          fits = c.in_ok-found.ensures.fits.1.1;
          rows = found;
          rows_are = record {
            exact = subst (λ (ns : List ℕ). (h : List Value) → Contains found h ↔ InWindow db ns h) numbers c.in_ok-found.ensures.exact;
            ascending = c.in_ok-found.ensures.ascending;
          };
          text = record { accepted = c.accepted.ensures.accepted; text_is = c.accepted.ensures.text_is ∙ c.in_ok-rows.ensures ∙ ap (rows_text names) c.as_slice-2.ensures };
        },
        refl,
      ),
    )

pub returns-in-Err-clause-shown : goal.returns-in-Err-clause-shown
returns-in-Err-clause-shown c =
    let db = c.args.db.now in
    let names = c.args.names.now in
    let fault = c.in-Err.fault in
    IfOk-weaker c.refused.result (λ reply. Refuses db (Query fault) reply db) (λ reply. ShowsWindow db names reply db)
    (λ reply h. inl (fault, elim (rw c.schema.ensures at c.in-Err.ensures.refused) [ inl memory ↦ absurd (query_told db.schema reply.bytes fault h.line memory) | inr is ↦ is ], h)) c.refused.ensures

pub returns-in-Err-Limit-clause-shown : goal.returns-in-Err-Limit-clause-shown
returns-in-Err-Limit-clause-shown c =
    let db = c.args.db.now in
    let names = c.args.names.now in
    let known : first_unknown_name (attribute_names db.schema) names ≡ None = subst (λ (s : SchemaValue). first_unknown_name (attribute_names s) names ≡ None) c.schema.ensures c.in-Ok.ensures.known in
    let refused : IsWindowRefusal db window.Limit = elim (rw c.in-Err-Limit.field-0-is at c.in-Err-Limit.ensures.refused) [ inl memory ↦ absurd (cc) | inr h ↦ h ] in
    IfOk-weaker c.refused-in-Err-Limit.result (λ reply. Refuses db WindowLimit reply db) (λ reply. ShowsWindow db names reply db) (λ reply h. inr (known, inl (window.Limit, refused, h))) c.refused-in-Err-Limit.ensures

pub returns-in-Err-Inconsistent-clause-shown : goal.returns-in-Err-Inconsistent-clause-shown
returns-in-Err-Inconsistent-clause-shown c =
    let db = c.args.db.now in
    let names = c.args.names.now in
    let less = c.in-Err-Inconsistent.less in
    let greater = c.in-Err-Inconsistent.greater in
    let known : first_unknown_name (attribute_names db.schema) names ≡ None = subst (λ (s : SchemaValue). first_unknown_name (attribute_names s) names ≡ None) c.schema.ensures c.in-Ok.ensures.known in
    let refused : IsWindowRefusal db (window.Inconsistent less greater) = elim (rw c.in-Err-Inconsistent.field-0-is at c.in-Err-Inconsistent.ensures.refused) [ inl memory ↦ absurd (cc) | inr h ↦ h ] in
    IfOk-weaker c.refused-in-Err-Inconsistent.result (λ reply. Refuses db (Inconsistent less greater) reply db) (λ reply. ShowsWindow db names reply db) (λ reply h. inr (known, inl (window.Inconsistent less greater, refused, h))) c.refused-in-Err-Inconsistent.ensures
