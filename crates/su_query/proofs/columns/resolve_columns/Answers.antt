-- Each ref of the condition has the number of its column, so the condition over numbers is that over names with the columns for its refs, and its first two kinds are those of the names.
use Rattle.std.proofs.Common.{◌≡◌, ◌∙◌, Bor, List, [], None, Some, inl, inr, map, sym, ap, subst}
use Rattle.std.specs.Prelude.{option_map}
use Rattle.std.proofs.lemmas.List.{append-nil}
use Rattle.std.proofs.lemmas.Option.{get_or_from_slice_get}
use Rattle.su_base.specs.declared.values.Kind.{Kind}
use Rattle.su_base.specs.declared.values.Column.{Column}
use Rattle.su_schema.specs.Entries.{relation_columns}
use Rattle.su_where.specs.Truth.{comparisons_of}
use Rattle.su_query.specs.declared.refs.Ref.{Ref}
use Rattle.su_query.specs.declared.scopes.Scope.TheVariants.{Columns}
use Rattle.su_query.specs.declared.faults.QueryFault.TheVariants.{Kinds}
use Rattle.su_query.specs.Refs.{refs_of}
use Rattle.su_query.specs.Scopes.{names_in, kinds_in, first_unknown}
use Rattle.su_query.specs.Places.{number_in}
use Rattle.su_query.specs.Lookup.{IsColumnCondition}
use Rattle.su_query.specs.Ranges.{IsOnColumns}
use Rattle.su_query.proofs.Literals.{fits_here, kinds_here}
use Rattle.su_query.proofs.Ranged.{column_numbers, columns_typed, fault_of_kinds}
use Rattle.su_query.proofs.columns.resolve_columns.Goals as goal

pub numbered-requires : goal.numbered-requires
numbered-requires c =
    let f = number_in c.args.schema.now (Columns c.args.relation) [] [] in
    let all = ap (map (λ (r : Bor Ref). r.now)) c.as_slice.ensures ∙ c.in_ok-refs.ensures in
    (f, [], c.new.ensures ∙ c.as_slice-2.ensures ∙ c.in-Ok.ensures.numbers ∙ ap (map f) all ∙ sym (append-nil (map f (refs_of c.args.cond.now))))

pub check-requires : goal.check-requires
check-requires c =
    let schema = c.args.schema.now in
    let r = c.args.relation in
    let f = number_in schema (Columns r) [] [] in
    let all = ap (map (λ (x : Bor Ref). x.now)) c.as_slice.ensures ∙ c.in_ok-refs.ensures in
    let known : first_unknown (names_in schema (Columns r)) (refs_of c.args.cond.now) ≡ None = subst (λ (rs : List Ref). first_unknown (names_in schema (Columns r)) rs ≡ None) all c.in-Ok.ensures.known in
    let there = c.new.ensures ∙ c.as_slice-2.ensures ∙ c.in-Ok.ensures.numbers ∙ ap (map f) all ∙ sym (append-nil (map f (refs_of c.args.cond.now))) in
    let kinds = c.as_slice-3.ensures ∙ c.in_ok-kinds.ensures ∙ ap (map (λ (x : Column). x.kind)) (sym (get_or_from_slice_get (relation_columns schema) r c.columns.result.now [] c.columns.ensures.at)) in
    fits_here schema (Columns r) (kinds_in schema (Columns r)) f c.args.cond.now (column_numbers schema r c.args.cond.now known) c.as_slice-3.result.now kinds c.in_ok-cond.cond (c.in_ok-cond.ensures f [] there).0

pub returns-in-Ok-check-clause-numbers : goal.returns-in-Ok-check-clause-numbers
returns-in-Ok-check-clause-numbers c =
    let f = number_in c.args.schema.now (Columns c.args.relation) [] [] in
    let all = ap (map (λ (x : Bor Ref). x.now)) c.as_slice.ensures ∙ c.in_ok-refs.ensures in
    (c.in_ok-cond.ensures f [] (c.new.ensures ∙ c.as_slice-2.ensures ∙ c.in-Ok.ensures.numbers ∙ ap (map f) all ∙ sym (append-nil (map f (refs_of c.args.cond.now))))).0

pub returns-in-Ok-check-clause-known : goal.returns-in-Ok-check-clause-known
returns-in-Ok-check-clause-known c =
    let schema = c.args.schema.now in
    let r = c.args.relation in
    let f = number_in schema (Columns r) [] [] in
    let all = ap (map (λ (x : Bor Ref). x.now)) c.as_slice.ensures ∙ c.in_ok-refs.ensures in
    let known : first_unknown (names_in schema (Columns r)) (refs_of c.args.cond.now) ≡ None = subst (λ (rs : List Ref). first_unknown (names_in schema (Columns r)) rs ≡ None) all c.in-Ok.ensures.known in
    let there = c.new.ensures ∙ c.as_slice-2.ensures ∙ c.in-Ok.ensures.numbers ∙ ap (map f) all ∙ sym (append-nil (map f (refs_of c.args.cond.now))) in
    let kinds = c.as_slice-3.ensures ∙ c.in_ok-kinds.ensures ∙ ap (map (λ (x : Column). x.kind)) (sym (get_or_from_slice_get (relation_columns schema) r c.columns.result.now [] c.columns.ensures.at)) in
    let same = kinds_here schema (Columns r) (kinds_in schema (Columns r)) f c.args.cond.now (column_numbers schema r c.args.cond.now known) c.as_slice-3.result.now kinds c.in_ok-cond.cond (c.in_ok-cond.ensures f [] there).0 in
    fault_of_kinds schema (Columns r) (refs_of c.args.cond.now) (comparisons_of c.args.cond.now) known None (ap (option_map (λ (k : Kind × Kind). Kinds k.0 k.1)) (sym same ∙ c.in-Ok-check.ensures.alike))

pub returns-in-Ok-check-clause-in_range : goal.returns-in-Ok-check-clause-in_range
returns-in-Ok-check-clause-in_range c =
    let schema = c.args.schema.now in
    let r = c.args.relation in
    let f = number_in schema (Columns r) [] [] in
    let all = ap (map (λ (x : Bor Ref). x.now)) c.as_slice.ensures ∙ c.in_ok-refs.ensures in
    let known : first_unknown (names_in schema (Columns r)) (refs_of c.args.cond.now) ≡ None = subst (λ (rs : List Ref). first_unknown (names_in schema (Columns r)) rs ≡ None) all c.in-Ok.ensures.known in
    let there = c.new.ensures ∙ c.as_slice-2.ensures ∙ c.in-Ok.ensures.numbers ∙ ap (map f) all ∙ sym (append-nil (map f (refs_of c.args.cond.now))) in
    let kinds = c.as_slice-3.ensures ∙ c.in_ok-kinds.ensures ∙ ap (map (λ (x : Column). x.kind)) (sym (get_or_from_slice_get (relation_columns schema) r c.columns.result.now [] c.columns.ensures.at)) in
    let made = (c.in_ok-cond.ensures f [] there).0 in
    let same = kinds_here schema (Columns r) (kinds_in schema (Columns r)) f c.args.cond.now (column_numbers schema r c.args.cond.now known) c.as_slice-3.result.now kinds c.in_ok-cond.cond made in
    let on : IsColumnCondition schema r c.args.cond.now =
    fault_of_kinds schema (Columns r) (refs_of c.args.cond.now) (comparisons_of c.args.cond.now) known None (ap (option_map (λ (k : Kind × Kind). Kinds k.0 k.1)) (sym same ∙ c.in-Ok-check.ensures.alike)) in
    subst (IsOnColumns schema r) (sym made) (columns_typed schema r c.args.cond.now c.requires.few on)

pub returns-clause-refused : goal.returns-clause-refused
returns-clause-refused c =
    let schema = c.args.schema.now in
    let r = c.args.relation in
    let f = number_in schema (Columns r) [] [] in
    let fault = c.in-Err-check.fault in
    let all = ap (map (λ (x : Bor Ref). x.now)) c.as_slice.ensures ∙ c.in_ok-refs.ensures in
    let known : first_unknown (names_in schema (Columns r)) (refs_of c.args.cond.now) ≡ None = subst (λ (rs : List Ref). first_unknown (names_in schema (Columns r)) rs ≡ None) all c.in-Ok.ensures.known in
    let there = c.new.ensures ∙ c.as_slice-2.ensures ∙ c.in-Ok.ensures.numbers ∙ ap (map f) all ∙ sym (append-nil (map f (refs_of c.args.cond.now))) in
    let kinds = c.as_slice-3.ensures ∙ c.in_ok-kinds.ensures ∙ ap (map (λ (x : Column). x.kind)) (sym (get_or_from_slice_get (relation_columns schema) r c.columns.result.now [] c.columns.ensures.at)) in
    let same = kinds_here schema (Columns r) (kinds_in schema (Columns r)) f c.args.cond.now (column_numbers schema r c.args.cond.now known) c.as_slice-3.result.now kinds c.in_ok-cond.cond (c.in_ok-cond.ensures f [] there).0 in
    elim c.in-Err-check.ensures.refused [
      | inl memory ↦ inl memory
      | inr told ↦ inr (fault_of_kinds schema (Columns r) (refs_of c.args.cond.now) (comparisons_of c.args.cond.now) known (Some fault) (ap (option_map (λ (k : Kind × Kind). Kinds k.0 k.1)) (sym same) ∙ told))
    ]
