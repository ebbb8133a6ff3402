-- The tokens that lead from the start of statements to an end are the statements.
-- f: the frame; n: how many parentheses are open, none
use Rattle.std.proofs.Common.{◌≡◌, ◌⊎◌, inl, inr, ℕ, zero, Option, Some, None, List, [], ◌∷◌, refl, sym, ap, ◌∙◌, subst, codes}
use Rattle.su_base.specs.Name.{IsName}
use Rattle.su_base.specs.declared.values.Value.{Value}
use Rattle.su_base.specs.declared.values.Value.TheVariants as value
use Rattle.su_lex.specs.Names.{Begins}
use Rattle.su_lex.specs.declared.meaning.Symbol.{Symbol}
use Rattle.su_lex.specs.declared.meaning.Symbol.TheVariants.{Word, Sign}
use Rattle.su_lex.specs.declared.signs.Sign.{Sign as ASign}
use Rattle.su_lex.specs.declared.signs.Sign.TheVariants as sign
use Rattle.su_where.specs.declared.conditions.Condition.TheVariants.{All}
use Rattle.su_query.specs.declared.refs.Ref.{Ref as ARef}
use Rattle.su_query.specs.declared.statements.Query.{Query as AQuery}
use Rattle.su_query.specs.declared.statements.Statement.{Statement}
use Rattle.su_query.specs.declared.statements.Statement.TheVariants.{Insert, Delete, DeleteWhere, Load, Print, Schema, Closure, Retrieve, Explain, Certify, Support, Compare, Window}
use Rattle.su_query.specs.Refs.{NamedCond}
use Rattle.su_query.specs.inside.ReadItems as items
use Rattle.su_query.specs.inside.ReadItems.{ReadsValue, ReadsRef, More, Several}
use Rattle.su_query.specs.inside.ReadQueries as queries
use Rattle.su_query.specs.inside.ReadQueries.{ReadsWhere, ReadsQuery, ReadsEnclosed, PairForm}
use Rattle.su_query.specs.inside.ReadRelations.{RowForm, ConditionForm, FileForm}
use Rattle.su_query.specs.inside.ReadConditions.{ReadsCond}
use Rattle.su_query.specs.inside.ReadForms as forms
use Rattle.su_query.specs.inside.ReadForms.{ReadsForm}
use Rattle.su_query.proofs.Readable.{form_readable}
use Rattle.su_query.proofs.Spelled.{form_spelled}
use Rattle.su_faults.specs.declared.spots.Language.TheVariants as language
use Rattle.su_faults.specs.declared.spots.Frame.{Frame}
use Rattle.su_faults.specs.declared.spots.Frame.TheVariants as frame
use Rattle.su_faults.specs.declared.spots.Spot.TheVariants as spot
use Rattle.su_faults.specs.declared.spots.InStatement.TheVariants as s
use Rattle.su_faults.specs.declared.spots.InQuery.{InQuery}
use Rattle.su_faults.specs.declared.spots.InQuery.TheVariants as q
use Rattle.su_faults.specs.declared.spots.InCondition.TheVariants as c
use Rattle.su_faults.specs.Languages.{AreStatement}
use Rattle.su_faults.specs.inside.Choices.{exits}
use Rattle.su_faults.specs.inside.Machine.{Accepts, started}
use Rattle.su_faults.proofs.Endings.{at, same_moves}
use Rattle.su_faults.proofs.DefinitionsLead.{end_taken, names_alone, parens_lead}
use Rattle.su_faults.proofs.ConditionsTaken.{Suits, Leaves, cond_read}
use Rattle.su_faults.proofs.ConditionsLead.{cond_leads}

-- ---- what is taken: rows

no_comma : (x : Symbol) (xs : List Symbol) → x ≡ Sign sign.Close → ¬ (Begins (Sign sign.Comma) (x ∷ xs))
no_comma x xs e h = let i = h.1 in cc

-- values, each behind a comma, and a parenthesis at the end
abbrev ValuesClosed : List Symbol → Type 0
ValuesClosed xs = (vs : List Value) × More ReadsValue vs xs (Sign sign.Close ∷ [])

values_next : (xs : List Symbol) (f : Frame) (n : ℕ) → Accepts xs (at (spot.Statement s.ValueNext) f n) → ValuesClosed xs
values_next [] f n (inl h) = absurd h
values_next [] f n (inr (inl h)) = absurd h
values_next [] f n (inr (inr h)) = absurd h
values_next (x ∷ []) f n (inl (e, inl h)) = absurd h
values_next (x ∷ []) f n (inl (e, inr (inl h))) = absurd h
values_next (x ∷ []) f n (inl (e, inr (inr h))) = absurd h
values_next (x ∷ y ∷ xs) f n (inl (e, inl ((v, w), h))) =
    let r = values_next xs f n h in
    (value.Int v ∷ r.0, items.more (value.Int v ∷ r.0) (value.Int v) r.0 (x ∷ y ∷ xs) (y ∷ xs) xs (Sign sign.Close ∷ []) refl (ap (λ z. z ∷ y ∷ xs) e) (ap (λ z. z ∷ xs) w) r.1)
values_next (x ∷ y ∷ xs) f n (inl (e, inr (inl ((v, w), h)))) =
    let r = values_next xs f n h in
    (value.Text v ∷ r.0, items.more (value.Text v ∷ r.0) (value.Text v) r.0 (x ∷ y ∷ xs) (y ∷ xs) xs (Sign sign.Close ∷ []) refl (ap (λ z. z ∷ y ∷ xs) e) (ap (λ z. z ∷ xs) w) r.1)
values_next (x ∷ y ∷ xs) f n (inl (e, inr (inr h))) = absurd h
values_next (x ∷ xs) f n (inr (inl (e, h))) = let nil = end_taken xs f n h in ([], items.none [] (x ∷ xs) (Sign sign.Close ∷ []) refl (cc) (no_comma x xs e))
values_next (x ∷ xs) f n (inr (inr h)) = absurd h

values_first : (xs : List Symbol) (f : Frame) (n : ℕ) → Accepts xs (at (spot.Statement s.Value) f n) → (vs : List Value) × Several ReadsValue vs xs (Sign sign.Close ∷ [])
values_first [] f n (inl h) = absurd h
values_first [] f n (inr (inl h)) = absurd h
values_first [] f n (inr (inr h)) = absurd h
values_first (x ∷ xs) f n (inl ((v, w), h)) = let r = values_next xs f n h in (value.Int v ∷ r.0, (value.Int v, r.0, xs, refl, ap (λ z. z ∷ xs) w, r.1))
values_first (x ∷ xs) f n (inr (inl ((v, w), h))) = let r = values_next xs f n h in (value.Text v ∷ r.0, (value.Text v, r.0, xs, refl, ap (λ z. z ∷ xs) w, r.1))
values_first (x ∷ xs) f n (inr (inr h)) = absurd h

insert : (xs : List Symbol) (f : Frame) (n : ℕ) → Accepts xs (at (spot.Statement s.InsertName) f n) → (relation : List ℕ) × (row : List Value) × RowForm relation row xs
insert [] f n (inl h) = absurd h
insert [] f n (inr h) = absurd h
insert (x ∷ []) f n (inl (e, inl h)) = absurd h
insert (x ∷ []) f n (inl (e, inr h)) = absurd h
insert (x ∷ y ∷ xs) f n (inl ((name, e, is), inl (w, h))) = let r = values_first xs f n h in (name, r.0, record { values = xs; begins = cc; named = is; reads = r.1 })
insert (x ∷ y ∷ xs) f n (inl (e, inr h)) = absurd h
insert (x ∷ xs) f n (inr h) = absurd h

no_leave : (r : List Symbol) → Leaves frame.Columns r → r ≡ []
no_leave [] h = refl
no_leave (x ∷ xs) (inl h) = absurd h.0
no_leave (x ∷ xs) (inr h) = absurd h

no_alone : (r : List Symbol) → Leaves frame.Alone r → r ≡ []
no_alone [] h = refl
no_alone (x ∷ xs) (inl h) = absurd h.0
no_alone (x ∷ xs) (inr h) = absurd h

abbrev Deleted : List Symbol → Type 0
Deleted xs = ((relation : List ℕ) × (row : List Value) × RowForm relation row xs) ⊎ ((relation : List ℕ) × (cond : NamedCond) × ConditionForm relation cond xs)

delete : (xs : List Symbol) (f : Frame) → Accepts xs (at (spot.Statement s.DeleteName) f zero) → Deleted xs
delete [] f (inl h) = absurd h
delete [] f (inr h) = absurd h
delete (x ∷ []) f (inl (e, inl h)) = absurd h
delete (x ∷ []) f (inl (e, inr (inl h))) = absurd h
delete (x ∷ []) f (inl (e, inr (inr h))) = absurd h
delete (x ∷ y ∷ xs) f (inl ((name, e, is), inl (w, h))) = let r = values_first xs f zero h in inl (name, r.0, record { values = xs; begins = cc; named = is; reads = r.1 })
delete (x ∷ y ∷ xs) f (inl ((name, e, is), inr (inl (w, h)))) =
    let r = cond_read xs frame.Columns h in
    let nil = no_leave r.1 r.4 in
    inr (name, r.0, record { rest = xs; begins = cc; named = is; reads = subst (λ (t : List Symbol). ReadsCond r.0 xs t) nil r.2; columns = r.3 })
delete (x ∷ y ∷ xs) f (inl (e, inr (inr h))) = absurd h
delete (x ∷ xs) f (inr h) = absurd h

load : (xs : List Symbol) (f : Frame) (n : ℕ) → Accepts xs (at (spot.Statement s.LoadName) f n) → (relation : List ℕ) × (file : List ℕ) × FileForm relation file xs
load [] f n (inl h) = absurd h
load [] f n (inr h) = absurd h
load (x ∷ []) f n (inl (e, inl h)) = absurd h
load (x ∷ []) f n (inl (e, inr h)) = absurd h
load (x ∷ y ∷ []) f n (inl (e, inl (w, inl h))) = absurd h
load (x ∷ y ∷ []) f n (inl (e, inl (w, inr h))) = absurd h
load (x ∷ y ∷ z ∷ xs) f n (inl ((name, e, is), inl (w, inl ((file, i), h)))) = let nil = end_taken xs f n h in (name, file, record { whole = cc; named = is })
load (x ∷ y ∷ z ∷ xs) f n (inl (e, inl (w, inr h))) = absurd h
load (x ∷ y ∷ xs) f n (inl (e, inr h)) = absurd h
load (x ∷ xs) f n (inr h) = absurd h

print : (xs : List Symbol) (f : Frame) (n : ℕ) → Accepts xs (at (spot.Statement s.PrintName) f n) → (relation : List ℕ) × IsName relation × (xs ≡ Word relation ∷ [])
print [] f n (inl h) = absurd h
print [] f n (inr h) = absurd h
print (x ∷ xs) f n (inl ((name, e, is), h)) = let nil = end_taken xs f n h in (name, is, cc)
print (x ∷ xs) f n (inr h) = absurd h

-- ---- what is taken: queries

-- what stands behind a query: where the condition is read to
abbrev Behind : Frame → List Symbol → Type 0
Behind f s = (k : NamedCond) × (r : List Symbol) × ReadsWhere k s r × Leaves f r

no_where : (x : Symbol) (xs : List Symbol) → x ≡ Sign sign.Close → ¬ (Begins (Word (codes "where")) (x ∷ xs))
no_where x xs e h = let i = h.1 in cc

no_where_end : ¬ (Begins (Word (codes "where")) [])
no_where_end h = let i = h.1 in cc

where_read : (xs : List Symbol) (f : Frame) → Accepts xs (at (spot.Query q.Where) f zero) → Behind f xs
where_read [] f (inl h) = absurd h
where_read [] f (inr h) = (All [], [], queries.nothing (All []) [] [] refl refl no_where_end, h)
where_read (x ∷ xs) f (inl (e, h)) = let r = cond_read xs f h in (r.0, r.1, queries.condition r.0 (x ∷ xs) xs r.1 (ap (λ z. z ∷ xs) e) r.2, r.4)
where_read (x ∷ xs) frame.Alone (inr (inl h)) = absurd h.0
where_read (x ∷ xs) frame.Alone (inr (inr h)) = absurd h
where_read (x ∷ xs) frame.Columns (inr (inl h)) = absurd h.0
where_read (x ∷ xs) frame.Columns (inr (inr h)) = absurd h
where_read (x ∷ xs) frame.First (inr (inl h)) = (All [], x ∷ xs, queries.nothing (All []) (x ∷ xs) (x ∷ xs) refl refl (no_where x xs h.0), inl h)
where_read (x ∷ xs) frame.First (inr (inr h)) = absurd h
where_read (x ∷ xs) frame.Second (inr (inl h)) = (All [], x ∷ xs, queries.nothing (All []) (x ∷ xs) (x ∷ xs) refl refl (no_where x xs h.0), inl h)
where_read (x ∷ xs) frame.Second (inr (inr h)) = absurd h

-- refs, each behind a comma, and a parenthesis; no dot comes first
abbrev Ends : Frame → List Symbol → Type 0
Ends f xs = (refs : List ARef) × (rest : List Symbol) × More ReadsRef refs xs (Sign sign.Close ∷ rest) × Accepts rest (at (spot.Query q.Where) f zero) × ¬ (Begins (Sign sign.Dot) xs)

-- what is read, spot by spot
abbrev ReadOutput : InQuery → Frame → List Symbol → Type 0
ReadOutput q.Output f xs = (ref : ARef) × (t : List Symbol) × ReadsRef ref xs t × Ends f t
ReadOutput q.OutputDot f xs = Ends f xs ⊎ ((name : List ℕ) × (t : List Symbol) × (xs ≡ Sign sign.Dot ∷ Word name ∷ t) × IsName name × Ends f t)
ReadOutput q.OutputAttribute f xs = (name : List ℕ) × (t : List Symbol) × (xs ≡ Word name ∷ t) × IsName name × Ends f t
ReadOutput q.OutputNext f xs = Ends f xs
ReadOutput _ f xs = Unit {0}

no_dot_sign : (x : Symbol) (xs : List Symbol) (g : ASign) → x ≡ Sign g → (g ≡ sign.Dot → ⊥) → ¬ (Begins (Sign sign.Dot) (x ∷ xs))
no_dot_sign x xs g e other h = other (let i = h.1 in cc)

next_output : (x : Symbol) (xs : List Symbol) (f : Frame) → x ≡ Sign sign.Comma → ReadOutput q.Output f xs → Ends f (x ∷ xs)
next_output x xs f e (ref, t, reads, (refs, rest, others, on, other)) =
    (ref ∷ refs, rest, items.more (ref ∷ refs) ref refs (x ∷ xs) xs t (Sign sign.Close ∷ rest) refl (ap (λ z. z ∷ xs) e) reads others, on, no_dot_sign x xs sign.Comma e (λ i. cc))

last_output : (x : Symbol) (xs : List Symbol) (f : Frame) → x ≡ Sign sign.Close → Accepts xs (at (spot.Query q.Where) f zero) → Ends f (x ∷ xs)
last_output x xs f e h = ([], xs, items.none [] (x ∷ xs) (Sign sign.Close ∷ xs) refl (ap (λ z. z ∷ xs) e) (no_comma x xs e), h, no_dot_sign x xs sign.Close e (λ i. cc))

abbrev KnownOutput : List Symbol → Type 0
KnownOutput xs = (here : InQuery) (f : Frame) → Accepts xs (at (spot.Query here) f zero) → ReadOutput here f xs

output_read : (x : Symbol) (xs : List Symbol) (f : Frame) (name : List ℕ) → x ≡ Word name → IsName name → ReadOutput q.OutputDot f xs → ReadOutput q.Output f (x ∷ xs)
output_read x xs f name e is (inl h) = (record { variable = None; attribute = name }, xs, (ap (λ z. z ∷ xs) e, tt, is, h.4), h)
output_read x xs f name e is (inr (ref, t, i, is', h)) = (record { variable = Some name; attribute = ref }, t, (cc, is, is', h.4), h)

step_output : (x : Symbol) (xs : List Symbol) → KnownOutput xs → KnownOutput (x ∷ xs)
step_output x xs known q.Output f (inl ((name, e, is), h)) = output_read x xs f name e is (known q.OutputDot f h)
step_output x xs known q.Output f (inr h) = absurd h
step_output x xs known q.OutputDot f (inl (e, h)) = let r = known q.OutputAttribute f h in let i = r.2 in inr (r.0, r.1, cc, r.3, r.4)
step_output x xs known q.OutputDot f (inr (inl (e, h))) = inl (next_output x xs f e (known q.Output f h))
step_output x xs known q.OutputDot f (inr (inr (inl (e, h)))) = inl (last_output x xs f e h)
step_output x xs known q.OutputDot f (inr (inr (inr h))) = absurd h
step_output x xs known q.OutputAttribute f (inl ((name, e, is), h)) = (name, xs, ap (λ z. z ∷ xs) e, is, known q.OutputNext f h)
step_output x xs known q.OutputAttribute f (inr h) = absurd h
step_output x xs known q.OutputNext f (inl (e, h)) = next_output x xs f e (known q.Output f h)
step_output x xs known q.OutputNext f (inr (inl (e, h))) = last_output x xs f e h
step_output x xs known q.OutputNext f (inr (inr h)) = absurd h
step_output x xs known _ f h = tt

end_output : KnownOutput []
end_output q.Output f (inl h) = absurd h
end_output q.Output f (inr h) = absurd h
end_output q.OutputDot f (inl h) = absurd h
end_output q.OutputDot f (inr (inl h)) = absurd h
end_output q.OutputDot f (inr (inr (inl h))) = absurd h
end_output q.OutputDot f (inr (inr (inr h))) = absurd h
end_output q.OutputAttribute f (inl h) = absurd h
end_output q.OutputAttribute f (inr h) = absurd h
end_output q.OutputNext f (inl h) = absurd h
end_output q.OutputNext f (inr (inl h)) = absurd h
end_output q.OutputNext f (inr (inr h)) = absurd h
end_output _ f h = tt

outputs_read : (xs : List Symbol) → KnownOutput xs
outputs_read [] = end_output
outputs_read (x ∷ xs) = step_output x xs (outputs_read xs)

-- a query behind its first word, and what stands behind it
abbrev QueryRead : Frame → List Symbol → Type 0
QueryRead f s = (p : AQuery) × (r : List Symbol) × ReadsQuery p s r × Leaves f r

query_open : (w : Symbol) (xs : List Symbol) (f : Frame) → w ≡ Word (codes "retrieve") → Accepts xs (at (spot.Query q.OutputsOpen) f zero) → QueryRead f (w ∷ xs)
query_open w [] f i (inl h) = absurd h
query_open w [] f i (inr h) = absurd h
query_open w (x ∷ xs) f i (inl (e, h)) =
    let o = outputs_read xs q.Output f h in
    let ends = o.3 in
    let b = where_read ends.1 f ends.3 in
    (record { outputs = o.0 ∷ ends.0; cond = b.0 }, b.1, record { refs = xs; rest = ends.1; begins = cc; reads = (o.0, ends.0, o.1, refl, o.2, ends.2); wanted = b.2 }, b.3)
query_open w (x ∷ xs) f i (inr h) = absurd h

query_start : (xs : List Symbol) (f : Frame) → Accepts xs (at (spot.Query q.Start) f zero) → QueryRead f xs
query_start [] f (inl h) = absurd h
query_start [] f (inr h) = absurd h
query_start (x ∷ xs) f (inl (e, h)) = query_open x xs f e h
query_start (x ∷ xs) f (inr h) = absurd h

-- a query to the end
query_alone : (xs : List Symbol) → QueryRead frame.Alone xs → (p : AQuery) × ReadsQuery p xs []
query_alone xs (p, r, reads, h) = (p, subst (λ (t : List Symbol). ReadsQuery p xs t) (no_alone r h) reads)

explained : (w : Symbol) (xs : List Symbol) → w ≡ Word (codes "explain") → Accepts xs (at (spot.Query q.Explained) frame.Alone zero) → (st : Statement) × ReadsForm st (w ∷ xs)
explained w [] i (inl h) = absurd h
explained w [] i (inr (inl h)) = absurd h
explained w [] i (inr (inr (inl h))) = absurd h
explained w [] i (inr (inr (inr h))) = absurd h
explained w (x ∷ xs) i (inl (e, h)) = let r = query_alone xs (query_start xs frame.Alone h) in (Certify r.0, forms.certify (Certify r.0) r.0 (w ∷ x ∷ xs) xs refl (cc) r.1)
explained w (x ∷ xs) i (inr (inl (e, h))) = let r = query_alone xs (query_start xs frame.Alone h) in (Support r.0, forms.support (Support r.0) r.0 (w ∷ x ∷ xs) xs refl (cc) r.1)
explained w (x ∷ xs) i (inr (inr (inl (e, h)))) = let r = query_alone (x ∷ xs) (query_open x xs frame.Alone e h) in (Explain r.0, forms.explain (Explain r.0) r.0 (w ∷ x ∷ xs) (x ∷ xs) refl (ap (λ z. z ∷ x ∷ xs) i) r.1)
explained w (x ∷ xs) i (inr (inr (inr h))) = absurd h

second_left : (r : List Symbol) → Leaves frame.Second r → r ≡ Sign sign.Close ∷ []
second_left [] (inl h) = absurd h
second_left [] (inr h) = absurd h
second_left (x ∷ xs) (inl (e, h)) = let nil = end_taken xs frame.Second zero h in cc
second_left (x ∷ xs) (inr h) = absurd h

-- the second query in parentheses, behind `with`
second_read : (xs : List Symbol) (f : Frame) → Accepts xs (at (spot.Query q.SecondOpen) f zero) → (p : AQuery) × ReadsEnclosed p xs []
second_read [] f (inl h) = absurd h
second_read [] f (inr h) = absurd h
second_read (x ∷ xs) f (inl (e, h)) =
    let r = query_start xs frame.Second h in
    (r.0, record { rest = xs; begins = ap (λ z. z ∷ xs) e; reads = subst (λ (t : List Symbol). ReadsQuery r.0 xs t) (second_left r.1 r.3) r.2 })
second_read (x ∷ xs) f (inr h) = absurd h

with_read : (xs : List Symbol) (f : Frame) → Accepts xs (at (spot.Query q.CompareWith) f zero) → (p : AQuery) × (t : List Symbol) × (xs ≡ Word (codes "with") ∷ t) × ReadsEnclosed p t []
with_read [] f (inl h) = absurd h
with_read [] f (inr h) = absurd h
with_read (x ∷ xs) f (inl (e, h)) = let r = second_read xs f h in (r.0, xs, ap (λ z. z ∷ xs) e, r.1)
with_read (x ∷ xs) f (inr h) = absurd h

first_left : (r : List Symbol) → Leaves frame.First r → (p : AQuery) × (t : List Symbol) × (r ≡ Sign sign.Close ∷ Word (codes "with") ∷ t) × ReadsEnclosed p t []
first_left [] (inl h) = absurd h
first_left [] (inr h) = absurd h
first_left (x ∷ xs) (inl (e, h)) = let w = with_read xs frame.First h in let i = w.2 in (w.0, w.1, cc, w.3)
first_left (x ∷ xs) (inr h) = absurd h

pair_read : (xs : List Symbol) (f : Frame) → Accepts xs (at (spot.Query q.CompareOpen) f zero) → (p : AQuery) × (r : AQuery) × PairForm p r xs
pair_read [] f (inl h) = absurd h
pair_read [] f (inr h) = absurd h
pair_read (x ∷ xs) f (inl (e, h)) =
    let a = query_start xs frame.First h in
    let b = first_left a.1 a.3 in
    (a.0, b.0, record { rest = b.1; before = record { rest = xs; begins = ap (λ z. z ∷ xs) e; reads = subst (λ (t : List Symbol). ReadsQuery a.0 xs t) b.2 a.2 }; behind = b.3 })
pair_read (x ∷ xs) f (inr h) = absurd h

-- ---- statements taken

formed : (st : Statement) (xs : List Symbol) → ReadsForm st xs → AreStatement xs
formed st xs h = (st, form_spelled st xs h)

deleted : (x : Symbol) (xs : List Symbol) → x ≡ Word (codes "delete") → Deleted xs → AreStatement (x ∷ xs)
deleted x xs e (inl (relation, row, h)) = formed (Delete relation row) (x ∷ xs) (forms.delete (Delete relation row) relation row (x ∷ xs) xs refl (ap (λ z. z ∷ xs) e) h)
deleted x xs e (inr (relation, cond, h)) = formed (DeleteWhere relation cond) (x ∷ xs) (forms.delete_where (DeleteWhere relation cond) relation cond (x ∷ xs) xs refl (ap (λ z. z ∷ xs) e) h)

pub statement_taken : (xs : List Symbol) → Accepts xs (started language.Statements) → AreStatement xs
statement_taken [] (inl h) = absurd h
statement_taken [] (inr (inl h)) = absurd h
statement_taken [] (inr (inr (inl h))) = absurd h
statement_taken [] (inr (inr (inr (inl h)))) = absurd h
statement_taken [] (inr (inr (inr (inr (inl h))))) = absurd h
statement_taken [] (inr (inr (inr (inr (inr (inl h)))))) = absurd h
statement_taken [] (inr (inr (inr (inr (inr (inr (inl h))))))) = absurd h
statement_taken [] (inr (inr (inr (inr (inr (inr (inr (inl h)))))))) = absurd h
statement_taken [] (inr (inr (inr (inr (inr (inr (inr (inr (inl h))))))))) = absurd h
statement_taken [] (inr (inr (inr (inr (inr (inr (inr (inr (inr (inl h)))))))))) = absurd h
statement_taken [] (inr (inr (inr (inr (inr (inr (inr (inr (inr (inr h)))))))))) = absurd h
statement_taken (x ∷ xs) (inl (e, h)) = let r = insert xs frame.Alone zero h in formed (Insert r.0 r.1) (x ∷ xs) (forms.insert (Insert r.0 r.1) r.0 r.1 (x ∷ xs) xs refl (ap (λ z. z ∷ xs) e) r.2)
statement_taken (x ∷ xs) (inr (inl (e, h))) = deleted x xs e (delete xs frame.Alone h)
statement_taken (x ∷ xs) (inr (inr (inl (e, h)))) = let r = load xs frame.Alone zero h in formed (Load r.0 r.1) (x ∷ xs) (forms.load (Load r.0 r.1) r.0 r.1 (x ∷ xs) xs refl (ap (λ z. z ∷ xs) e) r.2)
statement_taken (x ∷ xs) (inr (inr (inr (inl (e, h))))) = let r = print xs frame.Alone zero h in let w = r.2 in (Print r.0, (r.1, cc))
statement_taken (x ∷ xs) (inr (inr (inr (inr (inl (e, h)))))) = let nil = end_taken xs frame.Alone zero h in (Schema, cc)
statement_taken (x ∷ xs) (inr (inr (inr (inr (inr (inl (e, h))))))) = let r = names_alone xs frame.Alone zero h in let w = r.2 in (Closure r.0, (r.1, cc))
statement_taken (x ∷ xs) (inr (inr (inr (inr (inr (inr (inl (e, h)))))))) =
    let r = query_alone (x ∷ xs) (query_open x xs frame.Alone e h) in
    formed (Retrieve r.0) (x ∷ xs) (forms.retrieve (Retrieve r.0) r.0 (x ∷ xs) refl r.1)
statement_taken (x ∷ xs) (inr (inr (inr (inr (inr (inr (inr (inl (e, h))))))))) = let r = explained x xs e h in formed r.0 (x ∷ xs) r.1
statement_taken (x ∷ xs) (inr (inr (inr (inr (inr (inr (inr (inr (inl (e, h)))))))))) =
    let r = pair_read xs frame.Alone h in
    formed (Compare r.0 r.1) (x ∷ xs) (forms.compare (Compare r.0 r.1) r.0 r.1 (x ∷ xs) xs refl (ap (λ z. z ∷ xs) e) r.2)
statement_taken (x ∷ xs) (inr (inr (inr (inr (inr (inr (inr (inr (inr (inl (e, h))))))))))) = let r = names_alone xs frame.Alone zero h in let w = r.2 in (Window r.0, (r.1, cc))
statement_taken (x ∷ xs) (inr (inr (inr (inr (inr (inr (inr (inr (inr (inr h)))))))))) = absurd h

-- ---- what leads to an end: rows

values_lead : (vs : List Value) (t r : List Symbol) (f : Frame) (n : ℕ) → More ReadsValue vs t r → r ≡ Sign sign.Close ∷ [] → Accepts t (at (spot.Statement s.ValueNext) f n)
values_lead vs t r f n (items.none _ _ _ e same behind) w = subst (λ (v : List Symbol). Accepts v (at (spot.Statement s.ValueNext) f n)) (sym (same ∙ w)) (inr (inl (refl, inl tt)))
values_lead vs t r f n (items.more _ (value.Int v) bs _ u k _ e i reads others) w =
    subst (λ (y : List Symbol). Accepts y (at (spot.Statement s.ValueNext) f n)) (sym (i ∙ ap (λ y. Sign sign.Comma ∷ y) reads)) (inl (refl, inl ((v, refl), values_lead bs k r f n others w)))
values_lead vs t r f n (items.more _ (value.Text v) bs _ u k _ e i reads others) w =
    subst (λ (y : List Symbol). Accepts y (at (spot.Statement s.ValueNext) f n)) (sym (i ∙ ap (λ y. Sign sign.Comma ∷ y) reads)) (inl (refl, inr (inl ((v, refl), values_lead bs k r f n others w))))

row_leads : (vs : List Value) (t : List Symbol) (f : Frame) (n : ℕ) → Several ReadsValue vs t (Sign sign.Close ∷ []) → Accepts t (at (spot.Statement s.Value) f n)
row_leads vs t f n (value.Int v, bs, k, e, reads, others) = subst (λ (y : List Symbol). Accepts y (at (spot.Statement s.Value) f n)) (sym reads) (inl ((v, refl), values_lead bs k _ f n others refl))
row_leads vs t f n (value.Text v, bs, k, e, reads, others) = subst (λ (y : List Symbol). Accepts y (at (spot.Statement s.Value) f n)) (sym reads) (inr (inl ((v, refl), values_lead bs k _ f n others refl)))

-- ---- what leads to an end: queries

next_leaves : (f : Frame) (r : List Symbol) → Leaves f r → Accepts r (at (spot.Condition c.Next) f zero)
next_leaves f [] h = inr (inr h)
next_leaves f (x ∷ xs) h = inr (inr h)

where_leads : (k : NamedCond) (t r : List Symbol) (f : Frame) → ((d : NamedCond) → Suits f d) → ReadsWhere k t r → Leaves f r → Accepts t (at (spot.Query q.Where) f zero)
where_leads k t r f suit (queries.nothing _ _ _ same e no_) h = subst (λ (v : List Symbol). Accepts v (at (spot.Query q.Where) f zero)) (sym same) (left r h)
  where
    left : (r : List Symbol) → Leaves f r → Accepts r (at (spot.Query q.Where) f zero)
    left [] h = inr h
    left (x ∷ xs) h = inr (same_moves (exits f) x xs (spot.Condition c.Next) (spot.Query q.Where) f zero h)
where_leads k t r f suit (queries.condition _ _ u _ e reads) h =
    subst (λ (v : List Symbol). Accepts v (at (spot.Query q.Where) f zero)) (sym e) (inl (refl, cond_leads k u r reads f zero (suit k) (next_leaves f r h)))

output_dot : (f : Frame) (t : List Symbol) → Accepts t (at (spot.Query q.OutputNext) f zero) → Accepts t (at (spot.Query q.OutputDot) f zero)
output_dot f [] h = inr h
output_dot f (x ∷ xs) h = inr h

a_ref_leads : (v : Option (List ℕ)) (name : List ℕ) (t r : List Symbol) (f : Frame) → ReadsRef (record { variable = v; attribute = name }) t r → Accepts r (at (spot.Query q.OutputNext) f zero) → Accepts t (at (spot.Query q.Output) f zero)
a_ref_leads None name t r f reads h = subst (λ (v : List Symbol). Accepts v (at (spot.Query q.Output) f zero)) (sym reads.0) (inl ((name, refl, reads.2), output_dot f r h))
a_ref_leads (Some v) name t r f reads h = subst (λ (w : List Symbol). Accepts w (at (spot.Query q.Output) f zero)) (sym reads.0) (inl ((v, refl, reads.1), inl (refl, inl ((name, refl, reads.2), h))))

ref_leads : (ref : ARef) (t r : List Symbol) (f : Frame) → ReadsRef ref t r → Accepts r (at (spot.Query q.OutputNext) f zero) → Accepts t (at (spot.Query q.Output) f zero)
ref_leads ref t r f reads h = a_ref_leads ref.variable ref.attribute t r f reads h

refs_lead : (refs : List ARef) (t r rest : List Symbol) (f : Frame) → More ReadsRef refs t r → r ≡ Sign sign.Close ∷ rest → Accepts rest (at (spot.Query q.Where) f zero) → Accepts t (at (spot.Query q.OutputNext) f zero)
refs_lead refs t r rest f (items.none _ _ _ e same no_) w h = subst (λ (v : List Symbol). Accepts v (at (spot.Query q.OutputNext) f zero)) (sym (same ∙ w)) (inr (inl (refl, h)))
refs_lead refs t r rest f (items.more _ b bs _ u k _ e i reads others) w h =
    subst (λ (v : List Symbol). Accepts v (at (spot.Query q.OutputNext) f zero)) (sym i) (inl (refl, ref_leads b u k f reads (refs_lead bs k r rest f others w h)))

-- a query from its parenthesis on
outputs_lead : (p : AQuery) (t r : List Symbol) (f : Frame) → ((d : NamedCond) → Suits f d) → ReadsQuery p t r → Leaves f r → (u : List Symbol) × (t ≡ Word (codes "retrieve") ∷ u) × Accepts u (at (spot.Query q.OutputsOpen) f zero)
outputs_lead p t r f suit reads h =
    let one = reads.reads in
    let behind = where_leads p.cond reads.rest r f suit reads.wanted h in
    let next = refs_lead one.1 one.2 (Sign sign.Close ∷ reads.rest) reads.rest f one.5 refl behind in
    (Sign sign.Open ∷ reads.refs, reads.begins, inl (refl, ref_leads one.0 reads.refs one.2 f one.4 next))

query_leads : (p : AQuery) (t r : List Symbol) (f : Frame) → ((d : NamedCond) → Suits f d) → ReadsQuery p t r → Leaves f r → Accepts t (at (spot.Query q.Start) f zero)
query_leads p t r f suit reads h = let o = outputs_lead p t r f suit reads h in subst (λ (v : List Symbol). Accepts v (at (spot.Query q.Start) f zero)) (sym o.1) (inl (refl, o.2))

pair_leads : (p r : AQuery) (t : List Symbol) (f : Frame) → PairForm p r t → Accepts t (at (spot.Query q.CompareOpen) f zero)
pair_leads p r t f h =
    let second = h.behind in
    let end : Leaves frame.Second (Sign sign.Close ∷ []) = inl (refl, inl tt) in
    let with_second : Accepts (Sign sign.Open ∷ second.rest) (at (spot.Query q.SecondOpen) frame.First zero) = inl (refl, query_leads r second.rest (Sign sign.Close ∷ []) frame.Second (λ d. tt) second.reads end) in
    let left : Leaves frame.First (Sign sign.Close ∷ Word (codes "with") ∷ h.rest) =
    inl (refl, inl (refl, subst (λ (v : List Symbol). Accepts v (at (spot.Query q.SecondOpen) frame.First zero)) (sym second.begins) with_second)) in
    let first = query_leads p h.before.rest (Sign sign.Close ∷ Word (codes "with") ∷ h.rest) frame.First (λ d. tt) h.before.reads left in
    subst (λ (v : List Symbol). Accepts v (at (spot.Query q.CompareOpen) f zero)) (sym h.before.begins) (inl (refl, first))

-- ---- statements that lead to an end

abbrev Started : List Symbol → Type 0
Started xs = Accepts xs (started language.Statements)

form_leads : (st : Statement) (xs : List Symbol) → ReadsForm st xs → Started xs
form_leads st xs (forms.insert _ relation row _ t e i h) = subst Started (sym (i ∙ ap (λ y. Word (codes "insert") ∷ y) h.begins)) (inl (refl, inl ((relation, refl, h.named), inl (refl, row_leads row h.values frame.Alone zero h.reads))))
form_leads st xs (forms.delete _ relation row _ t e i h) = subst Started (sym (i ∙ ap (λ y. Word (codes "delete") ∷ y) h.begins)) (inr (inl (refl, inl ((relation, refl, h.named), inl (refl, row_leads row h.values frame.Alone zero h.reads)))))
form_leads st xs (forms.delete_where _ relation cond _ t e i h) =
    subst Started (sym (i ∙ ap (λ y. Word (codes "delete") ∷ y) h.begins))
    (inr (inl (refl, inl ((relation, refl, h.named), inr (inl (refl, cond_leads cond h.rest [] h.reads frame.Columns zero h.columns (inr (inr (inl tt)))))))))
form_leads st xs (forms.load _ relation file _ t e i h) = subst Started (sym (i ∙ ap (λ y. Word (codes "load") ∷ y) h.whole)) (inr (inr (inl (refl, inl ((relation, refl, h.named), inl (refl, inl ((file, refl), inl tt)))))))
form_leads st xs (forms.print _ relation _ e i named) = subst Started (sym i) (inr (inr (inr (inl (refl, inl ((relation, refl, named), inl tt))))))
form_leads st xs (forms.schema _ _ e i) = subst Started (sym i) (inr (inr (inr (inr (inl (refl, inl tt))))))
form_leads st xs (forms.closure _ names _ t e i h) =
    let g = form_spelled (Closure names) xs (forms.closure (Closure names) names xs t refl i h) in
    subst Started (sym g.1) (inr (inr (inr (inr (inr (inl (refl, parens_lead names frame.Alone zero g.0)))))))
form_leads st xs (forms.retrieve _ p _ e h) =
    let o = outputs_lead p xs [] frame.Alone (λ d. tt) h (inl tt) in
    subst Started (sym o.1) (inr (inr (inr (inr (inr (inr (inl (refl, o.2))))))))
form_leads st xs (forms.explain _ p _ t e i h) =
    let o = outputs_lead p t [] frame.Alone (λ d. tt) h (inl tt) in
    subst Started (sym (i ∙ ap (λ y. Word (codes "explain") ∷ y) o.1)) (inr (inr (inr (inr (inr (inr (inr (inl (refl, inr (inr (inl (refl, o.2))))))))))))
form_leads st xs (forms.certify _ p _ t e i h) = subst Started (sym i) (inr (inr (inr (inr (inr (inr (inr (inl (refl, inl (refl, query_leads p t [] frame.Alone (λ d. tt) h (inl tt)))))))))))
form_leads st xs (forms.support _ p _ t e i h) = subst Started (sym i) (inr (inr (inr (inr (inr (inr (inr (inl (refl, inr (inl (refl, query_leads p t [] frame.Alone (λ d. tt) h (inl tt))))))))))))
form_leads st xs (forms.compare _ p r _ t e i h) = subst Started (sym i) (inr (inr (inr (inr (inr (inr (inr (inr (inl (refl, pair_leads p r t frame.Alone h))))))))))
form_leads st xs (forms.window _ names _ t e i h) =
    let g = form_spelled (Window names) xs (forms.window (Window names) names xs t refl i h) in
    subst Started (sym g.1) (inr (inr (inr (inr (inr (inr (inr (inr (inr (inl (refl, parens_lead names frame.Alone zero g.0)))))))))))

pub statement_leads : (xs : List Symbol) → AreStatement xs → Accepts xs (started language.Statements)
statement_leads xs (st, h) = form_leads st xs (form_readable st xs h)
