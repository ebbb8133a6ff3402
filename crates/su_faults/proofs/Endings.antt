-- From each state some tokens lead to an end.
-- f: the frame; n: how many are open
use Rattle.std.proofs.Common.{◌≡◌, inl, inr, ℕ, zero, suc, true, List, [], ◌∷◌, refl, subst, arith, codes, pos}
use Rattle.std.proofs.lemmas.List.Elements.{All-nil}
use Rattle.su_base.specs.Name.{IsName, is_letter_or_digit}
use Rattle.su_lex.specs.declared.meaning.Symbol.{Symbol}
use Rattle.su_lex.specs.declared.meaning.Symbol.TheVariants.{Word, Int, Text, Sign}
use Rattle.su_lex.specs.declared.signs.Sign.TheVariants as sign
use Rattle.su_faults.specs.declared.spots.Language.TheVariants as language
use Rattle.su_faults.specs.declared.spots.Frame.{Frame}
use Rattle.su_faults.specs.declared.spots.Frame.TheVariants as frame
use Rattle.su_faults.specs.declared.spots.Spot.{Spot}
use Rattle.su_faults.specs.declared.spots.Spot.TheVariants as spot
use Rattle.su_faults.specs.declared.spots.State.{State}
use Rattle.su_faults.specs.declared.spots.InDefinition.{InDefinition}
use Rattle.su_faults.specs.declared.spots.InDefinition.TheVariants as d
use Rattle.su_faults.specs.declared.spots.InStatement.{InStatement}
use Rattle.su_faults.specs.declared.spots.InStatement.TheVariants as s
use Rattle.su_faults.specs.declared.spots.InQuery.{InQuery}
use Rattle.su_faults.specs.declared.spots.InQuery.TheVariants as q
use Rattle.su_faults.specs.declared.spots.InCondition.{InCondition}
use Rattle.su_faults.specs.declared.spots.InCondition.TheVariants as c
use Rattle.su_faults.specs.inside.Machine.{Accepts}
use Rattle.su_faults.specs.declared.sorts.Sort.{Sort}
use Rattle.su_faults.specs.declared.sorts.Sort.TheVariants as sort
use Rattle.su_faults.specs.Sorts.{IsOfSort, spelling}
use Rattle.su_faults.specs.declared.spots.Move.{Move}
use Rattle.su_faults.specs.declared.spots.Move.TheVariants.{To, Up, Down, On}
use Rattle.su_faults.specs.inside.Choices.{Choices}
use Rattle.su_faults.specs.inside.Machine.{HasChoice, IsEnd, moved}

-- the state before this spot
abbrev pub at : Spot → Frame → ℕ → State
at before f n = record { spot = before; frame = f; level = n }

moved_alike : (m : Move) (b d : Spot) (f : Frame) (n : ℕ) → moved m (at b f n) ≡ moved m (at d f n)
moved_alike (To to) b d f n = refl
moved_alike (Up to) b d f n = refl
moved_alike (Down to) b d f n = refl
moved_alike (On g to) b d f n = refl

-- where a token leads doesn't depend on the spot, but on what may come there
pub same_moves : (cs : Choices) (x : Symbol) (xs : List Symbol) (b d : Spot) (f : Frame) (n : ℕ) → HasChoice (λ e. IsOfSort e.0 x × Accepts xs (moved e.1 (at b f n))) cs
    → HasChoice (λ e. IsOfSort e.0 x × Accepts xs (moved e.1 (at d f n))) cs
same_moves [] x xs b d f n h = h
same_moves (k ∷ cs) x xs b d f n (inl h) = inl (h.0, subst (Accepts xs) (moved_alike k.1 b d f n) h.1)
same_moves (k ∷ cs) x xs b d f n (inr h) = inr (same_moves cs x xs b d f n h)

-- some tokens lead from here to an end
abbrev pub Alive : Spot → Frame → ℕ → Type 0
Alive before f n = (xs : List Symbol) × Accepts xs (at before f n)

abbrev a : List ℕ
a = codes "a"

pub a_name : IsName a
a_name = ((refl, All-nil (λ c. is_letter_or_digit c ≡ true), omega arith), refl)

-- a token of each sort but the end
pub a_token_of : (k : Sort) → (IsEnd k → ⊥) → (x : Symbol) × IsOfSort k x
a_token_of (sort.Word w) more = (Word (spelling w), refl)
a_token_of sort.Name more = (Word a, (a, refl, a_name))
a_token_of sort.Number more = (Int (pos 0), (pos 0, refl))
a_token_of sort.Text more = (Text [], ([], refl))
a_token_of (sort.Sign s) more = (Sign s, refl)
a_token_of sort.End more = absurd (more tt)

-- ---- statements without a query

end : (f : Frame) (n : ℕ) → Alive (spot.Statement s.End) f n
end f n = ([], inl tt)

name_next : (f : Frame) (n : ℕ) → Alive (spot.Statement s.NameNext) f n
name_next f n = (Sign sign.Close ∷ [], inr (inl (refl, inl tt)))

name : (f : Frame) (n : ℕ) → Alive (spot.Statement s.Name) f n
name f n = let k = name_next f n in (Word a ∷ k.0, inl ((a, refl, a_name), k.1))

names_open : (f : Frame) (n : ℕ) → Alive (spot.Statement s.NamesOpen) f n
names_open f n = let k = name f n in (Sign sign.Open ∷ k.0, inl (refl, k.1))

value_next : (f : Frame) (n : ℕ) → Alive (spot.Statement s.ValueNext) f n
value_next f n = (Sign sign.Close ∷ [], inr (inl (refl, inl tt)))

value : (f : Frame) (n : ℕ) → Alive (spot.Statement s.Value) f n
value f n = let k = value_next f n in (Int (pos 0) ∷ k.0, inl ((pos 0, refl), k.1))

values_open : (f : Frame) (n : ℕ) → Alive (spot.Statement s.ValuesOpen) f n
values_open f n = let k = value f n in (Sign sign.Open ∷ k.0, inl (refl, k.1))

insert_name : (f : Frame) (n : ℕ) → Alive (spot.Statement s.InsertName) f n
insert_name f n = let k = values_open f n in (Word a ∷ k.0, inl ((a, refl, a_name), k.1))

delete_how : (f : Frame) (n : ℕ) → Alive (spot.Statement s.DeleteHow) f n
delete_how f n = let k = value f n in (Sign sign.Open ∷ k.0, inl (refl, k.1))

delete_name : (f : Frame) (n : ℕ) → Alive (spot.Statement s.DeleteName) f n
delete_name f n = let k = delete_how f n in (Word a ∷ k.0, inl ((a, refl, a_name), k.1))

load_file : (f : Frame) (n : ℕ) → Alive (spot.Statement s.LoadFile) f n
load_file f n = (Text [] ∷ [], inl (([], refl), inl tt))

load_from : (f : Frame) (n : ℕ) → Alive (spot.Statement s.LoadFrom) f n
load_from f n = let k = load_file f n in (Word (codes "from") ∷ k.0, inl (refl, k.1))

load_name : (f : Frame) (n : ℕ) → Alive (spot.Statement s.LoadName) f n
load_name f n = let k = load_from f n in (Word a ∷ k.0, inl ((a, refl, a_name), k.1))

print_name : (f : Frame) (n : ℕ) → Alive (spot.Statement s.PrintName) f n
print_name f n = (Word a ∷ [], inl ((a, refl, a_name), inl tt))

statement : (at : InStatement) (f : Frame) (n : ℕ) → Alive (spot.Statement at) f n
statement s.InsertName f n = insert_name f n
statement s.ValuesOpen f n = values_open f n
statement s.Value f n = value f n
statement s.ValueNext f n = value_next f n
statement s.DeleteName f n = delete_name f n
statement s.DeleteHow f n = delete_how f n
statement s.LoadName f n = load_name f n
statement s.LoadFrom f n = load_from f n
statement s.LoadFile f n = load_file f n
statement s.PrintName f n = print_name f n
statement s.NamesOpen f n = names_open f n
statement s.Name f n = name f n
statement s.NameNext f n = name_next f n
statement s.End f n = end f n

-- ---- definitions

attribute_kind : (f : Frame) (n : ℕ) → Alive (spot.Definition d.AttributeKind) f n
attribute_kind f n = (Word (codes "int") ∷ [], inl (refl, inl tt))

attribute_name : (f : Frame) (n : ℕ) → Alive (spot.Definition d.AttributeName) f n
attribute_name f n = let k = attribute_kind f n in (Word a ∷ k.0, inl ((a, refl, a_name), k.1))

column_next : (f : Frame) (n : ℕ) → Alive (spot.Definition d.ColumnNext) f n
column_next f n = (Sign sign.Close ∷ [], inr (inl (refl, inl tt)))

column_kind : (f : Frame) (n : ℕ) → Alive (spot.Definition d.ColumnKind) f n
column_kind f n = let k = column_next f n in (Word (codes "int") ∷ k.0, inl (refl, k.1))

column : (f : Frame) (n : ℕ) → Alive (spot.Definition d.Column) f n
column f n = let k = column_kind f n in (Word a ∷ k.0, inl ((a, refl, a_name), k.1))

relation_open : (f : Frame) (n : ℕ) → Alive (spot.Definition d.RelationOpen) f n
relation_open f n = let k = column f n in (Sign sign.Open ∷ k.0, inl (refl, k.1))

relation_name : (f : Frame) (n : ℕ) → Alive (spot.Definition d.RelationName) f n
relation_name f n = let k = relation_open f n in (Word a ∷ k.0, inl ((a, refl, a_name), k.1))

taken_next : (f : Frame) (n : ℕ) → Alive (spot.Definition d.TakenNext) f n
taken_next f zero = (Sign sign.Close ∷ [], inl (refl, inl tt))
taken_next f (suc n) = let k = taken_next f n in (Sign sign.Comma ∷ Word a ∷ k.0, inl (refl, inl ((a, refl, a_name), k.1)))

taken : (f : Frame) (n : ℕ) → Alive (spot.Definition d.Taken) f n
taken f zero = let k = taken_next f zero in (Word a ∷ k.0, inl ((a, refl, a_name), k.1))
taken f (suc n) = let k = taken_next f n in (Word a ∷ k.0, inl ((a, refl, a_name), k.1))

taken_open : (f : Frame) (n : ℕ) → Alive (spot.Definition d.TakenOpen) f n
taken_open f n = let k = taken f n in (Sign sign.Open ∷ k.0, inl (refl, k.1))

object_relation : (f : Frame) (n : ℕ) → Alive (spot.Definition d.ObjectRelation) f n
object_relation f n = let k = taken_open f n in (Word a ∷ k.0, inl ((a, refl, a_name), k.1))

object_from : (f : Frame) (n : ℕ) → Alive (spot.Definition d.ObjectFrom) f n
object_from f n = let k = object_relation f n in (Word (codes "from") ∷ k.0, inl (refl, k.1))

attribute_next : (f : Frame) (n : ℕ) → Alive (spot.Definition d.AttributeNext) f n
attribute_next f n = let k = object_from f n in (Sign sign.Close ∷ k.0, inr (inl (refl, k.1)))

attribute : (f : Frame) (n : ℕ) → Alive (spot.Definition d.Attribute) f n
attribute f n = let k = attribute_next f (suc n) in (Word a ∷ k.0, inl ((a, refl, a_name), k.1))

object_open : (f : Frame) (n : ℕ) → Alive (spot.Definition d.ObjectOpen) f n
object_open f n = let k = attribute f n in (Sign sign.Open ∷ k.0, inl (refl, k.1))

object_name : (f : Frame) (n : ℕ) → Alive (spot.Definition d.ObjectName) f n
object_name f n = let k = object_open f n in (Word a ∷ k.0, inl ((a, refl, a_name), k.1))

right_next : (f : Frame) (n : ℕ) → Alive (spot.Definition d.RightNext) f n
right_next f n = ([], inr (inl tt))

right : (f : Frame) (n : ℕ) → Alive (spot.Definition d.Right) f n
right f n = let k = right_next f n in (Word a ∷ k.0, inl ((a, refl, a_name), k.1))

left_next : (f : Frame) (n : ℕ) → Alive (spot.Definition d.LeftNext) f n
left_next f n = let k = right f n in (Sign sign.Arrow ∷ k.0, inr (inl (refl, k.1)))

left : (f : Frame) (n : ℕ) → Alive (spot.Definition d.Left) f n
left f n = let k = left_next f n in (Word a ∷ k.0, inl ((a, refl, a_name), k.1))

definition : (at : InDefinition) (f : Frame) (n : ℕ) → Alive (spot.Definition at) f n
definition d.AttributeName f n = attribute_name f n
definition d.AttributeKind f n = attribute_kind f n
definition d.RelationName f n = relation_name f n
definition d.RelationOpen f n = relation_open f n
definition d.Column f n = column f n
definition d.ColumnKind f n = column_kind f n
definition d.ColumnNext f n = column_next f n
definition d.ObjectName f n = object_name f n
definition d.ObjectOpen f n = object_open f n
definition d.Attribute f n = attribute f n
definition d.AttributeNext f n = attribute_next f n
definition d.ObjectFrom f n = object_from f n
definition d.ObjectRelation f n = object_relation f n
definition d.TakenOpen f n = taken_open f n
definition d.Taken f n = taken f n
definition d.TakenNext f n = taken_next f n
definition d.Left f n = left f n
definition d.LeftNext f n = left_next f n
definition d.Right f n = right f n
definition d.RightNext f n = right_next f n

-- ---- queries and conditions

second_open_from : (f : Frame) (n : ℕ) → Alive (spot.Query q.Where) frame.Second n → Alive (spot.Query q.SecondOpen) f n
second_open_from f n k = (Sign sign.Open ∷ Word (codes "retrieve") ∷ Sign sign.Open ∷ Word a ∷ Sign sign.Close ∷ k.0, inl (refl, inl (refl, inl (refl, inl ((a, refl, a_name), inr (inr (inl (refl, k.1))))))))

compare_with : (f : Frame) (n : ℕ) → Alive (spot.Query q.CompareWith) f n
compare_with f n =
    let k = second_open_from f n (Sign sign.Close ∷ [], inr (inl (refl, inl tt))) in
    (Word (codes "with") ∷ k.0, inl (refl, k.1))

where_ : (f : Frame) (n : ℕ) → Alive (spot.Query q.Where) f n
where_ frame.Alone n = ([], inr (inl tt))
where_ frame.Columns n = ([], inr (inl tt))
where_ frame.First n = let k = compare_with frame.First n in (Sign sign.Close ∷ k.0, inr (inl (refl, k.1)))
where_ frame.Second n = (Sign sign.Close ∷ [], inr (inl (refl, inl tt)))

output_next : (f : Frame) (n : ℕ) → Alive (spot.Query q.OutputNext) f n
output_next f n = let k = where_ f n in (Sign sign.Close ∷ k.0, inr (inl (refl, k.1)))

output_dot : (f : Frame) (n : ℕ) → Alive (spot.Query q.OutputDot) f n
output_dot f n = let k = where_ f n in (Sign sign.Close ∷ k.0, inr (inr (inl (refl, k.1))))

output : (f : Frame) (n : ℕ) → Alive (spot.Query q.Output) f n
output f n = let k = output_dot f n in (Word a ∷ k.0, inl ((a, refl, a_name), k.1))

outputs_open : (f : Frame) (n : ℕ) → Alive (spot.Query q.OutputsOpen) f n
outputs_open f n = let k = output f n in (Sign sign.Open ∷ k.0, inl (refl, k.1))

start : (f : Frame) (n : ℕ) → Alive (spot.Query q.Start) f n
start f n = let k = outputs_open f n in (Word (codes "retrieve") ∷ k.0, inl (refl, k.1))

explained : (f : Frame) (n : ℕ) → Alive (spot.Query q.Explained) f n
explained f n = let k = outputs_open f n in (Word (codes "retrieve") ∷ k.0, inr (inr (inl (refl, k.1))))

compare_open : (f : Frame) (n : ℕ) → Alive (spot.Query q.CompareOpen) f n
compare_open f n = let k = start frame.First n in (Sign sign.Open ∷ k.0, inl (refl, k.1))

output_attribute : (f : Frame) (n : ℕ) → Alive (spot.Query q.OutputAttribute) f n
output_attribute f n = let k = output_next f n in (Word a ∷ k.0, inl ((a, refl, a_name), k.1))

query : (at : InQuery) (f : Frame) (n : ℕ) → Alive (spot.Query at) f n
query q.Explained f n = explained f n
query q.CompareOpen f n = compare_open f n
query q.Start f n = start f n
query q.OutputsOpen f n = outputs_open f n
query q.Output f n = output f n
query q.OutputDot f n = output_dot f n
query q.OutputAttribute f n = output_attribute f n
query q.OutputNext f n = output_next f n
query q.Where f n = where_ f n
query q.CompareWith f n = compare_with f n
query q.SecondOpen f n = second_open_from f n (where_ frame.Second n)

next : (f : Frame) (n : ℕ) → Alive (spot.Condition c.Next) f n
next frame.Alone zero = ([], inr (inr (inl tt)))
next frame.Columns zero = ([], inr (inr (inl tt)))
next frame.First zero = let k = compare_with frame.First zero in (Sign sign.Close ∷ k.0, inr (inr (inl (refl, k.1))))
next frame.Second zero = (Sign sign.Close ∷ [], inr (inr (inl (refl, inl tt))))
next f (suc n) = let k = next f n in (Sign sign.Close ∷ k.0, inr (inr (inl (refl, k.1))))

right_ : (f : Frame) (n : ℕ) → Alive (spot.Condition c.Right) f n
right_ f n = let k = next f n in (Int (pos 0) ∷ k.0, inr (inl ((pos 0, refl), k.1)))

operator : (f : Frame) (n : ℕ) → Alive (spot.Condition c.Operator) f n
operator f n = let k = right_ f n in (Sign sign.Equal ∷ k.0, inl (refl, k.1))

left_dot : (f : Frame) (n : ℕ) → Alive (spot.Condition c.LeftDot) f n
left_dot frame.Alone n = let k = right_ frame.Alone n in (Sign sign.Equal ∷ k.0, inr (inl (refl, k.1)))
left_dot frame.Columns n = let k = right_ frame.Columns n in (Sign sign.Equal ∷ k.0, inl (refl, k.1))
left_dot frame.First n = let k = right_ frame.First n in (Sign sign.Equal ∷ k.0, inr (inl (refl, k.1)))
left_dot frame.Second n = let k = right_ frame.Second n in (Sign sign.Equal ∷ k.0, inr (inl (refl, k.1)))

right_attribute : (f : Frame) (n : ℕ) → Alive (spot.Condition c.RightAttribute) f n
right_attribute f n = let k = next f n in (Word a ∷ k.0, inl ((a, refl, a_name), k.1))

right_dot : (f : Frame) (n : ℕ) → Alive (spot.Condition c.RightDot) f n
right_dot frame.Columns zero = ([], inr (inr (inl tt)))
right_dot frame.Columns (suc n) = let k = next frame.Columns n in (Sign sign.Close ∷ k.0, inr (inr (inl (refl, k.1))))
right_dot frame.Alone n = let k = right_attribute frame.Alone n in (Sign sign.Dot ∷ k.0, inl (refl, k.1))
right_dot frame.First n = let k = right_attribute frame.First n in (Sign sign.Dot ∷ k.0, inl (refl, k.1))
right_dot frame.Second n = let k = right_attribute frame.Second n in (Sign sign.Dot ∷ k.0, inl (refl, k.1))

left_attribute : (f : Frame) (n : ℕ) → Alive (spot.Condition c.LeftAttribute) f n
left_attribute f n = let k = operator f n in (Word a ∷ k.0, inl ((a, refl, a_name), k.1))

primary : (f : Frame) (n : ℕ) → Alive (spot.Condition c.Primary) f n
primary f n = let k = operator f n in (Int (pos 0) ∷ k.0, inr (inr (inl ((pos 0, refl), k.1))))

factor : (f : Frame) (n : ℕ) → Alive (spot.Condition c.Factor) f n
factor f n = let k = primary f n in (k.0, more k.0 k.1)
  where
    more : (xs : List Symbol) → Accepts xs (at (spot.Condition c.Primary) f n) → Accepts xs (at (spot.Condition c.Factor) f n)
    more [] h = inr h
    more (x ∷ xs) h = inr h

condition : (at : InCondition) (f : Frame) (n : ℕ) → Alive (spot.Condition at) f n
condition c.Factor f n = factor f n
condition c.Primary f n = primary f n
condition c.LeftDot f n = left_dot f n
condition c.LeftAttribute f n = left_attribute f n
condition c.Operator f n = operator f n
condition c.Right f n = right_ f n
condition c.RightDot f n = right_dot f n
condition c.RightAttribute f n = right_attribute f n
condition c.Next f n = next f n

-- ---- the start

schema : (f : Frame) (n : ℕ) → Alive (spot.Start language.Statements) f n
schema f n = (Word (codes "schema") ∷ [], inr (inr (inr (inr (inl (refl, inl tt))))))

a_definition : (f : Frame) (n : ℕ) → Alive (spot.Start language.Definitions) f n
a_definition f n = let k = attribute_name f n in (Word (codes "attribute") ∷ k.0, inl (refl, k.1))

either : (f : Frame) (n : ℕ) → Alive (spot.Start language.Either) f n
either f n = let k = attribute_name f n in (Word (codes "attribute") ∷ k.0, inl (refl, k.1))

-- from each state some tokens lead to an end
pub alive : (before : Spot) (f : Frame) (n : ℕ) → Alive before f n
alive (spot.Start language.Statements) f n = schema f n
alive (spot.Start language.Definitions) f n = a_definition f n
alive (spot.Start language.Either) f n = either f n
alive (spot.Definition at) f n = definition at f n
alive (spot.Statement at) f n = statement at f n
alive (spot.Query at) f n = query at f n
alive (spot.Condition at) f n = condition at f n
