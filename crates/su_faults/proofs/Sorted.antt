-- A token is of one sort, and what may come next is told by sorts that differ; so at most one choice takes a token.
use Rattle.std.proofs.Common.{◌≡◌, inl, inr, ℕ, Bool, true, false, not, ◌&&◌, ◌==◌, Some, None, List, [], ◌∷◌, refl, sym, ap, ◌∙◌, subst, arith}
use Rattle.std.specs.List.{list_any}
use Rattle.std.proofs.lemmas.Bool.{false≢true}
use Rattle.std.proofs.lemmas.Bool.Decides.{nat_tests}
use Rattle.su_base.specs.Name.{IsName, is_reserved_word}
use Rattle.su_lex.specs.declared.meaning.Symbol.{Symbol}
use Rattle.su_lex.specs.declared.meaning.Symbol.TheVariants as symbol
use Rattle.su_lex.specs.declared.signs.Sign.{Sign}
use Rattle.su_lex.specs.declared.signs.Sign.TheVariants as sign
use Rattle.su_faults.specs.declared.sorts.Word.{Word}
use Rattle.su_faults.specs.declared.sorts.Word.TheVariants as word
use Rattle.su_faults.specs.declared.sorts.Sort.{Sort}
use Rattle.su_faults.specs.declared.sorts.Sort.TheVariants as sort
use Rattle.su_faults.specs.declared.spots.Move.{Move}
use Rattle.su_faults.specs.declared.spots.Spot.{Spot}
use Rattle.su_faults.specs.declared.spots.Spot.TheVariants as spot
use Rattle.su_faults.specs.declared.spots.Frame.{Frame}
use Rattle.su_faults.specs.declared.spots.Frame.TheVariants as frame
use Rattle.su_faults.specs.declared.spots.Language.TheVariants as language
use Rattle.su_faults.specs.declared.spots.InDefinition.TheVariants as d
use Rattle.su_faults.specs.declared.spots.InStatement.TheVariants as s
use Rattle.su_faults.specs.declared.spots.InQuery.TheVariants as q
use Rattle.su_faults.specs.declared.spots.InCondition.TheVariants as c
use Rattle.su_faults.specs.Sorts.{IsOfSort, spelling}
use Rattle.su_faults.specs.inside.Firsts.{word_at}
use Rattle.su_faults.specs.inside.Choices.{Choices, choices_at}
use Rattle.su_faults.specs.inside.Machine.{IsChosen, HasChoice, IsEnd}

-- ---- words

spelled : (w : Word) → word_at (spelling w) ≡ Some w
spelled word.Attribute = refl
spelled word.Relation = refl
spelled word.Object = refl
spelled word.From = refl
spelled word.Fd = refl
spelled word.Maximal = refl
spelled word.Int = refl
spelled word.Text = refl
spelled word.Insert = refl
spelled word.Delete = refl
spelled word.Where = refl
spelled word.Load = refl
spelled word.Print = refl
spelled word.Schema = refl
spelled word.Closure = refl
spelled word.Retrieve = refl
spelled word.Explain = refl
spelled word.And = refl
spelled word.Or = refl
spelled word.Not = refl
spelled word.Compare = refl
spelled word.With = refl
spelled word.Window = refl

spelling_one : (v w : Word) → spelling v ≡ spelling w → v ≡ w
spelling_one v w e = let h : Some v ≡ Some w = sym (spelled v) ∙ ap word_at e ∙ spelled w in cc

is_reserved : (w : Word) → is_reserved_word (spelling w) ≡ true
is_reserved word.Attribute = refl
is_reserved word.Relation = refl
is_reserved word.Object = refl
is_reserved word.From = refl
is_reserved word.Fd = refl
is_reserved word.Maximal = refl
is_reserved word.Int = refl
is_reserved word.Text = refl
is_reserved word.Insert = refl
is_reserved word.Delete = refl
is_reserved word.Where = refl
is_reserved word.Load = refl
is_reserved word.Print = refl
is_reserved word.Schema = refl
is_reserved word.Closure = refl
is_reserved word.Retrieve = refl
is_reserved word.Explain = refl
is_reserved word.And = refl
is_reserved word.Or = refl
is_reserved word.Not = refl
is_reserved word.Compare = refl
is_reserved word.With = refl
is_reserved word.Window = refl

no_name : (w : Word) (name : List ℕ) → symbol.Word (spelling w) ≡ symbol.Word name → IsName name → ⊥
no_name w name e is = let h : spelling w ≡ name = cc in false≢true (sym is.1 ∙ ap is_reserved_word (sym h) ∙ is_reserved w)

-- ---- sorts

pub sort_one : (a b : Sort) (x : Symbol) → IsOfSort a x → IsOfSort b x → a ≡ b
sort_one (sort.Word v) (sort.Word w) x p q = ap sort.Word (spelling_one v w (let e = sym p ∙ q in cc))
sort_one (sort.Word v) sort.Name x p q = absurd (no_name v q.0 (sym p ∙ q.1) q.2)
sort_one (sort.Word v) sort.Number x p q = absurd (let e = sym p ∙ q.1 in cc)
sort_one (sort.Word v) sort.Text x p q = absurd (let e = sym p ∙ q.1 in cc)
sort_one (sort.Word v) (sort.Sign s) x p q = absurd (let e = sym p ∙ q in cc)
sort_one sort.Name (sort.Word w) x p q = absurd (no_name w p.0 (sym q ∙ p.1) p.2)
sort_one sort.Name sort.Name x p q = refl
sort_one sort.Name sort.Number x p q = absurd (let e = sym p.1 ∙ q.1 in cc)
sort_one sort.Name sort.Text x p q = absurd (let e = sym p.1 ∙ q.1 in cc)
sort_one sort.Name (sort.Sign s) x p q = absurd (let e = sym p.1 ∙ q in cc)
sort_one sort.Number (sort.Word w) x p q = absurd (let e = sym p.1 ∙ q in cc)
sort_one sort.Number sort.Name x p q = absurd (let e = sym p.1 ∙ q.1 in cc)
sort_one sort.Number sort.Number x p q = refl
sort_one sort.Number sort.Text x p q = absurd (let e = sym p.1 ∙ q.1 in cc)
sort_one sort.Number (sort.Sign s) x p q = absurd (let e = sym p.1 ∙ q in cc)
sort_one sort.Text (sort.Word w) x p q = absurd (let e = sym p.1 ∙ q in cc)
sort_one sort.Text sort.Name x p q = absurd (let e = sym p.1 ∙ q.1 in cc)
sort_one sort.Text sort.Number x p q = absurd (let e = sym p.1 ∙ q.1 in cc)
sort_one sort.Text sort.Text x p q = refl
sort_one sort.Text (sort.Sign s) x p q = absurd (let e = sym p.1 ∙ q in cc)
sort_one (sort.Sign s) (sort.Word w) x p q = absurd (let e = sym p ∙ q in cc)
sort_one (sort.Sign s) sort.Name x p q = absurd (let e = sym p ∙ q.1 in cc)
sort_one (sort.Sign s) sort.Number x p q = absurd (let e = sym p ∙ q.1 in cc)
sort_one (sort.Sign s) sort.Text x p q = absurd (let e = sym p ∙ q.1 in cc)
sort_one (sort.Sign s) (sort.Sign t) x p q = ap sort.Sign (let e = sym p ∙ q in cc)
sort_one sort.End _ x p q = absurd p
sort_one _ sort.End x p q = absurd q

abbrev word_number : Word → ℕ
word_number word.Attribute = 10
word_number word.Relation = 11
word_number word.Object = 12
word_number word.From = 13
word_number word.Fd = 14
word_number word.Maximal = 15
word_number word.Int = 16
word_number word.Text = 17
word_number word.Insert = 18
word_number word.Delete = 19
word_number word.Where = 20
word_number word.Load = 21
word_number word.Print = 22
word_number word.Schema = 23
word_number word.Closure = 24
word_number word.Retrieve = 25
word_number word.Explain = 26
word_number word.And = 27
word_number word.Or = 28
word_number word.Not = 29
word_number word.Compare = 30
word_number word.With = 31
word_number word.Window = 32

abbrev sign_number : Sign → ℕ
sign_number sign.Open = 40
sign_number sign.Close = 41
sign_number sign.Comma = 42
sign_number sign.Dot = 43
sign_number sign.Arrow = 44
sign_number sign.Equal = 45
sign_number sign.NotEqual = 46
sign_number sign.Less = 47
sign_number sign.LessEqual = 48
sign_number sign.Greater = 49
sign_number sign.GreaterEqual = 50

-- a number of its own for each sort
abbrev number : Sort → ℕ
number (sort.Word w) = word_number w
number (sort.Sign s) = sign_number s
number sort.Name = 1
number sort.Number = 2
number sort.Text = 3
number sort.End = 4

abbrev is_in : Sort → Choices → Bool
is_in sort choices = list_any (λ c. number c.0 == number sort) choices

-- no two choices are of one sort
abbrev pub distinct : Choices → Bool
distinct [] = true
distinct (c ∷ cs) = not (is_in c.0 cs) && distinct cs

pub distinct_at : (at : Spot) (f : Frame) (flat : Bool) → distinct (choices_at at f flat) ≡ true
distinct_at (spot.Start language.Statements) f flat = refl
distinct_at (spot.Start language.Definitions) f flat = refl
distinct_at (spot.Start language.Either) f flat = refl
distinct_at (spot.Definition d.AttributeName) f flat = refl
distinct_at (spot.Definition d.AttributeKind) f flat = refl
distinct_at (spot.Definition d.RelationName) f flat = refl
distinct_at (spot.Definition d.RelationOpen) f flat = refl
distinct_at (spot.Definition d.Column) f flat = refl
distinct_at (spot.Definition d.ColumnKind) f flat = refl
distinct_at (spot.Definition d.ColumnNext) f flat = refl
distinct_at (spot.Definition d.ObjectName) f flat = refl
distinct_at (spot.Definition d.ObjectOpen) f flat = refl
distinct_at (spot.Definition d.Attribute) f flat = refl
distinct_at (spot.Definition d.AttributeNext) f flat = refl
distinct_at (spot.Definition d.ObjectFrom) f flat = refl
distinct_at (spot.Definition d.ObjectRelation) f flat = refl
distinct_at (spot.Definition d.TakenOpen) f flat = refl
distinct_at (spot.Definition d.Taken) f flat = refl
distinct_at (spot.Definition d.Left) f flat = refl
distinct_at (spot.Definition d.LeftNext) f flat = refl
distinct_at (spot.Definition d.Right) f flat = refl
distinct_at (spot.Definition d.RightNext) f flat = refl
distinct_at (spot.Definition d.TakenNext) f true = refl
distinct_at (spot.Definition d.TakenNext) f false = refl
distinct_at (spot.Statement s.InsertName) f flat = refl
distinct_at (spot.Statement s.ValuesOpen) f flat = refl
distinct_at (spot.Statement s.Value) f flat = refl
distinct_at (spot.Statement s.ValueNext) f flat = refl
distinct_at (spot.Statement s.DeleteName) f flat = refl
distinct_at (spot.Statement s.DeleteHow) f flat = refl
distinct_at (spot.Statement s.LoadName) f flat = refl
distinct_at (spot.Statement s.LoadFrom) f flat = refl
distinct_at (spot.Statement s.LoadFile) f flat = refl
distinct_at (spot.Statement s.PrintName) f flat = refl
distinct_at (spot.Statement s.NamesOpen) f flat = refl
distinct_at (spot.Statement s.Name) f flat = refl
distinct_at (spot.Statement s.NameNext) f flat = refl
distinct_at (spot.Statement s.End) f flat = refl
distinct_at (spot.Query q.Explained) f flat = refl
distinct_at (spot.Query q.CompareOpen) f flat = refl
distinct_at (spot.Query q.Start) f flat = refl
distinct_at (spot.Query q.OutputsOpen) f flat = refl
distinct_at (spot.Query q.Output) f flat = refl
distinct_at (spot.Query q.OutputDot) f flat = refl
distinct_at (spot.Query q.OutputAttribute) f flat = refl
distinct_at (spot.Query q.OutputNext) f flat = refl
distinct_at (spot.Query q.CompareWith) f flat = refl
distinct_at (spot.Query q.SecondOpen) f flat = refl
distinct_at (spot.Query q.Where) frame.Alone flat = refl
distinct_at (spot.Query q.Where) frame.Columns flat = refl
distinct_at (spot.Query q.Where) frame.First flat = refl
distinct_at (spot.Query q.Where) frame.Second flat = refl
distinct_at (spot.Condition c.Factor) f flat = refl
distinct_at (spot.Condition c.Primary) f flat = refl
distinct_at (spot.Condition c.LeftAttribute) f flat = refl
distinct_at (spot.Condition c.Operator) f flat = refl
distinct_at (spot.Condition c.Right) f flat = refl
distinct_at (spot.Condition c.RightAttribute) f flat = refl
distinct_at (spot.Condition c.LeftDot) frame.Alone flat = refl
distinct_at (spot.Condition c.LeftDot) frame.Columns flat = refl
distinct_at (spot.Condition c.LeftDot) frame.First flat = refl
distinct_at (spot.Condition c.LeftDot) frame.Second flat = refl
distinct_at (spot.Condition c.RightDot) frame.Alone true = refl
distinct_at (spot.Condition c.RightDot) frame.Alone false = refl
distinct_at (spot.Condition c.RightDot) frame.Columns true = refl
distinct_at (spot.Condition c.RightDot) frame.Columns false = refl
distinct_at (spot.Condition c.RightDot) frame.First true = refl
distinct_at (spot.Condition c.RightDot) frame.First false = refl
distinct_at (spot.Condition c.RightDot) frame.Second true = refl
distinct_at (spot.Condition c.RightDot) frame.Second false = refl
distinct_at (spot.Condition c.Next) frame.Alone true = refl
distinct_at (spot.Condition c.Next) frame.Alone false = refl
distinct_at (spot.Condition c.Next) frame.Columns true = refl
distinct_at (spot.Condition c.Next) frame.Columns false = refl
distinct_at (spot.Condition c.Next) frame.First true = refl
distinct_at (spot.Condition c.Next) frame.First false = refl
distinct_at (spot.Condition c.Next) frame.Second true = refl
distinct_at (spot.Condition c.Next) frame.Second false = refl

-- ---- choices

some_in : (P : Move → Type 0) (cs : Choices) (k : Sort) (x : Symbol) → IsOfSort k x → HasChoice (λ c. IsOfSort c.0 x × P c.1) cs → is_in k cs ≡ true
some_in P [] k x is h = absurd h
some_in P (c ∷ cs) k x is (inl h) = let same : number c.0 ≡ number k = ap number (sort_one c.0 k x h.0 is) in grind (arith, nat_tests, same)
some_in P (c ∷ cs) k x is (inr h) = let more = some_in P cs k x is h in grind (arith, nat_tests, more)

-- the choice of a token's sort is the one that takes it
pub only_one : (P : Move → Type 0) (cs : Choices) (k : Sort) (x : Symbol) (m : Move) → distinct cs ≡ true → IsOfSort k x → IsChosen cs k (Some m) → HasChoice (λ c. IsOfSort c.0 x × P c.1) cs → P m
only_one P [] k x m apart is w h = absurd h
only_one P (c ∷ cs) k x m apart is (inl w) (inl h) = subst P (let e = w.1 in cc) h.1
only_one P (c ∷ cs) k x m apart is (inl w) (inr h) =
    let there : is_in c.0 cs ≡ true = rw w.0 (some_in P cs k x is h) in
    absurd (grind (arith, apart, there))
only_one P (c ∷ cs) k x m apart is (inr w) (inl h) = absurd (w.0 (sort_one c.0 k x h.0 is))
only_one P (c ∷ cs) k x m apart is (inr w) (inr h) = only_one P cs k x m (grind (arith, apart)) is w.1 h

pub the_one : (P : Move → Type 0) (cs : Choices) (k : Sort) (x : Symbol) (m : Move) → IsOfSort k x → IsChosen cs k (Some m) → P m → HasChoice (λ c. IsOfSort c.0 x × P c.1) cs
the_one P [] k x m is w h = absurd (cc)
the_one P (c ∷ cs) k x m is (inl w) h = inl (subst (λ (j : Sort). IsOfSort j x) (sym w.0) is, subst P (let e = w.1 in cc) h)
the_one P (c ∷ cs) k x m is (inr w) h = inr (the_one P cs k x m is w.1 h)

pub none_chosen : (P : Move → Type 0) (cs : Choices) (k : Sort) (x : Symbol) → IsOfSort k x → IsChosen cs k None → HasChoice (λ c. IsOfSort c.0 x × P c.1) cs → ⊥
none_chosen P [] k x is w h = h
none_chosen P (c ∷ cs) k x is (inl w) h = let e = w.1 in cc
none_chosen P (c ∷ cs) k x is (inr w) (inl h) = w.0 (sort_one c.0 k x h.0 is)
none_chosen P (c ∷ cs) k x is (inr w) (inr h) = none_chosen P cs k x is w.1 h

-- ---- the end

pub end_is : (k : Sort) → IsEnd k → k ≡ sort.End
end_is sort.End h = refl
end_is _ h = absurd h

pub end_chosen : (cs : Choices) (m : Move) → IsChosen cs sort.End (Some m) → HasChoice (λ c. IsEnd c.0) cs
end_chosen [] m w = absurd (cc)
end_chosen (c ∷ cs) m (inl w) = inl (subst IsEnd (sym w.0) tt)
end_chosen (c ∷ cs) m (inr w) = inr (end_chosen cs m w.1)

pub end_not_chosen : (cs : Choices) → IsChosen cs sort.End None → HasChoice (λ c. IsEnd c.0) cs → ⊥
end_not_chosen [] w h = h
end_not_chosen (c ∷ cs) (inl w) h = let e = w.1 in cc
end_not_chosen (c ∷ cs) (inr w) (inl h) = w.0 (end_is c.0 h)
end_not_chosen (c ∷ cs) (inr w) (inr h) = end_not_chosen cs w.1 h
