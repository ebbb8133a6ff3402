-- The tokens that lead on from within a condition are read as the rest of one.
-- f: the frame; n: how many parentheses are open
use Rattle.std.proofs.Common.{◌≡◌, ◌⊎◌, inl, inr, ℕ, zero, suc, Bool, true, false, ◌&&◌, ◌==◌, Some, None, List, [], ◌∷◌, ◌++◌, refl, sym, ap, ◌∙◌, arith, codes, append_assoc}
use Rattle.std.specs.Prelude.{is_none, flat_map}
use Rattle.std.specs.List.{AllByRecursion, list_all}
use Rattle.std.proofs.lemmas.Bool.{false≢true}
use Rattle.std.proofs.lemmas.Grind.{flat_map-append}
use Rattle.std.proofs.lemmas.List.Folds.{list_all-append}
use Rattle.su_base.specs.Name.{IsName}
use Rattle.su_base.specs.declared.values.Value.{Value}
use Rattle.su_base.specs.declared.values.Value.TheVariants as value
use Rattle.su_lex.specs.Blanks.{begins}
use Rattle.su_lex.specs.Names.{Begins}
use Rattle.su_where.specs.declared.operators.Op.{Op}
use Rattle.su_where.specs.declared.operators.Op.TheVariants as op
use Rattle.su_where.specs.declared.conditions.Condition.TheVariants.{Compare, Not, All, Any}
use Rattle.su_where.specs.Truth.{comparisons_of}
use Rattle.su_where.proofs.Layers.{comparisons_of-Compare, comparisons_of-Not, comparisons_of-All, comparisons_of-Any}
use Rattle.su_query.specs.declared.refs.Ref.{Ref as ARef}
use Rattle.su_query.specs.declared.refs.NamedOperand.{NamedOperand}
use Rattle.su_query.specs.declared.refs.NamedOperand.TheVariants.{Ref, Const}
use Rattle.su_query.specs.declared.conditions.Comparison.{Comparison}
use Rattle.su_query.specs.Refs.{NamedCond, refs_in, refs_beside, refs_of}
use Rattle.su_query.specs.Mentions.{are_columns}
use Rattle.su_query.specs.Operands.{op_sym}
use Rattle.su_query.specs.Grammar.{any_of, all_of}
use Rattle.su_query.specs.inside.ReadItems.{ReadsOperand}
use Rattle.su_query.specs.inside.ReadConditions as g
use Rattle.su_query.specs.inside.ReadConditions.{ReadsCond, ReadsOrs, ReadsConj, ReadsAnds, ReadsFactor, ReadsPrimary, compared}
use Rattle.su_lex.specs.declared.meaning.Symbol.{Symbol}
use Rattle.su_lex.specs.declared.meaning.Symbol.TheVariants.{Word, Sign}
use Rattle.su_lex.specs.declared.signs.Sign.TheVariants as sign
use Rattle.su_faults.specs.declared.spots.Move.{Move}
use Rattle.su_faults.specs.declared.spots.Move.TheVariants.{To}
use Rattle.su_faults.specs.declared.spots.Frame.{Frame}
use Rattle.su_faults.specs.declared.spots.Frame.TheVariants as frame
use Rattle.su_faults.specs.declared.spots.Spot.TheVariants as spot
use Rattle.su_faults.specs.declared.spots.InCondition.{InCondition}
use Rattle.su_faults.specs.declared.spots.InCondition.TheVariants as c
use Rattle.su_faults.specs.Sorts.{IsOfSort}
use Rattle.su_faults.specs.inside.Choices.{exits, operators, primaries, nexts}
use Rattle.su_faults.specs.inside.Machine.{Accepts, HasChoice, IsEnd, moved, is_flat}
use Rattle.su_faults.proofs.Endings.{at, same_moves}

-- ---- columns alone

-- on the ground of columns no ref has a variable
abbrev pub Suits : Frame → NamedCond → Type 0
Suits frame.Columns c = are_columns c ≡ true
Suits _ c = Unit {0}

abbrev pub SuitsOperand : Frame → NamedOperand → Type 0
SuitsOperand frame.Columns (Ref ref) = is_none ref.variable ≡ true
SuitsOperand _ a = Unit {0}

columns_flat : (cs : List NamedCond) → list_all (λ ref. is_none ref.variable) (flat_map refs_beside (flat_map comparisons_of cs)) ≡ list_all are_columns cs
columns_flat [] = refl
columns_flat (d ∷ ds) =
    ap (list_all (λ ref. is_none ref.variable)) (flat_map-append refs_beside (comparisons_of d) (flat_map comparisons_of ds))
    ∙ list_all-append (λ ref. is_none ref.variable) (refs_of d) (flat_map refs_beside (flat_map comparisons_of ds))
    ∙ ap (λ b. are_columns d && b) (columns_flat ds)

each_column : (cs : List NamedCond) → AllByRecursion (Suits frame.Columns) cs → list_all are_columns cs ≡ true
each_column [] all = refl
each_column (d ∷ ds) all = let more = each_column ds all.1 in rw (all.0) more

column_each : (cs : List NamedCond) → list_all are_columns cs ≡ true → AllByRecursion (Suits frame.Columns) cs
column_each [] e = tt
column_each (d ∷ ds) e = let here : are_columns d ≡ true = grind (arith, e) in (here, column_each ds (grind (arith, e, here)))

columns-Any : (cs : List NamedCond) → are_columns (Any cs) ≡ list_all are_columns cs
columns-Any cs = ap (λ ks. list_all (λ ref. is_none ref.variable) (flat_map refs_beside ks)) (comparisons_of-Any cs) ∙ columns_flat cs

columns-All : (cs : List NamedCond) → are_columns (All cs) ≡ list_all are_columns cs
columns-All cs = ap (λ ks. list_all (λ ref. is_none ref.variable) (flat_map refs_beside ks)) (comparisons_of-All cs) ∙ columns_flat cs

suits_any_columns : (d : NamedCond) (ds : List NamedCond) → AllByRecursion (Suits frame.Columns) (d ∷ ds) → are_columns (any_of (d ∷ ds)) ≡ true
suits_any_columns d [] all = all.0
suits_any_columns d (k ∷ ks) all = columns-Any (d ∷ k ∷ ks) ∙ each_column (d ∷ k ∷ ks) all

suits_all_columns : (d : NamedCond) (ds : List NamedCond) → AllByRecursion (Suits frame.Columns) (d ∷ ds) → are_columns (all_of (d ∷ ds)) ≡ true
suits_all_columns d [] all = all.0
suits_all_columns d (k ∷ ks) all = columns-All (d ∷ k ∷ ks) ∙ each_column (d ∷ k ∷ ks) all

any_suits_columns : (d : NamedCond) (ds : List NamedCond) → are_columns (any_of (d ∷ ds)) ≡ true → AllByRecursion (Suits frame.Columns) (d ∷ ds)
any_suits_columns d [] e = (e, tt)
any_suits_columns d (k ∷ ks) e = column_each (d ∷ k ∷ ks) (sym (columns-Any (d ∷ k ∷ ks)) ∙ e)

all_suits_columns : (d : NamedCond) (ds : List NamedCond) → are_columns (all_of (d ∷ ds)) ≡ true → AllByRecursion (Suits frame.Columns) (d ∷ ds)
all_suits_columns d [] e = (e, tt)
all_suits_columns d (k ∷ ks) e = column_each (d ∷ k ∷ ks) (sym (columns-All (d ∷ k ∷ ks)) ∙ e)

-- where any condition suits, all do
free : (f : Frame) (cs : List NamedCond) → ((d : NamedCond) → Suits f d) → AllByRecursion (Suits f) cs
free f [] h = tt
free f (d ∷ ds) h = (h d, free f ds h)

pub suits_any : (f : Frame) (d : NamedCond) (ds : List NamedCond) → AllByRecursion (Suits f) (d ∷ ds) → Suits f (any_of (d ∷ ds))
suits_any frame.Alone d ds all = tt
suits_any frame.Columns d ds all = suits_any_columns d ds all
suits_any frame.First d ds all = tt
suits_any frame.Second d ds all = tt

pub suits_all : (f : Frame) (d : NamedCond) (ds : List NamedCond) → AllByRecursion (Suits f) (d ∷ ds) → Suits f (all_of (d ∷ ds))
suits_all frame.Alone d ds all = tt
suits_all frame.Columns d ds all = suits_all_columns d ds all
suits_all frame.First d ds all = tt
suits_all frame.Second d ds all = tt

pub any_suits : (f : Frame) (d : NamedCond) (ds : List NamedCond) → Suits f (any_of (d ∷ ds)) → AllByRecursion (Suits f) (d ∷ ds)
any_suits frame.Alone d ds all = free frame.Alone (d ∷ ds) (λ k. tt)
any_suits frame.Columns d ds all = any_suits_columns d ds all
any_suits frame.First d ds all = free frame.First (d ∷ ds) (λ k. tt)
any_suits frame.Second d ds all = free frame.Second (d ∷ ds) (λ k. tt)

pub all_suits : (f : Frame) (d : NamedCond) (ds : List NamedCond) → Suits f (all_of (d ∷ ds)) → AllByRecursion (Suits f) (d ∷ ds)
all_suits frame.Alone d ds all = free frame.Alone (d ∷ ds) (λ k. tt)
all_suits frame.Columns d ds all = all_suits_columns d ds all
all_suits frame.First d ds all = free frame.First (d ∷ ds) (λ k. tt)
all_suits frame.Second d ds all = free frame.Second (d ∷ ds) (λ k. tt)

columns-Not : (d : NamedCond) → are_columns (Not d) ≡ are_columns d
columns-Not d = ap (λ ks. list_all (λ ref. is_none ref.variable) (flat_map refs_beside ks)) (comparisons_of-Not d)

pub suits_not : (f : Frame) (d : NamedCond) → Suits f d → Suits f (Not d)
suits_not frame.Alone d h = tt
suits_not frame.Columns d h = columns-Not d ∙ h
suits_not frame.First d h = tt
suits_not frame.Second d h = tt

pub not_suits : (f : Frame) (d : NamedCond) → Suits f (Not d) → Suits f d
not_suits frame.Alone d h = tt
not_suits frame.Columns d h = sym (columns-Not d) ∙ h
not_suits frame.First d h = tt
not_suits frame.Second d h = tt

columns-Compare : (k : Comparison) → are_columns (Compare k) ≡ list_all (λ ref. is_none ref.variable) (refs_beside k ++ [])
columns-Compare k = ap (λ ks. list_all (λ ref. is_none ref.variable) (flat_map refs_beside ks)) (comparisons_of-Compare k)

side_columns : (a : NamedOperand) (rest : List ARef) → SuitsOperand frame.Columns a → list_all (λ ref. is_none ref.variable) rest ≡ true → list_all (λ ref. is_none ref.variable) (refs_in a ++ rest) ≡ true
side_columns (Ref ref) rest h e = rw h e
side_columns (Const v) rest h e = e

columns_side : (a : NamedOperand) (rest : List ARef) → list_all (λ ref. is_none ref.variable) (refs_in a ++ rest) ≡ true → SuitsOperand frame.Columns a × (list_all (λ ref. is_none ref.variable) rest ≡ true)
columns_side (Ref ref) rest e = let here : is_none ref.variable ≡ true = grind (arith, e) in (here, grind (arith, e, here))
columns_side (Const v) rest e = (tt, e)

pub suits_compare : (f : Frame) (a b : NamedOperand) (o : Op) → SuitsOperand f a → SuitsOperand f b → Suits f (Compare (compared a o b))
suits_compare frame.Alone a b o h i = tt
suits_compare frame.Columns a b o h i =
    columns-Compare (compared a o b) ∙ ap (list_all (λ ref. is_none ref.variable)) (append_assoc (refs_in a) (refs_in b) []) ∙ side_columns a (refs_in b ++ []) h (side_columns b [] i refl)
suits_compare frame.First a b o h i = tt
suits_compare frame.Second a b o h i = tt

pub compare_suits : (f : Frame) (a b : NamedOperand) (o : Op) → Suits f (Compare (compared a o b)) → SuitsOperand f a × SuitsOperand f b
compare_suits frame.Alone a b o h = (tt, tt)
compare_suits frame.Columns a b o h =
    let all = sym (ap (list_all (λ ref. is_none ref.variable)) (append_assoc (refs_in a) (refs_in b) [])) ∙ sym (columns-Compare (compared a o b)) ∙ h in
    let left = columns_side a (refs_in b ++ []) all in
    let right = columns_side b [] left.1 in
    (left.0, right.0)
compare_suits frame.First a b o h = (tt, tt)
compare_suits frame.Second a b o h = (tt, tt)

-- ---- what is taken

-- what may follow outside of all parentheses
abbrev pub Leaves : Frame → List Symbol → Type 0
Leaves f [] = HasChoice (λ e. IsEnd e.0) (exits f)
Leaves f (x ∷ xs) = HasChoice (λ e. IsOfSort e.0 x × Accepts xs (moved e.1 (at (spot.Condition c.Next) f zero))) (exits f)

-- { "and" factor } { "or" conj }, from s to r
pub record Tail (f : Frame) (s r : List Symbol) : Type 0 where
  pub factors : List NamedCond
  pub conjs : List NamedCond
  pub middle : List Symbol
  pub ands : ReadsAnds factors s middle
  pub ors : ReadsOrs conjs middle r
  pub suit : AllByRecursion (Suits f) factors
  pub suits : AllByRecursion (Suits f) conjs

-- behind a comparison or parentheses: the tail of each condition that is open, a parenthesis behind each but the last
abbrev pub Rest : Frame → ℕ → List Symbol → Type 0
Rest f zero s = (r : List Symbol) × Tail f s r × Leaves f r
Rest f (suc n) s = (r : List Symbol) × (t : List Symbol) × Tail f s r × (r ≡ Sign sign.Close ∷ t) × Rest f n t

-- an operator, an operand and the rest
abbrev Operated : Frame → ℕ → List Symbol → Type 0
Operated f n s = (o : Op) × (b : NamedOperand) × (t : List Symbol) × (r : List Symbol) × (s ≡ op_sym o ∷ t) × ReadsOperand b t r × SuitsOperand f b × Rest f n r

-- a dot and a name, before what is left
abbrev Dotted : (List Symbol → Type 0) → List Symbol → Type 0
Dotted P s = (name : List ℕ) × (t : List Symbol) × (s ≡ Sign sign.Dot ∷ Word name ∷ t) × IsName name × P t

-- what is read, spot by spot
abbrev pub Read : InCondition → Frame → ℕ → List Symbol → Type 0
Read c.Factor f n s = (d : NamedCond) × (t : List Symbol) × ReadsFactor d s t × Suits f d × Rest f n t
Read c.Primary f n s = (d : NamedCond) × (t : List Symbol) × ReadsPrimary d s t × Suits f d × Rest f n t
Read c.LeftDot f n s = Operated f n s ⊎ (Dotted (Operated f n) s × ((name ref : List ℕ) → SuitsOperand f (Ref (record { variable = Some name; attribute = ref }))))
Read c.LeftAttribute f n s = (name : List ℕ) × (t : List Symbol) × (s ≡ Word name ∷ t) × IsName name × Operated f n t
Read c.Operator f n s = Operated f n s
Read c.Right f n s = (b : NamedOperand) × (r : List Symbol) × ReadsOperand b s r × SuitsOperand f b × Rest f n r
Read c.RightDot f n s = (Rest f n s × ¬ (Begins (Sign sign.Dot) s)) ⊎ (Dotted (λ t. Rest f n t × ¬ (Begins (Sign sign.Dot) t)) s × ((name ref : List ℕ) → SuitsOperand f (Ref (record { variable = Some name; attribute = ref }))))
Read c.RightAttribute f n s = (name : List ℕ) × (t : List Symbol) × (s ≡ Word name ∷ t) × IsName name × Rest f n t × ¬ (Begins (Sign sign.Dot) t)
Read c.Next f n s = Rest f n s × ¬ (Begins (Sign sign.Dot) s)

rest_map : (f : Frame) (n : ℕ) (t s : List Symbol) → ((r : List Symbol) → Tail f t r → Tail f s r) → Rest f n t → Rest f n s
rest_map f zero t s to h = (h.0, to h.0 h.1, h.2)
rest_map f (suc n) t s to h = (h.0, h.1, to h.0 h.2, h.3, h.4)

tail_and : (f : Frame) (x : Symbol) (xs t r : List Symbol) (d : NamedCond) → x ≡ Word (codes "and") → ReadsFactor d xs t → Suits f d → Tail f t r → Tail f (x ∷ xs) r
tail_and f x xs t r d e h suit l = record {
  factors = d ∷ l.factors;
  conjs = l.conjs;
  middle = l.middle;
  ands = g.one_and (d ∷ l.factors) d l.factors (x ∷ xs) xs t l.middle refl (ap (λ y. y ∷ xs) e) h l.ands;
  ors = l.ors;
  suit = (suit, l.suit);
  suits = l.suits;
}

no_and_before : (x : Symbol) (xs : List Symbol) → (x ≡ Word (codes "and") → ⊥) → ¬ (Begins (Word (codes "and")) (x ∷ xs))
no_and_before x xs other h = other (let e = h.1 in cc)

no_or_before : (x : Symbol) (xs : List Symbol) → (x ≡ Word (codes "or") → ⊥) → ¬ (Begins (Word (codes "or")) (x ∷ xs))
no_or_before x xs other h = other (let e = h.1 in cc)

differ : (p : ℕ → Bool) (v w : List ℕ) (x : Symbol) → x ≡ Word v → begins p v ≡ true → begins p w ≡ false → x ≡ Word w → ⊥
differ p v w x e here there i = let h : v ≡ w = let k = sym e ∙ i in cc in false≢true (sym there ∙ ap (begins p) (sym h) ∙ here)

or_no_and : (x : Symbol) → x ≡ Word (codes "or") → x ≡ Word (codes "and") → ⊥
or_no_and x e i = differ (λ b. b == 111) (codes "or") (codes "and") x e refl refl i

tail_or : (f : Frame) (x : Symbol) (xs t r : List Symbol) (d : NamedCond) → x ≡ Word (codes "or") → ReadsFactor d xs t → Suits f d → Tail f t r → Tail f (x ∷ xs) r
tail_or f x xs t r d e h suit l =
    let whole = all_of (d ∷ l.factors) in record {
      factors = [];
      conjs = whole ∷ l.conjs;
      middle = x ∷ xs;
      ands = g.no_and [] (x ∷ xs) (x ∷ xs) refl refl (no_and_before x xs (or_no_and x e));
      ors = g.one_or (whole ∷ l.conjs) whole l.conjs (x ∷ xs) xs l.middle r refl (ap (λ y. y ∷ xs) e) (g.conj whole d l.factors xs t l.middle refl h l.ands) l.ors;
      suit = tt;
      suits = (suits_all f d l.factors (suit, l.suit), l.suits);
    }

tail_none : (f : Frame) (s : List Symbol) → ¬ (Begins (Word (codes "and")) s) → ¬ (Begins (Word (codes "or")) s) → Tail f s s
tail_none f s other none = record { factors = []; conjs = []; middle = s; ands = g.no_and [] s s refl refl other; ors = g.no_or [] s s refl refl none; suit = tt; suits = tt }

-- a factor and its tail are a condition
cond_of : (f : Frame) (s t r : List Symbol) (d : NamedCond) → ReadsFactor d s t → Suits f d → Tail f t r → (k : NamedCond) × ReadsCond k s r × Suits f k
cond_of f s t r d h suit l =
    let whole = all_of (d ∷ l.factors) in
    (any_of (whole ∷ l.conjs), g.cond (any_of (whole ∷ l.conjs)) whole l.conjs s l.middle r refl (g.conj whole d l.factors s t l.middle refl h l.ands) l.ors, suits_any f whole l.conjs (suits_all f d l.factors (suit, l.suit), l.suits))

-- what is read of the tokens behind the first one
abbrev Known : List Symbol → Type 0
Known xs = (here : InCondition) (f : Frame) (n : ℕ) → Accepts xs (at (spot.Condition here) f n) → Read here f n xs

-- no form begins with a dot where none may come
no_dot_word : (x : Symbol) (xs : List Symbol) (w : List ℕ) → x ≡ Word w → ¬ (Begins (Sign sign.Dot) (x ∷ xs))
no_dot_word x xs w e h = let i = h.1 in cc

no_dot_close : (x : Symbol) (xs : List Symbol) → x ≡ Sign sign.Close → ¬ (Begins (Sign sign.Dot) (x ∷ xs))
no_dot_close x xs e h = let i = h.1 in cc

close_no_word : (x : Symbol) (w : List ℕ) → x ≡ Sign sign.Close → x ≡ Word w → ⊥
close_no_word x w e i = let k = sym e ∙ i in cc

closed : (f : Frame) (x : Symbol) (xs : List Symbol) → x ≡ Sign sign.Close → Tail f (x ∷ xs) (x ∷ xs)
closed f x xs e = tail_none f (x ∷ xs) (no_and_before x xs (close_no_word x (codes "and") e)) (no_or_before x xs (close_no_word x (codes "or") e))

exit_close : (f : Frame) (x : Symbol) (xs : List Symbol) → HasChoice (λ e. IsOfSort e.0 x × Accepts xs (moved e.1 (at (spot.Condition c.Next) f zero))) (exits f) → x ≡ Sign sign.Close
exit_close frame.Alone x xs (inl h) = absurd h.0
exit_close frame.Alone x xs (inr h) = absurd h
exit_close frame.Columns x xs (inl h) = absurd h.0
exit_close frame.Columns x xs (inr h) = absurd h
exit_close frame.First x xs (inl h) = h.0
exit_close frame.First x xs (inr h) = absurd h
exit_close frame.Second x xs (inl h) = h.0
exit_close frame.Second x xs (inr h) = absurd h

-- behind a comparison or parentheses
next_read : (x : Symbol) (xs : List Symbol) → Known xs → (f : Frame) (n : ℕ) → Accepts (x ∷ xs) (at (spot.Condition c.Next) f n) → Read c.Next f n (x ∷ xs)
next_read x xs known f zero (inl (e, h)) = let r = known c.Factor f zero h in (rest_map f zero r.1 (x ∷ xs) (λ t l. tail_and f x xs r.1 t r.0 e r.2 r.3 l) r.4, no_dot_word x xs (codes "and") e)
next_read x xs known f zero (inr (inl (e, h))) = let r = known c.Factor f zero h in (rest_map f zero r.1 (x ∷ xs) (λ t l. tail_or f x xs r.1 t r.0 e r.2 r.3 l) r.4, no_dot_word x xs (codes "or") e)
next_read x xs known f zero (inr (inr h)) = let e = exit_close f x xs h in ((x ∷ xs, closed f x xs e, h), no_dot_close x xs e)
next_read x xs known f (suc n) (inl (e, h)) = let r = known c.Factor f (suc n) h in (rest_map f (suc n) r.1 (x ∷ xs) (λ t l. tail_and f x xs r.1 t r.0 e r.2 r.3 l) r.4, no_dot_word x xs (codes "and") e)
next_read x xs known f (suc n) (inr (inl (e, h))) = let r = known c.Factor f (suc n) h in (rest_map f (suc n) r.1 (x ∷ xs) (λ t l. tail_or f x xs r.1 t r.0 e r.2 r.3 l) r.4, no_dot_word x xs (codes "or") e)
next_read x xs known f (suc n) (inr (inr (inl (e, h)))) = let r = known c.Next f n h in ((x ∷ xs, xs, closed f x xs e, ap (λ y. y ∷ xs) e, r.0), no_dot_close x xs e)
next_read x xs known f (suc n) (inr (inr (inr h))) = absurd h

no_begin : (y : Symbol) → ¬ (Begins y [])
no_begin y h = let e = h.1 in cc

next_end : (f : Frame) (n : ℕ) → Accepts [] (at (spot.Condition c.Next) f n) → Read c.Next f n []
next_end f zero (inl h) = absurd h
next_end f zero (inr (inl h)) = absurd h
next_end f zero (inr (inr h)) = (([], tail_none f [] (no_begin (Word (codes "and"))) (no_begin (Word (codes "or"))), h), no_begin (Sign sign.Dot))
next_end f (suc n) (inl h) = absurd h
next_end f (suc n) (inr (inl h)) = absurd h
next_end f (suc n) (inr (inr (inl h))) = absurd h
next_end f (suc n) (inr (inr (inr h))) = absurd h

-- an operator comes first
op_read : (P : Move → Type 0) (x : Symbol) → HasChoice (λ e. IsOfSort e.0 x × P e.1) operators → (o : Op) × (x ≡ op_sym o) × P (To (spot.Condition c.Right))
op_read P x (inl h) = (op.Equal, h.0, h.1)
op_read P x (inr (inl h)) = (op.NotEqual, h.0, h.1)
op_read P x (inr (inr (inl h))) = (op.Less, h.0, h.1)
op_read P x (inr (inr (inr (inl h)))) = (op.LessEqual, h.0, h.1)
op_read P x (inr (inr (inr (inr (inl h))))) = (op.Greater, h.0, h.1)
op_read P x (inr (inr (inr (inr (inr (inl h)))))) = (op.GreaterEqual, h.0, h.1)
op_read P x (inr (inr (inr (inr (inr (inr h)))))) = absurd h

operated : (x : Symbol) (xs : List Symbol) → Known xs → (f : Frame) (n : ℕ) → HasChoice (λ e. IsOfSort e.0 x × Accepts xs (moved e.1 (at (spot.Condition c.Operator) f n))) operators → Operated f n (x ∷ xs)
operated x xs known f n h =
    let o = op_read (λ m. Accepts xs (moved m (at (spot.Condition c.Operator) f n))) x h in
    let r = known c.Right f n o.2 in
    (o.0, r.0, xs, r.1, ap (λ y. y ∷ xs) o.1, r.2, r.3, r.4)

op_no_dot : (o : Op) (s t : List Symbol) → s ≡ op_sym o ∷ t → ¬ (Begins (Sign sign.Dot) s)
op_no_dot op.Equal s t e h = let i = sym e ∙ h.1 in cc
op_no_dot op.NotEqual s t e h = let i = sym e ∙ h.1 in cc
op_no_dot op.Less s t e h = let i = sym e ∙ h.1 in cc
op_no_dot op.LessEqual s t e h = let i = sym e ∙ h.1 in cc
op_no_dot op.Greater s t e h = let i = sym e ∙ h.1 in cc
op_no_dot op.GreaterEqual s t e h = let i = sym e ∙ h.1 in cc

-- an operand and what is behind it are a comparison and the rest
compared_read : (f : Frame) (n : ℕ) (s t : List Symbol) (a : NamedOperand) → ReadsOperand a s t → SuitsOperand f a → Operated f n t → Read c.Primary f n s
compared_read f n s t a reads suit (o, b, u, r, e, right, suit', rest) =
    (Compare (compared a o b), r, g.compare (Compare (compared a o b)) s r (a, o, b, t, u, reads, e, right, refl), suits_compare f a b o suit suit', rest)

alone_suits : (f : Frame) (name : List ℕ) → SuitsOperand f (Ref (record { variable = None; attribute = name }))
alone_suits frame.Alone name = tt
alone_suits frame.Columns name = refl
alone_suits frame.First name = tt
alone_suits frame.Second name = tt

const_suits : (f : Frame) (v : Value) → SuitsOperand f (Const v)
const_suits frame.Alone v = tt
const_suits frame.Columns v = tt
const_suits frame.First v = tt
const_suits frame.Second v = tt

named_read : (f : Frame) (n : ℕ) (x : Symbol) (xs : List Symbol) (name : List ℕ) → x ≡ Word name → IsName name → Read c.LeftDot f n xs → Read c.Primary f n (x ∷ xs)
named_read f n x xs name e is (inl h) = compared_read f n (x ∷ xs) xs (Ref (record { variable = None; attribute = name })) (ap (λ y. y ∷ xs) e, tt, is, op_no_dot h.0 xs h.2 h.4) (alone_suits f name) h
named_read f n x xs name e is (inr ((ref, t, i, is', h), any)) =
    compared_read f n (x ∷ xs) t (Ref (record { variable = Some name; attribute = ref })) (let k = i in cc, is, is', op_no_dot h.0 t h.2 h.4) (any name ref) h

primary_read : (x : Symbol) (xs : List Symbol) → Known xs → (f : Frame) (n : ℕ) → HasChoice (λ e. IsOfSort e.0 x × Accepts xs (moved e.1 (at (spot.Condition c.Primary) f n))) primaries → Read c.Primary f n (x ∷ xs)
primary_read x xs known f n (inl (e, h)) =
    let r = known c.Factor f (suc n) h in
    let rest = r.4 in
    let k = cond_of f xs r.1 rest.0 r.0 r.2 r.3 rest.2 in
    (k.0, rest.1, g.nested k.0 (x ∷ xs) xs rest.0 rest.1 (ap (λ y. y ∷ xs) e) k.1 rest.3, k.2, rest.4)
primary_read x xs known f n (inr (inl ((name, e, is), h))) = named_read f n x xs name e is (known c.LeftDot f n h)
primary_read x xs known f n (inr (inr (inl ((v, e), h)))) = compared_read f n (x ∷ xs) xs (Const (value.Int v)) (ap (λ y. y ∷ xs) e) (const_suits f (value.Int v)) (known c.Operator f n h)
primary_read x xs known f n (inr (inr (inr (inl ((content, e), h))))) = compared_read f n (x ∷ xs) xs (Const (value.Text content)) (ap (λ y. y ∷ xs) e) (const_suits f (value.Text content)) (known c.Operator f n h)
primary_read x xs known f n (inr (inr (inr (inr h)))) = absurd h

factor_read : (x : Symbol) (xs : List Symbol) → Known xs → (f : Frame) (n : ℕ) → Accepts (x ∷ xs) (at (spot.Condition c.Factor) f n) → Read c.Factor f n (x ∷ xs)
factor_read x xs known f n (inl (e, h)) =
    let r = known c.Primary f n h in
    (Not r.0, r.1, g.negated (Not r.0) r.0 (x ∷ xs) xs r.1 refl (ap (λ y. y ∷ xs) e) r.2, suits_not f r.0 r.3, r.4)
factor_read x xs known f n (inr h) = let r = primary_read x xs known f n h in (r.0, r.1, g.plain r.0 (x ∷ xs) r.1 r.2, r.3, r.4)

any_alone : (name ref : List ℕ) → SuitsOperand frame.Alone (Ref (record { variable = Some name; attribute = ref }))
any_alone name ref = tt

any_first : (name ref : List ℕ) → SuitsOperand frame.First (Ref (record { variable = Some name; attribute = ref }))
any_first name ref = tt

any_second : (name ref : List ℕ) → SuitsOperand frame.Second (Ref (record { variable = Some name; attribute = ref }))
any_second name ref = tt

left_dotted : (f : Frame) (n : ℕ) (x : Symbol) (xs : List Symbol) → x ≡ Sign sign.Dot → Read c.LeftAttribute f n xs → Dotted (Operated f n) (x ∷ xs)
left_dotted f n x xs e (name, t, i, is, h) = (name, t, cc, is, h)

left_read : (x : Symbol) (xs : List Symbol) → Known xs → (f : Frame) (n : ℕ) → Accepts (x ∷ xs) (at (spot.Condition c.LeftDot) f n) → Read c.LeftDot f n (x ∷ xs)
left_read x xs known frame.Columns n h = inl (operated x xs known frame.Columns n h)
left_read x xs known frame.Alone n (inl (e, h)) = inr (left_dotted frame.Alone n x xs e (known c.LeftAttribute frame.Alone n h), any_alone)
left_read x xs known frame.Alone n (inr h) = inl (operated x xs known frame.Alone n h)
left_read x xs known frame.First n (inl (e, h)) = inr (left_dotted frame.First n x xs e (known c.LeftAttribute frame.First n h), any_first)
left_read x xs known frame.First n (inr h) = inl (operated x xs known frame.First n h)
left_read x xs known frame.Second n (inl (e, h)) = inr (left_dotted frame.Second n x xs e (known c.LeftAttribute frame.Second n h), any_second)
left_read x xs known frame.Second n (inr h) = inl (operated x xs known frame.Second n h)

right_dotted : (f : Frame) (n : ℕ) (x : Symbol) (xs : List Symbol) → x ≡ Sign sign.Dot → Read c.RightAttribute f n xs → Dotted (λ t. Rest f n t × ¬ (Begins (Sign sign.Dot) t)) (x ∷ xs)
right_dotted f n x xs e (name, t, i, is, h, other) = (name, t, cc, is, (h, other))

right_read : (x : Symbol) (xs : List Symbol) → Known xs → (f : Frame) (n : ℕ) → Accepts (x ∷ xs) (at (spot.Condition c.RightDot) f n) → Read c.RightDot f n (x ∷ xs)
right_read x xs known frame.Columns n h = inl (next_read x xs known frame.Columns n (same_moves (nexts frame.Columns (is_flat n)) x xs (spot.Condition c.RightDot) (spot.Condition c.Next) frame.Columns n h))
right_read x xs known frame.Alone n (inl (e, h)) = inr (right_dotted frame.Alone n x xs e (known c.RightAttribute frame.Alone n h), any_alone)
right_read x xs known frame.Alone n (inr h) = inl (next_read x xs known frame.Alone n (same_moves (nexts frame.Alone (is_flat n)) x xs (spot.Condition c.RightDot) (spot.Condition c.Next) frame.Alone n h))
right_read x xs known frame.First n (inl (e, h)) = inr (right_dotted frame.First n x xs e (known c.RightAttribute frame.First n h), any_first)
right_read x xs known frame.First n (inr h) = inl (next_read x xs known frame.First n (same_moves (nexts frame.First (is_flat n)) x xs (spot.Condition c.RightDot) (spot.Condition c.Next) frame.First n h))
right_read x xs known frame.Second n (inl (e, h)) = inr (right_dotted frame.Second n x xs e (known c.RightAttribute frame.Second n h), any_second)
right_read x xs known frame.Second n (inr h) = inl (next_read x xs known frame.Second n (same_moves (nexts frame.Second (is_flat n)) x xs (spot.Condition c.RightDot) (spot.Condition c.Next) frame.Second n h))

right_end : (f : Frame) (n : ℕ) → Accepts [] (at (spot.Condition c.RightDot) f n) → Read c.RightDot f n []
right_end frame.Columns n h = inl (next_end frame.Columns n h)
right_end frame.Alone n (inl h) = absurd h
right_end frame.Alone n (inr h) = inl (next_end frame.Alone n h)
right_end frame.First n (inl h) = absurd h
right_end frame.First n (inr h) = inl (next_end frame.First n h)
right_end frame.Second n (inl h) = absurd h
right_end frame.Second n (inr h) = inl (next_end frame.Second n h)

operand_read : (x : Symbol) (xs : List Symbol) → Known xs → (f : Frame) (n : ℕ) → Accepts (x ∷ xs) (at (spot.Condition c.Right) f n) → Read c.Right f n (x ∷ xs)
operand_read x xs known f n (inl ((name, e, is), h)) = named (known c.RightDot f n h)
  where
    named : Read c.RightDot f n xs → Read c.Right f n (x ∷ xs)
    named (inl (rest, other)) = (Ref (record { variable = None; attribute = name }), xs, (ap (λ y. y ∷ xs) e, tt, is, other), alone_suits f name, rest)
    named (inr ((ref, t, i, is', (rest, other)), any)) = (Ref (record { variable = Some name; attribute = ref }), t, (cc, is, is', other), any name ref, rest)
operand_read x xs known f n (inr (inl ((v, e), h))) = (Const (value.Int v), xs, ap (λ y. y ∷ xs) e, const_suits f (value.Int v), (known c.Next f n h).0)
operand_read x xs known f n (inr (inr (inl ((content, e), h)))) = (Const (value.Text content), xs, ap (λ y. y ∷ xs) e, const_suits f (value.Text content), (known c.Next f n h).0)
operand_read x xs known f n (inr (inr (inr h))) = absurd h

step_read : (x : Symbol) (xs : List Symbol) → Known xs → Known (x ∷ xs)
step_read x xs known c.Factor f n h = factor_read x xs known f n h
step_read x xs known c.Primary f n h = primary_read x xs known f n h
step_read x xs known c.LeftDot f n h = left_read x xs known f n h
step_read x xs known c.LeftAttribute f n (inl ((name, e, is), h)) = (name, xs, ap (λ y. y ∷ xs) e, is, known c.Operator f n h)
step_read x xs known c.LeftAttribute f n (inr h) = absurd h
step_read x xs known c.Operator f n h = operated x xs known f n h
step_read x xs known c.Right f n h = operand_read x xs known f n h
step_read x xs known c.RightDot f n h = right_read x xs known f n h
step_read x xs known c.RightAttribute f n (inl ((name, e, is), h)) = let r = known c.Next f n h in (name, xs, ap (λ y. y ∷ xs) e, is, r.0, r.1)
step_read x xs known c.RightAttribute f n (inr h) = absurd h
step_read x xs known c.Next f n h = next_read x xs known f n h

op_no_end : HasChoice (λ e. IsEnd e.0) operators → ⊥
op_no_end (inl h) = h
op_no_end (inr (inl h)) = h
op_no_end (inr (inr (inl h))) = h
op_no_end (inr (inr (inr (inl h)))) = h
op_no_end (inr (inr (inr (inr (inl h))))) = h
op_no_end (inr (inr (inr (inr (inr (inl h)))))) = h
op_no_end (inr (inr (inr (inr (inr (inr h)))))) = h

primary_no_end : HasChoice (λ e. IsEnd e.0) primaries → ⊥
primary_no_end (inl h) = h
primary_no_end (inr (inl h)) = h
primary_no_end (inr (inr (inl h))) = h
primary_no_end (inr (inr (inr (inl h)))) = h
primary_no_end (inr (inr (inr (inr h)))) = h

end_read : Known []
end_read c.Factor f n (inl h) = absurd h
end_read c.Factor f n (inr h) = absurd (primary_no_end h)
end_read c.Primary f n h = absurd (primary_no_end h)
end_read c.LeftDot frame.Columns n h = absurd (op_no_end h)
end_read c.LeftDot frame.Alone n (inl h) = absurd h
end_read c.LeftDot frame.Alone n (inr h) = absurd (op_no_end h)
end_read c.LeftDot frame.First n (inl h) = absurd h
end_read c.LeftDot frame.First n (inr h) = absurd (op_no_end h)
end_read c.LeftDot frame.Second n (inl h) = absurd h
end_read c.LeftDot frame.Second n (inr h) = absurd (op_no_end h)
end_read c.LeftAttribute f n (inl h) = absurd h
end_read c.LeftAttribute f n (inr h) = absurd h
end_read c.Operator f n h = absurd (op_no_end h)
end_read c.Right f n (inl h) = absurd h
end_read c.Right f n (inr (inl h)) = absurd h
end_read c.Right f n (inr (inr (inl h))) = absurd h
end_read c.Right f n (inr (inr (inr h))) = absurd h
end_read c.RightDot f n h = right_end f n h
end_read c.RightAttribute f n (inl h) = absurd h
end_read c.RightAttribute f n (inr h) = absurd h
end_read c.Next f n h = next_end f n h

-- tokens that lead on from within a condition are read as the rest of one
pub read_on : (xs : List Symbol) → Known xs
read_on [] = end_read
read_on (x ∷ xs) = step_read x xs (read_on xs)

-- a condition, from its first token on
pub cond_read : (xs : List Symbol) (f : Frame) → Accepts xs (at (spot.Condition c.Factor) f zero) → (k : NamedCond) × (r : List Symbol) × ReadsCond k xs r × Suits f k × Leaves f r
cond_read xs f h =
    let r = read_on xs c.Factor f zero h in
    let rest = r.4 in
    let k = cond_of f xs r.1 rest.0 r.0 r.2 r.3 rest.1 in
    (k.0, rest.0, k.1, k.2, rest.2)
