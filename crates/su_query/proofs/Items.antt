-- Names, values, refs, operands and comparisons are read in one way.
use Rattle.std.proofs.Common.{◌≡◌, ℕ, Some, None, Option, true, List, ◌++◌, [], ◌∷◌, refl, ap, sym, ◌∙◌, subst, codes}
use Rattle.su_base.specs.declared.values.Value.{Value}
use Rattle.su_base.specs.declared.values.Value.TheVariants as value
use Rattle.su_base.specs.Name.{IsName, is_reserved_word}
use Rattle.su_lex.specs.declared.signs.Sign.TheVariants as sign
use Rattle.su_where.specs.declared.operators.Op.{Op}
use Rattle.su_where.specs.declared.operators.Op.TheVariants as op
use Rattle.su_lex.specs.declared.meaning.Symbol.{Symbol}
use Rattle.su_lex.specs.declared.meaning.Symbol.TheVariants.{Word, Sign}
use Rattle.su_query.specs.declared.refs.Ref.{Ref as ARef}
use Rattle.su_query.specs.declared.refs.NamedOperand.{NamedOperand}
use Rattle.su_query.specs.declared.refs.NamedOperand.TheVariants.{Ref, Const}
use Rattle.su_query.specs.Refs.{NamedCond}
use Rattle.su_where.specs.declared.conditions.Condition.TheVariants.{Compare}
use Rattle.su_lex.specs.Names.{Begins}
use Rattle.su_query.specs.Operands.{value_sym, op_sym, qualified, IsVariable}
use Rattle.su_query.specs.inside.ReadItems.{ReadsName, ReadsValue, ReadsRef, ReadsOperand}
use Rattle.su_query.specs.inside.ReadConditions.{compared, ReadsComparison}

pub record SameItem {A : Type 0} (a b : A) (r q : List Symbol) : Type 0 where
  pub item : a ≡ b
  pub rest : r ≡ q

pub name_unique : (a b : List ℕ) (s r q : List Symbol) → ReadsName a s r → ReadsName b s q → SameItem a b r q
name_unique a b s r q h k = let e : (Word a ∷ r) ≡ (Word b ∷ q) = sym h.0 ∙ k.0 in record { item = cc; rest = cc }

value_same : (a b : Value) → value_sym a ≡ value_sym b → a ≡ b
value_same (value.Int m) (value.Int n) e = let h : m ≡ n = cc in ap value.Int h
value_same (value.Int m) (value.Text t) e = absurd (cc)
value_same (value.Text s) (value.Int n) e = absurd (cc)
value_same (value.Text s) (value.Text t) e = let h : s ≡ t = cc in ap value.Text h

pub value_unique : (a b : Value) (s r q : List Symbol) → ReadsValue a s r → ReadsValue b s q → SameItem a b r q
value_unique a b s r q h k =
    let e : (value_sym a ∷ r) ≡ (value_sym b ∷ q) = sym h ∙ k in
    let f : value_sym a ≡ value_sym b = cc in
    record { item = value_same a b f; rest = cc }

pub record SameRef (v w : Option (List ℕ)) (a b : List ℕ) (r q : List Symbol) : Type 0 where
  pub variable : v ≡ w
  pub attribute : a ≡ b
  pub rest : r ≡ q

ref_same : (v w : Option (List ℕ)) (a b : List ℕ) (r q : List Symbol) → ¬ (Begins (Sign sign.Dot) r) → ¬ (Begins (Sign sign.Dot) q)
    → qualified v (Word a ∷ r) ≡ qualified w (Word b ∷ q) → SameRef v w a b r q
ref_same None None a b r q none none' e = record { variable = refl; attribute = cc; rest = cc }
ref_same None (Some w) a b r q none none' e = absurd (none (Word b ∷ q, cc))
ref_same (Some v) None a b r q none none' e = absurd (none' (Word a ∷ r, cc))
ref_same (Some v) (Some w) a b r q none none' e = let h : v ≡ w = cc in record { variable = ap Some h; attribute = cc; rest = cc }

pub ref_unique : (a b : ARef) (s r q : List Symbol) → ReadsRef a s r → ReadsRef b s q → SameItem a b r q
ref_unique a b s r q h k =
    let p = ref_same a.variable b.variable a.attribute b.attribute r q h.3 k.3 (sym h.0 ∙ k.0) in
    record { item = λ i. record { variable = p.variable i; attribute = p.attribute i }; rest = p.rest }

-- a ref's symbols are in front of what follows
pub qualified-append : (v : Option (List ℕ)) (x : Symbol) (r : List Symbol) → qualified v (x ∷ []) ++ r ≡ qualified v (x ∷ r)
qualified-append None x r = refl
qualified-append (Some v) x r = refl

-- a ref begins with a word, a value doesn't
ref_word : (v : Option (List ℕ)) (t : List Symbol) (a : List ℕ) → (w : List ℕ) × (u : List Symbol) × (qualified v (Word a ∷ t) ≡ Word w ∷ u)
ref_word None t a = (a, t, refl)
ref_word (Some v) t a = (v, Sign sign.Dot ∷ Word a ∷ t, refl)

value_no_word : (v : Value) (w : List ℕ) (s r u : List Symbol) → ReadsValue v s r → s ≡ Word w ∷ u → ⊥
value_no_word (value.Int n) w s r u h e = cc
value_no_word (value.Text t) w s r u h e = cc

pub ref_no_value : (a : ARef) (v : Value) (s r q : List Symbol) → ReadsRef a s r → ReadsValue v s q → ⊥
ref_no_value a v s r q h k = let w = ref_word a.variable r a.attribute in value_no_word v w.0 s q w.1 k (h.0 ∙ w.2)

pub operand_unique : (a b : NamedOperand) (s r q : List Symbol) → ReadsOperand a s r → ReadsOperand b s q → SameItem a b r q
operand_unique (Ref a) (Ref b) s r q h k = let p = ref_unique a b s r q h k in record { item = ap Ref p.item; rest = p.rest }
operand_unique (Ref a) (Const v) s r q h k = absurd (ref_no_value a v s r q h k)
operand_unique (Const u) (Ref b) s r q h k = absurd (ref_no_value b u s q r k h)
operand_unique (Const u) (Const v) s r q h k = let p = value_unique u v s r q h k in record { item = ap Const p.item; rest = p.rest }

op_same : (a b : Op) → op_sym a ≡ op_sym b → a ≡ b
op_same op.Equal op.Equal e = refl
op_same op.NotEqual op.NotEqual e = refl
op_same op.Less op.Less e = refl
op_same op.LessEqual op.LessEqual e = refl
op_same op.Greater op.Greater e = refl
op_same op.GreaterEqual op.GreaterEqual e = refl
op_same _ _ e = absurd (cc)

pub comparison_unique : (c d : NamedCond) (s r q : List Symbol) → ReadsComparison c s r → ReadsComparison d s q → SameItem c d r q
comparison_unique c d s r q h k =
    let l = operand_unique h.0 k.0 s h.3 k.3 h.5 k.5 in
    let e : (op_sym h.1 ∷ h.4) ≡ (op_sym k.1 ∷ k.4) = sym h.6 ∙ l.rest ∙ k.6 in
    let f : op_sym h.1 ≡ op_sym k.1 = cc in
    let t : k.4 ≡ h.4 = cc in
    let o = op_same h.1 k.1 f in
    let m = operand_unique h.2 k.2 h.4 r q h.7 (subst (λ (x : List Symbol). ReadsOperand k.2 x q) t k.7) in
    record { item = h.8 ∙ ap (λ x. Compare (compared x h.1 h.2)) l.item ∙ ap (λ x. Compare (compared k.0 x h.2)) o ∙ ap (λ x. Compare (compared k.0 k.1 x)) m.item ∙ sym k.8; rest = m.rest }

not_name : (w : List ℕ) → w ≡ codes "not" → IsName w → ⊥
not_name w e is =
    let f : is_reserved_word w ≡ true = ap is_reserved_word e in
    cc

ref_not : (v : Option (List ℕ)) (a : List ℕ) (r t : List Symbol) → IsVariable v → IsName a → qualified v (Word a ∷ r) ≡ Word (codes "not") ∷ t → ⊥
ref_not None a r t iv ia e = not_name a (cc) ia
ref_not (Some v) a r t iv ia e = not_name v (cc) iv

operand_not : (a : NamedOperand) (s r t : List Symbol) → ReadsOperand a s r → s ≡ Word (codes "not") ∷ t → ⊥
operand_not (Ref a) s r t h e = ref_not a.variable a.attribute r t h.1 h.2 (sym h.0 ∙ e)
operand_not (Const v) s r t h e = value_no_word v (codes "not") s r t h e

operand_open : (a : NamedOperand) (s r t : List Symbol) → ReadsOperand a s r → s ≡ Sign sign.Open ∷ t → ⊥
operand_open (Ref a) s r t h e = let w = ref_word a.variable r a.attribute in let f : (Word w.0 ∷ w.1) ≡ (Sign sign.Open ∷ t) = sym w.2 ∙ sym h.0 ∙ e in cc
operand_open (Const (value.Int n)) s r t h e = cc
operand_open (Const (value.Text n)) s r t h e = cc

-- no comparison begins with `not` or with a parenthesis
pub comparison_not : (c : NamedCond) (s r t : List Symbol) → ReadsComparison c s r → s ≡ Word (codes "not") ∷ t → ⊥
comparison_not c s r t h e = operand_not h.0 s h.3 t h.5 e

pub comparison_open : (c : NamedCond) (s r t : List Symbol) → ReadsComparison c s r → s ≡ Sign sign.Open ∷ t → ⊥
comparison_open c s r t h e = operand_open h.0 s h.3 t h.5 e

-- where no ref is read
pub ref_no_name : (s : List Symbol) → ((n : List ℕ) (r : List Symbol) → ¬ (ReadsName n s r)) → (ref : ARef) (r : List Symbol) → ¬ (ReadsRef ref s r)
ref_no_name s bad ref r h = first ref.variable h.0 h.1
  where
    first : (v : Option (List ℕ)) → s ≡ qualified v (Word ref.attribute ∷ r) → IsVariable v → ⊥
    first None e iv = bad ref.attribute r (e, h.2)
    first (Some v) e iv = bad v (Sign sign.Dot ∷ Word ref.attribute ∷ r) (e, iv)

pub ref_no_attribute : (s t u : List Symbol) (n : List ℕ) → ReadsName n s t → t ≡ Sign sign.Dot ∷ u → ((m : List ℕ) (r : List Symbol) → ¬ (ReadsName m u r)) → (ref : ARef) (r : List Symbol) → ¬ (ReadsRef ref s r)
ref_no_attribute s t u n k dot bad ref r h = second ref.variable (sym k.0 ∙ h.0)
  where
    second : (v : Option (List ℕ)) → (Word n ∷ t) ≡ qualified v (Word ref.attribute ∷ r) → ⊥
    second None e = h.3 (u, cc)
    second (Some v) e = let f : u ≡ Word ref.attribute ∷ r = cc in bad ref.attribute r (f, h.2)

-- where no operand or comparison is read
pub operand_no_ref : (s : List Symbol) (w : List ℕ) (t : List Symbol) → s ≡ Word w ∷ t → ((ref : ARef) (r : List Symbol) → ¬ (ReadsRef ref s r)) → (a : NamedOperand) (r : List Symbol) → ¬ (ReadsOperand a s r)
operand_no_ref s w t e bad (Ref ref) r h = bad ref r h
operand_no_ref s w t e bad (Const v) r h = value_no_word v w s r t h e

pub operand_no_value : (s : List Symbol) → ((w : List ℕ) (t : List Symbol) → ¬ (s ≡ Word w ∷ t)) → ((v : Value) (r : List Symbol) → ¬ (ReadsValue v s r)) → (a : NamedOperand) (r : List Symbol) → ¬ (ReadsOperand a s r)
operand_no_value s none bad (Ref ref) r h = let w = ref_word ref.variable r ref.attribute in none w.0 w.1 (h.0 ∙ w.2)
operand_no_value s none bad (Const v) r h = bad v r h

pub comparison_no_op : (s t : List Symbol) (a : NamedOperand) → ReadsOperand a s t → ((o : Op) (r : List Symbol) → ¬ (t ≡ op_sym o ∷ r)) → (c : NamedCond) (r : List Symbol) → ReadsComparison c s r → ⊥
comparison_no_op s t a k bad c r h = let l = operand_unique a h.0 s t h.3 k h.5 in bad h.1 h.4 (l.rest ∙ h.6)

pub comparison_no_right : (s t u : List Symbol) (a : NamedOperand) (o : Op) → ReadsOperand a s t → t ≡ op_sym o ∷ u → ((b : NamedOperand) (r : List Symbol) → ¬ (ReadsOperand b u r))
    → (c : NamedCond) (r : List Symbol) → ReadsComparison c s r → ⊥
comparison_no_right s t u a o k e bad c r h =
    let l = operand_unique a h.0 s t h.3 k h.5 in
    let f : (op_sym o ∷ u) ≡ (op_sym h.1 ∷ h.4) = sym e ∙ l.rest ∙ h.6 in
    let g : h.4 ≡ u = cc in
    bad h.2 r (subst (λ (x : List Symbol). ReadsOperand h.2 x r) g h.7)

-- a name that doesn't begin the symbols isn't read from them
pub no_name : (s : List Symbol) → ((n : List ℕ) → IsName n → ¬ (Begins (Word n) s)) → (n : List ℕ) (r : List Symbol) → ¬ (ReadsName n s r)
no_name s bad n r h = bad n h.1 (r, h.0)
