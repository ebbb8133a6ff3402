-- What is read is spelled as the grammar has it, in front of what is left.
use Rattle.std.proofs.Common.{◌≡◌, ◌<◌, inl, inr, true, ℕ, List, [], ◌∷◌, ◌++◌, map, length, refl, ap, sym, ◌∙◌, subst, codes, append_assoc, append-nil, arith}
use Rattle.std.specs.List.{AllByRecursion, flat_map}
use Rattle.su_base.specs.declared.values.Value.{Value}
use Rattle.su_base.specs.Name.{IsName, AreNames}
use Rattle.std.specs.List.{join_by}
use Rattle.su_lex.specs.declared.signs.Sign.TheVariants as sign
use Rattle.su_lex.specs.declared.meaning.Symbol.{Symbol}
use Rattle.su_lex.specs.declared.meaning.Symbol.TheVariants.{Word, Sign}
use Rattle.su_lex.specs.Names.{names_symbols}
use Rattle.su_lex.specs.Wordings.{in_parens}
use Rattle.su_query.specs.declared.refs.NamedOperand.TheVariants.{Ref, Const}
use Rattle.su_query.specs.declared.statements.Query.{Query as AQuery}
use Rattle.su_query.specs.declared.statements.Statement.{Statement}
use Rattle.su_query.specs.Refs.{NamedCond}
use Rattle.su_query.specs.Mentions.{are_columns}
use Rattle.su_query.specs.Operands.{op_sym, IsRef, IsOperand}
use Rattle.su_query.specs.ShownParts.{value_symbols, ref_symbols, operand_symbols, values_symbols, refs_symbols}
use Rattle.su_query.specs.Grammar as g
use Rattle.su_query.specs.Grammar.{IsCond, AreConjs, IsConj, AreFactors, IsFactor, IsPrimary}
use Rattle.su_query.specs.Forms.{IsWhere, IsQuery, IsForm}
use Rattle.su_query.specs.inside.ReadItems as items
use Rattle.su_query.specs.inside.ReadItems.{ReadsValue, ReadsRef, ReadsOperand, More, Several}
use Rattle.su_query.specs.inside.ReadConditions as read
use Rattle.su_query.specs.inside.ReadConditions.{ReadsCond, ReadsOrs, ReadsConj, ReadsAnds, ReadsFactor, ReadsPrimary, ReadsComparison, compared}
use Rattle.su_query.specs.inside.ReadQueries as queries
use Rattle.su_query.specs.inside.ReadQueries.{ReadsWhere, ReadsQuery, ReadsEnclosed, PairForm}
use Rattle.su_query.specs.inside.ReadRelations.{RowForm, ConditionForm, NamesForm}
use Rattle.su_query.specs.inside.ReadForms as forms
use Rattle.su_query.specs.inside.ReadForms.{ReadsForm}
use Rattle.su_query.proofs.Items.{qualified-append}
use Rattle.su_query.proofs.Listed.{names_front}

-- symbols in front that are this, and what is left behind them
record Front (Is : List Symbol → Type 0) (s r : List Symbol) : Type 0 where
  front : List Symbol
  is : Is front
  whole : s ≡ front ++ r

-- ---- names, values and refs

-- an item has this property, and its symbols are in front
abbrev IsSpelled : {A : Type 0} → (A → List Symbol → List Symbol → Type 0) → (A → Type 0) → (A → List Symbol) → Type 0
IsSpelled {A} Item Is symbols = (x : A) (s r : List Symbol) → Item x s r → Is x × (s ≡ symbols x ++ r)

value_spelled : IsSpelled ReadsValue (λ v. Unit {0}) value_symbols
value_spelled v s r h = (tt, h)

ref_spelled : IsSpelled ReadsRef IsRef ref_symbols
ref_spelled ref s r h = ((h.1, h.2), h.0 ∙ sym (qualified-append ref.variable (Word ref.attribute) r))

operand_spelled : IsSpelled ReadsOperand IsOperand operand_symbols
operand_spelled (Ref ref) s r h = ref_spelled ref s r h
operand_spelled (Const v) s r h = value_spelled v s r h

-- ---- lists with commas

module _ {A : Type 0} (Item : A → List Symbol → List Symbol → Type 0) (Is : A → Type 0) (symbols : A → List Symbol) (spelled : IsSpelled Item Is symbols) where
  abbrev behind : List A → List Symbol
  behind xs = flat_map (λ y. (Sign sign.Comma ∷ []) ++ y) (map symbols xs)

  more_spelled : (xs : List A) (s r : List Symbol) → More Item xs s r → AllByRecursion Is xs × (s ≡ behind xs ++ r)
  more_spelled xs s r (items.none _ _ _ e same none) = (subst (AllByRecursion Is) (sym e) tt, same ∙ ap (λ ys. behind ys ++ r) (sym e))
  more_spelled xs s r (items.more _ b bs _ t u _ e w h hs) =
      let p = spelled b t u h in
      let q = more_spelled bs u r hs in (
        subst (AllByRecursion Is) (sym e) (p.0, q.0),
        w ∙ ap (λ x. Sign sign.Comma ∷ x) (p.1 ∙ ap (λ x. symbols b ++ x) q.1 ∙ sym (append_assoc (symbols b) (behind bs) r)) ∙ ap (λ ys. behind ys ++ r) (sym e),
      )

  several_spelled : (xs : List A) (s r : List Symbol) → Several Item xs s r → (0 < length xs) × AllByRecursion Is xs × (s ≡ join_by (λ x. x) (Sign sign.Comma ∷ []) (map symbols xs) ++ r)
  several_spelled xs s r (b, bs, t, e, h, hs) =
      let p = spelled b s t h in
      let q = more_spelled bs t r hs in (
        subst (λ (ys : List A). 0 < length ys) (sym e) (omega arith),
        subst (AllByRecursion Is) (sym e) (p.0, q.0),
        p.1 ∙ ap (λ x. symbols b ++ x) q.1 ∙ sym (append_assoc (symbols b) (behind bs) r) ∙ ap (λ ys. join_by (λ x. x) (Sign sign.Comma ∷ []) (map symbols ys) ++ r) (sym e),
      )

-- ---- conditions

compared_spelled : (c : NamedCond) (s r : List Symbol) → ReadsComparison c s r → Front (IsPrimary c) s r
compared_spelled c s r (a, o, b, t, u, left, e, right, same) =
    let p = operand_spelled a s t left in
    let q = operand_spelled b u r right in
    record {
      front = operand_symbols a ++ op_sym o ∷ operand_symbols b;
      is = g.compare c (compared a o b) _ same refl p.0 q.0;
      whole = p.1 ∙ ap (λ x. operand_symbols a ++ x) (e ∙ ap (λ x. op_sym o ∷ x) q.1) ∙ sym (append_assoc (operand_symbols a) (op_sym o ∷ operand_symbols b) r);
    }

-- an item, and others behind a word, are in front of what is left behind them
joins : (w : Symbol) (x f s t h r : List Symbol) → x ≡ f ++ s → s ≡ w ∷ t → t ≡ h ++ r → x ≡ (f ++ w ∷ h) ++ r
joins w x f s t h r a b c = a ∙ ap (λ y. f ++ y) (b ∙ ap (λ y. w ∷ y) c) ∙ sym (append_assoc f (w ∷ h) r)

mutual
  cond_spelled : (c : NamedCond) (s r : List Symbol) → ReadsCond c s r → Front (IsCond c) s r
  cond_spelled c s r (read.cond _ d ds _ t _ e h hs) =
      let p = conj_spelled d s t h in
      let q = ors_spelled ds t r hs d p.front p.is s p.whole in
      record { front = q.front; is = g.cond c (d ∷ ds) q.front e q.is; whole = q.whole }

  -- a conjunction, and those behind it
  ors_spelled : (ds : List NamedCond) (t r : List Symbol) → ReadsOrs ds t r → (d : NamedCond) (f : List Symbol) → IsConj d f → (s : List Symbol) → s ≡ f ++ t → Front (AreConjs (d ∷ ds)) s r
  ors_spelled ds t r (read.no_or _ _ _ e same none) d f is s w = record { front = f; is = g.one_conj (d ∷ ds) d f (ap (λ x. d ∷ x) e) is; whole = w ∙ ap (λ x. f ++ x) same }
  ors_spelled ds t r (read.one_or _ d' ds' _ t' u _ e w' h hs) d f is s w =
      let p = conj_spelled d' t' u h in
      let q = ors_spelled ds' u r hs d' p.front p.is t' p.whole in
      record {
        front = f ++ Word (codes "or") ∷ q.front;
        is = g.or (d ∷ ds) d ds _ f q.front refl refl is (subst (λ (x : List NamedCond). AreConjs x q.front) (sym e) q.is);
        whole = joins (Word (codes "or")) s f t t' q.front r w w' q.whole;
      }

  conj_spelled : (c : NamedCond) (s r : List Symbol) → ReadsConj c s r → Front (IsConj c) s r
  conj_spelled c s r (read.conj _ d ds _ t _ e h hs) =
      let p = factor_spelled d s t h in
      let q = ands_spelled ds t r hs d p.front p.is s p.whole in
      record { front = q.front; is = g.conj c (d ∷ ds) q.front e q.is; whole = q.whole }

  -- a factor, and those behind it
  ands_spelled : (ds : List NamedCond) (t r : List Symbol) → ReadsAnds ds t r → (d : NamedCond) (f : List Symbol) → IsFactor d f → (s : List Symbol) → s ≡ f ++ t → Front (AreFactors (d ∷ ds)) s r
  ands_spelled ds t r (read.no_and _ _ _ e same none) d f is s w = record { front = f; is = g.one_factor (d ∷ ds) d f (ap (λ x. d ∷ x) e) is; whole = w ∙ ap (λ x. f ++ x) same }
  ands_spelled ds t r (read.one_and _ d' ds' _ t' u _ e w' h hs) d f is s w =
      let p = factor_spelled d' t' u h in
      let q = ands_spelled ds' u r hs d' p.front p.is t' p.whole in
      record {
        front = f ++ Word (codes "and") ∷ q.front;
        is = g.and (d ∷ ds) d ds _ f q.front refl refl is (subst (λ (x : List NamedCond). AreFactors x q.front) (sym e) q.is);
        whole = joins (Word (codes "and")) s f t t' q.front r w w' q.whole;
      }

  factor_spelled : (c : NamedCond) (s r : List Symbol) → ReadsFactor c s r → Front (IsFactor c) s r
  factor_spelled c s r (read.plain _ _ _ h) = let p = primary_spelled c s r h in record { front = p.front; is = g.plain c p.front p.is; whole = p.whole }
  factor_spelled c s r (read.negated _ d _ t _ e w h) =
      let p = primary_spelled d t r h in
      let not_ = Word (codes "not") in
      record { front = not_ ∷ p.front; is = g.negated c d (not_ ∷ p.front) p.front e refl p.is; whole = w ∙ ap (λ x. not_ ∷ x) p.whole }

  primary_spelled : (c : NamedCond) (s r : List Symbol) → ReadsPrimary c s r → Front (IsPrimary c) s r
  primary_spelled c s r (read.nested _ _ t u _ e h w) =
      let p = cond_spelled c t u h in
      record {
        front = in_parens p.front;
        is = g.nested c (in_parens p.front) p.front refl p.is;
        whole = e ∙ ap (λ x. Sign sign.Open ∷ x) (p.whole ∙ ap (λ x. p.front ++ x) w ∙ sym (append_assoc p.front (Sign sign.Close ∷ []) r));
      }
  primary_spelled c s r (read.compare _ _ _ h) = compared_spelled c s r h

-- ---- queries

where_spelled : (c : NamedCond) (s r : List Symbol) → ReadsWhere c s r → Front (IsWhere c) s r
where_spelled c s r (queries.nothing _ _ _ e k none) = record { front = []; is = inl (k, refl); whole = e }
where_spelled c s r (queries.condition _ _ t _ e h) =
    let p = cond_spelled c t r h in
    record { front = Word (codes "where") ∷ p.front; is = inr (p.front, p.is, refl); whole = e ∙ ap (λ x. Word (codes "where") ∷ x) p.whole }

query_spelled : (q : AQuery) (s r : List Symbol) → ReadsQuery q s r → Front (IsQuery q) s r
query_spelled q s r h =
    let refs = several_spelled ReadsRef IsRef ref_symbols ref_spelled q.outputs h.refs (Sign sign.Close ∷ h.rest) h.reads in
    let w = where_spelled q.cond h.rest r h.wanted in
    let outputs = refs_symbols q.outputs in
    let close = Sign sign.Close ∷ [] in
    record {
      front = Word (codes "retrieve") ∷ (in_parens outputs ++ w.front);
      is = record { some = refs.0; refs = refs.1; condition = w.front; wanted = w.is; whole = refl };
      whole = h.begins ∙ ap (λ x. Word (codes "retrieve") ∷ Sign sign.Open ∷ x)
          (refs.2 ∙ ap (λ x. outputs ++ Sign sign.Close ∷ x) w.whole ∙ sym (append_assoc outputs close (w.front ++ r)) ∙ sym (append_assoc (outputs ++ close) w.front r));
    }

-- to the end
query_whole : (q : AQuery) (s : List Symbol) → ReadsQuery q s [] → IsQuery q s
query_whole q s h =
    let p = query_spelled q s [] h in
    subst (IsQuery q) (sym (p.whole ∙ append-nil p.front)) p.is

enclosed_spelled : (q : AQuery) (s r : List Symbol) → ReadsEnclosed q s r → (t : List Symbol) × IsQuery q t × (s ≡ in_parens t ++ r)
enclosed_spelled q s r h =
    let p = query_spelled q h.rest (Sign sign.Close ∷ r) h.reads in
    (p.front, p.is, h.begins ∙ ap (λ x. Sign sign.Open ∷ x) (p.whole ∙ sym (append_assoc p.front (Sign sign.Close ∷ []) r)))

-- ---- statements

module _ (w : Symbol) (s t : List Symbol) (begins : s ≡ w ∷ t) where
  row_spelled : (relation : List ℕ) (row : List Value) → RowForm relation row t → IsName relation × (0 < length row) × (s ≡ w ∷ Word relation ∷ in_parens (values_symbols row))
  row_spelled relation row h =
      let p = several_spelled ReadsValue (λ v. Unit {0}) value_symbols value_spelled row h.values (Sign sign.Close ∷ []) h.reads in
      (h.named, p.0, begins ∙ ap (λ x. w ∷ x) (h.begins ∙ ap (λ x. Word relation ∷ Sign sign.Open ∷ x) p.2))

  names_spelled : (names : List (List ℕ)) → NamesForm names t → AreNames names × (s ≡ w ∷ in_parens (names_symbols names))
  names_spelled names h =
      let p = names_front names h.rest (Sign sign.Close ∷ []) h.reads in
      (p.1, begins ∙ ap (λ x. w ∷ x) (h.begins ∙ ap (λ x. Sign sign.Open ∷ x) p.0))

  condition_spelled : (relation : List ℕ) (c : NamedCond) → ConditionForm relation c t
      → IsName relation × (are_columns c ≡ true) × (u : List Symbol) × IsCond c u × (s ≡ w ∷ Word relation ∷ Word (codes "where") ∷ u)
  condition_spelled relation c h =
      let p = cond_spelled c h.rest [] h.reads in
      (h.named, h.columns, p.front, p.is, begins ∙ ap (λ x. w ∷ x) (h.begins ∙ ap (λ x. Word relation ∷ Word (codes "where") ∷ x) (p.whole ∙ append-nil p.front)))

  pair_spelled : (first second : AQuery) → PairForm first second t
      → (u : List Symbol) × (v : List Symbol) × IsQuery first u × IsQuery second v × (s ≡ w ∷ (in_parens u ++ Word (codes "with") ∷ in_parens v))
  pair_spelled first second h =
      let p = enclosed_spelled first t (Word (codes "with") ∷ h.rest) h.before in
      let q = enclosed_spelled second h.rest [] h.behind in
      (p.0, q.0, p.1, q.1, begins ∙ ap (λ x. w ∷ x) (p.2 ∙ ap (λ x. in_parens p.0 ++ Word (codes "with") ∷ x) (q.2 ∙ append-nil (in_parens q.0))))

pub form_spelled : (st : Statement) (s : List Symbol) → ReadsForm st s → IsForm st s
form_spelled st s (forms.insert _ relation row _ t e w h) = subst (λ x. IsForm x s) (sym e) (row_spelled (Word (codes "insert")) s t w relation row h)
form_spelled st s (forms.delete _ relation row _ t e w h) = subst (λ x. IsForm x s) (sym e) (row_spelled (Word (codes "delete")) s t w relation row h)
form_spelled st s (forms.delete_where _ relation c _ t e w h) = subst (λ x. IsForm x s) (sym e) (condition_spelled (Word (codes "delete")) s t w relation c h)
form_spelled st s (forms.load _ relation file _ t e w h) = subst (λ x. IsForm x s) (sym e) (h.named, w ∙ ap (λ x. Word (codes "load") ∷ x) h.whole)
form_spelled st s (forms.print _ relation _ e w named) = subst (λ x. IsForm x s) (sym e) (named, w)
form_spelled st s (forms.schema _ _ e w) = subst (λ x. IsForm x s) (sym e) w
form_spelled st s (forms.closure _ names _ t e w h) = subst (λ x. IsForm x s) (sym e) (names_spelled (Word (codes "closure")) s t w names h)
form_spelled st s (forms.retrieve _ q _ e h) = subst (λ x. IsForm x s) (sym e) (query_whole q s h)
form_spelled st s (forms.explain _ q _ t e w h) = subst (λ x. IsForm x s) (sym e) (t, query_whole q t h, w)
form_spelled st s (forms.certify _ q _ t e w h) = subst (λ x. IsForm x s) (sym e) (t, query_whole q t h, w)
form_spelled st s (forms.support _ q _ t e w h) = subst (λ x. IsForm x s) (sym e) (t, query_whole q t h, w)
form_spelled st s (forms.compare _ first second _ t e w h) = subst (λ x. IsForm x s) (sym e) (pair_spelled (Word (codes "compare")) s t w first second h)
form_spelled st s (forms.window _ names _ t e w h) = subst (λ x. IsForm x s) (sym e) (names_spelled (Word (codes "window")) s t w names h)
