-- What is spelled as the grammar has it is read, whatever follows that doesn't carry it on.
use Rattle.std.proofs.Common.{◌≡◌, ◌<◌, inl, inr, ℕ, List, [], ◌∷◌, ◌++◌, map, length, refl, ap, sym, ◌∙◌, subst, codes, append_assoc, append-nil, arith}
use Rattle.std.specs.List.{AllByRecursion, flat_map}
use Rattle.su_base.specs.declared.values.Value.{Value}
use Rattle.su_base.specs.Name.{IsName, AreNames}
use Rattle.std.specs.List.{join_by}
use Rattle.su_lex.specs.declared.signs.Sign.TheVariants as sign
use Rattle.su_lex.specs.declared.meaning.Symbol.{Symbol}
use Rattle.su_lex.specs.declared.meaning.Symbol.TheVariants.{Word, Sign}
use Rattle.su_lex.specs.Names.{Begins, names_symbols}
use Rattle.su_lex.specs.Wordings.{in_parens}
use Rattle.su_where.specs.declared.operators.Op.{Op}
use Rattle.su_where.specs.declared.operators.Op.TheVariants as op
use Rattle.su_query.specs.declared.conditions.Comparison.{Comparison}
use Rattle.su_query.specs.declared.refs.NamedOperand.TheVariants.{Ref, Const}
use Rattle.su_query.specs.declared.statements.Query.{Query as AQuery}
use Rattle.su_query.specs.declared.statements.Statement.{Statement}
use Rattle.su_query.specs.declared.statements.Statement.TheVariants.{Insert, Delete, DeleteWhere, Load, Print, Schema, Closure, Retrieve, Explain, Certify, Support, Compare, Window}
use Rattle.su_where.specs.declared.conditions.Condition.TheVariants.{Compare as Compared}
use Rattle.su_query.specs.Refs.{NamedCond}
use Rattle.su_query.specs.Operands.{op_sym, IsRef, IsOperand}
use Rattle.su_query.specs.ShownParts.{value_symbols, ref_symbols, operand_symbols, comparison_symbols, values_symbols, refs_symbols}
use Rattle.su_query.specs.Grammar as g
use Rattle.su_query.specs.Grammar.{any_of, all_of, IsCond, AreConjs, IsConj, AreFactors, IsFactor, IsPrimary}
use Rattle.su_query.specs.Forms.{IsWhere, IsQuery, IsForm}
use Rattle.su_query.specs.inside.ReadItems as items
use Rattle.su_query.specs.inside.ReadItems.{ReadsValue, ReadsRef, ReadsOperand, More, Several}
use Rattle.su_query.specs.inside.ReadConditions as read
use Rattle.su_query.specs.inside.ReadConditions.{ReadsCond, ReadsConj, ReadsFactor, ReadsPrimary}
use Rattle.su_query.specs.inside.ReadQueries as queries
use Rattle.su_query.specs.inside.ReadQueries.{ReadsWhere, ReadsQuery, ReadsEnclosed, PairForm}
use Rattle.su_query.specs.inside.ReadRelations.{RowForm, NamesForm}
use Rattle.su_query.specs.inside.ReadForms as forms
use Rattle.su_query.specs.inside.ReadForms.{ReadsForm}
use Rattle.su_query.proofs.Items.{qualified-append}
use Rattle.su_query.proofs.Listed.{several_names}
use Rattle.su_query.proofs.Steps.{ReadsConjs, ReadsFactors, or_last, and_last}

-- ---- names, values and refs: no dot follows

-- an item with this property is read from its symbols
abbrev IsReadable : {A : Type 0} → (A → List Symbol → List Symbol → Type 0) → (A → Type 0) → (A → List Symbol) → Type 0
IsReadable {A} Item Is symbols = (x : A) → Is x → (r : List Symbol) → ¬ (Begins (Sign sign.Dot) r) → Item x (symbols x ++ r) r

value_readable : IsReadable ReadsValue (λ v. Unit {0}) value_symbols
value_readable v is r no_dot = refl

ref_readable : IsReadable ReadsRef IsRef ref_symbols
ref_readable ref is r no_dot = (qualified-append ref.variable (Word ref.attribute) r, is.0, is.1, no_dot)

operand_readable : IsReadable ReadsOperand IsOperand operand_symbols
operand_readable (Ref ref) is r no_dot = ref_readable ref is r no_dot
operand_readable (Const v) is r no_dot = value_readable v is r no_dot

word_no_dot : (w : List ℕ) (r : List Symbol) → ¬ (Begins (Sign sign.Dot) (Word w ∷ r))
word_no_dot w r h = let e = h.1 in cc

op_no_dot : (o : Op) (r : List Symbol) → ¬ (Begins (Sign sign.Dot) (op_sym o ∷ r))
op_no_dot op.Equal r h = let e = h.1 in cc
op_no_dot op.NotEqual r h = let e = h.1 in cc
op_no_dot op.Less r h = let e = h.1 in cc
op_no_dot op.LessEqual r h = let e = h.1 in cc
op_no_dot op.Greater r h = let e = h.1 in cc
op_no_dot op.GreaterEqual r h = let e = h.1 in cc

-- ---- lists with commas: neither a comma nor a dot follows

record Stops (r : List Symbol) : Type 0 where
  no_comma : ¬ (Begins (Sign sign.Comma) r)
  no_dot : ¬ (Begins (Sign sign.Dot) r)

close_stops : (r : List Symbol) → Stops (Sign sign.Close ∷ r)
close_stops r = record { no_comma = λ h. let e = h.1 in cc; no_dot = λ h. let e = h.1 in cc }

module _ {A : Type 0} (Item : A → List Symbol → List Symbol → Type 0) (Is : A → Type 0) (symbols : A → List Symbol) (readable : IsReadable Item Is symbols) where
  abbrev behind : List A → List Symbol
  behind xs = flat_map (λ y. (Sign sign.Comma ∷ []) ++ y) (map symbols xs)

  behind_no_dot : (xs : List A) (r : List Symbol) → Stops r → ¬ (Begins (Sign sign.Dot) (behind xs ++ r))
  behind_no_dot [] r stops = stops.no_dot
  behind_no_dot (x ∷ xs) r stops = λ h. let e = h.1 in cc

  -- the first, with the others behind it
  first_readable : (x : A) (xs : List A) → Is x → (r : List Symbol) → Stops r → Item x ((symbols x ++ behind xs) ++ r) (behind xs ++ r)
  first_readable x xs is r stops =
      subst (λ (y : List Symbol). Item x y (behind xs ++ r)) (sym (append_assoc (symbols x) (behind xs) r)) (readable x is (behind xs ++ r) (behind_no_dot xs r stops))

  more_readable : (xs : List A) → AllByRecursion Is xs → (r : List Symbol) → Stops r → More Item xs (behind xs ++ r) r
  more_readable [] are r stops = items.none [] r r refl refl stops.no_comma
  more_readable (x ∷ xs) are r stops =
      items.more (x ∷ xs) x xs (behind (x ∷ xs) ++ r) ((symbols x ++ behind xs) ++ r) (behind xs ++ r) r refl refl (first_readable x xs are.0 r stops) (more_readable xs are.1 r stops)

  several_readable : (xs : List A) → 0 < length xs → AllByRecursion Is xs → (r : List Symbol) → Stops r → Several Item xs (join_by (λ x. x) (Sign sign.Comma ∷ []) (map symbols xs) ++ r) r
  several_readable [] some are r stops = absurd (omega (arith, some))
  several_readable (x ∷ xs) some are r stops = (x, xs, behind xs ++ r, refl, first_readable x xs are.0 r stops, more_readable xs are.1 r stops)

-- ---- conditions: no dot, and neither `and` nor `or` follows

record Ends (r : List Symbol) : Type 0 where
  no_or : ¬ (Begins (Word (codes "or")) r)
  no_and : ¬ (Begins (Word (codes "and")) r)
  no_dot : ¬ (Begins (Sign sign.Dot) r)

nothing_ends : Ends []
nothing_ends = record { no_or = λ h. let e = h.1 in cc; no_and = λ h. let e = h.1 in cc; no_dot = λ h. let e = h.1 in cc }

close_ends : (r : List Symbol) → Ends (Sign sign.Close ∷ r)
close_ends r = record { no_or = λ h. let e = h.1 in cc; no_and = λ h. let e = h.1 in cc; no_dot = λ h. let e = h.1 in cc }

or_no_and : (r : List Symbol) → ¬ (Begins (Word (codes "and")) (Word (codes "or") ∷ r))
or_no_and r h = let e = h.1 in cc

comparison_readable : (c : NamedCond) (k : Comparison) → c ≡ Compared k → IsOperand k.left → IsOperand k.right → (r : List Symbol) → ¬ (Begins (Sign sign.Dot) r) → ReadsPrimary c (comparison_symbols k ++ r) r
comparison_readable c k e left right r no_dot =
    let behind = op_sym k.op ∷ (operand_symbols k.right ++ r) in
    subst (λ (x : List Symbol). ReadsPrimary c x r) (sym (append_assoc (operand_symbols k.left) (op_sym k.op ∷ operand_symbols k.right) r))
    (read.compare c (operand_symbols k.left ++ behind) r
    (k.left, k.op, k.right, behind, operand_symbols k.right ++ r, operand_readable k.left left behind (op_no_dot k.op (operand_symbols k.right ++ r)), refl, operand_readable k.right right r no_dot, e))

-- an item in front of a word and of others
parted : (s t u r : List Symbol) (w : Symbol) → s ≡ t ++ w ∷ u → t ++ w ∷ (u ++ r) ≡ s ++ r
parted s t u r w e = sym (ap (λ x. x ++ r) e ∙ append_assoc t (w ∷ u) r)

mutual
  cond_readable : (c : NamedCond) (s : List Symbol) → IsCond c s → (r : List Symbol) → Ends r → ReadsCond c (s ++ r) r
  cond_readable c s (g.cond _ cs _ e hs) r ends = let p = conjs_readable cs s hs r ends in read.cond c p.0 p.1 (s ++ r) p.2 r (e ∙ ap any_of p.3) p.4 p.5

  conjs_readable : (cs : List NamedCond) (s : List Symbol) → AreConjs cs s → (r : List Symbol) → Ends r → ReadsConjs cs (s ++ r) r
  conjs_readable cs s (g.one_conj _ c _ e h) r ends = (c, [], r, e, conj_readable c s h r ends.no_and ends.no_dot, or_last r ends.no_or)
  conjs_readable cs s (g.or _ c ds _ t u e w h hs) r ends =
      let more = Word (codes "or") ∷ (u ++ r) in
      let p = conjs_readable ds u hs r ends in (
        c,
        ds,
        more,
        e,
        subst (λ (x : List Symbol). ReadsConj c x more) (parted s t u r (Word (codes "or")) w) (conj_readable c t h more (or_no_and (u ++ r)) (word_no_dot (codes "or") (u ++ r))),
        read.one_or ds p.0 p.1 more (u ++ r) p.2 r p.3 refl p.4 p.5,
      )

  conj_readable : (c : NamedCond) (s : List Symbol) → IsConj c s → (r : List Symbol) → ¬ (Begins (Word (codes "and")) r) → ¬ (Begins (Sign sign.Dot) r) → ReadsConj c (s ++ r) r
  conj_readable c s (g.conj _ cs _ e hs) r no_and no_dot = let p = factors_readable cs s hs r no_and no_dot in read.conj c p.0 p.1 (s ++ r) p.2 r (e ∙ ap all_of p.3) p.4 p.5

  factors_readable : (cs : List NamedCond) (s : List Symbol) → AreFactors cs s → (r : List Symbol) → ¬ (Begins (Word (codes "and")) r) → ¬ (Begins (Sign sign.Dot) r) → ReadsFactors cs (s ++ r) r
  factors_readable cs s (g.one_factor _ c _ e h) r no_and no_dot = (c, [], r, e, factor_readable c s h r no_dot, and_last r no_and)
  factors_readable cs s (g.and _ c ds _ t u e w h hs) r no_and no_dot =
      let more = Word (codes "and") ∷ (u ++ r) in
      let p = factors_readable ds u hs r no_and no_dot in (
        c,
        ds,
        more,
        e,
        subst (λ (x : List Symbol). ReadsFactor c x more) (parted s t u r (Word (codes "and")) w) (factor_readable c t h more (word_no_dot (codes "and") (u ++ r))),
        read.one_and ds p.0 p.1 more (u ++ r) p.2 r p.3 refl p.4 p.5,
      )

  factor_readable : (c : NamedCond) (s : List Symbol) → IsFactor c s → (r : List Symbol) → ¬ (Begins (Sign sign.Dot) r) → ReadsFactor c (s ++ r) r
  factor_readable c s (g.plain _ _ h) r no_dot = read.plain c (s ++ r) r (primary_readable c s h r no_dot)
  factor_readable c s (g.negated _ d _ t e w h) r no_dot = read.negated c d (s ++ r) (t ++ r) r e (ap (λ x. x ++ r) w) (primary_readable d t h r no_dot)

  primary_readable : (c : NamedCond) (s : List Symbol) → IsPrimary c s → (r : List Symbol) → ¬ (Begins (Sign sign.Dot) r) → ReadsPrimary c (s ++ r) r
  primary_readable c s (g.nested _ _ t e h) r no_dot =
      let close = Sign sign.Close ∷ r in
      read.nested c (s ++ r) (t ++ close) close r (ap (λ x. x ++ r) e ∙ ap (λ x. Sign sign.Open ∷ x) (append_assoc t (Sign sign.Close ∷ []) r)) (cond_readable c t h close (close_ends r)) refl
  primary_readable c s (g.compare _ k _ e w left right) r no_dot = subst (λ (x : List Symbol). ReadsPrimary c (x ++ r) r) (sym w) (comparison_readable c k e left right r no_dot)

cond_whole : (c : NamedCond) (s : List Symbol) → IsCond c s → ReadsCond c s []
cond_whole c s h = subst (λ (x : List Symbol). ReadsCond c x []) (append-nil s) (cond_readable c s h [] nothing_ends)

-- ---- queries: `where` doesn't follow either

record Follows (r : List Symbol) : Type 0 where
  no_where : ¬ (Begins (Word (codes "where")) r)
  ends : Ends r

nothing_follows : Follows []
nothing_follows = record { no_where = λ h. let e = h.1 in cc; ends = nothing_ends }

close_follows : (r : List Symbol) → Follows (Sign sign.Close ∷ r)
close_follows r = record { no_where = λ h. let e = h.1 in cc; ends = close_ends r }

where_readable : (c : NamedCond) (s : List Symbol) → IsWhere c s → (r : List Symbol) → Follows r → ReadsWhere c (s ++ r) r
where_readable c s (inl (nothing, e)) r follows = subst (λ (x : List Symbol). ReadsWhere c (x ++ r) r) (sym e) (queries.nothing c r r refl nothing follows.no_where)
where_readable c s (inr (t, h, e)) r follows = queries.condition c (s ++ r) (t ++ r) r (ap (λ x. x ++ r) e) (cond_readable c t h r follows.ends)

query_readable : (q : AQuery) (s : List Symbol) → IsQuery q s → (r : List Symbol) → Follows r → ReadsQuery q (s ++ r) r
query_readable q s h r follows =
    let outputs = refs_symbols q.outputs in
    let close = Sign sign.Close ∷ [] in
    let rest = h.condition ++ r in
    record {
      refs = outputs ++ Sign sign.Close ∷ rest;
      rest = rest;
      begins = ap (λ x. x ++ r) h.whole ∙ ap (λ x. Word (codes "retrieve") ∷ Sign sign.Open ∷ x) (append_assoc (outputs ++ close) h.condition r ∙ append_assoc outputs close rest);
      reads = several_readable ReadsRef IsRef ref_symbols ref_readable q.outputs h.some h.refs (Sign sign.Close ∷ rest) (close_stops rest);
      wanted = where_readable q.cond h.condition h.wanted r follows;
    }

query_whole : (q : AQuery) (s : List Symbol) → IsQuery q s → ReadsQuery q s []
query_whole q s h = subst (λ (x : List Symbol). ReadsQuery q x []) (append-nil s) (query_readable q s h [] nothing_follows)

enclosed_readable : (q : AQuery) (s : List Symbol) → IsQuery q s → (r : List Symbol) → ReadsEnclosed q (in_parens s ++ r) r
enclosed_readable q s h r = record {
  rest = s ++ Sign sign.Close ∷ r;
  begins = ap (λ x. Sign sign.Open ∷ x) (append_assoc s (Sign sign.Close ∷ []) r);
  reads = query_readable q s h (Sign sign.Close ∷ r) (close_follows r);
}

pair_readable : (first second : AQuery) (s t : List Symbol) → IsQuery first s → IsQuery second t → PairForm first second (in_parens s ++ Word (codes "with") ∷ in_parens t)
pair_readable first second s t h k = record {
  rest = in_parens t;
  before = enclosed_readable first s h (Word (codes "with") ∷ in_parens t);
  behind = subst (λ (x : List Symbol). ReadsEnclosed second x []) (append-nil (in_parens t)) (enclosed_readable second t k []);
}

-- ---- statements

values_are : (row : List Value) → AllByRecursion (λ (v : Value). Unit {0}) row
values_are [] = tt
values_are (v ∷ row) = (tt, values_are row)

row_readable : (relation : List ℕ) (row : List Value) → IsName relation → 0 < length row → RowForm relation row (Word relation ∷ in_parens (values_symbols row))
row_readable relation row named some = record {
  values = values_symbols row ++ Sign sign.Close ∷ [];
  begins = refl;
  named = named;
  reads = several_readable ReadsValue (λ v. Unit {0}) value_symbols value_readable row some (values_are row) (Sign sign.Close ∷ []) (close_stops []);
}

names_readable : (names : List (List ℕ)) → AreNames names → NamesForm names (in_parens (names_symbols names))
names_readable names are = record {
  rest = names_symbols names ++ Sign sign.Close ∷ [];
  begins = refl;
  reads = several_names names _ (Sign sign.Close ∷ []) (refl, are) (close_stops []).no_comma;
}

pub form_readable : (st : Statement) (s : List Symbol) → IsForm st s → ReadsForm st s
form_readable (Insert relation row) s (named, some, w) = forms.insert _ relation row s _ refl w (row_readable relation row named some)
form_readable (Delete relation row) s (named, some, w) = forms.delete _ relation row s _ refl w (row_readable relation row named some)
form_readable (DeleteWhere relation c) s (named, columns, t, h, w) =
    forms.delete_where _ relation c s _ refl w (record { rest = t; begins = refl; named = named; reads = cond_whole c t h; columns = columns })
form_readable (Load relation file) s (named, w) = forms.load _ relation file s _ refl w (record { whole = refl; named = named })
form_readable (Print relation) s (named, w) = forms.print _ relation s refl w named
form_readable Schema s w = forms.schema _ s refl w
form_readable (Closure names) s (are, w) = forms.closure _ names s _ refl w (names_readable names are)
form_readable (Retrieve q) s h = forms.retrieve _ q s refl (query_whole q s h)
form_readable (Explain q) s (t, h, w) = forms.explain _ q s t refl w (query_whole q t h)
form_readable (Certify q) s (t, h, w) = forms.certify _ q s t refl w (query_whole q t h)
form_readable (Support q) s (t, h, w) = forms.support _ q s t refl w (query_whole q t h)
form_readable (Compare first second) s (t, u, h, k, w) = forms.compare _ first second s _ refl w (pair_readable first second t u h k)
form_readable (Window names) s (are, w) = forms.window _ names s _ refl w (names_readable names are)
