-- More rows than the bound, over needed variables alone, are more answers than the bound.
use Rattle.std.proofs.Common.{◌≡◌, ℕ, ◌<◌, ◌≤◌, ◌⊎◌, Bool, true, false, Option, None, Some, List, [], ◌∷◌, length, get_or, refl, sym, ◌∙◌, inl, inr, ⊎_elim, arith}
use Rattle.std.specs.Prelude.{map, MatchBool}
use Rattle.std.proofs.lemmas.Bool.{cases_lt}
use Rattle.std.proofs.lemmas.List.Elements.{All-cons, All-head, All-nil}
use Rattle.su_exec.specs.declared.merging.Merged.{Merged}
use Rattle.su_exec.specs.declared.merging.Merged.TheVariants.{Whole, Over, Nothing}
use Rattle.su_exec.specs.inside.Bodies.{HasMore, IsEmpty, IsGiven, IsMerged, IsOver, IsPast, IsTold}
use Rattle.su_exec.specs.inside.Edges.{Edge, Fits, Keeps, always}
use Rattle.su_exec.proofs.PartSteps.{agree_at, agree_from, keeps_trans}

module _ (needed : List ℕ) (bound : ℕ) (es rest : List (Edge ℕ)) (s u : (ℕ → ℕ) → Bool) (over : IsOver needed (Some bound) es s rest u) (some : IsGiven [] rest u []) where
  at : (i : ℕ) → i < length over.rows → IsGiven over.vars es s (get_or over.rows i [])
  at i l = over.each i l some.valuation some.fits some.passes

  -- the codes of the needed variables for a row, if it is one
  abbrev codes_by : (i : ℕ) → (i < length over.rows) ⊎ (length over.rows ≤ i) → List ℕ
  codes_by i (inl l) = map (at i l).valuation needed
  codes_by i (inr l) = []

  given_by : (i : ℕ) (x : (i < length over.rows) ⊎ (length over.rows ≤ i)) → i < length over.rows → IsGiven needed es s (codes_by i x)
  given_by i (inl l) h = record { valuation = (at i l).valuation; fits = (at i l).fits; passes = (at i l).passes; gives = refl }
  given_by i (inr l) h = absurd (omega arith)

  row_by : (i j : ℕ) (x : (i < length over.rows) ⊎ (length over.rows ≤ i)) (y : (j < length over.rows) ⊎ (length over.rows ≤ j)) → i < length over.rows → j < length over.rows → codes_by i x ≡ codes_by j y → get_or over.rows i [] ≡ get_or over.rows j []
  row_by i j (inl l) (inl m) h k e =
      let v = (at i l).valuation in
      let w = (at j m).valuation in
      sym (at i l).gives ∙ agree_from v w over.vars (λ x t. agree_at v w needed e x (over.within x t)) ∙ (at j m).gives
  row_by i j (inl l) (inr m) h k e = absurd (omega arith)
  row_by i j (inr l) y h k e = absurd (omega arith)

  low : (i : ℕ) → i ≤ bound → i < length over.rows
  low i h = ⊎_elim (λ (l : i < length over.rows). l) (λ (l : length over.rows ≤ i). absurd (over.many (omega arith))) (cases_lt i (length over.rows))

  pub over_more : HasMore needed (Some bound) es s
  over_more = record {
    bound = bound;
    is = refl;
    many = record {
      member = λ i. codes_by i (cases_lt i (length over.rows));
      each = λ i h. given_by i (cases_lt i (length over.rows)) (low i h);
      differ = λ i j l h e. over.differ i j [] l (low j h) (row_by i j (cases_lt i (length over.rows)) (cases_lt j (length over.rows)) (low i (omega arith)) (low j h) e);
    };
  }

-- what a later body gives, the first gives
pub more_back : (needed : List ℕ) (most : Option ℕ) (es fs : List (Edge ℕ)) (s t : (ℕ → ℕ) → Bool) → Keeps needed es s fs t → HasMore needed most fs t → HasMore needed most es s
more_back needed most es fs s t keeps more = record {
  bound = more.bound;
  is = more.is;
  many = record {
    member = more.many.member;
    each = λ i h.
        let g = more.many.each i h in
        let w = keeps.1 g.valuation g.fits g.passes in
        record { valuation = w.valuation; fits = w.fits; passes = w.passes; gives = sym w.same ∙ g.gives };
    differ = more.many.differ;
  };
}

pub empty_back : (needed : List ℕ) (es fs : List (Edge ℕ)) (s t : (ℕ → ℕ) → Bool) → Keeps needed es s fs t → IsEmpty fs t → IsEmpty es s
empty_back needed es fs s t keeps empty v f p = let w = keeps.0 v f p in empty w.valuation w.fits w.passes

-- nothing for the rest is nothing for the whole
pub none_over : (needed : List ℕ) (most : Option ℕ) (es rest : List (Edge ℕ)) (s u : (ℕ → ℕ) → Bool) → IsOver needed most es s rest u → IsEmpty rest u → IsEmpty es s
none_over needed most es rest s u over empty v f p = let r = over.none v f p in empty v r.0 r.1

-- whatever the bound is
more_of : (needed : List ℕ) (most : Option ℕ) (es rest : List (Edge ℕ)) (s u : (ℕ → ℕ) → Bool) → IsOver needed most es s rest u → IsGiven [] rest u [] → HasMore needed most es s
more_of needed None es rest s u over some = absurd (over.many tt)
more_of needed (Some bound) es rest s u over some = over_more needed bound es rest s u over some

-- what is said of a body that was reached by steps
pub past_is :
    (needed : List ℕ) (most : Option ℕ) (start es rest : List (Edge ℕ)) (s0 s u : (ℕ → ℕ) → Bool) → Keeps needed start s0 es s → IsOver needed most es s rest u → IsPast needed most start s0 rest u
past_is needed None start es rest s0 s u keeps over = absurd (over.many tt)
past_is needed (Some bound) start es rest s0 s u keeps over = record {
  bound = bound;
  is = refl;
  more = λ some. more_back needed (Some bound) start es s0 s keeps (more_of needed (Some bound) es rest s u over some);
  none = λ empty. empty_back needed start es s0 s keeps (none_over needed (Some bound) es rest s u over empty);
}

pub told_is : (needed : List ℕ) (most : Option ℕ) (es rest : List (Edge ℕ)) (s u : (ℕ → ℕ) → Bool) (merged : Merged) → IsPast needed most es s rest u → IsTold rest u merged → IsMerged needed most es s merged
told_is needed most es rest s u (Whole g) past told = absurd told
told_is needed most es rest s u Over past told = past.more told
told_is needed most es rest s u Nothing past told = past.none told

pub merged_back : (needed : List ℕ) (most : Option ℕ) (es fs : List (Edge ℕ)) (s t : (ℕ → ℕ) → Bool) (merged : Merged) → Keeps needed es s fs t → IsMerged needed most fs t merged → IsMerged needed most es s merged
merged_back needed most es fs s t (Whole g) keeps m = (keeps_trans needed es fs (g ∷ []) s t always keeps m.0, m.1)
merged_back needed most es fs s t Over keeps m = more_back needed most es fs s t keeps m
merged_back needed most es fs s t Nothing keeps m = empty_back needed es fs s t keeps m

-- a body gives something exactly where what it comes to has rows
pub some_told : (es : List (Edge ℕ)) (s : (ℕ → ℕ) → Bool) (g : Edge ℕ) (some : Bool) → Keeps [] es s (g ∷ []) always → MatchBool some ((v : ℕ → ℕ) × Fits v g) ((v : ℕ → ℕ) → ¬ Fits v g) → MatchBool some (IsGiven [] es s []) (IsEmpty es s)
some_told es s g true keeps x =
    let w = keeps.1 x.0 (All-cons (λ e. Fits x.0 e) g [] x.1 (All-nil (λ e. Fits x.0 e))) refl in
    record { valuation = w.valuation; fits = w.fits; passes = w.passes; gives = refl }
some_told es s g false keeps none = λ v f p. let w = keeps.0 v f p in none w.valuation (All-head (λ e. Fits w.valuation e) g [] w.fits)
