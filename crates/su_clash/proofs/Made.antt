-- Renames that make two rows one, attribute by attribute.
use Rattle.std.proofs.Common.{◌≡◌, ◌↔◌, ℕ, ◌+◌, ◌<◌, ◌≤◌, false, true, List, Option, Some, None, get_or, length, sym, ap, ◌∙◌, subst, arith, ⊎_elim}
use Rattle.std.specs.Prelude.{IsTrue, MatchOption}
use Rattle.std.specs.Ordering.{nat_cmp}
use Rattle.std.specs.FinSet.{FinSet, contains}
use Rattle.std.proofs.lemmas.Bool.{cases_lt, true≢false}
use Rattle.std.proofs.lemmas.List.{get_or_default, get_or_past}
use Rattle.su_tableau.specs.declared.symbols.Sym.{Sym}
use Rattle.su_clash.specs.declared.renaming.Pair.{Pair}
use Rattle.su_clash.specs.declared.renaming.Rename.{Rename}
use Rattle.su_clash.specs.inside.Renames.{is_same, renamed, Makes, Meet, AreOne, OneAt, RowsAreOne}
use Rattle.su_clash.proofs.Names.{same_is, same_itself}

module _ (set : FinSet nat_cmp) (first second : List Sym) where
  -- the rows have one label at each attribute of the set below n
  abbrev pub OneBelow : ℕ → (Sym → Sym) → Type 0
  OneBelow n label = (a : ℕ) → a < n → OneAt set first second a label

  pub none_made : (old : List Rename) → Makes (OneBelow 0) old old
  none_made old = record {
    made = λ a l. absurd (omega (arith, l));
    kept = λ x y e. e;
    sound = λ label agrees one. agrees;
    names = λ names. names;
  }

  -- ---- at one attribute

  module _ (n : ℕ) (old : List Rename) where
    -- it isn't in the set
    pub passed : contains set n ≡ false → Makes (OneAt set first second n) old old
    passed out = record {
      made = λ d has. absurd (true≢false (sym has ∙ out));
      kept = λ x y e. e;
      sound = λ label agrees one. agrees;
      names = λ names. names;
    }

    module _ (x y : Sym) (x_is : x ≡ get_or first n x) (y_is : y ≡ get_or second n y) (in_first : n < length first) (in_second : n < length second) where
      at_first : (d : Sym) → get_or first n d ≡ x
      at_first d = get_or_default first n d x in_first ∙ sym x_is

      at_second : (d : Sym) → get_or second n d ≡ y
      at_second d = get_or_default second n d y in_second ∙ sym y_is

      here : contains set n ≡ true → (label : Sym → Sym) → OneAt set first second n label → label x ≡ label y
      here has label one = ap label (sym (at_first x)) ∙ one x has ∙ ap label (at_second x)

      pub equated : contains set n ≡ true → (new : List Rename) → Makes (AreOne x y) old new → Makes (OneAt set first second n) old new
      equated has new m = record {
        made = λ d there. ap (renamed new) (at_first d) ∙ m.made ∙ sym (ap (renamed new) (at_second d));
        kept = m.kept;
        sound = λ label agrees one. m.sound label agrees (here has label one);
        names = m.names;
      }

      pub met : contains set n ≡ true → (p : Pair) → Meet (AreOne x y) old p → Meet (OneAt set first second n) old p
      met has p m = record { differ = m.differ; forced = λ label agrees one. m.forced label agrees (here has label one) }

  -- whether the rows are called the same at an attribute of the set
  pub agrees_at : (n : ℕ) (x y : Sym) → x ≡ get_or first n x → y ≡ get_or second n y → n < length first → n < length second → contains set n ≡ true → (label : Sym → Sym) → IsTrue (is_same (label x) (label y)) ↔ OneAt set first second n label
  agrees_at n x y x_is y_is in_first in_second has label =
      let at_first = λ (d : Sym). get_or_default first n d x in_first ∙ sym x_is in
      let at_second = λ (d : Sym). get_or_default second n d y in_second ∙ sym y_is in (
        λ t d there. ap label (at_first d) ∙ same_is (label x) (label y) t ∙ sym (ap label (at_second d)),
        λ one.
            let e : label x ≡ label y = ap label (sym (at_first x)) ∙ one x has ∙ ap label (at_second x) in
            ap (is_same (label x)) (sym e) ∙ same_itself (label x),
      )

  -- what became of it at the attribute
  pub told : (n : ℕ) (old : List Rename) (x y : Sym) → x ≡ get_or first n x → y ≡ get_or second n y → n < length first → n < length second → contains set n ≡ true → (met : Option Pair) (new : List Rename) → MatchOption met (Makes (AreOne x y) old new) (Meet (AreOne x y) old) → MatchOption met (Makes (OneAt set first second n) old new) (Meet (OneAt set first second n) old)
  told n old x y x_is y_is in_first in_second has None new m = equated n old x y x_is y_is in_first in_second has new m
  told n old x y x_is y_is in_first in_second has (Some p) new m = met n old x y x_is y_is in_first in_second has p m

  -- ---- one attribute more

  module _ (n : ℕ) (old mid : List Rename) (before : Makes (OneBelow n) old mid) where
    pub one_more : (new : List Rename) → Makes (OneAt set first second n) mid new → Makes (OneBelow (n + 1)) old new
    one_more new next = record {
      made = λ a l d has.
          ⊎_elim
          (λ (low : a < n). next.kept (get_or first a d) (get_or second a d) (before.made a low d has))
          (λ (high : n ≤ a). let same : n ≡ a = omega (arith, l, high) in subst (λ (k : ℕ). OneAt set first second k (renamed new)) same next.made d has)
          (cases_lt a n);
      kept = λ u v e. next.kept u v (before.kept u v e);
      sound = λ label agrees one. next.sound label (before.sound label agrees (λ a l. one a (omega (arith, l)))) (one n (omega arith));
      names = λ names. next.names (before.names names);
    }

    pub all_meet : (p : Pair) → Meet (OneAt set first second n) mid p → Meet (RowsAreOne set first second) old p
    all_meet p m = record {
      differ = m.differ;
      forced = λ label agrees one. m.forced label (before.sound label agrees (λ a l d has. one a d has)) (λ d has. one n d has);
    }

  -- past the rows' ends there is nothing to compare
  pub whole : (n : ℕ) (label : Sym → Sym) → length first ≤ n → length second ≤ n → OneBelow n label → RowsAreOne set first second label
  whole n label f s one a d has =
      ⊎_elim
      (λ (low : a < n). one a low d has)
      (λ (high : n ≤ a). ap label (get_or_past first a d (omega (arith, f, high)) ∙ sym (get_or_past second a d (omega (arith, s, high)))))
      (cases_lt a n)

  pub all_made : (n : ℕ) (old new : List Rename) → length first ≤ n → length second ≤ n → Makes (OneBelow n) old new → Makes (RowsAreOne set first second) old new
  all_made n old new f s m = record {
    made = whole n (renamed new) f s m.made;
    kept = m.kept;
    sound = λ label agrees one. m.sound label agrees (λ a l d has. one a d has);
    names = m.names;
  }
