-- Texts written one after another.
use Rattle.std.proofs.Common.{◌≡◌, ◌+◌, ◌++◌, ℕ, List, [], ◌∷◌, length, take, ◌∙◌, refl, append-nil, arith, length-append}
use Rattle.std.proofs.Math.Seq.{take-append-add}
use Rattle.std.proofs.lemmas.List.{take_all}
use Rattle.std.proofs.lemmas.Grind.{flat_map-append}
use Rattle.std.specs.List.{AllZip}
use Rattle.std.specs.Prelude.{Result, Ok, Err, OnOk}
use Rattle.su_io.specs.Ends.{Grew, Extends}
use Rattle.su_io.specs.Moments.{Told}
use Rattle.su_io.specs.Wholes.{IsWhole}
use Rattle.su_io.specs.WrittenTexts.{joined, Wrote, WroteFront}
use Rattle.su_io.proofs.WrittenPieces.{Grew-trans, Grew-stays, Stays-refl, Extends-refl, Extends-trans}

-- nothing was written
pub Wrote-none : (told : Told) → Wrote told told []
Wrote-none told = record { grew = Stays-refl told.written; writes = []; whole = tt; handed = Stays-refl told.handed; none = λ _. refl; over = Extends-refl told.over }

wholes_append : (xs ys : List (List ℕ)) (us vs : List (List (List ℕ))) → AllZip IsWhole xs us → AllZip IsWhole ys vs → AllZip IsWhole (xs ++ ys) (us ++ vs)
wholes_append [] ys [] vs all more = more
wholes_append [] ys (u ∷ us) vs all more = absurd all
wholes_append (x ∷ xs) ys [] vs all more = absurd all
wholes_append (x ∷ xs) ys (u ∷ us) vs all more = (all.0, wholes_append xs ys us vs all.1 more)

both_none : (xs ys : List (List ℕ)) → xs ++ ys ≡ [] → (xs ≡ []) × (ys ≡ [])
both_none [] ys none = (refl, none)
both_none (x ∷ xs) ys none = absurd (cc)

module _ (a b c : Told) (xs ys : List (List ℕ)) (first : Wrote a b xs) where
  pub Wrote-trans : Wrote b c ys → Wrote a c (xs ++ ys)
  Wrote-trans second = record {
    grew = rw (flat_map-append (λ (text : List ℕ). text) xs ys) (Grew-trans a.written b.written c.written (joined xs) (joined ys) first.grew second.grew);
    writes = first.writes ++ second.writes;
    whole = wholes_append xs ys first.writes second.writes first.whole second.whole;
    handed = rw (flat_map-append (λ (pieces : List (List ℕ)). pieces) first.writes second.writes) (Grew-trans a.handed b.handed c.handed (joined first.writes) (joined second.writes) first.handed second.handed);
    none = λ none. let both = both_none xs ys none in second.none both.1 ∙ first.none both.0;
    over = Extends-trans a.over b.over c.over first.over second.over;
  }

  -- a front of the texts behind them
  pub WroteFront-behind : WroteFront b c ys → WroteFront a c (xs ++ ys)
  WroteFront-behind second = record {
    count = length (joined xs) + second.count;
    within = rw (flat_map-append (λ (text : List ℕ). text) xs ys) (let long = length-append (joined xs) (joined ys) in omega (arith, second.within));
    grew = rw (flat_map-append (λ (text : List ℕ). text) xs ys, take-append-add (joined xs) (joined ys) second.count)
        (Grew-trans a.written b.written c.written (joined xs) (take second.count (joined ys)) first.grew second.grew);
    over = Extends-trans a.over b.over c.over first.over second.over;
  }

-- a hand-over behind the texts
pub Wrote-then-none : (a b c : Told) (xs : List (List ℕ)) → Wrote a b xs → Wrote b c [] → Wrote a c xs
Wrote-then-none a b c xs first second = rw (← append-nil xs) (Wrote-trans a b c xs [] first second)

pub WroteFront-then-none : (a b c : Told) (xs : List (List ℕ)) → WroteFront a b xs → Wrote b c [] → WroteFront a c xs
WroteFront-then-none a b c xs first second = record {
  count = first.count;
  within = first.within;
  grew = Grew-stays a.written b.written c.written (take first.count (joined xs)) first.grew second.grew;
  over = Extends-trans a.over b.over c.over first.over second.over;
}

-- all texts were written, so a front of them
pub WroteFront-whole : (a b : Told) (xs : List (List ℕ)) → Wrote a b xs → WroteFront a b xs
WroteFront-whole a b xs wrote = record {
  count = length (joined xs);
  within = omega arith;
  grew = rw (take_all (length (joined xs)) (joined xs) (omega arith)) wrote.grew;
  over = wrote.over;
}

-- one text was written
pub wrote_one : {T E : Type 0} (result : Result T E) (a b : Told) (text : List ℕ) (before now : ℕ) → OnOk result (Grew a.written b.written text)
    → OnOk result ((pieces : List (List ℕ)) × IsWhole text pieces × Grew a.handed b.handed pieces) → Extends a.over b.over → OnOk result (now ≡ before) → OnOk result ((now ≡ before) × Wrote a b (text ∷ []))
wrote_one (Err e) a b text before now grew whole over counted = tt
wrote_one (Ok x) a b text before now grew whole over counted = (
  counted,
  record {
    grew = rw (append-nil text) grew;
    writes = whole.0 ∷ [];
    whole = (whole.1, tt);
    handed = rw (append-nil whole.0) whole.2;
    none = λ none. absurd (cc);
    over = over;
  },
)
