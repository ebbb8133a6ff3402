-- Rows that are gathered, step by step.
use Rattle.std.proofs.Common.{◌≡◌, ℕ, ◌⊎◌, List, length, get_or, Contains, sym, ap, subst, ◌∙◌, inl, inr, ⊎_elim}
use Rattle.std.specs.Prelude.{map}
use Rattle.std.proofs.lemmas.List.Elements.{All-contains, Contains-get_or}
use Rattle.su_base.proofs.Items.{Contains-map, Contains-map_source}
use Rattle.su_base.specs.declared.values.Value.{Value}
use Rattle.su_reduce.specs.Codes.{decode, Extends}
use Rattle.su_exec.specs.inside.Coded.{AreCoded, IsGathered}
use Rattle.su_reduce.specs.Sheets.{AreBelow}
use Rattle.su_reduce.proofs.CodeExtensions.{extends_self, extends_then, below_up, decode_row}

-- nothing is added, where nothing is there to be added
pub gathered_none : (P Q : List Value → Type 0) (values : List Value) (rows : List (List ℕ)) → AreCoded values rows → ((h : List Value) → Q h → ⊥) → IsGathered P Q values rows values rows
gathered_none P Q values rows coded none = record { codes = extends_self values; coded = coded; kept = λ r h. h; only = λ r h. inl h; had = λ h q. absurd (none h q) }

-- one row is added
pub gathered_one :
    (P : List Value → Type 0) (old new : List Value) (rows more : List (List ℕ)) (cells : List ℕ) (h : List Value) → AreCoded old rows → Extends old new → AreBelow cells (length new) → map (decode new) cells ≡ h
    → P h → ((g : List Value) → P g → g ≡ h) → ((r : List ℕ) → Contains rows r → Contains more r) → Contains more cells → ((r : List ℕ) → Contains more r → Contains rows r ⊎ (cells ≡ r)) → IsGathered P P old rows new more
gathered_one P old new rows more cells h coded codes below is p alone kept here only = record {
  codes = codes;
  coded = λ k d l.
      let r = get_or more k d in
      ⊎_elim
      (λ (a : Contains rows r). below_up r (length old) (length new) codes.longer (All-contains (λ r. AreBelow r (length old)) rows r coded a))
      (λ (a : cells ≡ r). subst (λ (r : List ℕ). AreBelow r (length new)) a below)
      (only r (Contains-get_or more k d l));
  kept = kept;
  only = λ r c. ⊎_elim (λ (a : Contains rows r). inl a) (λ (a : cells ≡ r). inr (subst P (sym is ∙ ap (map (decode new)) a) p)) (only r c);
  had = λ g q. subst (λ (g : List Value). Contains (map (map (decode new)) more) g) (is ∙ sym (alone g q)) (Contains-map (map (decode new)) more cells here);
}

-- one step after another
pub gathered_then :
    (P Q P' Q' R S : List Value → Type 0) (a b c : List Value) (rows more most : List (List ℕ)) → IsGathered P Q a rows b more → IsGathered P' Q' b more c most
    → ((h : List Value) → P h → R h) → ((h : List Value) → P' h → R h) → ((h : List Value) → S h → Q h ⊎ Q' h) → IsGathered R S a rows c most
gathered_then P Q P' Q' R S a b c rows more most x y first second both = record {
  codes = extends_then a b c x.codes y.codes;
  coded = y.coded;
  kept = λ r h. y.kept r (x.kept r h);
  only = λ r h.
      ⊎_elim
      (λ (m : Contains more r).
      ⊎_elim
      (λ (o : Contains rows r). inl o)
      (λ (p : P (map (decode b) r)). inr (first (map (decode c) r) (subst P (sym (decode_row b c y.codes r (All-contains (λ r. AreBelow r (length b)) more r x.coded m))) p)))
      (x.only r m))
      (λ (p : P' (map (decode c) r)). inr (second (map (decode c) r) p))
      (y.only r h);
  had = λ h s.
      ⊎_elim
      (λ (q : Q h).
      let w = Contains-map_source (map (decode b)) more h (x.had h q) in
      subst (λ (g : List Value). Contains (map (map (decode c)) most) g) (decode_row b c y.codes w.0 (All-contains (λ r. AreBelow r (length b)) more w.0 x.coded w.1) ∙ w.2) (Contains-map (map (decode c)) most w.0 (y.kept w.0 w.1)))
      (λ (q : Q' h). y.had h q)
      (both h s);
}

-- the same by other words
pub gathered_as : (P Q R S : List Value → Type 0) (a b : List Value) (rows more : List (List ℕ)) → IsGathered P Q a rows b more → ((h : List Value) → P h → R h) → ((h : List Value) → S h → Q h) → IsGathered R S a rows b more
gathered_as P Q R S a b rows more x first second = record {
  codes = x.codes;
  coded = x.coded;
  kept = x.kept;
  only = λ r h. ⊎_elim (λ (o : Contains rows r). inl o) (λ (p : P (map (decode b) r)). inr (first (map (decode b) r) p)) (x.only r h);
  had = λ h s. x.had h (second h s);
}

-- after codes were added
pub gathered_from : (P Q : List Value → Type 0) (a b c : List Value) (rows more : List (List ℕ)) → Extends a b → IsGathered P Q b rows c more → IsGathered P Q a rows c more
gathered_from P Q a b c rows more e x = record { codes = extends_then a b c e x.codes; coded = x.coded; kept = x.kept; only = x.only; had = x.had }
