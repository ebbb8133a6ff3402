-- Candidates mean the same as more values get codes.
use Rattle.std.proofs.Common.{◌≡◌, ℕ, List, [], ◌∷◌, length, get_or, refl, ap, ◌∙◌}
use Rattle.std.specs.Prelude.{map, All}
use Rattle.std.proofs.lemmas.List.Elements.{All-head, All-tail}
use Rattle.su_base.specs.declared.values.Value.{Value}
use Rattle.su_reduce.specs.Codes.{decode, Extends}
use Rattle.su_exec.specs.inside.Coded.{AreCoded, IsCoded, meaning, meanings}
use Rattle.su_exec.specs.inside.Edges.{Edge}
use Rattle.su_reduce.proofs.CodeExtensions.{below_up, decode_row}
use Rattle.su_reduce.specs.Sheets.{AreBelow}

pub coded_up : (a b : List Value) (rows : List (List ℕ)) → Extends a b → AreCoded a rows → AreCoded b rows
coded_up a b rows e all k d l = below_up (get_or rows k d) (length a) (length b) e.longer (all k d l)

pub edges_up : (a b : List Value) (es : List (Edge ℕ)) → Extends a b → All (IsCoded a) es → All (IsCoded b) es
edges_up a b es e all k d l = coded_up a b (get_or es k d).rows e (all k d l)

-- ---- rows of codes

module _ (a b : List Value) (more : Extends a b) where
  pub decode_rows : (rows : List (List ℕ)) → AreCoded a rows → map (map (decode b)) rows ≡ map (map (decode a)) rows
  decode_rows [] h = refl
  decode_rows (r ∷ rows) h =
      let P : List ℕ → Type 0 = λ r. AreBelow r (length a) in
      let first : map (decode b) r ≡ map (decode a) r = decode_row a b more r (All-head P r rows h) in
      let rest : map (map (decode b)) rows ≡ map (map (decode a)) rows = decode_rows rows (All-tail P r rows h) in
      ap (λ y. y ∷ map (map (decode b)) rows) first ∙ ap (λ ys. map (decode a) r ∷ ys) rest

  pub meaning_same : (e : Edge ℕ) → IsCoded a e → meaning b e ≡ meaning a e
  meaning_same e h = let on : List (List Value) → Edge Value = λ rows. record { vars = e.vars; rows = rows } in ap on (decode_rows e.rows h)

  pub meanings_same : (es : List (Edge ℕ)) → All (IsCoded a) es → meanings b es ≡ meanings a es
  meanings_same [] h = refl
  meanings_same (e ∷ es) h =
      let first : meaning b e ≡ meaning a e = meaning_same e (All-head (IsCoded a) e es h) in
      let rest : meanings b es ≡ meanings a es = meanings_same es (All-tail (IsCoded a) e es h) in
      ap (λ y. y ∷ meanings b es) first ∙ ap (λ ys. meaning a e ∷ ys) rest
