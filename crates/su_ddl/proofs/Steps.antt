-- Definitions that are added one after another, and the reading of their text.
use Rattle.std.proofs.Common.{◌≡◌, ◌+◌, ℕ, List, [], ◌∷◌, ◌++◌, map, Ok, inr, refl, ap, sym, ◌∙◌, subst, append_assoc, append-nil}
use Rattle.std.specs.List.{AllByRecursion}
use Rattle.su_schema.specs.declared.definitions.Definition.{Definition}
use Rattle.su_schema.specs.SchemaValue.{SchemaValue}
use Rattle.su_schema.specs.Definitions.{applied}
use Rattle.su_schema.specs.WellNamed.{IsWellNamed}
use Rattle.su_ddl.specs.Files.{ReadsFrom, Reads, no_definitions}
use Rattle.su_ddl.specs.Shown.{lines_of}
use Rattle.su_ddl.proofs.Pieced.{IsLineStart, no_lead, line_lead, is_definition, texts_of, lines_cut}

-- each is well named, and all are added
abbrev pub Builds : SchemaValue → List Definition → SchemaValue → Type 0
Builds s [] t = s ≡ t
Builds s (d ∷ ds) t = (next : SchemaValue) × IsWellNamed d × (applied s d ≡ Ok next) × Builds next ds t

pub builds_well : (s t : SchemaValue) (ds : List Definition) → Builds s ds t → AllByRecursion IsWellNamed ds
builds_well s t [] h = tt
builds_well s t (d ∷ ds) h = (h.1, builds_well h.0 t ds h.3)

pub builds_append : (s t u : SchemaValue) (ds es : List Definition) → Builds s ds t → Builds t es u → Builds s (ds ++ es) u
builds_append s t u [] es h k = subst (λ (v : SchemaValue). Builds v es u) (sym h) k
builds_append s t u (d ∷ ds) es h k = (h.0, h.1, h.2, builds_append h.0 t u ds es h.3 k)

reads_from : (n : ℕ) (s t : SchemaValue) (lead : List ℕ) (ds : List Definition) → IsLineStart lead → Builds s ds t → ReadsFrom n s (texts_of lead ds) (Ok t)
reads_from n s t lead [] is h = ap Ok (sym h)
reads_from n s t lead (d ∷ ds) is h = inr (d, h.0, is_definition lead d is h.1, h.2, reads_from (n + 1) h.0 t (10 ∷ []) ds line_lead h.3)

pub lines_read : (t : SchemaValue) (ds : List Definition) → Builds no_definitions ds t → Reads (lines_of ds) (Ok t)
lines_read t ds h =
    let c = lines_cut ds (builds_well no_definitions t ds h) in
    (c.0, c.1, subst (λ (v : List (List ℕ)). ReadsFrom 1 no_definitions v (Ok t)) (sym c.2) (reads_from 1 no_definitions t [] ds no_lead h))

-- a list of entries that are defined one after another
module _ {X : Type 0} (state : List X → SchemaValue) (define : X → Definition) (all : List X)
    (ok : (done rest : List X) (x : X) → all ≡ done ++ x ∷ rest → IsWellNamed (define x) × (applied (state done) (define x) ≡ Ok (state (done ++ x ∷ [])))) where
  builds_rest : (done rest : List X) → all ≡ done ++ rest → Builds (state done) (map define rest) (state all)
  builds_rest done [] e = ap state (sym (e ∙ append-nil done))
  builds_rest done (x ∷ rest) e =
      let h = ok done rest x e in
      (state (done ++ x ∷ []), h.0, h.1, builds_rest (done ++ x ∷ []) rest (e ∙ sym (append_assoc done (x ∷ []) rest)))

  pub builds_all : Builds (state []) (map define all) (state all)
  builds_all = builds_rest [] all refl
