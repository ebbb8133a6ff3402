-- The text of definitions is cut into them again, and each is read again.
use Rattle.std.proofs.Common.{Some, None, ◌≡◌, ◌<◌, ◌+◌, ℕ, List, [], ◌∷◌, ◌++◌, length, length-append, map, refl, ap, sym, ◌∙◌, arith, subst, append_assoc}
use Rattle.std.specs.List.{AllByRecursion}
use Rattle.su_lex.specs.Blanks.{Gap}
use Rattle.su_lex.specs.Blanks as b
use Rattle.su_lex.specs.Pieces.{Parts, PiecesAt, Pieces, after_mark}
use Rattle.su_lex.specs.Pieces as p
use Rattle.su_lex.specs.declared.spans.Span.{Span}
use Rattle.su_lex.specs.Spelling.{spaced}
use Rattle.su_lex.proofs.Cuts.{parts_trans, no_blank_piece}
use Rattle.su_lex.proofs.Gaps.{IsSolid}
use Rattle.su_lex.proofs.Lists.{sliced}
use Rattle.su_lex.proofs.Written.{symbols_from, spaced_at}
use Rattle.su_schema.specs.declared.definitions.Definition.{Definition}
use Rattle.su_schema.specs.declared.definitions.Definition.TheVariants.{Attribute, Relation, Object, Fd, Maximal}
use Rattle.su_schema.specs.WellNamed.{IsWellNamed}
use Rattle.su_ddl.specs.Grammar.{definition_symbols, IsDefinition}
use Rattle.su_ddl.specs.Files.{statement_of}
use Rattle.su_ddl.specs.Shown.{lines_of}
use Rattle.su_ddl.proofs.Quiet.{definition_quiet, quiet_symbols, spaced_parts}

-- the bytes of a definition
abbrev pub shown : Definition → List ℕ
shown d = spaced (definition_symbols d)

-- a definition begins with a letter
shown_solid : (d : Definition) (r : List ℕ) → IsSolid (shown d ++ r)
shown_solid (Attribute name kind) r = record { no_space = refl; no_comment = refl }
shown_solid (Relation name columns) r = record { no_space = refl; no_comment = refl }
shown_solid (Object name relation pairs) r = record { no_space = refl; no_comment = refl }
shown_solid (Fd left right) r = record { no_space = refl; no_comment = refl }
shown_solid (Maximal objects) r = record { no_space = refl; no_comment = refl }

shown_some : (d : Definition) → 0 < length (shown d)
shown_some (Attribute name kind) = omega arith
shown_some (Relation name columns) = omega arith
shown_some (Object name relation pairs) = omega arith
shown_some (Fd left right) = omega arith
shown_some (Maximal objects) = omega arith

-- no byte order mark is there
no_mark : (d : Definition) (r : List ℕ) → after_mark (shown d ++ r) ≡ shown d ++ r
no_mark (Attribute name kind) r = refl
no_mark (Relation name columns) r = refl
no_mark (Object name relation pairs) r = refl
no_mark (Fd left right) r = refl
no_mark (Maximal objects) r = refl

pub lines_no_mark : (ds : List Definition) → after_mark (lines_of ds) ≡ lines_of ds
lines_no_mark [] = refl
lines_no_mark (d ∷ ds) =
    let e : lines_of (d ∷ ds) ≡ shown d ++ (59 ∷ 10 ∷ lines_of ds) = append_assoc (shown d) (59 ∷ 10 ∷ []) (lines_of ds) in
    ap after_mark e ∙ no_mark d (59 ∷ 10 ∷ lines_of ds) ∙ sym e

-- what may stand before a definition: nothing, or the line feed of the line before
pub record IsLineStart (lead : List ℕ) : Type 0 where
  pub gap : (r : List ℕ) → Gap (lead ++ r) r
  pub parts : (r : List ℕ) → Parts (lead ++ r) r

pub no_lead : IsLineStart []
no_lead = record { gap = λ r. b.none r r refl; parts = λ r. p.none r r refl }

pub line_lead : IsLineStart (10 ∷ [])
line_lead = record {
  gap = λ r. b.space 10 (10 ∷ r) r r refl refl (b.none r r refl);
  parts = λ r. p.more (10 ∷ r) r r (p.byte 10 (10 ∷ r) r refl refl refl) (p.none r r refl);
}

pub is_definition : (lead : List ℕ) (d : Definition) → IsLineStart lead → IsWellNamed d → IsDefinition (lead ++ shown d) d
is_definition lead d is well =
    let quiet = definition_quiet d well in
    (definition_symbols d, symbols_from (lead ++ shown d) (definition_symbols d) (spaced_at (lead ++ shown d) (definition_symbols d) (is.gap (shown d)) (quiet_symbols (definition_symbols d) quiet)), (refl, well))

-- the texts of the statements
abbrev pub texts_of : List ℕ → List Definition → List (List ℕ)
texts_of lead [] = []
texts_of lead (d ∷ ds) = (lead ++ shown d) ∷ texts_of (10 ∷ []) ds

pub record Cut (whole s : List ℕ) (texts : List (List ℕ)) : Type 0 where
  pub spans : List Span
  pub are : PiecesAt (length whole) s spans
  pub texts_are : map (statement_of whole) spans ≡ texts

no_blank : (lead : List ℕ) (d : Definition) (r : List ℕ) → IsLineStart lead → Gap (lead ++ (shown d ++ 59 ∷ r)) (59 ∷ r) → ⊥
no_blank lead d r is g =
    no_blank_piece (lead ++ (shown d ++ 59 ∷ r)) (shown d ++ 59 ∷ r) (59 ∷ r) (is.gap (shown d ++ 59 ∷ r)) (shown_solid d (59 ∷ r)) refl
    (omega (arith, shown_some d, length-append (shown d) (59 ∷ r))) g

one_cut : (whole pre lead s r : List ℕ) (d : Definition) (texts : List (List ℕ)) → whole ≡ pre ++ s → s ≡ lead ++ (shown d ++ 59 ∷ r) → IsLineStart lead → IsWellNamed d → Cut whole r texts
    → Cut whole s ((lead ++ shown d) ∷ texts)
one_cut whole pre lead s r d texts w e is well c =
    let text = lead ++ shown d in
    let e' : s ≡ text ++ 59 ∷ r = e ∙ sym (append_assoc lead (shown d) (59 ∷ r)) in
    let span : Span = record { start = length pre; end = length (pre ++ text) } in
    let start : length pre + length s ≡ length whole = sym (ap length w ∙ length-append pre s) in
    let end : length (pre ++ text) + length (59 ∷ r) ≡ length whole = sym (ap length (w ∙ ap (λ v. pre ++ v) e' ∙ sym (append_assoc pre text (59 ∷ r))) ∙ length-append (pre ++ text) (59 ∷ r)) in
    let parts : Parts s (59 ∷ r) = subst (λ (v : List ℕ). Parts v (59 ∷ r)) (sym e) (parts_trans _ _ _ (is.parts (shown d ++ 59 ∷ r)) (spaced_parts (definition_symbols d) (59 ∷ r) (definition_quiet d well))) in
    let solid : ¬ (Gap s (59 ∷ r)) = λ g. no_blank lead d r is (subst (λ (v : List ℕ). Gap v (59 ∷ r)) e g) in
    let here : statement_of whole span ≡ text = sliced whole pre s text (59 ∷ r) (length pre) (length (pre ++ text)) w e' start end in
    record {
      spans = span ∷ c.spans;
      are = p.cut (length whole) s r (Some span) c.spans (span ∷ c.spans) parts (solid, start, end) c.are refl;
      texts_are = ap (λ x. x ∷ map (statement_of whole) c.spans) here ∙ ap (λ x. text ∷ x) c.texts_are;
    }

cut_from : (whole pre lead s : List ℕ) (ds : List Definition) → whole ≡ pre ++ s → s ≡ lead ++ lines_of ds → IsLineStart lead → AllByRecursion IsWellNamed ds → Cut whole s (texts_of lead ds)
cut_from whole pre lead s [] w e is well = record {
  spans = [];
  are = p.last (length whole) s None [] (subst (λ (v : List ℕ). Parts v []) (sym e) (is.parts [])) (subst (λ (v : List ℕ). Gap v []) (sym e) (is.gap [])) refl;
  texts_are = refl;
}
cut_from whole pre lead s (d ∷ ds) w e is well =
    let r = 10 ∷ lines_of ds in
    let e' : s ≡ lead ++ (shown d ++ 59 ∷ r) = e ∙ ap (λ v. lead ++ v) (append_assoc (shown d) (59 ∷ 10 ∷ []) (lines_of ds)) in
    let front = lead ++ (shown d ++ 59 ∷ []) in
    let w' : whole ≡ (pre ++ front) ++ r =
    w ∙ ap (λ v. pre ++ v) (e' ∙ ap (λ v. lead ++ v) (sym (append_assoc (shown d) (59 ∷ []) r)) ∙ sym (append_assoc lead (shown d ++ 59 ∷ []) r)) ∙ sym (append_assoc pre front r) in
    one_cut whole pre lead s r d (texts_of (10 ∷ []) ds) w e' is well.0 (cut_from whole (pre ++ front) (10 ∷ []) r ds w' refl line_lead well.1)

-- the statements of the text of well-named definitions
pub lines_cut : (ds : List Definition) → AllByRecursion IsWellNamed ds → (spans : List Span) × Pieces (lines_of ds) spans × (map (statement_of (lines_of ds)) spans ≡ texts_of [] ds)
lines_cut ds well =
    let c = cut_from (lines_of ds) [] [] (lines_of ds) ds refl refl no_lead well in
    (c.spans, subst (λ (v : List ℕ). PiecesAt (length (lines_of ds)) v c.spans) (sym (lines_no_mark ds)) c.are, c.texts_are)
