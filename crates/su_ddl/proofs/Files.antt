-- A file is read in one way.
use Rattle.std.proofs.Common.{◌≡◌, ◌⊎◌, inl, inr, ◌<◌, ◌≤◌, ◌+◌, ℕ, List, [], ◌∷◌, length, map, get_or, drop, Result, Ok, Err, Option, Some, None, refl, ap, sym, ◌∙◌, arith, subst, zero, suc, add-one}
use Rattle.std.specs.Prelude.{IfOk, IfErr}
use Rattle.su_lex.specs.Pieces.{Statement, added as listed, PiecesAt, Pieces, after_mark}
use Rattle.su_lex.specs.Pieces as p
use Rattle.su_lex.specs.Pieces.{mark}
use Rattle.std.specs.List.{starts_with}
use Rattle.std.proofs.Common.{nat_eq, cond, true, false}
use Rattle.std.proofs.lemmas.List.{length-drop, drop_all}
use Rattle.su_lex.specs.Blanks as b
use Rattle.su_lex.specs.declared.spans.Span.{Span}
use Rattle.su_lex.proofs.Cuts.{one_list_of_pieces, parts_within}
use Rattle.su_schema.specs.declared.definitions.Definition.{Definition}
use Rattle.su_schema.specs.SchemaValue.{SchemaValue}
use Rattle.su_schema.specs.Definitions.{applied}
use Rattle.su_ddl.specs.declared.faults.DdlFault.{DdlFault}
use Rattle.su_ddl.specs.declared.faults.DdlFault.TheVariants.{Syntax, Refused, NoMemory}
use Rattle.su_ddl.specs.Grammar.{IsDefinition}
use Rattle.su_ddl.specs.Files.{IsAtFault, ReadsFrom, Reads, statement_of, no_definitions}
use Rattle.su_ddl.proofs.Formed.{one_definition}

same_applied : {A : Type 0} (s : SchemaValue) (d e : Definition) (x y : Result SchemaValue A) → (f : SchemaValue → Definition → Result SchemaValue A) → d ≡ e → f s d ≡ x → f s e ≡ y → x ≡ y
same_applied s d e x y f same a c = sym a ∙ ap (f s) same ∙ c

-- one fault of a statement
fault_same : (n : ℕ) (s : SchemaValue) (t : List ℕ) (f g : DdlFault) → IsAtFault n s t f → IsAtFault n s t g → f ≡ g
fault_same n s t (Syntax k) (Syntax m) h i = ap Syntax (h.0 ∙ sym i.0)
fault_same n s t (Syntax k) (Refused m why) h i = absurd (h.1 i.1 i.2)
fault_same n s t (Syntax k) NoMemory h i = absurd i
fault_same n s t (Refused k why) (Syntax m) h i = absurd (i.1 h.1 h.2)
fault_same n s t (Refused k why) (Refused m why') h i =
    let same = one_definition t h.1 i.1 h.2 i.2 in
    let e : Err why ≡ Err why' = same_applied s h.1 i.1 (Err why) (Err why') applied same h.3 i.3 in
    let w : why ≡ why' = cc in
    ap (Refused k) w ∙ ap (λ (x : ℕ). Refused x why') (h.0 ∙ sym i.0)
fault_same n s t (Refused k why) NoMemory h i = absurd i
fault_same n s t NoMemory g h i = absurd h

-- a statement at fault is not added
not_both : (n : ℕ) (s next : SchemaValue) (t : List ℕ) (f : DdlFault) (d : Definition) → IsAtFault n s t f → IsDefinition t d → applied s d ≡ Ok next → ⊥
not_both n s next t (Syntax k) d h is a = h.1 d is
not_both n s next t (Refused k why) d h is a =
    let same = one_definition t d h.1 is h.2 in
    let e : Ok next ≡ Err why = same_applied s d h.1 (Ok next) (Err why) applied same a h.3 in
    cc
not_both n s next t NoMemory d h is a = h

reads_same : (n : ℕ) (s : SchemaValue) (ts : List (List ℕ)) (o q : Result SchemaValue DdlFault) → ReadsFrom n s ts o → ReadsFrom n s ts q → o ≡ q
reads_same n s [] o q h k = h ∙ sym k
reads_same n s (t ∷ ts) o q (inl (f, h, x)) (inl (g, i, y)) = x ∙ ap Err (fault_same n s t f g h i) ∙ sym y
reads_same n s (t ∷ ts) o q (inl (f, h, x)) (inr (d, next, is, a, more)) = absurd (not_both n s next t f d h is a)
reads_same n s (t ∷ ts) o q (inr (d, next, is, a, more)) (inl (f, h, x)) = absurd (not_both n s next t f d h is a)
reads_same n s (t ∷ ts) o q (inr (d, next, is, a, more)) (inr (d', next', is', a', more')) =
    let same = one_definition t d d' is is' in
    let h : Ok next ≡ Ok next' = same_applied s d d' (Ok next) (Ok next') applied same a a' in
    let k : next' ≡ next = cc in
    reads_same (n + 1) next ts o q more (subst (λ (v : SchemaValue). ReadsFrom (n + 1) v ts q) k more')

pub one_outcome : (file : List ℕ) (o q : Result SchemaValue DdlFault) → Reads file o → Reads file q → o ≡ q
one_outcome file o q h k =
    let same = one_list_of_pieces file k.0 h.0 k.1 h.1 in
    reads_same 1 no_definitions (map (statement_of file) h.0) o q h.2 (subst (λ (v : List Span). ReadsFrom 1 no_definitions (map (statement_of file) v) q) same k.2)

pub only_outcome : (file : List ℕ) (x : Result SchemaValue DdlFault) → IfOk x (λ s. Reads file (Ok s)) → IfErr x (λ f. (f ≡ NoMemory) ⊎ Reads file (Err f))
    → (o : Result SchemaValue DdlFault) → Reads file o → (x ≡ o) ⊎ (x ≡ Err NoMemory)
only_outcome file (Ok s) a c o h = inl (one_outcome file (Ok s) o a h)
only_outcome file (Err f) a c o h = elim c [ inl m ↦ inr (ap Err m) | inr k ↦ inl (one_outcome file (Err f) o k h) ]

-- ---- one statement more

texts_suc : (file : List ℕ) (spans : List Span) (i : ℕ) (x none : Span) → i < length spans → x ≡ get_or spans i none
    → map (statement_of file) (drop i spans) ≡ statement_of file x ∷ map (statement_of file) (drop (suc i) spans)
texts_suc file [] i x none l e = absurd (omega arith)
texts_suc file (y ∷ ys) zero x none l e = ap (λ v. statement_of file v ∷ map (statement_of file) ys) (sym e)
texts_suc file (y ∷ ys) (suc i) x none l e = texts_suc file ys i x none (omega arith) e

texts_at : (file : List ℕ) (spans : List Span) (i : ℕ) (x none : Span) → i < length spans → x ≡ get_or spans i none
    → map (statement_of file) (drop i spans) ≡ statement_of file x ∷ map (statement_of file) (drop (i + 1) spans)
texts_at file spans i x none l e =
    subst (λ (k : ℕ). map (statement_of file) (drop i spans) ≡ statement_of file x ∷ map (statement_of file) (drop k spans)) (sym (add-one i)) (texts_suc file spans i x none l e)

pub record SoFar (file : List ℕ) (spans : List Span) (i number : ℕ) (schema : SchemaValue) : Type 0 where
  pub count : number ≡ i
  pub before : (o : Result SchemaValue DdlFault) → ReadsFrom (i + 1) schema (map (statement_of file) (drop i spans)) o → ReadsFrom 1 no_definitions (map (statement_of file) spans) o

pub begun : (file : List ℕ) (spans : List Span) → SoFar file spans 0 0 no_definitions
begun file spans = record { count = refl; before = λ o h. h }

pub one_added : (file : List ℕ) (spans : List Span) (i number : ℕ) (s next : SchemaValue) (x none : Span) (d : Definition) → i < length spans → x ≡ get_or spans i none → SoFar file spans i number s
    → IsDefinition (statement_of file x) d → applied s d ≡ Ok next → SoFar file spans (i + 1) (number + 1) next
one_added file spans i number s next x none d l e so is a = record {
  count = ap (λ k. k + 1) so.count;
  before = λ o h. so.before o (subst (λ (ts : List (List ℕ)). ReadsFrom (i + 1) s ts o) (sym (texts_at file spans i x none l e)) (inr (d, next, is, a, h)));
}

pub at_fault : (file : List ℕ) (spans : List Span) (i number : ℕ) (s : SchemaValue) (x none : Span) (f : DdlFault) → Pieces file spans → i < length spans → x ≡ get_or spans i none → SoFar file spans i number s
    → (f ≡ NoMemory) ⊎ IsAtFault (number + 1) s (statement_of file x) f → (f ≡ NoMemory) ⊎ Reads file (Err f)
at_fault file spans i number s x none f pieces l e so told = elim told [
  | inl m ↦ inl m
  | inr h ↦
      let here = subst (λ (k : ℕ). IsAtFault (k + 1) s (statement_of file x) f) so.count h in
      inr (
        spans,
        pieces,
        so.before (Err f) (subst (λ (ts : List (List ℕ)). ReadsFrom (i + 1) s ts (Err f)) (sym (texts_at file spans i x none l e)) (inl (f, here, refl))),
      )
]

pub all_added : (file : List ℕ) (spans : List Span) (i number : ℕ) (s : SchemaValue) → Pieces file spans → length spans ≤ i → SoFar file spans i number s → Reads file (Ok s)
all_added file spans i number s pieces l so = (spans, pieces, so.before (Ok s) (subst (λ (ts : List (List ℕ)). ReadsFrom (i + 1) s ts (Ok s)) (sym (ap (map (statement_of file)) (drop_all i spans l))) refl))

-- ---- a file has no more statements than bytes

some_byte : (total : ℕ) (s : List ℕ) (x : Span) → Statement total s [] (Some x) → 1 ≤ length s
some_byte total [] x st = absurd (st.0 (b.none [] [] refl))
some_byte total (y ∷ s) x st = omega arith

last_count : (total : ℕ) (s : List ℕ) (here : Option Span) → Statement total s [] here → length (listed here []) ≤ length s
last_count total s None st = omega arith
last_count total s (Some x) st = omega (arith, some_byte total s x st)

added_count : (here : Option Span) (more : List Span) → length (listed here more) ≤ length more + 1
added_count None more = omega arith
added_count (Some x) more = omega arith

count_at : (total : ℕ) (s : List ℕ) (spans : List Span) → PiecesAt total s spans → length spans ≤ length s
count_at total s spans (p.last _ _ here _ x st e) = subst (λ (v : List Span). length v ≤ length s) (sym e) (last_count total s here st)
count_at total s spans (p.cut _ _ t here more _ x st m e) =
    let inside = parts_within s (59 ∷ t) x in
    let fewer = count_at total t more m in
    subst (λ (v : List Span). length v ≤ length s) (sym e) (omega (arith, inside, fewer, added_count here more))

mark_within : (file : List ℕ) → length (after_mark file) ≤ length file
mark_within file = elim (starts_with nat_eq file mark) as (λ v. length (cond v (drop 3 file) file) ≤ length file) [ true ↦ omega (arith, length-drop 3 file) | false ↦ omega arith ]

pub pieces_count : (file : List ℕ) (spans : List Span) → Pieces file spans → length spans ≤ length file
pieces_count file spans h = omega (arith, count_at (length file) (after_mark file) spans h, mark_within file)
