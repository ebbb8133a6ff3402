-- A schema's reply is read as its lines.
-- The idea: its text is that of its lines, which are closed; and kind by kind each of them may stand where it stands.
use Rattle.std.proofs.Common.{◌≡◌, ◌<◌, ◌≤◌, ◌+◌, ℕ, Bool, true, false, cond, List, [], ◌∷◌, ◌++◌, map, length, Option, Some, None, refl, sym, ap, ◌∙◌, subst, append_assoc, arith}
use Rattle.std.specs.Prelude.{◌&&◌, nat_lt, codes, decimal}
use lib.ListN.{length-map}
use Rattle.std.specs.List.{list_all, AllByRecursion}
use Rattle.std.specs.Option.{option_and_then}
use Rattle.std.specs.Ordering.{nat_cmp}
use Rattle.std.specs.FinSet.{FinSet}
use Rattle.std.proofs.lemmas.Bool.Decides.{nat_tests}
use Rattle.std.proofs.lemmas.List.{map-append}
use Rattle.std.proofs.lemmas.Grind.{flat_map-append}
use Rattle.std.proofs.lemmas.List.Folds.{list_all-append}
use Rattle.std.proofs.lemmas.List.Elements.{recursion_from_All}
use Rattle.su_schema.specs.declared.definitions.Definition.{Definition}
use Rattle.su_schema.specs.declared.definitions.Definition.TheVariants.{Attribute, Relation, Object, Fd, Maximal}
use Rattle.su_schema.specs.SchemaValue.{SchemaValue}
use Rattle.su_base.specs.Name.{IsName}
use Rattle.su_schema.specs.Entries.{object_names}
use Rattle.su_schema.specs.SetMembers.{numbers_in}
use Rattle.su_schema.specs.Valid.{IsValid, IsSomeBelow}
use Rattle.su_schema.specs.WellNamed.{IsWellNamed}
use Rattle.su_ddl.proofs.Named.{side}
use Rattle.su_ddl.proofs.SameSchema.{definitions_build}
use Rattle.su_ddl.proofs.Steps.{builds_well}
use Rattle.su_show.specs.Replies.{schema_reply, maximal_lines}
use Rattle.su_show.specs.Values.{behind_spaces}
use Rattle.su_ddl.specs.Shown.{line_of, lines_of}
use Rattle.su_ddl.specs.Files.{no_definitions}
use Rattle.su_ddl.specs.ShownDefinitions.{names_in, attribute_definition, relation_definition, object_definition, fd_definition, maximal_definition, definitions_of}
use Rattle.su_explained.specs.declared.kinds.Kind.{Kind as LineKind}
use Rattle.su_explained.specs.declared.kinds.Kind.TheVariants as line
use Rattle.su_explained.specs.declared.pieces.Piece.{Piece}
use Rattle.su_explained.specs.declared.states.State.{State}
use Rattle.su_explained.specs.declared.reading.Line.{Line}
use Rattle.su_explained.specs.Pieces.{line_text, cut_of}
use Rattle.su_explained.specs.Checks.{is_decimal}
use Rattle.su_explained.specs.Definitions.{is_origin_word, is_maximal_object}
use Rattle.su_explained.specs.Kinds.{kind_in, outer_kind_of}
use Rattle.su_explained.specs.Lines.{fits}
use Rattle.su_explained.specs.Order.{stepped, follows, may_end}
use Rattle.su_explained.specs.Ranks.{rank_of, defines_behind}
use Rattle.su_explained.specs.States.{has_room_in, state_behind, at_start}
use Rattle.su_explained.specs.TextLines.{behind_words, AreRead, AreLinesOf}
use Rattle.su_readback.specs.Schemas.{definition_words, definition_kind, definition_line, maximal_line_of, maximal_lines_of, schema_lines}
use Rattle.su_readback.specs.SchemasRead.{SchemasAreRead}
use Rattle.su_readback.specs.Words.{lines_text, are_closed, is_closed}
use Rattle.su_readback.proofs.Closed.{both, AllClosed, definition_closed, decimal_closed, names_closed, names_at-closed}
use Rattle.su_readback.proofs.Cut.{texts_cut}
use Rattle.su_readback.proofs.Decimals.{is_decimal-decimal}
use Rattle.su_readback.proofs.Fits.{kind_front, definition_kind_is, definition_fits}
use Rattle.su_readback.proofs.SchemaTexts.{attribute_line, relation_line, object_line, fd_line, maximal_definition_line}

-- ---- lines that may stand one behind the other

-- each line may stand behind those before it, from one state to another
abbrev pub Follow : State → List Line → State → Type 0
Follow s [] end = end ≡ s
Follow s (l ∷ ls) end = (kind_in l.words ≡ Some l.kind) × ((next : State) × (behind_words s l.words ≡ Some next) × Follow next ls end)

pub follow_append : (s m end : State) (ks ls : List Line) → Follow s ks m → Follow m ls end → Follow s (ks ++ ls) end
follow_append s m end [] ls h k = subst (λ (t : State). Follow t ls end) h k
follow_append s m end (x ∷ ks) ls h k = (h.0, (h.1.0, h.1.1, follow_append h.1.0 m end ks ls h.1.2 k))

abbrev pub words_of : List Line → List (List (List ℕ))
words_of lines = map (λ (l : Line). l.words) lines

-- what is cut into the words of such lines is read as these lines
pub read_pieces : (s end : State) (pieces : List Piece) (lines : List Line) → map (λ (p : Piece). p.words) pieces ≡ words_of lines → Follow s lines end → AreRead s pieces lines end
read_pieces s end [] [] e h = h
read_pieces s end [] (l ∷ ls) e h = absurd (cc)
read_pieces s end (p ∷ ps) [] e h = absurd (cc)
read_pieces s end (p ∷ ps) (l ∷ ls) e h =
    let same : p.words ≡ l.words = cc in
    let rest : map (λ (p : Piece). p.words) ps ≡ words_of ls = cc in
    ((sym same, ap kind_in same ∙ h.0), (h.1.0, ap (behind_words s) same ∙ h.1.1, read_pieces h.1.0 end ps ls rest h.1.2))

-- ---- one line

three_true : (a b c : Bool) (x : Option State) → a ≡ true → b ≡ true → c ≡ true → cond (a && b && c) x None ≡ x
three_true a b c x p q r = ap (λ t. cond (t && b && c) x None) p ∙ ap (λ t. cond (true && t && c) x None) q ∙ ap (λ t. cond (true && true && t) x None) r

pub one_step : (s : State) (kind : LineKind) (words : List (List ℕ)) → kind_in words ≡ Some kind → has_room_in s ≡ true → follows s kind s.last ≡ true → fits s kind words ≡ true
    → behind_words s words ≡ Some (state_behind s kind (length words))
one_step s kind words k room there fit =
    ap (option_and_then (λ kind. stepped s kind words)) k ∙ three_true (has_room_in s) (follows s kind s.last) (fits s kind words) (Some (state_behind s kind (length words))) room there fit

-- ---- definitions

-- no line of an explanation was told, and so many maximal objects were
abbrev pub in_schema : Option LineKind → ℕ → State
in_schema last m = record { last = last; terms = 0; kept_terms = 0; rows = 0; kept = 0; sources = 0; maximal = m }

definition_follows : (last : Option LineKind) (d : Definition) → follows (in_schema last 0) (definition_kind d) last ≡ defines_behind last (definition_kind d)
definition_follows last (Attribute name k) = refl
definition_follows last (Relation name columns) = refl
definition_follows last (Object name relation pairs) = refl
definition_follows last (Fd left right) = refl
definition_follows last (Maximal objects) = refl

definition_behind : (last : Option LineKind) (d : Definition) (n : ℕ) → state_behind (in_schema last 0) (definition_kind d) n ≡ in_schema (Some (definition_kind d)) 0
definition_behind last (Attribute name k) n = refl
definition_behind last (Relation name columns) n = refl
definition_behind last (Object name relation pairs) n = refl
definition_behind last (Fd left right) n = refl
definition_behind last (Maximal objects) n = refl

definition_step : (last : Option LineKind) (d : Definition) → IsWellNamed d → defines_behind last (definition_kind d) ≡ true
    → behind_words (in_schema last 0) (definition_words d) ≡ Some (in_schema (Some (definition_kind d)) 0)
definition_step last d well h =
    one_step (in_schema last 0) (definition_kind d) (definition_words d) (definition_kind_is d) refl (definition_follows last d ∙ h) (definition_fits (in_schema last 0) d well)
    ∙ ap Some (definition_behind last d (length (definition_words d)))

-- lines up to this kind follow, and a line of this kind may stand behind them
pub record AreUpTo (kind : LineKind) (last : Option LineKind) (lines : List Line) : Type 0 where
  pub end : Option LineKind
  pub may : defines_behind end kind ≡ true
  pub follow : Follow (in_schema last 0) lines (in_schema end 0)

-- a line of a later kind may stand there too
later : (last : Option LineKind) (k l : LineKind) → rank_of k ≤ rank_of l → defines_behind last k ≡ true → defines_behind last l ≡ true
later None k l le h = refl
later (Some x) k l le h = grind (arith, nat_tests, le, h)

module _ {X : Type 0} (define : X → Definition) (kind : LineKind) (is : (x : X) → definition_kind (define x) ≡ kind) (again : defines_behind (Some kind) kind ≡ true) where
  section : (xs : List X) (last : Option LineKind) → defines_behind last kind ≡ true → AllByRecursion IsWellNamed (map define xs) → AreUpTo kind last (map definition_line (map define xs))
  section [] last h well = record { end = last; may = h; follow = refl }
  section (x ∷ xs) last h well =
      let d = define x in
      let one = definition_step last d well.0 (subst (λ (k : LineKind). defines_behind last k ≡ true) (sym (is x)) h) in
      let rest = section xs (Some (definition_kind d)) (subst (λ (k : LineKind). defines_behind (Some k) kind ≡ true) (sym (is x)) again) well.1 in
      record { end = rest.end; may = rest.may; follow = (definition_kind_is d, (in_schema (Some (definition_kind d)) 0, one, rest.follow)) }

-- ---- the text of definitions

definition_text : (d : Definition) → IsWellNamed d → line_of d ≡ line_text (definition_words d)
definition_text (Attribute name k) h = attribute_line name k
definition_text (Relation name []) h = absurd (omega (arith, h.1.some))
definition_text (Relation name (c ∷ cs)) h = relation_line name c cs
definition_text (Object name relation []) h = absurd (omega (arith, h.2.some))
definition_text (Object name relation (p ∷ ps)) h = object_line name relation p ps
definition_text (Fd [] right) h = absurd (omega (arith, h.0.some))
definition_text (Fd (n ∷ ns) []) h = absurd (omega (arith, h.1.some))
definition_text (Fd (n ∷ ns) (m ∷ ms)) h = fd_line n ns m ms
definition_text (Maximal []) h = absurd (omega (arith, h.some))
definition_text (Maximal (n ∷ ns)) h = maximal_definition_line n ns

pub definitions_text : (ds : List Definition) → AllByRecursion IsWellNamed ds → lines_of ds ≡ lines_text (words_of (map definition_line ds))
definitions_text [] h = refl
definitions_text (d ∷ ds) h =
    ap (λ t. t ++ lines_of ds) (definition_text d h.0) ∙ ap (λ t. line_text (definition_words d) ++ t) (definitions_text ds h.1)

pub definitions_closed : (ds : List Definition) → AllByRecursion IsWellNamed ds → list_all are_closed (words_of (map definition_line ds)) ≡ true
definitions_closed [] h = refl
definitions_closed (d ∷ ds) h =
    ap (λ t. t && list_all are_closed (words_of (map definition_line ds))) (definition_closed d h.0) ∙ definitions_closed ds h.1

-- ---- all definitions of a schema

well_append : (ds es : List Definition) → AllByRecursion IsWellNamed (ds ++ es) → AllByRecursion IsWellNamed ds × AllByRecursion IsWellNamed es
well_append [] es h = (tt, h)
well_append (d ∷ ds) es h = let r = well_append ds es h.1 in ((h.0, r.0), r.1)

-- lines of one kind, and lines of a later kind behind them
more_lines : (k l : LineKind) (last : Option LineKind) (xs ys : List Line) → rank_of k ≤ rank_of l → AreUpTo k last xs
    → ((end : Option LineKind) → defines_behind end l ≡ true → AreUpTo l end ys) → AreUpTo l last (xs ++ ys)
more_lines k l last xs ys le a f =
    let b = f a.end (later a.end k l le a.may) in
    record { end = b.end; may = b.may; follow = follow_append (in_schema last 0) (in_schema a.end 0) (in_schema b.end 0) xs ys a.follow b.follow }

more : (k l : LineKind) (ds es : List Definition) → rank_of k ≤ rank_of l → AreUpTo k None (map definition_line ds)
    → ((end : Option LineKind) → defines_behind end l ≡ true → AreUpTo l end (map definition_line es)) → AreUpTo l None (map definition_line (ds ++ es))
more k l ds es le a f = subst (AreUpTo l None) (sym (map-append definition_line ds es)) (more_lines k l None (map definition_line ds) (map definition_line es) le a f)

module _ (s : SchemaValue) (well : AllByRecursion IsWellNamed (definitions_of s)) where
  abbrev attributes : List Definition
  attributes = map attribute_definition s.attributes

  abbrev relations : List Definition
  relations = map relation_definition s.relations

  abbrev objects : List Definition
  objects = map (object_definition s) s.objects

  abbrev dependencies : List Definition
  dependencies = map (fd_definition s) s.fds

  abbrev declared : List Definition
  declared = map (maximal_definition s) s.declared

  four : AllByRecursion IsWellNamed attributes × AllByRecursion IsWellNamed relations × AllByRecursion IsWellNamed objects × AllByRecursion IsWellNamed dependencies × AllByRecursion IsWellNamed declared
  four =
      let a = well_append (attributes ++ relations ++ objects ++ dependencies) declared well in
      let b = well_append (attributes ++ relations ++ objects) dependencies a.0 in
      let c = well_append (attributes ++ relations) objects b.0 in
      let d = well_append attributes relations c.0 in
      (d.0, d.1, c.1, b.1, a.1)

  pub definitions_follow : AreUpTo line.Declared None (map definition_line (definitions_of s))
  definitions_follow =
      let w = four in
      let a : AreUpTo line.Attribute None (map definition_line attributes) = section attribute_definition line.Attribute (λ x. refl) refl s.attributes None refl w.0 in
      let b = more line.Attribute line.Relation attributes relations (omega arith) a (λ end h. section relation_definition line.Relation (λ x. refl) refl s.relations end h w.1) in
      let c = more line.Relation line.Object (attributes ++ relations) objects (omega arith) b (λ end h. section (object_definition s) line.Object (λ x. refl) refl s.objects end h w.2) in
      let d = more line.Object line.Dependency (attributes ++ relations ++ objects) dependencies (omega arith) c (λ end h. section (fd_definition s) line.Dependency (λ x. refl) refl s.fds end h w.3) in
      more line.Dependency line.Declared (attributes ++ relations ++ objects ++ dependencies) declared (omega arith) d
      (λ end h. section (maximal_definition s) line.Declared (λ x. refl) refl s.declared end h w.4)

-- ---- maximal objects

maximal_parts : (front number origin x : List ℕ) → front ++ number ++ (32 ∷ origin) ++ x ++ 10 ∷ [] ≡ front ++ ((number ++ 32 ∷ (origin ++ x)) ++ 10 ∷ [])
maximal_parts front number origin x = simp append_assoc

maximal_words : (origin number : List ℕ) (names : List (List ℕ))
    → codes "-- maximal object " ++ number ++ (32 ∷ origin) ++ behind_spaces names ++ codes "\n" ≡ line_text (codes "--" ∷ codes "maximal" ∷ codes "object" ∷ number ∷ origin ∷ names)
maximal_words origin number names = maximal_parts (codes "-- maximal object ") number origin (behind_spaces names)

maximal_text : (b : Bool) (number : List ℕ) (names : List (List ℕ))
    → codes "-- maximal object " ++ number ++ cond b (codes " declared") (codes " computed") ++ behind_spaces names ++ codes "\n"
    ≡ line_text (codes "--" ∷ codes "maximal" ∷ codes "object" ∷ number ∷ cond b (codes "declared") (codes "computed") ∷ names)
maximal_text true number names = maximal_words (codes "declared") number names
maximal_text false number names = maximal_words (codes "computed") number names

origin_is : (b : Bool) → is_origin_word (cond b (codes "declared") (codes "computed")) ≡ true
unfolding is_origin_word
origin_is true = refl
origin_is false = refl

origin_closed : (b : Bool) → is_closed false (cond b (codes "declared") (codes "computed")) ≡ true
origin_closed true = refl
origin_closed false = refl

maximal_object : (s : State) (n : ℕ) (origin : List ℕ) (names : List (List ℕ)) → s.maximal ≡ n → n < 1000 → is_origin_word origin ≡ true → 0 < length names
    → is_maximal_object s (decimal n ∷ origin ∷ names) ≡ true
unfolding is_maximal_object
maximal_object s n origin [] at few o some = absurd (omega (arith, some))
maximal_object s n origin (m ∷ ms) at few o some = both _ _ (ap (λ k. is_decimal k (decimal n)) at ∙ is_decimal-decimal n few) o

maximal_kind_is : (ws : List (List ℕ)) → kind_in (codes "--" ∷ ws) ≡ Some line.Maximal
unfolding outer_kind_of
maximal_kind_is ws = kind_front _ _ ws

maximal_step : (last : Option LineKind) (schema : SchemaValue) (n : ℕ) (set : FinSet nat_cmp) → defines_behind last line.Maximal ≡ true → n < 1000 → 0 < length (names_in (object_names schema) set)
    → behind_words (in_schema last n) (maximal_line_of schema n set).words ≡ Some (in_schema (Some line.Maximal) (n + 1))
maximal_step last schema n set may few some =
    let declared = nat_lt n (length schema.declared) in
    let less : nat_lt n 1000 ≡ true = grind (arith, nat_tests, few) in
    one_step (in_schema last n) line.Maximal (maximal_line_of schema n set).words (maximal_kind_is _) less may
    (maximal_object (in_schema last n) n (cond declared (codes "declared") (codes "computed")) (names_in (object_names schema) set) refl few (origin_is declared) some)

-- the lines of maximal objects from a number on
record AreNumbered (last : Option LineKind) (n : ℕ) (lines : List Line) : Type 0 where
  end : Option LineKind
  count : ℕ
  may : defines_behind end line.Maximal ≡ true
  follow : Follow (in_schema last n) lines (in_schema end count)
  closed : list_all are_closed (words_of lines) ≡ true

module _ (schema : SchemaValue) (valid : IsValid schema) where
  names_closed_in : (set : FinSet nat_cmp) → AllClosed (names_in (object_names schema) set)
  names_closed_in set =
      names_at-closed (object_names schema) (numbers_in set (length (object_names schema)))
      (names_closed (object_names schema) (recursion_from_All IsName (object_names schema) valid.object_names.named))

  maximal_closed : (n : ℕ) (set : FinSet nat_cmp) → are_closed (maximal_line_of schema n set).words ≡ true
  maximal_closed n set =
      both _ _ (decimal_closed n) (both _ _ (origin_closed (nat_lt n (length schema.declared))) (names_closed_in set))

  some_names : (set : FinSet nat_cmp) → IsSomeBelow (length schema.objects) set → 0 < length (names_in (object_names schema) set)
  some_names set is = (side (object_names schema) set valid.object_names (subst (λ (n : ℕ). IsSomeBelow n set) (sym (length-map schema.objects (λ o. o.name))) is)).given.some

  maximal_follow : (sets : List (FinSet nat_cmp)) (last : Option LineKind) (n : ℕ) → defines_behind last line.Maximal ≡ true → n + length sets ≤ 1000
      → AllByRecursion (IsSomeBelow (length schema.objects)) sets → AreNumbered last n (maximal_lines_of schema n sets)
  maximal_follow [] last n may few some = record { end = last; count = n; may = may; follow = refl; closed = refl }
  maximal_follow (set ∷ sets) last n may few some =
      let one = maximal_step last schema n set may (omega (arith, few)) (some_names set some.0) in
      let rest = maximal_follow sets (Some line.Maximal) (n + 1) refl (omega (arith, few)) some.1 in
      record {
        end = rest.end;
        count = rest.count;
        may = rest.may;
        follow = (maximal_kind_is _, (in_schema (Some line.Maximal) (n + 1), one, rest.follow));
        closed = both _ _ (maximal_closed n set) rest.closed;
      }

  maximal_lines_text : (n : ℕ) (sets : List (FinSet nat_cmp)) → maximal_lines schema n sets ≡ lines_text (words_of (maximal_lines_of schema n sets))
  maximal_lines_text n [] = refl
  maximal_lines_text n (set ∷ sets) =
      ap (λ t. t ++ maximal_lines schema (n + 1) sets) (maximal_text (nat_lt n (length schema.declared)) (decimal n) (names_in (object_names schema) set))
      ∙ ap (λ t. line_text (maximal_line_of schema n set).words ++ t) (maximal_lines_text (n + 1) sets)

-- ---- the whole

ends_there : (last : Option LineKind) → defines_behind last line.Maximal ≡ true → may_end last ≡ true
ends_there None h = refl
ends_there (Some k) h = kinds k h
  where
    kinds : (k : LineKind) → defines_behind (Some k) line.Maximal ≡ true → may_end (Some k) ≡ true
    kinds line.Query h = absurd (let e : false ≡ true = h in cc)
    kinds line.Variables h = absurd (let e : false ≡ true = h in cc)
    kinds line.Term h = absurd (let e : false ≡ true = h in cc)
    kinds line.Row h = absurd (let e : false ≡ true = h in cc)
    kinds line.Head h = absurd (let e : false ≡ true = h in cc)
    kinds line.Compare h = absurd (let e : false ≡ true = h in cc)
    kinds line.Kept h = absurd (let e : false ≡ true = h in cc)
    kinds line.Fold h = absurd (let e : false ≡ true = h in cc)
    kinds line.Sources h = absurd (let e : false ≡ true = h in cc)
    kinds line.Covered h = absurd (let e : false ≡ true = h in cc)
    kinds line.Count h = refl
    kinds line.Attribute h = refl
    kinds line.Relation h = refl
    kinds line.Object h = refl
    kinds line.Dependency h = refl
    kinds line.Declared h = refl
    kinds line.Maximal h = refl

pub schemas_read : SchemasAreRead
schemas_read schema sets valid few some =
    let well = builds_well no_definitions schema (definitions_of schema) (definitions_build schema valid) in
    let front = map definition_line (definitions_of schema) in
    let back = maximal_lines_of schema 0 sets in
    let lines = schema_lines schema sets in
    let a = definitions_follow schema well in
    let b = maximal_follow schema valid sets a.end 0 (later a.end line.Declared line.Maximal (omega arith) a.may) (omega (arith, few)) (recursion_from_All (IsSomeBelow (length schema.objects)) sets some) in
    let follow : Follow at_start lines (in_schema b.end b.count) = follow_append at_start (in_schema a.end 0) (in_schema b.end b.count) front back a.follow b.follow in
    let words : words_of lines ≡ words_of front ++ words_of back = map-append (λ (l : Line). l.words) front back in
    let closed : list_all are_closed (words_of lines) ≡ true =
    ap (list_all are_closed) words ∙ list_all-append are_closed (words_of front) (words_of back) ∙ both _ _ (definitions_closed (definitions_of schema) well) b.closed in
    let text : schema_reply schema sets ≡ lines_text (words_of lines) =
    ap (λ t. t ++ maximal_lines schema 0 sets) (definitions_text (definitions_of schema) well) ∙ ap (λ t. lines_text (words_of front) ++ t) (maximal_lines_text schema valid 0 sets)
    ∙ sym (flat_map-append line_text (words_of front) (words_of back)) ∙ ap lines_text (sym words) in
    let cut = texts_cut (words_of lines) closed in
    let is : AreLinesOf (lines_text (words_of lines)) lines = record {
      end = in_schema b.end b.count;
      read = read_pieces at_start (in_schema b.end b.count) (cut_of (lines_text (words_of lines))).pieces lines cut.0 follow;
      ends = both _ _ cut.1 (ends_there b.end b.may);
    } in
    subst (λ (t : List ℕ). AreLinesOf t lines) (sym text) is
