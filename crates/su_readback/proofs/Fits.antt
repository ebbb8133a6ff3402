-- The words of each definition are those of a line of its kind.
-- The idea: a list is as long as its words, and each of its words ends as it is written.
use Rattle.std.proofs.Common.{◌≡◌, ◌<◌, ◌+◌, ◌*◌, ℕ, true, false, cond, List, [], ◌∷◌, ◌++◌, map, length, length-append, take, drop, Some, refl, sym, ap, ◌∙◌, append_assoc, arith}
use Rattle.std.specs.Prelude.{◌==◌, ◌-◌, ◌&&◌, nat_lt, codes, slice_get}
use lib.ListN.{length-map}
use Rattle.std.proofs.lemmas.Bool.Decides.{nat_tests}
use Rattle.std.proofs.lemmas.Option.{slice_get-get_or}
use Rattle.std.proofs.Math.Seq.{get_or-append_seam, take-append_seam}
use Rattle.su_base.specs.declared.values.Kind.TheVariants as kind
use Rattle.su_base.specs.declared.values.Column.{Column}
use Rattle.su_schema.specs.declared.definitions.Pair.{Pair}
use Rattle.su_schema.specs.declared.definitions.Definition.{Definition}
use Rattle.su_schema.specs.declared.definitions.Definition.TheVariants.{Attribute, Relation, Object, Fd, Maximal}
use Rattle.su_schema.specs.WellNamed.{IsWellNamed}
use Rattle.su_explained.specs.declared.states.State.{State}
use Rattle.su_explained.specs.Checks.{some_is, ends, separated, listed}
use Rattle.su_explained.specs.Definitions.{attribute_count_of, columns_fit, object_fits}
use Rattle.su_explained.specs.Kinds.{outer_kind_of, inner_kind_of, kind_in}
use Rattle.su_explained.specs.Lines.{fits}
use Rattle.su_readback.specs.Schemas.{closed_by, with_commas, opened, column_words, definition_words, definition_kind}
use Rattle.su_readback.proofs.Closed.{both}
use Rattle.su_readback.proofs.SchemaTexts.{is_list}

-- ---- what a line is

some_bytes : (b : ℕ) (bs : List ℕ) → (length (b ∷ bs) == 0) ≡ false
some_bytes b bs = grind (arith, nat_tests)

pub kind_front : (b : ℕ) (bs : List ℕ) (ws : List (List ℕ)) → kind_in ((b ∷ bs) ∷ ws) ≡ outer_kind_of (b ∷ bs)
unfolding kind_in
kind_front b bs [] = refl
kind_front b bs (v ∷ []) = refl
kind_front b bs (v ∷ w ∷ ws) = ap (λ t. cond (t && (length v == 0)) (inner_kind_of w) (outer_kind_of (b ∷ bs))) (some_bytes b bs)

pub definition_kind_is : (d : Definition) → kind_in (definition_words d) ≡ Some (definition_kind d)
unfolding outer_kind_of
definition_kind_is (Attribute name k) = kind_front _ _ _
definition_kind_is (Relation name columns) = kind_front _ _ _
definition_kind_is (Object name relation pairs) = kind_front _ _ _
definition_kind_is (Fd left right) = kind_front _ _ _
definition_kind_is (Maximal objects) = kind_front _ _ _

-- ---- lengths

length-closed_by : (end : List ℕ) (ws : List (List ℕ)) → length (closed_by end ws) ≡ length ws
length-closed_by end [] = refl
length-closed_by end (w ∷ []) = refl
length-closed_by end (w ∷ v ∷ ws) = omega (arith, length-closed_by end (v ∷ ws))

length-with_commas : (ws : List (List ℕ)) → length (with_commas ws) ≡ length ws
length-with_commas [] = refl
length-with_commas (w ∷ []) = refl
length-with_commas (w ∷ v ∷ ws) = omega (arith, length-with_commas (v ∷ ws))

length-opened : (ws : List (List ℕ)) → length (opened ws) ≡ length ws
length-opened [] = refl
length-opened (w ∷ ws) = refl

length-parens : (end : List ℕ) (ns : List (List ℕ)) → length (opened (closed_by end (with_commas ns))) ≡ length ns
length-parens end ns = length-opened (closed_by end (with_commas ns)) ∙ length-closed_by end (with_commas ns) ∙ length-with_commas ns

two_columns : (cs : List Column) → 0 < length cs → 1 < length (column_words cs)
two_columns [] h = absurd (omega (arith, h))
two_columns (c ∷ []) h = omega arith
two_columns (c ∷ d ∷ cs) h = omega (arith, two_columns (d ∷ cs) (omega arith))

-- ---- how words end

pub same_byte : (b : ℕ) → (b == b) ≡ true
same_byte b = grind (arith, nat_tests)

last_is : (b : ℕ) (w : List ℕ) → slice_get (w ++ b ∷ []) (length (w ++ b ∷ []) - 1) ≡ Some b
last_is b w =
    let at : length (w ++ b ∷ []) - 1 ≡ length w = omega (arith, length-append w (b ∷ [])) in
    let within : length w < length (w ++ b ∷ []) = omega (arith, length-append w (b ∷ [])) in
    ap (slice_get (w ++ b ∷ [])) at ∙ slice_get-get_or (w ++ b ∷ []) (length w) 0 within ∙ ap Some (get_or-append_seam w b [] 0)

ends_back : (b : ℕ) (w : List ℕ) → ends b (w ++ b ∷ []) ≡ true
ends_back b w = ap (some_is (λ c. c == b)) (last_is b w) ∙ same_byte b

-- a word more in front of a list that is closed
separated_more : (b : ℕ) (end a v : List ℕ) (vs : List (List ℕ)) → separated b (closed_by end (a ∷ v ∷ vs)) ≡ (ends 44 a && separated b (closed_by end (v ∷ vs)))
separated_more b end a v [] = refl
separated_more b end a v (u ∷ us) = refl

separated_commas : (b : ℕ) (end n : List ℕ) (ns : List (List ℕ)) → separated b (closed_by (end ++ b ∷ []) (with_commas (n ∷ ns))) ≡ true
separated_commas b end n [] = ap (ends b) (sym (append_assoc n end (b ∷ []))) ∙ ends_back b (n ++ end)
separated_commas b end n (m ∷ ms) =
    let first : List ℕ = n ++ 44 ∷ [] in
    let last : List ℕ = end ++ b ∷ [] in
    is_list (λ ws. separated b (closed_by last (first ∷ ws)) ≡ (ends 44 first && separated b (closed_by last ws))) (separated_more b last first) m ms
    ∙ both _ _ (ends_back 44 n) (separated_commas b end m ms)

-- an opened list is one whose first name is opened
opened_front : (end w v : List ℕ) (vs : List (List ℕ)) → opened (closed_by end (w ∷ v ∷ vs)) ≡ closed_by end ((40 ∷ w) ∷ v ∷ vs)
opened_front end w v vs = refl

opened_is : (end n : List ℕ) (ns : List (List ℕ)) → opened (closed_by end (with_commas (n ∷ ns))) ≡ closed_by end (with_commas ((40 ∷ n) ∷ ns))
opened_is end n [] = refl
opened_is end n (m ∷ ms) = is_list (λ ws. opened (closed_by end ((n ++ 44 ∷ []) ∷ ws)) ≡ closed_by end ((40 ∷ (n ++ 44 ∷ [])) ∷ ws)) (opened_front end (n ++ 44 ∷ [])) m ms

listed_front : (b : ℕ) (end w v : List ℕ) (vs : List (List ℕ)) → listed b (closed_by end ((40 ∷ w) ∷ v ∷ vs)) ≡ separated b (closed_by end ((40 ∷ w) ∷ v ∷ vs))
unfolding listed
listed_front b end w v vs = refl

listed_is : (b : ℕ) (end n : List ℕ) (ns : List (List ℕ)) → listed b (closed_by end (with_commas ((40 ∷ n) ∷ ns))) ≡ separated b (closed_by end (with_commas ((40 ∷ n) ∷ ns)))
unfolding listed
listed_is b end n [] = refl
listed_is b end n (m ∷ ms) =
    let w : List ℕ = 40 ∷ (n ++ 44 ∷ []) in
    is_list (λ ws. listed b (closed_by end (w ∷ ws)) ≡ separated b (closed_by end (w ∷ ws))) (listed_front b end (n ++ 44 ∷ [])) m ms

some_listed : (b : ℕ) (end : List ℕ) (ns : List (List ℕ)) → 0 < length ns → listed b (opened (closed_by (end ++ b ∷ []) (with_commas ns))) ≡ true
some_listed b end [] h = absurd (omega (arith, h))
some_listed b end (n ∷ ns) h =
    let last : List ℕ = end ++ b ∷ [] in
    ap (listed b) (opened_is last n ns) ∙ listed_is b last n ns ∙ separated_commas b end (40 ∷ n) ns

-- ---- objects

columns_fit-is : (relation : List ℕ) (ws : List (List ℕ)) → listed 59 ws ≡ true → columns_fit (codes "from" ∷ relation ∷ ws) ≡ true
unfolding columns_fit
columns_fit-is relation ws h = h

object_shape : (name relation : List ℕ) (xs ys : List (List ℕ)) → length xs ≡ length ys → listed 41 xs ≡ true → listed 59 ys ≡ true
    → object_fits (codes "object" ∷ name ∷ (xs ++ codes "from" ∷ relation ∷ ys)) ≡ true
object_shape name relation xs ys same p q =
    let behind : List (List ℕ) = codes "from" ∷ relation ∷ ys in
    let words : List (List ℕ) = codes "object" ∷ name ∷ (xs ++ behind) in
    let whole : length (xs ++ behind) ≡ length xs + length behind = length-append xs behind in
    let count : attribute_count_of (length words) ≡ length xs = omega (arith, whole, same) in
    let long : (length words == 2 * length xs + 4) ≡ true = grind (arith, nat_tests, whole, same) in
    ap (λ n. (length words == 2 * n + 4) && listed 41 (take n (xs ++ behind)) && columns_fit (drop n (xs ++ behind))) count
    ∙ both _ _ (both _ _ long (ap (listed 41) (take-append_seam xs behind) ∙ p)) (ap columns_fit (drop_front xs behind) ∙ columns_fit-is relation ys q)
  where
    drop_front : (xs ys : List (List ℕ)) → drop (length xs) (xs ++ ys) ≡ ys
    drop_front [] ys = refl
    drop_front (x ∷ xs) ys = drop_front xs ys

-- ---- definitions

pub more_than : (k n : ℕ) → k < n → nat_lt k n ≡ true
more_than k n h = grind (arith, nat_tests, h)

pub definition_fits : (s : State) (d : Definition) → IsWellNamed d → fits s (definition_kind d) (definition_words d) ≡ true
definition_fits s (Attribute name kind.Int) h = refl
definition_fits s (Attribute name kind.Text) h = refl
definition_fits s (Relation name columns) h =
    let ws = column_words columns in
    let columns_some : 0 < length columns = omega (arith, h.1.some, length-map columns (λ (c : Column). c.name)) in
    let long : length (opened (closed_by (codes ");") ws)) ≡ length ws = length-opened (closed_by (codes ");") ws) ∙ length-closed_by (codes ");") ws in
    more_than 3 _ (omega (arith, long, two_columns columns columns_some))
definition_fits s (Object name relation pairs) h =
    let firsts = map (λ p. p.attribute) pairs in
    let seconds = map (λ p. p.column) pairs in
    let same : length firsts ≡ length seconds = length-map pairs (λ (p : Pair). p.attribute) ∙ sym (length-map pairs (λ (p : Pair). p.column)) in
    object_shape name relation (opened (closed_by (codes ")") (with_commas firsts))) (opened (closed_by (codes ");") (with_commas seconds)))
    (length-parens (codes ")") firsts ∙ same ∙ sym (length-parens (codes ");") seconds)) (some_listed 41 [] firsts h.2.some) (some_listed 59 (41 ∷ []) seconds h.3.some)
definition_fits s (Fd left right) h =
    let l : length (with_commas left) ≡ length left = length-with_commas left in
    let r : length (closed_by (codes ";") (with_commas right)) ≡ length right = length-closed_by (codes ";") (with_commas right) ∙ length-with_commas right in
    let all = length-append (with_commas left) (codes "->" ∷ closed_by (codes ";") (with_commas right)) in
    more_than 3 _ (omega (arith, l, r, all, h.0.some, h.1.some))
definition_fits s (Maximal objects) h = more_than 1 _ (omega (arith, length-parens (codes ");") objects, h.some))
