-- Lists of items that are read one after another.
use Rattle.std.proofs.Common.{◌≡◌, List, [], ◌∷◌, ◌++◌, map, flat_map, All, refl, sym, ap, subst, ◌∙◌, append_assoc, append-nil, Result, Err}
use Rattle.std.proofs.lemmas.List.Elements.{All-head, All-tail}
use Rattle.su_lex.specs.declared.meaning.Symbol.{Symbol}
use Rattle.su_lex.specs.Names.{Begins}
use Rattle.su_lex.specs.declared.ends.LexEnd.{LexEnd}
use Rattle.su_lex.specs.declared.ends.LexEnd.TheVariants.{Syntax, NoMemory}
use Rattle.su_check.specs.inside.LineReaders.{Gives, Stops}

-- ---- items of one symbol

-- one more item is read
pub map_push : {X : Type 0} (spell : X → Symbol) (done : List X) (x : X) (e s t : List Symbol) → e ≡ map spell done ++ s → s ≡ spell x ∷ t → e ≡ map spell (done ++ x ∷ []) ++ t
map_push spell done x e s t whole next = whole ∙ go done next
  where
    go : (done : List _) → s ≡ spell x ∷ t → map spell done ++ s ≡ map spell (done ++ x ∷ []) ++ t
    go [] next = next
    go (y ∷ done) next = ap (λ r. spell y ∷ r) (go done next)

-- a list is read in one way
pub map_only : {X : Type 0} (spell : X → Symbol) (In : X → Type 0) → ((x y : X) → In x → In y → spell x ≡ spell y → x ≡ y)
    → (xs ys : List X) (s r : List Symbol) → All In xs → All In ys → Stops spell In s → Stops spell In r → map spell xs ++ s ≡ map spell ys ++ r → (xs ≡ ys) × (s ≡ r)
map_only spell In one [] [] s r in_xs in_ys end end' e = (refl, e)
map_only spell In one [] (y ∷ ys) s r in_xs in_ys end end' e = absurd (end y (All-head In y ys in_ys) (map spell ys ++ r, e))
map_only spell In one (x ∷ xs) [] s r in_xs in_ys end end' e = absurd (end' x (All-head In x xs in_xs) (map spell xs ++ s, sym e))
map_only spell In one (x ∷ xs) (y ∷ ys) s r in_xs in_ys end end' e =
    let first : spell x ≡ spell y = cc in
    let rest : map spell xs ++ s ≡ map spell ys ++ r = cc in
    let same = one x y (All-head In x xs in_xs) (All-head In y ys in_ys) first in
    let more = map_only spell In one xs ys s r (All-tail In x xs in_xs) (All-tail In y ys in_ys) end end' rest in
    let m = more.0 in
    (cc, more.1)

-- all items are read, and no more stands there
pub map_ended : {X : Type 0} (spell : X → Symbol) (In : X → Type 0) → ((x y : X) → In x → In y → spell x ≡ spell y → x ≡ y)
    → (done all : List X) (e s s' r : List Symbol) → e ≡ map spell done ++ s → s' ≡ s → All In done → Stops spell In s → All In all → Stops spell In r → e ≡ map spell all ++ r → (done ≡ all) × (s' ≡ r)
map_ended spell In one done all e s s' r whole same are ends are' ends' is =
    let m = map_only spell In one done all s r are are' ends ends' (sym whole ∙ is) in
    (m.0, same ∙ m.1)

-- ---- items of several symbols

-- what is left of a list of items behind those that were read
pub record Left {X : Type 0} (spell : X → List Symbol) (In : X → Type 0) (all done : List X) (s r : List Symbol) : Type 0 where
  pub more : List X
  pub all_is : all ≡ done ++ more
  pub rest_is : s ≡ flat_map spell more ++ r
  pub are : All In more

pub flat_push : {X : Type 0} (spell : X → List Symbol) (done : List X) (x : X) (e s t : List Symbol) → e ≡ flat_map spell done ++ s → s ≡ spell x ++ t → e ≡ flat_map spell (done ++ x ∷ []) ++ t
flat_push spell done x e s t whole next = whole ∙ go done next
  where
    go : (done : List _) → s ≡ spell x ++ t → flat_map spell done ++ s ≡ flat_map spell (done ++ x ∷ []) ++ t
    go [] next = next ∙ ap (λ ys. ys ++ t) (sym (append-nil (spell x)))
    go (y ∷ done) next = append_assoc (spell y) (flat_map spell done) s ∙ ap (λ r. spell y ++ r) (go done next) ∙ sym (append_assoc (spell y) (flat_map spell (done ++ x ∷ [])) t)

pub none_read : {X : Type 0} (spell : X → List Symbol) (In : X → Type 0) (all : List X) (e r : List Symbol) → All In all → e ≡ flat_map spell all ++ r → Left spell In all [] e r
none_read spell In all e r are is = record { more = all; all_is = refl; rest_is = is; are = are }

-- one more item is left, as one begins here
pub record Next {X : Type 0} (spell : X → List Symbol) (In : X → Type 0) (all done : List X) (s r : List Symbol) : Type 0 where
  pub item : X
  pub is_in : In item
  pub behind : List Symbol
  pub here : s ≡ spell item ++ behind
  pub left : Left spell In all (done ++ item ∷ []) behind r

pub next_item : {X : Type 0} (spell : X → List Symbol) (In : X → Type 0) (all done : List X) (s r : List Symbol) → Left spell In all done s r → (s ≡ r → ⊥) → Next spell In all done s r
next_item spell In all done s r left more = go left.more left.all_is left.rest_is left.are
  where
    go : (rest : List _) → all ≡ done ++ rest → s ≡ flat_map spell rest ++ r → All In rest → Next spell In all done s r
    go [] e f are = absurd (more f)
    go (x ∷ rest) e f are = record {
      item = x;
      is_in = All-head In x rest are;
      behind = flat_map spell rest ++ r;
      here = f ∙ append_assoc (spell x) (flat_map spell rest) r;
      left = record { more = rest; all_is = e ∙ sym (append_assoc done (x ∷ []) rest); rest_is = refl; are = All-tail In x rest are };
    }

-- no item is left, as none begins here
pub no_item : {X : Type 0} (spell : X → List Symbol) (In : X → Type 0) (all done : List X) (s r : List Symbol) → ((x : X) (t : List Symbol) → In x → s ≡ spell x ++ t → ⊥) → Left spell In all done s r → (done ≡ all) × (s ≡ r)
no_item spell In all done s r none left = go left.more left.all_is left.rest_is left.are
  where
    go : (rest : List _) → all ≡ done ++ rest → s ≡ flat_map spell rest ++ r → All In rest → (done ≡ all) × (s ≡ r)
    go [] e f are = (sym (e ∙ append-nil done), f)
    go (x ∷ rest) e f are = absurd (none x (flat_map spell rest ++ r) (All-head In x rest are) (f ∙ append_assoc (spell x) (flat_map spell rest) r))

-- ---- items that begin with one symbol, the lead

-- where the lead stands, an item is left, and behind the lead its other symbols stand
pub lead_next : {X : Type 0} (spell : X → List Symbol) (In : X → Type 0) (lead : Symbol) (before : X → List Symbol → List Symbol) → ((x : X) (t : List Symbol) → spell x ++ t ≡ lead ∷ before x t)
    → (all done : List X) (e s r : List Symbol) → Left spell In all done e r → e ≡ lead ∷ s → ¬ (Begins lead r)
    → (x : X) × In x × (t : List Symbol) × (s ≡ before x t) × Left spell In all (done ++ x ∷ []) t r
lead_next spell In lead before at all done e s r left here none =
    let n = next_item spell In all done e r left (λ same. none (s, sym same ∙ here)) in
    let both : lead ∷ s ≡ lead ∷ before n.item n.behind = sym here ∙ n.here ∙ at n.item n.behind in
    let behind : s ≡ before n.item n.behind = cc in
    (n.item, n.is_in, n.behind, behind, n.left)

pub lead_none : {X : Type 0} (spell : X → List Symbol) (In : X → Type 0) (lead : Symbol) (before : X → List Symbol → List Symbol) → ((x : X) (t : List Symbol) → spell x ++ t ≡ lead ∷ before x t)
    → (all done : List X) (e r : List Symbol) → Left spell In all done e r → ¬ (Begins lead e) → (done ≡ all) × (e ≡ r)
lead_none spell In lead before at all done e r left none = no_item spell In all done e r (λ x t h is. none (before x t, is ∙ at x t)) left

-- the item that was read is the one that was left
pub left_on : {X : Type 0} (spell : X → List Symbol) (In : X → Type 0) (all done done' : List X) (x y : X) (t s r : List Symbol) → Left spell In all (done ++ x ∷ []) t r → done' ≡ done ++ y ∷ [] → (y ≡ x) × (s ≡ t) → Left spell In all done' s r
left_on spell In all done done' x y t s r left is same =
    let e : done ++ x ∷ [] ≡ done' = ap (λ x. done ++ x ∷ []) (sym same.0) ∙ sym is in
    subst (λ s. Left spell In all done' s r) (sym same.1) (subst (λ d. Left spell In all d t r) e left)

-- ---- refusals are handed on

pub gives_on : {X Y : Type 0} (P : X → Type 0) (Q : Y → Type 0) (e : LexEnd) (result : Result Y LexEnd) → result ≡ Err e → Gives {X = X} (Err e) P → Gives result Q
gives_on P Q e result is gives = subst (λ r. Gives r Q) (sym is) (go e gives)
  where
    go : (e : LexEnd) → Gives (Err e) P → Gives (Err e) Q
    go Syntax g = absurd g
    go NoMemory g = tt

pub gives_unless : {Y : Type 0} (Q : Y → Type 0) (e : LexEnd) (result : Result Y LexEnd) → result ≡ Err e → (e ≡ Syntax → ⊥) → Gives result Q
gives_unless Q e result is other = subst (λ r. Gives r Q) (sym is) (go e other)
  where
    go : (e : LexEnd) → (e ≡ Syntax → ⊥) → Gives (Err e) Q
    go Syntax other = other refl
    go NoMemory other = tt

pub gives_none : {X : Type 0} (P : X → Type 0) (e : LexEnd) → e ≡ Syntax → Gives {X = X} (Err e) P → ⊥
gives_none {X = X} P e is gives = subst (λ e. Gives {X = X} (Err e) P) is gives
