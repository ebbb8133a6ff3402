-- Names among those before them.
use Rattle.std.proofs.Common.{◌≡◌, ℕ, suc, ◌+◌, ◌<◌, Bool, ◌||◌, List, [], ◌++◌, Some, take, length, codes, get_or, slice_get, refl, sym, ap, subst, ◌∙◌, arith, append_assoc}
use Rattle.std.specs.Prelude.{◌==◌, decimal, if◌then◌else◌}
use Rattle.std.proofs.lemmas.List.{take-map, get_or-map, append-nil}
use Rattle.su_base.specs.declared.values.Column.{Column}
use Rattle.su_schema.specs.Entries.{column_names}
use Rattle.std.specs.List.{list_any}
use Rattle.std.proofs.lemmas.List.Folds.{list_any_more}
use Rattle.std.proofs.lemmas.Option.{get_or_from_slice_get, slice_get_within, slice_get-get_or}
use Rattle.sqlite_trees.specs.Sound.{same_name}
use Rattle.su_keep.specs.Listed.{is_reserved, name_in_file, name_at, no_column, quoted, column_quoted, kind_words, columns_text, key_text}

-- one more name
pub met_more : (name : List ℕ) (names : List (List ℕ)) (r : ℕ) (other : List ℕ) (met : Bool) → slice_get names r ≡ Some other → met ≡ list_any (same_name name) (take r names) → (met || same_name name other) ≡ list_any (same_name name) (take (r + 1) names)
met_more name names r other met at was =
    ap (λ b. b || same_name name other) was
    ∙ ap (λ (n : List ℕ). list_any (same_name name) (take r names) || same_name name n) (sym (get_or_from_slice_get names r other [] at))
    ∙ sym (list_any_more (same_name name) names r [] (slice_get_within names r other at))

-- the name at a place among these
pub named_at : (names earlier : List (List ℕ)) (place : ℕ) (n : List ℕ) → n ≡ get_or names place [] → earlier ≡ take place names → name_in_file earlier place n ≡ name_at names place
named_at names earlier place n is before = ap (λ (e : List (List ℕ)). name_in_file e place n) before ∙ ap (λ (m : List ℕ). name_in_file (take place names) place m) is

-- what is at a place is got there
pub got_at : {X : Type 0} (xs : List X) (place : ℕ) (x : X) → place < length xs → x ≡ get_or xs place x → slice_get xs place ≡ Some x
got_at xs place x below is = slice_get-get_or xs place x below ∙ ap Some (sym is)

-- the column at a place has the name that its own and those before it give
pub column_named : (columns before : List Column) (place : ℕ) (column : Column) (name : List ℕ) (met numbered : Bool) → slice_get columns place ≡ Some column → name ≡ column.name → before ≡ take place columns → met ≡ list_any (same_name name) (column_names before)
    → numbered ≡ (is_reserved name || met) → (if numbered then decimal (place + 1) ++ codes "." else []) ++ name ≡ name_at (column_names columns) place
column_named columns before place column name met numbered at named is was so =
    let below : place < length columns = slice_get_within columns place column at in
    let own : column.name ≡ get_or (column_names columns) place [] =
    ap (λ (c : Column). c.name) (sym (get_or_from_slice_get columns place column no_column at)) ∙ sym (get_or-map (λ (c : Column). c.name) columns place no_column [] below) in
    ap (λ (b : Bool). (if b then decimal (place + 1) ++ codes "." else []) ++ name) (so ∙ ap (λ (m : Bool). is_reserved name || m) was)
    ∙ named_at (column_names columns) (column_names before) place name (named ∙ own) (ap column_names is ∙ sym (take-map (λ (c : Column). c.name) place columns))

columns_suc : (columns : List Column) (n : ℕ) → columns_text columns (suc n) ≡ columns_text columns n ++ column_quoted columns n ++ kind_words (get_or columns n no_column).kind
unfolding columns_text
columns_suc columns n = refl

columns_more : (columns : List Column) (n : ℕ) → columns_text columns (n + 1) ≡ columns_text columns n ++ column_quoted columns n ++ kind_words (get_or columns n no_column).kind
columns_more columns n = let e : suc n ≡ n + 1 = omega arith in
    subst (λ (m : ℕ). columns_text columns m ≡ columns_text columns n ++ column_quoted columns n ++ kind_words (get_or columns n no_column).kind) e (columns_suc columns n)

columns_none : (columns : List Column) → columns_text columns 0 ≡ []
unfolding columns_text
columns_none columns = refl

key_suc : (columns : List Column) (n : ℕ) → key_text columns (suc n) ≡ key_text columns n ++ (if n == 0 then [] else codes ", ") ++ column_quoted columns n
unfolding key_text
key_suc columns n = refl

key_more : (columns : List Column) (n : ℕ) → key_text columns (n + 1) ≡ key_text columns n ++ (if n == 0 then [] else codes ", ") ++ column_quoted columns n
key_more columns n = let e : suc n ≡ n + 1 = omega arith in
    subst (λ (m : ℕ). key_text columns m ≡ key_text columns n ++ (if n == 0 then [] else codes ", ") ++ column_quoted columns n) e (key_suc columns n)

key_none : (columns : List Column) → key_text columns 0 ≡ []
unfolding key_text
key_none columns = refl

pub columns_step : (columns : List Column) (place : ℕ) (column : Column) (start out mid new name words : List ℕ) → slice_get columns place ≡ Some column → out ≡ start ++ columns_text columns place → mid ≡ out ++ quoted name → name ≡ name_at (column_names columns) place
    → new ≡ mid ++ words → words ≡ kind_words column.kind → new ≡ start ++ columns_text columns (place + 1)
columns_step columns place column start out mid new name words at was put named last kinds =
    let text = columns_text columns place in
    let own = column_quoted columns place in
    let kind = kind_words (get_or columns place no_column).kind in
    let same : words ≡ kind = kinds ∙ ap (λ (c : Column). kind_words c.kind) (sym (get_or_from_slice_get columns place column no_column at)) in
    last
    ∙ ap (λ (w : List ℕ). mid ++ w) same
    ∙ ap (λ (m : List ℕ). m ++ kind) (put ∙ ap (λ (n : List ℕ). out ++ quoted n) named ∙ ap (λ (o : List ℕ). o ++ own) was ∙ append_assoc start text own)
    ∙ append_assoc start (text ++ own) kind
    ∙ ap (λ (t : List ℕ). start ++ t) (sym (columns_more columns place))

pub key_step : (columns : List Column) (place : ℕ) (start out mid new comma name : List ℕ) → out ≡ start ++ key_text columns place → mid ≡ out ++ comma → comma ≡ (if place == 0 then [] else codes ", ") → new ≡ mid ++ quoted name → name ≡ name_at (column_names columns) place
    → new ≡ start ++ key_text columns (place + 1)
key_step columns place start out mid new comma name was put commas last named =
    let text = key_text columns place in
    let own = column_quoted columns place in
    let between : List ℕ = if place == 0 then [] else codes ", " in
    last
    ∙ ap (λ (n : List ℕ). mid ++ quoted n) named
    ∙ ap (λ (m : List ℕ). m ++ own) (put ∙ ap (λ (c : List ℕ). out ++ c) commas ∙ ap (λ (o : List ℕ). o ++ between) was ∙ append_assoc start text between)
    ∙ append_assoc start (text ++ between) own
    ∙ ap (λ (t : List ℕ). start ++ t) (sym (key_more columns place))

-- no column yet
pub columns_begin : (columns : List Column) (start : List ℕ) → start ≡ start ++ columns_text columns 0
columns_begin columns start = sym (ap (λ (t : List ℕ). start ++ t) (columns_none columns) ∙ append-nil start)

pub key_begin : (columns : List Column) (start : List ℕ) → start ≡ start ++ key_text columns 0
key_begin columns start = sym (ap (λ (t : List ℕ). start ++ t) (key_none columns) ∙ append-nil start)
