-- What a line is, by its first word, or by its third behind two empty ones.
-- outer: at the margin; inner: behind two spaces, below a term
use Rattle.std.specs.Prelude.{ℕ, ◌==◌, ◌&&◌, if◌then◌else◌, List, [], ◌∷◌, length, Option, Some, None, codes}
use Rattle.std.specs.Str.{bytes_eq}
use Rattle.su_explained.specs.declared.kinds.Kind.{Kind}
use Rattle.su_explained.specs.declared.kinds.Kind.TheVariants.{Query, Variables, Term, Row, Head, Compare, Kept, Fold, Sources, Covered, Count, Attribute, Relation, Object, Dependency, Declared, Maximal}

-- the kind of a line that stands at the margin, by its first word
unfoldable pub outer_kind_of : List ℕ → Option Kind
outer_kind_of word =
    if bytes_eq word (codes "query:") then Some Query else
    (if bytes_eq word (codes "variables") then Some Variables else
    (if bytes_eq word (codes "term") then Some Term else
    (if bytes_eq word (codes "terms") then Some Count else
    (if bytes_eq word (codes "attribute") then Some Attribute else
    (if bytes_eq word (codes "relation") then Some Relation else
    (if bytes_eq word (codes "object") then Some Object else
    (if bytes_eq word (codes "fd") then Some Dependency else
    (if bytes_eq word (codes "maximal") then Some Declared else
    (if bytes_eq word (codes "--") then Some Maximal else None)))))))))

-- the kind of a line that stands below a term, by its third word; the first two are empty
unfoldable pub inner_kind_of : List ℕ → Option Kind
inner_kind_of word =
    if bytes_eq word (codes "row") then Some Row else
    (if bytes_eq word (codes "head") then Some Head else
    (if bytes_eq word (codes "compare") then Some Compare else
    (if bytes_eq word (codes "kept") then Some Kept else
    (if bytes_eq word (codes "fold") then Some Fold else
    (if bytes_eq word (codes "sources") then Some Sources else
    (if bytes_eq word (codes "covered") then Some Covered else None))))))

-- what a line with these words is
unfoldable pub kind_in : List (List ℕ) → Option Kind
kind_in (one ∷ two ∷ word ∷ words) = if length one == 0 && length two == 0 then inner_kind_of word else outer_kind_of one
kind_in (one ∷ words) = outer_kind_of one
kind_in [] = None
