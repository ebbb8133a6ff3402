-- Only the members of a universal relation count: its answers, its kinds and what it meets.
use Rattle.std.proofs.Common.{◌≡◌, List, map, get_or, Contains}
use Rattle.std.proofs.lemmas.List.Elements.{All-contains, Contains-get_or}
use Rattle.su_base.specs.declared.values.Value.{Value}
use Rattle.su_base.specs.Value.{kind_of}
use Rattle.su_fd.specs.declared.dependencies.Fd.{Fd}
use Rattle.su_tableau.specs.Tableaux.{Tab}
use Rattle.su_tableau.specs.Valuations.{Ext}
use Rattle.su_tableau.specs.Kinds.{Kinds, IsUniverse}
use Rattle.su_fd.specs.MetDependencies.{Meets}

-- each member of u is one of w
abbrev pub Includes : List (List Value) → List (List Value) → Type 0
Includes w u = (x : List Value) → Contains u x → Contains w x

pub ext_included : (t : Tab) (u w : List (List Value)) (h : List Value) → Includes w u → Ext t u h → Ext t w h
ext_included t u w h i e = record { valuation = e.valuation; holds = λ k d low. i _ (e.holds k d low); gives = e.gives }

pub universe_included : (kinds : Kinds) (u w : List (List Value)) → Includes w u → IsUniverse kinds w → IsUniverse kinds u
universe_included kinds u w i is k d low = All-contains (λ row. map kind_of row ≡ kinds) w (get_or u k d) is (i _ (Contains-get_or u k d low))

pub meets_included : (fds : List Fd) (u w : List (List Value)) → Includes w u → Meets fds w → Meets fds u
meets_included fds u w i meets f x y of cx cy = meets f x y of (i x cx) (i y cy)
