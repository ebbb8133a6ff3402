-- A query is read in one way, and why none is read.
use Rattle.std.proofs.Common.{◌≡◌, List, [], ◌∷◌, sym, ◌∙◌, subst, codes}
use Rattle.su_lex.specs.declared.signs.Sign.TheVariants as sign
use Rattle.su_lex.specs.declared.meaning.Symbol.{Symbol}
use Rattle.su_lex.specs.declared.meaning.Symbol.TheVariants.{Word, Sign}
use Rattle.su_lex.specs.Names.{Begins}
use Rattle.su_query.specs.declared.refs.Ref.{Ref as ARef}
use Rattle.su_query.specs.Refs.{NamedCond}
use Rattle.su_query.specs.declared.statements.Query.{Query as AQuery}
use Rattle.su_query.specs.inside.ReadItems.{Several, ReadsRef}
use Rattle.su_query.specs.inside.ReadConditions.{ReadsCond}
use Rattle.su_query.specs.inside.ReadQueries as g
use Rattle.su_query.specs.inside.ReadQueries.{ReadsWhere, ReadsQuery, ReadsEnclosed, PairForm, QueryForm}
use Rattle.su_query.proofs.Items.{SameItem, ref_unique}
use Rattle.su_query.proofs.Listed.{several_unique}
use Rattle.su_query.proofs.Unique.{same_cond}

-- ---- [ "where" cond ]

where_unique : (c d : NamedCond) (s r u : List Symbol) → ReadsWhere c s r → ReadsWhere d s u → SameItem c d r u
where_unique c d s r u (g.nothing _ _ _ e k none) (g.nothing _ _ _ e' k' none') = record { item = k ∙ sym k'; rest = sym e ∙ e' }
where_unique c d s r u (g.nothing _ _ _ e k none) (g.condition _ _ t _ e' h') = absurd (none (t, e'))
where_unique c d s r u (g.condition _ _ t _ e h) (g.nothing _ _ _ e' k' none) = absurd (none (t, e))
where_unique c d s r u (g.condition _ _ t _ e h) (g.condition _ _ t' _ e' h') =
    let at : t' ≡ t = cc in
    let p = same_cond c t r h d u (subst (λ (x : List Symbol). ReadsCond d x u) at h') in
    record { item = p.cond; rest = p.rest }

pub where_no_cond : (s t : List Symbol) → s ≡ Word (codes "where") ∷ t → ((d : NamedCond) (r : List Symbol) → ReadsCond d t r → ⊥) → (c : NamedCond) (r : List Symbol) → ReadsWhere c s r → ⊥
where_no_cond s t e bad c r (g.nothing _ _ _ e' k none) = none (t, e)
where_no_cond s t e bad c r (g.condition _ _ t' _ e' h) =
    let at : t' ≡ t = cc in
    bad c r (subst (λ (x : List Symbol). ReadsCond c x r) at h)

-- ---- a query

pub query_no_refs : (s a t : List Symbol) → s ≡ Word (codes "retrieve") ∷ a → a ≡ Sign sign.Open ∷ t → ((rs : List ARef) (r : List Symbol) → ¬ (Several ReadsRef rs t r)) → (q : AQuery) (r : List Symbol) → ReadsQuery q s r → ⊥
query_no_refs s a t e f bad q r h =
    let b = h.begins in
    let at : h.refs ≡ t = cc in
    bad q.outputs (Sign sign.Close ∷ h.rest) (subst (λ (x : List Symbol). Several ReadsRef q.outputs x (Sign sign.Close ∷ h.rest)) at h.reads)

query_left : (s a t u : List Symbol) (rs : List ARef) → s ≡ Word (codes "retrieve") ∷ a → a ≡ Sign sign.Open ∷ t → Several ReadsRef rs t u → (q : AQuery) (r : List Symbol) (h : ReadsQuery q s r) → u ≡ Sign sign.Close ∷ h.rest
query_left s a t u rs e f found q r h =
    let b = h.begins in
    let at : h.refs ≡ t = cc in
    (several_unique ReadsRef ref_unique rs q.outputs t u (Sign sign.Close ∷ h.rest) found (subst (λ (x : List Symbol). Several ReadsRef q.outputs x (Sign sign.Close ∷ h.rest)) at h.reads)).rest

pub query_no_close : (s a t u : List Symbol) (rs : List ARef) → s ≡ Word (codes "retrieve") ∷ a → a ≡ Sign sign.Open ∷ t → Several ReadsRef rs t u → ¬ (Begins (Sign sign.Close) u) → (q : AQuery) (r : List Symbol) → ReadsQuery q s r → ⊥
query_no_close s a t u rs e f found bad q r h = bad (h.rest, query_left s a t u rs e f found q r h)

pub query_no_where : (s a t u w : List Symbol) (rs : List ARef) → s ≡ Word (codes "retrieve") ∷ a → a ≡ Sign sign.Open ∷ t → Several ReadsRef rs t u → u ≡ Sign sign.Close ∷ w → ((c : NamedCond) (r : List Symbol) → ReadsWhere c w r → ⊥) → (q : AQuery) (r : List Symbol) → ReadsQuery q s r → ⊥
query_no_where s a t u w rs e f found c bad q r h =
    let l = query_left s a t u rs e f found q r h in
    let at : h.rest ≡ w = cc in
    bad q.cond r (subst (λ (x : List Symbol). ReadsWhere q.cond x r) at h.wanted)

pub query_unique : (p q : AQuery) (s r u : List Symbol) → ReadsQuery p s r → ReadsQuery q s u → SameItem p q r u
query_unique p q s r u h k =
    let a = h.begins in
    let b = k.begins in
    let at : k.refs ≡ h.refs = cc in
    let l = several_unique ReadsRef ref_unique p.outputs q.outputs h.refs (Sign sign.Close ∷ h.rest) (Sign sign.Close ∷ k.rest) h.reads
    (subst (λ (x : List Symbol). Several ReadsRef q.outputs x (Sign sign.Close ∷ k.rest)) at k.reads) in
    let m = l.rest in
    let rest : k.rest ≡ h.rest = cc in
    let w = where_unique p.cond q.cond h.rest r u h.wanted (subst (λ (x : List Symbol). ReadsWhere q.cond x u) rest k.wanted) in
    record { item = λ i. record { outputs = l.item i; cond = w.item i }; rest = w.rest }

pub query_no_end : (p : AQuery) (s u : List Symbol) → ReadsQuery p s u → ¬ (u ≡ []) → (q : AQuery) → QueryForm q s → ⊥
query_no_end p s u found bad q h = bad (query_unique p q s u [] found h).rest

-- ---- "(" query ")"

pub enclosed_no_query : (s t : List Symbol) → s ≡ Sign sign.Open ∷ t → ((q : AQuery) (r : List Symbol) → ReadsQuery q t r → ⊥) → (q : AQuery) (r : List Symbol) → ReadsEnclosed q s r → ⊥
enclosed_no_query s t e bad q r h =
    let b = h.begins in
    let at : h.rest ≡ t = cc in
    bad q (Sign sign.Close ∷ r) (subst (λ (x : List Symbol). ReadsQuery q x (Sign sign.Close ∷ r)) at h.reads)

pub enclosed_no_close : (p : AQuery) (s t u : List Symbol) → s ≡ Sign sign.Open ∷ t → ReadsQuery p t u → ¬ (Begins (Sign sign.Close) u) → (q : AQuery) (r : List Symbol) → ReadsEnclosed q s r → ⊥
enclosed_no_close p s t u e found bad q r h =
    let b = h.begins in
    let at : h.rest ≡ t = cc in
    bad (r, (query_unique p q t u (Sign sign.Close ∷ r) found (subst (λ (x : List Symbol). ReadsQuery q x (Sign sign.Close ∷ r)) at h.reads)).rest)

enclosed_unique : (p q : AQuery) (s r u : List Symbol) → ReadsEnclosed p s r → ReadsEnclosed q s u → SameItem p q r u
enclosed_unique p q s r u h k =
    let a = h.begins in
    let b = k.begins in
    let at : k.rest ≡ h.rest = cc in
    let l = query_unique p q h.rest (Sign sign.Close ∷ r) (Sign sign.Close ∷ u) h.reads (subst (λ (x : List Symbol). ReadsQuery q x (Sign sign.Close ∷ u)) at k.reads) in
    let m = l.rest in
    record { item = l.item; rest = cc }

-- ---- "(" query ")" "with" "(" query ")"

pub pair_no_with : (p : AQuery) (s u : List Symbol) → ReadsEnclosed p s u → ¬ (Begins (Word (codes "with")) u) → (first second : AQuery) → PairForm first second s → ⊥
pair_no_with p s u found bad first second h = bad (h.rest, (enclosed_unique p first s u (Word (codes "with") ∷ h.rest) found h.before).rest)

pair_left : (p : AQuery) (s u t : List Symbol) → ReadsEnclosed p s u → u ≡ Word (codes "with") ∷ t → (first second : AQuery) → PairForm first second s → ReadsEnclosed second t []
pair_left p s u t found e first second h =
    let l = (enclosed_unique p first s u (Word (codes "with") ∷ h.rest) found h.before).rest in
    let at : h.rest ≡ t = cc in
    subst (λ (x : List Symbol). ReadsEnclosed second x []) at h.behind

pub pair_no_second : (p : AQuery) (s u t : List Symbol) → ReadsEnclosed p s u → u ≡ Word (codes "with") ∷ t → ((q : AQuery) (r : List Symbol) → ReadsEnclosed q t r → ⊥) → (first second : AQuery) → PairForm first second s → ⊥
pair_no_second p s u t found e bad first second h = bad second [] (pair_left p s u t found e first second h)

pub pair_no_end : (p q : AQuery) (s u t v : List Symbol) → ReadsEnclosed p s u → u ≡ Word (codes "with") ∷ t → ReadsEnclosed q t v → ¬ (v ≡ []) → (first second : AQuery) → PairForm first second s → ⊥
pair_no_end p q s u t v found e behind bad first second h = bad (enclosed_unique q second t v [] behind (pair_left p s u t found e first second h)).rest

pub pair_unique : (p q first second : AQuery) (s : List Symbol) → PairForm p q s → PairForm first second s → (p ≡ first) × (q ≡ second)
pair_unique p q first second s h k =
    let l = enclosed_unique p first s (Word (codes "with") ∷ h.rest) (Word (codes "with") ∷ k.rest) h.before k.before in
    let m = l.rest in
    let at : k.rest ≡ h.rest = cc in
    (l.item, (enclosed_unique q second h.rest [] [] h.behind (subst (λ (x : List Symbol). ReadsEnclosed second x []) at k.behind)).item)
