-- The row is looked for in its bucket alone. A new one goes behind all others and becomes the head of its bucket, so that each chain still goes through its bucket's rows.
use Rattle.std.proofs.Common.{◌≡◌, ◌≢◌, ◌<◌, ◌%◌, ◌++◌, ◌∷◌, [], List, ℕ, suc, length, get_or, set, take, Contains, sym, ap, subst, ◌∙◌, ⊎_elim, inl, inr, arith, length-append}
use Rattle.std.proofs.lemmas.Bool.{true≢false}
use Rattle.std.proofs.lemmas.List.{get_or_default}
use Rattle.std.proofs.lemmas.Nat.{mod_below}
use Rattle.std.proofs.lemmas.List.Elements.{Contains-push, Contains-push_cases}
use Rattle.su_reduce.specs.inside.Hashed.{IsHashed}
use Rattle.su_reduce.specs.Chains.{hash_of}
use Rattle.su_reduce.specs.Sheets.{pick, Rows}
use Rattle.su_reduce.proofs.HashedRows.{hashed_more}
use Rattle.su_reduce.proofs.distinct.Distinct.add.Goals as goal

pub invariant_of-self-2 : goal.invariant_of-self-2
invariant_of-self-2 c =
    let d = c.self.inside in
    let rows = d.rows.rows in
    let places = d.places.items in
    let heads = d.heads.items in
    let next = d.next.items in
    let row = c.args.row.now in
    let h = c.bucket-h.result in
    let is : h ≡ hash_of (pick places row) % length heads =
    c.bucket-h.ensures ∙ ap (λ ps. hash_of (pick ps row) % c.len.result) c.deref.ensures.value ∙ ap (λ n. hash_of (pick places row) % n) (c.len.ensures ∙ d.heads.ok.0) in
    let none : (j : ℕ) → j < length rows → get_or rows j [] ≢ row =
    λ j l e. true≢false (sym (c.is_among.ensures.1 (j, l, get_or_default rows j row [] l ∙ e)) ∙ c.if-is_among.false) in
    let hashed = hashed_more d.rows.width rows places heads next row h c.self.invariant is none in
    let low : h < length heads = subst (λ n. n < length heads) (sym is) (mod_below (hash_of (pick places row)) (length heads) c.self.invariant.some) in
    let head_is : c.index.result.now ≡ get_or heads h 0 = c.index.ensures ∙ get_or_default heads h c.index.result.now 0 low in
    let next_is : c.push.new.self.items ≡ take (length rows) next ++ get_or heads h 0 ∷ [] =
    c.in_ok-push.ensures.items ∙ ap (λ x. c.truncate.new.self.items ++ x ∷ []) head_is ∙ ap (λ xs. xs ++ get_or heads h 0 ∷ []) (c.truncate.ensures.items ∙ ap (λ n. take n next) c.len-2.ensures) in
    let rows_is : c.push-2.new.self ≡ record { width = d.rows.width; rows = rows ++ row ∷ [] } = λ i. record { width = c.in_ok-push-2.ensures.width i; rows = c.in_ok-push-2.ensures.ok i } in
    let longer = length-append rows (row ∷ []) in
    let all : length c.push-2.new.self.rows ≡ length (rows ++ row ∷ []) = ap length c.in_ok-push-2.ensures.ok in
    let counted = c.len-3.ensures in
    let count : c.len-3.result ≡ suc (length rows) = omega arith in
    subst (λ (r : Rows). IsHashed r places (set heads h c.len-3.result) c.push.new.self.items) (sym rows_is)
    (subst (λ (xs : List ℕ). IsHashed (record { width = d.rows.width; rows = rows ++ row ∷ [] }) places (set heads h c.len-3.result) xs) (sym next_is)
    (subst (λ n. IsHashed (record { width = d.rows.width; rows = rows ++ row ∷ [] }) places (set heads h n) (take (length rows) next ++ get_or heads h 0 ∷ [])) (sym count) hashed))

pub returns-clause-had : goal.returns-clause-had
returns-clause-had c = rw c.in_ok-push-2.ensures.ok (Contains-push c.self.inside.rows.rows c.args.row.now)

pub returns-clause-only : goal.returns-clause-only
returns-clause-only c = λ r h.
    let rows = c.self.inside.rows.rows in
    let row = c.args.row.now in
    ⊎_elim
    (λ (a : Contains rows r). inl (subst (λ (x : Rows). Contains x.rows r) (c.self.view_is ∙ c.in_ok-make_room.ensures) a))
    (λ (e : row ≡ r). inr e)
    (Contains-push_cases rows row r (subst (λ (xs : List (List ℕ)). Contains xs r) c.in_ok-push-2.ensures.ok h))
