-- Rows that a plan makes, and those that a join has.
use Rattle.std.proofs.Common.{◌≡◌, ◌++◌, ℕ, ◌<◌, Bool, true, List, [], length, get_or, sym, ap, ◌∙◌}
use Rattle.su_base.specs.declared.values.Value.{Value}
use Rattle.su_exec.specs.declared.joins.Plan.{Plan}
use Rattle.su_reduce.specs.Sheets.{pick}
use Rattle.su_exec.specs.inside.Joins.{Columns, Gives, Joined}
use Rattle.su_exec.specs.inside.Plans.{IsMade, columns_of, made_of, passes_of}

pub made_gives : (values : List Value) (plan : Plan) (row other r : List ℕ) (rs : List (List ℕ)) (j : ℕ) → j < length rs → other ≡ get_or rs j [] → IsMade values plan row other r → Gives row rs (columns_of plan) (passes_of values plan) r
made_gives values plan row other r rs j h e m = record {
  right = j;
  right_in = h;
  keys = m.keys ∙ ap (pick plan.right_key.items) e;
  passes = ap (passes_of values plan row) (sym e) ∙ m.passes;
  is = ap (made_of plan row) (sym e) ∙ m.is;
}

pub gives_made : (values : List Value) (plan : Plan) (row r : List ℕ) (rs : List (List ℕ)) (g : Gives row rs (columns_of plan) (passes_of values plan) r) → IsMade values plan row (get_or rs g.right []) r
gives_made values plan row r rs g = record { keys = g.keys; passes = g.passes; is = g.is }

-- where nothing of the right row is kept, all rows make one
pub one_row : (plan : Plan) (row other another : List ℕ) → plan.right_out.items ≡ [] → made_of plan row other ≡ made_of plan row another
one_row plan row other another e =
    ap (λ ps. pick plan.left_out.items row ++ pick ps other) e ∙ sym (ap (λ ps. pick plan.left_out.items row ++ pick ps another) e)

-- ---- rows given

pub pair_gives : (row other r : List ℕ) (rs : List (List ℕ)) (c : Columns) (t : List ℕ → List ℕ → Bool) (j : ℕ) → j < length rs → other ≡ get_or rs j [] → pick c.left_key row ≡ pick c.right_key other → t row other ≡ true → pick c.left_out row ++ pick c.right_out other ≡ r → Gives row rs c t r
pair_gives row other r rs c t j h e keys passes is = record { right = j; right_in = h; keys = keys ∙ ap (pick c.right_key) e; passes = ap (t row) (sym e) ∙ passes; is = ap (λ o. pick c.left_out row ++ pick c.right_out o) (sym e) ∙ is }

pub gives_joined : (ls rs : List (List ℕ)) (c : Columns) (t : List ℕ → List ℕ → Bool) (r row : List ℕ) (i : ℕ) → i < length ls → row ≡ get_or ls i [] → Gives row rs c t r → Joined ls rs c t r
gives_joined ls rs c t r row i h e g = record { left = i; right = g.right; left_in = h; right_in = g.right_in; keys = ap (pick c.left_key) (sym e) ∙ g.keys; passes = ap (λ o. t o (get_or rs g.right [])) (sym e) ∙ g.passes; is = ap (λ o. pick c.left_out o ++ pick c.right_out (get_or rs g.right [])) (sym e) ∙ g.is }

pub joined_gives : (ls rs : List (List ℕ)) (c : Columns) (t : List ℕ → List ℕ → Bool) (r : List ℕ) (j : Joined ls rs c t r) → Gives (get_or ls j.left []) rs c t r
joined_gives ls rs c t r j = record { right = j.right; right_in = j.right_in; keys = j.keys; passes = j.passes; is = j.is }
