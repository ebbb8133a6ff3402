-- One row is sent to each of its targets in turn: a choice goes on from one of them or from none, those before have been tried in full, and the room for deeper levels shrinks with the rows that are left.
use Rattle.std.proofs.Common.{◌≡◌, ◌≢◌, ◌⊎◌, ◌+◌, ◌*◌, ◌<◌, ◌≤◌, ℕ, Bool, length, length-set, set, sym, ap, ◌∙◌, subst, arith}
use Rattle.std.specs.Int.{bit_at}
use Rattle.su_map.specs.declared.search.Order.TheVariants.{Ascending}
use Rattle.su_map.specs.Lists.{numbers_of}
use Rattle.su_map.specs.inside.Netted.{HasRoom}
use Rattle.su_map.specs.inside.Choices.{IsChoice, AreSame, IsLess, choice_of, Stands, IsInOrder, AreKept, tries, ArePassed}
use Rattle.su_map.proofs.SearchCosts.{le_at, cost_later, cost_tried, cost_all}
use Rattle.su_map.proofs.Members.{without_in}
use Rattle.su_map.proofs.SearchStates.{without_less, room_next, room_enough, stays, stands_next, order_next, kept_deeper, first_step}
use Rattle.su_map.proofs.search.+search.Goals as goal
use Rattle.su_map.proofs.search.+search.Goals.{else-descend-via-then-descend+else-search, else-descend-via-else-descend}

pub split_at_mut-next-requires : goal.split_at_mut-next-requires
split_at_mut-next-requires g t c =
    let n = length c.args.domains.now in
    let net = c.args.aim.now.net.now in let m = c.args.aim.now.mask in let todo = c.args.todo in let rest = c.without-rest.result in let row = c.next_row-row.result in
    let one = c.next_row-row.ensures.member in
    let out = c.without-rest.ensures.out in
    let same = c.without-rest.ensures.same in
    let at = c.requires.stands.todo_in row one in
    room_enough n todo rest row (length c.loop-left.room) at.0 one out same (subst (λ k. length (numbers_of todo n) * n ≤ k) (sym c.loop-left.auto.room) c.requires.levels)

pub search-requires : goal.search-requires
search-requires g t c κs within =
    let n = length c.args.domains.now in
    let net = c.args.aim.now.net.now in let m = c.args.aim.now.mask in let todo = c.args.todo in let rest = c.without-rest.result in let row = c.next_row-row.result in
    let one = c.next_row-row.ensures.member in
    let out = c.without-rest.ensures.out in
    let same = c.without-rest.ensures.same in
    let at = c.requires.stands.todo_in row one in
    let target = c.lowest-target.result in let list = c.loop-left.choice in let old = c.args.choice.now in let domains = c.args.domains.now in
    let low : row < length list = let h = at.0 in omega arith in
    let kept = c.loop-left.invariant.kept in
    let next = c.descend.new.next in
    let len : length next ≡ n = omega (arith, c.descend.auto.next, c.split_at_mut-next.ensures.front_len) in
    let less = without_less todo rest row one out same in
    let shrinks = (c.descend.ensures.left c.if-descend.true).shrinks in
    let enough = subst (λ k. length (numbers_of todo n) * n ≤ k) (sym c.loop-left.auto.room) c.requires.levels in
    let fits_in = room_enough n todo rest row (length c.loop-left.room) at.0 one out same enough in
    let back : length c.loop-left.room ≡ n + length c.split_at_mut-next.result.1.now = omega (arith, c.split_at_mut-next.ensures.back_len, c.split_at_mut-next.ensures.front_len) in
    let more = room_next n todo rest row (length c.loop-left.room) (length c.split_at_mut-next.result.1.now) at.0 one out same enough back in
    let stands = stands_next net n m todo rest row target domains next list old out same one low kept c.requires.stands (c.loop-left.invariant.within target c.lowest-target.ensures.member) (c.descend.ensures.left c.if-descend.true) in
    (omega (arith, c.decreases), (within, (subst (λ k. HasRoom k net) (sym len) c.requires.room, (omega arith, (length-set list row target ∙ (let l : length list ≡ length next = omega arith in l), (subst (λ k. length (numbers_of rest k) * k ≤ length c.split_at_mut-next.result.1.now) (sym len) more, (λ q h. let l = c.requires.mask q h in omega arith, (subst (λ k. Stands net k m rest next (choice_of (set list row target))) (sym len) stands, (λ asc. subst (λ k. IsInOrder k m rest) (sym len) (order_next net n m todo rest row target domains next list old out same one low kept (c.next_row-row.ensures.least asc) (c.requires.in_order asc)), λ r x hr br h. let hn : r < n = omega arith in c.requires.targets r x hn br (shrinks r x hn h))))))))))

pub returns-then-search-clause-kept : goal.returns-then-search-clause-kept
returns-then-search-clause-kept g t c =
    let n = length c.args.domains.now in
    let net = c.args.aim.now.net.now in let m = c.args.aim.now.mask in let todo = c.args.todo in let rest = c.without-rest.result in let row = c.next_row-row.result in
    let one = c.next_row-row.ensures.member in
    let out = c.without-rest.ensures.out in
    let same = c.without-rest.ensures.same in
    let at = c.requires.stands.todo_in row one in
    let target = c.lowest-target.result in let list = c.loop-left.choice in let old = c.args.choice.now in let domains = c.args.domains.now in
    let low : row < length list = let h = at.0 in omega arith in
    let kept = c.loop-left.invariant.kept in
    let next = c.descend.new.next in
    let len : length next ≡ n = omega (arith, c.descend.auto.next, c.split_at_mut-next.ensures.front_len) in
    kept_deeper net n m todo rest row target domains next list old out same one low kept c.search.new.choice (subst (λ k. AreKept k m rest (choice_of (set list row target)) (choice_of c.search.new.choice)) len c.search.ensures.kept)

pub returns-then-search-clause-found : goal.returns-then-search-clause-found
returns-then-search-clause-found g t c = λ yes.
    let n = length c.args.domains.now in
    let net = c.args.aim.now.net.now in let m = c.args.aim.now.mask in
    let next = c.descend.new.next in
    let len : length next ≡ n = omega (arith, c.descend.auto.next, c.split_at_mut-next.ensures.front_len) in
    let shrinks = (c.descend.ensures.left c.if-descend.true).shrinks in
    let found : IsChoice net n m next (choice_of c.search.new.choice) = subst (λ k. IsChoice net k m next (choice_of c.search.new.choice)) len (c.search.ensures.found c.if-search.true) in
    record { within = λ r hr br. shrinks r (choice_of c.search.new.choice r) hr (found.within r hr br); fit = found.fit }

pub returns-then-search-clause-first : goal.returns-then-search-clause-first
returns-then-search-clause-first g t c = λ yes asc.
    let n = length c.args.domains.now in
    let net = c.args.aim.now.net.now in let m = c.args.aim.now.mask in let todo = c.args.todo in let rest = c.without-rest.result in let row = c.next_row-row.result in
    let one = c.next_row-row.ensures.member in
    let out = c.without-rest.ensures.out in
    let same = c.without-rest.ensures.same in
    let at = c.requires.stands.todo_in row one in
    let target = c.lowest-target.result in let list = c.loop-left.choice in let old = c.args.choice.now in let domains = c.args.domains.now in
    let low : row < length list = let h = at.0 in omega arith in
    let kept = c.loop-left.invariant.kept in
    let next = c.descend.new.next in
    let len : length next ≡ n = omega (arith, c.descend.auto.next, c.split_at_mut-next.ensures.front_len) in
    let new = c.search.new.choice in
    let deeper = λ (other : ℕ → ℕ) (ch : IsChoice net n m domains other) (e : other row ≡ target).
    subst (λ k. AreSame k m other (choice_of new) ⊎ IsLess k m (choice_of new) other) len (c.search.ensures.first c.if-search.true asc other (subst (λ k. IsChoice net k m next other) (sym len) ((c.descend.ensures.left c.if-descend.true).all other ch e))) in
    first_step net n m todo rest row target domains next list old out same one low kept new at.0 at.1 c.requires.stands (c.next_row-row.ensures.least asc) (subst (λ k. AreKept k m rest (choice_of (set list row target)) (choice_of new)) len c.search.ensures.kept) deeper (λ other ch. c.lowest-target.ensures.least (other row) (c.loop-left.invariant.passed other ch))

pub returns-then-search-clause-cost : goal.returns-then-search-clause-cost
returns-then-search-clause-cost g t c = λ passes all asc.
    let n = length c.args.domains.now in
    let net = c.args.aim.now.net.now in let m = c.args.aim.now.mask in let todo = c.args.todo in let rest = c.without-rest.result in let row = c.next_row-row.result in
    let one = c.next_row-row.ensures.member in
    let out = c.without-rest.ensures.out in
    let same = c.without-rest.ensures.same in
    let at = c.requires.stands.todo_in row one in
    let target = c.lowest-target.result in let list = c.loop-left.choice in let old = c.args.choice.now in let domains = c.args.domains.now in
    let low : row < length list = let h = at.0 in omega arith in
    let kept = c.loop-left.invariant.kept in
    let next = c.descend.new.next in
    let len : length next ≡ n = omega (arith, c.descend.auto.next, c.split_at_mut-next.ensures.front_len) in
    let targets = net.targets in
    let new = c.search.new.steps in
    let shrinks = (c.descend.ensures.left c.if-descend.true).shrinks in
    let fewer : ArePassed next n m passes = λ r x hr br h. all r x hr br (shrinks r x hr h) in
    let rec = subst (λ k. new ≤ c.tick.new.self + tries passes targets k rest) len (c.search.ensures.cost passes (subst (λ k. ArePassed next k m passes) (sym len) fewer) asc) in
    let call : new ≤ c.loop-left.steps + 1 + tries passes targets n rest = let one = c.tick.ensures in omega arith in
    let in_domain = c.loop-left.invariant.within target c.lowest-target.ensures.member in
    let pass = all row target at.0 at.1 in_domain in
    let below = c.requires.targets row target at.0 at.1 in_domain in
    let before = cost_later (passes row) c.loop-left.invariant.past target c.args.steps.now c.loop-left.steps (tries passes targets n rest) (c.loop-left.invariant.later target c.lowest-target.ensures.member) (c.loop-left.invariant.cost passes all asc) in
    cost_all passes targets n todo rest row (target + 1) c.args.steps.now new (omega (arith, below)) at.0 one out same (c.next_row-row.ensures.least asc)
    (cost_tried (passes row) target c.args.steps.now c.loop-left.steps new (tries passes targets n rest) pass before call)

pub returns-clause-cost : goal.returns-clause-cost
returns-clause-cost g t c = λ passes all asc.
    let n = length c.args.domains.now in
    let net = c.args.aim.now.net.now in let m = c.args.aim.now.mask in let todo = c.args.todo in let rest = c.without-rest.result in let row = c.next_row-row.result in
    let one = c.next_row-row.ensures.member in
    let out = c.without-rest.ensures.out in
    let same = c.without-rest.ensures.same in
    let at = c.requires.stands.todo_in row one in
    cost_all passes net.targets n todo rest row c.loop-left.invariant.past c.args.steps.now c.loop-left.steps c.loop-left.invariant.few at.0 one out same (c.next_row-row.ensures.least asc) (c.loop-left.invariant.cost passes all asc)

pub loop-left-smaller : goal.loop-left-smaller
loop-left-smaller g t c = without_less c.loop-left.left c.without-later.result c.lowest-target.result c.lowest-target.ensures.member c.without-later.ensures.out c.without-later.ensures.same

pub loop-left-preserved : goal.loop-left-preserved
loop-left-preserved g t c =
    let n = length c.args.domains.now in
    let net = c.args.aim.now.net.now in let m = c.args.aim.now.mask in let todo = c.args.todo in let rest = c.without-rest.result in let row = c.next_row-row.result in
    let one = c.next_row-row.ensures.member in
    let out = c.without-rest.ensures.out in
    let same = c.without-rest.ensures.same in
    let at = c.requires.stands.todo_in row one in
    let target = c.lowest-target.result in let list = c.loop-left.choice in let old = c.args.choice.now in let domains = c.args.domains.now in
    let left = c.loop-left.left in let fewer = c.without-later.result in
    let low : row < length list = let h = at.0 in omega arith in
    let i = c.loop-left.invariant in
    let kept = i.kept in
    let targets = net.targets in
    let start = c.args.steps.now in let now = c.loop-left.steps in
    let in_domain = i.within target c.lowest-target.ensures.member in
    let below = c.requires.targets row target at.0 at.1 in_domain in
    let few : target + 1 ≤ targets = omega (arith, below) in
    let was_left : (x : ℕ) → bit_at fewer x ≡ 1 → bit_at left x ≡ 1 = λ x h. without_in left fewer target x c.without-later.ensures.same c.without-later.ensures.out h in
    let later : (x : ℕ) → bit_at fewer x ≡ 1 → target + 1 ≤ x = λ x h.
    let l = c.lowest-target.ensures.least x (was_left x h) in
    let ne : x ≢ target = λ e. absurd (let z = ap (bit_at fewer) e ∙ c.without-later.ensures.out in omega arith) in
    omega (arith, l, ne) in
    let still = λ (other : ℕ → ℕ) (ch : IsChoice net n m domains other) (ne : other row ≢ target). c.without-later.ensures.same (other row) ne ∙ i.passed other ch in
    let before = λ (passes : ℕ → ℕ → Bool) (all : ArePassed domains n m passes) (asc : c.args.aim.now.order ≡ Ascending). cost_later (passes row) i.past target start now (tries passes targets n rest) (i.later target c.lowest-target.ensures.member) (i.cost passes all asc) in
    let next = c.descend.new.next in
    let len : length next ≡ n = omega (arith, c.descend.auto.next, c.split_at_mut-next.ensures.front_len) in
    let pass = λ (passes : ℕ → ℕ → Bool) (all : ArePassed domains n m passes). all row target at.0 at.1 in_domain in
    elim c.else-descend.branch [
      | else-descend-via-then-descend+else-search w ↦ record {
        kept = λ r hr br z. ap (λ l. choice_of l r) w.choice-is ∙ kept_deeper net n m todo rest row target domains next list old out same one low kept w.search.new.choice (subst (λ k. AreKept k m rest (choice_of (set list row target)) (choice_of w.search.new.choice)) len w.search.ensures.kept) r hr br z;
        within = λ x h. i.within x (was_left x h);
        passed = λ other ch. still other ch (λ e. w.search.ensures.none w.if-search.false other (subst (λ k. IsChoice net k m next other) (sym len) ((c.descend.ensures.left w.if-descend.true).all other ch e)));
        past = target + 1;
        few = few;
        later = later;
        cost = λ passes all asc.
            let new = w.search.new.steps in
            let shrinks = (c.descend.ensures.left w.if-descend.true).shrinks in
            let fewer : ArePassed next n m passes = λ r x hr br h. all r x hr br (shrinks r x hr h) in
            let rec = subst (λ k. new ≤ c.tick.new.self + tries passes targets k rest) len (w.search.ensures.cost passes (subst (λ k. ArePassed next k m passes) (sym len) fewer) asc) in
            let call : new ≤ now + 1 + tries passes targets n rest = let one = c.tick.ensures in omega arith in
            le_at _ _ _ w.steps-is (cost_tried (passes row) target start now new (tries passes targets n rest) (pass passes all) (before passes all asc) call);
      }
      | else-descend-via-else-descend w ↦ record {
        kept = λ r hr br z. ap (λ l. choice_of l r) w.choice-is ∙ stays net n m todo rest row target domains next list old out same one low kept r hr br z;
        within = λ x h. i.within x (was_left x h);
        passed = λ other ch. still other ch (λ e. c.descend.ensures.none w.if-descend.false other ch e);
        past = target + 1;
        few = few;
        later = later;
        cost = λ passes all asc.
            let call : c.tick.new.self ≤ now + 1 + tries passes targets n rest = let one = c.tick.ensures in omega arith in
            le_at _ _ _ w.steps-is (cost_tried (passes row) target start now c.tick.new.self (tries passes targets n rest) (pass passes all) (before passes all asc) call);
      }
    ]
