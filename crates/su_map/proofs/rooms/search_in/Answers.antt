-- The room's parts are as long as the rows need, and a choice of targets over its net is a mapping of the tableau, and the first choice the first mapping.
use Rattle.std.proofs.Common.{◌<◌, ◌≤◌, ◌+◌, ◌∙◌, ℕ, length, take, sym, ap, subst, arith}
use Rattle.std.proofs.lemmas.List.{with_items_is}
use Rattle.su_map.specs.Lists.{IsMapping, IsFirst}
use Rattle.su_map.specs.inside.Netted.{HasRoom}
use Rattle.su_map.specs.inside.Nets.{IsNetFor}
use Rattle.su_map.specs.Rooms.{Space}
use Rattle.su_map.specs.inside.Choices.{IsFound, IsFirstOf, IsChoiceInto, ArePassedInto, tries}
use Rattle.su_map.proofs.FoundMappings.{AreLike, found_mapping, found_first, none_mapping, within_products, net_targets}
use Rattle.su_map.proofs.Prepared.{net_of}
use Rattle.su_map.proofs.Roomy.{refill_length, rows_enough, sound_same}
use Rattle.su_map.proofs.rooms.search_in.Goals as goal

pub settle-requires-clause-net : goal.settle-requires-clause-net
settle-requires-clause-net g c =
    let from = c.args.from.now in let to = c.args.to.now in let m = c.args.from_mask in let k = c.args.to_mask in
    let net = c.room.inside.net in let is = c.row_count.ensures.is in
    let for : IsNetFor from m to k net = subst (IsNetFor from m to k) (sym (ap (λ (s : Space). s.net) c.room.view_is)) (net_of from m to k c.args.room.now c.requires.prepared) in
    subst (λ n. HasRoom n net) (sym is) for.is_net.room

pub settle-requires-clause-targets : goal.settle-requires-clause-targets
settle-requires-clause-targets g c =
    let from = c.args.from.now in let to = c.args.to.now in let m = c.args.from_mask in let k = c.args.to_mask in
    let net = c.room.inside.net in let is = c.row_count.ensures.is in
    let for : IsNetFor from m to k net = subst (IsNetFor from m to k) (sym (ap (λ (s : Space). s.net) c.room.view_is)) (net_of from m to k c.args.room.now c.requires.prepared) in
    λ r x hr br h. net_targets from to m k net for r x (subst (λ n. r < n) is hr) br h

pub settle-requires-clause-domains : goal.settle-requires-clause-domains
settle-requires-clause-domains g c =
    let n = c.row_count.result in
    let rows_in : n ≤ c.room.inside.rows = let v = ap (λ (s : Space). s.rows) c.room.view_is in let r = c.requires.room.rows in let is = c.row_count.ensures.is in omega arith in
    let enough = rows_enough _ _ _ _ _ _ _ _ n c.room.invariant rows_in c.row_count.ensures.small in
    let d = enough.1 in let e = ap length c.deref_mut.ensures.value in omega arith

pub settle-requires-clause-choice : goal.settle-requires-clause-choice
settle-requires-clause-choice g c =
    let n = c.row_count.result in
    let rows_in : n ≤ c.room.inside.rows = let v = ap (λ (s : Space). s.rows) c.room.view_is in let r = c.requires.room.rows in let is = c.row_count.ensures.is in omega arith in
    let enough = rows_enough _ _ _ _ _ _ _ _ n c.room.invariant rows_in c.row_count.ensures.small in
    let d = enough.2 in let e = ap length c.deref_mut-3.ensures.value in omega arith

pub settle-requires-clause-list : goal.settle-requires-clause-list
settle-requires-clause-list g c =
    let n = c.row_count.result in
    let rows_in : n ≤ c.room.inside.rows = let v = ap (λ (s : Space). s.rows) c.room.view_is in let r = c.requires.room.rows in let is = c.row_count.ensures.is in omega arith in
    let enough = rows_enough _ _ _ _ _ _ _ _ n c.room.invariant rows_in c.row_count.ensures.small in
    let d = enough.0 in let e = ap length c.deref_mut-4.ensures.value in omega arith

pub settle-requires-clause-levels : goal.settle-requires-clause-levels
settle-requires-clause-levels g c =
    let n = c.row_count.result in
    let rows_in : n ≤ c.room.inside.rows = let v = ap (λ (s : Space). s.rows) c.room.view_is in let r = c.requires.room.rows in let is = c.row_count.ensures.is in omega arith in
    let enough = rows_enough _ _ _ _ _ _ _ _ n c.room.invariant rows_in c.row_count.ensures.small in
    let l = enough.3 in let e = ap length c.deref_mut-2.ensures.value in omega arith

pub invariant_of-room : goal.invariant_of-room
invariant_of-room g c =
    let inside = c.room.inside in
    sound_same inside.net inside.notes inside.rows (length inside.list.items) _ (length inside.domains.items) _ (length inside.levels.items) _ (length inside.choice.items) _ inside.count inside.count c.room.invariant
    (refill_length inside.list c.settle.new.list) (refill_length inside.domains c.settle.new.domains) (refill_length inside.levels c.settle.new.levels) (refill_length inside.choice c.settle.new.choice)
    c.room.invariant.count_in

pub invariant_of-room-2 : goal.invariant_of-room-2
invariant_of-room-2 g c =
    let n = c.row_count.result in
    let rows_in : n ≤ c.room.inside.rows = let v = ap (λ (s : Space). s.rows) c.room.view_is in let r = c.requires.room.rows in let is = c.row_count.ensures.is in omega arith in
    let enough = rows_enough _ _ _ _ _ _ _ _ n c.room.invariant rows_in c.row_count.ensures.small in
    let inside = c.room.inside in
    sound_same inside.net inside.notes inside.rows (length inside.list.items) _ (length inside.domains.items) _ (length inside.levels.items) _ (length inside.choice.items) _ inside.count c.in-Some.count c.room.invariant
    (refill_length inside.list c.settle.new.list) (refill_length inside.domains c.settle.new.domains) (refill_length inside.levels c.settle.new.levels) (refill_length inside.choice c.settle.new.choice)
    (let w = c.in-Some.ensures.within in let d = enough.0 in omega arith)

pub returns-clause-found : goal.returns-clause-found
returns-clause-found g c =
    let from = c.args.from.now in let to = c.args.to.now in let m = c.args.from_mask in let k = c.args.to_mask in
    let net = c.room.inside.net in let is = c.row_count.ensures.is in
    let for : IsNetFor from m to k net = subst (IsNetFor from m to k) (sym (ap (λ (s : Space). s.net) c.room.view_is)) (net_of from m to k c.args.room.now c.requires.prepared) in
    let like : AreLike from to = record { heads = c.requires.heads; width = c.requires.width; from_widths = c.keeps_its_rules.ensures.valid.widths; to_widths = c.keeps_its_rules-2.ensures.valid.widths } in
    let count = c.in-Some.count in
    let whole = with_items_is c.room.inside.list c.settle.new.list (c.settle.auto.list ∙ c.deref_mut-4.ensures.len) in
    let list = take count c.settle.new.list in
    λ _. subst (λ l. IsMapping from m to k (take count l)) (sym whole) (found_mapping from to m k net list for like (subst (λ n. IsFound net n m k list) is c.in-Some.ensures.found))

pub returns-clause-first : goal.returns-clause-first
returns-clause-first g c =
    let from = c.args.from.now in let to = c.args.to.now in let m = c.args.from_mask in let k = c.args.to_mask in
    let net = c.room.inside.net in let is = c.row_count.ensures.is in
    let for : IsNetFor from m to k net = subst (IsNetFor from m to k) (sym (ap (λ (s : Space). s.net) c.room.view_is)) (net_of from m to k c.args.room.now c.requires.prepared) in
    let like : AreLike from to = record { heads = c.requires.heads; width = c.requires.width; from_widths = c.keeps_its_rules.ensures.valid.widths; to_widths = c.keeps_its_rules-2.ensures.valid.widths } in
    let count = c.in-Some.count in
    let whole = with_items_is c.room.inside.list c.settle.new.list (c.settle.auto.list ∙ c.deref_mut-4.ensures.len) in
    let list = take count c.settle.new.list in
    λ _ asc. subst (λ l. IsFirst from m to k (take count l)) (sym whole) (found_first from to m k net list for like (subst (λ n. IsFound net n m k list) is c.in-Some.ensures.found) (subst (λ n. IsFirstOf net n m k list) is (c.in-Some.ensures.first asc)))

pub returns-in_default-clause-none : goal.returns-in_default-clause-none
returns-in_default-clause-none g c =
    let from = c.args.from.now in let to = c.args.to.now in let m = c.args.from_mask in let k = c.args.to_mask in
    let net = c.room.inside.net in let is = c.row_count.ensures.is in
    let for : IsNetFor from m to k net = subst (IsNetFor from m to k) (sym (ap (λ (s : Space). s.net) c.room.view_is)) (net_of from m to k c.args.room.now c.requires.prepared) in
    λ _. none_mapping from to m k net for (subst (λ n. (other : ℕ → ℕ) → IsChoiceInto net n m k other → ⊥) is (c.settle.ensures.none c.in_default.is))

pub returns-clause-cost : goal.returns-clause-cost
returns-clause-cost g c =
    let from = c.args.from.now in let to = c.args.to.now in let m = c.args.from_mask in let k = c.args.to_mask in
    let net = c.room.inside.net in let is = c.row_count.ensures.is in
    let for : IsNetFor from m to k net = subst (IsNetFor from m to k) (sym (ap (λ (s : Space). s.net) c.room.view_is)) (net_of from m to k c.args.room.now c.requires.prepared) in
    λ asc. within_products from to m k net c.args.steps.now c.settle.new.steps for
    (λ passes all. subst (λ n. c.settle.new.steps ≤ c.args.steps.now + tries passes net.targets n m) is (c.settle.ensures.cost passes (subst (λ n. ArePassedInto net n m k passes) (sym is) all) asc))

pub returns-in_default-clause-cost : goal.returns-in_default-clause-cost
returns-in_default-clause-cost g c =
    let from = c.args.from.now in let to = c.args.to.now in let m = c.args.from_mask in let k = c.args.to_mask in
    let net = c.room.inside.net in let is = c.row_count.ensures.is in
    let for : IsNetFor from m to k net = subst (IsNetFor from m to k) (sym (ap (λ (s : Space). s.net) c.room.view_is)) (net_of from m to k c.args.room.now c.requires.prepared) in
    λ asc. within_products from to m k net c.args.steps.now c.settle.new.steps for
    (λ passes all. subst (λ n. c.settle.new.steps ≤ c.args.steps.now + tries passes net.targets n m) is (c.settle.ensures.cost passes (subst (λ n. ArePassedInto net n m k passes) (sym is) all) asc))
