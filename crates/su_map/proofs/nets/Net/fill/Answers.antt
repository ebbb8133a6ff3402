-- The net is filled table by table: the targets of each row by itself, then those that agree where two rows share a variable; where rows share none, the tables of pairs say nothing.
use Rattle.std.proofs.Common.{◌≡◌, ◌∙◌, ◌≤◌, ◌<◌, ◌*◌, [], length, get_or, refl, sym, ap, subst, arith}
use Rattle.std.specs.Int.{bit_at}
use Rattle.std.specs.Vec.{with_items}
use Rattle.std.proofs.lemmas.List.{with_items_is}
use Rattle.su_tableau.specs.Tableaux.{AreVarsBelow}
use Rattle.su_map.specs.inside.Netted.{Netted, HasRoom}
use Rattle.su_map.specs.inside.Nets.{IsNet}
use Rattle.su_map.specs.inside.Sendings.{IsSending}
use Rattle.su_map.specs.inside.Targets.{AreNoted, AreAlike, IsTold}
use Rattle.su_map.proofs.Members.{no_member}
use Rattle.su_map.proofs.Ranks.{choice_by}
use Rattle.su_map.proofs.Roomy.{refill_length}
use Rattle.su_map.proofs.Sendings.{mapping_sends}
use Rattle.su_map.proofs.AgreementTable.{told_agrees}
use Rattle.su_map.proofs.nets.Net.fill.Goals as goal

pub returns-then-not-are_any-clause-net : goal.returns-then-not-are_any-clause-net
returns-then-not-are_any-clause-net c = λ yes.
    let from = c.args.from.now in let to = c.args.to.now in let m = c.args.from_mask in let k = c.args.to_mask in
    let base = c.fill_own.new.base in let near = c.fill_own.new.near in let agree = c.self.inside.agree.items in
    let base_is : (with_items c.self.inside.base base).items ≡ base = with_items_is c.self.inside.base base (c.fill_own.auto.base ∙ c.deref_mut.ensures.len) in
    let near_is : (with_items c.self.inside.near near).items ≡ near = with_items_is c.self.inside.near near (c.fill_own.auto.near ∙ c.deref_mut-2.ensures.len) in
    let room = subst (HasRoom (length from.rows)) (sym c.self.view_is) c.requires.room in
    let lb : length from.rows ≤ length base = let r = room.base in let e = ap length c.deref_mut.ensures.value in let a = c.fill_own.auto.base in omega arith in
    let ln : length from.rows ≤ length near = let r = room.near in let e = ap length c.deref_mut-2.ensures.value in let a = c.fill_own.auto.near in omega arith in
    let heads = c.fill_own.ensures.heads c.if-not-fill_own.false in
    let targets = c.row_count-self-inside.ensures.is in
    let net : Netted = record { base = base; near = near; agree = agree; targets = length to.rows } in
    let own : IsNet from m to k net = record {
      room = record { base = lb; near = ln; agree = room.agree };
      targets = refl;
      head_constants = heads.0;
      head_agrees = heads.1;
      base = c.fill_own.ensures.base c.if-not-fill_own.false;
      near = c.fill_own.ensures.near c.if-not-fill_own.false;
      agree = λ i q p hi hq oi oq ne has bp.
          let low : i < c.row_count.result = let e = c.row_count.ensures.is in omega arith in
          absurd (no_member (get_or near i 0) q (ap (λ xs. get_or xs i 0) (sym (c.deref.ensures.value ∙ near_is)) ∙ c.are_any.ensures c.if-not-are_any.true i low) has);
    } in
    subst (IsNet from m to k) (λ i. record { base = (sym base_is) i; near = (sym near_is) i; agree = agree; targets = (sym targets) i }) own

pub fill_pairs-requires-clause-sides : goal.fill_pairs-requires-clause-sides
fill_pairs-requires-clause-sides c =
    let from = c.args.from.now in let to = c.args.to.now in let m = c.args.from_mask in
    let rows_of = c.fill_own.new.rows_of in let alike = c.fill_alike.new.alike in let notes = c.args.notes.now in
    let rows_is : c.deref-2.result.now ≡ rows_of = c.deref-2.ensures.value ∙ with_items_is notes.rows_of rows_of (c.fill_own.auto.rows_of ∙ c.deref_mut-3.ensures.len) in
    let alike_is : c.deref-3.result.now ≡ alike = c.deref-3.ensures.value ∙ with_items_is notes.alike alike (c.fill_alike.auto.alike ∙ c.deref_mut-4.ensures.len) in
    record {
      symbols = subst (λ n. AreVarsBelow n from) (sym (ap length c.deref-2.ensures.value ∙ refill_length notes.rows_of rows_of)) c.requires.symbols;
      noted = subst (AreNoted from m) (sym rows_is) (c.fill_own.ensures.noted c.if-not-fill_own.false);
      width = c.requires.width;
      small = c.keeps_its_rules-2.ensures.small.rows;
      room = let r = c.requires.notes.alike in let e = ap length c.deref-3.ensures.value ∙ refill_length notes.alike alike in omega arith;
      alike = subst (AreAlike to) (sym alike_is) c.fill_alike.ensures;
    }

pub returns-clause-net : goal.returns-clause-net
returns-clause-net c = λ yes.
    let from = c.args.from.now in let to = c.args.to.now in let m = c.args.from_mask in let k = c.args.to_mask in
    let base = c.fill_own.new.base in let near = c.fill_own.new.near in let agree = c.fill_pairs.new.agree in
    let base_is : (with_items c.self.inside.base base).items ≡ base = with_items_is c.self.inside.base base (c.fill_own.auto.base ∙ c.deref_mut.ensures.len) in
    let near_is : (with_items c.self.inside.near near).items ≡ near = with_items_is c.self.inside.near near (c.fill_own.auto.near ∙ c.deref_mut-2.ensures.len) in
    let agree_is : (with_items c.self.inside.agree agree).items ≡ agree = with_items_is c.self.inside.agree agree (c.fill_pairs.auto.agree ∙ c.deref_mut-6.ensures.len) in
    let room = subst (HasRoom (length from.rows)) (sym c.self.view_is) c.requires.room in
    let lb : length from.rows ≤ length base = let r = room.base in let e = ap length c.deref_mut.ensures.value in let a = c.fill_own.auto.base in omega arith in
    let ln : length from.rows ≤ length near = let r = room.near in let e = ap length c.deref_mut-2.ensures.value in let a = c.fill_own.auto.near in omega arith in
    let la : length from.rows * 4096 ≤ length agree = let r = room.agree in let e = ap length c.deref_mut-6.ensures.value in let a = c.fill_pairs.auto.agree in omega arith in
    let heads = c.fill_own.ensures.heads c.if-not-fill_own.false in
    let targets = c.row_count-self-inside.ensures.is in
    let has = c.fill_own.ensures.base c.if-not-fill_own.false in
    let net : Netted = record { base = base; near = near; agree = agree; targets = length to.rows } in
    let own : IsNet from m to k net = record {
      room = record { base = lb; near = ln; agree = la };
      targets = refl;
      head_constants = heads.0;
      head_agrees = heads.1;
      base = has;
      near = c.fill_own.ensures.near c.if-not-fill_own.false;
      agree = λ i q p hi hq oi oq ne near_q bp.
          let r = (has i p hi oi).0 bp in
          let told = subst (λ xs. IsTold from to xs i q agree) (c.deref-4.ensures.value ∙ base_is) (c.fill_pairs.ensures.agree yes i q hi hq ne oi oq (ap (λ xs. bit_at (get_or xs i 0) q) (c.deref-5.ensures.value ∙ near_is) ∙ near_q)) in
          told_agrees from to base i q p agree (c.keeps_its_rules.ensures.valid.widths q [] hq ∙ c.requires.width) (λ j one. ((has q j hq oq).0 one).2) r.2 r.0 bp told;
    } in
    subst (IsNet from m to k) (λ i. record { base = (sym base_is) i; near = (sym near_is) i; agree = (sym agree_is) i; targets = (sym targets) i }) own

pub returns-clause-none : goal.returns-clause-none
returns-clause-none c = λ no' list f.
    let from = c.args.from.now in let to = c.args.to.now in let m = c.args.from_mask in let k = c.args.to_mask in
    let base = c.fill_own.new.base in
    let base_is : c.deref-4.result.now ≡ base = c.deref-4.ensures.value ∙ with_items_is c.self.inside.base base (c.fill_own.auto.base ∙ c.deref_mut.ensures.len) in
    c.fill_pairs.ensures.none no' (choice_by m list)
    (subst (λ xs. IsSending from m to xs (choice_by m list)) (sym base_is) (mapping_sends from m to k base list (c.fill_own.ensures.base c.if-not-fill_own.false) f))
