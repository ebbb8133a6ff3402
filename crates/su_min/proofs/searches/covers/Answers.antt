-- A cover is alike and its head goes to the other head, so a pair that fails either is no cover; for the others a mapping of the kept rows decides.
use Rattle.std.proofs.Common.{◌∙◌, length, true≢false, sym, ap, subst, arith}
use Rattle.su_tableau.specs.Mapping.{images_of}
use Rattle.su_min.specs.Cover.{AreAlike}
use Rattle.su_min.proofs.Covers.{alike_heads}
use Rattle.su_min.proofs.searches.covers.Goals as goal

pub returns-then-not-are_alike : goal.returns-then-not-are_alike
returns-then-not-are_alike g c = record {
  tells = (
    λ no. absurd (true≢false (sym no)),
    λ k.
        let alike = subst (λ t. AreAlike c.tableau-from.result.now t) (sym c.tableau-to.ensures) (subst (λ s. AreAlike s c.args.other.now.tableau) (sym c.tableau-from.ensures) k.alike) in
        absurd (true≢false (sym (c.are_alike.ensures.1 alike) ∙ c.if-not-are_alike.true)),
  );
  room = c.requires.room;
}

pub heads_fit-requires : goal.heads_fit-requires
heads_fit-requires g c =
    let alike = c.are_alike.ensures.0 c.if-not-are_alike.false in
    let same = alike_heads c.tableau-from.result.now c.tableau-to.result.now c.keeps_its_rules.ensures.valid c.keeps_its_rules-2.ensures.valid alike in
    let from = ap length c.head.ensures in
    let to = ap length c.head-2.ensures in
    omega arith

pub returns-then-not-heads_fit : goal.returns-then-not-heads_fit
returns-then-not-heads_fit g c = record {
  tells = (
    λ no. absurd (true≢false (sym no)),
    λ k. absurd (c.heads_fit.ensures c.if-not-heads_fit.true k.maps.symbols
        (ap (images_of k.maps.symbols) (c.head.ensures ∙ ap (λ t. t.head) c.tableau-from.ensures) ∙ k.maps.head ∙ sym (c.head-2.ensures ∙ ap (λ t. t.head) c.tableau-to.ensures))),
  );
  room = c.requires.room;
}
