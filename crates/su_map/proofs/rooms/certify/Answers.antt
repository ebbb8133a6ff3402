-- A mapping of the rows of one tableau into those of the other shows containment, and the certificate holds these tableaux and this list.
use Rattle.std.proofs.Common.{◌≡◌, sym, subst, rules}
use Rattle.su_tableau.specs.Parts.{part}
use Rattle.su_tableau.specs.Equivalent.{IsWithin}
use Rattle.su_map.specs.Lists.{Certified}
use Rattle.su_map.proofs.Containment.{mapping_within}
use Rattle.su_map.proofs.rooms.certify.Goals as goal

pub returns-clause-contains : goal.returns-clause-contains
returns-clause-contains c = λ kinds.
    let from = c.args.from.now in let m = c.args.from_mask in let to = c.args.to.now in let k = c.args.to_mask in
    let list = c.args.room.now.list in
    let is : c.new.result ≡ record { from = from; from_mask = m; to = to; to_mask = k; list = list } = search rules in
    subst (λ (c : Certified). IsWithin kinds (part c.to c.to_mask) (part c.from c.from_mask)) (sym is) (mapping_within kinds from to m k list c.requires)
