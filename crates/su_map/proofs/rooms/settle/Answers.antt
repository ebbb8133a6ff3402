-- The choices into the masked targets are those from the domains that are begun and narrowed, over as many rows as there are: what the search finds there, first or none, is what there is at all.
use Rattle.std.proofs.Common.{◌≡◌, ◌*◌, ◌<◌, ◌≤◌, ◌∙◌, length, map, take, sym, ap, subst, arith}
use Rattle.std.proofs.lemmas.List.{length-take-le}
use Rattle.su_map.specs.Lists.{numbers_of}
use Rattle.su_map.specs.inside.Netted.{HasRoom}
use Rattle.su_map.specs.inside.Choices.{IsChoice, Stands, choice_of}
use Rattle.su_map.specs.inside.SearchEnds.{AreAtStart, LacksTarget}
use Rattle.su_map.proofs.Members.{full_member}
use Rattle.su_map.proofs.SearchStart.{AreBoth, IsNarrowed, both_rows, into_choice, none_begun, stands_start, levels_enough, narrowed, narrowed_into, narrowed_first, narrowed_tries}
use Rattle.su_map.proofs.rooms.settle.Goals as goal

pub begin-requires-clause-room : goal.begin-requires-clause-room
begin-requires-clause-room g c =
    let n = c.args.aim.now.rows in
    let cut : length (take n c.args.domains.now) ≡ n = length-take-le n c.args.domains.now c.requires.domains in
    subst (λ d. HasRoom d c.args.aim.now.net.now) (sym cut) c.requires.net

pub begin-requires-clause-rows : goal.begin-requires-clause-rows
begin-requires-clause-rows g c =
    let n = c.args.aim.now.rows in
    let cut : length (take n c.args.domains.now) ≡ n = length-take-le n c.args.domains.now c.requires.domains in
    let few = c.requires.rows in omega arith

pub propagate-requires-clause-room : goal.propagate-requires-clause-room
propagate-requires-clause-room g c =
    let n = c.args.aim.now.rows in
    let cut : length (take n c.args.domains.now) ≡ n = length-take-le n c.args.domains.now c.requires.domains in
    let e : length c.begin.new.domains ≡ n = c.begin.auto.domains ∙ cut in
    subst (λ d. HasRoom d c.args.aim.now.net.now) (sym e) c.requires.net

pub propagate-requires-clause-rows : goal.propagate-requires-clause-rows
propagate-requires-clause-rows g c =
    let n = c.args.aim.now.rows in
    let cut : length (take n c.args.domains.now) ≡ n = length-take-le n c.args.domains.now c.requires.domains in
    let e : length c.begin.new.domains ≡ n = c.begin.auto.domains ∙ cut in
    let few = c.requires.rows in omega arith

pub propagate-requires-clause-mask : goal.propagate-requires-clause-mask
propagate-requires-clause-mask g c =
    let aim = c.args.aim.now in let net = aim.net.now in let n = aim.rows in let k = c.args.to_mask in let rows = c.both-rows.result in
    let cut : length (take n c.args.domains.now) ≡ n = length-take-le n c.args.domains.now c.requires.domains in
    let both : AreBoth n aim.mask rows = both_rows n aim.mask c.full.result rows (λ j. full_member c.full.result n j c.full.ensures) c.both-rows.ensures in
    let e : length c.begin.new.domains ≡ n = c.begin.auto.domains ∙ cut in
    λ q h. let l = ((both q).0 h).1 in omega arith

pub search-requires-clause-room : goal.search-requires-clause-room
search-requires-clause-room g c =
    let n = c.args.aim.now.rows in
    let cut : length (take n c.args.domains.now) ≡ n = length-take-le n c.args.domains.now c.requires.domains in
    let now = c.propagate.new.domains in
    let f : length now ≡ n = c.propagate.auto.domains ∙ c.begin.auto.domains ∙ cut in
    subst (λ d. HasRoom d c.args.aim.now.net.now) (sym f) c.requires.net

pub search-requires-clause-rows : goal.search-requires-clause-rows
search-requires-clause-rows g c =
    let n = c.args.aim.now.rows in
    let cut : length (take n c.args.domains.now) ≡ n = length-take-le n c.args.domains.now c.requires.domains in
    let now = c.propagate.new.domains in
    let f : length now ≡ n = c.propagate.auto.domains ∙ c.begin.auto.domains ∙ cut in
    let few = c.requires.rows in omega arith

pub search-requires-clause-choice : goal.search-requires-clause-choice
search-requires-clause-choice g c =
    let n = c.args.aim.now.rows in
    let cut : length (take n c.args.domains.now) ≡ n = length-take-le n c.args.domains.now c.requires.domains in
    let now = c.propagate.new.domains in
    let f : length now ≡ n = c.propagate.auto.domains ∙ c.begin.auto.domains ∙ cut in
    length-take-le n c.args.choice.now c.requires.choice ∙ sym f

pub search-requires-clause-levels : goal.search-requires-clause-levels
search-requires-clause-levels g c =
    let aim = c.args.aim.now in let net = aim.net.now in let n = aim.rows in let k = c.args.to_mask in let rows = c.both-rows.result in
    let cut : length (take n c.args.domains.now) ≡ n = length-take-le n c.args.domains.now c.requires.domains in
    let now = c.propagate.new.domains in
    let f : length now ≡ n = c.propagate.auto.domains ∙ c.begin.auto.domains ∙ cut in
    subst (λ d. length (numbers_of rows d) * d ≤ length c.args.levels.now) (sym f) (levels_enough rows n (length c.args.levels.now) c.requires.levels)

pub search-requires-clause-mask : goal.search-requires-clause-mask
search-requires-clause-mask g c =
    let aim = c.args.aim.now in let net = aim.net.now in let n = aim.rows in let k = c.args.to_mask in let rows = c.both-rows.result in
    let cut : length (take n c.args.domains.now) ≡ n = length-take-le n c.args.domains.now c.requires.domains in
    let both : AreBoth n aim.mask rows = both_rows n aim.mask c.full.result rows (λ j. full_member c.full.result n j c.full.ensures) c.both-rows.ensures in
    let now = c.propagate.new.domains in
    let f : length now ≡ n = c.propagate.auto.domains ∙ c.begin.auto.domains ∙ cut in
    λ q h. let l = ((both q).0 h).1 in omega arith

pub search-requires-clause-stands : goal.search-requires-clause-stands
search-requires-clause-stands g c =
    let aim = c.args.aim.now in let net = aim.net.now in let n = aim.rows in let k = c.args.to_mask in let rows = c.both-rows.result in
    let cut : length (take n c.args.domains.now) ≡ n = length-take-le n c.args.domains.now c.requires.domains in
    let both : AreBoth n aim.mask rows = both_rows n aim.mask c.full.result rows (λ j. full_member c.full.result n j c.full.ensures) c.both-rows.ensures in
    let now = c.propagate.new.domains in
    let f : length now ≡ n = c.propagate.auto.domains ∙ c.begin.auto.domains ∙ cut in
    let choice = choice_of (take n c.args.choice.now) in
    subst (λ d. Stands net d rows rows now choice) (sym f) (stands_start net n aim.mask rows now choice both)

pub search-requires-clause-targets : goal.search-requires-clause-targets
search-requires-clause-targets g c =
    let aim = c.args.aim.now in let net = aim.net.now in let n = aim.rows in let k = c.args.to_mask in let rows = c.both-rows.result in
    let cut : length (take n c.args.domains.now) ≡ n = length-take-le n c.args.domains.now c.requires.domains in
    let both : AreBoth n aim.mask rows = both_rows n aim.mask c.full.result rows (λ j. full_member c.full.result n j c.full.ensures) c.both-rows.ensures in
    let now = c.propagate.new.domains in
    let f : length now ≡ n = c.propagate.auto.domains ∙ c.begin.auto.domains ∙ cut in
    let is : IsNarrowed net n aim.mask rows k now =
    narrowed net n aim.mask rows k (take n c.args.domains.now) c.begin.new.domains now cut c.begin.auto.domains both (c.begin.ensures.domains c.if-not-begin.false) c.propagate.ensures.shrinks c.propagate.ensures.all in
    λ r x hr br h. let low : r < n = omega arith in c.requires.targets r x low ((both r).0 br).0 (is.within r x low br h).0

pub gather-requires-clause-rows : goal.gather-requires-clause-rows
gather-requires-clause-rows g c =
    let n = c.args.aim.now.rows in
    let new = c.search.new.choice in
    let len : length new ≡ n = c.search.auto.choice ∙ length-take-le n c.args.choice.now c.requires.choice in
    let few = c.requires.rows in omega arith

pub gather-requires-clause-room : goal.gather-requires-clause-room
gather-requires-clause-room g c =
    let n = c.args.aim.now.rows in
    let new = c.search.new.choice in
    let len : length new ≡ n = c.search.auto.choice ∙ length-take-le n c.args.choice.now c.requires.choice in
    let room = c.requires.list in omega arith

pub returns-clause-within : goal.returns-clause-within
returns-clause-within g c =
    let n = c.args.aim.now.rows in
    let new = c.search.new.choice in
    let len : length new ≡ n = c.search.auto.choice ∙ length-take-le n c.args.choice.now c.requires.choice in
    let within = c.gather.ensures.within in omega arith

pub returns-clause-found : goal.returns-clause-found
returns-clause-found g c =
    let aim = c.args.aim.now in let net = aim.net.now in let n = aim.rows in let k = c.args.to_mask in let rows = c.both-rows.result in
    let cut : length (take n c.args.domains.now) ≡ n = length-take-le n c.args.domains.now c.requires.domains in
    let both : AreBoth n aim.mask rows = both_rows n aim.mask c.full.result rows (λ j. full_member c.full.result n j c.full.ensures) c.both-rows.ensures in
    let now = c.propagate.new.domains in
    let f : length now ≡ n = c.propagate.auto.domains ∙ c.begin.auto.domains ∙ cut in
    let is : IsNarrowed net n aim.mask rows k now =
    narrowed net n aim.mask rows k (take n c.args.domains.now) c.begin.new.domains now cut c.begin.auto.domains both (c.begin.ensures.domains c.if-not-begin.false) c.propagate.ensures.shrinks c.propagate.ensures.all in
    let new = c.search.new.choice in
    let len : length new ≡ n = c.search.auto.choice ∙ length-take-le n c.args.choice.now c.requires.choice in
    record {
      choice = choice_of new;
      is_choice = narrowed_into net n aim.mask rows k now (choice_of new) is (subst (λ d. IsChoice net d rows now (choice_of new)) f (c.search.ensures.found c.if-not-search.false));
      listed = c.gather.ensures.is ∙ ap (λ d. map (choice_of new) (numbers_of aim.mask d)) len;
    }

pub returns-clause-first : goal.returns-clause-first
returns-clause-first g c =
    let aim = c.args.aim.now in let net = aim.net.now in let n = aim.rows in let k = c.args.to_mask in let rows = c.both-rows.result in
    let cut : length (take n c.args.domains.now) ≡ n = length-take-le n c.args.domains.now c.requires.domains in
    let both : AreBoth n aim.mask rows = both_rows n aim.mask c.full.result rows (λ j. full_member c.full.result n j c.full.ensures) c.both-rows.ensures in
    let now = c.propagate.new.domains in
    let f : length now ≡ n = c.propagate.auto.domains ∙ c.begin.auto.domains ∙ cut in
    let is : IsNarrowed net n aim.mask rows k now =
    narrowed net n aim.mask rows k (take n c.args.domains.now) c.begin.new.domains now cut c.begin.auto.domains both (c.begin.ensures.domains c.if-not-begin.false) c.propagate.ensures.shrinks c.propagate.ensures.all in
    let new = c.search.new.choice in
    let len : length new ≡ n = c.search.auto.choice ∙ length-take-le n c.args.choice.now c.requires.choice in
    let listed = c.gather.ensures.is ∙ ap (λ d. map (choice_of new) (numbers_of aim.mask d)) len in
    λ asc. narrowed_first net n aim.mask rows k now (choice_of new) (take c.gather.result c.gather.new.list) is f listed (c.search.ensures.first c.if-not-search.false asc)

pub returns-then-not-begin-clause-none : goal.returns-then-not-begin-clause-none
returns-then-not-begin-clause-none g c =
    let aim = c.args.aim.now in let net = aim.net.now in let n = aim.rows in let k = c.args.to_mask in let rows = c.both-rows.result in
    let cut : length (take n c.args.domains.now) ≡ n = length-take-le n c.args.domains.now c.requires.domains in
    let both : AreBoth n aim.mask rows = both_rows n aim.mask c.full.result rows (λ j. full_member c.full.result n j c.full.ensures) c.both-rows.ensures in
    λ _ other ch. none_begun net n aim.mask rows k other both (subst (λ d. LacksTarget net d rows k) cut (c.begin.ensures.none c.if-not-begin.true)) ch

pub returns-then-not-propagate-clause-none : goal.returns-then-not-propagate-clause-none
returns-then-not-propagate-clause-none g c =
    let aim = c.args.aim.now in let net = aim.net.now in let n = aim.rows in let k = c.args.to_mask in let rows = c.both-rows.result in
    let cut : length (take n c.args.domains.now) ≡ n = length-take-le n c.args.domains.now c.requires.domains in
    let both : AreBoth n aim.mask rows = both_rows n aim.mask c.full.result rows (λ j. full_member c.full.result n j c.full.ensures) c.both-rows.ensures in
    let e : length c.begin.new.domains ≡ n = c.begin.auto.domains ∙ cut in
    let begun = c.begin.new.domains in
    let start = subst (λ d. AreAtStart net d rows k begun) cut (c.begin.ensures.domains c.if-not-begin.false) in
    λ _ other ch. c.propagate.ensures.none c.if-not-propagate.true other (subst (λ d. IsChoice net d rows begun other) (sym e) (into_choice net n aim.mask rows k begun other both start ch))

pub returns-then-not-search-clause-none : goal.returns-then-not-search-clause-none
returns-then-not-search-clause-none g c =
    let aim = c.args.aim.now in let net = aim.net.now in let n = aim.rows in let k = c.args.to_mask in let rows = c.both-rows.result in
    let cut : length (take n c.args.domains.now) ≡ n = length-take-le n c.args.domains.now c.requires.domains in
    let both : AreBoth n aim.mask rows = both_rows n aim.mask c.full.result rows (λ j. full_member c.full.result n j c.full.ensures) c.both-rows.ensures in
    let now = c.propagate.new.domains in
    let f : length now ≡ n = c.propagate.auto.domains ∙ c.begin.auto.domains ∙ cut in
    let is : IsNarrowed net n aim.mask rows k now =
    narrowed net n aim.mask rows k (take n c.args.domains.now) c.begin.new.domains now cut c.begin.auto.domains both (c.begin.ensures.domains c.if-not-begin.false) c.propagate.ensures.shrinks c.propagate.ensures.all in
    λ _ other ch. c.search.ensures.none c.if-not-search.true other (subst (λ d. IsChoice net d rows now other) (sym f) (is.all other ch))

pub returns-clause-cost : goal.returns-clause-cost
returns-clause-cost g c =
    let aim = c.args.aim.now in let net = aim.net.now in let n = aim.rows in let k = c.args.to_mask in let rows = c.both-rows.result in
    let cut : length (take n c.args.domains.now) ≡ n = length-take-le n c.args.domains.now c.requires.domains in
    let both : AreBoth n aim.mask rows = both_rows n aim.mask c.full.result rows (λ j. full_member c.full.result n j c.full.ensures) c.both-rows.ensures in
    let now = c.propagate.new.domains in
    let f : length now ≡ n = c.propagate.auto.domains ∙ c.begin.auto.domains ∙ cut in
    let is : IsNarrowed net n aim.mask rows k now =
    narrowed net n aim.mask rows k (take n c.args.domains.now) c.begin.new.domains now cut c.begin.auto.domains both (c.begin.ensures.domains c.if-not-begin.false) c.propagate.ensures.shrinks c.propagate.ensures.all in
    λ passes all asc. narrowed_tries net n aim.mask rows k now passes net.targets c.args.steps.now c.search.new.steps is f all (λ passed. c.search.ensures.cost passes passed asc)

pub returns-then-not-search-clause-cost : goal.returns-then-not-search-clause-cost
returns-then-not-search-clause-cost g c =
    let aim = c.args.aim.now in let net = aim.net.now in let n = aim.rows in let k = c.args.to_mask in let rows = c.both-rows.result in
    let cut : length (take n c.args.domains.now) ≡ n = length-take-le n c.args.domains.now c.requires.domains in
    let both : AreBoth n aim.mask rows = both_rows n aim.mask c.full.result rows (λ j. full_member c.full.result n j c.full.ensures) c.both-rows.ensures in
    let now = c.propagate.new.domains in
    let f : length now ≡ n = c.propagate.auto.domains ∙ c.begin.auto.domains ∙ cut in
    let is : IsNarrowed net n aim.mask rows k now =
    narrowed net n aim.mask rows k (take n c.args.domains.now) c.begin.new.domains now cut c.begin.auto.domains both (c.begin.ensures.domains c.if-not-begin.false) c.propagate.ensures.shrinks c.propagate.ensures.all in
    λ passes all asc. narrowed_tries net n aim.mask rows k now passes net.targets c.args.steps.now c.search.new.steps is f all (λ passed. c.search.ensures.cost passes passed asc)
