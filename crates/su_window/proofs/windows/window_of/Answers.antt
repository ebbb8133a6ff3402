-- The rows of an instance are the members' padded rows, so what they have of constants by its names is the window.
use Rattle.su_window.proofs.Instances.{below_names, attributes_within, has_few_and_fits, has_rows, window_rows}
use Rattle.su_window.proofs.windows.window_of.Goals as goal

pub constant_rows-requires-clause-below : goal.constant_rows-requires-clause-below
constant_rows-requires-clause-below c = below_names c.args.db.now c.args.representative.now c.requires.represents c.as_slice-rows.result.now c.as_slice-rows.ensures c.as_slice-names.result.now c.as_slice-names.ensures

pub constant_rows-requires-clause-within : goal.constant_rows-requires-clause-within
constant_rows-requires-clause-within c = attributes_within c.args.db.now c.args.representative.now c.requires.represents c.as_slice-rows.result.now c.as_slice-rows.ensures c.args.attributes.now c.requires.attributes

pub returns-clause-exact : goal.returns-clause-exact
returns-clause-exact c = window_rows c.args.db.now c.args.representative.now c.requires.represents c.keeps_its_rules.ensures c.as_slice-rows.result.now c.as_slice-rows.ensures c.as_slice-names.result.now c.as_slice-names.ensures c.args.attributes.now c.requires.attributes c.in_ok-found.found c.sorted_rows.result c.in_ok-found.ensures c.sorted_rows.ensures.members

pub returns-clause-fits : goal.returns-clause-fits
returns-clause-fits c = has_few_and_fits c.args.db.now c.args.representative.now c.requires.represents c.keeps_its_rules.ensures

pub returns-clause-represented : goal.returns-clause-represented
returns-clause-represented c = has_rows c.args.db.now c.args.representative.now c.requires.represents c.keeps_its_rules.ensures
