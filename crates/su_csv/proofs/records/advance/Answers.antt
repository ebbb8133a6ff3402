-- The reader stands at a text of which it takes the first record, if there is one, and the records that are left are those of the text behind it.
use Rattle.csv.specs.Records.{fields_of}
use Rattle.su_csv.proofs.TextLeft.{advanced}
use Rattle.su_csv.proofs.records.advance.Goals as goal

pub returns-clause-stands : goal.returns-clause-stands
returns-clause-stands c =
    (advanced c.args.reader.now c.read_byte_record.new.self (fields_of c.read_byte_record.new.row) c.in-Ok.found c.requires (c.in-Ok.ensures.ready c.requires.trim) (c.in-Ok.ensures.reads c.requires.trim c.requires.ready)).0

pub returns-clause-took : goal.returns-clause-took
returns-clause-took c =
    (advanced c.args.reader.now c.read_byte_record.new.self (fields_of c.read_byte_record.new.row) c.in-Ok.found c.requires (c.in-Ok.ensures.ready c.requires.trim) (c.in-Ok.ensures.reads c.requires.trim c.requires.ready)).1
