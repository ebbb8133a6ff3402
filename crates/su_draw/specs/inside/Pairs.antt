-- Attributes of XML as they are handed to a writer.
-- pair: a name with a number or with a word; attribute: a name and a value, both written out; n: a number, written as a decimal
-- No public contract cites this module.
use Rattle.std.specs.Prelude.{List, map}
use Rattle.su_draw.specs.declared.elements.Pair.{Pair}
use Rattle.su_draw.specs.declared.elements.Pair.TheVariants.{Number, Word}
use Rattle.su_draw.specs.Xml.{Attribute}
use Rattle.su_draw.specs.Looks.{number_attribute, word_of}

-- the attribute that the pair stands for
abbrev pub attribute_of : Pair → Attribute
attribute_of (Number name n) = number_attribute name.now n
attribute_of (Word name value) = word_of name.now value.now

-- the attributes of pairs, in order
abbrev pub attributes_of : List Pair → List Attribute
attributes_of pairs = map attribute_of pairs
