-- Where the bytes of a text lie.
-- form: up to 14 bytes in the value itself, up to 55 or 119 behind a box, or a string that copies share
use Rattle.std.specs.Prelude.{ℕ, List, string_bytes}
use Rattle.su_base.specs.declared.texts.Form.{Form}
use Rattle.su_base.specs.declared.texts.Form.TheVariants.{Short, Middle, Wide, Long}

-- the bytes
abbrev pub text_of : Form → List ℕ
text_of (Short held) = held
text_of (Middle held) = held.value
text_of (Wide held) = held.value
text_of (Long text) = string_bytes text.value
