-- Where an open text stands behind one byte more.
-- blank: no more than white space and comments stand before the part that isn't whole
-- No public contract cites this module.
use Rattle.std.specs.Prelude.{ℕ, Bool, true, false, ◌&&◌, ◌==◌, if◌then◌else◌}
use Rattle.su_lex.specs.Blanks.{is_space}
use Rattle.su_stream.specs.declared.states.Mode.{Mode}
use Rattle.su_stream.specs.declared.states.Mode.TheVariants.{Plain, Dash, Quoted, Comment}
use Rattle.su_stream.specs.declared.states.State.{State}

-- this mode, blank so far or not
abbrev pub state_of : Mode → Bool → State
state_of mode blank = record { mode = mode; blank = blank }

-- behind whole parts and a byte
abbrev pub after_whole : Bool → ℕ → State
after_whole blank b = if b == 39 then state_of Quoted blank else (if b == 45 then state_of Dash blank else state_of Plain (blank && is_space b))

-- in this mode, and behind a byte
abbrev pub after_in : Mode → Bool → ℕ → State
after_in Plain blank b = after_whole blank b
after_in Dash blank b = if b == 45 then state_of Comment blank else after_whole false b
after_in Quoted blank b = if b == 39 then state_of Plain false else state_of Quoted blank
after_in Comment blank b = if b == 10 then state_of Plain blank else state_of Comment blank

abbrev pub after_byte : State → ℕ → State
after_byte state b = after_in state.mode state.blank b

-- whether a `;` ends a text in this mode
abbrev pub is_whole_mode : Mode → Bool
is_whole_mode Plain = true
is_whole_mode Dash = true
is_whole_mode Quoted = false
is_whole_mode Comment = false

abbrev pub is_whole : State → Bool
is_whole state = is_whole_mode state.mode

-- whether the byte ends the text
abbrev pub ends_at : State → ℕ → Bool
ends_at state b = b == 59 && is_whole state

-- whether a part in this mode is blank, where it ends
abbrev pub is_blank_mode : Mode → Bool
is_blank_mode Plain = true
is_blank_mode Dash = false
is_blank_mode Quoted = false
is_blank_mode Comment = true

-- whether the text is blank, where it ends
abbrev pub is_blank_piece : State → Bool
is_blank_piece state = state.blank && is_blank_mode state.mode
