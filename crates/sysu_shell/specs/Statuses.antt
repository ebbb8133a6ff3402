-- How the program ends, and with which status.
use Rattle.std.specs.Prelude.{ℕ, Bool, false, not}
use Rattle.su_talk.specs.declared.closes.Close.{Close}
use Rattle.su_talk.specs.declared.closes.Close.TheVariants as close
use Rattle.sysu_shell.specs.declared.telling.End.{End}
use Rattle.sysu_shell.specs.declared.telling.End.TheVariants.{Done, SomeRefused, Usage, BadSchema, SchemaFault, InputFault, WriteFault, TooLong, NoMemory, KeepFault, BadFile}

-- the end of a talk that closed so
abbrev pub end_of : Close → End
end_of close.Done = Done
end_of close.SomeRefused = SomeRefused
end_of close.InputFault = InputFault
end_of close.WriteFault = WriteFault
end_of close.TooLong = TooLong
end_of close.NoMemory = NoMemory
end_of close.KeepFault = KeepFault

abbrev pub status_of : End → ℕ
status_of Done = 0
status_of SomeRefused = 1
status_of Usage = 2
status_of (BadSchema line) = 3
status_of SchemaFault = 4
status_of InputFault = 4
status_of WriteFault = 5
status_of TooLong = 6
status_of NoMemory = 7
status_of KeepFault = 8
status_of (BadFile line) = 9

-- the file doesn't stand alone, which no other line says
abbrev pub is_unsettled : Close → Bool → Bool
is_unsettled close.KeepFault settled = false
is_unsettled close settled = not settled
