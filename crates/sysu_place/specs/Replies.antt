-- The text of one statement, and what is written for it.
-- found: where the text goes wrong first and what could have stood there, or nothing of a whole one
use Rattle.std.specs.Prelude.{◌≡◌, ◌^◌, ℕ, List, Option, Some, None, ◌++◌, codes, decimal, flat_map}
use Rattle.su_io.specs.declared.files.File.{File}
use Rattle.su_io.specs.declared.status.Status.{Status}
use Rattle.su_io.specs.declared.status.Status.TheVariants.{Done, SomeRefused}
use Rattle.su_io.specs.FileEnds.{IsFile}
use Rattle.su_lex.specs.TokenForms.{sign_bytes}
use Rattle.su_faults.specs.declared.faults.Fault.{Fault}
use Rattle.su_faults.specs.declared.sorts.Sort.{Sort}
use Rattle.su_faults.specs.declared.sorts.Sort.TheVariants.{Word, Name, Number, Text, Sign, End}
use Rattle.su_faults.specs.Faults.{Tells}
use Rattle.su_faults.specs.Languages.{AreDefinition, AreEither, AreStatement}
use Rattle.su_faults.specs.Sorts.{spelling}
use Rattle.sysu_place.specs.declared.words.Forms.{Forms}
use Rattle.sysu_place.specs.declared.words.Forms.TheVariants.{Definitions, Either, Statements}
use Rattle.sysu_place.specs.Words.{Named}

-- 16 MiB
abbrev pub text_limit : ℕ
text_limit = 2 ^ 24

-- what is found of a text that is held against these forms
abbrev pub TellsOf : Forms → List ℕ → Option Fault → Type 0
TellsOf Definitions text found = Tells AreDefinition text found
TellsOf Either text found = Tells AreEither text found
TellsOf Statements text found = Tells AreStatement text found

abbrev pub in_quotes : List ℕ → List ℕ
in_quotes text = codes "\"" ++ text ++ codes "\""

-- a kind of token, as the rules of the grammar write it
abbrev pub kind_text : Sort → List ℕ
kind_text (Word word) = in_quotes (spelling word)
kind_text Name = codes "NAME"
kind_text Number = codes "NUMBER"
kind_text Text = codes "TEXT"
kind_text (Sign sign) = in_quotes (sign_bytes sign)
kind_text End = codes "END"

-- the place, counted in bytes from 0, and what could have stood there, in two lines
abbrev pub fault_text : Fault → List ℕ
fault_text fault = codes "place " ++ decimal fault.place ++ codes "\nwanted" ++ flat_map (λ sort. codes " " ++ kind_text sort) fault.wanted ++ codes "\n"

-- what is written for what was found
abbrev pub reply_text : Option Fault → List ℕ
reply_text None = codes "whole\n"
reply_text (Some fault) = fault_text fault

-- the status of a run that writes it
abbrev pub status_by : Option Fault → Status
status_by None = Done
status_by (Some fault) = SomeRefused

-- these bytes are written for what is found of the file's text, with its status
pub record IsReplyTo (names : Named) (files : Option (List File)) (came : Status) (bytes : List ℕ) : Type 0 where
  pub text : List ℕ
  pub is_file : IsFile files names.path text_limit text
  pub found : Option Fault
  pub tells : TellsOf names.forms text found
  pub came_is : came ≡ status_by found
  pub bytes_are : bytes ≡ reply_text found
