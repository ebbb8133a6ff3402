-- How a run ends, from how its reply is told and all is handed over.
use Rattle.std.proofs.Common.{◌≡◌, ◌≤◌, ℕ, Bool, true, false, List, [], ◌∷◌, Some, refl, sym, subst, inl, inr}
use Rattle.su_io.specs.declared.status.Status.{Status}
use Rattle.su_io.specs.declared.status.Status.TheVariants.{Done, SomeRefused, Usage, BadSchema, ReadFault, WriteFault, TooLong, NoMemory}
use Rattle.su_io.specs.Moments.{Moment}
use Rattle.su_io.specs.FileEnds.{IsFile}
use Rattle.su_io.specs.HandOver.{HandsAllOver}
use Rattle.su_io.specs.Programs.{StopsOver}
use Rattle.su_io.specs.WrittenTexts.{IsTold}
use Rattle.su_io.proofs.OneText.{tells_of_file, no_memory}
use Rattle.su_io.proofs.Programs.{Ends-on, Ends-over, Tells-over, UsageEnds-on}
use Rattle.sysu_draw.specs.Ends.{Comes, DrawingEnds, FlagEnds, asks_kept}
use Rattle.sysu_draw.specs.inside.Tellings.{ReplyEnds}
use Rattle.sysu_draw.specs.Replies.{text_limit, usage_line, IsReply, IsReplyTo}

-- the file was read
module _ (kept : Bool) (path : List ℕ) (old mid new : Moment) (text : List ℕ) (is_file : IsFile old.files path text_limit text)
    (reads : mid.reads ≡ old.reads) (begun : mid.begun ≡ Some path) (taken : mid.taken ≤ text_limit) (same : mid.told ≡ old.told) (writes : mid.writes ≡ old.writes) where
  reply_told : (came : Status) (bytes : List ℕ) → IsReply kept text came bytes → (status : Status) → IsTold bytes came mid new status → DrawingEnds kept path old new status
  reply_told Done bytes reply status told =
      let is : IsReplyTo kept path old.files Done bytes = (text, is_file, reply) in
      tells_of_file (IsReplyTo kept path old.files) Done bytes is (bytes, is, refl) (λ e. absurd (cc), λ e. absurd (cc)) path text_limit old mid new reads begun taken same writes status told
  reply_told SomeRefused bytes reply status told =
      let is : IsReplyTo kept path old.files SomeRefused bytes = (text, is_file, reply) in
      tells_of_file (IsReplyTo kept path old.files) SomeRefused bytes is (bytes, is, refl) (λ e. absurd (cc), λ e. absurd (cc)) path text_limit old mid new reads begun taken same writes status told
  reply_told Usage bytes reply status told = absurd reply
  reply_told BadSchema bytes reply status told = absurd reply
  reply_told ReadFault bytes reply status told = absurd reply
  reply_told WriteFault bytes reply status told = absurd reply
  reply_told TooLong bytes reply status told = absurd reply
  reply_told NoMemory bytes reply status told = absurd reply

  pub drawn : (status : Status) → ReplyEnds kept text mid new status → DrawingEnds kept path old new status
  drawn status (inl reply) = reply_told reply.came reply.bytes reply.reply status reply.told
  drawn status (inr none) = subst (DrawingEnds kept path old new) (sym none.0)
      (subst (λ (m : Moment). DrawingEnds kept path old m NoMemory) (sym none.1) (no_memory (IsReplyTo kept path old.files) path text_limit old mid begun same writes reads taken))

-- ---- a hand-over behind what the words come to

flag_on : (asks : Bool) (path : List ℕ) (old mid new : Moment) → HandsAllOver mid new → (status : Status) → FlagEnds asks path old mid status → FlagEnds asks path old new status
flag_on true path old mid new hands status comes = Ends-on old mid new hands status comes
flag_on false path old mid new hands status comes = UsageEnds-on old mid new hands usage_line status comes

flag_over : (asks : Bool) (path : List ℕ) (old new : Moment) (status : Status) → FlagEnds asks path old new status → StopsOver old new status
flag_over true path old new status comes = Ends-over old new status comes
flag_over false path old new status comes = Tells-over old new status comes.1

-- it leaves it so
pub comes_on : (words : List (List ℕ)) (old mid new : Moment) → HandsAllOver mid new → (status : Status) → Comes words old mid status → Comes words old new status
comes_on [] old mid new hands status comes = UsageEnds-on old mid new hands usage_line status comes
comes_on (path ∷ []) old mid new hands status comes = Ends-on old mid new hands status comes
comes_on (flag ∷ path ∷ []) old mid new hands status comes = flag_on (asks_kept flag) path old mid new hands status comes
comes_on (flag ∷ path ∷ word ∷ words) old mid new hands status comes = UsageEnds-on old mid new hands usage_line status comes

-- where it stops at a file, nothing is left to hand over
pub comes_over : (words : List (List ℕ)) (old new : Moment) (status : Status) → Comes words old new status → StopsOver old new status
comes_over [] old new status comes = Tells-over old new status comes.1
comes_over (path ∷ []) old new status comes = Ends-over old new status comes
comes_over (flag ∷ path ∷ []) old new status comes = flag_over (asks_kept flag) path old new status comes
comes_over (flag ∷ path ∷ word ∷ words) old new status comes = Tells-over old new status comes.1
