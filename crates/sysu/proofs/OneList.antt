-- Replies to the same statements are one list, also where they stop at a load from a file that is too long.
use Rattle.std.proofs.Common.{◌≡◌, ◌<◌, ◌++◌, ℕ, List, [], ◌∷◌, length, Option, Some, None, Ok, refl, ap, sym, ◌∙◌, subst, append-nil, arith}
use Rattle.su_base.proofs.Items.{same_tail}
use Rattle.su_io.specs.declared.files.File.{File as AFile}
use Rattle.su_io.specs.Files.{contents}
use Rattle.su_lex.specs.Pieces.{Pieces}
use Rattle.su_lex.proofs.Cuts.{one_list_of_pieces}
use Rattle.su_ddl.proofs.Files.{one_outcome}
use Rattle.su_schema.specs.SchemaValue.{SchemaValue}
use Rattle.su_state.specs.DatabaseValue.{DatabaseValue, IsWellKept}
use Rattle.su_session.specs.EmptyDatabase.{empty_database}
use Rattle.su_session.specs.declared.replies.Reply.{Reply}
use Rattle.su_session.specs.declared.wants.Want.TheVariants.{Nothing, File}
use Rattle.su_session.specs.Reply.{Replied}
use Rattle.su_session.specs.WantedFiles.{Wants}
use Rattle.su_once.specs.States.{AreAlike}
use Rattle.su_once.proofs.Replied.{one_reply, one_want}
use Rattle.su_replies.specs.Handed.{IsHanded, load_limit}
use Rattle.su_replies.specs.Output.{Answered, texts_of}
use Rattle.sysu.specs.Scripts.{Answers}
use Rattle.sysu.specs.Words.{Named}
use Rattle.sysu.proofs.Completeness.{ok_schema, schema_reads}
use Rattle.sysu.proofs.OneBank.{itself}

not_nothing : (path : List ℕ) → Nothing ≡ File path → ⊥
not_nothing path same = absurd (cc)

same_path : (path other : List ℕ) → File path ≡ File other → path ≡ other
same_path path other same = cc

first_same : (x y : List ℕ) (xs ys : List (List ℕ)) → x ∷ xs ≡ y ∷ ys → x ≡ y
first_same x y xs ys same = cc

module _ (files : List AFile) where
  one_file : (a b : DatabaseValue) (text : List ℕ) (x y : Option (List ℕ)) → a.schema ≡ b.schema → IsHanded (Some files) a text x → IsHanded (Some files) b text y → x ≡ y
  one_file a b text None None same h k = refl
  one_file a b text None (Some bytes) same h (path, wants, is) = absurd (not_nothing path (one_want a b text Nothing (File path) same h wants))
  one_file a b text (Some bytes) None same (path, wants, is) k = absurd (not_nothing path (sym (one_want a b text (File path) Nothing same wants k)))
  one_file a b text (Some bytes) (Some more) same (path, wants, is) (other, asks, too) =
      let at = same_path path other (one_want a b text (File path) (File other) same wants asks) in
      ap Some (is.0 ∙ ap (contents files) at ∙ sym too.0)

  -- a file past the limit is not handed
  not_handed : (a b : DatabaseValue) (text path : List ℕ) (file : Option (List ℕ)) → a.schema ≡ b.schema → Wants a text (File path) → load_limit < length (contents files path) → IsHanded (Some files) b text file → ⊥
  not_handed a b text path None same wants over h = not_nothing path (sym (one_want a b text (File path) Nothing same wants h))
  not_handed a b text path (Some bytes) same wants over (other, asks, is) =
      let at = same_path path other (one_want a b text (File path) (File other) same wants asks) in
      let long : length bytes ≡ length (contents files path) = ap (λ (x : List ℕ). length x) (is.0 ∙ ap (contents files) (sym at)) in
      absurd (omega (arith, over, long, is.1))

  one_turn : (text : List ℕ) (a b next then : DatabaseValue) (file same : Option (List ℕ)) (r s : Reply) → AreAlike a b → IsWellKept a → IsWellKept b → IsHanded (Some files) a text file → IsHanded (Some files) b text same
      → Replied a text file r next → Replied b text same s then → (r ≡ s) × AreAlike next then
  one_turn text a b next then file same r s alike kept also handed hands replied answers =
      let is : same ≡ file = sym (one_file a b text file same alike.schema handed hands) in
      one_reply a b next then text file r s alike kept also replied (subst (λ (f : Option (List ℕ)). Replied b text f s then) is answers)

  one_list : (texts : List (List ℕ)) (a b c d : DatabaseValue) (replies others : List Reply) → AreAlike a b → Answered (Some files) a texts replies c → Answered (Some files) b texts others d → replies ≡ others
  one_list [] a b c d [] [] alike h k = refl
  one_list [] a b c d [] (s ∷ ss) alike h k = absurd k
  one_list [] a b c d (r ∷ rs) others alike h k = absurd h
  one_list (t ∷ ts) a b c d [] others alike h k = absurd h
  one_list (t ∷ ts) a b c d (r ∷ rs) [] alike h k = absurd k
  one_list (t ∷ ts) a b c d (r ∷ rs) (s ∷ ss) alike (kept, (file, handed, (next, replied, more))) (also, (same, hands, (then, answers, rest))) =
      let one = one_turn t a b next then file same r s alike kept also handed hands replied answers in
      let later = one_list ts next then c d rs ss one.1 more rest in
      λ i. one.0 i ∷ later i

  -- a load that is due in one answering is not passed in another
  not_passed : (done left : List (List ℕ)) (load path : List ℕ) (a b c d : DatabaseValue) (replies others : List Reply) → AreAlike a b → Answered (Some files) a done replies c → Wants c load (File path) → load_limit < length (contents files path)
      → Answered (Some files) b (done ++ load ∷ left) others d → ⊥
  not_passed [] left load path a b c d (r ∷ rs) others alike h wants over k = h
  not_passed [] left load path a b c d [] [] alike h wants over k = k
  not_passed [] left load path a b c d [] (o ∷ os) alike h wants over (also, (file, hands, rest)) =
      not_handed a b load path file alike.schema (subst (λ (v : DatabaseValue). Wants v load (File path)) h wants) over hands
  not_passed (t ∷ ts) left load path a b c d [] others alike h wants over k = h
  not_passed (t ∷ ts) left load path a b c d (r ∷ rs) [] alike h wants over k = k
  not_passed (t ∷ ts) left load path a b c d (r ∷ rs) (o ∷ os) alike (kept, (file, handed, (mid, replied, more))) wants over (also, (same, hands, (then, answers, rest))) =
      let one = one_turn t a b mid then file same r o alike kept also handed hands replied answers in
      not_passed ts left load path mid then c d rs os one.1 more wants over rest

  one_stop : (done past left behind : List (List ℕ)) (x y path other : List ℕ) (a b c d : DatabaseValue) (replies others : List Reply) → AreAlike a b → done ++ x ∷ left ≡ past ++ y ∷ behind
      → Answered (Some files) a done replies c → Wants c x (File path) → load_limit < length (contents files path)
      → Answered (Some files) b past others d → Wants d y (File other) → load_limit < length (contents files other) → replies ≡ others
  one_stop [] [] left behind x y path other a b c d [] [] alike same h wants over k asks long = refl
  one_stop [] [] left behind x y path other a b c d [] (o ∷ os) alike same h wants over k asks long = absurd k
  one_stop [] past left behind x y path other a b c d (r ∷ rs) others alike same h wants over k asks long = absurd h
  one_stop [] (t ∷ ts) left behind x y path other a b c d [] [] alike same h wants over k asks long = absurd k
  one_stop [] (t ∷ ts) left behind x y path other a b c d [] (o ∷ os) alike same h wants over (also, (file, hands, rest)) asks long =
      let first = first_same x t left (ts ++ y ∷ behind) same in
      absurd (not_handed a b t path file alike.schema (subst (λ (v : DatabaseValue). Wants v t (File path)) h (subst (λ (z : List ℕ). Wants c z (File path)) first wants)) over hands)
  one_stop (s ∷ ss) past left behind x y path other a b c d [] others alike same h wants over k asks long = absurd h
  one_stop (s ∷ ss) [] left behind x y path other a b c d (r ∷ rs) (o ∷ os) alike same h wants over k asks long = absurd k
  one_stop (s ∷ ss) [] left behind x y path other a b c d (r ∷ rs) [] alike same (kept, (file, handed, rest)) wants over k asks long =
      let first = first_same s y (ss ++ x ∷ left) behind same in
      absurd (not_handed b a s other file (sym alike.schema) (subst (λ (v : DatabaseValue). Wants v s (File other)) k (subst (λ (z : List ℕ). Wants d z (File other)) (sym first) asks)) long handed)
  one_stop (s ∷ ss) (t ∷ ts) left behind x y path other a b c d (r ∷ rs) [] alike same h wants over k asks long = absurd k
  one_stop (s ∷ ss) (t ∷ ts) left behind x y path other a b c d (r ∷ rs) (o ∷ os) alike same h wants over k asks long =
      let first = first_same s t (ss ++ x ∷ left) (ts ++ y ∷ behind) same in
      let rest = same_tail s t (ss ++ x ∷ left) (ts ++ y ∷ behind) same in
      let k' : Answered (Some files) b (s ∷ ts) (o ∷ os) d = subst (λ (z : List ℕ). Answered (Some files) b (z ∷ ts) (o ∷ os) d) (sym first) k in
      let (kept, (file, handed, (mid, replied, more))) = h in
      let (also, (again, hands, (then, answers, later))) = k' in
      let one = one_turn s a b mid then file again r o alike kept also handed hands replied answers in
      let tails = one_stop ss ts left behind x y path other mid then c d rs os one.1 rest more wants over later asks long in
      λ i. one.0 i ∷ tails i

-- ---- of the same run

module _ (names : Named) (files : List AFile) where
  module _ (replies others : List Reply) (a b : DatabaseValue) (left behind : List (List ℕ)) (h : Answers names (Some files) replies a left) (k : Answers names (Some files) others b behind) where
    one_schema : k.schema ≡ h.schema
    one_schema = ok_schema k.schema h.schema (one_outcome (contents files names.schema) (Ok k.schema) (Ok h.schema) (schema_reads names files (Ok k.schema) k.read.accepted) (schema_reads names files (Ok h.schema) h.read.accepted))

    one_script : k.script ≡ h.script
    one_script = k.read.is_script.0 ∙ sym h.read.is_script.0

    one_list_of_texts : h.done ++ left ≡ k.done ++ behind
    one_list_of_texts =
        let spans : k.spans ≡ h.spans = one_list_of_pieces h.script k.spans h.spans (subst (λ (s : List ℕ). Pieces s k.spans) one_script k.pieces) h.pieces in
        sym h.statements ∙ ap (texts_of h.script) (sym spans) ∙ ap (λ (s : List ℕ). texts_of s k.spans) (sym one_script) ∙ k.statements

    from_there : Answered (Some files) (empty_database h.schema) k.done others b
    from_there = subst (λ (s : SchemaValue). Answered (Some files) (empty_database s) k.done others b) one_schema k.answered

  pub one_list_of_replies : (replies others : List Reply) (a b : DatabaseValue) → Answers names (Some files) replies a [] → Answers names (Some files) others b [] → replies ≡ others
  one_list_of_replies replies others a b h k =
      let texts : h.done ≡ k.done = sym (append-nil h.done) ∙ one_list_of_texts replies others a b [] [] h k ∙ append-nil k.done in
      one_list files h.done (empty_database h.schema) (empty_database h.schema) a b replies others (itself (empty_database h.schema)) h.answered
      (subst (λ (ts : List (List ℕ)). Answered (Some files) (empty_database h.schema) ts others b) (sym texts) (from_there replies others a b [] [] h k))

  pub stopped_or_all : (replies others : List Reply) (a b : DatabaseValue) (load path : List ℕ) (left : List (List ℕ)) → Answers names (Some files) replies a (load ∷ left) → Wants a load (File path) → load_limit < length (contents files path)
      → Answers names (Some files) others b [] → ⊥
  stopped_or_all replies others a b load path left h wants over k =
      let texts : k.done ≡ h.done ++ load ∷ left = sym (append-nil k.done) ∙ sym (one_list_of_texts replies others a b (load ∷ left) [] h k) in
      not_passed files h.done left load path (empty_database h.schema) (empty_database h.schema) a b replies others (itself (empty_database h.schema)) h.answered wants over
      (subst (λ (ts : List (List ℕ)). Answered (Some files) (empty_database h.schema) ts others b) texts (from_there replies others a b (load ∷ left) [] h k))

  pub one_list_before : (replies others : List Reply) (a b : DatabaseValue) (load also path other : List ℕ) (left behind : List (List ℕ))
      → Answers names (Some files) replies a (load ∷ left) → Wants a load (File path) → load_limit < length (contents files path)
      → Answers names (Some files) others b (also ∷ behind) → Wants b also (File other) → load_limit < length (contents files other) → replies ≡ others
  one_list_before replies others a b load also path other left behind h wants over k asks long =
      one_stop files h.done k.done left behind load also path other (empty_database h.schema) (empty_database h.schema) a b replies others (itself (empty_database h.schema))
      (one_list_of_texts replies others a b (load ∷ left) (also ∷ behind) h k) h.answered wants over (from_there replies others a b (load ∷ left) (also ∷ behind) h k) asks long
