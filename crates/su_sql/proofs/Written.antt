-- What is written for the statements of a script, one more at the end.
use Rattle.std.proofs.Common.{◌≡◌, ℕ, ◌+◌, ◌<◌, ◌||◌, Bool, false, List, [], ◌∷◌, ◌++◌, map, take, length, get_or, refl, sym, ap, ◌∙◌, subst, append_assoc, append-nil}
use Rattle.std.proofs.lemmas.Grind.{flat_map-append}
use Rattle.std.proofs.lemmas.List.Recursion.{or_push}
use Rattle.std.proofs.lemmas.List.{map_more}
use Rattle.su_lex.specs.declared.spans.Span.{Span}
use Rattle.su_state.specs.DatabaseValue.{DatabaseValue}
use Rattle.su_session.specs.declared.replies.Reply.{Reply}
use Rattle.su_ddl.specs.Files.{statement_of}
use Rattle.su_session.specs.Outcomes.{some_refused}
use Rattle.su_sql.specs.declared.dialects.Dialect.{Dialect}
use Rattle.su_sql.specs.Statements.{Writes}
use Rattle.su_sql.specs.Scripts.{AreWritten, output_of}

written_more : (d : Dialect) (texts : List (List ℕ)) (replies : List Reply) (old mid new : DatabaseValue) (text : List ℕ) (reply : Reply) → AreWritten d old texts replies mid → Writes d mid text reply new → AreWritten d old (texts ++ text ∷ []) (replies ++ reply ∷ []) new
written_more d [] [] old mid new text reply h w = (new, subst (λ (x : DatabaseValue). Writes d x text reply new) h w, refl)
written_more d [] (r ∷ rs) old mid new text reply h w = absurd h
written_more d (t ∷ ts) [] old mid new text reply h w = absurd h
written_more d (t ∷ ts) (r ∷ rs) old mid new text reply h w = (h.0, h.1, written_more d ts rs h.0 mid new text reply h.2 w)

-- the statements so far are written
pub record SoFar (d : Dialect) (script : List ℕ) (spans : List Span) (begin : List ℕ) (old new : DatabaseValue) (refused : Bool) (text : List ℕ) : Type 0 where
  pub replies : List Reply
  pub written : AreWritten d old (map (statement_of script) spans) replies new
  pub refused_is : refused ≡ some_refused replies
  pub text_is : text ≡ begin ++ output_of replies

pub none_yet : (d : Dialect) (script begin : List ℕ) (old : DatabaseValue) → SoFar d script [] begin old old false begin
none_yet d script begin old = record { replies = []; written = refl; refused_is = refl; text_is = sym (append-nil begin) }

pub one_more : (d : Dialect) (script : List ℕ) (spans : List Span) (i : ℕ) (none : Span) (begin : List ℕ) (old mid new : DatabaseValue) (refused after : Bool) (text next : List ℕ) (reply : Reply) → i < length spans
    → SoFar d script (take i spans) begin old mid refused text → Writes d mid (statement_of script (get_or spans i none)) reply new → after ≡ reply.refused → next ≡ text ++ reply.bytes
    → SoFar d script (take (i + 1) spans) begin old new (refused || after) next
one_more d script spans i none begin old mid new refused after text next reply low so w ref e =
    let replies = so.replies in
    let here = statement_of script (get_or spans i none) in
    let texts : map (statement_of script) (take (i + 1) spans) ≡ map (statement_of script) (take i spans) ++ here ∷ [] = map_more (statement_of script) spans i none low in
    let more : output_of (replies ++ reply ∷ []) ≡ output_of replies ++ reply.bytes =
    flat_map-append (λ (r : Reply). r.bytes) replies (reply ∷ []) ∙ ap (λ (t : List ℕ). output_of replies ++ t) (append-nil reply.bytes) in
    record {
      replies = replies ++ reply ∷ [];
      written = subst (λ (ts : List (List ℕ)). AreWritten d old ts (replies ++ reply ∷ []) new) (sym texts) (written_more d (map (statement_of script) (take i spans)) replies old mid new here reply so.written w);
      refused_is = ap (λ b. refused || b) ref ∙ ap (λ b. b || reply.refused) so.refused_is ∙ sym (or_push some_refused (λ (r : Reply). r.refused) refl (λ r rs. refl) replies reply);
      text_is = e ∙ ap (λ (t : List ℕ). t ++ reply.bytes) so.text_is ∙ append_assoc begin (output_of replies) reply.bytes ∙ ap (λ (t : List ℕ). begin ++ t) (sym more);
    }
