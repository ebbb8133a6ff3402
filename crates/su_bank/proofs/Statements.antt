-- Statements that are answered one after another.
use Rattle.std.proofs.Common.{◌≡◌, ◌<◌, ◌≤◌, ◌+◌, ℕ, suc, List, [], ◌∷◌, ◌++◌, None, length, take, get_or, refl, ap, subst, ◌∙◌, arith}
use Rattle.std.proofs.Math.Seq.{take-suc}
use Rattle.std.proofs.lemmas.List.{map-append, take_all}
use Rattle.std.specs.Prelude.{map}
use Rattle.su_lex.specs.declared.spans.Span.{Span}
use Rattle.su_ddl.specs.Files.{statement_of}
use Rattle.su_state.specs.DatabaseValue.{DatabaseValue, IsWellKept}
use Rattle.su_session.specs.declared.replies.Reply.{Reply}
use Rattle.su_session.specs.Reply.{Replied}
use Rattle.su_bank.specs.Banks.{Takes, TakesScript}

-- one more statement
takes_push : (texts : List (List ℕ)) (old mid new : DatabaseValue) (text : List ℕ) (reply : Reply) → Takes old texts mid → IsWellKept mid → Replied mid text None reply new → Takes old (texts ++ text ∷ []) new
takes_push [] old mid new text reply same kept replied = (rw (← same) kept, (reply, new, rw (← same) replied, refl))
takes_push (t ∷ ts) old mid new text reply (own, (first, next, answers, takes)) kept replied = (own, (first, next, answers, takes_push ts next mid new text reply takes kept replied))

-- the statement at place i of a script
pub takes_more : (script : List ℕ) (spans : List Span) (i : ℕ) (d : Span) (old mid new : DatabaseValue) (reply : Reply) → i < length spans
    → Takes old (map (statement_of script) (take i spans)) mid → IsWellKept mid → Replied mid (statement_of script (get_or spans i d)) None reply new
    → Takes old (map (statement_of script) (take (i + 1) spans)) new
takes_more script spans i d old mid new reply within takes kept replied =
    let next : i + 1 ≡ suc i = omega arith in
    let texts : map (statement_of script) (take (i + 1) spans) ≡ map (statement_of script) (take i spans) ++ statement_of script (get_or spans i d) ∷ [] =
    ap (λ k. map (statement_of script) (take k spans)) next ∙ ap (map (statement_of script)) (take-suc spans i d within)
    ∙ map-append (statement_of script) (take i spans) (get_or spans i d ∷ []) in
    rw texts (takes_push (map (statement_of script) (take i spans)) old mid new _ reply takes kept replied)

-- all of them
pub takes_all : (script : List ℕ) (spans : List Span) (i : ℕ) (old new : DatabaseValue) → length spans ≤ i → Takes old (map (statement_of script) (take i spans)) new → Takes old (map (statement_of script) spans) new
takes_all script spans i old new past takes = subst (λ (some : List Span). Takes old (map (statement_of script) some) new) (take_all i spans past) takes

-- the same script on the same database
pub same_script : (first session bank : DatabaseValue) (script bytes : List ℕ) → session ≡ first → bytes ≡ script → TakesScript session bytes bank → TakesScript first script bank
same_script first session bank script bytes one two takes = rw (← one, ← two) takes
