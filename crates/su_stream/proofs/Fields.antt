-- What a stream has come to stays told as its fields change.
use Rattle.std.proofs.Common.{inl, inr, ◌≡◌, ◌≤◌, ◌<◌, ◌-◌, ℕ, ◌+◌, Bool, true, false, List, [], ◌∷◌, ◌++◌, length, length-append, append_assoc, append-nil, take, drop, get_or, refl, ap, sym, ◌∙◌, arith, subst}
use Rattle.std.proofs.lemmas.Bool.{false≢true, cases_lt}
use Rattle.std.proofs.lemmas.List.{take-append-drop, take-append-le, drop-append-le, drop-drop, drop_more, length-drop, length-take-le, nil_from_length, take_all}
use Rattle.std.proofs.Math.Seq.{take-add, drop-append-add}
use Rattle.su_lex.specs.Pieces.{after_mark}
use Rattle.su_lex.specs.declared.spans.Span.{Span}
use Rattle.su_stream.specs.declared.fronts.Front.TheVariants.{Mark, Other, Unknown}
use Rattle.su_stream.specs.declared.states.Mode.TheVariants.{Plain}
use Rattle.su_stream.specs.declared.states.State.{State}
use Rattle.su_stream.specs.declared.streams.Stream.{Stream}
use Rattle.su_stream.specs.declared.pieces.Piece.{Piece}
use Rattle.su_stream.specs.inside.Fronts.{front_at}
use Rattle.su_stream.specs.inside.OpenTexts.{IsAt}
use Rattle.su_stream.specs.Ended.{text_at}
use Rattle.su_stream.specs.Coming.{open_text, HasCome, IsSameInput, Takes, Gives, Closes, HasLookedAtAll, IsUpToDate, Holds}
use Rattle.su_stream.specs.Cuts.{AreCutOff}
use Rattle.su_stream.specs.inside.Held.{Leads, IsFresh, looked_at, Holding, LooksAtAll}
use Rattle.su_stream.specs.inside.Steps.{state_of, ends_at, is_blank_piece}
use Rattle.su_stream.specs.inside.Texts.{IsText}
use Rattle.su_stream.proofs.Marks.{mark_drops, other_stays, unknown_mark, unknown_no_cut}
use Rattle.su_stream.proofs.Steps.{start_at, ends_is}
use Rattle.su_stream.proofs.Leading.{leads_first, leads_more, leads_cut, leads_last}

-- ---- the state

at_same : (a c : State) (x y : List ℕ) → a ≡ c → x ≡ y → IsAt c y → IsAt a x
at_same a c x y e i h = subst (λ (s : State). IsAt s x) (sym e) (subst (IsAt c) (sym i) h)

-- ---- lists

-- further bytes behind those that were looked at
taken_on : (xs : List ℕ) (from seen count : ℕ) → from ≤ seen → take ((seen + count) - from) (drop from xs) ≡ take (seen - from) (drop from xs) ++ take count (drop seen xs)
taken_on xs from seen count ordered =
    let n : (seen + count) - from ≡ (seen - from) + count = omega (arith, ordered) in
    let at : from + (seen - from) ≡ seen = omega (arith, ordered) in
    ap (λ k. take k (drop from xs)) n ∙ take-add (seen - from) count (drop from xs)
    ∙ ap (λ v. take (seen - from) (drop from xs) ++ take count v) (drop-drop (seen - from) from xs ∙ ap (λ k. drop k xs) at)

-- the bytes that were looked at, and the others
split_at : (xs : List ℕ) (from seen : ℕ) → from ≤ seen → drop from xs ≡ take (seen - from) (drop from xs) ++ drop seen xs
split_at xs from seen ordered =
    let at : from + (seen - from) ≡ seen = omega (arith, ordered) in
    sym (take-append-drop (seen - from) (drop from xs)) ∙ ap (λ v. take (seen - from) (drop from xs) ++ v) (drop-drop (seen - from) from xs ∙ ap (λ k. drop k xs) at)

-- ---- the steps

-- nothing has come
pub new_has : (s : Stream) → s.held.items ≡ [] → s.base ≡ 0 → s.from ≡ 0 → s.seen ≡ 0 → s.state ≡ state_of Plain true → s.begun ≡ false → HasCome [] [] s
unfolding HasCome
new_has s held base from seen state unbegun = record {
  gone = [];
  come_is = sym held;
  base_is = base;
  fresh = λ e. record { none = refl; base = base; from = from };
  leads = λ e. absurd (false≢true (sym unbegun ∙ e));
  at = at_same s.state (state_of Plain true) (take (s.seen - s.from) (drop s.from s.held.items)) [] state (rw (seen, from) refl) start_at;
}

-- what stays from one state to the next
pub record Stays (s t : Stream) : Type 0 where
  pub ordered : s.from ≤ s.seen
  pub within : s.seen ≤ length s.held.items
  pub state : t.state ≡ s.state
  pub begun : t.begun ≡ s.begun

-- the pieces that have ended are let go of
pub let_go_same : (s t : Stream) → Stays s t → t.held.items ≡ drop s.from s.held.items → t.base ≡ s.base + s.from → t.from ≡ 0 → t.seen ≡ s.seen - s.from → IsSameInput s t
unfolding HasCome
let_go_same s t k held base from seen come pieces has =
    let h : Holding come pieces s = has in
    let items = s.held.items in
    let there : open_text t ≡ open_text s = ap (λ n. drop n t.held.items) from ∙ held in
    let count : t.seen - t.from ≡ s.seen - s.from = omega (arith, seen, from) in
    record {
      gone = h.gone ++ take s.from items;
      come_is = h.come_is ∙ ap (λ v. h.gone ++ v) (sym (take-append-drop s.from items) ∙ ap (λ v. take s.from items ++ v) (sym held)) ∙ sym (append_assoc h.gone (take s.from items) t.held.items);
      base_is = omega (arith, base, h.base_is, length-append h.gone (take s.from items), length-take-le s.from items (omega (arith, k.ordered, k.within)));
      fresh = λ e. let f = h.fresh (sym k.begun ∙ e) in record { none = f.none; base = omega (arith, base, f.base, f.from); from = from };
      leads = λ e. subst (Leads come pieces) (sym there) (h.leads (sym k.begun ∙ e));
      at = at_same t.state s.state (take (t.seen - t.from) (open_text t)) (take (s.seen - s.from) (open_text s)) k.state (ap (λ n. take n (open_text t)) count ∙ ap (take (s.seen - s.from)) there) h.at;
    }

-- no field has changed but the room
pub kept_same : (s t : Stream) → t.held.items ≡ s.held.items → t.base ≡ s.base → t.from ≡ s.from → t.seen ≡ s.seen → t.state ≡ s.state → t.begun ≡ s.begun → IsSameInput s t
unfolding HasCome
kept_same s t held base from seen state begun come pieces has =
    let h : Holding come pieces s = has in
    let there : open_text t ≡ open_text s = ap (λ k. drop k t.held.items) from ∙ ap (drop s.from) held in
    let count : t.seen - t.from ≡ s.seen - s.from = omega (arith, seen, from) in
    record {
      gone = h.gone;
      come_is = h.come_is ∙ ap (λ v. h.gone ++ v) (sym held);
      base_is = base ∙ h.base_is;
      fresh = λ e. let f = h.fresh (sym begun ∙ e) in record { none = f.none; base = base ∙ f.base; from = from ∙ f.from };
      leads = λ e. subst (Leads come pieces) (sym there) (h.leads (sym begun ∙ e));
      at = at_same t.state s.state (looked_at t) (looked_at s) state (ap (λ k. take k (open_text t)) count ∙ ap (take (s.seen - s.from)) there) h.at;
    }

-- bytes come
pub appended_takes : (s t : Stream) (bytes : List ℕ) → Stays s t → t.held.items ≡ s.held.items ++ bytes → t.base ≡ s.base → t.from ≡ s.from → t.seen ≡ s.seen → Takes bytes s t
unfolding HasCome
appended_takes s t bytes k held base from seen come pieces has =
    let h : Holding come pieces s = has in
    let items = s.held.items in
    let there : open_text t ≡ open_text s ++ bytes = ap (λ n. drop n t.held.items) from ∙ ap (drop s.from) held ∙ drop-append-le s.from items bytes (omega (arith, k.ordered, k.within)) in
    let count : t.seen - t.from ≡ s.seen - s.from = omega (arith, seen, from) in
    record {
      gone = h.gone;
      come_is = ap (λ v. v ++ bytes) h.come_is ∙ append_assoc h.gone items bytes ∙ ap (λ v. h.gone ++ v) (sym held);
      base_is = base ∙ h.base_is;
      fresh = λ e. let f = h.fresh (sym k.begun ∙ e) in record { none = f.none; base = base ∙ f.base; from = from ∙ f.from };
      leads = λ e. subst (Leads (come ++ bytes) pieces) (sym there) (leads_more come bytes (open_text s) pieces (h.leads (sym k.begun ∙ e)));
      at = at_same t.state s.state (take (t.seen - t.from) (open_text t)) (take (s.seen - s.from) (open_text s)) k.state
          (ap (λ n. take n (open_text t)) count ∙ ap (take (s.seen - s.from)) there
          ∙ take-append-le (s.seen - s.from) (open_text s) bytes (omega (arith, k.ordered, k.within, length-drop s.from items))) h.at;
    }

-- it turns out where the first statement begins
first_leads : (come : List ℕ) (pieces : List Piece) (s : Stream) (n : ℕ) → Holding come pieces s → s.begun ≡ false → ((more : List ℕ) → after_mark (s.held.items ++ more) ≡ drop n s.held.items ++ more) → Leads come pieces (drop n s.held.items)
first_leads come pieces s n h unbegun first =
    let f = h.fresh unbegun in
    let gone : h.gone ≡ [] = nil_from_length h.gone (sym h.base_is ∙ f.base) in
    let come_is : come ≡ s.held.items = h.come_is ∙ ap (λ v. v ++ s.held.items) gone in
    let leads = leads_first come (drop n s.held.items) (subst (λ (v : List ℕ). (more : List ℕ) → after_mark (v ++ more) ≡ drop n s.held.items ++ more) (sym come_is) first) in
    subst (λ (v : List Piece). Leads come v (drop n s.held.items)) (sym f.none) leads

pub mark_same : (s t : Stream) → s.begun ≡ false → front_at s.held.items ≡ Mark → t.held.items ≡ s.held.items → t.base ≡ s.base → t.from ≡ 3 → t.seen ≡ 3 → t.state ≡ state_of Plain true → t.begun ≡ true → IsSameInput s t
unfolding HasCome
mark_same s t unbegun mark held base from seen state begun come pieces has =
    let h : Holding come pieces s = has in
    let leads = first_leads come pieces s 3 h unbegun (mark_drops s.held.items mark) in
    let there : open_text t ≡ drop 3 s.held.items = ap (λ k. drop k t.held.items) from ∙ ap (drop 3) held in
    let none : t.seen - t.from ≡ 0 = omega (arith, seen, from) in
    record {
      gone = h.gone;
      come_is = h.come_is ∙ ap (λ v. h.gone ++ v) (sym held);
      base_is = base ∙ h.base_is;
      fresh = λ e. absurd (false≢true (sym e ∙ begun));
      leads = λ e. subst (Leads come pieces) (sym there) leads;
      at = at_same t.state (state_of Plain true) (looked_at t) [] state (ap (λ k. take k (open_text t)) none) start_at;
    }

pub other_same : (s t : Stream) → s.begun ≡ false → front_at s.held.items ≡ Other → t.held.items ≡ s.held.items → t.base ≡ s.base → t.from ≡ s.from → t.seen ≡ s.seen → t.state ≡ s.state → t.begun ≡ true → IsSameInput s t
unfolding HasCome
other_same s t unbegun other held base from seen state begun come pieces has =
    let h : Holding come pieces s = has in
    let leads = first_leads come pieces s 0 h unbegun (other_stays s.held.items other) in
    let f = h.fresh unbegun in
    let there : open_text t ≡ s.held.items = ap (λ k. drop k t.held.items) (from ∙ f.from) ∙ held in
    let same : open_text t ≡ open_text s = ap (λ k. drop k t.held.items) from ∙ ap (drop s.from) held in
    let count : t.seen - t.from ≡ s.seen - s.from = omega (arith, seen, from) in
    record {
      gone = h.gone;
      come_is = h.come_is ∙ ap (λ v. h.gone ++ v) (sym held);
      base_is = base ∙ h.base_is;
      fresh = λ e. absurd (false≢true (sym e ∙ begun));
      leads = λ e. subst (Leads come pieces) (sym there) leads;
      at = at_same t.state s.state (looked_at t) (looked_at s) state (ap (λ k. take k (open_text t)) count ∙ ap (take (s.seen - s.from)) same) h.at;
    }

-- bytes are looked at
pub advanced_same : (s t : Stream) (count : ℕ) → s.from ≤ s.seen → ((text : List ℕ) → IsAt s.state text → IsAt t.state (text ++ take count (drop s.seen s.held.items)))
    → t.held.items ≡ s.held.items → t.base ≡ s.base → t.from ≡ s.from → t.seen ≡ s.seen + count → t.begun ≡ s.begun → IsSameInput s t
unfolding HasCome
advanced_same s t count ordered moves held base from seen begun come pieces has =
    let h : Holding come pieces s = has in
    let there : open_text t ≡ open_text s = ap (λ k. drop k t.held.items) from ∙ ap (drop s.from) held in
    let n : t.seen - t.from ≡ (s.seen + count) - s.from = omega (arith, seen, from) in
    record {
      gone = h.gone;
      come_is = h.come_is ∙ ap (λ v. h.gone ++ v) (sym held);
      base_is = base ∙ h.base_is;
      fresh = λ e. let f = h.fresh (sym begun ∙ e) in record { none = f.none; base = base ∙ f.base; from = from ∙ f.from };
      leads = λ e. subst (Leads come pieces) (sym there) (h.leads (sym begun ∙ e));
      at = subst (IsAt t.state) (sym (ap (λ k. take k (open_text t)) n ∙ ap (take ((s.seen + count) - s.from)) there ∙ taken_on s.held.items s.from s.seen count ordered)) (moves (looked_at s) h.at);
    }

-- a piece is cut off
pub cut_gives : (s t : Stream) (piece : Piece) → s.begun ≡ true → s.from ≤ s.seen → s.seen < length s.held.items → ends_at s.state (get_or s.held.items s.seen 0) ≡ true
    → IsText s.state (looked_at s) (s.base + s.from) piece
    → t.held.items ≡ s.held.items → t.base ≡ s.base → t.from ≡ s.seen + 1 → t.seen ≡ s.seen + 1 → t.state ≡ state_of Plain true → t.begun ≡ true → Gives piece s t
unfolding HasCome
cut_gives s t piece was ordered within ends is held base from seen state begun come pieces has =
    let h : Holding come pieces s = has in
    let items = s.held.items in
    let text = looked_at s in
    let rest = drop (s.seen + 1) items in
    let e = ends_is s.state (get_or items s.seen 0) ends in
    let whole : open_text s ≡ text ++ 59 ∷ rest = split_at items s.from s.seen ordered ∙ ap (λ v. text ++ v) (drop_more items s.seen 0 within ∙ ap (λ x. x ∷ rest) e.0) in
    let there : open_text t ≡ rest = ap (λ k. drop k t.held.items) from ∙ ap (drop (s.seen + 1)) held in
    let place : (s.base + s.from) + length (text ++ 59 ∷ rest) ≡ length come =
    omega (arith, ap length (sym whole), length-drop s.from items, h.base_is, ap length h.come_is, length-append h.gone items, ordered, within) in
    let leads = leads_cut come text rest pieces s.state (s.base + s.from) piece (subst (Leads come pieces) whole (h.leads was)) h.at e.1 is place in
    let none : t.seen - t.from ≡ 0 = omega (arith, seen, from) in
    record {
      gone = h.gone;
      come_is = h.come_is ∙ ap (λ v. h.gone ++ v) (sym held);
      base_is = base ∙ h.base_is;
      fresh = λ u. absurd (false≢true (sym u ∙ begun));
      leads = λ u. subst (Leads come (pieces ++ piece ∷ [])) (sym there) leads;
      at = at_same t.state (state_of Plain true) (take (t.seen - t.from) (open_text t)) [] state (ap (λ k. take k (open_text t)) none) start_at;
    }

-- ---- the end of the input

-- the bytes looked at are all that is held behind the last piece
pub all_looked_at : (s : Stream) → s.from ≤ s.seen → s.seen ≡ length s.held.items → looked_at s ≡ open_text s
all_looked_at s ordered all = take_all (s.seen - s.from) (open_text s) (omega (arith, all, ordered, length-drop s.from s.held.items))

-- all is looked at where the front isn't known yet
pub unknown_all : (s : Stream) → (s.seen < length s.held.items → ends_at s.state (get_or s.held.items s.seen 0) ≡ true) → s.seen ≤ length s.held.items → front_at s.held.items ≡ Unknown → HasLookedAtAll s
unfolding HasLookedAtAll
unknown_all s ended within unknown = record {
  all = elim (cases_lt s.seen (length s.held.items)) [
    | inl less ↦ absurd (unknown_no_cut s.held.items s.seen unknown less (ends_is s.state (get_or s.held.items s.seen 0) (ended less)).0)
    | inr past ↦ omega (arith, within, past)
  ];
  unknown = λ e. unknown;
}

pub begun_all : (s : Stream) → s.begun ≡ true → s.seen ≡ length s.held.items → HasLookedAtAll s
unfolding HasLookedAtAll
begun_all s begun all = record { all = all; unknown = λ e. absurd (false≢true (sym e ∙ begun)) }

leads_end : (come : List ℕ) (pieces : List Piece) (rest : List ℕ) → Leads come pieces rest → AreCutOff (length come) (after_mark come) pieces rest
leads_end come pieces rest leads =
    let at = subst (λ (v : List ℕ). AreCutOff (length v) (after_mark v) pieces (rest ++ [])) (append-nil come) (leads []) in
    subst (AreCutOff (length come) (after_mark come) pieces) (append-nil rest) at

fresh_end : (come : List ℕ) (pieces : List Piece) (s : Stream) → Holding come pieces s → IsFresh pieces s → front_at s.held.items ≡ Unknown → AreCutOff (length come) (after_mark come) pieces (open_text s)
fresh_end come pieces s h f unknown =
    let gone : h.gone ≡ [] = nil_from_length h.gone (sym h.base_is ∙ f.base) in
    let come_is : come ≡ s.held.items = h.come_is ∙ ap (λ v. v ++ s.held.items) gone in
    let marked : after_mark come ≡ come = subst (λ (v : List ℕ). after_mark v ≡ v) (sym come_is) (unknown_mark s.held.items unknown) in
    let there : open_text s ≡ come = ap (λ k. drop k s.held.items) f.from ∙ sym come_is in
    subst (λ (v : List Piece). AreCutOff (length come) (after_mark come) v (open_text s)) (sym f.none) (marked ∙ sym there)

end_leads : (come : List ℕ) (pieces : List Piece) (s : Stream) → Holding come pieces s → LooksAtAll s → AreCutOff (length come) (after_mark come) pieces (open_text s)
end_leads come pieces s h all = by_begun s.begun refl
  where
    by_begun : (v : Bool) → s.begun ≡ v → AreCutOff (length come) (after_mark come) pieces (open_text s)
    by_begun true e = leads_end come pieces (open_text s) (h.leads e)
    by_begun false e = fresh_end come pieces s h (h.fresh e) (all.unknown e)

pub last_closes : (s : Stream) (piece : Piece) → s.from ≤ s.seen → HasLookedAtAll s → IsText s.state (looked_at s) (s.base + s.from) piece → Closes s piece
unfolding HasCome HasLookedAtAll
last_closes s piece ordered looked is come pieces has =
    let h : Holding come pieces s = has in
    let all : LooksAtAll s = looked in
    let whole = all_looked_at s ordered all.all in
    let place : (s.base + s.from) + length (open_text s) ≡ length come =
    omega (arith, length-drop s.from s.held.items, h.base_is, ap length h.come_is, length-append h.gone s.held.items, ordered, all.all) in
    leads_last come (open_text s) pieces s.state (s.base + s.from) piece (end_leads come pieces s h all) (subst (IsAt s.state) whole h.at)
    (subst (λ (v : List ℕ). IsText s.state v (s.base + s.from) piece) whole is) place

-- it is as long as the open text
pub last_len : (s : Stream) (piece : Piece) → s.from ≤ s.seen → HasLookedAtAll s → IsText s.state (looked_at s) (s.base + s.from) piece → piece.span.end - piece.span.start ≡ length (open_text s)
unfolding HasLookedAtAll
last_len s piece ordered looked is =
    let all : LooksAtAll s = looked in
    omega (arith, is.start, is.end, ap length (all_looked_at s ordered all.all))

-- the open text, as a piece
open_piece : Stream → Piece
open_piece s = record { span = record { start = s.base + s.from; end = (s.base + s.from) + length (looked_at s) }; blank = is_blank_piece s.state }

open_is : (s : Stream) → IsText s.state (looked_at s) (s.base + s.from) (open_piece s)
unfolding open_piece
open_is s = record { start = refl; end = refl; blank = refl }

pub given_all : (s : Stream) → s.from ≤ s.seen → HasLookedAtAll s → IsUpToDate s
given_all s ordered all come pieces has = (open_piece s, last_closes s (open_piece s) ordered all (open_is s) come pieces has)

-- ---- texts

pub text_is : (s : Stream) (span : Span) (come : List ℕ) (pieces : List Piece) → Holds s span → HasCome come pieces s
    → take ((span.end - s.base) - (span.start - s.base)) (drop (span.start - s.base) s.held.items) ≡ text_at come span
unfolding HasCome
text_is s span come pieces holds has =
    let h : Holding come pieces s = has in
    let n = span.start - s.base in
    let at : length h.gone + n ≡ span.start = omega (arith, h.base_is, holds.from) in
    let count : (span.end - s.base) - n ≡ span.end - span.start = omega (arith, holds.from, holds.ordered) in
    let there : drop n s.held.items ≡ drop span.start come =
    sym (drop-append-add h.gone s.held.items n) ∙ ap (λ v. drop (length h.gone + n) v) (sym h.come_is) ∙ ap (λ k. drop k come) at in
    ap (λ k. take k (drop n s.held.items)) count ∙ ap (take (span.end - span.start)) there
