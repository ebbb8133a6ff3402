-- Candidates are distinct by kind and number, and values that were given in turn.
use Rattle.std.proofs.Common.{◌≡◌, ◌≢◌, ◌⊎◌, ℕ, ◌+◌, ◌<◌, ◌≤◌, ◌^◌, inl, inr, ⊎_elim, List, [], ◌∷◌, ◌++◌, length, get_or, pos, Contains, refl, sym, ap, ◌∙◌, subst, arith, below_more}
use Rattle.std.proofs.lemmas.Bool.{cases_lt}
use Rattle.std.proofs.lemmas.Fmt.{decimal_injective}
use Rattle.std.proofs.lemmas.List.{get_or_append_left, get_or_push, length_push}
use Rattle.su_base.specs.declared.values.Kind.{Kind}
use Rattle.su_base.specs.declared.values.Kind.TheVariants.{Int as IntKind, Text as TextKind}
use Rattle.su_base.specs.declared.values.Value.{Value}
use Rattle.su_base.specs.declared.values.Value.TheVariants.{Int}
use Rattle.su_base.specs.Value.{kind_of}
use Rattle.su_tableau.specs.Valuations.{nth}
use Rattle.su_chase.specs.declared.candidates.Next.{Next}
use Rattle.su_chase.specs.Frozen.{candidate}
use Rattle.su_chase.specs.inside.Rows.{IsFreeAt, IsPast, count_of}

pub kind_candidate : (k : Kind) (n : ℕ) → kind_of (candidate k n) ≡ k
kind_candidate IntKind n = refl
kind_candidate TextKind n = refl

number_same : (k : Kind) (m n : ℕ) → m < 2 ^ 63 → n < 2 ^ 63 → candidate k m ≡ candidate k n → m ≡ n
number_same IntKind m n p q e = cc
number_same TextKind m n p q e = decimal_injective m n (omega arith) (omega arith) (cc)

kind_or : (j k : Kind) → (j ≡ k) ⊎ (j ≢ k)
kind_or IntKind IntKind = inl refl
kind_or IntKind TextKind = inr (λ e. cc)
kind_or TextKind IntKind = inr (λ e. cc)
kind_or TextKind TextKind = inl refl

-- what is below the counter of its kind is no candidate from its kind's counter on
fresh : (next : Next) (j k : Kind) (m n : ℕ) → count_of next j < 2 ^ 63 → n < 2 ^ 63 → m < count_of next j → count_of next k ≤ n → candidate j m ≡ candidate k n → ⊥
fresh next j k m n small_j small_n low high e =
    let js : j ≡ k = sym (kind_candidate j m) ∙ ap kind_of e ∙ kind_candidate k n in
    let same : candidate k m ≡ candidate k n = ap (λ x. candidate x m) (sym js) ∙ e in
    let below : m < count_of next k = subst (λ x. m < count_of next x) js low in
    let is : m ≡ n = number_same k m n (omega arith) small_n same in
    absurd (omega arith)

-- the first n values, where each kind's numbers below its counter are avoided or given
pub record AreGiven (avoid : List Value) (kinds : List Kind) (values : List Value) (next : Next) (n : ℕ) : Type 0 where
  pub each : length values ≡ n
  pub free : (p : ℕ) → p < n → IsFreeAt avoid (get_or kinds p IntKind) values p
  pub below : (p : ℕ) → p < n → (k : Kind) × (m : ℕ) × (m < count_of next k) × (nth values p ≡ candidate k m)
  pub covered : (k : Kind) (m : ℕ) → m < count_of next k → Contains avoid (candidate k m) ⊎ ((q : ℕ) × (q < n) × (nth values q ≡ candidate k m))
  pub small : (k : Kind) → count_of next k < 2 ^ 63

pub given_none : (avoid : List Value) (kinds : List Kind) (values : List Value) (next : Next) → values ≡ [] → next.int ≡ 0 → next.text ≡ 0 → AreGiven avoid kinds values next 0
given_none avoid kinds values next none a b =
    let zeros : (k : Kind) → count_of next k ≡ 0 = elim [ IntKind ↦ a | TextKind ↦ b ] in
    record {
      each = ap length none;
      free = λ p l. absurd (omega arith);
      below = λ p l. absurd (omega arith);
      covered = λ k m l. absurd (let e = zeros k in omega arith);
      small = λ k. let e = zeros k in omega arith;
    }

module _ (avoid : List Value) (kinds : List Kind) (values : List Value) (next : Next) (n : ℕ) (g : AreGiven avoid kinds values next n) (kind : Kind) (number : ℕ) (value : Value) (small : number + 1 < 2 ^ 63) (later : count_of next kind ≤ number) (free : ¬ Contains avoid (candidate kind number)) (least : (i : ℕ) → count_of next kind ≤ i → i < number → Contains avoid (candidate kind i)) (is : value ≡ candidate kind number) where
  abbrev more : List Value
  more = values ++ value ∷ []

  kept : (q : ℕ) → q < n → nth more q ≡ nth values q
  kept q l = get_or_append_left values (value ∷ []) (Int (pos 0)) q (let e = g.each in omega arith)

  last : nth more n ≡ candidate kind number
  last = get_or_push values value (Int (pos 0)) n g.each ∙ is

  free_kept : (p : ℕ) (k : Kind) → p < n → IsFreeAt avoid k values p → IsFreeAt avoid k more p
  free_kept p k l f = record {
    number = f.number;
    is = kept p l ∙ f.is;
    free = f.free;
    new = λ q lq e. f.new q lq (sym (kept q (omega arith)) ∙ e);
    least = λ i li.
        ⊎_elim
        (λ (a : Contains avoid (candidate k i)). inl a)
        (λ (w : (q : ℕ) × (q < p) × (nth values q ≡ candidate k i)). inr (w.0, w.1, kept w.0 (let o = w.1 in omega arith) ∙ w.2))
        (f.least i li);
  }

  free_last : IsFreeAt avoid kind more n
  free_last = record {
    number = number;
    is = last;
    free = free;
    new = λ q lq e. let b = g.below q lq in fresh next b.0 kind b.1 number (g.small b.0) (omega arith) b.2 later (sym b.3 ∙ sym (kept q lq) ∙ e);
    least = λ i li.
        ⊎_elim
        (λ (lt : i < count_of next kind).
        ⊎_elim
        (λ (a : Contains avoid (candidate kind i)). inl a)
        (λ (w : (q : ℕ) × (q < n) × (nth values q ≡ candidate kind i)). inr (w.0, w.1, kept w.0 w.1 ∙ w.2))
        (g.covered kind i lt))
        (λ (ge : count_of next kind ≤ i). inl (least i ge li))
        (cases_lt i (count_of next kind));
  }

  module _ (new : Next) (past : IsPast next kind number new) where
    grown : (k : Kind) → count_of next k ≤ count_of new k
    grown k =
        ⊎_elim
        (λ (e : k ≡ kind). subst (λ x. count_of next x ≤ count_of new x) (sym e) (let h = past.here in omega arith))
        (λ (o : k ≢ kind). let h = past.others k o in omega arith)
        (kind_or k kind)

    small_more : (k : Kind) → count_of new k < 2 ^ 63
    small_more k =
        ⊎_elim
        (λ (e : k ≡ kind). subst (λ x. count_of new x < 2 ^ 63) (sym e) (let h = past.here in omega arith))
        (λ (o : k ≢ kind). let h = past.others k o in let s = g.small k in omega arith)
        (kind_or k kind)

    covered_here : (m : ℕ) → m < number + 1 → Contains avoid (candidate kind m) ⊎ ((q : ℕ) × (q < n + 1) × (nth more q ≡ candidate kind m))
    unfolding free_last
    covered_here m l =
        ⊎_elim
        (λ (lt : m < number).
        ⊎_elim
        (λ (a : Contains avoid (candidate kind m)). inl a)
        (λ (w : (q : ℕ) × (q < n) × (nth more q ≡ candidate kind m)). inr (w.0, (let o = w.1 in omega arith), w.2))
        (free_last.least m lt))
        (λ (ge : number ≤ m). let e : number ≡ m = omega arith in inr (n, omega arith, last ∙ ap (candidate kind) e))
        (cases_lt m number)

    covered_more : (k : Kind) (m : ℕ) → m < count_of new k → Contains avoid (candidate k m) ⊎ ((q : ℕ) × (q < n + 1) × (nth more q ≡ candidate k m))
    covered_more k m l =
        ⊎_elim
        (λ (e : k ≡ kind).
        let lk : m < count_of new kind = subst (λ x. m < count_of new x) e l in
        subst (λ x. Contains avoid (candidate x m) ⊎ ((q : ℕ) × (q < n + 1) × (nth more q ≡ candidate x m))) (sym e) (covered_here m (let h = past.here in omega arith)))
        (λ (o : k ≢ kind).
        ⊎_elim
        (λ (a : Contains avoid (candidate k m)). inl a)
        (λ (w : (q : ℕ) × (q < n) × (nth values q ≡ candidate k m)). inr (w.0, (let b = w.1 in omega arith), kept w.0 w.1 ∙ w.2))
        (g.covered k m (let h = past.others k o in omega arith)))
        (kind_or k kind)

    pub given_more : kind ≡ get_or kinds n IntKind → AreGiven avoid kinds more new (n + 1)
    given_more kind_is = record {
      each = let e = length_push values value in let i = g.each in omega arith;
      free = below_more (λ p. IsFreeAt avoid (get_or kinds p IntKind) more p) n (λ p l. free_kept p (get_or kinds p IntKind) l (g.free p l)) (subst (λ k. IsFreeAt avoid k more n) kind_is free_last);
      below = below_more (λ p. (k : Kind) × (m : ℕ) × (m < count_of new k) × (nth more p ≡ candidate k m)) n (λ p l. let b = g.below p l in (b.0, b.1, (let o = b.2 in let i = grown b.0 in omega arith), kept p l ∙ b.3)) (kind, number, (let h = past.here in omega arith), last);
      covered = covered_more;
      small = small_more;
    }
