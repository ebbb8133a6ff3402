-- The body is the three edges and the rest; their join has each variable of theirs that is still needed, so that it takes their place.
use Rattle.std.proofs.Common.{◌≡◌, ◌∷◌, ◌++◌, ◌⊎◌, ◌<◌, ◌+◌, [], List, ℕ, true, length, refl, ap, ◌∙◌, inl, inr, ⊎_elim, arith, length-append}
use Rattle.std.proofs.lemmas.List.Edits.{length-remove}
use Rattle.su_exec.specs.declared.checks.Check.{Check}
use Rattle.su_exec.specs.inside.Checks.{all_hold, check_vars}
use Rattle.su_exec.specs.inside.Edges.{Edge, always, among, has}
use Rattle.su_exec.proofs.Triples.{first_of_three, second_of_three, splits_more, third_of_three}
use Rattle.su_exec.proofs.Parts.{one_out, put_step}
use Rattle.su_exec.proofs.BodySteps.{hold_test, there_step}
use Rattle.su_exec.proofs.MergeSteps.{among_removed}
use Rattle.su_exec.proofs.cycles.close.Goals as goal
use Rattle.su_exec.proofs.cycles.close.Goals.{In_ok-joined}
use Rattle.su_exec.proofs.Splits.{Splits}

-- the three edges and the rest
module _ (c : In_ok-joined) where
  abbrev es : List (Edge ℕ)
  es = c.args.body.now.edges.items

  abbrev fs : List (Edge ℕ)
  fs = c.remove-a.new.self.items

  abbrev hs : List (Edge ℕ)
  hs = c.remove-b.new.self.items

  abbrev rest : List (Edge ℕ)
  rest = c.remove-c.new.self.items

  abbrev a : Edge ℕ
  a = c.remove-a.result

  abbrev b : Edge ℕ
  b = c.remove-b.result

  abbrev d : Edge ℕ
  d = c.remove-c.result

  abbrev g : Edge ℕ
  g = c.in_ok-joined.joined

  abbrev gs : List (Edge ℕ)
  gs = a ∷ b ∷ d ∷ []

  abbrev checks : List Check
  checks = c.args.body.now.checks.items

  one_less : length fs + 1 ≡ length es
  one_less = ap (λ (xs : List (Edge ℕ)). length xs + 1) c.remove-a.ensures.items ∙ length-remove es c.args.three.0 c.requires.first

  second_low : c.args.three.1 < length fs
  second_low = let n = one_less in let l = c.requires.second in omega arith

  two_less : length hs + 1 ≡ length fs
  two_less = ap (λ (xs : List (Edge ℕ)). length xs + 1) c.remove-b.ensures.items ∙ length-remove fs c.args.three.1 second_low

  third_low : c.args.three.2 < length hs
  third_low = let n = one_less in let m = two_less in let l = c.requires.third in omega arith

  splits : Splits es gs rest
  splits =
      splits_more es fs rest (b ∷ d ∷ []) a (one_out es c.args.three.0 a fs c.requires.first c.remove-a.ensures.value c.remove-a.ensures.items)
      (splits_more fs hs rest (d ∷ []) b (one_out fs c.args.three.1 b hs second_low c.remove-b.ensures.value c.remove-b.ensures.items)
      (one_out hs c.args.three.2 d rest third_low c.remove-c.ensures.value c.remove-c.ensures.items))

  parts : (k : ℕ) → among es k ≡ true → (among gs k ≡ true) ⊎ (among rest k ≡ true)
  parts k h =
      ⊎_elim
      (λ (x : has a.vars k ≡ true). inl (first_of_three a b d k x))
      (λ x.
      ⊎_elim
      (λ (y : has b.vars k ≡ true). inl (second_of_three a b d k y))
      (λ y.
      ⊎_elim
      (λ (z : has d.vars k ≡ true). inl (third_of_three a b d k z))
      (λ z. inr (ap (λ (xs : List (Edge ℕ)). among xs k) c.remove-c.ensures.items ∙ z))
      (among_removed hs c.args.three.2 d k third_low c.remove-c.ensures.value (ap (λ (xs : List (Edge ℕ)). among xs k) c.remove-b.ensures.items ∙ y)))
      (among_removed fs c.args.three.1 b k second_low c.remove-b.ensures.value (ap (λ (xs : List (Edge ℕ)). among xs k) c.remove-a.ensures.items ∙ x)))
      (among_removed es c.args.three.0 a k c.requires.first c.remove-a.ensures.value h)

  out : (k : ℕ) → among gs k ≡ true → has c.in_ok-wanted.wanted.items k ≡ true → has g.vars k ≡ true
  out k h w = c.in_ok-joined.ensures.wanted k h (ap (λ ks. has ks k) c.deref.ensures.value ∙ w)

pub returns-clause-keeps : goal.returns-clause-keeps
returns-clause-keeps c =
    let x = (goal.at.returns-clause-keeps c).In_ok-joined in
    let values = c.args.codes.now in
    rw c.in_ok-push.ensures.items
    (put_step c.args.needed.now (check_vars (checks x)) (es x) (gs x) (rest x) (g x) (all_hold values (checks x)) always (all_hold values (checks x)) (splits x) (λ v. refl) c.in_ok-joined.ensures.keeps (λ v w h. refl) (hold_test values (checks x))
    (λ k h r. out x k h (c.in_ok-wanted.ensures.edges k r)) (λ k h n. out x k h (c.in_ok-wanted.ensures.needed k n)) (λ k h n. out x k h (c.in_ok-wanted.ensures.checks k n)))

pub returns-clause-there : goal.returns-clause-there
returns-clause-there c =
    let x = (goal.at.returns-clause-there c).In_ok-joined in
    rw c.in_ok-push.ensures.items
    (there_step c.args.needed.now (checks x) (checks x) (es x) (gs x) (rest x) (g x) c.requires.there (parts x) (λ k h. h)
    (λ k h n. out x k h (c.in_ok-wanted.ensures.needed k n)) (λ k h n. out x k h (c.in_ok-wanted.ensures.checks k n)))

pub returns-clause-some : goal.returns-clause-some
returns-clause-some c =
    let x = (goal.at.returns-clause-some c).In_ok-joined in
    let all : length c.push.new.self.items ≡ length (rest x ++ g x ∷ []) = ap length c.in_ok-push.ensures.items in
    let more = length-append (rest x) (g x ∷ []) in
    omega arith

pub returns-clause-fewer : goal.returns-clause-fewer
returns-clause-fewer c =
    let x = (goal.at.returns-clause-fewer c).In_ok-joined in
    let first : length (fs x) + 1 ≡ length (es x) = one_less x in
    let second : length (hs x) + 1 ≡ length (fs x) = two_less x in
    let third : length (rest x) + 1 ≡ length (hs x) = ap (λ (xs : List (Edge ℕ)). length xs + 1) c.remove-c.ensures.items ∙ length-remove (hs x) c.args.three.2 (third_low x) in
    let all : length c.push.new.self.items ≡ length (rest x ++ g x ∷ []) = ap length c.in_ok-push.ensures.items in
    let more = length-append (rest x) (g x ∷ []) in
    omega arith
