-- Steps that are taken one after another, and the renames that stand for them.
use Rattle.std.proofs.Common.{◌≡◌, ◌↔◌, ℕ, ◌+◌, ◌<◌, ◌≤◌, List, [], ◌∷◌, ◌++◌, length, get_or, take, refl, sym, ap, ◌∙◌, subst, arith, below_more, ⊎_elim}
use Rattle.std.proofs.Math.Seq.{get_or-append_seam, take-append_seam}
use Rattle.std.proofs.lemmas.Bool.{cases_lt}
use Rattle.std.proofs.lemmas.List.{get_or-take, get_or_append_left, length-append, length-take-le, take-append-le, take-take, take_all, take_more}
use Rattle.std.proofs.lemmas.List.Elements.{All-push}
use Rattle.su_base.proofs.Items.{All-append_left, All-middle}
use Rattle.su_fd.specs.declared.dependencies.Fd.{Fd}
use Rattle.su_tableau.specs.declared.symbols.Sym.{Sym}
use Rattle.su_clash.specs.declared.renaming.Pair.{Pair}
use Rattle.su_clash.specs.declared.renaming.Rename.{Rename}
use Rattle.su_clash.specs.declared.steps.Step.{Step}
use Rattle.su_clash.specs.Derivations.{KeepsStep, Follows, IsDerivation, Clashes, Refutes}
use Rattle.su_clash.specs.inside.Renames.{renamed, Makes, Meet, StepIsTaken, FollowsBy, AreRenamesOf, IsFront}
use Rattle.su_clash.proofs.Equalities.{equal_names, no_clash}

abbrev pub none : Step
none = record { fd = 0; first = 0; second = 0 }

module _ (fds : List Fd) (rows : List (List Sym)) where
  -- no renames stand for no steps
  pub begun : AreRenamesOf fds rows [] []
  begun = record {
    kept = λ k d l. absurd (omega (arith, l));
    sound = λ label keeps x. refl;
    names = record { constants = λ c. refl; again = λ x. refl };
  }

  module _ (steps : List Step) (old : List Rename) (are : AreRenamesOf fds rows steps old) (s : Step) where
    -- by these names a step follows exactly where it does by the steps before
    pub follows_is : FollowsBy fds rows old s ↔ Follows fds rows steps s
    follows_is = (
      λ f. record {
        fd = f.named.fd;
        first = f.named.first;
        second = f.named.second;
        left = λ a d has. (equal_names fds rows steps old are (get_or (get_or rows s.first []) a d) (get_or (get_or rows s.second []) a d)).1 (f.left a d has);
      },
      λ f. record {
        named = record { fd = f.fd; first = f.first; second = f.second };
        left = λ a d has. (equal_names fds rows steps old are (get_or (get_or rows s.first []) a d) (get_or (get_or rows s.second []) a d)).0 (f.left a d has);
      },
    )

    pub taken : (new : List Rename) → Makes (StepIsTaken fds rows s) old new → AreRenamesOf fds rows (steps ++ s ∷ []) new
    taken new m = record {
      kept = All-push (KeepsStep fds rows (renamed new)) steps s (λ k d l a e has. m.kept (get_or (get_or rows (get_or steps k d).first []) a e) (get_or (get_or rows (get_or steps k d).second []) a e) (are.kept k d l a e has)) m.made;
      sound = λ label keeps.
          m.sound label (are.sound label (All-append_left (KeepsStep fds rows label) steps (s ∷ []) keeps)) (All-middle (KeepsStep fds rows label) steps s [] keeps);
      names = m.names are.names;
    }

    -- a step that follows makes the derivation longer
    pub derivation_more : IsDerivation fds rows steps → FollowsBy fds rows old s → IsDerivation fds rows (steps ++ s ∷ [])
    derivation_more before follows k d l =
        let more : List Step = steps ++ s ∷ [] in
        let long = length-append steps (s ∷ []) in
        ⊎_elim
        (λ (low : k < length steps).
        subst (λ (xs : List Step). Follows fds rows xs (get_or more k d)) (sym (take-append-le k steps (s ∷ []) (omega (arith, low))))
        (subst (Follows fds rows (take k steps)) (sym (get_or_append_left steps (s ∷ []) d k low)) (before k d low)))
        (λ (high : length steps ≤ k).
        let last : k ≡ length steps = omega (arith, high, l, long) in
        subst (λ (n : ℕ). Follows fds rows (take n more) (get_or more n d)) (sym last)
        (subst (λ (xs : List Step). Follows fds rows xs (get_or more (length steps) d)) (sym (take-append_seam steps (s ∷ [])))
        (subst (Follows fds rows steps) (sym (get_or-append_seam steps s [] d)) (follows_is.0 follows))))
        (cases_lt k (length steps))

    pub meets : (p : Pair) → Meet (StepIsTaken fds rows s) old p → Clashes fds rows (steps ++ s ∷ []) p.one p.other
    meets p m = record {
      differ = m.differ;
      equal = λ label keeps.
          m.forced label (are.sound label (All-append_left (KeepsStep fds rows label) steps (s ∷ []) keeps)) (All-middle (KeepsStep fds rows label) steps s [] keeps);
    }

module _ (fds : List Fd) (rows : List (List Sym)) (steps : List Step) where
  -- the first steps, below n, follow
  abbrev pub FollowBelow : ℕ → Type 0
  FollowBelow n = (k : ℕ) (d : Step) → k < n → Follows fds rows (take k steps) (get_or steps k d)

  pub front_follows : (n : ℕ) → n ≤ length steps → FollowBelow n → IsDerivation fds rows (take n steps)
  front_follows n long below k d l =
      let low : k < n = let e = length-take-le n steps long in omega (arith, e, l) in
      subst (λ (before : List Step). Follows fds rows before (get_or (take n steps) k d)) (sym (take-take k n steps (omega (arith, low))))
      (subst (Follows fds rows (take k steps)) (sym (get_or-take n steps k d low)) (below k d low))

  module _ (n : ℕ) (s : Step) (is : (d : Step) → get_or steps n d ≡ s) (low : n < length steps) (renames : List Rename) (are : AreRenamesOf fds rows (take n steps) renames) where
    next : take (n + 1) steps ≡ take n steps ++ s ∷ []
    next = take_more steps n s low ∙ ap (λ (x : Step). take n steps ++ x ∷ []) (is s)

    pub one_more : FollowBelow n → FollowsBy fds rows renames s → FollowBelow (n + 1)
    one_more below follows k d l =
        below_more (λ (j : ℕ). (e : Step) → Follows fds rows (take j steps) (get_or steps j e)) n (λ j low e. below j e low)
        (λ e. subst (Follows fds rows (take n steps)) (sym (is e)) ((follows_is fds rows (take n steps) renames are s).0 follows)) k l d

    pub renames_more : (new : List Rename) → Makes (StepIsTaken fds rows s) renames new → AreRenamesOf fds rows (take (n + 1) steps) new
    renames_more new m = subst (λ (before : List Step). AreRenamesOf fds rows before new) (sym next) (taken fds rows (take n steps) renames are s new m)

    pub front_refutes : (p : Pair) → FollowBelow (n + 1) → Meet (StepIsTaken fds rows s) renames p → IsFront fds rows steps (record { count = n + 1; pair = p })
    front_refutes p below m = record {
      some = omega (arith, low);
      refutes = record {
        derivation = front_follows (n + 1) (omega (arith, low)) below;
        clash = subst (λ (before : List Step). Clashes fds rows before p.one p.other) (sym next) (meets fds rows (take n steps) renames are s p m);
      };
    }

    -- a step that doesn't follow ends every hope
    pub refused : ¬ FollowsBy fds rows renames s → ¬ Refutes fds rows steps
    refused out r = out ((follows_is fds rows (take n steps) renames are s).1 (subst (Follows fds rows (take n steps)) (is s) (r.derivation n s low)))

  -- after all steps no two constants met
  pub in_vain : (n : ℕ) (renames : List Rename) → length steps ≤ n → AreRenamesOf fds rows (take n steps) renames → ¬ Refutes fds rows steps
  in_vain n renames long are r =
      no_clash fds rows (take n steps) renames are r.one r.other (subst (λ (all : List Step). Clashes fds rows all r.one r.other) (sym (take_all n steps long)) r.clash)
