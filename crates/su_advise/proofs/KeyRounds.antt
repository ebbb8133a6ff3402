-- The keys among sets that are the needed attributes and some free ones, one set after another.
use Rattle.std.proofs.Common.{ℕ, ◌≡◌, ◌+◌, ◌<◌, ◌↔◌, ◌⊎◌, IsTrue, Bool, true, false, inl, inr, List, [], ◌∷◌, ◌++◌, if◌then◌else◌, take, length, get_or, Contains, refl, sym, ap, subst, ◌∙◌, ⊎_elim, arith, append-nil, All}
use Rattle.std.specs.Ordering.{nat_cmp}
use Rattle.std.specs.FinSet.{FinSet, contains, is_subset, union, difference, empty}
use Rattle.std.proofs.lemmas.Bool.{false≢true}
use Rattle.std.proofs.lemmas.List.{length-take, get_or-take, get_or_default, take_more, take_all}
use Rattle.std.proofs.lemmas.List.Elements.{Contains-append_left, Contains-push, Contains-push_cases, Contains-get_or}
use Rattle.su_base.specs.Lists.{AllDiffer, AreExactly}
use Rattle.su_base.proofs.Items.{Contains-nil, AllDiffer-push, All-members}
use Rattle.su_base.proofs.Subsets.{subset_at, subset_by}
use Rattle.su_fd.specs.Closure.{InClosure}
use Rattle.su_fd.specs.declared.dependencies.Fd.{Fd}
use Rattle.su_advise.specs.Keys.{IsKey, AreKeys, AreNeeded}
use Rattle.su_advise.specs.inside.Extras.{AreLow, AreRest}
use Rattle.su_advise.specs.inside.Subsets.{AreSubsetsOf}
use Rattle.su_advise.proofs.Keyed.{key_has_needed, key_rest_free, free_apart, together, taken_apart}

-- the keys of which the rest is among the first n of the sets
pub record AreKeysTo (fds : List Fd) (all needed : FinSet nat_cmp) (extras : List (FinSet nat_cmp)) (n : ℕ) (keys : List (FinSet nat_cmp)) : Type 0 where
  pub differ : AllDiffer keys
  pub members : (x : FinSet nat_cmp) → Contains keys x ↔ IsKey fds all x × Contains (take n extras) (difference x needed)

module _ (fds : List Fd) (all needed free : FinSet nat_cmp) (needed_are : AreNeeded fds all needed) (free_are : (a : ℕ) → IsTrue (contains free a) ↔ IsTrue (contains all a) × (InClosure fds needed a → ⊥))
    (extras : List (FinSet nat_cmp)) (differ : AllDiffer extras) (are : (s : FinSet nat_cmp) → Contains extras s ↔ IsTrue (is_subset s free)) where
  pub keys_none : (keys : List (FinSet nat_cmp)) → keys ≡ [] → AreKeysTo fds all needed extras 0 keys
  keys_none keys e = subst (AreKeysTo fds all needed extras 0) (sym e) (record {
    differ = λ i j d lt within. absurd (omega arith);
    members = λ x. (λ c. absurd (Contains-nil x c), λ w. absurd (Contains-nil (difference x needed) w.1));
  })

  module _ (n : ℕ) (low : n < length extras) (keys : List (FinSet nat_cmp)) (before : AreKeysTo fds all needed extras n keys) (extra set : FinSet nat_cmp) (is : extra ≡ get_or extras n empty) (set_is : set ≡ union needed extra) where
    inside : Contains extras extra
    inside = subst (Contains extras) (sym is) (Contains-get_or extras n empty low)

    rest_is : difference set needed ≡ extra
    rest_is = ap (λ (s : FinSet nat_cmp). difference s needed) set_is ∙ taken_apart needed extra (λ a one two. free_apart fds all needed free needed_are free_are a (subset_at extra free a ((are extra).0 inside) one) two)

    more : take (n + 1) extras ≡ take n extras ++ extra ∷ []
    more = take_more extras n empty low ∙ ap (λ t. take n extras ++ t ∷ []) (sym is)

    fresh : Contains (take n extras) extra → ⊥
    fresh c =
        let j = c.0 in
        let small : j < n = omega (arith, c.1, length-take n extras) in
        let same : get_or extras j extra ≡ extra = sym (get_or-take n extras j extra small) ∙ c.2 in
        differ j n empty small low (sym (get_or_default extras j extra empty (omega arith)) ∙ same ∙ is)

    wider : (x : FinSet nat_cmp) → Contains (take n extras) (difference x needed) → Contains (take (n + 1) extras) (difference x needed)
    wider x c = subst (λ ts. Contains ts (difference x needed)) (sym more) (Contains-append_left (take n extras) (extra ∷ []) (difference x needed) c)

    -- a key whose rest is among the first n + 1 extras: among the first n, or the set itself
    last : (x : FinSet nat_cmp) → IsKey fds all x → Contains (take (n + 1) extras) (difference x needed) → Contains (take n extras) (difference x needed) ⊎ (set ≡ x)
    last x key c = ⊎_elim
        (λ (old : Contains (take n extras) (difference x needed)). inl old)
        (λ (new : extra ≡ difference x needed). inr (set_is ∙ ap (union needed) new ∙ together x needed (key_has_needed fds all needed free needed_are free_are x key)))
        (Contains-push_cases (take n extras) extra (difference x needed) (subst (λ ts. Contains ts (difference x needed)) more c))

    keys_in : IsKey fds all set → AreKeysTo fds all needed extras (n + 1) (keys ++ set ∷ [])
    keys_in key = record {
      differ = AllDiffer-push keys set before.differ (λ c. fresh (subst (Contains (take n extras)) rest_is ((before.members set).0 c).1));
      members = λ x. (
        λ c. ⊎_elim
            (λ (old : Contains keys x). let w = (before.members x).0 old in (w.0, wider x w.1))
            (λ (new : set ≡ x). subst (λ (y : FinSet nat_cmp). IsKey fds all y × Contains (take (n + 1) extras) (difference y needed)) new
            (key, subst (λ ts. Contains ts (difference set needed)) (sym more) (subst (Contains (take n extras ++ extra ∷ [])) (sym rest_is) (Contains-push (take n extras) extra))))
            (Contains-push_cases keys set x c),
        λ w. ⊎_elim
            (λ (old : Contains (take n extras) (difference x needed)). Contains-append_left keys (set ∷ []) x ((before.members x).1 (w.0, old)))
            (λ (new : set ≡ x). subst (Contains (keys ++ set ∷ [])) new (Contains-push keys set))
            (last x w.0 w.1),
      );
    }

    keys_out : (IsKey fds all set → ⊥) → AreKeysTo fds all needed extras (n + 1) keys
    keys_out none = record {
      differ = before.differ;
      members = λ x. (
        λ c. let w = (before.members x).0 c in (w.0, wider x w.1),
        λ w. ⊎_elim
            (λ (old : Contains (take n extras) (difference x needed)). (before.members x).1 (w.0, old))
            (λ (new : set ≡ x). absurd (none (subst (IsKey fds all) (sym new) w.0)))
            (last x w.0 w.1),
      );
    }

    pub keys_next : (b : Bool) (next : List (FinSet nat_cmp)) → (IsTrue b ↔ IsKey fds all set) → next ≡ keys ++ (if b then set ∷ [] else []) → AreKeysTo fds all needed extras (n + 1) next
    keys_next true next tells e = subst (AreKeysTo fds all needed extras (n + 1)) (sym e) (keys_in (tells.0 refl))
    keys_next false next tells e = subst (AreKeysTo fds all needed extras (n + 1)) (sym (e ∙ append-nil keys)) (keys_out (λ key. false≢true (tells.1 key)))

  pub keys_all : (n : ℕ) (keys : List (FinSet nat_cmp)) → n ≡ length extras → AreKeysTo fds all needed extras n keys → AreKeys fds all keys
  keys_all n keys end before = record {
    differ = before.differ;
    members = λ x. (
      λ c. ((before.members x).0 c).0,
      λ key. (before.members x).1 (
        key,
        subst (λ ts. Contains ts (difference x needed)) (sym (ap (λ m. take m extras) end ∙ take_all (length extras) extras (omega arith)))
            ((are (difference x needed)).1 (key_rest_free fds all needed free needed_are free_are x key)),
      ),
    );
  }

-- the sets of the free attributes, by their numbers
pub sets_of_free : (free : FinSet nat_cmp) (numbers : List ℕ) (sets : List (FinSet nat_cmp)) → AreLow free → AreExactly (λ a. (a < 128) × IsTrue (contains free a)) numbers → AreSubsetsOf numbers sets → (s : FinSet nat_cmp) → Contains sets s ↔ IsTrue (is_subset s free)
sets_of_free free numbers sets low exactly subsets s = (
  λ c. subset_by s free (λ a one. ((exactly.members a).0 ((subsets.all s).0 c a one)).1),
  λ within. (subsets.all s).1 (λ a one. let there = subset_at s free a within one in (exactly.members a).1 (low a there, there)),
)

pub rest_low : (fds : List Fd) (all needed free : FinSet nat_cmp) → AreLow all → AreRest fds all needed free → AreLow free
rest_low fds all needed free low are a one = low a ((are a).0 one).0

pub numbers_low : (free : FinSet nat_cmp) (numbers : List ℕ) → AreExactly (λ a. (a < 128) × IsTrue (contains free a)) numbers → All (λ a. a < 128) numbers
numbers_low free numbers exactly = All-members (λ a. a < 128) numbers (λ a c. ((exactly.members a).0 c).0)
