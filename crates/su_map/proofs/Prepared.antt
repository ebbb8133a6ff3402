-- What a room is prepared for: for fewer rows too, and for the same ones while its tables stay.
use Rattle.std.proofs.Common.{◌≡◌, ℕ, sym, subst}
use Rattle.std.specs.Int.{bit_at}
use Rattle.su_tableau.specs.Tableaux.{Tab}
use Rattle.su_map.specs.inside.Nets.{IsNetFor}
use Rattle.su_map.specs.Rooms.{Space, IsPreparedFor, StaysPrepared}

pub net_of : (s : Tab) (m : ℕ) (t : Tab) (k : ℕ) (room : Space) → IsPreparedFor s m t k room → IsNetFor s m t k room.net
unfolding IsPreparedFor
net_of s m t k room is = is

pub prepared_fewer : (s : Tab) (m n : ℕ) (t : Tab) (k l : ℕ) (room : Space) → IsPreparedFor s m t k room
    → ((i : ℕ) → bit_at n i ≡ 1 → bit_at m i ≡ 1) → ((j : ℕ) → bit_at l j ≡ 1 → bit_at k j ≡ 1) → IsPreparedFor s n t l room
unfolding IsPreparedFor
prepared_fewer s m n t k l room is in_rows in_targets =
    let for : IsNetFor s m t k room.net = is in
    record {
      rows = for.rows;
      targets = for.targets;
      is_net = for.is_net;
      has_rows = λ i h. for.has_rows i (in_rows i h);
      has_targets = λ j h. for.has_targets j (in_targets j h);
    }

pub stays_prepared : (old new : Space) → new.net ≡ old.net → StaysPrepared old new
unfolding IsPreparedFor
stays_prepared old new same s m t k is = subst (IsNetFor s m t k) (sym same) is
