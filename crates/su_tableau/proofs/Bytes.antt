-- A tableau of bytes is frozen to bytes.
use Rattle.std.proofs.Common.{ℕ, ◌+◌, ◌<◌, List, get_or, All, arith}
use Rattle.std.proofs.lemmas.List.Elements.{All-map, All-replicate}
use Rattle.su_base.specs.declared.values.Kind.{Kind}
use Rattle.su_base.specs.declared.values.Kind.TheVariants.{Int as IntKind, Text as TextKind}
use Rattle.su_tableau.specs.declared.symbols.Sym.{Sym}
use Rattle.su_tableau.specs.declared.symbols.Sym.TheVariants.{Const, Var}
use Rattle.su_tableau.specs.Tableaux.{Tab}
use Rattle.su_tableau.specs.Valuations.{value_of, values_of}
use Rattle.su_tableau.specs.FrozenTableaux.{new_value, frozen, frozen_head, frozen_rows, tab_top}
use Rattle.su_tableau.specs.Bytes.{IsOfBytes, IsByteSymbol, HasByteConstants, BytesSuffice, LeastOverBytes}
use Rattle.su_tableau.proofs.FrozenTableaux.{frozen_typed, frozen_answer, frozen_maps}
use Rattle.su_tableau.proofs.Containment.{maps_within}

new_bytes : (kind : Kind) (n : ℕ) → IsOfBytes (new_value kind n)
new_bytes IntKind n = tt
new_bytes TextKind n = All-replicate (λ b. b < 256) n 0 (omega arith)

value_bytes : (f : ℕ → Kind) (n : ℕ) (x : Sym) → IsByteSymbol x → IsOfBytes (value_of (frozen f n) x)
value_bytes f n (Const c) b = b
value_bytes f n (Var k) b = new_bytes (f k) (n + k)

row_bytes : (f : ℕ → Kind) (n : ℕ) (row : List Sym) → All IsByteSymbol row → All IsOfBytes (values_of (frozen f n) row)
row_bytes f n row b = All-map IsOfBytes (value_of (frozen f n)) row (λ k d h. value_bytes f n (get_or row k d) (b k d h))

frozen_bytes : (f : ℕ → Kind) (n : ℕ) (t : Tab) → HasByteConstants t → All (All IsOfBytes) (frozen_rows f n t)
frozen_bytes f n t b = All-map (All IsOfBytes) (values_of (frozen f n)) t.rows (λ k d h. row_bytes f n (get_or t.rows k d) (b k d h))

pub within_by_bytes : BytesSuffice
within_by_bytes kinds s t typed bytes within =
    let n = tab_top t + tab_top s in
    let f = typed.var_kind in
    let ext = within (frozen_rows f n s) (frozen_head f n s) (record { typed = frozen_typed kinds s typed n; bytes = frozen_bytes f n s bytes }) (frozen_answer s f n) in
    maps_within kinds t s (frozen_maps t s f n (omega arith) (omega arith) ext)

pub least_by_bytes : LeastOverBytes
least_by_bytes kinds s t typed_s typed_t bytes_s bytes_t valid least one other =
    least s valid typed_s (λ universe h typed. (within_by_bytes kinds s t typed_s bytes_s one universe h typed, within_by_bytes kinds t s typed_t bytes_t other universe h typed))
