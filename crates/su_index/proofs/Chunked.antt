-- Entries in chunks: where they stand, and what edits of one chunk do to the whole.
use Rattle.std.proofs.Common.{Result, Ok, Err, OnOk, is_ok, true, add-one, ◌≡◌, ◌<◌, ◌≤◌, ◌+◌, ◌-◌, ℕ, zero, suc, List, [], ◌∷◌, ◌++◌, length, get_or, take, drop, map, set, ap, subst, refl, sym, ◌∙◌, arith, inl, inr}
use Rattle.std.specs.List.{insert, remove}
use Rattle.std.proofs.lemmas.Bool.{cases_eq, false≢true, cases_lt}
use Rattle.std.proofs.lemmas.List.{append_assoc, append-nil, nil_from_length, length-append, length-take-le, length-drop, drop-map, take-append-drop, get_or_default, get_or_append_left, get_or-append-add, length_push}
use Rattle.std.proofs.Math.Seq.{drop-append-add}
use Rattle.std.proofs.lemmas.List.Concat.{get_or-flat_map, flat_map-append}
use Rattle.std.proofs.lemmas.List.Edits.{get_or-insert_below, insert-append_left, insert-append_right, remove-append_left, remove-append_right}
use Rattle.std.specs.VecDeque.{deque_len}
use Rattle.su_index.specs.declared.entry.Entry.{Entry}
use Rattle.su_index.specs.declared.chunk.Chunk.{Chunk}
use Rattle.su_index.specs.declared.place.ChunkPlace.{ChunkPlace}
use Rattle.su_index.specs.Entries.{entries_of, positions, stretch}
use Rattle.su_index.specs.inside.Chunks.{len_at, HaveEntries, capacity_at, before_chunk, rank_in, IsGap, IsPlace, HasRoomFrom}

-- ---- where an entry stands

pub before-suc : (chunks : List Chunk) (c : ℕ) (d : Chunk) → c < length chunks → before_chunk chunks (suc c) ≡ before_chunk chunks c + len_at chunks c d
before-suc [] c d h = absurd (omega arith)
before-suc (x ∷ chunks) zero d h = omega (arith, length-append x.entries.items [], x.entries.ok.0)
before-suc (x ∷ chunks) (suc c) d h = omega (arith, length-append x.entries.items (entries_of (take (suc c) chunks)), length-append x.entries.items (entries_of (take c chunks)), before-suc chunks c d (omega arith))

pub before-next : (chunks : List Chunk) (c : ℕ) (d : Chunk) → c < length chunks → before_chunk chunks (c + 1) ≡ before_chunk chunks c + len_at chunks c d
before-next chunks c d h = ap (before_chunk chunks) (add-one c) ∙ before-suc chunks c d h

pub before-most : (chunks : List Chunk) (c : ℕ) → before_chunk chunks c ≤ length (entries_of chunks)
before-most chunks zero = omega arith
before-most [] (suc c) = omega arith
before-most (x ∷ chunks) (suc c) = omega (arith, length-append x.entries.items (entries_of (take c chunks)), length-append x.entries.items (entries_of chunks), before-most chunks c)

pub before-all : (chunks : List Chunk) (c : ℕ) → length chunks ≤ c → before_chunk chunks c ≡ length (entries_of chunks)
before-all [] zero h = refl
before-all [] (suc c) h = refl
before-all (x ∷ chunks) zero h = absurd (omega arith)
before-all (x ∷ chunks) (suc c) h = omega (arith, length-append x.entries.items (entries_of (take c chunks)), length-append x.entries.items (entries_of chunks), before-all chunks c (omega arith))

pub before-later : (chunks : List Chunk) (b c : ℕ) → b ≤ c → before_chunk chunks b ≤ before_chunk chunks c
before-later chunks zero c h = omega arith
before-later chunks (suc b) zero h = absurd (omega arith)
before-later [] (suc b) (suc c) h = omega arith
before-later (x ∷ chunks) (suc b) (suc c) h = omega (arith, length-append x.entries.items (entries_of (take b chunks)), length-append x.entries.items (entries_of (take c chunks)), before-later chunks b c (omega arith))

-- a change of a chunk changes nothing before it
pub before-set : (chunks : List Chunk) (c k : ℕ) (x : Chunk) → k ≤ c → before_chunk (set chunks c x) k ≡ before_chunk chunks k
before-set chunks c zero x h = refl
before-set [] c (suc k) x h = refl
before-set (y ∷ chunks) zero (suc k) x h = absurd (omega arith)
before-set (y ∷ chunks) (suc c) (suc k) x h = omega (arith, length-append y.entries.items (entries_of (take k (set chunks c x))), length-append y.entries.items (entries_of (take k chunks)), before-set chunks c k x (omega arith))

pub entry-at : (chunks : List Chunk) (c j : ℕ) (d : Chunk) (e : Entry) → c < length chunks → j < len_at chunks c d → get_or (entries_of chunks) (before_chunk chunks c + j) e ≡ get_or (get_or chunks c d).entries.items j e
entry-at chunks c j d e h l = get_or-flat_map (λ chunk. chunk.entries.items) chunks c j d e h (omega (arith, l, (get_or chunks c d).entries.ok.0))

-- ---- the entries from a place on

pub later-entries : (chunks : List Chunk) (c at : ℕ) → drop at (entries_of (drop c chunks)) ≡ drop (before_chunk chunks c + at) (entries_of chunks)
later-entries chunks c at =
    let parts : entries_of (take c chunks) ++ entries_of (drop c chunks) ≡ entries_of chunks = sym (flat_map-append (λ chunk. chunk.entries.items) (take c chunks) (drop c chunks)) ∙ ap entries_of (take-append-drop c chunks) in
    sym (drop-append-add (entries_of (take c chunks)) (entries_of (drop c chunks)) at) ∙ ap (drop (before_chunk chunks c + at)) parts

pub later-length : (chunks : List Chunk) (c : ℕ) → length (entries_of (drop c chunks)) + before_chunk chunks c ≡ length (entries_of chunks)
later-length chunks c =
    let parts : entries_of (take c chunks) ++ entries_of (drop c chunks) ≡ entries_of chunks = sym (flat_map-append (λ chunk. chunk.entries.items) (take c chunks) (drop c chunks)) ∙ ap entries_of (take-append-drop c chunks) in
    omega (arith, ap length parts, length-append (entries_of (take c chunks)) (entries_of (drop c chunks)))

pub stretch-later : (chunks : List Chunk) (c at n : ℕ) → stretch (entries_of (drop c chunks)) at n ≡ take n (drop (before_chunk chunks c + at) (positions (entries_of chunks)))
stretch-later chunks c at n =
    let position : Entry → ℕ = λ e. e.position in
    ap (take n) (drop-map position at (entries_of (drop c chunks)) ∙ ap (map position) (later-entries chunks c at) ∙ sym (drop-map position (before_chunk chunks c + at) (entries_of chunks)))

-- ---- edits of one chunk

pub insert-entries : (chunks : List Chunk) (c j : ℕ) (x d : Chunk) (e : Entry) → c < length chunks → j ≤ length (get_or chunks c d).entries.items → x.entries.items ≡ insert (get_or chunks c d).entries.items j e
    → entries_of (set chunks c x) ≡ insert (entries_of chunks) (length (entries_of (take c chunks)) + j) e
insert-entries [] c j x d e h l is = absurd (omega arith)
insert-entries (y ∷ chunks) zero j x d e h l is =
    let at : j ≡ 0 + j = omega arith in
    ap (λ s. s ++ entries_of chunks) is ∙ sym (insert-append_left y.entries.items (entries_of chunks) j e l) ∙ ap (λ k. insert (entries_of (y ∷ chunks)) k e) at
insert-entries (y ∷ chunks) (suc c) j x d e h l is =
    let n : ℕ = length y.entries.items in
    let i : ℕ = length (entries_of (take (suc c) (y ∷ chunks))) + j in
    let long : length (entries_of (take (suc c) (y ∷ chunks))) ≡ n + length (entries_of (take c chunks)) = length-append y.entries.items (entries_of (take c chunks)) in
    let back : insert (y.entries.items ++ entries_of chunks) i e ≡ y.entries.items ++ insert (entries_of chunks) (i - n) e = insert-append_right y.entries.items (entries_of chunks) n i e refl (omega (arith, long)) in
    let at : length (entries_of (take c chunks)) + j ≡ i - n = omega (arith, long) in
    ap (λ s. y.entries.items ++ s) (insert-entries chunks c j x d e (omega arith) l is)
    ∙ ap (λ k. y.entries.items ++ insert (entries_of chunks) k e) at
    ∙ sym back

pub remove-entries : (chunks : List Chunk) (c j : ℕ) (x d : Chunk) → c < length chunks → j < length (get_or chunks c d).entries.items → x.entries.items ≡ remove (get_or chunks c d).entries.items j
    → entries_of (set chunks c x) ≡ remove (entries_of chunks) (length (entries_of (take c chunks)) + j)
remove-entries [] c j x d h l is = absurd (omega arith)
remove-entries (y ∷ chunks) zero j x d h l is =
    let at : j ≡ 0 + j = omega arith in
    ap (λ s. s ++ entries_of chunks) is ∙ sym (remove-append_left y.entries.items (entries_of chunks) j l) ∙ ap (λ k. remove (entries_of (y ∷ chunks)) k) at
remove-entries (y ∷ chunks) (suc c) j x d h l is =
    let n : ℕ = length y.entries.items in
    let i : ℕ = length (entries_of (take (suc c) (y ∷ chunks))) + j in
    let long : length (entries_of (take (suc c) (y ∷ chunks))) ≡ n + length (entries_of (take c chunks)) = length-append y.entries.items (entries_of (take c chunks)) in
    let back : remove (y.entries.items ++ entries_of chunks) i ≡ y.entries.items ++ remove (entries_of chunks) (i - n) = remove-append_right y.entries.items (entries_of chunks) n i refl (omega (arith, long)) in
    let at : length (entries_of (take c chunks)) + j ≡ i - n = omega (arith, long) in
    ap (λ s. y.entries.items ++ s) (remove-entries chunks c j x d (omega arith) l is)
    ∙ ap (λ k. y.entries.items ++ remove (entries_of chunks) k) at
    ∙ sym back

pub same-entries : (chunks : List Chunk) (k : ℕ) (x d : Chunk) → k < length chunks → x.entries.items ≡ (get_or chunks k d).entries.items → entries_of (set chunks k x) ≡ entries_of chunks
same-entries [] k x d h e = absurd (omega arith)
same-entries (y ∷ chunks) zero x d h e = ap (λ s. s ++ entries_of chunks) e
same-entries (y ∷ chunks) (suc k) x d h e = ap (λ s. y.entries.items ++ s) (same-entries chunks k x d (omega arith) e)

-- ---- an entry that pushes the last one of its chunk out

pub displaced-entries : (chunks : List Chunk) (c at : ℕ) (x d : Chunk) (e last : Entry) → c < length chunks → at ≤ length (get_or chunks c d).entries.items → x.entries.items ++ last ∷ [] ≡ insert (get_or chunks c d).entries.items at e
    → insert (entries_of (set chunks c x)) (before_chunk (set chunks c x) (suc c)) last ≡ insert (entries_of chunks) (before_chunk chunks c + at) e
displaced-entries [] c at x d e last h l is = absurd (omega arith)
displaced-entries (y ∷ chunks) zero at x d e last h l is =
    let n : ℕ = length x.entries.items in
    let here : length (x.entries.items ++ []) ≡ n + 0 = length-append x.entries.items [] in
    let back : insert (x.entries.items ++ entries_of chunks) (length (x.entries.items ++ [])) last ≡ x.entries.items ++ insert (entries_of chunks) (length (x.entries.items ++ []) - n) last = insert-append_right x.entries.items (entries_of chunks) n (length (x.entries.items ++ [])) last refl (omega (arith, here)) in
    let none : length (x.entries.items ++ []) - n ≡ 0 = omega (arith, here) in
    let first : insert (y.entries.items ++ entries_of chunks) at e ≡ insert y.entries.items at e ++ entries_of chunks = insert-append_left y.entries.items (entries_of chunks) at e l in
    let zeroth : at ≡ 0 + at = omega arith in
    back ∙ ap (λ k. x.entries.items ++ insert (entries_of chunks) k last) none
    ∙ sym (append_assoc x.entries.items (last ∷ []) (entries_of chunks))
    ∙ ap (λ s. s ++ entries_of chunks) is ∙ sym first ∙ ap (λ k. insert (entries_of (y ∷ chunks)) k e) zeroth
displaced-entries (y ∷ chunks) (suc c) at x d e last h l is =
    let n : ℕ = length y.entries.items in
    let i : ℕ = before_chunk (y ∷ set chunks c x) (suc (suc c)) in
    let j : ℕ = before_chunk (y ∷ chunks) (suc c) + at in
    let long : i ≡ n + before_chunk (set chunks c x) (suc c) = length-append y.entries.items (entries_of (take (suc c) (set chunks c x))) in
    let short : before_chunk (y ∷ chunks) (suc c) ≡ n + before_chunk chunks c = length-append y.entries.items (entries_of (take c chunks)) in
    let one : insert (y.entries.items ++ entries_of (set chunks c x)) i last ≡ y.entries.items ++ insert (entries_of (set chunks c x)) (i - n) last = insert-append_right y.entries.items (entries_of (set chunks c x)) n i last refl (omega (arith, long)) in
    let two : insert (y.entries.items ++ entries_of chunks) j e ≡ y.entries.items ++ insert (entries_of chunks) (j - n) e = insert-append_right y.entries.items (entries_of chunks) n j e refl (omega (arith, short)) in
    let a : i - n ≡ before_chunk (set chunks c x) (suc c) = omega (arith, long) in
    let b : before_chunk chunks c + at ≡ j - n = omega (arith, short) in
    one ∙ ap (λ k. y.entries.items ++ insert (entries_of (set chunks c x)) k last) a
    ∙ ap (λ s. y.entries.items ++ s) (displaced-entries chunks c at x d e last (omega arith) l is)
    ∙ ap (λ k. y.entries.items ++ insert (entries_of chunks) k e) b ∙ sym two

-- ---- a chunk without entries

pub dropped-entries : (chunks : List Chunk) (c : ℕ) (d : Chunk) → c < length chunks → len_at chunks c d ≡ 0 → entries_of (remove chunks c) ≡ entries_of chunks
dropped-entries [] c d h none = absurd (omega arith)
dropped-entries (x ∷ chunks) zero d h none = rw (nil_from_length x.entries.items (omega (arith, x.entries.ok.0, none))) refl
dropped-entries (x ∷ chunks) (suc c) d h none = ap (λ s. x.entries.items ++ s) (dropped-entries chunks c d (omega arith) none)

-- ---- a chunk that is split

pub split-entries : (chunks : List Chunk) (k : ℕ) (x y d : Chunk) → k < length chunks → x.entries.items ++ y.entries.items ≡ (get_or chunks k d).entries.items → entries_of (set (insert chunks (suc k) y) k x) ≡ entries_of chunks
split-entries [] k x y d h is = absurd (omega arith)
split-entries (c ∷ chunks) zero x y d h is = sym (append_assoc x.entries.items y.entries.items (entries_of chunks)) ∙ ap (λ s. s ++ entries_of chunks) is
split-entries (c ∷ chunks) (suc k) x y d h is = ap (λ s. c.entries.items ++ s) (split-entries chunks k x y d (omega arith) is)

pub split-some : (chunks : List Chunk) (k : ℕ) (x y : Chunk) → HaveEntries chunks → k < length chunks → 0 < deque_len x.entries → 0 < deque_len y.entries
    → (j : ℕ) (d : Chunk) → j + 1 < length (set (insert chunks (suc k) y) k x) → 0 < len_at (set (insert chunks (suc k) y) k x) j d
split-some [] k x y some h p q j d l = absurd (omega arith)
split-some (c ∷ chunks) zero x y some h p q zero d l = p
split-some (c ∷ chunks) zero x y some h p q (suc zero) d l = q
split-some (c ∷ chunks) zero x y some h p q (suc (suc j)) d l = some (suc j) d (omega arith)
split-some (c ∷ chunks) (suc k) x y some h p q zero d l = some zero d (omega arith)
split-some (c ∷ chunks) (suc k) x y some h p q (suc j) d l = split-some chunks k x y (λ i e m. some (suc i) e (omega arith)) (omega arith) p q j d (omega arith)

-- what is read of the chunk after the later half is put in is what was read before
pub split-same : (chunks : List Chunk) (k : ℕ) (y r s : Chunk) → k < length chunks → r ≡ get_or (insert chunks (k + 1) y) k r → s ≡ get_or chunks k s → r ≡ s
split-same chunks k y r s h after before = after ∙ get_or-insert_below chunks (k + 1) y r k (omega arith) (omega arith) ∙ get_or_default chunks k r s h ∙ sym before

pub split-parts : (half : ℕ) (x y r s : Chunk) → r ≡ s → x.entries.items ≡ take half r.entries.items → y.entries.items ≡ drop half s.entries.items → x.entries.items ++ y.entries.items ≡ s.entries.items
split-parts half x y r s same early late =
    ap (λ e. e ++ y.entries.items) (early ∙ ap (λ c. take half c.entries.items) same)
    ∙ ap (λ e. take half s.entries.items ++ e) late
    ∙ take-append-drop half s.entries.items

pub split-first : (half : ℕ) (x s : Chunk) → x.entries.items ≡ take half s.entries.items → 0 < half → half < deque_len s.entries → 0 < deque_len x.entries
split-first half x s early some less =
    let long : length x.entries.items ≡ half = ap length early ∙ length-take-le half s.entries.items (omega (arith, less, s.entries.ok.0)) in
    omega (arith, long, x.entries.ok.0, some)

pub split-second : (half : ℕ) (y s : Chunk) → y.entries.items ≡ drop half s.entries.items → half < deque_len s.entries → 0 < deque_len y.entries
split-second half y s late less =
    let long : length y.entries.items ≡ length s.entries.items - half = ap length late ∙ length-drop half s.entries.items in
    omega (arith, long, y.entries.ok.0, s.entries.ok.0, less)

pub ok_holds : {A E : Type 0} (P : Type 0) (r : Result A E) → is_ok r ≡ true → OnOk r P → P
ok_holds P (Ok a) e h = h
ok_holds P (Err x) e h = absurd (false≢true e)

-- ---- entries that are put into chunks

pub pushed-entries : (chunks : List Chunk) (x : Chunk) (part left rest : List Entry) → x.entries.items ≡ part → part ++ left ≡ rest → entries_of (chunks ++ x ∷ []) ++ left ≡ entries_of chunks ++ rest
pushed-entries chunks x part left rest is whole =
    ap (λ s. s ++ left) (flat_map-append (λ (chunk : Chunk). chunk.entries.items) chunks (x ∷ []))
    ∙ append_assoc (entries_of chunks) (x.entries.items ++ []) left
    ∙ ap (λ s. entries_of chunks ++ s) (ap (λ s. s ++ left) (append-nil x.entries.items ∙ is) ∙ whole)

pub pushed-some : (chunks : List Chunk) (x : Chunk) → ((k : ℕ) (d : Chunk) → k < length chunks → 0 < len_at chunks k d) → HaveEntries (chunks ++ x ∷ [])
pushed-some chunks x all k d l =
    let len : length (chunks ++ x ∷ []) ≡ length chunks + 1 = length_push chunks x in
    rw (get_or_append_left chunks (x ∷ []) d k (omega (arith, len, l))) (all k d (omega (arith, len, l)))

pub pushed-all : (chunks : List Chunk) (x : Chunk) → ((k : ℕ) (d : Chunk) → k < length chunks → 0 < len_at chunks k d) → 0 < length x.entries.items → (k : ℕ) (d : Chunk) → k < length (chunks ++ x ∷ []) → 0 < len_at (chunks ++ x ∷ []) k d
pushed-all chunks x all one k d l =
    let len : length (chunks ++ x ∷ []) ≡ length chunks + 1 = length_push chunks x in
    elim (cases_eq k (length chunks)) [
      | inl e ↦
          let at : get_or (chunks ++ x ∷ []) k d ≡ x = ap (λ j. get_or (chunks ++ x ∷ []) j d) (omega (arith, e)) ∙ get_or-append-add chunks (x ∷ []) 0 d in
          rw at (omega (arith, x.entries.ok.0, one))
      | inr apart ↦ rw (get_or_append_left chunks (x ∷ []) d k (omega (arith, len, l, apart))) (all k d (omega (arith, len, l, apart)))
    ]

-- ---- places

pub chunk-within : (chunks : List Chunk) (c j : ℕ) → before_chunk chunks c + j < length (entries_of chunks) → c < length chunks
chunk-within [] c j h = absurd (omega arith)
chunk-within (x ∷ chunks) zero j h = omega arith
chunk-within (x ∷ chunks) (suc c) j h = omega (arith, chunk-within chunks c j (omega (arith, h, length-append x.entries.items (entries_of (take c chunks)), length-append x.entries.items (entries_of chunks))))

pub chunk-order : (chunks : List Chunk) (a b : ChunkPlace) → IsPlace chunks a → IsPlace chunks b → rank_in chunks b ≤ rank_in chunks a → b.chunk ≤ a.chunk
chunk-order [] a b p q order = absurd (omega (arith, p.gap.within))
chunk-order (x ∷ chunks) a b p q order = elim (cases_lt a.chunk b.chunk) [
  | inr le ↦ le
  | inl less ↦ absurd (omega (arith, order, p.inner x (omega (arith, less, q.gap.within)), before-next (x ∷ chunks) a.chunk x p.gap.within, before-later (x ∷ chunks) (a.chunk + 1) b.chunk (omega (arith, less))))
]

-- a chunk without room is not the one that has it
pub room-later : (chunks : List Chunk) (k : ℕ) (r : HasRoomFrom k chunks) → ((d : Chunk) → capacity_at chunks k d ≤ len_at chunks k d) → k + 1 ≤ r.at
room-later [] k r full = absurd (omega (arith, r.within))
room-later (x ∷ chunks) k r full = elim (cases_eq k r.at) [
  | inl e ↦ absurd (omega (arith, full x, subst (λ j. len_at (x ∷ chunks) j x < capacity_at (x ∷ chunks) j x) (sym e) (r.room x)))
  | inr apart ↦ omega (arith, apart, r.behind)
]

-- ---- the last entry of a chunk

pub len-some : (chunks : List Chunk) (c n : ℕ) → HaveEntries chunks → c + 1 < length chunks → ((d : Chunk) → n ≡ len_at chunks c d) → 0 < n
len-some [] c n some h is = absurd (omega arith)
len-some (x ∷ chunks) c n some h is = omega (arith, some c x h, is x)

pub before-len : (chunks : List Chunk) (c n : ℕ) → c < length chunks → ((d : Chunk) → n ≡ len_at chunks c d) → before_chunk chunks (c + 1) ≡ before_chunk chunks c + n
before-len [] c n h is = absurd (omega arith)
before-len (x ∷ chunks) c n h is = omega (arith, before-next (x ∷ chunks) c x h, is x)

-- ---- the rank of an entry, and that of the place past all entries

pub rank-within : (chunks : List Chunk) (c at : ℕ) → c < length chunks → ((d : Chunk) → at < len_at chunks c d) → before_chunk chunks c + at < length (entries_of chunks)
rank-within [] c at h less = absurd (omega arith)
rank-within (x ∷ chunks) c at h less = omega (arith, before-next (x ∷ chunks) c x h, before-most (x ∷ chunks) (c + 1), less x)

pub rank-end : (chunks : List Chunk) (c n : ℕ) → c < length chunks → ((d : Chunk) → n ≡ len_at chunks c d) → length chunks ≤ c + 1 → before_chunk chunks c + n ≡ length (entries_of chunks)
rank-end chunks c n h is last = sym (before-len chunks c n h is) ∙ before-all chunks (c + 1) last

pub place-end : (chunks : List Chunk) (p : ChunkPlace) (n : ℕ) → IsPlace chunks p → ((d : Chunk) → n ≡ len_at chunks p.chunk d) → p.at ≡ n → rank_in chunks p ≡ length (entries_of chunks)
place-end [] p n place is e = absurd (omega (arith, place.gap.within))
place-end (x ∷ chunks) p n place is e = elim (cases_lt (p.chunk + 1) (length (x ∷ chunks))) [
  | inr last ↦ ap (λ k. before_chunk (x ∷ chunks) p.chunk + k) e ∙ rank-end (x ∷ chunks) p.chunk n place.gap.within is last
  | inl less ↦ absurd (omega (arith, place.inner x less, is x, e))
]

pub rank-most : (chunks : List Chunk) (p : ChunkPlace) → IsGap chunks p → rank_in chunks p ≤ length (entries_of chunks)
rank-most [] p gap = absurd (omega (arith, gap.within))
rank-most (x ∷ chunks) p gap = omega (arith, before-next (x ∷ chunks) p.chunk x gap.within, before-most (x ∷ chunks) (p.chunk + 1), gap.most x)

pub at-most : (chunks : List Chunk) (p : ChunkPlace) (n : ℕ) → IsGap chunks p → ((d : Chunk) → n ≡ len_at chunks p.chunk d) → p.at ≤ n
at-most [] p n gap is = absurd (omega (arith, gap.within))
at-most (x ∷ chunks) p n gap is = omega (arith, gap.most x, is x)

-- a place before the end is that of an entry
pub place-there : (chunks : List Chunk) (p : ChunkPlace) → IsPlace chunks p → rank_in chunks p < length (entries_of chunks) → (d : Chunk) → p.at < len_at chunks p.chunk d
place-there chunks p place h d = elim (cases_lt (p.chunk + 1) (length chunks)) [
  | inr last ↦ omega (arith, h, before-next chunks p.chunk d place.gap.within, before-all chunks (p.chunk + 1) last)
  | inl less ↦ place.inner d less
]
