-- The earlier part stays in its chunk and the later part makes the chunk behind it; together they are the entries that the chunk had, and neither is empty.
use Rattle.std.proofs.Common.{◌≡◌, ◌<◌, ◌+◌, ◌∙◌, add-one, ap, not, set, subst, sym}
use Rattle.std.specs.List.{insert}
use Rattle.std.specs.VecDeque.{deque_len}
use Rattle.su_index.specs.declared.chunk.Chunk.{Chunk}
use Rattle.su_index.specs.Entries.{entries_of}
use Rattle.su_index.specs.inside.Chunks.{HaveEntries}
use Rattle.su_index.proofs.Chunked.{split-entries, split-some, split-same, split-parts, split-first, split-second}
use Rattle.su_index.proofs.chunks.split.Goals as goal

pub returns-clause-entries : goal.returns-clause-entries
returns-clause-entries c =
    let k = c.args.chunk in
    let chunks = c.args.chunks.now.items in
    let y = c.in_ok-later.later in
    let x : Chunk = record { entries = c.truncate.new.self } in
    let s = c.index.result.now in
    let new : c.insert.new.self.items ≡ insert chunks (k + 1) y = rw (c.is_err.ensures.negation ∙ ap not c.if-is_err.false) at c.insert.ensures.items in
    let same = split-same chunks k y c.index_mut.result.now s c.requires.within (rw new at c.index_mut.ensures.value) c.index.ensures in
    let parts = split-parts c.args.at x y c.index_mut.result.now s same c.truncate.ensures.items c.in_ok-later.ensures in
    ap (λ l. entries_of (set l k x)) (new ∙ ap (λ j. insert chunks j y) (add-one k)) ∙ split-entries chunks k x y s c.requires.within (parts ∙ ap (λ z. z.entries.items) c.index.ensures)

pub returns-clause-some : goal.returns-clause-some
returns-clause-some c =
    let k = c.args.chunk in
    let chunks = c.args.chunks.now.items in
    let y = c.in_ok-later.later in
    let x : Chunk = record { entries = c.truncate.new.self } in
    let s = c.index.result.now in
    let new : c.insert.new.self.items ≡ insert chunks (k + 1) y = rw (c.is_err.ensures.negation ∙ ap not c.if-is_err.false) at c.insert.ensures.items in
    let same = split-same chunks k y c.index_mut.result.now s c.requires.within (rw new at c.index_mut.ensures.value) c.index.ensures in
    let less : c.args.at < deque_len s.entries = rw (← c.index.ensures) at (c.requires.second s) in
    subst (λ l. HaveEntries (set l k x)) (sym (new ∙ ap (λ j. insert chunks j y) (add-one k)))
    (split-some chunks k x y c.requires.some c.requires.within
    (split-first c.args.at x s (rw same at c.truncate.ensures.items) c.requires.first less)
    (split-second c.args.at y s c.in_ok-later.ensures less))
