-- The list is read twice over, and nothing is changed.
use Rattle.std.proofs.Common.{sym, subst}
use Rattle.sqlite_store.specs.Unopened.{state_of, image}
use Rattle.sqlite_pool.specs.Stored.{Recovers}
use Rattle.sqlite_store.proofs.OpenLemmas.{opens_after}
use Rattle.sqlite_pool.proofs.OpenLemmas.{Reopens-keeps}
use Rattle.sqlite_pool.proofs.StateLemmas.{settled}
use Rattle.su_keep.proofs.opening.read_list.Goals as goal

pub returns-in-Err-index_roots-clause-kept : goal.returns-in-Err-index_roots-clause-kept
returns-in-Err-index_roots-clause-kept g c = λ clean.
    let old = c.args.files.now in
    let mid = c.read_catalog.new.self in
    let k = c.index_roots.ensures.kept in
    let early = k.stays.clean clean in
    let cat = c.in-Ok.ensures.ok early in
    opens_after old (state_of mid) (state_of c.index_roots.new.self) (c.read_catalog.ensures.kept early) (settled mid.pool g.met.D.Disk.seen_may_stay cat.shows.clean.is_open)
    (subst (Recovers (state_of old).page_size (image old)) (sym cat.shows.committed) cat.found) (Reopens-keeps _ _ k)

pub returns-in-Ok-index_roots-clause-kept : goal.returns-in-Ok-index_roots-clause-kept
returns-in-Ok-index_roots-clause-kept g c = λ clean.
    let old = c.args.files.now in
    let mid = c.read_catalog.new.self in
    let k = c.index_roots.ensures.kept in
    let early = k.stays.clean clean in
    let cat = c.in-Ok.ensures.ok early in
    opens_after old (state_of mid) (state_of c.index_roots.new.self) (c.read_catalog.ensures.kept early) (settled mid.pool g.met.D.Disk.seen_may_stay cat.shows.clean.is_open)
    (subst (Recovers (state_of old).page_size (image old)) (sym cat.shows.committed) cat.found) (Reopens-keeps _ _ k)

pub returns-in-Ok-index_roots-clause-ok : goal.returns-in-Ok-index_roots-clause-ok
returns-in-Ok-index_roots-clause-ok g c = λ clean.
    let early = c.index_roots.ensures.kept.stays.clean clean in
    let first = c.read_catalog.ensures.kept early in
    let cat = c.in-Ok.ensures.ok early in
    record {
      pages = cat.pages;
      found = cat.found;
      again = subst (λ n. Recovers n (image c.index_roots.new.self) cat.pages) first.size (c.in-Ok-index_roots.ensures.ok clean cat.pages cat.shows).again;
    }
