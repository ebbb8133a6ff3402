-- A schema has at most 128 maximal objects: the declared ones, and no more computed ones than seeds.
use Rattle.std.proofs.Common.{◌≡◌, ◌≤◌, List, ◌++◌, length, ap, arith}
use Rattle.std.specs.List.{filter, range_with_len}
use Rattle.std.specs.Ordering.{nat_cmp}
use Rattle.std.specs.FinSet.{FinSet}
use Rattle.std.proofs.lemmas.List.{length-map, length-append}
use Rattle.std.proofs.lemmas.List.FromFn.{length-range_with_len}
use Rattle.std.proofs.lemmas.List.Sums.{length-filter, count_by-le-length}
use Rattle.su_schema.specs.SchemaValue.{SchemaValue}
use Rattle.su_schema.specs.Valid.{IsValid}
use Rattle.su_base.specs.Sets.{set_at}
use Rattle.su_maxobj.specs.MaximalObjects.{is_listed, computed, AreMaximalObjects}

few_computed : (declared grown : List (FinSet nat_cmp)) → length (computed declared grown) ≤ length grown
few_computed declared grown =
    let seeds = range_with_len 0 (length grown) in
    let a = length-map (filter (is_listed declared grown) seeds) (set_at grown) in
    let b = length-filter (is_listed declared grown) seeds in
    let c = count_by-le-length (is_listed declared grown) seeds in
    let d = length-range_with_len 0 (length grown) in
    omega arith

pub few_listed : (declared grown sets : List (FinSet nat_cmp)) → length declared ≤ 64 → length grown ≤ 64 → sets ≡ declared ++ computed declared grown → length sets ≤ 128
few_listed declared grown sets few seeds are =
    let e = ap length are in
    let a = length-append declared (computed declared grown) in
    let c = few_computed declared grown in
    omega arith

pub few_maximal : (schema : SchemaValue) (sets : List (FinSet nat_cmp)) → IsValid schema → AreMaximalObjects schema sets → length sets ≤ 128
few_maximal schema sets valid are = few_listed schema.declared are.grown sets valid.few_declared (let g = are.seeds in let o = valid.few_objects in omega arith) are.sets_are
