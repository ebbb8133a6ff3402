-- What is left of a text once a record was taken.
use Rattle.std.proofs.Common.{◌≡◌, ◌∙◌, ◌+◌, ◌<◌, ◌≤◌, ◌==◌, ℕ, zero, suc, Bool, true, false, if◌then◌else◌, List, [], ◌∷◌, ◌++◌, length, ◌&&◌, Option, Some, None, IsSome, Bor, refl, sym, ap, subst, inl, inr, arith, add-one}
use Rattle.std.proofs.lemmas.Bool.{cases_Bool}
use Rattle.csv.specs.Machine.{Read, after_end, ends_at_end, ends_with, fields_after, field_after, in_field, is_byte, is_end, line_feed, next_record, start_field, start_record, step}
use Rattle.csv.specs.Reading.{Reached, ReadRecord, default_config, records_from, records_next, took_first}
use Rattle.csv.specs.declared.parser.Action.{Action}
use Rattle.csv.specs.declared.parser.Action.TheVariants as act
use Rattle.csv.specs.declared.parser.Config.{Config}
use Rattle.csv.specs.declared.parser.State.{State}
use Rattle.csv.specs.declared.parser.State.TheVariants as st
use Rattle.csv.specs.declared.parser.Terminator.{Terminator}
use Rattle.csv.specs.declared.parser.Terminator.TheVariants as term
use Rattle.csv.specs.declared.reader.Reader.{Reader}
use Rattle.csv.proofs.ReadFacts.{rows-end, rows-more}
use Rattle.su_csv.specs.inside.Records.{Stands, Took, bytes_left, records_after, records_left}

-- a record that ends leaves no part of another
abbrev Between : State × Action → Type 0
Between p = is_end p.1 ≡ true → ends_at_end p.0 ≡ false

either : (b : Bool) (x y : State × Action) → Between x → Between y → Between (if b then x else y)
either true x y p q = p
either false x y p q = q

goes-on : (s : State) (a : Action) → is_end a ≡ false → Between (s, a)
goes-on s a goes = λ ends. absurd (cc (goes, ends))

after-between : (t : Terminator) (c : ℕ) → ends_at_end (after_end t c) ≡ false
after-between term.CRLF c = elim (c == 13) as (λ b. ends_at_end (if b then st.AfterCr else st.StartRecord) ≡ false) [ true ↦ refl | false ↦ refl ]
after-between (term.Any t) c = refl

in-field : (cfg : Config) (c : ℕ) → Between (in_field cfg c)
in-field cfg c =
    either (c == cfg.delimiter) (st.StartField, act.EndField) (if ends_with cfg.terminator c then (after_end cfg.terminator c, act.EndRecord) else (st.InField, act.Copy))
    (goes-on st.StartField act.EndField refl)
    (either (ends_with cfg.terminator c) (after_end cfg.terminator c, act.EndRecord) (st.InField, act.Copy) (λ e. after-between cfg.terminator c) (goes-on st.InField act.Copy refl))

start-field : (cfg : Config) (c : ℕ) → Between (start_field cfg c)
start-field cfg c = either _ (st.InQuoted, act.Skip) (in_field cfg c) (goes-on st.InQuoted act.Skip refl) (in-field cfg c)

start-record : (cfg : Config) (c : ℕ) → Between (start_record cfg c)
start-record cfg c =
    either (ends_with cfg.terminator c) (st.StartRecord, act.Skip) (if is_byte cfg.comment c then (st.InComment, act.Skip) else start_field cfg c)
    (goes-on st.StartRecord act.Skip refl)
    (either (is_byte cfg.comment c) (st.InComment, act.Skip) (start_field cfg c) (goes-on st.InComment act.Skip refl) (start-field cfg c))

step-between : (cfg : Config) (s : State) (c : ℕ) → Between (step cfg s c)
step-between cfg st.StartRecord c = start-record cfg c
step-between cfg st.StartField c = start-field cfg c
step-between cfg st.InField c = in-field cfg c
step-between cfg st.InQuoted c =
    either (cfg.quoting && (c == cfg.quote)) (st.AfterQuote, act.Skip) (if cfg.quoting && is_byte cfg.escape c then (st.InEscape, act.Skip) else (st.InQuoted, act.Copy))
    (goes-on st.AfterQuote act.Skip refl)
    (either (cfg.quoting && is_byte cfg.escape c) (st.InEscape, act.Skip) (st.InQuoted, act.Copy) (goes-on st.InEscape act.Skip refl) (goes-on st.InQuoted act.Copy refl))
step-between cfg st.InEscape c = goes-on st.InQuoted act.Copy refl
step-between cfg st.AfterQuote c = either (cfg.quoting && cfg.double_quote && (c == cfg.quote)) (st.InQuoted, act.Copy) (in_field cfg c) (goes-on st.InQuoted act.Copy refl) (in-field cfg c)
step-between cfg st.InComment c = either (c == line_feed) (st.StartRecord, act.Skip) (st.InComment, act.Skip) (goes-on st.StartRecord act.Skip refl) (goes-on st.InComment act.Skip refl)
step-between cfg st.AfterCr c = either (c == line_feed) (st.StartRecord, act.Skip) (start_record cfg c) (goes-on st.StartRecord act.Skip refl) (start-record cfg c)

-- a record takes bytes: it leaves no more of them, and fewer where it began between records
record Shrinks (s : State) (y : List ℕ) (p : Read) : Type 0 where
  between : ends_at_end p.1 ≡ false
  most : length p.2 ≤ length y
  fewer : ends_at_end s ≡ false → length p.2 < length y

shrinks : (cfg : Config) (s : State) (fields : List (List ℕ)) (field y : List ℕ) (p : Read) → next_record cfg s fields field y ≡ Some p → Shrinks s y p
unfolding next_record
shrinks cfg s fields field [] p h = elim (cases_Bool (ends_at_end s)) [
  | inl test ↦
      let is : ◌≡◌ {A = Read} (fields ++ (field ∷ []), st.StartRecord, []) p = cc (rw test at h) in
      subst (λ (q : Read). Shrinks s [] q) is (record { between = refl; most = omega arith; fewer = λ before. absurd (cc (test, before)) })
  | inr test ↦ absurd (cc (rw test at h))
]
shrinks cfg s fields field (c ∷ y) p h = elim (cases_Bool (is_end (step cfg s c).1)) [
  | inl test ↦
      let is : ◌≡◌ {A = Read} (fields_after (step cfg s c).1 fields field, (step cfg s c).0, y) p = cc (rw test at h) in
      subst (λ (q : Read). Shrinks s (c ∷ y) q) is (record { between = step-between cfg s c test; most = omega arith; fewer = λ before. omega arith })
  | inr test ↦
      let rest = shrinks cfg (step cfg s c).0 (fields_after (step cfg s c).1 fields field) (field_after (step cfg s c).1 c field) y p (rw test at h) in
      record { between = rest.between; most = omega (arith, rest.most); fewer = λ before. omega (arith, rest.most) }
]

-- how many records are asked for does not matter once there are enough
enough : (cfg : Config) (n m : ℕ) (s : State) (y : List ℕ) → ends_at_end s ≡ false → length y < n → length y < m → records_from cfg n s y ≡ records_from cfg m s y
unfolding records_from
enough cfg zero m s y between a b = absurd (omega arith)
enough cfg (suc n) zero s y between a b = absurd (omega arith)
enough cfg (suc n) (suc m) s y between a b =
    elim (next_record cfg s [] [] y) as (λ o. next_record cfg s [] [] y ≡ o → records_next (records_from cfg n) o ≡ records_next (records_from cfg m) o) [
      | None ↦ λ e. refl
      | Some p ↦ λ e.
          let less = shrinks cfg s [] [] y p e in
          let l = less.fewer between in
          ap (λ (l : List (List (List ℕ))). p.0 ∷ l) (enough cfg n m p.1 p.2 less.between (omega arith) (omega arith))
    ] refl

-- one record, and then those that are left
one-more : (s : State) (y : List ℕ) (p : Read) → ends_at_end s ≡ false → next_record default_config s [] [] y ≡ Some p → records_after s y ≡ p.0 ∷ records_after p.1 p.2
unfolding records_from
one-more s y p between e =
    let less = shrinks default_config s [] [] y p e in
    let l = less.fewer between in
    ap (λ (n : ℕ). records_from default_config n s y) (add-one (length y))
    ∙ ap (records_next (records_from default_config (length y))) e
    ∙ ap (λ (l : List (List (List ℕ))). p.0 ∷ l) (enough default_config (length y) (length p.2 + 1) p.1 p.2 less.between (omega arith) (omega arith))

no-more : (s : State) (y : List ℕ) → next_record default_config s [] [] y ≡ None → records_after s y ≡ []
unfolding records_from
no-more s y e = ap (λ (n : ℕ). records_from default_config n s y) (add-one (length y)) ∙ ap (records_next (records_from default_config (length y))) e

known : (o : Option (List ℕ)) → IsSome o → (y : List ℕ) × (o ≡ Some y)
known None h = absurd (cc h)
known (Some y) h = (y, refl)

-- what taking a record does to a reader
pub advanced : (a b : Reader (Bor (List ℕ))) (f : List (List ℕ)) (found : Bool) → Stands a → took_first b ≡ true → ReadRecord (λ (s : Bor (List ℕ)). Some s.now) a b found f → (found ≡ true → Stands b) × Took found f (records_left a) (records_left b)
unfolding Reached
advanced a b f true stands first read =
    let (y, source) = known (bytes_left a) stands.known in
    let (z, left, reached) = rows-more (λ (s : Bor (List ℕ)). Some s.now) a b f default_config a.state y y [] stands.config source (refl, refl) read in
    let p = reached.0 in
    let less = shrinks default_config a.state [] [] y p reached.1 in (
      (λ e. record {
        trim = read.3 ∙ stands.trim;
        ready = inl first;
        config = read.2 ∙ stands.config;
        between = ap ends_at_end (sym reached.3.0) ∙ less.between;
        known = rw left refl;
      }),
      (rw (source, left) (one-more a.state y p stands.between reached.1 ∙ (λ i. sym reached.2 i ∷ records_after (reached.3.0 i) (reached.3.1 i)))),
    )
advanced a b f false stands first read =
    let (y, source) = known (bytes_left a) stands.known in (
      (λ e. absurd (cc e)),
      (rw source (no-more a.state y (rows-end (λ (s : Bor (List ℕ)). Some s.now) a b f default_config y stands.config source read))),
    )
