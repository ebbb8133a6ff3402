-- What is known before each token, and what follows of it where the text ends or goes wrong.
-- before: the symbols read so far; s: the state that they lead to; rest: what is left of the text
use Rattle.std.proofs.Common.{◌≡◌, ◌↔◌, inl, inr, ◌≤◌, ◌+◌, ℕ, Option, Some, None, Ok, Err, List, [], ◌∷◌, ◌++◌, length, drop, map, refl, sym, ap, ◌∙◌, subst, arith, append_assoc, append-nil}
use Rattle.std.specs.Prelude.{Result, IfOk}
use Rattle.std.proofs.lemmas.List.{length-drop}
use Rattle.su_lex.specs.Blanks.{Gap}
use Rattle.su_lex.specs.declared.meaning.Symbol.{Symbol}
use Rattle.su_lex.proofs.Gaps.{IsSolid, gap_solid}
use Rattle.su_lex.proofs.Lists.{token_some}
use Rattle.su_lex.proofs.OneByOne.{symbols_behind, peel_symbol, symbol_len}
use Rattle.su_lex.proofs.Written.{SymbolsAt, symbols_from, symbols_to}
use Rattle.su_faults.specs.declared.faults.Fault.{Fault}
use Rattle.su_faults.specs.declared.sorts.Sort.{Sort}
use Rattle.su_faults.specs.declared.sorts.Sort.TheVariants as sort
use Rattle.su_faults.specs.declared.spots.Move.{Move}
use Rattle.su_faults.specs.declared.spots.Language.{Language}
use Rattle.su_faults.specs.declared.spots.State.{State}
use Rattle.su_faults.specs.Sorts.{IsOfSort}
use Rattle.su_faults.specs.Faults.{Reads, Begins, MayCome, IsListed, IsFault, IsWhole, Tells}
use Rattle.su_faults.specs.inside.Choices.{Choices}
use Rattle.su_faults.specs.inside.Machine.{Accepts, HasChoice, IsEnd, choices_of, moved, started}
use Rattle.su_faults.specs.inside.Steps.{IsNext}
use Rattle.su_faults.proofs.Endings.{alive, a_token_of}
use Rattle.su_faults.proofs.Reading.{reads_push, symbols_read, token_for}
use Rattle.su_faults.proofs.Sorted.{sort_one, end_is}

pub record Led (language : Language) (text : List ℕ) (s : State) (rest : List ℕ) : Type 0 where
  pub before : List Symbol
  pub reads : Reads before text rest
  pub solid : IsSolid rest
  pub leads : (more : List Symbol) → Accepts (before ++ more) (started language) → Accepts more s
  pub led : (more : List Symbol) → Accepts more s → Accepts (before ++ more) (started language)
  pub level : s.level + length rest ≤ length text
  pub only : (all : List Symbol) → SymbolsAt text all → (more : List Symbol) × (all ≡ before ++ more) × SymbolsAt rest more

pub led_start : (language : Language) (text rest : List ℕ) → Gap text rest → IsSolid rest → length rest ≤ length text → Led language text (started language) rest
led_start language text rest gap solid within = record {
  before = [];
  reads = gap;
  solid = solid;
  leads = λ more h. h;
  led = λ more h. h;
  level = omega (arith, within);
  only = λ all a. (all, refl, symbols_behind text rest all gap solid a);
}

pub led_step : (language : Language) (text : List ℕ) (s : State) (rest : List ℕ) (t : State × ℕ) (next : List ℕ) → Led language text s rest → IsNext s rest (Some t) → Gap (drop t.1 rest) next → IsSolid next
    → length next ≤ length (drop t.1 rest) → Led language text t.0 next
led_step language text s rest t next l i gap solid within =
    let x = i.0 in
    let one = λ (more : List Symbol). append_assoc l.before (x ∷ []) more in
    let len = symbol_len rest x t.1 i.1 in
    record {
      before = l.before ++ x ∷ [];
      reads = reads_push l.before text rest next x t.1 l.reads i.1 gap;
      solid = solid;
      leads = λ more h. (i.2 more).0 (l.leads (x ∷ more) (subst (λ (ys : List Symbol). Accepts ys (started language)) (one more) h));
      led = λ more h. subst (λ (ys : List Symbol). Accepts ys (started language)) (sym (one more)) (l.led (x ∷ more) ((i.2 more).1 h));
      level = omega (arith, l.level, i.3, within, length-drop t.1 rest, len.0, len.1);
      only = λ all a.
          let m = l.only all a in
          let p = peel_symbol rest x t.1 m.0 i.1 m.2 in
          (p.more, m.1 ∙ ap (λ ys. l.before ++ ys) p.all_is ∙ sym (one p.more), symbols_behind (drop t.1 rest) next p.more gap solid p.behind);
    }

abbrev pub Whole : Language → List Symbol → Type 0
Whole language symbols = Accepts symbols (started language)

-- ---- the text ends

pub whole_at_end : (language : Language) (text : List ℕ) (s : State) (rest : List ℕ) → Led language text s rest → rest ≡ [] → HasChoice (λ c. IsEnd c.0) (choices_of s) → IsWhole (Whole language) text
whole_at_end language text s rest l nil h =
    let at = symbols_read l.before text (subst (λ (v : List ℕ). Reads l.before text v) nil l.reads) in
    (l.before, symbols_from text l.before at, subst (λ (ys : List Symbol). Accepts ys (started language)) (append-nil l.before) (l.led [] h))

-- ---- the text goes wrong

has_map : (P Q : Sort × Move → Type 0) (cs : Choices) → ((c : Sort × Move) → P c → Q c) → HasChoice P cs → HasChoice Q cs
has_map P Q [] f h = h
has_map P Q (c ∷ cs) f (inl h) = inl (f c h)
has_map P Q (c ∷ cs) f (inr h) = inr (has_map P Q cs f h)

listed_to : (cs : Choices) (k : Sort) → IsListed (map (λ c. c.0) cs) k → HasChoice (λ c. c.0 ≡ k) cs
listed_to [] k h = h
listed_to (c ∷ cs) k (inl h) = inl h
listed_to (c ∷ cs) k (inr h) = inr (listed_to cs k h)

listed_from : (cs : Choices) (k : Sort) → HasChoice (λ c. c.0 ≡ k) cs → IsListed (map (λ c. c.0) cs) k
listed_from [] k h = h
listed_from (c ∷ cs) k (inl h) = inl h
listed_from (c ∷ cs) k (inr h) = inr (listed_from cs k h)

-- a token of a sort that may come leads on to an end
come : (s : State) (cs : Choices) (k : Sort) (x : Symbol) → IsOfSort k x → HasChoice (λ c. c.0 ≡ k) cs → (ys : List Symbol) × HasChoice (λ c. IsOfSort c.0 x × Accepts ys (moved c.1 s)) cs
come s [] k x is h = absurd h
come s (c ∷ cs) k x is (inl e) =
    let to = moved c.1 s in
    let end = alive to.spot to.frame to.level in
    (end.0, inl (subst (λ (j : Sort). IsOfSort j x) (sym e) is, end.1))
come s (c ∷ cs) k x is (inr h) = let r = come s cs k x is h in (r.0, inr r.1)

-- a token that goes on to what is whole is of a sort that may come
token_listed : (language : Language) (text : List ℕ) (s : State) (rest : List ℕ) (l : Led language text s rest) (k : Sort) (x : Symbol) → IsOfSort k x → Begins (Whole language) (l.before ++ x ∷ [])
    → IsListed (map (λ c. c.0) (choices_of s)) k
token_listed language text s rest l k x is (more, h) =
    let on = l.leads (x ∷ more) (subst (λ (ys : List Symbol). Accepts ys (started language)) (append_assoc l.before (x ∷ []) more) h) in
    listed_from (choices_of s) k (has_map (λ c. IsOfSort c.0 x × Accepts more (moved c.1 s)) (λ c. c.0 ≡ k) (choices_of s) (λ c p. sort_one c.0 k x p.0 is) on)

-- a sort that may come has a token that goes on to what is whole
listed_token : (language : Language) (text : List ℕ) (s : State) (rest : List ℕ) (l : Led language text s rest) (k : Sort) → (IsEnd k → ⊥) → IsListed (map (λ c. c.0) (choices_of s)) k
    → (x : Symbol) × IsOfSort k x × Begins (Whole language) (l.before ++ x ∷ [])
listed_token language text s rest l k more h =
    let t = a_token_of k more in
    let r = come s (choices_of s) k t.0 t.1 (listed_to (choices_of s) k h) in
    (t.0, t.1, (r.0, subst (λ (ys : List Symbol). Accepts ys (started language)) (sym (append_assoc l.before (t.0 ∷ []) r.0)) (l.led (t.0 ∷ r.0) r.1)))

end_listed : (language : Language) (text : List ℕ) (s : State) (rest : List ℕ) (l : Led language text s rest) → Whole language l.before → IsListed (map (λ c. c.0) (choices_of s)) sort.End
end_listed language text s rest l h =
    let on = l.leads [] (subst (λ (ys : List Symbol). Accepts ys (started language)) (sym (append-nil l.before)) h) in
    listed_from (choices_of s) sort.End (has_map (λ c. IsEnd c.0) (λ c. c.0 ≡ sort.End) (choices_of s) (λ c p. end_is c.0 p) on)

listed_end : (language : Language) (text : List ℕ) (s : State) (rest : List ℕ) (l : Led language text s rest) → IsListed (map (λ c. c.0) (choices_of s)) sort.End → Whole language l.before
listed_end language text s rest l h =
    let on = has_map (λ c. c.0 ≡ sort.End) (λ c. IsEnd c.0) (choices_of s) (λ c e. subst IsEnd (sym e) tt) (listed_to (choices_of s) sort.End h) in
    subst (λ (ys : List Symbol). Accepts ys (started language)) (append-nil l.before) (l.led [] on)

all_wanted : (language : Language) (text : List ℕ) (s : State) (rest : List ℕ) (l : Led language text s rest) (k : Sort) → IsListed (map (λ c. c.0) (choices_of s)) k ↔ MayCome (Whole language) l.before k
all_wanted language text s rest l (sort.Word w) = (λ h. listed_token language text s rest l (sort.Word w) (λ e. e) h, λ m. token_listed language text s rest l (sort.Word w) m.0 m.1 m.2)
all_wanted language text s rest l sort.Name = (λ h. listed_token language text s rest l sort.Name (λ e. e) h, λ m. token_listed language text s rest l sort.Name m.0 m.1 m.2)
all_wanted language text s rest l sort.Number = (λ h. listed_token language text s rest l sort.Number (λ e. e) h, λ m. token_listed language text s rest l sort.Number m.0 m.1 m.2)
all_wanted language text s rest l sort.Text = (λ h. listed_token language text s rest l sort.Text (λ e. e) h, λ m. token_listed language text s rest l sort.Text m.0 m.1 m.2)
all_wanted language text s rest l (sort.Sign g) = (λ h. listed_token language text s rest l (sort.Sign g) (λ e. e) h, λ m. token_listed language text s rest l (sort.Sign g) m.0 m.1 m.2)
all_wanted language text s rest l sort.End = (λ h. listed_end language text s rest l h, λ m. end_listed language text s rest l m)

-- no token stands before the end
pub none_at_end : (s : State) → IsNext s [] None
none_at_end s x [] r e t xs h = token_some t.0 r t.1
none_at_end s x (b ∷ bs) r e t xs h = cc

-- the symbols of the text are led no further than those read
not_whole : (language : Language) (text : List ℕ) (s : State) (rest : List ℕ) → Led language text s rest → (rest ≡ [] → HasChoice (λ c. IsEnd c.0) (choices_of s) → ⊥) → IsNext s rest None → IsWhole (Whole language) text → ⊥
not_whole language text s rest l ended none (symbols, are, whole) = further m.0 m.2 (l.leads m.0 (subst (λ (ys : List Symbol). Accepts ys (started language)) m.1 whole))
  where
    m : (more : List Symbol) × (symbols ≡ l.before ++ more) × SymbolsAt rest more
    m = l.only symbols (symbols_to text symbols are)

    further : (more : List Symbol) → SymbolsAt rest more → Accepts more s → ⊥
    further [] gap h = ended (gap_solid rest [] l.solid gap) h
    further (x ∷ xs) a h = none x a.1 a.2 (gap_solid rest a.0 l.solid a.3 ∙ a.4) (token_for x a.1 a.2 a.5) xs h

pub fault_told : (language : Language) (text : List ℕ) (s : State) (rest : List ℕ) (fault : Fault) → Led language text s rest → (rest ≡ [] → HasChoice (λ c. IsEnd c.0) (choices_of s) → ⊥) → IsNext s rest None
    → fault.place + length rest ≡ length text → fault.wanted ≡ map (λ c. c.0) (choices_of s) → Tells (Whole language) text (Some fault)
fault_told language text s rest fault l ended none stands wanted =
    let end = alive s.spot s.frame s.level in (
      record {
        before = l.before;
        rest = rest;
        reads = l.reads;
        stands = stands;
        no_space = l.solid.no_space;
        no_comment = l.solid.no_comment;
        good = (end.0, l.led end.0 end.1);
        ended = λ nil h. ended nil (l.leads [] (subst (λ (ys : List Symbol). Accepts ys (started language)) (sym (append-nil l.before)) h));
        wrong = λ x front r e t h. none x front r e t h.0 (l.leads (x ∷ h.0) (subst (λ (ys : List Symbol). Accepts ys (started language)) (append_assoc l.before (x ∷ []) h.0) h.1));
        wanted = λ k. subst (λ (ks : List Sort). IsListed ks k ↔ MayCome (Whole language) l.before k) (sym wanted) (all_wanted language text s rest l k);
      },
      λ h. not_whole language text s rest l ended none h,
    )

-- ---- another way to say what is whole

fault_of : (V W : List Symbol → Type 0) (text : List ℕ) (fault : Fault) → ((xs : List Symbol) → V xs → W xs) → ((xs : List Symbol) → W xs → V xs) → IsFault V text fault → IsFault W text fault
fault_of V W text fault to from f = record {
  before = f.before;
  rest = f.rest;
  reads = f.reads;
  stands = f.stands;
  no_space = f.no_space;
  no_comment = f.no_comment;
  good = (f.good.0, to _ f.good.1);
  ended = λ nil h. f.ended nil (from f.before h);
  wrong = λ x front r e t h. f.wrong x front r e t (h.0, from _ h.1);
  wanted = λ k. (λ h. there k ((f.wanted k).0 h), λ m. (f.wanted k).1 (back k m));
}
  where
    there : (k : Sort) → MayCome V f.before k → MayCome W f.before k
    there (sort.Word w) m = (m.0, m.1, (m.2.0, to _ m.2.1))
    there sort.Name m = (m.0, m.1, (m.2.0, to _ m.2.1))
    there sort.Number m = (m.0, m.1, (m.2.0, to _ m.2.1))
    there sort.Text m = (m.0, m.1, (m.2.0, to _ m.2.1))
    there (sort.Sign s) m = (m.0, m.1, (m.2.0, to _ m.2.1))
    there sort.End m = to _ m

    back : (k : Sort) → MayCome W f.before k → MayCome V f.before k
    back (sort.Word w) m = (m.0, m.1, (m.2.0, from _ m.2.1))
    back sort.Name m = (m.0, m.1, (m.2.0, from _ m.2.1))
    back sort.Number m = (m.0, m.1, (m.2.0, from _ m.2.1))
    back sort.Text m = (m.0, m.1, (m.2.0, from _ m.2.1))
    back (sort.Sign s) m = (m.0, m.1, (m.2.0, from _ m.2.1))
    back sort.End m = from _ m

pub tells_of : (V W : List Symbol → Type 0) (text : List ℕ) (o : Option Fault) → ((xs : List Symbol) → V xs → W xs) → ((xs : List Symbol) → W xs → V xs) → Tells V text o → Tells W text o
tells_of V W text None to from t = (t.0, t.1, to t.0 t.2)
tells_of V W text (Some fault) to from t = (fault_of V W text fault to from t.0, λ h. t.1 (h.0, h.1, from h.0 h.2))

pub told_of : {E : Type 0} (V W : List Symbol → Type 0) (text : List ℕ) (r : Result (Option Fault) E) → ((xs : List Symbol) → V xs → W xs) → ((xs : List Symbol) → W xs → V xs) → IfOk r (Tells V text) → IfOk r (Tells W text)
told_of V W text (Ok o) to from t = tells_of V W text o to from t
told_of V W text (Err e) to from t = t
