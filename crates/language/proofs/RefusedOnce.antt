-- A text is refused for one question at one place.
use Rattle.std.proofs.Common.{◌≡◌, ℕ, true, List, [], ◌∷◌, ◌++◌, length, Ok, Err, Result, sym, refl, ap, ◌∙◌, subst, append_assoc, arith}
use Rattle.lexing.specs.Tokens.{Lexeme, Refusal}
use Rattle.lexing.specs.Numbers.{question_number}
use Rattle.language.specs.Syntax.{Script}
use Rattle.language.specs.Spelling.{Spelled, Fits, Matches, none, more, spell, Spells}
use Rattle.language.specs.Nesting.{shallow, shallows, most_blocks, most_lists}
use Rattle.language.specs.Reading.{here}
use Rattle.language.specs.ReadingLaws.{Begun, Stops, CannotGoOn, TooDeep, tokens, cannot_go_on, too_deep, RefusedOnce}
use Rattle.language.proofs.Fitting.{false_true, matches_append, shallows-first}
use Rattle.language.proofs.Depths.{opened, Exact, exact, same-depth}

-- two ways to cut one list: at the same place, or one further on
data Cut (b a b' a' : List Lexeme) : Type 0 where
  same : b ≡ b' → a ≡ a' → Cut b a b' a'
  sooner : (t : Lexeme) (m : List Lexeme) → b' ≡ b ++ (t ∷ m) → a ≡ t ∷ (m ++ a') → Cut b a b' a'
  later : (t : Lexeme) (m : List Lexeme) → b ≡ b' ++ (t ∷ m) → a' ≡ t ∷ (m ++ a) → Cut b a b' a'

first-is : {t u : Lexeme} {ts us : List Lexeme} → t ∷ ts ≡ u ∷ us → t ≡ u
first-is e = cc

rest-is : {t u : Lexeme} {ts us : List Lexeme} → t ∷ ts ≡ u ∷ us → ts ≡ us
rest-is e = cc

behind : (t u : Lexeme) {b a b' a' : List Lexeme} → t ≡ u → Cut b a b' a' → Cut (t ∷ b) a (u ∷ b') a'
behind t u e (same x y) = same (cc) y
behind t u e (sooner v m x y) = sooner v m (cc) y
behind t u e (later v m x y) = later v m (cc) y

cut : (b a b' a' : List Lexeme) → b ++ a ≡ b' ++ a' → Cut b a b' a'
cut [] a [] a' e = same refl e
cut [] a (u ∷ b') a' e = sooner u b' refl e
cut (t ∷ b) a [] a' e = later t b refl (sym e)
cut (t ∷ b) a (u ∷ b') a' e = behind t u (first-is e) (cut b a b' a' (rest-is e))

-- what tokens begin is the beginning of some script
record Goes (before : List Lexeme) : Type 0 where
  pub script : Script
  pub more : List Lexeme
  pub spells : Spells (before ++ more) script

goes : {before : List Lexeme} {next : List Spelled} → Begun before next → Goes before
goes {before} b = record {
  script = b.one ∷ b.others;
  more = b.more;
  spells = subst (Matches (before ++ b.more)) (sym b.spelled) (matches_append b.fit b.goes_on);
}

rest-fits : {ts : List Lexeme} {i : Spelled} {is : List Spelled} → Matches ts (i ∷ is) → (us : List Lexeme) × Matches us is
rest-fits (more {ts = us} h m) = (us, m)

deep-goes : {text : List ℕ} {p : ℕ} (d : TooDeep text p) → (ms : List Lexeme) × (s : Script) × Spells (d.before ++ (d.token ∷ ms)) s
deep-goes d =
    let b = d.begun in
    let r = rest-fits b.goes_on in
    (r.0, b.one ∷ b.others, subst (Matches (d.before ++ (d.token ∷ r.0))) (sym b.spelled) (matches_append b.fit (more d.fits r.1)))

-- and where tokens stop, no more of them begin a script
stops-there : (before after : List Lexeme) (t : Lexeme) (r ms : List Lexeme) (s : Script) → Stops before after → after ≡ t ∷ r → Spells (before ++ (t ∷ ms)) s → ⊥
stops-there before after t r ms s h e x =
    let k : Stops before (t ∷ r) = subst (Stops before) e h in
    k s ms x

no-further : (before after before' : List Lexeme) (t : Lexeme) (m r ms : List Lexeme) (s : Script) → Stops before after → after ≡ t ∷ r → before' ≡ before ++ (t ∷ m)
    → Spells (before' ++ ms) s → ⊥
no-further before after before' t m r ms s h e f x =
    stops-there before after t r (m ++ ms) s h e (subst (λ o. Spells o s) (ap (λ (o : List Lexeme). o ++ ms) f ∙ append_assoc before (t ∷ m) ms) x)

-- the entry of a token
record Entry (b : List Lexeme) (t : Lexeme) (es : List Spelled) : Type 0 where
  pub front : List Spelled
  pub entry : Spelled
  pub back : List Spelled
  pub are : es ≡ front ++ (entry ∷ back)
  pub fit : Matches b front
  pub fits : Fits entry t

entry_of : (b : List Lexeme) (t : Lexeme) (m : List Lexeme) (es : List Spelled) → Matches (b ++ (t ∷ m)) es → Entry b t es
entry_of [] t m _ (more {i = i} {is = is} h x) = record { front = []; entry = i; back = is; are = refl; fit = none; fits = h }
entry_of (u ∷ b) t m _ (more {i = i} {is = is} h x) =
    let r = entry_of b t m is x in
    record { front = i ∷ r.front; entry = r.entry; back = r.back; are = ap (λ (o : List Spelled). i ∷ o) r.are; fit = more h r.fit; fits = r.fits }

shallow-inside : (front : List Spelled) (i : Spelled) (back : List Spelled) → shallows most_blocks most_lists (front ++ (i ∷ back)) ≡ true → shallow most_blocks most_lists i ≡ true
shallow-inside [] i back e = (shallows-first most_blocks most_lists i back e).0
shallow-inside (j ∷ front) i back e = shallow-inside front i back (shallows-first most_blocks most_lists j (front ++ (i ∷ back)) e).1

-- nothing goes on within the limits behind a token that is too deep
too_far : {text : List ℕ} {p : ℕ} (d : TooDeep text p) (before : List Lexeme) (next : List Spelled) (t : Lexeme) (m : List Lexeme) → before ≡ d.before ++ (t ∷ m) → t ≡ d.token → Begun before next → ⊥
too_far d before next t m e k b =
    let r = entry_of d.before t m b.entries (subst (λ o. Matches o b.entries) e b.fit) in
    let flat = shallow-inside r.front r.entry r.back (subst (λ o. shallows most_blocks most_lists o ≡ true) r.are b.fine) in
    let spelt : spell (b.one ∷ b.others) ≡ r.front ++ (r.entry ∷ (r.back ++ next)) =
    b.spelled ∙ ap (λ (o : List Spelled). o ++ next) r.are ∙ append_assoc r.front (r.entry ∷ r.back) next in
    let alike = same-depth (opened 0 0) d.next (r.back ++ next) d.entry r.entry d.token d.begun.fit r.fit
    (subst (Exact (opened 0 0)) d.begun.spelled (exact (d.begun.one ∷ d.begun.others)))
    (subst (Exact (opened 0 0)) spelt (exact (b.one ∷ b.others))) d.fits (subst (Fits r.entry) k r.fits) in
    false_true (sym d.deep ∙ alike ∙ flat)

ok-is : {x y : List Lexeme} → ◌≡◌ {A = Result (List Lexeme) Refusal} (Ok x) (Ok y) → x ≡ y
ok-is e = cc

err_is : {x y : Refusal} → ◌≡◌ {A = Result (List Lexeme) Refusal} (Err x) (Err y) → x ≡ y
err_is e = cc

not_both : {C : Type 0} {x : List Lexeme} {y : Refusal} → ◌≡◌ {A = Result (List Lexeme) Refusal} (Ok x) (Err y) → C
not_both e = absurd (let z : ◌≡◌ {A = ℕ} 0 1 = cc in omega arith)

module _ (text : List ℕ) where
  stop_stop : (p q : ℕ) (c : CannotGoOn text p) (d : CannotGoOn text q) → p ≡ q
  stop_stop p q c d = by (cut c.before c.after d.before d.after (ok-is (sym c.are ∙ d.are)))
    where
      by : Cut c.before c.after d.before d.after → p ≡ q
      by (same x y) = c.at ∙ ap (here (length text)) y ∙ sym d.at
      by (sooner t m x y) = let g = goes d.begun in absurd (no-further _ _ _ t m _ g.more g.script c.stops y x g.spells)
      by (later t m x y) = let g = goes c.begun in absurd (no-further _ _ _ t m _ g.more g.script d.stops y x g.spells)

  stop_deep : {C : Type 0} (p q : ℕ) (c : CannotGoOn text p) (d : TooDeep text q) → C
  stop_deep {C} p q c d = by (cut c.before c.after d.before (d.token ∷ d.after) (ok-is (sym c.are ∙ d.are)))
    where
      g : (ms : List Lexeme) × (s : Script) × Spells (d.before ++ (d.token ∷ ms)) s
      g = deep-goes d

      by : Cut c.before c.after d.before (d.token ∷ d.after) → C
      by (same x y) = absurd (stops-there c.before _ d.token _ g.0 g.1 c.stops y (subst (λ o. Spells (o ++ (d.token ∷ g.0)) g.1) (sym x) g.2))
      by (sooner t m x y) = absurd (no-further _ _ _ t m _ (d.token ∷ g.0) g.1 c.stops y x g.2)
      by (later t m x y) = absurd (too_far d c.before c.next t m x (sym (first-is y)) c.begun)

  deep_deep : (p q : ℕ) (c : TooDeep text p) (d : TooDeep text q) → p ≡ q
  deep_deep p q c d = by (cut c.before (c.token ∷ c.after) d.before (d.token ∷ d.after) (ok-is (sym c.are ∙ d.are)))
    where
      by : Cut c.before (c.token ∷ c.after) d.before (d.token ∷ d.after) → p ≡ q
      by (same x y) = c.at ∙ ap (λ (o : Lexeme). o.place) (first-is y) ∙ sym d.at
      by (sooner t m x y) = absurd (too_far c d.before (d.entry ∷ d.next) t m x (sym (first-is y)) d.begun)
      by (later t m x y) = absurd (too_far d c.before (c.entry ∷ c.next) t m x (sym (first-is y)) c.begun)

pub refused_once : RefusedOnce
refused_once text _ _ (tokens r e) (tokens r' e') =
    ap (λ (o : Refusal). record { number = question_number o.question; place = o.place }) (err_is (sym e ∙ e'))
refused_once text _ _ (tokens r e) (cannot_go_on d) = not_both (sym d.are ∙ e)
refused_once text _ _ (tokens r e) (too_deep d) = not_both (sym d.are ∙ e)
refused_once text _ _ (cannot_go_on c) (tokens r e) = not_both (sym c.are ∙ e)
refused_once text _ _ (cannot_go_on {p = p} c) (cannot_go_on {p = q} d) = ap (λ o. record { number = 6; place = o }) (stop_stop text p q c d)
refused_once text _ _ (cannot_go_on {p = p} c) (too_deep {p = q} d) = stop_deep text p q c d
refused_once text _ _ (too_deep c) (tokens r e) = not_both (sym c.are ∙ e)
refused_once text _ _ (too_deep {p = p} c) (cannot_go_on {p = q} d) = stop_deep text q p d c
refused_once text _ _ (too_deep {p = p} c) (too_deep {p = q} d) = ap (λ o. record { number = 7; place = o }) (deep_deep text p q c d)
