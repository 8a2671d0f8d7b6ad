-- What reading a whole list of tokens tells, and that a script's spelling is read.
use Rattle.std.proofs.Common.{◌≡◌, ℕ, zero, suc, ◌<◌, ◌≤◌, true, false, List, [], ◌∷◌, ◌++◌, length, Ok, Err, Result, sym, refl, ap, ◌∙◌, subst, append_assoc, append-nil, arith, length-append}
use Rattle.lexing.specs.Tokens.{Lexeme}
use Rattle.language.specs.Syntax.{Fun}
use Rattle.language.specs.Verdict.{Refused}
use Rattle.language.specs.Spelling.{Spelled, Fits, Matches, none, more, spell_fun, spell}
use Rattle.language.specs.Nesting.{shallow, shallows}
use Rattle.language.specs.Reading.{Answer, Reader, here, fun_of, funs}
use Rattle.language.proofs.Fitting.{matches_append, shallows-append}
use Rattle.language.proofs.Told.{Alike, both_end, both_at, Spelt, Frame, Read, Told, read, stuck, deep, spent, Law}
use Rattle.language.proofs.Complete.{Fitted, fun_read}

-- a function was read, with tokens behind it or none, or it was refused
funs-last : (end : ℕ) (F : Reader Fun) (n : ℕ) (ts : List Lexeme) {g : Fun} → F ts ≡ Ok (g, []) → funs end F (suc n) ts ≡ Ok (g ∷ [])
funs-last end F n ts e = rw (e, funs)

funs-more : (end : ℕ) (F : Reader Fun) (n : ℕ) (ts : List Lexeme) {g : Fun} {t : Lexeme} {left : List Lexeme} {gs : List Fun} → F ts ≡ Ok (g, t ∷ left) → funs end F n (t ∷ left) ≡ Ok gs → funs end F (suc n) ts ≡ Ok (g ∷ gs)
funs-more end F n ts e h = rw (e, funs, h)

funs-refused : (end : ℕ) (F : Reader Fun) (n : ℕ) (ts : List Lexeme) {g : Fun} {t : Lexeme} {left : List Lexeme} {r : Refused} → F ts ≡ Ok (g, t ∷ left) → funs end F n (t ∷ left) ≡ Err r → funs end F (suc n) ts ≡ Err r
funs-refused end F n ts e h = rw (e, funs, h)

funs-none : (end : ℕ) (F : Reader Fun) (n : ℕ) (ts : List Lexeme) {r : Refused} → F ts ≡ Err r → funs end F (suc n) ts ≡ Err r
funs-none end F n ts e = rw (e, funs)

cons-nil : {A : Type 0} {x : A} {xs : List A} → x ∷ xs ≡ [] → ⊥
cons-nil e = let z : ◌≡◌ {A = ℕ} 0 1 = cc in omega arith

alike_none : {ts us : List Lexeme} → Alike ts us → us ≡ [] → ts ≡ []
alike_none both_end e = refl
alike_none both_at e = absurd (cons-nil e)

some_left : {t : Lexeme} {ts left : List Lexeme} (used : List Lexeme) → used ≡ [] → left ≡ [] → t ∷ ts ≡ used ++ left → ⊥
some_left used u l e = let z : ◌≡◌ {A = ℕ} 0 1 = cc in omega arith

-- a script's spelling within the limits is read
module _ (end blocks lists room : ℕ) where
  pub script_read : (n : ℕ) (g : Fun) (gs : List Fun) (ts : List Lexeme) → length ts < n → n ≤ room → Fitted end blocks lists ts (spell (g ∷ gs)) → funs end (fun_of end room lists blocks) n ts ≡ Ok (g ∷ gs)
  script_read zero g gs ts h k m = absurd (omega arith)
  script_read (suc n) g [] ts h k m =
      let r = (fun_read end blocks lists room g ts [] (omega arith) m).0 in
      funs-last end (fun_of end room lists blocks) n ts (r.answer ∙ ap (λ o. Ok (g, o)) (no_more r.fit))
    where
      no_more : {left : List Lexeme} → Matches left [] → left ≡ []
      no_more none = refl
  script_read (suc n) g (f ∷ fs) ts h k m =
      let s = fun_read end blocks lists room g ts (spell (f ∷ fs)) (omega arith) m in
      let r = s.0 in
      go r.left r.answer r.fit (script_read n f fs r.left (omega (arith, s.1)) (omega arith) (record { fit = r.fit; fine = r.fine }))
    where
      go : (left : List Lexeme) → fun_of end room lists blocks ts ≡ Ok (g, left) → Matches left (spell (f ∷ fs)) → funs end (fun_of end room lists blocks) n left ≡ Ok (f ∷ fs) → funs end (fun_of end room lists blocks) (suc n) ts ≡ Ok (g ∷ f ∷ fs)
      go _ e (more {t = t} {ts = left} x y) h = funs-more end (fun_of end room lists blocks) n ts e h

-- a reading of all tokens: a script, or where it stopped and why, as the reader of functions tells it
module _ (f : Frame) (F' : Reader Fun) where
  pub record Halts (n' : ℕ) (ts : List Lexeme) (place : ℕ) : Type 0 where
    pub used : List Lexeme
    pub left : List Lexeme
    pub one : Fun
    pub others : List Fun
    pub entries : List Spelled
    pub next : List Spelled
    pub tokens : List Lexeme
    pub split : ts ≡ used ++ left
    pub at : place ≡ here f.end left
    pub spelled : entries ++ next ≡ spell (one ∷ others)
    pub fit : Matches used entries
    pub fine : shallows f.blocks f.lists entries ≡ true
    pub goes_on : Matches tokens next
    pub again : (other : List Lexeme) → Alike left other → funs f.end F' n' (used ++ other) ≡ Err (record { number = 6; place = here f.end other })

  pub record Sinks (n' : ℕ) (ts : List Lexeme) (place : ℕ) : Type 0 where
    pub used : List Lexeme
    pub token : Lexeme
    pub left : List Lexeme
    pub one : Fun
    pub others : List Fun
    pub entries : List Spelled
    pub entry : Spelled
    pub next : List Spelled
    pub tokens : List Lexeme
    pub split : ts ≡ used ++ (token ∷ left)
    pub at : place ≡ token.place
    pub spelled : entries ++ (entry ∷ next) ≡ spell (one ∷ others)
    pub fit : Matches used entries
    pub fine : shallows f.blocks f.lists entries ≡ true
    pub fits : Fits entry token
    pub deep : shallow f.blocks f.lists entry ≡ false
    pub goes_on : Matches tokens next
    pub again : f.Same → (other : List Lexeme) → funs f.end F' n' (used ++ (token ∷ other)) ≡ Err (record { number = 7; place = token.place })

  pub data Whole (n n' : ℕ) (ts : List Lexeme) : Result (List Fun) Refused → Type 0 where
    all : {g : Fun} {gs : List Fun} → Matches ts (spell (g ∷ gs)) → shallows f.blocks f.lists (spell (g ∷ gs)) ≡ true → Whole n n' ts (Ok (g ∷ gs))
    halts : {p : ℕ} → Halts n' ts p → Whole n n' ts (Err (record { number = 6; place = p }))
    sinks : {p : ℕ} → Sinks n' ts p → Whole n n' ts (Err (record { number = 7; place = p }))
    ends : {p : ℕ} → n ≤ length ts → Whole n n' ts (Err (record { number = 0; place = p }))

  -- a function was read, and something is behind it
  module _ (n n' : ℕ) (ts : List Lexeme) {g : Fun} {t : Lexeme} {left : List Lexeme} (r : Read f F' (Spelt spell_fun) ts g (t ∷ left)) where
    longer : (used l : List Lexeme) → t ∷ left ≡ used ++ l → ts ≡ (r.used ++ used) ++ l
    longer used l e = r.split ∙ ap (λ o. r.used ++ o) e ∙ sym (append_assoc r.used used l)

    -- entries behind the function's own
    joined : (is : List Spelled) (js : List Spelled) (gs : List Fun) → is ++ js ≡ spell gs → (r.entries ++ is) ++ js ≡ spell (g ∷ gs)
    joined is js gs e = append_assoc r.entries is js ∙ r.spelled (is ++ js) ∙ ap (λ o. spell_fun g o) e

    refused_again : (used other : List Lexeme) {e : Refused} → (used ≡ [] → other ≡ [] → ⊥) → funs f.end F' n' (used ++ other) ≡ Err e → funs f.end F' (suc n') ((r.used ++ used) ++ other) ≡ Err e
    refused_again [] [] some h = absurd (some refl refl)
    refused_again [] (o ∷ other) some h = ap (λ x. funs f.end F' (suc n') x) (append_assoc r.used [] (o ∷ other)) ∙ funs-refused f.end F' n' _ (r.again (o ∷ other)) h
    refused_again (u ∷ used) other some h = ap (λ x. funs f.end F' (suc n') x) (append_assoc r.used (u ∷ used) other) ∙ funs-refused f.end F' n' _ (r.again (u ∷ (used ++ other))) h

    further : (a : Result (List Fun) Refused) → Whole n n' (t ∷ left) a → Whole (suc n) (suc n') ts (elim a [ Ok gs ↦ Ok (g ∷ gs) | Err e ↦ Err e ])
    further _ (all {g = h} {gs = gs} m s) = all
        (subst (λ o. Matches o (spell (g ∷ h ∷ gs))) (sym r.split) (subst (Matches (r.used ++ (t ∷ left))) (r.spelled (spell (h ∷ gs))) (matches_append r.fit m)))
        (subst (λ o. shallows f.blocks f.lists o ≡ true) (r.spelled (spell (h ∷ gs))) (shallows-append f.blocks f.lists r.entries (spell (h ∷ gs)) r.fine s))
    further _ (halts h) = halts (record {
      used = r.used ++ h.used;
      left = h.left;
      one = g;
      others = h.one ∷ h.others;
      entries = r.entries ++ h.entries;
      next = h.next;
      tokens = h.tokens;
      split = longer h.used h.left h.split;
      at = h.at;
      spelled = joined h.entries h.next (h.one ∷ h.others) h.spelled;
      fit = matches_append r.fit h.fit;
      fine = shallows-append f.blocks f.lists r.entries h.entries r.fine h.fine;
      goes_on = h.goes_on;
      again = λ other like. refused_again h.used other (λ u o. some_left h.used u (alike_none like o) h.split) (h.again other like);
    })
    further _ (sinks h) = sinks (record {
      used = r.used ++ h.used;
      token = h.token;
      left = h.left;
      one = g;
      others = h.one ∷ h.others;
      entries = r.entries ++ h.entries;
      entry = h.entry;
      next = h.next;
      tokens = h.tokens;
      split = longer h.used (h.token ∷ h.left) h.split;
      at = h.at;
      spelled = joined h.entries (h.entry ∷ h.next) (h.one ∷ h.others) h.spelled;
      fit = matches_append r.fit h.fit;
      fine = shallows-append f.blocks f.lists r.entries h.entries r.fine h.fine;
      fits = h.fits;
      deep = h.deep;
      goes_on = h.goes_on;
      again = λ same other. refused_again h.used (h.token ∷ other) (λ u o. cons-nil o) (h.again same other);
    })
    further _ (ends h) = ends (let e = ap length r.split ∙ length-append r.used (t ∷ left) in let k = used_some in omega arith)
      where
        used_some : 0 < length r.used
        used_some = by r.fit (r.spelled [])
          where
            by : {us : List Lexeme} {is : List Spelled} → Matches us is → is ++ [] ≡ spell_fun g [] → 0 < length us
            by none e = absurd (cons-nil (sym e))
            by (more h m) e = omega arith

  pub whole : {F : Reader Fun} {room : ℕ} → Law f room F F' (Spelt spell_fun) → (n n' : ℕ) → n ≤ n' → n ≤ room → (ts : List Lexeme) → Whole n n' ts (funs f.end F n ts)
  whole law zero n' h k ts = ends (omega arith)
  whole law (suc n) zero h k ts = absurd (omega arith)
  whole {F} {room} law (suc n) (suc n') h k ts = go (F ts) (law.told ts) (whole law n n' (omega arith) (omega arith))
    where
      go : (a : Answer Fun) → Told f room F' (Spelt spell_fun) ts a → ((ts : List Lexeme) → Whole n n' ts (funs f.end F n ts))
          → Whole (suc n) (suc n') ts (elim a [ Err e ↦ Err e | Ok (g, left) ↦ elim left [ [] ↦ Ok (g ∷ []) | t ∷ ts ↦ elim (funs f.end F n (t ∷ ts)) [ Ok gs ↦ Ok (g ∷ gs) | Err e ↦ Err e ] ] ])
      go _ (read {x = g} {left = []} r) others = all
          (subst (λ o. Matches o (spell_fun g [])) (sym (r.split ∙ append-nil r.used)) (subst (Matches r.used) (sym (append-nil r.entries) ∙ r.spelled []) r.fit))
          (subst (λ o. shallows f.blocks f.lists o ≡ true) (sym (append-nil r.entries) ∙ r.spelled []) r.fine)
      go _ (read {x = g} {left = t ∷ left} r) others = further n n' ts r (funs f.end F n (t ∷ left)) (others (t ∷ left))
      go _ (stuck s) others = halts (record {
        used = s.used;
        left = s.left;
        one = s.value;
        others = [];
        entries = s.entries;
        next = s.next;
        tokens = s.tokens;
        split = s.split;
        at = s.at;
        spelled = sym (append-nil (s.entries ++ s.next)) ∙ s.spelled [];
        fit = s.fit;
        fine = s.fine;
        goes_on = s.goes_on;
        again = λ other like. funs-none f.end F' n' (s.used ++ other) (s.again other like);
      })
      go _ (deep s) others = sinks (record {
        used = s.used;
        token = s.token;
        left = s.left;
        one = s.value;
        others = [];
        entries = s.entries;
        entry = s.entry;
        next = s.next;
        tokens = s.tokens;
        split = s.split;
        at = s.at;
        spelled = sym (append-nil (s.entries ++ (s.entry ∷ s.next))) ∙ s.spelled [];
        fit = s.fit;
        fine = s.fine;
        fits = s.fits;
        deep = s.deep;
        goes_on = s.goes_on;
        again = λ same other. funs-none f.end F' n' (s.used ++ (s.token ∷ other)) (s.again same other);
      })
      go _ (spent x) others = ends (omega arith)
