-- The laws of reading.
use Rattle.std.proofs.Common.{◌≡◌, ℕ, suc, ◌+◌, ◌≤◌, true, List, [], ◌∷◌, ◌++◌, length, Ok, Err, Result, sym, refl, ap, ◌∙◌, subst, append-nil, arith, le-leb, leb-true}
use Rattle.lexing.specs.Tokens.{Lexeme, Refusal}
use Rattle.lexing.specs.Texts.{tokens_of}
use Rattle.lexing.specs.Numbers.{question_number}
use Rattle.language.specs.Syntax.{Script}
use Rattle.language.specs.Verdict.{Refused}
use Rattle.language.specs.Spelling.{Spelled, word, word_at, block_at, list_at, name, number, more, spell, Spells}
use Rattle.language.specs.Nesting.{shallow, shallows, most_blocks, most_lists, Within}
use Rattle.language.specs.Reading.{here, fun_of, funs, script_of, reading}
use Rattle.language.specs.ReadingLaws.{SpellsOne, ReadsSpelled, Stops, RefusedFor, tokens, cannot_go_on, too_deep, RefusesRightly}
use Rattle.language.proofs.Fitting.{shallows-first, shallows-more}
use Rattle.language.proofs.Told.{Alike, both_end, both_at, Frame}
use Rattle.language.proofs.Blocks.{fun_law}
use Rattle.language.proofs.Scripts.{script_read, Halts, Sinks, Whole, all, halts, sinks, ends, whole}
use Rattle.language.proofs.Places.{Rising, one_split, rising_tokens}

-- every spelling keeps to some limits, and to wider ones
wider : (b b' l l' : ℕ) → b ≤ b' → l ≤ l' → (i : Spelled) → shallow b l i ≡ true → shallow b' l' i ≡ true
wider b b' l l' h k (word c w) e = refl
wider b b' l l' h k (word_at p w) e = refl
wider b b' l l' h k (block_at d) e = le-leb d b' (let z = leb-true d b e in omega arith)
wider b b' l l' h k (list_at d) e = le-leb d l' (let z = leb-true d l e in omega arith)
wider b b' l l' h k (name x) e = refl
wider b b' l l' h k (number p n) e = refl

all-wider : (b b' l l' : ℕ) → b ≤ b' → l ≤ l' → (is : List Spelled) → shallows b l is ≡ true → shallows b' l' is ≡ true
all-wider b b' l l' h k [] e = refl
all-wider b b' l l' h k (i ∷ is) e = let f = shallows-first b l i is e in shallows-more b' l' i is (wider b b' l l' h k i f.0) (all-wider b b' l l' h k is f.1)

limit : (i : Spelled) → (n : ℕ) × (shallow n n i ≡ true)
limit (word c w) = (0, refl)
limit (word_at p w) = (0, refl)
limit (block_at d) = (d, le-leb d d (omega arith))
limit (list_at d) = (d, le-leb d d (omega arith))
limit (name x) = (0, refl)
limit (number p n) = (0, refl)

limits : (is : List Spelled) → (n : ℕ) × (shallows n n is ≡ true)
limits [] = (0, refl)
limits (i ∷ is) =
    let a = limit i in
    let r = limits is in
    let n = a.0 + r.0 in
    (n, shallows-more n n i is (wider a.0 n a.0 n (omega arith) (omega arith) i a.1) (all-wider r.0 n r.0 n (omega arith) (omega arith) is r.1))

ok-err : {A B C : Type 0} {x : A} {y : B} → Ok x ≡ Err y → C
ok-err e = absurd (let z : ◌≡◌ {A = ℕ} 0 1 = cc in omega arith)

err_is : {x y : Refused} → ◌≡◌ {A = Result Script Refused} (Err x) (Err y) → x ≡ y
err_is e = cc

err_number : {x y : Refused} → ◌≡◌ {A = Result Script Refused} (Err x) (Err y) → x.number ≡ y.number
err_number e = ap (λ (r : Refused). r.number) (err_is e)

err_place : {x y : Refused} → ◌≡◌ {A = Result Script Refused} (Err x) (Err y) → x.place ≡ y.place
err_place e = ap (λ (r : Refused). r.place) (err_is e)

pub spells_one : SpellsOne
spells_one ts [] s' h h' = absurd h
spells_one ts (f ∷ fs) [] h h' = absurd h'
spells_one ts (f ∷ fs) (g ∷ gs) h h' =
    let a = limits (spell (f ∷ fs)) in
    let c = limits (spell (g ∷ gs)) in
    let n = a.0 + c.0 in
    let x = script_read 0 n n (suc (length ts)) (suc (length ts)) f fs ts (omega arith) (omega arith) (record { fit = h; fine = all-wider a.0 n a.0 n (omega arith) (omega arith) (spell (f ∷ fs)) a.1 }) in
    let y = script_read 0 n n (suc (length ts)) (suc (length ts)) g gs ts (omega arith) (omega arith) (record { fit = h'; fine = all-wider c.0 n c.0 n (omega arith) (omega arith) (spell (g ∷ gs)) c.1 }) in
    cc

-- the answer where the tokens are known, beside a second reader that allows at least as much
module _ (end : ℕ) (ts : List Lexeme) (Same : Type 0) (room' lists' blocks' : ℕ) (roomy : suc (length ts) ≤ room') (listy : most_lists ≤ lists') (blocky : most_blocks ≤ blocks')
    (same_lists : Same → most_lists ≡ lists') (same_blocks : Same → most_blocks ≡ blocks') where
  abbrev frame : Frame
  frame = record { end = end; blocks = most_blocks; lists = most_lists; Same = Same }

  answers : Whole frame (fun_of end room' lists' blocks') (suc (length ts)) room' ts (script_of end (suc (length ts)) most_lists most_blocks ts)
  answers = whole frame (fun_of end room' lists' blocks') (fun_law (suc (length ts)) room' lists' roomy listy same_lists blocks' blocky same_blocks) (suc (length ts)) room' roomy (omega arith) ts

  -- the answer taken by its form
  is_read : (s : Script) (a : Result Script Refused) → Whole frame (fun_of end room' lists' blocks') (suc (length ts)) room' ts a → a ≡ Ok s → Spells ts s × Within s
  is_read s _ (all {g = g} {gs = gs} m h) e = let z : g ∷ gs ≡ s = cc in subst (λ o. Spells ts o × Within o) z (m, h)
  is_read s _ (halts h) e = ok-err (sym e)
  is_read s _ (sinks h) e = ok-err (sym e)
  is_read s _ (ends h) e = ok-err (sym e)

  is_stuck : (p : ℕ) (a : Result Script Refused) → Whole frame (fun_of end room' lists' blocks') (suc (length ts)) room' ts a → a ≡ Err (record { number = 6; place = p }) → Halts frame (fun_of end room' lists' blocks') room' ts p
  is_stuck p _ (all m h) e = ok-err e
  is_stuck p _ (halts h) e = subst (Halts frame (fun_of end room' lists' blocks') room' ts) (err_place e) h
  is_stuck p _ (sinks h) e = absurd (let z = err_number e in omega arith)
  is_stuck p _ (ends h) e = absurd (let z = err_number e in omega arith)

  is_deep : (p : ℕ) (a : Result Script Refused) → Whole frame (fun_of end room' lists' blocks') (suc (length ts)) room' ts a → a ≡ Err (record { number = 7; place = p }) → Sinks frame (fun_of end room' lists' blocks') room' ts p
  is_deep p _ (all m h) e = ok-err e
  is_deep p _ (halts h) e = absurd (let z = err_number e in omega arith)
  is_deep p _ (sinks h) e = subst (Sinks frame (fun_of end room' lists' blocks') room' ts) (err_place e) h
  is_deep p _ (ends h) e = absurd (let z = err_number e in omega arith)

-- no script's spelling begins with what was used up and goes on alike
module _ (end : ℕ) (ts : List Lexeme) (rises : Rising 0 end ts) (p : ℕ) where
  no_script : script_of end (suc (length ts)) most_lists most_blocks ts ≡ Err (record { number = 6; place = p }) → (used left : List Lexeme) → ts ≡ used ++ left → p ≡ here end left
      → (other : List Lexeme) → Alike left other → (s : Script) → Spells (used ++ other) s → ⊥
  no_script e used left split at other like [] h = h
  no_script e used left split at other like (g ∷ gs) h =
      let n = limits (spell (g ∷ gs)) in
      let l = most_lists + n.0 in
      let b = most_blocks + n.0 in
      let room = suc (length ts) + suc (length (used ++ other)) in
      let w = is_stuck end ts ⊥ room l b (omega arith) (omega arith) (omega arith) (λ x. absurd x) (λ x. absurd x) p _
      (answers end ts ⊥ room l b (omega arith) (omega arith) (omega arith) (λ x. absurd x) (λ x. absurd x)) e in
      let z = one_split 0 end used left w.used w.left (subst (Rising 0 end) split rises) (sym split ∙ w.split) (sym at ∙ w.at) in
      let x = w.again other (subst (λ o. Alike o other) z.1 like) in
      let y = script_read end b l room room g gs (used ++ other) (omega arith) (omega arith) (record { fit = h; fine = all-wider n.0 b n.0 l (omega arith) (omega arith) (spell (g ∷ gs)) n.1 }) in
      ok-err (sym y ∙ ap (λ o. funs end (fun_of end room l b) room (o ++ other)) z.0 ∙ x)

  none_within : script_of end (suc (length ts)) most_lists most_blocks ts ≡ Err (record { number = 7; place = p }) → (used left : List Lexeme) (token : Lexeme) → ts ≡ used ++ (token ∷ left) → p ≡ token.place
      → (s : Script) (on : List Lexeme) → Spells (used ++ (token ∷ on)) s → Within s → ⊥
  none_within e used left token split at [] on h fine = h
  none_within e used left token split at (g ∷ gs) on h fine =
      let room = suc (length ts) + suc (length (used ++ (token ∷ on))) in
      let w = is_deep end ts (Unit {0}) room most_lists most_blocks (omega arith) (omega arith) (omega arith) (λ _. refl) (λ _. refl) p _
      (answers end ts (Unit {0}) room most_lists most_blocks (omega arith) (omega arith) (omega arith) (λ _. refl) (λ _. refl)) e in
      let z = one_split 0 end used (token ∷ left) w.used (w.token ∷ w.left) (subst (Rising 0 end) split rises) (sym split ∙ w.split) (sym at ∙ w.at) in
      let t : token ≡ w.token = cc z.1 in
      let x = w.again tt on in
      let y = script_read end most_blocks most_lists room room g gs (used ++ (token ∷ on)) (omega arith) (omega arith) (record { fit = h; fine = fine }) in
      ok-err (sym y ∙ ap (λ o. funs end (fun_of end room most_lists most_blocks) room (o ++ (token ∷ on))) z.0 ∙ ap (λ (o : Lexeme). funs end (fun_of end room most_lists most_blocks) room (w.used ++ (o ∷ on))) t ∙ x)

-- the answer of reading, by the tokens
read_tokens : (text : List ℕ) (ts : List Lexeme) → tokens_of text ≡ Ok ts → reading text ≡ script_of (length text) (suc (length ts)) most_lists most_blocks ts
read_tokens text ts e = rw (e, reading)

read_refused : (text : List ℕ) (r : Refusal) → tokens_of text ≡ Err r → reading text ≡ Err (record { number = question_number r.question; place = r.place })
read_refused text r e = rw (e, reading)

-- what a text's answer tells with no second reader to speak of
told : (text : List ℕ) (ts : List Lexeme) → Whole (frame (length text) ts (Unit {0}) (suc (length ts)) most_lists most_blocks (omega arith) (omega arith) (omega arith) (λ _. refl) (λ _. refl)) (fun_of (length text) (suc (length ts)) most_lists most_blocks) (suc (length ts)) (suc (length ts)) ts (script_of (length text) (suc (length ts)) most_lists most_blocks ts)
told text ts = answers (length text) ts (Unit {0}) (suc (length ts)) most_lists most_blocks (omega arith) (omega arith) (omega arith) (λ _. refl) (λ _. refl)

pub reads_spelled : ReadsSpelled
reads_spelled text s = (λ e. by (tokens_of text) refl e, back)
  where
    by : (r : Result (List Lexeme) Refusal) → tokens_of text ≡ r → reading text ≡ Ok s → (ts : List Lexeme) × (tokens_of text ≡ Ok ts) × Spells ts s × Within s
    by (Ok ts) t e = let h = is_read (length text) ts (Unit {0}) (suc (length ts)) most_lists most_blocks (omega arith) (omega arith) (omega arith) (λ _. refl) (λ _. refl) s _ (told text ts) (sym (read_tokens text ts t) ∙ e) in (ts, t, h.0, h.1)
    by (Err r) t e = ok-err (sym e ∙ read_refused text r t)

    spelt : (s : Script) (ts : List Lexeme) → tokens_of text ≡ Ok ts → Spells ts s → Within s → reading text ≡ Ok s
    spelt [] ts t h k = absurd h
    spelt (g ∷ gs) ts t h k = read_tokens text ts t ∙ script_read (length text) most_blocks most_lists (suc (length ts)) (suc (length ts)) g gs ts (omega arith) (omega arith) (record { fit = h; fine = k })

    back : (ts : List Lexeme) → tokens_of text ≡ Ok ts → Spells ts s → Within s → reading text ≡ Ok s
    back ts t h k = spelt s ts t h k

stops_at : (used left : List Lexeme) → ((other : List Lexeme) → Alike left other → (s : Script) → Spells (used ++ other) s → ⊥) → Stops used left
stops_at used [] k = λ s h. k [] both_end s (subst (λ o. Spells o s) (sym (append-nil used)) h)
stops_at used (t ∷ left) k = λ s on h. k (t ∷ on) both_at s h

pub refuses_rightly : RefusesRightly
refuses_rightly text e h = by (tokens_of text) refl
  where
    for : (ts : List Lexeme) → tokens_of text ≡ Ok ts → (a : Result Script Refused) → script_of (length text) (suc (length ts)) most_lists most_blocks ts ≡ a
        → Whole (frame (length text) ts (Unit {0}) (suc (length ts)) most_lists most_blocks (omega arith) (omega arith) (omega arith) (λ _. refl) (λ _. refl)) (fun_of (length text) (suc (length ts)) most_lists most_blocks) (suc (length ts)) (suc (length ts)) ts a
        → a ≡ Err e → RefusedFor text e
    for ts t _ q (all m x) c = ok-err c
    for ts t _ q (halts {p = p} w) c = subst (RefusedFor text) (err_is c) (cannot_go_on (record {
      before = w.used;
      after = w.left;
      next = w.next;
      are = t ∙ ap (λ (o : List Lexeme). Ok o) w.split;
      at = w.at;
      begun = record { one = w.one; others = w.others; entries = w.entries; spelled = sym w.spelled; fit = w.fit; fine = w.fine; more = w.tokens; goes_on = w.goes_on };
      stops = stops_at w.used w.left (no_script (length text) ts (rising_tokens text ts t) p q w.used w.left w.split w.at);
    }))
    for ts t _ q (sinks {p = p} w) c = subst (RefusedFor text) (err_is c) (too_deep (record {
      before = w.used;
      token = w.token;
      after = w.left;
      entry = w.entry;
      next = w.next;
      are = t ∙ ap (λ (o : List Lexeme). Ok o) w.split;
      at = w.at;
      begun = record { one = w.one; others = w.others; entries = w.entries; spelled = sym w.spelled; fit = w.fit; fine = w.fine; more = w.token ∷ w.tokens; goes_on = more w.fits w.goes_on };
      fits = w.fits;
      deep = w.deep;
      outside = none_within (length text) ts (rising_tokens text ts t) p q w.used w.left w.token w.split w.at;
    }))
    for ts t _ q (ends x) c = absurd (omega arith)

    by : (r : Result (List Lexeme) Refusal) → tokens_of text ≡ r → RefusedFor text e
    by (Ok ts) t = for ts t (script_of (length text) (suc (length ts)) most_lists most_blocks ts) refl (told text ts) (sym (read_tokens text ts t) ∙ h)
    by (Err r) t = subst (RefusedFor text) (err_is (sym (read_refused text r t) ∙ h)) (tokens r t)
