-- What a reader's answer tells of the tokens, and that readers put together tell it too.
use Rattle.std.proofs.Common.{◌≡◌, ℕ, suc, ◌≤◌, Bool, true, false, ◌⊎◌, List, [], ◌∷◌, ◌++◌, length, Ok, Err, sym, refl, ap, ◌∙◌, subst, inl, inr, append_assoc, arith, length-append}
use Rattle.lexing.specs.declared.token.Kind.{Kind}
use Rattle.lexing.specs.Tokens.{Lexeme}
use Rattle.language.specs.Spelling.{Spelled, Is, Fits, Matches, none, more}
use Rattle.language.specs.Nesting.{shallow, shallows}
use Rattle.language.specs.Reading.{Answer, Reader, here, rest, refuse, then, give, starts, on}
use Rattle.language.proofs.Fitting.{false_true, starts_is, matches_append, shallows-append, shallows-more}

-- which lists of entries spell a value
abbrev pub Lang : Type 0 → Type 1
Lang A = A → List Spelled → Type 0

-- two lists that are both at their end, or begin with one token
pub data Alike : List Lexeme → List Lexeme → Type 0 where
  both_end : Alike [] []
  both_at : {t : Lexeme} {ts us : List Lexeme} → Alike (t ∷ ts) (t ∷ us)

-- one language behind the other, a value spelled by no entry, an entry before a language, and entries that a spelling puts before all that follows
pub data Seq {A B : Type 0} (L : Lang A) (M : A → Lang B) : B → List Spelled → Type 0 where
  seq : {x : A} {y : B} {is js : List Spelled} → L x is → M x y js → Seq L M y (is ++ js)

pub data Just {A : Type 0} (x : A) : A → List Spelled → Type 0 where
  just : Just x x []

pub data After {A : Type 0} (item : ℕ → Spelled) (L : ℕ → Lang A) : A → List Spelled → Type 0 where
  after : {p : ℕ} {x : A} {is : List Spelled} → L p x is → After item L x (item p ∷ is)

abbrev pub Either : {A : Type 0} → Lang A → Lang A → Lang A
Either L M x is = L x is ⊎ M x is

abbrev pub Spelt : {A : Type 0} → (A → List Spelled → List Spelled) → Lang A
Spelt spell x is = (js : List Spelled) → is ++ js ≡ spell x js

-- a language has a value, and tokens that fit its spelling
pub record Live {A : Type 0} (L : Lang A) : Type 0 where
  pub value : A
  pub entries : List Spelled
  pub tokens : List Lexeme
  pub spelled : L value entries
  pub fit : Matches tokens entries

-- the first token decides a test
alike_start : (k : Kind) (w : List ℕ) {ts us : List Lexeme} → Alike ts us → starts k w us ≡ starts k w ts
alike_start k w both_end = refl
alike_start k w both_at = refl

same_start : (k : Kind) (w : List ℕ) (used left other : List Lexeme) → (used ≡ [] → Alike left other) → starts k w (used ++ other) ≡ starts k w (used ++ left)
same_start k w [] left other h = alike_start k w (h refl)
same_start k w (t ∷ used) left other h = refl

empty-fit : {ts : List Lexeme} {is : List Spelled} → Matches ts is → ts ≡ [] → is ≡ []
empty-fit none e = refl
empty-fit (more h m) e = absurd (let z : ◌≡◌ {A = ℕ} 0 1 = cc in omega arith)

module _ {A : Type 0} (end : ℕ) (k : Kind) (w : List ℕ) (K : ℕ → Reader A) (S : Reader A) where
  pub meets : (ts : List Lexeme) → starts k w ts ≡ true → on end k w K S ts ≡ K (here end ts) (rest ts)
  meets ts e = rw (e, on)

  pub skips : (ts : List Lexeme) → starts k w ts ≡ false → on end k w K S ts ≡ S ts
  skips ts e = rw (e, on)

-- an entry before a language: it lives, and is never empty
pub after-live : {A : Type 0} (k : Kind) (w : List ℕ) (item : ℕ → Spelled) → ((t : Lexeme) → Is k w t → Fits (item t.place) t) → {L : ℕ → Lang A} → Live (L 0) → Live (After item L)
after-live k w item fits l =
    let t : Lexeme = record { kind = k; place = 0; bytes = w } in
    record { value = l.value; entries = item 0 ∷ l.entries; tokens = t ∷ l.tokens; spelled = after l.spelled; fit = more (fits t (refl, refl)) l.fit }

pub never_after : {A : Type 0} {item : ℕ → Spelled} {L : ℕ → Lang A} (x : A) (is : List Spelled) → is ≡ [] → After item L x is → ⊥
never_after x _ e (after h) = let z : ◌≡◌ {A = ℕ} 0 1 = cc in omega arith

-- `end` is the text's length, `blocks` and `lists` the limits; the second reader allows at least as much, and where `Same` holds no more
pub record Frame : Type 1 where
  pub end : ℕ
  pub blocks : ℕ
  pub lists : ℕ
  pub Same : Type 0

module _ (f : Frame) where
  -- a value was read: what was used up spells it within the limits, and the second reader reads it from there too
  pub record Read {A : Type 0} (R : Reader A) (L : Lang A) (ts : List Lexeme) (x : A) (left : List Lexeme) : Type 0 where
    pub used : List Lexeme
    pub entries : List Spelled
    pub split : ts ≡ used ++ left
    pub spelled : L x entries
    pub fit : Matches used entries
    pub fine : shallows f.blocks f.lists entries ≡ true
    pub again : (other : List Lexeme) → R (used ++ other) ≡ Ok (x, other)

  -- no token can follow what was used up, which begins a spelling within the limits
  pub record Stuck {A : Type 0} (R : Reader A) (L : Lang A) (ts : List Lexeme) (place : ℕ) : Type 0 where
    pub used : List Lexeme
    pub left : List Lexeme
    pub value : A
    pub entries : List Spelled
    pub next : List Spelled
    pub tokens : List Lexeme
    pub split : ts ≡ used ++ left
    pub at : place ≡ here f.end left
    pub spelled : L value (entries ++ next)
    pub fit : Matches used entries
    pub fine : shallows f.blocks f.lists entries ≡ true
    pub goes_on : Matches tokens next
    pub again : (other : List Lexeme) → Alike left other → R (used ++ other) ≡ Err (record { number = 6; place = here f.end other })

  -- the next token opens what nests too deep
  pub record Deep {A : Type 0} (R : Reader A) (L : Lang A) (ts : List Lexeme) (place : ℕ) : Type 0 where
    pub used : List Lexeme
    pub token : Lexeme
    pub left : List Lexeme
    pub value : A
    pub entries : List Spelled
    pub entry : Spelled
    pub next : List Spelled
    pub tokens : List Lexeme
    pub split : ts ≡ used ++ (token ∷ left)
    pub at : place ≡ token.place
    pub spelled : L value (entries ++ (entry ∷ next))
    pub fit : Matches used entries
    pub fine : shallows f.blocks f.lists entries ≡ true
    pub fits : Fits entry token
    pub deep : shallow f.blocks f.lists entry ≡ false
    pub goes_on : Matches tokens next
    pub again : f.Same → (other : List Lexeme) → R (used ++ (token ∷ other)) ≡ Err (record { number = 7; place = token.place })

  -- `room` is what is left for repetitions
  pub data Told {A : Type 0} (room : ℕ) (R : Reader A) (L : Lang A) (ts : List Lexeme) : Answer A → Type 0 where
    read : {x : A} {left : List Lexeme} → Read R L ts x left → Told room R L ts (Ok (x, left))
    stuck : {p : ℕ} → Stuck R L ts p → Told room R L ts (Err (record { number = 6; place = p }))
    deep : {p : ℕ} → Deep R L ts p → Told room R L ts (Err (record { number = 7; place = p }))
    spent : {p : ℕ} → room ≤ length ts → Told room R L ts (Err (record { number = 0; place = p }))

  pub record Law {A : Type 0} (room : ℕ) (Q R : Reader A) (L : Lang A) : Type 0 where
    pub told : (ts : List Lexeme) → Told room R L ts (Q ts)
    pub live : Live L

module _ {f : Frame} where
  -- a language that holds more
  pub widen : {A : Type 0} {room : ℕ} {Q R : Reader A} {L M : Lang A} → ((x : A) (is : List Spelled) → L x is → M x is) → Law f room Q R L → Law f room Q R M
  widen {room = room} {Q = Q} {R = R} {L = L} {M = M} wider law = record {
    told = λ ts. go ts (Q ts) (law.told ts);
    live = record { value = law.live.value; entries = law.live.entries; tokens = law.live.tokens; spelled = wider _ _ law.live.spelled; fit = law.live.fit };
  }
    where
      go : (ts : List Lexeme) (a : Answer _) → Told f room R L ts a → Told f room R M ts a
      go ts _ (read r) = read (record { used = r.used; entries = r.entries; split = r.split; spelled = wider _ _ r.spelled; fit = r.fit; fine = r.fine; again = r.again })
      go ts _ (stuck s) = stuck (record { used = s.used; left = s.left; value = s.value; entries = s.entries; next = s.next; tokens = s.tokens; split = s.split; at = s.at; spelled = wider _ _ s.spelled; fit = s.fit; fine = s.fine; goes_on = s.goes_on; again = s.again })
      go ts _ (deep d) = deep (record { used = d.used; token = d.token; left = d.left; value = d.value; entries = d.entries; entry = d.entry; next = d.next; tokens = d.tokens; split = d.split; at = d.at; spelled = wider _ _ d.spelled; fit = d.fit; fine = d.fine; fits = d.fits; deep = d.deep; goes_on = d.goes_on; again = d.again })
      go ts _ (spent h) = spent h

  -- less room
  pub roomless : {A : Type 0} {room less : ℕ} {Q R : Reader A} {L : Lang A} → less ≤ room → Law f room Q R L → Law f less Q R L
  roomless {room = room} {less} {Q = Q} {R = R} {L = L} h law = record { told = λ ts. go ts (Q ts) (law.told ts); live = law.live }
    where
      go : (ts : List Lexeme) (a : Answer _) → Told f room R L ts a → Told f less R L ts a
      go ts _ (read r) = read r
      go ts _ (stuck s) = stuck s
      go ts _ (deep d) = deep d
      go ts _ (spent k) = spent (omega arith)

  pub give_law : {A : Type 0} {room : ℕ} (x : A) → Law f room (give x) (give x) (Just x)
  give_law x = record {
    told = λ ts. read (record { used = []; entries = []; split = refl; spelled = just; fit = none; fine = refl; again = λ other. refl });
    live = record { value = x; entries = []; tokens = []; spelled = just; fit = none };
  }

  -- one reader behind another
  module _ {A B : Type 0} {room : ℕ} {Q R : Reader A} {L : Lang A} {K K' : A → Reader B} {M : A → Lang B}
      (first : Law f room Q R L) (second : (x : A) → Law f room (K x) (K' x) (M x)) where
    abbrev R' : Reader B
    R' ts = then (R ts) K'

    again_both : {x : A} (used used' other : List Lexeme) (e : Answer B) → ((o : List Lexeme) → R (used ++ o) ≡ Ok (x, o)) → K' x (used' ++ other) ≡ e → R' ((used ++ used') ++ other) ≡ e
    again_both {x = x} used used' other e h k = ap (λ o. R' o) (append_assoc used used' other) ∙ (ap (λ o. then o K') (h (used' ++ other)) ∙ k)

    behind : (ts : List Lexeme) {x : A} {left : List Lexeme} → Read f R L ts x left → (a : Answer B) → Told f room (K' x) (M x) left a → Told f room R' (Seq L M) ts a
    behind ts r _ (read q) = read (record {
      used = r.used ++ q.used;
      entries = r.entries ++ q.entries;
      split = r.split ∙ ap (λ o. r.used ++ o) q.split ∙ sym (append_assoc r.used q.used _);
      spelled = seq r.spelled q.spelled;
      fit = matches_append r.fit q.fit;
      fine = shallows-append f.blocks f.lists r.entries q.entries r.fine q.fine;
      again = λ other. again_both r.used q.used other _ r.again (q.again other);
    })
    behind ts r _ (stuck q) = stuck (record {
      used = r.used ++ q.used;
      left = q.left;
      value = q.value;
      entries = r.entries ++ q.entries;
      next = q.next;
      tokens = q.tokens;
      split = r.split ∙ ap (λ o. r.used ++ o) q.split ∙ sym (append_assoc r.used q.used _);
      at = q.at;
      spelled = rw (append_assoc r.entries q.entries q.next) (seq r.spelled q.spelled);
      fit = matches_append r.fit q.fit;
      fine = shallows-append f.blocks f.lists r.entries q.entries r.fine q.fine;
      goes_on = q.goes_on;
      again = λ other like. again_both r.used q.used other _ r.again (q.again other like);
    })
    behind ts r _ (deep q) = deep (record {
      used = r.used ++ q.used;
      token = q.token;
      left = q.left;
      value = q.value;
      entries = r.entries ++ q.entries;
      entry = q.entry;
      next = q.next;
      tokens = q.tokens;
      split = r.split ∙ ap (λ o. r.used ++ o) q.split ∙ sym (append_assoc r.used q.used _);
      at = q.at;
      spelled = rw (append_assoc r.entries q.entries (q.entry ∷ q.next)) (seq r.spelled q.spelled);
      fit = matches_append r.fit q.fit;
      fine = shallows-append f.blocks f.lists r.entries q.entries r.fine q.fine;
      fits = q.fits;
      deep = q.deep;
      goes_on = q.goes_on;
      again = λ same other. again_both r.used q.used (q.token ∷ other) _ r.again (q.again same other);
    })
    behind ts {left = left} r _ (spent h) = spent (let e = ap length r.split ∙ length-append r.used left in omega arith)

    start : (ts : List Lexeme) (a : Answer A) → Told f room R L ts a → Told f room R' (Seq L M) ts (then a K)
    start ts _ (read {x = x} {left} r) = behind ts r (K x left) ((second x).told left)
    start ts _ (stuck s) =
        let l = (second s.value).live in
        stuck (record {
          used = s.used;
          left = s.left;
          value = l.value;
          entries = s.entries;
          next = s.next ++ l.entries;
          tokens = s.tokens ++ l.tokens;
          split = s.split;
          at = s.at;
          spelled = rw (← append_assoc s.entries s.next l.entries) (seq s.spelled l.spelled);
          fit = s.fit;
          fine = s.fine;
          goes_on = matches_append s.goes_on l.fit;
          again = λ other like. ap (λ o. then o K') (s.again other like);
        })
    start ts _ (deep s) =
        let l = (second s.value).live in
        deep (record {
          used = s.used;
          token = s.token;
          left = s.left;
          value = l.value;
          entries = s.entries;
          entry = s.entry;
          next = s.next ++ l.entries;
          tokens = s.tokens ++ l.tokens;
          split = s.split;
          at = s.at;
          spelled = rw (← append_assoc s.entries (s.entry ∷ s.next) l.entries) (seq s.spelled l.spelled);
          fit = s.fit;
          fine = s.fine;
          fits = s.fits;
          deep = s.deep;
          goes_on = matches_append s.goes_on l.fit;
          again = λ same other. ap (λ o. then o K') (s.again same other);
        })
    start ts _ (spent h) = spent h

    pub then_law : Law f room (λ ts. then (Q ts) K) (λ ts. then (R ts) K') (Seq L M)
    then_law = record {
      told = λ ts. start ts (Q ts) (first.told ts);
      live =
          let l = first.live in
          let m = (second l.value).live in
          record { value = m.value; entries = l.entries ++ m.entries; tokens = l.tokens ++ m.tokens; spelled = seq l.spelled m.spelled; fit = matches_append l.fit m.fit };
    }

  -- where nothing else can stand
  pub refuse_law : {A : Type 0} {room : ℕ} {L : Lang A} → Live L → Law f room (refuse f.end 6) (refuse f.end 6) L
  refuse_law l = record {
    told = λ ts. stuck (record {
      used = [];
      left = ts;
      value = l.value;
      entries = [];
      next = l.entries;
      tokens = l.tokens;
      split = refl;
      at = refl;
      spelled = l.spelled;
      fit = none;
      fine = refl;
      goes_on = l.fit;
      again = λ other like. refl;
    });
    live = l;
  }

  -- one way behind a word, another where it does not stand
  module _ {A : Type 0} (room n : ℕ) (less : n ≤ suc room) (k : Kind) (w : List ℕ) (item : ℕ → Spelled) (fits : (t : Lexeme) → Is k w t → Fits (item t.place) t)
      (K K' : ℕ → Reader A) (S S' : Reader A) (L : ℕ → Lang A) (M : Lang A) (other : Law f n S S' M) (never : (x : A) → M x [] → ⊥) where
    abbrev O' : Reader A
    O' = on f.end k w K' S'

    abbrev E : Lang A
    E = Either (After item L) M

    otherwise : (ts : List Lexeme) → starts k w ts ≡ false → (a : Answer A) → Told f n S' M ts a → Told f n O' E ts a
    otherwise ts e _ (read r) = read (record {
      used = r.used;
      entries = r.entries;
      split = r.split;
      spelled = inr r.spelled;
      fit = r.fit;
      fine = r.fine;
      again = λ o. skips f.end k w K' S' (r.used ++ o) (same_start k w r.used _ o (λ z. absurd (never _ (subst (M _) (empty-fit r.fit z) r.spelled))) ∙ ap (starts k w) (sym r.split) ∙ e) ∙ r.again o;
    })
    otherwise ts e _ (stuck r) = stuck (record {
      used = r.used;
      left = r.left;
      value = r.value;
      entries = r.entries;
      next = r.next;
      tokens = r.tokens;
      split = r.split;
      at = r.at;
      spelled = inr r.spelled;
      fit = r.fit;
      fine = r.fine;
      goes_on = r.goes_on;
      again = λ o like. skips f.end k w K' S' (r.used ++ o) (same_start k w r.used r.left o (λ _. like) ∙ ap (starts k w) (sym r.split) ∙ e) ∙ r.again o like;
    })
    otherwise ts e _ (deep r) = deep (record {
      used = r.used;
      token = r.token;
      left = r.left;
      value = r.value;
      entries = r.entries;
      entry = r.entry;
      next = r.next;
      tokens = r.tokens;
      split = r.split;
      at = r.at;
      spelled = inr r.spelled;
      fit = r.fit;
      fine = r.fine;
      fits = r.fits;
      deep = r.deep;
      goes_on = r.goes_on;
      again = λ same o. skips f.end k w K' S' (r.used ++ (r.token ∷ o)) (same_start k w r.used (r.token ∷ r.left) (r.token ∷ o) (λ _. both_at) ∙ ap (starts k w) (sym r.split) ∙ e) ∙ r.again same o;
    })
    otherwise ts e _ (spent h) = spent h

    on_told : ((t : Lexeme) (ts : List Lexeme) → Is k w t → starts k w (t ∷ ts) ≡ true → Told f n O' E (t ∷ ts) (K t.place ts)) → (ts : List Lexeme) → Told f n O' E ts (on f.end k w K S ts)
    on_told met ts = go ts (starts k w ts) refl
      where
        go : (ts : List Lexeme) (b : Bool) → starts k w ts ≡ b → Told f n O' E ts (elim b [ true ↦ K (here f.end ts) (rest ts) | false ↦ S ts ])
        go [] true e = false_true e
        go (t ∷ ts) true e = met t ts (starts_is k w t ts e) e
        go ts false e = otherwise ts e (S ts) (other.told ts)

    met : ((p : ℕ) → shallow f.blocks f.lists (item p) ≡ true) → (t : Lexeme) (ts : List Lexeme) → Is k w t → starts k w (t ∷ ts) ≡ true → (a : Answer A) → Told f room (K' t.place) (L t.place) ts a → Told f n O' E (t ∷ ts) a
    met flat t ts is e _ (read r) = read (record {
      used = t ∷ r.used;
      entries = item t.place ∷ r.entries;
      split = ap (λ o. t ∷ o) r.split;
      spelled = inl (after r.spelled);
      fit = more (fits t is) r.fit;
      fine = shallows-more f.blocks f.lists (item t.place) r.entries (flat t.place) r.fine;
      again = λ o. meets f.end k w K' S' (t ∷ (r.used ++ o)) e ∙ r.again o;
    })
    met flat t ts is e _ (stuck r) = stuck (record {
      used = t ∷ r.used;
      left = r.left;
      value = r.value;
      entries = item t.place ∷ r.entries;
      next = r.next;
      tokens = r.tokens;
      split = ap (λ o. t ∷ o) r.split;
      at = r.at;
      spelled = inl (after r.spelled);
      fit = more (fits t is) r.fit;
      fine = shallows-more f.blocks f.lists (item t.place) r.entries (flat t.place) r.fine;
      goes_on = r.goes_on;
      again = λ o like. meets f.end k w K' S' (t ∷ (r.used ++ o)) e ∙ r.again o like;
    })
    met flat t ts is e _ (deep r) = deep (record {
      used = t ∷ r.used;
      token = r.token;
      left = r.left;
      value = r.value;
      entries = item t.place ∷ r.entries;
      entry = r.entry;
      next = r.next;
      tokens = r.tokens;
      split = ap (λ o. t ∷ o) r.split;
      at = r.at;
      spelled = inl (after r.spelled);
      fit = more (fits t is) r.fit;
      fine = shallows-more f.blocks f.lists (item t.place) r.entries (flat t.place) r.fine;
      fits = r.fits;
      deep = r.deep;
      goes_on = r.goes_on;
      again = λ same o. meets f.end k w K' S' (t ∷ (r.used ++ (r.token ∷ o))) e ∙ r.again same o;
    })
    met flat t ts is e _ (spent h) = spent (omega arith)

    -- the word is within the limits
    within : ((p : ℕ) → shallow f.blocks f.lists (item p) ≡ true) → ((p : ℕ) → Law f room (K p) (K' p) (L p)) → Law f n (on f.end k w K S) O' E
    within flat law = record {
      told = on_told (λ t ts is e. met flat t ts is e (K t.place ts) ((law t.place).told ts));
      live = let l = other.live in record { value = l.value; entries = l.entries; tokens = l.tokens; spelled = inr l.spelled; fit = l.fit };
    }

  pub on_law : {A : Type 0} {room n : ℕ} → n ≤ suc room → (k : Kind) (w : List ℕ) (item : ℕ → Spelled) → ((t : Lexeme) → Is k w t → Fits (item t.place) t)
      → ((p : ℕ) → shallow f.blocks f.lists (item p) ≡ true)
      → {K K' : ℕ → Reader A} {S S' : Reader A} {L : ℕ → Lang A} {M : Lang A} → ((p : ℕ) → Law f room (K p) (K' p) (L p)) → Law f n S S' M → ((x : A) → M x [] → ⊥)
      → Law f n (on f.end k w K S) (on f.end k w K' S') (Either (After item L) M)
  on_law {room = room} {n} less k w item fits flat {K} {K'} {S} {S'} {L} {M} law other never = within room n less k w item fits K K' S S' L M other never flat law

  -- a word that has to stand there
  pub demand_law : {A : Type 0} {room n : ℕ} → n ≤ suc room → (k : Kind) (w : List ℕ) (item : ℕ → Spelled) → ((t : Lexeme) → Is k w t → Fits (item t.place) t)
      → ((p : ℕ) → shallow f.blocks f.lists (item p) ≡ true)
      → {K K' : ℕ → Reader A} {L : ℕ → Lang A} → ((p : ℕ) → Law f room (K p) (K' p) (L p))
      → Law f n (on f.end k w K (refuse f.end 6)) (on f.end k w K' (refuse f.end 6)) (After item L)
  demand_law less k w item fits flat {L = L} law =
      widen (λ x is. elim [ inl h ↦ h | inr h ↦ h ]) (on_law less k w item fits flat law (refuse_law (after-live k w item fits {L = L} (law 0).live)) (λ x. never_after x [] refl))

  -- a word that opens what nests too deep
  pub forbid_law : {A : Type 0} {n : ℕ} (k : Kind) (w : List ℕ) (item : Spelled) → ((t : Lexeme) → Is k w t → Fits item t) → shallow f.blocks f.lists item ≡ false
      → {K' : ℕ → Reader A} {S S' : Reader A} {L M : Lang A} → Live L → (f.Same → (p : ℕ) (ts : List Lexeme) → K' p ts ≡ Err (record { number = 7; place = p }))
      → Law f n S S' M → ((x : A) → M x [] → ⊥)
      → Law f n (on f.end k w (λ p ts. Err (record { number = 7; place = p })) S) (on f.end k w K' S') (Either (After (λ _. item) (λ _. L)) M)
  forbid_law {A} {n} k w item fits sunk {K'} {S} {S'} {L} {M} l same other never = record {
    told = on_told n n (omega arith) k w (λ _. item) fits (λ p ts. Err (record { number = 7; place = p })) K' S S' (λ _. L) M other never (λ t ts is e. deep (record {
      used = [];
      token = t;
      left = ts;
      value = l.value;
      entries = [];
      entry = item;
      next = l.entries;
      tokens = l.tokens;
      split = refl;
      at = refl;
      spelled = inl (after {p = 0} l.spelled);
      fit = none;
      fine = refl;
      fits = fits t is;
      deep = sunk;
      goes_on = l.fit;
      again = λ s o. meets f.end k w K' S' (t ∷ o) e ∙ same s t.place o;
    }));
    live = let l = other.live in record { value = l.value; entries = l.entries; tokens = l.tokens; spelled = inr l.spelled; fit = l.fit };
  }

  -- the same three, where the language that is wanted holds both ways
  module _ {A : Type 0} {n : ℕ} (k : Kind) (w : List ℕ) (T : Lang A) (never : (x : A) → T x [] → ⊥) where
    pub on_to : {room : ℕ} → n ≤ suc room → (item : ℕ → Spelled) → ((t : Lexeme) → Is k w t → Fits (item t.place) t) → ((p : ℕ) → shallow f.blocks f.lists (item p) ≡ true)
        → {K K' : ℕ → Reader A} {S S' : Reader A} {L : ℕ → Lang A} → ((p : ℕ) (x : A) (is : List Spelled) → L p x is → T x (item p ∷ is))
        → ((p : ℕ) → Law f room (K p) (K' p) (L p)) → Law f n S S' T → Law f n (on f.end k w K S) (on f.end k w K' S') T
    on_to less item fits flat {L = L} into law other = widen wide (on_law less k w item fits flat law other never)
      where
        wide : (x : A) (is : List Spelled) → Either (After item L) T x is → T x is
        wide x _ (inl (after h)) = into _ x _ h
        wide x is (inr h) = h

    pub forbid_to : (item : Spelled) → ((t : Lexeme) → Is k w t → Fits item t) → shallow f.blocks f.lists item ≡ false
        → {K' : ℕ → Reader A} {S S' : Reader A} {L : Lang A} → ((x : A) (is : List Spelled) → L x is → T x (item ∷ is)) → Live L
        → (f.Same → (p : ℕ) (ts : List Lexeme) → K' p ts ≡ Err (record { number = 7; place = p }))
        → Law f n S S' T → Law f n (on f.end k w (λ p ts. Err (record { number = 7; place = p })) S) (on f.end k w K' S') T
    forbid_to item fits sunk {L = L} into l same other = widen wide (forbid_law k w item fits sunk l same other never)
      where
        wide : (x : A) (is : List Spelled) → Either (After (λ _. item) (λ _. L)) T x is → T x is
        wide x _ (inl (after h)) = into x _ h
        wide x is (inr h) = h
