-- What the readers of the language's parts tell: single tokens, lists and types.
use Rattle.std.proofs.Common.{◌≡◌, ℕ, zero, suc, ◌+◌, ◌<◌, ◌≤◌, Bool, true, false, List, [], ◌∷◌, ◌++◌, ℤ, Some, None, Ok, Err, codes, Option, sym, refl, ap, subst, inl, inr, append_assoc, arith, eqb-true, le-leb}
use borrow.Author.Tests.{lt-leb}
use Rattle.lexing.specs.declared.token.Kind.{Kind}
use Rattle.lexing.specs.declared.token.Kind.TheVariants.{Name, Keyword, Numeral, Mark}
use Rattle.lexing.specs.Tokens.{Lexeme}
use Rattle.lexing.specs.Numerals.{number_of}
use Rattle.language.specs.Syntax.{Ident, Ty, int, list, Atom, var, num}
use Rattle.language.specs.Spelling.{Spelled, list_at, name, number, key, mark, Fits, none, more, spell_name, spell_atom, spell_commas, spell_regions, spell_elements, spell_type}
use Rattle.language.specs.Nesting.{shallow, shallows}
use Rattle.language.specs.Reading.{Reader, here, refuse, give, on, is_kind, name_in, number_in, atom_in, one, name_of, atom_of, key_of, mark_of, commas, regions, elements, list_of, too_deep, type_of}
use Rattle.language.proofs.Fitting.{same_kind, matches_append}
use Rattle.language.proofs.Told.{Lang, Alike, both_end, both_at, Seq, seq, Just, just, After, after, Either, Spelt, Live, Frame, Told, read, stuck, spent, Law, widen, give_law, then_law, refuse_law, on_law, demand_law, on_to, forbid_to}

pub none-some : {A B : Type 0} {x : A} → None ≡ Some x → B
none-some e = absurd (let z : ◌≡◌ {A = ℕ} 0 1 = cc in omega arith)

pub is-kind_is : (k : Kind) (t : Lexeme) → is_kind k t ≡ true → t.kind ≡ k
is-kind_is k t e = same_kind t.kind k (eqb-true _ _ e)

-- which entry a token fits that was wanted
record Wanted (f : Frame) {A : Type 0} (spell : A → List Spelled → List Spelled) (t : Lexeme) (x : A) : Type 0 where
  entry : Spelled
  is : (js : List Spelled) → entry ∷ js ≡ spell x js
  fits : Fits entry t
  flat : shallow f.blocks f.lists entry ≡ true

module _ {f : Frame} {A : Type 0} {room : ℕ} (wanted : Lexeme → Option A) (spell : A → List Spelled → List Spelled) where
  one_law : Live (Spelt spell) → ((t : Lexeme) (x : A) → wanted t ≡ Some x → Wanted f spell t x) → Law f room (one f.end wanted) (one f.end wanted) (Spelt spell)
  one_law l wants = record { told = go; live = l }
    where
      R : Reader A
      R = one f.end wanted

      at_end : (other : List Lexeme) → Alike [] other → R other ≡ Err (record { number = 6; place = here f.end other })
      at_end _ both_end = refl

      at_other : (t : Lexeme) (ts : List Lexeme) → wanted t ≡ None → (other : List Lexeme) → Alike (t ∷ ts) other → R other ≡ Err (record { number = 6; place = here f.end other })
      at_other t ts e _ both_at = rw (e, one)

      by : (t : Lexeme) (ts : List Lexeme) (o : Option A) → wanted t ≡ o → Told f room R (Spelt spell) (t ∷ ts) (elim o [ Some x ↦ Ok (x, ts) | None ↦ refuse f.end 6 (t ∷ ts) ])
      by t ts (Some x) e =
          let w = wants t x e in
          read (record { used = t ∷ []; entries = w.entry ∷ []; split = refl; spelled = w.is; fit = more w.fits none; fine = rw (w.flat, shallows); again = λ other. rw (e, one) })
      by t ts None e = stuck (record {
        used = [];
        left = t ∷ ts;
        value = l.value;
        entries = [];
        next = l.entries;
        tokens = l.tokens;
        split = refl;
        at = refl;
        spelled = l.spelled;
        fit = none;
        fine = refl;
        goes_on = l.fit;
        again = at_other t ts e;
      })

      go : (ts : List Lexeme) → Told f room R (Spelt spell) ts (R ts)
      go [] = stuck (record {
        used = [];
        left = [];
        value = l.value;
        entries = [];
        next = l.entries;
        tokens = l.tokens;
        split = refl;
        at = refl;
        spelled = l.spelled;
        fit = none;
        fine = refl;
        goes_on = l.fit;
        again = at_end;
      })
      go (t ∷ ts) = by t ts (wanted t) refl

name-is : (t : Lexeme) (x : Ident) → name_in t ≡ Some x → Fits (name x) t
name-is t x e = by (is_kind Name t) refl e
  where
    by : (b : Bool) → is_kind Name t ≡ b → ◌≡◌ {A = Option Ident} (elim b [ true ↦ Some (record { place = t.place; name = t.bytes }) | false ↦ None ]) (Some x) → Fits (name x) t
    by true k e =
        let z : ◌≡◌ {A = Ident} (record { place = t.place; name = t.bytes }) x = cc in
        (ap (λ (y : Ident). y.place) z, (is-kind_is Name t k, ap (λ (y : Ident). y.name) z))
    by false k e = none-some e

number_is : (t : Lexeme) (n : ℤ) → number_in t ≡ Some n → Fits (number t.place n) t
number_is t n e = by (is_kind Numeral t) refl e
  where
    by : (b : Bool) → is_kind Numeral t ≡ b → ◌≡◌ {A = Option ℤ} (elim b [ true ↦ number_of t.bytes | false ↦ None ]) (Some n) → Fits (number t.place n) t
    by true k e = (refl, is-kind_is Numeral t k, e)
    by false k e = none-some e

name_live : Live (Spelt spell_name)
name_live = record {
  value = record { place = 0; name = [] };
  entries = name (record { place = 0; name = [] }) ∷ [];
  tokens = record { kind = Name; place = 0; bytes = [] } ∷ [];
  spelled = λ js. refl;
  fit = more (refl, (refl, refl)) none;
}

pub atom-live : Live (Spelt spell_atom)
unfolding name_live
atom-live = record { value = var name_live.value; entries = name_live.entries; tokens = name_live.tokens; spelled = λ js. refl; fit = name_live.fit }

module _ {f : Frame} where
  pub name_law : {room : ℕ} → Law f room (name_of f.end) (name_of f.end) (Spelt spell_name)
  name_law = one_law name_in spell_name name_live (λ t x e. record { entry = name x; is = λ js. refl; fits = name-is t x e; flat = refl })

  atom_is : (t : Lexeme) (a : Atom) → atom_in t ≡ Some a → Wanted f spell_atom t a
  atom_is t a e = by (name_in t) refl (number_in t) refl e
    where
      by : (o : Option Ident) → name_in t ≡ o → (m : Option ℤ) → number_in t ≡ m
          → ◌≡◌ {A = Option Atom} (elim o [ Some x ↦ Some (var x) | None ↦ elim m [ Some n ↦ Some (num t.place n) | None ↦ None ] ]) (Some a) → Wanted f spell_atom t a
      by (Some x) h m k e = let z : var x ≡ a = cc in subst (Wanted f spell_atom t) z (record { entry = name x; is = λ js. refl; fits = name-is t x h; flat = refl })
      by None h (Some n) k e = let z : num t.place n ≡ a = cc in subst (Wanted f spell_atom t) z (record { entry = number t.place n; is = λ js. refl; fits = number_is t n k; flat = refl })
      by None h None k e = none-some e

  pub atom_law : {room : ℕ} → Law f room (atom_of f.end) (atom_of f.end) (Spelt spell_atom)
  atom_law = one_law atom_in spell_atom atom-live atom_is

  pub mark_law : {room : ℕ} (w : List ℕ) → Law f room (mark_of f.end w) (mark_of f.end w) (After (λ _. mark w) Just)
  mark_law {room} w = demand_law {room = room} (omega arith) Mark w (λ _. mark w) (λ t is. is) (λ _. refl) (λ p. give_law p)

  pub key_law : {room : ℕ} (w : List ℕ) → Law f room (key_of f.end w) (key_of f.end w) (After (λ _. key w) Just)
  key_law {room} w = demand_law {room = room} (omega arith) Keyword w (λ _. key w) (λ t is. is) (λ _. refl) (λ p. give_law p)

-- elements with commas between them, and the closing mark
abbrev pub Closed : {A : Type 0} → (A → List Spelled → List Spelled) → List ℕ → Lang (List A)
Closed spell close [] is = ⊥
Closed spell close (x ∷ xs) is = (js : List Spelled) → is ++ js ≡ spell_commas spell x xs (mark close ∷ js)

-- what begins with an entry is not empty
pub never_seq : {A B : Type 0} {item : ℕ → Spelled} {L : ℕ → Lang A} {M : A → Lang B} (x : B) (is : List Spelled) → is ≡ [] → Seq (After item L) M x is → ⊥
never_seq x _ e (seq (after h) k) = let z : ◌≡◌ {A = ℕ} 0 1 = cc in omega arith

module _ {A : Type 0} (spell : A → List Spelled → List Spelled) (close : List ℕ) where
  one_more : (x : A) (ys zs : List A) (is js ks : List Spelled) → Spelt spell x is → Closed spell close ys js → Just (x ∷ ys) zs ks → Closed spell close zs (is ++ (mark (codes ",") ∷ (js ++ ks)))
  one_more x [] _ is js _ h k just = absurd k
  one_more x (y ∷ ys) _ is js _ h k just = λ ks. simp append_assoc (simp (h, k))

  last_one : (x : A) (zs : List A) (is js : List Spelled) → Spelt spell x is → Just (x ∷ []) zs js → Closed spell close zs (is ++ (mark close ∷ js))
  last_one x _ is _ h just = λ ks. simp append_assoc (simp h)

  commas_into : (xs : List A) (is : List Spelled)
      → Seq (Spelt spell) (λ x. Either (After (λ _. mark (codes ",")) (λ _. Seq (Closed spell close) (λ xs. Just (x ∷ xs)))) (Seq (After (λ _. mark close) Just) (λ _. Just (x ∷ [])))) xs is → Closed spell close xs is
  commas_into xs _ (seq h (inl (after (seq k j)))) = one_more _ _ xs _ _ _ h k j
  commas_into xs _ (seq h (inr (seq (after just) j))) = last_one _ xs _ _ h j

  commas_live : Live (Spelt spell) → Live (Closed spell close)
  commas_live l = record {
    value = l.value ∷ [];
    entries = l.entries ++ (mark close ∷ []);
    tokens = l.tokens ++ (record { kind = Mark; place = 0; bytes = close } ∷ []);
    spelled = λ js. simp append_assoc (simp l.spelled);
    fit = matches_append l.fit (more (refl, refl) none);
  }

module _ {f : Frame} {A : Type 0} {spell : A → List Spelled → List Spelled} {E E' : Reader A} (close : List ℕ) (element : (n : ℕ) → Law f n E E' (Spelt spell)) where
  pub commas_law : (room room' : ℕ) → room ≤ room' → Law f room (commas f.end close E room) (commas f.end close E' room') (Closed spell close)
  commas_law zero room' h = record { told = λ ts. spent (omega arith); live = commas_live spell close (element 0).live }
  commas_law (suc room) zero h = absurd (omega arith)
  commas_law (suc room) (suc room') h = widen (commas_into spell close) (then_law (element (suc room)) (λ x. on_law {room = room} (omega arith) Mark (codes ",") (λ _. mark (codes ",")) (λ t is. is) (λ _. refl)
      (λ _. then_law (commas_law room room' (omega arith)) (λ xs. give_law (x ∷ xs))) (then_law (mark_law close) (λ _. give_law (x ∷ []))) (λ x. never_seq x [] refl)))

-- regions with the opening parenthesis behind them
abbrev pub spell-head : List Ident → List Spelled → List Spelled
spell-head rs js = spell_regions rs (mark (codes "(") ∷ js)

regions-into : (rs : List Ident) (is : List Spelled)
    → Either (After (λ _. mark (codes "[")) (λ _. Seq (Closed spell_name (codes "]")) (λ rs. Seq (After (λ _. mark (codes "(")) Just) (λ _. Just rs)))) (Seq (After (λ _. mark (codes "(")) Just) (λ _. Just [])) rs is
    → Spelt spell-head rs is
regions-into _ _ (inl (after (seq {x = []} h (seq (after just) just)))) js = absurd h
regions-into _ _ (inl (after (seq {x = r ∷ rs} h (seq (after just) just)))) js = simp append_assoc (simp h)
regions-into _ _ (inr (seq (after just) just)) js = refl

elements-into : {A : Type 0} (spell : A → List Spelled → List Spelled) (xs : List A) (is : List Spelled)
    → Either (After (λ _. mark (codes ")")) (λ _. Just [])) (Closed spell (codes ")")) xs is → Spelt (spell_elements spell) xs is
elements-into spell _ _ (inl (after just)) js = refl
elements-into spell [] is (inr h) js = absurd h
elements-into spell (x ∷ xs) is (inr h) js = h js

-- what is closed is not empty
never_closed : {A : Type 0} {spell : A → List Spelled → List Spelled} (close : List ℕ) → ((x : A) (js : List Spelled) → spell x js ≡ [] → ⊥) → (xs : List A) → Closed spell close xs [] → ⊥
never_closed close never [] h = h
never_closed close never (x ∷ []) h = never x _ (sym (h []))
never_closed close never (x ∷ y ∷ ys) h = never x _ (sym (h []))

module _ {f : Frame} where
  pub regions_law : (room room' : ℕ) → room ≤ room' → Law f room (regions f.end room) (regions f.end room') (Spelt spell-head)
  regions_law room room' h = widen regions-into (on_law {room = room} (omega arith) Mark (codes "[") (λ _. mark (codes "[")) (λ t is. is) (λ _. refl)
      (λ _. then_law (commas_law (codes "]") (λ n. name_law) room room' h) (λ rs. then_law (mark_law (codes "(")) (λ _. give_law rs)))
      (then_law (mark_law (codes "(")) (λ _. give_law [])) (λ x. never_seq x [] refl))

  pub elements_law : {A : Type 0} {spell : A → List Spelled → List Spelled} {E E' : Reader A} → ((x : A) (js : List Spelled) → spell x js ≡ [] → ⊥) → ((n : ℕ) → Law f n E E' (Spelt spell))
      → (room room' : ℕ) → room ≤ room' → Law f room (elements f.end E room) (elements f.end E' room') (Spelt (spell_elements spell))
  elements_law {spell = spell} never element room room' h = widen (elements-into spell) (on_law {room = room} (omega arith) Mark (codes ")") (λ _. mark (codes ")")) (λ t is. is) (λ _. refl)
      (λ _. give_law []) (commas_law (codes ")") element room room' h) (never_closed (codes ")") never))

type-into : (depth : ℕ) (T : Ty) (is : List Spelled)
    → Seq (After (λ _. mark (codes "@")) Just) (λ _. Seq (Spelt spell_name) (λ r. Seq (After (λ _. mark (codes "(")) Just) (λ _. Seq (Spelt (spell_type (suc depth))) (λ T. Seq (After (λ _. mark (codes ")")) Just) (λ _. Just (list r T)))))) T is
    → Spelt (spell_type depth) T (list_at depth ∷ is)
type-into depth _ _ (seq (after just) (seq h (seq (after just) (seq k (seq (after just) just))))) js = simp append_assoc (simp (h, k))

type-never : (depth : ℕ) (T : Ty) → Spelt (spell_type depth) T [] → ⊥
type-never depth int h = let e = h [] in let z : ◌≡◌ {A = ℕ} 0 1 = cc in omega arith
type-never depth (list r T) h = let e = h [] in let z : ◌≡◌ {A = ℕ} 0 1 = cc in omega arith

-- a token for a live language
abbrev pub tok : Kind → List ℕ → Lexeme
tok k w = record { kind = k; place = 0; bytes = w }

type-live : (depth : ℕ) → Live (Spelt (spell_type depth))
type-live depth = record { value = int; entries = key (codes "int") ∷ []; tokens = tok Keyword (codes "int") ∷ []; spelled = λ js. refl; fit = more (refl, refl) none }

-- behind a `list`
Inner : ℕ → Lang Ty
Inner depth T is = Spelt (spell_type depth) T (list_at depth ∷ is)

inner-live : (depth : ℕ) → Live (Inner depth)
unfolding Inner
inner-live depth =
    let r : Ident = record { place = 0; name = [] } in
    record {
      value = list r int;
      entries = mark (codes "@") ∷ name r ∷ mark (codes "(") ∷ key (codes "int") ∷ mark (codes ")") ∷ [];
      tokens = tok Mark (codes "@") ∷ tok Name [] ∷ tok Mark (codes "(") ∷ tok Keyword (codes "int") ∷ tok Mark (codes ")") ∷ [];
      spelled = λ js. refl;
      fit = more (refl, refl) (more (refl, (refl, refl)) (more (refl, refl) (more (refl, refl) (more (refl, refl) none))));
    }

int-into : (depth : ℕ) (p : ℕ) (T : Ty) (is : List Spelled) → Just int T is → Spelt (spell_type depth) T (key (codes "int") ∷ is)
int-into depth p _ _ just js = refl

module _ {f : Frame} where
  -- `int`, or another way
  int_or : {room : ℕ} {S S' : Reader Ty} (depth : ℕ) → Law f room S S' (Spelt (spell_type depth))
      → Law f room (on f.end Keyword (codes "int") (λ _. give int) S) (on f.end Keyword (codes "int") (λ _. give int) S') (Spelt (spell_type depth))
  int_or {room} depth other = on_to Keyword (codes "int") (Spelt (spell_type depth)) (type-never depth) {room = room} (omega arith) (λ _. key (codes "int")) (λ t is. is) (λ _. refl) (int-into depth) (λ _. give_law int) other

  sunk : {room : ℕ} {K' : ℕ → Reader Ty} (depth : ℕ) → f.lists < depth → (f.Same → (p : ℕ) (ts : List Lexeme) → K' p ts ≡ Err (record { number = 7; place = p }))
      → Law f room (on f.end Keyword (codes "list") too_deep (refuse f.end 6)) (on f.end Keyword (codes "list") K' (refuse f.end 6)) (Spelt (spell_type depth))
  sunk depth h same = forbid_to Keyword (codes "list") (Spelt (spell_type depth)) (type-never depth) (list_at depth) (λ t is. is) (lt-leb depth f.lists h) {L = Inner depth} (unfold Inner in λ x is h. h) (inner-live depth) same (refuse_law (type-live depth))

  pub type_law : {room : ℕ} (a a' depth : ℕ) → a ≤ a' → (f.Same → a ≡ a') → a + depth ≡ suc f.lists → Law f room (type_of f.end a) (type_of f.end a') (Spelt (spell_type depth))
  type_law zero zero depth h same e = int_or depth (sunk depth (omega arith) (λ s p ts. refl))
  type_law zero (suc a') depth h same e = int_or depth (sunk {K' = λ _. list_of f.end (type_of f.end a')} depth (omega arith) (λ s p ts. absurd (let z = same s in omega arith)))
  type_law (suc a) zero depth h same e = absurd (omega arith)
  type_law {room} (suc a) (suc a') depth h same e = int_or depth
      (on_to Keyword (codes "list") (Spelt (spell_type depth)) (type-never depth) {room = room} (omega arith) (λ _. list_at depth) (λ t is. is) (λ _. le-leb depth f.lists (omega arith)) (λ _. type-into depth)
      (λ _. then_law (mark_law (codes "@")) λ _. then_law name_law λ r. then_law (mark_law (codes "(")) λ _.
      then_law (type_law a a' (suc depth) (omega arith) (λ s. let z = same s in omega arith) (omega arith)) λ T. then_law (mark_law (codes ")")) λ _. give_law (list r T))
      (refuse_law (type-live depth)))
