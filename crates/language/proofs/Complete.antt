-- A spelling within the limits is read as what it spells.
use Rattle.std.proofs.Common.{◌≡◌, ℕ, zero, suc, ◌+◌, ◌<◌, ◌≤◌, Bool, true, false, List, [], ◌∷◌, length, ℤ, Some, None, Ok, codes, Option, sym, refl, ap, ◌∙◌, subst, arith, eq-eqb, leb-true}
use Rattle.lexing.specs.declared.token.Kind.{Kind}
use Rattle.lexing.specs.declared.token.Kind.TheVariants.{Name, Keyword, Numeral, Mark}
use Rattle.lexing.specs.Tokens.{Lexeme, same_bytes}
use Rattle.lexing.specs.Numbers.{kind_number}
use Rattle.language.specs.Syntax.{Ident, Ty, int, list, Atom, var, num, Op, add, sub, mul, div, rem, eq, lt, Right, atom, oper, nil, cons, call, test, region, split, Block, last, bind, print, Param, Fun}
use Rattle.language.specs.Spelling.{Spelled, word, word_at, block_at, list_at, name, number, mark, Is, Fits, Matches, more, op_word, spell_name, spell_atom, spell_commas, spell_regions, spell_elements, spell_type, spell_right, spell_inside, spell_block, spell_param, spell_fun}
use Rattle.language.specs.Nesting.{shallows}
use Rattle.language.specs.Reading.{Reader, refuse, then, give, starts, on, is_kind, name_in, number_in, atom_in, one, name_of, atom_of, before, commas, bracketed, regions, elements, list_of, type_of, operands, nil_of, cons_of, call_of, if_of, region_of, case_of, right_of, let_of, print_of, inside, block_of, param_of, fun_of}
use Rattle.language.proofs.Fitting.{same-is, tests, starts-of, starts-self, shallows-first}
use Rattle.language.proofs.Parts.{none-some}
use Rattle.language.proofs.Told.{meets, skips}

-- the first token has a kind and bytes
pub data First (k : Kind) (w : List ℕ) : List Lexeme → Type 0 where
  first : {t : Lexeme} {ts : List Lexeme} → Is k w t → First k w (t ∷ ts)

name-wanted : (t : Lexeme) (x : Ident) → Fits (name x) t → name_in t ≡ Some x
name-wanted t x h =
    let k : is_kind Name t ≡ true = eq-eqb _ _ (ap kind_number h.1.0) in
    rw (k, name_in) (λ i. Some (record { place = h.0 i; name = h.1.1 i }))

number-wanted : (t : Lexeme) (p : ℕ) (n : ℤ) → Fits (number p n) t → atom_in t ≡ Some (num p n)
number-wanted t p n h =
    let k : is_kind Numeral t ≡ true = eq-eqb _ _ (ap kind_number h.1) in
    let j : is_kind Name t ≡ false = cc h.1 in
    let i : name_in t ≡ None = cc in
    let m : number_in t ≡ Some n = cc h.2 in
    cc h.0

module _ (end blocks lists : ℕ) where
  -- a reader reads the value, and what is left is what follows
  pub record Reads {A : Type 0} (R : Reader A) (ts : List Lexeme) (x : A) (js : List Spelled) : Type 0 where
    pub left : List Lexeme
    pub answer : R ts ≡ Ok (x, left)
    pub fit : Matches left js
    pub fine : shallows blocks lists js ≡ true
    pub shorter : length left ≤ length ts

  -- tokens fit entries that keep to the limits
  pub record Fitted (ts : List Lexeme) (is : List Spelled) : Type 0 where
    pub fit : Matches ts is
    pub fine : shallows blocks lists is ≡ true

  done : {A : Type 0} (x : A) (ts : List Lexeme) (js : List Spelled) → Fitted ts js → Reads (give x) ts x js
  done x ts js m = record { left = ts; answer = refl; fit = m.fit; fine = m.fine; shorter = omega arith }

  both : {A B : Type 0} {R : Reader A} (K : A → Reader B) {ts : List Lexeme} {x : A} {y : B} {is js : List Spelled} → Reads R ts x is
      → ((left : List Lexeme) → Fitted left is → length left ≤ length ts → Reads (K x) left y js) → Reads (λ ts. then (R ts) K) ts y js
  both K r k =
      let s = k r.left (record { fit = r.fit; fine = r.fine }) r.shorter in
      record { left = s.left; answer = ap (λ o. then o K) r.answer ∙ s.answer; fit = s.fit; fine = s.fine; shorter = omega (arith, r.shorter, s.shorter) }

  name_read : (x : Ident) (ts : List Lexeme) (js : List Spelled) → Fitted ts (name x ∷ js) → Reads (name_of end) ts x js
  name_read x ts js m = by m.fit m.fine
    where
      by : {ts : List Lexeme} → Matches ts (name x ∷ js) → shallows blocks lists (name x ∷ js) ≡ true → Reads (name_of end) ts x js
      by (more {t = t} {ts = ts} h m) s = record { left = ts; answer = rw (name-wanted t x h, one); fit = m; fine = s; shorter = omega arith }

  atom_read : (a : Atom) (ts : List Lexeme) (js : List Spelled) → Fitted ts (spell_atom a js) → Reads (atom_of end) ts a js
  atom_read (var x) ts js m = by m.fit m.fine
    where
      by : {ts : List Lexeme} → Matches ts (name x ∷ js) → shallows blocks lists (name x ∷ js) ≡ true → Reads (atom_of end) ts (var x) js
      by (more {t = t} {ts = ts} h m) s = let e : atom_in t ≡ Some (var x) = cc (name-wanted t x h) in record { left = ts; answer = rw (e, one); fit = m; fine = s; shorter = omega arith }
  atom_read (num p n) ts js m = by m.fit m.fine
    where
      by : {ts : List Lexeme} → Matches ts (number p n ∷ js) → shallows blocks lists (number p n ∷ js) ≡ true → Reads (atom_of end) ts (num p n) js
      by (more {t = t} {ts = ts} h m) s = record { left = ts; answer = rw (number-wanted t p n h, one); fit = m; fine = s; shorter = omega arith }

  -- an entry that stands for a word, and the way behind it
  module _ {A : Type 0} (i : Spelled) (k : Kind) (w : List ℕ) (is_IsWord : (t : Lexeme) → Fits i t → Is k w t) where
    entry_meets : (K : ℕ → Reader A) (S : Reader A) {ts : List Lexeme} {y : A} {is js : List Spelled} → Fitted ts (i ∷ is)
        → ((p : ℕ) (t : Lexeme) → Fits i t → t.place ≡ p → (left : List Lexeme) → Fitted left is → suc (length left) ≤ length ts → Reads (K p) left y js) → Reads (on end k w K S) ts y js
    entry_meets K S {y = y} {is = is} {js} m go = by m.fit m.fine go
      where
        by : {ts : List Lexeme} → Matches ts (i ∷ is) → shallows blocks lists (i ∷ is) ≡ true
            → ((p : ℕ) (t : Lexeme) → Fits i t → t.place ≡ p → (left : List Lexeme) → Fitted left is → suc (length left) ≤ length ts → Reads (K p) left y js) → Reads (on end k w K S) ts y js
        by (more {t = t} {ts = ts} h m) s go =
            let r = go t.place t h refl ts (record { fit = m; fine = (shallows-first blocks lists i is s).1 }) (omega arith) in
            record { left = r.left; answer = meets end k w K S (t ∷ ts) (starts-self k w t ts (is_IsWord t h)) ∙ r.answer; fit = r.fit; fine = r.fine; shorter = omega (arith, r.shorter) }

  word_meets : {A : Type 0} (k : Kind) (w : List ℕ) (K : ℕ → Reader A) (S : Reader A) {ts : List Lexeme} {y : A} {is js : List Spelled} → Fitted ts (word k w ∷ is)
      → ((p : ℕ) (left : List Lexeme) → Fitted left is → suc (length left) ≤ length ts → Reads (K p) left y js) → Reads (on end k w K S) ts y js
  word_meets k w K S m go = entry_meets (word k w) k w (λ t h. h) K S m (λ p t _ _. go p)

  -- a keyword that is read with its place
  place_meets : {A : Type 0} (w : List ℕ) (K : ℕ → Reader A) (S : Reader A) (p : ℕ) {ts : List Lexeme} {y : A} {is js : List Spelled} → Fitted ts (word_at p w ∷ is)
      → ((left : List Lexeme) → Fitted left is → suc (length left) ≤ length ts → Reads (K p) left y js) → Reads (on end Keyword w K S) ts y js
  place_meets w K S p {ts} {y} {is} {js} m go = entry_meets (word_at p w) Keyword w (λ t h. h.1) K S m
      (λ q t h e. subst (λ o. (left : List Lexeme) → Fitted left is → suc (length left) ≤ length ts → Reads (K o) left y js) (sym h.0 ∙ e) go)

  -- a word that has to stand there, and what is behind it: fewer tokens are left
  module _ {A : Type 0} (k : Kind) (w : List ℕ) {K : ℕ → Reader A} {y : A} {is js : List Spelled} where
    behind_word : {ts : List Lexeme} → Matches ts (word k w ∷ is) → shallows blocks lists (word k w ∷ is) ≡ true
        → ((p : ℕ) (left : List Lexeme) → Fitted left is → suc (length left) ≤ length ts → Reads (K p) left y js) → (r : Reads (λ ts. then (on end k w give (refuse end 6) ts) K) ts y js) × (length r.left < length ts)
    behind_word (more {t = t} {ts = ts} h m) s go =
        let r = go t.place ts (record { fit = m; fine = s }) (omega arith) in
        (record { left = r.left; answer = ap (λ o. then o K) (meets end k w give (refuse end 6) (t ∷ ts) (starts-self k w t ts h)) ∙ r.answer; fit = r.fit; fine = r.fine; shorter = omega (arith, r.shorter) }, omega (arith, r.shorter))

    then_word : {ts : List Lexeme} → Fitted ts (word k w ∷ is) → ((p : ℕ) (left : List Lexeme) → Fitted left is → suc (length left) ≤ length ts → Reads (K p) left y js) → Reads (λ ts. then (on end k w give (refuse end 6) ts) K) ts y js
    then_word m go = (behind_word m.fit m.fine go).0

  -- another word stands there
  passes : {A : Type 0} {j : Kind} {v : List ℕ} (k : Kind) (w : List ℕ) (K : ℕ → Reader A) {S : Reader A} {ts : List Lexeme} {y : A} {js : List Spelled}
      → First j v ts → tests j v k w ≡ false → Reads S ts y js → Reads (on end k w K S) ts y js
  passes k w K {S} (first {t = t} {ts = ts} h) e r = record { left = r.left; answer = skips end k w K S (t ∷ ts) (starts-of k w t ts h ∙ e) ∙ r.answer; fit = r.fit; fine = r.fine; shorter = r.shorter }

  first_word : {k : Kind} {w : List ℕ} {ts : List Lexeme} {is : List Spelled} → Fitted ts (word k w ∷ is) → First k w ts
  first_word {k} {w} {is = is} m = by m.fit
    where
      by : {ts : List Lexeme} → Matches ts (word k w ∷ is) → First k w ts
      by (more h m) = first h

  first_at : {p : ℕ} {w : List ℕ} {ts : List Lexeme} {is : List Spelled} → Fitted ts (word_at p w ∷ is) → First Keyword w ts
  first_at {p} {w} {is = is} m = by m.fit
    where
      by : {ts : List Lexeme} → Matches ts (word_at p w ∷ is) → First Keyword w ts
      by (more h m) = first h.1

  first_list : {d : ℕ} {ts : List Lexeme} {is : List Spelled} → Fitted ts (list_at d ∷ is) → First Keyword (codes "list") ts
  first_list {d} {is = is} m = by m.fit
    where
      by : {ts : List Lexeme} → Matches ts (list_at d ∷ is) → First Keyword (codes "list") ts
      by (more h m) = first h

  -- no word stands where a name or an atom does
  pass_name : {A : Type 0} (k : Kind) (w : List ℕ) (K : ℕ → Reader A) {S : Reader A} (x : Ident) {ts : List Lexeme} {y : A} {is js : List Spelled}
      → tests Name x.name k w ≡ false → Fitted ts (name x ∷ is) → Reads S ts y js → Reads (on end k w K S) ts y js
  pass_name k w K x {is = is} e m r = passes k w K (by m.fit) e r
    where
      by : {ts : List Lexeme} → Matches ts (name x ∷ is) → First Name x.name ts
      by (more h m) = first h.1

  pass_atom : {A : Type 0} (k : Kind) (w : List ℕ) (K : ℕ → Reader A) {S : Reader A} (a : Atom) (is : List Spelled) {ts : List Lexeme} {y : A} {js : List Spelled}
      → ((v : List ℕ) → tests Name v k w ≡ false) → ((v : List ℕ) → tests Numeral v k w ≡ false) → Fitted ts (spell_atom a is) → Reads S ts y js → Reads (on end k w K S) ts y js
  pass_atom k w K (var x) is e d m r = pass_name k w K x (e _) m r
  pass_atom {A} k w K {S} (num p n) is {y = y} {js} e d m r = by m.fit r
    where
      by : {ts : List Lexeme} → Matches ts (number p n ∷ is) → Reads S ts y js → Reads (on end k w K S) ts y js
      by (more {t = t} h m) r = passes {v = t.bytes} k w K (first (h.1, refl)) (d _) r

  list_read : (r : Ident) (T : Ty) (R : Reader Ty) (d : ℕ) → ((ts : List Lexeme) (js : List Spelled) → Fitted ts (spell_type d T js) → Reads R ts T js)
      → (ts : List Lexeme) (js : List Spelled) → Fitted ts (mark (codes "@") ∷ name r ∷ mark (codes "(") ∷ spell_type d T (mark (codes ")") ∷ js)) → Reads (list_of end R) ts (list r T) js
  list_read r T R d go ts js m = then_word Mark (codes "@") m (λ p left m h. both _ (name_read r left _ m) (λ left m h. then_word Mark (codes "(") m (λ p left m h.
      both _ (go left _ m) (λ left m h. then_word Mark (codes ")") m (λ p left m h. done (list r T) left _ m)))))

  type_read : (a d : ℕ) (T : Ty) (ts : List Lexeme) (js : List Spelled) → a + d ≡ suc lists → Fitted ts (spell_type d T js) → Reads (type_of end a) ts T js
  type_read zero d int ts js e m = word_meets Keyword (codes "int") (λ _. give int) _ m (λ p left m h. done int left _ m)
  type_read (suc a) d int ts js e m = word_meets Keyword (codes "int") (λ _. give int) _ m (λ p left m h. done int left _ m)
  type_read zero d (list r T) ts js e m = absurd (let k = leb-true d lists (shallows-first blocks lists (list_at d) (mark (codes "@") ∷ name r ∷ mark (codes "(") ∷ spell_type (suc d) T (mark (codes ")") ∷ js)) m.fine).0 in omega arith)
  type_read (suc a) d (list r T) ts js e m = passes Keyword (codes "int") (λ _. give int) (first_list m) refl
      (entry_meets (list_at d) Keyword (codes "list") (λ t h. h) (λ _. list_of end (type_of end a)) _ m (λ p t _ _ left m h. list_read r T (type_of end a) (suc d) (λ ts js m. type_read a (suc d) T ts js (omega arith) m) left js m))

  module _ {A : Type 0} (spell : A → List Spelled → List Spelled) (E : Reader A) (element : (x : A) (ts : List Lexeme) (js : List Spelled) → Fitted ts (spell x js) → Reads E ts x js) where
    commas_read : (close : List ℕ) → tests Mark close Mark (codes ",") ≡ false → (room : ℕ) (x : A) (xs : List A) (ts : List Lexeme) (js : List Spelled) → length ts < room
        → Fitted ts (spell_commas spell x xs (mark close ∷ js)) → Reads (commas end close E room) ts (x ∷ xs) js
    commas_read close apart zero x xs ts js h m = absurd (omega arith)
    commas_read close apart (suc room) x [] ts js h m = both _ (element x ts _ m) (λ left m h. passes Mark (codes ",") (λ _. before x (commas end close E room)) (first_word m) apart
        (then_word Mark close m (λ p left m h. done (x ∷ []) left _ m)))
    commas_read close apart (suc room) x (y ∷ ys) ts js h m = both _ (element x ts _ m) (λ left m k. word_meets Mark (codes ",") (λ _. before x (commas end close E room)) _ m (λ p left m l.
        both (λ xs. give (x ∷ xs)) (commas_read close apart room y ys left js (omega arith) m) (λ left m h. done (x ∷ y ∷ ys) left _ m)))

    elements_read : ((x : A) (ts : List Lexeme) (js : List Spelled) → Fitted ts (spell x js) → starts Mark (codes ")") ts ≡ false) → (room : ℕ) (xs : List A) (ts : List Lexeme) (js : List Spelled) → length ts < room
        → Fitted ts (spell_elements spell xs js) → Reads (elements end E room) ts xs js
    elements_read apart room [] ts js h m = word_meets Mark (codes ")") (λ _. give []) _ m (λ p left m h. done [] left _ m)
    elements_read apart room (x ∷ xs) ts js h m =
        let r = commas_read (codes ")") refl room x xs ts js h m in
        record { left = r.left; answer = skips end Mark (codes ")") (λ _. give []) (commas end (codes ")") E room) ts (starts_with xs m) ∙ r.answer; fit = r.fit; fine = r.fine; shorter = r.shorter }
      where
        starts_with : (xs : List A) → Fitted ts (spell_elements spell (x ∷ xs) js) → starts Mark (codes ")") ts ≡ false
        starts_with [] m = apart x ts _ m
        starts_with (y ∷ ys) m = apart x ts _ m

  regions_read : (room : ℕ) (rs : List Ident) (ts : List Lexeme) (js : List Spelled) → length ts < room → Fitted ts (spell_regions rs (mark (codes "(") ∷ js)) → Reads (regions end room) ts rs js
  regions_read room [] ts js h m = passes Mark (codes "[") (λ _. bracketed end room) (first_word m) refl (then_word Mark (codes "(") m (λ p left m h. done [] left _ m))
  regions_read room (r ∷ rs) ts js h m = word_meets Mark (codes "[") (λ _. bracketed end room) _ m (λ p left m k.
      both _ (commas_read spell_name (name_of end) name_read (codes "]") refl room r rs left _ (omega arith) m) (λ left m h. then_word Mark (codes "(") m (λ p left m h. done (r ∷ rs) left _ m)))

  -- no parenthesis stands where an element does
  name_apart : (x : Ident) (ts : List Lexeme) (js : List Spelled) → Fitted ts (name x ∷ js) → starts Mark (codes ")") ts ≡ false
  name_apart x ts js m = by m.fit
    where
      by : {ts : List Lexeme} → Matches ts (name x ∷ js) → starts Mark (codes ")") ts ≡ false
      by (more {t = t} {ts = ts} h m) = starts-of Mark (codes ")") t ts h.1

  atom_apart : (a : Atom) (ts : List Lexeme) (js : List Spelled) → Fitted ts (spell_atom a js) → starts Mark (codes ")") ts ≡ false
  atom_apart (var x) ts js m = name_apart x ts js m
  atom_apart (num p n) ts js m = by m.fit
    where
      by : {ts : List Lexeme} → Matches ts (number p n ∷ js) → starts Mark (codes ")") ts ≡ false
      by (more {t = t} {ts = ts} h m) = starts-of {v = t.bytes} Mark (codes ")") t ts (h.1, refl)

  param_apart : (q : Param) (ts : List Lexeme) (js : List Spelled) → Fitted ts (spell_param q js) → starts Mark (codes ")") ts ≡ false
  param_apart q ts js m = name_apart q.name ts _ m

  -- words and the ways behind them, tried one after the other
  abbrev Table : Type 0 → Type 0
  Table A = List (List ℕ × (ℕ → Reader A))

  abbrev chain : {A : Type 0} → Table A → Reader A → Reader A
  chain [] S = S
  chain ((w, K) ∷ c) S = on end Keyword w K (chain c S)

  abbrev find : {A : Type 0} → List ℕ → Table A → Option (ℕ → Reader A)
  find w [] = None
  find w ((v, K) ∷ c) = elim (same_bytes w v) [ true ↦ Some K | false ↦ find w c ]

  chain_meets : {A : Type 0} (c : Table A) (S : Reader A) (w : List ℕ) (p : ℕ) (K : ℕ → Reader A) → find w c ≡ Some K → {ts : List Lexeme} {y : A} {is js : List Spelled} → Fitted ts (word_at p w ∷ is)
      → ((left : List Lexeme) → Fitted left is → suc (length left) ≤ length ts → Reads (K p) left y js) → Reads (chain c S) ts y js
  chain_meets [] S w p K e m go = none-some e
  chain_meets {A} ((v, X) ∷ c) S w p K e {ts} {y} {is} {js} m go = by (same_bytes w v) refl e (λ e. chain_meets c S w p K e m go)
    where
      by : (b : Bool) → same_bytes w v ≡ b → ◌≡◌ {A = Option (ℕ → Reader A)} (elim b [ true ↦ Some X | false ↦ find w c ]) (Some K) → (find w c ≡ Some K → Reads (chain c S) ts y js) → Reads (on end Keyword v X (chain c S)) ts y js
      by true h e others =
          let q : X ≡ K = cc in
          let z : w ≡ v = same-is w v h in
          subst (λ o. Reads (on end Keyword v o (chain c S)) ts y js) (sym q) (subst (λ o. Reads (on end Keyword o K (chain c S)) ts y js) z (place_meets w K (chain c S) p m go))
      by false h e others = passes Keyword v X (first_at m) h (others e)

  chain_passes : {A : Type 0} (c : Table A) (S : Reader A) (a : Atom) (is : List Spelled) {ts : List Lexeme} {y : A} {js : List Spelled} → Fitted ts (spell_atom a is) → Reads S ts y js → Reads (chain c S) ts y js
  chain_passes [] S a is m r = r
  chain_passes ((v, X) ∷ c) S a is m r = pass_atom Keyword v X a is (λ _. refl) (λ _. refl) m (chain_passes c S a is m r)

  module _ (room : ℕ) where
    abbrev blk : ℕ → Reader Block
    blk a = block_of end room lists a

    abbrev rgt : ℕ → Reader Right
    rgt a = right_of end room (type_of end lists) (blk a)

    abbrev table : ℕ → Table Right
    table a = (codes "add", operands end add) ∷ (codes "sub", operands end sub) ∷ (codes "mul", operands end mul) ∷ (codes "div", operands end div) ∷ (codes "rem", operands end rem) ∷ (codes "eq", operands end eq) ∷ (codes "lt", operands end lt)
        ∷ (codes "nil", nil_of end (type_of end lists)) ∷ (codes "cons", cons_of end) ∷ (codes "call", call_of end room) ∷ (codes "if", if_of end (blk a)) ∷ (codes "region", region_of end (blk a)) ∷ (codes "case", case_of end (blk a)) ∷ []

    abbrev alone : Reader Right
    alone ts = then (atom_of end ts) λ a. give (atom a)

    meet : (a : ℕ) (w : List ℕ) (p : ℕ) (K : ℕ → Reader Right) → find w (table a) ≡ Some K → {ts : List Lexeme} {y : Right} {is js : List Spelled} → Fitted ts (word_at p w ∷ is)
        → ((left : List Lexeme) → Fitted left is → suc (length left) ≤ length ts → Reads (K p) left y js) → Reads (rgt a) ts y js
    meet a w p K e m go = chain_meets (table a) alone w p K e m go

    oper_word : (a : ℕ) (o : Op) → find (op_word o) (table a) ≡ Some (operands end o)
    oper_word a add = refl
    oper_word a sub = refl
    oper_word a mul = refl
    oper_word a div = refl
    oper_word a rem = refl
    oper_word a eq = refl
    oper_word a lt = refl

    enter : (b : Block) (a d : ℕ) → a + d ≡ suc blocks
        → ((a' : ℕ) → a' + d ≡ blocks → (ts : List Lexeme) (js : List Spelled) → length ts < room → Fitted ts (spell_inside d b js) → Reads (inside end (rgt a') room) ts b js)
        → (ts : List Lexeme) (js : List Spelled) → length ts < room → Fitted ts (spell_block d b js) → Reads (blk a) ts b js
    enter b zero d e go ts js h m = absurd (let k = leb-true d blocks (shallows-first blocks lists (block_at d) (spell_inside d b js) m.fine).0 in omega arith)
    enter b (suc a) d e go ts js h m = entry_meets (block_at d) Mark (codes "{") (λ t h. h) (λ _. inside end (rgt a) room) _ m (λ p t _ _ left m k. go a (omega arith) left js (omega arith) m)

    mutual
      right_read : (r : Right) (a d : ℕ) → a + d ≡ blocks → (ts : List Lexeme) (js : List Spelled) → length ts < room → Fitted ts (spell_right d r js) → Reads (rgt a) ts r js
      right_read (atom x) a d e ts js h m = chain_passes (table a) alone x js m (both _ (atom_read x ts js m) (λ left m h. done (atom x) left _ m))
      right_read (oper p o x y) a d e ts js h m = meet a (op_word o) p (operands end o) (oper_word a o) m (λ left m h. both _ (atom_read x left _ m) (λ left m h. both _ (atom_read y left _ m) (λ left m h. done (oper p o x y) left _ m)))
      right_read (nil p r T) a d e ts js h m = meet a (codes "nil") p (nil_of end (type_of end lists)) refl m (λ left m h.
          then_word Mark (codes "@") m (λ _ left m h. both _ (name_read r left _ m) (λ left m h. then_word Mark (codes "(") m (λ _ left m h. both _ (type_read lists 1 T left _ (omega arith) m) (λ left m h. then_word Mark (codes ")") m (λ _ left m h. done (nil p r T) left _ m))))))
      right_read (cons p r x y) a d e ts js h m = meet a (codes "cons") p (cons_of end) refl m (λ left m h.
          then_word Mark (codes "@") m (λ _ left m h. both _ (name_read r left _ m) (λ left m h. then_word Mark (codes "(") m (λ _ left m h. both _ (atom_read x left _ m) (λ left m h.
          then_word Mark (codes ",") m (λ _ left m h. both _ (atom_read y left _ m) (λ left m h. then_word Mark (codes ")") m (λ _ left m h. done (cons p r x y) left _ m))))))))
      right_read (call p g rs xs) a d e ts js h m = meet a (codes "call") p (call_of end room) refl m (λ left m h1. both _ (name_read g left _ m) (λ left m h2.
          both _ (regions_read room rs left _ (omega arith) m) (λ left m h3. both _ (elements_read spell_atom (atom_of end) atom_read atom_apart room xs left _ (omega arith) m) (λ left m h. done (call p g rs xs) left _ m))))
      right_read (test p x b c) a d e ts js h m = meet a (codes "if") p (if_of end (blk a)) refl m (λ left m h1. both _ (atom_read x left _ m) (λ left m h2.
          both _ (enter b a (suc d) (omega arith) (λ a' e' ts js h m. inside_read b a' (suc d) room e' ts js h (omega arith) m) left _ (omega arith) m) (λ left m h3.
          then_word Keyword (codes "else") m (λ _ left m h4. both _ (enter c a (suc d) (omega arith) (λ a' e' ts js h m. inside_read c a' (suc d) room e' ts js h (omega arith) m) left _ (omega arith) m) (λ left m h. done (test p x b c) left _ m)))))
      right_read (region p r b) a d e ts js h m = meet a (codes "region") p (region_of end (blk a)) refl m (λ left m h1. both _ (name_read r left _ m) (λ left m h2.
          both _ (enter b a (suc d) (omega arith) (λ a' e' ts js h m. inside_read b a' (suc d) room e' ts js h (omega arith) m) left _ (omega arith) m) (λ left m h. done (region p r b) left _ m)))
      right_read (split p x b y z c) a d e ts js h m = meet a (codes "case") p (case_of end (blk a)) refl m (λ left m h1. both _ (atom_read x left _ m) (λ left m h2.
          both _ (enter b a (suc d) (omega arith) (λ a' e' ts js h m. inside_read b a' (suc d) room e' ts js h (omega arith) m) left _ (omega arith) m) (λ left m h3.
          then_word Keyword (codes "else") m (λ _ left m h4. both _ (name_read y left _ m) (λ left m h5. both _ (name_read z left _ m) (λ left m h6.
          both _ (enter c a (suc d) (omega arith) (λ a' e' ts js h m. inside_read c a' (suc d) room e' ts js h (omega arith) m) left _ (omega arith) m) (λ left m h. done (split p x b y z c) left _ m)))))))

      inside_read : (b : Block) (a d n : ℕ) → a + d ≡ blocks → (ts : List Lexeme) (js : List Spelled) → length ts < n → n ≤ room → Fitted ts (spell_inside d b js) → Reads (inside end (rgt a) n) ts b js
      inside_read (last x) a d zero e ts js h k m = absurd (omega arith)
      inside_read (last x) a d (suc n) e ts js h k m =
          pass_atom Keyword (codes "let") (λ _. let_of end (rgt a) (inside end (rgt a) n)) x _ (λ _. refl) (λ _. refl) m (pass_atom Keyword (codes "print") (print_of end (inside end (rgt a) n)) x _ (λ _. refl) (λ _. refl) m
          (both _ (atom_read x ts _ m) (λ left m h. then_word Mark (codes "}") m (λ _ left m h. done (last x) left _ m))))
      inside_read (bind x r b) a d zero e ts js h k m = absurd (omega arith)
      inside_read (bind x r b) a d (suc n) e ts js h k m = word_meets Keyword (codes "let") (λ _. let_of end (rgt a) (inside end (rgt a) n)) _ m (λ _ left m h1. both _ (name_read x left _ m) (λ left m h2.
          then_word Mark (codes "=") m (λ _ left m h3. both _ (right_read r a d e left _ (omega arith) m) (λ left m h4. then_word Mark (codes ";") m (λ _ left m h5.
          both _ (inside_read b a d n e left _ (omega arith) (omega arith) m) (λ left m h. done (bind x r b) left _ m))))))
      inside_read (print p x b) a d zero e ts js h k m = absurd (omega arith)
      inside_read (print p x b) a d (suc n) e ts js h k m = passes Keyword (codes "let") (λ _. let_of end (rgt a) (inside end (rgt a) n)) (first_at m) refl
          (place_meets (codes "print") (print_of end (inside end (rgt a) n)) _ p m (λ left m h1. both _ (atom_read x left _ m) (λ left m h2. then_word Mark (codes ";") m (λ _ left m h3.
          both _ (inside_read b a d n e left _ (omega arith) (omega arith) m) (λ left m h. done (print p x b) left _ m)))))

    param_read : (q : Param) (ts : List Lexeme) (js : List Spelled) → Fitted ts (spell_param q js) → Reads (param_of end lists) ts q js
    param_read q ts js m = both _ (name_read q.name ts _ m) (λ left m h. then_word Mark (codes ":") m (λ _ left m h. both _ (type_read lists 1 q.type left _ (omega arith) m) (λ left m h. done q left _ m)))

    pub fun_read : (g : Fun) (ts : List Lexeme) (js : List Spelled) → length ts < room → Fitted ts (spell_fun g js) → (r : Reads (fun_of end room lists blocks) ts g js) × (length r.left < length ts)
    fun_read g ts js h m = behind_word Keyword (codes "fun") m.fit m.fine (λ _ left m h1. both _ (name_read g.name left _ m) (λ left m h2. both _ (regions_read room g.regions left _ (omega arith) m) (λ left m h3.
        both _ (elements_read spell_param (param_of end lists) param_read param_apart room g.params left _ (omega arith) m) (λ left m h4. then_word Mark (codes ":") m (λ _ left m h5.
        both _ (type_read lists 1 g.result left _ (omega arith) m) (λ left m h6.
        both _ (enter g.body blocks 1 (omega arith) (λ a' e' ts js h m. inside_read g.body a' 1 room e' ts js h (omega arith) m) left _ (omega arith) m) (λ left m h. done g left _ m)))))))
