-- The parts of the grammar with what is read first in front.
use Rattle.std.proofs.Common.{◌≡◌, ℕ, zero, suc, ◌-◌, ◌<◌, true, false, List, [], ◌∷◌, length, Ok, Err, codes, sym, refl, ap, ◌∙◌, arith}
use Rattle.lexing.specs.declared.token.Kind.TheVariants.{Keyword, Mark}
use Rattle.lexing.specs.Tokens.{Lexeme}
use Rattle.language.specs.Nesting.{most_lists}
use Rattle.language.specs.Syntax.{Ident, Ty, int, list, Right, nil}
use Rattle.language.specs.Reading.{Answer, Reader, then, give, on, rest, starts, refuse, mark_of, name_of, before, closed, commas, too_deep, list_of, type_of, nil_of}
use Rattle.reading.specs.declared.cursor.Cursor.{Cursor}
use Rattle.reading.specs.Cursors.{opened_of, ahead, end_of, Skips}
use Rattle.reading.proofs.Steps.{on-met, on-other, word-is, here-is, refuse-is}

-- behind `list`
abbrev pub list-form : ℕ → ℕ → ℕ → Reader Ty
list-form end zero p = too_deep p
list-form end (suc n) p = list_of end (type_of end n)

abbrev pub type-form : ℕ → ℕ → Reader Ty
type-form end lists = on end Keyword (codes "int") (λ _. give int) (on end Keyword (codes "list") (list-form end lists) (refuse end 6))

type-is : (end lists : ℕ) (ts : List Lexeme) → type_of end lists ts ≡ type-form end lists ts
type-is end zero ts = refl
type-is end (suc n) ts = refl

close_then : {B : Type 0} (a : Answer ℕ) (r : Ident) (next : Ident → Reader B) → then (then a (λ _. give r)) next ≡ then a (λ _ ts. next r ts)
close_then (Ok (p, ts)) r next = refl
close_then (Err e) r next = refl

name-then : {B : Type 0} (end : ℕ) (a : Answer Ident) (next : Ident → Reader B)
    → then (then a (λ r ts. then (mark_of end (codes "(") ts) λ _. give r)) next ≡ then a (λ r ts. then (mark_of end (codes "(") ts) λ _ ts. next r ts)
name-then end (Ok (r, ts)) next = close_then (mark_of end (codes "(") ts) r next
name-then end (Err e) next = refl

at-then : {B : Type 0} (end : ℕ) (a : Answer ℕ) (next : Ident → Reader B)
    → then (then a (λ _ ts. then (name_of end ts) λ r ts. then (mark_of end (codes "(") ts) λ _. give r)) next ≡ then a (λ _ ts. then (name_of end ts) λ r ts. then (mark_of end (codes "(") ts) λ _ ts. next r ts)
at-then end (Ok (p, ts)) next = name-then end (name_of end ts) next
at-then end (Err e) next = refl

-- a region behind `@` with its parenthesis, and what follows
pub opened-then : {B : Type 0} (end : ℕ) (next : Ident → Reader B) (ts : List Lexeme)
    → then (mark_of end (codes "@") ts) (λ _ ts. then (name_of end ts) λ r ts. then (mark_of end (codes "(") ts) λ _ ts. next r ts) ≡ then (opened_of end ts) next
opened-then end next ts = sym (at-then end (mark_of end (codes "@") ts) next)

abbrev pub list-then : ℕ → ℕ → Ident → Reader Ty
list-then end n r ts = then (type_of end n ts) λ T ts. then (mark_of end (codes ")") ts) λ _. give (list r T)

list-deep : (end lists p : ℕ) (ts : List Lexeme) → lists ≡ 0 → list-form end lists p ts ≡ Err (record { number = 7; place = p })
list-deep end zero p ts e = refl
list-deep end (suc n) p ts e = absurd (omega arith)

list-more : (end lists p : ℕ) (ts : List Lexeme) → 0 < lists → list-form end lists p ts ≡ then (opened_of end ts) (list-then end (lists - 1))
list-more end zero p ts h = absurd (omega arith)
list-more end (suc n) p ts h = opened-then end (list-then end n) ts ∙ ap (λ (m : ℕ). then (opened_of end ts) (list-then end m)) (let e : n ≡ suc n - 1 = omega arith in e)

-- the first element of a list with commas, and what follows
abbrev pub commas-then : {A : Type 0} → ℕ → List ℕ → Reader A → ℕ → A → Reader (List A)
commas-then end close element room x = on end Mark (codes ",") (λ _. before x (commas end close element room)) (closed end close x)

pub commas-is : {A : Type 0} (end : ℕ) (close : List ℕ) (element : Reader A) (room n : ℕ) (ts : List Lexeme) → n < room → commas end close element room ts ≡ then (element ts) (commas-then end close element (room - 1))
commas-is end close element zero n ts h = absurd (omega arith)
commas-is end close element (suc room) n ts h = ap (λ (m : ℕ). then (element ts) (commas-then end close element m)) (let e : room ≡ suc room - 1 = omega arith in e)

-- the first element and the others behind a comma, or the closing mark
pub commas-met : {A : Type 0} (close : List ℕ) (element : ℕ → Reader A) (room : ℕ) (x : A) (b c d : Cursor) (r : Answer (List A))
    → length (ahead b) < room → end_of c ≡ end_of b → element (end_of b) (ahead b) ≡ Ok (x, ahead c)
    → starts Mark (codes ",") (ahead c) ≡ true → Skips c d → commas (end_of d) close (element (end_of d)) (room - 1) (ahead d) ≡ r
    → commas (end_of b) close (element (end_of b)) room (ahead b) ≡ then r (λ xs. give (x ∷ xs))
commas-met close element room x b c d r h e a p s g =
    let n = end_of b in
    let others = commas n close (element n) (room - 1) in
    commas-is n close (element n) room _ (ahead b) h
    ∙ ap (λ v. then v (commas-then n close (element n) (room - 1))) a
    ∙ on-met n Mark (codes ",") (ahead c) (λ _. before x others) (closed n close x) p
    ∙ ap (λ ts. then (others ts) (λ xs. give (x ∷ xs))) s.rest
    ∙ ap (λ v. then v (λ xs. give (x ∷ xs))) (ap (λ m. commas m close (element m) (room - 1) (ahead d)) (sym (ap length s.like.text ∙ e)) ∙ g)

pub commas-missed : {A : Type 0} (close : List ℕ) (element : ℕ → Reader A) (room : ℕ) (x : A) (b c : Cursor) (r : Answer ℕ)
    → length (ahead b) < room → end_of c ≡ end_of b → element (end_of b) (ahead b) ≡ Ok (x, ahead c)
    → starts Mark (codes ",") (ahead c) ≡ false → mark_of (end_of c) close (ahead c) ≡ r
    → commas (end_of b) close (element (end_of b)) room (ahead b) ≡ then r (λ _. give (x ∷ []))
commas-missed close element room x b c r h e a p g =
    let n = end_of b in
    commas-is n close (element n) room _ (ahead b) h
    ∙ ap (λ v. then v (commas-then n close (element n) (room - 1))) a
    ∙ on-other n Mark (codes ",") (ahead c) (λ _. before x (commas n close (element n) (room - 1))) (closed n close x) p
    ∙ ap (λ v. then v (λ _. give (x ∷ []))) (ap (λ m. mark_of m close (ahead c)) (sym e) ∙ g)

-- the ways of a type
pub type-int : (lists : ℕ) (c d : Cursor) → starts Keyword (codes "int") (ahead c) ≡ true → Skips c d → type_of (end_of c) lists (ahead c) ≡ Ok (int, ahead d)
type-int lists c d e s =
    let n = end_of c in
    type-is n lists (ahead c) ∙ on-met n Keyword (codes "int") (ahead c) (λ _. give int) (on n Keyword (codes "list") (list-form n lists) (refuse n 6)) e ∙ ap (give int) s.rest

type-other : (lists : ℕ) (c : Cursor) → starts Keyword (codes "int") (ahead c) ≡ false → type_of (end_of c) lists (ahead c) ≡ on (end_of c) Keyword (codes "list") (list-form (end_of c) lists) (refuse (end_of c) 6) (ahead c)
type-other lists c e =
    let n = end_of c in
    type-is n lists (ahead c) ∙ on-other n Keyword (codes "int") (ahead c) (λ _. give int) (on n Keyword (codes "list") (list-form n lists) (refuse n 6)) e

pub type-refused : (lists : ℕ) (c : Cursor) → starts Keyword (codes "int") (ahead c) ≡ false → starts Keyword (codes "list") (ahead c) ≡ false → type_of (end_of c) lists (ahead c) ≡ Err (record { number = 6; place = c.place })
type-refused lists c e f =
    let n = end_of c in
    type-other lists c e ∙ on-other n Keyword (codes "list") (ahead c) (list-form n lists) (refuse n 6) f ∙ refuse-is c

pub type-deep : (lists : ℕ) (c : Cursor) → starts Keyword (codes "int") (ahead c) ≡ false → starts Keyword (codes "list") (ahead c) ≡ true → lists ≡ 0 → type_of (end_of c) lists (ahead c) ≡ Err (record { number = 7; place = c.place })
type-deep lists c e f h =
    let n = end_of c in
    type-other lists c e ∙ on-met n Keyword (codes "list") (ahead c) (list-form n lists) (refuse n 6) f ∙ list-deep n lists _ (rest (ahead c)) h ∙ ap (λ p. Err (record { number = 7; place = p })) (here-is c)

pub type-list : (lists : ℕ) (c d : Cursor) → starts Keyword (codes "int") (ahead c) ≡ false → starts Keyword (codes "list") (ahead c) ≡ true → Skips c d → 0 < lists → type_of (end_of c) lists (ahead c) ≡ then (opened_of (end_of c) (ahead d)) (list-then (end_of c) (lists - 1))
type-list lists c d e f s h =
    let n = end_of c in
    type-other lists c e ∙ on-met n Keyword (codes "list") (ahead c) (list-form n lists) (refuse n 6) f ∙ word-is c d (list-form n lists) s ∙ list-more n lists c.place (ahead d) h

-- a region and its parenthesis, and then a type and the closing one
pub list-reads : (n m : ℕ) (r : Ident) (ts us : List Lexeme) (a : Answer Ty) → opened_of n ts ≡ Ok (r, us) → type_of n m us ≡ a → then (opened_of n ts) (list-then n m) ≡ then a (λ T ts. then (mark_of n (codes ")") ts) λ _. give (list r T))
list-reads n m r ts us a e f = ap (λ v. then v (list-then n m)) e ∙ ap (λ v. then v (λ T ts. then (mark_of n (codes ")") ts) λ _. give (list r T))) f

pub nil-reads : (n p : ℕ) (r : Ident) (ts us : List Lexeme) (a : Answer Ty) → opened_of n ts ≡ Ok (r, us) → type_of n most_lists us ≡ a → nil_of n (type_of n most_lists) p ts ≡ then a (λ T ts. then (mark_of n (codes ")") ts) λ _. give (nil p r T))
nil-reads n p r ts us a e f =
    let next : Ident → Reader Right = λ r ts. then (type_of n most_lists ts) λ T ts. then (mark_of n (codes ")") ts) λ _. give (nil p r T) in
    opened-then n next ts ∙ ap (λ v. then v next) e ∙ ap (λ v. then v (λ T ts. then (mark_of n (codes ")") ts) λ _. give (nil p r T))) f
