-- A part of the grammar read step by step: how far the cursor came, and what its table says so far.
use Rattle.std.proofs.Common.{◌≡◌, ℕ, suc, ◌+◌, ◌≤◌, List, [], ◌∷◌, ◌++◌, length, Ok, Err, Result, sym, refl, ap, ◌∙◌, subst, append_assoc, arith}
use Rattle.std.proofs.lemmas.Result.{MatchResult-weaker}
use Rattle.lexing.specs.declared.fault.Fault.{Fault}
use Rattle.lexing.specs.Tokens.{Lexeme}
use Rattle.language.specs.Syntax.{Ident}
use Rattle.language.specs.Reading.{Answer, Reader}
use Rattle.draft.specs.declared.command.Name.{Name}
use Rattle.draft.specs.declared.command.Command.{Command}
use Rattle.draft.specs.Items.{Item, ident, items, item, items_atom}
use Rattle.reading.specs.declared.cursor.Cursor.{Cursor}
use Rattle.reading.specs.Cursors.{ahead, refused, end_of, Skips, Next, Pushed, AtomRead}
use Rattle.reading.specs.Growth.{Grew, Reads}
use Rattle.reading.proofs.Steps.{rest-less, rest-longer}

-- from c₀ on, to c: the table says `pre` before what follows; n tokens or more are taken, and there is room for `free` commands more
pub record Stage (c₀ c : Cursor) (pre : List Item → List Item) (n free : ℕ) : Type 0 where
  pub told : (after : List Item) → items c.table.now ++ after ≡ items c₀.table.now ++ pre after
  pub text : c.text.now ≡ c₀.text.now
  pub end : end_of c ≡ end_of c₀
  pub same : c.table.ghost_name ≡ c₀.table.ghost_name
  pub long : length c.table.now.text.items ≡ length c₀.table.now.text.items
  pub near : n + length (ahead c) ≤ length (ahead c₀)
  pub room : free + (length c.table.now.commands.items + length (ahead c)) ≤ length c₀.table.now.commands.items + length (ahead c₀)

pub start : (c : Cursor) → Stage c c (λ l. l) 0 0
start c = record { told = λ after. refl; text = refl; end = refl; same = refl; long = refl; near = omega arith; room = omega arith }

-- the word that a part begins with, where it is not known yet that one stands there
pub skip : {c d : Cursor} → Skips c d → Stage c d (λ l. l) 0 0
skip {c} s =
    let a = rest-less (ahead c) in
    let m = ap length s.rest in
    let t = s.like.table in
    let u = ap (λ t. length t.commands.items) t in
    record {
      told = λ after. ap (λ t. items t ++ after) t;
      text = s.like.text;
      end = ap length s.like.text;
      same = s.like.same;
      long = ap (λ t. length t.text.items) t;
      near = omega arith;
      room = omega arith;
    }

-- what is read at a stage, told from the first cursor on
pub at : {A : Type 0} {c₀ c : Cursor} {pre : List Item → List Item} {n free : ℕ} {ts : List Lexeme} {a : Answer A} (f : ℕ → Reader A) → Stage c₀ c pre n free → ts ≡ ahead c → f (end_of c) (ahead c) ≡ a → f (end_of c₀) ts ≡ a
at {c₀ = c₀} {c = c} f s q e = ap (f (end_of c₀)) q ∙ ap (λ m. f m (ahead c)) (sym s.end) ∙ e

-- a name that is read at a stage
pub name-at : {c₀ c : Cursor} {pre : List Item → List Item} {n free : ℕ} {ts us : List Lexeme} (f : ℕ → Reader Ident) (x : Name) → Stage c₀ c pre n free → ts ≡ ahead c → f (end_of c) (ahead c) ≡ Ok (ident c.text.now x, us) → f (end_of c₀) ts ≡ Ok (ident c₀.text.now x, us)
name-at {us = us} f x s q e = at f s q e ∙ ap (λ l. Ok (ident l x, us)) s.text

-- one token, or several
pub go : {c₀ c d : Cursor} {pre : List Item → List Item} {n free : ℕ} → Stage c₀ c pre n free → Next c d → Stage c₀ d pre (suc n) (suc free)
go s k =
    let a = s.near in
    let b = s.room in
    let l = k.nearer in
    let t = k.like.table in
    let m = ap (λ t. length t.commands.items) t in
    record {
      told = λ after. ap (λ t. items t ++ after) t ∙ s.told after;
      text = k.like.text ∙ s.text;
      end = ap length (k.like.text ∙ s.text);
      same = k.like.same ∙ s.same;
      long = ap (λ t. length t.text.items) t ∙ s.long;
      near = omega arith;
      room = omega arith;
    }

-- the word that a part begins with, and one token more
pub word : {c d e : Cursor} → Skips c d → Next d e → Stage c e (λ l. l) 2 2
word {c} {d} {e} s k =
    let l = k.nearer in
    let m = ap length s.rest in
    let t = k.like.table ∙ s.like.table in
    let u = ap (λ t. length t.commands.items) t in
    let n = rest-longer (ahead c) (length (ahead d)) m (omega arith) in
    record {
      told = λ after. ap (λ t. items t ++ after) t;
      text = k.like.text ∙ s.like.text;
      end = ap length (k.like.text ∙ s.like.text);
      same = k.like.same ∙ s.like.same;
      long = ap (λ t. length t.text.items) t;
      near = omega arith;
      room = omega arith;
    }

-- one command
pub push : {x : Command} {c₀ c d : Cursor} {pre : List Item → List Item} {n free : ℕ} → Stage c₀ c pre n (suc free) → Pushed x c d → Stage c₀ d (λ after. pre (item c₀.text.now x ∷ after)) n free
push {x} {c₀} {c} {d} {pre} s p =
    let a = s.near in
    let b = s.room in
    let l = ap length p.ahead in
    let m = p.count in
    record {
      told = λ after. ap (λ l. l ++ after) p.items ∙ append_assoc (items c.table.now) (item c.text.now x ∷ []) after ∙ ap (λ l. items c.table.now ++ item l x ∷ after) s.text ∙ s.told (item c₀.text.now x ∷ after);
      text = p.text ∙ s.text;
      end = ap length (p.text ∙ s.text);
      same = p.same ∙ s.same;
      long = p.long ∙ s.long;
      near = omega arith;
      room = omega arith;
    }

-- a part that was read by a call
pub call : {A : Type 0} {f : Reader A} {w : A → List Item → List Item} {c₀ c d : Cursor} {pre : List Item → List Item} {n free : ℕ}
    → Stage c₀ c pre n free → (g : Grew f w c d) → Stage c₀ d (λ after. pre (w g.tree after)) (suc n) free
call {w = w} s g =
    let a = s.near in
    let b = s.room in
    let h = g.room in
    let l = g.nearer in
    record {
      told = λ after. g.told after ∙ s.told (w g.tree after);
      text = g.text ∙ s.text;
      end = ap length (g.text ∙ s.text);
      same = g.same ∙ s.same;
      long = g.long ∙ s.long;
      near = omega arith;
      room = omega arith;
    }

-- all is read
pub done : {B : Type 0} {F : Reader B} {w : B → List Item → List Item} {c₀ c : Cursor} {pre : List Item → List Item} {n free : ℕ} (x : B)
    → Stage c₀ c pre (suc n) free → F (ahead c₀) ≡ Ok (x, ahead c) → ((after : List Item) → pre after ≡ w x after) → Grew F w c₀ c
done {c₀ = c₀} x s r e =
    let a = s.near in
    let b = s.room in
    record {
      tree = x;
      reads = r;
      told = λ after. s.told after ∙ ap (λ l. items c₀.table.now ++ l) (e after);
      text = s.text;
      same = s.same;
      long = s.long;
      nearer = omega arith;
      room = omega arith;
    }

-- what an atom's command says of the whole text
pub atom-told : {c₀ c d : Cursor} {pre : List Item → List Item} {n free : ℕ} {x : Command} → Stage c₀ c pre n free → (e : AtomRead c x d) → (after : List Item) → item c₀.text.now x ∷ after ≡ items_atom e.tree after
atom-told {x = x} s e after = ap (λ l. item l x ∷ after) (sym s.text) ∙ e.told after

-- the exit of a `?`
pub broken : {A : Type 0} (f : Reader A) (w : A → List Item → List Item) (c d : Cursor) {r : Result (Unit {0}) Fault} {e : Fault} → (y : Fault) × (r ≡ Err y) × (y ≡ e) → f (ahead c) ≡ Err (refused e) → Reads f w c d r
broken f w c d p h = subst (Reads f w c d) (sym (p.1 ∙ ap Err p.2)) h

-- a part that is the same to two readers
pub alike : {A : Type 0} (f g : Reader A) (w : A → List Item → List Item) (c d : Cursor) (r : Result (Unit {0}) Fault) → f (ahead c) ≡ g (ahead c) → Reads g w c d r → Reads f w c d r
alike f g w c d r q k = MatchResult-weaker r k
    (λ _ k. record { tree = k.tree; reads = q ∙ k.reads; told = k.told; text = k.text; same = k.same; long = k.long; nearer = k.nearer; room = k.room })
    (λ y k. q ∙ k)
