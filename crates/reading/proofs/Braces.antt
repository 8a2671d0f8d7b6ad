-- A block and its inside, with what is read first in front.
use Rattle.std.proofs.Common.{◌≡◌, ℕ, zero, suc, ◌-◌, ◌<◌, false, true, List, length, Err, codes, sym, refl, ap, ◌∙◌, arith}
use Rattle.lexing.specs.declared.token.Kind.TheVariants.{Keyword, Mark}
use Rattle.lexing.specs.Tokens.{Lexeme}
use Rattle.language.specs.Syntax.{Block}
use Rattle.language.specs.Reading.{Reader, on, starts, refuse, too_deep, let_of, print_of, last_of}
use Rattle.reading.specs.declared.cursor.Cursor.{Cursor}
use Rattle.reading.specs.Cursors.{ahead, end_of, Skips}
use Rattle.reading.specs.Parts.{behind_word, side_of, nested_of, inside_of}
use Rattle.reading.proofs.Steps.{on-met, on-other, refuse-is, here-is}

abbrev block-form : ℕ → ℕ → ℕ → ℕ → Reader Block
block-form n room zero p = too_deep p
block-form n room (suc b) p = inside_of n room room b

block_is : (n room blocks : ℕ) (ts : List Lexeme) → nested_of n room blocks ts ≡ on n Mark (codes "{") (block-form n room blocks) (refuse n 6) ts
block_is n room zero ts = refl
block_is n room (suc b) ts = refl

pub block_refused : (room blocks : ℕ) (c : Cursor) → starts Mark (codes "{") (ahead c) ≡ false → nested_of (end_of c) room blocks (ahead c) ≡ Err (record { number = 6; place = c.place })
block_refused room blocks c e = block_is (end_of c) room blocks (ahead c) ∙ on-other (end_of c) Mark (codes "{") (ahead c) (block-form (end_of c) room blocks) (refuse (end_of c) 6) e ∙ refuse-is c

pub block-deep : (room blocks : ℕ) (c : Cursor) → starts Mark (codes "{") (ahead c) ≡ true → blocks ≡ 0 → nested_of (end_of c) room blocks (ahead c) ≡ Err (record { number = 7; place = c.place })
block-deep room zero c e b = on-met (end_of c) Mark (codes "{") (ahead c) (block-form (end_of c) room 0) (refuse (end_of c) 6) e ∙ ap (λ p. Err (record { number = 7; place = p })) (here-is c)
block-deep room (suc n) c e b = absurd (omega arith)

pub block-opens : (room blocks : ℕ) (c d : Cursor) → starts Mark (codes "{") (ahead c) ≡ true → Skips c d → 0 < blocks → nested_of (end_of c) room blocks (ahead c) ≡ inside_of (end_of d) room room (blocks - 1) (ahead d)
block-opens room zero c d e s h = absurd (omega arith)
block-opens room (suc b) c d e s h =
    on-met (end_of c) Mark (codes "{") (ahead c) (block-form (end_of c) room (suc b)) (refuse (end_of c) 6) e
    ∙ ap (inside_of (end_of c) room room b) s.rest
    ∙ ap (λ m. inside_of (end_of c) room room m (ahead d)) (let e : b ≡ suc b - 1 = omega arith in e)
    ∙ ap (λ n. inside_of n room room (suc b - 1) (ahead d)) (sym (ap length s.like.text))

abbrev inside-form : ℕ → ℕ → ℕ → ℕ → Reader Block
inside-form n whole room blocks =
    on n Keyword (codes "let") (λ _. let_of n (side_of n whole blocks) (inside_of n whole room blocks))
    (on n Keyword (codes "print") (print_of n (inside_of n whole room blocks)) (last_of n))

inside_is : (n whole room k blocks : ℕ) (ts : List Lexeme) → k < room → inside_of n whole room blocks ts ≡ inside-form n whole (room - 1) blocks ts
inside_is n whole zero k blocks ts h = absurd (omega arith)
inside_is n whole (suc room) k blocks ts h = ap (λ (m : ℕ). inside-form n whole m blocks ts) (let e : room ≡ suc room - 1 = omega arith in e)

pub inside-let : (n whole room k blocks : ℕ) (ts : List Lexeme) → k < room → starts Keyword (codes "let") ts ≡ true → inside_of n whole room blocks ts ≡ behind_word n (λ _. let_of n (side_of n whole blocks) (inside_of n whole (room - 1) blocks)) ts
inside-let n whole room k blocks ts h e =
    inside_is n whole room k blocks ts h
    ∙ on-met n Keyword (codes "let") ts (λ _. let_of n (side_of n whole blocks) (inside_of n whole (room - 1) blocks)) (on n Keyword (codes "print") (print_of n (inside_of n whole (room - 1) blocks)) (last_of n)) e

inside-other : (n whole room k blocks : ℕ) (ts : List Lexeme) → k < room → starts Keyword (codes "let") ts ≡ false → inside_of n whole room blocks ts ≡ on n Keyword (codes "print") (print_of n (inside_of n whole (room - 1) blocks)) (last_of n) ts
inside-other n whole room k blocks ts h e =
    inside_is n whole room k blocks ts h
    ∙ on-other n Keyword (codes "let") ts (λ _. let_of n (side_of n whole blocks) (inside_of n whole (room - 1) blocks)) (on n Keyword (codes "print") (print_of n (inside_of n whole (room - 1) blocks)) (last_of n)) e

pub inside-print : (n whole room k blocks : ℕ) (ts : List Lexeme) → k < room → starts Keyword (codes "let") ts ≡ false → starts Keyword (codes "print") ts ≡ true → inside_of n whole room blocks ts ≡ behind_word n (print_of n (inside_of n whole (room - 1) blocks)) ts
inside-print n whole room k blocks ts h e f = inside-other n whole room k blocks ts h e ∙ on-met n Keyword (codes "print") ts (print_of n (inside_of n whole (room - 1) blocks)) (last_of n) f

pub inside-last : (n whole room k blocks : ℕ) (ts : List Lexeme) → k < room → starts Keyword (codes "let") ts ≡ false → starts Keyword (codes "print") ts ≡ false → inside_of n whole room blocks ts ≡ last_of n ts
inside-last n whole room k blocks ts h e f = inside-other n whole room k blocks ts h e ∙ on-other n Keyword (codes "print") ts (print_of n (inside_of n whole (room - 1) blocks)) (last_of n) f
