-- The room for repetitions is no limit: above the number of tokens, any room gives the same answer.
use Rattle.std.proofs.Common.{◌≡◌, ℕ, ◌<◌, ◌≤◌, List, [], ◌∷◌, length, Err, sym, refl, ap, ◌∙◌, arith}
use Rattle.lexing.specs.Tokens.{Lexeme}
use Rattle.language.specs.Spelling.{spell_right}
use Rattle.language.specs.Reading.{Answer, Reader, atom_of, regions, elements, type_of, right_of, inside, block_of, fun_of}
use Rattle.language.proofs.Told.{Lang, Alike, both_end, both_at, Spelt, Frame, Told, read, stuck, deep, spent, Law}
use Rattle.language.proofs.Parts.{atom_law, regions_law, elements_law}
use Rattle.language.proofs.Blocks.{atom-some, types_law, right_law, inside_law, block_law, fun_law}

alike : (ts : List Lexeme) → Alike ts ts
alike [] = both_end
alike (t ∷ ts) = both_at

module _ {f : Frame} {A : Type 0} {room : ℕ} {Q R : Reader A} {L : Lang A} where
  -- the second reader, where it allows no more, answers as the first
  pub same_answer : Law f room Q R L → f.Same → (ts : List Lexeme) → length ts < room → Q ts ≡ R ts
  same_answer law same ts h = by (Q ts) (law.told ts)
    where
      by : (a : Answer A) → Told f room R L ts a → a ≡ R ts
      by _ (read r) = sym (ap R r.split ∙ r.again _)
      by _ (stuck s) = sym (ap R s.split ∙ s.again s.left (alike s.left) ∙ ap (λ p. Err (record { number = 6; place = p })) (sym s.at))
      by _ (deep d) = sym (ap R d.split ∙ d.again same d.left ∙ ap (λ p. Err (record { number = 7; place = p })) (sym d.at))
      by _ (spent k) = absurd (omega arith)

-- limits that are met exactly
abbrev exact : ℕ → ℕ → ℕ → Frame
exact end blocks lists = record { end = end; blocks = blocks; lists = lists; Same = Unit {0} }

rights : (end lists room room' : ℕ) → room ≤ room' → (blocks : ℕ)
    → Law (exact end blocks lists) room (right_of end room (type_of end lists) (block_of end room lists blocks)) (right_of end room' (type_of end lists) (block_of end room' lists blocks)) (Spelt (spell_right 0))
rights end lists room room' h blocks = right_law 0 room room' h (types_law room room' lists h (omega arith) (λ _. refl)) (block_law room room' lists h (omega arith) (λ _. refl) blocks blocks 1 (omega arith) (λ _. refl) (omega arith))

module _ (end lists room room' : ℕ) (h : room ≤ room') (ts : List Lexeme) (enough : length ts < room) where
  pub block_any : (blocks : ℕ) → block_of end room lists blocks ts ≡ block_of end room' lists blocks ts
  block_any blocks = same_answer (block_law {f = exact end blocks lists} room room' lists h (omega arith) (λ _. refl) blocks blocks 1 (omega arith) (λ _. refl) (omega arith)) tt ts enough

  pub fun_any : (blocks : ℕ) → fun_of end room lists blocks ts ≡ fun_of end room' lists blocks ts
  fun_any blocks = same_answer (fun_law {f = exact end blocks lists} room room' lists h (omega arith) (λ _. refl) blocks (omega arith) (λ _. refl)) tt ts enough

  pub right_any : (blocks : ℕ) → right_of end room (type_of end lists) (block_of end room lists blocks) ts ≡ right_of end room' (type_of end lists) (block_of end room' lists blocks) ts
  right_any blocks = same_answer (rights end lists room room' h blocks) tt ts enough

  pub regions_any : regions end room ts ≡ regions end room' ts
  regions_any = same_answer (regions_law {f = exact end 0 0} room room' h) tt ts enough

  pub atoms_any : elements end (atom_of end) room ts ≡ elements end (atom_of end) room' ts
  atoms_any = same_answer (elements_law {f = exact end 0 0} atom-some (λ n. atom_law) room room' h) tt ts enough

-- the room left for items may be any too
pub inside-any : (end lists room room' : ℕ) → room ≤ room' → (blocks n n' : ℕ) → n ≤ n' → n ≤ room → (ts : List Lexeme) → length ts < n
    → inside end (right_of end room (type_of end lists) (block_of end room lists blocks)) n ts ≡ inside end (right_of end room' (type_of end lists) (block_of end room' lists blocks)) n' ts
inside-any end lists room room' h blocks n n' k l ts enough = same_answer (inside_law 0 room (rights end lists room room' h blocks) n n' k l) tt ts enough
