-- What the answer of reading says of a text, told by spellings alone.
use Rattle.std.specs.Prelude.{◌≡◌, ℕ, true, false, List, [], ◌∷◌, ◌++◌, length, Ok, Err}
use Rattle.lexing.specs.Tokens.{Lexeme, Refusal}
use Rattle.lexing.specs.Texts.{tokens_of}
use Rattle.lexing.specs.Numbers.{question_number}
use Rattle.language.specs.Syntax.{Fun, Script}
use Rattle.language.specs.Verdict.{Refused}
use Rattle.language.specs.Spelling.{Spelled, Fits, Matches, Spells, spell}
use Rattle.language.specs.Nesting.{shallow, shallows, most_blocks, most_lists, Within}
use Rattle.language.specs.Reading.{here, reading}

-- a token list spells at most one script
abbrev pub SpellsOne : Type 0
SpellsOne = (ts : List Lexeme) (s s' : Script) → Spells ts s → Spells ts s' → s ≡ s'

-- a text is read as a script exactly where its tokens are the script's spelling and the script keeps to the nesting limits
abbrev pub ReadsSpelled : Type 0
ReadsSpelled = (text : List ℕ) (s : Script) →
    (reading text ≡ Ok s → (ts : List Lexeme) × (tokens_of text ≡ Ok ts) × Spells ts s × Within s)
    × ((ts : List Lexeme) → tokens_of text ≡ Ok ts → Spells ts s → Within s → reading text ≡ Ok s)

-- tokens begin the spelling of some script, `next` is what comes then, and no block and no list that the tokens open nests too deep
pub record Begun (before : List Lexeme) (next : List Spelled) : Type 0 where
  pub one : Fun
  pub others : List Fun
  pub entries : List Spelled
  pub spelled : spell (one ∷ others) ≡ entries ++ next
  pub fit : Matches before entries
  pub fine : shallows most_blocks most_lists entries ≡ true
  pub more : List Lexeme
  pub goes_on : Matches more next

-- the next token, or the end, cannot continue: no script's spelling begins so, or is that
abbrev pub Stops : List Lexeme → List Lexeme → Type 0
Stops before [] = (s : Script) → Spells before s → ⊥
Stops before (t ∷ after) = (s : Script) (more : List Lexeme) → Spells (before ++ (t ∷ more)) s → ⊥

-- at a place of a text the grammar cannot be continued
pub record CannotGoOn (text : List ℕ) (place : ℕ) : Type 0 where
  pub before : List Lexeme
  pub after : List Lexeme
  pub next : List Spelled
  pub are : tokens_of text ≡ Ok (before ++ after)
  pub at : place ≡ here (length text) after
  pub begun : Begun before next
  pub stops : Stops before after

-- at a place of a text stands a token that can continue the grammar and opens a block or a list that nests too deep, the first that does
pub record TooDeep (text : List ℕ) (place : ℕ) : Type 0 where
  pub before : List Lexeme
  pub token : Lexeme
  pub after : List Lexeme
  pub entry : Spelled
  pub next : List Spelled
  pub are : tokens_of text ≡ Ok (before ++ (token ∷ after))
  pub at : place ≡ token.place
  pub begun : Begun before (entry ∷ next)
  pub fits : Fits entry token
  pub deep : shallow most_blocks most_lists entry ≡ false
  pub outside : (s : Script) (more : List Lexeme) → Spells (before ++ (token ∷ more)) s → Within s → ⊥

-- why a text is refused: by a question of its tokens, by 6 or by 7
pub data RefusedFor (text : List ℕ) : Refused → Type 0 where
  tokens : (r : Refusal) → tokens_of text ≡ Err r → RefusedFor text (record { number = question_number r.question; place = r.place })
  cannot_go_on : {p : ℕ} → CannotGoOn text p → RefusedFor text (record { number = 6; place = p })
  too_deep : {p : ℕ} → TooDeep text p → RefusedFor text (record { number = 7; place = p })

-- whatever reading refuses, it refuses for that
abbrev pub RefusesRightly : Type 0
RefusesRightly = (text : List ℕ) (e : Refused) → reading text ≡ Err e → RefusedFor text e

-- and no text is refused for two questions, or at two places
abbrev pub RefusedOnce : Type 0
RefusedOnce = (text : List ℕ) (e e' : Refused) → RefusedFor text e → RefusedFor text e' → e ≡ e'
