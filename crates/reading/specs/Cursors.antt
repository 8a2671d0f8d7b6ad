-- What a cursor has before it, and how its steps are read.
use Rattle.std.specs.Prelude.{◌≡◌, ℕ, ◌+◌, ◌<◌, List, [], ◌∷◌, ◌++◌, length, Some, Ok, Err, codes, Result, MatchResult}
use Rattle.lexing.specs.declared.token.Kind.{Kind}
use Rattle.lexing.specs.declared.fault.Fault.{Fault}
use Rattle.lexing.specs.Numbers.{question_number}
use Rattle.lexing.specs.Tokens.{Lexeme}
use Rattle.language.specs.Verdict.{Refused}
use Rattle.language.specs.Syntax.{Ident, Atom}
use Rattle.language.specs.Reading.{Reader, on, give, refuse, rest, then, mark_of, name_of, atom_in, atom_of}
use Rattle.draft.specs.declared.command.Command.{Command}
use Rattle.draft.specs.Items.{Item, item, items, items_atom}
use Rattle.reading.specs.declared.cursor.Cursor.{Cursor}
use Rattle.reading.specs.Standing.{tokens_at}

-- the cursor's token
abbrev pub token_of : Cursor → Lexeme
token_of c = record { kind = c.kind; place = c.place; bytes = c.bytes.now }

-- a fault as the answer of reading has it
abbrev pub refused : Fault → Refused
refused e = record { number = question_number e.question; place = e.place }

-- the tokens from the cursor's own on
abbrev pub ahead : Cursor → List Lexeme
ahead c = tokens_at (token_of c) c.rest.now

-- where the cursor's text ends
abbrev pub end_of : Cursor → ℕ
end_of c = length c.text.now

-- a cursor in the same text with the same table
pub record Alike (c d : Cursor) : Type 0 where
  pub text : d.text.now ≡ c.text.now
  pub same : d.table.ghost_name ≡ c.table.ghost_name
  pub table : d.table.now ≡ c.table.now

-- the cursor behind the token of another, or at the end with it
pub record Skips (c d : Cursor) : Type 0 where
  pub like : Alike c d
  pub rest : rest (ahead c) ≡ ahead d

-- a cursor nearer to the end
pub record Next (c d : Cursor) : Type 0 where
  pub like : Alike c d
  pub nearer : length (ahead d) < length (ahead c)

-- the keyword or the mark that has to stand there
abbrev pub word_of : ℕ → Kind → List ℕ → Reader ℕ
word_of end k w = on end k w give (refuse end 6)

-- what a part of the grammar that the text has from a cursor on is read as, with the cursor behind it
abbrev pub Passes : {A : Type 0} → Reader A → A → Cursor → Cursor → Result (Unit {0}) Fault → Type 0
Passes f x c d r = MatchResult r (λ _. Next c d × (f (ahead c) ≡ Ok (x, ahead d))) (λ e. f (ahead c) ≡ Err (refused e))

-- the atom that a command says, and the cursor's token is
pub record AtomSaid (c : Cursor) (command : Command) : Type 0 where
  pub tree : Atom
  pub is : atom_in (token_of c) ≡ Some tree
  pub told : (after : List Item) → item c.text.now command ∷ after ≡ items_atom tree after

-- the same, with the cursor behind it
pub record AtomRead (c : Cursor) (command : Command) (d : Cursor) : Type 0 where
  pub tree : Atom
  pub reads : atom_of (end_of c) (ahead c) ≡ Ok (tree, ahead d)
  pub told : (after : List Item) → item c.text.now command ∷ after ≡ items_atom tree after

-- one command more in the table, and the cursor where it was
pub record Pushed (command : Command) (c d : Cursor) : Type 0 where
  pub text : d.text.now ≡ c.text.now
  pub same : d.table.ghost_name ≡ c.table.ghost_name
  pub ahead : ahead d ≡ ahead c
  pub items : items d.table.now ≡ items c.table.now ++ item c.text.now command ∷ []
  pub long : length d.table.now.text.items ≡ length c.table.now.text.items
  pub count : length d.table.now.commands.items ≡ length c.table.now.commands.items + 1

-- a region behind `@`, and the opening parenthesis
abbrev pub opened_of : ℕ → Reader Ident
opened_of end ts = then (mark_of end (codes "@") ts) λ _ ts. then (name_of end ts) λ r ts. then (mark_of end (codes "(") ts) λ _. give r
