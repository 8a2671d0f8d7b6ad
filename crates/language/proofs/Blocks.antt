-- What the readers of right sides, blocks and functions tell.
use Rattle.std.proofs.Common.{◌≡◌, ℕ, zero, suc, ◌+◌, ◌<◌, ◌≤◌, List, [], ◌∷◌, Err, codes, sym, refl, ap, append_assoc, arith, le-leb}
use borrow.Author.Tests.{lt-leb}
use Rattle.lexing.specs.declared.token.Kind.TheVariants.{Name, Keyword, Mark}
use Rattle.lexing.specs.Tokens.{Lexeme}
use Rattle.language.specs.Syntax.{Ident, Ty, Atom, var, num, Op, add, sub, mul, div, rem, eq, lt, Right, atom, oper, nil, cons, call, test, region, split, Block, last, bind, print, Param, Fun}
use Rattle.language.specs.Spelling.{Spelled, word_at, block_at, key, mark, name, none, more, op_word, spell_name, spell_atom, spell_elements, spell_type, spell_right, spell_inside, spell_block, spell_param, spell_fun}
use Rattle.language.specs.Reading.{Reader, refuse, on, too_deep, operands, right_of, inside, block_of, param_of, fun_of, type_of}
use Rattle.language.proofs.Told.{Lang, Seq, seq, Just, just, After, after, Spelt, Live, Frame, Law, spent, widen, roomless, give_law, then_law, refuse_law, on_to, forbid_to}
use Rattle.language.proofs.Parts.{name_law, atom_law, mark_law, key_law, spell-head, regions_law, elements_law, type_law, tok}

abbrev N : Lang Ident
N = Spelt spell_name

abbrev A : Lang Atom
A = Spelt spell_atom

abbrev ! : List ℕ → Lang ℕ
! w = After (λ _. mark w) Just

abbrev K : List ℕ → Lang ℕ
K w = After (λ _. key w) Just

pub atom-some : (a : Atom) (js : List Spelled) → spell_atom a js ≡ [] → ⊥
atom-some (var x) js e = let z : ◌≡◌ {A = ℕ} 0 1 = cc in omega arith
atom-some (num p n) js e = let z : ◌≡◌ {A = ℕ} 0 1 = cc in omega arith

-- each right side, from its parts
module _ (d : ℕ) where
  abbrev R : Lang Right
  R = Spelt (spell_right d)

  abbrev B : Lang Block
  B = Spelt (spell_block (suc d))

  atom_into : (r : Right) (is : List Spelled) → Seq A (λ a. Just (atom a)) r is → R r is
  atom_into _ _ (seq h just) js = simp append_assoc (simp h)

  oper_into : (o : Op) (p : ℕ) (r : Right) (is : List Spelled) → Seq A (λ a. Seq A (λ b. Just (oper p o a b))) r is → R r (word_at p (op_word o) ∷ is)
  oper_into o p _ _ (seq h (seq k just)) js = simp append_assoc (simp (h, k))

  nil_into : (p : ℕ) (r : Right) (is : List Spelled) → Seq (! (codes "@")) (λ _. Seq N (λ r. Seq (! (codes "(")) (λ _. Seq (Spelt (spell_type 1)) (λ T. Seq (! (codes ")")) (λ _. Just (nil p r T)))))) r is → R r (word_at p (codes "nil") ∷ is)
  nil_into p _ _ (seq (after just) (seq h (seq (after just) (seq k (seq (after just) just))))) js = simp append_assoc (simp (h, k))

  cons_into : (p : ℕ) (r : Right) (is : List Spelled)
      → Seq (! (codes "@")) (λ _. Seq N (λ r. Seq (! (codes "(")) (λ _. Seq A (λ a. Seq (! (codes ",")) (λ _. Seq A (λ b. Seq (! (codes ")")) (λ _. Just (cons p r a b)))))))) r is → R r (word_at p (codes "cons") ∷ is)
  cons_into p _ _ (seq (after just) (seq h (seq (after just) (seq k (seq (after just) (seq l (seq (after just) just))))))) js = simp append_assoc (simp (h, k, l))

  call_into : (p : ℕ) (r : Right) (is : List Spelled) → Seq N (λ g. Seq (Spelt spell-head) (λ rs. Seq (Spelt (spell_elements spell_atom)) (λ args. Just (call p g rs args)))) r is → R r (word_at p (codes "call") ∷ is)
  call_into p _ _ (seq h (seq k (seq l just))) js = simp append_assoc (simp (h, k, l))

  if_into : (p : ℕ) (r : Right) (is : List Spelled) → Seq A (λ a. Seq B (λ b. Seq (K (codes "else")) (λ _. Seq B (λ c. Just (test p a b c))))) r is → R r (word_at p (codes "if") ∷ is)
  if_into p _ _ (seq h (seq k (seq (after just) (seq l just)))) js = simp append_assoc (simp (h, k, l))

  region_into : (p : ℕ) (r : Right) (is : List Spelled) → Seq N (λ r. Seq B (λ b. Just (region p r b))) r is → R r (word_at p (codes "region") ∷ is)
  region_into p _ _ (seq h (seq k just)) js = simp append_assoc (simp (h, k))

  case_into : (p : ℕ) (r : Right) (is : List Spelled)
      → Seq A (λ a. Seq B (λ b. Seq (K (codes "else")) (λ _. Seq N (λ h. Seq N (λ t. Seq B (λ c. Just (split p a b h t c))))))) r is → R r (word_at p (codes "case") ∷ is)
  case_into p _ _ (seq h (seq k (seq (after just) (seq l (seq m (seq n just)))))) js = simp append_assoc (simp (h, k, l, m, n))

  right_never : (r : Right) → R r [] → ⊥
  right_never (atom a) h = atom-some a [] (sym (h []))
  right_never (oper p o a b) h = let e = h [] in let z : ◌≡◌ {A = ℕ} 0 1 = cc in omega arith
  right_never (nil p r T) h = let e = h [] in let z : ◌≡◌ {A = ℕ} 0 1 = cc in omega arith
  right_never (cons p r a b) h = let e = h [] in let z : ◌≡◌ {A = ℕ} 0 1 = cc in omega arith
  right_never (call p g rs args) h = let e = h [] in let z : ◌≡◌ {A = ℕ} 0 1 = cc in omega arith
  right_never (test p a b c) h = let e = h [] in let z : ◌≡◌ {A = ℕ} 0 1 = cc in omega arith
  right_never (region p r b) h = let e = h [] in let z : ◌≡◌ {A = ℕ} 0 1 = cc in omega arith
  right_never (split p a b x y c) h = let e = h [] in let z : ◌≡◌ {A = ℕ} 0 1 = cc in omega arith

module _ {f : Frame} {T T' : Reader Ty} {Q Q' : Reader Block} (d room room' : ℕ) (more_Room : room ≤ room')
    (type : (n : ℕ) → Law f n T T' (Spelt (spell_type 1))) (block : Law f room Q Q' (Spelt (spell_block (suc d)))) where
  -- a keyword and what stands behind it, or another way
  either : {X X' : ℕ → Reader Right} {S S' : Reader Right} {L : ℕ → Lang Right} (w : List ℕ) → ((p : ℕ) (r : Right) (is : List Spelled) → L p r is → Spelt (spell_right d) r (word_at p w ∷ is))
      → ((p : ℕ) → Law f room (X p) (X' p) (L p)) → Law f room S S' (Spelt (spell_right d)) → Law f room (on f.end Keyword w X S) (on f.end Keyword w X' S') (Spelt (spell_right d))
  either w into law other = on_to Keyword w (Spelt (spell_right d)) (right_never d) {room = room} (omega arith) (λ p. word_at p w) (λ t is. (refl, is)) (λ _. refl) into law other

  operands_law : (o : Op) (p : ℕ) → Law f room (operands f.end o p) (operands f.end o p) (Seq A (λ a. Seq A (λ b. Just (oper p o a b))))
  operands_law o p = then_law atom_law λ a. then_law atom_law λ b. give_law (oper p o a b)

  pub right_law : Law f room (right_of f.end room T Q) (right_of f.end room' T' Q') (Spelt (spell_right d))
  right_law =
      either (codes "add") (oper_into d add) (operands_law add)
      (either (codes "sub") (oper_into d sub) (operands_law sub)
      (either (codes "mul") (oper_into d mul) (operands_law mul)
      (either (codes "div") (oper_into d div) (operands_law div)
      (either (codes "rem") (oper_into d rem) (operands_law rem)
      (either (codes "eq") (oper_into d eq) (operands_law eq)
      (either (codes "lt") (oper_into d lt) (operands_law lt)
      (either (codes "nil") (nil_into d) (λ p. then_law (mark_law (codes "@")) λ _. then_law name_law λ r. then_law (mark_law (codes "(")) λ _. then_law (type room) λ T. then_law (mark_law (codes ")")) λ _. give_law (nil p r T))
      (either (codes "cons") (cons_into d) (λ p. then_law (mark_law (codes "@")) λ _. then_law name_law λ r. then_law (mark_law (codes "(")) λ _. then_law atom_law λ a. then_law (mark_law (codes ",")) λ _. then_law atom_law λ b. then_law (mark_law (codes ")")) λ _. give_law (cons p r a b))
      (either (codes "call") (call_into d) (λ p. then_law name_law λ g. then_law (regions_law room room' more_Room) λ rs. then_law (elements_law atom-some (λ n. atom_law) room room' more_Room) λ args. give_law (call p g rs args))
      (either (codes "if") (if_into d) (λ p. then_law atom_law λ a. then_law block λ b. then_law (key_law (codes "else")) λ _. then_law block λ c. give_law (test p a b c))
      (either (codes "region") (region_into d) (λ p. then_law name_law λ r. then_law block λ b. give_law (region p r b))
      (either (codes "case") (case_into d) (λ p. then_law atom_law λ a. then_law block λ b. then_law (key_law (codes "else")) λ _. then_law name_law λ x. then_law name_law λ y. then_law block λ c. give_law (split p a b x y c))
      (widen (atom_into d) (then_law atom_law λ a. give_law (atom a)))))))))))))))

-- the inside of a block, from its parts
module _ (d : ℕ) where
  abbrev I : Lang Block
  I = Spelt (spell_inside d)

  let_into : (p : ℕ) (b : Block) (is : List Spelled) → Seq N (λ x. Seq (! (codes "=")) (λ _. Seq (R d) (λ r. Seq (! (codes ";")) (λ _. Seq I (λ b. Just (bind x r b)))))) b is → I b (key (codes "let") ∷ is)
  let_into p _ _ (seq h (seq (after just) (seq k (seq (after just) (seq l just))))) js = simp append_assoc (simp (h, k, l))

  print_into : (p : ℕ) (b : Block) (is : List Spelled) → Seq A (λ a. Seq (! (codes ";")) (λ _. Seq I (λ b. Just (print p a b)))) b is → I b (word_at p (codes "print") ∷ is)
  print_into p _ _ (seq h (seq (after just) (seq k just))) js = simp append_assoc (simp (h, k))

  last_into : (b : Block) (is : List Spelled) → Seq A (λ a. Seq (! (codes "}")) (λ _. Just (last a))) b is → I b is
  last_into _ _ (seq h (seq (after just) just)) js = simp append_assoc (simp h)

  inside_never : (b : Block) → I b [] → ⊥
  inside_never (last a) h = atom-some a _ (sym (h []))
  inside_never (bind x r b) h = let e = h [] in let z : ◌≡◌ {A = ℕ} 0 1 = cc in omega arith
  inside_never (print p a b) h = let e = h [] in let z : ◌≡◌ {A = ℕ} 0 1 = cc in omega arith

  inside_live : Live I
  inside_live =
      let x : Ident = record { place = 0; name = [] } in
      record { value = last (var x); entries = name x ∷ mark (codes "}") ∷ []; tokens = tok Name [] ∷ tok Mark (codes "}") ∷ []; spelled = λ js. refl; fit = more (refl, (refl, refl)) (more (refl, refl) none) }

  block_into : (b : Block) (is : List Spelled) → I b is → Spelt (spell_block d) b (block_at d ∷ is)
  block_into b is h js = ap (λ (ks : List Spelled). block_at d ∷ ks) (h js)

  block_never : (b : Block) → Spelt (spell_block d) b [] → ⊥
  block_never b h = let e = h [] in let z : ◌≡◌ {A = ℕ} 0 1 = cc in omega arith

  block_live : Live (Spelt (spell_block d))
  block_live =
      let l = inside_live in
      record { value = l.value; entries = block_at d ∷ l.entries; tokens = tok Mark (codes "{") ∷ l.tokens; spelled = block_into l.value l.entries l.spelled; fit = more (refl, refl) l.fit }

module _ {f : Frame} {X X' : Reader Right} (d room : ℕ) (right : Law f room X X' (Spelt (spell_right d))) where
  pub inside_law : (n n' : ℕ) → n ≤ n' → n ≤ room → Law f n (inside f.end X n) (inside f.end X' n') (Spelt (spell_inside d))
  inside_law zero n' h k = record { told = λ ts. spent (omega arith); live = inside_live d }
  inside_law (suc n) zero h k = absurd (omega arith)
  inside_law (suc n) (suc n') h k =
      on_to Keyword (codes "let") (Spelt (spell_inside d)) (inside_never d) {room = n} (omega arith) (λ _. key (codes "let")) (λ t is. is) (λ _. refl) (let_into d)
      (λ _. then_law name_law λ x. then_law (mark_law (codes "=")) λ _. then_law (roomless {room = room} (omega arith) right) λ r. then_law (mark_law (codes ";")) λ _. then_law (inside_law n n' (omega arith) (omega arith)) λ b. give_law (bind x r b))
      (on_to Keyword (codes "print") (Spelt (spell_inside d)) (inside_never d) {room = n} (omega arith) (λ p. word_at p (codes "print")) (λ t is. (refl, is)) (λ _. refl) (print_into d)
      (λ p. then_law atom_law λ a. then_law (mark_law (codes ";")) λ _. then_law (inside_law n n' (omega arith) (omega arith)) λ b. give_law (print p a b))
      (widen (last_into d) (then_law atom_law λ a. then_law (mark_law (codes "}")) λ _. give_law (last a))))

-- a block that nests too deep
module _ {f : Frame} where
  sunk : (room : ℕ) {X : ℕ → Reader Block} (d : ℕ) → f.blocks < d → (f.Same → (p : ℕ) (ts : List Lexeme) → X p ts ≡ Err (record { number = 7; place = p }))
      → Law f room (on f.end Mark (codes "{") too_deep (refuse f.end 6)) (on f.end Mark (codes "{") X (refuse f.end 6)) (Spelt (spell_block d))
  sunk room d h same = forbid_to Mark (codes "{") (Spelt (spell_block d)) (block_never d) (block_at d) (λ t is. is) (lt-leb d f.blocks h) (block_into d) (inside_live d) same (refuse_law (block_live d))

param_into : (p : Param) (is : List Spelled) → Seq N (λ x. Seq (! (codes ":")) (λ _. Seq (Spelt (spell_type 1)) (λ T. Just (record { name = x; type = T })))) p is → Spelt spell_param p is
param_into _ _ (seq h (seq (after just) (seq k just))) js = simp append_assoc (simp (h, k))

param_some : (p : Param) (js : List Spelled) → spell_param p js ≡ [] → ⊥
param_some p js e = let z : ◌≡◌ {A = ℕ} 0 1 = cc in omega arith

fun_into : (g : Fun) (is : List Spelled)
    → Seq (K (codes "fun")) (λ _. Seq N (λ x. Seq (Spelt spell-head) (λ rs. Seq (Spelt (spell_elements spell_param)) (λ ps. Seq (! (codes ":")) (λ _. Seq (Spelt (spell_type 1)) (λ T. Seq (Spelt (spell_block 1)) (λ b.
    Just (record { name = x; regions = rs; params = ps; result = T; body = b })))))))) g is → Spelt spell_fun g is
fun_into _ _ (seq (after just) (seq h (seq k (seq l (seq (after just) (seq m (seq n just))))))) js = simp append_assoc (simp (h, k, l, m, n))

-- the second readers have more room and allow at least as many lists
module _ {f : Frame} (room room' lists' : ℕ) (more_Room : room ≤ room') (more-lists : f.lists ≤ lists') (same_lists : f.Same → f.lists ≡ lists') where
  pub types_law : (n : ℕ) → Law f n (type_of f.end f.lists) (type_of f.end lists') (Spelt (spell_type 1))
  types_law n = type_law f.lists lists' 1 more-lists same_lists (omega arith)

  pub block_law : (b b' d : ℕ) → b ≤ b' → (f.Same → b ≡ b') → b + d ≡ suc f.blocks → Law f room (block_of f.end room f.lists b) (block_of f.end room' lists' b') (Spelt (spell_block d))
  block_law zero zero d h same e = sunk room d (omega arith) (λ s p ts. refl)
  block_law zero (suc b') d h same e =
      sunk room {X = λ _. inside f.end (right_of f.end room' (type_of f.end lists') (block_of f.end room' lists' b')) room'} d (omega arith) (λ s p ts. absurd (let z = same s in omega arith))
  block_law (suc b) zero d h same e = absurd (omega arith)
  block_law (suc b) (suc b') d h same e =
      on_to Mark (codes "{") (Spelt (spell_block d)) (block_never d) {room = room} (omega arith) (λ _. block_at d) (λ t is. is) (λ _. le-leb d f.blocks (omega arith)) (λ _. block_into d)
      (λ _. inside_law d room (right_law d room room' more_Room types_law (block_law b b' (suc d) (omega arith) (λ s. let z = same s in omega arith) (omega arith))) room room' more_Room (omega arith))
      (refuse_law (block_live d))

  param_law : (n : ℕ) → Law f n (param_of f.end f.lists) (param_of f.end lists') (Spelt spell_param)
  param_law n = widen param_into (then_law name_law λ x. then_law (mark_law (codes ":")) λ _. then_law (types_law n) λ T. give_law (record { name = x; type = T }))

  pub fun_law : (blocks' : ℕ) → f.blocks ≤ blocks' → (f.Same → f.blocks ≡ blocks') → Law f room (fun_of f.end room f.lists f.blocks) (fun_of f.end room' lists' blocks') (Spelt spell_fun)
  fun_law blocks' h same = widen fun_into (then_law (key_law (codes "fun")) λ _. then_law name_law λ x. then_law (regions_law room room' more_Room) λ rs.
      then_law (elements_law param_some param_law room room' more_Room) λ ps. then_law (mark_law (codes ":")) λ _. then_law (types_law room) λ T.
      then_law (block_law f.blocks blocks' 1 h same (omega arith)) λ b. give_law (record { name = x; regions = rs; params = ps; result = T; body = b }))
