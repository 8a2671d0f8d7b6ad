-- How deep a block or a list nests is told by the tokens before it, whichever script they begin.
use Rattle.std.proofs.Common.{◌≡◌, ℕ, zero, suc, Bool, true, false, leb, List, [], ◌∷◌, ◌++◌, codes, sym, refl, ap, ◌∙◌, subst}
use Rattle.lexing.specs.declared.token.Kind.{Kind}
use Rattle.lexing.specs.declared.token.Kind.TheVariants.{End, Name, Keyword, Numeral, Mark}
use Rattle.lexing.specs.Tokens.{Lexeme, same_bytes}
use Rattle.language.specs.Syntax.{Ident, Ty, int, list, Atom, var, num, Op, add, sub, mul, div, rem, eq, lt, Right, atom, oper, nil, cons, call, test, region, split, Block, last, bind, print, Param, Script}
use Rattle.language.specs.Spelling.{Spelled, word, word_at, block_at, list_at, name, number, mark, Fits, Matches, none, more, op_word, spell_name, spell_atom, spell_commas, spell_regions, spell_elements, spell_type, spell_right, spell_inside, spell_param, spell}
use Rattle.language.specs.Nesting.{shallow, most_blocks, most_lists}

-- the blocks that are open, and the lists around the type that comes
pub record Open : Type 0 where
  pub blocks : ℕ
  pub lists : ℕ

abbrev pub opened : ℕ → ℕ → Open
opened b l = record { blocks = b; lists = l }

abbrev less : ℕ → ℕ
less zero = zero
less (suc n) = n

-- what is open after a token
abbrev pub after : Kind → List ℕ → Open → Open
after End w o = o
after Name w o = o
after Numeral w o = o
after Mark w o = elim (same_bytes w (codes "{")) [
  | true ↦ opened (suc o.blocks) o.lists
  | false ↦ elim (same_bytes w (codes "}")) [ true ↦ opened (less o.blocks) o.lists | false ↦ o ]
]
after Keyword w o = elim (same_bytes w (codes "list")) [
  | true ↦ opened o.blocks (suc o.lists)
  | false ↦ elim (same_bytes w (codes "int")) [ true ↦ opened o.blocks 0 | false ↦ o ]
]

-- whether a token may stand there
abbrev pub allowed : Kind → List ℕ → Open → Bool
allowed End w o = true
allowed Name w o = true
allowed Numeral w o = true
allowed Mark w o = elim (same_bytes w (codes "{")) [ true ↦ leb (suc o.blocks) most_blocks | false ↦ true ]
allowed Keyword w o = elim (same_bytes w (codes "list")) [ true ↦ leb (suc o.lists) most_lists | false ↦ true ]

abbrev kind_of : Spelled → Kind
kind_of (word k w) = k
kind_of (word_at p w) = Keyword
kind_of (block_at d) = Mark
kind_of (list_at d) = Keyword
kind_of (name x) = Name
kind_of (number p n) = Numeral

abbrev bytes_of : Spelled → List ℕ
bytes_of (word k w) = w
bytes_of (word_at p w) = w
bytes_of (block_at d) = codes "{"
bytes_of (list_at d) = codes "list"
bytes_of (name x) = x.name
bytes_of (number p n) = []

-- an entry's token, by what is told of it
module _ {A : Type 0} (f : Kind → List ℕ → A) (numerals : (v w : List ℕ) → f Numeral v ≡ f Numeral w) where
  by_entry : (i : Spelled) (t : Lexeme) → Fits i t → f t.kind t.bytes ≡ f (kind_of i) (bytes_of i)
  by_entry (word k w) t h = λ j. f (h.0 j) (h.1 j)
  by_entry (word_at p w) t h = λ j. f (h.1.0 j) (h.1.1 j)
  by_entry (block_at d) t h = λ j. f (h.0 j) (h.1 j)
  by_entry (list_at d) t h = λ j. f (h.0 j) (h.1 j)
  by_entry (name x) t h = λ j. f (h.1.0 j) (h.1.1 j)
  by_entry (number p n) t h = ap (λ k. f k t.bytes) h.1 ∙ numerals t.bytes []

-- entries that keep to the limits exactly where their tokens do
pub data Exact : Open → List Spelled → Type 0 where
  done : {o : Open} → Exact o []
  keeps : {o : Open} {i : Spelled} {is : List Spelled} → shallow most_blocks most_lists i ≡ allowed (kind_of i) (bytes_of i) o → Exact (after (kind_of i) (bytes_of i) o) is → Exact o (i ∷ is)

exact_atom : (o : Open) (a : Atom) (js : List Spelled) → Exact o js → Exact o (spell_atom a js)
exact_atom o (var x) js h = keeps refl h
exact_atom o (num p n) js h = keeps refl h

exact_type : (b l : ℕ) (T : Ty) (js : List Spelled) → Exact (opened b 0) js → Exact (opened b l) (spell_type (suc l) T js)
exact_type b l int js h = keeps refl h
exact_type b l (list r T) js h = keeps refl (keeps refl (keeps refl (keeps refl (exact_type b (suc l) T (mark (codes ")") ∷ js) (keeps refl h)))))

exact_commas : {A : Type 0} (o : Open) (sp : A → List Spelled → List Spelled) → ((x : A) (js : List Spelled) → Exact o js → Exact o (sp x js))
    → (x : A) (xs : List A) (js : List Spelled) → Exact o js → Exact o (spell_commas sp x xs js)
exact_commas o sp k x [] js h = k x js h
exact_commas o sp k x (y ∷ ys) js h = k x _ (keeps refl (exact_commas o sp k y ys js h))

exact_regions : (o : Open) (rs : List Ident) (js : List Spelled) → Exact o js → Exact o (spell_regions rs js)
exact_regions o [] js h = h
exact_regions o (r ∷ rs) js h = keeps refl (exact_commas o spell_name (λ x js h. (keeps refl h)) r rs _ (keeps refl h))

exact_elements : {A : Type 0} (o : Open) (sp : A → List Spelled → List Spelled) → ((x : A) (js : List Spelled) → Exact o js → Exact o (sp x js))
    → (xs : List A) (js : List Spelled) → Exact o js → Exact o (spell_elements sp xs js)
exact_elements o sp k [] js h = keeps refl h
exact_elements o sp k (x ∷ xs) js h = exact_commas o sp k x xs _ (keeps refl h)

exact_oper : (o : Open) (p : ℕ) (w : Op) (js : List Spelled) → Exact o js → Exact o (word_at p (op_word w) ∷ js)
exact_oper o p add js h = keeps refl h
exact_oper o p sub js h = keeps refl h
exact_oper o p mul js h = keeps refl h
exact_oper o p div js h = keeps refl h
exact_oper o p rem js h = keeps refl h
exact_oper o p eq js h = keeps refl h
exact_oper o p lt js h = keeps refl h

mutual
  exact_right : (b : ℕ) (r : Right) (js : List Spelled) → Exact (opened b 0) js → Exact (opened b 0) (spell_right b r js)
  exact_right b (atom a) js h = exact_atom _ a js h
  exact_right b (oper p o x y) js h = exact_oper _ p o _ (exact_atom _ x _ (exact_atom _ y _ h))
  exact_right b (nil p r T) js h = keeps refl (keeps refl (keeps refl (keeps refl (exact_type b 0 T _ (keeps refl h)))))
  exact_right b (cons p r x y) js h = keeps refl (keeps refl (keeps refl (keeps refl (exact_atom _ x _ (keeps refl (exact_atom _ y _ (keeps refl h)))))))
  exact_right b (call p f rs xs) js h = keeps refl (keeps refl (exact_regions _ rs _ (keeps refl (exact_elements _ spell_atom (exact_atom _) xs _ h))))
  exact_right b (test p x c d) js h = keeps refl (exact_atom _ x _ (keeps refl (exact_inside (suc b) c _ (keeps refl (keeps refl (exact_inside (suc b) d _ h))))))
  exact_right b (region p r c) js h = keeps refl (keeps refl (keeps refl (exact_inside (suc b) c _ h)))
  exact_right b (split p x c y z d) js h = keeps refl (exact_atom _ x _ (keeps refl (exact_inside (suc b) c _ (keeps refl (keeps refl (keeps refl (keeps refl (exact_inside (suc b) d _ h))))))))

  exact_inside : (b : ℕ) (c : Block) (js : List Spelled) → Exact (opened (less b) 0) js → Exact (opened b 0) (spell_inside b c js)
  exact_inside b (last a) js h = exact_atom _ a _ (keeps refl h)
  exact_inside b (bind x r c) js h = keeps refl (keeps refl (keeps refl (exact_right b r _ (keeps refl (exact_inside b c _ h)))))
  exact_inside b (print p a c) js h = keeps refl (exact_atom _ a _ (keeps refl (exact_inside b c _ h)))

exact_param : (b : ℕ) (p : Param) (js : List Spelled) → Exact (opened b 0) js → Exact (opened b 0) (spell_param p js)
exact_param b p js h = keeps refl (keeps refl (exact_type b 0 p.type js h))

pub exact : (s : Script) → Exact (opened 0 0) (spell s)
exact [] = done
exact (f ∷ fs) =
    keeps refl (keeps refl (exact_regions _ f.regions _ (keeps refl (exact_elements _ spell_param (exact_param 0) f.params _ (keeps refl (exact_type 0 0 f.result _ (keeps refl (exact_inside 1 f.body _ (exact fs)))))))))

-- two spellings that begin with the same tokens nest alike
pub same-depth : (o : Open) {ts : List Lexeme} {es es' : List Spelled} (ns ns' : List Spelled) (i i' : Spelled) (t : Lexeme) → Matches ts es → Matches ts es'
    → Exact o (es ++ (i ∷ ns)) → Exact o (es' ++ (i' ∷ ns')) → Fits i t → Fits i' t → shallow most_blocks most_lists i ≡ shallow most_blocks most_lists i'
same-depth o ns ns' i i' t none none (keeps x _) (keeps y _) f g =
    x ∙ sym (by_entry (λ k w. allowed k w o) (λ v w. refl) i t f) ∙ by_entry (λ k w. allowed k w o) (λ v w. refl) i' t g ∙ sym y
same-depth o ns ns' i i' t (more {t = u} {i = j} {is = js} a m) (more {i = j'} {is = js'} a' m') (keeps _ x) (keeps _ y) f g =
    same-depth (after u.kind u.bytes o) ns ns' i i' t m m'
    (subst (λ p. Exact p (js ++ (i ∷ ns))) (sym (by_entry (λ k w. after k w o) (λ v w. refl) j u a)) x)
    (subst (λ p. Exact p (js' ++ (i' ∷ ns'))) (sym (by_entry (λ k w. after k w o) (λ v w. refl) j' u a')) y) f g
