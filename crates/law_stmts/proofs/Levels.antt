-- A simple statement that begins with no type, name and `=` is no local.
use Rattle.std.proofs.Common.{◌≡◌, ◌⊎◌, inl, inr, ⊎_elim, ℕ, ◌+◌, Bool, true, false, List, [], ◌∷◌, ◌++◌, length, refl, sym, ap, subst, ◌∙◌, codes}
use Rattle.std.specs.Prelude.{None, ◌||◌}
use Rattle.std.proofs.lemmas.Bool.{false≢true}
use Prim.Native.String.{String}
use Rattle.def_token.specs.Lexical.{Token}
use Rattle.def_tree.specs.ExprTree.{ExprTree}
use Rattle.def_tree.specs.Expressions.{TakesTypeArgs, IsPrimary, of_number, of_true, of_false, of_itself, of_name, of_generic, of_functional_cast, of_own_type, of_group, IsPostfix, of_primary, of_call, of_index, of_member, IsUnary, of_operator, of_cast, of_postfix, IsBinary, of_unary, of_operands, IsExpr, of_binary, of_condition}
use Rattle.def_tree.specs.Operator.{Operator, operators, operator_text, UnaryOperator, Minus, Plus, Not, Complement, unary_text, sign_at}
use Rattle.def_tree.specs.Symbol.{Symbol, Sign, symbol, is_sign, Is, IsName}
use Rattle.def_tree.specs.TypeTree.{TypeWord, word_text, TypeTree, TypeTrees}
use Rattle.def_tree.specs.Types.{IsPath, ended, dotted, IsType, of_word, of_name as type_of_name, of_generic as type_of_generic, IsTypeArgs, type_args, IsTypeList, last_type, more_types}
use Rattle.law_tree.proofs.Symbols.{is_sign-true}
use Rattle.def_reading.specs.Machine.{written}
use Rattle.law_types.proofs.AheadFaults.{args_go_by, meets}
use Rattle.law_types.proofs.AheadKept.{closed_none}
use Rattle.law_stmts.proofs.Declares.{joined_sign}
use Rattle.law_machine.proofs.MachineSigns.{operator_is}
use Rattle.law_machine.proofs.SignParts.{SignParts, one_token, greater, greater_equal, shift, sign_parts}
use Rattle.law_stmts.proofs.Spans.{in_type, Typed, here, typed, typed_then, path_typed, type_typed, args_typed, list_typed}
use Rattle.law_types.proofs.TypeStages.{Head, Closed}
use Rattle.law_tree.proofs.Words.{every_word}

-- the symbol is neither a comma nor a semicolon
abbrev parts' : Symbol → Bool
parts' s = is_sign "," s || is_sign ";" s

-- From the first tokens to the others commas and semicolons stand in brackets or type arguments alone.
data Level (stop : List Token) : List Token → Type 0 where
  stops : Level stop stop
  bracket : {t : Token} {ts : List Token} → Is "(" t → Level stop (t ∷ ts)
  other : {t : Token} {ts : List Token} → parts' (symbol t) ≡ false → Level stop ts → Level stop (t ∷ ts)
  takes : {ts mid : List Token} {args : TypeTrees} → TakesTypeArgs ts args mid → Level stop mid → Level stop ts

-- a token that is no such mark
of_sign : {stop ts : List Token} (t : Token) (s : Symbol) → symbol t ≡ s → parts' s ≡ false → Level stop ts → Level stop (t ∷ ts)
of_sign t s h no' l = other (ap parts' h ∙ no') l

-- words are no such marks
word_level : (word : TypeWord) → parts' (Sign (codes (word_text word))) ≡ false
word_level = every_word (λ word. parts' (Sign (codes (word_text word))) ≡ false) (refl, (refl, (refl, (refl, (refl, (refl, (refl, (refl, tt))))))))

-- operators before their operands are no such marks
unary_level : (operator : UnaryOperator) → parts' (Sign (codes (unary_text operator))) ≡ false
unary_level Minus = refl
unary_level Plus = refl
unary_level Not = refl
unary_level Complement = refl

-- operators are no such marks
operator_no : (a b : Bool) (t : Token) (op : Operator) → is_sign "," (symbol t) ≡ a → is_sign ";" (symbol t) ≡ b → sign_at (t ∷ []) ≡ (codes (operator_text op), []) → (a || b) ≡ false
operator_no true b t op h k sign =
    let comma : Is "," t = is_sign-true "," (symbol t) h in
    let found : written operator_text operators (sign_at (t ∷ [])).0 ≡ None = rw comma refl in
    let some = operator_is t [] [] op sign in absurd (cc)
operator_no false true t op h k sign =
    let semicolon : Is ";" t = is_sign-true ";" (symbol t) k in
    let found : written operator_text operators (sign_at (t ∷ [])).0 ≡ None = rw semicolon refl in
    let some = operator_is t [] [] op sign in absurd (cc)
operator_no false false t op h k sign = refl

-- signs that join another are no such marks
joined_no : (t p : Token) (sign : String) → is_sign sign (symbol p) ≡ true → parts' (Sign (codes sign)) ≡ false → parts' (symbol p) ≡ false
joined_no t p sign j h = ap parts' (is_sign-true sign (symbol p) j) ∙ h

-- the tokens of operators
operator_level : {stop : List Token} {t : Token} {after behind : List Token} {op : Operator} → SignParts t after op behind → Level stop behind → Level stop (t ∷ after)
operator_level {stop = stop} {t = t} {op = op} (one_token g no_end each is) k =
    other (operator_no (is_sign "," (symbol t)) (is_sign ";" (symbol t)) t op refl refl (each [])) (subst (Level stop) is k)
operator_level {stop = stop} {t = t} (greater g o is apart) k = of_sign t _ g refl (subst (Level stop) is k)
operator_level {stop = stop} {t = t} (greater_equal g p is j l o) k =
    subst (λ ts. Level stop (t ∷ ts)) (sym is) (of_sign t _ g refl (other (joined_no t p "=" (joined_sign t p "=" l) refl) k))
operator_level {stop = stop} {t = t} (shift g p is j l o) k =
    subst (λ ts. Level stop (t ∷ ts)) (sym is) (of_sign t _ g refl (other (joined_no t p ">" (joined_sign t p ">" j) refl) k))

mutual
  -- primaries
  primary_level : {stop tokens rest : List Token} {e : ExprTree} → IsPrimary tokens e rest → Level stop rest → Level stop tokens
  primary_level (of_number {token = t} h) l = of_sign t _ h refl l
  primary_level (of_true {token = t} h) l = of_sign t _ h refl l
  primary_level (of_false {token = t} h) l = of_sign t _ h refl l
  primary_level (of_itself {token = t} h) l = of_sign t _ h refl l
  primary_level (of_own_type {token = t} h) l = of_sign t _ h refl l
  primary_level (of_name {token = t} h n) l = of_sign t _ h refl l
  primary_level (of_generic {token = t} h g) l = of_sign t _ h refl (takes g l)
  primary_level (of_functional_cast {word = word} {token = t} s h o e c) l = of_sign t _ h (word_level word) (bracket o)
  primary_level (of_group o e c) l = bracket o

  -- postfixes
  postfix_level : {stop tokens rest : List Token} {e : ExprTree} → IsPostfix tokens e rest → Level stop rest → Level stop tokens
  postfix_level (of_primary p) l = primary_level p l
  postfix_level (of_call f o a) l = postfix_level f (bracket o)
  postfix_level (of_index {opening = o'} {closing = c'} f o e c) l = postfix_level f (of_sign o' _ o refl (expr_level e (of_sign c' _ c refl l)))
  postfix_level (of_member {dot = dot} {name = name} f d n) l =
      postfix_level f (⊎_elim (λ (h : Is "." dot). of_sign dot _ h refl (of_sign name _ n refl l)) (λ (h : Is "::" dot). of_sign dot _ h refl (of_sign name _ n refl l)) d)

  -- operators before their operands
  unary_level_of : {stop tokens rest : List Token} {e : ExprTree} → IsUnary tokens e rest → Level stop rest → Level stop tokens
  unary_level_of (of_operator {operator = operator} {token = t} h u) l = of_sign t _ h (unary_level operator) (unary_level_of u l)
  unary_level_of (of_cast o s h c u) l = bracket o
  unary_level_of (of_postfix p) l = postfix_level p l

  -- operators with two operands
  binary_level : {stop tokens rest : List Token} {least : ℕ} {e : ExprTree} → IsBinary least tokens e rest → Level stop rest → Level stop tokens
  binary_level (of_unary u) l = unary_level_of u l
  binary_level (of_operands {operator = op} {token = t} {after = after} {behind = behind} le left sign right) l =
      binary_level left (operator_level (sign_parts t after op behind sign) (binary_level right l))

  -- expressions
  expr_level : {stop tokens rest : List Token} {e : ExprTree} → IsExpr tokens e rest → Level stop rest → Level stop tokens
  expr_level (of_binary b) l = binary_level b l
  expr_level (of_condition {question = q'} {colon = c'} b q x c y) l = binary_level b (of_sign q' _ q refl (expr_level x (of_sign c' _ c refl (expr_level y l))))

-- no type arguments begin with another token than `<`
no_args : {t : Token} {ts rest : List Token} {args : TypeTrees} → IsTypeArgs (t ∷ ts) args rest → is_sign "<" (symbol t) ≡ false → ⊥
no_args (type_args h l c) no' = false≢true (sym no' ∙ ap (is_sign "<") h)

-- a token that is neither `(` nor `<` is passed, or stops
first_level : {stop all : List Token} → Level stop all → (t : Token) (ts : List Token) → all ≡ t ∷ ts → is_sign "(" (symbol t) ≡ false → is_sign "<" (symbol t) ≡ false → (stop ≡ t ∷ ts) ⊎ ((parts' (symbol t) ≡ false) × Level stop ts)
first_level stops t ts is a b = inl is
first_level (bracket {t = u} h) t ts is a b =
    let same : u ≡ t = cc in absurd (false≢true (sym a ∙ ap (λ (x : Token). is_sign "(" (symbol x)) (sym same) ∙ ap (is_sign "(") h))
first_level {stop = stop} (other {t = u} {ts = us} n l) t ts is a b =
    let same : u ≡ t = cc in
    let rest : us ≡ ts = cc in
    inr (ap (λ (x : Token). parts' (symbol x)) (sym same) ∙ n, subst (Level stop) rest l)
first_level (takes {mid = mid} {args = args} g l) t ts is a b = absurd (no_args (subst (λ all. IsTypeArgs all args mid) is g.arguments) b)

-- behind tokens of a type, or among them
data Walk (stop rest : List Token) : Type 0 where
  on : Level stop rest → Walk stop rest
  within : Typed stop rest → Walk stop rest

-- a first token that begins no brackets and no type arguments
walk_first : {stop rest : List Token} (t : Token) (ts : List Token) → Level stop (t ∷ ts) → is_sign "(" (symbol t) ≡ false → is_sign "<" (symbol t) ≡ false → Typed (t ∷ ts) rest → (Level stop ts → Walk stop rest) → Walk stop rest
walk_first {rest = rest} t ts l a b typed' more =
    ⊎_elim (λ is. within (subst (λ ts. Typed ts rest) (sym is) typed')) (λ k. more k.1) (first_level l t ts refl a b)

-- words begin no brackets and no type arguments
word_first : (word : TypeWord) → (is_sign "(" (Sign (codes (word_text word))) ≡ false) × (is_sign "<" (Sign (codes (word_text word))) ≡ false)
word_first = every_word (λ word. (is_sign "(" (Sign (codes (word_text word))) ≡ false) × (is_sign "<" (Sign (codes (word_text word))) ≡ false)) ((refl, refl), ((refl, refl), ((refl, refl), ((refl, refl), ((refl, refl), ((refl, refl), ((refl, refl), ((refl, refl), tt))))))))

-- the names behind dots
path_walk : {stop tokens path rest : List Token} → IsPath tokens path rest → Level stop tokens → Walk stop rest
path_walk ended l = on l
path_walk (dotted {dot = dot} {name = name} {tokens = tokens} d n p) l =
    walk_first dot (name ∷ tokens) l (ap (is_sign "(") d) (ap (is_sign "<") d) (path_typed (dotted d n p)) (λ k.
    walk_first name tokens k (ap (is_sign "(") n) (ap (is_sign "<") n) (typed (ap in_type n) (path_typed p)) (λ k. path_walk p k))

-- type arguments end at one place
same_rest : {opening : Token} {ts rest rest' : List Token} {args args' : TypeTrees} → IsTypeArgs (opening ∷ ts) args rest → IsTypeArgs (opening ∷ ts) args' rest' → rest ≡ rest'
same_rest {opening = opening} {ts = ts} {rest = rest} {rest' = rest'} a b =
    let g = args_go_by a 0 0 None opening ts refl in
    let k = args_go_by b 0 0 None opening ts refl in
    let m = meets (Head 0 0) Closed 1 None g.pieces.limit' k.pieces.limit' g.pieces.piece rest k.pieces.piece rest' (sym g.pieces.are ∙ k.pieces.are) g.pieces.drives.is k.pieces.drives.is in
    m.are ∙ ap (λ ts. ts ++ rest') (closed_none (1 + length g.pieces.piece) g.pieces.limit' k.pieces.limit' m.more Closed m.drives)

-- the names behind dots, behind type arguments
args_then : {stop mid path rest : List Token} → Walk stop mid → IsPath mid path rest → Walk stop rest
args_then (on l) p = path_walk p l
args_then (within w) p = within (typed_then w (path_typed p))

-- the mark that closes type arguments
closing_walk : {stop mid : List Token} {closing : Token} → Is ">" closing → Walk stop (closing ∷ mid) → Walk stop mid
closing_walk {mid = mid} {closing = closing} c (on l) = walk_first closing mid l (ap (is_sign "(") c) (ap (is_sign "<") c) (typed (ap in_type c) here) (λ k. on k)
closing_walk c (within w) = within (typed_then w (typed (ap in_type c) here))

-- type arguments, by how their first token is passed
args_by : {stop all tokens mid : List Token} {args : TypeTrees} {opening closing : Token} → IsTypeArgs (opening ∷ tokens) args mid → Is "<" opening → Is ">" closing → (Level stop tokens → Walk stop (closing ∷ mid)) → Level stop all → all ≡ opening ∷ tokens
    → Walk stop mid
args_by {mid = mid} a h c list stops is = within (subst (λ ts. Typed ts mid) (sym is) (args_typed a))
args_by {opening = opening} a h c list (bracket {t = u} o) is =
    let same : u ≡ opening = cc in absurd (false≢true (sym (ap (is_sign "(") h) ∙ ap (λ (x : Token). is_sign "(" (symbol x)) (sym same) ∙ ap (is_sign "(") o))
args_by {stop = stop} {tokens = tokens} a h c list (other {ts = us} n k) is = let rest : us ≡ tokens = cc in closing_walk c (list (subst (Level stop) rest k))
args_by {stop = stop} a h c list (takes {mid = other'} {args = args'} g k) is =
    on (subst (Level stop) (same_rest (subst (λ all. IsTypeArgs all args' other') is g.arguments) a) k)

-- a comma between types
comma_walk : {stop behind rest : List Token} {comma : Token} {types : TypeTrees} → Is "," comma → IsTypeList behind types rest → Walk stop (comma ∷ behind) → Walk stop rest
comma_walk {behind = behind} {rest = rest} {comma = comma} c l (on k) =
    ⊎_elim (λ is. within (subst (λ ts. Typed ts rest) (sym is) (typed (ap in_type c) (list_typed l)))) (λ n. absurd (false≢true (sym n.0 ∙ ap parts' c)))
    (first_level k comma behind refl (ap (is_sign "(") c) (ap (is_sign "<") c))
comma_walk c l (within w) = within (typed_then w (typed (ap in_type c) (list_typed l)))

mutual
  -- types
  type_walk : {stop tokens rest : List Token} {type : TypeTree} → IsType tokens type rest → Level stop tokens → Walk stop rest
  type_walk (of_word {word = word} {first = first} {tokens = tokens} h p) l =
      let w = word_first word in
      walk_first first tokens l (ap (is_sign "(") h ∙ w.0) (ap (is_sign "<") h ∙ w.1) (type_typed (of_word {word = word} h p)) (λ k. path_walk p k)
  type_walk (type_of_name {first = first} {tokens = tokens} h p) l = walk_first first tokens l (ap (is_sign "(") h) (ap (is_sign "<") h) (type_typed (type_of_name h p)) (λ k. path_walk p k)
  type_walk (type_of_generic {first = first} {tokens = tokens} h a p) l =
      walk_first first tokens l (ap (is_sign "(") h) (ap (is_sign "<") h) (type_typed (type_of_generic h a p)) (λ k. args_then (args_walk a k) p)

  -- type arguments
  args_walk : {stop tokens mid : List Token} {args : TypeTrees} → IsTypeArgs tokens args mid → Level stop tokens → Walk stop mid
  args_walk (type_args {opening = opening} {closing = closing} {tokens = tokens} h l c) k = args_by (type_args h l c) h c (λ k. list_walk l k) k refl

  -- types with commas between them
  list_walk : {stop tokens rest : List Token} {types : TypeTrees} → IsTypeList tokens types rest → Level stop tokens → Walk stop rest
  list_walk (last_type t) l = type_walk t l
  list_walk (more_types {comma = comma} {behind = behind} t c l) k = comma_walk c l (type_walk t k)

-- a mark behind a declarator without a value
pub data Marks : Token → Type 0 where
  a_comma : {t : Token} → Is "," t → Marks t
  a_semicolon : {t : Token} → Is ";" t → Marks t

-- such a mark begins no brackets and no type arguments
marks_part : {m : Token} → Marks m → (parts' (symbol m) ≡ true) × (is_sign "(" (symbol m) ≡ false) × (is_sign "<" (symbol m) ≡ false)
marks_part (a_comma h) = (ap parts' h, ap (is_sign "(") h, ap (is_sign "<") h)
marks_part (a_semicolon h) = (ap parts' h, ap (is_sign "(") h, ap (is_sign "<") h)

-- nothing passes such a mark
mark_walk : {stop : List Token} (m : Token) (others : List Token) → Marks m → Level stop (m ∷ others) → Typed stop (m ∷ others)
mark_walk m others marks l =
    let p = marks_part marks in
    ⊎_elim (λ is. subst (λ ts. Typed ts (m ∷ others)) (sym is) here) (λ n. absurd (false≢true (sym n.0 ∙ p.0))) (first_level l m others refl p.1 p.2)

-- nothing passes a name and such a mark
named_walk : {stop : List Token} (name m : Token) (others : List Token) → IsName name → Marks m → Walk stop (name ∷ m ∷ others) → Typed stop (m ∷ others)
named_walk name m others n marks (on l) =
    ⊎_elim (λ is. subst (λ ts. Typed ts (m ∷ others)) (sym is) (typed (ap in_type n) here)) (λ k. mark_walk m others marks k.1) (first_level l name (m ∷ others) refl (ap (is_sign "(") n) (ap (is_sign "<") n))
named_walk name m others n marks (within w) = typed_then w (typed (ap in_type n) here)

-- an expression in front of a type, a name and such a mark stops before the mark, or at it
pub typed_stop : {tokens stop : List Token} {e : ExprTree} {type : TypeTree} (name m : Token) (others : List Token) → IsExpr tokens e stop → IsType tokens type (name ∷ m ∷ others) → IsName name → Marks m → Typed stop (m ∷ others)
typed_stop name m others e t n marks = named_walk name m others n marks (type_walk t (expr_level e stops))
