-- What the machine comes to is an expression.
use Rattle.std.proofs.Common.{◌≡◌, ◌⊎◌, ℕ, ◌<◌, ◌≤◌, Bool, true, false, List, [], ◌∷◌, ◌++◌, refl, sym, subst, codes, arith, le_refl}
use Rattle.std.specs.Prelude.{Option, IsTrue, nat_le}
use Rattle.std.proofs.lemmas.Bool.Decides.{nat_tests}
use Rattle.def_token.specs.Lexical.{Token}
use Rattle.def_tree.specs.ExprTree as tree
use Rattle.def_tree.specs.ExprTree.{ExprTree, ExprTrees, NoExprs, MoreExprs}
use Rattle.def_tree.specs.Expressions.{IsPrimary, of_number, of_true, of_false, of_itself, of_name, of_generic, of_functional_cast, of_own_type, of_group, IsPostfix, of_primary, of_call, of_index, of_member, no_arguments, some_arguments, IsExprList, last_expr, more_exprs, IsUnary, of_operator, of_cast, of_postfix, IsBinary, of_unary, of_operands, IsExpr, of_binary, of_condition}
use Rattle.def_tree.specs.Limits.{Nesting}
use Rattle.def_tree.specs.Operator.{Operator, operator_text, level, Or, And, BitOr, BitXor, BitAnd, Equal, NotEqual, Less, LessEqual, Greater, GreaterEqual, ShiftLeft, ShiftRight, Add, Subtract, Multiply, Divide, Remainder, UnaryOperator, unary_text, sign_at}
use Rattle.def_tree.specs.Part.{IsExprPart}
use Rattle.def_tree.specs.Symbol.{Is}
use Rattle.def_tree.specs.TypeTree.{TypeWord, word_text, is_scalar}
use Rattle.def_reading.specs.Cursor.{Told, Cursor, At}
use Rattle.def_reading.specs.Machine.{Frame, Prefix, Casting, Left, Asked, Chosen, InGroup, InFunctionalCast, InCall, InIndex, Mode, Expected, Value, Dotted, Converting, Step, On, Ends, Refused, Held, held_by, bound, whole, exprs_of}
use Rattle.law_types.proofs.AheadSound.{none_without}
use Rattle.law_machine.proofs.MachineComplete.{appended, appended_last, appended_more}
use Rattle.law_machine.proofs.MachineMoves.{IsAtom, a_number, a_true, a_false, itself, own_type, Moves, an_atom, bare, without, generic, converts, prefixes, opens_group, no_arguments as closes_empty, opens_conversion, casts, names_member, calls, indexes, dots, asks, chooses, separates, closes_group, closes_conversion, closes_call, closes_index, operates, ends, stuck, stuck_behind, exhausted}

-- the arguments before the open one, with a comma behind each
pub data AreDone : List Token → List ExprTree → List Token → Type 0 where
  none_done : {tokens : List Token} → AreDone tokens [] tokens
  one_done : {tokens mid behind : List Token} {comma : Token} {args : List ExprTree} {expr : ExprTree}
      → AreDone tokens args mid → IsExpr mid expr (comma ∷ behind) → Is "," comma → AreDone tokens (args ++ expr ∷ []) behind

-- on top of the frames stands none that is complete before an operator of this level
abbrev pub Outer : ℕ → List Frame → Type 0
Outer least [] = Unit {0}
Outer least (Prefix operator token ∷ frames) = ⊥
Outer least (Casting opening word token ∷ frames) = ⊥
Outer least (Left left operator token ∷ frames) = level operator < least
Outer least (Asked condition question ∷ frames) = Unit {0}
Outer least (Chosen condition question yes' ∷ frames) = Unit {0}
Outer least (InGroup opening ∷ frames) = Unit {0}
Outer least (InFunctionalCast word token ∷ frames) = Unit {0}
Outer least (InCall callee opening args ∷ frames) = Unit {0}
Outer least (InIndex base opening ∷ frames) = Unit {0}

-- the tokens up to a place are what is open in the frames
pub data Open (tokens : List Token) : List Frame → List Token → Type 0 where
  nothing : Open tokens [] tokens
  in_prefix : {fs : List Frame} {op : UnaryOperator} {t : Token} {ts : List Token} → Open tokens fs (t ∷ ts) → Is (unary_text op) t → Open tokens (Prefix op t ∷ fs) ts
  in_cast : {fs : List Frame} {word : TypeWord} {opening t closing : Token} {ts : List Token}
      → Open tokens fs (opening ∷ t ∷ closing ∷ ts) → Is "(" opening → IsTrue (is_scalar word) → Is (word_text word) t → Is ")" closing → Open tokens (Casting opening word t ∷ fs) ts
  in_left : {fs : List Frame} {op : Operator} {t : Token} {start after behind : List Token} {left : ExprTree}
      → Open tokens fs start → Outer (level op) fs → IsBinary (level op) start left (t ∷ after) → sign_at (t ∷ after) ≡ (codes (operator_text op), behind)
      → Open tokens (Left left op t ∷ fs) behind
  in_asked : {fs : List Frame} {q : Token} {start behind : List Token} {condition : ExprTree}
      → Open tokens fs start → Outer 1 fs → IsBinary 1 start condition (q ∷ behind) → Is "?" q → Open tokens (Asked condition q ∷ fs) behind
  in_chosen : {fs : List Frame} {q colon : Token} {start behind after : List Token} {condition yes' : ExprTree}
      → Open tokens fs start → Outer 1 fs → IsBinary 1 start condition (q ∷ behind) → Is "?" q → IsExpr behind yes' (colon ∷ after) → Is ":" colon
      → Open tokens (Chosen condition q yes' ∷ fs) after
  in_group : {fs : List Frame} {opening : Token} {ts : List Token} → Open tokens fs (opening ∷ ts) → Is "(" opening → Open tokens (InGroup opening ∷ fs) ts
  in_conversion : {fs : List Frame} {word : TypeWord} {t opening : Token} {ts : List Token}
      → Open tokens fs (t ∷ opening ∷ ts) → IsTrue (is_scalar word) → Is (word_text word) t → Is "(" opening → Open tokens (InFunctionalCast word t ∷ fs) ts
  in_call : {fs : List Frame} {opening : Token} {start mid ts : List Token} {callee : ExprTree} {args : List ExprTree}
      → Open tokens fs start → IsPostfix start callee (opening ∷ mid) → Is "(" opening → AreDone mid args ts → Open tokens (InCall callee opening args ∷ fs) ts
  in_index : {fs : List Frame} {opening : Token} {start ts : List Token} {base : ExprTree}
      → Open tokens fs start → IsPostfix start base (opening ∷ ts) → Is "[" opening → Open tokens (InIndex base opening ∷ fs) ts

done_list : {tokens mid rest : List Token} {args : List ExprTree} {exprs : ExprTrees} → AreDone tokens args mid → IsExprList mid exprs rest → IsExprList tokens (appended args exprs) rest
done_list none_done l = l
done_list {rest = rest} {exprs = exprs} (one_done {tokens = tokens} {args = args} {expr = expr} d e c) l =
    subst (λ es. IsExprList tokens es rest) (sym (appended_more args expr exprs)) (done_list d (more_exprs e c l))

last_done : {tokens mid rest : List Token} {args : List ExprTree} {expr : ExprTree} → AreDone tokens args mid → IsExpr mid expr rest → IsExprList tokens (exprs_of (args ++ expr ∷ [])) rest
last_done {tokens = tokens} {rest = rest} {args = args} {expr = expr} d e =
    subst (λ es. IsExprList tokens es rest) (sym (appended_last args expr)) (done_list d (last_expr e))

level_positive : (op : Operator) → 1 ≤ level op
level_positive Or = omega arith
level_positive And = omega arith
level_positive BitOr = omega arith
level_positive BitXor = omega arith
level_positive BitAnd = omega arith
level_positive Equal = omega arith
level_positive NotEqual = omega arith
level_positive Less = omega arith
level_positive LessEqual = omega arith
level_positive Greater = omega arith
level_positive GreaterEqual = omega arith
level_positive ShiftLeft = omega arith
level_positive ShiftRight = omega arith
level_positive Add = omega arith
level_positive Subtract = omega arith
level_positive Multiply = omega arith
level_positive Divide = omega arith
level_positive Remainder = omega arith

weaker : {least k : ℕ} {tokens rest : List Token} {expr : ExprTree} → least ≤ k → IsBinary k tokens expr rest → IsBinary least tokens expr rest
weaker h (of_unary u) = of_unary u
weaker h (of_operands le l s r) = of_operands (omega (arith, h, le)) l s r

outer_weaker : (least k : ℕ) (fs : List Frame) → least ≤ k → Outer least fs → Outer k fs
outer_weaker least k [] h o = tt
outer_weaker least k (Prefix operator token ∷ frames) h o = absurd o
outer_weaker least k (Casting opening word token ∷ frames) h o = absurd o
outer_weaker least k (Left left operator token ∷ frames) h o = omega (arith, h, o)
outer_weaker least k (Asked condition question ∷ frames) h o = tt
outer_weaker least k (Chosen condition question yes' ∷ frames) h o = tt
outer_weaker least k (InGroup opening ∷ frames) h o = tt
outer_weaker least k (InFunctionalCast word token ∷ frames) h o = tt
outer_weaker least k (InCall callee opening args ∷ frames) h o = tt
outer_weaker least k (InIndex base opening ∷ frames) h o = tt

module _ (tokens : List Token) where
  -- what is closed up to an operator of a level
  pub record IsBound (least : ℕ) (rest : List Token) (held : Held) : Type 0 where
    pub start : List Token
    pub open' : Open tokens held.1 start
    pub part : IsBinary least start held.0 rest
    pub outer : Outer least held.1

  bound_left : (b : Bool) (least : ℕ) (rest start : List Token) (v left : ExprTree) (op : Operator) (t : Token) (fs : List Frame) → nat_le least (level op) ≡ b
      → (least ≤ level op → IsBound least rest (bound least (tree.Binary op t left v) fs))
      → (level op < least → IsBound least rest (v, Left left op t ∷ fs))
      → IsBound least rest (held_by b (bound least (tree.Binary op t left v) fs) (v, Left left op t ∷ fs))
  bound_left true least rest start v left op t fs h yes' no' = yes' (grind (arith, nat_tests, h))
  bound_left false least rest start v left op t fs h yes' no' = no' (grind (arith, nat_tests, h))

  binary_bound : (least k : ℕ) (v : ExprTree) (rest : List Token) {fs : List Frame} {start : List Token} → Open tokens fs start → IsBinary k start v rest → least ≤ k → Outer k fs
      → IsBound least rest (bound least v fs)
  binary_bound least k v rest nothing b h o = record { start = tokens; open' = nothing; part = weaker h b; outer = tt }
  binary_bound least k v rest (in_prefix p i) b h o = absurd o
  binary_bound least k v rest (in_cast p i j l m) b h o = absurd o
  binary_bound least k v rest (in_left {fs = fs} {op = op} {t = t} {behind = behind} {left = left} p out l sign) b h o =
      bound_left (nat_le least (level op)) least rest behind v left op t fs refl
      (λ low. binary_bound least (level op) (tree.Binary op t left v) rest p (of_operands (le_refl (level op)) l sign (weaker o b)) low out)
      (λ high. record { start = behind; open' = in_left p out l sign; part = weaker h b; outer = high })
  binary_bound least k v rest (in_asked {behind = behind} p out b' q) b h o = record { start = behind; open' = in_asked p out b' q; part = weaker h b; outer = tt }
  binary_bound least k v rest (in_chosen {after = after} p out b' q x c) b h o = record { start = after; open' = in_chosen p out b' q x c; part = weaker h b; outer = tt }
  binary_bound least k v rest (in_group {ts = ts} p i) b h o = record { start = ts; open' = in_group p i; part = weaker h b; outer = tt }
  binary_bound least k v rest (in_conversion {ts = ts} p i j l) b h o = record { start = ts; open' = in_conversion p i j l; part = weaker h b; outer = tt }
  binary_bound least k v rest (in_call {ts = ts} p f i d) b h o = record { start = ts; open' = in_call p f i d; part = weaker h b; outer = tt }
  binary_bound least k v rest (in_index {ts = ts} p f i) b h o = record { start = ts; open' = in_index p f i; part = weaker h b; outer = tt }

  unary_bound : (least : ℕ) (v : ExprTree) (rest : List Token) {fs : List Frame} {start : List Token} → Open tokens fs start → IsUnary start v rest → IsBound least rest (bound least v fs)
  unary_bound least v rest nothing u = record { start = tokens; open' = nothing; part = of_unary u; outer = tt }
  unary_bound least v rest (in_prefix {op = op} {t = t} p i) u = unary_bound least (tree.Unary op t v) rest p (of_operator i u)
  unary_bound least v rest (in_cast {word = word} {opening = opening} {t = t} p i s j c) u = unary_bound least (tree.Cast opening word t v) rest p (of_cast i s j c u)
  unary_bound least v rest (in_left {fs = fs} {op = op} {t = t} {behind = behind} {left = left} p out l sign) u =
      bound_left (nat_le least (level op)) least rest behind v left op t fs refl
      (λ low. binary_bound least (level op) (tree.Binary op t left v) rest p (of_operands (le_refl (level op)) l sign (of_unary u)) low out)
      (λ high. record { start = behind; open' = in_left p out l sign; part = of_unary u; outer = high })
  unary_bound least v rest (in_asked {behind = behind} p out b' q) u = record { start = behind; open' = in_asked p out b' q; part = of_unary u; outer = tt }
  unary_bound least v rest (in_chosen {after = after} p out b' q x c) u = record { start = after; open' = in_chosen p out b' q x c; part = of_unary u; outer = tt }
  unary_bound least v rest (in_group {ts = ts} p i) u = record { start = ts; open' = in_group p i; part = of_unary u; outer = tt }
  unary_bound least v rest (in_conversion {ts = ts} p i j l) u = record { start = ts; open' = in_conversion p i j l; part = of_unary u; outer = tt }
  unary_bound least v rest (in_call {ts = ts} p f i d) u = record { start = ts; open' = in_call p f i d; part = of_unary u; outer = tt }
  unary_bound least v rest (in_index {ts = ts} p f i) u = record { start = ts; open' = in_index p f i; part = of_unary u; outer = tt }

  -- a whole expression with what is open around it
  pub record IsWhole (rest : List Token) (held : Held) : Type 0 where
    pub start : List Token
    pub open' : Open tokens held.1 start
    pub part : IsExpr start held.0 rest

  expr_whole : (v : ExprTree) (rest : List Token) {fs : List Frame} {start : List Token} → Open tokens fs start → IsExpr start v rest → Outer 1 fs → IsWhole rest (whole v fs)
  expr_whole v rest nothing e o = record { start = tokens; open' = nothing; part = e }
  expr_whole v rest (in_prefix p i) e o = absurd o
  expr_whole v rest (in_cast p i j l m) e o = absurd o
  expr_whole v rest (in_left {op = op} p out l sign) e o = absurd (omega (arith, o, level_positive op))
  expr_whole v rest (in_asked {behind = behind} p out b q) e o = record { start = behind; open' = in_asked p out b q; part = e }
  expr_whole v rest (in_chosen {q = q} {condition = condition} {yes' = yes'} p out b i x c) e o =
      expr_whole (tree.Conditional condition q yes' v) rest p (of_condition b i x c e) out
  expr_whole v rest (in_group {ts = ts} p i) e o = record { start = ts; open' = in_group p i; part = e }
  expr_whole v rest (in_conversion {ts = ts} p i j l) e o = record { start = ts; open' = in_conversion p i j l; part = e }
  expr_whole v rest (in_call {ts = ts} p f i d) e o = record { start = ts; open' = in_call p f i d; part = e }
  expr_whole v rest (in_index {ts = ts} p f i) e o = record { start = ts; open' = in_index p f i; part = e }

  binary_whole : (k : ℕ) (v : ExprTree) (rest : List Token) {fs : List Frame} {start : List Token} → Open tokens fs start → IsBinary k start v rest → 1 ≤ k → Outer k fs → IsWhole rest (whole v fs)
  binary_whole k v rest nothing b h o = record { start = tokens; open' = nothing; part = of_binary (weaker h b) }
  binary_whole k v rest (in_prefix p i) b h o = absurd o
  binary_whole k v rest (in_cast p i j l m) b h o = absurd o
  binary_whole k v rest (in_left {op = op} {t = t} {left = left} p out l sign) b h o =
      binary_whole (level op) (tree.Binary op t left v) rest p (of_operands (le_refl (level op)) l sign (weaker o b)) (level_positive op) out
  binary_whole k v rest (in_asked {behind = behind} p out b' q) b h o = record { start = behind; open' = in_asked p out b' q; part = of_binary (weaker h b) }
  binary_whole k v rest (in_chosen p out b' i x c) b h o = expr_whole v rest (in_chosen p out b' i x c) (of_binary (weaker h b)) tt
  binary_whole k v rest (in_group {ts = ts} p i) b h o = record { start = ts; open' = in_group p i; part = of_binary (weaker h b) }
  binary_whole k v rest (in_conversion {ts = ts} p i j l) b h o = record { start = ts; open' = in_conversion p i j l; part = of_binary (weaker h b) }
  binary_whole k v rest (in_call {ts = ts} p f i d) b h o = record { start = ts; open' = in_call p f i d; part = of_binary (weaker h b) }
  binary_whole k v rest (in_index {ts = ts} p f i) b h o = record { start = ts; open' = in_index p f i; part = of_binary (weaker h b) }

  unary_whole : (v : ExprTree) (rest : List Token) {fs : List Frame} {start : List Token} → Open tokens fs start → IsUnary start v rest → IsWhole rest (whole v fs)
  unary_whole v rest nothing u = record { start = tokens; open' = nothing; part = of_binary (of_unary u) }
  unary_whole v rest (in_prefix {op = op} {t = t} p i) u = unary_whole (tree.Unary op t v) rest p (of_operator i u)
  unary_whole v rest (in_cast {word = word} {opening = opening} {t = t} p i s j c) u = unary_whole (tree.Cast opening word t v) rest p (of_cast i s j c u)
  unary_whole v rest (in_left {op = op} {t = t} {left = left} p out l sign) u =
      binary_whole (level op) (tree.Binary op t left v) rest p (of_operands (le_refl (level op)) l sign (of_unary u)) (level_positive op) out
  unary_whole v rest (in_asked {behind = behind} p out b' q) u = record { start = behind; open' = in_asked p out b' q; part = of_binary (of_unary u) }
  unary_whole v rest (in_chosen p out b' i x c) u = expr_whole v rest (in_chosen p out b' i x c) (of_binary (of_unary u)) tt
  unary_whole v rest (in_group {ts = ts} p i) u = record { start = ts; open' = in_group p i; part = of_binary (of_unary u) }
  unary_whole v rest (in_conversion {ts = ts} p i j l) u = record { start = ts; open' = in_conversion p i j l; part = of_binary (of_unary u) }
  unary_whole v rest (in_call {ts = ts} p f i d) u = record { start = ts; open' = in_call p f i d; part = of_binary (of_unary u) }
  unary_whole v rest (in_index {ts = ts} p f i) u = record { start = ts; open' = in_index p f i; part = of_binary (of_unary u) }

  -- an operand stands in the frames
  pub record HasValue (fs : List Frame) (v : ExprTree) (ts : List Token) : Type 0 where
    pub start : List Token
    pub open' : Open tokens fs start
    pub part : IsPostfix start v ts

  pub record HasDot (fs : List Frame) (v : ExprTree) (ts : List Token) : Type 0 where
    pub start : List Token
    pub dot : Token
    pub open' : Open tokens fs start
    pub part : IsPostfix start v (dot ∷ ts)
    pub is : Is "." dot ⊎ Is "::" dot

  pub record HasWord (fs : List Frame) (word : TypeWord) (t : Token) (ts : List Token) : Type 0 where
    pub open' : Open tokens fs (t ∷ ts)
    pub scalar : IsTrue (is_scalar word)
    pub is : Is (word_text word) t

  -- what holds of the machine at a place
  abbrev pub Holds : Mode → List Frame → List Token → Type 0
  Holds Expected fs ts = Open tokens fs ts
  Holds (Value v) fs ts = HasValue fs v ts
  Holds (Dotted v) fs ts = HasDot fs v ts
  Holds (Converting word t) fs ts = HasWord fs word t ts

  abbrev pub HoldsAt : Mode → List Frame → Cursor → Type 0
  HoldsAt mode fs (At at limit ts) = Holds mode fs ts

  abbrev pub PartAt : ExprTree → Cursor → Type 0
  PartAt e (At at limit ts) = IsExprPart tokens e ts

  abbrev pub SoundStep : Step → Type 0
  SoundStep (On other c) = HoldsAt c.mode c.frames c.place
  SoundStep (Ends e place) = PartAt e place
  SoundStep (Refused place) = Unit {0}

  value_whole : {fs : List Frame} {v : ExprTree} {ts : List Token} → HasValue fs v ts → (held : Held) → whole v fs ≡ held → IsWhole ts held
  value_whole {v = v} {ts = ts} h held is = subst (IsWhole ts) is (unary_whole v ts h.open' (of_postfix h.part))

  value_bound : {fs : List Frame} {v : ExprTree} {ts : List Token} → HasValue fs v ts → (least : ℕ) → IsBound least ts (bound least v fs)
  value_bound {v = v} {ts = ts} h least = unary_bound least v ts h.open' (of_postfix h.part)

  atom_primary : {t : Token} {e : ExprTree} (ts : List Token) → IsAtom t e → IsPrimary (t ∷ ts) e ts
  atom_primary ts (a_number h) = of_number h
  atom_primary ts (a_true h) = of_true h
  atom_primary ts (a_false h) = of_false h
  atom_primary ts (itself h) = of_itself h
  atom_primary ts (own_type h) = of_own_type h

  a_value : {fs : List Frame} {start ts : List Token} {v : ExprTree} → Open tokens fs start → IsPrimary start v ts → HasValue fs v ts
  a_value {start = start} o p = record { start = start; open' = o; part = of_primary p }

  -- the word and the brackets of a cast
  cast_open : {fs : List Frame} {opening t closing : Token} {word : TypeWord} {ts : List Token} → Open tokens (InGroup opening ∷ fs) (t ∷ closing ∷ ts) → IsTrue (is_scalar word) → Is (word_text word) t → Is ")" closing
      → Open tokens (Casting opening word t ∷ fs) ts
  cast_open (in_group p i) s h c = in_cast p i s h c

  -- the forms that a bracket closes
  group_closed : {fs : List Frame} {opening t : Token} {ts start : List Token} {e : ExprTree} → Open tokens (InGroup opening ∷ fs) start → IsExpr start e (t ∷ ts) → Is ")" t → HasValue fs (tree.Group opening e) ts
  group_closed (in_group p i) e h = a_value p (of_group i e h)

  conversion_closed : {fs : List Frame} {word : TypeWord} {first t : Token} {ts start : List Token} {e : ExprTree} → Open tokens (InFunctionalCast word first ∷ fs) start → IsExpr start e (t ∷ ts) → Is ")" t
      → HasValue fs (tree.FunctionalCast word first e) ts
  conversion_closed (in_conversion p s i o) e h = a_value p (of_functional_cast s i o e h)

  call_closed : {fs : List Frame} {opening t : Token} {ts start : List Token} {callee e : ExprTree} {args : List ExprTree} → Open tokens (InCall callee opening args ∷ fs) start → IsExpr start e (t ∷ ts) → Is ")" t
      → HasValue fs (tree.Call callee opening (exprs_of (args ++ e ∷ []))) ts
  call_closed (in_call {start = start} p f o d) e h = record { start = start; open' = p; part = of_call f o (some_arguments (last_done d e) h) }

  call_more : {fs : List Frame} {opening t : Token} {ts start : List Token} {callee e : ExprTree} {args : List ExprTree} → Open tokens (InCall callee opening args ∷ fs) start → IsExpr start e (t ∷ ts) → Is "," t
      → Open tokens (InCall callee opening (args ++ e ∷ []) ∷ fs) ts
  call_more (in_call p f o d) e h = in_call p f o (one_done d e h)

  none_are : {mid ts : List Token} {args : List ExprTree} → AreDone mid args ts → args ≡ [] → mid ≡ ts
  none_are none_done h = refl
  none_are (one_done {args = []} d e c) h = absurd (cc)
  none_are (one_done {args = arg ∷ args} d e c) h = absurd (cc)

  call_empty_by : {fs : List Frame} {opening t : Token} {ts start mid : List Token} {callee : ExprTree} → Open tokens fs start → IsPostfix start callee (opening ∷ mid) → Is "(" opening → mid ≡ t ∷ ts → Is ")" t
      → HasValue fs (tree.Call callee opening NoExprs) ts
  call_empty_by {opening = opening} {t = t} {ts = ts} {start = start} {callee = callee} p f o is h =
      record { start = start; open' = p; part = of_call (subst (λ mid. IsPostfix start callee (opening ∷ mid)) is f) o (no_arguments h) }

  call_empty : {fs : List Frame} {opening t : Token} {ts : List Token} {callee : ExprTree} {args : List ExprTree} → Open tokens (InCall callee opening args ∷ fs) (t ∷ ts) → args ≡ [] → Is ")" t
      → HasValue fs (tree.Call callee opening NoExprs) ts
  call_empty (in_call p f o d) none h = call_empty_by p f o (none_are d none) h

  index_closed : {fs : List Frame} {opening t : Token} {ts start : List Token} {base e : ExprTree} → Open tokens (InIndex base opening ∷ fs) start → IsExpr start e (t ∷ ts) → Is "]" t
      → HasValue fs (tree.Index base opening e) ts
  index_closed (in_index {start = start} p f o) e h = record { start = start; open' = p; part = of_index f o e h }

  asked_chosen : {fs : List Frame} {q t : Token} {ts start : List Token} {condition yes' : ExprTree} → Open tokens (Asked condition q ∷ fs) start → IsExpr start yes' (t ∷ ts) → Is ":" t
      → Open tokens (Chosen condition q yes' ∷ fs) ts
  asked_chosen (in_asked p out b i) e h = in_chosen p out b i e h

  ended_whole : {e : ExprTree} {start ts : List Token} → Open tokens [] start → IsExpr start e ts → IsExpr tokens e ts
  ended_whole nothing e = e

  -- each move keeps what holds
  pub moves_sound : {around : Nesting} {long : Option Told} {fs : List Frame} {mode : Mode} {at : ℕ} {limit : Option Told} {ts : List Token} {s : Step}
      → Moves around long fs mode at limit ts s → Holds mode fs ts → SoundStep s
  moves_sound (an_atom {ts = ts} a) h = a_value h (atom_primary ts a)
  moves_sound (bare {ts = ts} n b) h = a_value h (of_name n (none_without ts b))
  moves_sound (without n b none at' limit' rest is) h = a_value h (of_name n none)
  moves_sound (generic n b args at' limit' rest t is) h = a_value h (of_generic n t)
  moves_sound (converts s i) h = record { open' = h; scalar = s; is = i }
  moves_sound (prefixes i) h = in_prefix h i
  moves_sound (opens_group i) h = in_group h i
  moves_sound (closes_empty i) h = call_empty h refl i
  moves_sound (opens_conversion i) h = in_conversion h.open' h.scalar h.is i
  moves_sound (casts i) h = cast_open h.open' h.scalar h.is i
  moves_sound (names_member i) h = record { start = h.start; open' = h.open'; part = of_member h.part h.is i }
  moves_sound (calls i) h = in_call h.open' h.part i none_done
  moves_sound (indexes i) h = in_index h.open' h.part i
  moves_sound (dots {t = t} i) h = record { start = h.start; dot = t; open' = h.open'; part = h.part; is = i }
  moves_sound (asks i) h = let b = value_bound h 1 in in_asked b.open' b.outer b.part i
  moves_sound (chooses i w) h = let e = value_whole h _ w in asked_chosen e.open' e.part i
  moves_sound (separates i w) h = let e = value_whole h _ w in call_more e.open' e.part i
  moves_sound (closes_group i w) h = let e = value_whole h _ w in group_closed e.open' e.part i
  moves_sound (closes_conversion i w) h = let e = value_whole h _ w in conversion_closed e.open' e.part i
  moves_sound (closes_call i w) h = let e = value_whole h _ w in call_closed e.open' e.part i
  moves_sound (closes_index i w) h = let e = value_whole h _ w in index_closed e.open' e.part i
  moves_sound (operates op behind next sign passes) h = let b = value_bound h (level op) in in_left b.open' b.outer b.part sign
  moves_sound (ends w end) h = let e = value_whole h _ w in record { tree = ended_whole e.open' e.part; ended = end }
  moves_sound (stuck each) h = tt
  moves_sound (stuck_behind w g j k) h = tt
  moves_sound exhausted h = tt
