-- A token that is no part of an expression or a type: trees before it do not hang on what stands behind it.
use Rattle.std.proofs.Common.{◌≡◌, inl, inr, ⊎_elim, ℕ, Bool, true, false, List, [], ◌∷◌, ◌++◌, refl, sym, ap, subst, ◌∙◌, codes}
use Rattle.std.specs.Prelude.{None, ◌||◌, ◌&&◌}
use Rattle.std.specs.Str.{bytes_eq}
use Rattle.std.proofs.Math.Bool.{and-false}
use Rattle.std.proofs.lemmas.Bool.{false≢true}
use Rattle.std.proofs.lemmas.Slice.Eq.{bytes_eq-Decides}
use Rattle.def_token.specs.Lexical.{Token}
use Rattle.def_tree.specs.ExprTree.{ExprTree, ExprTrees}
use Rattle.def_tree.specs.Expressions.{LeadsOn, TakesTypeArgs, TakesNone, IsPrimary, of_number, of_true, of_false, of_itself, of_name, of_generic, of_functional_cast, of_own_type, of_group, IsPostfix, of_primary, of_call, of_index, of_member, IsArguments, no_arguments, some_arguments, IsExprList, last_expr, more_exprs, IsUnary, of_operator, of_cast, of_postfix, IsBinary, of_unary, of_operands, IsExpr, of_binary, of_condition}
use Rattle.def_tree.specs.Operator.{Operator, operators, operator_text, level, UnaryOperator, Minus, Plus, Not, Complement, unary_text, sign_at, joins}
use Rattle.def_tree.specs.Symbol.{Symbol, Name, Number, Text, End, Sign, symbol, is_sign, touches, Is}
use Prim.Native.String.{String}
use Rattle.def_reading.specs.Machine.{written}
use Rattle.law_machine.proofs.MachineSigns.{operator_is}
use Rattle.law_machine.proofs.SignParts.{SignParts, one_token, greater, greater_equal, shift, sign_parts, Apart, NoEqual, greater_sign, equal_sign, shift_sign}
use Rattle.law_tree.proofs.Symbols.{is_sign-true}
use Rattle.def_tree.specs.Types.{IsPath, ended, dotted, IsType, of_word, of_name as type_of_name, of_generic as type_of_generic, IsTypeArgs, type_args, IsTypeList, last_type, more_types}
use Rattle.def_tree.specs.TypeTree.{TypeWord, word_text, TypeTree, TypeTrees}
use Rattle.law_tree.proofs.Words.{every_word}

-- the end, a semicolon, a step: signs of no type and no expression
abbrev pub is_alien : Symbol → Bool
is_alien Name = false
is_alien (Number wide) = false
is_alien Text = false
is_alien End = true
is_alien (Sign text) = bytes_eq text (codes ";") || bytes_eq text (codes "++")

-- two lists that are one up to a mark
pub data Agree (mark : Token) (r r' : List Token) : List Token → List Token → Type 0 where
  at_mark : Agree mark r r' (mark ∷ r) (mark ∷ r')
  before : {t : Token} {ts us : List Token} → Agree mark r r' ts us → Agree mark r r' (t ∷ ts) (t ∷ us)

pub agree_back : {mark : Token} {r r' ts us : List Token} → Agree mark r r' ts us → Agree mark r' r us ts
agree_back at_mark = at_mark
agree_back (before a) = before (agree_back a)

pub agree_front : (mark : Token) (r r' front : List Token) → Agree mark r r' (front ++ mark ∷ r) (front ++ mark ∷ r')
agree_front mark r r' [] = at_mark
agree_front mark r r' (t ∷ front) = before (agree_front mark r r' front)

word_alien : (word : TypeWord) → is_alien (Sign (codes (word_text word))) ≡ false
word_alien = every_word (λ word. is_alien (Sign (codes (word_text word))) ≡ false) (refl, (refl, (refl, (refl, (refl, (refl, (refl, (refl, tt))))))))

unary_alien : (operator : UnaryOperator) → is_alien (Sign (codes (unary_text operator))) ≡ false
unary_alien Minus = refl
unary_alien Plus = refl
unary_alien Not = refl
unary_alien Complement = refl

-- an operator is no such sign
end_written : (t : Token) (after : List Token) → symbol t ≡ End → written operator_text operators (sign_at (t ∷ after)).0 ≡ None
end_written t after h = rw h refl

no_end_operator : (t : Token) (after behind : List Token) (op : Operator) → symbol t ≡ End → sign_at (t ∷ after) ≡ (codes (operator_text op), behind) → ⊥
no_end_operator t after behind op is h = let none = end_written t after is in let some = operator_is t after behind op h in cc

sign_alien : (one other : Bool) (text : List ℕ) (t : Token) (after behind : List Token) (op : Operator) → bytes_eq text (codes ";") ≡ one → bytes_eq text (codes "++") ≡ other
    → symbol t ≡ Sign text → sign_at (t ∷ after) ≡ (codes (operator_text op), behind) → (one || other) ≡ false
sign_alien true other text t after behind op h k is sign =
    let semicolon : Is ";" t = is ∙ ap Sign ((bytes_eq-Decides text (codes ";")).0 h) in
    let none : written operator_text operators (sign_at (t ∷ after)).0 ≡ None = rw semicolon refl in
    let some = operator_is t after behind op sign in
    absurd (cc)
sign_alien false true text t after behind op h k is sign =
    let step : Is "++" t = is ∙ ap Sign ((bytes_eq-Decides text (codes "++")).0 k) in
    let none : written operator_text operators (sign_at (t ∷ after)).0 ≡ None = rw step refl in
    let some = operator_is t after behind op sign in
    absurd (cc)
sign_alien false false text t after behind op h k is sign = refl

module _ (mark : Token) (alien : is_alien (symbol mark) ≡ true) where
  -- the lists begin with one token
  same_apart : {r r' ts us : List Token} (t : Token) → Agree mark r r' ts us → Apart t ts → Apart t us
  same_apart t at_mark apart = apart
  same_apart t (before a) apart = apart

  same_no_equal : {r r' ts us : List Token} (t : Token) → Agree mark r r' ts us → NoEqual t ts → NoEqual t us
  same_no_equal t at_mark none = none
  same_no_equal t (before a) none = none

  joined_by : (b : Bool) (t p : Token) (sign : String) → is_sign sign (symbol p) ≡ b → is_alien (Sign (codes sign)) ≡ false → joins t sign p ≡ true → is_alien (symbol p) ≡ false
  joined_by true t p sign is h j = ap is_alien (is_sign-true sign (symbol p) is) ∙ h
  joined_by false t p sign is h j = absurd (false≢true (sym (ap (λ b. touches t p && b) is ∙ and-false (touches t p)) ∙ j))

  joined_alien : (t p : Token) (sign : String) → is_alien (Sign (codes sign)) ≡ false → joins t sign p ≡ true → is_alien (symbol p) ≡ false
  joined_alien t p sign h j = joined_by (is_sign sign (symbol p)) t p sign refl h j

  operator_alien_by : (s : Symbol) (t : Token) (after behind : List Token) (op : Operator) → symbol t ≡ s → sign_at (t ∷ after) ≡ (codes (operator_text op), behind) → is_alien s ≡ false
  operator_alien_by Name t after behind op is h = refl
  operator_alien_by (Number wide) t after behind op is h = refl
  operator_alien_by Text t after behind op is h = refl
  operator_alien_by End t after behind op is h = absurd (no_end_operator t after behind op is h)
  operator_alien_by (Sign text) t after behind op is h = sign_alien (bytes_eq text (codes ";")) (bytes_eq text (codes "++")) text t after behind op refl refl is h

  operator_alien : (t : Token) (after behind : List Token) (op : Operator) → sign_at (t ∷ after) ≡ (codes (operator_text op), behind) → is_alien (symbol t) ≡ false
  operator_alien t after behind op h = operator_alien_by (symbol t) t after behind op refl h

  -- the lists go on with one token
  pub record Goes (r r' : List Token) (t : Token) (ts us : List Token) : Type 0 where
    pub others : List Token
    pub are : us ≡ t ∷ others
    pub agree : Agree mark r r' ts others

  goes_by : {r r' all us : List Token} → Agree mark r r' all us → (t : Token) (ts : List Token) → all ≡ t ∷ ts → is_alien (symbol t) ≡ false → Goes r r' t ts us
  goes_by at_mark t ts is h = let same : mark ≡ t = cc in absurd (false≢true (sym h ∙ ap (λ (x : Token). is_alien (symbol x)) (sym same) ∙ alien))
  goes_by {r = r} {r' = r'} (before {t = u} {ts = vs} {us = us} a) t ts is h =
      let same : u ≡ t = cc in
      let rest : vs ≡ ts = cc in
      record { others = us; are = ap (λ x. x ∷ us) same; agree = subst (λ vs. Agree mark r r' vs us) rest a }

  pub goes : {r r' ts us : List Token} {t : Token} → Agree mark r r' (t ∷ ts) us → is_alien (symbol t) ≡ false → Goes r r' t ts us
  goes {ts = ts} {t = t} a h = goes_by a t ts refl h

  -- the same tree stands before the other tokens
  pub record Kept {A : Type 0} (N : List Token → A → List Token → Type 0) (r r' us : List Token) (a : A) (rest : List Token) : Type 0 where
    pub rest' : List Token
    pub part : N us a rest'
    pub agree : Agree mark r r' rest rest'

  -- types
  path_kept : {r r' tokens rest path us : List Token} → IsPath tokens path rest → Agree mark r r' tokens us → Kept IsPath r r' us path rest
  path_kept {us = us} ended a = record { rest' = us; part = ended; agree = a }
  path_kept (dotted {dot = dot} {name = name} {path = path} d n p) a =
      let one = goes a (rw d refl) in
      let two = goes one.agree (rw n refl) in
      let more = path_kept p two.agree in
      record {
        rest' = more.rest';
        part = subst (λ ts. IsPath ts (name ∷ path) more.rest') (sym (one.are ∙ ap (λ ts. dot ∷ ts) two.are)) (dotted {dot = dot} {name = name} d n more.part);
        agree = more.agree;
      }

  mutual
    type_kept : {r r' tokens rest us : List Token} {type : TypeTree} → IsType tokens type rest → Agree mark r r' tokens us → Kept IsType r r' us type rest
    type_kept {type = type} (of_word {word = word} {first = first} h p) a =
        let one = goes a (ap is_alien h ∙ word_alien word) in
        let more = path_kept p one.agree in
        record { rest' = more.rest'; part = subst (λ ts. IsType ts type more.rest') (sym one.are) (of_word {word = word} {first = first} h more.part); agree = more.agree }
    type_kept {type = type} (type_of_name {first = first} h p) a =
        let one = goes a (rw h refl) in
        let more = path_kept p one.agree in
        record { rest' = more.rest'; part = subst (λ ts. IsType ts type more.rest') (sym one.are) (type_of_name {first = first} h more.part); agree = more.agree }
    type_kept {type = type} (type_of_generic {first = first} h g p) a =
        let one = goes a (rw h refl) in
        let args = args_kept g one.agree in
        let more = path_kept p args.agree in
        record { rest' = more.rest'; part = subst (λ ts. IsType ts type more.rest') (sym one.are) (type_of_generic {first = first} h args.part more.part); agree = more.agree }

    args_kept : {r r' tokens rest us : List Token} {args : TypeTrees} → IsTypeArgs tokens args rest → Agree mark r r' tokens us → Kept IsTypeArgs r r' us args rest
    args_kept {args = args} (type_args {opening = opening} {closing = closing} h l c) a =
        let one = goes a (rw h refl) in
        let list = list_kept l one.agree in
        let close = goes list.agree (rw c refl) in
        record {
          rest' = close.others;
          part = subst (λ ts. IsTypeArgs ts args close.others) (sym one.are) (type_args {opening = opening} {closing = closing} h (subst (IsTypeList one.others args) close.are list.part) c);
          agree = close.agree;
        }

    list_kept : {r r' tokens rest us : List Token} {args : TypeTrees} → IsTypeList tokens args rest → Agree mark r r' tokens us → Kept IsTypeList r r' us args rest
    list_kept (last_type t) a = let one = type_kept t a in record { rest' = one.rest'; part = last_type one.part; agree = one.agree }
    list_kept {us = us} (more_types {comma = mark'} {type = type} t c l) a =
        let one = type_kept t a in
        let comma = goes one.agree (rw c refl) in
        let more = list_kept l comma.agree in
        record { rest' = more.rest'; part = more_types {comma = mark'} (subst (IsType us type) comma.are one.part) c more.part; agree = more.agree }

  pub type_kept_is : {r r' tokens rest us : List Token} {type : TypeTree} → IsType tokens type rest → Agree mark r r' tokens us → Kept IsType r r' us type rest
  type_kept_is t a = type_kept t a

  leads_alien : (next : Token) → LeadsOn next → is_alien (symbol next) ≡ false
  leads_alien next (inl h) = rw h refl
  leads_alien next (inr (inl h)) = rw h refl
  leads_alien next (inr (inr h)) = rw h refl

  takes_kept : {r r' tokens rest us : List Token} {args : TypeTrees} → TakesTypeArgs tokens args rest → Agree mark r r' tokens us → Kept TakesTypeArgs r r' us args rest
  takes_kept {r = r} {r' = r'} {us = us} {args = args} t a =
      let inner = args_kept t.arguments a in
      let lead = goes (subst (λ ts. Agree mark r r' ts inner.rest') t.rest_is inner.agree) (leads_alien t.next t.leads) in
      record {
        rest' = inner.rest';
        part = record { next = t.next; behind = lead.others; rest_is = lead.are; arguments = inner.part; leads = t.leads };
        agree = inner.agree;
      }

  none_kept : {r r' tokens us : List Token} → TakesNone tokens → Agree mark r r' tokens us → TakesNone us
  none_kept none a args rest t = let back = takes_kept t (agree_back a) in none args back.rest' back.part

  -- operators
  pub record KeptSign (r r' : List Token) (t : Token) (others : List Token) (text : List ℕ) (behind : List Token) : Type 0 where
    pub behind' : List Token
    pub sign : sign_at (t ∷ others) ≡ (text, behind')
    pub agree : Agree mark r r' behind behind'

  parts_kept : {r r' ts behind others : List Token} {t : Token} {op : Operator} → SignParts t ts op behind → Agree mark r r' ts others → KeptSign r r' t others (codes (operator_text op)) behind
  parts_kept {r = r} {r' = r'} {others = others} (one_token g no_end each is) a =
      record { behind' = others; sign = each others; agree = subst (λ ts. Agree mark r r' ts others) (sym is) a }
  parts_kept {r = r} {r' = r'} {ts = ts} {others = others} {t = t} (greater g o is apart) a =
      record {
        behind' = others;
        sign = greater_sign t others g (same_apart t a apart) ∙ ap (λ (op : Operator). (codes (operator_text op), others)) (sym o);
        agree = subst (λ ts. Agree mark r r' ts others) (sym is) a;
      }
  parts_kept {r = r} {r' = r'} {behind = behind} {others = others} {t = t} (greater_equal g p is j k o) a =
      let one = goes (subst (λ ts. Agree mark r r' ts others) is a) (joined_alien t p "=" refl k) in
      record {
        behind' = one.others;
        sign = ap (λ ts. sign_at (t ∷ ts)) one.are ∙ equal_sign t p one.others g j k ∙ ap (λ (op : Operator). (codes (operator_text op), one.others)) (sym o);
        agree = one.agree;
      }
  parts_kept {r = r} {r' = r'} {behind = behind} {others = others} {t = t} (shift g p is j none o) a =
      let one = goes (subst (λ ts. Agree mark r r' ts others) is a) (joined_alien t p ">" refl j) in
      record {
        behind' = one.others;
        sign = ap (λ ts. sign_at (t ∷ ts)) one.are ∙ shift_sign t p one.others g j (same_no_equal p one.agree none) ∙ ap (λ (op : Operator). (codes (operator_text op), one.others)) (sym o);
        agree = one.agree;
      }

  -- expressions
  mutual
    primary_kept : {r r' tokens rest us : List Token} {e : ExprTree} → IsPrimary tokens e rest → Agree mark r r' tokens us → Kept IsPrimary r r' us e rest
    primary_kept {e = e} (of_number {token = t} h) a =
        let one = goes a (rw h refl) in record { rest' = one.others; part = subst (λ ts. IsPrimary ts e one.others) (sym one.are) (of_number {token = t} h); agree = one.agree }
    primary_kept {e = e} (of_true {token = t} h) a =
        let one = goes a (rw h refl) in record { rest' = one.others; part = subst (λ ts. IsPrimary ts e one.others) (sym one.are) (of_true {token = t} h); agree = one.agree }
    primary_kept {e = e} (of_false {token = t} h) a =
        let one = goes a (rw h refl) in record { rest' = one.others; part = subst (λ ts. IsPrimary ts e one.others) (sym one.are) (of_false {token = t} h); agree = one.agree }
    primary_kept {e = e} (of_itself {token = t} h) a =
        let one = goes a (rw h refl) in record { rest' = one.others; part = subst (λ ts. IsPrimary ts e one.others) (sym one.are) (of_itself {token = t} h); agree = one.agree }
    primary_kept {e = e} (of_own_type {token = t} h) a =
        let one = goes a (rw h refl) in record { rest' = one.others; part = subst (λ ts. IsPrimary ts e one.others) (sym one.are) (of_own_type {token = t} h); agree = one.agree }
    primary_kept {e = e} (of_name {token = t} h none) a =
        let one = goes a (rw h refl) in record { rest' = one.others; part = subst (λ ts. IsPrimary ts e one.others) (sym one.are) (of_name {token = t} h (none_kept none one.agree)); agree = one.agree }
    primary_kept {e = e} (of_generic {token = t} h g) a =
        let one = goes a (rw h refl) in
        let args = takes_kept g one.agree in
        record { rest' = args.rest'; part = subst (λ ts. IsPrimary ts e args.rest') (sym one.are) (of_generic {token = t} h args.part); agree = args.agree }
    primary_kept {e = e} (of_functional_cast {word = word} {token = t} {opening = opening} {closing = closing} {operand = operand} s h o inner c) a =
        let one = goes a (ap is_alien h ∙ word_alien word) in
        let two = goes one.agree (rw o refl) in
        let within = expr_kept inner two.agree in
        let close = goes within.agree (rw c refl) in
        record {
          rest' = close.others;
          part = subst (λ ts. IsPrimary ts e close.others) (sym (one.are ∙ ap (λ ts. t ∷ ts) two.are))
              (of_functional_cast {word = word} {token = t} {opening = opening} {closing = closing} s h o (subst (IsExpr two.others operand) close.are within.part) c);
          agree = close.agree;
        }
    primary_kept {e = e} (of_group {opening = opening} {closing = closing} {inner = inner} o i c) a =
        let one = goes a (rw o refl) in
        let within = expr_kept i one.agree in
        let close = goes within.agree (rw c refl) in
        record {
          rest' = close.others;
          part = subst (λ ts. IsPrimary ts e close.others) (sym one.are) (of_group {opening = opening} {closing = closing} o (subst (IsExpr one.others inner) close.are within.part) c);
          agree = close.agree;
        }

    postfix_kept : {r r' tokens rest us : List Token} {e : ExprTree} → IsPostfix tokens e rest → Agree mark r r' tokens us → Kept IsPostfix r r' us e rest
    postfix_kept (of_primary p) a = let one = primary_kept p a in record { rest' = one.rest'; part = of_primary one.part; agree = one.agree }
    postfix_kept {us = us} (of_call {opening = opening} {callee = callee} f o args) a =
        let one = postfix_kept f a in
        let open' = goes one.agree (rw o refl) in
        let more = arguments_kept args open'.agree in
        record { rest' = more.rest'; part = of_call {opening = opening} (subst (IsPostfix us callee) open'.are one.part) o more.part; agree = more.agree }
    postfix_kept {us = us} (of_index {opening = opening} {closing = closing} {base = base} {index = index} f o i c) a =
        let one = postfix_kept f a in
        let open' = goes one.agree (rw o refl) in
        let within = expr_kept i open'.agree in
        let close = goes within.agree (rw c refl) in
        record {
          rest' = close.others;
          part = of_index {opening = opening} {closing = closing} (subst (IsPostfix us base) open'.are one.part) o (subst (IsExpr open'.others index) close.are within.part) c;
          agree = close.agree;
        }
    postfix_kept {us = us} (of_member {dot = dot} {name = name} {base = base} f d n) a =
        let one = postfix_kept f a in
        let two = goes one.agree (⊎_elim (λ (h : Is "." dot). rw h refl) (λ (h : Is "::" dot). rw h refl) d) in
        let three = goes two.agree (rw n refl) in
        record {
          rest' = three.others;
          part = of_member {dot = dot} {name = name} (subst (IsPostfix us base) (two.are ∙ ap (λ ts. dot ∷ ts) three.are) one.part) d n;
          agree = three.agree;
        }

    arguments_kept : {r r' tokens rest us : List Token} {args : ExprTrees} → IsArguments tokens args rest → Agree mark r r' tokens us → Kept IsArguments r r' us args rest
    arguments_kept {args = args} (no_arguments {closing = closing} c) a =
        let one = goes a (rw c refl) in
        record { rest' = one.others; part = subst (λ ts. IsArguments ts args one.others) (sym one.are) (no_arguments {closing = closing} c); agree = one.agree }
    arguments_kept {us = us} {args = args} (some_arguments {closing = closing} l c) a =
        let list = exprs_kept l a in
        let close = goes list.agree (rw c refl) in
        record { rest' = close.others; part = some_arguments {closing = closing} (subst (IsExprList us args) close.are list.part) c; agree = close.agree }

    exprs_kept : {r r' tokens rest us : List Token} {exprs : ExprTrees} → IsExprList tokens exprs rest → Agree mark r r' tokens us → Kept IsExprList r r' us exprs rest
    exprs_kept (last_expr e) a = let one = expr_kept e a in record { rest' = one.rest'; part = last_expr one.part; agree = one.agree }
    exprs_kept {us = us} (more_exprs {comma = comma} {expr = expr} e c l) a =
        let one = expr_kept e a in
        let next = goes one.agree (rw c refl) in
        let more = exprs_kept l next.agree in
        record { rest' = more.rest'; part = more_exprs {comma = comma} (subst (IsExpr us expr) next.are one.part) c more.part; agree = more.agree }

    unary_kept : {r r' tokens rest us : List Token} {e : ExprTree} → IsUnary tokens e rest → Agree mark r r' tokens us → Kept IsUnary r r' us e rest
    unary_kept {e = e} (of_operator {operator = operator} {token = t} h u) a =
        let one = goes a (ap is_alien h ∙ unary_alien operator) in
        let more = unary_kept u one.agree in
        record { rest' = more.rest'; part = subst (λ ts. IsUnary ts e more.rest') (sym one.are) (of_operator {operator = operator} {token = t} h more.part); agree = more.agree }
    unary_kept {e = e} (of_cast {word = word} {opening = opening} {token = t} {closing = closing} o s h c u) a =
        let one = goes a (rw o refl) in
        let two = goes one.agree (ap is_alien h ∙ word_alien word) in
        let three = goes two.agree (rw c refl) in
        let more = unary_kept u three.agree in
        record {
          rest' = more.rest';
          part = subst (λ ts. IsUnary ts e more.rest') (sym (one.are ∙ ap (λ ts. opening ∷ ts) (two.are ∙ ap (λ ts. t ∷ ts) three.are)))
              (of_cast {word = word} {opening = opening} {token = t} {closing = closing} o s h c more.part);
          agree = more.agree;
        }
    unary_kept (of_postfix p) a = let one = postfix_kept p a in record { rest' = one.rest'; part = of_postfix one.part; agree = one.agree }

    binary_kept : {r r' tokens rest us : List Token} {least : ℕ} {e : ExprTree} → IsBinary least tokens e rest → Agree mark r r' tokens us → Kept (IsBinary least) r r' us e rest
    binary_kept (of_unary u) a = let one = unary_kept u a in record { rest' = one.rest'; part = of_unary one.part; agree = one.agree }
    binary_kept {us = us} (of_operands {operator = operator} {token = t} {after = after} {behind = behind} {left = left} le l sign q) a =
        let one = binary_kept l a in
        let two = goes one.agree (operator_alien t after behind operator sign) in
        let kept = parts_kept (sign_parts t after operator behind sign) two.agree in
        let more = binary_kept q kept.agree in
        record { rest' = more.rest'; part = of_operands {operator = operator} {token = t} le (subst (IsBinary (level operator) us left) two.are one.part) kept.sign more.part; agree = more.agree }

    expr_kept : {r r' tokens rest us : List Token} {e : ExprTree} → IsExpr tokens e rest → Agree mark r r' tokens us → Kept IsExpr r r' us e rest
    expr_kept (of_binary b) a = let one = binary_kept b a in record { rest' = one.rest'; part = of_binary one.part; agree = one.agree }
    expr_kept {us = us} (of_condition {question = question} {colon = colon} {condition = condition} {yes' = yes'} b q x c y) a =
        let one = binary_kept b a in
        let two = goes one.agree (rw q refl) in
        let three = expr_kept x two.agree in
        let four = goes three.agree (rw c refl) in
        let more = expr_kept y four.agree in
        record {
          rest' = more.rest';
          part = of_condition {question = question} {colon = colon} (subst (IsBinary 1 us condition) two.are one.part) q (subst (IsExpr two.others yes') four.are three.part) c more.part;
          agree = more.agree;
        }

  -- the same before other tokens
  pub expr_stays : {r r' tokens rest us : List Token} {e : ExprTree} → IsExpr tokens e rest → Agree mark r r' tokens us → Kept IsExpr r r' us e rest
  expr_stays e a = expr_kept e a

  pub exprs_stay : {r r' tokens rest us : List Token} {exprs : ExprTrees} → IsExprList tokens exprs rest → Agree mark r r' tokens us → Kept IsExprList r r' us exprs rest
  exprs_stay l a = exprs_kept l a
