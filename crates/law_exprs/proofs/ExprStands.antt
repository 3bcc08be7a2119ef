-- Expressions before other tokens than those that stand behind them.
use Rattle.std.proofs.Common.{◌≡◌, inl, inr, ℕ, suc, true, false, List, [], ◌∷◌, ◌++◌, refl, sym, ap, subst, ◌∙◌, codes, append_assoc}
use Rattle.std.proofs.lemmas.Bool.{false≢true, or_parts, or_from}
use Rattle.def_token.specs.Lexical.{Token}
use Rattle.def_tree.specs.ExprTree as tree
use Rattle.def_tree.specs.ExprTree.{ExprTree, ExprTrees}
use Rattle.def_tree.specs.Expressions.{LeadsOn, TakesTypeArgs, IsPrimary, of_number, of_true, of_false, of_itself, of_name, of_generic, of_functional_cast, of_own_type, of_group, IsPostfix, of_primary, of_call, of_index, of_member, IsArguments, no_arguments, some_arguments, IsExprList, last_expr, more_exprs, IsUnary, of_operator, of_cast, of_postfix, IsBinary, of_unary, of_operands, IsExpr, of_binary, of_condition}
use Rattle.def_tree.specs.Operator.{Operator, operator_text, level, SignAt, sign_at}
use Rattle.def_tree.specs.Part.{expr_goes_on, begins_with_operator}
use Rattle.def_tree.specs.Statements.{begins_with}
use Rattle.def_tree.specs.Symbol.{IsName}
use Rattle.def_tree.specs.TypeTree.{TypeTrees}
use Rattle.def_reading.specs.TypeAhead.{leads_on}
use Rattle.def_reading.specs.TypeReading.{Ended}
use Rattle.law_types.proofs.AheadKept.{ended_cons, ended_front}
use Rattle.law_exprs.proofs.Quiet.{Kept, kept_cons, kept_front}
use Rattle.law_machine.proofs.SignParts.{SignParts, one_token, greater, greater_equal, shift, sign_parts, Apart, NoEqual, greater_sign, equal_sign, shift_sign}
use Rattle.law_types.proofs.TypeStable.{args_stable, takes_stable}

-- what may stand in place of other tokens behind an expression
record Follow (rest new : List Token) : Type 0 where
  kept : Kept rest new
  leading : (next : Token) (behind : List Token) → rest ≡ next ∷ behind → LeadsOn next → (others : List Token) × (new ≡ next ∷ others)

-- lists that are one have one first token
token_is : (t u : Token) (ts us : List Token) → t ∷ ts ≡ u ∷ us → t ≡ u
token_is t u ts us h = cc

-- other tokens behind one token
follow_cons : (t : Token) (rest new : List Token) → Kept rest new → Follow (t ∷ rest) (t ∷ new)
follow_cons t rest new k = record { kept = kept_cons t rest new k; leading = λ next behind is leads. (new, ap (λ t. t ∷ new) (token_is t next rest behind is)) }

-- a tree before other tokens
record Stands {A : Type 0} (R : List Token → A → List Token → Type 0) (tokens : List Token) (a : A) (rest : List Token) : Type 0 where
  first : Token
  others : List Token
  are : tokens ≡ first ∷ (others ++ rest)
  stands : (new : List Token) → Follow rest new → R (first ∷ (others ++ new)) a new

-- tokens before tokens that end do so too
stands_ended : {A : Type 0} {R : List Token → A → List Token → Type 0} {tokens rest : List Token} {a : A} → Stands R tokens a rest → Ended rest → Ended tokens
stands_ended {rest = rest} s end = subst Ended (sym s.are) (ended_cons s.first (s.others ++ rest) (ended_front s.others rest end))

-- a tree as a part of another
stands_as : {A B : Type 0} {R : List Token → A → List Token → Type 0} {S : List Token → B → List Token → Type 0} {tokens rest : List Token} {a : A} {b : B} → Stands R tokens a rest
    → ((ts new : List Token) → R ts a new → S ts b new) → Stands S tokens b rest
stands_as s f = record { first = s.first; others = s.others; are = s.are; stands = λ new k. f (s.first ∷ (s.others ++ new)) new (s.stands new k) }

-- a token alone
alone : {A : Type 0} {R : List Token → A → List Token → Type 0} {a : A} (t : Token) (rest : List Token) → ((new : List Token) → Follow rest new → R (t ∷ new) a new) → Stands R (t ∷ rest) a rest
alone t rest f = record { first = t; others = []; are = refl; stands = f }

-- a token before a tree
before : {A B : Type 0} {R : List Token → A → List Token → Type 0} {S : List Token → B → List Token → Type 0} {tokens rest : List Token} {a : A} {b : B} (t : Token) → Stands R tokens a rest
    → ((ts new : List Token) → R ts a new → S (t ∷ ts) b new) → Stands S (t ∷ tokens) b rest
before t s f = record { first = t; others = s.first ∷ s.others; are = ap (λ ts. t ∷ ts) s.are; stands = λ new k. f (s.first ∷ (s.others ++ new)) new (s.stands new k) }

-- a tree before a token
closed : {A B : Type 0} {R : List Token → A → List Token → Type 0} {S : List Token → B → List Token → Type 0} {tokens rest : List Token} {a : A} {b : B} (t : Token) → Stands R tokens a (t ∷ rest)
    → ((ts new : List Token) → R ts a (t ∷ new) → S ts b new) → Stands S tokens b rest
closed {S = S} {rest = rest} {b = b} t s f =
    record {
      first = s.first;
      others = s.others ++ t ∷ [];
      are = s.are ∙ ap (λ ts. s.first ∷ ts) (sym (append_assoc s.others (t ∷ []) rest));
      stands = λ new k.
          subst (λ ts. S (s.first ∷ ts) b new) (sym (append_assoc s.others (t ∷ []) new)) (f (s.first ∷ (s.others ++ t ∷ new)) new (s.stands (t ∷ new) (follow_cons t rest new k.kept)));
    }

-- a tree behind a tree
both : {A C : Type 0} {R : List Token → A → List Token → Type 0} {S : List Token → C → List Token → Type 0} {tokens mid rest : List Token} {a : A} {c : C} → Stands R tokens a mid
    → Stands (λ mid c new. (ts : List Token) → R ts a mid → S ts c new) mid c rest → Stands S tokens c rest
both {R = R} {S = S} {rest = rest} {a = a} {c = c} s p =
    record {
      first = s.first;
      others = s.others ++ p.first ∷ p.others;
      are = s.are ∙ ap (λ ts. s.first ∷ (s.others ++ ts)) p.are ∙ ap (λ ts. s.first ∷ ts) (sym (append_assoc s.others (p.first ∷ p.others) rest));
      stands = λ new k.
          subst (λ ts. S (s.first ∷ ts) c new) (sym (append_assoc s.others (p.first ∷ p.others) new))
          (p.stands new k (s.first ∷ (s.others ++ p.first ∷ (p.others ++ new)))
          (s.stands (p.first ∷ (p.others ++ new))
          (subst (λ mid. Follow mid (p.first ∷ (p.others ++ new))) (sym p.are)
          (follow_cons p.first (p.others ++ rest) (p.others ++ new) (kept_front p.others rest new k.kept)))));
    }

-- a name with type arguments
generic_stands : {token : Token} {tokens rest : List Token} {args : TypeTrees} → IsName token → TakesTypeArgs tokens args rest → Stands IsPrimary (token ∷ tokens) (tree.Name token args) rest
generic_stands {token = token} {tokens = tokens} {rest = rest} {args = args} h t =
    let s = args_stable t.arguments in
    record {
      first = token;
      others = s.piece;
      are = ap (λ ts. token ∷ ts) s.are;
      stands = λ new k.
          let lead = k.leading t.next t.behind t.rest_is t.leads in
          let takes = takes_stable s.piece t.next t.behind lead.0
          (subst (TakesTypeArgs (s.piece ++ t.next ∷ t.behind) args) t.rest_is (subst (λ ts. TakesTypeArgs ts args rest) (s.are ∙ ap (λ ts. s.piece ++ ts) t.rest_is) t)) in
          of_generic h (subst (λ ts. TakesTypeArgs (s.piece ++ ts) args ts) (sym lead.1) takes);
    }

-- an operator's sign and the tokens behind it
abbrev pair : Operator → List Token → SignAt
pair op ts = (codes (operator_text op), ts)

-- an operator before its right operand
module _ {A : Type 0} (op : Operator) (R S : List Token → A → List Token → Type 0) (right whole : A) (t : Token)
    (f : (after behind new : List Token) → sign_at (t ∷ after) ≡ pair op behind → R behind right new → S (t ∷ after) whole new) where
  operator_stands : {after behind rest : List Token} → SignParts t after op behind → Stands R behind right rest → Stands S (t ∷ after) whole rest
  operator_stands (one_token g no_end each is) r =
      record {
        first = t;
        others = r.first ∷ r.others;
        are = ap (λ ts. t ∷ ts) (sym is ∙ r.are);
        stands = λ new k. let ts = r.first ∷ (r.others ++ new) in f ts ts new (each ts) (r.stands new k);
      }
  operator_stands (greater g o is apart) r =
      record {
        first = t;
        others = r.first ∷ r.others;
        are = ap (λ ts. t ∷ ts) (sym is ∙ r.are);
        stands = λ new k.
            let ts = r.first ∷ (r.others ++ new) in
            f ts ts new (greater_sign t ts g (subst (Apart t) (sym is ∙ r.are) apart) ∙ ap (λ op. pair op ts) (sym o)) (r.stands new k);
      }
  operator_stands (greater_equal g p is j k o) r =
      record {
        first = t;
        others = p ∷ r.first ∷ r.others;
        are = ap (λ ts. t ∷ ts) (is ∙ ap (λ ts. p ∷ ts) r.are);
        stands = λ new h. let ts = r.first ∷ (r.others ++ new) in f (p ∷ ts) ts new (equal_sign t p ts g j k ∙ ap (λ op. pair op ts) (sym o)) (r.stands new h);
      }
  operator_stands (shift g p is j none o) r =
      record {
        first = t;
        others = p ∷ r.first ∷ r.others;
        are = ap (λ ts. t ∷ ts) (is ∙ ap (λ ts. p ∷ ts) r.are);
        stands = λ new h.
            let ts = r.first ∷ (r.others ++ new) in f (p ∷ ts) ts new (shift_sign t p ts g j (subst (NoEqual p) r.are none) ∙ ap (λ op. pair op ts) (sym o)) (r.stands new h);
      }

mutual
  -- primaries
  primary_stands : {tokens rest : List Token} {e : ExprTree} → IsPrimary tokens e rest → Ended rest → Stands IsPrimary tokens e rest
  primary_stands (of_number {token = t} {rest = rest} h) end = alone t rest (λ new k. of_number h)
  primary_stands (of_true {token = t} {rest = rest} h) end = alone t rest (λ new k. of_true h)
  primary_stands (of_false {token = t} {rest = rest} h) end = alone t rest (λ new k. of_false h)
  primary_stands (of_itself {token = t} {rest = rest} h) end = alone t rest (λ new k. of_itself h)
  primary_stands (of_own_type {token = t} {rest = rest} h) end = alone t rest (λ new k. of_own_type h)
  primary_stands (of_name {token = t} {rest = rest} h none) end = alone t rest (λ new k. of_name h (k.kept [] end none))
  primary_stands (of_generic h g) end = generic_stands h g
  primary_stands (of_functional_cast {token = t} {opening = opening} {closing = closing} {tokens = tokens} {rest = rest} {operand = operand} s h o e c) end =
      let inner : Stands (λ ts e new. IsExpr ts e (closing ∷ new)) tokens operand rest = closed closing (expr_stands_in e (ended_cons closing rest end)) (λ ts new p. p) in
      record {
        first = t;
        others = opening ∷ inner.first ∷ inner.others;
        are = ap (λ ts. t ∷ opening ∷ ts) inner.are;
        stands = λ new k. of_functional_cast s h o (inner.stands new k) c;
      }
  primary_stands (of_group {opening = opening} {closing = closing} {rest = rest} o e c) end =
      before {R = λ ts e new. IsExpr ts e (closing ∷ new)} opening (closed closing (expr_stands_in e (ended_cons closing rest end)) (λ ts new p. p)) (λ ts new p. of_group o p c)

  -- postfixes
  postfix_stands : {tokens rest : List Token} {e : ExprTree} → IsPostfix tokens e rest → Ended rest → Stands IsPostfix tokens e rest
  postfix_stands (of_primary p) end = stands_as (primary_stands p end) (λ ts new p. of_primary p)
  postfix_stands (of_call {opening = opening} {behind = behind} f o a) end =
      let args = arguments_stand a end in
      both (postfix_stands f (ended_cons opening behind (stands_ended args end))) (before opening args (λ ts new p all q. of_call q o p))
  postfix_stands (of_index {opening = opening} {closing = closing} {behind = behind} {rest = rest} f o e c) end =
      let inner = expr_stands_in e (ended_cons closing rest end) in
      both (postfix_stands f (ended_cons opening behind (stands_ended inner (ended_cons closing rest end))))
      (before {R = λ ts e new. IsExpr ts e (closing ∷ new)} opening (closed closing inner (λ ts new p. p)) (λ ts new p all q. of_index q o p c))
  postfix_stands (of_member {dot = dot} {name = name} {rest = rest} f d n) end =
      let base = postfix_stands f (ended_cons dot (name ∷ rest) (ended_cons name rest end)) in
      closed {R = λ ts e new. IsPostfix ts e (dot ∷ new)} name (closed dot base (λ ts new p. p)) (λ ts new p. of_member p d n)

  -- arguments of calls
  arguments_stand : {tokens rest : List Token} {args : ExprTrees} → IsArguments tokens args rest → Ended rest → Stands IsArguments tokens args rest
  arguments_stand (no_arguments {closing = closing} {rest = rest} c) end = alone closing rest (λ new k. no_arguments c)
  arguments_stand (some_arguments {closing = closing} {rest = rest} l c) end = closed closing (list_stands l (ended_cons closing rest end)) (λ ts new p. some_arguments p c)

  -- lists of expressions
  list_stands : {tokens rest : List Token} {args : ExprTrees} → IsExprList tokens args rest → Ended rest → Stands IsExprList tokens args rest
  list_stands (last_expr e) end = stands_as (expr_stands_in e end) (λ ts new p. last_expr p)
  list_stands (more_exprs {comma = comma} {behind = behind} e c l) end =
      let more = list_stands l end in
      both (expr_stands_in e (ended_cons comma behind (stands_ended more end))) (before comma more (λ ts new p all q. more_exprs q c p))

  -- operators before their operands
  unary_stands : {tokens rest : List Token} {e : ExprTree} → IsUnary tokens e rest → Ended rest → Stands IsUnary tokens e rest
  unary_stands (of_operator {token = t} h u) end = before t (unary_stands u end) (λ ts new p. of_operator h p)
  unary_stands (of_cast {word = word} {opening = opening} {token = t} {closing = closing} o s h c u) end =
      let operand = unary_stands u end in
      record {
        first = opening;
        others = t ∷ closing ∷ operand.first ∷ operand.others;
        are = ap (λ ts. opening ∷ t ∷ closing ∷ ts) operand.are;
        stands = λ new k. of_cast {word = word} o s h c (operand.stands new k);
      }
  unary_stands (of_postfix p) end = stands_as (postfix_stands p end) (λ ts new p. of_postfix p)

  -- operators with two operands
  binary_stands : {least : ℕ} {tokens rest : List Token} {e : ExprTree} → IsBinary least tokens e rest → Ended rest → Stands (IsBinary least) tokens e rest
  binary_stands (of_unary u) end = stands_as (unary_stands u end) (λ ts new p. of_unary p)
  binary_stands {least = least} (of_operands {operator = op} {token = t} {after = after} {behind = behind} {left = left} {right = right} le l sign r) end =
      let parts = sign_parts t after op behind sign in
      let operand = binary_stands r end in
      let behind' = operator_stands op (IsBinary (suc (level op)))
      (λ mid e new. (ts : List Token) → IsBinary (level op) ts left mid → IsBinary least ts e new) right (tree.Binary op t left right) t
      (λ after behind new sign p ts q. of_operands le q sign p) parts operand in
      both (binary_stands l (stands_ended behind' end)) behind'

  -- expressions
  expr_stands_in : {tokens rest : List Token} {e : ExprTree} → IsExpr tokens e rest → Ended rest → Stands IsExpr tokens e rest
  expr_stands_in (of_binary b) end = stands_as (binary_stands b end) (λ ts new p. of_binary p)
  expr_stands_in (of_condition {question = question} {colon = colon} {behind = behind} {after = after} {rest = rest} {condition = condition} {yes' = yes'} {no' = no'} b q x c y) end =
      let last = expr_stands_in y end in
      let first = expr_stands_in x (ended_cons colon after (stands_ended last end)) in
      let Arms : List Token → ExprTree → List Token → Type 0 = λ ts e new. (after : List Token) × IsExpr ts yes' (colon ∷ after) × IsExpr after e new in
      let arms : Stands Arms behind no' rest = both first (before colon last (λ ts new p all z. (ts, z, p))) in
      both (binary_stands b (ended_cons question behind (stands_ended arms end))) (before question arms (λ ts new p all z. of_condition z q p.1 c p.2))

-- an expression before others tokens than those that stand behind it, which lead on nothing
pub record StandsBefore {A : Type 0} (R : List Token → A → List Token → Type 0) (tokens : List Token) (a : A) (rest : List Token) : Type 0 where
  pub piece : List Token
  pub are : tokens ≡ piece ++ rest
  pub some : piece ≡ [] → ⊥
  pub stands : (new : List Token) → Kept rest new → R (piece ++ new) a new

-- a token that leads on
leads_is : (next : Token) (behind : List Token) → LeadsOn next → leads_on (next ∷ behind) ≡ true
leads_is next behind (inl h) = rw h refl
leads_is next behind (inr (inl h)) = rw h refl
leads_is next behind (inr (inr h)) = rw h refl

-- a token and others are some tokens
no_piece : (t : Token) (ts : List Token) → t ∷ ts ≡ [] → ⊥
no_piece t ts h = cc

-- an expression before other tokens, where nothing leads on behind it
pub expr_stands : {tokens rest : List Token} {e : ExprTree} → IsExpr tokens e rest → Ended rest → leads_on rest ≡ false → StandsBefore IsExpr tokens e rest
expr_stands {rest = rest} p end no_lead =
    let s = expr_stands_in p end in
    record {
      piece = s.first ∷ s.others;
      are = s.are;
      some = no_piece s.first s.others;
      stands = λ new k. s.stands new (record { kept = k; leading = λ next behind is leads. absurd (false≢true (sym no_lead ∙ ap leads_on is ∙ leads_is next behind leads)) });
    }

-- tokens that do not go on do not lead on
pub no_lead : (ts : List Token) → expr_goes_on ts ≡ false → leads_on ts ≡ false
no_lead ts h =
    let signs = (or_parts (begins_with_operator ts) _ h).1 in
    let a = or_parts (begins_with "?" ts) _ signs in
    let b = or_parts (begins_with "(" ts) _ a.1 in
    let c = or_parts (begins_with "[" ts) _ b.1 in
    let d = or_parts (begins_with "." ts) _ c.1 in
    let e = or_parts (begins_with "::" ts) _ d.1 in
    or_from (begins_with "(" ts) _ b.0 (or_from (begins_with "." ts) (begins_with "::" ts) d.0 e.0)
