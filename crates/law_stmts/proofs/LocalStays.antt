-- A local up to a semicolon does not hang on what stands behind the semicolon.
use Rattle.std.proofs.Common.{◌≡◌, false, List, [], ◌∷◌, ◌++◌, refl, sym, ap, subst, ◌∙◌, append_assoc}
use Rattle.std.specs.Prelude.{Option, Some}
use Rattle.def_token.specs.Lexical.{Token}
use Rattle.def_tree.specs.ExprTree.{ExprTree, ExprTrees}
use Rattle.def_tree.specs.Expressions.{IsExpr, IsExprList, last_expr, more_exprs}
use Rattle.def_tree.specs.Part.{expr_goes_on}
use Rattle.def_tree.specs.Statements.{IsInit, of_value, of_no_fields, of_fields, MayHaveInit, without_init, with_init, AreDeclarators, last_declarator, more_declarators, MayHaveType, without_type, with_type, IsLocal, of_type, of_const, of_binding}
use Rattle.def_tree.specs.StmtTree as tree
use Rattle.def_tree.specs.StmtTree.{Declarator, InitTree, LocalTree}
use Rattle.def_tree.specs.Symbol.{Is}
use Rattle.def_tree.specs.TypeTree.{TypeTree}
use Rattle.def_tree.specs.Types.{IsType}
use Rattle.def_reading.specs.TypeReading.{Ended}
use Rattle.law_types.proofs.AheadKept.{ended_front}
use Rattle.law_exprs.proofs.ExprStays.{Stays, expr_stays}
use Rattle.law_types.proofs.TypeStable.{type_stable}

module _ (semicolon : Token) (x y : List Token) (semi : Is ";" semicolon) (end : Ended (semicolon ∷ x)) where
  abbrev Stay : (List Token → Type 0) → List Token → Type 0
  Stay P tokens = Stays semicolon x y P tokens

  behind_ended : (front : List Token) → Ended (front ++ semicolon ∷ x)
  behind_ended front = ended_front front (semicolon ∷ x) end

  -- one token more
  cons : {P Q : List Token → Type 0} {tokens : List Token} (t : Token) → ((ts : List Token) → P ts → Q (t ∷ ts)) → Stay P tokens → Stay Q (t ∷ tokens)
  cons t f s = record { front = t ∷ s.front; are = ap (λ ts. t ∷ ts) s.are; other = f (s.front ++ semicolon ∷ y) s.other }

  expr_stay : {tokens : List Token} {e : ExprTree} (behind : List Token) → IsExpr tokens e (behind ++ semicolon ∷ x) → expr_goes_on (behind ++ semicolon ∷ x) ≡ false → Stay (λ ts. IsExpr ts e (behind ++ semicolon ∷ y)) tokens
  expr_stay behind e goes =
      let s = expr_stays semicolon x y semi behind (record { tree = e; ended = goes }) (behind_ended behind) in
      record { front = s.front; are = s.are; other = s.other.tree }

  type_stay : {tokens : List Token} {type : TypeTree} {rest : List Token} (behind : List Token) → IsType tokens type rest → rest ≡ behind ++ semicolon ∷ x → Stay (λ ts. IsType ts type (behind ++ semicolon ∷ y)) tokens
  type_stay {type = type} behind t is =
      let s = type_stable t in
      record {
        front = s.piece ++ behind;
        are = s.are ∙ ap (λ rest. s.piece ++ rest) is ∙ sym (append_assoc s.piece behind (semicolon ∷ x));
        other = subst (λ ts. IsType ts type (behind ++ semicolon ∷ y)) (sym (append_assoc s.piece behind (semicolon ∷ y))) (s.stable (behind ++ semicolon ∷ y));
      }

  exprs_stay : {tokens rest : List Token} {values : ExprTrees} (mark : Token) (behind : List Token) → IsExprList tokens values rest → rest ≡ mark ∷ (behind ++ semicolon ∷ x) → Is "}" mark
      → Stay (λ ts. IsExprList ts values (mark ∷ (behind ++ semicolon ∷ y))) tokens
  exprs_stay {tokens = tokens} mark behind (last_expr {expr = e} p) is closes =
      let s = expr_stay (mark ∷ behind) (subst (IsExpr tokens e) is p) (rw closes refl) in
      record { front = s.front; are = s.are; other = last_expr s.other }
  exprs_stay {tokens = tokens} mark behind (more_exprs {comma = comma} {expr = e} p c l) is closes =
      let more = exprs_stay mark behind l is closes in
      let s = expr_stay (comma ∷ more.front) (subst (λ ts. IsExpr tokens e (comma ∷ ts)) more.are p) (rw c refl) in
      record { front = s.front; are = s.are; other = more_exprs s.other c more.other }

  init_stay : {tokens rest : List Token} {init : InitTree} (behind : List Token) → IsInit tokens init rest → rest ≡ behind ++ semicolon ∷ x → expr_goes_on (behind ++ semicolon ∷ x) ≡ false → Stay (λ ts. IsInit ts init (behind ++ semicolon ∷ y)) tokens
  init_stay {tokens = tokens} behind (of_value {value = e} p) is goes =
      let s = expr_stay behind (subst (IsExpr tokens e) is p) goes in
      record { front = s.front; are = s.are; other = of_value s.other }
  init_stay behind (of_no_fields {opening = opening} {closing = closing} o c) is goes =
      record { front = opening ∷ closing ∷ behind; are = ap (λ ts. opening ∷ closing ∷ ts) is; other = of_no_fields o c }
  init_stay behind (of_fields {opening = opening} {closing = closing} {values = values} o l c) is goes =
      cons {P = λ ts. IsExprList ts values (closing ∷ (behind ++ semicolon ∷ y))} {Q = λ ts. IsInit ts (tree.Fields opening values) (behind ++ semicolon ∷ y)} opening (λ ts l. of_fields o l c)
      (exprs_stay closing behind l (ap (λ ts. closing ∷ ts) is) c)

  maybe_init_stay : {tokens rest : List Token} {init : Option InitTree} (behind : List Token) → MayHaveInit tokens init rest → rest ≡ behind ++ semicolon ∷ x → expr_goes_on (behind ++ semicolon ∷ x) ≡ false
      → Stay (λ ts. MayHaveInit ts init (behind ++ semicolon ∷ y)) tokens
  maybe_init_stay behind without_init is goes = record { front = behind; are = is; other = without_init }
  maybe_init_stay behind (with_init {equals = equals} {init = init} q i) is goes =
      cons {P = λ ts. IsInit ts init (behind ++ semicolon ∷ y)} {Q = λ ts. MayHaveInit ts (Some init) (behind ++ semicolon ∷ y)} equals (λ ts i. with_init q i) (init_stay behind i is goes)

  declarators_stay : {tokens rest : List Token} {all : List Declarator} → AreDeclarators tokens all rest → rest ≡ semicolon ∷ x → Stay (λ ts. AreDeclarators ts all (semicolon ∷ y)) tokens
  declarators_stay (last_declarator {name = name} {init = init} n i) is =
      cons {P = λ ts. MayHaveInit ts init (semicolon ∷ y)} {Q = λ ts. AreDeclarators ts (record { name = name; init = init } ∷ []) (semicolon ∷ y)} name (λ ts i. last_declarator n i) (maybe_init_stay [] i is (rw semi refl))
  declarators_stay (more_declarators {name = name} {comma = comma} {init = init} {declarators = all} n i c d) is =
      let more = declarators_stay d is in
      cons {P = λ ts. MayHaveInit ts init (comma ∷ (more.front ++ semicolon ∷ y))} {Q = λ ts. AreDeclarators ts (record { name = name; init = init } ∷ all) (semicolon ∷ y)} name (λ ts i. more_declarators n i c more.other)
      (maybe_init_stay (comma ∷ more.front) i (ap (λ ts. comma ∷ ts) more.are) (rw c refl))

  maybe_type_stay : {tokens rest : List Token} {type : Option TypeTree} (behind : List Token) → MayHaveType tokens type rest → rest ≡ behind ++ semicolon ∷ x → Stay (λ ts. MayHaveType ts type (behind ++ semicolon ∷ y)) tokens
  maybe_type_stay behind without_type is = record { front = behind; are = is; other = without_type }
  maybe_type_stay behind (with_type {colon = colon} {type = type} c t) is =
      cons {P = λ ts. IsType ts type (behind ++ semicolon ∷ y)} {Q = λ ts. MayHaveType ts (Some type) (behind ++ semicolon ∷ y)} colon (λ ts t. with_type c t) (type_stay behind t is)

  local_stay_by : {tokens rest : List Token} {local : LocalTree} → IsLocal tokens local rest → rest ≡ semicolon ∷ x → Stay (λ ts. IsLocal ts local (semicolon ∷ y)) tokens
  local_stay_by (of_type {type = type} {declarators = all} t d) is =
      let more = declarators_stay d is in
      let s = type_stay more.front t more.are in
      record { front = s.front; are = s.are; other = of_type s.other more.other }
  local_stay_by (of_const {word = word} {type = type} {declarators = all} w t d) is =
      let more = declarators_stay d is in
      cons {P = λ ts. IsType ts type (more.front ++ semicolon ∷ y)} {Q = λ ts. IsLocal ts (tree.Typed (Some word) type all) (semicolon ∷ y)} word (λ ts t. of_const w t more.other) (type_stay more.front t more.are)
  local_stay_by (of_binding {binding = binding} {word = word} {name = name} {equals = equals} {behind = behind} {type = type} {value = e} w n t q p) is =
      let more = expr_stay [] (subst (IsExpr behind e) is p) (rw semi refl) in
      let s = maybe_type_stay (equals ∷ more.front) t (ap (λ ts. equals ∷ ts) more.are) in
      record { front = word ∷ name ∷ s.front; are = ap (λ ts. word ∷ name ∷ ts) s.are; other = of_binding w n s.other q more.other }

  -- a local up to a semicolon
  pub local_stay : {tokens : List Token} {local : LocalTree} → IsLocal tokens local (semicolon ∷ x) → Stay (λ ts. IsLocal ts local (semicolon ∷ y)) tokens
  local_stay l = local_stay_by l refl
