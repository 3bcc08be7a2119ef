-- What is read as a local or a simple statement is one.
use Rattle.std.proofs.Common.{◌≡◌, ℕ, zero, suc, Bool, true, false, List, [], ◌∷◌, length, refl, sym, ap, subst, codes}
use Rattle.std.specs.Prelude.{Option, Some, None}
use Prim.Native.String.{String}
use Rattle.def_token.specs.Lexical.{Token}
use Rattle.def_tree.specs.ExprTree.{ExprTree, NoExprs, MoreExprs}
use Rattle.def_tree.specs.Expressions.{IsExpr, IsExprList, last_expr, more_exprs}
use Rattle.def_tree.specs.Limits.{Nesting, plain}
use Rattle.def_tree.specs.Operator.{Assignment, assignment_text, Increment, Decrement, SignAt, sign_at}
use Rattle.def_tree.specs.Statements.{binding_text, is_call, IsInit, of_value, of_no_fields, of_fields, MayHaveInit, without_init, with_init, AreDeclarators, last_declarator, more_declarators, MayHaveType, without_type, with_type, IsLocal, of_type, of_const, of_binding, IsSimple, of_assignment, of_postfix_step, of_prefix_step, of_call_statement}
use Rattle.def_tree.specs.StmtTree as tree
use Rattle.def_tree.specs.StmtTree.{Binding, Let, Var, Declarator, InitTree, LocalTree, SimpleTree}
use Rattle.def_tree.specs.Symbol.{symbol, is_sign, Is, IsName}
use Rattle.def_tree.specs.TypeTree.{TypeTree}
use Rattle.def_tree.specs.Types.{IsType}
use Rattle.law_tree.proofs.Symbols.{is_sign-true}
use Rattle.def_reading.specs.Cursor.{Told, At, FarthestFailure}
use Rattle.def_reading.specs.StmtReading.{values_in, fields_in, init_in, maybe_init_in, declarator, declarator_in, with_more, declarators_in, typed_in, maybe_type_in, valued_in, inferred_in, local_in, assignments, assignment_at, alone_by, stepped_in, assigned_by, assigned_in, simple_in}
use Rattle.def_reading.specs.Try.{Reads, Reader, try_then, try_as, refused, choice, up_to, listed, expr_in, type_in}
use Rattle.def_reading.specs.TypeAhead.{names}
use Rattle.law_types.proofs.AheadSound.{names-true}
use Rattle.law_machine.proofs.MachineSigns.{written-some}
use Rattle.law_stmts.proofs.SimpleComes.{assignment_passes}
use Rattle.law_exprs.proofs.TrySound.{Sound, sound_as, sound_by, sound_then, Begins, sound_choice, UpTo, sound_up_to, expr_sound, type_is_sound}

-- a sign with which tokens begin
pub begins_is : {tokens others : List Token} {token : Token} (sign : String) → Begins (is_sign sign) tokens token others → Is sign token
begins_is {token = token} sign b = is_sign-true sign (symbol token) b.passes

-- the reader is sound at each place
abbrev pub SoundAt : {A : Type 0} → (List Token → A → List Token → Type 0) → Reader A → Type 0
SoundAt Whole reader = (at : ℕ) (limit : Option Told) (tokens : List Token) (reach : Option FarthestFailure) → Sound (Whole tokens) (reader reach (At at limit tokens))

-- parts with a comma between them
module _ {A B : Type 0} (Part : List Token → A → List Token → Type 0) (Parts : List Token → B → List Token → Type 0) (more : A → B → B) (none : B) (part : Reader A)
    (last : (a : A) (tokens rest : List Token) → Part tokens a rest → Parts tokens (more a none) rest)
    (first : (a : A) (b : B) (tokens after rest : List Token) (comma : Token) → Part tokens a (comma ∷ after) → Is "," comma → Parts after b rest → Parts tokens (more a b) rest)
    (sound : SoundAt Part part) where
  pub listed_sound : (turns : ℕ) → SoundAt Parts (listed more none part turns)
  listed_sound zero at limit tokens reach = tt
  listed_sound (suc turns) at limit tokens reach =
      sound_then (Part tokens) (Parts tokens)
      (λ a. choice (is_sign ",") plain (λ comma reach place. try_as (more a) (listed more none part turns reach place)) (λ reach place. Reads (more a none) place reach))
      (part reach (At at limit tokens)) (sound at limit tokens reach)
      (λ a at limit rest reach p.
      sound_choice (Parts tokens) (is_sign ",") plain (λ comma reach place. try_as (more a) (listed more none part turns reach place)) (λ reach place. Reads (more a none) place reach)
      at limit rest reach
      (λ comma after at limit b.
      sound_as (Parts after) (Parts tokens) (more a) (listed more none part turns reach (At at limit after))
      (λ others rest more'. first a others tokens after rest comma (subst (Part tokens a) b.are p) (begins_is "," b) more')
      (listed_sound turns at limit after reach))
      (λ n. last a tokens rest p))

-- initialisers
values_sound : (around : Nesting) → SoundAt IsExprList (values_in around)
values_sound around at limit tokens reach =
    listed_sound IsExpr IsExprList MoreExprs NoExprs (expr_in false around) (λ a tokens rest e. last_expr e) (λ a b tokens after rest comma e c l. more_exprs e c l)
    (expr_sound false around) (suc (length tokens)) at limit tokens reach

abbrev of_brace : Token → List Token → InitTree → List Token → Type 0
of_brace opening tokens init rest = IsInit (opening ∷ tokens) init rest

fields_sound : (around : Nesting) (opening : Token) → Is "{" opening → SoundAt (of_brace opening) (fields_in around opening)
fields_sound around opening o at limit tokens reach =
    sound_choice (IsInit (opening ∷ tokens)) (is_sign "}") plain (λ closing reach place. Reads (tree.Fields opening NoExprs) place reach)
    (λ reach place. try_as (tree.Fields opening) (up_to (is_sign "}") (values_in around reach place))) at limit tokens reach
    (λ closing others at limit b. subst (λ ts. IsInit (opening ∷ ts) (tree.Fields opening NoExprs) others) (sym b.are) (of_no_fields o (begins_is "}" b)))
    (λ n. sound_as (UpTo (IsExprList tokens) (is_sign "}")) (IsInit (opening ∷ tokens)) (tree.Fields opening) (up_to (is_sign "}") (values_in around reach (At at limit tokens)))
    (λ values rest u. of_fields o u.part (is_sign-true "}" (symbol u.mark) u.passes))
    (sound_up_to (IsExprList tokens) (is_sign "}") (values_in around reach (At at limit tokens)) (values_sound around at limit tokens reach)))

init_sound : (around : Nesting) → SoundAt IsInit (init_in around)
init_sound around at limit tokens reach =
    sound_choice (IsInit tokens) (is_sign "{") plain (fields_in around) (λ reach place. try_as tree.Value (expr_in false around reach place)) at limit tokens reach
    (λ opening others at limit b. subst (λ ts. Sound (IsInit ts) (fields_in around opening reach (At at limit others))) (sym b.are) (fields_sound around opening (begins_is "{" b) at limit others reach))
    (λ n. sound_as (IsExpr tokens) (IsInit tokens) tree.Value (expr_in false around reach (At at limit tokens)) (λ e rest p. of_value p) (expr_sound false around at limit tokens reach))

maybe_init_sound : (around : Nesting) → SoundAt MayHaveInit (maybe_init_in around)
maybe_init_sound around at limit tokens reach =
    sound_choice (MayHaveInit tokens) (is_sign "=") plain (λ equals reach place. try_as Some (init_in around reach place)) (λ reach place. Reads None place reach) at limit tokens reach
    (λ equals others at limit b. subst (λ ts. Sound (MayHaveInit ts) (try_as Some (init_in around reach (At at limit others)))) (sym b.are)
    (sound_as (IsInit others) (MayHaveInit (equals ∷ others)) Some (init_in around reach (At at limit others)) (λ init rest i. with_init (begins_is "=" b) i) (init_sound around at limit others reach)))
    (λ n. without_init)

-- declarators
pub record IsDeclarator (tokens : List Token) (all : Declarator) (rest : List Token) : Type 0 where
  pub others : List Token
  pub are : tokens ≡ all.name ∷ others
  pub name : IsName all.name
  pub init : MayHaveInit others all.init rest

declarator_sound : (around : Nesting) → SoundAt IsDeclarator (declarator_in around)
declarator_sound around at limit tokens reach =
    sound_choice (IsDeclarator tokens) names plain (λ name reach place. try_as (declarator name) (maybe_init_in around reach place)) refused at limit tokens reach
    (λ name others at limit b. sound_as (MayHaveInit others) (IsDeclarator tokens) (declarator name) (maybe_init_in around reach (At at limit others))
    (λ init rest i. record { others = others; are = b.are; name = names-true (symbol name) b.passes; init = i }) (maybe_init_sound around at limit others reach))
    (λ n. tt)

last_is : (a : Declarator) (tokens rest : List Token) → IsDeclarator tokens a rest → AreDeclarators tokens (a ∷ []) rest
last_is a tokens rest d = subst (λ ts. AreDeclarators ts (a ∷ []) rest) (sym d.are) (last_declarator d.name d.init)

first_is : (a : Declarator) (all : List Declarator) (tokens after rest : List Token) (comma : Token) → IsDeclarator tokens a (comma ∷ after) → Is "," comma → AreDeclarators after all rest → AreDeclarators tokens (a ∷ all) rest
first_is a all tokens after rest comma d c more = subst (λ ts. AreDeclarators ts (a ∷ all) rest) (sym d.are) (more_declarators d.name d.init c more)

declarators_sound : (around : Nesting) → SoundAt AreDeclarators (declarators_in around)
declarators_sound around at limit tokens reach =
    listed_sound IsDeclarator AreDeclarators with_more [] (declarator_in around) last_is first_is (declarator_sound around) (suc (length tokens)) at limit tokens reach

-- locals
pub record IsTyped (word : Option Token) (tokens : List Token) (local : LocalTree) (rest : List Token) : Type 0 where
  pub type : TypeTree
  pub all : List Declarator
  pub after : List Token
  pub is : local ≡ tree.Typed word type all
  pub typed : IsType tokens type after
  pub declared : AreDeclarators after all rest

typed_sound : (around : Nesting) (word : Option Token) → SoundAt (IsTyped word) (typed_in around word)
typed_sound around word at limit tokens reach =
    sound_then (IsType tokens) (IsTyped word tokens) (λ type reach place. try_as (tree.Typed word type) (declarators_in around reach place)) (type_in around reach (At at limit tokens)) (type_is_sound around at limit tokens reach)
    (λ type at limit after reach t. sound_as (AreDeclarators after) (IsTyped word tokens) (tree.Typed word type) (declarators_in around reach (At at limit after))
    (λ all rest d. record { type = type; all = all; after = after; is = refl; typed = t; declared = d }) (declarators_sound around at limit after reach))

maybe_type_sound : (around : Nesting) → SoundAt MayHaveType (maybe_type_in around)
maybe_type_sound around at limit tokens reach =
    sound_choice (MayHaveType tokens) (is_sign ":") plain (λ colon reach place. try_as Some (type_in around reach place)) (λ reach place. Reads None place reach) at limit tokens reach
    (λ colon others at limit b. subst (λ ts. Sound (MayHaveType ts) (try_as Some (type_in around reach (At at limit others)))) (sym b.are)
    (sound_as (IsType others) (MayHaveType (colon ∷ others)) Some (type_in around reach (At at limit others)) (λ type rest t. with_type (begins_is ":" b) t) (type_is_sound around at limit others reach)))
    (λ n. without_type)

abbrev Bound : Binding → Token → List Token → LocalTree → List Token → Type 0
Bound binding word tokens local rest = IsLocal (word ∷ tokens) local rest

inferred_sound : (around : Nesting) (binding : Binding) (word : Token) → Is (binding_text binding) word → SoundAt (Bound binding word) (inferred_in around binding word)
inferred_sound around binding word h at limit tokens reach =
    sound_choice (IsLocal (word ∷ tokens)) names plain (λ name reach place. try_then (λ type. valued_in around (tree.Inferred binding word name type)) (maybe_type_in around reach place)) refused at limit tokens reach
    (λ name others at limit b.
    sound_then (MayHaveType others) (IsLocal (word ∷ tokens)) (λ type. valued_in around (tree.Inferred binding word name type)) (maybe_type_in around reach (At at limit others)) (maybe_type_sound around at limit others reach)
    (λ type at limit after reach t.
    sound_choice (IsLocal (word ∷ tokens)) (is_sign "=") plain (λ equals reach place. try_as (tree.Inferred binding word name type) (expr_in false around reach place)) refused at limit after reach
    (λ equals behind at limit e. sound_as (IsExpr behind) (IsLocal (word ∷ tokens)) (tree.Inferred binding word name type) (expr_in false around reach (At at limit behind))
    (λ value rest v. subst (λ ts. IsLocal (word ∷ ts) (tree.Inferred binding word name type value) rest) (sym b.are)
    (of_binding h (names-true (symbol name) b.passes) (subst (MayHaveType others type) e.are t) (begins_is "=" e) v)) (expr_sound false around at limit behind reach))
    (λ n. tt)))
    (λ n. tt)

of_const_is : (word : Token) (others tokens : List Token) (local : LocalTree) (rest : List Token) → Begins (is_sign "const") tokens word others → IsTyped (Some word) others local rest → IsLocal tokens local rest
of_const_is word others tokens local rest b t =
    subst (λ l. IsLocal tokens l rest) (sym t.is) (subst (λ ts. IsLocal ts (tree.Typed (Some word) t.type t.all) rest) (sym b.are) (of_const (begins_is "const" b) t.typed t.declared))

of_type_is : (tokens : List Token) (local : LocalTree) (rest : List Token) → IsTyped None tokens local rest → IsLocal tokens local rest
of_type_is tokens local rest t = subst (λ l. IsLocal tokens l rest) (sym t.is) (of_type t.typed t.declared)

alone_sound : (b : Bool) (expr : ExprTree) (start : List Token) (at : ℕ) (limit : Option Told) (tokens : List Token) (reach : Option FarthestFailure) → is_call expr ≡ b → IsExpr start expr tokens
    → Sound (IsSimple start) (alone_by b expr reach (At at limit tokens))
alone_sound true expr start at limit tokens reach is e = of_call_statement e is
alone_sound false expr start at limit tokens reach is e = tt

pub sign_with : (found : SignAt) (a : Assignment) → found.0 ≡ codes (assignment_text a) → found ≡ (codes (assignment_text a), found.1)
sign_with (text, rest) a h = ap (λ (t : List ℕ). (t, rest)) h

pub local_sound : (around : Nesting) → SoundAt IsLocal (local_in around)
local_sound around at limit tokens reach =
    let by_const : Reader LocalTree = choice (is_sign "const") plain (λ word. typed_in around (Some word)) (typed_in around None) in
    let by_var : Reader LocalTree = choice (is_sign "var") plain (inferred_in around Var) by_const in
    sound_choice (IsLocal tokens) (is_sign "let") plain (inferred_in around Let) by_var at limit tokens reach
    (λ word others at limit b. subst (λ ts. Sound (IsLocal ts) (inferred_in around Let word reach (At at limit others))) (sym b.are) (inferred_sound around Let word (begins_is "let" b) at limit others reach))
    (λ n. sound_choice (IsLocal tokens) (is_sign "var") plain (inferred_in around Var) by_const at limit tokens reach
    (λ word others at limit b. subst (λ ts. Sound (IsLocal ts) (inferred_in around Var word reach (At at limit others))) (sym b.are) (inferred_sound around Var word (begins_is "var" b) at limit others reach))
    (λ n. sound_choice (IsLocal tokens) (is_sign "const") plain (λ word. typed_in around (Some word)) (typed_in around None) at limit tokens reach
    (λ word others at limit b. sound_by (IsTyped (Some word) others) (IsLocal tokens) (typed_in around (Some word) reach (At at limit others)) (λ local rest t. of_const_is word others tokens local rest b t)
    (typed_sound around (Some word) at limit others reach))
    (λ n. sound_by (IsTyped None tokens) (IsLocal tokens) (typed_in around None reach (At at limit tokens)) (λ local rest t. of_type_is tokens local rest t) (typed_sound around None at limit tokens reach))))

-- simple statements
stepped_sound : (expr : ExprTree) (start : List Token) (at : ℕ) (limit : Option Told) (tokens : List Token) (reach : Option FarthestFailure) → IsExpr start expr tokens → Sound (IsSimple start) (stepped_in expr reach (At at limit tokens))
stepped_sound expr start at limit tokens reach e =
    let decremented : Reader SimpleTree = choice (is_sign "--") plain (λ token reach place. Reads (tree.PostfixStep Decrement expr token) place reach) (alone_by (is_call expr) expr) in
    sound_choice (IsSimple start) (is_sign "++") plain (λ token reach place. Reads (tree.PostfixStep Increment expr token) place reach) decremented at limit tokens reach
    (λ token others at limit b. of_postfix_step (subst (IsExpr start expr) b.are e) (begins_is "++" b))
    (λ n. sound_choice (IsSimple start) (is_sign "--") plain (λ token reach place. Reads (tree.PostfixStep Decrement expr token) place reach) (alone_by (is_call expr) expr) at limit tokens reach
    (λ token others at limit b. of_postfix_step (subst (IsExpr start expr) b.are e) (begins_is "--" b))
    (λ n. alone_sound (is_call expr) expr start at limit tokens reach refl e))

assigned_by_sound : (around : Nesting) (found : Option Assignment) (expr : ExprTree) (start : List Token) (at : ℕ) (limit : Option Told) (token : Token) (tokens : List Token) (reach : Option FarthestFailure)
    → assignment_at (token ∷ tokens) ≡ found → IsExpr start expr (token ∷ tokens) → Sound (IsSimple start) (assigned_by around found expr reach token (At at limit (token ∷ tokens)))
assigned_by_sound around None expr start at limit token tokens reach is e = stepped_sound expr start at limit (token ∷ tokens) reach e
assigned_by_sound around (Some a) expr start at limit token tokens reach is e =
    let sign = sign_with (sign_at (token ∷ tokens)) a (written-some assignment_text assignments (sign_at (token ∷ tokens)).0 a is) in
    let p = assignment_passes a at limit token tokens (sign_at (token ∷ tokens)).1 sign in
    subst (λ place. Sound (IsSimple start) (try_as (tree.Assign a token expr) (expr_in false around reach place))) (sym p.is)
    (sound_as (IsExpr (sign_at (token ∷ tokens)).1) (IsSimple start) (tree.Assign a token expr) (expr_in false around reach (At p.after limit (sign_at (token ∷ tokens)).1))
    (λ value rest v. of_assignment e sign v) (expr_sound false around p.after limit (sign_at (token ∷ tokens)).1 reach))

assigned_sound : (around : Nesting) (expr : ExprTree) (start : List Token) (at : ℕ) (limit : Option Told) (tokens : List Token) (reach : Option FarthestFailure) → IsExpr start expr tokens
    → Sound (IsSimple start) (assigned_in around expr reach (At at limit tokens))
assigned_sound around expr start at limit [] reach e = alone_sound (is_call expr) expr start at limit [] reach refl e
assigned_sound around expr start at limit (token ∷ tokens) reach e = assigned_by_sound around (assignment_at (token ∷ tokens)) expr start at limit token tokens reach refl e

pub simple_sound : (around : Nesting) → SoundAt IsSimple (simple_in around)
simple_sound around at limit tokens reach =
    let by_expr : Reader SimpleTree = λ reach place. try_then (assigned_in around) (expr_in true around reach place) in
    let by_decrement : Reader SimpleTree = choice (is_sign "--") plain (λ token reach place. try_as (tree.PrefixStep Decrement token) (expr_in false around reach place)) by_expr in
    sound_choice (IsSimple tokens) (is_sign "++") plain (λ token reach place. try_as (tree.PrefixStep Increment token) (expr_in false around reach place)) by_decrement at limit tokens reach
    (λ token others at limit b. sound_as (IsExpr others) (IsSimple tokens) (tree.PrefixStep Increment token) (expr_in false around reach (At at limit others))
    (λ e rest p. subst (λ ts. IsSimple ts (tree.PrefixStep Increment token e) rest) (sym b.are) (of_prefix_step (begins_is "++" b) p)) (expr_sound false around at limit others reach))
    (λ n. sound_choice (IsSimple tokens) (is_sign "--") plain (λ token reach place. try_as (tree.PrefixStep Decrement token) (expr_in false around reach place)) by_expr at limit tokens reach
    (λ token others at limit b. sound_as (IsExpr others) (IsSimple tokens) (tree.PrefixStep Decrement token) (expr_in false around reach (At at limit others))
    (λ e rest p. subst (λ ts. IsSimple ts (tree.PrefixStep Decrement token e) rest) (sym b.are) (of_prefix_step (begins_is "--" b) p)) (expr_sound false around at limit others reach))
    (λ n. sound_then (IsExpr tokens) (IsSimple tokens) (assigned_in around) (expr_in true around reach (At at limit tokens)) (expr_sound true around at limit tokens reach)
    (λ e at limit rest reach p. assigned_sound around e tokens at limit rest reach p)))
