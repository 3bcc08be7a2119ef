-- Which keys a body can use: those of its module.
use Rattle.std.proofs.Common.{◌≡◌, refl, subst, inl, inr, Bool, true, false, cond, List, [], ◌∷◌, Option, Some, None}
use Rattle.std.specs.Prelude.{ℕ, filter_map, find}
use Rattle.std.specs.List.{cons_option}
use Rattle.std.specs.Option.{option_and_then}
use Rattle.sl_key.specs.Flow.{Holds}
use Rattle.sl_key.specs.Names.{declared_at, decls_in, is_called, key_named, key_of, keys_of, name_of}
use Rattle.sl_key.specs.Order.{module_key, path_key}
use Rattle.sl_key.specs.declared.key.Key.{Key}
use Rattle.sl_key.specs.declared.key.Kind.{Kind}
use Rattle.sl_key.specs.declared.key.Kind.TheVariants as kind
use Rattle.sl_key.specs.declared.path.DeclPath.{DeclPath}
use Rattle.sl_key.specs.declared.value.Arithmetic.{Arithmetic}
use Rattle.sl_key.specs.declared.value.Value.{Value}
use Rattle.def_token.specs.Lexical.{Token}
use Rattle.def_tree.specs.ExprTree as expr
use Rattle.def_tree.specs.ExprTree.{ExprTree}
use Rattle.def_tree.specs.TypeTree as written
use Rattle.def_tree.specs.TypeTree.{TypeTree, NoTypes}
use Rattle.def_built.specs.Built.{is_small_number}
use Rattle.def_module.specs.DeclTree as tree
use Rattle.def_module.specs.DeclTree.{ConstTree, DeclTree}
use Rattle.def_query.specs.Keys.{IsIn}
use Rattle.def_body.proofs.Sound.{UsesOnly}
use Rattle.def_body.proofs.Uses.{uses_choice, uses_rule, uses_then}
use Rattle.def_check.specs.Body.{alias_at, alias_part, const_at, const_of, const_part, imports_part, scope_in}
use Rattle.def_check.specs.Evaluate.{Scope, combined, type_at, type_named, type_written, value_at, value_named, value_of, value_written}
use Rattle.def_check.specs.Values.{arithmetic_of, converted, result_of}

-- ---- what a name finds

module _ {A B : Type 0} (test : A → Bool) (f : A → Option B) where
  one_more : (o : Option B) (y : B) (ys : List B) → IsIn y ys → IsIn y (cons_option o ys)
  one_more None y ys i = i
  one_more (Some z) y ys i = inr i

  it_is : (o : Option B) (y : B) (ys : List B) → o ≡ Some y → IsIn y (cons_option o ys)
  it_is None y ys e = absurd (cc)
  it_is (Some z) y ys e = let same : y ≡ z = cc in inl same

  found_by : (b : Bool) (x : A) (xs : List A) (y : B)
      → (option_and_then f (find test xs) ≡ Some y → IsIn y (filter_map f xs))
      → option_and_then f (cond b (Some x) (find test xs)) ≡ Some y
      → IsIn y (cons_option (f x) (filter_map f xs))
  found_by true x xs y more e = it_is (f x) y (filter_map f xs) e
  found_by false x xs y more e = one_more (f x) y (filter_map f xs) (more e)

  -- what a function gives of the first that passes is among what it gives of all
  found : (xs : List A) (y : B) → option_and_then f (find test xs) ≡ Some y → IsIn y (filter_map f xs)
  found [] y e = absurd (cc)
  found (x ∷ xs) y e = found_by (test x) x xs y (found xs y) e

-- the key for which a name stands is one of the keys of the declarations
key_found : («module» : List ℕ) (decls : List DeclTree) (name : List ℕ) (k : Key)
    → key_named «module» decls name ≡ Some k → IsIn k (keys_of «module» decls)
key_found «module» decls name k e =
    found (λ (decl : DeclTree). is_called name (name_of decl)) (key_of «module») decls k e

-- a key of a declaration is that of its path and kind alone
plain_of : («module» : List ℕ) (decl : DeclTree) (k : Key) → key_of «module» decl ≡ Some k → k ≡ path_key k.kind k.path
plain_of «module» (tree.Alias alias) k e = cc
plain_of «module» (tree.Const constant) k e = cc
plain_of «module» _ k e = absurd (cc)

plain_by : («module» : List ℕ) (o : Option DeclTree) (k : Key) → option_and_then (key_of «module») o ≡ Some k
    → k ≡ path_key k.kind k.path
plain_by «module» None k e = absurd (cc)
plain_by «module» (Some decl) k e = plain_of «module» decl k e

-- ---- parts

-- what is written in a scope uses the modules that its module sees, and keys of its declarations
module _ (P : Key → Type 0) (H : (key : Key) → Holds key.kind → Type 0) (scope : Scope)
    (sees : P (module_key kind.Imports scope.module))
    (declared : (k : Key) → IsIn k (keys_of scope.module scope.decls) → P k) where
  key_may : (name : List ℕ) (k : Key) → key_named scope.module scope.decls name ≡ Some k → P (path_key k.kind k.path)
  key_may name k e =
      subst P (plain_by scope.module _ k e) (declared k (key_found scope.module scope.decls name k e))

  uses_type_at : (name : Token) (kind : Kind) (path : DeclPath) → P (path_key kind path)
      → UsesOnly P H (type_at scope name kind path)
  uses_type_at name kind.Alias path p = (p, λ held h. tt)
  uses_type_at name kind.Const path p = tt
  uses_type_at name kind.Syntax path p = (sees, λ held h. tt)
  uses_type_at name kind.Imports path p = (sees, λ held h. tt)

  uses_type_named : (name : Token) (o : Option Key) → key_named scope.module scope.decls name.text ≡ o
      → UsesOnly P H (type_named scope name o)
  uses_type_named name (Some k) e = uses_type_at name k.kind k.path (key_may name.text k e)
  uses_type_named name None e = (sees, λ held h. tt)

  uses_type : (type : TypeTree) → UsesOnly P H (type_written scope type)
  uses_type (written.Word written.Bool' token []) = tt
  uses_type (written.Word written.Int token []) = tt
  uses_type (written.Word written.Uint token []) = tt
  uses_type (written.Named name NoTypes []) = uses_type_named name (key_named scope.module scope.decls name.text) refl
  uses_type other = tt

  uses_value_at : (name : Token) (kind : Kind) (path : DeclPath) → P (path_key kind path)
      → UsesOnly P H (value_at scope name kind path)
  uses_value_at name kind.Const path p = (p, λ held h. tt)
  uses_value_at name kind.Alias path p = (p, λ held h. tt)
  uses_value_at name kind.Syntax path p = (sees, λ held h. tt)
  uses_value_at name kind.Imports path p = (sees, λ held h. tt)

  uses_value_named : (name : Token) (o : Option Key) → key_named scope.module scope.decls name.text ≡ o
      → UsesOnly P H (value_named scope name o)
  uses_value_named name (Some k) e = uses_value_at name k.kind k.path (key_may name.text k e)
  uses_value_named name None e = (sees, λ held h. tt)

  uses_number : (token : Token) → UsesOnly P H (value_written scope token)
  uses_number token = uses_choice P H (is_small_number token.text) _ _ tt tt

  uses_combined : (o : Option Arithmetic) (token : Token) (x y : Value) → UsesOnly P H (combined scope o token x y)
  uses_combined (Some operator) token x y = uses_rule P H (result_of operator x y) _ _
  uses_combined None token x y = tt

  uses_value : (e : ExprTree) → UsesOnly P H (value_of scope e)
  uses_value (expr.Number token) = uses_number token
  uses_value (expr.BooleanLiteral value token) = tt
  uses_value (expr.Name name NoTypes) = uses_value_named name (key_named scope.module scope.decls name.text) refl
  uses_value (expr.Group opening inner) = uses_value inner
  uses_value (expr.Binary operator token left right) =
      uses_then P H (value_of scope left) _ (uses_value left) (λ x.
      uses_then P H (value_of scope right) _ (uses_value right) (λ y.
      uses_combined (arithmetic_of operator) token x y))
  uses_value other = tt

  uses_const_of : (constant : ConstTree) → UsesOnly P H (const_of scope constant)
  uses_const_of constant =
      uses_then P H (type_written scope constant.type) _ (uses_type constant.type) (λ type.
      uses_then P H (value_of scope constant.value) _ (uses_value constant.value) (λ value.
      uses_rule P H (converted type value) _ _))

  uses_alias_at : (path : DeclPath) (o : Option DeclTree) → UsesOnly P H (alias_at scope path o)
  uses_alias_at path (Some (tree.Alias alias)) = uses_type alias.type
  uses_alias_at path _ = tt

  uses_const_at : (path : DeclPath) (o : Option DeclTree) → UsesOnly P H (const_at scope path o)
  uses_const_at path (Some (tree.Const constant)) = uses_const_of constant
  uses_const_at path _ = tt

-- ---- bodies

-- the imports of a module use its syntax
pub uses_imports : (P : Key → Type 0) (H : (key : Key) → Holds key.kind → Type 0) (name : List ℕ)
    → P (module_key kind.Syntax name) → UsesOnly P H (imports_part name)
uses_imports P H name syntax = (syntax, λ text h. tt)

-- aliases and constants use the syntax of their module, the modules that it sees, and keys of its declarations
module _ (P : Key → Type 0) (H : (key : Key) → Holds key.kind → Type 0) (path : DeclPath)
    (syntax : P (module_key kind.Syntax path.module)) (sees : P (module_key kind.Imports path.module))
    (declared : (text : List ℕ) (k : Key) → H (module_key kind.Syntax path.module) text
    → IsIn k (keys_of path.module (decls_in text)) → P k) where
  pub uses_alias : UsesOnly P H (alias_part path)
  uses_alias = (
    syntax,
    λ text h. uses_alias_at P H (scope_in path.module text) sees (λ k i. declared text k h i) path
        (declared_at (decls_in text) path.parts),
  )

  pub uses_const : UsesOnly P H (const_part path)
  uses_const = (
    syntax,
    λ text h. uses_const_at P H (scope_in path.module text) sees (λ k i. declared text k h i) path
        (declared_at (decls_in text) path.parts),
  )
