-- The scopes of a module.
--
-- A scope is what two declarations of one name cannot share: type parameters, parameters, a block,
-- the head of a `for`, each statement behind `if (..)`, `else`, `while (..)` and `for (..)`, what
-- stands in a struct, an interface or an extension, and the module. Scopes are in the order in
-- which they end: one that stands in another comes before it, and the module comes last.
use Rattle.std.specs.Prelude.{Bool, true, false, List, [], ◌∷◌, ◌++◌, map, Option, Some, None}
use Rattle.std.specs.List.{flat_map}
use Rattle.def_token.specs.Lexical.{Token}
use Rattle.def_tree.specs.StmtTree as stmt
use Rattle.def_tree.specs.StmtTree.{Declarator, LocalTree, StartTree, StmtTree, StmtTrees, NoStmts, MoreStmts}
use Rattle.def_module.specs.DeclTree.{ParamTree, ArgTree, BlockTree, MemberTree, Field, Method, MemberAlias, ItemTree, Require, Assoc, DeclTree, Import, Alias, Const, Struct, Interface, Extension, Buffer, Function, ModuleTree}

-- a name that is declared, and whether it is that of a function, a method or a requirement
pub record Declared : Type 0 where
  pub name : Token
  pub overloads : Bool

-- what a scope declares, in order
abbrev pub Scope : Type 0
Scope = List Declared

-- a name of a function, a method or a requirement
abbrev pub called : Token → Declared
called name = record { name = name; overloads = true }

-- another name
abbrev pub single : Token → Declared
single name = record { name = name; overloads = false }

-- what a local declares
abbrev pub local_names : LocalTree → Scope
local_names (stmt.Typed word type declarators) =
    map (λ (declarator : Declarator). single declarator.name) declarators
local_names (stmt.Inferred binding word name type value) = single name ∷ []

-- what the head of a `for` declares
abbrev pub start_names : StartTree → Scope
start_names stmt.NoStart = []
start_names (stmt.LocalStart local) = local_names local
start_names (stmt.SimpleStart simple) = []

-- what a statement declares in the scope where it stands
abbrev pub stmt_names : StmtTree → Scope
stmt_names (stmt.Local local) = local_names local
stmt_names _ = []

-- what the statements of a block declare in it
abbrev pub block_names : StmtTrees → Scope
block_names NoStmts = []
block_names (MoreStmts first more) = stmt_names first ++ block_names more

-- the scopes inside statements
abbrev mutual
  pub stmt_scopes : StmtTree → List Scope
  stmt_scopes (stmt.Block opening stmts) = block_scopes stmts ++ block_names stmts ∷ []
  stmt_scopes (stmt.Local local) = []
  stmt_scopes (stmt.Simple simple) = []
  stmt_scopes (stmt.Empty semicolon) = []
  stmt_scopes (stmt.Return word value) = []
  stmt_scopes (stmt.Break word) = []
  stmt_scopes (stmt.Continue word) = []
  stmt_scopes (stmt.If word condition yes') = stmt_scopes yes' ++ stmt_names yes' ∷ []
  stmt_scopes (stmt.IfElse word condition yes' no') =
      stmt_scopes yes' ++ stmt_names yes' ∷ (stmt_scopes no' ++ stmt_names no' ∷ [])
  stmt_scopes (stmt.While word condition body) = stmt_scopes body ++ stmt_names body ∷ []
  stmt_scopes (stmt.For word start condition step body) =
      start_names start ∷ (stmt_scopes body ++ stmt_names body ∷ [])

  -- the scopes inside the statements of a block
  pub block_scopes : StmtTrees → List Scope
  block_scopes NoStmts = []
  block_scopes (MoreStmts first more) = stmt_scopes first ++ block_scopes more

-- the scopes of a body
abbrev pub body_scopes : BlockTree → List Scope
body_scopes body = stmt_scopes (stmt.Block body.opening body.stmts)

-- the scopes of a body, if there is one
abbrev pub maybe_body_scopes : Option BlockTree → List Scope
maybe_body_scopes None = []
maybe_body_scopes (Some body) = body_scopes body

-- the scope of type parameters
abbrev pub params_scope : List ParamTree → Scope
params_scope params = map (λ (param : ParamTree). single param.name) params

-- the scope of parameters
abbrev pub args_scope : List ArgTree → Scope
args_scope args = map (λ (arg : ArgTree). single arg.name) args

-- what a member declares
abbrev pub member_names : MemberTree → Scope
member_names (Field field) = map single field.names
member_names (Method method) = called method.tail.name ∷ []
member_names (MemberAlias alias) = single alias.name ∷ []

-- the scopes inside a member
abbrev pub member_scopes : MemberTree → List Scope
member_scopes (Field field) = []
member_scopes (Method method) = args_scope method.tail.args ∷ body_scopes method.body
member_scopes (MemberAlias alias) = []

-- what an item of an interface declares
abbrev pub item_names : ItemTree → Scope
item_names (Require require) = called require.head.tail.name ∷ []
item_names (Assoc assoc) = single assoc.name ∷ []

-- the scopes inside an item of an interface
abbrev pub item_scopes : ItemTree → List Scope
item_scopes (Require require) = args_scope require.head.tail.args ∷ maybe_body_scopes require.body
item_scopes (Assoc assoc) = []

-- what a declaration declares in its module; an import and an extension declare nothing
abbrev pub decl_names : DeclTree → Scope
decl_names (Import import') = []
decl_names (Alias alias) = single alias.name ∷ []
decl_names (Const constant) = single constant.name ∷ []
decl_names (Struct struct) = single struct.name ∷ []
decl_names (Interface interface) = single interface.name ∷ []
decl_names (Extension extension) = []
decl_names (Buffer buffer) = single buffer.name ∷ []
decl_names (Function function) = called function.name ∷ []

-- the scopes of members, and the scope that they are
abbrev pub members_scopes : List MemberTree → List Scope
members_scopes members = flat_map member_scopes members ++ flat_map member_names members ∷ []

-- the scopes inside a declaration
abbrev pub decl_scopes : DeclTree → List Scope
decl_scopes (Import import') = []
decl_scopes (Alias alias) = []
decl_scopes (Const constant) = []
decl_scopes (Struct struct) = params_scope struct.params ∷ members_scopes struct.members
decl_scopes (Interface interface) =
    flat_map item_scopes interface.items ++ flat_map item_names interface.items ∷ []
decl_scopes (Extension extension) = members_scopes extension.members
decl_scopes (Buffer buffer) = []
decl_scopes (Function function) =
    params_scope function.params ∷ args_scope function.args ∷ body_scopes function.body

-- the scopes of a module
abbrev pub module_scopes : ModuleTree → List Scope
module_scopes tree = flat_map decl_scopes tree.decls ++ flat_map decl_names tree.decls ∷ []
