-- The trees of declarations and modules. A tree keeps what is optional in it where that is written.
use Rattle.std.specs.Prelude.{List, Option}
use Prim.Native.String.{String}
use Rattle.def_token.specs.Lexical.{Token}
use Rattle.def_tree.specs.ExprTree.{ExprTree}
use Rattle.def_tree.specs.StmtTree.{StmtTrees}
use Rattle.def_tree.specs.TypeTree.{TypeTree}

-- the words of access
pub data AccessWord : Type 0 where
  Public : AccessWord
  Internal : AccessWord
  Private : AccessWord

-- how a word of access is written
abbrev pub access_text : AccessWord → String
access_text Public = "public"
access_text Internal = "internal"
access_text Private = "private"

-- a word of access with its token
pub record AccessTree : Type 0 where
  pub word : AccessWord
  pub token : Token

-- an import, with its words `__exported` and `import`
pub record ImportTree : Type 0 where
  pub exported : Option Token
  pub word : Token
  pub name : Token

-- another name of a type, behind the word `typealias`
pub record AliasTree : Type 0 where
  pub access : Option AccessTree
  pub word : Token
  pub name : Token
  pub type : TypeTree

-- a constant, behind the word `static`
pub record ConstTree : Type 0 where
  pub access : Option AccessTree
  pub word : Token
  pub type : TypeTree
  pub name : Token
  pub value : ExprTree

-- a type parameter with its constraint
pub record ParamTree : Type 0 where
  pub name : Token
  pub bound : Option TypeTree

-- what a type conforms to, behind the word `where`
pub record WhereTree : Type 0 where
  pub word : Token
  pub type : TypeTree
  pub bounds : List TypeTree

-- the words before parameters
pub data ModeWord : Type 0 where
  In : ModeWord
  InOut : ModeWord

-- how a word before a parameter is written
abbrev pub mode_text : ModeWord → String
mode_text In = "in"
mode_text InOut = "inout"

-- a word before a parameter, with its token
pub record ModeTree : Type 0 where
  pub word : ModeWord
  pub token : Token

-- a parameter with its semantic
pub record ArgTree : Type 0 where
  pub mode : Option ModeTree
  pub type : TypeTree
  pub name : Token
  pub semantic : Option Token

-- statements behind an opening brace
pub record BlockTree : Type 0 where
  pub opening : Token
  pub stmts : StmtTrees

-- fields of one type
pub record FieldTree : Type 0 where
  pub access : Option AccessTree
  pub type : TypeTree
  pub names : List Token

-- the result, the name and the parameters of a method, behind the word `static`
pub record TailTree : Type 0 where
  pub static : Option Token
  pub type : TypeTree
  pub name : Token
  pub args : List ArgTree

-- the head of a requirement, behind the word `mutating`
pub record HeadTree : Type 0 where
  pub mutating : Option Token
  pub access : Option AccessTree
  pub tail : TailTree

-- a requirement, and its own body where it has one
pub record RequireTree : Type 0 where
  pub head : HeadTree
  pub body : Option BlockTree

-- a method, behind the words `mutating` and `override`
pub record MethodTree : Type 0 where
  pub mutating : Option Token
  pub access : Option AccessTree
  pub override : Option Token
  pub tail : TailTree
  pub body : BlockTree

-- an associated type, behind the word `associatedtype`
pub record AssocTree : Type 0 where
  pub word : Token
  pub name : Token
  pub bases : List TypeTree

-- what stands in a struct; an extension has methods and aliases alone
pub data MemberTree : Type 0 where
  Field : FieldTree → MemberTree
  Method : MethodTree → MemberTree
  MemberAlias : AliasTree → MemberTree

-- what stands in an interface
pub data ItemTree : Type 0 where
  Require : RequireTree → ItemTree
  Assoc : AssocTree → ItemTree

-- a struct, behind the word `struct`
pub record StructTree : Type 0 where
  pub access : Option AccessTree
  pub word : Token
  pub name : Token
  pub params : List ParamTree
  pub bases : List TypeTree
  pub wheres : List WhereTree
  pub members : List MemberTree
  pub semicolon : Option Token

-- an interface, behind the word `interface`
pub record InterfaceTree : Type 0 where
  pub access : Option AccessTree
  pub word : Token
  pub name : Token
  pub bases : List TypeTree
  pub items : List ItemTree
  pub semicolon : Option Token

-- more methods and aliases of a type, behind the word `extension`
pub record ExtensionTree : Type 0 where
  pub access : Option AccessTree
  pub word : Token
  pub type : TypeTree
  pub bases : List TypeTree
  pub members : List MemberTree
  pub semicolon : Option Token

-- the kinds of buffers: those that are read, and those that are written too
pub data BufferKind : Type 0 where
  ReadOnly : BufferKind
  ReadWrite : BufferKind

-- how a kind of buffer is written
abbrev pub buffer_text : BufferKind → String
buffer_text ReadOnly = "StructuredBuffer"
buffer_text ReadWrite = "RWStructuredBuffer"

-- the binding and the set of a buffer, behind an opening bracket
pub record BindingTree : Type 0 where
  pub opening : Token
  pub number : Token
  pub set : Option Token

-- a buffer of a kind, with the word of the kind
pub record BufferTree : Type 0 where
  pub binding : Option BindingTree
  pub access : Option AccessTree
  pub kind : BufferKind
  pub word : Token
  pub element : TypeTree
  pub name : Token

-- an attribute of a function, with its opening bracket and its word: a stage, or three numbers of
-- threads
pub data AttrTree : Type 0 where
  Shader : Token → Token → Token → AttrTree
  NumThreads : Token → Token → Token → Token → Token → AttrTree

-- a function
pub record FunctionTree : Type 0 where
  pub attrs : List AttrTree
  pub access : Option AccessTree
  pub type : TypeTree
  pub name : Token
  pub params : List ParamTree
  pub args : List ArgTree
  pub wheres : List WhereTree
  pub body : BlockTree

-- a declaration by its form
pub data DeclTree : Type 0 where
  Import : ImportTree → DeclTree
  Alias : AliasTree → DeclTree
  Const : ConstTree → DeclTree
  Struct : StructTree → DeclTree
  Interface : InterfaceTree → DeclTree
  Extension : ExtensionTree → DeclTree
  Buffer : BufferTree → DeclTree
  Function : FunctionTree → DeclTree

-- a module: its name behind the word `module`, and its declarations
pub record ModuleTree : Type 0 where
  pub name : Option Token
  pub decls : List DeclTree
