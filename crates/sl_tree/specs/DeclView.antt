-- The trees of declarations and modules that the types of this crate stand for, over a source.
use Rattle.std.specs.Prelude.{ℕ, List, map}
use Rattle.std.specs.Option.{option_map}
use Rattle.def_module.specs.DeclTree as trees
use Rattle.sl_token.specs.View.{token_in}
use Rattle.sl_tree.specs.View.{expr_in, stmt_in, stmts_of, type_in}
use Rattle.sl_tree.specs.declared.declarations.AttrTree.{AttrTree}
use Rattle.sl_tree.specs.declared.declarations.AttrTree.TheVariants as attr
use Rattle.sl_tree.specs.declared.declarations.BindingTree.{BindingTree}
use Rattle.sl_tree.specs.declared.declarations.BufferKind.{BufferKind}
use Rattle.sl_tree.specs.declared.declarations.BufferKind.TheVariants as buffer
use Rattle.sl_tree.specs.declared.declarations.BufferTree.{BufferTree}
use Rattle.sl_tree.specs.declared.declarations.ConstTree.{ConstTree}
use Rattle.sl_tree.specs.declared.declarations.DeclTree.{DeclTree}
use Rattle.sl_tree.specs.declared.declarations.DeclTree.TheVariants as decl
use Rattle.sl_tree.specs.declared.declarations.ExtensionTree.{ExtensionTree}
use Rattle.sl_tree.specs.declared.declarations.FunctionTree.{FunctionTree}
use Rattle.sl_tree.specs.declared.declarations.ImportTree.{ImportTree}
use Rattle.sl_tree.specs.declared.declarations.InterfaceTree.{InterfaceTree}
use Rattle.sl_tree.specs.declared.declarations.ModuleTree.{ModuleTree}
use Rattle.sl_tree.specs.declared.declarations.StructTree.{StructTree}
use Rattle.sl_tree.specs.declared.members.AccessTree.{AccessTree}
use Rattle.sl_tree.specs.declared.members.AccessWord.{AccessWord}
use Rattle.sl_tree.specs.declared.members.AccessWord.TheVariants as access
use Rattle.sl_tree.specs.declared.members.AliasTree.{AliasTree}
use Rattle.sl_tree.specs.declared.members.ArgTree.{ArgTree}
use Rattle.sl_tree.specs.declared.members.AssocTree.{AssocTree}
use Rattle.sl_tree.specs.declared.members.BlockTree.{BlockTree}
use Rattle.sl_tree.specs.declared.members.FieldTree.{FieldTree}
use Rattle.sl_tree.specs.declared.members.HeadTree.{HeadTree}
use Rattle.sl_tree.specs.declared.members.ItemTree.{ItemTree}
use Rattle.sl_tree.specs.declared.members.ItemTree.TheVariants as item
use Rattle.sl_tree.specs.declared.members.MemberTree.{MemberTree}
use Rattle.sl_tree.specs.declared.members.MemberTree.TheVariants as member
use Rattle.sl_tree.specs.declared.members.MethodTree.{MethodTree}
use Rattle.sl_tree.specs.declared.members.ModeTree.{ModeTree}
use Rattle.sl_tree.specs.declared.members.ModeWord.{ModeWord}
use Rattle.sl_tree.specs.declared.members.ModeWord.TheVariants as mode
use Rattle.sl_tree.specs.declared.members.ParamTree.{ParamTree}
use Rattle.sl_tree.specs.declared.members.RequireTree.{RequireTree}
use Rattle.sl_tree.specs.declared.members.TailTree.{TailTree}
use Rattle.sl_tree.specs.declared.members.WhereTree.{WhereTree}

-- a word of access as the definitions have it
abbrev pub access_word_of : AccessWord → trees.AccessWord
access_word_of access.Public = trees.Public
access_word_of access.Internal = trees.Internal
access_word_of access.Private = trees.Private

-- a word before a parameter as the definitions have it
abbrev pub mode_word_of : ModeWord → trees.ModeWord
mode_word_of mode.In = trees.In
mode_word_of mode.InOut = trees.InOut

-- a kind of buffers as the definitions have it
abbrev pub buffer_kind_of : BufferKind → trees.BufferKind
buffer_kind_of buffer.ReadOnly = trees.ReadOnly
buffer_kind_of buffer.ReadWrite = trees.ReadWrite

-- the word of access that a tree stands for
abbrev pub access_in : List ℕ → AccessTree → trees.AccessTree
access_in source access =
    record { word = access_word_of access.word; token = token_in source access.token }

-- the alias that a tree stands for
abbrev pub alias_in : List ℕ → AliasTree → trees.AliasTree
alias_in source alias =
    record {
      access = option_map (access_in source) alias.access;
      word = token_in source alias.word;
      name = token_in source alias.name;
      type = type_in source alias.type_;
    }

-- the type parameter that a tree stands for
abbrev pub param_in : List ℕ → ParamTree → trees.ParamTree
param_in source param =
    record { name = token_in source param.name; bound = option_map (type_in source) param.bound }

-- what a type conforms to, as a tree stands for it
abbrev pub where_in : List ℕ → WhereTree → trees.WhereTree
where_in source condition =
    record {
      word = token_in source condition.word;
      type = type_in source condition.type_;
      bounds = map (type_in source) condition.bounds;
    }

-- the word before a parameter that a tree stands for
abbrev pub mode_in : List ℕ → ModeTree → trees.ModeTree
mode_in source mode =
    record { word = mode_word_of mode.word; token = token_in source mode.token }

-- the parameter that a tree stands for
abbrev pub arg_in : List ℕ → ArgTree → trees.ArgTree
arg_in source arg =
    record {
      mode = option_map (mode_in source) arg.mode;
      type = type_in source arg.type_;
      name = token_in source arg.name;
      semantic = option_map (token_in source) arg.semantic;
    }

-- the block that a tree stands for
abbrev pub block_in : List ℕ → BlockTree → trees.BlockTree
block_in source block =
    record {
      opening = token_in source block.opening;
      stmts = stmts_of (map (stmt_in source) block.stmts);
    }

-- the fields that a tree stands for
abbrev pub field_in : List ℕ → FieldTree → trees.FieldTree
field_in source field =
    record {
      access = option_map (access_in source) field.access;
      type = type_in source field.type_;
      names = map (token_in source) field.names;
    }

-- the tail of a method that a tree stands for
abbrev pub tail_in : List ℕ → TailTree → trees.TailTree
tail_in source tail =
    record {
      static = option_map (token_in source) tail.static_;
      type = type_in source tail.type_;
      name = token_in source tail.name;
      args = map (arg_in source) tail.args;
    }

-- the requirement that a tree stands for
abbrev pub head_in : List ℕ → HeadTree → trees.HeadTree
head_in source head =
    record {
      mutating = option_map (token_in source) head.mutating;
      access = option_map (access_in source) head.access;
      tail = tail_in source head.tail;
    }

-- a requirement over a source
abbrev pub require_in : List ℕ → RequireTree → trees.RequireTree
require_in source require =
    record { head = head_in source require.head; body = option_map (block_in source) require.body }

-- the method that a tree stands for
abbrev pub method_in : List ℕ → MethodTree → trees.MethodTree
method_in source method =
    record {
      mutating = option_map (token_in source) method.mutating;
      access = option_map (access_in source) method.access;
      override = option_map (token_in source) method.override_;
      tail = tail_in source method.tail;
      body = block_in source method.body;
    }

-- the associated type that a tree stands for
abbrev pub assoc_in : List ℕ → AssocTree → trees.AssocTree
assoc_in source assoc =
    record {
      word = token_in source assoc.word;
      name = token_in source assoc.name;
      bases = map (type_in source) assoc.bases;
    }

-- the member that a tree stands for
abbrev pub member_in : List ℕ → MemberTree → trees.MemberTree
member_in source (member.Field field) = trees.Field (field_in source field)
member_in source (member.Method method) = trees.Method (method_in source method)
member_in source (member.Alias alias) = trees.MemberAlias (alias_in source alias)

-- the item of an interface that a tree stands for
abbrev pub item_in : List ℕ → ItemTree → trees.ItemTree
item_in source (item.Require require) = trees.Require (require_in source require)
item_in source (item.Assoc assoc) = trees.Assoc (assoc_in source assoc)

-- the import that a tree stands for
abbrev pub import_in : List ℕ → ImportTree → trees.ImportTree
import_in source import' =
    record {
      exported = option_map (token_in source) import'.exported;
      word = token_in source import'.word;
      name = token_in source import'.name;
    }

-- the constant that a tree stands for
abbrev pub const_in : List ℕ → ConstTree → trees.ConstTree
const_in source constant =
    record {
      access = option_map (access_in source) constant.access;
      word = token_in source constant.word;
      type = type_in source constant.type_;
      name = token_in source constant.name;
      value = expr_in source constant.value;
    }

-- the struct that a tree stands for
abbrev pub struct_in : List ℕ → StructTree → trees.StructTree
struct_in source struct =
    record {
      access = option_map (access_in source) struct.access;
      word = token_in source struct.word;
      name = token_in source struct.name;
      params = map (param_in source) struct.params;
      bases = map (type_in source) struct.bases;
      wheres = map (where_in source) struct.wheres;
      members = map (member_in source) struct.members;
      semicolon = option_map (token_in source) struct.semicolon;
    }

-- the interface that a tree stands for
abbrev pub interface_in : List ℕ → InterfaceTree → trees.InterfaceTree
interface_in source interface =
    record {
      access = option_map (access_in source) interface.access;
      word = token_in source interface.word;
      name = token_in source interface.name;
      bases = map (type_in source) interface.bases;
      items = map (item_in source) interface.items;
      semicolon = option_map (token_in source) interface.semicolon;
    }

-- the extension that a tree stands for
abbrev pub extension_in : List ℕ → ExtensionTree → trees.ExtensionTree
extension_in source extension =
    record {
      access = option_map (access_in source) extension.access;
      word = token_in source extension.word;
      type = type_in source extension.type_;
      bases = map (type_in source) extension.bases;
      members = map (member_in source) extension.members;
      semicolon = option_map (token_in source) extension.semicolon;
    }

-- the binding that a tree stands for
abbrev pub binding_in : List ℕ → BindingTree → trees.BindingTree
binding_in source binding =
    record {
      opening = token_in source binding.opening;
      number = token_in source binding.number;
      set = option_map (token_in source) binding.set;
    }

-- the buffer that a tree stands for
abbrev pub buffer_in : List ℕ → BufferTree → trees.BufferTree
buffer_in source buffer =
    record {
      binding = option_map (binding_in source) buffer.binding;
      access = option_map (access_in source) buffer.access;
      kind = buffer_kind_of buffer.kind;
      word = token_in source buffer.word;
      element = type_in source buffer.element;
      name = token_in source buffer.name;
    }

-- the attribute that a tree stands for
abbrev pub attr_in : List ℕ → AttrTree → trees.AttrTree
attr_in source (attr.Shader opening word stage) =
    trees.Shader (token_in source opening) (token_in source word) (token_in source stage)
attr_in source (attr.NumThreads opening word x y z) =
    trees.NumThreads (token_in source opening) (token_in source word)
    (token_in source x) (token_in source y) (token_in source z)

-- the function that a tree stands for
abbrev pub function_in : List ℕ → FunctionTree → trees.FunctionTree
function_in source function =
    record {
      attrs = map (attr_in source) function.attrs;
      access = option_map (access_in source) function.access;
      type = type_in source function.type_;
      name = token_in source function.name;
      params = map (param_in source) function.params;
      args = map (arg_in source) function.args;
      wheres = map (where_in source) function.wheres;
      body = block_in source function.body;
    }

-- the declaration that a tree stands for
abbrev pub decl_in : List ℕ → DeclTree → trees.DeclTree
decl_in source (decl.Import import') = trees.Import (import_in source import')
decl_in source (decl.Alias alias) = trees.Alias (alias_in source alias)
decl_in source (decl.Const constant) = trees.Const (const_in source constant)
decl_in source (decl.Struct struct) = trees.Struct (struct_in source struct)
decl_in source (decl.Interface interface) = trees.Interface (interface_in source interface)
decl_in source (decl.Extension extension) = trees.Extension (extension_in source extension)
decl_in source (decl.Buffer buffer) = trees.Buffer (buffer_in source buffer)
decl_in source (decl.Function function) = trees.Function (function_in source function)

-- the module that a tree stands for
abbrev pub module_in : List ℕ → ModuleTree → trees.ModuleTree
module_in source tree =
    record {
      name = option_map (token_in source) tree.name;
      decls = map (decl_in source) tree.decls;
    }
