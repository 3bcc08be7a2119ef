-- The limits of declarations. As for statements, a tree has an entry for each of its tokens, in
-- order.
--
-- The braces of a struct, an interface and an extension are blocks, as those of a body are; the
-- brackets of attributes and of parameters are brackets. A mark `<` opens nothing: a type is opened
-- by its own first token, so that the types of type parameters and of buffers stand in no other
-- type.
use Rattle.std.specs.Prelude.{suc, List, [], ◌∷◌, ◌++◌, Option, Some, None}
use Rattle.std.specs.List.{flat_map}
use Rattle.def_token.specs.Lexical.{Token}
use Rattle.def_tree.specs.Limits.{Entry, Nesting, all_open, in_block, in_bracket, plain, opens, word_entries, maybe_type_entries, type_entries, whole_entries, stmt_entries}
use Rattle.def_tree.specs.StmtTree as stmt
use Rattle.def_tree.specs.TypeTree.{TypeTree}
use Rattle.def_module.specs.DeclTree.{AccessTree, ImportTree, AliasTree, ConstTree, ParamTree, WhereTree, ArgTree, BlockTree, FieldTree, TailTree, HeadTree, RequireTree, MethodTree, AssocTree, MemberTree, Field, Method, MemberAlias, ItemTree, Require, Assoc, StructTree, InterfaceTree, ExtensionTree, BindingTree, BufferTree, AttrTree, Shader, NumThreads, FunctionTree, DeclTree, Import, Alias, Const, Struct, Interface, Extension, Buffer, Function, ModuleTree}

-- the entry of a form that is one token
abbrev pub one_entry : {A : Type 0} → A → List Entry
one_entry form = plain ∷ []

-- the entries of a form, if there is one
abbrev pub maybe_entries : {A : Type 0} → (A → List Entry) → Option A → List Entry
maybe_entries entries_of None = []
maybe_entries entries_of (Some form) = entries_of form

-- the entries of forms with a comma before each
abbrev pub more_listed_entries : {A : Type 0} → (A → List Entry) → List A → List Entry
more_listed_entries entries_of [] = []
more_listed_entries entries_of (first ∷ more) =
    plain ∷ (entries_of first ++ more_listed_entries entries_of more)

-- the entries of forms with a comma between them
abbrev pub listed_entries : {A : Type 0} → (A → List Entry) → List A → List Entry
listed_entries entries_of [] = []
listed_entries entries_of (first ∷ more) = entries_of first ++ more_listed_entries entries_of more

-- the entry of a word of access, if there is one
abbrev pub access_entries : Option AccessTree → List Entry
access_entries access = maybe_entries one_entry access

-- the entries of an import
abbrev pub import_entries : ImportTree → List Entry
import_entries import' = word_entries import'.exported ++ plain ∷ plain ∷ plain ∷ []

-- the entries of an alias
abbrev pub alias_entries : Nesting → AliasTree → List Entry
alias_entries around alias =
    access_entries alias.access ++ plain ∷ plain ∷ plain
    ∷ (type_entries around.types alias.type ++ plain ∷ [])

-- the entries of a constant
abbrev pub const_entries : Nesting → ConstTree → List Entry
const_entries around constant =
    access_entries constant.access
    ++ plain ∷ plain ∷ (type_entries around.types constant.type
    ++ plain ∷ plain ∷ (whole_entries around constant.value ++ plain ∷ []))

-- the entries of a type parameter
abbrev pub param_entries : Nesting → ParamTree → List Entry
param_entries around param = plain ∷ maybe_type_entries around param.bound

-- the entries of type parameters with their marks, if there are any
abbrev pub params_entries : Nesting → List ParamTree → List Entry
params_entries around [] = []
params_entries around (first ∷ more) =
    plain ∷ (listed_entries (param_entries around) (first ∷ more) ++ plain ∷ [])

-- the entries of bases behind their mark, if there are any
abbrev pub bases_entries : Nesting → List TypeTree → List Entry
bases_entries around [] = []
bases_entries around (first ∷ more) =
    plain ∷ listed_entries (type_entries around.types) (first ∷ more)

-- the entries of what a type conforms to
abbrev pub where_entries : Nesting → WhereTree → List Entry
where_entries around condition =
    plain ∷ (type_entries around.types condition.type ++ bases_entries around condition.bounds)

-- the entries of a semantic with its mark
abbrev pub semantic_entries : Token → List Entry
semantic_entries name = plain ∷ plain ∷ []

-- the entries of a parameter
abbrev pub arg_entries : Nesting → ArgTree → List Entry
arg_entries around arg =
    maybe_entries one_entry arg.mode
    ++ (type_entries around.types arg.type ++ plain ∷ maybe_entries semantic_entries arg.semantic)

-- the entries of parameters in their brackets
abbrev pub args_entries : Nesting → List ArgTree → List Entry
args_entries around args =
    let inside = in_bracket around in
    opens inside.brackets ∷ (listed_entries (arg_entries inside) args ++ plain ∷ [])

-- the entries of a block
abbrev pub block_entries : Nesting → BlockTree → List Entry
block_entries around block = stmt_entries around (stmt.Block block.opening block.stmts)

-- the entries of fields
abbrev pub field_entries : Nesting → FieldTree → List Entry
field_entries around field =
    access_entries field.access
    ++ (type_entries around.types field.type
    ++ (listed_entries one_entry field.names ++ plain ∷ []))

-- the entries of `mutating` in its brackets
abbrev pub mutating_entries : Nesting → Token → List Entry
mutating_entries around word = opens (suc around.brackets) ∷ plain ∷ plain ∷ []

-- the entries of the tail of a method
abbrev pub tail_entries : Nesting → TailTree → List Entry
tail_entries around tail =
    word_entries tail.static
    ++ (type_entries around.types tail.type ++ plain ∷ args_entries around tail.args)

-- the entries of the head of a requirement
abbrev pub head_entries : Nesting → HeadTree → List Entry
head_entries around head =
    maybe_entries (mutating_entries around) head.mutating
    ++ (access_entries head.access ++ tail_entries around head.tail)

-- the entries of a method
abbrev pub method_entries : Nesting → MethodTree → List Entry
method_entries around method =
    maybe_entries (mutating_entries around) method.mutating
    ++ (access_entries method.access
    ++ (word_entries method.override
    ++ (tail_entries around method.tail ++ block_entries around method.body)))

-- the entries of a member
abbrev pub member_entries : Nesting → MemberTree → List Entry
member_entries around (Field field) = field_entries around field
member_entries around (Method method) = method_entries around method
member_entries around (MemberAlias alias) = alias_entries around alias

-- the entries of what a requirement ends with: its own body, or the semicolon
abbrev pub ending_entries : Nesting → Option BlockTree → List Entry
ending_entries around None = plain ∷ []
ending_entries around (Some body) = block_entries around body

-- the entries of a requirement
abbrev pub require_entries : Nesting → RequireTree → List Entry
require_entries around require =
    head_entries around require.head ++ ending_entries around require.body

-- the entries of an associated type
abbrev pub assoc_entries : Nesting → AssocTree → List Entry
assoc_entries around assoc = plain ∷ plain ∷ (bases_entries around assoc.bases ++ plain ∷ [])

-- the entries of an item of an interface
abbrev pub item_entries : Nesting → ItemTree → List Entry
item_entries around (Require require) = require_entries around require
item_entries around (Assoc assoc) = assoc_entries around assoc

-- the entries of forms in braces, which are a block, and of the semicolon behind them
abbrev pub body_entries : {A : Type 0} → (Nesting → A → List Entry) → Nesting → List A
    → Option Token → List Entry
body_entries entries_of around forms semicolon =
    let inside = in_block around in
    opens inside.blocks ∷ (flat_map (entries_of inside) forms ++ plain ∷ word_entries semicolon)

-- the entries of a struct
abbrev pub struct_entries : Nesting → StructTree → List Entry
struct_entries around struct =
    access_entries struct.access
    ++ plain ∷ plain ∷ (params_entries around struct.params
    ++ (bases_entries around struct.bases
    ++ (flat_map (where_entries around) struct.wheres
    ++ body_entries member_entries around struct.members struct.semicolon)))

-- the entries of an interface
abbrev pub interface_entries : Nesting → InterfaceTree → List Entry
interface_entries around interface =
    access_entries interface.access
    ++ plain ∷ plain ∷ (bases_entries around interface.bases
    ++ body_entries item_entries around interface.items interface.semicolon)

-- the entries of an extension
abbrev pub extension_entries : Nesting → ExtensionTree → List Entry
extension_entries around extension =
    access_entries extension.access
    ++ plain ∷ (type_entries around.types extension.type
    ++ (bases_entries around extension.bases
    ++ body_entries member_entries around extension.members extension.semicolon))

-- the entries of the set of a binding with its comma
abbrev pub set_entries : Token → List Entry
set_entries number = plain ∷ plain ∷ []

-- the entries of a binding, whose three brackets stand in each other
abbrev pub binding_entries : Nesting → BindingTree → List Entry
binding_entries around binding =
    let first = in_bracket around in
    let second = in_bracket first in
    let third = in_bracket second in
    opens first.brackets ∷ opens second.brackets ∷ plain ∷ plain ∷ plain ∷ opens third.brackets
    ∷ plain
    ∷ (maybe_entries set_entries binding.set ++ plain ∷ plain ∷ plain ∷ [])

-- the entries of a buffer
abbrev pub buffer_entries : Nesting → BufferTree → List Entry
buffer_entries around buffer =
    maybe_entries (binding_entries around) buffer.binding
    ++ (access_entries buffer.access
    ++ plain ∷ plain ∷ (type_entries around.types buffer.element ++ plain ∷ plain ∷ plain ∷ []))

-- the entries of an attribute, whose two brackets stand in each other
abbrev pub attr_entries : Nesting → AttrTree → List Entry
attr_entries around (Shader opening word stage) =
    let first = in_bracket around in
    let second = in_bracket first in
    opens first.brackets ∷ plain ∷ opens second.brackets ∷ plain ∷ plain ∷ plain ∷ []
attr_entries around (NumThreads opening word x y z) =
    let first = in_bracket around in
    let second = in_bracket first in
    opens first.brackets ∷ plain ∷ opens second.brackets
    ∷ plain ∷ plain ∷ plain ∷ plain ∷ plain ∷ plain ∷ plain ∷ []

-- the entries of a function
abbrev pub function_entries : Nesting → FunctionTree → List Entry
function_entries around function =
    flat_map (attr_entries around) function.attrs
    ++ (access_entries function.access
    ++ (type_entries around.types function.type
    ++ plain ∷ (params_entries around function.params
    ++ (args_entries around function.args
    ++ (flat_map (where_entries around) function.wheres ++ block_entries around function.body)))))

-- the entries of a declaration
abbrev pub decl_entries : Nesting → DeclTree → List Entry
decl_entries around (Import import') = import_entries import'
decl_entries around (Alias alias) = alias_entries around alias
decl_entries around (Const constant) = const_entries around constant
decl_entries around (Struct struct) = struct_entries around struct
decl_entries around (Interface interface) = interface_entries around interface
decl_entries around (Extension extension) = extension_entries around extension
decl_entries around (Buffer buffer) = buffer_entries around buffer
decl_entries around (Function function) = function_entries around function

-- the entries of a header
abbrev pub header_entries : Token → List Entry
header_entries name = plain ∷ plain ∷ plain ∷ []

-- the entries of a module, around which nothing is open, and of the end
abbrev pub module_entries : ModuleTree → List Entry
module_entries tree =
    maybe_entries header_entries tree.name
    ++ (flat_map (decl_entries (all_open 0)) tree.decls ++ plain ∷ [])
