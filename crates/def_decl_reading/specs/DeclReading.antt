-- How declarations and modules are read.
use Rattle.std.specs.Prelude.{List, [], ◌∷◌, Option, Some, None}
use Rattle.def_token.specs.Lexical.{Token}
use Rattle.def_tree.specs.Limits.{Nesting, all_open, plain, opens, in_bracket}
use Rattle.def_module.specs.DeclTree as tree
use Rattle.def_module.specs.DeclTree.{AccessTree, ImportTree, ConstTree, StructTree, InterfaceTree, ExtensionTree, BufferKind, ReadOnly, ReadWrite, BindingTree, BufferTree, AttrTree, Shader, NumThreads, FunctionTree, DeclTree, ModuleTree}
use Rattle.def_reading.specs.Cursor.{At}
use Rattle.def_reading.specs.Try.{Reader, up_to, read_by}
use Rattle.def_reading.specs.TypeReading.{Reading}
use Rattle.def_decl_reading.specs.Form.{AText, ASign, ends, Form, Made, Never, Branch, Then, As, Many, Until, AType, AnExpr, token, name, number, narrow, sign, opening, when, closed, reads}
use Rattle.def_decl_reading.specs.MemberReading.{access_form, alias_form, params_form, bases_form, wheres_form, args_form, block_form, member_form, addition_form, item_form, body_form}

-- an import behind its word
abbrev pub import_form : Option Token → Token → Form ImportTree
import_form exported word =
    name (λ name. sign ";" (λ semicolon.
    Made (record { exported = exported; word = word; name = name })))

-- a constant behind the word `static`
abbrev pub const_form : Nesting → Option AccessTree → Token → Form ConstTree
const_form around access word =
    sign "const" (λ const.
    Then (AType around) (λ type.
    name (λ name.
    sign "=" (λ equals.
    As (λ value. record { access = access; word = word; type = type; name = name; value = value })
    (closed ";" (AnExpr around))))))

-- a struct behind its word
abbrev pub struct_form : Nesting → Option AccessTree → Token → Form StructTree
struct_form around access word =
    name (λ name.
    Then (params_form around) (λ params.
    Then (bases_form around) (λ bases.
    Then (wheres_form around) (λ wheres.
    As (λ body. record {
      access = access;
      word = word;
      name = name;
      params = params;
      bases = bases;
      wheres = wheres;
      members = body.0;
      semicolon = body.1;
    }) (body_form around member_form)))))

-- an interface behind its word
abbrev pub interface_form : Nesting → Option AccessTree → Token → Form InterfaceTree
interface_form around access word =
    name (λ name.
    Then (bases_form around) (λ bases.
    As (λ body. record {
      access = access;
      word = word;
      name = name;
      bases = bases;
      items = body.0;
      semicolon = body.1;
    }) (body_form around item_form)))

-- an extension behind its word
abbrev pub extension_form : Nesting → Option AccessTree → Token → Form ExtensionTree
extension_form around access word =
    Then (AType around) (λ type.
    Then (bases_form around) (λ bases.
    As (λ body. record {
      access = access;
      word = word;
      type = type;
      bases = bases;
      members = body.0;
      semicolon = body.1;
    }) (body_form around addition_form)))

-- the set of a binding, if it is written
abbrev pub set_form : Form (Option Token)
set_form = when "," (λ comma. narrow (λ number. Made (Some number))) (Made None)

-- a binding behind its second bracket, inside both
abbrev pub binding_form : Nesting → Token → Form BindingTree
binding_form around first =
    sign "vk" (λ vendor.
    sign "::" (λ colons.
    sign "binding" (λ word.
    opening "(" (in_bracket around).brackets (λ opening.
    narrow (λ number.
    Then set_form (λ set.
    sign ")" (λ closing.
    sign "]" (λ third.
    sign "]" (λ fourth.
    Made (record { opening = first; number = number; set = set }))))))))))

-- a buffer behind the word of its kind
abbrev pub kind_form : Nesting → Option BindingTree → Option AccessTree → BufferKind → Token
    → Form BufferTree
kind_form around binding access kind word =
    sign "<" (λ opening.
    Then (AType around) (λ element.
    sign ">" (λ closing.
    name (λ name.
    sign ";" (λ semicolon.
    Made (record {
      binding = binding;
      access = access;
      kind = kind;
      word = word;
      element = element;
      name = name;
    }))))))

-- a buffer behind its access, or what else stands there
abbrev pub buffer_form : Nesting → Option BindingTree → Option AccessTree → Form DeclTree
    → Form DeclTree
buffer_form around binding access other =
    when "StructuredBuffer" (λ word. As tree.Buffer (kind_form around binding access ReadOnly word))
    (when "RWStructuredBuffer"
    (λ word. As tree.Buffer (kind_form around binding access ReadWrite word)) other)

-- an attribute behind its first bracket, inside it
abbrev pub attr_form : Nesting → Token → Form AttrTree
attr_form around first =
    let inside = in_bracket around in
    when "shader" (λ word.
    opening "(" inside.brackets (λ opening.
    token AText plain (λ stage.
    sign ")" (λ closing.
    sign "]" (λ last. Made (Shader first word stage))))))
    (sign "numthreads" (λ word.
    opening "(" inside.brackets (λ opening.
    number (λ x.
    sign "," (λ comma.
    number (λ y.
    sign "," (λ mark.
    number (λ z.
    sign ")" (λ closing.
    sign "]" (λ last. Made (NumThreads first word x y z)))))))))))

-- a function behind its access
abbrev pub function_form : Nesting → List AttrTree → Option AccessTree → Form FunctionTree
function_form around attrs access =
    let inside = in_bracket around in
    Then (AType around) (λ type.
    name (λ name.
    Then (params_form around) (λ params.
    opening "(" inside.brackets (λ opening.
    Then (args_form inside) (λ args.
    Then (wheres_form around) (λ wheres.
    As (λ body. record {
      attrs = attrs;
      access = access;
      type = type;
      name = name;
      params = params;
      args = args;
      wheres = wheres;
      body = body;
    }) (block_form around)))))))

-- a buffer behind the two brackets before its binding, inside them
abbrev pub bound_form : Nesting → Token → Form DeclTree
bound_form around first =
    Then (binding_form (in_bracket (in_bracket around)) first) (λ binding.
    Then access_form (λ access. buffer_form around (Some binding) access Never))

-- a function behind the bracket before its first attribute
abbrev pub attributed_form : Nesting → Token → Form DeclTree
attributed_form around first =
    let inside = in_bracket around in
    Then (attr_form inside first) (λ attr.
    Then (Many (ASign "[") (opens inside.brackets) (attr_form inside)) (λ attrs.
    Then access_form (λ access. As tree.Function (function_form around (attr ∷ attrs) access))))

-- a declaration behind its access, if it begins with no bracket and is no import
abbrev pub accessed_form : Nesting → Option AccessTree → Form DeclTree
accessed_form around access =
    when "typealias" (λ word. As tree.Alias (alias_form around access word))
    (when "static" (λ word. As tree.Const (const_form around access word))
    (when "struct" (λ word. As tree.Struct (struct_form around access word))
    (when "interface" (λ word. As tree.Interface (interface_form around access word))
    (when "extension" (λ word. As tree.Extension (extension_form around access word))
    (buffer_form around None access (As tree.Function (function_form around [] access)))))))

-- a declaration
abbrev pub decl_form : Nesting → Form DeclTree
decl_form around =
    let first = in_bracket around in
    Branch (ASign "[") (opens first.brackets) (λ opening.
    Branch (ASign "[") (opens (in_bracket first).brackets) (λ second. bound_form around opening)
    (attributed_form around opening))
    (when "__exported" (λ exported. As tree.Import (sign "import" (import_form (Some exported))))
    (when "import" (λ word. As tree.Import (import_form None word))
    (Then access_form (accessed_form around))))

-- the name of a module with its word, if it is written
abbrev pub header_form : Form (Option Token)
header_form =
    when "module" (λ word. name (λ name. sign ";" (λ semicolon. Made (Some name)))) (Made None)

-- a module up to the end
abbrev pub module_form : Form ModuleTree
module_form =
    Then header_form (λ name.
    As (λ decls. record { name = name; decls = decls }) (Until ends (decl_form (all_open 0))))

-- a module with the end
abbrev pub module_in : Reader ModuleTree
module_in reach place = up_to ends (reads module_form reach place)

-- a module
abbrev pub module_of : List Token → Reading ModuleTree
module_of tokens = read_by (module_in None (At 0 None tokens))
