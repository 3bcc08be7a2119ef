-- The tokens with which declarations begin.
use Rattle.std.specs.Prelude.{List, [], ◌∷◌, Option, Some, None}
use Rattle.def_token.specs.Lexical.{Token}
use Rattle.def_tree.specs.TypeTree.{type_token}
use Rattle.def_module.specs.DeclTree.{AccessTree, BindingTree, AttrTree, Shader, NumThreads}
use Rattle.def_module.specs.DeclTree.{DeclTree, Import, Alias, Const, Struct, Interface, Extension, Buffer, Function}

-- a word of access, or the token where there is none
abbrev pub access_or : Option AccessTree → Token → Token
access_or None token = token
access_or (Some access) token = access.token

-- the word `__exported`, or the token where there is none
abbrev pub exported_or : Option Token → Token → Token
exported_or None token = token
exported_or (Some exported) token = exported

-- the opening bracket of a binding, or the token where there is none
abbrev pub binding_or : Option BindingTree → Token → Token
binding_or None token = token
binding_or (Some binding) token = binding.opening

-- the opening bracket of the first attribute, or the token where there is none
abbrev pub attrs_or : List AttrTree → Token → Token
attrs_or [] token = token
attrs_or (Shader opening word stage ∷ attrs) token = opening
attrs_or (NumThreads opening word x y z ∷ attrs) token = opening

-- the token with which a declaration begins
abbrev pub decl_token : DeclTree → Token
decl_token (Import import') = exported_or import'.exported import'.word
decl_token (Alias alias) = access_or alias.access alias.word
decl_token (Const constant) = access_or constant.access constant.word
decl_token (Struct struct) = access_or struct.access struct.word
decl_token (Interface interface) = access_or interface.access interface.word
decl_token (Extension extension) = access_or extension.access extension.word
decl_token (Buffer buffer) = binding_or buffer.binding (access_or buffer.access buffer.word)
decl_token (Function function) =
    attrs_or function.attrs (access_or function.access (type_token function.type))
