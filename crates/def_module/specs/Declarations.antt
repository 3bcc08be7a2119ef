-- The grammar of declarations. Parts stand before wholes; the comment of each relation is its
-- production.
use Rattle.std.specs.Prelude.{◌≡◌, List, ◌∷◌, Option, Some, None}
use Rattle.def_token.specs.Lexical.{Token}
use Rattle.def_tree.specs.ExprTree.{ExprTree}
use Rattle.def_tree.specs.Expressions.{IsExpr}
use Rattle.def_tree.specs.Statements.{IsStmt, MayHaveType}
use Rattle.def_tree.specs.StmtTree as stmt
use Rattle.def_tree.specs.Symbol.{Text, symbol, Is, IsName, IsNumeral, IsNarrow}
use Rattle.def_tree.specs.TypeTree.{TypeTree}
use Rattle.def_tree.specs.Types.{IsType}
use Rattle.def_module.specs.DeclTree as tree
use Rattle.def_module.specs.DeclTree.{AccessWord, access_text, AccessTree, ImportTree, AliasTree, ConstTree, ParamTree, WhereTree, ModeWord, mode_text, ModeTree, ArgTree, BlockTree, FieldTree, TailTree, HeadTree, RequireTree, MethodTree, AssocTree, MemberTree, ItemTree, StructTree, InterfaceTree, ExtensionTree, BufferKind, buffer_text, BindingTree, BufferTree, AttrTree, FunctionTree, DeclTree}
use Rattle.def_module.specs.Repetition.{IsWord, IsNamed, MayBe, MayHave, AreMany, AreListed}

-- the token is a string
abbrev pub IsText : Token → Type 0
IsText token = symbol token ≡ Text

-- Import = [ "__exported" ] "import" Name ";"
pub data IsImport : List Token → ImportTree → List Token → Type 0 where
  of_import : {word name semicolon : Token} {tokens rest : List Token} {exported : Option Token}
      → MayBe (IsWord "__exported") tokens exported (word ∷ name ∷ semicolon ∷ rest)
      → Is "import" word → IsName name → Is ";" semicolon
      → IsImport tokens (record { exported = exported; word = word; name = name }) rest

-- "public" | "internal" | "private"
pub data IsAccessWord : List Token → AccessTree → List Token → Type 0 where
  of_access : {word : AccessWord} {token : Token} {rest : List Token}
      → Is (access_text word) token
      → IsAccessWord (token ∷ rest) (record { word = word; token = token }) rest

-- Access = [ "public" | "internal" | "private" ]
abbrev pub IsAccess : List Token → Option AccessTree → List Token → Type 0
IsAccess tokens access rest = MayBe IsAccessWord tokens access rest

-- Alias = Access "typealias" Name "=" Type ";"
pub data IsAlias : List Token → AliasTree → List Token → Type 0 where
  of_alias : {word name equals semicolon : Token} {tokens behind rest : List Token}
      {access : Option AccessTree}
      {type : TypeTree}
      → IsAccess tokens access (word ∷ name ∷ equals ∷ behind)
      → Is "typealias" word → IsName name → Is "=" equals → IsType behind type (semicolon ∷ rest)
      → Is ";" semicolon
      → IsAlias tokens (record { access = access; word = word; name = name; type = type }) rest

-- Const = Access "static" "const" Type Name "=" Expr ";"
pub data IsConst : List Token → ConstTree → List Token → Type 0 where
  of_const : {word const name equals semicolon : Token} {tokens behind after rest : List Token}
      {access : Option AccessTree} {type : TypeTree} {value : ExprTree}
      → IsAccess tokens access (word ∷ const ∷ behind)
      → Is "static" word → Is "const" const → IsType behind type (name ∷ equals ∷ after)
      → IsName name → Is "=" equals → IsExpr after value (semicolon ∷ rest) → Is ";" semicolon
      → IsConst tokens
      (record { access = access; word = word; type = type; name = name; value = value }) rest

-- Param = Name [ ":" Type ]
pub data IsParam : List Token → ParamTree → List Token → Type 0 where
  of_param : {name : Token} {tokens rest : List Token} {bound : Option TypeTree}
      → IsName name → MayHaveType tokens bound rest
      → IsParam (name ∷ tokens) (record { name = name; bound = bound }) rest

-- Params = "<" Param { "," Param } ">"
pub data IsParams : List Token → List ParamTree → List Token → Type 0 where
  of_params : {opening closing : Token} {tokens rest : List Token} {params : List ParamTree}
      → Is "<" opening → AreListed IsParam tokens params (closing ∷ rest) → Is ">" closing
      → IsParams (opening ∷ tokens) params rest

-- Bases = ":" Type { "," Type }
pub data IsBases : List Token → List TypeTree → List Token → Type 0 where
  of_bases : {colon : Token} {tokens rest : List Token} {bases : List TypeTree}
      → Is ":" colon → AreListed IsType tokens bases rest
      → IsBases (colon ∷ tokens) bases rest

-- Where = "where" Type ":" Type { "," Type }
pub data IsWhere : List Token → WhereTree → List Token → Type 0 where
  of_where : {word : Token} {tokens behind rest : List Token} {type : TypeTree}
      {bounds : List TypeTree}
      → Is "where" word → IsType tokens type behind → IsBases behind bounds rest
      → IsWhere (word ∷ tokens) (record { word = word; type = type; bounds = bounds }) rest

-- "in" | "inout"
pub data IsMode : List Token → ModeTree → List Token → Type 0 where
  of_mode : {word : ModeWord} {token : Token} {rest : List Token}
      → Is (mode_text word) token
      → IsMode (token ∷ rest) (record { word = word; token = token }) rest

-- ":" Name
pub data IsSemantic : List Token → Token → List Token → Type 0 where
  of_semantic : {colon name : Token} {rest : List Token}
      → Is ":" colon → IsName name
      → IsSemantic (colon ∷ name ∷ rest) name rest

-- Arg = [ "in" | "inout" ] Type Name [ ":" Name ]
pub data IsArg : List Token → ArgTree → List Token → Type 0 where
  of_arg : {name : Token} {tokens behind after rest : List Token} {mode : Option ModeTree}
      {type : TypeTree}
      {semantic : Option Token}
      → MayBe IsMode tokens mode behind → IsType behind type (name ∷ after) → IsName name
      → MayBe IsSemantic after semantic rest
      → IsArg tokens (record { mode = mode; type = type; name = name; semantic = semantic }) rest

-- "(" [ Arg { "," Arg } ] ")"
pub data IsArgs : List Token → List ArgTree → List Token → Type 0 where
  of_args : {opening closing : Token} {tokens rest : List Token} {args : List ArgTree}
      → Is "(" opening → MayHave (AreListed IsArg) tokens args (closing ∷ rest) → Is ")" closing
      → IsArgs (opening ∷ tokens) args rest

-- Block = "{" { Stmt } "}"
abbrev pub IsBlock : List Token → BlockTree → List Token → Type 0
IsBlock tokens block rest = IsStmt tokens (stmt.Block block.opening block.stmts) rest

-- Field = Access Type Name { "," Name } ";"
pub data IsField : List Token → FieldTree → List Token → Type 0 where
  of_field : {semicolon : Token} {tokens behind after rest : List Token}
      {access : Option AccessTree}
      {type : TypeTree} {names : List Token}
      → IsAccess tokens access behind → IsType behind type after
      → AreListed IsNamed after names (semicolon ∷ rest) → Is ";" semicolon
      → IsField tokens (record { access = access; type = type; names = names }) rest

-- "[" "mutating" "]"
pub data IsMutating : List Token → Token → List Token → Type 0 where
  of_mutating : {opening word closing : Token} {rest : List Token}
      → Is "[" opening → Is "mutating" word → Is "]" closing
      → IsMutating (opening ∷ word ∷ closing ∷ rest) word rest

-- Tail = [ "static" ] Type Name "(" [ Arg { "," Arg } ] ")"
pub data IsTail : List Token → TailTree → List Token → Type 0 where
  of_tail : {name : Token} {tokens behind after rest : List Token} {static : Option Token}
      {type : TypeTree}
      {args : List ArgTree}
      → MayBe (IsWord "static") tokens static behind → IsType behind type (name ∷ after)
      → IsName name
      → IsArgs after args rest
      → IsTail tokens (record { static = static; type = type; name = name; args = args }) rest

-- Head = [ "[" "mutating" "]" ] Access Tail
pub data IsHead : List Token → HeadTree → List Token → Type 0 where
  of_head : {tokens behind after rest : List Token} {mutating : Option Token}
      {access : Option AccessTree}
      {tail : TailTree}
      → MayBe IsMutating tokens mutating behind → IsAccess behind access after
      → IsTail after tail rest
      → IsHead tokens (record { mutating = mutating; access = access; tail = tail }) rest

-- Method = [ "[" "mutating" "]" ] Access [ "override" ] Tail Block
pub data IsMethod : List Token → MethodTree → List Token → Type 0 where
  of_method : {tokens second third fourth fifth rest : List Token}
      {mutating override : Option Token}
      {access : Option AccessTree} {tail : TailTree} {body : BlockTree}
      → MayBe IsMutating tokens mutating second → IsAccess second access third
      → MayBe (IsWord "override") third override fourth → IsTail fourth tail fifth
      → IsBlock fifth body rest
      → IsMethod tokens (record {
        mutating = mutating;
        access = access;
        override = override;
        tail = tail;
        body = body;
      }) rest

-- Field | Method | Alias
pub data IsMember : List Token → MemberTree → List Token → Type 0 where
  member_field : {tokens rest : List Token} {field : FieldTree}
      → IsField tokens field rest
      → IsMember tokens (tree.Field field) rest
  member_method : {tokens rest : List Token} {method : MethodTree}
      → IsMethod tokens method rest
      → IsMember tokens (tree.Method method) rest
  member_alias : {tokens rest : List Token} {alias : AliasTree}
      → IsAlias tokens alias rest
      → IsMember tokens (tree.MemberAlias alias) rest

-- Method | Alias
pub data IsAddition : List Token → MemberTree → List Token → Type 0 where
  added_method : {tokens rest : List Token} {method : MethodTree}
      → IsMethod tokens method rest
      → IsAddition tokens (tree.Method method) rest
  added_alias : {tokens rest : List Token} {alias : AliasTree}
      → IsAlias tokens alias rest
      → IsAddition tokens (tree.MemberAlias alias) rest

-- ";" | Block
pub data IsEnding : List Token → Option BlockTree → List Token → Type 0 where
  without_body : {semicolon : Token} {rest : List Token}
      → Is ";" semicolon
      → IsEnding (semicolon ∷ rest) None rest
  with_body : {tokens rest : List Token} {body : BlockTree}
      → IsBlock tokens body rest
      → IsEnding tokens (Some body) rest

-- Require = Head ( ";" | Block )
pub data IsRequire : List Token → RequireTree → List Token → Type 0 where
  of_require : {tokens behind rest : List Token} {head : HeadTree} {body : Option BlockTree}
      → IsHead tokens head behind → IsEnding behind body rest
      → IsRequire tokens (record { head = head; body = body }) rest

-- Assoc = "associatedtype" Name [ Bases ] ";"
pub data IsAssoc : List Token → AssocTree → List Token → Type 0 where
  of_assoc : {word name semicolon : Token} {tokens rest : List Token} {bases : List TypeTree}
      → Is "associatedtype" word → IsName name → MayHave IsBases tokens bases (semicolon ∷ rest)
      → Is ";" semicolon
      → IsAssoc (word ∷ name ∷ tokens) (record { word = word; name = name; bases = bases }) rest

-- Require | Assoc
pub data IsItem : List Token → ItemTree → List Token → Type 0 where
  item_require : {tokens rest : List Token} {require : RequireTree}
      → IsRequire tokens require rest
      → IsItem tokens (tree.Require require) rest
  item_assoc : {tokens rest : List Token} {assoc : AssocTree}
      → IsAssoc tokens assoc rest
      → IsItem tokens (tree.Assoc assoc) rest

-- "{" { Form } "}" [ ";" ]
pub data IsBody {A : Type 0} (IsForm : List Token → A → List Token → Type 0)
    : List Token → List A × Option Token → List Token → Type 0 where
  of_body : {opening closing : Token} {tokens behind rest : List Token} {forms : List A}
      {semicolon : Option Token}
      → Is "{" opening → AreMany IsForm tokens forms (closing ∷ behind) → Is "}" closing
      → MayBe (IsWord ";") behind semicolon rest
      → IsBody IsForm (opening ∷ tokens) (forms, semicolon) rest

-- Struct = Access "struct" Name [ Params ] [ Bases ] { Where } "{" { Field | Method | Alias } "}"
--     [ ";" ]
pub data IsStruct : List Token → StructTree → List Token → Type 0 where
  of_struct : {word name : Token} {tokens second third fourth fifth rest : List Token}
      {access : Option AccessTree}
      {params : List ParamTree} {bases : List TypeTree} {wheres : List WhereTree}
      {members : List MemberTree}
      {semicolon : Option Token}
      → IsAccess tokens access (word ∷ name ∷ second) → Is "struct" word → IsName name
      → MayHave IsParams second params third → MayHave IsBases third bases fourth
      → AreMany IsWhere fourth wheres fifth
      → IsBody IsMember fifth (members, semicolon) rest
      → IsStruct tokens (record {
        access = access;
        word = word;
        name = name;
        params = params;
        bases = bases;
        wheres = wheres;
        members = members;
        semicolon = semicolon;
      }) rest

-- Interface = Access "interface" Name [ Bases ] "{" { Require | Assoc } "}" [ ";" ]
pub data IsInterface : List Token → InterfaceTree → List Token → Type 0 where
  of_interface : {word name : Token} {tokens second third rest : List Token}
      {access : Option AccessTree}
      {bases : List TypeTree} {items : List ItemTree} {semicolon : Option Token}
      → IsAccess tokens access (word ∷ name ∷ second) → Is "interface" word → IsName name
      → MayHave IsBases second bases third → IsBody IsItem third (items, semicolon) rest
      → IsInterface tokens (record {
        access = access;
        word = word;
        name = name;
        bases = bases;
        items = items;
        semicolon = semicolon;
      }) rest

-- Extension = Access "extension" Type [ Bases ] "{" { Method | Alias } "}" [ ";" ]
pub data IsExtension : List Token → ExtensionTree → List Token → Type 0 where
  of_extension : {word : Token} {tokens second third fourth rest : List Token}
      {access : Option AccessTree}
      {type : TypeTree} {bases : List TypeTree} {members : List MemberTree}
      {semicolon : Option Token}
      → IsAccess tokens access (word ∷ second) → Is "extension" word → IsType second type third
      → MayHave IsBases third bases fourth → IsBody IsAddition fourth (members, semicolon) rest
      → IsExtension tokens (record {
        access = access;
        word = word;
        type = type;
        bases = bases;
        members = members;
        semicolon = semicolon;
      }) rest

-- "," Number, of a type of 32 bits
pub data IsSet : List Token → Token → List Token → Type 0 where
  of_set : {comma number : Token} {rest : List Token}
      → Is "," comma → IsNarrow number
      → IsSet (comma ∷ number ∷ rest) number rest

-- "[" "[" "vk" "::" "binding" "(" Number [ "," Number ] ")" "]" "]", with numbers of types of 32
-- bits
pub data IsBinding : List Token → BindingTree → List Token → Type 0 where
  of_binding : {first second vendor colons word opening number closing third fourth : Token}
      {tokens rest : List Token}
      {set : Option Token}
      → Is "[" first → Is "[" second → Is "vk" vendor → Is "::" colons → Is "binding" word
      → Is "(" opening
      → IsNarrow number → MayBe IsSet tokens set (closing ∷ third ∷ fourth ∷ rest)
      → Is ")" closing → Is "]" third → Is "]" fourth
      → IsBinding (first ∷ second ∷ vendor ∷ colons ∷ word ∷ opening ∷ number ∷ tokens)
      (record { opening = first; number = number; set = set }) rest

-- Buffer = [ "[" "[" "vk" "::" "binding" "(" Number [ "," Number ] ")" "]" "]" ] Access
--          ( "StructuredBuffer" | "RWStructuredBuffer" ) "<" Type ">" Name ";"
pub data IsBuffer : List Token → BufferTree → List Token → Type 0 where
  of_buffer : {kind : BufferKind} {word opening closing name semicolon : Token}
      {tokens second third rest : List Token}
      {binding : Option BindingTree} {access : Option AccessTree} {element : TypeTree}
      → MayBe IsBinding tokens binding second → IsAccess second access (word ∷ opening ∷ third)
      → Is (buffer_text kind) word → Is "<" opening
      → IsType third element (closing ∷ name ∷ semicolon ∷ rest)
      → Is ">" closing → IsName name → Is ";" semicolon
      → IsBuffer tokens (record {
        binding = binding;
        access = access;
        kind = kind;
        word = word;
        element = element;
        name = name;
      }) rest

-- Attr = "[" "shader" "(" String ")" "]"
--     | "[" "numthreads" "(" Number "," Number "," Number ")" "]"
pub data IsAttr : List Token → AttrTree → List Token → Type 0 where
  of_shader : {first word opening stage closing last : Token} {rest : List Token}
      → Is "[" first → Is "shader" word → Is "(" opening → IsText stage → Is ")" closing
      → Is "]" last
      → IsAttr (first ∷ word ∷ opening ∷ stage ∷ closing ∷ last ∷ rest)
      (tree.Shader first word stage) rest
  of_threads : {first word opening x comma y mark z closing last : Token} {rest : List Token}
      → Is "[" first → Is "numthreads" word → Is "(" opening
      → IsNumeral x → Is "," comma → IsNumeral y → Is "," mark → IsNumeral z → Is ")" closing
      → Is "]" last
      → IsAttr (first ∷ word ∷ opening ∷ x ∷ comma ∷ y ∷ mark ∷ z ∷ closing ∷ last ∷ rest)
      (tree.NumThreads first word x y z) rest

-- Function = { Attr } Access Type Name [ Params ] "(" [ Arg { "," Arg } ] ")" { Where } Block
pub data IsFunction : List Token → FunctionTree → List Token → Type 0 where
  of_function : {name : Token} {tokens second third fourth fifth sixth seventh rest : List Token}
      {attrs : List AttrTree} {access : Option AccessTree} {type : TypeTree}
      {params : List ParamTree}
      {args : List ArgTree} {wheres : List WhereTree} {body : BlockTree}
      → AreMany IsAttr tokens attrs second → IsAccess second access third
      → IsType third type (name ∷ fourth)
      → IsName name → MayHave IsParams fourth params fifth → IsArgs fifth args sixth
      → AreMany IsWhere sixth wheres seventh → IsBlock seventh body rest
      → IsFunction tokens (record {
        attrs = attrs;
        access = access;
        type = type;
        name = name;
        params = params;
        args = args;
        wheres = wheres;
        body = body;
      }) rest

-- Decl = Import | Alias | Const | Struct | Interface | Extension | Buffer | Function
pub data IsDecl : List Token → DeclTree → List Token → Type 0 where
  decl_import : {tokens rest : List Token} {import' : ImportTree}
      → IsImport tokens import' rest
      → IsDecl tokens (tree.Import import') rest
  decl_alias : {tokens rest : List Token} {alias : AliasTree}
      → IsAlias tokens alias rest
      → IsDecl tokens (tree.Alias alias) rest
  decl_const : {tokens rest : List Token} {constant : ConstTree}
      → IsConst tokens constant rest
      → IsDecl tokens (tree.Const constant) rest
  decl_struct : {tokens rest : List Token} {struct : StructTree}
      → IsStruct tokens struct rest
      → IsDecl tokens (tree.Struct struct) rest
  decl_interface : {tokens rest : List Token} {interface : InterfaceTree}
      → IsInterface tokens interface rest
      → IsDecl tokens (tree.Interface interface) rest
  decl_extension : {tokens rest : List Token} {extension : ExtensionTree}
      → IsExtension tokens extension rest
      → IsDecl tokens (tree.Extension extension) rest
  decl_buffer : {tokens rest : List Token} {buffer : BufferTree}
      → IsBuffer tokens buffer rest
      → IsDecl tokens (tree.Buffer buffer) rest
  decl_function : {tokens rest : List Token} {function : FunctionTree}
      → IsFunction tokens function rest
      → IsDecl tokens (tree.Function function) rest
