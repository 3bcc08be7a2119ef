-- How the parts of declarations are read, and what stands in structs, interfaces and extensions.
-- The comment of a form is what it stands for; that of Declarations.antt has its production.
use Rattle.std.specs.Prelude.{List, [], ◌∷◌, Option, Some, None}
use Rattle.def_token.specs.Lexical.{Token}
use Rattle.def_tree.specs.Limits.{Nesting, plain, opens, in_bracket, in_block}
use Rattle.def_tree.specs.Symbol.{is_sign}
use Rattle.def_tree.specs.TypeTree.{TypeTree}
use Rattle.def_module.specs.DeclTree.{AccessWord, Public, Internal, Private, AccessTree, AliasTree, ParamTree, WhereTree, ModeWord, In, InOut, ModeTree, ArgTree, BlockTree, FieldTree, TailTree, HeadTree, RequireTree, MethodTree, AssocTree, MemberTree, Field, Method, MemberAlias, ItemTree, Require, Assoc}
use Rattle.def_decl_reading.specs.Form.{ASign, Form, Made, Branch, Then, As, Listed, Many, Until, AType, Stmts, name, sign, opening, when, maybe, closed, with_first}

-- a word of access
abbrev pub access_word : AccessWord → Token → Form (Option AccessTree)
access_word word token = Made (Some (record { word = word; token = token }))

-- a word of access, if there is one
abbrev pub access_form : Form (Option AccessTree)
access_form =
    when "public" (access_word Public)
    (when "internal" (access_word Internal) (when "private" (access_word Private) (Made None)))

-- an alias behind its word `typealias`
abbrev pub alias_form : Nesting → Option AccessTree → Token → Form AliasTree
alias_form around access word =
    name (λ name.
    sign "=" (λ equals.
    As (λ type. record { access = access; word = word; name = name; type = type })
    (closed ";" (AType around))))

-- a type behind its mark, if there is one
abbrev pub maybe_type_form : Nesting → Form (Option TypeTree)
maybe_type_form around = when ":" (λ colon. As Some (AType around)) (Made None)

-- a type parameter
abbrev pub param_form : Nesting → Form ParamTree
param_form around =
    name (λ name. As (λ bound. record { name = name; bound = bound }) (maybe_type_form around))

-- type parameters, if there are any
abbrev pub params_form : Nesting → Form (List ParamTree)
params_form around = when "<" (λ opening. closed ">" (Listed (param_form around))) (Made [])

-- bases, if there are any
abbrev pub bases_form : Nesting → Form (List TypeTree)
bases_form around = when ":" (λ colon. Listed (AType around)) (Made [])

-- what a type conforms to, behind the word `where`
abbrev pub where_form : Nesting → Token → Form WhereTree
where_form around word =
    Then (AType around) (λ type.
    sign ":" (λ colon.
    As (λ bounds. record { word = word; type = type; bounds = bounds }) (Listed (AType around))))

-- what types conform to, as often as the word `where` stands there
abbrev pub wheres_form : Nesting → Form (List WhereTree)
wheres_form around = Many (ASign "where") plain (where_form around)

-- a word before a parameter
abbrev pub mode_word : ModeWord → Token → Form (Option ModeTree)
mode_word word token = Made (Some (record { word = word; token = token }))

-- a word before a parameter, if there is one
abbrev pub mode_form : Form (Option ModeTree)
mode_form = when "in" (mode_word In) (when "inout" (mode_word InOut) (Made None))

-- a semantic, if there is one
abbrev pub semantic_form : Form (Option Token)
semantic_form = when ":" (λ colon. name (λ name. Made (Some name))) (Made None)

-- a parameter
abbrev pub arg_form : Nesting → Form ArgTree
arg_form around =
    Then mode_form (λ mode.
    Then (AType around) (λ type.
    name (λ name.
    As (λ semantic. record { mode = mode; type = type; name = name; semantic = semantic })
    semantic_form)))

-- parameters, if there are any, and the closing bracket
abbrev pub args_form : Nesting → Form (List ArgTree)
args_form around = when ")" (λ closing. Made []) (closed ")" (Listed (arg_form around)))

-- a block
abbrev pub block_form : Nesting → Form BlockTree
block_form around =
    let inside = in_block around in
    opening "{" inside.blocks
    (λ opening. As (λ stmts. record { opening = opening; stmts = stmts }) (Stmts inside))

-- the names of fields, behind the first
abbrev pub names_form : Token → Form (List Token)
names_form first =
    when "," (λ comma. As (with_first first) (Listed (name (λ name. Made name))))
    (Made (first ∷ []))

-- fields behind the first name
abbrev pub field_form : Option AccessTree → TypeTree → Token → Form FieldTree
field_form access type first =
    As (λ names. record { access = access; type = type; names = names })
    (closed ";" (names_form first))

-- the word `mutating` behind its opening bracket
abbrev pub mutating_form : Form Token
mutating_form = sign "mutating" (λ word. sign "]" (λ closing. Made word))

-- the tail of a method behind the bracket of its parameters
abbrev pub called_form : Nesting → Option Token → TypeTree → Token → Form TailTree
called_form around static type name =
    As (λ args. record { static = static; type = type; name = name; args = args })
    (args_form (in_bracket around))

-- the tail of a method behind the word `static`
abbrev pub typed_form : Nesting → Option Token → Form TailTree
typed_form around static =
    Then (AType around) (λ type.
    name (λ name.
    opening "(" (in_bracket around).brackets (λ opening. called_form around static type name)))

-- the tail of a method
abbrev pub tail_form : Nesting → Form TailTree
tail_form around = Then (maybe "static") (typed_form around)

-- a method, of which so much has been read and the rest of the tail stands there
abbrev pub method_form : Nesting → Option Token → Option AccessTree → Option Token → Form TailTree
    → Form MethodTree
method_form around mutating access override tail =
    Then tail (λ tail.
    As (λ body. record {
      mutating = mutating;
      access = access;
      override = override;
      tail = tail;
      body = body;
    }) (block_form around))

-- a method behind its access
abbrev pub override_form : Nesting → Option Token → Option AccessTree → Form MethodTree
override_form around mutating access =
    Then (maybe "override") (λ override.
    method_form around mutating access override (tail_form around))

-- a method behind the bracket before `mutating`
abbrev pub mutating_method : Nesting → Form MethodTree
mutating_method around =
    Then mutating_form (λ word.
    Then access_form (λ access. override_form around (Some word) access))

-- fields, or a method, that begin with a type
abbrev pub typed_member : Nesting → Option AccessTree → Form MemberTree
typed_member around access =
    Then (AType around) (λ type.
    name (λ name.
    Branch (ASign "(") (opens (in_bracket around).brackets)
    (λ opening. As Method (method_form around None access None (called_form around None type name)))
    (As Field (field_form access type name))))

-- fields, a method, or an alias, behind the access
abbrev pub accessed_member : Nesting → Option AccessTree → Form MemberTree
accessed_member around access =
    when "typealias" (λ word. As MemberAlias (alias_form around access word))
    (when "override" (λ word.
    As Method (method_form around None access (Some word) (tail_form around)))
    (when "static" (λ word. As Method
    (method_form around None access None (typed_form around (Some word))))
    (typed_member around access)))

-- fields, a method, or an alias
abbrev pub member_form : Nesting → Form MemberTree
member_form around =
    Branch (ASign "[") (opens (in_bracket around).brackets)
    (λ opening. As Method (mutating_method around))
    (Then access_form (accessed_member around))

-- a method, or an alias, behind the access
abbrev pub accessed_addition : Nesting → Option AccessTree → Form MemberTree
accessed_addition around access =
    when "typealias" (λ word. As MemberAlias (alias_form around access word))
    (As Method (override_form around None access))

-- a method, or an alias
abbrev pub addition_form : Nesting → Form MemberTree
addition_form around =
    Branch (ASign "[") (opens (in_bracket around).brackets)
    (λ opening. As Method (mutating_method around))
    (Then access_form (accessed_addition around))

-- the word `mutating` in its brackets, if it is written
abbrev pub maybe_mutating : Nesting → Form (Option Token)
maybe_mutating around =
    Branch (ASign "[") (opens (in_bracket around).brackets) (λ opening. As Some mutating_form)
    (Made None)

-- the head of a requirement
abbrev pub head_form : Nesting → Form HeadTree
head_form around =
    Then (maybe_mutating around) (λ mutating.
    Then access_form (λ access.
    As (λ tail. record { mutating = mutating; access = access; tail = tail }) (tail_form around)))

-- an associated type behind its word
abbrev pub assoc_form : Nesting → Token → Form AssocTree
assoc_form around word =
    name (λ name.
    As (λ bases. record { word = word; name = name; bases = bases })
    (closed ";" (bases_form around)))

-- what a requirement ends with: its own body, or the semicolon
abbrev pub ending_form : Nesting → Form (Option BlockTree)
ending_form around = when ";" (λ semicolon. Made None) (As Some (block_form around))

-- a requirement
abbrev pub require_form : Nesting → Form RequireTree
require_form around =
    Then (head_form around) (λ head.
    As (λ body. record { head = head; body = body }) (ending_form around))

-- a requirement, or an associated type
abbrev pub item_form : Nesting → Form ItemTree
item_form around =
    when "associatedtype" (λ word. As Assoc (assoc_form around word))
    (As Require (require_form around))

-- forms in braces, which are a block, and the semicolon behind them
abbrev pub body_form : {A : Type 0} → Nesting → (Nesting → Form A) → Form (List A × Option Token)
body_form around form =
    let inside = in_block around in
    opening "{" inside.blocks (λ opening.
    Then (closed "}" (Until (is_sign "}") (form inside))) (λ forms.
    As (λ semicolon. (forms, semicolon)) (maybe ";")))
