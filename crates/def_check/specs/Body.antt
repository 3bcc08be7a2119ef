-- The bodies of keys.
use Rattle.std.specs.Prelude.{ℕ, List, [], ◌∷◌, Option, Some, map}
use Rattle.std.specs.List.{flat_map}
use Rattle.sl_base.specs.declared.diag.Site.TheVariants.{Source}
use Rattle.sl_key.specs.Fault.{first_place}
use Rattle.sl_key.specs.Flow.{Facts}
use Rattle.sl_key.specs.Names.{declared_at, decls_in, keys_of as keys_declared, path_text}
use Rattle.sl_key.specs.Order.{module_key, module_of}
use Rattle.sl_key.specs.declared.answer.Answer.{Answer}
use Rattle.sl_key.specs.declared.answer.Answer.TheVariants.{Good, Circular}
use Rattle.sl_key.specs.declared.answer.Good.TheVariants as held
use Rattle.sl_key.specs.declared.fault.Fault.TheVariants.{UnknownName}
use Rattle.sl_key.specs.declared.key.Key.{Key}
use Rattle.sl_key.specs.declared.key.Kind.{Kind}
use Rattle.sl_key.specs.declared.key.Kind.TheVariants.{Syntax, Imports, Alias, Const}
use Rattle.sl_key.specs.declared.path.DeclPath.{DeclPath}
use Rattle.sl_key.specs.declared.value.Ty.{Ty}
use Rattle.sl_key.specs.declared.value.Value.{Value}
use Rattle.def_body.specs.Part.{Body, Break, Give, Known, Part, Reads, Use, in_turn, run_body}
use Rattle.def_tree.specs.ExprTree.{first_token}
use Rattle.def_module.specs.DeclTree as tree
use Rattle.def_module.specs.DeclTree.{AliasTree, ConstTree, DeclTree}
use Rattle.def_query.specs.Meaning.{Meaning}
use Rattle.def_query.specs.declared.step.Step.{Step}
use Rattle.def_sources.specs.Sources.{Sources}
use Rattle.def_check.specs.Evaluate.{Scope, converted_to, type_written, value_of}
use Rattle.def_check.specs.Syntax.{syntax_known, syntax_of}

-- the modules that a module sees, behind its syntax: so far none
abbrev pub imports_part : List ℕ → Part (List (List ℕ))
imports_part name = Use (module_key Syntax name) (λ text. Give [])

-- the scope of a module with this text
abbrev pub scope_in : List ℕ → List ℕ → Scope
scope_in name text = record { «module» = name; decls = decls_in text }

-- A path that leads to no declaration of the key's kind: no key that a module declares has one.
abbrev pub undeclared : {A : Type 0} → DeclPath → Part A
undeclared path = Break (Source path.module first_place) (UnknownName (path_text path))

-- the type that an alias names
abbrev pub alias_of : Scope → AliasTree → Part Ty
alias_of scope alias = type_written scope alias.type

-- the type of an alias, where the path leads to this declaration
abbrev pub alias_at : Scope → DeclPath → Option DeclTree → Part Ty
alias_at scope path (Some (tree.Alias alias)) = alias_of scope alias
alias_at scope path _ = undeclared path

-- the type of an alias: its module's syntax, and then the type that it names
abbrev pub alias_part : DeclPath → Part Ty
alias_part path =
    Use (module_key Syntax path.module) (λ text.
    alias_at (scope_in path.module text) path (declared_at (decls_in text) path.parts))

-- the value of a constant: its type, its expression, and the conversion of the expression's value
abbrev pub const_of : Scope → ConstTree → Part Value
const_of scope constant =
    in_turn (type_written scope constant.type) (λ type.
    in_turn (value_of scope constant.value) (λ value.
    converted_to scope type (first_token constant.value) value))

-- the value of a constant, where the path leads to this declaration
abbrev pub const_at : Scope → DeclPath → Option DeclTree → Part Value
const_at scope path (Some (tree.Const constant)) = const_of scope constant
const_at scope path _ = undeclared path

-- the value of a constant: its module's syntax, and then as above
abbrev pub const_part : DeclPath → Part Value
const_part path =
    Use (module_key Syntax path.module) (λ text.
    const_at (scope_in path.module text) path (declared_at (decls_in text) path.parts))

-- the body of a key, by its kind
abbrev pub body : Sources → (kind : Kind) → DeclPath → Body kind
body sources Syntax path = Known (syntax_known sources path.module)
body sources Imports path = Reads (imports_part path.module)
body sources Alias path = Reads (alias_part path)
body sources Const path = Reads (const_part path)

-- what the body of a key gives under these answers
abbrev pub body_of : Sources → Key → Facts → Step Key Answer
body_of sources key facts = run_body key.kind facts (body sources key.kind key.path)

-- the declarations in an answer of a module's syntax
abbrev pub declarations_in : Answer → List DeclTree
declarations_in (Good (held.Syntax text)) = decls_in text
declarations_in _ = []

-- all keys of a module of the sources
abbrev pub keys_of : Sources → List ℕ → List Key
keys_of sources name =
    module_key Syntax name ∷ module_key Imports name
    ∷ keys_declared name (declarations_in (syntax_of sources name))

-- all keys of a module, and of all modules of the sources
abbrev pub keys_seen : Sources → List ℕ → List Key
keys_seen sources name =
    flat_map (keys_of sources) (name ∷ map (λ (file : List ℕ × List ℕ). file.0) sources.modules)

-- What the rules mean. A key leads no further than the keys of its module and of the modules of the
-- sources.
abbrev pub meaning_of : Sources → Meaning Key Answer
meaning_of sources = record {
  body = body_of sources;
  circular = λ cycle. Circular cycle;
  bound = λ key. key ∷ keys_seen sources (module_of key);
}
