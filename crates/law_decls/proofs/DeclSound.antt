-- What is read as a declaration or a module is of the grammar.
use Rattle.std.proofs.Common.{List, [], ◌∷◌}
use Rattle.std.specs.Prelude.{Option, Some, None}
use Rattle.def_token.specs.Lexical.{Token}
use Rattle.def_tree.specs.Limits.{Nesting, all_open, in_bracket, in_block}
use Rattle.def_tree.specs.Symbol.{Is}
use Rattle.def_module.specs.Declarations.{IsAccess, IsImport, of_import, IsConst, of_const, IsStruct, of_struct, IsInterface, of_interface, IsExtension, of_extension, IsSet, of_set, IsBinding, of_binding, IsBuffer, of_buffer, IsAttr, of_shader, of_threads, IsFunction, of_function, IsDecl, decl_import, decl_alias, decl_const, decl_struct, decl_interface, decl_extension, decl_buffer, decl_function}
use Rattle.def_module.specs.DeclTree.{AccessTree, BufferKind, ReadOnly, ReadWrite, buffer_text, BindingTree, AttrTree, DeclTree, ModuleTree}
use Rattle.def_module.specs.Module.{IsHeader, of_header}
use Rattle.def_module.specs.Repetition.{IsWord, of_word, MayBe, without, with_one, AreMany, no_more, one_more}
use Rattle.def_decl_reading.specs.Form.{Form}
use Rattle.def_decl_reading.specs.MemberReading.{member_form, addition_form, item_form}
use Rattle.def_decl_reading.specs.DeclReading.{import_form, const_form, struct_form, interface_form, extension_form, set_form, binding_form, kind_form, buffer_form, attr_form, function_form, bound_form, attributed_form, accessed_form, decl_form, header_form, module_form}
use Rattle.law_decls.proofs.FormSound.{Holding, Sounds, sound_by, sound_made, sound_never, sound_branch, sound_token, sound_then, sound_as, sound_many, sound_until, sound_type, sound_expr, sound_closed}
use Rattle.law_decls.proofs.MemberSound.{access_sound, alias_sound, params_sound, bases_sound, wheres_sound, args_sound, block_sound, member_sound, addition_sound, item_sound, body_sound}

import_sound : (exported : Option Token) (word : Token) → Is "import" word
    → Sounds (import_form exported word) (λ tokens form rest. (start : List Token) → MayBe (IsWord "__exported") start exported (word ∷ tokens) → IsImport start form rest)
import_sound exported word w = sound_token (λ name n. sound_token (λ semicolon s. sound_made (λ tokens start e. of_import e w n s)))

const_sound : (around : Nesting) (access : Option AccessTree) (word : Token) → Is "static" word
    → Sounds (const_form around access word) (λ tokens form rest. (start : List Token) → IsAccess start access (word ∷ tokens) → IsConst start form rest)
const_sound around access word w =
    sound_token (λ const c.
    sound_then sound_type (λ type.
    sound_token (λ name n.
    sound_token (λ equals e.
    sound_as (sound_by (sound_closed sound_expr) (λ after value rest v behind t start p. of_const p w c t n e v.part v.is))))))

struct_sound : (around : Nesting) (access : Option AccessTree) (word : Token) → Is "struct" word
    → Sounds (struct_form around access word) (λ tokens form rest. (start : List Token) → IsAccess start access (word ∷ tokens) → IsStruct start form rest)
struct_sound around access word w =
    sound_token (λ name n.
    sound_then (params_sound around) (λ params.
    sound_then (bases_sound around) (λ bases.
    sound_then (wheres_sound around) (λ wheres.
    sound_as (sound_by (body_sound around member_form (member_sound (in_block around)))
    (λ fifth body rest b fourth ws third bs second ps start p. of_struct {members = body.0} {semicolon = body.1} p w n ps bs ws b))))))

interface_sound : (around : Nesting) (access : Option AccessTree) (word : Token) → Is "interface" word
    → Sounds (interface_form around access word) (λ tokens form rest. (start : List Token) → IsAccess start access (word ∷ tokens) → IsInterface start form rest)
interface_sound around access word w =
    sound_token (λ name n.
    sound_then (bases_sound around) (λ bases.
    sound_as (sound_by (body_sound around item_form (item_sound (in_block around)))
    (λ third body rest b second bs start p. of_interface {items = body.0} {semicolon = body.1} p w n bs b))))

extension_sound : (around : Nesting) (access : Option AccessTree) (word : Token) → Is "extension" word
    → Sounds (extension_form around access word) (λ tokens form rest. (start : List Token) → IsAccess start access (word ∷ tokens) → IsExtension start form rest)
extension_sound around access word w =
    sound_then sound_type (λ type.
    sound_then (bases_sound around) (λ bases.
    sound_as (sound_by (body_sound around addition_form (addition_sound (in_block around)))
    (λ fourth body rest b third bs second t start p. of_extension {members = body.0} {semicolon = body.1} p w t bs b))))

-- buffers
set_sound : Sounds set_form (MayBe IsSet)
set_sound = sound_branch (λ comma c. sound_token (λ number n. sound_made (λ tokens. with_one (of_set c n)))) (sound_made (λ tokens. without))

binding_sound : (around : Nesting) (first : Token)
    → Sounds (binding_form around first) (λ tokens binding rest. (second : Token) → Is "[" first → Is "[" second → IsBinding (first ∷ second ∷ tokens) binding rest)
binding_sound around first =
    sound_token (λ vendor v.
    sound_token (λ colons c.
    sound_token (λ word w.
    sound_token (λ opening o.
    sound_token (λ number n.
    sound_then set_sound (λ set.
    sound_token (λ closing x.
    sound_token (λ third y.
    sound_token (λ fourth z.
    sound_made (λ rest tokens s second f g. of_binding f g v c w o n s x y z))))))))))

kind_sound : (around : Nesting) (binding : Option BindingTree) (access : Option AccessTree) (kind : BufferKind) (word : Token) → Is (buffer_text kind) word
    → Sounds (kind_form around binding access kind word)
    (λ tokens form rest. (start second : List Token) → MayBe IsBinding start binding second → IsAccess second access (word ∷ tokens) → IsBuffer start form rest)
kind_sound around binding access kind word w =
    sound_token (λ opening o.
    sound_then sound_type (λ element.
    sound_token (λ closing c.
    sound_token (λ name n.
    sound_token (λ semicolon s. sound_made (λ rest third t start second m p. of_buffer {kind = kind} m p w o t c n s))))))

-- a declaration behind its access, where so much stands before it
abbrev Behind : Option BindingTree → Option AccessTree → Holding DeclTree
Behind binding access tokens form rest = (start second : List Token) → MayBe IsBinding start binding second → IsAccess second access tokens → IsDecl start form rest

buffer_sound : (around : Nesting) (binding : Option BindingTree) (access : Option AccessTree) {other : Form DeclTree} → Sounds other (Behind binding access)
    → Sounds (buffer_form around binding access other) (Behind binding access)
buffer_sound around binding access s =
    sound_branch (λ word w. sound_as (sound_by (kind_sound around binding access ReadOnly word w) (λ tokens form rest f start second m p. decl_buffer (f start second m p))))
    (sound_branch (λ word w. sound_as (sound_by (kind_sound around binding access ReadWrite word w) (λ tokens form rest f start second m p. decl_buffer (f start second m p)))) s)

bound_sound : (around : Nesting) (first : Token) → Is "[" first → Sounds (bound_form around first) (λ tokens form rest. (second : Token) → Is "[" second → IsDecl (first ∷ second ∷ tokens) form rest)
bound_sound around first f =
    sound_then (binding_sound (in_bracket (in_bracket around)) first) (λ binding.
    sound_then access_sound (λ access.
    sound_by (buffer_sound around (Some binding) access sound_never) (λ third form rest h behind p tokens b second g. h (first ∷ second ∷ tokens) behind (with_one (b second f g)) p)))

-- functions
attr_sound : (around : Nesting) (first : Token) → Is "[" first → Sounds (attr_form around first) (λ tokens attr rest. IsAttr (first ∷ tokens) attr rest)
attr_sound around first f =
    sound_branch
    (λ word w. sound_token (λ opening o. sound_token (λ stage s. sound_token (λ closing c. sound_token (λ last l. sound_made (λ rest. of_shader f w o s c l))))))
    (sound_token (λ word w.
    sound_token (λ opening o.
    sound_token (λ x a.
    sound_token (λ comma b.
    sound_token (λ y c.
    sound_token (λ mark d.
    sound_token (λ z e.
    sound_token (λ closing g.
    sound_token (λ last h. sound_made (λ rest. of_threads f w o a b c d e g h)))))))))))

function_sound : (around : Nesting) (attrs : List AttrTree) (access : Option AccessTree) → Sounds (function_form around attrs access)
    (λ tokens form rest. (start second : List Token) → AreMany IsAttr start attrs second → IsAccess second access tokens → IsFunction start form rest)
function_sound around attrs access =
    sound_then sound_type (λ type.
    sound_token (λ name n.
    sound_then (params_sound around) (λ params.
    sound_token (λ opening o.
    sound_then (args_sound (in_bracket around)) (λ args.
    sound_then (wheres_sound around) (λ wheres.
    sound_as (sound_by (block_sound around)
    (λ seventh body rest b sixth ws fifth a fourth ps third t start second as' p. of_function as' p t n ps (a opening o) ws b))))))))

attributed_sound : (around : Nesting) (first : Token) → Is "[" first → Sounds (attributed_form around first) (λ tokens form rest. IsDecl (first ∷ tokens) form rest)
attributed_sound around first f =
    sound_then (attr_sound (in_bracket around) first f) (λ attr.
    sound_then (sound_many (λ opening o. attr_sound (in_bracket around) opening o)) (λ attrs.
    sound_then access_sound (λ access.
    sound_as (sound_by (function_sound around (attr ∷ attrs) access) (λ third form rest h second p behind m tokens a. decl_function (h (first ∷ tokens) second (one_more a m) p))))))

-- declarations
accessed_sound : (around : Nesting) (access : Option AccessTree) → Sounds (accessed_form around access) (λ tokens form rest. (start : List Token) → IsAccess start access tokens → IsDecl start form rest)
accessed_sound around access =
    sound_branch (λ word w. sound_as (sound_by (alias_sound around access word w) (λ tokens form rest f start p. decl_alias (f start p))))
    (sound_branch (λ word w. sound_as (sound_by (const_sound around access word w) (λ tokens form rest f start p. decl_const (f start p))))
    (sound_branch (λ word w. sound_as (sound_by (struct_sound around access word w) (λ tokens form rest f start p. decl_struct (f start p))))
    (sound_branch (λ word w. sound_as (sound_by (interface_sound around access word w) (λ tokens form rest f start p. decl_interface (f start p))))
    (sound_branch (λ word w. sound_as (sound_by (extension_sound around access word w) (λ tokens form rest f start p. decl_extension (f start p))))
    (sound_by
    (buffer_sound around None access
    (sound_as (sound_by (function_sound around [] access) (λ tokens form rest f start second m p. decl_function (f start second (unbound m) p)))))
    (λ tokens form rest f start p. f start start without p))))))
  where
    -- no binding is no attributes
    unbound : {start second : List Token} → MayBe IsBinding start None second → AreMany IsAttr start [] second
    unbound without = no_more

pub decl_sound : (around : Nesting) → Sounds (decl_form around) IsDecl
decl_sound around =
    sound_branch
    (λ opening o. sound_branch (λ second s. sound_by (bound_sound around opening o) (λ tokens form rest f. f second s)) (attributed_sound around opening o))
    (sound_branch
    (λ exported e. sound_as (sound_token (λ word w. sound_by (import_sound (Some exported) word w) (λ tokens form rest f. decl_import (f (exported ∷ word ∷ tokens) (with_one (of_word e)))))))
    (sound_branch (λ word w. sound_as (sound_by (import_sound None word w) (λ tokens form rest f. decl_import (f (word ∷ tokens) without))))
    (sound_then access_sound (λ access. sound_by (accessed_sound around access) (λ behind form rest f tokens p. f tokens p)))))

-- modules up to the end
header_sound : Sounds header_form (MayBe IsHeader)
header_sound = sound_branch (λ word w. sound_token (λ name n. sound_token (λ semicolon s. sound_made (λ tokens. with_one (of_header w n s))))) (sound_made (λ tokens. without))

-- a header and declarations
pub record AreParts (tokens : List Token) (tree : ModuleTree) (rest : List Token) : Type 0 where
  pub behind : List Token
  pub header : MayBe IsHeader tokens tree.name behind
  pub decls : AreMany IsDecl behind tree.decls rest

pub module_sound : Sounds module_form AreParts
module_sound =
    sound_then header_sound (λ name.
    sound_as (sound_by (sound_until (decl_sound (all_open 0))) (λ behind decls rest m tokens h. record { behind = behind; header = h; decls = m })))
