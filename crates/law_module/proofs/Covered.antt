-- Each module has an entry for each of its tokens.
use Rattle.std.proofs.Common.{◌≡◌, ◌+◌, List, [], ◌∷◌, ◌++◌, length, take, drop, refl, sym, ap, ◌∙◌, arith, length-append}
use Rattle.std.specs.Prelude.{Option, Some}
use Rattle.std.specs.List.{flat_map}
use Rattle.std.proofs.lemmas.List.{take-append-drop}
use Prim.Native.String.{String}
use Rattle.def_token.specs.Lexical.{Token}
use Rattle.def_tree.specs.Expressions.{IsExpr}
use Rattle.def_tree.specs.Limits.{Long, Entry, Nesting, all_open, in_block, in_bracket, plain, led_by, at_most_long, greatest_length, expr_entries, whole_entries, word_entries, maybe_type_entries, type_entries}
use Rattle.def_tree.specs.Statements.{MayHaveType, without_type, with_type}
use Rattle.def_tree.specs.Types.{IsType}
use Rattle.def_tree.specs.TypeTree.{TypeTree}
use Rattle.law_tree.proofs.Covered.{type_covered, expr_covered}
use Rattle.law_tree.proofs.StmtsCovered.{stmt_covered}
use Rattle.def_module.specs.Declarations.{IsImport, of_import, IsAccessWord, of_access, IsAccess, IsAlias, of_alias, IsConst, of_const, IsParam, of_param, IsParams, of_params, IsBases, of_bases, IsWhere, of_where, IsMode, of_mode, IsSemantic, of_semantic, IsArg, of_arg, IsArgs, of_args, IsBlock, IsField, of_field, IsMutating, of_mutating, IsTail, of_tail, IsHead, of_head, IsMethod, of_method, IsMember, member_field, member_method, member_alias, IsAddition, added_method, added_alias, IsEnding, without_body, with_body, IsRequire, of_require, IsAssoc, of_assoc, IsItem, item_require, item_assoc, IsBody, of_body, IsStruct, of_struct, IsInterface, of_interface, IsExtension, of_extension, IsSet, of_set, IsBinding, of_binding, IsBuffer, of_buffer, IsAttr, of_shader, of_threads, IsFunction, of_function, IsDecl, decl_import, decl_alias, decl_const, decl_struct, decl_interface, decl_extension, decl_buffer, decl_function}
use Rattle.def_module.specs.DeclTree.{ParamTree}
use Rattle.def_module.specs.Entries.{one_entry, maybe_entries, more_listed_entries, listed_entries, access_entries, import_entries, alias_entries, const_entries, param_entries, params_entries, bases_entries, where_entries, semantic_entries, arg_entries, args_entries, block_entries, field_entries, mutating_entries, tail_entries, head_entries, ending_entries, method_entries, member_entries, require_entries, assoc_entries, item_entries, body_entries, struct_entries, interface_entries, extension_entries, set_entries, binding_entries, buffer_entries, attr_entries, function_entries, decl_entries, header_entries}
use Rattle.def_module.specs.Laws.{EntriesCover}
use Rattle.def_module.specs.Module.{IsHeader, of_header, of_module}
use Rattle.def_module.specs.Repetition.{IsWord, of_word, IsNamed, of_name, MayBe, without, with_one, MayHave, without_any, with_some, AreMany, no_more, one_more, AreListed, last_one, and_more}

-- a form has an entry for each of its tokens
abbrev Covers : {A : Type 0} → (List Token → A → List Token → Type 0) → (A → List Entry) → Type 0
Covers {A = A} IsForm entries_of =
    (tokens rest : List Token) (form : A) → IsForm tokens form rest → length tokens ≡ length (entries_of form) + length rest

module _ {A : Type 0} (IsForm : List Token → A → List Token → Type 0) (entries_of : A → List Entry) where
  maybe_covered : Covers IsForm entries_of → Covers (MayBe IsForm) (maybe_entries entries_of)
  maybe_covered each tokens rest form without = omega arith
  maybe_covered each tokens rest form (with_one {form = one} p) = each tokens rest one p

  many_covered : Covers IsForm entries_of → Covers (AreMany IsForm) (flat_map entries_of)
  many_covered each tokens rest forms no_more = omega arith
  many_covered each tokens rest forms (one_more {behind = next} {form = one} {forms = more} p m) =
      omega (arith, each tokens next one p, many_covered each next rest more m, length-append (entries_of one) (flat_map entries_of more))

  -- forms with a comma before each
  more_covered : Covers IsForm entries_of → (tokens rest : List Token) (forms : List A) → AreListed IsForm tokens forms rest
      → length tokens + 1 ≡ length (more_listed_entries entries_of forms) + length rest
  more_covered each tokens rest forms (last_one {form = one} p) = omega (arith, each tokens rest one p, length-append (entries_of one) [])
  more_covered each tokens rest forms (and_more {comma = comma} {behind = next} {form = one} {forms = more} p c l) =
      omega (arith, each tokens (comma ∷ next) one p, more_covered each next rest more l, length-append (entries_of one) (more_listed_entries entries_of more))

  listed_covered : Covers IsForm entries_of → Covers (AreListed IsForm) (listed_entries entries_of)
  listed_covered each tokens rest forms (last_one {form = one} p) = omega (arith, each tokens rest one p, length-append (entries_of one) [])
  listed_covered each tokens rest forms (and_more {comma = comma} {behind = next} {form = one} {forms = more} p c l) =
      omega (arith, each tokens (comma ∷ next) one p, more_covered each next rest more l, length-append (entries_of one) (more_listed_entries entries_of more))

-- whole expressions
led_length : (entry : Entry) (entries : List Entry) → length (led_by entry entries) ≡ length entries
led_length entry [] = refl
led_length entry (first ∷ entries) = refl

long_length : (entries : List Entry) → length (at_most_long entries) ≡ length entries
long_length entries =
    length-append (take greatest_length entries) (led_by (Some Long) (drop greatest_length entries))
    ∙ ap (λ n. length (take greatest_length entries) + n) (led_length (Some Long) (drop greatest_length entries))
    ∙ sym (length-append (take greatest_length entries) (drop greatest_length entries))
    ∙ ap length (take-append-drop greatest_length entries)

whole_covered : (around : Nesting) → Covers IsExpr (whole_entries around)
whole_covered around tokens rest e p = omega (arith, expr_covered around p, long_length (expr_entries around e))

maybe_word_covered : (sign : String) → Covers (MayBe (IsWord sign)) word_entries
maybe_word_covered sign tokens rest form without = omega arith
maybe_word_covered sign tokens rest form (with_one (of_word h)) = omega arith

named_covered : Covers IsNamed one_entry
named_covered tokens rest form (of_name h) = omega arith

access_word_covered : Covers IsAccessWord one_entry
access_word_covered tokens rest form (of_access h) = omega arith

access_covered : Covers IsAccess access_entries
access_covered = maybe_covered IsAccessWord one_entry access_word_covered

-- parts of declarations
type_is_covered : (around : Nesting) → Covers IsType (type_entries around.types)
type_is_covered around tokens rest form t = type_covered around.types t

maybe_type_covered : (around : Nesting) → Covers MayHaveType (maybe_type_entries around)
maybe_type_covered around tokens rest form without_type = omega arith
maybe_type_covered around tokens rest form (with_type {tokens = next} {type = type} h t) = omega (arith, type_is_covered around next rest type t)

import_covered : Covers IsImport import_entries
import_covered tokens rest form (of_import {word = w} {name = n} {semicolon = c} {exported = exported} e h i d) =
    omega (arith, maybe_word_covered "__exported" tokens (w ∷ n ∷ c ∷ rest) exported e, length-append (word_entries exported) (plain ∷ plain ∷ plain ∷ []))

alias_covered : (around : Nesting) → Covers IsAlias (alias_entries around)
alias_covered around tokens rest form (of_alias {word = w} {name = n} {equals = e} {semicolon = c} {behind = next} {access = access} {type = type} p h i j t d) =
    omega (
      arith,
      access_covered tokens (w ∷ n ∷ e ∷ next) access p,
      type_is_covered around next (c ∷ rest) type t,
      length-append (access_entries access) (plain ∷ plain ∷ plain ∷ (type_entries around.types type ++ plain ∷ [])),
      length-append (type_entries around.types type) (plain ∷ []),
    )

const_covered : (around : Nesting) → Covers IsConst (const_entries around)
const_covered around tokens rest form (of_const {word = w} {const = c} {name = n} {equals = e} {semicolon = d} {behind = next} {after = after} {access = access} {type = type} {value = value} p h i t j q v z) =
    let valued : List Entry = whole_entries around value ++ plain ∷ [] in
    omega (
      arith,
      access_covered tokens (w ∷ c ∷ next) access p,
      type_is_covered around next (n ∷ e ∷ after) type t,
      whole_covered around after (d ∷ rest) value v,
      length-append (access_entries access) (plain ∷ plain ∷ (type_entries around.types type ++ plain ∷ plain ∷ valued)),
      length-append (type_entries around.types type) (plain ∷ plain ∷ valued),
      length-append (whole_entries around value) (plain ∷ []),
    )

param_covered : (around : Nesting) → Covers IsParam (param_entries around)
param_covered around tokens rest form (of_param {tokens = next} {bound = bound} h t) = omega (arith, maybe_type_covered around next rest bound t)

-- lists that stand in brackets are not empty
params_by : (around : Nesting) (tokens rest : List Token) (params : List ParamTree) → AreListed IsParam tokens params rest
    → length tokens + 2 ≡ length (params_entries around params) + length rest
params_by around tokens rest params (last_one {form = one} p) =
    omega (
      arith,
      param_covered around tokens rest one p,
      length-append (param_entries around one) [],
      length-append (listed_entries (param_entries around) (one ∷ [])) (plain ∷ []),
    )
params_by around tokens rest params (and_more {comma = comma} {behind = next} {form = one} {forms = more} p c l) =
    omega (
      arith,
      param_covered around tokens (comma ∷ next) one p,
      more_covered IsParam (param_entries around) (param_covered around) next rest more l,
      length-append (param_entries around one) (more_listed_entries (param_entries around) more),
      length-append (listed_entries (param_entries around) (one ∷ more)) (plain ∷ []),
    )

params_covered : (around : Nesting) → Covers IsParams (params_entries around)
params_covered around tokens rest params (of_params {closing = c} {tokens = next} h l k) = omega (arith, params_by around next (c ∷ rest) params l)

maybe_params_covered : (around : Nesting) → Covers (MayHave IsParams) (params_entries around)
maybe_params_covered around tokens rest params without_any = omega arith
maybe_params_covered around tokens rest params (with_some p) = params_covered around tokens rest params p

bases_by : (around : Nesting) (tokens rest : List Token) (bases : List TypeTree) → AreListed IsType tokens bases rest
    → length tokens + 1 ≡ length (bases_entries around bases) + length rest
bases_by around tokens rest bases (last_one {form = one} t) =
    omega (arith, type_is_covered around tokens rest one t, length-append (type_entries around.types one) [])
bases_by around tokens rest bases (and_more {comma = comma} {behind = next} {form = one} {forms = more} t c l) =
    omega (
      arith,
      type_is_covered around tokens (comma ∷ next) one t,
      more_covered IsType (type_entries around.types) (type_is_covered around) next rest more l,
      length-append (type_entries around.types one) (more_listed_entries (type_entries around.types) more),
    )

bases_covered : (around : Nesting) → Covers IsBases (bases_entries around)
bases_covered around tokens rest bases (of_bases {tokens = next} h l) = omega (arith, bases_by around next rest bases l)

maybe_bases_covered : (around : Nesting) → Covers (MayHave IsBases) (bases_entries around)
maybe_bases_covered around tokens rest bases without_any = omega arith
maybe_bases_covered around tokens rest bases (with_some p) = bases_covered around tokens rest bases p

where_covered : (around : Nesting) → Covers IsWhere (where_entries around)
where_covered around tokens rest form (of_where {tokens = next} {behind = after} {type = type} {bounds = bounds} h t b) =
    omega (
      arith,
      type_is_covered around next after type t,
      bases_covered around after rest bounds b,
      length-append (type_entries around.types type) (bases_entries around bounds),
    )

mode_covered : Covers IsMode one_entry
mode_covered tokens rest form (of_mode h) = omega arith

semantic_covered : Covers IsSemantic semantic_entries
semantic_covered tokens rest form (of_semantic h i) = omega arith

arg_covered : (around : Nesting) → Covers IsArg (arg_entries around)
arg_covered around tokens rest form (of_arg {name = n} {behind = next} {after = after} {mode = mode} {type = type} {semantic = semantic} m t h x) =
    let behind_type : List Entry = plain ∷ maybe_entries semantic_entries semantic in
    omega (
      arith,
      maybe_covered IsMode one_entry mode_covered tokens next mode m,
      type_is_covered around next (n ∷ after) type t,
      maybe_covered IsSemantic semantic_entries semantic_covered after rest semantic x,
      length-append (maybe_entries one_entry mode) (type_entries around.types type ++ behind_type),
      length-append (type_entries around.types type) behind_type,
    )

listed_args_covered : (around : Nesting) → Covers (MayHave (AreListed IsArg)) (listed_entries (arg_entries around))
listed_args_covered around tokens rest args without_any = omega arith
listed_args_covered around tokens rest args (with_some l) = listed_covered IsArg (arg_entries around) (arg_covered around) tokens rest args l

args_covered : (around : Nesting) → Covers IsArgs (args_entries around)
args_covered around tokens rest args (of_args {closing = c} {tokens = next} h l k) =
    let inside = in_bracket around in
    omega (arith, listed_args_covered inside next (c ∷ rest) args l, length-append (listed_entries (arg_entries inside) args) (plain ∷ []))

block_covered : (around : Nesting) → Covers IsBlock (block_entries around)
block_covered around tokens rest block p = stmt_covered around p

-- members and items
field_covered : (around : Nesting) → Covers IsField (field_entries around)
field_covered around tokens rest form (of_field {semicolon = c} {behind = next} {after = after} {access = access} {type = type} {names = names} p t l d) =
    let named : List Entry = listed_entries {A = Token} one_entry names ++ plain ∷ [] in
    omega (
      arith,
      access_covered tokens next access p,
      type_is_covered around next after type t,
      listed_covered IsNamed one_entry named_covered after (c ∷ rest) names l,
      length-append (access_entries access) (type_entries around.types type ++ named),
      length-append (type_entries around.types type) named,
      length-append (listed_entries {A = Token} one_entry names) (plain ∷ []),
    )

mutating_covered : (around : Nesting) → Covers IsMutating (mutating_entries around)
mutating_covered around tokens rest form (of_mutating h i j) = omega arith

maybe_mutating_covered : (around : Nesting) → Covers (MayBe IsMutating) (maybe_entries (mutating_entries around))
maybe_mutating_covered around = maybe_covered IsMutating (mutating_entries around) (mutating_covered around)

tail_covered : (around : Nesting) → Covers IsTail (tail_entries around)
tail_covered around tokens rest form (of_tail {name = n} {behind = next} {after = after} {static = static} {type = type} {args = args} w t h a) =
    omega (
      arith,
      maybe_word_covered "static" tokens next static w,
      type_is_covered around next (n ∷ after) type t,
      args_covered around after rest args a,
      length-append (word_entries static) (type_entries around.types type ++ plain ∷ args_entries around args),
      length-append (type_entries around.types type) (plain ∷ args_entries around args),
    )

head_covered : (around : Nesting) → Covers IsHead (head_entries around)
head_covered around tokens rest form (of_head {behind = next} {after = after} {mutating = mutating} {access = access} {tail = tail} m p t) =
    omega (
      arith,
      maybe_mutating_covered around tokens next mutating m,
      access_covered next after access p,
      tail_covered around after rest tail t,
      length-append (maybe_entries (mutating_entries around) mutating) (access_entries access ++ tail_entries around tail),
      length-append (access_entries access) (tail_entries around tail),
    )

method_covered : (around : Nesting) → Covers IsMethod (method_entries around)
method_covered around tokens rest form (of_method {second = s} {third = t} {fourth = f} {fifth = g} {mutating = mutating} {override = override} {access = access} {tail = tail} {body = body} m p o l b) =
    let tailed : List Entry = tail_entries around tail ++ block_entries around body in
    let overriding : List Entry = word_entries override ++ tailed in
    omega (
      arith,
      maybe_mutating_covered around tokens s mutating m,
      access_covered s t access p,
      maybe_word_covered "override" t f override o,
      tail_covered around f g tail l,
      block_covered around g rest body b,
      length-append (maybe_entries (mutating_entries around) mutating) (access_entries access ++ overriding),
      length-append (access_entries access) overriding,
      length-append (word_entries override) tailed,
      length-append (tail_entries around tail) (block_entries around body),
    )

member_covered : (around : Nesting) → Covers IsMember (member_entries around)
member_covered around tokens rest form (member_field {field = one} p) = field_covered around tokens rest one p
member_covered around tokens rest form (member_method {method = one} p) = method_covered around tokens rest one p
member_covered around tokens rest form (member_alias {alias = one} p) = alias_covered around tokens rest one p

addition_covered : (around : Nesting) → Covers IsAddition (member_entries around)
addition_covered around tokens rest form (added_method {method = one} p) = method_covered around tokens rest one p
addition_covered around tokens rest form (added_alias {alias = one} p) = alias_covered around tokens rest one p

ending_covered : (around : Nesting) → Covers IsEnding (ending_entries around)
ending_covered around tokens rest form (without_body s) = omega arith
ending_covered around tokens rest form (with_body {body = body} b) = block_covered around tokens rest body b

require_covered : (around : Nesting) → Covers IsRequire (require_entries around)
require_covered around tokens rest form (of_require {behind = behind} {head = head} {body = body} p e) =
    omega (
      arith,
      head_covered around tokens behind head p,
      ending_covered around behind rest body e,
      length-append (head_entries around head) (ending_entries around body),
    )

assoc_covered : (around : Nesting) → Covers IsAssoc (assoc_entries around)
assoc_covered around tokens rest form (of_assoc {semicolon = c} {tokens = next} {bases = bases} h i b d) =
    omega (arith, maybe_bases_covered around next (c ∷ rest) bases b, length-append (bases_entries around bases) (plain ∷ []))

item_covered : (around : Nesting) → Covers IsItem (item_entries around)
item_covered around tokens rest form (item_require {require = one} p) = require_covered around tokens rest one p
item_covered around tokens rest form (item_assoc {assoc = one} p) = assoc_covered around tokens rest one p

body_covered : {A : Type 0} (IsForm : List Token → A → List Token → Type 0) (entries_of : Nesting → A → List Entry) → ((around : Nesting) → Covers IsForm (entries_of around)) → (around : Nesting)
    → (tokens rest : List Token) (forms : List A) (semicolon : Option Token) → IsBody IsForm tokens (forms, semicolon) rest
    → length tokens ≡ length (body_entries entries_of around forms semicolon) + length rest
body_covered IsForm entries_of each around tokens rest forms semicolon (of_body {closing = c} {tokens = next} {behind = after} h m k w) =
    let inside = in_block around in
    omega (
      arith,
      many_covered IsForm (entries_of inside) (each inside) next (c ∷ after) forms m,
      maybe_word_covered ";" after rest semicolon w,
      length-append (flat_map (entries_of inside) forms) (plain ∷ word_entries semicolon),
    )

-- declarations
wheres_covered : (around : Nesting) → Covers (AreMany IsWhere) (flat_map (where_entries around))
wheres_covered around = many_covered IsWhere (where_entries around) (where_covered around)

struct_covered : (around : Nesting) → Covers IsStruct (struct_entries around)
struct_covered around tokens rest form (of_struct {word = w} {name = n} {second = a} {third = b} {fourth = c} {fifth = d} {access = access} {params = params} {bases = bases} {wheres = wheres} {members = members} {semicolon = semicolon} p h i ps bs ws body) =
    let embodied : List Entry = body_entries member_entries around members semicolon in
    let conditioned : List Entry = flat_map (where_entries around) wheres ++ embodied in
    let based : List Entry = bases_entries around bases ++ conditioned in
    omega (
      arith,
      access_covered tokens (w ∷ n ∷ a) access p,
      maybe_params_covered around a b params ps,
      maybe_bases_covered around b c bases bs,
      wheres_covered around c d wheres ws,
      body_covered IsMember member_entries member_covered around d rest members semicolon body,
      length-append (access_entries access) (plain ∷ plain ∷ (params_entries around params ++ based)),
      length-append (params_entries around params) based,
      length-append (bases_entries around bases) conditioned,
      length-append (flat_map (where_entries around) wheres) embodied,
    )

interface_covered : (around : Nesting) → Covers IsInterface (interface_entries around)
interface_covered around tokens rest form (of_interface {word = w} {name = n} {second = a} {third = b} {access = access} {bases = bases} {items = items} {semicolon = semicolon} p h i bs body) =
    let embodied : List Entry = body_entries item_entries around items semicolon in
    omega (
      arith,
      access_covered tokens (w ∷ n ∷ a) access p,
      maybe_bases_covered around a b bases bs,
      body_covered IsItem item_entries item_covered around b rest items semicolon body,
      length-append (access_entries access) (plain ∷ plain ∷ (bases_entries around bases ++ embodied)),
      length-append (bases_entries around bases) embodied,
    )

extension_covered : (around : Nesting) → Covers IsExtension (extension_entries around)
extension_covered around tokens rest form (of_extension {word = w} {second = a} {third = b} {fourth = c} {access = access} {type = type} {bases = bases} {members = members} {semicolon = semicolon} p h t bs body) =
    let embodied : List Entry = body_entries member_entries around members semicolon in
    let based : List Entry = bases_entries around bases ++ embodied in
    omega (
      arith,
      access_covered tokens (w ∷ a) access p,
      type_is_covered around a b type t,
      maybe_bases_covered around b c bases bs,
      body_covered IsAddition member_entries addition_covered around c rest members semicolon body,
      length-append (access_entries access) (plain ∷ (type_entries around.types type ++ based)),
      length-append (type_entries around.types type) based,
      length-append (bases_entries around bases) embodied,
    )

set_covered : Covers IsSet set_entries
set_covered tokens rest form (of_set h i) = omega arith

binding_covered : (around : Nesting) → Covers IsBinding (binding_entries around)
binding_covered around tokens rest form (of_binding {closing = d} {third = e} {fourth = f} {tokens = next} {set = set} x1 x2 x3 x4 x5 x6 x7 m y1 y2 y3) =
    omega (
      arith,
      maybe_covered IsSet set_entries set_covered next (d ∷ e ∷ f ∷ rest) set m,
      length-append (maybe_entries set_entries set) (plain ∷ plain ∷ plain ∷ []),
    )

buffer_covered : (around : Nesting) → Covers IsBuffer (buffer_entries around)
buffer_covered around tokens rest form (of_buffer {word = w} {opening = o} {closing = c} {name = n} {semicolon = d} {second = a} {third = b} {binding = binding} {access = access} {element = element} m p h i t j q z) =
    let typed : List Entry = plain ∷ plain ∷ (type_entries around.types element ++ plain ∷ plain ∷ plain ∷ []) in
    omega (
      arith,
      maybe_covered IsBinding (binding_entries around) (binding_covered around) tokens a binding m,
      access_covered a (w ∷ o ∷ b) access p,
      type_is_covered around b (c ∷ n ∷ d ∷ rest) element t,
      length-append (maybe_entries (binding_entries around) binding) (access_entries access ++ typed),
      length-append (access_entries access) typed,
      length-append (type_entries around.types element) (plain ∷ plain ∷ plain ∷ []),
    )

attr_covered : (around : Nesting) → Covers IsAttr (attr_entries around)
attr_covered around tokens rest form (of_shader x0 x1 x2 x3 x4 x5) = omega arith
attr_covered around tokens rest form (of_threads x0 x1 x2 x3 x4 x5 x6 x7 x8 x9) = omega arith

function_covered : (around : Nesting) → Covers IsFunction (function_entries around)
function_covered around tokens rest form (of_function {name = n} {second = a} {third = b} {fourth = c} {fifth = d} {sixth = e} {seventh = f} {attrs = attrs} {access = access} {type = type} {params = params} {args = args} {wheres = wheres} {body = body} m p t h ps as' ws bl) =
    let conditioned : List Entry = flat_map (where_entries around) wheres ++ block_entries around body in
    let applied : List Entry = args_entries around args ++ conditioned in
    let named : List Entry = plain ∷ (params_entries around params ++ applied) in
    let typed : List Entry = type_entries around.types type ++ named in
    omega (
      arith,
      many_covered IsAttr (attr_entries around) (attr_covered around) tokens a attrs m,
      access_covered a b access p,
      type_is_covered around b (n ∷ c) type t,
      maybe_params_covered around c d params ps,
      args_covered around d e args as',
      wheres_covered around e f wheres ws,
      block_covered around f rest body bl,
      length-append (flat_map (attr_entries around) attrs) (access_entries access ++ typed),
      length-append (access_entries access) typed,
      length-append (type_entries around.types type) named,
      length-append (params_entries around params) applied,
      length-append (args_entries around args) conditioned,
      length-append (flat_map (where_entries around) wheres) (block_entries around body),
    )

decl_covered : (around : Nesting) → Covers IsDecl (decl_entries around)
decl_covered around tokens rest form (decl_import {import' = one} p) = import_covered tokens rest one p
decl_covered around tokens rest form (decl_alias {alias = one} p) = alias_covered around tokens rest one p
decl_covered around tokens rest form (decl_const {constant = one} p) = const_covered around tokens rest one p
decl_covered around tokens rest form (decl_struct {struct = one} p) = struct_covered around tokens rest one p
decl_covered around tokens rest form (decl_interface {interface = one} p) = interface_covered around tokens rest one p
decl_covered around tokens rest form (decl_extension {extension = one} p) = extension_covered around tokens rest one p
decl_covered around tokens rest form (decl_buffer {buffer = one} p) = buffer_covered around tokens rest one p
decl_covered around tokens rest form (decl_function {function = one} p) = function_covered around tokens rest one p

header_covered : Covers IsHeader header_entries
header_covered tokens rest form (of_header h i d) = omega arith

pub modules_covered : EntriesCover
modules_covered tokens rest tree (of_module {end = e} {behind = next} {name = name} {decls = decls} n m h) =
    let declared : List Entry = flat_map (decl_entries (all_open 0)) decls ++ plain ∷ [] in
    omega (
      arith,
      maybe_covered IsHeader header_entries header_covered tokens next name n,
      many_covered IsDecl (decl_entries (all_open 0)) (decl_covered (all_open 0)) next (e ∷ rest) decls m,
      length-append (maybe_entries header_entries name) declared,
      length-append (flat_map (decl_entries (all_open 0)) decls) (plain ∷ []),
    )
