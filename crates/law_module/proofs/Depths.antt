-- The depths along the tokens of a module, and that its marks tell them.
use Rattle.std.proofs.Common.{◌≡◌, suc, List, ◌∷◌, ◌++◌, refl, ap, ◌∙◌, codes, arith}
use Rattle.std.specs.Prelude.{Option}
use Rattle.std.specs.List.{flat_map}
use Prim.Native.String.{String}
use Rattle.def_token.specs.Lexical.{Token}
use Rattle.def_tree.specs.Limits.{Entry, Nesting, all_open, in_block, in_bracket, word_entries, type_entries}
use Rattle.def_tree.specs.Symbol.{Sign, symbol}
use Rattle.def_tree.specs.Types.{IsType}
use Rattle.law_tree.proofs.Depths.{here, passes, enters, leaves, begins, ends, runs_on, turn, stays, at_bracket, at_block}
use Rattle.law_tree.proofs.DepthsCounted.{told_deep}
use Rattle.law_tree.proofs.ExprDepths.{bracketed}
use Rattle.law_tree.proofs.StmtDepths.{Tells, tells, Keeps, type_keeps, maybe_type_run, whole_run, stmt_run}
use Rattle.def_module.specs.Declarations.{IsImport, of_import, IsAccessWord, of_access, IsAccess, IsAlias, of_alias, IsConst, of_const, IsParam, of_param, IsParams, of_params, IsBases, of_bases, IsWhere, of_where, IsMode, of_mode, IsSemantic, of_semantic, IsArg, of_arg, IsArgs, of_args, IsBlock, IsField, of_field, IsMutating, of_mutating, IsTail, of_tail, IsHead, of_head, IsMethod, of_method, IsMember, member_field, member_method, member_alias, IsAddition, added_method, added_alias, IsEnding, without_body, with_body, IsRequire, of_require, IsAssoc, of_assoc, IsItem, item_require, item_assoc, IsBody, of_body, IsStruct, of_struct, IsInterface, of_interface, IsExtension, of_extension, IsSet, of_set, IsBinding, of_binding, IsBuffer, of_buffer, IsAttr, of_shader, of_threads, IsFunction, of_function, IsDecl, decl_import, decl_alias, decl_const, decl_struct, decl_interface, decl_extension, decl_buffer, decl_function}
use Rattle.def_module.specs.DeclTree.{AccessWord, Public, Internal, Private, access_text, ModeWord, In, InOut, mode_text, BufferKind, ReadOnly, ReadWrite, buffer_text}
use Rattle.def_module.specs.Entries.{one_entry, maybe_entries, more_listed_entries, listed_entries, access_entries, import_entries, alias_entries, const_entries, param_entries, params_entries, bases_entries, where_entries, semantic_entries, arg_entries, args_entries, block_entries, field_entries, mutating_entries, tail_entries, head_entries, ending_entries, method_entries, member_entries, require_entries, assoc_entries, item_entries, body_entries, struct_entries, interface_entries, extension_entries, set_entries, binding_entries, buffer_entries, attr_entries, function_entries, decl_entries, header_entries, module_entries}
use Rattle.def_module.specs.Laws.{DepthsAreCounted}
use Rattle.def_module.specs.Module.{IsModule, IsHeader, of_header, of_module}
use Rattle.def_module.specs.Repetition.{IsWord, of_word, IsNamed, of_name, MayBe, without, with_one, MayHave, without_any, with_some, AreMany, no_more, one_more, AreListed, last_one, and_more}

access_stays : (word : AccessWord) → turn (Sign (codes (access_text word))) ≡ stays
access_stays Public = refl
access_stays Internal = refl
access_stays Private = refl

mode_stays : (word : ModeWord) → turn (Sign (codes (mode_text word))) ≡ stays
mode_stays In = refl
mode_stays InOut = refl

buffer_stays : (kind : BufferKind) → turn (Sign (codes (buffer_text kind))) ≡ stays
buffer_stays ReadOnly = refl
buffer_stays ReadWrite = refl

-- tokens of a form come back to the depths around it
abbrev Follows : {A : Type 0} → (List Token → A → List Token → Type 0) → Nesting → (A → List Entry) → Type 0
Follows {A = A} IsForm around entries_of =
    (tokens rest : List Token) (form : A) → IsForm tokens form rest → Keeps around tokens (entries_of form) rest

module _ {A : Type 0} (IsForm : List Token → A → List Token → Type 0) (around : Nesting) (entries_of : A → List Entry) where
  maybe_run : Follows IsForm around entries_of → Follows (MayBe IsForm) around (maybe_entries entries_of)
  maybe_run each tokens rest form without = here
  maybe_run each tokens rest form (with_one {form = one} p) = each tokens rest one p

  many_run : Follows IsForm around entries_of → Follows (AreMany IsForm) around (flat_map entries_of)
  many_run each tokens rest forms no_more = here
  many_run each tokens rest forms (one_more {behind = next} {form = one} {forms = more} p m) =
      runs_on (each tokens next one p) (many_run each next rest more m)

  -- forms with a comma before each
  more_run : Follows IsForm around entries_of → (comma : Token) (tokens rest : List Token) (forms : List A) → turn (symbol comma) ≡ stays
      → AreListed IsForm tokens forms rest → Keeps around (comma ∷ tokens) (more_listed_entries entries_of forms) rest
  more_run each mark tokens rest forms s (last_one {form = one} p) = passes s (runs_on (each tokens rest one p) here)
  more_run each mark tokens rest forms s (and_more {comma = comma} {behind = next} {form = one} {forms = more} p c l) =
      passes s (runs_on (each tokens (comma ∷ next) one p) (more_run each comma next rest more (ap turn c) l))

  listed_run : Follows IsForm around entries_of → Follows (AreListed IsForm) around (listed_entries entries_of)
  listed_run each tokens rest forms (last_one {form = one} p) = runs_on (each tokens rest one p) here
  listed_run each tokens rest forms (and_more {comma = comma} {behind = next} {form = one} {forms = more} p c l) =
      runs_on (each tokens (comma ∷ next) one p) (more_run each comma next rest more (ap turn c) l)

maybe_word_run : (around : Nesting) (sign : String) → turn (Sign (codes sign)) ≡ stays → Follows (MayBe (IsWord sign)) around word_entries
maybe_word_run around sign s tokens rest form without = here
maybe_word_run around sign s tokens rest form (with_one (of_word h)) = passes (ap turn h ∙ s) here

named_run : (around : Nesting) → Follows IsNamed around one_entry
named_run around tokens rest form (of_name h) = passes (ap turn h) here

access_word_run : (around : Nesting) → Follows IsAccessWord around one_entry
access_word_run around tokens rest form (of_access {word = word} h) = passes (ap turn h ∙ access_stays word) here

access_run : (around : Nesting) → Follows IsAccess around access_entries
access_run around = maybe_run IsAccessWord around one_entry (access_word_run around)

-- parts of declarations
type_is_run : (around : Nesting) → Follows IsType around (type_entries around.types)
type_is_run around tokens rest form t = type_keeps around t

import_run : (around : Nesting) → Follows IsImport around import_entries
import_run around tokens rest form (of_import {word = w} {name = n} {semicolon = c} {exported = exported} e h i d) =
    runs_on (maybe_word_run around "__exported" refl tokens (w ∷ n ∷ c ∷ rest) exported e)
    (passes (ap turn h) (passes (ap turn i) (passes (ap turn d) here)))

alias_run : (around : Nesting) → Follows IsAlias around (alias_entries around)
alias_run around tokens rest form (of_alias {word = w} {name = n} {equals = e} {behind = next} {access = access} p h i j t d) =
    runs_on (access_run around tokens (w ∷ n ∷ e ∷ next) access p)
    (passes (ap turn h) (passes (ap turn i) (passes (ap turn j) (runs_on (type_keeps around t) (passes (ap turn d) here)))))

const_run : (around : Nesting) → Follows IsConst around (const_entries around)
const_run around tokens rest form (of_const {word = w} {const = c} {behind = next} {access = access} p h i t j q v z) =
    runs_on (access_run around tokens (w ∷ c ∷ next) access p)
    (passes (ap turn h) (passes (ap turn i)
    (runs_on (type_keeps around t)
    (passes (ap turn j) (passes (ap turn q) (runs_on (whole_run around.blocks around v) (passes (ap turn z) here)))))))

param_run : (around : Nesting) → Follows IsParam around (param_entries around)
param_run around tokens rest form (of_param h t) = passes (ap turn h) (maybe_type_run around t)

params_run : (around : Nesting) → Follows IsParams around (params_entries around)
params_run around tokens rest params (of_params {tokens = next} h (last_one {form = one} p) k) =
    passes (ap turn h) (runs_on (runs_on (param_run around next (_ ∷ rest) one p) here) (passes (ap turn k) here))
params_run around tokens rest params (of_params {closing = close} {tokens = next} h (and_more {comma = comma} {behind = after} {form = one} {forms = more} p c l) k) =
    passes (ap turn h)
    (runs_on (runs_on (param_run around next (comma ∷ after) one p)
    (more_run IsParam around (param_entries around) (param_run around) comma after (close ∷ rest) more (ap turn c) l))
    (passes (ap turn k) here))

maybe_params_run : (around : Nesting) → Follows (MayHave IsParams) around (params_entries around)
maybe_params_run around tokens rest params without_any = here
maybe_params_run around tokens rest params (with_some p) = params_run around tokens rest params p

bases_run : (around : Nesting) → Follows IsBases around (bases_entries around)
bases_run around tokens rest bases (of_bases h (last_one t)) = passes (ap turn h) (runs_on (type_keeps around t) here)
bases_run around tokens rest bases (of_bases h (and_more {comma = comma} {behind = after} {forms = more} t c l)) =
    passes (ap turn h)
    (runs_on (type_keeps around t)
    (more_run IsType around (type_entries around.types) (type_is_run around) comma after rest more (ap turn c) l))

maybe_bases_run : (around : Nesting) → Follows (MayHave IsBases) around (bases_entries around)
maybe_bases_run around tokens rest bases without_any = here
maybe_bases_run around tokens rest bases (with_some p) = bases_run around tokens rest bases p

where_run : (around : Nesting) → Follows IsWhere around (where_entries around)
where_run around tokens rest form (of_where {behind = after} {bounds = bounds} h t b) =
    passes (ap turn h) (runs_on (type_keeps around t) (bases_run around after rest bounds b))

mode_run : (around : Nesting) → Follows IsMode around one_entry
mode_run around tokens rest form (of_mode {word = word} h) = passes (ap turn h ∙ mode_stays word) here

semantic_run : (around : Nesting) → Follows IsSemantic around semantic_entries
semantic_run around tokens rest form (of_semantic h i) = passes (ap turn h) (passes (ap turn i) here)

arg_run : (around : Nesting) → Follows IsArg around (arg_entries around)
arg_run around tokens rest form (of_arg {behind = next} {after = after} {mode = mode} {semantic = semantic} m t h x) =
    runs_on (maybe_run IsMode around one_entry (mode_run around) tokens next mode m)
    (runs_on (type_keeps around t)
    (passes (ap turn h) (maybe_run IsSemantic around semantic_entries (semantic_run around) after rest semantic x)))

listed_args_run : (around : Nesting) → Follows (MayHave (AreListed IsArg)) around (listed_entries (arg_entries around))
listed_args_run around tokens rest args without_any = here
listed_args_run around tokens rest args (with_some l) = listed_run IsArg around (arg_entries around) (arg_run around) tokens rest args l

args_run : (around : Nesting) → Follows IsArgs around (args_entries around)
args_run around tokens rest args (of_args {closing = c} {tokens = next} h l k) =
    bracketed Tells (ap turn h) (tells (suc around.brackets)) (listed_args_run (in_bracket around) next (c ∷ rest) args l) (ap turn k)

block_run : (around : Nesting) → Follows IsBlock around (block_entries around)
block_run around tokens rest block p = stmt_run around p

-- members and items
field_run : (around : Nesting) → Follows IsField around (field_entries around)
field_run around tokens rest form (of_field {semicolon = c} {behind = next} {after = after} {access = access} {names = names} p t l d) =
    runs_on (access_run around tokens next access p)
    (runs_on (type_keeps around t)
    (runs_on (listed_run IsNamed around one_entry (named_run around) after (c ∷ rest) names l) (passes (ap turn d) here)))

mutating_run : (around : Nesting) → Follows IsMutating around (mutating_entries around)
mutating_run around tokens rest form (of_mutating h i j) =
    enters (ap turn h) (tells (suc around.brackets)) (passes (ap turn i) (leaves (ap turn j) here))

maybe_mutating_run : (around : Nesting) → Follows (MayBe IsMutating) around (maybe_entries (mutating_entries around))
maybe_mutating_run around = maybe_run IsMutating around (mutating_entries around) (mutating_run around)

tail_run : (around : Nesting) → Follows IsTail around (tail_entries around)
tail_run around tokens rest form (of_tail {behind = next} {after = after} {static = static} {args = args} w t h a) =
    runs_on (maybe_word_run around "static" refl tokens next static w)
    (runs_on (type_keeps around t) (passes (ap turn h) (args_run around after rest args a)))

head_run : (around : Nesting) → Follows IsHead around (head_entries around)
head_run around tokens rest form (of_head {behind = next} {after = after} {mutating = mutating} {access = access} {tail = tail} m p t) =
    runs_on (maybe_mutating_run around tokens next mutating m)
    (runs_on (access_run around next after access p) (tail_run around after rest tail t))

method_run : (around : Nesting) → Follows IsMethod around (method_entries around)
method_run around tokens rest form (of_method {second = s} {third = t} {fourth = f} {fifth = g} {mutating = mutating} {override = override} {access = access} {tail = tail} {body = body} m p o l b) =
    runs_on (maybe_mutating_run around tokens s mutating m)
    (runs_on (access_run around s t access p)
    (runs_on (maybe_word_run around "override" refl t f override o)
    (runs_on (tail_run around f g tail l) (block_run around g rest body b))))

member_run : (around : Nesting) → Follows IsMember around (member_entries around)
member_run around tokens rest form (member_field {field = one} p) = field_run around tokens rest one p
member_run around tokens rest form (member_method {method = one} p) = method_run around tokens rest one p
member_run around tokens rest form (member_alias {alias = one} p) = alias_run around tokens rest one p

addition_run : (around : Nesting) → Follows IsAddition around (member_entries around)
addition_run around tokens rest form (added_method {method = one} p) = method_run around tokens rest one p
addition_run around tokens rest form (added_alias {alias = one} p) = alias_run around tokens rest one p

ending_run : (around : Nesting) → Follows IsEnding around (ending_entries around)
ending_run around tokens rest form (without_body h) = passes (ap turn h) here
ending_run around tokens rest form (with_body {body = body} p) = block_run around tokens rest body p

require_run : (around : Nesting) → Follows IsRequire around (require_entries around)
require_run around tokens rest form (of_require {behind = next} {head = head} {body = body} h e) =
    runs_on (head_run around tokens next head h) (ending_run around next rest body e)

assoc_run : (around : Nesting) → Follows IsAssoc around (assoc_entries around)
assoc_run around tokens rest form (of_assoc {semicolon = c} {tokens = next} {bases = bases} h i b d) =
    passes (ap turn h)
    (passes (ap turn i) (runs_on (maybe_bases_run around next (c ∷ rest) bases b) (passes (ap turn d) here)))

item_run : (around : Nesting) → Follows IsItem around (item_entries around)
item_run around tokens rest form (item_require {require = one} p) = require_run around tokens rest one p
item_run around tokens rest form (item_assoc {assoc = one} p) = assoc_run around tokens rest one p

-- forms in braces
body_run : {A : Type 0} (IsForm : List Token → A → List Token → Type 0) (entries_of : Nesting → A → List Entry)
    → ((around : Nesting) → Follows IsForm around (entries_of around))
    → (around : Nesting) (tokens rest : List Token) (forms : List A) (semicolon : Option Token)
    → IsBody IsForm tokens (forms, semicolon) rest → Keeps around tokens (body_entries entries_of around forms semicolon) rest
body_run IsForm entries_of each around tokens rest forms semicolon (of_body {closing = c} {tokens = next} {behind = after} h m k w) =
    let inside = in_block around in
    begins (ap turn h) (tells (suc around.blocks))
    (runs_on (many_run IsForm inside (entries_of inside) (each inside) next (c ∷ after) forms m)
    (ends (ap turn k) (maybe_word_run around ";" refl after rest semicolon w)))

-- declarations
wheres_run : (around : Nesting) → Follows (AreMany IsWhere) around (flat_map (where_entries around))
wheres_run around = many_run IsWhere around (where_entries around) (where_run around)

struct_run : (around : Nesting) → Follows IsStruct around (struct_entries around)
struct_run around tokens rest form (of_struct {word = w} {name = n} {second = a} {third = b} {fourth = c} {fifth = d} {access = access} {params = params} {bases = bases} {wheres = wheres} {members = members} {semicolon = semicolon} p h i ps bs ws body) =
    runs_on (access_run around tokens (w ∷ n ∷ a) access p)
    (passes (ap turn h) (passes (ap turn i)
    (runs_on (maybe_params_run around a b params ps)
    (runs_on (maybe_bases_run around b c bases bs)
    (runs_on (wheres_run around c d wheres ws)
    (body_run IsMember member_entries member_run around d rest members semicolon body))))))

interface_run : (around : Nesting) → Follows IsInterface around (interface_entries around)
interface_run around tokens rest form (of_interface {word = w} {name = n} {second = a} {third = b} {access = access} {bases = bases} {items = items} {semicolon = semicolon} p h i bs body) =
    runs_on (access_run around tokens (w ∷ n ∷ a) access p)
    (passes (ap turn h) (passes (ap turn i)
    (runs_on (maybe_bases_run around a b bases bs)
    (body_run IsItem item_entries item_run around b rest items semicolon body))))

extension_run : (around : Nesting) → Follows IsExtension around (extension_entries around)
extension_run around tokens rest form (of_extension {word = w} {second = a} {third = b} {fourth = c} {access = access} {bases = bases} {members = members} {semicolon = semicolon} p h t bs body) =
    runs_on (access_run around tokens (w ∷ a) access p)
    (passes (ap turn h)
    (runs_on (type_keeps around t)
    (runs_on (maybe_bases_run around b c bases bs)
    (body_run IsAddition member_entries addition_run around c rest members semicolon body))))

set_run : (around : Nesting) → Follows IsSet around set_entries
set_run around tokens rest form (of_set h i) = passes (ap turn h) (passes (ap turn i) here)

binding_run : (around : Nesting) → Follows IsBinding around (binding_entries around)
binding_run around tokens rest form (of_binding {closing = d} {third = e} {fourth = f} {tokens = next} {set = set} x1 x2 x3 x4 x5 x6 x7 m y1 y2 y3) =
    let first = in_bracket around in
    let second = in_bracket first in
    let third = in_bracket second in
    enters (ap turn x1) (tells first.brackets)
    (enters (ap turn x2) (tells second.brackets)
    (passes (ap turn x3) (passes (ap turn x4) (passes (ap turn x5)
    (enters (ap turn x6) (tells third.brackets)
    (passes (ap turn x7)
    (runs_on (maybe_run IsSet third set_entries (set_run third) next (d ∷ e ∷ f ∷ rest) set m)
    (leaves (ap turn y1) (leaves (ap turn y2) (leaves (ap turn y3) here))))))))))

buffer_run : (around : Nesting) → Follows IsBuffer around (buffer_entries around)
buffer_run around tokens rest form (of_buffer {kind = kind} {word = w} {opening = o} {second = a} {third = b} {binding = binding} {access = access} m p h i t j q z) =
    runs_on (maybe_run IsBinding around (binding_entries around) (binding_run around) tokens a binding m)
    (runs_on (access_run around a (w ∷ o ∷ b) access p)
    (passes (ap turn h ∙ buffer_stays kind) (passes (ap turn i)
    (runs_on (type_keeps around t) (passes (ap turn j) (passes (ap turn q) (passes (ap turn z) here)))))))

attr_run : (around : Nesting) → Follows IsAttr around (attr_entries around)
attr_run around tokens rest form (of_shader x0 x1 x2 x3 x4 x5) =
    enters (ap turn x0) (tells (suc around.brackets))
    (passes (ap turn x1)
    (enters (ap turn x2) (tells (suc (suc around.brackets)))
    (passes (ap turn x3) (leaves (ap turn x4) (leaves (ap turn x5) here)))))
attr_run around tokens rest form (of_threads x0 x1 x2 x3 x4 x5 x6 x7 x8 x9) =
    enters (ap turn x0) (tells (suc around.brackets))
    (passes (ap turn x1)
    (enters (ap turn x2) (tells (suc (suc around.brackets)))
    (passes (ap turn x3) (passes (ap turn x4) (passes (ap turn x5) (passes (ap turn x6) (passes (ap turn x7)
    (leaves (ap turn x8) (leaves (ap turn x9) here)))))))))

function_run : (around : Nesting) → Follows IsFunction around (function_entries around)
function_run around tokens rest form (of_function {name = n} {second = a} {third = b} {fourth = c} {fifth = d} {sixth = e} {seventh = f} {attrs = attrs} {access = access} {params = params} {args = args} {wheres = wheres} {body = body} m p t h ps as' ws bl) =
    runs_on (many_run IsAttr around (attr_entries around) (attr_run around) tokens a attrs m)
    (runs_on (access_run around a b access p)
    (runs_on (type_keeps around t)
    (passes (ap turn h)
    (runs_on (maybe_params_run around c d params ps)
    (runs_on (args_run around d e args as')
    (runs_on (wheres_run around e f wheres ws) (block_run around f rest body bl)))))))

decl_run : (around : Nesting) → Follows IsDecl around (decl_entries around)
decl_run around tokens rest form (decl_import {import' = one} p) = import_run around tokens rest one p
decl_run around tokens rest form (decl_alias {alias = one} p) = alias_run around tokens rest one p
decl_run around tokens rest form (decl_const {constant = one} p) = const_run around tokens rest one p
decl_run around tokens rest form (decl_struct {struct = one} p) = struct_run around tokens rest one p
decl_run around tokens rest form (decl_interface {interface = one} p) = interface_run around tokens rest one p
decl_run around tokens rest form (decl_extension {extension = one} p) = extension_run around tokens rest one p
decl_run around tokens rest form (decl_buffer {buffer = one} p) = buffer_run around tokens rest one p
decl_run around tokens rest form (decl_function {function = one} p) = function_run around tokens rest one p

header_run : Follows IsHeader (all_open 0) header_entries
header_run tokens rest form (of_header h i d) = passes (ap turn h) (passes (ap turn i) (passes (ap turn d) here))

module_run : Follows IsModule (all_open 0) module_entries
module_run tokens rest tree (of_module {end = e} {behind = next} {name = name} {decls = decls} n m h) =
    runs_on (maybe_run IsHeader (all_open 0) header_entries header_run tokens next name n)
    (runs_on (many_run IsDecl (all_open 0) (decl_entries (all_open 0)) (decl_run (all_open 0)) next (e ∷ rest) decls m)
    (passes (ap turn h) here))

pub depths_are_counted : DepthsAreCounted
depths_are_counted before token behind rest tree p within =
    let run = module_run (before ++ token ∷ behind) rest tree p in
    record {
      bracket = λ is deep. let told = at_bracket before token behind run within is in told_deep told told (omega (arith, deep));
      block = λ is none deep. let told = at_block before token behind run within is none in told_deep told told (omega (arith, deep));
    }
