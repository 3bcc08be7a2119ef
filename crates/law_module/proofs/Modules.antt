-- What modules begin with.
use Rattle.std.proofs.Common.{Bool, ◌∷◌}
use Rattle.std.specs.Prelude.{None}
use Rattle.def_tree.specs.Symbol.{Symbol, is_sign}
use Rattle.law_tree.proofs.Heads.{begins_type, type_head}
use Rattle.def_module.specs.Declarations.{IsImport, of_import, of_alias, of_const, of_struct, of_interface, of_extension, IsBuffer, of_buffer, IsAttr, IsFunction, of_function, IsDecl, decl_import, decl_alias, decl_const, decl_struct, decl_interface, decl_extension, decl_buffer, decl_function}
use Rattle.def_module.specs.Repetition.{of_word, without, with_one}
use Rattle.law_module.proofs.Forms.{either, this_head, other_head, Headed, maybe_head, many_head}
use Rattle.law_module.proofs.Parts.{access_head, access_headed}
use Rattle.law_module.proofs.Decls.{typed_head, binding_headed, LeadExported, LeadImport, LeadAlias, LeadConst, LeadStruct, LeadInterface, LeadExtension, lead_of, buffer_lead, keyed_head, keyed_headed, attr_headed}

-- modules
abbrev buffer_head : Symbol → Bool
buffer_head = either (is_sign "[") keyed_head

abbrev function_head : Symbol → Bool
function_head = either (is_sign "[") typed_head

abbrev pub decl_head : Symbol → Bool
decl_head = either keyed_head (either buffer_head function_head)

import_headed : Headed IsImport keyed_head
import_headed tokens rest form (of_import {word = w} {name = n} {semicolon = c} without h i d) = keyed_headed LeadImport tokens (n ∷ c ∷ rest) None w without h
import_headed tokens rest form (of_import (with_one {rest = next} {form = e} (of_word x)) h i d) = keyed_headed LeadExported tokens next None e without x

buffer_headed : Headed IsBuffer buffer_head
buffer_headed tokens rest form (of_buffer {kind = kind} {word = w} {opening = o} {second = a} {third = b} {binding = binding} {access = access} m p h i t j q z) =
    maybe_head _ (is_sign "[") keyed_head tokens a binding binding_headed m (keyed_headed (lead_of kind) a (o ∷ b) access w p (buffer_lead kind w h))

function_headed : Headed IsFunction function_head
function_headed tokens rest form (of_function {second = a} {third = b} {attrs = attrs} {access = access} m p t h ps as' ws bl) =
    many_head IsAttr (is_sign "[") typed_head tokens a attrs attr_headed m (maybe_head _ access_head begins_type a b access access_headed p (type_head t))

pub decl_headed : Headed IsDecl decl_head
decl_headed tokens rest form (decl_import {import' = one} p) = this_head keyed_head _ tokens (import_headed tokens rest one p)
decl_headed tokens rest form (decl_alias (of_alias {word = w} {name = n} {equals = e} {behind = next} {access = access} p h i j t d)) =
    this_head keyed_head _ tokens (keyed_headed LeadAlias tokens (n ∷ e ∷ next) access w p h)
decl_headed tokens rest form (decl_const (of_const {word = w} {const = c} {behind = next} {access = access} p h i t j q v z)) =
    this_head keyed_head _ tokens (keyed_headed LeadConst tokens (c ∷ next) access w p h)
decl_headed tokens rest form (decl_struct (of_struct {word = w} {name = n} {second = a} {access = access} p h i ps bs ws b)) =
    this_head keyed_head _ tokens (keyed_headed LeadStruct tokens (n ∷ a) access w p h)
decl_headed tokens rest form (decl_interface (of_interface {word = w} {name = n} {second = a} {access = access} p h i bs b)) =
    this_head keyed_head _ tokens (keyed_headed LeadInterface tokens (n ∷ a) access w p h)
decl_headed tokens rest form (decl_extension (of_extension {word = w} {second = a} {access = access} p h t bs b)) =
    this_head keyed_head _ tokens (keyed_headed LeadExtension tokens a access w p h)
decl_headed tokens rest form (decl_buffer {buffer = one} p) = other_head keyed_head _ tokens (this_head buffer_head _ tokens (buffer_headed tokens rest one p))
decl_headed tokens rest form (decl_function {function = one} p) = other_head keyed_head _ tokens (other_head buffer_head _ tokens (function_headed tokens rest one p))
