-- The next token tells how a declaration goes on.
use Rattle.std.proofs.Common.{◌≡◌, true, false, inl, inr, List, [], ◌∷◌, refl, codes}
use Rattle.std.specs.Prelude.{Option, Some, None}
use Rattle.def_token.specs.Lexical.{Token}
use Rattle.def_tree.specs.Limits.{Nesting}
use Rattle.def_tree.specs.Symbol.{End, Sign, is_sign}
use Rattle.def_tree.specs.TypeTree.{TypeTree}
use Rattle.def_module.specs.DeclTree.{AccessTree, BufferKind, BindingTree, AttrTree}
use Rattle.def_decl_reading.specs.MemberReading.{access_form, alias_form, params_form, bases_form, wheres_form, args_form, block_form, field_form, called_form, typed_form, tail_form, method_form, override_form, mutating_method, typed_member, accessed_member, member_form, accessed_addition, head_form, assoc_form, addition_form, item_form, body_form}
use Rattle.def_decl_reading.specs.DeclReading.{import_form, const_form, struct_form, interface_form, extension_form, kind_form, binding_form, attr_form, function_form, bound_form, attributed_form, accessed_form, decl_form, module_form}
use Rattle.law_decls.proofs.FormFirst.{goes_on, Predicts}
use Rattle.law_decls.proofs.Gives.{Eats}
use Rattle.law_decls.proofs.Range.{Range, Among, with_symbol, avoids, within_same}

-- words of access
access_predicts : (b : Range) → avoids (is_sign "public") (with_symbol (Sign (codes "internal")) (with_symbol (Sign (codes "private")) b)) ≡ true → avoids (is_sign "internal") (with_symbol (Sign (codes "private")) b) ≡ true → avoids (is_sign "private") b ≡ true → Predicts false b access_form
access_predicts b one two three = search (tt, one, two, three) depth 20

-- the parts of declarations, and what stands in structs, interfaces and extensions
module _ (around : Nesting) where
  -- declarations and what stands in them have tokens
  eats_decl : Eats (decl_form around)
  eats_decl = search (tt, inl, inr) depth 60

  eats_member : Eats (member_form around)
  eats_member = search (tt, inl, inr) depth 60

  eats_addition : Eats (addition_form around)
  eats_addition = search (tt, inl, inr) depth 60

  eats_item : Eats (item_form around)
  eats_item = search (tt, inl, inr) depth 60

  -- aliases, parameters, blocks and fields
  alias_predicts : (b : Range) (access : Option AccessTree) (word : Token) → Predicts false b (alias_form around access word)
  alias_predicts b access word = search tt depth 20

  args_predicts : (b : Range) → Predicts false b (args_form around)
  args_predicts b = search tt depth 20

  block_predicts : (b : Range) → Predicts false b (block_form around)
  block_predicts b = search tt depth 20

  field_predicts : (b : Range) (access : Option AccessTree) (type : TypeTree) (first : Token) → Predicts false b (field_form access type first)
  field_predicts b access type first = search tt depth 20

  -- methods
  called_predicts : (b : Range) (static : Option Token) (type : TypeTree) (name : Token) → Predicts false b (called_form around static type name)
  called_predicts b static type name = search tt depth 20

  typed_predicts : (b : Range) (static : Option Token) → Predicts false b (typed_form around static)
  typed_predicts b static = search (called_predicts) depth 20

  tail_predicts : (b : Range) → Predicts false b (tail_form around)
  tail_predicts b = search (tt, typed_predicts) depth 20

  tailed_predicts : (b : Range) (mutating : Option Token) (access : Option AccessTree) (override : Option Token) → Predicts false b (method_form around mutating access override (tail_form around))
  tailed_predicts b mutating access override = search (tail_predicts, block_predicts) depth 20

  static_predicts : (b : Range) (access : Option AccessTree) (word : Token) → Predicts false b (method_form around None access None (typed_form around (Some word)))
  static_predicts b access word = search (typed_predicts, block_predicts) depth 20

  bare_predicts : (b : Range) (access : Option AccessTree) (type : TypeTree) (name : Token) → Predicts false b (method_form around None access None (called_form around None type name))
  bare_predicts b access type name = search (called_predicts, block_predicts) depth 20

  override_predicts : (b : Range) (mutating : Option Token) (access : Option AccessTree) → Predicts false b (override_form around mutating access)
  override_predicts b mutating access = search (tt, tailed_predicts) depth 20

  mutating_predicts : (b : Range) → Predicts false b (mutating_method around)
  mutating_predicts b = search (tt, access_predicts, override_predicts) depth 20

  -- what stands in structs, extensions and interfaces
  typed_member_predicts : (b : Range) (access : Option AccessTree) → Predicts false b (typed_member around access)
  typed_member_predicts b access = search (bare_predicts, field_predicts) depth 20

  accessed_member_predicts : (b : Range) (access : Option AccessTree) → Predicts false b (accessed_member around access)
  accessed_member_predicts b access = search (alias_predicts, tailed_predicts, static_predicts, typed_member_predicts) depth 20

  member_predicts : (b : Range) → Predicts false b (member_form around)
  member_predicts b = search (mutating_predicts, access_predicts, accessed_member_predicts) depth 20

  accessed_addition_predicts : (b : Range) (access : Option AccessTree) → Predicts false b (accessed_addition around access)
  accessed_addition_predicts b access = search (alias_predicts, override_predicts) depth 20

  addition_predicts : (b : Range) → Predicts false b (addition_form around)
  addition_predicts b = search (mutating_predicts, access_predicts, accessed_addition_predicts) depth 20

  head_predicts : (b : Range) → Predicts false b (head_form around)
  head_predicts b = search (tt, access_predicts, tail_predicts) depth 20

  assoc_predicts : (b : Range) (word : Token) → Predicts false b (assoc_form around word)
  assoc_predicts b word = search tt depth 20

  item_predicts : (b : Range) → Predicts false b (item_form around)
  item_predicts b = search (tt, head_predicts, assoc_predicts) depth 20

  -- forms in braces
  members_predicts : (b : Range) → avoids (is_sign ";") b ≡ true → Predicts false b (body_form around member_form)
  members_predicts b h = search (tt, h, within_same, eats_member, member_predicts) depth 20

  additions_predicts : (b : Range) → avoids (is_sign ";") b ≡ true → Predicts false b (body_form around addition_form)
  additions_predicts b h = search (tt, h, within_same, eats_addition, addition_predicts) depth 20

  items_predicts : (b : Range) → avoids (is_sign ";") b ≡ true → Predicts false b (body_form around item_form)
  items_predicts b h = search (tt, h, within_same, eats_item, item_predicts) depth 20

  -- type parameters, bases and conditions
  params_predicts : (b : Range) → avoids (is_sign "<") b ≡ true → Predicts false b (params_form around)
  params_predicts b h = search (tt, h) depth 20

  bases_predicts : (b : Range) → avoids (is_sign ":") b ≡ true → avoids (is_sign ",") b ≡ true → avoids goes_on (with_symbol (Sign (codes ",")) b) ≡ true → Predicts false b (bases_form around)
  bases_predicts b one two three = search (tt, one, two, three) depth 20

  wheres_predicts : Predicts false (Among (Sign (codes "{") ∷ [])) (wheres_form around)
  wheres_predicts = (refl, λ word. (refl, λ type. (λ colon. (refl, refl), refl, refl), λ type. refl))

-- declarations
module _ (around : Nesting) where
  import_predicts : (b : Range) (exported : Option Token) (word : Token) → Predicts false b (import_form exported word)
  import_predicts b exported word = search tt depth 20

  -- constants, structs, interfaces and extensions
  const_predicts : (b : Range) (access : Option AccessTree) (word : Token) → Predicts false b (const_form around access word)
  const_predicts b access word = search tt depth 20

  struct_predicts : (b : Range) → avoids (is_sign ";") b ≡ true → (access : Option AccessTree) (word : Token) → Predicts false b (struct_form around access word)
  struct_predicts b h access word = search (params_predicts, bases_predicts, wheres_predicts, members_predicts, h) depth 20

  interface_predicts : (b : Range) → avoids (is_sign ";") b ≡ true → (access : Option AccessTree) (word : Token) → Predicts false b (interface_form around access word)
  interface_predicts b h access word = search (bases_predicts, items_predicts, h) depth 20

  extension_predicts : (b : Range) → avoids (is_sign ";") b ≡ true → (access : Option AccessTree) (word : Token) → Predicts false b (extension_form around access word)
  extension_predicts b h access word = search (bases_predicts, additions_predicts, h) depth 20

  -- buffers, attributes and functions
  kind_predicts : (b : Range) (binding : Option BindingTree) (access : Option AccessTree) (kind : BufferKind) (word : Token) → Predicts false b (kind_form around binding access kind word)
  kind_predicts b binding access kind word = search tt depth 20

  binding_predicts : (b : Range) (first : Token) → Predicts false b (binding_form around first)
  binding_predicts b first = search tt depth 40

  attr_predicts : (b : Range) (first : Token) → Predicts false b (attr_form around first)
  attr_predicts b first = search tt depth 40

  function_predicts : (b : Range) (attrs : List AttrTree) (access : Option AccessTree) → Predicts false b (function_form around attrs access)
  function_predicts b attrs access = search (params_predicts, args_predicts, wheres_predicts, block_predicts) depth 20

  bound_predicts : (b : Range) (first : Token) → Predicts false b (bound_form around first)
  bound_predicts b first = search (binding_predicts, access_predicts, kind_predicts) depth 20

  attributed_predicts : (b : Range) (first : Token) → Predicts false b (attributed_form around first)
  attributed_predicts b first = search (attr_predicts, access_predicts, function_predicts) depth 20

  -- all of them
  accessed_predicts : (b : Range) → avoids (is_sign ";") b ≡ true → (access : Option AccessTree) → Predicts false b (accessed_form around access)
  accessed_predicts b h access = search (alias_predicts, const_predicts, struct_predicts, interface_predicts, extension_predicts, kind_predicts, function_predicts, h) depth 20

  decl_predicts : (b : Range) → avoids (is_sign ";") b ≡ true → Predicts false b (decl_form around)
  decl_predicts b h = search (bound_predicts, attributed_predicts, import_predicts, access_predicts, accessed_predicts, h) depth 20

-- what stands behind declarations
abbrev pub an_end : Range
an_end = Among (End ∷ [])

-- modules, before their end
pub module_predicts : Predicts false an_end module_form
module_predicts = search (tt, eats_decl, decl_predicts) depth 20
