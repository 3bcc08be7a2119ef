-- Declarations and modules are read.
use Rattle.std.proofs.Common.{◌≡◌, inl, inr, Bool, true, false, List, [], ◌∷◌, ◌++◌, refl, codes}
use Rattle.std.specs.Prelude.{Option, Some, None}
use Rattle.std.specs.List.{flat_map, list_any}
use Rattle.std.proofs.lemmas.Bool.{false≢true}
use Prim.Native.String.{String}
use Rattle.def_token.specs.Lexical.{Token}
use Rattle.def_tree.specs.Limits.{Nesting, Entry, plain, opens, all_open, in_bracket, type_entries}
use Rattle.def_tree.specs.Symbol.{Symbol, Name, Number, Text, End, Sign, symbol, is_sign, Is, IsName}
use Rattle.def_tree.specs.Types.{IsType}
use Rattle.def_tree.specs.TypeTree.{TypeTree}
use Rattle.law_tree.proofs.Heads.{IsHeaded, begins_type, type_head}
use Rattle.law_stmts.proofs.StmtComes.{semicolon_stops}
use Rattle.def_module.specs.Declarations.{IsAccess, IsImport, of_import, IsAlias, of_alias, IsConst, of_const, IsArgs, of_args, IsWhere, IsMember, IsItem, IsAddition, IsBases, IsParams, IsBlock, IsStruct, of_struct, IsInterface, of_interface, IsExtension, of_extension, IsSet, of_set, of_binding, IsBuffer, of_buffer, IsAttr, of_shader, of_threads, IsFunction, of_function, IsDecl, decl_import, decl_alias, decl_const, decl_struct, decl_interface, decl_extension, decl_buffer, decl_function}
use Rattle.def_module.specs.DeclTree as tree
use Rattle.def_module.specs.DeclTree.{AccessTree, ImportTree, AliasTree, ConstTree, ParamTree, ArgTree, WhereTree, BlockTree, StructTree, InterfaceTree, ExtensionTree, BufferKind, ReadOnly, ReadWrite, buffer_text, BindingTree, BufferTree, AttrTree, FunctionTree, DeclTree, ModuleTree}
use Rattle.def_module.specs.Entries.{maybe_entries, access_entries, import_entries, alias_entries, const_entries, struct_entries, interface_entries, extension_entries, params_entries, where_entries, args_entries, block_entries, set_entries, buffer_entries, attr_entries, function_entries, decl_entries, header_entries}
use Rattle.def_module.specs.Module.{IsHeader, of_header, IsEnd}
use Rattle.def_module.specs.Repetition.{of_word, MayBe, without, with_one, MayHave, AreMany, no_more, one_more}
use Rattle.law_module.proofs.Decls.{wheres_head, is_lead, lead_headed, lead_of, buffer_lead, typed_head}
use Rattle.law_module.proofs.Members.{body_headed}
use Rattle.law_module.proofs.Forms.{one_of, avoids, either, headed_by, maybe_head, have_head, many_head}
use Rattle.law_module.proofs.Modules.{decl_head, decl_headed}
use Rattle.law_module.proofs.Parts.{free, misses, access_signs, access_head, access_headed, type_stops, type_ends, bases_stops, bases_headed, where_head, where_headed, block_headed}
use Rattle.def_decl_reading.specs.Form.{ASign, ends, Form, Never, As, begins}
use Rattle.def_decl_reading.specs.DeclReading.{import_form, set_form, kind_form, buffer_form, attr_form, function_form, accessed_form, decl_form, header_form, module_form}
use Rattle.law_decls.proofs.FormComes.{Arrives, arrives_made, arrives_yes, arrives_no, arrives_then, arrives_as, arrives_type, arrives_expr, Arriving, Begun, begun, arrives_many, arrives_until}
use Rattle.law_decls.proofs.MemberComes.{members_arrive, additions_arrive, items_arrive}
use Rattle.law_decls.proofs.PartComes.{apart, type_misses, arrives_closed, access_arrives, alias_arrives, params_arrive, bases_arrive, wheres_arrive, args_arrive, block_arrives}

-- the signs with which a declaration begins where it begins with no access and no word behind one
abbrev early_signs : List String
early_signs = "[" ∷ "__exported" ∷ "import" ∷ []

-- a declaration behind its access
pub accessed : (around : Nesting) (head : Symbol → Bool) → list_any (λ (sign : String). either access_head head (Sign (codes sign))) early_signs ≡ false
    → list_any (λ (sign : String). head (Sign (codes sign))) access_signs ≡ false
    → {tokens behind rest : List Token} {access : Option AccessTree} {decl : DeclTree} {entries : List Entry} → IsAccess tokens access behind → IsHeaded head behind
    → Arrives (accessed_form around access) behind decl entries rest → Arrives (decl_form around) tokens decl (access_entries access ++ entries) rest
accessed around head early words {tokens = tokens} {behind = behind} {access = access} p h c =
    let none = avoids (either access_head head) early_signs tokens early (maybe_head _ access_head head tokens behind access access_headed p h) in
    let one = apart "[" ("__exported" ∷ "import" ∷ []) tokens none in
    let two = apart "__exported" ("import" ∷ []) tokens one.1 in
    arrives_no one.0 (arrives_no two.0 (arrives_no (apart "import" [] tokens two.1).0 (arrives_then (access_arrives p (avoids head access_signs behind words h)) c)))

-- a declaration with a word behind its access
worded : (around : Nesting) (text : String) (word : Token) → list_any (λ (sign : String). either access_head (is_sign text) (Sign (codes sign))) early_signs ≡ false
    → list_any (λ (sign : String). is_sign text (Sign (codes sign))) access_signs ≡ false → is_sign text (Sign (codes text)) ≡ true
    → {tokens behind rest : List Token} {access : Option AccessTree} {decl : DeclTree} {entries : List Entry} → Is text word → IsAccess tokens access (word ∷ behind)
    → Arrives (accessed_form around access) (word ∷ behind) decl entries rest → Arrives (decl_form around) tokens decl (access_entries access ++ entries) rest
worded around text word early words same {behind = behind} w p c = accessed around (is_sign text) early words p (headed_by (is_sign text) word behind (Sign (codes text)) w same) c

-- imports
import_arrives : (exported : Option Token) (word : Token) {name semicolon : Token} {rest : List Token} → IsName name → Is ";" semicolon
    → Arrives (import_form exported word) (name ∷ semicolon ∷ rest) (record { exported = exported; word = word; name = name }) (plain ∷ plain ∷ []) rest
import_arrives exported word n s = arrives_yes n (arrives_yes s arrives_made)

module _ (around : Nesting) where
  import_decl : {tokens rest : List Token} {form : ImportTree} → IsImport tokens form rest → Arrives (decl_form around) tokens (tree.Import form) (import_entries form) rest
  import_decl (of_import {word = word} without w n s) = arrives_no (rw w refl) (arrives_no (rw w refl) (arrives_yes w (arrives_as (import_arrives None word n s))))
  import_decl (of_import {word = word} (with_one {form = exported} (of_word e)) w n s) =
      arrives_no (rw e refl) (arrives_yes e (arrives_as (arrives_yes w (import_arrives (Some exported) word n s))))

  -- structs, interfaces and extensions
  struct_decl : {tokens rest : List Token} {form : StructTree} → IsStruct tokens form rest → begins (is_sign ";") rest ≡ false → Arrives (decl_form around) tokens (tree.Struct form) (struct_entries around form) rest
  struct_decl {rest = rest} (of_struct {word = word} {second = second} {third = third} {fourth = fourth} {fifth = fifth} {params = params} {bases = bases} {wheres = wheres} {members = members} {semicolon = semicolon} p w n ps bs ws b) s =
      let from_body : IsHeaded (is_sign "{") fifth = body_headed IsMember fifth rest (members, semicolon) b in
      let from_wheres : IsHeaded wheres_head fourth = many_head IsWhere where_head (is_sign "{") fourth fifth wheres where_headed ws from_body in
      let from_bases : IsHeaded (either (is_sign ":") wheres_head) third = have_head IsBases (is_sign ":") wheres_head third fourth bases bases_headed bs from_wheres in
      worded around "struct" word refl refl refl w p
      (arrives_no (rw w refl) (arrives_no (rw w refl) (arrives_yes w (arrives_as (arrives_yes n
      (arrives_then (params_arrive around ps (misses (either (is_sign ":") wheres_head) "<" third refl from_bases))
      (arrives_then (bases_arrive around bs (misses wheres_head ":" fourth refl from_wheres) (avoids wheres_head bases_stops fourth refl from_wheres))
      (arrives_then (wheres_arrive around ws (misses (is_sign "{") "where" fifth refl from_body) (avoids (is_sign "{") bases_stops fifth refl from_body))
      (arrives_as (members_arrive around b s))))))))))

  interface_decl : {tokens rest : List Token} {form : InterfaceTree} → IsInterface tokens form rest → begins (is_sign ";") rest ≡ false
      → Arrives (decl_form around) tokens (tree.Interface form) (interface_entries around form) rest
  interface_decl {rest = rest} (of_interface {word = word} {third = third} {items = items} {semicolon = semicolon} p w n bs b) s =
      let from_body : IsHeaded (is_sign "{") third = body_headed IsItem third rest (items, semicolon) b in
      worded around "interface" word refl refl refl w p
      (arrives_no (rw w refl) (arrives_no (rw w refl) (arrives_no (rw w refl) (arrives_yes w (arrives_as (arrives_yes n
      (arrives_then (bases_arrive around bs (misses (is_sign "{") ":" third refl from_body) (avoids (is_sign "{") bases_stops third refl from_body))
      (arrives_as (items_arrive around b s)))))))))

  extension_decl : {tokens rest : List Token} {form : ExtensionTree} → IsExtension tokens form rest → begins (is_sign ";") rest ≡ false
      → Arrives (decl_form around) tokens (tree.Extension form) (extension_entries around form) rest
  extension_decl {rest = rest} (of_extension {word = word} {third = third} {fourth = fourth} {type = type} {bases = bases} {members = members} {semicolon = semicolon} p w t bs b) s =
      let from_body : IsHeaded (is_sign "{") fourth = body_headed IsAddition fourth rest (members, semicolon) b in
      let from_bases : IsHeaded (either (is_sign ":") (is_sign "{")) third = have_head IsBases (is_sign ":") (is_sign "{") third fourth bases bases_headed bs from_body in
      worded around "extension" word refl refl refl w p
      (arrives_no (rw w refl) (arrives_no (rw w refl) (arrives_no (rw w refl) (arrives_no (rw w refl) (arrives_yes w (arrives_as
      (arrives_then (arrives_type t (type_ends type third (avoids (either (is_sign ":") (is_sign "{")) type_stops third refl from_bases)))
      (arrives_then (bases_arrive around bs (misses (is_sign "{") ":" fourth refl from_body) (avoids (is_sign "{") bases_stops fourth refl from_body))
      (arrives_as (additions_arrive around b s))))))))))

  alias_decl : {tokens rest : List Token} {form : AliasTree} → IsAlias tokens form rest → Arrives (decl_form around) tokens (tree.Alias form) (alias_entries around form) rest
  alias_decl (of_alias {word = word} {name = name} {equals = equals} {semicolon = semicolon} {access = access} p w n e t s) =
      worded around "typealias" word refl refl refl w p (arrives_yes w (arrives_as (alias_arrives around access word name equals semicolon n e t s)))

  const_decl : {tokens rest : List Token} {form : ConstTree} → IsConst tokens form rest → Arrives (decl_form around) tokens (tree.Const form) (const_entries around form) rest
  const_decl {rest = rest} (of_const {word = word} {name = name} {equals = equals} {semicolon = semicolon} {after = after} {type = type} p w c t n e v s) =
      let stops = semicolon_stops semicolon rest s in
      worded around "static" word refl refl refl w p
      (arrives_no (rw w refl) (arrives_yes w (arrives_as (arrives_yes c
      (arrives_then (arrives_type t (type_ends type (name ∷ equals ∷ after) (rw n refl)))
      (arrives_yes n (arrives_yes e (arrives_as (arrives_closed s (arrives_expr v stops.goes stops.shifts))))))))))

-- buffers
kind_arrives : (around : Nesting) (binding : Option BindingTree) (access : Option AccessTree) (kind : BufferKind) (word : Token) {opening closing name semicolon : Token} {third rest : List Token} {element : TypeTree}
    → Is "<" opening → IsType third element (closing ∷ name ∷ semicolon ∷ rest) → Is ">" closing → IsName name → Is ";" semicolon
    → Arrives (kind_form around binding access kind word) (opening ∷ third) (record { binding = binding; access = access; kind = kind; word = word; element = element; name = name })
    (plain ∷ (type_entries around.types element ++ plain ∷ plain ∷ plain ∷ [])) rest
kind_arrives around binding access kind word {closing = closing} {name = name} {semicolon = semicolon} {rest = rest} {element = element} o t c n s =
    arrives_yes o (arrives_then (arrives_type t (type_ends element (closing ∷ name ∷ semicolon ∷ rest) (rw c refl))) (arrives_yes c (arrives_yes n (arrives_yes s arrives_made))))

buffer_arrives : (around : Nesting) (binding : Option BindingTree) (access : Option AccessTree) (other : Form DeclTree) (kind : BufferKind) {word opening closing name semicolon : Token} {third rest : List Token}
    {element : TypeTree} → Is (buffer_text kind) word → Is "<" opening → IsType third element (closing ∷ name ∷ semicolon ∷ rest) → Is ">" closing → IsName name → Is ";" semicolon
    → Arrives (buffer_form around binding access other) (word ∷ opening ∷ third) (tree.Buffer (record { binding = binding; access = access; kind = kind; word = word; element = element; name = name }))
    (plain ∷ plain ∷ (type_entries around.types element ++ plain ∷ plain ∷ plain ∷ [])) rest
buffer_arrives around binding access other ReadOnly {word = word} w o t c n s = arrives_yes w (arrives_as (kind_arrives around binding access ReadOnly word o t c n s))
buffer_arrives around binding access other ReadWrite {word = word} w o t c n s = arrives_no (rw w refl) (arrives_yes w (arrives_as (kind_arrives around binding access ReadWrite word o t c n s)))

set_arrives : {tokens rest : List Token} {set : Option Token} → MayBe IsSet tokens set rest → begins (is_sign ",") rest ≡ false → Arrives set_form tokens set (maybe_entries set_entries set) rest
set_arrives without h = arrives_no h arrives_made
set_arrives (with_one (of_set c n)) h = arrives_yes c (arrives_yes n arrives_made)

-- a kind of buffers begins no other form
kind_misses : (kind : BufferKind) (word : Token) → Is (buffer_text kind) word → one_of ("typealias" ∷ "static" ∷ "struct" ∷ "interface" ∷ "extension" ∷ []) (symbol word) ≡ false
kind_misses ReadOnly word w = rw w refl
kind_misses ReadWrite word w = rw w refl

-- what stands behind an access, if it is no alias, constant, struct, interface or extension
unworded : (around : Nesting) (access : Option AccessTree) {tokens rest : List Token} {decl : DeclTree} {entries : List Entry} → begins (one_of ("typealias" ∷ "static" ∷ "struct" ∷ "interface" ∷ "extension" ∷ [])) tokens ≡ false
    → Arrives (buffer_form around None access (As tree.Function (function_form around [] access))) tokens decl entries rest → Arrives (accessed_form around access) tokens decl entries rest
unworded around access {tokens = tokens} h c =
    let one = apart "typealias" ("static" ∷ "struct" ∷ "interface" ∷ "extension" ∷ []) tokens h in
    let two = apart "static" ("struct" ∷ "interface" ∷ "extension" ∷ []) tokens one.1 in
    let three = apart "struct" ("interface" ∷ "extension" ∷ []) tokens two.1 in
    let four = apart "interface" ("extension" ∷ []) tokens three.1 in
    arrives_no one.0 (arrives_no two.0 (arrives_no three.0 (arrives_no four.0 (arrives_no (apart "extension" [] tokens four.1).0 c))))

buffer_decl : (around : Nesting) {tokens rest : List Token} {form : BufferTree} → IsBuffer tokens form rest → Arrives (decl_form around) tokens (tree.Buffer form) (buffer_entries around form) rest
buffer_decl around (of_buffer {kind = ReadOnly} {word = word} {access = access} without p w o t c n s) =
    worded around "StructuredBuffer" word refl refl refl w p
    (unworded around access (kind_misses ReadOnly word w) (buffer_arrives around None access (As tree.Function (function_form around [] access)) ReadOnly w o t c n s))
buffer_decl around (of_buffer {kind = ReadWrite} {word = word} {access = access} without p w o t c n s) =
    worded around "RWStructuredBuffer" word refl refl refl w p
    (unworded around access (kind_misses ReadWrite word w) (buffer_arrives around None access (As tree.Function (function_form around [] access)) ReadWrite w o t c n s))
buffer_decl around (of_buffer {kind = kind} {word = word} {opening = opening} {third = third} {access = access} (with_one {form = binding} (of_binding a b v d x y z set i j k)) p w o t c n s) =
    arrives_yes a (arrives_yes b
    (arrives_then (arrives_yes v (arrives_yes d (arrives_yes x (arrives_yes y (arrives_yes z (arrives_then (set_arrives set (rw i refl)) (arrives_yes i (arrives_yes j (arrives_yes k arrives_made)))))))))
    (arrives_then (access_arrives p (avoids is_lead access_signs (word ∷ opening ∷ third) refl (lead_headed (lead_of kind) word (opening ∷ third) (buffer_lead kind word w))))
    (buffer_arrives around (Some binding) access Never kind w o t c n s))))

-- functions
attr_begun : (around : Nesting) (tokens rest : List Token) (attr : AttrTree) → IsAttr tokens attr rest → begins (one_of []) rest ≡ false
    → Begun (ASign "[") (opens (in_bracket around).brackets) (attr_form (in_bracket around)) tokens attr (attr_entries around attr) rest
attr_begun around tokens rest attr (of_shader f w o s c l) h = begun f (arrives_yes w (arrives_yes o (arrives_yes s (arrives_yes c (arrives_yes l arrives_made)))))
attr_begun around tokens rest attr (of_threads f w o x a y b z c l) h =
    begun f (arrives_no (rw w refl) (arrives_yes w (arrives_yes o (arrives_yes x (arrives_yes a (arrives_yes y (arrives_yes b (arrives_yes z (arrives_yes c (arrives_yes l arrives_made))))))))))

function_arrives : (around : Nesting) (attrs : List AttrTree) (access : Option AccessTree) (name : Token) {third fourth fifth sixth seventh rest : List Token} {type : TypeTree} {params : List ParamTree} {args : List ArgTree}
    {wheres : List WhereTree} {body : BlockTree} → IsType third type (name ∷ fourth) → IsName name → MayHave IsParams fourth params fifth → IsArgs fifth args sixth → AreMany IsWhere sixth wheres seventh
    → IsBlock seventh body rest
    → Arrives (function_form around attrs access) third (record { attrs = attrs; access = access; type = type; name = name; params = params; args = args; wheres = wheres; body = body })
    (type_entries around.types type ++ plain ∷ (params_entries around params ++ (args_entries around args ++ (flat_map (where_entries around) wheres ++ block_entries around body)))) rest
function_arrives around attrs access name {fourth = fourth} {seventh = seventh} {rest = rest} {type = type} {body = body} t n ps (of_args {opening = opening} {closing = closing} {tokens = after} o l c) ws b =
    let from_body : IsHeaded (is_sign "{") seventh = block_headed seventh rest body b in
    arrives_then (arrives_type t (type_ends type (name ∷ fourth) (rw n refl)))
    (arrives_yes n
    (arrives_then (params_arrive around ps (rw o refl))
    (arrives_yes o
    (arrives_then (args_arrive (in_bracket around) closing l c)
    (arrives_then (wheres_arrive around ws (misses (is_sign "{") "where" seventh refl from_body) (avoids (is_sign "{") bases_stops seventh refl from_body))
    (arrives_as (block_arrives around b)))))))

-- a function with its first attribute
attributed_decl : (around : Nesting) {first name : Token} {others next second third fourth fifth sixth seventh rest : List Token} {attr : AttrTree} {attrs : List AttrTree} {access : Option AccessTree} {entries : List Entry}
    {type : TypeTree} {params : List ParamTree} {args : List ArgTree} {wheres : List WhereTree} {body : BlockTree}
    → Is "[" first → begins (is_sign "[") others ≡ false → Arrives (attr_form (in_bracket around) first) others attr entries next → AreMany IsAttr next attrs second → IsAccess second access third
    → IsType third type (name ∷ fourth) → IsName name → MayHave IsParams fourth params fifth → IsArgs fifth args sixth → AreMany IsWhere sixth wheres seventh → IsBlock seventh body rest
    → Arrives (decl_form around) (first ∷ others)
    (tree.Function (record { attrs = attr ∷ attrs; access = access; type = type; name = name; params = params; args = args; wheres = wheres; body = body }))
    (opens (in_bracket around).brackets ∷ (entries ++ (flat_map (attr_entries around) attrs ++ (access_entries access ++ (type_entries around.types type ++ plain
    ∷ (params_entries around params ++ (args_entries around args ++ (flat_map (where_entries around) wheres ++ block_entries around body)))))))) rest
attributed_decl around {name = name} {second = second} {third = third} {attr = attr} {attrs = attrs} {access = access} f h a m p t n ps as' ws b =
    arrives_yes f (arrives_no h
    (arrives_then a
    (arrives_then (arrives_many (attr_entries around) [] (attr_begun around) (λ tokens rest form p. free tokens) m
    (misses typed_head "[" second refl (maybe_head _ access_head begins_type second third access access_headed p (type_head t))) (free second))
    (arrives_then (access_arrives p (avoids begins_type access_signs third refl (type_head t))) (arrives_as (function_arrives around (attr ∷ attrs) access name t n ps as' ws b))))))

function_decl : (around : Nesting) {tokens rest : List Token} {form : FunctionTree} → IsFunction tokens form rest → Arrives (decl_form around) tokens (tree.Function form) (function_entries around form) rest
function_decl around (of_function {name = name} {third = third} {access = access} no_more p t n ps as' ws b) =
    accessed around begins_type refl refl p (type_head t)
    (unworded around access (avoids begins_type ("typealias" ∷ "static" ∷ "struct" ∷ "interface" ∷ "extension" ∷ []) third refl (type_head t))
    (arrives_no (type_misses "StructuredBuffer" refl t) (arrives_no (type_misses "RWStructuredBuffer" refl t) (arrives_as (function_arrives around [] access name t n ps as' ws b)))))
function_decl around (of_function (one_more (of_shader f w o s c l) m) p t n ps as' ws b) =
    attributed_decl around f (rw w refl) (arrives_yes w (arrives_yes o (arrives_yes s (arrives_yes c (arrives_yes l arrives_made))))) m p t n ps as' ws b
function_decl around (of_function (one_more (of_threads f w o x a y d z c l) m) p t n ps as' ws b) =
    attributed_decl around f (rw w refl)
    (arrives_no (rw w refl) (arrives_yes w (arrives_yes o (arrives_yes x (arrives_yes a (arrives_yes y (arrives_yes d (arrives_yes z (arrives_yes c (arrives_yes l arrives_made))))))))))
    m p t n ps as' ws b

-- declarations
pub decl_arrives : (around : Nesting) → Arriving IsDecl (decl_form around) (decl_entries around) (";" ∷ [])
decl_arrives around tokens rest decl (decl_import p) s = import_decl around p
decl_arrives around tokens rest decl (decl_alias p) s = alias_decl around p
decl_arrives around tokens rest decl (decl_const p) s = const_decl around p
decl_arrives around tokens rest decl (decl_struct p) s = struct_decl around p (apart ";" [] rest s).0
decl_arrives around tokens rest decl (decl_interface p) s = interface_decl around p (apart ";" [] rest s).0
decl_arrives around tokens rest decl (decl_extension p) s = extension_decl around p (apart ";" [] rest s).0
decl_arrives around tokens rest decl (decl_buffer p) s = buffer_decl around p
decl_arrives around tokens rest decl (decl_function p) s = function_decl around p

-- modules up to the end
not_ends : (s : Symbol) → decl_head s ≡ true → ends s ≡ false
not_ends Name h = refl
not_ends (Number wide) h = refl
not_ends Text h = refl
not_ends End h = absurd (false≢true h)
not_ends (Sign text) h = refl

decl_not_end : (tokens rest : List Token) (decl : DeclTree) → IsDecl tokens decl rest → begins ends tokens ≡ false
decl_not_end tokens rest decl p =
    let h = decl_headed tokens rest decl p in
    rw (h.are) (not_ends (symbol h.token) h.passes)

header_arrives : {tokens rest : List Token} {name : Option Token} → MayBe IsHeader tokens name rest → begins (is_sign "module") rest ≡ false → Arrives header_form tokens name (maybe_entries header_entries name) rest
header_arrives without h = arrives_no h arrives_made
header_arrives (with_one (of_header w n s)) h = arrives_yes w (arrives_yes n (arrives_yes s arrives_made))

pub module_arrives : (end : Token) {tokens behind rest : List Token} {name : Option Token} {decls : List DeclTree} → MayBe IsHeader tokens name behind → AreMany IsDecl behind decls (end ∷ rest) → IsEnd end
    → Arrives module_form tokens (record { name = name; decls = decls }) (maybe_entries header_entries name ++ flat_map (decl_entries (all_open 0)) decls) (end ∷ rest)
module_arrives end {behind = behind} {rest = rest} {decls = decls} h m e =
    let from_decls : IsHeaded (either decl_head ends) behind = many_head IsDecl decl_head ends behind (end ∷ rest) decls decl_headed m (headed_by ends end rest End e refl) in
    arrives_then (header_arrives h (misses (either decl_head ends) "module" behind refl from_decls))
    (arrives_as (arrives_until ends (decl_entries (all_open 0)) (";" ∷ []) (decl_arrives (all_open 0))
    (λ tokens rest decl p. avoids decl_head (";" ∷ []) tokens refl (decl_headed tokens rest decl p)) decl_not_end (inr (λ access. inl tt)) m (rw e refl) (rw e refl)))
