-- What stands in structs, interfaces and extensions is read.
use Rattle.std.proofs.Common.{◌≡◌, inl, inr, Bool, false, List, [], ◌∷◌, ◌++◌, refl, sym, ap, codes, append_assoc}
use Rattle.std.specs.Prelude.{Option, Some, None}
use Rattle.std.specs.List.{flat_map, list_any}
use Prim.Native.String.{String}
use Rattle.def_token.specs.Lexical.{Token}
use Rattle.def_tree.specs.Limits.{Nesting, Entry, plain, opens, in_bracket, in_block, word_entries, type_entries}
use Rattle.def_tree.specs.Statements.{of_block}
use Rattle.def_tree.specs.Symbol.{Symbol, Sign, is_sign, Is, IsName}
use Rattle.def_tree.specs.TypeTree.{TypeTree}
use Rattle.def_tree.specs.Types.{IsType}
use Rattle.law_tree.proofs.Heads.{IsHeaded, begins_type, type_head}
use Rattle.def_module.specs.Declarations.{IsAccess, of_alias, IsArg, IsArgs, of_args, IsBlock, of_field, IsMutating, of_mutating, IsTail, of_tail, IsHead, of_head, of_method, IsMember, member_field, member_method, member_alias, IsAddition, added_method, added_alias, IsEnding, without_body, with_body, of_require, of_assoc, IsItem, item_require, item_assoc, IsBody, of_body}
use Rattle.def_module.specs.DeclTree as tree
use Rattle.def_module.specs.DeclTree.{AccessTree, ArgTree, BlockTree, TailTree, AliasTree, MethodTree, FieldTree, HeadTree, AssocTree, MemberTree, ItemTree}
use Rattle.def_module.specs.Entries.{one_entry, maybe_entries, more_listed_entries, listed_entries, access_entries, arg_entries, args_entries, block_entries, mutating_entries, tail_entries, head_entries, ending_entries, member_entries, item_entries, body_entries}
use Rattle.def_module.specs.Repetition.{IsWord, of_word, IsNamed, of_name, MayBe, without, with_one, MayHave, AreListed, last_one, and_more}
use Rattle.law_module.proofs.Forms.{avoids, either, headed_by, maybe_head}
use Rattle.law_module.proofs.Members.{tail_head, tail_headed, override_head, member_head, member_headed, addition_headed, head_head, head_headed, item_head, item_headed}
use Rattle.law_module.proofs.Parts.{free, misses, word_headed, access_signs, access_head, access_headed, type_ends}
use Rattle.def_decl_reading.specs.Form.{ASign, Form, Made, Branch, Then, name, begins}
use Rattle.def_decl_reading.specs.MemberReading.{access_form, names_form, called_form, typed_form, tail_form, override_form, mutating_method, typed_member, accessed_member, member_form, addition_form, maybe_mutating, head_form, ending_form, item_form, body_form}
use Rattle.law_decls.proofs.FormComes.{Arrives, arrives_made, arrives_yes, arrives_no, arrives_then, arrives_as, arrives_with, arrives_type, Arriving, arrives_listed, arrives_until}
use Rattle.law_decls.proofs.FormSound.{Holding}
use Rattle.law_decls.proofs.Gives.{Eats}
use Rattle.law_decls.proofs.PartComes.{type_misses, arrives_closed, maybe_arrives, access_arrives, alias_arrives, bases_arrive, args_arrive, block_arrives}

-- names behind the first
data NamesArrive : List Token → List Token → List Token → Type 0 where
  names_arrive : {first : Token} {tokens rest : List Token} {names : List Token} {entries : List Entry} → IsName first → Arrives (names_form first) tokens names entries rest
      → plain ∷ entries ≡ listed_entries {A = Token} one_entry names → begins (is_sign "(") tokens ≡ false → NamesArrive (first ∷ tokens) names rest

name_arrives : Arriving IsNamed (name (λ name. Made name)) one_entry []
name_arrives tokens rest form (of_name n) s = arrives_yes n arrives_made

names_same : {tokens rest names : List Token} → AreListed IsNamed tokens names rest → plain ∷ listed_entries {A = Token} one_entry names ≡ more_listed_entries {A = Token} one_entry names
names_same (last_one n) = refl
names_same (and_more n c l) = refl

names_are : (semicolon : Token) {tokens rest names : List Token} → AreListed IsNamed tokens names (semicolon ∷ rest) → Is ";" semicolon → NamesArrive tokens names (semicolon ∷ rest)
names_are semicolon {rest = rest} (last_one (of_name n)) s = names_arrive n (arrives_no (rw s refl) arrives_made) refl (rw s refl)
names_are semicolon {rest = rest} (and_more (of_name n) c l) s =
    names_arrive n (arrives_yes c (arrives_as (arrives_listed {A = Token} one_entry [] name_arrives refl l (rw s refl) (free (semicolon ∷ rest))))) (ap (λ es. plain ∷ es) (names_same l)) (rw c refl)

-- tails
called_arrives : (around : Nesting) (static : Option Token) (type : TypeTree) (name closing : Token) {tokens rest : List Token} {args : List ArgTree} → MayHave (AreListed IsArg) tokens args (closing ∷ rest) → Is ")" closing
    → Arrives (called_form around static type name) tokens (record { static = static; type = type; name = name; args = args }) (listed_entries (arg_entries (in_bracket around)) args ++ plain ∷ []) rest
called_arrives around static type name closing l c = arrives_as (args_arrive (in_bracket around) closing l c)

typed_arrives : (around : Nesting) (static : Option Token) (name : Token) {tokens after rest : List Token} {type : TypeTree} {args : List ArgTree} → IsType tokens type (name ∷ after) → IsName name → IsArgs after args rest
    → Arrives (typed_form around static) tokens (record { static = static; type = type; name = name; args = args }) (type_entries around.types type ++ plain ∷ args_entries around args) rest
typed_arrives around static name {type = type} t n (of_args {opening = opening} {closing = closing} {tokens = after} o l c) =
    arrives_then (arrives_type t (type_ends type (name ∷ opening ∷ after) (rw n refl))) (arrives_yes n (arrives_yes o (called_arrives around static type name closing l c)))

tail_arrives : (around : Nesting) {tokens rest : List Token} {tail : TailTree} → IsTail tokens tail rest → Arrives (tail_form around) tokens tail (tail_entries around tail) rest
tail_arrives around (of_tail {name = name} {static = static} s t n a) = arrives_then (maybe_arrives s (type_misses "static" refl t)) (typed_arrives around static name t n a)

-- methods
override_arrives : (around : Nesting) (mutating : Option Token) (access : Option AccessTree) {tokens fourth fifth rest : List Token} {override : Option Token} {tail : TailTree} {body : BlockTree}
    → MayBe (IsWord "override") tokens override fourth → IsTail fourth tail fifth → IsBlock fifth body rest
    → Arrives (override_form around mutating access) tokens (record { mutating = mutating; access = access; override = override; tail = tail; body = body })
    (word_entries override ++ (tail_entries around tail ++ block_entries around body)) rest
override_arrives around mutating access {fourth = fourth} {fifth = fifth} {tail = tail} o t b =
    arrives_then (maybe_arrives o (misses tail_head "override" fourth refl (tail_headed fourth fifth tail t))) (arrives_then (tail_arrives around t) (arrives_as (block_arrives around b)))

override_headed : {tokens fourth fifth : List Token} {override : Option Token} {tail : TailTree} → MayBe (IsWord "override") tokens override fourth → IsTail fourth tail fifth → IsHeaded override_head tokens
override_headed {tokens = tokens} {fourth = fourth} {fifth = fifth} {override = override} {tail = tail} o t =
    maybe_head _ (is_sign "override") tail_head tokens fourth override (word_headed "override" refl) o (tail_headed fourth fifth tail t)

mutating_arrives : (around : Nesting) (word closing : Token) {second third fourth fifth rest : List Token} {override : Option Token} {access : Option AccessTree} {tail : TailTree} {body : BlockTree}
    → Is "mutating" word → Is "]" closing → IsAccess second access third → MayBe (IsWord "override") third override fourth → IsTail fourth tail fifth → IsBlock fifth body rest
    → Arrives (mutating_method around) (word ∷ closing ∷ second) (record { mutating = Some word; access = access; override = override; tail = tail; body = body })
    (plain ∷ plain ∷ (access_entries access ++ (word_entries override ++ (tail_entries around tail ++ block_entries around body)))) rest
mutating_arrives around word closing {third = third} {access = access} w c p o t b =
    arrives_then (arrives_yes w (arrives_yes c arrives_made))
    (arrives_then (access_arrives p (avoids override_head access_signs third refl (override_headed o t))) (override_arrives around (Some word) access o t b))

-- what stands behind an access, if no bracket stands before it
pub accessed : {A : Type 0} {entry : Entry} {yes' : Token → Form A} {next : Option AccessTree → Form A} (head : Symbol → Bool) → either access_head head (Sign (codes "[")) ≡ false
    → list_any (λ (sign : String). head (Sign (codes sign))) access_signs ≡ false
    → {tokens behind rest : List Token} {access : Option AccessTree} {a : A} {entries : List Entry} → IsAccess tokens access behind → IsHeaded head behind → Arrives (next access) behind a entries rest
    → Arrives (Branch (ASign "[") entry yes' (Then access_form next)) tokens a (access_entries access ++ entries) rest
accessed head bracket words {tokens = tokens} {behind = behind} {access = access} p h c =
    arrives_no (misses (either access_head head) "[" tokens bracket (maybe_head _ access_head head tokens behind access access_headed p h))
    (arrives_then (access_arrives p (avoids head access_signs behind words h)) c)

module _ (around : Nesting) (access : Option AccessTree) where
  typed_behind : {tokens after rest : List Token} {type : TypeTree} {a : MemberTree} {entries : List Entry} → IsType tokens type after → Arrives (typed_member around access) tokens a entries rest
      → Arrives (accessed_member around access) tokens a entries rest
  typed_behind t c = arrives_no (type_misses "typealias" refl t) (arrives_no (type_misses "override" refl t) (arrives_no (type_misses "static" refl t) c))

  field_arrives : (semicolon : Token) {tokens after rest : List Token} {type : TypeTree} {names : List Token} → IsType tokens type after → NamesArrive after names (semicolon ∷ rest) → Is ";" semicolon
      → Arrives (typed_member around access) tokens (tree.Field (record { access = access; type = type; names = names })) (type_entries around.types type ++ (listed_entries {A = Token} one_entry names ++ plain ∷ [])) rest
  field_arrives semicolon {type = type} t (names_arrive {first = first} {tokens = tokens} n c same h) s =
      arrives_with (ap (λ es. type_entries around.types type ++ (es ++ plain ∷ [])) same)
      (arrives_then (arrives_type t (type_ends type (first ∷ tokens) (rw n refl))) (arrives_yes n (arrives_no h (arrives_as (arrives_as (arrives_closed s c))))))

  called_method : (name : Token) {tokens after fifth rest : List Token} {type : TypeTree} {args : List ArgTree} {body : BlockTree} → IsType tokens type (name ∷ after) → IsName name → IsArgs after args fifth
      → IsBlock fifth body rest
      → Arrives (typed_member around access) tokens
      (tree.Method (record { mutating = None; access = access; override = None; tail = record { static = None; type = type; name = name; args = args }; body = body }))
      ((type_entries around.types type ++ plain ∷ args_entries around args) ++ block_entries around body) rest
  called_method name {type = type} {args = args} {body = body} t n (of_args {opening = opening} {closing = closing} {tokens = after} o l c) b =
      arrives_with (sym (append_assoc (type_entries around.types type) (plain ∷ args_entries around args) (block_entries around body)))
      (arrives_then (arrives_type t (type_ends type (name ∷ opening ∷ after) (rw n refl)))
      (arrives_yes n (arrives_yes o (arrives_as (arrives_then (called_arrives around None type name closing l c) (arrives_as (block_arrives around b)))))))

  method_arrives : {tokens fourth fifth rest : List Token} {override : Option Token} {tail : TailTree} {body : BlockTree} → MayBe (IsWord "override") tokens override fourth → IsTail fourth tail fifth → IsBlock fifth body rest
      → Arrives (accessed_member around access) tokens (tree.Method (record { mutating = None; access = access; override = override; tail = tail; body = body }))
      (word_entries override ++ (tail_entries around tail ++ block_entries around body)) rest
  method_arrives (with_one (of_word h)) t b = arrives_no (rw h refl) (arrives_yes h (arrives_as (arrives_then (tail_arrives around t) (arrives_as (block_arrives around b)))))
  method_arrives without (of_tail {name = name} (with_one {form = word} (of_word h)) t n a) b =
      arrives_no (rw h refl) (arrives_no (rw h refl) (arrives_yes h (arrives_as (arrives_then (typed_arrives around (Some word) name t n a) (arrives_as (block_arrives around b))))))
  method_arrives without (of_tail {name = name} without t n a) b = typed_behind t (called_method name t n a b)

module _ (around : Nesting) where
  pub member_arrives : Arriving IsMember (member_form around) (member_entries around) []
  member_arrives tokens rest member (member_field (of_field {semicolon = semicolon} {access = access} p t l s)) x =
      accessed begins_type refl refl p (type_head t) (typed_behind around access t (field_arrives around access semicolon t (names_are semicolon l s) s))
  member_arrives tokens rest member (member_method (of_method (with_one (of_mutating {word = word} {closing = closing} h w c)) p o t b)) x =
      arrives_yes h (arrives_as (mutating_arrives around word closing w c p o t b))
  member_arrives tokens rest member (member_method (of_method {access = access} without p o t b)) x =
      accessed override_head refl refl p (override_headed o t) (method_arrives around access o t b)
  member_arrives tokens rest member (member_alias (of_alias {word = word} {name = name} {equals = equals} {semicolon = semicolon} {behind = behind} {access = access} p w n e t s)) x =
      accessed (is_sign "typealias") refl refl p (headed_by (is_sign "typealias") word (name ∷ equals ∷ behind) (Sign (codes "typealias")) w refl)
      (arrives_yes w (arrives_as (alias_arrives around access word name equals semicolon n e t s)))

  pub addition_arrives : Arriving IsAddition (addition_form around) (member_entries around) []
  addition_arrives tokens rest member (added_method (of_method (with_one (of_mutating {word = word} {closing = closing} h w c)) p o t b)) x =
      arrives_yes h (arrives_as (mutating_arrives around word closing w c p o t b))
  addition_arrives tokens rest member (added_method (of_method {third = third} {access = access} without p o t b)) x =
      accessed override_head refl refl p (override_headed o t)
      (arrives_no (misses override_head "typealias" third refl (override_headed o t)) (arrives_as (override_arrives around None access o t b)))
  addition_arrives tokens rest member (added_alias (of_alias {word = word} {name = name} {equals = equals} {semicolon = semicolon} {behind = behind} {access = access} p w n e t s)) x =
      accessed (is_sign "typealias") refl refl p (headed_by (is_sign "typealias") word (name ∷ equals ∷ behind) (Sign (codes "typealias")) w refl)
      (arrives_yes w (arrives_as (alias_arrives around access word name equals semicolon n e t s)))

  -- items of interfaces
  maybe_mutating_arrives : {tokens rest : List Token} {mutating : Option Token} → MayBe IsMutating tokens mutating rest → begins (is_sign "[") rest ≡ false
      → Arrives (maybe_mutating around) tokens mutating (maybe_entries (mutating_entries around) mutating) rest
  maybe_mutating_arrives without h = arrives_no h arrives_made
  maybe_mutating_arrives (with_one (of_mutating h w c)) x = arrives_yes h (arrives_as (arrives_yes w (arrives_yes c arrives_made)))

  head_arrives : {tokens rest : List Token} {head : HeadTree} → IsHead tokens head rest → Arrives (head_form around) tokens head (head_entries around head) rest
  head_arrives {rest = rest} (of_head {behind = behind} {after = after} {access = access} {tail = tail} m p t) =
      let from_tail : IsHeaded tail_head after = tail_headed after rest tail t in
      let from_access : IsHeaded (either access_head tail_head) behind = maybe_head _ access_head tail_head behind after access access_headed p from_tail in
      arrives_then (maybe_mutating_arrives m (misses (either access_head tail_head) "[" behind refl from_access))
      (arrives_then (access_arrives p (avoids tail_head access_signs after refl from_tail)) (arrives_as (tail_arrives around t)))

  ending_arrives : {tokens rest : List Token} {body : Option BlockTree} → IsEnding tokens body rest
      → Arrives (ending_form around) tokens body (ending_entries around body) rest
  ending_arrives (without_body s) = arrives_yes s arrives_made
  ending_arrives (with_body (of_block o s)) = arrives_no (rw o refl) (arrives_as (block_arrives around (of_block o s)))

  pub item_arrives : Arriving IsItem (item_form around) (item_entries around) []
  item_arrives tokens rest item (item_require {require = require} (of_require {behind = behind} p e)) x =
      arrives_no (misses head_head "associatedtype" tokens refl (head_headed tokens behind require.head p))
      (arrives_as (arrives_then (head_arrives p) (arrives_as (ending_arrives e))))
  item_arrives tokens rest item (item_assoc (of_assoc w n b s)) x = arrives_yes w (arrives_as (arrives_yes n (arrives_as (arrives_closed s (bases_arrive around b (rw s refl) (rw s refl))))))

  -- bodies
  body_arrives : {A : Type 0} (form : Nesting → Form A) (IsForm : Holding A) (entries_of : Nesting → A → List Entry) (head : Symbol → Bool)
      → Arriving IsForm (form (in_block around)) (entries_of (in_block around)) [] → ((tokens rest : List Token) (a : A) → IsForm tokens a rest → IsHeaded head tokens) → head (Sign (codes "}")) ≡ false
      → Eats (form (in_block around)) → {tokens rest : List Token} {forms : List A} {semicolon : Option Token} → IsBody IsForm tokens (forms, semicolon) rest → begins (is_sign ";") rest ≡ false
      → Arrives (body_form around form) tokens (forms, semicolon) (body_entries entries_of around forms semicolon) rest
  body_arrives form IsForm entries_of head each headed none eats {forms = forms} {semicolon = semicolon} (of_body {closing = closing} {behind = behind} o m c w) s =
      let inside = in_block around in
      arrives_with (ap (λ es. opens inside.blocks ∷ es) (append_assoc (flat_map (entries_of inside) forms) (plain ∷ []) (word_entries semicolon)))
      (arrives_yes o (arrives_then (arrives_closed c (arrives_until (is_sign "}") (entries_of inside) [] each (λ tokens rest a p. free tokens)
      (λ tokens rest a p. misses head "}" tokens none (headed tokens rest a p)) eats m (rw c refl) (free (closing ∷ behind)))) (arrives_as (maybe_arrives w s))))

pub members_arrive : (around : Nesting) {tokens rest : List Token} {members : List MemberTree} {semicolon : Option Token} → IsBody IsMember tokens (members, semicolon) rest → begins (is_sign ";") rest ≡ false
    → Arrives (body_form around member_form) tokens (members, semicolon) (body_entries member_entries around members semicolon) rest
members_arrive around = body_arrives around member_form IsMember member_entries member_head (member_arrives (in_block around)) member_headed refl (inr (λ access. inl tt))

pub additions_arrive : (around : Nesting) {tokens rest : List Token} {members : List MemberTree} {semicolon : Option Token} → IsBody IsAddition tokens (members, semicolon) rest → begins (is_sign ";") rest ≡ false
    → Arrives (body_form around addition_form) tokens (members, semicolon) (body_entries member_entries around members semicolon) rest
additions_arrive around =
    body_arrives around addition_form IsAddition member_entries member_head (addition_arrives (in_block around)) addition_headed refl (inr (λ access. inr (λ override. inl (inr (λ static. inl tt)))))

pub items_arrive : (around : Nesting) {tokens rest : List Token} {items : List ItemTree} {semicolon : Option Token} → IsBody IsItem tokens (items, semicolon) rest → begins (is_sign ";") rest ≡ false
    → Arrives (body_form around item_form) tokens (items, semicolon) (body_entries item_entries around items semicolon) rest
items_arrive around = body_arrives around item_form IsItem item_entries item_head (item_arrives (in_block around)) item_headed refl (inr (λ head. tt))
