-- What the members of structs and extensions and the items of interfaces begin with.
use Rattle.std.proofs.Common.{Bool, List, ◌∷◌, refl, codes}
use Rattle.std.specs.Prelude.{Option}
use Rattle.def_token.specs.Lexical.{Token}
use Rattle.def_tree.specs.Symbol.{Symbol, Sign, is_sign}
use Rattle.law_tree.proofs.Heads.{begins_type, type_head}
use Rattle.def_module.specs.Declarations.{IsAlias, of_alias, IsField, of_field, IsMutating, of_mutating, IsTail, of_tail, IsHead, of_head, IsMethod, of_method, IsMember, member_field, member_method, member_alias, IsAddition, added_method, added_alias, IsRequire, of_require, IsAssoc, of_assoc, IsItem, item_require, item_assoc, IsBody, of_body}
use Rattle.def_module.specs.DeclTree.{MemberTree}
use Rattle.law_module.proofs.Forms.{either, this_head, other_head, headed_by, Headed, maybe_head}
use Rattle.law_module.proofs.Parts.{word_headed, access_head, access_headed}

pub alias_headed : Headed IsAlias (either access_head (is_sign "typealias"))
alias_headed tokens rest form (of_alias {word = w} {name = n} {equals = e} {behind = next} {access = access} p h i j t d) =
    maybe_head _ access_head (is_sign "typealias") tokens (w ∷ n ∷ e ∷ next) access access_headed p
    (headed_by (is_sign "typealias") w (n ∷ e ∷ next) (Sign (codes "typealias")) h refl)

field_headed : Headed IsField (either access_head begins_type)
field_headed tokens rest form (of_field {behind = next} {access = access} p t l d) =
    maybe_head _ access_head begins_type tokens next access access_headed p (type_head t)

abbrev pub tail_head : Symbol → Bool
tail_head = either (is_sign "static") begins_type

pub tail_headed : Headed IsTail tail_head
tail_headed tokens rest form (of_tail {behind = next} {static = static} w t h a) =
    maybe_head _ (is_sign "static") begins_type tokens next static (word_headed "static" refl) w (type_head t)

pub mutating_headed : Headed IsMutating (is_sign "[")
mutating_headed tokens rest form (of_mutating {opening = o} {word = w} {closing = c} h i j) = headed_by (is_sign "[") o (w ∷ c ∷ rest) (Sign (codes "[")) h refl

abbrev pub head_head : Symbol → Bool
head_head = either (is_sign "[") (either access_head tail_head)

pub head_headed : Headed IsHead head_head
head_headed tokens rest form (of_head {behind = next} {after = after} {mutating = mutating} {access = access} {tail = tail} m p t) =
    maybe_head _ (is_sign "[") (either access_head tail_head) tokens next mutating mutating_headed m
    (maybe_head _ access_head tail_head next after access access_headed p (tail_headed after rest tail t))

abbrev pub override_head : Symbol → Bool
override_head = either (is_sign "override") tail_head

abbrev method_head : Symbol → Bool
method_head = either (is_sign "[") (either access_head override_head)

method_headed : Headed IsMethod method_head
method_headed tokens rest form (of_method {second = s} {third = t} {fourth = f} {fifth = g} {mutating = mutating} {override = override} {access = access} {tail = tail} m p o l b) =
    maybe_head _ (is_sign "[") (either access_head override_head) tokens s mutating mutating_headed m
    (maybe_head _ access_head override_head s t access access_headed p
    (maybe_head _ (is_sign "override") tail_head t f override (word_headed "override" refl) o (tail_headed f g tail l)))

-- what an extension has is a member
added : (tokens rest : List Token) (form : MemberTree) → IsAddition tokens form rest → IsMember tokens form rest
added tokens rest form (added_method p) = member_method p
added tokens rest form (added_alias p) = member_alias p

abbrev pub member_head : Symbol → Bool
member_head = either method_head (either (either access_head begins_type) (either access_head (is_sign "typealias")))

pub member_headed : Headed IsMember member_head
member_headed tokens rest form (member_method {method = method} p) = this_head _ _ tokens (method_headed tokens rest method p)
member_headed tokens rest form (member_field {field = field} p) = other_head method_head _ tokens (this_head _ _ tokens (field_headed tokens rest field p))
member_headed tokens rest form (member_alias {alias = alias} p) = other_head method_head _ tokens (other_head (either access_head begins_type) _ tokens (alias_headed tokens rest alias p))

pub addition_headed : Headed IsAddition member_head
addition_headed tokens rest form p = member_headed tokens rest form (added tokens rest form p)

pub assoc_headed : Headed IsAssoc (is_sign "associatedtype")
assoc_headed tokens rest form (of_assoc {word = w} {name = n} {tokens = next} h i b d) = headed_by (is_sign "associatedtype") w (n ∷ next) (Sign (codes "associatedtype")) h refl

pub require_headed : Headed IsRequire head_head
require_headed tokens rest form (of_require {behind = behind} {head = head} p e) = head_headed tokens behind head p

abbrev pub item_head : Symbol → Bool
item_head = either head_head (is_sign "associatedtype")

pub item_headed : Headed IsItem item_head
item_headed tokens rest form (item_require {require = require} p) = this_head head_head _ tokens (require_headed tokens rest require p)
item_headed tokens rest form (item_assoc {assoc = assoc} p) = other_head head_head _ tokens (assoc_headed tokens rest assoc p)

module _ {A : Type 0} where
  abbrev body_of : List A → Option Token → List A × Option Token
  body_of forms semicolon = (forms, semicolon)

pub body_headed : {A : Type 0} (IsForm : List Token → A → List Token → Type 0) → Headed (IsBody IsForm) (is_sign "{")
body_headed IsForm tokens rest form (of_body {opening = o} {tokens = next} h m k w) = headed_by (is_sign "{") o next (Sign (codes "{")) h refl
