-- What is read of the parts of declarations is of the grammar, and so is what stands in structs, interfaces and
-- extensions.
use Rattle.std.proofs.Common.{List, ◌∷◌}
use Rattle.std.specs.Prelude.{Option, Some, None}
use Rattle.def_token.specs.Lexical.{Token}
use Rattle.def_tree.specs.Limits.{Nesting, in_bracket, in_block}
use Rattle.def_tree.specs.Statements.{MayHaveType, without_type, with_type, of_block}
use Rattle.def_tree.specs.Symbol.{Is, IsName}
use Rattle.def_tree.specs.TypeTree.{TypeTree}
use Rattle.def_tree.specs.Types.{IsType}
use Rattle.def_module.specs.Declarations.{IsAccess, of_access, IsAlias, of_alias, IsParam, of_param, IsParams, of_params, IsBases, of_bases, IsWhere, of_where, IsMode, of_mode, IsSemantic, of_semantic, IsArg, of_arg, IsArgs, of_args, IsBlock, IsField, of_field, IsMutating, of_mutating, IsTail, of_tail, IsHead, of_head, IsMethod, of_method, IsMember, member_field, member_method, member_alias, IsAddition, added_method, added_alias, IsEnding, without_body, with_body, of_require, IsAssoc, of_assoc, IsItem, item_require, item_assoc, IsBody, of_body}
use Rattle.def_module.specs.DeclTree.{Public, Internal, Private, AccessTree, In, InOut, TailTree}
use Rattle.def_module.specs.Repetition.{IsWord, of_word, IsNamed, of_name, MayBe, without, with_one, MayHave, without_any, with_some, AreMany, AreListed, last_one, and_more}
use Rattle.def_decl_reading.specs.Form.{Form, Made, name}
use Rattle.def_decl_reading.specs.MemberReading.{access_form, alias_form, maybe_type_form, param_form, params_form, bases_form, where_form, wheres_form, mode_form, semantic_form, arg_form, args_form, block_form, names_form, field_form, mutating_form, called_form, typed_form, tail_form, method_form, override_form, mutating_method, typed_member, member_form, addition_form, maybe_mutating, head_form, ending_form, assoc_form, item_form, body_form}
use Rattle.law_decls.proofs.FormSound.{Holding, Sounds, sound_by, sound_made, sound_branch, sound_token, sound_then, sound_as, sound_listed, sound_many, sound_until, sound_type, sound_stmts, sound_closed, sound_maybe}

pub access_sound : Sounds access_form IsAccess
access_sound =
    sound_branch (λ token h. sound_made (λ tokens. with_one (of_access {word = Public} h)))
    (sound_branch (λ token h. sound_made (λ tokens. with_one (of_access {word = Internal} h)))
    (sound_branch (λ token h. sound_made (λ tokens. with_one (of_access {word = Private} h))) (sound_made (λ tokens. without))))

pub alias_sound : (around : Nesting) (access : Option AccessTree) (word : Token) → Is "typealias" word
    → Sounds (alias_form around access word) (λ tokens alias rest. (start : List Token) → IsAccess start access (word ∷ tokens) → IsAlias start alias rest)
alias_sound around access word w =
    sound_token (λ name n. sound_token (λ equals e. sound_as (sound_by (sound_closed sound_type) (λ tokens type rest c start p. of_alias p w n e c.part c.is))))

maybe_type_sound : (around : Nesting) → Sounds (maybe_type_form around) MayHaveType
maybe_type_sound around = sound_branch (λ colon c. sound_as (sound_by sound_type (λ tokens type rest t. with_type c t))) (sound_made (λ tokens. without_type))

param_sound : (around : Nesting) → Sounds (param_form around) IsParam
param_sound around = sound_token (λ name n. sound_as (sound_by (maybe_type_sound around) (λ tokens bound rest t. of_param n t)))

pub params_sound : (around : Nesting) → Sounds (params_form around) (MayHave IsParams)
params_sound around =
    sound_branch (λ opening o. sound_by (sound_closed (sound_listed (param_sound around))) (λ tokens params rest c. with_some (of_params o c.part c.is))) (sound_made (λ tokens. without_any))

pub bases_sound : (around : Nesting) → Sounds (bases_form around) (MayHave IsBases)
bases_sound around = sound_branch (λ colon c. sound_by (sound_listed sound_type) (λ tokens bases rest l. with_some (of_bases c l))) (sound_made (λ tokens. without_any))

where_sound : (around : Nesting) (word : Token) → Is "where" word → Sounds (where_form around word) (λ tokens condition rest. IsWhere (word ∷ tokens) condition rest)
where_sound around word w =
    sound_then sound_type (λ type. sound_token (λ colon c. sound_as (sound_by (sound_listed sound_type) (λ after bounds rest l tokens t. of_where w t (of_bases c l)))))

pub wheres_sound : (around : Nesting) → Sounds (wheres_form around) (AreMany IsWhere)
wheres_sound around = sound_many (λ word w. where_sound around word w)

mode_sound : Sounds mode_form (MayBe IsMode)
mode_sound =
    sound_branch (λ token h. sound_made (λ tokens. with_one (of_mode {word = In} h)))
    (sound_branch (λ token h. sound_made (λ tokens. with_one (of_mode {word = InOut} h))) (sound_made (λ tokens. without)))

semantic_sound : Sounds semantic_form (MayBe IsSemantic)
semantic_sound = sound_branch (λ colon c. sound_token (λ name n. sound_made (λ tokens. with_one (of_semantic c n)))) (sound_made (λ tokens. without))

arg_sound : (around : Nesting) → Sounds (arg_form around) IsArg
arg_sound around =
    sound_then mode_sound (λ mode.
    sound_then sound_type (λ type.
    sound_token (λ name n. sound_as (sound_by semantic_sound (λ after semantic rest s behind t tokens m. of_arg m t n s)))))

pub args_sound : (around : Nesting) → Sounds (args_form around) (λ tokens args rest. (opening : Token) → Is "(" opening → IsArgs (opening ∷ tokens) args rest)
args_sound around =
    sound_branch (λ closing c. sound_made (λ tokens opening o. of_args o without_any c))
    (sound_by (sound_closed (sound_listed (arg_sound around))) (λ tokens args rest c opening o. of_args o (with_some c.part) c.is))

pub block_sound : (around : Nesting) → Sounds (block_form around) IsBlock
block_sound around = sound_token (λ opening o. sound_as (sound_by sound_stmts (λ tokens stmts rest m. of_block o m)))

-- fields
named_sound : Sounds (name (λ name. Made name)) IsNamed
named_sound = sound_token (λ name n. sound_made (λ tokens. of_name n))

names_sound : (first : Token) → Sounds (names_form first) (λ tokens names rest. IsName first → AreListed IsNamed (first ∷ tokens) names rest)
names_sound first =
    sound_branch (λ comma c. sound_as (sound_by (sound_listed named_sound) (λ tokens names rest l n. and_more (of_name n) c l))) (sound_made (λ tokens n. last_one (of_name n)))

field_sound : (access : Option AccessTree) (type : TypeTree) (first : Token) → Sounds (field_form access type first)
    (λ tokens field rest. (start behind : List Token) → IsAccess start access behind → IsType behind type (first ∷ tokens) → IsName first → IsField start field rest)
field_sound access type first = sound_as (sound_by (sound_closed (names_sound first)) (λ tokens names rest c start behind p t n. of_field p t (c.part n) c.is))

-- tails
mutating_sound : Sounds mutating_form (λ tokens word rest. (opening : Token) → Is "[" opening → IsMutating (opening ∷ tokens) word rest)
mutating_sound = sound_token (λ word w. sound_token (λ closing c. sound_made (λ tokens opening o. of_mutating o w c)))

called_sound : (around : Nesting) (static : Option Token) (type : TypeTree) (name : Token) → Sounds (called_form around static type name)
    (λ tokens tail rest. (start behind : List Token) (opening : Token) → MayBe (IsWord "static") start static behind → IsType behind type (name ∷ opening ∷ tokens) → IsName name → Is "(" opening
    → IsTail start tail rest)
called_sound around static type name = sound_as (sound_by (args_sound (in_bracket around)) (λ tokens args rest a start behind opening s t n o. of_tail s t n (a opening o)))

typed_sound : (around : Nesting) (static : Option Token) → Sounds (typed_form around static) (λ tokens tail rest. (start : List Token) → MayBe (IsWord "static") start static tokens → IsTail start tail rest)
typed_sound around static =
    sound_then sound_type (λ type.
    sound_token (λ name n. sound_token (λ opening o. sound_by (called_sound around static type name) (λ after tail rest f behind t start s. f start behind opening s t n o))))

tail_sound : (around : Nesting) → Sounds (tail_form around) IsTail
tail_sound around = sound_then sound_maybe (λ static. sound_by (typed_sound around static) (λ behind tail rest f tokens s. f tokens s))

-- methods
method_sound : (around : Nesting) (mutating : Option Token) (access : Option AccessTree) (override : Option Token) {tail : Form TailTree} {P : Holding TailTree} → Sounds tail P
    → Sounds (method_form around mutating access override tail)
    (λ tokens method rest. (start second third fourth : List Token) → MayBe IsMutating start mutating second → IsAccess second access third → MayBe (IsWord "override") third override fourth
    → ((tail : TailTree) (rest : List Token) → P tokens tail rest → IsTail fourth tail rest) → IsMethod start method rest)
method_sound around mutating access override s =
    sound_then s (λ tail. sound_as (sound_by (block_sound around) (λ fifth body rest b tokens p start second third fourth m a o f. of_method m a o (f tail fifth p) b)))

override_sound : (around : Nesting) (mutating : Option Token) (access : Option AccessTree) → Sounds (override_form around mutating access)
    (λ tokens method rest. (start second : List Token) → MayBe IsMutating start mutating second → IsAccess second access tokens → IsMethod start method rest)
override_sound around mutating access =
    sound_then sound_maybe (λ override.
    sound_by (method_sound around mutating access override (tail_sound around)) (λ fourth method rest f third o start second m a. f start second third fourth m a o (λ tail rest t. t)))

mutating_method_sound : (around : Nesting) → Sounds (mutating_method around) (λ tokens method rest. (opening : Token) → Is "[" opening → IsMethod (opening ∷ tokens) method rest)
mutating_method_sound around =
    sound_then mutating_sound (λ word.
    sound_then access_sound (λ access.
    sound_by (override_sound around (Some word) access) (λ third method rest f second a tokens m opening o. f (opening ∷ tokens) second (with_one (m opening o)) a)))

-- members
typed_member_sound : (around : Nesting) (access : Option AccessTree) → Sounds (typed_member around access) (λ tokens member rest. (start : List Token) → IsAccess start access tokens → IsMember start member rest)
typed_member_sound around access =
    sound_then sound_type (λ type.
    sound_token (λ name n.
    sound_branch
    (λ opening o. sound_as (sound_by (method_sound around None access None (called_sound around None type name))
    (λ after method rest f behind t start a. member_method (f start start behind behind without a without (λ tail rest g. g behind behind opening without t n o)))))
    (sound_as (sound_by (field_sound access type name) (λ after field rest f behind t start a. member_field (f start behind a t n))))))

pub member_sound : (around : Nesting) → Sounds (member_form around) IsMember
member_sound around =
    sound_branch (λ opening o. sound_as (sound_by (mutating_method_sound around) (λ tokens method rest f. member_method (f opening o))))
    (sound_then access_sound (λ access.
    sound_branch (λ word w. sound_as (sound_by (alias_sound around access word w) (λ tokens alias rest f start a. member_alias (f start a))))
    (sound_branch
    (λ word w. sound_as (sound_by (method_sound around None access (Some word) (tail_sound around))
    (λ tokens method rest f start a. member_method (f start start (word ∷ tokens) tokens without a (with_one (of_word w)) (λ tail rest t. t)))))
    (sound_branch
    (λ word w. sound_as (sound_by (method_sound around None access None (typed_sound around (Some word)))
    (λ tokens method rest f start a. member_method (f start start (word ∷ tokens) (word ∷ tokens) without a without (λ tail rest g. g (word ∷ tokens) (with_one (of_word w)))))))
    (typed_member_sound around access)))))

pub addition_sound : (around : Nesting) → Sounds (addition_form around) IsAddition
addition_sound around =
    sound_branch (λ opening o. sound_as (sound_by (mutating_method_sound around) (λ tokens method rest f. added_method (f opening o))))
    (sound_then access_sound (λ access.
    sound_branch (λ word w. sound_as (sound_by (alias_sound around access word w) (λ tokens alias rest f start a. added_alias (f start a))))
    (sound_as (sound_by (override_sound around None access) (λ tokens method rest f start a. added_method (f start start without a))))))

-- items of interfaces
maybe_mutating_sound : (around : Nesting) → Sounds (maybe_mutating around) (MayBe IsMutating)
maybe_mutating_sound around = sound_branch (λ opening o. sound_as (sound_by mutating_sound (λ tokens word rest f. with_one (f opening o)))) (sound_made (λ tokens. without))

head_sound : (around : Nesting) → Sounds (head_form around) IsHead
head_sound around =
    sound_then (maybe_mutating_sound around) (λ mutating.
    sound_then access_sound (λ access. sound_as (sound_by (tail_sound around) (λ after tail rest t behind a tokens m. of_head m a t))))

assoc_sound : (around : Nesting) (word : Token) → Is "associatedtype" word → Sounds (assoc_form around word) (λ tokens assoc rest. IsAssoc (word ∷ tokens) assoc rest)
assoc_sound around word w = sound_token (λ name n. sound_as (sound_by (sound_closed (bases_sound around)) (λ tokens bases rest c. of_assoc w n c.part c.is)))

ending_sound : (around : Nesting) → Sounds (ending_form around) IsEnding
ending_sound around =
    sound_branch (λ semicolon s. sound_made (λ tokens. without_body s))
    (sound_as (sound_by (block_sound around) (λ tokens body rest b. with_body b)))

pub item_sound : (around : Nesting) → Sounds (item_form around) IsItem
item_sound around =
    sound_branch (λ word w. sound_as (sound_by (assoc_sound around word w) (λ tokens assoc rest a. item_assoc a)))
    (sound_as (sound_then (head_sound around) (λ head.
    sound_as (sound_by (ending_sound around) (λ behind body rest e tokens h. item_require (of_require h e))))))

pub body_sound : {A : Type 0} (around : Nesting) (form : Nesting → Form A) {IsForm : Holding A} → Sounds (form (in_block around)) IsForm → Sounds (body_form around form) (IsBody IsForm)
body_sound around form s =
    sound_token (λ opening o.
    sound_then (sound_closed (sound_until s)) (λ forms. sound_as (sound_by sound_maybe (λ behind semicolon rest w tokens c. of_body o c.part c.is w))))
