-- The parts of declarations are read.
use Rattle.std.proofs.Common.{◌≡◌, false, List, [], ◌∷◌, ◌++◌, refl, ap, codes}
use Rattle.std.specs.Prelude.{Option}
use Rattle.std.specs.List.{flat_map}
use Rattle.std.proofs.lemmas.Bool.{or_parts}
use Prim.Native.String.{String}
use Rattle.def_token.specs.Lexical.{Token}
use Rattle.def_tree.specs.Limits.{Nesting, Entry, plain, word_entries, maybe_type_entries, type_entries}
use Rattle.def_tree.specs.Statements.{MayHaveType, without_type, with_type, of_block}
use Rattle.def_tree.specs.Symbol.{Sign, symbol, is_sign, Is, IsName}
use Rattle.def_tree.specs.TypeTree.{TypeTree}
use Rattle.def_tree.specs.Types.{IsType}
use Rattle.law_tree.proofs.Heads.{begins_type, type_head}
use Rattle.def_module.specs.Declarations.{IsAccess, of_access, IsParam, of_param, IsParams, of_params, IsBases, of_bases, IsWhere, of_where, IsMode, of_mode, IsSemantic, of_semantic, IsArg, of_arg, IsBlock}
use Rattle.def_module.specs.DeclTree.{Public, Internal, Private, AccessTree, ParamTree, WhereTree, In, InOut, ModeTree, ArgTree, BlockTree}
use Rattle.def_module.specs.Entries.{one_entry, maybe_entries, listed_entries, access_entries, param_entries, params_entries, bases_entries, where_entries, semantic_entries, arg_entries, block_entries}
use Rattle.def_module.specs.Repetition.{IsWord, of_word, MayBe, without, with_one, MayHave, without_any, with_some, AreMany, AreListed, last_one, and_more}
use Rattle.law_module.proofs.Forms.{one_of, avoids, either}
use Rattle.law_module.proofs.Parts.{misses, access_head, type_stops, type_ends, bases_stops, where_headed, mode_head, arg_headed}
use Rattle.def_decl_reading.specs.Form.{ASign, Form, Listed, AType, name, maybe, closed, begins}
use Rattle.def_decl_reading.specs.MemberReading.{access_form, alias_form, maybe_type_form, param_form, params_form, bases_form, where_form, wheres_form, mode_form, semantic_form, arg_form, args_form, block_form}
use Rattle.law_decls.proofs.FormComes.{Arrives, arrives_made, arrives_yes, arrives_no, arrives_then, arrives_as, arrives_with, arrives_type, arrives_stmts, Arriving, arrives_listed, Begun, begun, arrives_many}

-- tokens begin with no sign of some
pub apart : (sign : String) (signs : List String) (tokens : List Token) → begins (one_of (sign ∷ signs)) tokens ≡ false → (begins (is_sign sign) tokens ≡ false) × (begins (one_of signs) tokens ≡ false)
apart sign signs [] h = (refl, refl)
apart sign signs (token ∷ tokens) h = or_parts (is_sign sign (symbol token)) (one_of signs (symbol token)) h

-- a type begins with no sign that begins none
pub type_misses : (sign : String) {tokens rest : List Token} {type : TypeTree} → begins_type (Sign (codes sign)) ≡ false → IsType tokens type rest → begins (is_sign sign) tokens ≡ false
type_misses sign {tokens = tokens} none t = misses begins_type sign tokens none (type_head t)

-- a form with a mark behind it
pub arrives_closed : {A : Type 0} {text : String} {form : Form A} {tokens rest : List Token} {a : A} {entries : List Entry} {mark : Token} → Is text mark → Arrives form tokens a entries (mark ∷ rest)
    → Arrives (closed text form) tokens a (entries ++ plain ∷ []) rest
arrives_closed h c = arrives_then c (arrives_yes h arrives_made)

pub maybe_arrives : {text : String} {tokens rest : List Token} {word : Option Token} → MayBe (IsWord text) tokens word rest → begins (is_sign text) rest ≡ false
    → Arrives (maybe text) tokens word (word_entries word) rest
maybe_arrives without h = arrives_no h arrives_made
maybe_arrives (with_one (of_word w)) h = arrives_yes w arrives_made

pub type_arrives : {around : Nesting} → Arriving IsType (AType around) (type_entries around.types) type_stops
type_arrives tokens rest type t s = arrives_type t (type_ends type rest s)

pub access_arrives : {tokens rest : List Token} {access : Option AccessTree} → IsAccess tokens access rest → begins access_head rest ≡ false → Arrives access_form tokens access (access_entries access) rest
access_arrives {rest = rest} without h =
    let one = apart "public" ("internal" ∷ "private" ∷ []) rest h in
    let two = apart "internal" ("private" ∷ []) rest one.1 in
    arrives_no one.0 (arrives_no two.0 (arrives_no (apart "private" [] rest two.1).0 arrives_made))
access_arrives (with_one (of_access {word = Public} h)) s = arrives_yes h arrives_made
access_arrives (with_one (of_access {word = Internal} h)) s = arrives_no (rw h refl) (arrives_yes h arrives_made)
access_arrives (with_one (of_access {word = Private} h)) s = arrives_no (rw h refl) (arrives_no (rw h refl) (arrives_yes h arrives_made))

pub alias_arrives : (around : Nesting) (access : Option AccessTree) (word name equals semicolon : Token) {behind rest : List Token} {type : TypeTree} → IsName name → Is "=" equals → IsType behind type (semicolon ∷ rest) → Is ";" semicolon
    → Arrives (alias_form around access word) (name ∷ equals ∷ behind) (record { access = access; word = word; name = name; type = type }) (plain ∷ plain ∷ (type_entries around.types type ++ plain ∷ [])) rest
alias_arrives around access word name equals semicolon {rest = rest} {type = type} n e t s =
    arrives_yes n (arrives_yes e (arrives_as (arrives_closed s (arrives_type t (type_ends type (semicolon ∷ rest) (rw s refl))))))

-- type parameters
maybe_type_arrives : (around : Nesting) → Arriving MayHaveType (maybe_type_form around) (maybe_type_entries around) (":" ∷ type_stops)
maybe_type_arrives around tokens rest bound without_type s = arrives_no (apart ":" type_stops rest s).0 arrives_made
maybe_type_arrives around tokens rest bound (with_type {type = type} c t) s = arrives_yes c (arrives_as (arrives_type t (type_ends type rest (apart ":" type_stops rest s).1)))

param_arrives : (around : Nesting) → Arriving IsParam (param_form around) (param_entries around) (":" ∷ type_stops)
param_arrives around tokens rest param (of_param {tokens = after} {bound = bound} n t) s = arrives_yes n (arrives_as (maybe_type_arrives around after rest bound t s))

params_same : (around : Nesting) {tokens rest : List Token} {params : List ParamTree} → AreListed IsParam tokens params rest
    → plain ∷ (listed_entries (param_entries around) params ++ plain ∷ []) ≡ params_entries around params
params_same around (last_one p) = refl
params_same around (and_more p c l) = refl

pub params_arrive : (around : Nesting) {tokens rest : List Token} {params : List ParamTree} → MayHave IsParams tokens params rest → begins (is_sign "<") rest ≡ false
    → Arrives (params_form around) tokens params (params_entries around params) rest
params_arrive around without_any h = arrives_no h arrives_made
params_arrive around (with_some (of_params o l c)) h =
    arrives_with (params_same around l) (arrives_yes o (arrives_closed c (arrives_listed (param_entries around) (":" ∷ type_stops) (param_arrives around) refl l (rw c refl) (rw c refl))))

-- bases
bases_same : (around : Nesting) {tokens rest : List Token} {bases : List TypeTree} → AreListed IsType tokens bases rest
    → plain ∷ listed_entries (type_entries around.types) bases ≡ bases_entries around bases
bases_same around (last_one t) = refl
bases_same around (and_more t c l) = refl

types_arrive : (around : Nesting) {tokens rest : List Token} {types : List TypeTree} → AreListed IsType tokens types rest → begins (one_of bases_stops) rest ≡ false
    → Arrives (Listed (AType around)) tokens types (listed_entries (type_entries around.types) types) rest
types_arrive around {rest = rest} l s =
    let both = apart "," type_stops rest s in
    arrives_listed (type_entries around.types) type_stops type_arrives refl l both.0 both.1

pub bases_arrive : (around : Nesting) {tokens rest : List Token} {bases : List TypeTree} → MayHave IsBases tokens bases rest → begins (is_sign ":") rest ≡ false → begins (one_of bases_stops) rest ≡ false
    → Arrives (bases_form around) tokens bases (bases_entries around bases) rest
bases_arrive around without_any h s = arrives_no h arrives_made
bases_arrive around (with_some (of_bases c l)) h s = arrives_with (bases_same around l) (arrives_yes c (types_arrive around l s))

-- conditions
where_begun : (around : Nesting) (tokens rest : List Token) (condition : WhereTree) → IsWhere tokens condition rest → begins (one_of bases_stops) rest ≡ false
    → Begun (ASign "where") plain (where_form around) tokens condition (where_entries around condition) rest
where_begun around tokens rest condition (of_where {type = type} w t (of_bases {colon = colon} {tokens = after} c l)) s =
    begun w (arrives_with (ap (λ es. type_entries around.types type ++ es) (bases_same around l))
    (arrives_then (arrives_type t (type_ends type (colon ∷ after) (rw c refl))) (arrives_yes c (arrives_as (types_arrive around l s)))))

pub wheres_arrive : (around : Nesting) {tokens rest : List Token} {wheres : List WhereTree} → AreMany IsWhere tokens wheres rest → begins (is_sign "where") rest ≡ false → begins (one_of bases_stops) rest ≡ false
    → Arrives (wheres_form around) tokens wheres (flat_map (where_entries around) wheres) rest
wheres_arrive around m h s =
    arrives_many (where_entries around) bases_stops (where_begun around) (λ tokens rest form w. avoids (is_sign "where") bases_stops tokens refl (where_headed tokens rest form w)) m h s

-- parameters
mode_arrives : {tokens rest : List Token} {mode : Option ModeTree} → MayBe IsMode tokens mode rest → begins mode_head rest ≡ false → Arrives mode_form tokens mode (maybe_entries one_entry mode) rest
mode_arrives {rest = rest} without h =
    let one = apart "in" ("inout" ∷ []) rest h in arrives_no one.0 (arrives_no (apart "inout" [] rest one.1).0 arrives_made)
mode_arrives (with_one (of_mode {word = In} h)) s = arrives_yes h arrives_made
mode_arrives (with_one (of_mode {word = InOut} h)) s = arrives_no (rw h refl) (arrives_yes h arrives_made)

semantic_arrives : {tokens rest : List Token} {semantic : Option Token} → MayBe IsSemantic tokens semantic rest → begins (is_sign ":") rest ≡ false
    → Arrives semantic_form tokens semantic (maybe_entries semantic_entries semantic) rest
semantic_arrives without h = arrives_no h arrives_made
semantic_arrives (with_one (of_semantic c n)) h = arrives_yes c (arrives_yes n arrives_made)

arg_arrives : (around : Nesting) → Arriving IsArg (arg_form around) (arg_entries around) (":" ∷ [])
arg_arrives around tokens rest arg (of_arg {name = name} {behind = behind} {after = after} {type = type} m t n s) h =
    arrives_then (mode_arrives m (avoids begins_type ("in" ∷ "inout" ∷ []) behind refl (type_head t)))
    (arrives_then (arrives_type t (type_ends type (name ∷ after) (rw n refl))) (arrives_yes n (arrives_as (semantic_arrives s (apart ":" [] rest h).0))))

pub args_arrive : (around : Nesting) (closing : Token) {tokens rest : List Token} {args : List ArgTree} → MayHave (AreListed IsArg) tokens args (closing ∷ rest) → Is ")" closing
    → Arrives (args_form around) tokens args (listed_entries (arg_entries around) args ++ plain ∷ []) rest
args_arrive around closing without_any c = arrives_yes c arrives_made
args_arrive around closing (with_some l) c =
    arrives_no (args_begin l) (arrives_closed c (arrives_listed (arg_entries around) (":" ∷ []) (arg_arrives around) refl l (rw c refl) (rw c refl)))
  where
    args_begin : {tokens rest : List Token} {args : List ArgTree} → AreListed IsArg tokens args rest → begins (is_sign ")") tokens ≡ false
    args_begin {tokens = tokens} {rest = rest} (last_one {form = one} p) = misses (either mode_head begins_type) ")" tokens refl (arg_headed tokens rest one p)
    args_begin {tokens = tokens} (and_more {comma = comma} {behind = behind} {form = one} p h l) = misses (either mode_head begins_type) ")" tokens refl (arg_headed tokens (comma ∷ behind) one p)

pub block_arrives : (around : Nesting) {tokens rest : List Token} {block : BlockTree} → IsBlock tokens block rest → Arrives (block_form around) tokens block (block_entries around block) rest
block_arrives around (of_block o m) = arrives_yes o (arrives_as (arrives_stmts m))
