-- What the parts of declarations begin with.
use Rattle.std.proofs.Common.{◌≡◌, Bool, true, false, List, [], ◌∷◌, refl, codes}
use Rattle.std.proofs.lemmas.Bool.{or_parts}
use Rattle.std.proofs.Math.Bool.{and-false}
use Prim.Native.String.{String}
use Rattle.def_token.specs.Lexical.{Token}
use Rattle.def_tree.specs.Part.{is_name_alone, type_goes_on}
use Rattle.def_tree.specs.Statements.{of_block}
use Rattle.def_tree.specs.Symbol.{Symbol, Sign, symbol, is_sign}
use Rattle.def_tree.specs.TypeTree.{TypeTree}
use Rattle.law_tree.proofs.Heads.{IsHeaded, begins_type, other_sign, type_head}
use Rattle.law_tree.proofs.TypeEnds.{stops}
use Rattle.def_module.specs.Declarations.{IsAccessWord, of_access, IsBases, of_bases, IsWhere, of_where, IsMode, of_mode, IsArg, of_arg, IsBlock}
use Rattle.def_module.specs.DeclTree.{AccessWord, Public, Internal, Private, access_text, ModeWord, In, InOut, mode_text}
use Rattle.def_module.specs.Repetition.{IsWord, of_word}
use Rattle.law_module.proofs.Forms.{one_of, heads, either, headed_by, Headed, maybe_head}

-- nothing is among no signs
pub free : (tokens : List Token) → heads (one_of []) tokens ≡ false
free [] = refl
free (token ∷ tokens) = refl

-- a form that begins with no such sign
pub misses : (head : Symbol → Bool) (sign : String) (tokens : List Token) → head (Sign (codes sign)) ≡ false → IsHeaded head tokens → heads (is_sign sign) tokens ≡ false
misses head sign tokens none h = rw (h.are) (other_sign head sign (symbol h.token) none h.passes)

pub word_headed : (sign : String) → is_sign sign (Sign (codes sign)) ≡ true → Headed (IsWord sign) (is_sign sign)
word_headed sign same tokens rest form (of_word {token = t} h) = headed_by (is_sign sign) t rest (Sign (codes sign)) h same

abbrev pub access_signs : List String
access_signs = "public" ∷ "internal" ∷ "private" ∷ []

abbrev pub access_head : Symbol → Bool
access_head = one_of access_signs

access_passes : (word : AccessWord) → access_head (Sign (codes (access_text word))) ≡ true
access_passes Public = refl
access_passes Internal = refl
access_passes Private = refl

pub access_headed : Headed IsAccessWord access_head
access_headed tokens rest form (of_access {word = w} {token = t} h) = headed_by access_head t rest (Sign (codes (access_text w))) h (access_passes w)

-- types
abbrev pub type_stops : List String
type_stops = "." ∷ "<" ∷ []

pub type_ends : (type : TypeTree) (rest : List Token) → heads (one_of type_stops) rest ≡ false → type_goes_on type rest ≡ false
type_ends type [] s = and-false (is_name_alone type)
type_ends type (mark ∷ tokens) s =
    let both = or_parts (is_sign "." (symbol mark)) (one_of ("<" ∷ []) (symbol mark)) s in
    stops type mark tokens both.0 (or_parts (is_sign "<" (symbol mark)) false both.1).0

abbrev pub same : {A : Type 0} → A → A
same a = a

abbrev pub bases_stops : List String
bases_stops = "," ∷ type_stops

pub bases_headed : Headed IsBases (is_sign ":")
bases_headed tokens rest form (of_bases {colon = c} {tokens = next} h l) = headed_by (is_sign ":") c next (Sign (codes ":")) h refl

abbrev pub where_head : Symbol → Bool
where_head = is_sign "where"

pub where_headed : Headed IsWhere where_head
where_headed tokens rest form (of_where {word = w} {tokens = next} h t b) = headed_by where_head w next (Sign (codes "where")) h refl

abbrev pub mode_head : Symbol → Bool
mode_head = one_of ("in" ∷ "inout" ∷ [])

mode_passes : (word : ModeWord) → mode_head (Sign (codes (mode_text word))) ≡ true
mode_passes In = refl
mode_passes InOut = refl

pub mode_headed : Headed IsMode mode_head
mode_headed tokens rest form (of_mode {word = w} {token = t} h) = headed_by mode_head t rest (Sign (codes (mode_text w))) h (mode_passes w)

pub arg_headed : Headed IsArg (either mode_head begins_type)
arg_headed tokens rest form (of_arg {name = n} {behind = next} {after = after} {mode = mode} {type = type} m t h x) =
    maybe_head IsMode mode_head begins_type tokens next mode mode_headed m (type_head t)

pub block_headed : Headed IsBlock (is_sign "{")
block_headed tokens rest block (of_block {opening = o} {tokens = next} h m) = headed_by (is_sign "{") o next (Sign (codes "{")) h refl
