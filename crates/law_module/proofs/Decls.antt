-- What declarations begin with.
use Rattle.std.proofs.Common.{◌≡◌, Bool, List, [], ◌∷◌, refl, ap, codes}
use Rattle.std.specs.Prelude.{Option, Some, is_some}
use Prim.Native.String.{String}
use Rattle.def_token.specs.Lexical.{Token}
use Rattle.def_tree.specs.Symbol.{Symbol, Sign, is_sign, Is}
use Rattle.law_tree.proofs.Heads.{IsHeaded, begins_type}
use Rattle.law_tree.proofs.Symbols.{found_in}
use Rattle.def_module.specs.Declarations.{IsAccess, IsBinding, of_binding, IsAttr, of_shader, of_threads}
use Rattle.def_module.specs.DeclTree.{AccessTree, BufferKind, ReadOnly, ReadWrite, buffer_text}
use Rattle.law_module.proofs.Forms.{either, headed_by, Headed, maybe_head}
use Rattle.law_module.proofs.Parts.{access_head, access_headed, where_head}

-- what stands behind bases
abbrev pub wheres_head : Symbol → Bool
wheres_head = either where_head (is_sign "{")

pub binding_headed : Headed IsBinding (is_sign "[")
binding_headed tokens rest form (of_binding {first = o} {second = b} {vendor = v} {colons = c} {word = w} {opening = p} {number = n} {tokens = ts} x1 x2 x3 x4 x5 x6 x7 m y1 y2 y3) =
    headed_by (is_sign "[") o (b ∷ v ∷ c ∷ w ∷ p ∷ n ∷ ts) (Sign (codes "[")) x1 refl

-- the words with which declarations begin, behind a word of access
pub data Lead : Type 0 where
  LeadExported : Lead
  LeadImport : Lead
  LeadAlias : Lead
  LeadConst : Lead
  LeadStruct : Lead
  LeadInterface : Lead
  LeadExtension : Lead
  LeadReadOnly : Lead
  LeadReadWrite : Lead

abbrev pub lead_text : Lead → String
lead_text LeadExported = "__exported"
lead_text LeadImport = "import"
lead_text LeadAlias = "typealias"
lead_text LeadConst = "static"
lead_text LeadStruct = "struct"
lead_text LeadInterface = "interface"
lead_text LeadExtension = "extension"
lead_text LeadReadOnly = "StructuredBuffer"
lead_text LeadReadWrite = "RWStructuredBuffer"

abbrev pub leads : List Lead
leads =
    LeadExported ∷ LeadImport ∷ LeadAlias ∷ LeadConst ∷ LeadStruct ∷ LeadInterface ∷ LeadExtension ∷ LeadReadOnly
    ∷ LeadReadWrite ∷ []

pub lead_is : (lead : Lead) → found_in lead_text leads (Sign (codes (lead_text lead))) ≡ Some lead
lead_is LeadExported = refl
lead_is LeadImport = refl
lead_is LeadAlias = refl
lead_is LeadConst = refl
lead_is LeadStruct = refl
lead_is LeadInterface = refl
lead_is LeadExtension = refl
lead_is LeadReadOnly = refl
lead_is LeadReadWrite = refl

abbrev pub is_lead : Symbol → Bool
is_lead s = is_some (found_in lead_text leads s)

pub lead_headed : (lead : Lead) (token : Token) (tokens : List Token) → Is (lead_text lead) token → IsHeaded is_lead (token ∷ tokens)
lead_headed lead token tokens h = headed_by is_lead token tokens (Sign (codes (lead_text lead))) h (ap is_some (lead_is lead))

-- the word of a kind of buffers
abbrev pub lead_of : BufferKind → Lead
lead_of ReadOnly = LeadReadOnly
lead_of ReadWrite = LeadReadWrite

pub buffer_lead : (kind : BufferKind) (token : Token) → Is (buffer_text kind) token → Is (lead_text (lead_of kind)) token
buffer_lead ReadOnly token h = h
buffer_lead ReadWrite token h = h

abbrev pub keyed_head : Symbol → Bool
keyed_head = either access_head is_lead

pub keyed_headed : (lead : Lead) (tokens rest : List Token) (access : Option AccessTree) (word : Token) → IsAccess tokens access (word ∷ rest) → Is (lead_text lead) word → IsHeaded keyed_head tokens
keyed_headed lead tokens rest access word p h =
    maybe_head _ access_head is_lead tokens (word ∷ rest) access access_headed p (lead_headed lead word rest h)

pub attr_headed : Headed IsAttr (is_sign "[")
attr_headed tokens rest form (of_shader {first = f} {word = w} {opening = o} {stage = t} {closing = c} {last = l} h x1 x2 x3 x4 x5) =
    headed_by (is_sign "[") f (w ∷ o ∷ t ∷ c ∷ l ∷ rest) (Sign (codes "[")) h refl
attr_headed tokens rest form (of_threads {first = f} {word = w} {opening = o} {x = x} {comma = m} {y = y} {mark = n} {z = z} {closing = c} {last = l} h x1 x2 x3 x4 x5 x6 x7 x8 x9) =
    headed_by (is_sign "[") f (w ∷ o ∷ x ∷ m ∷ y ∷ n ∷ z ∷ c ∷ l ∷ rest) (Sign (codes "[")) h refl

abbrev pub typed_head : Symbol → Bool
typed_head = either access_head begins_type
