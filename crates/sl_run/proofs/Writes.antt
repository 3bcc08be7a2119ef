-- The tokens of a module tell the module.
use Rattle.std.proofs.Common.{◌≡◌, ℕ, ◌<◌, ◌^◌, List, [], get_or, refl, sym, ap, ◌∙◌, arith}
use Rattle.std.specs.Prelude.{Option, Some, None, IfNone}
use Rattle.std.specs.Fmt.{decimal}
use Rattle.std.proofs.lemmas.Fmt.{decimal_injective}
use Rattle.def_slang.specs.BufferWrite.{BufferWrite, tokens_of}
use Rattle.sl_run.specs.Reading.{HasSmallNumbers}

-- the names and numbers of a module stand at their places among texts
pub record HasParts (texts : List (List ℕ)) (w : BufferWrite) : Type 0 where
  pub buffer : get_or texts 4 [] ≡ w.buffer
  pub x : get_or texts 15 [] ≡ decimal w.threads.0
  pub y : get_or texts 17 [] ≡ decimal w.threads.1
  pub z : get_or texts 19 [] ≡ decimal w.threads.2
  pub entry : get_or texts 23 [] ≡ w.entry
  pub id : get_or texts 26 [] ≡ w.id
  pub value : get_or texts 38 [] ≡ decimal w.value

abbrev record_of : BufferWrite → BufferWrite
record_of w = record { buffer = w.buffer; entry = w.entry; id = w.id; threads = (w.threads.0, w.threads.1, w.threads.2); value = w.value }

same_number : (texts : List (List ℕ)) (w : BufferWrite) (i m n : ℕ) → m < 2 ^ 32 → n < 2 ^ 32 → get_or texts i [] ≡ decimal m → texts ≡ tokens_of w → get_or (tokens_of w) i [] ≡ decimal n → m ≡ n
same_number texts w i m n h k at same there =
    decimal_injective m n (omega arith) (omega arith) (sym at ∙ ap (λ ts. get_or ts i []) same ∙ there)

-- two modules with the same parts are the same
pub same_parts : (texts : List (List ℕ)) (v w : BufferWrite) → HasSmallNumbers v → HasSmallNumbers w → HasParts texts v → texts ≡ tokens_of w → v ≡ w
same_parts texts v w small fits parts same =
    let buffer : v.buffer ≡ w.buffer = sym parts.buffer ∙ ap (λ ts. get_or ts 4 []) same in
    let entry : v.entry ≡ w.entry = sym parts.entry ∙ ap (λ ts. get_or ts 23 []) same in
    let id : v.id ≡ w.id = sym parts.id ∙ ap (λ ts. get_or ts 26 []) same in
    let x : v.threads.0 ≡ w.threads.0 = same_number texts w 15 v.threads.0 w.threads.0 small.x fits.x parts.x same refl in
    let y : v.threads.1 ≡ w.threads.1 = same_number texts w 17 v.threads.1 w.threads.1 small.y fits.y parts.y same refl in
    let z : v.threads.2 ≡ w.threads.2 = same_number texts w 19 v.threads.2 w.threads.2 small.z fits.z parts.z same refl in
    let value : v.value ≡ w.value = same_number texts w 38 v.value w.value small.value fits.value parts.value same refl in
    let whole : record_of v ≡ record_of w = cc in
    whole

-- none of the modules with small numbers has these tokens
abbrev pub IsNone : List (List ℕ) → Type 0
IsNone texts = (w : BufferWrite) → HasSmallNumbers w → texts ≡ tokens_of w → ⊥

pub if_none : {X : Type 0} (texts : List (List ℕ)) (o : Option X) → IsNone texts → IfNone o (IsNone texts)
if_none texts None none = none
if_none texts (Some x) none = tt

-- a number that no token spells is none of the module's
pub no_number : (texts : List (List ℕ)) (i : ℕ) (number : BufferWrite → ℕ) → ((w : BufferWrite) → HasSmallNumbers w → number w < 2 ^ 32) → ((w : BufferWrite) → get_or (tokens_of w) i [] ≡ decimal (number w)) → ((n : ℕ) → n < 2 ^ 32 → get_or texts i [] ≡ decimal n → ⊥) → IsNone texts
no_number texts i number small there none =
    λ w fits same. none (number w) (small w fits) (ap (λ ts. get_or ts i []) same ∙ there w)
