-- What a request is replied, and how much work it takes.
use Rattle.std.specs.Prelude.{◌≡◌, ◌↔◌, ℕ, List, [], ◌∷◌, map, Option, Some, None}
use Rattle.std.specs.Cmp.Lexicographic.{slice_cmp}
use Rattle.std.specs.List.{AllByRecursion, flat_map}
use Rattle.std.specs.Option.{option_and_then, option_map_or}
use Rattle.std.specs.Ordering.{nat_cmp, on, then_cmp}
use Rattle.std.specs.declared.cmp.Ordering.{Ordering}
use Rattle.std.specs.declared.cmp.Ordering.TheVariants.{Less, Equal}
use Rattle.sl_base.specs.declared.diag.Diag.{Diag}
use Rattle.sl_base.specs.declared.diag.Site.{Site}
use Rattle.sl_base.specs.declared.diag.Site.TheVariants.{Request as Whole, Source}
use Rattle.sl_base.specs.declared.place.Place.{Place}
use Rattle.sl_key.specs.Fault.{first_place, place_of, told_at}
use Rattle.sl_key.specs.Names.{declared_at, name_of, path_text}
use Rattle.sl_key.specs.Order.{key_cmp, module_key, module_of, parts_of}
use Rattle.sl_key.specs.declared.answer.Answer.{Answer}
use Rattle.sl_key.specs.declared.answer.Answer.TheVariants.{Good, Bad, Spoiled, Circular}
use Rattle.sl_key.specs.declared.key.Key.{Key}
use Rattle.sl_key.specs.declared.fault.Fault.TheVariants.{NoModule}
use Rattle.sl_key.specs.declared.key.Kind.TheVariants.{Syntax}
use Rattle.sl_key.specs.declared.request.Reply.{Reply}
use Rattle.sl_key.specs.declared.request.Reply.TheVariants.{Made, Failed}
use Rattle.sl_key.specs.declared.request.Request.{Request}
use Rattle.sl_key.specs.declared.request.Request.TheVariants.{Make}
use Rattle.sl_key.specs.declared.request.Term.TheVariants.{Load}
use Rattle.sl_io.specs.Root.{bytes_of}
use Rattle.def_query.specs.Answer.{Answers}
use Rattle.def_query.specs.Keys.{IsIn, Reaches}
use Rattle.def_query.specs.Settles.{Depends}
use Rattle.def_slang.specs.Diagnostic.{circular, message}
use Rattle.def_sources.specs.Sources.{Sources}
use Rattle.def_check.specs.Body.{declarations_in, meaning_of}
use Rattle.def_check.specs.Roots.{asked_for, roots_of}
use Rattle.def_check.specs.Syntax.{diagnostic}

-- a key is told as its path, and a module's own key as the module
abbrev pub key_text : Key → List ℕ
key_text key = path_text key.path

module _ (sources : Sources) (answer : Key → Answer) where
  -- the place of the name of a key's declaration; a module's own key stands at the module's first
  -- place
  abbrev pub key_place : Key → Place
  key_place key =
      let decls = declarations_in (answer (module_key Syntax (module_of key))) in
      option_map_or place_of (option_and_then name_of (declared_at decls (parts_of key)))
      first_place

  -- a cycle is told at its least key
  abbrev pub cycle_told : List Key → List Diag
  cycle_told [] = []
  cycle_told (least ∷ others) =
      diagnostic (module_of least) (key_place least) circular (map key_text (least ∷ others)) ∷ []

  -- what an answer tells of a rule that its own key breaks
  abbrev pub broken : Answer → List Diag
  broken (Bad told) = told ∷ []
  broken _ = []

  -- what an answer tells
  abbrev pub told_by : Answer → List Diag
  told_by (Good value) = []
  told_by (Bad told) = told ∷ []
  told_by (Spoiled culprit) = broken (answer culprit)
  told_by (Circular cycle) = cycle_told cycle

  -- what is told of a module with these bytes, and of an absent one
  abbrev pub told_of : List ℕ → Option (List ℕ) → List Diag
  told_of name (Some bytes) = flat_map (λ key. told_by (answer key)) (asked_for sources answer name)
  told_of name None = told_at Whole (NoModule name) ∷ []

  -- all that a request is told, in the order in which its keys are asked
  abbrev pub told_for : Request → List Diag
  told_for (Make (Load name)) = told_of name (bytes_of sources.modules name)

-- places are ordered by lines, and then by columns
abbrev pub place_cmp : Place → Place → Ordering
place_cmp = then_cmp (on (λ place. place.line) nat_cmp) (on (λ place. place.column) nat_cmp)

-- whether a site is in a module
abbrev pub rank_of : Site → ℕ
rank_of Whole = 0
rank_of (Source name at) = 1

-- the module of a site
abbrev pub site_module : Site → List ℕ
site_module Whole = []
site_module (Source name at) = name

-- the place of a site
abbrev pub site_place : Site → Place
site_place Whole = first_place
site_place (Source name at) = at

-- the request stands before all modules; sites in modules are ordered by the module, and then by
-- the place
abbrev pub site_cmp : Site → Site → Ordering
site_cmp =
    then_cmp (on rank_of nat_cmp)
    (then_cmp (on site_module (slice_cmp nat_cmp)) (on site_place place_cmp))

-- the order of diagnostics: site, code, text
abbrev pub diag_cmp : Diag → Diag → Ordering
diag_cmp =
    then_cmp (on (λ told. told.site) site_cmp)
    (then_cmp (on (λ told. told.code) nat_cmp)
    (on (λ told. message told.code told.args) (slice_cmp nat_cmp)))

-- each diagnostic of the list is less than those behind it
abbrev pub IsRising : List Diag → Type 0
IsRising [] = Unit {0}
IsRising (told ∷ others) =
    AllByRecursion (λ other. diag_cmp told other ≡ Less) others × IsRising others

-- the same diagnostics in their order, equal ones once
pub record IsSortedOnce (all sorted : List Diag) : Type 0 where
  pub rising : IsRising sorted
  pub only : (told : Diag) → IsIn told sorted → IsIn told all
  pub each : (told : Diag) → IsIn told all
      → (same : Diag) × (diag_cmp told same ≡ Equal) × IsIn same sorted

-- the reply where all this is told
abbrev pub IsReplyOf : List Diag → Reply → Type 0
IsReplyOf all Made = all ≡ []
IsReplyOf all (Failed sorted) = ¬ (all ≡ []) × IsSortedOnce all sorted

-- this function tells the answer of each key
abbrev pub TellsAnswers : Sources → (Key → Answer) → Type 0
TellsAnswers sources answer = (key : Key) → Answers key_cmp (meaning_of sources) key (answer key)

-- The reply to a request: a function of answers, which knows no caller, no order and no history.
pub record IsReply (sources : Sources) (request : Request) (reply : Reply) : Type 0 where
  pub answer : Key → Answer
  pub answers : TellsAnswers sources answer
  pub replied : IsReplyOf (told_for sources answer request) reply

-- the key is one that these depend on, in any number of steps
abbrev pub IsReached : Sources → List Key → Key → Type 0
IsReached sources roots key =
    (root : Key) × IsIn root roots × Reaches (Depends key_cmp (meaning_of sources)) root key

-- each key of the list is less than those behind it
abbrev pub HasRisingKeys : List Key → Type 0
HasRisingKeys [] = Unit {0}
HasRisingKeys (key ∷ keys) =
    AllByRecursion (λ other. key_cmp key other ≡ Less) keys × HasRisingKeys keys

-- All keys that requests come to, in their order. Their number is the work of the requests.
pub record IsClosure (sources : Sources) (requests : List Request) (keys : List Key) : Type 0 where
  pub answer : Key → Answer
  pub answers : TellsAnswers sources answer
  pub rising : HasRisingKeys keys
  pub reached : (key : Key)
      → IsIn key keys ↔ IsReached sources (flat_map (roots_of sources answer) requests) key
