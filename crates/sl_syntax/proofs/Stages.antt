-- What a stage of the front end tells is what is told of the text.
use Rattle.std.proofs.Common.{◌≡◌, ℕ, List, sym, subst}
use Rattle.def_token.specs.Lexical.{Fault, HasLexicalFault, HasTokens, Token}
use Rattle.def_module.specs.DeclTree.{ModuleTree}
use Rattle.def_module.specs.Syntax.{Bad, HasSyntax, AreRead, AreRefused, is_lexical, is_refused, is_twice, of_tokens, twice}
use Rattle.def_module.specs.Twice.{IsDeclaredTwice}
use Rattle.sl_base.specs.declared.refusal.Refusal.{Refusal}
use Rattle.sl_base.specs.declared.refusal.Refusal.TheVariants.{Diag, NoMemory}
use Rattle.sl_token.specs.View.{Tells}

-- what a refusal tells is what follows from it
tells_more : (IsTold IsMore : Fault → Type 0) → ((fault : Fault) → IsTold fault → IsMore fault) → (refusal : Refusal)
    → Tells IsTold refusal → Tells IsMore refusal
tells_more IsTold IsMore more (Diag at code args) told = more _ told
tells_more IsTold IsMore more NoMemory told = tt

module _ (text : List ℕ) where
  abbrev IsTold : Fault → Type 0
  IsTold fault = HasSyntax text (Bad fault)

  -- a lexical fault
  pub lexical_told : (refusal : Refusal) → Tells (HasLexicalFault text) refusal → Tells IsTold refusal
  lexical_told refusal told = tells_more (HasLexicalFault text) IsTold (λ fault. is_lexical) refusal told

  module _ (tokens : List Token) (cut : HasTokens text tokens) where
    -- tokens that are no module
    pub refused_told : (refusal : Refusal) → Tells (AreRefused tokens) refusal → Tells IsTold refusal
    refused_told refusal told =
        tells_more (AreRefused tokens) IsTold (λ fault h. of_tokens cut (is_refused h)) refusal told

    -- a name that is declared twice
    pub twice_told : (tree : ModuleTree) (name : Token) → AreRead tokens tree → IsDeclaredTwice tree name
        → (refusal : Refusal) → Tells (λ fault. fault ≡ twice name) refusal → Tells IsTold refusal
    twice_told tree name read is refusal told =
        tells_more (λ fault. fault ≡ twice name) IsTold
        (λ fault same. subst IsTold (sym same) (of_tokens cut (is_twice {tree = tree} read is))) refusal told
