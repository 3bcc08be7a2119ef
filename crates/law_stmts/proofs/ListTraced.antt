-- Parts with commas between them: what is read, and where the ways that are noted come from.
use Rattle.std.proofs.Common.{◌≡◌, ℕ, zero, suc, true, List, [], ◌∷◌, ◌++◌, refl}
use Rattle.def_token.specs.Lexical.{Token}
use Rattle.def_tree.specs.Limits.{Entry, plain}
use Rattle.def_tree.specs.Symbol.{symbol, is_sign}
use Rattle.def_reading.specs.Cursor.{At}
use Rattle.def_reading.specs.Try.{Reads, Reader, try_as, choice, listed}
use Rattle.law_exprs.proofs.Quiet.{Kept, Fine, kept_cons}
use Rattle.law_exprs.proofs.TryTraces.{Language, Any, Scratch, Suffix, After, Traces, traced_then, traced_as, traced_choice, traced_refused, traced_end}

module _ (all : List Token) {A B : Type 0} (P : Language A) (Q : Language B) (more : A → B → B) (none : B) (part : Reader A) (traces : Traces all P Fine Kept Kept part)
    (s : Scratch Q Fine Any) (missed : (tokens rest : List Token) → Fine rest → Kept tokens (s.tokens ++ rest))
    (one : (tokens : List Token) (a : A) (es : List Entry) (rest : List Token) → P tokens a es rest → Q tokens (more a none) (es ++ []) rest)
    (others : (comma : Token) (tokens : List Token) (a : A) (es : List Entry) (mid : List Token) (c : B) (es' : List Entry) (rest : List Token) → is_sign "," (symbol comma) ≡ true → P tokens a es (comma ∷ mid) → Q mid c es' rest
    → Q tokens (more a c) (es ++ plain ∷ es') rest) where
  pub traces_list : (turns : ℕ) → Traces all Q Fine Kept Kept (listed more none part turns)
  traces_list zero at limit tokens start b end n p = traced_refused all Q Fine Kept Kept start at limit tokens b p s (missed tokens)
  traces_list (suc turns) at limit tokens start b end n p =
      traced_then all P Q Fine Fine Kept Kept Kept
      (λ a. choice (is_sign ",") plain (λ comma reach place. try_as (more a) (listed more none part turns reach place)) (λ reach place. Reads (more a none) place reach)) start at limit tokens b (part start (At at limit tokens)) n p
      (λ a. record { tokens = []; tree = more a none; entries = []; whole = λ rest h tokens front q. one tokens a front rest q; before = λ rest h. h })
      (λ a at' limit' mid reach b end' n' p'.
      traced_choice all (Suffix P a Q) Fine Kept Kept Kept (is_sign ",") plain (λ comma reach place. try_as (more a) (listed more none part turns reach place)) (λ reach place. Reads (more a none) place reach) refl
      (λ t old new h k. kept_cons t old new k) reach at' limit' mid b end' n' p'
      (λ comma h at'' limit'' rest reach b end'' n'' p''.
      traced_as all (more a) Q (After comma plain (Suffix P a Q)) Fine Kept Kept reach at'' limit'' rest b (listed more none part turns reach (At at'' limit'' rest))
      (λ tokens c es rest q all' front r. others comma all' a front tokens c es rest h r q) (traces_list turns at'' limit'' rest reach b end'' n'' p''))
      (λ no'. traced_end all (Suffix P a Q) Fine Kept Kept (more a none) reach at' limit' mid b end' (λ other k tokens front q. one tokens a front other q) (λ other k. k)))
      (traces at limit tokens start b end n p)
