-- Where readers stop: a tree continues what stands before, and none, or none within the limits, one token more.
use Rattle.std.proofs.Common.{◌≡◌, ℕ, zero, suc, ◌+◌, ◌≤◌, true, List, [], ◌∷◌, ◌++◌, length, subst, arith}
use Rattle.std.specs.Prelude.{Some, None, is_none, Ok, Err}
use Rattle.std.specs.List.{list_all}
use Rattle.std.proofs.lemmas.Bool.{false≢true, and_parts}
use Rattle.def_token.specs.Lexical.{Token}
use Rattle.def_tree.specs.Limits.{Deep, Entry}
use Rattle.def_tree.specs.Symbol.{End, symbol}
use Rattle.def_reading.specs.TypeReading.{Ended, Stop, Reading}

pub ended_behind : (token : Token) (tokens : List Token) → (symbol token ≡ End → ⊥) → Ended (token ∷ tokens) → Ended tokens
ended_behind token [] other h = absurd (other h)
ended_behind token (next ∷ tokens) other h = h

-- no limit ends at the first so many tokens
abbrev pub Clean : ℕ → List Entry → Type 0
Clean zero entries = Unit {0}
Clean (suc k) [] = Unit {0}
Clean (suc k) (None ∷ entries) = Clean k entries
Clean (suc k) (Some limit ∷ entries) = ⊥

-- the limit of nesting ends at the token with this number, and none before
abbrev pub FirstDeep : ℕ → List Entry → Type 0
FirstDeep k [] = ⊥
FirstDeep zero (None ∷ entries) = ⊥
FirstDeep zero (Some limit ∷ entries) = limit ≡ Deep
FirstDeep (suc k) (None ∷ entries) = FirstDeep k entries
FirstDeep (suc k) (Some limit ∷ entries) = ⊥

pub clean_all : (k : ℕ) (entries : List Entry) → list_all is_none entries ≡ true → Clean k entries
clean_all zero entries h = tt
clean_all (suc k) [] h = tt
clean_all (suc k) (None ∷ entries) h = clean_all k entries (and_parts true (list_all is_none entries) h).1
clean_all (suc k) (Some limit ∷ entries) h = absurd (false≢true h)

pub clean_behind : (n k : ℕ) (front entries : List Entry) → n ≡ length front + k → list_all is_none front ≡ true → Clean k entries → Clean n (front ++ entries)
clean_behind n k [] entries is h c = subst (λ m. Clean m entries) (omega (arith, is)) c
clean_behind zero k (entry ∷ front) entries is h c = tt
clean_behind (suc n) k (None ∷ front) entries is h c = clean_behind n k front entries (omega (arith, is)) (and_parts true (list_all is_none front) h).1 c
clean_behind (suc n) k (Some limit ∷ front) entries is h c = absurd (false≢true h)

pub clean_before : (k : ℕ) (entries behind : List Entry) → k ≤ length entries → Clean k entries → Clean k (entries ++ behind)
clean_before zero entries behind h c = tt
clean_before (suc k) [] behind h c = absurd (omega (arith, h))
clean_before (suc k) (None ∷ entries) behind h c = clean_before k entries behind (omega (arith, h)) c
clean_before (suc k) (Some limit ∷ entries) behind h c = c

pub deep_behind : (n k : ℕ) (front entries : List Entry) → n ≡ length front + k → list_all is_none front ≡ true → FirstDeep k entries → FirstDeep n (front ++ entries)
deep_behind n k [] entries is h d = subst (λ m. FirstDeep m entries) (omega (arith, is)) d
deep_behind zero k (entry ∷ front) entries is h d = absurd (omega (arith, is))
deep_behind (suc n) k (None ∷ front) entries is h d = deep_behind n k front entries (omega (arith, is)) (and_parts true (list_all is_none front) h).1 d
deep_behind (suc n) k (Some limit ∷ front) entries is h d = absurd (false≢true h)

pub deep_before : (k : ℕ) (entries behind : List Entry) → FirstDeep k entries → FirstDeep k (entries ++ behind)
deep_before k [] behind d = absurd d
deep_before zero (None ∷ entries) behind d = absurd d
deep_before zero (Some limit ∷ entries) behind d = d
deep_before (suc k) (None ∷ entries) behind d = deep_before k entries behind d
deep_before (suc k) (Some limit ∷ entries) behind d = absurd d

module _ {A : Type 0} (Whole Part : List Token → A → List Token → Type 0) (entries_of : A → List Entry) where
  -- some tree continues these tokens, with no limit that ends at one of them
  pub record Opens (front : List Token) : Type 0 where
    pub more : List Token
    pub tree : A
    pub whole : (rest : List Token) → Whole (front ++ (more ++ rest)) tree rest
    pub room : length front ≤ length (entries_of tree)
    pub clean : Clean (length front) (entries_of tree)

  -- some tree continues these tokens
  pub record Goes (front : List Token) : Type 0 where
    pub more : List Token
    pub tree : A
    pub whole : (rest : List Token) → Whole (front ++ (more ++ rest)) tree rest

  -- a reader of tokens stops
  pub data Stops (tokens : List Token) (stop : Stop) : Type 0 where
    no_tree : (front tail : List Token) → tokens ≡ front ++ stop.token ∷ tail → stop.code ≡ 110 → Opens front
        → ((more rest : List Token) (tree : A) → Part (front ++ stop.token ∷ more) tree rest → ⊥)
        → Stops tokens stop
    a_limit : (front tail : List Token) → tokens ≡ front ++ stop.token ∷ tail → stop.code ≡ 111 → Goes (front ++ stop.token ∷ [])
        → ((more rest : List Token) (tree : A) → Part (front ++ stop.token ∷ more) tree rest → FirstDeep (length front) (entries_of tree))
        → Stops tokens stop

  -- a reader reads a tree within the limits, and the tokens of the tree do not hang on what stands behind them
  pub record Reads (tokens : List Token) (tree : A) (rest : List Token) : Type 0 where
    pub part : Part tokens tree rest
    pub piece : List Token
    pub are : tokens ≡ piece ++ rest
    pub stable : (other : List Token) → Whole (piece ++ other) tree other
    pub limited : list_all is_none (entries_of tree) ≡ true
    pub room : length piece ≡ length (entries_of tree)
    pub ended : Ended rest

  -- what a reader gives is exact
  abbrev pub Exact : List Token → Reading A → Type 0
  Exact tokens (Ok found) = Reads tokens found.0 found.1
  Exact tokens (Err stop) = Stops tokens stop
