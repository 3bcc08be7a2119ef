-- What counts before a reader counts no more than what it comes to.
use Rattle.std.proofs.Common.{◌≡◌, ◌⊎◌, inl, inr, ⊎_elim, ℕ, zero, suc, ◌<◌, ◌≤◌, Bool, true, false, List, [], ◌∷◌, refl, sym, ap, subst, ◌∙◌, arith}
use Rattle.std.specs.Prelude.{Option, Some, None}
use Rattle.std.proofs.lemmas.Bool.{false≢true}
use Rattle.def_token.specs.Lexical.{Token}
use Rattle.def_tree.specs.Limits.{Entry, plain}
use Rattle.def_tree.specs.Symbol.{Symbol, End, symbol, is_sign}
use Rattle.def_reading.specs.Cursor.{Told, At, noted, before, FarthestFailure, reach_at, further}
use Rattle.def_reading.specs.Try.{Try, Reads, Stops, Reader, try_then, try_as, or_else, refused, choice, choice_by, token_then, up_to, listed}
use Rattle.def_reading.specs.TypeReading.{Ended}
use Rattle.law_machine.proofs.MachineGrows.{AtMost, less_far, at_most_more, Above, above, above_second, above_more}
use Rattle.law_machine.proofs.MachineWays.{way_at}
use Rattle.law_types.proofs.Stopping.{ended_behind}

-- this way counts no more than the others, or ends before the place
abbrev pub Past : FarthestFailure → Option FarthestFailure → ℕ → Type 0
Past w reach at = Above w reach ⊎ (w.many < at)

-- this way counts no more than what a reader comes to, and tokens end behind it
abbrev pub Holds : {A : Type 0} → FarthestFailure → Try A → Type 0
Holds w (Reads a (At at limit rest) reach) = Ended rest × Past w reach at
Holds w (Stops reach) = Above w reach

-- what counts before the reader counts no more than what it comes to
abbrev pub Keeps : {A : Type 0} → Reader A → Type 0
Keeps reader = (w : FarthestFailure) (at : ℕ) (limit : Option Told) (tokens : List Token) (reach : Option FarthestFailure) → Ended tokens → Past w reach at → Holds w (reader reach (At at limit tokens))

pub past_later : (w : FarthestFailure) (reach : Option FarthestFailure) (at at' : ℕ) → at ≤ at' → Past w reach at → Past w reach at'
past_later w reach at at' h p = ⊎_elim (λ a. inl a) (λ k. inr (omega (arith, h, k))) p

pub past_more : (w : FarthestFailure) (reach other : Option FarthestFailure) (at : ℕ) → Past w reach at → Past w (further reach other) at
past_more w reach other at p = ⊎_elim (λ a. inl (above_more w reach other a)) (λ k. inr k) p

above_up : (w r : FarthestFailure) (o : Option FarthestFailure) → AtMost w r → Above r o → Above w o
above_up w r (Some s) h (above same k) = above s (at_most_more w r s h k)
above_up w r None h a = elim a [ ]

-- a way to a place is past what ends before it
pub past_way : (w r : FarthestFailure) (reach : Option FarthestFailure) (at : ℕ) → r.many ≡ at → Past w reach at → Above w (further reach (Some r))
past_way w r reach at same p =
    ⊎_elim (λ a. above_more w reach (Some r) a) (λ k. above_up w r (further reach (Some r)) (less_far (omega (arith, same, k))) (above_second reach r)) p

pub stop_way : (w : FarthestFailure) (long : Option Told) (least at : ℕ) (limit : Option Told) (tokens : List Token) (reach : Option FarthestFailure) → Ended tokens → Past w reach at
    → Above w (further reach (reach_at long least (At at limit tokens)))
stop_way w long least at limit [] reach e p = absurd e
stop_way w long least at limit (t ∷ ts) reach e p =
    let way = way_at long least at limit t ts in
    subst (λ o. Above w (further reach o)) (sym way.is) (past_way w way.reach reach at way.many p)

pub keeps_refused : (A : Type 0) → Keeps {A = A} refused
keeps_refused A w at limit tokens reach e p = stop_way w None 0 at (before at limit) tokens reach e p

pub holds_as : {A B : Type 0} (make : A → B) (w : FarthestFailure) (look : Try A) → Holds w look → Holds w (try_as make look)
holds_as make w (Reads a (At at limit rest) reach) h = h
holds_as make w (Stops reach) h = h

pub keeps_as : {A B : Type 0} (make : A → B) (reader : Reader A) → Keeps reader → Keeps (λ reach place. try_as make (reader reach place))
keeps_as make reader k w at limit tokens reach e p = holds_as make w (reader reach (At at limit tokens)) (k w at limit tokens reach e p)

pub holds_then : {A B : Type 0} (next : A → Reader B) (w : FarthestFailure) (look : Try A) → Holds w look → ((a : A) → Keeps (next a)) → Holds w (try_then next look)
holds_then next w (Reads a (At at limit rest) reach) h k = k a w at limit rest reach h.0 h.1
holds_then next w (Stops reach) h k = h

pub keeps_then : {A B : Type 0} (next : A → Reader B) (reader : Reader A) → Keeps reader → ((a : A) → Keeps (next a)) → Keeps (λ reach place. try_then next (reader reach place))
keeps_then next reader k n w at limit tokens reach e p = holds_then next w (reader reach (At at limit tokens)) (k w at limit tokens reach e p) n

pub keeps_end : {A : Type 0} (a : A) → Keeps (λ reach place. Reads a place reach)
keeps_end a w at limit tokens reach e p = (e, p)

-- a test that the end does not pass
abbrev pub NotEnd : (Symbol → Bool) → Type 0
NotEnd test = test End ≡ false

pub not_end : (test : Symbol → Bool) (token : Token) → NotEnd test → test (symbol token) ≡ true → symbol token ≡ End → ⊥
not_end test token no' yes' is = false≢true (sym no' ∙ ap test (sym is) ∙ yes')

choice_keeps_by : {A : Type 0} (b : Bool) (test : Symbol → Bool) (entry : Entry) (yes' : Token → Reader A) (no' : Reader A) → NotEnd test → ((token : Token) → Keeps (yes' token)) → Keeps no'
    → (w : FarthestFailure) (at : ℕ) (limit : Option Told) (token : Token) (tokens : List Token) (reach : Option FarthestFailure) → test (symbol token) ≡ b → Ended (token ∷ tokens) → Past w reach at
    → Holds w (choice_by b entry yes' no' reach token (At at limit (token ∷ tokens)))
choice_keeps_by true test entry yes' no' ne k l w at limit token tokens reach is e p =
    k token w (suc at) (noted limit entry at token) tokens reach (ended_behind token tokens (not_end test token ne is) e) (past_later w reach at (suc at) (omega arith) p)
choice_keeps_by false test entry yes' no' ne k l w at limit token tokens reach is e p = l w at limit (token ∷ tokens) reach e p

pub keeps_choice : {A : Type 0} (test : Symbol → Bool) (entry : Entry) (yes' : Token → Reader A) (no' : Reader A) → NotEnd test → ((token : Token) → Keeps (yes' token)) → Keeps no' → Keeps (choice test entry yes' no')
keeps_choice test entry yes' no' ne k l w at limit [] reach e p = absurd e
keeps_choice test entry yes' no' ne k l w at limit (token ∷ tokens) reach e p =
    choice_keeps_by (test (symbol token)) test entry yes' no' ne k l w at limit token tokens reach refl e p

pub keeps_token : {A : Type 0} (test : Symbol → Bool) (entry : Entry) (next : Token → Reader A) → NotEnd test → ((token : Token) → Keeps (next token)) → Keeps (token_then test entry next)
keeps_token {A = A} test entry next ne k =
    keeps_choice test entry next refused ne k (keeps_refused A)

pub keeps_up_to : {A : Type 0} (test : Symbol → Bool) (reader : Reader A) → NotEnd test → Keeps reader → Keeps (λ reach place. up_to test (reader reach place))
keeps_up_to test reader ne k =
    keeps_then (λ a. token_then test plain (λ mark reach place. Reads a place reach)) reader k (λ a. keeps_token test plain (λ mark reach place. Reads a place reach) ne (λ mark. keeps_end a))

pub holds_else : {A : Type 0} (other : Reader A) (w : FarthestFailure) (at : ℕ) (limit : Option Told) (tokens : List Token) (look : Try A) → Ended tokens → Holds w look → Keeps other → Holds w (or_else other (At at limit tokens) look)
holds_else other w at limit tokens (Reads a (At at' limit' rest) reach) e h k = h
holds_else other w at limit tokens (Stops reach) e h k = k w at limit tokens reach e (inl h)

pub keeps_else : {A : Type 0} (reader other : Reader A) → Keeps reader → Keeps other → Keeps (λ reach place. or_else other place (reader reach place))
keeps_else reader other k l w at limit tokens reach e p = holds_else other w at limit tokens (reader reach (At at limit tokens)) e (k w at limit tokens reach e p) l

pub keeps_listed : {A B : Type 0} (more : A → B → B) (none : B) (part : Reader A) → Keeps part → (turns : ℕ) → Keeps (listed more none part turns)
keeps_listed {B = B} more none part k zero = keeps_refused B
keeps_listed more none part k (suc turns) =
    keeps_then (λ a. choice (is_sign ",") plain (λ comma reach place. try_as (more a) (listed more none part turns reach place)) (λ reach place. Reads (more a none) place reach)) part k
    (λ a. keeps_choice (is_sign ",") plain (λ comma reach place. try_as (more a) (listed more none part turns reach place)) (λ reach place. Reads (more a none) place reach) refl
    (λ comma. keeps_as (more a) (listed more none part turns) (keeps_listed more none part k turns)) (keeps_end (more a none)))
