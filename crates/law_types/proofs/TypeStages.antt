-- Type arguments token by token: what stands before a token, and which tokens go on with it.
use Rattle.std.proofs.Common.{◌≡◌, ℕ, zero, suc, pred, ◌+◌, Bool, true, false, List, [], ◌∷◌, ◌++◌, length, refl, sym, ap, subst, ◌∙◌, arith, append_assoc, length-append}
use Rattle.std.specs.Prelude.{Option, Some, None}
use Rattle.def_token.specs.Lexical.{Token}
use Rattle.def_tree.specs.Limits.{Entry, plain, opens, path_entries, type_entries, args_entries}
use Rattle.def_tree.specs.Symbol.{Symbol, symbol, is_sign, Is}
use Rattle.def_tree.specs.Types.{IsPath, ended, dotted, IsType, of_word, of_name, of_generic, IsTypeArgs, type_args, IsTypeList, last_type, more_types}
use Rattle.def_tree.specs.TypeTree.{TypeTree, TypeTrees}
use Rattle.def_reading.specs.Cursor.{Told, At, passed, noted}
use Rattle.def_reading.specs.TypeAhead.{names}
use Rattle.def_reading.specs.TypeReading.{Lead, AWord, AName, NoType, lead_of}
use Rattle.law_types.proofs.AheadComplete.{word_lead, passed-append, closed_entries, more_closed, args_closed}

-- What stands before a token, with how many types are open, and how many of them are of the type arguments: nothing that
-- is a type yet; a name; another end of a type; a type and a dot; or the mark that closes the arguments.
pub data Stage : Type 0 where
  Head : ℕ → ℕ → Stage
  Named' : ℕ → ℕ → Stage
  Whole : ℕ → ℕ → Stage
  Dot : ℕ → ℕ → Stage
  Closed : Stage

-- behind `>`
abbrev pub close : ℕ → ℕ → Stage
close types zero = Closed
close types (suc many) = Whole (pred types) many

abbrev pub mark_by : Bool → Bool → Bool → ℕ → ℕ → Option Stage
mark_by true comma closes types many = Some (Dot types many)
mark_by false true closes types many = Some (Head types many)
mark_by false false true types many = Some (close types many)
mark_by false false false types many = None

abbrev pub mark_behind : Symbol → ℕ → ℕ → Option Stage
mark_behind s types many = mark_by (is_sign "." s) (is_sign "," s) (is_sign ">" s) types many

abbrev pub named_by : Bool → ℕ → ℕ → Option Stage → Option Stage
named_by true types many other = Some (Head (suc types) (suc many))
named_by false types many other = other

abbrev pub head_by : Lead → ℕ → ℕ → Option Stage
head_by (AWord word) types many = Some (Whole types many)
head_by AName types many = Some (Named' types many)
head_by NoType types many = None

abbrev pub dot_by : Bool → ℕ → ℕ → Option Stage
dot_by true types many = Some (Whole types many)
dot_by false types many = None

-- the stage behind a token, if the token goes on
abbrev pub next : Stage → Symbol → Option Stage
next (Head types many) s = head_by (lead_of s) types many
next (Named' types many) s = named_by (is_sign "<" s) types many (mark_behind s types many)
next (Whole types many) s = mark_behind s types many
next (Dot types many) s = dot_by (names s) types many
next Closed s = None

-- the entry of a token at a stage
abbrev pub entry : Stage → Entry
entry (Head types many) = opens (suc types)
entry (Named' types many) = None
entry (Whole types many) = None
entry (Dot types many) = None
entry Closed = None

-- the stage behind tokens, and the first limit on the way, if all of them go on
abbrev pub drive_by : Option Stage → (Stage → Option (Stage × Option Told)) → Option (Stage × Option Told)
drive_by None more = None
drive_by (Some stage) more = more stage

abbrev pub drive : Stage → ℕ → Option Told → List Token → Option (Stage × Option Told)
drive stage at limit [] = Some (stage, limit)
drive stage at limit (t ∷ ts) = drive_by (next stage (symbol t)) (λ stage'. drive stage' (suc at) (noted limit (entry stage) at t) ts)

-- tokens that go on, from a stage to a stage
pub record Drives (stage : Stage) (at : ℕ) (limit : Option Told) (piece : List Token) (stage' : Stage) (limit' : Option Told) : Type 0 where
  pub is : drive stage at limit piece ≡ Some (stage', limit')

driven : {stage stage' : Stage} {at : ℕ} {limit limit' : Option Told} {piece : List Token} → drive stage at limit piece ≡ Some (stage', limit') → Drives stage at limit piece stage' limit'
driven h = record { is = h }

-- one token
pub one : (stage stage' : Stage) (at : ℕ) (limit : Option Told) (t : Token) → next stage (symbol t) ≡ Some stage' → Drives stage at limit (t ∷ []) stage' (noted limit (entry stage) at t)
one stage stage' at limit t h = driven (ap (λ o. drive_by o (λ s. drive s (suc at) (noted limit (entry stage) at t) [])) h)

-- tokens behind tokens
append_by : (o : Option Stage) (stage' stage'' : Stage) (at : ℕ) (limit limit' limit'' : Option Told) (front more : List Token)
    → drive_by o (λ s. drive s at limit front) ≡ Some (stage', limit') → Drives stage' (at + length front) limit' more stage'' limit''
    → ((s : Stage) → o ≡ Some s → drive s at limit front ≡ Some (stage', limit') → drive s at limit (front ++ more) ≡ Some (stage'', limit''))
    → drive_by o (λ s. drive s at limit (front ++ more)) ≡ Some (stage'', limit'')
append_by None stage' stage'' at limit limit' limit'' front more h k each = absurd (cc)
append_by (Some s) stage' stage'' at limit limit' limit'' front more h k each = each s refl h

abbrev Driven : Type 0
Driven = Stage × Option Told

some_driven : (p q : Driven) → Some p ≡ Some q → p ≡ q
some_driven p q h = cc

pub some_pair : (s s' : Stage) (l l' : Option Told) → drive s zero l [] ≡ Some (s', l') → (s ≡ s') × (l ≡ l')
some_pair s s' l l' h =
    let same = some_driven (s, l) (s', l') h in (ap (λ (q : Driven). q.0) same, ap (λ (q : Driven). q.1) same)

pub append_drives : (stage stage' stage'' : Stage) (at : ℕ) (limit limit' limit'' : Option Told) (front more : List Token)
    → Drives stage at limit front stage' limit' → Drives stage' (at + length front) limit' more stage'' limit'' → Drives stage at limit (front ++ more) stage'' limit''
append_drives stage stage' stage'' at limit limit' limit'' [] more d e =
    let same = some_pair stage stage' limit limit' d.is in
    driven (ap (λ s. drive s at limit more) same.0 ∙ ap (λ l. drive stage' at l more) same.1 ∙ ap (λ n. drive stage' n limit' more) (omega arith) ∙ e.is)
append_drives stage stage' stage'' at limit limit' limit'' (t ∷ front) more d e =
    driven (append_by (next stage (symbol t)) stage' stage'' (suc at) (noted limit (entry stage) at t) limit' limit'' front more d.is
    (record { is = ap (λ n. drive stage' n limit' more) (omega arith) ∙ e.is })
    (λ s _ h. (append_drives s stage' stage'' (suc at) (noted limit (entry stage) at t) limit' limit'' front more (driven h)
    (record { is = ap (λ n. drive stage' n limit' more) (omega arith) ∙ e.is })).is))

-- a type ends with a name alone, or otherwise; it does not go on with these tokens
pub data Ends : Stage → ℕ → ℕ → Type 0 where
  at_name : {types many : ℕ} → Ends (Named' types many) types many
  at_whole : {types many : ℕ} → Ends (Whole types many) types many

-- tokens as tokens that go on, with their entries
pub record Pieces (stage : Stage) (at : ℕ) (limit : Option Told) (tokens : List Token) (es : List Entry) (stage' : Stage) (rest : List Token) : Type 0 where
  pub piece : List Token
  pub are : tokens ≡ piece ++ rest
  pub at' : ℕ
  pub limit' : Option Told
  pub is_at : at' ≡ at + length piece
  pub drives : Drives stage at limit piece stage' limit'
  pub passes : passed es (At at limit tokens) ≡ At at' limit' rest

no_piece : (stage : Stage) (at : ℕ) (limit : Option Told) (rest : List Token) → Pieces stage at limit rest [] stage rest
no_piece stage at limit rest = record { piece = []; are = refl; at' = at; limit' = limit; is_at = omega arith; drives = driven refl; passes = refl }

-- one token and those behind it
token_piece : {stage stage' stage'' : Stage} {at : ℕ} {limit : Option Told} {ts rest : List Token} {es : List Entry} (t : Token) → next stage (symbol t) ≡ Some stage'
    → Pieces stage' (suc at) (noted limit (entry stage) at t) ts es stage'' rest → Pieces stage at limit (t ∷ ts) (entry stage ∷ es) stage'' rest
token_piece {stage = stage} {stage' = stage'} {at = at} {limit = limit} t h p =
    record {
      piece = t ∷ p.piece;
      are = ap (λ ts. t ∷ ts) p.are;
      at' = p.at';
      limit' = p.limit';
      is_at = omega (arith, p.is_at);
      drives = driven (ap (λ o. drive_by o (λ s. drive s (suc at) (noted limit (entry stage) at t) p.piece)) h ∙ p.drives.is);
      passes = p.passes;
    }

-- tokens and those behind them
more_pieces : {stage stage' stage'' : Stage} {at : ℕ} {limit : Option Told} {ts mid rest : List Token} {es more : List Entry} (p : Pieces stage at limit ts es stage' mid)
    → Pieces stage' p.at' p.limit' mid more stage'' rest → Pieces stage at limit ts (es ++ more) stage'' rest
more_pieces {stage = stage} {stage' = stage'} {stage'' = stage''} {at = at} {limit = limit} {ts = ts} {mid = mid} {rest = rest} {es = es} {more = more} p q =
    record {
      piece = p.piece ++ q.piece;
      are = p.are ∙ ap (λ ts. p.piece ++ ts) q.are ∙ sym (append_assoc p.piece q.piece rest);
      at' = q.at';
      limit' = q.limit';
      is_at = omega (arith, p.is_at, q.is_at, length-append p.piece q.piece);
      drives = append_drives stage stage' stage'' at limit p.limit' q.limit' p.piece q.piece p.drives (subst (λ n. Drives stage' n p.limit' q.piece stage'' q.limit') p.is_at q.drives);
      passes = passed-append es more (At at limit ts) ∙ ap (passed more) p.passes ∙ q.passes;
    }

-- the names behind dots
path_pieces : {tokens path rest : List Token} → IsPath tokens path rest → (types many at : ℕ) (limit : Option Told) → Pieces (Whole types many) at limit tokens (path_entries path) (Whole types many) rest
path_pieces (ended {rest = rest}) types many at limit = no_piece (Whole types many) at limit rest
path_pieces (dotted {dot = dot} {name = name} d n p) types many at limit =
    token_piece {stage' = Dot types many} dot (rw d refl) (token_piece {stage' = Whole types many} name (rw n refl) (path_pieces p types many (suc (suc at)) limit))

-- a type with its end
pub record TypePieces (types many at : ℕ) (limit : Option Told) (tokens : List Token) (es : List Entry) (rest : List Token) : Type 0 where
  pub stage : Stage
  pub ends : Ends stage types many
  pub pieces : Pieces (Head types many) at limit tokens es stage rest

-- the names behind dots, behind a name
record NamedPieces (types many at : ℕ) (limit : Option Told) (tokens : List Token) (es : List Entry) (rest : List Token) : Type 0 where
  stage : Stage
  ends : Ends stage types many
  pieces : Pieces (Named' types many) at limit tokens es stage rest

named_pieces : {tokens path rest : List Token} → IsPath tokens path rest → (types many at : ℕ) (limit : Option Told) → NamedPieces types many at limit tokens (path_entries path) rest
named_pieces (ended {rest = rest}) types many at limit = record { stage = Named' types many; ends = at_name; pieces = no_piece (Named' types many) at limit rest }
named_pieces (dotted {dot = dot} {name = name} d n p) types many at limit =
    record {
      stage = Whole types many;
      ends = at_whole;
      pieces = token_piece {stage' = Dot types many} dot (rw d refl) (token_piece {stage' = Whole types many} name (rw n refl) (path_pieces p types many (suc (suc at)) limit));
    }

comma_next : {stage : Stage} {types many : ℕ} (t : Token) → Ends stage types many → Is "," t → (next stage (symbol t) ≡ Some (Head types many)) × (entry stage ≡ None)
comma_next t at_name h = (rw h refl, refl)
comma_next t at_whole h = (rw h refl, refl)

closing_next : {stage : Stage} {types many : ℕ} (t : Token) → Ends stage types many → Is ">" t → (next stage (symbol t) ≡ Some (close types many)) × (entry stage ≡ None)
closing_next t at_name h = (rw h refl, refl)
closing_next t at_whole h = (rw h refl, refl)

-- a token that opens nothing, and those behind it
plain_piece : {stage stage' stage'' : Stage} {at : ℕ} {limit : Option Told} {ts rest : List Token} {es : List Entry} (t : Token) → (next stage (symbol t) ≡ Some stage') × (entry stage ≡ None)
    → Pieces stage' (suc at) limit ts es stage'' rest → Pieces stage at limit (t ∷ ts) (plain ∷ es) stage'' rest
plain_piece {stage = stage} {stage' = stage'} {stage'' = stage''} {at = at} {limit = limit} {ts = ts} {rest = rest} {es = es} t h p =
    subst (λ e. Pieces stage at limit (t ∷ ts) (e ∷ es) stage'' rest) h.1
    (token_piece t h.0 (subst (λ e. Pieces stage' (suc at) (noted limit e at t) ts es stage'' rest) (sym h.1) p))

mutual
  pub type_pieces : {tokens rest : List Token} {type : TypeTree} → IsType tokens type rest → (types many at : ℕ) (limit : Option Told) → TypePieces types many at limit tokens (type_entries types type) rest
  type_pieces (of_word {word = word} {first = t} h p) types many at limit =
      record {
        stage = Whole types many;
        ends = at_whole;
        pieces = token_piece {stage' = Whole types many} t (rw (h, word_lead word) refl) (path_pieces p types many (suc at) (noted limit (opens (suc types)) at t));
      }
  type_pieces (of_name {first = t} h p) types many at limit =
      let n = named_pieces p types many (suc at) (noted limit (opens (suc types)) at t) in
      record { stage = n.stage; ends = n.ends; pieces = token_piece {stage' = Named' types many} t (rw h refl) n.pieces }
  type_pieces (of_generic {first = t} h a p) types many at limit =
      let args = args_pieces a types many (suc at) (noted limit (opens (suc types)) at t) in
      record {
        stage = Whole types many;
        ends = at_whole;
        pieces = token_piece {stage' = Named' types many} t (rw h refl) (more_pieces args (path_pieces p types many args.at' args.limit'));
      }

  -- type arguments behind a name
  args_pieces : {tokens rest : List Token} {args : TypeTrees} → IsTypeArgs tokens args rest → (types many at : ℕ) (limit : Option Told)
      → Pieces (Named' types many) at limit tokens (args_entries (suc types) args) (Whole types many) rest
  args_pieces (type_args {opening = opening} {closing = closing} {rest = rest} {args = args} h l c) types many at limit =
      rw (args_closed (suc types) l) (token_piece {stage' = Head (suc types) (suc many)} opening (rw h refl) (list_pieces l closing rest refl c (suc types) (suc many) (suc at) limit))

  pub list_pieces : {tokens mid : List Token} {trees : TypeTrees} → IsTypeList tokens trees mid → (closing : Token) (rest : List Token) → mid ≡ closing ∷ rest → Is ">" closing
      → (types many at : ℕ) (limit : Option Told) → Pieces (Head types many) at limit tokens (closed_entries types trees) (close types many) rest
  list_pieces (last_type {tokens = tokens} {type = type} t) closing rest is c types many at limit =
      let first = subst (TypePieces types many at limit tokens (type_entries types type)) is (type_pieces t types many at limit) in
      more_pieces first.pieces (plain_piece closing (closing_next closing first.ends c) (no_piece (close types many) (suc first.pieces.at') first.pieces.limit' rest))
  list_pieces (more_types {comma = comma} {type = type} {types = trees} t h l) closing rest is c types many at limit =
      let first = type_pieces t types many at limit in
      rw (more_closed types l) (more_pieces first.pieces (plain_piece comma (comma_next comma first.ends h)
      (list_pieces l closing rest is c types many (suc first.pieces.at') first.pieces.limit')))
