-- The reader of types before tokens with the same front.
use Rattle.std.proofs.Common.{◌≡◌, inr, ℕ, zero, suc, ◌+◌, ◌≤◌, Bool, true, false, List, [], ◌∷◌, ◌++◌, length, refl, sym, ap, subst, ◌∙◌, arith, le_refl, append_assoc, append-nil, length-append}
use Rattle.std.specs.Prelude.{Option, Some, None, ◌&&◌}
use Rattle.std.proofs.lemmas.Bool.{or_from}
use Rattle.def_token.specs.Lexical.{Token}
use Rattle.def_tree.specs.Limits.{type_entries}
use Rattle.def_tree.specs.Part.{is_name_alone, type_goes_on}
use Rattle.def_tree.specs.Statements.{begins_with}
use Rattle.def_tree.specs.Symbol.{symbol, is_sign}
use Rattle.def_tree.specs.Types.{IsType}
use Rattle.def_tree.specs.TypeTree.{TypeWord, TypeTree, Word, Named, TypeTrees, NoTypes, MoreTypes}
use Rattle.def_reading.specs.Cursor.{Told, Cursor, At, before, FarthestFailure, further, reach_at}
use Rattle.def_reading.specs.Try.{Reads, Stops, look_by}
use Rattle.def_reading.specs.TypeAhead.{LookAhead, Found, Missing, found_then, found_as, names, path_by, path_ahead, path_from, type_by, list_by, list_behind, args_by, type_ahead, list_ahead}
use Rattle.def_reading.specs.TypeReading.{Ended, Lead, AWord, AName, NoType, lead_of}
use Rattle.law_types.proofs.AheadComplete.{type_found}
use Rattle.law_types.proofs.AheadFaults.{Grows, drive_grows, Splits, longer, shorter, splits}
use Rattle.law_types.proofs.AheadKept.{drive_front}
use Rattle.law_types.proofs.AheadSound.{SoundLook, type_sound}
use Rattle.law_types.proofs.AheadStages.{Dead, PathLook, Stops as StopsAt, stops_name, stops_whole, drive_first, ended_alive, type_looks}
use Rattle.law_exprs.proofs.ExprBeside.{front_share}
use Rattle.law_types.proofs.LimitSpots.{same_place}
use Rattle.law_machine.proofs.MachineGrows.{Above, above_second}
use Rattle.law_exprs.proofs.TryComes.{Noted}
use Rattle.law_exprs.proofs.TryFollows.{before_same, Share, Followed, same, ends_here, told, past, way_same}
use Rattle.law_exprs.proofs.TryFronts.{way_is}
use Rattle.law_exprs.proofs.TryHolds.{stop_way}
use Rattle.law_exprs.proofs.TypeRises.{LookRises, type_rises}
use Rattle.law_types.proofs.TypeStable.{type_stable, cancel}
use Rattle.law_types.proofs.TypeStages.{Stage, Head, next, drive, TypePieces, type_pieces}

-- behind a name alone no `<` stands
abbrev PathFits : List Token → LookAhead (List Token) → Type 0
PathFits tokens (Found [] (At at limit rest)) = rest ≡ tokens
PathFits tokens (Found (name ∷ path) place) = Unit {0}
PathFits tokens (Missing place) = Unit {0}

dotted_fits : (name : Token) (tokens : List Token) (look : LookAhead (List Token)) → PathFits tokens (found_as (λ path. name ∷ path) look)
dotted_fits name tokens (Found path (At at limit rest)) = tt
dotted_fits name tokens (Missing place) = tt

path_by_fits : (d n : Bool) (at : ℕ) (limit : Option Told) (dot name : Token) (tokens : List Token) (more : LookAhead (List Token)) → PathFits (dot ∷ name ∷ tokens) (path_by d n at limit dot name tokens more)
path_by_fits true true at limit dot name tokens more = dotted_fits name (dot ∷ name ∷ tokens) more
path_by_fits true false at limit dot name tokens more = tt
path_by_fits false n at limit dot name tokens more = refl

path_fits : (at : ℕ) (limit : Option Told) (tokens : List Token) → PathFits tokens (path_ahead at limit tokens)
path_fits at limit [] = refl
path_fits at limit (dot ∷ []) = refl
path_fits at limit (dot ∷ name ∷ tokens) = path_by_fits (is_sign "." (symbol dot)) (names (symbol name)) at limit dot name tokens (path_ahead (suc (suc at)) limit tokens)

abbrev ArgsFits : LookAhead TypeTrees → Type 0
ArgsFits (Found NoTypes (At at limit rest)) = begins_with "<" rest ≡ false
ArgsFits (Found (MoreTypes type types) place) = Unit {0}
ArgsFits (Missing place) = Unit {0}

more_fits : (type : TypeTree) (look : LookAhead TypeTrees) → ArgsFits (found_as (MoreTypes type) look)
more_fits type (Found types place) = tt
more_fits type (Missing place) = tt

list_by_fits : (comma closes : Bool) (more : Cursor → LookAhead TypeTrees) (type : TypeTree) (behind place : Cursor) → ArgsFits (list_by comma closes more type behind place)
list_by_fits true closes more type behind place = more_fits type (more behind)
list_by_fits false true more type behind place = tt
list_by_fits false false more type behind place = tt

list_behind_fits : (more : Cursor → LookAhead TypeTrees) (type : TypeTree) (place : Cursor) → ArgsFits (list_behind more type place)
list_behind_fits more type (At at limit []) = tt
list_behind_fits more type (At at limit (mark ∷ tokens)) = list_by_fits (is_sign "," (symbol mark)) (is_sign ">" (symbol mark)) more type (At (suc at) limit tokens) (At at limit (mark ∷ tokens))

list_then_fits : (more : Cursor → LookAhead TypeTrees) (look : LookAhead TypeTree) → ArgsFits (found_then (λ type behind. list_behind more type behind) look)
list_then_fits more (Found type place) = list_behind_fits more type place
list_then_fits more (Missing place) = tt

list_fits : (turns types : ℕ) (place : Cursor) → ArgsFits (list_ahead turns types place)
list_fits zero types place = tt
list_fits (suc turns) types place = list_then_fits (list_ahead turns types) (type_ahead turns types place)

args_fit : (b : Bool) (turns types at : ℕ) (limit : Option Told) (tokens : List Token) → begins_with "<" tokens ≡ b → ArgsFits (args_by b (list_ahead turns types) (At at limit tokens))
args_fit true turns types at limit [] is = list_fits turns types (At at limit [])
args_fit true turns types at limit (t ∷ tokens) is = list_fits turns types (At (suc at) limit tokens)
args_fit false turns types at limit tokens is = is

-- behind a name alone that is found no `<` stands
abbrev pub NameFits : LookAhead TypeTree → Type 0
NameFits (Found type (At at limit rest)) = (is_name_alone type && begins_with "<" rest) ≡ false
NameFits (Missing place) = Unit {0}

word_fits : (word : TypeWord) (first : Token) (look : LookAhead (List Token)) → NameFits (found_as (Word word first) look)
word_fits word first (Found path (At at limit rest)) = refl
word_fits word first (Missing place) = tt

alone_fits : (first : Token) (tokens : List Token) (look : LookAhead (List Token)) → begins_with "<" tokens ≡ false → PathFits tokens look → NameFits (found_as (Named first NoTypes) look)
alone_fits first tokens (Found [] (At at limit rest)) h p = ap (begins_with "<") p ∙ h
alone_fits first tokens (Found (name ∷ path) (At at limit rest)) h p = refl
alone_fits first tokens (Missing place) h p = tt

generic_fits : (first : Token) (type : TypeTree) (types : TypeTrees) (look : LookAhead (List Token)) → NameFits (found_as (Named first (MoreTypes type types)) look)
generic_fits first type types (Found path (At at limit rest)) = refl
generic_fits first type types (Missing place) = tt

named_fits : (first : Token) (look : LookAhead TypeTrees) → ArgsFits look → NameFits (found_then (λ found after. found_as (Named first found) (path_from after)) look)
named_fits first (Found NoTypes (At at limit rest)) h = alone_fits first rest (path_ahead at limit rest) h (path_fits at limit rest)
named_fits first (Found (MoreTypes type types) (At at limit rest)) h = generic_fits first type types (path_ahead at limit rest)
named_fits first (Missing place) h = tt

type_by_fits : (lead : Lead) (at : ℕ) (limit : Option Told) (tokens : List Token) (args : LookAhead TypeTrees) (first : Token) (place : Cursor) → ArgsFits args → NameFits (type_by lead (At at limit tokens) args first place)
type_by_fits (AWord word) at limit tokens args first place h = word_fits word first (path_ahead at limit tokens)
type_by_fits AName at limit tokens args first place h = named_fits first args h
type_by_fits NoType at limit tokens args first place h = tt

pub type_fits : (turns types at : ℕ) (limit : Option Told) (tokens : List Token) → NameFits (type_ahead turns types (At at limit tokens))
type_fits zero types at limit tokens = tt
type_fits (suc turns) types at limit [] = tt
type_fits (suc turns) types at limit (first ∷ tokens) =
    type_by_fits (lead_of (symbol first)) (suc at) _ tokens _ first (At at limit (first ∷ tokens)) (args_fit (begins_with "<" tokens) turns (suc types) (suc at) _ tokens refl)

pub dotless : {stage : Stage} {types many : ℕ} {rest : List Token} → StopsAt stage types many rest → begins_with "." rest ≡ false
dotless (stops_name d l) = d
dotless (stops_whole d) = d

some_both : (s s' : Stage) (l l' : Option Told) (o : Option (Stage × Option Told)) → o ≡ Some (s, l) → o ≡ Some (s', l') → (s ≡ s') × (l ≡ l')
some_both s s' l l' o h k = both (s, l) (s', l') (sym h ∙ k)
  where
    both : (p q : Stage × Option Told) → Some p ≡ Some q → (p.0 ≡ q.0) × (p.1 ≡ q.1)
    both p q h = let same : p ≡ q = cc in (ap (λ (x : Stage × Option Told). x.0) same, ap (λ (x : Stage × Option Told). x.1) same)

found_same : (look : LookAhead TypeTree) (a b : TypeTree) (p q : Cursor) → look ≡ Found a p → look ≡ Found b q → (a ≡ b) × (p ≡ q)
found_same look a b p q h k = (cc, cc)

reads_same : (a b : TypeTree) (p q : Cursor) (r s : Option FarthestFailure) → Reads a p r ≡ Reads b q s → (a ≡ b) × (p ≡ q)
reads_same a b p q r s h = (cc, cc)

stops_reads : (a : TypeTree) (p : Cursor) (r s : Option FarthestFailure) → Stops r ≡ Reads a p s → ⊥
stops_reads a p r s h = cc

-- what is read as a type is found
pub found_reads : (reach : Option FarthestFailure) (look : LookAhead TypeTree) (type : TypeTree) (place : Cursor) (s : Option FarthestFailure) → look_by reach look ≡ Reads type place s → look ≡ Found type place
found_reads reach (Found a p) type place s h = let same = reads_same a type p place reach s h in ap (λ a. Found a p) same.0 ∙ ap (Found type) same.1
found_reads reach (Missing (At at limit rest)) type place s h = absurd (stops_reads type place _ s h)

module _ (us us' : List Token) (m : ℕ) (end : Ended us) (types at : ℕ) (limit : Option Told) (front : List Token) (reach : Option FarthestFailure) (is : m ≡ at + length front) (noted' : Noted at limit)
    (type : TypeTree) (at' : ℕ) (limit' : Option Told) (rest' : List Token) (tree : IsType (front ++ us') type rest') (fit : type_goes_on type rest' ≡ false)
    (looked : type_ahead (length (front ++ us')) types (At at limit (front ++ us')) ≡ Found type (At at' limit' rest')) (end' : Ended (front ++ us)) where
  abbrev Comes : LookAhead TypeTree → Type 0
  Comes look = Followed us us' m end (look_by reach look) type at' limit' rest'

  -- the tokens of the other type
  pieces : TypePieces types zero at limit (front ++ us') (type_entries types type) rest'
  pieces = type_pieces tree types zero at limit

  place_is : (at' ≡ pieces.pieces.at') × (limit' ≡ pieces.pieces.limit')
  place_is =
      let f = type_found tree fit (length (front ++ us')) types at limit (le_refl (length (front ++ us'))) in
      let one = same_place (found_same (type_ahead (length (front ++ us')) types (At at limit (front ++ us'))) type type (At at' limit' rest') (At f.at f.limit rest') looked f.found).1 in
      let two = same_place (sym f.passes ∙ pieces.pieces.passes) in
      (one.0 ∙ two.0, one.1 ∙ two.1)

  -- the other type goes over the front: what is told at the end of the front stays so
  grown : (more : List Token) → pieces.pieces.piece ≡ front ++ more → (s : Stage) (l : Option Told) → drive (Head types zero) at limit front ≡ Some (s, l) → before m limit' ≡ before m l
  grown more piece s l h =
      let f = drive_front (Head types zero) pieces.stage at limit pieces.pieces.limit' front more (subst (λ ts. drive (Head types zero) at limit ts ≡ Some (pieces.stage, pieces.pieces.limit')) piece pieces.pieces.drives.is) in
      let both = some_both f.0 s f.1 l (drive (Head types zero) at limit front) f.2 h in
      let g : Grows (at + length front) l pieces.pieces.limit' = subst (λ l. Grows (at + length front) l pieces.pieces.limit') both.1 (drive_grows f.0 pieces.stage (at + length front) f.1 pieces.pieces.limit' more f.3) in
      ap (before m) place_is.1 ∙ before_same (at + length front) m l pieces.pieces.limit' (omega (arith, is)) g

  upto : (more : List Token) → pieces.pieces.piece ≡ front ++ more → m ≤ at'
  upto more piece = omega (arith, is, place_is.0, pieces.pieces.is_at, ap length piece, length-append front more)

  -- a type that ends in the front does so before other tokens too
  stays : (a : ℕ) (l : Option Told) (type2 : TypeTree) (piece : List Token) (u : Token) (mid : List Token) → front ≡ piece ++ u ∷ mid → IsType (front ++ us) type2 (u ∷ (mid ++ us)) → type_goes_on type2 (u ∷ (mid ++ us)) ≡ false
      → front ++ us ≡ piece ++ u ∷ (mid ++ us) → IsType (front ++ us') type2 (u ∷ (mid ++ us'))
  stays a l type2 piece u mid front_is tree2 fit2 are =
      let s = type_stable tree2 in
      let same = cancel s.piece piece (u ∷ (mid ++ us)) (sym s.are ∙ are) in
      subst (λ ts. IsType ts type2 (u ∷ (mid ++ us'))) (ap (λ piece. piece ++ u ∷ (mid ++ us')) same ∙ sym (append_assoc piece (u ∷ mid) us') ∙ ap (λ ts. ts ++ us') (sym front_is)) (s.stable (u ∷ (mid ++ us')))

  found_inside : (type2 : TypeTree) (a : ℕ) (l : Option Told) (piece : List Token) (u : Token) (mid : List Token) → front ≡ piece ++ u ∷ mid → IsType (front ++ us) type2 (u ∷ (mid ++ us)) → type_goes_on type2 (u ∷ (mid ++ us)) ≡ false
      → front ++ us ≡ piece ++ u ∷ (mid ++ us) → m ≤ at' → ⊥
  found_inside type2 a l piece u mid front_is tree2 fit2 are far =
      let tree2' = stays a l type2 piece u mid front_is tree2 fit2 are in
      let f = type_found tree2' fit2 (length (front ++ us')) types at limit (le_refl (length (front ++ us'))) in
      let p = type_pieces tree2' types zero at limit in
      let one = same_place (found_same (type_ahead (length (front ++ us')) types (At at limit (front ++ us'))) type type2 (At at' limit' rest') (At f.at f.limit (u ∷ (mid ++ us'))) looked f.found).1 in
      let two = same_place (sym f.passes ∙ p.pieces.passes) in
      let long : length (front ++ us') ≡ length p.pieces.piece + length (u ∷ (mid ++ us')) = ap length p.pieces.are ∙ length-append p.pieces.piece (u ∷ (mid ++ us')) in
      omega (arith, far, is, one.0, two.0, p.pieces.is_at, long, length-append front us', length-append mid us')

  -- where the look here ends
  found_by : (type2 : TypeTree) (a : ℕ) (l : Option Told) (r : List Token) (p : PathLook types zero (Head types zero) at limit (front ++ us) (Found type2 (At a l r))) (more : List Token) → pieces.pieces.piece ≡ front ++ more
      → IsType (front ++ us) type2 r → type_goes_on type2 r ≡ false → Noted a l → Splits p.alive.piece r front us → Comes (Found type2 (At a l r))
  found_by type2 a l r p more piece tree2 fit2 n (longer [] piece_is rest_is) =
      let same_piece = piece_is ∙ append-nil front in
      let here : a ≡ m = omega (arith, p.alive.is_at, ap length same_piece, is) in
      ends_here type2 l reach (upto more piece) (subst (λ a. Noted a l) here n)
      (grown more piece p.stage' l (subst (λ ts. drive (Head types zero) at limit ts ≡ Some (p.stage', l)) same_piece p.alive.drives.is))
      (ap (λ a. Reads type2 (At a l r) reach) here ∙ ap (λ r. Reads type2 (At m l r) reach) (sym rest_is))
  found_by type2 a l r p more piece tree2 fit2 n (longer (u ∷ mid) piece_is rest_is) =
      past (λ w many. (ended_alive p.alive end', inr (omega (arith, many, p.alive.is_at, ap length piece_is, length-append front (u ∷ mid), is))))
  found_by type2 a l r p more piece tree2 fit2 n (shorter u mid front_is rest_is) =
      absurd (found_inside type2 a l p.alive.piece u mid front_is (subst (IsType (front ++ us) type2) rest_is tree2) (subst (λ r. type_goes_on type2 r ≡ false) rest_is fit2) (p.alive.are ∙ ap (λ r. p.alive.piece ++ r) rest_is) (upto more piece))

  missing_by : (a : ℕ) (l : Option Told) (r : List Token) (p : PathLook types zero (Head types zero) at limit (front ++ us) {A = TypeTree} (Missing (At a l r))) (more : List Token) → pieces.pieces.piece ≡ front ++ more
      → Splits p.alive.piece r front us → Comes (Missing (At a l r))
  missing_by a l r p more piece (longer [] piece_is rest_is) =
      let same_piece = piece_is ∙ append-nil front in
      let here : a ≡ m = omega (arith, p.alive.is_at, ap length same_piece, is) in
      let limits = grown more piece p.stage' l (subst (λ ts. drive (Head types zero) at limit ts ≡ Some (p.stage', l)) same_piece p.alive.drives.is) in
      told (upto more piece)
      (λ w way.
      let way' = way_same us us' m end limit' l w limits way in
      let same_way : reach_at None 0 (At a (before a l) r) ≡ Some w = ap (λ a. reach_at None 0 (At a (before a l) r)) here ∙ ap (λ r. reach_at None 0 (At m (before m l) r)) (sym rest_is) ∙ way_is m l us w way' in
      subst (λ o. Above w (further reach o)) (sym same_way) (above_second reach w))
  missing_by a l r p more piece (longer (u ∷ mid) piece_is rest_is) =
      past (λ w many. stop_way w None 0 a (before a l) r reach (ended_alive p.alive end') (inr (omega (arith, many, p.alive.is_at, ap length piece_is, length-append front (u ∷ mid), is))))
  missing_by a l r p more piece (shorter u mid front_is rest_is) =
      let onto : pieces.pieces.piece ≡ p.alive.piece ++ u ∷ (mid ++ more) = piece ∙ ap (λ ts. ts ++ more) front_is ∙ append_assoc p.alive.piece (u ∷ mid) more in
      let f = drive_front (Head types zero) pieces.stage at limit pieces.pieces.limit' p.alive.piece (u ∷ (mid ++ more)) (subst (λ ts. drive (Head types zero) at limit ts ≡ Some (pieces.stage, pieces.pieces.limit')) onto pieces.pieces.drives.is) in
      let both = some_both f.0 p.stage' f.1 l (drive (Head types zero) at limit p.alive.piece) f.2 p.alive.drives.is in
      let first = drive_first f.0 pieces.stage (at + length p.alive.piece) f.1 pieces.pieces.limit' u (mid ++ more) f.3 in
      absurd (dead_some p.stage' u (mid ++ us) r rest_is p.dead first.0 (subst (λ s. next s (symbol u) ≡ Some first.0) both.0 first.1))
    where
      dead_some : (s : Stage) (u : Token) (ts r : List Token) → r ≡ u ∷ ts → Dead s r → (s' : Stage) → next s (symbol u) ≡ Some s' → ⊥
      dead_some s u ts [] is d s' h = cc
      dead_some s u ts (v ∷ r) is d s' h = let first : v ≡ u = cc in let none : next s (symbol u) ≡ None = subst (λ (v : Token). next s (symbol v) ≡ None) first d.0 in cc

  over_by : (look : LookAhead TypeTree) → type_ahead (length (front ++ us)) types (At at limit (front ++ us)) ≡ look → PathLook types zero (Head types zero) at limit (front ++ us) look → SoundLook IsType (front ++ us) look → NameFits look
      → LookRises at limit look → (more : List Token) → pieces.pieces.piece ≡ front ++ more → Comes look
  over_by (Found type2 (At a l r)) look_is p tree2 n rises more piece =
      found_by type2 a l r p more piece tree2 (or_from _ _ (dotless p.stops) n) rises.2 (splits p.alive.piece r front us (sym p.alive.are))
  over_by (Missing (At a l r)) look_is p tree2 n rises more piece = missing_by a l r p more piece (splits p.alive.piece r front us (sym p.alive.are))

  by_pieces : Splits pieces.pieces.piece rest' front us' → Comes (type_ahead (length (front ++ us)) types (At at limit (front ++ us)))
  by_pieces (longer more piece_is rest_is) =
      over_by (type_ahead (length (front ++ us)) types (At at limit (front ++ us))) refl (type_looks (length (front ++ us)) types zero at limit (front ++ us) (le_refl (length (front ++ us))) end')
      (type_sound (length (front ++ us)) types at limit (front ++ us)) (type_fits (length (front ++ us)) types at limit (front ++ us)) (type_rises (length (front ++ us)) types at limit (front ++ us) noted') more piece_is
  by_pieces (shorter u mid front_is rest_is) =
      let piece = pieces.pieces.piece in
      let s = type_stable tree in
      let same_piece = cancel s.piece piece rest' (sym s.are ∙ pieces.pieces.are) in
      let here_is : piece ++ u ∷ (mid ++ us) ≡ front ++ us = sym (append_assoc piece (u ∷ mid) us) ∙ ap (λ ts. ts ++ us) (sym front_is) in
      let tree2 : IsType (front ++ us) type (u ∷ (mid ++ us)) = subst (λ ts. IsType ts type (u ∷ (mid ++ us))) (ap (λ piece. piece ++ u ∷ (mid ++ us)) same_piece ∙ here_is) (s.stable (u ∷ (mid ++ us))) in
      let fit2 : type_goes_on type (u ∷ (mid ++ us)) ≡ false = subst (λ r. type_goes_on type r ≡ false) rest_is fit in
      let f = type_found tree2 fit2 (length (front ++ us)) types at limit (le_refl (length (front ++ us))) in
      let p = type_pieces tree2 types zero at limit in
      let piece_same = cancel p.pieces.piece piece (u ∷ (mid ++ us)) (sym p.pieces.are ∙ sym here_is) in
      let two = same_place (sym f.passes ∙ p.pieces.passes) in
      let drives = some_both p.stage pieces.stage p.pieces.limit' pieces.pieces.limit' (drive (Head types zero) at limit piece) (subst (λ ts. drive (Head types zero) at limit ts ≡ Some (p.stage, p.pieces.limit')) piece_same p.pieces.drives.is) pieces.pieces.drives.is in
      let at_same : f.at ≡ at' = omega (arith, two.0, p.pieces.is_at, ap length piece_same, place_is.0, pieces.pieces.is_at) in
      let limit_same : f.limit ≡ limit' = two.1 ∙ drives.1 ∙ sym place_is.1 in
      same (length (u ∷ mid)) (u ∷ (mid ++ us)) reach (omega (arith, is, place_is.0, pieces.pieces.is_at, ap length front_is, length-append piece (u ∷ mid)))
      (subst (Share us us' m end (length (u ∷ mid)) (u ∷ (mid ++ us))) (sym rest_is) (front_share us us' m end (u ∷ mid)))
      (ap (look_by reach) f.found ∙ ap (λ a. Reads type (At a f.limit (u ∷ (mid ++ us))) reach) at_same ∙ ap (λ l. Reads type (At at' l (u ∷ (mid ++ us))) reach) limit_same)

  -- a type before the same front
  pub front_type : Followed us us' m end (look_by reach (type_ahead (length (front ++ us)) types (At at limit (front ++ us)))) type at' limit' rest'
  front_type = by_pieces (splits pieces.pieces.piece rest' front us' (sym pieces.pieces.are))
